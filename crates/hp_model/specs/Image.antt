-- What memory holds before the machine starts (own rule): the marks of the relocated handler and of the monarch in their cells, and release bytes.
use Rattle.std.specs.Prelude.{ℕ, zero, suc, ◌-◌, List, [], ◌∷◌, length}
use Rattle.hp_model.specs.declared.platforms.Platform.{Platform}
use Rattle.hp_model.specs.declared.labels.Label.{Label}
use Rattle.hp_model.specs.declared.labels.Label.TheVariants.{R1, R2, R3, R4, R5, R6, S0, S1, S2, S3, S4, C1, C2, C3, C4, C5, C6, NB, N0, N1, N2, N3, N4, N5, N6, N7, N8a, N8b, N9, N10, N11, E0, E1, E2, E3, E4a, E4b, E4c, E4d, E4e, E4f, E4g, E4h, T, E5, E6, E7}
use Rattle.hp_model.specs.Platform.{count_of}
use Rattle.hp_model.specs.Memory.{Write, write_of}
use Rattle.hp_model.specs.Labels.{mark_of, cell_of}
use Rattle.hp_model.specs.SharedBytes.{layout_of, release_byte}

abbrev pub relocated_labels : List Label
relocated_labels = R1 ∷ R2 ∷ R3 ∷ R4 ∷ R5 ∷ R6 ∷ []

abbrev pub monarch_labels : List Label
monarch_labels =
    S0 ∷ S1 ∷ S2 ∷ S3 ∷ S4 ∷ C1 ∷ C2 ∷ C3 ∷ C4 ∷ C5 ∷ C6
    ∷ NB ∷ N0 ∷ N1 ∷ N2 ∷ N3 ∷ N4 ∷ N5 ∷ N6 ∷ N7 ∷ N8a ∷ N8b ∷ N9 ∷ N10 ∷ N11
    ∷ E0 ∷ E1 ∷ E2 ∷ E3 ∷ E4a ∷ E4b ∷ E4c ∷ E4d ∷ E4e ∷ E4f ∷ E4g ∷ E4h ∷ T ∷ E5 ∷ E6 ∷ E7 ∷ []

-- the marks of these labels, each in its cell of the slot
unfoldable pub with_cells : Platform → ℕ → List Label → List Write → List Write
with_cells p slot [] ws = ws
with_cells p slot (l ∷ ls) ws = with_cells p slot ls (write_of (cell_of p l slot) 4 (mark_of l) ∷ ws)

-- the relocated handler in the tiles of the slots from 1 to n
unfoldable pub with_tiles : Platform → ℕ → List Write → List Write
with_tiles p zero ws = ws
with_tiles p (suc n) ws = with_cells p (suc n) relocated_labels (with_tiles p n ws)

-- 1 in the release bytes of the slots from 1 to n
unfoldable pub with_releases : Platform → ℕ → List Write → List Write
with_releases p zero ws = ws
with_releases p (suc n) ws = write_of (release_byte (layout_of p) (suc n)) 1 1 ∷ with_releases p n ws

-- each slot that a processor may get has its tile; boot processors from slot 1 on may leave SMM
unfoldable pub image : Platform → List Write
image p = with_releases p (length p.boot - 1) (with_cells p 0 monarch_labels (with_tiles p (count_of p - 1) []))
