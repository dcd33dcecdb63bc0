-- One more store of the image.
use Rattle.std.proofs.Common.{◌≡◌, ℕ, zero, suc, true, ◌+◌, ◌-◌, ◌<◌, ◌≤◌, List, [], ◌∷◌, ◌++◌, length, drop, get_or, refl, sym, ap, ◌∙◌, drop-cons, add-one, arith}
use Rattle.std.proofs.lemmas.List.{drop_all}
use Rattle.std.proofs.lemmas.Bool.Decides.{nat_tests}
use Rattle.std.proofs.lemmas.Grind.{common_steps}
use Rattle.hp_model.specs.declared.labels.Label.{Label}
use Rattle.hp_model.specs.declared.platforms.Platform.{Platform}
use Rattle.hp_model.specs.declared.labels.Handler.{Handler}
use Rattle.hp_model.specs.declared.labels.Handler.TheVariants.{First, Relocated, Monarch}
use Rattle.hp_model.specs.Labels.{cell_of, mark_of, handler_of}
use Rattle.hp_model.specs.Image.{image, monarch_labels, relocated_labels, with_cells, with_releases, with_tiles}
use Rattle.hp_model.specs.Memory.{Write, write_of}
use Rattle.hp_model.specs.Platform.{IsFit, count_of}
use Rattle.hp_model.specs.SharedBytes.{layout_of, release_byte}
use Rattle.hp_model.proofs.FitPlatforms.{apic_few, boot_few}
use Rattle.hp_image.specs.declared.stores.Cell.{Cell}
use Rattle.hp_image.specs.Cells.{is_width, cell_fits, cells_fit, stored_cells}
use Rattle.hp_image.specs.Handlers.{smbase_in}
use Rattle.hp_image.proofs.Tiles.{in_tile, tile_inside}
use Rattle.hp_image.proofs.Writes.{fit_in_order, stored_in_order}

pub push_stored : (cs : List Cell) (c : Cell) → stored_cells (cs ++ c ∷ []) [] ≡ write_of c.addr c.width c.value ∷ stored_cells cs []
unfolding stored_cells
push_stored cs c = stored_in_order cs (c ∷ []) []

pub push_fit : (low : ℕ) (cs : List Cell) (c : Cell) → cell_fits low c ≡ true → cells_fit low (cs ++ c ∷ []) ≡ cells_fit low cs
push_fit low cs c h = fit_in_order low cs (c ∷ []) ∙ grind (arith, nat_tests, common_steps, h)

handler_inside : (p : Platform) (h : Handler) (slot : ℕ) → IsFit p → slot < count_of p → smbase_in p h slot + 0x10000 ≤ p.low_memory
handler_inside p First slot fit h = grind (arith, nat_tests, fit)
handler_inside p Relocated slot fit h = (tile_inside p slot fit h).1
handler_inside p Monarch slot fit h = (tile_inside p 0 fit (omega (arith, h))).1

pub cell_inside : (p : Platform) (l : Label) (slot : ℕ) → IsFit p → slot < count_of p → cell_of p l slot + 4 ≤ p.low_memory
cell_inside p l slot fit h = omega (arith, (in_tile p l slot).1, handler_inside p (handler_of l) slot fit h)

pub release_inside : (p : Platform) (slot : ℕ) → IsFit p → slot < count_of p → release_byte (layout_of p) slot + 1 ≤ p.low_memory
release_inside p slot fit h = grind (arith, nat_tests, fit, tile_inside p slot fit h)

-- one more cell that ends below the end of RAM
push_inside : (low : ℕ) (cs : List Cell) (c : Cell) → is_width c.width ≡ true → c.addr + c.width ≤ low → cells_fit low (cs ++ c ∷ []) ≡ cells_fit low cs
push_inside low cs c width to = push_fit low cs c (grind (arith, nat_tests, common_steps, width, to))

pub mark_fits : (p : Platform) (l : Label) (slot addr value : ℕ) (cs : List Cell) → IsFit p → slot < count_of p → addr ≡ cell_of p l slot →
    cells_fit p.low_memory (cs ++ record { addr = addr; width = 4; value = value } ∷ []) ≡ cells_fit p.low_memory cs
mark_fits p l slot addr value cs fit h is =
    push_inside p.low_memory cs (record { addr = addr; width = 4; value = value }) refl (rw is (cell_inside p l slot fit h))

pub release_fits : (p : Platform) (slot addr value : ℕ) (cs : List Cell) → IsFit p → slot < count_of p → addr ≡ release_byte (layout_of p) slot →
    cells_fit p.low_memory (cs ++ record { addr = addr; width = 1; value = value } ∷ []) ≡ cells_fit p.low_memory cs
release_fits p slot addr value cs fit h is =
    push_inside p.low_memory cs (record { addr = addr; width = 1; value = value }) refl (rw is (release_inside p slot fit h))

-- one more label's mark
pub cells_more : (p : Platform) (slot k : ℕ) (ls : List Label) (d : Label) (ws : List Write) → k < length ls →
    with_cells p slot (drop k ls) ws ≡ with_cells p slot (drop (k + 1) ls) (write_of (cell_of p (get_or ls k d) slot) 4 (mark_of (get_or ls k d)) ∷ ws)
unfolding with_cells
cells_more p slot k ls d ws h =
    ap (λ (rest : List Label). with_cells p slot rest ws) (drop-cons ls k d h)
    ∙ ap (λ (n : ℕ). with_cells p slot (drop n ls) (write_of (cell_of p (get_or ls k d) slot) 4 (mark_of (get_or ls k d)) ∷ ws)) (sym (add-one k))

pub cells_done : (p : Platform) (slot k : ℕ) (ls : List Label) (ws : List Write) → length ls ≤ k → with_cells p slot (drop k ls) ws ≡ ws
unfolding with_cells
cells_done p slot k ls ws h = ap (λ (rest : List Label). with_cells p slot rest ws) (drop_all k ls h)

-- one more tile, one more release byte
pub tiles_more : (p : Platform) (slot : ℕ) (ws : List Write) → 0 < slot →
    with_tiles p (slot + 1 - 1) ws ≡ with_cells p slot relocated_labels (with_tiles p (slot - 1) ws)
unfolding with_tiles
tiles_more p zero ws h = absurd (omega (arith, h))
tiles_more p (suc n) ws h =
    let e : suc n + 1 - 1 ≡ suc n = omega arith in
    let f : suc n - 1 ≡ n = omega arith in rw (e, f) refl

pub releases_more : (p : Platform) (slot : ℕ) (ws : List Write) → 0 < slot →
    with_releases p (slot + 1 - 1) ws ≡ write_of (release_byte (layout_of p) slot) 1 1 ∷ with_releases p (slot - 1) ws
unfolding with_releases
releases_more p zero ws h = absurd (omega (arith, h))
releases_more p (suc n) ws h =
    let e : suc n + 1 - 1 ≡ suc n = omega arith in
    let f : suc n - 1 ≡ n = omega arith in rw (e, f) refl

pub tiles_none : (p : Platform) (ws : List Write) → with_tiles p 0 ws ≡ ws
unfolding with_tiles
tiles_none p ws = refl

pub releases_none : (p : Platform) (ws : List Write) → with_releases p 0 ws ≡ ws
unfolding with_releases
releases_none p ws = refl

-- tiles, then the monarch, then release bytes
pub image_stored : (p : Platform) (none tiles marks all : List Cell) → none ≡ [] →
    stored_cells tiles [] ≡ with_tiles p (count_of p - 1) (stored_cells none []) →
    stored_cells marks [] ≡ with_cells p 0 monarch_labels (stored_cells tiles []) →
    stored_cells all [] ≡ with_releases p (length p.boot - 1) (stored_cells marks []) →
    stored_cells all [] ≡ image p
unfolding stored_cells image
image_stored p none tiles marks all e t m r =
    let first : with_tiles p (count_of p - 1) (stored_cells none []) ≡ with_tiles p (count_of p - 1) [] = rw e refl in
    r ∙ ap (λ (ws : List Write). with_releases p (length p.boot - 1) ws) (m ∙ ap (λ (ws : List Write). with_cells p 0 monarch_labels ws) (t ∙ first))

pub ruleset marks_more = (cells_more, cells_done)

pub ruleset tiles_facts = (tiles_more, tiles_none, apic_few)

pub ruleset releases_facts = (releases_more, releases_none, apic_few, boot_few)
