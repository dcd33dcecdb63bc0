-- Neither the image nor the boot's stores put anything in a release byte of a slot that no boot processor has.
use Rattle.std.proofs.Common.{ℕ, zero, suc, ◌≡◌, ◌+◌, ◌-◌, ◌*◌, ◌<◌, ◌≤◌, ◌⊎◌, inl, inr, Bool, true, false, ◌&&◌, nat_lt, nat_le, List, [], ◌∷◌, length, refl, ◌∙◌, arith}
use Rattle.std.proofs.lemmas.Bool.Decides.{nat_tests}
use Rattle.hp_model.specs.declared.platforms.Platform.{Platform}
use Rattle.hp_model.specs.declared.labels.Label.{Label}
use Rattle.hp_model.specs.Platform.{tseg, count_of}
use Rattle.hp_model.specs.Memory.{Write, covers, byte_at, write_of}
use Rattle.hp_model.specs.declared.labels.Handler.{Handler}
use Rattle.hp_model.specs.declared.labels.Handler.TheVariants.{First, Relocated, Monarch as Monarchs}
use Rattle.hp_model.specs.Labels.{handler_of, index_of, first_cell, cell_of, mark_of}
use Rattle.hp_model.specs.SharedBytes.{layout_of, release_byte}
use Rattle.hp_model.specs.Image.{relocated_labels, monarch_labels, with_cells, with_tiles, with_releases, image}
use Rattle.hp_model.proofs.Bytes.{length-bytes_of}
use Rattle.hp_sealed.specs.Left.{Sound}
use Rattle.hp_sealed.specs.Booting.{memory_after, more_if}
use Rattle.hp_sealed.proofs.Left.{left_more}
use Rattle.hp_model.proofs.Marks.{index_small}
use Rattle.hp_sealed.proofs.Starts.{sound}
use Rattle.hp_exact.proofs.Releasing.{from_1000, to_2000}

-- the image has nothing in these bytes
misses : (a n v x : ℕ) → (a + n ≤ x) ⊎ (x < a) → covers (write_of a n v) x ≡ false
misses a n v x h = let e = length-bytes_of n v in rw e (plain a n x h)
  where
    plain : (a n x : ℕ) → (a + n ≤ x) ⊎ (x < a) → (nat_le a x && nat_lt x (a + n)) ≡ false
    plain a n x (inl g) = grind (arith, nat_tests)
    plain a n x (inr g) = grind (arith, nat_tests)

cells_leave : (p : Platform) (slot x : ℕ) (ls : List Label) (ws : List Write) → Sound p → tseg p + 0x1000 ≤ x → x < tseg p + 0x2000 → byte_at (with_cells p slot ls ws) x ≡ byte_at ws x
unfolding with_cells
cells_leave p slot x [] ws sound from to = refl
cells_leave p slot x (l ∷ ls) ws sound from to =
    cells_leave p slot x ls (write_of (cell_of p l slot) 4 (mark_of l) ∷ ws) sound from to
    ∙ (left_more x (write_of (cell_of p l slot) 4 (mark_of l)) ws (misses (cell_of p l slot) 4 (mark_of l) x (by_handler (handler_of l)))).byte
  where
    small : index_of l ≤ 40
    small = index_small l

    above : 0x800000 ≤ tseg p
    above = sound.above

    by_handler : (q : Handler) → (first_cell p q slot + 4 * index_of l + 4 ≤ x) ⊎ (x < first_cell p q slot + 4 * index_of l)
    by_handler First = inl (omega (arith, small, above, from))
    by_handler Relocated = inr (omega (arith, to))
    by_handler Monarchs = inr (omega (arith, to))

tiles_leave : (p : Platform) (n x : ℕ) (ws : List Write) → Sound p → tseg p + 0x1000 ≤ x → x < tseg p + 0x2000 → byte_at (with_tiles p n ws) x ≡ byte_at ws x
unfolding with_tiles
tiles_leave p zero x ws sound from to = refl
tiles_leave p (suc n) x ws sound from to = cells_leave p (suc n) x relocated_labels (with_tiles p n ws) sound from to ∙ tiles_leave p n x ws sound from to

releases_leave : (p : Platform) (n slot : ℕ) (ws : List Write) → n < slot → byte_at (with_releases p n ws) (release_byte (layout_of p) slot) ≡ byte_at ws (release_byte (layout_of p) slot)
unfolding with_releases
releases_leave p zero slot ws less = refl
releases_leave p (suc n) slot ws less =
    (left_more (release_byte (layout_of p) slot) (write_of (release_byte (layout_of p) (suc n)) 1 1) (with_releases p n ws)
    (misses (release_byte (layout_of p) (suc n)) 1 1 (release_byte (layout_of p) slot) (inl (omega (arith, less))))).byte
    ∙ releases_leave p n slot ws (omega (arith, less))

pub image_none : (p : Platform) (slot : ℕ) → Sound p → 1 ≤ slot → length p.boot ≤ slot → slot < 0x1000 → byte_at (image p) (release_byte (layout_of p) slot) ≡ 0
unfolding image
image_none p slot sound some past small =
    let x = release_byte (layout_of p) slot in
    releases_leave p (length p.boot - 1) slot _ (omega (arith, some, past))
    ∙ (cells_leave p 0 x monarch_labels (with_tiles p (count_of p - 1) []) sound (from_1000 (tseg p) slot) (to_2000 (tseg p) slot small)
    ∙ tiles_leave p (count_of p - 1) x [] sound (from_1000 (tseg p) slot) (to_2000 (tseg p) slot small))

-- and neither have the boot's own stores
more_leaves : (b : Bool) (a n v x : ℕ) (ws : List Write) → a + n ≤ x → byte_at (more_if b a n v ws) x ≡ byte_at ws x
more_leaves true a n v x ws low = (left_more x (write_of a n v) ws (misses a n v x (inl low))).byte
more_leaves false a n v x ws low = refl

pub memory_none : (p : Platform) (n x : ℕ) → 0x800000 ≤ x → byte_at (memory_after p n) x ≡ byte_at (image p) x
memory_none p n x high =
    more_leaves (nat_lt 13 n) 0x30000 8 _ x _ (omega (arith, high)) ∙ (more_leaves (nat_lt 12 n) 0x38014 4 _ x _ (omega (arith, high)) ∙ (more_leaves (nat_lt 11 n) 0x38010 4 _ x _ (omega (arith, high)) ∙ (more_leaves (nat_lt 10 n) 0x3800c 4 _ x _ (omega (arith, high))
    ∙ (more_leaves (nat_lt 9 n) 0x38008 4 _ x _ (omega (arith, high)) ∙ (more_leaves (nat_lt 8 n) 0x38004 4 _ x _ (omega (arith, high)) ∙ (more_leaves (nat_lt 7 n) 0x38000 4 _ x _ (omega (arith, high)) ∙ more_leaves (nat_lt 6 n) 0x9f000 4 _ x _ (omega (arith, high))))))))
