-- What memory holds once TSEG is locked: each handler's marks in its cells, and the closed gate.
use Rattle.std.proofs.Common.{ℕ, zero, suc, ◌≡◌, ◌≢◌, ◌+◌, ◌-◌, ◌*◌, ◌<◌, ◌≤◌, ◌==◌, ◌⊎◌, inl, inr, Bool, true, false, not, ◌&&◌, ◌||◌, nat_lt, nat_le, List, [], ◌∷◌, length, refl, sym, subst, ◌∙◌, arith}
use Rattle.std.specs.List.{list_all, list_any}
use Rattle.std.proofs.lemmas.Bool.{and_parts, eqb-true, cases_eq, cases_order}
use Rattle.std.proofs.lemmas.Bool.Decides.{nat_tests}
use Rattle.hp_model.specs.declared.platforms.Platform.{Platform}
use Rattle.hp_model.specs.declared.labels.Label.{Label}
use Rattle.hp_model.specs.declared.labels.Label.TheVariants.{F1, F2, F3, F4, F5, F6}
use Rattle.hp_model.specs.Platform.{tseg, tile, count_of}
use Rattle.hp_model.specs.Memory.{Write, byte_at, bytes_of, value_from, write_of}
use Rattle.hp_model.specs.declared.labels.Handler.{Handler}
use Rattle.hp_model.specs.declared.labels.Handler.TheVariants.{First, Relocated, Monarch}
use Rattle.hp_model.specs.Labels.{handler_of, index_of, mark_of, first_cell, cell_of}
use Rattle.hp_model.specs.SharedBytes.{layout_of, release_byte, gate, closed}
use Rattle.hp_model.specs.Image.{relocated_labels, monarch_labels, with_cells, with_tiles, with_releases, image}
use Rattle.hp_model.specs.Handlers.{runs_at, address_of_label}
use Rattle.hp_model.proofs.Bytes.{length-bytes_of}
use Rattle.hp_sealed.specs.Left.{Sound}
use Rattle.hp_sealed.specs.Sealed.{is_other_tile, Holds}
use Rattle.hp_sealed.specs.Booting.{memory_after, is_set_up}
use Rattle.hp_sealed.proofs.Left.{left_more}
use Rattle.hp_model.proofs.Marks.{same_label, index_small, mark_small}
use Rattle.hp_sealed.proofs.Labels.{among_relocated, among_monarch}
use Rattle.hp_sealed.proofs.Values.{value_same, value_written, value_apart}
use Rattle.hp_sealed.proofs.Places.{slot_of, kept_cell, kept_set_up, gate_set_up}

abbrev is_handler : Handler → Handler → Bool
is_handler First First = true
is_handler First Relocated = false
is_handler First Monarch = false
is_handler Relocated First = false
is_handler Relocated Relocated = true
is_handler Relocated Monarch = false
is_handler Monarch First = false
is_handler Monarch Relocated = false
is_handler Monarch Monarch = true

same_handler : (a b : Handler) → is_handler a b ≡ true → a ≡ b
same_handler First First e = refl
same_handler First Relocated e = absurd cc
same_handler First Monarch e = absurd cc
same_handler Relocated First e = absurd cc
same_handler Relocated Relocated e = refl
same_handler Relocated Monarch e = absurd cc
same_handler Monarch First e = absurd cc
same_handler Monarch Relocated e = absurd cc
same_handler Monarch Monarch e = refl

less_or : (a b : ℕ) → a ≢ b → (a < b) ⊎ (b < a)
less_or a b n = elim (cases_order a b) [ inl e ↦ absurd (n e) | inr o ↦ o ]

-- of one handler, labels with other marks have other cells
other_cell : (p : Platform) (k : ℕ) (l m : Label) → handler_of m ≡ handler_of l → mark_of m ≢ mark_of l → (cell_of p m k + 4 ≤ cell_of p l k) ⊎ (cell_of p l k + 4 ≤ cell_of p m k)
other_cell p k l m same n =
    let start : first_cell p (handler_of m) k ≡ first_cell p (handler_of l) k = rw same refl in
    plain (first_cell p (handler_of m) k) (first_cell p (handler_of l) k) (index_of m) (index_of l) start
    (λ e. n (rw (same, e) refl))
  where
    plain : (a b i j : ℕ) → a ≡ b → i ≢ j → (a + 4 * i + 4 ≤ b + 4 * j) ⊎ (b + 4 * j + 4 ≤ a + 4 * i)
    plain a b i j e n = elim (less_or i j n) [ inl h ↦ inl (omega (arith, h, e)) | inr h ↦ inr (omega (arith, h, e)) ]

unlike : (a b : ℕ) → (a == b) ≡ false → a ≡ b → ⊥
unlike a b e f = grind (arith, nat_tests)

-- the marks of one handler's labels stand in their cells
cells_hold : (p : Platform) (k : ℕ) (ls : List Label) (ws : List Write) (l : Label) → list_all (λ m. is_handler (handler_of m) (handler_of l)) ls ≡ true → (list_any (λ m. mark_of m == mark_of l) ls ≡ true) ⊎ (value_from (byte_at ws) (cell_of p l k) 4 ≡ mark_of l) → value_from (byte_at (with_cells p k ls ws)) (cell_of p l k) 4 ≡ mark_of l
unfolding with_cells
cells_hold p k [] ws l all (inl e) = absurd cc
cells_hold p k [] ws l all (inr e) = e
cells_hold p k (m ∷ ms) ws l all h =
    let parts = and_parts (is_handler (handler_of m) (handler_of l)) (list_all (λ m. is_handler (handler_of m) (handler_of l)) ms) all in
    by_mark parts.0 (mark_of m == mark_of l) refl h (λ g. cells_hold p k ms (write_of (cell_of p m k) 4 (mark_of m) ∷ ws) l parts.1 g)
  where
    by_mark : is_handler (handler_of m) (handler_of l) ≡ true → (b : Bool) → (mark_of m == mark_of l) ≡ b → ((b || list_any (λ m. mark_of m == mark_of l) ms) ≡ true) ⊎ (value_from (byte_at ws) (cell_of p l k) 4 ≡ mark_of l) → ((list_any (λ m. mark_of m == mark_of l) ms ≡ true) ⊎ (value_from (byte_at (write_of (cell_of p m k) 4 (mark_of m) ∷ ws)) (cell_of p l k) 4 ≡ mark_of l) → value_from (byte_at (with_cells p k ms (write_of (cell_of p m k) 4 (mark_of m) ∷ ws))) (cell_of p l k) 4 ≡ mark_of l) → value_from (byte_at (with_cells p k ms (write_of (cell_of p m k) 4 (mark_of m) ∷ ws))) (cell_of p l k) 4 ≡ mark_of l
    by_mark side true is g rest =
        let e : m ≡ l = same_label m l (grind (arith, nat_tests)) in
        rest (inr (subst (λ n. value_from (byte_at (write_of (cell_of p m k) 4 (mark_of m) ∷ ws)) (cell_of p n k) 4 ≡ mark_of n) e (value_written (cell_of p m k) (mark_of m) ws (mark_small m))))
    by_mark side false is (inl g) rest = rest (inl g)
    by_mark side false is (inr g) rest = rest (inr (value_apart (cell_of p m k) (cell_of p l k) 4 (mark_of m) ws (other_cell p k l m (same_handler (handler_of m) (handler_of l) side) (λ e. unlike (mark_of m) (mark_of l) is e)) ∙ g))

-- a value that lies apart from all cells of a handler in a slot is left
cells_apart : (p : Platform) (j : ℕ) (q : Handler) (b : ℕ) (ls : List Label) (ws : List Write) → list_all (λ m. is_handler (handler_of m) q) ls ≡ true → ((m : Label) → handler_of m ≡ q → (cell_of p m j + 4 ≤ b) ⊎ (b + 4 ≤ cell_of p m j)) → value_from (byte_at (with_cells p j ls ws)) b 4 ≡ value_from (byte_at ws) b 4
unfolding with_cells
cells_apart p j q b [] ws all apart = refl
cells_apart p j q b (m ∷ ms) ws all apart =
    let parts = and_parts (is_handler (handler_of m) q) (list_all (λ m. is_handler (handler_of m) q) ms) all in
    cells_apart p j q b ms (write_of (cell_of p m j) 4 (mark_of m) ∷ ws) parts.1 apart
    ∙ value_apart (cell_of p m j) b 4 (mark_of m) ws (apart m (same_handler (handler_of m) q parts.0))

-- cells of the tiles of two slots
other_slot : (p : Platform) (k j : ℕ) (l m : Label) → k ≢ j → (address_of_label (tile p j) m + 4 ≤ address_of_label (tile p k) l) ⊎ (address_of_label (tile p k) l + 4 ≤ address_of_label (tile p j) m)
other_slot p k j l m n = let a = index_small l in let b = index_small m in elim (less_or k j n) [ inl h ↦ inr (omega (arith, h, a, b)) | inr h ↦ inl (omega (arith, h, a, b)) ]

cell_relocated : (p : Platform) (k : ℕ) (l : Label) → handler_of l ≡ Relocated → cell_of p l k ≡ address_of_label (tile p k) l
cell_relocated p k l side = rw side refl

cell_monarch : (p : Platform) (k : ℕ) (l : Label) → handler_of l ≡ Monarch → cell_of p l k ≡ address_of_label (tile p 0) l
cell_monarch p k l side = rw side refl

tiles_hold : (p : Platform) (n k : ℕ) (ws : List Write) (l : Label) → handler_of l ≡ Relocated → 1 ≤ k → k ≤ n → value_from (byte_at (with_tiles p n ws)) (address_of_label (tile p k) l) 4 ≡ mark_of l
unfolding with_tiles
tiles_hold p zero k ws l side some most = absurd (omega (arith, some, most))
tiles_hold p (suc n) k ws l side some most = elim (cases_eq k (suc n)) [
  | inl e ↦ subst (λ j. value_from (byte_at (with_cells p (suc n) relocated_labels (with_tiles p n ws))) (address_of_label (tile p j) l) 4 ≡ mark_of l) (sym e)
      (subst (λ x. value_from (byte_at (with_cells p (suc n) relocated_labels (with_tiles p n ws))) x 4 ≡ mark_of l) (cell_relocated p (suc n) l side)
      (cells_hold p (suc n) relocated_labels (with_tiles p n ws) l (rw side refl) (inl (among_relocated l side))))
  | inr o ↦ cells_apart p (suc n) Relocated (address_of_label (tile p k) l) relocated_labels (with_tiles p n ws) refl
      (λ m is. subst (λ x. (x + 4 ≤ address_of_label (tile p k) l) ⊎ (address_of_label (tile p k) l + 4 ≤ x)) (sym (cell_relocated p (suc n) m is)) (other_slot p k (suc n) l m o))
      ∙ tiles_hold p n k ws l side some (omega (arith, o, most))
]

releases_leave : (p : Platform) (n b : ℕ) (ws : List Write) → n ≤ 512 → tseg p + 0x20000 ≤ b → value_from (byte_at (with_releases p n ws)) b 4 ≡ value_from (byte_at ws) b 4
unfolding with_releases
releases_leave p zero b ws small low = refl
releases_leave p (suc n) b ws small low =
    value_apart (release_byte (layout_of p) (suc n)) b 1 1 (with_releases p n ws) (inl (below (tseg p) n b small low))
    ∙ releases_leave p n b ws (omega (arith, small)) low
  where
    below : (base n b : ℕ) → suc n ≤ 512 → base + 0x20000 ≤ b → base + 0x1000 + suc n + 1 ≤ b
    below base n b small low = omega (arith, small, low)

-- the image's cells
image_relocated : (p : Platform) (k : ℕ) (l : Label) → Sound p → handler_of l ≡ Relocated → 1 ≤ k → k < count_of p → value_from (byte_at (image p)) (address_of_label (tile p k) l) 4 ≡ mark_of l
unfolding image
image_relocated p k l sound side some less =
    let b = sound.boots in
    releases_leave p (length p.boot - 1) (address_of_label (tile p k) l) _ (omega (arith, b)) (omega arith)
    ∙ (cells_apart p 0 Monarch (address_of_label (tile p k) l) monarch_labels (with_tiles p (count_of p - 1) []) refl
    (λ m is. subst (λ x. (x + 4 ≤ address_of_label (tile p k) l) ⊎ (address_of_label (tile p k) l + 4 ≤ x)) (sym (cell_monarch p 0 m is)) (other_slot p k 0 l m (λ e. omega (arith, e, some))))
    ∙ tiles_hold p (count_of p - 1) k [] l side some (omega (arith, less)))

image_monarch : (p : Platform) (l : Label) → Sound p → handler_of l ≡ Monarch → value_from (byte_at (image p)) (address_of_label (tile p 0) l) 4 ≡ mark_of l
unfolding image
image_monarch p l sound side =
    let b = sound.boots in
    releases_leave p (length p.boot - 1) (address_of_label (tile p 0) l) _ (omega (arith, b)) (omega arith)
    ∙ subst (λ x. value_from (byte_at (with_cells p 0 monarch_labels (with_tiles p (count_of p - 1) []))) x 4 ≡ mark_of l) (cell_monarch p 0 l side)
    (cells_hold p 0 monarch_labels (with_tiles p (count_of p - 1) []) l (rw side refl) (inl (among_monarch l side)))

-- the boot's own stores lie below 8 MiB
past : (a n v : ℕ) (ws : List Write) (y : ℕ) → a + n ≤ 0x800000 → 0x800000 ≤ y → byte_at (write_of a n v ∷ ws) y ≡ byte_at ws y
past a n v ws y low high = (left_more y (write_of a n v) ws (let e = length-bytes_of n v in rw e (misses a n y low high))).byte
  where
    misses : (a n y : ℕ) → a + n ≤ 0x800000 → 0x800000 ≤ y → (nat_le a y && nat_lt y (a + n)) ≡ false
    misses a n y low high = grind (arith, nat_tests)

past_all : (p : Platform) (y : ℕ) → 0x800000 ≤ y → byte_at (memory_after p 17) y ≡ byte_at (image p) y
past_all p y high =
    past 0x30000 8 0xffffffffffffffff (memory_after p 13) y (omega arith) high ∙ (past 0x38014 4 0x53000006 (memory_after p 12) y (omega arith) high ∙ (past 0x38010 4 0x53000005 (memory_after p 11) y (omega arith) high
    ∙ (past 0x3800c 4 0x53000004 (memory_after p 10) y (omega arith) high ∙ (past 0x38008 4 0x53000003 (memory_after p 9) y (omega arith) high ∙ (past 0x38004 4 0x53000002 (memory_after p 8) y (omega arith) high
    ∙ (past 0x38000 4 0x53000001 (memory_after p 7) y (omega arith) high ∙ past 0x9f000 4 0x4e4550 (image p) y (omega arith) high))))))

tile_value : (p : Platform) (k : ℕ) (l : Label) → Sound p → value_from (byte_at (memory_after p 17)) (address_of_label (tile p k) l) 4 ≡ value_from (byte_at (image p)) (address_of_label (tile p k) l) 4
tile_value p k l sound = let a = sound.above in value_same 4 (address_of_label (tile p k) l) (image p) (memory_after p 17) (λ i small. past_all p (address_of_label (tile p k) l + i) (omega (arith, a)))

-- the first handler's marks, which the boot stores
first_cells : (p : Platform) (l : Label) → handler_of l ≡ First → value_from (byte_at (memory_after p 17)) (address_of_label 0x30000 l) 4 ≡ mark_of l
unfolding value_from bytes_of
first_cells p F1 e = refl
first_cells p F2 e = refl
first_cells p F3 e = refl
first_cells p F4 e = refl
first_cells p F5 e = refl
first_cells p F6 e = refl
first_cells p _ e = absurd cc

closed_gate : (p : Platform) → value_from (byte_at (memory_after p 17)) gate 8 ≡ closed
unfolding value_from bytes_of
closed_gate p = refl

-- where a handler runs, this memory holds its marks
cells_sealed : (p : Platform) (l : Label) (q : Handler) (k b : ℕ) → Sound p → handler_of l ≡ q → runs_at (layout_of p) q k b ≡ true → value_from (byte_at (memory_after p 17)) (address_of_label b l) 4 ≡ mark_of l
cells_sealed p l First k b sound side runs =
    let base : b ≡ 0x30000 = eqb-true b 0x30000 (and_parts (not (k == 0)) (b == 0x30000) runs).1 in
    subst (λ y. value_from (byte_at (memory_after p 17)) (address_of_label y l) 4 ≡ mark_of l) (sym base) (first_cells p l side)
cells_sealed p l Relocated k b sound side runs =
    let s = slot_of p b (and_parts (not (k == 0)) (is_other_tile (layout_of p) b) runs).1 in
    subst (λ y. value_from (byte_at (memory_after p 17)) (address_of_label y l) 4 ≡ mark_of l) (sym s.is)
    (tile_value p s.slot l sound ∙ image_relocated p s.slot l sound side s.some s.less)
cells_sealed p l Monarch k b sound side runs =
    let base : b ≡ tile p 0 = eqb-true b (tile p 0) (and_parts (k == 0) (b == tile p 0) runs).1 in
    subst (λ y. value_from (byte_at (memory_after p 17)) (address_of_label y l) 4 ≡ mark_of l) (sym base) (tile_value p 0 l sound ∙ image_monarch p l sound side)

-- and so does each with the same bytes where the boot has set them up
pub holds_sealed : (p : Platform) (ws : List Write) → Sound p → ((x : ℕ) → is_set_up p x ≡ true → byte_at ws x ≡ byte_at (memory_after p 17) x) → Holds p ws
holds_sealed p ws sound same = record {
  cells = λ l k b runs. value_same 4 (address_of_label b l) (memory_after p 17) ws (λ i small. same (address_of_label b l + i) (kept_set_up p (address_of_label b l + i) (kept_cell p l (handler_of l) k b i sound refl runs small))) ∙ cells_sealed p l (handler_of l) k b sound refl runs;
  gate = value_same 8 gate (memory_after p 17) ws (λ i small. same (0x30000 + i) (gate_set_up p i small)) ∙ closed_gate p;
}
