-- Cells within their tiles, and tiles within TSEG.
use Rattle.std.proofs.Common.{◌≡◌, ◌≢◌, ◌⊎◌, inl, inr, ℕ, ◌+◌, ◌*◌, ◌<◌, ◌≤◌, refl, ap, arith}
use Rattle.std.proofs.lemmas.Bool.{cases_lt}
use Rattle.std.proofs.lemmas.Bool.Decides.{nat_tests}
use Rattle.hp_model.specs.declared.labels.Label.{Label}
use Rattle.hp_model.specs.declared.platforms.Platform.{Platform}
use Rattle.hp_model.specs.declared.labels.Handler.{Handler}
use Rattle.hp_model.specs.declared.labels.Handler.TheVariants.{First, Relocated, Monarch}
use Rattle.hp_model.specs.Labels.{cell_of, first_cell, index_of, handler_of}
use Rattle.hp_model.specs.Platform.{IsFit, count_of, tile, tseg}
use Rattle.hp_model.specs.SaveArea.{revision_field}
use Rattle.hp_image.specs.Handlers.{smbase_in}
use Rattle.hp_model.proofs.Marks.{index_small, same_place}

-- a handler's first cell is where SMI entry leads
pub enters : (p : Platform) (h : Handler) (slot : ℕ) → first_cell p h slot ≡ smbase_in p h slot + 0x8000
enters p First slot = refl
enters p Relocated slot = refl
enters p Monarch slot = refl

pub in_tile : (p : Platform) (l : Label) (slot : ℕ) →
    (smbase_in p (handler_of l) slot + 0x8000 ≤ cell_of p l slot)
    × (cell_of p l slot + 4 ≤ smbase_in p (handler_of l) slot + revision_field)
in_tile p l slot = grind (arith, enters p (handler_of l) slot, index_small l)

same_first : (p : Platform) (l m : Label) (slot : ℕ) → handler_of l ≡ handler_of m →
    first_cell p (handler_of l) slot ≡ first_cell p (handler_of m) slot
same_first p l m slot parts = ap (λ h. first_cell p h slot) parts

pub same_cell : (p : Platform) (l m : Label) (slot : ℕ) → handler_of l ≡ handler_of m → cell_of p l slot ≡ cell_of p m slot → l ≡ m
same_cell p l m slot parts cells = same_place l m parts (omega (arith, same_first p l m slot parts, cells))

pub apart : (p : Platform) (l m : Label) (slot : ℕ) → handler_of l ≡ handler_of m → l ≢ m →
    (cell_of p l slot + 4 ≤ cell_of p m slot) ⊎ (cell_of p m slot + 4 ≤ cell_of p l slot)
apart p l m slot parts other = by_order (cases_lt (index_of l) (index_of m)) (cases_lt (index_of m) (index_of l))
  where
    first : first_cell p (handler_of l) slot ≡ first_cell p (handler_of m) slot
    first = same_first p l m slot parts

    by_order : (index_of l < index_of m) ⊎ (index_of m ≤ index_of l) → (index_of m < index_of l) ⊎ (index_of l ≤ index_of m) →
        (cell_of p l slot + 4 ≤ cell_of p m slot) ⊎ (cell_of p m slot + 4 ≤ cell_of p l slot)
    by_order (inl before) o = inl (omega (arith, first, before))
    by_order (inr from) (inl after) = inr (omega (arith, first, after))
    by_order (inr from) (inr to) = absurd (other (same_place l m parts (omega (arith, from, to))))

pub tile_inside : (p : Platform) (slot : ℕ) → IsFit p → slot < count_of p →
    (tseg p + 0x20000 ≤ tile p slot) × (tile p slot + 0x10000 ≤ p.low_memory)
tile_inside p slot fit h = grind (arith, nat_tests, fit)

pub tseg_end : (p : Platform) → IsFit p → tseg p + p.tseg_mib * 0x100000 ≡ p.low_memory
tseg_end p fit = grind (arith, nat_tests, fit)

pub tseg_above : (p : Platform) → IsFit p → 0x50000 ≤ tseg p
tseg_above p fit = grind (arith, nat_tests, fit)

pub tiles_apart : (p : Platform) (j k : ℕ) → j < k → tile p j + 0x10000 ≤ tile p k
tiles_apart p j k h = omega (arith, h)

pub ruleset cells_inside = (enters, in_tile)

pub ruleset handlers_apart = (same_cell, apart)

pub ruleset tiles_inside = (tile_inside, tiles_apart, tseg_end, tseg_above)
