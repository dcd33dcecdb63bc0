-- At which label an entry was made, by the address of whoever made it.
use Rattle.std.proofs.Common.{ℕ, ◌≡◌, ◌≢◌, ◌+◌, ◌*◌, ◌≤◌, ◌==◌, Bool, true, false, not, Some, None, refl, arith}
use Rattle.std.proofs.lemmas.Bool.{and_parts, eqb-true}
use Rattle.std.proofs.lemmas.Bool.Decides.{nat_tests}
use Rattle.hp_model.specs.declared.platforms.Platform.{Platform}
use Rattle.hp_model.specs.declared.labels.Label.{Label}
use Rattle.hp_model.specs.declared.entries.Entry.{Entry}
use Rattle.hp_model.specs.Platform.{tseg, tile}
use Rattle.hp_model.specs.declared.labels.Handler.{Handler}
use Rattle.hp_model.specs.declared.labels.Handler.TheVariants.{First, Relocated, Monarch as Monarchs}
use Rattle.hp_model.specs.Labels.{handler_of, index_of}
use Rattle.hp_model.specs.SharedBytes.{layout_of}
use Rattle.hp_model.specs.Handlers.{runs_at, address_of_label}
use Rattle.hp_model.specs.Account.{is_at}
use Rattle.hp_sealed.specs.Left.{Sound}
use Rattle.hp_sealed.specs.Sealed.{is_other_tile}
use Rattle.hp_model.proofs.Marks.{same_label, index_small}
use Rattle.hp_sealed.proofs.Places.{slot_of}

-- outside SMM at none
pub at_none : (p : Platform) (m : Label) (e : Entry) → e.at ≡ None → is_at p m e ≡ false
at_none p m e is = rw is refl

-- labels of one handler with one index are one
pub same_index : (l m : Label) → handler_of l ≡ handler_of m → index_of l ≡ index_of m → l ≡ m
same_index l m side index = same_label l m (rw (side, index) refl)

-- who stands at a cell of the monarch
pub at_monarch : (p : Platform) (l m : Label) (e : Entry) (b : ℕ) → b ≡ tile p 0 → e.at ≡ Some (address_of_label b l) → handler_of m ≡ Monarchs → is_at p m e ≡ (index_of l == index_of m)
at_monarch p l m e b base is mine = rw (is, mine, base) (plain (tseg p) (index_of l) (index_of m))
  where
    plain : (base i j : ℕ) → (base + 0x20000 + 0 + 0x8000 + 4 * i == base + 0x20000 + 0 + 0x8000 + 4 * j) ≡ (i == j)
    plain base i j = by_same (i == j) refl
      where
        by_same : (c : Bool) → (i == j) ≡ c → (base + 0x20000 + 0 + 0x8000 + 4 * i == base + 0x20000 + 0 + 0x8000 + 4 * j) ≡ c
        by_same true e = grind (arith, nat_tests)
        by_same false e = grind (arith, nat_tests)

-- and who doesn't
pub at_other : (p : Platform) (l m : Label) (e : Entry) (k b : ℕ) → Sound p → runs_at (layout_of p) (handler_of l) k b ≡ true → handler_of l ≢ Monarchs → e.at ≡ Some (address_of_label b l) → handler_of m ≡ Monarchs → is_at p m e ≡ false
at_other p l m e k b sound runs other is mine = rw (is, mine) (by_handler (handler_of l) other runs)
  where
    low : (base b i j : ℕ) → 0x800000 ≤ base → b ≡ 0x30000 → i ≤ 40 → (b + 0x8000 + 4 * i == base + 0x20000 + 0 + 0x8000 + 4 * j) ≡ false
    low base b i j above e small = grind (arith, nat_tests)

    high : (base b slot i j : ℕ) → b ≡ base + 0x20000 + slot * 0x10000 → 1 ≤ slot → j ≤ 40 → (b + 0x8000 + 4 * i == base + 0x20000 + 0 + 0x8000 + 4 * j) ≡ false
    high base b slot i j e some small = grind (arith, nat_tests)

    by_handler : (q : Handler) → q ≢ Monarchs → runs_at (layout_of p) q k b ≡ true → (b + 0x8000 + 4 * index_of l == tile p 0 + 0x8000 + 4 * index_of m) ≡ false
    by_handler First n runs = low (tseg p) b (index_of l) (index_of m) sound.above (eqb-true b 0x30000 (and_parts (not (k == 0)) (b == 0x30000) runs).1) (index_small l)
    by_handler Relocated n runs = let t = slot_of p b (and_parts (not (k == 0)) (is_other_tile (layout_of p) b) runs).1 in high (tseg p) b t.slot (index_of l) (index_of m) t.is t.some (index_small m)
    by_handler Monarchs n runs = absurd (n refl)
