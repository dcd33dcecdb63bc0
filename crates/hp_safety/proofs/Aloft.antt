-- Who is past the gate, by the label where it stands and by its instruction address.
use Rattle.std.proofs.Common.{ℕ, ◌≡◌, ◌+◌, ◌*◌, ◌≤◌, ◌==◌, Bool, true, false, not, ◌&&◌, nat_lt, Some, refl, sym, ◌∙◌, arith}
use Rattle.std.proofs.lemmas.Bool.{and_parts, eqb-true}
use Rattle.std.proofs.lemmas.Bool.Decides.{nat_tests}
use Rattle.hp_model.specs.declared.platforms.Platform.{Platform}
use Rattle.hp_model.specs.declared.labels.Label.{Label}
use Rattle.hp_model.specs.declared.labels.Label.TheVariants.{F1}
use Rattle.hp_model.specs.Platform.{tseg, tile}
use Rattle.hp_model.specs.declared.labels.Handler.{Handler}
use Rattle.hp_model.specs.declared.labels.Handler.TheVariants.{First, Relocated, Monarch}
use Rattle.hp_model.specs.Labels.{handler_of, index_of}
use Rattle.hp_model.specs.SharedBytes.{layout_of}
use Rattle.hp_model.specs.Handlers.{runs_at, address_of_label}
use Rattle.hp_sealed.specs.Left.{Sound}
use Rattle.hp_sealed.specs.Sealed.{is_other_tile}
use Rattle.hp_model.proofs.Marks.{index_first}
use Rattle.hp_sealed.proofs.Places.{slot_of}
use Rattle.hp_safety.proofs.Needs.{need_of, is_aloft}
use Rattle.hp_safety.proofs.Invariant.{is_past}

abbrev is_first : Handler → Bool
is_first First = true
is_first Relocated = false
is_first Monarch = false

-- at the first handler's labels but for the first of them
aloft_by : (l : Label) → is_aloft (need_of l) ≡ (is_first (handler_of l) && nat_lt 0 (index_of l))
aloft_by F1 = refl
aloft_by _ = refl

pub aloft_first : (l : Label) → is_aloft (need_of l) ≡ true → handler_of l ≡ First
aloft_first l e = by_handler (handler_of l) (sym (aloft_by l) ∙ e)
  where
    by_handler : (q : Handler) → (is_first q && nat_lt 0 (index_of l)) ≡ true → q ≡ First
    by_handler First f = refl
    by_handler Relocated f = absurd cc
    by_handler Monarch f = absurd cc

past_first : (b i : ℕ) → b ≡ 0x30000 → i ≤ 5 → is_past (Some (b + 0x8000 + 4 * i)) ≡ nat_lt 0 i
past_first b i e small = by_some (nat_lt 0 i) refl
  where
    by_some : (c : Bool) → nat_lt 0 i ≡ c → is_past (Some (b + 0x8000 + 4 * i)) ≡ c
    by_some true f = grind (arith, nat_tests)
    by_some false f = grind (arith, nat_tests)

past_tile : (base b i : ℕ) → 0x800000 ≤ base → base ≤ b → is_past (Some (b + 0x8000 + 4 * i)) ≡ false
past_tile base b i above low = grind (arith, nat_tests)

-- whoever is at a label's cell is past the gate where the label is
pub aloft_past : (p : Platform) (k b : ℕ) (l : Label) → Sound p → runs_at (layout_of p) (handler_of l) k b ≡ true → is_past (Some (address_of_label b l)) ≡ is_aloft (need_of l)
aloft_past p k b l sound runs = by_handler (handler_of l) refl runs ∙ sym (aloft_by l)
  where
    by_handler : (q : Handler) → handler_of l ≡ q → runs_at (layout_of p) q k b ≡ true → is_past (Some (b + 0x8000 + 4 * index_of l)) ≡ (is_first q && nat_lt 0 (index_of l))
    by_handler First side e = past_first b (index_of l) (eqb-true b 0x30000 (and_parts (not (k == 0)) (b == 0x30000) e).1) (index_first l side)
    by_handler Relocated side e =
        let t = slot_of p b (and_parts (not (k == 0)) (is_other_tile (layout_of p) b) e).1 in
        let is = t.is in
        past_tile (tseg p) b (index_of l) sound.above (omega (arith, is))
    by_handler Monarch side e =
        let is = eqb-true b (tile p 0) (and_parts (k == 0) (b == tile p 0) e).1 in
        past_tile (tseg p) b (index_of l) sound.above (omega (arith, is))
