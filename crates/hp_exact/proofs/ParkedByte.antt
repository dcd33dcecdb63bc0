-- The parked byte of an eject's slot: who writes it, what is read of it, and that it stays 0 or 1.
use Rattle.std.proofs.Common.{ℕ, ◌≡◌, ◌≢◌, ◌+◌, ◌*◌, ◌<◌, ◌≤◌, ◌==◌, ◌⊎◌, inl, inr, Bool, true, false, ◌&&◌, nat_lt, nat_le, List, Option, Some, None, refl, subst, arith}
use Rattle.std.proofs.lemmas.Bool.Decides.{nat_tests}
use Rattle.hp_model.specs.declared.platforms.Platform.{Platform}
use Rattle.hp_model.specs.declared.accesses.Access.{Access}
use Rattle.hp_model.specs.declared.accesses.Access.TheVariants.{Load}
use Rattle.hp_model.specs.declared.accesses.Want.{Want}
use Rattle.hp_model.specs.declared.accesses.Want.TheVariants as want
use Rattle.hp_model.specs.declared.labels.Label.{Label}
use Rattle.hp_model.specs.declared.labels.Label.TheVariants.{F1, F2, F3, F4, F5, F6, R1, R2, R3, R4, R5, R6}
use Rattle.hp_model.specs.Platform.{count_of, tseg}
use Rattle.hp_model.specs.Memory.{Write, byte_at, value_from}
use Rattle.hp_model.specs.View.{Locks, is_hole, loaded, stored}
use Rattle.hp_model.specs.Boot.{value_in}
use Rattle.hp_model.specs.declared.labels.Handler.TheVariants.{Relocated, Monarch as Monarchs}
use Rattle.hp_model.specs.Labels.{handler_of}
use Rattle.hp_model.specs.SharedBytes.{layout_of, arrived_byte, map_byte, parked_byte, gate, closed, flag, default_smbase_field}
use Rattle.hp_model.specs.Monarch.{Monarch}
use Rattle.hp_model.specs.Handlers.{Seat, want_at, runs_at}
use Rattle.hp_model.specs.State.{State, at}
use Rattle.hp_model.specs.Access.{access_effect, answer_to}
use Rattle.hp_model.specs.Firmware.{seat}
use Rattle.hp_model.specs.Step.{enter_smm}
use Rattle.hp_sealed.specs.Left.{Sound}
use Rattle.hp_sealed.proofs.Left.{pick, left_store}
use Rattle.hp_sealed.proofs.Outside.{left_acted}
use Rattle.hp_sealed.proofs.Places.{Base, base_based, tseg_locked}
use Rattle.hp_safety.proofs.Saves.{in_reach, left_other}
use Rattle.hp_exact.proofs.Stood.{IsStood}
use Rattle.hp_exact.proofs.Stepping.{AtOther}
use Rattle.hp_exact.proofs.Releasing.{slot_small}
use Rattle.hp_exact.proofs.ByteStores.{Leaves, zero_stored, zero_here, one_stored}

-- what another handler's row does to the parked byte of a slot
abbrev pub Marks : ℕ → ℕ → Label → ℕ → List Write → List Write → Type 0
Marks x slot l at_slot ws vs = Leaves x ws vs ⊎ ((l ≡ R6) × (at_slot ≡ slot) × (byte_at vs x ≤ 1))

abbrev pub MarksBy : Platform → ℕ → State → ℕ → ℕ → Label → ℕ → Option Want → Type 0
MarksBy p k s x slot l at_slot None = Unit {0}
MarksBy p k s x slot l at_slot (Some (want.Do a)) = Marks x slot l at_slot s.writes (access_effect p k true a s).writes
MarksBy p k s x slot l at_slot (Some (want.Tell o)) = Unit {0}
MarksBy p k s x slot l at_slot (Some want.Resume) = Unit {0}

missed : (l : Locks) (a n v x : ℕ) (ws : List Write) → (nat_le a x && nat_lt x (a + n)) ≡ false → byte_at (stored l true a n v ws) x ≡ byte_at ws x
missed l a n v x ws e = (left_store l true a n v ws x (λ _. e)).byte

low_misses : (base a n slot : ℕ) → 0x800000 ≤ base → a + n ≤ 0x800000 → (nat_le a (base + 0x3000 + slot) && nat_lt (base + 0x3000 + slot) (a + n)) ≡ false
low_misses base a n slot above low = grind (arith, nat_tests)

arrived_misses : (base j slot : ℕ) → j < 0x1000 → (nat_le (base + j) (base + 0x3000 + slot) && nat_lt (base + 0x3000 + slot) (base + j + 1)) ≡ false
arrived_misses base j slot small = grind (arith, nat_tests)

map_misses : (base j slot : ℕ) → j < 0x1000 → (nat_le (base + 0x2000 + j) (base + 0x3000 + slot) && nat_lt (base + 0x3000 + slot) (base + 0x2000 + j + 1)) ≡ false
map_misses base j slot small = grind (arith, nat_tests)

other_misses : (base j slot : ℕ) → (j == slot) ≡ false → (nat_le (base + 0x3000 + j) (base + 0x3000 + slot) && nat_lt (base + 0x3000 + slot) (base + 0x3000 + j + 1)) ≡ false
other_misses base j slot other = grind (arith, nat_tests)

same_place : (i j : ℕ) → (i == j) ≡ true → i ≡ j
same_place i j e = grind (arith, nat_tests)

row_marks : (p : Platform) (k : ℕ) (s : State) (q : Seat) (r : Monarch) (slot : ℕ) (l : Label) → Sound p → (handler_of l ≡ Relocated → q.slot < 0x1000) → handler_of l ≢ Monarchs → MarksBy p k s (parked_byte (layout_of p) slot) slot l q.slot (want_at (layout_of p) q r l)
row_marks p k s q r slot F1 fit tight other = pick (λ vs. Marks (parked_byte (layout_of p) slot) slot F1 q.slot s.writes vs) (loaded s.locks true (byte_at s.writes) gate 8 == q.apic) _ _ (inl (inl (missed s.locks gate 8 closed (parked_byte (layout_of p) slot) s.writes (low_misses (tseg p) gate 8 slot fit.above (omega arith))))) (inl (inl refl))
row_marks p k s q r slot F2 fit tight other = inl (inl refl)
row_marks p k s q r slot F3 fit tight other = inl (inl (missed s.locks default_smbase_field 4 q.base (parked_byte (layout_of p) slot) s.writes (low_misses (tseg p) default_smbase_field 4 slot fit.above (omega arith))))
row_marks p k s q r slot F4 fit tight other = inl (inl (missed s.locks flag 1 1 (parked_byte (layout_of p) slot) s.writes (low_misses (tseg p) flag 1 slot fit.above (omega arith))))
row_marks p k s q r slot F5 fit tight other = inl (inl refl)
row_marks p k s q r slot F6 fit tight other = tt
row_marks p k s q r slot R1 fit tight other = inl (inl (missed s.locks (arrived_byte (layout_of p) q.slot) 1 1 (parked_byte (layout_of p) slot) s.writes (arrived_misses (tseg p) q.slot slot (tight refl))))
row_marks p k s q r slot R2 fit tight other = inl (inl refl)
row_marks p k s q r slot R3 fit tight other = inl (inl refl)
row_marks p k s q r slot R4 fit tight other = inl (zero_stored s.locks (arrived_byte (layout_of p) q.slot) (parked_byte (layout_of p) slot) s.writes)
row_marks p k s q r slot R5 fit tight other = tt
row_marks p k s q r slot R6 fit tight other = by_slot (q.slot == slot) refl
  where
    by_slot : (b : Bool) → (q.slot == slot) ≡ b → Marks (parked_byte (layout_of p) slot) slot R6 q.slot s.writes (stored s.locks true (parked_byte (layout_of p) q.slot) 1 1 s.writes)
    by_slot true is = elim (one_stored s.locks (parked_byte (layout_of p) q.slot) (parked_byte (layout_of p) slot) s.writes) [ inl e ↦ inl (inl e) | inr e ↦ inr (refl, same_place q.slot slot is, e) ]
    by_slot false is = inl (inl (missed s.locks (parked_byte (layout_of p) q.slot) 1 1 (parked_byte (layout_of p) slot) s.writes (other_misses (tseg p) q.slot slot is)))
row_marks p k s q r slot _ fit tight other = absurd (other refl)

module _ (p : Platform) (s : State) (slot : ℕ) (fit : Sound p) (standing : IsStood p s) (small : slot < 0x1000) where
  abbrev x : ℕ
  x = parked_byte (layout_of p) slot

  pub marks_other : (k : ℕ) (l : Label) (a : Access) → AtOther p s k l → want_at (layout_of p) (seat p s k) s.monarch l ≡ Some (want.Do a) → Marks x slot l (seat p s k).slot s.writes (access_effect p k true a s).writes
  marks_other k l a here wants =
      subst (MarksBy p k s x slot l (seat p s k).slot) wants
      (row_marks p k s (seat p s k) s.monarch slot l fit (λ f. slot_small p k (at s k).smbase fit (subst (λ q. runs_at (layout_of p) q k (at s k).smbase ≡ true) f here.runs)) here.part)

  pub left_outside : (k : ℕ) (a : Access) → byte_at (access_effect p k false a s).writes x ≡ byte_at s.writes x
  left_outside k a = (left_acted p k a s x (tseg_locked p s.locks x fit standing.locks (inside (tseg p) p.low_memory (0x100000 * p.tseg_mib) slot (0x10000 * count_of p) fit.top fit.room small))).byte
    where
      inside : (base top size slot n : ℕ) → top ≡ base + size → n + 0x20000 ≤ size → slot < 0x1000 → (nat_le base (base + 0x3000 + slot) && nat_lt (base + 0x3000 + slot) top) ≡ true
      inside base top size slot n is room small = grind (arith, nat_tests)

  pub left_entering : (k : ℕ) → (at s k).present ≡ true → byte_at (enter_smm k s).writes x ≡ byte_at s.writes x
  left_entering k present =
      let whole = fit.whole in
      (left_other s.locks (at s k) s.writes x base.unit fit.unit base.whole (apart (at s k).smbase (tseg p) base.unit fit.unit base.whole fit.whole fit.above base.area) (omega (arith, whole)) (omega (arith, whole, small))).byte
    where
      base : Base p (at s k).smbase
      base = base_based p k (at s k).smbase fit (standing.based k present)

      apart : (b t m n : ℕ) → b ≡ 0x10000 * m → t ≡ 0x10000 * n → 0x800000 ≤ t → (b ≡ 0x30000) ⊎ (t + 0x20000 ≤ b) → m ≡ n → ⊥
      apart b t m n e f g (inl i) same = omega (arith, e, f, g, i, same)
      apart b t m n e f g (inr i) same = omega (arith, e, f, g, i, same)

  pub in_ram : is_hole s.locks true x 1 ≡ false
  in_ram = in_reach 1 x s.locks (let same = standing.locks.low_memory in let top = fit.top in let more = fit.room in omega (arith, same, top, more, small))

  -- what a load of it answers
  pub loads_parked : value_in (answer_to true (Load x 1) s) ≡ byte_at s.writes x
  unfolding value_from
  loads_parked = let reach = in_ram in rw reach (omega arith)

  -- E0 and E1
  pub cleared : byte_at (stored s.locks true x 1 0 s.writes) x ≡ 0
  cleared = zero_here s.locks x s.writes in_ram

  pub map_leaves : byte_at (stored s.locks true (map_byte (layout_of p) slot) 1 1 s.writes) x ≡ byte_at s.writes x
  map_leaves = missed s.locks (map_byte (layout_of p) slot) 1 1 x s.writes (map_misses (tseg p) slot slot small)

pub leaves_bit : (n m : ℕ) → (n ≡ m) ⊎ (n ≡ 0) → m ≤ 1 → n ≤ 1
leaves_bit n m (inl e) h = omega (arith, e, h)
leaves_bit n m (inr e) h = omega (arith, e)
