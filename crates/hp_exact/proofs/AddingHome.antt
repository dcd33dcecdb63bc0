-- A processor that is at home in a slot: present, at the slot's tile. While the session is undisturbed it stays so, and the add's processor is whoever tells its arrival.
use Rattle.std.proofs.Common.{ℕ, ◌++◌, ◌≡◌, ◌≢◌, ◌+◌, ◌-◌, ◌*◌, ◌/◌, ◌<◌, ◌≤◌, ◌==◌, ◌⊎◌, inl, inr, Bool, true, false, not, ◌&&◌, ◌||◌, nat_lt, nat_le, List, [], ◌∷◌, slice_set, Some, refl, sym, ap, subst, ◌∙◌, arith}
use Rattle.std.proofs.lemmas.Bool.{and_parts, eqb-true}
use Rattle.std.proofs.lemmas.Bool.Decides.{nat_tests}
use Rattle.hp_model.specs.declared.platforms.Platform.{Platform}
use Rattle.hp_model.specs.declared.processors.Cpu.{Cpu}
use Rattle.hp_model.specs.declared.accesses.Access.{Access}
use Rattle.hp_model.specs.declared.accesses.Want.TheVariants as want
use Rattle.hp_model.specs.declared.labels.Label.{Label}
use Rattle.hp_model.specs.declared.labels.Label.TheVariants.{F1, F2, F3, F4, F5, F6, R1, R2, R3, R4, R5, R6, N11, E4b, T}
use Rattle.hp_model.specs.declared.entries.Entry.{Entry}
use Rattle.hp_model.specs.Platform.{tseg, count_of, tile, apic_of}
use Rattle.hp_model.specs.Memory.{byte_at}
use Rattle.hp_model.specs.View.{loaded}
use Rattle.hp_model.specs.Cpu.{inserted, cpu_at, take_smi, take_init, resumed}
use Rattle.hp_model.specs.Block.{is_in}
use Rattle.hp_model.specs.Boot.{value_in}
use Rattle.hp_model.specs.declared.labels.Handler.TheVariants.{Relocated, Monarch as Monarchs}
use Rattle.hp_model.specs.Labels.{handler_of}
use Rattle.hp_model.specs.SharedBytes.{layout_of, arrived_byte, parked_byte, gate, closed, flag, default_smbase_field}
use Rattle.hp_model.specs.SaveArea.{saved_smbase, saved_rip}
use Rattle.hp_model.specs.Slots.{slot_among}
use Rattle.hp_model.specs.Account.{with_bound}
use Rattle.hp_model.specs.Monarch.{Monarch, restarted}
use Rattle.hp_model.specs.Handlers.{Seat, want_at, next_at, runs_at, slot_at}
use Rattle.hp_model.specs.State.{State, at}
use Rattle.hp_model.specs.Ports.{writes_block}
use Rattle.hp_model.specs.Access.{access_effect, answer_to}
use Rattle.hp_model.specs.Firmware.{seat}
use Rattle.hp_model.specs.Step.{enter_smm, is_after_broadcast}
use Rattle.hp_model.specs.Runs.{run_on}
use Rattle.hp_model.specs.Transitions.{Transition}
use Rattle.hp_sealed.specs.Left.{Sound}
use Rattle.hp_sealed.specs.Sealed.{is_other_tile}
use Rattle.hp_sealed.proofs.Left.{pick, pick_by}
use Rattle.hp_sealed.proofs.Stay.{at_set}
use Rattle.hp_sealed.proofs.Places.{slot_of}
use Rattle.hp_sealed.proofs.Runs.{made as made_by}
use Rattle.hp_safety.proofs.Accesses.{past_aloft}
use Rattle.hp_safety.proofs.Keeps.{smm_present}
use Rattle.hp_safety.proofs.GateRows.{Moves}
use Rattle.hp_safety.proofs.Moves.{moves}
use Rattle.hp_safety.proofs.Placing.{place_same}
use Rattle.hp_safety.proofs.Runs.{IsHanded}
use Rattle.hp_exact.proofs.Stood.{IsStood}
use Rattle.hp_exact.proofs.Stepping.{AtOther, Kinds, by_kind}
use Rattle.hp_exact.proofs.Monarchs.{is_among}
use Rattle.hp_exact.proofs.Naming.{Ids, own_is, one_cpu}
use Rattle.hp_exact.proofs.Agreeing.{present_kept}
use Rattle.hp_exact.proofs.Rows.{stays_row, is_one, Unwritten, other_unwritten}
use Rattle.hp_exact.proofs.CalledIn.{present_set, was_quiet, not_broadcast}
use Rattle.hp_exact.proofs.InSmm.{present_go}
use Rattle.hp_exact.proofs.Invariant.{Invariant}
use Rattle.hp_exact.proofs.ByteStores.{Leaves, zero_stored, elsewhere, other_misses, Bytes}

-- a processor is there, at the tile of a slot, if the session is undisturbed
abbrev pub IsHome : Platform → State → ℕ → ℕ → Type 0
IsHome p s cpu slot = s.disturbed ≡ false → ((at s cpu).present ≡ true) × ((at s cpu).smbase ≡ tile p slot)

-- after a step the session is undisturbed, and whoever was there is
pub record Stays (s t : State) : Type 0 where
  pub calm : s.disturbed ≡ false
  pub there : (k : ℕ) → (at s k).present ≡ true → (at t k).present ≡ true

either : (x y : Bool) → (x || y) ≡ false → (x ≡ false) × (y ≡ false)
either true y e = absurd cc
either false y e = (refl, e)

first_of : (x y : Bool) → (x && y) ≡ false → y ≡ true → x ≡ false
first_of true y e f = absurd (let both = sym f ∙ e in cc)
first_of false y e f = refl

module _ (p : Platform) (sound : Sound p) (ids : Ids p) (past : List Transition) (s : State) (stood : IsStood p s) (handed : IsHanded p s) (h : Invariant p past s) where
  abbrev Goes : Entry → State → Type 0
  Goes e t = is_after_broadcast s.monarch.label ≡ true → s.monarch.label ≢ E4b → t.disturbed ≡ false → Stays s t

  abbrev there_set : (k : ℕ) (d : Cpu) → d.present ≡ (at s k).present → (j : ℕ) → (at s j).present ≡ true → (cpu_at (slice_set s.cpus k d) j).present ≡ true
  there_set = present_set p sound ids past s stood h

  kinds : Kinds p s Goes
  kinds = record {
    inserts = λ k g less gone after other calm. record { calm = calm; there = λ j. at_set (λ (c d : Cpu). c.present ≡ true → d.present ≡ true) s.cpus k inserted (λ _ e. e) (λ _. refl) j };
    removes = λ k g after other calm. record { calm = calm; there = λ j e. e };
    outside = λ k a g free out after other calm.
        (let both = either s.disturbed (writes_block a && is_after_broadcast s.monarch.label) calm in
        record { calm = both.0; there = λ j e. present_kept p k false a s j (first_of (writes_block a) (is_after_broadcast s.monarch.label) both.1 after) ∙ e });
    monarchs = λ l a g here wants after other calm. record {
      calm = was_quiet p sound ids past s stood h l (not_broadcast p sound ids past s stood h l (subst (λ m. is_after_broadcast m ≡ true) here.label after)) calm;
      there = λ j e. at_set (λ (c d : Cpu). d.present ≡ c.present) (access_effect p 0 true a s).cpus 0 _ (λ _. refl) (present_go (at s 0).smbase (next_at (layout_of p) (seat p s 0) s.monarch l (value_in (answer_to true a s))) (at (access_effect p 0 true a s) 0)) j
          ∙ stays_row p s l a wants j (λ is. absurd (other (here.label ∙ is))) e;
    };
    others = λ k l a g here wants after other calm. record {
      calm = calm;
      there = λ j e. at_set (λ (c d : Cpu). d.present ≡ c.present) (access_effect p k true a s).cpus k _ (λ _. refl) (present_go (at s k).smbase (next_at (layout_of p) (seat p s k) s.monarch l (value_in (answer_to true a s))) (at (access_effect p k true a s) k)) j
          ∙ (present_kept p k true a s j (subst Unwritten wants (other_unwritten p s k l here.part)) ∙ e);
    };
    enters = λ k g may after other calm. record { calm = calm; there = λ j e. pick (λ (t : State). (at t j).present ≡ true) (k == 0) (record (enter_smm k s) { monarch = restarted s.monarch }) (enter_smm k s) (there_set k (take_smi (at s k)) refl j e) (there_set k (take_smi (at s k)) refl j e) };
    inits = λ k g may after other calm. record { calm = calm; there = there_set k (take_init (at s k)) refl };
    rests = λ g here after other calm. record { calm = calm; there = there_set 0 (resumed (saved_smbase s.locks s.writes (at s 0)) (saved_rip s.locks s.writes (at s 0)) (at s 0)) refl };
    returns = λ k l g here where_is after other calm. record { calm = calm; there = there_set k (resumed (saved_smbase s.locks s.writes (at s k)) (saved_rip s.locks s.writes (at s k)) (at s k)) refl };
    tells = λ o g here same after other calm. record { calm = calm; there = there_set 0 _ (present_go (at s 0).smbase (next_at (layout_of p) (seat p s 0) s.monarch T 0) (at s 0)) };
  }

  -- so at N11 and at T whoever is at home stays there
  pub stays_home : (e : Entry) (t : State) → run_on p s e ≡ Some t → is_among s.monarch.label (N11 ∷ T ∷ []) ≡ true → (cpu slot : ℕ) → IsHome p s cpu slot → IsHome p t cpu slot
  stays_home e t is among cpu slot home calm =
      let stays = by_kind p s Goes stood kinds e t is (after s.monarch.label among) (other s.monarch.label among) calm in
      let was = home stays.calm in
      let now = stays.there cpu was.0 in
      let m = made_by p s e t is in
      let mv : Moves p s e.event t = subst (Moves p s e.event) m.state (moves p s.writes s e.event m.after sound handed m.step) in (
        now,
        elim (mv.changes cpu was.0 now) [
          | inl same ↦ same ∙ was.1
          | inr r ↦ absurd (far (tseg p) (at s cpu).smbase slot sound.above was.1 (past_aloft p s.writes s cpu sound handed r.past).base)
        ],
      )
    where
      far : (base b slot : ℕ) → 0x800000 ≤ base → b ≡ base + 0x20000 + slot * 0x10000 → b ≡ 0x30000 → ⊥
      far base b slot above e f = omega (arith, above, e, f)

      after : (l : Label) → is_among l (N11 ∷ T ∷ []) ≡ true → is_after_broadcast l ≡ true
      after N11 e = refl
      after T e = refl
      after _ e = absurd cc

      other : (l : Label) → is_among l (N11 ∷ T ∷ []) ≡ true → l ≢ E4b
      other F1 e f = cc
      other _ e f = cc

low_misses : (base a n x : ℕ) → 0x800000 ≤ base → a + n ≤ 0x800000 → base ≤ x → (nat_le a x && nat_lt x (a + n)) ≡ false
low_misses base a n x above low from = grind (arith, nat_tests)

later_misses : (base a x : ℕ) → base + 0x1000 ≤ a → x < base + 0x1000 → (nat_le a x && nat_lt x (a + 1)) ≡ false
later_misses base a x from to = grind (arith, nat_tests)

row_arrived : (p : Platform) (k : ℕ) (s : State) (q : Seat) (r : Monarch) (x : ℕ) (l : Label) → Sound p → tseg p ≤ x → x < tseg p + 0x1000 → handler_of l ≢ Monarchs → (l ≡ R1 → x ≢ arrived_byte (layout_of p) q.slot) → Bytes p k s x (want_at (layout_of p) q r l)
row_arrived p k s q r x F1 sound from to other own = pick (Leaves x s.writes) (loaded s.locks true (byte_at s.writes) gate 8 == q.apic) _ _ (elsewhere s.locks gate 8 closed x s.writes (low_misses (tseg p) gate 8 x sound.above (omega arith) from)) (inl refl)
row_arrived p k s q r x F2 sound from to other own = inl refl
row_arrived p k s q r x F3 sound from to other own = elsewhere s.locks default_smbase_field 4 q.base x s.writes (low_misses (tseg p) default_smbase_field 4 x sound.above (omega arith) from)
row_arrived p k s q r x F4 sound from to other own = elsewhere s.locks flag 1 1 x s.writes (low_misses (tseg p) flag 1 x sound.above (omega arith) from)
row_arrived p k s q r x F5 sound from to other own = inl refl
row_arrived p k s q r x F6 sound from to other own = tt
row_arrived p k s q r x R1 sound from to other own = elsewhere s.locks (arrived_byte (layout_of p) q.slot) 1 1 x s.writes (other_misses (arrived_byte (layout_of p) q.slot) x (own refl))
row_arrived p k s q r x R2 sound from to other own = inl refl
row_arrived p k s q r x R3 sound from to other own = inl refl
row_arrived p k s q r x R4 sound from to other own = zero_stored s.locks (arrived_byte (layout_of p) q.slot) x s.writes
row_arrived p k s q r x R5 sound from to other own = tt
row_arrived p k s q r x R6 sound from to other own = elsewhere s.locks (parked_byte (layout_of p) q.slot) 1 1 x s.writes (later_misses (tseg p) (parked_byte (layout_of p) q.slot) x (omega arith) to)
row_arrived p k s q r x _ sound from to other own = absurd (other refl)

-- places in lists
pub in_end : (ids : List ℕ) (a : ℕ) → is_in a (ids ++ a ∷ []) ≡ true
in_end [] a = let i = itself a in rw i refl
  where
    itself : (n : ℕ) → (n == n) ≡ true
    itself n = grind (arith, nat_tests)
in_end (x ∷ xs) a = by_head (x == a) (in_end xs a)
  where
    by_head : (c : Bool) → is_in a (xs ++ a ∷ []) ≡ true → (c || is_in a (xs ++ a ∷ [])) ≡ true
    by_head true e = refl
    by_head false e = e

-- whoever tells the arrival of the running add's slot is its processor, at home
module _ (p : Platform) (sound : Sound p) (past : List Transition) (s : State) (handed : IsHanded p s) (h : Invariant p past s) (label : s.monarch.label ≡ N11) (less : s.monarch.add.slot < count_of p)
    (old : List ℕ) (grown : s.monarch.slots.bound ≡ with_bound (Some s.monarch.add.apic) old) (is_place : s.monarch.add.slot ≡ slot_among s.monarch.slots.bound s.monarch.add.apic) where
  abbrev r : Monarch
  r = s.monarch

  in_bound : is_in r.add.apic r.slots.bound ≡ true
  in_bound = subst (λ ids. is_in r.add.apic ids ≡ true) (sym grown) (pick_by (λ xs. is_in r.add.apic xs ≡ true) (is_in r.add.apic old) old _ (λ e. e) (λ e. in_end old r.add.apic))

  arriving : (k : ℕ) (b : ℕ) → (at s k).present ≡ true → (at s k).smbase ≡ b → runs_at (layout_of p) Relocated k b ≡ true → slot_at (layout_of p) b ≡ r.add.slot → IsHome p s r.add.cpu r.add.slot
  arriving k b present base runs same calm =
      let u = h.undisturbed (rw label refl) calm in
      let own = own_is p (record { cpu = r.add.cpu; status = 0; apic = r.add.apic }) (u.reported.added (rw label refl)) in
      let tiled = slot_of p b (and_parts (not (k == 0)) (is_other_tile (layout_of p) b) runs).1 in
      elim (handed.slots.slotted k present) [
        | inl e ↦ absurd (far (tseg p) b tiled.slot sound.above tiled.is (sym base ∙ e))
        | inr at_place ↦ (
            let own_slot : slot_at (layout_of p) b ≡ slot_among r.slots.bound (apic_of p k) = slot_plain (tseg p) (slot_among r.slots.bound (apic_of p k)) b (sym base ∙ at_place.1) in
            let apics : apic_of p k ≡ r.add.apic = place_same r.slots.bound (apic_of p k) r.add.apic at_place.0 in_bound (sym own_slot ∙ (same ∙ is_place)) in
            let one : k ≡ r.add.cpu = one_cpu p k r.add.cpu sound (handed.slots.possible k present) own.less (apics ∙ sym own.apic) in
            let tile_is : (at s k).smbase ≡ tile p r.add.slot = at_place.1 ∙ ap (tile p) (sym own_slot ∙ same) in
            (subst (λ i. (at s i).present ≡ true) one present, subst (λ i. (at s i).smbase ≡ tile p r.add.slot) one tile_is))
      ]
    where
      slot_plain : (base slot b : ℕ) → b ≡ base + 0x20000 + slot * 0x10000 → (b - (base + 0x20000 + 0)) / 0x10000 ≡ slot
      slot_plain base slot b e = omega (arith, e)

      far : (base b slot : ℕ) → 0x800000 ≤ base → b ≡ base + 0x20000 + slot * 0x10000 → b ≡ 0x30000 → ⊥
      far base b slot above e f = omega (arith, above, e, f)

  -- a row of another processor leaves the byte other than 1, or its processor is at home
  pub lands : (k : ℕ) (l : Label) (a : Access) → AtOther p s k l → want_at (layout_of p) (seat p s k) r l ≡ Some (want.Do a) → byte_at (access_effect p k true a s).writes (arrived_byte (layout_of p) r.add.slot) ≡ 1
      → (byte_at s.writes (arrived_byte (layout_of p) r.add.slot) ≡ 1) ⊎ IsHome p s r.add.cpu r.add.slot
  lands k l a here wants one = by_label (is_among l (R1 ∷ [])) refl
    where
      x : ℕ
      x = arrived_byte (layout_of p) r.add.slot

      misses : (l ≡ R1 → x ≢ arrived_byte (layout_of p) (seat p s k).slot) → (byte_at s.writes x ≡ 1) ⊎ IsHome p s r.add.cpu r.add.slot
      misses own =
          let bytes : Leaves x s.writes (access_effect p k true a s).writes = subst (Bytes p k s x) wants (row_arrived p k s (seat p s k) r x l sound (omega arith) (let few = sound.few in omega (arith, less, few)) here.part own) in
          elim bytes [ inl same ↦ inl (sym same ∙ one) | inr none ↦ absurd (let both = sym none ∙ one in cc) ]

      same_place : (base i j : ℕ) → base + i ≡ base + j → (i == j) ≡ true
      same_place base i j e = grind (arith, nat_tests)

      by_slot : (c : Bool) → ((seat p s k).slot == r.add.slot) ≡ c → l ≡ R1 → (byte_at s.writes x ≡ 1) ⊎ IsHome p s r.add.cpu r.add.slot
      by_slot true is first = inr (arriving k (at s k).smbase (smm_present (at s k) _ here.place) refl (subst (λ m. runs_at (layout_of p) (handler_of m) k (at s k).smbase ≡ true) first here.runs) (eqb-true (seat p s k).slot r.add.slot is))
      by_slot false is first = misses (λ _ e. let both = sym (same_place (tseg p) (seat p s k).slot r.add.slot (sym e)) ∙ is in cc)

      by_label : (c : Bool) → is_among l (R1 ∷ []) ≡ c → (byte_at s.writes x ≡ 1) ⊎ IsHome p s r.add.cpu r.add.slot
      by_label true is = by_slot ((seat p s k).slot == r.add.slot) refl (is_one l R1 is)
      by_label false is = misses (λ first. absurd (let now : is_among R1 (R1 ∷ []) ≡ false = subst (λ m. is_among m (R1 ∷ []) ≡ false) first is in cc))
