-- What reports are judged by, as the entries say and as the record has it: over one step more.
use Rattle.std.specs.Prelude.{slice_index_or, if◌then◌else◌}
use Rattle.std.specs.Option.{unwrap_or}
use Rattle.std.proofs.Common.{ℕ, zero, suc, ◌≡◌, ◌≢◌, ◌<◌, ◌≤◌, ◌==◌, inl, inr, Bool, true, false, cond, ◌&&◌, ◌||◌, List, [], ◌∷◌, length, slice_set, Option, Some, None, option_map, option_and_then, refl, sym, ap, subst, ◌∙◌, arith, get_or-set_other, length-set}
use Rattle.std.proofs.lemmas.Bool.{and_parts, eqb-true}
use Rattle.std.proofs.lemmas.Bool.Decides.{nat_tests}
use Rattle.hp_model.specs.declared.platforms.Platform.{Platform}
use Rattle.hp_model.specs.declared.accesses.Access.TheVariants.{Load}
use Rattle.hp_model.specs.declared.outcomes.Outcome.{Outcome}
use Rattle.hp_model.specs.declared.outcomes.Outcome.TheVariants as outcome
use Rattle.hp_model.specs.declared.labels.Label.{Label}
use Rattle.hp_model.specs.declared.labels.Label.TheVariants.{S3, N8b, N11, T}
use Rattle.hp_model.specs.declared.entries.Event.{Event}
use Rattle.hp_model.specs.declared.entries.Event.TheVariants.{Resume}
use Rattle.hp_model.specs.declared.entries.Entry.{Entry}
use Rattle.hp_model.specs.Platform.{apic_of}
use Rattle.hp_model.specs.Cpu.{smm_address, resumed}
use Rattle.hp_model.specs.Block.{is_in}
use Rattle.hp_model.specs.Boot.{Stage, Boots, Refused, Handed, is_handed, value_in}
use Rattle.hp_model.specs.Labels.{index_of}
use Rattle.hp_model.specs.SharedBytes.{layout_of, arrived_byte}
use Rattle.hp_model.specs.SaveArea.{saved_smbase, saved_rip}
use Rattle.hp_model.specs.Slots.{Slots, is_known as known_in, slot_among, completed, forgotten}
use Rattle.hp_model.specs.Monarch.{Monarch, is_that, noted, after_tell}
use Rattle.hp_model.specs.Handlers.{next_at}
use Rattle.hp_model.specs.State.{State, at}
use Rattle.hp_model.specs.Access.{same_access}
use Rattle.hp_model.specs.Firmware.{seat, wanted_in, firmware_effect}
use Rattle.hp_model.specs.Step.{After, effect_of, step}
use Rattle.hp_model.specs.Runs.{run_on}
use Rattle.hp_model.specs.Events.{access_in, outcome_in, is_access_of}
use Rattle.hp_model.specs.Transitions.{Transition, entries_of}
use Rattle.hp_model.specs.Account.{told_known, is_known as known_by}
use Rattle.hp_model.specs.Sessions.{bounds_session, last_look}
use Rattle.hp_model.proofs.AtEach.{made as step_made}
use Rattle.hp_model.proofs.Counts.{place_below}
use Rattle.hp_sealed.specs.Left.{Sound}
use Rattle.hp_sealed.specs.Sealed.{Placed}
use Rattle.hp_sealed.proofs.Left.{pick}
use Rattle.hp_sealed.proofs.Goes.{stepped}
use Rattle.hp_sealed.proofs.Starts.{set_all}
use Rattle.hp_sealed.proofs.Runs.{made}
use Rattle.hp_safety.proofs.Invariant.{is_adding, facts_of, Met, Holding}
use Rattle.hp_safety.proofs.Placing.{place_same}
use Rattle.hp_safety.proofs.Keeps.{that_is}
use Rattle.hp_safety.proofs.Marked.{same_index}
use Rattle.hp_safety.proofs.GateRows.{Moves}
use Rattle.hp_safety.proofs.Moves.{moves}
use Rattle.hp_safety.proofs.Runs.{IsHanded}
use Rattle.hp_safety.proofs.MonarchSteps.{IsRow, MonarchStep, monarch_steps}
use Rattle.hp_safety.proofs.Tallies.{tally_of, IsHeldBy, TallyAt, turn_of}
use Rattle.hp_safety.proofs.FactRows.{place_out, SameFacts, noted_at, noted_slots, row_facts}
use Rattle.hp_safety.proofs.Held.{HeldTied, bounds_of, row_says, row_bounds}
use Rattle.hp_safety.proofs.Looks.{makes_load, loads_at, row_loads, look_on, look_now, look_new, unread_look, length-unread}

-- which APIC IDs are known, what was read of arrived bytes while processor 0 is in SMM, and the bounds that look-ups need
pub record FactsTied (p : Platform) (past : List Transition) (s : State) : Type 0 where
  pub known : (a : ℕ) → known_by p (entries_of past) a ≡ known_in s.monarch.slots a
  pub size : length s.monarch.last ≡ length s.monarch.slots.bound
  pub seen : s.monarch.label ≡ S3 → s.monarch.slot < length s.monarch.slots.bound
  pub features : s.monarch.features ≡ p.features
  pub looks : (b : ℕ) → smm_address (at s 0) ≡ Some b → (k : ℕ) → k ≤ 512 → slice_index_or s.monarch.last k 2 ≡ last_look p k (entries_of past)

itself : (n : ℕ) → (n == n) ≡ true
itself n = grind (arith, nat_tests)

unlike : (a b : ℕ) → (a == b) ≡ false → a ≢ b
unlike a b e f = grind (arith, nat_tests)

-- known, once an outcome is told
set_here : {A : Type 0} (xs : List A) (k : ℕ) (x d : A) → k < length xs → slice_index_or (slice_set xs k x) k d ≡ x
set_here [] k x d h = absurd (omega (arith, h))
set_here (y ∷ ys) zero x d h = refl
set_here (y ∷ ys) (suc k) x d h = set_here ys k x d (omega (arith, h))

set_default : {A : Type 0} (xs : List A) (k : ℕ) (d : A) → slice_index_or (slice_set xs k d) k d ≡ d
set_default [] k d = refl
set_default (y ∷ ys) zero d = refl
set_default (y ∷ ys) (suc k) d = set_default ys k d

set_past : {A : Type 0} (xs : List A) (k : ℕ) (x : A) → length xs ≤ k → slice_set xs k x ≡ xs
set_past [] k x h = refl
set_past (y ∷ ys) zero x h = absurd (omega (arith, h))
set_past (y ∷ ys) (suc k) x h = ap (λ zs. y ∷ zs) (set_past ys k x (omega (arith, h)))

-- another APIC ID's look-up
other_known : (p : Platform) (s : Slots) (a x : ℕ) (b : Bool) → Placed p s → a ≢ x → slice_index_or (slice_set s.known (slot_among s.bound a) b) (slot_among s.bound x) false ≡ known_in s x
other_known p s a x b h other = by_bound (is_in a s.bound) refl (is_in x s.bound) refl
  where
    by_bound : (c : Bool) → is_in a s.bound ≡ c → (d : Bool) → is_in x s.bound ≡ d → slice_index_or (slice_set s.known (slot_among s.bound a) b) (slot_among s.bound x) false ≡ known_in s x
    by_bound true f true g = get_or-set_other s.known (slot_among s.bound a) (slot_among s.bound x) b false (λ same. other (place_same s.bound a x f g (sym same)))
    by_bound true f false g = let out = place_out s.bound x g in let below = place_below s.bound a f in get_or-set_other s.known (slot_among s.bound a) (slot_among s.bound x) b false (λ same. omega (arith, same, out, below))
    by_bound false f d g = let out = place_out s.bound a f in let same = h.known in ap (λ bs. slice_index_or bs (slot_among s.bound x) false) (set_past s.known (slot_among s.bound a) b (omega (arith, out, same)))

told_alike : (p : Platform) (o : Outcome) (r : Monarch) (a : ℕ) → Placed p r.slots → Holding p r.slots → IsHeldBy o r.slots.held → unwrap_or (told_known a o) (known_in r.slots a) ≡ known_in (after_tell o r).slots a
told_alike p (outcome.Added cpu apic slot) r a placed holding held = by_same (apic == a) refl
  where
    by_same : (c : Bool) → (apic == a) ≡ c → unwrap_or (if c then Some true else None) (known_in r.slots a) ≡ known_in (completed apic r.slots) a
    by_same true is =
        let below = place_below r.slots.bound apic (holding.in_bound apic held) in
        let same = placed.known in
        sym (subst (λ x. known_in (completed apic r.slots) x ≡ true) (eqb-true apic a is) (set_here r.slots.known (slot_among r.slots.bound apic) true false (omega (arith, below, same))))
    by_same false is = sym (other_known p r.slots apic a true placed (unlike apic a is))
told_alike p (outcome.Ejected cpu apic slot) r a placed holding held = by_same (apic == a) refl
  where
    by_same : (c : Bool) → (apic == a) ≡ c → unwrap_or (if c then Some false else None) (known_in r.slots a) ≡ known_in (forgotten apic r.slots) a
    by_same true is = sym (subst (λ x. known_in (forgotten apic r.slots) x ≡ false) (eqb-true apic a is) (set_default r.slots.known (slot_among r.slots.bound apic) false))
    by_same false is = sym (other_known p r.slots apic a false placed (unlike apic a is))
told_alike p (outcome.Refused why) r a placed holding held = refl

pub known_more : (p : Platform) (es : List Entry) (e : Entry) (a : ℕ) → known_by p (e ∷ es) a ≡ unwrap_or (option_and_then (told_known a) (outcome_in e.event)) (known_by p es a)
unfolding known_by
known_more p es e a = refl

told_last : (o : Outcome) (r : Monarch) → (after_tell o r).last ≡ r.last
told_last (outcome.Added cpu apic slot) r = refl
told_last (outcome.Ejected cpu apic slot) r = refl
told_last (outcome.Refused why) r = refl

pub told_size : (o : Outcome) (r : Monarch) → (after_tell o r).slots.bound ≡ r.slots.bound
told_size (outcome.Added cpu apic slot) r = refl
told_size (outcome.Ejected cpu apic slot) r = refl
told_size (outcome.Refused why) r = refl

noted_size : (p : Platform) (l : Label) (v : ℕ) (r : Monarch) → length r.last ≡ length r.slots.bound → length (noted_at p l v r).last ≡ length (noted_at p l v r).slots.bound
noted_size p l v r e =
    pick (λ (t : Monarch). length t.last ≡ length t.slots.bound) (index_of l == 34) (after_tell r.outcome r) _ (ap length (told_last r.outcome r) ∙ (e ∙ sym (ap length (told_size r.outcome r))))
    (pick (λ (t : Monarch). length t.last ≡ length t.slots.bound) (index_of l == 3) (noted r.slot v r) _ (length-set r.last r.slot v ∙ e)
    (pick (λ (t : Monarch). length t.last ≡ length t.slots.bound) ((index_of l == 21) || (index_of l == 24)) (noted r.add.slot v r) r (length-set r.last r.add.slot v ∙ e) e))

noted_features : (p : Platform) (l : Label) (v : ℕ) (r : Monarch) → (noted_at p l v r).features ≡ r.features
noted_features p l v r =
    pick (λ (t : Monarch). t.features ≡ r.features) (index_of l == 34) (after_tell r.outcome r) _ (of_told r.outcome)
    (pick (λ (t : Monarch). t.features ≡ r.features) (index_of l == 3) (noted r.slot v r) _ refl
    (pick (λ (t : Monarch). t.features ≡ r.features) ((index_of l == 21) || (index_of l == 24)) (noted r.add.slot v r) r refl refl))
  where
    of_told : (o : Outcome) → (after_tell o r).features ≡ r.features
    of_told (outcome.Added cpu apic slot) = refl
    of_told (outcome.Ejected cpu apic slot) = refl
    of_told (outcome.Refused why) = refl

module _ (p : Platform) (past : List Transition) (s : State) (e : Entry) (fit : Sound p) (h : IsHanded p s) (tied : HeldTied p past s) (facts : FactsTied p past s) where
  abbrev es : List Entry
  es = entries_of past

  abbrev r : Monarch
  r = s.monarch

  abbrev v : ℕ
  v = value_in e.answer

  placed : Placed p s.monarch.slots
  placed = h.recorded.1

  known_still : outcome_in e.event ≡ None → (a : ℕ) → known_by p (e ∷ es) a ≡ known_in r.slots a
  known_still none a = known_more p es e a ∙ (rw none refl ∙ facts.known a)

  -- a row's
  module _ (n : Monarch) (w : IsRow p s e n) where
    bound_none : bounds_session e ≡ false
    bound_none = row_bounds p (seat p s 0) r s.writes (apic_of p 0) (at s 0).base e.event w.label w.met w.wanted

    abbrev mid : Monarch
    mid = noted_at p w.label (value_in e.answer) s.monarch

    pub row_known : (a : ℕ) → known_by p (e ∷ es) a ≡ known_in (noted_at p w.label (value_in e.answer) s.monarch).slots a
    row_known a = by_told (index_of w.label == 34) refl (row_says p (seat p s 0) r s.writes (apic_of p 0) (at s 0).base e.event w.label w.met w.wanted)
      where
        by_told : (c : Bool) → (index_of w.label == 34) ≡ c → outcome_in e.event ≡ (if c then Some r.outcome else None) → known_by p (e ∷ es) a ≡ known_in (noted_at p w.label (value_in e.answer) s.monarch).slots a
        by_told true is some =
            let label = same_index w.label T w.side (eqb-true (index_of w.label) 34 is) in
            let says = subst (λ l. TallyAt (tally_of p es) r (turn_of l)) (w.here ∙ label) tied.tally in
            known_more p es e a ∙ (rw (some, facts.known a, is) (told_alike p r.outcome r a placed h.holding says.added))
        by_told false is none = known_still none a ∙ ap (λ (x : Slots). known_in x a) (sym (noted_slots p w.label (value_in e.answer) r is))

    look_set : (slot k : ℕ) → slot < length r.last → slice_index_or r.last k 2 ≡ last_look p k es → makes_load p k e.event ≡ (k == slot) → slice_index_or (slice_set r.last slot v) k 2 ≡ last_look p k (e ∷ es)
    look_set slot k less old loads = by_same (k == slot) refl
      where
        by_same : (c : Bool) → (k == slot) ≡ c → slice_index_or (slice_set r.last slot v) k 2 ≡ last_look p k (e ∷ es)
        by_same true is = subst (λ i. slice_index_or (slice_set r.last slot v) i 2 ≡ v) (sym (eqb-true k slot is)) (set_here r.last slot v 2 less) ∙ sym (look_now p k es e bound_none (loads ∙ is))
        by_same false is = get_or-set_other r.last slot k v 2 (unlike k slot is) ∙ (old ∙ sym (look_on p k es e bound_none (loads ∙ is)))

    add_less : is_adding r ≡ true → r.add.slot < length r.last
    add_less adds =
        let parts = and_parts (is_that r.slots.held r.add.apic) (r.add.slot == slot_among r.slots.bound r.add.apic) adds in
        let below = place_below r.slots.bound r.add.apic (h.holding.in_bound r.add.apic (that_is r.slots.held r.add.apic parts.0)) in
        let slot = eqb-true r.add.slot (slot_among r.slots.bound r.add.apic) parts.1 in
        let size = facts.size in
        omega (arith, below, slot, size)

    pub row_looks : (k : ℕ) → k ≤ 512 → slice_index_or r.last k 2 ≡ last_look p k es → slice_index_or (noted_at p w.label (value_in e.answer) s.monarch).last k 2 ≡ last_look p k (e ∷ es)
    row_looks k small old = by_told (index_of w.label == 34) refl
      where
        loads : makes_load p k e.event ≡ loads_at w.label r k
        loads = row_loads p (seat p s 0) r s.writes (apic_of p 0) (at s 0).base k e.event w.label fit small w.side w.met w.wanted

        not_three : (n : ℕ) → (n == 34) ≡ true → ((n == 3) ≡ false) × ((n == 21) ≡ false) × ((n == 24) ≡ false)
        not_three n is = (grind (arith, nat_tests), grind (arith, nat_tests), grind (arith, nat_tests))

        by_last : (n34 : (index_of w.label == 34) ≡ false) → (n3 : (index_of w.label == 3) ≡ false) → (c : Bool) → (index_of w.label == 21) ≡ c → (d : Bool) → (index_of w.label == 24) ≡ d → slice_index_or (noted_at p w.label (value_in e.answer) s.monarch).last k 2 ≡ last_look p k (e ∷ es)
        by_last n34 n3 true c d e24 =
            let label = same_index w.label N8b w.side (eqb-true (index_of w.label) 21 c) in
            let met = subst (λ l. Met p r s.writes (apic_of p 0) (at s 0).base l) label w.met in
            rw (n34, n3, c) (look_set r.add.slot k (add_less met.1) old (loads ∙ rw (n3, c) refl))
        by_last n34 n3 false c true e24 =
            let label = same_index w.label N11 w.side (eqb-true (index_of w.label) 24 e24) in
            let met = subst (λ l. Met p r s.writes (apic_of p 0) (at s 0).base l) label w.met in
            rw (n34, n3, c, e24) (look_set r.add.slot k (add_less met.1) old (loads ∙ rw (n3, c, e24) refl))
        by_last n34 n3 false c false e24 = rw (n34, n3, c, e24) (old ∙ sym (look_on p k es e bound_none (loads ∙ rw (n3, c, e24) refl)))

        by_slot : (n34 : (index_of w.label == 34) ≡ false) → (c : Bool) → (index_of w.label == 3) ≡ c → slice_index_or (noted_at p w.label (value_in e.answer) s.monarch).last k 2 ≡ last_look p k (e ∷ es)
        by_slot n34 true c =
            let label = same_index w.label S3 w.side (eqb-true (index_of w.label) 3 c) in
            let size = facts.size in
            let less = facts.seen (w.here ∙ label) in
            rw (n34, c) (look_set r.slot k (omega (arith, size, less)) old (loads ∙ rw c refl))
        by_slot n34 false c = by_last n34 c (index_of w.label == 21) refl (index_of w.label == 24) refl

        by_told : (c : Bool) → (index_of w.label == 34) ≡ c → slice_index_or (noted_at p w.label (value_in e.answer) s.monarch).last k 2 ≡ last_look p k (e ∷ es)
        by_told true is =
            let n = not_three (index_of w.label) is in
            rw (is, told_last r.outcome r) (old ∙ sym (look_on p k es e bound_none (loads ∙ rw (n.0, n.1, n.2) refl)))
        by_told false is = by_slot is (index_of w.label == 3) refl

    row_same : SameFacts (noted_at p w.label (value_in e.answer) s.monarch) (next_at (layout_of p) (seat p s 0) s.monarch w.label (value_in e.answer)).monarch
    row_same = row_facts p (layout_of p) (seat p s 0) r v (facts_of p r s.writes (apic_of p 0) (at s 0).base) w.label placed w.side (λ f. w.here) facts.seen w.met

  -- after each kind of step
  record Now (n : Monarch) (inside : Type 0) : Type 0 where
    pub known : (a : ℕ) → known_by p (e ∷ es) a ≡ known_in n.slots a
    pub size : length n.last ≡ length n.slots.bound
    pub seen : n.label ≡ S3 → n.slot < length n.slots.bound
    pub features : n.features ≡ p.features
    pub looks : inside → (k : ℕ) → k ≤ 512 → slice_index_or n.last k 2 ≡ last_look p k (e ∷ es)

  facts_now : (n : Monarch) (inside : Type 0) → MonarchStep p s e n → (inside → bounds_session e ≡ false → (k : ℕ) → k ≤ 512 → slice_index_or r.last k 2 ≡ last_look p k es) → (inside → is_access_of 0 e.event ≡ true → smm_address (at s 0) ≡ None → ⊥) → (inside → e.event ≡ Resume 0 → ⊥) → Now n inside
  facts_now n inside (inl o) old within stays =
      subst (λ (x : Monarch). Now x inside) (sym o.same)
      (record {
        known = known_still o.told;
        size = facts.size;
        seen = facts.seen;
        features = facts.features;
        looks = λ i k small. old i o.bounds k small ∙ sym (look_on p k es e o.bounds (not_mine i k (is_access_of 0 e.event) refl));
      })
    where
      not_mine : inside → (k : ℕ) (c : Bool) → is_access_of 0 e.event ≡ c → (c && unwrap_or (option_map (same_access (Load (arrived_byte (layout_of p) k) 1)) (access_in e.event)) false) ≡ false
      not_mine i k false f = refl
      not_mine i k true f = absurd (within i f (o.out f))
  facts_now n inside (inr (inl w)) old within stays =
      let same = row_same n w in
      subst (λ (x : Monarch). Now x inside) (sym w.next)
      (record {
        known = λ a. row_known n w a ∙ sym (same.known a);
        size = same.size (noted_size p w.label v r facts.size);
        seen = same.seen;
        features = same.features ∙ (noted_features p w.label v r ∙ facts.features);
        looks = λ i k small. same.last k ∙ row_looks n w k small (old i (bound_none n w) k small);
      })
  facts_now n inside (inr (inr (inl b))) old within stays =
      subst (λ (x : Monarch). Now x inside) (sym b.next)
      (record {
        known = known_still (ap outcome_in b.event);
        size = length-unread 2 (length r.slots.bound);
        seen = λ f. absurd cc;
        features = facts.features;
        looks = λ i k small. unread_look 2 (length r.slots.bound) k ∙ sym (look_new p k es e (ap bounds_of b.event));
      })
  facts_now n inside (inr (inr (inr o))) old within stays =
      subst (λ (x : Monarch). Now x inside) (sym o.same)
      (record { known = known_still (ap outcome_in o.event); size = facts.size; seen = facts.seen; features = facts.features; looks = λ i. absurd (stays i o.event) })

-- RSM leaves SMM
left_led : (p : Platform) (s : State) (g : Stage) → is_handed g ≡ true → wanted_in p s g (Resume 0) ≡ true → smm_address (at (firmware_effect p s g (Resume 0) (effect_of p s (Resume 0))) 0) ≡ None
left_led p s (Boots done supported) handed wanted = absurd cc
left_led p s (Refused fact) handed wanted = absurd cc
left_led p s (Handed requested) handed wanted =
    set_all (λ i c. i ≡ 0 → smm_address c ≡ None) s.cpus 0 (resumed (saved_smbase s.locks s.writes (at s 0)) (saved_rip s.locks s.writes (at s 0)) (at s 0)) (λ z. refl) (λ z. none_if (at s 0).present None) (λ i other z. absurd (other z)) 0 refl
  where
    none_if : (b : Bool) (o : Option ℕ) → cond b o o ≡ o
    none_if true o = refl
    none_if false o = refl

left_smm : (p : Platform) (s : State) (e : Event) (t : After) → is_handed s.stage ≡ true → step p s e ≡ Some t → e ≡ Resume 0 → smm_address (at t.state 0) ≡ None
left_smm p s e t handed is event =
    let g = stepped p s e t is in
    subst (λ (x : After). smm_address (at x.state 0) ≡ None) g.is
    (subst (λ x. wanted_in p s s.stage x ≡ true → smm_address (at (firmware_effect p s s.stage x (effect_of p s x)) 0) ≡ None) (sym event) (left_led p s s.stage handed) g.wanted)

pub facts_on : (p : Platform) (past : List Transition) (s t : State) (e : Entry) → Sound p → IsHanded p s → run_on p s e ≡ Some t → HeldTied p past s → FactsTied p past s → FactsTied p (step_made s e t ∷ past) t
facts_on p past s t e fit h on tied facts =
    let m = made p s e t on in
    let move : Moves p s e.event t = subst (Moves p s e.event) m.state (moves p s.writes s e.event m.after fit h m.step) in
    let left : e.event ≡ Resume 0 → smm_address (at t 0) ≡ None = λ f. subst (λ (u : State). smm_address (at u 0) ≡ None) m.state (left_smm p s e.event m.after h.handed m.step f) in
    let ms : MonarchStep p s e t.monarch = subst (λ (u : State). MonarchStep p s e u.monarch) m.state (monarch_steps p s.writes s e m.after fit h m.step m.place m.answer) in
    let now = facts_now p past s e fit h tied facts t.monarch (smm_address (at t 0) ≡ None → ⊥) ms
    (λ i bound k small. old move i bound k small (smm_address (at s 0)) refl)
    (λ i mine out. elim (move.enters out) [ inl none ↦ i none | inr smi ↦ (let both = sym (ap (is_access_of 0) smi) ∙ mine in cc) ])
    (λ i f. i (left f)) in
    record { known = now.known; size = now.size; seen = now.seen; features = now.features; looks = λ b is. now.looks (λ none. let both = sym none ∙ is in cc) }
  where
    old : Moves p s e.event t → (smm_address (at t 0) ≡ None → ⊥) → bounds_session e ≡ false → (k : ℕ) → k ≤ 512 → (o : Option ℕ) → smm_address (at s 0) ≡ o → slice_index_or s.monarch.last k 2 ≡ last_look p k (entries_of past)
    old move i bound k small (Some b) is = facts.looks b is k small
    old move i bound k small None is = absurd (elim (move.enters is) [ inl none ↦ i none | inr smi ↦ (let both = sym (ap bounds_of smi) ∙ bound in cc) ])
