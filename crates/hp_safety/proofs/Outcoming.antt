-- Each outcome answers the session's first report without one, by its decision as the entries say, where the record's features are the platform's.
use Rattle.std.specs.Prelude.{slice_index_or, if◌then◌else◌}
use Rattle.std.proofs.Common.{ℕ, suc, ◌≡◌, ◌+◌, ◌≤◌, ◌<◌, ◌==◌, inl, inr, Bool, true, false, not, ◌||◌, nat_le, List, [], ◌∷◌, ◌++◌, length, drop, Option, Some, None, refl, sym, ap, subst, ◌∙◌, arith}
use Rattle.std.proofs.lemmas.Bool.{and_parts}
use Rattle.std.proofs.lemmas.Bool.Decides.{nat_tests}
use Rattle.hp_model.specs.declared.platforms.Platform.{Platform}
use Rattle.hp_model.specs.declared.accesses.Want.{Want}
use Rattle.hp_model.specs.declared.accesses.Want.TheVariants as want
use Rattle.hp_model.specs.declared.outcomes.Outcome.{Outcome}
use Rattle.hp_model.specs.declared.outcomes.Outcome.TheVariants as outcome
use Rattle.hp_model.specs.declared.labels.Label.{Label}
use Rattle.hp_model.specs.declared.labels.Label.TheVariants.{C1, C2, C3, C4, C5, C6, N7, T}
use Rattle.hp_model.specs.declared.entries.Event.{Event}
use Rattle.hp_model.specs.declared.entries.Entry.{Entry}
use Rattle.hp_model.specs.Platform.{tile, count_of, apic_of}
use Rattle.hp_model.specs.Cpu.{smm_address}
use Rattle.hp_model.specs.Boot.{value_in}
use Rattle.hp_model.specs.declared.labels.Handler.TheVariants.{Monarch as Monarchs}
use Rattle.hp_model.specs.Labels.{handler_of, index_of}
use Rattle.hp_model.specs.SharedBytes.{layout_of}
use Rattle.hp_model.specs.Slots.{is_known as known_in, slot_among}
use Rattle.hp_model.specs.declared.reports.Report.{Report}
use Rattle.hp_model.specs.declared.reports.Decision.{Decision}
use Rattle.hp_model.specs.Monarch.{Monarch, decision, facts_of as facts_by, next_report, after_tell}
use Rattle.hp_model.specs.Handlers.{want_at, next_at}
use Rattle.hp_model.specs.State.{State, at}
use Rattle.hp_model.specs.Firmware.{seat}
use Rattle.hp_model.specs.Runs.{run_on, address_of}
use Rattle.hp_model.specs.Events.{outcome_in}
use Rattle.hp_model.specs.Transitions.{Transition, entries_of}
use Rattle.hp_model.specs.Account.{is_at, is_known as known_by, bound}
use Rattle.hp_model.specs.Sessions.{bounds_session, is_tell, open_triple, held, last_look, facts_in, decision_in, ends_outcome}
use Rattle.hp_model.specs.Outcomes.{own_of, decision_by}
use Rattle.hp_model.proofs.AtEach.{made as step_made}
use Rattle.hp_sealed.specs.Left.{Sound}
use Rattle.hp_sealed.proofs.Runs.{made}
use Rattle.hp_safety.proofs.Invariant.{facts_of}
use Rattle.hp_safety.proofs.Ties.{session_of, TiedAt, tie_of}
use Rattle.hp_safety.proofs.Backward.{since_it, since_other, bound_step}
use Rattle.hp_safety.proofs.Marked.{at_monarch}
use Rattle.hp_safety.proofs.Placing.{bound_few}
use Rattle.hp_safety.proofs.Runs.{IsHanded}
use Rattle.hp_safety.proofs.Named.{Accounted}
use Rattle.hp_safety.proofs.GateRows.{Moves}
use Rattle.hp_safety.proofs.Moves.{moves}
use Rattle.hp_safety.proofs.MonarchSteps.{IsElsewhere, IsWanted, IsRow, MonarchStep, monarch_steps}
use Rattle.hp_safety.proofs.Tallies.{Tally, tally_of, open_in, held_in, tally_after, Turn, Waiting, Collecting, Beginning, Running, Parting, Telling, Ending, Over, turn_of, TallyAt}
use Rattle.hp_safety.proofs.Held.{HeldTied, tally_still, after_row, row_says, row_bounds}
use Rattle.hp_safety.proofs.FactRows.{noted_at}
use Rattle.hp_safety.proofs.Facts.{FactsTied, told_size, row_known, row_looks}
use Rattle.hp_safety.proofs.Deciding.{decision_report, takes_up, row_decision, decision_found, decision_judged, decision_reported, is_busy, busy_index, telling_takes, taking}
use Rattle.hp_safety.proofs.Decisions.{DecisionAt, Decided}

-- the decision on the first report without an outcome, by the entries before those of its outcome
abbrev pub decision_now : Platform → List Transition → Decision
decision_now p past = decision_by p (drop (length (own_of p past)) (entries_of past)) (open_triple p (entries_of past))

abbrev pub OutcomesTied : Platform → List Transition → State → Type 0
OutcomesTied p past s = Decided (decision_now p past) (open_triple p (entries_of past)) s.monarch

decision_kept : (p : Platform) (past : List Transition) (s t : State) (e : Entry) → ends_outcome p e ≡ false → open_triple p (e ∷ entries_of past) ≡ open_triple p (entries_of past) → decision_now p (step_made s e t ∷ past) ≡ decision_now p past
decision_kept p past s t e not same = rw (since_other (λ x. ends_outcome p x.entry) (step_made s e t) past not, same) refl

decision_fresh : (p : Platform) (past : List Transition) (s t : State) (e : Entry) → ends_outcome p e ≡ true → decision_now p (step_made s e t ∷ past) ≡ decision_by p (e ∷ entries_of past) (open_triple p (e ∷ entries_of past))
decision_fresh p past s t e is = rw (since_it (λ x. ends_outcome p x.entry) (step_made s e t) past is) refl

place_most : (ids : List ℕ) (a : ℕ) → slot_among ids a ≤ length ids
place_most [] a = omega arith
place_most (x ∷ xs) a = by_head (x == a) (place_most xs a)
  where
    by_head : (c : Bool) → slot_among xs a ≤ length xs → (if c then 0 else slot_among xs a + 1) ≤ suc (length xs)
    by_head true h = omega arith
    by_head false h = omega (arith, h)

wanted_address : (s : State) (w : Option Want) (v : Event) → IsWanted w v → address_of s v ≡ smm_address (at s 0)
wanted_address s None v is = absurd is
wanted_address s (Some (want.Do a)) v is = ap (address_of s) is
wanted_address s (Some (want.Tell o)) v is = ap (address_of s) is
wanted_address s (Some want.Resume) v is = absurd is

module _ (p : Platform) (past : List Transition) (s t : State) (e : Entry) (fit : Sound p) (h : IsHanded p s) (place : address_of s e.event ≡ e.at) (move : Moves p s e.event t) (acc : Accounted p past s) (tied : HeldTied p past s) (facts : FactsTied p past s) (features : s.monarch.features ≡ p.features) (classed : OutcomesTied p past s) where
  abbrev es : List Entry
  es = entries_of past

  abbrev r : Monarch
  r = s.monarch

  abbrev v : ℕ
  v = value_in e.answer

  abbrev OutcomesOf : Monarch → Type 0
  OutcomesOf n = Decided (decision_now p (step_made s e t ∷ past)) (open_triple p (e ∷ es)) n

  -- at none of the monarch's labels no outcome ends
  elsewhere_ends : IsElsewhere p e → bounds_session e ≡ false → outcome_in e.event ≡ None → ends_outcome p e ≡ false
  elsewhere_ends away bound none = rw (none, away C1 refl, away C2 refl, away C3 refl, away C4 refl, away C5 refl, away C6 refl, bound) refl

  module _ (n : Monarch) (w : IsRow p s e n) where
    tally_is : tally_of p (e ∷ es) ≡ tally_after w.label (record { cpu = r.collection.cpu; status = r.collection.status; apic = v }) r.outcome (tally_of p es)
    tally_is = after_row p past s t e fit h place move acc tied n w

    -- what a report is judged by
    judged_by : (l : Label) → w.label ≡ l → bound p (e ∷ es) ≡ (noted_at p l (value_in e.answer) s.monarch).slots.bound → held p (e ∷ es) ≡ (noted_at p l (value_in e.answer) s.monarch).slots.held → (noted_at p l (value_in e.answer) s.monarch).features ≡ p.features → (noted_at p l (value_in e.answer) s.monarch).slots.bound ≡ s.monarch.slots.bound → (x : Report) → facts_in p (e ∷ es) x ≡ facts_by p.apic (noted_at p l (value_in e.answer) s.monarch) x
    judged_by l is bounds holds feats same x =
        let m = noted_at p l (value_in e.answer) s.monarch in
        let known = subst (λ y. known_by p (e ∷ es) x.apic ≡ known_in (noted_at p y (value_in e.answer) s.monarch).slots x.apic) is (row_known p past s e fit h tied facts n w x.apic) in
        let few = bound_few p r.slots h.recorded.1 in
        let some = fit.few in
        let most = place_most r.slots.bound x.apic in
        let size : slot_among m.slots.bound x.apic ≤ 512 = subst (λ ids. slot_among ids x.apic ≤ 512) (sym same) (omega (arith, few, some, most)) in
        let inside = sym (wanted_address s (want_at (layout_of p) (seat p s 0) s.monarch w.label) e.event w.wanted) ∙ (place ∙ w.place) in
        let old = facts.looks _ inside (slot_among m.slots.bound x.apic) size in
        let look = subst (λ y. slice_index_or (noted_at p y (value_in e.answer) s.monarch).last (slot_among m.slots.bound x.apic) 2 ≡ last_look p (slot_among m.slots.bound x.apic) (e ∷ es)) is (row_looks p past s e fit h tied facts n w (slot_among m.slots.bound x.apic) size old) in
        rw (known, bounds, holds, sym feats, sym look) refl

    no_seven : (l : Label) → w.label ≡ l → (index_of l == 19) ≡ false → bound p (e ∷ es) ≡ bound p es
    no_seven l is not =
        let none : is_at p N7 e ≡ false = at_monarch p w.label N7 e (tile p 0) refl w.place refl ∙ (ap (λ y. index_of y == 19) is ∙ not) in
        bound_step p es e ∙ rw none refl

    at_label : (m : Label) → handler_of m ≡ Monarchs → is_at p m e ≡ (index_of w.label == index_of m)
    at_label m mine = at_monarch p w.label m e (tile p 0) refl w.place mine

    says : outcome_in e.event ≡ (if index_of w.label == 34 then Some r.outcome else None)
    says = row_says p (seat p s 0) r s.writes (apic_of p 0) (at s 0).base e.event w.label w.met w.wanted

    bound_none : bounds_session e ≡ false
    bound_none = row_bounds p (seat p s 0) r s.writes (apic_of p 0) (at s 0).base e.event w.label w.met w.wanted

    -- an outcome ends at the collection's rows, and at T
    ends_collecting : is_at p C3 e || (is_at p C4 e || is_at p C6 e) ≡ true → ends_outcome p e ≡ true
    ends_collecting is = by_tests (is_tell e) (is_at p C1 e) (is_at p C2 e) (is_at p C3 e) (is_at p C4 e) (is_at p C5 e) (is_at p C6 e) (bounds_session e) is
      where
        by_tests : (a c1 c2 c3 c4 c5 c6 b : Bool) → (c3 || (c4 || c6)) ≡ true → (a || ((c1 || (c2 || (c3 || (c4 || (c5 || (c6 || false)))))) || b)) ≡ true
        by_tests true c1 c2 c3 c4 c5 c6 b f = refl
        by_tests false true c2 c3 c4 c5 c6 b f = refl
        by_tests false false true c3 c4 c5 c6 b f = refl
        by_tests false false false true c4 c5 c6 b f = refl
        by_tests false false false false true c5 c6 b f = refl
        by_tests false false false false false true c6 b f = refl
        by_tests false false false false false false true b f = refl
        by_tests false false false false false false false b f = absurd cc

    busy_ends : is_busy (turn_of w.label) ≡ true → (ends_outcome p e ≡ false) × (open_triple p (e ∷ es) ≡ open_triple p es)
    busy_ends busy =
        let range = and_parts (nat_le 11 (index_of w.label)) (not (index_of w.label == 34)) (busy_index w.label busy) in
        let not_told = off (index_of w.label == 34) range.1 in
        let none : outcome_in e.event ≡ None = says ∙ rw not_told refl in
        let not_six = high (index_of w.label) 10 range.0 (omega arith) in (
          rw (none, at_label C1 refl, high (index_of w.label) 5 range.0 (omega arith), at_label C2 refl, high (index_of w.label) 6 range.0 (omega arith), at_label C3 refl, high (index_of w.label) 7 range.0 (omega arith), at_label C4 refl, high (index_of w.label) 8 range.0 (omega arith), at_label C5 refl, high (index_of w.label) 9 range.0 (omega arith), at_label C6 refl, not_six, bound_none) refl,
          ap open_in tally_is ∙ rw (not_told, not_six) refl,
        )
      where
        off : (c : Bool) → not c ≡ true → c ≡ false
        off true f = absurd cc
        off false f = refl

        high : (n i : ℕ) → nat_le 11 n ≡ true → i < 11 → (n == i) ≡ false
        high n i low less = grind (arith, nat_tests)

    -- rows after which no report is taken up
    quiet_row : takes_up w.label ≡ false → OutcomesOf (next_at (layout_of p) (seat p s 0) s.monarch w.label (value_in e.answer)).monarch
    quiet_row not =
        row_decision (decision_now p (step_made s e t ∷ past)) (open_triple p (e ∷ es)) (layout_of p) (seat p s 0) r v (facts_of p r s.writes (apic_of p 0) (at s 0).base) w.label w.side (λ f. w.here) w.met (by_turn (turn_of w.label) refl (subst (λ l. DecisionAt (decision_now p past) (open_triple p es) r (turn_of l)) w.here classed)) not
      where
        still : is_busy (turn_of w.label) ≡ true → (x : Turn) → DecisionAt (decision_now p past) (open_triple p es) r x → DecisionAt (decision_now p (step_made s e t ∷ past)) (open_triple p (e ∷ es)) r x
        still busy x c =
            let b = busy_ends busy in
            subst (λ k. DecisionAt k (open_triple p (e ∷ es)) r x) (sym (decision_kept p past s t e b.0 b.1)) (subst (λ o. DecisionAt (decision_now p past) o r x) (sym b.1) c)

        by_turn : (x : Turn) → turn_of w.label ≡ x → DecisionAt (decision_now p past) (open_triple p es) r x → DecisionAt (decision_now p (step_made s e t ∷ past)) (open_triple p (e ∷ es)) r x
        by_turn Waiting is c = tt
        by_turn Collecting is c = tt
        by_turn Beginning is c = still (ap is_busy is) Beginning c
        by_turn Running is c = still (ap is_busy is) Running c
        by_turn Parting is c = still (ap is_busy is) Parting c
        by_turn Telling is c = absurd (let f = sym (telling_takes w.label is) ∙ not in cc)
        by_turn Ending is c = tt
        by_turn Over is c = tt

    -- the next report is taken up by the decision that the entries give it
    taken_by : (m : Monarch) → ends_outcome p e ≡ true → (tally_of p (e ∷ es)).reports ≡ m.collection.reports → (tally_of p (e ∷ es)).told ≡ m.taken → ((x : Report) → facts_in p (e ∷ es) x ≡ facts_by p.apic m x) → OutcomesOf (next_report p.apic m)
    taken_by m ends reports after_tell judged =
        decision_report p.apic (open_triple p (e ∷ es)) (tally_of p (e ∷ es)).told (tally_of p (e ∷ es)).reports (decision_in p (e ∷ es)) m refl reports after_tell (λ x. ap (λ f. decision f x) (judged x)) (decision_now p (step_made s e t ∷ past))
        (λ x is. decision_fresh p past s t e ends ∙ ap (decision_by p (e ∷ es)) is)

    collecting : (l : Label) → w.label ≡ l → turn_of l ≡ Collecting → TallyAt (tally_of p es) r Collecting
    collecting l is turn = subst (TallyAt (tally_of p es) r) turn (subst (λ y. TallyAt (tally_of p es) r (turn_of y)) (w.here ∙ is) tied.tally)

    tied_at : (l : Label) → w.label ≡ l → TiedAt (bound p es) (session_of p es) r (tie_of l)
    tied_at l is = subst (λ y. TiedAt (bound p es) (session_of p es) r (tie_of y)) (w.here ∙ is) acc.tied

    tally_at : (l : Label) → w.label ≡ l → tally_of p (e ∷ es) ≡ tally_after l (record { cpu = r.collection.cpu; status = r.collection.status; apic = v }) r.outcome (tally_of p es)
    tally_at l is = tally_is ∙ ap (λ y. tally_after y (record { cpu = r.collection.cpu; status = r.collection.status; apic = v }) r.outcome (tally_of p es)) is

    held_at : (l : Label) → w.label ≡ l → (o : Option ℕ) → (tally_after l (record { cpu = r.collection.cpu; status = r.collection.status; apic = v }) r.outcome (tally_of p es)).runs ≡ false → (tally_after l (record { cpu = r.collection.cpu; status = r.collection.status; apic = v }) r.outcome (tally_of p es)).left ≡ o → held p (e ∷ es) ≡ o
    held_at l is o runs left = ap held_in (tally_at l is) ∙ rw (runs, left) refl

    taking_row : takes_up w.label ≡ true → OutcomesOf (next_at (layout_of p) (seat p s 0) s.monarch w.label (value_in e.answer)).monarch
    taking_row is = taking (λ l. w.label ≡ l → OutcomesOf (next_at (layout_of p) (seat p s 0) s.monarch l (value_in e.answer)).monarch) at_c3 at_c4 at_c6 at_t w.label is refl
      where
        k : Decision
        k = decision_now p (step_made s e t ∷ past)

        at_c3 : w.label ≡ C3 → OutcomesOf (next_at (layout_of p) (seat p s 0) s.monarch C3 (value_in e.answer)).monarch
        at_c3 l =
            let g = collecting C3 l refl in
            let ends = ends_collecting (rw (at_label C3 refl, l) refl) in
            let judged = judged_by C3 l (no_seven C3 l refl ∙ sym (tied_at C3 l).0) (held_at C3 l r.slots.held g.3.0 g.3.1) features refl in
            decision_found (decision_now p (step_made s e t ∷ past)) (open_triple p (e ∷ es)) p.apic r r.collection.reports
            (λ c same. taken_by (record r { collection = c }) ends (ap (λ (x : Tally). x.reports) (tally_at C3 l) ∙ (g.0 ∙ sym same)) (ap (λ (x : Tally). x.told) (tally_at C3 l) ∙ (g.1 ∙ sym g.2)) judged) (count_of p) v refl

        at_c4 : w.label ≡ C4 → OutcomesOf (next_at (layout_of p) (seat p s 0) s.monarch C4 (value_in e.answer)).monarch
        at_c4 l =
            let g = collecting C4 l refl in
            let ends = ends_collecting (rw (at_label C4 refl, l) (more (is_at p C3 e))) in
            let judged = judged_by C4 l (no_seven C4 l refl ∙ sym (tied_at C4 l).0) (held_at C4 l r.slots.held g.3.0 g.3.1) features refl in
            decision_judged (decision_now p (step_made s e t ∷ past)) (open_triple p (e ∷ es)) p.apic r r.collection.reports
            (λ c same. taken_by (record r { collection = c }) ends (ap (λ (x : Tally). x.reports) (tally_at C4 l) ∙ (g.0 ∙ sym same)) (ap (λ (x : Tally). x.told) (tally_at C4 l) ∙ (g.1 ∙ sym g.2)) judged) (count_of p) v refl
          where
            more : (c : Bool) → (c || true) ≡ true
            more true = refl
            more false = refl

        at_c6 : w.label ≡ C6 → OutcomesOf (next_at (layout_of p) (seat p s 0) s.monarch C6 (value_in e.answer)).monarch
        at_c6 l =
            let g = collecting C6 l refl in
            let ends = ends_collecting (rw (at_label C6 refl, l) (more (is_at p C3 e) (is_at p C4 e))) in
            let judged = judged_by C6 l (no_seven C6 l refl ∙ sym (tied_at C6 l).0) (held_at C6 l r.slots.held g.3.0 g.3.1) features refl in
            decision_reported (decision_now p (step_made s e t ∷ past)) (open_triple p (e ∷ es)) p.apic r (r.collection.reports ++ record { cpu = r.collection.cpu; status = r.collection.status; apic = v } ∷ [])
            (λ c same. taken_by (record r { collection = c }) ends (ap (λ (x : Tally). x.reports) (tally_at C6 l) ∙ (ap (λ ts. ts ++ record { cpu = r.collection.cpu; status = r.collection.status; apic = v } ∷ []) g.0 ∙ sym same)) (ap (λ (x : Tally). x.told) (tally_at C6 l) ∙ (g.1 ∙ sym g.2)) judged) (count_of p) v refl
          where
            more : (c d : Bool) → (c || (d || true)) ≡ true
            more true d = refl
            more false true = refl
            more false false = refl

        at_t : w.label ≡ T → OutcomesOf (next_at (layout_of p) (seat p s 0) s.monarch T (value_in e.answer)).monarch
        at_t l =
            let g : TallyAt (tally_of p es) r Telling = subst (λ y. TallyAt (tally_of p es) r (turn_of y)) (w.here ∙ l) tied.tally in
            let told_it : outcome_in e.event ≡ Some r.outcome = says ∙ rw l refl in
            let ends : ends_outcome p e ≡ true = rw told_it refl in
            let judged = judged_by T l (no_seven T l refl ∙ (sym (tied_at T l).0 ∙ sym (told_size r.outcome r))) (held_at T l (after_tell r.outcome r).slots.held refl g.left) (told_features r.outcome ∙ features) (told_size r.outcome r) in
            taken_by (after_tell r.outcome r) ends (ap (λ (x : Tally). x.reports) (tally_at T l) ∙ (g.is.reported ∙ sym (told_reports r.outcome))) (ap (λ (x : Tally). x.told) (tally_at T l) ∙ (g.is.taken_up ∙ sym (told_taken r.outcome))) judged
          where
            told_features : (o : Outcome) → (after_tell o r).features ≡ r.features
            told_features (outcome.Added cpu apic slot) = refl
            told_features (outcome.Ejected cpu apic slot) = refl
            told_features (outcome.Refused why) = refl

            told_reports : (o : Outcome) → (after_tell o r).collection.reports ≡ r.collection.reports
            told_reports (outcome.Added cpu apic slot) = refl
            told_reports (outcome.Ejected cpu apic slot) = refl
            told_reports (outcome.Refused why) = refl

            told_taken : (o : Outcome) → (after_tell o r).taken ≡ r.taken
            told_taken (outcome.Added cpu apic slot) = refl
            told_taken (outcome.Ejected cpu apic slot) = refl
            told_taken (outcome.Refused why) = refl

  outcomes_step : (n : Monarch) → MonarchStep p s e n → OutcomesOf n
  outcomes_step n (inl o) =
      let same = ap open_in (tally_still p es e o.elsewhere o.bounds o.told) in
      subst OutcomesOf (sym o.same)
      (subst (λ k. Decided k (open_triple p (e ∷ es)) r) (sym (decision_kept p past s t e (elsewhere_ends o.elsewhere o.bounds o.told) same)) (subst (λ x. Decided (decision_now p past) x r) (sym same) classed))
  outcomes_step n (inr (inl w)) = subst OutcomesOf (sym w.next) (by_row n w (takes_up w.label) refl)
    where
      by_row : (n : Monarch) (w : IsRow p s e n) (c : Bool) → takes_up w.label ≡ c → OutcomesOf (next_at (layout_of p) (seat p s 0) s.monarch w.label (value_in e.answer)).monarch
      by_row n w true is = taking_row n w is
      by_row n w false is = quiet_row n w is
  outcomes_step n (inr (inr (inl b))) = subst OutcomesOf (sym b.next) tt
  outcomes_step n (inr (inr (inr o))) = subst OutcomesOf (sym o.same) (subst (λ l. DecisionAt (decision_now p (step_made s e t ∷ past)) (open_triple p (e ∷ es)) r (turn_of l)) (sym o.here) tt)

pub outcomes_on : (p : Platform) (past : List Transition) (s t : State) (e : Entry) → Sound p → IsHanded p s → run_on p s e ≡ Some t → Accounted p past s → HeldTied p past s → FactsTied p past s → s.monarch.features ≡ p.features → OutcomesTied p past s → OutcomesTied p (step_made s e t ∷ past) t
outcomes_on p past s t e fit h on acc tied facts features classed =
    let m = made p s e t on in
    outcomes_step p past s t e fit h m.place (subst (Moves p s e.event) m.state (moves p s.writes s e.event m.after fit h m.step)) acc tied facts features classed t.monarch
    (subst (λ (u : State). MonarchStep p s e u.monarch) m.state (monarch_steps p s.writes s e m.after fit h m.step m.place m.answer))
