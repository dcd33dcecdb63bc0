-- The APIC ID that is held as the entries say is the one of whoever changes its SMBASE.
use Rattle.std.specs.Prelude.{if◌then◌else◌}
use Rattle.std.proofs.Common.{ℕ, ◌≡◌, ◌+◌, ◌*◌, ◌≤◌, ◌==◌, ◌⊎◌, inl, inr, Bool, true, false, ◌||◌, List, [], ◌∷◌, ◌++◌, length, Option, Some, None, refl, sym, ap, subst, ◌∙◌, arith}
use Rattle.std.proofs.lemmas.Bool.{eqb-true}
use Rattle.std.proofs.lemmas.Bool.Decides.{nat_tests}
use Rattle.hp_model.specs.declared.platforms.Platform.{Platform}
use Rattle.hp_model.specs.declared.outcomes.Outcome.{Outcome}
use Rattle.hp_model.specs.declared.outcomes.Outcome.TheVariants as outcome
use Rattle.hp_model.specs.declared.entries.Entry.{Entry}
use Rattle.hp_model.specs.declared.entries.Event.{Event}
use Rattle.hp_model.specs.declared.entries.Event.TheVariants.{Do}
use Rattle.hp_model.specs.declared.labels.Label.{Label}
use Rattle.hp_model.specs.declared.labels.Label.TheVariants.{F1, C6, NB, T, E7}
use Rattle.hp_model.specs.Platform.{IsFit, count_of, tseg, tile, apic_of}
use Rattle.hp_model.specs.Memory.{Write}
use Rattle.hp_model.specs.Cpu.{smm_address}
use Rattle.hp_model.specs.Boot.{boot_access, value_in}
use Rattle.hp_model.specs.Labels.{index_of, cell_of}
use Rattle.hp_model.specs.SharedBytes.{layout_of}
use Rattle.hp_model.specs.Slots.{boot_ids}
use Rattle.hp_model.specs.declared.reports.Report.{Report}
use Rattle.hp_model.specs.Monarch.{Monarch, monarch_start, with_features, restarted, after_tell}
use Rattle.hp_model.specs.Handlers.{Seat, want_at, next_at, address_of_label}
use Rattle.hp_model.specs.State.{State, at, start}
use Rattle.hp_model.specs.Firmware.{seat, wanted_in}
use Rattle.hp_model.specs.Step.{After, step}
use Rattle.hp_model.specs.Runs.{run_on, address_of}
use Rattle.hp_model.specs.Events.{outcome_in, is_entry_of, is_resume_of}
use Rattle.hp_model.specs.Transitions.{Transition, transitions, entries_of, since, at_each, places, has_moved}
use Rattle.hp_model.specs.Account.{is_at, bound, held_by, left_held}
use Rattle.hp_model.specs.Sessions.{bounds_session, session, triple_by, triples, outcomes, is_tell, add_runs, held}
use Rattle.hp_model.specs.Exact.{is_held, moves_held}
use Rattle.hp_model.proofs.AtEach.{made as step_made, each_passes}
use Rattle.hp_sealed.specs.Left.{Sound}
use Rattle.hp_sealed.specs.Sealed.{IsSealed}
use Rattle.hp_sealed.specs.Booting.{IsBooting, IsBooted}
use Rattle.hp_sealed.proofs.Starts.{sound, starts}
use Rattle.hp_sealed.proofs.Goes.{stepped, boots_event, boot_goes, refused_goes}
use Rattle.hp_sealed.proofs.HandOver.{IsBefore, before_outside}
use Rattle.hp_sealed.proofs.Runs.{Made, made}
use Rattle.hp_safety.proofs.Needs.{need_of, is_open}
use Rattle.hp_safety.proofs.EachRow.{row_of_each}
use Rattle.hp_safety.proofs.Invariant.{facts_of, Met, is_past, is_settled}
use Rattle.hp_safety.proofs.Ties.{session_of, TiedAt, tie_of}
use Rattle.hp_safety.proofs.Backward.{since_it, since_other, session_on, session_none, triples_more, all_filtered}
use Rattle.hp_safety.proofs.Keeps.{is_that-is}
use Rattle.hp_safety.proofs.Marked.{at_none, same_index, at_monarch}
use Rattle.hp_safety.proofs.Accesses.{past_aloft}
use Rattle.hp_safety.proofs.GateRows.{Passes, Moves}
use Rattle.hp_safety.proofs.Moves.{moves}
use Rattle.hp_safety.proofs.Events.{keeps}
use Rattle.hp_safety.proofs.Runs.{IsHanded, rebase, sealed_handed}
use Rattle.hp_safety.proofs.Named.{Accounted, accounted_on, sealed_accounted, outside_address, bound_before}
use Rattle.hp_safety.proofs.Smbases.{IsChange, is_change, none_before, relocates}
use Rattle.hp_safety.proofs.MonarchSteps.{IsElsewhere, IsWanted, IsRow, MonarchStep, monarch_steps}
use Rattle.hp_safety.proofs.Tallies.{Tally, tally_of, tally_told, tally_reported, tally_after, tally_new, Waiting, Beginning, turn_of, IsIdle, TallyAt, Tallied}
use Rattle.hp_safety.proofs.Tallying.{row_tally, idle_resting, beginning_is, tally_held}

-- the tally over one entry more
runs_told : (p : Platform) (es : List Entry) (e : Entry) → is_tell e ≡ true → add_runs p (e ∷ es) ≡ false
runs_told p es e is = rw (since_it is_tell e es is) refl

runs_on : (p : Platform) (es : List Entry) (e : Entry) → is_tell e ≡ false → add_runs p (e ∷ es) ≡ (is_at p NB e || add_runs p es)
runs_on p es e is = rw (since_other is_tell e es is) refl

told_on_none : (es : List Entry) (e : Entry) → outcome_in e.event ≡ None → outcomes (e ∷ es) ≡ outcomes es
unfolding outcomes
told_on_none es e none = rw none refl

told_on_some : (es : List Entry) (e : Entry) (o : Outcome) → outcome_in e.event ≡ Some o → outcomes (e ∷ es) ≡ outcomes es ++ o ∷ []
unfolding outcomes
told_on_some es e o some = rw some refl

left_on : (es : List Entry) (e : Entry) → left_held (e ∷ es) ≡ held_by (left_held es) (outcome_in e.event)
unfolding left_held
left_on es e = refl

empty_triples : (p : Platform) → triples p [] ≡ []
unfolding triples
empty_triples p = refl

empty_outcomes : outcomes [] ≡ []
unfolding outcomes
empty_outcomes = refl

tells_none : (e : Entry) → outcome_in e.event ≡ None → is_tell e ≡ false
tells_none e none = rw none refl

-- an entry that neither reports nor tells
pub tally_still : (p : Platform) (es : List Entry) (e : Entry) → IsElsewhere p e → bounds_session e ≡ false → outcome_in e.event ≡ None → tally_of p (e ∷ es) ≡ tally_of p es
tally_still p es e away bound none =
    let six = away C6 refl in
    let begins = away NB refl in
    rw (session_on es e bound, triples_more p e (session es), six, told_on_none (session es) e none, runs_on p es e (tells_none e none), begins, left_on es e, none) refl

-- one that bounds a session
tally_bound : (p : Platform) (es : List Entry) (e : Entry) → is_at p NB e ≡ false → bounds_session e ≡ true → outcome_in e.event ≡ None → tally_of p (e ∷ es) ≡ tally_new (tally_of p es)
tally_bound p es e begins bound none = rw (session_none es e bound, empty_triples p, empty_outcomes, runs_on p es e (tells_none e none), begins, left_on es e, none) refl

-- a row's
length-more : {A : Type 0} (xs : List A) (x : A) → length (xs ++ x ∷ []) ≡ length xs + 1
length-more [] x = refl
length-more (y ∷ ys) x = let i = length-more ys x in omega (arith, i)

tally_row : (p : Platform) (es : List Entry) (e : Entry) (l : Label) (t : Report) (o : Outcome) → bounds_session e ≡ false → is_at p C6 e ≡ (index_of l == 10) → is_at p NB e ≡ (index_of l == 11) → ((index_of l == 10) ≡ true → triple_by p (session es) e ≡ t) → outcome_in e.event ≡ (if index_of l == 34 then Some o else None) → tally_of p (e ∷ es) ≡ tally_after l t o (tally_of p es)
tally_row p es e l t o bound six begins makes says = by_told (index_of l == 34) refl says
  where
    not_six : (n : ℕ) → (n == 34) ≡ true → (n == 10) ≡ false
    not_six n is = grind (arith, nat_tests)

    by_report : (c : Bool) → (index_of l == 10) ≡ c → (if c then triples p (session es) ++ triple_by p (session es) e ∷ [] else triples p (session es)) ≡ (if c then triples p (session es) ++ t ∷ [] else triples p (session es))
    by_report true is = ap (λ x. triples p (session es) ++ x ∷ []) (makes is)
    by_report false is = refl

    by_told : (c : Bool) → (index_of l == 34) ≡ c → outcome_in e.event ≡ (if c then Some o else None) → tally_of p (e ∷ es) ≡ (if c then tally_told o (tally_of p es) else record { reports = if index_of l == 10 then triples p (session es) ++ t ∷ [] else triples p (session es); told = length (outcomes (session es)); runs = (index_of l == 11) || add_runs p es; left = left_held es })
    by_told true is some =
        let tell : is_tell e ≡ true = rw some refl in
        rw (session_on es e bound, triples_more p e (session es), six, not_six (index_of l) is, told_on_some (session es) e o some, length-more (outcomes (session es)) o, runs_told p es e tell, left_on es e, some) refl
    by_told false is none =
        rw (session_on es e bound, triples_more p e (session es), six, by_report (index_of l == 10) refl, told_on_none (session es) e none, runs_on p es e (tells_none e none), begins, left_on es e, none) refl

-- what a row tells, and that it bounds no session
abbrev pub bounds_of : Event → Bool
bounds_of v = is_entry_of 0 v || is_resume_of 0 v

pub row_says : (p : Platform) (q : Seat) (r : Monarch) (ws : List Write) (apic base : ℕ) (v : Event) (l : Label) → Met p r ws apic base l → IsWanted (want_at (layout_of p) q r l) v → outcome_in v ≡ (if index_of l == 34 then Some r.outcome else None)
row_says p q r ws apic base v l met is = row_of_each (λ l. IsWanted (want_at (layout_of p) q r l) v → outcome_in v ≡ (if index_of l == 34 then Some r.outcome else None)) (record { f1 = λ w. ap outcome_in w; f2 = λ w. ap outcome_in w; f3 = λ w. ap outcome_in w; f4 = λ w. ap outcome_in w; f5 = λ w. ap outcome_in w; f6 = λ w. absurd w; r1 = λ w. ap outcome_in w; r2 = λ w. ap outcome_in w; r3 = λ w. ap outcome_in w; r4 = λ w. ap outcome_in w; r5 = λ w. absurd w; r6 = λ w. ap outcome_in w; s0 = λ w. ap outcome_in w; s1 = λ w. ap outcome_in w; s2 = λ w. ap outcome_in w; s3 = λ w. ap outcome_in w; s4 = λ w. ap outcome_in w; c1 = λ w. ap outcome_in w; c2 = λ w. ap outcome_in w; c3 = λ w. ap outcome_in w; c4 = λ w. ap outcome_in w; c5 = λ w. ap outcome_in w; c6 = λ w. ap outcome_in w; nb = λ w. ap outcome_in w; n0 = λ w. ap outcome_in w; n1 = λ w. ap outcome_in w; n2 = λ w. ap outcome_in w; n3 = λ w. ap outcome_in w; n4 = λ w. ap outcome_in w; n5 = λ w. ap outcome_in w; n6 = λ w. ap outcome_in w; n7 = λ w. ap outcome_in w; n8a = λ w. ap outcome_in w; n8b = λ w. ap outcome_in w; n9 = λ w. ap outcome_in w; n10 = λ w. ap outcome_in w; n11 = λ w. ap outcome_in w; e0 = λ w. ap outcome_in w; e1 = λ w. ap outcome_in w; e2 = λ w. ap outcome_in w; e3 = λ w. ap outcome_in w; e4a = λ w. ap outcome_in w; e4b = λ w. ap outcome_in w; e4c = λ w. ap outcome_in w; e4d = λ w. ap outcome_in w; e4e = λ w. ap outcome_in w; e4f = λ w. ap outcome_in w; e4g = λ w. ap outcome_in w; e4h = λ w. ap outcome_in w; t = λ w. ap outcome_in w; e5 = λ w. ap outcome_in w; e6 = λ w. ap outcome_in w; e7 = λ w. absurd w }) (facts_of p r ws apic base) l met is

pub row_bounds : (p : Platform) (q : Seat) (r : Monarch) (ws : List Write) (apic base : ℕ) (v : Event) (l : Label) → Met p r ws apic base l → IsWanted (want_at (layout_of p) q r l) v → bounds_of v ≡ false
row_bounds p q r ws apic base v l met is = row_of_each (λ l. IsWanted (want_at (layout_of p) q r l) v → bounds_of v ≡ false) (record { f1 = λ w. ap bounds_of w; f2 = λ w. ap bounds_of w; f3 = λ w. ap bounds_of w; f4 = λ w. ap bounds_of w; f5 = λ w. ap bounds_of w; f6 = λ w. absurd w; r1 = λ w. ap bounds_of w; r2 = λ w. ap bounds_of w; r3 = λ w. ap bounds_of w; r4 = λ w. ap bounds_of w; r5 = λ w. absurd w; r6 = λ w. ap bounds_of w; s0 = λ w. ap bounds_of w; s1 = λ w. ap bounds_of w; s2 = λ w. ap bounds_of w; s3 = λ w. ap bounds_of w; s4 = λ w. ap bounds_of w; c1 = λ w. ap bounds_of w; c2 = λ w. ap bounds_of w; c3 = λ w. ap bounds_of w; c4 = λ w. ap bounds_of w; c5 = λ w. ap bounds_of w; c6 = λ w. ap bounds_of w; nb = λ w. ap bounds_of w; n0 = λ w. ap bounds_of w; n1 = λ w. ap bounds_of w; n2 = λ w. ap bounds_of w; n3 = λ w. ap bounds_of w; n4 = λ w. ap bounds_of w; n5 = λ w. ap bounds_of w; n6 = λ w. ap bounds_of w; n7 = λ w. ap bounds_of w; n8a = λ w. ap bounds_of w; n8b = λ w. ap bounds_of w; n9 = λ w. ap bounds_of w; n10 = λ w. ap bounds_of w; n11 = λ w. ap bounds_of w; e0 = λ w. ap bounds_of w; e1 = λ w. ap bounds_of w; e2 = λ w. ap bounds_of w; e3 = λ w. ap bounds_of w; e4a = λ w. ap bounds_of w; e4b = λ w. ap bounds_of w; e4c = λ w. ap bounds_of w; e4d = λ w. ap bounds_of w; e4e = λ w. ap bounds_of w; e4f = λ w. ap bounds_of w; e4g = λ w. ap bounds_of w; e4h = λ w. ap bounds_of w; t = λ w. ap bounds_of w; e5 = λ w. ap bounds_of w; e6 = λ w. ap bounds_of w; e7 = λ w. absurd w }) (facts_of p r ws apic base) l met is

-- what the transitions of a run say of the held APIC ID after the hand-over; nobody is past the gate when an add begins and none was left
pub record HeldTied (p : Platform) (past : List Transition) (s : State) : Type 0 where
  pub tally : Tallied (tally_of p (entries_of past)) s.monarch
  pub fresh : turn_of s.monarch.label ≡ Beginning → (tally_of p (entries_of past)).left ≡ None → (k : ℕ) → is_past (smm_address (at s k)) ≡ false

module _ (p : Platform) (past : List Transition) (s t : State) (e : Entry) (fit : Sound p) (h : IsHanded p s) (place : address_of s e.event ≡ e.at) (move : Moves p s e.event t) (acc : Accounted p past s) (tied : HeldTied p past s) where
  abbrev es : List Entry
  es = entries_of past

  pub after_row : (r : Monarch) → (w : IsRow p s e r) → tally_of p (e ∷ es) ≡ tally_after w.label (record { cpu = s.monarch.collection.cpu; status = s.monarch.collection.status; apic = value_in e.answer }) s.monarch.outcome (tally_of p es)
  after_row r w =
      tally_row p es e w.label (record { cpu = s.monarch.collection.cpu; status = s.monarch.collection.status; apic = value_in e.answer }) s.monarch.outcome
      (row_bounds p (seat p s 0) s.monarch s.writes (apic_of p 0) (at s 0).base e.event w.label w.met w.wanted)
      (at_monarch p w.label C6 e (tile p 0) refl w.place refl) (at_monarch p w.label NB e (tile p 0) refl w.place refl)
      (λ is. makes (subst (λ l. TiedAt (bound p es) (session_of p es) s.monarch (tie_of l)) (w.here ∙ same_index w.label C6 w.side (eqb-true (index_of w.label) 10 is)) acc.tied))
      (row_says p (seat p s 0) s.monarch s.writes (apic_of p 0) (at s 0).base e.event w.label w.met w.wanted)
    where
      makes : TiedAt (bound p es) (session_of p es) s.monarch (tie_of C6) → triple_by p (session es) e ≡ record { cpu = s.monarch.collection.cpu; status = s.monarch.collection.status; apic = value_in e.answer }
      makes judged = rw (judged.2, judged.3) refl

  tally_on : (r : Monarch) → MonarchStep p s e r → Tallied (tally_of p (e ∷ es)) r
  tally_on r (inl o) = subst (λ x. Tallied (tally_of p (e ∷ es)) x) (sym o.same) (subst (λ a. Tallied a s.monarch) (sym (tally_still p es e o.elsewhere o.bounds o.told)) tied.tally)
  tally_on r (inr (inl w)) =
      subst (λ x. Tallied (tally_of p (e ∷ es)) x) (sym w.next)
      (subst (λ a. Tallied a (next_at (layout_of p) (seat p s 0) s.monarch w.label (value_in e.answer)).monarch) (sym (after_row r w))
      (row_tally (tally_of p es) (layout_of p) (seat p s 0) s.monarch (value_in e.answer) (facts_of p s.monarch s.writes (apic_of p 0) (at s 0).base) w.label w.side (λ f. w.here) w.met (subst (λ l. TallyAt (tally_of p es) s.monarch (turn_of l)) w.here tied.tally)))
  tally_on r (inr (inr (inl b))) =
      subst (λ x. Tallied (tally_of p (e ∷ es)) x) (sym b.next)
      (subst (λ a. Tallied a (restarted s.monarch)) (sym (tally_bound p es e (b.elsewhere NB refl) (ap bounds_of b.event) (ap outcome_in b.event)))
      (refl, refl, idle_resting (tally_of p es) s.monarch s.monarch.label b.rests tied.tally))
  tally_on r (inr (inr (inr o))) =
      let idle : IsIdle (tally_of p es) s.monarch = subst (λ l. TallyAt (tally_of p es) s.monarch (turn_of l)) o.here tied.tally in
      subst (λ x. Tallied (tally_of p (e ∷ es)) x) (sym o.same)
      (subst (λ a. Tallied a s.monarch) (sym (tally_bound p es e (at_monarch p E7 NB e (tile p 0) refl o.place refl) (ap bounds_of o.event) (ap outcome_in o.event)))
      (subst (λ l. TallyAt (tally_new (tally_of p es)) s.monarch (turn_of l)) (sym o.here) idle))

  -- whoever is past the gate when an add begins was so before, and its APIC ID was left
  none_held : {a : ℕ} → s.monarch.slots.held ≡ Some a → s.monarch.slots.held ≡ None → ⊥
  none_held held none = let both = sym none ∙ held in cc

  -- the add that is told lets go of nobody who is past the gate
  told_keeps : (o : Outcome) → s.monarch.outcome ≡ o → s.monarch.label ≡ T → (k : ℕ) → is_past (smm_address (at s k)) ≡ true → (after_tell o s.monarch).slots.held ≡ None → ⊥
  told_keeps (outcome.Added cpu apic slot) is here k was none =
      let settled : is_settled p s.monarch s.writes ≡ true = rw (here, is) refl in
      let both = sym (h.settled settled k) ∙ was in
      cc
  told_keeps (outcome.Ejected cpu apic slot) is here k was none = none_held (past_aloft p s.writes s k fit h was).held none
  told_keeps (outcome.Refused why) is here k was none = none_held (past_aloft p s.writes s k fit h was).held none

  row_keeps : (r : Monarch) (w : IsRow p s e r) → (tally_of p (e ∷ es)).runs ≡ false → (tally_of p (e ∷ es)).left ≡ None → (k : ℕ) → is_past (smm_address (at s k)) ≡ true → ⊥
  row_keeps r w runs left k was =
      let a = tally_of p es in
      let after = after_row r w in
      by_told (index_of w.label == 34) refl (sym (ap (λ (x : Tally). x.runs) after) ∙ runs) (sym (ap (λ (x : Tally). x.left) after) ∙ left)
    where
      held : s.monarch.slots.held ≡ Some (apic_of p k)
      held = (past_aloft p s.writes s k fit h was).held

      tally : TallyAt (tally_of p es) s.monarch (turn_of w.label)
      tally = subst (λ l. TallyAt (tally_of p es) s.monarch (turn_of l)) w.here tied.tally

      never : (a b : Bool) → (a || b) ≡ false → b ≡ false
      never true b f = absurd cc
      never false b f = f

      by_told : (c : Bool) → (index_of w.label == 34) ≡ c
          → (if c then tally_told s.monarch.outcome (tally_of p es) else tally_reported w.label (record { cpu = s.monarch.collection.cpu; status = s.monarch.collection.status; apic = value_in e.answer }) (tally_of p es)).runs ≡ false
          → (if c then tally_told s.monarch.outcome (tally_of p es) else tally_reported w.label (record { cpu = s.monarch.collection.cpu; status = s.monarch.collection.status; apic = value_in e.answer }) (tally_of p es)).left ≡ None → ⊥
      by_told true is quiet none =
          let label = same_index w.label T w.side (eqb-true (index_of w.label) 34 is) in
          let says = subst (λ l. TallyAt (tally_of p es) s.monarch (turn_of l)) label tally in
          told_keeps s.monarch.outcome refl (w.here ∙ label) k was (sym says.left ∙ none)
      by_told false is quiet none = elim (tally_held (tally_of p es) s.monarch (turn_of w.label) tally) [
        | inl same ↦ none_held held (sym same ∙ rw (never (index_of w.label == 11) (tally_of p es).runs quiet) none)
        | inr begins ↦ (let both = sym (tied.fresh (ap turn_of w.here ∙ begins.0) begins.1 k) ∙ was in cc)
      ]

  -- F1 is passed where the gate is open, and an add is about to begin where it is closed
  not_passed : (k : ℕ) → Passes p s e.event k → (r : Monarch) → MonarchStep p s e r → turn_of r.label ≡ Beginning → ⊥
  not_passed k w r (inl o) begins = elim h.gated [
    | inl shut ↦ no_id (apic_of p k) (fit.ids k) (sym shut ∙ w.value)
    | inr gate_open ↦
        let label : s.monarch.label ≡ NB = ap (λ (x : Monarch). x.label) (sym o.same) ∙ beginning_is r.label begins in
        let both : is_open (need_of NB) ≡ true = subst (λ l. is_open (need_of l) ≡ true) label gate_open.may in
        cc
  ]
    where
      no_id : (a : ℕ) → a ≤ 0xffffffff → 0xffffffffffffffff ≡ a → ⊥
      no_id a small f = omega (arith, small, f)
  not_passed k w r (inr (inl row)) begins =
      let here : Some (cell_of p F1 0) ≡ Some (address_of_label (tile p 0) row.label) = sym w.place ∙ (sym (ap (address_of s) w.event) ∙ (place ∙ row.place)) in
      far (tseg p) (index_of row.label) fit.above (some_same here)
    where
      some_same : {a b : ℕ} → Some a ≡ Some b → a ≡ b
      some_same f = ap value f
        where
          value : Option ℕ → ℕ
          value None = 0
          value (Some x) = x

      far : (base i : ℕ) → 0x800000 ≤ base → 0x38000 ≡ base + 0x20000 + 0 + 0x8000 + 4 * i → ⊥
      far base i above f = omega (arith, above, f)
  not_passed k w r (inr (inr (inl b))) begins = let both : turn_of (restarted s.monarch).label ≡ Beginning = subst (λ (x : Monarch). turn_of x.label ≡ Beginning) b.next begins in cc
  not_passed k w r (inr (inr (inr o))) begins = let both : turn_of E7 ≡ Beginning = sym (ap turn_of (ap (λ (x : Monarch). x.label) o.same ∙ o.here)) ∙ begins in cc

  was_kept : (k : ℕ) → is_past (smm_address (at s k)) ≡ true → (r : Monarch) → MonarchStep p s e r → turn_of r.label ≡ Beginning → (tally_of p (e ∷ es)).left ≡ None → Tallied (tally_of p (e ∷ es)) r → ⊥
  was_kept k was r (inl o) begins left tally =
      let same = tally_still p es e o.elsewhere o.bounds o.told in
      let both = sym (tied.fresh (sym (ap (λ (x : Monarch). turn_of x.label) o.same) ∙ begins) (sym (ap (λ (x : Tally). x.left) same) ∙ left) k) ∙ was in
      cc
  was_kept k was r (inr (inl w)) begins left tally = row_keeps r w (subst (TallyAt (tally_of p (e ∷ es)) r) begins tally).1 left k was
  was_kept k was r (inr (inr (inl b))) begins left tally = let both : turn_of (restarted s.monarch).label ≡ Beginning = subst (λ (x : Monarch). turn_of x.label ≡ Beginning) b.next begins in cc
  was_kept k was r (inr (inr (inr o))) begins left tally = let both : turn_of E7 ≡ Beginning = sym (ap turn_of (ap (λ (x : Monarch). x.label) o.same ∙ o.here)) ∙ begins in cc

  held_tied_on : MonarchStep p s e t.monarch → HeldTied p (step_made s e t ∷ past) t
  held_tied_on ms =
      let tally = tally_on t.monarch ms in
      record {
        tally = tally;
        fresh = λ begins left k. by_past tally begins left k (is_past (smm_address (at t k))) refl;
      }
    where
      by_past : Tallied (tally_of p (e ∷ es)) t.monarch → turn_of t.monarch.label ≡ Beginning → (tally_of p (e ∷ es)).left ≡ None → (k : ℕ) (c : Bool) → is_past (smm_address (at t k)) ≡ c → c ≡ false
      by_past tally begins left k false f = refl
      by_past tally begins left k true f = absurd (elim (move.climbs k f) [
        | inl was ↦ was_kept k was t.monarch ms begins left tally
        | inr passed ↦ not_passed k passed t.monarch ms begins
      ])

-- each step after the hand-over
pub held_on : (p : Platform) (past : List Transition) (s t : State) (e : Entry) → Sound p → IsHanded p s → run_on p s e ≡ Some t → Accounted p past s → HeldTied p past s → HeldTied p (step_made s e t ∷ past) t
held_on p past s t e fit h on acc tied =
    let m = made p s e t on in
    held_tied_on p past s t e fit h m.place (subst (Moves p s e.event) m.state (moves p s.writes s e.event m.after fit h m.step)) acc tied
    (subst (λ (u : State). MonarchStep p s e u.monarch) m.state (monarch_steps p s.writes s e m.after fit h m.step m.place m.answer))

-- before the hand-over nothing is reported or told
abbrev pub no_tally : Tally
no_tally = record { reports = []; told = 0; runs = false; left = None }

abbrev pub Knows : Platform → List Transition → State → Type 0
Knows p past s = (IsBefore p s × (bound p (entries_of past) ≡ boot_ids p) × (tally_of p (entries_of past) ≡ no_tally)) ⊎ (IsHanded p s × Accounted p past s × HeldTied p past s)

pub boot_event : (p : Platform) (s : State) (e : Event) (t : After) (h : IsBooting p s) → step p s e ≡ Some t → e ≡ Do 0 (boot_access p.tseg_mib h.supported h.done)
boot_event p s e t h is = boots_event p.tseg_mib h.done h.supported e (subst (λ g. wanted_in p s g e ≡ true) h.stage (stepped p s e t is).wanted)

module _ (p : Platform) (fits : IsFit p) where
  fit : Sound p
  fit = sound p fits

  pub knows_first : Knows p [] (start p)
  unfolding bound triples outcomes left_held since
  knows_first = inl (inl (starts p fits), refl, refl)

  pub tally_sealed : (past : List Transition) (s : State) → tally_of p (entries_of past) ≡ no_tally → IsSealed p s → HeldTied p past s
  tally_sealed past s none z = record {
    tally = subst (λ r. Tallied (tally_of p (entries_of past)) r) (sym z.cpus.begun) (subst (λ a. TallyAt a (with_features s.monarch.features (monarch_start p)) Waiting) (sym none) (refl, refl, (refl, refl)));
    fresh = λ begins left k. ap is_past (z.cpus.outside k);
  }

  knows_before : (past : List Transition) (s t : State) (e : Entry) → IsBefore p s → bound p (entries_of past) ≡ boot_ids p → tally_of p (entries_of past) ≡ no_tally → run_on p s e ≡ Some t → Knows p (step_made s e t ∷ past) t
  knows_before past s t e before same none on = by_before (made p s e t on) before (bound_before p fits past s t e before same on)
    where
      next_knows : (u : State) → bound p (e ∷ entries_of past) ≡ boot_ids p → tally_of p (e ∷ entries_of past) ≡ no_tally → IsBooted p u → Knows p (step_made s e u ∷ past) u
      next_knows u is still (inl b) = inl (inl b, is, still)
      next_knows u is still (inr (inl b)) = inl (inr b, is, still)
      next_knows u is still (inr (inr z)) = inr (sealed_handed p u z, sealed_accounted p (step_made s e u ∷ past) u is z, tally_sealed (step_made s e u ∷ past) u still z)

      by_before : Made p s e t → IsBefore p s → bound p (e ∷ entries_of past) ≡ boot_ids p → Knows p (step_made s e t ∷ past) t
      by_before m (inl b) is =
          let event = boot_event p s e.event m.after b m.step in
          let none_there : e.at ≡ None = sym m.place ∙ outside_address p s e.event (before_outside p s (inl b)) in
          let still = tally_still p (entries_of past) e (λ l mine. at_none p l e none_there) (ap bounds_of event) (ap outcome_in event) ∙ none in
          subst (λ u. Knows p (step_made s e u ∷ past) u) m.state (next_knows m.after.state is still (boot_goes p s e.event m.after fit b m.step).0)
      by_before m (inr b) is = absurd (refused_goes p s e.event m.after b m.step)

  pub knows_on : (past : List Transition) (s t : State) (e : Entry) → Knows p past s → run_on p s e ≡ Some t → Knows p (step_made s e t ∷ past) t
  knows_on past s t e (inl h) on = knows_before past s t e h.0 h.1 h.2 on
  knows_on past s t e (inr h) on =
      let m = made p s e t on in
      inr (subst (IsHanded p) m.state (rebase p s.writes m.after.state fit (keeps p s.writes s e.event m.after fit h.0 m.step)), accounted_on p past s t e fit h.0 on h.1, held_on p past s t e fit h.0 on h.1 h.2)

-- the law
itself : (n : ℕ) → (n == n) ≡ true
itself n = grind (arith, nat_tests)

holds_change : (p : Platform) (past : List Transition) (s t : State) (e : Entry) (k : ℕ) → Sound p → Knows p past s → run_on p s e ≡ Some t → IsChange s t k → is_held p past (step_made s e t) k ≡ true
holds_change p past s t e k fit (inl h) on c = absurd (none_before p s t e k h.0 on c)
holds_change p past s t e k fit (inr h) on c =
    let moved = relocates p s t e k fit h.0 on c in
    let resumes : is_resume_of k e.event ≡ true = ap (is_resume_of k) moved.event ∙ itself k in
    let held_is : s.monarch.slots.held ≡ Some (apic_of p k) = (past_aloft p s.writes s k fit h.0 moved.past).held in
    let tally : held p (entries_of past) ≡ s.monarch.slots.held = elim (tally_held (tally_of p (entries_of past)) s.monarch (turn_of s.monarch.label) h.2.tally) [
      | inl same ↦ same
      | inr begins ↦ absurd (let both = sym (h.2.fresh begins.0 begins.1 k) ∙ moved.past in cc)
    ] in
    rw resumes (is_that-is (held p (entries_of past)) (apic_of p k) (tally ∙ held_is))

pub held_law : (p : Platform) (es : List Entry) → IsFit p → at_each (moves_held p) (transitions p es) ≡ true
held_law p es fits =
    each_passes p (Knows p) (knows_on p fits) (moves_held p)
    (λ past s t e h on. all_filtered (is_held p past (step_made s e t)) (has_moved (step_made s e t)) (places (count_of p)) (λ k is. holds_change p past s t e k (sound p fits) h on (is_change s t e k is))) (knows_first p fits) es
