-- The law: each outcome answers the session's first report without one, by the decision that the entries give it.
use Rattle.std.specs.Prelude.{slice_index_or, if◌then◌else◌}
use Rattle.std.proofs.Common.{ℕ, zero, suc, ◌≡◌, ◌<◌, ◌==◌, ◌⊎◌, inl, inr, Bool, true, false, List, [], ◌∷◌, length, replicate, Option, Some, None, refl, sym, ap, subst, ◌∙◌, arith}
use Rattle.std.proofs.lemmas.Bool.{eqb-true}
use Rattle.std.proofs.lemmas.List.{length-map}
use Rattle.std.proofs.lemmas.Option.{same_Some}
use Rattle.hp_model.specs.declared.platforms.Platform.{Platform}
use Rattle.hp_model.specs.declared.outcomes.Outcome.{Outcome}
use Rattle.hp_model.specs.declared.entries.Entry.{Entry}
use Rattle.hp_model.specs.declared.labels.Label.TheVariants.{T}
use Rattle.hp_model.specs.Platform.{IsFit, apic_of}
use Rattle.hp_model.specs.Block.{is_in}
use Rattle.hp_model.specs.Labels.{index_of}
use Rattle.hp_model.specs.Slots.{slots_start, boot_ids, slot_among, is_known as known_in}
use Rattle.hp_model.specs.Monarch.{Monarch}
use Rattle.hp_model.specs.State.{State, at, start}
use Rattle.hp_model.specs.Firmware.{seat}
use Rattle.hp_model.specs.Runs.{run_on}
use Rattle.hp_model.specs.Events.{outcome_in}
use Rattle.hp_model.specs.Transitions.{Transition, transitions, entries_of}
use Rattle.hp_model.specs.Account.{is_known as known_by}
use Rattle.hp_model.specs.Sessions.{open_triple}
use Rattle.hp_model.specs.Outcomes.{answers_by, answers, when_told, each_told}
use Rattle.hp_model.proofs.AtEach.{made as step_made, each_passes}
use Rattle.hp_model.proofs.Counts.{place_below}
use Rattle.hp_sealed.specs.Left.{Sound}
use Rattle.hp_sealed.specs.Sealed.{Placed, IsSealed}
use Rattle.hp_sealed.specs.Booting.{IsBooted}
use Rattle.hp_sealed.proofs.Starts.{sound, starts}
use Rattle.hp_sealed.proofs.Goes.{boot_goes, refused_goes}
use Rattle.hp_sealed.proofs.HandOver.{IsBefore}
use Rattle.hp_sealed.proofs.Runs.{Made, made}
use Rattle.hp_safety.proofs.Marked.{same_index}
use Rattle.hp_safety.proofs.Events.{keeps}
use Rattle.hp_safety.proofs.Runs.{IsHanded, rebase}
use Rattle.hp_safety.proofs.Named.{Accounted, accounted_on}
use Rattle.hp_safety.proofs.MonarchSteps.{MonarchStep, monarch_steps}
use Rattle.hp_safety.proofs.Tallies.{turn_of}
use Rattle.hp_safety.proofs.Held.{HeldTied, held_on, Knows, knows_first, knows_on, row_says, boot_event}
use Rattle.hp_safety.proofs.FactRows.{known_out}
use Rattle.hp_safety.proofs.Looks.{length-unread}
use Rattle.hp_safety.proofs.Facts.{FactsTied, known_more, facts_on}
use Rattle.hp_safety.proofs.Decisions.{DecisionAt}
use Rattle.hp_safety.proofs.Outcoming.{decision_now, OutcomesTied, outcomes_on}

-- the boot processors are known at the start
index_true : (n k : ℕ) → k < n → slice_index_or (replicate n true) k false ≡ true
index_true zero k less = absurd (omega (arith, less))
index_true (suc n) zero less = refl
index_true (suc n) (suc k) less = index_true n k (omega (arith, less))

known_start : (p : Platform) (a : ℕ) → Placed p (slots_start p) → known_in (slots_start p) a ≡ is_in a (boot_ids p)
known_start p a placed = by_bound (is_in a (boot_ids p)) refl
  where
    by_bound : (c : Bool) → is_in a (boot_ids p) ≡ c → known_in (slots_start p) a ≡ c
    by_bound true is =
        let below = place_below (boot_ids p) a is in
        let size : length (boot_ids p) ≡ length p.boot = length-map p.boot (apic_of p) in
        index_true (length p.boot) (slot_among (boot_ids p) a) (omega (arith, below, size))
    by_bound false is = known_out p (slots_start p) a placed is

facts_sealed : (p : Platform) (past : List Transition) (s : State) → ((a : ℕ) → known_by p (entries_of past) a ≡ is_in a (boot_ids p)) → IsSealed p s → FactsTied p past s
facts_sealed p past s known z =
    let begun = z.cpus.begun in
    let placed : Placed p (slots_start p) = subst (λ (r : Monarch). Placed p r.slots) begun z.cpus.recorded.1 in
    record {
      known = λ a. known a ∙ (sym (known_start p a placed) ∙ ap (λ (r : Monarch). known_in r.slots a) (sym begun));
      size = subst (λ (r : Monarch). length r.last ≡ length r.slots.bound) (sym begun) (length-unread 2 (length (boot_ids p)));
      seen = λ f. absurd (let g = sym (ap (λ (r : Monarch). r.label) begun) ∙ f in cc);
      features = z.features;
      looks = λ b is. absurd (let both = sym (z.cpus.outside 0) ∙ is in cc);
    }

outcomes_sealed : (p : Platform) (past : List Transition) (s : State) → IsSealed p s → OutcomesTied p past s
outcomes_sealed p past s z = subst (λ (r : Monarch). DecisionAt (decision_now p past) (open_triple p (entries_of past)) r (turn_of r.label)) (sym z.cpus.begun) tt

-- what is known of each state, with what reports are judged by, and what outcomes follow from
abbrev pub Judges : Platform → List Transition → State → Type 0
Judges p past s = Knows p past s × ((IsBefore p s × ((a : ℕ) → known_by p (entries_of past) a ≡ is_in a (boot_ids p))) ⊎ (IsHanded p s × Accounted p past s × HeldTied p past s × FactsTied p past s × OutcomesTied p past s))

module _ (p : Platform) (fits : IsFit p) where
  fit : Sound p
  fit = sound p fits

  judges_first : Judges p [] (start p)
  unfolding known_by
  judges_first = (knows_first p fits, inl (inl (starts p fits), λ a. refl))

  judges_before : (past : List Transition) (s t : State) (e : Entry) → IsBefore p s → ((a : ℕ) → known_by p (entries_of past) a ≡ is_in a (boot_ids p)) → Knows p past s → run_on p s e ≡ Some t → Judges p (step_made s e t ∷ past) t
  judges_before past s t e before known knows on = by_before (made p s e t on) before (knows_on p fits past s t e knows on)
    where
      -- what is known after a hand-over is known with the rest
      handed : (u : State) → ((a : ℕ) → known_by p (e ∷ entries_of past) a ≡ is_in a (boot_ids p)) → Knows p (step_made s e u ∷ past) u → IsBooted p u → Judges p (step_made s e u ∷ past) u
      handed u still all (inl b) = (all, inl (inl b, still))
      handed u still all (inr (inl b)) = (all, inl (inr b, still))
      handed u still (inl k) (inr (inr z)) = (inl k, inl (k.0, still))
      handed u still (inr k) (inr (inr z)) = (inr k, inr (k.0, k.1, k.2, facts_sealed p (step_made s e u ∷ past) u still z, outcomes_sealed p (step_made s e u ∷ past) u z))

      by_before : Made p s e t → IsBefore p s → Knows p (step_made s e t ∷ past) t → Judges p (step_made s e t ∷ past) t
      by_before m (inl b) all =
          let event = boot_event p s e.event m.after b m.step in
          let none : outcome_in e.event ≡ None = ap outcome_in event in
          subst (λ u. Knows p (step_made s e u ∷ past) u → Judges p (step_made s e u ∷ past) u) m.state
          (λ k. handed m.after.state (λ a. known_more p (entries_of past) e a ∙ (rw none refl ∙ known a)) k (boot_goes p s e.event m.after fit b m.step).0) all
      by_before m (inr b) all = absurd (refused_goes p s e.event m.after b m.step)

  judges_on : (past : List Transition) (s t : State) (e : Entry) → Judges p past s → run_on p s e ≡ Some t → Judges p (step_made s e t ∷ past) t
  judges_on past s t e h on = by_kind h.0 h.1
    where
      by_kind : Knows p past s → (IsBefore p s × ((a : ℕ) → known_by p (entries_of past) a ≡ is_in a (boot_ids p))) ⊎ (IsHanded p s × Accounted p past s × HeldTied p past s × FactsTied p past s × OutcomesTied p past s) → Judges p (step_made s e t ∷ past) t
      by_kind knows (inl k) = judges_before past s t e k.0 k.1 knows on
      by_kind knows (inr k) = to (knows_on p fits past s t e (inr (k.0, k.1, k.2)) on)
        where
          m : Made p s e t
          m = made p s e t on

          to : Knows p (step_made s e t ∷ past) t → Judges p (step_made s e t ∷ past) t
          to all = (
            all,
            inr (
              subst (IsHanded p) m.state (rebase p s.writes m.after.state fit (keeps p s.writes s e.event m.after fit k.0 m.step)),
              accounted_on p past s t e fit k.0 on k.1,
              held_on p past s t e fit k.0 on k.1 k.2,
              facts_on p past s t e fit k.0 on k.2 k.3,
              outcomes_on p past s t e fit k.0 on k.1 k.2 k.3 k.3.features k.4,
            ),
          )

  -- what is told
  told_answers : (past : List Transition) (s : State) (e : Entry) (r : Monarch) (o : Outcome) → OutcomesTied p past s → MonarchStep p s e r → outcome_in e.event ≡ Some o → answers_by (decision_now p past) o (open_triple p (entries_of past)) ≡ true
  told_answers past s e r o classed (inl x) is = absurd (let both = sym x.told ∙ is in cc)
  told_answers past s e r o classed (inr (inl w)) is = by_told (index_of w.label == 34) refl (sym (row_says p (seat p s 0) s.monarch s.writes (apic_of p 0) (at s 0).base e.event w.label w.met w.wanted) ∙ is)
    where
      by_told : (c : Bool) → (index_of w.label == 34) ≡ c → (if c then Some s.monarch.outcome else None) ≡ Some o → answers_by (decision_now p past) o (open_triple p (entries_of past)) ≡ true
      by_told true f g =
          let label = same_index w.label T w.side (eqb-true (index_of w.label) 34 f) in
          let says = subst (λ l. DecisionAt (decision_now p past) (open_triple p (entries_of past)) s.monarch (turn_of l)) (w.here ∙ label) classed in
          subst (λ x. answers_by (decision_now p past) x (open_triple p (entries_of past)) ≡ true) (same_Some s.monarch.outcome o g) says
      by_told false f g = absurd cc
  told_answers past s e r o classed (inr (inr (inl b))) is = absurd (let both = sym (ap outcome_in b.event) ∙ is in cc)
  told_answers past s e r o classed (inr (inr (inr x))) is = absurd (let both = sym (ap outcome_in x.event) ∙ is in cc)

  answers_told : (past : List Transition) (s t : State) (e : Entry) → Judges p past s → run_on p s e ≡ Some t → when_told p answers past s (outcome_in e.event) ≡ true
  answers_told past s t e h on = by_outcome (outcome_in e.event) refl h.1
    where
      m : Made p s e t
      m = made p s e t on

      by_outcome : (o : Option Outcome) → outcome_in e.event ≡ o → (IsBefore p s × ((a : ℕ) → known_by p (entries_of past) a ≡ is_in a (boot_ids p))) ⊎ (IsHanded p s × Accounted p past s × HeldTied p past s × FactsTied p past s × OutcomesTied p past s) → when_told p answers past s o ≡ true
      by_outcome None is k = refl
      by_outcome (Some o) is (inl k) = absurd (silent k.0)
        where
          silent : IsBefore p s → ⊥
          silent (inl b) = let both = sym (ap outcome_in (boot_event p s e.event m.after b m.step)) ∙ is in cc
          silent (inr b) = refused_goes p s e.event m.after b m.step
      by_outcome (Some o) is (inr k) = told_answers past s e m.after.state.monarch o k.4 (monarch_steps p s.writes s e m.after fit k.0 m.step m.place m.answer) is

pub answers_law : (p : Platform) (es : List Entry) → IsFit p → each_told p answers (transitions p es) ≡ true
answers_law p es fits =
    each_passes p (Judges p) (judges_on p fits) (λ older x. when_told p answers older x.before (outcome_in x.entry.event)) (λ past s t e h on. answers_told p fits past s t e h on) (judges_first p fits) es
