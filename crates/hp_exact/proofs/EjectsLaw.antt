-- The law: what is told of an eject shows in the entries of its outcome.
use Rattle.std.proofs.Common.{◌≡◌, ◌==◌, inl, inr, Bool, true, false, ◌&&◌, ◌||◌, List, [], ◌∷◌, Some, refl, sym, subst, ◌∙◌, arith}
use Rattle.std.proofs.lemmas.Bool.{and_from}
use Rattle.hp_model.specs.declared.platforms.Platform.{Platform}
use Rattle.hp_model.specs.declared.labels.Label.TheVariants.{T}
use Rattle.hp_model.specs.declared.outcomes.Outcome.{Outcome}
use Rattle.hp_model.specs.declared.outcomes.Outcome.TheVariants.{Added, Ejected, Refused}
use Rattle.hp_model.specs.declared.entries.Entry.{Entry}
use Rattle.hp_model.specs.Platform.{IsFit}
use Rattle.hp_model.specs.Block.{is_in}
use Rattle.hp_model.specs.Boot.{is_handed}
use Rattle.hp_model.specs.Slots.{slot_among}
use Rattle.hp_model.specs.State.{State, start}
use Rattle.hp_model.specs.Firmware.{same_outcome}
use Rattle.hp_model.specs.Events.{outcome_in}
use Rattle.hp_model.specs.Runs.{run_on}
use Rattle.hp_model.specs.Transitions.{Transition, transitions, entries_of}
use Rattle.hp_model.specs.Account.{bound}
use Rattle.hp_model.specs.Sessions.{is_disturbed}
use Rattle.hp_model.specs.Outcomes.{own_of, telling, when_told, each_told, departures, is_eject_of, is_only}
use Rattle.hp_model.proofs.AtEach.{made, each_passes}
use Rattle.hp_sealed.specs.Left.{Sound}
use Rattle.hp_model.proofs.Same.{same_outcome-equal}
use Rattle.hp_sealed.proofs.Starts.{sound}
use Rattle.hp_safety.proofs.Ties.{session_of, TiedAt, tie_of}
use Rattle.hp_safety.proofs.Named.{Accounted}
use Rattle.hp_safety.proofs.Held.{Knows, knows_first, knows_on}
use Rattle.hp_exact.proofs.Stood.{IsStood, stood}
use Rattle.hp_exact.proofs.Stepping.{AtMonarch, told_by}
use Rattle.hp_exact.proofs.Naming.{ids_of, polled}
use Rattle.hp_exact.proofs.Invariant.{Invariant}
use Rattle.hp_exact.proofs.Wholes.{fresh_at_hand_over, silent_before}
use Rattle.hp_exact.proofs.Quiet.{handed_of}
use Rattle.hp_exact.proofs.Ejecting.{shows_reads, may_tell, SaidAt}
use Rattle.hp_exact.proofs.EjectTold.{eject_slot, Refusing, refusing_begins, refusing_goes, refused_by}
use Rattle.hp_exact.proofs.EjectTie.{Gone, PartsAt}
use Rattle.hp_exact.proofs.PartSteps.{parts_go}
use Rattle.hp_exact.proofs.Parked.{parts_fresh}
use Rattle.hp_exact.proofs.Showing.{eject_shows_in, eject_shows}

-- every state of a run
record Ejecting (p : Platform) (past : List Transition) (s : State) : Type 0 where
  refusing : Refusing p past s
  knows : Knows p past s
  parts : is_handed s.stage ≡ true → PartsAt p (own_of p past) s.disturbed s.cpus s.writes s.monarch s.monarch.label

begins : (p : Platform) → IsFit p → Ejecting p [] (start p)
begins p fits = record { refusing = refusing_begins p fits; knows = knows_first p fits; parts = λ e. absurd cc }

-- what ties bound APIC IDs to the entries
accounted_of : (p : Platform) (past : List Transition) (s : State) → Knows p past s → is_handed s.stage ≡ true → Accounted p past s
accounted_of p past s (inl (inl k, b, c)) handed = absurd (let stage = k.stage in let early : is_handed s.stage ≡ false = rw stage refl in let both : true ≡ false = sym handed ∙ early in cc)
accounted_of p past s (inl (inr k, b, c)) handed = absurd (let stage = k.stage in let early : is_handed s.stage ≡ false = rw stage refl in let both : true ≡ false = sym handed ∙ early in cc)
accounted_of p past s (inr k) handed = k.1

goes : (p : Platform) → IsFit p → (past : List Transition) (s t : State) (e : Entry) → Ejecting p past s → run_on p s e ≡ Some t → Ejecting p (made s e t ∷ past) t
goes p fits past s t e h is = record { refusing = next; knows = knows_on p fits past s t e h.knows is; parts = by_stage (is_handed s.stage) refl }
  where
    fit : Sound p
    fit = sound p fits

    next : Refusing p (made s e t ∷ past) t
    next = refusing_goes p fit (ids_of p fits) (polled p fits) past s t e h.refusing is

    by_stage : (b : Bool) → is_handed s.stage ≡ b → is_handed t.stage ≡ true → PartsAt p (own_of p (made s e t ∷ past)) t.disturbed t.cpus t.writes t.monarch t.monarch.label
    by_stage true on over =
        let whole = h.refusing.lossless.whole in
        let handed = handed_of p s whole.good on in
        parts_go p fit (ids_of p fits) past s (stood p s fit handed) (whole.handed on) (h.refusing.lossless.losses on) (λ mine. let less = eject_slot p s handed mine in let few = fit.few in omega (arith, less, few)) handed.slots.slotted (h.parts on) e t is
        (handed_of p t next.lossless.whole.good over).recorded.1
    by_stage false on over = parts_fresh p (own_of p (made s e t ∷ past)) t.disturbed t.cpus t.writes t.monarch t.monarch.label (fresh_at_hand_over p s t e fit h.refusing.lossless.whole.good on is over)

-- what is told
eject_by : (p : Platform) (past : List Transition) (s : State) (d : Bool) → is_disturbed p (entries_of past) ≡ d → s.monarch.slots.bound ≡ bound p (entries_of past) → (o u : Outcome) → Gone p (own_of p past) d s.monarch o → shows_reads p (entries_of (own_of p past)) o ≡ true → (d ≡ false → may_tell o ≡ true) → eject_shows_in p (telling p past s u) o ≡ true
eject_by p past s d is same (Added cpu apic slot) u gone shows may = refl
eject_by p past s d is same (Ejected cpu apic slot) u gone shows may =
    and_from (is_in apic (bound p (entries_of past)) && (slot_among (bound p (entries_of past)) apic == slot)) (is_disturbed p (entries_of past) || is_only (is_eject_of p cpu slot) (departures p (own_of p past)))
    (subst (λ ids. (is_in apic ids && (slot_among ids apic == slot)) ≡ true) same gone.0) (by_flag d is gone.1)
  where
    by_flag : (b : Bool) → is_disturbed p (entries_of past) ≡ b → (b ≡ false → is_only (is_eject_of p cpu slot) (departures p (own_of p past)) ≡ true) → (is_disturbed p (entries_of past) || is_only (is_eject_of p cpu slot) (departures p (own_of p past))) ≡ true
    by_flag true f alone = rw f refl
    by_flag false f alone = rw f (alone refl)
eject_by p past s d is same (Refused why) u gone shows may = refused_by p past s d is why shows may u

module _ (p : Platform) (past : List Transition) (s : State) (standing : IsStood p s) (h : Invariant p past s) (accounted : Accounted p past s) (said : SaidAt p (entries_of (own_of p past)) s.disturbed s.writes s.monarch s.monarch.label)
    (parts : PartsAt p (own_of p past) s.disturbed s.cpus s.writes s.monarch s.monarch.label) where
  told_test : (o : Outcome) → AtMonarch p s T → same_outcome o s.monarch.outcome ≡ true → eject_shows p (telling p past s o) ≡ true
  told_test o here same =
      let now : SaidAt p (entries_of (own_of p past)) s.disturbed s.writes s.monarch T = subst (SaidAt p (entries_of (own_of p past)) s.disturbed s.writes s.monarch) here.label said in
      let gone : PartsAt p (own_of p past) s.disturbed s.cpus s.writes s.monarch T = subst (PartsAt p (own_of p past) s.disturbed s.cpus s.writes s.monarch) here.label parts in
      let tied : TiedAt (bound p (entries_of past)) (session_of p (entries_of past)) s.monarch (tie_of T) = subst (λ l. TiedAt (bound p (entries_of past)) (session_of p (entries_of past)) s.monarch (tie_of l)) here.label accounted.tied in
      let flag = (h.tied.called (let label = here.label in rw label refl)).2 in
      subst (λ w. eject_shows_in p (telling p past s o) w ≡ true) (sym (same_outcome-equal o s.monarch.outcome same))
      (eject_by p past s s.disturbed flag tied.0 s.monarch.outcome o gone now.0 now.1)

  told_after : (e : Entry) (t : State) → run_on p s e ≡ Some t → when_told p (eject_shows p) past s (outcome_in e.event) ≡ true
  told_after e t is = told_by p (eject_shows p) past s standing told_test e t is

test_passes : (p : Platform) → Sound p → (past : List Transition) (s t : State) (e : Entry) → Ejecting p past s → run_on p s e ≡ Some t → when_told p (eject_shows p) past s (outcome_in e.event) ≡ true
test_passes p fit past s t e h is = by_stage (is_handed s.stage) refl
  where
    by_stage : (b : Bool) → is_handed s.stage ≡ b → when_told p (eject_shows p) past s (outcome_in e.event) ≡ true
    by_stage true on = let whole = h.refusing.lossless.whole in told_after p past s (stood p s fit (handed_of p s whole.good on)) (whole.handed on) (accounted_of p past s h.knows on) (h.refusing.said on) (h.parts on) e t is
    by_stage false on = silent_before p (eject_shows p) past s t e h.refusing.lossless.whole.good on is

pub law : (p : Platform) (es : List Entry) → IsFit p → each_told p (eject_shows p) (transitions p es) ≡ true
law p es fits =
    each_passes p (Ejecting p) (λ past s t e h is. goes p fits past s t e h is) (λ older x. when_told p (eject_shows p) older x.before (outcome_in x.entry.event)) (λ past s t e h is. test_passes p (sound p fits) past s t e h is) (begins p fits) es
