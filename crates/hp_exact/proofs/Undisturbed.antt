-- Under prompt delivery no session is disturbed, and so nobody else is blamed.
use Rattle.std.proofs.Common.{◌≡◌, Bool, true, false, not, ◌&&◌, ◌||◌, List, [], ◌∷◌, Option, Some, None, refl, sym, ap, ◌∙◌, if◌then◌else◌}
use Rattle.std.specs.Option.{unwrap_or}
use Rattle.std.specs.Prelude.{option_map}
use Rattle.std.proofs.lemmas.Bool.{and_from, and_parts}
use Rattle.hp_model.specs.declared.platforms.Platform.{Platform}
use Rattle.hp_model.specs.declared.outcomes.Outcome.{Outcome}
use Rattle.hp_model.specs.declared.outcomes.Outcome.TheVariants.{Added, Ejected, Refused}
use Rattle.hp_model.specs.declared.outcomes.Refusal.{Refusal}
use Rattle.hp_model.specs.declared.outcomes.Refusal.TheVariants.{Disabled, Both, AlreadyKnown, GateHeld, NotAtGate, NotCheckedIn, NoUnplug, NotKnown, NotArrived, NotParked, Foreign, StillPending}
use Rattle.hp_model.specs.declared.entries.Event.{Event}
use Rattle.hp_model.specs.declared.entries.Event.TheVariants.{Insert, Remove, Do, TakeSmi, TakeInit, Resume, Tell}
use Rattle.hp_model.specs.declared.entries.Entry.{Entry}
use Rattle.hp_model.specs.Platform.{IsFit, is_late}
use Rattle.hp_model.specs.State.{State}
use Rattle.hp_model.specs.Ports.{writes_block}
use Rattle.hp_model.specs.Events.{access_in, outcome_in, acts}
use Rattle.hp_model.specs.Transitions.{Transition, transitions, entries_of, since, at_each, at_each_state}
use Rattle.hp_model.specs.Sessions.{bounds_session, is_called_in, is_outside, interferes, disturbed_in, is_disturbed}
use Rattle.hp_model.specs.Outcomes.{telling, when_told, each_told, shows, is_refused, is_still_pending, own_of}
use Rattle.hp_model.specs.Exact.{is_quiet}
use Rattle.hp_exact.specs.Refusals.{blames_others, is_blaming}
use Rattle.hp_exact.proofs.Account.{Account, account_more, account_bound}
use Rattle.hp_exact.proofs.Quiet.{law as quiet_law}
use Rattle.hp_exact.proofs.Exactness.{shows_law}

-- whoever interferes acts
write_acts : (e : Event) → unwrap_or (option_map writes_block (access_in e)) false ≡ true → acts e ≡ true
write_acts (Insert k) h = absurd cc
write_acts (Remove k) h = absurd cc
write_acts (Do k a) h = refl
write_acts (TakeSmi k) h = absurd cc
write_acts (TakeInit k) h = absurd cc
write_acts (Resume k) h = absurd cc
write_acts (Tell o) h = absurd cc

-- what quiet says of a transition
quiet_of : (p : Platform) (past : List Transition) (x : Transition) → is_quiet p past x ≡ true → is_late p.delivery ≡ false → acts x.entry.event ≡ true → is_outside x.entry.at ≡ true → is_called_in p (entries_of past) ≡ false
unfolding is_quiet
quiet_of p past x h prompt acting outside = by_test (not (is_late p.delivery) && (acts x.entry.event && is_outside x.entry.at)) (is_called_in p (entries_of past)) (rw (prompt, acting, outside) refl) h
  where
    by_test : (b c : Bool) → b ≡ true → (elim b as (λ _. Bool) [ true ↦ not c | false ↦ true ]) ≡ true → c ≡ false
    by_test true true f g = absurd cc
    by_test true false f g = refl
    by_test false c f g = absurd cc

module _ (p : Platform) (prompt : is_late p.delivery ≡ false) where
  none_before : is_disturbed p [] ≡ false
  unfolding disturbed_in since
  none_before = refl

  -- so no entry disturbs the session
  calm_more : (older : List Transition) (x : Transition) → is_quiet p older x ≡ true → is_disturbed p (entries_of older) ≡ false → is_disturbed p (entries_of (x ∷ older)) ≡ false
  calm_more older x quiet calm = by_bound (bounds_session x.entry) refl
    where
      es : List Entry
      es = entries_of older

      by_writer : (b : Bool) → interferes x.entry ≡ b → (if b then is_called_in p es || is_disturbed p es else is_disturbed p es) ≡ false
      by_writer true is =
          let parts = and_parts (is_outside x.entry.at) (unwrap_or (option_map writes_block (access_in x.entry.event)) false) is in
          let uncalled = quiet_of p older x quiet prompt (write_acts x.entry.event parts.1) parts.0 in
          rw (uncalled, calm) refl
      by_writer false is = calm

      by_bound : (b : Bool) → bounds_session x.entry ≡ b → is_disturbed p (x.entry ∷ es) ≡ false
      by_bound true is = ap (λ (a : Account). a.disturbed) (account_bound p x.entry es is)
      by_bound false is = ap (λ (a : Account). a.disturbed) (account_more p x.entry es is) ∙ by_writer (interferes x.entry) refl

  calm : (xs : List Transition) → at_each (is_quiet p) xs ≡ true → is_disturbed p (entries_of xs) ≡ false
  unfolding at_each
  calm [] quiet = none_before
  calm (x ∷ older) quiet = let parts = and_parts (is_quiet p older x) (at_each (is_quiet p) older) quiet in calm_more older x parts.0 (calm older parts.1)

  calm_at_each : (xs : List Transition) → at_each (is_quiet p) xs ≡ true → at_each_state p (λ older s. not (is_disturbed p older)) xs ≡ true
  unfolding at_each at_each_state
  calm_at_each [] quiet = ap not none_before
  calm_at_each (x ∷ older) quiet =
      let parts = and_parts (is_quiet p older x) (at_each (is_quiet p) older) quiet in
      let now = calm_more older x parts.0 (calm older parts.1) in
      and_from (not (is_disturbed p (entries_of (x ∷ older)))) (at_each_state p (λ es s. not (is_disturbed p es)) older) (ap not now) (calm_at_each older parts.1)

  -- a refusal that blames others shows that the session is disturbed
  refusal_tame : (past : List Transition) (s : State) (why : Refusal) → is_disturbed p (entries_of past) ≡ false → is_refused p (telling p past s (Refused why)) why ≡ true → not (blames_others why) ≡ true
  refusal_tame past s (Disabled cpu status) still h = refl
  refusal_tame past s (Both cpu status) still h = refl
  refusal_tame past s (AlreadyKnown cpu apic slot) still h = refl
  refusal_tame past s (GateHeld cpu apic other) still h = refl
  refusal_tame past s (NotAtGate cpu apic) still h = refl
  refusal_tame past s (NotCheckedIn cpu apic) still h = refl
  refusal_tame past s (NoUnplug cpu features) still h = refl
  refusal_tame past s (NotKnown cpu apic) still h = refl
  refusal_tame past s (NotArrived cpu apic) still h = refl
  refusal_tame past s (NotParked cpu apic) still h = refl
  refusal_tame past s (Foreign cpu apic) still h = absurd (let both : false ≡ true = sym still ∙ h in cc)
  refusal_tame past s (StillPending cpu status) still h =
      absurd (let parts = and_parts (is_disturbed p (entries_of past)) (is_still_pending p status (entries_of (own_of p past))) h in let both : false ≡ true = sym still ∙ parts.0 in cc)

  told_tame : (past : List Transition) (s : State) (o : Option Outcome) → is_disturbed p (entries_of past) ≡ false → when_told p (shows p) past s o ≡ true → when_told p (λ t. not (is_blaming t.outcome)) past s o ≡ true
  told_tame past s None still h = refl
  told_tame past s (Some (Added cpu apic slot)) still h = refl
  told_tame past s (Some (Ejected cpu apic slot)) still h = refl
  told_tame past s (Some (Refused why)) still h = refusal_tame past s why still h

  tame_at_each : (xs : List Transition) → at_each (is_quiet p) xs ≡ true → each_told p (shows p) xs ≡ true → each_told p (λ t. not (is_blaming t.outcome)) xs ≡ true
  unfolding at_each
  tame_at_each [] quiet shown = refl
  tame_at_each (x ∷ older) quiet shown =
      let calms = and_parts (is_quiet p older x) (at_each (is_quiet p) older) quiet in
      let parts = and_parts (when_told p (shows p) older x.before (outcome_in x.entry.event)) (each_told p (shows p) older) shown in
      and_from (when_told p (λ t. not (is_blaming t.outcome)) older x.before (outcome_in x.entry.event)) (each_told p (λ t. not (is_blaming t.outcome)) older)
      (told_tame older x.before (outcome_in x.entry.event) (calm older calms.1) parts.0)
      (tame_at_each older calms.1 parts.1)

pub undisturbed_law : (p : Platform) (es : List Entry) → IsFit p → is_late p.delivery ≡ false → at_each_state p (λ older s. not (is_disturbed p older)) (transitions p es) ≡ true
undisturbed_law p es fits prompt = calm_at_each p prompt (transitions p es) (quiet_law p es fits)

pub blameless_law : (p : Platform) (es : List Entry) → IsFit p → is_late p.delivery ≡ false → each_told p (λ t. not (is_blaming t.outcome)) (transitions p es) ≡ true
blameless_law p es fits prompt = tame_at_each p prompt (transitions p es) (quiet_law p es fits) (shows_law p es fits)
