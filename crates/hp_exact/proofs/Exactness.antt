-- All parts of the law of sessions in one, and all laws of safety.
use Rattle.std.proofs.Common.{◌≡◌, true, List, [], ◌∷◌, Option, Some, None, refl}
use Rattle.std.proofs.lemmas.Bool.{and_from, and_parts}
use Rattle.hp_model.specs.declared.platforms.Platform.{Platform}
use Rattle.hp_model.specs.declared.outcomes.Outcome.{Outcome}
use Rattle.hp_model.specs.declared.outcomes.Outcome.TheVariants.{Added, Ejected, Refused}
use Rattle.hp_model.specs.declared.outcomes.Refusal.{Refusal}
use Rattle.hp_model.specs.declared.outcomes.Refusal.TheVariants.{Disabled, Both, AlreadyKnown, GateHeld, NotAtGate, NotCheckedIn, NoUnplug, NotKnown, NotArrived, NotParked, Foreign, StillPending}
use Rattle.hp_model.specs.declared.entries.Entry.{Entry}
use Rattle.hp_model.specs.Platform.{IsFit}
use Rattle.hp_model.specs.State.{State}
use Rattle.hp_model.specs.Runs.{run}
use Rattle.hp_model.specs.Events.{outcome_in}
use Rattle.hp_model.specs.Transitions.{Transition, transitions, at_each}
use Rattle.hp_model.specs.Outcomes.{Telling, telling, when_told, each_told, shows, is_refused}
use Rattle.hp_model.specs.Exact.{IsExact}
use Rattle.hp_model.specs.Safety.{IsSafe}
use Rattle.hp_safety.proofs.Answering.{answers_law}
use Rattle.hp_safety.proofs.Answered.{answered_law}
use Rattle.hp_safety.proofs.Held.{held_law}
use Rattle.hp_safety.proofs.Guarding.{guarded}
use Rattle.hp_exact.proofs.Showing.{shows_add, shows_refused, eject_shows, refusal_shows}
use Rattle.hp_exact.proofs.Quiet.{law as quiet_law}
use Rattle.hp_exact.proofs.Truth.{law as reports_law}
use Rattle.hp_exact.proofs.LostLaw.{law as lost_law}
use Rattle.hp_exact.proofs.AddingLaw.{adds_law}
use Rattle.hp_exact.proofs.EjectsLaw.{law as ejects_law}

refused : (p : Platform) (t : Telling) (why : Refusal) → shows_refused p t why ≡ true → refusal_shows p t why ≡ true → is_refused p t why ≡ true
refused p t (NotAtGate cpu apic) a e = a
refused p t (NotCheckedIn cpu apic) a e = a
refused p t (Disabled cpu status) a e = e
refused p t (Both cpu status) a e = e
refused p t (AlreadyKnown cpu apic slot) a e = e
refused p t (GateHeld cpu apic other) a e = e
refused p t (NoUnplug cpu features) a e = e
refused p t (NotKnown cpu apic) a e = e
refused p t (NotArrived cpu apic) a e = e
refused p t (NotParked cpu apic) a e = e
refused p t (Foreign cpu apic) a e = e
refused p t (StillPending cpu status) a e = e

told : (p : Platform) (past : List Transition) (s : State) (o : Option Outcome)
    → when_told p (shows_add p) past s o ≡ true → when_told p (eject_shows p) past s o ≡ true → when_told p (shows p) past s o ≡ true
told p past s None a e = refl
told p past s (Some (Added cpu apic slot)) a e = a
told p past s (Some (Ejected cpu apic slot)) a e = e
told p past s (Some (Refused why)) a e = refused p (telling p past s (Refused why)) why a e

-- what shows of adds and of ejects is all that shows
each : (p : Platform) (xs : List Transition) → each_told p (shows_add p) xs ≡ true → each_told p (eject_shows p) xs ≡ true → each_told p (shows p) xs ≡ true
unfolding at_each
each p [] a e = refl
each p (x ∷ older) a e =
    let adds = and_parts (when_told p (shows_add p) older x.before (outcome_in x.entry.event)) (each_told p (shows_add p) older) a in
    let ejects = and_parts (when_told p (eject_shows p) older x.before (outcome_in x.entry.event)) (each_told p (eject_shows p) older) e in
    and_from (when_told p (shows p) older x.before (outcome_in x.entry.event)) (each_told p (shows p) older)
    (told p older x.before (outcome_in x.entry.event) adds.0 ejects.0)
    (each p older adds.1 ejects.1)

pub shows_law : (p : Platform) (es : List Entry) → IsFit p → each_told p (shows p) (transitions p es) ≡ true
shows_law p es fits = each p (transitions p es) (adds_law p es fits) (ejects_law p es fits)

pub exact_law : (p : Platform) (es : List Entry) → IsFit p → IsExact p es
exact_law p es fits =
    record {
      quiet = quiet_law p es fits;
      reports = reports_law p es fits;
      outcomes_answer = answers_law p es fits;
      all_answered = answered_law p es fits;
      outcomes_show = shows_law p es fits;
      none_lost = lost_law p es fits;
      held_alone = held_law p es fits;
    }

pub safe_law : (p : Platform) (es : List Entry) (s : State) → IsFit p → run p es ≡ Some s → IsSafe p es
safe_law p es s fits is = record { guarded = guarded p es s fits is; exact = exact_law p es fits }
