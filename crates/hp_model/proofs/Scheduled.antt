-- The entries that the schedule makes are a run.
use Rattle.std.proofs.Common.{◌≡◌, ℕ, zero, suc, Bool, true, false, ◌&&◌, ◌+◌, List, [], ◌∷◌, ◌++◌, replicate, Option, Some, None, option_and_then, IsSome, refl, sym, ap, subst, ◌∙◌, arith, if◌then◌else◌}
use Rattle.std.specs.Prelude.{slice_set}
use Rattle.std.proofs.lemmas.Option.{same_Some}
use Rattle.std.proofs.lemmas.Bool.Decides.{nat_tests}
use Rattle.hp_model.specs.declared.platforms.Platform.{Platform}
use Rattle.hp_model.specs.declared.accesses.Answer.{Answer}
use Rattle.hp_model.specs.declared.accesses.Answer.TheVariants.{Quiet, Value}
use Rattle.hp_model.specs.declared.entries.Actor.{Actor}
use Rattle.hp_model.specs.declared.entries.Actor.TheVariants as actor
use Rattle.hp_model.specs.declared.entries.Event.{Event}
use Rattle.hp_model.specs.declared.entries.Event.TheVariants as event
use Rattle.hp_model.specs.declared.entries.Entry.{Entry}
use Rattle.hp_model.specs.declared.files.File.{File}
use Rattle.hp_model.specs.declared.turns.Due.{Due}
use Rattle.hp_model.specs.declared.turns.Due.TheVariants.{Idle, Makes, Asks}
use Rattle.hp_model.specs.State.{State, start}
use Rattle.hp_model.specs.Access.{normal}
use Rattle.hp_model.specs.Firmware.{is_wanted}
use Rattle.hp_model.specs.Step.{After, after, is_enabled, step}
use Rattle.hp_model.specs.Turn.{due_of, makes_if}
use Rattle.hp_model.specs.Voices.{Voice}
use Rattle.hp_model.specs.Runs.{same_answer, same_address, address_of, accept, run_on, run_from, run}
use Rattle.hp_model.specs.Schedule.{Scene, Made, makes_none, both_make, made_by, said_by, entry_of, does, act, act_all, actors_of, turns_from, boot_turns, booted, scheduled, scene_start}

pub same_answer-refl : (a : Answer) → same_answer a a ≡ true
same_answer-refl Quiet = refl
same_answer-refl (Value v) = grind (arith, nat_tests)

pub same_address-refl : (x : Option ℕ) → same_address x x ≡ true
same_address-refl None = refl
same_address-refl (Some v) = grind (arith, nat_tests)

-- a run of two parts, where the first part leads to t
pub run_from-append : (p : Platform) (es fs : List Entry) (s t : State) →
    run_from p s es ≡ Some t → run_from p s (es ++ fs) ≡ run_from p t fs
unfolding run_from
run_from-append p [] fs s t e = ap (λ u. run_from p u fs) (same_Some s t e)
run_from-append p (x ∷ es) fs s t e = onward (run_on p s x) (λ u. run_from-append p es fs u t) e
  where
    onward : (n : Option State) → ((u : State) → run_from p u es ≡ Some t → run_from p u (es ++ fs) ≡ run_from p t fs) →
        option_and_then (λ u. run_from p u es) n ≡ Some t → option_and_then (λ u. run_from p u (es ++ fs)) n ≡ run_from p t fs
    onward None more e = cc
    onward (Some u) more e = more u e

-- a run of one entry more
pub run_from-more : (p : Platform) (es : List Entry) (e : Entry) (s t u : State) →
    run_from p s es ≡ Some t → run_on p t e ≡ Some u → run_from p s (es ++ e ∷ []) ≡ Some u
unfolding run_from
run_from-more p es e s t u is on = run_from-append p es (e ∷ []) s t is ∙ ap (option_and_then (λ (v : State). run_from p v [])) on

pub run-more : (p : Platform) (es : List Entry) (e : Entry) (s t : State) → run p es ≡ Some s → run_on p s e ≡ Some t → run p (es ++ e ∷ []) ≡ Some t
unfolding run
run-more p es e s t is on = run_from-more p es e (start p) s t is on

-- a part of the schedule is a run from the state of its scene to that of the scene after it
pub record IsRun (p : Platform) (w : Scene) (m : Made) : Type 0 where
  pub runs : run_from p w.state m.entries ≡ Some m.scene.state

accept-own : (s : State) (a : After) (w : Scene) (e : Event) → accept (entry_of w e a) (address_of w.state e) a ≡ Some a.state
accept-own s a w e = rw (same_answer-refl, same_address-refl) refl

made_runs : (p : Platform) (w : Scene) (e : Event) (voices : List Voice) (last : Answer → List Answer) → IsRun p w (made_by w e voices last (step p w.state e))
unfolding run_from run_on
made_runs p w e voices last = by_step (step p w.state e) refl
  where
    by_step : (n : Option After) → step p w.state e ≡ n → IsRun p w (made_by w e voices last n)
    by_step None none = record { runs = refl }
    by_step (Some after) some = record { runs = rw (some, accept-own w.state after w e) refl }

IsRun-does : (p : Platform) (w : Scene) (d : Due) → IsRun p w (does p w d)
unfolding run_from
IsRun-does p w Idle = record { runs = refl }
IsRun-does p w (Makes e) = made_runs p w e w.voices (λ answer. w.last)
IsRun-does p w (Asks k) = made_runs p w (event.Do k (normal (said_by w k).access)) (slice_set w.voices k (said_by w k).voice) (slice_set w.last k)

IsRun-act : (p : Platform) (w : Scene) (a : Actor) → IsRun p w (act p w a)
unfolding act
IsRun-act p w a = IsRun-does p w (due_of p w.state a)

-- an event that is made where it may be is made where it is a step: one that isn't enabled is none
pub does_if : (p : Platform) (w : Scene) (e : Event) → does p w (makes_if p w.state e) ≡ made_by w e w.voices (λ answer. w.last) (step p w.state e)
unfolding step
does_if p w e = by (is_enabled p w.state e) refl
  where
    by : (b : Bool) → is_enabled p w.state e ≡ b →
        does p w (if b then Makes e else Idle) ≡ made_by w e w.voices (λ answer. w.last) (if b && is_wanted p w.state e then Some (after p w.state e) else None)
    by true enabled = rw (enabled) refl
    by false disabled = refl

IsRun-both : (p : Platform) (w : Scene) (m n : Made) → IsRun p w m → IsRun p m.scene n → IsRun p w (both_make m n)
IsRun-both p w m n first second = record { runs = run_from-append p m.entries n.entries w.state m.scene.state first.runs ∙ second.runs }

IsRun-none : (p : Platform) (w : Scene) → IsRun p w (makes_none w)
unfolding run_from
IsRun-none p w = record { runs = refl }

IsRun-all : (p : Platform) (actors : List Actor) (w : Scene) → IsRun p w (act_all p w actors)
unfolding act_all
IsRun-all p [] w = IsRun-none p w
IsRun-all p (a ∷ as') w = IsRun-both p w (act p w a) (act_all p (act p w a).scene as') (IsRun-act p w a) (IsRun-all p as' (act p w a).scene)

IsRun-turns : (f : File) (n turn : ℕ) (w : Scene) → IsRun f.platform w (turns_from f n turn w)
unfolding turns_from
IsRun-turns f zero turn w = IsRun-none f.platform w
IsRun-turns f (suc n) turn w =
    IsRun-both f.platform w (act_all f.platform w (actors_of f turn)) (turns_from f n (turn + 1) (act_all f.platform w (actors_of f turn)).scene)
    (IsRun-all f.platform (actors_of f turn) w) (IsRun-turns f n (turn + 1) (act_all f.platform w (actors_of f turn)).scene)

-- the machine makes each entry of the boot, one after another
pub booted_runs : (p : Platform) (vs : List Voice) → IsSome (run p (booted p vs).entries)
unfolding run booted
booted_runs p vs = subst (λ (r : Option State). IsSome r) (sym (IsRun-all p (replicate (boot_turns p) (actor.Cpu 0)) (scene_start p vs)).runs) refl

-- and each of the schedule, one after another
pub scheduled_runs : (f : File) (vs : List Voice) → IsSome (run f.platform (scheduled f vs))
unfolding run scheduled booted
scheduled_runs f vs =
    let p = f.platform in
    let boot = IsRun-all p (replicate (boot_turns p) (actor.Cpu 0)) (scene_start p vs) in
    let all = IsRun-both p (scene_start p vs) (booted p vs) (turns_from f p.turns 0 (booted p vs).scene) boot (IsRun-turns f p.turns 0 (booted p vs).scene) in
    subst (λ (r : Option State). IsSome r) (sym all.runs) refl

pub ruleset runs = (scheduled_runs, booted_runs)
