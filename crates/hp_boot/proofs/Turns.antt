-- Turns of the boot: what one makes, and how the boot stands after it.
use Rattle.std.proofs.Common.{◌≡◌, ◌⊎◌, inl, inr, ℕ, Bool, true, false, ◌&&◌, List, [], ◌∷◌, Option, Some, None, refl, ap, ◌∙◌, if◌then◌else◌}
use Rattle.std.specs.Prelude.{slice_set}
use Rattle.hp_model.specs.declared.platforms.Platform.{Platform}
use Rattle.hp_model.specs.declared.entries.Actor.{Actor}
use Rattle.hp_model.specs.declared.entries.Actor.TheVariants.{Cpu}
use Rattle.hp_model.specs.declared.entries.Event.{Event}
use Rattle.hp_model.specs.declared.entries.Event.TheVariants.{Do}
use Rattle.hp_model.specs.declared.outcomes.BootFact.{BootFact}
use Rattle.hp_model.specs.Boot.{Stage, Boots, Refused, Handed, boot_access, stage_after}
use Rattle.hp_model.specs.State.{State}
use Rattle.hp_model.specs.Access.{normal}
use Rattle.hp_model.specs.Firmware.{is_wanted, wanted_in}
use Rattle.hp_model.specs.Step.{After, is_enabled, answer_of, after, step}
use Rattle.hp_model.specs.declared.accesses.Answer.{Answer}
use Rattle.hp_model.specs.declared.turns.Due.{Due}
use Rattle.hp_model.specs.declared.turns.Due.TheVariants.{Idle, Makes, Asks}
use Rattle.hp_model.specs.Schedule.{Scene, makes_none, made_by, said_by, does, act, act_all}
use Rattle.hp_model.specs.Turn.{due_in, due_of}
use Rattle.hp_model.specs.Voices.{Voice}
use Rattle.hp_model.proofs.Scheduled.{does_if}

unwanted : (b c : Bool) (a : After) → c ≡ false → (if b && c then Some a else None) ≡ None
unwanted true true a h = cc
unwanted true false a h = refl
unwanted false true a h = refl
unwanted false false a h = refl

pub refused_stays : (p : Platform) (s : State) (fact : BootFact) (e : Event) → s.stage ≡ Refused fact → step p s e ≡ None
unfolding step
refused_stays p s fact e at = unwanted (is_enabled p s e) (is_wanted p s e) (after p s e) (ap (λ (t : Stage). wanted_in p s t e) at)

-- a refused boot makes nothing more
act_refused : (p : Platform) (w : Scene) (fact : BootFact) (a : Actor) → w.state.stage ≡ Refused fact → act p w a ≡ makes_none w
unfolding act
act_refused p w fact a at = ap (λ (t : Stage). does p w (due_in p w.state t a)) at

pub all_refused : (p : Platform) (w : Scene) (fact : BootFact) (as' : List Actor) → w.state.stage ≡ Refused fact → act_all p w as' ≡ makes_none w
unfolding act_all
all_refused p w fact [] at = refl
all_refused p w fact (a ∷ as') at = rw (act_refused p w fact a at, all_refused p w fact as' at) refl

-- a step is what `after` says, where there is one
pub step_either : (p : Platform) (s : State) (e : Event) → (step p s e ≡ None) ⊎ (step p s e ≡ Some (after p s e))
unfolding step
step_either p s e = by_guard (is_enabled p s e && is_wanted p s e)
  where
    by_guard : (b : Bool) → ((if b then Some (after p s e) else None) ≡ None) ⊎ ((if b then Some (after p s e) else None) ≡ Some (after p s e))
    by_guard true = inr refl
    by_guard false = inl refl

-- what is handed over stays so
act_handed : (p : Platform) (w : Scene) (requested : ℕ) (a : Actor) → w.state.stage ≡ Handed requested → (act p w a).scene.state.stage ≡ Handed requested
unfolding act
act_handed p w requested a at = by_due (due_of p w.state a)
  where
    by_event : (e : Event) (voices : List Voice) (last : Answer → List Answer) → (made_by w e voices last (step p w.state e)).scene.state.stage ≡ Handed requested
    by_event e voices last = by_step (step_either p w.state e)
      where
        by_step : (step p w.state e ≡ None) ⊎ (step p w.state e ≡ Some (after p w.state e)) → (made_by w e voices last (step p w.state e)).scene.state.stage ≡ Handed requested
        by_step (inl none) = ap (λ (o : Option After). (made_by w e voices last o).scene.state.stage) none ∙ at
        by_step (inr some) =
            ap (λ (o : Option After). (made_by w e voices last o).scene.state.stage) some
            ∙ ap (stage_after p.tseg_mib (answer_of w.state e)) at

    by_due : (d : Due) → (does p w d).scene.state.stage ≡ Handed requested
    by_due Idle = at
    by_due (Makes e) = by_event e w.voices (λ answer. w.last)
    by_due (Asks k) = by_event (Do k (normal (said_by w k).access)) (slice_set w.voices k (said_by w k).voice) (slice_set w.last k)

pub all_handed : (p : Platform) (w : Scene) (requested : ℕ) (as' : List Actor) → w.state.stage ≡ Handed requested → (act_all p w as').scene.state.stage ≡ Handed requested
unfolding act_all
all_handed p w requested [] at = at
all_handed p w requested (a ∷ as') at = all_handed p (act p w a).scene requested as' (act_handed p w requested a at)

-- before both, a turn of processor 0 is the boot's next access
pub act_boots : (p : Platform) (w : Scene) (done supported : ℕ) → w.state.stage ≡ Boots done supported →
    act p w (Cpu 0) ≡ made_by w (Do 0 (boot_access p.tseg_mib supported done)) w.voices (λ answer. w.last) (step p w.state (Do 0 (boot_access p.tseg_mib supported done)))
unfolding act
act_boots p w done supported at =
    ap (λ (t : Stage). does p w (due_in p w.state t (Cpu 0))) at ∙ does_if p w (Do 0 (boot_access p.tseg_mib supported done))
