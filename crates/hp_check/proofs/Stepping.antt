-- An event that is made is the entry's step where its answer and its address are the entry's.
use Rattle.std.proofs.Common.{◌≡◌, ℕ, Bool, true, false, not, ◌&&◌, Option, Some, None, refl, sym, ap, subst, ◌∙◌, if◌then◌else◌}
use Rattle.std.specs.Prelude.{option_and_then}
use Rattle.hp_model.specs.declared.platforms.Platform.{Platform}
use Rattle.hp_model.specs.declared.accesses.Answer.{Answer}
use Rattle.hp_model.specs.declared.entries.Entry.{Entry}
use Rattle.hp_model.specs.Runs.{accept, address_of, run_on, same_address, same_answer}
use Rattle.hp_model.specs.State.{State}
use Rattle.hp_model.specs.Step.{After, after, step}
use Rattle.hp_platform.specs.Live.{Applies, IsApplied, IsRefused, Live}
use Rattle.hp_check.specs.Walk.{Steps, Walk, is_told}

abbrev pub walk : Live → Bool → Walk
walk l stopped = record { platform = l.platform; state = l.state; stopped = stopped }

module _ (old new : Live) (e : Entry) where
  abbrev here : Option ℕ
  here = address_of old.state e.event

  -- what the entry leads to, where its event is a step
  on_step : (v : Answer) → IsApplied old new e.event v → run_on old.platform old.state e ≡ (if is_told e (Some v) here then Some new.state else None)
  unfolding run_on
  on_step v applied =
      ap (option_and_then (accept e here)) applied.is.step
      ∙ ap (λ (w : Answer). if same_answer w e.answer && same_address here e.at then Some (after old.platform old.state e.event).state else None) (sym applied.is.answer)
      ∙ ap (λ (s : State). if is_told e (Some v) here then Some s else None) (sym applied.state)

  off_step : IsRefused old new e.event → run_on old.platform old.state e ≡ None
  unfolding run_on
  off_step refused = ap (option_and_then (accept e here)) refused.none

  by_answer : (b c : Bool) → run_on old.platform old.state e ≡ (if b then Some new.state else None) → Steps (walk old c) (walk new (not b)) e b
  by_answer true c is = record { step = is; going = refl }
  by_answer false c is = record { none = is; stopped = refl }

  on_answer : (o : Option Answer) (c : Bool) → Applies old new e.event o → Steps (walk old c) (walk new (not (is_told e o here))) e (is_told e o here)
  on_answer (Some v) c applied = by_answer (is_told e (Some v) here) c (on_step v applied)
  on_answer None c refused = record { none = off_step refused; stopped = refl }

  pub walked : (o : Option Answer) (c b : Bool) (at : Option ℕ) → at ≡ here → b ≡ is_told e o at → Applies old new e.event o → Steps (walk old c) (walk new (not b)) e b
  walked o c b at same told applied =
      subst (λ (d : Bool). Steps (walk old c) (walk new (not d)) e d) (sym (told ∙ ap (is_told e o) same)) (on_answer o c applied)
