-- The hand-over of a run, and that SMRAM is sealed by it.
use Rattle.std.specs.Prelude.{ℕ, ◌≡◌, false, List, [], ◌∷◌, ◌++◌, Some}
use Rattle.hp_model.specs.declared.platforms.Platform.{Platform}
use Rattle.hp_model.specs.declared.entries.Entry.{Entry}
use Rattle.hp_model.specs.Boot.{is_handed}
use Rattle.hp_model.specs.State.{State}
use Rattle.hp_model.specs.Runs.{run}
use Rattle.hp_model.specs.Safety.{IsUntouched}
use Rattle.hp_sealed.specs.Sealed.{IsSealed}

-- the run has the entry that hands the machine over; the state after it is sealed, and no write has covered a byte since it was locked
pub record WasSealed (p : Platform) (es : List Entry) : Type 0 where
  pub boot : List Entry
  pub last : Entry
  pub rest : List Entry
  pub from : State
  pub to : State
  pub split : es ≡ boot ++ last ∷ rest
  pub before : run p boot ≡ Some from
  pub boots : is_handed from.stage ≡ false
  pub after : run p (boot ++ last ∷ []) ≡ Some to
  pub sealed : IsSealed p to
  pub untouched : (x : ℕ) → IsUntouched p (boot ++ last ∷ []) to x
