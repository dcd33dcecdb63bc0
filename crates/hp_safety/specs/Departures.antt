-- Who becomes absent, and by what.
use Rattle.std.specs.Prelude.{ℕ, Bool, true, false, ◌||◌, List, [], ◌∷◌}
use Rattle.hp_model.specs.declared.platforms.Platform.{Platform}
use Rattle.hp_model.specs.declared.labels.Label.TheVariants.{E4b}
use Rattle.hp_model.specs.Transitions.{Transition, left_in}
use Rattle.hp_model.specs.Account.{is_at}
use Rattle.hp_model.specs.Sessions.{interferes}

abbrev pub is_nobody : List ℕ → Bool
is_nobody [] = true
is_nobody (k ∷ ks) = false

-- whoever becomes absent does so at E4b, or by a write of the register block from outside SMM
abbrev pub leaves_by_block : Platform → List Transition → Transition → Bool
leaves_by_block p older x = is_nobody (left_in p x) || (is_at p E4b x.entry || interferes x.entry)
