-- Which of the agents that are handed in a processor gets.
use Rattle.std.specs.Prelude.{List, [], ◌∷◌, Option, Some, None}
use Rattle.hp_model.specs.declared.files.VoiceKind.{VoiceKind}
use Rattle.hp_model.specs.declared.files.VoiceKind.TheVariants.{Script, Os, Pen, Seeded, Handed}

-- one of kind handed the first of them, if there is one, and of another kind none
abbrev pub first_for : {X : Type 0} → VoiceKind → List X → Option X
first_for (Script steps) handed = None
first_for Os handed = None
first_for Pen handed = None
first_for (Seeded seed) handed = None
first_for Handed [] = None
first_for Handed (x ∷ handed) = Some x

-- those that are left for the processors after it
abbrev pub rest_for : {X : Type 0} → VoiceKind → List X → List X
rest_for (Script steps) handed = handed
rest_for Os handed = handed
rest_for Pen handed = handed
rest_for (Seeded seed) handed = handed
rest_for Handed [] = []
rest_for Handed (x ∷ handed) = handed
