-- Questions: what a voice says to a list of them, in their order.
use Rattle.std.specs.Prelude.{Bool, not, ◌==◌, List, [], ◌∷◌}
use Rattle.hp_model.specs.declared.accesses.Access.{Access}
use Rattle.hp_model.specs.Voices.{Voice, Question, says, pen_page}

abbrev pub said_all : Voice → List Question → List Access
said_all v [] = []
said_all v (q ∷ qs) = (says v q).access ∷ said_all (says v q).voice qs

-- asked at another page than the pen's
abbrev pub is_elsewhere : Question → Bool
is_elsewhere q = not (q.page == pen_page)
