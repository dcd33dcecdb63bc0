-- Rows of the monarch on its record alone: where a list of answers leads it.
use Rattle.std.specs.Prelude.{ℕ, List, [], ◌∷◌}
use Rattle.hp_model.specs.declared.platforms.Platform.{Platform}
use Rattle.hp_model.specs.declared.platforms.Delivery.TheVariants.{Late}
use Rattle.hp_model.specs.declared.accesses.Answer.{Answer}
use Rattle.hp_model.specs.declared.accesses.Answer.TheVariants.{Quiet, Value}
use Rattle.hp_model.specs.declared.labels.Label.{Label}
use Rattle.hp_model.specs.declared.labels.Label.TheVariants.{C3, E0}
use Rattle.hp_model.specs.Boot.{value_in}
use Rattle.hp_model.specs.SharedBytes.{layout_of}
use Rattle.hp_model.specs.Eject.{eject_of}
use Rattle.hp_model.specs.Monarch.{Monarch, monarch_start, at_label}
use Rattle.hp_model.specs.Handlers.{Seat, next_at}
use Rattle.hp_worked.specs.Files.{one_of_two, two_processors}

-- processor 0, in the tile of slot 0
abbrev pub monarch_seat : Seat
monarch_seat = record { apic = 0; slot = 0; base = 0 }

-- the record after its label's row has this answer
abbrev pub fed_one : Platform → Answer → Monarch → Monarch
fed_one p answer r = (next_at (layout_of p) monarch_seat r r.label (value_in answer)).monarch

unfoldable pub fed : Platform → List Answer → Monarch → Monarch
fed p [] r = r
fed p (answer ∷ answers) r = fed p answers (fed_one p answer r)

-- the labels on the way
unfoldable pub labels_fed : Platform → List Answer → Monarch → List Label
labels_fed p [] r = r.label ∷ []
labels_fed p (answer ∷ answers) r = r.label ∷ labels_fed p answers (fed_one p answer r)

-- a collection of two processors that asks for its first event
abbrev pub asking : Monarch
asking = at_label C3 (monarch_start one_of_two)

-- the read of the APIC ID of processor 1 answers that of processor 0
abbrev pub answered_for_another : Monarch
answered_for_another = fed one_of_two (Value 1 ∷ Value 3 ∷ Quiet ∷ Value 0 ∷ []) asking

-- a processor is found that isn't possible
abbrev pub answered_past_the_last : Monarch
answered_past_the_last = fed one_of_two (Value 2 ∷ []) asking

-- the eject of processor 1 under late delivery begins
abbrev pub late_platform : Platform
late_platform = record two_processors { delivery = Late 1 }

abbrev pub ejecting : Monarch
ejecting = at_label E0 (record (monarch_start late_platform) { eject = eject_of 1 1 1 })

-- it parks at the first look, and its status is this once control was written
abbrev pub ejecting_with : ℕ → List Answer
ejecting_with status = Quiet ∷ Quiet ∷ Value 1 ∷ Quiet ∷ Quiet ∷ Quiet ∷ Value status ∷ Quiet ∷ []
