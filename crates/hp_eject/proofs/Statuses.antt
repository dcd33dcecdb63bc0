-- What is read at E4g is a byte, since it fits what any monarch with this eject wants; and addresses in TSEG have 32 bits.
use Rattle.std.proofs.Common.{◌≡◌, ◌<◌, ◌^◌, ℕ, refl, subst}
use Rattle.hp_model.specs.declared.accesses.Answer.{Answer}
use Rattle.hp_model.specs.declared.accesses.Answer.TheVariants.{Quiet, Value}
use Rattle.hp_model.specs.declared.labels.Label.TheVariants.{E4g}
use Rattle.hp_model.specs.Bare.{bare_monarch, layout_at, nobody}
use Rattle.hp_model.specs.Boot.{value_in}
use Rattle.hp_model.specs.Eject.{Eject, EjectNext, EjectsAt}
use Rattle.hp_eject.specs.Ejecting.{Fits}

byte_at_E4g : (tseg : ℕ) (j : Eject) (answer : Answer) → Fits tseg (EjectsAt E4g j) answer → value_in answer < 256 ^ 1
byte_at_E4g tseg j Quiet h = absurd (h (layout_at tseg) nobody (record bare_monarch { eject = j }) refl refl)
byte_at_E4g tseg j (Value v) h = h (layout_at tseg) nobody (record bare_monarch { eject = j }) refl refl

pub status_read : (tseg : ℕ) (d : EjectNext) (j : Eject) (answer : Answer) → d ≡ EjectsAt E4g j → Fits tseg d answer → value_in answer < 256 ^ 1
status_read tseg d j answer e h = byte_at_E4g tseg j answer (subst (λ (k : EjectNext). Fits tseg k answer) e h)
