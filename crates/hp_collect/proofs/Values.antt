-- What is read at C3, C4 and C6 has the width of its register, since it fits what any monarch with this collection wants.
use Rattle.std.proofs.Common.{◌≡◌, ◌<◌, ◌^◌, refl, subst}
use Rattle.hp_model.specs.declared.accesses.Answer.{Answer}
use Rattle.hp_model.specs.declared.accesses.Answer.TheVariants.{Quiet, Value}
use Rattle.hp_model.specs.declared.labels.Label.TheVariants.{C3, C4, C6}
use Rattle.hp_model.specs.Bare.{bare_monarch, layout_at, nobody}
use Rattle.hp_model.specs.Boot.{value_in}
use Rattle.hp_model.specs.Collection.{CollectNext, Collection, CollectsAt}
use Rattle.hp_collect.specs.Collecting.{Fits}

word_at_C3 : (c : Collection) (answer : Answer) → Fits (CollectsAt C3 c) answer → value_in answer < 256 ^ 4
word_at_C3 c Quiet h = absurd (h (layout_at 0) nobody (record bare_monarch { collection = c }) refl)
word_at_C3 c (Value v) h = h (layout_at 0) nobody (record bare_monarch { collection = c }) refl

byte_at_C4 : (c : Collection) (answer : Answer) → Fits (CollectsAt C4 c) answer → value_in answer < 256 ^ 1
byte_at_C4 c Quiet h = absurd (h (layout_at 0) nobody (record bare_monarch { collection = c }) refl)
byte_at_C4 c (Value v) h = h (layout_at 0) nobody (record bare_monarch { collection = c }) refl

word_at_C6 : (c : Collection) (answer : Answer) → Fits (CollectsAt C6 c) answer → value_in answer < 256 ^ 4
word_at_C6 c Quiet h = absurd (h (layout_at 0) nobody (record bare_monarch { collection = c }) refl)
word_at_C6 c (Value v) h = h (layout_at 0) nobody (record bare_monarch { collection = c }) refl

pub place_read : (at : CollectNext) (c : Collection) (answer : Answer) → at ≡ CollectsAt C3 c → Fits at answer → value_in answer < 256 ^ 4
place_read at c answer e h = word_at_C3 c answer (subst (λ (k : CollectNext). Fits k answer) e h)

pub status_read : (at : CollectNext) (c : Collection) (answer : Answer) → at ≡ CollectsAt C4 c → Fits at answer → value_in answer < 256 ^ 1
status_read at c answer e h = byte_at_C4 c answer (subst (λ (k : CollectNext). Fits k answer) e h)

pub apic_read : (at : CollectNext) (c : Collection) (answer : Answer) → at ≡ CollectsAt C6 c → Fits at answer → value_in answer < 256 ^ 4
apic_read at c answer e h = word_at_C6 c answer (subst (λ (k : CollectNext). Fits k answer) e h)
