-- Where answers lead the monarch's record.
use Rattle.std.proofs.Common.{◌≡◌, [], ◌∷◌, ◌++◌, refl}
use Rattle.hp_model.specs.declared.accesses.Answer.TheVariants.{Quiet}
use Rattle.hp_model.specs.declared.labels.Label.TheVariants.{T, E0, E1, E2, E4a, E4b, E4c, E4d, E4e, E4f, E4g, E4h, E5}
use Rattle.hp_model.specs.declared.outcomes.Outcome.TheVariants.{Ejected, Refused}
use Rattle.hp_model.specs.declared.outcomes.Refusal.TheVariants.{Foreign, StillPending}
use Rattle.hp_worked.specs.Fed.{fed, labels_fed, answered_for_another, answered_past_the_last, late_platform, ejecting, ejecting_with}

pub answered_for_another_label : answered_for_another.label ≡ T
unfolding fed labels_fed
answered_for_another_label = refl

pub answered_for_another_outcome : answered_for_another.outcome ≡ Refused (Foreign 1 0)
unfolding fed labels_fed
answered_for_another_outcome = refl

pub answered_for_another_cpu : answered_for_another.collection.cpu ≡ 2
unfolding fed labels_fed
answered_for_another_cpu = refl

pub answered_past_the_last_label : answered_past_the_last.label ≡ E5
unfolding fed labels_fed
answered_past_the_last_label = refl

pub pending_outcome : (fed late_platform (ejecting_with 0x11) ejecting).outcome ≡ Refused (StillPending 1 0x11)
unfolding fed labels_fed
pending_outcome = refl

pub pending_labels : labels_fed late_platform (ejecting_with 0x11) ejecting ≡ E0 ∷ E1 ∷ E2 ∷ E4a ∷ E4b ∷ E4f ∷ E4g ∷ E4h ∷ T ∷ []
unfolding fed labels_fed
pending_labels = refl

pub gone_outcome : (fed late_platform (ejecting_with 0 ++ Quiet ∷ Quiet ∷ []) ejecting).outcome ≡ Ejected 1 1 1
unfolding fed labels_fed
gone_outcome = refl

pub gone_labels : labels_fed late_platform (ejecting_with 0 ++ Quiet ∷ Quiet ∷ []) ejecting ≡ E0 ∷ E1 ∷ E2 ∷ E4a ∷ E4b ∷ E4f ∷ E4g ∷ E4c ∷ E4d ∷ E4e ∷ T ∷ []
unfolding fed labels_fed
gone_labels = refl

pub ruleset records = (answered_for_another_label, answered_for_another_outcome, answered_for_another_cpu, answered_past_the_last_label, pending_outcome, pending_labels, gone_outcome, gone_labels)
