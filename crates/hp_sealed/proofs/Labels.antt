-- The labels whose marks the image holds in tiles.
use Rattle.std.proofs.Common.{◌≡◌, ◌==◌, true, refl}
use Rattle.std.specs.List.{list_any}
use Rattle.hp_model.specs.declared.labels.Label.{Label}
use Rattle.hp_model.specs.declared.labels.Label.TheVariants.{F1, F2, F3, F4, F5, F6, R1, R2, R3, R4, R5, R6}
use Rattle.hp_model.specs.declared.labels.Handler.TheVariants.{Relocated, Monarch}
use Rattle.hp_model.specs.Labels.{handler_of, mark_of}
use Rattle.hp_model.specs.Image.{relocated_labels, monarch_labels}

-- each label of a tile's handler is in the list whose marks the image holds
pub among_relocated : (l : Label) → handler_of l ≡ Relocated → list_any (λ m. mark_of m == mark_of l) relocated_labels ≡ true
among_relocated R1 e = refl
among_relocated R2 e = refl
among_relocated R3 e = refl
among_relocated R4 e = refl
among_relocated R5 e = refl
among_relocated R6 e = refl
among_relocated _ e = absurd cc

pub among_monarch : (l : Label) → handler_of l ≡ Monarch → list_any (λ m. mark_of m == mark_of l) monarch_labels ≡ true
among_monarch F1 e = absurd cc
among_monarch F2 e = absurd cc
among_monarch F3 e = absurd cc
among_monarch F4 e = absurd cc
among_monarch F5 e = absurd cc
among_monarch F6 e = absurd cc
among_monarch R1 e = absurd cc
among_monarch R2 e = absurd cc
among_monarch R3 e = absurd cc
among_monarch R4 e = absurd cc
among_monarch R5 e = absurd cc
among_monarch R6 e = absurd cc
among_monarch _ e = refl
