-- Where labels stand in a session.
use Rattle.std.proofs.Common.{◌≡◌, true, false, ◌∷◌, [], refl}
use Rattle.hp_model.specs.declared.labels.Label.{Label}
use Rattle.hp_model.specs.declared.labels.Label.TheVariants.{S0, S1, S2, S3, S4, C2, C3, C4, C5, C6, NB, N0, N1, N2, N3, N4, N5, N6, N7, N8a, N8b, N9, N10, N11, E0, E1, E2, E3, E4a, E4b, E4c, E4d, E4e, E4f, E4g, E4h, T, E6}
use Rattle.hp_model.specs.Step.{is_after_broadcast}
use Rattle.hp_exact.proofs.Monarchs.{is_among, adding, ejecting}
use Rattle.hp_exact.proofs.Invariant.{collecting, is_reporting}

-- reports are answered, and no slot is looked at
pub record Answers (l : Label) : Type 0 where
  pub after : is_after_broadcast l ≡ true
  pub early : is_among l (S0 ∷ S1 ∷ S2 ∷ []) ≡ false
  pub none : is_among l (S0 ∷ S1 ∷ S2 ∷ S3 ∷ S4 ∷ []) ≡ false
  pub looking : is_among l (S1 ∷ E6 ∷ []) ≡ false
  pub collects : is_among l collecting ≡ false
  pub reports : is_reporting l ≡ true
  pub selected : is_among l (C2 ∷ C4 ∷ C5 ∷ C6 ∷ []) ≡ false
  pub searched : is_among l (C3 ∷ []) ≡ false
  pub asked : is_among l (C6 ∷ []) ≡ false
  pub found : is_among l (C4 ∷ C5 ∷ C6 ∷ []) ≡ false
  pub judged : is_among l (C5 ∷ C6 ∷ []) ≡ false

pub adding_answers : (l : Label) → is_among l (T ∷ adding) ≡ true → Answers l
adding_answers NB e = record { after = refl; early = refl; none = refl; looking = refl; collects = refl; reports = refl; selected = refl; searched = refl; asked = refl; found = refl; judged = refl }
adding_answers N0 e = record { after = refl; early = refl; none = refl; looking = refl; collects = refl; reports = refl; selected = refl; searched = refl; asked = refl; found = refl; judged = refl }
adding_answers N1 e = record { after = refl; early = refl; none = refl; looking = refl; collects = refl; reports = refl; selected = refl; searched = refl; asked = refl; found = refl; judged = refl }
adding_answers N2 e = record { after = refl; early = refl; none = refl; looking = refl; collects = refl; reports = refl; selected = refl; searched = refl; asked = refl; found = refl; judged = refl }
adding_answers N3 e = record { after = refl; early = refl; none = refl; looking = refl; collects = refl; reports = refl; selected = refl; searched = refl; asked = refl; found = refl; judged = refl }
adding_answers N4 e = record { after = refl; early = refl; none = refl; looking = refl; collects = refl; reports = refl; selected = refl; searched = refl; asked = refl; found = refl; judged = refl }
adding_answers N5 e = record { after = refl; early = refl; none = refl; looking = refl; collects = refl; reports = refl; selected = refl; searched = refl; asked = refl; found = refl; judged = refl }
adding_answers N6 e = record { after = refl; early = refl; none = refl; looking = refl; collects = refl; reports = refl; selected = refl; searched = refl; asked = refl; found = refl; judged = refl }
adding_answers N7 e = record { after = refl; early = refl; none = refl; looking = refl; collects = refl; reports = refl; selected = refl; searched = refl; asked = refl; found = refl; judged = refl }
adding_answers N8a e = record { after = refl; early = refl; none = refl; looking = refl; collects = refl; reports = refl; selected = refl; searched = refl; asked = refl; found = refl; judged = refl }
adding_answers N8b e = record { after = refl; early = refl; none = refl; looking = refl; collects = refl; reports = refl; selected = refl; searched = refl; asked = refl; found = refl; judged = refl }
adding_answers N9 e = record { after = refl; early = refl; none = refl; looking = refl; collects = refl; reports = refl; selected = refl; searched = refl; asked = refl; found = refl; judged = refl }
adding_answers N10 e = record { after = refl; early = refl; none = refl; looking = refl; collects = refl; reports = refl; selected = refl; searched = refl; asked = refl; found = refl; judged = refl }
adding_answers N11 e = record { after = refl; early = refl; none = refl; looking = refl; collects = refl; reports = refl; selected = refl; searched = refl; asked = refl; found = refl; judged = refl }
adding_answers T e = record { after = refl; early = refl; none = refl; looking = refl; collects = refl; reports = refl; selected = refl; searched = refl; asked = refl; found = refl; judged = refl }
adding_answers _ e = absurd cc

pub ejecting_answers : (l : Label) → is_among l (T ∷ ejecting) ≡ true → Answers l
ejecting_answers E0 e = record { after = refl; early = refl; none = refl; looking = refl; collects = refl; reports = refl; selected = refl; searched = refl; asked = refl; found = refl; judged = refl }
ejecting_answers E1 e = record { after = refl; early = refl; none = refl; looking = refl; collects = refl; reports = refl; selected = refl; searched = refl; asked = refl; found = refl; judged = refl }
ejecting_answers E2 e = record { after = refl; early = refl; none = refl; looking = refl; collects = refl; reports = refl; selected = refl; searched = refl; asked = refl; found = refl; judged = refl }
ejecting_answers E3 e = record { after = refl; early = refl; none = refl; looking = refl; collects = refl; reports = refl; selected = refl; searched = refl; asked = refl; found = refl; judged = refl }
ejecting_answers E4a e = record { after = refl; early = refl; none = refl; looking = refl; collects = refl; reports = refl; selected = refl; searched = refl; asked = refl; found = refl; judged = refl }
ejecting_answers E4b e = record { after = refl; early = refl; none = refl; looking = refl; collects = refl; reports = refl; selected = refl; searched = refl; asked = refl; found = refl; judged = refl }
ejecting_answers E4c e = record { after = refl; early = refl; none = refl; looking = refl; collects = refl; reports = refl; selected = refl; searched = refl; asked = refl; found = refl; judged = refl }
ejecting_answers E4d e = record { after = refl; early = refl; none = refl; looking = refl; collects = refl; reports = refl; selected = refl; searched = refl; asked = refl; found = refl; judged = refl }
ejecting_answers E4e e = record { after = refl; early = refl; none = refl; looking = refl; collects = refl; reports = refl; selected = refl; searched = refl; asked = refl; found = refl; judged = refl }
ejecting_answers E4f e = record { after = refl; early = refl; none = refl; looking = refl; collects = refl; reports = refl; selected = refl; searched = refl; asked = refl; found = refl; judged = refl }
ejecting_answers E4g e = record { after = refl; early = refl; none = refl; looking = refl; collects = refl; reports = refl; selected = refl; searched = refl; asked = refl; found = refl; judged = refl }
ejecting_answers E4h e = record { after = refl; early = refl; none = refl; looking = refl; collects = refl; reports = refl; selected = refl; searched = refl; asked = refl; found = refl; judged = refl }
ejecting_answers T e = record { after = refl; early = refl; none = refl; looking = refl; collects = refl; reports = refl; selected = refl; searched = refl; asked = refl; found = refl; judged = refl }
ejecting_answers _ e = absurd cc

-- an add's labels and an eject's are others
pub adding_alone : (l : Label) → is_among l (T ∷ adding) ≡ true → is_among l ejecting ≡ false
adding_alone NB e = refl
adding_alone N0 e = refl
adding_alone N1 e = refl
adding_alone N2 e = refl
adding_alone N3 e = refl
adding_alone N4 e = refl
adding_alone N5 e = refl
adding_alone N6 e = refl
adding_alone N7 e = refl
adding_alone N8a e = refl
adding_alone N8b e = refl
adding_alone N9 e = refl
adding_alone N10 e = refl
adding_alone N11 e = refl
adding_alone T e = refl
adding_alone _ e = absurd cc

pub ejecting_alone : (l : Label) → is_among l (T ∷ ejecting) ≡ true → is_among l adding ≡ false
ejecting_alone E0 e = refl
ejecting_alone E1 e = refl
ejecting_alone E2 e = refl
ejecting_alone E3 e = refl
ejecting_alone E4a e = refl
ejecting_alone E4b e = refl
ejecting_alone E4c e = refl
ejecting_alone E4d e = refl
ejecting_alone E4e e = refl
ejecting_alone E4f e = refl
ejecting_alone E4g e = refl
ejecting_alone E4h e = refl
ejecting_alone T e = refl
ejecting_alone _ e = absurd cc
