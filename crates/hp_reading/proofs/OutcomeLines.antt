-- The text of a told outcome, written and read.
use Rattle.std.proofs.Common.{◌≡◌, ℕ, ◌^◌, ◌<◌, ◌≤◌, nat_lt, nat_le, ◌&&◌, true, List, [], ◌∷◌, ◌++◌, codes, Some, refl, sym, ap, subst, ◌∙◌, arith}
use Rattle.std.proofs.lemmas.Bool.{and_parts, and_from, ltb-true, lt-ltb, leb-true, le-leb}
use Rattle.std.proofs.lemmas.Option.{none-some}
use Rattle.hp_model.specs.declared.outcomes.Refusal.TheVariants.{Disabled, Both, AlreadyKnown, GateHeld, NotAtGate, NotCheckedIn, NoUnplug, NotKnown, NotArrived, NotParked, Foreign, StillPending}
use Rattle.hp_model.specs.declared.outcomes.Outcome.{Outcome}
use Rattle.hp_model.specs.declared.outcomes.Outcome.TheVariants.{Added, Ejected, Refused}
use Rattle.hp_model.specs.Text.{spell, outcome_pieces}
use Rattle.hp_model.specs.Text as text
use Rattle.hp_reading.specs.Forms.{past, fits}
use Rattle.hp_reading.specs.Lines.{most32, most64, two_form, three_form, status_form, outcome_of, of_insert, of_eject}
use Rattle.hp_reading.specs.Lines as lines
use Rattle.hp_reading.specs.Written.{has_32, has_status, has_two, has_three, outcome_fits}
use Rattle.hp_reading.proofs.Rows.{row_is, two-filled, three-filled, two_is, three_is}

-- a number of 32 bits, or 64, is at most the greatest
pub to_32 : (n : ℕ) → has_32 n ≡ true → nat_le n most32 ≡ true
to_32 n h = let below : n < 2 ^ 32 = ltb-true n (2 ^ 32) h in le-leb n most32 (omega (arith, below))

pub from_32 : (n : ℕ) → nat_le n most32 ≡ true → has_32 n ≡ true
from_32 n h = let below : n ≤ most32 = leb-true n most32 h in lt-ltb n (2 ^ 32) (omega (arith, below))

pub to_64 : (n : ℕ) → nat_lt n (2 ^ 64) ≡ true → nat_le n most64 ≡ true
to_64 n h = let below : n < 2 ^ 64 = ltb-true n (2 ^ 64) h in le-leb n most64 (omega (arith, below))

pub from_64 : (n : ℕ) → nat_le n most64 ≡ true → nat_lt n (2 ^ 64) ≡ true
from_64 n h = let below : n ≤ most64 = leb-true n most64 h in lt-ltb n (2 ^ 64) (omega (arith, below))

-- the numbers of an outcome fit their fields
fits_two : (a b : ℕ) → has_two a b ≡ true → fits (two_form most32) (a ∷ b ∷ []) ≡ true
fits_two a b h =
    let (here, there) = and_parts (has_32 a) (has_32 b) h in
    and_from (nat_le a most32) _ (to_32 a here) (and_from (nat_le b most32) true (to_32 b there) refl)

fits_three : (a b c : ℕ) → has_three a b c ≡ true → fits three_form (a ∷ b ∷ c ∷ []) ≡ true
fits_three a b c h =
    let (here, more) = and_parts (has_32 a) (has_two b c) h in
    and_from (nat_le a most32) _ (to_32 a here) (fits_two b c more)

fits_features : (a b : ℕ) → (has_32 a && nat_lt b (2 ^ 64)) ≡ true → fits (two_form most64) (a ∷ b ∷ []) ≡ true
fits_features a b h =
    let (here, there) = and_parts (has_32 a) (nat_lt b (2 ^ 64)) h in
    and_from (nat_le a most32) _ (to_32 a here) (and_from (nat_le b most64) true (to_64 b there) refl)

fits_status : (a b : ℕ) → has_status a b ≡ true → fits status_form (a ∷ b ∷ []) ≡ true
fits_status a b h =
    let (here, there) = and_parts (has_32 a) (nat_lt b (2 ^ 8)) h in
    and_from (nat_le a most32) _ (to_32 a here) (and_from (nat_lt b (2 ^ 8)) true there refl)

-- and what fits the fields are numbers of an outcome
two_fit : (a b : ℕ) → fits (two_form most32) (a ∷ b ∷ []) ≡ true → has_two a b ≡ true
two_fit a b h =
    let (here, more) = and_parts (nat_le a most32) _ h in
    let (there, last) = and_parts (nat_le b most32) true more in
    and_from (has_32 a) (has_32 b) (from_32 a here) (from_32 b there)

three_fit : (a b c : ℕ) → fits three_form (a ∷ b ∷ c ∷ []) ≡ true → has_three a b c ≡ true
three_fit a b c h =
    let (here, more) = and_parts (nat_le a most32) _ h in
    and_from (has_32 a) (has_two b c) (from_32 a here) (two_fit b c more)

features_fit : (a b : ℕ) → fits (two_form most64) (a ∷ b ∷ []) ≡ true → (has_32 a && nat_lt b (2 ^ 64)) ≡ true
features_fit a b h =
    let (here, more) = and_parts (nat_le a most32) _ h in
    let (there, last) = and_parts (nat_le b most64) true more in
    and_from (has_32 a) (nat_lt b (2 ^ 64)) (from_32 a here) (from_64 b there)

status_fit : (a b : ℕ) → fits status_form (a ∷ b ∷ []) ≡ true → has_status a b ≡ true
status_fit a b h =
    let (here, more) = and_parts (nat_le a most32) _ h in
    let (there, last) = and_parts (nat_lt b (2 ^ 8)) true more in
    and_from (has_32 a) (nat_lt b (2 ^ 8)) (from_32 a here) there

-- the outcome whose word stands at the front
at_added : (t : List ℕ) → outcome_of (codes "added " ++ t) ≡ lines.three three_form (λ cpu apic third. Added cpu apic third) t
unfolding outcome_of past
at_added t = refl

at_ejected : (t : List ℕ) → outcome_of (codes "ejected " ++ t) ≡ lines.three three_form (λ cpu apic third. Ejected cpu apic third) t
unfolding outcome_of past
at_ejected t = refl

at_disabled : (t : List ℕ) → outcome_of (codes "disabled " ++ t) ≡ lines.two status_form (λ cpu status. Refused (Disabled cpu status)) t
unfolding outcome_of past
at_disabled t = refl

at_both : (t : List ℕ) → outcome_of (codes "both " ++ t) ≡ lines.two status_form (λ cpu status. Refused (Both cpu status)) t
unfolding outcome_of past
at_both t = refl

at_stillpending : (t : List ℕ) → outcome_of (codes "stillpending " ++ t) ≡ lines.two status_form (λ cpu status. Refused (StillPending cpu status)) t
unfolding outcome_of past
at_stillpending t = refl

at_alreadyknown : (t : List ℕ) → outcome_of (codes "alreadyknown " ++ t) ≡ lines.three three_form (λ cpu apic third. Refused (AlreadyKnown cpu apic third)) t
unfolding outcome_of of_insert past
at_alreadyknown t = refl

at_gateheld : (t : List ℕ) → outcome_of (codes "gateheld " ++ t) ≡ lines.three three_form (λ cpu apic third. Refused (GateHeld cpu apic third)) t
unfolding outcome_of of_insert past
at_gateheld t = refl

at_notatgate : (t : List ℕ) → outcome_of (codes "notatgate " ++ t) ≡ lines.two (two_form most32) (λ cpu apic. Refused (NotAtGate cpu apic)) t
unfolding outcome_of of_insert past
at_notatgate t = refl

at_notcheckedin : (t : List ℕ) → outcome_of (codes "notcheckedin " ++ t) ≡ lines.two (two_form most32) (λ cpu apic. Refused (NotCheckedIn cpu apic)) t
unfolding outcome_of of_insert past
at_notcheckedin t = refl

at_nounplug : (t : List ℕ) → outcome_of (codes "nounplug " ++ t) ≡ lines.two (two_form most64) (λ cpu features. Refused (NoUnplug cpu features)) t
unfolding outcome_of of_insert of_eject past
at_nounplug t = refl

at_notknown : (t : List ℕ) → outcome_of (codes "notknown " ++ t) ≡ lines.two (two_form most32) (λ cpu apic. Refused (NotKnown cpu apic)) t
unfolding outcome_of of_insert of_eject past
at_notknown t = refl

at_notarrived : (t : List ℕ) → outcome_of (codes "notarrived " ++ t) ≡ lines.two (two_form most32) (λ cpu apic. Refused (NotArrived cpu apic)) t
unfolding outcome_of of_insert of_eject past
at_notarrived t = refl

at_notparked : (t : List ℕ) → outcome_of (codes "notparked " ++ t) ≡ lines.two (two_form most32) (λ cpu apic. Refused (NotParked cpu apic)) t
unfolding outcome_of of_insert of_eject past
at_notparked t = refl

at_foreign : (t : List ℕ) → outcome_of (codes "foreign " ++ t) ≡ lines.two (two_form most32) (λ cpu apic. Refused (Foreign cpu apic)) t
unfolding outcome_of of_insert of_eject past
at_foreign t = refl

-- each outcome that a line can say is read as it is spelled
pub reads_outcome : (o : Outcome) → outcome_fits o ≡ true → outcome_of (spell (outcome_pieces o)) ≡ Some o
reads_outcome (Added cpu apic third) h = at_added _ ∙ three-filled three_form (λ cpu apic third. Added cpu apic third) cpu apic third refl (fits_three cpu apic third h)
reads_outcome (Ejected cpu apic third) h = at_ejected _ ∙ three-filled three_form (λ cpu apic third. Ejected cpu apic third) cpu apic third refl (fits_three cpu apic third h)
reads_outcome (Refused (Disabled cpu status)) h = at_disabled _ ∙ two-filled status_form (λ cpu status. Refused (Disabled cpu status)) cpu status refl (fits_status cpu status h)
reads_outcome (Refused (Both cpu status)) h = at_both _ ∙ two-filled status_form (λ cpu status. Refused (Both cpu status)) cpu status refl (fits_status cpu status h)
reads_outcome (Refused (AlreadyKnown cpu apic third)) h = at_alreadyknown _ ∙ three-filled three_form (λ cpu apic third. Refused (AlreadyKnown cpu apic third)) cpu apic third refl (fits_three cpu apic third h)
reads_outcome (Refused (GateHeld cpu apic third)) h = at_gateheld _ ∙ three-filled three_form (λ cpu apic third. Refused (GateHeld cpu apic third)) cpu apic third refl (fits_three cpu apic third h)
reads_outcome (Refused (NotAtGate cpu apic)) h = at_notatgate _ ∙ two-filled (two_form most32) (λ cpu apic. Refused (NotAtGate cpu apic)) cpu apic refl (fits_two cpu apic h)
reads_outcome (Refused (NotCheckedIn cpu apic)) h = at_notcheckedin _ ∙ two-filled (two_form most32) (λ cpu apic. Refused (NotCheckedIn cpu apic)) cpu apic refl (fits_two cpu apic h)
reads_outcome (Refused (NoUnplug cpu features)) h = at_nounplug _ ∙ two-filled (two_form most64) (λ cpu features. Refused (NoUnplug cpu features)) cpu features refl (fits_features cpu features h)
reads_outcome (Refused (NotKnown cpu apic)) h = at_notknown _ ∙ two-filled (two_form most32) (λ cpu apic. Refused (NotKnown cpu apic)) cpu apic refl (fits_two cpu apic h)
reads_outcome (Refused (NotArrived cpu apic)) h = at_notarrived _ ∙ two-filled (two_form most32) (λ cpu apic. Refused (NotArrived cpu apic)) cpu apic refl (fits_two cpu apic h)
reads_outcome (Refused (NotParked cpu apic)) h = at_notparked _ ∙ two-filled (two_form most32) (λ cpu apic. Refused (NotParked cpu apic)) cpu apic refl (fits_two cpu apic h)
reads_outcome (Refused (Foreign cpu apic)) h = at_foreign _ ∙ two-filled (two_form most32) (λ cpu apic. Refused (Foreign cpu apic)) cpu apic refl (fits_two cpu apic h)
reads_outcome (Refused (StillPending cpu status)) h = at_stillpending _ ∙ two-filled status_form (λ cpu status. Refused (StillPending cpu status)) cpu status refl (fits_status cpu status h)

-- a text that is read as an outcome spells it
pub record IsOutcome (t : List ℕ) (o : Outcome) : Type 0 where
  pub fit : outcome_fits o ≡ true
  pub spelled : t ≡ spell (outcome_pieces o)

two_told : (name : List ℕ) (f : ℕ → ℕ → Outcome) → ((a b : ℕ) → has_two a b ≡ outcome_fits (f a b)) → ((a b : ℕ) → text.two name a b ≡ outcome_pieces (f a b))
    → (t : List ℕ) (o : Outcome) → lines.two (two_form most32) f t ≡ Some o → IsOutcome (name ++ t) o
two_told name f tests pieces t o e =
    two_is (two_form most32) t o refl f e
    (λ a b fit is same. subst (IsOutcome (name ++ t)) same (record { fit = sym (tests a b) ∙ two_fit a b fit; spelled = ap (λ u. name ++ u) is ∙ ap spell (pieces a b) }))

status_told : (name : List ℕ) (f : ℕ → ℕ → Outcome) → ((a b : ℕ) → has_status a b ≡ outcome_fits (f a b)) → ((a b : ℕ) → text.with_status name a b ≡ outcome_pieces (f a b))
    → (t : List ℕ) (o : Outcome) → lines.two status_form f t ≡ Some o → IsOutcome (name ++ t) o
status_told name f tests pieces t o e =
    two_is status_form t o refl f e
    (λ a b fit is same. subst (IsOutcome (name ++ t)) same (record { fit = sym (tests a b) ∙ status_fit a b fit; spelled = ap (λ u. name ++ u) is ∙ ap spell (pieces a b) }))

features_told : (name : List ℕ) (f : ℕ → ℕ → Outcome) → ((a b : ℕ) → (has_32 a && nat_lt b (2 ^ 64)) ≡ outcome_fits (f a b)) → ((a b : ℕ) → text.two name a b ≡ outcome_pieces (f a b))
    → (t : List ℕ) (o : Outcome) → lines.two (two_form most64) f t ≡ Some o → IsOutcome (name ++ t) o
features_told name f tests pieces t o e =
    two_is (two_form most64) t o refl f e
    (λ a b fit is same. subst (IsOutcome (name ++ t)) same (record { fit = sym (tests a b) ∙ features_fit a b fit; spelled = ap (λ u. name ++ u) is ∙ ap spell (pieces a b) }))

three_told : (name : List ℕ) (f : ℕ → ℕ → ℕ → Outcome) → ((a b c : ℕ) → has_three a b c ≡ outcome_fits (f a b c)) → ((a b c : ℕ) → text.three name a b c ≡ outcome_pieces (f a b c))
    → (t : List ℕ) (o : Outcome) → lines.three three_form f t ≡ Some o → IsOutcome (name ++ t) o
three_told name f tests pieces t o e =
    three_is three_form t o refl f e
    (λ a b c fit is same. subst (IsOutcome (name ++ t)) same (record { fit = sym (tests a b c) ∙ three_fit a b c fit; spelled = ap (λ u. name ++ u) is ∙ ap spell (pieces a b c) }))

eject_is : (t : List ℕ) (o : Outcome) → of_eject t ≡ Some o → IsOutcome t o
unfolding of_eject
eject_is t o e =
    row_is IsOutcome (codes "nounplug ") t (lines.two (two_form most64) (λ cpu features. Refused (NoUnplug cpu features))) _ o e (λ rest. features_told (codes "nounplug ") (λ cpu features. Refused (NoUnplug cpu features)) (λ cpu features. refl) (λ cpu features. refl) rest o)
    (λ e. row_is IsOutcome (codes "notknown ") t (lines.two (two_form most32) (λ cpu apic. Refused (NotKnown cpu apic))) _ o e (λ rest. two_told (codes "notknown ") (λ cpu apic. Refused (NotKnown cpu apic)) (λ cpu apic. refl) (λ cpu apic. refl) rest o)
    (λ e. row_is IsOutcome (codes "notarrived ") t (lines.two (two_form most32) (λ cpu apic. Refused (NotArrived cpu apic))) _ o e (λ rest. two_told (codes "notarrived ") (λ cpu apic. Refused (NotArrived cpu apic)) (λ cpu apic. refl) (λ cpu apic. refl) rest o)
    (λ e. row_is IsOutcome (codes "notparked ") t (lines.two (two_form most32) (λ cpu apic. Refused (NotParked cpu apic))) _ o e (λ rest. two_told (codes "notparked ") (λ cpu apic. Refused (NotParked cpu apic)) (λ cpu apic. refl) (λ cpu apic. refl) rest o)
    (λ e. row_is IsOutcome (codes "foreign ") t (lines.two (two_form most32) (λ cpu apic. Refused (Foreign cpu apic))) _ o e (λ rest. two_told (codes "foreign ") (λ cpu apic. Refused (Foreign cpu apic)) (λ cpu apic. refl) (λ cpu apic. refl) rest o)
    (λ e. absurd (none-some o e))))))

insert_is : (t : List ℕ) (o : Outcome) → of_insert t ≡ Some o → IsOutcome t o
unfolding of_insert
insert_is t o e =
    row_is IsOutcome (codes "alreadyknown ") t (lines.three three_form (λ cpu apic third. Refused (AlreadyKnown cpu apic third))) _ o e (λ rest. three_told (codes "alreadyknown ") (λ cpu apic third. Refused (AlreadyKnown cpu apic third)) (λ cpu apic third. refl) (λ cpu apic third. refl) rest o)
    (λ e. row_is IsOutcome (codes "gateheld ") t (lines.three three_form (λ cpu apic third. Refused (GateHeld cpu apic third))) _ o e (λ rest. three_told (codes "gateheld ") (λ cpu apic third. Refused (GateHeld cpu apic third)) (λ cpu apic third. refl) (λ cpu apic third. refl) rest o)
    (λ e. row_is IsOutcome (codes "notatgate ") t (lines.two (two_form most32) (λ cpu apic. Refused (NotAtGate cpu apic))) _ o e (λ rest. two_told (codes "notatgate ") (λ cpu apic. Refused (NotAtGate cpu apic)) (λ cpu apic. refl) (λ cpu apic. refl) rest o)
    (λ e. row_is IsOutcome (codes "notcheckedin ") t (lines.two (two_form most32) (λ cpu apic. Refused (NotCheckedIn cpu apic))) _ o e (λ rest. two_told (codes "notcheckedin ") (λ cpu apic. Refused (NotCheckedIn cpu apic)) (λ cpu apic. refl) (λ cpu apic. refl) rest o)
    (λ e. eject_is t o e))))

pub outcome_is : (t : List ℕ) (o : Outcome) → outcome_of t ≡ Some o → IsOutcome t o
unfolding outcome_of
outcome_is t o e =
    row_is IsOutcome (codes "added ") t (lines.three three_form (λ cpu apic third. Added cpu apic third)) _ o e (λ rest. three_told (codes "added ") (λ cpu apic third. Added cpu apic third) (λ cpu apic third. refl) (λ cpu apic third. refl) rest o)
    (λ e. row_is IsOutcome (codes "ejected ") t (lines.three three_form (λ cpu apic third. Ejected cpu apic third)) _ o e (λ rest. three_told (codes "ejected ") (λ cpu apic third. Ejected cpu apic third) (λ cpu apic third. refl) (λ cpu apic third. refl) rest o)
    (λ e. row_is IsOutcome (codes "disabled ") t (lines.two status_form (λ cpu status. Refused (Disabled cpu status))) _ o e (λ rest. status_told (codes "disabled ") (λ cpu status. Refused (Disabled cpu status)) (λ cpu status. refl) (λ cpu status. refl) rest o)
    (λ e. row_is IsOutcome (codes "both ") t (lines.two status_form (λ cpu status. Refused (Both cpu status))) _ o e (λ rest. status_told (codes "both ") (λ cpu status. Refused (Both cpu status)) (λ cpu status. refl) (λ cpu status. refl) rest o)
    (λ e. row_is IsOutcome (codes "stillpending ") t (lines.two status_form (λ cpu status. Refused (StillPending cpu status))) _ o e (λ rest. status_told (codes "stillpending ") (λ cpu status. Refused (StillPending cpu status)) (λ cpu status. refl) (λ cpu status. refl) rest o)
    (λ e. insert_is t o e)))))
