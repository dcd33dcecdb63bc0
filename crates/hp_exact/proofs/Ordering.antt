-- The monarch's record stays in order.
use Rattle.std.proofs.Common.{ℕ, ◌≡◌, ◌+◌, ◌<◌, ◌≤◌, ◌==◌, true, false, not, ◌||◌, nat_lt, nat_le, List, [], ◌∷◌, ◌++◌, length, Option, Some, None, bit_and, refl, sym, ◌∙◌, arith}
use Rattle.std.specs.List.{list_all}
use Rattle.std.proofs.lemmas.Bool.{ltb-true}
use Rattle.std.proofs.lemmas.Bool.Decides.{nat_tests}
use Rattle.hp_model.specs.declared.labels.Label.{Label}
use Rattle.hp_model.specs.declared.labels.Label.TheVariants.{S0, S1, S2, S3, S4, C1, C2, C3, C4, C5, C6, NB, N0, N1, N2, N3, N4, N5, N6, N7, N8a, N8b, N9, N10, N11, E0, E1, E2, E3, E4a, E4b, E4c, E4d, E4e, E4f, E4g, E4h, T, E5, E6, E7}
use Rattle.hp_model.specs.declared.outcomes.Outcome.{Outcome}
use Rattle.hp_model.specs.declared.outcomes.Outcome.TheVariants.{Added, Ejected, Refused}
use Rattle.hp_model.specs.declared.labels.Handler.TheVariants.{Monarch as Monarchs}
use Rattle.hp_model.specs.Labels.{handler_of}
use Rattle.hp_model.specs.SharedBytes.{Layout}
use Rattle.hp_model.specs.Slots.{known_from}
use Rattle.hp_model.specs.declared.reports.Report.{Report}
use Rattle.hp_model.specs.Collection.{Collection, CollectNext, CollectsAt, CollectEnds, collection_start, next_processor, found, judged, reported}
use Rattle.hp_model.specs.Monarch.{Monarch, at_label, first_slot, next_slot, look_at, noted, at_tell, adds, ejects, took, next_report, after_collection, after_tell, restarted}
use Rattle.hp_model.specs.Handlers.{Seat, next_at}
use Rattle.hp_model.specs.Exact.{rises}
use Rattle.hp_sealed.proofs.Left.{pick, pick_by}
use Rattle.hp_exact.proofs.Monarchs.{is_among, AddsOn, adds_on, EjectsOn, ejects_on, next_by}
use Rattle.hp_exact.proofs.Stages.{adding_answers, ejecting_answers}
use Rattle.hp_exact.proofs.Reports.{all_more, all_last, rises_last}
use Rattle.hp_exact.proofs.Invariant.{collecting, Ordered}

-- what of it is said at each label
pub record Core (r : Monarch) : Type 0 where
  pub rising : rises r.collection.reports ≡ true

pub core : (n : ℕ) (r : Monarch) → Ordered n r → Core r
core n r h = record { rising = h.rising }

pub plain : (n : ℕ) (r : Monarch) → is_among r.label (S1 ∷ E6 ∷ []) ≡ false → is_among r.label collecting ≡ false → Core r → Ordered n r
plain n r a b h = record {
  looking = λ e. absurd (let both : false ≡ true = sym a ∙ e in cc);
  rising = h.rising;
  below = λ e. absurd (let both : false ≡ true = sym b ∙ e in cc);
  possible = λ e. absurd (let both : false ≡ true = sym b ∙ e in cc);
}

-- at a label of the collection
collects_at : (n : ℕ) (r : Monarch) (l : Label) (c : Collection) → is_among l (S1 ∷ E6 ∷ []) ≡ false → rises c.reports ≡ true → list_all (λ t. nat_lt t.cpu c.cpu) c.reports ≡ true → c.cpu < n → Ordered n (record r { label = l; collection = c })
collects_at n r l c a rising below less = record {
  looking = λ e. absurd (let both : false ≡ true = sym a ∙ e in cc);
  rising = rising;
  below = λ e. below;
  possible = λ e. less;
}

-- at a label of slots
slots_at : (n : ℕ) (r : Monarch) (l : Label) (slot : ℕ) → is_among l collecting ≡ false → slot < length r.slots.bound → Core r → Ordered n (record r { label = l; slot = slot })
slots_at n r l slot b less h = record {
  looking = λ e. less;
  rising = h.rising;
  below = λ e. absurd (let both : false ≡ true = sym b ∙ e in cc);
  possible = λ e. absurd (let both : false ≡ true = sym b ∙ e in cc);
}

-- the first slot, and the next one
ordered_first : (n : ℕ) (r : Monarch) (a b : Label) → is_among a collecting ≡ false → is_among b (S1 ∷ E6 ∷ []) ≡ false → is_among b collecting ≡ false → Core r → Ordered n (first_slot a b r)
ordered_first n r a b i j k h = pick_by (Ordered n) (nat_lt 1 (length r.slots.bound)) _ _ (λ e. slots_at n r a 1 i (ltb-true 1 (length r.slots.bound) e) h) (λ e. plain n (at_label b r) j k (record { rising = h.rising }))

ordered_slot : (n : ℕ) (r : Monarch) (a b : Label) → is_among a collecting ≡ false → is_among b (S1 ∷ E6 ∷ []) ≡ false → is_among b collecting ≡ false → Core r → Ordered n (next_slot a b r)
ordered_slot n r a b i j k h = pick_by (Ordered n) (nat_lt (r.slot + 1) (length r.slots.bound)) _ _ (λ e. slots_at n r a (r.slot + 1) i (ltb-true (r.slot + 1) (length r.slots.bound) e) h) (λ e. plain n (at_label b r) j k (record { rising = h.rising }))

ordered_look : (n polls : ℕ) (o : Option ℕ) (r : Monarch) → Core r → Ordered n (look_at polls o r)
ordered_look n polls (Some slot) r h = plain n (look_at polls (Some slot) r) refl refl (record { rising = h.rising })
ordered_look n polls None r h = plain n (look_at polls None r) refl refl (record { rising = h.rising })

-- the next report
pub ordered_next : (n : ℕ) (apics : List ℕ) (r : Monarch) → Core r → Ordered n (next_report apics r)
ordered_next n apics r h = next_by (Ordered n) apics r
    (λ _. plain n (at_label E5 r) refl refl (record { rising = h.rising }))
    (λ t ts _ o. plain n (at_tell o (took r)) refl refl (record { rising = h.rising }))
    (λ t ts _ _. plain n (adds t (took r)) refl refl (record { rising = h.rising }))
    (λ t ts _ _. plain n (ejects t (took r)) refl refl (record { rising = h.rising }))

pub core_told : (o : Outcome) (r : Monarch) → Core r → Core (after_tell o r)
core_told (Added cpu apic slot) r h = record { rising = h.rising }
core_told (Ejected cpu apic slot) r h = record { rising = h.rising }
core_told (Refused why) r h = record { rising = h.rising }

-- the collection
more_below : (a b : ℕ) → a ≤ b → (ts : List Report) → list_all (λ t. nat_lt t.cpu a) ts ≡ true → list_all (λ t. nat_lt t.cpu b) ts ≡ true
more_below a b less ts h = all_more (λ t. nat_lt t.cpu a) (λ t. nat_lt t.cpu b) (λ t e. one t.cpu e) ts h
  where
    one : (c : ℕ) → nat_lt c a ≡ true → nat_lt c b ≡ true
    one c e = grind (arith, nat_tests)

abbrev Led : ℕ → List ℕ → Monarch → CollectNext → Type 0
Led n apics r w = Ordered n (after_collection apics w r)

-- a collection whose reports rise, all below a place
record Rises (c : Collection) : Type 0 where
  rising : rises c.reports ≡ true
  below : list_all (λ t. nat_lt t.cpu (c.cpu + 1)) c.reports ≡ true

ordered_processor : (n : ℕ) (apics : List ℕ) (r : Monarch) (c : Collection) → Rises c → Led n apics r (next_processor n c)
ordered_processor n apics r c h = pick_by (Led n apics r) (nat_lt (c.cpu + 1) n) _ _
    (λ e. collects_at n r C1 (record c { cpu = c.cpu + 1 }) refl h.rising h.below (ltb-true (c.cpu + 1) n e))
    (λ e. ordered_next n apics (record r { collection = record c { cpu = c.cpu + 1 } }) (record { rising = h.rising }))

ordered_found : (n : ℕ) (apics : List ℕ) (r : Monarch) (v : ℕ) → Ordered n r → is_among r.label collecting ≡ true → Led n apics r (found n v r.collection)
ordered_found n apics r v h is =
    let c = r.collection in
    pick_by (Led n apics r) (nat_lt v c.cpu || not (nat_lt v n)) (CollectEnds c) (CollectsAt C4 (record c { cpu = v }))
    (λ e. ordered_next n apics (record r { collection = c }) (record { rising = h.rising }))
    (λ e. collects_at n r C4 (record c { cpu = v }) refl h.rising (more_below c.cpu v (no_less c.cpu v n e) c.reports (h.below is)) (less v c.cpu n e))
  where
    no_less : (a v n : ℕ) → (nat_lt v a || not (nat_lt v n)) ≡ false → a ≤ v
    no_less a v n e = grind (arith, nat_tests)

    less : (v a n : ℕ) → (nat_lt v a || not (nat_lt v n)) ≡ false → v < n
    less v a n e = grind (arith, nat_tests)

ordered_judged : (n : ℕ) (apics : List ℕ) (r : Monarch) (v : ℕ) → Ordered n r → is_among r.label collecting ≡ true → Led n apics r (judged n v r.collection)
ordered_judged n apics r v h is =
    let c = r.collection in
    pick (Led n apics r) (bit_and v 0x12 == 0) (next_processor n c) (CollectsAt C5 (record c { status = v }))
    (ordered_processor n apics r c (record { rising = h.rising; below = more_below c.cpu (c.cpu + 1) (omega arith) c.reports (h.below is) }))
    (collects_at n r C5 (record c { status = v }) refl h.rising (h.below is) (h.possible is))

ordered_reported : (n : ℕ) (apics : List ℕ) (r : Monarch) (v : ℕ) → Ordered n r → is_among r.label collecting ≡ true → Led n apics r (reported n v r.collection)
ordered_reported n apics r v h is =
    let c = r.collection in
    let t : Report = record { cpu = c.cpu; status = c.status; apic = v } in
    ordered_processor n apics r (record c { reports = c.reports ++ t ∷ [] })
    (record { rising = rises_last c.reports t h.rising (h.below is); below = all_last (λ u. nat_lt u.cpu (c.cpu + 1)) c.reports t (more_below c.cpu (c.cpu + 1) (omega arith) c.reports (h.below is)) (one c.cpu) })
  where
    one : (k : ℕ) → nat_lt k (k + 1) ≡ true
    one k = grind (arith, nat_tests)

-- an add, and an eject
pub ordered_adds : (n : ℕ) (r t : Monarch) → Ordered n r → AddsOn r t → Ordered n t
ordered_adds n r t h on =
    let answers = adding_answers t.label on.label in
    plain n t answers.looking answers.collects (record { rising = rw on.collection h.rising })

pub ordered_ejects : (n : ℕ) (r t : Monarch) → Ordered n r → EjectsOn r t → Ordered n t
ordered_ejects n r t h on =
    let answers = ejecting_answers t.label on.label in
    plain n t answers.looking answers.collects (record { rising = rw on.collection h.rising })

-- at each label
pub ordered_row : (y : Layout) (x : Seat) (r : Monarch) (l : Label) (v : ℕ) → 1 ≤ y.count → handler_of l ≡ Monarchs → r.label ≡ l → Ordered y.count r → Ordered y.count (next_at y x r l v).monarch
ordered_row y x r S0 v some mine is h = ordered_first y.count r S1 S2 refl refl refl (core y.count r h)
ordered_row y x r S1 v some mine is h = ordered_slot y.count r S1 S2 refl refl refl (core y.count r h)
ordered_row y x r S2 v some mine is h = ordered_look y.count y.polls (known_from r.slots 1) r (core y.count r h)
ordered_row y x r S3 v some mine is h =
    pick (Ordered y.count) ((v == 1) || nat_le r.polls 1) _ _
    (ordered_look y.count y.polls (known_from r.slots (r.slot + 1)) (noted r.slot v r) (record { rising = h.rising }))
    (record { looking = h.looking; rising = h.rising; below = h.below; possible = h.possible })
ordered_row y x r S4 v some mine is h =
    pick (Ordered y.count) (v == 4) _ _
    (collects_at y.count (record r { taken = 0 }) C1 collection_start refl refl refl some)
    (plain y.count (at_label E5 r) refl refl (record { rising = h.rising }))
ordered_row y x r C1 v some mine is h = collects_at y.count r C2 r.collection refl h.rising (h.below (rw is refl)) (h.possible (rw is refl))
ordered_row y x r C2 v some mine is h = collects_at y.count r C3 r.collection refl h.rising (h.below (rw is refl)) (h.possible (rw is refl))
ordered_row y x r C3 v some mine is h = ordered_found y.count y.apics r v h (rw is refl)
ordered_row y x r C4 v some mine is h = ordered_judged y.count y.apics r v h (rw is refl)
ordered_row y x r C5 v some mine is h = collects_at y.count r C6 r.collection refl h.rising (h.below (rw is refl)) (h.possible (rw is refl))
ordered_row y x r C6 v some mine is h = ordered_reported y.count y.apics r v h (rw is refl)
ordered_row y x r NB v some mine is h = ordered_adds y.count r (next_at y x r NB v).monarch h (adds_on y x r NB v refl)
ordered_row y x r N0 v some mine is h = ordered_adds y.count r (next_at y x r N0 v).monarch h (adds_on y x r N0 v refl)
ordered_row y x r N1 v some mine is h = ordered_adds y.count r (next_at y x r N1 v).monarch h (adds_on y x r N1 v refl)
ordered_row y x r N2 v some mine is h = ordered_adds y.count r (next_at y x r N2 v).monarch h (adds_on y x r N2 v refl)
ordered_row y x r N3 v some mine is h = ordered_adds y.count r (next_at y x r N3 v).monarch h (adds_on y x r N3 v refl)
ordered_row y x r N4 v some mine is h = ordered_adds y.count r (next_at y x r N4 v).monarch h (adds_on y x r N4 v refl)
ordered_row y x r N5 v some mine is h = ordered_adds y.count r (next_at y x r N5 v).monarch h (adds_on y x r N5 v refl)
ordered_row y x r N6 v some mine is h = ordered_adds y.count r (next_at y x r N6 v).monarch h (adds_on y x r N6 v refl)
ordered_row y x r N7 v some mine is h = ordered_adds y.count r (next_at y x r N7 v).monarch h (adds_on y x r N7 v refl)
ordered_row y x r N8a v some mine is h = ordered_adds y.count r (next_at y x r N8a v).monarch h (adds_on y x r N8a v refl)
ordered_row y x r N8b v some mine is h = ordered_adds y.count r (next_at y x r N8b v).monarch h (adds_on y x r N8b v refl)
ordered_row y x r N9 v some mine is h = ordered_adds y.count r (next_at y x r N9 v).monarch h (adds_on y x r N9 v refl)
ordered_row y x r N10 v some mine is h = ordered_adds y.count r (next_at y x r N10 v).monarch h (adds_on y x r N10 v refl)
ordered_row y x r N11 v some mine is h = ordered_adds y.count r (next_at y x r N11 v).monarch h (adds_on y x r N11 v refl)
ordered_row y x r E0 v some mine is h = ordered_ejects y.count r (next_at y x r E0 v).monarch h (ejects_on y x r E0 v refl)
ordered_row y x r E1 v some mine is h = ordered_ejects y.count r (next_at y x r E1 v).monarch h (ejects_on y x r E1 v refl)
ordered_row y x r E2 v some mine is h = ordered_ejects y.count r (next_at y x r E2 v).monarch h (ejects_on y x r E2 v refl)
ordered_row y x r E3 v some mine is h = ordered_ejects y.count r (next_at y x r E3 v).monarch h (ejects_on y x r E3 v refl)
ordered_row y x r E4a v some mine is h = ordered_ejects y.count r (next_at y x r E4a v).monarch h (ejects_on y x r E4a v refl)
ordered_row y x r E4b v some mine is h = ordered_ejects y.count r (next_at y x r E4b v).monarch h (ejects_on y x r E4b v refl)
ordered_row y x r E4c v some mine is h = ordered_ejects y.count r (next_at y x r E4c v).monarch h (ejects_on y x r E4c v refl)
ordered_row y x r E4d v some mine is h = ordered_ejects y.count r (next_at y x r E4d v).monarch h (ejects_on y x r E4d v refl)
ordered_row y x r E4e v some mine is h = ordered_ejects y.count r (next_at y x r E4e v).monarch h (ejects_on y x r E4e v refl)
ordered_row y x r E4f v some mine is h = ordered_ejects y.count r (next_at y x r E4f v).monarch h (ejects_on y x r E4f v refl)
ordered_row y x r E4g v some mine is h = ordered_ejects y.count r (next_at y x r E4g v).monarch h (ejects_on y x r E4g v refl)
ordered_row y x r E4h v some mine is h = ordered_ejects y.count r (next_at y x r E4h v).monarch h (ejects_on y x r E4h v refl)
ordered_row y x r T v some mine is h = ordered_next y.count y.apics (after_tell r.outcome r) (core_told r.outcome r (core y.count r h))
ordered_row y x r E5 v some mine is h = ordered_first y.count r E6 E7 refl refl refl (core y.count r h)
ordered_row y x r E6 v some mine is h = ordered_slot y.count r E6 E7 refl refl refl (core y.count r h)
ordered_row y x r E7 v some mine is h = h
ordered_row y x r _ v some mine is h = absurd cc

-- and as a session begins
pub ordered_begun : (n : ℕ) (r : Monarch) → Ordered n r → Ordered n (restarted r)
ordered_begun n r h = plain n (restarted r) refl refl (record { rising = h.rising })
