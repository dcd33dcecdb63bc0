-- The running session's entries and the monarch's record say the same.
use Rattle.std.proofs.Common.{ℕ, ◌≡◌, ◌+◌, ◌==◌, Bool, true, false, cond, not, ◌&&◌, ◌||◌, nat_lt, nat_le, List, [], ◌∷◌, ◌++◌, length, Option, Some, None, bit_and, refl, sym, ap, ◌∙◌, if◌then◌else◌}
use Rattle.std.proofs.lemmas.Bool.{and_right}
use Rattle.hp_model.specs.declared.platforms.Platform.{Platform}
use Rattle.hp_model.specs.declared.labels.Label.{Label}
use Rattle.hp_model.specs.declared.labels.Label.TheVariants.{S0, S1, S2, S3, S4, C1, C2, C3, C4, C5, C6, NB, N0, N1, N2, N3, N4, N5, N6, N7, N8a, N8b, N9, N10, N11, E0, E1, E2, E3, E4a, E4b, E4c, E4d, E4e, E4f, E4g, E4h, T, E5, E6, E7}
use Rattle.hp_model.specs.declared.outcomes.Outcome.{Outcome}
use Rattle.hp_model.specs.declared.outcomes.Outcome.TheVariants.{Added, Ejected, Refused}
use Rattle.hp_model.specs.declared.entries.Entry.{Entry}
use Rattle.hp_model.specs.Boot.{value_in}
use Rattle.hp_model.specs.declared.labels.Handler.TheVariants.{Monarch as Monarchs}
use Rattle.hp_model.specs.Labels.{handler_of, index_of, same_label}
use Rattle.hp_model.specs.SharedBytes.{Layout}
use Rattle.hp_model.specs.Slots.{known_from}
use Rattle.hp_model.specs.declared.reports.Report.{Report}
use Rattle.hp_model.specs.Collection.{Collection, CollectNext, CollectsAt, CollectEnds, next_processor, found, judged}
use Rattle.hp_model.specs.Monarch.{Monarch, at_label, first_slot, next_slot, look_at, noted, at_tell, adds, ejects, took, next_report, after_collection, after_tell, restarted}
use Rattle.hp_model.specs.Handlers.{Seat, next_at}
use Rattle.hp_model.specs.Step.{is_after_broadcast}
use Rattle.hp_model.specs.Account.{is_at}
use Rattle.hp_model.specs.Sessions.{interferes}
use Rattle.hp_sealed.proofs.Left.{pick}
use Rattle.hp_exact.proofs.Account.{Account, account_start, account_after}
use Rattle.hp_exact.proofs.Monarchs.{is_among, adds_on, ejects_on, next_by}
use Rattle.hp_exact.proofs.Stages.{Answers, adding_answers, ejecting_answers}
use Rattle.hp_exact.proofs.Invariant.{is_reporting, Tied}

-- the account after an entry of the monarch at a label, with this value
abbrev pub row_account : Label → ℕ → Account → Account
row_account l v a =
    record {
      sent = (index_of l == index_of S2) || a.sent;
      closed = (index_of l == index_of E5) || a.closed;
      disturbed = a.disturbed;
      reports = if index_of l == index_of C6 then a.reports ++ record { cpu = a.cpu; status = a.status; apic = v } ∷ [] else a.reports;
      cpu = if index_of l == index_of C3 then v else a.cpu;
      status = if index_of l == index_of C4 then v else a.status;
    }

pub account_row : (p : Platform) (e : Entry) (l : Label) (a : Account) → ((m : Label) → handler_of m ≡ Monarchs → is_at p m e ≡ (index_of l == index_of m)) → interferes e ≡ false → account_after p e a ≡ row_account l (value_in e.answer) a
account_row p e l a seen calm = rw (seen S2 refl, seen E5 refl, seen C6 refl, seen C3 refl, seen C4 refl, calm) refl

-- and after one of another processor, or of the host
pub account_other : (p : Platform) (e : Entry) (a : Account) → ((m : Label) → handler_of m ≡ Monarchs → is_at p m e ≡ false) → account_after p e a ≡ record a { disturbed = if interferes e then (a.sent && not a.closed) || a.disturbed else a.disturbed }
account_other p e a unseen = rw (unseen S2 refl, unseen E5 refl, unseen C6 refl, unseen C3 refl, unseen C4 refl) refl

-- from S0 to S2
pub early_tied : (a : Account) (t : Monarch) (d : Bool) → is_after_broadcast t.label ≡ false → is_reporting t.label ≡ false → is_among t.label (C4 ∷ C5 ∷ C6 ∷ []) ≡ false → is_among t.label (C5 ∷ C6 ∷ []) ≡ false
    → (a.sent ≡ false) × (a.closed ≡ false) × (a.disturbed ≡ false) → a.reports ≡ [] → Tied a t d
early_tied a t d after reporting found judged facts none = record {
  early = λ e. facts;
  called = λ e. absurd (let both : false ≡ true = sym after ∙ e in cc);
  left = λ e. let s = facts.0 in rw s refl;
  none = λ e. none;
  reports = λ e. absurd (let both : false ≡ true = sym reporting ∙ e in cc);
  found = λ e. absurd (let both : false ≡ true = sym found ∙ e in cc);
  judged = λ e. absurd (let both : false ≡ true = sym judged ∙ e in cc);
}

-- while others are called in
abbrev Called : Account → Bool → Type 0
Called a d = (a.sent ≡ true) × (a.closed ≡ false) × (a.disturbed ≡ d)

-- at S3 and S4
waits_tied : (a : Account) (t : Monarch) (d : Bool) → is_among t.label (S0 ∷ S1 ∷ S2 ∷ []) ≡ false → is_after_broadcast t.label ≡ true → is_reporting t.label ≡ false → is_among t.label (C4 ∷ C5 ∷ C6 ∷ []) ≡ false → is_among t.label (C5 ∷ C6 ∷ []) ≡ false
    → Called a d → a.reports ≡ [] → Tied a t d
waits_tied a t d early after reporting found judged facts none = record {
  early = λ e. absurd (let both : false ≡ true = sym early ∙ e in cc);
  called = λ e. facts;
  left = λ e. absurd (let both : true ≡ false = sym after ∙ e in cc);
  none = λ e. none;
  reports = λ e. absurd (let both : false ≡ true = sym reporting ∙ e in cc);
  found = λ e. absurd (let both : false ≡ true = sym found ∙ e in cc);
  judged = λ e. absurd (let both : false ≡ true = sym judged ∙ e in cc);
}

-- at E5
closes_tied : (a : Account) (t : Monarch) (d : Bool) → t.label ≡ E5 → Called a d → Tied a t d
closes_tied a t d is facts = record {
  early = λ e. absurd (let both : false ≡ true = sym (ap (λ l. is_among l (S0 ∷ S1 ∷ S2 ∷ [])) is) ∙ e in cc);
  called = λ e. facts;
  left = λ e. absurd (let both : true ≡ false = sym (ap is_after_broadcast is) ∙ e in cc);
  none = λ e. absurd (let both : false ≡ true = sym (ap (λ l. is_among l (S0 ∷ S1 ∷ S2 ∷ S3 ∷ S4 ∷ [])) is) ∙ e in cc);
  reports = λ e. absurd (let both : false ≡ true = sym (ap is_reporting is) ∙ e in cc);
  found = λ e. absurd (let both : false ≡ true = sym (ap (λ l. is_among l (C4 ∷ C5 ∷ C6 ∷ [])) is) ∙ e in cc);
  judged = λ e. absurd (let both : false ≡ true = sym (ap (λ l. is_among l (C5 ∷ C6 ∷ [])) is) ∙ e in cc);
}

-- from C1 to T
collects_tied : (a : Account) (t : Monarch) (d : Bool) → is_among t.label (S0 ∷ S1 ∷ S2 ∷ []) ≡ false → is_among t.label (S0 ∷ S1 ∷ S2 ∷ S3 ∷ S4 ∷ []) ≡ false → is_after_broadcast t.label ≡ true
    → Called a d → a.reports ≡ t.collection.reports → (is_among t.label (C4 ∷ C5 ∷ C6 ∷ []) ≡ true → a.cpu ≡ t.collection.cpu) → (is_among t.label (C5 ∷ C6 ∷ []) ≡ true → a.status ≡ t.collection.status) → Tied a t d
collects_tied a t d early none after facts reports found judged = record {
  early = λ e. absurd (let both : false ≡ true = sym early ∙ e in cc);
  called = λ e. facts;
  left = λ e. absurd (let both : true ≡ false = sym after ∙ e in cc);
  none = λ e. absurd (let both : false ≡ true = sym none ∙ e in cc);
  reports = λ e. reports;
  found = found;
  judged = judged;
}

answers_tied : (a : Account) (t : Monarch) (d : Bool) → Answers t.label → Called a d → a.reports ≡ t.collection.reports → Tied a t d
answers_tied a t d h facts reports =
    collects_tied a t d h.early h.none h.after facts reports
    (λ e. absurd (let both : false ≡ true = sym h.found ∙ e in cc)) (λ e. absurd (let both : false ≡ true = sym h.judged ∙ e in cc))

-- at E6 and E7
over_tied : (a : Account) (t : Monarch) (d : Bool) → is_among t.label (S0 ∷ S1 ∷ S2 ∷ []) ≡ false → is_among t.label (S0 ∷ S1 ∷ S2 ∷ S3 ∷ S4 ∷ []) ≡ false → is_after_broadcast t.label ≡ false → is_reporting t.label ≡ false
    → is_among t.label (C4 ∷ C5 ∷ C6 ∷ []) ≡ false → is_among t.label (C5 ∷ C6 ∷ []) ≡ false → (a.sent && not a.closed) ≡ false → Tied a t d
over_tied a t d early none after reporting found judged left = record {
  early = λ e. absurd (let both : false ≡ true = sym early ∙ e in cc);
  called = λ e. absurd (let both : false ≡ true = sym after ∙ e in cc);
  left = λ e. left;
  none = λ e. absurd (let both : false ≡ true = sym none ∙ e in cc);
  reports = λ e. absurd (let both : false ≡ true = sym reporting ∙ e in cc);
  found = λ e. absurd (let both : false ≡ true = sym found ∙ e in cc);
  judged = λ e. absurd (let both : false ≡ true = sym judged ∙ e in cc);
}

abbrev Ties : Account → Bool → Monarch → Type 0
Ties a d t = Tied a t d

-- slots are looked at before others are called in, and after the session's end
tied_first : (a : Account) (r : Monarch) (d : Bool) → (a.sent ≡ false) × (a.closed ≡ false) × (a.disturbed ≡ false) → a.reports ≡ [] → Tied a (first_slot S1 S2 r) d
tied_first a r d facts none = pick (Ties a d) (nat_lt 1 (length r.slots.bound)) _ _ (early_tied a (record r { label = S1; slot = 1 }) d refl refl refl refl facts none) (early_tied a (at_label S2 r) d refl refl refl refl facts none)

tied_next : (a : Account) (r : Monarch) (d : Bool) → (a.sent ≡ false) × (a.closed ≡ false) × (a.disturbed ≡ false) → a.reports ≡ [] → Tied a (next_slot S1 S2 r) d
tied_next a r d facts none = pick (Ties a d) (nat_lt (r.slot + 1) (length r.slots.bound)) _ _ (early_tied a (record r { label = S1; slot = r.slot + 1 }) d refl refl refl refl facts none) (early_tied a (at_label S2 r) d refl refl refl refl facts none)

tied_free : (a : Account) (r : Monarch) (d : Bool) → (a.sent && not a.closed) ≡ false → Tied a (first_slot E6 E7 r) d
tied_free a r d left = pick (Ties a d) (nat_lt 1 (length r.slots.bound)) _ _ (over_tied a (record r { label = E6; slot = 1 }) d refl refl refl refl refl refl left) (over_tied a (at_label E7 r) d refl refl refl refl refl refl left)

tied_freed : (a : Account) (r : Monarch) (d : Bool) → (a.sent && not a.closed) ≡ false → Tied a (next_slot E6 E7 r) d
tied_freed a r d left = pick (Ties a d) (nat_lt (r.slot + 1) (length r.slots.bound)) _ _ (over_tied a (record r { label = E6; slot = r.slot + 1 }) d refl refl refl refl refl refl left) (over_tied a (at_label E7 r) d refl refl refl refl refl refl left)

tied_look : (a : Account) (polls : ℕ) (o : Option ℕ) (r : Monarch) (d : Bool) → Called a d → a.reports ≡ [] → Tied a (look_at polls o r) d
tied_look a polls (Some slot) r d facts none = waits_tied a (look_at polls (Some slot) r) d refl refl refl refl refl facts none
tied_look a polls None r d facts none = waits_tied a (look_at polls None r) d refl refl refl refl refl facts none

-- reports
tied_report : (a : Account) (apics : List ℕ) (r : Monarch) (d : Bool) → Called a d → a.reports ≡ r.collection.reports → Tied a (next_report apics r) d
tied_report a apics r d facts reports = next_by (Ties a d) apics r
    (λ _. closes_tied a (at_label E5 r) d refl facts)
    (λ t ts _ o. collects_tied a (at_tell o (took r)) d refl refl refl facts reports (λ e. absurd cc) (λ e. absurd cc))
    (λ t ts _ _. collects_tied a (adds t (took r)) d refl refl refl facts reports (λ e. absurd cc) (λ e. absurd cc))
    (λ t ts _ _. collects_tied a (ejects t (took r)) d refl refl refl facts reports (λ e. absurd cc) (λ e. absurd cc))

told_collection : (o : Outcome) (r : Monarch) → (after_tell o r).collection ≡ r.collection
told_collection (Added cpu apic slot) r = refl
told_collection (Ejected cpu apic slot) r = refl
told_collection (Refused why) r = refl

abbrev TiedAfter : Account → Bool → List ℕ → Monarch → CollectNext → Type 0
TiedAfter a d apics r w = Tied a (after_collection apics w r) d

tied_processor : (a : Account) (n : ℕ) (apics : List ℕ) (r : Monarch) (c : Collection) (d : Bool) → Called a d → a.reports ≡ c.reports → TiedAfter a d apics r (next_processor n c)
tied_processor a n apics r c d facts reports = pick (TiedAfter a d apics r) (nat_lt (c.cpu + 1) n) _ _
    (collects_tied a (record r { label = C1; collection = record c { cpu = c.cpu + 1 } }) d refl refl refl facts reports (λ e. absurd cc) (λ e. absurd cc))
    (tied_report a apics (record r { collection = record c { cpu = c.cpu + 1 } }) d facts reports)

pub one_more : (xs ys : List Report) (i j s u v : ℕ) → xs ≡ ys → i ≡ j → s ≡ u → xs ++ record { cpu = i; status = s; apic = v } ∷ [] ≡ ys ++ record { cpu = j; status = u; apic = v } ∷ []
one_more xs ys i j s u v a b c = rw (a, b, c) refl

-- at each label of the monarch
pub tied_row : (y : Layout) (x : Seat) (r : Monarch) (l : Label) (v : ℕ) (a : Account) (d : Bool) → handler_of l ≡ Monarchs → r.label ≡ l → Tied a r d → Tied (row_account l v a) (next_at y x r l v).monarch (not (same_label l S2) && d)
tied_row y x r S0 v a d mine is h = tied_first a r d (h.early (rw is refl)) (h.none (rw is refl))
tied_row y x r S1 v a d mine is h = tied_next a r d (h.early (rw is refl)) (h.none (rw is refl))
tied_row y x r S2 v a d mine is h =
    let facts = h.early (rw is refl) in
    tied_look (record a { sent = true }) y.polls (known_from r.slots 1) r false (refl, facts.1, facts.2) (h.none (rw is refl))
tied_row y x r S3 v a d mine is h =
    pick (Ties a d) ((v == 1) || nat_le r.polls 1) _ _
    (tied_look a y.polls (known_from r.slots (r.slot + 1)) (noted r.slot v r) d (h.called (rw is refl)) (h.none (rw is refl)))
    (record { early = h.early; called = h.called; left = h.left; none = h.none; reports = h.reports; found = h.found; judged = h.judged })
tied_row y x r S4 v a d mine is h =
    pick (Ties a d) (v == 4) _ _
    (collects_tied a _ d refl refl refl (h.called (rw is refl)) (h.none (rw is refl)) (λ e. absurd cc) (λ e. absurd cc))
    (closes_tied a (at_label E5 r) d refl (h.called (rw is refl)))
tied_row y x r C1 v a d mine is h = collects_tied a (at_label C2 r) d refl refl refl (h.called (rw is refl)) (h.reports (rw is refl)) (λ e. absurd cc) (λ e. absurd cc)
tied_row y x r C2 v a d mine is h = collects_tied a (at_label C3 r) d refl refl refl (h.called (rw is refl)) (h.reports (rw is refl)) (λ e. absurd cc) (λ e. absurd cc)
tied_row y x r C3 v a d mine is h =
    let c = r.collection in
    let b : Account = record a { cpu = v } in
    pick (TiedAfter b d y.apics r) (nat_lt v c.cpu || not (nat_lt v y.count)) (CollectEnds c) (CollectsAt C4 (record c { cpu = v }))
    (tied_report b y.apics (record r { collection = c }) d (h.called (rw is refl)) (h.reports (rw is refl)))
    (collects_tied b (record r { label = C4; collection = record c { cpu = v } }) d refl refl refl (h.called (rw is refl)) (h.reports (rw is refl)) (λ e. refl) (λ e. absurd cc))
tied_row y x r C4 v a d mine is h =
    let c = r.collection in
    let b : Account = record a { status = v } in
    pick (TiedAfter b d y.apics r) (bit_and v 0x12 == 0) (next_processor y.count c) (CollectsAt C5 (record c { status = v }))
    (tied_processor b y.count y.apics r c d (h.called (rw is refl)) (h.reports (rw is refl)))
    (collects_tied b (record r { label = C5; collection = record c { status = v } }) d refl refl refl (h.called (rw is refl)) (h.reports (rw is refl)) (λ e. h.found (rw is refl)) (λ e. refl))
tied_row y x r C5 v a d mine is h = collects_tied a (at_label C6 r) d refl refl refl (h.called (rw is refl)) (h.reports (rw is refl)) (λ e. h.found (rw is refl)) (λ e. h.judged (rw is refl))
tied_row y x r C6 v a d mine is h =
    let c = r.collection in
    let t : Report = record { cpu = c.cpu; status = c.status; apic = v } in
    tied_processor (row_account C6 v a) y.count y.apics r (record c { reports = c.reports ++ t ∷ [] }) d (h.called (rw is refl))
    (one_more a.reports c.reports a.cpu c.cpu a.status c.status v (h.reports (rw is refl)) (h.found (rw is refl)) (h.judged (rw is refl)))
tied_row y x r NB v a d mine is h = let on = adds_on y x r NB v refl in answers_tied a (next_at y x r NB v).monarch d (adding_answers (next_at y x r NB v).monarch.label on.label) (h.called (rw is refl)) (h.reports (rw is refl) ∙ sym (ap (λ (c : Collection). c.reports) on.collection))
tied_row y x r N0 v a d mine is h = let on = adds_on y x r N0 v refl in answers_tied a (next_at y x r N0 v).monarch d (adding_answers (next_at y x r N0 v).monarch.label on.label) (h.called (rw is refl)) (h.reports (rw is refl) ∙ sym (ap (λ (c : Collection). c.reports) on.collection))
tied_row y x r N1 v a d mine is h = let on = adds_on y x r N1 v refl in answers_tied a (next_at y x r N1 v).monarch d (adding_answers (next_at y x r N1 v).monarch.label on.label) (h.called (rw is refl)) (h.reports (rw is refl) ∙ sym (ap (λ (c : Collection). c.reports) on.collection))
tied_row y x r N2 v a d mine is h = let on = adds_on y x r N2 v refl in answers_tied a (next_at y x r N2 v).monarch d (adding_answers (next_at y x r N2 v).monarch.label on.label) (h.called (rw is refl)) (h.reports (rw is refl) ∙ sym (ap (λ (c : Collection). c.reports) on.collection))
tied_row y x r N3 v a d mine is h = let on = adds_on y x r N3 v refl in answers_tied a (next_at y x r N3 v).monarch d (adding_answers (next_at y x r N3 v).monarch.label on.label) (h.called (rw is refl)) (h.reports (rw is refl) ∙ sym (ap (λ (c : Collection). c.reports) on.collection))
tied_row y x r N4 v a d mine is h = let on = adds_on y x r N4 v refl in answers_tied a (next_at y x r N4 v).monarch d (adding_answers (next_at y x r N4 v).monarch.label on.label) (h.called (rw is refl)) (h.reports (rw is refl) ∙ sym (ap (λ (c : Collection). c.reports) on.collection))
tied_row y x r N5 v a d mine is h = let on = adds_on y x r N5 v refl in answers_tied a (next_at y x r N5 v).monarch d (adding_answers (next_at y x r N5 v).monarch.label on.label) (h.called (rw is refl)) (h.reports (rw is refl) ∙ sym (ap (λ (c : Collection). c.reports) on.collection))
tied_row y x r N6 v a d mine is h = let on = adds_on y x r N6 v refl in answers_tied a (next_at y x r N6 v).monarch d (adding_answers (next_at y x r N6 v).monarch.label on.label) (h.called (rw is refl)) (h.reports (rw is refl) ∙ sym (ap (λ (c : Collection). c.reports) on.collection))
tied_row y x r N7 v a d mine is h = let on = adds_on y x r N7 v refl in answers_tied a (next_at y x r N7 v).monarch d (adding_answers (next_at y x r N7 v).monarch.label on.label) (h.called (rw is refl)) (h.reports (rw is refl) ∙ sym (ap (λ (c : Collection). c.reports) on.collection))
tied_row y x r N8a v a d mine is h = let on = adds_on y x r N8a v refl in answers_tied a (next_at y x r N8a v).monarch d (adding_answers (next_at y x r N8a v).monarch.label on.label) (h.called (rw is refl)) (h.reports (rw is refl) ∙ sym (ap (λ (c : Collection). c.reports) on.collection))
tied_row y x r N8b v a d mine is h = let on = adds_on y x r N8b v refl in answers_tied a (next_at y x r N8b v).monarch d (adding_answers (next_at y x r N8b v).monarch.label on.label) (h.called (rw is refl)) (h.reports (rw is refl) ∙ sym (ap (λ (c : Collection). c.reports) on.collection))
tied_row y x r N9 v a d mine is h = let on = adds_on y x r N9 v refl in answers_tied a (next_at y x r N9 v).monarch d (adding_answers (next_at y x r N9 v).monarch.label on.label) (h.called (rw is refl)) (h.reports (rw is refl) ∙ sym (ap (λ (c : Collection). c.reports) on.collection))
tied_row y x r N10 v a d mine is h = let on = adds_on y x r N10 v refl in answers_tied a (next_at y x r N10 v).monarch d (adding_answers (next_at y x r N10 v).monarch.label on.label) (h.called (rw is refl)) (h.reports (rw is refl) ∙ sym (ap (λ (c : Collection). c.reports) on.collection))
tied_row y x r N11 v a d mine is h = let on = adds_on y x r N11 v refl in answers_tied a (next_at y x r N11 v).monarch d (adding_answers (next_at y x r N11 v).monarch.label on.label) (h.called (rw is refl)) (h.reports (rw is refl) ∙ sym (ap (λ (c : Collection). c.reports) on.collection))
tied_row y x r E0 v a d mine is h = let on = ejects_on y x r E0 v refl in answers_tied a (next_at y x r E0 v).monarch d (ejecting_answers (next_at y x r E0 v).monarch.label on.label) (h.called (rw is refl)) (h.reports (rw is refl) ∙ sym (ap (λ (c : Collection). c.reports) on.collection))
tied_row y x r E1 v a d mine is h = let on = ejects_on y x r E1 v refl in answers_tied a (next_at y x r E1 v).monarch d (ejecting_answers (next_at y x r E1 v).monarch.label on.label) (h.called (rw is refl)) (h.reports (rw is refl) ∙ sym (ap (λ (c : Collection). c.reports) on.collection))
tied_row y x r E2 v a d mine is h = let on = ejects_on y x r E2 v refl in answers_tied a (next_at y x r E2 v).monarch d (ejecting_answers (next_at y x r E2 v).monarch.label on.label) (h.called (rw is refl)) (h.reports (rw is refl) ∙ sym (ap (λ (c : Collection). c.reports) on.collection))
tied_row y x r E3 v a d mine is h = let on = ejects_on y x r E3 v refl in answers_tied a (next_at y x r E3 v).monarch d (ejecting_answers (next_at y x r E3 v).monarch.label on.label) (h.called (rw is refl)) (h.reports (rw is refl) ∙ sym (ap (λ (c : Collection). c.reports) on.collection))
tied_row y x r E4a v a d mine is h = let on = ejects_on y x r E4a v refl in answers_tied a (next_at y x r E4a v).monarch d (ejecting_answers (next_at y x r E4a v).monarch.label on.label) (h.called (rw is refl)) (h.reports (rw is refl) ∙ sym (ap (λ (c : Collection). c.reports) on.collection))
tied_row y x r E4b v a d mine is h = let on = ejects_on y x r E4b v refl in answers_tied a (next_at y x r E4b v).monarch d (ejecting_answers (next_at y x r E4b v).monarch.label on.label) (h.called (rw is refl)) (h.reports (rw is refl) ∙ sym (ap (λ (c : Collection). c.reports) on.collection))
tied_row y x r E4c v a d mine is h = let on = ejects_on y x r E4c v refl in answers_tied a (next_at y x r E4c v).monarch d (ejecting_answers (next_at y x r E4c v).monarch.label on.label) (h.called (rw is refl)) (h.reports (rw is refl) ∙ sym (ap (λ (c : Collection). c.reports) on.collection))
tied_row y x r E4d v a d mine is h = let on = ejects_on y x r E4d v refl in answers_tied a (next_at y x r E4d v).monarch d (ejecting_answers (next_at y x r E4d v).monarch.label on.label) (h.called (rw is refl)) (h.reports (rw is refl) ∙ sym (ap (λ (c : Collection). c.reports) on.collection))
tied_row y x r E4e v a d mine is h = let on = ejects_on y x r E4e v refl in answers_tied a (next_at y x r E4e v).monarch d (ejecting_answers (next_at y x r E4e v).monarch.label on.label) (h.called (rw is refl)) (h.reports (rw is refl) ∙ sym (ap (λ (c : Collection). c.reports) on.collection))
tied_row y x r E4f v a d mine is h = let on = ejects_on y x r E4f v refl in answers_tied a (next_at y x r E4f v).monarch d (ejecting_answers (next_at y x r E4f v).monarch.label on.label) (h.called (rw is refl)) (h.reports (rw is refl) ∙ sym (ap (λ (c : Collection). c.reports) on.collection))
tied_row y x r E4g v a d mine is h = let on = ejects_on y x r E4g v refl in answers_tied a (next_at y x r E4g v).monarch d (ejecting_answers (next_at y x r E4g v).monarch.label on.label) (h.called (rw is refl)) (h.reports (rw is refl) ∙ sym (ap (λ (c : Collection). c.reports) on.collection))
tied_row y x r E4h v a d mine is h = let on = ejects_on y x r E4h v refl in answers_tied a (next_at y x r E4h v).monarch d (ejecting_answers (next_at y x r E4h v).monarch.label on.label) (h.called (rw is refl)) (h.reports (rw is refl) ∙ sym (ap (λ (c : Collection). c.reports) on.collection))
tied_row y x r T v a d mine is h = tied_report a y.apics (after_tell r.outcome r) d (h.called (rw is refl)) (h.reports (rw is refl) ∙ sym (ap (λ (c : Collection). c.reports) (told_collection r.outcome r)))
tied_row y x r E5 v a d mine is h = tied_free (record a { closed = true }) r d (and_right a.sent false refl)
tied_row y x r E6 v a d mine is h = tied_freed a r d (h.left (rw is refl))
tied_row y x r E7 v a d mine is h = h
tied_row y x r _ v a d mine is h = absurd cc

-- as a session begins, and where it has ended
pub tied_begun : (r : Monarch) (d : Bool) → Tied account_start (restarted r) d
tied_begun r d = early_tied account_start (restarted r) d refl refl refl refl (refl, refl, refl) refl

pub tied_ended : (r : Monarch) (d : Bool) → r.label ≡ E7 → Tied account_start r d
tied_ended r d is = over_tied account_start r d (rw is refl) (rw is refl) (rw is refl) (rw is refl) (rw is refl) (rw is refl) refl

-- others, and the host
disturbed_more : (w sent closed was d after : Bool) → sent ≡ true → closed ≡ false → was ≡ d → after ≡ true → cond w ((sent && not closed) || was) was ≡ (d || (w && after))
disturbed_more true true false was d true e f g h = by_flag d
  where
    by_flag : (b : Bool) → true ≡ (b || true)
    by_flag true = refl
    by_flag false = refl
disturbed_more false true false was d true e f g h = g ∙ by_flag d
  where
    by_flag : (b : Bool) → b ≡ (b || false)
    by_flag true = refl
    by_flag false = refl
disturbed_more w false closed was d after e f g h = absurd cc
disturbed_more w true true was d after e f g h = absurd cc
disturbed_more w true false was d false e f g h = absurd cc

pub tied_other : (a : Account) (r : Monarch) (w d : Bool) → Tied a r d → Tied (record a { disturbed = if w then (a.sent && not a.closed) || a.disturbed else a.disturbed }) r (d || (w && is_after_broadcast r.label))
tied_other a r w d h = record {
  early = λ e. let f = h.early e in (f.0, f.1, undisturbed w a.sent a.closed a.disturbed f.0 f.2);
  called = λ e. let f = h.called e in (f.0, f.1, disturbed_more w a.sent a.closed a.disturbed d (is_after_broadcast r.label) f.0 f.1 f.2 e);
  left = h.left;
  none = h.none;
  reports = h.reports;
  found = h.found;
  judged = h.judged;
}
  where
    undisturbed : (w sent closed was : Bool) → sent ≡ false → was ≡ false → cond w ((sent && not closed) || was) was ≡ false
    undisturbed true false closed was e f = f
    undisturbed true true closed was e f = absurd cc
    undisturbed false sent closed was e f = f
