-- While a session is undisturbed: the monarch's reports are of the processors that they name, and those are there.
use Rattle.std.proofs.Common.{ℕ, zero, suc, ◌≡◌, ◌+◌, ◌-◌, ◌<◌, ◌==◌, Bool, true, false, not, ◌||◌, nat_lt, nat_le, List, [], ◌∷◌, ◌++◌, length, drop, Option, Some, None, bit_and, refl, sym, ap, subst, ◌∙◌}
use Rattle.std.specs.List.{list_all}
use Rattle.std.proofs.lemmas.Bool.{and_parts, eqb-true}
use Rattle.hp_model.specs.declared.platforms.Platform.{Platform}
use Rattle.hp_model.specs.declared.processors.Cpu.{Cpu}
use Rattle.hp_model.specs.declared.labels.Label.{Label}
use Rattle.hp_model.specs.declared.labels.Label.TheVariants.{F1, F2, F3, F4, F5, F6, R1, R2, R3, R4, R5, R6, S0, S1, S2, S3, S4, C1, C2, C3, C4, C5, C6, NB, N0, N1, N2, N3, N4, N5, N6, N7, N8a, N8b, N9, N10, N11, E0, E1, E2, E3, E4a, E4b, E4c, E4d, E4e, E4f, E4g, E4h, T, E5, E6, E7}
use Rattle.hp_model.specs.declared.outcomes.Outcome.{Outcome}
use Rattle.hp_model.specs.declared.outcomes.Outcome.TheVariants.{Added, Ejected, Refused}
use Rattle.hp_model.specs.Platform.{count_of, apic_of, is_late}
use Rattle.hp_model.specs.Cpu.{cpu_at}
use Rattle.hp_model.specs.Block.{Block, slot_at, status}
use Rattle.hp_model.specs.declared.labels.Handler.TheVariants.{Monarch as Monarchs}
use Rattle.hp_model.specs.Labels.{handler_of}
use Rattle.hp_model.specs.SharedBytes.{layout_of}
use Rattle.hp_model.specs.Slots.{known_from}
use Rattle.hp_model.specs.declared.reports.Report.{Report}
use Rattle.hp_model.specs.Collection.{Collection, CollectNext, CollectsAt, CollectEnds, collection_start, next_processor, found, judged, reported}
use Rattle.hp_model.specs.Monarch.{Monarch, is_own, at_label, look_at, noted, at_tell, adds, ejects, took, next_report, after_collection, after_tell, after_eject}
use Rattle.hp_model.specs.Handlers.{Seat, next_at}
use Rattle.hp_model.specs.Step.{is_after_broadcast}
use Rattle.hp_model.specs.Transitions.{Transition}
use Rattle.hp_model.specs.Exact.{rises, has_status}
use Rattle.hp_sealed.proofs.Left.{pick, pick_by}
use Rattle.hp_exact.proofs.Monarchs.{is_among, adding, ejecting, AddsOn, adds_on, EjectsOn, ejects_on, next_by}
use Rattle.hp_exact.proofs.Stages.{adding_answers, ejecting_answers, adding_alone, ejecting_alone}
use Rattle.hp_exact.proofs.Reports.{all_last, drop_next, rises_last, rises_drop}
use Rattle.hp_exact.proofs.Naming.{own_is, is_own-is}
use Rattle.hp_exact.proofs.Reading.{status_enabled, status_calm}
use Rattle.hp_exact.proofs.Invariant.{is_reporting, Ordered, Agrees, Chosen, is_there, Reported, Undisturbed}

pub no_more : {A : Type 0} (b : Bool) → b ≡ false → b ≡ true → A
no_more b e f = absurd (let both : false ≡ true = sym e ∙ f in cc)

-- what is said of the register block at other labels: nothing
chosen_plain : (n : ℕ) (b : Block) (r : Monarch) → is_among r.label (C2 ∷ C4 ∷ C5 ∷ C6 ∷ []) ≡ false → is_among r.label (C3 ∷ []) ≡ false → is_among r.label (C6 ∷ []) ≡ false → is_among r.label (E4b ∷ []) ≡ false → Chosen n b r
chosen_plain n b r s f a h = record { selected = λ e. no_more _ s e; searched = λ e. no_more _ f e; asked = λ e. no_more _ a e; handed = λ e. no_more _ h e }

-- and where neither an add nor an eject runs and no status is looked at
reported_plain : (p : Platform) (cs : List Cpu) (r : Monarch) → is_among r.label (C5 ∷ C6 ∷ []) ≡ false → is_among r.label adding ≡ false → is_among r.label ejecting ≡ false
    → (is_reporting r.label ≡ true → list_all (is_own p.apic) r.collection.reports ≡ true) → (is_reporting r.label ≡ true → list_all (is_there cs) (drop r.taken r.collection.reports) ≡ true) → Reported p cs r
reported_plain p cs r j a x own there = record {
  own = own;
  there = there;
  other = λ e. no_more _ j e;
  next = λ e. no_more _ j e;
  added = λ e. no_more _ a e;
  adds = λ e. no_more _ a e;
  possible = λ e. no_more _ x e;
  ejects = λ e. no_more _ x e;
}

module _ (p : Platform) (b : Block) (cs : List Cpu) (o : Option Transition) where
  abbrev Clear : Monarch → Type 0
  Clear r = Undisturbed p b cs o r

  -- between a session's beginning and its collection, and from its end on
  clear_plain : (r : Monarch) → is_among r.label (C2 ∷ C4 ∷ C5 ∷ C6 ∷ []) ≡ false → is_among r.label (C3 ∷ []) ≡ false → is_among r.label (C6 ∷ []) ≡ false → is_among r.label (E4b ∷ []) ≡ false
      → is_among r.label (C5 ∷ C6 ∷ []) ≡ false → is_among r.label adding ≡ false → is_among r.label ejecting ≡ false
      → (is_reporting r.label ≡ true → list_all (is_own p.apic) r.collection.reports ≡ true) → (is_reporting r.label ≡ true → list_all (is_there cs) (drop r.taken r.collection.reports) ≡ true) → Clear r
  clear_plain r s f a h j x y own there = record { chosen = chosen_plain (count_of p) b r s f a h; reported = reported_plain p cs r j x y own there; read = λ e. no_more _ j e }

  clear_look : (polls : ℕ) (k : Option ℕ) (r : Monarch) → Clear (look_at polls k r)
  clear_look polls (Some slot) r = clear_plain (look_at polls (Some slot) r) refl refl refl refl refl refl refl (λ e. absurd cc) (λ e. absurd cc)
  clear_look polls None r = clear_plain (look_at polls None r) refl refl refl refl refl refl refl (λ e. absurd cc) (λ e. absurd cc)

  -- a report that is taken up
  there_first : (t : Report) (ts : List Report) → list_all (is_there cs) (t ∷ ts) ≡ true → (is_there cs t ≡ true) × (list_all (is_there cs) ts ≡ true)
  there_first t ts h = and_parts (is_there cs t) (list_all (is_there cs) ts) h

  present_of : (t : Report) → is_there cs t ≡ true → (bit_and t.status 1 == 1) ≡ true → (cpu_at cs t.cpu).present ≡ true
  present_of t h bit = plain (bit_and t.status 1 == 1) (cpu_at cs t.cpu).present bit h
    where
      plain : (x y : Bool) → x ≡ true → (not x || y) ≡ true → y ≡ true
      plain true y e f = f
      plain false y e f = absurd cc

  clear_next : (r : Monarch) → list_all (is_own p.apic) r.collection.reports ≡ true → list_all (is_there cs) (drop r.taken r.collection.reports) ≡ true → rises r.collection.reports ≡ true → Clear (next_report p.apic r)
  clear_next r own there rising = next_by Clear p.apic r
      (λ _. clear_plain (at_label E5 r) refl refl refl refl refl refl refl (λ e. absurd cc) (λ e. absurd cc))
      (λ t ts is k. clear_plain (at_tell k (took r)) refl refl refl refl refl refl refl (λ e. own) (λ e. later t ts is))
      (λ t ts is passed. record {
        chosen = chosen_plain (count_of p) b (adds t (took r)) refl refl refl refl;
        reported = record {
          own = λ e. own;
          there = λ e. later t ts is;
          other = λ e. absurd cc;
          next = λ e. absurd cc;
          added = λ e. passed.own;
          adds = λ e. present_of t (first t ts is).0 passed.there;
          possible = λ e. absurd cc;
          ejects = λ e. absurd cc;
        };
        read = λ e. absurd cc;
      })
      (λ t ts is passed. record {
        chosen = chosen_plain (count_of p) b (ejects t (took r)) refl refl refl refl;
        reported = record {
          own = λ e. own;
          there = λ e. later t ts is;
          other = λ e. absurd cc;
          next = λ e. absurd cc;
          added = λ e. absurd cc;
          adds = λ e. absurd cc;
          possible = λ e. (own_is p t passed.own).less;
          ejects = λ e. subst (λ xs. list_all (λ u. nat_lt t.cpu u.cpu) xs ≡ true) (sym (drop_next r.taken r.collection.reports ts t is)) (rises_drop r.taken r.collection.reports ts t rising is);
        };
        read = λ e. absurd cc;
      })
    where
      first : (t : Report) (ts : List Report) → drop r.taken r.collection.reports ≡ t ∷ ts → (is_there cs t ≡ true) × (list_all (is_there cs) ts ≡ true)
      first t ts is = there_first t ts (subst (λ xs. list_all (is_there cs) xs ≡ true) is there)

      later : (t : Report) (ts : List Report) → drop r.taken r.collection.reports ≡ t ∷ ts → list_all (is_there cs) (drop (r.taken + 1) r.collection.reports) ≡ true
      later t ts is = subst (λ xs. list_all (is_there cs) xs ≡ true) (sym (drop_next r.taken r.collection.reports ts t is)) (first t ts is).1

  -- the collection
  abbrev Led : Monarch → CollectNext → Type 0
  Led r w = Clear (after_collection p.apic w r)

  clear_processor : (n : ℕ) (r : Monarch) (c : Collection) → list_all (is_own p.apic) c.reports ≡ true → list_all (is_there cs) (drop r.taken c.reports) ≡ true → rises c.reports ≡ true → Led r (next_processor n c)
  clear_processor n r c own there rising = pick (Led r) (nat_lt (c.cpu + 1) n) (CollectsAt C1 (record c { cpu = c.cpu + 1 })) (CollectEnds (record c { cpu = c.cpu + 1 }))
      (clear_plain (record r { label = C1; collection = record c { cpu = c.cpu + 1 } }) refl refl refl refl refl refl refl (λ e. own) (λ e. there))
      (clear_next (record r { collection = record c { cpu = c.cpu + 1 } }) own there rising)

  -- an add, and an eject, but for the row that selects its processor
  clear_adds : (r t : Monarch) → is_among r.label adding ≡ true → is_reporting r.label ≡ true → Reported p cs r → AddsOn r t → Clear t
  clear_adds r t mine reporting h on =
      let answers = adding_answers t.label on.label in
      let alone = adding_alone t.label on.label in
      record {
        chosen = chosen_plain (count_of p) b t answers.selected answers.searched answers.asked (no_eject t.label alone);
        reported = record {
          own = λ e. rw on.collection (h.own reporting);
          there = λ e. rw (on.collection, on.taken) (h.there reporting);
          other = λ e. no_more _ answers.judged e;
          next = λ e. no_more _ answers.judged e;
          added = λ e. rw (on.cpu, on.apic) (h.added mine);
          adds = λ e. rw on.cpu (h.adds mine);
          possible = λ e. no_more _ alone e;
          ejects = λ e. no_more _ alone e;
        };
        read = λ e. no_more _ answers.judged e;
      }
    where
      no_eject : (l : Label) → is_among l ejecting ≡ false → is_among l (E4b ∷ []) ≡ false
      no_eject E4b e = absurd cc
      no_eject _ e = refl

  clear_ejects : (r t : Monarch) → is_among r.label ejecting ≡ true → is_reporting r.label ≡ true → Reported p cs r → EjectsOn r t → (is_among t.label (E4b ∷ []) ≡ true → b.selector ≡ t.eject.cpu) → Clear t
  clear_ejects r t mine reporting h on handed =
      let answers = ejecting_answers t.label on.label in
      let alone = ejecting_alone t.label on.label in
      record {
        chosen = record { selected = λ e. no_more _ answers.selected e; searched = λ e. no_more _ answers.searched e; asked = λ e. no_more _ answers.asked e; handed = handed };
        reported = record {
          own = λ e. rw on.collection (h.own reporting);
          there = λ e. rw (on.collection, on.taken) (h.there reporting);
          other = λ e. no_more _ answers.judged e;
          next = λ e. no_more _ answers.judged e;
          added = λ e. no_more _ alone e;
          adds = λ e. no_more _ alone e;
          possible = λ e. rw on.cpu (h.possible mine);
          ejects = λ e. rw (on.cpu, on.collection, on.taken) (h.ejects mine);
        };
        read = λ e. no_more _ answers.judged e;
      }

-- what is read and written at a row, where the session is undisturbed: with b the block before it, and b2 and o2 the block and the last status after it
pub record Reads (p : Platform) (b b2 : Block) (o o2 : Option Transition) (r : Monarch) (l : Label) (v : ℕ) : Type 0 where
  pub selects : l ≡ C1 → b2.selector ≡ r.collection.cpu
  pub searches : l ≡ C2 → (b2.command ≡ 0) × (b2.selector < count_of p)
  pub finds : l ≡ C3 → b2.selector ≡ v
  pub reads : l ≡ C4 → (b2.selector ≡ r.collection.cpu) × (v ≡ status (slot_at b r.collection.cpu)) × (has_status (record { cpu = r.collection.cpu; status = v; apic = 0 }) o2 ≡ true)
  pub asks : l ≡ C5 → (b2.selector ≡ r.collection.cpu) × (b2.command ≡ 3) × (o2 ≡ o)
  pub names : l ≡ C6 → v ≡ apic_of p r.collection.cpu
  pub hands : l ≡ E4a → b2.selector ≡ r.eject.cpu

pub all_drop_last : (f : Report → Bool) (n : ℕ) (xs : List Report) (t : Report) → list_all f (drop n xs) ≡ true → f t ≡ true → list_all f (drop n (xs ++ t ∷ [])) ≡ true
all_drop_last f zero xs t h last = all_last f xs t h last
all_drop_last f (suc zero) [] t h last = refl
all_drop_last f (suc (suc n)) [] t h last = refl
all_drop_last f (suc n) (x ∷ xs) t h last = all_drop_last f n xs t h last

pub told_same : (o : Outcome) (r : Monarch) → ((after_tell o r).collection ≡ r.collection) × ((after_tell o r).taken ≡ r.taken)
told_same (Added cpu apic slot) r = (refl, refl)
told_same (Ejected cpu apic slot) r = (refl, refl)
told_same (Refused why) r = (refl, refl)

-- at each label of the monarch
module _ (p : Platform) (b b2 : Block) (ds cs : List Cpu) (o o2 : Option Transition) (q : Seat) (r : Monarch) (v : ℕ)
    (before : is_after_broadcast r.label ≡ true → Undisturbed p b cs o r) (agrees : Agrees p b ds) (here : r.label ≡ C4 → (k : ℕ) → (cpu_at ds k).present ≡ true → (cpu_at cs k).present ≡ true) (ordered : Ordered (count_of p) r) where
  abbrev Now : Monarch → Type 0
  Now t = Undisturbed p b2 cs o2 t

  clear_found : r.label ≡ C3 → Reads p b b2 o o2 r C3 v → Now (after_collection p.apic (found (count_of p) v r.collection) r)
  clear_found is reads =
      let h = before (rw is refl) in
      let c = r.collection in
      let own = h.reported.own (rw is refl) in
      let there = h.reported.there (rw is refl) in
      pick (λ w. Now (after_collection p.apic w r)) (nat_lt v c.cpu || not (nat_lt v (count_of p))) (CollectEnds c) (CollectsAt C4 (record c { cpu = v }))
      (clear_next p b2 cs o2 (record r { collection = c }) own there ordered.rising)
      (record {
        chosen = record { selected = λ e. reads.finds refl; searched = λ e. absurd cc; asked = λ e. absurd cc; handed = λ e. absurd cc };
        reported = reported_plain p cs (record r { label = C4; collection = record c { cpu = v } }) refl refl refl (λ e. own) (λ e. there);
        read = λ e. absurd cc;
      })

  clear_judged : r.label ≡ C4 → Reads p b b2 o o2 r C4 v → Now (after_collection p.apic (judged (count_of p) v r.collection) r)
  clear_judged is reads =
      let h = before (rw is refl) in
      let c = r.collection in
      let own = h.reported.own (rw is refl) in
      let there = h.reported.there (rw is refl) in
      let read = reads.reads refl in
      pick_by (λ w. Now (after_collection p.apic w r)) (bit_and v 0x12 == 0) (next_processor (count_of p) c) (CollectsAt C5 (record c { status = v }))
      (λ _. clear_processor p b2 cs o2 (count_of p) r c own there ordered.rising)
      (λ some. record {
        chosen = record { selected = λ e. read.0; searched = λ e. absurd cc; asked = λ e. absurd cc; handed = λ e. absurd cc };
        reported = record {
          own = λ e. own;
          there = λ e. there;
          other = λ e zero_is. absurd (first (read.1 ∙ ap (λ k. status (slot_at b k)) zero_is) some);
          next = λ e one. here is c.cpu (sym (agrees.enabled c.cpu) ∙ status_enabled (slot_at b c.cpu) (subst (λ x. bit_and x 1 ≡ 1) read.1 one));
          added = λ e. absurd cc;
          adds = λ e. absurd cc;
          possible = λ e. absurd cc;
          ejects = λ e. absurd cc;
        };
        read = λ e. read.2;
      })
    where
      first : v ≡ status (slot_at b 0) → (bit_and v 0x12 == 0) ≡ false → ⊥
      first e f =
          let none : bit_and v 0x12 ≡ 0 = ap (λ x. bit_and x 0x12) e ∙ status_calm (slot_at b 0) agrees.inserting agrees.ejecting in
          let all : (bit_and v 0x12 == 0) ≡ true = rw none refl in
          let both : true ≡ false = sym all ∙ f in cc

  clear_reported : r.label ≡ C6 → Reads p b b2 o o2 r C6 v → Now (after_collection p.apic (reported (count_of p) v r.collection) r)
  clear_reported is reads =
      let h = before (rw is refl) in
      let c = r.collection in
      let t : Report = record { cpu = c.cpu; status = c.status; apic = v } in
      clear_processor p b2 cs o2 (count_of p) r (record c { reports = c.reports ++ t ∷ [] })
      (all_last (is_own p.apic) c.reports t (h.reported.own (rw is refl)) (is_own-is p t (h.reported.other (rw is refl)) (ordered.possible (rw is refl)) (sym (reads.names refl))))
      (all_drop_last (is_there cs) r.taken c.reports t (h.reported.there (rw is refl)) (named (bit_and c.status 1) refl))
      (rises_last c.reports t ordered.rising (ordered.below (rw is refl)))
    where
      named : (n : ℕ) → bit_and r.collection.status 1 ≡ n → (not (n == 1) || (cpu_at cs r.collection.cpu).present) ≡ true
      named n e = by_test (n == 1) refl
        where
          by_test : (c : Bool) → (n == 1) ≡ c → (not c || (cpu_at cs r.collection.cpu).present) ≡ true
          by_test true f = (before (rw is refl)).reported.next (rw is refl) (e ∙ eqb-true n 1 f)
          by_test false f = refl

  pub clear_row : (l : Label) → handler_of l ≡ Monarchs → r.label ≡ l → Reads p b b2 o o2 r l v → is_after_broadcast (next_at (layout_of p) q r l v).monarch.label ≡ true → Now (next_at (layout_of p) q r l v).monarch
  clear_row F1 mine is reads after = absurd cc
  clear_row F2 mine is reads after = absurd cc
  clear_row F3 mine is reads after = absurd cc
  clear_row F4 mine is reads after = absurd cc
  clear_row F5 mine is reads after = absurd cc
  clear_row F6 mine is reads after = absurd cc
  clear_row R1 mine is reads after = absurd cc
  clear_row R2 mine is reads after = absurd cc
  clear_row R3 mine is reads after = absurd cc
  clear_row R4 mine is reads after = absurd cc
  clear_row R5 mine is reads after = absurd cc
  clear_row R6 mine is reads after = absurd cc
  clear_row S0 mine is reads after = pick (λ (t : Monarch). is_after_broadcast t.label ≡ true → Now t) (nat_lt 1 (length r.slots.bound)) (record r { label = S1; slot = 1 }) (at_label S2 r) (λ e. absurd cc) (λ e. absurd cc) after
  clear_row S1 mine is reads after = pick (λ (t : Monarch). is_after_broadcast t.label ≡ true → Now t) (nat_lt (r.slot + 1) (length r.slots.bound)) (record r { label = S1; slot = r.slot + 1 }) (at_label S2 r) (λ e. absurd cc) (λ e. absurd cc) after
  clear_row S2 mine is reads after = clear_look p b2 cs o2 p.polls (known_from r.slots 1) r
  clear_row S3 mine is reads after =
      pick Now ((v == 1) || nat_le r.polls 1) _ _ (clear_look p b2 cs o2 p.polls (known_from r.slots (r.slot + 1)) (noted r.slot v r))
      (clear_plain p b2 cs o2 (record r { polls = r.polls - 1; last = (noted r.slot v r).last }) (rw is refl) (rw is refl) (rw is refl) (rw is refl) (rw is refl) (rw is refl) (rw is refl) (λ e. no_more _ (rw is refl) e) (λ e. no_more _ (rw is refl) e))
  clear_row S4 mine is reads after =
      pick Now (v == 4) (record r { label = C1; collection = collection_start; taken = 0 }) (at_label E5 r)
      (clear_plain p b2 cs o2 (record r { label = C1; collection = collection_start; taken = 0 }) refl refl refl refl refl refl refl (λ e. refl) (λ e. refl))
      (clear_plain p b2 cs o2 (at_label E5 r) refl refl refl refl refl refl refl (λ e. absurd cc) (λ e. absurd cc))
  clear_row C1 mine is reads after =
      let h = before (rw is refl) in record { chosen = record { selected = λ e. reads.selects refl; searched = λ e. absurd cc; asked = λ e. absurd cc; handed = λ e. absurd cc }; reported = reported_plain p cs (at_label C2 r) refl refl refl (λ e. h.reported.own (rw is refl)) (λ e. h.reported.there (rw is refl)); read = λ e. absurd cc }
  clear_row C2 mine is reads after =
      let h = before (rw is refl) in record { chosen = record { selected = λ e. absurd cc; searched = λ e. reads.searches refl; asked = λ e. absurd cc; handed = λ e. absurd cc }; reported = reported_plain p cs (at_label C3 r) refl refl refl (λ e. h.reported.own (rw is refl)) (λ e. h.reported.there (rw is refl)); read = λ e. absurd cc }
  clear_row C3 mine is reads after = clear_found is reads
  clear_row C4 mine is reads after = clear_judged is reads
  clear_row C5 mine is reads after =
      let h = before (rw is refl) in
      let asks = reads.asks refl in
      record {
        chosen = record { selected = λ e. asks.0; searched = λ e. absurd cc; asked = λ e. asks.1; handed = λ e. absurd cc };
        reported = record {
          own = λ e. h.reported.own (rw is refl);
          there = λ e. h.reported.there (rw is refl);
          other = λ e. h.reported.other (rw is refl);
          next = λ e. h.reported.next (rw is refl);
          added = λ e. absurd cc;
          adds = λ e. absurd cc;
          possible = λ e. absurd cc;
          ejects = λ e. absurd cc;
        };
        read = λ e. subst (λ x. has_status (record { cpu = r.collection.cpu; status = r.collection.status; apic = 0 }) x ≡ true) (sym asks.2) (h.read (rw is refl));
      }
  clear_row C6 mine is reads after = clear_reported is reads
  clear_row NB mine is reads after =
      let h = before (rw is refl) in clear_adds p b2 cs o2 r (next_at (layout_of p) q r NB v).monarch (rw is refl) (rw is refl) h.reported (adds_on (layout_of p) q r NB v refl)
  clear_row N0 mine is reads after =
      let h = before (rw is refl) in clear_adds p b2 cs o2 r (next_at (layout_of p) q r N0 v).monarch (rw is refl) (rw is refl) h.reported (adds_on (layout_of p) q r N0 v refl)
  clear_row N1 mine is reads after =
      let h = before (rw is refl) in clear_adds p b2 cs o2 r (next_at (layout_of p) q r N1 v).monarch (rw is refl) (rw is refl) h.reported (adds_on (layout_of p) q r N1 v refl)
  clear_row N2 mine is reads after =
      let h = before (rw is refl) in clear_adds p b2 cs o2 r (next_at (layout_of p) q r N2 v).monarch (rw is refl) (rw is refl) h.reported (adds_on (layout_of p) q r N2 v refl)
  clear_row N3 mine is reads after =
      let h = before (rw is refl) in clear_adds p b2 cs o2 r (next_at (layout_of p) q r N3 v).monarch (rw is refl) (rw is refl) h.reported (adds_on (layout_of p) q r N3 v refl)
  clear_row N4 mine is reads after =
      let h = before (rw is refl) in clear_adds p b2 cs o2 r (next_at (layout_of p) q r N4 v).monarch (rw is refl) (rw is refl) h.reported (adds_on (layout_of p) q r N4 v refl)
  clear_row N5 mine is reads after =
      let h = before (rw is refl) in clear_adds p b2 cs o2 r (next_at (layout_of p) q r N5 v).monarch (rw is refl) (rw is refl) h.reported (adds_on (layout_of p) q r N5 v refl)
  clear_row N6 mine is reads after =
      let h = before (rw is refl) in clear_adds p b2 cs o2 r (next_at (layout_of p) q r N6 v).monarch (rw is refl) (rw is refl) h.reported (adds_on (layout_of p) q r N6 v refl)
  clear_row N7 mine is reads after =
      let h = before (rw is refl) in clear_adds p b2 cs o2 r (next_at (layout_of p) q r N7 v).monarch (rw is refl) (rw is refl) h.reported (adds_on (layout_of p) q r N7 v refl)
  clear_row N8a mine is reads after =
      let h = before (rw is refl) in clear_adds p b2 cs o2 r (next_at (layout_of p) q r N8a v).monarch (rw is refl) (rw is refl) h.reported (adds_on (layout_of p) q r N8a v refl)
  clear_row N8b mine is reads after =
      let h = before (rw is refl) in clear_adds p b2 cs o2 r (next_at (layout_of p) q r N8b v).monarch (rw is refl) (rw is refl) h.reported (adds_on (layout_of p) q r N8b v refl)
  clear_row N9 mine is reads after =
      let h = before (rw is refl) in clear_adds p b2 cs o2 r (next_at (layout_of p) q r N9 v).monarch (rw is refl) (rw is refl) h.reported (adds_on (layout_of p) q r N9 v refl)
  clear_row N10 mine is reads after =
      let h = before (rw is refl) in clear_adds p b2 cs o2 r (next_at (layout_of p) q r N10 v).monarch (rw is refl) (rw is refl) h.reported (adds_on (layout_of p) q r N10 v refl)
  clear_row N11 mine is reads after =
      let h = before (rw is refl) in clear_adds p b2 cs o2 r (next_at (layout_of p) q r N11 v).monarch (rw is refl) (rw is refl) h.reported (adds_on (layout_of p) q r N11 v refl)
  clear_row E0 mine is reads after =
      let h = before (rw is refl) in clear_ejects p b2 cs o2 r (next_at (layout_of p) q r E0 v).monarch (rw is refl) (rw is refl) h.reported (ejects_on (layout_of p) q r E0 v refl) (λ e. absurd cc)
  clear_row E1 mine is reads after =
      let h = before (rw is refl) in clear_ejects p b2 cs o2 r (next_at (layout_of p) q r E1 v).monarch (rw is refl) (rw is refl) h.reported (ejects_on (layout_of p) q r E1 v refl) (λ e. absurd cc)
  clear_row E2 mine is reads after =
      let h = before (rw is refl) in clear_ejects p b2 cs o2 r (next_at (layout_of p) q r E2 v).monarch (rw is refl) (rw is refl) h.reported (ejects_on (layout_of p) q r E2 v refl) (pick (λ w. is_among (after_eject w r).label (E4b ∷ []) ≡ true → b2.selector ≡ (after_eject w r).eject.cpu) (v == 1) _ _ (λ e. absurd cc) (pick (λ w. is_among (after_eject w r).label (E4b ∷ []) ≡ true → b2.selector ≡ (after_eject w r).eject.cpu) (nat_le r.eject.polls 1) _ _ (λ e. absurd cc) (λ e. absurd cc)))
  clear_row E3 mine is reads after =
      let h = before (rw is refl) in clear_ejects p b2 cs o2 r (next_at (layout_of p) q r E3 v).monarch (rw is refl) (rw is refl) h.reported (ejects_on (layout_of p) q r E3 v refl) (λ e. absurd cc)
  clear_row E4a mine is reads after =
      let h = before (rw is refl) in clear_ejects p b2 cs o2 r (next_at (layout_of p) q r E4a v).monarch (rw is refl) (rw is refl) h.reported (ejects_on (layout_of p) q r E4a v refl) (λ e. reads.hands refl)
  clear_row E4b mine is reads after =
      let h = before (rw is refl) in clear_ejects p b2 cs o2 r (next_at (layout_of p) q r E4b v).monarch (rw is refl) (rw is refl) h.reported (ejects_on (layout_of p) q r E4b v refl) (pick (λ m. is_among m (E4b ∷ []) ≡ true → b2.selector ≡ r.eject.cpu) (is_late p.delivery) E4f E4c (λ e. absurd cc) (λ e. absurd cc))
  clear_row E4c mine is reads after =
      let h = before (rw is refl) in clear_ejects p b2 cs o2 r (next_at (layout_of p) q r E4c v).monarch (rw is refl) (rw is refl) h.reported (ejects_on (layout_of p) q r E4c v refl) (λ e. absurd cc)
  clear_row E4d mine is reads after =
      let h = before (rw is refl) in clear_ejects p b2 cs o2 r (next_at (layout_of p) q r E4d v).monarch (rw is refl) (rw is refl) h.reported (ejects_on (layout_of p) q r E4d v refl) (λ e. absurd cc)
  clear_row E4e mine is reads after =
      let h = before (rw is refl) in clear_ejects p b2 cs o2 r (next_at (layout_of p) q r E4e v).monarch (rw is refl) (rw is refl) h.reported (ejects_on (layout_of p) q r E4e v refl) (λ e. absurd cc)
  clear_row E4f mine is reads after =
      let h = before (rw is refl) in clear_ejects p b2 cs o2 r (next_at (layout_of p) q r E4f v).monarch (rw is refl) (rw is refl) h.reported (ejects_on (layout_of p) q r E4f v refl) (λ e. absurd cc)
  clear_row E4g mine is reads after =
      let h = before (rw is refl) in clear_ejects p b2 cs o2 r (next_at (layout_of p) q r E4g v).monarch (rw is refl) (rw is refl) h.reported (ejects_on (layout_of p) q r E4g v refl) (pick (λ w. is_among (after_eject w r).label (E4b ∷ []) ≡ true → b2.selector ≡ (after_eject w r).eject.cpu) (bit_and v 0x10 == 0x10) _ _ (λ e. absurd cc) (λ e. absurd cc))
  clear_row E4h mine is reads after =
      let h = before (rw is refl) in clear_ejects p b2 cs o2 r (next_at (layout_of p) q r E4h v).monarch (rw is refl) (rw is refl) h.reported (ejects_on (layout_of p) q r E4h v refl) (λ e. absurd cc)
  clear_row T mine is reads after =
      let h = before (rw is refl) in
      let same = told_same r.outcome r in
      clear_next p b2 cs o2 (after_tell r.outcome r) (rw same.0 (h.reported.own (rw is refl))) (rw (same.0, same.1) (h.reported.there (rw is refl))) (rw same.0 ordered.rising)
  clear_row E5 mine is reads after = pick (λ (t : Monarch). is_after_broadcast t.label ≡ true → Now t) (nat_lt 1 (length r.slots.bound)) (record r { label = E6; slot = 1 }) (at_label E7 r) (λ e. absurd cc) (λ e. absurd cc) after
  clear_row E6 mine is reads after = pick (λ (t : Monarch). is_after_broadcast t.label ≡ true → Now t) (nat_lt (r.slot + 1) (length r.slots.bound)) (record r { label = E6; slot = r.slot + 1 }) (at_label E7 r) (λ e. absurd cc) (λ e. absurd cc) after
  clear_row E7 mine is reads after = absurd (let f : is_after_broadcast E7 ≡ true = subst (λ m. is_after_broadcast m ≡ true) is after in cc)
