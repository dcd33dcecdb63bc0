-- Each row keeps the decision on the report that is being answered: what an outcome says follows from it.
use Rattle.std.proofs.Common.{ℕ, ◌≡◌, ◌+◌, ◌-◌, ◌==◌, Bool, true, false, not, ◌&&◌, ◌||◌, nat_lt, nat_le, List, [], ◌∷◌, ◌++◌, length, drop, Option, Some, None, slice_get, bit_and, refl, sym, ap, subst, ◌∙◌, arith}
use Rattle.std.proofs.lemmas.Bool.Decides.{nat_tests}
use Rattle.hp_model.specs.declared.outcomes.Outcome.{Outcome}
use Rattle.hp_model.specs.declared.outcomes.Outcome.TheVariants as outcome
use Rattle.hp_model.specs.declared.outcomes.Refusal.TheVariants.{NotAtGate, NotCheckedIn, NotParked, StillPending}
use Rattle.hp_model.specs.declared.labels.Label.{Label}
use Rattle.hp_model.specs.declared.labels.Label.TheVariants.{S1, S2, S3, C1, C3, C4, C5, C6, NB, N0, N1, N2, N3, N4, N5, N6, N7, N8a, N8b, N9, N10, N11, E0, E1, E2, E3, E4a, E4b, E4c, E4d, E4e, E4f, E4g, E4h, T, E5, E6, E7}
use Rattle.hp_model.specs.declared.labels.Handler.TheVariants.{Monarch as Monarchs}
use Rattle.hp_model.specs.Labels.{handler_of, index_of}
use Rattle.hp_model.specs.SharedBytes.{Layout}
use Rattle.hp_model.specs.Slots.{known_from}
use Rattle.hp_model.specs.declared.reports.Report.{Report}
use Rattle.hp_model.specs.Collection.{Collection, CollectsAt, CollectEnds, next_processor, found, judged, reported, collection_start}
use Rattle.hp_model.specs.Add.{AddsAt, Ends, failed, looks, is_last_look, saw_flag, saw_pair, shut, saw_arrival}
use Rattle.hp_model.specs.Eject.{EjectsAt, EjectEnds, awaits, saw_parked, handed_to_block, saw_status}
use Rattle.hp_model.specs.declared.reports.Decision.{Decision}
use Rattle.hp_model.specs.declared.reports.Decision.TheVariants.{Tell as ToTell, Add as ToAdd, Eject as ToEject}
use Rattle.hp_model.specs.Monarch.{Monarch, at_label, first_slot, next_slot, look_at, looked, noted, commanded, decision, facts_of as facts_by, took, answered, taken_up, next_report, after_collection, after_add, after_eject}
use Rattle.hp_model.specs.Handlers.{Seat, next_at}
use Rattle.hp_model.specs.Outcomes.{ends_add, ends_eject}
use Rattle.hp_sealed.proofs.Left.{pick}
use Rattle.hp_safety.proofs.Needs.{need_of, Facts, Needs}
use Rattle.hp_safety.proofs.EachRow.{row_of_each}
use Rattle.hp_safety.proofs.Tallies.{Turn, Waiting, Collecting, Beginning, Running, Parting, Telling, Ending, Over, turn_of}
use Rattle.hp_safety.proofs.Tallying.{first_dropped}
use Rattle.hp_model.proofs.Same.{same_outcome-refl}
use Rattle.hp_safety.proofs.Decisions.{DecisionAt, Decided}

itself : (n : ℕ) → (n == n) ≡ true
itself n = grind (arith, nat_tests)

-- nothing is asked where no report is answered
abbrev IsFree : Turn → Type 0
IsFree x = (c : Decision) (o : Option Report) (r : Monarch) → DecisionAt c o r x

-- the next report is taken up by its decision
decision_answered : (c : Decision) (t : Report) (r : Monarch) → Decided c (Some t) (answered c t (took r))
decision_answered (ToTell o) t r = same_outcome-refl o
decision_answered ToAdd t r = (refl, record { report = t; is = refl; cpu = refl; apic = refl })
decision_answered ToEject t r = (refl, record { report = t; is = refl; cpu = refl; apic = refl })

pub decision_report : (ids : List ℕ) (o : Option Report) (told : ℕ) (reports : List Report) (c : Report → Decision) (r : Monarch) → o ≡ slice_get reports told → reports ≡ r.collection.reports → told ≡ r.taken → ((t : Report) → c t ≡ decision (facts_by ids r t) t) → (k : Decision) → ((t : Report) → o ≡ Some t → k ≡ c t) → Decided k o (next_report ids r)
decision_report ids o n reports c r is same taken judged k by_report = by_rest (drop r.taken r.collection.reports) refl
  where
    by_rest : (ts : List Report) → drop r.taken r.collection.reports ≡ ts → Decided k o (taken_up ids ts r)
    by_rest [] e = tt
    by_rest (t ∷ ts) e =
        let first : o ≡ Some t = is ∙ (ap (λ xs. slice_get xs n) same ∙ (ap (slice_get r.collection.reports) taken ∙ first_dropped r.taken r.collection.reports t ts e)) in
        subst (λ x. Decided x o (answered (decision (facts_by ids r t) t) t (took r))) (sym (by_report t first ∙ judged t))
        (subst (λ x. Decided (decision (facts_by ids r t) t) x (answered (decision (facts_by ids r t) t) t (took r))) (sym first) (decision_answered (decision (facts_by ids r t) t) t r))

-- where nothing is asked
decision_first : (l n : Label) (c : Decision) (o : Option Report) (r : Monarch) → IsFree (turn_of l) → IsFree (turn_of n) → Decided c o (first_slot l n r)
decision_first l n c o r free also = pick (Decided c o) (nat_lt 1 (length r.slots.bound)) (record r { label = l; slot = 1 }) (at_label n r) (free c o (record r { label = l; slot = 1 })) (also c o (at_label n r))

decision_next : (l n : Label) (c : Decision) (o : Option Report) (r : Monarch) → IsFree (turn_of l) → IsFree (turn_of n) → Decided c o (next_slot l n r)
decision_next l n c o r free also = pick (Decided c o) (nat_lt (r.slot + 1) (length r.slots.bound)) (record r { label = l; slot = r.slot + 1 }) (at_label n r) (free c o (record r { label = l; slot = r.slot + 1 })) (also c o (at_label n r))

decision_known : (polls : ℕ) (k : Option ℕ) (c : Decision) (o : Option Report) (r : Monarch) → Decided c o (look_at polls k r)
decision_known polls None c o r = tt
decision_known polls (Some k) c o r = tt

decision_looked : (polls v : ℕ) (c : Decision) (o : Option Report) (r : Monarch) → r.label ≡ S3 → Decided c o (looked polls v r)
decision_looked polls v c o r is =
    pick (Decided c o) ((v == 1) || nat_le r.polls 1) (look_at polls (known_from r.slots (r.slot + 1)) r) (record r { polls = r.polls - 1 }) (decision_known polls (known_from r.slots (r.slot + 1)) c o r)
    (subst (λ l. DecisionAt c o (record r { polls = r.polls - 1 }) (turn_of l)) (sym is) tt)

decision_commanded : (v : ℕ) (c : Decision) (o : Option Report) (r : Monarch) → Decided c o (commanded v r)
decision_commanded v c o r = pick (Decided c o) (v == 4) (record r { label = C1; collection = collection_start; taken = 0 }) (at_label E5 r) tt tt

-- an add ends as adds do
both : {a b x y : ℕ} → x ≡ a → y ≡ b → ((a == x) && (b == y)) ≡ true
both {a = a} {b = b} e f = let i = itself a in let j = itself b in rw (e, f, i, j) refl

one : {a x : ℕ} → x ≡ a → (a == x) ≡ true
one {a = a} e = let i = itself a in rw (e, i) refl

decision_ends : (why : Outcome) (c : Decision) (o : Option Report) (r : Monarch) → DecisionAt c o r Running → ((t : Report) → t.cpu ≡ r.add.cpu → t.apic ≡ r.add.apic → ends_add t why ≡ true) → Decided c o (after_add (Ends why) r)
decision_ends why c o r h ends = let n = h.1 in rw (h.0, n.is) (ends n.report n.cpu n.apic)

decision_failed : (why : Outcome) (c : Decision) (o : Option Report) (r : Monarch) → DecisionAt c o r Running → ((t : Report) → t.cpu ≡ r.add.cpu → t.apic ≡ r.add.apic → ends_add t why ≡ true) → Decided c o (after_add (failed why r.add) r)
decision_failed why c o r h ends = pick (λ x. Decided c o (after_add x r)) (nat_lt r.add.attempt 3) (AddsAt N0 (record r.add { attempt = r.add.attempt + 1 })) (Ends why) h (decision_ends why c o r h ends)

decision_flag : (v : ℕ) (c : Decision) (o : Option Report) (r : Monarch) → DecisionAt c o r Running → Decided c o (after_add (saw_flag v r.add) r)
decision_flag v c o r h = pick (λ x. Decided c o (after_add x r)) (v == 1) (AddsAt N9 (record r.add { seen = true })) (AddsAt N8b r.add) h h

decision_pair : (v : ℕ) (c : Decision) (o : Option Report) (r : Monarch) → DecisionAt c o r Running → Decided c o (after_add (saw_pair v r.add) r)
decision_pair v c o r h =
    pick (λ x. Decided c o (after_add x r)) (v == 1) (AddsAt N9 (record r.add { seen = true })) _ h
    (pick (λ x. Decided c o (after_add x r)) (is_last_look r.add) (AddsAt N9 (record r.add { seen = false })) (looks N8a (r.add.polls - 1) r.add) h h)

decision_shut : (c : Decision) (o : Option Report) (r : Monarch) → DecisionAt c o r Running → Decided c o (after_add (shut r.add) r)
decision_shut c o r h =
    pick (λ x. Decided c o (after_add x r)) r.add.seen (AddsAt N10 r.add) (failed (outcome.Refused (NotAtGate r.add.cpu r.add.apic)) r.add) h
    (decision_failed (outcome.Refused (NotAtGate r.add.cpu r.add.apic)) c o r h (λ t cpu apic. both cpu apic))

decision_arrival : (v : ℕ) (c : Decision) (o : Option Report) (r : Monarch) → DecisionAt c o r Running → Decided c o (after_add (saw_arrival v r.add) r)
decision_arrival v c o r h =
    pick (λ x. Decided c o (after_add x r)) (v == 1) (Ends (outcome.Added r.add.cpu r.add.apic r.add.slot)) _ (decision_ends (outcome.Added r.add.cpu r.add.apic r.add.slot) c o r h (λ t cpu apic. both cpu apic))
    (pick (λ x. Decided c o (after_add x r)) (is_last_look r.add) (failed (outcome.Refused (NotCheckedIn r.add.cpu r.add.apic)) r.add) (looks N11 (r.add.polls - 1) r.add)
    (decision_failed (outcome.Refused (NotCheckedIn r.add.cpu r.add.apic)) c o r h (λ t cpu apic. both cpu apic)) h)

-- and an eject as ejects do
decision_parked : (v : ℕ) (c : Decision) (o : Option Report) (r : Monarch) → DecisionAt c o r Parting → Decided c o (after_eject (saw_parked v r.eject) r)
decision_parked v c o r h =
    pick (λ x. Decided c o (after_eject x r)) (v == 1) (EjectsAt E4a r.eject) _ h
    (pick (λ x. Decided c o (after_eject x r)) (nat_le r.eject.polls 1) (EjectsAt E3 r.eject) (awaits (r.eject.polls - 1) r.eject) h h)

decision_status : (v : ℕ) (c : Decision) (o : Option Report) (r : Monarch) → DecisionAt c o r Parting → Decided c o (after_eject (saw_status v r.eject) r)
decision_status v c o r h = pick (λ x. Decided c o (after_eject x r)) (bit_and v 0x10 == 0x10) (EjectsAt E4h (record r.eject { status = v })) (EjectsAt E4c r.eject) h h

decision_handed : (late : Bool) (c : Decision) (o : Option Report) (r : Monarch) → DecisionAt c o r Parting → Decided c o (at_label (handed_to_block late) r)
decision_handed late c o r h = pick (λ l. Decided c o (at_label l r)) late E4f E4c h h

decision_ended : (why : Outcome) (c : Decision) (o : Option Report) (r : Monarch) → DecisionAt c o r Parting → ((t : Report) → t.cpu ≡ r.eject.cpu → t.apic ≡ r.eject.apic → ends_eject t why ≡ true) → Decided c o (after_eject (EjectEnds why) r)
decision_ended why c o r h ends = let n = h.1 in rw (h.0, n.is) (ends n.report n.cpu n.apic)

-- rows after which a report may be taken up
abbrev pub takes_up : Label → Bool
takes_up C3 = true
takes_up C4 = true
takes_up C6 = true
takes_up T = true
takes_up _ = false

abbrev RowAt : Decision → Option Report → Monarch → Monarch → Bool → Type 0
RowAt c o r n true = Unit {0}
RowAt c o r n false = Decided c o n

pub row_decision : (c : Decision) (o : Option Report) (y : Layout) (q : Seat) (r : Monarch) (v : ℕ) (f : Facts) (l : Label) → handler_of l ≡ Monarchs → (handler_of l ≡ Monarchs → r.label ≡ l) → Needs f (handler_of l) (need_of l) → DecisionAt c o r (turn_of l) → takes_up l ≡ false → Decided c o (next_at y q r l v).monarch
row_decision c o y q r v f l mine is met h not =
    subst (RowAt c o r (next_at y q r l v).monarch) not
    (row_of_each (λ l. handler_of l ≡ Monarchs → (handler_of l ≡ Monarchs → r.label ≡ l) → DecisionAt c o r (turn_of l) → RowAt c o r (next_at y q r l v).monarch (takes_up l)) (record {
      f1 = λ g e h. absurd cc;
      f2 = λ g e h. absurd cc;
      f3 = λ g e h. absurd cc;
      f4 = λ g e h. absurd cc;
      f5 = λ g e h. absurd cc;
      f6 = λ g e h. absurd cc;
      r1 = λ g e h. absurd cc;
      r2 = λ g e h. absurd cc;
      r3 = λ g e h. absurd cc;
      r4 = λ g e h. absurd cc;
      r5 = λ g e h. absurd cc;
      r6 = λ g e h. absurd cc;
      s0 = λ g e h. decision_first S1 S2 c o r (λ a b d. tt) (λ a b d. tt);
      s1 = λ g e h. decision_next S1 S2 c o r (λ a b d. tt) (λ a b d. tt);
      s2 = λ g e h. decision_known y.polls (known_from r.slots 1) c o r;
      s3 = λ g e h. decision_looked y.polls v c o (noted r.slot v r) (e refl);
      s4 = λ g e h. decision_commanded v c o r;
      c1 = λ g e h. tt;
      c2 = λ g e h. tt;
      c3 = λ g e h. tt;
      c4 = λ g e h. tt;
      c5 = λ g e h. tt;
      c6 = λ g e h. tt;
      nb = λ g e h. h;
      n0 = λ g e h. h;
      n1 = λ g e h. h;
      n2 = λ g e h. h;
      n3 = λ g e h. h;
      n4 = λ g e h. h;
      n5 = λ g e h. h;
      n6 = λ g e h. h;
      n7 = λ g e h. h;
      n8a = λ g e h. decision_flag v c o r h;
      n8b = λ g e h. decision_pair v c o (noted r.add.slot v r) h;
      n9 = λ g e h. decision_shut c o r h;
      n10 = λ g e h. h;
      n11 = λ g e h. decision_arrival v c o (noted r.add.slot v r) h;
      e0 = λ g e h. h;
      e1 = λ g e h. h;
      e2 = λ g e h. decision_parked v c o r h;
      e3 = λ g e h. decision_ended (outcome.Refused (NotParked r.eject.cpu r.eject.apic)) c o r h (λ t cpu apic. both cpu apic);
      e4a = λ g e h. h;
      e4b = λ g e h. decision_handed y.late c o r h;
      e4c = λ g e h. h;
      e4d = λ g e h. h;
      e4e = λ g e h. decision_ended (outcome.Ejected r.eject.cpu r.eject.apic r.eject.slot) c o r h (λ t cpu apic. both cpu apic);
      e4f = λ g e h. h;
      e4g = λ g e h. decision_status v c o r h;
      e4h = λ g e h. decision_ended (outcome.Refused (StillPending r.eject.cpu r.eject.status)) c o r h (λ t cpu apic. one cpu);
      t = λ g e h. tt;
      e5 = λ g e h. decision_first E6 E7 c o r (λ a b d. tt) (λ a b d. tt);
      e6 = λ g e h. decision_next E6 E7 c o r (λ a b d. tt) (λ a b d. tt);
      e7 = λ g e h. subst (λ x. DecisionAt c o r (turn_of x)) (sym (e refl)) tt;
    }) f l met mine is h)

-- the collection's rows, where the next report may be taken up
module _ (k : Decision) (o : Option Report) (ids : List ℕ) (r : Monarch) (reports : List Report) (taken : (c : Collection) → c.reports ≡ reports → Decided k o (next_report ids (record r { collection = c }))) where
  decision_processor : (count : ℕ) (c : Collection) → c.reports ≡ reports → Decided k o (after_collection ids (next_processor count c) r)
  decision_processor count c e = pick (λ x. Decided k o (after_collection ids x r)) (nat_lt (c.cpu + 1) count) (CollectsAt C1 (record c { cpu = c.cpu + 1 })) (CollectEnds (record c { cpu = c.cpu + 1 })) tt (taken (record c { cpu = c.cpu + 1 }) e)

  pub decision_found : (count v : ℕ) → r.collection.reports ≡ reports → Decided k o (after_collection ids (found count v r.collection) r)
  decision_found count v e = pick (λ x. Decided k o (after_collection ids x r)) (nat_lt v r.collection.cpu || not (nat_lt v count)) (CollectEnds r.collection) (CollectsAt C4 (record r.collection { cpu = v })) (taken r.collection e) tt

  pub decision_judged : (count v : ℕ) → r.collection.reports ≡ reports → Decided k o (after_collection ids (judged count v r.collection) r)
  decision_judged count v e = pick (λ x. Decided k o (after_collection ids x r)) (bit_and v 0x12 == 0) (next_processor count r.collection) (CollectsAt C5 (record r.collection { status = v })) (decision_processor count r.collection e) tt

  pub decision_reported : (count v : ℕ) → r.collection.reports ++ record { cpu = r.collection.cpu; status = r.collection.status; apic = v } ∷ [] ≡ reports → Decided k o (after_collection ids (reported count v r.collection) r)
  decision_reported count v e = decision_processor count (record r.collection { reports = r.collection.reports ++ record { cpu = r.collection.cpu; status = r.collection.status; apic = v } ∷ [] }) e

-- rows of an add or an eject neither report nor tell
abbrev pub is_busy : Turn → Bool
is_busy Waiting = false
is_busy Collecting = false
is_busy Beginning = true
is_busy Running = true
is_busy Parting = true
is_busy Telling = false
is_busy Ending = false
is_busy Over = false

pub busy_index : (l : Label) → is_busy (turn_of l) ≡ true → (nat_le 11 (index_of l) && not (index_of l == 34)) ≡ true
busy_index NB e = refl
busy_index N0 e = refl
busy_index N1 e = refl
busy_index N2 e = refl
busy_index N3 e = refl
busy_index N4 e = refl
busy_index N5 e = refl
busy_index N6 e = refl
busy_index N7 e = refl
busy_index N8a e = refl
busy_index N8b e = refl
busy_index N9 e = refl
busy_index N10 e = refl
busy_index N11 e = refl
busy_index E0 e = refl
busy_index E1 e = refl
busy_index E2 e = refl
busy_index E3 e = refl
busy_index E4a e = refl
busy_index E4b e = refl
busy_index E4c e = refl
busy_index E4d e = refl
busy_index E4e e = refl
busy_index E4f e = refl
busy_index E4g e = refl
busy_index E4h e = refl
busy_index _ e = absurd cc

pub telling_takes : (l : Label) → turn_of l ≡ Telling → takes_up l ≡ true
telling_takes T e = refl
telling_takes _ e = absurd cc

-- the rows after which a report may be taken up, one by one
pub taking : (P : Label → Type 0) → P C3 → P C4 → P C6 → P T → (l : Label) → takes_up l ≡ true → P l
taking P c3 c4 c6 t C3 e = c3
taking P c3 c4 c6 t C4 e = c4
taking P c3 c4 c6 t C6 e = c6
taking P c3 c4 c6 t T e = t
taking P c3 c4 c6 t _ e = absurd cc
