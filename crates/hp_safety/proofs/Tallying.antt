-- Each row of the monarch keeps its record tied to the reports, the outcomes, and the held APIC ID of the entries.
use Rattle.std.proofs.Common.{ℕ, zero, suc, ◌≡◌, ◌+◌, ◌-◌, ◌<◌, ◌≤◌, ◌==◌, ◌⊎◌, inl, inr, Bool, true, false, not, ◌||◌, nat_lt, nat_le, List, [], ◌∷◌, ◌++◌, length, drop, Option, Some, None, slice_get, bit_and, refl, sym, ap, subst, ◌∙◌, arith}
use Rattle.std.proofs.lemmas.Bool.Decides.{nat_tests}
use Rattle.hp_model.specs.declared.outcomes.Outcome.{Outcome}
use Rattle.hp_model.specs.declared.outcomes.Outcome.TheVariants as outcome
use Rattle.hp_model.specs.declared.outcomes.Refusal.TheVariants.{Foreign, Disabled, Both, AlreadyKnown, GateHeld, NoUnplug, NotKnown, NotArrived, NotAtGate, NotCheckedIn, NotParked, StillPending}
use Rattle.hp_model.specs.declared.labels.Label.{Label}
use Rattle.hp_model.specs.declared.labels.Label.TheVariants.{F1, R1, R2, R3, R4, R5, R6, S0, S1, S2, S3, S4, C1, C2, C3, C4, C5, C6, NB, N0, N8a, N8b, N9, N10, N11, E3, E4a, E4c, E4f, E4h, E5, E6, E7}
use Rattle.hp_model.specs.declared.labels.Handler.TheVariants.{Monarch as Monarchs}
use Rattle.hp_model.specs.Labels.{handler_of}
use Rattle.hp_model.specs.SharedBytes.{Layout}
use Rattle.hp_model.specs.Slots.{known_from}
use Rattle.hp_model.specs.declared.reports.Report.{Report}
use Rattle.hp_model.specs.Collection.{Collection, CollectsAt, CollectEnds, next_processor, found, judged, reported, collection_start}
use Rattle.hp_model.specs.Add.{AddsAt, Ends, failed, looks, is_last_look, saw_flag, saw_pair, shut, saw_arrival}
use Rattle.hp_model.specs.Eject.{EjectsAt, EjectEnds, awaits, saw_parked, handed_to_block, saw_status}
use Rattle.hp_model.specs.declared.reports.Facts.{Facts as Tests}
use Rattle.hp_model.specs.declared.reports.Decision.{Decision}
use Rattle.hp_model.specs.declared.reports.Decision.TheVariants.{Tell as ToTell, Add as ToAdd, Eject as ToEject}
use Rattle.hp_model.specs.Monarch.{Monarch, at_label, first_slot, next_slot, look_at, looked, noted, commanded, refuses, held_decision, insert_decision, eject_decision, decision, facts_of as facts_by, at_tell, took, answered, taken_up, next_report, after_collection, after_add, after_eject, after_tell}
use Rattle.hp_model.specs.Account.{told_held}
use Rattle.hp_model.specs.Handlers.{Seat, next_at}
use Rattle.hp_sealed.proofs.Left.{pick}
use Rattle.hp_safety.proofs.Needs.{Nothing, need_of, Facts, Needs}
use Rattle.hp_safety.proofs.EachRow.{row_of_each}
use Rattle.hp_safety.proofs.Invariant.{is_added}
use Rattle.hp_safety.proofs.Leading.{Says as DecisionSays, decision_says}
use Rattle.hp_safety.proofs.Tallies.{Tally, held_in, tally_told, tally_after, Turn, Waiting, Collecting, Beginning, Running, Parting, Telling, Ending, Over, turn_of, IsIdle, IsHeldBy, IsOpen, Answers, Says, TallyAt, Tallied}

-- what is told of a report at once changes nothing of what is held
abbrev pub IsMere : Outcome → Type 0
IsMere o = (held : Option ℕ) → told_held held o ≡ held

abbrev TellsMere : Decision → Type 0
TellsMere (ToTell o) = IsMere o × ((r : Monarch) → (after_tell o r).slots.held ≡ r.slots.held)
TellsMere ToAdd = Unit {0}
TellsMere ToEject = Unit {0}

insert_mere : (f : Tests) (t : Report) → TellsMere (insert_decision f t)
insert_mere f t = pick TellsMere f.known (refuses (AlreadyKnown t.cpu t.apic f.slot)) (held_decision f.held t) ((λ x. refl), λ r. refl) (by_held f.held)
  where
    by_held : (o : Option ℕ) → TellsMere (held_decision o t)
    by_held None = tt
    by_held (Some b) = pick TellsMere (b == t.apic) ToAdd (refuses (GateHeld t.cpu t.apic b)) tt ((λ x. refl), λ r. refl)

decision_mere : (f : Tests) (t : Report) → TellsMere (decision f t)
decision_mere f t =
    pick TellsMere (not f.own) (refuses (Foreign t.cpu t.apic)) _ ((λ x. refl), λ r. refl)
    (pick TellsMere (not (bit_and t.status 1 == 1)) (refuses (Disabled t.cpu t.status)) _ ((λ x. refl), λ r. refl)
    (pick TellsMere (bit_and t.status 0x12 == 0x12) (refuses (Both t.cpu t.status)) _ ((λ x. refl), λ r. refl)
    (pick TellsMere (bit_and t.status 2 == 2) (insert_decision f t) (eject_decision f t) (insert_mere f t)
    (pick TellsMere (not (bit_and f.features 4 == 4)) (refuses (NoUnplug t.cpu f.features)) _ ((λ x. refl), λ r. refl)
    (pick TellsMere (not f.known) (refuses (NotKnown t.cpu t.apic)) _ ((λ x. refl), λ r. refl)
    (pick TellsMere (f.look == 0) (refuses (NotArrived t.cpu t.apic)) ToEject ((λ x. refl), λ r. refl) tt))))))

-- the next report of a list
pub first_dropped : (n : ℕ) (ts : List Report) (t : Report) (us : List Report) → drop n ts ≡ t ∷ us → slice_get ts n ≡ Some t
first_dropped zero [] t us e = absurd cc
first_dropped zero (x ∷ xs) t us e = ap first e
  where
    first : List Report → Option Report
    first [] = None
    first (y ∷ ys) = Some y
first_dropped (suc n) [] t us e = absurd cc
first_dropped (suc n) (x ∷ xs) t us e = first_dropped n xs t us e

none_dropped : (n : ℕ) (ts : List Report) → drop n ts ≡ [] → length ts ≤ n
none_dropped zero [] e = omega arith
none_dropped zero (x ∷ xs) e = absurd cc
none_dropped (suc n) [] e = omega arith
none_dropped (suc n) (x ∷ xs) e = let i = none_dropped n xs e in omega (arith, i)

got_below : (n : ℕ) (ts : List Report) (t : Report) → slice_get ts n ≡ Some t → n < length ts
got_below n [] t e = absurd cc
got_below zero (x ∷ xs) t e = omega arith
got_below (suc n) (x ∷ xs) t e = let i = got_below n xs t e in omega (arith, i)

-- what is held while no add runs, and while one does
held_idle : (A : Tally) (held : Option ℕ) → A.runs ≡ false → A.left ≡ held → held_in A ≡ held
held_idle A held runs left = rw runs left

held_running : (A : Tally) (reports : List Report) (taken cpu apic : ℕ) (held : Option ℕ) → Answers A reports taken cpu apic → A.runs ≡ true → held ≡ Some apic → held_in A ≡ held
held_running A reports taken cpu apic held h runs is = let first = h.is.unanswered in rw (runs, first) (ap Some h.apic ∙ sym is)

not_added : (o : Outcome) (held : Option ℕ) → is_added o ≡ false → IsHeldBy o held
not_added (outcome.Added cpu apic slot) held e = absurd cc
not_added (outcome.Ejected cpu apic slot) held e = tt
not_added (outcome.Refused why) held e = tt

-- the next report is taken up
tally_answered : (ids : List ℕ) (A : Tally) (r : Monarch) (t : Report) → A.reports ≡ r.collection.reports → A.told ≡ r.taken → IsIdle A r → slice_get A.reports A.told ≡ Some t → Tallied A (answered (decision (facts_by ids r t) t) t (took r))
tally_answered ids A r t reports taken idle first = by_decision (decision (facts_by ids r t) t) (decision_mere (facts_by ids r t) t) (decision_says ids r t)
  where
    held_same : (a : ℕ) → (o : Option ℕ) → A.left ≡ o → ((b : ℕ) → o ≡ Some b → b ≡ a) → (A.left ≡ None) ⊎ (A.left ≡ Some a)
    held_same a None is same = inl is
    held_same a (Some b) is same = inr (is ∙ ap Some (same b refl))

    by_decision : (c : Decision) → TellsMere c → DecisionSays ids r.slots (facts_by ids r t) t c → Tallied A (answered c t (took r))
    by_decision (ToTell o) mere says = record {
      report = t;
      is = record { reported = reports; taken_up = ap (λ n. n + 1) taken; unanswered = first };
      held = held_idle A r.slots.held idle.0 idle.1;
      left = mere.0 A.left ∙ (idle.1 ∙ sym (mere.1 (at_tell o (took r))));
      added = not_added o r.slots.held says;
    }
    by_decision ToAdd mere says = (
      record { report = t; is = record { reported = reports; taken_up = ap (λ n. n + 1) taken; unanswered = first }; cpu = refl; apic = refl },
      idle.0,
      (refl, held_same t.apic r.slots.held idle.1 says.held),
    )
    by_decision ToEject mere says = (record { report = t; is = record { reported = reports; taken_up = ap (λ n. n + 1) taken; unanswered = first }; cpu = refl; apic = refl }, idle)

tally_report : (ids : List ℕ) (A : Tally) (r : Monarch) → A.reports ≡ r.collection.reports → A.told ≡ r.taken → A.told ≤ length A.reports → IsIdle A r → Tallied A (next_report ids r)
tally_report ids A r reports taken few idle = by_rest (drop r.taken r.collection.reports) refl
  where
    by_rest : (ts : List Report) → drop r.taken r.collection.reports ≡ ts → Tallied A (taken_up ids ts r)
    by_rest [] e =
        let all = none_dropped r.taken r.collection.reports e in
        let same : length A.reports ≡ length r.collection.reports = ap length reports in
        (omega (arith, all, same, taken, few), idle)
    by_rest (t ∷ ts) e = tally_answered ids A r t reports taken idle (subst (λ xs. slice_get xs A.told ≡ Some t) (sym reports) (subst (λ n. slice_get r.collection.reports n ≡ Some t) (sym taken) (first_dropped r.taken r.collection.reports t ts e)))

-- slot after slot, and the looks before the collection
tally_first : (l n : Label) (A : Tally) (r : Monarch) → turn_of l ≡ Waiting → turn_of n ≡ Waiting → TallyAt A r Waiting → Tallied A (first_slot l n r)
tally_first l n A r is also h =
    pick (Tallied A) (nat_lt 1 (length r.slots.bound)) (record r { label = l; slot = 1 }) (at_label n r)
    (subst (TallyAt A (record r { label = l; slot = 1 })) (sym is) h) (subst (TallyAt A (at_label n r)) (sym also) h)

tally_next : (l n : Label) (A : Tally) (r : Monarch) → turn_of l ≡ Waiting → turn_of n ≡ Waiting → TallyAt A r Waiting → Tallied A (next_slot l n r)
tally_next l n A r is also h =
    pick (Tallied A) (nat_lt (r.slot + 1) (length r.slots.bound)) (record r { label = l; slot = r.slot + 1 }) (at_label n r)
    (subst (TallyAt A (record r { label = l; slot = r.slot + 1 })) (sym is) h) (subst (TallyAt A (at_label n r)) (sym also) h)

tally_over : (l n : Label) (A : Tally) (r : Monarch) → turn_of l ≡ Over → turn_of n ≡ Over → IsIdle A r → Tallied A (first_slot l n r)
tally_over l n A r is also h =
    pick (Tallied A) (nat_lt 1 (length r.slots.bound)) (record r { label = l; slot = 1 }) (at_label n r)
    (subst (TallyAt A (record r { label = l; slot = 1 })) (sym is) h) (subst (TallyAt A (at_label n r)) (sym also) h)

tally_over_next : (l n : Label) (A : Tally) (r : Monarch) → turn_of l ≡ Over → turn_of n ≡ Over → IsIdle A r → Tallied A (next_slot l n r)
tally_over_next l n A r is also h =
    pick (Tallied A) (nat_lt (r.slot + 1) (length r.slots.bound)) (record r { label = l; slot = r.slot + 1 }) (at_label n r)
    (subst (TallyAt A (record r { label = l; slot = r.slot + 1 })) (sym is) h) (subst (TallyAt A (at_label n r)) (sym also) h)

tally_known : (polls : ℕ) (o : Option ℕ) (A : Tally) (r : Monarch) → TallyAt A r Waiting → Tallied A (look_at polls o r)
tally_known polls None A r h = h
tally_known polls (Some k) A r h = h

tally_looked : (polls v : ℕ) (A : Tally) (r : Monarch) → r.label ≡ S3 → TallyAt A r Waiting → Tallied A (looked polls v r)
tally_looked polls v A r is h =
    pick (Tallied A) ((v == 1) || nat_le r.polls 1) (look_at polls (known_from r.slots (r.slot + 1)) r) (record r { polls = r.polls - 1 }) (tally_known polls (known_from r.slots (r.slot + 1)) A r h)
    (subst (TallyAt A (record r { polls = r.polls - 1 })) (sym (ap turn_of is)) h)

tally_commanded : (v : ℕ) (A : Tally) (r : Monarch) → TallyAt A r Waiting → Tallied A (commanded v r)
tally_commanded v A r h = pick (Tallied A) (v == 4) (record r { label = C1; collection = collection_start; taken = 0 }) (at_label E5 r) (h.0, h.1, refl, h.2) (h.1 ∙ ap length (sym h.0), h.2)

-- the collection
tally_processor : (ids : List ℕ) (count : ℕ) (c : Collection) (A : Tally) (r : Monarch) → A.reports ≡ c.reports → A.told ≡ 0 → r.taken ≡ 0 → IsIdle A r → Tallied A (after_collection ids (next_processor count c) r)
tally_processor ids count c A r reports none taken idle =
    pick (λ x. Tallied A (after_collection ids x r)) (nat_lt (c.cpu + 1) count) (CollectsAt C1 (record c { cpu = c.cpu + 1 })) (CollectEnds (record c { cpu = c.cpu + 1 })) (reports, none, taken, idle)
    (tally_report ids A (record r { collection = record c { cpu = c.cpu + 1 } }) reports (none ∙ sym taken) (omega (arith, none)) idle)

tally_found : (ids : List ℕ) (count v : ℕ) (A : Tally) (r : Monarch) → TallyAt A r Collecting → Tallied A (after_collection ids (found count v r.collection) r)
tally_found ids count v A r h =
    let none = h.1 in
    pick (λ x. Tallied A (after_collection ids x r)) (nat_lt v r.collection.cpu || not (nat_lt v count)) (CollectEnds r.collection) (CollectsAt C4 (record r.collection { cpu = v }))
    (tally_report ids A (record r { collection = r.collection }) h.0 (h.1 ∙ sym h.2) (omega (arith, none)) h.3) (h.0, h.1, h.2, h.3)

tally_judged : (ids : List ℕ) (count v : ℕ) (A : Tally) (r : Monarch) → TallyAt A r Collecting → Tallied A (after_collection ids (judged count v r.collection) r)
tally_judged ids count v A r h =
    pick (λ x. Tallied A (after_collection ids x r)) (bit_and v 0x12 == 0) (next_processor count r.collection) (CollectsAt C5 (record r.collection { status = v })) (tally_processor ids count r.collection A r h.0 h.1 h.2 h.3) (h.0, h.1, h.2, h.3)

tally_reported : (ids : List ℕ) (count v : ℕ) (A : Tally) (r : Monarch) → TallyAt A r Collecting
    → Tallied (record { reports = A.reports ++ record { cpu = r.collection.cpu; status = r.collection.status; apic = v } ∷ []; told = A.told; runs = A.runs; left = A.left }) (after_collection ids (reported count v r.collection) r)
tally_reported ids count v A r h =
    let t : Report = record { cpu = r.collection.cpu; status = r.collection.status; apic = v } in
    tally_processor ids count (record r.collection { reports = r.collection.reports ++ t ∷ [] }) (record { reports = A.reports ++ t ∷ []; told = A.told; runs = A.runs; left = A.left }) r (ap (λ ts. ts ++ t ∷ []) h.0) h.1 h.2 h.3

-- an add
tally_ends : (why : Outcome) (A : Tally) (r : Monarch) → TallyAt A r Running → told_held A.left why ≡ (after_tell why (at_tell why r)).slots.held → IsHeldBy why r.slots.held → Tallied A (after_add (Ends why) r)
tally_ends why A r h left added = record { report = h.0.report; is = h.0.is; held = held_running A r.collection.reports r.taken r.add.cpu r.add.apic r.slots.held h.0 h.1 h.2.0; left = left; added = added }

tally_failed : (why : Outcome) (A : Tally) (r : Monarch) → TallyAt A r Running → told_held A.left why ≡ (after_tell why (at_tell why r)).slots.held → IsHeldBy why r.slots.held → Tallied A (after_add (failed why r.add) r)
tally_failed why A r h left added = pick (λ x. Tallied A (after_add x r)) (nat_lt r.add.attempt 3) (AddsAt N0 (record r.add { attempt = r.add.attempt + 1 })) (Ends why) h (tally_ends why A r h left added)

tally_flag : (v : ℕ) (A : Tally) (r : Monarch) → TallyAt A r Running → Tallied A (after_add (saw_flag v r.add) r)
tally_flag v A r h = pick (λ x. Tallied A (after_add x r)) (v == 1) (AddsAt N9 (record r.add { seen = true })) (AddsAt N8b r.add) h h

tally_pair : (v : ℕ) (A : Tally) (r : Monarch) → TallyAt A r Running → Tallied A (after_add (saw_pair v r.add) r)
tally_pair v A r h =
    pick (λ x. Tallied A (after_add x r)) (v == 1) (AddsAt N9 (record r.add { seen = true })) _ h
    (pick (λ x. Tallied A (after_add x r)) (is_last_look r.add) (AddsAt N9 (record r.add { seen = false })) (looks N8a (r.add.polls - 1) r.add) h h)

tally_shut : (A : Tally) (r : Monarch) → TallyAt A r Running → Tallied A (after_add (shut r.add) r)
tally_shut A r h =
    pick (λ x. Tallied A (after_add x r)) r.add.seen (AddsAt N10 r.add) (failed (outcome.Refused (NotAtGate r.add.cpu r.add.apic)) r.add) h (tally_failed (outcome.Refused (NotAtGate r.add.cpu r.add.apic)) A r h (sym h.2.0) tt)

added_left : (left : Option ℕ) (cpu apic slot : ℕ) → (left ≡ None) ⊎ (left ≡ Some apic) → told_held left (outcome.Added cpu apic slot) ≡ None
added_left left cpu apic slot (inl none) = rw none refl
added_left left cpu apic slot (inr it) = let same = itself apic in rw (it, same) refl
  where
    itself : (n : ℕ) → (n == n) ≡ true
    itself n = grind (arith, nat_tests)

tally_arrival : (v : ℕ) (A : Tally) (r : Monarch) → TallyAt A r Running → Tallied A (after_add (saw_arrival v r.add) r)
tally_arrival v A r h =
    pick (λ x. Tallied A (after_add x r)) (v == 1) (Ends (outcome.Added r.add.cpu r.add.apic r.add.slot)) _ (tally_ends (outcome.Added r.add.cpu r.add.apic r.add.slot) A r h (added_left A.left r.add.cpu r.add.apic r.add.slot h.2.1) h.2.0)
    (pick (λ x. Tallied A (after_add x r)) (is_last_look r.add) (failed (outcome.Refused (NotCheckedIn r.add.cpu r.add.apic)) r.add) (looks N11 (r.add.polls - 1) r.add)
    (tally_failed (outcome.Refused (NotCheckedIn r.add.cpu r.add.apic)) A r h (sym h.2.0) tt) h)

-- an eject
tally_parked : (v : ℕ) (A : Tally) (r : Monarch) → TallyAt A r Parting → Tallied A (after_eject (saw_parked v r.eject) r)
tally_parked v A r h =
    pick (λ x. Tallied A (after_eject x r)) (v == 1) (EjectsAt E4a r.eject) _ h
    (pick (λ x. Tallied A (after_eject x r)) (nat_le r.eject.polls 1) (EjectsAt E3 r.eject) (awaits (r.eject.polls - 1) r.eject) h h)

tally_status : (v : ℕ) (A : Tally) (r : Monarch) → TallyAt A r Parting → Tallied A (after_eject (saw_status v r.eject) r)
tally_status v A r h = pick (λ x. Tallied A (after_eject x r)) (bit_and v 0x10 == 0x10) (EjectsAt E4h (record r.eject { status = v })) (EjectsAt E4c r.eject) h h

tally_handed : (late : Bool) (A : Tally) (r : Monarch) → TallyAt A r Parting → Tallied A (at_label (handed_to_block late) r)
tally_handed late A r h = pick (λ l. Tallied A (at_label l r)) late E4f E4c h h

tally_ended : (o : Outcome) (A : Tally) (r : Monarch) → TallyAt A r Parting → IsMere o → (after_tell o (at_tell o r)).slots.held ≡ r.slots.held → IsHeldBy o r.slots.held → Tallied A (after_eject (EjectEnds o) r)
tally_ended o A r h mere same added = record { report = h.0.report; is = h.0.is; held = held_idle A r.slots.held h.1.0 h.1.1; left = mere A.left ∙ (h.1.1 ∙ sym same); added = added }

-- an outcome is told
tally_said : (ids : List ℕ) (o : Outcome) (A : Tally) (r u : Monarch) (t : Report) → u.collection ≡ r.collection → u.taken ≡ r.taken → told_held A.left o ≡ u.slots.held → IsOpen A r.collection.reports r.taken t → Tallied (tally_told o A) (next_report ids u)
tally_said ids o A r u t collection taken held it =
    let below = got_below A.told A.reports t it.unanswered in
    tally_report ids (tally_told o A) u (it.reported ∙ ap (λ (c : Collection). c.reports) (sym collection)) (it.taken_up ∙ sym taken) (omega (arith, below)) (refl, held)

tally_told_on : (ids : List ℕ) (o : Outcome) (A : Tally) (r : Monarch) → Says A r.collection.reports r.taken r.slots.held (after_tell o r).slots.held o → Tallied (tally_told o A) (next_report ids (after_tell o r))
tally_told_on ids (outcome.Added cpu apic slot) A r h = tally_said ids (outcome.Added cpu apic slot) A r (after_tell (outcome.Added cpu apic slot) r) h.report refl refl h.left h.is
tally_told_on ids (outcome.Ejected cpu apic slot) A r h = tally_said ids (outcome.Ejected cpu apic slot) A r (after_tell (outcome.Ejected cpu apic slot) r) h.report refl refl h.left h.is
tally_told_on ids (outcome.Refused why) A r h = tally_said ids (outcome.Refused why) A r (after_tell (outcome.Refused why) r) h.report refl refl h.left h.is

-- each row
pub row_tally : (A : Tally) (y : Layout) (q : Seat) (r : Monarch) (v : ℕ) (f : Facts) (l : Label) → handler_of l ≡ Monarchs → (handler_of l ≡ Monarchs → r.label ≡ l) → Needs f (handler_of l) (need_of l) → TallyAt A r (turn_of l)
    → Tallied (tally_after l (record { cpu = r.collection.cpu; status = r.collection.status; apic = v }) r.outcome A) (next_at y q r l v).monarch
row_tally A y q r v f l mine is met tally =
    row_of_each (λ l. handler_of l ≡ Monarchs → (handler_of l ≡ Monarchs → r.label ≡ l) → TallyAt A r (turn_of l) → Tallied (tally_after l (record { cpu = r.collection.cpu; status = r.collection.status; apic = v }) r.outcome A) (next_at y q r l v).monarch)
    (record {
      f1 = λ g e h. absurd cc;
      f2 = λ g e h. absurd cc;
      f3 = λ g e h. absurd cc;
      f4 = λ g e h. absurd cc;
      f5 = λ g e h. absurd cc;
      f6 = λ g e h. absurd cc;
      r1 = λ g e h. absurd cc;
      r2 = λ g e h. absurd cc;
      r3 = λ g e h. absurd cc;
      r4 = λ g e h. absurd cc;
      r5 = λ g e h. absurd cc;
      r6 = λ g e h. absurd cc;
      s0 = λ g e h. tally_first S1 S2 A r refl refl h;
      s1 = λ g e h. tally_next S1 S2 A r refl refl h;
      s2 = λ g e h. tally_known y.polls (known_from r.slots 1) A r h;
      s3 = λ g e h. tally_looked y.polls v A (noted r.slot v r) (e refl) h;
      s4 = λ g e h. tally_commanded v A r h;
      c1 = λ g e h. h;
      c2 = λ g e h. h;
      c3 = λ g e h. tally_found y.apics y.count v A r h;
      c4 = λ g e h. tally_judged y.apics y.count v A r h;
      c5 = λ g e h. h;
      c6 = λ g e h. tally_reported y.apics y.count v A r h;
      nb = λ g e h. (record { report = h.0.report; is = record { reported = h.0.is.reported; taken_up = h.0.is.taken_up; unanswered = h.0.is.unanswered }; cpu = h.0.cpu; apic = h.0.apic }, refl, h.2);
      n0 = λ g e h. h;
      n1 = λ g e h. h;
      n2 = λ g e h. h;
      n3 = λ g e h. h;
      n4 = λ g e h. h;
      n5 = λ g e h. h;
      n6 = λ g e h. h;
      n7 = λ g e h. h;
      n8a = λ g e h. tally_flag v A r h;
      n8b = λ g e h. tally_pair v A (noted r.add.slot v r) h;
      n9 = λ g e h. tally_shut A r h;
      n10 = λ g e h. h;
      n11 = λ g e h. tally_arrival v A (noted r.add.slot v r) h;
      e0 = λ g e h. h;
      e1 = λ g e h. h;
      e2 = λ g e h. tally_parked v A r h;
      e3 = λ g e h. tally_ended (outcome.Refused (NotParked r.eject.cpu r.eject.apic)) A r h (λ x. refl) refl tt;
      e4a = λ g e h. h;
      e4b = λ g e h. tally_handed y.late A r h;
      e4c = λ g e h. h;
      e4d = λ g e h. h;
      e4e = λ g e h. tally_ended (outcome.Ejected r.eject.cpu r.eject.apic r.eject.slot) A r h (λ x. refl) refl tt;
      e4f = λ g e h. h;
      e4g = λ g e h. tally_status v A r h;
      e4h = λ g e h. tally_ended (outcome.Refused (StillPending r.eject.cpu r.eject.status)) A r h (λ x. refl) refl tt;
      t = λ g e h. tally_told_on y.apics r.outcome A r h;
      e5 = λ g e h. tally_over E6 E7 A r refl refl h.1;
      e6 = λ g e h. tally_over_next E6 E7 A r refl refl h;
      e7 = λ g e h. subst (TallyAt A r) (sym (ap turn_of (e refl))) h;
    }) f l met mine is tally

-- where a label needs nothing no add runs, and what was left is held
pub idle_resting : (A : Tally) (r : Monarch) (l : Label) → need_of l ≡ Nothing → TallyAt A r (turn_of l) → IsIdle A r
idle_resting A r F1 e h = h
idle_resting A r R1 e h = h
idle_resting A r R2 e h = h
idle_resting A r R3 e h = h
idle_resting A r R4 e h = h
idle_resting A r R5 e h = h
idle_resting A r R6 e h = h
idle_resting A r S0 e h = h.2
idle_resting A r S1 e h = h.2
idle_resting A r S2 e h = h.2
idle_resting A r S3 e h = h.2
idle_resting A r S4 e h = h.2
idle_resting A r C1 e h = h.3
idle_resting A r C2 e h = h.3
idle_resting A r C3 e h = h.3
idle_resting A r C4 e h = h.3
idle_resting A r C5 e h = h.3
idle_resting A r C6 e h = h.3
idle_resting A r E5 e h = h.1
idle_resting A r E6 e h = h
idle_resting A r E7 e h = h
idle_resting A r _ e h = absurd cc

-- an add is about to begin at NB alone
pub beginning_is : (l : Label) → turn_of l ≡ Beginning → l ≡ NB
beginning_is NB e = refl
beginning_is _ e = absurd cc

-- what is held is the held one, but where an add is about to begin
pub tally_held : (A : Tally) (r : Monarch) (x : Turn) → TallyAt A r x → (held_in A ≡ r.slots.held) ⊎ ((x ≡ Beginning) × (A.left ≡ None))
tally_held A r Waiting h = inl (held_idle A r.slots.held h.2.0 h.2.1)
tally_held A r Collecting h = inl (held_idle A r.slots.held h.3.0 h.3.1)
tally_held A r Beginning h = elim h.2.1 [ inl none ↦ inr (refl, none) | inr it ↦ inl (held_idle A r.slots.held h.1 (it ∙ sym h.2.0)) ]
tally_held A r Running h = inl (held_running A r.collection.reports r.taken r.add.cpu r.add.apic r.slots.held h.0 h.1 h.2.0)
tally_held A r Parting h = inl (held_idle A r.slots.held h.1.0 h.1.1)
tally_held A r Telling h = inl h.held
tally_held A r Ending h = inl (held_idle A r.slots.held h.1.0 h.1.1)
tally_held A r Over h = inl (held_idle A r.slots.held h.0 h.1)
