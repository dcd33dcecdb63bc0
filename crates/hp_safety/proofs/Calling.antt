-- From S2 to E5 a session has all others called in, as the entries say, and the state's flag tells whether it was disturbed.
use Rattle.std.specs.Prelude.{if◌then◌else◌}
use Rattle.std.proofs.Common.{ℕ, ◌≡◌, ◌+◌, ◌-◌, ◌==◌, Bool, true, false, not, ◌||◌, nat_lt, nat_le, List, [], ◌∷◌, ◌++◌, length, drop, Option, Some, None, bit_and, refl, ap}
use Rattle.hp_model.specs.declared.outcomes.Outcome.{Outcome}
use Rattle.hp_model.specs.declared.labels.Label.{Label}
use Rattle.hp_model.specs.declared.labels.Label.TheVariants.{F1, F2, F3, F4, F5, F6, R1, R2, R3, R4, R5, R6, S0, S1, S2, S3, S4, C1, C2, C3, C4, C5, C6, NB, N0, N1, N2, N3, N4, N5, N6, N7, N8a, N8b, N9, N10, N11, E0, E1, E2, E3, E4a, E4b, E4c, E4d, E4e, E4f, E4g, E4h, T, E5, E6, E7}
use Rattle.hp_model.specs.declared.labels.Handler.TheVariants.{Monarch as Monarchs}
use Rattle.hp_model.specs.Labels.{handler_of, index_of}
use Rattle.hp_model.specs.SharedBytes.{Layout}
use Rattle.hp_model.specs.Slots.{known_from}
use Rattle.hp_model.specs.declared.reports.Report.{Report}
use Rattle.hp_model.specs.Collection.{Collection, CollectsAt, CollectEnds, next_processor, found, judged, reported, collection_start}
use Rattle.hp_model.specs.Add.{Add, AddsAt, Ends, failed, looks, is_last_look, saw_flag, saw_pair, shut, saw_arrival}
use Rattle.hp_model.specs.Eject.{Eject, EjectsAt, awaits, saw_parked, handed_to_block, saw_status}
use Rattle.hp_model.specs.declared.reports.Decision.{Decision}
use Rattle.hp_model.specs.declared.reports.Decision.TheVariants.{Tell as ToTell, Add as ToAdd, Eject as ToEject}
use Rattle.hp_model.specs.Monarch.{Monarch, at_label, first_slot, next_slot, look_at, looked, noted, commanded, decision, facts_of as facts_by, took, answered, taken_up, next_report, after_collection, after_add, after_eject, after_tell}
use Rattle.hp_model.specs.Handlers.{Seat, next_at}
use Rattle.hp_model.specs.Step.{is_after_broadcast}
use Rattle.hp_sealed.proofs.Left.{pick}
use Rattle.hp_safety.proofs.Needs.{need_of, Facts, Needs}
use Rattle.hp_safety.proofs.EachRow.{row_of_each}

-- before its entry at S2, from there to its entry at E5, and past that
pub data Call : Type 0 where
  Before : Call
  Called : Call
  Past : Call

abbrev pub stage_of : Label → Call
stage_of F1 = Past
stage_of F2 = Past
stage_of F3 = Past
stage_of F4 = Past
stage_of F5 = Past
stage_of F6 = Past
stage_of R1 = Past
stage_of R2 = Past
stage_of R3 = Past
stage_of R4 = Past
stage_of R5 = Past
stage_of R6 = Past
stage_of S0 = Before
stage_of S1 = Before
stage_of S2 = Before
stage_of S3 = Called
stage_of S4 = Called
stage_of C1 = Called
stage_of C2 = Called
stage_of C3 = Called
stage_of C4 = Called
stage_of C5 = Called
stage_of C6 = Called
stage_of NB = Called
stage_of N0 = Called
stage_of N1 = Called
stage_of N2 = Called
stage_of N3 = Called
stage_of N4 = Called
stage_of N5 = Called
stage_of N6 = Called
stage_of N7 = Called
stage_of N8a = Called
stage_of N8b = Called
stage_of N9 = Called
stage_of N10 = Called
stage_of N11 = Called
stage_of E0 = Called
stage_of E1 = Called
stage_of E2 = Called
stage_of E3 = Called
stage_of E4a = Called
stage_of E4b = Called
stage_of E4c = Called
stage_of E4d = Called
stage_of E4e = Called
stage_of E4f = Called
stage_of E4g = Called
stage_of E4h = Called
stage_of T = Called
stage_of E5 = Called
stage_of E6 = Past
stage_of E7 = Past

-- where each row leads
abbrev IsAt : Call → Monarch → Type 0
IsAt x r = stage_of r.label ≡ x

calls_first : (l n : Label) (x : Call) (r : Monarch) → stage_of l ≡ x → stage_of n ≡ x → IsAt x (first_slot l n r)
calls_first l n x r is also = pick (IsAt x) (nat_lt 1 (length r.slots.bound)) (record r { label = l; slot = 1 }) (at_label n r) is also

calls_next : (l n : Label) (x : Call) (r : Monarch) → stage_of l ≡ x → stage_of n ≡ x → IsAt x (next_slot l n r)
calls_next l n x r is also = pick (IsAt x) (nat_lt (r.slot + 1) (length r.slots.bound)) (record r { label = l; slot = r.slot + 1 }) (at_label n r) is also

calls_known : (polls : ℕ) (o : Option ℕ) (r : Monarch) → IsAt Called (look_at polls o r)
calls_known polls None r = refl
calls_known polls (Some k) r = refl

calls_looked : (polls v : ℕ) (r : Monarch) → r.label ≡ S3 → IsAt Called (looked polls v r)
calls_looked polls v r is = pick (IsAt Called) ((v == 1) || nat_le r.polls 1) (look_at polls (known_from r.slots (r.slot + 1)) r) (record r { polls = r.polls - 1 }) (calls_known polls (known_from r.slots (r.slot + 1)) r) (ap stage_of is)

calls_commanded : (v : ℕ) (r : Monarch) → IsAt Called (commanded v r)
calls_commanded v r = pick (IsAt Called) (v == 4) (record r { label = C1; collection = collection_start; taken = 0 }) (at_label E5 r) refl refl

calls_answered : (c : Decision) (t : Report) (r : Monarch) → IsAt Called (answered c t r)
calls_answered (ToTell o) t r = refl
calls_answered ToAdd t r = refl
calls_answered ToEject t r = refl

calls_report : (ids : List ℕ) (r : Monarch) → IsAt Called (next_report ids r)
calls_report ids r = by_rest (drop r.taken r.collection.reports)
  where
    by_rest : (ts : List Report) → IsAt Called (taken_up ids ts r)
    by_rest [] = refl
    by_rest (t ∷ ts) = calls_answered (decision (facts_by ids r t) t) t (took r)

calls_processor : (ids : List ℕ) (count : ℕ) (c : Collection) (r : Monarch) → IsAt Called (after_collection ids (next_processor count c) r)
calls_processor ids count c r = pick (λ x. IsAt Called (after_collection ids x r)) (nat_lt (c.cpu + 1) count) (CollectsAt C1 (record c { cpu = c.cpu + 1 })) (CollectEnds (record c { cpu = c.cpu + 1 })) refl (calls_report ids (record r { collection = record c { cpu = c.cpu + 1 } }))

calls_found : (ids : List ℕ) (count v : ℕ) (r : Monarch) → IsAt Called (after_collection ids (found count v r.collection) r)
calls_found ids count v r = pick (λ x. IsAt Called (after_collection ids x r)) (nat_lt v r.collection.cpu || not (nat_lt v count)) (CollectEnds r.collection) (CollectsAt C4 (record r.collection { cpu = v })) (calls_report ids (record r { collection = r.collection })) refl

calls_judged : (ids : List ℕ) (count v : ℕ) (r : Monarch) → IsAt Called (after_collection ids (judged count v r.collection) r)
calls_judged ids count v r = pick (λ x. IsAt Called (after_collection ids x r)) (bit_and v 0x12 == 0) (next_processor count r.collection) (CollectsAt C5 (record r.collection { status = v })) (calls_processor ids count r.collection r) refl

calls_reported : (ids : List ℕ) (count v : ℕ) (r : Monarch) → IsAt Called (after_collection ids (reported count v r.collection) r)
calls_reported ids count v r = calls_processor ids count (record r.collection { reports = r.collection.reports ++ record { cpu = r.collection.cpu; status = r.collection.status; apic = v } ∷ [] }) r

calls_failed : (why : Outcome) (a : Add) (r : Monarch) → IsAt Called (after_add (failed why a) r)
calls_failed why a r = pick (λ x. IsAt Called (after_add x r)) (nat_lt a.attempt 3) (AddsAt N0 (record a { attempt = a.attempt + 1 })) (Ends why) refl refl

calls_flag : (v : ℕ) (a : Add) (r : Monarch) → IsAt Called (after_add (saw_flag v a) r)
calls_flag v a r = pick (λ x. IsAt Called (after_add x r)) (v == 1) (AddsAt N9 (record a { seen = true })) (AddsAt N8b a) refl refl

calls_pair : (v : ℕ) (a : Add) (r : Monarch) → IsAt Called (after_add (saw_pair v a) r)
calls_pair v a r = pick (λ x. IsAt Called (after_add x r)) (v == 1) (AddsAt N9 (record a { seen = true })) _ refl (pick (λ x. IsAt Called (after_add x r)) (is_last_look a) (AddsAt N9 (record a { seen = false })) (looks N8a (a.polls - 1) a) refl refl)

calls_shut : (a : Add) (r : Monarch) → IsAt Called (after_add (shut a) r)
calls_shut a r = pick (λ x. IsAt Called (after_add x r)) a.seen (AddsAt N10 a) _ refl (calls_failed _ a r)

calls_arrival : (v : ℕ) (a : Add) (r : Monarch) → IsAt Called (after_add (saw_arrival v a) r)
calls_arrival v a r = pick (λ x. IsAt Called (after_add x r)) (v == 1) (Ends _) _ refl (pick (λ x. IsAt Called (after_add x r)) (is_last_look a) _ (looks N11 (a.polls - 1) a) (calls_failed _ a r) refl)

calls_parked : (v : ℕ) (j : Eject) (r : Monarch) → IsAt Called (after_eject (saw_parked v j) r)
calls_parked v j r = pick (λ x. IsAt Called (after_eject x r)) (v == 1) (EjectsAt E4a j) _ refl (pick (λ x. IsAt Called (after_eject x r)) (nat_le j.polls 1) (EjectsAt E3 j) (awaits (j.polls - 1) j) refl refl)

calls_status : (v : ℕ) (j : Eject) (r : Monarch) → IsAt Called (after_eject (saw_status v j) r)
calls_status v j r = pick (λ x. IsAt Called (after_eject x r)) (bit_and v 0x10 == 0x10) (EjectsAt E4h (record j { status = v })) (EjectsAt E4c j) refl refl

calls_handed : (late : Bool) (r : Monarch) → IsAt Called (at_label (handed_to_block late) r)
calls_handed late r = pick (λ l. IsAt Called (at_label l r)) late E4f E4c refl refl

-- the stage after a row: called from S2 on, and past that from E5 on
abbrev pub stage_after_row : Label → Call → Call
stage_after_row l x = if index_of l == 2 then Called else if index_of l == 35 then Past else x

pub row_calls : (y : Layout) (q : Seat) (r : Monarch) (v : ℕ) (f : Facts) (l : Label) → handler_of l ≡ Monarchs → (handler_of l ≡ Monarchs → r.label ≡ l) → Needs f (handler_of l) (need_of l) → stage_of (next_at y q r l v).monarch.label ≡ stage_after_row l (stage_of l)
row_calls y q r v f l mine is met = row_of_each (λ l. handler_of l ≡ Monarchs → (handler_of l ≡ Monarchs → r.label ≡ l) → stage_of (next_at y q r l v).monarch.label ≡ stage_after_row l (stage_of l)) (record {
  f1 = λ g e. absurd cc;
  f2 = λ g e. absurd cc;
  f3 = λ g e. absurd cc;
  f4 = λ g e. absurd cc;
  f5 = λ g e. absurd cc;
  f6 = λ g e. absurd cc;
  r1 = λ g e. absurd cc;
  r2 = λ g e. absurd cc;
  r3 = λ g e. absurd cc;
  r4 = λ g e. absurd cc;
  r5 = λ g e. absurd cc;
  r6 = λ g e. absurd cc;
  s0 = λ g e. calls_first S1 S2 Before r refl refl;
  s1 = λ g e. calls_next S1 S2 Before r refl refl;
  s2 = λ g e. calls_known y.polls (known_from r.slots 1) r;
  s3 = λ g e. calls_looked y.polls v (noted r.slot v r) (e refl);
  s4 = λ g e. calls_commanded v r;
  c1 = λ g e. refl;
  c2 = λ g e. refl;
  c3 = λ g e. calls_found y.apics y.count v r;
  c4 = λ g e. calls_judged y.apics y.count v r;
  c5 = λ g e. refl;
  c6 = λ g e. calls_reported y.apics y.count v r;
  nb = λ g e. refl;
  n0 = λ g e. refl;
  n1 = λ g e. refl;
  n2 = λ g e. refl;
  n3 = λ g e. refl;
  n4 = λ g e. refl;
  n5 = λ g e. refl;
  n6 = λ g e. refl;
  n7 = λ g e. refl;
  n8a = λ g e. calls_flag v r.add r;
  n8b = λ g e. calls_pair v r.add (noted r.add.slot v r);
  n9 = λ g e. calls_shut r.add r;
  n10 = λ g e. refl;
  n11 = λ g e. calls_arrival v r.add (noted r.add.slot v r);
  e0 = λ g e. refl;
  e1 = λ g e. refl;
  e2 = λ g e. calls_parked v r.eject r;
  e3 = λ g e. refl;
  e4a = λ g e. refl;
  e4b = λ g e. calls_handed y.late r;
  e4c = λ g e. refl;
  e4d = λ g e. refl;
  e4e = λ g e. refl;
  e4f = λ g e. refl;
  e4g = λ g e. calls_status v r.eject r;
  e4h = λ g e. refl;
  t = λ g e. calls_report y.apics (after_tell r.outcome r);
  e5 = λ g e. calls_first E6 E7 Past r refl refl;
  e6 = λ g e. calls_next E6 E7 Past r refl refl;
  e7 = λ g e. ap stage_of (e refl);
}) f l met mine is

-- the labels after the broadcast are those stages
pub called_after : (l : Label) → stage_of l ≡ Called → is_after_broadcast l ≡ true
called_after F1 e = absurd cc
called_after F2 e = absurd cc
called_after F3 e = absurd cc
called_after F4 e = absurd cc
called_after F5 e = absurd cc
called_after F6 e = absurd cc
called_after R1 e = absurd cc
called_after R2 e = absurd cc
called_after R3 e = absurd cc
called_after R4 e = absurd cc
called_after R5 e = absurd cc
called_after R6 e = absurd cc
called_after S0 e = absurd cc
called_after S1 e = absurd cc
called_after S2 e = absurd cc
called_after E6 e = absurd cc
called_after E7 e = absurd cc
called_after _ e = refl
