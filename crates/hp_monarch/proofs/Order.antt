-- The order of a session, read off the graph of the labels.
use Rattle.std.proofs.Common.{◌≡◌, ◌⊎◌, ◌≤◌, List, [], ◌∷◌, arith, inl, inr, ℕ, Bool, true, false, cond, ◌||◌, ◌==◌, Option, Some, None, refl, subst}
use Rattle.std.specs.Prelude.{nat_lt, nat_le, not, bit_and, ◌+◌, ◌-◌, length}
use Rattle.std.proofs.lemmas.Bool.{eqb-true}
use Rattle.std.proofs.lemmas.Bool.Decides.{nat_tests}
use Rattle.hp_model.specs.declared.labels.Label.{Label}
use Rattle.hp_model.specs.declared.labels.Label.TheVariants.{F1, F2, R1, R2, R3, R4, R6, S0, S1, S2, S3, S4, C1, C3, C4, C6, NB, N0, N8a, N8b, N9, N10, N11, E0, E2, E3, E4a, E4b, E4c, E4f, E4g, E4h, T, E5, E6, E7}
use Rattle.hp_model.specs.declared.outcomes.Outcome.{Outcome}
use Rattle.hp_model.specs.Add.{Add, AddsAt, Ends, failed}
use Rattle.hp_model.specs.declared.reports.Report.{Report}
use Rattle.hp_model.specs.Collection.{Collection, CollectEnds, next_processor}
use Rattle.hp_model.specs.Eject.{EjectsAt, awaits, handed_to_block, saw_parked}
use Rattle.hp_model.specs.Handlers.{Seat, next_at}
use Rattle.hp_model.specs.declared.labels.Handler.TheVariants.{Monarch as Monarchs}
use Rattle.hp_model.specs.Labels.{handler_of}
use Rattle.hp_model.specs.declared.reports.Decision.{Decision}
use Rattle.hp_model.specs.declared.reports.Decision.TheVariants.{Tell as ToTell, Add as ToAdd, Eject as ToEject}
use Rattle.hp_model.specs.Monarch.{Monarch, answered, at_label, decision, after_collection, after_eject, facts_of, after_add, look_at, next_report, noted, taken_up, after_tell, took}
use Rattle.hp_model.specs.SharedBytes.{Layout}
use Rattle.hp_model.specs.Slots.{known_from}
use Rattle.hp_monarch.specs.Order.{may_follow}
use Rattle.hp_monarch.specs.Session.{TakesReports, reports_left}
use Rattle.hp_monarch.proofs.Reports.{pick, report_leads}

look_leads : (P : Label → Type 0) (polls : ℕ) (o : Option ℕ) (r : Monarch) → P S3 → P S4 → P (look_at polls o r).label
look_leads P polls (Some slot) r here past = here
look_leads P polls None r here past = past

processor_leads : (P : Label → Type 0) (ids : List ℕ) (count : ℕ) (c : Collection) (r : Monarch) → P C1 → P NB → P E0 → P T → P E5 → P (after_collection ids (next_processor count c) r).label
processor_leads P ids count c r on adds ejects tells ends =
    pick (λ d. P (after_collection ids d r).label) (nat_lt (c.cpu + 1) count) _ (CollectEnds (record c { cpu = c.cpu + 1 })) on
    (report_leads P ids (record r { collection = record c { cpu = c.cpu + 1 } }) adds ejects tells ends)

failed_leads : (P : Label → Type 0) (why : Outcome) (a : Add) (r : Monarch) → P N0 → P T → P (after_add (failed why a) r).label
failed_leads P why a r again ends = pick (λ d. P (after_add d r).label) (nat_lt a.attempt 3) _ (Ends why) again ends

-- each row leads to one of its successors
pub follows : (y : Layout) (x : Seat) (r : Monarch) (l : Label) (v : ℕ) → (handler_of l ≡ Monarchs → r.label ≡ l) → may_follow l (next_at y x r l v).label ≡ true
follows y x r F1 v at = pick (λ m. may_follow F1 m ≡ true) (v == x.apic) F2 F1 refl refl
follows y x r R2 v at = pick (λ m. may_follow R2 m ≡ true) (v == 1) R6 R3 refl refl
follows y x r R3 v at = pick (λ m. may_follow R3 m ≡ true) (v == 1) R4 R1 refl refl
follows y x r S0 v at = pick (λ s. may_follow S0 s.label ≡ true) (nat_lt 1 (length r.slots.bound)) (record r { label = S1; slot = 1 }) (at_label S2 r) refl refl
follows y x r S1 v at = pick (λ s. may_follow S1 s.label ≡ true) (nat_lt (r.slot + 1) (length r.slots.bound)) (record r { label = S1; slot = r.slot + 1 }) (at_label S2 r) refl refl
follows y x r S2 v at = look_leads (λ m. may_follow S2 m ≡ true) y.polls (known_from r.slots 1) r refl refl
follows y x r S3 v at =
    pick (λ s. may_follow S3 s.label ≡ true) ((v == 1) || nat_le r.polls 1) (look_at y.polls (known_from r.slots (r.slot + 1)) (noted r.slot v r)) (record (noted r.slot v r) { polls = r.polls - 1 })
    (look_leads (λ m. may_follow S3 m ≡ true) y.polls (known_from r.slots (r.slot + 1)) (noted r.slot v r) refl refl) (rw (at refl) refl)
follows y x r S4 v at = pick (λ s. may_follow S4 s.label ≡ true) (v == 4) _ (at_label E5 r) refl refl
follows y x r C3 v at =
    pick (λ d. may_follow C3 (after_collection y.apics d r).label ≡ true) (nat_lt v r.collection.cpu || not (nat_lt v y.count)) (CollectEnds r.collection) _
    (report_leads (λ m. may_follow C3 m ≡ true) y.apics r refl refl refl refl) refl
follows y x r C4 v at =
    pick (λ d. may_follow C4 (after_collection y.apics d r).label ≡ true) (bit_and v 0x12 == 0) (next_processor y.count r.collection) _
    (processor_leads (λ m. may_follow C4 m ≡ true) y.apics y.count r.collection r refl refl refl refl refl) refl
follows y x r C6 v at = processor_leads (λ m. may_follow C6 m ≡ true) y.apics y.count _ r refl refl refl refl refl
follows y x r N8a v at = pick (λ d. may_follow N8a (after_add d r).label ≡ true) (v == 1) _ (AddsAt N8b r.add) refl refl
follows y x r N8b v at =
    let s = noted r.add.slot v r in
    pick (λ d. may_follow N8b (after_add d s).label ≡ true) (v == 1) _ _ refl (pick (λ d. may_follow N8b (after_add d s).label ≡ true) (nat_le r.add.polls 1) _ _ refl refl)
follows y x r N9 v at =
    pick (λ d. may_follow N9 (after_add d r).label ≡ true) r.add.seen (AddsAt N10 r.add) (failed _ r.add) refl (failed_leads (λ m. may_follow N9 m ≡ true) _ r.add r refl refl)
follows y x r N11 v at =
    let s = noted r.add.slot v r in
    pick (λ d. may_follow N11 (after_add d s).label ≡ true) (v == 1) (Ends _) _ refl
    (pick (λ d. may_follow N11 (after_add d s).label ≡ true) (nat_le r.add.polls 1) (failed _ r.add) _ (failed_leads (λ m. may_follow N11 m ≡ true) _ r.add s refl refl) refl)
follows y x r E2 v at =
    pick (λ d. may_follow E2 (after_eject d r).label ≡ true) (v == 1) (EjectsAt E4a r.eject) _ refl
    (pick (λ d. may_follow E2 (after_eject d r).label ≡ true) (nat_le r.eject.polls 1) (EjectsAt E3 r.eject) (awaits (r.eject.polls - 1) r.eject) refl refl)
follows y x r E4b v at = pick (λ m. may_follow E4b m ≡ true) y.late E4f E4c refl refl
follows y x r E4g v at = pick (λ d. may_follow E4g (after_eject d r).label ≡ true) (bit_and v 0x10 == 0x10) (EjectsAt E4h (record r.eject { status = v })) (EjectsAt E4c r.eject) refl refl
follows y x r T v at = report_leads (λ m. may_follow T m ≡ true) y.apics (after_tell r.outcome r) refl refl refl refl
follows y x r E5 v at = pick (λ s. may_follow E5 s.label ≡ true) (nat_lt 1 (length r.slots.bound)) (record r { label = E6; slot = 1 }) (at_label E7 r) refl refl
follows y x r E6 v at = pick (λ s. may_follow E6 s.label ≡ true) (nat_lt (r.slot + 1) (length r.slots.bound)) (record r { label = E6; slot = r.slot + 1 }) (at_label E7 r) refl refl
follows y x r E7 v at = rw (at refl) refl
follows y x r _ v at = refl

leads : (y : Layout) (x : Seat) (r : Monarch) (l k : Label) (v : ℕ) → r.label ≡ l → (next_at y x r l v).label ≡ k → may_follow l k ≡ true
leads y x r l k v at is = subst (λ m. may_follow l m ≡ true) is (follows y x r l v (λ m. at))

-- release bytes become 1
only_release : (l : Label) → may_follow l E6 ≡ true → (l ≡ E5) ⊎ (l ≡ E6)
only_release E5 e = inl refl
only_release E6 e = inr refl
only_release _ e = absurd cc

pub before_release : (y : Layout) (x : Seat) (r : Monarch) (l : Label) (v : ℕ) → handler_of l ≡ Monarchs → r.label ≡ l → (next_at y x r l v).label ≡ E6 → (l ≡ E5) ⊎ (l ≡ E6)
before_release y x r l v m at is = only_release l (leads y x r l E6 v at is)

-- the SMI to all others: there is no slot, or none behind this one
skips : (more : Bool) (r : Monarch) (slot : ℕ) → (cond more (record r { label = S1; slot = slot }) (at_label S2 r)).label ≡ S2 → more ≡ false
skips true r slot e = absurd cc
skips false r slot e = refl

at_most : (n m : ℕ) → nat_lt n m ≡ false → m ≤ n
at_most n m e = grind (arith, nat_tests)

only_broadcast : (y : Layout) (x : Seat) (r : Monarch) (l : Label) (v : ℕ) → may_follow l S2 ≡ true → (next_at y x r l v).label ≡ S2 →
    ((l ≡ S0) × (length r.slots.bound ≤ 1)) ⊎ ((l ≡ S1) × (length r.slots.bound ≤ r.slot + 1))
only_broadcast y x r S0 v e is = inl (refl, at_most 1 (length r.slots.bound) (skips (nat_lt 1 (length r.slots.bound)) r 1 is))
only_broadcast y x r S1 v e is = inr (refl, at_most (r.slot + 1) (length r.slots.bound) (skips (nat_lt (r.slot + 1) (length r.slots.bound)) r (r.slot + 1) is))
only_broadcast y x r _ v e is = absurd cc

pub before_broadcast : (y : Layout) (x : Seat) (r : Monarch) (l : Label) (v : ℕ) → handler_of l ≡ Monarchs → r.label ≡ l → (next_at y x r l v).label ≡ S2 →
    ((l ≡ S0) × (length r.slots.bound ≤ 1)) ⊎ ((l ≡ S1) × (length r.slots.bound ≤ r.slot + 1))
before_broadcast y x r l v m at is = only_broadcast y x r l v (leads y x r l S2 v at is) is

-- the end of the session: where the next report would be taken up, and none is left
answers_on : (c : Decision) (t : Report) (r : Monarch) → (answered c t r).label ≡ E5 → ⊥
answers_on (ToTell o) t r e = absurd cc
answers_on ToAdd t r e = absurd cc
answers_on ToEject t r e = absurd cc

up_ends : (ids : List ℕ) (ts : List Report) (r : Monarch) → reports_left r ≡ ts → (taken_up ids ts r).label ≡ E5 → reports_left (taken_up ids ts r) ≡ []
up_ends ids [] r left e = left
up_ends ids (t ∷ ts) r left e = absurd (answers_on (decision (facts_of ids r t) t) t (took r) e)

-- so it is wherever a row leads to
abbrev EndsWithNone : Monarch → Type 0
EndsWithNone r = r.label ≡ E5 → reports_left r ≡ []

report_ends : (ids : List ℕ) (r : Monarch) → EndsWithNone (next_report ids r)
report_ends ids r = up_ends ids (reports_left r) r refl

processor_ends : (ids : List ℕ) (count : ℕ) (c : Collection) (r : Monarch) → EndsWithNone (after_collection ids (next_processor count c) r)
processor_ends ids count c r =
    pick (λ d. EndsWithNone (after_collection ids d r)) (nat_lt (c.cpu + 1) count) _ (CollectEnds (record c { cpu = c.cpu + 1 })) (λ e. absurd cc)
    (report_ends ids (record r { collection = record c { cpu = c.cpu + 1 } }))

only_end : (y : Layout) (x : Seat) (r : Monarch) (l : Label) (v : ℕ) → may_follow l E5 ≡ true → (next_at y x r l v).label ≡ E5 →
    (l ≡ S4) ⊎ (TakesReports l × (reports_left (next_at y x r l v).monarch ≡ []))
only_end y x r S4 v e is = inl refl
only_end y x r C3 v e is =
    inr (
      inl refl,
      pick (λ d. EndsWithNone (after_collection y.apics d r)) (nat_lt v r.collection.cpu || not (nat_lt v y.count)) (CollectEnds r.collection) _
          (report_ends y.apics (record r { collection = r.collection })) (λ g. absurd cc) is,
    )
only_end y x r C4 v e is =
    inr (
      inr (inl refl),
      pick (λ d. EndsWithNone (after_collection y.apics d r)) (bit_and v 0x12 == 0) (next_processor y.count r.collection) _
          (processor_ends y.apics y.count r.collection r) (λ g. absurd cc) is,
    )
only_end y x r C6 v e is = inr (inr (inr (inl refl)), processor_ends y.apics y.count _ r is)
only_end y x r T v e is = inr (inr (inr (inr refl)), report_ends y.apics (after_tell r.outcome r) is)
only_end y x r _ v e is = absurd cc

pub before_session_end : (y : Layout) (x : Seat) (r : Monarch) (l : Label) (v : ℕ) → handler_of l ≡ Monarchs → r.label ≡ l → (next_at y x r l v).label ≡ E5 →
    (l ≡ S4) ⊎ (TakesReports l × (reports_left (next_at y x r l v).monarch ≡ []))
before_session_end y x r l v m at is = only_end y x r l v (leads y x r l E5 v at is) is

-- an add
only_add : (l : Label) → may_follow l NB ≡ true → TakesReports l
only_add C3 e = inl refl
only_add C4 e = inr (inl refl)
only_add C6 e = inr (inr (inl refl))
only_add T e = inr (inr (inr refl))
only_add _ e = absurd cc

pub before_add : (y : Layout) (x : Seat) (r : Monarch) (l : Label) (v : ℕ) → handler_of l ≡ Monarchs → r.label ≡ l → (next_at y x r l v).label ≡ NB → TakesReports l
before_add y x r l v m at is = only_add l (leads y x r l NB v at is)

-- an eject
only_eject : (l : Label) → may_follow l E0 ≡ true → TakesReports l
only_eject C3 e = inl refl
only_eject C4 e = inr (inl refl)
only_eject C6 e = inr (inr (inl refl))
only_eject T e = inr (inr (inr refl))
only_eject _ e = absurd cc

pub before_eject : (y : Layout) (x : Seat) (r : Monarch) (l : Label) (v : ℕ) → handler_of l ≡ Monarchs → r.label ≡ l → (next_at y x r l v).label ≡ E0 → TakesReports l
before_eject y x r l v m at is = only_eject l (leads y x r l E0 v at is)

-- control 8: the processor has parked
only_control : (l : Label) → may_follow l E4b ≡ true → l ≡ E4a
only_control E4a e = refl
only_control _ e = absurd cc

pub before_control : (y : Layout) (x : Seat) (r : Monarch) (l : Label) (v : ℕ) → handler_of l ≡ Monarchs → r.label ≡ l → (next_at y x r l v).label ≡ E4b → l ≡ E4a
before_control y x r l v m at is = only_control l (leads y x r l E4b v at is)

parked_one : (v : ℕ) (r : Monarch) → (after_eject (saw_parked v r.eject) r).label ≡ E4a → v ≡ 1
parked_one v r is = by (v == 1) refl is
  where
    late_look : (b : Bool) → (after_eject (cond b (EjectsAt E3 r.eject) (awaits (r.eject.polls - 1) r.eject)) r).label ≡ E4a → ⊥
    late_look true e = cc
    late_look false e = cc

    by : (b : Bool) → (v == 1) ≡ b → (after_eject (cond b (EjectsAt E4a r.eject) (cond (nat_le r.eject.polls 1) (EjectsAt E3 r.eject) (awaits (r.eject.polls - 1) r.eject))) r).label ≡ E4a → v ≡ 1
    by true e g = eqb-true v 1 e
    by false e g = absurd (late_look (nat_le r.eject.polls 1) g)

only_selector : (y : Layout) (x : Seat) (r : Monarch) (l : Label) (v : ℕ) → may_follow l E4a ≡ true → (next_at y x r l v).label ≡ E4a → (l ≡ E2) × (v ≡ 1)
only_selector y x r E2 v e is = (refl, parked_one v r is)
only_selector y x r _ v e is = absurd cc

pub before_selector : (y : Layout) (x : Seat) (r : Monarch) (l : Label) (v : ℕ) → handler_of l ≡ Monarchs → r.label ≡ l → (next_at y x r l v).label ≡ E4a → (l ≡ E2) × (v ≡ 1)
before_selector y x r l v m at is = only_selector y x r l v (leads y x r l E4a v at is) is

-- an eject that went through: under late delivery its status was read
prompt : (late : Bool) → handed_to_block late ≡ E4c → late ≡ false
prompt true e = absurd cc
prompt false e = refl

only_clearing : (y : Layout) (x : Seat) (r : Monarch) (l : Label) (v : ℕ) → may_follow l E4c ≡ true → (next_at y x r l v).label ≡ E4c → ((l ≡ E4b) × (y.late ≡ false)) ⊎ (l ≡ E4g)
only_clearing y x r E4b v e is = inl (refl, prompt y.late is)
only_clearing y x r E4g v e is = inr refl
only_clearing y x r _ v e is = absurd cc

pub before_clearing : (y : Layout) (x : Seat) (r : Monarch) (l : Label) (v : ℕ) → handler_of l ≡ Monarchs → r.label ≡ l → (next_at y x r l v).label ≡ E4c → ((l ≡ E4b) × (y.late ≡ false)) ⊎ (l ≡ E4g)
before_clearing y x r l v m at is = only_clearing y x r l v (leads y x r l E4c v at is) is

pub ruleset order = (before_release, before_broadcast, before_session_end, before_add, before_eject, before_control, before_selector, before_clearing)
