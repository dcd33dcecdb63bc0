-- Each row of the monarch keeps its record tied to the entries.
use Rattle.std.specs.Prelude.{if◌then◌else◌}
use Rattle.std.proofs.Common.{ℕ, ◌≡◌, ◌+◌, ◌-◌, ◌*◌, ◌/◌, ◌%◌, ◌<◌, ◌==◌, ◌⊎◌, inl, inr, Bool, true, false, not, ◌||◌, nat_lt, nat_le, List, [], ◌∷◌, ◌++◌, length, drop, zero, suc, Option, Some, None, bit_and, refl, sym, ap, subst, ◌∙◌, arith}
use Rattle.std.specs.List.{list_any}
use Rattle.std.specs.Int.Bits.{and_zero_r}
use Rattle.std.proofs.lemmas.Nat.{and_block, and_mask}
use Rattle.std.proofs.lemmas.Bool.{eqb-true}
use Rattle.std.proofs.lemmas.Bool.Decides.{nat_tests}
use Rattle.hp_model.specs.declared.outcomes.Outcome.{Outcome}
use Rattle.hp_model.specs.declared.outcomes.Outcome.TheVariants as outcome
use Rattle.hp_model.specs.declared.outcomes.Refusal.TheVariants.{NotAtGate, NotCheckedIn}
use Rattle.hp_model.specs.declared.labels.Label.{Label}
use Rattle.hp_model.specs.declared.labels.Label.TheVariants.{S1, S2, S3, C1, C4, C5, N0, N7, N8a, N8b, N9, N10, N11, E3, E4a, E4c, E4f, E4h, E5, E6, E7}
use Rattle.hp_model.specs.Block.{is_in}
use Rattle.hp_model.specs.declared.labels.Handler.TheVariants.{Monarch as Monarchs}
use Rattle.hp_model.specs.Labels.{handler_of, index_of}
use Rattle.hp_model.specs.SharedBytes.{Layout}
use Rattle.hp_model.specs.Slots.{Slots, known_from}
use Rattle.hp_model.specs.declared.reports.Report.{Report}
use Rattle.hp_model.specs.Collection.{Collection, CollectsAt, CollectEnds, next_processor, found, judged, reported, collection_start}
use Rattle.hp_model.specs.Add.{Add, AddsAt, Ends, failed, looks, is_last_look, saw_flag, saw_pair, shut, saw_arrival}
use Rattle.hp_model.specs.Eject.{Eject, EjectsAt, awaits, saw_parked, handed_to_block, saw_status}
use Rattle.hp_model.specs.declared.reports.Decision.{Decision}
use Rattle.hp_model.specs.declared.reports.Decision.TheVariants.{Tell as ToTell, Add as ToAdd, Eject as ToEject}
use Rattle.hp_model.specs.Monarch.{Monarch, at_label, first_slot, next_slot, look_at, looked, noted, commanded, decision, facts_of as facts_by, adds, took, answered, taken_up, next_report, after_collection, after_add, after_eject, after_tell}
use Rattle.hp_model.specs.Handlers.{Seat, next_at}
use Rattle.hp_model.specs.Account.{with_bound}
use Rattle.hp_model.specs.Smbases.{is_insert_of}
use Rattle.hp_sealed.proofs.Left.{pick, pick_by}
use Rattle.hp_safety.proofs.Needs.{need_of, Facts, Needs}
use Rattle.hp_safety.proofs.EachRow.{row_of_each}
use Rattle.hp_safety.proofs.Invariant.{is_adding}
use Rattle.hp_safety.proofs.Leading.{AddsFor, Says, decision_says}
use Rattle.hp_safety.proofs.Ties.{Free, tie_of, Session, read_at, reports_at, Within, IsBound, TiedAt, Tied}

-- lists of reports
within_drop : (n : ℕ) (xs ys : List Report) → Within xs ys → Within (drop n xs) ys
within_drop zero xs ys h = h
within_drop (suc n) [] ys h = h
within_drop (suc n) (x ∷ xs) ys h = within_drop n xs ys (λ f e. h f (more (f x) (list_any f xs) e))
  where
    more : (c d : Bool) → d ≡ true → (c || d) ≡ true
    more true d e = refl
    more false d e = e

any_end : (f : Report → Bool) (xs : List Report) (x : Report) → list_any f (xs ++ x ∷ []) ≡ (list_any f xs || f x)
any_end f [] x = last (f x)
  where
    last : (c : Bool) → (c || false) ≡ c
    last true = refl
    last false = refl
any_end f (y ∷ ys) x = let i = any_end f ys x in rw i (assoc (f y) (list_any f ys) (f x))
  where
    assoc : (a b c : Bool) → (a || (b || c)) ≡ ((a || b) || c)
    assoc true b c = refl
    assoc false b c = refl

within_end : (xs ys : List Report) (x : Report) → Within xs ys → Within (xs ++ x ∷ []) (ys ++ x ∷ [])
within_end xs ys x h = λ f e. any_end f ys x ∙ by_first f (list_any f xs) refl (sym (any_end f xs x) ∙ e)
  where
    more : (c d : Bool) → d ≡ true → (c || d) ≡ true
    more true d e = refl
    more false d e = e

    first : (c d : Bool) → c ≡ true → (c || d) ≡ true
    first true d e = refl
    first false d e = absurd cc

    by_first : (f : Report → Bool) (c : Bool) → list_any f xs ≡ c → (c || f x) ≡ true → (list_any f ys || f x) ≡ true
    by_first f true e g = first (list_any f ys) (f x) (h f e)
    by_first f false e g = more (list_any f ys) (f x) g

-- of the status bits 0, 1 and 4 the first two are set, where they are, and not both of the last two
insert_bits : (n : ℕ) → (bit_and n 1 == 1) ≡ true → (bit_and n 2 == 2) ≡ true → (bit_and n 0x12 == 0x12) ≡ false → (bit_and n 0x13 == 3) ≡ true
insert_bits n one two both =
    let whole : n / 16 * 16 + n % 16 ≡ n = omega arith in
    let low : bit_and n 2 ≡ bit_and (n % 16) 2 = subst (λ x. bit_and x 2 ≡ bit_and (n % 16) 2) whole (and_block 4 (n / 16) 0 (n % 16) 2 (omega arith) (omega arith) ∙ rw (and_zero_r (n / 16)) (plain (bit_and (n % 16) 2))) in
    let lowest : bit_and n 1 ≡ bit_and (n % 16) 1 = subst (λ x. bit_and x 1 ≡ bit_and (n % 16) 1) whole (and_block 4 (n / 16) 0 (n % 16) 1 (omega arith) (omega arith) ∙ rw (and_zero_r (n / 16)) (plain (bit_and (n % 16) 1))) in
    let pair : bit_and n 0x12 ≡ n / 16 % 2 * 16 + bit_and (n % 16) 2 = subst (λ x. bit_and x 0x12 ≡ n / 16 % 2 * 16 + bit_and (n % 16) 2) whole (and_block 4 (n / 16) 1 (n % 16) 2 (omega arith) (omega arith) ∙ rw (and_mask (n / 16) 1) refl) in
    let all : bit_and n 0x13 ≡ n / 16 % 2 * 16 + n % 16 % 4 = subst (λ x. bit_and x 0x13 ≡ n / 16 % 2 * 16 + n % 16 % 4) whole (and_block 4 (n / 16) 1 (n % 16) 3 (omega arith) (omega arith) ∙ rw (and_mask (n / 16) 1, and_mask (n % 16) 2) refl) in
    let odd : n % 16 % 2 ≡ 1 = sym (and_mask (n % 16) 1) ∙ (sym lowest ∙ eqb-true (bit_and n 1) 1 one) in
    let second : n % 16 / 2 % 2 ≡ 1 = halves (n % 16 / 2 % 2) (sym (middle (n % 16)) ∙ (sym low ∙ eqb-true (bit_and n 2) 2 two)) in
    rw all (decide (n / 16 % 2) (n % 16) (omega arith) odd second (λ e. let f : (bit_and n 0x12 == 0x12) ≡ true = rw (pair, e, sym low ∙ eqb-true (bit_and n 2) 2 two) refl in let g = sym f ∙ both in cc))
  where
    plain : (a : ℕ) → 0 * 16 + a ≡ a
    plain a = omega arith

    halves : (a : ℕ) → a * 2 ≡ 2 → a ≡ 1
    halves a e = omega (arith, e)

    middle : (m : ℕ) → bit_and m 2 ≡ m / 2 % 2 * 2
    middle m =
        let whole : m / 2 * 2 + m % 2 ≡ m = omega arith in
        subst (λ x. bit_and x 2 ≡ m / 2 % 2 * 2) whole (and_block 1 (m / 2) 1 (m % 2) 0 (omega arith) (omega arith) ∙ rw (and_zero_r (m % 2), and_mask (m / 2) 1) (nothing_more (m / 2 % 2)))
      where
        nothing_more : (a : ℕ) → a * 2 + 0 ≡ a * 2
        nothing_more a = omega arith

    decide : (a b : ℕ) → a < 2 → b % 2 ≡ 1 → b / 2 % 2 ≡ 1 → (a ≡ 1 → ⊥) → (a * 16 + b % 4 == 3) ≡ true
    decide a b less odd second none = let zero_there : a ≡ 0 = by_cases a less none in let three : b % 4 ≡ 3 = omega (arith, odd, second) in rw (zero_there, three) refl
      where
        by_cases : (a : ℕ) → a < 2 → (a ≡ 1 → ⊥) → a ≡ 0
        by_cases zero less none = refl
        by_cases (suc zero) less none = absurd (none refl)
        by_cases (suc (suc a)) less none = absurd (omega (arith, less))

insert_it : (ids : List ℕ) (s : Slots) (t : Report) → AddsFor ids s t → is_insert_of t.apic t ≡ true
insert_it ids s t h = let one = itself t.apic in let bits = insert_bits t.status h.enabled h.inserted h.alone in rw (one, bits) refl
  where
    itself : (n : ℕ) → (n == n) ≡ true
    itself n = grind (arith, nat_tests)

module _ (B : List ℕ) (S : Session) where
  free_at : (l : Label) (r : Monarch) → r.label ≡ l → tie_of l ≡ Free → r.slots.bound ≡ B → Tied B S r
  free_at l r is free h = let none : tie_of r.label ≡ Free = ap tie_of is ∙ free in subst (TiedAt B S r) (sym none) h

  ties_first : (l m : Label) (r : Monarch) → tie_of l ≡ Free → tie_of m ≡ Free → r.slots.bound ≡ B → Tied B S (first_slot l m r)
  ties_first l m r free rests h = pick (Tied B S) (nat_lt 1 (length r.slots.bound)) (record r { label = l; slot = 1 }) (at_label m r) (free_at l (record r { label = l; slot = 1 }) refl free h) (free_at m (at_label m r) refl rests h)

  ties_next : (l m : Label) (r : Monarch) → tie_of l ≡ Free → tie_of m ≡ Free → r.slots.bound ≡ B → Tied B S (next_slot l m r)
  ties_next l m r free rests h = pick (Tied B S) (nat_lt (r.slot + 1) (length r.slots.bound)) (record r { label = l; slot = r.slot + 1 }) (at_label m r) (free_at l (record r { label = l; slot = r.slot + 1 }) refl free h) (free_at m (at_label m r) refl rests h)

  ties_known : (polls : ℕ) (o : Option ℕ) (r : Monarch) → r.slots.bound ≡ B → Tied B S (look_at polls o r)
  ties_known polls None r h = h
  ties_known polls (Some k) r h = h

  ties_looked : (polls v : ℕ) (r : Monarch) → r.label ≡ S3 → r.slots.bound ≡ B → Tied B S (looked polls v r)
  ties_looked polls v r is h =
      pick (Tied B S) ((v == 1) || nat_le r.polls 1) (look_at polls (known_from r.slots (r.slot + 1)) r) (record r { polls = r.polls - 1 }) (ties_known polls (known_from r.slots (r.slot + 1)) r h)
      (free_at S3 (record r { polls = r.polls - 1 }) is refl h)

  ties_commanded : (v : ℕ) (r : Monarch) → r.slots.bound ≡ B → Tied B S (commanded v r)
  ties_commanded v r h = pick (Tied B S) (v == 4) (record r { label = C1; collection = collection_start; taken = 0 }) (at_label E5 r) (h, λ f e. absurd cc) h

  -- reports
  ties_adds : (ids : List ℕ) (t : Report) (r : Monarch) → AddsFor ids r.slots t → r.slots.bound ≡ B → Within r.collection.reports S.reports → list_any (is_insert_of t.apic) S.reports ≡ true → Tied B S (adds t r)
  ties_adds ids t r it h within named = (
    pick_by (λ (s : Slots). (s.bound ≡ B) ⊎ ((is_in t.apic B ≡ false) × (s.bound ≡ B ++ t.apic ∷ []))) (is_in t.apic r.slots.bound) r.slots (record r.slots { bound = r.slots.bound ++ t.apic ∷ []; known = r.slots.known ++ false ∷ [] })
        (λ e. inl h) (λ e. inr (subst (λ b. is_in t.apic b ≡ false) h e, ap (λ b. b ++ t.apic ∷ []) h)),
    within,
    named,
  )

  ties_answered : (ids : List ℕ) (c : Decision) (t : Report) (r : Monarch) → Says ids r.slots (facts_by ids r t) t c → r.slots.bound ≡ B → Within r.collection.reports S.reports → (is_insert_of t.apic t ≡ true → list_any (is_insert_of t.apic) S.reports ≡ true) → Tied B S (answered c t r)
  ties_answered ids (ToTell o) t r says h within named = (h, within)
  ties_answered ids ToAdd t r says h within named = ties_adds ids t r says h within (named (insert_it ids r.slots t says))
  ties_answered ids ToEject t r says h within named = (h, within)

  ties_taken : (ids : List ℕ) (ts : List Report) (r : Monarch) → r.slots.bound ≡ B → Within r.collection.reports S.reports → Within ts S.reports → Tied B S (taken_up ids ts r)
  ties_taken ids [] r h within rest = h
  ties_taken ids (t ∷ ts) r h within rest =
      ties_answered ids (decision (facts_by ids r t) t) t (took r) (decision_says ids r t) h within (λ e. rest (is_insert_of t.apic) (first (is_insert_of t.apic t) (list_any (is_insert_of t.apic) ts) e))
    where
      first : (c d : Bool) → c ≡ true → (c || d) ≡ true
      first true d e = refl
      first false d e = absurd cc

  ties_report : (ids : List ℕ) (r : Monarch) → r.slots.bound ≡ B → Within r.collection.reports S.reports → Tied B S (next_report ids r)
  ties_report ids r h within = ties_taken ids (drop r.taken r.collection.reports) r h within (within_drop r.taken r.collection.reports S.reports within)

  ties_told : (ids : List ℕ) (o : Outcome) (r : Monarch) → r.slots.bound ≡ B → Within r.collection.reports S.reports → Tied B S (next_report ids (after_tell o r))
  ties_told ids (outcome.Added cpu apic slot) r h within = ties_report ids (after_tell (outcome.Added cpu apic slot) r) h within
  ties_told ids (outcome.Ejected cpu apic slot) r h within = ties_report ids (after_tell (outcome.Ejected cpu apic slot) r) h within
  ties_told ids (outcome.Refused why) r h within = ties_report ids r h within

  -- the collection
  ties_processor : (ids : List ℕ) (count : ℕ) (c : Collection) (r : Monarch) → r.slots.bound ≡ B → Within c.reports S.reports → Tied B S (after_collection ids (next_processor count c) r)
  ties_processor ids count c r h within =
      pick (λ x. Tied B S (after_collection ids x r)) (nat_lt (c.cpu + 1) count) (CollectsAt C1 (record c { cpu = c.cpu + 1 })) (CollectEnds (record c { cpu = c.cpu + 1 })) (h, within)
      (ties_report ids (record r { collection = record c { cpu = c.cpu + 1 } }) h within)

  ties_found : (ids : List ℕ) (count v : ℕ) (r : Monarch) → r.slots.bound ≡ B → Within r.collection.reports S.reports → v ≡ S.cpu → Tied B S (after_collection ids (found count v r.collection) r)
  ties_found ids count v r h within is =
      pick (λ x. Tied B S (after_collection ids x r)) (nat_lt v r.collection.cpu || not (nat_lt v count)) (CollectEnds r.collection) (CollectsAt C4 (record r.collection { cpu = v })) (ties_report ids (record r { collection = r.collection }) h within) (h, within, is)

  ties_judged : (ids : List ℕ) (count v : ℕ) (r : Monarch) → r.slots.bound ≡ B → Within r.collection.reports S.reports → r.collection.cpu ≡ S.cpu → v ≡ S.status → Tied B S (after_collection ids (judged count v r.collection) r)
  ties_judged ids count v r h within cpu is =
      pick (λ x. Tied B S (after_collection ids x r)) (bit_and v 0x12 == 0) (next_processor count r.collection) (CollectsAt C5 (record r.collection { status = v })) (ties_processor ids count r.collection r h within) (h, within, cpu, is)

  -- an add
  ties_failed : (why : Outcome) (a : Add) (r : Monarch) → r.slots.bound ≡ B → Within r.collection.reports S.reports → list_any (is_insert_of a.apic) S.reports ≡ true → Tied B S (after_add (failed why a) r)
  ties_failed why a r h within named = pick (λ x. Tied B S (after_add x r)) (nat_lt a.attempt 3) (AddsAt N0 (record a { attempt = a.attempt + 1 })) (Ends why) (inl h, within, named) (h, within)

  ties_flag : (v : ℕ) (a : Add) (r : Monarch) → (r.slots.bound ≡ B) × Within r.collection.reports S.reports × (list_any (is_insert_of a.apic) S.reports ≡ true) → Tied B S (after_add (saw_flag v a) r)
  ties_flag v a r h = pick (λ x. Tied B S (after_add x r)) (v == 1) (AddsAt N9 (record a { seen = true })) (AddsAt N8b a) h h

  ties_pair : (v : ℕ) (a : Add) (r : Monarch) → (r.slots.bound ≡ B) × Within r.collection.reports S.reports × (list_any (is_insert_of a.apic) S.reports ≡ true) → Tied B S (after_add (saw_pair v a) r)
  ties_pair v a r h = pick (λ x. Tied B S (after_add x r)) (v == 1) (AddsAt N9 (record a { seen = true })) _ h (pick (λ x. Tied B S (after_add x r)) (is_last_look a) (AddsAt N9 (record a { seen = false })) (looks N8a (a.polls - 1) a) h h)

  ties_shut : (a : Add) (r : Monarch) → (r.slots.bound ≡ B) × Within r.collection.reports S.reports × (list_any (is_insert_of a.apic) S.reports ≡ true) → Tied B S (after_add (shut a) r)
  ties_shut a r h = pick (λ x. Tied B S (after_add x r)) a.seen (AddsAt N10 a) (failed (outcome.Refused (NotAtGate a.cpu a.apic)) a) h (ties_failed (outcome.Refused (NotAtGate a.cpu a.apic)) a r h.0 h.1 h.2)

  ties_arrival : (v : ℕ) (a : Add) (r : Monarch) → (r.slots.bound ≡ B) × Within r.collection.reports S.reports × (list_any (is_insert_of a.apic) S.reports ≡ true) → Tied B S (after_add (saw_arrival v a) r)
  ties_arrival v a r h =
      pick (λ x. Tied B S (after_add x r)) (v == 1) (Ends (outcome.Added a.cpu a.apic a.slot)) _ (h.0, h.1)
      (pick (λ x. Tied B S (after_add x r)) (is_last_look a) (failed (outcome.Refused (NotCheckedIn a.cpu a.apic)) a) (looks N11 (a.polls - 1) a) (ties_failed (outcome.Refused (NotCheckedIn a.cpu a.apic)) a r h.0 h.1 h.2) h)

  -- an eject
  ties_parked : (v : ℕ) (j : Eject) (r : Monarch) → (r.slots.bound ≡ B) × Within r.collection.reports S.reports → Tied B S (after_eject (saw_parked v j) r)
  ties_parked v j r h = pick (λ x. Tied B S (after_eject x r)) (v == 1) (EjectsAt E4a j) _ h (pick (λ x. Tied B S (after_eject x r)) (nat_le j.polls 1) (EjectsAt E3 j) (awaits (j.polls - 1) j) h h)

  ties_status : (v : ℕ) (j : Eject) (r : Monarch) → (r.slots.bound ≡ B) × Within r.collection.reports S.reports → Tied B S (after_eject (saw_status v j) r)
  ties_status v j r h = pick (λ x. Tied B S (after_eject x r)) (bit_and v 0x10 == 0x10) (EjectsAt E4h (record j { status = v })) (EjectsAt E4c j) h h

  ties_handed : (late : Bool) (r : Monarch) → (r.slots.bound ≡ B) × Within r.collection.reports S.reports → Tied B S (at_label (handed_to_block late) r)
  ties_handed late r h = pick (λ l. Tied B S (at_label l r)) late E4f E4c h h

-- C6 makes one and the same report
ties_reported : (B : List ℕ) (S : Session) (ids : List ℕ) (count v : ℕ) (r : Monarch) → r.slots.bound ≡ B → Within r.collection.reports S.reports → r.collection.cpu ≡ S.cpu → r.collection.status ≡ S.status → Tied B (record S { reports = S.reports ++ record { cpu = S.cpu; status = S.status; apic = v } ∷ [] }) (after_collection ids (reported count v r.collection) r)
ties_reported B S ids count v r h within cpu status =
    let same : Within (r.collection.reports ++ record { cpu = r.collection.cpu; status = r.collection.status; apic = v } ∷ []) (S.reports ++ record { cpu = S.cpu; status = S.status; apic = v } ∷ []) =
    subst (λ c. Within (r.collection.reports ++ record { cpu = c; status = r.collection.status; apic = v } ∷ []) (S.reports ++ record { cpu = S.cpu; status = S.status; apic = v } ∷ [])) (sym cpu)
    (subst (λ c. Within (r.collection.reports ++ record { cpu = S.cpu; status = c; apic = v } ∷ []) (S.reports ++ record { cpu = S.cpu; status = S.status; apic = v } ∷ [])) (sym status)
    (within_end r.collection.reports S.reports (record { cpu = S.cpu; status = S.status; apic = v }) within)) in
    ties_processor B (record S { reports = S.reports ++ record { cpu = S.cpu; status = S.status; apic = v } ∷ [] }) ids count (record r.collection { reports = r.collection.reports ++ record { cpu = r.collection.cpu; status = r.collection.status; apic = v } ∷ [] }) r h same

-- N7 gives the APIC ID of the add a place, unless it has one
bound_stored : (B : List ℕ) (r : Monarch) → is_in r.add.apic r.slots.bound ≡ true → IsBound B r → r.slots.bound ≡ with_bound (Some r.add.apic) B
bound_stored B r own (inl e) = let there : is_in r.add.apic B ≡ true = subst (λ b. is_in r.add.apic b ≡ true) e own in rw there e
bound_stored B r own (inr h) = let none = h.0 in rw none h.1

-- what the account is after the monarch's row l, which stores the add's APIC ID at N7, and is answered v
abbrev pub bound_after : Label → ℕ → List ℕ → List ℕ
bound_after l apic bound = if index_of l == 19 then with_bound (Some apic) bound else bound

abbrev pub session_after : Label → ℕ → Session → Session
session_after l v s =
    record {
      cpu = read_at (index_of l == 7) v s.cpu;
      status = read_at (index_of l == 8) v s.status;
      reports = reports_at (index_of l == 10) (record { cpu = s.cpu; status = s.status; apic = v }) s.reports;
    }

pub row_ties : (B : List ℕ) (S : Session) (y : Layout) (q : Seat) (r : Monarch) (v : ℕ) (f : Facts) (l : Label) → handler_of l ≡ Monarchs → (handler_of l ≡ Monarchs → r.label ≡ l) → ((is_adding r ≡ true) → is_in r.add.apic r.slots.bound ≡ true) → f.adds ≡ is_adding r → Needs f (handler_of l) (need_of l) → TiedAt B S r (tie_of l) → Tied (bound_after l r.add.apic B) (session_after l v S) (next_at y q r l v).monarch
row_ties B S y q r v f l mine is held adds_is met tied =
    row_of_each (λ l. handler_of l ≡ Monarchs → (handler_of l ≡ Monarchs → r.label ≡ l) → Needs f (handler_of l) (need_of l) → TiedAt B S r (tie_of l) → Tied (bound_after l r.add.apic B) (session_after l v S) (next_at y q r l v).monarch)
    (record {
      f1 = λ g e m h. absurd cc;
      f2 = λ g e m h. absurd cc;
      f3 = λ g e m h. absurd cc;
      f4 = λ g e m h. absurd cc;
      f5 = λ g e m h. absurd cc;
      f6 = λ g e m h. absurd cc;
      r1 = λ g e m h. absurd cc;
      r2 = λ g e m h. absurd cc;
      r3 = λ g e m h. absurd cc;
      r4 = λ g e m h. absurd cc;
      r5 = λ g e m h. absurd cc;
      r6 = λ g e m h. absurd cc;
      s0 = λ g e m h. ties_first B S S1 S2 r refl refl h;
      s1 = λ g e m h. ties_next B S S1 S2 r refl refl h;
      s2 = λ g e m h. ties_known B S y.polls (known_from r.slots 1) r h;
      s3 = λ g e m h. ties_looked B S y.polls v (noted r.slot v r) (e refl) h;
      s4 = λ g e m h. ties_commanded B S v r h;
      c1 = λ g e m h. h;
      c2 = λ g e m h. h;
      c3 = λ g e m h. ties_found B (record S { cpu = v }) y.apics y.count v r h.0 h.1 refl;
      c4 = λ g e m h. ties_judged B (record S { status = v }) y.apics y.count v r h.0 h.1 h.2 refl;
      c5 = λ g e m h. h;
      c6 = λ g e m h. ties_reported B S y.apics y.count v r h.0 h.1 h.2 h.3;
      nb = λ g e m h. h;
      n0 = λ g e m h. h;
      n1 = λ g e m h. h;
      n2 = λ g e m h. h;
      n3 = λ g e m h. h;
      n4 = λ g e m h. h;
      n5 = λ g e m h. h;
      n6 = λ g e m h. h;
      n7 = λ g e m h. (bound_stored B r (own m) h.0, h.1, h.2);
      n8a = λ g e m h. ties_flag B S v r.add r h;
      n8b = λ g e m h. ties_pair B S v r.add (noted r.add.slot v r) h;
      n9 = λ g e m h. ties_shut B S r.add r h;
      n10 = λ g e m h. h;
      n11 = λ g e m h. ties_arrival B S v r.add (noted r.add.slot v r) h;
      e0 = λ g e m h. h;
      e1 = λ g e m h. h;
      e2 = λ g e m h. ties_parked B S v r.eject r h;
      e3 = λ g e m h. h;
      e4a = λ g e m h. h;
      e4b = λ g e m h. ties_handed B S y.late r h;
      e4c = λ g e m h. h;
      e4d = λ g e m h. h;
      e4e = λ g e m h. h;
      e4f = λ g e m h. h;
      e4g = λ g e m h. ties_status B S v r.eject r h;
      e4h = λ g e m h. h;
      t = λ g e m h. ties_told B S y.apics r.outcome r h.0 h.1;
      e5 = λ g e m h. ties_first B S E6 E7 r refl refl h;
      e6 = λ g e m h. ties_next B S E6 E7 r refl refl h;
      e7 = λ g e m h. subst (λ x. TiedAt B S r (tie_of x)) (sym (e refl)) h;
    }) f l met mine is met tied
  where
    own : Needs f (handler_of N7) (need_of N7) → is_in r.add.apic r.slots.bound ≡ true
    own m = held (sym adds_is ∙ m.1)
