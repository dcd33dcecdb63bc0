-- Each row keeps what the entries of a running add have shown, label by label; and steps that aren't the monarch's leave it.
use Rattle.std.proofs.Common.{ℕ, suc, ◌≡◌, ◌+◌, ◌-◌, ◌≤◌, ◌==◌, ◌⊎◌, inl, inr, true, false, not, ◌||◌, nat_lt, nat_le, List, [], ◌∷◌, ◌++◌, length, drop, replicate, Option, Some, None, bit_and, refl, sym, ap, subst, ◌∙◌, arith, if◌then◌else◌}
use Rattle.std.proofs.lemmas.Bool.{or_left, or_right, eqb-true}
use Rattle.std.proofs.lemmas.Bool.Decides.{nat_tests}
use Rattle.hp_model.specs.declared.outcomes.Outcome.{Outcome}
use Rattle.hp_model.specs.declared.outcomes.Outcome.TheVariants as outcome
use Rattle.hp_model.specs.declared.outcomes.Refusal.TheVariants.{Foreign, Disabled, Both, AlreadyKnown, GateHeld, NoUnplug, NotKnown, NotArrived, NotAtGate, NotCheckedIn}
use Rattle.hp_model.specs.declared.labels.Label.{Label}
use Rattle.hp_model.specs.declared.labels.Label.TheVariants.{F1, R1, R2, R3, R4, R5, R6, S0, S1, S2, S3, S4, C1, C2, C3, C4, C5, C6, NB, N0, N1, N2, N3, N4, N5, N6, N7, N8a, N8b, N9, N10, N11, E0, E1, E2, E3, E4a, E4b, E4c, E4d, E4e, E4f, E4g, E4h, T, E5, E6, E7}
use Rattle.hp_model.specs.Memory.{Write, byte_at}
use Rattle.hp_model.specs.Block.{is_in}
use Rattle.hp_model.specs.declared.labels.Handler.TheVariants.{Monarch as Monarchs}
use Rattle.hp_model.specs.Labels.{handler_of, index_of}
use Rattle.hp_model.specs.SharedBytes.{Layout, flag, arrived_byte}
use Rattle.hp_model.specs.Slots.{known_from, bind}
use Rattle.hp_model.specs.declared.reports.Report.{Report}
use Rattle.hp_model.specs.Collection.{Collection, CollectsAt, CollectEnds, next_processor, found, judged, collection_start}
use Rattle.hp_model.specs.Add.{Add, AddsAt, Ends, looks, is_last_look, saw_flag, saw_pair, shut, saw_arrival}
use Rattle.hp_model.specs.Eject.{EjectsAt, awaits}
use Rattle.hp_model.specs.declared.reports.Facts.{Facts as Tests}
use Rattle.hp_model.specs.declared.reports.Decision.{Decision}
use Rattle.hp_model.specs.declared.reports.Decision.TheVariants.{Tell as ToTell, Add as ToAdd, Eject as ToEject}
use Rattle.hp_model.specs.Monarch.{Monarch, at_label, look_at, noted, refuses, held_decision, insert_decision, eject_decision, decision, facts_of as facts_by, took, answered, taken_up, next_report, after_collection, after_add, after_eject, after_tell}
use Rattle.hp_model.specs.Account.{with_bound}
use Rattle.hp_model.specs.Handlers.{Seat, next_at}
use Rattle.hp_sealed.proofs.Left.{pick, pick_by}
use Rattle.hp_safety.proofs.Needs.{Nothing, need_of, IsSlot, Facts as Needed, MonarchNeeds}
use Rattle.hp_safety.proofs.Ties.{Session, TiedAt, tie_of}
use Rattle.hp_exact.proofs.Monarchs.{is_among, adding, adds_on}
use Rattle.hp_exact.proofs.AddingTrail.{Trail, no_trail, trail_after}
use Rattle.hp_exact.proofs.AddingTie.{AddAt, AddTied, IsBit, Left, Runs, Told, is_ending}

-- what a row does to the two bytes, and what it has read of them; where it ends an outcome's entries, the bound APIC IDs are the record's
pub record Deeds (y : Layout) (ws vs : List Write) (home home2 : ℕ → ℕ → Type 0) (bound : List ℕ) (r : Monarch) (l : Label) (v : ℕ) : Type 0 where
  pub flag_kept : IsBit ws flag → IsBit vs flag
  pub arrived_kept : is_among l adding ≡ true → IsBit ws (arrived_byte y r.add.slot) → IsBit vs (arrived_byte y r.add.slot)
  pub flag_cleared : l ≡ N1 → byte_at vs flag ≡ 0
  pub arrived_cleared : l ≡ N0 → byte_at vs (arrived_byte y r.add.slot) ≡ 0
  pub cleared_again : l ≡ N10 → byte_at vs (arrived_byte y r.add.slot) ≡ 0
  pub looked_at : l ≡ N11 → byte_at vs (arrived_byte y r.add.slot) ≡ byte_at ws (arrived_byte y r.add.slot)
  pub stays_home : l ≡ N11 → home r.add.cpu r.add.slot → home2 r.add.cpu r.add.slot
  pub flag_read : l ≡ N8a → v ≡ byte_at ws flag
  pub pair_read : l ≡ N8b → v ≡ byte_at ws (arrived_byte y r.add.slot)
  pub arrived_read : l ≡ N11 → v ≡ byte_at ws (arrived_byte y r.add.slot)
  pub is_bound : is_ending l ≡ true → r.slots.bound ≡ bound

-- outcomes that are told of a report at once are no add's
module _ (home : ℕ → ℕ → Type 0) where
  abbrev IsMere : Outcome → Type 0
  IsMere o = (polls : ℕ) (t : Trail) (old now : List ℕ) (a : Add) → Told polls t old now home a o

  abbrev TellsMere : Decision → Type 0
  TellsMere (ToTell o) = IsMere o
  TellsMere ToAdd = Unit {0}
  TellsMere ToEject = Unit {0}

  insert_mere : (f : Tests) (t : Report) → TellsMere (insert_decision f t)
  insert_mere f t = pick TellsMere f.known (refuses (AlreadyKnown t.cpu t.apic f.slot)) (held_decision f.held t) (λ polls u old now a. tt) (by_held f.held)
    where
      by_held : (o : Option ℕ) → TellsMere (held_decision o t)
      by_held None = tt
      by_held (Some b) = pick TellsMere (b == t.apic) ToAdd (refuses (GateHeld t.cpu t.apic b)) tt (λ polls u old now a. tt)

  decision_mere : (f : Tests) (t : Report) → TellsMere (decision f t)
  decision_mere f t =
      pick TellsMere (not f.own) (refuses (Foreign t.cpu t.apic)) _ (λ polls u old now a. tt)
      (pick TellsMere (not (bit_and t.status 1 == 1)) (refuses (Disabled t.cpu t.status)) _ (λ polls u old now a. tt)
      (pick TellsMere (bit_and t.status 0x12 == 0x12) (refuses (Both t.cpu t.status)) _ (λ polls u old now a. tt)
      (pick TellsMere (bit_and t.status 2 == 2) (insert_decision f t) (eject_decision f t) (insert_mere f t)
      (pick TellsMere (not (bit_and f.features 4 == 4)) (refuses (NoUnplug t.cpu f.features)) _ (λ polls u old now a. tt)
      (pick TellsMere (not f.known) (refuses (NotKnown t.cpu t.apic)) _ (λ polls u old now a. tt)
      (pick TellsMere (f.look == 0) (refuses (NotArrived t.cpu t.apic)) ToEject (λ polls u old now a. tt) tt))))))

module _ (y : Layout) (old : List ℕ) (vs : List Write) (home : ℕ → ℕ → Type 0) where
  -- the next report
  add_answered : (ids : List ℕ) (r : Monarch) (t : Report) (c : Decision) → TellsMere home c → r.slots.bound ≡ old → AddTied y no_trail old vs home (answered c t (took r))
  add_answered ids r t (ToTell o) mere same = mere y.polls no_trail old r.slots.bound r.add
  add_answered ids r t ToAdd mere same = (refl, subst (λ ids. (bind t.apic r.slots).bound ≡ with_bound (Some t.apic) ids) same (pick_by (λ s. s.bound ≡ with_bound (Some t.apic) r.slots.bound) (is_in t.apic r.slots.bound) r.slots _ (λ e. rw e refl) (λ e. rw e refl)), refl)
  add_answered ids r t ToEject mere same = tt

  pub add_report : (ids : List ℕ) (r : Monarch) → r.slots.bound ≡ old → AddTied y no_trail old vs home (next_report ids r)
  add_report ids r same = by_rest (drop r.taken r.collection.reports)
    where
      by_rest : (ts : List Report) → AddTied y no_trail old vs home (taken_up ids ts r)
      by_rest [] = tt
      by_rest (t ∷ ts) = add_answered ids r t (decision (facts_by ids r t) t) (decision_mere home (facts_by ids r t) t) same

  add_processor : (ids : List ℕ) (count : ℕ) (c : Collection) (r : Monarch) → r.slots.bound ≡ old → AddTied y no_trail old vs home (after_collection ids (next_processor count c) r)
  add_processor ids count c r same =
      pick (λ w. AddTied y no_trail old vs home (after_collection ids w r)) (nat_lt (c.cpu + 1) count) (CollectsAt C1 (record c { cpu = c.cpu + 1 })) (CollectEnds (record c { cpu = c.cpu + 1 })) tt
      (add_report ids (record r { collection = record c { cpu = c.cpu + 1 } }) same)

  add_found : (ids : List ℕ) (count v : ℕ) (r : Monarch) → r.slots.bound ≡ old → AddTied y no_trail old vs home (after_collection ids (found count v r.collection) r)
  add_found ids count v r same =
      pick (λ w. AddTied y no_trail old vs home (after_collection ids w r)) (nat_lt v r.collection.cpu || not (nat_lt v count)) (CollectEnds r.collection) (CollectsAt C4 (record r.collection { cpu = v }))
      (add_report ids (record r { collection = r.collection }) same) tt

  add_judged : (ids : List ℕ) (count v : ℕ) (r : Monarch) → r.slots.bound ≡ old → AddTied y no_trail old vs home (after_collection ids (judged count v r.collection) r)
  add_judged ids count v r same =
      pick (λ w. AddTied y no_trail old vs home (after_collection ids w r)) (bit_and v 0x12 == 0) (next_processor count r.collection) (CollectsAt C5 (record r.collection { status = v })) (add_processor ids count r.collection r same) tt

told_bound : (o : Outcome) (r : Monarch) → (after_tell o r).slots.bound ≡ r.slots.bound
told_bound (outcome.Added cpu apic slot) r = refl
told_bound (outcome.Ejected cpu apic slot) r = refl
told_bound (outcome.Refused why) r = refl

is_0 : (v b : ℕ) → v ≡ b → (b ≡ 0) ⊎ (b ≡ 1) → (v == 1) ≡ false → v ≡ 0
is_0 v b e (inl z) f = e ∙ z
is_0 v b e (inr one) f = absurd (let g : v ≡ 1 = e ∙ one in let both : (v == 1) ≡ true = rw g refl in let c : true ≡ false = sym both ∙ f in cc)

abbrev zeros : ℕ → List ℕ
zeros n = replicate n 0

abbrev with_zero : List ℕ → List ℕ
with_zero xs = 0 ∷ xs

zero_more : (xs : List ℕ) (n v : ℕ) → v ≡ 0 → xs ≡ replicate n 0 → v ∷ xs ≡ replicate (n + 1) 0
zero_more xs n v e f = rw (e, f) (one_more n)
  where
    one_more : (n : ℕ) → with_zero (zeros n) ≡ zeros (n + 1)
    one_more n = let i : n + 1 ≡ suc n = omega arith in rw i refl

is_three : (n a : ℕ) → n ≡ a → a ≤ 3 → nat_lt a 3 ≡ false → n ≡ 3
is_three n a e f g = grind (arith, nat_tests)

next_try : (a : ℕ) → nat_lt a 3 ≡ true → a + 1 ≤ 3
next_try a e = grind (arith, nat_tests)

last_of : (n left all : ℕ) → n + left ≡ all → 1 ≤ left → nat_le left 1 ≡ true → n + 1 ≡ all
last_of n left all e f g = grind (arith, nat_tests)

more_left : (left : ℕ) → nat_le left 1 ≡ false → 1 ≤ left - 1
more_left left e = grind (arith, nat_tests)

one_less : (n left all : ℕ) → n + left ≡ all → 1 ≤ left → n + 1 + (left - 1) ≡ all
one_less n left all e f = omega (arith, e, f)

-- a look more
left_more : (all left : ℕ) (xs : List ℕ) (v : ℕ) → Left all left xs → v ≡ 0 → nat_le left 1 ≡ false → Left all (left - 1) (v ∷ xs)
left_more all left xs v h e more = record { taken = h.taken + 1; sum = one_less h.taken left all h.sum h.some; some = more_left left more; zeros = zero_more xs h.taken v e h.zeros }

left_last : (all left : ℕ) (xs : List ℕ) (v : ℕ) → Left all left xs → v ≡ 0 → nat_le left 1 ≡ true → v ∷ xs ≡ replicate all 0
left_last all left xs v h e is = zero_more xs h.taken v e h.zeros ∙ ap (λ n. replicate n 0) (last_of h.taken left all h.sum h.some is)

first_look : (all : ℕ) → 1 ≤ all → Left all all []
first_look all some = record { taken = 0; sum = omega arith; some = some; zeros = refl }

again : (n : ℕ) (old now : List ℕ) (attempt apic slot : ℕ) → Runs n old now attempt apic slot → nat_lt attempt 3 ≡ true → Runs (n + 1) old now (attempt + 1) apic slot
again n old now attempt apic slot h e = record { tries = ap (λ k. k + 1) h.tries; few = next_try attempt e; grown = h.grown; is_place = h.is_place }

module _ (y : Layout) (t : Trail) (old bound : List ℕ) (ws vs : List Write) (home home2 : ℕ → ℕ → Type 0) (q : Seat) (r : Monarch) (v : ℕ) (some : 1 ≤ y.polls) where
  abbrev Then : Label → Monarch → Type 0
  Then l u = AddTied y (if is_ending l then no_trail else trail_after l v t) (if is_ending l then bound else old) vs home2 u

  row_opens : Deeds y ws vs home home2 bound r N7 v → AddAt y t old ws home r N7 → Then N7 (after_add (looks N8a y.polls r.add) r)
  row_opens d h = (record { tries = h.0.tries; few = h.0.few; grown = h.0.grown; is_place = h.0.is_place }, d.arrived_kept refl h.1, d.flag_kept h.2, refl, first_look y.polls some, refl)

  row_flag : Deeds y ws vs home home2 bound r N8a v → AddAt y t old ws home r N8a → Then N8a (after_add (saw_flag v r.add) r)
  row_flag d h =
      pick_by (λ w. Then N8a (after_add w r)) (v == 1) (AddsAt N9 (record r.add { seen = true })) (AddsAt N8b r.add)
      (λ e. (h.0, d.arrived_kept refl h.1, h.3, (λ s. or_left (is_in 1 (v ∷ t.flags)) (is_in 1 t.pairs) (rw e refl)), λ s. absurd cc))
      (λ e. (h.0, d.arrived_kept refl h.1, d.flag_kept h.2, h.3, subst (Left y.polls r.add.polls) (sym h.5) h.4, let z = is_0 v (byte_at ws flag) (d.flag_read refl) h.2 e in rw z (ap (λ xs. 0 ∷ xs) (sym h.5))))

  row_pair : Deeds y ws vs home home2 bound r N8b v → AddAt y t old ws home r N8b → Then N8b (after_add (saw_pair v r.add) (noted r.add.slot v r))
  row_pair d h =
      pick_by (λ w. Then N8b (after_add w (noted r.add.slot v r))) (v == 1) (AddsAt N9 (record r.add { seen = true })) _
      (λ e. (h.0, d.arrived_kept refl h.1, h.3, (λ s. or_right (is_in 1 t.flags) (is_in 1 (v ∷ t.pairs)) (rw e refl)), λ s. absurd cc))
      (λ e. let z = is_0 v (byte_at ws (arrived_byte y r.add.slot)) (d.pair_read refl) h.1 e in
      pick_by (λ w. Then N8b (after_add w (noted r.add.slot v r))) (is_last_look r.add) (AddsAt N9 (record r.add { seen = false })) (looks N8a (r.add.polls - 1) r.add)
      (λ last. (h.0, d.arrived_kept refl h.1, h.3, (λ s. absurd cc), λ s. (h.5 ∙ left_last y.polls r.add.polls t.pairs 0 h.4 refl last, left_last y.polls r.add.polls t.pairs v h.4 z last)))
      (λ more. (h.0, d.arrived_kept refl h.1, d.flag_kept h.2, h.3, subst (Left y.polls (r.add.polls - 1)) (sym h.5) (left_more y.polls r.add.polls t.pairs 0 h.4 refl more), ap (λ n. n ∷ t.pairs) z ∙ sym h.5)))

  row_shut : Deeds y ws vs home home2 bound r N9 v → AddAt y t old ws home r N9 → Then N9 (after_add (shut r.add) r)
  row_shut d h =
      pick_by (λ w. Then N9 (after_add w r)) r.add.seen (AddsAt N10 r.add) _
      (λ e. (h.0, d.arrived_kept refl h.1, h.2, h.3 e))
      (λ e. pick_by (λ w. Then N9 (after_add w r)) (nat_lt r.add.attempt 3) (AddsAt N0 (record r.add { attempt = r.add.attempt + 1 })) (Ends (outcome.Refused (NotAtGate r.add.cpu r.add.apic)))
      (λ more. again t.opened old r.slots.bound r.add.attempt r.add.apic r.add.slot h.0 more)
      (λ last. record { same_apic = refl; three = is_three t.opened r.add.attempt h.0.tries h.0.few last; flags = (h.4 e).0; pairs = (h.4 e).1 }))

  row_arrival : Deeds y ws vs home home2 bound r N11 v → AddAt y t old ws home r N11 → Then N11 (after_add (saw_arrival v r.add) (noted r.add.slot v r))
  row_arrival d h =
      pick_by (λ w. Then N11 (after_add w (noted r.add.slot v r))) (v == 1) (Ends (outcome.Added r.add.cpu r.add.apic r.add.slot)) _
      (λ e. record { same_cpu = refl; same_apic = refl; same_slot = refl; grown = h.0.grown; is_place = h.0.is_place; arrived = e; entered = h.2; there = d.stays_home refl (h.5 (sym (d.arrived_read refl) ∙ eqb-true v 1 e)) })
      (λ e. let z = is_0 v (byte_at ws (arrived_byte y r.add.slot)) (d.arrived_read refl) h.1 e in
      pick_by (λ w. Then N11 (after_add w (noted r.add.slot v r))) (is_last_look r.add) _ (looks N11 (r.add.polls - 1) r.add)
      (λ last. pick_by (λ w. Then N11 (after_add w (noted r.add.slot v r))) (nat_lt r.add.attempt 3) (AddsAt N0 (record r.add { attempt = r.add.attempt + 1 })) (Ends (outcome.Refused (NotCheckedIn r.add.cpu r.add.apic)))
      (λ more. again t.opened old r.slots.bound r.add.attempt r.add.apic r.add.slot h.0 more)
      (λ most. record { same_apic = refl; three = is_three t.opened r.add.attempt h.0.tries h.0.few most; seen = h.3; arrivals = left_last y.polls r.add.polls t.arrivals v h.4 z last }))
      (λ more. (h.0, d.arrived_kept refl h.1, h.2, h.3, left_more y.polls r.add.polls t.arrivals v h.4 z more, λ one. d.stays_home refl (h.5 (sym (d.looked_at refl) ∙ one)))))

  add_look : (l : Label) (polls : ℕ) (o : Option ℕ) (u : Monarch) → Then l (look_at polls o u)
  add_look l polls None u = tt
  add_look l polls (Some slot) u = tt

  -- each row
  pub row_add : (l : Label) → handler_of l ≡ Monarchs → r.label ≡ l → Deeds y ws vs home home2 bound r l v → AddAt y t old ws home r l → Then l (next_at y q r l v).monarch
  row_add S0 mine is d h = pick (Then S0) (nat_lt 1 (length r.slots.bound)) (record r { label = S1; slot = 1 }) (at_label S2 r) tt tt
  row_add S1 mine is d h = pick (Then S1) (nat_lt (r.slot + 1) (length r.slots.bound)) (record r { label = S1; slot = r.slot + 1 }) (at_label S2 r) tt tt
  row_add S2 mine is d h = add_look S2 y.polls (known_from r.slots 1) r
  row_add S3 mine is d h =
      pick (Then S3) ((v == 1) || nat_le r.polls 1) _ (record (noted r.slot v r) { polls = r.polls - 1 }) (add_look S3 y.polls (known_from r.slots (r.slot + 1)) (noted r.slot v r)) (subst (AddAt y _ old vs home2 (record (noted r.slot v r) { polls = r.polls - 1 })) (sym is) tt)
  row_add S4 mine is d h = pick (Then S4) (v == 4) (record r { label = C1; collection = collection_start; taken = 0 }) (at_label E5 r) tt tt
  row_add C1 mine is d h = tt
  row_add C2 mine is d h = tt
  row_add C3 mine is d h = add_found y bound vs home2 y.apics y.count v r (d.is_bound refl)
  row_add C4 mine is d h = add_judged y bound vs home2 y.apics y.count v r (d.is_bound refl)
  row_add C5 mine is d h = tt
  row_add C6 mine is d h = add_processor y bound vs home2 y.apics y.count (record r.collection { reports = r.collection.reports ++ record { cpu = r.collection.cpu; status = r.collection.status; apic = v } ∷ [] }) r (d.is_bound refl)
  row_add NB mine is d h = record { tries = ap (λ n. n + 1) h.0; few = omega arith; grown = h.1; is_place = h.2 }
  row_add N0 mine is d h = (h, inl (d.arrived_cleared refl))
  row_add N1 mine is d h = (h.0, d.arrived_kept refl h.1, inl (d.flag_cleared refl))
  row_add N2 mine is d h = (h.0, d.arrived_kept refl h.1, d.flag_kept h.2)
  row_add N3 mine is d h = (h.0, d.arrived_kept refl h.1, d.flag_kept h.2)
  row_add N4 mine is d h = (h.0, d.arrived_kept refl h.1, d.flag_kept h.2)
  row_add N5 mine is d h = (h.0, d.arrived_kept refl h.1, d.flag_kept h.2)
  row_add N6 mine is d h = (h.0, d.arrived_kept refl h.1, d.flag_kept h.2)
  row_add N7 mine is d h = row_opens d h
  row_add N8a mine is d h = row_flag d h
  row_add N8b mine is d h = row_pair d h
  row_add N9 mine is d h = row_shut d h
  row_add N10 mine is d h = (h.0, d.arrived_kept refl h.1, h.2, h.3, first_look y.polls some, λ one. absurd (let zero : byte_at vs (arrived_byte y r.add.slot) ≡ 0 = d.cleared_again refl in let both = sym zero ∙ one in cc))
  row_add N11 mine is d h = row_arrival d h
  row_add E0 mine is d h = tt
  row_add E1 mine is d h = tt
  row_add E2 mine is d h = pick (λ w. Then E2 (after_eject w r)) (v == 1) (EjectsAt E4a r.eject) _ tt (pick (λ w. Then E2 (after_eject w r)) (nat_le r.eject.polls 1) (EjectsAt E3 r.eject) (awaits (r.eject.polls - 1) r.eject) tt tt)
  row_add E3 mine is d h = tt
  row_add E4a mine is d h = tt
  row_add E4b mine is d h = pick (λ m. Then E4b (at_label m r)) y.late E4f E4c tt tt
  row_add E4c mine is d h = tt
  row_add E4d mine is d h = tt
  row_add E4e mine is d h = tt
  row_add E4f mine is d h = tt
  row_add E4g mine is d h = pick (λ w. Then E4g (after_eject w r)) (bit_and v 0x10 == 0x10) (EjectsAt E4h (record r.eject { status = v })) (EjectsAt E4c r.eject) tt tt
  row_add E4h mine is d h = tt
  row_add T mine is d h = add_report y bound vs home2 y.apics (after_tell r.outcome r) (told_bound r.outcome r ∙ d.is_bound refl)
  row_add E5 mine is d h = pick (Then E5) (nat_lt 1 (length r.slots.bound)) (record r { label = E6; slot = 1 }) (at_label E7 r) tt tt
  row_add E6 mine is d h = pick (Then E6) (nat_lt (r.slot + 1) (length r.slots.bound)) (record r { label = E6; slot = r.slot + 1 }) (at_label E7 r) tt tt
  row_add E7 mine is d h = subst (AddAt y _ old vs home2 r) (sym is) tt
  row_add _ mine is d h = absurd cc

-- where its label needs nothing nothing is tied
pub add_resting : (y : Layout) (t : Trail) (old : List ℕ) (ws : List Write) (home : ℕ → ℕ → Type 0) (r : Monarch) (l : Label) → need_of l ≡ Nothing → AddAt y t old ws home r l
add_resting y t old ws home r F1 e = tt
add_resting y t old ws home r R1 e = tt
add_resting y t old ws home r R2 e = tt
add_resting y t old ws home r R3 e = tt
add_resting y t old ws home r R4 e = tt
add_resting y t old ws home r R5 e = tt
add_resting y t old ws home r R6 e = tt
add_resting y t old ws home r S0 e = tt
add_resting y t old ws home r S1 e = tt
add_resting y t old ws home r S2 e = tt
add_resting y t old ws home r S3 e = tt
add_resting y t old ws home r S4 e = tt
add_resting y t old ws home r C1 e = tt
add_resting y t old ws home r C2 e = tt
add_resting y t old ws home r C3 e = tt
add_resting y t old ws home r C4 e = tt
add_resting y t old ws home r C5 e = tt
add_resting y t old ws home r C6 e = tt
add_resting y t old ws home r E5 e = tt
add_resting y t old ws home r E6 e = tt
add_resting y t old ws home r E7 e = tt
add_resting y t old ws home r _ e = absurd cc

told_still : (polls : ℕ) (t : Trail) (old now : List ℕ) (home home2 : ℕ → ℕ → Type 0) (a : Add) (o : Outcome) → ((cpu slot : ℕ) → home cpu slot → home2 cpu slot) → Told polls t old now home a o → Told polls t old now home2 a o
told_still polls t old now home home2 a (outcome.Added cpu apic slot) j h = record { same_cpu = h.same_cpu; same_apic = h.same_apic; same_slot = h.same_slot; grown = h.grown; is_place = h.is_place; arrived = h.arrived; entered = h.entered; there = j cpu slot h.there }
told_still polls t old now home home2 a (outcome.Ejected cpu apic slot) j h = h
told_still polls t old now home home2 a (outcome.Refused why) j h = h

-- other steps leave the two bytes 0 or 1
pub add_still : (y : Layout) (t : Trail) (old : List ℕ) (ws vs : List Write) (home home2 : ℕ → ℕ → Type 0) (r : Monarch) (l : Label) → (IsBit ws flag → IsBit vs flag) → (is_among l adding ≡ true → IsBit ws (arrived_byte y r.add.slot) → IsBit vs (arrived_byte y r.add.slot))
    → (is_among l (N11 ∷ []) ≡ true → (byte_at ws (arrived_byte y r.add.slot) ≡ 1 → home r.add.cpu r.add.slot) → byte_at vs (arrived_byte y r.add.slot) ≡ 1 → home2 r.add.cpu r.add.slot)
    → (is_among l (T ∷ []) ≡ true → (cpu slot : ℕ) → home cpu slot → home2 cpu slot) → AddAt y t old ws home r l → AddAt y t old vs home2 r l
add_still y t old ws vs home home2 r N1 f g i j h = (h.0, g refl h.1)
add_still y t old ws vs home home2 r N2 f g i j h = (h.0, g refl h.1, f h.2)
add_still y t old ws vs home home2 r N3 f g i j h = (h.0, g refl h.1, f h.2)
add_still y t old ws vs home home2 r N4 f g i j h = (h.0, g refl h.1, f h.2)
add_still y t old ws vs home home2 r N5 f g i j h = (h.0, g refl h.1, f h.2)
add_still y t old ws vs home home2 r N6 f g i j h = (h.0, g refl h.1, f h.2)
add_still y t old ws vs home home2 r N7 f g i j h = (h.0, g refl h.1, f h.2)
add_still y t old ws vs home home2 r N8a f g i j h = (h.0, g refl h.1, f h.2, h.3, h.4, h.5)
add_still y t old ws vs home home2 r N8b f g i j h = (h.0, g refl h.1, f h.2, h.3, h.4, h.5)
add_still y t old ws vs home home2 r N9 f g i j h = (h.0, g refl h.1, h.2, h.3, h.4)
add_still y t old ws vs home home2 r N10 f g i j h = (h.0, g refl h.1, h.2, h.3)
add_still y t old ws vs home home2 r N11 f g i j h = (h.0, g refl h.1, h.2, h.3, h.4, i refl h.5)
add_still y t old ws vs home home2 r T f g i j h = told_still y.polls t old r.slots.bound home home2 r.add r.outcome (j refl) h
add_still y t old ws vs home home2 r _ f g i j h = h

look_apic : (polls : ℕ) (o : Option ℕ) (u : Monarch) → (look_at polls o u).add.apic ≡ u.add.apic
look_apic polls None u = refl
look_apic polls (Some slot) u = refl

-- but where a row ends an outcome's entries, the add's APIC ID stays
pub apic_stays : (y : Layout) (q : Seat) (r : Monarch) (l : Label) (v : ℕ) → handler_of l ≡ Monarchs → is_ending l ≡ false → (next_at y q r l v).monarch.add.apic ≡ r.add.apic
apic_stays y q r S0 v mine e = pick (λ (u : Monarch). u.add.apic ≡ r.add.apic) (nat_lt 1 (length r.slots.bound)) (record r { label = S1; slot = 1 }) (at_label S2 r) refl refl
apic_stays y q r S1 v mine e = pick (λ (u : Monarch). u.add.apic ≡ r.add.apic) (nat_lt (r.slot + 1) (length r.slots.bound)) (record r { label = S1; slot = r.slot + 1 }) (at_label S2 r) refl refl
apic_stays y q r S2 v mine e = look_apic y.polls (known_from r.slots 1) r
apic_stays y q r S3 v mine e = pick (λ (u : Monarch). u.add.apic ≡ r.add.apic) ((v == 1) || nat_le r.polls 1) _ (record (noted r.slot v r) { polls = r.polls - 1 }) (look_apic y.polls (known_from r.slots (r.slot + 1)) (noted r.slot v r)) refl
apic_stays y q r S4 v mine e = pick (λ (u : Monarch). u.add.apic ≡ r.add.apic) (v == 4) (record r { label = C1; collection = collection_start; taken = 0 }) (at_label E5 r) refl refl
apic_stays y q r NB v mine e = (adds_on y q r NB v refl).apic
apic_stays y q r N0 v mine e = (adds_on y q r N0 v refl).apic
apic_stays y q r N1 v mine e = (adds_on y q r N1 v refl).apic
apic_stays y q r N2 v mine e = (adds_on y q r N2 v refl).apic
apic_stays y q r N3 v mine e = (adds_on y q r N3 v refl).apic
apic_stays y q r N4 v mine e = (adds_on y q r N4 v refl).apic
apic_stays y q r N5 v mine e = (adds_on y q r N5 v refl).apic
apic_stays y q r N6 v mine e = (adds_on y q r N6 v refl).apic
apic_stays y q r N7 v mine e = (adds_on y q r N7 v refl).apic
apic_stays y q r N8a v mine e = (adds_on y q r N8a v refl).apic
apic_stays y q r N8b v mine e = (adds_on y q r N8b v refl).apic
apic_stays y q r N9 v mine e = (adds_on y q r N9 v refl).apic
apic_stays y q r N10 v mine e = (adds_on y q r N10 v refl).apic
apic_stays y q r N11 v mine e = (adds_on y q r N11 v refl).apic
apic_stays y q r E0 v mine e = refl
apic_stays y q r E1 v mine e = refl
apic_stays y q r E2 v mine e = pick (λ w. (after_eject w r).add.apic ≡ r.add.apic) (v == 1) (EjectsAt E4a r.eject) _ refl (pick (λ w. (after_eject w r).add.apic ≡ r.add.apic) (nat_le r.eject.polls 1) (EjectsAt E3 r.eject) (awaits (r.eject.polls - 1) r.eject) refl refl)
apic_stays y q r E3 v mine e = refl
apic_stays y q r E4a v mine e = refl
apic_stays y q r E4b v mine e = refl
apic_stays y q r E4c v mine e = refl
apic_stays y q r E4d v mine e = refl
apic_stays y q r E4e v mine e = refl
apic_stays y q r E4f v mine e = refl
apic_stays y q r E4g v mine e = pick (λ w. (after_eject w r).add.apic ≡ r.add.apic) (bit_and v 0x10 == 0x10) (EjectsAt E4h (record r.eject { status = v })) (EjectsAt E4c r.eject) refl refl
apic_stays y q r E4h v mine e = refl
apic_stays y q r E5 v mine e = pick (λ (u : Monarch). u.add.apic ≡ r.add.apic) (nat_lt 1 (length r.slots.bound)) (record r { label = E6; slot = 1 }) (at_label E7 r) refl refl
apic_stays y q r E6 v mine e = pick (λ (u : Monarch). u.add.apic ≡ r.add.apic) (nat_lt (r.slot + 1) (length r.slots.bound)) (record r { label = E6; slot = r.slot + 1 }) (at_label E7 r) refl refl
apic_stays y q r E7 v mine e = refl
apic_stays y q r _ v mine e = absurd cc

-- and where it does, the bound APIC IDs are those of the entries
pub ending_bound : (B : List ℕ) (S : Session) (r : Monarch) (l : Label) → handler_of l ≡ Monarchs → is_ending l ≡ true → TiedAt B S r (tie_of l) → (r.slots.bound ≡ B) × ((index_of l == 19) ≡ false)
ending_bound B S r C1 mine e h = (h.0, refl)
ending_bound B S r C2 mine e h = (h.0, refl)
ending_bound B S r C3 mine e h = (h.0, refl)
ending_bound B S r C4 mine e h = (h.0, refl)
ending_bound B S r C5 mine e h = (h.0, refl)
ending_bound B S r C6 mine e h = (h.0, refl)
ending_bound B S r T mine e h = (h.0, refl)
ending_bound B S r _ mine e h = absurd cc

-- while an add runs its slot is one that a processor may get
pub adding_slot : (f : Needed) (l : Label) → is_among l adding ≡ true → MonarchNeeds f (need_of l) → IsSlot f.count f.slot
adding_slot f NB e h = h.0
adding_slot f N0 e h = h.0
adding_slot f N1 e h = h.0
adding_slot f N2 e h = h.0
adding_slot f N3 e h = h.0
adding_slot f N4 e h = h.0
adding_slot f N5 e h = h.0
adding_slot f N6 e h = h.0
adding_slot f N7 e h = h.0
adding_slot f N8a e h = h.0
adding_slot f N8b e h = h.0
adding_slot f N9 e h = h.0
adding_slot f N10 e h = h.0
adding_slot f N11 e h = h.0
adding_slot f _ e h = absurd cc

pub adding_needs : (l : Label) → is_among l adding ≡ true → need_of l ≡ Nothing → ⊥
adding_needs F1 e f = cc
adding_needs _ e f = cc
