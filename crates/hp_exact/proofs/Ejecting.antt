-- What the entries of an outcome tell of an eject so far: how often its parked byte was looked at, and what its status byte was.
use Rattle.std.proofs.Common.{ℕ, suc, ◌≡◌, ◌+◌, ◌-◌, ◌≤◌, ◌==◌, Bool, true, false, not, ◌&&◌, ◌||◌, nat_lt, nat_le, List, [], ◌∷◌, ◌++◌, length, drop, replicate, Option, Some, None, bit_and, refl, sym, ap, subst, ◌∙◌, arith, if◌then◌else◌}
use Rattle.std.specs.List.{list_all}
use Rattle.std.specs.Str.{bytes_eq}
use Rattle.std.proofs.lemmas.Bool.{and_parts}
use Rattle.std.proofs.lemmas.Bool.Decides.{nat_tests}
use Rattle.std.proofs.lemmas.Slice.Eq.{bytes_eq-Decides}
use Rattle.hp_model.specs.declared.platforms.Platform.{Platform}
use Rattle.hp_model.specs.declared.labels.Label.{Label}
use Rattle.hp_model.specs.declared.labels.Label.TheVariants.{F1, F2, F3, F4, F5, F6, R1, R2, R3, R4, R5, R6, S0, S1, S2, S3, S4, C1, C3, C4, C5, C6, N8a, N8b, N9, N11, E0, E1, E2, E3, E4a, E4b, E4c, E4e, E4f, E4g, E4h, T, E5, E6, E7}
use Rattle.hp_model.specs.declared.outcomes.Outcome.{Outcome}
use Rattle.hp_model.specs.declared.outcomes.Outcome.TheVariants.{Added, Ejected, Refused}
use Rattle.hp_model.specs.declared.outcomes.Refusal.{Refusal}
use Rattle.hp_model.specs.declared.outcomes.Refusal.TheVariants.{Disabled, Both, AlreadyKnown, GateHeld, NotAtGate, NotCheckedIn, NoUnplug, NotKnown, NotArrived, NotParked, Foreign, StillPending}
use Rattle.hp_model.specs.declared.entries.Entry.{Entry}
use Rattle.hp_model.specs.Platform.{count_of, is_late}
use Rattle.hp_model.specs.Memory.{Write, byte_at}
use Rattle.hp_model.specs.Block.{is_in}
use Rattle.hp_model.specs.declared.labels.Handler.TheVariants.{Monarch as Monarchs}
use Rattle.hp_model.specs.Labels.{handler_of}
use Rattle.hp_model.specs.SharedBytes.{layout_of, parked_byte}
use Rattle.hp_model.specs.Slots.{known_from}
use Rattle.hp_model.specs.declared.reports.Report.{Report}
use Rattle.hp_model.specs.Collection.{Collection, CollectNext, CollectsAt, CollectEnds, collection_start, next_processor}
use Rattle.hp_model.specs.Add.{AddNext, Ends, failed, is_last_look}
use Rattle.hp_model.specs.Eject.{EjectsAt}
use Rattle.hp_model.specs.declared.reports.Facts.{Facts}
use Rattle.hp_model.specs.declared.reports.Decision.{Decision}
use Rattle.hp_model.specs.declared.reports.Decision.TheVariants.{Tell as ToTell, Add as ToAdd, Eject as ToEject}
use Rattle.hp_model.specs.Monarch.{Monarch, is_own, decision, held_decision, facts_of, at_label, look_at, noted, took, answered, taken_up, next_report, after_collection, after_tell, after_add, after_eject}
use Rattle.hp_model.specs.Handlers.{Seat, next_at}
use Rattle.hp_model.specs.Outcomes.{values_at, reads_zeros, is_still_pending}
use Rattle.hp_sealed.proofs.Left.{pick, pick_by}
use Rattle.hp_exact.proofs.Monarchs.{is_among}
use Rattle.hp_exact.proofs.Reports.{all_drop}

-- what is told of an eject shows in its own entries, as far as these say what was read
abbrev pub shows_reads_of : Platform → List Entry → Refusal → Bool
shows_reads_of p own (Disabled cpu status) = true
shows_reads_of p own (Both cpu status) = true
shows_reads_of p own (AlreadyKnown cpu apic slot) = true
shows_reads_of p own (GateHeld cpu apic other) = true
shows_reads_of p own (NotAtGate cpu apic) = true
shows_reads_of p own (NotCheckedIn cpu apic) = true
shows_reads_of p own (NoUnplug cpu features) = true
shows_reads_of p own (NotKnown cpu apic) = true
shows_reads_of p own (NotArrived cpu apic) = true
shows_reads_of p own (NotParked cpu apic) = reads_zeros p E2 own
shows_reads_of p own (Foreign cpu apic) = true
shows_reads_of p own (StillPending cpu status) = is_still_pending p status own

abbrev pub shows_reads : Platform → List Entry → Outcome → Bool
shows_reads p own (Added cpu apic slot) = true
shows_reads p own (Ejected cpu apic slot) = true
shows_reads p own (Refused why) = shows_reads_of p own why

-- what an undisturbed session may tell
abbrev pub may_refuse : Refusal → Bool
may_refuse (Disabled cpu status) = true
may_refuse (Both cpu status) = true
may_refuse (AlreadyKnown cpu apic slot) = true
may_refuse (GateHeld cpu apic other) = true
may_refuse (NotAtGate cpu apic) = true
may_refuse (NotCheckedIn cpu apic) = true
may_refuse (NoUnplug cpu features) = true
may_refuse (NotKnown cpu apic) = true
may_refuse (NotArrived cpu apic) = true
may_refuse (NotParked cpu apic) = true
may_refuse (Foreign cpu apic) = false
may_refuse (StillPending cpu status) = false

abbrev pub may_tell : Outcome → Bool
may_tell (Added cpu apic slot) = true
may_tell (Ejected cpu apic slot) = true
may_tell (Refused why) = may_refuse why

-- so many looks have read 0, and so many are left
pub record Looked (p : Platform) (own : List Entry) (polls : ℕ) : Type 0 where
  pub looks : ℕ
  pub zeros : values_at p E2 own ≡ replicate looks 0
  pub all : looks + polls ≡ p.polls
  pub some : 1 ≤ polls

-- the eject's parked byte is 0 or 1
abbrev pub IsBit : Platform → List Write → ℕ → Type 0
IsBit p ws slot = byte_at ws (parked_byte (layout_of p) slot) ≤ 1

-- by the label at which the monarch stands
abbrev pub SaidAt : Platform → List Entry → Bool → List Write → Monarch → Label → Type 0
SaidAt p own d ws r E0 = values_at p E2 own ≡ []
SaidAt p own d ws r E1 = (values_at p E2 own ≡ []) × IsBit p ws r.eject.slot
SaidAt p own d ws r E2 = Looked p own r.eject.polls × IsBit p ws r.eject.slot
SaidAt p own d ws r E3 = values_at p E2 own ≡ replicate p.polls 0
SaidAt p own d ws r E4h = is_still_pending p r.eject.status own ≡ true
SaidAt p own d ws r T = (shows_reads p own r.outcome ≡ true) × (d ≡ false → may_tell r.outcome ≡ true)
SaidAt p own d ws r _ = Unit {0}

-- the report of a told outcome is a processor's own, where the session is undisturbed
abbrev pub Owns : Platform → Bool → Monarch → Type 0
Owns p d r = is_among r.label (T ∷ []) ≡ true → d ≡ false → list_all (is_own p.apic) r.collection.reports ≡ true

-- what a decision tells
abbrev judges : (Outcome → Bool) → Decision → Bool
judges f (ToTell o) = f o
judges f ToAdd = true
judges f ToEject = true

decision_shows : (p : Platform) (own : List Entry) (f : Facts) (t : Report) → judges (shows_reads p own) (decision f t) ≡ true
decision_shows p own f t =
    let g = λ (c : Decision). judges (shows_reads p own) c ≡ true in
    pick g (not f.own) _ _ refl
    (pick g (not (bit_and t.status 1 == 1)) _ _ refl
    (pick g (bit_and t.status 0x12 == 0x12) _ _ refl
    (pick g (bit_and t.status 2 == 2) _ _ (pick g f.known _ _ refl (by_held f.held))
    (pick g (not (bit_and f.features 4 == 4)) _ _ refl (pick g (not f.known) _ _ refl (pick g (f.look == 0) _ _ refl refl))))))
  where
    by_held : (o : Option ℕ) → judges (shows_reads p own) (held_decision o t) ≡ true
    by_held None = refl
    by_held (Some a) = pick (λ (c : Decision). judges (shows_reads p own) c ≡ true) (a == t.apic) _ _ refl refl

decision_may : (f : Facts) (t : Report) → f.own ≡ true → judges may_tell (decision f t) ≡ true
decision_may f t own =
    let g = λ (c : Decision). judges may_tell c ≡ true in
    pick_by g (not f.own) _ _ (λ e. absurd (let n : not f.own ≡ false = rw own refl in let both : true ≡ false = sym e ∙ n in cc))
    (λ _. pick g (not (bit_and t.status 1 == 1)) _ _ refl
    (pick g (bit_and t.status 0x12 == 0x12) _ _ refl
    (pick g (bit_and t.status 2 == 2) _ _ (pick g f.known _ _ refl (by_held f.held))
    (pick g (not (bit_and f.features 4 == 4)) _ _ refl (pick g (not f.known) _ _ refl (pick g (f.look == 0) _ _ refl refl))))))
  where
    by_held : (o : Option ℕ) → judges may_tell (held_decision o t) ≡ true
    by_held None = refl
    by_held (Some a) = pick (λ (c : Decision). judges may_tell c ≡ true) (a == t.apic) _ _ refl refl

same_list : (xs ys : List ℕ) → xs ≡ ys → bytes_eq xs ys ≡ true
same_list xs ys e = (bytes_eq-Decides xs ys).1 e

module _ (p : Platform) (own : List Entry) (d : Bool) (ws : List Write) where
  abbrev Then : Monarch → Type 0
  Then m = Owns p d m → SaidAt p own d ws m m.label

  said_look : (polls : ℕ) (k : Option ℕ) (r : Monarch) → Then (look_at polls k r)
  said_look polls (Some slot) r = λ owns. tt
  said_look polls None r = λ owns. tt

  -- the next report
  said_next : (r : Monarch) → values_at p E2 own ≡ [] → Then (next_report p.apic r)
  said_next r none = by_reports (drop r.taken r.collection.reports) refl
    where
      first_own : (t : Report) (ts : List Report) → drop r.taken r.collection.reports ≡ t ∷ ts → list_all (is_own p.apic) r.collection.reports ≡ true → is_own p.apic t ≡ true
      first_own t ts is all = (and_parts (is_own p.apic t) (list_all (is_own p.apic) ts) (subst (λ xs. list_all (is_own p.apic) xs ≡ true) is (all_drop (is_own p.apic) r.taken r.collection.reports all))).0

      by_decision : (t : Report) (ts : List Report) (c : Decision) → drop r.taken r.collection.reports ≡ t ∷ ts → decision (facts_of p.apic r t) t ≡ c → Then (answered c t (took r))
      by_decision t ts (ToTell o) is judged = λ owns. (
        subst (λ c. judges (shows_reads p own) c ≡ true) judged (decision_shows p own (facts_of p.apic r t) t),
        λ quiet. subst (λ c. judges may_tell c ≡ true) judged (decision_may (facts_of p.apic r t) t (first_own t ts is (owns refl quiet))),
      )
      by_decision t ts ToAdd is judged = λ owns. tt
      by_decision t ts ToEject is judged = λ owns. none

      by_reports : (xs : List Report) → drop r.taken r.collection.reports ≡ xs → Then (taken_up p.apic xs r)
      by_reports [] is = λ owns. tt
      by_reports (t ∷ ts) is = by_decision t ts (decision (facts_of p.apic r t) t) is refl

  abbrev Led2 : Monarch → CollectNext → Type 0
  Led2 r w = Then (after_collection p.apic w r)

  said_processor : (n : ℕ) (r : Monarch) (c : Collection) → values_at p E2 own ≡ [] → Led2 r (next_processor n c)
  said_processor n r c none = pick (Led2 r) (nat_lt (c.cpu + 1) n) (CollectsAt C1 (record c { cpu = c.cpu + 1 })) (CollectEnds (record c { cpu = c.cpu + 1 })) (λ owns. tt) (said_next (record r { collection = record c { cpu = c.cpu + 1 } }) none)

  abbrev Leads : Monarch → List ℕ → AddNext → Type 0
  Leads r last w = Then (after_add w (record r { last = last }))

  said_failed : (r : Monarch) (last : List ℕ) (why : Refusal) → shows_reads_of p own why ≡ true → may_refuse why ≡ true → Leads r last (failed (Refused why) r.add)
  said_failed r last why shows may = pick (Leads r last) (nat_lt r.add.attempt 3) _ (Ends (Refused why)) (λ owns. tt) (λ owns. (shows, λ quiet. may))

-- what a row does: with own2, d2 and ws2 after it
pub record Says (p : Platform) (own own2 : List Entry) (d2 : Bool) (ws ws2 : List Write) (r : Monarch) (l : Label) (v : ℕ) : Type 0 where
  pub anew : is_among l (C3 ∷ C4 ∷ C6 ∷ T ∷ []) ≡ true → values_at p E2 own2 ≡ []
  pub same : is_among l (E0 ∷ E1 ∷ E3 ∷ []) ≡ true → values_at p E2 own2 ≡ values_at p E2 own
  pub reads : l ≡ E2 → values_at p E2 own2 ≡ v ∷ values_at p E2 own
  pub bit : l ≡ E2 → IsBit p ws r.eject.slot → v ≤ 1
  pub still : is_among l (E1 ∷ E2 ∷ []) ≡ true → byte_at ws2 (parked_byte (layout_of p) r.eject.slot) ≡ byte_at ws (parked_byte (layout_of p) r.eject.slot)
  pub zeroed : l ≡ E0 → byte_at ws2 (parked_byte (layout_of p) r.eject.slot) ≡ 0
  pub sees : l ≡ E4g → values_at p E4g own2 ≡ v ∷ values_at p E4g own
  pub waits : l ≡ E4h → values_at p E4g own2 ≡ values_at p E4g own
  pub never : l ≡ E4h → d2 ≡ false → ⊥

module _ (p : Platform) (own own2 : List Entry) (d d2 : Bool) (ws ws2 : List Write) (q : Seat) (r : Monarch) (v : ℕ) (before : SaidAt p own d ws r r.label) (polled : 1 ≤ p.polls) where
  abbrev Now : Monarch → Type 0
  Now m = Owns p d2 m → SaidAt p own2 d2 ws2 m m.label

  -- what is said at its label
  here : (l : Label) → r.label ≡ l → SaidAt p own d ws r l
  here l is = subst (SaidAt p own d ws r) is before

  -- a look at the parked byte
  looks_once : (h : Looked p own r.eject.polls) → Says p own own2 d2 ws ws2 r E2 v → IsBit p ws r.eject.slot → (b : Bool) → (v == 1) ≡ b → v ≤ 1 → Now (after_eject (if v == 1 then EjectsAt E4a r.eject else if nat_le r.eject.polls 1 then EjectsAt E3 r.eject else EjectsAt E2 (record r.eject { polls = r.eject.polls - 1 })) r)
  looks_once h says bit true is small = rw is (λ owns. tt)
  looks_once h says bit false is small =
      let zero_v : v ≡ 0 = zero_of v is small in
      let read : values_at p E2 own2 ≡ replicate (suc h.looks) 0 = says.reads refl ∙ (ap (λ n. n ∷ values_at p E2 own) zero_v ∙ ap (λ xs. 0 ∷ xs) h.zeros) in
      rw is (pick_by (λ w. Now (after_eject w r)) (nat_le r.eject.polls 1) (EjectsAt E3 r.eject) (EjectsAt E2 (record r.eject { polls = r.eject.polls - 1 }))
      (λ last owns. read ∙ ap (λ n. replicate n 0) (last_of h.looks r.eject.polls p.polls h.all h.some last))
      (λ more owns. (record { looks = suc h.looks; zeros = read; all = more_of h.looks r.eject.polls p.polls h.all more; some = some_of r.eject.polls more }, let k = says.still refl in omega (arith, k, bit))))
    where
      zero_of : (n : ℕ) → (n == 1) ≡ false → n ≤ 1 → n ≡ 0
      zero_of n e f = grind (arith, nat_tests)

      last_of : (k n m : ℕ) → k + n ≡ m → 1 ≤ n → nat_le n 1 ≡ true → suc k ≡ m
      last_of k n m e f g = grind (arith, nat_tests)

      more_of : (k n m : ℕ) → k + n ≡ m → nat_le n 1 ≡ false → suc k + (n - 1) ≡ m
      more_of k n m e g = grind (arith, nat_tests)

      some_of : (n : ℕ) → nat_le n 1 ≡ false → 1 ≤ n - 1
      some_of n g = grind (arith, nat_tests)

  seen : (n : ℕ) (xs : List ℕ) (b : Bool) → xs ≡ n ∷ values_at p E4g own → (bit_and n 0x10 == 0x10) ≡ true → (is_in n xs && (bit_and n 0x10 == 0x10)) ≡ true
  seen n xs b e f = rw (e, f, same n) refl
    where
      same : (n : ℕ) → (n == n) ≡ true
      same n = grind (arith, nat_tests)

  pub said_row : (l : Label) → handler_of l ≡ Monarchs → r.label ≡ l → Says p own own2 d2 ws ws2 r l v → Now (next_at (layout_of p) q r l v).monarch
  said_row F1 mine is says = absurd cc
  said_row F2 mine is says = absurd cc
  said_row F3 mine is says = absurd cc
  said_row F4 mine is says = absurd cc
  said_row F5 mine is says = absurd cc
  said_row F6 mine is says = absurd cc
  said_row R1 mine is says = absurd cc
  said_row R2 mine is says = absurd cc
  said_row R3 mine is says = absurd cc
  said_row R4 mine is says = absurd cc
  said_row R5 mine is says = absurd cc
  said_row R6 mine is says = absurd cc
  said_row S0 mine is says = pick Now (nat_lt 1 (length r.slots.bound)) (record r { label = S1; slot = 1 }) (at_label S2 r) (λ owns. tt) (λ owns. tt)
  said_row S1 mine is says = pick Now (nat_lt (r.slot + 1) (length r.slots.bound)) (record r { label = S1; slot = r.slot + 1 }) (at_label S2 r) (λ owns. tt) (λ owns. tt)
  said_row S2 mine is says = said_look p own2 d2 ws2 p.polls (known_from r.slots 1) r
  said_row S3 mine is says = pick Now ((v == 1) || nat_le r.polls 1) _ _ (said_look p own2 d2 ws2 p.polls (known_from r.slots (r.slot + 1)) (noted r.slot v r)) (λ owns. subst (λ m. SaidAt p own2 d2 ws2 (record r { polls = r.polls - 1; last = (noted r.slot v r).last }) m) (sym is) tt)
  said_row S4 mine is says = pick Now (v == 4) (record r { label = C1; collection = collection_start; taken = 0 }) (at_label E5 r) (λ owns. tt) (λ owns. tt)
  said_row C3 mine is says = pick (λ w. Now (after_collection p.apic w r)) (nat_lt v r.collection.cpu || not (nat_lt v (count_of p))) (CollectEnds r.collection) (CollectsAt C4 (record r.collection { cpu = v })) (said_next p own2 d2 ws2 (record r { collection = r.collection }) (says.anew refl)) (λ owns. tt)
  said_row C4 mine is says = pick (λ w. Now (after_collection p.apic w r)) (bit_and v 0x12 == 0) (next_processor (count_of p) r.collection) (CollectsAt C5 (record r.collection { status = v })) (said_processor p own2 d2 ws2 (count_of p) r r.collection (says.anew refl)) (λ owns. tt)
  said_row C6 mine is says = said_processor p own2 d2 ws2 (count_of p) r (record r.collection { reports = r.collection.reports ++ record { cpu = r.collection.cpu; status = r.collection.status; apic = v } ∷ [] }) (says.anew refl)
  said_row N8a mine is says = pick (λ w. Now (after_add w r)) (v == 1) _ _ (λ owns. tt) (λ owns. tt)
  said_row N8b mine is says = pick (λ w. Now (after_add w (noted r.add.slot v r))) (v == 1) _ _ (λ owns. tt) (pick (λ w. Now (after_add w (noted r.add.slot v r))) (is_last_look r.add) _ _ (λ owns. tt) (λ owns. tt))
  said_row N9 mine is says = pick (λ w. Now (after_add w r)) r.add.seen _ _ (λ owns. tt) (said_failed p own2 d2 ws2 r r.last (NotAtGate r.add.cpu r.add.apic) refl refl)
  said_row N11 mine is says = pick (λ w. Now (after_add w (noted r.add.slot v r))) (v == 1) _ _ (λ owns. (refl, λ quiet. refl)) (pick (λ w. Now (after_add w (noted r.add.slot v r))) (is_last_look r.add) _ _ (said_failed p own2 d2 ws2 r (noted r.add.slot v r).last (NotCheckedIn r.add.cpu r.add.apic) refl refl) (λ owns. tt))
  said_row E0 mine is says = λ owns. (says.same refl ∙ here E0 is, let z = says.zeroed refl in omega (arith, z))
  said_row E1 mine is says = λ owns. (record { looks = 0; zeros = says.same refl ∙ (here E1 is).0; all = omega arith; some = polled }, let k = says.still refl in let b = (here E1 is).1 in omega (arith, k, b))
  said_row E2 mine is says = let h = here E2 is in looks_once h.0 says h.1 (v == 1) refl (says.bit refl h.1)
  said_row E3 mine is says = λ owns. (let e = says.same refl ∙ here E3 is in same_list _ _ e, λ quiet. refl)
  said_row E4b mine is says = pick (λ m. Now (at_label m r)) (is_late p.delivery) E4f E4c (λ owns. tt) (λ owns. tt)
  said_row E4e mine is says = λ owns. (refl, λ quiet. refl)
  said_row E4g mine is says = pick_by (λ w. Now (after_eject w r)) (bit_and v 0x10 == 0x10) (EjectsAt E4h (record r.eject { status = v })) (EjectsAt E4c r.eject) (λ one owns. seen v (values_at p E4g own2) true (says.sees refl) one) (λ _ owns. tt)
  said_row E4h mine is says = λ owns. (let h = here E4h is in let e = says.waits refl in subst (λ xs. (is_in r.eject.status xs && (bit_and r.eject.status 0x10 == 0x10)) ≡ true) (sym e) h, λ quiet. absurd (says.never refl quiet))
  said_row T mine is says = by_told r.outcome
    where
      by_told : (o : Outcome) → Now (next_report p.apic (after_tell o r))
      by_told (Added cpu apic slot) = said_next p own2 d2 ws2 (after_tell (Added cpu apic slot) r) (says.anew refl)
      by_told (Ejected cpu apic slot) = said_next p own2 d2 ws2 (after_tell (Ejected cpu apic slot) r) (says.anew refl)
      by_told (Refused why) = said_next p own2 d2 ws2 r (says.anew refl)
  said_row E5 mine is says = pick Now (nat_lt 1 (length r.slots.bound)) (record r { label = E6; slot = 1 }) (at_label E7 r) (λ owns. tt) (λ owns. tt)
  said_row E6 mine is says = pick Now (nat_lt (r.slot + 1) (length r.slots.bound)) (record r { label = E6; slot = r.slot + 1 }) (at_label E7 r) (λ owns. tt) (λ owns. tt)
  said_row E7 mine is says = λ owns. subst (SaidAt p own2 d2 ws2 r) (sym is) tt
  said_row _ mine is says = λ owns. tt
