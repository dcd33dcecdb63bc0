-- Each row keeps what is said of an eject's processor.
use Rattle.std.proofs.Common.{ℕ, ◌≡◌, ◌+◌, ◌-◌, ◌<◌, ◌==◌, Bool, true, false, not, ◌||◌, nat_lt, nat_le, List, [], ◌∷◌, ◌++◌, length, drop, Option, Some, None, bit_and, refl, sym, ap, subst, ◌∙◌, arith}
use Rattle.std.proofs.lemmas.Bool.{and_from}
use Rattle.std.proofs.lemmas.Bool.Decides.{nat_tests}
use Rattle.hp_model.specs.declared.platforms.Platform.{Platform}
use Rattle.hp_model.specs.declared.processors.Cpu.{Cpu}
use Rattle.hp_model.specs.declared.labels.Label.{Label}
use Rattle.hp_model.specs.declared.labels.Label.TheVariants.{F1, F2, F3, F4, F5, F6, R1, R2, R3, R4, R5, R6, S0, S1, S2, S3, S4, C1, C3, C4, C5, C6, N8a, N8b, N9, N11, E0, E1, E2, E3, E4a, E4b, E4c, E4d, E4e, E4f, E4g, E4h, T, E5, E6, E7}
use Rattle.hp_model.specs.declared.outcomes.Outcome.TheVariants.{Added, Ejected, Refused}
use Rattle.hp_model.specs.declared.outcomes.Refusal.{Refusal}
use Rattle.hp_model.specs.declared.outcomes.Refusal.TheVariants.{NotAtGate, NotCheckedIn}
use Rattle.hp_model.specs.Platform.{count_of, apic_of, is_late}
use Rattle.hp_model.specs.Memory.{Write, byte_at}
use Rattle.hp_model.specs.Cpu.{cpu_at}
use Rattle.hp_model.specs.Block.{is_in}
use Rattle.hp_model.specs.declared.labels.Handler.TheVariants.{Monarch as Monarchs}
use Rattle.hp_model.specs.Labels.{handler_of}
use Rattle.hp_model.specs.SharedBytes.{layout_of, parked_byte}
use Rattle.hp_model.specs.Slots.{slot_among, known_from}
use Rattle.hp_model.specs.declared.reports.Report.{Report}
use Rattle.hp_model.specs.Collection.{Collection, CollectNext, CollectsAt, CollectEnds, collection_start, next_processor}
use Rattle.hp_model.specs.Add.{AddNext, Ends, failed, is_last_look}
use Rattle.hp_model.specs.Eject.{EjectsAt}
use Rattle.hp_model.specs.declared.reports.Facts.{Facts}
use Rattle.hp_model.specs.declared.reports.Decision.{Decision}
use Rattle.hp_model.specs.declared.reports.Decision.TheVariants.{Tell as ToTell, Add as ToAdd, Eject as ToEject}
use Rattle.hp_model.specs.Monarch.{Monarch, decision, held_decision, facts_of, at_label, look_at, noted, ejects, took, answered, taken_up, next_report, after_collection, after_tell, after_add, after_eject}
use Rattle.hp_model.specs.Handlers.{Seat, next_at}
use Rattle.hp_model.specs.Transitions.{Transition}
use Rattle.hp_model.specs.Outcomes.{departures, is_eject_of, is_only}
use Rattle.hp_sealed.specs.Sealed.{Placed}
use Rattle.hp_sealed.proofs.Left.{pick, pick_by}
use Rattle.hp_safety.proofs.FactRows.{known_out}
use Rattle.hp_exact.proofs.Monarchs.{is_among}
use Rattle.hp_exact.proofs.Naming.{own_is}
use Rattle.hp_exact.proofs.EjectTie.{Alone, Parked, PartsAt, IsBoundEject, Waits}

-- a decision begins an eject of a processor's own report, of a known APIC ID, and tells refusals alone
abbrev Begins : Facts → Decision → Type 0
Begins f (ToTell (Added cpu apic slot)) = ⊥
Begins f (ToTell (Ejected cpu apic slot)) = ⊥
Begins f (ToTell (Refused why)) = Unit {0}
Begins f ToAdd = Unit {0}
Begins f ToEject = (f.own ≡ true) × (f.known ≡ true)

decision_begins : (f : Facts) (t : Report) → Begins f (decision f t)
decision_begins f t =
    let g = Begins f in
    pick_by g (not f.own) _ _ (λ _. tt)
    (λ own. pick g (not (bit_and t.status 1 == 1)) _ _ tt
    (pick g (bit_and t.status 0x12 == 0x12) _ _ tt
    (pick g (bit_and t.status 2 == 2) _ _ (pick g f.known _ _ tt (by_held f.held))
    (pick g (not (bit_and f.features 4 == 4)) _ _ tt (pick_by g (not f.known) _ _ (λ _. tt) (λ known. pick g (f.look == 0) _ _ tt (holds f.own own, holds f.known known)))))))
  where
    holds : (b : Bool) → not b ≡ false → b ≡ true
    holds true e = refl
    holds false e = absurd cc

    by_held : (o : Option ℕ) → Begins f (held_decision o t)
    by_held None = tt
    by_held (Some a) = pick (Begins f) (a == t.apic) _ _ tt tt

module _ (p : Platform) (own : List Transition) (d : Bool) (cs : List Cpu) (ws : List Write) where
  abbrev Then : Monarch → Type 0
  Then m = Placed p m.slots → PartsAt p own d cs ws m m.label

  parts_look : (polls : ℕ) (k : Option ℕ) (r : Monarch) → Then (look_at polls k r)
  parts_look polls (Some slot) r = λ placed. tt
  parts_look polls None r = λ placed. tt

  -- the next report
  parts_next : (r : Monarch) → Then (next_report p.apic r)
  parts_next r = by_reports (drop r.taken r.collection.reports)
    where
      eject_bound : (t : Report) → (facts_of p.apic r t).own ≡ true → (facts_of p.apic r t).known ≡ true → Placed p r.slots → IsBoundEject p (ejects t (took r))
      eject_bound t own known placed = let o = own_is p t own in record { own = o.apic; less = o.less; bound = by_test (is_in t.apic r.slots.bound) refl; place = refl }
        where
          by_test : (b : Bool) → is_in t.apic r.slots.bound ≡ b → is_in t.apic r.slots.bound ≡ true
          by_test true is = is
          by_test false is = absurd (let none = known_out p r.slots t.apic placed is in let both : true ≡ false = sym known ∙ none in cc)

      by_decision : (t : Report) (c : Decision) → Begins (facts_of p.apic r t) c → Then (answered c t (took r))
      by_decision t (ToTell (Added cpu apic slot)) h = absurd h
      by_decision t (ToTell (Ejected cpu apic slot)) h = absurd h
      by_decision t (ToTell (Refused why)) h = λ placed. tt
      by_decision t ToAdd h = λ placed. tt
      by_decision t ToEject h = eject_bound t h.0 h.1

      by_reports : (xs : List Report) → Then (taken_up p.apic xs r)
      by_reports [] = λ placed. tt
      by_reports (t ∷ ts) = by_decision t (decision (facts_of p.apic r t) t) (decision_begins (facts_of p.apic r t) t)

  abbrev Collects : Monarch → CollectNext → Type 0
  Collects r w = Then (after_collection p.apic w r)

  parts_processor : (n : ℕ) (r : Monarch) (c : Collection) → Collects r (next_processor n c)
  parts_processor n r c = pick (Collects r) (nat_lt (c.cpu + 1) n) (CollectsAt C1 (record c { cpu = c.cpu + 1 })) (CollectEnds (record c { cpu = c.cpu + 1 })) (λ placed. tt) (parts_next (record r { collection = record c { cpu = c.cpu + 1 } }))

  abbrev Leads : Monarch → List ℕ → AddNext → Type 0
  Leads r last w = Then (after_add w (record r { last = last }))

  parts_failed : (r : Monarch) (last : List ℕ) (why : Refusal) → Leads r last (failed (Refused why) r.add)
  parts_failed r last why = pick (Leads r last) (nat_lt r.add.attempt 3) _ (Ends (Refused why)) (λ placed. tt) (λ placed. tt)

-- what a row does: with own2, d2, cs2 and ws2 after it
pub record Does (p : Platform) (own own2 : List Transition) (d d2 : Bool) (cs cs2 : List Cpu) (ws ws2 : List Write) (r : Monarch) (l : Label) (v : ℕ) : Type 0 where
  pub still : is_among l (E1 ∷ E2 ∷ E4a ∷ []) ≡ true → d2 ≡ false → Parked p r.eject.slot (cpu_at cs r.eject.cpu) → Parked p r.eject.slot (cpu_at cs2 r.eject.cpu)
  pub zeroed : l ≡ E0 → byte_at ws2 (parked_byte (layout_of p) r.eject.slot) ≡ 0
  pub same : is_among l (E1 ∷ E2 ∷ []) ≡ true → byte_at ws2 (parked_byte (layout_of p) r.eject.slot) ≡ byte_at ws (parked_byte (layout_of p) r.eject.slot)
  pub sees : l ≡ E2 → v ≡ 1 → byte_at ws (parked_byte (layout_of p) r.eject.slot) ≡ 1
  pub on : is_among l (E4c ∷ E4d ∷ E4e ∷ E4f ∷ E4g ∷ []) ≡ true → d2 ≡ false → departures p own2 ≡ departures p own
  pub leaves : l ≡ E4b → d2 ≡ false → IsBoundEject p r → Parked p r.eject.slot (cpu_at cs r.eject.cpu) → is_only (is_eject_of p r.eject.cpu r.eject.slot) (departures p own2) ≡ true
  pub quiet : is_among l (E1 ∷ E2 ∷ E4a ∷ E4b ∷ E4c ∷ E4d ∷ E4e ∷ E4f ∷ E4g ∷ []) ≡ true → d2 ≡ false → d ≡ false

one_is : (v : ℕ) → (v == 1) ≡ true → v ≡ 1
one_is v e = grind (arith, nat_tests)

same_number : (m n : ℕ) → m ≡ n → (m == n) ≡ true
same_number m n e = grind (arith, nat_tests)

module _ (p : Platform) (own own2 : List Transition) (d d2 : Bool) (cs cs2 : List Cpu) (ws ws2 : List Write) (q : Seat) (r : Monarch) (v : ℕ) (before : PartsAt p own d cs ws r r.label) where
  abbrev Now : Monarch → Type 0
  Now m = Placed p m.slots → PartsAt p own2 d2 cs2 ws2 m m.label

  -- what is said at its label
  here : (l : Label) → r.label ≡ l → PartsAt p own d cs ws r l
  here l is = subst (PartsAt p own d cs ws r) is before

  alone : (l : Label) → Does p own own2 d d2 cs cs2 ws ws2 r l v → is_among l (E1 ∷ E2 ∷ E4a ∷ E4b ∷ E4c ∷ E4d ∷ E4e ∷ E4f ∷ E4g ∷ []) ≡ true → is_among l (E4c ∷ E4d ∷ E4e ∷ E4f ∷ E4g ∷ []) ≡ true → Alone p own d r → Alone p own2 d2 r
  alone l does mine late h calm = subst (λ xs. is_only (is_eject_of p r.eject.cpu r.eject.slot) xs ≡ true) (sym (does.on late calm)) (h (does.quiet mine calm))

  waits : (l : Label) → Does p own own2 d d2 cs cs2 ws ws2 r l v → is_among l (E1 ∷ E2 ∷ E4a ∷ E4b ∷ E4c ∷ E4d ∷ E4e ∷ E4f ∷ E4g ∷ []) ≡ true → is_among l (E1 ∷ E2 ∷ []) ≡ true → is_among l (E1 ∷ E2 ∷ E4a ∷ []) ≡ true → Waits p d cs ws r → Waits p d2 cs2 ws2 r
  waits l does mine early may h calm one = does.still may calm (h (does.quiet mine calm) (sym (does.same early) ∙ one))

  -- its fields are the same
  eject_bound_as : (m : Monarch) → m.slots ≡ r.slots → m.eject.cpu ≡ r.eject.cpu → m.eject.apic ≡ r.eject.apic → m.eject.slot ≡ r.eject.slot → IsBoundEject p r → IsBoundEject p m
  eject_bound_as m a b c e h = record { own = ap (apic_of p) b ∙ (h.own ∙ sym c); less = subst (λ k. k < count_of p) (sym b) h.less; bound = rw (a, c) h.bound; place = rw (a, c, e) h.place }

  pub parts_row : (l : Label) → handler_of l ≡ Monarchs → r.label ≡ l → Does p own own2 d d2 cs cs2 ws ws2 r l v → Now (next_at (layout_of p) q r l v).monarch
  parts_row F1 mine is does = absurd cc
  parts_row F2 mine is does = absurd cc
  parts_row F3 mine is does = absurd cc
  parts_row F4 mine is does = absurd cc
  parts_row F5 mine is does = absurd cc
  parts_row F6 mine is does = absurd cc
  parts_row R1 mine is does = absurd cc
  parts_row R2 mine is does = absurd cc
  parts_row R3 mine is does = absurd cc
  parts_row R4 mine is does = absurd cc
  parts_row R5 mine is does = absurd cc
  parts_row R6 mine is does = absurd cc
  parts_row S0 mine is does = pick Now (nat_lt 1 (length r.slots.bound)) (record r { label = S1; slot = 1 }) (at_label S2 r) (λ placed. tt) (λ placed. tt)
  parts_row S1 mine is does = pick Now (nat_lt (r.slot + 1) (length r.slots.bound)) (record r { label = S1; slot = r.slot + 1 }) (at_label S2 r) (λ placed. tt) (λ placed. tt)
  parts_row S2 mine is does = parts_look p own2 d2 cs2 ws2 p.polls (known_from r.slots 1) r
  parts_row S3 mine is does = pick Now ((v == 1) || nat_le r.polls 1) _ _ (parts_look p own2 d2 cs2 ws2 p.polls (known_from r.slots (r.slot + 1)) (noted r.slot v r)) (λ placed. subst (λ m. PartsAt p own2 d2 cs2 ws2 (record r { polls = r.polls - 1; last = (noted r.slot v r).last }) m) (sym is) tt)
  parts_row S4 mine is does = pick Now (v == 4) (record r { label = C1; collection = collection_start; taken = 0 }) (at_label E5 r) (λ placed. tt) (λ placed. tt)
  parts_row C3 mine is does = pick (λ w. Now (after_collection p.apic w r)) (nat_lt v r.collection.cpu || not (nat_lt v (count_of p))) (CollectEnds r.collection) (CollectsAt C4 (record r.collection { cpu = v })) (parts_next p own2 d2 cs2 ws2 (record r { collection = r.collection })) (λ placed. tt)
  parts_row C4 mine is does = pick (λ w. Now (after_collection p.apic w r)) (bit_and v 0x12 == 0) (next_processor (count_of p) r.collection) (CollectsAt C5 (record r.collection { status = v })) (parts_processor p own2 d2 cs2 ws2 (count_of p) r r.collection) (λ placed. tt)
  parts_row C6 mine is does = parts_processor p own2 d2 cs2 ws2 (count_of p) r (record r.collection { reports = r.collection.reports ++ record { cpu = r.collection.cpu; status = r.collection.status; apic = v } ∷ [] })
  parts_row N8a mine is does = pick (λ w. Now (after_add w r)) (v == 1) _ _ (λ placed. tt) (λ placed. tt)
  parts_row N8b mine is does = pick (λ w. Now (after_add w (noted r.add.slot v r))) (v == 1) _ _ (λ placed. tt) (pick (λ w. Now (after_add w (noted r.add.slot v r))) (is_last_look r.add) _ _ (λ placed. tt) (λ placed. tt))
  parts_row N9 mine is does = pick (λ w. Now (after_add w r)) r.add.seen _ _ (λ placed. tt) (parts_failed p own2 d2 cs2 ws2 r r.last (NotAtGate r.add.cpu r.add.apic))
  parts_row N11 mine is does = pick (λ w. Now (after_add w (noted r.add.slot v r))) (v == 1) _ _ (λ placed. tt) (pick (λ w. Now (after_add w (noted r.add.slot v r))) (is_last_look r.add) _ _ (parts_failed p own2 d2 cs2 ws2 r (noted r.add.slot v r).last (NotCheckedIn r.add.cpu r.add.apic)) (λ placed. tt))
  parts_row E0 mine is does = λ placed. (eject_bound_as (at_label E1 r) refl refl refl refl (here E0 is), λ calm one. absurd (let z = does.zeroed refl in let both : 0 ≡ 1 = sym z ∙ one in cc))
  parts_row E1 mine is does = λ placed. (eject_bound_as (next_at (layout_of p) q r E1 v).monarch refl refl refl refl (here E1 is).0, waits E1 does refl refl refl (here E1 is).1)
  parts_row E2 mine is does = pick_by (λ w. Now (after_eject w r)) (v == 1) (EjectsAt E4a r.eject) _
      (λ one placed. (eject_bound_as (record r { label = E4a; eject = r.eject }) refl refl refl refl (here E2 is).0, λ calm. does.still refl calm ((here E2 is).1 (does.quiet refl calm) (does.sees refl (one_is v one)))))
      (λ _. pick (λ w. Now (after_eject w r)) (nat_le r.eject.polls 1) (EjectsAt E3 r.eject) (EjectsAt E2 (record r.eject { polls = r.eject.polls - 1 })) (λ placed. tt)
      (λ placed. (eject_bound_as (record r { label = E2; eject = record r.eject { polls = r.eject.polls - 1 } }) refl refl refl refl (here E2 is).0, waits E2 does refl refl refl (here E2 is).1)))
  parts_row E4a mine is does = λ placed. (eject_bound_as (at_label E4b r) refl refl refl refl (here E4a is).0, λ calm. does.still refl calm ((here E4a is).1 (does.quiet refl calm)))
  parts_row E4b mine is does = let h = here E4b is in
      let gone : Alone p own2 d2 r = λ calm. does.leaves refl calm h.0 (h.1 (does.quiet refl calm)) in
      pick (λ m. Now (at_label m r)) (is_late p.delivery) E4f E4c (λ placed. (eject_bound_as (at_label E4f r) refl refl refl refl h.0, gone)) (λ placed. (eject_bound_as (at_label E4c r) refl refl refl refl h.0, gone))
  parts_row E4c mine is does = λ placed. (eject_bound_as (at_label E4d r) refl refl refl refl (here E4c is).0, alone E4c does refl refl (here E4c is).1)
  parts_row E4d mine is does = λ placed. (eject_bound_as (at_label E4e r) refl refl refl refl (here E4d is).0, alone E4d does refl refl (here E4d is).1)
  parts_row E4e mine is does = let h = here E4e is in λ placed. (and_from (is_in r.eject.apic r.slots.bound) (slot_among r.slots.bound r.eject.apic == r.eject.slot) h.0.bound (same_number (slot_among r.slots.bound r.eject.apic) r.eject.slot h.0.place), alone E4e does refl refl h.1)
  parts_row E4f mine is does = λ placed. (eject_bound_as (at_label E4g r) refl refl refl refl (here E4f is).0, alone E4f does refl refl (here E4f is).1)
  parts_row E4g mine is does = pick (λ w. Now (after_eject w r)) (bit_and v 0x10 == 0x10) (EjectsAt E4h (record r.eject { status = v })) (EjectsAt E4c r.eject) (λ placed. tt) (λ placed. (eject_bound_as (record r { label = E4c; eject = r.eject }) refl refl refl refl (here E4g is).0, alone E4g does refl refl (here E4g is).1))
  parts_row T mine is does = parts_next p own2 d2 cs2 ws2 (after_tell r.outcome r)
  parts_row E5 mine is does = pick Now (nat_lt 1 (length r.slots.bound)) (record r { label = E6; slot = 1 }) (at_label E7 r) (λ placed. tt) (λ placed. tt)
  parts_row E6 mine is does = pick Now (nat_lt (r.slot + 1) (length r.slots.bound)) (record r { label = E6; slot = r.slot + 1 }) (at_label E7 r) (λ placed. tt) (λ placed. tt)
  parts_row E7 mine is does = λ placed. subst (PartsAt p own2 d2 cs2 ws2 r) (sym is) tt
  parts_row _ mine is does = λ placed. tt
