-- Nobody leaves but by an eject, while a session is undisturbed: where each row leads.
use Rattle.std.proofs.Common.{ℕ, ◌≡◌, ◌≢◌, ◌+◌, ◌-◌, ◌==◌, Bool, true, false, not, ◌||◌, nat_lt, nat_le, List, [], ◌∷◌, ◌++◌, length, drop, Option, Some, None, bit_and, refl, subst}
use Rattle.std.specs.List.{list_all}
use Rattle.std.proofs.lemmas.Bool.{and_parts}
use Rattle.hp_model.specs.declared.platforms.Platform.{Platform}
use Rattle.hp_model.specs.declared.processors.Cpu.{Cpu}
use Rattle.hp_model.specs.declared.labels.Label.{Label}
use Rattle.hp_model.specs.declared.labels.Label.TheVariants.{S0, S1, S2, S3, S4, C1, C2, C3, C4, C5, C6, NB, N0, N1, N2, N3, N4, N5, N6, N7, N8a, N8b, N9, N10, N11, E0, E1, E2, E3, E4a, E4b, E4c, E4d, E4e, E4f, E4g, E4h, T, E5, E6, E7}
use Rattle.hp_model.specs.Platform.{count_of, is_late}
use Rattle.hp_model.specs.Cpu.{cpu_at}
use Rattle.hp_model.specs.Block.{Block, slot_at}
use Rattle.hp_model.specs.declared.labels.Handler.TheVariants.{Monarch as Monarchs}
use Rattle.hp_model.specs.Labels.{handler_of}
use Rattle.hp_model.specs.SharedBytes.{layout_of}
use Rattle.hp_model.specs.Slots.{known_from}
use Rattle.hp_model.specs.declared.reports.Report.{Report}
use Rattle.hp_model.specs.Collection.{Collection, CollectNext, CollectsAt, CollectEnds, collection_start, next_processor}
use Rattle.hp_model.specs.Monarch.{Monarch, at_label, look_at, noted, at_tell, adds, ejects, took, next_report, after_collection, after_tell, after_eject, is_own, facts_of}
use Rattle.hp_model.specs.Eject.{EjectsAt}
use Rattle.hp_model.specs.Handlers.{Seat, next_at}
use Rattle.hp_model.specs.Step.{is_after_broadcast}
use Rattle.hp_model.specs.Transitions.{Transition}
use Rattle.hp_model.specs.Outcomes.{departures, is_none}
use Rattle.hp_sealed.proofs.Left.{pick, pick_by}
use Rattle.hp_exact.specs.Refusals.{is_blaming}
use Rattle.hp_exact.proofs.Monarchs.{is_among, adding, ejecting, AddsOn, adds_on, next_by_decision, decision_tame}
use Rattle.hp_exact.proofs.Stages.{adding_alone}
use Rattle.hp_exact.proofs.Naming.{own_is}
use Rattle.hp_exact.proofs.Reporting.{no_more, told_same}
use Rattle.hp_exact.proofs.Invariant.{is_there}
use Rattle.hp_exact.proofs.Losses.{Losses, handed, is_keeping, pending}

module _ (p : Platform) (own : List Transition) (b : Block) (cs : List Cpu) where
  abbrev Now : Monarch → Type 0
  Now r = Losses p own b cs r

  -- at other labels, where nobody has left or where that isn't asked
  losses_plain : (r : Monarch) → is_among r.label pending ≡ false → is_among r.label handed ≡ false → is_among r.label (E4g ∷ []) ≡ false → is_among r.label (E4h ∷ []) ≡ false
      → (is_keeping r ≡ true → is_none (departures p own) ≡ true) → (is_among r.label (T ∷ []) ≡ true → is_blaming r.outcome ≡ false) → Now r
  losses_plain r w c g n kept tame = record { tame = tame; waits = λ e. no_more _ w e; other = λ e. no_more _ w e; cleared = λ e. no_more _ c e; looked = λ e. no_more _ g e; never = n; kept = kept }

  losses_look : (polls : ℕ) (k : Option ℕ) (r : Monarch) → Now (look_at polls k r)
  losses_look polls (Some slot) r = losses_plain (look_at polls (Some slot) r) refl refl refl refl (λ e. absurd cc) (λ e. absurd cc)
  losses_look polls None r = losses_plain (look_at polls None r) refl refl refl refl (λ e. absurd cc) (λ e. absurd cc)

  -- an eject that waits for its processor
  losses_wait : (r : Monarch) → is_among r.label handed ≡ false → is_among r.label (E4g ∷ []) ≡ false → is_among r.label (E4h ∷ []) ≡ false → (cpu_at cs r.eject.cpu).present ≡ true → r.eject.cpu ≢ 0 → is_none (departures p own) ≡ true → is_among r.label (T ∷ []) ≡ false → Now r
  losses_wait r c g n there other kept not_told = record { tame = λ e. no_more _ not_told e; waits = λ e. there; other = λ e. other; cleared = λ e. no_more _ c e; looked = λ e. no_more _ g e; never = n; kept = λ e. kept }

  -- the next report
  losses_next : (r : Monarch) → list_all (is_there cs) (drop r.taken r.collection.reports) ≡ true → list_all (is_own p.apic) (drop r.taken r.collection.reports) ≡ true → is_none (departures p own) ≡ true → Now (next_report p.apic r)
  losses_next r there own_ids none = next_by_decision Now p.apic r
      (λ _. losses_plain (at_label E5 r) refl refl refl refl (λ e. absurd cc) (λ e. absurd cc))
      (λ t ts is o judged. losses_plain (at_tell o (took r)) refl refl refl refl (λ e. none) (λ e. decision_tame (facts_of p.apic r t) t o (and_parts (is_own p.apic t) (list_all (is_own p.apic) ts) (subst (λ xs. list_all (is_own p.apic) xs ≡ true) is own_ids)).0 judged))
      (λ t ts _ passed. losses_plain (adds t (took r)) refl refl refl refl (λ e. none) (λ e. absurd cc))
      (λ t ts is passed. losses_wait (ejects t (took r)) refl refl refl (present_of t (and_parts (is_there cs t) (list_all (is_there cs) ts) (subst (λ xs. list_all (is_there cs) xs ≡ true) is there)).0 passed.there) (own_is p t passed.own).other none refl)
    where
      present_of : (t : Report) → is_there cs t ≡ true → (bit_and t.status 1 == 1) ≡ true → (cpu_at cs t.cpu).present ≡ true
      present_of t h one = plain (bit_and t.status 1 == 1) (cpu_at cs t.cpu).present one h
        where
          plain : (x y : Bool) → x ≡ true → (not x || y) ≡ true → y ≡ true
          plain true y e f = f
          plain false y e f = absurd cc

  abbrev Led : Monarch → CollectNext → Type 0
  Led r w = Now (after_collection p.apic w r)

  losses_processor : (n : ℕ) (r : Monarch) (c : Collection) → list_all (is_there cs) (drop r.taken c.reports) ≡ true → list_all (is_own p.apic) (drop r.taken c.reports) ≡ true → is_none (departures p own) ≡ true → Led r (next_processor n c)
  losses_processor n r c there own_ids none = pick (Led r) (nat_lt (c.cpu + 1) n) (CollectsAt C1 (record c { cpu = c.cpu + 1 })) (CollectEnds (record c { cpu = c.cpu + 1 }))
      (losses_plain (record r { label = C1; collection = record c { cpu = c.cpu + 1 } }) refl refl refl refl (λ e. absurd cc) (λ e. absurd cc))
      (losses_next (record r { collection = record c { cpu = c.cpu + 1 } }) there own_ids none)

  losses_adds : (r t : Monarch) → AddsOn r t → is_none (departures p own) ≡ true → Now t
  losses_adds r t on none =
      let alone = adding_alone t.label on.label in
      losses_plain t (part t.label alone).0 (part t.label alone).1 (part t.label alone).2 (part t.label alone).3 (λ e. none) on.told
    where
      part : (l : Label) → is_among l ejecting ≡ false → (is_among l pending ≡ false) × (is_among l handed ≡ false) × (is_among l (E4g ∷ []) ≡ false) × (is_among l (E4h ∷ []) ≡ false)
      part E0 e = absurd cc
      part E1 e = absurd cc
      part E2 e = absurd cc
      part E3 e = absurd cc
      part E4a e = absurd cc
      part E4b e = absurd cc
      part E4c e = absurd cc
      part E4d e = absurd cc
      part E4e e = absurd cc
      part E4f e = absurd cc
      part E4g e = absurd cc
      part E4h e = absurd cc
      part _ e = (refl, refl, refl, refl)

-- what a row does where the session is undisturbed: with own2, b2 and cs2 after it
pub record Deeds (p : Platform) (own own2 : List Transition) (b2 : Block) (cs2 : List Cpu) (r : Monarch) (l : Label) (v : ℕ) : Type 0 where
  pub stays : is_among l (adding) ≡ true → is_none (departures p own) ≡ true → is_none (departures p own2) ≡ true
  pub waits : is_among l (E0 ∷ E1 ∷ E2 ∷ E3 ∷ E4a ∷ []) ≡ true → is_none (departures p own) ≡ true → is_none (departures p own2) ≡ true
  pub anew : is_among l (C3 ∷ C4 ∷ C6 ∷ T ∷ []) ≡ true → is_none (departures p own2) ≡ true
  pub there : is_among l (C3 ∷ C4 ∷ T ∷ []) ≡ true → list_all (is_there cs2) (drop r.taken r.collection.reports) ≡ true
  pub owned : is_among l (C3 ∷ C4 ∷ T ∷ []) ≡ true → list_all (is_own p.apic) (drop r.taken r.collection.reports) ≡ true
  pub owns : l ≡ C6 → list_all (is_own p.apic) (drop r.taken (r.collection.reports ++ record { cpu = r.collection.cpu; status = r.collection.status; apic = v } ∷ [])) ≡ true
  pub reports : l ≡ C6 → list_all (is_there cs2) (drop r.taken (r.collection.reports ++ record { cpu = r.collection.cpu; status = r.collection.status; apic = v } ∷ [])) ≡ true
  pub present : is_among l (E0 ∷ E1 ∷ E2 ∷ E3 ∷ E4a ∷ []) ≡ true → (cpu_at cs2 r.eject.cpu).present ≡ true
  pub hands : l ≡ E4b → (slot_at b2 r.eject.cpu).ejecting ≡ false
  pub looks : l ≡ E4f → (b2.selector ≡ r.eject.cpu) × ((slot_at b2 r.eject.cpu).ejecting ≡ false)
  pub sees : l ≡ E4g → (bit_and v 0x10 == 0x10) ≡ false

module _ (p : Platform) (own own2 : List Transition) (b b2 : Block) (cs cs2 : List Cpu) (q : Seat) (r : Monarch) (v : ℕ) (before : is_after_broadcast r.label ≡ true → Losses p own b cs r) where
  abbrev Then : Monarch → Type 0
  Then t = Losses p own2 b2 cs2 t

  pub losses_row : (l : Label) → handler_of l ≡ Monarchs → r.label ≡ l → Deeds p own own2 b2 cs2 r l v → is_after_broadcast (next_at (layout_of p) q r l v).monarch.label ≡ true → Then (next_at (layout_of p) q r l v).monarch
  losses_row S0 mine is deeds after = pick (λ (t : Monarch). is_after_broadcast t.label ≡ true → Then t) (nat_lt 1 (length r.slots.bound)) (record r { label = S1; slot = 1 }) (at_label S2 r) (λ e. absurd cc) (λ e. absurd cc) after
  losses_row S1 mine is deeds after = pick (λ (t : Monarch). is_after_broadcast t.label ≡ true → Then t) (nat_lt (r.slot + 1) (length r.slots.bound)) (record r { label = S1; slot = r.slot + 1 }) (at_label S2 r) (λ e. absurd cc) (λ e. absurd cc) after
  losses_row S2 mine is deeds after = losses_look p own2 b2 cs2 p.polls (known_from r.slots 1) r
  losses_row S3 mine is deeds after =
      pick Then ((v == 1) || nat_le r.polls 1) _ _ (losses_look p own2 b2 cs2 p.polls (known_from r.slots (r.slot + 1)) (noted r.slot v r))
      (losses_plain p own2 b2 cs2 (record r { polls = r.polls - 1; last = (noted r.slot v r).last }) (rw is refl) (rw is refl) (rw is refl) (rw is refl) (λ e. no_more (is_keeping r) (rw is refl) e) (λ e. no_more (is_among r.label (T ∷ [])) (rw is refl) e))
  losses_row S4 mine is deeds after = pick Then (v == 4) (record r { label = C1; collection = collection_start; taken = 0 }) (at_label E5 r) (losses_plain p own2 b2 cs2 (record r { label = C1; collection = collection_start; taken = 0 }) refl refl refl refl (λ e. absurd cc) (λ e. absurd cc)) (losses_plain p own2 b2 cs2 (at_label E5 r) refl refl refl refl (λ e. absurd cc) (λ e. absurd cc))
  losses_row C1 mine is deeds after = losses_plain p own2 b2 cs2 (at_label C2 r) refl refl refl refl (λ e. absurd cc) (λ e. absurd cc)
  losses_row C2 mine is deeds after = losses_plain p own2 b2 cs2 (at_label C3 r) refl refl refl refl (λ e. absurd cc) (λ e. absurd cc)
  losses_row C3 mine is deeds after =
      let c = r.collection in
      pick (λ w. Then (after_collection p.apic w r)) (nat_lt v c.cpu || not (nat_lt v (count_of p))) (CollectEnds c) (CollectsAt C4 (record c { cpu = v }))
      (losses_next p own2 b2 cs2 (record r { collection = c }) (deeds.there refl) (deeds.owned refl) (deeds.anew refl)) (losses_plain p own2 b2 cs2 (record r { label = C4; collection = record c { cpu = v } }) refl refl refl refl (λ e. absurd cc) (λ e. absurd cc))
  losses_row C4 mine is deeds after =
      let c = r.collection in
      pick (λ w. Then (after_collection p.apic w r)) (bit_and v 0x12 == 0) (next_processor (count_of p) c) (CollectsAt C5 (record c { status = v }))
      (losses_processor p own2 b2 cs2 (count_of p) r c (deeds.there refl) (deeds.owned refl) (deeds.anew refl)) (losses_plain p own2 b2 cs2 (record r { label = C5; collection = record c { status = v } }) refl refl refl refl (λ e. absurd cc) (λ e. absurd cc))
  losses_row C5 mine is deeds after = losses_plain p own2 b2 cs2 (at_label C6 r) refl refl refl refl (λ e. absurd cc) (λ e. absurd cc)
  losses_row C6 mine is deeds after =
      let c = r.collection in
      losses_processor p own2 b2 cs2 (count_of p) r (record c { reports = c.reports ++ record { cpu = c.cpu; status = c.status; apic = v } ∷ [] }) (deeds.reports refl) (deeds.owns refl) (deeds.anew refl)
  losses_row NB mine is deeds after = losses_adds p own2 b2 cs2 r (next_at (layout_of p) q r NB v).monarch (adds_on (layout_of p) q r NB v refl) (deeds.stays refl ((before (rw is refl)).kept (rw is refl)))
  losses_row N0 mine is deeds after = losses_adds p own2 b2 cs2 r (next_at (layout_of p) q r N0 v).monarch (adds_on (layout_of p) q r N0 v refl) (deeds.stays refl ((before (rw is refl)).kept (rw is refl)))
  losses_row N1 mine is deeds after = losses_adds p own2 b2 cs2 r (next_at (layout_of p) q r N1 v).monarch (adds_on (layout_of p) q r N1 v refl) (deeds.stays refl ((before (rw is refl)).kept (rw is refl)))
  losses_row N2 mine is deeds after = losses_adds p own2 b2 cs2 r (next_at (layout_of p) q r N2 v).monarch (adds_on (layout_of p) q r N2 v refl) (deeds.stays refl ((before (rw is refl)).kept (rw is refl)))
  losses_row N3 mine is deeds after = losses_adds p own2 b2 cs2 r (next_at (layout_of p) q r N3 v).monarch (adds_on (layout_of p) q r N3 v refl) (deeds.stays refl ((before (rw is refl)).kept (rw is refl)))
  losses_row N4 mine is deeds after = losses_adds p own2 b2 cs2 r (next_at (layout_of p) q r N4 v).monarch (adds_on (layout_of p) q r N4 v refl) (deeds.stays refl ((before (rw is refl)).kept (rw is refl)))
  losses_row N5 mine is deeds after = losses_adds p own2 b2 cs2 r (next_at (layout_of p) q r N5 v).monarch (adds_on (layout_of p) q r N5 v refl) (deeds.stays refl ((before (rw is refl)).kept (rw is refl)))
  losses_row N6 mine is deeds after = losses_adds p own2 b2 cs2 r (next_at (layout_of p) q r N6 v).monarch (adds_on (layout_of p) q r N6 v refl) (deeds.stays refl ((before (rw is refl)).kept (rw is refl)))
  losses_row N7 mine is deeds after = losses_adds p own2 b2 cs2 r (next_at (layout_of p) q r N7 v).monarch (adds_on (layout_of p) q r N7 v refl) (deeds.stays refl ((before (rw is refl)).kept (rw is refl)))
  losses_row N8a mine is deeds after = losses_adds p own2 b2 cs2 r (next_at (layout_of p) q r N8a v).monarch (adds_on (layout_of p) q r N8a v refl) (deeds.stays refl ((before (rw is refl)).kept (rw is refl)))
  losses_row N8b mine is deeds after = losses_adds p own2 b2 cs2 r (next_at (layout_of p) q r N8b v).monarch (adds_on (layout_of p) q r N8b v refl) (deeds.stays refl ((before (rw is refl)).kept (rw is refl)))
  losses_row N9 mine is deeds after = losses_adds p own2 b2 cs2 r (next_at (layout_of p) q r N9 v).monarch (adds_on (layout_of p) q r N9 v refl) (deeds.stays refl ((before (rw is refl)).kept (rw is refl)))
  losses_row N10 mine is deeds after = losses_adds p own2 b2 cs2 r (next_at (layout_of p) q r N10 v).monarch (adds_on (layout_of p) q r N10 v refl) (deeds.stays refl ((before (rw is refl)).kept (rw is refl)))
  losses_row N11 mine is deeds after = losses_adds p own2 b2 cs2 r (next_at (layout_of p) q r N11 v).monarch (adds_on (layout_of p) q r N11 v refl) (deeds.stays refl ((before (rw is refl)).kept (rw is refl)))
  losses_row E0 mine is deeds after = losses_wait p own2 b2 cs2 (at_label E1 r) refl refl refl (deeds.present refl) ((before (rw is refl)).other (rw is refl)) (deeds.waits refl ((before (rw is refl)).kept (rw is refl))) refl
  losses_row E1 mine is deeds after = losses_wait p own2 b2 cs2 ((next_at (layout_of p) q r E1 v).monarch) refl refl refl (deeds.present refl) ((before (rw is refl)).other (rw is refl)) (deeds.waits refl ((before (rw is refl)).kept (rw is refl))) refl
  losses_row E2 mine is deeds after =
      pick (λ w. Then (after_eject w r)) (v == 1) (EjectsAt E4a r.eject) _ (losses_wait p own2 b2 cs2 (record r { label = E4a; eject = r.eject }) refl refl refl (deeds.present refl) ((before (rw is refl)).other (rw is refl)) (deeds.waits refl ((before (rw is refl)).kept (rw is refl))) refl)
      (pick (λ w. Then (after_eject w r)) (nat_le r.eject.polls 1) (EjectsAt E3 r.eject) (EjectsAt E2 (record r.eject { polls = r.eject.polls - 1 })) (losses_wait p own2 b2 cs2 (record r { label = E3; eject = r.eject }) refl refl refl (deeds.present refl) ((before (rw is refl)).other (rw is refl)) (deeds.waits refl ((before (rw is refl)).kept (rw is refl))) refl) (losses_wait p own2 b2 cs2 (record r { label = E2; eject = record r.eject { polls = r.eject.polls - 1 } }) refl refl refl (deeds.present refl) ((before (rw is refl)).other (rw is refl)) (deeds.waits refl ((before (rw is refl)).kept (rw is refl))) refl))
  losses_row E3 mine is deeds after = losses_plain p own2 b2 cs2 ((next_at (layout_of p) q r E3 v).monarch) refl refl refl refl (λ e. deeds.waits refl ((before (rw is refl)).kept (rw is refl))) (λ e. refl)
  losses_row E4a mine is deeds after = losses_wait p own2 b2 cs2 (at_label E4b r) refl refl refl (deeds.present refl) ((before (rw is refl)).other (rw is refl)) (deeds.waits refl ((before (rw is refl)).kept (rw is refl))) refl
  losses_row E4b mine is deeds after =
      pick (λ m. Then (at_label m r)) (is_late p.delivery) E4f E4c
      (record { waits = λ e. absurd cc; other = λ e. absurd cc; cleared = λ e. deeds.hands refl; looked = λ e. absurd cc; never = refl; kept = λ e. absurd cc; tame = λ e. absurd cc })
      (losses_plain p own2 b2 cs2 (at_label E4c r) refl refl refl refl (λ e. absurd cc) (λ e. absurd cc))
  losses_row E4c mine is deeds after = losses_plain p own2 b2 cs2 (at_label E4d r) refl refl refl refl (λ e. absurd cc) (λ e. absurd cc)
  losses_row E4d mine is deeds after = losses_plain p own2 b2 cs2 (at_label E4e r) refl refl refl refl (λ e. absurd cc) (λ e. absurd cc)
  losses_row E4e mine is deeds after = losses_plain p own2 b2 cs2 ((next_at (layout_of p) q r E4e v).monarch) refl refl refl refl (λ e. absurd cc) (λ e. refl)
  losses_row E4f mine is deeds after =
      let looks = deeds.looks refl in
      record { waits = λ e. absurd cc; other = λ e. absurd cc; cleared = λ e. looks.1; looked = λ e. looks.0; never = refl; kept = λ e. absurd cc; tame = λ e. absurd cc }
  losses_row E4g mine is deeds after =
      pick_by (λ w. Then (after_eject w r)) (bit_and v 0x10 == 0x10) (EjectsAt E4h (record r.eject { status = v })) (EjectsAt E4c r.eject)
      (λ e. no_more _ (deeds.sees refl) e) (λ _. losses_plain p own2 b2 cs2 (record r { label = E4c; eject = r.eject }) refl refl refl refl (λ e. absurd cc) (λ e. absurd cc))
  losses_row E4h mine is deeds after = no_more _ (before (rw is refl)).never (rw is refl)
  losses_row T mine is deeds after =
      let same = told_same r.outcome r in
      losses_next p own2 b2 cs2 (after_tell r.outcome r) (rw (same.0, same.1) (deeds.there refl)) (rw (same.0, same.1) (deeds.owned refl)) (deeds.anew refl)
  losses_row E5 mine is deeds after = pick (λ (t : Monarch). is_after_broadcast t.label ≡ true → Then t) (nat_lt 1 (length r.slots.bound)) (record r { label = E6; slot = 1 }) (at_label E7 r) (λ e. absurd cc) (λ e. absurd cc) after
  losses_row E6 mine is deeds after = pick (λ (t : Monarch). is_after_broadcast t.label ≡ true → Then t) (nat_lt (r.slot + 1) (length r.slots.bound)) (record r { label = E6; slot = r.slot + 1 }) (at_label E7 r) (λ e. absurd cc) (λ e. absurd cc) after
  losses_row E7 mine is deeds after = absurd (let f : is_after_broadcast E7 ≡ true = subst (λ m. is_after_broadcast m ≡ true) is after in cc)
  losses_row _ mine is deeds after = absurd cc
