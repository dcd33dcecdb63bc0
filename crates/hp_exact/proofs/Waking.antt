-- The running add's processor has its SMI latch set from N4 to N6, if it waits.
use Rattle.std.proofs.Common.{ℕ, ◌≡◌, ◌+◌, ◌≤◌, ◌==◌, inl, inr, true, false, not, ◌||◌, nat_lt, nat_le, List, [], ◌∷◌, length, Option, Some, None, bit_and, refl, sym, subst, arith, if◌then◌else◌}
use Rattle.std.proofs.lemmas.Bool.Decides.{nat_tests}
use Rattle.hp_model.specs.declared.platforms.Platform.{Platform}
use Rattle.hp_model.specs.declared.processors.Mode.{Mode}
use Rattle.hp_model.specs.declared.processors.Mode.TheVariants.{Wait, Running, Halted, Smm}
use Rattle.hp_model.specs.declared.processors.Cpu.{Cpu}
use Rattle.hp_model.specs.declared.processors.Kind.TheVariants.{Smi, Init, Start}
use Rattle.hp_model.specs.declared.processors.Target.TheVariants.{Id}
use Rattle.hp_model.specs.declared.accesses.Access.{Access}
use Rattle.hp_model.specs.declared.accesses.Want.{Want}
use Rattle.hp_model.specs.declared.accesses.Want.TheVariants as want
use Rattle.hp_model.specs.declared.labels.Label.{Label}
use Rattle.hp_model.specs.declared.labels.Label.TheVariants.{F1, F2, F3, F4, F5, F6, R1, R2, R3, R4, R5, R6, S0, S1, S2, S3, S4, C1, C3, C4, C5, C6, N3, N4, N5, N6, N8a, N8b, N9, N11, E2, E4b, E4c, E4f, E4g, T, E5, E6, E7}
use Rattle.hp_model.specs.Platform.{apic_of, high_half}
use Rattle.hp_model.specs.Cpu.{is_waiting, hit, started}
use Rattle.hp_model.specs.Interrupts.{destination, is_target}
use Rattle.hp_model.specs.declared.labels.Handler.TheVariants.{Monarch as Monarchs}
use Rattle.hp_model.specs.Labels.{handler_of}
use Rattle.hp_model.specs.SharedBytes.{Layout, layout_of}
use Rattle.hp_model.specs.Slots.{known_from}
use Rattle.hp_model.specs.Collection.{Collection, CollectsAt, CollectEnds, collection_start, next_processor}
use Rattle.hp_model.specs.Monarch.{Monarch, at_label, look_at, noted, next_report, after_collection, after_tell, after_eject, after_add}
use Rattle.hp_model.specs.Add.{is_last_look}
use Rattle.hp_model.specs.Handlers.{Seat, want_at, next_at}
use Rattle.hp_model.specs.State.{State, at}
use Rattle.hp_model.specs.Access.{access_effect}
use Rattle.hp_model.specs.Step.{is_after_broadcast}
use Rattle.hp_sealed.proofs.Left.{pick}
use Rattle.hp_exact.proofs.Monarchs.{is_among, next_by, adding}
use Rattle.hp_exact.proofs.Naming.{Ids, aimed, Own}
use Rattle.hp_exact.proofs.Hits.{Alike, struck, strikes, alike_each}

abbrev pub waking : List Label
waking = N4 ∷ N5 ∷ N6 ∷ []

abbrev Asleep : Monarch → Type 0
Asleep t = is_among t.label waking ≡ false

asleep_next : (apics : List ℕ) (r : Monarch) → Asleep (next_report apics r)
asleep_next apics r = next_by Asleep apics r (λ _. refl) (λ t ts _ o. refl) (λ t ts _ _. refl) (λ t ts _ _. refl)

asleep_look : (polls : ℕ) (k : Option ℕ) (r : Monarch) → Asleep (look_at polls k r)
asleep_look polls (Some slot) r = refl
asleep_look polls None r = refl

asleep_processor : (n : ℕ) (apics : List ℕ) (r : Monarch) (c : Collection) → Asleep (after_collection apics (next_processor n c) r)
asleep_processor n apics r c = pick (λ w. Asleep (after_collection apics w r)) (nat_lt (c.cpu + 1) n) (CollectsAt C1 (record c { cpu = c.cpu + 1 })) (CollectEnds (record c { cpu = c.cpu + 1 })) refl (asleep_next apics (record r { collection = record c { cpu = c.cpu + 1 } }))

-- only from N3, N4 and N5 on
pub asleep_row : (y : Layout) (q : Seat) (r : Monarch) (l : Label) (v : ℕ) → handler_of l ≡ Monarchs → r.label ≡ l → is_among l (N3 ∷ N4 ∷ N5 ∷ []) ≡ false → Asleep (next_at y q r l v).monarch
asleep_row y q r F1 v mine is other = absurd cc
asleep_row y q r F2 v mine is other = absurd cc
asleep_row y q r F3 v mine is other = absurd cc
asleep_row y q r F4 v mine is other = absurd cc
asleep_row y q r F5 v mine is other = absurd cc
asleep_row y q r F6 v mine is other = absurd cc
asleep_row y q r R1 v mine is other = absurd cc
asleep_row y q r R2 v mine is other = absurd cc
asleep_row y q r R3 v mine is other = absurd cc
asleep_row y q r R4 v mine is other = absurd cc
asleep_row y q r R5 v mine is other = absurd cc
asleep_row y q r R6 v mine is other = absurd cc
asleep_row y q r S0 v mine is other = pick Asleep (nat_lt 1 (length r.slots.bound)) (record r { label = S1; slot = 1 }) (at_label S2 r) refl refl
asleep_row y q r S1 v mine is other = pick Asleep (nat_lt (r.slot + 1) (length r.slots.bound)) (record r { label = S1; slot = r.slot + 1 }) (at_label S2 r) refl refl
asleep_row y q r S2 v mine is other = asleep_look y.polls (known_from r.slots 1) r
asleep_row y q r S3 v mine is other = pick Asleep ((v == 1) || nat_le r.polls 1) _ _ (asleep_look y.polls (known_from r.slots (r.slot + 1)) (noted r.slot v r)) (rw is refl)
asleep_row y q r S4 v mine is other = pick Asleep (v == 4) (record r { label = C1; collection = collection_start; taken = 0 }) (at_label E5 r) refl refl
asleep_row y q r C3 v mine is other = pick (λ w. Asleep (after_collection y.apics w r)) (nat_lt v r.collection.cpu || not (nat_lt v y.count)) (CollectEnds r.collection) (CollectsAt C4 (record r.collection { cpu = v })) (asleep_next y.apics (record r { collection = r.collection })) refl
asleep_row y q r C4 v mine is other = pick (λ w. Asleep (after_collection y.apics w r)) (bit_and v 0x12 == 0) (next_processor y.count r.collection) (CollectsAt C5 (record r.collection { status = v })) (asleep_processor y.count y.apics r r.collection) refl
asleep_row y q r C6 v mine is other = asleep_processor y.count y.apics r _
asleep_row y q r N3 v mine is other = absurd cc
asleep_row y q r N4 v mine is other = absurd cc
asleep_row y q r N5 v mine is other = absurd cc
asleep_row y q r N8a v mine is other = pick (λ w. Asleep (after_add w r)) (v == 1) _ _ refl refl
asleep_row y q r N8b v mine is other = pick (λ w. Asleep (after_add w (noted r.add.slot v r))) (v == 1) _ _ refl (pick (λ w. Asleep (after_add w (noted r.add.slot v r))) (is_last_look r.add) _ _ refl refl)
asleep_row y q r N9 v mine is other = pick (λ w. Asleep (after_add w r)) r.add.seen _ _ refl (pick (λ w. Asleep (after_add w r)) (nat_lt r.add.attempt 3) _ _ refl refl)
asleep_row y q r N11 v mine is other = pick (λ w. Asleep (after_add w (noted r.add.slot v r))) (v == 1) _ _ refl (pick (λ w. Asleep (after_add w (noted r.add.slot v r))) (is_last_look r.add) _ _ (pick (λ w. Asleep (after_add w (noted r.add.slot v r))) (nat_lt r.add.attempt 3) _ _ refl refl) refl)
asleep_row y q r E2 v mine is other = pick (λ w. Asleep (after_eject w r)) (v == 1) _ _ refl (pick (λ w. Asleep (after_eject w r)) (nat_le r.eject.polls 1) _ _ refl refl)
asleep_row y q r E4b v mine is other = pick (λ m. Asleep (at_label m r)) y.late E4f E4c refl refl
asleep_row y q r E4g v mine is other = pick (λ w. Asleep (after_eject w r)) (bit_and v 0x10 == 0x10) _ _ refl refl
asleep_row y q r T v mine is other = asleep_next y.apics (after_tell r.outcome r)
asleep_row y q r E5 v mine is other = pick Asleep (nat_lt 1 (length r.slots.bound)) (record r { label = E6; slot = 1 }) (at_label E7 r) refl refl
asleep_row y q r E6 v mine is other = pick Asleep (nat_lt (r.slot + 1) (length r.slots.bound)) (record r { label = E6; slot = r.slot + 1 }) (at_label E7 r) refl refl
asleep_row y q r E7 v mine is other = rw is refl
asleep_row y q r _ v mine is other = refl

-- at N3 its SMI is latched, N4 leaves it so, and start-up ends its wait
waits_started : (page : ℕ) (c : Cpu) → (is_waiting c.mode ≡ true → c.smi ≡ true) → is_waiting (hit (Start page) c).mode ≡ true → (hit (Start page) c).smi ≡ true
waits_started page c h = pick (λ (d : Cpu). is_waiting d.mode ≡ true → d.smi ≡ true) c.present (record c { mode = started page c.mode }) c (λ e. h (waited c.mode e)) h
  where
    waited : (m : Mode) → is_waiting (started page m) ≡ true → is_waiting m ≡ true
    waited Wait e = absurd cc
    waited (Running q) e = absurd cc
    waited (Halted q) e = absurd cc
    waited (Smm a) e = absurd cc

-- whether the processor, if it waits, has its SMI latch set
abbrev pub IsWoken : Cpu → Type 0
IsWoken c = is_waiting c.mode ≡ true → c.smi ≡ true

abbrev Wakes : Platform → State → Label → Option Want → Type 0
Wakes p s l None = Unit {0}
Wakes p s l (Some (want.Do a)) = IsWoken (at (access_effect p 0 true a s) s.monarch.add.cpu)
Wakes p s l (Some (want.Tell o)) = Unit {0}
Wakes p s l (Some want.Resume) = Unit {0}

module _ (p : Platform) (s : State) (q : Seat) (ids : Ids p) (own : Own p (record { cpu = s.monarch.add.cpu; status = 0; apic = s.monarch.add.apic })) (present : (at s s.monarch.add.cpu).present ≡ true) where
  wakes_sent : Wakes p s N3 (want_at (layout_of p) q s.monarch N3)
  wakes_sent waits =
      let small : s.monarch.add.apic ≤ (if p.x2apic then 0xfffffffe else 254) = subst (λ a. a ≤ (if p.x2apic then 0xfffffffe else 254)) own.apic (ids.small s.monarch.add.cpu own.less) in
      let to = aimed p.x2apic s.monarch.add.apic small in
      let aim : (apic_of p s.monarch.add.cpu == destination p.x2apic (high_half p.x2apic s.monarch.add.apic)) ≡ true = let is = own.apic in rw (to, is) (same s.monarch.add.apic) in
      let hits = strikes (is_target (Id (destination p.x2apic (high_half p.x2apic s.monarch.add.apic))) (apic_of p 0)) Smi p.apic s.cpus s.monarch.add.cpu own.less aim in
      subst (λ (c : Cpu). c.smi ≡ true) (sym hits) (rw present refl)
    where
      same : (n : ℕ) → (n == n) ≡ true
      same n = grind (arith, nat_tests)

  wakes_init : IsWoken (at s s.monarch.add.cpu) → Wakes p s N4 (want_at (layout_of p) q s.monarch N4)
  wakes_init h waits =
      let alike : Alike (at s s.monarch.add.cpu) _ = alike_each (is_target (Id (destination p.x2apic (high_half p.x2apic s.monarch.add.apic))) (apic_of p 0)) Init p.apic s.cpus (inr refl) s.monarch.add.cpu in
      alike.smi (h (subst (λ m. is_waiting m ≡ true) alike.mode waits))

  wakes_start : IsWoken (at s s.monarch.add.cpu) → Wakes p s N5 (want_at (layout_of p) q s.monarch N5)
  wakes_start h = elim (struck (is_target (Id (destination p.x2apic (high_half p.x2apic s.monarch.add.apic))) (apic_of p 0)) (Start 0x9f) p.apic s.cpus s.monarch.add.cpu) [
    | inl e ↦ subst IsWoken (sym e) h
    | inr g ↦ subst IsWoken (sym g.2) (waits_started 0x9f (at s s.monarch.add.cpu) h)
  ]

  -- a row that leads to N4, N5 or N6
  pub wakes_row : (l : Label) (a : Access) → is_among l (N3 ∷ N4 ∷ N5 ∷ []) ≡ true → want_at (layout_of p) q s.monarch l ≡ Some (want.Do a) → (is_among l waking ≡ true → IsWoken (at s s.monarch.add.cpu)) → IsWoken (at (access_effect p 0 true a s) s.monarch.add.cpu)
  wakes_row l a mine wants h = subst (Wakes p s l) wants (by_label l mine h)
    where
      by_label : (l : Label) → is_among l (N3 ∷ N4 ∷ N5 ∷ []) ≡ true → (is_among l waking ≡ true → IsWoken (at s s.monarch.add.cpu)) → Wakes p s l (want_at (layout_of p) q s.monarch l)
      by_label N3 e g = wakes_sent
      by_label N4 e g = wakes_init (g refl)
      by_label N5 e g = wakes_start (g refl)
      by_label _ e g = absurd cc

pub waking_called : (l : Label) → is_among l waking ≡ true → is_after_broadcast l ≡ true
waking_called N4 e = refl
waking_called N5 e = refl
waking_called N6 e = refl
waking_called _ e = absurd cc

pub waking_adds : (l : Label) → is_among l waking ≡ true → is_among l adding ≡ true
waking_adds N4 e = refl
waking_adds N5 e = refl
waking_adds N6 e = refl
waking_adds _ e = absurd cc

-- the labels that lead to N4, N5 and N6
pub waking_from : (l : Label) → is_among l (N3 ∷ N4 ∷ N5 ∷ []) ≡ true → (is_after_broadcast l ≡ true) × (is_among l adding ≡ true)
waking_from N3 e = (refl, refl)
waking_from N4 e = (refl, refl)
waking_from N5 e = (refl, refl)
waking_from _ e = absurd cc
