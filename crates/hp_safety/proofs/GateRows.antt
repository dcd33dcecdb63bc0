-- What may happen to an SMBASE and to the gate: an RSM past it, its exchange at F1, its opening at N7; and what each row's access makes of it.
use Rattle.std.proofs.Common.{ℕ, ◌≡◌, ◌+◌, ◌<◌, ◌≤◌, ◌==◌, ◌⊎◌, inl, inr, true, List, Option, Some, None, refl, arith}
use Rattle.std.proofs.lemmas.Bool.{and_parts}
use Rattle.hp_model.specs.declared.platforms.Platform.{Platform}
use Rattle.hp_model.specs.declared.accesses.Access.TheVariants.{Store, Swap}
use Rattle.hp_model.specs.declared.accesses.Answer.TheVariants.{Value}
use Rattle.hp_model.specs.declared.accesses.Want.{Want}
use Rattle.hp_model.specs.declared.accesses.Want.TheVariants as want
use Rattle.hp_model.specs.declared.labels.Label.{Label}
use Rattle.hp_model.specs.declared.labels.Label.TheVariants.{F1, F2, F4, F5, F6, R2, R3, R6, S0, S1, S2, S3, S4, C1, C2, C3, C4, C5, C6, NB, N1, N3, N4, N5, N6, N7, N8a, N8b, N11, E0, E1, E2, E3, E4a, E4b, E4d, E4e, E4f, E4g, E4h, E5, E6}
use Rattle.hp_model.specs.declared.entries.Event.{Event}
use Rattle.hp_model.specs.declared.entries.Event.TheVariants.{Do, TakeSmi, Resume}
use Rattle.hp_model.specs.Platform.{tseg, tile, apic_of}
use Rattle.hp_model.specs.Memory.{Write, byte_at, value_from, touched}
use Rattle.hp_model.specs.View.{loaded, stored}
use Rattle.hp_model.specs.Cpu.{smm_address}
use Rattle.hp_model.specs.Labels.{cell_of}
use Rattle.hp_model.specs.SharedBytes.{layout_of, gate, closed, new_smbase, default_smbase_field, release_byte, map_byte, parked_byte, session_byte}
use Rattle.hp_model.specs.Slots.{slot_among}
use Rattle.hp_model.specs.Monarch.{Monarch, is_that}
use Rattle.hp_model.specs.Handlers.{Seat, want_at}
use Rattle.hp_model.specs.State.{State, at}
use Rattle.hp_model.specs.Access.{access_effect}
use Rattle.hp_model.specs.Step.{answer_of}
use Rattle.hp_sealed.specs.Left.{IsLeft, Sound, Locked}
use Rattle.hp_sealed.specs.Sealed.{Recorded}
use Rattle.hp_sealed.proofs.Left.{pick_by, left_same}
use Rattle.hp_safety.proofs.EachRow.{row_of_each}
use Rattle.hp_safety.proofs.Invariant.{is_adding, facts_of, Met, IsShut, Holding, is_past}
use Rattle.hp_safety.proofs.Writes.{Leaves, leaves_flag, leaves_arrived, leaves_shared, gate_left, gate_stored, gate_written}
use Rattle.hp_safety.proofs.Keeps.{that_is}
use Rattle.hp_safety.proofs.Placing.{bound_id}
use Rattle.hp_safety.proofs.Rows.{ejected_small}

-- an RSM past the gate, at F6
pub record Relocates (p : Platform) (s : State) (e : Event) (k : ℕ) : Type 0 where
  pub event : e ≡ Resume k
  pub past : is_past (smm_address (at s k)) ≡ true
  pub place : smm_address (at s k) ≡ Some (cell_of p F6 0)

-- at F1 a processor finds its APIC ID in the gate, and closes it
pub record Passes (p : Platform) (s : State) (e : Event) (k : ℕ) : Type 0 where
  pub event : e ≡ Do k (Swap gate (apic_of p k) closed)
  pub place : smm_address (at s k) ≡ Some (cell_of p F1 0)
  pub found : answer_of s e ≡ Value (apic_of p k)
  pub value : value_from (byte_at s.writes) gate 8 ≡ apic_of p k

-- at N7 the monarch opens the gate to the APIC ID of its add
pub record Opens (p : Platform) (s : State) (e : Event) (t : State) : Type 0 where
  pub event : e ≡ Do 0 (Store gate 8 s.monarch.add.apic)
  pub place : smm_address (at s 0) ≡ Some (cell_of p N7 0)
  pub label : s.monarch.label ≡ N7
  pub value : value_from (byte_at t.writes) gate 8 ≡ s.monarch.add.apic
  pub written : touched t.writes gate ≡ touched s.writes gate + 1

-- what an event does: whoever comes has the default SMBASE, SMBASE changes by RSM at F6, the gate is passed at F1 and opened at N7
pub record Moves (p : Platform) (s : State) (e : Event) (t : State) : Type 0 where
  pub comes : (k : ℕ) → (at t k).present ≡ true → ((at s k).present ≡ true) ⊎ ((at t k).smbase ≡ 0x30000)
  pub changes : (k : ℕ) → (at s k).present ≡ true → (at t k).present ≡ true → ((at t k).smbase ≡ (at s k).smbase) ⊎ Relocates p s e k
  pub climbs : (k : ℕ) → is_past (smm_address (at t k)) ≡ true → (is_past (smm_address (at s k)) ≡ true) ⊎ Passes p s e k
  pub gates : IsShut t.writes ⊎ (((i : ℕ) → i < 8 → IsLeft (gate + i) s.writes t.writes) ⊎ Opens p s e t)
  pub enters : smm_address (at s 0) ≡ None → (smm_address (at t 0) ≡ None) ⊎ (e ≡ TakeSmi 0)

-- the gate after a row's access
abbrev pub GateOf : Monarch → Label → List Write → List Write → Type 0
GateOf r l ws vs = IsShut vs ⊎ (((i : ℕ) → i < 8 → IsLeft (gate + i) ws vs) ⊎ ((l ≡ N7) × (value_from (byte_at vs) gate 8 ≡ r.add.apic) × (touched vs gate ≡ touched ws gate + 1)))

abbrev pub GatesOn : Platform → ℕ → State → Monarch → Label → Option Want → Type 0
GatesOn p k s r l None = Unit {0}
GatesOn p k s r l (Some (want.Do a)) = GateOf r l s.writes (access_effect p k true a s).writes
GatesOn p k s r l (Some (want.Tell o)) = Unit {0}
GatesOn p k s r l (Some want.Resume) = Unit {0}

pub row_gates : (p : Platform) (k : ℕ) (s : State) (q : Seat) (r : Monarch) → Sound p → Locked p s.locks → Recorded p r → Holding p r.slots → q.slot ≤ 512 → (l : Label) → Met p r s.writes q.apic q.base l → GatesOn p k s r l (want_at (layout_of p) q r l)
row_gates p k s q r sound locks recorded holding small l met =
    let y = layout_of p in
    let few = sound.few in
    let slot = recorded.0 in
    let shared = λ (a v : ℕ) (low : tseg p + 0x1000 ≤ a) (high : a < tseg p + 0x5000). leaves_shared p s.locks s.writes a v sound low high in
    row_of_each (λ l. Met p r s.writes q.apic q.base l → GatesOn p k s r l (want_at y q r l))
    (record {
      f1 = λ m. pick_by (λ vs. GateOf r F1 s.writes vs) (loaded s.locks true (byte_at s.writes) gate 8 == q.apic) (stored s.locks true gate 8 closed s.writes) s.writes (λ e. inl (gate_stored p s.locks s.writes closed sound locks (omega arith))) (λ e. same F1);
      f2 = λ m. same F2;
      f3 = λ m. inr (inl (gate_left s.locks s.writes default_smbase_field 4 q.base (inr (omega arith))));
      f4 = λ m. left F4 (leaves_flag p s.locks s.writes 1 sound);
      f5 = λ m. same F5;
      f6 = λ m. tt;
      r1 = λ m. inr (inl (leaves_arrived p s.locks s.writes q.slot 1 sound small).openings);
      r2 = λ m. same R2;
      r3 = λ m. same R3;
      r4 = λ m. inr (inl (leaves_arrived p s.locks s.writes q.slot 0 sound small).openings);
      r5 = λ m. tt;
      r6 = λ m. left R6 (shared (parked_byte y q.slot) 1 (omega arith) (omega (arith, small)));
      s0 = λ m. left S0 (shared (session_byte y) 1 (omega arith) (omega arith));
      s1 = λ m. left S1 (shared (release_byte y r.slot) 0 (omega arith) (omega (arith, slot)));
      s2 = λ m. same S2;
      s3 = λ m. same S3;
      s4 = λ m. same S4;
      c1 = λ m. same C1;
      c2 = λ m. same C2;
      c3 = λ m. same C3;
      c4 = λ m. same C4;
      c5 = λ m. same C5;
      c6 = λ m. same C6;
      nb = λ m. let less = m.0.1 in left NB (shared (release_byte y r.add.slot) 0 (omega arith) (omega (arith, few, less)));
      n0 = λ m. let less = m.0.1 in inr (inl (leaves_arrived p s.locks s.writes r.add.slot 0 sound (omega (arith, few, less))).openings);
      n1 = λ m. left N1 (leaves_flag p s.locks s.writes 0 sound);
      n2 = λ m. inr (inl (gate_left s.locks s.writes new_smbase 4 (tile p r.add.slot) (inr (omega arith))));
      n3 = λ m. same N3;
      n4 = λ m. same N4;
      n5 = λ m. same N5;
      n6 = λ m. same N6;
      n7 = λ m. inr (inr (refl, gate_stored p s.locks s.writes r.add.apic sound locks (held_id m.1), gate_written p s.locks s.writes r.add.apic sound locks));
      n8a = λ m. same N8a;
      n8b = λ m. same N8b;
      n9 = λ m. inl (gate_stored p s.locks s.writes closed sound locks (omega arith));
      n10 = λ m. let less = m.0.1 in inr (inl (leaves_arrived p s.locks s.writes r.add.slot 0 sound (omega (arith, few, less))).openings);
      n11 = λ m. same N11;
      e0 = λ m. let low = ejected_small p r sound m in left E0 (shared (parked_byte y r.eject.slot) 0 (omega arith) (omega (arith, low)));
      e1 = λ m. let low = ejected_small p r sound m in left E1 (shared (map_byte y r.eject.slot) 1 (omega arith) (omega (arith, low)));
      e2 = λ m. same E2;
      e3 = λ m. let low = ejected_small p r sound m in left E3 (shared (map_byte y r.eject.slot) 0 (omega arith) (omega (arith, low)));
      e4a = λ m. same E4a;
      e4b = λ m. same E4b;
      e4c = λ m. inr (inl (leaves_arrived p s.locks s.writes r.eject.slot 0 sound (ejected_small p r sound m)).openings);
      e4d = λ m. let low = ejected_small p r sound m in left E4d (shared (map_byte y r.eject.slot) 0 (omega arith) (omega (arith, low)));
      e4e = λ m. let low = ejected_small p r sound m in left E4e (shared (parked_byte y r.eject.slot) 0 (omega arith) (omega (arith, low)));
      e4f = λ m. same E4f;
      e4g = λ m. same E4g;
      e4h = λ m. let low = ejected_small p r sound m in left E4h (shared (map_byte y r.eject.slot) 0 (omega arith) (omega (arith, low)));
      t = λ m. tt;
      e5 = λ m. left E5 (shared (session_byte y) 0 (omega arith) (omega arith));
      e6 = λ m. left E6 (shared (release_byte y r.slot) 1 (omega arith) (omega (arith, slot)));
      e7 = λ m. tt;
    }) (facts_of p r s.writes q.apic q.base) l met met
  where
    same : (l : Label) → GateOf r l s.writes s.writes
    same l = inr (inl (λ i less. left_same (gate + i) s.writes))

    left : (l : Label) {vs : List Write} → Leaves p s.writes vs → GateOf r l s.writes vs
    left l h = inr (inl h.first.openings)

    held_id : is_adding r ≡ true → r.add.apic < 0x10000000000000000
    held_id e =
        let parts = and_parts (is_that r.slots.held r.add.apic) (r.add.slot == slot_among r.slots.bound r.add.apic) e in
        let less = bound_id p r.slots r.add.apic sound recorded.1 (holding.in_bound r.add.apic (that_is r.slots.held r.add.apic parts.0)) in
        omega (arith, less)
