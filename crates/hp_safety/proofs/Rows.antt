-- What each row's access makes of memory and of the processors.
use Rattle.std.proofs.Common.{ℕ, ◌≡◌, ◌+◌, ◌-◌, ◌*◌, ◌/◌, ◌<◌, ◌≤◌, ◌==◌, inl, inr, true, not, ◌&&◌, nat_lt, List, Option, Some, None, refl, sym, subst, ◌∙◌, arith}
use Rattle.std.proofs.lemmas.Bool.{and_parts, eqb-true, ltb-true}
use Rattle.std.proofs.lemmas.Bool.Decides.{nat_tests}
use Rattle.hp_model.specs.declared.platforms.Platform.{Platform}
use Rattle.hp_model.specs.declared.accesses.Access.TheVariants.{Out}
use Rattle.hp_model.specs.declared.accesses.Want.{Want}
use Rattle.hp_model.specs.declared.accesses.Want.TheVariants as want
use Rattle.hp_model.specs.declared.labels.Label.{Label}
use Rattle.hp_model.specs.Platform.{tseg, tile, count_of, apic_of, high_half}
use Rattle.hp_model.specs.Memory.{Write, byte_at, value_from}
use Rattle.hp_model.specs.View.{loaded, stored}
use Rattle.hp_model.specs.Interrupts.{decoded}
use Rattle.hp_model.specs.declared.labels.Handler.TheVariants.{Monarch as Monarchs}
use Rattle.hp_model.specs.Labels.{handler_of}
use Rattle.hp_model.specs.SharedBytes.{layout_of, gate, closed, release_byte, map_byte, parked_byte, session_byte}
use Rattle.hp_model.specs.Slots.{Slots, slot_among}
use Rattle.hp_model.specs.Monarch.{Monarch, is_that}
use Rattle.hp_model.specs.Handlers.{Seat, slot_at, want_at}
use Rattle.hp_model.specs.State.{State, at}
use Rattle.hp_model.specs.Access.{access_effect}
use Rattle.hp_sealed.specs.Left.{Sound, Locked}
use Rattle.hp_sealed.specs.Sealed.{is_other_tile, Recorded}
use Rattle.hp_sealed.proofs.Left.{pick}
use Rattle.hp_sealed.proofs.Stay.{Stays, stays_same, stays_sent}
use Rattle.hp_sealed.proofs.Outside.{acts, stays_block}
use Rattle.hp_sealed.proofs.Places.{base_tile}
use Rattle.hp_safety.proofs.Needs.{need_of, is_open, IsSlot}
use Rattle.hp_safety.proofs.EachRow.{row_of_each}
use Rattle.hp_safety.proofs.Invariant.{held_tile, is_ready, is_adding, facts_of, Met, IsGated, Holding}
use Rattle.hp_safety.proofs.Keeps.{that_is}
use Rattle.hp_safety.proofs.Writes.{Writes, writes_first, writes_same, leaves_shared, leaves_flag, leaves_arrived, leaves_gate, writes_new, writes_saved, reach_low}

-- the tile of a slot from 1 on
pub slot_tile : (p : Platform) (slot : ℕ) → IsSlot (count_of p) slot → is_other_tile (layout_of p) (tile p slot) ≡ true
slot_tile p slot h =
    let s : slot_at (layout_of p) (tile p slot) ≡ slot = slot_plain (tseg p) slot in
    rw s (last_plain slot (count_of p) (tile p slot) h.0 h.1)
  where
    slot_plain : (base slot : ℕ) → (base + 0x20000 + slot * 0x10000 - (base + 0x20000 + 0)) / 0x10000 ≡ slot
    slot_plain base slot = omega arith

    last_plain : (slot n b : ℕ) → 1 ≤ slot → slot < n → (not (slot == 0) && (nat_lt slot n && (b == b))) ≡ true
    last_plain slot n b more less = grind (arith, nat_tests)

pub small_tile : (p : Platform) (slot : ℕ) → Sound p → slot < count_of p → tile p slot < 0x100000000
small_tile p slot sound less = let base = base_tile p slot (tile p slot) sound less refl in let room = base.room in let most = sound.most in omega (arith, room, most)

-- the slot of an eject
pub ejected_small : (p : Platform) (r : Monarch) → Sound p → nat_lt r.eject.slot (count_of p) ≡ true → r.eject.slot ≤ 512
ejected_small p r sound e = let less = ltb-true r.eject.slot (count_of p) e in let few = sound.few in omega (arith, less, few)

-- the tile of the held APIC ID, and that of an add
pub held_small : (p : Platform) (s : Slots) (a : ℕ) → Sound p → Holding p s → is_that s.held a ≡ true → held_tile p s < 0x100000000
held_small p s a sound holding e =
    let is = that_is s.held a e in
    let slot = holding.slot a is in
    rw is (small_tile p (slot_among s.bound a) sound slot.1)

pub add_tile : (p : Platform) (r : Monarch) → is_adding r ≡ true → tile p r.add.slot ≡ held_tile p r.slots
add_tile p r e =
    let parts = and_parts (is_that r.slots.held r.add.apic) (r.add.slot == slot_among r.slots.bound r.add.apic) e in
    let is = that_is r.slots.held r.add.apic parts.0 in
    let place : r.add.slot ≡ slot_among r.slots.bound r.add.apic = eqb-true r.add.slot (slot_among r.slots.bound r.add.apic) parts.1 in
    rw (is, place) refl

-- who finds its APIC ID in the gate finds it open, since it isn't the value of a closed one
pub record Finds (p : Platform) (r : Monarch) (ws : List Write) (apic : ℕ) : Type 0 where
  pub held : is_that r.slots.held apic ≡ true
  pub ready : is_ready p r.slots ws ≡ true
  pub may : is_open (need_of r.label) ≡ true

pub finds : (p : Platform) (s : State) (r : Monarch) (apic : ℕ) → Sound p → Locked p s.locks → IsGated p r s.writes → apic ≤ 0xffffffff → (loaded s.locks true (byte_at s.writes) gate 8 == apic) ≡ true → Finds p r s.writes apic
finds p s r apic sound locks gated small is = by_gate gated (sym read ∙ eqb-true (loaded s.locks true (byte_at s.writes) gate 8) apic is)
  where
    read : loaded s.locks true (byte_at s.writes) gate 8 ≡ value_from (byte_at s.writes) gate 8
    read = let reach = reach_low p s.locks 8 gate sound locks (omega arith) in rw reach refl

    no_id : (a : ℕ) → a ≤ 0xffffffff → 0xffffffffffffffff ≡ a → ⊥
    no_id a e f = omega (arith, e, f)

    by_gate : IsGated p r s.writes → value_from (byte_at s.writes) gate 8 ≡ apic → Finds p r s.writes apic
    by_gate (inl shut) e = absurd (no_id apic small (sym shut ∙ e))
    by_gate (inr o) e = record { held = subst (λ a. is_that r.slots.held a ≡ true) e o.held; ready = o.ready; may = o.may }

abbrev pub WritesOf : Platform → Slots → ℕ → State → Option Want → Type 0
WritesOf p h k s None = Unit {0}
WritesOf p h k s (Some (want.Do a)) = Writes p h s.writes (access_effect p k true a s).writes
WritesOf p h k s (Some (want.Tell o)) = Unit {0}
WritesOf p h k s (Some want.Resume) = Unit {0}

-- it spares whoever makes it: that one isn't gone, or moved
abbrev pub Spares : Platform → ℕ → State → Option Want → Type 0
Spares p k s None = Unit {0}
Spares p k s (Some (want.Do a)) = Stays (at s k) (at (access_effect p k true a s) k)
Spares p k s (Some (want.Tell o)) = Unit {0}
Spares p k s (Some want.Resume) = Unit {0}

module _ (p : Platform) (k : ℕ) (s : State) (q : Seat) (r : Monarch) where
  pub row_writes : Sound p → Locked p s.locks → Recorded p r → Holding p r.slots → q.slot ≤ 512 → (l : Label) → Met p r s.writes q.apic q.base l → WritesOf p r.slots k s (want_at (layout_of p) q r l)
  row_writes sound locks recorded holding small l met =
      let y = layout_of p in
      let slot = recorded.0 in
      let few = sound.few in
      let same = writes_same p r.slots s.writes in
      let byte = λ (a v : ℕ) (low : tseg p + 0x1000 ≤ a) (high : a < tseg p + 0x5000). writes_first p r.slots s.writes _ (leaves_shared p s.locks s.writes a v sound low high).first in
      let arrived = λ (x v : ℕ) (less : x ≤ 512). writes_first p r.slots s.writes _ (leaves_arrived p s.locks s.writes x v sound less) in
      row_of_each (λ l. Met p r s.writes q.apic q.base l → WritesOf p r.slots k s (want_at y q r l)) (record {
        f1 = λ m. pick (Writes p r.slots s.writes) (loaded s.locks true (byte_at s.writes) gate 8 == q.apic) (stored s.locks true gate 8 closed s.writes) s.writes (leaves_gate p r.slots s.locks s.writes closed sound) same;
        f2 = λ m. same;
        f3 = λ m. let is = eqb-true q.base (held_tile p r.slots) m.1 in (writes_saved p r.slots s.locks s.writes q.base sound locks is (subst (λ b. b < 0x100000000) (sym is) (held_small p r.slots q.apic sound holding m.0))).0;
        f4 = λ m. writes_first p r.slots s.writes _ (leaves_flag p s.locks s.writes 1 sound).first;
        f5 = λ m. same;
        f6 = λ m. tt;
        r1 = λ m. arrived q.slot 1 small;
        r2 = λ m. same;
        r3 = λ m. same;
        r4 = λ m. arrived q.slot 0 small;
        r5 = λ m. tt;
        r6 = λ m. byte (parked_byte y q.slot) 1 (omega arith) (omega (arith, small));
        s0 = λ m. byte (session_byte y) 1 (omega arith) (omega arith);
        s1 = λ m. byte (release_byte y r.slot) 0 (omega arith) (omega (arith, slot));
        s2 = λ m. same;
        s3 = λ m. same;
        s4 = λ m. same;
        c1 = λ m. same;
        c2 = λ m. same;
        c3 = λ m. same;
        c4 = λ m. same;
        c5 = λ m. same;
        c6 = λ m. same;
        nb = λ m. let less = m.0.1 in byte (release_byte y r.add.slot) 0 (omega arith) (omega (arith, few, less));
        n0 = λ m. let less = m.0.1 in arrived r.add.slot 0 (omega (arith, few, less));
        n1 = λ m. writes_first p r.slots s.writes _ (leaves_flag p s.locks s.writes 0 sound).first;
        n2 = λ m. (writes_new p r.slots s.locks s.writes (tile p r.add.slot) sound locks (add_tile p r m.1) (small_tile p r.add.slot sound m.0.1)).0;
        n3 = λ m. same;
        n4 = λ m. same;
        n5 = λ m. same;
        n6 = λ m. same;
        n7 = λ m. leaves_gate p r.slots s.locks s.writes r.add.apic sound;
        n8a = λ m. same;
        n8b = λ m. same;
        n9 = λ m. leaves_gate p r.slots s.locks s.writes closed sound;
        n10 = λ m. let less = m.0.1 in arrived r.add.slot 0 (omega (arith, few, less));
        n11 = λ m. same;
        e0 = λ m. let low = ejected_small p r sound m in byte (parked_byte y r.eject.slot) 0 (omega arith) (omega (arith, low));
        e1 = λ m. let low = ejected_small p r sound m in byte (map_byte y r.eject.slot) 1 (omega arith) (omega (arith, low));
        e2 = λ m. same;
        e3 = λ m. let low = ejected_small p r sound m in byte (map_byte y r.eject.slot) 0 (omega arith) (omega (arith, low));
        e4a = λ m. same;
        e4b = λ m. same;
        e4c = λ m. arrived r.eject.slot 0 (ejected_small p r sound m);
        e4d = λ m. let low = ejected_small p r sound m in byte (map_byte y r.eject.slot) 0 (omega arith) (omega (arith, low));
        e4e = λ m. let low = ejected_small p r sound m in byte (parked_byte y r.eject.slot) 0 (omega arith) (omega (arith, low));
        e4f = λ m. same;
        e4g = λ m. same;
        e4h = λ m. let low = ejected_small p r sound m in byte (map_byte y r.eject.slot) 0 (omega arith) (omega (arith, low));
        t = λ m. tt;
        e5 = λ m. byte (session_byte y) 0 (omega arith) (omega arith);
        e6 = λ m. byte (release_byte y r.slot) 1 (omega arith) (omega (arith, slot));
        e7 = λ m. tt;
      }) (facts_of p r s.writes q.apic q.base) l met met

  pub row_spares : (l : Label) → (handler_of l ≡ Monarchs → k ≡ 0) → Met p r s.writes q.apic q.base l → Spares p k s (want_at (layout_of p) q r l)
  row_spares l first met =
      let same : Stays (at s k) (at s k) = stays_same (at s k) in
      let sends = λ (high low : ℕ). stays_sent (decoded p.x2apic high low) (apic_of p k) p.apic s.cpus k in
      row_of_each (λ l. (handler_of l ≡ Monarchs → k ≡ 0) → Spares p k s (want_at (layout_of p) q r l)) (record {
        f1 = λ z. same;
        f2 = λ z. same;
        f3 = λ z. same;
        f4 = λ z. same;
        f5 = λ z. sends (high_half p.x2apic q.apic) 0x200;
        f6 = λ z. tt;
        r1 = λ z. same;
        r2 = λ z. same;
        r3 = λ z. same;
        r4 = λ z. same;
        r5 = λ z. tt;
        r6 = λ z. same;
        s0 = λ z. same;
        s1 = λ z. same;
        s2 = λ z. sends 0 0xc0200;
        s3 = λ z. same;
        s4 = λ z. same;
        c1 = λ z. stays_block 0 4 r.collection.cpu s refl k;
        c2 = λ z. stays_block 5 1 0 s refl k;
        c3 = λ z. same;
        c4 = λ z. same;
        c5 = λ z. stays_block 5 1 3 s refl k;
        c6 = λ z. same;
        nb = λ z. same;
        n0 = λ z. same;
        n1 = λ z. same;
        n2 = λ z. same;
        n3 = λ z. sends (high_half p.x2apic r.add.apic) 0x200;
        n4 = λ z. sends (high_half p.x2apic r.add.apic) 0x500;
        n5 = λ z. sends (high_half p.x2apic r.add.apic) 0x69f;
        n6 = λ z. sends (high_half p.x2apic r.add.apic) 0x69f;
        n7 = λ z. same;
        n8a = λ z. same;
        n8b = λ z. same;
        n9 = λ z. same;
        n10 = λ z. same;
        n11 = λ z. same;
        e0 = λ z. same;
        e1 = λ z. same;
        e2 = λ z. same;
        e3 = λ z. same;
        e4a = λ z. stays_block 0 4 r.eject.cpu s refl k;
        e4b = λ z. subst (λ i. Stays (at s i) (at (access_effect p k true (Out 0xcdc 1 8) s) i)) (sym (z refl)) (acts p k true (Out 0xcdc 1 8) s).first;
        e4c = λ z. same;
        e4d = λ z. same;
        e4e = λ z. same;
        e4f = λ z. stays_block 0 4 r.eject.cpu s refl k;
        e4g = λ z. same;
        e4h = λ z. same;
        t = λ z. tt;
        e5 = λ z. same;
        e6 = λ z. same;
        e7 = λ z. tt;
      }) (facts_of p r s.writes q.apic q.base) l met first
