-- Where each row leads after the answer to its access, or once its outcome is told.
use Rattle.std.specs.Prelude.{if◌then◌else◌}
use Rattle.std.proofs.Common.{ℕ, ◌≡◌, ◌≢◌, ◌+◌, ◌<◌, ◌≤◌, ◌==◌, ◌⊎◌, inl, inr, Bool, true, false, List, Option, Some, None, refl, sym, subst, ◌∙◌, arith}
use Rattle.std.proofs.lemmas.Bool.{and_parts, eqb-true}
use Rattle.hp_model.specs.declared.platforms.Platform.{Platform}
use Rattle.hp_model.specs.declared.accesses.Answer.TheVariants.{Quiet}
use Rattle.hp_model.specs.declared.accesses.Want.{Want}
use Rattle.hp_model.specs.declared.accesses.Want.TheVariants as want
use Rattle.hp_model.specs.declared.labels.Label.{Label}
use Rattle.hp_model.specs.declared.labels.Label.TheVariants.{F1, F2, F3, F4, F5, F6, R1, R2, R3, R4, R5, R6, S0, S1, S2, S3, S4, C1, C2, C3, C4, C5, C6, NB, N0, N1, N2, N3, N4, N5, N6, N7, N8a, N8b, N9, N10, N11, E0, E1, E2, E3, E4a, E4b, E4c, E4d, E4e, E4f, E4g, E4h, T, E5, E6, E7}
use Rattle.hp_model.specs.Platform.{tseg, tile}
use Rattle.hp_model.specs.Memory.{Write, byte_at, value_from}
use Rattle.hp_model.specs.View.{loaded, stored, swapped}
use Rattle.hp_model.specs.Boot.{value_in}
use Rattle.hp_model.specs.declared.labels.Handler.TheVariants.{Monarch as Monarchs}
use Rattle.hp_model.specs.Labels.{handler_of}
use Rattle.hp_model.specs.SharedBytes.{layout_of, gate, closed, new_smbase, default_smbase_field, flag, arrived_byte, release_byte, map_byte, parked_byte, session_byte}
use Rattle.hp_model.specs.Slots.{known_from, slot_among}
use Rattle.hp_model.specs.Collection.{found, judged, reported}
use Rattle.hp_model.specs.Add.{AddsAt, saw_flag, saw_pair, shut, saw_arrival}
use Rattle.hp_model.specs.Eject.{awaits, saw_parked, unparked, handed_to_block, saw_status, given_up, gone}
use Rattle.hp_model.specs.Monarch.{Monarch, is_that, at_label, first_slot, next_slot, look_at, looked, noted, commanded, after_collection, after_add, after_eject, after_tell, next_report}
use Rattle.hp_model.specs.Handlers.{Seat, Next, want_at, next_at, stays, by_record}
use Rattle.hp_model.specs.State.{State}
use Rattle.hp_model.specs.Ports.{read_port}
use Rattle.hp_model.specs.Access.{access_effect, answer_to}
use Rattle.hp_sealed.specs.Left.{Sound, Locked}
use Rattle.hp_sealed.specs.Sealed.{Recorded}
use Rattle.hp_sealed.proofs.Left.{pick}
use Rattle.hp_safety.proofs.Needs.{Need, Ejecting, Nothing, Passing, Loaded, Saved, Adding, Opening, Open, Looking, Telling, need_of, is_aloft, is_open, settles, MonarchNeeds, Needs}
use Rattle.hp_safety.proofs.EachRow.{row_of_each}
use Rattle.hp_safety.proofs.Invariant.{held_tile, is_ready, facts_of, Met, IsShut, IsGated, Holding, is_added, is_settled}
use Rattle.hp_safety.proofs.Aloft.{aloft_first}
use Rattle.hp_safety.proofs.Keeps.{grows_same, that_is, same_or}
use Rattle.hp_safety.proofs.Placing.{bound_id}
use Rattle.hp_safety.proofs.Writes.{Leaves, writes_first, gated_first, leaves_shared, leaves_flag, leaves_arrived, leaves_gate, arrivals_low, arrivals_other, reach_low, reach_arrived, gate_stored, arrived_stored, writes_new, writes_saved, gated_saved, shut_new}
use Rattle.hp_safety.proofs.Rows.{small_tile, held_small, add_tile, ejected_small, finds}
use Rattle.hp_safety.proofs.Leading.{Follows, Arrives, reopened, arrives_looking, arrives_label, arrives_first, arrives_next, arrives_known, arrives_looked, arrives_commanded, arrives_told, arrives_found, arrives_judged, arrives_reported, arrives_adding, arrives_flag, arrives_pair, arrives_shut, arrives_arrival, arrives_ejecting, arrives_parked, arrives_handed, arrives_status, arrives_ended}

-- the processor of the add arrives in its tile
pub record Arriving (r : Monarch) (q : Seat) (l : Label) : Type 0 where
  pub first : l ≡ R1
  pub slot : q.slot ≡ r.add.slot
  pub looks : need_of r.label ≡ Looking

-- to a label of the same handler that is due, and has what it needs in memory ws; only the monarch's rows change its record
pub record Leads (p : Platform) (was : Bool) (ws : List Write) (r : Monarch) (q : Seat) (l : Label) (n : Next) : Type 0 where
  pub side : handler_of n.label ≡ handler_of l
  pub current : handler_of l ≡ Monarchs → n.monarch.label ≡ n.label
  pub others : handler_of l ≢ Monarchs → n.monarch ≡ r
  pub met : Met p n.monarch ws q.apic n.base n.label
  pub gated : IsGated p n.monarch ws
  pub follows : Follows p was r.slots n.monarch.slot n.monarch.slots
  pub settled : is_settled p n.monarch ws ≡ true → (was ≡ true) ⊎ Arriving r q l
  pub climbs : is_aloft (need_of n.label) ≡ true → (is_aloft (need_of l) ≡ true) ⊎ ((l ≡ F1) × (is_open (need_of r.label) ≡ true))

mine : (p : Platform) (was : Bool) (ws : List Write) (r t : Monarch) (l : Label) (q : Seat) → handler_of l ≡ Monarchs → Arrives p was r.slots ws q.apic q.base t → Leads p was ws r q l (by_record q t)
mine p was ws r t l q is h = record {
  side = h.side ∙ sym is;
  current = λ e. refl;
  others = λ e. absurd (e is);
  met = subst (λ c. Needs (facts_of p t ws q.apic q.base) c (need_of t.label)) (sym h.side) h.met;
  gated = h.gated;
  follows = h.follows;
  settled = λ e. inl (h.settled e);
  climbs = λ e. absurd (let both = sym (aloft_first t.label e) ∙ h.side in cc);
}

theirs : (p : Platform) (was : Bool) (ws : List Write) (r : Monarch) (l m : Label) (q : Seat) (base : ℕ) → handler_of m ≡ handler_of l → (handler_of l ≡ Monarchs → ⊥) → Met p r ws q.apic base m → IsGated p r ws → Follows p was r.slots r.slot r.slots → (is_settled p r ws ≡ true → (was ≡ true) ⊎ Arriving r q l) → (is_aloft (need_of m) ≡ true → is_aloft (need_of l) ≡ true) → Leads p was ws r q l (record { label = m; base = base; monarch = r })
theirs p was ws r l m q base same not met gated follows settled climbs = record { side = same; current = λ e. absurd (not e); others = λ e. refl; met = met; gated = gated; follows = follows; settled = settled; climbs = λ e. inl (climbs e) }

abbrev pub LeadsOn : Platform → ℕ → State → Seat → Monarch → Label → Option Want → Type 0
LeadsOn p k s q r l None = Unit {0}
LeadsOn p k s q r l (Some (want.Do a)) = Leads p (is_settled p r s.writes) (access_effect p k true a s).writes r q l (next_at (layout_of p) q r l (value_in (answer_to true a s)))
LeadsOn p k s q r l (Some (want.Tell o)) = Leads p (is_settled p r s.writes) s.writes r q l (next_at (layout_of p) q r l (value_in Quiet))
LeadsOn p k s q r l (Some want.Resume) = Unit {0}

-- what settles: the arrived byte that is looked for, or what is told
pub settles_by : (arrived added : Bool) (n : Need) → settles arrived added n ≡ true → ((n ≡ Looking) × (arrived ≡ true)) ⊎ ((c : Bool) → settles c added n ≡ true)
settles_by arrived added Ejecting e = absurd cc
settles_by arrived added Nothing e = absurd cc
settles_by arrived added Passing e = absurd cc
settles_by arrived added Loaded e = absurd cc
settles_by arrived added Saved e = absurd cc
settles_by arrived added Adding e = absurd cc
settles_by arrived added Opening e = absurd cc
settles_by arrived added Open e = absurd cc
settles_by arrived added Looking e = inl (refl, e)
settles_by arrived added Telling e = inr (λ c. e)

-- where the add's arrived byte is as it was, nothing is settled but what was
pub settled_still : (p : Platform) (r : Monarch) (ws vs : List Write) → (need_of r.label ≡ Looking → value_from (byte_at vs) (tseg p + r.add.slot) 1 ≡ value_from (byte_at ws) (tseg p + r.add.slot) 1) → is_settled p r vs ≡ true → is_settled p r ws ≡ true
settled_still p r ws vs same e = elim (settles_by (value_from (byte_at vs) (tseg p + r.add.slot) 1 == 1) (is_added r.outcome) (need_of r.label) e) [
  | inl h ↦ subst (λ n. settles (value_from (byte_at ws) (tseg p + r.add.slot) 1 == 1) (is_added r.outcome) n ≡ true) (sym h.0) (subst (λ v. (v == 1) ≡ true) (same h.0) h.1)
  | inr h ↦ h (value_from (byte_at ws) (tseg p + r.add.slot) 1 == 1)
]

-- and then the gate is closed
pub settled_shut : (arrived added : Bool) (n : Need) → settles arrived added n ≡ true → is_open n ≡ false
settled_shut arrived added Ejecting e = absurd cc
settled_shut arrived added Nothing e = absurd cc
settled_shut arrived added Passing e = absurd cc
settled_shut arrived added Loaded e = absurd cc
settled_shut arrived added Saved e = absurd cc
settled_shut arrived added Adding e = absurd cc
settled_shut arrived added Opening e = absurd cc
settled_shut arrived added Open e = absurd cc
settled_shut arrived added Looking e = refl
settled_shut arrived added Telling e = refl

module _ (p : Platform) (k : ℕ) (s : State) (q : Seat) (r : Monarch) (sound : Sound p) (locks : Locked p s.locks) (recorded : Recorded p r) (holding : Holding p r.slots) (gated : IsGated p r s.writes) (looked_at : need_of r.label ≡ Looking → r.add.slot ≤ 512) where
  ws : List Write
  ws = s.writes

  was : Bool
  was = is_settled p r s.writes

  follow : Follows p (is_settled p r s.writes) r.slots r.slot r.slots
  follow = record { small = recorded.0; placed = recorded.1; holding = holding; grows = grows_same r.slots; holds = inr (λ a e. e) }

  -- the new SMBASE, as it is loaded
  loads_ready : is_ready p r.slots s.writes ≡ true → (loaded s.locks true (byte_at s.writes) new_smbase 4 == held_tile p r.slots) ≡ true
  loads_ready e = let reach = reach_low p s.locks 4 new_smbase sound locks (omega arith) in rw reach e

  -- an add stays settled by what it was settled by, unless its processor arrives
  settled_by : (vs : List Write) (C : Type 0) → (need_of r.label ≡ Looking → (value_from (byte_at vs) (tseg p + r.add.slot) 1 == 1) ≡ true → ((value_from (byte_at s.writes) (tseg p + r.add.slot) 1 == 1) ≡ true) ⊎ C) → is_settled p r vs ≡ true → (is_settled p r s.writes ≡ true) ⊎ C
  settled_by vs C more e = elim (settles_by (value_from (byte_at vs) (tseg p + r.add.slot) 1 == 1) (is_added r.outcome) (need_of r.label) e) [
    | inl h ↦ elim (more h.0 h.1) [
      | inl f ↦ inl (subst (λ n. settles (value_from (byte_at s.writes) (tseg p + r.add.slot) 1 == 1) (is_added r.outcome) n ≡ true) (sym h.0) f)
      | inr c ↦ inr c
    ]
    | inr h ↦ inl (h (value_from (byte_at s.writes) (tseg p + r.add.slot) 1 == 1))
  ]

  settled_same : (vs : List Write) (l : Label) → (need_of r.label ≡ Looking → value_from (byte_at vs) (tseg p + r.add.slot) 1 ≡ value_from (byte_at s.writes) (tseg p + r.add.slot) 1) → is_settled p r vs ≡ true → (is_settled p r s.writes ≡ true) ⊎ Arriving r q l
  settled_same vs l same e = settled_by vs (Arriving r q l) (λ n f. inl (subst (λ v. (v == 1) ≡ true) (same n) f)) e

  settled_left : (vs : List Write) (l : Label) → Leaves p s.writes vs → is_settled p r vs ≡ true → (is_settled p r s.writes ≡ true) ⊎ Arriving r q l
  settled_left vs l left e = settled_same vs l (λ n. left.arrivals r.add.slot (looked_at n)) e

  settled_first : q.slot ≤ 512 → is_settled p r (stored s.locks true (tseg p + q.slot) 1 1 s.writes) ≡ true → (is_settled p r s.writes ≡ true) ⊎ Arriving r q R1
  settled_first small e =
      settled_by (stored s.locks true (tseg p + q.slot) 1 1 s.writes) (Arriving r q R1)
      (λ n f. elim (same_or q.slot r.add.slot) [
        | inl i ↦ inr (record { first = refl; slot = i; looks = n })
        | inr other ↦ inl (subst (λ v. (v == 1) ≡ true) (arrivals_other p s.locks s.writes q.slot 1 r.add.slot other) f)
      ]) e

  settled_cleared : q.slot ≤ 512 → is_settled p r (stored s.locks true (tseg p + q.slot) 1 0 s.writes) ≡ true → (is_settled p r s.writes ≡ true) ⊎ Arriving r q R4
  settled_cleared small e =
      settled_by (stored s.locks true (tseg p + q.slot) 1 0 s.writes) (Arriving r q R4)
      (λ n f. elim (same_or q.slot r.add.slot) [
        | inl i ↦ absurd (let zero_there = arrived_stored p s.locks s.writes q.slot 0 sound locks small (omega arith) in let g : (0 == 1) ≡ true = subst (λ v. (v == 1) ≡ true) zero_there (subst (λ x. (value_from (byte_at (stored s.locks true (tseg p + q.slot) 1 0 s.writes)) (tseg p + x) 1 == 1) ≡ true) (sym i) f) in cc)
        | inr other ↦ inl (subst (λ v. (v == 1) ≡ true) (arrivals_other p s.locks s.writes q.slot 0 r.add.slot other) f)
      ]) e

  -- past the gate: whoever finds its APIC ID there has closed it
  passes : q.apic ≤ 0xffffffff → Leads p (is_settled p r s.writes) (swapped s.locks true gate q.apic closed s.writes) r q F1 (stays (if loaded s.locks true (byte_at s.writes) gate 8 == q.apic then F2 else F1) q r)
  passes small = by_found (loaded s.locks true (byte_at s.writes) gate 8 == q.apic) refl
    where
      by_found : (c : Bool) → (loaded s.locks true (byte_at s.writes) gate 8 == q.apic) ≡ c → Leads p (is_settled p r s.writes) (if c then stored s.locks true gate 8 closed s.writes else s.writes) r q F1 (stays (if c then F2 else F1) q r)
      by_found true e =
          let found_it = finds p s r q.apic sound locks gated small e in
          let vs = stored s.locks true gate 8 closed s.writes in
          record {
            side = refl;
            current = λ f. absurd cc;
            others = λ f. refl;
            met = (found_it.held, (leaves_gate p r.slots s.locks s.writes closed sound).ready found_it.ready);
            gated = inl (gate_stored p s.locks s.writes closed sound locks (omega arith));
            follows = follow;
            settled = settled_same vs F1 (λ n. arrivals_low p s.locks s.writes gate 8 closed r.add.slot sound (omega arith));
            climbs = λ f. inr (refl, found_it.may);
          }
      by_found false e = theirs p (is_settled p r s.writes) s.writes r F1 F1 q q.base refl (λ g. cc) tt gated follow (λ f. inl f) (λ f. f)

  -- the gate is closed where the monarch's label isn't one at which it may be open
  shut_at : (l : Label) → r.label ≡ l → is_open (need_of l) ≡ false → IsShut s.writes
  shut_at l is not = elim gated [
    | inl shut ↦ shut
    | inr o ↦ absurd (let f : is_open (need_of l) ≡ true = subst (λ m. is_open (need_of m) ≡ true) is o.may in let both = sym not ∙ f in cc)
  ]

  -- the arrived byte of the add, as it is loaded
  reads_arrived : r.add.slot ≤ 512 → loaded s.locks true (byte_at s.writes) (tseg p + r.add.slot) 1 ≡ value_from (byte_at s.writes) (tseg p + r.add.slot) 1
  reads_arrived small = let reach = reach_arrived p s.locks r.add.slot sound locks small in rw reach refl

  pub row_leads : q.apic ≤ 0xffffffff → q.slot ≤ 512 → (l : Label) → (handler_of l ≡ Monarchs → r.label ≡ l) → Met p r s.writes q.apic q.base l → LeadsOn p k s q r l (want_at (layout_of p) q r l)
  row_leads apic small l is met =
      let y = layout_of p in
      let w = is_settled p r s.writes in
      let few = sound.few in
      let slot = recorded.0 in
      let shared = λ (a v : ℕ) (low : tseg p + 0x1000 ≤ a) (high : a < tseg p + 0x5000). leaves_shared p s.locks s.writes a v sound low high in
      let byte = λ (a : ℕ). loaded s.locks true (byte_at s.writes) a 1 in
      let next = λ (l m : Label) (side : handler_of m ≡ handler_of l) (other : handler_of l ≡ Monarchs → ⊥) (met : Met p r s.writes q.apic q.base m) (climbs : is_aloft (need_of m) ≡ true → is_aloft (need_of l) ≡ true). theirs p w s.writes r l m q q.base side other met gated follow (λ f. inl f) climbs in
      row_of_each (λ l. (handler_of l ≡ Monarchs → r.label ≡ l) → Met p r s.writes q.apic q.base l → LeadsOn p k s q r l (want_at y q r l)) (record {
        f1 = λ e m. passes apic;
        f2 = λ e m. theirs p w s.writes r F2 F3 q (loaded s.locks true (byte_at s.writes) new_smbase 4) refl (λ g. cc) (m.0, loads_ready m.1) gated follow (λ f. inl f) (λ f. f);
        f3 = λ e m. let tile_is = eqb-true q.base (held_tile p r.slots) m.1 in
            let vs = stored s.locks true default_smbase_field 4 q.base s.writes in
            theirs p w vs r F3 F4 q q.base refl (λ g. cc)
            (m.0, (writes_saved p r.slots s.locks s.writes q.base sound locks tile_is (subst (λ b. b < 0x100000000) (sym tile_is) (held_small p r.slots q.apic sound holding m.0))).1)
            (gated_saved p r s.locks s.writes q.base gated) follow (settled_same vs F3 (λ n. arrivals_low p s.locks s.writes default_smbase_field 4 q.base r.add.slot sound (omega arith))) (λ f. f);
        f4 = λ e m. let left = leaves_flag p s.locks s.writes 1 sound in
            theirs p w _ r F4 F5 q q.base refl (λ g. cc) (m.0, (writes_first p r.slots s.writes _ left.first).returns m.1) (gated_first p r s.writes _ left.first gated) follow (settled_left _ F4 left) (λ f. f);
        f5 = λ e m. next F5 F6 refl (λ g. cc) m (λ f. f);
        f6 = λ e m. tt;
        r1 = λ e m. theirs p w _ r R1 R2 q q.base refl (λ g. cc) tt (gated_first p r s.writes _ (leaves_arrived p s.locks s.writes q.slot 1 sound small) gated) follow (settled_first small) (λ f. f);
        r2 = λ e m. pick (λ n. Leads p w s.writes r q R2 (stays n q r)) _ R6 R3 (next R2 R6 refl (λ g. cc) tt (λ f. f)) (next R2 R3 refl (λ g. cc) tt (λ f. f));
        r3 = λ e m. pick (λ n. Leads p w s.writes r q R3 (stays n q r)) _ R4 R1 (next R3 R4 refl (λ g. cc) tt (λ f. f)) (next R3 R1 refl (λ g. cc) tt (λ f. f));
        r4 = λ e m. theirs p w _ r R4 R5 q q.base refl (λ g. cc) tt (gated_first p r s.writes _ (leaves_arrived p s.locks s.writes q.slot 0 sound small) gated) follow (settled_cleared small) (λ f. f);
        r5 = λ e m. tt;
        r6 = λ e m. let left = shared (parked_byte y q.slot) 1 (omega arith) (omega (arith, small)) in
            theirs p w _ r R6 R2 q q.base refl (λ g. cc) tt (gated_first p r s.writes _ left.first gated) follow (settled_left _ R6 left) (λ f. f);
        s0 = λ e m. mine p w _ r (first_slot S1 S2 r) S0 q refl (arrives_first p _ sound w r.slots q.apic q.base ((shared (session_byte y) 1 (omega arith) (omega arith)).first.gates ∙ shut_at S0 (e refl) refl) S1 S2 r refl refl refl refl follow);
        s1 = λ e m. mine p w _ r (next_slot S1 S2 r) S1 q refl (arrives_next p _ sound w r.slots q.apic q.base ((shared (release_byte y r.slot) 0 (omega arith) (omega (arith, slot))).first.gates ∙ shut_at S1 (e refl) refl) S1 S2 r refl refl refl refl follow);
        s2 = λ e m. mine p w s.writes r (look_at y.polls (known_from r.slots 1) r) S2 q refl (arrives_known p s.writes sound w r.slots q.apic q.base (shut_at S2 (e refl) refl) y.polls 1 r follow);
        s3 = λ e m. let v = byte (arrived_byte y r.slot) in mine p w s.writes r (looked y.polls v (noted r.slot v r)) S3 q refl (arrives_looked p s.writes sound w r.slots q.apic q.base (shut_at S3 (e refl) refl) y.polls v (noted r.slot v r) (e refl) follow);
        s4 = λ e m. let v = read_port 0xb2 1 s in mine p w s.writes r (commanded v r) S4 q refl (arrives_commanded p s.writes sound w r.slots q.apic q.base (shut_at S4 (e refl) refl) v r follow);
        c1 = λ e m. mine p w s.writes r (at_label C2 r) C1 q refl (arrives_label p s.writes sound w r.slots q.apic q.base (shut_at C1 (e refl) refl) C2 r refl refl follow);
        c2 = λ e m. mine p w s.writes r (at_label C3 r) C2 q refl (arrives_label p s.writes sound w r.slots q.apic q.base (shut_at C2 (e refl) refl) C3 r refl refl follow);
        c3 = λ e m. let v = read_port 0xce0 4 s in mine p w s.writes r (after_collection y.apics (found y.count v r.collection) r) C3 q refl (arrives_found p s.writes sound w r.slots q.apic q.base (shut_at C3 (e refl) refl) v r.collection r follow);
        c4 = λ e m. let v = read_port 0xcdc 1 s in mine p w s.writes r (after_collection y.apics (judged y.count v r.collection) r) C4 q refl (arrives_judged p s.writes sound w r.slots q.apic q.base (shut_at C4 (e refl) refl) v r.collection r follow);
        c5 = λ e m. mine p w s.writes r (at_label C6 r) C5 q refl (arrives_label p s.writes sound w r.slots q.apic q.base (shut_at C5 (e refl) refl) C6 r refl refl follow);
        c6 = λ e m. let v = read_port 0xce0 4 s in mine p w s.writes r (after_collection y.apics (reported y.count v r.collection) r) C6 q refl (arrives_reported p s.writes sound w r.slots q.apic q.base (shut_at C6 (e refl) refl) v r.collection r follow);
        nb = λ e m. let less = m.0.1 in mine p w _ r (after_add (AddsAt N0 (record r.add { attempt = 1 })) r) NB q refl
            (arrives_adding p _ sound w r.slots q.apic q.base ((shared (release_byte y r.add.slot) 0 (omega arith) (omega (arith, few, less))).first.gates ∙ shut_at NB (e refl) refl) N0 (record r.add { attempt = 1 }) r refl (λ x z. refl) m follow);
        n0 = λ e m. let less = m.0.1 in mine p w _ r (at_label N1 r) N0 q refl
            (arrives_adding p _ sound w r.slots q.apic q.base ((leaves_arrived p s.locks s.writes r.add.slot 0 sound (omega (arith, few, less))).gates ∙ shut_at N0 (e refl) refl) N1 r.add r refl (λ x z. refl) m follow);
        n1 = λ e m. mine p w _ r (at_label N2 r) N1 q refl (arrives_adding p _ sound w r.slots q.apic q.base ((leaves_flag p s.locks s.writes 0 sound).first.gates ∙ shut_at N1 (e refl) refl) N2 r.add r refl (λ x z. refl) m follow);
        n2 = λ e m. mine p w _ r (at_label N3 r) N2 q refl
            (arrives_adding p _ sound w r.slots q.apic q.base (shut_new p s.locks s.writes (tile p r.add.slot) (shut_at N2 (e refl) refl)) N3 r.add r refl (λ x z. refl)
            (m.0, m.1, (writes_new p r.slots s.locks s.writes (tile p r.add.slot) sound locks (add_tile p r m.1) (small_tile p r.add.slot sound m.0.1)).1) follow);
        n3 = λ e m. mine p w s.writes r (at_label N4 r) N3 q refl (arrives_adding p s.writes sound w r.slots q.apic q.base (shut_at N3 (e refl) refl) N4 r.add r refl (λ x z. refl) m follow);
        n4 = λ e m. mine p w s.writes r (at_label N5 r) N4 q refl (arrives_adding p s.writes sound w r.slots q.apic q.base (shut_at N4 (e refl) refl) N5 r.add r refl (λ x z. refl) m follow);
        n5 = λ e m. mine p w s.writes r (at_label N6 r) N5 q refl (arrives_adding p s.writes sound w r.slots q.apic q.base (shut_at N5 (e refl) refl) N6 r.add r refl (λ x z. refl) m follow);
        n6 = λ e m. mine p w s.writes r (at_label N7 r) N6 q refl (arrives_adding p s.writes sound w r.slots q.apic q.base (shut_at N6 (e refl) refl) N7 r.add r refl (λ x z. refl) m follow);
        n7 = λ e m. opens m;
        n8a = λ e m. let v = byte flag in mine p w s.writes r (after_add (saw_flag v r.add) r) N8a q refl (arrives_flag p s.writes sound w r.slots q.apic q.base v r.add r m.0 m.1 m.2 gated follow);
        n8b = λ e m. let v = byte (arrived_byte y r.add.slot) in mine p w s.writes r (after_add (saw_pair v r.add) (noted r.add.slot v r)) N8b q refl
            (arrives_pair p s.writes sound w r.slots q.apic q.base v r.add (noted r.add.slot v r) m.0 m.1 m.2 (reopened p s.writes r (noted r.add.slot v r) (subst (λ x. is_open (need_of x) ≡ true) (sym (e refl)) refl) refl gated) follow);
        n9 = λ e m. mine p w _ r (after_add (shut r.add) r) N9 q refl (arrives_shut p _ sound w r.slots q.apic q.base (gate_stored p s.locks s.writes closed sound locks (omega arith)) r.add r m.0 m.1 follow);
        n10 = λ e m. let less = m.0.1 in mine p w _ r (after_add (AddsAt N11 (record r.add { polls = y.polls })) r) N10 q refl
            (arrives_looking p _ sound w r.slots q.apic q.base ((leaves_arrived p s.locks s.writes r.add.slot 0 sound (omega (arith, few, less))).gates ∙ shut_at N10 (e refl) refl) (record r.add { polls = y.polls }) r m.0 m.1
            (λ f. absurd (let g : (0 == 1) ≡ true = subst (λ v. (v == 1) ≡ true) (arrived_stored p s.locks s.writes r.add.slot 0 sound locks (omega (arith, few, less)) (omega arith)) f in cc)) follow);
        n11 = λ e m. let less = m.0.1 in
            let v = byte (arrived_byte y r.add.slot) in
            let seen : (value_from (byte_at s.writes) (tseg p + r.add.slot) 1 == 1) ≡ true → w ≡ true = λ f. subst (λ x. settles (value_from (byte_at s.writes) (tseg p + r.add.slot) 1 == 1) (is_added r.outcome) (need_of x) ≡ true) (sym (e refl)) f in
            mine p w s.writes r (after_add (saw_arrival v r.add) (noted r.add.slot v r)) N11 q refl
            (arrives_arrival p s.writes sound w r.slots q.apic q.base (shut_at N11 (e refl) refl) v r.add (noted r.add.slot v r) m.0 m.1 (λ f. seen (subst (λ x. (x == 1) ≡ true) (reads_arrived (omega (arith, few, less))) f)) seen follow);
        e0 = λ e m. let low = ejected_small p r sound m in mine p w _ r (at_label E1 r) E0 q refl
            (arrives_ejecting p _ sound w r.slots q.apic q.base ((shared (parked_byte y r.eject.slot) 0 (omega arith) (omega (arith, low))).first.gates ∙ shut_at E0 (e refl) refl) E1 r.eject r refl refl m follow);
        e1 = λ e m. let low = ejected_small p r sound m in mine p w _ r (after_eject (awaits y.polls r.eject) r) E1 q refl
            (arrives_ejecting p _ sound w r.slots q.apic q.base ((shared (map_byte y r.eject.slot) 1 (omega arith) (omega (arith, low))).first.gates ∙ shut_at E1 (e refl) refl) E2 (record r.eject { polls = y.polls }) r refl refl m follow);
        e2 = λ e m. let v = byte (parked_byte y r.eject.slot) in mine p w s.writes r (after_eject (saw_parked v r.eject) r) E2 q refl
            (arrives_parked p s.writes sound w r.slots q.apic q.base (shut_at E2 (e refl) refl) v r.eject r m follow);
        e3 = λ e m. let low = ejected_small p r sound m in mine p w _ r (after_eject (unparked r.eject) r) E3 q refl
            (arrives_ended p _ sound w r.slots q.apic q.base ((shared (map_byte y r.eject.slot) 0 (omega arith) (omega (arith, low))).first.gates ∙ shut_at E3 (e refl) refl) _ r refl follow);
        e4a = λ e m. mine p w s.writes r (at_label E4b r) E4a q refl (arrives_ejecting p s.writes sound w r.slots q.apic q.base (shut_at E4a (e refl) refl) E4b r.eject r refl refl m follow);
        e4b = λ e m. mine p w s.writes r (at_label (handed_to_block y.late) r) E4b q refl (arrives_handed p s.writes sound w r.slots q.apic q.base (shut_at E4b (e refl) refl) y.late r m follow);
        e4c = λ e m. let low = ejected_small p r sound m in mine p w _ r (at_label E4d r) E4c q refl
            (arrives_ejecting p _ sound w r.slots q.apic q.base ((leaves_arrived p s.locks s.writes r.eject.slot 0 sound low).gates ∙ shut_at E4c (e refl) refl) E4d r.eject r refl refl m follow);
        e4d = λ e m. let low = ejected_small p r sound m in mine p w _ r (at_label E4e r) E4d q refl
            (arrives_ejecting p _ sound w r.slots q.apic q.base ((shared (map_byte y r.eject.slot) 0 (omega arith) (omega (arith, low))).first.gates ∙ shut_at E4d (e refl) refl) E4e r.eject r refl refl m follow);
        e4e = λ e m. let low = ejected_small p r sound m in mine p w _ r (after_eject (gone r.eject) r) E4e q refl
            (arrives_ended p _ sound w r.slots q.apic q.base ((shared (parked_byte y r.eject.slot) 0 (omega arith) (omega (arith, low))).first.gates ∙ shut_at E4e (e refl) refl) _ r refl follow);
        e4f = λ e m. mine p w s.writes r (at_label E4g r) E4f q refl (arrives_ejecting p s.writes sound w r.slots q.apic q.base (shut_at E4f (e refl) refl) E4g r.eject r refl refl m follow);
        e4g = λ e m. let v = read_port 0xcdc 1 s in mine p w s.writes r (after_eject (saw_status v r.eject) r) E4g q refl
            (arrives_status p s.writes sound w r.slots q.apic q.base (shut_at E4g (e refl) refl) v r.eject r m follow);
        e4h = λ e m. let low = ejected_small p r sound m in mine p w _ r (after_eject (given_up r.eject) r) E4h q refl
            (arrives_ended p _ sound w r.slots q.apic q.base ((shared (map_byte y r.eject.slot) 0 (omega arith) (omega (arith, low))).first.gates ∙ shut_at E4h (e refl) refl) _ r refl follow);
        t = λ e m. mine p w s.writes r (next_report y.apics (after_tell r.outcome r)) T q refl
            (arrives_told p s.writes sound w r.slots q.apic q.base (shut_at T (e refl) refl) r.outcome r (λ f. subst (λ x. settles (value_from (byte_at s.writes) (tseg p + r.add.slot) 1 == 1) (is_added r.outcome) (need_of x) ≡ true) (sym (e refl)) f) follow);
        e5 = λ e m. mine p w _ r (first_slot E6 E7 r) E5 q refl (arrives_first p _ sound w r.slots q.apic q.base ((shared (session_byte y) 0 (omega arith) (omega arith)).first.gates ∙ shut_at E5 (e refl) refl) E6 E7 r refl refl refl refl follow);
        e6 = λ e m. mine p w _ r (next_slot E6 E7 r) E6 q refl (arrives_next p _ sound w r.slots q.apic q.base ((shared (release_byte y r.slot) 1 (omega arith) (omega (arith, slot))).first.gates ∙ shut_at E6 (e refl) refl) E6 E7 r refl refl refl refl follow);
        e7 = λ e m. tt;
      }) (facts_of p r s.writes q.apic q.base) l met is met
    where
      -- the gate is opened to the APIC ID of the add, which is held
      opens : MonarchNeeds (facts_of p r s.writes q.apic q.base) Opening → Leads p (is_settled p r s.writes) (stored s.locks true gate 8 r.add.apic s.writes) r q N7 (by_record q (after_add (AddsAt N8a (record r.add { polls = p.polls })) r))
      opens m =
          let t = after_add (AddsAt N8a (record r.add { polls = p.polls })) r in
          let vs = stored s.locks true gate 8 r.add.apic s.writes in
          let parts = and_parts (is_that r.slots.held r.add.apic) (r.add.slot == slot_among r.slots.bound r.add.apic) m.1 in
          let ready = (leaves_gate p r.slots s.locks s.writes r.add.apic sound).ready m.2 in
          mine p (is_settled p r s.writes) vs r t N7 q refl (record {
            side = refl;
            met = (m.0, m.1, ready);
            gated = inr (record { may = refl; held = subst (λ v. is_that r.slots.held v ≡ true) (sym (gate_stored p s.locks s.writes r.add.apic sound locks (held_id r.add.apic parts.0))) parts.0; ready = ready });
            settled = λ e. absurd cc;
            follows = follow;
          })
        where
          held_id : (a : ℕ) → is_that r.slots.held a ≡ true → a < 0x10000000000000000
          held_id a e = let small = bound_id p r.slots a sound recorded.1 (holding.in_bound a (that_is r.slots.held a e)) in omega (arith, small)
