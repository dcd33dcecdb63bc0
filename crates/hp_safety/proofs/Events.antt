-- Each event after the hand-over keeps the invariant.
use Rattle.std.proofs.Common.{ℕ, ◌≡◌, ◌≢◌, ◌+◌, ◌-◌, ◌*◌, ◌%◌, ◌≤◌, ◌==◌, ◌⊎◌, inl, inr, Bool, true, false, cond, not, ◌&&◌, ◌||◌, nat_lt, List, Option, Some, None, refl, sym, ap, subst, ◌∙◌, arith}
use Rattle.std.proofs.lemmas.Bool.{and_parts, eqb-true, ltb-true}
use Rattle.std.proofs.lemmas.Bool.Decides.{nat_tests}
use Rattle.hp_model.proofs.Cases.{or_cases}
use Rattle.hp_model.specs.declared.platforms.Platform.{Platform}
use Rattle.hp_model.specs.declared.processors.Cpu.{Cpu}
use Rattle.hp_model.specs.declared.processors.Mode.{Mode}
use Rattle.hp_model.specs.declared.processors.Mode.TheVariants.{Wait, Running, Halted, Smm}
use Rattle.hp_model.specs.declared.accesses.Answer.{Answer}
use Rattle.hp_model.specs.declared.labels.Label.{Label}
use Rattle.hp_model.specs.declared.entries.Event.{Event}
use Rattle.hp_model.specs.declared.entries.Event.TheVariants.{Insert, Remove, Do, TakeSmi, TakeInit, Resume, Tell}
use Rattle.hp_model.specs.Platform.{tseg, tile, count_of, apic_of}
use Rattle.hp_model.specs.Memory.{Write, byte_at, value_from}
use Rattle.hp_model.specs.View.{Locks, is_hole}
use Rattle.hp_model.specs.Block.{with_insert, with_removal}
use Rattle.hp_model.specs.Ich9.{with_event, processor_event}
use Rattle.hp_model.specs.Cpu.{smm_address, inserted, take_init, resumed, is_in_smm, is_outside, may_take_init, address_in}
use Rattle.hp_model.specs.Boot.{Stage, Boots, Refused, Handed, is_handed, stage_after}
use Rattle.hp_model.specs.SaveArea.{smbase_field, saved_smbase, saved_rip}
use Rattle.hp_model.specs.declared.labels.Handler.{Handler}
use Rattle.hp_model.specs.declared.labels.Handler.TheVariants.{First, Relocated, Monarch as Monarchs}
use Rattle.hp_model.specs.Labels.{handler_of}
use Rattle.hp_model.specs.SharedBytes.{layout_of, default_smbase_field}
use Rattle.hp_model.specs.Slots.{slot_among}
use Rattle.hp_model.specs.Monarch.{Monarch}
use Rattle.hp_model.specs.Handlers.{Seat, want_at, wanted_at, runs_at}
use Rattle.hp_model.specs.State.{State, at, set_cpu}
use Rattle.hp_model.specs.Access.{access_effect, answer_to}
use Rattle.hp_model.specs.Firmware.{label_at, seat, is_that_access, is_rsm, is_handlers, wanted_in, row_effect, handlers_effect, firmware_effect}
use Rattle.hp_model.specs.Step.{After, is_enabled, insert, request_removal, leave_smm, effect_of, answer_of, is_disturbed_by, step}
use Rattle.hp_sealed.specs.Left.{Sound}
use Rattle.hp_sealed.specs.Sealed.{is_other_tile, is_based, IsAtSlot}
use Rattle.hp_sealed.proofs.Stay.{Stays}
use Rattle.hp_sealed.proofs.Starts.{set_all, first_set}
use Rattle.hp_sealed.proofs.Places.{Base, base_based, slot_of}
use Rattle.hp_safety.proofs.Needs.{Nothing, Saved, need_of, is_aloft, FirstNeeds, Needs}
use Rattle.hp_safety.proofs.EachRow.{row_of_each}
use Rattle.hp_safety.proofs.Invariant.{held_tile, facts_of, Met, Saves, is_past, Invariant, CpuParts}
use Rattle.hp_safety.proofs.Aloft.{aloft_first}
use Rattle.hp_safety.proofs.Ties.{Free, tie_of}
use Rattle.hp_sealed.proofs.Goes.{stepped}
use Rattle.hp_safety.proofs.Keeps.{unmoved, gathered, smm_present, cpu_parts, cpu_parts_stays, cpu_parts_absent, cpu_parts_outside, reach_base, that_is, AtRow, row_stands, current_label_is}
use Rattle.hp_safety.proofs.Rows.{slot_tile}
use Rattle.hp_safety.proofs.Accesses.{keeps_outside, keeps_access, keeps_told}
use Rattle.hp_safety.proofs.Entering.{keeps_smi}

-- one processor changes, and memory doesn't
keeps_cpu : (p : Platform) (m : List Write) (s : State) (k : ℕ) (d : Cpu) → Invariant p m s → CpuParts p s.monarch s.writes k d → (k ≡ 0 → d.present ≡ true) → (k ≡ 0 → smm_address d ≡ None → need_of s.monarch.label ≡ Nothing) → (is_past (smm_address (at s k)) ≡ false → is_past (smm_address d) ≡ false) → Invariant p m (set_cpu k d s)
keeps_cpu p m s k d h sits first rests calm =
    let there = first_set s.cpus k d h.slots.first first in
    gathered p m (set_cpu k d s) h.handed (record { marks = h.locked.marks; registers = h.locked.registers; kept = h.locked.kept })
    (set_all (CpuParts p s.monarch s.writes) s.cpus k d (cpu_parts_absent p s.monarch s.writes k) sits (λ j other. cpu_parts p m s j h)) there h.gated
    (set_all (λ j c. j ≡ 0 → c.present ≡ true → smm_address c ≡ None → need_of s.monarch.label ≡ Nothing) s.cpus k d (λ i e f. absurd cc) (λ i e f. rests i f)
    (λ j other i e f. h.rests (subst (λ x. smm_address (at s x) ≡ None) i f)) 0 refl there)
    h.recorded h.holding
    (λ e. set_all (λ j c. is_past (smm_address c) ≡ false) s.cpus k d refl (calm (h.settled e k)) (λ j other. h.settled e j))

-- INIT
pub stays_init : (c : Cpu) → may_take_init c ≡ true → Stays c (take_init c)
stays_init c e =
    let parts = and_parts c.init (is_outside c.mode) (and_parts (not c.smi) (c.init && is_outside c.mode) (and_parts c.present (not c.smi && (c.init && is_outside c.mode)) e).1).1 in
    record { present = refl; smbase = refl; base = refl; address = rw (none_outside c.mode parts.1) refl }
  where
    none_outside : (m : Mode) → is_outside m ≡ true → address_in m ≡ None
    none_outside Wait e = absurd cc
    none_outside (Running g) e = refl
    none_outside (Halted g) e = refl
    none_outside (Smm a) e = absurd cc

keeps_init : (p : Platform) (m : List Write) (s : State) (k : ℕ) → Invariant p m s → may_take_init (at s k) ≡ true → Invariant p m (set_cpu k (take_init (at s k)) s)
keeps_init p m s k h may =
    let stays : Stays (at s k) (take_init (at s k)) = stays_init (at s k) may in
    keeps_cpu p m s k (take_init (at s k)) h (cpu_parts_stays p s.monarch s.writes k (at s k) (take_init (at s k)) stays (cpu_parts p m s k h))
    (λ e. stays.present ∙ subst (λ i. (at s i).present ≡ true) (sym e) h.slots.first)
    (λ e f. h.rests (subst (λ i. smm_address (at s i) ≡ None) e (sym stays.address ∙ f)))
    (λ e. ap is_past stays.address ∙ e)

-- host events: whoever is inserted has the default SMBASE, and isn't processor 0, which is there
keeps_insert : (p : Platform) (m : List Write) (s : State) (k : ℕ) → Invariant p m s → (nat_lt k (count_of p) && not (at s k).present) ≡ true → Invariant p m (insert k s)
keeps_insert p m s k h may =
    let parts = and_parts (nat_lt k (count_of p)) (not (at s k).present) may in
    let other : k ≢ 0 = λ e. was_absent (at s k).present parts.1 (subst (λ i. (at s i).present ≡ true) (sym e) h.slots.first) in
    unmoved p m (set_cpu k inserted s) (with_insert s.block k) (with_event processor_event s.ich9) s.fw_cfg s.stage s.disturbed h.handed
    (keeps_cpu p m s k inserted h (cpu_parts_outside p s.monarch s.writes k inserted refl (λ e. based_new k other) (λ e. ltb-true k (count_of p) parts.0) (λ e. inl refl)) (λ e. refl) (λ e f. absurd (other e)) (λ e. refl))
  where
    was_absent : (b : Bool) → not b ≡ true → b ≡ true → ⊥
    was_absent true e f = cc
    was_absent false e f = cc

    based_new : (k : ℕ) → k ≢ 0 → is_based p k 0x30000 ≡ true
    based_new k n = let z : (k == 0) ≡ false = grind (arith, nat_tests) in rw z refl

keeps_removal : (p : Platform) (m : List Write) (s : State) (k : ℕ) → Invariant p m s → Invariant p m (request_removal k s)
keeps_removal p m s k h = unmoved p m s (with_removal s.block k) (with_event processor_event s.ich9) s.fw_cfg s.stage s.disturbed h.handed h

-- RSM
read_back : (l : Locks) (ws : List Write) (c : Cpu) → is_hole l true (c.smbase + smbase_field) 4 ≡ false → saved_smbase l ws c ≡ value_from (byte_at ws) (c.smbase + smbase_field) 4
unfolding saved_smbase
read_back l ws c e = rw e refl

-- rows of RSM: the first handler's is past the gate, and the others need nothing
abbrev pub Returns : Label → Type 0
Returns l = (need_of l ≡ Saved) ⊎ ((handler_of l ≢ First) × (need_of l ≡ Nothing) × (tie_of l ≡ Free))

pub row_returns : (p : Platform) (q : Seat) (r : Monarch) (ws : List Write) (l : Label) → Met p r ws q.apic q.base l → is_rsm (want_at (layout_of p) q r l) ≡ true → Returns l
row_returns p q r ws l met is = row_of_each (λ l. is_rsm (want_at (layout_of p) q r l) ≡ true → Returns l) (record { f1 = λ e. absurd cc; f2 = λ e. absurd cc; f3 = λ e. absurd cc; f4 = λ e. absurd cc; f5 = λ e. absurd cc; f6 = λ e. inl refl; r1 = λ e. absurd cc; r2 = λ e. absurd cc; r3 = λ e. absurd cc; r4 = λ e. absurd cc; r5 = λ e. inr (λ f. cc, refl, refl); r6 = λ e. absurd cc; s0 = λ e. absurd cc; s1 = λ e. absurd cc; s2 = λ e. absurd cc; s3 = λ e. absurd cc; s4 = λ e. absurd cc; c1 = λ e. absurd cc; c2 = λ e. absurd cc; c3 = λ e. absurd cc; c4 = λ e. absurd cc; c5 = λ e. absurd cc; c6 = λ e. absurd cc; nb = λ e. absurd cc; n0 = λ e. absurd cc; n1 = λ e. absurd cc; n2 = λ e. absurd cc; n3 = λ e. absurd cc; n4 = λ e. absurd cc; n5 = λ e. absurd cc; n6 = λ e. absurd cc; n7 = λ e. absurd cc; n8a = λ e. absurd cc; n8b = λ e. absurd cc; n9 = λ e. absurd cc; n10 = λ e. absurd cc; n11 = λ e. absurd cc; e0 = λ e. absurd cc; e1 = λ e. absurd cc; e2 = λ e. absurd cc; e3 = λ e. absurd cc; e4a = λ e. absurd cc; e4b = λ e. absurd cc; e4c = λ e. absurd cc; e4d = λ e. absurd cc; e4e = λ e. absurd cc; e4f = λ e. absurd cc; e4g = λ e. absurd cc; e4h = λ e. absurd cc; t = λ e. absurd cc; e5 = λ e. absurd cc; e6 = λ e. absurd cc; e7 = λ e. inr (λ f. cc, refl, refl) }) (facts_of p r ws q.apic q.base) l met is

-- what RSM makes of SMBASE: a tile's own stays; past the gate it is the default one, or the tile of the held slot
pub record Reads (p : Platform) (s : State) (k v : ℕ) : Type 0 where
  pub based : is_based p k v ≡ true
  pub slotted : IsAtSlot p s.monarch.slots.bound (apic_of p k) v

pub reads_tile : (p : Platform) (m : List Write) (s : State) (k : ℕ) (l : Label) → Sound p → Invariant p m s → AtRow p s k l → handler_of l ≢ First → value_from (byte_at s.writes) ((at s k).smbase + smbase_field) 4 ≡ (at s k).smbase
reads_tile p m s k l sound h here other = elim (subst (Saves s.writes (at s k).smbase) here.is (h.slots.saved k)) [ inl e ↦ absurd (not_default (handler_of l) other here.cell.runs e) | inr e ↦ e ]
  where
    far : (base b slot : ℕ) → 0x800000 ≤ base → b ≡ base + 0x20000 + slot * 0x10000 → b ≡ 0x30000 → ⊥
    far base b slot above e f = omega (arith, above, e, f)

    not_default : (q : Handler) → q ≢ First → runs_at (layout_of p) q k (at s k).smbase ≡ true → (at s k).smbase ≡ 0x30000 → ⊥
    not_default First n runs e = n refl
    not_default Relocated n runs e = let t = slot_of p (at s k).smbase (and_parts (not (k == 0)) (is_other_tile (layout_of p) (at s k).smbase) runs).1 in far (tseg p) (at s k).smbase t.slot sound.above t.is e
    not_default Monarchs n runs e = far (tseg p) (at s k).smbase 0 sound.above (eqb-true (at s k).smbase (tile p 0) (and_parts (k == 0) ((at s k).smbase == tile p 0) runs).1) e

reads_first : (p : Platform) (m : List Write) (s : State) (k : ℕ) (l : Label) → Sound p → Invariant p m s → AtRow p s k l → need_of l ≡ Saved → Reads p s k (value_from (byte_at s.writes) ((at s k).smbase + smbase_field) 4)
reads_first p m s k l sound h here is =
    let r = s.monarch in
    let b = (at s k).smbase in
    let f = facts_of p r s.writes (apic_of p k) (at s k).base in
    let side : handler_of l ≡ First = aloft_first l (ap is_aloft is) in
    let runs : (not (k == 0) && (b == 0x30000)) ≡ true = subst (λ q. runs_at (layout_of p) q k b ≡ true) side here.cell.runs in
    let parts = and_parts (not (k == 0)) (b == 0x30000) runs in
    let met : FirstNeeds f Saved = subst (FirstNeeds f) is (subst (λ q. Needs f q (need_of l)) side here.cell.met) in
    let held = that_is r.slots.held (apic_of p k) met.0 in
    subst (λ a. Reads p s k (value_from (byte_at s.writes) (a + smbase_field) 4)) (sym (eqb-true b 0x30000 parts.1))
    (elim (or_cases (value_from (byte_at s.writes) default_smbase_field 4 == 0x30000) (value_from (byte_at s.writes) default_smbase_field 4 == held_tile p r.slots) met.1) [
      | inl e ↦ subst (Reads p s k) (sym (eqb-true (value_from (byte_at s.writes) default_smbase_field 4) 0x30000 e)) (record { based = default_based (k == 0) refl parts.0; slotted = inl refl })
      | inr e ↦ (let own : held_tile p r.slots ≡ tile p (slot_among r.slots.bound (apic_of p k)) = rw held refl in
          subst (Reads p s k) (sym (eqb-true (value_from (byte_at s.writes) default_smbase_field 4) (held_tile p r.slots) e ∙ own))
          (record { based = tile_based (k == 0) refl parts.0 (tile p (slot_among r.slots.bound (apic_of p k))) (slot_tile p (slot_among r.slots.bound (apic_of p k)) (h.holding.slot (apic_of p k) held)); slotted = inr (h.holding.in_bound (apic_of p k) held, refl) }))
    ])
  where
    default_based : (c : Bool) → (k == 0) ≡ c → not c ≡ true → is_based p k 0x30000 ≡ true
    default_based true z e = absurd cc
    default_based false z e = rw z refl

    tile_based : (c : Bool) → (k == 0) ≡ c → not c ≡ true → (b : ℕ) → is_other_tile (layout_of p) b ≡ true → is_based p k b ≡ true
    tile_based true z e b o = absurd cc
    tile_based false z e b o = rw z (more (b == 0x30000) (is_other_tile (layout_of p) b) o)
      where
        more : (c d : Bool) → d ≡ true → (c || d) ≡ true
        more true d f = refl
        more false d f = f

reads : (p : Platform) (m : List Write) (s : State) (k : ℕ) (l : Label) → Sound p → Invariant p m s → AtRow p s k l → Returns l → Reads p s k (value_from (byte_at s.writes) ((at s k).smbase + smbase_field) 4)
reads p m s k l sound h here (inl is) = reads_first p m s k l sound h here is
reads p m s k l sound h here (inr n) =
    let present = smm_present (at s k) here.address here.is in
    subst (Reads p s k) (sym (reads_tile p m s k l sound h here n.0)) (record { based = h.slots.based k present; slotted = h.slots.slotted k present })

-- the SMBASE after it
pub returns_to : (p : Platform) (m : List Write) (s : State) (k : ℕ) (l : Label) → Sound p → Invariant p m s → AtRow p s k l → Returns l → saved_smbase s.locks s.writes (at s k) - saved_smbase s.locks s.writes (at s k) % 0x10000 ≡ value_from (byte_at s.writes) ((at s k).smbase + smbase_field) 4
returns_to p m s k l sound h here returns =
    let c = at s k in
    let base : Base p c.smbase = base_based p k c.smbase sound (h.slots.based k (smm_present c here.address here.is)) in
    let v = value_from (byte_at s.writes) (c.smbase + smbase_field) 4 in
    let to_base : Base p v = base_based p k v sound (reads p m s k l sound h here returns).based in
    let read : saved_smbase s.locks s.writes c ≡ v = read_back s.locks s.writes c (reach_base p s.locks 4 c.smbase smbase_field h.locked.registers base (omega arith)) in
    rw read (aligned v to_base.unit to_base.whole)
  where
    aligned : (b u : ℕ) → b ≡ 0x10000 * u → b - b % 0x10000 ≡ b
    aligned b u e = omega (arith, e)

pub keeps_rsm : (p : Platform) (m : List Write) (s : State) (k : ℕ) (l : Label) → Sound p → Invariant p m s → AtRow p s k l → is_rsm (want_at (layout_of p) (seat p s k) s.monarch l) ≡ true → Invariant p m (leave_smm k s)
keeps_rsm p m s k l sound h here wanted =
    let c = at s k in
    let present = smm_present c here.address here.is in
    let returns = row_returns p (seat p s k) s.monarch s.writes l here.cell.met wanted in
    let read = reads p m s k l sound h here returns in
    let same = returns_to p m s k l sound h here returns in
    let to : Cpu = resumed (saved_smbase s.locks s.writes c) (saved_rip s.locks s.writes c) c in
    keeps_cpu p m s k to h (cpu_parts_outside p s.monarch s.writes k to (none_if c.present None) (λ e. rw same read.based) (h.slots.possible k) (λ e. subst (IsAtSlot p s.monarch.slots.bound (apic_of p k)) (sym same) read.slotted)) (λ e. present)
    (λ e f. resting e returns) (λ e. ap is_past (none_if c.present None))
  where
    none_if : (b : Bool) (o : Option ℕ) → cond b o o ≡ o
    none_if true o = refl
    none_if false o = refl

    monarchs : (q : Handler) → runs_at (layout_of p) q 0 (at s k).smbase ≡ true → q ≡ Monarchs
    monarchs First runs = absurd cc
    monarchs Relocated runs = absurd cc
    monarchs Monarchs runs = refl

    resting : k ≡ 0 → Returns l → need_of s.monarch.label ≡ Nothing
    resting z returns =
        let side = monarchs (handler_of l) (subst (λ i. runs_at (layout_of p) (handler_of l) i (at s k).smbase ≡ true) z here.cell.runs) in
        let label = current_label_is s.monarch l here.cell.current side in
        ap need_of label ∙ free side returns
      where
        free : handler_of l ≡ Monarchs → Returns l → need_of l ≡ Nothing
        free side (inl e) = absurd (let both = sym side ∙ aloft_first l (ap is_aloft e) in cc)
        free side (inr n) = n.1

-- each event that is enabled, and wanted by whoever makes it
keeps_event : (p : Platform) (m : List Write) (s : State) (e : Event) → Sound p → Invariant p m s → is_enabled p s e ≡ true → is_handlers p s e ≡ true → Invariant p m (handlers_effect p s e (effect_of p s e))
keeps_event p m s (Insert k) sound h may wanted = keeps_insert p m s k h may
keeps_event p m s (Remove k) sound h may wanted = keeps_removal p m s k h
keeps_event p m s (Do k a) sound h may wanted = by_mode (is_in_smm (at s k).mode) wanted
  where
    by_mode : (b : Bool) → (not b || is_that_access (wanted_at (layout_of p) s.monarch (seat p s k) (label_at p s k)) a) ≡ true → Invariant p m (cond b (row_effect p s k (answer_to b a s) (label_at p s k) (access_effect p k b a s)) (access_effect p k b a s))
    by_mode true f = keeps_access p m s k a (label_at p s k) sound h refl f
    by_mode false f = keeps_outside p m s k a sound h
keeps_event p m s (TakeSmi k) sound h may wanted = keeps_smi p m s k sound h may
keeps_event p m s (TakeInit k) sound h may wanted = keeps_init p m s k h may
keeps_event p m s (Resume k) sound h may wanted = by_row (label_at p s k) refl wanted
  where
    by_row : (o : Option Label) → label_at p s k ≡ o → is_rsm (wanted_at (layout_of p) s.monarch (seat p s k) o) ≡ true → Invariant p m (leave_smm k s)
    by_row None is f = absurd cc
    by_row (Some l) is f = keeps_rsm p m s k l sound h (row_stands p m s k l sound h is) f
keeps_event p m s (Tell o) sound h may wanted = keeps_told p m s o (label_at p s 0) sound h refl wanted

-- a step after the hand-over
keeps_led_by : (p : Platform) (m : List Write) (s : State) (e : Event) (g : Stage) → Sound p → Invariant p m s → is_handed g ≡ true → is_enabled p s e ≡ true → wanted_in p s g e ≡ true → Invariant p m (firmware_effect p s g e (effect_of p s e))
keeps_led_by p m s e (Boots done supported) sound h handed may wanted = absurd cc
keeps_led_by p m s e (Refused fact) sound h handed may wanted = absurd cc
keeps_led_by p m s e (Handed requested) sound h handed may wanted = keeps_event p m s e sound h may wanted

pub handed_after : (mib : ℕ) (a : Answer) (g : Stage) → is_handed g ≡ true → is_handed (stage_after mib a g) ≡ true
handed_after mib a (Boots done supported) e = absurd cc
handed_after mib a (Refused fact) e = absurd cc
handed_after mib a (Handed requested) e = refl

pub keeps : (p : Platform) (m : List Write) (s : State) (e : Event) (t : After) → Sound p → Invariant p m s → step p s e ≡ Some t → Invariant p m t.state
keeps p m s e t sound h is =
    let g = stepped p s e t is in
    let u = firmware_effect p s s.stage e (effect_of p s e) in
    subst (λ x. Invariant p m x.state) g.is
    (unmoved p m u u.block u.ich9 u.fw_cfg (stage_after p.tseg_mib (answer_of s e) s.stage) (is_disturbed_by s e) (handed_after p.tseg_mib (answer_of s e) s.stage h.handed)
    (keeps_led_by p m s e s.stage sound h h.handed g.enabled g.wanted))
