-- SMI entry keeps the invariant.
use Rattle.std.proofs.Common.{ℕ, ◌≡◌, ◌≢◌, ◌+◌, ◌*◌, ◌%◌, ◌<◌, ◌≤◌, ◌==◌, inl, inr, Bool, true, false, cond, ◌&&◌, ◌||◌, nat_lt, List, Option, Some, None, refl, sym, ap, subst, ◌∙◌, arith}
use Rattle.std.proofs.lemmas.Bool.{and_parts, eqb-true, ltb-true}
use Rattle.hp_model.specs.declared.platforms.Platform.{Platform}
use Rattle.hp_model.specs.declared.processors.Cpu.{Cpu}
use Rattle.hp_model.specs.declared.labels.Label.{Label}
use Rattle.hp_model.specs.declared.labels.Label.TheVariants.{F1, R1, S0}
use Rattle.hp_model.specs.declared.processors.Mode.{Mode}
use Rattle.hp_model.specs.declared.processors.Mode.TheVariants.{Wait, Running, Halted, Smm}
use Rattle.hp_model.specs.Platform.{tseg, tile, apic_of}
use Rattle.hp_model.specs.Memory.{Write, byte_at, value_from}
use Rattle.hp_model.specs.View.{Locks}
use Rattle.hp_model.specs.Cpu.{take_smi, is_outside, may_take_smi, smm_address, address_in}
use Rattle.hp_model.specs.SaveArea.{smbase_field, saved}
use Rattle.hp_model.specs.SharedBytes.{layout_of, gate, new_smbase, default_smbase_field}
use Rattle.hp_model.specs.Slots.{Slots}
use Rattle.hp_model.specs.Monarch.{Monarch, restarted, is_that}
use Rattle.hp_model.specs.Handlers.{address_of_label}
use Rattle.hp_model.specs.State.{State, at}
use Rattle.hp_model.specs.Firmware.{with_session}
use Rattle.hp_model.specs.Step.{enter_smm}
use Rattle.hp_sealed.specs.Left.{IsLeft, Sound, is_guarded, is_kept}
use Rattle.hp_sealed.specs.Sealed.{is_based, is_other_tile, Recorded, IsAtSlot}
use Rattle.hp_sealed.proofs.Left.{pick_by, left_then}
use Rattle.hp_sealed.proofs.Values.{value_left}
use Rattle.hp_sealed.proofs.Starts.{set_all, first_set}
use Rattle.hp_sealed.proofs.Places.{Base, base_based}
use Rattle.hp_safety.proofs.Needs.{Nothing, need_of, is_aloft, is_open}
use Rattle.hp_safety.proofs.Invariant.{held_tile, is_ready, may_return, AtCell, Saves, IsShut, IsGated, Holding, is_settled, is_past, Invariant, CpuPartsBy, CpuParts}
use Rattle.hp_safety.proofs.Saves.{left_saved, left_other, saved_field}
use Rattle.hp_safety.proofs.Aloft.{aloft_past}
use Rattle.hp_safety.proofs.Keeps.{stands_kept, gathered, smm_present, cpu_parts, cpu_parts_absent, grows_same, cpu_parts_other, same_or}
use Rattle.hp_safety.proofs.RowLeads.{settled_still}
use Rattle.hp_safety.proofs.Accesses.{looked_small}

-- who may enter is outside SMM
pub may_outside : (c : Cpu) → may_take_smi c ≡ true → smm_address c ≡ None
may_outside c e = by_parts c.present c.smi c.mode e
  where
    by_parts : (b i : Bool) (m : Mode) → (b && (i && is_outside m)) ≡ true → cond b (address_in m) None ≡ None
    by_parts true true Wait e = refl
    by_parts true true (Running g) e = refl
    by_parts true true (Halted g) e = refl
    by_parts true true (Smm a) e = absurd cc
    by_parts true false m e = absurd cc
    by_parts false i m e = refl

-- values that lie far below the fields
value_low : (l : Locks) (c : Cpu) (ws : List Write) (unit a n : ℕ) → c.smbase ≡ 0x10000 * unit → ((i : ℕ) → i < n → (a + i) % 0x10000 < 0xfefc) → value_from (byte_at (saved l c ws)) a n ≡ value_from (byte_at ws) a n
value_low l c ws unit a n whole low = value_left n a ws (saved l c ws) (λ i small. left_saved l c ws (a + i) unit whole (low i small))

gate_saved : (l : Locks) (c : Cpu) (ws : List Write) (unit : ℕ) → c.smbase ≡ 0x10000 * unit → value_from (byte_at (saved l c ws)) gate 8 ≡ value_from (byte_at ws) gate 8
gate_saved l c ws unit whole = value_low l c ws unit gate 8 whole (λ i small. low i small)
  where
    low : (i : ℕ) → i < 8 → (0x30000 + i) % 0x10000 < 0xfefc
    low i small = omega (arith, small)

new_saved : (l : Locks) (c : Cpu) (ws : List Write) (unit : ℕ) → c.smbase ≡ 0x10000 * unit → value_from (byte_at (saved l c ws)) new_smbase 4 ≡ value_from (byte_at ws) new_smbase 4
new_saved l c ws unit whole = value_low l c ws unit new_smbase 4 whole (λ i small. low i small)
  where
    low : (i : ℕ) → i < 4 → (0x30008 + i) % 0x10000 < 0xfefc
    low i small = omega (arith, small)

arrived_saved : (p : Platform) (l : Locks) (c : Cpu) (ws : List Write) (unit x : ℕ) → Sound p → c.smbase ≡ 0x10000 * unit → x ≤ 512 → value_from (byte_at (saved l c ws)) (tseg p + x) 1 ≡ value_from (byte_at ws) (tseg p + x) 1
arrived_saved p l c ws unit x sound whole small = value_low l c ws unit (tseg p + x) 1 whole (λ i one. low (tseg p) sound.unit x i sound.whole small one)
  where
    low : (base u x i : ℕ) → base ≡ 0x10000 * u → x ≤ 512 → i < 1 → (base + x + i) % 0x10000 < 0xfefc
    low base u x i e small one = omega (arith, e, small, one)

ready_saved : (p : Platform) (s : Slots) (l : Locks) (c : Cpu) (ws : List Write) → Base p c.smbase → is_ready p s ws ≡ true → is_ready p s (saved l c ws) ≡ true
ready_saved p s l c ws base e = subst (λ v. (v == held_tile p s) ≡ true) (sym (new_saved l c ws base.unit base.whole)) e

gated_entry : (p : Platform) (r : Monarch) (l : Locks) (c : Cpu) (ws : List Write) → Base p c.smbase → IsGated p r ws → IsGated p r (saved l c ws)
gated_entry p r l c ws base (inl e) = inl (gate_saved l c ws base.unit base.whole ∙ e)
gated_entry p r l c ws base (inr o) =
    inr (record { may = o.may; held = subst (λ v. is_that r.slots.held v ≡ true) (sym (gate_saved l c ws base.unit base.whole)) o.held; ready = ready_saved p r.slots l c ws base o.ready })

-- what RSM reads at the default SMBASE: an entry there stores the default one, any other none of its bytes
returns_saved : (p : Platform) (s : Slots) (l : Locks) (c : Cpu) (ws : List Write) → Base p c.smbase → value_from (byte_at (saved l c ws)) (c.smbase + smbase_field) 4 ≡ c.smbase → may_return p s ws ≡ true → may_return p s (saved l c ws) ≡ true
returns_saved p s l c ws base field e =
    let w = base.whole in
    elim (same_or base.unit 3) [
      | inl three ↦ (let here : c.smbase ≡ 0x30000 = omega (arith, three, w) in
          let now : value_from (byte_at (saved l c ws)) default_smbase_field 4 ≡ 0x30000 = subst (λ b. value_from (byte_at (saved l c ws)) (b + smbase_field) 4 ≡ b) here field in
          rw now refl)
      | inr other ↦ subst (λ v. ((v == 0x30000) || (v == held_tile p s)) ≡ true)
          (sym (value_left 4 0x3ff00 ws (saved l c ws) (λ i small. left_other l c ws (0x3ff00 + i) base.unit 3 base.whole other (omega arith) (omega (arith, small))))) e
    ]

-- SMI entry, after which the monarch's record is r
record Enters (p : Platform) (s : State) (k : ℕ) (r : Monarch) : Type 0 where
  pub cell : (b : ℕ) → is_based p k b ≡ true → (base : ℕ) → (l : Label) × AtCell p r (saved s.locks (at s k) s.writes) k b base (b + 0x8000) l × (need_of l ≡ Nothing)
  pub others : (j : ℕ) → j ≢ k → CpuParts p s.monarch s.writes j (at s j) → CpuParts p r s.writes j (at s j)
  pub slots : r.slots ≡ s.monarch.slots
  pub recorded : Recorded p r
  pub gated : IsGated p r s.writes
  pub rests : smm_address (at s 0) ≡ None → need_of r.label ≡ Nothing
  pub settles : is_settled p r (saved s.locks (at s k) s.writes) ≡ true → is_settled p s.monarch s.writes ≡ true

-- the monarch enters at S0
enters_first : (p : Platform) (m : List Write) (s : State) (k : ℕ) → Sound p → Invariant p m s → may_take_smi (at s k) ≡ true → (k == 0) ≡ true → Enters p s k (restarted s.monarch)
enters_first p m s k sound h may z = record {
  cell = λ b based base. (S0, record { runs = rw z (of_first (k == 0) (b == tile p 0) _ z based); current = refl; here = omega arith; met = tt }, refl);
  others = λ j other seat. cpu_parts_other p s.monarch (restarted s.monarch) s.writes j (at s j) sound h.holding (grows_same s.monarch.slots) (λ e. other (e ∙ sym (eqb-true k 0 z))) (inr (λ a e. e)) seat;
  slots = refl;
  recorded = (omega arith, h.recorded.1);
  gated = inl (shut h.gated);
  rests = λ e. refl;
  settles = λ e. absurd cc;
}
  where
    of_first : (c t y : Bool) → c ≡ true → cond c t y ≡ true → t ≡ true
    of_first true t y z e = e
    of_first false t y z e = absurd cc

    out : smm_address (at s 0) ≡ None
    out = subst (λ i. smm_address (at s i) ≡ None) (eqb-true k 0 z) (may_outside (at s k) may)

    shut : IsGated p s.monarch s.writes → IsShut s.writes
    shut (inl e) = e
    shut (inr o) = absurd (let f : is_open Nothing ≡ true = subst (λ n. is_open n ≡ true) (h.rests out) o.may in cc)

-- each other processor at F1 or R1
enters_other : (p : Platform) (m : List Write) (s : State) (k : ℕ) → Sound p → Invariant p m s → may_take_smi (at s k) ≡ true → (k == 0) ≡ false → Enters p s k s.monarch
enters_other p m s k sound h may z = record {
  cell = cell;
  others = λ j other seat. seat;
  slots = refl;
  recorded = h.recorded;
  gated = h.gated;
  rests = h.rests;
  settles = settled_still p s.monarch s.writes (saved s.locks (at s k) s.writes) (λ n. arrived_saved p s.locks (at s k) s.writes own.unit s.monarch.add.slot sound own.whole (looked_small p m s sound h n));
}
  where
    own : Base p (at s k).smbase
    own = base_based p k (at s k).smbase sound (h.slots.based k (and_parts (at s k).present ((at s k).smi && is_outside (at s k).mode) may).0)

    of_other : (c t y : Bool) → c ≡ false → cond c t y ≡ true → y ≡ true
    of_other true t y z e = absurd cc
    of_other false t y z e = e

    by_base : (b : ℕ) (d : Bool) → (b == 0x30000) ≡ d → (d || is_other_tile (layout_of p) b) ≡ true → (base : ℕ) → (l : Label) × AtCell p s.monarch (saved s.locks (at s k) s.writes) k b base (b + 0x8000) l × (need_of l ≡ Nothing)
    by_base b true is f base = (F1, record { runs = rw (z, is) refl; current = refl; here = omega arith; met = tt }, refl)
    by_base b false is f base = (R1, record { runs = rw z f; current = refl; here = omega arith; met = tt }, refl)

    cell : (b : ℕ) → is_based p k b ≡ true → (base : ℕ) → (l : Label) × AtCell p s.monarch (saved s.locks (at s k) s.writes) k b base (b + 0x8000) l × (need_of l ≡ Nothing)
    cell b based = by_base b (b == 0x30000) refl (of_other (k == 0) (b == tile p 0) ((b == 0x30000) || is_other_tile (layout_of p) b) z based)

-- the fields of two SMBASEs are one or apart
saves_other : (p : Platform) (s : State) (c d : Cpu) → Base p c.smbase → Base p d.smbase → value_from (byte_at (saved s.locks c s.writes)) (c.smbase + smbase_field) 4 ≡ c.smbase → (a : ℕ) → Saves s.writes d.smbase (Some a) → Saves (saved s.locks c s.writes) d.smbase (Some a)
saves_other p s c d base there field a (inl e) = inl e
saves_other p s c d base there field a (inr old) =
    let wd = there.whole in
    let wc = base.whole in
    elim (same_or there.unit base.unit) [
      | inl e ↦ (let same : c.smbase ≡ d.smbase = omega (arith, e, wd, wc) in inr (subst (λ b. value_from (byte_at (saved s.locks c s.writes)) (b + smbase_field) 4 ≡ b) same field))
      | inr n ↦ inr
          (value_left 4 (d.smbase + smbase_field) s.writes (saved s.locks c s.writes)
          (λ i small. left_other s.locks c s.writes (d.smbase + smbase_field + i) base.unit there.unit base.whole (λ e. n (sym e)) (omega (arith, wd)) (omega (arith, wd, small))) ∙ old)
    ]

saves_present : (p : Platform) (s : State) (j : ℕ) (c d : Cpu) → Sound p → Base p c.smbase → value_from (byte_at (saved s.locks c s.writes)) (c.smbase + smbase_field) 4 ≡ c.smbase → (d.present ≡ true → is_based p j d.smbase ≡ true) → (o : Option ℕ) → smm_address d ≡ o → Saves s.writes d.smbase o → Saves (saved s.locks c s.writes) d.smbase o
saves_present p s j c d sound base field based None is old = tt
saves_present p s j c d sound base field based (Some a) is old = saves_other p s c d base (base_based p j d.smbase sound (based (smm_present d a is))) field a old

keeps_enter : (p : Platform) (m : List Write) (s : State) (k : ℕ) (r : Monarch) → Sound p → Invariant p m s → may_take_smi (at s k) ≡ true → Enters p s k r → Invariant p m (record (enter_smm k s) { monarch = r })
keeps_enter p m s k r sound h may enters =
    let c = at s k in
    let ws = saved s.locks c s.writes in
    let present : c.present ≡ true = (and_parts c.present (c.smi && is_outside c.mode) may).0 in
    let based : is_based p k c.smbase ≡ true = h.slots.based k present in
    let base : Base p c.smbase = base_based p k c.smbase sound based in
    let room = base.room in
    let most = sound.most in
    let same = h.locked.registers.low_memory in
    let field : value_from (byte_at ws) (c.smbase + smbase_field) 4 ≡ c.smbase = saved_field s.locks c s.writes (omega (arith, room, same)) (omega (arith, room, most)) in
    let to : Cpu = take_smi c in
    let lands : smm_address to ≡ Some (c.smbase + 0x8000) = rw present refl in
    let stands = enters.cell c.smbase based c.base in
    let here : c.smbase + 0x8000 ≡ address_of_label c.smbase stands.0 = stands.1.here in
    let left : (x : ℕ) → is_kept p x ≡ true → IsLeft x s.writes ws = λ x g. left_saved s.locks c s.writes x base.unit base.whole (ltb-true (x % 0x10000) 0xfefc (and_parts (is_guarded p x) (nat_lt (x % 0x10000) 0xfefc) g).1) in
    let first = first_set s.cpus k to h.slots.first (λ e. present) in
    gathered p m (record (enter_smm k s) { monarch = r }) h.handed
    (record { marks = h.locked.marks; registers = h.locked.registers; kept = λ x g. left_then x m s.writes ws (h.locked.kept x g) (left x g) })
    (set_all (CpuParts p r ws) s.cpus k to (cpu_parts_absent p r ws k)
    (subst (λ o. CpuPartsBy p r ws k c.present c.smbase c.base o) (sym lands)
    (record { based = λ e. based; possible = h.slots.possible k; slotted = λ e. subst (λ (t : Slots). IsAtSlot p t.bound (apic_of p k) c.smbase) (sym enters.slots) (h.slots.slotted k e); stands = (stands.0, stands.1); saves = inr field }))
    (λ j other. let o = enters.others j other (cpu_parts p m s j h) in
    record {
      based = o.based;
      possible = o.possible;
      slotted = o.slotted;
      stands = stands_kept p r s.writes ws j (at s j).smbase (at s j).base (smm_address (at s j)) (ready_saved p r.slots s.locks c s.writes base) (returns_saved p r.slots s.locks c s.writes base field) o.stands;
      saves = saves_present p s j c (at s j) sound base field o.based (smm_address (at s j)) refl o.saves;
    }))
    first
    (gated_entry p r s.locks c s.writes base enters.gated)
    (set_all (λ j d. j ≡ 0 → d.present ≡ true → smm_address d ≡ None → need_of r.label ≡ Nothing) s.cpus k to (λ i e f. absurd cc) (λ i e f. absurd (let g = sym lands ∙ f in cc))
    (λ j other i e f. enters.rests (subst (λ x. smm_address (at s x) ≡ None) i f)) 0 refl first)
    enters.recorded
    (subst (Holding p) (sym enters.slots) h.holding)
    (λ e. set_all (λ j d. is_past (smm_address d) ≡ false) s.cpus k to refl
    (ap is_past lands ∙ (ap (λ a. is_past (Some a)) here ∙ (aloft_past p k c.smbase stands.0 sound stands.1.runs ∙ ap is_aloft stands.2)))
    (λ j other. h.settled (enters.settles e) j))

pub keeps_smi : (p : Platform) (m : List Write) (s : State) (k : ℕ) → Sound p → Invariant p m s → may_take_smi (at s k) ≡ true → Invariant p m (with_session k (enter_smm k s))
keeps_smi p m s k sound h may =
    let t = enter_smm k s in
    pick_by (Invariant p m) (k == 0) (record t { monarch = restarted t.monarch }) t
    (λ z. keeps_enter p m s k (restarted s.monarch) sound h may (enters_first p m s k sound h may z)) (λ z. keeps_enter p m s k s.monarch sound h may (enters_other p m s k sound h may z))
