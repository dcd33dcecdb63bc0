-- An access keeps the invariant, outside SMM and as a handler's row.
use Rattle.std.proofs.Common.{ℕ, ◌≡◌, ◌≢◌, ◌+◌, ◌-◌, ◌*◌, ◌/◌, ◌≤◌, ◌==◌, ◌⊎◌, inl, inr, Bool, true, false, cond, not, ◌&&◌, ◌||◌, nat_lt, nat_le, List, Option, Some, None, refl, sym, ap, subst, ◌∙◌, arith}
use Rattle.std.proofs.lemmas.Bool.{and_parts, eqb-true, ltb-true}
use Rattle.std.proofs.lemmas.Bool.Decides.{nat_tests}
use Rattle.std.proofs.lemmas.Option.{same_Some}
use Rattle.hp_model.proofs.Cases.{or_cases}
use Rattle.hp_model.specs.declared.platforms.Platform.{Platform}
use Rattle.hp_model.specs.declared.processors.Cpu.{Cpu}
use Rattle.hp_model.specs.declared.processors.Mode.{Mode}
use Rattle.hp_model.specs.declared.processors.Mode.TheVariants.{Wait, Running, Halted, Smm}
use Rattle.hp_model.specs.declared.accesses.Access.{Access}
use Rattle.hp_model.specs.declared.accesses.Access.TheVariants.{Nop}
use Rattle.hp_model.specs.declared.accesses.Answer.TheVariants.{Quiet}
use Rattle.hp_model.specs.declared.outcomes.Outcome.{Outcome}
use Rattle.hp_model.specs.declared.accesses.Want.{Want}
use Rattle.hp_model.specs.declared.accesses.Want.TheVariants as want
use Rattle.hp_model.specs.declared.labels.Label.{Label}
use Rattle.hp_model.specs.Platform.{tseg, tile, count_of, apic_of}
use Rattle.hp_model.specs.Memory.{Write, byte_at, value_from}
use Rattle.hp_model.specs.View.{Locks, is_locked}
use Rattle.hp_model.specs.Cpu.{moved, is_in_smm, address_in, smm_address}
use Rattle.hp_model.specs.Boot.{is_handed, value_in}
use Rattle.hp_model.specs.declared.labels.Handler.{Handler}
use Rattle.hp_model.specs.declared.labels.Handler.TheVariants.{First, Relocated, Monarch as Monarchs}
use Rattle.hp_model.specs.Labels.{handler_of, mark_of}
use Rattle.hp_model.specs.SharedBytes.{Layout, layout_of, tile_in, arrived_byte}
use Rattle.hp_model.specs.Slots.{slot_among}
use Rattle.hp_model.specs.Monarch.{Monarch, is_that}
use Rattle.hp_model.specs.Handlers.{Next, want_at, next_at, wanted_at, slot_at, is_tile, runs_at, is_current, address_of_label}
use Rattle.hp_model.specs.State.{State, at}
use Rattle.hp_model.specs.Access.{access_effect, answer_to, stands_in_smm}
use Rattle.hp_model.specs.Firmware.{label_at, seat, is_that_access, is_that_outcome, moved_in_smm, with_next, row_effect}
use Rattle.hp_sealed.specs.Left.{Sound, Locked, is_guarded}
use Rattle.hp_sealed.specs.Sealed.{is_other_tile, Recorded}
use Rattle.hp_sealed.proofs.Left.{left_then}
use Rattle.hp_sealed.proofs.Stay.{Stays, stays_same}
use Rattle.hp_sealed.proofs.Outside.{Calm, Acts, acts, left_acted}
use Rattle.hp_sealed.proofs.BootSlots.{ids_differ}
use Rattle.hp_model.proofs.Same.{same_access-equal}
use Rattle.hp_sealed.proofs.Starts.{set_all, first_set}
use Rattle.hp_sealed.proofs.Places.{default_locked, guarded_locked, tseg_locked, kept_guarded, slot_of}
use Rattle.hp_safety.proofs.Needs.{Need, Ejecting, Nothing, Passing, Loaded, Saved, Adding, Opening, Open, Looking, Telling, need_of, is_aloft, is_open, IsSlot, Facts, FirstNeeds, MonarchNeeds, Needs}
use Rattle.hp_safety.proofs.Invariant.{is_adding, facts_of, AtCell, IsAtCell, Saves, IsGated, Holding, is_added, is_settled, is_past, Invariant, CpuPartsBy, CpuParts}
use Rattle.hp_safety.proofs.Aloft.{aloft_past, aloft_first}
use Rattle.hp_safety.proofs.Writes.{Writes, Leaves, writes_first, writes_same, leaves_left, gated_first, first_by, is_watched}
use Rattle.hp_safety.proofs.Rows.{WritesOf, Spares, row_writes, row_spares}
use Rattle.hp_safety.proofs.Placing.{place_same}
use Rattle.hp_safety.proofs.RowLeads.{Arriving, Leads, LeadsOn, settled_still, settled_shut, row_leads}
use Rattle.hp_safety.proofs.Keeps.{gathered, smm_present, cpu_parts, cpu_parts_left, cpu_parts_absent, cpu_parts_calm, at_slot_grows, that_is, cpu_parts_other, AtRow, row_stands, row_first, current_label_is}

-- watched bytes are locked
watched_locked : (p : Platform) (l : Locks) (x : ℕ) → Sound p → Locked p l → is_watched p x ≡ true → is_locked l x ≡ true
watched_locked p l x sound locks g = elim (or_cases (first_by (tseg p) p.low_memory x) (nat_le (tseg p) x && nat_lt x (tseg p + 0x201)) g) [
  | inl f ↦ elim (or_cases (is_guarded p x) ((nat_le 0x30000 x && nat_lt x 0x3000c) || (nat_le 0x3ff00 x && nat_lt x 0x3ff04)) f) [
    | inl e ↦ guarded_locked p l x sound locks e
    | inr e ↦ default_locked p l x locks (in_area x e)
  ]
  | inr e ↦ (let top = sound.top in let room = sound.room in tseg_locked p l x sound locks (in_tseg (tseg p) p.low_memory x (omega (arith, top, room)) e))
]
  where
    in_area : (x : ℕ) → ((nat_le 0x30000 x && nat_lt x 0x3000c) || (nat_le 0x3ff00 x && nat_lt x 0x3ff04)) ≡ true → (nat_le 0x30000 x && nat_lt x 0x50000) ≡ true
    in_area x e = grind (arith, nat_tests)

    in_tseg : (base top x : ℕ) → base + 0x201 ≤ top → (nat_le base x && nat_lt x (base + 0x201)) ≡ true → (nat_le base x && nat_lt x top) ≡ true
    in_tseg base top x room e = grind (arith, nat_tests)

-- the monarch has what its record's label needs
pub monarch_met : (p : Platform) (m : List Write) (s : State) → Invariant p m s → (need_of s.monarch.label ≡ Nothing → ⊥) → MonarchNeeds (facts_of p s.monarch s.writes (apic_of p 0) (at s 0).base) (need_of s.monarch.label)
monarch_met p m s h busy = by_address (smm_address (at s 0)) refl (h.stand.each 0)
  where
    by_handler : (l : Label) (q : Handler) → handler_of l ≡ q → runs_at (layout_of p) q 0 (at s 0).smbase ≡ true → is_current s.monarch (handler_of l) l ≡ true → Needs (facts_of p s.monarch s.writes (apic_of p 0) (at s 0).base) q (need_of l) → MonarchNeeds (facts_of p s.monarch s.writes (apic_of p 0) (at s 0).base) (need_of s.monarch.label)
    by_handler l First side runs due met = absurd cc
    by_handler l Relocated side runs due met = absurd cc
    by_handler l Monarchs side runs due met = subst (λ x. MonarchNeeds (facts_of p s.monarch s.writes (apic_of p 0) (at s 0).base) (need_of x)) (sym (current_label_is s.monarch l due side)) met

    by_address : (o : Option ℕ) → smm_address (at s 0) ≡ o → IsAtCell p s.monarch s.writes 0 (at s 0).smbase (at s 0).base o → MonarchNeeds (facts_of p s.monarch s.writes (apic_of p 0) (at s 0).base) (need_of s.monarch.label)
    by_address None e stands = absurd (busy (h.rests e))
    by_address (Some a) e stands = by_handler stands.0 (handler_of stands.0) refl stands.1.runs stands.1.current stands.1.met

-- where it looks for an arrived byte
pub looks_at : (p : Platform) (m : List Write) (s : State) → Invariant p m s → need_of s.monarch.label ≡ Looking → IsSlot (count_of p) s.monarch.add.slot × (is_adding s.monarch ≡ true)
looks_at p m s h e = subst (MonarchNeeds (facts_of p s.monarch s.writes (apic_of p 0) (at s 0).base)) e (monarch_met p m s h (λ f. let both = sym e ∙ f in cc))

pub looked_small : (p : Platform) (m : List Write) (s : State) → Sound p → Invariant p m s → need_of s.monarch.label ≡ Looking → s.monarch.add.slot ≤ 512
looked_small p m s sound h e = let less = (looks_at p m s h e).0.1 in let few = sound.few in omega (arith, less, few)

-- nobody who is gone is past the gate
past_calm : (c d : Cpu) → Calm c d → is_past (smm_address c) ≡ false → is_past (smm_address d) ≡ false
past_calm c d calm e = elim calm [ inl s ↦ ap is_past s.address ∙ e | inr g ↦ rw g refl ]

-- an access outside SMM
pub keeps_outside : (p : Platform) (m : List Write) (s : State) (k : ℕ) (a : Access) → Sound p → Invariant p m s → Invariant p m (access_effect p k false a s)
keeps_outside p m s k a sound h =
    let t = access_effect p k false a s in
    let does : Acts p s t = acts p k false a s in
    let left : Leaves p s.writes t.writes = leaves_left p s.writes t.writes (λ x g. left_acted p k a s x (watched_locked p s.locks x sound h.locked.registers g)) in
    let writes : Writes p s.monarch.slots s.writes t.writes = writes_first p s.monarch.slots s.writes t.writes left.first in
    gathered p m t (ap is_handed does.stage ∙ h.handed)
    (record { marks = h.locked.marks; registers = does.locks h.locked.registers; kept = λ x g. left_then x m s.writes t.writes (h.locked.kept x g) (writes.cells x (kept_guarded p x g)) })
    (λ j. subst (λ r. CpuParts p r t.writes j (at t j)) (sym does.monarch)
    (cpu_parts_left p s.monarch s.writes t.writes j (at t j) sound writes (cpu_parts_calm p s.monarch s.writes j (at s j) (at t j) (does.cpus j) (cpu_parts p m s j h))))
    (does.first.present ∙ h.slots.first)
    (subst (λ r. IsGated p r t.writes) (sym does.monarch) (gated_first p s.monarch s.writes t.writes left.first h.gated))
    (λ e. ap (λ (r : Monarch). need_of r.label) does.monarch ∙ h.rests (sym does.first.address ∙ e))
    (subst (Recorded p) (sym does.monarch) h.recorded)
    (subst (λ (r : Monarch). Holding p r.slots) (sym does.monarch) h.holding)
    (λ e j. past_calm (at s j) (at t j) (does.cpus j)
    (h.settled (settled_still p s.monarch s.writes t.writes (λ n. left.arrivals s.monarch.add.slot (looked_small p m s sound h n)) (subst (λ r. is_settled p r t.writes ≡ true) does.monarch e)) j))

-- the access of a row, and then where it leads
current_next : (r : Monarch) (l : Label) (q : Handler) → (q ≡ Monarchs → r.label ≡ l) → is_current r q l ≡ true
current_next r l First e = refl
current_next r l Relocated e = refl
current_next r l Monarchs e = rw (e refl) (same_mark (mark_of l))
  where
    same_mark : (n : ℕ) → (n == n) ≡ true
    same_mark n = grind (arith, nat_tests)

not_zero : (y : Layout) (q : Handler) (k b j : ℕ) → q ≡ Monarchs → runs_at y q k b ≡ true → j ≢ k → j ≢ 0
not_zero y First k b j e runs other = absurd cc
not_zero y Relocated k b j e runs other = absurd cc
not_zero y Monarchs k b j e runs other = λ z. other (z ∙ sym (eqb-true k 0 (and_parts (k == 0) (b == tile_in y 0) runs).0))

pub is_monarchs : (q : Handler) → (q ≡ Monarchs) ⊎ (q ≢ Monarchs)
is_monarchs First = inr (λ e. cc)
is_monarchs Relocated = inr (λ e. cc)
is_monarchs Monarchs = inl refl

pub smm_stands : (c : Cpu) (a : ℕ) → smm_address c ≡ Some a → stands_in_smm c ≡ true
smm_stands c a e = by_parts c.present c.mode e
  where
    by_parts : (b : Bool) (m : Mode) → cond b (address_in m) None ≡ Some a → (b && is_in_smm m) ≡ true
    by_parts true Wait e = absurd cc
    by_parts true (Running g) e = absurd cc
    by_parts true (Halted g) e = absurd cc
    by_parts true (Smm x) e = refl
    by_parts false m e = absurd cc

-- whoever is past the gate has the held APIC ID
aloft_held : (f : Facts) (n : Need) → is_aloft n ≡ true → FirstNeeds f n → f.held ≡ true
aloft_held f Ejecting e h = absurd cc
aloft_held f Nothing e h = absurd cc
aloft_held f Passing e h = h.0
aloft_held f Loaded e h = h.0
aloft_held f Saved e h = h.0
aloft_held f Adding e h = absurd cc
aloft_held f Opening e h = absurd cc
aloft_held f Open e h = absurd cc
aloft_held f Looking e h = absurd cc
aloft_held f Telling e h = absurd cc

-- and stands where the first handler runs
pub record IsAloft (p : Platform) (s : State) (j : ℕ) : Type 0 where
  pub address : ℕ
  pub is : smm_address (at s j) ≡ Some address
  pub label : Label
  pub cell : AtCell p s.monarch s.writes j (at s j).smbase (at s j).base address label
  pub aloft : is_aloft (need_of label) ≡ true
  pub base : (at s j).smbase ≡ 0x30000
  pub held : s.monarch.slots.held ≡ Some (apic_of p j)

pub past_aloft : (p : Platform) (m : List Write) (s : State) (j : ℕ) → Sound p → Invariant p m s → is_past (smm_address (at s j)) ≡ true → IsAloft p s j
past_aloft p m s j sound h e = by_address (smm_address (at s j)) refl (h.stand.each j) e
  where
    by_address : (o : Option ℕ) → smm_address (at s j) ≡ o → IsAtCell p s.monarch s.writes j (at s j).smbase (at s j).base o → is_past o ≡ true → IsAloft p s j
    by_address None is stands f = absurd cc
    by_address (Some a) is stands f =
        let l = stands.0 in
        let cell = stands.1 in
        let up : is_aloft (need_of l) ≡ true = sym (aloft_past p j (at s j).smbase l sound cell.runs) ∙ subst (λ x. is_past (Some x) ≡ true) cell.here f in
        let side = aloft_first l up in
        let runs : runs_at (layout_of p) First j (at s j).smbase ≡ true = subst (λ q. runs_at (layout_of p) q j (at s j).smbase ≡ true) side cell.runs in
        let met : FirstNeeds (facts_of p s.monarch s.writes (apic_of p j) (at s j).base) (need_of l) = subst (λ q. Needs (facts_of p s.monarch s.writes (apic_of p j) (at s j).base) q (need_of l)) side cell.met in
        record {
          address = a;
          is = is;
          label = l;
          cell = cell;
          aloft = up;
          base = eqb-true (at s j).smbase 0x30000 (and_parts (not (j == 0)) ((at s j).smbase == 0x30000) runs).1;
          held = that_is s.monarch.slots.held (apic_of p j) (aloft_held (facts_of p s.monarch s.writes (apic_of p j) (at s j).base) (need_of l) up met);
        }

-- when the add's processor arrives in its tile, nobody is past the gate: it would be the same processor
alone : (p : Platform) (m : List Write) (s : State) (k : ℕ) (l : Label) → Sound p → Invariant p m s → AtRow p s k l → Arriving s.monarch (seat p s k) l → (j : ℕ) → is_past (smm_address (at s j)) ≡ false
alone p m s k l sound h here arriving j = by_past (is_past (smm_address (at s j))) refl
  where
    slot_plain : (base slot b : ℕ) → b ≡ base + 0x20000 + slot * 0x10000 → (b - (base + 0x20000 + 0)) / 0x10000 ≡ slot
    slot_plain base slot b e = omega (arith, e)

    far : (base b slot : ℕ) → 0x800000 ≤ base → b ≡ base + 0x20000 + slot * 0x10000 → b ≡ 0x30000 → ⊥
    far base b slot above e f = omega (arith, above, e, f)

    none : IsAloft p s j → ⊥
    none up =
        let r = s.monarch in
        let b = (at s k).smbase in
        let looks = looks_at p m s h arriving.looks in
        let adds = and_parts (is_that r.slots.held r.add.apic) (r.add.slot == slot_among r.slots.bound r.add.apic) looks.1 in
        let held : r.slots.held ≡ Some r.add.apic = that_is r.slots.held r.add.apic adds.0 in
        let same_id : r.add.apic ≡ apic_of p j = same_Some r.add.apic (apic_of p j) (sym held ∙ up.held) in
        let slot : r.add.slot ≡ slot_among r.slots.bound (apic_of p j) = eqb-true r.add.slot (slot_among r.slots.bound r.add.apic) adds.1 ∙ ap (slot_among r.slots.bound) same_id in
        let runs : runs_at (layout_of p) Relocated k b ≡ true = subst (λ x. runs_at (layout_of p) (handler_of x) k b ≡ true) arriving.first here.cell.runs in
        let tiled = slot_of p b (and_parts (not (k == 0)) (is_other_tile (layout_of p) b) runs).1 in
        let there = smm_present (at s k) here.address here.is in
        let here_too = smm_present (at s j) up.address up.is in
        elim (h.slots.slotted k there) [
          | inl e ↦ far (tseg p) b tiled.slot sound.above tiled.is e
          | inr own ↦ (let own_slot : slot_at (layout_of p) b ≡ slot_among r.slots.bound (apic_of p k) = slot_plain (tseg p) (slot_among r.slots.bound (apic_of p k)) b own.1 in
              let ids : apic_of p k ≡ apic_of p j = place_same r.slots.bound (apic_of p k) (apic_of p j) own.0 (h.holding.in_bound (apic_of p j) up.held) (sym own_slot ∙ (arriving.slot ∙ slot)) in
              let one : k ≡ j = ids_differ p.apic k j sound.distinct (h.slots.possible k there) (h.slots.possible j here_too) ids in
              far (tseg p) b tiled.slot sound.above tiled.is (subst (λ i. (at s i).smbase ≡ 0x30000) (sym one) up.base))
        ]

    by_past : (c : Bool) → is_past (smm_address (at s j)) ≡ c → c ≡ false
    by_past true e = absurd (none (past_aloft p m s j sound h e))
    by_past false e = refl

pub keeps_led : (p : Platform) (m : List Write) (s u : State) (k : ℕ) (l : Label) (n : Next) → Sound p → Invariant p m s → AtRow p s k l → Writes p s.monarch.slots s.writes u.writes → Stays (at s k) (at u k) → Acts p s u → Leads p (is_settled p s.monarch s.writes) u.writes s.monarch (seat p s k) l n → Invariant p m (with_next k (at s k).smbase n u)
keeps_led p m s u k l n sound h here writes stays does leads =
    let y = layout_of p in
    let b = (at s k).smbase in
    let t = with_next k b n u in
    let each : (j : ℕ) → CpuParts p s.monarch u.writes j (at u j) = λ j. cpu_parts_left p s.monarch s.writes u.writes j (at u j) sound writes (cpu_parts_calm p s.monarch s.writes j (at s j) (at u j) (does.cpus j) (cpu_parts p m s j h)) in
    let address : smm_address (at u k) ≡ Some here.address = stays.address ∙ here.is in
    let present : (at u k).present ≡ true = smm_present (at u k) here.address address in
    let to : Cpu = moved (address_of_label b n.label) n.base (at u k) in
    let goes : moved_in_smm b n (at u k) ≡ to = rw (smm_stands (at u k) here.address address) refl in
    let lands : smm_address to ≡ Some (address_of_label b n.label) = rw present refl in
    let runs : runs_at y (handler_of n.label) k b ≡ true = rw leads.side here.cell.runs in
    let stands : IsAtCell p n.monarch u.writes k b n.base (Some (address_of_label b n.label)) = (n.label, record { runs = runs; current = current_next n.monarch n.label (handler_of n.label) (λ e. leads.current (sym leads.side ∙ e)); here = refl; met = leads.met }) in
    let saves : Saves u.writes (at u k).smbase (Some here.address) = subst (Saves u.writes (at u k).smbase) address (each k).saves in
    let sits : CpuParts p n.monarch u.writes k to =
    subst (λ o. CpuPartsBy p n.monarch u.writes k (at u k).present (at u k).smbase n.base o) (sym lands)
    (record {
      based = (each k).based;
      possible = (each k).possible;
      slotted = λ e. at_slot_grows p s.monarch.slots n.monarch.slots (apic_of p k) (at u k).smbase leads.follows.grows ((each k).slotted e);
      stands = subst (λ c. IsAtCell p n.monarch u.writes k c n.base (Some (address_of_label b n.label))) (sym stays.smbase) stands;
      saves = saves;
    }) in
    let first : (at t 0).present ≡ true = first_set u.cpus k (moved_in_smm b n (at u k)) (does.first.present ∙ h.slots.first) (λ e. subst (λ c. c.present ≡ true) (sym goes) present) in
    let none_past : (is_settled p n.monarch u.writes ≡ true) → ((j : ℕ) → is_past (smm_address (at s j)) ≡ false) × (is_open (need_of s.monarch.label) ≡ false) = λ e. elim (leads.settled e) [
      | inl was ↦ (h.settled was, settled_shut (value_from (byte_at s.writes) (arrived_byte y s.monarch.add.slot) 1 == 1) (is_added s.monarch.outcome) (need_of s.monarch.label) was)
      | inr arriving ↦ (alone p m s k l sound h here arriving, ap is_open arriving.looks)
    ] in
    gathered p m t (ap is_handed does.stage ∙ h.handed)
    (record { marks = h.locked.marks; registers = does.locks h.locked.registers; kept = λ x g. left_then x m s.writes u.writes (h.locked.kept x g) (writes.cells x (kept_guarded p x g)) })
    (set_all (CpuParts p n.monarch u.writes) u.cpus k (moved_in_smm b n (at u k)) (cpu_parts_absent p n.monarch u.writes k) (subst (CpuParts p n.monarch u.writes k) (sym goes) sits)
    (λ j other. elim (is_monarchs (handler_of l)) [
      | inl e ↦ cpu_parts_other p s.monarch n.monarch u.writes j (at u j) sound h.holding leads.follows.grows (not_zero y (handler_of l) k b j e here.cell.runs other)
          (elim leads.follows.holds [ inl was ↦ inl (past_calm (at s j) (at u j) (does.cpus j) (h.settled was j)) | inr holds ↦ inr holds ]) (each j)
      | inr apart ↦ subst (λ r. CpuParts p r u.writes j (at u j)) (sym (leads.others apart)) (each j)
    ]))
    first
    leads.gated
    (set_all (λ j c. j ≡ 0 → c.present ≡ true → smm_address c ≡ None → need_of n.monarch.label ≡ Nothing) u.cpus k (moved_in_smm b n (at u k)) (λ i e f. absurd cc)
    (λ i e f. absurd (let g : Some (address_of_label b n.label) ≡ None = sym (ap smm_address goes ∙ lands) ∙ f in cc))
    (λ j other i e f. ap (λ (r : Monarch). need_of r.label) (leads.others (λ mine. not_zero y (handler_of l) k b j mine here.cell.runs other i))
    ∙ h.rests (sym does.first.address ∙ subst (λ x. smm_address (at u x) ≡ None) i f)) 0 refl first)
    (leads.follows.small, leads.follows.placed)
    leads.follows.holding
    (λ e j. let calm = none_past e in
    set_all (λ i c. is_past (smm_address c) ≡ false) u.cpus k (moved_in_smm b n (at u k)) refl
    (ap is_past (ap smm_address goes ∙ lands) ∙ (aloft_past p k b n.label sound runs ∙ down (is_aloft (need_of n.label)) refl (calm.0 k) calm.1))
    (λ i other. past_calm (at s i) (at u i) (does.cpus i) (calm.0 i)) j)
  where
    down : (c : Bool) → is_aloft (need_of n.label) ≡ c → is_past (smm_address (at s k)) ≡ false → is_open (need_of s.monarch.label) ≡ false → c ≡ false
    down false e calm shut = refl
    down true e calm shut = elim (leads.climbs e) [
      | inl up ↦ absurd (let f : is_past (smm_address (at s k)) ≡ true = ap is_past here.is ∙ (ap (λ a. is_past (Some a)) here.cell.here ∙ (aloft_past p k (at s k).smbase l sound here.cell.runs ∙ up)) in let both = sym calm ∙ f in cc)
      | inr passed ↦ absurd (let both = sym shut ∙ passed.1 in cc)
    ]

-- the slot of whoever stands at a row is small
pub slot_small : (p : Platform) (s : State) (k : ℕ) (l : Label) → Sound p → AtRow p s k l → (seat p s k).slot ≤ 512
slot_small p s k l sound here = by_handler (handler_of l) here.cell.runs
  where
    b : ℕ
    b = (at s k).smbase

    at_default : (base b : ℕ) → 0x800000 ≤ base → b ≡ 0x30000 → (b - (base + 0x20000 + 0)) / 0x10000 ≤ 512
    at_default base b above e = omega (arith, above, e)

    at_first : (base b : ℕ) → b ≡ base + 0x20000 + 0 → (b - (base + 0x20000 + 0)) / 0x10000 ≤ 512
    at_first base b e = omega (arith, e)

    by_handler : (q : Handler) → runs_at (layout_of p) q k b ≡ true → slot_at (layout_of p) b ≤ 512
    by_handler First e = at_default (tseg p) b sound.above (eqb-true b 0x30000 (and_parts (not (k == 0)) (b == 0x30000) e).1)
    by_handler Relocated e =
        let tiled = (and_parts (not (slot_at (layout_of p) b == 0)) (is_tile (layout_of p) b) (and_parts (not (k == 0)) (is_other_tile (layout_of p) b) e).1).1 in
        let less = ltb-true (slot_at (layout_of p) b) (count_of p) (and_parts (nat_lt (slot_at (layout_of p) b) (count_of p)) (b == tile p (slot_at (layout_of p) b)) tiled).0 in
        let few = sound.few in
        omega (arith, less, few)
    by_handler Monarchs e = at_first (tseg p) b (eqb-true b (tile p 0) (and_parts (k == 0) (b == tile p 0) e).1)

-- a row's access, made
keeps_made : (p : Platform) (m : List Write) (s : State) (k : ℕ) (a : Access) (l : Label) (w : Option Want) → Sound p → Invariant p m s → AtRow p s k l → WritesOf p s.monarch.slots k s w → Spares p k s w → LeadsOn p k s (seat p s k) s.monarch l w → is_that_access w a ≡ true → Invariant p m (row_effect p s k (answer_to true a s) (Some l) (access_effect p k true a s))
keeps_made p m s k a l None sound h here writes spares leads e = absurd cc
keeps_made p m s k a l (Some (want.Do b)) sound h here writes spares leads e =
    subst (λ c. Invariant p m (row_effect p s k (answer_to true c s) (Some l) (access_effect p k true c s))) (sym (same_access-equal a b e))
    (keeps_led p m s (access_effect p k true b s) k l (next_at (layout_of p) (seat p s k) s.monarch l (value_in (answer_to true b s))) sound h here writes spares (acts p k true b s) leads)
keeps_made p m s k a l (Some (want.Tell o)) sound h here writes spares leads e = absurd cc
keeps_made p m s k a l (Some want.Resume) sound h here writes spares leads e = absurd cc

-- where the row of whoever stands there leads
pub row_next : (p : Platform) (m : List Write) (s : State) (k : ℕ) (l : Label) → Sound p → Invariant p m s → AtRow p s k l → LeadsOn p k s (seat p s k) s.monarch l (want_at (layout_of p) (seat p s k) s.monarch l)
row_next p m s k l sound h here = row_leads p k s (seat p s k) s.monarch sound h.locked.registers h.recorded h.holding h.gated (looked_small p m s sound h) (sound.ids k) (slot_small p s k l sound here) l (current_label_is s.monarch l here.cell.current) here.cell.met

pub keeps_access : (p : Platform) (m : List Write) (s : State) (k : ℕ) (a : Access) (o : Option Label) → Sound p → Invariant p m s → label_at p s k ≡ o → is_that_access (wanted_at (layout_of p) s.monarch (seat p s k) o) a ≡ true → Invariant p m (row_effect p s k (answer_to true a s) o (access_effect p k true a s))
keeps_access p m s k a None sound h is e = absurd cc
keeps_access p m s k a (Some l) sound h is e =
    let x = seat p s k in
    let here = row_stands p m s k l sound h is in
    keeps_made p m s k a l (want_at (layout_of p) x s.monarch l) sound h here
    (row_writes p k s x s.monarch sound h.locked.registers h.recorded h.holding (slot_small p s k l sound here) l here.cell.met)
    (row_spares p k s x s.monarch l (row_first p s k l here) here.cell.met)
    (row_next p m s k l sound h here) e

-- an outcome, told
keeps_said : (p : Platform) (m : List Write) (s : State) (o : Outcome) (l : Label) (w : Option Want) → Sound p → Invariant p m s → AtRow p s 0 l → LeadsOn p 0 s (seat p s 0) s.monarch l w → is_that_outcome w o ≡ true → Invariant p m (row_effect p s 0 Quiet (Some l) s)
keeps_said p m s o l None sound h here leads e = absurd cc
keeps_said p m s o l (Some (want.Do a)) sound h here leads e = absurd cc
keeps_said p m s o l (Some (want.Tell t)) sound h here leads e =
    keeps_led p m s s 0 l (next_at (layout_of p) (seat p s 0) s.monarch l (value_in Quiet)) sound h here (writes_same p s.monarch.slots s.writes) (stays_same (at s 0)) (acts p 0 true Nop s) leads
keeps_said p m s o l (Some want.Resume) sound h here leads e = absurd cc

pub keeps_told : (p : Platform) (m : List Write) (s : State) (o : Outcome) (l : Option Label) → Sound p → Invariant p m s → label_at p s 0 ≡ l → is_that_outcome (wanted_at (layout_of p) s.monarch (seat p s 0) l) o ≡ true → Invariant p m (row_effect p s 0 Quiet l s)
keeps_told p m s o None sound h is e = absurd cc
keeps_told p m s o (Some l) sound h is e =
    let here = row_stands p m s 0 l sound h is in
    keeps_said p m s o l (want_at (layout_of p) (seat p s 0) s.monarch l) sound h here (row_next p m s 0 l sound h here) e
