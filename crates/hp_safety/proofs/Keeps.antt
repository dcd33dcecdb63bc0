-- What one processor keeps of the invariant, and which row it has.
use Rattle.std.proofs.Common.{ℕ, zero, suc, ◌≡◌, ◌≢◌, ◌+◌, ◌*◌, ◌<◌, ◌≤◌, ◌==◌, ◌⊎◌, inl, inr, Bool, true, false, cond, List, Option, Some, None, option_map, option_and_then, refl, sym, ap, subst, ◌∙◌, arith}
use Rattle.std.proofs.lemmas.Bool.{and_parts, eqb-true}
use Rattle.std.proofs.lemmas.Bool.Decides.{nat_tests}
use Rattle.std.proofs.lemmas.Option.{same_Some}
use Rattle.hp_model.specs.declared.platforms.Platform.{Platform}
use Rattle.hp_model.specs.declared.processors.Cpu.{Cpu}
use Rattle.hp_model.specs.declared.labels.Label.{Label}
use Rattle.hp_model.specs.Platform.{tseg, tile, count_of, apic_of}
use Rattle.hp_model.specs.Memory.{Write, byte_at, value_from}
use Rattle.hp_model.specs.View.{Locks, is_hole, loaded}
use Rattle.hp_model.specs.Cpu.{absent, address_in, smm_address}
use Rattle.hp_model.specs.Block.{Block, is_in}
use Rattle.hp_model.specs.Boot.{Stage, is_handed}
use Rattle.hp_model.specs.declared.labels.Handler.{Handler}
use Rattle.hp_model.specs.declared.labels.Handler.TheVariants.{First, Relocated, Monarch as Monarchs}
use Rattle.hp_model.specs.Labels.{handler_of, index_of, mark_of}
use Rattle.hp_model.specs.SharedBytes.{Layout, layout_of, tile_in}
use Rattle.hp_model.specs.FwCfg.{FwCfg}
use Rattle.hp_model.specs.Ich9.{Ich9}
use Rattle.hp_model.specs.SaveArea.{smbase_field}
use Rattle.hp_model.specs.Slots.{Slots, slot_among}
use Rattle.hp_model.specs.Monarch.{Monarch, is_that}
use Rattle.hp_model.specs.Handlers.{runs_at, is_current, label_of_mark, address_of_label}
use Rattle.hp_model.specs.State.{State, at}
use Rattle.hp_model.specs.Firmware.{mark_at, label_at}
use Rattle.hp_sealed.specs.Left.{IsLeft, Sound, Locked, is_guarded}
use Rattle.hp_sealed.specs.Sealed.{is_based, Recorded, IsAtSlot}
use Rattle.hp_sealed.proofs.Stay.{Stays}
use Rattle.hp_sealed.proofs.Outside.{Calm}
use Rattle.hp_sealed.proofs.Values.{value_left}
use Rattle.hp_model.proofs.Marks.{found, same_label, index_small}
use Rattle.hp_sealed.proofs.Places.{Base, base_based, kept_cell, guarded_field, runs_based}
use Rattle.hp_safety.proofs.Needs.{Need, Ejecting, Nothing, Passing, Loaded, Saved, Adding, Opening, Open, Looking, Telling, need_of, is_aloft, Facts, FirstNeeds, Needs}
use Rattle.hp_safety.proofs.Invariant.{held_tile, is_ready, may_return, facts_of, AtCell, IsAtCell, Saves, IsLocked, IsGated, Rests, Holding, is_past, Settled, Invariant, CpuPartsBy, CpuParts}
use Rattle.hp_safety.proofs.Aloft.{aloft_past}
use Rattle.hp_safety.proofs.Saves.{in_reach}
use Rattle.hp_safety.proofs.Writes.{Writes}

-- a processor with an instruction address in SMM is present
pub smm_present : (c : Cpu) (a : ℕ) → smm_address c ≡ Some a → c.present ≡ true
smm_present c a e = by_presence c.present (address_in c.mode) e
  where
    by_presence : (b : Bool) (o : Option ℕ) → cond b o None ≡ Some a → b ≡ true
    by_presence true o e = refl
    by_presence false o e = absurd cc

-- what a label needs is still there where what memory holds is as good as it was
needs_kept : (f : Facts) (ready returns : Bool) (q : Handler) (n : Need) → (f.ready ≡ true → ready ≡ true) → (f.returns ≡ true → returns ≡ true) → Needs f q n → Needs (record f { ready = ready; returns = returns }) q n
needs_kept f ready returns First Ejecting more also h = h
needs_kept f ready returns First Nothing more also h = h
needs_kept f ready returns First Passing more also h = (h.0, more h.1)
needs_kept f ready returns First Loaded more also h = h
needs_kept f ready returns First Saved more also h = (h.0, also h.1)
needs_kept f ready returns First Adding more also h = h
needs_kept f ready returns First Opening more also h = h
needs_kept f ready returns First Open more also h = h
needs_kept f ready returns First Looking more also h = h
needs_kept f ready returns First Telling more also h = h
needs_kept f ready returns Relocated n more also h = h
needs_kept f ready returns Monarchs Ejecting more also h = h
needs_kept f ready returns Monarchs Nothing more also h = h
needs_kept f ready returns Monarchs Passing more also h = h
needs_kept f ready returns Monarchs Loaded more also h = h
needs_kept f ready returns Monarchs Saved more also h = h
needs_kept f ready returns Monarchs Adding more also h = h
needs_kept f ready returns Monarchs Opening more also h = (h.0, h.1, more h.2)
needs_kept f ready returns Monarchs Open more also h = (h.0, h.1, more h.2)
needs_kept f ready returns Monarchs Looking more also h = h
needs_kept f ready returns Monarchs Telling more also h = h

pub stands_kept : (p : Platform) (r : Monarch) (ws vs : List Write) (k b base : ℕ) (o : Option ℕ) → (is_ready p r.slots ws ≡ true → is_ready p r.slots vs ≡ true) → (may_return p r.slots ws ≡ true → may_return p r.slots vs ≡ true) → IsAtCell p r ws k b base o → IsAtCell p r vs k b base o
stands_kept p r ws vs k b base None more also h = tt
stands_kept p r ws vs k b base (Some a) more also h = (
  h.0,
  record {
    runs = h.1.runs;
    current = h.1.current;
    here = h.1.here;
    met = needs_kept (facts_of p r ws (apic_of p k) base) (is_ready p r.slots vs) (may_return p r.slots vs) (handler_of h.0) (need_of h.0) more also h.1.met;
  },
)

-- the saved field of a tile is left
field_left : (p : Platform) (b : ℕ) (ws vs : List Write) → Base p b → tseg p + 0x20000 ≤ b → ((x : ℕ) → is_guarded p x ≡ true → IsLeft x ws vs) → value_from (byte_at vs) (b + smbase_field) 4 ≡ value_from (byte_at ws) (b + smbase_field) 4
field_left p b ws vs h low left = value_left 4 (b + smbase_field) ws vs (λ i small. left (b + smbase_field + i) (guarded_field p b i h low small))

saves_kept : (p : Platform) (ws vs : List Write) (b a : ℕ) → Base p b → ((x : ℕ) → is_guarded p x ≡ true → IsLeft x ws vs) → Saves ws b (Some a) → Saves vs b (Some a)
saves_kept p ws vs b a base left h = elim base.area [
  | inl e ↦ inl e
  | inr low ↦ elim h [ inl e ↦ inl e | inr e ↦ inr (field_left p b ws vs base low left ∙ e) ]
]

-- seated stays seated
pub cpu_parts_left : (p : Platform) (r : Monarch) (ws vs : List Write) (k : ℕ) (c : Cpu) → Sound p → Writes p r.slots ws vs → CpuParts p r ws k c → CpuParts p r vs k c
cpu_parts_left p r ws vs k c sound writes h = record {
  based = h.based;
  possible = h.possible;
  slotted = h.slotted;
  stands = stands_kept p r ws vs k c.smbase c.base (smm_address c) writes.ready writes.returns h.stands;
  saves = by_address (smm_address c) refl h.saves;
}
  where
    by_address : (o : Option ℕ) → smm_address c ≡ o → Saves ws c.smbase o → Saves vs c.smbase o
    by_address None is old = tt
    by_address (Some a) is old = saves_kept p ws vs c.smbase a (base_based p k c.smbase sound (h.based (smm_present c a is))) writes.cells old

-- and where the processor stays
pub cpu_parts_stays : (p : Platform) (r : Monarch) (ws : List Write) (k : ℕ) (c d : Cpu) → Stays c d → CpuParts p r ws k c → CpuParts p r ws k d
cpu_parts_stays p r ws k c d s h =
    subst (λ o. CpuPartsBy p r ws k d.present d.smbase d.base o) (sym s.address)
    (subst (λ b. CpuPartsBy p r ws k d.present d.smbase b (smm_address c)) (sym s.base)
    (subst (λ b. CpuPartsBy p r ws k d.present b c.base (smm_address c)) (sym s.smbase)
    (subst (λ b. CpuPartsBy p r ws k b c.smbase c.base (smm_address c)) (sym s.present) h)))

pub cpu_parts_absent : (p : Platform) (r : Monarch) (ws : List Write) (k : ℕ) → CpuParts p r ws k absent
cpu_parts_absent p r ws k = record { based = λ e. absurd cc; possible = λ e. absurd cc; slotted = λ e. absurd cc; stands = tt; saves = tt }

pub cpu_parts_calm : (p : Platform) (r : Monarch) (ws : List Write) (k : ℕ) (c d : Cpu) → Calm c d → CpuParts p r ws k c → CpuParts p r ws k d
cpu_parts_calm p r ws k c d calm h = elim calm [ inl s ↦ cpu_parts_stays p r ws k c d s h | inr e ↦ subst (CpuParts p r ws k) (sym e) (cpu_parts_absent p r ws k) ]

-- outside SMM
pub cpu_parts_outside : (p : Platform) (r : Monarch) (ws : List Write) (k : ℕ) (c : Cpu) → smm_address c ≡ None → (c.present ≡ true → is_based p k c.smbase ≡ true) → (c.present ≡ true → k < count_of p) → (c.present ≡ true → IsAtSlot p r.slots.bound (apic_of p k) c.smbase) → CpuParts p r ws k c
cpu_parts_outside p r ws k c is based possible slotted =
    subst (λ o. CpuPartsBy p r ws k c.present c.smbase c.base o) (sym is) (record { based = based; possible = possible; slotted = slotted; stands = tt; saves = tt })

-- slots go on: who had a place keeps it, and who was held still is
pub record Grows (s t : Slots) : Type 0 where
  pub still : (a : ℕ) → is_in a s.bound ≡ true → is_in a t.bound ≡ true
  pub place : (a : ℕ) → is_in a s.bound ≡ true → slot_among t.bound a ≡ slot_among s.bound a

pub grows_same : (s : Slots) → Grows s s
grows_same s = record { still = λ a e. e; place = λ a e. refl }

abbrev pub Holds : Slots → Slots → Type 0
Holds s t = (a : ℕ) → s.held ≡ Some a → t.held ≡ Some a

pub at_slot_grows : (p : Platform) (s t : Slots) (a b : ℕ) → Grows s t → IsAtSlot p s.bound a b → IsAtSlot p t.bound a b
at_slot_grows p s t a b grows (inl e) = inl e
at_slot_grows p s t a b grows (inr h) = inr (grows.still a h.0, h.1 ∙ ap (tile p) (sym (grows.place a h.0)))

pub that_is : (o : Option ℕ) (a : ℕ) → is_that o a ≡ true → o ≡ Some a
that_is None a e = absurd cc
that_is (Some b) a e = ap Some (eqb-true b a e)

pub is_that-is : (o : Option ℕ) (a : ℕ) → o ≡ Some a → is_that o a ≡ true
is_that-is o a e = rw e (itself a)
  where
    itself : (n : ℕ) → (n == n) ≡ true
    itself n = grind (arith, nat_tests)

pub same_tile_held : (p : Platform) (s t : Slots) (a : ℕ) → Holding p s → Grows s t → Holds s t → s.held ≡ Some a → held_tile p t ≡ held_tile p s
same_tile_held p s t a holding grows holds e =
    let f = holds a e in
    let in_s : is_in a s.bound ≡ true = holding.in_bound a e in
    let place : slot_among t.bound a ≡ slot_among s.bound a = grows.place a in_s in
    rw (e, f, place) refl

-- what the first handler's labels need is there where the same APIC ID is held, and its tile is the same
first_carried : (f g : Facts) (n : Need) → (f.held ≡ true → (g.held ≡ true) × (g.ready ≡ f.ready) × (g.tiled ≡ f.tiled) × (g.returns ≡ f.returns)) → FirstNeeds f n → FirstNeeds g n
first_carried f g Ejecting same h = h
first_carried f g Nothing same h = h
first_carried f g Passing same h = let s = same h.0 in (s.0, s.1 ∙ h.1)
first_carried f g Loaded same h = let s = same h.0 in (s.0, s.2 ∙ h.1)
first_carried f g Saved same h = let s = same h.0 in (s.0, s.3 ∙ h.1)
first_carried f g Adding same h = h
first_carried f g Opening same h = h
first_carried f g Open same h = h
first_carried f g Looking same h = h
first_carried f g Telling same h = h

-- and by any record for whoever isn't past the gate
first_calm : (f g : Facts) (n : Need) → is_aloft n ≡ false → FirstNeeds f n → FirstNeeds g n
first_calm f g Ejecting calm h = h
first_calm f g Nothing calm h = h
first_calm f g Passing calm h = absurd cc
first_calm f g Loaded calm h = absurd cc
first_calm f g Saved calm h = absurd cc
first_calm f g Adding calm h = h
first_calm f g Opening calm h = h
first_calm f g Open calm h = h
first_calm f g Looking calm h = h
first_calm f g Telling calm h = h

-- what the monarch's record may become, for a processor with this instruction address: the same APIC ID is held, or it isn't past the gate
abbrev pub Carries : Slots → Slots → Option ℕ → Type 0
Carries s t o = (is_past o ≡ false) ⊎ Holds s t

-- the monarch's record is of no matter to the others but for its slots
current_other : (y : Layout) (r t : Monarch) (k b : ℕ) (l : Label) (q : Handler) → k ≢ 0 → runs_at y q k b ≡ true → is_current r q l ≡ true → is_current t q l ≡ true
current_other y r t k b l First other runs due = refl
current_other y r t k b l Relocated other runs due = refl
current_other y r t k b l Monarchs other runs due = absurd (other (eqb-true k 0 (and_parts (k == 0) (b == tile_in y 0) runs).0))

met_other : (p : Platform) (r t : Monarch) (ws : List Write) (k b base : ℕ) (l : Label) → Sound p → Holding p r.slots → Grows r.slots t.slots → k ≢ 0 → runs_at (layout_of p) (handler_of l) k b ≡ true → Carries r.slots t.slots (Some (address_of_label b l)) → Needs (facts_of p r ws (apic_of p k) base) (handler_of l) (need_of l) → Needs (facts_of p t ws (apic_of p k) base) (handler_of l) (need_of l)
met_other p r t ws k b base l sound holding grows other runs carries h = by_handler (handler_of l) runs h
  where
    same : Holds r.slots t.slots → is_that r.slots.held (apic_of p k) ≡ true → (is_that t.slots.held (apic_of p k) ≡ true) × (is_ready p t.slots ws ≡ is_ready p r.slots ws) × ((base == held_tile p t.slots) ≡ (base == held_tile p r.slots)) × (may_return p t.slots ws ≡ may_return p r.slots ws)
    same holds e =
        let is = that_is r.slots.held (apic_of p k) e in
        let tiles = same_tile_held p r.slots t.slots (apic_of p k) holding grows holds is in
        (is_that-is t.slots.held (apic_of p k) (holds (apic_of p k) is), rw tiles refl, rw tiles refl, rw tiles refl)

    by_handler : (q : Handler) → runs_at (layout_of p) q k b ≡ true → Needs (facts_of p r ws (apic_of p k) base) q (need_of l) → Needs (facts_of p t ws (apic_of p k) base) q (need_of l)
    by_handler First on f = elim carries [
      | inl calm ↦ first_calm (facts_of p r ws (apic_of p k) base) (facts_of p t ws (apic_of p k) base) (need_of l) (sym (aloft_past p k b l sound runs) ∙ calm) f
      | inr holds ↦ first_carried (facts_of p r ws (apic_of p k) base) (facts_of p t ws (apic_of p k) base) (need_of l) (same holds) f
    ]
    by_handler Relocated on f = f
    by_handler Monarchs on f = absurd (other (eqb-true k 0 (and_parts (k == 0) (b == tile_in (layout_of p) 0) on).0))

stands_other : (p : Platform) (r t : Monarch) (ws : List Write) (k b base : ℕ) (o : Option ℕ) → Sound p → Holding p r.slots → Grows r.slots t.slots → k ≢ 0 → Carries r.slots t.slots o → IsAtCell p r ws k b base o → IsAtCell p t ws k b base o
stands_other p r t ws k b base None sound holding grows other carries h = tt
stands_other p r t ws k b base (Some a) sound holding grows other carries h = (
  h.0,
  record {
    runs = h.1.runs;
    current = current_other (layout_of p) r t k b h.0 (handler_of h.0) other h.1.runs h.1.current;
    here = h.1.here;
    met = met_other p r t ws k b base h.0 sound holding grows other h.1.runs (subst (λ x. Carries r.slots t.slots (Some x)) h.1.here carries) h.1.met;
  },
)

pub cpu_parts_other : (p : Platform) (r t : Monarch) (ws : List Write) (k : ℕ) (c : Cpu) → Sound p → Holding p r.slots → Grows r.slots t.slots → k ≢ 0 → Carries r.slots t.slots (smm_address c) → CpuParts p r ws k c → CpuParts p t ws k c
cpu_parts_other p r t ws k c sound holding grows other carries h = record {
  based = h.based;
  possible = h.possible;
  slotted = λ e. at_slot_grows p r.slots t.slots (apic_of p k) c.smbase grows (h.slotted e);
  stands = stands_other p r t ws k c.smbase c.base (smm_address c) sound holding grows other carries h.stands;
  saves = h.saves;
}

-- one change of one place
pub same_or : (k i : ℕ) → (k ≡ i) ⊎ (k ≢ i)
same_or zero zero = inl refl
same_or zero (suc i) = inr (λ e. cc)
same_or (suc k) zero = inr (λ e. cc)
same_or (suc k) (suc i) = elim (same_or k i) [ inl e ↦ inl (ap suc e) | inr n ↦ inr (λ e. n (omega (arith, e))) ]

-- bytes of a save area are in reach, whoever is in SMM
pub reach_base : (p : Platform) (l : Locks) (n b off : ℕ) → Locked p l → Base p b → off + n ≤ 0x10000 → is_hole l true (b + off) n ≡ false
reach_base p l n b off h base less = let room = base.room in let same = h.low_memory in in_reach n (b + off) l (omega (arith, room, same, less))

-- who stands at a cell has its row
pub row_here : (p : Platform) (m : List Write) (s : State) (k a : ℕ) (l : Label) → Sound p → Invariant p m s → smm_address (at s k) ≡ Some a → AtCell p s.monarch s.writes k (at s k).smbase (at s k).base a l → label_at p s k ≡ Some l
unfolding label_at mark_at label_of_mark
row_here p m s k a l sound h is cell =
    let b = (at s k).smbase in
    let base : Base p b = base_based p k b sound (runs_based p (handler_of l) k b cell.runs) in
    let value : value_from (byte_at s.writes) (address_of_label b l) 4 ≡ mark_of l =
    value_left 4 (address_of_label b l) m s.writes (λ i small. h.locked.kept (address_of_label b l + i) (kept_cell p l (handler_of l) k b i sound refl cell.runs small)) ∙ h.locked.marks l k b cell.runs in
    let small = index_small l in
    let reach : is_hole s.locks true (b + (0x8000 + 4 * index_of l)) 4 ≡ false = reach_base p s.locks 4 b (0x8000 + 4 * index_of l) h.locked.registers base (omega (arith, small)) in
    let place : b + (0x8000 + 4 * index_of l) ≡ address_of_label b l = omega arith in
    let reached : is_hole s.locks true (address_of_label b l) 4 ≡ false = subst (λ x. is_hole s.locks true x 4 ≡ false) place reach in
    rw (is, cell.here, reached, value, found l, cell.runs, cell.current) refl

pub no_row : (p : Platform) (s : State) (k : ℕ) (l : Label) → smm_address (at s k) ≡ None → label_at p s k ≡ Some l → ⊥
unfolding label_at mark_at
no_row p s k l is e =
    let none : option_and_then (label_of_mark (layout_of p) s.monarch k (at s k).smbase) (option_map (λ address. loaded s.locks true (byte_at s.writes) address 4) (smm_address (at s k))) ≡ None = rw is refl in
    let both : None ≡ Some l = sym none ∙ e in
    cc

-- and who has a row stands at its cell
pub record AtRow (p : Platform) (s : State) (k : ℕ) (l : Label) : Type 0 where
  pub address : ℕ
  pub is : smm_address (at s k) ≡ Some address
  pub cell : AtCell p s.monarch s.writes k (at s k).smbase (at s k).base address l

pub row_stands : (p : Platform) (m : List Write) (s : State) (k : ℕ) (l : Label) → Sound p → Invariant p m s → label_at p s k ≡ Some l → AtRow p s k l
row_stands p m s k l sound h e = by_address (smm_address (at s k)) refl (h.stand.each k)
  where
    by_address : (o : Option ℕ) → smm_address (at s k) ≡ o → IsAtCell p s.monarch s.writes k (at s k).smbase (at s k).base o → AtRow p s k l
    by_address None is stands = absurd (no_row p s k l is e)
    by_address (Some a) is stands =
        let l0 = stands.0 in
        let same : l0 ≡ l = same_Some l0 l (sym (row_here p m s k a l0 sound h is stands.1) ∙ e) in
        record { address = a; is = is; cell = subst (AtCell p s.monarch s.writes k (at s k).smbase (at s k).base a) same stands.1 }

-- at the monarch's rows it is processor 0
pub row_first : (p : Platform) (s : State) (k : ℕ) (l : Label) → AtRow p s k l → handler_of l ≡ Monarchs → k ≡ 0
row_first p s k l here mine = eqb-true k 0 (and_parts (k == 0) ((at s k).smbase == tile_in (layout_of p) 0) (subst (λ q. runs_at (layout_of p) q k (at s k).smbase ≡ true) mine here.cell.runs)).0

-- the monarch's label is the one whose row is due
pub current_label_is : (r : Monarch) (l : Label) → is_current r (handler_of l) l ≡ true → handler_of l ≡ Monarchs → r.label ≡ l
current_label_is r l due is = by_mark (subst (λ q. is_current r q l ≡ true) is due)
  where
    by_mark : (mark_of l == mark_of r.label) ≡ true → r.label ≡ l
    by_mark e = sym (same_label l r.label (eqb-true (mark_of l) (mark_of r.label) e))

-- a processor's share of the parts
pub cpu_parts : (p : Platform) (m : List Write) (s : State) (k : ℕ) → Invariant p m s → CpuParts p s.monarch s.writes k (at s k)
cpu_parts p m s k h = record { based = h.slots.based k; possible = h.slots.possible k; slotted = h.slots.slotted k; stands = h.stand.each k; saves = h.slots.saved k }

-- the parts of a state from those of each processor
pub gathered : (p : Platform) (m : List Write) (s : State) → is_handed s.stage ≡ true → IsLocked p m s → ((k : ℕ) → CpuParts p s.monarch s.writes k (at s k)) → (at s 0).present ≡ true → IsGated p s.monarch s.writes → Rests s → Recorded p s.monarch → Holding p s.monarch.slots → Settled p s → Invariant p m s
gathered p m s handed locked each first gated rests recorded holding settled = record {
  handed = handed;
  locked = locked;
  stand = record { each = λ k. (each k).stands };
  slots = record { first = first; based = λ k. (each k).based; possible = λ k. (each k).possible; slotted = λ k. (each k).slotted; saved = λ k. (each k).saves };
  gated = gated;
  rests = rests;
  recorded = recorded;
  holding = holding;
  settled = settled;
}

-- the parts speak of no more than stage, locks, memory, processors and the monarch's record
pub unmoved : (p : Platform) (m : List Write) (s : State) (b : Block) (i : Ich9) (f : FwCfg) (g : Stage) (d : Bool) → is_handed g ≡ true → Invariant p m s → Invariant p m (record s { block = b; ich9 = i; fw_cfg = f; stage = g; disturbed = d })
unmoved p m s b i f g d handed h =
    gathered p m (record s { block = b; ich9 = i; fw_cfg = f; stage = g; disturbed = d }) handed (record { marks = h.locked.marks; registers = h.locked.registers; kept = h.locked.kept })
    (λ k. cpu_parts p m s k h) h.slots.first h.gated h.rests h.recorded h.holding h.settled
