-- What a step's writes leave of cells and tiles, and of the values that the handlers go by.
use Rattle.std.proofs.Common.{ℕ, ◌≡◌, ◌≢◌, ◌+◌, ◌<◌, ◌≤◌, ◌==◌, ◌⊎◌, inl, inr, Bool, true, false, ◌&&◌, ◌||◌, nat_lt, nat_le, List, refl, sym, subst, ◌∙◌, arith}
use Rattle.std.proofs.lemmas.Bool.Decides.{nat_tests}
use Rattle.hp_model.specs.declared.platforms.Platform.{Platform}
use Rattle.hp_model.specs.Platform.{tseg}
use Rattle.hp_model.specs.Memory.{Write, byte_at, value_from, touched}
use Rattle.hp_model.specs.View.{Locks, is_hole, stored}
use Rattle.hp_model.specs.SharedBytes.{gate, new_smbase, flag, default_smbase_field}
use Rattle.hp_model.specs.Slots.{Slots}
use Rattle.hp_model.specs.Monarch.{Monarch}
use Rattle.hp_model.proofs.Bytes.{length-bytes_of}
use Rattle.hp_sealed.specs.Left.{IsLeft, Sound, Locked, is_guarded, guarded_by}
use Rattle.hp_sealed.proofs.Left.{left_same, left_store}
use Rattle.hp_sealed.proofs.Values.{value_left, value_written, value_eight, value_one}
use Rattle.hp_safety.proofs.Invariant.{held_tile, is_ready, may_return, IsShut, IsGated}
use Rattle.hp_safety.proofs.Saves.{in_reach}

-- no write covers a guarded byte, and what the handlers find for the held APIC ID stays as good as it was
pub record Writes (p : Platform) (s : Slots) (ws vs : List Write) : Type 0 where
  pub cells : (x : ℕ) → is_guarded p x ≡ true → IsLeft x ws vs
  pub ready : is_ready p s ws ≡ true → is_ready p s vs ≡ true
  pub returns : may_return p s ws ≡ true → may_return p s vs ≡ true

-- the values of the default area stay
pub record LeavesFirst (p : Platform) (ws vs : List Write) : Type 0 where
  pub cells : (x : ℕ) → is_guarded p x ≡ true → IsLeft x ws vs
  pub openings : (i : ℕ) → i < 8 → IsLeft (gate + i) ws vs
  pub gates : value_from (byte_at vs) gate 8 ≡ value_from (byte_at ws) gate 8
  pub news : value_from (byte_at vs) new_smbase 4 ≡ value_from (byte_at ws) new_smbase 4
  pub fields : value_from (byte_at vs) default_smbase_field 4 ≡ value_from (byte_at ws) default_smbase_field 4

-- and so does each arrived byte
pub record Leaves (p : Platform) (ws vs : List Write) : Type 0 where
  pub first : LeavesFirst p ws vs
  pub arrivals : (x : ℕ) → x ≤ 512 → value_from (byte_at vs) (tseg p + x) 1 ≡ value_from (byte_at ws) (tseg p + x) 1

pub leaves_same : (p : Platform) (ws : List Write) → Leaves p ws ws
leaves_same p ws = record { first = record { cells = λ x g. left_same x ws; openings = λ i small. left_same (gate + i) ws; gates = refl; news = refl; fields = refl }; arrivals = λ x small. refl }

ready_by : (p : Platform) (s : Slots) (ws vs : List Write) → value_from (byte_at vs) new_smbase 4 ≡ value_from (byte_at ws) new_smbase 4 → is_ready p s ws ≡ true → is_ready p s vs ≡ true
ready_by p s ws vs same e = subst (λ v. (v == held_tile p s) ≡ true) (sym same) e

returns_by : (p : Platform) (s : Slots) (ws vs : List Write) → value_from (byte_at vs) default_smbase_field 4 ≡ value_from (byte_at ws) default_smbase_field 4 → may_return p s ws ≡ true → may_return p s vs ≡ true
returns_by p s ws vs same e = subst (λ v. ((v == 0x30000) || (v == held_tile p s)) ≡ true) (sym same) e

pub writes_first : (p : Platform) (s : Slots) (ws vs : List Write) → LeavesFirst p ws vs → Writes p s ws vs
writes_first p s ws vs h = record { cells = h.cells; ready = ready_by p s ws vs h.news; returns = returns_by p s ws vs h.fields }

pub writes_same : (p : Platform) (s : Slots) (ws : List Write) → Writes p s ws ws
writes_same p s ws = record { cells = λ x g. left_same x ws; ready = λ e. e; returns = λ e. e }

pub gated_first : (p : Platform) (r : Monarch) (ws vs : List Write) → LeavesFirst p ws vs → IsGated p r ws → IsGated p r vs
gated_first p r ws vs h (inl e) = inl (h.gates ∙ e)
gated_first p r ws vs h (inr o) = inr (record { may = o.may; held = rw h.gates o.held; ready = ready_by p r.slots ws vs h.news o.ready })

-- guarded bytes, those of the three values, and the arrived bytes
abbrev pub first_by : ℕ → ℕ → ℕ → Bool
first_by base top x = guarded_by base top x || ((nat_le 0x30000 x && nat_lt x 0x3000c) || (nat_le 0x3ff00 x && nat_lt x 0x3ff04))

abbrev pub watched_by : ℕ → ℕ → ℕ → Bool
watched_by base top x = first_by base top x || (nat_le base x && nat_lt x (base + 0x201))

abbrev pub is_watched : Platform → ℕ → Bool
is_watched p x = watched_by (tseg p) p.low_memory x

watched_first : (base top i : ℕ) → i < 12 → first_by base top (0x30000 + i) ≡ true
watched_first base top i small = grind (arith, nat_tests)

watched_field : (base top i : ℕ) → i < 4 → first_by base top (0x3ff00 + i) ≡ true
watched_field base top i small = grind (arith, nat_tests)

watched_guarded : (base top x : ℕ) → guarded_by base top x ≡ true → first_by base top x ≡ true
watched_guarded base top x g = rw g refl

watched_arrived : (base top x i : ℕ) → x ≤ 512 → i < 1 → watched_by base top (base + x + i) ≡ true
watched_arrived base top x i small one = grind (arith, nat_tests)

first_watched : (base top x : ℕ) → first_by base top x ≡ true → watched_by base top x ≡ true
first_watched base top x e = rw e refl

leaves_first : (p : Platform) (ws vs : List Write) → ((x : ℕ) → first_by (tseg p) p.low_memory x ≡ true → IsLeft x ws vs) → LeavesFirst p ws vs
leaves_first p ws vs left = record {
  cells = λ x g. left x (watched_guarded (tseg p) p.low_memory x g);
  openings = λ i small. left (0x30000 + i) (watched_first (tseg p) p.low_memory i (omega (arith, small)));
  gates = value_left 8 0x30000 ws vs (λ i small. left (0x30000 + i) (watched_first (tseg p) p.low_memory i (omega (arith, small))));
  news = value_left 4 0x30008 ws vs (λ i small. let place : 0x30000 + (8 + i) ≡ 0x30008 + i = omega arith in left (0x30008 + i) (subst (λ x. first_by (tseg p) p.low_memory x ≡ true) place (watched_first (tseg p) p.low_memory (8 + i) (omega (arith, small)))));
  fields = value_left 4 0x3ff00 ws vs (λ i small. left (0x3ff00 + i) (watched_field (tseg p) p.low_memory i small));
}

pub leaves_left : (p : Platform) (ws vs : List Write) → ((x : ℕ) → is_watched p x ≡ true → IsLeft x ws vs) → Leaves p ws vs
leaves_left p ws vs left = record {
  first = leaves_first p ws vs (λ x g. left x (first_watched (tseg p) p.low_memory x g));
  arrivals = λ x small. value_left 1 (tseg p + x) ws vs (λ i one. left (tseg p + x + i) (watched_arrived (tseg p) p.low_memory x i small one));
}

-- a store of one byte that all handlers share, past the arrived bytes, and one of the flag
shared_misses : (base top x a : ℕ) → 0x800000 ≤ base → base + 0x1000 ≤ a → a < base + 0x5000 → watched_by base top x ≡ true → (nat_le a x && nat_lt x (a + 1)) ≡ false
shared_misses base top x a above low high g = grind (arith, nat_tests)

pub leaves_shared : (p : Platform) (l : Locks) (ws : List Write) (a v : ℕ) → Sound p → tseg p + 0x1000 ≤ a → a < tseg p + 0x5000 → Leaves p ws (stored l true a 1 v ws)
leaves_shared p l ws a v sound low high = leaves_left p ws (stored l true a 1 v ws) (λ x g. left_store l true a 1 v ws x (λ e. shared_misses (tseg p) p.low_memory x a sound.above low high g))

flag_misses : (base top x : ℕ) → 0x800000 ≤ base → watched_by base top x ≡ true → (nat_le 0x3000c x && nat_lt x (0x3000c + 1)) ≡ false
flag_misses base top x above g = grind (arith, nat_tests)

pub leaves_flag : (p : Platform) (l : Locks) (ws : List Write) (v : ℕ) → Sound p → Leaves p ws (stored l true flag 1 v ws)
leaves_flag p l ws v sound = leaves_left p ws (stored l true flag 1 v ws) (λ x g. left_store l true flag 1 v ws x (λ e. flag_misses (tseg p) p.low_memory x sound.above g))

-- a store of an arrived byte leaves all but that
arrived_misses : (base top x a : ℕ) → 0x800000 ≤ base → base ≤ a → a < base + 0x201 → first_by base top x ≡ true → (nat_le a x && nat_lt x (a + 1)) ≡ false
arrived_misses base top x a above low high g = grind (arith, nat_tests)

pub leaves_arrived : (p : Platform) (l : Locks) (ws : List Write) (x v : ℕ) → Sound p → x ≤ 512 → LeavesFirst p ws (stored l true (tseg p + x) 1 v ws)
leaves_arrived p l ws x v sound small =
    leaves_first p ws (stored l true (tseg p + x) 1 v ws) (λ y g. left_store l true (tseg p + x) 1 v ws y (λ e. arrived_misses (tseg p) p.low_memory y (tseg p + x) sound.above (omega arith) (omega (arith, small)) g))

-- a store elsewhere leaves a value
apart_misses : (a b n w i : ℕ) → (a + w ≤ b) ⊎ (b + n ≤ a) → i < n → (nat_le a (b + i) && nat_lt (b + i) (a + w)) ≡ false
apart_misses a b n w i (inl h) small = grind (arith, nat_tests)
apart_misses a b n w i (inr h) small = grind (arith, nat_tests)

pub value_kept : (l : Locks) (ws : List Write) (a w v b n : ℕ) → (a + w ≤ b) ⊎ (b + n ≤ a) → value_from (byte_at (stored l true a w v ws)) b n ≡ value_from (byte_at ws) b n
value_kept l ws a w v b n h = value_left n b ws (stored l true a w v ws) (λ i small. left_store l true a w v ws (b + i) (λ e. apart_misses a b n w i h small))

-- and each byte of the gate
pub gate_left : (l : Locks) (ws : List Write) (a w v : ℕ) → (a + w ≤ gate) ⊎ (gate + 8 ≤ a) → (i : ℕ) → i < 8 → IsLeft (gate + i) ws (stored l true a w v ws)
gate_left l ws a w v h i small = left_store l true a w v ws (gate + i) (λ e. apart_misses a gate 8 w i h small)

-- and those of the three values leave cells and tiles
low_misses : (base top x a n : ℕ) → 0x800000 ≤ base → (a + n ≤ 0x38000) ⊎ ((0x38018 ≤ a) × (a + n ≤ 0x800000)) → guarded_by base top x ≡ true → (nat_le a x && nat_lt x (a + n)) ≡ false
low_misses base top x a n above (inl h) g = grind (arith, nat_tests)
low_misses base top x a n above (inr h) g = let i = h.0 in let j = h.1 in grind (arith, nat_tests)

low_left : (p : Platform) (l : Locks) (ws : List Write) (a n v x : ℕ) → Sound p → (a + n ≤ 0x38000) ⊎ ((0x38018 ≤ a) × (a + n ≤ 0x800000)) → is_guarded p x ≡ true → IsLeft x ws (stored l true a n v ws)
low_left p l ws a n v x sound h g = left_store l true a n v ws x (λ e. low_misses (tseg p) p.low_memory x a n sound.above h g)

-- the gate is written: the others stay
pub leaves_gate : (p : Platform) (s : Slots) (l : Locks) (ws : List Write) (v : ℕ) → Sound p → Writes p s ws (stored l true gate 8 v ws)
leaves_gate p s l ws v sound =
    let vs = stored l true gate 8 v ws in
    record {
      cells = λ x g. low_left p l ws gate 8 v x sound (inl (omega arith)) g;
      ready = ready_by p s ws vs (value_kept l ws gate 8 v new_smbase 4 (inl (omega arith)));
      returns = returns_by p s ws vs (value_kept l ws gate 8 v default_smbase_field 4 (inl (omega arith)));
    }

-- what a store below TSEG leaves of arrived bytes
pub arrivals_low : (p : Platform) (l : Locks) (ws : List Write) (a n v x : ℕ) → Sound p → a + n ≤ 0x800000 → value_from (byte_at (stored l true a n v ws)) (tseg p + x) 1 ≡ value_from (byte_at ws) (tseg p + x) 1
arrivals_low p l ws a n v x sound low = let above = sound.above in value_kept l ws a n v (tseg p + x) 1 (inl (omega (arith, low, above)))

-- and one of an arrived byte of the others
pub arrivals_other : (p : Platform) (l : Locks) (ws : List Write) (x v y : ℕ) → x ≢ y → value_from (byte_at (stored l true (tseg p + x) 1 v ws)) (tseg p + y) 1 ≡ value_from (byte_at ws) (tseg p + y) 1
arrivals_other p l ws x v y other = value_kept l ws (tseg p + x) 1 v (tseg p + y) 1 (apart (tseg p) x y other)
  where
    apart : (base x y : ℕ) → x ≢ y → (base + x + 1 ≤ base + y) ⊎ (base + y + 1 ≤ base + x)
    apart base x y other = by_less (nat_lt x y) refl
      where
        by_less : (c : Bool) → nat_lt x y ≡ c → (base + x + 1 ≤ base + y) ⊎ (base + y + 1 ≤ base + x)
        by_less true e = inl (grind (arith, nat_tests))
        by_less false e = inr (grind (arith, nat_tests))

-- values just stored
pub reach_low : (p : Platform) (l : Locks) (n a : ℕ) → Sound p → Locked p l → a + n ≤ 0x800000 → is_hole l true a n ≡ false
reach_low p l n a sound h low = let top = sound.top in let above = sound.above in let same = h.low_memory in in_reach n a l (omega (arith, top, above, same, low))

value_stored : (p : Platform) (l : Locks) (ws : List Write) (a v : ℕ) → Sound p → Locked p l → a + 4 ≤ 0x800000 → v < 0x100000000 → value_from (byte_at (stored l true a 4 v ws)) a 4 ≡ v
value_stored p l ws a v sound locks low small =
    let reach = reach_low p l 4 a sound locks low in
    rw reach (value_written a v ws small)

pub gate_stored : (p : Platform) (l : Locks) (ws : List Write) (v : ℕ) → Sound p → Locked p l → v < 0x10000000000000000 → value_from (byte_at (stored l true gate 8 v ws)) gate 8 ≡ v
gate_stored p l ws v sound locks small =
    let reach = reach_low p l 8 gate sound locks (omega arith) in
    rw reach (value_eight gate v ws small)

-- such a store covers it once more
pub gate_written : (p : Platform) (l : Locks) (ws : List Write) (v : ℕ) → Sound p → Locked p l → touched (stored l true gate 8 v ws) gate ≡ touched ws gate + 1
gate_written p l ws v sound locks =
    let reach = reach_low p l 8 gate sound locks (omega arith) in
    let size = length-bytes_of 8 v in
    rw (reach, size) refl

pub reach_arrived : (p : Platform) (l : Locks) (x : ℕ) → Sound p → Locked p l → x ≤ 512 → is_hole l true (tseg p + x) 1 ≡ false
reach_arrived p l x sound locks few = let top = sound.top in let room = sound.room in let same = locks.low_memory in in_reach 1 (tseg p + x) l (omega (arith, top, room, same, few))

pub arrived_stored : (p : Platform) (l : Locks) (ws : List Write) (x v : ℕ) → Sound p → Locked p l → x ≤ 512 → v < 0x100 → value_from (byte_at (stored l true (tseg p + x) 1 v ws)) (tseg p + x) 1 ≡ v
arrived_stored p l ws x v sound locks few small =
    let reach = reach_arrived p l x sound locks few in
    rw reach (value_one (tseg p + x) v ws small)

itself : (n : ℕ) → (n == n) ≡ true
itself n = grind (arith, nat_tests)

-- the held one's tile is stored as the new SMBASE
pub writes_new : (p : Platform) (s : Slots) (l : Locks) (ws : List Write) (v : ℕ) → Sound p → Locked p l → v ≡ held_tile p s → v < 0x100000000 → Writes p s ws (stored l true new_smbase 4 v ws) × (is_ready p s (stored l true new_smbase 4 v ws) ≡ true)
writes_new p s l ws v sound locks e small =
    let vs = stored l true new_smbase 4 v ws in
    let now : is_ready p s vs ≡ true = rw (value_stored p l ws new_smbase v sound locks (omega arith) small, e) (itself (held_tile p s)) in (
      record {
        cells = λ x g. low_left p l ws new_smbase 4 v x sound (inl (omega arith)) g;
        ready = λ h. now;
        returns = returns_by p s ws vs (value_kept l ws new_smbase 4 v default_smbase_field 4 (inl (omega arith)));
      },
      now,
    )

-- and as the saved one
pub writes_saved : (p : Platform) (s : Slots) (l : Locks) (ws : List Write) (v : ℕ) → Sound p → Locked p l → v ≡ held_tile p s → v < 0x100000000 → Writes p s ws (stored l true default_smbase_field 4 v ws) × (may_return p s (stored l true default_smbase_field 4 v ws) ≡ true)
writes_saved p s l ws v sound locks e small =
    let vs = stored l true default_smbase_field 4 v ws in
    let news = value_kept l ws default_smbase_field 4 v new_smbase 4 (inr (omega arith)) in
    let same = itself (held_tile p s) in
    let now : may_return p s vs ≡ true = rw (value_stored p l ws default_smbase_field v sound locks (omega arith) small, e, same) (more (held_tile p s == 0x30000)) in (
      record {
        cells = λ x g. low_left p l ws default_smbase_field 4 v x sound (inr (omega arith, omega arith)) g;
        ready = ready_by p s ws vs news;
        returns = λ h. now;
      },
      now,
    )
  where
    more : (c : Bool) → (c || true) ≡ true
    more true = refl
    more false = refl

-- the gate, where the saved SMBASE is stored
pub gated_saved : (p : Platform) (r : Monarch) (l : Locks) (ws : List Write) (v : ℕ) → IsGated p r ws → IsGated p r (stored l true default_smbase_field 4 v ws)
gated_saved p r l ws v (inl e) = inl (value_kept l ws default_smbase_field 4 v gate 8 (inr (omega arith)) ∙ e)
gated_saved p r l ws v (inr o) =
    inr (record { may = o.may; held = rw (value_kept l ws default_smbase_field 4 v gate 8 (inr (omega arith))) o.held; ready = ready_by p r.slots ws (stored l true default_smbase_field 4 v ws) (value_kept l ws default_smbase_field 4 v new_smbase 4 (inr (omega arith))) o.ready })

-- and where the new one is
pub shut_new : (p : Platform) (l : Locks) (ws : List Write) (v : ℕ) → IsShut ws → IsShut (stored l true new_smbase 4 v ws)
shut_new p l ws v e = value_kept l ws new_smbase 4 v gate 8 (inr (omega arith)) ∙ e
