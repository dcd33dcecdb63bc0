-- Where SMBASEs, cells and save areas lie, and that they are kept and locked.
use Rattle.std.proofs.Common.{ℕ, ◌≡◌, ◌+◌, ◌-◌, ◌*◌, ◌%◌, ◌<◌, ◌≤◌, ◌==◌, ◌⊎◌, inl, inr, Bool, true, false, cond, not, ◌&&◌, ◌||◌, nat_lt, nat_le, refl, sym, subst, arith}
use Rattle.std.proofs.lemmas.Bool.{and_parts, eqb-true, ltb-true}
use Rattle.std.proofs.lemmas.Bool.Decides.{nat_tests}
use Rattle.hp_model.proofs.Cases.{or_cases}
use Rattle.hp_model.specs.declared.platforms.Platform.{Platform}
use Rattle.hp_model.specs.declared.labels.Label.{Label}
use Rattle.hp_model.specs.Platform.{tseg, tile, count_of}
use Rattle.hp_model.specs.View.{Locks, tseg_size, is_locked}
use Rattle.hp_model.specs.Boot.{tseg_enabled}
use Rattle.hp_model.specs.declared.labels.Handler.{Handler}
use Rattle.hp_model.specs.declared.labels.Handler.TheVariants.{First, Relocated, Monarch}
use Rattle.hp_model.specs.Labels.{handler_of, index_of}
use Rattle.hp_model.specs.SharedBytes.{layout_of}
use Rattle.hp_model.specs.Handlers.{slot_at, is_tile, runs_at, address_of_label}
use Rattle.hp_sealed.specs.Left.{Sound, Locked, is_gate, is_guarded, guarded_by, is_kept}
use Rattle.hp_sealed.specs.Sealed.{is_other_tile, is_based}
use Rattle.hp_sealed.specs.Booting.{is_set_up}
use Rattle.hp_model.proofs.Marks.{index_small, index_first}

pub from_size : (p : Platform) (ext : ℕ) → Sound p → (p.tseg_mib ≡ 48 → ext ≡ 0x30) → p.low_memory - tseg_size ext (tseg_enabled p.tseg_mib) * 0x100000 ≡ tseg p
from_size p ext sound asked = by_size sound.size
  where
    by_size : (p.tseg_mib ≡ 1) ⊎ ((p.tseg_mib ≡ 2) ⊎ ((p.tseg_mib ≡ 8) ⊎ (p.tseg_mib ≡ 48))) → p.low_memory - tseg_size ext (tseg_enabled p.tseg_mib) * 0x100000 ≡ p.low_memory - p.tseg_mib * 0x100000
    by_size (inl e) = rw e refl
    by_size (inr (inl e)) = rw e refl
    by_size (inr (inr (inl e))) = rw e refl
    by_size (inr (inr (inr e))) = rw (e, asked e) refl

-- once all is locked, so is the default area
pub default_locked : (p : Platform) (l : Locks) (x : ℕ) → Locked p l → (nat_le 0x30000 x && nat_lt x 0x50000) ≡ true → is_locked l x ≡ true
default_locked p l x h g = rw (h.f_smbase, g) refl

-- and each guarded byte
locks_plain : (base top x : ℕ) → guarded_by base top x ≡ true → ((nat_le 0x30000 x && nat_lt x 0x50000) || (nat_le base x && nat_lt x top)) ≡ true
locks_plain base top x g = grind (arith, nat_tests)

pub guarded_locked : (p : Platform) (l : Locks) (x : ℕ) → Sound p → Locked p l → is_guarded p x ≡ true → is_locked l x ≡ true
guarded_locked p l x sound h g = rw (h.f_smbase, h.smram, h.esmramc, h.low_memory, from_size p l.ext_tseg sound h.ext_tseg) (locks_plain (tseg p) p.low_memory x g)

-- all of TSEG is locked
pub tseg_locked : (p : Platform) (l : Locks) (x : ℕ) → Sound p → Locked p l → (nat_le (tseg p) x && nat_lt x p.low_memory) ≡ true → is_locked l x ≡ true
tseg_locked p l x sound h g = rw (h.f_smbase, h.smram, h.esmramc, h.low_memory, from_size p l.ext_tseg sound h.ext_tseg, g) (more (nat_le 0x30000 x && nat_lt x 0x50000))
  where
    more : (a : Bool) → (a || true) ≡ true
    more true = refl
    more false = refl

pub kept_guarded : (p : Platform) (x : ℕ) → is_kept p x ≡ true → is_guarded p x ≡ true
kept_guarded p x e = (and_parts (is_guarded p x) (nat_lt (x % 0x10000) 0xfefc) e).0

pub set_up_locked : (p : Platform) (l : Locks) (x : ℕ) → Sound p → Locked p l → is_set_up p x ≡ true → is_locked l x ≡ true
set_up_locked p l x sound h g = elim (or_cases (is_gate x) (is_kept p x) g) [
  | inl e ↦ default_locked p l x h (in_area x e)
  | inr e ↦ guarded_locked p l x sound h (kept_guarded p x e)
]
  where
    in_area : (x : ℕ) → is_gate x ≡ true → (nat_le 0x30000 x && nat_lt x 0x50000) ≡ true
    in_area x e = grind (arith, nat_tests)

pub kept_set_up : (p : Platform) (x : ℕ) → is_kept p x ≡ true → is_set_up p x ≡ true
kept_set_up p x e = more (is_gate x) (is_kept p x) e
  where
    more : (a b : Bool) → b ≡ true → (a || b) ≡ true
    more true b f = refl
    more false b f = f

pub gate_set_up : (p : Platform) (i : ℕ) → i < 8 → is_set_up p (0x30000 + i) ≡ true
gate_set_up p i small = let g : is_gate (0x30000 + i) ≡ true = in_gate i small in rw g refl
  where
    in_gate : (i : ℕ) → i < 8 → is_gate (0x30000 + i) ≡ true
    in_gate i small = grind (arith, nat_tests)

-- an SMBASE that a processor may have
pub record Base (p : Platform) (b : ℕ) : Type 0 where
  pub unit : ℕ
  pub whole : b ≡ 0x10000 * unit
  pub room : b + 0x10000 ≤ p.low_memory
  pub area : (b ≡ 0x30000) ⊎ (tseg p + 0x20000 ≤ b)

pub base_default : (p : Platform) → Sound p → Base p 0x30000
base_default p sound = record { unit = 3; whole = refl; room = let t = sound.top in let a = sound.above in omega (arith, t, a); area = inl refl }

pub base_tile : (p : Platform) (k b : ℕ) → Sound p → k < count_of p → b ≡ tile p k → Base p b
base_tile p k b sound less e = record {
  unit = sound.unit + 2 + k;
  whole = let w = sound.whole in omega (arith, w, e);
  room = let t = sound.top in let r = sound.room in omega (arith, t, r, e, less);
  area = inr (omega (arith, e));
}

some_if : (a : ℕ) → not (a == 0) ≡ true → 1 ≤ a
some_if a e = grind (arith, nat_tests)

-- the slot of a tile that isn't slot 0's
pub record OfSlot (p : Platform) (b : ℕ) : Type 0 where
  pub slot : ℕ
  pub some : 1 ≤ slot
  pub less : slot < count_of p
  pub is : b ≡ tile p slot

pub slot_of : (p : Platform) (b : ℕ) → is_other_tile (layout_of p) b ≡ true → OfSlot p b
slot_of p b e =
    let s = slot_at (layout_of p) b in
    let a = and_parts (not (s == 0)) (is_tile (layout_of p) b) e in
    let c = and_parts (nat_lt s (count_of p)) (b == tile p s) a.1 in
    record { slot = s; some = some_if s a.0; less = ltb-true s (count_of p) c.0; is = eqb-true b (tile p s) c.1 }

pub base_other : (p : Platform) (b : ℕ) → Sound p → is_other_tile (layout_of p) b ≡ true → Base p b
base_other p b sound e = let s = slot_of p b e in base_tile p s.slot b sound s.less s.is

pub base_based : (p : Platform) (k b : ℕ) → Sound p → is_based p k b ≡ true → Base p b
base_based p k b sound e = elim (split (k == 0) (b == tile p 0) ((b == 0x30000) || is_other_tile (layout_of p) b) e) [
  | inl f ↦ base_tile p 0 b sound (let s = sound.some in omega (arith, s)) (eqb-true b (tile p 0) f)
  | inr f ↦ elim (or_cases (b == 0x30000) (is_other_tile (layout_of p) b) f) [
    | inl g ↦ subst (Base p) (sym (eqb-true b 0x30000 g)) (base_default p sound)
    | inr g ↦ base_other p b sound g
  ]
]
  where
    split : (c x y : Bool) → cond c x y ≡ true → (x ≡ true) ⊎ (y ≡ true)
    split true x y e = inl e
    split false x y e = inr e

-- a handler runs at such an SMBASE
pub base_runs : (p : Platform) (q : Handler) (k b : ℕ) → Sound p → runs_at (layout_of p) q k b ≡ true → Base p b
base_runs p First k b sound e = subst (Base p) (sym (eqb-true b 0x30000 (and_parts (not (k == 0)) (b == 0x30000) e).1)) (base_default p sound)
base_runs p Relocated k b sound e = base_other p b sound (and_parts (not (k == 0)) (is_other_tile (layout_of p) b) e).1
base_runs p Monarch k b sound e = base_tile p 0 b sound (let s = sound.some in omega (arith, s)) (eqb-true b (tile p 0) (and_parts (k == 0) (b == tile p 0) e).1)

-- a place within 64 KiB of a base, but for the save area, is kept
kept_plain : (base top b m off : ℕ) → 0x800000 ≤ base → b ≡ 0x10000 * m → base + 0x20000 ≤ b → b + 0x10000 ≤ top → off < 0xfefc → (guarded_by base top (b + off) && nat_lt ((b + off) % 0x10000) 0xfefc) ≡ true
kept_plain base top b m off above e low room small = grind (arith, nat_tests)

pub kept_tile : (p : Platform) (b off : ℕ) → Sound p → Base p b → tseg p + 0x20000 ≤ b → off < 0xfefc → is_kept p (b + off) ≡ true
kept_tile p b off sound h low small = kept_plain (tseg p) p.low_memory b h.unit off sound.above h.whole low h.room small

kept_first : (base top off : ℕ) → off < 24 → (guarded_by base top (0x38000 + off) && nat_lt ((0x38000 + off) % 0x10000) 0xfefc) ≡ true
kept_first base top off small = grind (arith, nat_tests)

cell_tile : (p : Platform) (l : Label) (b i : ℕ) → Sound p → Base p b → tseg p + 0x20000 ≤ b → i < 4 → is_kept p (address_of_label b l + i) ≡ true
cell_tile p l b i sound h low small =
    let o = index_small l in
    let place : b + (0x8000 + 4 * index_of l + i) ≡ b + 0x8000 + 4 * index_of l + i = omega arith in
    subst (λ x. is_kept p x ≡ true) place (kept_tile p b (0x8000 + 4 * index_of l + i) sound h low (omega (arith, o, small)))

-- each byte of a cell of a handler that runs at this SMBASE is kept
pub kept_cell : (p : Platform) (l : Label) (q : Handler) (k b i : ℕ) → Sound p → handler_of l ≡ q → runs_at (layout_of p) q k b ≡ true → i < 4 → is_kept p (address_of_label b l + i) ≡ true
kept_cell p l First k b i sound side e small =
    let base : b ≡ 0x30000 = eqb-true b 0x30000 (and_parts (not (k == 0)) (b == 0x30000) e).1 in
    let off = index_first l side in
    let place : 0x38000 + (4 * index_of l + i) ≡ b + 0x8000 + 4 * index_of l + i = omega (arith, base) in
    subst (λ x. is_kept p x ≡ true) place (kept_first (tseg p) p.low_memory (4 * index_of l + i) (omega (arith, off, small)))
kept_cell p l Relocated k b i sound side e small =
    let other = (and_parts (not (k == 0)) (is_other_tile (layout_of p) b) e).1 in
    let s = slot_of p b other in
    let is = s.is in
    cell_tile p l b i sound (base_other p b sound other) (omega (arith, is)) small
kept_cell p l Monarch k b i sound side e small =
    let is = eqb-true b (tile p 0) (and_parts (k == 0) (b == tile p 0) e).1 in
    cell_tile p l b i sound (base_runs p Monarch k b sound e) (omega (arith, is)) small

-- the field of SMBASE in a tile's save area is guarded
pub guarded_field : (p : Platform) (b i : ℕ) → Base p b → tseg p + 0x20000 ≤ b → i < 4 → is_guarded p (b + 0xff00 + i) ≡ true
guarded_field p b i h low small = field_tile (tseg p) p.low_memory b i low h.room small
  where
    field_tile : (base top b i : ℕ) → base + 0x20000 ≤ b → b + 0x10000 ≤ top → i < 4 → guarded_by base top (b + 0xff00 + i) ≡ true
    field_tile base top b i low room small = grind (arith, nat_tests)

-- where a handler runs, its processor may have its SMBASE
pub runs_based : (p : Platform) (q : Handler) (k b : ℕ) → runs_at (layout_of p) q k b ≡ true → is_based p k b ≡ true
runs_based p First k b e = by_first (k == 0) (b == tile p 0) (b == 0x30000) (is_other_tile (layout_of p) b) e
  where
    by_first : (z t d i : Bool) → (not z && d) ≡ true → cond z t (d || i) ≡ true
    by_first true t d i e = absurd cc
    by_first false t true i e = refl
    by_first false t false i e = absurd cc
runs_based p Relocated k b e = by_tile (k == 0) (b == tile p 0) (b == 0x30000) (is_other_tile (layout_of p) b) e
  where
    by_tile : (z t d i : Bool) → (not z && i) ≡ true → cond z t (d || i) ≡ true
    by_tile true t d i e = absurd cc
    by_tile false t true i e = refl
    by_tile false t false i e = e
runs_based p Monarch k b e = by_first (k == 0) (b == tile p 0) ((b == 0x30000) || is_other_tile (layout_of p) b) e
  where
    by_first : (z t y : Bool) → (z && t) ≡ true → cond z t y ≡ true
    by_first true t y e = e
    by_first false t y e = absurd cc
