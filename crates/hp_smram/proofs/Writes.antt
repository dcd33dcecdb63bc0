-- What no list of register writes undoes.
use Rattle.std.proofs.Common.{◌≡◌, ◌⊎◌, inl, inr, ℕ, zero, suc, Bool, true, false, ◌&&◌, ◌==◌, ◌+◌, ◌-◌, ◌*◌, ◌<◌, ◌≤◌, List, [], ◌∷◌, refl, ap, ◌∙◌, arith}
use Rattle.std.specs.Prelude.{nat_lt, nat_le, bit_and}
use Rattle.std.proofs.lemmas.Bool.{eqb-true, and_parts, or_cases, or_left, or_right}
use Rattle.std.proofs.lemmas.Bool.Decides.{nat_tests}
use Rattle.hp_model.specs.View.{Locks, is_fixed, lock_write, is_in_default, is_in_tseg, is_locked, is_hidden, is_hole, locks_start, tseg_size}
use Rattle.hp_model.specs.declared.platforms.Platform.{Platform}
use Rattle.hp_model.specs.Platform.{memory_fits}
use Rattle.hp_smram.specs.Memory.{is_memory_size, locks_of}
use Rattle.hp_smram.specs.Writes.{written_all}
use Rattle.hp_smram.proofs.Reach.{hole_from, hole_names}

-- what each write keeps, a list of them keeps
module _ (P : Locks → Type 0) (kept : (l : Locks) (reg value : ℕ) → P l → P (lock_write l reg value)) where
  pub written_all-keeps : (ws : List (ℕ × ℕ)) (l : Locks) → P l → P (written_all l ws)
  unfolding written_all
  written_all-keeps [] l p = p
  written_all-keeps (w ∷ ws) l p = written_all-keeps ws (lock_write l w.0 w.1) (kept l w.0 w.1 p)

pub record HasMemory (low : ℕ) (l : Locks) : Type 0 where
  pub memory : l.low_memory ≡ low

HasMemory-write : (low : ℕ) (l : Locks) (reg value : ℕ) → HasMemory low l → HasMemory low (lock_write l reg value)
HasMemory-write low l reg value h = record { memory = grind (arith, nat_tests, h.memory) }

pub written_memory : (l : Locks) (ws : List (ℕ × ℕ)) → (written_all l ws).low_memory ≡ l.low_memory
written_memory l ws = (written_all-keeps (HasMemory l.low_memory) (HasMemory-write l.low_memory) ws l (record { memory = refl })).memory

pub record IsDefaultLocked (l : Locks) : Type 0 where
  pub locked : l.f_smbase ≡ 2

IsDefaultLocked-write : (l : Locks) (reg value : ℕ) → IsDefaultLocked l → IsDefaultLocked (lock_write l reg value)
IsDefaultLocked-write l reg value h = record { locked = grind (arith, nat_tests, h.locked) }

pub written_default : (l : Locks) (ws : List (ℕ × ℕ)) → l.f_smbase ≡ 2 → (written_all l ws).f_smbase ≡ 2
written_default l ws h = (written_all-keeps IsDefaultLocked IsDefaultLocked-write ws l (record { locked = h })).locked

-- registers 9d, 9e and 50 hold these values, with D_LCK
pub record IsFixedAt (smram esmramc ext_tseg : ℕ) (l : Locks) : Type 0 where
  pub fixed : bit_and smram 0x10 == 0x10 ≡ true
  pub control : l.smram ≡ smram
  pub size : l.esmramc ≡ esmramc
  pub largest : l.ext_tseg ≡ ext_tseg

IsFixedAt-write : (s e x : ℕ) (l : Locks) (reg value : ℕ) → IsFixedAt s e x l → IsFixedAt s e x (lock_write l reg value)
IsFixedAt-write s e x l reg value h =
    let is : is_fixed l ≡ true = ap (λ r. bit_and r 0x10 == 0x10) h.control ∙ h.fixed in
    record {
      fixed = h.fixed;
      control = grind (arith, nat_tests, h.control, is);
      size = grind (arith, nat_tests, h.size, is);
      largest = grind (arith, nat_tests, h.largest, is);
    }

pub written_fixed : (l : Locks) (ws : List (ℕ × ℕ)) → is_fixed l ≡ true → IsFixedAt l.smram l.esmramc l.ext_tseg (written_all l ws)
written_fixed l ws h =
    written_all-keeps (IsFixedAt l.smram l.esmramc l.ext_tseg) (IsFixedAt-write l.smram l.esmramc l.ext_tseg) ws l
    (record { fixed = h; control = refl; size = refl; largest = refl })

pub written_smram : (l : Locks) (ws : List (ℕ × ℕ)) → is_fixed l ≡ true → (written_all l ws).smram ≡ l.smram
written_smram l ws h = (written_fixed l ws h).control

pub written_esmramc : (l : Locks) (ws : List (ℕ × ℕ)) → is_fixed l ≡ true → (written_all l ws).esmramc ≡ l.esmramc
written_esmramc l ws h = (written_fixed l ws h).size

pub written_ext_tseg : (l : Locks) (ws : List (ℕ × ℕ)) → is_fixed l ≡ true → (written_all l ws).ext_tseg ≡ l.ext_tseg
written_ext_tseg l ws h = (written_fixed l ws h).largest

pub written_tseg : (l : Locks) (ws : List (ℕ × ℕ)) (x : ℕ) → is_fixed l ≡ true → is_in_tseg (written_all l ws) x ≡ is_in_tseg l x
written_tseg l ws x h = rw (written_smram l ws h, written_esmramc l ws h, written_ext_tseg l ws h, written_memory l ws) refl

pub written_default_byte : (l : Locks) (ws : List (ℕ × ℕ)) (x : ℕ) → is_in_default l x ≡ true → is_in_default (written_all l ws) x ≡ true
written_default_byte l ws x h =
    let parts = and_parts (l.f_smbase == 2) (nat_le 0x30000 x && nat_lt x 0x50000) h in
    let is : l.f_smbase ≡ 2 = eqb-true l.f_smbase 2 parts.0 in
    rw (written_default l ws is) parts.1

pub written_tseg_byte : (l : Locks) (ws : List (ℕ × ℕ)) (x : ℕ) → is_in_tseg l x ≡ true → is_in_tseg (written_all l ws) x ≡ true
written_tseg_byte l ws x h =
    let parts = and_parts (l.smram == 0x18) (nat_le (l.low_memory - tseg_size l.ext_tseg l.esmramc * 0x100000) x && nat_lt x l.low_memory) h in
    let is : is_fixed l ≡ true = ap (λ r. bit_and r 0x10 == 0x10) (eqb-true l.smram 0x18 parts.0) in
    written_tseg l ws x is ∙ h

pub written_locked : (l : Locks) (ws : List (ℕ × ℕ)) (x : ℕ) → is_locked l x ≡ true → is_locked (written_all l ws) x ≡ true
written_locked l ws x h = by_range (or_cases (is_in_default l x) (is_in_tseg l x) h)
  where
    by_range : (is_in_default l x ≡ true) ⊎ (is_in_tseg l x ≡ true) → is_locked (written_all l ws) x ≡ true
    by_range (inl e) = or_left (is_in_default (written_all l ws) x) (is_in_tseg (written_all l ws) x) (written_default_byte l ws x e)
    by_range (inr e) = or_right (is_in_default (written_all l ws) x) (is_in_tseg (written_all l ws) x) (written_tseg_byte l ws x e)

pub written_hidden : (l : Locks) (ws : List (ℕ × ℕ)) (in_smm : Bool) (x : ℕ) →
    is_hidden l in_smm x ≡ true → is_hidden (written_all l ws) in_smm x ≡ true
written_hidden l ws true x h = rw (written_memory l ws) h
written_hidden l ws false x h = by_cause (or_cases (nat_le l.low_memory x) (is_locked l x) h)
  where
    by_cause : (nat_le l.low_memory x ≡ true) ⊎ (is_locked l x ≡ true) → is_hidden (written_all l ws) false x ≡ true
    by_cause (inl e) = or_left (nat_le (written_all l ws).low_memory x) (is_locked (written_all l ws) x) (rw (written_memory l ws) e)
    by_cause (inr e) = or_right (nat_le (written_all l ws).low_memory x) (is_locked (written_all l ws) x) (written_locked l ws x e)

pub written_hole : (l : Locks) (ws : List (ℕ × ℕ)) (in_smm : Bool) (addr width : ℕ) →
    is_hole l in_smm addr width ≡ true → is_hole (written_all l ws) in_smm addr width ≡ true
written_hole l ws in_smm addr width h =
    let some = hole_names l in_smm addr width h in
    hole_from (written_all l ws) in_smm addr width
    (record { byte = some.byte; from = some.from; to = some.to; hidden = written_hidden l ws in_smm some.byte some.hidden })

-- once all is locked a write changes nothing
record IsAllLocked (was l : Locks) : Type 0 where
  fixed : is_fixed was ≡ true
  locked : was.f_smbase ≡ 2
  same : l ≡ was

same_write : (l : Locks) (reg value : ℕ) → is_fixed l ≡ true → l.f_smbase ≡ 2 → lock_write l reg value ≡ l
same_write l reg value fixed locked = grind (arith, nat_tests, fixed, locked)

IsAllLocked-write : (was l : Locks) (reg value : ℕ) → IsAllLocked was l → IsAllLocked was (lock_write l reg value)
IsAllLocked-write was l reg value h =
    record {
      fixed = h.fixed;
      locked = h.locked;
      same = ap (λ m. lock_write m reg value) h.same ∙ same_write was reg value h.fixed h.locked;
    }

pub written_nothing : (l : Locks) (ws : List (ℕ × ℕ)) → is_fixed l ≡ true → l.f_smbase ≡ 2 → written_all l ws ≡ l
written_nothing l ws fixed locked =
    (written_all-keeps (IsAllLocked l) (IsAllLocked-write l) ws l (record { fixed = fixed; locked = locked; same = refl })).same

-- in SMM only what lies past RAM is out of reach
pub shown_in_smm : (l : Locks) (x : ℕ) → x < l.low_memory → is_hidden l true x ≡ false
shown_in_smm l x h = grind (arith, nat_tests)

pub no_hole_in_smm : (l : Locks) (addr width : ℕ) → addr + width ≤ l.low_memory → is_hole l true addr width ≡ false
unfolding is_hole
no_hole_in_smm l addr zero h = refl
no_hole_in_smm l addr (suc n) h =
    rw (shown_in_smm l addr (omega (arith, h)), no_hole_in_smm l (addr + 1) n (omega (arith, h))) refl

pub same_sizes : (p : Platform) → is_memory_size p.low_memory ≡ memory_fits p
same_sizes p = refl

pub same_start : (p : Platform) → locks_start p ≡ locks_of p.low_memory p.default_smram p.ext_tseg
same_start p = refl

pub ruleset tseg_stays = (written_tseg, written_smram, written_esmramc, written_ext_tseg)

pub ruleset stays_locked = (written_locked, written_hole)

pub ruleset open_in_smm = (shown_in_smm, no_hole_in_smm)

pub ruleset starts = (same_sizes, same_start)
