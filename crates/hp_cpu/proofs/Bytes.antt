-- The bytes of a number, as hp_model has them, are those that byteorder writes and reads.
use Rattle.std.proofs.Common.{◌≡◌, ℕ, zero, suc, ◌+◌, ◌^◌, ◌<◌, List, ◌++◌, take, drop, slice_index, refl, sym, ap, ◌∙◌, add-one, [], arith}
use Rattle.std.proofs.lemmas.List.{get_or-drop}
use Rattle.byteorder.specs.Endian.{little_from, little_number, little_bytes}
use Rattle.byteorder.specs.Numbers.{little_from-take, little_number-reads_back}
use Rattle.hp_model.proofs.Bytes.{low_first}
use Rattle.hp_model.specs.Memory.{bytes_of, value_from}
use Rattle.hp_cpu.specs.declared.save_area.SavePlan.{SavePlan}
use Rattle.hp_cpu.specs.Saving.{packed, unpacked}

-- the bytes that are written
little_bytes_are : (n x : ℕ) → little_bytes n x ≡ bytes_of n x
little_bytes_are n x = low_first n x

-- the numbers that are read
little_from_is : (i n : ℕ) (xs : List ℕ) → little_from i n xs ≡ value_from (slice_index xs) i n
unfolding value_from
little_from_is i zero xs = refl
little_from_is i (suc n) xs = rw (add-one i, little_from_is (suc i) n xs) refl

-- past the first k bytes all places are moved on
little_from-drop : (k i n : ℕ) (xs : List ℕ) → little_from i n (drop k xs) ≡ little_from (k + i) n xs
little_from-drop k i zero xs = refl
little_from-drop k i (suc n) xs =
    let e : k + suc i ≡ suc (k + i) = omega arith in
    rw (get_or-drop k xs i 0, little_from-drop k (suc i) n xs, e) refl

pub packed_bytes : (p : SavePlan) → packed p ≡ little_bytes 4 p.smbase ++ (little_bytes 4 p.revision ++ little_bytes 8 p.rip)
packed_bytes p = rw (← little_bytes_are 4 p.smbase, ← little_bytes_are 4 p.revision, ← little_bytes_are 8 p.rip) refl

pub smbase_read : (bytes : List ℕ) → value_from (slice_index bytes) 0 4 ≡ little_number 4 bytes
smbase_read bytes = sym (little_from_is 0 4 bytes)

pub rip_read : (bytes : List ℕ) → value_from (slice_index bytes) 8 8 ≡ little_number 8 (take 8 (drop 8 bytes))
rip_read bytes =
    sym (little_from-take 0 8 8 (drop 8 bytes) (omega arith) ∙ little_from-drop 8 0 8 bytes ∙ little_from_is 8 8 bytes)

pub ruleset fields_read = (smbase_read, rip_read)

-- what was packed is read back
pub unpacked_packed : (p : SavePlan) → p.smbase < 2 ^ 32 → p.rip < 2 ^ 64 →
    unpacked (packed p) ≡ record { smbase = p.smbase; rip = p.rip }
unpacked_packed p s r =
    let bytes = packed_bytes p in
    let smbase : little_number 4 (packed p) ≡ p.smbase =
    ap (little_number 4) bytes ∙ little_number-reads_back 4 p.smbase (little_bytes 4 p.revision ++ little_bytes 8 p.rip) s in
    let rip : little_number 8 (take 8 (drop 8 (packed p))) ≡ p.rip =
    ap (λ (xs : List ℕ). little_number 8 (take 8 (drop 8 xs))) bytes ∙ little_number-reads_back 8 p.rip [] r in
    rw (smbase_read (packed p), rip_read (packed p), smbase, rip) refl
