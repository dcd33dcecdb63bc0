-- The accesses part by part: which part has the access after so many.
use Rattle.std.proofs.Common.{◌≡◌, ℕ, zero, suc, Bool, true, false, ◌==◌, ◌+◌, ◌-◌, ◌^◌, ◌<◌, ◌≤◌, List, [], ◌∷◌, ◌++◌, take, drop, refl, ap, ◌∙◌, subst, arith, get_or-take, get_or-drop}
use Rattle.std.specs.Prelude.{slice_index_or, if◌then◌else◌}
use Rattle.hp_model.specs.declared.accesses.Access.{Access}
use Rattle.hp_model.specs.declared.accesses.Access.TheVariants.{Store, In, Out, CfgRead, CfgWrite, Nop}
use Rattle.hp_model.specs.declared.accesses.Answer.{Answer}
use Rattle.hp_model.specs.declared.accesses.Answer.TheVariants.{Quiet, Value}
use Rattle.hp_model.specs.Fitting.{IsValue, FitsAccess}
use Rattle.hp_boot.specs.Booting.{Booting, IsRead, tail_accesses}
use Rattle.hp_model.specs.Boot.{Stage, Boots, boot_next, value_in, block_accesses, area_accesses, pen_mark, mark_accesses, gate_accesses, ext_accesses, ext_count, lock_accesses, feature_accesses, boot_accesses, boot_access}

-- element k of a list, where it lies among the m elements from the n-th on
within : (xs : List Access) (n m k : ℕ) → n ≤ k → k < n + m → slice_index_or xs k Nop ≡ slice_index_or (take m (drop n xs)) (k - n) Nop
within xs n m k from to =
    let short : k - n < m = omega (arith, from, to) in
    let same : n + (k - n) ≡ k = omega (arith, from) in
    rw (get_or-take, get_or-drop, same) refl

-- element n + j of a list is element j past the first n
past : (xs : List Access) (n j : ℕ) → slice_index_or xs (n + j) Nop ≡ slice_index_or (drop n xs) j Nop
past xs n j = rw get_or-drop refl

module _ (mib supported k : ℕ) where
  pub in_block : k < 4 → boot_access mib supported k ≡ slice_index_or block_accesses k Nop
  unfolding boot_access boot_accesses
  in_block to = within (boot_accesses mib supported) 0 4 k (omega arith) to ∙ ap (λ n. slice_index_or block_accesses n Nop) (omega arith)

  pub in_area : 4 ≤ k → k < 6 → boot_access mib supported k ≡ slice_index_or area_accesses (k - 4) Nop
  unfolding boot_access boot_accesses
  in_area from to = within (boot_accesses mib supported) 4 2 k from to

  pub in_marks : 7 ≤ k → k < 13 → boot_access mib supported k ≡ slice_index_or mark_accesses (k - 7) Nop
  unfolding boot_access boot_accesses
  in_marks from to = within (boot_accesses mib supported) 7 6 k from to

  pub in_gate : 13 ≤ k → k < 15 → boot_access mib supported k ≡ slice_index_or gate_accesses (k - 13) Nop
  unfolding boot_access boot_accesses
  in_gate from to = within (boot_accesses mib supported) 13 2 k from to

  pub at_pen : k ≡ 6 → boot_access mib supported k ≡ Store 0x9f000 4 pen_mark
  unfolding boot_access boot_accesses
  at_pen at = rw at refl

pub ruleset heads = (in_block, in_area, at_pen, in_marks, in_gate)

-- past the first 15
pub after_gate : (mib supported j : ℕ) → boot_access mib supported (15 + j) ≡ slice_index_or (ext_accesses mib ++ tail_accesses mib supported) j Nop
unfolding boot_access boot_accesses tail_accesses
after_gate mib supported j = past (boot_accesses mib supported) 15 j

-- the accesses of a TSEG of 48 MiB, if they are made, and those past them
ext_first : (b : Bool) (xs : List Access) (j : ℕ) → j < (if b then 2 else 0) →
    slice_index_or ((if b then CfgWrite 0x50 0xff ∷ CfgRead 0x50 ∷ [] else []) ++ xs) j Nop ≡ slice_index_or (CfgWrite 0x50 0xff ∷ CfgRead 0x50 ∷ []) j Nop
ext_first true xs zero h = refl
ext_first true xs (suc zero) h = refl
ext_first true xs (suc (suc j)) h = absurd (omega (arith, h))
ext_first false xs j h = absurd (omega (arith, h))

ext_past : (b : Bool) (xs : List Access) → drop (if b then 2 else 0) ((if b then CfgWrite 0x50 0xff ∷ CfgRead 0x50 ∷ [] else []) ++ xs) ≡ xs
ext_past true xs = refl
ext_past false xs = refl

pub in_ext : (mib supported k : ℕ) → 15 ≤ k → k < 15 + ext_count mib → boot_access mib supported k ≡ slice_index_or (ext_accesses 48) (k - 15) Nop
in_ext mib supported k from to =
    let short : k - 15 < ext_count mib = omega (arith, from, to) in
    let same : k ≡ 15 + (k - 15) = omega (arith, from) in
    ap (boot_access mib supported) same ∙ after_gate mib supported (k - 15) ∙ ext_first (mib == 48) (tail_accesses mib supported) (k - 15) short

pub at_tail : (mib supported j : ℕ) → boot_access mib supported (15 + (ext_count mib + j)) ≡ slice_index_or (tail_accesses mib supported) j Nop
at_tail mib supported j =
    after_gate mib supported (ext_count mib + j)
    ∙ past (ext_accesses mib ++ tail_accesses mib supported) (ext_count mib) j
    ∙ ap (λ (xs : List Access). slice_index_or xs j Nop) (ext_past (mib == 48) (tail_accesses mib supported))

pub in_tail : (mib supported k : ℕ) → 15 + ext_count mib ≤ k → boot_access mib supported k ≡ slice_index_or (tail_accesses mib supported) (k - (15 + ext_count mib)) Nop
in_tail mib supported k from =
    let same : k ≡ 15 + (ext_count mib + (k - (15 + ext_count mib))) = omega (arith, from) in
    ap (boot_access mib supported) same ∙ at_tail mib supported (k - (15 + ext_count mib))

pub ruleset parts = (in_ext, in_tail)

-- the parts of the last 12
module _ (mib supported k : ℕ) where
  pub in_locks : k < 2 → slice_index_or (tail_accesses mib supported) k Nop ≡ slice_index_or (lock_accesses mib) k Nop
  unfolding tail_accesses
  in_locks to = within (tail_accesses mib supported) 0 2 k (omega arith) to ∙ ap (λ n. slice_index_or (lock_accesses mib) n Nop) (omega arith)

  pub in_features : 2 ≤ k → k < 11 → slice_index_or (tail_accesses mib supported) k Nop ≡ slice_index_or (feature_accesses supported) (k - 2) Nop
  unfolding tail_accesses
  in_features from to = within (tail_accesses mib supported) 2 9 k from to

  pub at_last : 11 ≤ k → k < 12 → slice_index_or (tail_accesses mib supported) k Nop ≡ Out 0x630 4 0x21
  unfolding tail_accesses
  at_last from to = let at : k ≡ 11 = omega arith in rw at refl

pub ruleset tails = (in_locks, in_features, at_last)

value_fits : (width : ℕ) (a : Answer) → IsValue width a → value_in a < 256 ^ width
value_fits width Quiet h = absurd h
value_fits width (Value v) h = h

-- features-ok is read by the eleventh of the last 12
pub at_ok : (mib supported k : ℕ) → k ≡ 25 + ext_count mib → boot_access mib supported k ≡ In 0x511 1
unfolding tail_accesses
at_ok mib supported k at = let same : k ≡ 15 + (ext_count mib + 10) = omega (arith, at) in ap (boot_access mib supported) same ∙ at_tail mib supported 10

pub at_ext : (mib supported k : ℕ) → mib ≡ 48 → k ≡ 16 → boot_access mib supported k ≡ CfgRead 0x50
at_ext mib supported k size at =
    let e : ext_count mib ≡ 2 = ap ext_count size in
    in_ext mib supported k (omega (arith, at)) (omega (arith, at, e)) ∙ ap (λ n. slice_index_or (ext_accesses 48) (n - 15) Nop) at

-- a value that fits its access has the width that the boot looks for
pub read_fits : (mib supported k : ℕ) (a : Answer) → FitsAccess (boot_access mib supported k) a → IsRead mib k (value_in a)
unfolding boot_access boot_accesses
read_fits mib supported k a fits =
    record {
      block = λ at. value_fits 4 a (subst (λ n. FitsAccess (boot_access mib supported n) a) at fits);
      area = λ at. value_fits 1 a (subst (λ n. FitsAccess (boot_access mib supported n) a) at fits);
      ext = λ size at. value_fits 1 a (subst (λ (b : Access). FitsAccess b a) (at_ext mib supported k size at) fits);
      features = λ at. value_fits 1 a (subst (λ (b : Access). FitsAccess b a) (at_ok mib supported k at) fits);
    }

pub read_at : (b : Booting) (supported done : ℕ) (a : Answer) → b.stage ≡ Boots done supported → FitsAccess (boot_next b.mib b.stage) a → IsRead b.mib done (value_in a)
read_at b supported done a at fits = read_fits b.mib supported done a (subst (λ (s : Stage). FitsAccess (boot_next b.mib s) a) at fits)
