-- Each access of the boot sequence leads from what holds before it to what holds after it.
use Rattle.std.proofs.Common.{ℕ, zero, suc, ◌≡◌, ◌+◌, ◌<◌, ◌==◌, Bool, true, false, List, [], ◌∷◌, ◌++◌, length, refl, sym, subst, arith, if◌then◌else◌}
use Rattle.std.specs.Prelude.{slice_index_or}
use Rattle.std.proofs.lemmas.Bool.Decides.{nat_tests}
use Rattle.hp_model.specs.declared.platforms.Platform.{Platform}
use Rattle.hp_model.specs.declared.accesses.Access.{Access}
use Rattle.hp_model.specs.declared.accesses.Access.TheVariants.{Out, In, CfgRead, CfgWrite, Nop}
use Rattle.hp_model.specs.Boot.{block_accesses, area_accesses, pen_accesses, mark_accesses, gate_accesses, ext_accesses, ext_count, lock_accesses, feature_accesses, last_accesses, boot_accesses, boot_access}
use Rattle.hp_sealed.specs.Left.{Sound}
use Rattle.hp_sealed.proofs.BootStores.{Passes, plain, stored}
use Rattle.hp_sealed.proofs.BootLocks.{Each, all_late, asks_area, reads_area, locks_area, asks_size, reads_size, sizes_tseg, locks_tseg}

pub each_at : (P : ℕ → Access → Type 0) (k n : ℕ) (as' : List Access) → n < length as' → Each P k as' → P (k + n) (slice_index_or as' n Nop)
each_at P k n [] less h = absurd (omega (arith, less))
each_at P k zero (a ∷ as') less h = let e : k ≡ k + zero = omega arith in subst (λ i. P i a) e h.0
each_at P k (suc n) (a ∷ as') less h = let e : suc k + n ≡ k + suc n = omega arith in subst (λ i. P i (slice_index_or as' n Nop)) e (each_at P (suc k) n as' (omega (arith, less)) h.1)

pub each_append : (P : ℕ → Access → Type 0) (k : ℕ) (as' bs : List Access) → Each P k as' → Each P (k + length as') bs → Each P k (as' ++ bs)
each_append P k [] bs h g = let e : k + 0 ≡ k = omega arith in subst (λ i. Each P i bs) e g
each_append P k (a ∷ as') bs h g = let e : k + suc (length as') ≡ suc k + length as' = omega arith in (h.0, each_append P (suc k) as' bs h.1 (subst (λ i. Each P i bs) e g))

pub ext_length : (mib : ℕ) → length (ext_accesses mib) ≡ ext_count mib
ext_length mib = by_size (mib == 48)
  where
    by_size : (b : Bool) → length (if b then CfgWrite 0x50 0xff ∷ CfgRead 0x50 ∷ [] else []) ≡ (if b then 2 else 0)
    by_size true = refl
    by_size false = refl

pub boot_length : (mib supported : ℕ) → length (boot_accesses mib supported) ≡ 27 + ext_count mib
unfolding boot_accesses
boot_length mib supported = by_size (mib == 48) refl
  where
    by_size : (b : Bool) → (mib == 48) ≡ b → length (boot_accesses mib supported) ≡ 27 + ext_count mib
    by_size true e = rw e refl
    by_size false e = rw e refl

module _ (p : Platform) (fit : Sound p) where
  block_pass : Each (Passes p) 0 block_accesses
  block_pass = (
    plain p 0 (Out 0xcd8 4 0) (omega arith) (λ s. refl) (λ s. refl),
    (
      plain p 1 (Out 0xcd8 4 0) (omega arith) (λ s. refl) (λ s. refl),
      (plain p 2 (Out 0xcdd 1 0) (omega arith) (λ s. refl) (λ s. refl), (plain p 3 (In 0xcd8 4) (omega arith) (λ s. refl) (λ s. refl), tt)),
    ),
  )

  area_pass : Each (Passes p) 4 area_accesses
  area_pass = (asks_area p, (reads_area p, tt))

  pen_pass : Each (Passes p) 6 pen_accesses
  pen_pass = (stored p 6 0x9f000 4 0x4e4550 fit (omega arith) (omega arith) (omega arith) refl, tt)

  mark_pass : Each (Passes p) 7 mark_accesses
  mark_pass = (
    stored p 7 0x38000 4 0x53000001 fit (omega arith) (omega arith) (omega arith) refl,
    (
      stored p 8 0x38004 4 0x53000002 fit (omega arith) (omega arith) (omega arith) refl,
      (
        stored p 9 0x38008 4 0x53000003 fit (omega arith) (omega arith) (omega arith) refl,
        (
          stored p 10 0x3800c 4 0x53000004 fit (omega arith) (omega arith) (omega arith) refl,
          (
            stored p 11 0x38010 4 0x53000005 fit (omega arith) (omega arith) (omega arith) refl,
            (stored p 12 0x38014 4 0x53000006 fit (omega arith) (omega arith) (omega arith) refl, tt),
          ),
        ),
      ),
    ),
  )

  gate_pass : Each (Passes p) 13 gate_accesses
  gate_pass = (stored p 13 0x30000 8 0xffffffffffffffff fit (omega arith) (omega arith) (omega arith) refl, (locks_area p, tt))

  ext_pass : Each (Passes p) 15 (ext_accesses p.tseg_mib)
  ext_pass = by_size (p.tseg_mib == 48) refl
    where
      is_large : (n : ℕ) → (n == 48) ≡ true → n ≡ 48
      is_large n e = grind (arith, nat_tests)

      by_size : (b : Bool) → (p.tseg_mib == 48) ≡ b → Each (Passes p) 15 (if b then CfgWrite 0x50 0xff ∷ CfgRead 0x50 ∷ [] else [])
      by_size true e = let large = is_large p.tseg_mib e in (asks_size p large, (reads_size p large, tt))
      by_size false e = tt

  lock_pass : Each (Passes p) (15 + ext_count p.tseg_mib) (lock_accesses p.tseg_mib)
  lock_pass = (sizes_tseg p fit, (let next : 16 + ext_count p.tseg_mib ≡ suc (15 + ext_count p.tseg_mib) = omega arith in subst (λ i. Passes p i (CfgWrite 0x9d 0x18)) next (locks_tseg p), tt))

  all_pass : (supported : ℕ) → Each (Passes p) 0 (boot_accesses p.tseg_mib supported)
  unfolding boot_accesses
  all_pass supported =
      let features = feature_accesses supported ++ last_accesses in
      let locks = lock_accesses p.tseg_mib ++ features in
      let ext = ext_accesses p.tseg_mib ++ locks in
      let gates = gate_accesses ++ ext in
      let marks = mark_accesses ++ gates in
      let pen = pen_accesses ++ marks in
      let size = ext_length p.tseg_mib in
      each_append (Passes p) 0 block_accesses (area_accesses ++ pen) block_pass
      (each_append (Passes p) 4 area_accesses pen area_pass
      (each_append (Passes p) 6 pen_accesses marks pen_pass
      (each_append (Passes p) 7 mark_accesses gates mark_pass
      (each_append (Passes p) 13 gate_accesses ext gate_pass
      (each_append (Passes p) 15 (ext_accesses p.tseg_mib) locks ext_pass
      (subst (λ i. Each (Passes p) (15 + i) locks) (sym size)
      (each_append (Passes p) (15 + ext_count p.tseg_mib) (lock_accesses p.tseg_mib) features lock_pass
      (all_late p (15 + ext_count p.tseg_mib + 2) features fit (omega arith)))))))))

  pub passes : (supported n : ℕ) → n < 27 + ext_count p.tseg_mib → Passes p n (boot_access p.tseg_mib supported n)
  unfolding boot_access
  passes supported n less =
      let e : 0 + n ≡ n = omega arith in
      let size = boot_length p.tseg_mib supported in
      subst (λ i. Passes p i (slice_index_or (boot_accesses p.tseg_mib supported) n Nop)) e (each_at (Passes p) 0 n (boot_accesses p.tseg_mib supported) (omega (arith, less, size)) (all_pass supported))
