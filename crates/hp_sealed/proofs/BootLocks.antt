-- What the boot's accesses to the lock registers make of them, what is locked after them, and that any access leaves it then.
use Rattle.std.proofs.Common.{ℕ, suc, ◌≡◌, ◌+◌, ◌<◌, ◌≤◌, ◌==◌, ◌⊎◌, inl, inr, Bool, true, false, nat_lt, List, [], ◌∷◌, Some, None, bit_and, refl, sym, ap, subst, ◌∙◌, arith}
use Rattle.std.proofs.lemmas.Bool.Decides.{nat_tests}
use Rattle.hp_model.specs.declared.platforms.Platform.{Platform}
use Rattle.hp_model.specs.declared.accesses.Access.{Access}
use Rattle.hp_model.specs.declared.accesses.Access.TheVariants.{CfgRead, CfgWrite}
use Rattle.hp_model.specs.declared.outcomes.BootFact.TheVariants.{NoDefaultSmram, NoExtTseg}
use Rattle.hp_model.specs.Memory.{byte_at}
use Rattle.hp_model.specs.Boot.{tseg_enabled, ext_count, boot_refusal}
use Rattle.hp_model.specs.State.{State}
use Rattle.hp_model.specs.Access.{access_effect}
use Rattle.hp_sealed.specs.Left.{Sound, Locked}
use Rattle.hp_sealed.specs.Booting.{f_smbase_after, smram_after, esmramc_after, memory_after, Booting}
use Rattle.hp_sealed.proofs.Outside.{acts, left_acted}
use Rattle.hp_sealed.proofs.Places.{set_up_locked}
use Rattle.hp_sealed.proofs.Starts.{before_s, before_e}
use Rattle.hp_sealed.proofs.BootStores.{outside_acts, Passes, still_s, still_e}

-- a fact of each element of a list and its place
abbrev pub Each : (ℕ → Access → Type 0) → ℕ → List Access → Type 0
Each P k [] = Unit {0}
Each P k (a ∷ as') = P k a × Each P (suc k) as'

-- once all is locked, any access does
late_f : (n : ℕ) → 15 ≤ n → f_smbase_after n ≡ 2
late_f n more = grind (arith, nat_tests)

late_s : (more n : ℕ) → 17 + more ≤ n → smram_after more n ≡ 0x18
late_s more n low = let e : nat_lt n (17 + more) ≡ false = above n (17 + more) low in rw e refl
  where
    above : (a b : ℕ) → b ≤ a → nat_lt a b ≡ false
    above a b low = grind (arith, nat_tests)

late_e : (mib more n : ℕ) → 16 + more ≤ n → esmramc_after mib more n ≡ tseg_enabled mib
late_e mib more n low = let e : nat_lt n (16 + more) ≡ false = above n (16 + more) low in rw e refl
  where
    above : (a b : ℕ) → b ≤ a → nat_lt a b ≡ false
    above a b low = grind (arith, nat_tests)

late_more : (more n : ℕ) → 17 + more ≤ n → 17 ≤ n
late_more more n low = omega (arith, low)

pub locked_by : (p : Platform) (n : ℕ) (s : State) → 17 + ext_count p.tseg_mib ≤ n → Booting p n s → Locked p s.locks
locked_by p n s more h =
    let low = late_more (ext_count p.tseg_mib) n more in
    record {
      f_smbase = h.f_smbase (λ e. absurd (omega (arith, e, low))) ∙ late_f n (omega (arith, low));
      smram = h.smram ∙ late_s (ext_count p.tseg_mib) n more;
      esmramc = h.esmramc ∙ late_e p.tseg_mib (ext_count p.tseg_mib) n (omega (arith, more));
      low_memory = h.low_memory;
      ext_tseg = λ e. h.ext_tseg e low;
    }

late : (p : Platform) (n : ℕ) (b : Access) → Sound p → 17 + ext_count p.tseg_mib ≤ n → Passes p n b
late p n b fit more = record {
  on = λ s h free.
      let u = access_effect p 0 false b s in
      let does = acts p 0 false b s in
      let l = locked_by p n s more h in
      let m = does.locks l in
      let low = late_more (ext_count p.tseg_mib) n more in
      record {
        cpus = outside_acts p s u does h.cpus;
        low_memory = m.low_memory;
        f_smbase = λ e. m.f_smbase ∙ sym (late_f (n + 1) (omega (arith, low)));
        smram = m.smram ∙ sym (late_s (ext_count p.tseg_mib) (n + 1) (omega (arith, more)));
        esmramc = m.esmramc ∙ sym (late_e p.tseg_mib (ext_count p.tseg_mib) (n + 1) (omega (arith, more)));
        ext_tseg = λ e f. m.ext_tseg e;
        memory = λ e. absurd (past (ext_count p.tseg_mib) n e more);
        kept = λ e x k. (left_acted p 0 b s x (set_up_locked p s.locks x fit l k)).byte ∙ h.kept more x k;
      };
}
  where
    past : (more n : ℕ) → n + 1 ≤ 17 + more → 17 + more ≤ n → ⊥
    past more n e low = omega (arith, e, low)

pub all_late : (p : Platform) (n : ℕ) (bs : List Access) → Sound p → 17 + ext_count p.tseg_mib ≤ n → Each (Passes p) n bs
all_late p n [] fit more = tt
all_late p n (b ∷ bs) fit more = (late p n b fit more, all_late p (suc n) bs fit (omega (arith, more)))

-- the accesses of the locks: the area can be locked, which is read
pub asks_area : (p : Platform) → Passes p 4 (CfgWrite 0x9c 0xff)
asks_area p = record {
  on = λ s h free.
      record {
        cpus = outside_acts p s _ (acts p 0 false (CfgWrite 0x9c 0xff) s) h.cpus;
        low_memory = h.low_memory;
        f_smbase = λ e. absurd (e refl);
        smram = h.smram ∙ still_s (ext_count p.tseg_mib) 4 (omega arith);
        esmramc = h.esmramc ∙ still_e p.tseg_mib (ext_count p.tseg_mib) 4 (omega arith);
        ext_tseg = λ e f. absurd (omega (arith, f));
        memory = λ e. h.memory (omega arith);
        kept = λ e. absurd (omega (arith, e));
      };
}

read_one : (mib v : ℕ) → boot_refusal mib 5 v ≡ None → v ≡ 1
read_one mib v e = by_test (v == 1) refl e
  where
    by_test : (b : Bool) → (v == 1) ≡ b → boot_refusal mib 5 v ≡ None → v ≡ 1
    by_test true f e = grind (arith, nat_tests)
    by_test false f e = absurd (let g : boot_refusal mib 5 v ≡ Some (NoDefaultSmram v) = rw f refl in let h : Some (NoDefaultSmram v) ≡ None = sym g ∙ e in cc)

pub reads_area : (p : Platform) → Passes p 5 (CfgRead 0x9c)
reads_area p = record {
  on = λ s h free.
      record {
        cpus = outside_acts p s _ (acts p 0 false (CfgRead 0x9c) s) h.cpus;
        low_memory = h.low_memory;
        f_smbase = λ e. read_one p.tseg_mib s.locks.f_smbase free;
        smram = h.smram ∙ still_s (ext_count p.tseg_mib) 5 (omega arith);
        esmramc = h.esmramc ∙ still_e p.tseg_mib (ext_count p.tseg_mib) 5 (omega arith);
        ext_tseg = λ e f. absurd (omega (arith, f));
        memory = λ e. h.memory (omega arith);
        kept = λ e. absurd (omega (arith, e));
      };
}

pub locks_area : (p : Platform) → Passes p 14 (CfgWrite 0x9c 2)
locks_area p = record {
  on = λ s h free.
      record {
        cpus = outside_acts p s _ (acts p 0 false (CfgWrite 0x9c 2) s) h.cpus;
        low_memory = h.low_memory;
        f_smbase = λ e. let one = h.f_smbase (λ f. cc) in rw one refl;
        smram = h.smram ∙ still_s (ext_count p.tseg_mib) 14 (omega arith);
        esmramc = h.esmramc ∙ still_e p.tseg_mib (ext_count p.tseg_mib) 14 (omega arith);
        ext_tseg = λ e f. absurd (omega (arith, f));
        memory = λ e. h.memory (omega arith);
        kept = λ e. absurd (omega (arith, e));
      };
}

-- 48 MiB are asked for, which is read
two_more : (mib : ℕ) → mib ≡ 48 → ext_count mib ≡ 2
two_more mib e = rw e refl

pub asks_size : (p : Platform) → p.tseg_mib ≡ 48 → Passes p 15 (CfgWrite 0x50 0xff)
asks_size p large = record {
  on = λ s h free.
      let two = two_more p.tseg_mib large in
      let z : s.locks.smram ≡ 0 = h.smram ∙ before_s (ext_count p.tseg_mib) 15 (omega arith) in
      record {
        cpus = outside_acts p s _ (acts p 0 false (CfgWrite 0x50 0xff) s) h.cpus;
        low_memory = rw z h.low_memory;
        f_smbase = λ e. let locked = h.f_smbase (λ f. cc) in rw z locked;
        smram = rw z (sym (before_s (ext_count p.tseg_mib) 16 (omega arith)));
        esmramc = rw z (h.esmramc ∙ (before_e p.tseg_mib (ext_count p.tseg_mib) 15 (omega (arith, two)) ∙ sym (before_e p.tseg_mib (ext_count p.tseg_mib) 16 (omega (arith, two)))));
        ext_tseg = λ e f. absurd (omega (arith, f));
        memory = λ e. h.memory (omega arith);
        kept = λ e. absurd (omega (arith, e));
      };
}

read_size : (mib v : ℕ) → mib ≡ 48 → boot_refusal mib 16 v ≡ None → v ≡ 0x30
read_size mib v large e = by_test (v == 0x30) refl (subst (λ m. boot_refusal m 16 v ≡ None) large e)
  where
    by_test : (b : Bool) → (v == 0x30) ≡ b → boot_refusal 48 16 v ≡ None → v ≡ 0x30
    by_test true f e = grind (arith, nat_tests)
    by_test false f e = absurd (let g : boot_refusal 48 16 v ≡ Some (NoExtTseg v) = rw f refl in let h : Some (NoExtTseg v) ≡ None = sym g ∙ e in cc)

pub reads_size : (p : Platform) → p.tseg_mib ≡ 48 → Passes p 16 (CfgRead 0x50)
reads_size p large = record {
  on = λ s h free.
      let two = two_more p.tseg_mib large in
      record {
        cpus = outside_acts p s _ (acts p 0 false (CfgRead 0x50) s) h.cpus;
        low_memory = h.low_memory;
        f_smbase = λ e. h.f_smbase (λ f. cc);
        smram = h.smram ∙ (before_s (ext_count p.tseg_mib) 16 (omega arith) ∙ sym (before_s (ext_count p.tseg_mib) 17 (omega (arith, two))));
        esmramc = h.esmramc ∙ (before_e p.tseg_mib (ext_count p.tseg_mib) 16 (omega (arith, two)) ∙ sym (before_e p.tseg_mib (ext_count p.tseg_mib) 17 (omega (arith, two))));
        ext_tseg = λ e f. read_size p.tseg_mib s.locks.ext_tseg large free;
        memory = λ e. h.memory (omega arith);
        kept = λ e. absurd (omega (arith, e, two));
      };
}

-- the boot's stores to memory are the first 14 accesses
same_memory : (p : Platform) (n : ℕ) → 14 ≤ n → memory_after p n ≡ memory_after p 17
same_memory p n low = rw (past 13 n (omega (arith, low)), past 12 n (omega (arith, low)), past 11 n (omega (arith, low)), past 10 n (omega (arith, low)), past 9 n (omega (arith, low)), past 8 n (omega (arith, low)), past 7 n (omega (arith, low)), past 6 n (omega (arith, low))) refl
  where
    past : (a b : ℕ) → a < b → nat_lt a b ≡ true
    past a b less = grind (arith, nat_tests)

stays_large : (p : Platform) (n : ℕ) (s : State) → Booting p (n + ext_count p.tseg_mib) s → 15 ≤ n → p.tseg_mib ≡ 48 → s.locks.ext_tseg ≡ 0x30
stays_large p n s h low large = let two = two_more p.tseg_mib large in h.ext_tseg large (omega (arith, two, low))

pub sizes_tseg : (p : Platform) → Sound p → Passes p (15 + ext_count p.tseg_mib) (CfgWrite 0x9e (tseg_enabled p.tseg_mib))
sizes_tseg p fit = record {
  on = λ s h free.
      let more = ext_count p.tseg_mib in
      let z : s.locks.smram ≡ 0 = h.smram ∙ before_s (ext_count p.tseg_mib) (15 + ext_count p.tseg_mib) (omega arith) in
      record {
        cpus = outside_acts p s _ (acts p 0 false (CfgWrite 0x9e (tseg_enabled p.tseg_mib)) s) h.cpus;
        low_memory = rw z h.low_memory;
        f_smbase = λ e. let two = h.f_smbase (λ f. omega (arith, f)) ∙ late_f (15 + ext_count p.tseg_mib) (omega arith) in rw z (two ∙ sym (late_f (15 + ext_count p.tseg_mib + 1) (omega arith)));
        smram = rw z (sym (before_s (ext_count p.tseg_mib) (15 + ext_count p.tseg_mib + 1) (omega arith)));
        esmramc = rw z (cut_size fit.size ∙ sym (late_e p.tseg_mib (ext_count p.tseg_mib) (15 + ext_count p.tseg_mib + 1) (omega arith)));
        ext_tseg = λ e f. rw z (stays_large p 15 s h (omega arith) e);
        memory = λ e. h.memory (omega arith) ∙ (same_memory p (15 + ext_count p.tseg_mib) (omega arith) ∙ sym (same_memory p (15 + ext_count p.tseg_mib + 1) (omega arith)));
        kept = λ e. absurd (omega (arith, e));
      };
}
  where
    cut_size : (p.tseg_mib ≡ 1) ⊎ ((p.tseg_mib ≡ 2) ⊎ ((p.tseg_mib ≡ 8) ⊎ (p.tseg_mib ≡ 48))) → bit_and (tseg_enabled p.tseg_mib) 7 ≡ tseg_enabled p.tseg_mib
    cut_size (inl e) = rw e refl
    cut_size (inr (inl e)) = rw e refl
    cut_size (inr (inr (inl e))) = rw e refl
    cut_size (inr (inr (inr e))) = rw e refl

pub locks_tseg : (p : Platform) → Passes p (16 + ext_count p.tseg_mib) (CfgWrite 0x9d 0x18)
locks_tseg p = record {
  on = λ s h free.
      let z : s.locks.smram ≡ 0 = h.smram ∙ before_s (ext_count p.tseg_mib) (16 + ext_count p.tseg_mib) (omega arith) in
      let memory : s.writes ≡ memory_after p 17 = h.memory (omega arith) ∙ same_memory p (16 + ext_count p.tseg_mib) (omega arith) in
      record {
        cpus = outside_acts p s _ (acts p 0 false (CfgWrite 0x9d 0x18) s) h.cpus;
        low_memory = rw z h.low_memory;
        f_smbase = λ e. let two = h.f_smbase (λ f. omega (arith, f)) ∙ late_f (16 + ext_count p.tseg_mib) (omega arith) in rw z (two ∙ sym (late_f (16 + ext_count p.tseg_mib + 1) (omega arith)));
        smram = rw z (sym (late_s (ext_count p.tseg_mib) (16 + ext_count p.tseg_mib + 1) (omega arith)));
        esmramc = rw z (h.esmramc ∙ (late_e p.tseg_mib (ext_count p.tseg_mib) (16 + ext_count p.tseg_mib) (omega arith) ∙ sym (late_e p.tseg_mib (ext_count p.tseg_mib) (16 + ext_count p.tseg_mib + 1) (omega arith))));
        ext_tseg = λ e f. rw z (stays_large p 16 s h (omega arith) e);
        memory = λ e. memory ∙ sym (same_memory p (16 + ext_count p.tseg_mib + 1) (omega arith));
        kept = λ e x k. ap (λ ws. byte_at ws x) memory;
      };
}
