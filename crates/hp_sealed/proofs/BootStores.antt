-- What an access of the boot sequence leaves while nothing is locked: stores below 8 MiB, and accesses that change no memory.
use Rattle.std.proofs.Common.{ℕ, zero, suc, ◌≡◌, ◌+◌, ◌<◌, ◌≤◌, inl, inr, true, false, ◌||◌, nat_le, ◌∷◌, None, refl, sym, ap, subst, ◌∙◌, arith}
use Rattle.std.proofs.lemmas.Bool.Decides.{nat_tests}
use Rattle.hp_model.specs.declared.platforms.Platform.{Platform}
use Rattle.hp_model.specs.declared.processors.Cpu.{Cpu}
use Rattle.hp_model.specs.declared.accesses.Access.{Access}
use Rattle.hp_model.specs.declared.accesses.Access.TheVariants.{Store}
use Rattle.hp_model.specs.Memory.{write_of}
use Rattle.hp_model.specs.View.{Locks, is_hidden, is_hole}
use Rattle.hp_model.specs.Platform.{count_of, apic_of}
use Rattle.hp_model.specs.Cpu.{absent, smm_address}
use Rattle.hp_model.specs.Slots.{boot_ids}
use Rattle.hp_model.specs.Monarch.{Monarch, monarch_start, with_features}
use Rattle.hp_model.specs.Boot.{ext_count, boot_refusal, value_in}
use Rattle.hp_model.specs.State.{State, at}
use Rattle.hp_model.specs.Access.{answer_to, access_effect}
use Rattle.hp_sealed.specs.Left.{Sound}
use Rattle.hp_sealed.specs.Sealed.{is_based, Recorded, IsOutside, IsAtSlot}
use Rattle.hp_sealed.specs.Booting.{f_smbase_after, smram_after, esmramc_after, memory_after, Booting}
use Rattle.hp_sealed.proofs.Stay.{Stays}
use Rattle.hp_sealed.proofs.Outside.{Calm, Acts, acts}
use Rattle.hp_sealed.proofs.Starts.{before_s, before_e}

-- outside stays outside
none_calm : (c d : Cpu) → Calm c d → smm_address c ≡ None → smm_address d ≡ None
none_calm c d calm e = elim calm [ inl s ↦ s.address ∙ e | inr g ↦ rw g refl ]

kept_calm : (P : Cpu → Type 0) (c d : Cpu) → Calm c d → (Stays c d → P c → P d) → (c.present ≡ true → P c) → d.present ≡ true → P d
kept_calm P c d calm on h e = elim calm [
  | inl s ↦ on s (h (sym s.present ∙ e))
  | inr g ↦ absurd (let f : absent.present ≡ true = subst (λ x. x.present ≡ true) g e in cc)
]

pub outside_acts : (p : Platform) (s u : State) → Acts p s u → IsOutside p s → IsOutside p u
outside_acts p s u does h = record {
  outside = λ k. none_calm (at s k) (at u k) (does.cpus k) (h.outside k);
  based = λ k e. kept_calm (λ c. is_based p k c.smbase ≡ true) (at s k) (at u k) (does.cpus k) (λ t f. rw t.smbase f) (h.based k) e;
  possible = λ k e. kept_calm (λ c. k < count_of p) (at s k) (at u k) (does.cpus k) (λ t f. f) (h.possible k) e;
  slotted = λ k e. kept_calm (λ c. IsAtSlot p (boot_ids p) (apic_of p k) c.smbase) (at s k) (at u k) (does.cpus k) (λ t f. subst (IsAtSlot p (boot_ids p) (apic_of p k)) (sym t.smbase) f) (h.slotted k) e;
  first = does.first.present ∙ h.first;
  recorded = subst (Recorded p) (sym does.monarch) h.recorded;
  begun = subst (λ (r : Monarch). r ≡ with_features r.features (monarch_start p)) (sym does.monarch) h.begun;
}

-- what the access after n others does to what holds before it
pub record Passes (p : Platform) (n : ℕ) (b : Access) : Type 0 where
  pub on : (s : State) → Booting p n s → boot_refusal p.tseg_mib n (value_in (answer_to false b s)) ≡ None → Booting p (n + 1) (access_effect p 0 false b s)

-- one access more
pub still_s : (more n : ℕ) → n < 15 → smram_after more n ≡ smram_after more (n + 1)
still_s more n less = before_s more n (omega (arith, less)) ∙ sym (before_s more (n + 1) (omega (arith, less)))

pub still_e : (mib more n : ℕ) → n < 15 → esmramc_after mib more n ≡ esmramc_after mib more (n + 1)
still_e mib more n less = before_e mib more n (omega (arith, less)) ∙ sym (before_e mib more (n + 1) (omega (arith, less)))

-- an access that changes neither locks nor memory, before the fifth
pub plain : (p : Platform) (n : ℕ) (b : Access) → n < 4 → ((s : State) → (access_effect p 0 false b s).locks ≡ s.locks) → ((s : State) → (access_effect p 0 false b s).writes ≡ s.writes) → Passes p n b
plain p n b less locks writes = record {
  on = λ s h free.
      record {
        cpus = outside_acts p s (access_effect p 0 false b s) (acts p 0 false b s) h.cpus;
        low_memory = rw (locks s) h.low_memory;
        f_smbase = λ e. rw (locks s) (h.f_smbase (λ f. omega (arith, f, less)) ∙ same_f n less);
        smram = rw (locks s) (h.smram ∙ still_s (ext_count p.tseg_mib) n (omega (arith, less)));
        esmramc = rw (locks s) (h.esmramc ∙ still_e p.tseg_mib (ext_count p.tseg_mib) n (omega (arith, less)));
        ext_tseg = λ e f. absurd (omega (arith, f, less));
        memory = λ e. rw (writes s) (h.memory (early (ext_count p.tseg_mib) n less) ∙ same_m p n less);
        kept = λ e. absurd (none (ext_count p.tseg_mib) n e less);
      };
}
  where
    same_f : (n : ℕ) → n < 4 → f_smbase_after n ≡ f_smbase_after (n + 1)
    same_f n less = grind (arith, nat_tests)

    early : (more n : ℕ) → n < 4 → n ≤ 17 + more
    early more n less = omega (arith, less)

    none : (more n : ℕ) → 17 + more ≤ n + 1 → n < 4 → ⊥
    none more n e less = omega (arith, e, less)

    same_m : (p : Platform) (n : ℕ) → n < 4 → memory_after p n ≡ memory_after p (n + 1)
    same_m p zero less = refl
    same_m p (suc zero) less = refl
    same_m p (suc (suc zero)) less = refl
    same_m p (suc (suc (suc zero))) less = refl
    same_m p (suc (suc (suc (suc n)))) less = absurd (omega (arith, less))

-- a store below 8 MiB isn't a hole while nothing is locked
shown : (p : Platform) (l : Locks) (x : ℕ) → Sound p → l.f_smbase ≡ 1 → l.smram ≡ 0 → l.low_memory ≡ p.low_memory → x < 0x800000 → is_hidden l false x ≡ false
shown p l x fit f s m small = let a = fit.above in let t = fit.top in rw (f, s) (below l.low_memory x (omega (arith, m, a, t, small)))
  where
    below : (top x : ℕ) → x < top → (nat_le top x || false) ≡ false
    below top x h = grind (arith, nat_tests)

open_store : (p : Platform) (l : Locks) (a w : ℕ) → Sound p → l.f_smbase ≡ 1 → l.smram ≡ 0 → l.low_memory ≡ p.low_memory → a + w ≤ 0x800000 → is_hole l false a w ≡ false
unfolding is_hole
open_store p l a zero fit f s m small = refl
open_store p l a (suc w) fit f s m small = rw (shown p l a fit f s m (omega (arith, small)), open_store p l (a + 1) w fit f s m (omega (arith, small))) refl

pub stored : (p : Platform) (n a w v : ℕ) → Sound p → n ≤ 13 → 6 ≤ n → a + w ≤ 0x800000 → memory_after p (n + 1) ≡ write_of a w v ∷ memory_after p n → Passes p n (Store a w v)
stored p n a w v fit less more small memory = record {
  on = λ t h free.
      let one : t.locks.f_smbase ≡ 1 = h.f_smbase (λ e. absurd (omega (arith, e, more))) ∙ one_f n (omega (arith, more)) (omega (arith, less)) in
      let zero_s : t.locks.smram ≡ 0 = h.smram ∙ before_s (ext_count p.tseg_mib) n (omega (arith, less)) in
      record {
        cpus = outside_acts p t _ (acts p 0 false (Store a w v) t) h.cpus;
        low_memory = h.low_memory;
        f_smbase = λ e. one ∙ sym (one_f (n + 1) (omega (arith, more)) (omega (arith, less)));
        smram = h.smram ∙ still_s (ext_count p.tseg_mib) n (omega (arith, less));
        esmramc = h.esmramc ∙ still_e p.tseg_mib (ext_count p.tseg_mib) n (omega (arith, less));
        ext_tseg = λ e f. absurd (omega (arith, f, less));
        memory = λ e. rw (open_store p t.locks a w fit one zero_s h.low_memory small, memory) (ap (λ ws. write_of a w v ∷ ws) (h.memory (early (ext_count p.tseg_mib) n less)));
        kept = λ e. absurd (none (ext_count p.tseg_mib) n e less);
      };
}
  where
    one_f : (n : ℕ) → 6 ≤ n → n < 15 → f_smbase_after n ≡ 1
    one_f n more less = grind (arith, nat_tests)

    early : (more n : ℕ) → n ≤ 13 → n ≤ 17 + more
    early more n less = omega (arith, less)

    none : (more n : ℕ) → 17 + more ≤ n + 1 → n ≤ 13 → ⊥
    none more n e less = omega (arith, e, less)
