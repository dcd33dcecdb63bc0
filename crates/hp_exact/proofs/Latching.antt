-- Who must have its SMI latch set has it.
use Rattle.std.proofs.Common.{ℕ, ◌≡◌, ◌≢◌, ◌+◌, ◌*◌, ◌==◌, inl, inr, Bool, true, false, not, ◌&&◌, ◌||◌, List, slice_set, None, refl, sym, subst, ◌∙◌, arith}
use Rattle.std.proofs.lemmas.Bool.Decides.{nat_tests}
use Rattle.hp_model.specs.declared.processors.Mode.{Mode}
use Rattle.hp_model.specs.declared.processors.Mode.TheVariants.{Wait, Running, Halted, Smm}
use Rattle.hp_model.specs.declared.processors.Cpu.{Cpu}
use Rattle.hp_model.specs.declared.processors.Kind.TheVariants.{Start}
use Rattle.hp_model.specs.declared.labels.Label.{Label}
use Rattle.hp_model.specs.declared.labels.Label.TheVariants.{F6, R4, R5}
use Rattle.hp_model.specs.Cpu.{absent, cpu_at, is_waiting, is_outside, smm_address, hit, started, moved}
use Rattle.hp_model.specs.Labels.{index_of}
use Rattle.hp_model.specs.Handlers.{address_of_label}
use Rattle.hp_sealed.proofs.Starts.{set_all}
use Rattle.hp_exact.proofs.Hits.{Alike, Keeps}
use Rattle.hp_exact.proofs.Invariant.{is_at_label, is_default, is_leaving, must_latch, Latched}

-- one processor's share
abbrev pub Latches : Bool → ℕ → Cpu → Type 0
Latches called k c = must_latch called k c ≡ true → c.smi ≡ true

pub must_alike : (called : Bool) (k : ℕ) (c d : Cpu) → Alike c d → must_latch called k d ≡ must_latch called k c
must_alike called k c d h = rw (h.present, h.mode, h.smbase) refl

pub latches_alike : (called : Bool) (k : ℕ) (c d : Cpu) → Alike c d → Latches called k c → Latches called k d
latches_alike called k c d h latched e = h.smi (latched (sym (must_alike called k c d h) ∙ e))

pub latches_absent : (called : Bool) (k : ℕ) → Latches called k absent
latches_absent called k e = absurd (let n : must_latch called k absent ≡ false = none called (not (k == 0)) in let both : true ≡ false = sym e ∙ n in cc)
  where
    none : (a b : Bool) → (a && (b && false)) ≡ false
    none true true = refl
    none true false = refl
    none false b = refl

-- no more is asked where nobody is called in
pub latches_less : (called fewer : Bool) (k : ℕ) (c : Cpu) → (fewer ≡ true → called ≡ true) → Latches called k c → Latches fewer k c
latches_less called fewer k c less h e = h (more (is_default c && is_at_label F6 c) called fewer (not (k == 0) && is_leaving c) less e)
  where
    more : (x a b y : Bool) → (b ≡ true → a ≡ true) → (x || (b && y)) ≡ true → (x || (a && y)) ≡ true
    more true a b y less e = refl
    more false a true y less e = rw (less refl) e
    more false a false y less e = absurd cc

must_uncalled : (k : ℕ) (c : Cpu) → must_latch false k c ≡ (is_default c && is_at_label F6 c)
must_uncalled k c = either (is_default c && is_at_label F6 c)
  where
    either : (x : Bool) → (x || false) ≡ x
    either true = refl
    either false = refl

-- and then anybody's access leaves it so
pub latches_keeps : (k : ℕ) (c d : Cpu) → Keeps c d → Latches false k c → Latches false k d
latches_keeps k c d (inl both) h e =
    let stays = both.1 in
    let same : must_latch false k d ≡ must_latch false k c = must_uncalled k d ∙ (rw (stays.smbase, stays.address) refl ∙ sym (must_uncalled k c)) in
    both.0 (h (sym same ∙ e))
latches_keeps k c d (inr gone) h e = subst (Latches false k) (sym gone) (latches_absent false k) e

-- whoever isn't in SMM
must_outside : (called : Bool) (k : ℕ) (c : Cpu) → smm_address c ≡ None → must_latch called k c ≡ (called && (not (k == 0) && (c.present && is_outside c.mode)))
must_outside called k c is = rw is (plain (c.smbase == 0x30000) called (not (k == 0)) (c.present && is_outside c.mode))
  where
    plain : (x a b y : Bool) → ((x && false) || (a && (b && (y || (not x && (false || false)))))) ≡ (a && (b && y))
    plain true a b true = refl
    plain true a b false = refl
    plain false a b true = refl
    plain false a b false = refl

pub latches_out : (called : Bool) (k : ℕ) (c : Cpu) → smm_address c ≡ None → (called ≡ true → k ≢ 0 → c.present ≡ true → is_outside c.mode ≡ true → c.smi ≡ true) → Latches called k c
latches_out called k c is h e = by_tests called (k == 0) c.present (is_outside c.mode) refl refl refl refl (sym (must_outside called k c is) ∙ e)
  where
    not_0 : (k == 0) ≡ false → k ≢ 0
    not_0 e f = let z : (k == 0) ≡ true = rw f refl in let both : true ≡ false = sym z ∙ e in cc

    by_tests : (a z b o : Bool) → called ≡ a → (k == 0) ≡ z → c.present ≡ b → is_outside c.mode ≡ o → (a && (not z && (b && o))) ≡ true → c.smi ≡ true
    by_tests true false true true u v w x f = h u (not_0 v) w x
    by_tests true false true false u v w x f = absurd cc
    by_tests true false false o u v w x f = absurd cc
    by_tests true true b o u v w x f = absurd cc
    by_tests false z b o u v w x f = absurd cc

-- whoever must, if it is outside SMM while others are called in
pub must_leave : (k : ℕ) (c : Cpu) → k ≢ 0 → c.present ≡ true → is_outside c.mode ≡ true → must_latch true k c ≡ true
must_leave k c other present outside = plain (is_default c && is_at_label F6 c) (k == 0) c.present (is_outside c.mode) (not (is_default c) && (is_at_label R4 c || is_at_label R5 c)) (is_other k other) present outside
  where
    is_other : (k : ℕ) → k ≢ 0 → (k == 0) ≡ false
    is_other k n = grind (arith, nat_tests)

    plain : (x z b o y : Bool) → z ≡ false → b ≡ true → o ≡ true → (x || (true && (not z && ((b && o) || y)))) ≡ true
    plain true z b o y e f g = refl
    plain false z b o y e f g = rw (e, f, g) refl

-- whoever goes on in SMM
pub must_moved : (called : Bool) (k : ℕ) (c : Cpu) (b base : ℕ) (n : Label) → c.present ≡ true → c.smbase ≡ b
    → must_latch called k (moved (address_of_label b n) base c) ≡ (((b == 0x30000) && (index_of n == 5)) || (called && (not (k == 0) && (not (b == 0x30000) && ((index_of n == 3) || (index_of n == 4))))))
must_moved called k c b base n present is = rw (present, is, same_cell b (index_of n) 5, same_cell b (index_of n) 3, same_cell b (index_of n) 4) refl
  where
    same_cell : (x i j : ℕ) → (x + 0x8000 + 4 * i == x + 0x8000 + 4 * j) ≡ (i == j)
    same_cell x i j = by_same (i == j) refl
      where
        by_same : (c : Bool) → (i == j) ≡ c → (x + 0x8000 + 4 * i == x + 0x8000 + 4 * j) ≡ c
        by_same true e = grind (arith, nat_tests)
        by_same false e = grind (arith, nat_tests)

-- start-up hits a waiting processor that has its SMI latch set, or does nothing
pub latches_started : (called : Bool) (k page : ℕ) (c : Cpu) → (is_waiting c.mode ≡ true → c.smi ≡ true) → Latches called k c → Latches called k (hit (Start page) c)
latches_started called k page c woken h = by_presence c.present refl
  where
    by_mode : (m : Mode) → c.mode ≡ m → Latches called k (record c { mode = started page c.mode })
    by_mode Wait is e = woken (rw is refl)
    by_mode (Running q) is e = h (same (rw is refl) e)
      where
        same : started page c.mode ≡ c.mode → must_latch called k (record c { mode = started page c.mode }) ≡ true → must_latch called k c ≡ true
        same m f = subst (λ n. must_latch called k (record c { mode = n }) ≡ true) m f
    by_mode (Halted q) is e = h (same (rw is refl) e)
      where
        same : started page c.mode ≡ c.mode → must_latch called k (record c { mode = started page c.mode }) ≡ true → must_latch called k c ≡ true
        same m f = subst (λ n. must_latch called k (record c { mode = n }) ≡ true) m f
    by_mode (Smm a) is e = h (same (rw is refl) e)
      where
        same : started page c.mode ≡ c.mode → must_latch called k (record c { mode = started page c.mode }) ≡ true → must_latch called k c ≡ true
        same m f = subst (λ n. must_latch called k (record c { mode = n }) ≡ true) m f

    by_presence : (b : Bool) → c.present ≡ b → Latches called k (hit (Start page) c)
    by_presence true is = subst (λ (d : Cpu). Latches called k d) (hits is) (by_mode c.mode refl)
      where
        hits : c.present ≡ true → record c { mode = started page c.mode } ≡ hit (Start page) c
        hits f = rw f refl
    by_presence false is = subst (λ (d : Cpu). Latches called k d) (hits is) h
      where
        hits : c.present ≡ false → c ≡ hit (Start page) c
        hits f = rw f refl

-- in all places, where one changes
pub latched_set : (called : Bool) (cs : List Cpu) (k : ℕ) (d : Cpu) → ((j : ℕ) → j ≢ k → Latches called j (cpu_at cs j)) → Latches called k d → Latched called (slice_set cs k d)
latched_set called cs k d others here = set_all (Latches called) cs k d (latches_absent called k) here others
