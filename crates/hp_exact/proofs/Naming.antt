-- APIC IDs name processors.
use Rattle.std.proofs.Common.{ℕ, zero, suc, ◌≡◌, ◌≢◌, ◌<◌, ◌≤◌, ◌==◌, Bool, true, false, not, nat_le, List, [], ◌∷◌, length, refl, arith, if◌then◌else◌}
use Rattle.std.specs.Prelude.{slice_index_or, slice_get}
use Rattle.std.specs.List.{list_all}
use Rattle.std.proofs.lemmas.Bool.{and_parts, eqb-true}
use Rattle.std.proofs.lemmas.Bool.Decides.{nat_tests}
use Rattle.hp_model.specs.declared.platforms.Platform.{Platform}
use Rattle.hp_model.specs.Platform.{IsFit, count_of, apic_of, greatest_id, high_half}
use Rattle.hp_model.specs.Interrupts.{destination}
use Rattle.hp_model.specs.declared.reports.Report.{Report}
use Rattle.hp_model.specs.Monarch.{is_that, is_own}
use Rattle.hp_sealed.specs.Left.{Sound}
use Rattle.hp_sealed.proofs.BootSlots.{ids_differ}
use Rattle.hp_model.proofs.FitPlatforms.{ids_small, rules_of}

-- each possible processor's APIC ID fits an interrupt command
pub record Ids (p : Platform) : Type 0 where
  pub small : (k : ℕ) → k < count_of p → apic_of p k ≤ greatest_id p.x2apic

pub ids_of : (p : Platform) → IsFit p → Ids p
ids_of p e =
    record { small = λ k less. each (greatest_id p.x2apic) p.apic k less (ids_small p e) }
  where
    one : (a most : ℕ) → nat_le a most ≡ true → a ≤ most
    one a most e = grind (arith, nat_tests)

    each : (most : ℕ) (ids : List ℕ) (k : ℕ) → k < length ids → list_all (λ a. nat_le a most) ids ≡ true → slice_index_or ids k 0xffffffff ≤ most
    each most [] k less e = absurd (omega (arith, less))
    each most (a ∷ as') zero less e = one a most (and_parts (nat_le a most) (list_all (λ a. nat_le a most) as') e).0
    each most (a ∷ as') (suc k) less e = each most as' k (omega (arith, less)) (and_parts (nat_le a most) (list_all (λ a. nat_le a most) as') e).1

-- at least one look
pub polled : (p : Platform) → IsFit p → 1 ≤ p.polls
polled p e = plain p.polls (and_parts (nat_le 1 p.polls) (nat_le p.polls 4096) (rules_of p e).polls).0
  where
    plain : (n : ℕ) → nat_le 1 n ≡ true → 1 ≤ n
    plain n e = grind (arith, nat_tests)

-- the destination of a command to one APIC ID
pub aimed : (x2apic : Bool) (apic : ℕ) → apic ≤ (if x2apic then 0xfffffffe else 254) → destination x2apic (high_half x2apic apic) ≡ apic
aimed true apic small = refl
aimed false apic small = omega (arith, small)

-- a report's own processor
pub record Own (p : Platform) (t : Report) : Type 0 where
  pub other : t.cpu ≢ 0
  pub less : t.cpu < count_of p
  pub apic : apic_of p t.cpu ≡ t.apic

pub own_is : (p : Platform) (t : Report) → is_own p.apic t ≡ true → Own p t
own_is p t e =
    let both = and_parts (not (t.cpu == 0)) (is_that (slice_get p.apic t.cpu) t.apic) e in
    let there = among p.apic t.cpu t.apic both.1 in
    record { other = not_0 t.cpu both.0; less = there.0; apic = there.1 }
  where
    not_0 : (k : ℕ) → not (k == 0) ≡ true → k ≢ 0
    not_0 k e f = grind (arith, nat_tests)

    among : (ids : List ℕ) (k a : ℕ) → is_that (slice_get ids k) a ≡ true → (k < length ids) × (slice_index_or ids k 0xffffffff ≡ a)
    among [] k a e = absurd cc
    among (x ∷ xs) zero a e = (omega arith, eqb-true x a e)
    among (x ∷ xs) (suc k) a e = let rest = among xs k a e in let less = rest.0 in (omega (arith, less), rest.1)

pub is_own-is : (p : Platform) (t : Report) → t.cpu ≢ 0 → t.cpu < count_of p → apic_of p t.cpu ≡ t.apic → is_own p.apic t ≡ true
is_own-is p t other less apic = let a = first t.cpu other in let b = among p.apic t.cpu t.apic less apic in rw (a, b) refl
  where
    first : (k : ℕ) → k ≢ 0 → not (k == 0) ≡ true
    first k n = grind (arith, nat_tests)

    same : (a b : ℕ) → a ≡ b → (a == b) ≡ true
    same a b e = grind (arith, nat_tests)

    among : (ids : List ℕ) (k a : ℕ) → k < length ids → slice_index_or ids k 0xffffffff ≡ a → is_that (slice_get ids k) a ≡ true
    among [] k a less e = absurd (omega (arith, less))
    among (x ∷ xs) zero a less e = same x a e
    among (x ∷ xs) (suc k) a less e = among xs k a (omega (arith, less)) e

-- whoever has a possible processor's APIC ID is that processor
pub one_cpu : (p : Platform) (i j : ℕ) → Sound p → i < count_of p → j < count_of p → apic_of p i ≡ apic_of p j → i ≡ j
one_cpu p i j sound less more same = ids_differ p.apic i j sound.distinct less more same
