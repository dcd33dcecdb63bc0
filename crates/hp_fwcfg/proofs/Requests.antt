-- Which requests a device grants.
use Rattle.std.proofs.Common.{◌≡◌, ℕ, Bool, true, false, ◌&&◌, inl, inr, ◌<◌, ◌≤◌, refl, arith}
use Rattle.std.proofs.lemmas.Bool.{agree_below, agree_below_at, cases_lt}
use Rattle.std.proofs.lemmas.Bool.Decides.{nat_tests}
use Rattle.std.proofs.lemmas.Grind.{common_steps}
use Rattle.std.proofs.lemmas.Nat.{and_le_r}
use Rattle.hp_model.specs.FwCfg.{agrees}
use Rattle.hp_fwcfg.specs.Requests.{is_chain, is_subset}

abbrev granted : ℕ → ℕ → Bool
granted s r = is_chain r && is_subset r s

small : (s r : ℕ) → s < 8 → r < 8 → agrees s r ≡ granted s r
small s r h k =
    agree_below_at (agrees s) (granted s) 8 r (agree_below_at (λ t. agree_below (agrees t) (granted t) 8) (λ _. true) 8 s refl h) k

large : (s r : ℕ) → s < 8 → 8 ≤ r → is_subset r s ≡ false
large s r h k = grind (arith, nat_tests, and_le_r r s)

pub requests : (s r : ℕ) → s < 8 → agrees s r ≡ granted s r
requests s r h = elim (cases_lt r 8) as (λ _. agrees s r ≡ granted s r) [
  | inl k ↦ small s r h k
  | inr k ↦ (let e = large s r h k in rw e (grind (arith, nat_tests, common_steps)))
]
