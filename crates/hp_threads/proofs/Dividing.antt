-- One turn more of a processor is one more of the share of one of its actors.
use Rattle.std.proofs.Common.{◌≡◌, ◌≤◌, ◌<◌, ◌⊎◌, inl, inr, ℕ, ◌+◌, ◌-◌, ◌*◌, ◌/◌, ◌%◌, Bool, true, false, cond, refl, sym, ap, ◌∙◌, arith}
use Rattle.std.specs.Prelude.{◌==◌, if◌then◌else◌}
use Rattle.std.proofs.lemmas.Bool.{cases_eq, eq-eqb, ne_eqb}
use Rattle.std.proofs.lemmas.Nat.{div-add-mod', div-mul-add, mod_below}
use Rattle.hp_model.specs.declared.entries.Actor.{Actor}
use Rattle.hp_model.specs.declared.entries.Actor.TheVariants.{Cpu, Smi}
use Rattle.hp_model.specs.declared.platforms.Delivery.{Delivery}
use Rattle.hp_model.specs.declared.platforms.Delivery.TheVariants.{Prompt, Late}
use Rattle.hp_model.specs.Schedule.{turn_actor}
use Rattle.hp_threads.specs.Shares.{share, smi_share}
use Rattle.hp_threads.specs.Sharing.{same_actor}

-- whether a processor's own turn of this number is its SMI's
abbrev is_smi_turn : Delivery → ℕ → Bool
is_smi_turn Prompt own = false
is_smi_turn (Late lag) own = own % (lag + 1) == lag

turn_is : (d : Delivery) (own k : ℕ) → turn_actor d own k ≡ (if is_smi_turn d own then Smi k else Cpu k)
turn_is Prompt own k = refl
turn_is (Late lag) own k = refl

suc_times : (q n : ℕ) → (q + 1) * n ≡ q * n + n
suc_times q n = grind arith

more : (lag t : ℕ) → (t % (lag + 1) ≡ lag) ⊎ (t % (lag + 1) ≡ lag → ⊥) → (t + 1) / (lag + 1) ≡ t / (lag + 1) + cond (t % (lag + 1) == lag) 1 0
more lag t (inl last) =
    let parts = div-add-mod' t (lag + 1) in
    let whole : t + 1 ≡ (t / (lag + 1) + 1) * (lag + 1) + 0 = omega (arith, parts, last, suc_times (t / (lag + 1)) (lag + 1)) in
    ap (λ (n : ℕ). n / (lag + 1)) whole ∙ div-mul-add (t / (lag + 1) + 1) (lag + 1) 0 (omega arith) ∙ ap (λ (b : Bool). t / (lag + 1) + cond b 1 0) (sym (eq-eqb _ _ last))
more lag t (inr other) =
    let parts = div-add-mod' t (lag + 1) in
    let below = mod_below t (lag + 1) (omega arith) in
    let small : t % (lag + 1) + 1 < lag + 1 = omega (arith, below, other) in
    let whole : t + 1 ≡ t / (lag + 1) * (lag + 1) + (t % (lag + 1) + 1) = omega (arith, parts) in
    let none : t / (lag + 1) ≡ t / (lag + 1) + 0 = omega arith in
    ap (λ (n : ℕ). n / (lag + 1)) whole ∙ div-mul-add (t / (lag + 1)) (lag + 1) (t % (lag + 1) + 1) small ∙ none ∙ ap (λ (b : Bool). t / (lag + 1) + cond b 1 0) (sym (ne_eqb _ _ other))

smi_more : (d : Delivery) (t : ℕ) → smi_share d (t + 1) ≡ smi_share d t + cond (is_smi_turn d t) 1 0
smi_more Prompt t = refl
smi_more (Late lag) t = more lag t (cases_eq (t % (lag + 1)) lag)

smi_within : (d : Delivery) (t : ℕ) → smi_share d t ≤ t
smi_within Prompt t = omega arith
smi_within (Late lag) t = least (t / (lag + 1)) (div-add-mod' t (lag + 1))
  where
    least : (q : ℕ) → q * (lag + 1) + t % (lag + 1) ≡ t → q ≤ t
    least q parts = let wide : q * (lag + 1) ≡ q * lag + q = grind arith in omega (arith, parts, wide)

cpu_more : (d : Delivery) (t : ℕ) → (t + 1) - smi_share d (t + 1) ≡ (t - smi_share d t) + cond (is_smi_turn d t) 0 1
cpu_more d t = by (is_smi_turn d t) (smi_more d t)
  where
    by : (b : Bool) → smi_share d (t + 1) ≡ smi_share d t + cond b 1 0 → (t + 1) - smi_share d (t + 1) ≡ (t - smi_share d t) + cond b 0 1
    by true is = omega (arith, is, smi_within d t)
    by false is = omega (arith, is, smi_within d t)

pub cpu_next : (d : Delivery) (t k : ℕ) → share d (Cpu k) (t + 1) ≡ share d (Cpu k) t + cond (same_actor (turn_actor d t k) (Cpu k)) 1 0
cpu_next d t k = cpu_more d t ∙ ap (λ (n : ℕ). share d (Cpu k) t + n) (by (is_smi_turn d t) ∙ ap (λ (a : Actor). cond (same_actor a (Cpu k)) 1 0) (sym (turn_is d t k)))
  where
    by : (b : Bool) → ◌≡◌ {A = ℕ} (cond b 0 1) (cond (same_actor (if b then Smi k else Cpu k) (Cpu k)) 1 0)
    by true = refl
    by false = ap (λ (b : Bool). cond b 1 0) (sym (eq-eqb k k refl))

pub smi_next : (d : Delivery) (t k : ℕ) → share d (Smi k) (t + 1) ≡ share d (Smi k) t + cond (same_actor (turn_actor d t k) (Smi k)) 1 0
smi_next d t k = smi_more d t ∙ ap (λ (n : ℕ). share d (Smi k) t + n) (by (is_smi_turn d t) ∙ ap (λ (a : Actor). cond (same_actor a (Smi k)) 1 0) (sym (turn_is d t k)))
  where
    by : (b : Bool) → ◌≡◌ {A = ℕ} (cond b 1 0) (cond (same_actor (if b then Smi k else Cpu k) (Smi k)) 1 0)
    by true = ap (λ (b : Bool). cond b 1 0) (sym (eq-eqb k k refl))
    by false = refl
