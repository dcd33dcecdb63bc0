-- One place more.
use Rattle.std.proofs.Common.{◌≡◌, ℕ, zero, suc, ◌+◌, List, [], ◌∷◌, ◌++◌, replicate, Option, None, refl, ap, sym, ◌∙◌, arith}
use Rattle.hp_platform.proofs.worlds.nothing_noted.Goals as goal

one_more : (n : ℕ) → replicate n None ++ None ∷ [] ≡ replicate {A = Option ℕ} (n + 1) None
one_more zero = refl
one_more (suc n) = let more : suc n + 1 ≡ suc (n + 1) = omega arith in ap (λ (xs : List (Option ℕ)). None ∷ xs) (one_more n) ∙ ap (λ (k : ℕ). replicate k None) (sym more)

pub loop-place-preserved : goal.loop-place-preserved
loop-place-preserved c = c.in_ok-push.ensures.items ∙ ap (λ (xs : List (Option ℕ)). xs ++ None ∷ []) c.loop-place.invariant ∙ one_more c.loop-place._place

pub returns : goal.returns
returns c = let all : c.loop-place._place ≡ c.args.count = omega (arith, c.loop-place-test.false, c.loop-place.auto._place-end) in c.loop-place.invariant ∙ ap (λ (k : ℕ). replicate k None) all
