-- Who leaves in a transition, and in the entries of an outcome with one more.
use Rattle.std.proofs.Common.{ℕ, zero, suc, ◌≡◌, ◌≢◌, ◌<◌, ◌≤◌, ◌==◌, Bool, true, false, not, ◌&&◌, List, [], ◌∷◌, refl, sym, ap, subst, arith}
use Rattle.std.specs.Prelude.{filter}
use Rattle.std.proofs.lemmas.Bool.Decides.{nat_tests}
use Rattle.hp_model.specs.declared.platforms.Platform.{Platform}
use Rattle.hp_model.specs.Platform.{count_of}
use Rattle.hp_model.specs.State.{at}
use Rattle.hp_model.specs.Transitions.{Transition, places, has_left, left_in}
use Rattle.hp_model.specs.Outcomes.{Departure, departures, is_none}

-- who leaves in a transition
filter_below : (f : ℕ → Bool) (k : ℕ) → ((j : ℕ) → j ≢ k → f j ≡ false) → (n : ℕ) → n ≤ k → filter f (places n) ≡ []
unfolding places
filter_below f k other zero less = refl
filter_below f k other (suc n) less = let here : f n ≡ false = other n (λ e. omega (arith, e, less)) in rw here (filter_below f k other n (omega (arith, less)))

pub filter_one : (f : ℕ → Bool) (k : ℕ) → ((j : ℕ) → j ≢ k → f j ≡ false) → f k ≡ true → (n : ℕ) → k < n → filter f (places n) ≡ k ∷ []
unfolding places
filter_one f k other there zero less = absurd (omega (arith, less))
filter_one f k other there (suc n) less = by_test (n == k) refl (λ more. filter_one f k other there n more)
  where
    same : (i j : ℕ) → (i == j) ≡ true → i ≡ j
    same i j e = grind (arith, nat_tests)

    unlike : (i j : ℕ) → (i == j) ≡ false → i ≢ j
    unlike i j e f = grind (arith, nat_tests)

    by_test : (b : Bool) → (n == k) ≡ b → (k < n → filter f (places n) ≡ k ∷ []) → filter f (n ∷ places n) ≡ k ∷ []
    by_test true is more =
        let e = same n k is in
        let here : f n ≡ true = subst (λ j. f j ≡ true) (sym e) there in
        let rest = filter_below f k other n (omega (arith, e)) in
        rw (here, rest) (ap (λ j. j ∷ []) e)
    by_test false is more = let n_other = unlike n k is in let here : f n ≡ false = other n n_other in rw here (more (omega (arith, less, n_other)))

pub filter_none : (f : ℕ → Bool) → ((k : ℕ) → f k ≡ false) → (xs : List ℕ) → filter f xs ≡ []
filter_none f none [] = refl
filter_none f none (x ∷ xs) = rw (none x) (filter_none f none xs)

pub stays_there : (a b : Bool) → (a ≡ true → b ≡ true) → (a && not b) ≡ false
stays_there true b h = rw (h refl) refl
stays_there false b h = refl

pub departures_same : (p : Platform) (x : Transition) (own : List Transition) → ((k : ℕ) → (at x.before k).present ≡ true → (at x.after k).present ≡ true) → departures p (x ∷ own) ≡ departures p own
departures_same p x own stays =
    let left : left_in p x ≡ [] = filter_none (has_left x) (λ k. stays_there (at x.before k).present (at x.after k).present (stays k)) (places (count_of p)) in
    rw left refl

pub none_is : (ds : List Departure) → is_none ds ≡ true → ds ≡ []
none_is [] e = refl
none_is (d ∷ ds) e = absurd cc

pub kept_more : (p : Platform) (x : Transition) (own : List Transition) → ((k : ℕ) → (at x.before k).present ≡ true → (at x.after k).present ≡ true) → is_none (departures p own) ≡ true → is_none (departures p (x ∷ own)) ≡ true
kept_more p x own stays none = rw (departures_same p x own stays) none
