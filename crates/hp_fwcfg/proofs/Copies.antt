-- The front of a list, with zeros past its end.
use Rattle.std.proofs.Common.{◌≡◌, ℕ, zero, suc, ◌+◌, ◌-◌, ◌≤◌, List, [], ◌∷◌, ◌++◌, length, take, drop, replicate, refl, ap, arith}
use Rattle.std.specs.Prelude.{min}
use Rattle.std.proofs.lemmas.List.{drop-replicate, take-replicate, take_min}

-- however many zeros follow, if they are enough
pub front_more : (n a b : ℕ) (xs : List ℕ) → n ≤ length xs + a → n ≤ length xs + b →
    take n (xs ++ replicate a 0) ≡ take n (xs ++ replicate b 0)
front_more zero a b xs h k = refl
front_more (suc n) a b [] h k =
    let few : suc n ≤ a = omega arith in
    let enough : suc n ≤ b = omega arith in
    rw (take-replicate {X = ℕ} (suc n) a 0 few, take-replicate {X = ℕ} (suc n) b 0 enough) refl
front_more (suc n) a b (x ∷ xs) h k = ap (λ (ys : List ℕ). x ∷ ys) (front_more n a b xs (omega arith) (omega arith))

front_of : (n a b : ℕ) (xs : List ℕ) → n ≤ length xs + a → n ≤ length xs + b →
    take n (take n xs ++ replicate a 0) ≡ take n (xs ++ replicate b 0)
front_of zero a b xs h k = refl
front_of (suc n) a b [] h k = front_more (suc n) a b [] h k
front_of (suc n) a b (x ∷ xs) h k = ap (λ (ys : List ℕ). x ∷ ys) (front_of n a b xs (omega arith) (omega arith))

-- a copy of so many bytes as there are, at most n, over zeros
pub front_bytes : (xs copy rest : List ℕ) (n room : ℕ) → n ≤ room → copy ≡ take (min n (length xs)) xs →
    rest ≡ drop (min n (length xs)) (replicate room 0) → take n (copy ++ rest) ≡ take n (xs ++ replicate n 0)
front_bytes xs copy rest n room h is past =
    rw (is, past, take_min n xs, drop-replicate {X = ℕ} (min n (length xs)) room 0)
    (front_of n (room - min n (length xs)) n xs (omega arith) (omega arith))
