-- Reads of many bytes at once, one by one, and of what was written.
use Rattle.std.proofs.Common.{◌≡◌, inl, inr, ℕ, suc, ◌+◌, ◌<◌, ◌≤◌, List, [], ◌∷◌, ◌++◌, length, take, drop, replicate, get_or, subst, ap, ◌∙◌, add-one, drop-cons, append_assoc, arith}
use Rattle.std.specs.Prelude.{min}
use Rattle.std.proofs.Math.Seq.{take-append_seam, drop-append_seam}
use Rattle.std.proofs.lemmas.Bool.{cases_lt}
use Rattle.std.proofs.lemmas.Bool.Decides.{nat_tests}
use Rattle.std.proofs.lemmas.List.{drop_all, get_or_past, length-take-le}
use Rattle.hp_model.specs.FwCfg.{FwCfg, item_of, advanced, next_byte, next_bytes}
use Rattle.hp_model.specs.Transfers.{finished}
use Rattle.hp_fwcfg.proofs.Copies.{front_more}

-- one byte of a list from some place on, and those after it
bytes_one : (n i : ℕ) (xs : List ℕ) → i ≤ length xs →
    take (suc n) (drop i xs ++ replicate (suc n) 0) ≡
    get_or xs i 0 ∷ take n (drop (min (i + 1) (length xs)) xs ++ replicate n 0)
bytes_one n i xs h = elim (cases_lt i (length xs)) [
  | inl k ↦ inside k
  | inr k ↦ past k
]
  where
    inside : i < length xs → take (suc n) (drop i xs ++ replicate (suc n) 0) ≡
        get_or xs i 0 ∷ take n (drop (min (i + 1) (length xs)) xs ++ replicate n 0)
    inside k =
        let e : min (i + 1) (length xs) ≡ suc i = omega arith in
        rw (e, drop-cons xs i 0 k) (ap (λ (ys : List ℕ). get_or xs i 0 ∷ ys) (front_more n (suc n) n (drop (suc i) xs) (omega arith) (omega arith)))

    past : length xs ≤ i → take (suc n) (drop i xs ++ replicate (suc n) 0) ≡
        get_or xs i 0 ∷ take n (drop (min (i + 1) (length xs)) xs ++ replicate n 0)
    past k =
        let e : min (i + 1) (length xs) ≡ length xs = omega arith in
        let all : length xs ≤ length xs = omega arith in
        rw (e, drop_all i xs k, drop_all (length xs) xs all, get_or_past {X = ℕ} xs i 0 k)
        (ap (λ (ys : List ℕ). 0 ∷ ys) (front_more n n n [] (omega arith) (omega arith)))

pub read_one : (n : ℕ) (f : FwCfg) → f.offset ≤ length (item_of f) →
    next_bytes (n + 1) f ≡ next_byte f ∷ next_bytes n (advanced 1 f)
read_one n f h = rw (add-one n) (bytes_one n f.offset (item_of f) h)

two_moves : (i n end : ℕ) → min (i + (n + 1)) end ≡ min (min (i + 1) end + n) end
two_moves i n end = omega arith

pub advance_one : (n : ℕ) (f : FwCfg) → advanced (n + 1) f ≡ advanced n (advanced 1 f)
advance_one n f = ap (λ (i : ℕ). record f { offset = i }) (two_moves f.offset n (length (item_of f)))

-- bytes that were written over a list stand in it
written_at : (i : ℕ) (bytes xs : List ℕ) → i ≤ length xs →
    take (length bytes) (drop i (take i xs ++ (bytes ++ drop (i + length bytes) xs)) ++ replicate (length bytes) 0) ≡ bytes
written_at i bytes xs h =
    let front = take i xs in
    let rest = drop (i + length bytes) xs in
    let dropped : drop i (front ++ (bytes ++ rest)) ≡ bytes ++ rest =
    subst (λ (k : ℕ). drop k (front ++ (bytes ++ rest)) ≡ bytes ++ rest) (length-take-le i xs h) (drop-append_seam front (bytes ++ rest)) in
    rw (dropped, append_assoc bytes rest (replicate (length bytes) 0)) (take-append_seam bytes (rest ++ replicate (length bytes) 0))

requested_item : (f : FwCfg) → f.key ≡ 0x21 → item_of f ≡ f.requested
requested_item f key = grind (arith, nat_tests, key)

pub read_back : (bytes : List ℕ) (f : FwCfg) → f.key ≡ 0x21 → length f.requested ≡ 8 → f.offset ≤ 8 →
    next_bytes (length bytes) (record (finished bytes f) { offset = f.offset }) ≡ bytes
read_back bytes f key all h =
    let g = record (finished bytes f) { offset = f.offset } in
    let item = requested_item g key in
    ap (λ (xs : List ℕ). take (length bytes) (drop f.offset xs ++ replicate (length bytes) 0)) item
    ∙ written_at f.offset bytes f.requested (omega arith)

pub ruleset one_by_one = (read_one, advance_one)
