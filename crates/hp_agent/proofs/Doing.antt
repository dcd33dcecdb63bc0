-- What is left to do after a scan, access by access.
use Rattle.std.proofs.Common.{◌≡◌, ◌<◌, ℕ, zero, suc, ◌+◌, Bool, true, false, List, [], ◌∷◌, ◌++◌, length, drop, get_or, refl, sym, ap, ◌∙◌, arith, add-one, drop-cons}
use Rattle.std.specs.Prelude.{nat_lt, if◌then◌else◌}
use Rattle.std.proofs.lemmas.Bool.Decides.{nat_tests}
use Rattle.hp_model.specs.declared.accesses.Access.{Access}
use Rattle.hp_model.specs.OsProgram.{removes, start_of, starts}
use Rattle.hp_agent.specs.declared.programs.Acting.{Acting}
use Rattle.hp_agent.specs.declared.programs.Acting.TheVariants.{Starts}
use Rattle.hp_agent.specs.Programs.{left_to_do}

-- of two lists one after the other, an item of the first, and what is behind it
front : {A : Type 0} (xs rest : List A) (k : ℕ) (d : A) → k < length xs → drop k (xs ++ rest) ≡ get_or xs k d ∷ drop (suc k) (xs ++ rest)
front [] rest k d h = absurd (omega (arith, h))
front (x ∷ xs) rest zero d h = refl
front (x ∷ xs) rest (suc k) d h = front xs rest k d (omega (arith, h))

-- the accesses of one processor stand before those of the processors after it
starts_at : (halves cpus : List ℕ) (item cpu : ℕ) → item < length cpus → cpu ≡ get_or cpus item cpu →
    starts halves (drop item cpus) ≡ start_of (get_or halves cpu 0) cpu ++ starts halves (drop (suc item) cpus)
starts_at halves cpus item cpu within is =
    ap (starts halves) (drop-cons cpus item cpu within)
    ∙ ap (λ (c : ℕ). start_of (get_or halves c 0) c ++ starts halves (drop (suc item) cpus)) (sym is)

-- where the next access that starts a processor stands
abbrev pub after_it : ℕ → ℕ → Acting
after_it item done = if nat_lt done 14 then Starts item (done + 1) else Starts (item + 1) 0

-- the next access that starts a processor, and what is left after it
next_start : (halves inserts removals : List ℕ) (item done cpu : ℕ) (d : Access) → item < length inserts → done < 15 → cpu ≡ get_or inserts item cpu →
    left_to_do halves inserts removals (Starts item done)
    ≡ get_or (start_of (get_or halves cpu 0) cpu) done d ∷ left_to_do halves inserts removals (after_it item done)
next_start halves inserts removals item done cpu d within below is = by_rest (nat_lt done 14) refl
  where
    all : List Access
    all = starts halves (drop item inserts)

    own : List Access
    own = start_of (get_or halves cpu 0) cpu

    here : all ≡ own ++ starts halves (drop (suc item) inserts)
    here = starts_at halves inserts item cpu within is

    first : drop done all ≡ get_or own done d ∷ drop (suc done) all
    first = rw here (front own (starts halves (drop (suc item) inserts)) done d below)

    by_rest : (b : Bool) → nat_lt done 14 ≡ b →
        drop done all ++ removes removals
        ≡ get_or own done d ∷ left_to_do halves inserts removals (if b then Starts item (done + 1) else Starts (item + 1) 0)
    by_rest true more = rw (first, add-one done) refl
    by_rest false last =
        let at_last : done ≡ 14 = grind (arith, nat_tests, last, below) in
        let rest : drop (suc done) all ≡ starts halves (drop (item + 1) inserts) = rw (at_last, here, add-one item) refl in
        rw (first, rest) refl

-- the same of what the code has at hand
pub start_said : (halves inserts removals : List ℕ) (item done cpu high : ℕ) (d : Access) (own : List Access) (at : Acting) → item < length inserts →
    done < 15 → cpu ≡ get_or inserts item cpu → high ≡ get_or halves cpu 0 → own ≡ start_of high cpu → at ≡ after_it item done →
    left_to_do halves inserts removals (Starts item done) ≡ get_or own done d ∷ left_to_do halves inserts removals at
start_said halves inserts removals item done cpu high d own at within below is to_it all next =
    next_start halves inserts removals item done cpu d within below is
    ∙ ap (λ (as' : List Access). get_or as' done d ∷ left_to_do halves inserts removals (after_it item done)) (sym (all ∙ ap (λ (h : ℕ). start_of h cpu) to_it))
    ∙ ap (λ (a : Acting). get_or own done d ∷ left_to_do halves inserts removals a) (sym next)
