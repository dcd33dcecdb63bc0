-- A summary of one entry more.
use Rattle.std.proofs.Common.{◌≡◌, ℕ, ◌+◌, ◌≤◌, Bool, true, false, List, [], ◌∷◌, ◌++◌, length, refl, sym, ap, subst, ◌∙◌, arith, length-append}
use Rattle.std.specs.Prelude.{filter, if◌then◌else◌}
use Rattle.hp_model.specs.declared.outcomes.Outcome.{Outcome}
use Rattle.hp_model.specs.declared.entries.Entry.{Entry}
use Rattle.hp_trace.specs.declared.summaries.Summary.{Summary}
use Rattle.hp_trace.specs.Summary.{IsSummary, and_one, is_added, is_ejected, is_refused, summary, tells, told, with_entry}

abbrev kept : Bool → Entry → List Entry → List Entry
kept is e es = if is then e ∷ es else es

told_first : (kind : Outcome → Bool) (e : Entry) (es : List Entry) → told kind (e ∷ es) ≡ length (kept (tells kind e.event) e (filter (λ f. tells kind f.event) es))
told_first kind e es = refl

-- no more than there are
length-kept : (is : Bool) (e : Entry) (es : List Entry) (n : ℕ) → length es ≤ n → length (kept is e es) ≤ n + 1
length-kept true e es n few = omega (arith, few)
length-kept false e es n few = omega (arith, few)

told_few : (kind : Outcome → Bool) (es : List Entry) → told kind es ≤ length es
told_few kind [] = omega arith
told_few kind (e ∷ es) = let few = length-kept (tells kind e.event) e (filter (λ f. tells kind f.event) es) (length es) (told_few kind es) in omega (arith, few)

pub few : (kind : Outcome → Bool) (s : Summary) (sums : IsSummary s) (n : ℕ) → n ≡ told kind sums.of → n ≤ s.entries
few kind s sums n is = let few = told_few kind sums.of in let all = ap (λ (t : Summary). t.entries) sums.is in omega (arith, is, few, all)

-- an entry more behind the others
kept-more : (is : Bool) (e : Entry) (es fs : List Entry) (b : Bool) → length fs ≡ and_one b (length es) → length (kept is e fs) ≡ and_one b (length (kept is e es))
kept-more true e es fs true more = omega (arith, more)
kept-more true e es fs false more = omega (arith, more)
kept-more false e es fs b more = more

told_one : (is : Bool) (e : Entry) → length (kept is e []) ≡ and_one is 0
told_one true e = refl
told_one false e = refl

told_more : (kind : Outcome → Bool) (es : List Entry) (e : Entry) → told kind (es ++ e ∷ []) ≡ and_one (tells kind e.event) (told kind es)
told_more kind [] e = told_one (tells kind e.event) e
told_more kind (f ∷ es) e =
    kept-more (tells kind f.event) f (filter (λ g. tells kind g.event) es) (filter (λ g. tells kind g.event) (es ++ e ∷ [])) (tells kind e.event) (told_more kind es e)

pub more : (es : List Entry) (e : Entry) → with_entry e (summary es) ≡ summary (es ++ e ∷ [])
more es e =
    rw (told_more is_added es e, told_more is_ejected es e, told_more is_refused es e, length-append es (e ∷ [])) refl
