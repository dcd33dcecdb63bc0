-- Tests of transitions, looked back on: what one transition more makes of the newest of a kind, and what holds of each of a list.
use Rattle.std.proofs.Common.{ℕ, zero, suc, ◌≡◌, ◌<◌, Bool, true, false, ◌||◌, List, [], ◌∷◌, filter, Some, refl, sym, subst, ◌∙◌, arith, if◌then◌else◌}
use Rattle.std.specs.List.{list_all, list_any}
use Rattle.std.proofs.lemmas.Bool.{and_from, and_parts}
use Rattle.std.proofs.lemmas.Bool.Decides.{nat_tests}
use Rattle.hp_model.specs.declared.platforms.Platform.{Platform}
use Rattle.hp_model.specs.declared.entries.Entry.{Entry}
use Rattle.hp_model.specs.declared.labels.Label.TheVariants.{C3, C4, C6}
use Rattle.hp_model.specs.Boot.{value_in}
use Rattle.hp_model.specs.State.{State, start}
use Rattle.hp_model.specs.Transitions.{Transition, entries_of, since, newest, older_than, at_each, at_each_state, places}
use Rattle.hp_model.specs.Account.{is_at, bound}
use Rattle.hp_model.specs.Sessions.{bounds_session, session, value_by, triple_by, triples}
use Rattle.hp_safety.proofs.Ties.{session_in, session_of, no_session, read_at, reports_at, session_more, bound_more}

-- the newest of a kind, after one that is of it or isn't
pub newest_it : {A : Type 0} (kind : A → Bool) (x : A) (xs : List A) → kind x ≡ true → newest kind (x ∷ xs) ≡ Some x
unfolding newest
newest_it kind x xs e = rw (e, newest) refl

pub older_it : {A : Type 0} (kind : A → Bool) (x : A) (xs : List A) → kind x ≡ true → older_than kind (x ∷ xs) ≡ xs
unfolding older_than
older_it kind x xs e = rw (e, older_than) refl

pub newest_other : {A : Type 0} (kind : A → Bool) (x : A) (xs : List A) → kind x ≡ false → newest kind (x ∷ xs) ≡ newest kind xs
unfolding newest
newest_other kind x xs e = rw (e, newest) refl

pub older_other : {A : Type 0} (kind : A → Bool) (x : A) (xs : List A) → kind x ≡ false → older_than kind (x ∷ xs) ≡ older_than kind xs
unfolding older_than
older_other kind x xs e = rw (e, older_than) refl

pub since_it : {A : Type 0} (kind : A → Bool) (x : A) (xs : List A) → kind x ≡ true → since kind (x ∷ xs) ≡ []
unfolding since
since_it kind x xs e = rw (e, since) refl

pub since_other : {A : Type 0} (kind : A → Bool) (x : A) (xs : List A) → kind x ≡ false → since kind (x ∷ xs) ≡ x ∷ since kind xs
unfolding since
since_other kind x xs e = rw (e, since) refl

-- lists of places
pub all_places : (f : ℕ → Bool) (n : ℕ) → ((k : ℕ) → f k ≡ true) → list_all f (places n) ≡ true
unfolding places
all_places f zero h = refl
all_places f (suc n) h = and_from (f n) (list_all f (places n)) (h n) (all_places f n h)

pub no_place : (f : ℕ → Bool) (n : ℕ) → ((k : ℕ) → k < n → f k ≡ false) → list_any f (places n) ≡ false
unfolding places
no_place f zero h = refl
no_place f (suc n) h = let here = h n (omega arith) in rw here (no_place f n (λ k less. h k (omega (arith, less))))

pub some_place : (f : ℕ → Bool) (k n : ℕ) → k < n → f k ≡ true → list_any f (places n) ≡ true
unfolding places
some_place f k zero less e = absurd (omega (arith, less))
some_place f k (suc n) less e = by_test (f n) refl (λ m. some_place f k n m e)
  where
    apart : (a b : ℕ) → a < suc b → (a ≡ b → ⊥) → a < b
    apart a b small other = grind (arith, nat_tests)

    by_test : (c : Bool) → f n ≡ c → (k < n → list_any f (places n) ≡ true) → (c || list_any f (places n)) ≡ true
    by_test true is more = refl
    by_test false is more = more (apart k n less (λ same. let both : true ≡ false = sym (subst (λ i. f i ≡ true) same e) ∙ is in cc))

pub all_filtered : (f g : ℕ → Bool) (xs : List ℕ) → ((k : ℕ) → g k ≡ true → f k ≡ true) → list_all f (filter g xs) ≡ true
all_filtered f g [] h = refl
all_filtered f g (x ∷ xs) h = by_test (g x) refl (all_filtered f g xs h)
  where
    by_test : (c : Bool) → g x ≡ c → list_all f (filter g xs) ≡ true → list_all f (if c then x ∷ filter g xs else filter g xs) ≡ true
    by_test true is more = and_from (f x) (list_all f (filter g xs)) (h x is) more
    by_test false is more = more

-- states: the first one, and that after each transition
pub at_states : (p : Platform) (test : List Entry → State → Bool) (xs : List Transition) → test [] (start p) ≡ true → at_each (λ older x. test (entries_of (x ∷ older)) x.after) xs ≡ true → at_each_state p test xs ≡ true
unfolding at_each at_each_state
at_states p test [] first all = first
at_states p test (x ∷ older) first all =
    let parts = and_parts (test (entries_of (x ∷ older)) x.after) (at_each (λ older x. test (entries_of (x ∷ older)) x.after) older) all in
    and_from (test (entries_of (x ∷ older)) x.after) (at_each_state p test older) parts.0 (at_states p test older first parts.1)

-- the accounts over one entry more
pub bound_step : (p : Platform) (es : List Entry) (e : Entry) → bound p (e ∷ es) ≡ bound_more p (bound p es) e
unfolding bound
bound_step p es e = refl

value_more : (kind : Entry → Bool) (e : Entry) (xs : List Entry) → value_by (newest kind (e ∷ xs)) ≡ read_at (kind e) (value_in e.answer) (value_by (newest kind xs))
value_more kind e xs = by_test (kind e) refl
  where
    by_test : (c : Bool) → kind e ≡ c → value_by (newest kind (e ∷ xs)) ≡ read_at c (value_in e.answer) (value_by (newest kind xs))
    by_test true is = rw (newest_it kind e xs is) refl
    by_test false is = rw (newest_other kind e xs is) refl

pub triples_more : (p : Platform) (e : Entry) (xs : List Entry) → triples p (e ∷ xs) ≡ reports_at (is_at p C6 e) (triple_by p xs e) (triples p xs)
unfolding triples
triples_more p e xs = by_test (is_at p C6 e) refl
  where
    by_test : (c : Bool) → is_at p C6 e ≡ c → triples p (e ∷ xs) ≡ reports_at c (triple_by p xs e) (triples p xs)
    by_test true is = rw (is, triples) refl
    by_test false is = rw (is, triples) refl

pub session_on : (es : List Entry) (e : Entry) → bounds_session e ≡ false → session (e ∷ es) ≡ e ∷ session es
unfolding since
session_on es e is = rw (is, since) refl

pub session_none : (es : List Entry) (e : Entry) → bounds_session e ≡ true → session (e ∷ es) ≡ []
unfolding since
session_none es e is = rw (is, since) refl

none_read : (p : Platform) → session_in p [] ≡ no_session
unfolding newest triples
none_read p = refl

pub session_step : (p : Platform) (es : List Entry) (e : Entry) → session_of p (e ∷ es) ≡ session_more p (session_of p es) e
session_step p es e = by_test (bounds_session e) refl
  where
    by_test : (c : Bool) → bounds_session e ≡ c → session_of p (e ∷ es) ≡ (if c then no_session else record {
      cpu = read_at (is_at p C3 e) (value_in e.answer) (value_by (newest (is_at p C3) (session es)));
      status = read_at (is_at p C4 e) (value_in e.answer) (value_by (newest (is_at p C4) (session es)));
      reports = reports_at (is_at p C6 e) (triple_by p (session es) e) (triples p (session es));
    })
    by_test true is = rw (session_none es e is) (none_read p)
    by_test false is = rw (session_on es e is, value_more (is_at p C3) e (session es), value_more (is_at p C4) e (session es), triples_more p e (session es)) refl
