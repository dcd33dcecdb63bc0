-- What a world keeps, and what its turns and events make of it.
use Rattle.std.proofs.Common.{◌≡◌, ◌≤◌, ◌<◌, ◌+◌, ◌&&◌, ◌⊎◌, inl, inr, ℕ, zero, suc, Bool, true, false, nat_lt, List, [], ◌∷◌, ◌++◌, length, take, replicate, Option, Some, None, option_and_then, refl, sym, ap, subst, ◌∙◌, arith, length-set}
use Rattle.std.specs.Prelude.{slice_index_or, slice_set, if◌then◌else◌}
use Rattle.std.proofs.lemmas.Option.{same_Some}
use Rattle.std.proofs.lemmas.Bool.Decides.{nat_tests}
use Rattle.hp_model.specs.declared.platforms.Platform.{Platform}
use Rattle.hp_model.specs.declared.accesses.Answer.{Answer}
use Rattle.hp_model.specs.declared.entries.Actor.{Actor}
use Rattle.hp_model.specs.declared.entries.Actor.TheVariants as actor
use Rattle.hp_model.specs.declared.entries.Event.{Event}
use Rattle.hp_model.specs.declared.entries.Entry.{Entry}
use Rattle.hp_model.specs.Platform.{IsFit, count_of, is_late}
use Rattle.hp_model.specs.Runs.{accept, address_of, run, run_from, run_on}
use Rattle.hp_model.specs.State.{State, start}
use Rattle.hp_model.specs.Step.{after, answer_of, step}
use Rattle.hp_model.proofs.Scheduled.{run-more, same_address-refl, same_answer-refl}
use Rattle.hp_platform.specs.Agents.{HasNone}
use Rattle.hp_platform.specs.Board.{is_step}
use Rattle.hp_platform.specs.Live as live
use Rattle.hp_platform.specs.Live.{Live}
use Rattle.hp_platform.specs.World.{IsKept, IsNoted, WasIdle, asked_place, counted, counted_at, idle_place, idle_place_of, idle_places, noted, one_more}

-- a step that is due is the model's
pub due_step : (p : Platform) (s : State) (x : Event) → is_step p s x ≡ true → step p s x ≡ Some (after p s x)
unfolding step
due_step p s x e = ap (λ (b : Bool). if b then Some (after p s x) else None) e

-- an entry more
pub taken : (p : Platform) (s : State) (e : Entry) → step p s e.event ≡ Some (after p s e.event) → e.answer ≡ answer_of s e.event → e.at ≡ address_of s e.event → run_on p s e ≡ Some (after p s e.event).state
unfolding run_on
taken p s e is answer address =
    ap (option_and_then (accept e (address_of s e.event))) is
    ∙ ap (λ (a : Answer). accept (record { event = e.event; at = e.at; answer = a }) (address_of s e.event) (after p s e.event)) answer
    ∙ ap (λ (o : Option ℕ). accept (record { event = e.event; at = o; answer = answer_of s e.event }) (address_of s e.event) (after p s e.event)) address
    ∙ rw (same_answer-refl, same_address-refl) refl

pub accepted : (p : Platform) (s : State) (x : Event) (e : Entry) → is_step p s x ≡ true → e.event ≡ x → e.answer ≡ answer_of s x → e.at ≡ address_of s x → run_on p s e ≡ Some (after p s x).state
accepted p s x e is event answer address =
    subst (λ (y : Event). (step p s y ≡ Some (after p s y) → e.answer ≡ answer_of s y → e.at ≡ address_of s y → run_on p s e ≡ Some (after p s y).state)) event (taken p s e) (due_step p s x is) answer address

take-front : (es fs : List Entry) (n : ℕ) → n ≤ length es → take n (es ++ fs) ≡ take n es
take-front es fs zero within = refl
take-front [] fs (suc n) within = absurd (omega (arith, within))
take-front (e ∷ es) fs (suc n) within = ap (λ (gs : List Entry). e ∷ gs) (take-front es fs n (omega (arith, within)))

take-all : (es : List Entry) → take (length es) es ≡ es
take-all [] = refl
take-all (e ∷ es) = ap (λ (gs : List Entry). e ∷ gs) (take-all es)

length-more : (es : List Entry) (e : Entry) (n : ℕ) → n ≤ length es → n ≤ length (es ++ e ∷ [])
length-more es e n within = omega (arith, within, longer es)
  where
    longer : (es : List Entry) → length es ≤ length (es ++ e ∷ [])
    longer [] = omega arith
    longer (x ∷ es) = omega (arith, longer es)

-- the state is that of the entries alone
pub led : (l : Live) (es : List Entry) (asked : List ℕ) (notes : List (Option ℕ)) → IsKept l es asked notes → (s : State) → run l.platform es ≡ Some s → l.state ≡ s
led l es asked notes kept s is = same_Some l.state s (sym kept.replay ∙ is)

-- a turn was counted
length-counted : (o : Option ℕ) (ns : List ℕ) → length (counted_at o ns) ≡ length ns
length-counted None ns = refl
length-counted (Some place) ns = length-set ns place (one_more (slice_index_or ns place 0))

pub kept_turn : (l : Live) (es : List Entry) (asked now : List ℕ) (notes : List (Option ℕ)) (n : ℕ) (a : Actor) → IsKept l es asked notes → now ≡ counted n a asked → IsKept l es now notes
kept_turn l es asked now notes n a kept is = record {
  fit = kept.fit;
  replay = kept.replay;
  noted = record { counts = ap length is ∙ length-counted (asked_place n a) asked ∙ kept.noted.counts; places = kept.noted.places; was = kept.noted.was };
}

-- an idle turn is noted
set_cases : (xs : List (Option ℕ)) (k j m : ℕ) (x : Option ℕ) → slice_index_or (slice_set xs k x) j None ≡ Some m → ((j ≡ k) × (x ≡ Some m)) ⊎ (slice_index_or xs j None ≡ Some m)
set_cases [] k j m x is = inr is
set_cases (y ∷ ys) zero zero m x is = inl (refl, is)
set_cases (y ∷ ys) zero (suc j) m x is = inr is
set_cases (y ∷ ys) (suc k) zero m x is = inr is
set_cases (y ∷ ys) (suc k) (suc j) m x is = onward (set_cases ys k j m x is)
  where
    onward : ((j ≡ k) × (x ≡ Some m)) ⊎ (slice_index_or ys j None ≡ Some m) → ((suc j ≡ suc k) × (x ≡ Some m)) ⊎ (slice_index_or ys j None ≡ Some m)
    onward (inl here) = inl (ap suc here.0, here.1)
    onward (inr other) = inr other

length-noted : (handed : Bool) (o : Option ℕ) (n : ℕ) (notes : List (Option ℕ)) → length (noted handed o n notes) ≡ length notes
length-noted false o n notes = refl
length-noted true None n notes = refl
length-noted true (Some place) n notes = length-set notes place (Some n)

-- no two actors have one place
placed : (b : Bool) (x i : ℕ) → (if b then Some x else None) ≡ Some i → (b ≡ true) × (x ≡ i)
placed true x i e = (refl, same_Some x i e)
placed false x i e = cc

apart : (late : Bool) (count k j i : ℕ) → idle_place late count (actor.Cpu k) ≡ Some i → idle_place late count (actor.Smi j) ≡ Some i → ⊥
apart late count k j i e f =
    let here = placed (nat_lt k count) k i e in
    let there = placed (late && nat_lt j count) (count + j) i f in
    let below : k < count = within here.0 in
    omega (arith, below, here.1, there.1)
  where
    within : nat_lt k count ≡ true → k < count
    within e = grind (arith, nat_tests)

same_cpu : (late : Bool) (count k j i : ℕ) → idle_place late count (actor.Cpu k) ≡ Some i → idle_place late count (actor.Cpu j) ≡ Some i → k ≡ j
same_cpu late count k j i e f = (placed (nat_lt k count) k i e).1 ∙ sym (placed (nat_lt j count) j i f).1

same_smi : (late : Bool) (count k j i : ℕ) → idle_place late count (actor.Smi k) ≡ Some i → idle_place late count (actor.Smi j) ≡ Some i → k ≡ j
same_smi late count k j i e f =
    let here = placed (late && nat_lt k count) (count + k) i e in
    let there = placed (late && nat_lt j count) (count + j) i f in
    omega (arith, here.1, there.1)

one_place : (late : Bool) (count : ℕ) (a c : Actor) (i : ℕ) → idle_place late count a ≡ Some i → idle_place late count c ≡ Some i → a ≡ c
one_place late count (actor.Insert k) c i e f = cc
one_place late count (actor.Remove k) c i e f = cc
one_place late count (actor.Cpu k) (actor.Insert j) i e f = cc
one_place late count (actor.Cpu k) (actor.Remove j) i e f = cc
one_place late count (actor.Cpu k) (actor.Cpu j) i e f = ap (λ (x : ℕ). actor.Cpu x) (same_cpu late count k j i e f)
one_place late count (actor.Cpu k) (actor.Smi j) i e f = absurd (apart late count k j i e f)
one_place late count (actor.Smi k) (actor.Insert j) i e f = cc
one_place late count (actor.Smi k) (actor.Remove j) i e f = cc
one_place late count (actor.Smi k) (actor.Cpu j) i e f = absurd (apart late count j k i f e)
one_place late count (actor.Smi k) (actor.Smi j) i e f = ap (λ (x : ℕ). actor.Smi x) (same_smi late count k j i e f)

module _ (l : Live) (es : List Entry) (asked : List ℕ) (notes : List (Option ℕ)) (kept : IsKept l es asked notes) where
  abbrev p : Platform
  p = l.platform

  -- a turn without a step was noted
  module _ (a : Actor) (n : ℕ) (all : n ≡ length es) (none : HasNone p l.state a) where
    idle_here : WasIdle p es a n
    idle_here = record {
      within = omega (arith, all);
      none = λ s is. subst (λ (t : State). HasNone p t a) (led l es asked notes kept s (subst (λ (fs : List Entry). run p fs ≡ Some s) (ap (λ (i : ℕ). take i es) all ∙ take-all es) is)) none;
    }

    was_at : (place : ℕ) → idle_place_of p a ≡ Some place → (c : Actor) (j m : ℕ) → idle_place_of p c ≡ Some j → ((j ≡ place) × (Some n ≡ Some m)) ⊎ (slice_index_or notes j None ≡ Some m) → WasIdle p es c m
    was_at place here c j m there (inl now) =
        let its : idle_place_of p c ≡ Some place = there ∙ ap (λ (i : ℕ). Some i) now.0 in
        subst (λ (d : Actor). WasIdle p es d m) (one_place (is_late p.delivery) (count_of p) a c place here its)
        (subst (λ (i : ℕ). WasIdle p es a i) (same_Some n m now.1) idle_here)
    was_at place here c j m there (inr old) = kept.noted.was c j m there old

    was_noted : (handed : Bool) (o : Option ℕ) → idle_place_of p a ≡ o → (c : Actor) (j m : ℕ) → idle_place_of p c ≡ Some j → slice_index_or (noted handed o n notes) j None ≡ Some m → WasIdle p es c m
    was_noted false o here c j m there is = kept.noted.was c j m there is
    was_noted true None here c j m there is = kept.noted.was c j m there is
    was_noted true (Some place) here c j m there is = was_at place here c j m there (set_cases notes place j m (Some n) is)

    pub kept_idle : (handed : Bool) → IsKept l es asked (noted handed (idle_place_of p a) n notes)
    kept_idle handed = record {
      fit = kept.fit;
      replay = kept.replay;
      noted = record {
        counts = kept.noted.counts;
        places = length-noted handed (idle_place_of p a) n notes ∙ kept.noted.places;
        was = λ c j m there is. was_noted handed (idle_place_of p a) refl c j m there is;
      };
    }

  -- an entry was added
  module _ (m : Live) (e : Entry) (same : m.platform ≡ p) (next : run_on p l.state e ≡ Some m.state) where
    longer : (a : Actor) (n : ℕ) → WasIdle p es a n → WasIdle p (es ++ e ∷ []) a n
    longer a n was = record {
      within = length-more es e n was.within;
      none = λ t so. was.none t (subst (λ (fs : List Entry). run p fs ≡ Some t) (take-front es (e ∷ []) n was.within) so);
    }

    pub kept_more : IsKept m (es ++ e ∷ []) asked notes
    kept_more = record {
      fit = subst (λ (q : Platform). IsFit q) (sym same) kept.fit;
      replay = subst (λ (q : Platform). run q (es ++ e ∷ []) ≡ Some m.state) (sym same) (run-more p es e l.state m.state kept.replay next);
      noted = subst (λ (q : Platform). IsNoted q (es ++ e ∷ []) asked notes) (sym same)
          (record { counts = kept.noted.counts; places = kept.noted.places; was = λ a i n place is. longer a n (kept.noted.was a i n place is) });
    }

  -- by a turn, or by an event
  pub kept_made : (m : Live) (a : Actor) (e : Entry) → m.platform ≡ p → live.IsMade l m a e → IsKept m (es ++ e ∷ []) asked notes
  kept_made m a e same made = kept_more m e same (taken p l.state e made.is.step made.is.answer made.is.address ∙ ap (λ (s : State). Some s) (sym made.state))

  pub kept_applied : (m : Live) (x : Event) (answer : Answer) (at : Option ℕ) → m.platform ≡ p → live.IsApplied l m x answer → at ≡ address_of l.state x
      → IsKept m (es ++ (record { event = x; at = at; answer = answer }) ∷ []) asked notes
  kept_applied m x answer at same made address =
      kept_more m (record { event = x; at = at; answer = answer }) same
      (taken p l.state (record { event = x; at = at; answer = answer }) made.is.step made.is.answer address ∙ ap (λ (s : State). Some s) (sym made.state))

-- before the first turn
none_noted : (n k m : ℕ) (notes : List (Option ℕ)) → notes ≡ replicate n None → slice_index_or notes k None ≡ Some m → ⊥
none_noted n k m notes none is = none_in n k m (sym (ap (λ (xs : List (Option ℕ)). slice_index_or xs k None) none) ∙ is)
  where
    none_in : (n k m : ℕ) → slice_index_or (replicate n None) k None ≡ Some m → ⊥
    none_in zero k m is = cc
    none_in (suc n) zero m is = cc
    none_in (suc n) (suc k) m is = none_in n k m is

length-replicate : {X : Type 0} (n : ℕ) (x : X) → length (replicate n x) ≡ n
length-replicate zero x = refl
length-replicate (suc n) x = ap suc (length-replicate n x)

pub kept_start : (l : Live) (asked : List ℕ) (notes : List (Option ℕ)) → IsFit l.platform → l.state ≡ start l.platform → asked ≡ replicate (count_of l.platform + 1) 0
    → notes ≡ replicate (idle_places (is_late l.platform.delivery) (count_of l.platform)) None → IsKept l [] asked notes
unfolding run run_from
kept_start l asked notes fit state counts none = record {
  fit = fit;
  replay = ap (λ (s : State). Some s) (sym state);
  noted = record {
    counts = ap length counts ∙ length-replicate (count_of l.platform + 1) 0;
    places = ap length none ∙ length-replicate (idle_places (is_late l.platform.delivery) (count_of l.platform)) None;
    was = λ a i m place is. absurd (none_noted (idle_places (is_late l.platform.delivery) (count_of l.platform)) i m notes none is);
  };
}
