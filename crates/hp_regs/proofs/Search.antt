-- The first event is where the iterator finds it.
use Rattle.std.proofs.Common.{◌≡◌, ℕ, zero, suc, true, false, Bool, ◌+◌, ◌-◌, ◌<◌, ◌≤◌, ◌⊎◌, min, List, [], ◌∷◌, length, take, drop, get_or, Option, Some, None, inl, inr, refl, sym, ap, ◌∙◌, arith}
use Rattle.std.specs.List.{position}
use Rattle.std.proofs.lemmas.Bool.{cases_lt, true≢false}
use Rattle.std.proofs.lemmas.List.{get_or-drop, get_or-take, length-drop, length-take}
use Rattle.std.proofs.lemmas.List.Quantifiers.{position-Some}
use Rattle.std.proofs.lemmas.Grind.{common_steps}
use Rattle.std.proofs.lemmas.Bool.Decides.{nat_tests}
use Rattle.hp_model.specs.Block.{Slot, Block, slot_at, is_selected, no_slot, has_event, first_event, found, block_write}
use Rattle.hp_regs.specs.Words.{is_search, steps_up}

pub first_position : (ss : List Slot) → first_event ss ≡ position has_event ss
first_position [] = refl
first_position (s ∷ ss) = grind (arith, nat_tests, common_steps, first_position ss)

-- what the first event is
record IsFirst (ss : List Slot) (i : ℕ) : Type 0 where
  within : i < length ss
  event : has_event (get_or ss i no_slot) ≡ true
  none_before : (k : ℕ) → k < i → has_event (get_or ss k no_slot) ≡ false

first_Some : (ss : List Slot) (i : ℕ) → first_event ss ≡ Some i → IsFirst ss i
first_Some ss i e = by_parts (position-Some has_event ss i no_slot (sym (first_position ss) ∙ e))
  where
    by_parts : (i < length ss) × (has_event (get_or ss i no_slot) ≡ true) × ((k : ℕ) → k < i → has_event (get_or ss k no_slot) ≡ false) → IsFirst ss i
    by_parts p = record { within = p.0; event = p.1; none_before = p.2 }

first_None : (ss : List Slot) → first_event ss ≡ None → (k : ℕ) → has_event (get_or ss k no_slot) ≡ false
first_None [] e k = refl
first_None (s ∷ ss) e zero = grind (arith, nat_tests, common_steps)
first_None (s ∷ ss) e (suc k) = first_None ss (grind (arith, nat_tests, common_steps)) k

-- a place with an event is a place
placed : (ss : List Slot) (k : ℕ) → has_event (get_or ss k no_slot) ≡ true → k < length ss
placed [] k e = absurd (true≢false (sym e))
placed (s ∷ ss) zero e = omega arith
placed (s ∷ ss) (suc k) e = omega (arith, placed ss k e)

ahead : (n : ℕ) (ss : List Slot) (k : ℕ) → n ≤ k → get_or (drop n ss) (k - n) no_slot ≡ get_or ss k no_slot
ahead n ss k h = let e : n + (k - n) ≡ k = omega arith in get_or-drop n ss (k - n) no_slot ∙ ap (λ (j : ℕ). get_or ss j no_slot) e

-- the first on the way up from a place and round
record IsNext (from : ℕ) (ss : List Slot) (i : ℕ) : Type 0 where
  event : has_event (get_or ss i no_slot) ≡ true
  nearest : (k : ℕ) → from < length ss → has_event (get_or ss k no_slot) ≡ true → steps_up (length ss) from i ≤ steps_up (length ss) from k

steps_ahead : (count from i k : ℕ) → i < count - from → k < from ⊎ (i ≤ k - from) → steps_up count from (from + i) ≤ steps_up count from k
steps_ahead count from i k within (inl below) = grind (arith, nat_tests)
steps_ahead count from i k within (inr above) = grind (arith, nat_tests)

steps_round : (count from i k : ℕ) → from < count → i < from → k < from → i ≤ k → steps_up count from i ≤ steps_up count from k
steps_round count from i k inside here there le = grind (arith, nat_tests)

next_ahead : (from : ℕ) (ss : List Slot) (i : ℕ) → IsFirst (drop from ss) i → IsNext from ss (from + i)
next_ahead from ss i is = record {
  event = sym (ap has_event (get_or-drop from ss i no_slot)) ∙ is.event;
  nearest = λ k inside e. steps_ahead (length ss) from i k (rw length-drop at is.within) (reached k e (cases_lt k from) (cases_lt (k - from) i));
}
  where
    reached : (k : ℕ) → has_event (get_or ss k no_slot) ≡ true → (k < from) ⊎ (from ≤ k) → (k - from < i) ⊎ (i ≤ k - from) → (k < from) ⊎ (i ≤ k - from)
    reached k e (inl below) far = inl below
    reached k e (inr above) (inr far) = inr far
    reached k e (inr above) (inl near) =
        absurd (true≢false (sym e ∙ sym (ap has_event (ahead from ss k above)) ∙ is.none_before (k - from) near))

none_ahead : (from : ℕ) (ss : List Slot) → first_event (drop from ss) ≡ None → (k : ℕ) → has_event (get_or ss k no_slot) ≡ true → k < from
none_ahead from ss none k e = elim (cases_lt k from) [
  | inl below ↦ below
  | inr above ↦ absurd (true≢false (sym e ∙ sym (ap has_event (ahead from ss k above)) ∙ first_None (drop from ss) none (k - from)))
]

next_round : (from : ℕ) (ss : List Slot) (i : ℕ) → first_event (drop from ss) ≡ None → IsFirst (take from ss) i → IsNext from ss i
next_round from ss i none is = record {
  event = sym (ap has_event (get_or-take from ss i no_slot here)) ∙ is.event;
  nearest = λ k inside e. steps_round (length ss) from i k inside here (none_ahead from ss none k e) (reached k e (none_ahead from ss none k e) (cases_lt k i));
}
  where
    here : i < from
    here = let within : i < min from (length ss) = rw length-take at is.within in omega arith

    reached : (k : ℕ) → has_event (get_or ss k no_slot) ≡ true → k < from → (k < i) ⊎ (i ≤ k) → i ≤ k
    reached k e below (inr far) = far
    reached k e below (inl near) =
        absurd (true≢false (sym e ∙ sym (ap has_event (get_or-take from ss k no_slot below)) ∙ is.none_before k near))

no_event_round : (from : ℕ) (ss : List Slot) → first_event (drop from ss) ≡ None → first_event (take from ss) ≡ None →
    (k : ℕ) → has_event (get_or ss k no_slot) ≡ true → ⊥
no_event_round from ss ahead_none below_none k e =
    true≢false (sym e ∙ sym (ap has_event (get_or-take from ss k no_slot (none_ahead from ss ahead_none k e))) ∙ first_None (take from ss) below_none k)

-- the search finds the next event, where there is one
found-next : (from : ℕ) (ss : List Slot) (k : ℕ) → has_event (get_or ss k no_slot) ≡ true → IsNext from ss (found from ss)
found-next from ss k e = by_ahead (first_event (drop from ss)) refl (first_event (take from ss)) refl
  where
    by_ahead : (a : Option ℕ) → first_event (drop from ss) ≡ a → (r : Option ℕ) → first_event (take from ss) ≡ r → IsNext from ss (found from ss)
    by_ahead (Some i) ea r er = rw ea (next_ahead from ss i (first_Some (drop from ss) i ea))
    by_ahead None ea (Some i) er = rw (ea, er) (next_round from ss i ea (first_Some (take from ss) i er))
    by_ahead None ea None er = absurd (no_event_round from ss ea er k e)

found-stays : (from : ℕ) (ss : List Slot) → ((k : ℕ) → has_event (get_or ss k no_slot) ≡ false) → found from ss ≡ from
found-stays from ss none = by_ahead (first_event (drop from ss)) refl (first_event (take from ss)) refl
  where
    by_ahead : (a : Option ℕ) → first_event (drop from ss) ≡ a → (r : Option ℕ) → first_event (take from ss) ≡ r → found from ss ≡ from
    by_ahead (Some i) ea r er =
        absurd (true≢false (sym (next_ahead from ss i (first_Some (drop from ss) i ea)).event ∙ none (from + i)))
    by_ahead None ea (Some i) er =
        absurd (true≢false (sym (next_round from ss i ea (first_Some (take from ss) i er)).event ∙ none i))
    by_ahead None ea None er = rw (ea, er) refl

-- a write of command 0 is the search
searched : (b : Block) (width value : ℕ) → b.modern ≡ true → is_selected b ≡ true → is_search width value ≡ true →
    (block_write b 5 width value).selector ≡ found b.selector b.slots
searched b width value modern selected search = rw (modern, selected, search) refl

pub search-event : (b : Block) (width value k : ℕ) → b.modern ≡ true → is_selected b ≡ true → is_search width value ≡ true → has_event (slot_at b k) ≡ true →
    has_event (slot_at b (block_write b 5 width value).selector) ≡ true
search-event b width value k modern selected search e = rw (searched b width value modern selected search) (found-next b.selector b.slots k e).event

pub search-nearest : (b : Block) (width value k : ℕ) → b.modern ≡ true → is_selected b ≡ true → is_search width value ≡ true → has_event (slot_at b k) ≡ true →
    steps_up (length b.slots) b.selector (block_write b 5 width value).selector ≤ steps_up (length b.slots) b.selector k
search-nearest b width value k modern selected search e =
    rw (searched b width value modern selected search) ((found-next b.selector b.slots k e).nearest k (grind (arith, nat_tests)) e)

pub search-none : (b : Block) (width value : ℕ) → b.modern ≡ true → is_selected b ≡ true → is_search width value ≡ true → ((k : ℕ) → has_event (slot_at b k) ≡ false) →
    (block_write b 5 width value).selector ≡ b.selector
search-none b width value modern selected search none = searched b width value modern selected search ∙ found-stays b.selector b.slots none

pub search-slots : (b : Block) (width value : ℕ) → b.modern ≡ true → (block_write b 5 width value).slots ≡ b.slots
search-slots b width value modern = by_selected (is_selected b) refl
  where
    by_selected : (s : Bool) → is_selected b ≡ s → (block_write b 5 width value).slots ≡ b.slots
    by_selected true e = rw (modern, e) refl
    by_selected false e = rw (modern, e) refl

pub ruleset search_facts = (search-event, search-nearest, search-none, search-slots)
