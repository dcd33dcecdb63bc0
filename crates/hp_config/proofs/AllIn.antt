-- Reading the items of an array, one after another.
use Rattle.std.proofs.Common.{◌≡◌, ℕ, ◌+◌, ◌<◌, ◌≤◌, List, [], ◌∷◌, ◌++◌, length, drop, get_or, Option, Some, None, option_map, refl, append_assoc, append-nil, true, ◌&&◌, is_some}
use Rattle.std.proofs.lemmas.List.{drop_all}
use Rattle.toml.specs.Data.{Data, as_str}
use Rattle.toml.specs.View.{view, items_view}
use Rattle.toml.specs.declared.value.Value.{Value}
use Rattle.toml.proofs.Views.{items_view-drop}
use Rattle.hp_config.specs.Tree.{all_in}
use Rattle.hp_config.specs.Rows.{are_texts}

module _ {X : Type 0} where
  -- what was read, and then what is read of the rest
  abbrev pub ahead : List X → Option (List X) → Option (List X)
  ahead made rest = option_map (λ xs. made ++ xs) rest

  ahead_more : (made : List X) (x : X) (rest : Option (List X)) → ahead made (option_map (λ xs. x ∷ xs) rest) ≡ ahead (made ++ x ∷ []) rest
  ahead_more made x None = refl
  ahead_more made x (Some xs) = simp append_assoc

  pub ahead_start : (rest : Option (List X)) → ahead [] rest ≡ rest
  ahead_start None = refl
  ahead_start (Some xs) = refl

-- one more item was read
pub all_in_more : {X : Type 0} (one : Data → Option X) (made : List X) (vs : List Value) (i : ℕ) (d : Value) (x : X) → i < length vs
    → Some x ≡ one (view (get_or vs i d)) → ahead made (all_in one (items_view (drop i vs))) ≡ ahead (made ++ x ∷ []) (all_in one (items_view (drop (i + 1) vs)))
all_in_more one made vs i d x h is = rw (items_view-drop vs i d h, ← is) (ahead_more made x (all_in one (items_view (drop (i + 1) vs))))

-- an item has another form
pub all_in_stop : {X : Type 0} (one : Data → Option X) (made : List X) (vs : List Value) (i : ℕ) (d : Value) → i < length vs
    → None ≡ one (view (get_or vs i d)) → ahead made (all_in one (items_view (drop i vs))) ≡ None
all_in_stop one made vs i d h is = rw (items_view-drop vs i d h, ← is)

-- all were read
pub all_in_done : {X : Type 0} (one : Data → Option X) (made : List X) (vs : List Value) (i : ℕ) → length vs ≤ i
    → ahead made (all_in one (items_view (drop i vs))) ≡ Some made
all_in_done one made vs i h = rw (drop_all i vs h, append-nil made)

pub ruleset all_in_steps = (ahead_start, all_in_more, all_in_stop, all_in_done)

-- the same of texts
pub are_texts_more : (vs : List Value) (i : ℕ) (d : Value) → i < length vs
    → are_texts (items_view (drop i vs)) ≡ (is_some (as_str (view (get_or vs i d))) && are_texts (items_view (drop (i + 1) vs)))
are_texts_more vs i d h = rw (items_view-drop vs i d h)

pub are_texts_done : (vs : List Value) (i : ℕ) → length vs ≤ i → are_texts (items_view (drop i vs)) ≡ true
are_texts_done vs i h = rw (drop_all i vs h)

pub ruleset text_steps = (are_texts_more, are_texts_done)
