-- The same bytes in two memories, but for hidden addresses.
use Rattle.std.specs.Prelude.{◌≡◌, ℕ, false, ◌+◌, ◌<◌, ◌≤◌, List}
use Rattle.hp_model.specs.declared.spans.Span.{Span}
use Rattle.hp_model.specs.Spans.{in_some_span}

abbrev pub SameAt : (ℕ → ℕ) → (ℕ → ℕ) → List Span → ℕ → Type 0
SameAt f g hidden x = in_some_span hidden x ≡ false → f x ≡ g x

-- the same bytes outside the spans
pub record SameOutside (f g : ℕ → ℕ) (hidden : List Span) : Type 0 where
  pub each : (x : ℕ) → in_some_span hidden x ≡ false → f x ≡ g x

-- the same at so many addresses from the first one on
pub record SameFrom (f g : ℕ → ℕ) (hidden : List Span) (first count : ℕ) : Type 0 where
  pub each : (x : ℕ) → first ≤ x → x < first + count → in_some_span hidden x ≡ false → f x ≡ g x
