-- Ranges of addresses, both ends included.
use Rattle.std.specs.Prelude.{ℕ, Bool, ◌&&◌, nat_le, List}
use Rattle.std.specs.List.{list_any}
use Rattle.hp_model.specs.declared.spans.Span.{Span}

abbrev pub in_span : ℕ → Span → Bool
in_span x s = nat_le s.from x && nat_le x s.to

abbrev pub in_some_span : List Span → ℕ → Bool
in_some_span spans x = list_any (in_span x) spans
