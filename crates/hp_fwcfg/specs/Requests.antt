-- Requests for SMI features, as a table.
use Rattle.std.specs.Prelude.{ℕ, Bool, ◌==◌, [], ◌∷◌, bit_and}
use Rattle.std.specs.List.{list_any}

-- nothing, broadcast, hot-plug too, hot-unplug too: each only with what stands before it
abbrev pub is_chain : ℕ → Bool
is_chain request = list_any (λ r. request == r) (0 ∷ 1 ∷ 3 ∷ 7 ∷ [])

abbrev pub is_subset : ℕ → ℕ → Bool
is_subset request supported = bit_and request supported == request
