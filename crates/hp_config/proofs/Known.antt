-- The keys of a map are those of its members.
use Rattle.std.proofs.Common.{◌≡◌, ℕ, Bool, ◌&&◌, List, [], ◌∷◌, String, Global, string_bytes, refl, ap}
use Rattle.std.specs.List.{list_all}
use Rattle.std.specs.Map.{keys_of}
use Rattle.toml.specs.View.{members_view}
use Rattle.toml.specs.declared.value.Value.{Value}
use Rattle.hp_config.specs.Keys.{has_only}

pub only_known : (known : List ℕ → Bool) (es : List (String Global × Value)) → list_all (λ k. known (string_bytes k)) (keys_of es) ≡ has_only known (members_view es)
only_known known [] = refl
only_known known (e ∷ es) = ap (λ rest. known (string_bytes e.0) && rest) (only_known known es)
