-- The kind of voice of each possible processor (own rules).
use Rattle.std.specs.Prelude.{ℕ, zero, suc, ◌==◌, List, [], ◌∷◌, ◌++◌, slice_set, Option, Some, None, if◌then◌else◌}
use Rattle.std.specs.List.{list_any}
use Rattle.hp_model.specs.declared.files.VoiceKind.{VoiceKind}
use Rattle.hp_model.specs.declared.files.VoiceKind.TheVariants.{Script, Pen}
use Rattle.hp_config.specs.declared.parts.AgentRow.{AgentRow}

-- without an agent: an empty script for a boot processor, else a pen
abbrev pub default_kind : List ℕ → ℕ → VoiceKind
default_kind boot place = if list_any (λ k. k == place) boot then Script [] else Pen

-- one for each place below this one
abbrev pub default_kinds : List ℕ → ℕ → List VoiceKind
default_kinds boot zero = []
default_kinds boot (suc place) = default_kinds boot place ++ default_kind boot place ∷ []

-- an agent's kind goes to its processor
abbrev pub put_kind : ℕ → Option VoiceKind → List VoiceKind → List VoiceKind
put_kind cpu None kinds = kinds
put_kind cpu (Some kind) kinds = slice_set kinds cpu kind

abbrev pub put_kinds : List AgentRow → List VoiceKind → List VoiceKind
put_kinds [] kinds = kinds
put_kinds (a ∷ agents) kinds = put_kind a.cpu a.kind (put_kinds agents kinds)

unfoldable pub kinds_of : List AgentRow → List ℕ → ℕ → List VoiceKind
kinds_of agents boot count = put_kinds agents (default_kinds boot count)
