-- The last agent of a list, and the agents after the first.
use Rattle.std.proofs.Common.{◌≡◌, List, [], ◌∷◌, ◌++◌, refl, ap}
use Rattle.hp_model.specs.declared.files.VoiceKind.{VoiceKind}
use Rattle.hp_config.specs.declared.parts.AgentRow.{AgentRow}
use Rattle.hp_config.specs.Kinds.{put_kind, put_kinds}

pub put_kinds_last : (agents : List AgentRow) (a : AgentRow) (kinds : List VoiceKind)
    → put_kinds (agents ++ a ∷ []) kinds ≡ put_kinds agents (put_kind a.cpu a.kind kinds)
put_kinds_last [] a kinds = refl
put_kinds_last (x ∷ agents) a kinds = ap (put_kind x.cpu x.kind) (put_kinds_last agents a kinds)
