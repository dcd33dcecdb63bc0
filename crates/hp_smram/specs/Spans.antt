-- The locked ranges, each where it is locked.
use Rattle.std.specs.Prelude.{ℕ, Bool, false, ◌&&◌, ◌==◌, nat_lt, ◌-◌, ◌*◌, List, [], ◌∷◌, Option, Some, None, if◌then◌else◌}
use Rattle.hp_model.specs.declared.spans.Span.{Span}
use Rattle.hp_model.specs.Spans.{in_span}
use Rattle.hp_model.specs.View.{Locks, tseg_size}

-- the default area
abbrev pub default_span : Locks → Option Span
default_span l = if l.f_smbase == 2 then Some (record { from = 0x30000; to = 0x4ffff }) else None

-- TSEG; one of no size is no range
abbrev pub tseg_span : Locks → Option Span
tseg_span l =
    if nat_lt 0 (tseg_size l.ext_tseg l.esmramc) && (l.smram == 0x18)
    then Some (record { from = l.low_memory - tseg_size l.ext_tseg l.esmramc * 0x100000; to = l.low_memory - 1 })
    else None

abbrev pub locked_spans : Locks → List (Option Span)
locked_spans l = default_span l ∷ tseg_span l ∷ []

-- those that are there
abbrev pub spans_in : List (Option Span) → List Span
spans_in [] = []
spans_in (None ∷ ss) = spans_in ss
spans_in (Some s ∷ ss) = s ∷ spans_in ss

-- an address lies in the range, where that is there
abbrev pub is_in_some : Option Span → ℕ → Bool
is_in_some None x = false
is_in_some (Some s) x = in_span x s
