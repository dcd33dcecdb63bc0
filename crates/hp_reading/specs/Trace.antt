-- A whole trace, cut into its lines (own rules).
use Rattle.std.specs.Prelude.{◌≡◌, ℕ, true, ◌==◌, ◌+◌, ◌<◌, ◌^◌, List, [], ◌∷◌, length, Option, Some, None, if◌then◌else◌, option_map, option_and_then}
use Rattle.std.specs.List.{list_all}
use Rattle.hp_model.specs.declared.platforms.Platform.{Platform}
use Rattle.hp_model.specs.declared.entries.Entry.{Entry}
use Rattle.hp_model.specs.Platform.{IsFit}
use Rattle.hp_model.specs.Text.{trace_text}
use Rattle.hp_reading.specs.Lines.{entry_of, end_of}
use Rattle.hp_reading.specs.Header.{head_of}
use Rattle.hp_reading.specs.Written.{is_well_formed}

-- the lines of a text, each of which a line feed ends, and what follows the last of them
pub record Cut : Type 0 where
  pub lines : List (List ℕ)
  pub rest : List ℕ

-- a byte before the first line
abbrev pub onto : ℕ → List (List ℕ) → List ℕ → Cut
onto c [] rest = record { lines = []; rest = c ∷ rest }
onto c (l ∷ ls) rest = record { lines = (c ∷ l) ∷ ls; rest = rest }

abbrev pub with_byte : ℕ → Cut → Cut
with_byte c cut = if c == 10 then record { lines = [] ∷ cut.lines; rest = cut.rest } else onto c cut.lines cut.rest

unfoldable pub cut : List ℕ → Cut
cut [] = record { lines = []; rest = [] }
cut (c ∷ text) = with_byte c (cut text)

-- the end line counts the entries, and nothing follows it
abbrev pub ended : ℕ → List (List ℕ) → Option ℕ → Option (List Entry)
ended n ls None = None
ended n [] (Some entries) = if entries == n then Some [] else None
ended n (l ∷ ls) (Some entries) = None

abbrev pub by_entry : Option Entry → (Entry → Option (List Entry)) → Option (List Entry) → Option (List Entry)
by_entry None here other = other
by_entry (Some e) here other = here e

-- the entries of the lines behind a header, of which so many were read before
unfoldable pub entries_of : ℕ → List (List ℕ) → Option (List Entry)
entries_of n [] = None
entries_of n (l ∷ ls) = by_entry (entry_of l) (λ e. option_map (λ es. e ∷ es) (entries_of (n + 1) ls)) (ended n ls (end_of l))

-- a platform and a list of entries
pub record TraceContent : Type 0 where
  pub platform : Platform
  pub entries : List Entry

abbrev pub content_by : List (List ℕ) → List ℕ → Option TraceContent
content_by [] rest = None
content_by (head ∷ ls) [] = option_and_then (λ p. option_map (λ es. record { platform = p; entries = es }) (entries_of 0 ls)) (head_of head)
content_by (head ∷ ls) (c ∷ rest) = None

-- what a whole text tells, None where it isn't in the grammar
unfoldable pub trace_of : List ℕ → Option TraceContent
trace_of text = content_by (cut text).lines (cut text).rest

-- the text is the trace of a platform that fits and of entries that lines can say
pub record IsTrace (text : List ℕ) (t : TraceContent) : Type 0 where
  pub fit : IsFit t.platform
  pub well_formed : list_all is_well_formed t.entries ≡ true
  pub few : length t.entries < 2 ^ 64
  pub spelled : text ≡ trace_text t.platform t.entries
