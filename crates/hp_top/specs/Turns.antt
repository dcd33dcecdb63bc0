-- Parts of a scheduled run, and what is written of the whole.
use Rattle.std.specs.Prelude.{ℕ, ◌==◌, ◌≤◌, List, [], ◌∷◌, ◌++◌, length, replicate, map, filter, Option, Some, None, ◌+◌, if◌then◌else◌}
use Rattle.std.specs.Io.KnownBytes.{Appends}
use Rattle.hp_model.specs.declared.platforms.Platform.{Platform}
use Rattle.hp_model.specs.declared.entries.Actor.{Actor}
use Rattle.hp_model.specs.declared.entries.Entry.{Entry}
use Rattle.hp_model.specs.declared.entries.Actor.TheVariants.{Cpu}
use Rattle.hp_model.specs.declared.files.HostEvent.{HostEvent}
use Rattle.hp_model.specs.declared.files.Stall.{Stall}
use Rattle.hp_model.specs.declared.files.File.{File}
use Rattle.hp_model.specs.declared.files.VoiceKind.{VoiceKind}
use Rattle.hp_model.specs.declared.outcomes.BootFact.{BootFact}
use Rattle.hp_model.specs.declared.accesses.Answer.TheVariants.{Quiet}
use Rattle.hp_model.specs.Following.{Carried}
use Rattle.hp_model.specs.Schedule.{Scene, Made, booted, boot_fact, scheduled}
use Rattle.hp_model.specs.State.{start}
use Rattle.hp_model.specs.Voices.{Voice}
use Rattle.hp_model.specs.Text.{head_text, lines_text, end_text, trace_text}
use Rattle.hp_platform.specs.Carrying.{AgreesWith}
use Rattle.hp_top.specs.Sent.{HoldsFront}

-- by voices that agree with what is carried: their text was appended
pub record Writes (c : Carried) (text : Scene → List ℕ) (old new : Option (List ℕ)) : Type 0 where
  pub scene : Scene
  pub agrees : AgreesWith c scene
  pub appended : Appends old new (text scene)

-- or a front of it
pub record Cuts (c : Carried) (text : Scene → List ℕ) (old new : Option (List ℕ)) : Type 0 where
  pub scene : Scene
  pub agrees : AgreesWith c scene
  pub front : HoldsFront old new (text scene)

-- the lines of a part of the schedule
abbrev pub lines_of : (Scene → Made) → Scene → List ℕ
lines_of part scene = lines_text (part scene).entries

-- what is carried before the first step, by what the processors' agents tell
abbrev pub carried_start : Platform → List (Option Voice) → Carried
carried_start p told = record { state = start p; voices = told; last = map (λ o. Quiet) told }

-- the actors of the host events of a turn, in their order
abbrev pub at_turn : ℕ → List HostEvent → List Actor
at_turn turn hs = map (λ h. h.actor) (filter (λ h. h.turn == turn) hs)

-- of host events by turn, the actors of those at the front that are due at this one, and the events after them
abbrev pub due : ℕ → List HostEvent → List Actor
due turn [] = []
due turn (h ∷ hs) = if h.turn == turn then h.actor ∷ due turn hs else []

abbrev pub past : ℕ → List HostEvent → List HostEvent
past turn [] = []
past turn (h ∷ hs) = if h.turn == turn then past turn hs else h ∷ hs

-- what a list is sorted by
abbrev pub turn_of : HostEvent → ℕ
turn_of h = h.turn

abbrev pub start_of : Stall → ℕ
start_of s = s.from

-- none is before this turn, and they ascend
abbrev pub Rises : {X : Type 0} → (X → ℕ) → ℕ → List X → Type 0
Rises key n [] = Unit {0}
Rises key n (x ∷ xs) = (n ≤ key x) × Rises key (key x) xs

-- a file with other voices
abbrev pub with_voices : List VoiceKind → File → File
with_voices kinds f = record f { voices = kinds }

-- the whole trace of the run that a file's schedule makes of these voices
unfoldable pub run_text : File → List Voice → List ℕ
run_text f voices = trace_text f.platform (scheduled f voices)

-- the trace of a boot that was refused: the header, and the lines up to the access that read the value
unfoldable pub boot_text : File → List Voice → List ℕ
boot_text f voices = head_text f.platform ++ lines_text (booted f.platform voices).entries

-- what is written for a file, by the value that refused its boot, if one did
abbrev pub text_by : Option BootFact → File → List Voice → List ℕ
text_by None f voices = run_text f voices
text_by (Some fact) f voices = boot_text f voices

unfoldable pub output : File → List Voice → List ℕ
output f voices = text_by (boot_fact f.platform voices) f voices

-- the entries that it spells
abbrev pub entries_by : Option BootFact → File → List Voice → List Entry
entries_by None f voices = scheduled f voices
entries_by (Some fact) f voices = (booted f.platform voices).entries

unfoldable pub spelled : File → List Voice → List Entry
spelled f voices = entries_by (boot_fact f.platform voices) f voices

-- what follows the boot's lines: the lines of the turns, and the end line that counts all entries
abbrev pub turns_text : ℕ → Made → List ℕ
turns_text booted m = lines_text m.entries ++ end_text (booted + length m.entries)

-- so many turns of processor 0: those of the boot that are left
unfoldable pub boot_left : ℕ → List Actor
boot_left n = replicate n (Cpu 0)
