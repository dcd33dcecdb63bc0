-- What the command `gen` makes of its number.
use Rattle.std.specs.Prelude.{◌≡◌, ℕ, List, [], Option}
use Rattle.std.specs.Io.KnownBytes.{Appends, Keeps}
use Rattle.hp_model.specs.declared.entries.Entry.{Entry}
use Rattle.hp_model.specs.declared.files.File.{File}
use Rattle.hp_model.specs.Schedule.{scheduled}
use Rattle.hp_model.specs.Voices.{Voice, Agree, voices_of}
use Rattle.hp_config.specs.Generated.{generated_file}
use Rattle.hp_trace.specs.declared.summaries.Summary.{Summary}
use Rattle.hp_trace.specs.Summary.{summary, summary_text}
use Rattle.hp_top.specs.declared.statuses.Status.{Status}
use Rattle.hp_top.specs.declared.statuses.Status.TheVariants.{Done, BadWords, ReadFault, TooLong, NotToml, Rule, BootRefused, WriteFault, TraceRefused, NoMemory}
use Rattle.hp_top.specs.Sent.{HoldsFront}

-- by voices that agree with what is told it is the summary of the file's run
pub record IsSummed (file : File) (told : List (Option Voice)) (s : Summary) : Type 0 where
  pub voices : List Voice
  pub agree : Agree told voices
  pub is : s ≡ summary (scheduled file voices)

-- the run of the file that a number makes: each of its processors has a voice that is told
abbrev pub generated_run : ℕ → List Entry
generated_run n = scheduled (generated_file n) (voices_of (generated_file n) [])

-- its line
abbrev pub gen_text : ℕ → List ℕ
gen_text n = summary_text n (summary (generated_run n))

-- what was written: the line, or a front of it
abbrev pub WritesGen : ℕ → Option (List ℕ) → Option (List ℕ) → Status → Type 0
WritesGen n old new Done = Appends old new (gen_text n)
WritesGen n old new BadWords = ⊥
WritesGen n old new ReadFault = ⊥
WritesGen n old new TooLong = ⊥
WritesGen n old new NotToml = ⊥
WritesGen n old new (Rule rule) = ⊥
WritesGen n old new (BootRefused fact) = ⊥
WritesGen n old new WriteFault = HoldsFront old new (gen_text n)
WritesGen n old new (TraceRefused line why) = ⊥
WritesGen n old new NoMemory = HoldsFront old new (gen_text n)

-- how the call ends; it reads nothing
pub record EndsGen (n : ℕ) (left still old new : Option (List ℕ)) (status : Status) : Type 0 where
  pub kept : Keeps left still
  pub writes : WritesGen n old new status
