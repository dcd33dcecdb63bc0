-- What each answer of the top call says of what was read and of what was written.
use Rattle.std.specs.Prelude.{◌≡◌, ◌⊎◌, ℕ, true, List, ◌++◌, length, map, ◌≤◌, Option, Some, None, IsSome, Ok, Err}
use Rattle.std.specs.Io.KnownBytes.{Appends, Keeps}
use Rattle.hp_model.specs.declared.entries.Entry.{Entry}
use Rattle.hp_model.specs.declared.files.File.{File}
use Rattle.hp_config.specs.declared.faults.ConfigFault.TheVariants as fault
use Rattle.hp_config.specs.Reading.{IsReadAs}
use Rattle.hp_model.specs.Runs.{run}
use Rattle.hp_model.specs.Safety.{IsSafe}
use Rattle.hp_model.specs.Schedule.{booted, boot_fact, scheduled}
use Rattle.hp_model.specs.Voices.{Voice, Agree, told_of, voices_of}
use Rattle.hp_model.specs.declared.outcomes.BootFact.{BootFact}
use Rattle.hp_boot.specs.Ending.{StopsAt, hands_over}
use Rattle.hp_top.specs.declared.statuses.Status.{Status}
use Rattle.hp_top.specs.declared.statuses.Status.TheVariants.{Done, BadWords, ReadFault, TooLong, NotToml, Rule, BootRefused, WriteFault, TraceRefused, NoMemory}
use Rattle.hp_top.specs.Input.{limit, HasRead, HasReadPast, HasReadWithin}
use Rattle.hp_top.specs.Sent.{HoldsFront}
use Rattle.hp_top.specs.Turns.{run_text, boot_text, text_by, output, spelled}

-- by voices that agree with what is told all was written: the boot read this value that refuses it, or none
pub record IsWritten (file : File) (told : List (Option Voice)) (value : Option BootFact) (old new : Option (List ℕ)) : Type 0 where
  pub voices : List Voice
  pub agree : Agree told voices
  pub fact : boot_fact file.platform voices ≡ value
  pub appended : Appends old new (text_by value file voices)

-- or a front of it
pub record IsCut (file : File) (told : List (Option Voice)) (old new : Option (List ℕ)) : Type 0 where
  pub voices : List Voice
  pub agree : Agree told voices
  pub front : HoldsFront old new (output file voices)

-- how the run of a file ends, by what its places tell
abbrev pub EndsFile : File → List (Option Voice) → Option (List ℕ) → Option (List ℕ) → Status → Type 0
EndsFile file told old new Done = IsWritten file told None old new
EndsFile file told old new BadWords = ⊥
EndsFile file told old new ReadFault = ⊥
EndsFile file told old new TooLong = ⊥
EndsFile file told old new NotToml = ⊥
EndsFile file told old new (Rule rule) = ⊥
EndsFile file told old new (BootRefused fact) = IsWritten file told (Some fact) old new
EndsFile file told old new WriteFault = IsCut file told old new
EndsFile file told old new (TraceRefused line why) = ⊥
EndsFile file told old new NoMemory = IsCut file told old new

-- The voices of a file's processors, where agents were handed in that tell this. Each agrees with what is told, and a processor whose agent tells
-- none has some script. Where all agents tell their voices, these are the file's with them, and no others.
pub record AreVoices (file : File) (handed : List (Option Voice)) (voices : List Voice) : Type 0 where
  pub agree : Agree (told_of file handed) voices
  pub exact : (all : List Voice) → handed ≡ map (λ v. Some v) all → voices ≡ voices_of file all

-- The bytes are a file, of whose processors these are voices. Its boot was handed over, and the whole trace of its run by these voices was appended,
-- whose entries are a run of the machine, and a safe one: every instruction executed in SMM lies in SMRAM locked before it, no two processors hold one relocated SMBASE, a processor's SMBASE
-- changes only after passing the gate while the monarch had named its APIC ID, and in each undisturbed session completed adds and ejects change
-- exactly the processors reported, each refusal naming its fact.
pub record IsWholeRun (bytes : List ℕ) (handed : List (Option Voice)) (old new : Option (List ℕ)) : Type 0 where
  pub file : File
  pub read : IsReadAs bytes (Ok file)
  pub voices : List Voice
  pub are_voices : AreVoices file handed voices
  pub boots : boot_fact file.platform voices ≡ None
  pub appended : Appends old new (run_text file voices)
  pub is_run : IsSome (run file.platform (scheduled file voices))
  pub safe : IsSafe file.platform (scheduled file voices)

-- the bytes are a file, of whose processors these are voices, and whose boot read this value that refuses it, and the header and the boot's lines were
-- appended: the last of them is the access that read the value
pub record IsRefusedBoot (bytes : List ℕ) (handed : List (Option Voice)) (fact : BootFact) (old new : Option (List ℕ)) : Type 0 where
  pub file : File
  pub read : IsReadAs bytes (Ok file)
  pub voices : List Voice
  pub are_voices : AreVoices file handed voices
  pub refused : boot_fact file.platform voices ≡ Some fact
  pub appended : Appends old new (boot_text file voices)
  pub stops : StopsAt fact (booted file.platform voices).entries
  pub is_run : IsSome (run file.platform (booted file.platform voices).entries)
  pub safe : IsSafe file.platform (booted file.platform voices).entries

-- the bytes are a file, of whose processors these are voices, and a front of what is written for them was appended: of the text that spells a run, of
-- which each front is safe as above
pub record IsCutRun (bytes : List ℕ) (handed : List (Option Voice)) (old new : Option (List ℕ)) : Type 0 where
  pub file : File
  pub read : IsReadAs bytes (Ok file)
  pub voices : List Voice
  pub are_voices : AreVoices file handed voices
  pub front : HoldsFront old new (output file voices)
  pub is_run : IsSome (run file.platform (spelled file voices))
  pub safe : (front rest : List Entry) → spelled file voices ≡ front ++ rest → IsSafe file.platform front

-- the bytes are no file for this cause, and nothing was written
pub record IsRefusedFile (bytes : List ℕ) (old new : Option (List ℕ)) (fault : fault.the_data) : Type 0 where
  pub cause : IsReadAs bytes (Err fault)
  pub kept : Keeps old new

-- how the call ends once these bytes were read, where agents were handed in that tell this
abbrev pub EndsRun : List ℕ → List (Option Voice) → Option (List ℕ) → Option (List ℕ) → Status → Type 0
EndsRun bytes handed old new Done = IsWholeRun bytes handed old new
EndsRun bytes handed old new BadWords = ⊥
EndsRun bytes handed old new ReadFault = ⊥
EndsRun bytes handed old new TooLong = ⊥
EndsRun bytes handed old new NotToml = IsRefusedFile bytes old new fault.NotToml
EndsRun bytes handed old new (Rule rule) = IsRefusedFile bytes old new (fault.Rule rule)
EndsRun bytes handed old new (BootRefused fact) = IsRefusedBoot bytes handed fact old new
EndsRun bytes handed old new WriteFault = IsCutRun bytes handed old new
EndsRun bytes handed old new (TraceRefused line why) = ⊥
EndsRun bytes handed old new NoMemory = Keeps old new ⊎ IsCutRun bytes handed old new

-- the source was read to its end, and its bytes decide
pub record EndsAfterReading (handed : List (Option Voice)) (left still old new : Option (List ℕ)) (status : Status) : Type 0 where
  pub bytes : List ℕ
  pub read : HasRead limit left still bytes
  pub ends : EndsRun bytes handed old new status

-- how `run` ends, where agents were handed in that tell this: `left` and `still` are what the source had left before and after it, `old` and `new`
-- what the sink held
abbrev pub Ends : List (Option Voice) → Option (List ℕ) → Option (List ℕ) → Option (List ℕ) → Option (List ℕ) → Status → Type 0
Ends handed left still old new Done = EndsAfterReading handed left still old new Done
Ends handed left still old new BadWords = ⊥
Ends handed left still old new ReadFault = HasReadWithin limit left still × Keeps old new
Ends handed left still old new TooLong = HasReadPast limit left still × Keeps old new
Ends handed left still old new NotToml = EndsAfterReading handed left still old new NotToml
Ends handed left still old new (Rule rule) = EndsAfterReading handed left still old new (Rule rule)
Ends handed left still old new (BootRefused fact) = EndsAfterReading handed left still old new (BootRefused fact)
Ends handed left still old new WriteFault = EndsAfterReading handed left still old new WriteFault
Ends handed left still old new (TraceRefused line why) = ⊥
Ends handed left still old new NoMemory = Keeps old new ⊎ EndsAfterReading handed left still old new NoMemory

-- all was written, or memory ran out
abbrev pub IsDoneOrNoMemory : Status → Type 0
IsDoneOrNoMemory Done = Unit {0}
IsDoneOrNoMemory BadWords = ⊥
IsDoneOrNoMemory ReadFault = ⊥
IsDoneOrNoMemory TooLong = ⊥
IsDoneOrNoMemory NotToml = ⊥
IsDoneOrNoMemory (Rule rule) = ⊥
IsDoneOrNoMemory (BootRefused fact) = ⊥
IsDoneOrNoMemory WriteFault = ⊥
IsDoneOrNoMemory (TraceRefused line why) = ⊥
IsDoneOrNoMemory NoMemory = Unit {0}

-- a source that had just these bytes left, which are no more than the limit and a file whose machine is handed over
pub record HoldsFile (left : Option (List ℕ)) : Type 0 where
  pub bytes : List ℕ
  pub known : left ≡ Some bytes
  pub within : length bytes ≤ limit
  pub file : File
  pub read : IsReadAs bytes (Ok file)
  pub boots : hands_over file.platform ≡ true
