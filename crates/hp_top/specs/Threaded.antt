-- How the command `threads` ends.
use Rattle.std.specs.Prelude.{◌≡◌, ◌⊎◌, ◌≤◌, ◌<◌, ◌/◌, ℕ, true, false, List, ◌++◌, length, Option, Some, None, IsSome, Ok}
use Rattle.std.specs.Io.KnownBytes.{Appends, Keeps}
use Rattle.hp_model.specs.declared.entries.Actor.{Actor}
use Rattle.hp_model.specs.declared.entries.Entry.{Entry}
use Rattle.hp_model.specs.declared.files.File.{File}
use Rattle.hp_model.specs.declared.outcomes.BootFact.{BootFact}
use Rattle.hp_model.specs.declared.platforms.Platform.{Platform}
use Rattle.hp_model.specs.Boot.{is_handed}
use Rattle.hp_model.specs.Following.{Follows}
use Rattle.hp_model.specs.Hosting.{IsHosted}
use Rattle.hp_model.specs.Platform.{count_of}
use Rattle.hp_model.specs.Runs.{run}
use Rattle.hp_model.specs.Safety.{IsSafe}
use Rattle.hp_model.specs.Schedule.{booted, boot_fact}
use Rattle.hp_model.specs.Text.{trace_text}
use Rattle.hp_model.specs.Voices.{Voice, Agree, told_of}
use Rattle.hp_config.specs.Reading.{IsReadAs}
use Rattle.hp_config.specs.declared.faults.ConfigFault.TheVariants as fault
use Rattle.hp_threads.specs.Running.{host_actors}
use Rattle.hp_threads.specs.Shares.{share}
use Rattle.hp_threads.specs.Sharing.{HadNone, IsOfProcessor, owned_by}
use Rattle.hp_top.specs.declared.statuses.Status.{Status}
use Rattle.hp_top.specs.declared.statuses.Status.TheVariants.{Done, BadWords, ReadFault, TooLong, NotToml, Rule, BootRefused, WriteFault, TraceRefused, NoMemory}
use Rattle.hp_top.specs.Answers.{AreVoices, IsRefusedBoot, IsRefusedFile, IsWritten}
use Rattle.hp_top.specs.Commands.{are_threads}
use Rattle.hp_top.specs.Input.{limit, HasRead, HasReadPast, HasReadWithin}
use Rattle.hp_top.specs.Sent.{HoldsFront}
use Rattle.hp_top.specs.Turns.{boot_text, carried_start}

-- how many turns each processor has: those of the file, over the possible processors
abbrev pub turns_each : Platform → ℕ
turns_each p = p.turns / count_of p

-- The entries that threads make of a file whose processors' agents tell this. First come those of its boot, which hands the machine over. All of them
-- follow what is told. From the hand-over on they are hosted by all of the file's events, in the file's order, with some marks; and of each actor of a
-- processor they are at most its share of the processor's turns. Where they are fewer, that actor had no step after some first entries, the boot's
-- among them.
pub record IsThreaded (file : File) (told : List (Option Voice)) (es : List Entry) : Type 0 where
  pub voices : List Voice
  pub agree : Agree told voices
  pub boots : boot_fact file.platform voices ≡ None
  pub handed : is_handed (booted file.platform voices).scene.state.stage ≡ true
  pub added : List Entry
  pub entries : es ≡ (booted file.platform voices).entries ++ added
  pub follows : Follows file.platform (carried_start file.platform told) es
  pub marks : List ℕ
  pub hosted : IsHosted file.platform es (length (booted file.platform voices).entries) (host_actors file.hosts) marks
  pub most : (a : Actor) → IsOfProcessor file.platform a → owned_by file.platform a added ≤ share file.platform.delivery a (turns_each file.platform)
  pub fewer : (a : Actor) → IsOfProcessor file.platform a → owned_by file.platform a added < share file.platform.delivery a (turns_each file.platform) →
      HadNone file.platform es (length (booted file.platform voices).entries) a

-- the whole trace of such entries was appended
pub record IsThreadedTrace (file : File) (told : List (Option Voice)) (old new : Option (List ℕ)) : Type 0 where
  pub entries : List Entry
  pub is_run : IsSome (run file.platform entries)
  pub threaded : IsThreaded file told entries
  pub appended : Appends old new (trace_text file.platform entries)

-- or a front of it
pub record IsThreadedFront (file : File) (told : List (Option Voice)) (old new : Option (List ℕ)) : Type 0 where
  pub entries : List Entry
  pub is_run : IsSome (run file.platform entries)
  pub threaded : IsThreaded file told entries
  pub front : HoldsFront old new (trace_text file.platform entries)

-- or of a boot that is refused
pub record IsBootFront (file : File) (told : List (Option Voice)) (old new : Option (List ℕ)) : Type 0 where
  pub voices : List Voice
  pub agree : Agree told voices
  pub fact : BootFact
  pub refused : boot_fact file.platform voices ≡ Some fact
  pub front : HoldsFront old new (boot_text file voices)

-- nothing was written, as memory was wanting before, or a front
abbrev pub IsThreadedCut : File → List (Option Voice) → Option (List ℕ) → Option (List ℕ) → Type 0
IsThreadedCut file told old new = IsThreadedFront file told old new ⊎ IsBootFront file told old new

-- how the threads of a file end, by what its places tell
abbrev pub EndsThreaded : File → List (Option Voice) → Option (List ℕ) → Option (List ℕ) → Status → Type 0
EndsThreaded file told old new Done = IsThreadedTrace file told old new
EndsThreaded file told old new BadWords = ⊥
EndsThreaded file told old new ReadFault = ⊥
EndsThreaded file told old new TooLong = ⊥
EndsThreaded file told old new NotToml = ⊥
EndsThreaded file told old new (Rule rule) = ⊥
EndsThreaded file told old new (BootRefused fact) = IsWritten file told (Some fact) old new
EndsThreaded file told old new WriteFault = IsThreadedCut file told old new
EndsThreaded file told old new (TraceRefused line why) = ⊥
EndsThreaded file told old new NoMemory = Keeps old new ⊎ IsThreadedCut file told old new

-- The bytes are a file, and the whole trace of entries was appended that threads make of it: a run of the machine, and a safe one. Every instruction
-- executed in SMM lies in SMRAM locked before it, no two processors hold one relocated SMBASE, a processor's SMBASE changes only after passing the gate
-- while the monarch had named its APIC ID, and in each undisturbed session completed adds and ejects change exactly the processors reported, each
-- refusal naming its fact.
pub record IsWholeThreads (bytes : List ℕ) (handed : List (Option Voice)) (old new : Option (List ℕ)) : Type 0 where
  pub file : File
  pub read : IsReadAs bytes (Ok file)
  pub entries : List Entry
  pub is_run : IsSome (run file.platform entries)
  pub safe : IsSafe file.platform entries
  pub threaded : IsThreaded file (told_of file handed) entries
  pub appended : Appends old new (trace_text file.platform entries)

-- the bytes are a file, and a front of the trace of such entries was appended, of which each front is safe as above
pub record IsCutThreads (bytes : List ℕ) (handed : List (Option Voice)) (old new : Option (List ℕ)) : Type 0 where
  pub file : File
  pub read : IsReadAs bytes (Ok file)
  pub entries : List Entry
  pub is_run : IsSome (run file.platform entries)
  pub safe : (front rest : List Entry) → entries ≡ front ++ rest → IsSafe file.platform front
  pub threaded : IsThreaded file (told_of file handed) entries
  pub front : HoldsFront old new (trace_text file.platform entries)

-- the bytes are a file, of whose processors these are voices, and whose boot read a value that refuses it, and a front of the header and the boot's lines
-- was appended
pub record IsCutBoot (bytes : List ℕ) (handed : List (Option Voice)) (old new : Option (List ℕ)) : Type 0 where
  pub file : File
  pub read : IsReadAs bytes (Ok file)
  pub voices : List Voice
  pub are_voices : AreVoices file handed voices
  pub fact : BootFact
  pub refused : boot_fact file.platform voices ≡ Some fact
  pub front : HoldsFront old new (boot_text file voices)
  pub is_run : IsSome (run file.platform (booted file.platform voices).entries)
  pub safe : (front rest : List Entry) → (booted file.platform voices).entries ≡ front ++ rest → IsSafe file.platform front

-- how the call ends once these bytes were read, where agents were handed in that tell this
abbrev pub EndsThreadsRun : List ℕ → List (Option Voice) → Option (List ℕ) → Option (List ℕ) → Status → Type 0
EndsThreadsRun bytes handed old new Done = IsWholeThreads bytes handed old new
EndsThreadsRun bytes handed old new BadWords = ⊥
EndsThreadsRun bytes handed old new ReadFault = ⊥
EndsThreadsRun bytes handed old new TooLong = ⊥
EndsThreadsRun bytes handed old new NotToml = IsRefusedFile bytes old new fault.NotToml
EndsThreadsRun bytes handed old new (Rule rule) = IsRefusedFile bytes old new (fault.Rule rule)
EndsThreadsRun bytes handed old new (BootRefused fact) = IsRefusedBoot bytes handed fact old new
EndsThreadsRun bytes handed old new WriteFault = IsCutThreads bytes handed old new ⊎ IsCutBoot bytes handed old new
EndsThreadsRun bytes handed old new (TraceRefused line why) = ⊥
EndsThreadsRun bytes handed old new NoMemory = Keeps old new ⊎ (IsCutThreads bytes handed old new ⊎ IsCutBoot bytes handed old new)

-- the source was read to its end, and its bytes decide
pub record EndsAfterThreads (handed : List (Option Voice)) (left still old new : Option (List ℕ)) (status : Status) : Type 0 where
  pub bytes : List ℕ
  pub read : HasRead limit left still bytes
  pub ends : EndsThreadsRun bytes handed old new status

-- how `threads` ends, where agents were handed in that tell this
abbrev pub ServesThreads : List (Option Voice) → Option (List ℕ) → Option (List ℕ) → Option (List ℕ) → Option (List ℕ) → Status → Type 0
ServesThreads handed left still old new Done = EndsAfterThreads handed left still old new Done
ServesThreads handed left still old new BadWords = ⊥
ServesThreads handed left still old new ReadFault = HasReadWithin limit left still × Keeps old new
ServesThreads handed left still old new TooLong = HasReadPast limit left still × Keeps old new
ServesThreads handed left still old new NotToml = EndsAfterThreads handed left still old new NotToml
ServesThreads handed left still old new (Rule rule) = EndsAfterThreads handed left still old new (Rule rule)
ServesThreads handed left still old new (BootRefused fact) = EndsAfterThreads handed left still old new (BootRefused fact)
ServesThreads handed left still old new WriteFault = EndsAfterThreads handed left still old new WriteFault
ServesThreads handed left still old new (TraceRefused line why) = ⊥
ServesThreads handed left still old new NoMemory = Keeps old new ⊎ EndsAfterThreads handed left still old new NoMemory

-- `threads`: how its file's threads end. Other words: nothing is read, and nothing is written. `left` and `still` are what the source had left before and
-- after it, `old` and `new` what the sink held.
pub record EndsThreads (words : List (List ℕ)) (handed : List (Option Voice)) (left still old new : Option (List ℕ)) (status : Status) : Type 0 where
  pub threads : are_threads words ≡ true → ServesThreads handed left still old new status
  pub none : are_threads words ≡ false → Keeps left still × Keeps old new
