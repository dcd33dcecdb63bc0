-- The schedule of `run` (own rules): whose turn it is, and what it does.
use Rattle.std.specs.Prelude.{ℕ, zero, suc, Bool, ◌&&◌, ◌==◌, nat_le, ◌+◌, ◌/◌, ◌%◌, List, [], ◌∷◌, ◌++◌, replicate, map, filter, Option, Some, None, slice_index_or, slice_set, if◌then◌else◌}
use Rattle.std.specs.List.{list_any}
use Rattle.hp_model.specs.declared.platforms.Platform.{Platform}
use Rattle.hp_model.specs.declared.accesses.Answer.{Answer}
use Rattle.hp_model.specs.declared.accesses.Answer.TheVariants.{Quiet}
use Rattle.hp_model.specs.declared.entries.Actor.{Actor}
use Rattle.hp_model.specs.declared.entries.Actor.TheVariants as actor
use Rattle.hp_model.specs.declared.entries.Event.{Event}
use Rattle.hp_model.specs.declared.entries.Event.TheVariants as event
use Rattle.hp_model.specs.declared.entries.Entry.{Entry}
use Rattle.hp_model.specs.declared.files.Stall.{Stall}
use Rattle.hp_model.specs.declared.files.File.{File}
use Rattle.hp_model.specs.declared.platforms.Delivery.{Delivery}
use Rattle.hp_model.specs.declared.platforms.Delivery.TheVariants.{Prompt, Late}
use Rattle.hp_model.specs.declared.turns.Due.{Due}
use Rattle.hp_model.specs.declared.turns.Due.TheVariants.{Idle, Makes, Asks}
use Rattle.hp_model.specs.Platform.{count_of}
use Rattle.hp_model.specs.Cpu.{page_of}
use Rattle.hp_model.specs.Voices.{Voice, Question, Said, silent, says}
use Rattle.hp_model.specs.declared.outcomes.BootFact.{BootFact}
use Rattle.hp_model.specs.Block.{ejected_by}
use Rattle.hp_model.specs.Boot.{fact_of, boot_count}
use Rattle.hp_model.specs.State.{State, at, start}
use Rattle.hp_model.specs.Access.{normal}
use Rattle.hp_model.specs.Step.{After, step}
use Rattle.hp_model.specs.Runs.{address_of}
use Rattle.hp_model.specs.Turn.{due_of}

-- the machine and the voices, between two steps
pub record Scene : Type 0 where
  pub state : State
  pub voices : List Voice
  pub last : List Answer  -- of each processor, the answer to the last access that its voice was asked for

abbrev pub voice_at : Scene → ℕ → Voice
voice_at w k = slice_index_or w.voices k silent

-- what the voice of a processor is asked, by the state and the last answers
abbrev pub question_in : State → ℕ → List Answer → Question
question_in s k last = record { cpu = k; page = page_of (at s k).mode; last = slice_index_or last k Quiet }

abbrev pub question : Scene → ℕ → Question
question w k = question_in w.state k w.last

abbrev pub said_by : Scene → ℕ → Said
said_by w k = says (voice_at w k) (question w k)

-- at the start of a run, by the voices of the processors
abbrev pub scene_start : Platform → List Voice → Scene
scene_start p voices = record { state = start p; voices = voices; last = map (λ v. Quiet) voices }

-- the entries that a part of the schedule makes, and the scene after it
pub record Made : Type 0 where
  pub entries : List Entry
  pub scene : Scene

abbrev pub makes_none : Scene → Made
makes_none w = record { entries = []; scene = w }

-- the voice of an ejected processor says halts alone
abbrev pub without_voice : Option ℕ → List Voice → List Voice
without_voice None vs = vs
without_voice (Some k) vs = slice_set vs k silent

abbrev pub entry_of : Scene → Event → After → Entry
entry_of w e after = record { event = e; at = address_of w.state e; answer = after.answer }

-- what an event makes, where the machine has it as a step, and else nothing: its entry, and with it the voices and the last answers that the turn left
abbrev pub made_by : Scene → Event → List Voice → (Answer → List Answer) → Option After → Made
made_by w e voices last None = makes_none w
made_by w e voices last (Some after) =
    record { entries = entry_of w e after ∷ []; scene = record { state = after.state; voices = without_voice (ejected_by w.state.block after.state.block) voices; last = last after.answer } }

-- what is due is made. A voice that was asked keeps the rest, and the answer to what it said is its last.
abbrev pub does : Platform → Scene → Due → Made
does p w Idle = makes_none w
does p w (Makes e) = made_by w e w.voices (λ answer. w.last) (step p w.state e)
does p w (Asks k) =
    let said = said_by w k in
    let e = event.Do k (normal said.access) in
    made_by w e (slice_set w.voices k said.voice) (slice_set w.last k) (step p w.state e)

unfoldable pub act : Platform → Scene → Actor → Made
act p w a = does p w (due_of p w.state a)

-- one part of the schedule and then another
abbrev pub both_make : Made → Made → Made
both_make m n = record { entries = m.entries ++ n.entries; scene = n.scene }

unfoldable pub act_all : Platform → Scene → List Actor → Made
act_all p w [] = makes_none w
act_all p w (a ∷ as') = both_make (act p w a) (act_all p (act p w a).scene as')

abbrev pub is_stalled : List Stall → ℕ → ℕ → Bool
is_stalled stalls k turn = list_any (λ s. (s.cpu == k) && (nat_le s.from turn && nat_le turn s.to)) stalls

-- the host's events of a turn, in the order of the file
abbrev pub hosts_of : File → ℕ → List Actor
hosts_of f turn = map (λ h. h.actor) (filter (λ h. h.turn == turn) f.hosts)

-- of a processor's own turns one in lag + 1 is its SMI's, where SMIs may come late, and all others are its own (own rule)
abbrev pub turn_actor : Delivery → ℕ → ℕ → Actor
turn_actor Prompt own k = actor.Cpu k
turn_actor (Late lag) own k = if own % (lag + 1) == lag then actor.Smi k else actor.Cpu k

-- and then one processor, round and round, unless a stall covers it
abbrev pub cpus_of : File → ℕ → List Actor
cpus_of f turn =
    let count = count_of f.platform in
    let k = turn % count in
    if is_stalled f.stalls k turn then [] else turn_actor f.platform.delivery (turn / count) k ∷ []

unfoldable pub actors_of : File → ℕ → List Actor
actors_of f turn = hosts_of f turn ++ cpus_of f turn

-- so many turns, from this one on
unfoldable pub turns_from : File → ℕ → ℕ → Scene → Made
turns_from f zero turn w = makes_none w
turns_from f (suc n) turn w =
    let made = act_all f.platform w (actors_of f turn) in both_make made (turns_from f n (turn + 1) made.scene)

-- the boot sequence comes first: 27 turns of processor 0, or 29
abbrev pub boot_turns : Platform → ℕ
boot_turns p = boot_count p.tseg_mib

unfoldable pub booted : Platform → List Voice → Made
booted p voices = act_all p (scene_start p voices) (replicate (boot_turns p) (actor.Cpu 0))

-- the value that refused the boot, if one did
unfoldable pub boot_fact : Platform → List Voice → Option BootFact
boot_fact p voices = fact_of (booted p voices).scene.state.stage

-- the boot, and turns 0 to the platform's number of turns, less one
abbrev pub run_of : File → List Voice → Made
run_of f voices = both_make (booted f.platform voices) (turns_from f f.platform.turns 0 (booted f.platform voices).scene)

-- the entries of `run`, by the voices of the processors
unfoldable pub scheduled : File → List Voice → List Entry
scheduled f voices = (run_of f voices).entries
