-- What is asked of a trace: whether it is a run, where it stops being one, and what holds on its way.
use Rattle.std.specs.Prelude.{ℕ, ◌+◌, Bool, true, false, not, ◌&&◌, ◌==◌, List, [], ◌∷◌, take, drop, Option, Some, None, option_map}
use Rattle.std.specs.List.{list_any}
use Rattle.std.specs.Option.{is_some}
use Rattle.hp_model.specs.declared.platforms.Platform.{Platform}
use Rattle.hp_model.specs.declared.entries.Entry.{Entry}
use Rattle.hp_model.specs.declared.files.File.{File}
use Rattle.hp_model.specs.View.{is_locked}
use Rattle.hp_model.specs.Boot.{Handed}
use Rattle.hp_model.specs.State.{State, at, start}
use Rattle.hp_model.specs.Access.{stands_in_smm}
use Rattle.hp_model.specs.Platform.{count_of}
use Rattle.hp_model.specs.Runs.{run, run_from, run_on}
use Rattle.hp_model.specs.declared.outcomes.BootFact.{BootFact}
use Rattle.hp_model.specs.Schedule.{Scene, boot_fact, boot_turns, scene_start, scheduled, turns_from}
use Rattle.hp_model.specs.Voices.{Voice, voices_of}
use Rattle.hp_model.specs.Memory.{touched}
use Rattle.hp_model.specs.Safety.{is_astray}
use Rattle.hp_model.specs.Transitions.{places}

-- the voices of a file where no agent is handed in, the entries that its schedule makes then, and the value that refuses its boot
abbrev pub own_voices : File → List Voice
own_voices f = voices_of f []

abbrev pub own_run : File → List Entry
own_run f = scheduled f (own_voices f)

abbrev pub own_fact : File → Option BootFact
own_fact f = boot_fact f.platform (own_voices f)

-- the entries are a run of the file's platform
abbrev pub is_run : File → List Entry → Bool
is_run f es = is_some (run f.platform es)

-- the state after an entry, put to the rest: n where the entry is no step
abbrev pub stop_or : ℕ → (State → Option ℕ) → Option State → Option ℕ
stop_or n rest None = Some n
stop_or n rest (Some s) = rest s

-- the first of the entries that is no step, where the first has number n; none where all are steps
unfoldable pub first_stop : Platform → ℕ → List Entry → State → Option ℕ
first_stop p n [] s = None
first_stop p n (e ∷ es) s = stop_or n (first_stop p (n + 1) es) (run_on p s e)

-- the entry, counted from 0, where a trace stops being a run of the file's platform
abbrev pub stops_at : File → List Entry → Option ℕ
stops_at f es = first_stop f.platform 0 es (start f.platform)

-- the scene at the start, as if the firmware had handed over before the first access of the boot
abbrev pub scene_alone : File → Scene
scene_alone f = record (scene_start f.platform (own_voices f)) { state = record (start f.platform) { stage = Handed 0 } }

-- the entries are steps of this machine alone
abbrev pub is_run_alone : File → List Entry → Bool
is_run_alone f es = is_some (run_from f.platform (scene_alone f).state es)

-- the entries that the file's schedule makes of it
abbrev pub scheduled_alone : File → List Entry
scheduled_alone f = (turns_from f f.platform.turns 0 (scene_alone f)).entries

-- what a state, if there is one, is judged
abbrev pub judged : (State → Bool) → Option State → Bool
judged judge None = false
judged judge (Some s) = judge s

-- each state on the way is judged, with the instruction address of the entry made in it, if it has one
unfoldable pub all_the_way : Platform → (State → Option ℕ → Bool) → List Entry → State → Bool
all_the_way p judge [] s = judge s None
all_the_way p judge (e ∷ es) s = judge s e.at && judged (all_the_way p judge es) (run_on p s e)

-- the processor is astray in none of the states
abbrev pub is_never_astray : File → ℕ → List Entry → Bool
is_never_astray f k es = all_the_way f.platform (λ s address. not (is_astray f.platform s k)) es (start f.platform)

-- and none of these is
abbrev pub is_nobody_astray : File → List ℕ → List Entry → Bool
is_nobody_astray f ks es = all_the_way f.platform (λ s address. not (list_any (is_astray f.platform s) ks)) es (start f.platform)

-- and no processor of the platform is
abbrev pub is_none_astray : File → List Entry → Bool
is_none_astray f es = is_nobody_astray f (places (count_of f.platform)) es

-- whether the processor is in SMM after the entries, and whether it is astray
abbrev pub in_smm_after : File → ℕ → List Entry → Option Bool
in_smm_after f k es = option_map (λ s. stands_in_smm (at s k)) (run f.platform es)

abbrev pub astray_after : File → ℕ → List Entry → Option Bool
astray_after f k es = option_map (λ s. is_astray f.platform s k) (run f.platform es)

-- the four bytes of an instruction, where there is one
abbrev pub four_bytes : (ℕ → Bool) → Option ℕ → Bool
four_bytes judge None = true
four_bytes judge (Some a) = judge a && (judge (a + 1) && (judge (a + 2) && judge (a + 3)))

-- each entry made in SMM finds the four bytes at its instruction address locked
abbrev pub is_locked_at_each : File → List Entry → Bool
is_locked_at_each f es = all_the_way f.platform (λ s address. four_bytes (is_locked s.locks) address) es (start f.platform)

-- and no write has covered one of them since the state t
abbrev pub is_untouched_from : Platform → List Entry → State → Bool
is_untouched_from p es t = all_the_way p (λ s address. four_bytes (λ x. touched s.writes x == touched t.writes x) address) es t

-- since the boot, which has locked them
abbrev pub is_untouched_at_each : File → List Entry → Bool
is_untouched_at_each f es =
    judged (is_untouched_from f.platform (drop (boot_turns f.platform) es)) (run f.platform (take (boot_turns f.platform) es))

-- whether the processor is astray after these steps of the machine alone
abbrev pub astray_alone_after : File → ℕ → List Entry → Option Bool
astray_alone_after f k es = option_map (λ s. is_astray f.platform s k) (run_from f.platform (scene_alone f).state es)
