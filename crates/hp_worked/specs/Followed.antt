-- What voices say of a file's entries, and what is carried to the end of them; runs in which a processor says something else; and a run without its insert.
use Rattle.std.specs.Prelude.{Bool, List, [], ◌∷◌, ◌++◌, map, Option, Some, None}
use Rattle.hp_model.specs.declared.accesses.Access.TheVariants.{Load, Store, Out}
use Rattle.hp_model.specs.declared.entries.Actor.{Actor}
use Rattle.hp_model.specs.declared.entries.Entry.{Entry}
use Rattle.hp_model.specs.declared.files.File.{File}
use Rattle.hp_model.specs.Following.{Carried, carried_all, follows}
use Rattle.hp_model.specs.Schedule.{Scene, run_of, scene_start}
use Rattle.hp_model.specs.Voices.{Voice}
use Rattle.hp_worked.specs.Adds.{an_add}
use Rattle.hp_worked.specs.Asked.{own_voices}
use Rattle.hp_worked.specs.Ejects.{ejected_and_added_again}
use Rattle.hp_worked.specs.Entries.{does, reads, takes_smi, with_entry}
use Rattle.hp_worked.specs.Late.{selector_taken_away}
use Rattle.hp_worked.specs.Traces.{boot}

-- each place tells its voice
abbrev pub all_told : List Voice → List (Option Voice)
all_told vs = map (λ v. Some v) vs

abbrev pub carried_in : Scene → Carried
carried_in w = record { state = w.state; voices = all_told w.voices; last = w.last }

-- from the scene at the start, the entries follow the voices of a file; and what they leave
abbrev pub follows_voices : File → List Entry → Bool
follows_voices f es = follows f.platform (carried_in (scene_start f.platform (own_voices f))) es

abbrev pub carried_by : File → List Entry → Carried
carried_by f es = carried_all f.platform (carried_in (scene_start f.platform (own_voices f))) es

-- the same where processor 1 doesn't tell its voice, of two
abbrev pub follows_the_first : File → Voice → List Entry → Bool
follows_the_first f v es = follows f.platform (record (carried_in (scene_start f.platform (own_voices f))) { voices = Some v ∷ None ∷ [] }) es

-- the scene that a file's schedule leaves
abbrev pub scene_left : File → Scene
scene_left f = (run_of f (own_voices f)).scene

-- the actors of a file's host events, in the order of the file
abbrev pub hosts_of_file : File → List Actor
hosts_of_file f = map (λ h. h.actor) f.hosts

-- the pen stores another value
abbrev pub pen_stores_another : List Entry
pen_stores_another = with_entry 80 (does 1 (Store 0x9f010 1 0x2)) an_add

-- processor 1, ejected and added again, has its pen again
abbrev pub pen_after_its_eject : List Entry
pen_after_its_eject = with_entry 177 (does 1 (Store 0x9f010 1 0x1)) ejected_and_added_again

-- under late delivery a script's first step is another one
abbrev pub script_says_another : List Entry
script_says_another = with_entry 28 (reads 1 (Load 0 4) 0) selector_taken_away

-- processor 0 takes its SMI where processor 1 wasn't inserted
unfoldable pub insert_left_out : List Entry
insert_left_out = boot ++ (does 0 (Out 0xb2 1 0x4) ∷ takes_smi 0 ∷ [])
