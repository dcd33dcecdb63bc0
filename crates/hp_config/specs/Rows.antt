-- The tables of the arrays of a platform file (own rules): host events, stalls and agents.
use Rattle.std.specs.Prelude.{ℕ, Bool, true, ◌&&◌, ◌||◌, List, codes, Option, Some, None, if◌then◌else◌, option_map, option_and_then}
use Rattle.std.specs.Option.{is_some}
use Rattle.std.specs.Str.{bytes_eq}
use Rattle.toml.specs.Data.{Data, Items, no_items, item, Members, get_member, as_str, as_array, as_table}
use Rattle.hp_model.specs.declared.entries.Actor.{Actor}
use Rattle.hp_model.specs.declared.entries.Actor.TheVariants.{Insert, Remove}
use Rattle.hp_model.specs.declared.accesses.Access.{Access}
use Rattle.hp_model.specs.declared.files.HostEvent.{HostEvent}
use Rattle.hp_model.specs.declared.files.Stall.{Stall}
use Rattle.hp_model.specs.declared.files.VoiceKind.{VoiceKind}
use Rattle.hp_model.specs.declared.files.VoiceKind.TheVariants.{Script, Os, Pen, Seeded, Handed}
use Rattle.hp_config.specs.declared.keys.Form.TheVariants as form
use Rattle.hp_config.specs.declared.parts.AgentRow.{AgentRow}
use Rattle.hp_config.specs.Tree.{given, u32_in, u32_at, text_at, all_in}
use Rattle.hp_config.specs.Script.{script_step}
use Rattle.hp_config.specs.Keys.{knows, has_only}

-- a table, read as one of these
abbrev pub in_table : {X : Type 0} → (Members → Option X) → Data → Option X
in_table read d = option_and_then read (as_table d)

-- exactly one of `insert` and `remove`
abbrev pub actor_of : Option Data → Option Data → Option Actor
actor_of (Some d) None = option_map Insert (u32_in d)
actor_of None (Some d) = option_map Remove (u32_in d)
actor_of None None = None
actor_of (Some d) (Some e) = None

-- `[[host]]`: at this turn this event
unfoldable pub host_of : Members → Option HostEvent
host_of ms =
    if has_only (knows form.Host) ms then
    given (u32_at (codes "turn") ms) (λ turn.
    given (actor_of (get_member (codes "insert") ms) (get_member (codes "remove") ms)) (λ actor.
    Some (record { turn = turn; actor = actor })))
    else None

-- `[[stall]]`: this processor, from this turn to that one
unfoldable pub stall_of : Members → Option Stall
stall_of ms =
    if has_only (knows form.Stall) ms then
    given (u32_at (codes "cpu") ms) (λ cpu.
    given (u32_at (codes "from") ms) (λ from.
    given (u32_at (codes "to") ms) (λ to.
    Some (record { cpu = cpu; from = from; to = to }))))
    else None

-- each item is a text
abbrev pub are_texts : Items → Bool
are_texts no_items = true
are_texts (item d ds) = is_some (as_str d) && are_texts ds

-- a text that is a script step
abbrev pub step_in : Data → Option Access
step_in d = option_and_then script_step (as_str d)

-- the kind of an agent; None inside where a step of its script isn't in the grammar
abbrev pub script_in : Items → Option (Option VoiceKind)
script_in ds = if are_texts ds then Some (option_map Script (all_in step_in ds)) else None

abbrev pub script_kind : Option Data → Option (Option VoiceKind)
script_kind steps = option_and_then script_in (option_and_then as_array steps)

abbrev pub seeded_kind : Option Data → Option (Option VoiceKind)
seeded_kind seed = option_map (λ n. Some (Seeded n)) (option_and_then u32_in seed)

abbrev pub plain_kind : List ℕ → Option (Option VoiceKind)
plain_kind name =
    if bytes_eq name (codes "os") then Some (Some Os)
    else if bytes_eq name (codes "pen") then Some (Some Pen)
    else if bytes_eq name (codes "handed") then Some (Some Handed)
    else None

-- `steps` goes with `script` alone, and `seed` with `seeded` alone
unfoldable pub kind_named : List ℕ → Option Data → Option Data → Option (Option VoiceKind)
kind_named name steps seed =
    if bytes_eq name (codes "script") then (if is_some seed then None else script_kind steps)
    else if bytes_eq name (codes "seeded") then (if is_some steps then None else seeded_kind seed)
    else if is_some steps || is_some seed then None
    else plain_kind name

unfoldable pub kind_of : Members → Option (Option VoiceKind)
kind_of ms =
    given (text_at (codes "kind") ms) (λ name.
    kind_named name (get_member (codes "steps") ms) (get_member (codes "seed") ms))

-- `[[agent]]`: this processor's kind
unfoldable pub agent_of : Members → Option AgentRow
agent_of ms =
    if has_only (knows form.Agent) ms then
    given (u32_at (codes "cpu") ms) (λ cpu.
    given (kind_of ms) (λ kind.
    Some (record { cpu = cpu; kind = kind })))
    else None
