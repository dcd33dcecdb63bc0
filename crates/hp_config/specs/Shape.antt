-- The shape of a platform file, which is its rule 1 (own rules): only these tables and keys, each of its type, each required one there.
use Rattle.std.specs.Prelude.{ℕ, true, false, List, codes, Option, Some, None, if◌then◌else◌, option_map, option_and_then}
use Rattle.std.specs.Option.{is_some, unwrap_or}
use Rattle.std.specs.Str.{bytes_eq}
use Rattle.toml.specs.Data.{Data, Members, get_member, as_str}
use Rattle.hp_model.specs.declared.platforms.Delivery.{Delivery}
use Rattle.hp_model.specs.declared.platforms.Delivery.TheVariants.{Prompt, Late}
use Rattle.hp_config.specs.declared.keys.Form.TheVariants as form
use Rattle.hp_config.specs.declared.parts.Sizes.{Sizes}
use Rattle.hp_config.specs.declared.parts.Switches.{Switches}
use Rattle.hp_config.specs.declared.parts.Machine.{Machine}
use Rattle.hp_config.specs.declared.parts.Parts.{Parts}
use Rattle.hp_config.specs.Tree.{given, u32_in, u32_at, truth_at, numbers_at, rows_in}
use Rattle.hp_config.specs.Keys.{knows, has_only}
use Rattle.hp_config.specs.Rows.{in_table, host_of, stall_of, agent_of}

-- the numbers of `[platform]`
unfoldable pub sizes_of : Members → Option Sizes
sizes_of ms =
    given (u32_at (codes "low_memory") ms) (λ low_memory.
    given (u32_at (codes "tseg_mib") ms) (λ tseg_mib.
    given (u32_at (codes "features") ms) (λ features.
    given (u32_at (codes "polls") ms) (λ polls.
    given (u32_at (codes "turns") ms) (λ turns.
    Some (record { low_memory = low_memory; tseg_mib = tseg_mib; features = features; polls = polls; turns = turns }))))))

-- late delivery has its `lag`
abbrev pub late_with : Option Data → Option (Option Delivery)
late_with lag = option_map (λ n. Some (Late n)) (option_and_then u32_in lag)

-- any other goes without it; None inside where the name is none of a delivery
abbrev pub delivery_without_lag : List ℕ → Option Delivery
delivery_without_lag name = if bytes_eq name (codes "prompt") then Some Prompt else None

unfoldable pub delivery_named : List ℕ → Option Data → Option (Option Delivery)
delivery_named name lag =
    if bytes_eq name (codes "late") then late_with lag
    else if is_some lag then None
    else Some (delivery_without_lag name)

-- `delivery` is prompt if absent
abbrev pub delivery_in : Option Data → Option Data → Option (Option Delivery)
delivery_in None lag = delivery_named (codes "prompt") lag
delivery_in (Some d) lag = option_and_then (λ name. delivery_named name lag) (as_str d)

unfoldable pub switches_of : Members → Option Switches
switches_of ms =
    given (truth_at true (codes "modern") ms) (λ modern.
    given (truth_at true (codes "default_smram") ms) (λ default_smram.
    given (truth_at false (codes "x2apic") ms) (λ x2apic.
    given (truth_at true (codes "ext_tseg") ms) (λ ext_tseg.
    given (delivery_in (get_member (codes "delivery") ms) (get_member (codes "lag") ms)) (λ delivery.
    Some (record { modern = modern; default_smram = default_smram; x2apic = x2apic; ext_tseg = ext_tseg; delivery = delivery }))))))

abbrev pub machine_from : List ℕ → List ℕ → Sizes → Switches → Machine
machine_from apic boot sizes switches = record {
  platform = record {
    apic = apic;
    boot = boot;
    low_memory = sizes.low_memory;
    tseg_mib = sizes.tseg_mib;
    features = sizes.features;
    polls = sizes.polls;
    turns = sizes.turns;
    modern = switches.modern;
    default_smram = switches.default_smram;
    delivery = unwrap_or switches.delivery Prompt;
    x2apic = switches.x2apic;
    ext_tseg = switches.ext_tseg;
  };
  names_delivery = is_some switches.delivery;
}

-- `[platform]`
unfoldable pub machine_of : Members → Option Machine
machine_of ms =
    if has_only (knows form.Platform) ms then
    given (numbers_at (codes "apic") ms) (λ apic.
    given (numbers_at (codes "boot") ms) (λ boot.
    given (sizes_of ms) (λ sizes.
    given (switches_of ms) (λ switches.
    Some (machine_from apic boot sizes switches)))))
    else None

-- `[platform]`, which has to be there
abbrev pub machine_in : Option Data → Option Machine
machine_in d = given d (in_table machine_of)

-- the whole file
unfoldable pub parts_of : Members → Option Parts
parts_of ms =
    if has_only (knows form.Whole) ms then
    given (machine_in (get_member (codes "platform") ms)) (λ machine.
    given (rows_in (in_table host_of) (get_member (codes "host") ms)) (λ hosts.
    given (rows_in (in_table stall_of) (get_member (codes "stall") ms)) (λ stalls.
    given (rows_in (in_table agent_of) (get_member (codes "agent") ms)) (λ agents.
    Some (record { machine = machine; hosts = hosts; stalls = stalls; agents = agents })))))
    else None
