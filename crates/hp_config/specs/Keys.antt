-- Which keys the tables of a platform file may have (own rules).
use Rattle.std.specs.Prelude.{ℕ, Bool, true, ◌&&◌, ◌||◌, List, codes}
use Rattle.std.specs.Str.{bytes_eq}
use Rattle.toml.specs.Data.{Members, no_members, member}
use Rattle.hp_config.specs.declared.keys.Form.{Form}
use Rattle.hp_config.specs.declared.keys.Form.TheVariants.{Whole, Platform, Host, Stall, Agent}

-- the table of this form knows the key
unfoldable pub knows : Form → List ℕ → Bool
knows Whole key =
    bytes_eq key (codes "platform") || bytes_eq key (codes "host") || bytes_eq key (codes "stall") || bytes_eq key (codes "agent")
knows Platform key =
    bytes_eq key (codes "apic") || bytes_eq key (codes "boot") || bytes_eq key (codes "low_memory") || bytes_eq key (codes "tseg_mib")
    || bytes_eq key (codes "features") || bytes_eq key (codes "polls") || bytes_eq key (codes "turns") || bytes_eq key (codes "modern")
    || bytes_eq key (codes "default_smram") || bytes_eq key (codes "delivery") || bytes_eq key (codes "lag") || bytes_eq key (codes "x2apic")
    || bytes_eq key (codes "ext_tseg")
knows Host key = bytes_eq key (codes "turn") || bytes_eq key (codes "insert") || bytes_eq key (codes "remove")
knows Stall key = bytes_eq key (codes "cpu") || bytes_eq key (codes "from") || bytes_eq key (codes "to")
knows Agent key = bytes_eq key (codes "cpu") || bytes_eq key (codes "kind") || bytes_eq key (codes "steps") || bytes_eq key (codes "seed")

-- each key is a known one
abbrev pub has_only : (List ℕ → Bool) → Members → Bool
has_only known no_members = true
has_only known (member key d ms) = known key && has_only known ms
