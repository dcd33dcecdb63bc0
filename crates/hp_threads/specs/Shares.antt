-- Which part of a processor's turns each of its actors has: all where SMIs come at once, and else one in lag + 1 is its SMI's (own rule).
use Rattle.std.specs.Prelude.{ℕ, ◌+◌, ◌-◌, ◌/◌}
use Rattle.hp_model.specs.declared.entries.Actor.{Actor}
use Rattle.hp_model.specs.declared.entries.Actor.TheVariants.{Insert, Remove, Cpu, Smi}
use Rattle.hp_model.specs.declared.platforms.Delivery.{Delivery}
use Rattle.hp_model.specs.declared.platforms.Delivery.TheVariants.{Prompt, Late}

-- of so many turns of a processor, from its first one on, those of its SMI
abbrev pub smi_share : Delivery → ℕ → ℕ
smi_share Prompt turns = 0
smi_share (Late lag) turns = turns / (lag + 1)

-- of so many turns of an actor's processor, those of the actor; the host has none of them
abbrev pub share : Delivery → Actor → ℕ → ℕ
share d (Insert k) turns = 0
share d (Remove k) turns = 0
share d (Cpu k) turns = turns - smi_share d turns
share d (Smi k) turns = smi_share d turns
