-- The rules of a platform file past those of its platform (own rules).
use Rattle.std.specs.Prelude.{ℕ, Bool, true, ◌&&◌, not, ◌==◌, nat_lt, nat_le, List, [], ◌∷◌}
use Rattle.std.specs.List.{list_all, list_any}
use Rattle.std.specs.Option.{is_some}
use Rattle.hp_model.specs.declared.entries.Actor.{Actor}
use Rattle.hp_model.specs.declared.entries.Actor.TheVariants.{Insert, Remove, Cpu, Smi}
use Rattle.hp_model.specs.declared.files.HostEvent.{HostEvent}
use Rattle.hp_model.specs.declared.files.Stall.{Stall}
use Rattle.hp_model.specs.Hosting.{is_host}
use Rattle.hp_config.specs.declared.parts.AgentRow.{AgentRow}

-- the processor of an actor
abbrev pub place_of : Actor → ℕ
place_of (Insert k) = k
place_of (Remove k) = k
place_of (Cpu k) = k
place_of (Smi k) = k

-- rule 12: the processor of each host event is below the count
abbrev pub hosts_fit : ℕ → List HostEvent → Bool
hosts_fit count hosts = list_all (λ h. nat_lt (place_of h.actor) count) hosts

-- each host event is an insert or a remove
abbrev pub hosts_are_hosts : List HostEvent → Bool
hosts_are_hosts hosts = list_all (λ h. is_host h.actor) hosts

-- rule 13: the processor of each stall is below the count, and it does not end before it starts
abbrev pub stalls_fit : ℕ → List Stall → Bool
stalls_fit count stalls = list_all (λ s. nat_lt s.cpu count && nat_le s.from s.to) stalls

-- no processor has two agents
abbrev pub no_two : List AgentRow → Bool
no_two [] = true
no_two (a ∷ agents) = not (list_any (λ b. b.cpu == a.cpu) agents) && no_two agents

-- rule 14: the processor of each agent is below the count, and no processor has two
abbrev pub agents_fit : ℕ → List AgentRow → Bool
agents_fit count agents = list_all (λ a. nat_lt a.cpu count) agents && no_two agents

-- rule 15: each script step is in the grammar
abbrev pub steps_fit : List AgentRow → Bool
steps_fit agents = list_all (λ a. is_some a.kind) agents
