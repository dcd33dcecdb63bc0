-- All that happens to one processor, as one table: what the laws over all of it speak of.
use Rattle.std.specs.Prelude.{ℕ, Bool, true, false, if◌then◌else◌}
use Rattle.hp_model.specs.declared.processors.Cpu.{Cpu}
use Rattle.hp_model.specs.declared.processors.Kind.{Kind}
use Rattle.hp_model.specs.Cpu.{absent, inserted, hit, take_smi, take_init, halt, resumed, moved}

pub data Change : Type 0 where
  inserts : Change
  removes : Change
  hits : Kind → Change
  enters : Change
  resumes : (smbase rip : ℕ) → Change
  takes_init : Change
  halts : Change
  moves : (address base : ℕ) → Change

-- the processor after it; an insert of a present processor changes nothing (own rule)
abbrev pub changed : Change → Cpu → Cpu
changed inserts c = if c.present then c else inserted
changed removes c = absent
changed (hits kind) c = hit kind c
changed enters c = take_smi c
changed (resumes smbase rip) c = resumed smbase rip c
changed takes_init c = take_init c
changed halts c = halt c
changed (moves address base) c = moved address base c

abbrev pub is_rsm : Change → Bool
is_rsm inserts = false
is_rsm removes = false
is_rsm (hits kind) = false
is_rsm enters = false
is_rsm (resumes smbase rip) = true
is_rsm takes_init = false
is_rsm halts = false
is_rsm (moves address base) = false

abbrev pub is_hot_plug : Change → Bool
is_hot_plug inserts = true
is_hot_plug removes = true
is_hot_plug (hits kind) = false
is_hot_plug enters = false
is_hot_plug (resumes smbase rip) = false
is_hot_plug takes_init = false
is_hot_plug halts = false
is_hot_plug (moves address base) = false
