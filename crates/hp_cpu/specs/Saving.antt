-- What SMI entry saves and RSM reads back, and their bytes.
use Rattle.std.specs.Prelude.{ℕ, List, ◌++◌, slice_index}
use Rattle.hp_model.specs.declared.processors.Cpu.{Cpu}
use Rattle.hp_model.specs.Memory.{bytes_of, value_from}
use Rattle.hp_model.specs.SaveArea.{revision, rip_of}
use Rattle.hp_cpu.specs.declared.save_area.SavePlan.{SavePlan}
use Rattle.hp_cpu.specs.declared.save_area.Saved.{Saved}

-- what SMI entry saves of a processor
abbrev pub plan_of : Cpu → SavePlan
plan_of c = record { smbase = c.smbase; revision = revision; rip = rip_of c }

-- the three fields, one after the other
abbrev pub packed : SavePlan → List ℕ
packed plan = bytes_of 4 plan.smbase ++ (bytes_of 4 plan.revision ++ bytes_of 8 plan.rip)

-- the two fields that RSM reads, from their places in the packed bytes
abbrev pub unpacked : List ℕ → Saved
unpacked bytes = record { smbase = value_from (slice_index bytes) 0 4; rip = value_from (slice_index bytes) 8 8 }
