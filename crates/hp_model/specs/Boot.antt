-- The boot sequence (own rule): the firmware's accesses before the hand-over, by number, and what refuses it.
use Rattle.std.specs.Prelude.{ℕ, Bool, true, false, ◌&&◌, not, ◌==◌, ◌+◌, ◌*◌, ◌%◌, List, [], ◌∷◌, ◌++◌, Option, Some, None, slice_index_or, if◌then◌else◌}
use Rattle.hp_model.specs.declared.accesses.Access.{Access}
use Rattle.hp_model.specs.declared.accesses.Access.TheVariants.{Load, Store, In, Out, CfgRead, CfgWrite, Nop}
use Rattle.hp_model.specs.declared.accesses.Answer.{Answer}
use Rattle.hp_model.specs.declared.accesses.Answer.TheVariants.{Quiet, Value}
use Rattle.hp_model.specs.declared.labels.Label.{Label}
use Rattle.hp_model.specs.declared.labels.Label.TheVariants.{F1, F2, F3, F4, F5, F6}
use Rattle.hp_model.specs.declared.outcomes.BootFact.{BootFact}
use Rattle.hp_model.specs.declared.outcomes.BootFact.TheVariants.{NotModern, NoDefaultSmram, NotNegotiated, NoExtTseg}
use Rattle.hp_model.specs.Labels.{index_of, mark_of}

-- register 9e for a TSEG of 1, 2, 8 or 48 MiB: T_EN and the size
abbrev pub tseg_enabled : ℕ → ℕ
tseg_enabled mib = if mib == 1 then 1 else if mib == 2 then 3 else if mib == 8 then 5 else 7

-- the pen's mark: what stands in the pen, the page where new processors wait for the operating system
abbrev pub pen_mark : ℕ
pen_mark = 0x4e4550

-- 1 to 4: the register block becomes modern, which the fourth checks
abbrev pub block_accesses : List Access
block_accesses = Out 0xcd8 4 0 ∷ Out 0xcd8 4 0 ∷ Out 0xcdd 1 0 ∷ In 0xcd8 4 ∷ []

-- 5 and 6: the default area can be locked, which the sixth checks
abbrev pub area_accesses : List Access
area_accesses = CfgWrite 0x9c 0xff ∷ CfgRead 0x9c ∷ []

-- 7: the pen's mark
abbrev pub pen_accesses : List Access
pen_accesses = Store 0x9f000 4 pen_mark ∷ []

-- 8 to 13: the marks of the first handler, each in its cell
abbrev pub mark_access : Label → Access
mark_access l = Store (0x38000 + 4 * index_of l) 4 (mark_of l)

abbrev pub mark_accesses : List Access
mark_accesses = mark_access F1 ∷ mark_access F2 ∷ mark_access F3 ∷ mark_access F4 ∷ mark_access F5 ∷ mark_access F6 ∷ []

-- 14 and 15: the gate is closed, and the default area locked
abbrev pub gate_accesses : List Access
gate_accesses = Store 0x30000 8 0xffffffffffffffff ∷ CfgWrite 0x9c 0x02 ∷ []

-- 15a and 15b: a TSEG of 48 MiB is asked for, which the second checks
abbrev pub ext_accesses : ℕ → List Access
ext_accesses mib = if mib == 48 then CfgWrite 0x50 0xff ∷ CfgRead 0x50 ∷ [] else []

-- how many these are
abbrev pub ext_count : ℕ → ℕ
ext_count mib = if mib == 48 then 2 else 0

-- 16 and 17: TSEG is locked
abbrev pub lock_accesses : ℕ → List Access
lock_accesses mib = CfgWrite 0x9e (tseg_enabled mib) ∷ CfgWrite 0x9d 0x18 ∷ []

-- 18 to 26: the supported features are read, bits 0 to 2 of them are requested, and the last checks that they were agreed on
abbrev pub feature_accesses : ℕ → List Access
feature_accesses supported =
    Store 0x1000 8 0x080000000a002200 ∷ Store 0x1008 8 0x1010000000000000 ∷ Out 0x518 4 0x00100000 ∷ Load 0x1010 8
    ∷ Store 0x1000 8 0x0800000018002100 ∷ Store 0x1010 8 (supported % 8) ∷ Out 0x518 4 0x00100000
    ∷ Out 0x510 2 0x20 ∷ In 0x511 1 ∷ []

-- 27: SMIs are enabled, and the machine is handed over
abbrev pub last_accesses : List Access
last_accesses = Out 0x630 4 0x21 ∷ []

-- all accesses, where access 21 answered `supported`
unfoldable pub boot_accesses : ℕ → ℕ → List Access
boot_accesses mib supported =
    block_accesses ++ (area_accesses ++ (pen_accesses ++ (mark_accesses ++ (gate_accesses ++ (ext_accesses mib ++ (lock_accesses mib ++ (feature_accesses supported ++ last_accesses)))))))

-- the access after this many
unfoldable pub boot_access : ℕ → ℕ → ℕ → Access
boot_access mib supported done = slice_index_or (boot_accesses mib supported) done Nop

-- how many these are
abbrev pub boot_count : ℕ → ℕ
boot_count mib = 27 + ext_count mib

-- what the value that the access after this many read is refused for: access 4, 6, 15b or 26
abbrev pub boot_refusal : ℕ → ℕ → ℕ → Option BootFact
boot_refusal mib done value =
    if (done == 3) && not (value == 0) then Some (NotModern value)
    else if (done == 5) && not (value == 1) then Some (NoDefaultSmram value)
    else if ((mib == 48) && (done == 16)) && not (value == 0x30) then Some (NoExtTseg value)
    else if (done == 25 + ext_count mib) && not (value == 1) then Some (NotNegotiated value)
    else None

-- where the boot stands
pub data Stage : Type 0 where
  Boots : ℕ → ℕ → Stage  -- so many accesses are made, and access 21 answered this
  Refused : BootFact → Stage  -- it read this value: nothing steps from here on
  Handed : ℕ → Stage  -- handed over, with these features requested

abbrev pub boot_start : Stage
boot_start = Boots 0 0

abbrev pub is_handed : Stage → Bool
is_handed (Boots done supported) = false
is_handed (Refused fact) = false
is_handed (Handed requested) = true

abbrev pub is_booting : Stage → Bool
is_booting (Boots done supported) = true
is_booting (Refused fact) = false
is_booting (Handed requested) = false

abbrev pub fact_of : Stage → Option BootFact
fact_of (Boots done supported) = None
fact_of (Refused fact) = Some fact
fact_of (Handed requested) = None

-- the boot's next access
abbrev pub boot_next : ℕ → Stage → Access
boot_next mib (Boots done supported) = boot_access mib supported done
boot_next mib (Refused fact) = Nop
boot_next mib (Handed requested) = Nop

abbrev pub value_in : Answer → ℕ
value_in Quiet = 0
value_in (Value v) = v

abbrev pub stage_by : ℕ → Option BootFact → ℕ → ℕ → ℕ → Stage
stage_by mib (Some fact) done supported value = Refused fact
stage_by mib None done supported value =
    if done == 26 + ext_count mib then Handed (supported % 8)
    else Boots (done + 1) (if done == 20 + ext_count mib then value else supported)

-- where it stands once its next access has this answer
abbrev pub stage_after : ℕ → Answer → Stage → Stage
stage_after mib answer (Boots done supported) = stage_by mib (boot_refusal mib done (value_in answer)) done supported (value_in answer)
stage_after mib answer (Refused fact) = Refused fact
stage_after mib answer (Handed requested) = Handed requested
