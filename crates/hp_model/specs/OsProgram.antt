-- The operating system's program (own rule, after the scan and eject methods that QEMU writes into ACPI tables): it looks for processor events, asks the
-- register block whom they are of, and starts and ejects these. Here are the places of the program, and what it does after a scan.
use Rattle.std.specs.Prelude.{ℕ, ◌==◌, List, [], ◌∷◌, ◌++◌, slice_index_or, bit_and, if◌then◌else◌}
use Rattle.hp_model.specs.declared.accesses.Access.{Access}
use Rattle.hp_model.specs.declared.accesses.Access.TheVariants.{Out, Icr, Nop}

-- where it stands: before or after one of its accesses to the GPE status; in its scan from a processor on, with those found so far that are to be
-- started and to be ejected; or with so much still to do
pub data OsPoint : Type 0 where
  polls : OsPoint  -- it reads the GPE status next
  polled : OsPoint  -- it has read it
  scans : ℕ → List ℕ → List ℕ → OsPoint  -- it selects this processor next
  selected : ℕ → List ℕ → List ℕ → OsPoint  -- it has selected it
  commanded : ℕ → List ℕ → List ℕ → OsPoint  -- it has asked for the next one with an event
  looked : ℕ → List ℕ → List ℕ → OsPoint  -- it has read command data: the selector
  judged : ℕ → List ℕ → List ℕ → OsPoint  -- it has read this processor's status
  acts : List Access → OsPoint

-- one more to be started: enabled (bit 0), with an insert event (bit 1)
abbrev pub with_insert_of : ℕ → ℕ → List ℕ → List ℕ
with_insert_of cpu status inserts = if bit_and status 3 == 3 then inserts ++ cpu ∷ [] else inserts

-- one more to be ejected: enabled (bit 0), with a remove event (bit 2)
abbrev pub with_removal_of : ℕ → ℕ → List ℕ → List ℕ
with_removal_of cpu status removals = if bit_and status 5 == 5 then removals ++ cpu ∷ [] else removals

-- the firmware is called once for all that are to be started
abbrev pub announces : List ℕ → List Access
announces [] = []
announces (cpu ∷ cpus) = Out 0xb2 1 4 ∷ []

-- a processor is started: its insert event is cleared, and after a while come INIT and two SIPIs, where `high` is the high half of a command to it
abbrev pub start_of : ℕ → ℕ → List Access
start_of high cpu =
    Out 0xcd8 4 cpu ∷ Out 0xcdc 1 2
    ∷ Nop ∷ Nop ∷ Nop ∷ Nop ∷ Nop ∷ Nop ∷ Nop ∷ Nop
    ∷ Icr high 0x500 ∷ Nop ∷ Nop ∷ Icr high 0x610 ∷ Icr high 0x610 ∷ []

-- one after the other, with the high half in each one's place
abbrev pub starts : List ℕ → List ℕ → List Access
starts halves [] = []
starts halves (cpu ∷ cpus) = start_of (slice_index_or halves cpu 0) cpu ++ starts halves cpus

-- a processor is ejected: its remove event is cleared, its eject handed to the firmware, and the firmware called
abbrev pub removal_of : ℕ → List Access
removal_of cpu = Out 0xcd8 4 cpu ∷ Out 0xcdc 1 4 ∷ Out 0xcdc 1 0x10 ∷ Out 0xb2 1 4 ∷ []

abbrev pub removes : List ℕ → List Access
removes [] = []
removes (cpu ∷ cpus) = removal_of cpu ++ removes cpus

-- what is to do after a scan
abbrev pub to_do : List ℕ → List ℕ → List ℕ → List Access
to_do halves inserts removals = announces inserts ++ (starts halves inserts ++ removes removals)
