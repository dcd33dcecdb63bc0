-- What an access is: how the machine takes it, who may make it, what it is answered, and what it does.
use Rattle.std.specs.Prelude.{◌≡◌, ◌⊎◌, ℕ, Bool, true, false, not, ◌&&◌, ◌||◌, ◌==◌, nat_lt, ◌%◌, ◌^◌, if◌then◌else◌}
use Rattle.hp_model.specs.declared.platforms.Platform.{Platform}
use Rattle.hp_model.specs.declared.processors.Cpu.{Cpu}
use Rattle.hp_model.specs.declared.accesses.Access.{Access}
use Rattle.hp_model.specs.declared.accesses.Access.TheVariants.{Load, Store, Swap, In, Out, CfgRead, CfgWrite, Icr, Halt, Nop}
use Rattle.hp_model.specs.declared.accesses.Answer.{Answer}
use Rattle.hp_model.specs.declared.accesses.Answer.TheVariants.{Quiet, Value}
use Rattle.hp_model.specs.Platform.{apic_of}
use Rattle.hp_model.specs.Memory.{byte_at}
use Rattle.hp_model.specs.View.{lock_read, lock_write, loaded, stored, swapped}
use Rattle.hp_model.specs.Cpu.{is_free, is_in_smm, halt}
use Rattle.hp_model.specs.Interrupts.{decoded, sent}
use Rattle.hp_model.specs.State.{State, at, set_cpu}
use Rattle.hp_model.specs.Ports.{read_port, after_read, write_port}

-- widths in bytes: of memory, and of a port
abbrev pub is_memory_width : ℕ → Bool
is_memory_width w = (w == 1) || ((w == 2) || ((w == 4) || (w == 8)))

abbrev pub is_port_width : ℕ → Bool
is_port_width w = (w == 1) || ((w == 2) || (w == 4))

-- the same as facts
abbrev pub IsMemoryWidth : ℕ → Type 0
IsMemoryWidth w = (w ≡ 1) ⊎ ((w ≡ 2) ⊎ ((w ≡ 4) ⊎ (w ≡ 8)))

abbrev pub IsPortWidth : ℕ → Type 0
IsPortWidth w = (w ≡ 1) ⊎ ((w ≡ 2) ⊎ (w ≡ 4))

-- an access with a width that there is, and no value that its width can't hold
abbrev pub is_normal : Access → Bool
is_normal (Load addr width) = is_memory_width width
is_normal (Store addr width value) = is_memory_width width && nat_lt value (256 ^ width)
is_normal (Swap addr expected desired) = true
is_normal (In port width) = is_port_width width
is_normal (Out port width value) = is_port_width width && nat_lt value (256 ^ width)
is_normal (CfgRead reg) = true
is_normal (CfgWrite reg value) = true
is_normal (Icr high low) = true
is_normal Halt = true
is_normal Nop = true

-- an access as the machine takes it (own rule): of a width that there is none it does nothing, and a value is cut to its width
abbrev pub normal : Access → Access
normal (Load addr width) = if is_memory_width width then Load addr width else Nop
normal (Store addr width value) = if is_memory_width width then Store addr width (value % 256 ^ width) else Nop
normal (Swap addr expected desired) = Swap addr expected desired
normal (In port width) = if is_port_width width then In port width else Nop
normal (Out port width value) = if is_port_width width then Out port width (value % 256 ^ width) else Nop
normal (CfgRead reg) = CfgRead reg
normal (CfgWrite reg value) = CfgWrite reg value
normal (Icr high low) = Icr high low
normal Halt = Halt
normal Nop = Nop

abbrev pub is_halt : Access → Bool
is_halt (Load addr width) = false
is_halt (Store addr width value) = false
is_halt (Swap addr expected desired) = false
is_halt (In port width) = false
is_halt (Out port width value) = false
is_halt (CfgRead reg) = false
is_halt (CfgWrite reg value) = false
is_halt (Icr high low) = false
is_halt Halt = true
is_halt Nop = false

-- two accesses are one where their kinds and fields are
unfoldable pub same_access : Access → Access → Bool
same_access (Load addr width) (Load there wide) = (addr == there) && (width == wide)
same_access (Store addr width value) (Store there wide other) = (addr == there) && ((width == wide) && (value == other))
same_access (Swap addr expected desired) (Swap there seen other) = (addr == there) && ((expected == seen) && (desired == other))
same_access (In port width) (In there wide) = (port == there) && (width == wide)
same_access (Out port width value) (Out there wide other) = (port == there) && ((width == wide) && (value == other))
same_access (CfgRead reg) (CfgRead there) = reg == there
same_access (CfgWrite reg value) (CfgWrite there other) = (reg == there) && (value == other)
same_access (Icr high low) (Icr up down) = (high == up) && (low == down)
same_access Halt Halt = true
same_access Nop Nop = true
same_access _ _ = false

-- a present processor in SMM
abbrev pub stands_in_smm : Cpu → Bool
stands_in_smm c = c.present && is_in_smm c.mode

-- a running processor that nothing keeps makes any access, and one in SMM any but a halt
abbrev pub may_access : Bool → Cpu → Access → Bool
may_access late c a = is_free late c || (stands_in_smm c && not (is_halt a))

-- what an access is answered
abbrev pub answer_to : Bool → Access → State → Answer
answer_to in_smm (Load addr width) s = Value (loaded s.locks in_smm (byte_at s.writes) addr width)
answer_to in_smm (Store addr width value) s = Quiet
answer_to in_smm (Swap addr expected desired) s = Value (loaded s.locks in_smm (byte_at s.writes) addr 8)
answer_to in_smm (In port width) s = Value (read_port port width s)
answer_to in_smm (Out port width value) s = Quiet
answer_to in_smm (CfgRead reg) s = Value (lock_read s.locks reg)
answer_to in_smm (CfgWrite reg value) s = Quiet
answer_to in_smm (Icr high low) s = Quiet
answer_to in_smm Halt s = Quiet
answer_to in_smm Nop s = Quiet

-- what an access of processor k does
abbrev pub access_effect : Platform → ℕ → Bool → Access → State → State
access_effect p k in_smm (Load addr width) s = s
access_effect p k in_smm (Store addr width value) s = record s { writes = stored s.locks in_smm addr width value s.writes }
access_effect p k in_smm (Swap addr expected desired) s = record s { writes = swapped s.locks in_smm addr expected desired s.writes }
access_effect p k in_smm (In port width) s = after_read port width s
access_effect p k in_smm (Out port width value) s = write_port p k port width value s
access_effect p k in_smm (CfgRead reg) s = s
access_effect p k in_smm (CfgWrite reg value) s = record s { locks = lock_write s.locks reg value }
access_effect p k in_smm (Icr high low) s = record s { cpus = sent (decoded p.x2apic high low) (apic_of p k) p.apic s.cpus }
access_effect p k in_smm Halt s = set_cpu k (halt (at s k)) s
access_effect p k in_smm Nop s = s
