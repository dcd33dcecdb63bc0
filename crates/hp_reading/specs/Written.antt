-- Which entries a line can say, and that a text is the line of one.
use Rattle.std.specs.Prelude.{◌≡◌, ℕ, Bool, true, false, ◌&&◌, nat_lt, ◌^◌, List, Option, Some, None}
use Rattle.hp_model.specs.declared.accesses.Access.{Access}
use Rattle.hp_model.specs.declared.accesses.Access.TheVariants.{Load, Store, Swap, In, Out, CfgRead, CfgWrite, Icr, Halt, Nop}
use Rattle.hp_model.specs.declared.accesses.Answer.{Answer}
use Rattle.hp_model.specs.declared.accesses.Answer.TheVariants.{Quiet, Value}
use Rattle.hp_model.specs.declared.outcomes.Refusal.{Refusal}
use Rattle.hp_model.specs.declared.outcomes.Refusal.TheVariants.{Disabled, Both, AlreadyKnown, GateHeld, NotAtGate, NotCheckedIn, NoUnplug, NotKnown, NotArrived, NotParked, Foreign, StillPending}
use Rattle.hp_model.specs.declared.outcomes.Outcome.{Outcome}
use Rattle.hp_model.specs.declared.outcomes.Outcome.TheVariants.{Added, Ejected, Refused}
use Rattle.hp_model.specs.declared.entries.Event.{Event}
use Rattle.hp_model.specs.declared.entries.Event.TheVariants.{Insert, Remove, Do, TakeSmi, TakeInit, Resume, Tell}
use Rattle.hp_model.specs.declared.entries.Entry.{Entry}
use Rattle.hp_model.specs.Access.{is_normal}
use Rattle.hp_model.specs.Text.{line_of, line_text, end_text}

abbrev pub has_32 : ℕ → Bool
has_32 n = nat_lt n (2 ^ 32)

-- each field but a value has its bits; a value of a normal access has
abbrev pub fields_fit : Access → Bool
fields_fit (Load addr width) = has_32 addr
fields_fit (Store addr width value) = has_32 addr
fields_fit (Swap addr expected desired) = has_32 addr && (nat_lt expected (2 ^ 64) && nat_lt desired (2 ^ 64))
fields_fit (In port width) = nat_lt port (2 ^ 16)
fields_fit (Out port width value) = nat_lt port (2 ^ 16)
fields_fit (CfgRead reg) = nat_lt reg (2 ^ 8)
fields_fit (CfgWrite reg value) = nat_lt reg (2 ^ 8) && nat_lt value (2 ^ 8)
fields_fit (Icr high low) = has_32 high && has_32 low
fields_fit Halt = true
fields_fit Nop = true

abbrev pub is_quiet : Answer → Bool
is_quiet Quiet = true
is_quiet (Value v) = false

-- a value of so many bytes
abbrev pub is_value : ℕ → Answer → Bool
is_value width Quiet = false
is_value width (Value v) = nat_lt v (256 ^ width)

-- an access has the answer that its kind has
abbrev pub answer_fits : Access → Answer → Bool
answer_fits (Load addr width) answer = is_value width answer
answer_fits (Store addr width value) answer = is_quiet answer
answer_fits (Swap addr expected desired) answer = is_value 8 answer
answer_fits (In port width) answer = is_value width answer
answer_fits (Out port width value) answer = is_quiet answer
answer_fits (CfgRead reg) answer = is_value 1 answer
answer_fits (CfgWrite reg value) answer = is_quiet answer
answer_fits (Icr high low) answer = is_quiet answer
answer_fits Halt answer = is_quiet answer
answer_fits Nop answer = is_quiet answer

abbrev pub has_status : ℕ → ℕ → Bool
has_status cpu status = has_32 cpu && nat_lt status (2 ^ 8)

abbrev pub has_two : ℕ → ℕ → Bool
has_two a b = has_32 a && has_32 b

abbrev pub has_three : ℕ → ℕ → ℕ → Bool
has_three a b c = has_32 a && has_two b c

abbrev pub refusal_fits : Refusal → Bool
refusal_fits (Disabled cpu status) = has_status cpu status
refusal_fits (Both cpu status) = has_status cpu status
refusal_fits (AlreadyKnown cpu apic slot) = has_three cpu apic slot
refusal_fits (GateHeld cpu apic held) = has_three cpu apic held
refusal_fits (NotAtGate cpu apic) = has_two cpu apic
refusal_fits (NotCheckedIn cpu apic) = has_two cpu apic
refusal_fits (NoUnplug cpu features) = has_32 cpu && nat_lt features (2 ^ 64)
refusal_fits (NotKnown cpu apic) = has_two cpu apic
refusal_fits (NotArrived cpu apic) = has_two cpu apic
refusal_fits (NotParked cpu apic) = has_two cpu apic
refusal_fits (Foreign cpu apic) = has_two cpu apic
refusal_fits (StillPending cpu status) = has_status cpu status

abbrev pub outcome_fits : Outcome → Bool
outcome_fits (Added cpu apic slot) = has_three cpu apic slot
outcome_fits (Ejected cpu apic slot) = has_three cpu apic slot
outcome_fits (Refused refusal) = refusal_fits refusal

-- no address, one of 32 bits, or any of both
abbrev pub is_outside : Option ℕ → Bool
is_outside None = true
is_outside (Some address) = false

abbrev pub is_inside : Option ℕ → Bool
is_inside None = false
is_inside (Some address) = has_32 address

abbrev pub is_either : Option ℕ → Bool
is_either None = true
is_either (Some address) = has_32 address

abbrev pub access_fits : Access → Answer → Bool
access_fits a answer = is_normal a && (fields_fit a && answer_fits a answer)

-- numbers have their bits, accesses are normal, answers are of their kind; SMI and INIT are taken outside SMM, and RSM and outcomes come in SMM
abbrev pub is_written : Entry → Event → Bool
is_written e (Insert k) = has_32 k && (is_outside e.at && is_quiet e.answer)
is_written e (Remove k) = has_32 k && (is_outside e.at && is_quiet e.answer)
is_written e (Do k a) = has_32 k && (is_either e.at && access_fits a e.answer)
is_written e (TakeSmi k) = has_32 k && (is_outside e.at && is_quiet e.answer)
is_written e (TakeInit k) = has_32 k && (is_outside e.at && is_quiet e.answer)
is_written e (Resume k) = has_32 k && (is_inside e.at && is_quiet e.answer)
is_written e (Tell o) = outcome_fits o && (is_inside e.at && is_quiet e.answer)

abbrev pub is_well_formed : Entry → Bool
is_well_formed e = is_written e e.event

-- the text and a line feed are the line of an entry that a line can say
pub record IsLine (text : List ℕ) (e : Entry) : Type 0 where
  pub well_formed : is_well_formed e ≡ true
  pub spelled : line_of text ≡ line_text e

-- and the end line of so many entries
pub record IsEnd (text : List ℕ) (entries : ℕ) : Type 0 where
  pub small : nat_lt entries (2 ^ 64) ≡ true
  pub spelled : line_of text ≡ end_text entries
