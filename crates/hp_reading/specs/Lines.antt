-- The grammar of a trace's lines (own rules): what an entry's line says, and what the end line does. A text is a line without its line feed.
use Rattle.std.specs.Prelude.{ℕ, ◌==◌, ◌*◌, List, [], ◌∷◌, codes, Option, Some, None, if◌then◌else◌, option_map, option_and_then}
use Rattle.hp_model.specs.declared.accesses.Access.{Access}
use Rattle.hp_model.specs.declared.accesses.Access.TheVariants.{Load, Store, Swap, In, Out, CfgRead, CfgWrite, Icr, Halt, Nop}
use Rattle.hp_model.specs.declared.accesses.Answer.TheVariants.{Quiet, Value}
use Rattle.hp_model.specs.declared.outcomes.Refusal.TheVariants.{Disabled, Both, AlreadyKnown, GateHeld, NotAtGate, NotCheckedIn, NoUnplug, NotKnown, NotArrived, NotParked, Foreign, StillPending}
use Rattle.hp_model.specs.declared.outcomes.Outcome.{Outcome}
use Rattle.hp_model.specs.declared.outcomes.Outcome.TheVariants.{Added, Ejected, Refused}
use Rattle.hp_model.specs.declared.entries.Event.{Event}
use Rattle.hp_model.specs.declared.entries.Event.TheVariants.{Insert, Remove, Do, TakeSmi, TakeInit, Resume, Tell}
use Rattle.hp_model.specs.declared.entries.Entry.{Entry}
use Rattle.hp_reading.specs.declared.accesses.Made.{Made}
use Rattle.hp_reading.specs.Forms.{past, hex_front, decimal_front, Field, literal, decimals, digits, read, of_one, of_two, of_three, of_four}

-- the greatest number of 32 bits, and of 64
abbrev pub most32 : ℕ
most32 = 0xffffffff

abbrev pub most64 : ℕ
most64 = 0xffffffffffffffff

-- what follows a word that stands at the front, else another
module _ {X : Type 0} where
  abbrev pub row : Option (List ℕ) → (List ℕ → Option X) → Option X → Option X
  row None here other = other
  row (Some rest) here other = here rest

  -- nothing follows
  abbrev pub only : X → List ℕ → Option X
  only x [] = Some x
  only x (c ∷ text) = None

  -- one to four numbers in a form
  abbrev pub one : List Field → (ℕ → X) → List ℕ → Option X
  one form f text = option_and_then (λ vs. of_one f vs) (read form text)

  abbrev pub two : List Field → (ℕ → ℕ → X) → List ℕ → Option X
  two form f text = option_and_then (λ vs. of_two f vs) (read form text)

  abbrev pub three : List Field → (ℕ → ℕ → ℕ → X) → List ℕ → Option X
  three form f text = option_and_then (λ vs. of_three f vs) (read form text)

  abbrev pub four : List Field → (ℕ → ℕ → ℕ → ℕ → X) → List ℕ → Option X
  four form f text = option_and_then (λ vs. of_four f vs) (read form text)

-- the width of an access to memory: 1, 2, 4 or 8
abbrev pub memory_width : ℕ → Option ℕ
memory_width c =
    if c == 49 then Some 1
    else if c == 50 then Some 2
    else if c == 52 then Some 4
    else if c == 56 then Some 8
    else None

-- at a port: 1, 2 or 4
abbrev pub port_width : ℕ → Option ℕ
port_width c =
    if c == 49 then Some 1
    else if c == 50 then Some 2
    else if c == 52 then Some 4
    else None

-- an access and its answer
abbrev pub quiet : Access → Made
quiet a = record { access = a; answer = Quiet }

abbrev pub answered : Access → ℕ → Made
answered a seen = record { access = a; answer = Value seen }

-- the digits of two numbers with a text between them
abbrev pub digits_and : ℕ → List ℕ → ℕ → List Field
digits_and m between n = digits m ∷ literal between ∷ digits n ∷ []

-- behind a width, the digits of an address or port and of a value of this width
abbrev pub load_form : ℕ → List Field
load_form width = literal (codes " ") ∷ digits_and 8 (codes " = ") (2 * width)

abbrev pub store_form : ℕ → List Field
store_form width = literal (codes " ") ∷ digits_and 8 (codes " ") (2 * width)

abbrev pub in_form : ℕ → List Field
in_form width = literal (codes " ") ∷ digits_and 4 (codes " = ") (2 * width)

abbrev pub out_form : ℕ → List Field
out_form width = literal (codes " ") ∷ digits_and 4 (codes " ") (2 * width)

abbrev pub swap_form : List Field
swap_form = digits 8 ∷ literal (codes " ") ∷ digits 16 ∷ literal (codes " ") ∷ digits_and 16 (codes " = ") 16

-- what follows `load `, and so on
abbrev pub load_line : List ℕ → Option Made
load_line [] = None
load_line (c ∷ text) = option_and_then (λ width. two (load_form width) (λ addr seen. answered (Load addr width) seen) text) (memory_width c)

abbrev pub store_line : List ℕ → Option Made
store_line [] = None
store_line (c ∷ text) = option_and_then (λ width. two (store_form width) (λ addr value. quiet (Store addr width value)) text) (memory_width c)

abbrev pub in_line : List ℕ → Option Made
in_line [] = None
in_line (c ∷ text) = option_and_then (λ width. two (in_form width) (λ port seen. answered (In port width) seen) text) (port_width c)

abbrev pub out_line : List ℕ → Option Made
out_line [] = None
out_line (c ∷ text) = option_and_then (λ width. two (out_form width) (λ port value. quiet (Out port width value)) text) (port_width c)

abbrev pub swap_line : List ℕ → Option Made
swap_line text = four swap_form (λ addr expected desired seen. answered (Swap addr expected desired) seen) text

abbrev pub read_line : List ℕ → Option Made
read_line text = two (digits_and 2 (codes " = ") 2) (λ reg seen. answered (CfgRead reg) seen) text

abbrev pub write_line : List ℕ → Option Made
write_line text = two (digits_and 2 (codes " ") 2) (λ reg value. quiet (CfgWrite reg value)) text

abbrev pub icr_line : List ℕ → Option Made
icr_line text = two (digits_and 8 (codes " ") 8) (λ high low. quiet (Icr high low)) text

-- the access whose word stands at the front
abbrev pub memory_access : List ℕ → Option Made → Option Made
memory_access text other =
    row (past (codes "load ") text) load_line
    (row (past (codes "store ") text) store_line
    (row (past (codes "cas ") text) swap_line other))

abbrev pub port_access : List ℕ → Option Made → Option Made
port_access text other =
    row (past (codes "in ") text) in_line
    (row (past (codes "out ") text) out_line
    (row (past (codes "cfgr ") text) read_line
    (row (past (codes "cfgw ") text) write_line other)))

abbrev pub other_access : List ℕ → Option Made
other_access text =
    row (past (codes "icr ") text) icr_line
    (row (past (codes "halt") text) (only (quiet Halt))
    (row (past (codes "nop") text) (only (quiet Nop)) None))

unfoldable pub access_of : List ℕ → Option Made
access_of text = memory_access text (port_access text (other_access text))

-- the numbers of an outcome: two decimal ones, three, or one with a status
abbrev pub two_form : ℕ → List Field
two_form most = decimals most32 ∷ literal (codes " ") ∷ decimals most ∷ []

abbrev pub three_form : List Field
three_form = decimals most32 ∷ literal (codes " ") ∷ two_form most32

abbrev pub status_form : List Field
status_form = decimals most32 ∷ literal (codes " ") ∷ digits 2 ∷ []

abbrev pub of_add : List ℕ → Option Outcome → Option Outcome
of_add text other =
    row (past (codes "added ") text) (three three_form (λ cpu apic slot. Added cpu apic slot))
    (row (past (codes "ejected ") text) (three three_form (λ cpu apic slot. Ejected cpu apic slot)) other)

abbrev pub of_status : List ℕ → Option Outcome → Option Outcome
of_status text other =
    row (past (codes "disabled ") text) (two status_form (λ cpu status. Refused (Disabled cpu status)))
    (row (past (codes "both ") text) (two status_form (λ cpu status. Refused (Both cpu status)))
    (row (past (codes "stillpending ") text) (two status_form (λ cpu status. Refused (StillPending cpu status))) other))

unfoldable pub of_eject : List ℕ → Option Outcome
of_eject text =
    row (past (codes "nounplug ") text) (two (two_form most64) (λ cpu features. Refused (NoUnplug cpu features)))
    (row (past (codes "notknown ") text) (two (two_form most32) (λ cpu apic. Refused (NotKnown cpu apic)))
    (row (past (codes "notarrived ") text) (two (two_form most32) (λ cpu apic. Refused (NotArrived cpu apic)))
    (row (past (codes "notparked ") text) (two (two_form most32) (λ cpu apic. Refused (NotParked cpu apic)))
    (row (past (codes "foreign ") text) (two (two_form most32) (λ cpu apic. Refused (Foreign cpu apic))) None))))

unfoldable pub of_insert : List ℕ → Option Outcome
of_insert text =
    row (past (codes "alreadyknown ") text) (three three_form (λ cpu apic slot. Refused (AlreadyKnown cpu apic slot)))
    (row (past (codes "gateheld ") text) (three three_form (λ cpu apic held. Refused (GateHeld cpu apic held)))
    (row (past (codes "notatgate ") text) (two (two_form most32) (λ cpu apic. Refused (NotAtGate cpu apic)))
    (row (past (codes "notcheckedin ") text) (two (two_form most32) (λ cpu apic. Refused (NotCheckedIn cpu apic))) (of_eject text))))

unfoldable pub outcome_of : List ℕ → Option Outcome
outcome_of text = of_add text (of_status text (of_insert text))

-- an entry of an event that is answered nothing
abbrev pub entry : Event → Option ℕ → Entry
entry event at = record { event = event; at = at; answer = Quiet }

abbrev pub accessed : ℕ → Option ℕ → Made → Entry
accessed cpu at made = record { event = Do cpu made.access; at = at; answer = made.answer }

abbrev pub access_line : ℕ → Option ℕ → List ℕ → Option Entry
access_line cpu at text = option_map (λ made. accessed cpu at made) (access_of text)

-- outside SMM a processor may also take its SMI or INIT
abbrev pub outside_line : ℕ → List ℕ → Option Entry
outside_line cpu text =
    row (past (codes "smi") text) (only (entry (TakeSmi cpu) None))
    (row (past (codes "init") text) (only (entry (TakeInit cpu) None)) (access_line cpu None text))

-- processor 0 alone tells outcomes
abbrev pub told_line : ℕ → ℕ → List ℕ → Option Entry
told_line cpu at text = if cpu == 0 then option_map (λ outcome. entry (Tell outcome) (Some at)) (outcome_of text) else None

-- in SMM it may also leave SMM or tell an outcome
abbrev pub inside_line : ℕ → ℕ → List ℕ → Option Entry
inside_line cpu at text =
    row (past (codes "rsm") text) (only (entry (Resume cpu) (Some at)))
    (row (past (codes "tell ") text) (told_line cpu at) (access_line cpu (Some at) text))

-- behind the address of its instruction
abbrev pub behind_address : ℕ → ℕ → List ℕ → Option Entry
behind_address cpu at text = row (past (codes " ") text) (inside_line cpu at) None

abbrev pub address_line : ℕ → List ℕ → Option Entry
address_line cpu text = option_and_then (λ p. behind_address cpu p.0 p.1) (hex_front 8 text)

-- behind the number of a processor
abbrev pub behind_cpu : ℕ → List ℕ → Option Entry
behind_cpu cpu text = row (past (codes " @") text) (address_line cpu) (row (past (codes " ") text) (outside_line cpu) None)

abbrev pub cpu_line : List ℕ → Option Entry
cpu_line text = option_and_then (λ p. behind_cpu p.0 p.1) (decimal_front most32 text)

abbrev pub one_decimal : ℕ → List Field
one_decimal most = decimals most ∷ []

abbrev pub host_line : List ℕ → Option Entry
host_line text =
    row (past (codes "insert ") text) (one (one_decimal most32) (λ cpu. entry (Insert cpu) None))
    (row (past (codes "remove ") text) (one (one_decimal most32) (λ cpu. entry (Remove cpu) None)) None)

-- the entry whose line the text is, None where it is no entry's
unfoldable pub entry_of : List ℕ → Option Entry
entry_of text = row (past (codes "host ") text) host_line (row (past (codes "p") text) cpu_line None)

-- the number of the end line
unfoldable pub end_of : List ℕ → Option ℕ
end_of text = row (past (codes "end ") text) (one (one_decimal most64) (λ entries. entries)) None
