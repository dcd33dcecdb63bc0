-- The trace text (own rules): a header, one line per entry, an end line. A line is a list of pieces, and its text is spelled from them.
use Rattle.std.specs.Prelude.{ℕ, zero, suc, Bool, true, false, ◌*◌, ◌/◌, ◌%◌, List, [], ◌∷◌, ◌++◌, length, Option, Some, None, codes}
use Rattle.std.specs.Fmt.{decimal, digit_glyph}
use Rattle.hp_model.specs.declared.platforms.Platform.{Platform}
use Rattle.hp_model.specs.declared.platforms.Delivery.{Delivery}
use Rattle.hp_model.specs.declared.platforms.Delivery.TheVariants.{Prompt, Late}
use Rattle.hp_model.specs.declared.accesses.Access.{Access}
use Rattle.hp_model.specs.declared.accesses.Access.TheVariants.{Load, Store, Swap, In, Out, CfgRead, CfgWrite, Icr, Halt, Nop}
use Rattle.hp_model.specs.declared.outcomes.Refusal.{Refusal}
use Rattle.hp_model.specs.declared.outcomes.Refusal.TheVariants.{Disabled, Both, AlreadyKnown, GateHeld, NotAtGate, NotCheckedIn, NoUnplug, NotKnown, NotArrived, NotParked, Foreign, StillPending}
use Rattle.hp_model.specs.declared.outcomes.Outcome.{Outcome}
use Rattle.hp_model.specs.declared.outcomes.Outcome.TheVariants.{Added, Ejected, Refused}
use Rattle.hp_model.specs.declared.entries.Event.{Event}
use Rattle.hp_model.specs.declared.entries.Event.TheVariants.{Insert, Remove, Do, TakeSmi, TakeInit, Resume, Tell}
use Rattle.hp_model.specs.declared.entries.Entry.{Entry}
use Rattle.hp_model.specs.Boot.{value_in}

-- a number in lower-case hexadecimal, with so many digits
unfoldable pub hex : ℕ → ℕ → List ℕ
hex zero value = []
hex (suc n) value = hex n (value / 16) ++ digit_glyph false (value % 16) ∷ []

-- a piece of a line: a word, a decimal number, or a hexadecimal number of so many digits
pub data Piece : Type 0 where
  word : List ℕ → Piece
  number : ℕ → Piece
  hexadecimal : ℕ → ℕ → Piece

abbrev pub spell_piece : Piece → List ℕ
spell_piece (word text) = text
spell_piece (number value) = decimal value
spell_piece (hexadecimal digits value) = hex digits value

abbrev pub spell : List Piece → List ℕ
spell [] = []
spell (p ∷ ps) = spell_piece p ++ spell ps

-- a word and one, two or three decimal numbers after it
abbrev pub one : List ℕ → ℕ → List Piece
one name a = word name ∷ number a ∷ []

abbrev pub two : List ℕ → ℕ → ℕ → List Piece
two name a b = word name ∷ number a ∷ word (codes " ") ∷ number b ∷ []

abbrev pub three : List ℕ → ℕ → ℕ → ℕ → List Piece
three name a b c = word name ∷ number a ∷ word (codes " ") ∷ number b ∷ word (codes " ") ∷ number c ∷ []

-- a status byte is told in hexadecimal
abbrev pub with_status : List ℕ → ℕ → ℕ → List Piece
with_status name cpu status = word name ∷ number cpu ∷ word (codes " ") ∷ hexadecimal 2 status ∷ []

abbrev pub refusal_pieces : Refusal → List Piece
refusal_pieces (Disabled cpu status) = with_status (codes "disabled ") cpu status
refusal_pieces (Both cpu status) = with_status (codes "both ") cpu status
refusal_pieces (AlreadyKnown cpu apic slot) = three (codes "alreadyknown ") cpu apic slot
refusal_pieces (GateHeld cpu apic held) = three (codes "gateheld ") cpu apic held
refusal_pieces (NotAtGate cpu apic) = two (codes "notatgate ") cpu apic
refusal_pieces (NotCheckedIn cpu apic) = two (codes "notcheckedin ") cpu apic
refusal_pieces (NoUnplug cpu features) = two (codes "nounplug ") cpu features
refusal_pieces (NotKnown cpu apic) = two (codes "notknown ") cpu apic
refusal_pieces (NotArrived cpu apic) = two (codes "notarrived ") cpu apic
refusal_pieces (NotParked cpu apic) = two (codes "notparked ") cpu apic
refusal_pieces (Foreign cpu apic) = two (codes "foreign ") cpu apic
refusal_pieces (StillPending cpu status) = with_status (codes "stillpending ") cpu status

abbrev pub outcome_pieces : Outcome → List Piece
outcome_pieces (Added cpu apic slot) = three (codes "added ") cpu apic slot
outcome_pieces (Ejected cpu apic slot) = three (codes "ejected ") cpu apic slot
outcome_pieces (Refused refusal) = refusal_pieces refusal

-- an access with the value that it was answered; addresses and interrupt halves have 8 digits, ports 4, registers and bytes 2, values two for each byte of the width
abbrev pub access_pieces : Access → ℕ → List Piece
access_pieces (Load addr width) seen =
    word (codes "load ") ∷ number width ∷ word (codes " ") ∷ hexadecimal 8 addr ∷ word (codes " = ") ∷ hexadecimal (2 * width) seen ∷ []
access_pieces (Store addr width value) seen =
    word (codes "store ") ∷ number width ∷ word (codes " ") ∷ hexadecimal 8 addr ∷ word (codes " ") ∷ hexadecimal (2 * width) value ∷ []
access_pieces (Swap addr expected desired) seen =
    word (codes "cas ") ∷ hexadecimal 8 addr ∷ word (codes " ") ∷ hexadecimal 16 expected ∷ word (codes " ") ∷ hexadecimal 16 desired ∷ word (codes " = ") ∷ hexadecimal 16 seen ∷ []
access_pieces (In port width) seen =
    word (codes "in ") ∷ number width ∷ word (codes " ") ∷ hexadecimal 4 port ∷ word (codes " = ") ∷ hexadecimal (2 * width) seen ∷ []
access_pieces (Out port width value) seen =
    word (codes "out ") ∷ number width ∷ word (codes " ") ∷ hexadecimal 4 port ∷ word (codes " ") ∷ hexadecimal (2 * width) value ∷ []
access_pieces (CfgRead reg) seen = word (codes "cfgr ") ∷ hexadecimal 2 reg ∷ word (codes " = ") ∷ hexadecimal 2 seen ∷ []
access_pieces (CfgWrite reg value) seen = word (codes "cfgw ") ∷ hexadecimal 2 reg ∷ word (codes " ") ∷ hexadecimal 2 value ∷ []
access_pieces (Icr high low) seen = word (codes "icr ") ∷ hexadecimal 8 high ∷ word (codes " ") ∷ hexadecimal 8 low ∷ []
access_pieces Halt seen = word (codes "halt") ∷ []
access_pieces Nop seen = word (codes "nop") ∷ []

-- who acts: the host, or a processor with its instruction address where it is in SMM
abbrev pub at_pieces : Option ℕ → List Piece
at_pieces None = word (codes " ") ∷ []
at_pieces (Some address) = word (codes " @") ∷ hexadecimal 8 address ∷ word (codes " ") ∷ []

abbrev pub cpu_pieces : ℕ → Option ℕ → List Piece
cpu_pieces cpu at = word (codes "p") ∷ number cpu ∷ at_pieces at

-- the actor of a told outcome is processor 0
abbrev pub actor_pieces : Event → Option ℕ → List Piece
actor_pieces (Insert k) at = word (codes "host ") ∷ []
actor_pieces (Remove k) at = word (codes "host ") ∷ []
actor_pieces (Do k a) at = cpu_pieces k at
actor_pieces (TakeSmi k) at = cpu_pieces k at
actor_pieces (TakeInit k) at = cpu_pieces k at
actor_pieces (Resume k) at = cpu_pieces k at
actor_pieces (Tell o) at = cpu_pieces 0 at

-- and what it does
abbrev pub event_pieces : Event → ℕ → List Piece
event_pieces (Insert k) seen = one (codes "insert ") k
event_pieces (Remove k) seen = one (codes "remove ") k
event_pieces (Do k a) seen = access_pieces a seen
event_pieces (TakeSmi k) seen = word (codes "smi") ∷ []
event_pieces (TakeInit k) seen = word (codes "init") ∷ []
event_pieces (Resume k) seen = word (codes "rsm") ∷ []
event_pieces (Tell o) seen = word (codes "tell ") ∷ outcome_pieces o

-- a line ends with a line feed
abbrev pub line_of : List ℕ → List ℕ
line_of text = text ++ 10 ∷ []

-- the line of an entry
unfoldable pub line_text : Entry → List ℕ
line_text e = line_of (spell (actor_pieces e.event e.at) ++ spell (event_pieces e.event (value_in e.answer)))

-- the lines of entries
abbrev pub lines_text : List Entry → List ℕ
lines_text [] = []
lines_text (e ∷ es) = line_text e ++ lines_text es

-- numbers with a comma between two
unfoldable pub numbers_text : List ℕ → List ℕ
numbers_text [] = []
numbers_text (n ∷ []) = decimal n
numbers_text (n ∷ (m ∷ ms)) = decimal n ++ (codes "," ++ numbers_text (m ∷ ms))

abbrev pub truth_text : Bool → List ℕ
truth_text true = codes "true"
truth_text false = codes "false"

abbrev pub delivery_pieces : Delivery → List Piece
delivery_pieces Prompt = word (codes " delivery=prompt") ∷ []
delivery_pieces (Late lag) = one (codes " delivery=late lag=") lag

-- what came later stands in the header only where it isn't as it was
abbrev pub ext_pieces : Bool → List Piece
ext_pieces true = []
ext_pieces false = word (codes " ext=false") ∷ []

abbrev pub x2apic_pieces : Bool → List Piece
x2apic_pieces true = word (codes " x2apic=true") ∷ []
x2apic_pieces false = []

-- the header names the platform
abbrev pub head_pieces : Platform → List Piece
head_pieces p =
    word (codes "platform apic=") ∷ word (numbers_text p.apic)
    ∷ word (codes " boot=") ∷ word (numbers_text p.boot)
    ∷ word (codes " low=") ∷ hexadecimal 8 p.low_memory
    ∷ word (codes " tseg=") ∷ number p.tseg_mib
    ∷ (ext_pieces p.ext_tseg
    ++ (word (codes " features=") ∷ number p.features
    ∷ word (codes " polls=") ∷ number p.polls
    ∷ word (codes " turns=") ∷ number p.turns
    ∷ word (codes " modern=") ∷ word (truth_text p.modern)
    ∷ word (codes " smram=") ∷ word (truth_text p.default_smram)
    ∷ (delivery_pieces p.delivery ++ x2apic_pieces p.x2apic)))

unfoldable pub head_text : Platform → List ℕ
head_text p = line_of (spell (head_pieces p))

-- the end line counts the entries
unfoldable pub end_text : ℕ → List ℕ
end_text entries = line_of (spell (one (codes "end ") entries))

-- a whole trace
abbrev pub trace_text : Platform → List Entry → List ℕ
trace_text p es = head_text p ++ (lines_text es ++ end_text (length es))
