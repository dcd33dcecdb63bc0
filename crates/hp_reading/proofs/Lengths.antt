-- The line of an entry and the end line are below 100 bytes.
use Rattle.std.proofs.Common.{◌≡◌, ℕ, ◌+◌, ◌^◌, ◌<◌, ◌≤◌, nat_lt, ◌&&◌, Bool, true, false, List, [], ◌∷◌, ◌++◌, length, codes, Option, Some, None, if◌then◌else◌, refl, ap, arith, length-append}
use Rattle.std.proofs.lemmas.Bool.{and_parts, and_from, ltb-true, lt-ltb}
use Rattle.std.proofs.lemmas.Bool.Decides.{nat_tests}
use Rattle.std.proofs.lemmas.Fmt.{length-decimal-le}
use Rattle.std.specs.Fmt.{decimal}
use Rattle.hp_model.specs.declared.accesses.Access.{Access}
use Rattle.hp_model.specs.declared.accesses.Access.TheVariants.{Load, Store, Swap, In, Out, CfgRead, CfgWrite, Icr, Halt, Nop}
use Rattle.hp_model.specs.declared.accesses.Answer.{Answer}
use Rattle.hp_model.specs.declared.outcomes.Refusal.{Refusal}
use Rattle.hp_model.specs.declared.outcomes.Refusal.TheVariants.{Disabled, Both, AlreadyKnown, GateHeld, NotAtGate, NotCheckedIn, NoUnplug, NotKnown, NotArrived, NotParked, Foreign, StillPending}
use Rattle.hp_model.specs.declared.outcomes.Outcome.{Outcome}
use Rattle.hp_model.specs.declared.outcomes.Outcome.TheVariants.{Added, Ejected, Refused}
use Rattle.hp_model.specs.declared.entries.Event.{Event}
use Rattle.hp_model.specs.declared.entries.Event.TheVariants.{Insert, Remove, Do, TakeSmi, TakeInit, Resume, Tell}
use Rattle.hp_model.specs.declared.entries.Entry.{Entry}
use Rattle.hp_model.specs.Access.{is_normal, is_memory_width, is_port_width}
use Rattle.hp_model.specs.Boot.{value_in}
use Rattle.hp_model.specs.Text.{Piece, word, number, hexadecimal, spell, hex, access_pieces, at_pieces, refusal_pieces, outcome_pieces, actor_pieces, event_pieces}
use Rattle.hp_reading.specs.Lines.{entry_of}
use Rattle.hp_reading.specs.Written.{has_32, has_status, has_two, has_three, refusal_fits, outcome_fits, access_fits, is_either, is_written}
use Rattle.hp_reading.proofs.HexText.{length-hex}
use Rattle.hp_reading.proofs.EntryLines.{entry_pieces, entry_is}

-- at most so many bytes: a decimal number of 32 bits has 10, one of 64 bits 20
abbrev pub most_of : Piece → ℕ
most_of (word text) = length text
most_of (number n) = if nat_lt n (2 ^ 32) then 10 else 20
most_of (hexadecimal n v) = n

abbrev pub most_in : List Piece → ℕ
most_in [] = 0
most_in (p ∷ ps) = most_of p + most_in ps

abbrev pub are_64 : List Piece → Bool
are_64 [] = true
are_64 (word text ∷ ps) = are_64 ps
are_64 (number n ∷ ps) = nat_lt n (2 ^ 64) && are_64 ps
are_64 (hexadecimal n v ∷ ps) = are_64 ps

decimal_short : (n : ℕ) → n < 2 ^ 64 → length (decimal n) ≤ most_of (number n)
decimal_short n h = by (nat_lt n (2 ^ 32)) refl
  where
    by : (t : Bool) → nat_lt n (2 ^ 32) ≡ t → length (decimal n) ≤ (if t then 10 else 20)
    by true is = let low : n < 2 ^ 32 = ltb-true n (2 ^ 32) is in length-decimal-le 10 n (omega arith) (omega (arith, low)) h
    by false is = length-decimal-le 20 n (omega arith) (omega (arith, h)) h

pub spell_short : (ps : List Piece) → are_64 ps ≡ true → length (spell ps) ≤ most_in ps
spell_short [] h = omega arith
spell_short (word text ∷ ps) h = omega (arith, length-append text (spell ps), spell_short ps h)
spell_short (number n ∷ ps) h =
    let (here, more) = and_parts (nat_lt n (2 ^ 64)) (are_64 ps) h in
    omega (arith, length-append (decimal n) (spell ps), decimal_short n (ltb-true n (2 ^ 64) here), spell_short ps more)
spell_short (hexadecimal n v ∷ ps) h = omega (arith, length-append (hex n v) (spell ps), length-hex n v, spell_short ps h)

-- pieces that are short
pub record AreShort (most : ℕ) (ps : List Piece) : Type 0 where
  pub bits : are_64 ps ≡ true
  pub short : most_in ps ≤ most

pub short-append : (m n : ℕ) (ps qs : List Piece) → AreShort m ps → AreShort n qs → AreShort (m + n) (ps ++ qs)
short-append m n [] qs h k = record { bits = k.bits; short = omega (arith, k.short) }
short-append m n (word text ∷ ps) qs h k = one_more (short-append (most_in ps) n ps qs (record { bits = h.bits; short = omega arith }) k)
  where
    one_more : AreShort (most_in ps + n) (ps ++ qs) → AreShort (m + n) (word text ∷ (ps ++ qs))
    one_more more = record { bits = more.bits; short = omega (arith, more.short, h.short) }
short-append m n (number v ∷ ps) qs h k =
    let (here, later) = and_parts (nat_lt v (2 ^ 64)) (are_64 ps) h.bits in
    one_more here (short-append (most_in ps) n ps qs (record { bits = later; short = omega arith }) k)
  where
    one_more : nat_lt v (2 ^ 64) ≡ true → AreShort (most_in ps + n) (ps ++ qs) → AreShort (m + n) (number v ∷ (ps ++ qs))
    one_more here more = record { bits = and_from (nat_lt v (2 ^ 64)) (are_64 (ps ++ qs)) here more.bits; short = omega (arith, more.short, h.short) }
short-append m n (hexadecimal d v ∷ ps) qs h k = one_more (short-append (most_in ps) n ps qs (record { bits = h.bits; short = omega arith }) k)
  where
    one_more : AreShort (most_in ps + n) (ps ++ qs) → AreShort (m + n) (hexadecimal d v ∷ (ps ++ qs))
    one_more more = record { bits = more.bits; short = omega (arith, more.short, h.short) }

pub to_64 : (n : ℕ) → has_32 n ≡ true → nat_lt n (2 ^ 64) ≡ true
to_64 n h = let low : n < 2 ^ 32 = ltb-true n (2 ^ 32) h in lt-ltb n (2 ^ 64) (omega (arith, low))

short_cpu : (k : ℕ) (at : Option ℕ) → has_32 k ≡ true → AreShort 22 (word (codes "p") ∷ number k ∷ at_pieces at)
short_cpu k None h = record { bits = rw (to_64 k h) refl; short = rw h (omega arith) }
short_cpu k (Some address) h = record { bits = rw (to_64 k h) refl; short = rw h (omega arith) }

memory_small : (w : ℕ) → is_memory_width w ≡ true → w ≤ 8
memory_small w h = grind (arith, nat_tests)

port_small : (w : ℕ) → is_port_width w ≡ true → w ≤ 4
port_small w h = grind (arith, nat_tests)

width_bits : (w : ℕ) → w ≤ 8 → has_32 w ≡ true
width_bits w h = lt-ltb w (2 ^ 32) (omega (arith, h))

short_access : (a : Access) (seen : ℕ) → is_normal a ≡ true → AreShort 65 (access_pieces a seen)
short_access (Load addr w) seen h =
    let small = memory_small w h in
    record { bits = rw (to_64 w (width_bits w small)) refl; short = rw (width_bits w small) (omega (arith, small)) }
short_access (Store addr w value) seen h =
    let (known, low) = and_parts (is_memory_width w) (nat_lt value (256 ^ w)) h in
    let small = memory_small w known in
    record { bits = rw (to_64 w (width_bits w small)) refl; short = rw (width_bits w small) (omega (arith, small)) }
short_access (Swap addr expected desired) seen h = record { bits = refl; short = omega arith }
short_access (In port w) seen h =
    let small : w ≤ 8 = omega (arith, port_small w h) in
    record { bits = rw (to_64 w (width_bits w small)) refl; short = rw (width_bits w small) (omega (arith, small)) }
short_access (Out port w value) seen h =
    let (known, low) = and_parts (is_port_width w) (nat_lt value (256 ^ w)) h in
    let small : w ≤ 8 = omega (arith, port_small w known) in
    record { bits = rw (to_64 w (width_bits w small)) refl; short = rw (width_bits w small) (omega (arith, small)) }
short_access (CfgRead reg) seen h = record { bits = refl; short = omega arith }
short_access (CfgWrite reg value) seen h = record { bits = refl; short = omega arith }
short_access (Icr high low) seen h = record { bits = refl; short = omega arith }
short_access Halt seen h = record { bits = refl; short = omega arith }
short_access Nop seen h = record { bits = refl; short = omega arith }

-- a name of at most 13 bytes, and numbers
short_three : (name : List ℕ) (a b c : ℕ) → length name ≤ 13 → has_three a b c ≡ true
    → AreShort 60 (word name ∷ number a ∷ word (codes " ") ∷ number b ∷ word (codes " ") ∷ number c ∷ [])
short_three name a b c few h =
    let (x, more) = and_parts (has_32 a) (has_two b c) h in
    let (y, z) = and_parts (has_32 b) (has_32 c) more in
    record { bits = rw (to_64 a x, to_64 b y, to_64 c z) refl; short = rw (x, y, z) (omega (arith, few)) }

short_two : (name : List ℕ) (a b : ℕ) → length name ≤ 13 → has_32 a ≡ true → nat_lt b (2 ^ 64) ≡ true → AreShort 60 (word name ∷ number a ∷ word (codes " ") ∷ number b ∷ [])
short_two name a b few x y = record { bits = rw (to_64 a x, y) refl; short = rw x (by (nat_lt b (2 ^ 32))) }
  where
    by : (t : Bool) → length name + (10 + (1 + ((if t then 10 else 20) + 0))) ≤ 60
    by true = omega (arith, few)
    by false = omega (arith, few)

short_pair : (name : List ℕ) (a b : ℕ) → length name ≤ 13 → has_two a b ≡ true → AreShort 60 (word name ∷ number a ∷ word (codes " ") ∷ number b ∷ [])
short_pair name a b few h = let (x, y) = and_parts (has_32 a) (has_32 b) h in short_two name a b few x (to_64 b y)

short_status : (name : List ℕ) (a b : ℕ) → length name ≤ 13 → has_status a b ≡ true → AreShort 60 (word name ∷ number a ∷ word (codes " ") ∷ hexadecimal 2 b ∷ [])
short_status name a b few h =
    let (x, y) = and_parts (has_32 a) (nat_lt b (2 ^ 8)) h in
    record { bits = rw (to_64 a x) refl; short = rw x (omega (arith, few)) }

short_refusal : (r : Refusal) → refusal_fits r ≡ true → AreShort 60 (refusal_pieces r)
short_refusal (Disabled cpu status) h = short_status (codes "disabled ") cpu status (omega arith) h
short_refusal (Both cpu status) h = short_status (codes "both ") cpu status (omega arith) h
short_refusal (AlreadyKnown cpu apic slot) h = short_three (codes "alreadyknown ") cpu apic slot (omega arith) h
short_refusal (GateHeld cpu apic held) h = short_three (codes "gateheld ") cpu apic held (omega arith) h
short_refusal (NotAtGate cpu apic) h = short_pair (codes "notatgate ") cpu apic (omega arith) h
short_refusal (NotCheckedIn cpu apic) h = short_pair (codes "notcheckedin ") cpu apic (omega arith) h
short_refusal (NoUnplug cpu features) h = let (x, y) = and_parts (has_32 cpu) (nat_lt features (2 ^ 64)) h in short_two (codes "nounplug ") cpu features (omega arith) x y
short_refusal (NotKnown cpu apic) h = short_pair (codes "notknown ") cpu apic (omega arith) h
short_refusal (NotArrived cpu apic) h = short_pair (codes "notarrived ") cpu apic (omega arith) h
short_refusal (NotParked cpu apic) h = short_pair (codes "notparked ") cpu apic (omega arith) h
short_refusal (Foreign cpu apic) h = short_pair (codes "foreign ") cpu apic (omega arith) h
short_refusal (StillPending cpu status) h = short_status (codes "stillpending ") cpu status (omega arith) h

short_outcome : (o : Outcome) → outcome_fits o ≡ true → AreShort 60 (outcome_pieces o)
short_outcome (Added cpu apic slot) h = short_three (codes "added ") cpu apic slot (omega arith) h
short_outcome (Ejected cpu apic slot) h = short_three (codes "ejected ") cpu apic slot (omega arith) h
short_outcome (Refused r) h = short_refusal r h

short_host : (name : List ℕ) (k : ℕ) → length name ≤ 7 → has_32 k ≡ true → AreShort 22 (word (codes "host ") ∷ word name ∷ number k ∷ [])
short_host name k few h = record { bits = rw (to_64 k h) refl; short = rw h (omega (arith, few)) }

short_word : (name : List ℕ) → length name ≤ 65 → AreShort 65 (word name ∷ [])
short_word name few = record { bits = refl; short = omega (arith, few) }

short_told : (o : Outcome) → outcome_fits o ≡ true → AreShort 65 (word (codes "tell ") ∷ outcome_pieces o)
short_told o h = let is = short_outcome o h in record { bits = is.bits; short = omega (arith, is.short) }

-- each line has at most 22 bytes in front of the step, which has at most 65
short_entry : (event : Event) (at : Option ℕ) (answer : Answer) → is_written (record { event = event; at = at; answer = answer }) event ≡ true
    → AreShort 87 (actor_pieces event at ++ event_pieces event (value_in answer))
short_entry (Insert k) at answer h = let (small, more) = and_parts (has_32 k) _ h in let is = short_host (codes "insert ") k (omega arith) small in record { bits = is.bits; short = omega (arith, is.short) }
short_entry (Remove k) at answer h = let (small, more) = and_parts (has_32 k) _ h in let is = short_host (codes "remove ") k (omega arith) small in record { bits = is.bits; short = omega (arith, is.short) }
short_entry (Do k a) at answer h =
    let (small, more) = and_parts (has_32 k) _ h in
    let (either, fit) = and_parts (is_either at) (access_fits a answer) more in
    let (normal, others) = and_parts (is_normal a) _ fit in
    short-append 22 65 (word (codes "p") ∷ number k ∷ at_pieces at) (access_pieces a (value_in answer)) (short_cpu k at small) (short_access a (value_in answer) normal)
short_entry (TakeSmi k) at answer h =
    let (small, more) = and_parts (has_32 k) _ h in
    short-append 22 65 (word (codes "p") ∷ number k ∷ at_pieces at) (word (codes "smi") ∷ []) (short_cpu k at small) (short_word (codes "smi") (omega arith))
short_entry (TakeInit k) at answer h =
    let (small, more) = and_parts (has_32 k) _ h in
    short-append 22 65 (word (codes "p") ∷ number k ∷ at_pieces at) (word (codes "init") ∷ []) (short_cpu k at small) (short_word (codes "init") (omega arith))
short_entry (Resume k) at answer h =
    let (small, more) = and_parts (has_32 k) _ h in
    short-append 22 65 (word (codes "p") ∷ number k ∷ at_pieces at) (word (codes "rsm") ∷ []) (short_cpu k at small) (short_word (codes "rsm") (omega arith))
short_entry (Tell o) at answer h =
    let (fit, more) = and_parts (outcome_fits o) _ h in
    short-append 22 65 (word (codes "p") ∷ number 0 ∷ at_pieces at) (word (codes "tell ") ∷ outcome_pieces o) (short_cpu 0 at refl) (short_told o fit)

pub lines_are_short : (text : List ℕ) (e : Entry) → entry_of text ≡ Some e → length text < 100
lines_are_short text e found =
    let is = entry_is text e found in
    let short = short_entry e.event e.at e.answer is.fit in
    let most = spell_short (entry_pieces e) short.bits in
    omega (arith, ap length is.spelled, most, short.short)
