-- No line holds a line feed before its end.
use Rattle.std.proofs.Common.{◌≡◌, ℕ, zero, suc, ◌/◌, ◌%◌, ◌==◌, ◌<◌, ◌&&◌, not, Bool, true, false, List, [], ◌∷◌, ◌++◌, codes, Option, Some, None, if◌then◌else◌, refl, arith}
use Rattle.std.proofs.lemmas.Bool.{and_parts, and_from}
use Rattle.std.proofs.lemmas.Bool.Decides.{nat_tests}
use Rattle.std.specs.Fmt.{decimal, digits, digits_onto, digit_glyph}
use Rattle.hp_model.specs.declared.platforms.Platform.{Platform}
use Rattle.hp_model.specs.declared.platforms.Delivery.{Delivery}
use Rattle.hp_model.specs.declared.platforms.Delivery.TheVariants.{Prompt, Late}
use Rattle.hp_model.specs.declared.accesses.Access.{Access}
use Rattle.hp_model.specs.declared.accesses.Access.TheVariants.{Load, Store, Swap, In, Out, CfgRead, CfgWrite, Icr, Halt, Nop}
use Rattle.hp_model.specs.declared.outcomes.Refusal.{Refusal}
use Rattle.hp_model.specs.declared.outcomes.Refusal.TheVariants.{Disabled, Both, AlreadyKnown, GateHeld, NotAtGate, NotCheckedIn, NoUnplug, NotKnown, NotArrived, NotParked, Foreign, StillPending}
use Rattle.hp_model.specs.declared.outcomes.Outcome.{Outcome}
use Rattle.hp_model.specs.declared.outcomes.Outcome.TheVariants.{Added, Ejected, Refused}
use Rattle.hp_model.specs.declared.entries.Event.{Event}
use Rattle.hp_model.specs.declared.entries.Event.TheVariants.{Insert, Remove, Do, TakeSmi, TakeInit, Resume, Tell}
use Rattle.hp_model.specs.declared.entries.Entry.{Entry}
use Rattle.hp_model.specs.Boot.{value_in}
use Rattle.hp_model.specs.Text.{Piece, word, number, hexadecimal, spell, hex, numbers_text, truth_text, ext_pieces, delivery_pieces, x2apic_pieces, head_pieces, access_pieces, at_pieces, refusal_pieces, outcome_pieces, actor_pieces, event_pieces}
use Rattle.hp_reading.proofs.EntryLines.{entry_pieces}

abbrev pub has_none : List ℕ → Bool
has_none [] = true
has_none (c ∷ text) = not (c == 10) && has_none text

none-append : (a b : List ℕ) → has_none a ≡ true → has_none b ≡ true → has_none (a ++ b) ≡ true
none-append [] b h k = k
none-append (c ∷ a) b h k =
    let (here, more) = and_parts (not (c == 10)) (has_none a) h in
    and_from (not (c == 10)) (has_none (a ++ b)) here (none-append a b more k)

glyph_is_none : (d : ℕ) → d < 16 → not (digit_glyph false d == 10) ≡ true
glyph_is_none d h = grind (arith, nat_tests)

none-hex : (n v : ℕ) → has_none (hex n v) ≡ true
unfolding hex
none-hex zero v = refl
none-hex (suc n) v = none-append (hex n (v / 16)) (digit_glyph false (v % 16) ∷ []) (none-hex n (v / 16)) (and_from _ true (glyph_is_none (v % 16) (omega arith)) refl)

none-onto : (k n : ℕ) (text : List ℕ) → has_none text ≡ true → has_none (digits_onto k 10 false n text) ≡ true
none-onto zero n text h = h
none-onto (suc k) n text h = by (n / 10 == 0) (none-onto k (n / 10) (digit_glyph false (n % 10) ∷ text))
  where
    more : has_none (digit_glyph false (n % 10) ∷ text) ≡ true
    more = and_from _ (has_none text) (glyph_is_none (n % 10) (omega arith)) h

    by : (t : Bool) → (has_none (digit_glyph false (n % 10) ∷ text) ≡ true → has_none (digits_onto k 10 false (n / 10) (digit_glyph false (n % 10) ∷ text)) ≡ true)
        → has_none (if t then digit_glyph false (n % 10) ∷ text else digits_onto k 10 false (n / 10) (digit_glyph false (n % 10) ∷ text)) ≡ true
    by true later = more
    by false later = later more

none-decimal : (n : ℕ) → has_none (decimal n) ≡ true
unfolding digits
none-decimal n = none-onto 64 n [] refl

none-numbers : (ns : List ℕ) → has_none (numbers_text ns) ≡ true
unfolding numbers_text
none-numbers [] = refl
none-numbers (n ∷ []) = none-decimal n
none-numbers (n ∷ (m ∷ ms)) = none-append (decimal n) _ (none-decimal n) (none-append (codes ",") (numbers_text (m ∷ ms)) refl (none-numbers (m ∷ ms)))

none-truth : (b : Bool) → has_none (truth_text b) ≡ true
none-truth true = refl
none-truth false = refl

-- words that hold none
abbrev are_free : List Piece → Bool
are_free [] = true
are_free (word text ∷ ps) = has_none text && are_free ps
are_free (number n ∷ ps) = are_free ps
are_free (hexadecimal n v ∷ ps) = are_free ps

none-spell : (ps : List Piece) → are_free ps ≡ true → has_none (spell ps) ≡ true
none-spell [] h = refl
none-spell (word text ∷ ps) h = let (here, more) = and_parts (has_none text) (are_free ps) h in none-append text (spell ps) here (none-spell ps more)
none-spell (number n ∷ ps) h = none-append (decimal n) (spell ps) (none-decimal n) (none-spell ps h)
none-spell (hexadecimal n v ∷ ps) h = none-append (hex n v) (spell ps) (none-hex n v) (none-spell ps h)

free-append : (ps qs : List Piece) → are_free ps ≡ true → are_free qs ≡ true → are_free (ps ++ qs) ≡ true
free-append [] qs h k = k
free-append (word text ∷ ps) qs h k =
    let (here, more) = and_parts (has_none text) (are_free ps) h in
    and_from (has_none text) (are_free (ps ++ qs)) here (free-append ps qs more k)
free-append (number n ∷ ps) qs h k = free-append ps qs h k
free-append (hexadecimal n v ∷ ps) qs h k = free-append ps qs h k

free-cpu : (k : ℕ) (at : Option ℕ) → are_free (word (codes "p") ∷ number k ∷ at_pieces at) ≡ true
free-cpu k None = refl
free-cpu k (Some address) = refl

free-actor : (e : Event) (at : Option ℕ) → are_free (actor_pieces e at) ≡ true
free-actor (Insert k) at = refl
free-actor (Remove k) at = refl
free-actor (Do k a) at = free-cpu k at
free-actor (TakeSmi k) at = free-cpu k at
free-actor (TakeInit k) at = free-cpu k at
free-actor (Resume k) at = free-cpu k at
free-actor (Tell o) at = free-cpu 0 at

free-access : (a : Access) (seen : ℕ) → are_free (access_pieces a seen) ≡ true
free-access (Load addr width) seen = refl
free-access (Store addr width value) seen = refl
free-access (Swap addr expected desired) seen = refl
free-access (In port width) seen = refl
free-access (Out port width value) seen = refl
free-access (CfgRead reg) seen = refl
free-access (CfgWrite reg value) seen = refl
free-access (Icr high low) seen = refl
free-access Halt seen = refl
free-access Nop seen = refl

free-refusal : (r : Refusal) → are_free (refusal_pieces r) ≡ true
free-refusal (Disabled cpu status) = refl
free-refusal (Both cpu status) = refl
free-refusal (AlreadyKnown cpu apic slot) = refl
free-refusal (GateHeld cpu apic held) = refl
free-refusal (NotAtGate cpu apic) = refl
free-refusal (NotCheckedIn cpu apic) = refl
free-refusal (NoUnplug cpu features) = refl
free-refusal (NotKnown cpu apic) = refl
free-refusal (NotArrived cpu apic) = refl
free-refusal (NotParked cpu apic) = refl
free-refusal (Foreign cpu apic) = refl
free-refusal (StillPending cpu status) = refl

free-outcome : (o : Outcome) → are_free (outcome_pieces o) ≡ true
free-outcome (Added cpu apic slot) = refl
free-outcome (Ejected cpu apic slot) = refl
free-outcome (Refused r) = free-refusal r

free-event : (e : Event) (seen : ℕ) → are_free (event_pieces e seen) ≡ true
free-event (Insert k) seen = refl
free-event (Remove k) seen = refl
free-event (Do k a) seen = free-access a seen
free-event (TakeSmi k) seen = refl
free-event (TakeInit k) seen = refl
free-event (Resume k) seen = refl
free-event (Tell o) seen = free-outcome o

pub none-entry : (e : Entry) → has_none (spell (entry_pieces e)) ≡ true
none-entry e = none-spell (entry_pieces e) (free-append (actor_pieces e.event e.at) _ (free-actor e.event e.at) (free-event e.event (value_in e.answer)))

free-ext : (b : Bool) → are_free (ext_pieces b) ≡ true
free-ext true = refl
free-ext false = refl

free-x2apic : (b : Bool) → are_free (x2apic_pieces b) ≡ true
free-x2apic true = refl
free-x2apic false = refl

free-delivery : (d : Delivery) → are_free (delivery_pieces d) ≡ true
free-delivery Prompt = refl
free-delivery (Late lag) = refl

pub none-header : (p : Platform) → has_none (spell (head_pieces p)) ≡ true
none-header p =
    none-spell (head_pieces p)
    (and_from (has_none (numbers_text p.apic)) _ (none-numbers p.apic)
    (and_from (has_none (numbers_text p.boot)) _ (none-numbers p.boot)
    (free-append (ext_pieces p.ext_tseg) _ (free-ext p.ext_tseg)
    (and_from (has_none (truth_text p.modern)) _ (none-truth p.modern)
    (and_from (has_none (truth_text p.default_smram)) _ (none-truth p.default_smram)
    (free-append (delivery_pieces p.delivery) _ (free-delivery p.delivery) (free-x2apic p.x2apic)))))))

pub none-end : (n : ℕ) → has_none (spell (word (codes "end ") ∷ number n ∷ [])) ≡ true
none-end n = none-spell (word (codes "end ") ∷ number n ∷ []) refl
