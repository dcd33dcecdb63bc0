-- A text judged byte by byte, with no more of an unfinished line than a line of the grammar can have.
use Rattle.std.proofs.Common.{◌≡◌, ℕ, ◌+◌, ◌^◌, ◌==◌, ◌<◌, ◌≤◌, nat_lt, not, Bool, true, false, List, [], ◌∷◌, ◌++◌, length, codes, Option, Some, None, Err, if◌then◌else◌, refl, sym, ap, subst, ◌∙◌, append_assoc, arith}
use Rattle.std.proofs.lemmas.Bool.{and_parts, and_from, eqb-true, ltb-false}
use Rattle.std.proofs.lemmas.List.{append_cancel_right, append-nil}
use Rattle.hp_model.specs.declared.platforms.Platform.{Platform}
use Rattle.hp_model.specs.declared.entries.Entry.{Entry}
use Rattle.hp_model.specs.Text.{word, number, spell, end_text}
use Rattle.hp_reading.specs.Fault.{Cause, Fault, Line, End}
use Rattle.hp_reading.specs.Header.{head_of}
use Rattle.hp_reading.specs.Lines.{entry_of, end_of}
use Rattle.hp_reading.specs.Trace.{Cut, onto, with_byte, cut}
use Rattle.hp_reading.proofs.HeaderLengths.{headers_are_short}
use Rattle.hp_reading.proofs.Lengths.{lines_are_short, most_in, spell_short}
use Rattle.hp_reading.proofs.TraceLines.{ends_are_read}
use Rattle.hp_judge.specs.Bytes.{Judged, nothing_judged, longest, overlong, lengthened, after_byte, after_bytes, has_no_feed, verdict_behind}
use Rattle.hp_judge.specs.Standing.{Standing, heading, going, ended, refused, refusing, is_refused, by_head, by_end, by_line, after_line, after_lines, verdict, verdict_of}
use Rattle.hp_judge.proofs.Lines.{refused_stays}

-- a line without a line feed at the front, and a text without one
not_is : (b : Bool) → not b ≡ true → b ≡ false
not_is true e = sym e
not_is false e = refl

cut-line : (line text : List ℕ) → has_no_feed line ≡ true → cut (line ++ 10 ∷ text) ≡ record { lines = line ∷ (cut text).lines; rest = (cut text).rest }
unfolding cut
cut-line [] text h = refl
cut-line (c ∷ line) text h =
    let (here, more) = and_parts (not (c == 10)) (has_no_feed line) h in
    ap (with_byte c) (cut-line line text more) ∙ rw (not_is (c == 10) here) refl

cut-rest : (rest : List ℕ) → has_no_feed rest ≡ true → cut rest ≡ record { lines = []; rest = rest }
unfolding cut
cut-rest [] h = refl
cut-rest (c ∷ rest) h =
    let (here, more) = and_parts (not (c == 10)) (has_no_feed rest) h in
    ap (with_byte c) (cut-rest rest more) ∙ rw (not_is (c == 10) here) refl

-- the first line, or what is behind the last one where there is none, has so many bytes
abbrev IsLong : ℕ → List (List ℕ) → List ℕ → Type 0
IsLong n [] rest = n ≤ length rest
IsLong n (l ∷ ls) rest = n ≤ length l

long_onto : (n c : ℕ) (ls : List (List ℕ)) (rest : List ℕ) → IsLong n ls rest → IsLong (n + 1) (onto c ls rest).lines (onto c ls rest).rest
long_onto n c [] rest h = omega (arith, h)
long_onto n c (l ∷ ls) rest h = omega (arith, h)

long_none : (ls : List (List ℕ)) (rest : List ℕ) → IsLong 0 ls rest
long_none [] rest = omega arith
long_none (l ∷ ls) rest = omega arith

long-cut : (front more : List ℕ) → has_no_feed front ≡ true → IsLong (length front) (cut (front ++ more)).lines (cut (front ++ more)).rest
unfolding cut
long-cut [] more h = long_none (cut more).lines (cut more).rest
long-cut (c ∷ front) more h =
    let (here, free) = and_parts (not (c == 10)) (has_no_feed front) h in
    rw (not_is (c == 10) here) (subst (λ (n : ℕ). IsLong n (onto c (cut (front ++ more)).lines (cut (front ++ more)).rest).lines (onto c (cut (front ++ more)).lines (cut (front ++ more)).rest).rest) (longer front) (long_onto (length front) c (cut (front ++ more)).lines (cut (front ++ more)).rest (long-cut front more free)))
  where
    longer : (front : List ℕ) → length front + 1 ≡ length (c ∷ front)
    longer front = omega arith

-- the end line is short
end_short : (text : List ℕ) (n : ℕ) → end_of text ≡ Some n → length text < 100
unfolding end_text
end_short text n found =
    let is = (ends_are_read text n).0 found in
    let same : text ≡ spell (word (codes "end ") ∷ number n ∷ []) = append_cancel_right text (spell (word (codes "end ") ∷ number n ∷ [])) (10 ∷ []) is.spelled in
    let most = spell_short (word (codes "end ") ∷ number n ∷ []) (and_from (nat_lt n (2 ^ 64)) true is.small refl) in
    omega (arith, ap length same, most, most_end n)
  where
    by : (t : Bool) → 4 + ((if t then 10 else 20) + 0) ≤ 24
    by true = omega arith
    by false = omega arith

    most_end : (n : ℕ) → most_in (word (codes "end ") ∷ number n ∷ []) ≤ 24
    most_end n = by (nat_lt n (2 ^ 32))

-- so a long line is none of the grammar
no_head : (l : List ℕ) → 12288 ≤ length l → head_of l ≡ None
no_head l long = by (head_of l) refl
  where
    by : (o : Option Platform) → head_of l ≡ o → o ≡ None
    by None is = refl
    by (Some p) is = absurd (omega (arith, long, headers_are_short l p is))

no_entry : (l : List ℕ) → 12288 ≤ length l → entry_of l ≡ None
no_entry l long = by (entry_of l) refl
  where
    by : (o : Option Entry) → entry_of l ≡ o → o ≡ None
    by None is = refl
    by (Some e) is = absurd (omega (arith, long, lines_are_short l e is))

no_end : (l : List ℕ) → 12288 ≤ length l → end_of l ≡ None
no_end l long = by (end_of l) refl
  where
    by : (o : Option ℕ) → end_of l ≡ o → o ≡ None
    by None is = refl
    by (Some n) is = absurd (omega (arith, long, end_short l n is))

-- a long line's verdict is known before it ends
at_refusal : (x : Standing) (line : ℕ) (cause : Cause) (ls : List (List ℕ)) (rest : List ℕ) → x ≡ refusing line cause → verdict (after_lines x ls) rest ≡ verdict (refusing line cause) []
at_refusal x line cause ls rest is = ap (λ (y : Standing). verdict (after_lines y ls) rest) is ∙ ap (λ (y : Standing). verdict y rest) (refused_stays ls (record { line = line; cause = cause }))

overlong_is : (x : Standing) (ls : List (List ℕ)) (rest : List ℕ) → IsLong 12288 ls rest → verdict (after_lines x ls) rest ≡ verdict (overlong x) []
unfolding after_lines after_line
overlong_is heading [] [] long = absurd (omega (arith, long))
overlong_is heading [] (c ∷ rest) long = refl
overlong_is heading (l ∷ ls) rest long = at_refusal (by_head (head_of l)) 1 Line ls rest (ap by_head (no_head l long))
overlong_is (going p s n) [] [] long = absurd (omega (arith, long))
overlong_is (going p s n) [] (c ∷ rest) long = refl
overlong_is (going p s n) (l ∷ ls) rest long =
    at_refusal (by_line p s n (entry_of l) (by_end n (end_of l))) (n + 2) Line ls rest
    (ap (λ (o : Option Entry). by_line p s n o (by_end n (end_of l))) (no_entry l long) ∙ ap (by_end n) (no_end l long))
overlong_is (ended n) [] [] long = absurd (omega (arith, long))
overlong_is (ended n) [] (c ∷ rest) long = refl
overlong_is (ended n) (l ∷ ls) rest long = at_refusal (refusing (n + 2) End) (n + 2) End ls rest refl
overlong_is (refused f) [] rest long = refl
overlong_is (refused f) (l ∷ ls) rest long = ap (λ (y : Standing). verdict y rest) (refused_stays ls f)

-- a refusal stays, whatever follows
pub refused_behind : (f : Fault) (rest more : List ℕ) → verdict_behind (record { standing = refused f; rest = rest }) more ≡ Err f
unfolding verdict_behind
refused_behind f rest more = ap (λ (y : Standing). verdict y (cut (rest ++ more)).rest) (refused_stays (cut (rest ++ more)).lines f)

-- one byte more
fed_end : (x : Standing) (rest more : List ℕ) → has_no_feed rest ≡ true → verdict_behind (record { standing = x; rest = rest }) (10 ∷ more) ≡ verdict_behind (record { standing = after_line x rest; rest = [] }) more
unfolding verdict_behind after_lines
fed_end x rest more free = ap (λ (k : Cut). verdict (after_lines x k.lines) k.rest) (cut-line rest more free)

fed_more : (x : Standing) (rest : List ℕ) (c : ℕ) (more : List ℕ) → verdict_behind (record { standing = x; rest = rest }) (c ∷ more) ≡ verdict_behind (record { standing = x; rest = rest ++ c ∷ [] }) more
unfolding verdict_behind
fed_more x rest c more = ap (λ (text : List ℕ). verdict (after_lines x (cut text).lines) (cut text).rest) (sym (append_assoc rest (c ∷ []) more))

longer : (n m : ℕ) (ls : List (List ℕ)) (rest : List ℕ) → n ≤ m → IsLong m ls rest → IsLong n ls rest
longer n m [] rest less long = omega (arith, less, long)
longer n m (l ∷ ls) rest less long = omega (arith, less, long)

over_behind : (x : Standing) (more : List ℕ) → verdict_behind (record { standing = overlong x; rest = [] }) more ≡ verdict (overlong x) []
unfolding verdict_behind
over_behind heading more = refused_behind (record { line = 1; cause = Line }) [] more
over_behind (going p s n) more = refused_behind (record { line = n + 2; cause = Line }) [] more
over_behind (ended n) more = refused_behind (record { line = n + 2; cause = End }) [] more
over_behind (refused f) more = refused_behind f [] more

fed_over : (x : Standing) (rest : List ℕ) (c : ℕ) (more : List ℕ) → has_no_feed rest ≡ true → 12288 ≤ length rest
    → verdict_behind (record { standing = x; rest = rest }) (c ∷ more) ≡ verdict_behind (record { standing = overlong x; rest = [] }) more
unfolding verdict_behind
fed_over x rest c more free long =
    overlong_is x (cut (rest ++ c ∷ more)).lines (cut (rest ++ c ∷ more)).rest (longer 12288 (length rest) _ _ long (long-cut rest (c ∷ more) free))
    ∙ sym (over_behind x more)

fed_byte : (j : Judged) (c : ℕ) (more : List ℕ) → has_no_feed j.rest ≡ true → verdict_behind j (c ∷ more) ≡ verdict_behind (after_byte j c) more
unfolding after_byte
fed_byte j c more free = by j.standing refl
  where
    short : (t : Bool) → nat_lt (length j.rest) longest ≡ t → verdict_behind j (c ∷ more) ≡ verdict_behind (lengthened j c t) more
    short true is = fed_more j.standing j.rest c more
    short false is = fed_over j.standing j.rest c more free (ltb-false (length j.rest) longest is)

    open_at : (t : Bool) → (c == 10) ≡ t
        → verdict_behind j (c ∷ more)
        ≡ verdict_behind (if t then record { standing = after_line j.standing j.rest; rest = [] } else lengthened j c (nat_lt (length j.rest) longest)) more
    open_at true is = ap (λ (d : ℕ). verdict_behind j (d ∷ more)) (eqb-true c 10 is) ∙ fed_end j.standing j.rest more free
    open_at false is = short (nat_lt (length j.rest) longest) refl

    by : (x : Standing) → j.standing ≡ x
        → verdict_behind j (c ∷ more)
        ≡ verdict_behind (if is_refused x then j else if c == 10 then record { standing = after_line j.standing j.rest; rest = [] } else lengthened j c (nat_lt (length j.rest) longest)) more
    by heading is = open_at (c == 10) refl
    by (going p s n) is = open_at (c == 10) refl
    by (ended n) is = open_at (c == 10) refl
    by (refused f) is =
        ap (λ (y : Standing). verdict_behind (record { standing = y; rest = j.rest }) (c ∷ more)) is ∙ refused_behind f j.rest (c ∷ more) ∙ sym (refused_behind f j.rest more)
        ∙ sym (ap (λ (y : Standing). verdict_behind (record { standing = y; rest = j.rest }) more) is)

-- no byte of a line that hasn't ended is a line feed
free-append : (a : List ℕ) (c : ℕ) → has_no_feed a ≡ true → (c == 10) ≡ false → has_no_feed (a ++ c ∷ []) ≡ true
free-append [] c h is = rw is refl
free-append (b ∷ a) c h is = let (here, more) = and_parts (not (b == 10)) (has_no_feed a) h in and_from (not (b == 10)) (has_no_feed (a ++ c ∷ [])) here (free-append a c more is)

free_byte : (j : Judged) (c : ℕ) → has_no_feed j.rest ≡ true → has_no_feed (after_byte j c).rest ≡ true
unfolding after_byte
free_byte j c free = by (is_refused j.standing)
  where
    short : (t : Bool) → (c == 10) ≡ false → has_no_feed (lengthened j c t).rest ≡ true
    short true is = free-append j.rest c free is
    short false is = refl

    open_at : (t : Bool) → (c == 10) ≡ t → has_no_feed (if t then record { standing = after_line j.standing j.rest; rest = [] } else lengthened j c (nat_lt (length j.rest) longest)).rest ≡ true
    open_at true is = refl
    open_at false is = short (nat_lt (length j.rest) longest) is

    by : (t : Bool) → has_no_feed (if t then j else if c == 10 then record { standing = after_line j.standing j.rest; rest = [] } else lengthened j c (nat_lt (length j.rest) longest)).rest ≡ true
    by true = free
    by false = open_at (c == 10) refl

free_bytes : (text : List ℕ) (j : Judged) → has_no_feed j.rest ≡ true → has_no_feed (after_bytes j text).rest ≡ true
unfolding after_bytes
free_bytes [] j free = free
free_bytes (c ∷ text) j free = free_bytes text (after_byte j c) (free_byte j c free)

fed_bytes : (text : List ℕ) (j : Judged) (more : List ℕ) → has_no_feed j.rest ≡ true → verdict_behind j (text ++ more) ≡ verdict_behind (after_bytes j text) more
unfolding after_bytes
fed_bytes [] j more free = refl
fed_bytes (c ∷ text) j more free = fed_byte j c (text ++ more) free ∙ fed_bytes text (after_byte j c) more (free_byte j c free)

-- the verdict of a text that begins so, and of the whole of it
starts : (text : List ℕ) → verdict_of text ≡ verdict_behind nothing_judged text
unfolding verdict_of verdict_behind
starts text = refl

pub begins_so : (text more : List ℕ) → verdict_of (text ++ more) ≡ verdict_behind (after_bytes nothing_judged text) more
begins_so text more = starts (text ++ more) ∙ fed_bytes text nothing_judged more refl

closed : (j : Judged) → has_no_feed j.rest ≡ true → verdict_behind j [] ≡ verdict j.standing j.rest
unfolding verdict_behind after_lines
closed j free = ap (λ (k : Cut). verdict (after_lines j.standing k.lines) k.rest) (ap cut (append-nil j.rest) ∙ cut-rest j.rest free)

pub ends_so : (text : List ℕ) → verdict_of text ≡ verdict (after_bytes nothing_judged text).standing (after_bytes nothing_judged text).rest
ends_so text = ap verdict_of (sym (append-nil text)) ∙ begins_so text [] ∙ closed (after_bytes nothing_judged text) (free_bytes text nothing_judged refl)

-- a refusal stays, byte by byte
pub byte_stays : (j : Judged) (c : ℕ) → is_refused j.standing ≡ true → j ≡ after_byte j c
unfolding after_byte
byte_stays j c is = rw is refl

refused_on : (text : List ℕ) (j : Judged) → is_refused j.standing ≡ true → is_refused (after_bytes j text).standing ≡ true
unfolding after_bytes
refused_on [] j is = is
refused_on (c ∷ text) j is = ap (λ (k : Judged). is_refused (after_bytes k text).standing) (sym (byte_stays j c is)) ∙ refused_on text j is

-- while nothing is refused, the lines that have ended led there
abbrev Leads : Judged → ℕ → List ℕ → Judged → Type 0
Leads j c text k = is_refused (after_bytes k text).standing ≡ false → after_lines j.standing (cut (j.rest ++ c ∷ text)).lines ≡ after_lines k.standing (cut (k.rest ++ text)).lines

pub over_refuses : (x : Standing) → is_refused (overlong x) ≡ true
over_refuses heading = refl
over_refuses (going p s n) = refl
over_refuses (ended n) = refl
over_refuses (refused f) = refl

never : {P : Type 0} (j : Judged) (text : List ℕ) → is_refused j.standing ≡ true → is_refused (after_bytes j text).standing ≡ false → P
never j text is other = no (sym (refused_on text j is) ∙ other)
  where
    no : {P : Type 0} → true ≡ false → P
    no e = absurd cc

leads_byte : (j : Judged) (c : ℕ) (text : List ℕ) → has_no_feed j.rest ≡ true → Leads j c text (after_byte j c)
unfolding after_byte after_lines
leads_byte j c text free = by (is_refused j.standing) refl
  where
    short : (t : Bool) → Leads j c text (lengthened j c t)
    short true open_still = ap (λ (text : List ℕ). after_lines j.standing (cut text).lines) (sym (append_assoc j.rest (c ∷ []) text))
    short false open_still = never (lengthened j c false) text (over_refuses j.standing) open_still

    line : (t : Bool) → (c == 10) ≡ t → Leads j c text (if t then record { standing = after_line j.standing j.rest; rest = [] } else lengthened j c (nat_lt (length j.rest) longest))
    line true is open_still = ap (λ (d : ℕ). after_lines j.standing (cut (j.rest ++ d ∷ text)).lines) (eqb-true c 10 is) ∙ ap (λ (k : Cut). after_lines j.standing k.lines) (cut-line j.rest text free)
    line false is open_still = short (nat_lt (length j.rest) longest) open_still

    by : (t : Bool) → is_refused j.standing ≡ t
        → Leads j c text (if t then j else if c == 10 then record { standing = after_line j.standing j.rest; rest = [] } else lengthened j c (nat_lt (length j.rest) longest))
    by true is open_still = never j text is open_still
    by false is open_still = line (c == 10) refl open_still

lines_so : (text : List ℕ) (j : Judged) → has_no_feed j.rest ≡ true → is_refused (after_bytes j text).standing ≡ false → after_lines j.standing (cut (j.rest ++ text)).lines ≡ (after_bytes j text).standing
unfolding after_bytes after_lines
lines_so [] j free open_still = ap (λ (k : Cut). after_lines j.standing k.lines) (ap cut (append-nil j.rest) ∙ cut-rest j.rest free)
lines_so (c ∷ text) j free open_still = leads_byte j c text free open_still ∙ lines_so text (after_byte j c) (free_byte j c free) open_still

pub unrefused : (text : List ℕ) → is_refused (after_bytes nothing_judged text).standing ≡ false → is_refused (after_lines heading (cut text).lines) ≡ false
unrefused text open_still = ap is_refused (lines_so text nothing_judged refl open_still) ∙ open_still
