-- A piece of a text, taken at once: it is what its bytes come to, one after the other.
use Rattle.std.proofs.Common.{◌≡◌, ℕ, ◌+◌, ◌-◌, ◌==◌, ◌<◌, ◌≤◌, nat_lt, not, Bool, true, false, List, [], ◌∷◌, ◌++◌, length, refl, sym, ap, ◌∙◌, append_assoc, arith}
use Rattle.std.proofs.lemmas.Bool.{and_parts, ltb-true, ltb-false}
use Rattle.std.proofs.lemmas.List.{append-nil, length-append}
use Rattle.hp_judge.specs.Bytes.{Judged, overlong, after_byte, after_bytes, has_no_feed}
use Rattle.hp_judge.specs.Judging.{HasFront}
use Rattle.hp_judge.specs.Standing.{Standing, heading, going, ended, refused, is_refused, after_line}
use Rattle.hp_judge.proofs.Bytes.{byte_stays, over_refuses}
use Rattle.hp_judge.proofs.Telling.{byte_ends, byte_more, byte_over}

-- one piece behind another
pub after-append : (front text : List ℕ) (j : Judged) → after_bytes j (front ++ text) ≡ after_bytes (after_bytes j front) text
unfolding after_bytes
after-append [] text j = refl
after-append (c ∷ front) text j = after-append front text (after_byte j c)

-- a line feed alone
pub after-feed : (j : Judged) → after_bytes j (10 ∷ []) ≡ after_byte j 10
unfolding after_bytes
after-feed j = refl

-- behind a refusal no byte counts
pub bytes_stay : (text : List ℕ) (j : Judged) → is_refused j.standing ≡ true → j ≡ after_bytes j text
unfolding after_bytes
bytes_stay [] j is = refl
bytes_stay (c ∷ text) j is = bytes_stay text j is ∙ ap (λ (k : Judged). after_bytes k text) (byte_stays j c is)

no_feed : (c : ℕ) → not (c == 10) ≡ true → c ≡ 10 → ⊥
no_feed c free is = clash (sym free ∙ ap (λ (b : ℕ). not (b == 10)) is)
  where
    clash : true ≡ false → ⊥
    clash e = absurd cc

longer_by : (rest : List ℕ) (c : ℕ) → length (rest ++ c ∷ []) ≡ length rest + 1
longer_by rest c = omega (arith, length-append rest (c ∷ []))

-- bytes of a line that isn't too long
pub bytes_kept : (text rest : List ℕ) (x : Standing) → is_refused x ≡ false → has_no_feed text ≡ true → length text ≤ 12288 - length rest
    → record { standing = x; rest = rest ++ text } ≡ after_bytes (record { standing = x; rest = rest }) text
unfolding after_bytes
bytes_kept [] rest x going_on free short = ap (λ (kept : List ℕ). record { standing = x; rest = kept }) (append-nil rest)
bytes_kept (c ∷ text) rest x going_on free short =
    let (here, more) = and_parts (not (c == 10)) (has_no_feed text) free in
    ap (λ (kept : List ℕ). record { standing = x; rest = kept }) (sym (append_assoc rest (c ∷ []) text))
    ∙ bytes_kept text (rest ++ c ∷ []) x going_on more (omega (arith, short, longer_by rest c))
    ∙ ap (λ (j : Judged). after_bytes j text) (byte_more x x rest (rest ++ c ∷ []) c going_on (no_feed c here) (omega (arith, short)) refl refl)

-- and of one that becomes too long
pub bytes_over : (text rest : List ℕ) (x : Standing) → is_refused x ≡ false → has_no_feed text ≡ true → 12288 - length rest < length text
    → record { standing = overlong x; rest = [] } ≡ after_bytes (record { standing = x; rest = rest }) text
unfolding after_bytes
bytes_over [] rest x going_on free long = absurd (omega (arith, long))
bytes_over (c ∷ text) rest x going_on free long =
    let (here, more) = and_parts (not (c == 10)) (has_no_feed text) free in
    by (nat_lt (length rest) 12288) refl (no_feed c here) (λ longer. bytes_over text (rest ++ c ∷ []) x going_on more longer)
  where
    by : (t : Bool) → nat_lt (length rest) 12288 ≡ t → (c ≡ 10 → ⊥)
        → (12288 - length (rest ++ c ∷ []) < length text → record { standing = overlong x; rest = [] } ≡ after_bytes (record { standing = x; rest = rest ++ c ∷ [] }) text)
        → record { standing = overlong x; rest = [] } ≡ after_bytes (after_byte (record { standing = x; rest = rest }) c) text
    by true is other later =
        later (omega (arith, long, longer_by rest c, ltb-true (length rest) 12288 is))
        ∙ ap (λ (j : Judged). after_bytes j text) (byte_more x x rest (rest ++ c ∷ []) c going_on other (ltb-true (length rest) 12288 is) refl refl)
    by false is other later =
        bytes_stay text (record { standing = overlong x; rest = [] }) (over_refuses x)
        ∙ ap (λ (j : Judged). after_bytes j text) (byte_over x (overlong x) rest [] c going_on other (ltb-false (length rest) 12288 is) refl refl)

pub over_taken : (text rest new : List ℕ) (x y : Standing) → is_refused x ≡ false → has_no_feed text ≡ true → 12288 - length rest < length text → y ≡ overlong x → new ≡ []
    → record { standing = y; rest = new } ≡ after_bytes (record { standing = x; rest = rest }) text
over_taken text rest new x y going_on free long to empty = rw (to, empty) (bytes_over text rest x going_on free long)

-- a line that lies in the piece whole, with its line feed
refused_line : (x : Standing) (line : List ℕ) → is_refused x ≡ true → after_line x line ≡ x
unfolding after_line
refused_line heading line is = absurd cc
refused_line (going p s n) line is = absurd cc
refused_line (ended n) line is = absurd cc
refused_line (refused f) line is = refl

pub line_taken : (x y : Standing) (line : List ℕ) → has_no_feed line ≡ true → length line ≤ 12288 → y ≡ after_line x line
    → record { standing = y; rest = [] } ≡ after_bytes (record { standing = x; rest = [] }) (line ++ 10 ∷ [])
line_taken x y line free short to = by (is_refused x) refl
  where
    from : Judged
    from = record { standing = x; rest = [] }

    by : (t : Bool) → is_refused x ≡ t → record { standing = y; rest = [] } ≡ after_bytes from (line ++ 10 ∷ [])
    by true is = ap (λ (z : Standing). record { standing = z; rest = [] }) (to ∙ refused_line x line is) ∙ bytes_stay (line ++ 10 ∷ []) from is
    by false is =
        byte_ends x y line [] 10 is refl to refl
        ∙ sym (after-feed (record { standing = x; rest = line }))
        ∙ ap (λ (j : Judged). after_bytes j (10 ∷ [])) (bytes_kept line [] x is free (omega (arith, short)))
        ∙ sym (after-append line (10 ∷ []) from)

-- bytes at the front were taken, and these are left of the piece
pub record HasTaken (old bytes new left : List ℕ) : Type 0 where
  pub front : List ℕ
  pub whole : front ++ left ≡ bytes
  pub taken : new ≡ old ++ front

pub none_taken : (old bytes : List ℕ) → HasTaken old bytes old bytes
none_taken old bytes = record { front = []; whole = refl; taken = sym (append-nil old) }

pub line_more : (old bytes new newer left line more : List ℕ) → HasTaken old bytes new left → left ≡ line ++ 10 ∷ more → newer ≡ new ++ (line ++ 10 ∷ []) → HasTaken old bytes newer more
line_more old bytes new newer left line more has is to = record {
  front = has.front ++ (line ++ 10 ∷ []);
  whole = append_assoc has.front (line ++ 10 ∷ []) more ∙ ap (λ (text : List ℕ). has.front ++ text) (append_assoc line (10 ∷ []) more ∙ sym is) ∙ has.whole;
  taken = to ∙ ap (λ (text : List ℕ). text ++ (line ++ 10 ∷ [])) has.taken ∙ append_assoc old has.front (line ++ 10 ∷ []);
}

pub front_taken : (old bytes new newer left line more : List ℕ) → HasTaken old bytes new left → left ≡ line ++ 10 ∷ more → HasFront new (line ++ 10 ∷ []) newer → HasFront old bytes newer
front_taken old bytes new newer left line more has is to = record {
  front = has.front ++ to.front;
  rest = to.rest ++ more;
  whole =
      append_assoc has.front to.front (to.rest ++ more)
      ∙ ap (λ (text : List ℕ). has.front ++ text)
      (sym (append_assoc to.front to.rest more) ∙ ap (λ (text : List ℕ). text ++ more) to.whole ∙ append_assoc line (10 ∷ []) more ∙ sym is)
      ∙ has.whole;
  taken = to.taken ∙ ap (λ (text : List ℕ). text ++ to.front) has.taken ∙ append_assoc old has.front to.front;
}

pub nothing_more : (old bytes new left : List ℕ) → HasTaken old bytes new left → HasFront old bytes new
nothing_more old bytes new left has = record { front = has.front; rest = left; whole = has.whole; taken = has.taken }

pub all_taken : (old bytes new newer left : List ℕ) → HasTaken old bytes new left → newer ≡ new ++ left → newer ≡ old ++ bytes
all_taken old bytes new newer left has to =
    to ∙ ap (λ (text : List ℕ). text ++ left) has.taken ∙ append_assoc old has.front left ∙ ap (λ (text : List ℕ). old ++ text) has.whole
