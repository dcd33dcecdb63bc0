-- A whole trace, written and read.
use Rattle.std.proofs.Common.{◌≡◌, ℕ, suc, ◌+◌, ◌^◌, ◌==◌, ◌<◌, nat_lt, nat_le, not, Bool, true, false, List, [], ◌∷◌, ◌++◌, length, codes, Option, Some, None, option_map, if◌then◌else◌, refl, sym, ap, subst, ◌∙◌, append_assoc, arith, ◌↔◌}
use Rattle.std.proofs.lemmas.Bool.{and_parts, and_from, eqb-true, eq-eqb, ltb-true, lt-ltb}
use Rattle.std.proofs.lemmas.List.{append_cancel_right}
use Rattle.std.proofs.lemmas.Option.{none-some, same_Some, option_and_then_some}
use Rattle.std.specs.List.{list_all}
use Rattle.std.specs.Fmt.{decimal}
use Rattle.hp_model.specs.declared.platforms.Platform.{Platform}
use Rattle.hp_model.specs.declared.entries.Entry.{Entry}
use Rattle.hp_model.specs.Platform.{IsFit}
use Rattle.hp_model.specs.Text.{spell, line_of, line_text, lines_text, head_pieces, head_text, end_text, trace_text}
use Rattle.hp_reading.specs.Forms.{past}
use Rattle.hp_reading.specs.Lines.{most64, one_decimal, entry_of, end_of}
use Rattle.hp_reading.specs.Lines as lines
use Rattle.hp_reading.specs.Written.{is_well_formed, IsEnd}
use Rattle.hp_reading.specs.Header.{head_of}
use Rattle.hp_reading.specs.Trace.{onto, with_byte, cut, ended, by_entry, entries_of, TraceContent, content_by, trace_of, IsTrace}
use Rattle.hp_reading.proofs.Front.{mapped}
use Rattle.hp_reading.proofs.Rows.{row_is, one-filled, one_is}
use Rattle.hp_reading.proofs.OutcomeLines.{to_64, from_64}
use Rattle.hp_reading.proofs.EntryLines.{entry_pieces, line_text-pieces, reads_entry, lines_are_read}
use Rattle.hp_reading.proofs.HeaderLines.{headers_are_read}
use Rattle.hp_reading.proofs.Feeds.{has_none, none-entry, none-header, none-end}

-- the end line
abbrev end_line : ℕ → List ℕ
end_line n = codes "end " ++ (decimal n ++ [])

at_end : (t : List ℕ) → end_of (codes "end " ++ t) ≡ lines.one (one_decimal most64) (λ entries. entries) t
unfolding end_of past
at_end t = refl

reads_end : (n : ℕ) → nat_lt n (2 ^ 64) ≡ true → end_of (end_line n) ≡ Some n
reads_end n h = at_end _ ∙ one-filled (one_decimal most64) (λ entries. entries) n refl (and_from (nat_le n most64) true (to_64 n h) refl)

-- is no entry's
end_is_no_entry : (n : ℕ) → entry_of (end_line n) ≡ None
unfolding entry_of past
end_is_no_entry n = refl

record IsEndLine (text : List ℕ) (n : ℕ) : Type 0 where
  small : nat_lt n (2 ^ 64) ≡ true
  spelled : text ≡ end_line n

end_is : (text : List ℕ) (n : ℕ) → end_of text ≡ Some n → IsEndLine text n
unfolding end_of
end_is text n e =
    row_is IsEndLine (codes "end ") text (lines.one (one_decimal most64) (λ entries. entries)) None n e
    (λ rest found. one_is (one_decimal most64) rest n refl (λ entries. entries) found
    (λ m fit is same.
    let (small, last) = and_parts (nat_le m most64) true fit in
    subst (IsEndLine (codes "end " ++ rest)) same (record { small = from_64 m small; spelled = rw is refl })))
    (λ none. absurd (none-some n none))

pub ends_are_read : (text : List ℕ) (n : ℕ) → (end_of text ≡ Some n) ↔ IsEnd text n
unfolding end_text
ends_are_read text n = (there, back)
  where
    there : end_of text ≡ Some n → IsEnd text n
    there e = let is = end_is text n e in record { small = is.small; spelled = ap line_of is.spelled }

    back : IsEnd text n → end_of text ≡ Some n
    back is = ap end_of (append_cancel_right text (end_line n) (10 ∷ []) is.spelled) ∙ reads_end n is.small

-- lines are cut at their line feeds
not_is : (b : Bool) → not b ≡ true → b ≡ false
not_is true e = sym e
not_is false e = refl

cut-line : (line text : List ℕ) → has_none line ≡ true → cut (line ++ 10 ∷ text) ≡ record { lines = line ∷ (cut text).lines; rest = (cut text).rest }
unfolding cut
cut-line [] text h = refl
cut-line (c ∷ line) text h =
    let (here, more) = and_parts (not (c == 10)) (has_none line) h in
    ap (with_byte c) (cut-line line text more) ∙ rw (not_is (c == 10) here) refl

-- and put together again
abbrev joined : List (List ℕ) → List ℕ → List ℕ
joined [] rest = rest
joined (l ∷ ls) rest = l ++ 10 ∷ joined ls rest

joined-onto : (c : ℕ) (ls : List (List ℕ)) (rest : List ℕ) → joined (onto c ls rest).lines (onto c ls rest).rest ≡ c ∷ joined ls rest
joined-onto c [] rest = refl
joined-onto c (l ∷ ls) rest = refl

joined-cut : (text : List ℕ) → joined (cut text).lines (cut text).rest ≡ text
unfolding cut
joined-cut [] = refl
joined-cut (c ∷ text) = by (c == 10) refl (joined-cut text)
  where
    by : (t : Bool) → (c == 10) ≡ t → joined (cut text).lines (cut text).rest ≡ text
        → joined (if t then record { lines = [] ∷ (cut text).lines; rest = (cut text).rest } else onto c (cut text).lines (cut text).rest).lines
        (if t then record { lines = [] ∷ (cut text).lines; rest = (cut text).rest } else onto c (cut text).lines (cut text).rest).rest ≡ c ∷ text
    by true is later = rw (eqb-true c 10 is) (ap (λ t. 10 ∷ t) later)
    by false is later = joined-onto c (cut text).lines (cut text).rest ∙ ap (λ t. c ∷ t) later

line_then : (a text : List ℕ) → line_of a ++ text ≡ a ++ 10 ∷ text
line_then a text = append_assoc a (10 ∷ []) text

-- the entries and the end line are read as they are spelled
record Gives (n : ℕ) (es : List Entry) (text : List ℕ) : Type 0 where
  lines : entries_of n (cut text).lines ≡ Some es
  rest : (cut text).rest ≡ []

gives_end : (n : ℕ) → nat_lt n (2 ^ 64) ≡ true → Gives n [] (end_text n)
unfolding entries_of end_text cut
gives_end n h =
    let is : cut (end_line n ++ 10 ∷ []) ≡ record { lines = end_line n ∷ []; rest = [] } = cut-line (end_line n) [] (none-end n) in
    record {
      lines = ap (λ c. entries_of n c.lines) is ∙ rw (end_is_no_entry n, reads_end n h) (rw (eq-eqb n n refl) refl);
      rest = ap (λ c. c.rest) is;
    }

gives_more : (n : ℕ) (e : Entry) (es : List Entry) (text : List ℕ) → is_well_formed e ≡ true → Gives (n + 1) es text → Gives n (e ∷ es) (line_text e ++ text)
unfolding entries_of
gives_more n e es text h more =
    let front : line_text e ++ text ≡ spell (entry_pieces e) ++ 10 ∷ text = ap (λ t. t ++ text) (line_text-pieces e) ∙ line_then (spell (entry_pieces e)) text in
    let is : cut (line_text e ++ text) ≡ record { lines = spell (entry_pieces e) ∷ (cut text).lines; rest = (cut text).rest } =
    ap cut front ∙ cut-line (spell (entry_pieces e)) text (none-entry e) in
    record {
      lines = ap (λ c. entries_of n c.lines) is ∙ rw (reads_entry e h) (ap (option_map (λ es. e ∷ es)) more.lines);
      rest = ap (λ c. c.rest) is ∙ more.rest;
    }

gives_all : (es : List Entry) (n : ℕ) → list_all is_well_formed es ≡ true → n + length es < 2 ^ 64 → Gives n es (lines_text es ++ end_text (n + length es))
gives_all [] n h few =
    let same : n + 0 ≡ n = omega arith in
    rw same (gives_end n (lt-ltb n (2 ^ 64) (omega (arith, few))))
gives_all (e ∷ es) n h few =
    let (here, more) = and_parts (is_well_formed e) (list_all is_well_formed es) h in
    let same : n + suc (length es) ≡ n + 1 + length es = omega arith in
    rw (append_assoc (line_text e) (lines_text es) (end_text (n + length (e ∷ es))))
    (gives_more n e es _ here (rw same (gives_all es (n + 1) more (omega (arith, few)))))

-- and spelled as they are read
record AreSpelled (n : ℕ) (es : List Entry) (text : List ℕ) : Type 0 where
  well_formed : list_all is_well_formed es ≡ true
  few : n + length es < 2 ^ 64
  spelled : text ≡ lines_text es ++ end_text (n + length es)

spelled_end : (n : ℕ) (line : List ℕ) (ls : List (List ℕ)) (es : List Entry) (o : Option ℕ) → end_of line ≡ o → ended n ls o ≡ Some es → AreSpelled n es (line ++ 10 ∷ joined ls [])
spelled_end n line ls es None is e = absurd (none-some es e)
spelled_end n line (l ∷ ls) es (Some m) is e = absurd (none-some es e)
spelled_end n line [] es (Some m) is e = by (m == n) refl e
  where
    by : (t : Bool) → (m == n) ≡ t → (if t then Some [] else None) ≡ Some es → AreSpelled n es (line ++ 10 ∷ [])
    by false other e = absurd (none-some es e)
    by true same e =
        let end = (ends_are_read line m).0 is in
        let small : m < 2 ^ 64 = ltb-true m (2 ^ 64) end.small in
        let number : m ≡ n = eqb-true m n same in
        let count : n + 0 ≡ n = omega arith in
        subst (λ es. AreSpelled n es (line ++ 10 ∷ [])) (same_Some [] es e) (record {
          well_formed = refl;
          few = omega (arith, small, number);
          spelled = end.spelled ∙ ap end_text (number ∙ sym count);
        })

spelled_more : (n : ℕ) (line : List ℕ) (e : Entry) (es : List Entry) (text : List ℕ) → entry_of line ≡ Some e → AreSpelled (n + 1) es text → AreSpelled n (e ∷ es) (line ++ 10 ∷ text)
spelled_more n line e es text is more =
    let entry = (lines_are_read line e).0 is in
    let same : n + 1 + length es ≡ n + suc (length es) = omega arith in
    record {
      well_formed = and_from (is_well_formed e) (list_all is_well_formed es) entry.well_formed more.well_formed;
      few = omega (arith, more.few);
      spelled =
          sym (line_then line text)
          ∙ (ap (λ t. t ++ text) entry.spelled
          ∙ (ap (λ t. line_text e ++ t) (more.spelled ∙ ap (λ m. lines_text es ++ end_text m) same)
          ∙ sym (append_assoc (line_text e) (lines_text es) (end_text (n + suc (length es))))));
    }

entries_are : (n : ℕ) (ls : List (List ℕ)) (es : List Entry) → entries_of n ls ≡ Some es → AreSpelled n es (joined ls [])
unfolding entries_of
entries_are n [] es e = absurd (none-some es e)
entries_are n (l ∷ ls) es e = by (entry_of l) refl (λ fs. entries_are (n + 1) ls fs) e
  where
    by : (o : Option Entry) → entry_of l ≡ o → ((fs : List Entry) → entries_of (n + 1) ls ≡ Some fs → AreSpelled (n + 1) fs (joined ls []))
        → by_entry o (λ e. option_map (λ es. e ∷ es) (entries_of (n + 1) ls)) (ended n ls (end_of l)) ≡ Some es → AreSpelled n es (l ++ 10 ∷ joined ls [])
    by None is later e = spelled_end n l ls es (end_of l) refl e
    by (Some x) is later e =
        mapped (λ es. x ∷ es) (entries_of (n + 1) ls) es e
        (λ fs found same. subst (λ es. AreSpelled n es (l ++ 10 ∷ joined ls [])) same (spelled_more n l x fs (joined ls []) is (later fs found)))

-- a header before them
header_text : (p : Platform) (text : List ℕ) → head_text p ++ text ≡ spell (head_pieces p) ++ 10 ∷ text
unfolding head_text
header_text p text = line_then (spell (head_pieces p)) text

reads_header : (p : Platform) → IsFit p → head_of (spell (head_pieces p)) ≡ Some p
unfolding head_text
reads_header p fit = (headers_are_read (spell (head_pieces p)) p).1 (record { fit = fit; spelled = refl })

reads_trace : (p : Platform) (es : List Entry) → IsFit p → list_all is_well_formed es ≡ true → length es < 2 ^ 64 → trace_of (trace_text p es) ≡ Some (record { platform = p; entries = es })
unfolding trace_of
reads_trace p es fit h few =
    let count : 0 + length es ≡ length es = omega arith in
    let body = lines_text es ++ end_text (length es) in
    let gives : Gives 0 es body = rw count at (gives_all es 0 h (omega (arith, few))) in
    let is : cut (trace_text p es) ≡ record { lines = spell (head_pieces p) ∷ (cut body).lines; rest = (cut body).rest } =
    ap cut (header_text p body) ∙ cut-line (spell (head_pieces p)) body (none-header p) in
    ap (λ c. content_by c.lines c.rest) is
    ∙ (ap (content_by (spell (head_pieces p) ∷ (cut body).lines)) gives.rest
    ∙ rw (reads_header p fit) (ap (option_map (λ es. record { platform = p; entries = es })) gives.lines))

trace_is : (text : List ℕ) (t : TraceContent) (ls : List (List ℕ)) (rest : List ℕ) → joined ls rest ≡ text → content_by ls rest ≡ Some t → IsTrace text t
trace_is text t [] rest is e = absurd (none-some t e)
trace_is text t (l ∷ ls) (c ∷ rest) is e = absurd (none-some t e)
trace_is text t (l ∷ ls) [] is e =
    option_and_then_some (λ p. option_map (λ es. record { platform = p; entries = es }) (entries_of 0 ls)) (head_of l) t e
    (λ p named more. mapped (λ es. record { platform = p; entries = es }) (entries_of 0 ls) t more
    (λ es found same.
    let header = (headers_are_read l p).0 named in
    let entries = entries_are 0 ls es found in
    let count : 0 + length es ≡ length es = omega arith in
    subst (IsTrace text) same (record {
      fit = header.fit;
      well_formed = entries.well_formed;
      few = omega (arith, entries.few);
      spelled =
          sym is
          ∙ (sym (line_then l (joined ls []))
          ∙ (ap (λ t. t ++ joined ls []) header.spelled
          ∙ ap (λ t. head_text p ++ t) (entries.spelled ∙ ap (λ m. lines_text es ++ end_text m) count)));
    })))

-- the texts that are read as a trace are the traces of platforms that fit
pub traces_are_read : (text : List ℕ) (t : TraceContent) → (trace_of text ≡ Some t) ↔ IsTrace text t
unfolding trace_of
traces_are_read text t = (there, back)
  where
    there : trace_of text ≡ Some t → IsTrace text t
    there e = trace_is text t (cut text).lines (cut text).rest (joined-cut text) e

    back : IsTrace text t → trace_of text ≡ Some t
    back is = ap trace_of is.spelled ∙ reads_trace t.platform t.entries is.fit is.well_formed is.few
