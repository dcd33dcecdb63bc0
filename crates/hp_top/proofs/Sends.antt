-- A text that is sent piece by piece: what each piece adds.
use Rattle.std.proofs.Common.{◌≡◌, ℕ, List, [], ◌∷◌, ◌++◌, length, take, drop, Option, refl, sym, ◌∙◌, ap, subst, append_assoc}
use Rattle.std.proofs.lemmas.List.{append-nil, take-append-drop}
use Rattle.std.proofs.KnownBytes.{Appends-trans, Appends-nil, Appends-kept}
use Rattle.std.specs.Io.KnownBytes.{Appends, Keeps}
use Rattle.hp_model.specs.declared.entries.Entry.{Entry}
use Rattle.hp_model.specs.declared.platforms.Platform.{Platform}
use Rattle.hp_model.specs.Text.{end_text, head_text, line_text, lines_text, trace_text}
use Rattle.hp_top.specs.Sent.{IsSent, HoldsFront}

pub sent_none : (a : Option (List ℕ)) (whole : List ℕ) → IsSent a a whole whole
sent_none a whole = record { front = []; text = refl; grown = Appends-nil a }

-- a piece more
pub sent_more : (a b c : Option (List ℕ)) (piece rest whole : List ℕ) → IsSent a b (piece ++ rest) whole → Appends b c piece → IsSent a c rest whole
sent_more a b c piece rest whole sent grown = record {
  front = sent.front ++ piece;
  text = append_assoc sent.front piece rest ∙ sent.text;
  grown = Appends-trans a b c sent.front piece sent.grown grown;
}

-- the front of what is left
pub sent_take : (a b c : Option (List ℕ)) (n : ℕ) (rest whole : List ℕ) → IsSent a b rest whole → Appends b c (take n rest) → IsSent a c (drop n rest) whole
sent_take a b c n rest whole sent grown =
    sent_more a b c (take n rest) (drop n rest) whole (subst (λ (t : List ℕ). IsSent a b t whole) (sym (take-append-drop n rest)) sent) grown

-- nothing is left
pub sent_all : (a b : Option (List ℕ)) (rest whole : List ℕ) → IsSent a b rest whole → rest ≡ [] → Appends a b whole
sent_all a b rest whole sent none = subst (Appends a b) (sym (append-nil sent.front) ∙ ap (λ (t : List ℕ). sent.front ++ t) (sym none) ∙ sent.text) sent.grown

-- the sink kept what it had: what was sent is a front
pub front_kept : (a b c : Option (List ℕ)) (rest whole : List ℕ) → IsSent a b rest whole → Keeps b c → HoldsFront a c whole
front_kept a b c rest whole sent kept =
    record { rest = rest; sent = record { front = sent.front; text = sent.text; grown = Appends-kept a b c sent.front sent.grown kept } }

-- nothing was sent
pub front_none : (a : Option (List ℕ)) (whole : List ℕ) → HoldsFront a a whole
front_none a whole = record { rest = whole; sent = sent_none a whole }

-- a piece was sent in part
pub front_part : (a b c : Option (List ℕ)) (piece rest whole : List ℕ) → IsSent a b (piece ++ rest) whole → HoldsFront b c piece → HoldsFront a c whole
front_part a b c piece rest whole sent part = record {
  rest = part.rest ++ rest;
  sent = sent_more a b c part.sent.front (part.rest ++ rest) whole
      (subst (λ (t : List ℕ). IsSent a b t whole) (ap (λ (t : List ℕ). t ++ rest) (sym part.sent.text) ∙ append_assoc part.sent.front part.rest rest) sent) part.sent.grown;
}

pub ruleset sending = (sent_none, sent_more, sent_take, sent_all, front_kept, front_none, front_part)

-- the line of the first of the entries that are left
pub sent_line : (a b c : Option (List ℕ)) (e : Entry) (es rest : List Entry) (whole : List ℕ) → IsSent a b (lines_text rest) whole → rest ≡ e ∷ es → Appends b c (line_text e) →
    IsSent a c (lines_text es) whole
sent_line a b c e es rest whole sent is grown =
    sent_more a b c (line_text e) (lines_text es) whole (subst (λ (xs : List Entry). IsSent a b (lines_text xs) whole) is sent) grown

-- or a part of it
pub front_line : (a b c : Option (List ℕ)) (e : Entry) (es rest : List Entry) (whole : List ℕ) → IsSent a b (lines_text rest) whole → rest ≡ e ∷ es → HoldsFront b c (line_text e) →
    HoldsFront a c whole
front_line a b c e es rest whole sent is part =
    front_part a b c (line_text e) (lines_text es) whole (subst (λ (xs : List Entry). IsSent a b (lines_text xs) whole) is sent) part

-- no entry is left
pub sent_lines : (a b : Option (List ℕ)) (rest : List Entry) (whole : List ℕ) → IsSent a b (lines_text rest) whole → rest ≡ [] → Appends a b whole
sent_lines a b rest whole sent is = sent_all a b (lines_text rest) whole sent (ap lines_text is)

-- two pieces
pub sent_both : (a b c : Option (List ℕ)) (piece rest : List ℕ) → Appends a b piece → Appends b c rest → Appends a c (piece ++ rest)
sent_both a b c piece rest first last = Appends-trans a b c piece rest first last

-- a piece, and then a front of the next
pub front_then : (a b c : Option (List ℕ)) (piece rest : List ℕ) → Appends a b piece → HoldsFront b c rest → HoldsFront a c (piece ++ rest)
front_then a b c piece rest grown part = record {
  rest = part.rest;
  sent = record {
    front = piece ++ part.sent.front;
    text = append_assoc piece part.sent.front part.rest ∙ ap (λ (t : List ℕ). piece ++ t) part.sent.text;
    grown = Appends-trans a b c piece part.sent.front grown part.sent.grown;
  };
}

-- a front of the first of two pieces
pub front_before : (a b : Option (List ℕ)) (piece rest : List ℕ) → HoldsFront a b piece → HoldsFront a b (piece ++ rest)
front_before a b piece rest part = record {
  rest = part.rest ++ rest;
  sent = record {
    front = part.sent.front;
    text = sym (append_assoc part.sent.front part.rest rest) ∙ ap (λ (t : List ℕ). t ++ rest) part.sent.text;
    grown = part.sent.grown;
  };
}

-- the header and the lines, and then the end line
module _ (p : Platform) (es : List Entry) where
  before_end : (head_text p ++ lines_text es) ++ end_text (length es) ≡ trace_text p es
  before_end = append_assoc (head_text p) (lines_text es) (end_text (length es))

  pub trace_all : (a b c : Option (List ℕ)) → Appends a b (head_text p ++ lines_text es) → Appends b c (end_text (length es)) → Appends a c (trace_text p es)
  trace_all a b c first last = subst (Appends a c) before_end (Appends-trans a b c (head_text p ++ lines_text es) (end_text (length es)) first last)

  pub trace_part : (a b c : Option (List ℕ)) → Appends a b (head_text p ++ lines_text es) → HoldsFront b c (end_text (length es)) → HoldsFront a c (trace_text p es)
  trace_part a b c first last = subst (HoldsFront a c) before_end (front_then a b c (head_text p ++ lines_text es) (end_text (length es)) first last)

  pub trace_front : (a b : Option (List ℕ)) → HoldsFront a b (head_text p ++ lines_text es) → HoldsFront a b (trace_text p es)
  trace_front a b part = subst (HoldsFront a b) before_end (front_before a b (head_text p ++ lines_text es) (end_text (length es)) part)

pub ruleset lines = (sent_none, sent_line, sent_lines, front_line, front_kept, front_none, front_then, front_before, sent_both, trace_all, trace_part, trace_front)
