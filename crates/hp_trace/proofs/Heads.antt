-- The header's parts make the header.
use Rattle.std.proofs.Common.{◌≡◌, ℕ, List, [], ◌∷◌, ◌++◌, refl, sym, ap, ◌∙◌, append_assoc, append-nil, codes}
use Rattle.hp_model.specs.declared.platforms.Platform.{Platform}
use Rattle.hp_model.specs.Text.{Piece, word, number, spell, spell_piece, ext_pieces, delivery_pieces, x2apic_pieces, truth_text, head_pieces, head_text, line_of}
use Rattle.hp_trace.specs.Head.{front_pieces}

spell_both : (ps qs : List Piece) → spell (ps ++ qs) ≡ spell ps ++ spell qs
spell_both [] qs = refl
spell_both (p ∷ ps) qs = ap (λ text. spell_piece p ++ text) (spell_both ps qs) ∙ sym (append_assoc (spell_piece p) (spell ps) (spell qs))

abbrev last_pieces : Platform → List Piece
last_pieces p = delivery_pieces p.delivery ++ x2apic_pieces p.x2apic

-- what stands after the size of TSEG and what may be said of it
abbrev middle_pieces : Platform → List Piece
middle_pieces p =
    word (codes " features=") ∷ number p.features
    ∷ word (codes " polls=") ∷ number p.polls
    ∷ word (codes " turns=") ∷ number p.turns
    ∷ word (codes " modern=") ∷ word (truth_text p.modern)
    ∷ word (codes " smram=") ∷ word (truth_text p.default_smram)
    ∷ last_pieces p

in_one_list : (p : Platform) → spell (head_pieces p) ≡ spell (front_pieces p ++ last_pieces p)
in_one_list p = rw (spell_both (ext_pieces p.ext_tseg) (middle_pieces p)) refl

parts : (p : Platform) → spell (head_pieces p) ≡ spell (front_pieces p) ++ (spell (delivery_pieces p.delivery) ++ spell (x2apic_pieces p.x2apic))
parts p =
    in_one_list p
    ∙ (spell_both (front_pieces p) (last_pieces p)
    ∙ ap (λ text. spell (front_pieces p) ++ text) (spell_both (delivery_pieces p.delivery) (x2apic_pieces p.x2apic)))

grouped : (old front delivery last end : List ℕ) → (((old ++ front) ++ delivery) ++ last) ++ end ≡ old ++ ((front ++ (delivery ++ last)) ++ end)
grouped old front delivery last end = simp append_assoc refl

-- what is written after `old`, part by part
head_in_parts : (p : Platform) (old : List ℕ) →
    line_of (((old ++ spell (front_pieces p)) ++ spell (delivery_pieces p.delivery)) ++ spell (x2apic_pieces p.x2apic)) ≡ old ++ head_text p
unfolding head_text
head_in_parts p old =
    grouped old (spell (front_pieces p)) (spell (delivery_pieces p.delivery)) (spell (x2apic_pieces p.x2apic)) (10 ∷ [])
    ∙ ap (λ text. old ++ line_of text) (sym (parts p))

-- what is written, call by call
pub head_written : (p : Platform) (old front delivery all end last : List ℕ) →
    front ≡ old ++ spell (front_pieces p) → delivery ≡ front ++ spell (delivery_pieces p.delivery) → all ≡ delivery ++ (last ++ []) →
    last ≡ spell (x2apic_pieces p.x2apic) → end ≡ line_of all → end ≡ old ++ head_text p
head_written p old front delivery all end last a b c d e = rw (e, c, b, a, d, append-nil (spell (x2apic_pieces p.x2apic))) (head_in_parts p old)
