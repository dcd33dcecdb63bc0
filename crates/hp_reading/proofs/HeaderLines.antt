-- The header, written and read.
use Rattle.std.proofs.Common.{◌≡◌, ℕ, zero, suc, ◌+◌, ◌%◌, ◌^◌, ◌==◌, ◌<◌, ◌≤◌, nat_lt, nat_le, ◌&&◌, not, Bool, true, false, List, [], ◌∷◌, ◌++◌, length, codes, Option, Some, None, option_map, option_and_then, if◌then◌else◌, cond, refl, sym, ap, subst, ◌∙◌, append_assoc, append-nil, arith, ◌↔◌}
use Rattle.std.proofs.lemmas.Bool.{and_parts, and_from, ltb-true, leb-true, le-leb, eqb-true}
use Rattle.std.proofs.lemmas.Bool.Decides.{nat_tests}
use Rattle.std.proofs.lemmas.List.{append_cancel_right}
use Rattle.std.proofs.lemmas.Option.{none-some, same_Some, option_and_then_some}
use Rattle.std.specs.List.{list_all}
use Rattle.std.specs.Fmt.{decimal}
use Rattle.hp_model.specs.declared.platforms.Platform.{Platform}
use Rattle.hp_model.specs.declared.platforms.Delivery.{Delivery}
use Rattle.hp_model.specs.declared.platforms.Delivery.TheVariants.{Prompt, Late}
use Rattle.hp_model.specs.Text.{Piece, hex, spell, numbers_text, truth_text, ext_pieces, delivery_pieces, x2apic_pieces, head_pieces, head_text, line_of}
use Rattle.hp_model.specs.Platform.{IsFit, first_broken, counts_fit, ids_fit, all_distinct, greatest_id, ascends_from, ascends_from_zero, boot_fits, memory_fits, tseg_fits, tiles_fit, features_fit, polls_fit, turns_fit, delivery_is_known, delivery_fits}
use Rattle.hp_reading.specs.declared.headers.Sizes.{Sizes}
use Rattle.hp_reading.specs.declared.headers.Counts.{Counts}
use Rattle.hp_reading.specs.declared.headers.Kinds.{Kinds}
use Rattle.hp_reading.specs.Forms.{past, hex_front, decimal_front, is_clear}
use Rattle.hp_reading.specs.Lines.{most32, most64, row, only}
use Rattle.hp_reading.specs.Header.{numbers_onto, most_numbers, numbers_after, hex_after, decimal_after, truth_front, truth_after, ext_by, ext_front, x2apic_of, delivery_front, sizes_front, counts_front, kinds_of, platform_of, behind_ids, named_by, fitting, head_of, IsHeader}
use Rattle.hp_reading.proofs.Front.{past-word, past_is, mapped, front-hex, hex_is}
use Rattle.hp_reading.proofs.Decimals.{front-decimal, front_is}
use Rattle.hp_reading.proofs.Rows.{row_is}

-- behind a number stands a space
abbrev starts_space : List ℕ → Bool
starts_space [] = false
starts_space (c ∷ text) = c == 32

past_comma : (text : List ℕ) → starts_space text ≡ true → past (codes ",") text ≡ None
unfolding past
past_comma [] h = cc
past_comma (c ∷ text) h = let other : (44 == c) ≡ false = rw (eqb-true c 32 h) refl in rw other refl

clear_space : (text : List ℕ) → starts_space text ≡ true → is_clear text ≡ true
clear_space [] h = refl
clear_space (c ∷ text) h = rw (eqb-true c 32 h) refl

found_comma : (text : List ℕ) → past (codes ",") (codes "," ++ text) ≡ Some text
found_comma text = past-word (codes ",") text

-- numbers are read as they are spelled
numbers-text : (n : ℕ) (ns made text : List ℕ) → length ns ≤ n → 0 < length ns → list_all (λ a. nat_le a most32) ns ≡ true → starts_space text ≡ true
    → numbers_onto n made (numbers_text ns ++ text) ≡ Some (made ++ ns, text)
unfolding numbers_onto numbers_text
numbers-text zero ns made text few some small space = absurd (none_fit few some)
  where
    none_fit : length ns ≤ 0 → 0 < length ns → ⊥
    none_fit few some = omega (arith, few, some)
numbers-text (suc n) [] made text few some small space = elim some [ ]
numbers-text (suc n) (x ∷ []) made text few some small space =
    let (here, last) = and_parts (nat_le x most32) true small in
    rw (front-decimal most32 x text (omega arith) (leb-true x most32 here) (clear_space text space)) (rw (past_comma text space) refl)
numbers-text (suc n) (x ∷ (y ∷ ys)) made text few some small space =
    let (here, more) = and_parts (nat_le x most32) (list_all (λ a. nat_le a most32) (y ∷ ys)) small in
    let tail = numbers_text (y ∷ ys) ++ text in
    let front : (decimal x ++ (codes "," ++ numbers_text (y ∷ ys))) ++ text ≡ decimal x ++ (codes "," ++ tail) = append_assoc (decimal x) (codes "," ++ numbers_text (y ∷ ys)) text in
    ap (λ t. option_and_then (λ p. row (past (codes ",") p.1) (λ rest. numbers_onto n (made ++ p.0 ∷ []) rest) (Some (made ++ p.0 ∷ [], p.1))) (decimal_front most32 t)) front
    ∙ (ap (option_and_then (λ p. row (past (codes ",") p.1) (λ rest. numbers_onto n (made ++ p.0 ∷ []) rest) (Some (made ++ p.0 ∷ [], p.1))))
    (front-decimal most32 x (codes "," ++ tail) (omega arith) (leb-true x most32 here) refl)
    ∙ (ap (λ o. row o (λ rest. numbers_onto n (made ++ x ∷ []) rest) (Some (made ++ x ∷ [], codes "," ++ tail))) (found_comma tail)
    ∙ (numbers-text n (y ∷ ys) (made ++ x ∷ []) text (omega (arith, few)) (omega arith) more space
    ∙ ap (λ ns. Some (ns, text)) (append_assoc made (x ∷ []) (y ∷ ys)))))

-- and are spelled as they are read
record IsNumbers (made ms rest text : List ℕ) : Type 0 where
  first : ℕ
  others : List ℕ
  made_is : ms ≡ made ++ (first ∷ others)
  spelled : text ≡ numbers_text (first ∷ others) ++ rest

abbrev some_of : List ℕ × List ℕ → Option (List ℕ × List ℕ)
some_of p = Some p

numbers_last : (made ms rest text : List ℕ) (x : ℕ) (behind : List ℕ) → text ≡ decimal x ++ behind → some_of (made ++ x ∷ [], behind) ≡ Some (ms, rest) → IsNumbers made ms rest text
unfolding numbers_text
numbers_last made ms rest text x behind is e =
    let same = same_Some (made ++ x ∷ [], behind) (ms, rest) e in
    let last : behind ≡ rest = ap (λ p. p.1) same in
    record { first = x; others = []; made_is = sym (ap (λ p. p.0) same); spelled = is ∙ ap (λ t. decimal x ++ t) last }

numbers_next : (made ms rest text : List ℕ) (x : ℕ) (behind : List ℕ) → text ≡ decimal x ++ (codes "," ++ behind) → IsNumbers (made ++ x ∷ []) ms rest behind → IsNumbers made ms rest text
unfolding numbers_text
numbers_next made ms rest text x behind is more = record {
  first = x;
  others = more.first ∷ more.others;
  made_is = more.made_is ∙ append_assoc made (x ∷ []) (more.first ∷ more.others);
  spelled = is ∙ (ap (λ t. decimal x ++ (codes "," ++ t)) more.spelled ∙ sym (append_assoc (decimal x) (codes "," ++ numbers_text (more.first ∷ more.others)) rest));
}

numbers_are : (n : ℕ) (made ms rest text : List ℕ) → numbers_onto n made text ≡ Some (ms, rest) → IsNumbers made ms rest text
unfolding numbers_onto
numbers_are zero made ms rest text e = absurd (none-some (ms, rest) e)
numbers_are (suc n) made ms rest text e =
    option_and_then_some (λ p. row (past (codes ",") p.1) (λ rest. numbers_onto n (made ++ p.0 ∷ []) rest) (Some (made ++ p.0 ∷ [], p.1))) (decimal_front most32 text) (ms, rest) e
    (λ p front more. by p.0 p.1 (front_is most32 p.0 p.1 text (omega arith) front).spelled (λ behind. numbers_are n (made ++ p.0 ∷ []) ms rest behind) (past (codes ",") p.1) refl more)
  where
    by : (x : ℕ) (behind : List ℕ) → text ≡ decimal x ++ behind
        → ((t : List ℕ) → numbers_onto n (made ++ x ∷ []) t ≡ Some (ms, rest) → IsNumbers (made ++ x ∷ []) ms rest t)
        → (o : Option (List ℕ)) → past (codes ",") behind ≡ o → row o (λ t. numbers_onto n (made ++ x ∷ []) t) (Some (made ++ x ∷ [], behind)) ≡ Some (ms, rest) → IsNumbers made ms rest text
    by x behind is later None none e = numbers_last made ms rest text x behind is e
    by x behind is later (Some t) found e =
        numbers_next made ms rest text x t (is ∙ ap (λ u. decimal x ++ u) (past_is (codes ",") behind t found)) (later t e)

-- the same behind a word
numbers_after-text : (word ns text : List ℕ) → length ns ≤ most_numbers → 0 < length ns → list_all (λ a. nat_le a most32) ns ≡ true → starts_space text ≡ true
    → numbers_after word (word ++ (numbers_text ns ++ text)) ≡ Some (ns, text)
unfolding numbers_after
numbers_after-text word ns text few some small space =
    ap (option_and_then (λ rest. numbers_onto most_numbers [] rest)) (past-word word (numbers_text ns ++ text)) ∙ numbers-text most_numbers ns [] text few some small space

numbers_after_is : (word text ns rest : List ℕ) → numbers_after word text ≡ Some (ns, rest) → text ≡ word ++ (numbers_text ns ++ rest)
unfolding numbers_after
numbers_after_is word text ns rest e =
    option_and_then_some (λ rest. numbers_onto most_numbers [] rest) (past word text) (ns, rest) e
    (λ t found more.
    let are = numbers_are most_numbers [] ns rest t more in
    past_is word text t found ∙ ap (λ u. word ++ u) (are.spelled ∙ ap (λ ms. numbers_text ms ++ rest) (sym are.made_is)))

hex_after-text : (word : List ℕ) (n x : ℕ) (text : List ℕ) → x < 16 ^ n → hex_after word n (word ++ (hex n x ++ text)) ≡ Some (x, text)
unfolding hex_after
hex_after-text word n x text h = ap (option_and_then (λ rest. hex_front n rest)) (past-word word (hex n x ++ text)) ∙ front-hex n x text h

hex_after_is : (word : List ℕ) (n x : ℕ) (rest text : List ℕ) → hex_after word n text ≡ Some (x, rest) → text ≡ word ++ (hex n x ++ rest)
unfolding hex_after
hex_after_is word n x rest text e =
    option_and_then_some (λ rest. hex_front n rest) (past word text) (x, rest) e
    (λ t found more. past_is word text t found ∙ ap (λ u. word ++ u) (hex_is n x rest t more).spelled)

decimal_after-text : (word : List ℕ) (most x : ℕ) (text : List ℕ) → most < 2 ^ 64 → x ≤ most → is_clear text ≡ true → decimal_after word most (word ++ (decimal x ++ text)) ≡ Some (x, text)
unfolding decimal_after
decimal_after-text word most x text small h clear =
    ap (option_and_then (λ rest. decimal_front most rest)) (past-word word (decimal x ++ text)) ∙ front-decimal most x text small h clear

decimal_after_is : (word : List ℕ) (most x : ℕ) (rest text : List ℕ) → most < 2 ^ 64 → decimal_after word most text ≡ Some (x, rest) → text ≡ word ++ (decimal x ++ rest)
unfolding decimal_after
decimal_after_is word most x rest text small e =
    option_and_then_some (λ rest. decimal_front most rest) (past word text) (x, rest) e
    (λ t found more. past_is word text t found ∙ ap (λ u. word ++ u) (front_is most x rest t small more).spelled)

truth-text : (b : Bool) (text : List ℕ) → truth_front (truth_text b ++ text) ≡ Some (b, text)
unfolding past
truth-text true text = refl
truth-text false text = refl

truth_after-text : (word : List ℕ) (b : Bool) (text : List ℕ) → truth_after word (word ++ (truth_text b ++ text)) ≡ Some (b, text)
unfolding truth_after
truth_after-text word b text = ap (option_and_then (λ rest. truth_front rest)) (past-word word (truth_text b ++ text)) ∙ truth-text b text

abbrev some_truth : Bool × List ℕ → Option (Bool × List ℕ)
some_truth p = Some p

truth_is : (b : Bool) (rest text : List ℕ) → truth_front text ≡ Some (b, rest) → text ≡ truth_text b ++ rest
truth_is b rest text e = row_is Is (codes "true") text (λ rest. Some (true, rest)) _ (b, rest) e
    (λ t e. found true t e)
    (λ e. row_is Is (codes "false") text (λ rest. Some (false, rest)) None (b, rest) e (λ t e. found false t e) (λ e. absurd (none-some (b, rest) e)))
  where
    Is : List ℕ → Bool × List ℕ → Type 0
    Is text p = text ≡ truth_text p.0 ++ p.1

    found : (a : Bool) (t : List ℕ) → some_truth (a, t) ≡ Some (b, rest) → truth_text a ++ t ≡ truth_text b ++ rest
    found a t e = ap (λ p. truth_text p.0 ++ p.1) (same_Some (a, t) (b, rest) e)

truth_after_is : (word : List ℕ) (b : Bool) (rest text : List ℕ) → truth_after word text ≡ Some (b, rest) → text ≡ word ++ (truth_text b ++ rest)
unfolding truth_after
truth_after_is word b rest text e =
    option_and_then_some (λ rest. truth_front rest) (past word text) (b, rest) e
    (λ t found more. past_is word text t found ∙ ap (λ u. word ++ u) (truth_is b rest t more))

ext-text : (b : Bool) (text : List ℕ) → past (codes " ext=false") text ≡ None → ext_front (spell (ext_pieces b) ++ text) ≡ (b, text)
unfolding ext_front past
ext-text true text h = rw h refl
ext-text false text h = refl

ext_is : (text : List ℕ) → text ≡ spell (ext_pieces (ext_front text).0) ++ (ext_front text).1
unfolding ext_front
ext_is text = by (past (codes " ext=false") text) refl
  where
    by : (o : Option (List ℕ)) → past (codes " ext=false") text ≡ o → text ≡ spell (ext_pieces (ext_by text o).0) ++ (ext_by text o).1
    by None is = refl
    by (Some rest) is = past_is (codes " ext=false") text rest is

x2apic-text : (b : Bool) → x2apic_of (spell (x2apic_pieces b)) ≡ Some b
unfolding x2apic_of past
x2apic-text true = refl
x2apic-text false = refl

x2apic_is : (b : Bool) (text : List ℕ) → x2apic_of text ≡ Some b → text ≡ spell (x2apic_pieces b)
unfolding x2apic_of
x2apic_is b text e = row_is Is (codes " x2apic=true") text (only true) _ b e there (λ e. nothing text e)
  where
    Is : List ℕ → Bool → Type 0
    Is text b = text ≡ spell (x2apic_pieces b)

    there : (rest : List ℕ) → only true rest ≡ Some b → Is (codes " x2apic=true" ++ rest) b
    there [] e = subst (Is (codes " x2apic=true" ++ [])) (same_Some true b e) refl
    there (c ∷ rest) e = absurd (none-some b e)

    nothing : (t : List ℕ) → only false t ≡ Some b → Is t b
    nothing [] e = subst (Is []) (same_Some false b e) refl
    nothing (c ∷ rest) e = absurd (none-some b e)

-- a lag has 32 bits
abbrev pub lag_fits : Delivery → Bool
lag_fits Prompt = true
lag_fits (Late lag) = nat_le lag most32

prompt_is_not_late : (text : List ℕ) → past (codes " delivery=prompt") (codes " delivery=late lag=" ++ text) ≡ None
unfolding past
prompt_is_not_late text = refl

delivery-text : (d : Delivery) (text : List ℕ) → lag_fits d ≡ true → is_clear text ≡ true → delivery_front (spell (delivery_pieces d) ++ text) ≡ Some (d, text)
unfolding delivery_front
delivery-text Prompt text h clear = rw (past-word (codes " delivery=prompt") text) refl
delivery-text (Late lag) text h clear =
    let there : spell (delivery_pieces (Late lag)) ++ text ≡ codes " delivery=late lag=" ++ (decimal lag ++ text) =
    append_assoc (codes " delivery=late lag=") (decimal lag ++ []) text ∙ ap (λ ds. codes " delivery=late lag=" ++ (ds ++ text)) (append-nil (decimal lag)) in
    rw there (rw (prompt_is_not_late (decimal lag ++ text), decimal_after-text (codes " delivery=late lag=") most32 lag text (omega arith) (leb-true lag most32 h) clear) refl)

delivery_is : (d : Delivery) (rest text : List ℕ) → delivery_front text ≡ Some (d, rest) → text ≡ spell (delivery_pieces d) ++ rest
unfolding delivery_front
delivery_is d rest text e = row_is Is (codes " delivery=prompt") text (λ rest. Some (Prompt, rest)) _ (d, rest) e
    (λ t e. ap (λ p. spell (delivery_pieces p.0) ++ p.1) (same_Some (Prompt, t) (d, rest) e))
    (λ e. mapped (λ p. (Late p.0, p.1)) (decimal_after (codes " delivery=late lag=") most32 text) (d, rest) e
    (λ p found same.
    decimal_after_is (codes " delivery=late lag=") most32 p.0 p.1 text (omega arith) found
    ∙ (sym (append_assoc (codes " delivery=late lag=") (decimal p.0 ++ []) p.1 ∙ ap (λ ds. codes " delivery=late lag=" ++ (ds ++ p.1)) (append-nil (decimal p.0)))
    ∙ ap (λ q. spell (delivery_pieces q.0) ++ q.1) same)))
  where
    Is : List ℕ → Delivery × List ℕ → Type 0
    Is text p = text ≡ spell (delivery_pieces p.0) ++ p.1

-- the parts of a header, in one list of pieces each
abbrev sizes_text : ℕ → ℕ → Bool → List ℕ → List ℕ
sizes_text low mib ext text = codes " low=" ++ (hex 8 low ++ (codes " tseg=" ++ (decimal mib ++ (spell (ext_pieces ext) ++ text))))

abbrev counts_text : ℕ → ℕ → ℕ → List ℕ → List ℕ
counts_text features polls turns text = codes " features=" ++ (decimal features ++ (codes " polls=" ++ (decimal polls ++ (codes " turns=" ++ (decimal turns ++ text)))))

abbrev kinds_text : Bool → Bool → Delivery → Bool → List ℕ
kinds_text modern smram delivery x2apic =
    codes " modern=" ++ (truth_text modern ++ (codes " smram=" ++ (truth_text smram ++ (spell (delivery_pieces delivery) ++ spell (x2apic_pieces x2apic)))))

clear_ext : (b : Bool) (text : List ℕ) → is_clear text ≡ true → is_clear (spell (ext_pieces b) ++ text) ≡ true
clear_ext true text h = h
clear_ext false text h = refl

clear_x2apic : (b : Bool) → is_clear (spell (x2apic_pieces b)) ≡ true
clear_x2apic true = refl
clear_x2apic false = refl

not_ext : (text : List ℕ) → past (codes " ext=false") (codes " features=" ++ text) ≡ None
unfolding past
not_ext text = refl

sizes-text : (low mib : ℕ) (ext : Bool) (text : List ℕ) → low < 16 ^ 8 → mib ≤ most32
    → sizes_front (sizes_text low mib ext (codes " features=" ++ text)) ≡ Some (record { low_memory = low; tseg_mib = mib; ext_tseg = ext }, codes " features=" ++ text)
unfolding sizes_front
sizes-text low mib ext text h k =
    rw (hex_after-text (codes " low=") 8 low (codes " tseg=" ++ (decimal mib ++ (spell (ext_pieces ext) ++ (codes " features=" ++ text)))) h)
    (rw (decimal_after-text (codes " tseg=") most32 mib (spell (ext_pieces ext) ++ (codes " features=" ++ text)) (omega arith) k (clear_ext ext _ refl))
    (rw (ext-text ext (codes " features=" ++ text) (not_ext text)) refl))

counts-text : (features polls turns : ℕ) (text : List ℕ) → features ≤ most64 → polls ≤ most32 → turns ≤ most32 → is_clear text ≡ true
    → counts_front (counts_text features polls turns text) ≡ Some (record { features = features; polls = polls; turns = turns }, text)
unfolding counts_front
counts-text features polls turns text h k m clear =
    rw (decimal_after-text (codes " features=") most64 features (codes " polls=" ++ (decimal polls ++ (codes " turns=" ++ (decimal turns ++ text)))) (omega arith) h refl)
    (rw (decimal_after-text (codes " polls=") most32 polls (codes " turns=" ++ (decimal turns ++ text)) (omega arith) k refl)
    (rw (decimal_after-text (codes " turns=") most32 turns text (omega arith) m clear) refl))

kinds-text : (modern smram : Bool) (delivery : Delivery) (x2apic : Bool) → lag_fits delivery ≡ true
    → kinds_of (kinds_text modern smram delivery x2apic) ≡ Some (record { modern = modern; default_smram = smram; delivery = delivery; x2apic = x2apic })
unfolding kinds_of
kinds-text modern smram delivery x2apic h =
    rw (truth_after-text (codes " modern=") modern (codes " smram=" ++ (truth_text smram ++ (spell (delivery_pieces delivery) ++ spell (x2apic_pieces x2apic)))))
    (rw (truth_after-text (codes " smram=") smram (spell (delivery_pieces delivery) ++ spell (x2apic_pieces x2apic)))
    (rw (delivery-text delivery (spell (x2apic_pieces x2apic)) h (clear_x2apic x2apic))
    (rw (x2apic-text x2apic) refl)))

-- the text of a header, part by part
abbrev parts_text : Platform → List ℕ
parts_text p =
    codes "platform apic=" ++ (numbers_text p.apic ++ (codes " boot=" ++ (numbers_text p.boot
    ++ sizes_text p.low_memory p.tseg_mib p.ext_tseg (counts_text p.features p.polls p.turns (kinds_text p.modern p.default_smram p.delivery p.x2apic)))))

spell-append : (ps qs : List Piece) → spell (ps ++ qs) ≡ spell ps ++ spell qs
spell-append [] qs = refl
spell-append (p ∷ ps) qs = rw (spell-append ps qs) (sym (append_assoc _ (spell ps) (spell qs)))

parts_are : (p : Platform) → spell (head_pieces p) ≡ parts_text p
parts_are p = rw (spell-append (ext_pieces p.ext_tseg)) (rw (spell-append (delivery_pieces p.delivery)) refl)

-- numbers of a header have their bits
pub record HasBits (p : Platform) : Type 0 where
  pub few_apic : length p.apic ≤ most_numbers
  pub some_apic : 0 < length p.apic
  pub small_apic : list_all (λ a. nat_le a most32) p.apic ≡ true
  pub few_boot : length p.boot ≤ most_numbers
  pub some_boot : 0 < length p.boot
  pub small_boot : list_all (λ a. nat_le a most32) p.boot ≡ true
  pub low : p.low_memory < 16 ^ 8
  pub mib : p.tseg_mib ≤ most32
  pub features : p.features ≤ most64
  pub polls : p.polls ≤ most32
  pub turns : p.turns ≤ most32
  pub lag : lag_fits p.delivery ≡ true

-- a header is read as it is spelled
parts_are_read : (p : Platform) → HasBits p → named_by (parts_text p) ≡ Some p
unfolding named_by behind_ids
parts_are_read p h =
    let kinds = kinds_text p.modern p.default_smram p.delivery p.x2apic in
    let counts = counts_text p.features p.polls p.turns kinds in
    let sizes = sizes_text p.low_memory p.tseg_mib p.ext_tseg counts in
    rw (numbers_after-text (codes "platform apic=") p.apic (codes " boot=" ++ (numbers_text p.boot ++ sizes)) h.few_apic h.some_apic h.small_apic refl)
    (rw (numbers_after-text (codes " boot=") p.boot sizes h.few_boot h.some_boot h.small_boot refl)
    (rw (sizes-text p.low_memory p.tseg_mib p.ext_tseg (decimal p.features ++ (codes " polls=" ++ (decimal p.polls ++ (codes " turns=" ++ (decimal p.turns ++ kinds))))) h.low h.mib)
    (rw (counts-text p.features p.polls p.turns kinds h.features h.polls h.turns refl)
    (rw (kinds-text p.modern p.default_smram p.delivery p.x2apic h.lag) refl))))

-- and spelled as it is read
sizes_are : (text rest : List ℕ) (s : Sizes) → sizes_front text ≡ Some (s, rest) → text ≡ sizes_text s.low_memory s.tseg_mib s.ext_tseg rest
unfolding sizes_front
sizes_are text rest s e =
    option_and_then_some (λ low. option_map (λ tseg. (record { low_memory = low.0; tseg_mib = tseg.0; ext_tseg = (ext_front tseg.1).0 }, (ext_front tseg.1).1))
    (decimal_after (codes " tseg=") most32 low.1)) (hex_after (codes " low=") 8 text) (s, rest) e
    (λ low found more. mapped (λ tseg. (record { low_memory = low.0; tseg_mib = tseg.0; ext_tseg = (ext_front tseg.1).0 }, (ext_front tseg.1).1))
    (decimal_after (codes " tseg=") most32 low.1) (s, rest) more
    (λ tseg behind same.
    hex_after_is (codes " low=") 8 low.0 low.1 text found
    ∙ (ap (λ t. codes " low=" ++ (hex 8 low.0 ++ t)) (decimal_after_is (codes " tseg=") most32 tseg.0 tseg.1 low.1 (omega arith) behind
    ∙ ap (λ t. codes " tseg=" ++ (decimal tseg.0 ++ t)) (ext_is tseg.1))
    ∙ ap (λ q. sizes_text q.0.low_memory q.0.tseg_mib q.0.ext_tseg q.1) same)))

counts_are : (text rest : List ℕ) (n : Counts) → counts_front text ≡ Some (n, rest) → text ≡ counts_text n.features n.polls n.turns rest
unfolding counts_front
counts_are text rest n e =
    option_and_then_some (λ features. option_and_then (λ polls. option_map (λ turns. (record { features = features.0; polls = polls.0; turns = turns.0 }, turns.1))
    (decimal_after (codes " turns=") most32 polls.1)) (decimal_after (codes " polls=") most32 features.1)) (decimal_after (codes " features=") most64 text) (n, rest) e
    (λ features found more. option_and_then_some (λ polls. option_map (λ turns. (record { features = features.0; polls = polls.0; turns = turns.0 }, turns.1))
    (decimal_after (codes " turns=") most32 polls.1)) (decimal_after (codes " polls=") most32 features.1) (n, rest) more
    (λ polls behind more. mapped (λ turns. (record { features = features.0; polls = polls.0; turns = turns.0 }, turns.1)) (decimal_after (codes " turns=") most32 polls.1) (n, rest) more
    (λ turns last same.
    decimal_after_is (codes " features=") most64 features.0 features.1 text (omega arith) found
    ∙ (ap (λ t. codes " features=" ++ (decimal features.0 ++ t)) (decimal_after_is (codes " polls=") most32 polls.0 polls.1 features.1 (omega arith) behind
    ∙ ap (λ t. codes " polls=" ++ (decimal polls.0 ++ t)) (decimal_after_is (codes " turns=") most32 turns.0 turns.1 polls.1 (omega arith) last))
    ∙ ap (λ q. counts_text q.0.features q.0.polls q.0.turns q.1) same))))

kinds_are : (text : List ℕ) (k : Kinds) → kinds_of text ≡ Some k → text ≡ kinds_text k.modern k.default_smram k.delivery k.x2apic
unfolding kinds_of
kinds_are text k e =
    option_and_then_some (λ modern. option_and_then (λ smram. option_and_then (λ delivery. option_map
    (λ x2apic. record { modern = modern.0; default_smram = smram.0; delivery = delivery.0; x2apic = x2apic })
    (x2apic_of delivery.1)) (delivery_front smram.1)) (truth_after (codes " smram=") modern.1)) (truth_after (codes " modern=") text) k e
    (λ modern found more. option_and_then_some (λ smram. option_and_then (λ delivery. option_map
    (λ x2apic. record { modern = modern.0; default_smram = smram.0; delivery = delivery.0; x2apic = x2apic })
    (x2apic_of delivery.1)) (delivery_front smram.1)) (truth_after (codes " smram=") modern.1) k more
    (λ smram behind more. option_and_then_some (λ delivery. option_map
    (λ x2apic. record { modern = modern.0; default_smram = smram.0; delivery = delivery.0; x2apic = x2apic })
    (x2apic_of delivery.1)) (delivery_front smram.1) k more
    (λ delivery later more. mapped (λ x2apic. record { modern = modern.0; default_smram = smram.0; delivery = delivery.0; x2apic = x2apic }) (x2apic_of delivery.1) k more
    (λ x2apic last same.
    truth_after_is (codes " modern=") modern.0 modern.1 text found
    ∙ (ap (λ t. codes " modern=" ++ (truth_text modern.0 ++ t)) (truth_after_is (codes " smram=") smram.0 smram.1 modern.1 behind
    ∙ ap (λ t. codes " smram=" ++ (truth_text smram.0 ++ t)) (delivery_is delivery.0 delivery.1 smram.1 later
    ∙ ap (λ t. spell (delivery_pieces delivery.0) ++ t) (x2apic_is x2apic delivery.1 last)))
    ∙ ap (λ k. kinds_text k.modern k.default_smram k.delivery k.x2apic) same)))))

behind_are : (apic boot text : List ℕ) (p : Platform) → behind_ids apic boot text ≡ Some p
    → codes "platform apic=" ++ (numbers_text apic ++ (codes " boot=" ++ (numbers_text boot ++ text))) ≡ parts_text p
unfolding behind_ids
behind_are apic boot text p e =
    option_and_then_some (λ sizes. option_and_then (λ counts. option_map (λ kinds. platform_of apic boot sizes.0 counts.0 kinds)
    (kinds_of counts.1)) (counts_front sizes.1)) (sizes_front text) p e
    (λ sizes found more. option_and_then_some (λ counts. option_map (λ kinds. platform_of apic boot sizes.0 counts.0 kinds)
    (kinds_of counts.1)) (counts_front sizes.1) p more
    (λ counts behind more. mapped (λ kinds. platform_of apic boot sizes.0 counts.0 kinds) (kinds_of counts.1) p more
    (λ kinds last same.
    ap (λ t. codes "platform apic=" ++ (numbers_text apic ++ (codes " boot=" ++ (numbers_text boot ++ t))))
    (sizes_are text sizes.1 sizes.0 found
    ∙ ap (λ t. sizes_text sizes.0.low_memory sizes.0.tseg_mib sizes.0.ext_tseg t)
    (counts_are sizes.1 counts.1 counts.0 behind ∙ ap (λ t. counts_text counts.0.features counts.0.polls counts.0.turns t) (kinds_are counts.1 kinds last)))
    ∙ ap parts_text same)))

named_is : (text : List ℕ) (p : Platform) → named_by text ≡ Some p → text ≡ parts_text p
unfolding named_by
named_is text p e =
    option_and_then_some (λ apic. option_and_then (λ boot. behind_ids apic.0 boot.0 boot.1) (numbers_after (codes " boot=") apic.1)) (numbers_after (codes "platform apic=") text) p e
    (λ apic found more. option_and_then_some (λ boot. behind_ids apic.0 boot.0 boot.1) (numbers_after (codes " boot=") apic.1) p more
    (λ boot behind more.
    numbers_after_is (codes "platform apic=") text apic.0 apic.1 found
    ∙ (ap (λ t. codes "platform apic=" ++ (numbers_text apic.0 ++ t)) (numbers_after_is (codes " boot=") apic.1 boot.0 boot.1 behind)
    ∙ behind_are apic.0 boot.0 boot.1 p more)))

-- a platform that fits has its bits
kept : (b : Bool) (n : ℕ) (rest : Option ℕ) → cond (not b) (Some n) rest ≡ None → (b ≡ true) × (rest ≡ None)
kept true n rest e = (refl, e)
kept false n rest e = absurd cc

all_below : (most : ℕ) (ns : List ℕ) → most ≤ most32 → list_all (λ a. nat_le a most) ns ≡ true → list_all (λ a. nat_le a most32) ns ≡ true
all_below most [] h all = refl
all_below most (n ∷ ns) h all =
    let (here, more) = and_parts (nat_le n most) (list_all (λ a. nat_le a most) ns) all in
    let low : n ≤ most = leb-true n most here in
    and_from (nat_le n most32) (list_all (λ a. nat_le a most32) ns) (le-leb n most32 (omega (arith, low, h))) (all_below most ns h more)

all_places : (count : ℕ) (ns : List ℕ) → count ≤ 512 → list_all (λ k. nat_lt k count) ns ≡ true → list_all (λ a. nat_le a most32) ns ≡ true
all_places count [] h all = refl
all_places count (n ∷ ns) h all =
    let (here, more) = and_parts (nat_lt n count) (list_all (λ k. nat_lt k count) ns) all in
    let low : n < count = ltb-true n count here in
    and_from (nat_le n most32) (list_all (λ a. nat_le a most32) ns) (le-leb n most32 (omega (arith, low, h))) (all_places count ns h more)

-- numbers that ascend below a count are no more than it
few_ascend : (count low : ℕ) (ns : List ℕ) → low < count → ascends_from low ns ≡ true → list_all (λ k. nat_lt k count) ns ≡ true → length ns + low < count
few_ascend count low [] h up all = omega (arith, h)
few_ascend count low (n ∷ ns) h up all =
    let (above, later) = and_parts (nat_lt low n) (ascends_from n ns) up in
    let (here, more) = and_parts (nat_lt n count) (list_all (λ k. nat_lt k count) ns) all in
    let over : low < n = ltb-true low n above in
    let under : n < count = ltb-true n count here in
    omega (arith, few_ascend count n ns under later more, over)

few_boot : (count : ℕ) (ns : List ℕ) → count ≤ 512 → ascends_from_zero ns ≡ true → list_all (λ k. nat_lt k count) ns ≡ true → (length ns ≤ 512) × (0 < length ns)
few_boot count [] h up all = cc
few_boot count (n ∷ ns) h up all =
    let (first, later) = and_parts (n == 0) (ascends_from 0 ns) up in
    let (here, more) = and_parts (nat_lt n count) (list_all (λ k. nat_lt k count) ns) all in
    let under : n < count = ltb-true n count here in
    let few : length ns + 0 < count = few_ascend count 0 ns (omega (arith, under)) later more in
    (omega (arith, few, h), omega arith)

lag_small : (d : Delivery) → delivery_is_known d ≡ true → lag_fits d ≡ true
lag_small Prompt h = refl
lag_small (Late lag) h = let (low, high) = and_parts (nat_le 1 lag) (nat_le lag 1000) h in let under : lag ≤ 1000 = leb-true lag 1000 high in le-leb lag most32 (omega (arith, under))

mib_small : (p : Platform) → tseg_fits p ≡ true → p.tseg_mib ≤ most32
mib_small p h = grind (arith, nat_tests)

id_small : (b : Bool) → (if b then 0xfffffffe else 254) ≤ most32
id_small true = omega arith
id_small false = omega arith

pub has_bits : (p : Platform) → IsFit p → HasBits p
has_bits p fit =
    let (counts, a) = kept (counts_fit p) 2 _ fit in
    let (ids, b) = kept (ids_fit p) 3 _ a in
    let (boot, c) = kept (boot_fits p) 4 _ b in
    let (memory, d) = kept (memory_fits p) 5 _ c in
    let (tseg, e) = kept (tseg_fits p) 6 _ d in
    let (tiles, f) = kept (tiles_fit p) 7 _ e in
    let (features, g) = kept (features_fit p) 8 _ f in
    let (polls, h) = kept (polls_fit p) 9 _ g in
    let (turns, i) = kept (turns_fit p) 10 _ h in
    let (delivery, j) = kept (delivery_fits p) 11 _ i in
    let (some, few) = and_parts (nat_lt 0 (length p.apic)) (nat_le (length p.apic) 512) counts in
    let many : length p.apic ≤ 512 = leb-true (length p.apic) 512 few in
    let (small, distinct) = and_parts (list_all (λ a. nat_le a (greatest_id p.x2apic)) p.apic) (all_distinct p.apic) ids in
    let (up, places) = and_parts (ascends_from_zero p.boot) (list_all (λ k. nat_lt k (length p.apic)) p.boot) boot in
    let (whole, bounds) = and_parts (p.low_memory % 0x100000 == 0) (nat_le 0x1000000 p.low_memory && nat_le p.low_memory 0x80000000) memory in
    let (above, under) = and_parts (nat_le 0x1000000 p.low_memory) (nat_le p.low_memory 0x80000000) bounds in
    let low : p.low_memory ≤ 0x80000000 = leb-true p.low_memory 0x80000000 under in
    let seven : p.features ≤ 7 = leb-true p.features 7 features in
    let (one, top) = and_parts (nat_le 1 p.polls) (nat_le p.polls 4096) polls in
    let most_polls : p.polls ≤ 4096 = leb-true p.polls 4096 top in
    let most_turns : p.turns ≤ 200000 = leb-true p.turns 200000 turns in
    let boots = few_boot (length p.apic) p.boot many up places in
    record {
      few_apic = many;
      some_apic = ltb-true 0 (length p.apic) some;
      small_apic = all_below (greatest_id p.x2apic) p.apic (id_small p.x2apic) small;
      few_boot = boots.0;
      some_boot = boots.1;
      small_boot = all_places (length p.apic) p.boot many places;
      low = omega (arith, low);
      mib = mib_small p tseg;
      features = omega (arith, seven);
      polls = omega (arith, most_polls);
      turns = omega (arith, most_turns);
      lag = lag_small p.delivery delivery;
    }

fitting_is : (q p : Platform) (o : Option ℕ) → first_broken q ≡ o → fitting q o ≡ Some p → (q ≡ p) × IsFit p
fitting_is q p None is e = let same = same_Some q p e in (same, subst IsFit same is)
fitting_is q p (Some rule) is e = absurd (none-some p e)

pub headers_are_read : (text : List ℕ) (p : Platform) → (head_of text ≡ Some p) ↔ IsHeader text p
unfolding head_of head_text
headers_are_read text p = (there, back)
  where
    there : head_of text ≡ Some p → IsHeader text p
    there e = option_and_then_some (λ q. fitting q (first_broken q)) (named_by text) p e
        (λ q found more.
        let is = fitting_is q p (first_broken q) refl more in
        record { fit = is.1; spelled = ap line_of (named_is text q found ∙ (ap parts_text is.0 ∙ sym (parts_are p))) })

    back : IsHeader text p → head_of text ≡ Some p
    back is =
        let same : text ≡ parts_text p = append_cancel_right text (spell (head_pieces p)) (10 ∷ []) is.spelled ∙ parts_are p in
        let named : named_by text ≡ Some p = ap named_by same ∙ parts_are_read p (has_bits p is.fit) in
        rw (named, is.fit) refl
