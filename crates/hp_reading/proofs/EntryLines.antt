-- The line of an entry, written and read.
use Rattle.std.proofs.Common.{◌≡◌, ℕ, ◌^◌, ◌==◌, nat_le, ◌&&◌, Bool, true, false, List, [], ◌∷◌, ◌++◌, codes, Option, Some, None, option_map, option_and_then, if◌then◌else◌, refl, sym, ap, subst, ◌∙◌, append_assoc, arith, ◌↔◌}
use Rattle.std.proofs.lemmas.Bool.{and_parts, and_from, ltb-true, lt-ltb, leb-true, le-leb, eqb-true}
use Rattle.std.proofs.lemmas.List.{append_cancel_right}
use Rattle.std.proofs.lemmas.Option.{none-some, option_and_then_some}
use Rattle.std.specs.Fmt.{decimal}
use Rattle.hp_model.specs.declared.accesses.Access.{Access}
use Rattle.hp_model.specs.declared.accesses.Access.TheVariants.{Load, Store, Swap, In, Out, CfgRead, CfgWrite, Icr, Halt, Nop}
use Rattle.hp_model.specs.declared.accesses.Answer.{Answer}
use Rattle.hp_model.specs.declared.accesses.Answer.TheVariants.{Quiet, Value}
use Rattle.hp_model.specs.declared.entries.Event.{Event}
use Rattle.hp_model.specs.declared.entries.Event.TheVariants.{Insert, Remove, Do, TakeSmi, TakeInit, Resume, Tell}
use Rattle.hp_model.specs.declared.entries.Entry.{Entry}
use Rattle.hp_model.specs.Boot.{value_in}
use Rattle.hp_model.specs.Text.{Piece, hex, spell, access_pieces, actor_pieces, event_pieces, line_of, line_text}
use Rattle.hp_reading.specs.Forms.{past, hex_front, decimal_front}
use Rattle.hp_reading.specs.Lines.{most32, most64, row, only, entry, accessed, access_of, access_line, outcome_of, told_line, outside_line, inside_line, behind_address, address_line, behind_cpu, cpu_line, one_decimal, host_line, entry_of}
use Rattle.hp_reading.specs.Lines as lines
use Rattle.hp_reading.specs.Written.{has_32, is_either, access_fits, outcome_fits, is_written, is_well_formed, IsLine}
use Rattle.hp_reading.proofs.Front.{past-word, mapped, front-hex, hex_is}
use Rattle.hp_reading.proofs.Decimals.{front-decimal, front_is}
use Rattle.hp_reading.proofs.Rows.{row_is, only_is, one-filled, one_is}
use Rattle.hp_reading.proofs.AccessLines.{reads_access, access_is}
use Rattle.hp_reading.proofs.OutcomeLines.{to_32, from_32, reads_outcome, outcome_is}

-- the text of a line, with its pieces in one list
abbrev pub entry_pieces : Entry → List Piece
entry_pieces e = actor_pieces e.event e.at ++ event_pieces e.event (value_in e.answer)

spell-append : (ps qs : List Piece) → spell (ps ++ qs) ≡ spell ps ++ spell qs
spell-append [] qs = refl
spell-append (p ∷ ps) qs = rw (spell-append ps qs) (sym (append_assoc _ (spell ps) (spell qs)))

pub line_text-pieces : (e : Entry) → line_text e ≡ line_of (spell (entry_pieces e))
unfolding line_text
line_text-pieces e = ap line_of (sym (spell-append (actor_pieces e.event e.at) (event_pieces e.event (value_in e.answer))))

-- a processor's number, and what stands behind it
abbrev cpu_text : ℕ → List ℕ → List ℕ
cpu_text cpu t = codes "p" ++ (decimal cpu ++ t)

at_cpu : (t : List ℕ) → entry_of (codes "p" ++ t) ≡ cpu_line t
unfolding entry_of past
at_cpu t = refl

at_host : (t : List ℕ) → entry_of (codes "host " ++ t) ≡ host_line t
unfolding entry_of past
at_host t = refl

reads_cpu : (cpu c : ℕ) (t : List ℕ) → has_32 cpu ≡ true → c ≡ 32 → entry_of (cpu_text cpu (c ∷ t)) ≡ behind_cpu cpu (c ∷ t)
reads_cpu cpu c t h is =
    at_cpu _ ∙ ap (option_and_then (λ p. behind_cpu p.0 p.1)) (front-decimal most32 cpu (c ∷ t) (omega arith) (leb-true cpu most32 (to_32 cpu h)) (rw is refl))

behind_at : (cpu : ℕ) (t : List ℕ) → behind_cpu cpu (codes " @" ++ t) ≡ address_line cpu t
unfolding past
behind_at cpu t = refl

behind_space : (cpu c : ℕ) (t : List ℕ) → (64 == c) ≡ false → behind_cpu cpu (codes " " ++ (c ∷ t)) ≡ outside_line cpu (c ∷ t)
unfolding past
behind_space cpu c t h = rw h refl

-- outside SMM, and in it
reads_outside : (cpu c : ℕ) (t : List ℕ) → has_32 cpu ≡ true → (64 == c) ≡ false → entry_of (cpu_text cpu (codes " " ++ (c ∷ t))) ≡ outside_line cpu (c ∷ t)
reads_outside cpu c t h other = reads_cpu cpu 32 (c ∷ t) h refl ∙ behind_space cpu c t other

reads_inside : (cpu at : ℕ) (t : List ℕ) → has_32 cpu ≡ true → has_32 at ≡ true
    → entry_of (cpu_text cpu (codes " @" ++ (hex 8 at ++ (codes " " ++ t)))) ≡ inside_line cpu at t
reads_inside cpu at t h k =
    reads_cpu cpu 32 _ h refl
    ∙ (behind_at cpu _
    ∙ (ap (option_and_then (λ p. behind_address cpu p.0 p.1)) (front-hex 8 at (codes " " ++ t) (ltb-true at (2 ^ 32) k))
    ∙ ap (λ o. row o (inside_line cpu at) None) (past-word (codes " ") t)))

-- an access is none of the other steps
outside_access : (cpu : ℕ) (a : Access) (seen : ℕ) → outside_line cpu (spell (access_pieces a seen)) ≡ access_line cpu None (spell (access_pieces a seen))
unfolding past
outside_access cpu (Load addr width) seen = refl
outside_access cpu (Store addr width value) seen = refl
outside_access cpu (Swap addr expected desired) seen = refl
outside_access cpu (In port width) seen = refl
outside_access cpu (Out port width value) seen = refl
outside_access cpu (CfgRead reg) seen = refl
outside_access cpu (CfgWrite reg value) seen = refl
outside_access cpu (Icr high low) seen = refl
outside_access cpu Halt seen = refl
outside_access cpu Nop seen = refl

inside_access : (cpu at : ℕ) (a : Access) (seen : ℕ) → inside_line cpu at (spell (access_pieces a seen)) ≡ access_line cpu (Some at) (spell (access_pieces a seen))
unfolding past
inside_access cpu at (Load addr width) seen = refl
inside_access cpu at (Store addr width value) seen = refl
inside_access cpu at (Swap addr expected desired) seen = refl
inside_access cpu at (In port width) seen = refl
inside_access cpu at (Out port width value) seen = refl
inside_access cpu at (CfgRead reg) seen = refl
inside_access cpu at (CfgWrite reg value) seen = refl
inside_access cpu at (Icr high low) seen = refl
inside_access cpu at Halt seen = refl
inside_access cpu at Nop seen = refl

-- the access's word is behind the space
reads_access_outside : (cpu : ℕ) (a : Access) (seen : ℕ) → has_32 cpu ≡ true
    → entry_of (cpu_text cpu (codes " " ++ spell (access_pieces a seen))) ≡ outside_line cpu (spell (access_pieces a seen))
reads_access_outside cpu (Load addr width) seen h = reads_outside cpu _ _ h refl
reads_access_outside cpu (Store addr width value) seen h = reads_outside cpu _ _ h refl
reads_access_outside cpu (Swap addr expected desired) seen h = reads_outside cpu _ _ h refl
reads_access_outside cpu (In port width) seen h = reads_outside cpu _ _ h refl
reads_access_outside cpu (Out port width value) seen h = reads_outside cpu _ _ h refl
reads_access_outside cpu (CfgRead reg) seen h = reads_outside cpu _ _ h refl
reads_access_outside cpu (CfgWrite reg value) seen h = reads_outside cpu _ _ h refl
reads_access_outside cpu (Icr high low) seen h = reads_outside cpu _ _ h refl
reads_access_outside cpu Halt seen h = reads_outside cpu _ _ h refl
reads_access_outside cpu Nop seen h = reads_outside cpu _ _ h refl

-- each entry that a line can say is read as it is spelled
abbrev Reads : Event → Option ℕ → Answer → Type 0
Reads event at answer = entry_of (spell (entry_pieces (record { event = event; at = at; answer = answer }))) ≡ Some (record { event = event; at = at; answer = answer })

reads_do : (cpu : ℕ) (a : Access) (at : Option ℕ) (answer : Answer) → has_32 cpu ≡ true → is_either at ≡ true → access_fits a answer ≡ true → Reads (Do cpu a) at answer
reads_do cpu a None answer h either fit =
    reads_access_outside cpu a (value_in answer) h
    ∙ (outside_access cpu a (value_in answer) ∙ ap (option_map (λ made. accessed cpu None made)) (reads_access a answer fit))
reads_do cpu a (Some at) answer h either fit =
    reads_inside cpu at (spell (access_pieces a (value_in answer))) h either
    ∙ (inside_access cpu at a (value_in answer) ∙ ap (option_map (λ made. accessed cpu (Some at) made)) (reads_access a answer fit))

at_smi : (cpu : ℕ) → outside_line cpu (codes "smi" ++ []) ≡ Some (entry (TakeSmi cpu) None)
unfolding past
at_smi cpu = refl

at_init : (cpu : ℕ) → outside_line cpu (codes "init" ++ []) ≡ Some (entry (TakeInit cpu) None)
unfolding past
at_init cpu = refl

at_rsm : (cpu at : ℕ) → inside_line cpu at (codes "rsm" ++ []) ≡ Some (entry (Resume cpu) (Some at))
unfolding past
at_rsm cpu at = refl

at_tell : (cpu at : ℕ) (t : List ℕ) → inside_line cpu at (codes "tell " ++ t) ≡ told_line cpu at t
unfolding past
at_tell cpu at t = refl

at_insert : (t : List ℕ) → host_line (codes "insert " ++ t) ≡ lines.one (one_decimal most32) (λ cpu. entry (Insert cpu) None) t
unfolding past
at_insert t = refl

at_remove : (t : List ℕ) → host_line (codes "remove " ++ t) ≡ lines.one (one_decimal most32) (λ cpu. entry (Remove cpu) None) t
unfolding past
at_remove t = refl

reads_event : (event : Event) (at : Option ℕ) (answer : Answer) → is_written (record { event = event; at = at; answer = answer }) event ≡ true → Reads event at answer
reads_event (Insert k) None Quiet h =
    let (small, more) = and_parts (has_32 k) true h in
    at_host _ ∙ (at_insert _ ∙ one-filled (one_decimal most32) (λ cpu. entry (Insert cpu) None) k refl (and_from (nat_le k most32) true (to_32 k small) refl))
reads_event (Insert k) None (Value v) h = let (small, more) = and_parts (has_32 k) false h in cc
reads_event (Insert k) (Some at) answer h = let (small, more) = and_parts (has_32 k) false h in cc
reads_event (Remove k) None Quiet h =
    let (small, more) = and_parts (has_32 k) true h in
    at_host _ ∙ (at_remove _ ∙ one-filled (one_decimal most32) (λ cpu. entry (Remove cpu) None) k refl (and_from (nat_le k most32) true (to_32 k small) refl))
reads_event (Remove k) None (Value v) h = let (small, more) = and_parts (has_32 k) false h in cc
reads_event (Remove k) (Some at) answer h = let (small, more) = and_parts (has_32 k) false h in cc
reads_event (Do k a) at answer h =
    let (small, more) = and_parts (has_32 k) _ h in
    let (either, fit) = and_parts (is_either at) (access_fits a answer) more in
    reads_do k a at answer small either fit
reads_event (TakeSmi k) None Quiet h =
    let (small, more) = and_parts (has_32 k) true h in
    reads_outside k _ _ small refl ∙ at_smi k
reads_event (TakeSmi k) None (Value v) h = let (small, more) = and_parts (has_32 k) false h in cc
reads_event (TakeSmi k) (Some at) answer h = let (small, more) = and_parts (has_32 k) false h in cc
reads_event (TakeInit k) None Quiet h =
    let (small, more) = and_parts (has_32 k) true h in
    reads_outside k _ _ small refl ∙ at_init k
reads_event (TakeInit k) None (Value v) h = let (small, more) = and_parts (has_32 k) false h in cc
reads_event (TakeInit k) (Some at) answer h = let (small, more) = and_parts (has_32 k) false h in cc
reads_event (Resume k) None answer h = let (small, more) = and_parts (has_32 k) false h in cc
reads_event (Resume k) (Some at) Quiet h =
    let (small, more) = and_parts (has_32 k) _ h in
    let (address, last) = and_parts (has_32 at) true more in
    reads_inside k at _ small address ∙ at_rsm k at
reads_event (Resume k) (Some at) (Value v) h =
    let (small, more) = and_parts (has_32 k) _ h in
    let (address, last) = and_parts (has_32 at) false more in
    cc
reads_event (Tell o) None answer h = let (fit, more) = and_parts (outcome_fits o) false h in cc
reads_event (Tell o) (Some at) Quiet h =
    let (fit, more) = and_parts (outcome_fits o) _ h in
    let (address, last) = and_parts (has_32 at) true more in
    reads_inside 0 at _ refl address
    ∙ (at_tell 0 at _ ∙ ap (option_map (λ outcome. entry (Tell outcome) (Some at))) (reads_outcome o fit))
reads_event (Tell o) (Some at) (Value v) h =
    let (fit, more) = and_parts (outcome_fits o) _ h in
    let (address, last) = and_parts (has_32 at) false more in
    cc

pub reads_entry : (e : Entry) → is_well_formed e ≡ true → entry_of (spell (entry_pieces e)) ≡ Some e
reads_entry e h = reads_event e.event e.at e.answer h

-- a text that is read as an entry spells it
pub record IsEntry (t : List ℕ) (e : Entry) : Type 0 where
  pub fit : is_well_formed e ≡ true
  pub spelled : t ≡ spell (entry_pieces e)

-- the same behind the number of a processor, and behind an address
record IsStep (cpu : ℕ) (t : List ℕ) (e : Entry) : Type 0 where
  small : has_32 cpu ≡ true → is_well_formed e ≡ true
  spelled : cpu_text cpu t ≡ spell (entry_pieces e)

record IsStepIn (cpu at : ℕ) (t : List ℕ) (e : Entry) : Type 0 where
  small : has_32 cpu ≡ true → has_32 at ≡ true → is_well_formed e ≡ true
  spelled : cpu_text cpu (codes " @" ++ (hex 8 at ++ (codes " " ++ t))) ≡ spell (entry_pieces e)

record IsStepOut (cpu : ℕ) (t : List ℕ) (e : Entry) : Type 0 where
  small : has_32 cpu ≡ true → is_well_formed e ≡ true
  spelled : cpu_text cpu (codes " " ++ t) ≡ spell (entry_pieces e)

outside_access_is : (cpu : ℕ) (t : List ℕ) (e : Entry) → access_line cpu None t ≡ Some e → IsStepOut cpu t e
outside_access_is cpu t e made =
    mapped (λ made. accessed cpu None made) (access_of t) e made
    (λ m found same.
    let is = access_is t m found in
    subst (IsStepOut cpu t) same (record {
      small = λ h. and_from (has_32 cpu) _ h is.fit;
      spelled = ap (λ u. cpu_text cpu (codes " " ++ u)) is.spelled;
    }))

outside_is : (cpu : ℕ) (t : List ℕ) (e : Entry) → outside_line cpu t ≡ Some e → IsStepOut cpu t e
outside_is cpu t e found =
    row_is (IsStepOut cpu) (codes "smi") t (only (entry (TakeSmi cpu) None)) _ e found
    (λ rest is. only_is (IsStepOut cpu) (codes "smi") rest (entry (TakeSmi cpu) None) e is (record { small = λ h. and_from (has_32 cpu) true h refl; spelled = refl }))
    (λ found. row_is (IsStepOut cpu) (codes "init") t (only (entry (TakeInit cpu) None)) _ e found
    (λ rest is. only_is (IsStepOut cpu) (codes "init") rest (entry (TakeInit cpu) None) e is (record { small = λ h. and_from (has_32 cpu) true h refl; spelled = refl }))
    (λ found. outside_access_is cpu t e found))

inside_access_is : (cpu at : ℕ) (t : List ℕ) (e : Entry) → access_line cpu (Some at) t ≡ Some e → IsStepIn cpu at t e
inside_access_is cpu at t e made =
    mapped (λ made. accessed cpu (Some at) made) (access_of t) e made
    (λ m found same.
    let is = access_is t m found in
    subst (IsStepIn cpu at t) same (record {
      small = λ h k. and_from (has_32 cpu) _ h (and_from (has_32 at) _ k is.fit);
      spelled = ap (λ u. cpu_text cpu (codes " @" ++ (hex 8 at ++ (codes " " ++ u)))) is.spelled;
    }))

told_is : (cpu at : ℕ) (t : List ℕ) (e : Entry) → told_line cpu at t ≡ Some e → IsStepIn cpu at (codes "tell " ++ t) e
told_is cpu at t e found = by (cpu == 0) refl found
  where
    by : (b : Bool) → (cpu == 0) ≡ b → (if b then option_map (λ outcome. entry (Tell outcome) (Some at)) (outcome_of t) else None) ≡ Some e → IsStepIn cpu at (codes "tell " ++ t) e
    by false other found = absurd (none-some e found)
    by true zero found =
        mapped (λ outcome. entry (Tell outcome) (Some at)) (outcome_of t) e found
        (λ o told same.
        let is = outcome_is t o told in
        subst (IsStepIn cpu at (codes "tell " ++ t)) same (record {
          small = λ h k. and_from (outcome_fits o) _ is.fit (and_from (has_32 at) true k refl);
          spelled = rw (eqb-true cpu 0 zero, is.spelled) refl;
        }))

inside_is : (cpu at : ℕ) (t : List ℕ) (e : Entry) → inside_line cpu at t ≡ Some e → IsStepIn cpu at t e
inside_is cpu at t e found =
    row_is (IsStepIn cpu at) (codes "rsm") t (only (entry (Resume cpu) (Some at))) _ e found
    (λ rest is. only_is (IsStepIn cpu at) (codes "rsm") rest (entry (Resume cpu) (Some at)) e is
    (record { small = λ h k. and_from (has_32 cpu) _ h (and_from (has_32 at) true k refl); spelled = refl }))
    (λ found. row_is (IsStepIn cpu at) (codes "tell ") t (told_line cpu at) _ e found (λ rest is. told_is cpu at rest e is)
    (λ found. inside_access_is cpu at t e found))

-- behind the address stands a space
record IsBehind (cpu at : ℕ) (t : List ℕ) (e : Entry) : Type 0 where
  small : has_32 cpu ≡ true → has_32 at ≡ true → is_well_formed e ≡ true
  spelled : cpu_text cpu (codes " @" ++ (hex 8 at ++ t)) ≡ spell (entry_pieces e)

behind_address_is : (cpu at : ℕ) (t : List ℕ) (e : Entry) → behind_address cpu at t ≡ Some e → IsBehind cpu at t e
behind_address_is cpu at t e found =
    row_is (IsBehind cpu at) (codes " ") t (inside_line cpu at) None e found
    (λ rest is. let step = inside_is cpu at rest e is in record { small = step.small; spelled = step.spelled })
    (λ none. absurd (none-some e none))

address_is : (cpu : ℕ) (t : List ℕ) (e : Entry) → address_line cpu t ≡ Some e → IsStep cpu (codes " @" ++ t) e
address_is cpu t e found =
    option_and_then_some (λ p. behind_address cpu p.0 p.1) (hex_front 8 t) e found
    (λ p front more.
    let number = hex_is 8 p.0 p.1 t front in
    let is = behind_address_is cpu p.0 p.1 e more in
    record { small = λ h. is.small h (lt-ltb p.0 (2 ^ 32) number.below); spelled = rw number.spelled is.spelled })

behind_is : (cpu : ℕ) (t : List ℕ) (e : Entry) → behind_cpu cpu t ≡ Some e → IsStep cpu t e
behind_is cpu t e found =
    row_is (IsStep cpu) (codes " @") t (address_line cpu) _ e found (λ rest is. address_is cpu rest e is)
    (λ found. row_is (IsStep cpu) (codes " ") t (outside_line cpu) None e found
    (λ rest is. let step = outside_is cpu rest e is in record { small = step.small; spelled = step.spelled })
    (λ none. absurd (none-some e none)))

cpu_is : (t : List ℕ) (e : Entry) → cpu_line t ≡ Some e → IsEntry (codes "p" ++ t) e
cpu_is t e found =
    option_and_then_some (λ p. behind_cpu p.0 p.1) (decimal_front most32 t) e found
    (λ p front more.
    let number = front_is most32 p.0 p.1 t (omega arith) front in
    let is = behind_is p.0 p.1 e more in
    record { fit = is.small (from_32 p.0 (le-leb p.0 most32 number.below)); spelled = rw number.spelled is.spelled })

host_is : (t : List ℕ) (e : Entry) → host_line t ≡ Some e → IsEntry (codes "host " ++ t) e
host_is t e found =
    row_is (λ t e. IsEntry (codes "host " ++ t) e) (codes "insert ") t (lines.one (one_decimal most32) (λ cpu. entry (Insert cpu) None)) _ e found
    (λ rest is. one_is (one_decimal most32) rest e refl (λ cpu. entry (Insert cpu) None) is
    (λ k fit is same. subst (IsEntry (codes "host " ++ (codes "insert " ++ rest))) same (host_fits k fit rest is)))
    (λ found. row_is (λ t e. IsEntry (codes "host " ++ t) e) (codes "remove ") t (lines.one (one_decimal most32) (λ cpu. entry (Remove cpu) None)) None e found
    (λ rest is. one_is (one_decimal most32) rest e refl (λ cpu. entry (Remove cpu) None) is
    (λ k fit is same. subst (IsEntry (codes "host " ++ (codes "remove " ++ rest))) same (host_leaves k fit rest is)))
    (λ none. absurd (none-some e none)))
  where
    cpu_small : (k : ℕ) → (nat_le k most32 && true) ≡ true → has_32 k ≡ true
    cpu_small k fit = let (small, last) = and_parts (nat_le k most32) true fit in from_32 k small

    host_fits : (k : ℕ) → (nat_le k most32 && true) ≡ true → (rest : List ℕ) → rest ≡ decimal k ++ [] → IsEntry (codes "host " ++ (codes "insert " ++ rest)) (entry (Insert k) None)
    host_fits k fit rest is = record { fit = and_from (has_32 k) true (cpu_small k fit) refl; spelled = rw is refl }

    host_leaves : (k : ℕ) → (nat_le k most32 && true) ≡ true → (rest : List ℕ) → rest ≡ decimal k ++ [] → IsEntry (codes "host " ++ (codes "remove " ++ rest)) (entry (Remove k) None)
    host_leaves k fit rest is = record { fit = and_from (has_32 k) true (cpu_small k fit) refl; spelled = rw is refl }

pub entry_is : (t : List ℕ) (e : Entry) → entry_of t ≡ Some e → IsEntry t e
unfolding entry_of
entry_is t e found =
    row_is IsEntry (codes "host ") t host_line _ e found (λ rest is. host_is rest e is)
    (λ found. row_is IsEntry (codes "p") t cpu_line None e found (λ rest is. cpu_is rest e is)
    (λ none. absurd (none-some e none)))

-- the texts that are read as an entry are those of its line
pub lines_are_read : (t : List ℕ) (e : Entry) → (entry_of t ≡ Some e) ↔ IsLine t e
lines_are_read t e = (there, back)
  where
    there : entry_of t ≡ Some e → IsLine t e
    there found = let is = entry_is t e found in record { well_formed = is.fit; spelled = ap line_of is.spelled ∙ sym (line_text-pieces e) }

    back : IsLine t e → entry_of t ≡ Some e
    back is =
        let same : t ≡ spell (entry_pieces e) = append_cancel_right t (spell (entry_pieces e)) (10 ∷ []) (is.spelled ∙ line_text-pieces e) in
        ap entry_of same ∙ reads_entry e is.well_formed
