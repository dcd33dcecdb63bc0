-- The text of an access with its answer, written and read.
use Rattle.std.proofs.Common.{◌≡◌, ℕ, ◌*◌, ◌^◌, nat_lt, ◌&&◌, Bool, true, false, List, [], ◌∷◌, ◌++◌, codes, Some, refl, subst, ◌∙◌}
use Rattle.std.proofs.lemmas.Bool.{and_parts, and_from}
use Rattle.std.proofs.lemmas.Option.{none-some, option_and_then_some}
use Rattle.hp_model.specs.declared.accesses.Access.{Access}
use Rattle.hp_model.specs.declared.accesses.Access.TheVariants.{Load, Store, Swap, In, Out, CfgRead, CfgWrite, Icr, Halt, Nop}
use Rattle.hp_model.specs.declared.accesses.Answer.{Answer}
use Rattle.hp_model.specs.declared.accesses.Answer.TheVariants.{Quiet, Value}
use Rattle.hp_model.specs.Access.{is_memory_width, is_port_width}
use Rattle.hp_model.specs.Boot.{value_in}
use Rattle.hp_model.specs.Text.{spell, access_pieces}
use Rattle.hp_reading.specs.declared.accesses.Made.{Made}
use Rattle.hp_reading.specs.Forms.{past, fits, filled}
use Rattle.hp_reading.specs.Lines.{only, quiet, answered, digits_and, load_form, store_form, in_form, out_form, swap_form, memory_width, port_width, load_line, store_line, in_line, out_line, swap_line, read_line, write_line, icr_line, access_of}
use Rattle.hp_reading.specs.Lines as lines
use Rattle.hp_reading.specs.Written.{fields_fit, access_fits}
use Rattle.hp_reading.proofs.Rows.{row_is, only_is, two-filled, four-filled, two_is, four_is}
use Rattle.hp_reading.proofs.Widths.{IsMemoryGlyph, IsPortGlyph, memory_is, port_is, memory_glyph, port_glyph}

-- the access whose word stands at the front
at_load : (t : List ℕ) → access_of (codes "load " ++ t) ≡ load_line t
unfolding access_of past
at_load t = refl

at_store : (t : List ℕ) → access_of (codes "store " ++ t) ≡ store_line t
unfolding access_of past
at_store t = refl

at_swap : (t : List ℕ) → access_of (codes "cas " ++ t) ≡ swap_line t
unfolding access_of past
at_swap t = refl

at_in : (t : List ℕ) → access_of (codes "in " ++ t) ≡ in_line t
unfolding access_of past
at_in t = refl

at_out : (t : List ℕ) → access_of (codes "out " ++ t) ≡ out_line t
unfolding access_of past
at_out t = refl

at_read : (t : List ℕ) → access_of (codes "cfgr " ++ t) ≡ read_line t
unfolding access_of past
at_read t = refl

at_write : (t : List ℕ) → access_of (codes "cfgw " ++ t) ≡ write_line t
unfolding access_of past
at_write t = refl

at_icr : (t : List ℕ) → access_of (codes "icr " ++ t) ≡ icr_line t
unfolding access_of past
at_icr t = refl

at_halt : (t : List ℕ) → access_of (codes "halt" ++ t) ≡ only (quiet Halt) t
unfolding access_of past
at_halt t = refl

at_nop : (t : List ℕ) → access_of (codes "nop" ++ t) ≡ only (quiet Nop) t
unfolding access_of past
at_nop t = refl

-- two tests, and the last field of a form
both : (x y : Bool) → x ≡ true → y ≡ true → (x && (y && true)) ≡ true
both x y p q = and_from x (y && true) p (and_from y true q refl)

each_of : (x y : Bool) → (x && (y && true)) ≡ true → (x ≡ true) × (y ≡ true)
each_of x y p =
    let (here, more) = and_parts x (y && true) p in
    let (there, last) = and_parts y true more in
    (here, there)

-- each access that a line can say is read as it is spelled
abbrev Reads : Access → Answer → Type 0
Reads a answer = access_of (spell (access_pieces a (value_in answer))) ≡ Some (record { access = a; answer = answer })

not_quiet : {P : Type 0} (x y : Bool) → (x && (y && false)) ≡ true → P
not_quiet true true e = cc
not_quiet true false e = cc
not_quiet false y e = cc

reads_load : (addr w seen : ℕ) → access_fits (Load addr w) (Value seen) ≡ true → Reads (Load addr w) (Value seen)
reads_load addr w seen h =
    let (known, more) = and_parts (is_memory_width w) _ h in
    let (small, value) = and_parts (nat_lt addr (2 ^ 32)) (nat_lt seen (256 ^ w)) more in
    let g = memory_glyph w known in
    let below : nat_lt seen (16 ^ (2 * w)) ≡ true = rw g.is.power value in
    at_load _ ∙ rw (g.is.glyph, g.is.wide) (two-filled (load_form w) (λ addr seen. answered (Load addr w) seen) addr seen refl (both _ _ small below))

reads_store : (addr w value : ℕ) → access_fits (Store addr w value) Quiet ≡ true → Reads (Store addr w value) Quiet
reads_store addr w value h =
    let (normal, more) = and_parts (is_memory_width w && nat_lt value (256 ^ w)) _ h in
    let (known, low) = and_parts (is_memory_width w) (nat_lt value (256 ^ w)) normal in
    let (small, last) = and_parts (nat_lt addr (2 ^ 32)) true more in
    let g = memory_glyph w known in
    let below : nat_lt value (16 ^ (2 * w)) ≡ true = rw g.is.power low in
    at_store _ ∙ rw (g.is.glyph, g.is.wide) (two-filled (store_form w) (λ addr value. quiet (Store addr w value)) addr value refl (both _ _ small below))

reads_in : (port w seen : ℕ) → access_fits (In port w) (Value seen) ≡ true → Reads (In port w) (Value seen)
reads_in port w seen h =
    let (known, more) = and_parts (is_port_width w) _ h in
    let (small, value) = and_parts (nat_lt port (2 ^ 16)) (nat_lt seen (256 ^ w)) more in
    let g = port_glyph w known in
    let below : nat_lt seen (16 ^ (2 * w)) ≡ true = rw g.is.power value in
    at_in _ ∙ rw (g.is.glyph, g.is.wide) (two-filled (in_form w) (λ port seen. answered (In port w) seen) port seen refl (both _ _ small below))

reads_out : (port w value : ℕ) → access_fits (Out port w value) Quiet ≡ true → Reads (Out port w value) Quiet
reads_out port w value h =
    let (normal, more) = and_parts (is_port_width w && nat_lt value (256 ^ w)) _ h in
    let (known, low) = and_parts (is_port_width w) (nat_lt value (256 ^ w)) normal in
    let (small, last) = and_parts (nat_lt port (2 ^ 16)) true more in
    let g = port_glyph w known in
    let below : nat_lt value (16 ^ (2 * w)) ≡ true = rw g.is.power low in
    at_out _ ∙ rw (g.is.glyph, g.is.wide) (two-filled (out_form w) (λ port value. quiet (Out port w value)) port value refl (both _ _ small below))

reads_swap : (addr expected desired seen : ℕ) → access_fits (Swap addr expected desired) (Value seen) ≡ true → Reads (Swap addr expected desired) (Value seen)
reads_swap addr expected desired seen h =
    let (fields, value) = and_parts _ (nat_lt seen (256 ^ 8)) h in
    let (small, more) = and_parts (nat_lt addr (2 ^ 32)) _ fields in
    let (old, new) = and_parts (nat_lt expected (2 ^ 64)) (nat_lt desired (2 ^ 64)) more in
    at_swap _ ∙ four-filled swap_form (λ addr expected desired seen. answered (Swap addr expected desired) seen) addr expected desired seen refl
    (and_from (nat_lt addr (2 ^ 32)) _ small (and_from (nat_lt expected (2 ^ 64)) _ old (both _ _ new value)))

pub reads_access : (a : Access) (answer : Answer) → access_fits a answer ≡ true → Reads a answer
reads_access (Load addr w) Quiet h = not_quiet (is_memory_width w) (nat_lt addr (2 ^ 32)) h
reads_access (Load addr w) (Value seen) h = reads_load addr w seen h
reads_access (Store addr w value) Quiet h = reads_store addr w value h
reads_access (Store addr w value) (Value seen) h = not_quiet (is_memory_width w && nat_lt value (256 ^ w)) (nat_lt addr (2 ^ 32)) h
reads_access (Swap addr expected desired) Quiet h = not_quiet true (fields_fit (Swap addr expected desired)) h
reads_access (Swap addr expected desired) (Value seen) h = reads_swap addr expected desired seen h
reads_access (In port w) Quiet h = not_quiet (is_port_width w) (nat_lt port (2 ^ 16)) h
reads_access (In port w) (Value seen) h = reads_in port w seen h
reads_access (Out port w value) Quiet h = reads_out port w value h
reads_access (Out port w value) (Value seen) h = not_quiet (is_port_width w && nat_lt value (256 ^ w)) (nat_lt port (2 ^ 16)) h
reads_access (CfgRead reg) Quiet h = not_quiet true (nat_lt reg (2 ^ 8)) h
reads_access (CfgRead reg) (Value seen) h =
    let (small, value) = and_parts (nat_lt reg (2 ^ 8)) (nat_lt seen (256 ^ 1)) h in
    at_read _ ∙ two-filled (digits_and 2 (codes " = ") 2) (λ reg seen. answered (CfgRead reg) seen) reg seen refl (both _ _ small value)
reads_access (CfgWrite reg value) Quiet h =
    let (fields, last) = and_parts (nat_lt reg (2 ^ 8) && nat_lt value (2 ^ 8)) true h in
    let (small, low) = and_parts (nat_lt reg (2 ^ 8)) (nat_lt value (2 ^ 8)) fields in
    at_write _ ∙ two-filled (digits_and 2 (codes " ") 2) (λ reg value. quiet (CfgWrite reg value)) reg value refl (both _ _ small low)
reads_access (CfgWrite reg value) (Value seen) h = not_quiet true (nat_lt reg (2 ^ 8) && nat_lt value (2 ^ 8)) h
reads_access (Icr high low) Quiet h =
    let (fields, last) = and_parts (nat_lt high (2 ^ 32) && nat_lt low (2 ^ 32)) true h in
    let (small, under) = and_parts (nat_lt high (2 ^ 32)) (nat_lt low (2 ^ 32)) fields in
    at_icr _ ∙ two-filled (digits_and 8 (codes " ") 8) (λ high low. quiet (Icr high low)) high low refl (both _ _ small under)
reads_access (Icr high low) (Value seen) h = not_quiet true (nat_lt high (2 ^ 32) && nat_lt low (2 ^ 32)) h
reads_access Halt Quiet h = at_halt []
reads_access Halt (Value seen) h = cc
reads_access Nop Quiet h = at_nop []
reads_access Nop (Value seen) h = cc

-- a text that is read as an access spells it
pub record IsAccess (t : List ℕ) (m : Made) : Type 0 where
  pub fit : access_fits m.access m.answer ≡ true
  pub spelled : t ≡ spell (access_pieces m.access (value_in m.answer))

made_load : (c w addr seen : ℕ) (t : List ℕ) → IsMemoryGlyph c w → fits (load_form w) (addr ∷ seen ∷ []) ≡ true → t ≡ spell (filled (load_form w) (addr ∷ seen ∷ []))
    → IsAccess (codes "load " ++ (c ∷ t)) (answered (Load addr w) seen)
made_load c w addr seen t g fit is =
    let (small, below) = each_of (nat_lt addr (2 ^ 32)) (nat_lt seen (16 ^ (2 * w))) fit in
    let value : nat_lt seen (256 ^ w) ≡ true = rw (← g.power) below in
    record { fit = and_from (is_memory_width w) _ g.known (and_from (nat_lt addr (2 ^ 32)) (nat_lt seen (256 ^ w)) small value); spelled = rw (is, g.glyph) refl }

made_store : (c w addr value : ℕ) (t : List ℕ) → IsMemoryGlyph c w → fits (store_form w) (addr ∷ value ∷ []) ≡ true → t ≡ spell (filled (store_form w) (addr ∷ value ∷ []))
    → IsAccess (codes "store " ++ (c ∷ t)) (quiet (Store addr w value))
made_store c w addr value t g fit is =
    let (small, below) = each_of (nat_lt addr (2 ^ 32)) (nat_lt value (16 ^ (2 * w))) fit in
    let low : nat_lt value (256 ^ w) ≡ true = rw (← g.power) below in
    record {
      fit = and_from (is_memory_width w && nat_lt value (256 ^ w)) _ (and_from (is_memory_width w) (nat_lt value (256 ^ w)) g.known low) (and_from (nat_lt addr (2 ^ 32)) true small refl);
      spelled = rw (is, g.glyph) refl;
    }

made_in : (c w port seen : ℕ) (t : List ℕ) → IsPortGlyph c w → fits (in_form w) (port ∷ seen ∷ []) ≡ true → t ≡ spell (filled (in_form w) (port ∷ seen ∷ []))
    → IsAccess (codes "in " ++ (c ∷ t)) (answered (In port w) seen)
made_in c w port seen t g fit is =
    let (small, below) = each_of (nat_lt port (2 ^ 16)) (nat_lt seen (16 ^ (2 * w))) fit in
    let value : nat_lt seen (256 ^ w) ≡ true = rw (← g.power) below in
    record { fit = and_from (is_port_width w) _ g.known (and_from (nat_lt port (2 ^ 16)) (nat_lt seen (256 ^ w)) small value); spelled = rw (is, g.glyph) refl }

made_out : (c w port value : ℕ) (t : List ℕ) → IsPortGlyph c w → fits (out_form w) (port ∷ value ∷ []) ≡ true → t ≡ spell (filled (out_form w) (port ∷ value ∷ []))
    → IsAccess (codes "out " ++ (c ∷ t)) (quiet (Out port w value))
made_out c w port value t g fit is =
    let (small, below) = each_of (nat_lt port (2 ^ 16)) (nat_lt value (16 ^ (2 * w))) fit in
    let low : nat_lt value (256 ^ w) ≡ true = rw (← g.power) below in
    record {
      fit = and_from (is_port_width w && nat_lt value (256 ^ w)) _ (and_from (is_port_width w) (nat_lt value (256 ^ w)) g.known low) (and_from (nat_lt port (2 ^ 16)) true small refl);
      spelled = rw (is, g.glyph) refl;
    }

load_is : (t : List ℕ) (m : Made) → load_line t ≡ Some m → IsAccess (codes "load " ++ t) m
load_is [] m e = absurd (none-some m e)
load_is (c ∷ t) m e =
    option_and_then_some (λ w. lines.two (load_form w) (λ addr seen. answered (Load addr w) seen) t) (memory_width c) m e
    (λ w wide read. two_is (load_form w) t m refl (λ addr seen. answered (Load addr w) seen) read
    (λ addr seen fit is same. subst (IsAccess (codes "load " ++ (c ∷ t))) same (made_load c w addr seen t (memory_is c w wide) fit is)))

store_is : (t : List ℕ) (m : Made) → store_line t ≡ Some m → IsAccess (codes "store " ++ t) m
store_is [] m e = absurd (none-some m e)
store_is (c ∷ t) m e =
    option_and_then_some (λ w. lines.two (store_form w) (λ addr value. quiet (Store addr w value)) t) (memory_width c) m e
    (λ w wide read. two_is (store_form w) t m refl (λ addr value. quiet (Store addr w value)) read
    (λ addr value fit is same. subst (IsAccess (codes "store " ++ (c ∷ t))) same (made_store c w addr value t (memory_is c w wide) fit is)))

in_is : (t : List ℕ) (m : Made) → in_line t ≡ Some m → IsAccess (codes "in " ++ t) m
in_is [] m e = absurd (none-some m e)
in_is (c ∷ t) m e =
    option_and_then_some (λ w. lines.two (in_form w) (λ port seen. answered (In port w) seen) t) (port_width c) m e
    (λ w wide read. two_is (in_form w) t m refl (λ port seen. answered (In port w) seen) read
    (λ port seen fit is same. subst (IsAccess (codes "in " ++ (c ∷ t))) same (made_in c w port seen t (port_is c w wide) fit is)))

out_is : (t : List ℕ) (m : Made) → out_line t ≡ Some m → IsAccess (codes "out " ++ t) m
out_is [] m e = absurd (none-some m e)
out_is (c ∷ t) m e =
    option_and_then_some (λ w. lines.two (out_form w) (λ port value. quiet (Out port w value)) t) (port_width c) m e
    (λ w wide read. two_is (out_form w) t m refl (λ port value. quiet (Out port w value)) read
    (λ port value fit is same. subst (IsAccess (codes "out " ++ (c ∷ t))) same (made_out c w port value t (port_is c w wide) fit is)))

swap_is : (t : List ℕ) (m : Made) → swap_line t ≡ Some m → IsAccess (codes "cas " ++ t) m
swap_is t m e =
    four_is swap_form t m refl (λ addr expected desired seen. answered (Swap addr expected desired) seen) e
    (λ addr expected desired seen fit is same.
    let (small, more) = and_parts (nat_lt addr (2 ^ 32)) _ fit in
    let (old, others) = and_parts (nat_lt expected (2 ^ 64)) _ more in
    let (new, value) = each_of (nat_lt desired (2 ^ 64)) (nat_lt seen (256 ^ 8)) others in
    subst (IsAccess (codes "cas " ++ t)) same (record {
      fit = and_from _ (nat_lt seen (256 ^ 8)) (and_from (nat_lt addr (2 ^ 32)) _ small (and_from (nat_lt expected (2 ^ 64)) (nat_lt desired (2 ^ 64)) old new)) value;
      spelled = rw is refl;
    }))

read_is : (t : List ℕ) (m : Made) → read_line t ≡ Some m → IsAccess (codes "cfgr " ++ t) m
read_is t m e =
    two_is (digits_and 2 (codes " = ") 2) t m refl (λ reg seen. answered (CfgRead reg) seen) e
    (λ reg seen fit is same.
    let (small, value) = each_of (nat_lt reg (2 ^ 8)) (nat_lt seen (256 ^ 1)) fit in
    subst (IsAccess (codes "cfgr " ++ t)) same (record { fit = and_from (nat_lt reg (2 ^ 8)) (nat_lt seen (256 ^ 1)) small value; spelled = rw is refl }))

write_is : (t : List ℕ) (m : Made) → write_line t ≡ Some m → IsAccess (codes "cfgw " ++ t) m
write_is t m e =
    two_is (digits_and 2 (codes " ") 2) t m refl (λ reg value. quiet (CfgWrite reg value)) e
    (λ reg value fit is same.
    let (small, low) = each_of (nat_lt reg (2 ^ 8)) (nat_lt value (2 ^ 8)) fit in
    subst (IsAccess (codes "cfgw " ++ t)) same (record {
      fit = and_from (nat_lt reg (2 ^ 8) && nat_lt value (2 ^ 8)) true (and_from (nat_lt reg (2 ^ 8)) (nat_lt value (2 ^ 8)) small low) refl;
      spelled = rw is refl;
    }))

icr_is : (t : List ℕ) (m : Made) → icr_line t ≡ Some m → IsAccess (codes "icr " ++ t) m
icr_is t m e =
    two_is (digits_and 8 (codes " ") 8) t m refl (λ high low. quiet (Icr high low)) e
    (λ high low fit is same.
    let (small, under) = each_of (nat_lt high (2 ^ 32)) (nat_lt low (2 ^ 32)) fit in
    subst (IsAccess (codes "icr " ++ t)) same (record {
      fit = and_from (nat_lt high (2 ^ 32) && nat_lt low (2 ^ 32)) true (and_from (nat_lt high (2 ^ 32)) (nat_lt low (2 ^ 32)) small under) refl;
      spelled = rw is refl;
    }))

pub access_is : (t : List ℕ) (m : Made) → access_of t ≡ Some m → IsAccess t m
unfolding access_of
access_is t m e =
    row_is IsAccess (codes "load ") t load_line _ m e (λ rest. load_is rest m)
    (λ e. row_is IsAccess (codes "store ") t store_line _ m e (λ rest. store_is rest m)
    (λ e. row_is IsAccess (codes "cas ") t swap_line _ m e (λ rest. swap_is rest m)
    (λ e. row_is IsAccess (codes "in ") t in_line _ m e (λ rest. in_is rest m)
    (λ e. row_is IsAccess (codes "out ") t out_line _ m e (λ rest. out_is rest m)
    (λ e. row_is IsAccess (codes "cfgr ") t read_line _ m e (λ rest. read_is rest m)
    (λ e. row_is IsAccess (codes "cfgw ") t write_line _ m e (λ rest. write_is rest m)
    (λ e. row_is IsAccess (codes "icr ") t icr_line _ m e (λ rest. icr_is rest m)
    (λ e. row_is IsAccess (codes "halt") t (only (quiet Halt)) _ m e (λ rest e. only_is IsAccess (codes "halt") rest (quiet Halt) m e (record { fit = refl; spelled = refl }))
    (λ e. row_is IsAccess (codes "nop") t (only (quiet Nop)) _ m e (λ rest e. only_is IsAccess (codes "nop") rest (quiet Nop) m e (record { fit = refl; spelled = refl }))
    (λ e. absurd (none-some m e)))))))))))
