-- A script step is read as it is spelled, and is spelled as it is read.
use Rattle.std.proofs.Common.{◌≡◌, ℕ, ◌==◌, ◌||◌, ◌*◌, ◌^◌, ◌<◌, Bool, true, false, nat_lt, List, [], ◌∷◌, ◌++◌, codes, Option, Some, if◌then◌else◌, refl, sym, subst, ◌∙◌, inl, inr, arith}
use Rattle.std.proofs.lemmas.Bool.{eqb-true, ltb-true, and_parts, or_cases}
use Rattle.std.proofs.lemmas.Fmt.{decimal_digit}
use Rattle.std.proofs.lemmas.Option.{none-some, same_Some}
use Rattle.std.specs.Fmt.{decimal}
use Rattle.hp_model.specs.declared.accesses.Access.{Access}
use Rattle.hp_model.specs.declared.accesses.Access.TheVariants.{Load, Store, Swap, In, Out, CfgRead, CfgWrite, Icr, Halt, Nop}
use Rattle.hp_model.specs.Access.{is_memory_width, is_port_width, is_normal}
use Rattle.hp_config.specs.Script.{past, memory_width, port_width, load_step, store_step, in_step, out_step, end_step, swap_step, read_step, write_step, icr_step, script_step}
use Rattle.hp_config.specs.Spelling.{script_text, fields_fit}
use Rattle.hp_config.proofs.Groups.{one-text, two-text, three-text}

-- the glyph of a width
pub record IsMemoryGlyph (c w : ℕ) : Type 0 where
  pub wide : memory_width c ≡ Some w
  pub known : is_memory_width w ≡ true
  pub glyph : decimal w ≡ c ∷ []
  pub power : 16 ^ (2 * w) ≡ 256 ^ w

pub record IsPortGlyph (c w : ℕ) : Type 0 where
  pub wide : port_width c ≡ Some w
  pub known : is_port_width w ≡ true
  pub glyph : decimal w ≡ c ∷ []
  pub power : 16 ^ (2 * w) ≡ 256 ^ w

memory_1 : IsMemoryGlyph 49 1
memory_1 = record { wide = refl; known = refl; glyph = decimal_digit 1 (omega arith); power = refl }

memory_2 : IsMemoryGlyph 50 2
memory_2 = record { wide = refl; known = refl; glyph = decimal_digit 2 (omega arith); power = refl }

memory_4 : IsMemoryGlyph 52 4
memory_4 = record { wide = refl; known = refl; glyph = decimal_digit 4 (omega arith); power = refl }

memory_8 : IsMemoryGlyph 56 8
memory_8 = record { wide = refl; known = refl; glyph = decimal_digit 8 (omega arith); power = refl }

port_1 : IsPortGlyph 49 1
port_1 = record { wide = refl; known = refl; glyph = decimal_digit 1 (omega arith); power = refl }

port_2 : IsPortGlyph 50 2
port_2 = record { wide = refl; known = refl; glyph = decimal_digit 2 (omega arith); power = refl }

port_4 : IsPortGlyph 52 4
port_4 = record { wide = refl; known = refl; glyph = decimal_digit 4 (omega arith); power = refl }

-- a test of a number, and the rest of a chain of them
tested : {P : Type 0} (c k v w : ℕ) (others : Option ℕ) → (if c == k then Some v else others) ≡ Some w → (c ≡ k → v ≡ w → P) → (others ≡ Some w → P) → P
tested {P} c k v w others e found more = by (c == k) refl e
  where
    by : (t : Bool) → (c == k) ≡ t → (if t then Some v else others) ≡ Some w → P
    by true is e = found (eqb-true c k is) (same_Some v w e)
    by false is e = more e

glyph_at : (P : ℕ → ℕ → Type 0) (c k v w : ℕ) → P k v → c ≡ k → v ≡ w → P c w
glyph_at P c k v w p e f = subst (λ x. P c x) f (subst (λ x. P x v) (sym e) p)

pub memory_is : (c w : ℕ) → memory_width c ≡ Some w → IsMemoryGlyph c w
memory_is c w e =
    tested c 49 1 w _ e (glyph_at IsMemoryGlyph c 49 1 w memory_1)
    (λ e. tested c 50 2 w _ e (glyph_at IsMemoryGlyph c 50 2 w memory_2)
    (λ e. tested c 52 4 w _ e (glyph_at IsMemoryGlyph c 52 4 w memory_4)
    (λ e. tested c 56 8 w _ e (glyph_at IsMemoryGlyph c 56 8 w memory_8)
    (λ e. absurd (none-some w e)))))

pub port_is : (c w : ℕ) → port_width c ≡ Some w → IsPortGlyph c w
port_is c w e =
    tested c 49 1 w _ e (glyph_at IsPortGlyph c 49 1 w port_1)
    (λ e. tested c 50 2 w _ e (glyph_at IsPortGlyph c 50 2 w port_2)
    (λ e. tested c 52 4 w _ e (glyph_at IsPortGlyph c 52 4 w port_4)
    (λ e. absurd (none-some w e))))

width_case : (P : ℕ → Type 0) (w k : ℕ) (others : Bool) → ((w == k) || others) ≡ true → P k → (others ≡ true → P w) → P w
width_case P w k others e here more =
    elim (or_cases (w == k) others e) [
      | inl is ↦ subst P (sym (eqb-true w k is)) here
      | inr is ↦ more is
    ]

record HasMemoryGlyph (w : ℕ) : Type 0 where
  code : ℕ
  is : IsMemoryGlyph code w

record HasPortGlyph (w : ℕ) : Type 0 where
  code : ℕ
  is : IsPortGlyph code w

memory_glyph : (w : ℕ) → is_memory_width w ≡ true → HasMemoryGlyph w
memory_glyph w e =
    width_case HasMemoryGlyph w 1 _ e (record { code = 49; is = memory_1 })
    (λ e. width_case HasMemoryGlyph w 2 _ e (record { code = 50; is = memory_2 })
    (λ e. width_case HasMemoryGlyph w 4 _ e (record { code = 52; is = memory_4 })
    (λ e. subst HasMemoryGlyph (sym (eqb-true w 8 e)) (record { code = 56; is = memory_8 }))))

port_glyph : (w : ℕ) → is_port_width w ≡ true → HasPortGlyph w
port_glyph w e =
    width_case HasPortGlyph w 1 _ e (record { code = 49; is = port_1 })
    (λ e. width_case HasPortGlyph w 2 _ e (record { code = 50; is = port_2 })
    (λ e. subst HasPortGlyph (sym (eqb-true w 4 e)) (record { code = 52; is = port_4 })))

-- the text of a step whose word stands at the front
at_load : (t : List ℕ) → script_step (codes "load " ++ t) ≡ load_step t
unfolding script_step past
at_load t = refl

at_store : (t : List ℕ) → script_step (codes "store " ++ t) ≡ store_step t
unfolding script_step past
at_store t = refl

at_swap : (t : List ℕ) → script_step (codes "cas" ++ t) ≡ swap_step t
unfolding script_step past
at_swap t = refl

at_in : (t : List ℕ) → script_step (codes "in " ++ t) ≡ in_step t
unfolding script_step past
at_in t = refl

at_out : (t : List ℕ) → script_step (codes "out " ++ t) ≡ out_step t
unfolding script_step past
at_out t = refl

at_read : (t : List ℕ) → script_step (codes "cfgr" ++ t) ≡ read_step t
unfolding script_step past
at_read t = refl

at_write : (t : List ℕ) → script_step (codes "cfgw" ++ t) ≡ write_step t
unfolding script_step past
at_write t = refl

at_icr : (t : List ℕ) → script_step (codes "icr" ++ t) ≡ icr_step t
unfolding script_step past
at_icr t = refl

at_halt : (t : List ℕ) → script_step (codes "halt" ++ t) ≡ end_step Halt t
unfolding script_step past
at_halt t = refl

at_nop : (t : List ℕ) → script_step (codes "nop" ++ t) ≡ end_step Nop t
unfolding script_step past
at_nop t = refl

-- each access is read as it is spelled
pub reads_spelled : (a : Access) → is_normal a ≡ true → fields_fit a ≡ true → script_step (script_text a) ≡ Some a
unfolding script_text
reads_spelled (Load addr width) normal fit =
    let g = memory_glyph width normal in
    at_load _ ∙ rw (g.is.glyph, g.is.wide, one-text 8 addr (ltb-true addr (2 ^ 32) fit)) refl
reads_spelled (Store addr width value) normal fit =
    let (known, small) = and_parts (is_memory_width width) (nat_lt value (256 ^ width)) normal in
    let g = memory_glyph width known in
    let below : value < 16 ^ (2 * width) = rw g.is.power (ltb-true value (256 ^ width) small) in
    at_store _ ∙ rw (g.is.glyph, g.is.wide, two-text 8 (2 * width) addr value (ltb-true addr (2 ^ 32) fit) below) refl
reads_spelled (Swap addr expected desired) normal fit =
    let (a, more) = and_parts (nat_lt addr (2 ^ 32)) _ fit in
    let (b, c) = and_parts (nat_lt expected (2 ^ 64)) (nat_lt desired (2 ^ 64)) more in
    at_swap _ ∙ rw (three-text 8 16 16 addr expected desired (ltb-true addr (2 ^ 32) a) (ltb-true expected (2 ^ 64) b) (ltb-true desired (2 ^ 64) c)) refl
reads_spelled (In port width) normal fit =
    let g = port_glyph width normal in
    at_in _ ∙ rw (g.is.glyph, g.is.wide, one-text 4 port (ltb-true port (2 ^ 16) fit)) refl
reads_spelled (Out port width value) normal fit =
    let (known, small) = and_parts (is_port_width width) (nat_lt value (256 ^ width)) normal in
    let g = port_glyph width known in
    let below : value < 16 ^ (2 * width) = rw g.is.power (ltb-true value (256 ^ width) small) in
    at_out _ ∙ rw (g.is.glyph, g.is.wide, two-text 4 (2 * width) port value (ltb-true port (2 ^ 16) fit) below) refl
reads_spelled (CfgRead reg) normal fit = at_read _ ∙ rw (one-text 2 reg (ltb-true reg (2 ^ 8) fit)) refl
reads_spelled (CfgWrite reg value) normal fit =
    let (a, b) = and_parts (nat_lt reg (2 ^ 8)) (nat_lt value (2 ^ 8)) fit in
    at_write _ ∙ rw (two-text 2 2 reg value (ltb-true reg (2 ^ 8) a) (ltb-true value (2 ^ 8) b)) refl
reads_spelled (Icr high low) normal fit =
    let (a, b) = and_parts (nat_lt high (2 ^ 32)) (nat_lt low (2 ^ 32)) fit in
    at_icr _ ∙ rw (two-text 8 8 high low (ltb-true high (2 ^ 32) a) (ltb-true low (2 ^ 32) b)) refl
reads_spelled Halt normal fit = at_halt []
reads_spelled Nop normal fit = at_nop []
