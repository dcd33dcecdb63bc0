-- The text of a script step, spelled from its access (own rules): the step of a trace without the answer.
use Rattle.std.specs.Prelude.{◌≡◌, ℕ, Bool, true, ◌&&◌, nat_lt, ◌*◌, ◌^◌, List, [], ◌∷◌, codes}
use Rattle.hp_model.specs.declared.accesses.Access.{Access}
use Rattle.hp_model.specs.declared.accesses.Access.TheVariants.{Load, Store, Swap, In, Out, CfgRead, CfgWrite, Icr, Halt, Nop}
use Rattle.hp_model.specs.Access.{is_normal}
use Rattle.hp_model.specs.Text.{Piece, word, number, hexadecimal, spell}

abbrev pub script_pieces : Access → List Piece
script_pieces (Load addr width) = word (codes "load ") ∷ number width ∷ word (codes " ") ∷ hexadecimal 8 addr ∷ []
script_pieces (Store addr width value) =
    word (codes "store ") ∷ number width ∷ word (codes " ") ∷ hexadecimal 8 addr ∷ word (codes " ") ∷ hexadecimal (2 * width) value ∷ []
script_pieces (Swap addr expected desired) =
    word (codes "cas ") ∷ hexadecimal 8 addr ∷ word (codes " ") ∷ hexadecimal 16 expected ∷ word (codes " ") ∷ hexadecimal 16 desired ∷ []
script_pieces (In port width) = word (codes "in ") ∷ number width ∷ word (codes " ") ∷ hexadecimal 4 port ∷ []
script_pieces (Out port width value) =
    word (codes "out ") ∷ number width ∷ word (codes " ") ∷ hexadecimal 4 port ∷ word (codes " ") ∷ hexadecimal (2 * width) value ∷ []
script_pieces (CfgRead reg) = word (codes "cfgr ") ∷ hexadecimal 2 reg ∷ []
script_pieces (CfgWrite reg value) = word (codes "cfgw ") ∷ hexadecimal 2 reg ∷ word (codes " ") ∷ hexadecimal 2 value ∷ []
script_pieces (Icr high low) = word (codes "icr ") ∷ hexadecimal 8 high ∷ word (codes " ") ∷ hexadecimal 8 low ∷ []
script_pieces Halt = word (codes "halt") ∷ []
script_pieces Nop = word (codes "nop") ∷ []

-- the text of a step
unfoldable pub script_text : Access → List ℕ
script_text a = spell (script_pieces a)

-- each field but a value fits its digits; a value of a normal access does
abbrev pub fields_fit : Access → Bool
fields_fit (Load addr width) = nat_lt addr (2 ^ 32)
fields_fit (Store addr width value) = nat_lt addr (2 ^ 32)
fields_fit (Swap addr expected desired) = nat_lt addr (2 ^ 32) && (nat_lt expected (2 ^ 64) && nat_lt desired (2 ^ 64))
fields_fit (In port width) = nat_lt port (2 ^ 16)
fields_fit (Out port width value) = nat_lt port (2 ^ 16)
fields_fit (CfgRead reg) = nat_lt reg (2 ^ 8)
fields_fit (CfgWrite reg value) = nat_lt reg (2 ^ 8) && nat_lt value (2 ^ 8)
fields_fit (Icr high low) = nat_lt high (2 ^ 32) && nat_lt low (2 ^ 32)
fields_fit Halt = true
fields_fit Nop = true

-- the text spells the access, which is one that a script can ask for
pub record IsSpelled (line : List ℕ) (a : Access) : Type 0 where
  pub normal : is_normal a ≡ true
  pub fields : fields_fit a ≡ true
  pub spelled : line ≡ script_text a
