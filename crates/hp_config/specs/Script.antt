-- The grammar of script steps (own rules): a word, a width where it has one, and groups of digits, each after one space.
use Rattle.std.specs.Prelude.{ℕ, ◌&&◌, ◌==◌, nat_le, ◌+◌, ◌-◌, ◌*◌, List, [], ◌∷◌, length, take, drop, codes, Option, Some, None, if◌then◌else◌, option_map, option_and_then}
use Rattle.hp_model.specs.declared.accesses.Access.{Access}
use Rattle.hp_model.specs.declared.accesses.Access.TheVariants.{Load, Store, Swap, In, Out, CfgRead, CfgWrite, Icr, Halt, Nop}

-- what follows a word at the front
unfoldable pub past : List ℕ → List ℕ → Option (List ℕ)
past [] text = Some text
past (c ∷ word) [] = None
past (c ∷ word) (b ∷ text) = if c == b then past word text else None

-- a hexadecimal digit in lower case
abbrev pub digit_of : ℕ → Option ℕ
digit_of c =
    if nat_le 48 c && nat_le c 57 then Some (c - 48)
    else if nat_le 97 c && nat_le c 102 then Some (c - 87)
    else None

-- digits, read onto the number that those before them make
abbrev pub hex_onto : ℕ → List ℕ → Option ℕ
hex_onto value [] = Some value
hex_onto value (c ∷ text) = option_and_then (λ digit. hex_onto (value * 16 + digit) text) (digit_of c)

-- the whole text is so many digits
unfoldable pub number : ℕ → List ℕ → Option ℕ
number digits text = if length text == digits then hex_onto 0 text else None

-- the text is one, two or three groups of digits, each of so many, with one space before it
abbrev pub space : List ℕ
space = 32 ∷ []

unfoldable pub one : ℕ → List ℕ → Option ℕ
one a text = option_and_then (number a) (past space text)

-- a group of digits, and what follows it
unfoldable pub front : ℕ → List ℕ → Option (ℕ × List ℕ)
front a text = option_and_then (λ rest. option_map (λ x. (x, drop a rest)) (number a (take a rest))) (past space text)

unfoldable pub two : ℕ → ℕ → List ℕ → Option (ℕ × ℕ)
two a b text = option_and_then (λ p. option_map (λ y. (p.0, y)) (one b p.1)) (front a text)

unfoldable pub three : ℕ → ℕ → ℕ → List ℕ → Option (ℕ × ℕ × ℕ)
three a b c text = option_and_then (λ p. option_map (λ q. (p.0, q.0, q.1)) (two b c p.1)) (front a text)

-- the width of an access to memory: 1, 2, 4 or 8
abbrev pub memory_width : ℕ → Option ℕ
memory_width c =
    if c == 49 then Some 1
    else if c == 50 then Some 2
    else if c == 52 then Some 4
    else if c == 56 then Some 8
    else None

-- at a port: 1, 2 or 4
abbrev pub port_width : ℕ → Option ℕ
port_width c =
    if c == 49 then Some 1
    else if c == 50 then Some 2
    else if c == 52 then Some 4
    else None

-- what follows `load `, and so on
abbrev pub load_step : List ℕ → Option Access
load_step [] = None
load_step (c ∷ text) = option_and_then (λ width. option_map (λ addr. Load addr width) (one 8 text)) (memory_width c)

abbrev pub store_step : List ℕ → Option Access
store_step [] = None
store_step (c ∷ text) =
    option_and_then (λ width. option_map (λ p. Store p.0 width p.1) (two 8 (2 * width) text)) (memory_width c)

abbrev pub in_step : List ℕ → Option Access
in_step [] = None
in_step (c ∷ text) = option_and_then (λ width. option_map (λ port. In port width) (one 4 text)) (port_width c)

abbrev pub out_step : List ℕ → Option Access
out_step [] = None
out_step (c ∷ text) =
    option_and_then (λ width. option_map (λ p. Out p.0 width p.1) (two 4 (2 * width) text)) (port_width c)

-- nothing follows
abbrev pub end_step : Access → List ℕ → Option Access
end_step a [] = Some a
end_step a (c ∷ text) = None

abbrev pub swap_step : List ℕ → Option Access
swap_step text = option_map (λ t. Swap t.0 t.1 t.2) (three 8 16 16 text)

abbrev pub read_step : List ℕ → Option Access
read_step text = option_map (λ reg. CfgRead reg) (one 2 text)

abbrev pub write_step : List ℕ → Option Access
write_step text = option_map (λ p. CfgWrite p.0 p.1) (two 2 2 text)

abbrev pub icr_step : List ℕ → Option Access
icr_step text = option_map (λ p. Icr p.0 p.1) (two 8 8 text)

-- the step whose word stands at the front, else another
abbrev pub row : Option (List ℕ) → (List ℕ → Option Access) → Option Access → Option Access
row None step other = other
row (Some rest) step other = step rest

abbrev pub memory_step : List ℕ → Option Access → Option Access
memory_step text other =
    row (past (codes "load ") text) load_step
    (row (past (codes "store ") text) store_step
    (row (past (codes "cas") text) swap_step other))

abbrev pub port_step : List ℕ → Option Access → Option Access
port_step text other =
    row (past (codes "in ") text) in_step
    (row (past (codes "out ") text) out_step
    (row (past (codes "cfgr") text) read_step
    (row (past (codes "cfgw") text) write_step other)))

abbrev pub other_step : List ℕ → Option Access
other_step text =
    row (past (codes "icr") text) icr_step
    (row (past (codes "halt") text) (end_step Halt)
    (row (past (codes "nop") text) (end_step Nop) None))

-- the access that a step's text asks for, None where the text is in no form
unfoldable pub script_step : List ℕ → Option Access
script_step text = memory_step text (port_step text (other_step text))
