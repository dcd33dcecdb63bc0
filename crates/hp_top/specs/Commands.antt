-- The words of each command.
use Rattle.std.specs.Prelude.{◌≡◌, ◌≤◌, ◌+◌, ◌-◌, ◌*◌, ◌==◌, ◌&&◌, nat_le, ℕ, Bool, true, false, List, [], ◌∷◌, Option, Some, None, option_and_then, codes, if◌then◌else◌}
use Rattle.std.specs.Fmt.{decimal}
use Rattle.std.specs.Str.{bytes_eq}
use Rattle.hp_top.specs.declared.commands.Command.{Command}
use Rattle.hp_top.specs.declared.commands.Command.TheVariants.{Run, Check, Gen}

-- the words are `run` alone
abbrev pub are_run : List (List ℕ) → Bool
are_run [] = false
are_run (word ∷ []) = bytes_eq word (codes "run")
are_run (word ∷ (other ∷ words)) = false

-- or `check` alone
abbrev pub are_check : List (List ℕ) → Bool
are_check [] = false
are_check (word ∷ []) = bytes_eq word (codes "check")
are_check (word ∷ (other ∷ words)) = false

-- or `threads` alone
abbrev pub are_threads : List (List ℕ) → Bool
are_threads [] = false
are_threads (word ∷ []) = bytes_eq word (codes "threads")
are_threads (word ∷ (other ∷ words)) = false

-- a decimal number from 1 to 1000, without a sign or a leading zero
pub record IsNumber (word : List ℕ) (n : ℕ) : Type 0 where
  pub text : word ≡ decimal n
  pub least : 1 ≤ n
  pub most : n ≤ 1000

-- these two are `gen` and this number
pub record AreWords (first second : List ℕ) (n : ℕ) : Type 0 where
  pub word : first ≡ codes "gen"
  pub number : IsNumber second n

-- the words are those two alone
abbrev pub AreGen : List (List ℕ) → ℕ → Type 0
AreGen [] n = ⊥
AreGen (first ∷ []) n = ⊥
AreGen (first ∷ (second ∷ [])) n = AreWords first second n
AreGen (first ∷ (second ∷ (other ∷ words))) n = ⊥

-- the words are no command
pub record AreNone (words : List (List ℕ)) : Type 0 where
  pub run : are_run words ≡ false
  pub check : are_check words ≡ false
  pub gen : (n : ℕ) → AreGen words n → ⊥

-- what the words ask for
abbrev pub Asks : List (List ℕ) → Option Command → Type 0
Asks words None = AreNone words
Asks words (Some Run) = are_run words ≡ true
Asks words (Some Check) = are_check words ≡ true
Asks words (Some (Gen n)) = AreGen words n

-- how a number is read, digit by digit: a digit more behind a value, which stays in these bounds
abbrev pub with_digit : ℕ → ℕ → Option ℕ
with_digit value c =
    if nat_le 48 c && (nat_le c 57 && (nat_le 1 (value * 10 + (c - 48)) && nat_le (value * 10 + (c - 48)) 1000)) then Some (value * 10 + (c - 48)) else None

abbrev pub number_onto : ℕ → List ℕ → Option ℕ
number_onto value [] = if value == 0 then None else Some value
number_onto value (c ∷ text) = option_and_then (λ more. number_onto more text) (with_digit value c)
