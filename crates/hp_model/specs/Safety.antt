-- What safety means (own rules): the law of locked instructions, those of SMBASEs and of sessions, and all together.
use Rattle.std.specs.Prelude.{◌≡◌, ◌<◌, ℕ, Bool, true, false, ◌&&◌, ◌+◌, List, ◌∷◌, ◌++◌, Option, Some, None}
use Rattle.hp_model.specs.declared.platforms.Platform.{Platform}
use Rattle.hp_model.specs.declared.accesses.Want.{Want}
use Rattle.hp_model.specs.declared.entries.Entry.{Entry}
use Rattle.hp_model.specs.Memory.{touched}
use Rattle.hp_model.specs.View.{is_locked}
use Rattle.hp_model.specs.State.{State, at}
use Rattle.hp_model.specs.Access.{stands_in_smm}
use Rattle.hp_model.specs.Firmware.{wanted}
use Rattle.hp_model.specs.Runs.{run}
use Rattle.hp_model.specs.Smbases.{IsDistinct, IsNamed}
use Rattle.hp_model.specs.Exact.{IsExact}

-- a processor is astray where it is in SMM and no handler says what it does there
abbrev pub wants_none : Option Want → Bool
wants_none None = true
wants_none (Some w) = false

abbrev pub is_astray : Platform → State → ℕ → Bool
is_astray p s k = stands_in_smm (at s k) && wants_none (wanted p s k)

-- since the byte was locked no write has covered it: in each state t that the run went through with the byte locked, as many had as now
abbrev pub IsUntouched : Platform → List Entry → State → ℕ → Type 0
IsUntouched p es s x =
    (before since : List Entry) (t : State) → es ≡ before ++ since → run p before ≡ Some t → is_locked t.locks x ≡ true → touched s.writes x ≡ touched t.writes x

-- for each entry made in SMM at address a: the four bytes from a on are locked before it and untouched since; and no state is astray
pub record IsLockedBefore (p : Platform) (es : List Entry) : Type 0 where
  pub locked : (before rest : List Entry) (e : Entry) (s : State) (a i : ℕ) → es ≡ before ++ e ∷ rest → run p before ≡ Some s → e.at ≡ Some a → i < 4 → is_locked s.locks (a + i) ≡ true
  pub untouched : (before rest : List Entry) (e : Entry) (s : State) (a i : ℕ) → es ≡ before ++ e ∷ rest → run p before ≡ Some s → e.at ≡ Some a → i < 4 → IsUntouched p before s (a + i)
  pub rows : (before rest : List Entry) (s : State) (k : ℕ) → es ≡ before ++ rest → run p before ≡ Some s → is_astray p s k ≡ false

-- what each run keeps at every step: locked instructions, SMBASEs of their own, and an SMBASE that changes past the gate alone
pub record IsGuarded (p : Platform) (es : List Entry) : Type 0 where
  pub locked_before : IsLockedBefore p es
  pub distinct : IsDistinct p es
  pub named : IsNamed p es

-- a platform's entries are safe: all four laws, that of locked instructions, the two of SMBASEs, and that of sessions
pub record IsSafe (p : Platform) (es : List Entry) : Type 0 where
  pub guarded : IsGuarded p es
  pub exact : IsExact p es
