-- States in which nothing that happens shows what locked memory holds.
use Rattle.std.specs.Prelude.{ℕ, ◌≡◌, Bool, true, ◌&&◌, ◌||◌, ◌==◌, nat_lt, nat_le, ◌+◌, List, map, ◌++◌, Some}
use Rattle.hp_model.specs.declared.platforms.Platform.{Platform}
use Rattle.hp_model.specs.declared.accesses.Access.{Access}
use Rattle.hp_model.specs.declared.accesses.Access.TheVariants.{Load, Store, Swap, In, Out, CfgRead, CfgWrite, Icr, Halt, Nop}
use Rattle.hp_model.specs.declared.entries.Event.{Event}
use Rattle.hp_model.specs.declared.entries.Entry.{Entry}
use Rattle.hp_model.specs.View.{Locks, tseg_size, is_locked}
use Rattle.hp_model.specs.Boot.{is_handed}
use Rattle.hp_model.specs.SharedBytes.{Layout, layout_of}
use Rattle.hp_model.specs.Handlers.{is_tile}
use Rattle.hp_model.specs.State.{State, at}
use Rattle.hp_model.specs.Runs.{run_from, run}
use Rattle.hp_model.specs.Visible.{IsAlike, visible_entry}

-- the default SMBASE, or that of a tile
abbrev pub is_base : Layout → ℕ → Bool
is_base y smbase = (smbase == 0x30000) || is_tile y smbase

-- handed over, with the default area and a TSEG of the platform's size locked for good, and each present processor based in one of them
pub record IsShielded (p : Platform) (s : State) : Type 0 where
  pub handed : is_handed s.stage ≡ true
  pub f_smbase : s.locks.f_smbase ≡ 2
  pub smram : s.locks.smram ≡ 0x18
  pub size : tseg_size s.locks.ext_tseg s.locks.esmramc ≡ p.tseg_mib
  pub low_memory : s.locks.low_memory ≡ p.low_memory
  pub based : (k : ℕ) → (at s k).present ≡ true → is_base (layout_of p) (at s k).smbase ≡ true

-- two shielded states that agree in all that is visible
pub record AreTwins (p : Platform) (s t : State) : Type 0 where
  pub first : IsShielded p s
  pub second : IsShielded p t
  pub alike : IsAlike s t

-- each state that these entries lead through from here, the last one too, is shielded
abbrev pub StaysShielded : Platform → State → List Entry → Type 0
StaysShielded p s es = (before rest : List Entry) (t : State) → es ≡ before ++ rest → run_from p s before ≡ Some t → IsShielded p t

-- each state of each run of the platform is shielded from the hand-over on
abbrev pub IsAlwaysShielded : Platform → Type 0
IsAlwaysShielded p = (es : List Entry) (s : State) → run p es ≡ Some s → is_handed s.stage ≡ true → IsShielded p s

abbrev pub events_of : List Entry → List Event
events_of es = map (λ (e : Entry). e.event) es

-- two states agree in all that is visible, and so do these entries of theirs
pub record GoAlike (s t : State) (es fs : List Entry) : Type 0 where
  pub states : IsAlike s t
  pub entries : map visible_entry es ≡ map visible_entry fs

-- an access that reaches locked memory alone, or nothing
abbrev pub AreLocked : Locks → ℕ → ℕ → Type 0
AreLocked l addr width = (x : ℕ) → (nat_le addr x && nat_lt x (addr + width)) ≡ true → is_locked l x ≡ true

abbrev pub StaysInside : Locks → Access → Type 0
StaysInside l (Load addr width) = Unit {0}
StaysInside l (Store addr width value) = AreLocked l addr width
StaysInside l (Swap addr expected desired) = AreLocked l addr 8
StaysInside l (In port width) = ⊥
StaysInside l (Out port width value) = ⊥
StaysInside l (CfgRead reg) = Unit {0}
StaysInside l (CfgWrite reg value) = ⊥
StaysInside l (Icr high low) = ⊥
StaysInside l Halt = ⊥
StaysInside l Nop = Unit {0}

-- two runs of a platform, that lead to states which agree in all that is visible, and from the hand-over on go on by the same events
pub record GoOnAlike (p : Platform) (xs ys es fs : List Entry) (s t u v : State) : Type 0 where
  pub first : run p xs ≡ Some s
  pub second : run p ys ≡ Some t
  pub handed : is_handed s.stage ≡ true
  pub alike : IsAlike s t
  pub first_on : run p (xs ++ es) ≡ Some u
  pub second_on : run p (ys ++ fs) ≡ Some v
  pub events : events_of es ≡ events_of fs
