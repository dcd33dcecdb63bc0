-- The one compare and exchange that a handler makes is that of the gate.
use Rattle.std.proofs.Common.{ℕ, ◌≡◌, ◌==◌, Bool, true, Option, Some, None, refl, sym, subst}
use Rattle.hp_model.specs.declared.platforms.Platform.{Platform}
use Rattle.hp_model.specs.declared.accesses.Access.{Access}
use Rattle.hp_model.specs.declared.accesses.Access.TheVariants.{Load, Store, Swap, In, Out, CfgRead, CfgWrite, Icr, Halt, Nop}
use Rattle.hp_model.specs.declared.accesses.Want.{Want}
use Rattle.hp_model.specs.declared.accesses.Want.TheVariants as want
use Rattle.hp_model.specs.declared.labels.Label.{Label}
use Rattle.hp_model.specs.declared.labels.Label.TheVariants.{F1}
use Rattle.hp_model.specs.SharedBytes.{Layout, layout_of, gate}
use Rattle.hp_model.specs.Monarch.{Monarch}
use Rattle.hp_model.specs.Handlers.{Seat, want_at, wanted_at}
use Rattle.hp_model.specs.State.{State}
use Rattle.hp_model.specs.Firmware.{seat, label_at, wanted, is_that_access}
use Rattle.hp_model.proofs.Same.{same_access-equal}

-- an access that is no compare and exchange, or the gate's
abbrev pub swaps_gate : Access → Bool
swaps_gate (Load addr width) = true
swaps_gate (Store addr width value) = true
swaps_gate (Swap addr expected desired) = addr == gate
swaps_gate (In port width) = true
swaps_gate (Out port width value) = true
swaps_gate (CfgRead reg) = true
swaps_gate (CfgWrite reg value) = true
swaps_gate (Icr high low) = true
swaps_gate Halt = true
swaps_gate Nop = true

abbrev wants_gate : Option Want → Bool
wants_gate None = true
wants_gate (Some (want.Do a)) = swaps_gate a
wants_gate (Some (want.Tell o)) = true
wants_gate (Some want.Resume) = true

row_wants_gate : (y : Layout) (x : Seat) (r : Monarch) (l : Label) → wants_gate (want_at y x r l) ≡ true
row_wants_gate y x r F1 = refl
row_wants_gate y x r _ = refl

wanted_wants_gate : (y : Layout) (x : Seat) (r : Monarch) (o : Option Label) → wants_gate (wanted_at y r x o) ≡ true
wanted_wants_gate y x r None = refl
wanted_wants_gate y x r (Some l) = row_wants_gate y x r l

-- what a handler wants and gets
pub handler_swaps_gate : (p : Platform) (s : State) (k : ℕ) (a : Access) → is_that_access (wanted p s k) a ≡ true → swaps_gate a ≡ true
handler_swaps_gate p s k a is = by_want (wanted p s k) (wanted_wants_gate (layout_of p) (seat p s k) s.monarch (label_at p s k)) is
  where
    by_want : (w : Option Want) → wants_gate w ≡ true → is_that_access w a ≡ true → swaps_gate a ≡ true
    by_want None e f = absurd cc
    by_want (Some (want.Do b)) e f = subst (λ c. swaps_gate c ≡ true) (sym (same_access-equal a b f)) e
    by_want (Some (want.Tell o)) e f = absurd cc
    by_want (Some want.Resume) e f = absurd cc
