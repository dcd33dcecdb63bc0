-- What every state of a run has, and what its steps leave of it.
use Rattle.std.proofs.Common.{◌≡◌, ◌⊎◌, inl, inr, List, [], ◌∷◌, Some, refl, sym, ap, subst, ◌∙◌}
use Rattle.std.proofs.lemmas.Option.{same_Some}
use Rattle.hp_model.specs.declared.platforms.Platform.{Platform}
use Rattle.hp_model.specs.declared.entries.Entry.{Entry}
use Rattle.hp_model.specs.declared.entries.Event.{Event}
use Rattle.hp_model.specs.Platform.{apic_of}
use Rattle.hp_model.specs.Memory.{Write}
use Rattle.hp_model.specs.Labels.{handler_of}
use Rattle.hp_model.specs.Monarch.{Monarch}
use Rattle.hp_model.specs.State.{State, at}
use Rattle.hp_model.specs.Step.{After, step}
use Rattle.hp_model.specs.Runs.{run_from}
use Rattle.hp_sealed.specs.Left.{Sound, LeavesKept}
use Rattle.hp_sealed.specs.Sealed.{IsSealed, IsAtSlot}
use Rattle.hp_sealed.specs.Booting.{IsBooting, IsRefused, IsBooted}
use Rattle.hp_sealed.proofs.Left.{left_same, left_then}
use Rattle.hp_sealed.proofs.Values.{value_left}
use Rattle.hp_sealed.proofs.Places.{guarded_locked, kept_guarded, kept_cell}
use Rattle.hp_sealed.proofs.Goes.{boot_goes, refused_goes}
use Rattle.hp_sealed.proofs.Runs.{made, first_step}
use Rattle.hp_safety.proofs.Needs.{need_of}
use Rattle.hp_safety.proofs.Invariant.{Holding, is_past, Invariant}
use Rattle.hp_safety.proofs.Keeps.{gathered, cpu_parts_outside}
use Rattle.hp_safety.proofs.Events.{keeps}

-- after the hand-over: against its own memory, so that a state has it whatever came before
abbrev pub IsHanded : Platform → State → Type 0
IsHanded p s = Invariant p s.writes s

-- where a run may be
abbrev pub IsGood : Platform → State → Type 0
IsGood p s = IsBooting p s ⊎ (IsRefused p s ⊎ IsHanded p s)

abbrev pub KeepsGood : Platform → State → State → Type 0
KeepsGood p s t = IsGood p t × LeavesKept p s t

-- any memory after the hand-over may stand for the one at it
pub rebase : (p : Platform) (m : List Write) (s : State) → Sound p → Invariant p m s → IsHanded p s
rebase p m s fit h = record {
  handed = h.handed;
  locked = record {
    marks = λ l k b runs. value_left 4 _ m s.writes (λ i small. h.locked.kept _ (kept_cell p l (handler_of l) k b i fit refl runs small)) ∙ h.locked.marks l k b runs;
    registers = h.locked.registers;
    kept = λ x e. left_same x s.writes;
  };
  stand = h.stand;
  slots = h.slots;
  gated = h.gated;
  rests = h.rests;
  recorded = h.recorded;
  holding = h.holding;
  settled = h.settled;
}

-- what the boot has sealed has all parts
pub sealed_handed : (p : Platform) (s : State) → IsSealed p s → IsHanded p s
sealed_handed p s h =
    gathered p s.writes s h.stage (record { marks = h.holds.cells; registers = h.locks; kept = λ x e. left_same x s.writes })
    (λ k. cpu_parts_outside p s.monarch s.writes k (at s k) (h.cpus.outside k) (h.cpus.based k) (h.cpus.possible k) (λ e. subst (λ (r : Monarch). IsAtSlot p r.slots.bound (apic_of p k) (at s k).smbase) (sym h.cpus.begun) (h.cpus.slotted k e))) h.cpus.first
    (inl h.holds.gate) (λ e. ap (λ (r : Monarch). need_of r.label) h.cpus.begun) h.cpus.recorded
    (subst (λ (r : Monarch). Holding p r.slots) (sym h.cpus.begun) (record { in_bound = λ a e. absurd cc; slot = λ a e. absurd cc }))
    (λ e k. ap is_past (h.cpus.outside k))

handed_keeps_good : (p : Platform) (s : State) (e : Event) (t : After) → Sound p → IsHanded p s → step p s e ≡ Some t → KeepsGood p s t.state
handed_keeps_good p s e t fit h is =
    let next : Invariant p s.writes t.state = keeps p s.writes s e t fit h is in (
      inr (inr (rebase p s.writes t.state fit next)),
      record { left = λ x k l. next.locked.kept x k; locked = λ x k l. guarded_locked p t.state.locks x fit next.locked.registers (kept_guarded p x k) },
    )

booted_good : (p : Platform) (s : State) → IsBooted p s → IsGood p s
booted_good p s (inl h) = inl h
booted_good p s (inr (inl h)) = inr (inl h)
booted_good p s (inr (inr h)) = inr (inr (sealed_handed p s h))

pub keeps_good : (p : Platform) (s : State) (e : Event) (t : After) → Sound p → IsGood p s → step p s e ≡ Some t → KeepsGood p s t.state
keeps_good p s e t fit (inl h) is = let g = boot_goes p s e t fit h is in (booted_good p t.state g.0, g.1)
keeps_good p s e t fit (inr (inl h)) is = absurd (refused_goes p s e t h is)
keeps_good p s e t fit (inr (inr h)) is = handed_keeps_good p s e t fit h is

-- all states of a run are good, and what is kept and locked stays so
pub runs_go : (p : Platform) (s t : State) (es : List Entry) → Sound p → IsGood p s → run_from p s es ≡ Some t → KeepsGood p s t
unfolding run_from
runs_go p s t [] fit good is = subst (KeepsGood p s) (same_Some s t is) (good, record { left = λ x k l. left_same x s.writes; locked = λ x k l. l })
runs_go p s t (e ∷ es) fit good is =
    let f = first_step p s t e es is in
    let m = made p s e f.0 f.1 in
    let one : KeepsGood p s f.0 = subst (KeepsGood p s) m.state (keeps_good p s e.event m.after fit good m.step) in
    let rest : KeepsGood p f.0 t = runs_go p f.0 t es fit one.0 f.2 in (
      rest.0,
      record {
        left = λ x k l. left_then x s.writes f.0.writes t.writes (one.1.left x k l) (rest.1.left x k (one.1.locked x k l));
        locked = λ x k l. rest.1.locked x k (one.1.locked x k l);
      },
    )
