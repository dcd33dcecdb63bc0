-- What the law of locked memory keeps of each state after the hand-over, as far as sessions need it: where processors stand.
use Rattle.std.proofs.Common.{ℕ, ◌≡◌, ◌<◌, true, Option, Some, None, refl, sym, subst, ◌∙◌}
use Rattle.std.proofs.lemmas.Option.{same_Some}
use Rattle.hp_model.specs.declared.platforms.Platform.{Platform}
use Rattle.hp_model.specs.declared.labels.Label.{Label}
use Rattle.hp_model.specs.Platform.{count_of}
use Rattle.hp_model.specs.Cpu.{smm_address}
use Rattle.hp_model.specs.Boot.{is_handed}
use Rattle.hp_model.specs.Labels.{handler_of}
use Rattle.hp_model.specs.SharedBytes.{layout_of}
use Rattle.hp_model.specs.Handlers.{runs_at, is_current, address_of_label}
use Rattle.hp_model.specs.State.{State, at}
use Rattle.hp_model.specs.Firmware.{label_at}
use Rattle.hp_sealed.specs.Left.{Sound, Locked}
use Rattle.hp_sealed.specs.Sealed.{is_based}
use Rattle.hp_safety.proofs.Invariant.{IsAtCell}
use Rattle.hp_safety.proofs.Keeps.{row_here, no_row}
use Rattle.hp_safety.proofs.Runs.{IsHanded}

-- processor k stands at address a, the cell of a label of the handler that runs at its SMBASE, and has this label's row
pub record AtCell (p : Platform) (s : State) (k a : ℕ) (l : Label) : Type 0 where
  pub runs : runs_at (layout_of p) (handler_of l) k (at s k).smbase ≡ true
  pub current : is_current s.monarch (handler_of l) l ≡ true
  pub here : a ≡ address_of_label (at s k).smbase l
  pub row : label_at p s k ≡ Some l

-- after the hand-over: the lock registers are fixed, processor 0 is there, each present processor is a possible one with an SMBASE that it may have,
-- and whoever is in SMM stands at a cell of its handler
pub record IsStood (p : Platform) (s : State) : Type 0 where
  pub handed : is_handed s.stage ≡ true
  pub locks : Locked p s.locks
  pub first : (at s 0).present ≡ true
  pub based : (k : ℕ) → (at s k).present ≡ true → is_based p k (at s k).smbase ≡ true
  pub possible : (k : ℕ) → (at s k).present ≡ true → k < count_of p
  pub stands : (k a : ℕ) → smm_address (at s k) ≡ Some a → (l : Label) × AtCell p s k a l

-- the first law's invariant gives that
pub stood : (p : Platform) (s : State) → Sound p → IsHanded p s → IsStood p s
stood p s sound h = record {
  handed = h.handed;
  locks = h.locked.registers;
  first = h.slots.first;
  based = h.slots.based;
  possible = h.slots.possible;
  stands = λ k a is.
      let c : IsAtCell p s.monarch s.writes k (at s k).smbase (at s k).base (Some a) = subst (IsAtCell p s.monarch s.writes k (at s k).smbase (at s k).base) is (h.stand.each k) in
      (c.0, record { runs = c.1.runs; current = c.1.current; here = c.1.here; row = row_here p s.writes s k a c.0 sound h is c.1 });
}

-- who has a row stands at its cell
pub record AtRow (p : Platform) (s : State) (k : ℕ) (l : Label) : Type 0 where
  pub address : ℕ
  pub is : smm_address (at s k) ≡ Some address
  pub cell : AtCell p s k address l

pub row_stands : (p : Platform) (s : State) (k : ℕ) (l : Label) → IsStood p s → label_at p s k ≡ Some l → AtRow p s k l
row_stands p s k l h e = by_address (smm_address (at s k)) refl
  where
    by_address : (o : Option ℕ) → smm_address (at s k) ≡ o → AtRow p s k l
    by_address None is = absurd (no_row p s k l is e)
    by_address (Some a) is =
        let c = h.stands k a is in
        let same : c.0 ≡ l = same_Some c.0 l (sym c.1.row ∙ e) in
        record { address = a; is = is; cell = subst (AtCell p s k a) same c.1 }
