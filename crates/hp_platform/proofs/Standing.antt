-- What the handlers are told of a processor in SMM is what the state has of it.
use Rattle.std.proofs.Common.{◌≡◌, ◌≤◌, ℕ, Bool, true, false, Option, Some, None, option_map, option_and_then, refl, sym, ap, subst, ◌∙◌}
use Rattle.std.specs.Prelude.{if◌then◌else◌}
use Rattle.hp_model.specs.declared.platforms.Platform.{Platform}
use Rattle.hp_model.specs.declared.processors.Mode.{Mode}
use Rattle.hp_model.specs.declared.processors.Mode.TheVariants.{Wait, Running, Halted, Smm}
use Rattle.hp_model.specs.declared.accesses.Access.{Access}
use Rattle.hp_model.specs.declared.accesses.Want.{Want}
use Rattle.hp_model.specs.declared.entries.Event.TheVariants as event
use Rattle.hp_model.specs.declared.outcomes.Outcome.{Outcome}
use Rattle.hp_model.specs.declared.labels.Label.{Label}
use Rattle.hp_model.specs.Boot.{is_handed}
use Rattle.hp_model.specs.Cpu.{address_in, is_in_smm}
use Rattle.hp_model.specs.Handlers.{label_of_mark, seat_of, want_at, wanted_at}
use Rattle.hp_model.specs.Monarch.{Monarch}
use Rattle.hp_model.specs.SharedBytes.{Layout, layout_of}
use Rattle.hp_model.specs.Platform.{apic_of}
use Rattle.hp_model.specs.State.{State, at}
use Rattle.hp_model.specs.Firmware.{mark_at, label_at, seat, wanted}
use Rattle.hp_smm.specs.Rows.{row_for, seat_for, want_for}
use Rattle.hp_smm.specs.declared.handlers.SmmCpu.{SmmCpu}
use Rattle.hp_platform.specs.Board.{Board, IsRow, IsSmmCpu, StandsFor}

abbrev wants : Layout → Monarch → ℕ → ℕ → ℕ → Option Label → Option Want
wants y r apic smbase base row = wanted_at y r (seat_of y apic smbase base) row

module _ (b : Board) (s : State) (k : ℕ) (x : SmmCpu) (shows : StandsFor b s) (stands : IsSmmCpu b.platform s k x) where
  pub row-is : row_for b.handlers x ≡ label_at b.platform s k
  unfolding label_at
  row-is =
      ap (λ (y : Layout). label_of_mark y b.handlers.monarch x.cpu x.smbase x.mark) shows.layout
      ∙ ap (λ (r : Monarch). label_of_mark (layout_of b.platform) r x.cpu x.smbase x.mark) shows.monarch
      ∙ ap (λ (j : ℕ). label_of_mark (layout_of b.platform) s.monarch j x.smbase x.mark) stands.cpu
      ∙ ap (λ (a : ℕ). label_of_mark (layout_of b.platform) s.monarch k a x.mark) stands.smbase
      ∙ ap (option_and_then (label_of_mark (layout_of b.platform) s.monarch k (at s k).smbase)) (sym stands.mark)

  pub want-is : want_for b.handlers x ≡ wanted b.platform s k
  want-is =
      ap (λ (y : Layout). wants y b.handlers.monarch x.apic x.smbase x.base (row_for b.handlers x)) shows.layout
      ∙ ap (λ (r : Monarch). wants (layout_of b.platform) r x.apic x.smbase x.base (row_for b.handlers x)) shows.monarch
      ∙ ap (λ (a : ℕ). wants (layout_of b.platform) s.monarch a x.smbase x.base (row_for b.handlers x)) stands.apic
      ∙ ap (λ (a : ℕ). wants (layout_of b.platform) s.monarch (apic_of b.platform k) a x.base (row_for b.handlers x)) stands.smbase
      ∙ ap (λ (a : ℕ). wants (layout_of b.platform) s.monarch (apic_of b.platform k) (at s k).smbase a (row_for b.handlers x)) stands.base
      ∙ ap (wants (layout_of b.platform) s.monarch (apic_of b.platform k) (at s k).smbase (at s k).base) row-is

  -- where no row is due, and what the row wants that is
  pub row_none : row_for b.handlers x ≡ None → None ≡ wanted b.platform s k
  row_none row = sym (ap (wanted_at b.handlers.layout b.handlers.monarch (seat_for b.handlers x)) row) ∙ want-is

  pub row_some : (l : Label) (w : Want) → row_for b.handlers x ≡ Some l → want_at b.handlers.layout (seat_for b.handlers x) b.handlers.monarch l ≡ Some w → Some w ≡ wanted b.platform s k
  row_some l w row is = sym (ap (wanted_at b.handlers.layout b.handlers.monarch (seat_for b.handlers x)) row ∙ is) ∙ want-is

-- who stands at a mark is in SMM
in_smm_by : (f : ℕ → ℕ) (here : Bool) (m : Mode) (v : ℕ) → option_map f (if here then address_in m else None) ≡ Some v → is_in_smm m ≡ true
in_smm_by f false m v e = absurd cc
in_smm_by f true Wait v e = absurd cc
in_smm_by f true (Running page) v e = absurd cc
in_smm_by f true (Halted page) v e = absurd cc
in_smm_by f true (Smm address) v e = refl

pub marked_in_smm : (s : State) (k v : ℕ) → mark_at s k ≡ Some v → is_in_smm (at s k).mode ≡ true
unfolding mark_at
marked_in_smm s k v e = in_smm_by _ (at s k).present (at s k).mode v e

pub none_wanted : (p : Platform) (s : State) (k : ℕ) → mark_at s k ≡ None → wanted p s k ≡ None
unfolding label_at
none_wanted p s k e = ap (λ (o : Option ℕ). wanted_at (layout_of p) s.monarch (seat p s k) (option_and_then (label_of_mark (layout_of p) s.monarch k (at s k).smbase) o)) e

pub ruleset standing = (row_none, row_some, none_wanted)

-- what a row wants, found
stood_at : (p : Platform) (s : State) (k : ℕ) (x : SmmCpu) → x.cpu ≡ k → IsSmmCpu p s k x → IsSmmCpu p s x.cpu x
stood_at p s k x is stands = subst (λ (j : ℕ). IsSmmCpu p s j x) (sym is) stands

pub access_found : (b : Board) (x : SmmCpu) (l : Label) (k : ℕ) (a : Access) → is_handed b.boot.stage ≡ true → ((s : State) → StandsFor b s → IsSmmCpu b.platform s k x) → x.cpu ≡ k →
    row_for b.handlers x ≡ Some l → IsRow b x l (event.Do k a)
access_found b x l k a handed stands cpu label =
    record { handed = handed; stands = λ s shows. stood_at b.platform s k x cpu (stands s shows); label = label; event = sym cpu }

pub outcome_found : (b : Board) (x : SmmCpu) (l : Label) (o : Outcome) → is_handed b.boot.stage ≡ true → ((s : State) → StandsFor b s → IsSmmCpu b.platform s 0 x) → x.cpu ≡ 0 →
    row_for b.handlers x ≡ Some l → IsRow b x l (event.Tell o)
outcome_found b x l o handed stands cpu label =
    record { handed = handed; stands = λ s shows. stood_at b.platform s 0 x cpu (stands s shows); label = label; event = cpu }

pub ruleset rows_found = (access_found, outcome_found)
