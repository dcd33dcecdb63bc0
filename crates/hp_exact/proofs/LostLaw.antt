-- The law: nobody leaves in the entries of an outcome but by an eject, while the session is undisturbed.
use Rattle.std.proofs.Common.{◌≡◌, Bool, true, false, List, [], ◌∷◌, Some, refl}
use Rattle.hp_model.specs.declared.platforms.Platform.{Platform}
use Rattle.hp_model.specs.declared.entries.Entry.{Entry}
use Rattle.hp_model.specs.Platform.{IsFit}
use Rattle.hp_model.specs.Boot.{is_handed}
use Rattle.hp_model.specs.State.{State, start}
use Rattle.hp_model.specs.Step.{is_after_broadcast}
use Rattle.hp_model.specs.Runs.{run_on}
use Rattle.hp_model.specs.Transitions.{Transition, transitions}
use Rattle.hp_model.proofs.AtEach.{made, each_passes}
use Rattle.hp_sealed.specs.Left.{Sound}
use Rattle.hp_exact.proofs.Naming.{Ids, ids_of}
use Rattle.hp_exact.proofs.Stood.{stood}
use Rattle.hp_exact.proofs.Reporting.{no_more}
use Rattle.hp_exact.proofs.Losses.{Losses}
use Rattle.hp_exact.proofs.Wholes.{Whole, whole_begins, whole_goes, fresh_at_hand_over, silent_before}
use Rattle.hp_exact.proofs.Quiet.{handed_of}
use Rattle.hp_sealed.proofs.Starts.{sound}
use Rattle.hp_model.specs.Outcomes.{own_of, when_told, each_told, loses_none}
use Rattle.hp_model.specs.Events.{outcome_in}
use Rattle.hp_exact.proofs.Lost.{losses_go, lost_after}

-- every state of a run
pub record Lossless (p : Platform) (past : List Transition) (s : State) : Type 0 where
  pub whole : Whole p past s
  pub losses : is_handed s.stage ≡ true → is_after_broadcast s.monarch.label ≡ true → s.disturbed ≡ false → Losses p (own_of p past) s.block s.cpus s.monarch

pub lossless_begins : (p : Platform) → IsFit p → Lossless p [] (start p)
lossless_begins p fits = record { whole = whole_begins p fits; losses = λ e after quiet. absurd cc }

pub lossless_goes : (p : Platform) → Sound p → Ids p → (past : List Transition) (s t : State) (e : Entry) → Lossless p past s → run_on p s e ≡ Some t → Lossless p (made s e t ∷ past) t
lossless_goes p fit ids past s t e h is = record { whole = whole_goes p fit ids past s t e h.whole is; losses = by_stage (is_handed s.stage) refl }
  where
    by_stage : (b : Bool) → is_handed s.stage ≡ b → is_handed t.stage ≡ true → is_after_broadcast t.monarch.label ≡ true → t.disturbed ≡ false → Losses p (own_of p (made s e t ∷ past)) t.block t.cpus t.monarch
    by_stage true on over after quiet = losses_go p fit ids past s (stood p s fit (handed_of p s h.whole.good on)) (h.whole.handed on) (h.losses on) e t is after quiet
    by_stage false on over after quiet = no_more (is_after_broadcast t.monarch.label) (fresh_at_hand_over p s t e fit h.whole.good on is over) after

test_passes : (p : Platform) → Sound p → Ids p → (past : List Transition) (s t : State) (e : Entry) → Lossless p past s → run_on p s e ≡ Some t → when_told p (loses_none p) past s (outcome_in e.event) ≡ true
test_passes p fit ids past s t e h is = by_stage (is_handed s.stage) refl
  where
    by_stage : (b : Bool) → is_handed s.stage ≡ b → when_told p (loses_none p) past s (outcome_in e.event) ≡ true
    by_stage true on = lost_after p fit ids past s (stood p s fit (handed_of p s h.whole.good on)) (h.whole.handed on) (h.losses on) e t is
    by_stage false on = silent_before p (loses_none p) past s t e h.whole.good on is

pub law : (p : Platform) (es : List Entry) → IsFit p → each_told p (loses_none p) (transitions p es) ≡ true
law p es fits =
    each_passes p (Lossless p) (λ past s t e h is. lossless_goes p (sound p fits) (ids_of p fits) past s t e h is) (λ older x. when_told p (loses_none p) older x.before (outcome_in x.entry.event))
    (λ past s t e h is. test_passes p (sound p fits) (ids_of p fits) past s t e h is) (lossless_begins p fits) es
