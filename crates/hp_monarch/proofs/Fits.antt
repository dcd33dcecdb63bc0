-- Whether an answer fits a row depends on the row alone, not on who stands there; so what fits the monarch fits its part.
use Rattle.std.proofs.Common.{◌≡◌, ℕ, Bool, subst}
use Rattle.hp_model.specs.declared.accesses.Answer.{Answer}
use Rattle.hp_model.specs.declared.labels.Label.{Label}
use Rattle.hp_model.specs.declared.labels.Label.TheVariants.{F1}
use Rattle.hp_model.specs.Add.{AddNext, AddsAt, Ends}
use Rattle.hp_model.specs.Collection.{CollectNext, CollectsAt, CollectEnds}
use Rattle.hp_model.specs.Eject.{EjectNext, EjectsAt, EjectEnds}
use Rattle.hp_model.specs.Fitting.{FitsWant}
use Rattle.hp_model.specs.Handlers.{Seat, want_at}
use Rattle.hp_model.specs.Monarch.{Monarch}
use Rattle.hp_model.specs.SharedBytes.{Layout}
use Rattle.hp_collect.specs.Collecting.{Fits as FitsCollection, IsGoing as IsCollecting}
use Rattle.hp_eject.specs.Ejecting.{Fits as FitsEject, IsGoing as IsEjecting}
use Rattle.hp_reloc.specs.Relocating.{Fits as FitsAdd, IsGoing as IsAdding}
use Rattle.hp_monarch.specs.Session.{Fits, Session, adding_at, collecting_at, ejecting_at}

fits_any : (y z : Layout) (x q : Seat) (r s : Monarch) (answer : Answer) (l : Label) → FitsWant (want_at y x r l) answer → FitsWant (want_at z q s l) answer
fits_any y z x q r s answer F1 h = h
fits_any y z x q r s answer _ h = h

pub fits_collection : (s : Session) (answer : Answer) (d : CollectNext) → IsCollecting d → s.monarch.label ≡ collecting_at d → Fits s answer → FitsCollection d answer
fits_collection s answer (CollectsAt l c) going e h = λ y x r same.
    fits_any s.layout y x x s.monarch r answer l (subst (λ (m : Label). FitsWant (want_at s.layout x s.monarch m) answer) e (h x))
fits_collection s answer (CollectEnds c) going e h = going

pub fits_add : (s : Session) (answer : Answer) (tseg : ℕ) (x2apic : Bool) (d : AddNext) → IsAdding d → s.monarch.label ≡ adding_at d → Fits s answer → FitsAdd tseg x2apic d answer
fits_add s answer tseg x2apic (AddsAt l a) going e h = λ y x r at wide same.
    fits_any s.layout y x x s.monarch r answer l (subst (λ (m : Label). FitsWant (want_at s.layout x s.monarch m) answer) e (h x))
fits_add s answer tseg x2apic (Ends o) going e h = going

pub fits_eject : (s : Session) (answer : Answer) (tseg : ℕ) (d : EjectNext) → IsEjecting d → s.monarch.label ≡ ejecting_at d → Fits s answer → FitsEject tseg d answer
fits_eject s answer tseg (EjectsAt l j) going e h = λ y x r at same.
    fits_any s.layout y x x s.monarch r answer l (subst (λ (m : Label). FitsWant (want_at s.layout x s.monarch m) answer) e (h x))
fits_eject s answer tseg (EjectEnds o) going e h = going
