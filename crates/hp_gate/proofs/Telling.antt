-- The words are told by the views of all seats.
use Rattle.std.proofs.Common.{◌≡◌, ◌≢◌, ℕ, ◌≤◌, List, [], ◌∷◌, map, sym, refl, ap, ◌∙◌, subst, ⊎_elim, arith, get_or}
use mathlib.Core.Option.{some, some-injective}
use lib.ListN.{get_elem?}
use Rattle.atomic_table.specs.Table.{State}
use Rattle.hp_model.specs.SharedBytes.{closed}
use Rattle.hp_gate.specs.declared.views.Named.{Named}
use Rattle.hp_gate.specs.declared.views.MonarchView.{MonarchView}
use Rattle.hp_gate.specs.declared.views.CpuView.{CpuView}
use Rattle.hp_gate.specs.declared.views.Stage.{Stage}
use Rattle.hp_gate.specs.declared.views.Stage.TheVariants.{Idle, Stored, Open, Shut}
use Rattle.hp_gate.specs.declared.views.View.{View}
use Rattle.hp_gate.specs.declared.views.View.TheVariants.{Monarch, Cpu}
use Rattle.hp_gate.specs.Openings.{opened, word_of}
use Rattle.hp_gate.specs.Rule.{Words, views_of, IsUnfinished, HoldsBase, IsGreatest, IsSomeones, IsOpened, Holds, Kept}
use Rattle.hp_gate.specs.Sound.{SameWords}
use Rattle.hp_gate.specs.Steps.{monarch_of, monarch_start, cpu_of}
use Rattle.hp_gate.proofs.Changes.{aim_open}

abbrev St : Type 0
St = State (Unit {0}) View

-- two numbers, each the greatest of all processors'
greatest_same : (numbers : CpuView → List ℕ) (cs : List CpuView) (a b : ℕ) → IsGreatest numbers cs a → IsGreatest numbers cs b → a ≡ b
greatest_same numbers cs a b g h = let low = below a b g h in let high = below b a h g in omega arith
  where
    below : (a b : ℕ) → IsGreatest numbers cs a → IsGreatest numbers cs b → a ≤ b
    below a b g h = ⊎_elim (λ z. omega arith) (λ y. h.none_above y.place y.cpu y.there a y.has) g.one

base_same : (list : List Named) (a b : ℕ) (s : Stage) → s ≢ Idle → HoldsBase list a s → HoldsBase list b s → a ≡ b
base_same list a b Idle is x y = absurd (is refl)
base_same list a b (Stored base) is x y = x.0 ∙ sym y.0
base_same list a b (Open apic) is x y = x ∙ sym y
base_same list a b (Shut apic) is x y = x ∙ sym y

-- an opening that nobody has passed is in the gate
not_both : (d : Words) (g b f x : ℕ) → Holds d → d.gate ≡ closed → IsOpened (record d { gate = g; base = b; flag = f; arrived = x }) → ⊥
not_both d g b f x r is y =
    let one : IsSomeones _ d.cpus (opened d.monarch) = r.passed y.apic (subst (λ s. IsUnfinished s y.apic) (sym y.stage) refl) is in
    let low = y.unpassed one.place one.cpu one.there (opened d.monarch) one.has in
    omega arith

gate_same : (d : Words) (g b f x : ℕ) → Holds d → Holds (record d { gate = g; base = b; flag = f; arrived = x }) → d.gate ≡ g
gate_same d g b f x r q = ⊎_elim (λ is. ⊎_elim (λ too. is ∙ sym too) (λ y. absurd (not_both d g b f x r is y)) q.gate)
    (λ (y : IsOpened d). ⊎_elim (λ too. absurd (not_both (record d { gate = g; base = b; flag = f; arrived = x }) d.gate d.base d.flag d.arrived q too y))
    (λ z. y.word ∙ ap (word_of (opened d.monarch)) (ap aim_open (sym y.stage ∙ z.stage)) ∙ sym z.word) q.gate) r.gate

abbrev first_view : List View → MonarchView
first_view [] = monarch_start []
first_view (v ∷ vs) = monarch_of v

abbrev later_views : List View → List CpuView
later_views [] = []
later_views (v ∷ vs) = map cpu_of vs

cpus_back : (cs : List CpuView) → map cpu_of (map Cpu cs) ≡ cs
cpus_back [] = refl
cpus_back (c ∷ cs) = ap (λ z. c ∷ z) (cpus_back cs)

pub tells : (s t : St) → Kept s → Kept t → s.views ≡ t.views → SameWords s t
tells s t k l same =
    let views : views_of l.parts ≡ views_of k.parts = sym l.views ∙ sym same ∙ k.views in
    let monarch : l.parts.monarch ≡ k.parts.monarch = ap first_view views in
    let cpus : l.parts.cpus ≡ k.parts.cpus = sym (cpus_back l.parts.cpus) ∙ ap later_views views ∙ cpus_back k.parts.cpus in
    let q : Holds (record k.parts { gate = l.parts.gate; base = l.parts.base; flag = l.parts.flag; arrived = l.parts.arrived }) =
    subst (λ (z : MonarchView × List CpuView). Holds (record { gate = l.parts.gate; base = l.parts.base; flag = l.parts.flag; arrived = l.parts.arrived; monarch = z.0; cpus = z.1 })) (λ i. (monarch i, cpus i)) l.holds in
    record {
      gate = ap (λ ws. get_or ws 0 0) k.words ∙ gate_same k.parts l.parts.gate l.parts.base l.parts.flag l.parts.arrived k.holds q ∙ sym (ap (λ ws. get_or ws 0 0) l.words);
      flag = ap (λ ws. get_or ws 2 0) k.words ∙ greatest_same _ k.parts.cpus k.parts.flag l.parts.flag k.holds.flag q.flag ∙ sym (ap (λ ws. get_or ws 2 0) l.words);
      arrived = ap (λ ws. get_or ws 3 0) k.words ∙ greatest_same _ k.parts.cpus k.parts.arrived l.parts.arrived k.holds.arrived q.arrived ∙ sym (ap (λ ws. get_or ws 3 0) l.words);
      base = λ m there not_idle.
          let first : get_elem? (views_of k.parts) 0 ≡ some (Monarch m) = subst (λ vs. get_elem? vs 0 ≡ some (Monarch m)) k.views there in
          let is : k.parts.monarch ≡ m = ap monarch_of (some-injective (Monarch k.parts.monarch) (Monarch m) first) in
          ap (λ ws. get_or ws 1 0) k.words ∙ base_same k.parts.monarch.list k.parts.base l.parts.base k.parts.monarch.stage (λ e. not_idle (ap (λ (v : MonarchView). v.stage) (sym is) ∙ e)) k.holds.base q.base ∙ sym (ap (λ ws. get_or ws 1 0) l.words);
    }
