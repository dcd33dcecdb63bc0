-- What the seats keep in code beside their views, and what the calls answer by it.
use Rattle.std.proofs.Common.{◌≡◌, ◌≢◌, ℕ, zero, suc, ◌/◌, ◌%◌, ◌^◌, ◌<◌, List, [], ◌∷◌, length, get_or, refl, sym, ap, ◌∙◌, subst, arith, cond, eq-eqb, true, true≢false}
use Rattle.std.proofs.lemmas.Bool.Decides.{nat_tests}
use Rattle.atomic_table.specs.Seated.{TableId}
use Rattle.hp_model.specs.SharedBytes.{closed}
use Rattle.hp_gate.specs.declared.answers.Pass.TheVariants as pass
use Rattle.hp_gate.specs.declared.views.Named.{Named}
use Rattle.hp_gate.specs.declared.views.Stage.{Stage}
use Rattle.hp_gate.specs.declared.views.Stage.TheVariants.{Idle, Stored, Open, Shut}
use Rattle.hp_gate.specs.declared.views.Work.{Work}
use Rattle.hp_gate.specs.declared.views.Work.TheVariants.{Free, Passed, Flagged}
use Rattle.hp_gate.specs.declared.views.View.{View}
use Rattle.hp_gate.specs.declared.views.View.TheVariants.{Cpu}
use Rattle.hp_gate.specs.Openings.{word_of, names, named_at, Above}
use Rattle.hp_gate.specs.Steps.{cpu_of, on_cpu, after_load, after_exchange, after_pass}
use Rattle.hp_gate.specs.Seats.{CpuSeen, cpu_at, is_idle, IsOpen, IsShut, aim, PassesAs}

pub named_at_index : (l : List Named) (k : ℕ) (d : Named) → k < length l → named_at l k ≡ get_or l k d
named_at_index [] k d h = absurd (omega arith)
named_at_index (x ∷ xs) zero d h = refl
named_at_index (x ∷ xs) (suc k) d h = named_at_index xs k d (omega arith)

pub idle_from : (s : Stage) → is_idle s ≡ true → s ≡ Idle
idle_from Idle e = refl
idle_from (Stored b) e = absurd (true≢false (sym e))
idle_from (Open a) e = absurd (true≢false (sym e))
idle_from (Shut a) e = absurd (true≢false (sym e))

pub open_aim : (s : Stage) → IsOpen s → s ≡ Open (aim s)
open_aim Idle h = absurd h
open_aim (Stored b) h = absurd h
open_aim (Open a) h = refl
open_aim (Shut a) h = absurd h

pub shut_aim : (s : Stage) → IsShut s → s ≡ Shut (aim s)
shut_aim Idle h = absurd h
shut_aim (Stored b) h = absurd h
shut_aim (Open a) h = absurd h
shut_aim (Shut a) h = refl

abbrev pub IsBusyWork : Work → Type 0
IsBusyWork Free = ⊥
IsBusyWork Passed = Unit {0}
IsBusyWork Flagged = Unit {0}

pub not_free : (w v : Work) → w ≡ v → IsBusyWork v → w ≢ Free
not_free w v e b f = subst IsBusyWork (sym e ∙ f) b

pub names_split : (apic w : ℕ) → names apic w ≡ true → (w ≢ closed) × (w % 2 ^ 32 ≡ apic)
names_split apic w e = ((λ is. grind (arith, nat_tests)), grind (arith, nat_tests))

-- an exchange that found what was loaded
pub passes_through : (old : CpuSeen) (g g' : TableId) (v0 v1 v2 : View) (apic w r : ℕ) → cpu_at g (cpu_of v0) ≡ old → v0 ≡ Cpu (cpu_of v0) → (cpu_of v0).own.apic ≡ apic → names apic w ≡ true
    → v1 ≡ on_cpu (after_load w) v0 → r ≡ w → g' ≡ g → v2 ≡ on_cpu (after_exchange w r) v1 → (r ≡ w → Above (w / 2 ^ 32) (0 ∷ (cpu_of v1).passes))
    → PassesAs old (cpu_at g' (cpu_of v2)) (pass.Through (w / 2 ^ 32))
passes_through old g g' v0 v1 v2 apic w r seen is own named first found same then tells =
    let c = cpu_of v0 in
    let n = w / 2 ^ 32 in
    let t = names_split apic w named in
    let t1 : w % 2 ^ 32 ≡ apic = t.1 in
    let word : w ≡ word_of n c.own.apic = (let own' = own in omega arith) in
    let once : v1 ≡ Cpu (after_load w c) = first ∙ ap (on_cpu (after_load w)) is in
    let above : Above n (0 ∷ c.passes) = subst (λ (v : View). Above n (0 ∷ (cpu_of v).passes)) once (tells found) in
    let twice : v2 ≡ Cpu (after_pass n (after_load w (after_load w c))) =
    then ∙ ap (on_cpu (after_exchange w r)) once ∙ ap (λ b. Cpu (cond b (after_pass n (after_load r (after_load w c))) (after_load r (after_load w c)))) (eq-eqb r w found) ∙ ap (λ k. Cpu (after_pass n (after_load k (after_load w c)))) found in
    subst (λ (o : CpuSeen). PassesAs o (cpu_at g' (cpu_of v2)) (pass.Through n)) seen (
      subst (λ k. names k (word_of n k) ≡ true) (sym own) (subst (λ k. names apic k ≡ true) (word ∙ ap (word_of n) own) named),
      above,
      (λ i. cpu_at (same i) (cpu_of (twice i))) ∙ ap (λ k. cpu_at g (after_pass n (after_load k (after_load k c)))) word,
    )
