-- The law from the rule.
use Rattle.std.proofs.Common.{◌≡◌, ℕ, suc, List, refl, sym, ap, ◌∙◌, subst, inl, inr, ⊎_elim, arith}
use mathlib.Core.Option.{Option, some}
use lib.ListN.{get_elem?}
use Rattle.atomic_table.specs.Table.{State}
use Rattle.atomic_table.proofs.Lists.{at_map}
use Rattle.hp_gate.specs.declared.views.CpuView.{CpuView}
use Rattle.hp_gate.specs.declared.views.View.{View}
use Rattle.hp_gate.specs.declared.views.View.TheVariants.{Cpu}
use Rattle.hp_gate.specs.Openings.{IsOpening, opened}
use Rattle.hp_gate.specs.Rule.{Words, words_of, views_of, Holds, Kept, IsUnfinished, IsOpened, IsSomeones, IsGreatest}
use Rattle.hp_gate.specs.Sound.{IsSound, IsOfSeat, IsLastOf}
use Rattle.hp_gate.proofs.Facts.{within, later_seat}
use Rattle.hp_gate.proofs.Changes.{base_listed, base_is, last_is, same_passer}
use Rattle.hp_gate.proofs.Knowing.{names_split}
use Rattle.hp_gate.proofs.Moves.{plain}

abbrev St : Type 0
St = State (Unit {0}) View

module _ (d : Words) (hs : List (Option (Unit {0}))) (r : Holds d) where
  of_seat : (numbers : CpuView → List ℕ) (n : ℕ) → IsSomeones numbers d.cpus n → IsOfSeat (record { words = words_of d; homes = hs; views = views_of d }) numbers n
  of_seat numbers n y = record { seat = suc y.place; cpu = y.cpu; sees = at_map Cpu d.cpus y.place y.cpu y.there; has = y.has }

  last_of : (numbers : CpuView → List ℕ) (n : ℕ) → IsGreatest numbers d.cpus n → IsLastOf (record { words = words_of d; homes = hs; views = views_of d }) numbers n
  last_of numbers n g = record { one = ⊎_elim inl (λ y. inr (of_seat numbers n y)) g.one; none_above = λ i k c p h. let y = later_seat d.monarch d.cpus i c p in g.none_above y.0 c y.2 k h }

  same : (i j : ℕ) (b c : CpuView) → get_elem? d.cpus i ≡ some b → get_elem? d.cpus j ≡ some c → b.own.apic ≡ c.own.apic → i ≡ j
  same i j b c p q e = r.distinct i j b.own c.own (r.seat i b p).listed (r.seat j c q).listed e

  sound_here : IsSound (record { words = words_of d; homes = hs; views = views_of d })
  sound_here = record {
    monarch = d.monarch;
    first = refl;
    openings = r.named;
    one_seat = λ i j b c p q e. let x = later_seat d.monarch d.cpus i b p in let y = later_seat d.monarch d.cpus j c q in x.1 ∙ ap suc (same x.0 y.0 b c x.2 y.2 e) ∙ sym y.1;
    counted = λ i k c x p e over is. let y = later_seat d.monarch d.cpus i c p in
        let at : y.0 ≡ k = r.distinct y.0 k c.own x (r.seat y.0 c y.2).listed e is in let low = within d.cpus y.0 c y.2 in let n = r.seats in omega arith;
    gate = ⊎_elim inl (λ y. inr (record {
      apic = y.apic;
      word = y.word;
      unclosed = y.stage;
      names = (r.last y.apic (subst (λ s. IsUnfinished s y.apic) (sym y.stage) refl)).opening;
      unpassed = λ i c p k h. let z = later_seat d.monarch d.cpus i c p in y.unpassed z.0 c z.2 k h;
    })) r.gate;
    passed = λ a u e. of_seat _ (opened d.monarch) (r.passed a u e);
    named = λ i c p e. let t = names_split c.own.apic d.gate e in let low = t.1 in
        ⊎_elim (λ shut. absurd (t.0 shut)) (λ (y : IsOpened d). let last = r.last y.apic (subst (λ s. IsUnfinished s y.apic) (sym y.stage) refl) in let small = last.small in let word = y.word in
        let own : y.apic ≡ c.own.apic = omega arith in subst (λ a. IsOpening d.monarch.named (opened d.monarch) a) own last.opening) r.gate;
    passed_once = λ i j n b c p q h k. let x = later_seat d.monarch d.cpus i b p in let y = later_seat d.monarch d.cpus j c q in
        x.1 ∙ ap suc (same_passer d x.0 y.0 n b c r x.2 y.2 h k) ∙ sym y.1;
    falls = λ i c p. let y = later_seat d.monarch d.cpus i c p in (r.seat y.0 c y.2).falls;
    by_its_seat = λ i n c p h. let y = later_seat d.monarch d.cpus i c p in (r.seat y.0 c y.2).passed n h;
    in_flight = λ i c p w. let y = later_seat d.monarch d.cpus i c p in (last_is d y.0 c r y.2 w, ((r.seat y.0 c y.2).busy w).unfinished);
    its_base = λ i c p w. let y = later_seat d.monarch d.cpus i c p in base_is d y.0 c r y.2 w;
    bases = λ i c p. let y = later_seat d.monarch d.cpus i c p in sym (base_listed d.monarch.list y.0 c.own r.distinct (r.seat y.0 c y.2).listed);
    base = r.base;
    flag = last_of _ d.flag r.flag;
    arrived = last_of _ d.arrived r.arrived;
  }

pub sound : (s : St) → Kept s → IsSound s
sound = plain IsSound sound_here
