-- Numbers of processors, and the greatest of them, where one processor's view changes or one more comes.
use Rattle.std.proofs.Common.{◌≡◌, ◌≢◌, ℕ, ◌≤◌, true, List, [], ◌∷◌, ◌++◌, length, set, sym, ap, ◌∙◌, subst, inl, inr, ⊎_elim}
use mathlib.Core.Logic.{dite}
use mathlib.Core.Option.{some, some-injective}
use native.Mathlib.Decide.{ℕ_discrete}
use lib.ListN.{get_elem?}
use Rattle.atomic_table.proofs.Lists.{at_set, at_longer, set_here, set_else}
use Rattle.hp_model.specs.Block.{is_in}
use Rattle.hp_gate.specs.declared.views.CpuView.{CpuView}
use Rattle.hp_gate.specs.Openings.{behind}
use Rattle.hp_gate.specs.Rule.{IsSomeones, IsGreatest}
use Rattle.hp_gate.proofs.Facts.{within, at_snoc_place, in_tail}

module _ (numbers : CpuView → List ℕ) where
  -- the view of one processor changes, and no number goes
  pub someones_set : (cs : List CpuView) (j n : ℕ) (c d : CpuView) → get_elem? cs j ≡ some c → (is_in n (numbers c) ≡ true → is_in n (numbers d) ≡ true) → IsSomeones numbers cs n → IsSomeones numbers (set cs j d) n
  someones_set cs j n c d at more y = dite (ℕ_discrete y.place j)
      (λ e. record { place = j; cpu = d; there = set_here cs j d (within cs j c at); has = more (subst (λ (v : CpuView). is_in n (numbers v) ≡ true) (some-injective y.cpu c (sym y.there ∙ ap (λ k. get_elem? cs k) e ∙ at)) y.has) })
      (λ ne. record { place = y.place; cpu = y.cpu; there = set_else cs j y.place d ne ∙ y.there; has = y.has })

  -- nor does one come
  pub greatest_set : (cs : List CpuView) (j n : ℕ) (c d : CpuView) → get_elem? cs j ≡ some c → ((k : ℕ) → is_in k (numbers c) ≡ true → is_in k (numbers d) ≡ true) → ((k : ℕ) → is_in k (numbers d) ≡ true → is_in k (numbers c) ≡ true)
      → IsGreatest numbers cs n → IsGreatest numbers (set cs j d) n
  greatest_set cs j n c d at more fewer g = record {
    one = ⊎_elim inl (λ y. inr (someones_set cs j n c d at (more n) y)) g.one;
    none_above = λ i o e k h. ⊎_elim (λ (t : (i ≡ j) × (d ≡ o)). g.none_above j c at k (fewer k (subst (λ (v : CpuView). is_in k (numbers v) ≡ true) (sym t.1) h))) (λ (t : (i ≢ j) × (get_elem? cs i ≡ some o)). g.none_above i o t.1 k h) (at_set cs j i d o e);
  }

  -- or a number comes that none is above
  pub greatest_new : (cs : List CpuView) (j n : ℕ) (c d : CpuView) → get_elem? cs j ≡ some c → is_in n (numbers d) ≡ true → ((k : ℕ) → is_in k (numbers d) ≡ true → k ≤ n)
      → ((i : ℕ) (o : CpuView) → get_elem? cs i ≡ some o → (k : ℕ) → is_in k (numbers o) ≡ true → k ≤ n) → IsGreatest numbers (set cs j d) n
  greatest_new cs j n c d at has mine others = record {
    one = inr (record { place = j; cpu = d; there = set_here cs j d (within cs j c at); has = has });
    none_above = λ i o e k h. ⊎_elim (λ (t : (i ≡ j) × (d ≡ o)). mine k (subst (λ (v : CpuView). is_in k (numbers v) ≡ true) (sym t.1) h)) (λ (t : (i ≢ j) × (get_elem? cs i ≡ some o)). others i o t.1 k h) (at_set cs j i d o e);
  }

  -- a processor more
  pub someones_more : (cs : List CpuView) (d : CpuView) (n : ℕ) → IsSomeones numbers cs n → IsSomeones numbers (cs ++ d ∷ []) n
  someones_more cs d n y = record { place = y.place; cpu = y.cpu; there = at_longer cs (d ∷ []) y.place y.cpu y.there; has = y.has }

  pub greatest_more : (cs : List CpuView) (d : CpuView) (n : ℕ) → ((k : ℕ) → is_in k (numbers d) ≡ true → k ≤ n) → IsGreatest numbers cs n → IsGreatest numbers (cs ++ d ∷ []) n
  greatest_more cs d n mine g = record {
    one = ⊎_elim inl (λ y. inr (someones_more cs d n y)) g.one;
    none_above = λ i o e k h. ⊎_elim (λ (e : get_elem? cs i ≡ some o). g.none_above i o e k h) (λ (t : (i ≡ length cs) × (d ≡ o)). mine k (subst (λ (v : CpuView). is_in k (numbers v) ≡ true) (sym t.1) h)) (at_snoc_place cs d o i e);
  }

-- a number behind the first is in the list
pub in_behind : (n : ℕ) (ns : List ℕ) → is_in n (behind ns) ≡ true → is_in n ns ≡ true
in_behind n [] h = h
in_behind n (x ∷ ns) h = in_tail n x ns h
