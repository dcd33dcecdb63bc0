-- While all others are called in, nobody outside SMM acts; what else each kind of step needs of the state before it.
use Rattle.std.proofs.Common.{ℕ, ◌≡◌, ◌≢◌, inl, inr, Bool, true, false, not, ◌&&◌, ◌||◌, List, slice_set, None, refl, sym, subst, ◌∙◌}
use Rattle.std.proofs.lemmas.Bool.{and_parts, and_from, cases_eq, eqb-true}
use Rattle.hp_model.specs.declared.platforms.Platform.{Platform}
use Rattle.hp_model.specs.declared.processors.Cpu.{Cpu}
use Rattle.hp_model.specs.declared.labels.Label.{Label}
use Rattle.hp_model.specs.declared.labels.Label.TheVariants.{S2}
use Rattle.hp_model.specs.Platform.{is_late}
use Rattle.hp_model.specs.Cpu.{cpu_at, is_running, is_outside, is_in_smm, is_unlatched, is_free, smm_address, may_take_init}
use Rattle.hp_model.specs.Labels.{same_label, mark_of}
use Rattle.hp_model.specs.State.{State, at}
use Rattle.hp_model.specs.Step.{is_after_broadcast}
use Rattle.hp_model.specs.Transitions.{Transition}
use Rattle.hp_sealed.specs.Left.{Sound}
use Rattle.hp_sealed.proofs.Stay.{at_set}
use Rattle.hp_exact.proofs.Stood.{IsStood}
use Rattle.hp_exact.proofs.Monarchs.{is_among}
use Rattle.hp_exact.proofs.Naming.{Ids}
use Rattle.hp_exact.proofs.Latching.{must_leave}
use Rattle.hp_exact.proofs.Waking.{waking, waking_called}
use Rattle.hp_exact.proofs.Invariant.{is_calling, must_latch, Reported, Invariant}
use Rattle.hp_exact.proofs.InSmm.{none_outside, outside_in, running_outside}
use Rattle.hp_model.proofs.Marks.{same_label as marked_label}

one_label : (l m : Label) → same_label l m ≡ true → l ≡ m
one_label l m e = marked_label l m (eqb-true (mark_of l) (mark_of m) e)

module _ (p : Platform) (sound : Sound p) (ids : Ids p) (past : List Transition) (s : State) (stood : IsStood p s) (h : Invariant p past s) where
  pub first_present : (at s 0).present ≡ true
  first_present = stood.first

  -- while others are called in, processor 0 is in SMM
  first_in : is_after_broadcast s.monarch.label ≡ true → smm_address (at s 0) ≡ None → ⊥
  first_in after is = let none = h.rests is in let both : true ≡ false = sym after ∙ none in cc

  calling_after : is_calling p s.monarch ≡ true → is_after_broadcast s.monarch.label ≡ true
  calling_after e = (and_parts (not (is_late p.delivery)) (is_after_broadcast s.monarch.label) e).1

  -- and nobody outside SMM acts
  nobody_acts : (k : ℕ) → is_calling p s.monarch ≡ true → (at s k).present ≡ true → is_outside (at s k).mode ≡ true → (at s k).smi ≡ true
  nobody_acts k calling present outside = elim (cases_eq k 0) [
    | inl e ↦ absurd (first_in (calling_after calling) (none_outside (at s 0) (subst (λ i. is_in_smm (at s i).mode ≡ false) e (outside_in (at s k).mode outside))))
    | inr n ↦ h.latched k (subst (λ b. must_latch b k (at s k) ≡ true) (sym calling) (must_leave k (at s k) n present outside))
  ]

  pub no_init : (k : ℕ) → is_calling p s.monarch ≡ true → may_take_init (at s k) ≡ true → ⊥
  no_init k calling may =
      let a = and_parts (at s k).present (not (at s k).smi && ((at s k).init && is_outside (at s k).mode)) may in
      let b = and_parts (not (at s k).smi) ((at s k).init && is_outside (at s k).mode) a.1 in
      let c = and_parts (at s k).init (is_outside (at s k).mode) b.1 in
      let smi = nobody_acts k calling a.0 c.1 in
      let none : not (at s k).smi ≡ false = rw smi refl in
      let both : true ≡ false = sym b.0 ∙ none in cc

  pub no_access : (k : ℕ) → is_calling p s.monarch ≡ true → is_free (is_late p.delivery) (at s k) ≡ true → ⊥
  no_access k calling free =
      let prompt = (and_parts (not (is_late p.delivery)) (is_after_broadcast s.monarch.label) calling).0 in
      let a = and_parts (at s k).present (is_running (at s k).mode && is_unlatched (is_late p.delivery) (at s k)) free in
      let b = and_parts (is_running (at s k).mode) (is_unlatched (is_late p.delivery) (at s k)) a.1 in
      let smi = nobody_acts k calling a.0 (running_outside (at s k).mode b.0) in
      latched_both (is_late p.delivery) (at s k).smi (at s k).init prompt smi b.1
    where
      latched_both : (late smi init : Bool) → not late ≡ true → smi ≡ true → ((late && smi) || (not smi && not init)) ≡ true → ⊥
      latched_both true smi init e f g = cc
      latched_both false true init e f g = cc
      latched_both false false init e f g = cc

  pub waking_calls : is_late p.delivery ≡ false → is_among s.monarch.label waking ≡ true → is_calling p s.monarch ≡ true
  waking_calls prompt e = and_from (not (is_late p.delivery)) (is_after_broadcast s.monarch.label) (rw prompt refl) (waking_called s.monarch.label e)

  -- the running add, while it is at N4 to N6 under prompt delivery
  pub running_add : is_late p.delivery ≡ false → is_among s.monarch.label waking ≡ true → Reported p s.cpus s.monarch
  running_add prompt e = (h.undisturbed (waking_called s.monarch.label e) (h.calm (waking_calls prompt e))).reported

  -- one processor changes, and stays there
  pub present_set : (k : ℕ) (d : Cpu) → d.present ≡ (at s k).present → (j : ℕ) → (at s j).present ≡ true → (cpu_at (slice_set s.cpus k d) j).present ≡ true
  present_set k d same j e = at_set (λ c d. d.present ≡ c.present) s.cpus k d (λ _. refl) same j ∙ e

  -- before a label that isn't S2, where the flag is clear after it
  pub was_quiet : (l : Label) → l ≢ S2 → (not (same_label l S2) && s.disturbed) ≡ false → s.disturbed ≡ false
  was_quiet l other e = by_label (same_label l S2) refl e
    where
      by_label : (b : Bool) → same_label l S2 ≡ b → (not b && s.disturbed) ≡ false → s.disturbed ≡ false
      by_label true is f = absurd (other (one_label l S2 is))
      by_label false is f = f

  pub not_broadcast : (l : Label) → is_after_broadcast l ≡ true → l ≢ S2
  not_broadcast l after is = let f : is_after_broadcast S2 ≡ true = subst (λ m. is_after_broadcast m ≡ true) is after in cc
