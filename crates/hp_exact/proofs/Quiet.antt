-- Sessions are quiet: the test of each transition of a run under prompt delivery.
use Rattle.std.proofs.Common.{ℕ, ◌≡◌, inl, inr, Bool, true, false, not, ◌&&◌, List, Option, Some, refl, sym, ap, subst, ◌∙◌}
use Rattle.std.proofs.lemmas.Bool.{and_from, and_parts}
use Rattle.hp_model.specs.declared.platforms.Platform.{Platform}
use Rattle.hp_model.specs.declared.entries.Entry.{Entry}
use Rattle.hp_model.specs.Platform.{IsFit, tile, is_late}
use Rattle.hp_model.specs.Boot.{is_handed}
use Rattle.hp_model.specs.Handlers.{address_of_label}
use Rattle.hp_model.specs.State.{State, at}
use Rattle.hp_model.specs.Step.{is_after_broadcast}
use Rattle.hp_model.specs.Events.{acts}
use Rattle.hp_model.specs.Runs.{run_on}
use Rattle.hp_model.specs.Transitions.{Transition, transitions, entries_of, at_each}
use Rattle.hp_model.specs.Sessions.{is_called_in, is_outside}
use Rattle.hp_model.specs.Exact.{is_quiet}
use Rattle.hp_model.proofs.AtEach.{made, each_passes}
use Rattle.hp_sealed.specs.Left.{Sound}
use Rattle.hp_sealed.proofs.Starts.{sound}
use Rattle.hp_safety.proofs.Runs.{IsHanded, IsGood}
use Rattle.hp_exact.proofs.Account.{Account}
use Rattle.hp_exact.proofs.Stood.{IsStood, stood}
use Rattle.hp_exact.proofs.Stepping.{Kinds, by_kind}
use Rattle.hp_exact.proofs.Naming.{Ids, ids_of}
use Rattle.hp_exact.proofs.CalledIn.{no_access, no_init}
use Rattle.hp_exact.proofs.Invariant.{is_calling, Invariant}
use Rattle.hp_exact.proofs.Wholes.{Whole, whole_begins, whole_goes}

-- the test, where others aren't called in wherever it asks
quiet_by : (p : Platform) (past : List Transition) (x : Transition) → (is_late p.delivery ≡ false → acts x.entry.event ≡ true → is_outside x.entry.at ≡ true → is_called_in p (entries_of past) ≡ false) → is_quiet p past x ≡ true
unfolding is_quiet
quiet_by p past x h = by_test (not (is_late p.delivery) && (acts x.entry.event && is_outside x.entry.at)) refl
  where
    prompt : (b : Bool) → not b ≡ true → b ≡ false
    prompt true e = absurd cc
    prompt false e = refl

    by_test : (b : Bool) → (not (is_late p.delivery) && (acts x.entry.event && is_outside x.entry.at)) ≡ b → (elim b as (λ _. Bool) [ true ↦ not (is_called_in p (entries_of past)) | false ↦ true ]) ≡ true
    by_test true e =
        let a = and_parts (not (is_late p.delivery)) (acts x.entry.event && is_outside x.entry.at) e in
        let b = and_parts (acts x.entry.event) (is_outside x.entry.at) a.1 in
        let none = h (prompt (is_late p.delivery) a.0) b.0 b.1 in
        rw none refl
    by_test false e = refl

module _ (p : Platform) (fit : Sound p) (ids : Ids p) (past : List Transition) (s : State) (standing : IsStood p s) (h : Invariant p past s) where
  abbrev Test : Entry → State → Type 0
  Test e t = is_quiet p past (made s e t) ≡ true

  -- nobody acts outside SMM while others are called in, so they aren't called in where somebody does
  uncalled : is_late p.delivery ≡ false → (is_calling p s.monarch ≡ true → ⊥) → is_called_in p (entries_of past) ≡ false
  uncalled prompt never = by_label (is_after_broadcast s.monarch.label) refl
    where
      by_label : (b : Bool) → is_after_broadcast s.monarch.label ≡ b → is_called_in p (entries_of past) ≡ false
      by_label true is = absurd (never (and_from (not (is_late p.delivery)) (is_after_broadcast s.monarch.label) (rw prompt refl) is))
      by_label false is = h.tied.left is

  in_smm : {o : Option ℕ} (a : ℕ) → o ≡ Some a → is_outside o ≡ true → ⊥
  in_smm {o = o} a is e = let f : is_outside (Some a) ≡ true = subst (λ x. is_outside x ≡ true) is e in cc

  kinds : Kinds p s Test
  kinds = record {
    inserts = λ k g less gone. quiet_by p past (made s _ _) (λ prompt acting out. absurd cc);
    removes = λ k g. quiet_by p past (made s _ _) (λ prompt acting out. absurd cc);
    outside = λ k a g free out. quiet_by p past (made s _ _) (λ prompt acting outside. uncalled prompt (λ calling. no_access p fit ids past s standing h k calling free));
    monarchs = λ l a g here wants. quiet_by p past (made s _ _) (λ prompt acting outside. absurd (in_smm (address_of_label (tile p 0) l) here.place outside));
    others = λ k l a g here wants. quiet_by p past (made s _ _) (λ prompt acting outside. absurd (in_smm (address_of_label (at s k).smbase l) here.place outside));
    enters = λ k g may. quiet_by p past (made s _ _) (λ prompt acting out. absurd cc);
    inits = λ k g may. quiet_by p past (made s _ _) (λ prompt acting outside. uncalled prompt (λ calling. no_init p fit ids past s standing h k calling may));
    rests = λ g here. quiet_by p past (made s _ _) (λ prompt acting out. absurd cc);
    returns = λ k l g here where_is. quiet_by p past (made s _ _) (λ prompt acting out. absurd cc);
    tells = λ o g here same. quiet_by p past (made s _ _) (λ prompt acting out. absurd cc);
  }

  pub quiet_after : (e : Entry) (t : State) → run_on p s e ≡ Some t → is_quiet p past (made s e t) ≡ true
  quiet_after e t is = by_kind p s Test standing kinds e t is

-- a state after the hand-over
pub handed_of : (p : Platform) (s : State) → IsGood p s → is_handed s.stage ≡ true → IsHanded p s
handed_of p s (inl k) handed = absurd (let stage = k.stage in let early : is_handed s.stage ≡ false = rw stage refl in let both : true ≡ false = sym handed ∙ early in cc)
handed_of p s (inr (inl k)) handed = absurd (let stage = k.stage in let early : is_handed s.stage ≡ false = rw stage refl in let both : true ≡ false = sym handed ∙ early in cc)
handed_of p s (inr (inr k)) handed = k

quiet_passes : (p : Platform) → Sound p → Ids p → (past : List Transition) (s t : State) (e : Entry) → Whole p past s → run_on p s e ≡ Some t → is_quiet p past (made s e t) ≡ true
quiet_passes p fit ids past s t e h is = by_stage (is_handed s.stage) refl
  where
    by_stage : (b : Bool) → is_handed s.stage ≡ b → is_quiet p past (made s e t) ≡ true
    by_stage true handed = quiet_after p fit ids past s (stood p s fit (handed_of p s h.good handed)) (h.handed handed) e t is
    by_stage false before = quiet_by p past (made s e t) (λ prompt acting outside. ap (λ (a : Account). a.sent && not a.closed) (h.before before).told)

pub law : (p : Platform) (es : List Entry) → IsFit p → at_each (is_quiet p) (transitions p es) ≡ true
law p es fits = each_passes p (Whole p) (λ past s t e h is. whole_goes p (sound p fits) (ids_of p fits) past s t e h is) (is_quiet p) (λ past s t e h is. quiet_passes p (sound p fits) (ids_of p fits) past s t e h is) (whole_begins p fits) es
