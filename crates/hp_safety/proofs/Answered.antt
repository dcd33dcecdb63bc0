-- A session that comes to E5 has told one outcome a report.
use Rattle.std.proofs.Common.{ℕ, ◌≡◌, ◌==◌, inl, inr, Bool, true, false, List, length, Some, refl, sym, subst, ◌∙◌, arith}
use Rattle.std.proofs.lemmas.Bool.{eqb-true}
use Rattle.std.proofs.lemmas.Bool.Decides.{nat_tests}
use Rattle.hp_model.specs.declared.platforms.Platform.{Platform}
use Rattle.hp_model.specs.declared.entries.Entry.{Entry}
use Rattle.hp_model.specs.declared.labels.Label.TheVariants.{E5, E7}
use Rattle.hp_model.specs.Platform.{IsFit, tile}
use Rattle.hp_model.specs.Labels.{index_of}
use Rattle.hp_model.specs.Monarch.{Monarch}
use Rattle.hp_model.specs.State.{State}
use Rattle.hp_model.specs.Runs.{run_on}
use Rattle.hp_model.specs.Transitions.{Transition, transitions, entries_of, at_each}
use Rattle.hp_model.specs.Account.{is_at}
use Rattle.hp_model.specs.Sessions.{session, triples, outcomes}
use Rattle.hp_model.specs.Exact.{answers_all}
use Rattle.hp_model.proofs.AtEach.{made as step_made, each_passes}
use Rattle.hp_sealed.specs.Left.{Sound}
use Rattle.hp_sealed.proofs.Starts.{sound}
use Rattle.hp_sealed.proofs.HandOver.{before_outside}
use Rattle.hp_sealed.proofs.Runs.{made}
use Rattle.hp_safety.proofs.Marked.{at_none, same_index, at_monarch}
use Rattle.hp_safety.proofs.Named.{outside_address}
use Rattle.hp_safety.proofs.MonarchSteps.{MonarchStep, monarch_steps}
use Rattle.hp_safety.proofs.Tallies.{tally_of, turn_of, TallyAt}
use Rattle.hp_safety.proofs.Held.{HeldTied, Knows, knows_first, knows_on}

is_answered : (p : Platform) (es : List Entry) → length (outcomes (session es)) ≡ length (triples p (session es)) → (length (triples p (session es)) == length (outcomes (session es))) ≡ true
is_answered p es same = rw same (itself (length (triples p (session es))))
  where
    itself : (n : ℕ) → (n == n) ≡ true
    itself n = grind (arith, nat_tests)

at_five : (p : Platform) (past : List Transition) (s : State) (e : Entry) (r : Monarch) → HeldTied p past s → MonarchStep p s e r → is_at p E5 e ≡ true → length (outcomes (session (entries_of past))) ≡ length (triples p (session (entries_of past)))
at_five p past s e r tied (inl o) is = absurd (let both = sym (o.elsewhere E5 refl) ∙ is in cc)
at_five p past s e r tied (inr (inl w)) is =
    let label = same_index w.label E5 w.side (eqb-true (index_of w.label) 35 (sym (at_monarch p w.label E5 e (tile p 0) refl w.place refl) ∙ is)) in
    (subst (λ l. TallyAt (tally_of p (entries_of past)) s.monarch (turn_of l)) (w.here ∙ label) tied.tally).0
at_five p past s e r tied (inr (inr (inl b))) is = absurd (let both = sym (b.elsewhere E5 refl) ∙ is in cc)
at_five p past s e r tied (inr (inr (inr o))) is = absurd (let both = sym (at_monarch p E7 E5 e (tile p 0) refl o.place refl) ∙ is in cc)

answers_each : (p : Platform) (past : List Transition) (s t : State) (e : Entry) → Sound p → Knows p past s → run_on p s e ≡ Some t → answers_all p past (step_made s e t) ≡ true
unfolding answers_all
answers_each p past s t e fit h on = by_place (is_at p E5 e) refl h
  where
    by_place : (c : Bool) → is_at p E5 e ≡ c → Knows p past s → answers_all p past (step_made s e t) ≡ true
    by_place false is k = rw is refl
    by_place true is (inl k) = absurd (let m = made p s e t on in let none = at_none p E5 e (sym m.place ∙ outside_address p s e.event (before_outside p s k.0)) in let both = sym none ∙ is in cc)
    by_place true is (inr k) =
        let m = made p s e t on in
        rw is (is_answered p (entries_of past) (at_five p past s e m.after.state.monarch k.2 (monarch_steps p s.writes s e m.after fit k.0 m.step m.place m.answer) is))

pub answered_law : (p : Platform) (es : List Entry) → IsFit p → at_each (answers_all p) (transitions p es) ≡ true
answered_law p es fits = each_passes p (Knows p) (knows_on p fits) (answers_all p) (λ past s t e h on. answers_each p past s t e (sound p fits) h on) (knows_first p fits) es
