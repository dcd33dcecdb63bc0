-- An event that is a step is made, and keeps what is kept.
use Rattle.std.proofs.Common.{◌≡◌, ℕ, true, Option, refl, sym, ap, subst, ◌∙◌}
use Rattle.hp_model.specs.declared.platforms.Platform.{Platform}
use Rattle.hp_model.specs.declared.entries.Event.{Event}
use Rattle.hp_model.specs.Following.{without_agent}
use Rattle.hp_platform.specs.Agents.{without_heard}
use Rattle.hp_platform.specs.Board.{is_step}
use Rattle.hp_platform.specs.Live.{IsApplied, IsRefused, Live}
use Rattle.hp_platform.proofs.Living.{applied, kept_made, kept_same, ready_of, refused, seen, state_in}
use Rattle.hp_platform.proofs.lives.Live.apply.Goals as goal

pub invariant_of-self : goal.invariant_of-self
invariant_of-self g c = kept_same c.self.inside.board c.reserve.new.self c.self.inside.steps.items c.self.invariant c.in_err-reserve.ensures.platform c.in_err-reserve.ensures.unchanged

pub invariant_of-self-in-None : goal.invariant_of-self-in-None
invariant_of-self-in-None g c = kept_same c.self.inside.board c.reserve.new.self c.self.inside.steps.items c.self.invariant c.in_ok-reserve.ensures.platform c.in_ok-reserve.ensures.unchanged

pub make-entry-requires-clause-ready : goal.make-entry-requires-clause-ready
make-entry-requires-clause-ready g c =
    let b = c.reserve.new.self in
    let kept = kept_same c.self.inside.board b c.self.inside.steps.items c.self.invariant c.in_ok-reserve.ensures.platform c.in_ok-reserve.ensures.unchanged in
    let s = state_in b c.self.inside.steps.items in
    ready_of b s _ kept (subst (λ (x : Event). is_step b.platform s x ≡ true) (sym c.in-Some.ensures.event) (sym (c.in-Some.ensures.is s kept.shows)))

pub invariant_of-self-in-Some : goal.invariant_of-self-in-Some
invariant_of-self-in-Some g c =
    let b = c.reserve.new.self in
    let kept = kept_same c.self.inside.board b c.self.inside.steps.items c.self.invariant c.in_ok-reserve.ensures.platform c.in_ok-reserve.ensures.unchanged in
    let s = state_in b c.self.inside.steps.items in
    kept_made b c.make-entry.new.board c.self.inside.steps.items c.make-entry.new.steps.items c.make-entry.result kept c.make-entry.ensures.made
    (subst (λ (x : Event). is_step b.platform s x ≡ true) (sym (c.make-entry.ensures.event ∙ c.in-Some.ensures.event)) (sym (c.in-Some.ensures.is s kept.shows)))

pub returns-in-None-clause-applied : goal.returns-in-None-clause-applied
returns-in-None-clause-applied g c =
    let b = c.reserve.new.self in
    let kept = kept_same c.self.inside.board b c.self.inside.steps.items c.self.invariant c.in_ok-reserve.ensures.platform c.in_ok-reserve.ensures.unchanged in
    let s = state_in b c.self.inside.steps.items in
    let new = seen b.platform c.self.inside.steps.items c.self.inside.agents.voices c.self.inside.agents.heard c.self.inside.last.items in
    subst (λ (l : Live). IsRefused l new c.args.e.now)
    (ap (λ (p : Platform). seen p c.self.inside.steps.items c.self.inside.agents.voices c.self.inside.agents.heard c.self.inside.last.items) c.in_ok-reserve.ensures.platform ∙ c.self.view_is)
    (refused new c.args.e.now (sym (c.in-None.ensures.is s kept.shows)))

pub returns-in-Some-clause-applied : goal.returns-in-Some-clause-applied
returns-in-Some-clause-applied g c =
    let b = c.reserve.new.self in
    let kept = kept_same c.self.inside.board b c.self.inside.steps.items c.self.invariant c.in_ok-reserve.ensures.platform c.in_ok-reserve.ensures.unchanged in
    let s = state_in b c.self.inside.steps.items in
    let event_is = c.make-entry.ensures.event ∙ c.in-Some.ensures.event in
    let new = seen c.make-entry.new.board.platform c.make-entry.new.steps.items c.drop_ejected.new.agents.voices c.drop_ejected.new.agents.heard c.self.inside.last.items in
    subst (λ (l : Live). IsApplied l new c.args.e.now c.make-entry.result.answer)
    (ap (λ (p : Platform). seen p c.self.inside.steps.items c.self.inside.agents.voices c.self.inside.agents.heard c.self.inside.last.items) c.in_ok-reserve.ensures.platform ∙ c.self.view_is)
    (applied b c.make-entry.new.board c.self.inside.steps.items c.make-entry.new.steps.items c.make-entry.result kept c.make-entry.ensures.made
    c.self.inside.agents.voices c.drop_ejected.new.agents.voices c.self.inside.agents.heard c.drop_ejected.new.agents.heard c.self.inside.last.items c.self.inside.last.items c.args.e.now
    event_is (subst (λ (x : Event). is_step b.platform s x ≡ true) (sym event_is) (sym (c.in-Some.ensures.is s kept.shows)))
    (c.drop_ejected.ensures.voices ∙ ap (λ (o : Option ℕ). without_agent o c.self.inside.agents.voices) c.ejected.ensures)
    (c.drop_ejected.ensures.heard ∙ ap (λ (o : Option ℕ). without_heard o c.self.inside.agents.heard) c.ejected.ensures) refl)
