-- A turn keeps what is kept, and makes what is due.
use Rattle.std.proofs.Common.{◌≡◌, ℕ, true, List, Option, refl, sym, ap, subst, ◌∙◌}
use Rattle.std.specs.Prelude.{slice_index_or}
use Rattle.hp_model.specs.declared.platforms.Platform.{Platform}
use Rattle.hp_model.specs.declared.accesses.Access.{Access}
use Rattle.hp_model.specs.declared.accesses.Answer.{Answer}
use Rattle.hp_model.specs.declared.accesses.Answer.TheVariants.{Quiet}
use Rattle.hp_model.specs.declared.entries.Event.{Event}
use Rattle.hp_model.specs.declared.entries.Event.TheVariants as event
use Rattle.hp_model.specs.declared.turns.Due.TheVariants as due
use Rattle.hp_model.specs.Access.{normal}
use Rattle.hp_model.specs.Following.{voice_told, without_agent}
use Rattle.hp_agent.specs.Kinds.{hears_at}
use Rattle.hp_agent.specs.Speaking.{Speaks, asked}
use Rattle.hp_platform.specs.Agents.{without_heard}
use Rattle.hp_platform.specs.Board.{IsReady, event_of, is_step}
use Rattle.hp_platform.specs.Live.{IsIdle, IsMade, Live}
use Rattle.hp_platform.proofs.Stepping.{asks_is, makes_is}
use Rattle.hp_platform.proofs.Living.{asks_found, asks_turn, idle_turn, kept_made, kept_same, makes_turn, ready_of, seen, state_in}
use Rattle.hp_platform.proofs.lives.Live.take_step.Goals as goal

pub invariant_of-self : goal.invariant_of-self
invariant_of-self g c = kept_same c.self.inside.board c.reserve.new.self c.self.inside.steps.items c.self.invariant c.in_err-reserve.ensures.platform c.in_err-reserve.ensures.unchanged

pub invariant_of-self-in-Idle : goal.invariant_of-self-in-Idle
invariant_of-self-in-Idle g c = kept_same c.self.inside.board c.reserve.new.self c.self.inside.steps.items c.self.invariant c.in_ok-reserve.ensures.platform c.in_ok-reserve.ensures.unchanged

pub make-entry-requires-clause-ready : goal.make-entry-requires-clause-ready
make-entry-requires-clause-ready g c =
    let b = c.reserve.new.self in
    let kept = kept_same c.self.inside.board b c.self.inside.steps.items c.self.invariant c.in_ok-reserve.ensures.platform c.in_ok-reserve.ensures.unchanged in
    let s = state_in b c.self.inside.steps.items in
    ready_of b s (event_of c.in-Makes.found) kept (makes_is b.platform s c.args.a (event_of c.in-Makes.found) (sym (c.in-Makes.ensures.due s kept.shows))).step

pub make-entry-requires-in-Asks-clause-ready : goal.make-entry-requires-in-Asks-clause-ready
make-entry-requires-in-Asks-clause-ready g c =
    let b = c.reserve.new.self in
    let kept = kept_same c.self.inside.board b c.self.inside.steps.items c.self.invariant c.in_ok-reserve.ensures.platform c.in_ok-reserve.ensures.unchanged in
    let s = state_in b c.self.inside.steps.items in
    subst (λ (x : Access). IsReady b (event.Do c.in-Asks.cpu x)) (sym c.normal.ensures)
    (ready_of b s (event.Do c.in-Asks.cpu (normal c.next-access.result)) kept ((asks_is b.platform s c.args.a c.in-Asks.cpu (sym (c.in-Asks.ensures.due s kept.shows))).step c.next-access.result))

pub make-entry-requires-in-Asks-clause-found : goal.make-entry-requires-in-Asks-clause-found
make-entry-requires-in-Asks-clause-found g c =
    let b = c.reserve.new.self in
    let kept = kept_same c.self.inside.board b c.self.inside.steps.items c.self.invariant c.in_ok-reserve.ensures.platform c.in_ok-reserve.ensures.unchanged in
    asks_found b (state_in b c.self.inside.steps.items) c.args.a c.in-Asks.cpu c.normal.result kept (λ s shows. asks_is b.platform s c.args.a c.in-Asks.cpu (sym (c.in-Asks.ensures.due s shows)))

pub invariant_of-self-in-Makes : goal.invariant_of-self-in-Makes
invariant_of-self-in-Makes g c =
    let b = c.reserve.new.self in
    let kept = kept_same c.self.inside.board b c.self.inside.steps.items c.self.invariant c.in_ok-reserve.ensures.platform c.in_ok-reserve.ensures.unchanged in
    let s = state_in b c.self.inside.steps.items in
    let is : is_step b.platform s (event_of c.in-Makes.found) ≡ true = (makes_is b.platform s c.args.a (event_of c.in-Makes.found) (sym (c.in-Makes.ensures.due s kept.shows))).step in
    kept_made b c.make-entry.new.board c.self.inside.steps.items c.make-entry.new.steps.items c.make-entry.result kept c.make-entry.ensures.made
    (subst (λ (x : Event). is_step b.platform s x ≡ true) (sym c.make-entry.ensures.event) is)

pub invariant_of-self-in-Asks : goal.invariant_of-self-in-Asks
invariant_of-self-in-Asks g c =
    let b = c.reserve.new.self in
    let kept = kept_same c.self.inside.board b c.self.inside.steps.items c.self.invariant c.in_ok-reserve.ensures.platform c.in_ok-reserve.ensures.unchanged in
    let s = state_in b c.self.inside.steps.items in
    let event_is : c.make-entry-in-Asks.result.event ≡ event.Do c.in-Asks.cpu (normal c.next-access.result) = c.make-entry-in-Asks.ensures.event ∙ ap (λ (x : Access). event.Do c.in-Asks.cpu x) c.normal.ensures in
    kept_made b c.make-entry-in-Asks.new.board c.self.inside.steps.items c.make-entry-in-Asks.new.steps.items c.make-entry-in-Asks.result kept c.make-entry-in-Asks.ensures.made
    (subst (λ (x : Event). is_step b.platform s x ≡ true) (sym event_is) ((asks_is b.platform s c.args.a c.in-Asks.cpu (sym (c.in-Asks.ensures.due s kept.shows))).step c.next-access.result))

pub returns-in-Idle-clause-turned : goal.returns-in-Idle-clause-turned
returns-in-Idle-clause-turned g c =
    let b = c.reserve.new.self in
    let kept = kept_same c.self.inside.board b c.self.inside.steps.items c.self.invariant c.in_ok-reserve.ensures.platform c.in_ok-reserve.ensures.unchanged in
    let s = state_in b c.self.inside.steps.items in
    let new = seen b.platform c.self.inside.steps.items c.self.inside.agents.voices c.self.inside.agents.heard c.self.inside.last.items in
    subst (λ (l : Live). IsIdle l new c.args.a)
    (ap (λ (p : Platform). seen p c.self.inside.steps.items c.self.inside.agents.voices c.self.inside.agents.heard c.self.inside.last.items) c.in_ok-reserve.ensures.platform ∙ c.self.view_is)
    (idle_turn new c.args.a (sym (c.in-Idle.ensures.due s kept.shows)))

pub returns-in-Makes-clause-turned : goal.returns-in-Makes-clause-turned
returns-in-Makes-clause-turned g c =
    let b = c.reserve.new.self in
    let kept = kept_same c.self.inside.board b c.self.inside.steps.items c.self.invariant c.in_ok-reserve.ensures.platform c.in_ok-reserve.ensures.unchanged in
    let s = state_in b c.self.inside.steps.items in
    let new = seen c.make-entry.new.board.platform c.make-entry.new.steps.items c.drop_ejected.new.agents.voices c.drop_ejected.new.agents.heard c.self.inside.last.items in
    subst (λ (l : Live). IsMade l new c.args.a c.make-entry.result)
    (ap (λ (p : Platform). seen p c.self.inside.steps.items c.self.inside.agents.voices c.self.inside.agents.heard c.self.inside.last.items) c.in_ok-reserve.ensures.platform ∙ c.self.view_is)
    (makes_turn b c.make-entry.new.board c.self.inside.steps.items c.make-entry.new.steps.items c.make-entry.result kept c.make-entry.ensures.made
    c.self.inside.agents.voices c.drop_ejected.new.agents.voices c.self.inside.agents.heard c.drop_ejected.new.agents.heard c.self.inside.last.items c.self.inside.last.items c.args.a
    (sym (c.in-Makes.ensures.due s kept.shows) ∙ ap (λ (x : Event). due.Makes x) (sym c.make-entry.ensures.event))
    (c.drop_ejected.ensures.voices ∙ ap (λ (o : Option ℕ). without_agent o c.self.inside.agents.voices) c.ejected.ensures)
    (c.drop_ejected.ensures.heard ∙ ap (λ (o : Option ℕ). without_heard o c.self.inside.agents.heard) c.ejected.ensures) refl)

pub returns-in-Asks-clause-turned : goal.returns-in-Asks-clause-turned
returns-in-Asks-clause-turned g c =
    let b = c.reserve.new.self in
    let kept = kept_same c.self.inside.board b c.self.inside.steps.items c.self.invariant c.in_ok-reserve.ensures.platform c.in_ok-reserve.ensures.unchanged in
    let s = state_in b c.self.inside.steps.items in
    let new = seen c.make-entry-in-Asks.new.board.platform c.make-entry-in-Asks.new.steps.items c.drop_ejected-in-Asks.new.agents.voices c.drop_ejected-in-Asks.new.agents.heard c.note_answer.new.last.items in
    subst (λ (l : Live). IsMade l new c.args.a c.make-entry-in-Asks.result)
    (ap (λ (p : Platform). seen p c.self.inside.steps.items c.self.inside.agents.voices c.self.inside.agents.heard c.self.inside.last.items) c.in_ok-reserve.ensures.platform ∙ c.self.view_is)
    (asks_turn b c.make-entry-in-Asks.new.board c.self.inside.steps.items c.make-entry-in-Asks.new.steps.items c.make-entry-in-Asks.result kept c.make-entry-in-Asks.ensures.made
    c.self.inside.agents.voices c.drop_ejected-in-Asks.new.agents.voices c.self.inside.agents.heard c.drop_ejected-in-Asks.new.agents.heard c.self.inside.last.items c.note_answer.new.last.items
    c.args.a c.in-Asks.cpu c.page-page.result c.next-access.result (voice_told c.next-access.new.self.voices c.in-Asks.cpu) (sym (c.in-Asks.ensures.due s kept.shows)) (c.page-page.ensures s kept.shows)
    (subst (λ (v : Answer). Speaks (voice_told c.self.inside.agents.voices c.in-Asks.cpu) (voice_told c.next-access.new.self.voices c.in-Asks.cpu) (asked c.in-Asks.cpu c.page-page.result v) c.next-access.result) (c.answer_at.ensures ∙ ap (λ (vs : List Answer). slice_index_or vs c.in-Asks.cpu Quiet) c.as_slice.ensures.value) c.next-access.ensures.says)
    (c.make-entry-in-Asks.ensures.event ∙ ap (λ (x : Access). event.Do c.in-Asks.cpu x) c.normal.ensures)
    (c.drop_ejected-in-Asks.ensures.voices ∙ ap (λ (o : Option ℕ). without_agent o c.next-access.new.self.voices) c.ejected-in-Asks.ensures ∙ ap (without_agent c.make-entry-in-Asks.new.board.machine.ejected) c.next-access.ensures.others)
    (c.drop_ejected-in-Asks.ensures.heard ∙ ap (λ (o : Option ℕ). without_heard o c.next-access.new.self.heard) c.ejected-in-Asks.ensures
    ∙ ap (without_heard c.make-entry-in-Asks.new.board.machine.ejected) (c.next-access.ensures.hears
    ∙ ap (λ (v : Answer). hears_at c.self.inside.agents.heard c.in-Asks.cpu (asked c.in-Asks.cpu c.page-page.result v) c.next-access.result) (c.answer_at.ensures ∙ ap (λ (vs : List Answer). slice_index_or vs c.in-Asks.cpu Quiet) c.as_slice.ensures.value)))
    c.note_answer.ensures)
