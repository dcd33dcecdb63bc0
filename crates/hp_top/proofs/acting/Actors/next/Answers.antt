-- The next of the host's events, or the processor whose turn it is; and on to the turn after it.
use Rattle.std.proofs.Common.{◌<◌, List, ◌++◌, refl, ◌∙◌, ap, subst}
use Rattle.hp_model.specs.declared.entries.Actor.{Actor}
use Rattle.hp_top.specs.Actors.{Actors, to_come}
use Rattle.hp_top.proofs.Coming.{walked, walked_ahead}
use Rattle.hp_top.proofs.acting.Actors.next.Goals as goal

pub returns-in-Some-end_turn-clause-some : goal.returns-in-Some-end_turn-clause-some
returns-in-Some-end_turn-clause-some c =
    let s = c.turns.self in
    let mid = c.next_of_host.new.self in
    let new = c.end_turn.new.self in
    c.turns.invariant.same
    ∙ walked s mid new c.turns.invariant.ahead c.next_of_host.ensures.file c.next_of_host.ensures.turn c.next_of_host.ensures.later (c.in_default.ensures.over refl c.turns.invariant.ahead.rises)
    c.end_turn.ensures.file c.end_turn.ensures.hosts c.end_turn.ensures.turn (subst (λ (x : Actors). x.turn < x.file.platform.turns) c.self.view_is c.turns-test.true) (c.in_default.ensures.none refl)
    ∙ ap (λ (xs : List Actor). xs ++ to_come new) c.in-Some-end_turn.ensures.some

pub turns-preserved : goal.turns-preserved
turns-preserved c =
    let s = c.turns.self in
    let mid = c.next_of_host.new.self in
    let new = c.end_turn.new.self in
    record {
      ahead = walked_ahead s mid new c.turns.invariant.ahead c.next_of_host.ensures.file c.next_of_host.ensures.turn c.next_of_host.ensures.later (c.in_default.ensures.over refl c.turns.invariant.ahead.rises)
          c.end_turn.ensures.file c.end_turn.ensures.hosts c.end_turn.ensures.turn c.end_turn.ensures.tracking;
      file = c.end_turn.ensures.file ∙ c.next_of_host.ensures.file ∙ c.turns.invariant.file;
      same = c.turns.invariant.same
          ∙ walked s mid new c.turns.invariant.ahead c.next_of_host.ensures.file c.next_of_host.ensures.turn c.next_of_host.ensures.later (c.in_default.ensures.over refl c.turns.invariant.ahead.rises)
          c.end_turn.ensures.file c.end_turn.ensures.hosts c.end_turn.ensures.turn (subst (λ (x : Actors). x.turn < x.file.platform.turns) c.self.view_is c.turns-test.true) (c.in_default.ensures.none refl)
          ∙ ap (λ (xs : List Actor). xs ++ to_come new) (c.in_default-end_turn.ensures.none refl);
    }
