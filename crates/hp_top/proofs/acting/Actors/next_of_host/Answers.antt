-- An event fewer of the turn, or none is left of it.
use Rattle.std.proofs.Common.{◌≡◌, ◌<◌, ◌+◌, ℕ, refl, subst}
use Rattle.hp_top.specs.Actors.{Actors}
use Rattle.hp_top.specs.Turns.{Rises, at_turn, turn_of}
use Rattle.hp_top.proofs.Coming.{later-first, rises-over}
use Rattle.hp_top.proofs.acting.Actors.next_of_host.Goals as goal

pub returns-in-Some-clause-later : goal.returns-in-Some-clause-later
returns-in-Some-clause-later c =
    subst (λ (s : Actors). (t : ℕ) → s.turn < t → at_turn t c.in-Some.more.now ≡ at_turn t s.hosts) c.self.view_is
    (λ t after. later-first _ t _ c.in-Some.more.now c.in-Some.ensures.past after)

pub returns-in-None-clause-over : goal.returns-in-None-clause-over
returns-in-None-clause-over c = λ none.
    subst (λ (s : Actors). Rises turn_of s.turn s.hosts → Rises turn_of (s.turn + 1) s.hosts) c.self.view_is (λ up. rises-over _ _ (c.in-None.ensures.kept refl) up)
