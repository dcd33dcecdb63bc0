-- What so many agents tell, and what those tell that are still to come.
use Rattle.std.proofs.Common.{◌≡◌, ◌++◌, length, map}
use Rattle.std.specs.Vec.Iter.{into_iter_items, into_iter_len}
use Rattle.hp_agent.specs.Kinds.{place_voices}
use Rattle.hp_model.specs.Voices.{told_by}
use Rattle.hp_top.proofs.running.agents_of.Given as goal

abbrev pub invariant-loop-kind : goal.invariant-loop-kind
invariant-loop-kind g l = record {
  tell : place_voices g.A.Agent.voice l.places.items ++ told_by l.p (into_iter_items l.kind-iterator) (map g.A.Agent.voice (into_iter_items l.left))
      ≡ told_by l.p (into_iter_items l.initial.kind-iterator) (map g.A.Agent.voice (into_iter_items l.initial.left));
  left : into_iter_len l.kind-iterator ≡ length (into_iter_items l.kind-iterator);
}
