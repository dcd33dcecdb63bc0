use Rattle.std.proofs.Common.{[], rules, refl, ◌≡◌, inl, subst, sym}
use mathlib.Core.Option.{some-ne-none}
use Rattle.hp_model.specs.SharedBytes.{closed}
use Rattle.hp_gate.specs.Openings.{IsDistinct}
use Rattle.hp_gate.specs.Steps.{monarch_start}
use Rattle.hp_gate.proofs.Facts.{distinct_from}
use Rattle.hp_gate.proofs.gates.Gate.new.Goals as goal

pub of_words-requires : goal.of_words-requires
of_words-requires c = let own : c.of-about.result.value.items ≡ c.args.list.now = search rules in record {
  parts = record { gate = closed; base = 0; flag = 0; arrived = 0; monarch = monarch_start c.of-about.result.value.items; cpus = [] };
  words = refl;
  views = refl;
  holds = record {
    distinct = subst IsDistinct (sym own) (distinct_from _ c.requires.distinct);
    seats = refl;
    named = λ n a o. absurd (some-ne-none a (sym o.names));
    last = λ a u. absurd u;
    base = tt;
    gate = inl refl;
    passed = λ a u _. absurd u;
    flag = record { one = inl refl; none_above = λ i o e k h. absurd (some-ne-none o (sym e)) };
    arrived = record { one = inl refl; none_above = λ i o e k h. absurd (some-ne-none o (sym e)) };
    seat = λ j x e. absurd (some-ne-none x (sym e));
  };
}
