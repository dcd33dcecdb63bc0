-- Each place tells what it tells.
use Rattle.std.proofs.Common.{length, ap, ◌∙◌, arith}
use Rattle.std.proofs.lemmas.List.{length-map}
use Rattle.hp_check.proofs.walks.nobody.Goals as goal

pub returns : goal.returns
returns c =
    ap length c.new.ensures.voices ∙ length-map c.loop-place.places.items _ ∙ omega (arith, c.loop-place.invariant, c.loop-place.auto._place-end, c.loop-place-test.false)
