-- How `gen` ends.
use Rattle.std.proofs.Common.{Some, map, string_bytes, subst}
use Rattle.std.proofs.KnownBytes.{Keeps-refl}
use Rattle.hp_top.specs.declared.commands.Command.{Command}
use Rattle.hp_top.specs.Commands.{Asks}
use Rattle.hp_top.proofs.Serving.{gen_ends}
use Rattle.hp_top.proofs.answering.serve.Goals as goal

pub returns-in-Some-Gen-clause-ends : goal.returns-in-Some-Gen-clause-ends
returns-in-Some-Gen-clause-ends g c =
    gen_ends (map string_bytes c.args.words.now) _ _ _ _ _ _ c.in-Some-Gen.number
    (subst (λ (x : Command). Asks (map string_bytes c.args.words.now) (Some x)) c.in-Some-Gen.field-0-is c.in-Some-Gen.ensures) c.serve_gen.ensures.ends (Keeps-refl _)
