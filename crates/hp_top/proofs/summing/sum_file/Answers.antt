-- The rest with its voices is the file, and no step asks for the file's own.
use Rattle.std.proofs.Common.{[], sym, subst, IfOk}
use Rattle.std.proofs.lemmas.Result.{IfOk-weaker}
use Rattle.hp_model.specs.declared.files.File.{File}
use Rattle.hp_model.specs.Voices.{told_of}
use Rattle.hp_config.specs.Sound.{IsSound}
use Rattle.hp_top.specs.Generated.{IsSummed}
use Rattle.hp_top.proofs.Counting.{summed_rest}
use Rattle.hp_top.proofs.summing.sum_file.Goals as goal

pub sum_voices-requires : goal.sum_voices-requires
sum_voices-requires g c = subst IsSound (sym c.take_voices-rest.ensures) c.requires

pub returns : goal.returns
returns g c =
    subst (λ (f : File). IfOk c.sum_voices.result (IsSummed f (told_of f []))) c.take_voices-rest.ensures
    (IfOk-weaker c.sum_voices.result _ _ (λ s. summed_rest c.take_voices-rest.result.1.items c.take_voices-rest.result.0 _ s) c.sum_voices.ensures)
