-- The file is the number's, and there is one run of it.
use Rattle.std.proofs.Common.{sym, subst}
use Rattle.std.proofs.lemmas.Result.{IfOk-weaker}
use Rattle.hp_config.specs.Sound.{IsSound}
use Rattle.hp_top.proofs.Counting.{generated_sum}
use Rattle.hp_top.proofs.summing.sum_generated.Goals as goal

pub sum_file-requires : goal.sum_file-requires
sum_file-requires g c = subst IsSound (sym c.in-Ok.ensures) (c.generated_files_are_sound.ensures c.args.number)

pub returns-in-Ok : goal.returns-in-Ok
returns-in-Ok g c =
    IfOk-weaker c.sum_file.result _ _ (λ s. generated_sum (λ f handed vs. c.told_voices_alone_agree.ensures.alone f handed vs) c.args.number c.in-Ok.file s c.in-Ok.ensures) c.sum_file.ensures
