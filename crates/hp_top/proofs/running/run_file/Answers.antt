-- The rest with its voices is the file, and no step asks for the file's own.
use Rattle.std.proofs.Common.{map, sym, subst, IfOk, OnErr}
use Rattle.std.proofs.lemmas.Result.{IfOk-weaker, on_err_weaker}
use Rattle.hp_model.specs.declared.files.File.{File}
use Rattle.hp_model.specs.Voices.{told_of}
use Rattle.hp_config.specs.Sound.{IsSound}
use Rattle.hp_top.specs.Answers.{IsWritten, IsCut}
use Rattle.hp_top.proofs.Booting.{written_rest, cut_rest}
use Rattle.hp_top.proofs.running.run_file.Goals as goal

pub run_voices-requires : goal.run_voices-requires
run_voices-requires g c = subst IsSound (sym c.take_voices-rest.ensures) c.requires

pub returns-clause-all : goal.returns-clause-all
returns-clause-all g c =
    subst (λ (f : File). IfOk c.run_voices.result (λ fact. IsWritten f (told_of f (map g.A.Agent.voice c.args.handed.items)) fact (g.K.Sink.held c.args.out.now) (g.K.Sink.held c.run_voices.new.out)))
    c.take_voices-rest.ensures
    (IfOk-weaker c.run_voices.result _ _ (λ fact. written_rest c.take_voices-rest.result.1.items c.take_voices-rest.result.0 _ fact _ _) c.run_voices.ensures.all)

pub returns-clause-part : goal.returns-clause-part
returns-clause-part g c =
    subst (λ (f : File). OnErr c.run_voices.result (IsCut f (told_of f (map g.A.Agent.voice c.args.handed.items)) (g.K.Sink.held c.args.out.now) (g.K.Sink.held c.run_voices.new.out)))
    c.take_voices-rest.ensures
    (on_err_weaker c.run_voices.result (cut_rest c.take_voices-rest.result.1.items c.take_voices-rest.result.0 _ _ _) c.run_voices.ensures.part)
