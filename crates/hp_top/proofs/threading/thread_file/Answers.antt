-- The rest with its voices is the file.
use Rattle.std.proofs.Common.{map, sym, subst}
use Rattle.hp_model.specs.declared.files.File.{File}
use Rattle.hp_model.specs.Voices.{told_of}
use Rattle.hp_config.specs.Sound.{IsSound}
use Rattle.hp_top.specs.Threaded.{EndsThreaded}
use Rattle.hp_top.proofs.Threaded.{ends_rest}
use Rattle.hp_top.proofs.threading.thread_file.Goals as goal

pub thread_voices-requires-after_bounds : goal.thread_voices-requires-after_bounds
thread_voices-requires-after_bounds g c κs within = subst IsSound (sym c.take_voices-rest.ensures) c.requires

pub returns-clause-ends : goal.returns-clause-ends
returns-clause-ends g c =
    subst (λ (f : File). EndsThreaded f (told_of f (map g.A.Agent.voice c.args.handed.items)) (g.K.Sink.held c.args.out.now) (g.K.Sink.held c.thread_voices.new.out) c.thread_voices.result)
    c.take_voices-rest.ensures
    (ends_rest c.take_voices-rest.result.1.items c.take_voices-rest.result.0 _ _ _ c.thread_voices.result c.thread_voices.ensures.ends)
