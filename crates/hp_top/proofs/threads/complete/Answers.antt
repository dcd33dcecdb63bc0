-- A file whose machine is handed over is run to its end.
use Rattle.std.proofs.Common.{map}
use Rattle.hp_top.proofs.Threaded.{threads_completed}
use Rattle.hp_top.proofs.threads.complete.Goals as goal

pub returns-clause-completes : goal.returns-clause-completes
returns-clause-completes g c = λ file read up calm.
    threads_completed (λ bytes f is. c.read_files_are_sound.ensures bytes f is) (λ p vs fit over. c.boot_ends.ensures.hands_over p vs fit over) (map g.A.Agent.voice c.args.agents.items)
    c.args.bytes.now _ _ c.thread_bytes.result file c.thread_bytes.ensures.ends (λ fault. calm (c.thread_bytes.ensures.fault fault)) read up
