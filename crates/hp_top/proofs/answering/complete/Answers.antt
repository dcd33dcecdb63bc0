-- A file whose machine is handed over is run to its end.
use Rattle.std.proofs.Common.{map}
use Rattle.hp_top.proofs.Completing.{completed}
use Rattle.hp_top.proofs.answering.complete.Goals as goal

pub returns-clause-completes : goal.returns-clause-completes
returns-clause-completes g c = λ file read up calm.
    completed (λ bytes f is. c.read_files_are_sound.ensures bytes f is) (λ p vs fit over. c.boot_ends.ensures.hands_over p vs fit over) (map g.A.Agent.voice c.args.agents.items)
    c.args.bytes.now _ _ c.run_bytes.result file c.run_bytes.ensures.ends (λ fault. calm (c.run_bytes.ensures.fault fault)) read up
