-- A file that was read is one of those that are run, and what threads make of it is safe.
use Rattle.std.proofs.Common.{map}
use Rattle.hp_top.proofs.Threaded.{threads_read}
use Rattle.hp_top.proofs.threads.thread_bytes.Goals as goal

pub thread_file-requires-after_bounds : goal.thread_file-requires-after_bounds
thread_file-requires-after_bounds g c κs within = c.read_files_are_sound.ensures c.args.bytes.now c.in-Ok.file c.in-Ok.ensures

pub returns-in-Ok-clause-ends : goal.returns-in-Ok-clause-ends
returns-in-Ok-clause-ends g c =
    threads_read c.schedule_is_a_run.ensures.whole c.schedule_is_a_run.ensures.boot c.runs_are_safe.ensures c.boot_stops_at_its_fact.ensures c.told_voices_alone_agree.ensures.alone
    c.args.bytes.now (map g.A.Agent.voice c.args.agents.items) _ _ c.in-Ok.file c.in-Ok.ensures
    (c.read_files_are_sound.ensures c.args.bytes.now c.in-Ok.file c.in-Ok.ensures) c.thread_file.result c.thread_file.ensures.ends
