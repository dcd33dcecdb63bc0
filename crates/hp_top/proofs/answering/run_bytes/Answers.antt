-- A file that was read is one of those that are run, and its run is safe.
use Rattle.std.proofs.Common.{map}
use Rattle.hp_top.proofs.Completing.{ends_read}
use Rattle.hp_top.proofs.answering.run_bytes.Goals as goal

pub run_read-requires : goal.run_read-requires
run_read-requires g c = c.read_files_are_sound.ensures c.args.bytes.now c.in-Ok.file c.in-Ok.ensures

pub returns-in-Ok-clause-ends : goal.returns-in-Ok-clause-ends
returns-in-Ok-clause-ends g c =
    ends_read c.schedule_is_a_run.ensures.whole c.schedule_is_a_run.ensures.boot c.runs_are_safe.ensures c.boot_stops_at_its_fact.ensures c.told_voices_alone_agree.ensures.alone
    c.args.bytes.now (map g.A.Agent.voice c.args.agents.items) _ _ c.in-Ok.file c.run_read.result c.in-Ok.ensures
    (c.read_files_are_sound.ensures c.args.bytes.now c.in-Ok.file c.in-Ok.ensures) c.run_read.ensures.ends
