-- What the turn made is the boot's next step.
use Rattle.hp_model.specs.declared.entries.Actor.TheVariants.{Cpu}
use Rattle.hp_threads.proofs.Counting.{turned_small}
use Rattle.hp_top.proofs.Worlds.{booting_more}
use Rattle.hp_top.proofs.threading.boot_turn.Goals as goal

pub returns-clause-boots : goal.returns-clause-boots
returns-clause-boots g c = λ p told all more b.
    booting_more c.a_turn_is_the_schedules.ensures p told all more c.args.world.now c.turn.new.self c.turn.ensures.platform b _ c.in_ok-_made.ensures.turned

pub returns-clause-small : goal.returns-clause-small
returns-clause-small g c = λ most few. turned_small c.args.world.now c.turn.new.self (Cpu 0) _ most c.in_ok-_made.ensures.turned few
