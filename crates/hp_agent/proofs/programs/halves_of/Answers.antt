-- Each place's APIC ID is a possible one.
use Rattle.hp_agent.proofs.ApicIds.{is_possible}
use Rattle.hp_agent.proofs.programs.halves_of.Goals as goal

pub icr_high-requires-clause-possible : goal.icr_high-requires-clause-possible
icr_high-requires-clause-possible c =
    is_possible c.ids_in-ids.result.now c.args.p.now.apic c.loop-place.place 0 c.ids_in-ids.ensures c.loop-place-test.true
