-- What a processor's number rose by is a small number.
use Rattle.std.proofs.Common.{arith, ap}
use Rattle.std.specs.Prelude.{slice_index_or}
use Rattle.hp_threads.specs.Running.{Running}
use Rattle.hp_threads.proofs.Leaving.{read_of, taken_of}
use Rattle.hp_threads.proofs.running.Running.own_turns.Goals as goal

pub index-requires : goal.index-requires
index-requires g c = let r = read_of g.E.Entered.world c.self.inside.world g.E.Entered.turns g.E.Entered.hosts c.self.inside.marks.items c.self.inside.before.items c.args.cpu c.self.invariant.0 c.self.invariant.1 c.requires.cpu in omega (arith, r.place, c.self.inside.before.ok)

pub overflow_sub-result : goal.overflow_sub-result
overflow_sub-result g c = let t = taken_of g.E.Entered.world c.self.inside.world g.E.Entered.turns c.self.inside.before.items c.asked-now.result c.index.result.now c.args.cpu (read_of g.E.Entered.world c.self.inside.world g.E.Entered.turns g.E.Entered.hosts c.self.inside.marks.items c.self.inside.before.items c.args.cpu c.self.invariant.0 c.self.invariant.1 c.requires.cpu) c.asked-now.ensures c.index.ensures in omega (arith, t.now_is)

pub overflow_cast-result : goal.overflow_cast-result
overflow_cast-result g c = let t = taken_of g.E.Entered.world c.self.inside.world g.E.Entered.turns c.self.inside.before.items c.asked-now.result c.index.result.now c.args.cpu (read_of g.E.Entered.world c.self.inside.world g.E.Entered.turns g.E.Entered.hosts c.self.inside.marks.items c.self.inside.before.items c.args.cpu c.self.invariant.0 c.self.invariant.1 c.requires.cpu) c.asked-now.ensures c.index.ensures in omega (arith, t.now_is, t.few)

pub returns-clause-within : goal.returns-clause-within
returns-clause-within g c = let t = taken_of g.E.Entered.world c.self.inside.world g.E.Entered.turns c.self.inside.before.items c.asked-now.result c.index.result.now c.args.cpu (read_of g.E.Entered.world c.self.inside.world g.E.Entered.turns g.E.Entered.hosts c.self.inside.marks.items c.self.inside.before.items c.args.cpu c.self.invariant.0 c.self.invariant.1 c.requires.cpu) c.asked-now.ensures c.index.ensures in omega (arith, t.now_is, t.within)

pub returns-clause-asked : goal.returns-clause-asked
returns-clause-asked g c =
    let t = taken_of g.E.Entered.world c.self.inside.world g.E.Entered.turns c.self.inside.before.items c.asked-now.result c.index.result.now c.args.cpu (read_of g.E.Entered.world c.self.inside.world g.E.Entered.turns g.E.Entered.hosts c.self.inside.marks.items c.self.inside.before.items c.args.cpu c.self.invariant.0 c.self.invariant.1 c.requires.cpu) c.asked-now.ensures c.index.ensures in
    let same = ap (λ (r : Running). slice_index_or r.world.asked c.args.cpu 0) c.self.view_is in
    omega (arith, same, t.now_is, t.asked, t.before_is)
