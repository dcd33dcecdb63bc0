-- The access is the next one of what is left to do.
use Rattle.std.proofs.Common.{ℕ, List, get_or, sym, ap, ◌∙◌}
use Rattle.hp_model.specs.declared.accesses.Access.TheVariants.{Load}
use Rattle.hp_model.specs.Voices.{doing}
use Rattle.hp_agent.proofs.Doing.{start_said}
use Rattle.hp_agent.proofs.programs.Program.start_next.Goals as goal

pub returns-clause-says : goal.returns-clause-says
returns-clause-says c =
    let p = c.args.self.now in
    let cpu = c.index-cpu.result.now in
    let high = c.high_to.ensures ∙ ap (λ (hs : List ℕ). get_or hs cpu 0) c.as_slice.ensures.value in
    let said = start_said p.halves.items p.inserts.items p.removals.items c.args.item c.args.done cpu _ (Load 0 0) _ _
    c.requires.item c.requires.done c.index-cpu.ensures high c.start.ensures c.after_start.ensures in
    ap (doing p.halves.items) (sym said)
