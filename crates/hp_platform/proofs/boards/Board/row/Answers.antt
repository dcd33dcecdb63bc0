-- The handlers go by the platform's APIC IDs, and the row that they find is the one of who stands there.
use Rattle.std.proofs.Common.{◌≡◌, ◌≤◌, Some, sym, subst}
use Rattle.hp_model.specs.SharedBytes.{Layout}
use Rattle.hp_model.specs.Handlers.{want_at}
use Rattle.hp_model.specs.Platform.{greatest_id}
use Rattle.hp_smm.specs.Rows.{row_for, seat_for}
use Rattle.hp_platform.specs.Board.{Board}
use Rattle.hp_platform.proofs.Standing.{row_some}
use Rattle.hp_platform.proofs.boards.Board.row.Goals as goal

pub row-requires : goal.row-requires
row-requires c =
    subst (λ (y : Layout). c.in-Some.smm_cpu.apic ≤ greatest_id y.x2apic) (sym c.self.invariant.layout)
    (subst (λ (b : Board). c.in-Some.smm_cpu.apic ≤ greatest_id b.platform.x2apic) (sym c.self.view_is) c.in-Some.ensures.apic)

pub returns-in-Some-row-clause-wanted : goal.returns-in-Some-row-clause-wanted
returns-in-Some-row-clause-wanted c = λ s shows.
    row_some c.args.self.now s c.args.cpu c.in-Some.smm_cpu shows (c.in-Some.ensures.some s shows) c.in-Some-row.label c.in-Some-row.want
    (subst (λ (b : Board). row_for b.handlers c.in-Some.smm_cpu ≡ Some c.in-Some-row.label) c.self.view_is c.in-Some-row.ensures.label)
    (subst (λ (b : Board). want_at b.handlers.layout (seat_for b.handlers c.in-Some.smm_cpu) b.handlers.monarch c.in-Some-row.label ≡ Some c.in-Some-row.want) c.self.view_is c.in-Some-row.ensures.want)
