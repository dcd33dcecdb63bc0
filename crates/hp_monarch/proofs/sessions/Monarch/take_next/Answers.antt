-- The next report is taken up and answered.
use Rattle.std.proofs.Common.{◌≡◌, List, Some, slice_get, sym, ap, ◌∙◌}
use Rattle.hp_model.specs.declared.reports.Report.{Report}
use Rattle.hp_model.specs.Monarch.{next_report}
use Rattle.hp_collect.specs.Collecting.{collection_in}
use Rattle.hp_monarch.specs.Session.{Session}
use Rattle.hp_monarch.specs.contracts.sessions.Monarch.{the_view}
use Rattle.hp_monarch.proofs.Reports.{shown, taking}
use Rattle.hp_monarch.proofs.sessions.Monarch.take_next.Goals as goal

pub returns : goal.returns
returns c =
    let v = c.self.inside in
    let look = c.in-Some.ensures.lookup in
    let due : slice_get (collection_in v.collect.next).reports v.taken ≡ Some c.in-Some.report.now =
    ap (λ (ts : List Report). slice_get ts v.taken) (sym c.report.ensures.value) ∙ shown c.report.result.now v.taken c.in-Some.report.now c.in-Some.report.now look.0 look.1 in
    c.answer.ensures
    ∙ (taking (the_view v) c.in-Some.report.now due
    ∙ ap (λ (s : Session). record s { monarch = next_report s.layout.apics s.monarch }) c.self.view_is)
