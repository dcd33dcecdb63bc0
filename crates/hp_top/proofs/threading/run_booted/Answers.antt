-- What the threads left of the world after its boot is what they make of the file.
use Rattle.std.proofs.Common.{ℕ, List, subst}
use Rattle.hp_model.specs.declared.files.HostEvent.{HostEvent}
use Rattle.hp_threads.specs.Leaving.{IsLeft}
use Rattle.hp_top.proofs.Threaded.{threaded_by}
use Rattle.hp_top.proofs.threading.run_booted.Goals as goal

pub returns-clause-threaded : goal.returns-clause-threaded
returns-clause-threaded g c = λ told booted.
    let w = c.args.world in
    let f = c.args.file.now in
    let r = c.in_ok-finished.finished.world in
    let marks = c.in_ok-finished.finished.marks in
    let ran = c.in_ok-finished.ensures in
    let left : IsLeft w c.turns_of_each.result c.hosts_in.result.now r marks = record {
      platform = ran.platform;
      entries = ran.entries;
      asked = ran.asked;
      host = ran.asked_host;
      most = ran.most;
      fewer = ran.fewer;
      follows = ran.follows;
      carried = ran.carried;
      hosted = ran.hosted;
    } in
    threaded_by f told w r marks booted c.requires.handed
    (subst (λ (n : ℕ). IsLeft w n f.hosts r marks) c.turns_of_each.ensures (subst (λ (hs : List HostEvent). IsLeft w c.turns_of_each.result hs r marks) c.hosts_in.ensures left))
