-- The host's turn keeps what is kept.
use Rattle.std.proofs.Common.{◌≡◌, ◌++◌, ◌∷◌, [], Some, List, ℕ, arith, ap, subst, sym, length, ◌∙◌}
use Rattle.std.specs.Prelude.{slice_get, slice_index_or}
use Rattle.hp_model.specs.declared.entries.Actor.{Actor}
use Rattle.hp_model.specs.declared.entries.Entry.{Entry}
use Rattle.hp_model.specs.declared.files.HostEvent.{HostEvent}
use Rattle.hp_threads.specs.Running.{IsKept, Running}
use Rattle.hp_threads.specs.Running.{host_actors}
use Rattle.hp_threads.proofs.Turning.{host_counted, kept_host}
use Rattle.hp_threads.proofs.running.Running.turn_host.Goals as goal

next_is : (here hosts : List HostEvent) (i n : ℕ) (a : Actor) → here ≡ hosts → i ≡ n → slice_get (host_actors here) i ≡ Some a → slice_get (host_actors hosts) n ≡ Some a
next_is here hosts i n a e1 e2 at = subst (λ (j : ℕ). slice_get (host_actors hosts) j ≡ Some a) e2 (subst (λ (hs : List HostEvent). slice_get (host_actors hs) i ≡ Some a) e1 at)

pub invariant_of-self-2 : goal.invariant_of-self-2
invariant_of-self-2 g c =
    let marks_are = c.push_reserved.ensures.items ∙ ap (λ (ms : List ℕ). ms ++ length c.entries.result.now ∷ []) c.in_ok-reserve.ensures.items ∙ ap (λ (es : List Entry). c.self.inside.marks.items ++ length es ∷ []) c.entries.ensures.entries in (
      subst (λ (ms : List ℕ). IsKept g.E.Entered.world g.E.Entered.turns g.E.Entered.hosts (record { world = c.turn.new.self; marks = ms })) (sym marks_are)
          (kept_host g.E.Entered.world c.self.inside.world c.turn.new.self g.E.Entered.turns g.E.Entered.hosts c.self.inside.marks.items c.self.invariant.0 c.sound.ensures c.turn.ensures.platform c.actor_at.result (next_is c.args.hosts.now g.E.Entered.hosts c.len-next.result (length c.self.inside.marks.items) c.actor_at.result c.requires.hosts (omega (arith, c.len-next.ensures, c.self.inside.marks.ok)) c.actor_at.ensures) c.in_ok-turn.field-0 c.in_ok-turn.ensures.turned),
      c.self.invariant.1,
      c.self.invariant.2,
    )

pub returns-clause-others : goal.returns-clause-others
returns-clause-others g c =
    λ j inside. host_counted g.E.Entered.world c.self.inside.world c.turn.new.self g.E.Entered.turns g.E.Entered.hosts c.self.inside.marks.items c.self.invariant.0 c.sound.ensures c.turn.ensures.platform c.actor_at.result (next_is c.args.hosts.now g.E.Entered.hosts c.len-next.result (length c.self.inside.marks.items) c.actor_at.result c.requires.hosts (omega (arith, c.len-next.ensures, c.self.inside.marks.ok)) c.actor_at.ensures) c.in_ok-turn.field-0 c.in_ok-turn.ensures.turned j inside ∙ ap (λ (r : Running). slice_index_or r.world.asked j 0) c.self.view_is
