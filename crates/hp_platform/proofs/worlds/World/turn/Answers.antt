-- A turn keeps what the world keeps.
use Rattle.std.proofs.Common.{ℕ, ◌∷◌, ◌++◌, [], List, Option, length, sym, subst, ◌∙◌, ap}
use Rattle.hp_model.specs.declared.platforms.Platform.{Platform}
use Rattle.hp_model.specs.declared.entries.Entry.{Entry}
use Rattle.hp_platform.specs.declared.worlds.Turn.{Turn}
use Rattle.hp_platform.specs.Agents.{HasNone}
use Rattle.hp_platform.specs.Live as live
use Rattle.hp_platform.specs.Live.{Live}
use Rattle.hp_platform.specs.World.{IsKept, idle_place_of, noted}
use Rattle.hp_platform.proofs.Turning.{kept_idle, kept_made, kept_turn}
use Rattle.hp_platform.proofs.worlds.World.turn.Goals as goal

pub invariant_of-self-in-Idle : goal.invariant_of-self-in-Idle
invariant_of-self-in-Idle g c =
    let l = c.self.inside.live in
    let m = c.turn.new.self in
    let es = c.self.inside.entries.items in
    let now = c.count_turn.new.asked.items in
    let idle : live.IsIdle l m c.args.a = subst (λ (t : Turn). live.IsTurned l m c.args.a t) c.in-Idle.is c.in_ok-turn.ensures.turned in
    let kept = kept_turn m es c.self.inside.asked.items now c.self.inside.idle.items c.possible.result c.args.a (subst (λ (k : Live). IsKept k es c.self.inside.asked.items c.self.inside.idle.items) (sym idle.same) c.self.invariant) c.count_turn.ensures in
    subst (λ (fs : List Entry). IsKept m fs now c.note_idle.new.idle.items) (sym c.in_ok-reserve.ensures.items)
    (subst (λ (notes : List (Option ℕ)). IsKept m es now notes)
    (sym (c.note_idle.ensures ∙ ap (λ (o : Option ℕ). noted c.handed.result o c.many.result c.self.inside.idle.items) (c.place_in-place.ensures ∙ ap (λ (p : Platform). idle_place_of p c.args.a) c.platform-in-Idle.ensures)))
    (kept_idle m es now c.self.inside.idle.items kept c.args.a c.many.result (c.many.ensures ∙ ap length c.in_ok-reserve.ensures.items) (subst (λ (k : Live). HasNone k.platform k.state c.args.a) (sym idle.same) idle.none) c.handed.result))

pub invariant_of-self-in-Made : goal.invariant_of-self-in-Made
invariant_of-self-in-Made g c =
    let l = c.self.inside.live in
    let m = c.turn.new.self in
    let es = c.self.inside.entries.items in
    let e = c.in-Made.entry in
    let made : live.IsMade l m c.args.a e = subst (λ (t : Turn). live.IsTurned l m c.args.a t) c.in-Made.is c.in_ok-turn.ensures.turned in
    subst (λ (fs : List Entry). IsKept m fs c.count_turn.new.asked.items c.self.inside.idle.items) (sym (c.push_reserved.ensures.items ∙ ap (λ (fs : List Entry). fs ++ e ∷ []) c.in_ok-reserve.ensures.items))
    (kept_turn m (es ++ e ∷ []) c.self.inside.asked.items c.count_turn.new.asked.items c.self.inside.idle.items c.possible.result c.args.a
    (kept_made l es c.self.inside.asked.items c.self.inside.idle.items c.self.invariant m c.args.a e c.in_ok-turn.ensures.platform made) c.count_turn.ensures)
