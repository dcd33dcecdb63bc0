-- An agent more.
use Rattle.std.proofs.Common.{◌≡◌, ◌∷◌, [], ◌++◌, List, length, map, refl, sym, ap, ◌∙◌, arith}
use Rattle.std.proofs.lemmas.List.{append-nil}
use Rattle.std.specs.Vec.Iter.{into_iter_items}
use Rattle.hp_model.specs.declared.files.VoiceKind.{VoiceKind}
use Rattle.hp_model.specs.Voices.{told_by}
use Rattle.hp_agent.specs.Kinds.{place_voices}
use Rattle.hp_top.proofs.Starting.{told_more}
use Rattle.hp_top.proofs.running.agents_of.Goals as goal

none_left : {X : Type 0} (xs : List X) → length xs ≡ 0 → xs ≡ []
none_left [] none = refl
none_left (x ∷ xs) none = absurd (omega (arith, none))

pub loop-kind-preserved : goal.loop-kind-preserved
loop-kind-preserved g c =
    let at = c.loop-kind in
    let p = c.args.p.now in
    let next : into_iter_items at.kind-iterator ≡ c.in-Some.kind ∷ into_iter_items c.next.new.self = c.in-Some.ensures.steps.0 in
    record {
      tell =
          ap (λ places. place_voices g.A.Agent.voice places ++ told_by p (into_iter_items c.next.new.self) (map g.A.Agent.voice (into_iter_items c.agent_for.new.handed))) c.in_ok-push.ensures.items
          ∙ told_more g.A.Agent.voice at.places.items _ _ _ refl
          ∙ ap (λ told. place_voices g.A.Agent.voice at.places.items ++ told) (sym (c.in_ok-agent.ensures (into_iter_items c.next.new.self)))
          ∙ ap (λ (kinds : List VoiceKind). place_voices g.A.Agent.voice at.places.items ++ told_by p kinds (map g.A.Agent.voice (into_iter_items at.left))) (sym next)
          ∙ at.invariant.tell;
      left = let was = at.invariant.left in let gone = c.in-Some.ensures.steps.1 in let short = ap length next in omega arith;
    }

pub returns : goal.returns
returns g c =
    let at = c.loop-kind in
    let none = c.in-None.ensures.steps in
    let empty : into_iter_items at.kind-iterator ≡ [] = none_left _ (sym at.invariant.left ∙ none.0) in
    c.new.ensures.voices ∙ sym (append-nil _)
    ∙ ap (λ (kinds : List VoiceKind). place_voices g.A.Agent.voice at.places.items ++ told_by c.args.p.now kinds (map g.A.Agent.voice (into_iter_items at.left))) (sym empty) ∙ at.invariant.tell
    ∙ ap (λ (kinds : List VoiceKind). told_by c.args.p.now kinds (map g.A.Agent.voice (into_iter_items c.into_iter-left.result))) c.into_iter-kind-iterator.ensures.into_iter_gives.0
    ∙ ap (λ hs. told_by c.args.p.now c.args.kinds.items (map g.A.Agent.voice hs)) c.into_iter-left.ensures.rest
