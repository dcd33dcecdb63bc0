-- What places tell, and what their agents have heard, once one of them has changed.
use Rattle.std.proofs.Common.{◌≡◌, ℕ, ◌<◌, ◌≤◌, List, length, Option, Some, None, get_or, slice_set, refl, sym, ap, ◌∙◌}
use Rattle.std.proofs.Math.ListN.{get_or-map, get_or-eq_default}
use Rattle.std.proofs.lemmas.List.{map-set, set-get_or, get_or-set_same, get_or_default}
use Rattle.hp_model.specs.Voices as model
use Rattle.hp_model.specs.declared.accesses.Access.{Access}
use Rattle.hp_model.specs.declared.accesses.Access.TheVariants.{Halt}
use Rattle.hp_agent.specs.declared.kinds.Voice.{Voice}
use Rattle.hp_agent.specs.Kinds.{all_heard, place_voices, hears, hears_at, place_heard, place_voice}
use Rattle.hp_model.specs.Following.{voice_told}
use Rattle.hp_agent.specs.Speaking.{Heard, Speaks}
use Rattle.hp_agent.proofs.Said.{silent_halts}

module _ {A : Type 0} (handed : A → Option model.Voice) where
  -- a place tells what its own agent tells
  told_is : (ps : List (Option (Voice A))) (k : ℕ) → voice_told (place_voices handed ps) k ≡ place_voice handed (get_or ps k None)
  told_is ps k = get_or-map (place_voice handed) ps k None

  -- a change of one place changes what that place tells, and no other
  pub told_put : (ps : List (Option (Voice A))) (k : ℕ) (p : Option (Voice A)) →
      place_voices handed (slice_set ps k p) ≡ slice_set (place_voices handed ps) k (place_voice handed p)
  told_put ps k p = map-set (place_voice handed) ps k p

  pub told_put_at : (ps : List (Option (Voice A))) (k : ℕ) (p : Option (Voice A)) → k < length ps →
      voice_told (place_voices handed (slice_set ps k p)) k ≡ place_voice handed p
  told_put_at ps k p h = told_is (slice_set ps k p) k ∙ ap (place_voice handed) (get_or-set_same ps k p None h)

  -- past the last place there is nobody
  told_past : (ps : List (Option (Voice A))) (k : ℕ) → length ps ≤ k → voice_told (place_voices handed ps) k ≡ Some model.silent
  told_past ps k h = told_is ps k ∙ ap (place_voice handed) (get_or-eq_default ps None h)

  pub told_nobody : (ps : List (Option (Voice A))) (k : ℕ) (q : model.Question) → length ps ≤ k →
      Speaks (voice_told (place_voices handed ps) k) (voice_told (place_voices handed ps) k) q Halt
  told_nobody ps k q h = rw (told_past ps k h, silent_halts q) (refl, refl)

  -- what is said of one place's agent is said of what all places tell
  pub told_asked : (ps : List (Option (Voice A))) (k : ℕ) (d p : Option (Voice A)) (q : model.Question) (access : Access) →
      k < length ps → Speaks (place_voice handed (get_or ps k d)) (place_voice handed p) q access →
      Speaks (voice_told (place_voices handed ps) k) (voice_told (place_voices handed (slice_set ps k p)) k) q access
  told_asked ps k d p q access h said = rw (told_is ps k, told_put_at ps k p h, get_or_default ps k None d h) said

-- what a place tells, written back, changes nothing
pub told_same : (os : List (Option model.Voice)) (k : ℕ) → slice_set os k (voice_told os k) ≡ os
told_same os k = set-get_or os k (Some model.silent)

module _ {A : Type 0} (handed : A → Heard) where
  heard_is : (ps : List (Option (Voice A))) (k : ℕ) → get_or (all_heard handed ps) k None ≡ place_heard handed (get_or ps k None)
  heard_is ps k = get_or-map (place_heard handed) ps k None

  -- the agent of one place alone
  pub heard_put : (ps : List (Option (Voice A))) (k : ℕ) (p : Option (Voice A)) →
      all_heard handed (slice_set ps k p) ≡ slice_set (all_heard handed ps) k (place_heard handed p)
  heard_put ps k p = map-set (place_heard handed) ps k p

  pub heard_asked : (ps : List (Option (Voice A))) (k : ℕ) (d p : Option (Voice A)) (q : model.Question) (access : Access) →
      k < length ps → place_heard handed p ≡ hears (place_heard handed (get_or ps k d)) q access →
      all_heard handed (slice_set ps k p) ≡ hears_at (all_heard handed ps) k q access
  heard_asked ps k d p q access h heard =
      heard_put ps k p
      ∙ ap (slice_set (all_heard handed ps) k) (rw (heard_is ps k, get_or_default ps k None d h) heard)

  -- past the last place nobody hears
  pub heard_nobody : (ps : List (Option (Voice A))) (k : ℕ) (q : model.Question) (access : Access) → length ps ≤ k →
      all_heard handed ps ≡ hears_at (all_heard handed ps) k q access
  heard_nobody ps k q access h =
      let none : get_or (all_heard handed ps) k None ≡ None = heard_is ps k ∙ ap (place_heard handed) (get_or-eq_default ps None h) in
      sym (ap (λ (o : Option Heard). slice_set (all_heard handed ps) k (hears o q access)) none
      ∙ ap (slice_set (all_heard handed ps) k) (sym none) ∙ set-get_or (all_heard handed ps) k None)

pub ruleset told_facts = (told_put, told_put_at, told_same)

pub ruleset dropped_facts = (told_put, heard_put)
