-- The law: while a session has all others called in, the state's flag says whether it was disturbed.
use Rattle.std.specs.Prelude.{if◌then◌else◌}
use Rattle.std.proofs.Common.{◌≡◌, ◌⊎◌, inl, inr, Bool, true, false, not, ◌&&◌, ◌||◌, List, [], ◌∷◌, Some, None, refl, sym, ap, subst, ◌∙◌}
use Rattle.hp_model.specs.declared.platforms.Platform.{Platform}
use Rattle.hp_model.specs.declared.entries.Entry.{Entry}
use Rattle.hp_model.specs.declared.labels.Label.TheVariants.{S2, E5}
use Rattle.hp_model.specs.Platform.{IsFit}
use Rattle.hp_model.specs.Monarch.{Monarch}
use Rattle.hp_model.specs.State.{State, start}
use Rattle.hp_model.specs.Runs.{run_on}
use Rattle.hp_model.specs.Transitions.{Transition, transitions, entries_of, since, at_each_state}
use Rattle.hp_model.specs.Sessions.{bounds_session, session, was_at, interferes, disturbed_in, is_disturbed, flag_agrees}
use Rattle.hp_model.proofs.AtEach.{made as step_made, each_passes}
use Rattle.hp_sealed.specs.Left.{Sound}
use Rattle.hp_sealed.specs.Booting.{IsBooted}
use Rattle.hp_sealed.proofs.Starts.{sound, starts}
use Rattle.hp_sealed.proofs.Goes.{boot_goes, refused_goes}
use Rattle.hp_sealed.proofs.HandOver.{IsBefore, before_outside}
use Rattle.hp_sealed.proofs.Runs.{Made, made}
use Rattle.hp_safety.proofs.Backward.{at_states}
use Rattle.hp_safety.proofs.Marked.{at_none}
use Rattle.hp_safety.proofs.Events.{keeps}
use Rattle.hp_safety.proofs.Runs.{IsHanded, rebase, sealed_handed}
use Rattle.hp_safety.proofs.Named.{outside_address}
use Rattle.hp_safety.proofs.Held.{bounds_of, boot_event}
use Rattle.hp_safety.proofs.Calling.{Call, Before, Called, Past, stage_of}
use Rattle.hp_safety.proofs.Disturbed.{CallAt, CallTied, was_more, disturbed_on, call_on}

-- before the hand-over there is no session
abbrev NoCall : Platform → List Transition → Type 0
NoCall p past = (was_at p S2 (session (entries_of past)) ≡ false) × (was_at p E5 (session (entries_of past)) ≡ false) × (is_disturbed p (entries_of past) ≡ false)

abbrev Flags : Platform → List Transition → State → Type 0
Flags p past s = (IsBefore p s × NoCall p past) ⊎ (IsHanded p s × CallTied p past s)

no_call_on : (p : Platform) (past : List Transition) (s t : State) (e : Entry) → e.at ≡ None → bounds_session e ≡ false → NoCall p past → NoCall p (step_made s e t ∷ past)
no_call_on p past s t e place bound h =
    let es = entries_of past in (
      was_more p S2 es e bound ∙ rw (at_none p S2 e place) h.0,
      was_more p E5 es e bound ∙ rw (at_none p E5 e place) h.1,
      disturbed_on p es e bound ∙ (ap (λ c. if interferes e then (c && not (was_at p E5 (session es))) || is_disturbed p es else is_disturbed p es) h.0 ∙ (either (interferes e) (is_disturbed p es) ∙ h.2)),
    )
  where
    either : (c d : Bool) → (if c then false || d else d) ≡ d
    either true d = refl
    either false d = refl

module _ (p : Platform) (fits : IsFit p) where
  fit : Sound p
  fit = sound p fits

  flags_first : Flags p [] (start p)
  unfolding disturbed_in since
  flags_first = inl (inl (starts p fits), (refl, refl, refl))

  flags_on : (past : List Transition) (s t : State) (e : Entry) → Flags p past s → run_on p s e ≡ Some t → Flags p (step_made s e t ∷ past) t
  flags_on past s t e (inl h) on = by_before (made p s e t on) h.0
    where
      next : (u : State) → NoCall p (step_made s e u ∷ past) → IsBooted p u → Flags p (step_made s e u ∷ past) u
      next u none (inl b) = inl (inl b, none)
      next u none (inr (inl b)) = inl (inr b, none)
      next u none (inr (inr z)) =
          inr (sealed_handed p u z, subst (λ (r : Monarch). CallAt (was_at p S2 (session (e ∷ entries_of past))) (was_at p E5 (session (e ∷ entries_of past))) (is_disturbed p (e ∷ entries_of past)) u.disturbed (stage_of r.label)) (sym z.cpus.begun) none)

      by_before : Made p s e t → IsBefore p s → Flags p (step_made s e t ∷ past) t
      by_before m (inl b) =
          let none = no_call_on p past s m.after.state e (sym m.place ∙ outside_address p s e.event (before_outside p s (inl b))) (ap bounds_of (boot_event p s e.event m.after b m.step)) h.1 in
          subst (λ u. Flags p (step_made s e u ∷ past) u) m.state (next m.after.state none (boot_goes p s e.event m.after fit b m.step).0)
      by_before m (inr b) = absurd (refused_goes p s e.event m.after b m.step)
  flags_on past s t e (inr h) on =
      let m = made p s e t on in
      inr (subst (IsHanded p) m.state (rebase p s.writes m.after.state fit (keeps p s.writes s e.event m.after fit h.0 m.step)), call_on p past s t e fit h.0 on h.1)

tells_flag : (p : Platform) (past : List Transition) (s : State) → Flags p past s → flag_agrees p (entries_of past) s ≡ true
tells_flag p past s (inl h) = rw h.1.0 refl
tells_flag p past s (inr h) = by_stage (stage_of s.monarch.label) h.1
  where
    by_flag : (c d : Bool) → c ≡ d → (if d then c else not c) ≡ true
    by_flag true true f = refl
    by_flag true false f = absurd cc
    by_flag false true f = absurd cc
    by_flag false false f = refl

    by_stage : (x : Call) → CallAt (was_at p S2 (session (entries_of past))) (was_at p E5 (session (entries_of past))) (is_disturbed p (entries_of past)) s.disturbed x → flag_agrees p (entries_of past) s ≡ true
    by_stage Before c = rw c.0 refl
    by_stage Called c = rw (c.0, c.1) (by_flag s.disturbed (is_disturbed p (entries_of past)) c.2)
    by_stage Past c = rw c refl

pub flag_law : (p : Platform) (es : List Entry) → IsFit p → at_each_state p (flag_agrees p) (transitions p es) ≡ true
flag_law p es fits =
    at_states p (flag_agrees p) (transitions p es) (tells_flag p [] (start p) (flags_first p fits))
    (each_passes p (Flags p) (flags_on p fits) (λ older x. flag_agrees p (entries_of (x ∷ older)) x.after) (λ past s t e h on. tells_flag p (step_made s e t ∷ past) t (flags_on p fits past s t e h on)) (flags_first p fits) es)
