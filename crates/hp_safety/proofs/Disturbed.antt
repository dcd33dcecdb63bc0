-- Whether a session has all others called in, and whether it was disturbed: the entries and the state say the same.
use Rattle.std.specs.Prelude.{if◌then◌else◌}
use Rattle.std.specs.Option.{unwrap_or}
use Rattle.std.proofs.Common.{ℕ, ◌≡◌, ◌+◌, ◌==◌, inl, inr, Bool, true, false, cond, not, ◌&&◌, ◌||◌, List, [], ◌∷◌, Option, Some, None, option_map, refl, sym, ap, subst, ◌∙◌, arith}
use Rattle.std.proofs.lemmas.Bool.{and_parts, eqb-true}
use Rattle.std.proofs.lemmas.Bool.Decides.{nat_tests}
use Rattle.hp_model.specs.declared.platforms.Platform.{Platform}
use Rattle.hp_model.specs.declared.processors.Cpu.{Cpu}
use Rattle.hp_model.specs.declared.processors.Mode.{Mode}
use Rattle.hp_model.specs.declared.processors.Mode.TheVariants.{Wait, Running, Halted, Smm}
use Rattle.hp_model.specs.declared.accesses.Access.{Access}
use Rattle.hp_model.specs.declared.accesses.Want.{Want}
use Rattle.hp_model.specs.declared.accesses.Want.TheVariants as want
use Rattle.hp_model.specs.declared.labels.Label.{Label}
use Rattle.hp_model.specs.declared.labels.Label.TheVariants.{S2, E5}
use Rattle.hp_model.specs.declared.entries.Event.{Event}
use Rattle.hp_model.specs.declared.entries.Event.TheVariants.{Insert, Remove, Do, TakeSmi, TakeInit, Resume, Tell}
use Rattle.hp_model.specs.declared.entries.Entry.{Entry}
use Rattle.hp_model.specs.Platform.{tile, apic_of, is_late}
use Rattle.hp_model.specs.Cpu.{is_running, is_unlatched, is_in_smm, address_in, smm_address}
use Rattle.hp_model.specs.Boot.{value_in}
use Rattle.hp_model.specs.declared.labels.Handler.TheVariants.{Monarch as Monarchs}
use Rattle.hp_model.specs.Labels.{handler_of, index_of, same_label}
use Rattle.hp_model.specs.SharedBytes.{layout_of}
use Rattle.hp_model.specs.Monarch.{Monarch}
use Rattle.hp_model.specs.Handlers.{want_at, next_at, address_of_label}
use Rattle.hp_model.specs.State.{State, at}
use Rattle.hp_model.specs.Ports.{writes_block}
use Rattle.hp_model.specs.Access.{is_normal, is_halt, may_access}
use Rattle.hp_model.specs.Firmware.{seat}
use Rattle.hp_model.specs.Step.{After, is_enabled, is_after_broadcast, disturbs, is_disturbed_by, step}
use Rattle.hp_model.specs.Runs.{run_on, address_of}
use Rattle.hp_model.specs.Events.{access_in, is_access_of}
use Rattle.hp_model.specs.Transitions.{Transition, entries_of, since}
use Rattle.hp_model.specs.Account.{is_at}
use Rattle.hp_model.specs.Sessions.{bounds_session, session, was_at, is_called_in, is_outside, interferes, disturbed_in, is_disturbed}
use Rattle.hp_model.proofs.AtEach.{made as step_made}
use Rattle.hp_sealed.specs.Left.{Sound}
use Rattle.hp_sealed.proofs.Goes.{stepped}
use Rattle.hp_sealed.proofs.Runs.{made}
use Rattle.hp_safety.proofs.Invariant.{facts_of}
use Rattle.hp_safety.proofs.Backward.{since_it, since_other, session_on, session_none}
use Rattle.hp_safety.proofs.Marked.{same_index, at_monarch}
use Rattle.hp_safety.proofs.Accesses.{smm_stands}
use Rattle.hp_safety.proofs.Runs.{IsHanded}
use Rattle.hp_safety.proofs.MonarchSteps.{IsWanted, IsOthers, IsRow, MonarchStep, monarch_steps}
use Rattle.hp_safety.proofs.Held.{bounds_of, row_bounds}
use Rattle.hp_safety.proofs.Calling.{Call, Before, Called, Past, stage_of, row_calls, called_after}

-- by the stage of the monarch's label
abbrev pub CallAt : Bool → Bool → Bool → Bool → Call → Type 0
CallAt sent ended disturbed flag Before = (sent ≡ false) × (ended ≡ false) × (disturbed ≡ false)
CallAt sent ended disturbed flag Called = (sent ≡ true) × (ended ≡ false) × (flag ≡ disturbed)
CallAt sent ended disturbed flag Past = (sent && not ended) ≡ false

abbrev pub CallTied : Platform → List Transition → State → Type 0
CallTied p past s = CallAt (was_at p S2 (session (entries_of past))) (was_at p E5 (session (entries_of past))) (is_disturbed p (entries_of past)) s.disturbed (stage_of s.monarch.label)

-- one entry more
since_again : (es : List Entry) → since bounds_session (since bounds_session es) ≡ since bounds_session es
unfolding since
since_again [] = refl
since_again (e ∷ es) = by_test (bounds_session e) refl (since_again es)
  where
    by_test : (c : Bool) → bounds_session e ≡ c → since bounds_session (since bounds_session es) ≡ since bounds_session es → since bounds_session (since bounds_session (e ∷ es)) ≡ since bounds_session (e ∷ es)
    by_test true is more = rw (since_it bounds_session e es is) refl
    by_test false is more = rw (since_other bounds_session e es is, since_other bounds_session e (since bounds_session es) is, more) refl

pub was_more : (p : Platform) (m : Label) (es : List Entry) (e : Entry) → bounds_session e ≡ false → was_at p m (session (e ∷ es)) ≡ (is_at p m e || was_at p m (session es))
was_more p m es e bound = rw (session_on es e bound) refl

pub disturbed_on : (p : Platform) (es : List Entry) (e : Entry) → bounds_session e ≡ false → is_disturbed p (e ∷ es) ≡ (if interferes e then is_called_in p es || is_disturbed p es else is_disturbed p es)
unfolding disturbed_in
disturbed_on p es e bound = rw (session_on es e bound) (by_test (interferes e) refl)
  where
    by_test : (c : Bool) → interferes e ≡ c → disturbed_in p (e ∷ session es) ≡ (if c then is_called_in p es || is_disturbed p es else is_disturbed p es)
    by_test true is = rw (is, disturbed_in, since_again es) refl
    by_test false is = rw (is, disturbed_in) refl

disturbed_new : (p : Platform) (es : List Entry) (e : Entry) → bounds_session e ≡ true → is_disturbed p (e ∷ es) ≡ false
unfolding disturbed_in
disturbed_new p es e bound = rw (session_none es e bound) refl

was_new : (p : Platform) (m : Label) (es : List Entry) (e : Entry) → bounds_session e ≡ true → was_at p m (session (e ∷ es)) ≡ false
was_new p m es e bound = rw (session_none es e bound) refl

-- what a step makes of the flag
step_flag : (p : Platform) (s : State) (e : Event) (t : After) → step p s e ≡ Some t → t.state.disturbed ≡ is_disturbed_by s e
step_flag p s e t is = let g = stepped p s e t is in subst (λ (x : After). x.state.disturbed ≡ is_disturbed_by s e) g.is refl

-- who makes an access in SMM is there
in_smm_there : (late : Bool) (c : Cpu) (a : Access) → may_access late c a ≡ true → is_in_smm c.mode ≡ true → (x : ℕ) × (smm_address c ≡ Some x)
in_smm_there late c a may mode = by_parts c.present c.mode may mode
  where
    by_parts : (b : Bool) (m : Mode) → ((b && (is_running m && is_unlatched late c)) || ((b && is_in_smm m) && not (is_halt a))) ≡ true → is_in_smm m ≡ true → (x : ℕ) × (cond b (address_in m) None ≡ Some x)
    by_parts true Wait f g = absurd cc
    by_parts true (Running q) f g = absurd cc
    by_parts true (Halted q) f g = absurd cc
    by_parts true (Smm x) f g = (x, refl)
    by_parts false m f g = absurd cc

out_there : (c : Cpu) → is_in_smm c.mode ≡ false → smm_address c ≡ None
out_there c mode = by_parts c.present c.mode mode
  where
    by_parts : (b : Bool) (m : Mode) → is_in_smm m ≡ false → cond b (address_in m) None ≡ None
    by_parts true Wait g = refl
    by_parts true (Running q) g = refl
    by_parts true (Halted q) g = refl
    by_parts true (Smm x) g = absurd cc
    by_parts false m g = refl

never : (c x y : Bool) → y ≡ (if c && false then x else y)
never true x y = refl
never false x y = refl

-- a step that isn't the monarch's
flag_others : (p : Platform) (s : State) (e : Entry) (v : Event) → e.event ≡ v → address_of s v ≡ e.at → is_enabled p s v ≡ true → (is_access_of 0 v ≡ true → smm_address (at s 0) ≡ None)
    → is_disturbed_by s v ≡ (if is_outside e.at && unwrap_or (option_map writes_block (access_in v)) false then s.disturbed || is_after_broadcast s.monarch.label else s.disturbed)
flag_others p s e (Insert k) event place may out = never (is_outside e.at) (s.disturbed || is_after_broadcast s.monarch.label) s.disturbed
flag_others p s e (Remove k) event place may out = never (is_outside e.at) (s.disturbed || is_after_broadcast s.monarch.label) s.disturbed
flag_others p s e (Do k a) event place may out = by_mode (is_in_smm (at s k).mode) refl
  where
    by_zero : (x : ℕ) → smm_address (at s k) ≡ Some x → (c : Bool) → (k == 0) ≡ c → (not (c && same_label s.monarch.label S2) && s.disturbed) ≡ s.disturbed
    by_zero x there false z = refl
    by_zero x there true z = absurd (let none : smm_address (at s k) ≡ None = subst (λ i. smm_address (at s i) ≡ None) (sym (eqb-true k 0 z)) (out z) in let both = sym none ∙ there in cc)

    by_writes : (c d w : Bool) → (d || (w && c)) ≡ (if w then d || c else d)
    by_writes c d true = refl
    by_writes c true false = refl
    by_writes c false false = refl

    by_mode : (b : Bool) → is_in_smm (at s k).mode ≡ b → disturbs s k a ≡ (if is_outside e.at && writes_block a then s.disturbed || is_after_broadcast s.monarch.label else s.disturbed)
    by_mode true mode =
        let there = in_smm_there (is_late p.delivery) (at s k) a (and_parts (is_normal a) (may_access (is_late p.delivery) (at s k) a) may).1 mode in
        let at_some : e.at ≡ Some there.0 = sym place ∙ there.1 in
        rw (mode, at_some) (by_zero there.0 there.1 (k == 0) refl)
    by_mode false mode =
        let at_none : e.at ≡ None = sym place ∙ out_there (at s k) mode in
        rw (mode, at_none) (by_writes (is_after_broadcast s.monarch.label) s.disturbed (writes_block a))
flag_others p s e (TakeSmi k) event place may out = never (is_outside e.at) (s.disturbed || is_after_broadcast s.monarch.label) s.disturbed
flag_others p s e (TakeInit k) event place may out = never (is_outside e.at) (s.disturbed || is_after_broadcast s.monarch.label) s.disturbed
flag_others p s e (Resume k) event place may out = never (is_outside e.at) (s.disturbed || is_after_broadcast s.monarch.label) s.disturbed
flag_others p s e (Tell o) event place may out = never (is_outside e.at) (s.disturbed || is_after_broadcast s.monarch.label) s.disturbed

-- a row of the monarch's, of which S2 begins anew
mark_same : (l : Label) → handler_of l ≡ Monarchs → same_label l S2 ≡ (index_of l == 2)
mark_same l mine = rw mine (plain (index_of l))
  where
    plain : (i : ℕ) → (0x53000021 + i == 0x53000023) ≡ (i == 2)
    plain i = by_two (i == 2) refl
      where
        by_two : (c : Bool) → (i == 2) ≡ c → (0x53000021 + i == 0x53000023) ≡ c
        by_two true e = grind (arith, nat_tests)
        by_two false e = grind (arith, nat_tests)

smm_mode : (c : Cpu) (x : ℕ) → smm_address c ≡ Some x → is_in_smm c.mode ≡ true
smm_mode c x is = (and_parts c.present (is_in_smm c.mode) (smm_stands c x is)).1

flag_row : (s : State) (l : Label) (x : ℕ) (w : Option Want) (v : Event) → handler_of l ≡ Monarchs → s.monarch.label ≡ l → smm_address (at s 0) ≡ Some x → IsWanted w v → (index_of l == 2) ≡ false → is_disturbed_by s v ≡ s.disturbed
flag_row s l x None v mine here there is not = absurd is
flag_row s l x (Some (want.Do a)) v mine here there is not =
    ap (is_disturbed_by s) is ∙ rw (smm_mode (at s 0) x there, here, mark_same l mine, not) refl
flag_row s l x (Some (want.Tell o)) v mine here there is not = ap (is_disturbed_by s) is
flag_row s l x (Some want.Resume) v mine here there is not = absurd is

flag_new : (p : Platform) (s : State) (x : ℕ) (v : Event) → s.monarch.label ≡ S2 → smm_address (at s 0) ≡ Some x → IsWanted (want_at (layout_of p) (seat p s 0) s.monarch S2) v → is_disturbed_by s v ≡ false
flag_new p s x v here there is = ap (is_disturbed_by s) is ∙ rw (smm_mode (at s 0) x there, here) refl

wanted_at_first : (s : State) (w : Option Want) (v : Event) → IsWanted w v → address_of s v ≡ smm_address (at s 0)
wanted_at_first s None v is = absurd is
wanted_at_first s (Some (want.Do a)) v is = ap (address_of s) is
wanted_at_first s (Some (want.Tell o)) v is = ap (address_of s) is
wanted_at_first s (Some want.Resume) v is = absurd is

module _ (p : Platform) (past : List Transition) (s : State) (e : Entry) (place : address_of s e.event ≡ e.at) (may : is_enabled p s e.event ≡ true) (tied : CallTied p past s) where
  abbrev es : List Entry
  es = entries_of past

  -- after the step, whose record is n and whose flag is what it makes of it
  abbrev CallOf : Monarch → Type 0
  CallOf n = CallAt (was_at p S2 (session (e ∷ es))) (was_at p E5 (session (e ∷ es))) (is_disturbed p (e ∷ es)) (is_disturbed_by s e.event) (stage_of n.label)

  others_call : (n : Monarch) (o : IsOthers p s e n) → CallOf s.monarch
  others_call n o = by_stage (stage_of s.monarch.label) refl tied
    where
      sent : was_at p S2 (session (e ∷ es)) ≡ was_at p S2 (session es)
      sent = was_more p S2 es e o.bounds ∙ rw (o.elsewhere S2 refl) refl

      ended : was_at p E5 (session (e ∷ es)) ≡ was_at p E5 (session es)
      ended = was_more p E5 es e o.bounds ∙ rw (o.elsewhere E5 refl) refl

      flag : is_disturbed_by s e.event ≡ (if interferes e then s.disturbed || is_after_broadcast s.monarch.label else s.disturbed)
      flag = flag_others p s e e.event refl place may o.out

      more : (c d : Bool) → (if c then false || d else d) ≡ d
      more true d = refl
      more false d = refl

      after : (c : Bool) → s.disturbed ≡ is_disturbed p es → is_after_broadcast s.monarch.label ≡ true → (if c then s.disturbed || is_after_broadcast s.monarch.label else s.disturbed) ≡ (if c then true || is_disturbed p es else is_disturbed p es)
      after true f g = rw g (last s.disturbed)
        where
          last : (d : Bool) → (d || true) ≡ true
          last true = refl
          last false = refl
      after false f g = f

      by_stage : (x : Call) → stage_of s.monarch.label ≡ x → CallAt (was_at p S2 (session es)) (was_at p E5 (session es)) (is_disturbed p es) s.disturbed x → CallAt (was_at p S2 (session (e ∷ es))) (was_at p E5 (session (e ∷ es))) (is_disturbed p (e ∷ es)) (is_disturbed_by s e.event) x
      by_stage Before is h = (
        sent ∙ h.0,
        ended ∙ h.1,
        disturbed_on p es e o.bounds ∙ (ap (λ c. if interferes e then (c && not (was_at p E5 (session es))) || is_disturbed p es else is_disturbed p es) h.0 ∙ (more (interferes e) (is_disturbed p es) ∙ h.2)),
      )
      by_stage Called is h = (
        sent ∙ h.0,
        ended ∙ h.1,
        flag ∙ (after (interferes e) h.2 (called_after s.monarch.label is) ∙ sym (disturbed_on p es e o.bounds ∙ rw (h.0, h.1) refl)),
      )
      by_stage Past is h = rw (sent, ended) h

  row_call : (n : Monarch) (w : IsRow p s e n) → CallOf (next_at (layout_of p) (seat p s 0) s.monarch w.label (value_in e.answer)).monarch
  row_call n w =
      subst (CallAt (was_at p S2 (session (e ∷ es))) (was_at p E5 (session (e ∷ es))) (is_disturbed p (e ∷ es)) (is_disturbed_by s e.event))
      (sym (row_calls (layout_of p) (seat p s 0) s.monarch (value_in e.answer) (facts_of p s.monarch s.writes (apic_of p 0) (at s 0).base) w.label w.side (λ f. w.here) w.met))
      (by_two (index_of w.label == 2) refl)
    where
      bound : bounds_session e ≡ false
      bound = row_bounds p (seat p s 0) s.monarch s.writes (apic_of p 0) (at s 0).base e.event w.label w.met w.wanted

      at_s2 : is_at p S2 e ≡ (index_of w.label == 2)
      at_s2 = at_monarch p w.label S2 e (tile p 0) refl w.place refl

      at_e5 : is_at p E5 e ≡ (index_of w.label == 35)
      at_e5 = at_monarch p w.label E5 e (tile p 0) refl w.place refl

      still : is_disturbed p (e ∷ es) ≡ is_disturbed p es
      still = disturbed_on p es e bound ∙ rw w.place refl

      there : smm_address (at s 0) ≡ Some (address_of_label (tile p 0) w.label)
      there = sym (wanted_at_first s (want_at (layout_of p) (seat p s 0) s.monarch w.label) e.event w.wanted) ∙ (place ∙ w.place)

      tied_here : CallAt (was_at p S2 (session es)) (was_at p E5 (session es)) (is_disturbed p es) s.disturbed (stage_of w.label)
      tied_here = subst (λ l. CallAt (was_at p S2 (session es)) (was_at p E5 (session es)) (is_disturbed p es) s.disturbed (stage_of l)) w.here tied

      two_five : (i : ℕ) → (i == 2) ≡ true → (i == 35) ≡ false
      two_five i is = grind (arith, nat_tests)

      none_ended : (c : Bool) → (c && not true) ≡ false
      none_ended true = refl
      none_ended false = refl

      by_stage : (index_of w.label == 2) ≡ false → (index_of w.label == 35) ≡ false → (x : Call) → CallAt (was_at p S2 (session es)) (was_at p E5 (session es)) (is_disturbed p es) s.disturbed x → CallAt (was_at p S2 (session (e ∷ es))) (was_at p E5 (session (e ∷ es))) (is_disturbed p (e ∷ es)) (is_disturbed_by s e.event) x
      by_stage n2 n5 Before h = (was_more p S2 es e bound ∙ rw (at_s2, n2) h.0, was_more p E5 es e bound ∙ rw (at_e5, n5) h.1, still ∙ h.2)
      by_stage n2 n5 Called h = (was_more p S2 es e bound ∙ rw (at_s2, n2) h.0, was_more p E5 es e bound ∙ rw (at_e5, n5) h.1, flag_row s w.label (address_of_label (tile p 0) w.label) (want_at (layout_of p) (seat p s 0) s.monarch w.label) e.event w.side w.here there w.wanted n2 ∙ (h.2 ∙ sym still))
      by_stage n2 n5 Past h = rw (was_more p S2 es e bound, was_more p E5 es e bound, at_s2, at_e5, n2, n5) h

      by_five : (index_of w.label == 2) ≡ false → (c : Bool) → (index_of w.label == 35) ≡ c → CallAt (was_at p S2 (session (e ∷ es))) (was_at p E5 (session (e ∷ es))) (is_disturbed p (e ∷ es)) (is_disturbed_by s e.event) (if c then Past else stage_of w.label)
      by_five n2 true n5 = rw (was_more p E5 es e bound, at_e5, n5) (none_ended (was_at p S2 (session (e ∷ es))))
      by_five n2 false n5 = by_stage n2 n5 (stage_of w.label) tied_here

      by_two : (c : Bool) → (index_of w.label == 2) ≡ c → CallAt (was_at p S2 (session (e ∷ es))) (was_at p E5 (session (e ∷ es))) (is_disturbed p (e ∷ es)) (is_disturbed_by s e.event) (if c then Called else if index_of w.label == 35 then Past else stage_of w.label)
      by_two true n2 =
          let label = same_index w.label S2 w.side (eqb-true (index_of w.label) 2 n2) in
          let before = subst (λ l. CallAt (was_at p S2 (session es)) (was_at p E5 (session es)) (is_disturbed p es) s.disturbed (stage_of l)) label tied_here in (
            was_more p S2 es e bound ∙ rw (at_s2, n2) refl,
            was_more p E5 es e bound ∙ rw (at_e5, two_five (index_of w.label) n2) before.1,
            flag_new p s (address_of_label (tile p 0) w.label) e.event (w.here ∙ label) there (subst (λ l. IsWanted (want_at (layout_of p) (seat p s 0) s.monarch l) e.event) label w.wanted) ∙ sym (still ∙ before.2),
          )
      by_two false n2 = by_five n2 (index_of w.label == 35) refl

  call_step : (n : Monarch) → MonarchStep p s e n → CallOf n
  call_step n (inl o) = subst CallOf (sym o.same) (others_call n o)
  call_step n (inr (inl w)) = subst CallOf (sym w.next) (row_call n w)
  call_step n (inr (inr (inl b))) = subst CallOf (sym b.next) (was_new p S2 es e (ap bounds_of b.event), was_new p E5 es e (ap bounds_of b.event), disturbed_new p es e (ap bounds_of b.event))
  call_step n (inr (inr (inr o))) =
      subst CallOf (sym o.same) (subst (λ l. CallAt (was_at p S2 (session (e ∷ es))) (was_at p E5 (session (e ∷ es))) (is_disturbed p (e ∷ es)) (is_disturbed_by s e.event) (stage_of l)) (sym o.here) (rw (was_new p S2 es e (ap bounds_of o.event)) refl))

pub call_on : (p : Platform) (past : List Transition) (s t : State) (e : Entry) → Sound p → IsHanded p s → run_on p s e ≡ Some t → CallTied p past s → CallTied p (step_made s e t ∷ past) t
call_on p past s t e fit h on tied =
    let m = made p s e t on in
    let flag = step_flag p s e.event m.after m.step in
    let enabled = (stepped p s e.event m.after m.step).enabled in
    subst (λ (u : State). CallAt (was_at p S2 (session (e ∷ entries_of past))) (was_at p E5 (session (e ∷ entries_of past))) (is_disturbed p (e ∷ entries_of past)) u.disturbed (stage_of u.monarch.label)) m.state
    (subst (λ d. CallAt (was_at p S2 (session (e ∷ entries_of past))) (was_at p E5 (session (e ∷ entries_of past))) (is_disturbed p (e ∷ entries_of past)) d (stage_of m.after.state.monarch.label)) (sym flag)
    (call_step p past s e m.place enabled tied m.after.state.monarch (monarch_steps p s.writes s e m.after fit h m.step m.place m.answer)))
