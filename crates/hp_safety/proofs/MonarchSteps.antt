-- What a step after the hand-over makes of the monarch's record: nothing, where its row leads, a new session, or its end.
use Rattle.std.proofs.Common.{ℕ, ◌≡◌, ◌≢◌, ◌==◌, ◌⊎◌, inl, inr, Bool, true, false, cond, not, ◌&&◌, ◌||◌, List, Option, Some, None, refl, sym, ap, subst, ◌∙◌}
use Rattle.std.proofs.lemmas.Bool.{and_parts, eqb-true}
use Rattle.hp_model.specs.declared.platforms.Platform.{Platform}
use Rattle.hp_model.specs.declared.accesses.Access.{Access}
use Rattle.hp_model.specs.declared.accesses.Answer.TheVariants.{Quiet}
use Rattle.hp_model.specs.declared.accesses.Want.{Want}
use Rattle.hp_model.specs.declared.accesses.Want.TheVariants as want
use Rattle.hp_model.specs.declared.outcomes.Outcome.{Outcome}
use Rattle.hp_model.specs.declared.labels.Label.{Label}
use Rattle.hp_model.specs.declared.labels.Label.TheVariants.{E7}
use Rattle.hp_model.specs.declared.entries.Event.{Event}
use Rattle.hp_model.specs.declared.entries.Event.TheVariants.{Insert, Remove, Do, TakeSmi, TakeInit, Resume, Tell}
use Rattle.hp_model.specs.declared.entries.Entry.{Entry}
use Rattle.hp_model.specs.Platform.{tile, apic_of}
use Rattle.hp_model.specs.Memory.{Write}
use Rattle.hp_model.specs.Cpu.{is_in_smm, smm_address, may_take_smi}
use Rattle.hp_model.specs.Boot.{Stage, Boots, Refused, Handed, is_handed, value_in}
use Rattle.hp_model.specs.declared.labels.Handler.{Handler}
use Rattle.hp_model.specs.declared.labels.Handler.TheVariants.{First, Relocated, Monarch as Monarchs}
use Rattle.hp_model.specs.Labels.{handler_of}
use Rattle.hp_model.specs.SharedBytes.{layout_of}
use Rattle.hp_model.specs.Monarch.{Monarch, restarted}
use Rattle.hp_model.specs.Handlers.{Seat, want_at, wanted_at, next_at, runs_at, address_of_label}
use Rattle.hp_model.specs.State.{State, at}
use Rattle.hp_model.specs.Access.{access_effect, answer_to}
use Rattle.hp_model.specs.Firmware.{label_at, seat, is_that_access, is_that_outcome, is_rsm, is_handlers, wanted_in, row_effect, handlers_effect, firmware_effect, with_session}
use Rattle.hp_model.specs.Step.{After, answer_of, is_enabled, effect_of, enter_smm, step}
use Rattle.hp_model.specs.Runs.{address_of}
use Rattle.hp_model.specs.Events.{outcome_in, is_access_of, is_entry_of, is_resume_of}
use Rattle.hp_model.specs.Account.{is_at}
use Rattle.hp_model.specs.Sessions.{bounds_session}
use Rattle.hp_sealed.specs.Left.{Sound}
use Rattle.hp_sealed.proofs.Left.{pick_by}
use Rattle.hp_sealed.proofs.Outside.{acts}
use Rattle.hp_model.proofs.Same.{same_access-equal, same_outcome-equal}
use Rattle.hp_sealed.proofs.Goes.{stepped}
use Rattle.hp_safety.proofs.Needs.{Nothing, need_of}
use Rattle.hp_safety.proofs.EachRow.{row_of_each}
use Rattle.hp_safety.proofs.Invariant.{facts_of, Met, Invariant}
use Rattle.hp_safety.proofs.Keeps.{AtRow, row_stands, row_first, current_label_is}
use Rattle.hp_safety.proofs.RowLeads.{LeadsOn}
use Rattle.hp_safety.proofs.Accesses.{is_monarchs, row_next}
use Rattle.hp_safety.proofs.Entering.{may_outside}
use Rattle.hp_safety.proofs.Accounting.{outside_none, init_outside}
use Rattle.hp_safety.proofs.Marked.{at_none, at_other}

-- at none of the monarch's labels
abbrev pub IsElsewhere : Platform → Entry → Type 0
IsElsewhere p e = (m : Label) → handler_of m ≡ Monarchs → is_at p m e ≡ false

-- the event is what a row wants of processor 0, but for RSM
abbrev pub IsWanted : Option Want → Event → Type 0
IsWanted None v = ⊥
IsWanted (Some (want.Do a)) v = v ≡ Do 0 a
IsWanted (Some (want.Tell o)) v = v ≡ Tell o
IsWanted (Some want.Resume) v = ⊥

-- a step that isn't the monarch's, or one of processor 0 outside SMM
pub record IsOthers (p : Platform) (s : State) (e : Entry) (r : Monarch) : Type 0 where
  pub elsewhere : IsElsewhere p e
  pub bounds : bounds_session e ≡ false
  pub told : outcome_in e.event ≡ None
  pub out : is_access_of 0 e.event ≡ true → smm_address (at s 0) ≡ None
  pub same : r ≡ s.monarch

-- a row of the monarch's
pub record IsRow (p : Platform) (s : State) (e : Entry) (r : Monarch) : Type 0 where
  pub label : Label
  pub side : handler_of label ≡ Monarchs
  pub here : s.monarch.label ≡ label
  pub place : e.at ≡ Some (address_of_label (tile p 0) label)
  pub wanted : IsWanted (want_at (layout_of p) (seat p s 0) s.monarch label) e.event
  pub met : Met p s.monarch s.writes (apic_of p 0) (at s 0).base label
  pub next : r ≡ (next_at (layout_of p) (seat p s 0) s.monarch label (value_in e.answer)).monarch

-- SMI entry of processor 0, and its RSM
pub record IsBeginning (p : Platform) (s : State) (e : Entry) (r : Monarch) : Type 0 where
  pub event : e.event ≡ TakeSmi 0
  pub elsewhere : IsElsewhere p e
  pub rests : need_of s.monarch.label ≡ Nothing
  pub next : r ≡ restarted s.monarch

pub record IsEnd (p : Platform) (s : State) (e : Entry) (r : Monarch) : Type 0 where
  pub event : e.event ≡ Resume 0
  pub here : s.monarch.label ≡ E7
  pub place : e.at ≡ Some (address_of_label (tile p 0) E7)
  pub same : r ≡ s.monarch

abbrev pub MonarchStep : Platform → State → Entry → Monarch → Type 0
MonarchStep p s e r = IsOthers p s e r ⊎ (IsRow p s e r ⊎ (IsBeginning p s e r ⊎ IsEnd p s e r))

abbrev bounds : Event → Bool
bounds v = is_entry_of 0 v || is_resume_of 0 v

others_outside : (p : Platform) (s : State) (e : Entry) (r : Monarch) → e.at ≡ None → bounds_session e ≡ false → outcome_in e.event ≡ None → (is_access_of 0 e.event ≡ true → smm_address (at s 0) ≡ None) → r ≡ s.monarch → MonarchStep p s e r
others_outside p s e r place bound told out same = inl (record { elsewhere = λ m mine. at_none p m e place; bounds = bound; told = told; out = out; same = same })

-- at E7 alone the monarch returns
seven : (p : Platform) (q : Seat) (r : Monarch) (ws : List Write) (l : Label) → Met p r ws q.apic q.base l → handler_of l ≡ Monarchs → is_rsm (want_at (layout_of p) q r l) ≡ true → l ≡ E7
seven p q r ws l met mine is = row_of_each (λ l. handler_of l ≡ Monarchs → is_rsm (want_at (layout_of p) q r l) ≡ true → l ≡ E7) (record { f1 = λ e f. absurd cc; f2 = λ e f. absurd cc; f3 = λ e f. absurd cc; f4 = λ e f. absurd cc; f5 = λ e f. absurd cc; f6 = λ e f. absurd cc; r1 = λ e f. absurd cc; r2 = λ e f. absurd cc; r3 = λ e f. absurd cc; r4 = λ e f. absurd cc; r5 = λ e f. absurd cc; r6 = λ e f. absurd cc; s0 = λ e f. absurd cc; s1 = λ e f. absurd cc; s2 = λ e f. absurd cc; s3 = λ e f. absurd cc; s4 = λ e f. absurd cc; c1 = λ e f. absurd cc; c2 = λ e f. absurd cc; c3 = λ e f. absurd cc; c4 = λ e f. absurd cc; c5 = λ e f. absurd cc; c6 = λ e f. absurd cc; nb = λ e f. absurd cc; n0 = λ e f. absurd cc; n1 = λ e f. absurd cc; n2 = λ e f. absurd cc; n3 = λ e f. absurd cc; n4 = λ e f. absurd cc; n5 = λ e f. absurd cc; n6 = λ e f. absurd cc; n7 = λ e f. absurd cc; n8a = λ e f. absurd cc; n8b = λ e f. absurd cc; n9 = λ e f. absurd cc; n10 = λ e f. absurd cc; n11 = λ e f. absurd cc; e0 = λ e f. absurd cc; e1 = λ e f. absurd cc; e2 = λ e f. absurd cc; e3 = λ e f. absurd cc; e4a = λ e f. absurd cc; e4b = λ e f. absurd cc; e4c = λ e f. absurd cc; e4d = λ e f. absurd cc; e4e = λ e f. absurd cc; e4f = λ e f. absurd cc; e4g = λ e f. absurd cc; e4h = λ e f. absurd cc; t = λ e f. absurd cc; e5 = λ e f. absurd cc; e6 = λ e f. absurd cc; e7 = λ e f. refl }) (facts_of p r ws q.apic q.base) l met mine is

module _ (p : Platform) (m : List Write) (s : State) (k : ℕ) (l : Label) (sound : Sound p) (h : Invariant p m s) (here : AtRow p s k l) (e : Entry) (place : smm_address (at s k) ≡ e.at) where
  stands : e.at ≡ Some (address_of_label (at s k).smbase l)
  stands = sym place ∙ (here.is ∙ ap Some here.cell.here)

  away : handler_of l ≢ Monarchs → IsElsewhere p e
  away other = λ m mine. at_other p l m e k (at s k).smbase sound here.cell.runs other stands mine

  at_tile : handler_of l ≡ Monarchs → e.at ≡ Some (address_of_label (tile p 0) l)
  at_tile mine = stands ∙ ap (λ b. Some (address_of_label b l)) (eqb-true (at s k).smbase (tile p 0) (and_parts (k == 0) ((at s k).smbase == tile p 0) (subst (λ q. runs_at (layout_of p) q k (at s k).smbase ≡ true) mine here.cell.runs)).1)

  -- of processor 0
  row_of : (v : ℕ) (r : Monarch) → handler_of l ≡ Monarchs → IsWanted (want_at (layout_of p) (seat p s k) s.monarch l) e.event → value_in e.answer ≡ v → r ≡ (next_at (layout_of p) (seat p s k) s.monarch l v).monarch → MonarchStep p s e r
  row_of v r mine wanted answer next =
      let z = row_first p s k l here mine in
      inr (inl (record {
        label = l;
        side = mine;
        here = current_label_is s.monarch l here.cell.current mine;
        place = at_tile mine;
        wanted = subst (λ i. IsWanted (want_at (layout_of p) (seat p s i) s.monarch l) e.event) z wanted;
        met = subst (λ i. Met p s.monarch s.writes (apic_of p i) (at s i).base l) z here.cell.met;
        next = next ∙ (ap (λ x. (next_at (layout_of p) (seat p s k) s.monarch l x).monarch) (sym answer) ∙ ap (λ i. (next_at (layout_of p) (seat p s i) s.monarch l (value_in e.answer)).monarch) z);
      }))

  not_zero : (q : Handler) → q ≢ Monarchs → runs_at (layout_of p) q k (at s k).smbase ≡ true → k ≡ 0 → ⊥
  not_zero First n runs z = absurd (let f : (not (0 == 0) && ((at s k).smbase == 0x30000)) ≡ true = subst (λ i. (not (i == 0) && ((at s k).smbase == 0x30000)) ≡ true) z runs in cc)
  not_zero Relocated n runs z = absurd (let f : runs_at (layout_of p) Relocated 0 (at s k).smbase ≡ true = subst (λ i. runs_at (layout_of p) Relocated i (at s k).smbase ≡ true) z runs in cc)
  not_zero Monarchs n runs z = absurd (n refl)

  steps_made : (a : Access) (w : Option Want) → e.event ≡ Do k a → e.answer ≡ answer_to true a s → want_at (layout_of p) (seat p s k) s.monarch l ≡ w → LeadsOn p k s (seat p s k) s.monarch l w → is_that_access w a ≡ true → MonarchStep p s e (row_effect p s k (answer_to true a s) (Some l) (access_effect p k true a s)).monarch
  steps_made a None event answer is leads f = absurd cc
  steps_made a (Some (want.Do b)) event answer is leads f =
      let same = same_access-equal a b f in
      elim (is_monarchs (handler_of l)) [
        | inl mine ↦
            let z = row_first p s k l here mine in
            row_of (value_in (answer_to true a s)) (next_at (layout_of p) (seat p s k) s.monarch l (value_in (answer_to true a s))).monarch mine
            (subst (λ w. IsWanted w e.event) (sym is) (event ∙ rw (z, same) refl)) (ap value_in answer) refl
        | inr other ↦ inl (record {
          elsewhere = away other;
          bounds = ap bounds event;
          told = ap outcome_in event;
          out = λ f. absurd (not_zero (handler_of l) other here.cell.runs (eqb-true k 0 (sym (ap (is_access_of 0) event) ∙ f)));
          same = subst (λ c. (next_at (layout_of p) (seat p s k) s.monarch l (value_in (answer_to true c s))).monarch ≡ s.monarch) (sym same) (leads.others other);
        })
      ]
  steps_made a (Some (want.Tell o)) event answer is leads f = absurd cc
  steps_made a (Some want.Resume) event answer is leads f = absurd cc

  steps_told : (o : Outcome) (w : Option Want) → k ≡ 0 → e.event ≡ Tell o → e.answer ≡ Quiet → want_at (layout_of p) (seat p s k) s.monarch l ≡ w → is_that_outcome w o ≡ true → MonarchStep p s e (row_effect p s k Quiet (Some l) s).monarch
  steps_told o None z event answer is f = absurd cc
  steps_told o (Some (want.Do a)) z event answer is f = absurd cc
  steps_told o (Some (want.Tell t)) z event answer is f =
      row_of 0 (next_at (layout_of p) (seat p s k) s.monarch l 0).monarch (first_runs (handler_of l) here.cell.runs) (subst (λ w. IsWanted w e.event) (sym is) (event ∙ ap Tell (same_outcome-equal o t f))) (ap value_in answer) refl
    where
      first_runs : (q : Handler) → runs_at (layout_of p) q k (at s k).smbase ≡ true → q ≡ Monarchs
      first_runs First runs = absurd (let f : (not (0 == 0) && ((at s k).smbase == 0x30000)) ≡ true = subst (λ i. (not (i == 0) && ((at s k).smbase == 0x30000)) ≡ true) z runs in cc)
      first_runs Relocated runs = absurd (let f : runs_at (layout_of p) Relocated 0 (at s k).smbase ≡ true = subst (λ i. runs_at (layout_of p) Relocated i (at s k).smbase ≡ true) z runs in cc)
      first_runs Monarchs runs = refl
  steps_told o (Some want.Resume) z event answer is f = absurd cc

  steps_rsm : e.event ≡ Resume k → is_rsm (want_at (layout_of p) (seat p s k) s.monarch l) ≡ true → MonarchStep p s e s.monarch
  steps_rsm event wanted = elim (is_monarchs (handler_of l)) [
    | inl mine ↦
        let z = row_first p s k l here mine in
        let is = seven p (seat p s k) s.monarch s.writes l here.cell.met mine wanted in
        inr (inr (inr (record { event = event ∙ ap Resume z; here = current_label_is s.monarch l here.cell.current mine ∙ is; place = at_tile mine ∙ ap (λ x. Some (address_of_label (tile p 0) x)) is; same = refl })))
    | inr other ↦ inl (record { elsewhere = away other; bounds = ap bounds event ∙ not_first (handler_of l) other here.cell.runs; told = ap outcome_in event; out = λ f. absurd (let both = sym (ap (is_access_of 0) event) ∙ f in cc); same = refl })
  ]
    where
      off : (c : Bool) → not c ≡ true → c ≡ false
      off true f = absurd cc
      off false f = refl

      not_first : (q : Handler) → q ≢ Monarchs → runs_at (layout_of p) q k (at s k).smbase ≡ true → (k == 0) ≡ false
      not_first First n runs = off (k == 0) (and_parts (not (k == 0)) ((at s k).smbase == 0x30000) runs).0
      not_first Relocated n runs = off (k == 0) (and_parts (not (k == 0)) _ runs).0
      not_first Monarchs n runs = absurd (n refl)

steps_smi : (p : Platform) (m : List Write) (s : State) (k : ℕ) (e : Entry) → Invariant p m s → may_take_smi (at s k) ≡ true → e.event ≡ TakeSmi k → e.at ≡ None → MonarchStep p s e (with_session k (enter_smm k s)).monarch
steps_smi p m s k e h may event place =
    pick_by (λ (t : State). MonarchStep p s e t.monarch) (k == 0) (record (enter_smm k s) { monarch = restarted s.monarch }) (enter_smm k s)
    (λ z. inr (inr (inl (record {
      event = event ∙ ap TakeSmi (eqb-true k 0 z);
      elsewhere = λ m mine. at_none p m e place;
      rests = h.rests (subst (λ i. smm_address (at s i) ≡ None) (eqb-true k 0 z) (may_outside (at s k) may));
      next = refl;
    }))))
    (λ z. others_outside p s e s.monarch place (ap bounds event ∙ neither (k == 0) z) (ap outcome_in event) (λ f. absurd (let both = sym (ap (is_access_of 0) event) ∙ f in cc)) refl)
  where
    neither : (c : Bool) → c ≡ false → (c || false) ≡ false
    neither true f = absurd cc
    neither false f = refl

steps_event : (p : Platform) (m : List Write) (s : State) (e : Entry) (v : Event) → Sound p → Invariant p m s → e.event ≡ v → address_of s v ≡ e.at → e.answer ≡ answer_of s v → is_enabled p s v ≡ true → is_handlers p s v ≡ true → MonarchStep p s e (handlers_effect p s v (effect_of p s v)).monarch
steps_event p m s e (Insert k) sound h event place answer may wanted = others_outside p s e s.monarch (sym place) (ap bounds event) (ap outcome_in event) (λ f. absurd (let both = sym (ap (is_access_of 0) event) ∙ f in cc)) refl
steps_event p m s e (Remove k) sound h event place answer may wanted = others_outside p s e s.monarch (sym place) (ap bounds event) (ap outcome_in event) (λ f. absurd (let both = sym (ap (is_access_of 0) event) ∙ f in cc)) refl
steps_event p m s e (Do k a) sound h event place answer may wanted = by_mode (is_in_smm (at s k).mode) refl wanted answer
  where
    by_mode : (b : Bool) → is_in_smm (at s k).mode ≡ b → (not b || is_that_access (wanted_at (layout_of p) s.monarch (seat p s k) (label_at p s k)) a) ≡ true → e.answer ≡ answer_to b a s → MonarchStep p s e (cond b (row_effect p s k (answer_to b a s) (label_at p s k) (access_effect p k b a s)) (access_effect p k b a s)).monarch
    by_mode true mode f g = by_row (label_at p s k) refl f
      where
        by_row : (o : Option Label) → label_at p s k ≡ o → is_that_access (wanted_at (layout_of p) s.monarch (seat p s k) o) a ≡ true → MonarchStep p s e (row_effect p s k (answer_to true a s) o (access_effect p k true a s)).monarch
        by_row None is f = absurd cc
        by_row (Some l) is f =
            let here = row_stands p m s k l sound h is in
            steps_made p m s k l sound h here e place a (want_at (layout_of p) (seat p s k) s.monarch l) event g refl (row_next p m s k l sound h here) f
    by_mode false mode f g = others_outside p s e _ (sym place ∙ outside_none (at s k) mode) (ap bounds event) (ap outcome_in event) (λ f. subst (λ i. smm_address (at s i) ≡ None) (eqb-true k 0 (sym (ap (is_access_of 0) event) ∙ f)) (outside_none (at s k) mode)) (acts p k false a s).monarch
steps_event p m s e (TakeSmi k) sound h event place answer may wanted = steps_smi p m s k e h may event (sym place ∙ may_outside (at s k) may)
steps_event p m s e (TakeInit k) sound h event place answer may wanted = others_outside p s e s.monarch (sym place ∙ init_outside (at s k) may) (ap bounds event) (ap outcome_in event) (λ f. absurd (let both = sym (ap (is_access_of 0) event) ∙ f in cc)) refl
steps_event p m s e (Resume k) sound h event place answer may wanted = by_row (label_at p s k) refl wanted
  where
    by_row : (o : Option Label) → label_at p s k ≡ o → is_rsm (wanted_at (layout_of p) s.monarch (seat p s k) o) ≡ true → MonarchStep p s e s.monarch
    by_row None is f = absurd cc
    by_row (Some l) is f = steps_rsm p m s k l sound h (row_stands p m s k l sound h is) e place event f
steps_event p m s e (Tell o) sound h event place answer may wanted = by_row (label_at p s 0) refl wanted
  where
    by_row : (t : Option Label) → label_at p s 0 ≡ t → is_that_outcome (wanted_at (layout_of p) s.monarch (seat p s 0) t) o ≡ true → MonarchStep p s e (row_effect p s 0 Quiet t s).monarch
    by_row None is f = absurd cc
    by_row (Some l) is f = steps_told p m s 0 l sound h (row_stands p m s 0 l sound h is) e place o (want_at (layout_of p) (seat p s 0) s.monarch l) refl event answer refl f

steps_led : (p : Platform) (m : List Write) (s : State) (e : Entry) (g : Stage) → Sound p → Invariant p m s → is_handed g ≡ true → address_of s e.event ≡ e.at → e.answer ≡ answer_of s e.event → is_enabled p s e.event ≡ true → wanted_in p s g e.event ≡ true → MonarchStep p s e (firmware_effect p s g e.event (effect_of p s e.event)).monarch
steps_led p m s e (Boots done supported) sound h handed place answer may wanted = absurd cc
steps_led p m s e (Refused fact) sound h handed place answer may wanted = absurd cc
steps_led p m s e (Handed requested) sound h handed place answer may wanted = steps_event p m s e e.event sound h refl place answer may wanted

pub monarch_steps : (p : Platform) (m : List Write) (s : State) (e : Entry) (t : After) → Sound p → Invariant p m s → step p s e.event ≡ Some t → address_of s e.event ≡ e.at → t.answer ≡ e.answer → MonarchStep p s e t.state.monarch
monarch_steps p m s e t sound h is place answer =
    let g = stepped p s e.event t is in
    subst (λ (x : After). MonarchStep p s e x.state.monarch) g.is
    (steps_led p m s e s.stage sound h h.handed place (sym answer ∙ sym (ap (λ (x : After). x.answer) g.is)) g.enabled g.wanted)
