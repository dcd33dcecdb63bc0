-- The kinds of steps after the hand-over: what each is of, and the state that it leads to.
use Rattle.std.proofs.Common.{ℕ, ◌≡◌, ◌≢◌, ◌<◌, ◌==◌, ◌⊎◌, inl, inr, arith, Bool, true, false, cond, not, ◌&&◌, ◌||◌, nat_lt, Option, Some, None, refl, sym, ap, subst, ◌∙◌, List}
use Rattle.std.proofs.lemmas.Bool.{and_parts, eqb-true, ltb-true}
use Rattle.std.proofs.lemmas.Bool.Decides.{nat_tests}
use Rattle.hp_model.specs.declared.platforms.Platform.{Platform}
use Rattle.hp_model.specs.declared.accesses.Access.{Access}
use Rattle.hp_model.specs.declared.accesses.Answer.TheVariants.{Quiet}
use Rattle.hp_model.specs.declared.accesses.Want.{Want}
use Rattle.hp_model.specs.declared.accesses.Want.TheVariants as want
use Rattle.hp_model.specs.declared.outcomes.Outcome.{Outcome}
use Rattle.hp_model.specs.declared.labels.Label.{Label}
use Rattle.hp_model.specs.declared.labels.Label.TheVariants.{F6, R5, S2, T, E7}
use Rattle.hp_model.specs.declared.entries.Event.{Event}
use Rattle.hp_model.specs.declared.entries.Event.TheVariants.{Insert, Remove, Do, TakeSmi, TakeInit, Resume, Tell}
use Rattle.hp_model.specs.declared.entries.Entry.{Entry}
use Rattle.hp_model.specs.Platform.{count_of, tile, is_late}
use Rattle.hp_model.specs.Cpu.{is_free, is_in_smm, smm_address, may_take_smi, may_take_init, take_init}
use Rattle.hp_model.specs.Boot.{Stage, Boots, Refused, Handed, is_handed, stage_after, value_in}
use Rattle.hp_model.specs.SharedBytes.{Layout, layout_of}
use Rattle.hp_model.specs.declared.labels.Handler.{Handler}
use Rattle.hp_model.specs.declared.labels.Handler.TheVariants.{First, Relocated, Monarch as Monarchs}
use Rattle.hp_model.specs.Labels.{handler_of, mark_of, same_label}
use Rattle.hp_model.specs.Monarch.{Monarch}
use Rattle.hp_model.specs.Handlers.{Seat, want_at, next_at, wanted_at, runs_at, is_current, address_of_label}
use Rattle.hp_model.specs.State.{State, at, set_cpu}
use Rattle.hp_model.specs.Ports.{writes_block}
use Rattle.hp_model.specs.Access.{is_normal, is_halt, may_access, access_effect, answer_to}
use Rattle.hp_model.specs.Firmware.{seat, label_at, is_that_access, is_that_outcome, is_rsm, is_handlers, wanted_in, with_next, row_effect, with_session, handlers_effect, firmware_effect, same_outcome}
use Rattle.hp_model.specs.Step.{After, is_enabled, insert, request_removal, enter_smm, leave_smm, answer_of, effect_of, is_after_broadcast, is_disturbed_by, after}
use Rattle.hp_model.specs.Runs.{address_of, run_on}
use Rattle.hp_sealed.specs.Sealed.{is_other_tile}
use Rattle.hp_model.proofs.Marks.{same_label as one_label}
use Rattle.hp_sealed.proofs.Runs.{made}
use Rattle.hp_sealed.proofs.Goes.{stepped}
use Rattle.hp_model.proofs.Same.{same_access-equal}
use Rattle.hp_exact.proofs.Stood.{IsStood, AtRow, row_stands}
use Rattle.hp_model.specs.Outcomes.{Telling, when_told, telling}
use Rattle.hp_model.specs.Events.{outcome_in}
use Rattle.hp_model.specs.Transitions.{Transition}

-- a step's entry
abbrev pub entry_by : State → Event → Entry
entry_by s e = record { event = e; answer = answer_of s e; at = address_of s e }

-- the state that a step ends in
abbrev pub ends : State → Stage → Bool → State
ends t g d = record t { stage = g; disturbed = d }

-- a processor in SMM goes on from a label after this access
abbrev pub led_on : Platform → State → ℕ → Label → ℕ → State → State
led_on p s k l v t = with_next k (at s k).smbase (next_at (layout_of p) (seat p s k) s.monarch l v) t

-- processor 0 stands at a label, and the monarch's record with it
pub record AtMonarch (p : Platform) (s : State) (l : Label) : Type 0 where
  pub part : handler_of l ≡ Monarchs
  pub label : s.monarch.label ≡ l
  pub smbase : (at s 0).smbase ≡ tile p 0
  pub place : smm_address (at s 0) ≡ Some (address_of_label (tile p 0) l)

-- another processor stands at a label of the first or of the relocated handler
pub record AtOther (p : Platform) (s : State) (k : ℕ) (l : Label) : Type 0 where
  pub other : k ≢ 0
  pub part : handler_of l ≢ Monarchs
  pub runs : runs_at (layout_of p) (handler_of l) k (at s k).smbase ≡ true
  pub place : smm_address (at s k) ≡ Some (address_of_label (at s k).smbase l)

sides : (p : Platform) (s : State) (k : ℕ) (l : Label) → AtRow p s k l → ((k ≡ 0) × AtMonarch p s l) ⊎ AtOther p s k l
sides p s k l h = by_handler (handler_of l) refl h.cell.runs h.cell.current
  where
    place : smm_address (at s k) ≡ Some (address_of_label (at s k).smbase l)
    place = h.is ∙ ap Some h.cell.here

    not_0 : (b : Bool) → (k == 0) ≡ b → not b ≡ true → k ≢ 0
    not_0 true is e f = cc
    not_0 false is e f = let z : (k == 0) ≡ true = rw f refl in let both : true ≡ false = sym z ∙ is in cc

    by_handler : (q : Handler) → handler_of l ≡ q → runs_at (layout_of p) q k (at s k).smbase ≡ true → is_current s.monarch q l ≡ true → ((k ≡ 0) × AtMonarch p s l) ⊎ AtOther p s k l
    by_handler First is runs due = inr (record { other = not_0 (k == 0) refl (and_parts (not (k == 0)) ((at s k).smbase == 0x30000) runs).0; part = λ e. let both : First ≡ Monarchs = sym is ∙ e in cc; runs = h.cell.runs; place = place })
    by_handler Relocated is runs due = inr (record { other = not_0 (k == 0) refl (and_parts (not (k == 0)) (is_other_tile (layout_of p) (at s k).smbase) runs).0; part = λ e. let both : Relocated ≡ Monarchs = sym is ∙ e in cc; runs = h.cell.runs; place = place })
    by_handler Monarchs is runs due =
        let both = and_parts (k == 0) ((at s k).smbase == tile p 0) runs in
        let zero : k ≡ 0 = eqb-true k 0 both.0 in
        let base : (at s 0).smbase ≡ tile p 0 = subst (λ i. (at s i).smbase ≡ tile p 0) zero (eqb-true (at s k).smbase (tile p 0) both.1) in
        inl (
          zero,
          record {
            part = is;
            label = sym (one_label l s.monarch.label (eqb-true (mark_of l) (mark_of s.monarch.label) due));
            smbase = base;
            place = subst (λ i. smm_address (at s i) ≡ Some (address_of_label (at s i).smbase l)) zero place ∙ ap (λ b. Some (address_of_label b l)) base;
          },
        )

-- the rows of RSM, and the one that tells
row_resumes : (y : Layout) (x : Seat) (r : Monarch) (l : Label) → want_at y x r l ≡ Some want.Resume → (l ≡ F6) ⊎ ((l ≡ R5) ⊎ (l ≡ E7))
row_resumes y x r F6 e = inl refl
row_resumes y x r R5 e = inr (inl refl)
row_resumes y x r E7 e = inr (inr refl)
row_resumes y x r _ e = absurd cc

row_tells : (y : Layout) (x : Seat) (r : Monarch) (l : Label) (o : Outcome) → want_at y x r l ≡ Some (want.Tell o) → (l ≡ T) × (o ≡ r.outcome)
row_tells y x r T o e = (refl, let f : r.outcome ≡ o = cc in sym f)
row_tells y x r _ o e = absurd cc

-- P of each step, by its kind
pub record Kinds (p : Platform) (s : State) (P : Entry → State → Type 0) : Type 0 where
  pub inserts : (k : ℕ) (g : Stage) → k < count_of p → (at s k).present ≡ false → P (entry_by s (Insert k)) (ends (insert k s) g s.disturbed)
  pub removes : (k : ℕ) (g : Stage) → P (entry_by s (Remove k)) (ends (request_removal k s) g s.disturbed)
  pub outside : (k : ℕ) (a : Access) (g : Stage) → is_free (is_late p.delivery) (at s k) ≡ true → is_in_smm (at s k).mode ≡ false
      → P (record { event = Do k a; answer = answer_to false a s; at = smm_address (at s k) })
      (ends (access_effect p k false a s) g (s.disturbed || (writes_block a && is_after_broadcast s.monarch.label)))
  pub monarchs : (l : Label) (a : Access) (g : Stage) → AtMonarch p s l → want_at (layout_of p) (seat p s 0) s.monarch l ≡ Some (want.Do a)
      → P (record { event = Do 0 a; answer = answer_to true a s; at = smm_address (at s 0) })
      (ends (led_on p s 0 l (value_in (answer_to true a s)) (access_effect p 0 true a s)) g (not (same_label l S2) && s.disturbed))
  pub others : (k : ℕ) (l : Label) (a : Access) (g : Stage) → AtOther p s k l → want_at (layout_of p) (seat p s k) s.monarch l ≡ Some (want.Do a)
      → P (record { event = Do k a; answer = answer_to true a s; at = smm_address (at s k) })
      (ends (led_on p s k l (value_in (answer_to true a s)) (access_effect p k true a s)) g s.disturbed)
  pub enters : (k : ℕ) (g : Stage) → may_take_smi (at s k) ≡ true → P (entry_by s (TakeSmi k)) (ends (with_session k (enter_smm k s)) g s.disturbed)
  pub inits : (k : ℕ) (g : Stage) → may_take_init (at s k) ≡ true → P (entry_by s (TakeInit k)) (ends (set_cpu k (take_init (at s k)) s) g s.disturbed)
  pub rests : (g : Stage) → AtMonarch p s E7 → P (entry_by s (Resume 0)) (ends (leave_smm 0 s) g s.disturbed)
  pub returns : (k : ℕ) (l : Label) (g : Stage) → AtOther p s k l → (l ≡ F6) ⊎ (l ≡ R5) → P (entry_by s (Resume k)) (ends (leave_smm k s) g s.disturbed)
  pub tells : (o : Outcome) (g : Stage) → AtMonarch p s T → same_outcome o s.monarch.outcome ≡ true → P (entry_by s (Tell o)) (ends (led_on p s 0 T 0 s) g s.disturbed)

abbrev Same : ℕ → ℕ → Type 0
Same i j = i ≡ j

pub is_other : (k : ℕ) → k ≢ 0 → (k == 0) ≡ false
is_other k n = grind (arith, nat_tests)

module _ (p : Platform) (s : State) (P : Entry → State → Type 0) (h : IsStood p s) (m : Kinds p s P) where
  abbrev Gets : Event → State → Bool → Type 0
  Gets e t d = (g : Stage) → P (entry_by s e) (ends t g d)

  rows : (k : ℕ) (l : Label) (a : Access) (g : Stage) → AtRow p s k l → want_at (layout_of p) (seat p s k) s.monarch l ≡ Some (want.Do a)
      → P (record { event = Do k a; answer = answer_to true a s; at = smm_address (at s k) })
      (ends (led_on p s k l (value_in (answer_to true a s)) (access_effect p k true a s)) g (not ((k == 0) && same_label s.monarch.label S2) && s.disturbed))
  rows k l a g here wants = by_side (sides p s k l here)
    where
      by_side : ((k ≡ 0) × AtMonarch p s l) ⊎ AtOther p s k l
          → P (record { event = Do k a; answer = answer_to true a s; at = smm_address (at s k) })
          (ends (led_on p s k l (value_in (answer_to true a s)) (access_effect p k true a s)) g (not ((k == 0) && same_label s.monarch.label S2) && s.disturbed))
      by_side (inl here) =
          subst (λ i. P (record { event = Do i a; answer = answer_to true a s; at = smm_address (at s i) }) (ends (led_on p s i l (value_in (answer_to true a s)) (access_effect p i true a s)) g (not ((i == 0) && same_label s.monarch.label S2) && s.disturbed))) (sym here.0)
          (subst (λ n. P (record { event = Do 0 a; answer = answer_to true a s; at = smm_address (at s 0) }) (ends (led_on p s 0 l (value_in (answer_to true a s)) (access_effect p 0 true a s)) g (not (same_label n S2) && s.disturbed))) (sym here.1.label)
          (m.monarchs l a g here.1 (subst (λ i. want_at (layout_of p) (seat p s i) s.monarch l ≡ Some (want.Do a)) here.0 wants)))
      by_side (inr here) =
          let other : (k == 0) ≡ false = is_other k here.other in
          subst (λ b. P (record { event = Do k a; answer = answer_to true a s; at = smm_address (at s k) }) (ends (led_on p s k l (value_in (answer_to true a s)) (access_effect p k true a s)) g (not (b && same_label s.monarch.label S2) && s.disturbed))) (sym other)
          (m.others k l a g here wants)

  resumes : (k : ℕ) (l : Label) (g : Stage) → AtRow p s k l → want_at (layout_of p) (seat p s k) s.monarch l ≡ Some want.Resume → P (entry_by s (Resume k)) (ends (leave_smm k s) g s.disturbed)
  resumes k l g here wants = by_side (sides p s k l here) (row_resumes (layout_of p) (seat p s k) s.monarch l wants)
    where
      by_side : ((k ≡ 0) × AtMonarch p s l) ⊎ AtOther p s k l → (l ≡ F6) ⊎ ((l ≡ R5) ⊎ (l ≡ E7)) → P (entry_by s (Resume k)) (ends (leave_smm k s) g s.disturbed)
      by_side (inl here) (inl e) = absurd (let p1 : First ≡ Monarchs = sym (ap handler_of e) ∙ here.1.part in cc)
      by_side (inl here) (inr (inl e)) = absurd (let p1 : Relocated ≡ Monarchs = sym (ap handler_of e) ∙ here.1.part in cc)
      by_side (inl here) (inr (inr e)) = subst (λ i. P (entry_by s (Resume i)) (ends (leave_smm i s) g s.disturbed)) (sym here.0) (m.rests g (subst (AtMonarch p s) e here.1))
      by_side (inr here) (inl e) = m.returns k l g here (inl e)
      by_side (inr here) (inr (inl e)) = m.returns k l g here (inr e)
      by_side (inr here) (inr (inr e)) = absurd (here.part (ap handler_of e))

  told_row : (l : Label) (o t : Outcome) (g : Stage) → AtRow p s 0 l → want_at (layout_of p) (seat p s 0) s.monarch l ≡ Some (want.Tell t) → same_outcome o t ≡ true → P (entry_by s (Tell o)) (ends (led_on p s 0 l 0 s) g s.disturbed)
  told_row l o t g here wants same = by_side (sides p s 0 l here) (row_tells (layout_of p) (seat p s 0) s.monarch l t wants)
    where
      by_side : (Same 0 0 × AtMonarch p s l) ⊎ AtOther p s 0 l → (l ≡ T) × (t ≡ s.monarch.outcome) → P (entry_by s (Tell o)) (ends (led_on p s 0 l 0 s) g s.disturbed)
      by_side (inl here) e = subst (λ x. P (entry_by s (Tell o)) (ends (led_on p s 0 x 0 s) g s.disturbed)) (sym e.0) (m.tells o g (subst (AtMonarch p s) e.0 here.1) (subst (λ u. same_outcome o u ≡ true) e.1 same))
      by_side (inr here) e = absurd (here.other refl)

  free_of : (k : ℕ) (a : Access) → (is_normal a && may_access (is_late p.delivery) (at s k) a) ≡ true → is_in_smm (at s k).mode ≡ false → is_free (is_late p.delivery) (at s k) ≡ true
  free_of k a e f = or_none (is_free (is_late p.delivery) (at s k)) (at s k).present (is_in_smm (at s k).mode) (not (is_halt a)) (and_parts (is_normal a) (may_access (is_late p.delivery) (at s k) a) e).1 f
    where
      or_none : (l c b n : Bool) → (l || ((c && b) && n)) ≡ true → b ≡ false → l ≡ true
      or_none true c b n e f = refl
      or_none false true true n e f = absurd cc
      or_none false true false n e f = absurd cc
      or_none false false b n e f = absurd cc

  by_event : (e : Event) (g : Stage) → is_enabled p s e ≡ true → is_handlers p s e ≡ true → P (entry_by s e) (ends (handlers_effect p s e (effect_of p s e)) g (is_disturbed_by s e))
  by_event (Insert k) g may wanted =
      let both = and_parts (nat_lt k (count_of p)) (not (at s k).present) may in
      m.inserts k g (ltb-true k (count_of p) both.0) (not_there (at s k).present both.1)
    where
      not_there : (b : Bool) → not b ≡ true → b ≡ false
      not_there true e = absurd cc
      not_there false e = refl
  by_event (Remove k) g may wanted = m.removes k g
  by_event (Do k a) g may wanted = by_mode (is_in_smm (at s k).mode) refl wanted
    where
      in_row : (x : Label) (w : Option Want) → label_at p s k ≡ Some x → is_in_smm (at s k).mode ≡ true → want_at (layout_of p) (seat p s k) s.monarch x ≡ w → is_that_access w a ≡ true
          → P (record { event = Do k a; answer = answer_to true a s; at = smm_address (at s k) }) (ends (led_on p s k x (value_in (answer_to true a s)) (access_effect p k true a s)) g (not ((k == 0) && same_label s.monarch.label S2) && s.disturbed))
      in_row x None is smm w f = absurd cc
      in_row x (Some (want.Do b)) is smm w f =
          let same : a ≡ b = same_access-equal a b f in
          rows k x a g (row_stands p s k x h is) (w ∙ ap (λ c. Some (want.Do c)) (sym same))
      in_row x (Some (want.Tell t)) is smm w f = absurd cc
      in_row x (Some want.Resume) is smm w f = absurd cc

      by_row : (o : Option Label) → label_at p s k ≡ o → is_in_smm (at s k).mode ≡ true → is_that_access (wanted_at (layout_of p) s.monarch (seat p s k) o) a ≡ true
          → P (record { event = Do k a; answer = answer_to true a s; at = smm_address (at s k) }) (ends (row_effect p s k (answer_to true a s) o (access_effect p k true a s)) g (not ((k == 0) && same_label s.monarch.label S2) && s.disturbed))
      by_row None is smm f = absurd cc
      by_row (Some x) is smm f = in_row x (want_at (layout_of p) (seat p s k) s.monarch x) is smm refl f

      by_mode : (b : Bool) → is_in_smm (at s k).mode ≡ b → (not b || is_that_access (wanted_at (layout_of p) s.monarch (seat p s k) (label_at p s k)) a) ≡ true
          → P (record { event = Do k a; answer = answer_to b a s; at = smm_address (at s k) })
          (ends (cond b (row_effect p s k (answer_to b a s) (label_at p s k) (access_effect p k b a s)) (access_effect p k b a s)) g (cond b (not ((k == 0) && same_label s.monarch.label S2) && s.disturbed) (s.disturbed || (writes_block a && is_after_broadcast s.monarch.label))))
      by_mode true smm f = by_row (label_at p s k) refl smm f
      by_mode false smm f = m.outside k a g (free_of k a may smm) smm
  by_event (TakeSmi k) g may wanted = m.enters k g may
  by_event (TakeInit k) g may wanted = m.inits k g may
  by_event (Resume k) g may wanted = by_row (label_at p s k) refl wanted
    where
      in_row : (x : Label) (w : Option Want) → label_at p s k ≡ Some x → want_at (layout_of p) (seat p s k) s.monarch x ≡ w → is_rsm w ≡ true → P (entry_by s (Resume k)) (ends (leave_smm k s) g s.disturbed)
      in_row x None is w f = absurd cc
      in_row x (Some (want.Do b)) is w f = absurd cc
      in_row x (Some (want.Tell t)) is w f = absurd cc
      in_row x (Some want.Resume) is w f = resumes k x g (row_stands p s k x h is) w

      by_row : (o : Option Label) → label_at p s k ≡ o → is_rsm (wanted_at (layout_of p) s.monarch (seat p s k) o) ≡ true → P (entry_by s (Resume k)) (ends (leave_smm k s) g s.disturbed)
      by_row None is f = absurd cc
      by_row (Some x) is f = in_row x (want_at (layout_of p) (seat p s k) s.monarch x) is refl f
  by_event (Tell o) g may wanted = by_row (label_at p s 0) refl wanted
    where
      in_row : (x : Label) (w : Option Want) → label_at p s 0 ≡ Some x → want_at (layout_of p) (seat p s 0) s.monarch x ≡ w → is_that_outcome w o ≡ true → P (entry_by s (Tell o)) (ends (led_on p s 0 x 0 s) g s.disturbed)
      in_row x None is w f = absurd cc
      in_row x (Some (want.Do b)) is w f = absurd cc
      in_row x (Some (want.Tell t)) is w f = told_row x o t g (row_stands p s 0 x h is) w f
      in_row x (Some want.Resume) is w f = absurd cc

      by_row : (l : Option Label) → label_at p s 0 ≡ l → is_that_outcome (wanted_at (layout_of p) s.monarch (seat p s 0) l) o ≡ true → P (entry_by s (Tell o)) (ends (row_effect p s 0 Quiet l s) g s.disturbed)
      by_row None is f = absurd cc
      by_row (Some x) is f = in_row x (want_at (layout_of p) (seat p s 0) s.monarch x) is refl f

  by_stage : (g : Stage) → s.stage ≡ g → is_handed g ≡ true → (e : Event) → is_enabled p s e ≡ true → wanted_in p s g e ≡ true → P (entry_by s e) (ends (firmware_effect p s g e (effect_of p s e)) (stage_after p.tseg_mib (answer_of s e) g) (is_disturbed_by s e))
  by_stage (Boots done supported) is handed e may wanted = absurd cc
  by_stage (Refused fact) is handed e may wanted = absurd cc
  by_stage (Handed requested) is handed e may wanted = by_event e (Handed requested) may wanted

  pub by_kind : (e : Entry) (t : State) → run_on p s e ≡ Some t → P e t
  by_kind e t is =
      let mk = made p s e t is in
      let st = stepped p s e.event mk.after mk.step in
      let entry : entry_by s e.event ≡ e =
      let answer : answer_of s e.event ≡ e.answer = ap (λ (a : After). a.answer) st.is ∙ mk.answer in
      rw (answer, mk.place) refl in
      let state : (after p s e.event).state ≡ t = ap (λ (a : After). a.state) st.is ∙ mk.state in
      subst (λ u. P e u) state (subst (λ x. P x (after p s e.event).state) entry (by_stage s.stage refl h.handed e.event st.enabled st.wanted))

-- a test of what is told, if it passes at T
pub told_by : (p : Platform) (test : Telling → Bool) (past : List Transition) (s : State) → IsStood p s → ((o : Outcome) → AtMonarch p s T → same_outcome o s.monarch.outcome ≡ true → test (telling p past s o) ≡ true) → (e : Entry) (t : State) → run_on p s e ≡ Some t
    → when_told p test past s (outcome_in e.event) ≡ true
told_by p test past s h told e t is = by_kind p s (λ e t. when_told p test past s (outcome_in e.event) ≡ true) h (record {
  inserts = λ k g less gone. refl;
  removes = λ k g. refl;
  outside = λ k a g free out. refl;
  monarchs = λ l a g here wants. refl;
  others = λ k l a g here wants. refl;
  enters = λ k g may. refl;
  inits = λ k g may. refl;
  rests = λ g here. refl;
  returns = λ k l g here where_is. refl;
  tells = λ o g here same. told o here same;
}) e t is

-- where the flag is clear after an access from outside SMM while others are called in, it was clear before, and the access writes no block
pub still_clear : (d w after : Bool) → after ≡ true → (d || (w && after)) ≡ false → (d ≡ false) × (w ≡ false)
still_clear true w after f q = absurd cc
still_clear false true true f q = absurd cc
still_clear false true false f q = absurd cc
still_clear false false after f q = (refl, refl)
