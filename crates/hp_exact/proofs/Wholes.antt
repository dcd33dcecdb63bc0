-- Every state of a run keeps what it has to, before the hand-over and after it; and what is so at the hand-over.
use Rattle.std.proofs.Common.{◌≡◌, inl, inr, true, false, List, [], ◌∷◌, Some, None, refl, sym, ap, subst, ◌∙◌, Bool}
use Rattle.hp_model.specs.declared.platforms.Platform.{Platform}
use Rattle.hp_model.specs.declared.accesses.Access.{Access}
use Rattle.hp_model.specs.declared.entries.Event.TheVariants.{Do}
use Rattle.hp_model.specs.declared.entries.Entry.{Entry}
use Rattle.hp_model.specs.Platform.{IsFit}
use Rattle.hp_model.specs.Boot.{Stage, Boots, Refused, Handed, is_handed, boot_access, stage_after}
use Rattle.hp_model.specs.Monarch.{Monarch}
use Rattle.hp_model.specs.State.{State, start}
use Rattle.hp_model.specs.Step.{After, answer_of, after, is_after_broadcast}
use Rattle.hp_model.specs.Runs.{run_on}
use Rattle.hp_model.specs.Transitions.{Transition}
use Rattle.hp_model.proofs.AtEach.{made}
use Rattle.hp_sealed.specs.Left.{Sound}
use Rattle.hp_sealed.proofs.Goes.{stepped, refused_goes}
use Rattle.hp_sealed.proofs.Runs.{made as made_by}
use Rattle.hp_safety.proofs.Runs.{IsGood, keeps_good}
use Rattle.hp_sealed.proofs.Starts.{sound, starts}
use Rattle.hp_exact.proofs.Stood.{stood}
use Rattle.hp_exact.proofs.Naming.{Ids}
use Rattle.hp_exact.proofs.Keeping.{keeps}
use Rattle.hp_exact.proofs.Invariant.{Invariant}
use Rattle.hp_exact.proofs.Beginning.{begins, Begun, begun_goes, hands_over, sealed_outside, boot_step}
use Rattle.hp_model.specs.Outcomes.{Telling, when_told}
use Rattle.hp_model.specs.Events.{outcome_in}

-- every state of a run, with the transitions that led to it
pub record Whole (p : Platform) (past : List Transition) (s : State) : Type 0 where
  pub good : IsGood p s
  pub before : is_handed s.stage ≡ false → Begun p past s
  pub handed : is_handed s.stage ≡ true → Invariant p past s

pub whole_begins : (p : Platform) → IsFit p → Whole p [] (start p)
whole_begins p fits = record { good = inl (starts p fits); before = λ _. begins p (sound p fits); handed = λ e. absurd cc }

handed_stays : (p : Platform) (s t : State) (e : Entry) → run_on p s e ≡ Some t → is_handed s.stage ≡ true → is_handed t.stage ≡ true
handed_stays p s t e is handed =
    let mk = made_by p s e t is in
    let st = stepped p s e.event mk.after mk.step in
    let state : (after p s e.event).state ≡ t = ap (λ (a : After). a.state) st.is ∙ mk.state in
    subst (λ (u : State). is_handed u.stage ≡ true) state (by_stage s.stage handed)
  where
    by_stage : (g : Stage) → is_handed g ≡ true → is_handed (stage_after p.tseg_mib (answer_of s e.event) g) ≡ true
    by_stage (Boots done supported) f = absurd cc
    by_stage (Refused fact) f = absurd cc
    by_stage (Handed requested) f = refl

pub whole_goes : (p : Platform) → Sound p → Ids p → (past : List Transition) (s t : State) (e : Entry) → Whole p past s → run_on p s e ≡ Some t → Whole p (made s e t ∷ past) t
whole_goes p sound ids past s t e h is = by_good h.good
  where
    next : IsGood p t
    next = let mk = made_by p s e t is in subst (IsGood p) mk.state (keeps_good p s e.event mk.after sound h.good mk.step).0

    by_good : IsGood p s → Whole p (made s e t ∷ past) t
    by_good (inl k) =
        let early : is_handed s.stage ≡ false = let stage = k.stage in rw stage refl in
        let begun = begun_goes p past s t e sound k next is (h.before early) in
        record { good = next; before = λ _. begun; handed = λ f. hands_over p (made s e t ∷ past) t begun f (sealed_outside p s t e sound k is f) }
    by_good (inr (inl k)) = absurd (let mk = made_by p s e t is in refused_goes p s e.event mk.after k mk.step)
    by_good (inr (inr k)) =
        let on = handed_stays p s t e is k.handed in
        record { good = next; before = λ f. absurd (let both : true ≡ false = sym on ∙ f in cc); handed = λ _. keeps p sound ids past s (stood p s sound k) (h.handed k.handed) e t is }

-- before the hand-over nobody is in SMM
pub outside_before : (p : Platform) (s t : State) (e : Entry) → IsGood p s → is_handed s.stage ≡ false → run_on p s e ≡ Some t → e.at ≡ None
outside_before p s t e (inl k) before is = (boot_step p s e t k is).place
outside_before p s t e (inr (inl k)) before is = absurd (let mk = made_by p s e t is in refused_goes p s e.event mk.after k mk.step)
outside_before p s t e (inr (inr k)) before is = absurd (let handed = k.handed in let both : true ≡ false = sym handed ∙ before in cc)

-- and the boot makes accesses alone
pub access_before : (p : Platform) (s t : State) (e : Entry) → IsGood p s → is_handed s.stage ≡ false → run_on p s e ≡ Some t → (a : Access) × (e.event ≡ Do 0 a)
access_before p s t e (inl k) before is = let step = boot_step p s e t k is in (boot_access p.tseg_mib step.supported step.done, step.event)
access_before p s t e (inr (inl k)) before is = absurd (let mk = made_by p s e t is in refused_goes p s e.event mk.after k mk.step)
access_before p s t e (inr (inr k)) before is = absurd (let handed = k.handed in let both : true ≡ false = sym handed ∙ before in cc)

-- the step that hands over leaves the monarch's record at its first label
pub fresh_at_hand_over : (p : Platform) (s t : State) (e : Entry) → Sound p → IsGood p s → is_handed s.stage ≡ false → run_on p s e ≡ Some t → is_handed t.stage ≡ true → is_after_broadcast t.monarch.label ≡ false
fresh_at_hand_over p s t e fit (inl k) before is handed = let outside = sealed_outside p s t e fit k is handed in ap (λ (r : Monarch). is_after_broadcast r.label) outside.begun
fresh_at_hand_over p s t e fit (inr (inl k)) before is handed = absurd (let mk = made_by p s e t is in refused_goes p s e.event mk.after k mk.step)
fresh_at_hand_over p s t e fit (inr (inr k)) before is handed = absurd (let on = k.handed in let both : true ≡ false = sym on ∙ before in cc)

-- so nothing is told
pub silent_before : (p : Platform) (test : Telling → Bool) (past : List Transition) (s t : State) (e : Entry) → IsGood p s → is_handed s.stage ≡ false → run_on p s e ≡ Some t → when_told p test past s (outcome_in e.event) ≡ true
silent_before p test past s t e good before is = let boots = access_before p s t e good before is in subst (λ v. when_told p test past s (outcome_in v) ≡ true) (sym boots.1) refl
