-- Entries of two runs that have the same events.
use Rattle.std.proofs.Common.{ℕ, ◌≡◌, Bool, true, false, not, ◌&&◌, ◌||◌, List, [], ◌∷◌, ◌++◌, map, Option, Some, None, option_and_then, refl, sym, ap, subst, ◌∙◌}
use Rattle.std.specs.Prelude.{is_some}
use Rattle.std.proofs.lemmas.Bool.{and_parts}
use Rattle.std.proofs.lemmas.Option.{same_Some}
use Rattle.hp_model.specs.declared.platforms.Platform.{Platform}
use Rattle.hp_model.specs.declared.processors.Cpu.{Cpu}
use Rattle.hp_model.specs.declared.processors.Mode.{Mode}
use Rattle.hp_model.specs.declared.processors.Mode.TheVariants.{Wait, Running, Halted, Smm}
use Rattle.hp_model.specs.declared.accesses.Access.{Access}
use Rattle.hp_model.specs.declared.accesses.Answer.{Answer}
use Rattle.hp_model.specs.declared.accesses.Answer.TheVariants.{Quiet}
use Rattle.hp_model.specs.declared.entries.Event.{Event}
use Rattle.hp_model.specs.declared.entries.Event.TheVariants.{Insert, Remove, Do, TakeSmi, TakeInit, Resume, Tell}
use Rattle.hp_model.specs.declared.entries.Entry.{Entry}
use Rattle.hp_model.specs.Platform.{IsFit, is_late}
use Rattle.hp_model.specs.Cpu.{is_running, is_in_smm, is_unlatched, smm_address}
use Rattle.hp_model.specs.Boot.{Stage, Boots, Refused, Handed, is_handed, stage_after}
use Rattle.hp_model.specs.State.{State, at, start}
use Rattle.hp_model.specs.Access.{is_normal, is_halt, stands_in_smm, may_access}
use Rattle.hp_model.specs.Step.{is_enabled, answer_of, step}
use Rattle.hp_model.specs.Runs.{address_of, run_on, run_from, run}
use Rattle.hp_model.specs.Visible.{IsAlike, visible_by, visible_entry}
use Rattle.hp_sealed.proofs.Runs.{first_step, made}
use Rattle.hp_secrecy.specs.Shielded.{IsShielded, StaysShielded, IsAlwaysShielded, events_of, GoAlike, GoOnAlike}
use Rattle.hp_secrecy.proofs.Cpus.{AlikeCpu, alike_at}
use Rattle.hp_secrecy.proofs.Steps.{stepped, stands_alike, step_alike, same_answers}

-- who is in SMM in one is so in the other
some_address : (c : Cpu) → is_some (smm_address c) ≡ stands_in_smm c
some_address c = by_mode c.present c.mode
  where
    by_mode : (b : Bool) (m : Mode) → is_some (smm_address (record c { present = b; mode = m })) ≡ (b && is_in_smm m)
    by_mode false m = refl
    by_mode true Wait = refl
    by_mode true (Running page) = refl
    by_mode true (Halted page) = refl
    by_mode true (Smm address) = refl

address_cpu : (c d : Cpu) → AlikeCpu c d → is_some (smm_address c) ≡ is_some (smm_address d)
address_cpu c d e = some_address c ∙ stands_alike c d e ∙ sym (some_address d)

address_alike : (s t : State) (e : Event) → IsAlike s t → is_some (address_of s e) ≡ is_some (address_of t e)
address_alike s t (Insert k) h = refl
address_alike s t (Remove k) h = refl
address_alike s t (Do k a) h = address_cpu (at s k) (at t k) (alike_at s.cpus t.cpus k h.cpus)
address_alike s t (TakeSmi k) h = address_cpu (at s k) (at t k) (alike_at s.cpus t.cpus k h.cpus)
address_alike s t (TakeInit k) h = address_cpu (at s k) (at t k) (alike_at s.cpus t.cpus k h.cpus)
address_alike s t (Resume k) h = address_cpu (at s k) (at t k) (alike_at s.cpus t.cpus k h.cpus)
address_alike s t (Tell o) h = address_cpu (at s 0) (at t 0) (alike_at s.cpus t.cpus 0 h.cpus)

-- whoever makes an access without an instruction address is outside SMM
made_outside : (late : Bool) (c : Cpu) (a : Access) → may_access late c a ≡ true → is_some (smm_address c) ≡ false → is_in_smm c.mode ≡ false
made_outside late c a may none = by_presence c.present c.mode may (sym (some_address c) ∙ none)
  where
    by_presence : (b : Bool) (m : Mode) → ((b && (is_running m && is_unlatched late c)) || ((b && is_in_smm m) && not (is_halt a))) ≡ true → (b && is_in_smm m) ≡ false → is_in_smm m ≡ false
    by_presence true m f e = e
    by_presence false m f e = absurd cc

answer_outside : (p : Platform) (s t : State) (e : Event) → is_enabled p s e ≡ true → is_some (address_of s e) ≡ false → IsAlike s t → answer_of s e ≡ answer_of t e
answer_outside p s t (Insert k) may none h = refl
answer_outside p s t (Remove k) may none h = refl
answer_outside p s t (Do k a) may none h =
    same_answers p (Do k a) s t (made_outside (is_late p.delivery) (at s k) a (and_parts (is_normal a) (may_access (is_late p.delivery) (at s k) a) may).1 none) h
answer_outside p s t (TakeSmi k) may none h = refl
answer_outside p s t (TakeInit k) may none h = refl
answer_outside p s t (Resume k) may none h = refl
answer_outside p s t (Tell o) may none h = refl

visible_same : (x y : Event) (o q : Option ℕ) (a b : Answer) → x ≡ y → is_some o ≡ is_some q → (is_some o ≡ false → a ≡ b) → visible_by x o a ≡ visible_by y q b
visible_same x y None None a b e f g = ap (λ z. visible_by z None a) e ∙ ap (visible_by y None) (g refl)
visible_same x y None (Some n) a b e f g = absurd cc
visible_same x y (Some m) None a b e f g = absurd cc
visible_same x y (Some m) (Some n) a b e f g = ap (λ z. visible_by z (Some 0) Quiet) e

entry_alike : (p : Platform) (s t u v : State) (e f : Entry) → IsAlike s t → run_on p s e ≡ Some u → run_on p t f ≡ Some v → e.event ≡ f.event → visible_entry e ≡ visible_entry f
entry_alike p s t u v e f h here there same =
    let m = made p s e u here in
    let n = made p t f v there in
    let a = stepped p s e.event m.after m.step in
    let b = stepped p t f.event n.after n.step in
    visible_same e.event f.event e.at f.at e.answer f.answer same
    (ap is_some (sym m.place) ∙ address_alike s t e.event h ∙ ap (λ x. is_some (address_of t x)) same ∙ ap is_some n.place)
    (λ none. sym m.answer ∙ ap (λ x. x.answer) (sym a.is) ∙ answer_outside p s t e.event a.enabled (ap is_some m.place ∙ none) h ∙ ap (answer_of t) same ∙ ap (λ x. x.answer) b.is ∙ n.answer)

state_alike : (p : Platform) (s t u v : State) (e f : Entry) → IsFit p → IsShielded p s → IsShielded p t → IsAlike s t → run_on p s e ≡ Some u → run_on p t f ≡ Some v → e.event ≡ f.event → IsAlike u v
state_alike p s t u v e f fit shut closed h here there same =
    let m = made p s e u here in
    let n = made p t f v there in
    subst (λ x. IsAlike x v) m.state (subst (IsAlike m.after.state) n.state
    (step_alike p s t e.event m.after n.after fit shut closed h m.step (subst (λ x. step p t x ≡ Some n.after) (sym same) n.step)))

none_made : (p : Platform) (s t : State) → run_from p s [] ≡ Some t → s ≡ t
unfolding run_from
none_made p s t is = same_Some s t is

one_made : (p : Platform) (s t u : State) (e : Entry) (es : List Entry) → run_on p s e ≡ Some t → run_from p t es ≡ Some u → run_from p s (e ∷ es) ≡ Some u
unfolding run_from
one_made p s t u e es here rest = rw here rest

stays_after : (p : Platform) (s t : State) (e : Entry) (es : List Entry) → run_on p s e ≡ Some t → StaysShielded p s (e ∷ es) → StaysShielded p t es
stays_after p s t e es here h before rest u split is = h (e ∷ before) rest u (ap (λ xs. e ∷ xs) split) (one_made p s t u e before here is)

shielded_here : (p : Platform) (s : State) (es : List Entry) → StaysShielded p s es → IsShielded p s
unfolding run_from
shielded_here p s es h = h [] es s refl refl

abbrev first : Event → List Event → Event
first x [] = x
first x (y ∷ ys) = y

abbrev rest : List Event → List Event
rest [] = []
rest (y ∷ ys) = ys

first_event : (e f : Entry) (es fs : List Entry) → events_of (e ∷ es) ≡ events_of (f ∷ fs) → e.event ≡ f.event
first_event e f es fs same = ap (first (e.event)) same

rest_events : (e f : Entry) (es fs : List Entry) → events_of (e ∷ es) ≡ events_of (f ∷ fs) → events_of es ≡ events_of fs
rest_events e f es fs same = ap rest same

-- entries with the same events, from two states that are alike
pub from_alike : (p : Platform) (es fs : List Entry) (s t u v : State) → IsFit p → StaysShielded p s es → StaysShielded p t fs → IsAlike s t → run_from p s es ≡ Some u → run_from p t fs ≡ Some v → events_of es ≡ events_of fs → GoAlike u v es fs
from_alike p [] [] s t u v fit shut closed h here there same =
    record { states = subst (λ x. IsAlike x v) (none_made p s u here) (subst (IsAlike s) (none_made p t v there) h); entries = refl }
from_alike p [] (f ∷ fs) s t u v fit shut closed h here there same = absurd cc
from_alike p (e ∷ es) [] s t u v fit shut closed h here there same = absurd cc
from_alike p (e ∷ es) (f ∷ fs) s t u v fit shut closed h here there same =
    let m = first_step p s u e es here in
    let n = first_step p t v f fs there in
    let event = first_event e f es fs same in
    let one = entry_alike p s t m.0 n.0 e f h m.1 n.1 event in
    let rest = from_alike p es fs m.0 n.0 u v fit (stays_after p s m.0 e es m.1 shut) (stays_after p t n.0 f fs n.1 closed)
    (state_alike p s t m.0 n.0 e f fit (shielded_here p s (e ∷ es) shut) (shielded_here p t (f ∷ fs) closed) h m.1 n.1 event) m.2 n.2 (rest_events e f es fs same) in
    record { states = rest.states; entries = ap (λ x. x ∷ map visible_entry es) one ∙ ap (λ xs. visible_entry f ∷ xs) rest.entries }

-- a run in two parts
run_append : (p : Platform) (s : State) (xs es : List Entry) → run_from p s (xs ++ es) ≡ option_and_then (λ t. run_from p t es) (run_from p s xs)
unfolding run_from
run_append p s [] es = refl
run_append p s (x ∷ xs) es = on (run_on p s x) (λ t. run_append p t xs es)
  where
    on : (o : Option State) → ((t : State) → run_from p t (xs ++ es) ≡ option_and_then (λ u. run_from p u es) (run_from p t xs)) → option_and_then (λ t. run_from p t (xs ++ es)) o ≡ option_and_then (λ t. run_from p t es) (option_and_then (λ t. run_from p t xs) o)
    on None more = refl
    on (Some t) more = more t

run_on_from : (p : Platform) (r s : State) (xs es : List Entry) → run_from p r xs ≡ Some s → run_from p r (xs ++ es) ≡ run_from p s es
run_on_from p r s xs es is = run_append p r xs es ∙ ap (option_and_then (λ t. run_from p t es)) is

-- once handed over, a run stays so
step_handed : (p : Platform) (s t : State) (e : Entry) → is_handed s.stage ≡ true → run_on p s e ≡ Some t → is_handed t.stage ≡ true
step_handed p s t e handed is =
    let m = made p s e t is in
    let a = stepped p s e.event m.after m.step in
    subst (λ x. is_handed x.stage ≡ true) m.state (subst (λ x. is_handed x.state.stage ≡ true) a.is (by_stage s.stage handed))
  where
    by_stage : (g : Stage) → is_handed g ≡ true → is_handed (stage_after p.tseg_mib (answer_of s e.event) g) ≡ true
    by_stage (Boots done supported) h = absurd cc
    by_stage (Refused fact) h = absurd cc
    by_stage (Handed requested) h = refl

run_handed : (p : Platform) (es : List Entry) (s t : State) → is_handed s.stage ≡ true → run_from p s es ≡ Some t → is_handed t.stage ≡ true
run_handed p [] s t handed is = subst (λ x. is_handed x.stage ≡ true) (none_made p s t is) handed
run_handed p (e ∷ es) s t handed is =
    let m = first_step p s t e es is in
    run_handed p es m.0 t (step_handed p s m.0 e handed m.1) m.2

always_stays : (p : Platform) (xs es : List Entry) (s : State) → IsAlwaysShielded p → run p xs ≡ Some s → is_handed s.stage ≡ true → StaysShielded p s es
unfolding run
always_stays p xs es s always is handed before rest t split here =
    always (xs ++ before) t (run_on_from p (start p) s xs before is ∙ here) (run_handed p before s t handed here)

-- the runs whole
pub runs_alike : (p : Platform) (xs ys es fs : List Entry) (s t u v : State) → IsFit p → IsAlwaysShielded p → GoOnAlike p xs ys es fs s t u v → GoAlike u v es fs
unfolding run
runs_alike p xs ys es fs s t u v fit always g =
    from_alike p es fs s t u v fit
    (always_stays p xs es s always g.first g.handed)
    (always_stays p ys fs t always g.second (subst (λ x. is_handed x ≡ true) g.alike.stage g.handed))
    g.alike
    (sym (run_on_from p (start p) s xs es g.first) ∙ g.first_on)
    (sym (run_on_from p (start p) t ys fs g.second) ∙ g.second_on)
    g.events
