-- One step of two states that are alike.
use Rattle.std.proofs.Common.{ℕ, ◌≡◌, ◌==◌, Bool, true, false, cond, not, ◌&&◌, ◌||◌, nat_lt, List, slice_set, Option, Some, None, refl, sym, ap, subst, ◌∙◌}
use Rattle.std.specs.Prelude.{is_some}
use Rattle.std.proofs.lemmas.Bool.{and_parts}
use Rattle.std.proofs.lemmas.Option.{same_Some}
use Rattle.hp_model.specs.declared.platforms.Platform.{Platform}
use Rattle.hp_model.specs.declared.processors.Cpu.{Cpu}
use Rattle.hp_model.specs.declared.processors.Mode.{Mode}
use Rattle.hp_model.specs.declared.processors.Mode.TheVariants.{Wait, Running, Halted, Smm}
use Rattle.hp_model.specs.declared.accesses.Access.{Access}
use Rattle.hp_model.specs.declared.accesses.Access.TheVariants.{Load, Store, Swap, In, Out, CfgRead, CfgWrite, Icr, Halt, Nop}
use Rattle.hp_model.specs.declared.accesses.Answer.{Answer}
use Rattle.hp_model.specs.declared.accesses.Answer.TheVariants.{Quiet}
use Rattle.hp_model.specs.declared.labels.Label.{Label}
use Rattle.hp_model.specs.declared.entries.Event.{Event}
use Rattle.hp_model.specs.declared.entries.Event.TheVariants.{Insert, Remove, Do, TakeSmi, TakeInit, Resume, Tell}
use Rattle.hp_model.specs.Platform.{IsFit, count_of, is_late}
use Rattle.hp_model.specs.View.{stored, swapped}
use Rattle.hp_model.specs.Cpu.{cpu_at, is_running, is_outside, is_in_smm, may_take_smi, take_smi, may_take_init, take_init, resumed}
use Rattle.hp_model.specs.SaveArea.{saved, saved_smbase, saved_rip}
use Rattle.hp_model.specs.Boot.{Stage, Boots, Refused, Handed, is_handed, stage_after, value_in}
use Rattle.hp_model.specs.SharedBytes.{layout_of}
use Rattle.hp_model.specs.Handlers.{Next, next_at}
use Rattle.hp_model.specs.State.{State, at}
use Rattle.hp_model.specs.Access.{is_normal, stands_in_smm, may_access, access_effect, answer_to}
use Rattle.hp_model.specs.Firmware.{seat, label_at, wanted, is_that_access, is_handlers, is_wanted, wanted_in, moved_in_smm, with_next, row_effect, handlers_effect, firmware_effect}
use Rattle.hp_model.specs.Step.{After, can_do, is_enabled, enter_smm, answer_of, effect_of, is_disturbed_by, after, step}
use Rattle.hp_model.specs.Visible.{visible_mode, visible_cpu, IsAlike, is_made_in_smm}
use Rattle.hp_secrecy.specs.Shielded.{IsShielded, StaysInside}
use Rattle.hp_secrecy.proofs.Bytes.{AlikeBytes, bytes_then, bytes_back, store_unseen, swap_unseen}
use Rattle.hp_secrecy.proofs.Cpus.{AlikeCpu, AlikeCpus, alike_at, alike_set, alike_unseen, go_on_unseen, smm_visible, in_smm_alike}
use Rattle.hp_secrecy.proofs.Saves.{HasTiles, has_tiles, saved_unseen}
use Rattle.hp_secrecy.proofs.Swaps.{handler_swaps_gate}
use Rattle.hp_secrecy.proofs.Effects.{alike_cpus, alike_writes, alike_insert, alike_removal, alike_access, same_answer}

alike_same : (s : State) → IsAlike s s
alike_same s = record { cpus = refl; memory = λ x free. refl; locks = refl; block = refl; ich9 = refl; fw_cfg = refl; stage = refl }

alike_then : (s t u : State) → IsAlike s t → IsAlike t u → IsAlike s u
alike_then s t u h g = record {
  cpus = h.cpus ∙ g.cpus;
  memory = bytes_then s.locks s.writes t.writes u.writes h.memory (subst (λ l. AlikeBytes l t.writes u.writes) (sym h.locks) g.memory);
  locks = h.locks ∙ g.locks;
  block = h.block ∙ g.block;
  ich9 = h.ich9 ∙ g.ich9;
  fw_cfg = h.fw_cfg ∙ g.fw_cfg;
  stage = h.stage ∙ g.stage;
}

alike_back : (s t : State) → IsAlike s t → IsAlike t s
alike_back s t h = record {
  cpus = sym h.cpus;
  memory = subst (λ l. AlikeBytes l t.writes s.writes) h.locks (bytes_back s.locks s.writes t.writes h.memory);
  locks = sym h.locks;
  block = sym h.block;
  ich9 = sym h.ich9;
  fw_cfg = sym h.fw_cfg;
  stage = sym h.stage;
}

-- what the handlers make of an event is not seen
next_unseen : (k smbase : ℕ) (n : Next) (t : State) → IsAlike (with_next k smbase n t) t
next_unseen k smbase n t = record { cpus = alike_unseen t.cpus k (moved_in_smm smbase n (at t k)) (go_on_unseen smbase n (at t k)); memory = λ x free. refl; locks = refl; block = refl; ich9 = refl; fw_cfg = refl; stage = refl }

row_unseen : (p : Platform) (s : State) (k : ℕ) (answer : Answer) (o : Option Label) (t : State) → IsAlike (row_effect p s k answer o t) t
row_unseen p s k answer None t = alike_same t
row_unseen p s k answer (Some l) t = next_unseen k (at s k).smbase (next_at (layout_of p) (seat p s k) s.monarch l (value_in answer)) t

choice_unseen : (b : Bool) (u v t : State) → IsAlike u t → IsAlike v t → IsAlike (cond b u v) t
choice_unseen true u v t h g = h
choice_unseen false u v t h g = g

led_unseen : (p : Platform) (s : State) (e : Event) (t : State) → IsAlike (handlers_effect p s e t) t
led_unseen p s (Insert k) t = alike_same t
led_unseen p s (Remove k) t = alike_same t
led_unseen p s (Do k a) t = choice_unseen (is_in_smm (at s k).mode) (row_effect p s k (answer_of s (Do k a)) (label_at p s k) t) t t (row_unseen p s k (answer_of s (Do k a)) (label_at p s k) t) (alike_same t)
led_unseen p s (TakeSmi k) t = choice_unseen (k == 0) _ t t (record { cpus = refl; memory = λ x free. refl; locks = refl; block = refl; ich9 = refl; fw_cfg = refl; stage = refl }) (alike_same t)
led_unseen p s (TakeInit k) t = alike_same t
led_unseen p s (Resume k) t = alike_same t
led_unseen p s (Tell o) t = row_unseen p s 0 Quiet (label_at p s 0) t

-- SMI entry
present_of : (s : State) (k : ℕ) → may_take_smi (at s k) ≡ true → (at s k).present ≡ true
present_of s k e = (and_parts (at s k).present ((at s k).smi && is_outside (at s k).mode) e).0

alike_enter : (p : Platform) (k : ℕ) (s t : State) → HasTiles p → IsShielded p s → IsShielded p t → may_take_smi (at s k) ≡ true → may_take_smi (at t k) ≡ true → IsAlike s t → IsAlike (enter_smm k s) (enter_smm k t)
alike_enter p k s t tiles shut closed may can h = record {
  cpus = alike_set s.cpus t.cpus k (take_smi (at s k)) (take_smi (at t k)) h.cpus (ap (λ c. visible_cpu (take_smi c)) (alike_at s.cpus t.cpus k h.cpus));
  memory = bytes_then s.locks (saved s.locks (at s k) s.writes) s.writes (saved t.locks (at t k) t.writes)
      (saved_unseen p s (at s k) s.writes tiles shut (shut.based k (present_of s k may)))
      (bytes_then s.locks s.writes t.writes (saved t.locks (at t k) t.writes) h.memory
      (subst (λ l. AlikeBytes l t.writes (saved t.locks (at t k) t.writes)) (sym h.locks)
      (bytes_back t.locks (saved t.locks (at t k) t.writes) t.writes (saved_unseen p t (at t k) t.writes tiles closed (closed.based k (present_of t k can))))));
  locks = h.locks;
  block = h.block;
  ich9 = h.ich9;
  fw_cfg = h.fw_cfg;
  stage = h.stage;
}

-- an access, in SMM the one that a handler wants
alike_do : (p : Platform) (k : ℕ) (a : Access) (s t : State) → IsShielded p s → (not (is_in_smm (at s k).mode) || is_that_access (wanted p s k) a) ≡ true → IsAlike s t → IsAlike (effect_of p s (Do k a)) (effect_of p t (Do k a))
alike_do p k a s t shielded want h =
    subst (λ b. IsAlike (access_effect p k (is_in_smm (at s k).mode) a s) (access_effect p k b a t)) (in_smm_alike (at s k) (at t k) (alike_at s.cpus t.cpus k h.cpus))
    (alike_access p k (is_in_smm (at s k).mode) a s t shielded (λ is. handler_swaps_gate p s k a (in_smm_wants (is_in_smm (at s k).mode) (is_that_access (wanted p s k) a) is want)) h)
  where
    in_smm_wants : (b c : Bool) → b ≡ true → (not b || c) ≡ true → c ≡ true
    in_smm_wants true c is e = e
    in_smm_wants false c is e = absurd cc

-- each event
alike_effect : (p : Platform) (e : Event) (s t : State) → HasTiles p → IsShielded p s → IsShielded p t → is_enabled p s e ≡ true → is_enabled p t e ≡ true → is_handlers p s e ≡ true → IsAlike s t → IsAlike (effect_of p s e) (effect_of p t e)
alike_effect p (Insert k) s t tiles shut closed may can want h = alike_insert k s t h
alike_effect p (Remove k) s t tiles shut closed may can want h = alike_removal k s t h
alike_effect p (Do k a) s t tiles shut closed may can want h = alike_do p k a s t shut want h
alike_effect p (TakeSmi k) s t tiles shut closed may can want h = alike_enter p k s t tiles shut closed may can h
alike_effect p (TakeInit k) s t tiles shut closed may can want h = alike_cpus s t (slice_set s.cpus k (take_init (at s k))) (slice_set t.cpus k (take_init (at t k))) h
    (alike_set s.cpus t.cpus k (take_init (at s k)) (take_init (at t k)) h.cpus (ap (λ c. visible_cpu (take_init c)) (alike_at s.cpus t.cpus k h.cpus)))
alike_effect p (Resume k) s t tiles shut closed may can want h =
    let c = resumed (saved_smbase s.locks s.writes (at s k)) (saved_rip s.locks s.writes (at s k)) (at s k) in
    let d = resumed (saved_smbase t.locks t.writes (at t k)) (saved_rip t.locks t.writes (at t k)) (at t k) in
    alike_cpus s t (slice_set s.cpus k c) (slice_set t.cpus k d) h
    (alike_set s.cpus t.cpus k c d h.cpus (ap (λ x. visible_cpu (resumed 0 0 x)) (alike_at s.cpus t.cpus k h.cpus)))
alike_effect p (Tell o) s t tiles shut closed may can want h = h

-- the step whole, from a state where the boot stands here
abbrev ended : Platform → State → Event → Stage → State
ended p s e g = record (firmware_effect p s g e (effect_of p s e)) { stage = stage_after p.tseg_mib (answer_of s e) g; disturbed = is_disturbed_by s e }

alike_after : (p : Platform) (e : Event) (s t : State) → HasTiles p → IsShielded p s → IsShielded p t → is_enabled p s e ≡ true → is_enabled p t e ≡ true → is_wanted p s e ≡ true → IsAlike s t → IsAlike (after p s e).state (after p t e).state
alike_after p e s t tiles shut closed may can want h = by_stage s.stage t.stage shut.handed h.stage want
  where
    by_stage : (g f : Stage) → is_handed g ≡ true → g ≡ f → wanted_in p s g e ≡ true → IsAlike (ended p s e g) (ended p t e f)
    by_stage (Boots done supported) f handed same wants = absurd cc
    by_stage (Refused fact) f handed same wants = absurd cc
    by_stage (Handed requested) f handed same wants =
        let effect = alike_effect p e s t tiles shut closed may can wants h in
        let led = alike_then (handlers_effect p s e (effect_of p s e)) (effect_of p s e) (handlers_effect p t e (effect_of p t e)) (led_unseen p s e (effect_of p s e))
        (alike_then (effect_of p s e) (effect_of p t e) (handlers_effect p t e (effect_of p t e)) effect (alike_back (handlers_effect p t e (effect_of p t e)) (effect_of p t e) (led_unseen p t e (effect_of p t e)))) in
        subst (λ g. IsAlike (ended p s e (Handed requested)) (ended p t e g)) same
        (record { cpus = led.cpus; memory = led.memory; locks = led.locks; block = led.block; ich9 = led.ich9; fw_cfg = led.fw_cfg; stage = refl })

-- an access that stays inside locked memory is not seen at all
inside_unseen : (p : Platform) (k : ℕ) (in_smm : Bool) (a : Access) (s : State) → StaysInside s.locks a → IsAlike (access_effect p k in_smm a s) s
inside_unseen p k in_smm (Load addr width) s inside = alike_same s
inside_unseen p k in_smm (Store addr width value) s inside = alike_writes s s (stored s.locks in_smm addr width value s.writes) s.writes (alike_same s) (store_unseen s.locks in_smm addr width value s.writes inside)
inside_unseen p k in_smm (Swap addr old new) s inside = alike_writes s s (swapped s.locks in_smm addr old new s.writes) s.writes (alike_same s) (swap_unseen s.locks in_smm addr old new s.writes inside)
inside_unseen p k in_smm (In port width) s inside = absurd inside
inside_unseen p k in_smm (Out port width value) s inside = absurd inside
inside_unseen p k in_smm (CfgRead reg) s inside = alike_same s
inside_unseen p k in_smm (CfgWrite reg value) s inside = absurd inside
inside_unseen p k in_smm (Icr high low) s inside = absurd inside
inside_unseen p k in_smm Halt s inside = absurd inside
inside_unseen p k in_smm Nop s inside = alike_same s

after_unseen : (p : Platform) (e : Event) (s : State) → is_handed s.stage ≡ true → IsAlike (effect_of p s e) s → IsAlike (after p s e).state s
after_unseen p e s handed effect = by_stage s.stage handed refl
  where
    by_stage : (g : Stage) → is_handed g ≡ true → s.stage ≡ g → IsAlike (ended p s e g) s
    by_stage (Boots done supported) h is = absurd cc
    by_stage (Refused fact) h is = absurd cc
    by_stage (Handed requested) h is =
        let led = alike_then (handlers_effect p s e (effect_of p s e)) (effect_of p s e) s (led_unseen p s e (effect_of p s e)) effect in
        record { cpus = led.cpus; memory = led.memory; locks = led.locks; block = led.block; ich9 = led.ich9; fw_cfg = led.fw_cfg; stage = sym is }

pub same_answers : (p : Platform) (e : Event) (s t : State) → is_made_in_smm s e ≡ false → IsAlike s t → answer_of s e ≡ answer_of t e
same_answers p (Insert k) s t out h = refl
same_answers p (Remove k) s t out h = refl
same_answers p (Do k a) s t out h =
    let same = in_smm_alike (at s k) (at t k) (alike_at s.cpus t.cpus k h.cpus) in
    ap (λ b. answer_to b a s) out ∙ same_answer a s t h ∙ ap (λ b. answer_to b a t) (sym out ∙ same)
same_answers p (TakeSmi k) s t out h = refl
same_answers p (TakeInit k) s t out h = refl
same_answers p (Resume k) s t out h = refl
same_answers p (Tell o) s t out h = refl

-- what a step is
pub record Stepped (p : Platform) (s : State) (e : Event) (a : After) : Type 0 where
  pub enabled : is_enabled p s e ≡ true
  pub wanted : is_wanted p s e ≡ true
  pub is : after p s e ≡ a

pub stepped : (p : Platform) (s : State) (e : Event) (a : After) → step p s e ≡ Some a → Stepped p s e a
unfolding step
stepped p s e a is = by_tests (is_enabled p s e) (is_wanted p s e) refl refl is
  where
    by_tests : (b c : Bool) → is_enabled p s e ≡ b → is_wanted p s e ≡ c → cond (b && c) (Some (after p s e)) None ≡ Some a → Stepped p s e a
    by_tests true true here there f = record { enabled = here; wanted = there; is = same_Some (after p s e) a f }
    by_tests true false here there f = absurd cc
    by_tests false c here there f = absurd cc

pub step_alike : (p : Platform) (s t : State) (e : Event) (a b : After) → IsFit p → IsShielded p s → IsShielded p t → IsAlike s t → step p s e ≡ Some a → step p t e ≡ Some b → IsAlike a.state b.state
step_alike p s t e a b fit shut closed h here there =
    let f = stepped p s e a here in
    let g = stepped p t e b there in
    subst (λ x. IsAlike x.state b.state) f.is (subst (λ y. IsAlike (after p s e).state y.state) g.is (alike_after p e s t (has_tiles p fit) shut closed f.enabled g.enabled f.wanted h))

pub answer_alike : (p : Platform) (s t : State) (e : Event) (a b : After) → IsAlike s t → step p s e ≡ Some a → step p t e ≡ Some b → is_made_in_smm s e ≡ false → a.answer ≡ b.answer
answer_alike p s t e a b h here there out =
    let f = stepped p s e a here in
    let g = stepped p t e b there in
    ap (λ x. x.answer) (sym f.is) ∙ same_answers p e s t out h ∙ ap (λ x. x.answer) g.is

pub inside_alike : (p : Platform) (s : State) (k : ℕ) (a : Access) (b : After) → is_handed s.stage ≡ true → StaysInside s.locks a → step p s (Do k a) ≡ Some b → IsAlike b.state s
inside_alike p s k a b handed inside is =
    let f = stepped p s (Do k a) b is in
    subst (λ x. IsAlike x.state s) f.is (after_unseen p (Do k a) s handed (inside_unseen p k (is_in_smm (at s k).mode) a s inside))

-- the machine can do an event in both or in neither
pub stands_alike : (c d : Cpu) → AlikeCpu c d → stands_in_smm c ≡ stands_in_smm d
stands_alike c d e = sym (shown c) ∙ ap stands_in_smm e ∙ shown d
  where
    shown : (c : Cpu) → stands_in_smm (visible_cpu c) ≡ stands_in_smm c
    shown c = rw (smm_visible c.mode) refl

running_visible : (m : Mode) → is_running (visible_mode m) ≡ is_running m
running_visible Wait = refl
running_visible (Running page) = refl
running_visible (Halted page) = refl
running_visible (Smm address) = refl

outside_visible : (m : Mode) → is_outside (visible_mode m) ≡ is_outside m
outside_visible Wait = refl
outside_visible (Running page) = refl
outside_visible (Halted page) = refl
outside_visible (Smm address) = refl

pub access_alike : (late : Bool) (a : Access) (c d : Cpu) → AlikeCpu c d → may_access late c a ≡ may_access late d a
access_alike late a c d e = sym (shown c) ∙ ap (λ x. may_access late x a) e ∙ shown d
  where
    shown : (c : Cpu) → may_access late (visible_cpu c) a ≡ may_access late c a
    shown c = rw (running_visible c.mode, smm_visible c.mode) refl

can_alike : (late : Bool) (count : ℕ) (cs ds : List Cpu) (e : Event) → AlikeCpus cs ds → can_do late count cs e ≡ can_do late count ds e
can_alike late count cs ds (Insert k) h = ap (λ c. nat_lt k count && not c.present) (alike_at cs ds k h)
can_alike late count cs ds (Remove k) h = ap (λ c. not (k == 0) && c.present) (alike_at cs ds k h)
can_alike late count cs ds (Do k a) h = ap (λ b. is_normal a && b) (access_alike late a (cpu_at cs k) (cpu_at ds k) (alike_at cs ds k h))
can_alike late count cs ds (TakeSmi k) h = sym (shown (cpu_at cs k)) ∙ ap may_take_smi (alike_at cs ds k h) ∙ shown (cpu_at ds k)
  where
    shown : (c : Cpu) → may_take_smi (visible_cpu c) ≡ may_take_smi c
    shown c = rw (outside_visible c.mode) refl
can_alike late count cs ds (TakeInit k) h = sym (shown (cpu_at cs k)) ∙ ap may_take_init (alike_at cs ds k h) ∙ shown (cpu_at ds k)
  where
    shown : (c : Cpu) → may_take_init (visible_cpu c) ≡ may_take_init c
    shown c = rw (outside_visible c.mode) refl
can_alike late count cs ds (Resume k) h = stands_alike (cpu_at cs k) (cpu_at ds k) (alike_at cs ds k h)
can_alike late count cs ds (Tell o) h = stands_alike (cpu_at cs 0) (cpu_at ds 0) (alike_at cs ds 0 h)

-- and outside SMM each event that it can do is a step
wanted_outside : (p : Platform) (s : State) (e : Event) → is_made_in_smm s e ≡ false → is_handlers p s e ≡ true
wanted_outside p s (Insert k) out = refl
wanted_outside p s (Remove k) out = refl
wanted_outside p s (Do k a) out = rw out refl
wanted_outside p s (TakeSmi k) out = refl
wanted_outside p s (TakeInit k) out = refl
wanted_outside p s (Resume k) out = absurd cc
wanted_outside p s (Tell o) out = absurd cc

step_outside : (p : Platform) (s : State) (e : Event) → is_handed s.stage ≡ true → is_made_in_smm s e ≡ false → is_some (step p s e) ≡ is_enabled p s e
unfolding step
step_outside p s e handed out = by_test (is_enabled p s e) (is_wanted p s e) (by_stage s.stage handed)
  where
    by_stage : (g : Stage) → is_handed g ≡ true → wanted_in p s g e ≡ true
    by_stage (Boots done supported) h = absurd cc
    by_stage (Refused fact) h = absurd cc
    by_stage (Handed requested) h = wanted_outside p s e out

    by_test : (b c : Bool) → c ≡ true → is_some (cond (b && c) (Some (after p s e)) None) ≡ b
    by_test true true h = refl
    by_test true false h = absurd cc
    by_test false c h = refl

outside_alike : (s t : State) (e : Event) → IsAlike s t → is_made_in_smm s e ≡ is_made_in_smm t e
outside_alike s t (Insert k) h = refl
outside_alike s t (Remove k) h = refl
outside_alike s t (Do k a) h = in_smm_alike (at s k) (at t k) (alike_at s.cpus t.cpus k h.cpus)
outside_alike s t (TakeSmi k) h = refl
outside_alike s t (TakeInit k) h = refl
outside_alike s t (Resume k) h = refl
outside_alike s t (Tell o) h = refl

pub possible_alike : (p : Platform) (s t : State) (e : Event) → IsAlike s t → is_handed s.stage ≡ true → is_made_in_smm s e ≡ false → is_some (step p s e) ≡ is_some (step p t e)
possible_alike p s t e h handed out =
    step_outside p s e handed out ∙ can_alike (is_late p.delivery) (count_of p) s.cpus t.cpus e h.cpus
    ∙ sym (step_outside p t e (subst (λ g. is_handed g ≡ true) h.stage handed) (sym (outside_alike s t e h) ∙ out))
