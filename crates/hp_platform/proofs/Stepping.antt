-- What is due is a step of the actor, and where nothing is due it has none.
use Rattle.std.proofs.Common.{◌≡◌, ◌≢◌, inl, inr, ◌<◌, ℕ, zero, suc, ◌%◌, ◌^◌, arith, nat_lt, Bool, true, false, ◌&&◌, ◌||◌, not, ◌==◌, Option, Some, None, refl, sym, ap, subst, ◌∙◌, eqb-true}
use Rattle.std.specs.Prelude.{if◌then◌else◌}
use Rattle.std.proofs.lemmas.Bool.{lt-ltb}
use Rattle.std.proofs.Math.Nat.{mod-lt}
use Rattle.hp_model.specs.declared.platforms.Platform.{Platform}
use Rattle.hp_model.specs.declared.processors.Cpu.{Cpu}
use Rattle.hp_model.specs.declared.processors.Mode.{Mode}
use Rattle.hp_model.specs.declared.processors.Mode.TheVariants.{Wait, Running, Halted, Smm}
use Rattle.hp_model.specs.declared.accesses.Access.{Access}
use Rattle.hp_model.specs.declared.accesses.Access.TheVariants.{Load, Store, Swap, In, Out, CfgRead, CfgWrite, Icr, Halt, Nop}
use Rattle.hp_model.specs.declared.accesses.Want.{Want}
use Rattle.hp_model.specs.declared.accesses.Want.TheVariants as want
use Rattle.hp_model.specs.declared.entries.Actor.{Actor}
use Rattle.hp_model.specs.declared.entries.Actor.TheVariants as actor
use Rattle.hp_model.specs.declared.entries.Event.{Event}
use Rattle.hp_model.specs.declared.entries.Event.TheVariants as event
use Rattle.hp_model.specs.Boot.{Stage, Boots, Refused, Handed, boot_access, is_handed}
use Rattle.hp_model.specs.Cpu.{is_free, is_in_smm, is_running, is_unlatched, may_take_smi, may_take_init}
use Rattle.hp_model.specs.Platform.{is_late}
use Rattle.hp_model.specs.Runs.{IsStepBy, actor_of}
use Rattle.hp_model.specs.State.{State, at}
use Rattle.hp_model.specs.Access.{is_halt, is_memory_width, is_normal, is_port_width, may_access, normal, same_access, stands_in_smm}
use Rattle.hp_model.specs.Firmware.{is_boots, is_handlers, is_that_access, is_wanted, wanted, wanted_in, is_that_outcome, is_rsm}
use Rattle.hp_model.specs.Step.{after, is_enabled, step}
use Rattle.hp_model.proofs.Same.{same_access-equal, same_access-refl, same_outcome-refl}
use Rattle.hp_model.specs.declared.turns.Due.{Due}
use Rattle.hp_model.specs.declared.turns.Due.TheVariants.{Idle, Makes, Asks}
use Rattle.hp_platform.specs.Board.{is_step}
use Rattle.hp_model.specs.Turn.{makes_if, boot_due, smm_due, cpu_due, handed_due, due_in, due_of}
use Rattle.hp_platform.specs.Agents.{HasNone}
use Rattle.hp_platform.proofs.Leading.{left, right, that_access, that_outcome, that_rsm}

-- which event, which processor
abbrev made_in : Event → Due → Event
made_in x Idle = x
made_in x (Makes e) = e
made_in x (Asks k) = x

abbrev asked_in : ℕ → Due → ℕ
asked_in j Idle = j
asked_in j (Makes e) = j
asked_in j (Asks k) = k

pub record IsMakes (p : Platform) (s : State) (a : Actor) (e : Event) : Type 0 where
  pub step : is_step p s e ≡ true
  pub actor : IsStepBy (is_late p.delivery) a e

-- what holds of who an event belongs to, and of an SMI whose taking it is, holds of each actor whose step it is
pub by_actor : (late : Bool) (P : Actor → Type 0) (a : Actor) (x : Event) → IsStepBy late a x → P (actor_of late x) → ((k : ℕ) → x ≡ event.TakeSmi k → P (actor.Smi k)) → P a
by_actor late P a x (inl e) own smi = subst P e own
by_actor late P a x (inr h) own smi = subst P (sym h.1) (smi h.0 h.2)

-- modes and latches
and_off : (a : Bool) → (a && false) ≡ false
and_off true = refl
and_off false = refl

or_on : (a : Bool) → (a || true) ≡ true
or_on true = refl
or_on false = refl

both : (a b : Bool) → a ≡ true → b ≡ true → (a && b) ≡ true
both a b e f = rw (e, f) refl

-- SMIs that come at once
pub prompt_of : (late b : Bool) → (not late && b) ≡ true → late ≡ false
prompt_of true b e = cc
prompt_of false b e = refl

running_not_smm : (m : Mode) → is_running m ≡ true → is_in_smm m ≡ false
running_not_smm Wait e = cc
running_not_smm (Running page) e = refl
running_not_smm (Halted page) e = cc
running_not_smm (Smm address) e = cc

free_not_smm : (late : Bool) (c : Cpu) → is_free late c ≡ true → is_in_smm c.mode ≡ false
free_not_smm late c e = running_not_smm c.mode (left (is_running c.mode) (is_unlatched late c) (right c.present (is_running c.mode && is_unlatched late c) e))

-- an event that is made if it can be
opened : (b : Bool) (x e : Event) → (if b then Makes x else Idle) ≡ Makes e → (b ≡ true) × (x ≡ e)
opened true x e h = (refl, ap (made_in x) h)
opened false x e h = cc

module _ (p : Platform) (s : State) where
  abbrev late : Bool
  late = is_late p.delivery

  -- before the hand-over
  module _ (done supported : ℕ) (stage : s.stage ≡ Boots done supported) where
    abbrev next : Access
    next = boot_access p.tseg_mib supported done

    wants_boots : (x : Event) → is_wanted p s x ≡ is_boots p.tseg_mib done supported x
    wants_boots x = ap (λ (st : Stage). wanted_in p s st x) stage

    boot_makes : (k : ℕ) (e : Event) → boot_due p s done supported (actor.Cpu k) ≡ Makes e → IsMakes p s (actor.Cpu k) e
    boot_makes k e due = first (k == 0) refl due
      where
        first : (b : Bool) → (k == 0) ≡ b → (if b then makes_if p s (event.Do 0 next) else Idle) ≡ Makes e → IsMakes p s (actor.Cpu k) e
        first false is due = cc
        first true is due =
            let made = opened (is_enabled p s (event.Do 0 next)) (event.Do 0 next) e due in
            subst (λ (x : Event). IsMakes p s (actor.Cpu k) x) made.1 (record {
              step = both (is_enabled p s (event.Do 0 next)) (is_wanted p s (event.Do 0 next)) made.0 (wants_boots (event.Do 0 next) ∙ same_access-refl next);
              actor = inl (ap (λ (j : ℕ). actor.Cpu j) (sym (eqb-true k 0 is)));
            })

    boot_some : (a : Actor) (x : Event) → IsStepBy late a x → is_step p s x ≡ true → boot_due p s done supported a ≢ Idle
    boot_some a x its is =
        by_actor late (λ (b : Actor). boot_due p s done supported b ≢ Idle) a x its (λ idle. by x (left (is_enabled p s x) (is_wanted p s x) is) wants idle)
        (λ k taken idle. absurd (let wrong : false ≡ true = subst (λ (y : Event). is_boots p.tseg_mib done supported y ≡ true) taken wants in cc))
      where
        wants : is_boots p.tseg_mib done supported x ≡ true
        wants = sym (wants_boots x) ∙ right (is_enabled p s x) (is_wanted p s x) is

        by : (x : Event) → is_enabled p s x ≡ true → is_boots p.tseg_mib done supported x ≡ true → boot_due p s done supported (actor_of late x) ≡ Idle → ⊥
        by (event.Insert k) can wants idle = cc
        by (event.Remove k) can wants idle = cc
        by (event.Do k a) can wants idle =
            let first : (k == 0) ≡ true = left (k == 0) (same_access a next) wants in
            let here : k ≡ 0 = eqb-true k 0 first in
            let equal : a ≡ next = same_access-equal a next (right (k == 0) (same_access a next) wants) in
            let able : is_enabled p s (event.Do 0 next) ≡ true = subst (λ (b : Access). is_enabled p s (event.Do 0 b) ≡ true) equal (subst (λ (j : ℕ). is_enabled p s (event.Do j a) ≡ true) here can) in
            let due : boot_due p s done supported (actor.Cpu k) ≡ Makes (event.Do 0 next) = rw (first, able) refl in
            absurd (let wrong : Makes (event.Do 0 next) ≡ Idle = sym due ∙ idle in cc)
        by (event.TakeSmi k) can wants idle = cc
        by (event.TakeInit k) can wants idle = cc
        by (event.Resume k) can wants idle = cc
        by (event.Tell o) can wants idle = cc

  -- after it
  module _ (requested : ℕ) (stage : s.stage ≡ Handed requested) where
    wants_handed : (x : Event) → is_wanted p s x ≡ is_handlers p s x
    wants_handed x = ap (λ (st : Stage). wanted_in p s st x) stage

    is_made : (x : Event) → is_enabled p s x ≡ true → is_handlers p s x ≡ true → is_step p s x ≡ true
    is_made x can wants = both (is_enabled p s x) (is_wanted p s x) can (wants_handed x ∙ wants)

    makes : (k : ℕ) (x e : Event) → actor_of late x ≡ actor.Cpu k → is_handlers p s x ≡ true → makes_if p s x ≡ Makes e → IsMakes p s (actor.Cpu k) e
    makes k x e its wants due =
        let made = opened (is_enabled p s x) x e due in
        subst (λ (y : Event). IsMakes p s (actor.Cpu k) y) made.1 (record { step = is_made x made.0 wants; actor = inl its })

    smm_makes : (k : ℕ) (e : Event) → (o : Option Want) → wanted p s k ≡ o → smm_due p s k o ≡ Makes e → IsMakes p s (actor.Cpu k) e
    smm_makes k e None is due = cc
    smm_makes k e (Some (want.Do a)) is due =
        makes k (event.Do k a) e refl
        (ap (λ (b : Bool). not (is_in_smm (at s k).mode) || b) (ap (λ (o : Option Want). is_that_access o a) is ∙ same_access-refl a) ∙ or_on (not (is_in_smm (at s k).mode))) due
    smm_makes k e (Some (want.Tell o)) is due = first (k == 0) refl due
      where
        first : (b : Bool) → (k == 0) ≡ b → (if b then makes_if p s (event.Tell o) else Idle) ≡ Makes e → IsMakes p s (actor.Cpu k) e
        first false at0 due = cc
        first true at0 due =
            let zero_is : k ≡ 0 = eqb-true k 0 at0 in
            makes k (event.Tell o) e (ap (λ (j : ℕ). actor.Cpu j) (sym zero_is))
            (ap (λ (w : Option Want). is_that_outcome w o) (ap (λ (j : ℕ). wanted p s j) (sym zero_is) ∙ is) ∙ same_outcome-refl o) due
    smm_makes k e (Some want.Resume) is due = makes k (event.Resume k) e refl (ap is_rsm is) due

    cpu_makes : (k : ℕ) (e : Event) → cpu_due p s k ≡ Makes e → IsMakes p s (actor.Cpu k) e
    cpu_makes k e due = smi (not late && may_take_smi (at s k)) refl due
      where
        free : (b : Bool) → (if b then Asks k else Idle) ≡ Makes e → IsMakes p s (actor.Cpu k) e
        free true due = cc
        free false due = cc

        smm : (b : Bool) → stands_in_smm (at s k) ≡ b → (if b then smm_due p s k (wanted p s k) else if is_free late (at s k) then Asks k else Idle) ≡ Makes e → IsMakes p s (actor.Cpu k) e
        smm true is due = smm_makes k e (wanted p s k) refl due
        smm false is due = free (is_free late (at s k)) due

        init : (b : Bool) → may_take_init (at s k) ≡ b
            → (if b then Makes (event.TakeInit k) else if stands_in_smm (at s k) then smm_due p s k (wanted p s k) else if is_free late (at s k) then Asks k else Idle) ≡ Makes e → IsMakes p s (actor.Cpu k) e
        init true is due =
            subst (λ (x : Event). IsMakes p s (actor.Cpu k) x) (ap (made_in (event.TakeInit k)) due)
            (record { step = is_made (event.TakeInit k) is refl; actor = inl refl })
        init false is due = smm (stands_in_smm (at s k)) refl due

        smi : (b : Bool) → (not late && may_take_smi (at s k)) ≡ b
            → (if b then Makes (event.TakeSmi k) else if may_take_init (at s k) then Makes (event.TakeInit k) else if stands_in_smm (at s k) then smm_due p s k (wanted p s k) else if is_free late (at s k) then Asks k else Idle) ≡ Makes e
            → IsMakes p s (actor.Cpu k) e
        smi true is due =
            subst (λ (x : Event). IsMakes p s (actor.Cpu k) x) (ap (made_in (event.TakeSmi k)) due)
            (record {
              step = is_made (event.TakeSmi k) (right (not late) (may_take_smi (at s k)) is) refl;
              actor = inl (ap (λ (b : Bool). if b then actor.Smi k else actor.Cpu k) (prompt_of late (may_take_smi (at s k)) is));
            })
        smi false is due = init (may_take_init (at s k)) refl due

    handed_makes : (a : Actor) (e : Event) → handed_due p s a ≡ Makes e → IsMakes p s a e
    handed_makes (actor.Insert k) e due =
        let made = opened (is_enabled p s (event.Insert k)) (event.Insert k) e due in
        subst (λ (x : Event). IsMakes p s (actor.Insert k) x) made.1 (record { step = is_made (event.Insert k) made.0 refl; actor = inl refl })
    handed_makes (actor.Remove k) e due =
        let made = opened (is_enabled p s (event.Remove k)) (event.Remove k) e due in
        subst (λ (x : Event). IsMakes p s (actor.Remove k) x) made.1 (record { step = is_made (event.Remove k) made.0 refl; actor = inl refl })
    handed_makes (actor.Cpu k) e due = cpu_makes k e due
    handed_makes (actor.Smi k) e due =
        let made = opened (is_enabled p s (event.TakeSmi k)) (event.TakeSmi k) e due in
        subst (λ (x : Event). IsMakes p s (actor.Smi k) x) made.1 (record { step = is_made (event.TakeSmi k) made.0 refl; actor = inr (k, refl, refl) })

    -- an event of a processor that is a step makes its turn due
    past_smi : (k : ℕ) (x : Event) (b : Bool) (d : Due) → d ≢ Idle → (if b then Makes x else d) ≢ Idle
    past_smi k x true d some idle = cc
    past_smi k x false d some idle = some idle

    made_due : (x : Event) → is_enabled p s x ≡ true → makes_if p s x ≢ Idle
    made_due x can idle = let due : makes_if p s x ≡ Makes x = rw can refl in absurd (let wrong : Makes x ≡ Idle = sym due ∙ idle in cc)

    smm_some : (k : ℕ) → stands_in_smm (at s k) ≡ true → smm_due p s k (wanted p s k) ≢ Idle → cpu_due p s k ≢ Idle
    smm_some k here some =
        past_smi k (event.TakeSmi k) (not late && may_take_smi (at s k)) _
        (past_smi k (event.TakeInit k) (may_take_init (at s k)) _
        (subst (λ (b : Bool). ((if b then smm_due p s k (wanted p s k) else if is_free late (at s k) then Asks k else Idle) ≢ Idle)) (sym here) some))

    free_some : (k : ℕ) → is_free late (at s k) ≡ true → cpu_due p s k ≢ Idle
    free_some k free =
        past_smi k (event.TakeSmi k) (not late && may_take_smi (at s k)) _
        (past_smi k (event.TakeInit k) (may_take_init (at s k)) _
        (subst (λ (b : Bool). ((if b then smm_due p s k (wanted p s k) else if is_free late (at s k) then Asks k else Idle) ≢ Idle)) (sym outside)
        (subst (λ (b : Bool). ((if b then Asks k else Idle) ≢ Idle)) (sym free) (λ e. cc))))
      where
        outside : stands_in_smm (at s k) ≡ false
        outside = rw (free_not_smm late (at s k) free, and_off) refl

    do_some : (k : ℕ) (a : Access) → is_enabled p s (event.Do k a) ≡ true → is_handlers p s (event.Do k a) ≡ true → cpu_due p s k ≢ Idle
    do_some k a can wants = by (is_free late (at s k)) refl
      where
        in_smm : is_free late (at s k) ≡ false → stands_in_smm (at s k) ≡ true
        in_smm busy = left (stands_in_smm (at s k)) (not (is_halt a)) (subst (λ (b : Bool). (b || (stands_in_smm (at s k) && not (is_halt a))) ≡ true) busy (right (is_normal a) (may_access late (at s k) a) can))

        by : (b : Bool) → is_free late (at s k) ≡ b → cpu_due p s k ≢ Idle
        by true free = free_some k free
        by false busy =
            let here = in_smm busy in
            let that : is_that_access (wanted p s k) a ≡ true =
            subst (λ (b : Bool). (not b || is_that_access (wanted p s k) a) ≡ true) (right (at s k).present (is_in_smm (at s k).mode) here) wants in
            smm_some k here (subst (λ (o : Option Want). (smm_due p s k o ≢ Idle)) (sym (that_access (wanted p s k) a that)) (made_due (event.Do k a) can))

    cpu_some : (x : Event) → is_enabled p s x ≡ true → is_handlers p s x ≡ true → handed_due p s (actor_of late x) ≢ Idle
    cpu_some (event.Insert k) can wants = made_due (event.Insert k) can
    cpu_some (event.Remove k) can wants = made_due (event.Remove k) can
    cpu_some (event.Do k a) can wants = do_some k a can wants
    cpu_some (event.TakeSmi k) can wants = by late refl
      where
        by : (b : Bool) → late ≡ b → handed_due p s (if b then actor.Smi k else actor.Cpu k) ≢ Idle
        by true comes = made_due (event.TakeSmi k) can
        by false comes =
            let now : (not late && may_take_smi (at s k)) ≡ true = rw comes can in
            subst (λ (b : Bool). ((if b then Makes (event.TakeSmi k) else if may_take_init (at s k) then Makes (event.TakeInit k) else if stands_in_smm (at s k) then smm_due p s k (wanted p s k) else if is_free late (at s k) then Asks k else Idle) ≢ Idle)) (sym now) (λ e. cc)
    cpu_some (event.TakeInit k) can wants =
        past_smi k (event.TakeSmi k) (not late && may_take_smi (at s k)) _
        (subst (λ (b : Bool). ((if b then Makes (event.TakeInit k) else if stands_in_smm (at s k) then smm_due p s k (wanted p s k) else if is_free late (at s k) then Asks k else Idle) ≢ Idle)) (sym can) (λ e. cc))
    cpu_some (event.Resume k) can wants =
        smm_some k can (subst (λ (o : Option Want). (smm_due p s k o ≢ Idle)) (sym (that_rsm (wanted p s k) wants)) (made_due (event.Resume k) can))
    cpu_some (event.Tell o) can wants =
        let told = that_outcome (wanted p s 0) o wants in
        smm_some 0 can (subst (λ (w : Option Want). (smm_due p s 0 w ≢ Idle)) (sym told.is) (made_due (event.Tell told.outcome) can))

    handed_some : (a : Actor) (x : Event) → IsStepBy late a x → is_enabled p s x ≡ true → is_handlers p s x ≡ true → handed_due p s a ≢ Idle
    handed_some a x its can wants =
        by_actor late (λ (b : Actor). handed_due p s b ≢ Idle) a x its (cpu_some x can wants)
        (λ k taken. made_due (event.TakeSmi k) (subst (λ (y : Event). is_enabled p s y ≡ true) taken can))

-- what is due is a step of the actor
pub makes_is : (p : Platform) (s : State) (a : Actor) (e : Event) → due_of p s a ≡ Makes e → IsMakes p s a e
makes_is p s a e due = by s.stage refl due
  where
    by : (st : Stage) → s.stage ≡ st → due_in p s st a ≡ Makes e → IsMakes p s a e
    by (Boots done supported) is due = boots a due
      where
        boots : (a : Actor) → boot_due p s done supported a ≡ Makes e → IsMakes p s a e
        boots (actor.Insert k) due = cc
        boots (actor.Remove k) due = cc
        boots (actor.Cpu k) due = boot_makes p s done supported is k e due
        boots (actor.Smi k) due = cc
    by (Refused fact) is due = cc
    by (Handed requested) is due = handed_makes p s requested is a e due

-- where nothing is due the actor has no step
pub unmade : (p : Platform) (s : State) (x : Event) → is_step p s x ≡ false → step p s x ≡ None
unfolding step
unmade p s x e = ap (λ (b : Bool). if b then Some (after p s x) else None) e

not_true : (b : Bool) → (b ≡ true → ⊥) → b ≡ false
not_true true never = absurd (never refl)
not_true false never = refl

pub idle_none : (p : Platform) (s : State) (a : Actor) → due_of p s a ≡ Idle → HasNone p s a
idle_none p s a idle = record { none = λ x its. unmade p s x (not_true (is_step p s x) (λ is. some x its is)) }
  where
    some : (x : Event) → IsStepBy (is_late p.delivery) a x → is_step p s x ≡ true → ⊥
    some x its is = by s.stage refl idle
      where
        by : (st : Stage) → s.stage ≡ st → due_in p s st a ≡ Idle → ⊥
        by (Boots done supported) at0 none = boot_some p s done supported at0 a x its is none
        by (Refused fact) at0 none =
            let wrong : false ≡ true = sym (ap (λ (st : Stage). wanted_in p s st x) at0) ∙ right (is_enabled p s x) (is_wanted p s x) is in
            cc
        by (Handed requested) at0 none =
            handed_some p s requested at0 a x its (left (is_enabled p s x) (is_wanted p s x) is) (sym (wants_handed p s requested at0 x) ∙ right (is_enabled p s x) (is_wanted p s x) is) none

-- a voice is asked, of a processor outside SMM, and any access that it says is a step, as the machine takes it
pub record IsAsks (p : Platform) (s : State) (a : Actor) (k : ℕ) : Type 0 where
  pub handed : is_handed s.stage ≡ true
  pub outside : is_in_smm (at s k).mode ≡ false
  pub actor : a ≡ actor.Cpu k
  pub step : (x : Access) → is_step p s (event.Do k (normal x)) ≡ true

-- accesses as the machine takes them are normal
pos_of : (n : ℕ) → 0 < 256 ^ n
pos_of zero = omega arith
pos_of (suc n) = omega (arith, pos_of n)

cut_fits : (w value : ℕ) → nat_lt (value % 256 ^ w) (256 ^ w) ≡ true
cut_fits w value = lt-ltb (value % 256 ^ w) (256 ^ w) (mod-lt value (pos_of w))

normal_load : (addr w : ℕ) (b : Bool) → is_memory_width w ≡ b → is_normal (if b then Load addr w else Nop) ≡ true
normal_load addr w true e = e
normal_load addr w false e = refl

normal_store : (addr w value : ℕ) (b : Bool) → is_memory_width w ≡ b → is_normal (if b then Store addr w (value % 256 ^ w) else Nop) ≡ true
normal_store addr w value true e = both (is_memory_width w) (nat_lt (value % 256 ^ w) (256 ^ w)) e (cut_fits w value)
normal_store addr w value false e = refl

normal_in : (port w : ℕ) (b : Bool) → is_port_width w ≡ b → is_normal (if b then In port w else Nop) ≡ true
normal_in port w true e = e
normal_in port w false e = refl

normal_out : (port w value : ℕ) (b : Bool) → is_port_width w ≡ b → is_normal (if b then Out port w (value % 256 ^ w) else Nop) ≡ true
normal_out port w value true e = both (is_port_width w) (nat_lt (value % 256 ^ w) (256 ^ w)) e (cut_fits w value)
normal_out port w value false e = refl

normal_is : (a : Access) → is_normal (normal a) ≡ true
normal_is (Load addr w) = normal_load addr w (is_memory_width w) refl
normal_is (Store addr w value) = normal_store addr w value (is_memory_width w) refl
normal_is (Swap addr expected desired) = refl
normal_is (In port w) = normal_in port w (is_port_width w) refl
normal_is (Out port w value) = normal_out port w value (is_port_width w) refl
normal_is (CfgRead reg) = refl
normal_is (CfgWrite reg value) = refl
normal_is (Icr high low) = refl
normal_is Halt = refl
normal_is Nop = refl

module _ (p : Platform) (s : State) where
  free_asks : (requested : ℕ) → s.stage ≡ Handed requested → (k : ℕ) → is_free (is_late p.delivery) (at s k) ≡ true → IsAsks p s (actor.Cpu k) k
  free_asks requested stage k free = record {
    handed = ap is_handed stage;
    outside = free_not_smm (is_late p.delivery) (at s k) free;
    actor = refl;
    step = λ x.
        is_made p s requested stage (event.Do k (normal x)) (both (is_normal (normal x)) (may_access (is_late p.delivery) (at s k) (normal x)) (normal_is x) (ap (λ (b : Bool). b || (stands_in_smm (at s k) && not (is_halt (normal x)))) free))
        (ap (λ (b : Bool). not b || is_that_access (wanted p s k) (normal x)) (free_not_smm (is_late p.delivery) (at s k) free));
  }

  if_asks : (b : Bool) (x : Event) (k : ℕ) → (if b then Makes x else Idle) ≢ Asks k
  if_asks true x k e = cc
  if_asks false x k e = cc

  smm_asks : (k j : ℕ) (o : Option Want) → smm_due p s k o ≢ Asks j
  smm_asks k j None e = cc
  smm_asks k j (Some (want.Do a)) e = if_asks (is_enabled p s (event.Do k a)) (event.Do k a) j e
  smm_asks k j (Some (want.Tell o)) e = first (k == 0) e
    where
      first : (b : Bool) → (if b then makes_if p s (event.Tell o) else Idle) ≡ Asks j → ⊥
      first true e = if_asks (is_enabled p s (event.Tell o)) (event.Tell o) j e
      first false e = cc
  smm_asks k j (Some want.Resume) e = if_asks (is_enabled p s (event.Resume k)) (event.Resume k) j e

  cpu_asks : (requested : ℕ) → s.stage ≡ Handed requested → (k j : ℕ) → cpu_due p s k ≡ Asks j → IsAsks p s (actor.Cpu k) j
  cpu_asks requested stage k j due = smi (not (is_late p.delivery) && may_take_smi (at s k)) due
    where
      free : (b : Bool) → is_free (is_late p.delivery) (at s k) ≡ b → (if b then Asks k else Idle) ≡ Asks j → IsAsks p s (actor.Cpu k) j
      free true is due = subst (λ (i : ℕ). IsAsks p s (actor.Cpu k) i) (ap (asked_in k) due) (free_asks requested stage k is)
      free false is due = cc

      smm : (b : Bool) → (if b then smm_due p s k (wanted p s k) else if is_free (is_late p.delivery) (at s k) then Asks k else Idle) ≡ Asks j → IsAsks p s (actor.Cpu k) j
      smm true due = absurd (smm_asks k j (wanted p s k) due)
      smm false due = free (is_free (is_late p.delivery) (at s k)) refl due

      init : (b : Bool) → (if b then Makes (event.TakeInit k) else if stands_in_smm (at s k) then smm_due p s k (wanted p s k) else if is_free (is_late p.delivery) (at s k) then Asks k else Idle) ≡ Asks j → IsAsks p s (actor.Cpu k) j
      init true due = cc
      init false due = smm (stands_in_smm (at s k)) due

      smi : (b : Bool)
          → (if b then Makes (event.TakeSmi k) else if may_take_init (at s k) then Makes (event.TakeInit k) else if stands_in_smm (at s k) then smm_due p s k (wanted p s k) else if is_free (is_late p.delivery) (at s k) then Asks k else Idle) ≡ Asks j
          → IsAsks p s (actor.Cpu k) j
      smi true due = cc
      smi false due = init (may_take_init (at s k)) due

  boot_asks : (done supported : ℕ) (a : Actor) (j : ℕ) → boot_due p s done supported a ≢ Asks j
  boot_asks done supported (actor.Insert k) j e = cc
  boot_asks done supported (actor.Remove k) j e = cc
  boot_asks done supported (actor.Smi k) j e = cc
  boot_asks done supported (actor.Cpu k) j e = first (k == 0) e
    where
      first : (b : Bool) → (if b then makes_if p s (event.Do 0 (boot_access p.tseg_mib supported done)) else Idle) ≡ Asks j → ⊥
      first true e = if_asks (is_enabled p s (event.Do 0 (boot_access p.tseg_mib supported done))) (event.Do 0 (boot_access p.tseg_mib supported done)) j e
      first false e = cc

  handed_asks : (requested : ℕ) → s.stage ≡ Handed requested → (a : Actor) (j : ℕ) → handed_due p s a ≡ Asks j → IsAsks p s a j
  handed_asks requested stage (actor.Insert k) j due = absurd (if_asks (is_enabled p s (event.Insert k)) (event.Insert k) j due)
  handed_asks requested stage (actor.Remove k) j due = absurd (if_asks (is_enabled p s (event.Remove k)) (event.Remove k) j due)
  handed_asks requested stage (actor.Cpu k) j due = cpu_asks requested stage k j due
  handed_asks requested stage (actor.Smi k) j due = absurd (if_asks (is_enabled p s (event.TakeSmi k)) (event.TakeSmi k) j due)

-- where a voice is asked, any access that it says is a step, as the machine takes it
pub asks_is : (p : Platform) (s : State) (a : Actor) (k : ℕ) → due_of p s a ≡ Asks k → IsAsks p s a k
asks_is p s a k due = by s.stage refl due
  where
    by : (st : Stage) → s.stage ≡ st → due_in p s st a ≡ Asks k → IsAsks p s a k
    by (Boots done supported) is due = absurd (boot_asks p s done supported a k due)
    by (Refused fact) is due = cc
    by (Handed requested) is due = handed_asks p s requested is a k due
