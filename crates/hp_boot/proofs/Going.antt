-- The boot access by access: what a turn leads to where processor 0 is free to make the next access.
use Rattle.std.proofs.Common.{◌≡◌, ℕ, suc, Bool, true, false, ◌&&◌, List, replicate, Option, Some, refl, ap, ◌∙◌}
use Rattle.std.proofs.lemmas.Bool.{and_from, or_left, cond-true}
use Rattle.hp_model.specs.declared.platforms.Platform.{Platform}
use Rattle.hp_model.specs.Platform.{is_late}
use Rattle.hp_model.specs.declared.accesses.Access.{Access}
use Rattle.hp_model.specs.declared.entries.Actor.TheVariants.{Cpu}
use Rattle.hp_model.specs.declared.entries.Event.TheVariants.{Do}
use Rattle.hp_model.specs.declared.labels.Label.TheVariants.{S0}
use Rattle.hp_model.specs.declared.outcomes.BootFact.{BootFact}
use Rattle.hp_model.specs.declared.processors.Cpu.{Cpu as OneCpu}
use Rattle.hp_model.specs.Cpu.{is_free, is_in_smm, cpu_at, cpus_start}
use Rattle.hp_model.specs.Boot.{Stage, Boots, Refused, boot_access, stage_after}
use Rattle.hp_model.specs.State.{State, at as state_cpu}
use Rattle.hp_model.specs.Ports.{writes_block}
use Rattle.hp_model.specs.Access.{is_normal, same_access, access_effect, answer_to}
use Rattle.hp_model.specs.Firmware.{is_wanted, wanted_in, with_agreed, firmware_effect}
use Rattle.hp_model.specs.Step.{After, is_enabled, effect_of, answer_of, disturbs, after, step}
use Rattle.hp_model.specs.Schedule.{Scene, Made, made_by, act, act_all}
use Rattle.hp_model.proofs.Same.{same_access-refl}
use Rattle.hp_boot.proofs.Turns.{all_refused, act_boots}
use Rattle.hp_boot.proofs.Outside.{IsOutside-start}
use Rattle.hp_boot.proofs.Start.{Facts, starts_free}

-- where the boot stands after so many turns of processor 0, from a state on
abbrev pub Ends : Platform → ℕ → State → Stage → Type 0
Ends p n s end = (w : Scene) → w.state ≡ s → (act_all p w (replicate n (Cpu 0))).scene.state.stage ≡ end

pub ends_now : (p : Platform) (s : State) → Ends p 0 s s.stage
unfolding act_all
ends_now p s w at = ap (λ (t : State). t.stage) at

pub ends_refused : (p : Platform) (n : ℕ) (s : State) (fact : BootFact) → s.stage ≡ Refused fact → Ends p n s (Refused fact)
ends_refused p n s fact refused w at =
    let same : w.state.stage ≡ Refused fact = ap (λ (t : State). t.stage) at ∙ refused in
    ap (λ (m : Made). m.scene.state.stage) (all_refused p w fact (replicate n (Cpu 0)) same) ∙ same

and_none : (b : Bool) → (b && false) ≡ false
and_none true = refl
and_none false = refl

module _ (p : Platform) (f : Facts p) where
  -- the state after an access of processor 0, outside SMM, which tells the monarch what was agreed on
  abbrev pub made : Access → State → State
  made a s = record (with_agreed (access_effect p 0 false a s)) { stage = stage_after p.tseg_mib (answer_to false a s) s.stage; disturbed = false }

  module _ (s : State) (done supported : ℕ) (a : Access) (cpus : s.cpus ≡ cpus_start p) (boots : s.stage ≡ Boots done supported) (quiet : s.disturbed ≡ false) (first : s.monarch.label ≡ S0)
      (is : boot_access p.tseg_mib supported done ≡ a) (normal : is_normal a ≡ true) where
    outside : is_in_smm (state_cpu s 0).mode ≡ false
    outside = ap (λ (cs : List OneCpu). is_in_smm (cpu_at cs 0).mode) cpus ∙ IsOutside-start p

    -- no session has begun that it could disturb
    undisturbed : disturbs s 0 a ≡ false
    undisturbed = rw (outside, quiet, first) (and_none (writes_block a))

    enabled : is_enabled p s (Do 0 a) ≡ true
    enabled =
        let late : Bool = is_late p.delivery in
        let free : is_free late (state_cpu s 0) ≡ true = ap (λ (cs : List OneCpu). is_free late (cpu_at cs 0)) cpus ∙ starts_free p late f in
        and_from (is_normal a) _ normal (or_left (is_free late (state_cpu s 0)) _ free)

    wanted : is_wanted p s (Do 0 a) ≡ true
    wanted = ap (λ (t : Stage). wanted_in p s t (Do 0 a)) boots ∙ ap (same_access a) is ∙ same_access-refl a

    stepped : step p s (Do 0 a) ≡ Some (after p s (Do 0 a))
    unfolding step
    stepped = cond-true (is_enabled p s (Do 0 a) && is_wanted p s (Do 0 a)) _ _ (and_from (is_enabled p s (Do 0 a)) (is_wanted p s (Do 0 a)) enabled wanted)

    after_made : (after p s (Do 0 a)).state ≡ made a s
    after_made =
        let next : Stage = stage_after p.tseg_mib (answer_of s (Do 0 a)) s.stage in
        ap (λ (d : Bool). record (firmware_effect p s s.stage (Do 0 a) (effect_of p s (Do 0 a))) { stage = next; disturbed = d }) undisturbed
        ∙ ap (λ (t : Stage). record (firmware_effect p s t (Do 0 a) (effect_of p s (Do 0 a))) { stage = next; disturbed = false }) boots
        ∙ ap (λ (b : Bool). record (with_agreed (access_effect p 0 b a s)) { stage = stage_after p.tseg_mib (answer_to b a s) s.stage; disturbed = false }) outside

    turned : (w : Scene) → w.state ≡ s → (act p w (Cpu 0)).scene.state ≡ made a s
    turned w at =
        let state_of : Option After → State = λ (o : Option After). (made_by w (Do 0 a) w.voices (λ answer. w.last) o).scene.state in
        ap (λ (m : Made). m.scene.state) (act_boots p w done supported (ap (λ (t : State). t.stage) at ∙ boots))
        ∙ ap (λ (b : Access). (made_by w (Do 0 b) w.voices (λ answer. w.last) (step p w.state (Do 0 b))).scene.state) is
        ∙ ap (λ (t : State). state_of (step p t (Do 0 a))) at
        ∙ ap state_of stepped
        ∙ after_made

    pub ends_later : (n : ℕ) (end : Stage) (t : State) → made a s ≡ t → Ends p n t end → Ends p (suc n) s end
    unfolding act_all
    ends_later n end t is later w at = later (act p w (Cpu 0)).scene (turned w at ∙ is)
