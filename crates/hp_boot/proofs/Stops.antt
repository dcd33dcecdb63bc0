-- A refused boot ends with the access that read the fact's value.
use Rattle.std.proofs.Common.{◌≡◌, ◌≢◌, ◌⊎◌, inl, inr, ℕ, zero, suc, Bool, true, false, not, ◌&&◌, ◌==◌, ◌+◌, ◌%◌, ◌<◌, List, [], ◌∷◌, replicate, Option, Some, None, refl, sym, ap, subst, ◌∙◌, arith, if◌then◌else◌}
use Rattle.std.proofs.lemmas.Option.{same_Some, none-some}
use Rattle.std.proofs.lemmas.Bool.{eqb-false, eqb-true, cond_both}
use Rattle.hp_model.specs.declared.accesses.Access.TheVariants.{In, CfgRead}
use Rattle.hp_model.specs.declared.platforms.Platform.{Platform}
use Rattle.hp_model.specs.declared.accesses.Access.{Access}
use Rattle.hp_model.specs.declared.accesses.Answer.{Answer}
use Rattle.hp_model.specs.declared.accesses.Answer.TheVariants.{Value}
use Rattle.hp_model.specs.declared.entries.Actor.{Actor}
use Rattle.hp_model.specs.declared.entries.Actor.TheVariants as actor
use Rattle.hp_model.specs.declared.entries.Event.TheVariants.{Do}
use Rattle.hp_model.specs.declared.entries.Entry.{Entry}
use Rattle.hp_model.specs.declared.outcomes.BootFact.{BootFact}
use Rattle.hp_model.specs.declared.outcomes.BootFact.TheVariants.{NotModern, NoDefaultSmram, NotNegotiated, NoExtTseg}
use Rattle.hp_model.specs.declared.processors.Cpu.{Cpu}
use Rattle.hp_model.specs.declared.processors.Mode.{Mode}
use Rattle.hp_model.specs.declared.processors.Mode.TheVariants.{Wait, Running, Halted, Smm}
use Rattle.hp_model.specs.Cpu.{is_in_smm, address_in, smm_address}
use Rattle.hp_model.specs.Boot.{Stage, Boots, Refused, Handed, boot_accesses, boot_access, boot_refusal, ext_count, value_in, stage_after, stage_by, fact_of}
use Rattle.hp_model.specs.State.{State, at}
use Rattle.hp_model.specs.Access.{answer_to}
use Rattle.hp_model.specs.Firmware.{firmware_effect}
use Rattle.hp_model.specs.Step.{After, effect_of, after, step}
use Rattle.hp_model.specs.Voices.{Voice}
use Rattle.hp_model.specs.Schedule.{Scene, Made, makes_none, both_make, made_by, entry_of, act, act_all, booted, boot_fact, boot_turns, scene_start}
use Rattle.hp_boot.specs.Ending.{reads_fact, IsRefusing, StopsAt}
use Rattle.hp_boot.proofs.Parts.{at_ext, at_ok}
use Rattle.hp_boot.proofs.Tail.{head_fact, head_refusal, ok_refusal, wide_refusal}
use Rattle.hp_boot.proofs.Turns.{all_refused, all_handed, step_either, act_boots}
use Rattle.hp_boot.proofs.Outside.{IsOutside, IsOutside-access, IsOutside-start, boot_calm}

-- an access with its answer, outside SMM, is the one that reads the fact
record Reads (a : Access) (answer : Answer) (fact : BootFact) : Type 0 where
  same : record { event = Do 0 a; at = None; answer = answer } ≡ reads_fact fact
  refuses : IsRefusing fact

-- a value that is looked at is refused where it isn't the wanted one
found : (a : Access) (wanted : ℕ) (made : ℕ → BootFact) (fact : BootFact) (value : ℕ) →
    ((v : ℕ) → v ≢ wanted → Reads a (Value v) (made v)) →
    (if not (value == wanted) then Some (made value) else None) ≡ Some fact → Reads a (Value value) fact
found a wanted made fact value is e = by_test (value == wanted) refl e
  where
    by_test : (b : Bool) → (value == wanted) ≡ b → (if not b then Some (made value) else None) ≡ Some fact → Reads a (Value value) fact
    by_test true same e = cc
    by_test false other e = subst (λ (f : BootFact). Reads a (Value value) f) (same_Some (made value) fact e) (is value (eqb-false value wanted other))

-- where a value is refused
abbrev WhereRefused : ℕ → ℕ → Type 0
WhereRefused mib done = (done ≡ 3) ⊎ ((done ≡ 5) ⊎ (((mib ≡ 48) × (done ≡ 16)) ⊎ (done ≡ 25 + ext_count mib)))

where_refused : (mib done value : ℕ) (fact : BootFact) → boot_refusal mib done value ≡ Some fact → WhereRefused mib done
where_refused mib done value fact e = by (done == 3) refl (done == 5) refl (mib == 48) refl (done == 16) refl (done == 25 + ext_count mib) refl e
  where
    by : (a : Bool) → (done == 3) ≡ a → (b : Bool) → (done == 5) ≡ b → (c : Bool) → (mib == 48) ≡ c → (d : Bool) → (done == 16) ≡ d → (g : Bool) → (done == 25 + ext_count mib) ≡ g →
        (if a && not (value == 0) then Some (NotModern value)
        else if b && not (value == 1) then Some (NoDefaultSmram value)
        else if (c && d) && not (value == 0x30) then Some (NoExtTseg value)
        else if g && not (value == 1) then Some (NotNegotiated value)
        else None) ≡ Some fact → WhereRefused mib done
    by true h b i c j d k g l e = inl (eqb-true done 3 h)
    by false h true i c j d k g l e = inr (inl (eqb-true done 5 i))
    by false h false i true j true k g l e = inr (inr (inl (eqb-true mib 48 j, eqb-true done 16 k)))
    by false h false i true j false k true l e = inr (inr (inr (eqb-true done (25 + ext_count mib) l)))
    by false h false i true j false k false l e = absurd cc
    by false h false i false j d k true l e = inr (inr (inr (eqb-true done (25 + ext_count mib) l)))
    by false h false i false j d k false l e = absurd cc

module _ (in_smm : Bool) (s : State) (fact : BootFact) (mib supported : ℕ) where
  abbrev answer : ℕ → Answer
  answer done = answer_to in_smm (boot_access mib supported done) s

  abbrev Claim : ℕ → Type 0
  Claim done = boot_refusal mib done (value_in (answer done)) ≡ Some fact → Reads (boot_access mib supported done) (answer done) fact

  -- what is read there, where the access is this one
  abbrev ClaimOf : Access → ℕ → Type 0
  ClaimOf a done = boot_refusal mib done (value_in (answer_to in_smm a s)) ≡ Some fact → Reads a (answer_to in_smm a s) fact

  claimed : (a : Access) (done : ℕ) → boot_access mib supported done ≡ a → ClaimOf a done → Claim done
  claimed a done is h = subst (λ (b : Access). ClaimOf b done) (sym is) h

  -- the refusal of the value, where the place is known
  refused_head : (done : ℕ) (v : ℕ) → done < 16 → boot_refusal mib done v ≡ Some fact → head_fact done v ≡ Some fact
  refused_head done v early e = sym (head_refusal mib done v early) ∙ e

  at_block : Claim 3
  unfolding boot_access boot_accesses
  at_block e = found (In 0xcd8 4) 0 NotModern fact _ (λ v ne. record { same = refl; refuses = ne }) (refused_head 3 _ (omega arith) e)

  at_area : Claim 5
  unfolding boot_access boot_accesses
  at_area e = found (CfgRead 0x9c) 1 NoDefaultSmram fact _ (λ v ne. record { same = refl; refuses = ne }) (refused_head 5 _ (omega arith) e)

  at_size : mib ≡ 48 → Claim 16
  at_size size = claimed (CfgRead 0x50) 16 (at_ext mib supported 16 size refl) (λ e. found (CfgRead 0x50) 0x30 NoExtTseg fact _ (λ v ne. record { same = refl; refuses = ne }) (sym (wide_refusal mib _ size) ∙ e))

  at_features : Claim (25 + ext_count mib)
  at_features =
      claimed (In 0x511 1) (25 + ext_count mib) (at_ok mib supported (25 + ext_count mib) refl)
      (λ e. found (In 0x511 1) 1 NotNegotiated fact _ (λ v ne. record { same = refl; refuses = ne }) (sym (ok_refusal mib _) ∙ e))

  -- the access that read the value that the boot is refused for
  reads : (done : ℕ) → Claim done
  reads done e = by_place (where_refused mib done (value_in (answer done)) fact e)
    where
      by_place : WhereRefused mib done → Reads (boot_access mib supported done) (answer done) fact
      by_place (inl is) = subst Claim (sym is) at_block e
      by_place (inr (inl is)) = subst Claim (sym is) at_area e
      by_place (inr (inr (inl is))) = subst Claim (sym is.1) (at_size is.0) e
      by_place (inr (inr (inr is))) = subst Claim (sym is) at_features e

no_address : (c : Cpu) → is_in_smm c.mode ≡ false → smm_address c ≡ None
no_address c h = by_mode c.mode c.present h
  where
    by_mode : (m : Mode) (b : Bool) → is_in_smm m ≡ false → (if b then address_in m else None) ≡ None
    by_mode Wait b h = cond_both b _ _ (λ (a : Option ℕ). a ≡ None) (λ e. refl) (λ e. refl)
    by_mode (Running page) b h = cond_both b _ _ (λ (a : Option ℕ). a ≡ None) (λ e. refl) (λ e. refl)
    by_mode (Halted page) b h = cond_both b _ _ (λ (a : Option ℕ). a ≡ None) (λ e. refl) (λ e. refl)
    by_mode (Smm address) b h = cc

-- where the boot, after these entries, is refused for the fact, they stop at it
abbrev Stops : BootFact → Made → Type 0
Stops fact m = fact_of m.scene.state.stage ≡ Some fact → StopsAt fact m.entries

stops_more : (e : Entry) (fact : BootFact) (es : List Entry) → StopsAt fact es → StopsAt fact (e ∷ es)
stops_more e fact es at = record { front = e ∷ at.front; stops = ap (λ (xs : List Entry). e ∷ xs) at.stops; refuses = at.refuses }

module _ (p : Platform) (w : Scene) (fact : BootFact) (done supported : ℕ) (boots : w.state.stage ≡ Boots done supported) (outside : IsOutside w.state.cpus) where
  abbrev next : Access
  next = boot_access p.tseg_mib supported done

  abbrev then_after : After
  then_after = after p w.state (Do 0 next)

  abbrev turn : Made
  turn = made_by w (Do 0 next) w.voices (λ answer. w.last) (Some then_after)

  abbrev value : ℕ
  value = value_in then_after.answer

  stage_then : then_after.state.stage ≡ stage_by p.tseg_mib (boot_refusal p.tseg_mib done value) done supported value
  stage_then = ap (stage_after p.tseg_mib then_after.answer) boots

  outside_then : IsOutside then_after.state.cpus
  outside_then =
      subst (λ (t : Stage). IsOutside (firmware_effect p w.state t (Do 0 next) (effect_of p w.state (Do 0 next))).cpus) (sym boots)
      (IsOutside-access p 0 w.state outside (is_in_smm (at w.state 0).mode) next (boot_calm p.tseg_mib supported done))

  entry_then : entry_of w (Do 0 next) then_after ≡ record { event = Do 0 next; at = None; answer = then_after.answer }
  entry_then =
      ap (λ (a : Option ℕ). record { event = Do 0 next; at = a; answer = then_after.answer }) (no_address (at w.state 0) outside)

  stops_here : boot_refusal p.tseg_mib done value ≡ Some fact → StopsAt fact turn.entries
  stops_here e =
      let found = reads (is_in_smm (at w.state 0).mode) w.state fact p.tseg_mib supported done e in
      record { front = []; stops = ap (λ (x : Entry). x ∷ []) (entry_then ∙ found.same); refuses = found.refuses }

  module _ (more : List Actor) (later : (d u : ℕ) → then_after.state.stage ≡ Boots d u → Stops fact (act_all p turn.scene more)) where
    abbrev both : Made
    both = both_make turn (act_all p turn.scene more)

    refused_here : (f : BootFact) → boot_refusal p.tseg_mib done value ≡ Some f → Stops fact both
    refused_here f e h =
        let refused : then_after.state.stage ≡ Refused f = stage_then ∙ ap (λ (r : Option BootFact). stage_by p.tseg_mib r done supported value) e in
        let all : both ≡ turn = ap (both_make turn) (all_refused p turn.scene f more refused) in
        let same : f ≡ fact = same_Some f fact (sym (ap fact_of refused) ∙ sym (ap (λ (m : Made). fact_of m.scene.state.stage) all) ∙ h) in
        subst (λ (m : Made). StopsAt fact m.entries) (sym all) (stops_here (e ∙ ap Some same))

    goes_on : boot_refusal p.tseg_mib done value ≡ None → Stops fact both
    goes_on e h = by_last (done == 26 + ext_count p.tseg_mib) refl
      where
        stage_is : (b : Bool) → (done == 26 + ext_count p.tseg_mib) ≡ b →
            then_after.state.stage ≡ (if b then Handed (supported % 8) else Boots (done + 1) (if done == 20 + ext_count p.tseg_mib then value else supported))
        stage_is b is =
            stage_then
            ∙ ap (λ (r : Option BootFact). stage_by p.tseg_mib r done supported value) e
            ∙ ap (λ (c : Bool). if c then Handed (supported % 8) else Boots (done + 1) (if done == 20 + ext_count p.tseg_mib then value else supported)) is

        by_last : (b : Bool) → (done == 26 + ext_count p.tseg_mib) ≡ b → StopsAt fact both.entries
        by_last true last = absurd (none-some fact (sym (ap fact_of (all_handed p turn.scene (supported % 8) more (stage_is true last))) ∙ h))
        by_last false on = stops_more _ fact _ (later (done + 1) (if done == 20 + ext_count p.tseg_mib then value else supported) (stage_is false on) h)

    stops_then : Stops fact both
    stops_then = by_refusal (boot_refusal p.tseg_mib done value) refl
      where
        by_refusal : (r : Option BootFact) → boot_refusal p.tseg_mib done value ≡ r → Stops fact both
        by_refusal (Some f) e = refused_here f e
        by_refusal None e = goes_on e

stops : (n : ℕ) (p : Platform) (w : Scene) (fact : BootFact) (done supported : ℕ) → w.state.stage ≡ Boots done supported →
    IsOutside w.state.cpus → Stops fact (act_all p w (replicate n (actor.Cpu 0)))
unfolding act_all
stops zero p w fact done supported boots outside h = absurd (none-some fact (sym (ap fact_of boots) ∙ h))
stops (suc n) p w fact done supported boots outside h =
    by_step (λ (v : Scene) (d u : ℕ). stops n p v fact d u) (step_either p w.state (Do 0 (boot_access p.tseg_mib supported done))) h
  where
    more : List Actor
    more = replicate n (actor.Cpu 0)

    a : Access
    a = boot_access p.tseg_mib supported done

    by_step : ((v : Scene) (d u : ℕ) → v.state.stage ≡ Boots d u → IsOutside v.state.cpus → Stops fact (act_all p v more)) →
        (step p w.state (Do 0 a) ≡ None) ⊎ (step p w.state (Do 0 a) ≡ Some (after p w.state (Do 0 a))) →
        Stops fact (both_make (act p w (actor.Cpu 0)) (act_all p (act p w (actor.Cpu 0)).scene more))
    by_step later (inl none) =
        let made : act p w (actor.Cpu 0) ≡ makes_none w = act_boots p w done supported boots ∙ ap (made_by w (Do 0 a) w.voices (λ answer. w.last)) none in
        subst (λ (m : Made). Stops fact (both_make m (act_all p m.scene more))) (sym made) (later w done supported boots outside)
    by_step later (inr some) =
        let made : act p w (actor.Cpu 0) ≡ turn p w fact done supported boots outside = act_boots p w done supported boots ∙ ap (made_by w (Do 0 a) w.voices (λ answer. w.last)) some in
        subst (λ (m : Made). Stops fact (both_make m (act_all p m.scene more))) (sym made)
        (stops_then p w fact done supported boots outside more
        (λ d u goes. later (turn p w fact done supported boots outside).scene d u goes (outside_then p w fact done supported boots outside)))

pub boot_stops : (p : Platform) (vs : List Voice) (fact : BootFact) → boot_fact p vs ≡ Some fact → StopsAt fact (booted p vs).entries
unfolding boot_fact booted
boot_stops p vs fact h = stops (boot_turns p) p (scene_start p vs) fact 0 0 refl (IsOutside-start p) h
