-- Where a step of the boot sequence leads: the boot goes on, is refused, or has sealed SMRAM; and what it leaves of locked bytes.
use Rattle.std.proofs.Common.{ℕ, ◌≡◌, ◌+◌, ◌<◌, ◌%◌, ◌==◌, inl, inr, Bool, true, false, cond, ◌&&◌, Option, Some, None, refl, sym, ap, subst, ◌∙◌, arith, if◌then◌else◌}
use Rattle.std.proofs.lemmas.Bool.{and_parts, eqb-true}
use Rattle.std.proofs.lemmas.Bool.Decides.{nat_tests}
use Rattle.std.proofs.lemmas.Option.{same_Some}
use Rattle.std.specs.Option.{unwrap_or}
use Rattle.hp_model.specs.declared.platforms.Platform.{Platform}
use Rattle.hp_model.specs.declared.processors.Mode.{Mode}
use Rattle.hp_model.specs.declared.processors.Mode.TheVariants.{Wait, Running, Halted, Smm}
use Rattle.hp_model.specs.declared.processors.Cpu.{Cpu}
use Rattle.hp_model.specs.declared.accesses.Access.{Access}
use Rattle.hp_model.specs.declared.outcomes.BootFact.{BootFact}
use Rattle.hp_model.specs.declared.entries.Event.{Event}
use Rattle.hp_model.specs.declared.entries.Event.TheVariants.{Insert, Remove, Do, TakeSmi, TakeInit, Resume, Tell}
use Rattle.hp_model.specs.Cpu.{is_in_smm, address_in, smm_address}
use Rattle.hp_model.specs.Boot.{Stage, Boots, Refused, Handed, ext_count, boot_access, boot_refusal, value_in, stage_by, stage_after}
use Rattle.hp_model.specs.Monarch.{with_features}
use Rattle.hp_model.specs.State.{State, at}
use Rattle.hp_model.specs.Access.{same_access, answer_to, access_effect}
use Rattle.hp_model.specs.Firmware.{is_boots, is_wanted, wanted_in, with_agreed}
use Rattle.hp_model.specs.Step.{After, is_enabled, is_disturbed_by, after, step}
use Rattle.hp_sealed.specs.Left.{Sound, LeavesLocked}
use Rattle.hp_sealed.specs.Sealed.{IsOutside, IsSealed}
use Rattle.hp_sealed.specs.Booting.{Booting, IsBooting, IsRefused, IsBooted, KeepsBooted}
use Rattle.hp_sealed.proofs.Left.{pick_by}
use Rattle.hp_model.proofs.Same.{same_access-equal}
use Rattle.hp_sealed.proofs.Outside.{Calm, acts, left_acted}
use Rattle.hp_sealed.specs.Features.{Agreeing}
use Rattle.hp_sealed.proofs.BootStores.{Passes, outside_acts}
use Rattle.hp_sealed.proofs.BootLocks.{locked_by}
use Rattle.hp_sealed.proofs.Boots.{passes}
use Rattle.hp_sealed.proofs.Features.{Agrees, agree, agrees_still}
use Rattle.hp_sealed.proofs.Image.{holds_sealed}

-- a step is enabled and wanted, and is what `after` says
pub record Stepped (p : Platform) (s : State) (e : Event) (t : After) : Type 0 where
  pub enabled : is_enabled p s e ≡ true
  pub wanted : is_wanted p s e ≡ true
  pub is : after p s e ≡ t

pub stepped : (p : Platform) (s : State) (e : Event) (t : After) → step p s e ≡ Some t → Stepped p s e t
unfolding step
stepped p s e t is =
    let o = opened (is_enabled p s e && is_wanted p s e) (after p s e) is in
    let both = and_parts (is_enabled p s e) (is_wanted p s e) o.0 in
    record { enabled = both.0; wanted = both.1; is = o.1 }
  where
    opened : (b : Bool) (x : After) → cond b (Some x) None ≡ Some t → (b ≡ true) × (x ≡ t)
    opened true x e = (refl, same_Some x t e)
    opened false x e = absurd cc

-- a boot's only event is its next access
pub boots_event : (mib done supported : ℕ) (e : Event) → is_boots mib done supported e ≡ true → e ≡ Do 0 (boot_access mib supported done)
boots_event mib done supported (Insert k) is = absurd cc
boots_event mib done supported (Remove k) is = absurd cc
boots_event mib done supported (Do k a) is =
    let both = and_parts (k == 0) (same_access a (boot_access mib supported done)) is in
    let first : k ≡ 0 = eqb-true k 0 both.0 in
    let next : a ≡ boot_access mib supported done = same_access-equal a (boot_access mib supported done) both.1 in
    rw (first, next) refl
boots_event mib done supported (TakeSmi k) is = absurd cc
boots_event mib done supported (TakeInit k) is = absurd cc
boots_event mib done supported (Resume k) is = absurd cc
boots_event mib done supported (Tell o) is = absurd cc

-- a present processor without an instruction address in SMM isn't in SMM
pub not_in_smm : (c : Cpu) → c.present ≡ true → smm_address c ≡ None → is_in_smm c.mode ≡ false
not_in_smm c here none = by_mode c.mode (subst (λ b. (if b then address_in c.mode else None) ≡ None) here none)
  where
    by_mode : (m : Mode) → address_in m ≡ None → is_in_smm m ≡ false
    by_mode Wait e = refl
    by_mode (Running page) e = refl
    by_mode (Halted page) e = refl
    by_mode (Smm a) e = absurd cc

-- the state after a boot's access
abbrev pub reached : Platform → State → ℕ → ℕ → Access → State
reached p s done supported b = record (with_agreed (access_effect p 0 false b s)) { stage = stage_after p.tseg_mib (answer_to false b s) (Boots done supported); disturbed = is_disturbed_by s (Do 0 b) }

pub after_boots : (p : Platform) (s : State) (done supported : ℕ) (b : Access) → s.stage ≡ Boots done supported → is_in_smm (at s 0).mode ≡ false → (after p s (Do 0 b)).state ≡ reached p s done supported b
after_boots p s done supported b stage mode = rw (mode, stage) refl

outside_agreed : (p : Platform) (u : State) (g : Stage) (d : Bool) → IsOutside p u → IsOutside p (record (with_agreed u) { stage = g; disturbed = d })
outside_agreed p u g d h = record {
  outside = h.outside;
  based = h.based;
  possible = h.possible;
  slotted = h.slotted;
  first = h.first;
  recorded = h.recorded;
  begun = ap (with_features (unwrap_or u.fw_cfg.negotiated 0)) h.begun;
}

booting_agreed : (p : Platform) (n : ℕ) (u : State) (g : Stage) (d : Bool) → Booting p n u → Booting p n (record (with_agreed u) { stage = g; disturbed = d })
booting_agreed p n u g d h = record {
  cpus = outside_agreed p u g d h.cpus;
  low_memory = h.low_memory;
  f_smbase = h.f_smbase;
  smram = h.smram;
  esmramc = h.esmramc;
  ext_tseg = h.ext_tseg;
  memory = h.memory;
  kept = h.kept;
}

agreeing_agreed : (p : Platform) (n v : ℕ) (u : State) (g : Stage) (d : Bool) → Agreeing p n v u → Agreeing p n v (record (with_agreed u) { stage = g; disturbed = d })
agreeing_agreed p n v u g d h = record { before = h.before; after = λ i is. agrees_still i p.features v u (with_features (unwrap_or u.fw_cfg.negotiated 0) u.monarch) g d (h.after i is) }

handed_over : (p : Platform) (u : State) (requested : ℕ) (d : Bool) → Sound p → Booting p (27 + ext_count p.tseg_mib) u → u.fw_cfg.negotiated ≡ Some p.features → IsSealed p (record (with_agreed u) { stage = Handed requested; disturbed = d })
handed_over p u requested d fit h agreed = record {
  stage = refl;
  locks = locked_by p (27 + ext_count p.tseg_mib) u (omega arith) h;
  holds = holds_sealed p u.writes fit (h.kept (omega arith));
  cpus = outside_agreed p u (Handed requested) d h.cpus;
  features = ap (λ o. unwrap_or o 0) agreed;
}

last_of : (more n : ℕ) → (n == 26 + more) ≡ true → n + 1 ≡ 27 + more
last_of more n e = grind (arith, nat_tests)

more_of : (more n : ℕ) → (n == 26 + more) ≡ false → n < 27 + more → n + 1 < 27 + more
more_of more n e less = grind (arith, nat_tests)

-- where an access leads, by what it is refused for
staged : (p : Platform) (n v : ℕ) (b : Access) (s : State) (d : Bool) → Sound p → n < 27 + ext_count p.tseg_mib → Booting p n s → Agreeing p n v s → Passes p n b → Agrees p v n b → (o : Option BootFact) → boot_refusal p.tseg_mib n (value_in (answer_to false b s)) ≡ o → IsBooted p (record (with_agreed (access_effect p 0 false b s)) { stage = stage_by p.tseg_mib o n v (value_in (answer_to false b s)); disturbed = d })
staged p n v b s d fit less h agreeing pass agree_on (Some fact) is =
    inr (inl (record { fact = fact; stage = refl; cpus = outside_agreed p (access_effect p 0 false b s) (Refused fact) d (outside_acts p s (access_effect p 0 false b s) (acts p 0 false b s) h.cpus) }))
staged p n v b s d fit less h agreeing pass agree_on None is =
    let u = access_effect p 0 false b s in
    let next : Booting p (n + 1) u = pass.on s h is in
    let read = value_in (answer_to false b s) in
    let agrees = agree_on.on s h agreeing is in
    pick_by (λ g. IsBooted p (record (with_agreed u) { stage = g; disturbed = d })) (n == 26 + ext_count p.tseg_mib) (Handed (v % 8)) (Boots (n + 1) (if n == 20 + ext_count p.tseg_mib then read else v))
    (λ e. inr (inr (handed_over p u (v % 8) d fit (subst (λ i. Booting p i u) (last_of (ext_count p.tseg_mib) n e) next) (agrees.after 10 (let last = last_of (ext_count p.tseg_mib) n e in omega (arith, last))))))
    (λ e. inl (record { done = n + 1; supported = if n == 20 + ext_count p.tseg_mib then read else v; stage = refl; going = more_of (ext_count p.tseg_mib) n e less; holds = booting_agreed p (n + 1) u (Boots (n + 1) (if n == 20 + ext_count p.tseg_mib then read else v)) d next; agreeing = agreeing_agreed p (n + 1) (if n == 20 + ext_count p.tseg_mib then read else v) u (Boots (n + 1) (if n == 20 + ext_count p.tseg_mib then read else v)) d agrees }))

-- the boot's access, and the state that it leads to
record BootStep (p : Platform) (s : State) (t : State) : Type 0 where
  done : ℕ
  supported : ℕ
  going : done < 27 + ext_count p.tseg_mib
  holds : Booting p done s
  agreeing : Agreeing p done supported s
  is : reached p s done supported (boot_access p.tseg_mib supported done) ≡ t

boot_step : (p : Platform) (s : State) (e : Event) (t : After) → IsBooting p s → step p s e ≡ Some t → BootStep p s t.state
boot_step p s e t h is =
    let made = stepped p s e t is in
    let wanted : is_boots p.tseg_mib h.done h.supported e ≡ true = subst (λ g. wanted_in p s g e ≡ true) h.stage made.wanted in
    let b = boot_access p.tseg_mib h.supported h.done in
    let event : e ≡ Do 0 b = boots_event p.tseg_mib h.done h.supported e wanted in
    let mode = not_in_smm (at s 0) h.holds.cpus.first (h.holds.cpus.outside 0) in
    record {
      done = h.done;
      supported = h.supported;
      going = h.going;
      holds = h.holds;
      agreeing = h.agreeing;
      is = sym (after_boots p s h.done h.supported b h.stage mode) ∙ (ap (λ e. (after p s e).state) (sym event) ∙ ap (λ (a : After). a.state) made.is);
    }

-- no locked byte is touched
pub boot_leaves : (p : Platform) (s : State) (e : Event) (t : After) → IsBooting p s → step p s e ≡ Some t → LeavesLocked s t.state
boot_leaves p s e t h is =
    let b = boot_step p s e t h is in
    let access = boot_access p.tseg_mib b.supported b.done in
    subst (LeavesLocked s) b.is (record { left = λ x l. left_acted p 0 access s x l; locked = λ x l. (acts p 0 false access s).bytes x l })

pub boot_goes : (p : Platform) (s : State) (e : Event) (t : After) → Sound p → IsBooting p s → step p s e ≡ Some t → KeepsBooted p s t.state
boot_goes p s e t fit h is =
    let b = boot_step p s e t h is in
    let access = boot_access p.tseg_mib b.supported b.done in
    let leaves = boot_leaves p s e t h is in (
      subst (IsBooted p) b.is (staged p b.done b.supported access s (is_disturbed_by s (Do 0 access)) fit b.going b.holds b.agreeing (passes p fit b.supported b.done b.going) (agree p fit b.supported b.done b.going) (boot_refusal p.tseg_mib b.done (value_in (answer_to false access s))) refl),
      record { left = λ x k l. leaves.left x l; locked = λ x k l. leaves.locked x l },
    )

-- and each processor stays as it was, or is gone
pub boot_calm : (p : Platform) (s : State) (e : Event) (t : After) → IsBooting p s → step p s e ≡ Some t → (k : ℕ) → Calm (at s k) (at t.state k)
boot_calm p s e t h is k =
    let b = boot_step p s e t h is in
    let access = boot_access p.tseg_mib b.supported b.done in
    subst (λ (u : State). Calm (at s k) (at u k)) b.is ((acts p 0 false access s).cpus k)

-- a refused boot has no step
pub refused_goes : (p : Platform) (s : State) (e : Event) (t : After) → IsRefused p s → step p s e ≡ Some t → ⊥
refused_goes p s e t h is =
    let made = stepped p s e t is in
    let wanted : false ≡ true = subst (λ g. wanted_in p s g e ≡ true) h.stage made.wanted in
    cc
