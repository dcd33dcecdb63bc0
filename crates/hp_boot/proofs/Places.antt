-- Places of a boot: a state after so many accesses, and one access from it to the next.
use Rattle.std.proofs.Common.{◌≡◌, ℕ, zero, suc, Bool, true, false, not, ◌+◌, List, ◌∷◌, Option, Some, None, refl, ap, ◌∙◌, bit_and, if◌then◌else◌}
use Rattle.std.specs.Option.{unwrap_or}
use Rattle.hp_model.specs.declared.platforms.Platform.{Platform}
use Rattle.hp_model.specs.declared.accesses.Access.{Access}
use Rattle.hp_model.specs.declared.accesses.Access.TheVariants.{Store}
use Rattle.hp_model.specs.declared.accesses.Answer.TheVariants.{Quiet}
use Rattle.hp_model.specs.declared.labels.Label.TheVariants.{S0}
use Rattle.hp_model.specs.declared.outcomes.BootFact.{BootFact}
use Rattle.hp_model.specs.declared.outcomes.BootFact.TheVariants.{NotModern, NoDefaultSmram, NotNegotiated, NoExtTseg}
use Rattle.hp_model.specs.Memory.{Write, write_of}
use Rattle.hp_model.specs.View.{Locks, locks_start, is_hole}
use Rattle.hp_model.specs.Cpu.{cpus_start}
use Rattle.hp_model.specs.Block.{Block}
use Rattle.hp_model.specs.Ich9.{ich9_start}
use Rattle.hp_model.specs.FwCfg.{FwCfg}
use Rattle.hp_model.specs.Monarch.{monarch_start, with_features}
use Rattle.hp_model.specs.Boot.{Stage, Boots, tseg_enabled, boot_access, ext_count, stage_after}
use Rattle.hp_model.specs.State.{State}
use Rattle.hp_model.specs.Access.{answer_to, is_normal}
use Rattle.hp_boot.specs.Ending.{legacy_value, ended}
use Rattle.hp_boot.proofs.Start.{Facts}
use Rattle.hp_boot.proofs.Going.{Ends, made, ends_later}

-- after so many accesses, where access 21 answered `supported`; the monarch knows what was agreed on
abbrev pub at_place : Platform → Block → Locks → List Write → FwCfg → ℕ → ℕ → State
at_place p b l ws c done supported =
    record {
      cpus = cpus_start p;
      writes = ws;
      locks = l;
      block = b;
      ich9 = ich9_start;
      fw_cfg = c;
      monarch = with_features (unwrap_or c.negotiated 0) (monarch_start p);
      stage = Boots done supported;
      disturbed = false;
    }

-- the locks at the start, but for their registers
abbrev pub locks_by : Platform → ℕ → ℕ → ℕ → ℕ → Locks
locks_by p f_smbase smram esmramc ext = record (locks_start p) { f_smbase = f_smbase; smram = smram; esmramc = esmramc; ext_tseg = ext }

-- the default area and TSEG are locked, with this in register 50
abbrev pub locked : Platform → ℕ → Locks
locked p ext = locks_by p 2 0x18 (bit_and (tseg_enabled p.tseg_mib) 7) ext

-- `refusal_of`, by the platform's form, its default area, whether TSEG can have its size, and its features
abbrev pub refusal_by : Platform → Bool → Bool → Bool → Bool → Option BootFact
refusal_by p modern has_default sized negotiable =
    if not modern then Some (NotModern (legacy_value p))
    else if not has_default then Some (NoDefaultSmram 0)
    else if not sized then Some (NoExtTseg 0)
    else if not negotiable then Some (NotNegotiated 0)
    else None

abbrev pub end_by : Platform → Bool → Bool → Bool → Bool → Stage
end_by p modern has_default sized negotiable = ended (refusal_by p modern has_default sized negotiable) p.features

-- so many more
abbrev pub more : ℕ → ℕ → ℕ
more zero n = n
more (suc k) n = suc (more k n)

-- how many turns are left after access 15
abbrev pub rest : Platform → ℕ
rest p = ext_count p.tseg_mib + 12

-- one access: it leads to a state from which the boot ends so, in so many turns
pub goes : (p : Platform) (f : Facts p) (end : Stage) (left : ℕ) (s t : State) (done supported : ℕ) (a : Access) → s.cpus ≡ cpus_start p → s.stage ≡ Boots done supported → s.disturbed ≡ false → s.monarch.label ≡ S0 →
    boot_access p.tseg_mib supported done ≡ a → is_normal a ≡ true → made p f a s ≡ t → Ends p left t end → Ends p (suc left) s end
goes p f end left s t done supported a cpus stage quiet first is normal makes later = ends_later p f s done supported a cpus stage quiet first is normal left end t makes later

-- the state after it, with the stage where its answer leads
pub makes : (p : Platform) (f : Facts p) (s t : State) (a : Access) → record (made p f a s) { stage = t.stage } ≡ t →
    stage_after p.tseg_mib (answer_to false a s) s.stage ≡ t.stage → made p f a s ≡ t
makes p f s t a effect on = ap (λ (g : Stage). record (made p f a s) { stage = g }) on ∙ effect

module _ (p : Platform) (f : Facts p) (end : Stage) (left : ℕ) (b : Block) (l : Locks) (c : FwCfg) (done next supported : ℕ) where
  pub store : (ws : List Write) (addr width value : ℕ) → boot_access p.tseg_mib supported done ≡ Store addr width value → is_normal (Store addr width value) ≡ true →
      stage_after p.tseg_mib Quiet (Boots done supported) ≡ Boots next supported → is_hole l false addr width ≡ false →
      Ends p left (at_place p b l (write_of addr width value ∷ ws) c next supported) end →
      Ends p (suc left) (at_place p b l ws c done supported) end
  store ws addr width value is normal on shown later =
      goes p f end left (at_place p b l ws c done supported) (at_place p b l (write_of addr width value ∷ ws) c next supported) done supported
      (Store addr width value) refl refl refl refl is normal (rw (on, shown) refl) later
