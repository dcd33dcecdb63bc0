-- Processor 0 stays outside SMM while the machine boots.
use Rattle.std.proofs.Common.{◌≡◌, ℕ, zero, suc, Bool, true, false, not, ◌==◌, ◌+◌, ◌-◌, List, [], ◌∷◌, replicate, slice_set, Option, Some, None, refl}
use Rattle.std.specs.Prelude.{slice_index_or, ◌++◌, if◌then◌else◌}
use Rattle.std.specs.List.{list_all}
use Rattle.std.proofs.lemmas.Bool.{and_parts, cond_both, not-true, and_left}
use Rattle.hp_model.specs.declared.platforms.Platform.{Platform}
use Rattle.hp_model.specs.declared.processors.Cpu.{Cpu}
use Rattle.hp_model.specs.declared.accesses.Access.{Access}
use Rattle.hp_model.specs.declared.accesses.Access.TheVariants.{Load, Store, Swap, In, Out, CfgRead, CfgWrite, Icr, Halt, Nop}
use Rattle.hp_model.specs.Platform.{count_of, tile}
use Rattle.hp_model.specs.Cpu.{is_in_smm, absent, booted, cpu_at, boot_cpus, cpus_start}
use Rattle.hp_model.specs.Block.{block_write, ejected_by}
use Rattle.hp_model.specs.Boot.{block_accesses, area_accesses, pen_accesses, mark_accesses, gate_accesses, lock_accesses, feature_accesses, last_accesses, boot_accesses, boot_access}
use Rattle.hp_model.specs.State.{State}
use Rattle.hp_model.specs.Ports.{without_ejected, is_on_block, is_fw_cfg_data, is_fw_cfg_selector, is_dma_high, is_dma_low, write_ich9, write_port}
use Rattle.hp_model.specs.Access.{access_effect}

abbrev pub IsOutside : List Cpu → Type 0
IsOutside cs = is_in_smm (cpu_at cs 0).mode ≡ false

-- a processor outside SMM in any place leaves processor 0 there
IsOutside-set : (cs : List Cpu) (k : ℕ) (c : Cpu) → IsOutside cs → is_in_smm c.mode ≡ false → IsOutside (slice_set cs k c)
IsOutside-set [] k c h new = h
IsOutside-set (d ∷ cs) zero c h new = new
IsOutside-set (d ∷ cs) (suc k) c h new = h

IsOutside-ejected : (o : Option ℕ) (cs : List Cpu) → IsOutside cs → IsOutside (without_ejected o cs)
IsOutside-ejected None cs h = h
IsOutside-ejected (Some k) cs h = IsOutside-set cs k absent h refl

-- an access that raises no SMI, sends no interrupt command and doesn't halt
abbrev pub is_calm : Access → Bool
is_calm (Load addr width) = true
is_calm (Store addr width value) = true
is_calm (Swap addr expected desired) = true
is_calm (In port width) = true
is_calm (Out port width value) = not (port == 0xb2)
is_calm (CfgRead reg) = true
is_calm (CfgWrite reg value) = true
is_calm (Icr high low) = false
is_calm Halt = false
is_calm Nop = true

module _ (p : Platform) (k : ℕ) (s : State) (h : IsOutside s.cpus) where
  IsOutside-port : (port width value : ℕ) → not (port == 0xb2) ≡ true → IsOutside (write_port p k port width value s).cpus
  IsOutside-port port width value calm =
      let P : State → Type 0 = λ (t : State). IsOutside t.cpus in
      let ich9 : IsOutside (write_ich9 p k port width value s).cpus =
      rw (and_left (port == 0xb2) (width == 1) (not-true (port == 0xb2) calm)) h in
      cond_both (is_on_block port) _ _ P
      (λ e. IsOutside-ejected (ejected_by s.block (block_write s.block (port - 0xcd8) width value)) s.cpus h)
      (λ e. cond_both (is_fw_cfg_selector port width) _ _ P (λ e. h)
      (λ e. cond_both (is_dma_high port width) _ _ P (λ e. h)
      (λ e. cond_both (is_dma_low port width) _ _ P (λ e. h) (λ e. ich9))))

  pub IsOutside-access : (in_smm : Bool) (a : Access) → is_calm a ≡ true → IsOutside (access_effect p k in_smm a s).cpus
  IsOutside-access in_smm (Load addr width) calm = h
  IsOutside-access in_smm (Store addr width value) calm = h
  IsOutside-access in_smm (Swap addr expected desired) calm = h
  IsOutside-access in_smm (In port width) calm = cond_both (is_fw_cfg_data port width) _ _ (λ (t : State). IsOutside t.cpus) (λ e. h) (λ e. h)
  IsOutside-access in_smm (Out port width value) calm = IsOutside-port port width value calm
  IsOutside-access in_smm (CfgRead reg) calm = h
  IsOutside-access in_smm (CfgWrite reg value) calm = h
  IsOutside-access in_smm (Icr high low) calm = cc
  IsOutside-access in_smm Halt calm = cc
  IsOutside-access in_smm Nop calm = h

at_calm : (as' : List Access) (k : ℕ) → list_all is_calm as' ≡ true → is_calm (slice_index_or as' k Nop) ≡ true
at_calm [] k h = refl
at_calm (a ∷ as') zero h = (and_parts (is_calm a) (list_all is_calm as') h).0
at_calm (a ∷ as') (suc k) h = at_calm as' k (and_parts (is_calm a) (list_all is_calm as') h).1

-- each access of the boot is one, with a TSEG of 48 MiB or not
all_calm : (mib supported : ℕ) (w : Bool) →
    list_all is_calm (block_accesses ++ (area_accesses ++ (pen_accesses ++ (mark_accesses ++ (gate_accesses
    ++ ((if w then CfgWrite 0x50 0xff ∷ CfgRead 0x50 ∷ [] else []) ++ (lock_accesses mib ++ (feature_accesses supported ++ last_accesses)))))))) ≡ true
all_calm mib supported true = refl
all_calm mib supported false = refl

pub boot_calm : (mib supported k : ℕ) → is_calm (boot_access mib supported k) ≡ true
unfolding boot_access boot_accesses
boot_calm mib supported k = at_calm (boot_accesses mib supported) k (all_calm mib supported (mib == 48))

IsOutside-boot : (p : Platform) (slot : ℕ) (bs : List ℕ) (cs : List Cpu) → IsOutside cs → IsOutside (boot_cpus p slot bs cs)
unfolding boot_cpus
IsOutside-boot p slot [] cs h = h
IsOutside-boot p slot (b ∷ bs) cs h = IsOutside-boot p (slot + 1) bs (slice_set cs b (booted (tile p slot))) (IsOutside-set cs b (booted (tile p slot)) h refl)

IsOutside-absent : (n : ℕ) → IsOutside (replicate n absent)
IsOutside-absent zero = refl
IsOutside-absent (suc n) = refl

pub IsOutside-start : (p : Platform) → IsOutside (cpus_start p)
unfolding cpus_start
IsOutside-start p = IsOutside-boot p 0 p.boot (replicate (count_of p) absent) (IsOutside-absent (count_of p))
