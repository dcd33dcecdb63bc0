-- What an access does to processors, locks, record and stage, whoever makes it, and what one from outside SMM does to memory.
use Rattle.std.proofs.Common.{ℕ, ◌≡◌, ◌≢◌, ◌-◌, ◌==◌, ◌⊎◌, inl, inr, Bool, true, false, ◌&&◌, ◌||◌, nat_lt, nat_le, List, Option, Some, None, bit_and, refl, sym, subst, arith, get_or-set_other}
use Rattle.std.proofs.lemmas.Bool.Decides.{nat_tests}
use Rattle.hp_model.specs.declared.platforms.Platform.{Platform}
use Rattle.hp_model.specs.declared.processors.Cpu.{Cpu}
use Rattle.hp_model.specs.declared.accesses.Access.{Access}
use Rattle.hp_model.specs.declared.accesses.Access.TheVariants.{Load, Store, Swap, In, Out, CfgRead, CfgWrite, Icr, Halt, Nop}
use Rattle.hp_model.specs.Platform.{apic_of}
use Rattle.hp_model.specs.View.{Locks, f_smbase_written, ext_tseg_written, is_fixed, lock_write, is_in_default, is_in_tseg, is_locked}
use Rattle.hp_model.specs.Cpu.{absent, halt, cpu_at}
use Rattle.hp_model.specs.Block.{block_write, ejected_by}
use Rattle.hp_model.specs.Interrupts.{decoded, smi_raised}
use Rattle.hp_model.specs.Ich9.{raises_smi}
use Rattle.hp_model.specs.FwCfg.{selected, advanced, with_high, dma_address, without_high, has_broadcast}
use Rattle.hp_model.specs.State.{State, at}
use Rattle.hp_model.specs.Ports.{without_ejected, write_block, is_on_block, is_fw_cfg_data, is_fw_cfg_selector, is_dma_high, is_dma_low, start_transfer, write_ich9, write_port}
use Rattle.hp_model.specs.Access.{access_effect}
use Rattle.hp_sealed.specs.Left.{IsLeft, Locked}
use Rattle.hp_sealed.proofs.Left.{pick, pick_by, left_same, left_outside, left_swap, left_transfer}
use Rattle.hp_sealed.proofs.Stay.{Stays, stays_same, stays_sent, stays_halt, stays_raised, stays_set, at_set}
use Rattle.hp_sealed.proofs.Ejects.{ejects_others, ejects_none}

-- stays, or is gone
abbrev pub Calm : Cpu → Cpu → Type 0
Calm c d = Stays c d ⊎ (d ≡ absent)

-- what an access does to everything but memory
pub record Acts (p : Platform) (s t : State) : Type 0 where
  pub cpus : (j : ℕ) → Calm (at s j) (at t j)
  pub first : Stays (at s 0) (at t 0)
  pub locks : Locked p s.locks → Locked p t.locks
  pub bytes : (x : ℕ) → is_locked s.locks x ≡ true → is_locked t.locks x ≡ true
  pub low_memory : t.locks.low_memory ≡ s.locks.low_memory
  pub monarch : t.monarch ≡ s.monarch
  pub stage : t.stage ≡ s.stage

of_cpus : (p : Platform) (s t : State) → t.locks ≡ s.locks → t.monarch ≡ s.monarch → t.stage ≡ s.stage → ((j : ℕ) → Stays (at s j) (at t j)) → Acts p s t
of_cpus p s t l m g h = record {
  cpus = λ j. inl (h j);
  first = h 0;
  locks = λ k. subst (Locked p) (sym l) k;
  bytes = λ x k. subst (λ a. is_locked a x ≡ true) (sym l) k;
  low_memory = rw l refl;
  monarch = m;
  stage = g;
}

same : (p : Platform) (s t : State) → t.locks ≡ s.locks → t.monarch ≡ s.monarch → t.stage ≡ s.stage → t.cpus ≡ s.cpus → Acts p s t
same p s t l m g c = of_cpus p s t l m g (λ j. subst (λ cs. Stays (at s j) (cpu_at cs j)) (sym c) (stays_same (at s j)))

calm_removed : (o : Option ℕ) (cs : List Cpu) (j : ℕ) → Calm (cpu_at cs j) (cpu_at (without_ejected o cs) j)
calm_removed None cs j = inl (stays_same (cpu_at cs j))
calm_removed (Some k) cs j = at_set Calm cs k absent (λ i. inl (stays_same (cpu_at cs i))) (inr refl) j

first_removed : (o : Option ℕ) (cs : List Cpu) → ((i : ℕ) → o ≡ Some i → i ≢ 0) → Stays (cpu_at cs 0) (cpu_at (without_ejected o cs) 0)
first_removed None cs h = stays_same (cpu_at cs 0)
first_removed (Some k) cs h = subst (Stays (cpu_at cs 0)) (sym (get_or-set_other cs k 0 absent absent (λ e. h k refl (sym e)))) (stays_same (cpu_at cs 0))

acts_block : (p : Platform) (offset width value : ℕ) (s : State) → Acts p s (write_block offset width value s)
acts_block p offset width value s =
    let o = ejected_by s.block (block_write s.block offset width value) in
    record {
      cpus = λ j. calm_removed o s.cpus j;
      first = first_removed o s.cpus (λ i e. ejects_others s.block offset width value i e);
      locks = λ k. k;
      bytes = λ x k. k;
      low_memory = refl;
      monarch = refl;
      stage = refl;
    }

-- a write of another register of the block than control ejects nobody
pub stays_block : (offset width value : ℕ) (s : State) → (offset == 4) ≡ false → (j : ℕ) → Stays (at s j) (at (write_block offset width value s) j)
stays_block offset width value s e j =
    subst (λ o. Stays (at s j) (cpu_at (without_ejected o s.cpus) j)) (sym (ejects_none s.block offset width value e)) (stays_same (at s j))

acts_ich9 : (p : Platform) (k port width value : ℕ) (s : State) → Acts p s (write_ich9 p k port width value s)
acts_ich9 p k port width value s =
    of_cpus p s (write_ich9 p k port width value s) refl refl refl
    (λ j. pick (λ (cs : List Cpu). Stays (at s j) (cpu_at cs j)) (raises_smi s.ich9 port width) (smi_raised (has_broadcast s.fw_cfg.negotiated) k p.apic s.cpus) s.cpus
    (stays_raised (has_broadcast s.fw_cfg.negotiated) k p.apic s.cpus j) (stays_same (at s j)))

acts_port : (p : Platform) (k port width value : ℕ) (s : State) → Acts p s (write_port p k port width value s)
acts_port p k port width value s =
    pick (Acts p s) (is_on_block port) (write_block (port - 0xcd8) width value s) _ (acts_block p (port - 0xcd8) width value s)
    (pick (Acts p s) (is_fw_cfg_selector port width) (record s { fw_cfg = selected value s.fw_cfg }) _ (same p s _ refl refl refl refl)
    (pick (Acts p s) (is_dma_high port width) (record s { fw_cfg = with_high value s.fw_cfg }) _ (same p s _ refl refl refl refl)
    (pick (Acts p s) (is_dma_low port width) (start_transfer value s) (write_ich9 p k port width value s) (same p s (start_transfer value s) refl refl refl refl) (acts_ich9 p k port width value s))))

-- once it is 2, register 9c stays 2
two_stays : (has_default : Bool) (old value : ℕ) → old ≡ 2 → f_smbase_written has_default old value ≡ 2
two_stays has_default old value e = rw e refl

fixed_by : (l : Locks) → l.smram ≡ 0x18 → is_fixed l ≡ true
fixed_by l e = rw e refl

pub locked_write : (p : Platform) (l : Locks) (reg value : ℕ) → Locked p l → Locked p (lock_write l reg value)
locked_write p l reg value h =
    pick (Locked p) (reg == 0x9c) (record l { f_smbase = f_smbase_written l.has_default l.f_smbase value }) _
    (record { f_smbase = two_stays l.has_default l.f_smbase value h.f_smbase; smram = h.smram; esmramc = h.esmramc; low_memory = h.low_memory; ext_tseg = h.ext_tseg })
    (pick_by (Locked p) (is_fixed l) l _ (λ e. h) (λ e. absurd (let f = fixed_by l h.smram in cc)))

-- a locked byte stays locked
either_more : (d e r t : Bool) → ((d && r) || t) ≡ true → (d ≡ true → e ≡ true) → ((e && r) || t) ≡ true
either_more true e r t h more = rw (more refl) h
either_more false true true t h more = refl
either_more false true false t h more = h
either_more false false r t h more = h

either_first : (d t u : Bool) → (d || t) ≡ true → t ≡ false → (d || u) ≡ true
either_first true t u h f = refl
either_first false t u h f = absurd cc

still_two : (l : Locks) (value : ℕ) → (l.f_smbase == 2) ≡ true → (f_smbase_written l.has_default l.f_smbase value == 2) ≡ true
still_two l value e = let i : l.f_smbase ≡ 2 = grind (arith, nat_tests) in rw i refl

no_tseg : (l : Locks) (x : ℕ) → is_fixed l ≡ false → is_in_tseg l x ≡ false
no_tseg l x e = by_test (l.smram == 0x18) refl
  where
    by_test : (b : Bool) → (l.smram == 0x18) ≡ b → is_in_tseg l x ≡ false
    by_test false f = rw f refl
    by_test true f = absurd (let i : l.smram ≡ 0x18 = grind (arith, nat_tests) in let g = fixed_by l i in cc)

locked_stays : (l : Locks) (reg value x : ℕ) → is_locked l x ≡ true → is_locked (lock_write l reg value) x ≡ true
locked_stays l reg value x e =
    pick (λ a. is_locked a x ≡ true) (reg == 0x9c) (record l { f_smbase = f_smbase_written l.has_default l.f_smbase value }) _
    (either_more (l.f_smbase == 2) (f_smbase_written l.has_default l.f_smbase value == 2) (nat_le 0x30000 x && nat_lt x 0x50000) (is_in_tseg l x) e (still_two l value))
    (pick_by (λ a. is_locked a x ≡ true) (is_fixed l) l _ (λ f. e)
    (λ f. let first = λ (u : Bool). either_first (is_in_default l x) (is_in_tseg l x) u e (no_tseg l x f) in
    pick (λ a. is_locked a x ≡ true) (reg == 0x9d) (record l { smram = bit_and value 0x18 }) _ (first _)
    (pick (λ a. is_locked a x ≡ true) (reg == 0x9e) (record l { esmramc = bit_and value 7 }) _ (first _)
    (pick (λ a. is_locked a x ≡ true) (reg == 0x50) (record l { ext_tseg = ext_tseg_written l value }) l (first _) e))))

same_low : (l : Locks) (reg value : ℕ) → (lock_write l reg value).low_memory ≡ l.low_memory
same_low l reg value =
    pick (λ a. a.low_memory ≡ l.low_memory) (reg == 0x9c) (record l { f_smbase = f_smbase_written l.has_default l.f_smbase value }) _ refl
    (pick (λ a. a.low_memory ≡ l.low_memory) (is_fixed l) l _ refl
    (pick (λ a. a.low_memory ≡ l.low_memory) (reg == 0x9d) (record l { smram = bit_and value 0x18 }) _ refl
    (pick (λ a. a.low_memory ≡ l.low_memory) (reg == 0x9e) (record l { esmramc = bit_and value 7 }) _ refl
    (pick (λ a. a.low_memory ≡ l.low_memory) (reg == 0x50) (record l { ext_tseg = ext_tseg_written l value }) l refl refl))))

pub acts : (p : Platform) (k : ℕ) (b : Bool) (a : Access) (s : State) → Acts p s (access_effect p k b a s)
acts p k b (Load addr width) s = same p s s refl refl refl refl
acts p k b (Store addr width value) s = same p s _ refl refl refl refl
acts p k b (Swap addr expected desired) s = same p s _ refl refl refl refl
acts p k b (In port width) s = pick (Acts p s) (is_fw_cfg_data port width) (record s { fw_cfg = advanced 1 s.fw_cfg }) s (same p s _ refl refl refl refl) (same p s s refl refl refl refl)
acts p k b (Out port width value) s = acts_port p k port width value s
acts p k b (CfgRead reg) s = same p s s refl refl refl refl
acts p k b (CfgWrite reg value) s = record { cpus = λ j. inl (stays_same (at s j)); first = stays_same (at s 0); locks = λ h. locked_write p s.locks reg value h; bytes = λ x e. locked_stays s.locks reg value x e; low_memory = same_low s.locks reg value; monarch = refl; stage = refl }
acts p k b (Icr high low) s = of_cpus p s _ refl refl refl (λ j. stays_sent (decoded p.x2apic high low) (apic_of p k) p.apic s.cpus j)
acts p k b Halt s = of_cpus p s _ refl refl refl (λ j. stays_set s.cpus k (halt (at s k)) (stays_halt (at s k)) j)
acts p k b Nop s = same p s s refl refl refl refl

-- memory after an access from outside SMM
abbrev Leaves : ℕ → State → State → Type 0
Leaves x s t = IsLeft x s.writes t.writes

left_port : (p : Platform) (k port width value : ℕ) (s : State) (x : ℕ) → is_locked s.locks x ≡ true → Leaves x s (write_port p k port width value s)
left_port p k port width value s x e =
    let stays = left_same x s.writes in
    pick (Leaves x s) (is_on_block port) (write_block (port - 0xcd8) width value s) _ stays
    (pick (Leaves x s) (is_fw_cfg_selector port width) (record s { fw_cfg = selected value s.fw_cfg }) _ stays
    (pick (Leaves x s) (is_dma_high port width) (record s { fw_cfg = with_high value s.fw_cfg }) _ stays
    (pick (Leaves x s) (is_dma_low port width) (start_transfer value s) (write_ich9 p k port width value s)
    (left_transfer s.locks (dma_address value s.fw_cfg) (without_high s.fw_cfg) s.writes x e) stays)))

pub left_acted : (p : Platform) (k : ℕ) (a : Access) (s : State) (x : ℕ) → is_locked s.locks x ≡ true → IsLeft x s.writes (access_effect p k false a s).writes
left_acted p k (Load addr width) s x e = left_same x s.writes
left_acted p k (Store addr width value) s x e = left_outside s.locks addr width value s.writes x e
left_acted p k (Swap addr expected desired) s x e = left_swap s.locks addr expected desired s.writes x e
left_acted p k (In port width) s x e = pick (Leaves x s) (is_fw_cfg_data port width) (record s { fw_cfg = advanced 1 s.fw_cfg }) s (left_same x s.writes) (left_same x s.writes)
left_acted p k (Out port width value) s x e = left_port p k port width value s x e
left_acted p k (CfgRead reg) s x e = left_same x s.writes
left_acted p k (CfgWrite reg value) s x e = left_same x s.writes
left_acted p k (Icr high low) s x e = left_same x s.writes
left_acted p k Halt s x e = left_same x s.writes
left_acted p k Nop s x e = left_same x s.writes
