-- An event has the same effect on all that is visible.
use Rattle.std.proofs.Common.{ℕ, ◌≡◌, ◌-◌, ◌==◌, Bool, true, false, cond, List, slice_set, refl, sym, ap, subst, ◌∙◌}
use Rattle.std.proofs.lemmas.Bool.{eqb-true}
use Rattle.hp_model.specs.declared.platforms.Platform.{Platform}
use Rattle.hp_model.specs.declared.accesses.Access.{Access}
use Rattle.hp_model.specs.declared.accesses.Access.TheVariants.{Load, Store, Swap, In, Out, CfgRead, CfgWrite, Icr, Halt, Nop}
use Rattle.hp_model.specs.declared.accesses.Answer.TheVariants.{Value}
use Rattle.hp_model.specs.declared.processors.Cpu.{Cpu}
use Rattle.hp_model.specs.Platform.{apic_of}
use Rattle.hp_model.specs.Memory.{Write, byte_at}
use Rattle.hp_model.specs.View.{Locks, f_smbase_written, is_fixed, lock_write, lock_read, loaded, stored, swapped}
use Rattle.hp_model.specs.Cpu.{inserted, halt}
use Rattle.hp_model.specs.Block.{block_write, ejected_by, with_insert, with_removal}
use Rattle.hp_model.specs.Interrupts.{decoded, sent, smi_raised}
use Rattle.hp_model.specs.Ich9.{Ich9, ich9_write, raises_smi, with_event, processor_event}
use Rattle.hp_model.specs.FwCfg.{FwCfg, selected, advanced, with_high, dma_address, without_high, has_broadcast}
use Rattle.hp_model.specs.Transfers.{transfer}
use Rattle.hp_model.specs.State.{State, at}
use Rattle.hp_model.specs.Ports.{is_on_block, is_fw_cfg_selector, is_fw_cfg_data, is_dma_high, is_dma_low, after_read, without_ejected, write_block, start_transfer, write_ich9, write_port}
use Rattle.hp_model.specs.Access.{answer_to, access_effect}
use Rattle.hp_model.specs.Step.{insert, request_removal}
use Rattle.hp_model.specs.Visible.{IsAlike}
use Rattle.hp_secrecy.specs.Shielded.{IsShielded}
use Rattle.hp_secrecy.proofs.Bytes.{AlikeBytes, bytes_then, bytes_back, store_both, load_both, swap_both, swap_unseen}
use Rattle.hp_secrecy.proofs.Transfers.{AlikeTransferred, transfer_both}
use Rattle.hp_secrecy.proofs.Cpus.{AlikeCpus, pick_both, alike_at, alike_set, alike_halt, alike_sent, alike_raised, alike_ejected}
use Rattle.hp_secrecy.proofs.Saves.{gate_locked}
use Rattle.hp_secrecy.proofs.Swaps.{swaps_gate}

-- processors alone change
pub alike_cpus : (s t : State) (cs ds : List Cpu) → IsAlike s t → AlikeCpus cs ds → IsAlike (record s { cpus = cs }) (record t { cpus = ds })
alike_cpus s t cs ds h e = record { cpus = e; memory = h.memory; locks = h.locks; block = h.block; ich9 = h.ich9; fw_cfg = h.fw_cfg; stage = h.stage }

-- memory alone changes
pub alike_writes : (s t : State) (ws vs : List Write) → IsAlike s t → AlikeBytes s.locks ws vs → IsAlike (record s { writes = ws }) (record t { writes = vs })
alike_writes s t ws vs h e = record { cpus = h.cpus; memory = e; locks = h.locks; block = h.block; ich9 = h.ich9; fw_cfg = h.fw_cfg; stage = h.stage }

alike_fw_cfg : (s t : State) (f g : FwCfg) → IsAlike s t → f ≡ g → IsAlike (record s { fw_cfg = f }) (record t { fw_cfg = g })
alike_fw_cfg s t f g h e = record { cpus = h.cpus; memory = h.memory; locks = h.locks; block = h.block; ich9 = h.ich9; fw_cfg = e; stage = h.stage }

-- host events
pub alike_insert : (k : ℕ) (s t : State) → IsAlike s t → IsAlike (insert k s) (insert k t)
alike_insert k s t h = record { cpus = alike_set s.cpus t.cpus k inserted inserted h.cpus refl; memory = h.memory; locks = h.locks; block = ap (λ b. with_insert b k) h.block; ich9 = ap (with_event processor_event) h.ich9; fw_cfg = h.fw_cfg; stage = h.stage }

pub alike_removal : (k : ℕ) (s t : State) → IsAlike s t → IsAlike (request_removal k s) (request_removal k t)
alike_removal k s t h = record { cpus = h.cpus; memory = h.memory; locks = h.locks; block = ap (λ b. with_removal b k) h.block; ich9 = ap (with_event processor_event) h.ich9; fw_cfg = h.fw_cfg; stage = h.stage }

-- ports
alike_block : (offset width value : ℕ) (s t : State) → IsAlike s t → IsAlike (write_block offset width value s) (write_block offset width value t)
alike_block offset width value s t h = record {
  cpus = subst (λ b. AlikeCpus (without_ejected (ejected_by s.block (block_write s.block offset width value)) s.cpus) (without_ejected (ejected_by b (block_write b offset width value)) t.cpus)) h.block
      (alike_ejected (ejected_by s.block (block_write s.block offset width value)) s.cpus t.cpus h.cpus);
  memory = h.memory;
  locks = h.locks;
  block = ap (λ b. block_write b offset width value) h.block;
  ich9 = h.ich9;
  fw_cfg = h.fw_cfg;
  stage = h.stage;
}

alike_transfer : (value : ℕ) (s t : State) → IsAlike s t → IsAlike (start_transfer value s) (start_transfer value t)
alike_transfer value s t h =
    let both : AlikeTransferred s.locks (transfer s.locks (dma_address value s.fw_cfg) (without_high s.fw_cfg) s.writes) (transfer t.locks (dma_address value t.fw_cfg) (without_high t.fw_cfg) t.writes) =
    subst (λ l. AlikeTransferred s.locks (transfer s.locks (dma_address value s.fw_cfg) (without_high s.fw_cfg) s.writes) (transfer l (dma_address value t.fw_cfg) (without_high t.fw_cfg) t.writes)) h.locks
    (subst (λ f. AlikeTransferred s.locks (transfer s.locks (dma_address value s.fw_cfg) (without_high s.fw_cfg) s.writes) (transfer s.locks (dma_address value f) (without_high f) t.writes)) h.fw_cfg
    (transfer_both s.locks (dma_address value s.fw_cfg) (without_high s.fw_cfg) s.writes t.writes h.memory)) in
    record { cpus = h.cpus; memory = both.memory; locks = h.locks; block = h.block; ich9 = h.ich9; fw_cfg = both.fw_cfg; stage = h.stage }

abbrev raised : Platform → ℕ → ℕ → ℕ → Ich9 → FwCfg → List Cpu → List Cpu
raised p k port width i f cs = cond (raises_smi i port width) (smi_raised (has_broadcast f.negotiated) k p.apic cs) cs

alike_ich9 : (p : Platform) (k port width value : ℕ) (s t : State) → IsAlike s t → IsAlike (write_ich9 p k port width value s) (write_ich9 p k port width value t)
alike_ich9 p k port width value s t h = record {
  cpus = subst (λ i. AlikeCpus (raised p k port width s.ich9 s.fw_cfg s.cpus) (raised p k port width i t.fw_cfg t.cpus)) h.ich9
      (subst (λ f. AlikeCpus (raised p k port width s.ich9 s.fw_cfg s.cpus) (raised p k port width s.ich9 f t.cpus)) h.fw_cfg
      (pick_both AlikeCpus (raises_smi s.ich9 port width) (smi_raised (has_broadcast s.fw_cfg.negotiated) k p.apic s.cpus) s.cpus (smi_raised (has_broadcast s.fw_cfg.negotiated) k p.apic t.cpus) t.cpus
      (alike_raised (has_broadcast s.fw_cfg.negotiated) k p.apic s.cpus t.cpus h.cpus) h.cpus));
  memory = h.memory;
  locks = h.locks;
  block = h.block;
  ich9 = ap (λ i. ich9_write i port width value) h.ich9;
  fw_cfg = h.fw_cfg;
  stage = h.stage;
}

alike_port : (p : Platform) (k port width value : ℕ) (s t : State) → IsAlike s t → IsAlike (write_port p k port width value s) (write_port p k port width value t)
alike_port p k port width value s t h =
    pick_both IsAlike (is_on_block port) (write_block (port - 0xcd8) width value s) _ (write_block (port - 0xcd8) width value t) _ (alike_block (port - 0xcd8) width value s t h)
    (pick_both IsAlike (is_fw_cfg_selector port width) (record s { fw_cfg = selected value s.fw_cfg }) _ (record t { fw_cfg = selected value t.fw_cfg }) _ (alike_fw_cfg s t (selected value s.fw_cfg) (selected value t.fw_cfg) h (ap (selected value) h.fw_cfg))
    (pick_both IsAlike (is_dma_high port width) (record s { fw_cfg = with_high value s.fw_cfg }) _ (record t { fw_cfg = with_high value t.fw_cfg }) _ (alike_fw_cfg s t (with_high value s.fw_cfg) (with_high value t.fw_cfg) h (ap (with_high value) h.fw_cfg))
    (pick_both IsAlike (is_dma_low port width) (start_transfer value s) _ (start_transfer value t) _ (alike_transfer value s t h) (alike_ich9 p k port width value s t h))))

alike_read : (port width : ℕ) (s t : State) → IsAlike s t → IsAlike (after_read port width s) (after_read port width t)
alike_read port width s t h = pick_both IsAlike (is_fw_cfg_data port width) (record s { fw_cfg = advanced 1 s.fw_cfg }) s (record t { fw_cfg = advanced 1 t.fw_cfg }) t (alike_fw_cfg s t (advanced 1 s.fw_cfg) (advanced 1 t.fw_cfg) h (ap (advanced 1) h.fw_cfg)) h

-- the lock registers are fixed
either_is : (b : Bool) (x y l : Locks) → x ≡ l → y ≡ l → cond b x y ≡ l
either_is true x y l e f = e
either_is false x y l e f = f

locks_stay : (l : Locks) (reg value : ℕ) → l.f_smbase ≡ 2 → l.smram ≡ 0x18 → lock_write l reg value ≡ l
locks_stay l reg value two all =
    let stays : f_smbase_written l.has_default l.f_smbase value ≡ l.f_smbase = rw two refl in
    let fixed : is_fixed l ≡ true = rw all refl in
    either_is (reg == 0x9c) (record l { f_smbase = f_smbase_written l.has_default l.f_smbase value }) _ l (ap (λ (n : ℕ). record l { f_smbase = n }) stays) (rw fixed refl)

alike_locks : (p : Platform) (reg value : ℕ) (s t : State) → IsShielded p s → IsAlike s t → IsAlike (record s { locks = lock_write s.locks reg value }) (record t { locks = lock_write t.locks reg value })
alike_locks p reg value s t shielded h = record {
  cpus = h.cpus;
  memory = subst (λ l. AlikeBytes l s.writes t.writes) (sym (locks_stay s.locks reg value shielded.f_smbase shielded.smram)) h.memory;
  locks = ap (λ l. lock_write l reg value) h.locks;
  block = h.block;
  ich9 = h.ich9;
  fw_cfg = h.fw_cfg;
  stage = h.stage;
}

-- compare and exchange: outside SMM on what both see, in SMM on the gate alone
alike_swap : (p : Platform) (in_smm : Bool) (addr old new : ℕ) (s t : State) → IsShielded p s → (in_smm ≡ true → (addr == 0x30000) ≡ true) → IsAlike s t → AlikeBytes s.locks (swapped s.locks in_smm addr old new s.writes) (swapped s.locks in_smm addr old new t.writes)
alike_swap p false addr old new s t shielded gates h = swap_both s.locks addr old new s.writes t.writes h.memory
alike_swap p true addr old new s t shielded gates h =
    let l : Locks = s.locks in
    let unseen : (ws : List Write) → AlikeBytes l (swapped l true addr old new ws) ws =
    λ ws. subst (λ a. AlikeBytes l (swapped l true a old new ws) ws) (sym (eqb-true addr 0x30000 (gates refl))) (swap_unseen l true 0x30000 old new ws (gate_locked p s shielded)) in
    bytes_then l (swapped l true addr old new s.writes) s.writes (swapped l true addr old new t.writes) (unseen s.writes)
    (bytes_then l s.writes t.writes (swapped l true addr old new t.writes) h.memory (bytes_back l (swapped l true addr old new t.writes) t.writes (unseen t.writes)))

-- an access
pub alike_access : (p : Platform) (k : ℕ) (in_smm : Bool) (a : Access) (s t : State) → IsShielded p s → (in_smm ≡ true → swaps_gate a ≡ true) → IsAlike s t → IsAlike (access_effect p k in_smm a s) (access_effect p k in_smm a t)
alike_access p k in_smm (Load addr width) s t shielded gates h = h
alike_access p k in_smm (Store addr width value) s t shielded gates h =
    alike_writes s t (stored s.locks in_smm addr width value s.writes) (stored t.locks in_smm addr width value t.writes) h
    (subst (λ l. AlikeBytes s.locks (stored s.locks in_smm addr width value s.writes) (stored l in_smm addr width value t.writes)) h.locks
    (store_both s.locks in_smm addr width value s.writes t.writes h.memory))
alike_access p k in_smm (Swap addr old new) s t shielded gates h =
    alike_writes s t (swapped s.locks in_smm addr old new s.writes) (swapped t.locks in_smm addr old new t.writes) h
    (subst (λ l. AlikeBytes s.locks (swapped s.locks in_smm addr old new s.writes) (swapped l in_smm addr old new t.writes)) h.locks
    (alike_swap p in_smm addr old new s t shielded gates h))
alike_access p k in_smm (In port width) s t shielded gates h = alike_read port width s t h
alike_access p k in_smm (Out port width value) s t shielded gates h = alike_port p k port width value s t h
alike_access p k in_smm (CfgRead reg) s t shielded gates h = h
alike_access p k in_smm (CfgWrite reg value) s t shielded gates h = alike_locks p reg value s t shielded h
alike_access p k in_smm (Icr high low) s t shielded gates h =
    alike_cpus s t (sent (decoded p.x2apic high low) (apic_of p k) p.apic s.cpus) (sent (decoded p.x2apic high low) (apic_of p k) p.apic t.cpus) h (alike_sent (decoded p.x2apic high low) (apic_of p k) p.apic s.cpus t.cpus h.cpus)
alike_access p k in_smm Halt s t shielded gates h =
    alike_cpus s t (slice_set s.cpus k (halt (at s k))) (slice_set t.cpus k (halt (at t k))) h
    (alike_set s.cpus t.cpus k (halt (at s k)) (halt (at t k)) h.cpus (alike_halt (at s k) (at t k) (alike_at s.cpus t.cpus k h.cpus)))
alike_access p k in_smm Nop s t shielded gates h = h

-- what an access from outside SMM is answered
pub same_answer : (a : Access) (s t : State) → IsAlike s t → answer_to false a s ≡ answer_to false a t
same_answer (Load addr width) s t h = ap Value (load_same addr width s t h)
  where
    load_same : (addr width : ℕ) (s t : State) → IsAlike s t → loaded s.locks false (byte_at s.writes) addr width ≡ loaded t.locks false (byte_at t.writes) addr width
    load_same addr width s t h = load_both s.locks addr width s.writes t.writes h.memory ∙ ap (λ l. loaded l false (byte_at t.writes) addr width) h.locks
same_answer (Store addr width value) s t h = refl
same_answer (Swap addr old new) s t h = ap Value (load_both s.locks addr 8 s.writes t.writes h.memory ∙ ap (λ l. loaded l false (byte_at t.writes) addr 8) h.locks)
same_answer (In port width) s t h = ap Value (rw (h.block, h.fw_cfg, h.ich9) refl)
same_answer (Out port width value) s t h = refl
same_answer (CfgRead reg) s t h = ap (λ l. Value (lock_read l reg)) h.locks
same_answer (CfgWrite reg value) s t h = refl
same_answer (Icr high low) s t h = refl
same_answer Halt s t h = refl
same_answer Nop s t h = refl
