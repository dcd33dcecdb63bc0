-- The register block and the processors agree on who is there.
use Rattle.std.proofs.Common.{ℕ, zero, suc, ◌≡◌, ◌≢◌, ◌+◌, ◌-◌, ◌%◌, ◌<◌, ◌≤◌, ◌==◌, inl, inr, Bool, true, false, cond, not, ◌&&◌, ◌||◌, nat_lt, List, [], ◌∷◌, length, replicate, slice_set, Option, Some, None, bit_and, refl, sym, ap, subst, ◌∙◌, arith, length-set, get_or-set_other}
use Rattle.std.specs.Prelude.{slice_index_or}
use Rattle.std.proofs.lemmas.Bool.{ltb-true, cases_eq}
use Rattle.std.proofs.lemmas.Bool.Decides.{nat_tests}
use Rattle.std.proofs.lemmas.List.{length-replicate}
use Rattle.hp_model.specs.declared.platforms.Platform.{Platform}
use Rattle.hp_model.specs.declared.processors.Cpu.{Cpu}
use Rattle.hp_model.specs.declared.processors.Kind.{Kind}
use Rattle.hp_model.specs.declared.processors.Kind.TheVariants.{Smi}
use Rattle.hp_model.specs.declared.processors.Ipi.{Ipi}
use Rattle.hp_model.specs.declared.accesses.Access.{Access}
use Rattle.hp_model.specs.declared.accesses.Access.TheVariants.{Load, Store, Swap, In, Out, CfgRead, CfgWrite, Icr, Halt, Nop}
use Rattle.hp_model.specs.Platform.{count_of, apic_of, tile}
use Rattle.hp_model.specs.Cpu.{absent, inserted, booted, boot_cpus, cpus_start, cpu_at, halt, hit}
use Rattle.hp_model.specs.Block.{Block, Slot, no_slot, slot_at, set_slot, is_selected, cut, controlled, write_control, write_command, with_data, write_data, modern_write, block_write, ejected_by, is_in, slots_from, block_start, with_insert, with_removal}
use Rattle.hp_model.specs.Interrupts.{decoded, is_target, hit_each, sent, smi_raised}
use Rattle.hp_model.specs.Ich9.{raises_smi}
use Rattle.hp_model.specs.FwCfg.{selected, advanced, with_high, has_broadcast}
use Rattle.hp_model.specs.State.{State, at}
use Rattle.hp_model.specs.Ports.{without_ejected, write_block, is_on_block, is_fw_cfg_data, is_fw_cfg_selector, is_dma_high, is_dma_low, start_transfer, write_ich9, write_port, writes_block}
use Rattle.hp_model.specs.Access.{access_effect}
use Rattle.hp_sealed.proofs.Left.{pick, pick_by}
use Rattle.hp_sealed.proofs.Stay.{stays_sent, stays_raised, at_set}
use Rattle.hp_exact.proofs.Invariant.{Agrees}

-- a write of the register block, but for who is there
pub record Written (b d : Block) : Type 0 where
  pub apic : d.apic ≡ b.apic
  pub slots : length d.slots ≡ length b.slots
  pub modern : b.modern ≡ true → d.modern ≡ true
  pub other : (k : ℕ) → k ≢ b.selector → slot_at d k ≡ slot_at b k
  pub enabled : (slot_at d b.selector).enabled ≡ true → (slot_at b b.selector).enabled ≡ true
  pub inserting : (slot_at b 0).inserting ≡ false → (slot_at d 0).inserting ≡ false
  pub ejecting : (slot_at b 0).ejecting ≡ false → (slot_at d 0).ejecting ≡ false

written_plain : (b d : Block) → d.apic ≡ b.apic → d.slots ≡ b.slots → (b.modern ≡ true → d.modern ≡ true) → Written b d
written_plain b d a s m = record { apic = a; slots = ap length s; modern = m; other = λ k n. rw s refl; enabled = λ e. let f : slot_at d b.selector ≡ slot_at b b.selector = rw s refl in subst (λ (t : Slot). t.enabled ≡ true) f e; inserting = λ e. let f : slot_at d 0 ≡ slot_at b 0 = rw s refl in subst (λ (t : Slot). t.inserting ≡ false) (sym f) e; ejecting = λ e. let f : slot_at d 0 ≡ slot_at b 0 = rw s refl in subst (λ (t : Slot). t.ejecting ≡ false) (sym f) e }

-- what one change of one slot leaves at it
slot_here : (R : Slot → Slot → Type 0) (ss : List Slot) (i : ℕ) (t : Slot) → R no_slot no_slot → R (slice_index_or ss i no_slot) t → R (slice_index_or ss i no_slot) (slice_index_or (slice_set ss i t) i no_slot)
slot_here R [] i t none here = none
slot_here R (s ∷ ss) zero t none here = here
slot_here R (s ∷ ss) (suc i) t none here = slot_here R ss i t none here

written_slot : (b : Block) (t : Slot) → (t.enabled ≡ true → (slot_at b b.selector).enabled ≡ true) → (b.selector ≡ 0 → (slot_at b b.selector).inserting ≡ false → t.inserting ≡ false) → (b.selector ≡ 0 → (slot_at b b.selector).ejecting ≡ false → t.ejecting ≡ false) → Written b (set_slot b b.selector t)
written_slot b t enabled inserting ejecting = record {
  apic = refl;
  slots = length-set b.slots b.selector t;
  modern = λ e. e;
  other = λ k n. get_or-set_other b.slots b.selector k t no_slot n;
  enabled = slot_here (λ u v. v.enabled ≡ true → u.enabled ≡ true) b.slots b.selector t (λ e. e) enabled;
  inserting = first (λ u v. u.inserting ≡ false → v.inserting ≡ false) (λ u e. e) (λ e. e) inserting;
  ejecting = first (λ u v. u.ejecting ≡ false → v.ejecting ≡ false) (λ u e. e) (λ e. e) ejecting;
}
  where
    first : (R : Slot → Slot → Type 0) → ((u : Slot) → R u u) → R no_slot no_slot → (b.selector ≡ 0 → R (slot_at b b.selector) t) → R (slot_at b 0) (slot_at (set_slot b b.selector t) 0)
    first R same none here = elim (cases_eq b.selector 0) [
      | inl e ↦ subst (λ k. R (slot_at b k) (slot_at (set_slot b b.selector t) k)) e (slot_here R b.slots b.selector t none (here e))
      | inr n ↦ subst (R (slot_at b 0)) (sym (get_or-set_other b.slots b.selector 0 t no_slot (λ e. n (sym e)))) (same (slot_at b 0))
    ]

control_enabled : (s : Slot) (f : Bool) (v : ℕ) → (controlled s f v).enabled ≡ true → s.enabled ≡ true
control_enabled s f v =
    pick (λ (t : Slot). t.enabled ≡ true → s.enabled ≡ true) (bit_and v 2 == 2) (record s { inserting = false }) _ (λ e. e)
    (pick (λ (t : Slot). t.enabled ≡ true → s.enabled ≡ true) (bit_and v 4 == 4) (record s { removing = false }) _ (λ e. e)
    (pick (λ (t : Slot). t.enabled ≡ true → s.enabled ≡ true) (f || not s.enabled) s _ (λ e. e)
    (pick (λ (t : Slot). t.enabled ≡ true → s.enabled ≡ true) (bit_and v 8 == 8) (record s { enabled = false; ejecting = false }) _ (λ e. absurd cc)
    (pick (λ (t : Slot). t.enabled ≡ true → s.enabled ≡ true) (bit_and v 16 == 16) (record s { ejecting = true }) s (λ e. e) (λ e. e)))))

control_inserting : (s : Slot) (v : ℕ) → s.inserting ≡ false → (controlled s true v).inserting ≡ false
control_inserting s v e =
    pick (λ (t : Slot). t.inserting ≡ false) (bit_and v 2 == 2) (record s { inserting = false }) _ refl
    (pick (λ (t : Slot). t.inserting ≡ false) (bit_and v 4 == 4) (record s { removing = false }) s e e)

control_ejecting : (s : Slot) (v : ℕ) → s.ejecting ≡ false → (controlled s true v).ejecting ≡ false
control_ejecting s v e =
    pick (λ (t : Slot). t.ejecting ≡ false) (bit_and v 2 == 2) (record s { inserting = false }) _ e
    (pick (λ (t : Slot). t.ejecting ≡ false) (bit_and v 4 == 4) (record s { removing = false }) s e e)

is_first : (k : ℕ) → k ≡ 0 → (k == 0) ≡ true
is_first k e = rw e refl

written_control : (b : Block) (v : ℕ) → Written b (write_control b v)
written_control b v =
    let s = slot_at b b.selector in
    written_slot b (controlled s (b.selector == 0) v) (control_enabled s (b.selector == 0) v)
    (λ z e. subst (λ f. (controlled s f v).inserting ≡ false) (sym (is_first b.selector z)) (control_inserting s v e))
    (λ z e. subst (λ f. (controlled s f v).ejecting ≡ false) (sym (is_first b.selector z)) (control_ejecting s v e))

abbrev DataLeaves : Slot → Slot → Type 0
DataLeaves s t = (t.enabled ≡ s.enabled) × (t.inserting ≡ s.inserting) × (t.ejecting ≡ s.ejecting)

data_leaves : (s : Slot) (c v : ℕ) → DataLeaves s (with_data s c v)
data_leaves s c v = pick (DataLeaves s) (c == 1) (record s { ost_event = v }) _ (refl, refl, refl) (pick (DataLeaves s) (c == 2) (record s { ost_status = v }) s (refl, refl, refl) (refl, refl, refl))

written_data : (b : Block) (v : ℕ) → Written b (write_data b v)
written_data b v =
    let s = slot_at b b.selector in
    let h = data_leaves s b.command v in
    written_slot b (with_data s b.command v) (λ e. sym h.0 ∙ e) (λ z e. h.1 ∙ e) (λ z e. h.2 ∙ e)

pub written : (b : Block) (offset width value : ℕ) → Written b (block_write b offset width value)
written b offset width value =
    let v = cut width value in
    pick (Written b) b.modern (modern_write b offset v) _
    (pick (Written b) (offset == 0) (record b { selector = v }) _ (written_plain b (record b { selector = v }) refl refl (λ e. e))
    (pick (Written b) (not (is_selected b)) b _ (written_plain b b refl refl (λ e. e))
    (pick (Written b) (offset == 4) (write_control b (v % 256)) _ (written_control b (v % 256))
    (pick (Written b) (offset == 5) (write_command b (v % 256)) _ (written_plain b (write_command b (v % 256)) refl refl (λ e. e))
    (pick (Written b) (offset == 8) (write_data b v) b (written_data b v) (written_plain b b refl refl (λ e. e)))))))
    (pick (Written b) (b.can_switch && ((offset == 0) && (v == 0))) (record b { modern = true }) b (written_plain b (record b { modern = true }) refl refl (λ e. refl)) (written_plain b b refl refl (λ e. e)))

-- processors that are there or not as before
pub agrees_cpus : (p : Platform) (b : Block) (cs ds : List Cpu) → Agrees p b cs → length ds ≡ length cs → ((j : ℕ) → (cpu_at ds j).present ≡ (cpu_at cs j).present) → Agrees p b ds
agrees_cpus p b cs ds h n same = record { apic = h.apic; slots = h.slots; cpus = n ∙ h.cpus; inserting = h.inserting; ejecting = h.ejecting; enabled = λ k. h.enabled k ∙ sym (same k) }

pub agrees_set : (p : Platform) (b : Block) (cs : List Cpu) (k : ℕ) (d : Cpu) → Agrees p b cs → d.present ≡ (cpu_at cs k).present → Agrees p b (slice_set cs k d)
agrees_set p b cs k d h same = agrees_cpus p b cs (slice_set cs k d) h (length-set cs k d) (at_set (λ c d. d.present ≡ c.present) cs k d (λ j. refl) same)

-- a write of the block, and who it ejects
pub gone_at : (cs : List Cpu) (k : ℕ) → (cpu_at (slice_set cs k absent) k).present ≡ false
gone_at [] k = refl
gone_at (c ∷ cs) zero = refl
gone_at (c ∷ cs) (suc k) = gone_at cs k

length_removed : (o : Option ℕ) (cs : List Cpu) → length (without_ejected o cs) ≡ length cs
length_removed None cs = refl
length_removed (Some k) cs = length-set cs k absent

agrees_written : (p : Platform) (b d : Block) (cs : List Cpu) → Written b d → Agrees p b cs → Agrees p d (without_ejected (ejected_by b d) cs)
agrees_written p b d cs w h = record {
  apic = w.apic ∙ h.apic;
  slots = w.slots ∙ h.slots;
  cpus = length_removed (ejected_by b d) cs ∙ h.cpus;
  inserting = w.inserting h.inserting;
  ejecting = w.ejecting h.ejecting;
  enabled = λ k. elim (cases_eq k b.selector) [ inl e ↦ subst (λ i. (slot_at d i).enabled ≡ (cpu_at (without_ejected (ejected_by b d) cs) i).present) (sym e) (here (slot_at b b.selector).enabled (slot_at d b.selector).enabled refl refl) | inr n ↦ there k n (slot_at b b.selector).enabled (slot_at d b.selector).enabled ];
}
  where
    here : (o n : Bool) → (slot_at b b.selector).enabled ≡ o → (slot_at d b.selector).enabled ≡ n → (slot_at d b.selector).enabled ≡ (cpu_at (without_ejected (ejected_by b d) cs) b.selector).present
    here true true e f = rw (e, f) (sym (sym (h.enabled b.selector) ∙ e))
    here true false e f = rw (e, f) (sym (gone_at cs b.selector))
    here false true e f = absurd (let g = w.enabled f in let both : true ≡ false = sym g ∙ e in cc)
    here false false e f = rw (e, f) (sym (sym (h.enabled b.selector) ∙ e))

    there : (k : ℕ) → k ≢ b.selector → (o n : Bool) → (slot_at d k).enabled ≡ (cpu_at (without_ejected (cond (o && not n) (Some b.selector) None) cs) k).present
    there k other true true = ap (λ (s : Slot). s.enabled) (w.other k other) ∙ h.enabled k
    there k other true false = ap (λ (s : Slot). s.enabled) (w.other k other) ∙ (h.enabled k ∙ sym (ap (λ (c : Cpu). c.present) (get_or-set_other cs b.selector k absent absent other)))
    there k other false n = ap (λ (s : Slot). s.enabled) (w.other k other) ∙ h.enabled k

abbrev AgreesIn : Platform → State → Type 0
AgreesIn p s = Agrees p s.block s.cpus

agrees_block : (p : Platform) (offset width value : ℕ) (s : State) → AgreesIn p s → AgreesIn p (write_block offset width value s)
agrees_block p offset width value s h = agrees_written p s.block (block_write s.block offset width value) s.cpus (written s.block offset width value) h

length_each : (aims : ℕ → Bool) (kind : Kind) (ids : List ℕ) (cs : List Cpu) → length (hit_each aims kind ids cs) ≡ length cs
unfolding hit_each
length_each aims kind [] cs = refl
length_each aims kind (id ∷ ids) [] = refl
length_each aims kind (id ∷ ids) (c ∷ cs) = ap suc (length_each aims kind ids cs)

length_sent : (ipi : Option Ipi) (sender : ℕ) (ids : List ℕ) (cs : List Cpu) → length (sent ipi sender ids cs) ≡ length cs
length_sent None sender ids cs = refl
length_sent (Some ipi) sender ids cs = length_each (is_target ipi.to sender) ipi.kind ids cs

length_raised : (b : Bool) (k : ℕ) (ids : List ℕ) (cs : List Cpu) → length (smi_raised b k ids cs) ≡ length cs
length_raised true k ids cs = length_each (λ id. true) Smi ids cs
length_raised false k ids cs = length-set cs k (hit Smi (cpu_at cs k))

agrees_port : (p : Platform) (k port width value : ℕ) (s : State) → AgreesIn p s → AgreesIn p (write_port p k port width value s)
agrees_port p k port width value s h =
    pick (AgreesIn p) (is_on_block port) (write_block (port - 0xcd8) width value s) _ (agrees_block p (port - 0xcd8) width value s h)
    (pick (AgreesIn p) (is_fw_cfg_selector port width) (record s { fw_cfg = selected value s.fw_cfg }) _ h
    (pick (AgreesIn p) (is_dma_high port width) (record s { fw_cfg = with_high value s.fw_cfg }) _ h
    (pick (AgreesIn p) (is_dma_low port width) (start_transfer value s) (write_ich9 p k port width value s) h
    (pick (λ (cs : List Cpu). Agrees p s.block cs) (raises_smi s.ich9 port width) (smi_raised (has_broadcast s.fw_cfg.negotiated) k p.apic s.cpus) s.cpus
    (agrees_cpus p s.block s.cpus _ h (length_raised (has_broadcast s.fw_cfg.negotiated) k p.apic s.cpus) (λ j. (stays_raised (has_broadcast s.fw_cfg.negotiated) k p.apic s.cpus j).present)) h))))

-- any access of anybody
pub agrees_acted : (p : Platform) (k : ℕ) (b : Bool) (a : Access) (s : State) → AgreesIn p s → AgreesIn p (access_effect p k b a s)
agrees_acted p k b (Load addr width) s h = h
agrees_acted p k b (Store addr width value) s h = h
agrees_acted p k b (Swap addr expected desired) s h = h
agrees_acted p k b (In port width) s h = pick (AgreesIn p) (is_fw_cfg_data port width) (record s { fw_cfg = advanced 1 s.fw_cfg }) s h h
agrees_acted p k b (Out port width value) s h = agrees_port p k port width value s h
agrees_acted p k b (CfgRead reg) s h = h
agrees_acted p k b (CfgWrite reg value) s h = h
agrees_acted p k b (Icr high low) s h = agrees_cpus p s.block s.cpus _ h (length_sent (decoded p.x2apic high low) (apic_of p k) p.apic s.cpus) (λ j. (stays_sent (decoded p.x2apic high low) (apic_of p k) p.apic s.cpus j).present)
agrees_acted p k b Halt s h = agrees_set p s.block s.cpus k (halt (at s k)) h refl
agrees_acted p k b Nop s h = h

pub modern_acted : (p : Platform) (k : ℕ) (b : Bool) (a : Access) (s : State) → s.block.modern ≡ true → (access_effect p k b a s).block.modern ≡ true
modern_acted p k b (Load addr width) s h = h
modern_acted p k b (Store addr width value) s h = h
modern_acted p k b (Swap addr expected desired) s h = h
modern_acted p k b (In port width) s h = pick (λ (t : State). t.block.modern ≡ true) (is_fw_cfg_data port width) (record s { fw_cfg = advanced 1 s.fw_cfg }) s h h
modern_acted p k b (Out port width value) s h =
    pick (λ (t : State). t.block.modern ≡ true) (is_on_block port) (write_block (port - 0xcd8) width value s) _ ((written s.block (port - 0xcd8) width value).modern h)
    (pick (λ (t : State). t.block.modern ≡ true) (is_fw_cfg_selector port width) (record s { fw_cfg = selected value s.fw_cfg }) _ h
    (pick (λ (t : State). t.block.modern ≡ true) (is_dma_high port width) (record s { fw_cfg = with_high value s.fw_cfg }) _ h
    (pick (λ (t : State). t.block.modern ≡ true) (is_dma_low port width) (start_transfer value s) (write_ich9 p k port width value s) h h)))
modern_acted p k b (CfgRead reg) s h = h
modern_acted p k b (CfgWrite reg value) s h = h
modern_acted p k b (Icr high low) s h = h
modern_acted p k b Halt s h = h
modern_acted p k b Nop s h = h

-- host events
pub agrees_insert : (p : Platform) (b : Block) (cs : List Cpu) (k : ℕ) → k < count_of p → k ≢ 0 → Agrees p b cs → Agrees p (with_insert b k) (slice_set cs k inserted)
agrees_insert p b cs k less other h = record {
  apic = h.apic;
  slots = length-set b.slots k _ ∙ h.slots;
  cpus = length-set cs k inserted ∙ h.cpus;
  inserting = subst (λ (s : Slot). s.inserting ≡ false) (sym (get_or-set_other b.slots k 0 _ no_slot (λ e. other (sym e)))) h.inserting;
  ejecting = subst (λ (s : Slot). s.ejecting ≡ false) (sym (get_or-set_other b.slots k 0 _ no_slot (λ e. other (sym e)))) h.ejecting;
  enabled = λ j. elim (cases_eq j k) [
    | inl e ↦ subst (λ i. (slot_at (with_insert b k) i).enabled ≡ (cpu_at (slice_set cs k inserted) i).present) (sym e) (slot_there b.slots k _ (let n = h.slots in omega (arith, n, less)) refl ∙ sym (cpu_there cs k (let n = h.cpus in omega (arith, n, less))))
    | inr n ↦ ap (λ (s : Slot). s.enabled) (get_or-set_other b.slots k j _ no_slot n) ∙ (h.enabled j ∙ sym (ap (λ (c : Cpu). c.present) (get_or-set_other cs k j inserted absent n)))
  ];
}
  where
    slot_there : (ss : List Slot) (k : ℕ) (t : Slot) → k < length ss → t.enabled ≡ true → (slice_index_or (slice_set ss k t) k no_slot).enabled ≡ true
    slot_there [] k t less e = absurd (omega (arith, less))
    slot_there (s ∷ ss) zero t less e = e
    slot_there (s ∷ ss) (suc k) t less e = slot_there ss k t (omega (arith, less)) e

    cpu_there : (cs : List Cpu) (k : ℕ) → k < length cs → (cpu_at (slice_set cs k inserted) k).present ≡ true
    cpu_there [] k less = absurd (omega (arith, less))
    cpu_there (c ∷ cs) zero less = refl
    cpu_there (c ∷ cs) (suc k) less = cpu_there cs k (omega (arith, less))

pub agrees_removal : (p : Platform) (b : Block) (cs : List Cpu) (k : ℕ) → Agrees p b cs → Agrees p (with_removal b k) cs
agrees_removal p b cs k h = record {
  apic = h.apic;
  slots = length-set b.slots k _ ∙ h.slots;
  cpus = h.cpus;
  inserting = same (λ (s : Slot). s.inserting) refl 0 ∙ h.inserting;
  ejecting = same (λ (s : Slot). s.ejecting) refl 0 ∙ h.ejecting;
  enabled = λ j. same (λ (s : Slot). s.enabled) refl j ∙ h.enabled j;
}
  where
    each : (f : Slot → Bool) (ss : List Slot) (k j : ℕ) (t : Slot) → f t ≡ f (slice_index_or ss k no_slot) → f (slice_index_or (slice_set ss k t) j no_slot) ≡ f (slice_index_or ss j no_slot)
    each f [] k j t e = refl
    each f (s ∷ ss) zero zero t e = e
    each f (s ∷ ss) zero (suc j) t e = refl
    each f (s ∷ ss) (suc k) zero t e = refl
    each f (s ∷ ss) (suc k) (suc j) t e = each f ss k j t e

    same : (f : Slot → Bool) → f (record (slot_at b k) { removing = true }) ≡ f (slot_at b k) → (j : ℕ) → f (slot_at (with_removal b k) j) ≡ f (slot_at b j)
    same f e j = each f b.slots k j (record (slot_at b k) { removing = true }) e

-- the start
length_slots : (k : ℕ) (ids boot : List ℕ) → length (slots_from k ids boot) ≡ length ids
length_slots k [] boot = refl
length_slots k (a ∷ as') boot = ap suc (length_slots (k + 1) as' boot)

enabled_from : (k j : ℕ) (ids boot : List ℕ) → j < length ids → (slice_index_or (slots_from k ids boot) j no_slot).enabled ≡ is_in (k + j) boot
enabled_from k j [] boot less = absurd (omega (arith, less))
enabled_from k zero (a ∷ as') boot less = let e : k + 0 ≡ k = omega arith in rw e refl
enabled_from k (suc j) (a ∷ as') boot less = let e : k + suc j ≡ k + 1 + j = omega arith in rw e (enabled_from (k + 1) j as' boot (omega (arith, less)))

slots_past : (ss : List Slot) (j : ℕ) → length ss ≤ j → slice_index_or ss j no_slot ≡ no_slot
slots_past [] j more = refl
slots_past (s ∷ ss) zero more = absurd (omega (arith, more))
slots_past (s ∷ ss) (suc j) more = slots_past ss j (omega (arith, more))

cpus_past : (cs : List Cpu) (j : ℕ) → length cs ≤ j → cpu_at cs j ≡ absent
cpus_past [] j more = refl
cpus_past (c ∷ cs) zero more = absurd (omega (arith, more))
cpus_past (c ∷ cs) (suc j) more = cpus_past cs j (omega (arith, more))

length_booted : (p : Platform) (slot : ℕ) (bs : List ℕ) (cs : List Cpu) → length (boot_cpus p slot bs cs) ≡ length cs
unfolding boot_cpus
length_booted p slot [] cs = refl
length_booted p slot (b ∷ bs) cs = length_booted p (slot + 1) bs (slice_set cs b (booted (tile p slot))) ∙ length-set cs b (booted (tile p slot))

set_present : (cs : List Cpu) (b k : ℕ) (d : Cpu) → d.present ≡ true → k < length cs → (cpu_at (slice_set cs b d) k).present ≡ ((b == k) || (cpu_at cs k).present)
set_present [] b k d e less = absurd (omega (arith, less))
set_present (c ∷ cs) zero zero d e less = e
set_present (c ∷ cs) zero (suc k) d e less = let n : (0 == suc k) ≡ false = grind (arith, nat_tests) in rw n refl
set_present (c ∷ cs) (suc b) zero d e less = let n : (suc b == 0) ≡ false = grind (arith, nat_tests) in rw n refl
set_present (c ∷ cs) (suc b) (suc k) d e less = set_present cs b k d e (omega (arith, less)) ∙ ap (λ x. x || (cpu_at cs k).present) (shift b k)
  where
    shift : (b k : ℕ) → (b == k) ≡ (suc b == suc k)
    shift b k = grind (arith, nat_tests)

booted_present : (p : Platform) (slot : ℕ) (bs : List ℕ) (cs : List Cpu) (k : ℕ) → k < length cs → (cpu_at (boot_cpus p slot bs cs) k).present ≡ (is_in k bs || (cpu_at cs k).present)
unfolding boot_cpus
booted_present p slot [] cs k less = refl
booted_present p slot (b ∷ bs) cs k less =
    let n = length-set cs b (booted (tile p slot)) in
    booted_present p (slot + 1) bs (slice_set cs b (booted (tile p slot))) k (omega (arith, n, less)) ∙
    (ap (λ x. is_in k bs || x) (set_present cs b k (booted (tile p slot)) refl less) ∙ order (is_in k bs) (b == k) (cpu_at cs k).present)
  where
    order : (x y z : Bool) → (x || (y || z)) ≡ ((y || x) || z)
    order true true z = refl
    order true false z = refl
    order false true z = refl
    order false false z = refl

none_there : (n k : ℕ) → (cpu_at (replicate n absent) k).present ≡ false
none_there zero k = refl
none_there (suc n) zero = refl
none_there (suc n) (suc k) = none_there n k

or_none : (x y : Bool) → y ≡ false → (x || y) ≡ x
or_none true y e = refl
or_none false y e = e

pub agrees_start : (p : Platform) → Agrees p (block_start p) (cpus_start p)
unfolding cpus_start
agrees_start p = record {
  apic = refl;
  slots = length_slots 0 p.apic p.boot;
  cpus = long;
  inserting = plain p.apic 0 0;
  ejecting = calm p.apic 0 0;
  enabled = λ k. by_size k (nat_lt k (count_of p)) refl;
}
  where
    long : length (boot_cpus p 0 p.boot (replicate (count_of p) absent)) ≡ count_of p
    long = length_booted p 0 p.boot (replicate (count_of p) absent) ∙ length-replicate (count_of p) absent

    plain : (ids : List ℕ) (k j : ℕ) → (slice_index_or (slots_from k ids p.boot) j no_slot).inserting ≡ false
    plain [] k j = refl
    plain (a ∷ as') k zero = refl
    plain (a ∷ as') k (suc j) = plain as' (k + 1) j

    calm : (ids : List ℕ) (k j : ℕ) → (slice_index_or (slots_from k ids p.boot) j no_slot).ejecting ≡ false
    calm [] k j = refl
    calm (a ∷ as') k zero = refl
    calm (a ∷ as') k (suc j) = calm as' (k + 1) j

    past : (k n : ℕ) → nat_lt k n ≡ false → n ≤ k
    past k n e = grind (arith, nat_tests)

    by_size : (k : ℕ) (b : Bool) → nat_lt k (count_of p) ≡ b → (slot_at (block_start p) k).enabled ≡ (cpu_at (boot_cpus p 0 p.boot (replicate (count_of p) absent)) k).present
    by_size k true e =
        let less = ltb-true k (count_of p) e in
        let zero_and : 0 + k ≡ k = omega arith in
        let n = length-replicate (count_of p) absent in
        enabled_from 0 k p.apic p.boot less ∙ (ap (λ i. is_in i p.boot) zero_and ∙ sym (booted_present p 0 p.boot (replicate (count_of p) absent) k (omega (arith, n, less)) ∙ or_none (is_in k p.boot) _ (none_there (count_of p) k)))
    by_size k false e =
        let more = past k (count_of p) e in
        let n = length_slots 0 p.apic p.boot in
        ap (λ (s : Slot). s.enabled) (slots_past (slots_from 0 p.apic p.boot) k (omega (arith, n, more))) ∙ sym (ap (λ (c : Cpu). c.present) (cpus_past (boot_cpus p 0 p.boot (replicate (count_of p) absent)) k (omega (arith, long, more))))

-- an access that isn't a write of the register block leaves it, and leaves everybody there
pub block_kept : (p : Platform) (k : ℕ) (b : Bool) (a : Access) (s : State) → writes_block a ≡ false → (access_effect p k b a s).block ≡ s.block
block_kept p k b (Load addr width) s e = refl
block_kept p k b (Store addr width value) s e = refl
block_kept p k b (Swap addr expected desired) s e = refl
block_kept p k b (In port width) s e = pick (λ (t : State). t.block ≡ s.block) (is_fw_cfg_data port width) (record s { fw_cfg = advanced 1 s.fw_cfg }) s refl refl
block_kept p k b (Out port width value) s e =
    pick_by (λ (t : State). t.block ≡ s.block) (is_on_block port) (write_block (port - 0xcd8) width value s) _ (λ f. absurd (let both : true ≡ false = sym f ∙ e in cc))
    (λ _. pick (λ (t : State). t.block ≡ s.block) (is_fw_cfg_selector port width) (record s { fw_cfg = selected value s.fw_cfg }) _ refl
    (pick (λ (t : State). t.block ≡ s.block) (is_dma_high port width) (record s { fw_cfg = with_high value s.fw_cfg }) _ refl
    (pick (λ (t : State). t.block ≡ s.block) (is_dma_low port width) (start_transfer value s) (write_ich9 p k port width value s) refl refl)))
block_kept p k b (CfgRead reg) s e = refl
block_kept p k b (CfgWrite reg value) s e = refl
block_kept p k b (Icr high low) s e = refl
block_kept p k b Halt s e = refl
block_kept p k b Nop s e = refl

pub present_kept : (p : Platform) (k : ℕ) (b : Bool) (a : Access) (s : State) (j : ℕ) → writes_block a ≡ false → (at (access_effect p k b a s) j).present ≡ (at s j).present
present_kept p k b (Load addr width) s j e = refl
present_kept p k b (Store addr width value) s j e = refl
present_kept p k b (Swap addr expected desired) s j e = refl
present_kept p k b (In port width) s j e = pick (λ (t : State). (at t j).present ≡ (at s j).present) (is_fw_cfg_data port width) (record s { fw_cfg = advanced 1 s.fw_cfg }) s refl refl
present_kept p k b (Out port width value) s j e =
    pick_by (λ (t : State). (at t j).present ≡ (at s j).present) (is_on_block port) (write_block (port - 0xcd8) width value s) _ (λ f. absurd (let both : true ≡ false = sym f ∙ e in cc))
    (λ _. pick (λ (t : State). (at t j).present ≡ (at s j).present) (is_fw_cfg_selector port width) (record s { fw_cfg = selected value s.fw_cfg }) _ refl
    (pick (λ (t : State). (at t j).present ≡ (at s j).present) (is_dma_high port width) (record s { fw_cfg = with_high value s.fw_cfg }) _ refl
    (pick (λ (t : State). (at t j).present ≡ (at s j).present) (is_dma_low port width) (start_transfer value s) (write_ich9 p k port width value s) refl
    (pick (λ (cs : List Cpu). (cpu_at cs j).present ≡ (at s j).present) (raises_smi s.ich9 port width) (smi_raised (has_broadcast s.fw_cfg.negotiated) k p.apic s.cpus) s.cpus
    ((stays_raised (has_broadcast s.fw_cfg.negotiated) k p.apic s.cpus j).present) refl))))
present_kept p k b (CfgRead reg) s j e = refl
present_kept p k b (CfgWrite reg value) s j e = refl
present_kept p k b (Icr high low) s j e = (stays_sent (decoded p.x2apic high low) (apic_of p k) p.apic s.cpus j).present
present_kept p k b Halt s j e = at_set (λ c d. d.present ≡ c.present) s.cpus k (halt (at s k)) (λ i. refl) refl j
present_kept p k b Nop s j e = refl
