-- What an access does to processors, finer: modes and latches too.
use Rattle.std.proofs.Common.{ℕ, zero, suc, ◌≡◌, ◌-◌, ◌<◌, ◌==◌, ◌⊎◌, inl, inr, Bool, true, false, cond, List, [], ◌∷◌, length, Option, Some, None, refl, sym, subst, arith}
use Rattle.std.specs.Prelude.{slice_index_or}
use Rattle.hp_model.specs.declared.platforms.Platform.{Platform}
use Rattle.hp_model.specs.declared.processors.Cpu.{Cpu}
use Rattle.hp_model.specs.declared.processors.Kind.{Kind}
use Rattle.hp_model.specs.declared.processors.Kind.TheVariants.{Smi, Init, Start}
use Rattle.hp_model.specs.declared.processors.Ipi.{Ipi}
use Rattle.hp_model.specs.declared.accesses.Access.{Access}
use Rattle.hp_model.specs.declared.accesses.Access.TheVariants.{Load, Store, Swap, In, Out, CfgRead, CfgWrite, Icr, Halt, Nop}
use Rattle.hp_model.specs.declared.accesses.Want.{Want}
use Rattle.hp_model.specs.declared.accesses.Want.TheVariants as want
use Rattle.hp_model.specs.declared.labels.Label.{Label}
use Rattle.hp_model.specs.declared.labels.Label.TheVariants.{F5, F6, R5, S2, C1, C2, C5, N3, N4, N5, N6, E4a, E4b, E4f, T, E7}
use Rattle.hp_model.specs.Platform.{apic_of}
use Rattle.hp_model.specs.Cpu.{absent, cpu_at, is_waiting, halt, hit}
use Rattle.hp_model.specs.Block.{block_write, ejected_by}
use Rattle.hp_model.specs.Interrupts.{decoded, is_target, hit_each, sent, smi_raised}
use Rattle.hp_model.specs.Ich9.{raises_smi}
use Rattle.hp_model.specs.FwCfg.{selected, advanced, with_high, has_broadcast}
use Rattle.hp_model.specs.SharedBytes.{layout_of}
use Rattle.hp_model.specs.Monarch.{Monarch}
use Rattle.hp_model.specs.Handlers.{Seat, want_at}
use Rattle.hp_model.specs.State.{State, at}
use Rattle.hp_model.specs.Ports.{without_ejected, write_block, is_on_block, is_fw_cfg_data, is_fw_cfg_selector, is_dma_high, is_dma_low, start_transfer, write_ich9, write_port}
use Rattle.hp_model.specs.Access.{access_effect}
use Rattle.hp_sealed.proofs.Left.{pick}
use Rattle.hp_sealed.proofs.Stay.{Stays, stays_same, stays_hit, stays_halt, at_set}
use Rattle.hp_sealed.proofs.Ejects.{ejects_none}
use Rattle.hp_exact.proofs.Monarchs.{is_among}

-- hit by no more than an SMI or INIT
pub record Alike (c d : Cpu) : Type 0 where
  pub present : d.present ≡ c.present
  pub mode : d.mode ≡ c.mode
  pub smbase : d.smbase ≡ c.smbase
  pub smi : c.smi ≡ true → d.smi ≡ true

pub alike_same : (c : Cpu) → Alike c c
alike_same c = record { present = refl; mode = refl; smbase = refl; smi = λ e. e }

alike_hit : (k : Kind) (c : Cpu) → (k ≡ Smi) ⊎ (k ≡ Init) → Alike c (hit k c)
alike_hit Smi c is = pick (Alike c) c.present (record c { smi = true }) c (record { present = refl; mode = refl; smbase = refl; smi = λ e. refl }) (alike_same c)
alike_hit Init c is = pick (Alike c) c.present _ c (pick (Alike c) (is_waiting c.mode) c (record c { init = true }) (alike_same c) (record { present = refl; mode = refl; smbase = refl; smi = λ e. e })) (alike_same c)
alike_hit (Start page) c (inl e) = absurd cc
alike_hit (Start page) c (inr e) = absurd cc

-- each processor is left, or hit because its APIC ID is aimed at
pub struck : (aims : ℕ → Bool) (kind : Kind) (ids : List ℕ) (cs : List Cpu) (j : ℕ) → (cpu_at (hit_each aims kind ids cs) j ≡ cpu_at cs j) ⊎ ((j < length ids) × (aims (slice_index_or ids j 0xffffffff) ≡ true) × (cpu_at (hit_each aims kind ids cs) j ≡ hit kind (cpu_at cs j)))
unfolding hit_each
struck aims kind [] cs j = inl refl
struck aims kind (id ∷ ids) [] j = inl refl
struck aims kind (id ∷ ids) (c ∷ cs) zero = by_aim (aims id) refl
  where
    by_aim : (b : Bool) → aims id ≡ b → (cond b (hit kind c) c ≡ c) ⊎ ((0 < suc (length ids)) × (aims id ≡ true) × (cond b (hit kind c) c ≡ hit kind c))
    by_aim true is = inr (omega arith, is, refl)
    by_aim false is = inl refl
struck aims kind (id ∷ ids) (c ∷ cs) (suc j) = elim (struck aims kind ids cs j) [ inl e ↦ inl e | inr h ↦ inr (let less = h.0 in omega (arith, less), h.1, h.2) ]

-- whoever is aimed at is hit
pub strikes : (aims : ℕ → Bool) (kind : Kind) (ids : List ℕ) (cs : List Cpu) (j : ℕ) → j < length ids → aims (slice_index_or ids j 0xffffffff) ≡ true → cpu_at (hit_each aims kind ids cs) j ≡ hit kind (cpu_at cs j)
unfolding hit_each
strikes aims kind [] cs j less aim = absurd (omega (arith, less))
strikes aims kind (id ∷ ids) [] j less aim = by_kind kind
  where
    by_kind : (k : Kind) → absent ≡ hit k absent
    by_kind Smi = refl
    by_kind Init = refl
    by_kind (Start page) = refl
strikes aims kind (id ∷ ids) (c ∷ cs) zero less aim = rw aim refl
strikes aims kind (id ∷ ids) (c ∷ cs) (suc j) less aim = strikes aims kind ids cs j (omega (arith, less)) aim

pub alike_each : (aims : ℕ → Bool) (kind : Kind) (ids : List ℕ) (cs : List Cpu) → (kind ≡ Smi) ⊎ (kind ≡ Init) → (j : ℕ) → Alike (cpu_at cs j) (cpu_at (hit_each aims kind ids cs) j)
alike_each aims kind ids cs is j = elim (struck aims kind ids cs j) [
  | inl e ↦ subst (Alike (cpu_at cs j)) (sym e) (alike_same (cpu_at cs j))
  | inr h ↦ subst (Alike (cpu_at cs j)) (sym h.2) (alike_hit kind (cpu_at cs j) is)
]

-- a write of another register of the block than control
alike_block : (offset width value : ℕ) (s : State) → (offset == 4) ≡ false → (j : ℕ) → Alike (at s j) (at (write_block offset width value s) j)
alike_block offset width value s e j =
    subst (λ o. Alike (at s j) (cpu_at (without_ejected o s.cpus) j)) (sym (ejects_none s.block offset width value e)) (alike_same (at s j))

-- the rows' accesses, but for start-up and the eject
abbrev pub AllAlike : Platform → ℕ → State → Option Want → Type 0
AllAlike p k s None = Unit {0}
AllAlike p k s (Some (want.Do a)) = (j : ℕ) → Alike (at s j) (at (access_effect p k true a s) j)
AllAlike p k s (Some (want.Tell o)) = Unit {0}
AllAlike p k s (Some want.Resume) = Unit {0}

pub row_alike : (p : Platform) (k : ℕ) (s : State) (q : Seat) (r : Monarch) (l : Label) → is_among l (N5 ∷ N6 ∷ E4b ∷ []) ≡ false → AllAlike p k s (want_at (layout_of p) q r l)
row_alike p k s q r F5 other = alike_each _ Smi p.apic s.cpus (inl refl)
row_alike p k s q r F6 other = tt
row_alike p k s q r R5 other = tt
row_alike p k s q r S2 other = alike_each _ Smi p.apic s.cpus (inl refl)
row_alike p k s q r C1 other = alike_block 0 4 (r.collection.cpu) s refl
row_alike p k s q r C2 other = alike_block 5 1 (0) s refl
row_alike p k s q r C5 other = alike_block 5 1 (3) s refl
row_alike p k s q r N3 other = alike_each _ Smi p.apic s.cpus (inl refl)
row_alike p k s q r N4 other = alike_each _ Init p.apic s.cpus (inr refl)
row_alike p k s q r N5 other = absurd cc
row_alike p k s q r N6 other = absurd cc
row_alike p k s q r E4a other = alike_block 0 4 (r.eject.cpu) s refl
row_alike p k s q r E4b other = absurd cc
row_alike p k s q r E4f other = alike_block 0 4 (r.eject.cpu) s refl
row_alike p k s q r T other = tt
row_alike p k s q r E7 other = tt
row_alike p k s q r _ other = λ j. alike_same (at s j)

-- an access of anybody: whoever has its SMI latch set keeps it, or is gone
abbrev pub Keeps : Cpu → Cpu → Type 0
Keeps c d = ((c.smi ≡ true → d.smi ≡ true) × Stays c d) ⊎ (d ≡ absent)

keeps_same : (c : Cpu) → Keeps c c
keeps_same c = inl (λ e. e, stays_same c)

keeps_hit : (k : Kind) (c : Cpu) → Keeps c (hit k c)
keeps_hit k c = inl (latch k c, stays_hit k c)
  where
    latch : (k : Kind) (c : Cpu) → c.smi ≡ true → (hit k c).smi ≡ true
    latch Smi c e = pick (λ (d : Cpu). d.smi ≡ true) c.present _ c refl e
    latch Init c e = pick (λ (d : Cpu). d.smi ≡ true) c.present _ c (pick (λ (d : Cpu). d.smi ≡ true) (is_waiting c.mode) c _ e e) e
    latch (Start page) c e = pick (λ (d : Cpu). d.smi ≡ true) c.present _ c e e

keeps_each : (aims : ℕ → Bool) (kind : Kind) (ids : List ℕ) (cs : List Cpu) (j : ℕ) → Keeps (cpu_at cs j) (cpu_at (hit_each aims kind ids cs) j)
keeps_each aims kind ids cs j = elim (struck aims kind ids cs j) [
  | inl e ↦ subst (Keeps (cpu_at cs j)) (sym e) (keeps_same (cpu_at cs j))
  | inr h ↦ subst (Keeps (cpu_at cs j)) (sym h.2) (keeps_hit kind (cpu_at cs j))
]

keeps_sent : (ipi : Option Ipi) (sender : ℕ) (ids : List ℕ) (cs : List Cpu) (j : ℕ) → Keeps (cpu_at cs j) (cpu_at (sent ipi sender ids cs) j)
keeps_sent None sender ids cs j = keeps_same (cpu_at cs j)
keeps_sent (Some ipi) sender ids cs j = keeps_each (is_target ipi.to sender) ipi.kind ids cs j

keeps_raised : (b : Bool) (k : ℕ) (ids : List ℕ) (cs : List Cpu) (j : ℕ) → Keeps (cpu_at cs j) (cpu_at (smi_raised b k ids cs) j)
keeps_raised true k ids cs j = keeps_each (λ id. true) Smi ids cs j
keeps_raised false k ids cs j = at_set Keeps cs k (hit Smi (cpu_at cs k)) (λ i. keeps_same (cpu_at cs i)) (keeps_hit Smi (cpu_at cs k)) j

keeps_removed : (o : Option ℕ) (cs : List Cpu) (j : ℕ) → Keeps (cpu_at cs j) (cpu_at (without_ejected o cs) j)
keeps_removed None cs j = keeps_same (cpu_at cs j)
keeps_removed (Some k) cs j = at_set Keeps cs k absent (λ i. keeps_same (cpu_at cs i)) (inr refl) j

abbrev KeepsAt : State → ℕ → State → Type 0
KeepsAt s j t = Keeps (at s j) (at t j)

keeps_ich9 : (p : Platform) (k port width value : ℕ) (s : State) (j : ℕ) → KeepsAt s j (write_ich9 p k port width value s)
keeps_ich9 p k port width value s j =
    pick (λ (cs : List Cpu). Keeps (at s j) (cpu_at cs j)) (raises_smi s.ich9 port width) (smi_raised (has_broadcast s.fw_cfg.negotiated) k p.apic s.cpus) s.cpus
    (keeps_raised (has_broadcast s.fw_cfg.negotiated) k p.apic s.cpus j) (keeps_same (at s j))

keeps_port : (p : Platform) (k port width value : ℕ) (s : State) (j : ℕ) → KeepsAt s j (write_port p k port width value s)
keeps_port p k port width value s j =
    let stays = keeps_same (at s j) in
    pick (KeepsAt s j) (is_on_block port) (write_block (port - 0xcd8) width value s) _ (keeps_removed (ejected_by s.block (block_write s.block (port - 0xcd8) width value)) s.cpus j)
    (pick (KeepsAt s j) (is_fw_cfg_selector port width) (record s { fw_cfg = selected value s.fw_cfg }) _ stays
    (pick (KeepsAt s j) (is_dma_high port width) (record s { fw_cfg = with_high value s.fw_cfg }) _ stays
    (pick (KeepsAt s j) (is_dma_low port width) (start_transfer value s) (write_ich9 p k port width value s) stays (keeps_ich9 p k port width value s j))))

pub keeps_acted : (p : Platform) (k : ℕ) (b : Bool) (a : Access) (s : State) (j : ℕ) → KeepsAt s j (access_effect p k b a s)
keeps_acted p k b (Load addr width) s j = keeps_same (at s j)
keeps_acted p k b (Store addr width value) s j = keeps_same (at s j)
keeps_acted p k b (Swap addr expected desired) s j = keeps_same (at s j)
keeps_acted p k b (In port width) s j = pick (KeepsAt s j) (is_fw_cfg_data port width) (record s { fw_cfg = advanced 1 s.fw_cfg }) s (keeps_same (at s j)) (keeps_same (at s j))
keeps_acted p k b (Out port width value) s j = keeps_port p k port width value s j
keeps_acted p k b (CfgRead reg) s j = keeps_same (at s j)
keeps_acted p k b (CfgWrite reg value) s j = keeps_same (at s j)
keeps_acted p k b (Icr high low) s j = keeps_sent (decoded p.x2apic high low) (apic_of p k) p.apic s.cpus j
keeps_acted p k b Halt s j = at_set Keeps s.cpus k (halt (at s k)) (λ i. keeps_same (cpu_at s.cpus i)) (inl (λ e. e, stays_halt (at s k))) j
keeps_acted p k b Nop s j = keeps_same (at s j)
