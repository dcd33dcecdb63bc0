-- What every access to the device keeps.
use Rattle.std.proofs.Common.{◌≡◌, ℕ, true, false, ◌&&◌, ◌+◌, ◌≤◌, zero, suc, ◌∙◌, List, [], ◌∷◌, ◌++◌, length, take, drop, cond, Some, refl, arith, length-append, length-drop, length-take}
use Rattle.std.proofs.lemmas.Bool.Decides.{nat_tests}
use Rattle.std.proofs.lemmas.Grind.{common_steps}
use Rattle.hp_model.specs.Memory.{Write, byte_at}
use Rattle.hp_model.specs.View.{Locks, is_hole}
use Rattle.hp_model.specs.FwCfg.{FwCfg, fw_cfg_start, selected, advanced, without_high, dma_address, swapped_bytes}
use Rattle.hp_model.specs.Transfers.{Descriptor, key_of, reads, writes, skips, selects, is_short, is_near, is_writable, Move, nothing, to_memory, from_memory, failed, Asked, refused, descriptor_at, carried_out, ask, ask_move, ask_read, ask_write, ask_skip, transfer, moved, finished, bytes_loaded}
use Rattle.hp_fwcfg.proofs.Asking.{either}
use Rattle.hp_fwcfg.specs.Uses.{Use, selection, byte_read, high_half, low_half, used, used_all, IsSound}

-- what comes from memory fits etc/smi/requested-features
abbrev Fits : Move → FwCfg → Type 0
Fits nothing f = Unit {0}
Fits (to_memory addr bytes) f = Unit {0}
Fits (from_memory addr n) f = (f.key ≡ 0x21) × (f.offset + n ≤ 8)
Fits failed f = Unit {0}

length-loaded : (l : Locks) (bytes : ℕ → ℕ) (addr n : ℕ) → length (bytes_loaded l bytes addr n) ≡ n
unfolding bytes_loaded
length-loaded l bytes addr zero = refl
length-loaded l bytes addr (suc n) = let e = length-loaded l bytes (addr + 1) n in omega arith

-- what a selection, a move of the offset, a half of the address and a write that fits keep, every list of accesses keeps
module _ (P : FwCfg → Type 0)
    (of_selected : (key : ℕ) (f : FwCfg) → P f → P (selected key f))
    (of_advanced : (n : ℕ) (f : FwCfg) → P f → P (advanced n f))
    (of_high : (value : ℕ) (f : FwCfg) → P f → P (record f { high = value }))
    (of_finished : (bytes : List ℕ) (f : FwCfg) → P f → f.key ≡ 0x21 → f.offset + length bytes ≤ 8 → P (finished bytes f))
  where
    record IsKept (a : Asked) : Type 0 where
      kept : P a.fw_cfg
      fits : Fits a.move a.fw_cfg

    IsKept-refused : (f : FwCfg) → P f → IsKept (refused f)
    IsKept-refused f p = record { kept = p; fits = tt }

    IsKept-ask_read : (d : Descriptor) (f : FwCfg) → P f → IsKept (ask_read d f)
    IsKept-ask_read d f p =
        either IsKept (is_short d && is_near d) _ _ (λ _. record { kept = of_advanced d.size f p; fits = tt }) (IsKept-refused f p)

    IsKept-ask_write : (d : Descriptor) (f : FwCfg) → P f → IsKept (ask_write d f)
    IsKept-ask_write d f p =
        either IsKept ((is_short d && is_near d) && is_writable d f) _ _
        (λ h. record { kept = p; fits = (grind (arith, nat_tests, common_steps), grind (arith, nat_tests, common_steps)) }) (IsKept-refused f p)

    IsKept-ask_skip : (d : Descriptor) (f : FwCfg) → P f → IsKept (ask_skip d f)
    IsKept-ask_skip d f p =
        either IsKept (is_short d) _ _ (λ _. record { kept = of_advanced d.size f p; fits = tt }) (IsKept-refused f p)

    IsKept-ask_move : (d : Descriptor) (f : FwCfg) → P f → IsKept (ask_move d f)
    IsKept-ask_move d f p =
        either IsKept (reads d) _ _ (λ _. IsKept-ask_read d f p)
        (either IsKept (writes d) _ _ (λ _. IsKept-ask_write d f p)
        (either IsKept (skips d) _ _ (λ _. IsKept-ask_skip d f p) (record { kept = p; fits = tt })))

    IsKept-ask : (d : Descriptor) (f : FwCfg) → P f → IsKept (ask d f)
    IsKept-ask d f p =
        IsKept-ask_move d _
        (elim (selects d) as (λ b. P (cond b (selected (key_of d) f) f)) [ true ↦ of_selected (key_of d) f p | false ↦ p ])

    moved-keeps : (l : Locks) (m : Move) (f : FwCfg) (ws : List Write) → P f → Fits m f → P (moved l m f ws).fw_cfg
    moved-keeps l nothing f ws p fits = p
    moved-keeps l (to_memory addr bytes) f ws p fits = p
    moved-keeps l (from_memory addr n) f ws p fits =
        let same = length-loaded l (byte_at ws) addr n in
        of_finished (bytes_loaded l (byte_at ws) addr n) f p fits.0 (rw same fits.1)
    moved-keeps l failed f ws p fits = p

    transfer-keeps : (l : Locks) (at : ℕ) (f : FwCfg) (ws : List Write) → P f → P (transfer l at f ws).fw_cfg
    unfolding transfer
    transfer-keeps l at f ws p =
        let a = ask (descriptor_at l ws at) f in
        let kept = IsKept-ask (descriptor_at l ws at) f p in
        elim (is_hole l false at 16) as (λ b. P (cond b (record { fw_cfg = f; writes = ws }) (carried_out l at a ws)).fw_cfg) [
          | true ↦ p
          | false ↦ moved-keeps l a.move a.fw_cfg ws kept.kept kept.fits
        ]

    used-keeps : (f : FwCfg) (u : Use) → P f → P (used f u)
    used-keeps f (selection key) p = of_selected key f p
    used-keeps f byte_read p = of_advanced 1 f p
    used-keeps f (high_half value) p = of_high (swapped_bytes value) f p
    used-keeps f (low_half value l ws) p = transfer-keeps l (dma_address value f) (without_high f) ws (of_high 0 f p)

    pub used_all-keeps : (us : List Use) (f : FwCfg) → P f → P (used_all f us)
    unfolding used_all
    used_all-keeps [] f p = p
    used_all-keeps (u ∷ us) f p = used_all-keeps us (used f u) (used-keeps f u p)

-- these features were negotiated
record HasNegotiated (n : ℕ) (f : FwCfg) : Type 0 where
  negotiated : f.negotiated ≡ Some n

HasNegotiated-selected : (n key : ℕ) (f : FwCfg) → HasNegotiated n f → HasNegotiated n (selected key f)
HasNegotiated-selected n key f h = record { negotiated = grind (arith, nat_tests, h.negotiated) }

pub stays : (f : FwCfg) (us : List Use) (n : ℕ) → f.negotiated ≡ Some n → (used_all f us).negotiated ≡ Some n
stays f us n h =
    (used_all-keeps (HasNegotiated n) (HasNegotiated-selected n) (λ _ g p. record { negotiated = p.negotiated })
    (λ _ g p. record { negotiated = p.negotiated }) (λ _ g p _ _. record { negotiated = p.negotiated }) us f (record { negotiated = h })).negotiated

IsSound-selected : (s key : ℕ) (f : FwCfg) → IsSound s f → IsSound s (selected key f)
IsSound-selected s key f h =
    record { supported = h.supported; requested = h.requested; within = omega arith; agreed = grind (arith, nat_tests, h.agreed, h.supported) }

IsSound-advanced : (s n : ℕ) (f : FwCfg) → IsSound s f → IsSound s (advanced n f)
IsSound-advanced s n f h = record { supported = h.supported; requested = h.requested; within = omega arith; agreed = h.agreed }

IsSound-high : (s value : ℕ) (f : FwCfg) → IsSound s f → IsSound s (record f { high = value })
IsSound-high s value f h = record { supported = h.supported; requested = h.requested; within = h.within; agreed = h.agreed }

length-written : (i : ℕ) (bytes xs : List ℕ) → i + length bytes ≤ length xs →
    length (take i xs ++ (bytes ++ drop (i + length bytes) xs)) ≡ length xs
length-written i bytes xs h =
    simp (length-append, length-take, length-drop) (omega arith)

IsSound-finished : (s : ℕ) (bytes : List ℕ) (f : FwCfg) → IsSound s f → f.key ≡ 0x21 → f.offset + length bytes ≤ 8 → IsSound s (finished bytes f)
IsSound-finished s bytes f h key k =
    record {
      supported = h.supported;
      requested = length-written f.offset bytes f.requested (omega (arith, h.requested)) ∙ h.requested;
      within = omega arith;
      agreed = h.agreed;
    }

IsSound-start : (s : ℕ) → IsSound s (fw_cfg_start s)
IsSound-start s = record { supported = refl; requested = refl; within = omega arith; agreed = tt }

pub sound : (s : ℕ) (us : List Use) → IsSound s (used_all (fw_cfg_start s) us)
sound s us =
    used_all-keeps (IsSound s) (IsSound-selected s) (IsSound-advanced s) (IsSound-high s) (IsSound-finished s) us (fw_cfg_start s) (IsSound-start s)
