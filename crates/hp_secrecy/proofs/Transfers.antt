-- fw_cfg's transfers reach memory as from outside SMM: over memory that is alike they do the same.
use Rattle.std.proofs.Common.{ℕ, zero, suc, ◌≡◌, ◌+◌, Bool, true, false, cond, List, [], ◌∷◌, refl, ap, subst, ◌∙◌}
use Rattle.hp_model.specs.Memory.{Write, byte_at}
use Rattle.hp_model.specs.View.{Locks, is_hole, loaded, stored}
use Rattle.hp_model.specs.FwCfg.{FwCfg}
use Rattle.hp_model.specs.Transfers.{descriptor_of, Asked, Move, nothing, to_memory, from_memory, failed, Transferred, descriptor_at, ask, bytes_stored, bytes_loaded, finished, moved, control_after, carried_out, transfer}
use Rattle.hp_secrecy.proofs.Bytes.{AlikeBytes, store_both, load_both}

-- the device is the same, and memory alike
pub record AlikeTransferred (l : Locks) (t u : Transferred) : Type 0 where
  pub fw_cfg : t.fw_cfg ≡ u.fw_cfg
  pub memory : AlikeBytes l t.writes u.writes

bytes_loaded_both : (l : Locks) (n a : ℕ) (ws vs : List Write) → AlikeBytes l ws vs → bytes_loaded l (byte_at ws) a n ≡ bytes_loaded l (byte_at vs) a n
unfolding bytes_loaded
bytes_loaded_both l zero a ws vs h = refl
bytes_loaded_both l (suc n) a ws vs h =
    ap (λ (b : ℕ). b ∷ bytes_loaded l (byte_at ws) (a + 1) n) (load_both l a 1 ws vs h)
    ∙ ap (λ (bs : List ℕ). loaded l false (byte_at vs) a 1 ∷ bs) (bytes_loaded_both l n (a + 1) ws vs h)

bytes_stored_both : (l : Locks) (a : ℕ) (bs : List ℕ) (ws vs : List Write) → AlikeBytes l ws vs → AlikeBytes l (bytes_stored l a bs ws) (bytes_stored l a bs vs)
unfolding bytes_stored
bytes_stored_both l a [] ws vs h = h
bytes_stored_both l a (b ∷ bs) ws vs h = bytes_stored_both l (a + 1) bs (stored l false a 1 b ws) (stored l false a 1 b vs) (store_both l false a 1 b ws vs h)

moved_both : (l : Locks) (m : Move) (f : FwCfg) (ws vs : List Write) → AlikeBytes l ws vs → AlikeTransferred l (moved l m f ws) (moved l m f vs)
moved_both l nothing f ws vs h = record { fw_cfg = refl; memory = h }
moved_both l (to_memory a bs) f ws vs h = record { fw_cfg = refl; memory = bytes_stored_both l a bs ws vs h }
moved_both l (from_memory a n) f ws vs h = record { fw_cfg = ap (λ bs. finished bs f) (bytes_loaded_both l n a ws vs h); memory = h }
moved_both l failed f ws vs h = record { fw_cfg = refl; memory = h }

carried_both : (l : Locks) (at : ℕ) (a : Asked) (ws vs : List Write) → AlikeBytes l ws vs → AlikeTransferred l (carried_out l at a ws) (carried_out l at a vs)
carried_both l at a ws vs h =
    let m = moved_both l a.move a.fw_cfg ws vs h in
    record { fw_cfg = m.fw_cfg; memory = store_both l false at 4 (control_after a.move) (moved l a.move a.fw_cfg ws).writes (moved l a.move a.fw_cfg vs).writes m.memory }

pub transfer_both : (l : Locks) (at : ℕ) (f : FwCfg) (ws vs : List Write) → AlikeBytes l ws vs → AlikeTransferred l (transfer l at f ws) (transfer l at f vs)
unfolding transfer
transfer_both l at f ws vs h = by_hole (is_hole l false at 16)
  where
    asked_same : ask (descriptor_at l ws at) f ≡ ask (descriptor_at l vs at) f
    asked_same = ap (λ bs. ask (descriptor_of bs) f) (bytes_loaded_both l 16 at ws vs h)

    by_hole : (hole : Bool) → AlikeTransferred l (cond hole (record { fw_cfg = f; writes = ws }) (carried_out l at (ask (descriptor_at l ws at) f) ws)) (cond hole (record { fw_cfg = f; writes = vs }) (carried_out l at (ask (descriptor_at l vs at) f) vs))
    by_hole true = record { fw_cfg = refl; memory = h }
    by_hole false = subst (λ a. AlikeTransferred l (carried_out l at (ask (descriptor_at l ws at) f) ws) (carried_out l at a vs)) asked_same (carried_both l at (ask (descriptor_at l ws at) f) ws vs h)
