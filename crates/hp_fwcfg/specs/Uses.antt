-- What the guest does with the device, one access after another, and what stays true of it.
use Rattle.std.specs.Prelude.{◌≡◌, ℕ, true, ◌≤◌, List, [], ◌∷◌, length, IfSome}
use Rattle.hp_model.specs.Memory.{Write}
use Rattle.hp_model.specs.View.{Locks}
use Rattle.hp_model.specs.FwCfg.{FwCfg, agrees, item_of, selected, advanced, with_high, without_high, dma_address}
use Rattle.hp_model.specs.Transfers.{transfer}

-- an access to one of the device's ports
pub data Use : Type 0 where
  selection : ℕ → Use  -- of this key
  byte_read : Use
  high_half : ℕ → Use  -- of the DMA address
  low_half : ℕ → Locks → List Write → Use  -- which starts a transfer, over memory as it is then

abbrev pub used : FwCfg → Use → FwCfg
used f (selection key) = selected key f
used f byte_read = advanced 1 f
used f (high_half value) = with_high value f
used f (low_half value l ws) = (transfer l (dma_address value f) (without_high f) ws).fw_cfg

-- the device after these accesses, the first one first
unfoldable pub used_all : FwCfg → List Use → FwCfg
used_all f [] = f
used_all f (u ∷ us) = used_all (used f u) us

-- what holds of a device with these features, whatever was done with it
pub record IsSound (features : ℕ) (f : FwCfg) : Type 0 where
  pub supported : f.supported ≡ features
  pub requested : length f.requested ≡ 8
  pub within : f.offset ≤ length (item_of f)
  pub agreed : IfSome f.negotiated (λ n. agrees features n ≡ true)
