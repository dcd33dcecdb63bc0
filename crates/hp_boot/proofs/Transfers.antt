-- The two transfers by which the boot reads the supported features and requests them, and what is agreed on.
use Rattle.std.proofs.Common.{◌≡◌, ℕ, zero, suc, true, false, ◌%◌, ◌≤◌, List, ◌∷◌, refl, arith}
use Rattle.hp_model.specs.Memory.{Write, byte_at, bytes_of, value_from, write_of}
use Rattle.hp_model.specs.View.{Locks, is_hole}
use Rattle.hp_model.specs.Block.{bit}
use Rattle.hp_model.specs.FwCfg.{fw_cfg_start, big_value, little_value, selected, next_byte, without_high}
use Rattle.hp_model.specs.Transfers.{bytes_stored, bytes_loaded, Transferred, ask, descriptor_at, transfer}
use Rattle.hp_boot.specs.Ending.{is_negotiable}
use Rattle.hp_boot.proofs.Open.{is_low}

-- 16 MiB of RAM with nothing locked
abbrev pub bare : Locks
bare = record { low_memory = 0x1000000; has_default = false; f_smbase = 0; smram = 0; esmramc = 0; has_ext = false; ext_tseg = 0 }

-- the descriptor that asks for the supported features, in memory
abbrev pub asks : List Write → List Write
asks ws = write_of 0x1008 8 0x1010000000000000 ∷ write_of 0x1000 8 0x080000000a002200 ∷ ws

abbrev pub got : ℕ → List Write → Transferred
got features ws = transfer bare 0x1000 (fw_cfg_start features) (asks ws)

-- the descriptor that hands over the requested ones, and these
abbrev pub requests : ℕ → List Write → List Write
requests features ws = write_of 0x1010 8 (features % 8) ∷ write_of 0x1000 8 0x0800000018002100 ∷ (got features ws).writes

abbrev pub gave : ℕ → List Write → Transferred
gave features ws = transfer bare 0x1000 (without_high (got features ws).fw_cfg) (requests features ws)

-- what holds of 0 to 7 holds of each number up to 7
up_to_seven : (P : ℕ → Type 0) → P 0 → P 1 → P 2 → P 3 → P 4 → P 5 → P 6 → P 7 → (n : ℕ) → n ≤ 7 → P n
up_to_seven P p0 p1 p2 p3 p4 p5 p6 p7 zero h = p0
up_to_seven P p0 p1 p2 p3 p4 p5 p6 p7 (suc zero) h = p1
up_to_seven P p0 p1 p2 p3 p4 p5 p6 p7 (suc (suc zero)) h = p2
up_to_seven P p0 p1 p2 p3 p4 p5 p6 p7 (suc (suc (suc zero))) h = p3
up_to_seven P p0 p1 p2 p3 p4 p5 p6 p7 (suc (suc (suc (suc zero)))) h = p4
up_to_seven P p0 p1 p2 p3 p4 p5 p6 p7 (suc (suc (suc (suc (suc zero))))) h = p5
up_to_seven P p0 p1 p2 p3 p4 p5 p6 p7 (suc (suc (suc (suc (suc (suc zero)))))) h = p6
up_to_seven P p0 p1 p2 p3 p4 p5 p6 p7 (suc (suc (suc (suc (suc (suc (suc zero))))))) h = p7
up_to_seven P p0 p1 p2 p3 p4 p5 p6 p7 (suc (suc (suc (suc (suc (suc (suc (suc n)))))))) h = absurd (omega (arith, h))

module _ (ws : List Write) where
  pub first_low : (features : ℕ) → is_low (ask (descriptor_at bare (asks ws) 0x1000) (fw_cfg_start features)).move ≡ true
  unfolding is_hole bytes_of value_from big_value bytes_loaded
  first_low features = refl

  pub first_high : (features : ℕ) → (got features ws).fw_cfg.high ≡ 0
  unfolding transfer is_hole bytes_of value_from big_value bytes_loaded bytes_stored
  first_high features = refl

  pub second_low : (features : ℕ) → is_low (ask (descriptor_at bare (requests features ws) 0x1000) (without_high (got features ws).fw_cfg)).move ≡ true
  unfolding transfer is_hole bytes_of value_from big_value bytes_loaded bytes_stored
  second_low features = refl

  pub first_read : (features : ℕ) → features ≤ 7 → value_from (byte_at (got features ws).writes) 0x1010 8 ≡ features
  unfolding transfer is_hole bytes_of value_from big_value bytes_loaded bytes_stored
  first_read = up_to_seven (λ features. value_from (byte_at (got features ws).writes) 0x1010 8 ≡ features) refl refl refl refl refl refl refl refl

  pub agreed : (features : ℕ) → features ≤ 7 → next_byte (selected 0x20 (gave features ws).fw_cfg) ≡ bit (is_negotiable features)
  unfolding transfer is_hole bytes_of value_from big_value little_value bytes_loaded bytes_stored
  agreed = up_to_seven (λ features. next_byte (selected 0x20 (gave features ws).fw_cfg) ≡ bit (is_negotiable features)) refl refl refl refl refl refl refl refl
