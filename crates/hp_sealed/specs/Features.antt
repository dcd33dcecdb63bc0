-- Features while the boot agrees on them: what fw_cfg and memory hold after each of its last accesses.
use Rattle.std.specs.Prelude.{ℕ, zero, suc, ◌≡◌, ◌+◌, ◌≤◌, List, [], ◌∷◌, Some}
use Rattle.hp_model.specs.declared.platforms.Platform.{Platform}
use Rattle.hp_model.specs.Memory.{Write, bytes_of, write_of}
use Rattle.hp_model.specs.FwCfg.{FwCfg, fw_cfg_start, selected, advanced}
use Rattle.hp_model.specs.Boot.{ext_count}
use Rattle.hp_model.specs.State.{State}

-- memory with the first descriptor, and then with the features that it has asked for
unfoldable pub first_descriptor : List Write → List Write
first_descriptor ws = write_of 0x1008 8 0x1010000000000000 ∷ write_of 0x1000 8 0x080000000a002200 ∷ ws

unfoldable pub stores_bytes : List ℕ → ℕ → List Write → List Write
stores_bytes [] a ws = ws
stores_bytes (b ∷ bs) a ws = stores_bytes bs (a + 1) (write_of a 1 b ∷ ws)

unfoldable pub supports : ℕ → List Write → List Write
supports f ws = write_of 0x1000 4 0 ∷ stores_bytes (bytes_of 8 f) 0x1010 (first_descriptor ws)

-- with the second one, which asks for these features
unfoldable pub second_descriptor : ℕ → ℕ → List Write → List Write
second_descriptor g f ws = write_of 0x1010 8 g ∷ write_of 0x1000 8 0x0800000018002100 ∷ supports f ws

-- the device after each transfer
unfoldable pub after_first : ℕ → FwCfg
after_first f = advanced 8 (selected 0x22 (fw_cfg_start f))

unfoldable pub after_second : ℕ → ℕ → FwCfg
after_second f g = advanced 8 (record (selected 0x21 (after_first f)) { requested = bytes_of 8 g })

-- after so many accesses past the lock, where access 21 answered v
abbrev pub AgreesAt : ℕ → ℕ → ℕ → State → Type 0
AgreesAt zero f v s = s.fw_cfg ≡ fw_cfg_start f
AgreesAt (suc zero) f v s = (s.fw_cfg ≡ fw_cfg_start f) × ((ws : List Write) × (s.writes ≡ write_of 0x1000 8 0x080000000a002200 ∷ ws))
AgreesAt (suc (suc zero)) f v s = (s.fw_cfg ≡ fw_cfg_start f) × ((ws : List Write) × (s.writes ≡ first_descriptor ws))
AgreesAt (suc (suc (suc zero))) f v s = (s.fw_cfg ≡ after_first f) × ((ws : List Write) × (s.writes ≡ supports f ws))
AgreesAt (suc (suc (suc (suc zero)))) f v s = (v ≡ f) × ((s.fw_cfg ≡ after_first f) × ((ws : List Write) × (s.writes ≡ supports f ws)))
AgreesAt (suc (suc (suc (suc (suc zero))))) f v s = (v ≡ f) × ((s.fw_cfg ≡ after_first f) × ((ws : List Write) × (s.writes ≡ write_of 0x1000 8 0x0800000018002100 ∷ supports f ws)))
AgreesAt (suc (suc (suc (suc (suc (suc zero)))))) f v s = (s.fw_cfg ≡ after_first f) × ((ws : List Write) × (s.writes ≡ second_descriptor f f ws))
AgreesAt (suc (suc (suc (suc (suc (suc (suc zero))))))) f v s = s.fw_cfg ≡ after_second f f
AgreesAt (suc (suc (suc (suc (suc (suc (suc (suc zero)))))))) f v s = s.fw_cfg ≡ selected 0x20 (after_second f f)
AgreesAt (suc (suc (suc (suc (suc (suc (suc (suc (suc n))))))))) f v s = s.fw_cfg.negotiated ≡ Some f

-- after n accesses: nothing of fw_cfg has changed before TSEG is locked
pub record Agreeing (p : Platform) (n v : ℕ) (s : State) : Type 0 where
  pub before : n ≤ 17 + ext_count p.tseg_mib → s.fw_cfg ≡ fw_cfg_start p.features
  pub after : (i : ℕ) → n ≡ 17 + ext_count p.tseg_mib + i → AgreesAt i p.features v s
