-- fw_cfg: its items and selection (source: QEMU docs/specs/fw_cfg), and the negotiation of SMI features (source: QEMU, ICH9 LPC); docs/MACHINE.md marks what is our own.
use Rattle.std.specs.Prelude.{ℕ, zero, suc, Bool, false, ◌&&◌, ◌||◌, ◌==◌, ◌+◌, ◌-◌, ◌*◌, ◌/◌, ◌%◌, ◌^◌, min, List, [], ◌∷◌, ◌++◌, length, take, drop, replicate, slice_index_or, codes, Option, Some, None, bit_and, if◌then◌else◌}
use Rattle.hp_model.specs.Memory.{bytes_of}

pub record FwCfg : Type 0 where
  pub supported : ℕ  -- the features that the device has: bit 0 broadcast, bit 1 hot-plug, bit 2 hot-unplug
  pub key : ℕ  -- the selected item
  pub offset : ℕ  -- the next byte in it
  pub requested : List ℕ  -- the 8 bytes of etc/smi/requested-features
  pub negotiated : Option ℕ  -- the features that were agreed on; None while etc/smi/features-ok is 0
  pub high : ℕ  -- the high half of the DMA address

-- key 0 is selected, and nothing was requested
abbrev pub fw_cfg_start : ℕ → FwCfg
fw_cfg_start features = record { supported = features; key = 0; offset = 0; requested = replicate 8 0; negotiated = None; high = 0 }

-- numbers with the highest byte first, which is how the device has them
unfoldable pub big_bytes : ℕ → ℕ → List ℕ
big_bytes zero value = []
big_bytes (suc n) value = value / 256 ^ n % 256 ∷ big_bytes n value

unfoldable pub big_value : List ℕ → ℕ
big_value [] = 0
big_value (b ∷ bs) = b * 256 ^ length bs + big_value bs

-- a number with the lowest byte first
unfoldable pub little_value : List ℕ → ℕ
little_value [] = 0
little_value (b ∷ bs) = b + 256 * little_value bs

-- a file in the directory: size (4 bytes), key (2), zero (2), name (56)
unfoldable pub listed : ℕ → ℕ → List ℕ → List ℕ
listed size key name = big_bytes 4 size ++ (big_bytes 2 key ++ (replicate 2 0 ++ (name ++ replicate (56 - length name) 0)))

-- the directory, 196 bytes: the count of files (4), and the files in the order of their keys
unfoldable pub directory : List ℕ
directory =
    big_bytes 4 3
    ++ (listed 1 0x20 (codes "etc/smi/features-ok")
    ++ (listed 8 0x21 (codes "etc/smi/requested-features")
    ++ listed 8 0x22 (codes "etc/smi/supported-features")))

-- the byte of etc/smi/features-ok
abbrev pub ok_byte : Option ℕ → ℕ
ok_byte None = 0
ok_byte (Some features) = 1

-- the selected item; every other key names an empty one (own rule)
abbrev pub item_of : FwCfg → List ℕ
item_of f =
    if f.key == 0x19 then directory
    else if f.key == 0x20 then ok_byte f.negotiated ∷ []
    else if f.key == 0x21 then f.requested
    else if f.key == 0x22 then bytes_of 8 f.supported
    else []

-- the request holds no feature that isn't supported, hot-plug and hot-unplug only with broadcast, and hot-unplug only with hot-plug
abbrev pub agrees : ℕ → ℕ → Bool
agrees supported request =
    (bit_and request supported == request)
    && (((bit_and request 1 == 1) || (bit_and request 6 == 0))
    && ((bit_and request 2 == 2) || (bit_and request 4 == 0)))

-- the negotiation is settled once, by a request that agrees
abbrev pub settled : ℕ → ℕ → Option ℕ → Option ℕ
settled supported request (Some features) = Some features
settled supported request None = if agrees supported request then Some request else None

-- a selection sets the offset to 0, and that of etc/smi/features-ok tries to settle
abbrev pub selected : ℕ → FwCfg → FwCfg
selected key f =
    record f {
      key = key;
      offset = 0;
      negotiated = (if key == 0x20 then settled f.supported (little_value f.requested) f.negotiated else f.negotiated);
    }

-- the offset moves by so many bytes, but never past the item's end (own rule)
abbrev pub advanced : ℕ → FwCfg → FwCfg
advanced n f = record f { offset = min (f.offset + n) (length (item_of f)) }

-- the next byte, 0 past the item's end
abbrev pub next_byte : FwCfg → ℕ
next_byte f = slice_index_or (item_of f) f.offset 0

-- the next so many bytes, likewise
abbrev pub next_bytes : ℕ → FwCfg → List ℕ
next_bytes n f = take n (drop f.offset (item_of f) ++ replicate n 0)

-- a value of 4 bytes as the device has it: the byte that a port has lowest is its highest
abbrev pub swapped_bytes : ℕ → ℕ
swapped_bytes value = big_value (bytes_of 4 value)

-- the halves of the DMA address; a write of the low half starts a transfer, after which both are 0
abbrev pub with_high : ℕ → FwCfg → FwCfg
with_high value f = record f { high = swapped_bytes value }

abbrev pub dma_address : ℕ → FwCfg → ℕ
dma_address value f = f.high * 2 ^ 32 + swapped_bytes value

abbrev pub without_high : FwCfg → FwCfg
without_high f = record f { high = 0 }

-- features, once they are agreed on, hold broadcast
abbrev pub has_broadcast : Option ℕ → Bool
has_broadcast None = false
has_broadcast (Some features) = bit_and features 1 == 1
