-- Memory that no lock and no end of RAM hides, and transfers within it.
use Rattle.std.proofs.Common.{◌≡◌, ℕ, zero, suc, Bool, true, false, ◌&&◌, ◌==◌, ◌+◌, ◌*◌, ◌<◌, ◌≤◌, List, [], ◌∷◌, length, refl, ap, arith, nat_lt, nat_le}
use Rattle.std.proofs.lemmas.Bool.{leb-true}
use Rattle.std.proofs.lemmas.Bool.Decides.{nat_tests}
use Rattle.hp_model.specs.Memory.{Write, byte_at, write_of}
use Rattle.hp_model.specs.View.{Locks, tseg_size, is_hidden, is_hole}
use Rattle.hp_model.specs.FwCfg.{FwCfg}
use Rattle.hp_model.specs.Transfers.{Asked, Move, nothing, to_memory, from_memory, failed, descriptor_at, ask, bytes_stored, bytes_loaded, moved, carried_out, finished, transfer}

-- TSEG leaves 8 MiB of RAM
abbrev pub HasRoom : Locks → Type 0
HasRoom l = tseg_size l.ext_tseg l.esmramc * 0x100000 + 0x800000 ≤ l.low_memory

-- so the lower 8 MiB are hidden by the default area alone
module _ (l : Locks) (room : HasRoom l) where
  shown : (x : ℕ) → x < 0x800000 → ((l.f_smbase == 2) && nat_lt 0x2ffff x) ≡ false → is_hidden l false x ≡ false
  shown x below outside = grind (arith, nat_tests, room)

  pub open_below : (x n : ℕ) → x + n ≤ 0x800000 → ((l.f_smbase == 2) && nat_lt 0x30000 (x + n)) ≡ false → is_hole l false x n ≡ false
  unfolding is_hole
  open_below x zero below outside = refl
  open_below x (suc n) below outside =
      let first : ((l.f_smbase == 2) && nat_lt 0x2ffff x) ≡ false = grind (arith, nat_tests) in
      let others : ((l.f_smbase == 2) && nat_lt 0x30000 ((x + 1) + n)) ≡ false = grind (arith, nat_tests) in
      rw (shown x (omega (arith, below)) first, open_below (x + 1) n (omega (arith, below)) others) refl

-- no access below 0x2000 is a hole
abbrev pub IsOpen : Locks → Type 0
IsOpen l = (x n : ℕ) → x + n ≤ 0x2000 → is_hole l false x n ≡ false

pub IsOpen-room : (l : Locks) → HasRoom l → IsOpen l
IsOpen-room l room x n below = open_below l room x n (omega (arith, below)) (grind (arith, nat_tests))

-- a move stays below 0x2000
abbrev pub is_low : Move → Bool
is_low nothing = true
is_low (to_memory addr bytes) = nat_le (addr + length bytes) 0x2000
is_low (from_memory addr n) = nat_le (addr + n) 0x2000
is_low failed = true

-- two machines with that memory open do the same transfers there
module _ (l m : Locks) (here : IsOpen l) (there : IsOpen m) where
  same_bytes : (bytes : ℕ → ℕ) (x n : ℕ) → x + n ≤ 0x2000 → bytes_loaded l bytes x n ≡ bytes_loaded m bytes x n
  unfolding bytes_loaded
  same_bytes bytes x zero below = refl
  same_bytes bytes x (suc n) below =
      let first : x + 1 ≤ 0x2000 = omega (arith, below) in
      rw (here x 1 first, there x 1 first, same_bytes bytes (x + 1) n (omega (arith, below))) refl

  same_writes : (x : ℕ) (bytes : List ℕ) (ws : List Write) → x + length bytes ≤ 0x2000 → bytes_stored l x bytes ws ≡ bytes_stored m x bytes ws
  unfolding bytes_stored
  same_writes x [] ws below = refl
  same_writes x (b ∷ bs) ws below =
      let first : x + 1 ≤ 0x2000 = omega (arith, below) in
      rw (here x 1 first, there x 1 first) (same_writes (x + 1) bs (write_of x 1 b ∷ ws) (omega (arith, below)))

  same_moves : (move : Move) (f : FwCfg) (ws : List Write) → is_low move ≡ true → moved l move f ws ≡ moved m move f ws
  same_moves nothing f ws low = refl
  same_moves (to_memory addr bytes) f ws low =
      ap (λ (us : List Write). record { fw_cfg = f; writes = us }) (same_writes addr bytes ws (leb-true (addr + length bytes) 0x2000 low))
  same_moves (from_memory addr n) f ws low =
      ap (λ (bytes : List ℕ). record { fw_cfg = finished bytes f; writes = ws }) (same_bytes (byte_at ws) addr n (leb-true (addr + n) 0x2000 low))
  same_moves failed f ws low = refl

  same_end : (at : ℕ) (a : Asked) (ws : List Write) → at + 4 ≤ 0x2000 → is_low a.move ≡ true → carried_out l at a ws ≡ carried_out m at a ws
  same_end at a ws below low = rw (same_moves a.move a.fw_cfg ws low, here at 4 below, there at 4 below) refl

  pub same_transfer : (at : ℕ) (f : FwCfg) (ws : List Write) → at + 16 ≤ 0x2000 → is_low (ask (descriptor_at m ws at) f).move ≡ true →
      transfer l at f ws ≡ transfer m at f ws
  unfolding transfer
  same_transfer at f ws below low =
      rw (here at 16 below, there at 16 below, same_bytes (byte_at ws) at 16 below)
      (same_end at (ask (descriptor_at m ws at) f) ws (omega (arith, below)) low)
