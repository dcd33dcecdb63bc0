-- What SMI entry stores is locked, for a processor that is based where it may be.
use Rattle.std.proofs.Common.{ℕ, ◌≡◌, ◌+◌, ◌-◌, ◌*◌, ◌%◌, ◌<◌, ◌≤◌, ◌==◌, ◌⊎◌, inl, inr, Bool, true, false, not, ◌&&◌, ◌||◌, nat_lt, nat_le, List, refl, sym, subst, arith}
use Rattle.std.proofs.lemmas.Bool.{and_parts, eqb-true, ltb-true}
use Rattle.std.proofs.lemmas.Bool.Decides.{nat_tests}
use Rattle.hp_model.proofs.Cases.{or_cases}
use Rattle.hp_model.specs.declared.platforms.Platform.{Platform}
use Rattle.hp_model.specs.declared.processors.Cpu.{Cpu}
use Rattle.hp_model.specs.Platform.{IsFit, count_of, tseg_fits, most_tiles, has_room, tseg, tile}
use Rattle.hp_model.specs.Memory.{Write}
use Rattle.hp_model.specs.View.{Locks, is_locked, stored}
use Rattle.hp_model.specs.SaveArea.{smbase_field, revision_field, rip_field, revision, rip_of, saved}
use Rattle.hp_model.specs.SharedBytes.{layout_of}
use Rattle.hp_model.specs.Handlers.{slot_at, is_tile}
use Rattle.hp_model.specs.State.{State}
use Rattle.hp_model.proofs.FitPlatforms.{rules_of}
use Rattle.hp_secrecy.specs.Shielded.{is_base, IsShielded, AreLocked}
use Rattle.hp_secrecy.proofs.Bytes.{AlikeBytes, bytes_then, store_unseen}

-- the tiles lie in TSEG: rules 5 to 7
pub record HasTiles (p : Platform) : Type 0 where
  pub top : tseg p + 0x20000 + 0x10000 * count_of p ≤ p.low_memory

sizes : (m : ℕ) → ((m == 1) || ((m == 2) || ((m == 8) || (m == 48)))) ≡ true → (m ≡ 1) ⊎ ((m ≡ 2) ⊎ ((m ≡ 8) ⊎ (m ≡ 48)))
sizes m e = grind (arith, nat_tests)

room_small : (low mib n : ℕ) → 0x1000000 ≤ low → 1 ≤ mib → mib ≤ 8 → n ≤ 16 * mib - 2 → low - mib * 0x100000 + 0x20000 + 0x10000 * n ≤ low
room_small low mib n least one few room = omega (arith, least, one, few, room)

room_large : (low n : ℕ) → 0x4000000 ≤ low → n ≤ 512 → low - 48 * 0x100000 + 0x20000 + 0x10000 * n ≤ low
room_large low n least room = omega (arith, least, room)

below : (a b : ℕ) → nat_le a b ≡ true → a ≤ b
below a b e = grind (arith, nat_tests)

pub has_tiles : (p : Platform) → IsFit p → HasTiles p
has_tiles p e =
    let r = rules_of p e in
    let m = and_parts (nat_le 0x1000000 p.low_memory) (nat_le p.low_memory 0x80000000) (and_parts (p.low_memory % 0x100000 == 0) _ r.memory).1 in
    let t = and_parts (nat_le (count_of p) (most_tiles p.tseg_mib)) (has_room p) (and_parts (tseg_fits p) _ r.tiles).1 in
    record { top = by_size p.low_memory p.tseg_mib (count_of p) (sizes p.tseg_mib r.tseg) (below 0x1000000 p.low_memory m.0) (below (count_of p) (most_tiles p.tseg_mib) t.0) t.1 }
  where
    by_size : (low mib n : ℕ) → (mib ≡ 1) ⊎ ((mib ≡ 2) ⊎ ((mib ≡ 8) ⊎ (mib ≡ 48))) → 0x1000000 ≤ low → n ≤ most_tiles mib → (not (mib == 48) || nat_le 0x4000000 low) ≡ true → low - mib * 0x100000 + 0x20000 + 0x10000 * n ≤ low
    by_size low mib n (inl e) least = subst (λ m. n ≤ most_tiles m → (not (m == 48) || nat_le 0x4000000 low) ≡ true → low - m * 0x100000 + 0x20000 + 0x10000 * n ≤ low) (sym e) (λ room large. room_small low 1 n least (omega arith) (omega arith) room)
    by_size low mib n (inr (inl e)) least = subst (λ m. n ≤ most_tiles m → (not (m == 48) || nat_le 0x4000000 low) ≡ true → low - m * 0x100000 + 0x20000 + 0x10000 * n ≤ low) (sym e) (λ room large. room_small low 2 n least (omega arith) (omega arith) room)
    by_size low mib n (inr (inr (inl e))) least = subst (λ m. n ≤ most_tiles m → (not (m == 48) || nat_le 0x4000000 low) ≡ true → low - m * 0x100000 + 0x20000 + 0x10000 * n ≤ low) (sym e) (λ room large. room_small low 8 n least (omega arith) (omega arith) room)
    by_size low mib n (inr (inr (inr e))) least = subst (λ m. n ≤ most_tiles m → (not (m == 48) || nat_le 0x4000000 low) ≡ true → low - m * 0x100000 + 0x20000 + 0x10000 * n ≤ low) (sym e) (λ room large. room_large low n (below 0x4000000 low large) room)

-- a byte of either range is locked
in_range : (p : Platform) (s : State) (x : ℕ) → IsShielded p s → ((nat_le 0x30000 x && nat_lt x 0x50000) || (nat_le (tseg p) x && nat_lt x p.low_memory)) ≡ true → is_locked s.locks x ≡ true
in_range p s x h e = rw (h.f_smbase, h.smram, h.size, h.low_memory) e

in_default : (base top x : ℕ) → 0x30000 ≤ x → x < 0x50000 → ((nat_le 0x30000 x && nat_lt x 0x50000) || (nat_le base x && nat_lt x top)) ≡ true
in_default base top x low high = grind (arith, nat_tests)

in_tseg : (base top x : ℕ) → base ≤ x → x < top → ((nat_le 0x30000 x && nat_lt x 0x50000) || (nat_le base x && nat_lt x top)) ≡ true
in_tseg base top x low high = grind (arith, nat_tests)

-- the gate is locked
pub gate_locked : (p : Platform) (s : State) → IsShielded p s → AreLocked s.locks 0x30000 8
gate_locked p s h x e = in_range p s x h (in_gate x (tseg p) p.low_memory e)
  where
    in_gate : (x base top : ℕ) → (nat_le 0x30000 x && nat_lt x 0x30008) ≡ true → ((nat_le 0x30000 x && nat_lt x 0x50000) || (nat_le base x && nat_lt x top)) ≡ true
    in_gate x base top e = grind (arith, nat_tests)

-- an SMBASE's 64 KiB are locked
pub based_locked : (p : Platform) (s : State) (b x : ℕ) → HasTiles p → IsShielded p s → is_base (layout_of p) b ≡ true → b ≤ x → x < b + 0x10000 → is_locked s.locks x ≡ true
based_locked p s b x tiles h e low high = elim (or_cases (b == 0x30000) (is_tile (layout_of p) b) e) [
  | inl f ↦ (let is = eqb-true b 0x30000 f in in_range p s x h (in_default (tseg p) p.low_memory x (omega (arith, is, low)) (omega (arith, is, high))))
  | inr f ↦
      (let k = slot_at (layout_of p) b in
      let parts = and_parts (nat_lt k (count_of p)) (b == tile p k) f in
      let is : b ≡ tseg p + 0x20000 + k * 0x10000 = eqb-true b (tile p k) parts.1 in
      in_range p s x h (in_tseg (tseg p) p.low_memory x (after (tseg p) k b x is low) (within (tseg p) (count_of p) k b x p.low_memory is (ltb-true k (count_of p) parts.0) tiles.top high)))
]
  where
    after : (base k b x : ℕ) → b ≡ base + 0x20000 + k * 0x10000 → b ≤ x → base ≤ x
    after base k b x is low = omega (arith, is, low)

    within : (base n k b x top : ℕ) → b ≡ base + 0x20000 + k * 0x10000 → k < n → base + 0x20000 + 0x10000 * n ≤ top → x < b + 0x10000 → x < top
    within base n k b x top is less room high = omega (arith, is, less, room, high)

-- and so are the three fields
field_locked : (p : Platform) (s : State) (b field n : ℕ) → HasTiles p → IsShielded p s → is_base (layout_of p) b ≡ true → field + n ≤ 0x10000 → AreLocked s.locks (b + field) n
field_locked p s b field n tiles h e small x inside = based_locked p s b x tiles h e (from b field n x inside) (to b field n x small inside)
  where
    from : (b field n x : ℕ) → (nat_le (b + field) x && nat_lt x (b + field + n)) ≡ true → b ≤ x
    from b field n x e = grind (arith, nat_tests)

    to : (b field n x : ℕ) → field + n ≤ 0x10000 → (nat_le (b + field) x && nat_lt x (b + field + n)) ≡ true → x < b + 0x10000
    to b field n x small e = grind (arith, nat_tests)

-- so SMI entry is not seen
pub saved_unseen : (p : Platform) (s : State) (c : Cpu) (ws : List Write) → HasTiles p → IsShielded p s → is_base (layout_of p) c.smbase ≡ true → AlikeBytes s.locks (saved s.locks c ws) ws
unfolding saved
saved_unseen p s c ws tiles h e =
    let l : Locks = s.locks in
    let first : List Write = stored l true (c.smbase + smbase_field) 4 c.smbase ws in
    let second : List Write = stored l true (c.smbase + revision_field) 4 revision first in
    bytes_then l (stored l true (c.smbase + rip_field) 8 (rip_of c) second) second ws
    (store_unseen l true (c.smbase + rip_field) 8 (rip_of c) second (field_locked p s c.smbase rip_field 8 tiles h e (omega arith)))
    (bytes_then l second first ws
    (store_unseen l true (c.smbase + revision_field) 4 revision first (field_locked p s c.smbase revision_field 4 tiles h e (omega arith)))
    (store_unseen l true (c.smbase + smbase_field) 4 c.smbase ws (field_locked p s c.smbase smbase_field 4 tiles h e (omega arith))))
