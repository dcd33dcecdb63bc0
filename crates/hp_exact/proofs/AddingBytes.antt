-- The bytes that handlers share, and the flag: each step leaves one as it was, or makes it 0 or 1.
use Rattle.std.proofs.Common.{ℕ, zero, suc, ◌≡◌, ◌+◌, ◌-◌, ◌*◌, ◌%◌, ◌<◌, ◌≤◌, ◌==◌, ◌⊎◌, inl, inr, Bool, true, false, ◌&&◌, nat_lt, nat_le, List, ◌∷◌, Option, Some, None, refl, subst, arith}
use Rattle.std.specs.Prelude.{slice_index_or}
use Rattle.std.proofs.lemmas.Bool.Decides.{nat_tests}
use Rattle.hp_model.specs.declared.platforms.Platform.{Platform}
use Rattle.hp_model.specs.declared.accesses.Access.{Access}
use Rattle.hp_model.specs.declared.accesses.Want.{Want}
use Rattle.hp_model.specs.declared.accesses.Want.TheVariants as want
use Rattle.hp_model.specs.declared.labels.Label.{Label}
use Rattle.hp_model.specs.declared.labels.Label.TheVariants.{F1, F3, F4, F6, R1, R4, R5, R6, S0, S1, NB, N0, N1, N2, N7, N9, N10, E0, E1, E3, E4c, E4d, E4e, E4h, T, E5, E6, E7}
use Rattle.hp_model.specs.Platform.{tseg, count_of}
use Rattle.hp_model.specs.Memory.{Write, covers, byte_at, bytes_of, value_from, write_of}
use Rattle.hp_model.specs.View.{Locks, is_hole, loaded, stored}
use Rattle.hp_model.specs.SharedBytes.{layout_of, tile_in, arrived_byte, release_byte, map_byte, parked_byte, session_byte, gate, closed, new_smbase, flag, default_smbase_field}
use Rattle.hp_model.specs.Monarch.{Monarch}
use Rattle.hp_model.specs.Handlers.{Seat, want_at}
use Rattle.hp_model.specs.State.{State, at}
use Rattle.hp_model.specs.Access.{access_effect}
use Rattle.hp_model.specs.Step.{enter_smm}
use Rattle.hp_sealed.specs.Left.{Sound, Locked}
use Rattle.hp_sealed.proofs.Left.{pick, left_store}
use Rattle.hp_sealed.proofs.Outside.{left_acted}
use Rattle.hp_sealed.proofs.Places.{Base, base_based, default_locked, tseg_locked}
use Rattle.hp_safety.proofs.Saves.{in_reach, left_saved}
use Rattle.hp_exact.proofs.Stood.{IsStood}

-- the flag, and the arrays of TSEG
abbrev pub IsShared : Platform → ℕ → Type 0
IsShared p x = (x ≡ flag) ⊎ ((tseg p ≤ x) × (x < tseg p + 0x5000))

abbrev pub Keeps : ℕ → List Write → List Write → Type 0
Keeps x ws vs = (byte_at vs x ≡ byte_at ws x) ⊎ ((byte_at vs x ≡ 0) ⊎ (byte_at vs x ≡ 1))

-- a store of one such byte, wherever it is
bit_at : (v i : ℕ) → (v ≡ 0) ⊎ (v ≡ 1) → (slice_index_or (bytes_of 1 v) i 0 ≡ 0) ⊎ (slice_index_or (bytes_of 1 v) i 0 ≡ 1)
unfolding bytes_of
bit_at v zero (inl e) = inl (rw e refl)
bit_at v zero (inr e) = inr (rw e refl)
bit_at v (suc i) e = inl refl

bit_written : (a x v : ℕ) (ws : List Write) → (v ≡ 0) ⊎ (v ≡ 1) → Keeps x ws (write_of a 1 v ∷ ws)
bit_written a x v ws bit = by_cover (covers (write_of a 1 v) x) refl
  where
    by_cover : (b : Bool) → covers (write_of a 1 v) x ≡ b → Keeps x ws (write_of a 1 v ∷ ws)
    by_cover true is = elim (bit_at v (x - a) bit) [ inl e ↦ inr (inl (rw is e)) | inr e ↦ inr (inr (rw is e)) ]
    by_cover false is = inl (rw is refl)

bit_stored : (l : Locks) (a x v : ℕ) (ws : List Write) → (v ≡ 0) ⊎ (v ≡ 1) → Keeps x ws (stored l true a 1 v ws)
bit_stored l a x v ws bit = pick (Keeps x ws) (is_hole l true a 1) ws (write_of a 1 v ∷ ws) (inl refl) (bit_written a x v ws bit)

-- what is read of it
read_one : (bytes : ℕ → ℕ) (a : ℕ) → value_from bytes a 1 ≡ bytes a
unfolding value_from
read_one bytes a = omega arith

pub read_here : (l : Locks) (bytes : ℕ → ℕ) (a : ℕ) → is_hole l true a 1 ≡ false → loaded l true bytes a 1 ≡ bytes a
read_here l bytes a reach = rw reach (read_one bytes a)

-- both are in reach of whoever is in SMM
pub reach_flag : (p : Platform) (l : Locks) → Sound p → Locked p l → is_hole l true flag 1 ≡ false
reach_flag p l sound h = let top = sound.top in let above = sound.above in let same = h.low_memory in in_reach 1 flag l (omega (arith, top, above, same))

pub reach_arrived : (p : Platform) (l : Locks) (slot : ℕ) → Sound p → Locked p l → slot < count_of p → is_hole l true (arrived_byte (layout_of p) slot) 1 ≡ false
reach_arrived p l slot sound h less = let top = sound.top in let room = sound.room in let same = h.low_memory in in_reach 1 (arrived_byte (layout_of p) slot) l (omega (arith, top, room, same, less))

-- stores elsewhere
elsewhere : (l : Locks) (a n v x : ℕ) (ws : List Write) → (nat_le a x && nat_lt x (a + n)) ≡ false → Keeps x ws (stored l true a n v ws)
elsewhere l a n v x ws e = inl ((left_store l true a n v ws x (λ _. e)).byte)

low_misses : (base a n x : ℕ) → 0x800000 ≤ base → a + n ≤ 0x800000 → (a + n ≤ 0x3000c) ⊎ (0x3000d ≤ a) → (x ≡ 0x3000c) ⊎ ((base ≤ x) × (x < base + 0x5000)) → (nat_le a x && nat_lt x (a + n)) ≡ false
low_misses base a n x above low (inl h) (inl e) = grind (arith, nat_tests)
low_misses base a n x above low (inr h) (inl e) = grind (arith, nat_tests)
low_misses base a n x above low h (inr e) = let f = e.0 in grind (arith, nat_tests)

abbrev Bytes : Platform → ℕ → State → ℕ → Option Want → Type 0
Bytes p k s x None = Unit {0}
Bytes p k s x (Some (want.Do a)) = Keeps x s.writes (access_effect p k true a s).writes
Bytes p k s x (Some (want.Tell o)) = Unit {0}
Bytes p k s x (Some want.Resume) = Unit {0}

row_bytes : (p : Platform) (k : ℕ) (s : State) (q : Seat) (r : Monarch) (x : ℕ) (l : Label) → Sound p → IsShared p x → Bytes p k s x (want_at (layout_of p) q r l)
row_bytes p k s q r x F1 sound here = pick (Keeps x s.writes) (loaded s.locks true (byte_at s.writes) gate 8 == q.apic) _ _ (elsewhere s.locks gate 8 (closed) x s.writes (low_misses (tseg p) gate 8 x sound.above (omega arith) (inl (omega arith)) here)) (inl refl)
row_bytes p k s q r x F3 sound here = elsewhere s.locks default_smbase_field 4 (q.base) x s.writes (low_misses (tseg p) default_smbase_field 4 x sound.above (omega arith) (inr (omega arith)) here)
row_bytes p k s q r x F4 sound here = bit_stored s.locks flag x 1 s.writes (inr refl)
row_bytes p k s q r x F6 sound here = tt
row_bytes p k s q r x R1 sound here = bit_stored s.locks (arrived_byte (layout_of p) q.slot) x 1 s.writes (inr refl)
row_bytes p k s q r x R4 sound here = bit_stored s.locks (arrived_byte (layout_of p) q.slot) x 0 s.writes (inl refl)
row_bytes p k s q r x R5 sound here = tt
row_bytes p k s q r x R6 sound here = bit_stored s.locks (parked_byte (layout_of p) q.slot) x 1 s.writes (inr refl)
row_bytes p k s q r x S0 sound here = bit_stored s.locks (session_byte (layout_of p)) x 1 s.writes (inr refl)
row_bytes p k s q r x S1 sound here = bit_stored s.locks (release_byte (layout_of p) r.slot) x 0 s.writes (inl refl)
row_bytes p k s q r x NB sound here = bit_stored s.locks (release_byte (layout_of p) r.add.slot) x 0 s.writes (inl refl)
row_bytes p k s q r x N0 sound here = bit_stored s.locks (arrived_byte (layout_of p) r.add.slot) x 0 s.writes (inl refl)
row_bytes p k s q r x N1 sound here = bit_stored s.locks flag x 0 s.writes (inl refl)
row_bytes p k s q r x N2 sound here = elsewhere s.locks new_smbase 4 (tile_in (layout_of p) r.add.slot) x s.writes (low_misses (tseg p) new_smbase 4 x sound.above (omega arith) (inl (omega arith)) here)
row_bytes p k s q r x N7 sound here = elsewhere s.locks gate 8 (r.add.apic) x s.writes (low_misses (tseg p) gate 8 x sound.above (omega arith) (inl (omega arith)) here)
row_bytes p k s q r x N9 sound here = elsewhere s.locks gate 8 (closed) x s.writes (low_misses (tseg p) gate 8 x sound.above (omega arith) (inl (omega arith)) here)
row_bytes p k s q r x N10 sound here = bit_stored s.locks (arrived_byte (layout_of p) r.add.slot) x 0 s.writes (inl refl)
row_bytes p k s q r x E0 sound here = bit_stored s.locks (parked_byte (layout_of p) r.eject.slot) x 0 s.writes (inl refl)
row_bytes p k s q r x E1 sound here = bit_stored s.locks (map_byte (layout_of p) r.eject.slot) x 1 s.writes (inr refl)
row_bytes p k s q r x E3 sound here = bit_stored s.locks (map_byte (layout_of p) r.eject.slot) x 0 s.writes (inl refl)
row_bytes p k s q r x E4c sound here = bit_stored s.locks (arrived_byte (layout_of p) r.eject.slot) x 0 s.writes (inl refl)
row_bytes p k s q r x E4d sound here = bit_stored s.locks (map_byte (layout_of p) r.eject.slot) x 0 s.writes (inl refl)
row_bytes p k s q r x E4e sound here = bit_stored s.locks (parked_byte (layout_of p) r.eject.slot) x 0 s.writes (inl refl)
row_bytes p k s q r x E4h sound here = bit_stored s.locks (map_byte (layout_of p) r.eject.slot) x 0 s.writes (inl refl)
row_bytes p k s q r x T sound here = tt
row_bytes p k s q r x E5 sound here = bit_stored s.locks (session_byte (layout_of p)) x 0 s.writes (inl refl)
row_bytes p k s q r x E6 sound here = bit_stored s.locks (release_byte (layout_of p) r.slot) x 1 s.writes (inr refl)
row_bytes p k s q r x E7 sound here = tt
row_bytes p k s q r x _ sound here = inl refl

-- a row of anybody's
pub bits_row : (p : Platform) (s : State) (k : ℕ) (q : Seat) (l : Label) (a : Access) (x : ℕ) → Sound p → want_at (layout_of p) q s.monarch l ≡ Some (want.Do a) → IsShared p x → Keeps x s.writes (access_effect p k true a s).writes
bits_row p s k q l a x sound wants here = subst (Bytes p k s x) wants (row_bytes p k s q s.monarch x l sound here)

-- an access from outside SMM
pub same_outside : (p : Platform) (s : State) (k : ℕ) (a : Access) (x : ℕ) → Sound p → Locked p s.locks → IsShared p x → byte_at (access_effect p k false a s).writes x ≡ byte_at s.writes x
same_outside p s k a x sound locks (inl e) = (left_acted p k a s x (default_locked p s.locks x locks (rw e refl))).byte
same_outside p s k a x sound locks (inr e) = (left_acted p k a s x (tseg_locked p s.locks x sound locks (inside (tseg p) p.low_memory (0x100000 * p.tseg_mib) x (0x10000 * count_of p) sound.top sound.room e.0 e.1))).byte
  where
    inside : (base top size x n : ℕ) → top ≡ base + size → n + 0x20000 ≤ size → base ≤ x → x < base + 0x5000 → (nat_le base x && nat_lt x top) ≡ true
    inside base top size x n is room from to = grind (arith, nat_tests)

pub bits_outside : (p : Platform) (s : State) (k : ℕ) (a : Access) (x : ℕ) → Sound p → Locked p s.locks → IsShared p x → Keeps x s.writes (access_effect p k false a s).writes
bits_outside p s k a x sound locks here = inl (same_outside p s k a x sound locks here)

-- SMI entry
pub same_enters : (p : Platform) (s : State) (k : ℕ) (x : ℕ) → Sound p → IsStood p s → (at s k).present ≡ true → IsShared p x → byte_at (enter_smm k s).writes x ≡ byte_at s.writes x
same_enters p s k x sound stood present here = (left_saved s.locks (at s k) s.writes x base.unit base.whole (below here)).byte
  where
    base : Base p (at s k).smbase
    base = base_based p k (at s k).smbase sound (stood.based k present)

    plain : (b u x : ℕ) → b ≡ 0x10000 * u → b ≤ x → x < b + 0x5000 → x % 0x10000 < 0xfefc
    plain b u x e from to = omega (arith, e, from, to)

    below : IsShared p x → x % 0x10000 < 0xfefc
    below (inl e) = rw e (omega arith)
    below (inr e) = plain (tseg p) sound.unit x sound.whole e.0 e.1

pub bits_enters : (p : Platform) (s : State) (k : ℕ) (x : ℕ) → Sound p → IsStood p s → (at s k).present ≡ true → IsShared p x → Keeps x s.writes (enter_smm k s).writes
bits_enters p s k x sound stood present here = inl (same_enters p s k x sound stood present here)
