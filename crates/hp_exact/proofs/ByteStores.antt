-- A byte under the stores of a row: a store of 0 or 1 in one byte leaves it, or makes it that; a store elsewhere leaves it.
use Rattle.std.proofs.Common.{ℕ, zero, suc, ◌≡◌, ◌≢◌, ◌+◌, ◌-◌, ◌⊎◌, inl, inr, Bool, true, false, ◌&&◌, nat_lt, nat_le, List, ◌∷◌, Option, Some, None, refl, arith, ◌≤◌}
use Rattle.std.specs.Prelude.{slice_index_or}
use Rattle.std.proofs.lemmas.Bool.Decides.{nat_tests}
use Rattle.hp_model.specs.declared.platforms.Platform.{Platform}
use Rattle.hp_model.specs.declared.accesses.Want.{Want}
use Rattle.hp_model.specs.declared.accesses.Want.TheVariants as want
use Rattle.hp_model.specs.Memory.{Write, covers, byte_at, bytes_of, write_of}
use Rattle.hp_model.specs.View.{Locks, is_hole, stored}
use Rattle.hp_model.specs.State.{State}
use Rattle.hp_model.specs.Access.{access_effect}
use Rattle.hp_model.proofs.Bytes.{length-bytes_of}
use Rattle.hp_sealed.proofs.Left.{pick, left_store}

-- a byte is left as it was, or becomes 0
abbrev pub Leaves : ℕ → List Write → List Write → Type 0
Leaves x ws vs = (byte_at vs x ≡ byte_at ws x) ⊎ (byte_at vs x ≡ 0)

zero_at : (i : ℕ) → slice_index_or (bytes_of 1 0) i 0 ≡ 0
unfolding bytes_of
zero_at zero = refl
zero_at (suc i) = refl

zero_written : (a x : ℕ) (ws : List Write) → Leaves x ws (write_of a 1 0 ∷ ws)
zero_written a x ws = by_cover (covers (write_of a 1 0) x) refl
  where
    by_cover : (b : Bool) → covers (write_of a 1 0) x ≡ b → Leaves x ws (write_of a 1 0 ∷ ws)
    by_cover true is = inr (rw is (zero_at (x - a)))
    by_cover false is = inl (rw is refl)

-- a store of 0 in one byte, wherever it is
pub zero_stored : (l : Locks) (a x : ℕ) (ws : List Write) → Leaves x ws (stored l true a 1 0 ws)
zero_stored l a x ws = pick (Leaves x ws) (is_hole l true a 1) ws (write_of a 1 0 ∷ ws) (inl refl) (zero_written a x ws)

-- and at the byte itself
pub zero_here : (l : Locks) (a : ℕ) (ws : List Write) → is_hole l true a 1 ≡ false → byte_at (stored l true a 1 0 ws) a ≡ 0
zero_here l a ws reach =
    let n = length-bytes_of 1 0 in
    let here : covers (write_of a 1 0) a ≡ true = rw n (grind (arith, nat_tests)) in
    rw (reach, here) (zero_at (a - a))

-- a store elsewhere
pub elsewhere : (l : Locks) (a n v x : ℕ) (ws : List Write) → (nat_le a x && nat_lt x (a + n)) ≡ false → Leaves x ws (stored l true a n v ws)
elsewhere l a n v x ws e = inl ((left_store l true a n v ws x (λ _. e)).byte)

pub other_misses : (a x : ℕ) → x ≢ a → (nat_le a x && nat_lt x (a + 1)) ≡ false
other_misses a x other = grind (arith, nat_tests)

-- what a row's access does to it
abbrev pub Bytes : Platform → ℕ → State → ℕ → Option Want → Type 0
Bytes p k s x None = Unit {0}
Bytes p k s x (Some (want.Do a)) = Leaves x s.writes (access_effect p k true a s).writes
Bytes p k s x (Some (want.Tell o)) = Unit {0}
Bytes p k s x (Some want.Resume) = Unit {0}

one_at : (i : ℕ) → slice_index_or (bytes_of 1 1) i 0 ≤ 1
unfolding bytes_of
one_at zero = omega arith
one_at (suc i) = omega arith

-- a store of 1 in one byte, wherever it is
pub one_stored : (l : Locks) (a x : ℕ) (ws : List Write) → (byte_at (stored l true a 1 1 ws) x ≡ byte_at ws x) ⊎ (byte_at (stored l true a 1 1 ws) x ≤ 1)
one_stored l a x ws = pick (λ vs. (byte_at vs x ≡ byte_at ws x) ⊎ (byte_at vs x ≤ 1)) (is_hole l true a 1) ws (write_of a 1 1 ∷ ws) (inl refl) (by_cover (covers (write_of a 1 1) x) refl)
  where
    by_cover : (b : Bool) → covers (write_of a 1 1) x ≡ b → (byte_at (write_of a 1 1 ∷ ws) x ≡ byte_at ws x) ⊎ (byte_at (write_of a 1 1 ∷ ws) x ≤ 1)
    by_cover true is = inr (rw is (one_at (x - a)))
    by_cover false is = inl (rw is refl)
