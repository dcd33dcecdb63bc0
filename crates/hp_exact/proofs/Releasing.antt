-- Release bytes while others are called in.
use Rattle.std.proofs.Common.{ℕ, ◌≡◌, ◌≢◌, ◌+◌, ◌*◌, ◌<◌, ◌≤◌, ◌==◌, ◌⊎◌, inl, inr, Bool, true, false, not, ◌&&◌, ◌||◌, nat_lt, nat_le, List, [], ◌∷◌, length, Option, Some, None, refl, sym, ap, subst, ◌∙◌, arith}
use Rattle.std.proofs.lemmas.Bool.{and_parts, ltb-true, or_left, or_right}
use Rattle.std.proofs.lemmas.Bool.Decides.{nat_tests}
use Rattle.hp_model.specs.declared.platforms.Platform.{Platform}
use Rattle.hp_model.specs.declared.accesses.Access.{Access}
use Rattle.hp_model.specs.declared.accesses.Want.{Want}
use Rattle.hp_model.specs.declared.accesses.Want.TheVariants as want
use Rattle.hp_model.specs.declared.labels.Label.{Label}
use Rattle.hp_model.specs.declared.labels.Label.TheVariants.{F1, F2, F3, F4, F5, F6, R1, R2, R3, R4, R5, R6, S0, S1, S2, NB, N0, N1, N2, N7, N9, N10, E0, E1, E3, E4c, E4d, E4e, E4h, T, E5, E6, E7}
use Rattle.hp_model.specs.Platform.{tseg, count_of}
use Rattle.hp_model.specs.Memory.{Write, byte_at}
use Rattle.hp_model.specs.View.{loaded}
use Rattle.hp_model.specs.declared.labels.Handler.TheVariants.{Relocated, Monarch as Monarchs}
use Rattle.hp_model.specs.Labels.{handler_of}
use Rattle.hp_model.specs.SharedBytes.{Layout, layout_of, tile_in, arrived_byte, release_byte, map_byte, parked_byte, session_byte, gate, closed, new_smbase, flag, default_smbase_field}
use Rattle.hp_model.specs.Monarch.{Monarch, at_label, first_slot, next_slot, restarted}
use Rattle.hp_model.specs.Handlers.{Seat, want_at, next_at, runs_at, slot_at, is_tile}
use Rattle.hp_model.specs.State.{State, at}
use Rattle.hp_model.specs.Access.{access_effect}
use Rattle.hp_model.specs.Firmware.{seat, with_session}
use Rattle.hp_model.specs.Step.{enter_smm, is_after_broadcast}
use Rattle.hp_sealed.specs.Left.{Sound}
use Rattle.hp_sealed.proofs.Left.{pick, pick_by}
use Rattle.hp_sealed.proofs.Outside.{left_acted}
use Rattle.hp_sealed.proofs.Places.{Base, base_based, tseg_locked}
use Rattle.hp_safety.proofs.Saves.{in_reach, left_other}
use Rattle.hp_exact.proofs.Monarchs.{is_among}
use Rattle.hp_exact.proofs.Stood.{IsStood}
use Rattle.hp_exact.proofs.Stepping.{AtMonarch, AtOther}
use Rattle.hp_exact.proofs.Invariant.{Ordered, is_kept_in, Released}
use Rattle.hp_exact.proofs.ByteStores.{Bytes, Leaves, elsewhere, other_misses, zero_here, zero_stored}

-- stores below 8 MiB, and of one byte of another array
low_misses : (base a n x : ℕ) → 0x800000 ≤ base → a + n ≤ 0x800000 → base + 0x1000 ≤ x → (nat_le a x && nat_lt x (a + n)) ≡ false
low_misses base a n x above low from = grind (arith, nat_tests)

first_misses : (base slot x : ℕ) → slot < 0x1000 → base + 0x1000 ≤ x → (nat_le (base + slot) x && nat_lt x (base + slot + 1)) ≡ false
first_misses base slot x small from = grind (arith, nat_tests)

later_misses : (base a x : ℕ) → base + 0x2000 ≤ a → x < base + 0x2000 → (nat_le a x && nat_lt x (a + 1)) ≡ false
later_misses base a x from to = grind (arith, nat_tests)

row_bytes : (p : Platform) (k : ℕ) (s : State) (q : Seat) (r : Monarch) (x : ℕ) (l : Label) → Sound p → tseg p + 0x1000 ≤ x → x < tseg p + 0x2000
    → (handler_of l ≡ Relocated → q.slot < 0x1000) → (l ≡ E6 → x ≢ release_byte (layout_of p) r.slot) → Bytes p k s x (want_at (layout_of p) q r l)
row_bytes p k s q r x F1 sound from to small other = pick (Leaves x s.writes) (loaded s.locks true (byte_at s.writes) gate 8 == q.apic) _ _ (elsewhere s.locks gate 8 (closed) x s.writes (low_misses (tseg p) gate 8 x sound.above (omega arith) from)) (inl refl)
row_bytes p k s q r x F3 sound from to small other = elsewhere s.locks default_smbase_field 4 (q.base) x s.writes (low_misses (tseg p) default_smbase_field 4 x sound.above (omega arith) from)
row_bytes p k s q r x F4 sound from to small other = elsewhere s.locks flag 1 (1) x s.writes (low_misses (tseg p) flag 1 x sound.above (omega arith) from)
row_bytes p k s q r x F6 sound from to small other = tt
row_bytes p k s q r x R1 sound from to small other = elsewhere s.locks (arrived_byte (layout_of p) q.slot) 1 1 x s.writes (first_misses (tseg p) q.slot x (small refl) from)
row_bytes p k s q r x R4 sound from to small other = zero_stored s.locks (arrived_byte (layout_of p) q.slot) x s.writes
row_bytes p k s q r x R5 sound from to small other = tt
row_bytes p k s q r x R6 sound from to small other = elsewhere s.locks (parked_byte (layout_of p) q.slot) 1 1 x s.writes (later_misses (tseg p) (parked_byte (layout_of p) q.slot) x (omega arith) to)
row_bytes p k s q r x S0 sound from to small other = elsewhere s.locks (session_byte (layout_of p)) 1 1 x s.writes (later_misses (tseg p) (session_byte (layout_of p)) x (omega arith) to)
row_bytes p k s q r x S1 sound from to small other = zero_stored s.locks (release_byte (layout_of p) r.slot) x s.writes
row_bytes p k s q r x NB sound from to small other = zero_stored s.locks (release_byte (layout_of p) r.add.slot) x s.writes
row_bytes p k s q r x N0 sound from to small other = zero_stored s.locks (arrived_byte (layout_of p) r.add.slot) x s.writes
row_bytes p k s q r x N1 sound from to small other = zero_stored s.locks (flag) x s.writes
row_bytes p k s q r x N2 sound from to small other = elsewhere s.locks new_smbase 4 (tile_in (layout_of p) r.add.slot) x s.writes (low_misses (tseg p) new_smbase 4 x sound.above (omega arith) from)
row_bytes p k s q r x N7 sound from to small other = elsewhere s.locks gate 8 (r.add.apic) x s.writes (low_misses (tseg p) gate 8 x sound.above (omega arith) from)
row_bytes p k s q r x N9 sound from to small other = elsewhere s.locks gate 8 (closed) x s.writes (low_misses (tseg p) gate 8 x sound.above (omega arith) from)
row_bytes p k s q r x N10 sound from to small other = zero_stored s.locks (arrived_byte (layout_of p) r.add.slot) x s.writes
row_bytes p k s q r x E0 sound from to small other = zero_stored s.locks (parked_byte (layout_of p) r.eject.slot) x s.writes
row_bytes p k s q r x E1 sound from to small other = elsewhere s.locks (map_byte (layout_of p) r.eject.slot) 1 1 x s.writes (later_misses (tseg p) (map_byte (layout_of p) r.eject.slot) x (omega arith) to)
row_bytes p k s q r x E3 sound from to small other = zero_stored s.locks (map_byte (layout_of p) r.eject.slot) x s.writes
row_bytes p k s q r x E4c sound from to small other = zero_stored s.locks (arrived_byte (layout_of p) r.eject.slot) x s.writes
row_bytes p k s q r x E4d sound from to small other = zero_stored s.locks (map_byte (layout_of p) r.eject.slot) x s.writes
row_bytes p k s q r x E4e sound from to small other = zero_stored s.locks (parked_byte (layout_of p) r.eject.slot) x s.writes
row_bytes p k s q r x E4h sound from to small other = zero_stored s.locks (map_byte (layout_of p) r.eject.slot) x s.writes
row_bytes p k s q r x T sound from to small other = tt
row_bytes p k s q r x E5 sound from to small other = zero_stored s.locks (session_byte (layout_of p)) x s.writes
row_bytes p k s q r x E6 sound from to small other = elsewhere s.locks (release_byte (layout_of p) r.slot) 1 1 x s.writes (other_misses (release_byte (layout_of p) r.slot) x (other refl))
row_bytes p k s q r x E7 sound from to small other = tt
row_bytes p k s q r x _ sound from to small other = inl refl

-- which bytes must be 0, as the monarch's record goes on
pub kept_called : (r : Monarch) (slot : ℕ) → (is_among r.label (S2 ∷ []) || is_after_broadcast r.label) ≡ true → is_kept_in r slot ≡ true
kept_called r slot e = or_right (nat_le (length r.slots.bound) slot) _ (or_right (is_among r.label (S1 ∷ []) && nat_lt slot r.slot) _ e)

abbrev Kept : Monarch → ℕ → Label → Monarch → Type 0
Kept r slot l t = is_kept_in t slot ≡ true → (is_kept_in r slot ≡ true) ⊎ ((l ≡ S1) × (slot ≡ r.slot))

unbound : (n slot : ℕ) (a b c : Bool) → (nat_le n slot || (a && b || c)) ≡ true → (a && b) ≡ false → c ≡ false → nat_le n slot ≡ true
unbound n slot a b c e f g = by_test (nat_le n slot) refl
  where
    by_test : (d : Bool) → nat_le n slot ≡ d → nat_le n slot ≡ true
    by_test true is = is
    by_test false is = absurd (let none : (nat_le n slot || (a && b || c)) ≡ false = rw (is, f, g) refl in let both : true ≡ false = sym e ∙ none in cc)

kept_plain : (r t : Monarch) (slot : ℕ) (l : Label) → is_among t.label (S1 ∷ []) ≡ false → (is_among t.label (S2 ∷ []) || is_after_broadcast t.label) ≡ false → t.slots.bound ≡ r.slots.bound → Kept r slot l t
kept_plain r t slot l one two bound e =
    let n = unbound (length t.slots.bound) slot (is_among t.label (S1 ∷ [])) (nat_lt slot t.slot) (is_among t.label (S2 ∷ []) || is_after_broadcast t.label) e (rw one refl) two in
    inl (or_left (nat_le (length r.slots.bound) slot) _ (subst (λ ids. nat_le (length ids) slot ≡ true) bound n))

kept_first : (r : Monarch) (slot : ℕ) → 1 ≤ slot → Kept r slot S0 (first_slot S1 S2 r)
kept_first r slot some = pick_by (Kept r slot S0) (nat_lt 1 (length r.slots.bound)) (record r { label = S1; slot = 1 }) (at_label S2 r)
    (λ more e. inl (or_left (nat_le (length r.slots.bound) slot) _ (first (nat_le (length r.slots.bound) slot) (nat_lt slot 1) (none slot some) e)))
    (λ more e. inl (or_left (nat_le (length r.slots.bound) slot) _ (few (length r.slots.bound) slot some more)))
  where
    none : (slot : ℕ) → 1 ≤ slot → nat_lt slot 1 ≡ false
    none slot some = grind (arith, nat_tests)

    first : (a b : Bool) → b ≡ false → (a || (b || false)) ≡ true → a ≡ true
    first true b f e = refl
    first false true f e = absurd cc
    first false false f e = absurd cc

    few : (n slot : ℕ) → 1 ≤ slot → nat_lt 1 n ≡ false → nat_le n slot ≡ true
    few n slot some e = grind (arith, nat_tests)

kept_next : (r : Monarch) (slot : ℕ) → r.label ≡ S1 → 1 ≤ slot → Kept r slot S1 (next_slot S1 S2 r)
kept_next r slot is some = pick_by (Kept r slot S1) (nat_lt (r.slot + 1) (length r.slots.bound)) (record r { label = S1; slot = r.slot + 1 }) (at_label S2 r)
    (λ more e. split (length r.slots.bound) slot r.slot is e)
    (λ more e. few (length r.slots.bound) slot r.slot more)
  where
    here : (n : ℕ) → (nat_le n slot || nat_lt slot r.slot) ≡ true → length r.slots.bound ≡ n → is_kept_in r slot ≡ true
    here n e same = rw (is, same) (more (nat_le n slot) (nat_lt slot r.slot) e)
      where
        more : (a b : Bool) → (a || b) ≡ true → (a || (b || false)) ≡ true
        more true b e = refl
        more false true e = refl
        more false false e = absurd cc

    by_place : (n : ℕ) → length r.slots.bound ≡ n → ((nat_le n slot || nat_lt slot r.slot) ≡ true) ⊎ (slot ≡ r.slot) → (is_kept_in r slot ≡ true) ⊎ ((S1 ≡ S1) × (slot ≡ r.slot))
    by_place n same (inl e) = inl (here n e same)
    by_place n same (inr e) = inr (refl, e)

    near : (n slot j : ℕ) → (nat_le n slot || (nat_lt slot (j + 1) || false)) ≡ true → (slot == j) ≡ false → (nat_le n slot || nat_lt slot j) ≡ true
    near n slot j e f = grind (arith, nat_tests)

    far : (n slot j : ℕ) → nat_lt (j + 1) n ≡ false → (slot == j) ≡ false → (nat_le n slot || nat_lt slot j) ≡ true
    far n slot j e f = grind (arith, nat_tests)

    same_place : (i j : ℕ) → (i == j) ≡ true → i ≡ j
    same_place i j e = grind (arith, nat_tests)

    split : (n slot0 j : ℕ) → r.label ≡ S1 → (nat_le (length r.slots.bound) slot || (nat_lt slot (r.slot + 1) || false)) ≡ true → (is_kept_in r slot ≡ true) ⊎ ((S1 ≡ S1) × (slot ≡ r.slot))
    split n slot0 j _ e = by_test (slot == r.slot) refl
      where
        by_test : (b : Bool) → (slot == r.slot) ≡ b → (is_kept_in r slot ≡ true) ⊎ ((S1 ≡ S1) × (slot ≡ r.slot))
        by_test true f = inr (refl, same_place slot r.slot f)
        by_test false f = by_place (length r.slots.bound) refl (inl (near (length r.slots.bound) slot r.slot e f))

    few : (n slot0 j : ℕ) → nat_lt (r.slot + 1) (length r.slots.bound) ≡ false → (is_kept_in r slot ≡ true) ⊎ ((S1 ≡ S1) × (slot ≡ r.slot))
    few n slot0 j e = by_test (slot == r.slot) refl
      where
        by_test : (b : Bool) → (slot == r.slot) ≡ b → (is_kept_in r slot ≡ true) ⊎ ((S1 ≡ S1) × (slot ≡ r.slot))
        by_test true f = inr (refl, same_place slot r.slot f)
        by_test false f = by_place (length r.slots.bound) refl (inl (far (length r.slots.bound) slot r.slot e f))

kept_row : (y : Layout) (q : Seat) (r : Monarch) (l : Label) (v slot : ℕ) → handler_of l ≡ Monarchs → r.label ≡ l → 1 ≤ slot → Kept r slot l (next_at y q r l v).monarch
kept_row y q r F1 v slot mine is some = absurd cc
kept_row y q r F2 v slot mine is some = absurd cc
kept_row y q r F3 v slot mine is some = absurd cc
kept_row y q r F4 v slot mine is some = absurd cc
kept_row y q r F5 v slot mine is some = absurd cc
kept_row y q r F6 v slot mine is some = absurd cc
kept_row y q r R1 v slot mine is some = absurd cc
kept_row y q r R2 v slot mine is some = absurd cc
kept_row y q r R3 v slot mine is some = absurd cc
kept_row y q r R4 v slot mine is some = absurd cc
kept_row y q r R5 v slot mine is some = absurd cc
kept_row y q r R6 v slot mine is some = absurd cc
kept_row y q r S0 v slot mine is some = kept_first r slot some
kept_row y q r S1 v slot mine is some = kept_next r slot is some
kept_row y q r E6 v slot mine is some =
    pick (Kept r slot E6) (nat_lt (r.slot + 1) (length r.slots.bound)) (record r { label = E6; slot = r.slot + 1 }) (at_label E7 r)
    (kept_plain r (record r { label = E6; slot = r.slot + 1 }) slot E6 refl refl refl) (kept_plain r (at_label E7 r) slot E6 refl refl refl)
kept_row y q r E7 v slot mine is some = λ e. inl e
kept_row y q r _ v slot mine is some = λ e. inl (kept_called r slot (rw is refl))

-- the bytes are in the first 8 KiB of TSEG
pub from_1000 : (base slot : ℕ) → base + 0x1000 ≤ base + 0x1000 + slot
from_1000 base slot = omega arith

pub to_2000 : (base slot : ℕ) → slot < 0x1000 → base + 0x1000 + slot < base + 0x2000
to_2000 base slot small = omega (arith, small)

abbrev Zeroes : Platform → State → ℕ → Option Want → Type 0
Zeroes p s x None = Unit {0}
Zeroes p s x (Some (want.Do a)) = byte_at (access_effect p 0 true a s).writes x ≡ 0
Zeroes p s x (Some (want.Tell o)) = Unit {0}
Zeroes p s x (Some want.Resume) = Unit {0}

-- a row of the monarch's
pub released_monarch : (p : Platform) (s : State) (l : Label) (a : Access) (v : ℕ) → Sound p → IsStood p s → Ordered (count_of p) s.monarch → AtMonarch p s l → want_at (layout_of p) (seat p s 0) s.monarch l ≡ Some (want.Do a)
    → Released p s.monarch s.writes → Released p (next_at (layout_of p) (seat p s 0) s.monarch l v).monarch (access_effect p 0 true a s).writes
released_monarch p s l a v sound stood ordered here wants h slot some small e = by_kept (kept_row (layout_of p) (seat p s 0) s.monarch l v slot here.part here.label some e)
  where
    x : ℕ
    x = release_byte (layout_of p) slot

    bytes : (l ≡ E6 → x ≢ release_byte (layout_of p) s.monarch.slot) → Leaves x s.writes (access_effect p 0 true a s).writes
    bytes other =
        subst (Bytes p 0 s x) wants
        (row_bytes p 0 s (seat p s 0) s.monarch x l sound (from_1000 (tseg p) slot) (to_2000 (tseg p) slot small) (λ e. absurd (let both : Monarchs ≡ Relocated = sym here.part ∙ e in cc)) other)

    not_next : is_kept_in s.monarch slot ≡ true → l ≡ E6 → x ≢ release_byte (layout_of p) s.monarch.slot
    not_next kept is same =
        let label : s.monarch.label ≡ E6 = here.label ∙ is in
        let less = ordered.looking (rw label refl) in
        let n = unbound (length s.monarch.slots.bound) slot (is_among s.monarch.label (S1 ∷ [])) (nat_lt slot s.monarch.slot) (is_among s.monarch.label (S2 ∷ []) || is_after_broadcast s.monarch.label) kept (rw label refl) (rw label refl) in
        past (tseg p) (length s.monarch.slots.bound) slot s.monarch.slot n less same
      where
        past : (base n slot j : ℕ) → nat_le n slot ≡ true → j < n → base + 0x1000 + slot ≡ base + 0x1000 + j → ⊥
        past base n slot j e f g = grind (arith, nat_tests)

    by_kept : (is_kept_in s.monarch slot ≡ true) ⊎ ((l ≡ S1) × (slot ≡ s.monarch.slot)) → byte_at (access_effect p 0 true a s).writes x ≡ 0
    by_kept (inl kept) = elim (bytes (not_next kept)) [ inl same ↦ same ∙ h slot some small kept | inr is_0 ↦ is_0 ]
    by_kept (inr cleared) =
        let room : release_byte (layout_of p) s.monarch.slot + 1 ≤ s.locks.low_memory = let same = stood.locks.low_memory in let top = sound.top in let more = sound.room in let is = cleared.1 in omega (arith, same, top, more, is, small) in
        let is_0 : Zeroes p s (release_byte (layout_of p) s.monarch.slot) (want_at (layout_of p) (seat p s 0) s.monarch S1) = zero_here s.locks (release_byte (layout_of p) s.monarch.slot) s.writes (in_reach 1 (release_byte (layout_of p) s.monarch.slot) s.locks room) in
        subst (Zeroes p s x) wants
        (subst (λ m. Zeroes p s x (want_at (layout_of p) (seat p s 0) s.monarch m)) (sym cleared.0)
        (subst (λ i. Zeroes p s (release_byte (layout_of p) i) (want_at (layout_of p) (seat p s 0) s.monarch S1)) (sym cleared.1) is_0))

-- another handler's row
pub slot_small : (p : Platform) (k b : ℕ) → Sound p → runs_at (layout_of p) Relocated k b ≡ true → slot_at (layout_of p) b < 0x1000
slot_small p k b sound e =
    let few = sound.few in
    let tiled = (and_parts (not (slot_at (layout_of p) b == 0)) (is_tile (layout_of p) b) (and_parts (not (k == 0)) _ e).1).1 in
    let less = ltb-true (slot_at (layout_of p) b) (count_of p) (and_parts (nat_lt (slot_at (layout_of p) b) (count_of p)) (b == tile_in (layout_of p) (slot_at (layout_of p) b)) tiled).0 in
    omega (arith, few, less)

pub released_other : (p : Platform) (s : State) (k : ℕ) (l : Label) (a : Access) → Sound p → AtOther p s k l → want_at (layout_of p) (seat p s k) s.monarch l ≡ Some (want.Do a)
    → Released p s.monarch s.writes → Released p s.monarch (access_effect p k true a s).writes
released_other p s k l a sound here wants h slot some small e =
    let x = release_byte (layout_of p) slot in
    let bytes : Leaves x s.writes (access_effect p k true a s).writes =
    subst (Bytes p k s x) wants
    (row_bytes p k s (seat p s k) s.monarch x l sound (from_1000 (tseg p) slot) (to_2000 (tseg p) slot small)
    (λ f. slot_small p k (at s k).smbase sound (subst (λ q. runs_at (layout_of p) q k (at s k).smbase ≡ true) f here.runs)) (λ f. absurd (here.part (ap handler_of f)))) in
    elim bytes [ inl same ↦ same ∙ h slot some small e | inr is_0 ↦ is_0 ]

-- an access from outside SMM
pub released_outside : (p : Platform) (s : State) (k : ℕ) (a : Access) → Sound p → IsStood p s → Released p s.monarch s.writes → Released p s.monarch (access_effect p k false a s).writes
released_outside p s k a sound stood h slot some small e =
    let locked = tseg_locked p s.locks (release_byte (layout_of p) slot) sound stood.locks (inside (tseg p) p.low_memory (0x100000 * p.tseg_mib) slot (0x10000 * count_of p) sound.top sound.room small) in
    (left_acted p k a s (release_byte (layout_of p) slot) locked).byte ∙ h slot some small e
  where
    inside : (base top size slot n : ℕ) → top ≡ base + size → n + 0x20000 ≤ size → slot < 0x1000 → (nat_le base (base + 0x1000 + slot) && nat_lt (base + 0x1000 + slot) top) ≡ true
    inside base top size slot n is room small = grind (arith, nat_tests)

-- SMI entry
kept_begun : (r : Monarch) (slot : ℕ) → is_kept_in (restarted r) slot ≡ true → is_kept_in r slot ≡ true
kept_begun r slot e = or_left (nat_le (length r.slots.bound) slot) _ (first (nat_le (length r.slots.bound) slot) e)
  where
    first : (a : Bool) → (a || (false || (false || false))) ≡ true → a ≡ true
    first true e = refl
    first false e = absurd cc

pub released_enters : (p : Platform) (s : State) (k : ℕ) → Sound p → IsStood p s → (at s k).present ≡ true → Released p s.monarch s.writes → Released p (with_session k (enter_smm k s)).monarch (with_session k (enter_smm k s)).writes
released_enters p s k sound stood present h =
    pick (λ (t : State). Released p t.monarch t.writes) (k == 0) (record (enter_smm k s) { monarch = restarted s.monarch }) (enter_smm k s)
    (λ slot some small e. left slot small ∙ h slot some small (kept_begun s.monarch slot e)) (λ slot some small e. left slot small ∙ h slot some small e)
  where
    base : Base p (at s k).smbase
    base = base_based p k (at s k).smbase sound (stood.based k present)

    apart : (b t m n : ℕ) → b ≡ 0x10000 * m → t ≡ 0x10000 * n → 0x800000 ≤ t → (b ≡ 0x30000) ⊎ (t + 0x20000 ≤ b) → m ≡ n → ⊥
    apart b t m n e f g (inl i) same = omega (arith, e, f, g, i, same)
    apart b t m n e f g (inr i) same = omega (arith, e, f, g, i, same)

    left : (slot : ℕ) → slot < 0x1000 → byte_at (enter_smm k s).writes (release_byte (layout_of p) slot) ≡ byte_at s.writes (release_byte (layout_of p) slot)
    left slot small =
        let whole = sound.whole in
        (left_other s.locks (at s k) s.writes (release_byte (layout_of p) slot) base.unit sound.unit base.whole (apart (at s k).smbase (tseg p) base.unit sound.unit base.whole sound.whole sound.above base.area)
        (omega (arith, whole)) (omega (arith, whole, small))).byte

-- an outcome is told
pub released_told : (p : Platform) (q : Seat) (r : Monarch) (v : ℕ) (ws : List Write) → r.label ≡ T → Released p r ws → Released p (next_at (layout_of p) q r T v).monarch ws
released_told p q r v ws is h slot some small e = h slot some small (kept_called r slot (rw is refl))
