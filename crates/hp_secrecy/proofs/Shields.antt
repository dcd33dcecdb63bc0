-- Each state of each run is shielded from the hand-over on: what the handlers' invariant gives.
use Rattle.std.proofs.Common.{ℕ, ◌≡◌, ◌+◌, ◌-◌, ◌*◌, ◌/◌, ◌≤◌, ◌⊎◌, inl, inr, ◌==◌, Bool, true, false, cond, not, ◌&&◌, ◌||◌, nat_lt, List, Some, refl, sym, ap, subst, ◌∙◌, arith}
use Rattle.std.proofs.lemmas.Bool.{and_parts, eqb-true}
use Rattle.std.proofs.lemmas.Bool.Decides.{nat_tests}
use Rattle.hp_model.specs.declared.platforms.Platform.{Platform}
use Rattle.hp_model.specs.declared.entries.Entry.{Entry}
use Rattle.hp_model.specs.Platform.{IsFit, count_of, tseg, tile}
use Rattle.hp_model.specs.View.{Locks, tseg_size}
use Rattle.hp_model.specs.Boot.{tseg_enabled, is_handed}
use Rattle.hp_model.specs.SharedBytes.{layout_of}
use Rattle.hp_model.specs.Handlers.{slot_at, is_tile}
use Rattle.hp_model.specs.State.{State, at, start}
use Rattle.hp_model.specs.Runs.{run, run_from}
use Rattle.hp_sealed.specs.Left.{Sound, Locked}
use Rattle.hp_sealed.specs.Sealed.{is_other_tile, is_based}
use Rattle.hp_sealed.proofs.Starts.{sound, starts}
use Rattle.hp_safety.proofs.Runs.{IsHanded, IsGood, runs_go}
use Rattle.hp_secrecy.specs.Shielded.{is_base, IsShielded, IsAlwaysShielded}

-- TSEG has the platform's size
size_locked : (p : Platform) (l : Locks) → Sound p → Locked p l → tseg_size l.ext_tseg l.esmramc ≡ p.tseg_mib
size_locked p l fit h = by_size fit.size
  where
    by_size : (p.tseg_mib ≡ 1) ⊎ ((p.tseg_mib ≡ 2) ⊎ ((p.tseg_mib ≡ 8) ⊎ (p.tseg_mib ≡ 48))) → tseg_size l.ext_tseg l.esmramc ≡ p.tseg_mib
    by_size (inl e) = rw (h.esmramc, e) refl
    by_size (inr (inl e)) = rw (h.esmramc, e) refl
    by_size (inr (inr (inl e))) = rw (h.esmramc, e) refl
    by_size (inr (inr (inr e))) = rw (h.esmramc, e) (h.ext_tseg e)

-- where a processor may be based is the default SMBASE or a tile
of_zero : (p : Platform) → slot_at (layout_of p) (tile p 0) ≡ 0
of_zero p = of_sum (tseg p)
  where
    of_sum : (base : ℕ) → (base + 0x20000 + 0 * 0x10000 - (base + 0x20000 + 0 * 0x10000)) / 0x10000 ≡ 0
    of_sum base = omega arith

base_of : (p : Platform) (k b : ℕ) → Sound p → is_based p k b ≡ true → is_base (layout_of p) b ≡ true
base_of p k b fit e = by_place (k == 0) e
  where
    or_right : (x y : Bool) → y ≡ true → (x || y) ≡ true
    or_right true y f = refl
    or_right false y f = f

    some : (n : ℕ) → 1 ≤ n → nat_lt 0 n ≡ true
    some n h = grind (arith, nat_tests)

    itself : (n : ℕ) → (n == n) ≡ true
    itself n = grind (arith, nat_tests)

    first : is_tile (layout_of p) (tile p 0) ≡ true
    first = let zero_is = of_zero p in rw (zero_is, some (count_of p) fit.some, itself (tile p 0)) refl

    by_other : (x y z : Bool) → (x || (y && z)) ≡ true → (x || z) ≡ true
    by_other true y z f = refl
    by_other false true z f = f
    by_other false false z f = absurd cc

    by_place : (c : Bool) → cond c (b == tile p 0) ((b == 0x30000) || is_other_tile (layout_of p) b) ≡ true → is_base (layout_of p) b ≡ true
    by_place true f = or_right (b == 0x30000) (is_tile (layout_of p) b) (subst (λ x. is_tile (layout_of p) x ≡ true) (sym (eqb-true b (tile p 0) f)) first)
    by_place false f = by_other (b == 0x30000) (not (slot_at (layout_of p) b == 0)) (is_tile (layout_of p) b) f

handed_shielded : (p : Platform) (s : State) → Sound p → IsHanded p s → IsShielded p s
handed_shielded p s fit h =
    let l = h.locked.registers in
    record {
      handed = h.handed;
      f_smbase = l.f_smbase;
      smram = l.smram;
      size = size_locked p s.locks fit l;
      low_memory = l.low_memory;
      based = λ k present. base_of p k (at s k).smbase fit (h.slots.based k present);
    }

good_shielded : (p : Platform) (s : State) → Sound p → IsGood p s → is_handed s.stage ≡ true → IsShielded p s
good_shielded p s fit (inl h) handed = let both : true ≡ false = sym handed ∙ ap is_handed h.stage in absurd cc
good_shielded p s fit (inr (inl h)) handed = let both : true ≡ false = sym handed ∙ ap is_handed h.stage in absurd cc
good_shielded p s fit (inr (inr h)) handed = handed_shielded p s fit h

pub always_shielded : (p : Platform) → IsFit p → IsAlwaysShielded p
unfolding run
always_shielded p fits es s is handed = let fit = sound p fits in good_shielded p s fit (runs_go p (start p) s es fit (inl (starts p fits)) is).0 handed
