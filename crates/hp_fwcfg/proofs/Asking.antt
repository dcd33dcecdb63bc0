-- What a descriptor may ask for.
use Rattle.std.proofs.Common.{◌≡◌, ℕ, Bool, true, false, ◌&&◌, ◌<◌, length, cond, refl, arith, length-append, length-take}
use Rattle.std.proofs.lemmas.Bool.Decides.{nat_tests}
use Rattle.std.proofs.lemmas.Grind.{common_steps}
use Rattle.std.proofs.lemmas.List.{length-replicate}
use Rattle.hp_model.specs.FwCfg.{FwCfg, selected, next_bytes}
use Rattle.hp_model.specs.Transfers.{Descriptor, key_of, reads, writes, skips, selects, is_short, is_near, is_writable, failed, Asked, refused, ask, ask_move, ask_read, ask_write, ask_skip}
use Rattle.hp_fwcfg.specs.Moves.{is_moving, IsWithin}

-- what holds of both choices
pub either : (P : Asked → Type 0) (b : Bool) (x y : Asked) → (b ≡ true → P x) → P y → P (cond b x y)
either P true x y if_true if_false = if_true refl
either P false x y if_true if_false = if_false

-- a failed move left the device as it was when the move began
pub unmoved : (d : Descriptor) (f : FwCfg) → (ask_move d f).move ≡ failed → (ask_move d f).fw_cfg ≡ f
unmoved d f h = grind (arith, nat_tests, common_steps)

pub kept_by_failure : (d : Descriptor) (f : FwCfg) → (ask d f).move ≡ failed →
    (ask d f).fw_cfg ≡ cond (selects d) (selected (key_of d) f) f
kept_by_failure d f h = unmoved d (cond (selects d) (selected (key_of d) f) f) h

pub long_fails : (d : Descriptor) (f : FwCfg) → 256 < d.size → is_moving d ≡ true → (ask d f).move ≡ failed
long_fails d f long moving = grind (arith, nat_tests, common_steps)

length-next_bytes : (n : ℕ) (f : FwCfg) → length (next_bytes n f) ≡ n
length-next_bytes n f = simp (length-take, length-append, length-replicate) (omega arith)

-- a move is within the limits
abbrev IsFine : Asked → Type 0
IsFine a = IsWithin a.move

IsFine-ask_read : (d : Descriptor) (f : FwCfg) → IsFine (ask_read d f)
IsFine-ask_read d f =
    either IsFine (is_short d && is_near d) _ (refused f)
    (λ h. (grind (arith, nat_tests, common_steps), rw (length-next_bytes d.size f) (grind (arith, nat_tests, common_steps)))) tt

IsFine-ask_write : (d : Descriptor) (f : FwCfg) → IsFine (ask_write d f)
IsFine-ask_write d f =
    either IsFine ((is_short d && is_near d) && is_writable d f) _ (refused f)
    (λ h. (grind (arith, nat_tests, common_steps), grind (arith, nat_tests, common_steps))) tt

IsFine-ask_skip : (d : Descriptor) (f : FwCfg) → IsFine (ask_skip d f)
IsFine-ask_skip d f = either IsFine (is_short d) _ (refused f) (λ _. tt) tt

pub within : (d : Descriptor) (f : FwCfg) → IsWithin (ask d f).move
within d f =
    let g = cond (selects d) (selected (key_of d) f) f in
    either IsFine (reads d) (ask_read d g) _ (λ _. IsFine-ask_read d g)
    (either IsFine (writes d) (ask_write d g) _ (λ _. IsFine-ask_write d g)
    (either IsFine (skips d) (ask_skip d g) _ (λ _. IsFine-ask_skip d g) tt))

pub ruleset limits = (within, long_fails)
