-- A processor in SMM and outside it, by its instruction address and by its mode; and one that its handler leads on.
use Rattle.std.proofs.Common.{ℕ, ◌≡◌, Bool, true, false, cond, List, [], ◌∷◌, slice_set, Some, None, refl, not, ◌&&◌}
use Rattle.std.proofs.lemmas.Bool.{and_parts}
use Rattle.hp_model.specs.declared.processors.Mode.{Mode}
use Rattle.hp_model.specs.declared.processors.Mode.TheVariants.{Wait, Running, Halted, Smm}
use Rattle.hp_model.specs.declared.processors.Cpu.{Cpu}
use Rattle.hp_model.specs.Cpu.{cpu_at, may_take_init, is_running, is_outside, is_in_smm, address_in, smm_address, moved}
use Rattle.hp_model.specs.Handlers.{Next, address_of_label}
use Rattle.hp_model.specs.Access.{stands_in_smm}
use Rattle.hp_model.specs.Firmware.{moved_in_smm}
use Rattle.hp_sealed.proofs.Left.{pick}
use Rattle.hp_exact.proofs.Hits.{Alike}

-- in SMM by address, and by mode
pub smm_there : (c : Cpu) (a : ℕ) → smm_address c ≡ Some a → (c.present ≡ true) × (is_in_smm c.mode ≡ true)
smm_there c a e = by_presence c.present c.mode e
  where
    by_mode : (m : Mode) → address_in m ≡ Some a → is_in_smm m ≡ true
    by_mode Wait f = absurd cc
    by_mode (Running g) f = absurd cc
    by_mode (Halted g) f = absurd cc
    by_mode (Smm x) f = refl

    by_presence : (b : Bool) (m : Mode) → (cond b (address_in m) None) ≡ Some a → (b ≡ true) × (is_in_smm m ≡ true)
    by_presence true m f = (refl, by_mode m f)
    by_presence false m f = absurd cc

pub stands_of : (c : Cpu) (a : ℕ) → smm_address c ≡ Some a → stands_in_smm c ≡ true
stands_of c a is = let both = smm_there c a is in rw (both.0, both.1) refl

pub none_outside : (c : Cpu) → is_in_smm c.mode ≡ false → smm_address c ≡ None
none_outside c out = by_presence c.present c.mode out
  where
    by_mode : (m : Mode) → is_in_smm m ≡ false → address_in m ≡ None
    by_mode Wait e = refl
    by_mode (Running g) e = refl
    by_mode (Halted g) e = refl
    by_mode (Smm x) e = absurd cc

    by_presence : (b : Bool) (m : Mode) → is_in_smm m ≡ false → cond b (address_in m) None ≡ None
    by_presence true m e = by_mode m e
    by_presence false m e = refl

pub outside_in : (m : Mode) → is_outside m ≡ true → is_in_smm m ≡ false
outside_in Wait e = absurd cc
outside_in (Running g) e = refl
outside_in (Halted g) e = refl
outside_in (Smm x) e = absurd cc

pub running_outside : (m : Mode) → is_running m ≡ true → is_outside m ≡ true
running_outside Wait e = absurd cc
running_outside (Running g) e = refl
running_outside (Halted g) e = absurd cc
running_outside (Smm x) e = absurd cc

-- so too whoever may take INIT; whoever may take an SMI: may_outside
pub init_outside : (c : Cpu) → may_take_init c ≡ true → smm_address c ≡ None
init_outside c may =
    let a = and_parts c.present (not c.smi && (c.init && is_outside c.mode)) may in
    let b = and_parts (not c.smi) (c.init && is_outside c.mode) a.1 in
    none_outside c (outside_in c.mode (and_parts c.init (is_outside c.mode) b.1).1)

pub present_go : (smbase : ℕ) (n : Next) (c : Cpu) → (moved_in_smm smbase n c).present ≡ c.present
present_go smbase n c = pick (λ (d : Cpu). d.present ≡ c.present) (stands_in_smm c) (moved (address_of_label smbase n.label) n.base c) c refl refl

-- the new item is at the first place
pub set_first : (cs : List Cpu) (d : Cpu) → (cpu_at cs 0).present ≡ true → cpu_at (slice_set cs 0 d) 0 ≡ d
set_first [] d e = absurd cc
set_first (c ∷ cs) d e = refl

pub address_alike : (c d : Cpu) → Alike c d → smm_address d ≡ smm_address c
address_alike c d a = rw (a.present, a.mode) refl
