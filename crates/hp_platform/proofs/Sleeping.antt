-- A processor that sleeps has no step.
use Rattle.std.proofs.Common.{◌≡◌, ℕ, Bool, true, false, refl, sym, ap, subst, ◌∙◌}
use Rattle.std.specs.Prelude.{if◌then◌else◌, ◌&&◌, not}
use Rattle.hp_model.specs.declared.platforms.Platform.{Platform}
use Rattle.hp_model.specs.declared.processors.Cpu.{Cpu}
use Rattle.hp_model.specs.declared.processors.Mode.{Mode}
use Rattle.hp_model.specs.declared.processors.Mode.TheVariants.{Wait, Running, Halted, Smm}
use Rattle.hp_model.specs.declared.turns.Due.{Due}
use Rattle.hp_model.specs.declared.turns.Due.TheVariants.{Idle, Makes, Asks}
use Rattle.hp_model.specs.Access.{stands_in_smm}
use Rattle.hp_model.specs.Cpu.{is_free, may_take_init, may_take_smi}
use Rattle.hp_model.specs.State.{State, at}
use Rattle.hp_model.specs.Turn.{cpu_due}
use Rattle.hp_platform.specs.Board.{is_asleep}

-- what is due of a processor, by what may be
abbrev chosen : Bool → Cpu → Due → Due → Due → Due → Due
chosen late c smi init smm asks =
    if not late && may_take_smi c then smi
    else if may_take_init c then init
    else if stands_in_smm c then smm
    else if is_free late c then asks
    else Idle

none_chosen : (late present smi init : Bool) (mode : Mode) (smbase base : ℕ) (a b c d : Due) →
    is_asleep (record { present = present; mode = mode; smbase = smbase; smi = smi; init = init; base = base }) ≡ true →
    chosen late (record { present = present; mode = mode; smbase = smbase; smi = smi; init = init; base = base }) a b c d ≡ Idle
none_chosen true false smi init mode smbase base a b c d h = refl
none_chosen false false smi init mode smbase base a b c d h = refl
none_chosen late true smi init (Running page) smbase base a b c d h = absurd cc
none_chosen late true smi init (Smm address) smbase base a b c d h = absurd cc
none_chosen late true true init (Halted page) smbase base a b c d h = absurd cc
none_chosen late true false true (Halted page) smbase base a b c d h = absurd cc
none_chosen true true false false (Halted page) smbase base a b c d h = refl
none_chosen false true false false (Halted page) smbase base a b c d h = refl
none_chosen true true true init Wait smbase base a b c d h = refl
none_chosen false true true init Wait smbase base a b c d h = refl
none_chosen true true false true Wait smbase base a b c d h = refl
none_chosen false true false true Wait smbase base a b c d h = refl
none_chosen true true false false Wait smbase base a b c d h = refl
none_chosen false true false false Wait smbase base a b c d h = refl

pub asleep_idle : (p : Platform) (s : State) (k : ℕ) → is_asleep (at s k) ≡ true → cpu_due p s k ≡ Idle
asleep_idle p s k h = none_chosen _ (at s k).present (at s k).smi (at s k).init (at s k).mode (at s k).smbase (at s k).base _ _ _ _ h

pub ruleset asleep_facts = (asleep_idle)
