-- Accesses, refusals and outcomes that are found the same are one.
use Rattle.std.proofs.Common.{◌≡◌, true, refl, ap, arith}
use Rattle.std.proofs.lemmas.Bool.Decides.{nat_tests}
use Rattle.hp_model.specs.declared.accesses.Access.{Access}
use Rattle.hp_model.specs.declared.accesses.Access.TheVariants.{Load, Store, Swap, In, Out, CfgRead, CfgWrite, Icr, Halt, Nop}
use Rattle.hp_model.specs.declared.outcomes.Outcome.{Outcome}
use Rattle.hp_model.specs.declared.outcomes.Outcome.TheVariants as outcome
use Rattle.hp_model.specs.declared.outcomes.Refusal.{Refusal}
use Rattle.hp_model.specs.declared.outcomes.Refusal.TheVariants as refusal
use Rattle.hp_model.specs.Access.{same_access}
use Rattle.hp_model.specs.Firmware.{same_refusal, same_outcome}

pub same_access-refl : (a : Access) → same_access a a ≡ true
unfolding same_access
same_access-refl Halt = refl
same_access-refl _ = grind (arith, nat_tests)

same_refusal-refl : (w : Refusal) → same_refusal w w ≡ true
unfolding same_refusal
same_refusal-refl (refusal.Both cpu status) = grind (arith, nat_tests)
same_refusal-refl _ = grind (arith, nat_tests)

pub same_outcome-refl : (o : Outcome) → same_outcome o o ≡ true
unfolding same_outcome
same_outcome-refl (outcome.Refused why) = same_refusal-refl why
same_outcome-refl _ = grind (arith, nat_tests)

pub same_access-equal : (a b : Access) → same_access a b ≡ true → a ≡ b
unfolding same_access
same_access-equal (Load addr width) (Load at wide) e = grind (arith, nat_tests)
same_access-equal (Store addr width value) (Store at wide other) e = grind (arith, nat_tests)
same_access-equal (Swap addr expected desired) (Swap at seen other) e = grind (arith, nat_tests)
same_access-equal (In port width) (In at wide) e = grind (arith, nat_tests)
same_access-equal (Out port width value) (Out at wide other) e = grind (arith, nat_tests)
same_access-equal (CfgRead reg) (CfgRead at) e = grind (arith, nat_tests)
same_access-equal (CfgWrite reg value) (CfgWrite at other) e = grind (arith, nat_tests)
same_access-equal (Icr high low) (Icr up down) e = grind (arith, nat_tests)
same_access-equal Halt Halt e = refl
same_access-equal Nop Nop e = refl
same_access-equal _ _ e = absurd cc

same_refusal-equal : (v w : Refusal) → same_refusal v w ≡ true → v ≡ w
unfolding same_refusal
same_refusal-equal (refusal.Disabled cpu status) (refusal.Disabled k t) e = grind (arith, nat_tests)
same_refusal-equal (refusal.Both cpu status) (refusal.Both k t) e = grind (arith, nat_tests)
same_refusal-equal (refusal.AlreadyKnown cpu apic slot) (refusal.AlreadyKnown k a t) e = grind (arith, nat_tests)
same_refusal-equal (refusal.GateHeld cpu apic held) (refusal.GateHeld k a h) e = grind (arith, nat_tests)
same_refusal-equal (refusal.NotAtGate cpu apic) (refusal.NotAtGate k a) e = grind (arith, nat_tests)
same_refusal-equal (refusal.NotCheckedIn cpu apic) (refusal.NotCheckedIn k a) e = grind (arith, nat_tests)
same_refusal-equal (refusal.NoUnplug cpu features) (refusal.NoUnplug k f) e = grind (arith, nat_tests)
same_refusal-equal (refusal.NotKnown cpu apic) (refusal.NotKnown k a) e = grind (arith, nat_tests)
same_refusal-equal (refusal.NotArrived cpu apic) (refusal.NotArrived k a) e = grind (arith, nat_tests)
same_refusal-equal (refusal.NotParked cpu apic) (refusal.NotParked k a) e = grind (arith, nat_tests)
same_refusal-equal (refusal.Foreign cpu apic) (refusal.Foreign k a) e = grind (arith, nat_tests)
same_refusal-equal (refusal.StillPending cpu status) (refusal.StillPending k t) e = grind (arith, nat_tests)
same_refusal-equal _ _ e = absurd cc

pub same_outcome-equal : (a b : Outcome) → same_outcome a b ≡ true → a ≡ b
unfolding same_outcome
same_outcome-equal (outcome.Added cpu apic slot) (outcome.Added k a t) e = grind (arith, nat_tests)
same_outcome-equal (outcome.Ejected cpu apic slot) (outcome.Ejected k a t) e = grind (arith, nat_tests)
same_outcome-equal (outcome.Refused why) (outcome.Refused other) e = ap (λ (w : Refusal). outcome.Refused w) (same_refusal-equal why other e)
same_outcome-equal _ _ e = absurd cc
