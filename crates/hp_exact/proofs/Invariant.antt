-- What each state of a run keeps after the hand-over beside what the law of locked memory keeps, part by part: for sessions that are quiet and reports that are true.
use Rattle.std.specs.Prelude.{ℕ, ◌≡◌, ◌≢◌, ◌<◌, ◌≤◌, ◌==◌, Bool, true, false, not, ◌&&◌, ◌||◌, nat_lt, nat_le, List, [], ◌∷◌, length, drop, bit_and, Option, Some, None}
use Rattle.std.specs.List.{list_all}
use Rattle.hp_model.specs.declared.platforms.Platform.{Platform}
use Rattle.hp_model.specs.declared.processors.Cpu.{Cpu}
use Rattle.hp_model.specs.declared.labels.Label.{Label}
use Rattle.hp_model.specs.declared.labels.Label.TheVariants.{F6, R4, R5, S0, S1, S2, S3, S4, C1, C2, C3, C4, C5, C6, N4, N5, N6, E4b, E6, T}
use Rattle.hp_model.specs.Platform.{count_of, is_late}
use Rattle.hp_model.specs.Memory.{Write, byte_at}
use Rattle.hp_model.specs.Cpu.{is_waiting, is_outside, smm_address, cpu_at}
use Rattle.hp_model.specs.Block.{Block, slot_at}
use Rattle.hp_model.specs.SharedBytes.{layout_of, release_byte}
use Rattle.hp_model.specs.declared.reports.Report.{Report}
use Rattle.hp_model.specs.Monarch.{Monarch, is_own}
use Rattle.hp_model.specs.Handlers.{address_of_label}
use Rattle.hp_model.specs.State.{State}
use Rattle.hp_model.specs.Step.{is_after_broadcast}
use Rattle.hp_model.specs.Runs.{same_address}
use Rattle.hp_model.specs.Transitions.{Transition, entries_of, newest}
use Rattle.hp_model.specs.Account.{is_at}
use Rattle.hp_model.specs.Exact.{rises, has_status}
use Rattle.hp_exact.proofs.Account.{Account, account}
use Rattle.hp_exact.proofs.Monarchs.{is_among, adding, ejecting}

abbrev pub collecting : List Label
collecting = C1 ∷ C2 ∷ C3 ∷ C4 ∷ C5 ∷ C6 ∷ []

-- the monarch has the session's reports
abbrev pub is_reporting : Label → Bool
is_reporting l = is_among l collecting || (is_among l adding || (is_among l ejecting || is_among l (T ∷ [])))

-- Always, and of the monarch's record alone: the slot that it looks at is a bound one, and reports rise, up to the processor that is looked at, which is a
-- possible one
pub record Ordered (count : ℕ) (r : Monarch) : Type 0 where
  pub looking : is_among r.label (S1 ∷ E6 ∷ []) ≡ true → r.slot < length r.slots.bound
  pub rising : rises r.collection.reports ≡ true
  pub below : is_among r.label collecting ≡ true → list_all (λ t. nat_lt t.cpu r.collection.cpu) r.collection.reports ≡ true
  pub possible : is_among r.label collecting ≡ true → r.collection.cpu < count

-- Always: what the running session's entries tell is what the monarch's record says
pub record Tied (a : Account) (r : Monarch) (disturbed : Bool) : Type 0 where
  pub early : is_among r.label (S0 ∷ S1 ∷ S2 ∷ []) ≡ true → (a.sent ≡ false) × (a.closed ≡ false) × (a.disturbed ≡ false)
  pub called : is_after_broadcast r.label ≡ true → (a.sent ≡ true) × (a.closed ≡ false) × (a.disturbed ≡ disturbed)
  pub left : is_after_broadcast r.label ≡ false → (a.sent && not a.closed) ≡ false
  pub none : is_among r.label (S0 ∷ S1 ∷ S2 ∷ S3 ∷ S4 ∷ []) ≡ true → a.reports ≡ []
  pub reports : is_reporting r.label ≡ true → a.reports ≡ r.collection.reports
  pub found : is_among r.label (C4 ∷ C5 ∷ C6 ∷ []) ≡ true → a.cpu ≡ r.collection.cpu
  pub judged : is_among r.label (C5 ∷ C6 ∷ []) ≡ true → a.status ≡ r.collection.status

-- Always: a slot's processor isn't let go while others are called in: its release byte is 0. At S1 it is so of the slots done, and of those not bound yet always
abbrev pub is_kept_in : Monarch → ℕ → Bool
is_kept_in r slot = nat_le (length r.slots.bound) slot || (is_among r.label (S1 ∷ []) && nat_lt slot r.slot || (is_among r.label (S2 ∷ []) || is_after_broadcast r.label))

abbrev pub Released : Platform → Monarch → List Write → Type 0
Released p r ws = (slot : ℕ) → 1 ≤ slot → slot < 0x1000 → is_kept_in r slot ≡ true → byte_at ws (release_byte (layout_of p) slot) ≡ 0

-- who must have its SMI latch set: at F6 everybody; and while others are called in each other processor outside SMM, if it doesn't wait, and at R4 and R5
abbrev pub is_at_label : Label → Cpu → Bool
is_at_label l c = same_address (smm_address c) (Some (address_of_label c.smbase l))

abbrev pub is_default : Cpu → Bool
is_default c = c.smbase == 0x30000

abbrev pub is_leaving : Cpu → Bool
is_leaving c = (c.present && is_outside c.mode) || (not (is_default c) && (is_at_label R4 c || is_at_label R5 c))

abbrev pub must_latch : Bool → ℕ → Cpu → Bool
must_latch called k c = (is_default c && is_at_label F6 c) || (called && (not (k == 0) && is_leaving c))

abbrev pub Latched : Bool → List Cpu → Type 0
Latched called cs = (k : ℕ) → must_latch called k (cpu_at cs k) ≡ true → (cpu_at cs k).smi ≡ true

-- under prompt delivery others are called in from S2 to E5
abbrev pub is_calling : Platform → Monarch → Bool
is_calling p r = not (is_late p.delivery) && is_after_broadcast r.label

-- Always: the register block is modern, has a slot for each possible processor, with its APIC ID, and processor 0 has neither an insert event nor a firmware
-- eject; enabled is presence
pub record Agrees (p : Platform) (b : Block) (cs : List Cpu) : Type 0 where
  pub apic : b.apic ≡ p.apic
  pub slots : length b.slots ≡ count_of p
  pub cpus : length cs ≡ count_of p
  pub inserting : (slot_at b 0).inserting ≡ false
  pub ejecting : (slot_at b 0).ejecting ≡ false
  pub enabled : (k : ℕ) → (slot_at b k).enabled ≡ (cpu_at cs k).present

-- While the session is undisturbed: the selector and the command are what the monarch's last rows wrote
pub record Chosen (count : ℕ) (b : Block) (r : Monarch) : Type 0 where
  pub selected : is_among r.label (C2 ∷ C4 ∷ C5 ∷ C6 ∷ []) ≡ true → b.selector ≡ r.collection.cpu
  pub searched : is_among r.label (C3 ∷ []) ≡ true → (b.command ≡ 0) × (b.selector < count)
  pub asked : is_among r.label (C6 ∷ []) ≡ true → b.command ≡ 3
  pub handed : is_among r.label (E4b ∷ []) ≡ true → b.selector ≡ r.eject.cpu

-- a report with bit 0 set names a present processor
abbrev pub is_there : List Cpu → Report → Bool
is_there cs t = not (bit_and t.status 1 == 1) || (cpu_at cs t.cpu).present

-- While the session is undisturbed: each report has its processor's APIC ID, and isn't of processor 0; those not answered yet that tell so name present
-- processors, and so does the running add; the running eject's processor isn't one of theirs
pub record Reported (p : Platform) (cs : List Cpu) (r : Monarch) : Type 0 where
  pub own : is_reporting r.label ≡ true → list_all (is_own p.apic) r.collection.reports ≡ true
  pub there : is_reporting r.label ≡ true → list_all (is_there cs) (drop r.taken r.collection.reports) ≡ true
  pub other : is_among r.label (C5 ∷ C6 ∷ []) ≡ true → r.collection.cpu ≢ 0
  pub next : is_among r.label (C5 ∷ C6 ∷ []) ≡ true → bit_and r.collection.status 1 ≡ 1 → (cpu_at cs r.collection.cpu).present ≡ true
  pub added : is_among r.label adding ≡ true → is_own p.apic (record { cpu = r.add.cpu; status = 0; apic = r.add.apic }) ≡ true
  pub adds : is_among r.label adding ≡ true → (cpu_at cs r.add.cpu).present ≡ true
  pub possible : is_among r.label ejecting ≡ true → r.eject.cpu < count_of p
  pub ejects : is_among r.label ejecting ≡ true → list_all (λ t. nat_lt r.eject.cpu t.cpu) (drop r.taken r.collection.reports) ≡ true

-- and the status that was read last was its processor's, before the last entry at C4
abbrev pub last_read : Platform → List Transition → Option Transition
last_read p past = newest (λ x. is_at p C4 x.entry) past

abbrev pub IsRead : Option Transition → Monarch → Type 0
IsRead o r = is_among r.label (C5 ∷ C6 ∷ []) ≡ true → has_status (record { cpu = r.collection.cpu; status = r.collection.status; apic = 0 }) o ≡ true

pub record Undisturbed (p : Platform) (b : Block) (cs : List Cpu) (o : Option Transition) (r : Monarch) : Type 0 where
  pub chosen : Chosen (count_of p) b r
  pub reported : Reported p cs r
  pub read : IsRead o r

-- Under prompt delivery: the running add's processor has its SMI latch set at N4 to N6 if it waits, so that SIPI doesn't let it run outside SMM
abbrev pub Wakes : Monarch → List Cpu → Type 0
Wakes r cs = is_among r.label (N4 ∷ N5 ∷ N6 ∷ []) ≡ true → is_waiting (cpu_at cs r.add.cpu).mode ≡ true → (cpu_at cs r.add.cpu).smi ≡ true

-- All parts, of what the running session's entries tell, the last entry at C4, and the state: its register block, processors, memory, monarch's record and flag.
-- Processor 0 is outside SMM only between sessions, and under prompt delivery no session is disturbed
pub record Parts (p : Platform) (a : Account) (o : Option Transition) (b : Block) (cs : List Cpu) (ws : List Write) (r : Monarch) (disturbed : Bool) : Type 0 where
  pub rests : smm_address (cpu_at cs 0) ≡ None → is_after_broadcast r.label ≡ false
  pub ordered : Ordered (count_of p) r
  pub tied : Tied a r disturbed
  pub modern : b.modern ≡ true
  pub agrees : Agrees p b cs
  pub released : Released p r ws
  pub latched : Latched (is_calling p r) cs
  pub calm : is_calling p r ≡ true → disturbed ≡ false
  pub undisturbed : is_after_broadcast r.label ≡ true → disturbed ≡ false → Undisturbed p b cs o r
  pub wakes : is_late p.delivery ≡ false → Wakes r cs

abbrev pub Invariant : Platform → List Transition → State → Type 0
Invariant p past s = Parts p (account p (entries_of past)) (last_read p past) s.block s.cpus s.writes s.monarch s.disturbed
