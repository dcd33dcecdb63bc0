-- Words for entries of a trace, and for a trace with one entry changed.
use Rattle.std.specs.Prelude.{ℕ, ◌+◌, List, ◌∷◌, ◌++◌, take, drop, Some, None}
use Rattle.hp_model.specs.declared.accesses.Access.{Access}
use Rattle.hp_model.specs.declared.accesses.Access.TheVariants.{Swap}
use Rattle.hp_model.specs.declared.accesses.Answer.TheVariants.{Quiet, Value}
use Rattle.hp_model.specs.declared.entries.Event.TheVariants.{Insert, Remove, Do, TakeSmi, TakeInit, Resume, Tell}
use Rattle.hp_model.specs.declared.entries.Entry.{Entry}
use Rattle.hp_model.specs.declared.outcomes.Outcome.{Outcome}

-- an access outside SMM without an answer, and one with a value
abbrev pub does : ℕ → Access → Entry
does k a = record { event = Do k a; at = None; answer = Quiet }

abbrev pub reads : ℕ → Access → ℕ → Entry
reads k a value = record { event = Do k a; at = None; answer = Value value }

-- an access in SMM at an instruction address, likewise
abbrev pub does_at : ℕ → ℕ → Access → Entry
does_at k address a = record { event = Do k a; at = Some address; answer = Quiet }

abbrev pub reads_at : ℕ → ℕ → Access → ℕ → Entry
reads_at k address a value = record { event = Do k a; at = Some address; answer = Value value }

-- processor k, whose APIC ID is k, tries the gate in the first handler, and finds it closed
abbrev pub waits : ℕ → Entry
waits k = reads_at k 0x38000 (Swap 0x30000 k 0xffffffffffffffff) 0xffffffffffffffff

-- the monarch tells an outcome, at an instruction address
abbrev pub tells : ℕ → Outcome → Entry
tells address o = record { event = Tell o; at = Some address; answer = Quiet }

-- SMI entry, and RSM at an instruction address
abbrev pub takes_smi : ℕ → Entry
takes_smi k = record { event = TakeSmi k; at = None; answer = Quiet }

abbrev pub resumes : ℕ → ℕ → Entry
resumes k address = record { event = Resume k; at = Some address; answer = Quiet }

-- a host insert, a host's request of a removal, and the taking of INIT
abbrev pub inserts : ℕ → Entry
inserts k = record { event = Insert k; at = None; answer = Quiet }

abbrev pub requests_removal : ℕ → Entry
requests_removal k = record { event = Remove k; at = None; answer = Quiet }

abbrev pub takes_init : ℕ → Entry
takes_init k = record { event = TakeInit k; at = None; answer = Quiet }

-- the entries with another in the place of entry n (counted from 0), without entry n, and with one more before it
abbrev pub with_entry : ℕ → Entry → List Entry → List Entry
with_entry n e es = take n es ++ e ∷ drop (n + 1) es

abbrev pub without_entry : ℕ → List Entry → List Entry
without_entry n es = take n es ++ drop (n + 1) es

abbrev pub with_entry_before : ℕ → Entry → List Entry → List Entry
with_entry_before n e es = take n es ++ e ∷ drop n es
