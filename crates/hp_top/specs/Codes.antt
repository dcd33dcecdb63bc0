-- The exit status of each answer of the top call (own rule).
use Rattle.std.specs.Prelude.{ℕ}
use Rattle.hp_top.specs.declared.statuses.Status.{Status}
use Rattle.hp_top.specs.declared.statuses.Status.TheVariants.{Done, BadWords, ReadFault, TooLong, NotToml, Rule, BootRefused, WriteFault, TraceRefused, NoMemory}

abbrev pub code_of : Status → ℕ
code_of Done = 0
code_of BadWords = 2
code_of ReadFault = 3
code_of TooLong = 4
code_of NotToml = 5
code_of (Rule rule) = 6
code_of (BootRefused fact) = 7
code_of WriteFault = 8
code_of (TraceRefused line why) = 9
code_of NoMemory = 10
