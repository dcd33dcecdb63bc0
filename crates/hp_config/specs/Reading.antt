-- What a text is as a platform file (own rules): a file, or the number of the first rule that it breaks.
use Rattle.std.specs.Prelude.{◌≡◌, ℕ, not, List, Option, Some, None, Result, Ok, Err, if◌then◌else◌, option_map}
use Rattle.std.specs.Str.{IsUtf8}
use Rattle.toml.specs.Data.{Members}
use Rattle.toml.specs.Parse.{parse_document}
use Rattle.hp_model.specs.declared.platforms.Platform.{Platform}
use Rattle.hp_model.specs.declared.files.File.{File}
use Rattle.hp_model.specs.Platform.{count_of, first_broken}
use Rattle.hp_config.specs.declared.faults.ConfigFault.{ConfigFault}
use Rattle.hp_config.specs.declared.faults.ConfigFault.TheVariants as fault
use Rattle.hp_config.specs.declared.parts.Parts.{Parts}
use Rattle.hp_config.specs.Rules.{hosts_fit, stalls_fit, agents_fit, steps_fit}
use Rattle.hp_config.specs.Kinds.{kinds_of}
use Rattle.hp_config.specs.Shape.{parts_of}

pub data Reading : Type 0 where
  good : File → Reading
  broken : ℕ → Reading

-- the first of rules 2 to 11 that the platform breaks
unfoldable pub platform_fault : Platform → Option ℕ
platform_fault p = first_broken p

-- the first of rules 11 to 15 that fails, where rule 11 is that `delivery` names one
unfoldable pub later_fault : Parts → Option ℕ
later_fault parts =
    if not parts.machine.names_delivery then Some 11
    else if not (hosts_fit (count_of parts.machine.platform) parts.hosts) then Some 12
    else if not (stalls_fit (count_of parts.machine.platform) parts.stalls) then Some 13
    else if not (agents_fit (count_of parts.machine.platform) parts.agents) then Some 14
    else if not (steps_fit parts.agents) then Some 15
    else None

abbrev pub first_of : Option ℕ → Option ℕ → Option ℕ
first_of (Some rule) later = Some rule
first_of None later = later

-- the first of rules 2 to 15 that fails
abbrev pub fault_of : Parts → Option ℕ
fault_of parts = first_of (platform_fault parts.machine.platform) (later_fault parts)

-- the file of these parts
abbrev pub file_from : Parts → File
file_from parts = record {
  platform = parts.machine.platform;
  hosts = parts.hosts;
  stalls = parts.stalls;
  voices = kinds_of parts.agents parts.machine.platform.boot (count_of parts.machine.platform);
}

abbrev pub judged : Parts → Option ℕ → Reading
judged parts None = good (file_from parts)
judged parts (Some rule) = broken rule

abbrev pub reading_of : Option Parts → Reading
reading_of None = broken 1
reading_of (Some parts) = judged parts (fault_of parts)

-- what the tree of a TOML document is as a platform file
unfoldable pub file_of : Members → Reading
file_of ms = reading_of (parts_of ms)

-- what a text is as one, None where it is no TOML document
abbrev pub text_reading : List ℕ → Option Reading
text_reading text = option_map file_of (parse_document text)

-- the answer tells this reading, or want of memory
abbrev pub AnswersReading : Reading → Result File ConfigFault → Type 0
AnswersReading reading (Ok file) = reading ≡ good file
AnswersReading reading (Err (fault.Rule rule)) = reading ≡ broken rule.0
AnswersReading reading (Err fault.NotToml) = ⊥
AnswersReading reading (Err fault.NoMemory) = Unit {0}

-- the answer is what the text is as a platform file, or want of memory
abbrev pub IsReadAs : List ℕ → Result File ConfigFault → Type 0
IsReadAs text (Ok file) = IsUtf8 text × (text_reading text ≡ Some (good file))
IsReadAs text (Err (fault.Rule rule)) = IsUtf8 text × (text_reading text ≡ Some (broken rule.0))
IsReadAs text (Err fault.NotToml) = IsUtf8 text → parse_document text ≡ None
IsReadAs text (Err fault.NoMemory) = Unit {0}
