-- How a boot ends: by the platform alone, and in the trace.
use Rattle.std.specs.Prelude.{◌≡◌, ◌≢◌, ℕ, Bool, ◌&&◌, ◌||◌, not, ◌==◌, List, [], ◌∷◌, ◌++◌, Option, Some, None, if◌then◌else◌}
use Rattle.hp_model.specs.declared.platforms.Platform.{Platform}
use Rattle.hp_model.specs.declared.accesses.Access.{Access}
use Rattle.hp_model.specs.declared.accesses.Access.TheVariants.{In, CfgRead}
use Rattle.hp_model.specs.declared.accesses.Answer.TheVariants.{Value}
use Rattle.hp_model.specs.declared.entries.Event.TheVariants.{Do}
use Rattle.hp_model.specs.declared.entries.Entry.{Entry}
use Rattle.hp_model.specs.declared.outcomes.BootFact.{BootFact}
use Rattle.hp_model.specs.declared.outcomes.BootFact.TheVariants.{NotModern, NoDefaultSmram, NotNegotiated, NoExtTseg}
use Rattle.hp_model.specs.Boot.{Stage, Refused, Handed}
use Rattle.hp_model.specs.Block.{cut, bitmap, first_places, slots_from}

-- features that can be agreed on: none, broadcast, broadcast with hot-plug, or these two with hot-unplug
abbrev pub is_negotiable : ℕ → Bool
is_negotiable features = (features == 0) || ((features == 1) || ((features == 3) || (features == 7)))

-- TSEG can have the size that the platform asks for
abbrev pub has_size : Platform → Bool
has_size p = not (p.tseg_mib == 48) || p.ext_tseg

-- the platforms that are handed over
abbrev pub hands_over : Platform → Bool
hands_over p = p.modern && (p.default_smram && (has_size p && is_negotiable p.features))

-- what the legacy form shows in 4 bytes: a bit for each of the first 32 processors that is there at boot
abbrev pub legacy_value : Platform → ℕ
legacy_value p = cut 4 (bitmap (first_places (slots_from 0 p.apic p.boot)))

-- what refuses the boot of a platform
abbrev pub refusal_of : Platform → Option BootFact
refusal_of p =
    if not p.modern then Some (NotModern (legacy_value p))
    else if not p.default_smram then Some (NoDefaultSmram 0)
    else if not (has_size p) then Some (NoExtTseg 0)
    else if not (is_negotiable p.features) then Some (NotNegotiated 0)
    else None

-- where a boot stands in the end: handed over with all supported features requested, or refused
abbrev pub ended : Option BootFact → ℕ → Stage
ended None features = Handed features
ended (Some fact) features = Refused fact

abbrev pub end_of : Platform → Stage
end_of p = ended (refusal_of p) p.features

-- the access that reads a fact's value, with this answer, on processor 0 outside SMM
abbrev pub read_of : Access → ℕ → Entry
read_of a value = record { event = Do 0 a; at = None; answer = Value value }

abbrev pub reads_fact : BootFact → Entry
reads_fact (NotModern value) = read_of (In 0xcd8 4) value
reads_fact (NoDefaultSmram value) = read_of (CfgRead 0x9c) value
reads_fact (NotNegotiated value) = read_of (In 0x511 1) value
reads_fact (NoExtTseg value) = read_of (CfgRead 0x50) value

-- the fact's value isn't the one that the boot goes on with
abbrev pub IsRefusing : BootFact → Type 0
IsRefusing (NotModern value) = value ≢ 0
IsRefusing (NoDefaultSmram value) = value ≢ 1
IsRefusing (NotNegotiated value) = value ≢ 1
IsRefusing (NoExtTseg value) = value ≢ 0x30

-- the entries end with the access that read the fact's value, for which the boot is refused
pub record StopsAt (fact : BootFact) (entries : List Entry) : Type 0 where
  pub front : List Entry
  pub stops : entries ≡ front ++ reads_fact fact ∷ []
  pub refuses : IsRefusing fact
