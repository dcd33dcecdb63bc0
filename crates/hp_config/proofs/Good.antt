-- What the rules give of each file that is read.
use Rattle.std.proofs.Common.{◌≡◌, ℕ, zero, suc, Bool, true, false, not, List, [], ◌∷◌, length, Option, Some, None, if◌then◌else◌, refl, sym, subst, ◌∙◌, arith}
use Rattle.std.proofs.lemmas.List.{length-set, length_push}
use Rattle.std.proofs.lemmas.Option.{none-some}
use Rattle.toml.specs.Data.{Members}
use Rattle.hp_model.specs.declared.files.File.{File}
use Rattle.hp_model.specs.declared.files.VoiceKind.{VoiceKind}
use Rattle.hp_model.specs.Platform.{count_of, IsFit}
use Rattle.hp_config.specs.declared.parts.AgentRow.{AgentRow}
use Rattle.hp_config.specs.declared.parts.Parts.{Parts}
use Rattle.hp_config.specs.Rules.{hosts_are_hosts, hosts_fit, stalls_fit, agents_fit, steps_fit}
use Rattle.hp_config.specs.Kinds.{default_kind, default_kinds, put_kind, put_kinds, kinds_of}
use Rattle.hp_config.specs.Shape.{parts_of}
use Rattle.hp_config.specs.Reading.{good, platform_fault, later_fault, first_of, file_from, judged, reading_of, file_of}
use Rattle.hp_config.specs.Sound.{IsSound}
use Rattle.hp_config.proofs.HostRows.{hosts_are}

length-default_kinds : (boot : List ℕ) (count : ℕ) → length (default_kinds boot count) ≡ count
length-default_kinds boot zero = refl
length-default_kinds boot (suc count) = length_push (default_kinds boot count) (default_kind boot count) ∙ omega (arith, length-default_kinds boot count)

length-put_kind : (cpu : ℕ) (kind : Option VoiceKind) (kinds : List VoiceKind) → length (put_kind cpu kind kinds) ≡ length kinds
length-put_kind cpu None kinds = refl
length-put_kind cpu (Some kind) kinds = length-set kinds cpu kind

length-put_kinds : (agents : List AgentRow) (kinds : List VoiceKind) → length (put_kinds agents kinds) ≡ length kinds
length-put_kinds [] kinds = refl
length-put_kinds (a ∷ agents) kinds = length-put_kind a.cpu a.kind (put_kinds agents kinds) ∙ length-put_kinds agents kinds

length-kinds_of : (agents : List AgentRow) (boot : List ℕ) (count : ℕ) → length (kinds_of agents boot count) ≡ count
unfolding kinds_of
length-kinds_of agents boot count = length-put_kinds agents (default_kinds boot count) ∙ length-default_kinds boot count

-- rules 11 to 15 hold
record HoldLater (parts : Parts) : Type 0 where
  hosts : hosts_fit (count_of parts.machine.platform) parts.hosts ≡ true
  stalls : stalls_fit (count_of parts.machine.platform) parts.stalls ≡ true

-- no test of a chain is passed over
next : (t : Bool) (rule : ℕ) (others : Option ℕ) → (if not t then Some rule else others) ≡ None → (t ≡ true) × (others ≡ None)
next true rule others e = (refl, e)
next false rule others e = absurd (none-some rule (sym e))

hold_later : (parts : Parts) → later_fault parts ≡ None → HoldLater parts
unfolding later_fault
hold_later parts e =
    let (named, e12) = next parts.machine.names_delivery 11 _ e in
    let (hosts, e13) = next (hosts_fit (count_of parts.machine.platform) parts.hosts) 12 _ e12 in
    let (stalls, e14) = next (stalls_fit (count_of parts.machine.platform) parts.stalls) 13 _ e13 in
    let (agents, e15) = next (agents_fit (count_of parts.machine.platform) parts.agents) 14 _ e14 in
    let (steps, done) = next (steps_fit parts.agents) 15 _ e15 in
    record { hosts = hosts; stalls = stalls }

-- the parts of a good file
record AreParts (parts : Parts) (f : File) : Type 0 where
  fit : IsFit parts.machine.platform
  actors : hosts_are_hosts parts.hosts ≡ true
  later : HoldLater parts
  file : file_from parts ≡ f

record HasParts (f : File) : Type 0 where
  parts : Parts
  are : AreParts parts f

parts_are : (parts : Parts) (f : File) → hosts_are_hosts parts.hosts ≡ true → reading_of (Some parts) ≡ good f → AreParts parts f
unfolding platform_fault
parts_are parts f actors e = by (platform_fault parts.machine.platform) refl (later_fault parts) refl e
  where
    by : (a : Option ℕ) → platform_fault parts.machine.platform ≡ a → (b : Option ℕ) → later_fault parts ≡ b → judged parts (first_of a b) ≡ good f → AreParts parts f
    by (Some rule) fit b later e = absurd (cc)
    by None fit (Some rule) later e = absurd (cc)
    by None fit None later e = record { fit = fit; actors = actors; later = hold_later parts later; file = cc }

has_parts : (ms : Members) (f : File) → file_of ms ≡ good f → HasParts f
unfolding file_of
has_parts ms f e = by (parts_of ms) refl e
  where
    by : (o : Option Parts) → parts_of ms ≡ o → reading_of o ≡ good f → HasParts f
    by None is e = absurd (cc)
    by (Some parts) is e = record { parts = parts; are = parts_are parts f (hosts_are ms parts is) e }

sound_parts : (parts : Parts) → IsFit parts.machine.platform → hosts_are_hosts parts.hosts ≡ true → HoldLater parts → IsSound (file_from parts)
sound_parts parts fit actors later = record {
  fit = fit;
  voices = length-kinds_of parts.agents parts.machine.platform.boot (count_of parts.machine.platform);
  hosts = later.hosts;
  actors = actors;
  stalls = later.stalls;
}

pub good_is_sound : (ms : Members) (f : File) → file_of ms ≡ good f → IsSound f
good_is_sound ms f e =
    let has = has_parts ms f e in
    subst IsSound has.are.file (sound_parts has.parts has.are.fit has.are.actors has.are.later)
