-- The file that a number makes (own rule): 64 processors under an operating system and three seeded ones, of which drawn ones are inserted and ejected
-- from the first turns to the last.
use Rattle.std.specs.Prelude.{ℕ, zero, suc, true, false, ◌+◌, ◌*◌, ◌%◌, ◌==◌, nat_lt, List, [], ◌∷◌, ◌++◌, if◌then◌else◌}
use Rattle.rand_pcg.specs.Lcg.{Lcg}
use Rattle.hp_model.specs.declared.platforms.Platform.{Platform}
use Rattle.hp_model.specs.declared.platforms.Delivery.TheVariants.{Prompt}
use Rattle.hp_model.specs.declared.entries.Actor.TheVariants.{Insert, Remove}
use Rattle.hp_model.specs.declared.files.File.{File}
use Rattle.hp_model.specs.declared.files.HostEvent.{HostEvent}
use Rattle.hp_model.specs.declared.files.VoiceKind.{VoiceKind}
use Rattle.hp_model.specs.declared.files.VoiceKind.TheVariants.{Os, Pen, Seeded}
use Rattle.hp_model.specs.Seeded.{generator_of, draw}

-- the numbers below this one, ascending
unfoldable pub numbers_below : ℕ → List ℕ
numbers_below zero = []
numbers_below (suc n) = numbers_below n ++ n ∷ []

-- 128 MiB of RAM, a TSEG of 8 MiB; APIC IDs are places, and the first four processors are there at boot
abbrev pub generated_platform : Platform
generated_platform = record {
  apic = numbers_below 64;
  boot = numbers_below 4;
  low_memory = 0x8000000;
  tseg_mib = 8;
  features = 7;
  polls = 64;
  turns = 200000;
  modern = true;
  default_smram = true;
  delivery = Prompt;
  x2apic = false;
  ext_tseg = true;
}

-- a word's processor is one that isn't there at boot
abbrev pub drawn_cpu : ℕ → ℕ
drawn_cpu word = 4 + word % 60

-- it is inserted, and half a round later its removal is requested
abbrev pub round_of : ℕ → ℕ → List HostEvent
round_of number cpu = record { turn = 5000 * number; actor = Insert cpu } ∷ record { turn = 5000 * number + 2500; actor = Remove cpu } ∷ []

-- host events that were drawn, and the generator after them
pub record Drawn : Type 0 where
  pub events : List HostEvent
  pub generator : Lcg

-- so many rounds, numbered from 1 on
unfoldable pub rounds : ℕ → Lcg → Drawn
rounds zero g = record { events = []; generator = g }
rounds (suc n) g =
    let before = rounds n g in
    let drawn = draw before.generator in
    record { events = before.events ++ round_of (suc n) (drawn_cpu drawn.0); generator = drawn.1 }

-- processor 0 is the operating system's, the others that are there at boot are seeded by the number, and those that come have their pens
abbrev pub generated_kind : ℕ → ℕ → VoiceKind
generated_kind n cpu = if cpu == 0 then Os else if nat_lt cpu 4 then Seeded (n * 64 + cpu) else Pen

-- those of so many processors
unfoldable pub generated_kinds : ℕ → ℕ → List VoiceKind
generated_kinds n zero = []
generated_kinds n (suc count) = generated_kinds n count ++ generated_kind n count ∷ []

abbrev pub generated_file : ℕ → File
generated_file n = record {
  platform = generated_platform;
  hosts = (rounds 39 (generator_of n)).events;
  stalls = [];
  voices = generated_kinds n 64;
}
