-- Worked boots: how they end and what their accesses are answered, on platforms of two processors.
use Rattle.std.proofs.Common.{◌≡◌, ℕ, Bool, true, false, List, [], ◌∷◌, ◌++◌, map, Some, None, refl}
use Rattle.hp_model.specs.declared.platforms.Delivery.TheVariants.{Prompt}
use Rattle.hp_model.specs.declared.accesses.Answer.{Answer}
use Rattle.hp_model.specs.declared.accesses.Answer.TheVariants.{Quiet, Value}
use Rattle.hp_model.specs.declared.platforms.Platform.{Platform}
use Rattle.hp_model.specs.declared.outcomes.BootFact.TheVariants.{NotModern, NoDefaultSmram, NotNegotiated, NoExtTseg}
use Rattle.hp_model.specs.Memory.{bytes_of, value_from}
use Rattle.hp_model.specs.View.{is_hole}
use Rattle.hp_model.specs.Cpu.{boot_cpus, cpus_start}
use Rattle.hp_model.specs.Block.{first_places}
use Rattle.hp_model.specs.FwCfg.{big_bytes, big_value, little_value, directory, listed}
use Rattle.hp_model.specs.Transfers.{bytes_stored, bytes_loaded, transfer}
use Rattle.hp_model.specs.Boot.{boot_accesses, boot_access}
use Rattle.hp_model.specs.Voices.{Voice, silent, says}
use Rattle.hp_model.specs.Access.{same_access}
use Rattle.hp_model.specs.Step.{step}
use Rattle.hp_model.specs.Schedule.{booted, boot_fact, act, act_all}

-- two possible processors with 128 MiB of RAM, of which these are there at boot, with a TSEG of so many MiB
sized_platform : ℕ → Bool → List ℕ → Bool → Bool → ℕ → Platform
sized_platform tseg_mib ext_tseg boot modern default_smram features =
    record {
      apic = 0 ∷ 1 ∷ [];
      boot = boot;
      low_memory = 0x8000000;
      tseg_mib = tseg_mib;
      features = features;
      polls = 8;
      turns = 0;
      modern = modern;
      default_smram = default_smram;
      delivery = Prompt;
      x2apic = false;
      ext_tseg = ext_tseg;
    }

-- a TSEG of 1 MiB
platform_of : List ℕ → Bool → Bool → ℕ → Platform
platform_of boot modern default_smram features = sized_platform 1 true boot modern default_smram features

-- a TSEG of 48 MiB, which there can be or not
wide_platform : Bool → ℕ → Platform
wide_platform ext_tseg features = sized_platform 48 ext_tseg (0 ∷ []) true true features

-- its processors have nothing to say
voices : List Voice
voices = silent ∷ silent ∷ []

-- what the accesses of a boot are answered
answers : Platform → List Answer
answers p = map (λ e. e.answer) (booted p voices).entries

-- what 15 accesses are answered whose default area can be locked, from a modern register block on
locked_answers : List Answer
locked_answers =
    Quiet ∷ Quiet ∷ Quiet ∷ Value 0 ∷ Quiet ∷ Value 1
    ∷ Quiet ∷ Quiet ∷ Quiet ∷ Quiet ∷ Quiet ∷ Quiet ∷ Quiet ∷ Quiet ∷ Quiet ∷ []

-- and those after them up to features-ok, by the supported features and features-ok
feature_answers : ℕ → ℕ → List Answer
feature_answers supported ok = Quiet ∷ Quiet ∷ Quiet ∷ Quiet ∷ Quiet ∷ Value supported ∷ Quiet ∷ Quiet ∷ Quiet ∷ Quiet ∷ Value ok ∷ []

record Worked : Type 0 where
  -- no feature at all is agreed on, and so is broadcast alone
  zero_is_handed_over : boot_fact (platform_of (0 ∷ []) true true 0) voices ≡ None
  one_is_handed_over : boot_fact (platform_of (0 ∷ []) true true 1) voices ≡ None
  -- broadcast with hot-plug, and with both
  three_is_handed_over : boot_fact (platform_of (0 ∷ []) true true 3) voices ≡ None
  seven_is_handed_over : boot_fact (platform_of (0 ∷ []) true true 7) voices ≡ None
  -- hot-unplug without hot-plug, and hot-plug or hot-unplug without broadcast
  five_is_refused : boot_fact (platform_of (0 ∷ []) true true 5) voices ≡ Some (NotNegotiated 0)
  two_is_refused : boot_fact (platform_of (0 ∷ []) true true 2) voices ≡ Some (NotNegotiated 0)
  four_is_refused : boot_fact (platform_of (0 ∷ []) true true 4) voices ≡ Some (NotNegotiated 0)
  six_is_refused : boot_fact (platform_of (0 ∷ []) true true 6) voices ≡ Some (NotNegotiated 0)
  -- a register block that stays legacy shows a bit for each processor that is there
  legacy_is_refused : boot_fact (platform_of (0 ∷ []) false true 7) voices ≡ Some (NotModern 1)
  legacy_shows_both : boot_fact (platform_of (0 ∷ 1 ∷ []) false true 7) voices ≡ Some (NotModern 3)
  -- a platform that lacks two things is refused for the first
  bare_is_refused : boot_fact (platform_of (0 ∷ []) true false 5) voices ≡ Some (NoDefaultSmram 0)
  -- a TSEG of 48 MiB that there can't be refuses first
  wide_is_handed_over : boot_fact (wide_platform true 7) voices ≡ None
  wide_is_refused : boot_fact (wide_platform false 5) voices ≡ Some (NoExtTseg 0)
  wide_and_five_is_refused : boot_fact (wide_platform true 5) voices ≡ Some (NotNegotiated 0)
  -- with one there are 29 answers, and 17 where it can't be
  wide_is_answered : answers (wide_platform true 7) ≡ locked_answers ++ (Quiet ∷ Value 0x30 ∷ (feature_answers 7 1 ++ Quiet ∷ []))
  wide_stops : answers (wide_platform false 7) ≡ locked_answers ++ (Quiet ∷ Value 0 ∷ [])
  -- the answers of a boot that is handed over: 27, of which four are values
  three_is_answered : answers (platform_of (0 ∷ []) true true 3) ≡ locked_answers ++ (feature_answers 3 1 ++ Quiet ∷ [])
  -- of one that is refused by features-ok: 26
  five_is_answered : answers (platform_of (0 ∷ []) true true 5) ≡ locked_answers ++ feature_answers 5 0
  -- and of those that are refused earlier: 4 and 6
  legacy_is_answered : answers (platform_of (0 ∷ []) false true 7) ≡ Quiet ∷ Quiet ∷ Quiet ∷ Value 1 ∷ []
  bare_is_answered : answers (platform_of (0 ∷ []) true false 7) ≡ Quiet ∷ Quiet ∷ Quiet ∷ Value 0 ∷ Quiet ∷ Value 0 ∷ []

worked : Worked
unfolding platform_of wide_platform sized_platform voices answers locked_answers feature_answers boot_fact booted act act_all says step same_access is_hole bytes_of value_from big_bytes big_value little_value directory listed bytes_stored bytes_loaded transfer boot_accesses boot_access boot_cpus cpus_start first_places
worked =
    record {
      zero_is_handed_over = refl;
      one_is_handed_over = refl;
      three_is_handed_over = refl;
      seven_is_handed_over = refl;
      five_is_refused = refl;
      two_is_refused = refl;
      four_is_refused = refl;
      six_is_refused = refl;
      legacy_is_refused = refl;
      legacy_shows_both = refl;
      bare_is_refused = refl;
      wide_is_handed_over = refl;
      wide_is_refused = refl;
      wide_and_five_is_refused = refl;
      wide_is_answered = refl;
      wide_stops = refl;
      three_is_answered = refl;
      five_is_answered = refl;
      legacy_is_answered = refl;
      bare_is_answered = refl;
    }
