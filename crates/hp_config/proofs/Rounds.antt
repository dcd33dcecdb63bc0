-- The file that a number makes meets the rules.
use Rattle.std.proofs.Common.{◌≡◌, ℕ, zero, suc, true, nat_lt, length, refl, ◌∙◌, arith}
use Rattle.std.proofs.lemmas.Bool.{lt-ltb}
use Rattle.std.proofs.lemmas.List.{length_push}
use Rattle.std.proofs.lemmas.List.Folds.{list_all-append}
use Rattle.rand_pcg.specs.Lcg.{Lcg}
use Rattle.hp_model.specs.declared.files.HostEvent.{HostEvent}
use Rattle.hp_model.specs.Platform.{IsFit}
use Rattle.hp_model.specs.Hosting.{is_host}
use Rattle.hp_model.specs.Seeded.{generator_of, draw}
use Rattle.hp_config.specs.Generated.{numbers_below, generated_platform, drawn_cpu, round_of, rounds, generated_kind, generated_kinds, generated_file}
use Rattle.hp_config.specs.Rules.{place_of, hosts_fit, hosts_are_hosts}
use Rattle.hp_config.specs.Sound.{IsSound}

length-generated_kinds : (n count : ℕ) → length (generated_kinds n count) ≡ count
unfolding generated_kinds
length-generated_kinds n zero = refl
length-generated_kinds n (suc count) = length_push (generated_kinds n count) (generated_kind n count) ∙ omega (arith, length-generated_kinds n count)

platform_is_fit : IsFit generated_platform
unfolding numbers_below
platform_is_fit = refl

-- a drawn processor is possible
is_possible : (word : ℕ) → nat_lt (drawn_cpu word) 64 ≡ true
is_possible word = lt-ltb (drawn_cpu word) 64 (omega arith)

round_fits : (number word : ℕ) → hosts_fit 64 (round_of number (drawn_cpu word)) ≡ true
round_fits number word = rw (is_possible word) refl

rounds_fit : (n : ℕ) (g : Lcg) → hosts_fit 64 (rounds n g).events ≡ true
unfolding rounds
rounds_fit zero g = refl
rounds_fit (suc n) g =
    let word = (draw (rounds n g).generator).0 in
    list_all-append (λ (h : HostEvent). nat_lt (place_of h.actor) 64) (rounds n g).events (round_of (suc n) (drawn_cpu word))
    ∙ rw (rounds_fit n g) (round_fits (suc n) word)

rounds_are_hosts : (n : ℕ) (g : Lcg) → hosts_are_hosts (rounds n g).events ≡ true
unfolding rounds
rounds_are_hosts zero g = refl
rounds_are_hosts (suc n) g =
    let word = (draw (rounds n g).generator).0 in
    list_all-append (λ (h : HostEvent). is_host h.actor) (rounds n g).events (round_of (suc n) (drawn_cpu word))
    ∙ rw (rounds_are_hosts n g) refl

length-numbers : length (numbers_below 64) ≡ 64
unfolding numbers_below
length-numbers = refl

pub generated_is_sound : (n : ℕ) → IsSound (generated_file n)
generated_is_sound n = record {
  fit = platform_is_fit;
  voices = rw length-numbers (length-generated_kinds n 64);
  hosts = rw length-numbers (rounds_fit 39 (generator_of n));
  actors = rounds_are_hosts 39 (generator_of n);
  stalls = refl;
}
