-- The summary of a run, entry by entry, from its boot on.
use Rattle.std.proofs.Common.{◌≡◌, ℕ, ◌+◌, ◌≤◌, List, [], ◌∷◌, ◌++◌, map, length, length-append, Option, Some, sym, ◌∙◌, ap, subst, arith}
use Rattle.hp_model.specs.declared.entries.Actor.{Actor}
use Rattle.hp_model.specs.declared.entries.Entry.{Entry}
use Rattle.hp_model.specs.declared.files.File.{File}
use Rattle.hp_model.specs.declared.files.VoiceKind.{VoiceKind}
use Rattle.hp_model.specs.Following.{Carried}
use Rattle.hp_model.specs.Schedule.{Scene, Made, both_make, act_all, boot_turns, scheduled, turns_from}
use Rattle.hp_model.specs.Voices.{Voice, Agree, told_of, voices_of}
use Rattle.hp_config.specs.Generated.{generated_file}
use Rattle.hp_platform.specs.Carrying.{AgreesWith}
use Rattle.hp_platform.specs.Live.{Live}
use Rattle.hp_trace.specs.declared.summaries.Summary.{Summary}
use Rattle.hp_trace.specs.Summary.{IsSummary, summary}
use Rattle.hp_top.specs.Actors.{actors_from}
use Rattle.hp_top.specs.Doing.{Counted, Sums}
use Rattle.hp_top.specs.Generated.{IsSummed, generated_run}
use Rattle.hp_top.specs.Lives.{StandsFor}
use Rattle.hp_top.specs.Turns.{boot_left, carried_start, with_voices}
use Rattle.hp_top.proofs.Booting.{boot_is}
use Rattle.hp_top.proofs.Coming.{turns_are}
use Rattle.hp_top.proofs.Doing.{counted_both, does_both}
use Rattle.hp_top.proofs.Schedule.{scheduled_rest}
use Rattle.hp_top.proofs.Turning.{scene_agrees, some_scene, then_make}

-- an entry was counted
module _ (old new : Summary) (e : Entry) (counted : Counted old new (e ∷ [])) (sums : IsSummary old) where
  pub still_sums : IsSummary new
  still_sums = record { of = sums.of ++ e ∷ []; is = counted sums.of sums.is }

  pub one_more : new.entries ≤ old.entries + 1
  one_more =
      let before : old.entries ≡ length sums.of = ap (λ (s : Summary). s.entries) sums.is in
      let after : new.entries ≡ length (sums.of ++ e ∷ []) = ap (λ (s : Summary). s.entries) (counted sums.of sums.is) in
      omega (arith, before, after, length-append sums.of (e ∷ []))

-- the boot, and all turns after it
module _ (f : File) (told : List (Option Voice)) (n : ℕ) (is : n ≡ boot_turns f.platform) (actors : List Actor) (all : actors ≡ actors_from f f.platform.turns 0) where
  abbrev boot : Scene → Made
  boot w = act_all f.platform w (boot_left n)

  abbrev turns : Scene → Made
  turns w = act_all f.platform w actors

  scheduled_is : (w : Scene) → AgreesWith (carried_start f.platform told) w → scheduled f w.voices ≡ (then_make boot turns w).entries
  unfolding scheduled
  scheduled_is w agrees =
      ap (λ (m : Made). (both_make m (turns_from f f.platform.turns 0 m.scene)).entries) (boot_is f.platform told n is w agrees)
      ∙ ap (λ (m : Made). (both_make (boot w) m).entries)
      (turns_are f f.platform.turns 0 (boot w).scene ∙ ap (act_all f.platform (boot w).scene) (sym all))

  pub summed : (mid new : Live) (none sum last : Summary) → none ≡ summary [] → Sums f.platform mid (carried_start f.platform told) boot none sum →
      ((v : Carried) → StandsFor f.platform mid v → Sums f.platform new v turns sum last) → IsSummed f told last
  summed mid new none sum last empty first next =
      let both : Sums f.platform new (carried_start f.platform told) (then_make boot turns) none last =
      does_both f.platform mid new (carried_start f.platform told) boot turns (Counted none sum) (Counted sum last) (Counted none last)
      (λ es fs. counted_both none sum last es fs) first next in
      let m = both.leads.made (some_scene both.left) (scene_agrees both.left) in
      record {
        voices = m.scene.voices;
        agree = m.agrees.voices;
        is = both.so [] empty ∙ ap summary (sym m.entries ∙ sym (scheduled_is m.scene m.agrees));
      }

-- the rest of a file is summed up as the file is
pub summed_rest : (kinds : List VoiceKind) (f : File) (told : List (Option Voice)) (s : Summary) → IsSummed f told s → IsSummed (with_voices kinds f) told s
summed_rest kinds f told s it = record { voices = it.voices; agree = it.agree; is = it.is ∙ ap summary (scheduled_rest kinds f it.voices) }

-- the processors of a file that a number makes tell their voices, so there is one run
pub generated_sum : ((f : File) (handed vs : List Voice) → Agree (told_of f (map (λ v. Some v) handed)) vs → vs ≡ voices_of f handed) → (n : ℕ) (f : File) (s : Summary) →
    f ≡ generated_file n → IsSummed f (told_of f []) s → s ≡ summary (generated_run n)
generated_sum alone n f s same summed =
    let it : IsSummed (generated_file n) (told_of (generated_file n) []) s = subst (λ (g : File). IsSummed g (told_of g []) s) same summed in
    it.is ∙ ap (λ (vs : List Voice). summary (scheduled (generated_file n) vs)) (alone (generated_file n) [] it.voices it.agree)
