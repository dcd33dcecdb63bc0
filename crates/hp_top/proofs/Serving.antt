-- How each command ends the call.
use Rattle.std.proofs.Common.{◌≡◌, ℕ, true, List, Option, refl, subst, ◌↔◌}
use Rattle.std.specs.Io.KnownBytes.{Keeps}
use Rattle.hp_model.specs.Voices.{Voice}
use Rattle.hp_top.specs.declared.statuses.Status.{Status}
use Rattle.hp_top.specs.declared.statuses.Status.TheVariants.{Done, BadWords, ReadFault, TooLong, NotToml, Rule, BootRefused, WriteFault, TraceRefused, NoMemory}
use Rattle.hp_top.specs.Answers.{Ends, IsDoneOrNoMemory}
use Rattle.hp_top.specs.Checked.{EndsCheck}
use Rattle.hp_top.specs.Commands.{AreGen, AreNone, are_check, are_run}
use Rattle.hp_top.specs.Ending.{EndsBy}
use Rattle.hp_top.specs.Generated.{EndsGen, WritesGen}
use Rattle.hp_top.proofs.Words.{check_not_gen, check_some, not_both, not_check, run_some, same_gen}

module _ (words : List (List ℕ)) (handed : List (Option Voice)) (left still old new : Option (List ℕ)) (status : Status) where
  module _ (run : are_run words ≡ true) (ends : Ends handed left still old new status) where
    pub run_bad : (status ≡ BadWords) ↔ AreNone words
    run_bad = (λ bad. absurd (subst (Ends handed left still old new) bad ends), λ none. absurd (run_some words run none))

    pub run_ends : EndsBy words handed left still old new status
    run_ends = record { run = λ is. ends; check = λ check. absurd (not_check words run check); gen = λ n are. absurd (not_both words n run are); none = λ none. absurd (run_some words run none) }

  module _ (check : are_check words ≡ true) (ends : EndsCheck left still old new status) where
    pub check_bad : (status ≡ BadWords) ↔ AreNone words
    check_bad = (λ bad. absurd (subst (EndsCheck left still old new) bad ends), λ none. absurd (check_some words check none))

    pub check_ends : EndsBy words handed left still old new status
    check_ends = record {
      run = λ run. absurd (not_check words run check);
      check = λ is. ends;
      gen = λ n are. absurd (check_not_gen words n check are);
      none = λ none. absurd (check_some words check none);
    }

  module _ (n : ℕ) (gen : AreGen words n) (writes : WritesGen n old new status) where
    pub gen_bad : (status ≡ BadWords) ↔ AreNone words
    gen_bad = (λ bad. absurd (subst (WritesGen n old new) bad writes), λ none. absurd (none.gen n gen))

    pub gen_ends : Keeps left still → EndsBy words handed left still old new status
    gen_ends kept = record {
      run = λ run. absurd (not_both words n run gen);
      check = λ check. absurd (check_not_gen words n check gen);
      gen = λ m are. subst (λ (k : ℕ). EndsGen k left still old new status) (same_gen words n m gen are) (record { kept = kept; writes = writes });
      none = λ none. absurd (none.gen n gen);
    }

  -- nothing is read and nothing is written
  pub none_ends : AreNone words → Keeps left still → Keeps old new → EndsBy words handed left still old new status
  none_ends none read written = record { run = λ run. absurd (run_some words run none); check = λ check. absurd (check_some words check none); gen = λ n are. absurd (none.gen n are); none = λ is. (read, written) }

pub gen_no_read : (n : ℕ) (old new : Option (List ℕ)) (status : Status) → WritesGen n old new status → status ≡ ReadFault → ⊥
gen_no_read n old new status writes fault = subst (WritesGen n old new) fault writes

-- all was written, or memory ran out
pub gen_done : (n : ℕ) (old new : Option (List ℕ)) (status : Status) → WritesGen n old new status → (status ≡ WriteFault → ⊥) → IsDoneOrNoMemory status
gen_done n old new Done writes calm = tt
gen_done n old new BadWords writes calm = writes
gen_done n old new ReadFault writes calm = writes
gen_done n old new TooLong writes calm = writes
gen_done n old new NotToml writes calm = writes
gen_done n old new (Rule rule) writes calm = writes
gen_done n old new (BootRefused fact) writes calm = writes
gen_done n old new WriteFault writes calm = calm refl
gen_done n old new (TraceRefused line why) writes calm = writes
gen_done n old new NoMemory writes calm = tt
