-- What the end of a boot says: its fact, and which platforms are handed over.
use Rattle.std.proofs.Common.{◌≡◌, ℕ, Bool, true, false, ◌&&◌, List, Option, Some, None, refl, sym, ap, ◌∙◌}
use Rattle.hp_model.specs.declared.platforms.Platform.{Platform}
use Rattle.hp_model.specs.declared.outcomes.BootFact.{BootFact}
use Rattle.hp_model.specs.Platform.{IsFit}
use Rattle.hp_model.specs.Boot.{fact_of, is_booting}
use Rattle.hp_model.specs.Schedule.{booted, boot_fact}
use Rattle.hp_model.specs.Voices.{Voice}
use Rattle.hp_boot.specs.Ending.{is_negotiable, has_size, hands_over, refusal_of, ended}
use Rattle.hp_boot.proofs.Places.{refusal_by}
use Rattle.hp_boot.proofs.Form.{boot_stage}

fact_of-ended : (r : Option BootFact) (features : ℕ) → fact_of (ended r features) ≡ r
fact_of-ended None features = refl
fact_of-ended (Some fact) features = refl

is_booting-ended : (r : Option BootFact) (features : ℕ) → is_booting (ended r features) ≡ false
is_booting-ended None features = refl
is_booting-ended (Some fact) features = refl

pub fact_is : (p : Platform) (vs : List Voice) → IsFit p → boot_fact p vs ≡ refusal_of p
unfolding boot_fact
fact_is p vs fit = ap fact_of (boot_stage p vs fit) ∙ fact_of-ended (refusal_of p) p.features

pub is_over : (p : Platform) (vs : List Voice) → IsFit p → is_booting (booted p vs).scene.state.stage ≡ false
is_over p vs fit = ap is_booting (boot_stage p vs fit) ∙ is_booting-ended (refusal_of p) p.features

none_refuses : (p : Platform) (modern has_default sized negotiable : Bool) → modern && (has_default && (sized && negotiable)) ≡ true →
    refusal_by p modern has_default sized negotiable ≡ None
none_refuses p true true true true h = refl
none_refuses p true true true false h = cc
none_refuses p true true false negotiable h = cc
none_refuses p true false sized negotiable h = cc
none_refuses p false has_default sized negotiable h = cc

pub handed_over : (p : Platform) (vs : List Voice) → IsFit p → hands_over p ≡ true → boot_fact p vs ≡ None
handed_over p vs fit h = fact_is p vs fit ∙ none_refuses p p.modern p.default_smram (has_size p) (is_negotiable p.features) h

some_refuses : (p : Platform) (modern has_default sized negotiable : Bool) →
    refusal_by p modern has_default sized negotiable ≡ None →
    modern && (has_default && (sized && negotiable)) ≡ true
some_refuses p true true true true h = refl
some_refuses p true true true false h = cc
some_refuses p true true false negotiable h = cc
some_refuses p true false sized negotiable h = cc
some_refuses p false has_default sized negotiable h = cc

pub handed_over_alone : (p : Platform) (vs : List Voice) → IsFit p → boot_fact p vs ≡ None → hands_over p ≡ true
handed_over_alone p vs fit h = some_refuses p p.modern p.default_smram (has_size p) (is_negotiable p.features) (sym (fact_is p vs fit) ∙ h)

pub ruleset ends = (boot_stage, fact_is, is_over, handed_over)
