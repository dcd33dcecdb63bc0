-- What a line and a byte come to, as the code finds it.
use Rattle.std.proofs.Common.{◌≡◌, ℕ, ◌+◌, ◌==◌, ◌<◌, ◌≤◌, nat_lt, Bool, true, false, List, [], ◌∷◌, ◌++◌, length, Option, Some, None, refl, sym, ap, ◌∙◌, arith}
use Rattle.std.proofs.lemmas.Bool.{eqb-true, eq-eqb, ltb-true, lt-ltb}
use Rattle.hp_model.specs.declared.platforms.Platform.{Platform}
use Rattle.hp_model.specs.declared.entries.Entry.{Entry}
use Rattle.hp_model.specs.Runs.{run_on}
use Rattle.hp_model.specs.State.{State}
use Rattle.hp_check.specs.Walk.{Walk, HasStepped}
use Rattle.hp_reading.specs.Lines.{entry_of, end_of}
use Rattle.hp_judge.specs.declared.refusals.Refusal.{Refusal}
use Rattle.hp_judge.specs.declared.refusals.Why.{Why}
use Rattle.hp_judge.specs.declared.stages.Stage.{Stage}
use Rattle.hp_judge.specs.declared.stages.Stage.TheVariants.{Refused}
use Rattle.hp_judge.specs.Bytes.{overlong, after_byte}
use Rattle.hp_judge.specs.Standing.{Standing, going, is_refused, by_end, by_step, by_line, after_line}
use Rattle.hp_judge.specs.Stages.{HasGone, end_by, standing}

-- a line behind the header that is no entry's
pub no_some : {X : Type 0} (o : Option X) → ((x : X) → o ≡ Some x → ⊥) → o ≡ None
no_some None never = refl
no_some (Some x) never = absurd (never x refl)

pub last_told : (p : Platform) (s : State) (n : ℕ) (line : List ℕ) (o : Option Why) → entry_of line ≡ None → end_by n o ≡ by_end n (end_of line) → after_line (going p s n) line ≡ end_by n o
unfolding after_line
last_told p s n line o none is = ap (λ (e : Option Entry). by_line p s n e (by_end n (end_of line))) none ∙ sym is

-- an entry
pub entry_told : (p : Platform) (s : State) (n : ℕ) (line : List ℕ) (e : Entry) (o : Option State) → entry_of line ≡ Some e → run_on p s e ≡ o → after_line (going p s n) line ≡ by_step p n o
unfolding after_line
entry_told p s n line e o is to = ap (λ (e : Option Entry). by_line p s n e (by_end n (end_of line))) is ∙ ap (by_step p n) to

pub gone : (old new : Walk) (n : ℕ) (line : List ℕ) (e : Entry) → entry_of line ≡ Some e → new.platform ≡ old.platform → HasStepped old new e → n < 18446744073709551613 → HasGone old new n line
gone old new n line e is same stepped few = record {
  led = entry_told old.platform old.state n line e (Some new.state) is stepped.step ∙ ap (λ (p : Platform). going p new.state (n + 1)) (sym same);
  held = record { going = stepped.going; counted = omega (arith, few) };
}

-- a refusal stays
pub stays : (stage : Stage) (r : Refusal) (line : List ℕ) → stage ≡ Refused r → standing stage ≡ after_line (standing stage) line
unfolding after_line
stays stage r line is = rw is refl

is_not : (a b : ℕ) → (a ≡ b → ⊥) → (a == b) ≡ false
is_not a b other = by (a == b) refl
  where
    by : (t : Bool) → (a == b) ≡ t → t ≡ false
    by true is = absurd (other (eqb-true a b is))
    by false is = refl

is_no_less : (a b : ℕ) → b ≤ a → nat_lt a b ≡ false
is_no_less a b long = by (nat_lt a b) refl
  where
    by : (t : Bool) → nat_lt a b ≡ t → t ≡ false
    by true is = absurd (omega (arith, long, ltb-true a b is))
    by false is = refl

-- the ways of a byte where nothing is refused
module _ (x y : Standing) (rest new : List ℕ) (c : ℕ) (going_on : is_refused x ≡ false) where
  pub byte_ends : c ≡ 10 → y ≡ after_line x rest → new ≡ [] → record { standing = y; rest = new } ≡ after_byte (record { standing = x; rest = rest }) c
  unfolding after_byte
  byte_ends is to empty = rw (going_on, eq-eqb c 10 is, to, empty) refl

  pub byte_more : (c ≡ 10 → ⊥) → length rest < 12288 → y ≡ x → new ≡ rest ++ c ∷ [] → record { standing = y; rest = new } ≡ after_byte (record { standing = x; rest = rest }) c
  unfolding after_byte
  byte_more other short to longer = rw (going_on, is_not c 10 other, lt-ltb (length rest) 12288 short, to, longer) refl

  pub byte_over : (c ≡ 10 → ⊥) → 12288 ≤ length rest → y ≡ overlong x → new ≡ [] → record { standing = y; rest = new } ≡ after_byte (record { standing = x; rest = rest }) c
  unfolding after_byte
  byte_over other long to empty = rw (going_on, is_not c 10 other, is_no_less (length rest) 12288 long, to, empty) refl
