-- Where the answers of the first 15 accesses lead, and of the last 12: place j of them comes after 15 accesses and those of a TSEG of 48 MiB.
use Rattle.std.proofs.Common.{◌≡◌, ◌<◌, ℕ, suc, Bool, true, false, ◌&&◌, not, ◌==◌, ◌+◌, ◌%◌, Some, None, refl, ap, ◌∙◌, arith}
use Rattle.std.specs.Prelude.{slice_index_or, if◌then◌else◌, Option}
use Rattle.std.proofs.lemmas.Bool.Decides.{nat_tests}
use Rattle.hp_model.specs.declared.accesses.Access.TheVariants.{Nop}
use Rattle.hp_model.specs.declared.accesses.Answer.{Answer}
use Rattle.hp_model.specs.declared.outcomes.BootFact.{BootFact}
use Rattle.hp_model.specs.declared.outcomes.BootFact.TheVariants.{NotModern, NoDefaultSmram, NotNegotiated, NoExtTseg}
use Rattle.hp_model.specs.Boot.{Stage, Boots, Refused, Handed, boot_access, boot_refusal, ext_count, stage_after, stage_by, value_in}
use Rattle.hp_boot.specs.Booting.{tail_accesses}
use Rattle.hp_boot.proofs.Parts.{at_tail}

-- the first 16: what the value is refused for that one of them read, and where it leads
and_none : (b c : Bool) → c ≡ false → (b && c) ≡ false
and_none true c e = e
and_none false c e = refl

abbrev pub head_fact : ℕ → ℕ → Option BootFact
head_fact done v = if (done == 3) && not (v == 0) then Some (NotModern v) else if (done == 5) && not (v == 1) then Some (NoDefaultSmram v) else None

pub head_refusal : (mib done v : ℕ) → done < 16 → boot_refusal mib done v ≡ head_fact done v
head_refusal mib done v early =
    let sixteen : (done == 16) ≡ false = grind (arith, nat_tests) in
    let ext : ((mib == 48) && (done == 16)) ≡ false = and_none (mib == 48) (done == 16) sixteen in
    let ok : (done == 25 + ext_count mib) ≡ false = grind (arith, nat_tests) in
    rw (ext, ok) refl

abbrev pub head_by : Option BootFact → ℕ → ℕ → Stage
head_by (Some fact) done supported = Refused fact
head_by None done supported = Boots (done + 1) supported

pub head_stage : (mib done supported : ℕ) (a : Answer) → done < 16 → stage_after mib a (Boots done supported) ≡ head_by (head_fact done (value_in a)) done supported
head_stage mib done supported a early =
    ap (λ (r : Option BootFact). stage_by mib r done supported (value_in a)) (head_refusal mib done (value_in a) early) ∙ by_fact (head_fact done (value_in a))
  where
    by_fact : (r : Option BootFact) → stage_by mib r done supported (value_in a) ≡ head_by r done supported
    by_fact (Some fact) = refl
    by_fact None =
        let last : (done == 26 + ext_count mib) ≡ false = grind (arith, nat_tests) in
        let load : (done == 20 + ext_count mib) ≡ false = grind (arith, nat_tests) in
        rw (last, load) refl

-- access 15b, and features-ok: what their values are refused for
pub wide_refusal : (mib v : ℕ) → mib ≡ 48 → boot_refusal mib 16 v ≡ (if not (v == 0x30) then Some (NoExtTseg v) else None)
wide_refusal mib v size = ap (λ m. boot_refusal m 16 v) size

pub ok_refusal : (mib v : ℕ) → boot_refusal mib (25 + ext_count mib) v ≡ (if not (v == 1) then Some (NotNegotiated v) else None)
ok_refusal mib v = by (mib == 48)
  where
    by : (w : Bool) →
        (if ((25 + (if w then 2 else 0)) == 3) && not (v == 0) then Some (NotModern v)
        else if ((25 + (if w then 2 else 0)) == 5) && not (v == 1) then Some (NoDefaultSmram v)
        else if (w && ((25 + (if w then 2 else 0)) == 16)) && not (v == 0x30) then Some (NoExtTseg v)
        else if ((25 + (if w then 2 else 0)) == 25 + (if w then 2 else 0)) && not (v == 1) then Some (NotNegotiated v)
        else None) ≡ (if not (v == 1) then Some (NotNegotiated v) else None)
    by true = refl
    by false = refl

-- place j of the last 12
abbrev pub place : ℕ → ℕ → ℕ
place e j = j + (15 + e)

module _ (mib e : ℕ) (size : ext_count mib ≡ e) where
  abbrev from : ℕ → ℕ
  from j = place e j

  pub tail_access : (supported j : ℕ) → boot_access mib supported (from j) ≡ slice_index_or (tail_accesses mib supported) j Nop
  tail_access supported j = let same : from j ≡ 15 + (ext_count mib + j) = omega (arith, size) in ap (boot_access mib supported) same ∙ at_tail mib supported j

  -- access 15b isn't among them
  not_ext : (j : ℕ) → ((mib == 48) && (from j == 16)) ≡ false
  not_ext j = by (mib == 48) size
    where
      by : (b : Bool) → (if b then 2 else 0) ≡ e → (b && (from j == 16)) ≡ false
      by true two = let past : (from j == 16) ≡ false = grind (arith, nat_tests, two) in past
      by false none = refl

  -- what the value is refused for that one of them read: that of features-ok
  tail_refusal : (j v : ℕ) → boot_refusal mib (from j) v ≡ (if (j == 10) && not (v == 1) then Some (NotNegotiated v) else None)
  tail_refusal j v =
      let three : (from j == 3) ≡ false = grind (arith, nat_tests) in
      let five : (from j == 5) ≡ false = grind (arith, nat_tests) in
      let ok : (from j == 25 + ext_count mib) ≡ (j == 10) = grind (arith, nat_tests, size) in
      rw (three, five, not_ext j, ok) refl

  -- where it leads
  abbrev pub tail_by : Option BootFact → ℕ → ℕ → ℕ → Stage
  tail_by (Some fact) j supported v = Refused fact
  tail_by None j supported v = if j == 11 then Handed (supported % 8) else Boots (from (suc j)) (if j == 5 then v else supported)

  pub tail_stage : (j supported : ℕ) (a : Answer) →
      stage_after mib a (Boots (from j) supported) ≡ tail_by (if (j == 10) && not (value_in a == 1) then Some (NotNegotiated (value_in a)) else None) j supported (value_in a)
  tail_stage j supported a = ap (λ (r : Option BootFact). stage_by mib r (from j) supported (value_in a)) (tail_refusal j (value_in a)) ∙ by_fact (if (j == 10) && not (value_in a == 1) then Some (NotNegotiated (value_in a)) else None)
    where
      by_fact : (r : Option BootFact) → stage_by mib r (from j) supported (value_in a) ≡ tail_by r j supported (value_in a)
      by_fact (Some fact) = refl
      by_fact None =
          let last : (from j == 26 + ext_count mib) ≡ (j == 11) = grind (arith, nat_tests, size) in
          let load : (from j == 20 + ext_count mib) ≡ (j == 5) = grind (arith, nat_tests, size) in
          let next : from j + 1 ≡ from (suc j) = omega arith in
          rw (last, load, next) refl
