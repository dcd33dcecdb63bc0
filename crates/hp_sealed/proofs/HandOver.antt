-- Each run before its hand-over, at it, and after it.
use Rattle.std.proofs.Common.{ℕ, ◌≡◌, ◌⊎◌, inl, inr, Bool, true, false, List, [], ◌∷◌, ◌++◌, Some, refl, sym, ap, subst, ◌∙◌}
use Rattle.std.proofs.lemmas.List.{append_assoc, append-nil}
use Rattle.std.proofs.lemmas.Option.{same_Some}
use Rattle.hp_model.specs.declared.platforms.Platform.{Platform}
use Rattle.hp_model.specs.declared.accesses.Answer.{Answer}
use Rattle.hp_model.specs.declared.entries.Event.{Event}
use Rattle.hp_model.specs.declared.entries.Entry.{Entry}
use Rattle.hp_model.specs.Memory.{touched}
use Rattle.hp_model.specs.Platform.{IsFit}
use Rattle.hp_model.specs.Boot.{Stage, Boots, Refused, Handed, is_handed, stage_after}
use Rattle.hp_model.specs.State.{State, start}
use Rattle.hp_model.specs.Step.{After, answer_of, step}
use Rattle.hp_model.specs.Runs.{run_on, run_from, run}
use Rattle.hp_model.specs.Safety.{IsUntouched}
use Rattle.hp_sealed.specs.Left.{Sound, LeavesLocked}
use Rattle.hp_sealed.specs.Sealed.{IsOutside, IsSealed}
use Rattle.hp_sealed.specs.Booting.{IsBooting, IsRefused}
use Rattle.hp_sealed.specs.HandOver.{WasSealed}
use Rattle.hp_sealed.proofs.Left.{left_same, left_then}
use Rattle.hp_sealed.proofs.Starts.{sound, starts}
use Rattle.hp_sealed.proofs.Goes.{stepped, boot_goes, boot_leaves, refused_goes}
use Rattle.hp_model.proofs.Scheduled.{run_from-more}
use Rattle.hp_sealed.proofs.Runs.{made, run_rest, first_step, run_keeps}

-- not handed over yet
abbrev pub IsBefore : Platform → State → Type 0
IsBefore p s = IsBooting p s ⊎ IsRefused p s

before_unhanded : (p : Platform) (s : State) → IsBefore p s → is_handed s.stage ≡ false
before_unhanded p s (inl h) = ap is_handed h.stage
before_unhanded p s (inr h) = ap is_handed h.stage

pub before_outside : (p : Platform) (s : State) → IsBefore p s → IsOutside p s
before_outside p s (inl h) = h.holds.cpus
before_outside p s (inr h) = h.cpus

-- what is handed over stays so
stage_stays : (mib : ℕ) (a : Answer) (g : Stage) → is_handed g ≡ true → is_handed (stage_after mib a g) ≡ true
stage_stays mib a (Boots done supported) h = absurd cc
stage_stays mib a (Refused fact) h = absurd cc
stage_stays mib a (Handed requested) h = refl

handed_stays : (p : Platform) (s t : State) (e : Entry) → is_handed s.stage ≡ true → run_on p s e ≡ Some t → is_handed t.stage ≡ true
handed_stays p s t e h is =
    let m = made p s e t is in
    let w = stepped p s e.event m.after m.step in
    subst (λ (u : State). is_handed u.stage ≡ true) (ap (λ (a : After). a.state) w.is ∙ m.state) (stage_stays p.tseg_mib (answer_of s e.event) s.stage h)

run_handed : (p : Platform) (s t : State) (es : List Entry) → is_handed s.stage ≡ true → run_from p s es ≡ Some t → is_handed t.stage ≡ true
unfolding run_from
run_handed p s t [] h is = subst (λ (u : State). is_handed u.stage ≡ true) (same_Some s t is) h
run_handed p s t (e ∷ es) h is = let f = first_step p s t e es is in run_handed p f.0 t es (handed_stays p s f.0 e h f.1) f.2

-- one step before the hand-over
record Went (p : Platform) (s t : State) : Type 0 where
  to : IsBefore p t ⊎ IsSealed p t
  leaves : LeavesLocked s t

went : (p : Platform) (s t : State) (e : Entry) → Sound p → IsBefore p s → run_on p s e ≡ Some t → Went p s t
went p s t e fit (inl h) is =
    let m = made p s e t is in
    subst (Went p s) m.state
    (record {
      to = elim (boot_goes p s e.event m.after fit h m.step).0 [ inl b ↦ inl (inl b) | inr r ↦ elim r [ inl q ↦ inl (inr q) | inr z ↦ inr z ] ];
      leaves = boot_leaves p s e.event m.after h m.step;
    })
went p s t e fit (inr h) is = let m = made p s e t is in absurd (refused_goes p s e.event m.after h m.step)

leaves_same : (s : State) → LeavesLocked s s
leaves_same s = record { left = λ x l. left_same x s.writes; locked = λ x l. l }

leaves_then : (s t u : State) → LeavesLocked s t → LeavesLocked t u → LeavesLocked s u
leaves_then s t u h g = record {
  left = λ x l. left_then x s.writes t.writes u.writes (h.left x l) (g.left x (h.locked x l));
  locked = λ x l. g.locked x (h.locked x l);
}

unhanded : (g : Stage) → is_handed g ≡ true → is_handed g ≡ false → ⊥
unhanded g h n = let both : true ≡ false = sym h ∙ n in cc

-- all steps before it
record Ran (p : Platform) (s t : State) : Type 0 where
  to : IsBefore p t
  leaves : LeavesLocked s t

ran : (p : Platform) (s t : State) (es : List Entry) → Sound p → IsBefore p s → is_handed t.stage ≡ false → run_from p s es ≡ Some t → Ran p s t
unfolding run_from
ran p s t [] fit h not is = subst (Ran p s) (same_Some s t is) (record { to = h; leaves = leaves_same s })
ran p s t (e ∷ es) fit h not is =
    let f = first_step p s t e es is in
    let one = went p s f.0 e fit h f.1 in
    on f.0 one.leaves f.2 one.to (λ b. ran p f.0 t es fit b not f.2)
  where
    on : (u : State) → LeavesLocked s u → run_from p u es ≡ Some t → IsBefore p u ⊎ IsSealed p u → (IsBefore p u → Ran p u t) → Ran p s t
    on u leaves rest (inl b) more = let r = more b in record { to = r.to; leaves = leaves_then s u t leaves r.leaves }
    on u leaves rest (inr z) more = absurd (unhanded t.stage (run_handed p u t es z.stage rest) not)

-- a list with one more element, in two parts
snoc_parts : (es before since : List Entry) (e : Entry) → es ++ e ∷ [] ≡ before ++ since → (since ≡ []) ⊎ ((init : List Entry) × (es ≡ before ++ init))
snoc_parts es [] since e is = inr (es, refl)
snoc_parts [] (b ∷ bs) since e is = inl (end bs since (ap rest_of is))
  where
    rest_of : List Entry → List Entry
    rest_of [] = []
    rest_of (x ∷ xs) = xs

    end : (xs ys : List Entry) → [] ≡ xs ++ ys → ys ≡ []
    end [] ys is = sym is
    end (x ∷ xs) ys is = absurd cc
snoc_parts (x ∷ xs) (b ∷ bs) since e is = elim (snoc_parts xs bs since e (ap rest_of is)) [
  | inl none ↦ inl none
  | inr some ↦ inr (some.0, ap (λ y. first_of y xs) is ∙ ap (λ ys. b ∷ ys) some.1)
]
  where
    rest_of : List Entry → List Entry
    rest_of [] = []
    rest_of (x ∷ xs) = xs

    first_of : List Entry → List Entry → List Entry
    first_of [] ys = ys
    first_of (x ∷ xs) ys = x ∷ ys

-- before the hand-over, or sealed at it
abbrev IsBeforeOrSealed : Platform → List Entry → State → Type 0
IsBeforeOrSealed p es s = IsBefore p s ⊎ (WasSealed p es × (is_handed s.stage ≡ true))

module _ (p : Platform) (fits : IsFit p) where
  pub run_before : (es : List Entry) (s : State) → is_handed s.stage ≡ false → run p es ≡ Some s → IsBefore p s
  unfolding run
  run_before es s not is = (ran p (start p) s es (sound p fits) (inl (starts p fits)) not is).to

  -- of a run that isn't handed over, what its later entries leave of what was locked
  pub run_leaves : (es before since : List Entry) (s u : State) → is_handed s.stage ≡ false → run p es ≡ Some s → es ≡ before ++ since → run p before ≡ Some u → LeavesLocked u s
  unfolding run
  run_leaves es before since s u not is split here =
      let rest = run_rest p (start p) s u before since es split is here in
      (ran p u s since (sound p fits) (run_before before u (earlier (is_handed u.stage) refl rest) here) not rest).leaves
    where
      earlier : (b : Bool) → is_handed u.stage ≡ b → run_from p u since ≡ Some s → is_handed u.stage ≡ false
      earlier false e rest = e
      earlier true e rest = absurd (unhanded s.stage (run_handed p u s since e rest) not)

  pub untouched : (es : List Entry) (s : State) (x : ℕ) → is_handed s.stage ≡ false → run p es ≡ Some s → IsUntouched p es s x
  untouched es s x not is = λ before since u split here locked. ((run_leaves es before since s u not is split here).left x locked).touched

  untouched_more : (es : List Entry) (s t : State) (e : Entry) (x : ℕ) → IsBefore p s → run p es ≡ Some s → run_on p s e ≡ Some t → IsUntouched p (es ++ e ∷ []) t x
  unfolding run
  untouched_more es s t e x h is on = λ before since u split here locked. elim (snoc_parts es before since e split) [
    | inl none ↦
        let whole : es ++ e ∷ [] ≡ before = split ∙ (ap (λ ys. before ++ ys) none ∙ append-nil before) in
        let same : t ≡ u = same_Some t u (sym (run_from-more p es e (start p) s t is on) ∙ (ap (run_from p (start p)) whole ∙ here)) in
        ap (λ (v : State). touched v.writes x) same
    | inr some ↦
        let leaves = run_leaves es before some.0 s u (before_unhanded p s h) is some.1 here in
        let one = (went p s t e (sound p fits) h on).leaves in
        (left_then x u.writes s.writes t.writes (leaves.left x locked) (one.left x (leaves.locked x locked))).touched
  ]

  stands_on : (es : List Entry) (s t : State) (e : Entry) → IsBeforeOrSealed p es s → run_from p (start p) es ≡ Some s → run_on p s e ≡ Some t → IsBeforeOrSealed p (es ++ e ∷ []) t
  unfolding run
  stands_on es s t e (inl h) is on = elim (went p s t e (sound p fits) h on).to [
    | inl b ↦ inl b
    | inr z ↦ inr (
      record {
        boot = es;
        last = e;
        rest = [];
        from = s;
        to = t;
        split = refl;
        before = is;
        boots = before_unhanded p s h;
        after = run_from-more p es e (start p) s t is on;
        sealed = z;
        untouched = λ x. untouched_more es s t e x h is on;
      },
      z.stage,
    )
  ]
  stands_on es s t e (inr h) is on =
      let w = h.0 in
      inr (
        record {
          boot = w.boot;
          last = w.last;
          rest = w.rest ++ e ∷ [];
          from = w.from;
          to = w.to;
          split = ap (λ xs. xs ++ e ∷ []) w.split ∙ append_assoc w.boot (w.last ∷ w.rest) (e ∷ []);
          before = w.before;
          boots = w.boots;
          after = w.after;
          sealed = w.sealed;
          untouched = w.untouched;
        },
        handed_stays p s t e h.1 on,
      )

  pub was_sealed : (es : List Entry) (t : State) → run p es ≡ Some t → is_handed t.stage ≡ true → WasSealed p es
  was_sealed es t is handed = elim (run_keeps p (IsBeforeOrSealed p) stands_on es t (inl (inl (starts p fits))) is) [
    | inl b ↦ absurd (unhanded t.stage handed (before_unhanded p t b))
    | inr h ↦ h.0
  ]

  pub outside : (es : List Entry) (s : State) → run p es ≡ Some s → is_handed s.stage ≡ false → IsOutside p s
  outside es s is not = before_outside p s (run_before es s not is)

  pub step_leaves : (es : List Entry) (s : State) (e : Event) (t : After) → run p es ≡ Some s → is_handed s.stage ≡ false → step p s e ≡ Some t → LeavesLocked s t.state
  step_leaves es s e t is not on = by_stage (run_before es s not is)
    where
      by_stage : IsBefore p s → LeavesLocked s t.state
      by_stage (inl h) = boot_leaves p s e t h on
      by_stage (inr h) = absurd (refused_goes p s e t h on)
