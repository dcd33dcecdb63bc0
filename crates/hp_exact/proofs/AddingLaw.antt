-- The law on adds: what their outcomes show in their entries, and where an added processor is.
use Rattle.std.proofs.Common.{ℕ, suc, ◌≡◌, ◌+◌, ◌==◌, ◌⊎◌, inl, inr, Bool, true, false, ◌||◌, List, [], ◌∷◌, ◌++◌, length, drop, replicate, Some, refl, sym, ap, subst, ◌∙◌, arith, if◌then◌else◌}
use Rattle.std.specs.Str.{bytes_eq}
use Rattle.std.proofs.lemmas.Bool.{and_from, or_right}
use Rattle.std.proofs.lemmas.Bool.Decides.{nat_tests}
use Rattle.hp_model.specs.declared.platforms.Platform.{Platform}
use Rattle.hp_model.specs.declared.outcomes.Outcome.{Outcome}
use Rattle.hp_model.specs.declared.outcomes.Outcome.TheVariants as outcome
use Rattle.hp_model.specs.declared.outcomes.Refusal.{Refusal}
use Rattle.hp_model.specs.declared.outcomes.Refusal.TheVariants.{Foreign, Disabled, Both, AlreadyKnown, GateHeld, NoUnplug, NotKnown, NotArrived, NotAtGate, NotCheckedIn, NotParked, StillPending}
use Rattle.hp_model.specs.declared.entries.Entry.{Entry}
use Rattle.hp_model.specs.declared.labels.Label.TheVariants.{T}
use Rattle.hp_model.specs.Platform.{IsFit, tile}
use Rattle.hp_model.specs.Block.{is_in}
use Rattle.hp_model.specs.SharedBytes.{layout_of}
use Rattle.hp_model.specs.Slots.{slot_among}
use Rattle.hp_model.specs.State.{State, at, start}
use Rattle.hp_model.specs.Firmware.{same_outcome}
use Rattle.hp_model.specs.Sessions.{is_disturbed}
use Rattle.hp_model.specs.Runs.{run_on}
use Rattle.hp_model.specs.Events.{outcome_in}
use Rattle.hp_model.specs.Transitions.{Transition, transitions, entries_of}
use Rattle.hp_model.specs.Account.{bound, with_bound}
use Rattle.hp_model.specs.Outcomes.{Telling, own_of, telling, when_told, each_told, was_let_in, has_slot, is_not_at_gate, is_not_checked_in, is_at_tile}
use Rattle.hp_model.proofs.AtEach.{made as step_made, each_passes}
use Rattle.hp_sealed.specs.Left.{Sound}
use Rattle.hp_sealed.specs.Booting.{IsBooted}
use Rattle.hp_model.proofs.Same.{same_outcome-equal}
use Rattle.hp_sealed.proofs.Starts.{sound, starts}
use Rattle.hp_sealed.proofs.Goes.{boot_goes, refused_goes}
use Rattle.hp_sealed.proofs.HandOver.{IsBefore}
use Rattle.hp_sealed.proofs.Runs.{Made, made}
use Rattle.hp_safety.proofs.Events.{keeps}
use Rattle.hp_safety.proofs.Runs.{IsHanded, rebase}
use Rattle.hp_safety.proofs.Named.{Accounted, accounted_on}
use Rattle.hp_safety.proofs.Ties.{session_of, TiedAt, tie_of}
use Rattle.hp_safety.proofs.Held.{Knows, knows_first, knows_on, boot_event}
use Rattle.hp_exact.proofs.Showing.{shows_refused, add_in, shows_add}
use Rattle.hp_exact.proofs.Naming.{ids_of, polled}
use Rattle.hp_exact.proofs.Invariant.{Invariant}
use Rattle.hp_exact.proofs.Wholes.{Whole, whole_begins, whole_goes}
use Rattle.hp_exact.proofs.AddingHome.{IsHome, in_end}
use Rattle.hp_exact.proofs.Stood.{stood}
use Rattle.hp_exact.proofs.Stepping.{AtMonarch, told_by}
use Rattle.hp_exact.proofs.AddingTrail.{own, before, trail_of, own_entries, own_size}
use Rattle.hp_exact.proofs.AddingTie.{Told, ToldNot, AddAt}
use Rattle.hp_exact.proofs.Adding.{Shown, shown_on}

-- lists are equal to themselves
itself : (n : ℕ) → (n == n) ≡ true
itself n = grind (arith, nat_tests)

eq_itself : (xs : List ℕ) → bytes_eq xs xs ≡ true
eq_itself [] = refl
eq_itself (x ∷ xs) = let i = itself x in rw i (eq_itself xs)

-- places in lists
place_last : (ids : List ℕ) (a : ℕ) → is_in a ids ≡ false → slot_among (ids ++ a ∷ []) a ≡ length ids
place_last [] a e = let i = itself a in rw i refl
place_last (x ∷ xs) a e = by_head (x == a) e (λ f. place_last xs a f)
  where
    by_head : (c : Bool) → (c || is_in a xs) ≡ false → (is_in a xs ≡ false → slot_among (xs ++ a ∷ []) a ≡ length xs) → (if c then 0 else slot_among (xs ++ a ∷ []) a + 1) ≡ suc (length xs)
    by_head true f more = absurd cc
    by_head false f more = let i = more f in omega (arith, i)

has_its_slot : (old now : List ℕ) (apic slot : ℕ) → now ≡ with_bound (Some apic) old → slot ≡ slot_among now apic → has_slot old now apic slot ≡ true
has_its_slot old now apic slot grown is = by_place (is_in apic old) refl grown
  where
    by_place : (b : Bool) → is_in apic old ≡ b → now ≡ (if b then old else old ++ apic ∷ []) → has_slot old now apic slot ≡ true
    by_place true f g = let same : slot_among now apic ≡ slot = sym is in let i = itself slot in rw (same, i, g, f) refl
    by_place false f g =
        let last = place_last old apic f in
        let same : slot ≡ length old = is ∙ (ap (λ ids. slot_among ids apic) g ∙ last) in
        let i = itself (length old) in
        rw (g, last, same, i, f, in_end old apic) refl

-- what is kept of each state
abbrev pub Follows : Platform → List Transition → State → Type 0
Follows p past s = Whole p past s × Knows p past s × (IsBefore p s ⊎ (IsHanded p s × Accounted p past s × Shown p (entries_of past) s.writes (IsHome p s) s.monarch))

module _ (p : Platform) (fits : IsFit p) where
  fit : Sound p
  fit = sound p fits

  pub follows_first : Follows p [] (start p)
  follows_first = (whole_begins p fits, knows_first p fits, inl (inl (starts p fits)))

  pub follows_on : (past : List Transition) (s t : State) (e : Entry) → Follows p past s → run_on p s e ≡ Some t → Follows p (step_made s e t ∷ past) t
  follows_on past s t e h on = (whole_goes p fit (ids_of p fits) past s t e h.0 on, knows_on p fits past s t e h.1 on, by_case h.2 (knows_on p fits past s t e h.1 on))
    where
      m : Made p s e t
      m = made p s e t on

      After : State → Type 0
      After u = IsBefore p u ⊎ (IsHanded p u × Accounted p (step_made s e u ∷ past) u × Shown p (e ∷ entries_of past) u.writes (IsHome p u) u.monarch)

      sealed : (u : State) → Knows p (step_made s e u ∷ past) u → IsBooted p u → After u
      sealed u all (inl b) = inl (inl b)
      sealed u all (inr (inl b)) = inl (inr b)
      sealed u (inl k) (inr (inr z)) = inl k.0
      sealed u (inr k) (inr (inr z)) = inr (k.0, k.1, subst (λ r. Shown p (e ∷ entries_of past) u.writes (IsHome p u) r) (sym z.cpus.begun) tt)

      by_case : IsBefore p s ⊎ (IsHanded p s × Accounted p past s × Shown p (entries_of past) s.writes (IsHome p s) s.monarch) → Knows p (step_made s e t ∷ past) t → After t
      by_case (inl (inl b)) all = subst (λ u. Knows p (step_made s e u ∷ past) u → After u) m.state (λ k. sealed m.after.state k (boot_goes p s e.event m.after fit b m.step).0) all
      by_case (inl (inr b)) all = absurd (refused_goes p s e.event m.after b m.step)
      by_case (inr k) all = inr (
        subst (IsHanded p) m.state (rebase p s.writes m.after.state fit (keeps p s.writes s e.event m.after fit k.0 m.step)),
        accounted_on p past s t e fit k.0 on k.1,
        shown_on p fit (polled p fits) past s (stood p s fit k.0) k.0 k.1 (h.0.handed k.0.handed) k.2 (ids_of p fits) e t on,
      )

  -- what is told at T
  module _ (past : List Transition) (s : State) (handed : IsHanded p s) (acc : Accounted p past s) (inv : Invariant p past s) (h : Shown p (entries_of past) s.writes (IsHome p s) s.monarch) (test : Telling → Bool)
      (passes : Told p.polls (trail_of p s.monarch.add.apic (own p (entries_of past))) (bound p (before p (entries_of past))) (bound p (entries_of past)) (IsHome p s) s.monarch.add s.monarch.outcome → is_disturbed p (entries_of past) ≡ s.disturbed → test (telling p past s s.monarch.outcome) ≡ true) where
    says : (o : Outcome) → AtMonarch p s T → same_outcome o s.monarch.outcome ≡ true → test (telling p past s o) ≡ true
    says o here same =
        let tied : TiedAt (bound p (entries_of past)) (session_of p (entries_of past)) s.monarch (tie_of T) = subst (λ m. TiedAt (bound p (entries_of past)) (session_of p (entries_of past)) s.monarch (tie_of m)) here.label acc.tied in
        let told : AddAt (layout_of p) (trail_of p s.monarch.add.apic (own p (entries_of past))) (bound p (before p (entries_of past))) s.writes (IsHome p s) s.monarch T = subst (AddAt (layout_of p) (trail_of p s.monarch.add.apic (own p (entries_of past))) (bound p (before p (entries_of past))) s.writes (IsHome p s) s.monarch) here.label h in
        subst (λ x. test (telling p past s x) ≡ true) (sym (same_outcome-equal o s.monarch.outcome same))
        (passes (subst (λ ids. Told p.polls (trail_of p s.monarch.add.apic (own p (entries_of past))) (bound p (before p (entries_of past))) ids (IsHome p s) s.monarch.add s.monarch.outcome) tied.0 told) (inv.tied.called (let label = here.label in rw label refl)).2)

    pub told_passes : (e : Entry) (t : State) → run_on p s e ≡ Some t → when_told p test past s (outcome_in e.event) ≡ true
    told_passes e t is = told_by p test past s (stood p s fit handed) says e t is

  -- nothing is told before the hand-over
  pub silent : (test : Telling → Bool) (past : List Transition) (s t : State) (e : Entry) → IsBefore p s → run_on p s e ≡ Some t → when_told p test past s (outcome_in e.event) ≡ true
  silent test past s t e (inl b) on = let m = made p s e t on in let none = ap outcome_in (boot_event p s e.event m.after b m.step) in rw none refl
  silent test past s t e (inr b) on = absurd (let m = made p s e t on in refused_goes p s e.event m.after b m.step)

  -- a test that what is told at T passes
  law_by : (test : Telling → Bool) → ((past : List Transition) (s : State) → Told p.polls (trail_of p s.monarch.add.apic (own p (entries_of past))) (bound p (before p (entries_of past))) (bound p (entries_of past)) (IsHome p s) s.monarch.add s.monarch.outcome → is_disturbed p (entries_of past) ≡ s.disturbed → test (telling p past s s.monarch.outcome) ≡ true)
      → (es : List Entry) → each_told p test (transitions p es) ≡ true
  law_by test passes es =
      each_passes p (Follows p) follows_on (λ older x. when_told p test older x.before (outcome_in x.entry.event)) (λ past s t e h on. by_case past s t e h.0 h.2 on) follows_first es
    where
      by_case : (past : List Transition) (s t : State) (e : Entry) → Whole p past s → IsBefore p s ⊎ (IsHanded p s × Accounted p past s × Shown p (entries_of past) s.writes (IsHome p s) s.monarch) → run_on p s e ≡ Some t → when_told p test past s (outcome_in e.event) ≡ true
      by_case past s t e whole (inl b) on = silent test past s t e b on
      by_case past s t e whole (inr k) on = told_passes past s k.0 k.1 (whole.handed k.0.handed) k.2 test (passes past s) e t on

-- each part
module _ (p : Platform) (past : List Transition) (s : State) where
  abbrev Now : Outcome → Type 0
  Now o = Told p.polls (trail_of p s.monarch.add.apic (own p (entries_of past))) (bound p (before p (entries_of past))) (bound p (entries_of past)) (IsHome p s) s.monarch.add o

  abbrev NowNot : Refusal → Type 0
  NowNot why = ToldNot p.polls (trail_of p s.monarch.add.apic (own p (entries_of past))) s.monarch.add why

  abbrev mine : List Entry
  mine = own p (entries_of past)

  let_in : (cpu apic slot : ℕ) → Now (outcome.Added cpu apic slot) → was_let_in p apic (entries_of (own_of p past)) ≡ true
  let_in cpu apic slot h = rw (own_entries p past, h.same_apic) (and_from _ _ h.arrived h.entered)

  has_place : (cpu apic slot : ℕ) → Now (outcome.Added cpu apic slot) → has_slot (bound p (drop (length (own_of p past)) (entries_of past))) (bound p (entries_of past)) apic slot ≡ true
  has_place cpu apic slot h =
      rw (own_size p past, h.same_apic, h.same_slot) (has_its_slot (bound p (before p (entries_of past))) (bound p (entries_of past)) s.monarch.add.apic s.monarch.add.slot h.grown h.is_place)

  at_gate : (apic : ℕ) → NowNot (NotAtGate 0 apic) → is_not_at_gate p apic mine ≡ true
  at_gate apic h = rw (h.same_apic, h.three, h.flags, h.pairs, eq_itself (replicate p.polls 0)) refl

  checked_in : (apic : ℕ) → NowNot (NotCheckedIn 0 apic) → is_not_checked_in p apic mine ≡ true
  checked_in apic h = rw (h.same_apic, h.three, h.seen, h.arrivals, eq_itself (replicate p.polls 0)) refl

  looked : (why : Refusal) → Now (outcome.Refused why) → shows_refused p (telling p past s (outcome.Refused why)) why ≡ true
  looked (Disabled cpu status) h = refl
  looked (Both cpu status) h = refl
  looked (AlreadyKnown cpu apic slot) h = refl
  looked (GateHeld cpu apic other) h = refl
  looked (NotAtGate cpu apic) h = ap (is_not_at_gate p apic) (own_entries p past) ∙ at_gate apic h
  looked (NotCheckedIn cpu apic) h = ap (is_not_checked_in p apic) (own_entries p past) ∙ checked_in apic h
  looked (NoUnplug cpu features) h = refl
  looked (NotKnown cpu apic) h = refl
  looked (NotArrived cpu apic) h = refl
  looked (NotParked cpu apic) h = refl
  looked (Foreign cpu apic) h = refl
  looked (StillPending cpu status) h = refl

-- presence
module _ (p : Platform) (past : List Transition) (s : State) (flag : is_disturbed p (entries_of past) ≡ s.disturbed) where
  at_home : (cpu slot : ℕ) → IsHome p s cpu slot → (is_disturbed p (entries_of past) || is_at_tile p slot (at s cpu)) ≡ true
  at_home cpu slot home = by_flag s.disturbed refl
    where
      by_flag : (b : Bool) → s.disturbed ≡ b → (is_disturbed p (entries_of past) || is_at_tile p slot (at s cpu)) ≡ true
      by_flag true is = let f = flag ∙ is in rw f refl
      by_flag false is =
          let there = home is in
          let present = there.0 in
          let place = there.1 in
          let i = itself (tile p slot) in
          or_right (is_disturbed p (entries_of past)) (is_at_tile p slot (at s cpu)) (rw (present, place, i) refl)

  -- all of it
  is_shown : (o : Outcome) → Now p past s o → add_in p (telling p past s o) o ≡ true
  is_shown (outcome.Added cpu apic slot) h = and_from _ _ (let_in p past s cpu apic slot h) (and_from _ _ (has_place p past s cpu apic slot h) (at_home cpu slot h.there))
  is_shown (outcome.Ejected cpu apic slot) h = refl
  is_shown (outcome.Refused why) h = looked p past s why h

pub adds_law : (p : Platform) (es : List Entry) → IsFit p → each_told p (shows_add p) (transitions p es) ≡ true
adds_law p es fits = law_by p fits (shows_add p) (λ past s told flag. is_shown p past s flag s.monarch.outcome told) es
