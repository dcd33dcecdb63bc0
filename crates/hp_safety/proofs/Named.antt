-- What the entries of a run have told of whoever is relocated, past the gate, or may pass it.
use Rattle.std.proofs.Common.{ℕ, ◌≡◌, ◌≢◌, ◌+◌, ◌<◌, ◌≤◌, ◌==◌, ◌⊎◌, inl, inr, Bool, true, false, not, ◌&&◌, ◌||◌, List, [], ◌∷◌, ◌++◌, Option, Some, None, refl, sym, ap, subst, ◌∙◌, arith}
use Rattle.std.specs.List.{list_any}
use Rattle.std.proofs.lemmas.Bool.{and_from, eqb-true}
use Rattle.std.proofs.lemmas.Bool.Decides.{nat_tests}
use Rattle.hp_model.specs.declared.platforms.Platform.{Platform}
use Rattle.hp_model.specs.declared.entries.Entry.{Entry}
use Rattle.hp_model.specs.declared.entries.Event.{Event}
use Rattle.hp_model.specs.declared.entries.Event.TheVariants.{Insert, Remove, Do, TakeSmi, TakeInit, Resume, Tell}
use Rattle.hp_model.specs.declared.labels.Label.{Label}
use Rattle.hp_model.specs.declared.labels.Label.TheVariants.{F1, N7}
use Rattle.hp_model.specs.Platform.{IsFit, apic_of}
use Rattle.hp_model.specs.Memory.{byte_at, value_from, touched}
use Rattle.hp_model.specs.Cpu.{smm_address}
use Rattle.hp_model.specs.Block.{is_in}
use Rattle.hp_model.specs.Boot.{value_in}
use Rattle.hp_model.specs.Labels.{cell_of}
use Rattle.hp_model.specs.SharedBytes.{gate}
use Rattle.hp_model.specs.Slots.{boot_ids}
use Rattle.hp_model.specs.Monarch.{is_that}
use Rattle.hp_model.specs.State.{State, at, start}
use Rattle.hp_model.specs.Step.{After, answer_of, is_enabled}
use Rattle.hp_model.specs.Runs.{same_address, run_on, address_of}
use Rattle.hp_model.specs.Events.{is_access_of, is_entry_of}
use Rattle.hp_model.specs.Transitions.{Transition, entries_of, newest, older_than}
use Rattle.hp_model.specs.Account.{is_at, with_bound, opened_for, bound}
use Rattle.hp_model.specs.Sessions.{session, triples}
use Rattle.hp_model.specs.Smbases.{passes, writes_gate, is_insert_of, is_opened, is_let_through, comes_or_passes}
use Rattle.hp_model.proofs.AtEach.{made as step_made}
use Rattle.hp_sealed.specs.Left.{IsLeft, Sound}
use Rattle.hp_sealed.specs.Sealed.{IsOutside, IsSealed}
use Rattle.hp_sealed.specs.Booting.{IsBooted}
use Rattle.hp_sealed.proofs.Left.{pick, pick_by}
use Rattle.hp_sealed.proofs.Values.{value_left}
use Rattle.hp_sealed.proofs.Starts.{sound, starts}
use Rattle.hp_sealed.proofs.Goes.{stepped, boot_goes, refused_goes}
use Rattle.hp_sealed.proofs.HandOver.{IsBefore, before_outside}
use Rattle.hp_sealed.proofs.Runs.{Made, made}
use Rattle.hp_safety.proofs.Invariant.{IsShut, is_past}
use Rattle.hp_safety.proofs.Ties.{Fresh, tie_of, session_of, session_more, bound_more, TiedAt, Tied}
use Rattle.hp_safety.proofs.Placing.{in_end, in_more}
use Rattle.hp_safety.proofs.Marked.{at_none}
use Rattle.hp_safety.proofs.GateRows.{Passes, Opens, Moves}
use Rattle.hp_safety.proofs.Moves.{moves}
use Rattle.hp_safety.proofs.Events.{keeps}
use Rattle.hp_safety.proofs.Entering.{may_outside}
use Rattle.hp_safety.proofs.Accounting.{tied_step}
use Rattle.hp_safety.proofs.Runs.{IsHanded, rebase, sealed_handed}
use Rattle.hp_safety.proofs.Backward.{newest_it, older_it, newest_other, older_other, no_place, some_place, bound_step, session_step}

-- the gate is open to this APIC ID as the transitions say
pub record IsOpenFor (p : Platform) (past : List Transition) (apic : ℕ) : Type 0 where
  pub bound : is_in apic (bound p (entries_of past)) ≡ true
  pub opened : is_opened p apic (newest writes_gate past) (older_than writes_gate past) ≡ true

-- who is past it
pub record IsPassed (p : Platform) (past : List Transition) (k : ℕ) : Type 0 where
  pub bound : is_in (apic_of p k) (bound p (entries_of past)) ≡ true
  pub passed : is_let_through p k (newest (comes_or_passes p k) past) (older_than (comes_or_passes p k) past) ≡ true

-- what the transitions of a run say of its state after the hand-over
pub record Accounted (p : Platform) (past : List Transition) (s : State) : Type 0 where
  pub tied : Tied (bound p (entries_of past)) (session_of p (entries_of past)) s.monarch
  pub out : (k : ℕ) → (at s k).present ≡ true → (at s k).smbase ≢ 0x30000 → is_in (apic_of p k) (bound p (entries_of past)) ≡ true
  pub aloft : (k : ℕ) → is_past (smm_address (at s k)) ≡ true → IsPassed p past k
  pub opened : IsShut s.writes ⊎ IsOpenFor p past (value_from (byte_at s.writes) gate 8)

pub itself : (n : ℕ) → (n == n) ≡ true
itself n = grind (arith, nat_tests)

-- one entry more
with_more : (a : ℕ) (o : Option ℕ) (ids : List ℕ) → is_in a ids ≡ true → is_in a (with_bound o ids) ≡ true
with_more a None ids e = e
with_more a (Some apic) ids e = pick (λ b. is_in a b ≡ true) (is_in apic ids) ids (ids ++ apic ∷ []) e (in_more a apic ids e)

with_itself : (apic : ℕ) (ids : List ℕ) → is_in apic (with_bound (Some apic) ids) ≡ true
with_itself apic ids = pick_by (λ b. is_in apic b ≡ true) (is_in apic ids) ids (ids ++ apic ∷ []) (λ e. e) (λ e. in_end apic ids)

grows : (p : Platform) (es : List Entry) (e : Entry) (a : ℕ) → is_in a (bound p es) ≡ true → is_in a (bound p (e ∷ es)) ≡ true
grows p es e a h = subst (λ b. is_in a b ≡ true) (sym (bound_step p es e)) (with_more a (opened_for p e) (bound p es) h)

-- at which label an entry is
pub at_cell : (p : Platform) (e : Entry) (a : Option ℕ) (x : ℕ) (l : Label) → a ≡ Some x → cell_of p l 0 ≡ x → e.at ≡ a → is_at p l e ≡ true
at_cell p e a x l is cell place = rw (place, is, cell) (itself x)

cell_at : (p : Platform) (e : Entry) (l : Label) → is_at p l e ≡ true → e.at ≡ Some (cell_of p l 0)
cell_at p e l is = by_address e.at refl is
  where
    by_address : (o : Option ℕ) → e.at ≡ o → same_address o (Some (cell_of p l 0)) ≡ true → o ≡ Some (cell_of p l 0)
    by_address None at f = absurd cc
    by_address (Some x) at f = ap Some (eqb-true x (cell_of p l 0) f)

module _ (p : Platform) (past : List Transition) (s t : State) (e : Entry) (fit : Sound p) (move : Moves p s e.event t) (place : address_of s e.event ≡ e.at) (acc : Accounted p past s) where
  abbrev x : Transition
  x = step_made s e t

  -- the gate, as long as no byte of it is written
  not_written : ((i : ℕ) → i < 8 → IsLeft (gate + i) s.writes t.writes) → writes_gate x ≡ false
  not_written left = no_place (λ i. not (touched t.writes (gate + i) == touched s.writes (gate + i))) 8 (λ i less. let same = (left i less).touched in rw same (off (touched s.writes (gate + i) == touched s.writes (gate + i)) (itself (touched s.writes (gate + i)))))
    where
      off : (c : Bool) → c ≡ true → not c ≡ false
      off true f = refl
      off false f = absurd cc

  open_more : (apic : ℕ) → ((i : ℕ) → i < 8 → IsLeft (gate + i) s.writes t.writes) → IsOpenFor p past apic → IsOpenFor p (x ∷ past) apic
  open_more apic left o =
      let not_it = not_written left in
      record {
        bound = grows p (entries_of past) e apic o.bound;
        opened = rw (newest_other writes_gate x past not_it, older_other writes_gate x past not_it) o.opened;
      }

  -- N7 opens it
  opened_now : Opens p s e.event t → IsOpenFor p (x ∷ past) s.monarch.add.apic
  opened_now o =
      let apic = s.monarch.add.apic in
      let seven : is_at p N7 e ≡ true = at_cell p e (smm_address (at s 0)) (cell_of p N7 0) N7 o.place refl (sym (sym (ap (address_of s) o.event) ∙ place)) in
      let stores : opened_for p e ≡ Some apic = rw (seven, o.event) refl in
      let tied : TiedAt (bound p (entries_of past)) (session_of p (entries_of past)) s.monarch Fresh = subst (λ l. TiedAt (bound p (entries_of past)) (session_of p (entries_of past)) s.monarch (tie_of l)) o.label acc.tied in
      let writes : writes_gate x ≡ true = some_place (λ i. not (touched t.writes (gate + i) == touched s.writes (gate + i))) 0 8 (omega arith) (more (touched t.writes gate) (touched s.writes gate) o.written) in
      record {
        bound = subst (λ b. is_in apic b ≡ true) (sym (bound_step p (entries_of past) e ∙ ap (λ n. with_bound n (bound p (entries_of past))) stores)) (with_itself apic (bound p (entries_of past)));
        opened = rw (newest_it writes_gate x past writes, older_it writes_gate x past writes) (and_from (is_that (opened_for p e) apic) (list_any (is_insert_of apic) (triples p (session (entries_of past)))) (rw stores (itself apic)) tied.2);
      }
    where
      more : (a b : ℕ) → a ≡ b + 1 → not (a == b) ≡ true
      more a b e = grind (arith, nat_tests)

  opened_next : IsShut t.writes ⊎ IsOpenFor p (x ∷ past) (value_from (byte_at t.writes) gate 8)
  opened_next = elim move.gates [
    | inl shut ↦ inl shut
    | inr more ↦ elim more [
      | inl left ↦
          let same : value_from (byte_at t.writes) gate 8 ≡ value_from (byte_at s.writes) gate 8 = value_left 8 gate s.writes t.writes left in
          elim acc.opened [
            | inl shut ↦ inl (same ∙ shut)
            | inr o ↦ inr (subst (IsOpenFor p (x ∷ past)) (sym same) (open_more (value_from (byte_at s.writes) gate 8) left o))
          ]
      | inr o ↦ inr (subst (IsOpenFor p (x ∷ past)) (sym o.value) (opened_now o))
    ]
  ]

  -- F1 passes it
  passed_now : (k : ℕ) → answer_of s e.event ≡ e.answer → Passes p s e.event k → IsOpenFor p past (apic_of p k) → IsPassed p (x ∷ past) k
  passed_now k answer w o =
      let first : is_at p F1 e ≡ true = at_cell p e (smm_address (at s k)) (cell_of p F1 0) F1 w.place refl (sym (sym (ap (address_of s) w.event) ∙ place)) in
      let mine : is_access_of k e.event ≡ true = ap (is_access_of k) w.event ∙ itself k in
      let found : value_in e.answer ≡ apic_of p k = ap value_in (sym answer ∙ w.found) in
      let it : passes p k e ≡ true = and_from (is_access_of k e.event) (is_at p F1 e && (value_in e.answer == apic_of p k)) mine (and_from (is_at p F1 e) (value_in e.answer == apic_of p k) first (rw found (itself (apic_of p k)))) in
      let kind : comes_or_passes p k x ≡ true = either (is_entry_of k e.event) (passes p k e) it in
      record {
        bound = grows p (entries_of past) e (apic_of p k) o.bound;
        passed = rw (newest_it (comes_or_passes p k) x past kind, older_it (comes_or_passes p k) x past kind) (and_from (passes p k e) (is_opened p (apic_of p k) (newest writes_gate past) (older_than writes_gate past)) it o.opened);
      }
    where
      either : (a b : Bool) → b ≡ true → (a || b) ≡ true
      either true b f = refl
      either false b f = f

  -- who has passed it neither enters SMM nor passes again
  no_entry : (k : ℕ) (v : Event) → is_enabled p s v ≡ true → is_past (smm_address (at s k)) ≡ true → is_entry_of k v ≡ false
  no_entry k (Insert j) may was = refl
  no_entry k (Remove j) may was = refl
  no_entry k (Do j a) may was = refl
  no_entry k (TakeSmi j) may was = by_same (j == k) refl
    where
      by_same : (c : Bool) → (j == k) ≡ c → c ≡ false
      by_same true same = absurd (let none : smm_address (at s k) ≡ None = subst (λ i. smm_address (at s i) ≡ None) (eqb-true j k same) (may_outside (at s j) may) in let g = sym (ap is_past none) ∙ was in cc)
      by_same false same = refl
  no_entry k (TakeInit j) may was = refl
  no_entry k (Resume j) may was = refl
  no_entry k (Tell o) may was = refl

  actor : (k : ℕ) (v : Event) → is_access_of k v ≡ true → address_of s v ≡ smm_address (at s k)
  actor k (Insert j) is = absurd cc
  actor k (Remove j) is = absurd cc
  actor k (Do j a) is = ap (λ i. smm_address (at s i)) (eqb-true j k is)
  actor k (TakeSmi j) is = absurd cc
  actor k (TakeInit j) is = absurd cc
  actor k (Resume j) is = absurd cc
  actor k (Tell o) is = absurd cc

  no_passing : (k : ℕ) → is_past (smm_address (at s k)) ≡ true → passes p k e ≡ false
  no_passing k was = by_tests (is_access_of k e.event) refl (is_at p F1 e) refl
    where
      by_tests : (a : Bool) → is_access_of k e.event ≡ a → (b : Bool) → is_at p F1 e ≡ b → (a && (b && (value_in e.answer == apic_of p k))) ≡ false
      by_tests false f b g = refl
      by_tests true f false g = refl
      by_tests true f true g = absurd
          (let here : smm_address (at s k) ≡ Some (cell_of p F1 0) = sym (actor k e.event f) ∙ (place ∙ cell_at p e F1 g) in
          let both : is_past (Some (cell_of p F1 0)) ≡ true = sym (ap is_past here) ∙ was in
          cc)

  passed_more : (k : ℕ) → is_enabled p s e.event ≡ true → is_past (smm_address (at s k)) ≡ true → IsPassed p past k → IsPassed p (x ∷ past) k
  passed_more k may was w =
      let kind : comes_or_passes p k x ≡ false = rw (no_entry k e.event may was, no_passing k was) refl in
      record {
        bound = grows p (entries_of past) e (apic_of p k) w.bound;
        passed = rw (newest_other (comes_or_passes p k) x past kind, older_other (comes_or_passes p k) x past kind) w.passed;
      }

  past_next : answer_of s e.event ≡ e.answer → is_enabled p s e.event ≡ true → (k : ℕ) → is_past (smm_address (at t k)) ≡ true → IsPassed p (x ∷ past) k
  past_next answer may k f = elim (move.climbs k f) [
    | inl was ↦ passed_more k may was (acc.aloft k was)
    | inr w ↦ elim acc.opened [
      | inl shut ↦ absurd (no_id (apic_of p k) (fit.ids k) (sym shut ∙ w.value))
      | inr o ↦ passed_now k answer w (subst (IsOpenFor p past) w.value o)
    ]
  ]
    where
      no_id : (a : ℕ) → a ≤ 0xffffffff → 0xffffffffffffffff ≡ a → ⊥
      no_id a e f = omega (arith, e, f)

  out_next : (k : ℕ) → (at t k).present ≡ true → (at t k).smbase ≢ 0x30000 → is_in (apic_of p k) (bound p (e ∷ entries_of past)) ≡ true
  out_next k there relocated = elim (move.comes k there) [
    | inl was ↦ elim (move.changes k was there) [
      | inl same ↦ grows p (entries_of past) e (apic_of p k) (acc.out k was (λ f. relocated (same ∙ f)))
      | inr moved ↦ grows p (entries_of past) e (apic_of p k) (acc.aloft k moved.past).bound
    ]
    | inr new ↦ absurd (relocated new)
  ]

-- each step after the hand-over
pub accounted_on : (p : Platform) (past : List Transition) (s t : State) (e : Entry) → Sound p → IsHanded p s → run_on p s e ≡ Some t → Accounted p past s → Accounted p (step_made s e t ∷ past) t
accounted_on p past s t e fit h on acc =
    let m = made p s e t on in
    let step_is = stepped p s e.event m.after m.step in
    let move : Moves p s e.event t = subst (Moves p s e.event) m.state (moves p s.writes s e.event m.after fit h m.step) in
    let answer : answer_of s e.event ≡ e.answer = ap (λ (x : After). x.answer) step_is.is ∙ m.answer in
    record {
      tied = subst (λ b. Tied b (session_of p (e ∷ entries_of past)) t.monarch) (sym (bound_step p (entries_of past) e))
          (subst (λ x. Tied (bound_more p (bound p (entries_of past)) e) x t.monarch) (sym (session_step p (entries_of past) e))
          (subst (λ (u : State). Tied (bound_more p (bound p (entries_of past)) e) (session_more p (session_of p (entries_of past)) e) u.monarch) m.state
          (tied_step p s.writes s e m.after (bound p (entries_of past)) (session_of p (entries_of past)) fit h m.step m.place m.answer acc.tied)));
      out = out_next p past s t e fit move m.place acc;
      aloft = past_next p past s t e fit move m.place acc answer step_is.enabled;
      opened = opened_next p past s t e fit move m.place acc;
    }

-- before the hand-over no entry was made in SMM, and so none at N7
abbrev pub Told : Platform → List Transition → State → Type 0
Told p past s = (IsBefore p s × (bound p (entries_of past) ≡ boot_ids p)) ⊎ (IsHanded p s × Accounted p past s)

pub outside_address : (p : Platform) (s : State) (v : Event) → IsOutside p s → address_of s v ≡ None
outside_address p s (Insert k) h = refl
outside_address p s (Remove k) h = refl
outside_address p s (Do k a) h = h.outside k
outside_address p s (TakeSmi k) h = h.outside k
outside_address p s (TakeInit k) h = h.outside k
outside_address p s (Resume k) h = h.outside k
outside_address p s (Tell o) h = h.outside 0

pub sealed_accounted : (p : Platform) (past : List Transition) (s : State) → bound p (entries_of past) ≡ boot_ids p → IsSealed p s → Accounted p past s
sealed_accounted p past s same h = record {
  tied = subst (Tied (bound p (entries_of past)) (session_of p (entries_of past))) (sym h.cpus.begun) (sym same);
  out = λ k there relocated. elim (h.cpus.slotted k there) [ inl e ↦ absurd (relocated e) | inr own ↦ subst (λ b. is_in (apic_of p k) b ≡ true) (sym same) own.0 ];
  aloft = λ k f. absurd (let g = sym (ap is_past (h.cpus.outside k)) ∙ f in cc);
  opened = inl h.holds.gate;
}

module _ (p : Platform) (fits : IsFit p) where
  fit : Sound p
  fit = sound p fits

  pub told_first : Told p [] (start p)
  unfolding bound
  told_first = inl (inl (starts p fits), refl)

  pub bound_before : (past : List Transition) (s t : State) (e : Entry) → IsBefore p s → bound p (entries_of past) ≡ boot_ids p → run_on p s e ≡ Some t → bound p (e ∷ entries_of past) ≡ boot_ids p
  bound_before past s t e before same on =
      let m = made p s e t on in
      let none : is_at p N7 e ≡ false = at_none p N7 e (sym m.place ∙ outside_address p s e.event (before_outside p s before)) in
      bound_step p (entries_of past) e ∙ (rw none refl ∙ same)

  told_before : (past : List Transition) (s t : State) (e : Entry) → IsBefore p s → bound p (entries_of past) ≡ boot_ids p → run_on p s e ≡ Some t → Told p (step_made s e t ∷ past) t
  told_before past s t e before same on = by_before (made p s e t on) before (bound_before past s t e before same on)
    where
      next_told : (u : State) → bound p (e ∷ entries_of past) ≡ boot_ids p → IsBooted p u → Told p (step_made s e u ∷ past) u
      next_told u is (inl b) = inl (inl b, is)
      next_told u is (inr (inl b)) = inl (inr b, is)
      next_told u is (inr (inr z)) = inr (sealed_handed p u z, sealed_accounted p (step_made s e u ∷ past) u is z)

      by_before : Made p s e t → IsBefore p s → bound p (e ∷ entries_of past) ≡ boot_ids p → Told p (step_made s e t ∷ past) t
      by_before m (inl b) is = subst (λ u. Told p (step_made s e u ∷ past) u) m.state (next_told m.after.state is (boot_goes p s e.event m.after fit b m.step).0)
      by_before m (inr b) is = absurd (refused_goes p s e.event m.after b m.step)

  pub told_on : (past : List Transition) (s t : State) (e : Entry) → Told p past s → run_on p s e ≡ Some t → Told p (step_made s e t ∷ past) t
  told_on past s t e (inl h) on = told_before past s t e h.0 h.1 on
  told_on past s t e (inr h) on =
      let m = made p s e t on in
      inr (subst (IsHanded p) m.state (rebase p s.writes m.after.state fit (keeps p s.writes s e.event m.after fit h.0 m.step)), accounted_on p past s t e fit h.0 on h.1)
