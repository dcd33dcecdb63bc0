-- Every state of a run: what its entries tell of an eject so far; and so refusals of ejects show.
use Rattle.std.proofs.Common.{ℕ, ◌≡◌, ◌<◌, ◌≤◌, Bool, true, false, List, [], ◌∷◌, Option, Some, None, refl, sym, ap, subst, ◌∙◌, arith}
use Rattle.std.proofs.lemmas.Bool.{eqb-true, ltb-true}
use Rattle.hp_model.specs.declared.platforms.Platform.{Platform}
use Rattle.hp_model.specs.declared.labels.Label.{Label}
use Rattle.hp_model.specs.declared.labels.Label.TheVariants.{E0, E1, E2, E3, E4a, E4b, E4c, E4d, E4e, E4f, E4g, E4h, T}
use Rattle.hp_model.specs.declared.outcomes.Outcome.{Outcome}
use Rattle.hp_model.specs.declared.outcomes.Outcome.TheVariants.{Refused}
use Rattle.hp_model.specs.declared.outcomes.Refusal.{Refusal}
use Rattle.hp_model.specs.declared.outcomes.Refusal.TheVariants.{Disabled, Both, AlreadyKnown, GateHeld, NotAtGate, NotCheckedIn, NoUnplug, NotKnown, NotArrived, NotParked, Foreign, StillPending}
use Rattle.hp_model.specs.declared.entries.Entry.{Entry}
use Rattle.hp_model.specs.Platform.{IsFit, count_of, apic_of}
use Rattle.hp_model.specs.Cpu.{smm_address}
use Rattle.hp_model.specs.Boot.{is_handed}
use Rattle.hp_model.specs.declared.labels.Handler.{Handler}
use Rattle.hp_model.specs.declared.labels.Handler.TheVariants.{First, Relocated, Monarch as Monarchs}
use Rattle.hp_model.specs.Labels.{handler_of, mark_of}
use Rattle.hp_model.specs.SharedBytes.{layout_of}
use Rattle.hp_model.specs.Handlers.{runs_at, is_current}
use Rattle.hp_model.specs.State.{State, at, start}
use Rattle.hp_model.specs.Step.{is_after_broadcast}
use Rattle.hp_model.specs.Runs.{run_on}
use Rattle.hp_model.specs.Transitions.{Transition, entries_of}
use Rattle.hp_model.specs.Sessions.{is_disturbed}
use Rattle.hp_model.specs.Outcomes.{own_of, telling}
use Rattle.hp_model.proofs.AtEach.{made}
use Rattle.hp_sealed.specs.Left.{Sound}
use Rattle.hp_model.proofs.Marks.{same_label as one_label}
use Rattle.hp_safety.proofs.Needs.{Nothing, Ejecting, need_of, MonarchNeeds, Needs}
use Rattle.hp_safety.proofs.Invariant.{IsAtCell, AtCell, facts_of}
use Rattle.hp_safety.proofs.Runs.{IsHanded}
use Rattle.hp_exact.proofs.Stood.{stood}
use Rattle.hp_exact.proofs.Monarchs.{is_among, ejecting}
use Rattle.hp_exact.proofs.Naming.{Ids, polled}
use Rattle.hp_exact.proofs.Invariant.{is_reporting}
use Rattle.hp_exact.proofs.Wholes.{fresh_at_hand_over}
use Rattle.hp_exact.proofs.Quiet.{handed_of}
use Rattle.hp_exact.proofs.Ejecting.{shows_reads, may_tell, SaidAt, Owns}
use Rattle.hp_exact.proofs.EjectReads.{said_fresh, said_goes}
use Rattle.hp_exact.proofs.Showing.{refusal_shows}
use Rattle.hp_exact.proofs.LostLaw.{Lossless, lossless_begins, lossless_goes}

ejecting_needs : (l : Label) → is_among l ejecting ≡ true → (handler_of l ≡ Monarchs) × (need_of l ≡ Ejecting)
ejecting_needs E0 e = (refl, refl)
ejecting_needs E1 e = (refl, refl)
ejecting_needs E2 e = (refl, refl)
ejecting_needs E3 e = (refl, refl)
ejecting_needs E4a e = (refl, refl)
ejecting_needs E4b e = (refl, refl)
ejecting_needs E4c e = (refl, refl)
ejecting_needs E4d e = (refl, refl)
ejecting_needs E4e e = (refl, refl)
ejecting_needs E4f e = (refl, refl)
ejecting_needs E4g e = (refl, refl)
ejecting_needs E4h e = (refl, refl)
ejecting_needs _ e = absurd cc

telling_reports : (l : Label) → is_among l (T ∷ []) ≡ true → (is_after_broadcast l ≡ true) × (is_reporting l ≡ true)
telling_reports T e = (refl, refl)
telling_reports _ e = absurd cc

-- the slot of a running eject is one that a processor may get
pub eject_slot : (p : Platform) (s : State) → IsHanded p s → is_among s.monarch.label ejecting ≡ true → s.monarch.eject.slot < count_of p
eject_slot p s h mine = by_address (smm_address (at s 0)) refl
  where
    needs : (handler_of s.monarch.label ≡ Monarchs) × (need_of s.monarch.label ≡ Ejecting)
    needs = ejecting_needs s.monarch.label mine

    of_monarch : (l : Label) → handler_of l ≡ Monarchs → MonarchNeeds (facts_of p s.monarch s.writes (apic_of p 0) (at s 0).base) (need_of l) → l ≡ s.monarch.label → s.monarch.eject.slot < count_of p
    of_monarch l part met is = ltb-true s.monarch.eject.slot (count_of p) (subst (MonarchNeeds (facts_of p s.monarch s.writes (apic_of p 0) (at s 0).base)) (ap need_of is ∙ needs.1) met)

    by_handler : (l : Label) (q : Handler) → handler_of l ≡ q → runs_at (layout_of p) q 0 (at s 0).smbase ≡ true → (a : ℕ) → AtCell p s.monarch s.writes 0 (at s 0).smbase (at s 0).base a l → s.monarch.eject.slot < count_of p
    by_handler l First is runs a c = absurd cc
    by_handler l Relocated is runs a c = absurd cc
    by_handler l Monarchs is runs a c =
        let due = subst (λ q. is_current s.monarch q l ≡ true) is c.current in
        let met = c.met in
        of_monarch l is (subst (λ q. Needs (facts_of p s.monarch s.writes (apic_of p 0) (at s 0).base) q (need_of l)) is met) (one_label l s.monarch.label (eqb-true (mark_of l) (mark_of s.monarch.label) due))

    by_address : (o : Option ℕ) → smm_address (at s 0) ≡ o → s.monarch.eject.slot < count_of p
    by_address None is = absurd (let both : Nothing ≡ Ejecting = sym (h.rests is) ∙ needs.1 in cc)
    by_address (Some a) is =
        let c : IsAtCell p s.monarch s.writes 0 (at s 0).smbase (at s 0).base (Some a) = subst (IsAtCell p s.monarch s.writes 0 (at s 0).smbase (at s 0).base) is (h.stand.each 0) in
        by_handler c.0 (handler_of c.0) refl c.1.runs a c.1

-- every state of a run
pub record Refusing (p : Platform) (past : List Transition) (s : State) : Type 0 where
  pub lossless : Lossless p past s
  pub said : is_handed s.stage ≡ true → SaidAt p (entries_of (own_of p past)) s.disturbed s.writes s.monarch s.monarch.label

pub refusing_begins : (p : Platform) → IsFit p → Refusing p [] (start p)
refusing_begins p fits = record { lossless = lossless_begins p fits; said = λ e. absurd cc }

pub refusing_goes : (p : Platform) → Sound p → Ids p → 1 ≤ p.polls → (past : List Transition) (s t : State) (e : Entry) → Refusing p past s → run_on p s e ≡ Some t → Refusing p (made s e t ∷ past) t
refusing_goes p fit ids polled past s t e h is = record { lossless = next; said = by_said (is_handed s.stage) refl }
  where
    next : Lossless p (made s e t ∷ past) t
    next = lossless_goes p fit ids past s t e h.lossless is

    owns : is_handed t.stage ≡ true → Owns p t.disturbed t.monarch
    owns over there quiet = let c = telling_reports t.monarch.label there in ((next.whole.handed over).undisturbed c.0 quiet).reported.own c.1

    by_said : (b : Bool) → is_handed s.stage ≡ b → is_handed t.stage ≡ true → SaidAt p (entries_of (own_of p (made s e t ∷ past))) t.disturbed t.writes t.monarch t.monarch.label
    by_said true on over =
        let handed = handed_of p s h.lossless.whole.good on in
        said_goes p fit past s (stood p s fit handed) polled (λ mine. let less = eject_slot p s handed mine in let few = fit.few in omega (arith, less, few)) (λ after quiet. (h.lossless.losses on after quiet).never) (h.said on) e t is (owns over)
    by_said false on over = said_fresh p (entries_of (own_of p (made s e t ∷ past))) t.disturbed t.writes t.monarch t.monarch.label (fresh_at_hand_over p s t e fit h.lossless.whole.good on is over)

-- what is told
pub refused_by : (p : Platform) (past : List Transition) (s : State) (d : Bool) → is_disturbed p (entries_of past) ≡ d → (why : Refusal) → shows_reads p (entries_of (own_of p past)) (Refused why) ≡ true → (d ≡ false → may_tell (Refused why) ≡ true) → (u : Outcome) → refusal_shows p (telling p past s u) why ≡ true
refused_by p past s d is (Disabled cpu status) shows may u = refl
refused_by p past s d is (Both cpu status) shows may u = refl
refused_by p past s d is (AlreadyKnown cpu apic slot) shows may u = refl
refused_by p past s d is (GateHeld cpu apic other) shows may u = refl
refused_by p past s d is (NotAtGate cpu apic) shows may u = refl
refused_by p past s d is (NotCheckedIn cpu apic) shows may u = refl
refused_by p past s d is (NoUnplug cpu features) shows may u = refl
refused_by p past s d is (NotKnown cpu apic) shows may u = refl
refused_by p past s d is (NotArrived cpu apic) shows may u = refl
refused_by p past s d is (NotParked cpu apic) shows may u = shows
refused_by p past s true is (Foreign cpu apic) shows may u = is
refused_by p past s false is (Foreign cpu apic) shows may u = absurd (let f = may refl in cc)
refused_by p past s true is (StillPending cpu status) shows may u = rw is shows
refused_by p past s false is (StillPending cpu status) shows may u = absurd (let f = may refl in cc)
