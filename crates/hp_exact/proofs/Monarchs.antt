-- How the monarch's record goes on: what an add or an eject leaves as it was, and what becomes of the next report.
use Rattle.std.proofs.Common.{ℕ, ◌≡◌, ◌≢◌, ◌==◌, Bool, true, false, nat_lt, nat_le, List, [], ◌∷◌, drop, bit_and, refl, sym, ◌∙◌, Option, Some, None, not, subst, ap}
use Rattle.std.specs.List.{list_any}
use Rattle.hp_model.specs.declared.labels.Label.{Label}
use Rattle.hp_model.specs.declared.labels.Label.TheVariants.{F1, F2, F3, F4, F5, F6, R1, R2, R3, R4, R5, R6, NB, N0, N1, N2, N3, N4, N5, N6, N7, N8a, N8b, N9, N10, N11, E0, E1, E2, E3, E4a, E4b, E4c, E4d, E4e, E4f, E4g, E4h, T, E5}
use Rattle.hp_model.specs.declared.outcomes.Outcome.{Outcome}
use Rattle.hp_model.specs.declared.outcomes.Outcome.TheVariants.{Added, Refused}
use Rattle.hp_model.specs.declared.outcomes.Refusal.TheVariants.{Foreign, Disabled, Both, AlreadyKnown, GateHeld, NoUnplug, NotKnown, NotArrived}
use Rattle.hp_model.specs.declared.labels.Handler.TheVariants.{Monarch as Monarchs}
use Rattle.hp_model.specs.Labels.{handler_of, same_label}
use Rattle.hp_model.specs.SharedBytes.{Layout}
use Rattle.hp_model.specs.declared.reports.Report.{Report}
use Rattle.hp_model.specs.Add.{AddNext, AddsAt, Ends, failed, is_last_look}
use Rattle.hp_model.specs.Eject.{EjectNext, EjectsAt, EjectEnds}
use Rattle.hp_model.specs.declared.reports.Facts.{Facts}
use Rattle.hp_model.specs.declared.reports.Decision.{Decision}
use Rattle.hp_model.specs.declared.reports.Decision.TheVariants.{Tell as ToTell, Add as ToAdd, Eject as ToEject}
use Rattle.hp_model.specs.Monarch.{Monarch, refuses, decision, facts_of, at_label, at_tell, adds, ejects, took, answered, taken_up, next_report, after_add, after_eject, held_decision, insert_decision, eject_decision}
use Rattle.hp_model.specs.Handlers.{Seat, next_at}
use Rattle.hp_exact.specs.Refusals.{is_blaming}
use Rattle.hp_sealed.proofs.Left.{pick, pick_by}

-- the label is one of these
abbrev pub is_among : Label → List Label → Bool
is_among l ls = list_any (λ m. same_label l m) ls

abbrev pub adding : List Label
adding = NB ∷ N0 ∷ N1 ∷ N2 ∷ N3 ∷ N4 ∷ N5 ∷ N6 ∷ N7 ∷ N8a ∷ N8b ∷ N9 ∷ N10 ∷ N11 ∷ []

abbrev pub ejecting : List Label
ejecting = E0 ∷ E1 ∷ E2 ∷ E3 ∷ E4a ∷ E4b ∷ E4c ∷ E4d ∷ E4e ∷ E4f ∷ E4g ∷ E4h ∷ []

-- the handlers of other processors leave the record
pub next_other : (y : Layout) (x : Seat) (r : Monarch) (l : Label) (v : ℕ) → handler_of l ≢ Monarchs → (next_at y x r l v).monarch ≡ r
next_other y x r F1 v other = refl
next_other y x r F2 v other = refl
next_other y x r F3 v other = refl
next_other y x r F4 v other = refl
next_other y x r F5 v other = refl
next_other y x r F6 v other = refl
next_other y x r R1 v other = refl
next_other y x r R2 v other = refl
next_other y x r R3 v other = refl
next_other y x r R4 v other = refl
next_other y x r R5 v other = refl
next_other y x r R6 v other = refl
next_other y x r _ v other = absurd (other refl)

-- an add goes on, or is told
pub record AddsOn (r t : Monarch) : Type 0 where
  pub slots : t.slots ≡ r.slots
  pub collection : t.collection ≡ r.collection
  pub taken : t.taken ≡ r.taken
  pub eject : t.eject ≡ r.eject
  pub cpu : t.add.cpu ≡ r.add.cpu
  pub apic : t.add.apic ≡ r.add.apic
  pub place : t.add.slot ≡ r.add.slot
  pub label : is_among t.label (T ∷ adding) ≡ true
  pub told : is_among t.label (T ∷ []) ≡ true → is_blaming t.outcome ≡ false

adds_at : (r : Monarch) (last : List ℕ) (l : Label) (attempt polls : ℕ) (seen : Bool) → is_among l (T ∷ adding) ≡ true → is_among l (T ∷ []) ≡ false → AddsOn r (after_add (AddsAt l (record r.add { attempt = attempt; polls = polls; seen = seen })) (record r { last = last }))
adds_at r last l attempt polls seen is other = record { slots = refl; collection = refl; taken = refl; eject = refl; cpu = refl; apic = refl; place = refl; label = is; told = λ e. absurd (let both : false ≡ true = sym other ∙ e in cc) }

adds_told : (r : Monarch) (last : List ℕ) (o : Outcome) → is_blaming o ≡ false → AddsOn r (after_add (Ends o) (record r { last = last }))
adds_told r last o tame = record { slots = refl; collection = refl; taken = refl; eject = refl; cpu = refl; apic = refl; place = refl; label = refl; told = λ e. tame }

abbrev LedOn : Monarch → List ℕ → AddNext → Type 0
LedOn r last w = AddsOn r (after_add w (record r { last = last }))

adds_failed : (r : Monarch) (last : List ℕ) (o : Outcome) → is_blaming o ≡ false → LedOn r last (failed o r.add)
adds_failed r last o tame = pick (LedOn r last) (nat_lt r.add.attempt 3) _ (Ends o) (adds_at r last N0 _ _ _ refl refl) (adds_told r last o tame)

-- at each label of an add
pub adds_on : (y : Layout) (x : Seat) (r : Monarch) (l : Label) (v : ℕ) → is_among l adding ≡ true → AddsOn r (next_at y x r l v).monarch
adds_on y x r NB v is = adds_at r r.last N0 _ _ _ refl refl
adds_on y x r N0 v is = adds_at r r.last N1 _ _ _ refl refl
adds_on y x r N1 v is = adds_at r r.last N2 _ _ _ refl refl
adds_on y x r N2 v is = adds_at r r.last N3 _ _ _ refl refl
adds_on y x r N3 v is = adds_at r r.last N4 _ _ _ refl refl
adds_on y x r N4 v is = adds_at r r.last N5 _ _ _ refl refl
adds_on y x r N5 v is = adds_at r r.last N6 _ _ _ refl refl
adds_on y x r N6 v is = adds_at r r.last N7 _ _ _ refl refl
adds_on y x r N7 v is = adds_at r r.last N8a _ _ _ refl refl
adds_on y x r N8a v is = pick (LedOn r r.last) (v == 1) _ _ (adds_at r r.last N9 _ _ _ refl refl) (adds_at r r.last N8b _ _ _ refl refl)
adds_on y x r N8b v is = pick (LedOn r _) (v == 1) _ _ (adds_at r _ N9 _ _ _ refl refl) (pick (LedOn r _) (is_last_look r.add) _ _ (adds_at r _ N9 _ _ _ refl refl) (adds_at r _ N8a _ _ _ refl refl))
adds_on y x r N9 v is = pick (LedOn r r.last) r.add.seen _ _ (adds_at r r.last N10 _ _ _ refl refl) (adds_failed r r.last _ refl)
adds_on y x r N10 v is = adds_at r r.last N11 _ _ _ refl refl
adds_on y x r N11 v is = pick (LedOn r _) (v == 1) _ _ (adds_told r _ _ refl) (pick (LedOn r _) (is_last_look r.add) _ _ (adds_failed r _ _ refl) (adds_at r _ N11 _ _ _ refl refl))
adds_on y x r _ v is = absurd cc

-- an eject goes on, or is told
pub record EjectsOn (r t : Monarch) : Type 0 where
  pub slots : t.slots ≡ r.slots
  pub collection : t.collection ≡ r.collection
  pub taken : t.taken ≡ r.taken
  pub add : t.add ≡ r.add
  pub cpu : t.eject.cpu ≡ r.eject.cpu
  pub place : t.eject.slot ≡ r.eject.slot
  pub label : is_among t.label (T ∷ ejecting) ≡ true

ejects_at : (r : Monarch) (l : Label) (polls status : ℕ) → is_among l (T ∷ ejecting) ≡ true → EjectsOn r (after_eject (EjectsAt l (record r.eject { polls = polls; status = status })) r)
ejects_at r l polls status is = record { slots = refl; collection = refl; taken = refl; add = refl; cpu = refl; place = refl; label = is }

ejects_told : (r : Monarch) (o : Outcome) → EjectsOn r (after_eject (EjectEnds o) r)
ejects_told r o = record { slots = refl; collection = refl; taken = refl; add = refl; cpu = refl; place = refl; label = refl }

abbrev EjectLedOn : Monarch → EjectNext → Type 0
EjectLedOn r w = EjectsOn r (after_eject w r)

-- at each label of an eject
pub ejects_on : (y : Layout) (x : Seat) (r : Monarch) (l : Label) (v : ℕ) → is_among l ejecting ≡ true → EjectsOn r (next_at y x r l v).monarch
ejects_on y x r E0 v is = ejects_at r E1 _ _ refl
ejects_on y x r E1 v is = ejects_at r E2 _ _ refl
ejects_on y x r E2 v is = pick (EjectLedOn r) (v == 1) _ _ (ejects_at r E4a _ _ refl) (pick (EjectLedOn r) (nat_le r.eject.polls 1) _ _ (ejects_at r E3 _ _ refl) (ejects_at r E2 _ _ refl))
ejects_on y x r E3 v is = ejects_told r _
ejects_on y x r E4a v is = ejects_at r E4b _ _ refl
ejects_on y x r E4b v is = pick (λ l. EjectsOn r (at_label l r)) y.late E4f E4c (ejects_at r E4f _ _ refl) (ejects_at r E4c _ _ refl)
ejects_on y x r E4c v is = ejects_at r E4d _ _ refl
ejects_on y x r E4d v is = ejects_at r E4e _ _ refl
ejects_on y x r E4e v is = ejects_told r _
ejects_on y x r E4f v is = ejects_at r E4g _ _ refl
ejects_on y x r E4g v is = pick (EjectLedOn r) (bit_and v 0x10 == 0x10) _ _ (ejects_at r E4h _ _ refl) (ejects_at r E4c _ _ refl)
ejects_on y x r E4h v is = ejects_told r _
ejects_on y x r _ v is = absurd cc

-- an add or an eject begins of a report whose APIC ID is its processor's own; and an add of one whose processor is there
pub record Passed (apics : List ℕ) (r : Monarch) (t : Report) : Type 0 where
  pub own : (facts_of apics r t).own ≡ true
  pub there : (bit_and t.status 1 == 1) ≡ true

decision_passes : (apics : List ℕ) (r : Monarch) (t : Report) (c : Decision) → ((o : Outcome) → c ≡ ToTell o → ⊥) → decision (facts_of apics r t) t ≡ c → Passed apics r t
decision_passes apics r t c untold is = by_tests (facts_of apics r t).own (bit_and t.status 1 == 1) refl refl is
  where
    by_tests : (a b : Bool) → (facts_of apics r t).own ≡ a → (bit_and t.status 1 == 1) ≡ b → decision (facts_of apics r t) t ≡ c → Passed apics r t
    by_tests true true own there is = record { own = own; there = there }
    by_tests false b own there is = absurd (let shown : decision (facts_of apics r t) t ≡ refuses (Foreign t.cpu t.apic) = rw own refl in untold (Refused (Foreign t.cpu t.apic)) (sym is ∙ shown))
    by_tests true false own there is = absurd (let shown : decision (facts_of apics r t) t ≡ refuses (Disabled t.cpu t.status) = rw (own, there) refl in untold (Refused (Disabled t.cpu t.status)) (sym is ∙ shown))

-- what becomes of the next report: none is left, or it is the first of those that are
module _ (P : Monarch → Type 0) (apics : List ℕ) (r : Monarch)
    (none : drop r.taken r.collection.reports ≡ [] → P (at_label E5 r))
    (telling : (t : Report) (ts : List Report) → drop r.taken r.collection.reports ≡ t ∷ ts → (o : Outcome) → decision (facts_of apics r t) t ≡ ToTell o → P (at_tell o (took r)))
    (begins : (t : Report) (ts : List Report) → drop r.taken r.collection.reports ≡ t ∷ ts → Passed apics r t → P (adds t (took r)))
    (hands : (t : Report) (ts : List Report) → drop r.taken r.collection.reports ≡ t ∷ ts → Passed apics r t → P (ejects t (took r))) where
  pub next_by_decision : P (next_report apics r)
  next_by_decision = by_reports (drop r.taken r.collection.reports) refl
    where
      by_decision : (t : Report) (ts : List Report) (c : Decision) → drop r.taken r.collection.reports ≡ t ∷ ts → decision (facts_of apics r t) t ≡ c → P (answered c t (took r))
      by_decision t ts (ToTell o) is judged = telling t ts is o judged
      by_decision t ts ToAdd is judged = begins t ts is (decision_passes apics r t ToAdd (λ o e. cc) judged)
      by_decision t ts ToEject is judged = hands t ts is (decision_passes apics r t ToEject (λ o e. cc) judged)

      by_reports : (xs : List Report) → drop r.taken r.collection.reports ≡ xs → P (taken_up apics xs r)
      by_reports [] is = none is
      by_reports (t ∷ ts) is = by_decision t ts (decision (facts_of apics r t) t) is refl

-- where it doesn't matter what is told
module _ (P : Monarch → Type 0) (apics : List ℕ) (r : Monarch)
    (none : drop r.taken r.collection.reports ≡ [] → P (at_label E5 r))
    (telling : (t : Report) (ts : List Report) → drop r.taken r.collection.reports ≡ t ∷ ts → (o : Outcome) → P (at_tell o (took r)))
    (begins : (t : Report) (ts : List Report) → drop r.taken r.collection.reports ≡ t ∷ ts → Passed apics r t → P (adds t (took r)))
    (hands : (t : Report) (ts : List Report) → drop r.taken r.collection.reports ≡ t ∷ ts → Passed apics r t → P (ejects t (took r))) where
  pub next_by : P (next_report apics r)
  next_by = next_by_decision P apics r none (λ t ts is o judged. telling t ts is o) begins hands

-- what the decision on a report of its own processor tells blames nobody
abbrev told_of : Decision → Outcome
told_of (ToTell o) = o
told_of ToAdd = Added 0 0 0
told_of ToEject = Added 0 0 0

abbrev Tame : Outcome → Decision → Type 0
Tame o c = c ≡ ToTell o → is_blaming o ≡ false

tame_told : (o w : Outcome) → is_blaming w ≡ false → Tame o (ToTell w)
tame_told o w tame e = subst (λ x. is_blaming x ≡ false) (ap told_of e) tame

tame_held : (o : Outcome) (h : Option ℕ) (t : Report) → Tame o (held_decision h t)
tame_held o None t = λ e. absurd cc
tame_held o (Some held) t = pick (Tame o) (held == t.apic) ToAdd (refuses (GateHeld t.cpu t.apic held)) (λ e. absurd cc) (tame_told o (Refused (GateHeld t.cpu t.apic held)) refl)

pub decision_tame : (f : Facts) (t : Report) (o : Outcome) → f.own ≡ true → decision f t ≡ ToTell o → is_blaming o ≡ false
decision_tame f t o own =
    pick_by (Tame o) (not f.own) (refuses (Foreign t.cpu t.apic)) _ (λ e. absurd (let no_it : not f.own ≡ false = rw own refl in let both : true ≡ false = sym e ∙ no_it in cc))
    (λ _. pick (Tame o) (not (bit_and t.status 1 == 1)) (refuses (Disabled t.cpu t.status)) _ (tame_told o (Refused (Disabled t.cpu t.status)) refl)
    (pick (Tame o) (bit_and t.status 0x12 == 0x12) (refuses (Both t.cpu t.status)) _ (tame_told o (Refused (Both t.cpu t.status)) refl)
    (pick (Tame o) (bit_and t.status 2 == 2) (insert_decision f t) (eject_decision f t)
    (pick (Tame o) f.known (refuses (AlreadyKnown t.cpu t.apic f.slot)) (held_decision f.held t) (tame_told o (Refused (AlreadyKnown t.cpu t.apic f.slot)) refl) (tame_held o f.held t))
    (pick (Tame o) (not (bit_and f.features 4 == 4)) (refuses (NoUnplug t.cpu f.features)) _ (tame_told o (Refused (NoUnplug t.cpu f.features)) refl)
    (pick (Tame o) (not f.known) (refuses (NotKnown t.cpu t.apic)) _ (tame_told o (Refused (NotKnown t.cpu t.apic)) refl)
    (pick (Tame o) (f.look == 0) (refuses (NotArrived t.cpu t.apic)) ToEject (tame_told o (Refused (NotArrived t.cpu t.apic)) refl) (λ e. absurd cc)))))))
