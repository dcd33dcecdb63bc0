-- Where the monarch's record goes on: to a label of the monarch whose needs are met, with slots as they ought to be.
use Rattle.std.specs.Prelude.{slice_index_or}
use Rattle.std.proofs.Common.{ℕ, zero, suc, ◌≡◌, ◌+◌, ◌-◌, ◌<◌, ◌≤◌, ◌==◌, ◌⊎◌, inl, inr, Bool, true, false, not, ◌&&◌, ◌||◌, nat_lt, nat_le, List, [], ◌∷◌, ◌++◌, length, drop, Option, Some, None, bit_and, refl, sym, ap, subst, ◌∙◌, arith, length-drop, if◌then◌else◌}
use Rattle.std.proofs.lemmas.Bool.{eqb-true}
use Rattle.std.proofs.lemmas.Bool.Decides.{nat_tests}
use Rattle.std.proofs.lemmas.Option.{same_Some}
use Rattle.hp_model.specs.declared.platforms.Platform.{Platform}
use Rattle.hp_model.specs.declared.outcomes.Outcome.{Outcome}
use Rattle.hp_model.specs.declared.outcomes.Outcome.TheVariants as outcome
use Rattle.hp_model.specs.declared.outcomes.Refusal.TheVariants.{Foreign, Disabled, Both, AlreadyKnown, GateHeld, NoUnplug, NotKnown, NotArrived, NotAtGate, NotCheckedIn}
use Rattle.hp_model.specs.declared.labels.Label.{Label}
use Rattle.hp_model.specs.declared.labels.Label.TheVariants.{S3, S4, C1, C4, C5, N0, N8a, N8b, N9, N10, N11, E0, E2, E3, E4a, E4c, E4f, E4h, E5}
use Rattle.hp_model.specs.Platform.{count_of}
use Rattle.hp_model.specs.Memory.{Write, byte_at, value_from}
use Rattle.hp_model.specs.declared.labels.Handler.TheVariants.{Monarch as Monarchs}
use Rattle.hp_model.specs.Labels.{handler_of}
use Rattle.hp_model.specs.SharedBytes.{layout_of, gate, arrived_byte}
use Rattle.hp_model.specs.Slots.{Slots, first_true, known_from, is_known, slot_among, bind}
use Rattle.hp_model.specs.declared.reports.Report.{Report}
use Rattle.hp_model.specs.Collection.{Collection, CollectsAt, CollectEnds, next_processor, found, judged, reported, collection_start}
use Rattle.hp_model.specs.Add.{Add, AddsAt, Ends, failed, looks, is_last_look, saw_flag, saw_pair, shut as shut_by, saw_arrival}
use Rattle.hp_model.specs.Eject.{Eject, EjectsAt, EjectEnds, eject_of, awaits, saw_parked, handed_to_block, saw_status}
use Rattle.hp_model.specs.declared.reports.Facts.{Facts}
use Rattle.hp_model.specs.declared.reports.Decision.{Decision}
use Rattle.hp_model.specs.declared.reports.Decision.TheVariants.{Tell as ToTell, Add as ToAdd, Eject as ToEject}
use Rattle.hp_model.specs.Monarch.{Monarch, at_label, first_slot, next_slot, look_at, looked, commanded, refuses, is_that, is_own, held_decision, insert_decision, eject_decision, decision, facts_of as facts_by, at_tell, adds, took, answered, taken_up, next_report, after_collection, after_add, after_eject, after_tell}
use Rattle.hp_sealed.specs.Left.{Sound}
use Rattle.hp_sealed.specs.Sealed.{Placed}
use Rattle.hp_sealed.proofs.Left.{pick, pick_by}
use Rattle.hp_safety.proofs.Needs.{Nothing, Ejecting, need_of, is_open, settles, IsSlot, MonarchNeeds}
use Rattle.hp_safety.proofs.Invariant.{is_ready, is_adding, facts_of, IsShut, IsGated, Holding, is_added, is_settled}
use Rattle.hp_safety.proofs.Keeps.{Grows, Holds}
use Rattle.hp_safety.proofs.Placing.{bound_few, placed_bind, placed_completed, placed_forgotten, place_bound, grows_then, grows_bind, holding_bind, own_other}

-- what becomes of the slots: `was` tells whether an add is settled, so that nobody is past the gate who goes by the held APIC ID
pub record Follows (p : Platform) (was : Bool) (before : Slots) (slot : ℕ) (s : Slots) : Type 0 where
  pub small : slot ≤ 512
  pub placed : Placed p s
  pub holding : Holding p s
  pub grows : Grows before s
  pub holds : (was ≡ true) ⊎ Holds before s

-- the record stands at such a label
pub record Arrives (p : Platform) (was : Bool) (before : Slots) (ws : List Write) (apic base : ℕ) (r : Monarch) : Type 0 where
  pub side : handler_of r.label ≡ Monarchs
  pub met : MonarchNeeds (facts_of p r ws apic base) (need_of r.label)
  pub gated : IsGated p r ws
  pub settled : is_settled p r ws ≡ true → was ≡ true
  pub follows : Follows p was before r.slot r.slots

-- what becomes of a report: only one of another processor's own APIC ID leads to an add, which is the held one where one is
pub record AddsFor (ids : List ℕ) (s : Slots) (t : Report) : Type 0 where
  pub own : is_own ids t ≡ true
  pub enabled : (bit_and t.status 1 == 1) ≡ true
  pub alone : (bit_and t.status 0x12 == 0x12) ≡ false
  pub inserted : (bit_and t.status 2 == 2) ≡ true
  pub held : (a : ℕ) → s.held ≡ Some a → a ≡ t.apic

-- an eject is told of at once, or is of a known APIC ID
ejects_known : (f : Facts) (t : Report) → eject_decision f t ≡ ToEject → f.known ≡ true
ejects_known f t e = by_tests (bit_and f.features 4 == 4) f.known e
  where
    by_tests : (c k : Bool) → (if not c then refuses (NoUnplug t.cpu f.features) else if not k then refuses (NotKnown t.cpu t.apic) else if f.look == 0 then refuses (NotArrived t.cpu t.apic) else ToEject) ≡ ToEject → k ≡ true
    by_tests c true e = refl
    by_tests true false e = absurd cc
    by_tests false false e = absurd cc

eject_adds : (f : Facts) (t : Report) → eject_decision f t ≡ ToAdd → ⊥
eject_adds f t e = by_tests (bit_and f.features 4 == 4) f.known (f.look == 0) e
  where
    by_tests : (c k z : Bool) → (if not c then refuses (NoUnplug t.cpu f.features) else if not k then refuses (NotKnown t.cpu t.apic) else if z then refuses (NotArrived t.cpu t.apic) else ToEject) ≡ ToAdd → ⊥
    by_tests false k z e = absurd cc
    by_tests true false z e = absurd cc
    by_tests true true true e = absurd cc
    by_tests true true false e = absurd cc

insert_adds : (f : Facts) (t : Report) → insert_decision f t ≡ ToAdd → (a : ℕ) → f.held ≡ Some a → a ≡ t.apic
insert_adds f t e a is = by_known f.known f.held is e
  where
    by_known : (k : Bool) (o : Option ℕ) → o ≡ Some a → (if k then refuses (AlreadyKnown t.cpu t.apic f.slot) else held_decision o t) ≡ ToAdd → a ≡ t.apic
    by_known true o i g = absurd cc
    by_known false None i g = absurd cc
    by_known false (Some b) i g = by_same (b == t.apic) refl g
      where
        by_same : (c : Bool) → (b == t.apic) ≡ c → (if c then ToAdd else refuses (GateHeld t.cpu t.apic b)) ≡ ToAdd → a ≡ t.apic
        by_same true h j = sym (same_Some b a i) ∙ eqb-true b t.apic h
        by_same false h j = absurd cc

insert_ejects : (f : Facts) (t : Report) → insert_decision f t ≡ ToEject → ⊥
insert_ejects f t e = by_known f.known f.held e
  where
    by_known : (k : Bool) (o : Option ℕ) → (if k then refuses (AlreadyKnown t.cpu t.apic f.slot) else held_decision o t) ≡ ToEject → ⊥
    by_known true o g = absurd cc
    by_known false None g = absurd cc
    by_known false (Some b) g = by_same (b == t.apic) g
      where
        by_same : (c : Bool) → (if c then ToAdd else refuses (GateHeld t.cpu t.apic b)) ≡ ToEject → ⊥
        by_same true j = absurd cc
        by_same false j = absurd cc

-- what is told of a report at once is no complete add
abbrev NotAdded : Decision → Type 0
NotAdded (ToTell o) = is_added o ≡ false
NotAdded ToAdd = Unit {0}
NotAdded ToEject = Unit {0}

not_inserted : (f : Facts) (t : Report) → NotAdded (insert_decision f t)
not_inserted f t = pick NotAdded f.known (refuses (AlreadyKnown t.cpu t.apic f.slot)) (held_decision f.held t) refl (by_held f.held)
  where
    by_held : (o : Option ℕ) → NotAdded (held_decision o t)
    by_held None = tt
    by_held (Some b) = pick NotAdded (b == t.apic) ToAdd (refuses (GateHeld t.cpu t.apic b)) tt refl

not_ejected : (f : Facts) (t : Report) → NotAdded (eject_decision f t)
not_ejected f t =
    pick NotAdded (not (bit_and f.features 4 == 4)) (refuses (NoUnplug t.cpu f.features)) _ refl
    (pick NotAdded (not f.known) (refuses (NotKnown t.cpu t.apic)) _ refl
    (pick NotAdded (f.look == 0) (refuses (NotArrived t.cpu t.apic)) ToEject refl tt))

-- what its decision says of a report
abbrev pub Says : (List ℕ) → Slots → Facts → Report → Decision → Type 0
Says ids s f t (ToTell o) = is_added o ≡ false
Says ids s f t ToAdd = AddsFor ids s t
Says ids s f t ToEject = f.known ≡ true

pub decision_says : (ids : List ℕ) (r : Monarch) (t : Report) → Says ids r.slots (facts_by ids r t) t (decision (facts_by ids r t) t)
decision_says ids r t = by_tests (is_own ids t) refl (bit_and t.status 1 == 1) refl (bit_and t.status 0x12 == 0x12) refl (bit_and t.status 2 == 2) refl
  where
    f : Facts
    f = facts_by ids r t

    insert_says : is_own ids t ≡ true → (bit_and t.status 1 == 1) ≡ true → (bit_and t.status 0x12 == 0x12) ≡ false → (bit_and t.status 2 == 2) ≡ true → (c : Decision) → insert_decision f t ≡ c → NotAdded c → Says ids r.slots f t c
    insert_says eo ed eb ei (ToTell o) is not = not
    insert_says eo ed eb ei ToAdd is not = record { own = eo; enabled = ed; alone = eb; inserted = ei; held = insert_adds f t is }
    insert_says eo ed eb ei ToEject is not = absurd (insert_ejects f t is)

    eject_says : (c : Decision) → eject_decision f t ≡ c → NotAdded c → Says ids r.slots f t c
    eject_says (ToTell o) is not = not
    eject_says ToAdd is not = absurd (eject_adds f t is)
    eject_says ToEject is not = ejects_known f t is

    by_tests : (o : Bool) → is_own ids t ≡ o → (d : Bool) → (bit_and t.status 1 == 1) ≡ d → (b : Bool) → (bit_and t.status 0x12 == 0x12) ≡ b → (i : Bool) → (bit_and t.status 2 == 2) ≡ i
        → Says ids r.slots f t (if not o then refuses (Foreign t.cpu t.apic) else if not d then refuses (Disabled t.cpu t.status) else if b then refuses (Both t.cpu t.status) else if i then insert_decision f t else eject_decision f t)
    by_tests false eo d ed b eb i ei = refl
    by_tests true eo false ed b eb i ei = refl
    by_tests true eo true ed true eb i ei = refl
    by_tests true eo true ed false eb true ei = insert_says eo ed eb ei (insert_decision f t) refl (not_inserted f t)
    by_tests true eo true ed false eb false ei = eject_says (eject_decision f t) refl (not_ejected f t)

-- the gate stays open to the same one
pub reopened : (p : Platform) (ws : List Write) (r t : Monarch) → is_open (need_of t.label) ≡ true → t.slots ≡ r.slots → IsGated p r ws → IsGated p t ws
reopened p ws r t may same (inl e) = inl e
reopened p ws r t may same (inr o) =
    inr (record { may = may; held = subst (λ s. is_that s.held (value_from (byte_at ws) gate 8) ≡ true) (sym same) o.held; ready = subst (λ s. is_ready p s ws ≡ true) (sym same) o.ready })

module _ (p : Platform) (ws : List Write) (sound : Sound p) (was : Bool) (before : Slots) (apic base : ℕ) where
  follows_slot : (n m : ℕ) (s : Slots) → m ≤ 512 → Follows p was before n s → Follows p was before m s
  follows_slot n m s small h = record { small = small; placed = h.placed; holding = h.holding; grows = h.grows; holds = h.holds }

  bound_small : (s : Slots) → Placed p s → length s.bound ≤ 512
  bound_small s h = let few = bound_few p s h in let some = sound.few in omega (arith, few, some)

  -- while the gate is open
  pub arrives_flag : (v : ℕ) (a : Add) (r : Monarch) → IsSlot (count_of p) a.slot → is_adding (record r { add = a }) ≡ true → is_ready p r.slots ws ≡ true → IsGated p r ws → Follows p was before r.slot r.slots → Arrives p was before ws apic base (after_add (saw_flag v a) r)
  arrives_flag v a r slot adds ready gated h =
      pick (λ x. Arrives p was before ws apic base (after_add x r)) (v == 1) (AddsAt N9 (record a { seen = true })) (AddsAt N8b a)
      (record { side = refl; met = (slot, adds, ready); gated = reopened p ws r (after_add (AddsAt N9 (record a { seen = true })) r) refl refl gated; settled = λ e. absurd cc; follows = h })
      (record { side = refl; met = (slot, adds, ready); gated = reopened p ws r (after_add (AddsAt N8b a) r) refl refl gated; settled = λ e. absurd cc; follows = h })

  pub arrives_pair : (v : ℕ) (a : Add) (r : Monarch) → IsSlot (count_of p) a.slot → is_adding (record r { add = a }) ≡ true → is_ready p r.slots ws ≡ true → IsGated p r ws → Follows p was before r.slot r.slots → Arrives p was before ws apic base (after_add (saw_pair v a) r)
  arrives_pair v a r slot adds ready gated h =
      pick (λ x. Arrives p was before ws apic base (after_add x r)) (v == 1) (AddsAt N9 (record a { seen = true })) _ (to N9 (record a { seen = true }) refl (λ x y. refl) refl (slot, adds, ready))
      (pick (λ x. Arrives p was before ws apic base (after_add x r)) (is_last_look a) (AddsAt N9 (record a { seen = false })) (looks N8a (a.polls - 1) a)
      (to N9 (record a { seen = false }) refl (λ x y. refl) refl (slot, adds, ready)) (to N8a (record a { polls = a.polls - 1 }) refl (λ x y. refl) refl (slot, adds, ready)))
    where
      to : (l : Label) (b : Add) → handler_of l ≡ Monarchs → ((x y : Bool) → settles x y (need_of l) ≡ false) → is_open (need_of l) ≡ true → MonarchNeeds (facts_of p (after_add (AddsAt l b) r) ws apic base) (need_of l) → Arrives p was before ws apic base (after_add (AddsAt l b) r)
      to l b side calm may met = record { side = side; met = met; gated = reopened p ws r (after_add (AddsAt l b) r) may refl gated; settled = λ e. absurd (let f = sym (calm _ _) ∙ e in cc); follows = h }

  -- while it is closed
  module _ (shut : IsShut ws) where
    -- labels that need nothing
    arrives_at : (l : Label) (r : Monarch) → r.label ≡ l → handler_of l ≡ Monarchs → need_of l ≡ Nothing → Follows p was before r.slot r.slots → Arrives p was before ws apic base r
    arrives_at l r is mine free h =
        let none : need_of r.label ≡ Nothing = ap need_of is ∙ free in
        record {
          side = subst (λ m. handler_of m ≡ Monarchs) (sym is) mine;
          met = subst (MonarchNeeds (facts_of p r ws apic base)) (sym none) tt;
          gated = inl shut;
          settled = λ e. absurd (let f : false ≡ true = subst (λ n. settles (value_from (byte_at ws) (arrived_byte (layout_of p) r.add.slot) 1 == 1) (is_added r.outcome) n ≡ true) none e in cc);
          follows = h;
        }

    pub arrives_label : (l : Label) (r : Monarch) → handler_of l ≡ Monarchs → need_of l ≡ Nothing → Follows p was before r.slot r.slots → Arrives p was before ws apic base (at_label l r)
    arrives_label l r mine free h = arrives_at l (at_label l r) refl mine free h

    -- slot after slot
    pub arrives_first : (l m : Label) (r : Monarch) → handler_of l ≡ Monarchs → need_of l ≡ Nothing → handler_of m ≡ Monarchs → need_of m ≡ Nothing → Follows p was before r.slot r.slots → Arrives p was before ws apic base (first_slot l m r)
    arrives_first l m r mine free ours rests h =
        pick (Arrives p was before ws apic base) (nat_lt 1 (length r.slots.bound)) (record r { label = l; slot = 1 }) (at_label m r)
        (arrives_at l (record r { label = l; slot = 1 }) refl mine free (follows_slot r.slot 1 r.slots (omega arith) h)) (arrives_label m r ours rests h)

    pub arrives_next : (l m : Label) (r : Monarch) → handler_of l ≡ Monarchs → need_of l ≡ Nothing → handler_of m ≡ Monarchs → need_of m ≡ Nothing → Follows p was before r.slot r.slots → Arrives p was before ws apic base (next_slot l m r)
    arrives_next l m r mine free ours rests h =
        pick_by (Arrives p was before ws apic base) (nat_lt (r.slot + 1) (length r.slots.bound)) (record r { label = l; slot = r.slot + 1 }) (at_label m r)
        (λ e. arrives_at l (record r { label = l; slot = r.slot + 1 }) refl mine free (follows_slot r.slot (r.slot + 1) r.slots (within (r.slot + 1) (length r.slots.bound) e (bound_small r.slots h.placed)) h))
        (λ e. arrives_label m r ours rests h)
      where
        within : (a n : ℕ) → nat_lt a n ≡ true → n ≤ 512 → a ≤ 512
        within a n e small = grind (arith, nat_tests)

    first_true_below : (n : ℕ) (bs : List Bool) (k : ℕ) → first_true n bs ≡ Some k → (n ≤ k) × (k < n + length bs)
    first_true_below n [] k e = absurd cc
    first_true_below n (true ∷ bs) k e = let i : n ≡ k = same_Some n k e in (omega (arith, i), omega (arith, i))
    first_true_below n (false ∷ bs) k e = let i = first_true_below (n + 1) bs k e in (omega (arith, i.0), omega (arith, i.1))

    known_below : (s : Slots) (n k : ℕ) → known_from s n ≡ Some k → k < length s.known
    known_below s n k e = let i = first_true_below n (drop n s.known) k e in omega (arith, i.0, i.1, length-drop n s.known)

    pub arrives_known : (polls n : ℕ) (r : Monarch) → Follows p was before r.slot r.slots → Arrives p was before ws apic base (look_at polls (known_from r.slots n) r)
    arrives_known polls n r h = by_slot (known_from r.slots n) refl
      where
        by_slot : (o : Option ℕ) → known_from r.slots n ≡ o → Arrives p was before ws apic base (look_at polls o r)
        by_slot None e = arrives_label S4 r refl refl h
        by_slot (Some k) e =
            let below = known_below r.slots n k e in
            let known = h.placed.known in
            let few = bound_small r.slots h.placed in
            arrives_at S3 (record r { label = S3; slot = k; polls = polls }) refl refl refl (follows_slot r.slot k r.slots (omega (arith, below, known, few)) h)

    pub arrives_looked : (polls v : ℕ) (r : Monarch) → r.label ≡ S3 → Follows p was before r.slot r.slots → Arrives p was before ws apic base (looked polls v r)
    arrives_looked polls v r is h =
        pick (Arrives p was before ws apic base) ((v == 1) || nat_le r.polls 1) (look_at polls (known_from r.slots (r.slot + 1)) r) (record r { polls = r.polls - 1 })
        (arrives_known polls (r.slot + 1) r h) (arrives_at S3 (record r { polls = r.polls - 1 }) is refl refl h)

    pub arrives_commanded : (v : ℕ) (r : Monarch) → Follows p was before r.slot r.slots → Arrives p was before ws apic base (commanded v r)
    arrives_commanded v r h =
        pick (Arrives p was before ws apic base) (v == 4) (record r { label = C1; collection = collection_start; taken = 0 }) (at_label E5 r)
        (arrives_at C1 (record r { label = C1; collection = collection_start; taken = 0 }) refl refl refl h) (arrives_label E5 r refl refl h)

    -- what is told
    arrives_tells : (o : Outcome) (r : Monarch) → (is_added o ≡ true → was ≡ true) → Follows p was before r.slot r.slots → Arrives p was before ws apic base (at_tell o r)
    arrives_tells o r added h = record { side = refl; met = tt; gated = inl shut; settled = added; follows = h }

    tells_not : (o : Outcome) (r : Monarch) → is_added o ≡ false → Follows p was before r.slot r.slots → Arrives p was before ws apic base (at_tell o r)
    tells_not o r not h = arrives_tells o r (λ e. absurd (let f = sym not ∙ e in cc)) h

    -- reports
    arrives_adds : (t : Report) (r : Monarch) → AddsFor p.apic r.slots t → Follows p was before r.slot r.slots → Arrives p was before ws apic base (adds t r)
    arrives_adds t r adds_it h =
        let other = own_other p t sound adds_it.own in
        let itself = same_place t.apic (slot_among (bind t.apic r.slots).bound t.apic) in
        record {
          side = refl;
          met = (place_bound p r.slots t.apic h.placed other.possible other.other, itself);
          gated = inl shut;
          settled = λ e. absurd cc;
          follows = record {
            small = h.small;
            placed = placed_bind p r.slots t.apic h.placed other.possible;
            holding = holding_bind p r.slots t.apic h.placed other.possible other.other;
            grows = grows_then before r.slots (bind t.apic r.slots) h.grows (grows_bind r.slots t.apic);
            holds = elim h.holds [ inl w ↦ inl w | inr f ↦ inr (λ a e. ap Some (sym (adds_it.held a (f a e)))) ];
          };
        }
      where
        same_place : (a n : ℕ) → ((a == a) && (n == n)) ≡ true
        same_place a n = grind (arith, nat_tests)

    -- an eject is of a slot that a processor may get
    pub arrives_ejecting : (l : Label) (j : Eject) (r : Monarch) → handler_of l ≡ Monarchs → need_of l ≡ Ejecting → nat_lt j.slot (count_of p) ≡ true → Follows p was before r.slot r.slots → Arrives p was before ws apic base (after_eject (EjectsAt l j) r)
    arrives_ejecting l j r mine is small h =
        let t = after_eject (EjectsAt l j) r in
        record {
          side = mine;
          met = subst (MonarchNeeds (facts_of p t ws apic base)) (sym is) small;
          gated = inl shut;
          settled = λ e. absurd (let f : false ≡ true = subst (λ n. settles (value_from (byte_at ws) (arrived_byte (layout_of p) r.add.slot) 1 == 1) (is_added r.outcome) n ≡ true) is e in cc);
          follows = h;
        }

    known_place : (s : Slots) (a : ℕ) → Placed p s → is_known s a ≡ true → nat_lt (slot_among s.bound a) (count_of p) ≡ true
    known_place s a h e =
        let below = some_at s.known (slot_among s.bound a) e in
        let same = h.known in
        let few = bound_few p s h in
        less (slot_among s.bound a) (count_of p) (omega (arith, below, same, few))
      where
        some_at : (bs : List Bool) (k : ℕ) → slice_index_or bs k false ≡ true → k < length bs
        some_at [] k e = absurd cc
        some_at (b ∷ bs) zero e = omega arith
        some_at (b ∷ bs) (suc k) e = let i = some_at bs k e in omega (arith, i)

        less : (a n : ℕ) → a < n → nat_lt a n ≡ true
        less a n e = grind (arith, nat_tests)

    arrives_answered : (c : Decision) (t : Report) (r : Monarch) → Says p.apic r.slots (facts_by p.apic r t) t c → Follows p was before r.slot r.slots → Arrives p was before ws apic base (answered c t r)
    arrives_answered (ToTell o) t r says h = tells_not o r says h
    arrives_answered ToAdd t r says h = arrives_adds t r says h
    arrives_answered ToEject t r says h = arrives_ejecting E0 (eject_of t.cpu t.apic (slot_among r.slots.bound t.apic)) r refl refl (known_place r.slots t.apic h.placed says) h

    arrives_taken : (ts : List Report) (r : Monarch) → Follows p was before r.slot r.slots → Arrives p was before ws apic base (taken_up p.apic ts r)
    arrives_taken [] r h = arrives_label E5 r refl refl h
    arrives_taken (t ∷ ts) r h = arrives_answered (decision (facts_by p.apic r t) t) t (took r) (decision_says p.apic r t) h

    pub arrives_report : (r : Monarch) → Follows p was before r.slot r.slots → Arrives p was before ws apic base (next_report p.apic r)
    arrives_report r h = arrives_taken (drop r.taken r.collection.reports) r h

    follows_told : (o : Outcome) (r : Monarch) → (is_added o ≡ true → was ≡ true) → Follows p was before r.slot r.slots → Follows p was before (after_tell o r).slot (after_tell o r).slots
    follows_told (outcome.Added cpu apic slot) r added h = record {
      small = h.small;
      placed = placed_completed p r.slots apic h.placed;
      holding = record { in_bound = λ a e. absurd cc; slot = λ a e. absurd cc };
      grows = record { still = h.grows.still; place = h.grows.place };
      holds = inl (added refl);
    }
    follows_told (outcome.Ejected cpu apic slot) r added h = record {
      small = h.small;
      placed = placed_forgotten p r.slots apic h.placed;
      holding = record { in_bound = h.holding.in_bound; slot = h.holding.slot };
      grows = record { still = h.grows.still; place = h.grows.place };
      holds = h.holds;
    }
    follows_told (outcome.Refused why) r added h = h

    pub arrives_told : (o : Outcome) (r : Monarch) → (is_added o ≡ true → was ≡ true) → Follows p was before r.slot r.slots → Arrives p was before ws apic base (next_report p.apic (after_tell o r))
    arrives_told o r added h = arrives_report (after_tell o r) (follows_told o r added h)

    -- the collection
    collects : (l : Label) (c : Collection) (r : Monarch) → handler_of l ≡ Monarchs → need_of l ≡ Nothing → Follows p was before r.slot r.slots → Arrives p was before ws apic base (after_collection p.apic (CollectsAt l c) r)
    collects l c r mine free h = arrives_at l (record r { label = l; collection = c }) refl mine free h

    collects_all : (c : Collection) (r : Monarch) → Follows p was before r.slot r.slots → Arrives p was before ws apic base (after_collection p.apic (CollectEnds c) r)
    collects_all c r h = arrives_report (record r { collection = c }) h

    arrives_processor : (c : Collection) (r : Monarch) → Follows p was before r.slot r.slots → Arrives p was before ws apic base (after_collection p.apic (next_processor (count_of p) c) r)
    arrives_processor c r h =
        pick (λ x. Arrives p was before ws apic base (after_collection p.apic x r)) (nat_lt (c.cpu + 1) (count_of p)) (CollectsAt C1 (record c { cpu = c.cpu + 1 })) (CollectEnds (record c { cpu = c.cpu + 1 }))
        (collects C1 (record c { cpu = c.cpu + 1 }) r refl refl h) (collects_all (record c { cpu = c.cpu + 1 }) r h)

    pub arrives_found : (v : ℕ) (c : Collection) (r : Monarch) → Follows p was before r.slot r.slots → Arrives p was before ws apic base (after_collection p.apic (found (count_of p) v c) r)
    arrives_found v c r h =
        pick (λ x. Arrives p was before ws apic base (after_collection p.apic x r)) (nat_lt v c.cpu || not (nat_lt v (count_of p))) (CollectEnds c) (CollectsAt C4 (record c { cpu = v }))
        (collects_all c r h) (collects C4 (record c { cpu = v }) r refl refl h)

    pub arrives_judged : (v : ℕ) (c : Collection) (r : Monarch) → Follows p was before r.slot r.slots → Arrives p was before ws apic base (after_collection p.apic (judged (count_of p) v c) r)
    arrives_judged v c r h =
        pick (λ x. Arrives p was before ws apic base (after_collection p.apic x r)) (bit_and v 0x12 == 0) (next_processor (count_of p) c) (CollectsAt C5 (record c { status = v }))
        (arrives_processor c r h) (collects C5 (record c { status = v }) r refl refl h)

    pub arrives_reported : (v : ℕ) (c : Collection) (r : Monarch) → Follows p was before r.slot r.slots → Arrives p was before ws apic base (after_collection p.apic (reported (count_of p) v c) r)
    arrives_reported v c r h = arrives_processor (record c { reports = c.reports ++ record { cpu = c.cpu; status = c.status; apic = v } ∷ [] }) r h

    -- an add: its slot stays
    pub arrives_adding : (l : Label) (a : Add) (r : Monarch) → handler_of l ≡ Monarchs → ((x y : Bool) → settles x y (need_of l) ≡ false) → MonarchNeeds (facts_of p (after_add (AddsAt l a) r) ws apic base) (need_of l) → Follows p was before r.slot r.slots → Arrives p was before ws apic base (after_add (AddsAt l a) r)
    arrives_adding l a r mine calm met h = record { side = mine; met = met; gated = inl shut; settled = λ e. absurd (let f = sym (calm _ _) ∙ e in cc); follows = h }

    pub arrives_looking : (a : Add) (r : Monarch) → IsSlot (count_of p) a.slot → is_adding (record r { add = a }) ≡ true → ((value_from (byte_at ws) (arrived_byte (layout_of p) a.slot) 1 == 1) ≡ true → was ≡ true) → Follows p was before r.slot r.slots → Arrives p was before ws apic base (after_add (AddsAt N11 a) r)
    arrives_looking a r slot adds seen h = record { side = refl; met = (slot, adds); gated = inl shut; settled = seen; follows = h }

    arrives_failed : (why : Outcome) (a : Add) (r : Monarch) → is_added why ≡ false → IsSlot (count_of p) a.slot → is_adding (record r { add = a }) ≡ true → Follows p was before r.slot r.slots → Arrives p was before ws apic base (after_add (failed why a) r)
    arrives_failed why a r not slot adds h =
        pick (λ x. Arrives p was before ws apic base (after_add x r)) (nat_lt a.attempt 3) (AddsAt N0 (record a { attempt = a.attempt + 1 })) (Ends why)
        (arrives_adding N0 (record a { attempt = a.attempt + 1 }) r refl (λ x y. refl) (slot, adds) h) (tells_not why r not h)

    pub arrives_shut : (a : Add) (r : Monarch) → IsSlot (count_of p) a.slot → is_adding (record r { add = a }) ≡ true → Follows p was before r.slot r.slots → Arrives p was before ws apic base (after_add (shut_by a) r)
    arrives_shut a r slot adds h =
        pick (λ x. Arrives p was before ws apic base (after_add x r)) a.seen (AddsAt N10 a) (failed (outcome.Refused (NotAtGate a.cpu a.apic)) a)
        (arrives_adding N10 a r refl (λ x y. refl) (slot, adds) h) (arrives_failed (outcome.Refused (NotAtGate a.cpu a.apic)) a r refl slot adds h)

    pub arrives_arrival : (v : ℕ) (a : Add) (r : Monarch) → IsSlot (count_of p) a.slot → is_adding (record r { add = a }) ≡ true → ((v == 1) ≡ true → was ≡ true) → ((value_from (byte_at ws) (arrived_byte (layout_of p) a.slot) 1 == 1) ≡ true → was ≡ true) → Follows p was before r.slot r.slots → Arrives p was before ws apic base (after_add (saw_arrival v a) r)
    arrives_arrival v a r slot adds now seen h =
        pick_by (λ x. Arrives p was before ws apic base (after_add x r)) (v == 1) (Ends (outcome.Added a.cpu a.apic a.slot)) _ (λ e. arrives_tells (outcome.Added a.cpu a.apic a.slot) r (λ f. now e) h)
        (λ e. pick (λ x. Arrives p was before ws apic base (after_add x r)) (is_last_look a) (failed (outcome.Refused (NotCheckedIn a.cpu a.apic)) a) (looks N11 (a.polls - 1) a)
        (arrives_failed (outcome.Refused (NotCheckedIn a.cpu a.apic)) a r refl slot adds h) (arrives_looking (record a { polls = a.polls - 1 }) r slot adds seen h))

    -- an eject: what its parked byte says, its status, and how it ends
    pub arrives_parked : (v : ℕ) (j : Eject) (r : Monarch) → nat_lt j.slot (count_of p) ≡ true → Follows p was before r.slot r.slots → Arrives p was before ws apic base (after_eject (saw_parked v j) r)
    arrives_parked v j r small h =
        pick (λ x. Arrives p was before ws apic base (after_eject x r)) (v == 1) (EjectsAt E4a j) _ (arrives_ejecting E4a j r refl refl small h)
        (pick (λ x. Arrives p was before ws apic base (after_eject x r)) (nat_le j.polls 1) (EjectsAt E3 j) (awaits (j.polls - 1) j) (arrives_ejecting E3 j r refl refl small h)
        (arrives_ejecting E2 (record j { polls = j.polls - 1 }) r refl refl small h))

    pub arrives_handed : (late : Bool) (r : Monarch) → nat_lt r.eject.slot (count_of p) ≡ true → Follows p was before r.slot r.slots → Arrives p was before ws apic base (at_label (handed_to_block late) r)
    arrives_handed late r small h = pick (λ l. Arrives p was before ws apic base (at_label l r)) late E4f E4c (arrives_ejecting E4f r.eject r refl refl small h) (arrives_ejecting E4c r.eject r refl refl small h)

    pub arrives_status : (v : ℕ) (j : Eject) (r : Monarch) → nat_lt j.slot (count_of p) ≡ true → Follows p was before r.slot r.slots → Arrives p was before ws apic base (after_eject (saw_status v j) r)
    arrives_status v j r small h =
        pick (λ x. Arrives p was before ws apic base (after_eject x r)) (bit_and v 0x10 == 0x10) (EjectsAt E4h (record j { status = v })) (EjectsAt E4c j)
        (arrives_ejecting E4h (record j { status = v }) r refl refl small h) (arrives_ejecting E4c j r refl refl small h)

    pub arrives_ended : (o : Outcome) (r : Monarch) → is_added o ≡ false → Follows p was before r.slot r.slots → Arrives p was before ws apic base (after_eject (EjectEnds o) r)
    arrives_ended o r not h = tells_not o r not h
