-- What each row of the monarch makes of what reports are judged by: which APIC IDs are known, and what was last read of arrived bytes.
use Rattle.std.specs.Prelude.{slice_index_or, if◌then◌else◌}
use Rattle.std.proofs.Common.{ℕ, zero, suc, ◌≡◌, ◌+◌, ◌-◌, ◌<◌, ◌≤◌, ◌==◌, Bool, true, false, not, ◌||◌, nat_lt, nat_le, List, [], ◌∷◌, ◌++◌, length, drop, Option, Some, None, bit_and, refl, sym, ap, ◌∙◌, arith, length-drop}
use Rattle.std.proofs.lemmas.Option.{same_Some}
use Rattle.hp_model.specs.declared.platforms.Platform.{Platform}
use Rattle.hp_model.specs.declared.outcomes.Outcome.{Outcome}
use Rattle.hp_model.specs.declared.outcomes.Outcome.TheVariants as outcome
use Rattle.hp_model.specs.declared.outcomes.Refusal.TheVariants.{NotAtGate, NotCheckedIn}
use Rattle.hp_model.specs.declared.labels.Label.{Label}
use Rattle.hp_model.specs.declared.labels.Label.TheVariants.{S1, S2, S3, S4, C1, C4, C5, N0, N8a, N8b, N9, N10, N11, E3, E4a, E4c, E4f, E4h, E5, E6, E7}
use Rattle.hp_model.specs.Block.{is_in}
use Rattle.hp_model.specs.declared.labels.Handler.TheVariants.{Monarch as Monarchs}
use Rattle.hp_model.specs.Labels.{handler_of, index_of}
use Rattle.hp_model.specs.SharedBytes.{Layout}
use Rattle.hp_model.specs.Slots.{Slots, first_true, known_from, is_known, slot_among, bind}
use Rattle.hp_model.specs.declared.reports.Report.{Report}
use Rattle.hp_model.specs.Collection.{Collection, CollectsAt, CollectEnds, next_processor, found, judged, reported, collection_start}
use Rattle.hp_model.specs.Add.{Add, AddsAt, Ends, failed, looks, is_last_look, saw_flag, saw_pair, shut, saw_arrival}
use Rattle.hp_model.specs.Eject.{EjectsAt, awaits, saw_parked, handed_to_block, saw_status}
use Rattle.hp_model.specs.declared.reports.Decision.{Decision}
use Rattle.hp_model.specs.declared.reports.Decision.TheVariants.{Tell as ToTell, Add as ToAdd, Eject as ToEject}
use Rattle.hp_model.specs.Monarch.{Monarch, at_label, first_slot, next_slot, look_at, looked, noted, commanded, decision, facts_of as facts_by, at_tell, took, answered, taken_up, next_report, after_collection, after_add, after_eject, after_tell}
use Rattle.hp_model.specs.Handlers.{Seat, next_at}
use Rattle.hp_sealed.specs.Sealed.{Placed}
use Rattle.hp_sealed.proofs.Left.{pick, pick_by}
use Rattle.hp_safety.proofs.Needs.{need_of, Facts, Needs}
use Rattle.hp_safety.proofs.EachRow.{row_of_each}
use Rattle.hp_safety.proofs.Placing.{place_more, placed_completed, placed_forgotten}

-- lists: past the end, one more at the end
pub index_past : {A : Type 0} (xs : List A) (k : ℕ) (d : A) → length xs ≤ k → slice_index_or xs k d ≡ d
index_past [] k d h = refl
index_past (x ∷ xs) zero d h = absurd (omega (arith, h))
index_past (x ∷ xs) (suc k) d h = index_past xs k d (omega (arith, h))

-- the default one more at the end changes no look-up
index_end : {A : Type 0} (xs : List A) (k : ℕ) (d : A) → slice_index_or (xs ++ d ∷ []) k d ≡ slice_index_or xs k d
index_end [] zero d = refl
index_end [] (suc k) d = refl
index_end (x ∷ xs) zero d = refl
index_end (x ∷ xs) (suc k) d = index_end xs k d

length-one : {A : Type 0} (xs : List A) (x : A) → length (xs ++ x ∷ []) ≡ length xs + 1
length-one [] x = refl
length-one (y ∷ ys) x = let i = length-one ys x in omega (arith, i)

pub place_out : (ids : List ℕ) (a : ℕ) → is_in a ids ≡ false → slot_among ids a ≡ length ids
place_out [] a e = refl
place_out (x ∷ xs) a e = by_head (x == a) e (λ f. place_out xs a f)
  where
    by_head : (c : Bool) → (c || is_in a xs) ≡ false → (is_in a xs ≡ false → slot_among xs a ≡ length xs) → (if c then 0 else slot_among xs a + 1) ≡ suc (length xs)
    by_head true f more = absurd cc
    by_head false f more = let i = more f in omega (arith, i)

place_end : (ids : List ℕ) (a x : ℕ) → is_in x ids ≡ false → length ids ≤ slot_among (ids ++ a ∷ []) x
place_end [] a x e = omega arith
place_end (y ∷ ys) a x e = by_head (y == x) e (λ f. place_end ys a x f)
  where
    by_head : (c : Bool) → (c || is_in x ys) ≡ false → (is_in x ys ≡ false → length ys ≤ slot_among (ys ++ a ∷ []) x) → suc (length ys) ≤ (if c then 0 else slot_among (ys ++ a ∷ []) x + 1)
    by_head true f more = absurd cc
    by_head false f more = let i = more f in omega (arith, i)

-- who isn't bound isn't known
pub known_out : (p : Platform) (s : Slots) (a : ℕ) → Placed p s → is_in a s.bound ≡ false → is_known s a ≡ false
known_out p s a h e = let out = place_out s.bound a e in let same = h.known in index_past s.known (slot_among s.bound a) false (omega (arith, out, same))

-- a new slot is of nobody known
known_bind : (p : Platform) (s : Slots) (a x : ℕ) → Placed p s → is_known (bind a s) x ≡ is_known s x
known_bind p s a x h =
    pick_by (λ (t : Slots). is_known (record t { held = Some a }) x ≡ is_known s x) (is_in a s.bound) s (record s { bound = s.bound ++ a ∷ []; known = s.known ++ false ∷ [] })
    (λ e. refl)
    (λ e. index_end s.known (slot_among (s.bound ++ a ∷ []) x) false ∙ by_bound (is_in x s.bound) refl)
  where
    by_bound : (c : Bool) → is_in x s.bound ≡ c → slice_index_or s.known (slot_among (s.bound ++ a ∷ []) x) false ≡ is_known s x
    by_bound true f = ap (λ k. slice_index_or s.known k false) (place_more s.bound x a f)
    by_bound false f = let low = place_end s.bound a x f in let same = h.known in index_past s.known (slot_among (s.bound ++ a ∷ []) x) false (omega (arith, low, same)) ∙ sym (known_out p s x h f)

-- from one record to another nothing that reports are judged by changes, and at S3 the slot is a bound one
pub record SameFacts (r t : Monarch) : Type 0 where
  pub known : (a : ℕ) → is_known t.slots a ≡ is_known r.slots a
  pub last : (k : ℕ) → slice_index_or t.last k 2 ≡ slice_index_or r.last k 2
  pub size : length r.last ≡ length r.slots.bound → length t.last ≡ length t.slots.bound
  pub features : t.features ≡ r.features
  pub seen : t.label ≡ S3 → t.slot < length t.slots.bound

same_facts : (r t : Monarch) → t.slots ≡ r.slots → t.last ≡ r.last → t.features ≡ r.features → (t.label ≡ S3 → t.slot < length t.slots.bound) → SameFacts r t
same_facts r t slots last features seen = record {
  known = λ a. ap (λ s. is_known s a) slots;
  last = λ k. ap (λ ns. slice_index_or ns k 2) last;
  size = λ e. ap length last ∙ (e ∙ sym (ap (λ (s : Slots). length s.bound) slots));
  features = features;
  seen = seen;
}

module _ (p : Platform) where
  -- reports
  facts_answered : (ids : List ℕ) (c : Decision) (t : Report) (r : Monarch) → Placed p r.slots → SameFacts r (answered c t (took r))
  facts_answered ids (ToTell o) t r placed = same_facts r (at_tell o (took r)) refl refl refl (λ f. absurd cc)
  facts_answered ids ToAdd t r placed = record {
    known = λ a. known_bind p r.slots t.apic a placed;
    last = λ k. pick (λ ns. slice_index_or ns k 2 ≡ slice_index_or r.last k 2) (is_in t.apic r.slots.bound) r.last (r.last ++ 2 ∷ []) refl (index_end r.last k 2);
    size = λ e. by_bound (is_in t.apic r.slots.bound) e;
    features = refl;
    seen = λ f. absurd cc;
  }
    where
      by_bound : (c : Bool) → length r.last ≡ length r.slots.bound → length (if c then r.last else r.last ++ 2 ∷ []) ≡ length (if c then r.slots else record r.slots { bound = r.slots.bound ++ t.apic ∷ []; known = r.slots.known ++ false ∷ [] }).bound
      by_bound true e = e
      by_bound false e = length-one r.last 2 ∙ (ap (λ n. n + 1) e ∙ sym (length-one r.slots.bound t.apic))
  facts_answered ids ToEject t r placed = same_facts r _ refl refl refl (λ f. absurd cc)

  facts_report : (ids : List ℕ) (r : Monarch) → Placed p r.slots → SameFacts r (next_report ids r)
  facts_report ids r placed = by_rest (drop r.taken r.collection.reports)
    where
      by_rest : (ts : List Report) → SameFacts r (taken_up ids ts r)
      by_rest [] = same_facts r (at_label E5 r) refl refl refl (λ f. absurd cc)
      by_rest (t ∷ ts) = facts_answered ids (decision (facts_by ids r t) t) t r placed

  -- slots, one after another, and looks at them
  facts_first : (l n : Label) → (l ≡ S3 → ⊥) → (n ≡ S3 → ⊥) → (r : Monarch) → SameFacts r (first_slot l n r)
  facts_first l n other also r =
      pick (SameFacts r) (nat_lt 1 (length r.slots.bound)) (record r { label = l; slot = 1 }) (at_label n r) (same_facts r (record r { label = l; slot = 1 }) refl refl refl (λ f. absurd (other f))) (same_facts r (at_label n r) refl refl refl (λ f. absurd (also f)))

  facts_next : (l n : Label) → (l ≡ S3 → ⊥) → (n ≡ S3 → ⊥) → (r : Monarch) → SameFacts r (next_slot l n r)
  facts_next l n other also r =
      pick (SameFacts r) (nat_lt (r.slot + 1) (length r.slots.bound)) (record r { label = l; slot = r.slot + 1 }) (at_label n r)
      (same_facts r (record r { label = l; slot = r.slot + 1 }) refl refl refl (λ f. absurd (other f))) (same_facts r (at_label n r) refl refl refl (λ f. absurd (also f)))

  first_below : (n : ℕ) (bs : List Bool) (k : ℕ) → first_true n bs ≡ Some k → (n ≤ k) × (k < n + length bs)
  first_below n [] k e = absurd cc
  first_below n (true ∷ bs) k e = let i : n ≡ k = same_Some n k e in (omega (arith, i), omega (arith, i))
  first_below n (false ∷ bs) k e = let i = first_below (n + 1) bs k e in (omega (arith, i.0), omega (arith, i.1))

  facts_known : (polls n : ℕ) (r : Monarch) → Placed p r.slots → SameFacts r (look_at polls (known_from r.slots n) r)
  facts_known polls n r placed = by_slot (known_from r.slots n) refl
    where
      by_slot : (o : Option ℕ) → known_from r.slots n ≡ o → SameFacts r (look_at polls o r)
      by_slot None e = same_facts r (at_label S4 r) refl refl refl (λ f. absurd cc)
      by_slot (Some k) e =
          let i = first_below n (drop n r.slots.known) k e in
          let same = placed.known in
          same_facts r (record r { label = S3; slot = k; polls = polls }) refl refl refl (λ f. omega (arith, i.0, i.1, length-drop n r.slots.known, same))

  facts_looked : (polls v : ℕ) (r : Monarch) → Placed p r.slots → r.label ≡ S3 → r.slot < length r.slots.bound → SameFacts r (looked polls v r)
  facts_looked polls v r placed is seen =
      pick (SameFacts r) ((v == 1) || nat_le r.polls 1) (look_at polls (known_from r.slots (r.slot + 1)) r) (record r { polls = r.polls - 1 }) (facts_known polls (r.slot + 1) r placed) (same_facts r (record r { polls = r.polls - 1 }) refl refl refl (λ f. seen))

  facts_commanded : (v : ℕ) (r : Monarch) → SameFacts r (commanded v r)
  facts_commanded v r =
      pick (SameFacts r) (v == 4) (record r { label = C1; collection = collection_start; taken = 0 }) (at_label E5 r) (same_facts r (record r { label = C1; collection = collection_start; taken = 0 }) refl refl refl (λ f. absurd cc)) (same_facts r (at_label E5 r) refl refl refl (λ f. absurd cc))

  -- the collection
  facts_collects : (ids : List ℕ) (l : Label) (c : Collection) (r : Monarch) → (l ≡ S3 → ⊥) → SameFacts r (after_collection ids (CollectsAt l c) r)
  facts_collects ids l c r other = same_facts r (record r { label = l; collection = c }) refl refl refl (λ f. absurd (other f))

  facts_all : (ids : List ℕ) (c : Collection) (r : Monarch) → Placed p r.slots → SameFacts r (after_collection ids (CollectEnds c) r)
  facts_all ids c r placed = let h = facts_report ids (record r { collection = c }) placed in record { known = h.known; last = h.last; size = h.size; features = h.features; seen = h.seen }

  facts_processor : (ids : List ℕ) (count : ℕ) (c : Collection) (r : Monarch) → Placed p r.slots → SameFacts r (after_collection ids (next_processor count c) r)
  facts_processor ids count c r placed =
      pick (λ x. SameFacts r (after_collection ids x r)) (nat_lt (c.cpu + 1) count) (CollectsAt C1 (record c { cpu = c.cpu + 1 })) (CollectEnds (record c { cpu = c.cpu + 1 })) (facts_collects ids C1 (record c { cpu = c.cpu + 1 }) r (λ f. cc)) (facts_all ids (record c { cpu = c.cpu + 1 }) r placed)

  facts_found : (ids : List ℕ) (count v : ℕ) (r : Monarch) → Placed p r.slots → SameFacts r (after_collection ids (found count v r.collection) r)
  facts_found ids count v r placed =
      pick (λ x. SameFacts r (after_collection ids x r)) (nat_lt v r.collection.cpu || not (nat_lt v count)) (CollectEnds r.collection) (CollectsAt C4 (record r.collection { cpu = v })) (facts_all ids r.collection r placed) (facts_collects ids C4 (record r.collection { cpu = v }) r (λ f. cc))

  facts_judged : (ids : List ℕ) (count v : ℕ) (r : Monarch) → Placed p r.slots → SameFacts r (after_collection ids (judged count v r.collection) r)
  facts_judged ids count v r placed =
      pick (λ x. SameFacts r (after_collection ids x r)) (bit_and v 0x12 == 0) (next_processor count r.collection) (CollectsAt C5 (record r.collection { status = v })) (facts_processor ids count r.collection r placed) (facts_collects ids C5 (record r.collection { status = v }) r (λ f. cc))

  facts_reported : (ids : List ℕ) (count v : ℕ) (r : Monarch) → Placed p r.slots → SameFacts r (after_collection ids (reported count v r.collection) r)
  facts_reported ids count v r placed = facts_processor ids count (record r.collection { reports = r.collection.reports ++ record { cpu = r.collection.cpu; status = r.collection.status; apic = v } ∷ [] }) r placed

  -- adds and ejects
  facts_adding : (l : Label) (a : Add) (r : Monarch) → (l ≡ S3 → ⊥) → SameFacts r (after_add (AddsAt l a) r)
  facts_adding l a r other = same_facts r (after_add (AddsAt l a) r) refl refl refl (λ f. absurd (other f))

  facts_ends : (o : Outcome) (r : Monarch) → SameFacts r (after_add (Ends o) r)
  facts_ends o r = same_facts r (at_tell o r) refl refl refl (λ f. absurd cc)

  facts_failed : (why : Outcome) (a : Add) (r : Monarch) → SameFacts r (after_add (failed why a) r)
  facts_failed why a r = pick (λ x. SameFacts r (after_add x r)) (nat_lt a.attempt 3) (AddsAt N0 (record a { attempt = a.attempt + 1 })) (Ends why) (facts_adding N0 (record a { attempt = a.attempt + 1 }) r (λ f. cc)) (facts_ends why r)

  facts_flag : (v : ℕ) (r : Monarch) → SameFacts r (after_add (saw_flag v r.add) r)
  facts_flag v r = pick (λ x. SameFacts r (after_add x r)) (v == 1) (AddsAt N9 (record r.add { seen = true })) (AddsAt N8b r.add) (facts_adding N9 (record r.add { seen = true }) r (λ f. cc)) (facts_adding N8b r.add r (λ f. cc))

  facts_pair : (v : ℕ) (r : Monarch) → SameFacts r (after_add (saw_pair v r.add) r)
  facts_pair v r =
      pick (λ x. SameFacts r (after_add x r)) (v == 1) (AddsAt N9 (record r.add { seen = true })) _ (facts_adding N9 (record r.add { seen = true }) r (λ f. cc))
      (pick (λ x. SameFacts r (after_add x r)) (is_last_look r.add) (AddsAt N9 (record r.add { seen = false })) (looks N8a (r.add.polls - 1) r.add) (facts_adding N9 (record r.add { seen = false }) r (λ f. cc)) (facts_adding N8a (record r.add { polls = r.add.polls - 1 }) r (λ f. cc)))

  facts_shut : (r : Monarch) → SameFacts r (after_add (shut r.add) r)
  facts_shut r = pick (λ x. SameFacts r (after_add x r)) r.add.seen (AddsAt N10 r.add) (failed (outcome.Refused (NotAtGate r.add.cpu r.add.apic)) r.add) (facts_adding N10 r.add r (λ f. cc)) (facts_failed (outcome.Refused (NotAtGate r.add.cpu r.add.apic)) r.add r)

  facts_arrival : (v : ℕ) (r : Monarch) → SameFacts r (after_add (saw_arrival v r.add) r)
  facts_arrival v r =
      pick (λ x. SameFacts r (after_add x r)) (v == 1) (Ends (outcome.Added r.add.cpu r.add.apic r.add.slot)) _ (facts_ends (outcome.Added r.add.cpu r.add.apic r.add.slot) r)
      (pick (λ x. SameFacts r (after_add x r)) (is_last_look r.add) (failed (outcome.Refused (NotCheckedIn r.add.cpu r.add.apic)) r.add) (looks N11 (r.add.polls - 1) r.add)
      (facts_failed (outcome.Refused (NotCheckedIn r.add.cpu r.add.apic)) r.add r) (facts_adding N11 (record r.add { polls = r.add.polls - 1 }) r (λ f. cc)))

  facts_parked : (v : ℕ) (r : Monarch) → SameFacts r (after_eject (saw_parked v r.eject) r)
  facts_parked v r =
      pick (λ x. SameFacts r (after_eject x r)) (v == 1) (EjectsAt E4a r.eject) _ (same_facts r _ refl refl refl (λ f. absurd cc))
      (pick (λ x. SameFacts r (after_eject x r)) (nat_le r.eject.polls 1) (EjectsAt E3 r.eject) (awaits (r.eject.polls - 1) r.eject) (same_facts r _ refl refl refl (λ f. absurd cc)) (same_facts r _ refl refl refl (λ f. absurd cc)))

  facts_status : (v : ℕ) (r : Monarch) → SameFacts r (after_eject (saw_status v r.eject) r)
  facts_status v r = pick (λ x. SameFacts r (after_eject x r)) (bit_and v 0x10 == 0x10) (EjectsAt E4h (record r.eject { status = v })) (EjectsAt E4c r.eject) (same_facts r _ refl refl refl (λ f. absurd cc)) (same_facts r _ refl refl refl (λ f. absurd cc))

  facts_handed : (late : Bool) (r : Monarch) → SameFacts r (at_label (handed_to_block late) r)
  facts_handed late r = pick (λ l. SameFacts r (at_label l r)) late E4f E4c (same_facts r _ refl refl refl (λ f. absurd cc)) (same_facts r _ refl refl refl (λ f. absurd cc))

  placed_told : (o : Outcome) (r : Monarch) → Placed p r.slots → Placed p (after_tell o r).slots
  placed_told (outcome.Added cpu apic slot) r h = placed_completed p r.slots apic h
  placed_told (outcome.Ejected cpu apic slot) r h = placed_forgotten p r.slots apic h
  placed_told (outcome.Refused why) r h = h

  -- the record once what was read is noted, or what was told is done
  abbrev pub noted_at : Label → ℕ → Monarch → Monarch
  noted_at l v r =
      if index_of l == 34 then after_tell r.outcome r
      else if index_of l == 3 then noted r.slot v r
      else if (index_of l == 21) || (index_of l == 24) then noted r.add.slot v r
      else r

  pub row_facts : (y : Layout) (q : Seat) (r : Monarch) (v : ℕ) (f : Facts) (l : Label) → Placed p r.slots → handler_of l ≡ Monarchs → (handler_of l ≡ Monarchs → r.label ≡ l) → (r.label ≡ S3 → r.slot < length r.slots.bound) → Needs f (handler_of l) (need_of l) → SameFacts (noted_at l v r) (next_at y q r l v).monarch
  row_facts y q r v f l placed mine is seen met = row_of_each (λ l. handler_of l ≡ Monarchs → (handler_of l ≡ Monarchs → r.label ≡ l) → SameFacts (noted_at l v r) (next_at y q r l v).monarch) (record {
    f1 = λ g e. absurd cc;
    f2 = λ g e. absurd cc;
    f3 = λ g e. absurd cc;
    f4 = λ g e. absurd cc;
    f5 = λ g e. absurd cc;
    f6 = λ g e. absurd cc;
    r1 = λ g e. absurd cc;
    r2 = λ g e. absurd cc;
    r3 = λ g e. absurd cc;
    r4 = λ g e. absurd cc;
    r5 = λ g e. absurd cc;
    r6 = λ g e. absurd cc;
    s0 = λ g e. facts_first S1 S2 (λ f. cc) (λ f. cc) r;
    s1 = λ g e. facts_next S1 S2 (λ f. cc) (λ f. cc) r;
    s2 = λ g e. facts_known y.polls 1 r placed;
    s3 = λ g e. facts_looked y.polls v (noted r.slot v r) placed (e refl) (seen (e refl));
    s4 = λ g e. facts_commanded v r;
    c1 = λ g e. same_facts r _ refl refl refl (λ f. absurd cc);
    c2 = λ g e. same_facts r _ refl refl refl (λ f. absurd cc);
    c3 = λ g e. facts_found y.apics y.count v r placed;
    c4 = λ g e. facts_judged y.apics y.count v r placed;
    c5 = λ g e. same_facts r _ refl refl refl (λ f. absurd cc);
    c6 = λ g e. facts_reported y.apics y.count v r placed;
    nb = λ g e. same_facts r _ refl refl refl (λ f. absurd cc);
    n0 = λ g e. same_facts r _ refl refl refl (λ f. absurd cc);
    n1 = λ g e. same_facts r _ refl refl refl (λ f. absurd cc);
    n2 = λ g e. same_facts r _ refl refl refl (λ f. absurd cc);
    n3 = λ g e. same_facts r _ refl refl refl (λ f. absurd cc);
    n4 = λ g e. same_facts r _ refl refl refl (λ f. absurd cc);
    n5 = λ g e. same_facts r _ refl refl refl (λ f. absurd cc);
    n6 = λ g e. same_facts r _ refl refl refl (λ f. absurd cc);
    n7 = λ g e. same_facts r _ refl refl refl (λ f. absurd cc);
    n8a = λ g e. facts_flag v r;
    n8b = λ g e. facts_pair v (noted r.add.slot v r);
    n9 = λ g e. facts_shut r;
    n10 = λ g e. same_facts r _ refl refl refl (λ f. absurd cc);
    n11 = λ g e. facts_arrival v (noted r.add.slot v r);
    e0 = λ g e. same_facts r _ refl refl refl (λ f. absurd cc);
    e1 = λ g e. same_facts r _ refl refl refl (λ f. absurd cc);
    e2 = λ g e. facts_parked v r;
    e3 = λ g e. same_facts r _ refl refl refl (λ f. absurd cc);
    e4a = λ g e. same_facts r _ refl refl refl (λ f. absurd cc);
    e4b = λ g e. facts_handed y.late r;
    e4c = λ g e. same_facts r _ refl refl refl (λ f. absurd cc);
    e4d = λ g e. same_facts r _ refl refl refl (λ f. absurd cc);
    e4e = λ g e. same_facts r _ refl refl refl (λ f. absurd cc);
    e4f = λ g e. same_facts r _ refl refl refl (λ f. absurd cc);
    e4g = λ g e. facts_status v r;
    e4h = λ g e. same_facts r _ refl refl refl (λ f. absurd cc);
    t = λ g e. facts_report y.apics (after_tell r.outcome r) (placed_told r.outcome r placed);
    e5 = λ g e. facts_first E6 E7 (λ f. cc) (λ f. cc) r;
    e6 = λ g e. facts_next E6 E7 (λ f. cc) (λ f. cc) r;
    e7 = λ g e. same_facts r r refl refl refl (λ f. absurd (let both = sym (e refl) ∙ f in cc));
  }) f l met mine is

  pub noted_slots : (l : Label) (v : ℕ) (r : Monarch) → (index_of l == 34) ≡ false → (noted_at l v r).slots ≡ r.slots
  noted_slots l v r not = rw not
      (pick (λ (t : Monarch). t.slots ≡ r.slots) (index_of l == 3) (noted r.slot v r) _ refl
      (pick (λ (t : Monarch). t.slots ≡ r.slots) ((index_of l == 21) || (index_of l == 24)) (noted r.add.slot v r) r refl refl))
