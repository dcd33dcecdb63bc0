-- Turns that are counted, by actors.
use Rattle.std.proofs.Common.{◌≡◌, ◌≢◌, ◌≤◌, ◌<◌, ◌⊎◌, inl, inr, ℕ, zero, suc, ◌+◌, ◌-◌, ◌^◌, Bool, true, false, cond, ◌&&◌, nat_lt, List, [], ◌∷◌, ◌++◌, length, replicate, Option, Some, None, refl, sym, ap, subst, ◌∙◌, arith, eqb-true}
use Rattle.std.specs.Prelude.{slice_index_or, if◌then◌else◌, ◌==◌, ◌%◌}
use Rattle.std.proofs.lemmas.Bool.{cases_eq, cases_lt, lt-ltb, eq-eqb, ne_eqb}
use Rattle.std.proofs.lemmas.Bool.Decides.{nat_tests}
use Rattle.std.proofs.lemmas.List.{get_or-set_same, get_or-set_other, set_past}
use Rattle.std.proofs.lemmas.List.Sums.{sum_by_push}
use Rattle.std.proofs.lemmas.Option.{same_Some}
use Rattle.hp_model.specs.declared.platforms.Platform.{Platform}
use Rattle.hp_model.specs.declared.platforms.Delivery.{Delivery}
use Rattle.hp_model.specs.declared.platforms.Delivery.TheVariants.{Prompt, Late}
use Rattle.hp_model.specs.declared.entries.Actor.{Actor}
use Rattle.hp_model.specs.declared.entries.Actor.TheVariants as actor
use Rattle.hp_model.specs.declared.entries.Event.{Event}
use Rattle.hp_model.specs.declared.entries.Entry.{Entry}
use Rattle.hp_model.specs.Hosting.{is_host, owner_of}
use Rattle.hp_model.specs.Platform.{count_of, is_late}
use Rattle.hp_model.specs.Runs.{IsStepBy, actor_of}
use Rattle.hp_model.specs.Schedule.{turn_actor}
use Rattle.hp_platform.specs.declared.worlds.Turn.{Turn}
use Rattle.hp_platform.specs.declared.worlds.Turn.TheVariants.{Made, Idle}
use Rattle.hp_platform.specs.World.{IsTurned, World, asked_place, counted, counted_at, idle_place, idle_places, one_more, turns_at, turns_of}
use Rattle.hp_threads.specs.Sharing.{owned_by, same_actor}

-- where turns are counted
place_cpu : (count k : ℕ) → k < count → asked_place count (actor.Cpu k) ≡ Some k
place_cpu count k within = ap (λ (b : Bool). if b then Some k else None) (lt-ltb k count within)

pub place_turn : (d : Delivery) (count own k : ℕ) → k < count → asked_place count (turn_actor d own k) ≡ Some k
place_turn Prompt count own k within = place_cpu count k within
place_turn (Late lag) count own k within = by (own % (lag + 1) == lag)
  where
    by : (b : Bool) → asked_place count (if b then actor.Smi k else actor.Cpu k) ≡ Some k
    by true = place_cpu count k within
    by false = place_cpu count k within

pub place_host : (count : ℕ) (a : Actor) → is_host a ≡ true → asked_place count a ≡ Some count
place_host count (actor.Insert k) is = refl
place_host count (actor.Remove k) is = refl
place_host count (actor.Cpu k) is = cc
place_host count (actor.Smi k) is = cc

pub turns_cpu : (count k : ℕ) (ns : List ℕ) → k < count → turns_of count (actor.Cpu k) ns ≡ slice_index_or ns k 0
turns_cpu count k ns within = ap (λ (o : Option ℕ). turns_at o ns) (place_cpu count k within)

-- a turn counted at a place
pub counted_here : (ns : List ℕ) (place : ℕ) → place < length ns → slice_index_or ns place 0 < 2 ^ 64 - 1 → slice_index_or (counted_at (Some place) ns) place 0 ≡ slice_index_or ns place 0 + 1
counted_here ns place within small = get_or-set_same ns place (one_more (slice_index_or ns place 0)) 0 within ∙ more (slice_index_or ns place 0) small
  where
    more : (n : ℕ) → n < 2 ^ 64 - 1 → one_more n ≡ n + 1
    more n small = omega arith

pub counted_other : (ns : List ℕ) (place j : ℕ) → j ≢ place → slice_index_or (counted_at (Some place) ns) j 0 ≡ slice_index_or ns j 0
counted_other ns place j other = get_or-set_other ns place j (one_more (slice_index_or ns place 0)) 0 other

-- actors that are found the same are one
pub same-is : (a b : Actor) → same_actor a b ≡ true → a ≡ b
same-is (actor.Insert k) (actor.Insert j) is = ap (λ (i : ℕ). actor.Insert i) (eqb-true k j is)
same-is (actor.Insert k) (actor.Remove j) is = cc
same-is (actor.Insert k) (actor.Cpu j) is = cc
same-is (actor.Insert k) (actor.Smi j) is = cc
same-is (actor.Remove k) (actor.Insert j) is = cc
same-is (actor.Remove k) (actor.Remove j) is = ap (λ (i : ℕ). actor.Remove i) (eqb-true k j is)
same-is (actor.Remove k) (actor.Cpu j) is = cc
same-is (actor.Remove k) (actor.Smi j) is = cc
same-is (actor.Cpu k) (actor.Insert j) is = cc
same-is (actor.Cpu k) (actor.Remove j) is = cc
same-is (actor.Cpu k) (actor.Cpu j) is = ap (λ (i : ℕ). actor.Cpu i) (eqb-true k j is)
same-is (actor.Cpu k) (actor.Smi j) is = cc
same-is (actor.Smi k) (actor.Insert j) is = cc
same-is (actor.Smi k) (actor.Remove j) is = cc
same-is (actor.Smi k) (actor.Cpu j) is = cc
same-is (actor.Smi k) (actor.Smi j) is = ap (λ (i : ℕ). actor.Smi i) (eqb-true k j is)

pub no_cpu : (k : ℕ) (a : Actor) → is_host a ≡ true → same_actor a (actor.Cpu k) ≡ false
no_cpu k (actor.Insert j) is = refl
no_cpu k (actor.Remove j) is = refl
no_cpu k (actor.Cpu j) is = cc
no_cpu k (actor.Smi j) is = cc

pub no_smi : (k : ℕ) (a : Actor) → is_host a ≡ true → same_actor a (actor.Smi k) ≡ false
no_smi k (actor.Insert j) is = refl
no_smi k (actor.Remove j) is = refl
no_smi k (actor.Cpu j) is = cc
no_smi k (actor.Smi j) is = cc

-- the turn of another processor is neither this one's nor its SMI's
pub other_cpu : (d : Delivery) (own k j : ℕ) → j ≢ k → same_actor (turn_actor d own k) (actor.Cpu j) ≡ false
other_cpu Prompt own k j other = ne_eqb k j (λ same. other (sym same))
other_cpu (Late lag) own k j other = by (own % (lag + 1) == lag)
  where
    by : (b : Bool) → same_actor (if b then actor.Smi k else actor.Cpu k) (actor.Cpu j) ≡ false
    by true = refl
    by false = ne_eqb k j (λ same. other (sym same))

pub other_smi : (d : Delivery) (own k j : ℕ) → j ≢ k → same_actor (turn_actor d own k) (actor.Smi j) ≡ false
other_smi Prompt own k j other = refl
other_smi (Late lag) own k j other = by (own % (lag + 1) == lag)
  where
    by : (b : Bool) → same_actor (if b then actor.Smi k else actor.Cpu k) (actor.Smi j) ≡ false
    by true = ne_eqb k j (λ same. other (sym same))
    by false = refl

pub owned_more : (p : Platform) (a : Actor) (es : List Entry) (e : Entry) → owned_by p a (es ++ e ∷ []) ≡ owned_by p a es + cond (same_actor (owner_of p e.event) a) 1 0
owned_more p a es e = sum_by_push (λ (x : Entry). cond (same_actor (owner_of p x.event) a) 1 0) es e

-- whose turn it is owns what the turn makes: an SMI has turns of its own only where it may come late
pub owns : (late : Bool) (a : Actor) (x : Event) → ((j : ℕ) → a ≡ actor.Smi j → late ≡ true) → IsStepBy late a x → actor_of late x ≡ a
owns late a x proper (inl is) = is
owns late a x proper (inr taken) =
    ap (actor_of late) taken.2 ∙ ap (λ (b : Bool). if b then actor.Smi taken.0 else actor.Cpu taken.0) (proper taken.0 taken.1) ∙ sym taken.1

pub turn_no_host : (d : Delivery) (own k : ℕ) → is_host (turn_actor d own k) ≡ false
turn_no_host Prompt own k = refl
turn_no_host (Late lag) own k = by (own % (lag + 1) == lag)
  where
    by : (b : Bool) → is_host (if b then actor.Smi k else actor.Cpu k) ≡ false
    by true = refl
    by false = refl

pub turn_proper : (d : Delivery) (own k j : ℕ) → turn_actor d own k ≡ actor.Smi j → is_late d ≡ true
turn_proper Prompt own k j is = cc
turn_proper (Late lag) own k j is = refl

pub host_proper : (late : Bool) (a : Actor) → is_host a ≡ true → (j : ℕ) → a ≡ actor.Smi j → late ≡ true
host_proper late (actor.Insert k) host j is = cc
host_proper late (actor.Remove k) host j is = cc
host_proper late (actor.Cpu k) host j is = cc
host_proper late (actor.Smi k) host j is = cc

-- where idle turns are noted
pub record IsPlaced (d : Delivery) (count : ℕ) (a : Actor) : Type 0 where
  pub place : ℕ
  pub is : idle_place (is_late d) count a ≡ Some place
  pub within : place < idle_places (is_late d) count

pub idle_turn : (d : Delivery) (count own k : ℕ) → k < count → IsPlaced d count (turn_actor d own k)
idle_turn Prompt count own k within = record { place = k; is = ap (λ (b : Bool). if b then Some k else None) (lt-ltb k count within); within = within }
idle_turn (Late lag) count own k within = by (own % (lag + 1) == lag)
  where
    by : (b : Bool) → IsPlaced (Late lag) count (if b then actor.Smi k else actor.Cpu k)
    by true = record { place = count + k; is = ap (λ (b : Bool). if true && b then Some (count + k) else None) (lt-ltb k count within); within = omega (arith, within) }
    by false = record { place = k; is = ap (λ (b : Bool). if b then Some k else None) (lt-ltb k count within); within = omega (arith, within) }

pub idle_host : (late : Bool) (count : ℕ) (a : Actor) → is_host a ≡ true → idle_place late count a ≡ None
idle_host late count (actor.Insert k) is = refl
idle_host late count (actor.Remove k) is = refl
idle_host late count (actor.Cpu k) is = cc
idle_host late count (actor.Smi k) is = cc

-- no two actors have one place
placed : (b : Bool) (x i : ℕ) → (if b then Some x else None) ≡ Some i → (b ≡ true) × (x ≡ i)
placed true x i e = (refl, same_Some x i e)
placed false x i e = cc

apart : (late : Bool) (count k j i : ℕ) → idle_place late count (actor.Cpu k) ≡ Some i → idle_place late count (actor.Smi j) ≡ Some i → ⊥
apart late count k j i e f =
    let here = placed (nat_lt k count) k i e in
    let there = placed (late && nat_lt j count) (count + j) i f in
    let below : k < count = within here.0 in
    omega (arith, below, here.1, there.1)
  where
    within : nat_lt k count ≡ true → k < count
    within e = grind (arith, nat_tests)

pub one_place : (late : Bool) (count : ℕ) (a c : Actor) (i : ℕ) → idle_place late count a ≡ Some i → idle_place late count c ≡ Some i → same_actor a c ≡ true
one_place late count (actor.Insert k) c i e f = cc
one_place late count (actor.Remove k) c i e f = cc
one_place late count (actor.Cpu k) (actor.Insert j) i e f = cc
one_place late count (actor.Cpu k) (actor.Remove j) i e f = cc
one_place late count (actor.Cpu k) (actor.Cpu j) i e f = eq-eqb k j ((placed (nat_lt k count) k i e).1 ∙ sym (placed (nat_lt j count) j i f).1)
one_place late count (actor.Cpu k) (actor.Smi j) i e f = absurd (apart late count k j i e f)
one_place late count (actor.Smi k) (actor.Insert j) i e f = cc
one_place late count (actor.Smi k) (actor.Remove j) i e f = cc
one_place late count (actor.Smi k) (actor.Cpu j) i e f = absurd (apart late count j k i f e)
one_place late count (actor.Smi k) (actor.Smi j) i e f =
    let here = placed (late && nat_lt k count) (count + k) i e in
    let there = placed (late && nat_lt j count) (count + j) i f in
    eq-eqb k j (omega (arith, here.1, there.1))

-- and an actor that has a place is a processor, or its SMI
pub record IsAt (count : ℕ) (a : Actor) : Type 0 where
  pub cpu : ℕ
  pub within : cpu < count
  pub is : (a ≡ actor.Cpu cpu) ⊎ (a ≡ actor.Smi cpu)

pub cpu_of : (late : Bool) (count : ℕ) (a : Actor) (i : ℕ) → idle_place late count a ≡ Some i → IsAt count a
cpu_of late count (actor.Insert k) i e = cc
cpu_of late count (actor.Remove k) i e = cc
cpu_of late count (actor.Cpu k) i e = let here = placed (nat_lt k count) k i e in record { cpu = k; within = below here.0; is = inl refl }
  where
    below : nat_lt k count ≡ true → k < count
    below e = grind (arith, nat_tests)
cpu_of late count (actor.Smi k) i e = let here = placed (late && nat_lt k count) (count + k) i e in record { cpu = k; within = below here.0; is = inr refl }
  where
    below : (late && nat_lt k count) ≡ true → k < count
    below e = grind (arith, nat_tests)

-- a turn raises no number by more than one
asked_turned : (old new : World) (a : Actor) (t : Turn) → IsTurned old new a t → new.asked ≡ counted (count_of old.platform) a old.asked
asked_turned old new a (Made e) turned = turned.asked
asked_turned old new a Idle turned = turned.asked

small_at : (o : Option ℕ) (ns : List ℕ) (limit : ℕ) → ((j : ℕ) → slice_index_or ns j 0 < limit) → (j : ℕ) → slice_index_or (counted_at o ns) j 0 < limit + 1
small_at None ns limit small j = omega (arith, small j)
small_at (Some place) ns limit small j = by (cases_eq j place) (cases_lt place (length ns))
  where
    by : (j ≡ place) ⊎ (j ≡ place → ⊥) → (place < length ns) ⊎ (length ns ≤ place) → slice_index_or (counted_at (Some place) ns) j 0 < limit + 1
    by (inl is) (inl within) =
        let one = get_or-set_same ns place (one_more (slice_index_or ns place 0)) 0 within in
        let less = small place in
        subst (λ (n : ℕ). n < limit + 1) (sym (ap (λ (i : ℕ). slice_index_or (counted_at (Some place) ns) i 0) is ∙ one)) (omega (arith, less))
    by is (inr past) = subst (λ (xs : List ℕ). slice_index_or xs j 0 < limit + 1) (sym (set_past ns place (one_more (slice_index_or ns place 0)) past)) (let less = small j in omega (arith, less))
    by (inr other) within = subst (λ (n : ℕ). n < limit + 1) (sym (counted_other ns place j other)) (let less = small j in omega (arith, less))

pub turned_small : (old new : World) (a : Actor) (t : Turn) (limit : ℕ) → IsTurned old new a t → ((j : ℕ) → slice_index_or old.asked j 0 < limit) → (j : ℕ) → slice_index_or new.asked j 0 < limit + 1
turned_small old new a t limit turned small j =
    subst (λ (xs : List ℕ). slice_index_or xs j 0 < limit + 1) (sym (asked_turned old new a t turned)) (small_at (asked_place (count_of old.platform) a) old.asked limit small j)

pub zero_at : (n j : ℕ) → ◌≡◌ {A = ℕ} (slice_index_or (replicate {A = ℕ} n 0) j 0) 0
zero_at zero j = refl
zero_at (suc n) zero = refl
zero_at (suc n) (suc j) = zero_at n j
