-- A test of host events and their marks, from which it follows that they host the entries.
use Rattle.std.proofs.Common.{◌≡◌, ℕ, zero, suc, ◌+◌, ◌<◌, ◌≤◌, ◌==◌, Bool, true, false, not, ◌&&◌, ◌||◌, List, [], ◌∷◌, length, take, Option, Some, None, slice_get, refl, sym, ap, subst, ◌∙◌, arith, if◌then◌else◌}
use Rattle.std.specs.Prelude.{nat_le, nat_lt}
use Rattle.std.specs.List.{list_all}
use Rattle.std.proofs.lemmas.Option.{same_Some, none-some}
use Rattle.std.proofs.lemmas.Bool.{and_parts, eqb-true}
use Rattle.std.proofs.lemmas.Bool.Decides.{nat_tests}
use Rattle.hp_model.specs.declared.platforms.Platform.{Platform}
use Rattle.hp_model.specs.declared.entries.Actor.{Actor}
use Rattle.hp_model.specs.declared.entries.Actor.TheVariants as actor
use Rattle.hp_model.specs.declared.entries.Event.{Event}
use Rattle.hp_model.specs.declared.entries.Event.TheVariants.{Insert, Remove, Do, TakeSmi, TakeInit, Resume, Tell}
use Rattle.hp_model.specs.declared.entries.Entry.{Entry}
use Rattle.hp_model.specs.Platform.{is_late}
use Rattle.hp_model.specs.Runs.{run}
use Rattle.hp_model.specs.State.{State}
use Rattle.hp_model.specs.Firmware.{is_wanted}
use Rattle.hp_model.specs.Step.{after, is_enabled, step}
use Rattle.hp_model.specs.Hosting.{IsHosted, IsMadeAt, IsMarked, is_host, owner_of}

-- the event of an actor of the host; of another actor none is asked for
abbrev pub event_of : Actor → Event
event_of (actor.Insert k) = Insert k
event_of (actor.Remove k) = Remove k
event_of (actor.Cpu k) = TakeInit k
event_of (actor.Smi k) = TakeSmi k

abbrev is_event_of : Actor → Event → Bool
is_event_of (actor.Insert k) (Insert j) = k == j
is_event_of (actor.Remove k) (Remove j) = k == j
is_event_of _ _ = false

is_event_of-event : (a : Actor) (x : Event) → is_event_of a x ≡ true → x ≡ event_of a
is_event_of-event (actor.Insert k) (Insert j) e = ap Insert (sym (eqb-true k j e))
is_event_of-event (actor.Remove k) (Remove j) e = ap Remove (sym (eqb-true k j e))
is_event_of-event _ _ e = absurd cc

is_event_of-owner : (p : Platform) (a : Actor) (x : Event) → is_event_of a x ≡ true → a ≡ owner_of p x
is_event_of-owner p (actor.Insert k) (Insert j) e = ap actor.Insert (eqb-true k j e)
is_event_of-owner p (actor.Remove k) (Remove j) e = ap actor.Remove (eqb-true k j e)
is_event_of-owner p _ _ e = absurd cc

owner_of-event : (p : Platform) (a : Actor) → is_host a ≡ true → owner_of p (event_of a) ≡ a
owner_of-event p (actor.Insert k) host = refl
owner_of-event p (actor.Remove k) host = refl
owner_of-event p (actor.Cpu k) host = absurd cc
owner_of-event p (actor.Smi k) host = absurd cc

-- an event whose owner is an actor of the host is this one
owned : (p : Platform) (x : Event) (a : Actor) → is_host a ≡ true → owner_of p x ≡ a → x ≡ event_of a
owned p x a host e = by x (subst (λ y. is_host y ≡ true) (sym e) host) ∙ ap event_of e
  where
    late : (k : ℕ) (b : Bool) → is_host (if b then actor.Smi k else actor.Cpu k) ≡ true → TakeSmi k ≡ event_of (if b then actor.Smi k else actor.Cpu k)
    late k true f = absurd cc
    late k false f = absurd cc

    by : (y : Event) → is_host (owner_of p y) ≡ true → y ≡ event_of (owner_of p y)
    by (Insert k) f = refl
    by (Remove k) f = refl
    by (Do k a) f = absurd cc
    by (TakeSmi k) f = late k (is_late p.delivery) f
    by (TakeInit k) f = absurd cc
    by (Resume k) f = absurd cc
    by (Tell o) f = absurd cc

-- where entries lead, the event is a step
abbrev pub takes : Platform → Option State → Event → Bool
takes p None x = false
takes p (Some s) x = is_enabled p s x && is_wanted p s x

takes-step : (p : Platform) (s : State) (x : Event) → takes p (Some s) x ≡ true → step p s x ≡ Some (after p s x)
unfolding step
takes-step p s x e = ap (λ b. if b then Some (after p s x) else None) e

step-takes : (p : Platform) (s : State) (x : Event) → step p s x ≡ Some (after p s x) → takes p (Some s) x ≡ true
unfolding step
step-takes p s x e = by (is_enabled p s x && is_wanted p s x) e
  where
    by : (b : Bool) → (if b then Some (after p s x) else None) ≡ Some (after p s x) → b ≡ true
    by true f = refl
    by false f = absurd cc

-- where a host event is a step at its mark, it is the entry there, and the next mark is greater
abbrev is_entry_of : Actor → Option Entry → Bool
is_entry_of a None = false
is_entry_of a (Some e) = is_event_of a e.event

abbrev is_below : ℕ → List ℕ → Bool
is_below m [] = true
is_below m (n ∷ ns) = nat_lt m n

abbrev is_made : Platform → List Entry → Actor → ℕ → List ℕ → Bool
is_made p es a m ms = if takes p (run p (take m es)) (event_of a) then is_entry_of a (slice_get es m) && is_below m ms else true

unfoldable pub each_made : Platform → List Entry → List Actor → List ℕ → Bool
each_made p es [] ms = true
each_made p es (a ∷ hs) [] = true
each_made p es (a ∷ hs) (m ∷ ms) = is_host a && (is_made p es a m ms && each_made p es hs ms)

-- the marks don't fall
unfoldable pub rises : List ℕ → Bool
rises [] = true
rises (m ∷ ms) = list_all (λ n. nat_le m n) ms && rises ms

-- an entry of the host after n others is the event of a host event with this mark
unfoldable pub is_marked : Entry → ℕ → List Actor → List ℕ → Bool
is_marked e n [] ms = false
is_marked e n (a ∷ hs) [] = false
is_marked e n (a ∷ hs) (m ∷ ms) = ((m == n) && is_event_of a e.event) || is_marked e n hs ms

unfoldable pub each_marked : Platform → ℕ → List Actor → List ℕ → ℕ → List Entry → Bool
each_marked p from hosts marks n [] = true
each_marked p from hosts marks n (e ∷ es) =
    (nat_lt n from || (not (is_host (owner_of p e.event)) || is_marked e n hosts marks)) && each_marked p from hosts marks (suc n) es

abbrev pub is_hosted : Platform → List Entry → ℕ → List Actor → List ℕ → Bool
is_hosted p es from hosts marks =
    (length marks == length hosts)
    && (list_all (λ m. nat_le from m && nat_le m (length es)) marks && (rises marks && (each_made p es hosts marks && each_marked p from hosts marks 0 es)))

each_at : (test : ℕ → Bool) (ms : List ℕ) (i m : ℕ) → list_all test ms ≡ true → slice_get ms i ≡ Some m → test m ≡ true
each_at test [] i m all got = absurd (none-some m got)
each_at test (x ∷ ms) zero m all got = subst (λ k. test k ≡ true) (same_Some x m got) (and_parts (test x) (list_all test ms) all).0
each_at test (x ∷ ms) (suc i) m all got = each_at test ms i m (and_parts (test x) (list_all test ms) all).1 got

rises-at : (ms : List ℕ) (i j m n : ℕ) → rises ms ≡ true → i < j → slice_get ms i ≡ Some m → slice_get ms j ≡ Some n → m ≤ n
unfolding rises
rises-at [] i j m n up less at_i at_j = absurd (none-some m at_i)
rises-at (x ∷ ms) i zero m n up less at_i at_j = absurd (grind (arith, less))
rises-at (x ∷ ms) zero (suc j) m n up less at_i at_j =
    let above : nat_le x n ≡ true = each_at (λ k. nat_le x k) ms j n (and_parts (list_all (λ k. nat_le x k) ms) (rises ms) up).0 at_j in
    subst (λ k. k ≤ n) (same_Some x m at_i) (grind (arith, nat_tests, above))
rises-at (x ∷ ms) (suc i) (suc j) m n up less at_i at_j =
    rises-at ms i j m n (and_parts (list_all (λ k. nat_le x k) ms) (rises ms) up).1 (grind (arith, less)) at_i at_j

-- of one host event
made_first : (p : Platform) (es : List Entry) (a : Actor) (m : ℕ) (ms : List ℕ) (s : State) (x : Event) → is_made p es a m ms ≡ true → run p (take m es) ≡ Some s →
    x ≡ event_of a → step p s x ≡ Some (after p s x) → IsMadeAt es (m ∷ ms) zero m x
made_first p es a m ms s x made leads is steps = by (slice_get es m) refl both.0
  where
    taken : takes p (run p (take m es)) (event_of a) ≡ true
    taken = subst (λ o. takes p o (event_of a) ≡ true) (sym leads) (subst (λ y. takes p (Some s) y ≡ true) is (step-takes p s x steps))

    both : (is_entry_of a (slice_get es m) ≡ true) × (is_below m ms ≡ true)
    both = and_parts (is_entry_of a (slice_get es m)) (is_below m ms) (subst (λ b. (if b then is_entry_of a (slice_get es m) && is_below m ms else true) ≡ true) taken made)

    below : (ns : List ℕ) (n : ℕ) → is_below m ns ≡ true → slice_get ns zero ≡ Some n → m < n
    below [] n less got = absurd (none-some n got)
    below (k ∷ ns) n less got = subst (λ i. m < i) (same_Some k n got) (grind (arith, nat_tests, less))

    by : (o : Option Entry) → slice_get es m ≡ o → is_entry_of a o ≡ true → IsMadeAt es (m ∷ ms) zero m x
    by None at f = absurd cc
    by (Some e) at f = record { entry = e; at = at; event = is_event_of-event a e.event f ∙ sym is; next = λ n got. below ms n both.1 got }

each_made-at : (p : Platform) (es : List Entry) (hosts : List Actor) (marks : List ℕ) → each_made p es hosts marks ≡ true → (i m : ℕ) (a : Actor) (s : State) (x : Event) →
    slice_get marks i ≡ Some m → slice_get hosts i ≡ Some a → run p (take m es) ≡ Some s → owner_of p x ≡ a → step p s x ≡ Some (after p s x) → IsMadeAt es marks i m x
unfolding each_made
each_made-at p es [] ms all i m a s x at_m at_a leads owns steps = absurd (none-some a at_a)
each_made-at p es (h ∷ hs) [] all i m a s x at_m at_a leads owns steps = absurd (none-some m at_m)
each_made-at p es (h ∷ hs) (k ∷ ms) all zero m a s x at_m at_a leads owns steps =
    let host = and_parts (is_host h) (is_made p es h k ms && each_made p es hs ms) all in
    let first = and_parts (is_made p es h k ms) (each_made p es hs ms) host.1 in
    subst (λ n. IsMadeAt es (k ∷ ms) zero n x) (same_Some k m at_m)
    (made_first p es h k ms s x first.0 (subst (λ n. run p (take n es) ≡ Some s) (sym (same_Some k m at_m)) leads) (owned p x h host.0 (owns ∙ sym (same_Some h a at_a))) steps)
each_made-at p es (h ∷ hs) (k ∷ ms) all (suc i) m a s x at_m at_a leads owns steps =
    let host = and_parts (is_host h) (is_made p es h k ms && each_made p es hs ms) all in
    let first = and_parts (is_made p es h k ms) (each_made p es hs ms) host.1 in
    on (each_made-at p es hs ms first.1 i m a s x at_m at_a leads owns steps)
  where
    on : IsMadeAt es ms i m x → IsMadeAt es (k ∷ ms) (suc i) m x
    on made =
        record {
          entry = made.entry;
          at = made.at;
          event = made.event;
          next = λ n got. let e : suc i + 1 ≡ suc (i + 1) = omega arith in made.next n (subst (λ j. slice_get (k ∷ ms) j ≡ Some n) e got);
        }

is_marked-it : (p : Platform) (e : Entry) (n : ℕ) (hosts : List Actor) (marks : List ℕ) → is_marked e n hosts marks ≡ true → IsMarked p hosts marks n e
unfolding is_marked
is_marked-it p e n [] ms is = absurd cc
is_marked-it p e n (a ∷ hs) [] is = absurd cc
is_marked-it p e n (a ∷ hs) (m ∷ ms) is = by ((m == n) && is_event_of a e.event) refl is (λ g. is_marked-it p e n hs ms g)
  where
    on : IsMarked p hs ms n e → IsMarked p (a ∷ hs) (m ∷ ms) n e
    on h = record { place = suc h.place; mark = h.mark; actor = h.actor }

    by : (b : Bool) → ((m == n) && is_event_of a e.event) ≡ b → (b || is_marked e n hs ms) ≡ true → (is_marked e n hs ms ≡ true → IsMarked p hs ms n e) → IsMarked p (a ∷ hs) (m ∷ ms) n e
    by true f g more =
        let both = and_parts (m == n) (is_event_of a e.event) f in
        record { place = zero; mark = ap Some (eqb-true m n both.0); actor = ap Some (is_event_of-owner p a e.event both.1) }
    by false f g more = on (more g)

each_marked-at : (p : Platform) (from : ℕ) (hosts : List Actor) (marks : List ℕ) (k : ℕ) (es : List Entry) → each_marked p from hosts marks k es ≡ true → (i n : ℕ) (e : Entry) →
    k + i ≡ n → from ≤ n → slice_get es i ≡ Some e → is_host (owner_of p e.event) ≡ true → is_marked e n hosts marks ≡ true
unfolding each_marked
each_marked-at p from hosts marks k [] all i n e is low got host = absurd (none-some e got)
each_marked-at p from hosts marks k (x ∷ es) all zero n e is low got host =
    let first = and_parts (nat_lt k from || (not (is_host (owner_of p x.event)) || is_marked x k hosts marks)) (each_marked p from hosts marks (suc k) es) all in
    let here : k ≡ n = grind (arith, is) in
    subst (λ y. is_marked y n hosts marks ≡ true) (same_Some x e got) (subst (λ m. is_marked x m hosts marks ≡ true) here
    (by (nat_lt k from) (is_host (owner_of p x.event)) (grind (arith, nat_tests, low, here)) (subst (λ y. is_host (owner_of p y.event) ≡ true) (sym (same_Some x e got)) host) first.0))
  where
    by : (early hosts_it : Bool) → early ≡ false → hosts_it ≡ true → (early || (not hosts_it || is_marked x k hosts marks)) ≡ true → is_marked x k hosts marks ≡ true
    by true hosts_it f g h = absurd cc
    by false true f g h = h
    by false false f g h = absurd cc
each_marked-at p from hosts marks k (x ∷ es) all (suc i) n e is low got host =
    let first = and_parts (nat_lt k from || (not (is_host (owner_of p x.event)) || is_marked x k hosts marks)) (each_marked p from hosts marks (suc k) es) all in
    each_marked-at p from hosts marks (suc k) es first.1 i n e (grind (arith, is)) low got host

pub is_hosted-it : (p : Platform) (es : List Entry) (from : ℕ) (hosts : List Actor) (marks : List ℕ) → is_hosted p es from hosts marks ≡ true → IsHosted p es from hosts marks
is_hosted-it p es from hosts marks is =
    let many =
    and_parts (length marks == length hosts) (list_all (λ m. nat_le from m && nat_le m (length es)) marks && (rises marks && (each_made p es hosts marks && each_marked p from hosts marks 0 es))) is in
    let inside = and_parts (list_all (λ m. nat_le from m && nat_le m (length es)) marks) (rises marks && (each_made p es hosts marks && each_marked p from hosts marks 0 es)) many.1 in
    let up = and_parts (rises marks) (each_made p es hosts marks && each_marked p from hosts marks 0 es) inside.1 in
    let each = and_parts (each_made p es hosts marks) (each_marked p from hosts marks 0 es) up.1 in
    record {
      many = eqb-true (length marks) (length hosts) many.0;
      within = λ i m got. limits m (each_at (λ k. nat_le from k && nat_le k (length es)) marks i m inside.0 got);
      rise = λ i j m n less at_i at_j. rises-at marks i j m n up.0 less at_i at_j;
      made = each_made-at p es hosts marks each.0;
      only = λ n e low got host. is_marked-it p e n hosts marks (each_marked-at p from hosts marks 0 es each.1 n n e (grind (arith)) low got host);
    }
  where
    limits : (m : ℕ) → (nat_le from m && nat_le m (length es)) ≡ true → (from ≤ m) × (m ≤ length es)
    limits m both =
        let f = and_parts (nat_le from m) (nat_le m (length es)) both in
        (grind (arith, nat_tests, f.0), grind (arith, nat_tests, f.1))

-- and of hosted entries a host event that is a step at its mark is the entry there
pub made_where : (p : Platform) (es : List Entry) (from : ℕ) (hosts : List Actor) (marks : List ℕ) (i m : ℕ) (a : Actor) → IsHosted p es from hosts marks →
    slice_get marks i ≡ Some m → slice_get hosts i ≡ Some a → is_host a ≡ true → takes p (run p (take m es)) (event_of a) ≡ true → IsMadeAt es marks i m (event_of a)
made_where p es from hosts marks i m a h at_m at_a host = by (run p (take m es)) refl
  where
    by : (o : Option State) → run p (take m es) ≡ o → takes p o (event_of a) ≡ true → IsMadeAt es marks i m (event_of a)
    by None leads f = absurd cc
    by (Some s) leads f = h.made i m a s (event_of a) at_m at_a leads (owner_of-event p a host) (takes-step p s (event_of a) f)
