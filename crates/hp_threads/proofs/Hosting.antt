-- Entries that are hosted, and one more.
use Rattle.std.proofs.Common.{◌≡◌, ◌≤◌, ◌<◌, ◌⊎◌, inl, inr, ℕ, suc, ◌+◌, Bool, true, false, List, [], ◌∷◌, ◌++◌, length, take, Some, refl, sym, ap, ◌∙◌, arith}
use Rattle.std.specs.Prelude.{slice_get}
use Rattle.std.proofs.lemmas.List.{take-append-le, take_all}
use Rattle.hp_model.specs.declared.platforms.Platform.{Platform}
use Rattle.hp_model.specs.declared.entries.Actor.{Actor}
use Rattle.hp_model.specs.declared.entries.Event.{Event}
use Rattle.hp_model.specs.declared.entries.Event.TheVariants as event
use Rattle.hp_model.specs.declared.entries.Entry.{Entry}
use Rattle.hp_model.specs.Hosting.{IsHosted, IsMadeAt, IsMarked, is_host, owner_of}
use Rattle.hp_model.specs.Platform.{is_late}
use Rattle.hp_model.specs.Runs.{actor_of, run}
use Rattle.hp_model.specs.State.{State}
use Rattle.hp_model.specs.Step.{after, step}
use Rattle.hp_platform.specs.Agents.{HasNone}
use Rattle.hp_threads.proofs.Lists.{get_cases, get_last, get_left, get_within, length-snoc}

-- an actor of the host has one event
one_event : (late : Bool) (x y : Event) → is_host (actor_of late x) ≡ true → actor_of late x ≡ actor_of late y → x ≡ y
one_event late (event.Insert j) (event.Insert k) is same = let at : j ≡ k = cc in ap event.Insert at
one_event late (event.Insert j) (event.Remove k) is same = cc
one_event late (event.Insert j) (event.Do k a) is same = cc
one_event true (event.Insert j) (event.TakeSmi k) is same = cc
one_event false (event.Insert j) (event.TakeSmi k) is same = cc
one_event late (event.Insert j) (event.TakeInit k) is same = cc
one_event late (event.Insert j) (event.Resume k) is same = cc
one_event late (event.Insert j) (event.Tell o) is same = cc
one_event late (event.Remove j) (event.Insert k) is same = cc
one_event late (event.Remove j) (event.Remove k) is same = let at : j ≡ k = cc in ap event.Remove at
one_event late (event.Remove j) (event.Do k a) is same = cc
one_event true (event.Remove j) (event.TakeSmi k) is same = cc
one_event false (event.Remove j) (event.TakeSmi k) is same = cc
one_event late (event.Remove j) (event.TakeInit k) is same = cc
one_event late (event.Remove j) (event.Resume k) is same = cc
one_event late (event.Remove j) (event.Tell o) is same = cc
one_event late (event.Do j a) y is same = cc
one_event true (event.TakeSmi j) y is same = cc
one_event false (event.TakeSmi j) y is same = cc
one_event late (event.TakeInit j) y is same = cc
one_event late (event.Resume j) y is same = cc
one_event late (event.Tell o) y is same = cc

module _ (p : Platform) (es : List Entry) (from : ℕ) (hosts : List Actor) (marks : List ℕ) (h : IsHosted p es from hosts marks) where
  -- at a mark the first entries are the same
  front : (i m : ℕ) (fs : List Entry) → slice_get marks i ≡ Some m → take m (es ++ fs) ≡ take m es
  front i m fs at = take-append-le m es fs (h.within i m at).1

  made_more : (e : Entry) (ms : List ℕ) (i m : ℕ) (x : Event) → ((n : ℕ) → slice_get ms (i + 1) ≡ Some n → m < n) → IsMadeAt es marks i m x → IsMadeAt (es ++ e ∷ []) ms i m x
  made_more e ms i m x next made = record { entry = made.entry; at = get_left es (e ∷ []) m made.entry made.at; event = made.event; next = next }

  -- an entry that isn't the host's
  pub hosted_other : (e : Entry) → is_host (owner_of p e.event) ≡ false → IsHosted p (es ++ e ∷ []) from hosts marks
  hosted_other e other = record {
    many = h.many;
    within = λ i m at. ((h.within i m at).0, omega (arith, (h.within i m at).1, length-snoc es e));
    rise = h.rise;
    made = λ i m a s x at ho is its stp.
        let was = h.made i m a s x at ho (sym (ap (run p) (front i m (e ∷ []) at)) ∙ is) its stp in made_more e marks i m x was.next was;
    only = λ n f since at is. only n f since (get_cases es e n f at) is;
  }
    where
      only : (n : ℕ) (f : Entry) → from ≤ n → (slice_get es n ≡ Some f) ⊎ ((n ≡ length es) × (e ≡ f)) → is_host (owner_of p f.event) ≡ true → IsMarked p hosts marks n f
      only n f since (inl old) is = h.only n f since old is
      only n f since (inr new) is = let its : is_host (owner_of p e.event) ≡ true = ap (λ (x : Entry). is_host (owner_of p x.event)) new.1 ∙ is in cc

  -- a turn of the host: a mark more, with its entry or without one
  module _ (a : Actor) (fs : List Entry) (since : from ≤ length es) (longer : length es ≤ length fs)
      (prefix : (i m : ℕ) → m ≤ length es → take m fs ≡ take m es) (keeps : (n : ℕ) (e : Entry) → slice_get es n ≡ Some e → slice_get fs n ≡ Some e)
      (here : (s : State) (x : Event) → run p es ≡ Some s → owner_of p x ≡ a → step p s x ≡ Some (after p s x) → (e : Entry) × (slice_get fs (length es) ≡ Some e) × (e.event ≡ x))
      (back : (n : ℕ) (f : Entry) → slice_get fs n ≡ Some f → is_host (owner_of p f.event) ≡ true → (slice_get es n ≡ Some f) ⊎ ((n ≡ length es) × (owner_of p f.event ≡ a))) where
    abbrev marks' : List ℕ
    marks' = marks ++ length es ∷ []

    in_marks : (i m : ℕ) → (slice_get marks i ≡ Some m) ⊎ ((i ≡ length marks) × (length es ≡ m)) → (from ≤ m) × (m ≤ length fs)
    in_marks i m (inl old) = ((h.within i m old).0, omega (arith, (h.within i m old).1, longer))
    in_marks i m (inr new) = (omega (arith, new.1, since), omega (arith, new.1, longer))

    rises : (i j m n : ℕ) → i < j → (slice_get marks i ≡ Some m) ⊎ ((i ≡ length marks) × (length es ≡ m)) → (slice_get marks j ≡ Some n) ⊎ ((j ≡ length marks) × (length es ≡ n)) → m ≤ n
    rises i j m n less (inl old) (inl too) = h.rise i j m n less old too
    rises i j m n less (inl old) (inr new) = omega (arith, (h.within i m old).1, new.1)
    rises i j m n less (inr new) (inl old) = absurd (omega (arith, less, new.0, get_within marks j n old))
    rises i j m n less (inr new) (inr too) = omega (arith, new.1, too.1)

    -- the entry of an older event was made, so a mark behind it is greater
    next_of : (i m n : ℕ) (x : Event) → IsMadeAt es marks i m x → (slice_get marks (i + 1) ≡ Some n) ⊎ ((i + 1 ≡ length marks) × (length es ≡ n)) → m < n
    next_of i m n x was (inl old) = was.next n old
    next_of i m n x was (inr new) = let there = get_within es m was.entry was.at in omega (arith, new.1, there)

    made : (i m : ℕ) (b : Actor) (s : State) (x : Event) → (slice_get marks i ≡ Some m) ⊎ ((i ≡ length marks) × (length es ≡ m)) → (slice_get hosts i ≡ Some b) ⊎ ((i ≡ length hosts) × (a ≡ b)) →
        run p (take m fs) ≡ Some s → owner_of p x ≡ b → step p s x ≡ Some (after p s x) → IsMadeAt fs marks' i m x
    made i m b s x (inl old) (inl ho) is its stp =
        let was = h.made i m b s x old ho (sym (ap (run p) (prefix i m (h.within i m old).1)) ∙ is) its stp in
        record { entry = was.entry; at = keeps m was.entry was.at; event = was.event; next = λ n at. next_of i m n x was (get_cases marks (length es) (i + 1) n at) }
    made i m b s x (inl old) (inr ho) is its stp = absurd (omega (arith, get_within marks i m old, ho.0, h.many))
    made i m b s x (inr new) (inl ho) is its stp = absurd (omega (arith, get_within hosts i b ho, new.0, h.many))
    made i m b s x (inr new) (inr ho) is its stp =
        let at_end : run p es ≡ Some s = sym (ap (run p) (prefix i (length es) (omega arith) ∙ take_all (length es) es (omega arith))) ∙ ap (λ (n : ℕ). run p (take n fs)) new.1 ∙ is in
        let e = here s x at_end (its ∙ sym ho.1) stp in
        record { entry = e.0; at = ap (slice_get fs) (sym new.1) ∙ e.1; event = e.2; next = λ n at. absurd (past n (get_cases marks (length es) (i + 1) n at)) }
      where
        past : (n : ℕ) → (slice_get marks (i + 1) ≡ Some n) ⊎ ((i + 1 ≡ length marks) × (length es ≡ n)) → ⊥
        past n (inl old) = omega (arith, get_within marks (i + 1) n old, new.0)
        past n (inr too) = omega (arith, too.0, new.0)

    only : (n : ℕ) (f : Entry) → from ≤ n → (slice_get es n ≡ Some f) ⊎ ((n ≡ length es) × (owner_of p f.event ≡ a)) → is_host (owner_of p f.event) ≡ true → IsMarked p (hosts ++ a ∷ []) marks' n f
    only n f since (inl old) is =
        let was = h.only n f since old is in record { place = was.place; mark = get_left marks (length es ∷ []) was.place n was.mark; actor = get_left hosts (a ∷ []) was.place (owner_of p f.event) was.actor }
    only n f since (inr new) is = record {
      place = length marks;
      mark = get_last marks (length es) ∙ ap (λ (m : ℕ). Some m) (sym new.0);
      actor = ap (slice_get (hosts ++ a ∷ [])) h.many ∙ get_last hosts a ∙ ap (λ (b : Actor). Some b) (sym new.1);
    }

    pub hosted_turn : IsHosted p fs from (hosts ++ a ∷ []) marks'
    hosted_turn = record {
      many = length-snoc marks (length es) ∙ ap suc h.many ∙ sym (length-snoc hosts a);
      within = λ i m at. in_marks i m (get_cases marks (length es) i m at);
      rise = λ i j m n less at too. rises i j m n less (get_cases marks (length es) i m at) (get_cases marks (length es) j n too);
      made = λ i m b s x at ho is its stp. made i m b s x (get_cases marks (length es) i m at) (get_cases hosts a i b ho) is its stp;
      only = λ n f since at is. only n f since (back n f at is) is;
    }

  pub hosted_made : (a : Actor) (e : Entry) → is_host a ≡ true → from ≤ length es → owner_of p e.event ≡ a → IsHosted p (es ++ e ∷ []) from (hosts ++ a ∷ []) (marks ++ length es ∷ [])
  hosted_made a e is since its = hosted_turn a (es ++ e ∷ []) since (omega (arith, length-snoc es e)) (λ i m within. take-append-le m es (e ∷ []) within) (λ n f at. get_left es (e ∷ []) n f at)
      (λ s x at own stp. (e, get_last es e, one_event (is_late p.delivery) e.event x (ap is_host its ∙ is) (its ∙ sym own)))
      (λ n f at ho. by n f (get_cases es e n f at))
    where
      by : (n : ℕ) (f : Entry) → (slice_get es n ≡ Some f) ⊎ ((n ≡ length es) × (e ≡ f)) → (slice_get es n ≡ Some f) ⊎ ((n ≡ length es) × (owner_of p f.event ≡ a))
      by n f (inl old) = inl old
      by n f (inr new) = inr (new.0, ap (λ (x : Entry). owner_of p x.event) (sym new.1) ∙ its)

  pub hosted_idle : (a : Actor) → from ≤ length es → ((s : State) → run p es ≡ Some s → HasNone p s a) → IsHosted p es from (hosts ++ a ∷ []) (marks ++ length es ∷ [])
  hosted_idle a since none = hosted_turn a es since (omega arith) (λ i m within. refl) (λ n f at. at)
      (λ s x at own stp. absurd (never s x at own stp))
      (λ n f at ho. inl at)
    where
      never : (s : State) (x : Event) → run p es ≡ Some s → owner_of p x ≡ a → step p s x ≡ Some (after p s x) → ⊥
      never s x at own stp = let no = (none s at).none x (inl own) in cc
