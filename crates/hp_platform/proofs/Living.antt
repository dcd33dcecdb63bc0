-- What a machine at work keeps, and what its turns and events make of it.
use Rattle.std.proofs.Common.{◌≡◌, inl, ℕ, Bool, true, false, List, [], ◌∷◌, ◌++◌, Option, Some, None, refl, sym, ap, subst, ◌∙◌}
use Rattle.std.specs.Prelude.{slice_index_or, slice_set, is_some, if◌then◌else◌}
use Rattle.hp_model.specs.declared.platforms.Platform.{Platform}
use Rattle.hp_model.specs.declared.accesses.Access.{Access}
use Rattle.hp_model.specs.declared.accesses.Answer.{Answer}
use Rattle.hp_model.specs.declared.accesses.Answer.TheVariants.{Quiet}
use Rattle.hp_model.specs.declared.entries.Actor.{Actor}
use Rattle.hp_model.specs.declared.entries.Event.{Event}
use Rattle.hp_model.specs.declared.entries.Event.TheVariants as event
use Rattle.hp_model.specs.declared.entries.Entry.{Entry}
use Rattle.hp_model.specs.declared.turns.Due.{Due}
use Rattle.hp_model.specs.declared.turns.Due.TheVariants as due
use Rattle.hp_model.specs.Access.{normal}
use Rattle.hp_model.specs.Block.{Block, ejected_by}
use Rattle.hp_model.specs.Boot.{is_handed}
use Rattle.hp_model.specs.Cpu.{page_of}
use Rattle.hp_model.specs.Following.{voice_told, without_agent}
use Rattle.hp_model.specs.Platform.{IsFit, is_late}
use Rattle.hp_model.specs.Runs.{actor_of, run, run_from}
use Rattle.hp_model.specs.State.{State, at, start}
use Rattle.hp_model.specs.Step.{After, after, step}
use Rattle.hp_model.specs.Turn.{due_of}
use Rattle.hp_model.specs.Voices.{Voice}
use Rattle.hp_agent.specs.Kinds.{hears_at}
use Rattle.hp_agent.specs.Speaking.{Heard, Speaks, asked}
use Rattle.hp_platform.specs.Agents.{IsSaid, IsUnasked, Says, without_heard}
use Rattle.hp_platform.specs.Board.{Board, IsOther, IsReady, StandsFor, is_step}
use Rattle.hp_platform.specs.Live.{HasMade, IsApplied, IsIdle, IsKept, IsMade, IsReached, IsRefused, Live, agents_of, state_after}
use Rattle.hp_platform.proofs.Stepping.{IsAsks, asks_is, idle_none, makes_is, unmade}
use Rattle.hp_model.proofs.Scheduled.{run-more}
use Rattle.hp_platform.proofs.Turning.{accepted, due_step}

abbrev pub state_in : Board → List (Event × Answer) → State
state_in b xs = state_after b.platform (start b.platform) xs

-- one event more
state_after-more : (p : Platform) (s : State) (xs : List (Event × Answer)) (x : Event × Answer) → state_after p s (xs ++ x ∷ []) ≡ (after p (state_after p s xs) x.0).state
unfolding state_after
state_after-more p s [] x = refl
state_after-more p s (y ∷ xs) x = state_after-more p (after p s y.0).state xs x

-- before the first step
kept_first : (b : Board) → IsFit b.platform → StandsFor b (start b.platform) → IsKept b (state_in b [])
unfolding state_after run run_from
kept_first b fit shows = record { fit = fit; reached = record { entries = []; run = refl }; shows = shows }

pub kept_start : (b : Board) (xs : List (Event × Answer)) → xs ≡ [] → IsFit b.platform → StandsFor b (start b.platform) → IsKept b (state_in b xs)
kept_start b xs none fit shows = subst (λ (ys : List (Event × Answer)). IsKept b (state_in b ys)) (sym none) (kept_first b fit shows)

pub state_start : (p : Platform) (xs : List (Event × Answer)) → xs ≡ [] → state_after p (start p) xs ≡ start p
unfolding state_after
state_start p xs none = ap (state_after p (start p)) none

-- room alone was taken
pub kept_same : (b c : Board) (xs : List (Event × Answer)) → IsKept b (state_in b xs) → c.platform ≡ b.platform → ((s : State) → StandsFor b s → StandsFor c s) → IsKept c (state_in c xs)
kept_same b c xs kept platform same = record {
  fit = subst (λ (p : Platform). IsFit p) (sym platform) kept.fit;
  reached = subst (λ (p : Platform). IsReached p (state_after p (start p) xs)) (sym platform) kept.reached;
  shows = subst (λ (p : Platform). StandsFor c (state_after p (start p) xs)) (sym platform) (same (state_in b xs) kept.shows);
}

-- a step can be made
pub ready_of : (b : Board) (s : State) (x : Event) → IsKept b s → is_step b.platform s x ≡ true → IsReady b x
ready_of b s x kept is = record { state = s; shows = kept.shows; is = is }

-- what a voice says is made outside SMM, after the hand-over
pub asks_found : (b : Board) (s : State) (a : Actor) (k : ℕ) (x : Access) → IsKept b s → ((t : State) → StandsFor b t → IsAsks b.platform t a k) → IsOther b (event.Do k x)
asks_found b s a k x kept its =
    record {
      handed = ap is_handed kept.shows.stage ∙ (its s kept.shows).handed;
      plain = λ t shows. (its t shows).outside;
    }

-- whether the model has a step
pub can_step : (p : Platform) (s : State) (x : Event) → is_some (step p s x) ≡ is_step p s x
unfolding step
can_step p s x = by (is_step p s x) (after p s x)
  where
    by : (b : Bool) (t : After) → is_some (if b then Some t else None) ≡ b
    by true t = refl
    by false t = refl

abbrev pub seen : Platform → List (Event × Answer) → List (Option Voice) → List (Option Heard) → List Answer → Live
seen p xs voices heard last = record { platform = p; state = state_after p (start p) xs; voices = voices; heard = heard; last = last }

-- nothing was made
pub idle_turn : (l : Live) (a : Actor) → due_of l.platform l.state a ≡ due.Idle → IsIdle l l a
idle_turn l a none = record { none = idle_none l.platform l.state a none; same = refl }

pub refused : (l : Live) (x : Event) → is_step l.platform l.state x ≡ false → IsRefused l l x
refused l x none = record { none = unmade l.platform l.state x none; same = refl }

-- a step was made
module _ (b c : Board) (xs ys : List (Event × Answer)) (e : Entry) (kept : IsKept b (state_in b xs)) (made : HasMade b c xs ys e) where
  abbrev p : Platform
  p = b.platform

  abbrev s : State
  s = state_in b xs

  abbrev t : State
  t = (after p s e.event).state

  state-is : state_in c ys ≡ t
  state-is = ap (λ (q : Platform). state_after q (start q) ys) made.platform ∙ ap (state_after p (start p)) made.steps ∙ state_after-more p (start p) xs (e.event, e.answer)

  -- the processor that was ejected
  ejected-is : c.machine.ejected ≡ ejected_by s.block t.block
  ejected-is = made.ejected ∙ ap (λ (k : Block). ejected_by k c.machine.block) kept.shows.state.block ∙ ap (ejected_by s.block) (made.state s kept.shows).state.block

  pub kept_made : is_step p s e.event ≡ true → IsKept c (state_in c ys)
  kept_made is = record {
    fit = subst (λ (q : Platform). IsFit q) (sym made.platform) kept.fit;
    reached = subst (λ (u : State). IsReached c.platform u) (sym state-is) (subst (λ (q : Platform). IsReached q t) (sym made.platform) (record {
      entries = kept.reached.entries ++ e ∷ [];
      run = run-more p kept.reached.entries e s t kept.reached.run (accepted p s e.event e is refl (made.answer s kept.shows) (made.address s kept.shows));
    }));
    shows = subst (λ (u : State). StandsFor c u) (sym state-is) (made.state s kept.shows);
  }

  module _ (voices now : List (Option Voice)) (heard hears : List (Option Heard)) (last next : List Answer) where
    abbrev old : Live
    old = seen b.platform xs voices heard last

    abbrev new : Live
    new = seen c.platform ys now hears next

    unasked : now ≡ without_agent c.machine.ejected voices → hears ≡ without_heard c.machine.ejected heard → next ≡ last → IsUnasked (agents_of old) (agents_of new) (ejected_by s.block t.block)
    unasked tells hear stay = record {
      voices = tells ∙ ap (λ (o : Option ℕ). without_agent o voices) ejected-is;
      heard = hear ∙ ap (λ (o : Option ℕ). without_heard o heard) ejected-is;
      last = stay;
    }

    -- no agent was asked
    pub makes_turn : (a : Actor) → due_of p s a ≡ due.Makes e.event → now ≡ without_agent c.machine.ejected voices → hears ≡ without_heard c.machine.ejected heard → next ≡ last → IsMade old new a e
    makes_turn a makes tells hear stay =
        let m = makes_is p s a e.event makes in
        record {
          is = record {
            actor = m.actor;
            step = due_step p s e.event m.step;
            answer = made.answer s kept.shows;
            address = made.address s kept.shows;
            says = subst (λ (d : Due). Says d (agents_of old) (agents_of new) s e (ejected_by s.block t.block)) (sym makes) (refl, unasked tells hear stay);
          };
          state = state-is;
        }

    -- the agent of processor k was asked
    pub asks_turn : (a : Actor) (k page : ℕ) (access : Access) (left : Option Voice) → due_of p s a ≡ due.Asks k → page ≡ page_of (at s k).mode
        → Speaks (voice_told voices k) left (asked k page (slice_index_or last k Quiet)) access → e.event ≡ event.Do k (normal access)
        → now ≡ without_agent c.machine.ejected (slice_set voices k left) → hears ≡ without_heard c.machine.ejected (hears_at heard k (asked k page (slice_index_or last k Quiet)) access)
        → next ≡ slice_set last k e.answer → IsMade old new a e
    asks_turn a k page access left asks on speaks event tells hear answers =
        let m = asks_is p s a k asks in
        record {
          is = record {
            actor = inl (ap (actor_of (is_late p.delivery)) event ∙ sym m.actor);
            step = due_step p s e.event (subst (λ (y : Event). is_step p s y ≡ true) (sym event) (m.step access));
            answer = made.answer s kept.shows;
            address = made.address s kept.shows;
            says = subst (λ (d : Due). Says d (agents_of old) (agents_of new) s e (ejected_by s.block t.block)) (sym asks) said;
          };
          state = state-is;
        }
      where
        said : IsSaid (agents_of old) (agents_of new) s k e (ejected_by s.block t.block)
        said = record {
          access = access;
          left = left;
          speaks = subst (λ (n : ℕ). Speaks (voice_told voices k) left (asked k n (slice_index_or last k Quiet)) access) on speaks;
          event = event;
          voices = tells ∙ ap (λ (o : Option ℕ). without_agent o (slice_set voices k left)) ejected-is;
          heard =
              hear ∙ ap (λ (o : Option ℕ). without_heard o (hears_at heard k (asked k page (slice_index_or last k Quiet)) access)) ejected-is
              ∙ ap (λ (n : ℕ). without_heard (ejected_by s.block t.block) (hears_at heard k (asked k n (slice_index_or last k Quiet)) access)) on;
          last = answers;
        }

    -- an event was given
    pub applied : (x : Event) → e.event ≡ x → is_step p s e.event ≡ true → now ≡ without_agent c.machine.ejected voices → hears ≡ without_heard c.machine.ejected heard → next ≡ last → IsApplied old new x e.answer
    applied x event is tells hear stay =
        subst (λ (y : Event). IsApplied old new y e.answer) event
        (record { is = record { step = due_step p s e.event is; answer = made.answer s kept.shows; unasked = unasked tells hear stay }; state = state-is })
