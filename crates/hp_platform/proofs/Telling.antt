-- Where all agents tell their voices, a turn is the schedule's.
use Rattle.std.proofs.Common.{◌≡◌, inl, ℕ, zero, suc, true, false, List, [], ◌∷◌, map, Option, Some, None, refl, sym, ap, subst, ◌∙◌, Bool, if◌then◌else◌}
use Rattle.std.specs.Prelude.{get_or, slice_index_or, slice_set}
use Rattle.hp_model.specs.declared.platforms.Platform.{Platform}
use Rattle.hp_model.specs.declared.accesses.Access.{Access}
use Rattle.hp_model.specs.declared.accesses.Answer.{Answer}
use Rattle.hp_model.specs.declared.entries.Actor.{Actor}
use Rattle.hp_model.specs.declared.entries.Actor.TheVariants as actor
use Rattle.hp_model.specs.declared.entries.Event.{Event}
use Rattle.hp_model.specs.declared.entries.Event.TheVariants as event
use Rattle.hp_model.specs.declared.entries.Entry.{Entry}
use Rattle.hp_model.specs.declared.turns.Due.{Due}
use Rattle.hp_model.specs.declared.turns.Due.TheVariants as due
use Rattle.hp_model.specs.Block.{ejected_by}
use Rattle.hp_model.specs.Following.{voice_told, without_agent}
use Rattle.hp_model.specs.Platform.{is_late}
use Rattle.hp_model.specs.Runs.{IsStepBy, address_of}
use Rattle.hp_model.specs.Schedule.{Scene, act, does, entry_of, made_by, makes_none, question, question_in, said_by, voice_at, without_voice}
use Rattle.hp_model.specs.State.{State}
use Rattle.hp_model.specs.Access.{normal}
use Rattle.hp_model.specs.Step.{After, after, answer_of, step}
use Rattle.hp_model.specs.Turn.{due_of}
use Rattle.hp_model.specs.Voices.{Voice, silent}
use Rattle.hp_agent.specs.Speaking.{Speaks}
use Rattle.hp_platform.specs.declared.worlds.Turn.{Turn}
use Rattle.hp_platform.specs.declared.worlds.Turn.TheVariants.{Made, Idle}
use Rattle.hp_platform.specs.Board.{is_step}
use Rattle.hp_platform.specs.Agents.{IsSaid, IsStepOf, IsUnasked, Says}
use Rattle.hp_platform.specs.Carrying.{Acts, StandsFor}
use Rattle.hp_platform.specs.Live.{IsIdle, IsMade, IsTurned, Live, agents_of}
use Rattle.hp_platform.proofs.Stepping.{asks_is, makes_is}

-- told voices
pub told-is : (vs : List Voice) (k : ℕ) → get_or (map (λ v. Some v) vs) k (Some silent) ≡ Some (slice_index_or vs k silent)
told-is [] k = refl
told-is (v ∷ vs) zero = refl
told-is (v ∷ vs) (suc k) = told-is vs k

pub map-set : (vs : List Voice) (k : ℕ) (v : Voice) → slice_set (map (λ u. Some u) vs) k (Some v) ≡ map (λ u. Some u) (slice_set vs k v)
map-set [] k v = refl
map-set (x ∷ vs) zero v = refl
map-set (x ∷ vs) (suc k) v = ap (λ (us : List (Option Voice)). Some x ∷ us) (map-set vs k v)

pub without-is : (o : Option ℕ) (vs : List Voice) → without_agent o (map (λ u. Some u) vs) ≡ map (λ u. Some u) (without_voice o vs)
without-is None vs = refl
without-is (Some k) vs = map-set vs k silent

-- a step that was made is one
pub step_is : (p : Platform) (s : State) (x : Event) (t : After) → step p s x ≡ Some t → is_step p s x ≡ true
unfolding step
step_is p s x t e = by (is_step p s x) e
  where
    by : (b : Bool) → (if b then Some (after p s x) else None) ≡ Some t → b ≡ true
    by true e = refl
    by false e = cc

module _ (old new : Live) (w : Scene) (tells : StandsFor old w) where
  abbrev p0 : Platform
  p0 = old.platform

  -- what was made in the machine's state was in the scene's
  step_in : (a : Actor) (e : Entry) → IsMade old new a e → IsStepOf p0 (agents_of old) (agents_of new) w.state a e
  step_in a e made = subst (λ (s : State). IsStepOf p0 (agents_of old) (agents_of new) s a e) tells.state made.is

  -- a made step, whose event is the schedule's, is the schedule's
  module _ (a : Actor) (e : Entry) (made : IsMade old new a e) (x : Event) (vs : List Voice) (last : Answer → List Answer) where
    is : IsStepOf p0 (agents_of old) (agents_of new) w.state a e
    is = step_in a e made

    abbrev next : After
    next = after p0 w.state x

    module _ (same : e.event ≡ x) (voices : new.voices ≡ map (λ v. Some v) (without_voice (ejected_by w.state.block next.state.block) vs)) (answers : new.last ≡ last next.answer) where
      its_step : step p0 w.state x ≡ Some next
      its_step = subst (λ (y : Event). step p0 w.state y ≡ Some (after p0 w.state y)) same is.step

      its_answer : e.answer ≡ next.answer
      its_answer = is.answer ∙ ap (answer_of w.state) same

      its_address : e.at ≡ address_of w.state x
      its_address = is.address ∙ ap (address_of w.state) same

      abbrev entry : Event → Option ℕ → Answer → Entry
      entry y o v = record { event = y; at = o; answer = v }

      its_entry : entry_of w x next ≡ e
      its_entry = ap (λ (y : Event). entry y (address_of w.state x) next.answer) (sym same) ∙ ap (λ (o : Option ℕ). entry e.event o next.answer) (sym its_address) ∙ ap (entry e.event e.at) (sym its_answer)

      state_is : new.state ≡ next.state
      state_is = made.state ∙ ap (λ (s : State). (after p0 s e.event).state) tells.state ∙ ap (λ (y : Event). (after p0 w.state y).state) same

      made_acts : Acts new (made_by w x vs last (step p0 w.state x)) (Made e)
      made_acts = subst (λ (o : Option After). Acts new (made_by w x vs last o) (Made e)) (sym its_step) (record {
        entries = ap (λ (f : Entry). f ∷ []) its_entry;
        scene = record { state = state_is; voices = voices; last = answers };
      })

  -- which processor was ejected, by the entry's event and by the schedule's
  abbrev gone : Event → Option ℕ
  gone y = ejected_by w.state.block (after p0 w.state y).state.block

  -- no voice had a say
  makes_acts : (a : Actor) (e : Entry) (x : Event) → IsMade old new a e → e.event ≡ x → IsUnasked (agents_of old) (agents_of new) (gone e.event) → Acts new (does p0 w (due.Makes x)) (Made e)
  makes_acts a e x made same none =
      made_acts a e made x w.voices (λ answer. w.last) same
      (none.voices ∙ ap (without_agent (gone e.event)) tells.voices ∙ without-is (gone e.event) w.voices ∙ ap (λ (y : Event). map (λ v. Some v) (without_voice (gone y) w.voices)) same)
      (none.last ∙ tells.last)

  -- the voice of processor k had
  module _ (a : Actor) (e : Entry) (k : ℕ) (made : IsMade old new a e) (said : IsSaid (agents_of old) (agents_of new) w.state k e (gone e.event)) where
    told : voice_told old.voices k ≡ Some (voice_at w k)
    told = ap (λ (vs : List (Option Voice)). voice_told vs k) tells.voices ∙ told-is w.voices k

    speaks : Speaks (Some (voice_at w k)) said.left (question w k) said.access
    speaks =
        subst (λ (o : Option Voice). Speaks o said.left (question w k) said.access) told
        (subst (λ (vs : List Answer). Speaks (voice_told old.voices k) said.left (question_in w.state k vs) said.access) tells.last said.speaks)

    abbrev said_event : Event
    said_event = event.Do k (normal (said_by w k).access)

    same : e.event ≡ said_event
    same = said.event ∙ ap (λ (b : Access). event.Do k (normal b)) speaks.0

    abbrev kept : List Voice
    kept = slice_set w.voices k (said_by w k).voice

    set-is : slice_set old.voices k said.left ≡ map (λ v. Some v) kept
    set-is = ap (λ (vs : List (Option Voice)). slice_set vs k said.left) tells.voices ∙ ap (slice_set (map (λ v. Some v) w.voices) k) speaks.1 ∙ map-set w.voices k (said_by w k).voice

    asks_acts : Acts new (does p0 w (due.Asks k)) (Made e)
    asks_acts =
        made_acts a e made said_event kept (slice_set w.last k) same
        (said.voices ∙ ap (without_agent (gone e.event)) set-is ∙ without-is (gone e.event) kept ∙ ap (λ (y : Event). map (λ v. Some v) (without_voice (gone y) kept)) same)
        (said.last ∙ ap (λ (vs : List Answer). slice_set vs k e.answer) tells.last ∙ ap (slice_set w.last k) ((step_in a e made).answer ∙ ap (answer_of w.state) same))

  entry_acts : (a : Actor) (e : Entry) → IsMade old new a e → Acts new (act p0 w a) (Made e)
  unfolding act
  entry_acts a e made = by (due_of p0 w.state a) (step_in a e made).says
    where
      by : (d : Due) → Says d (agents_of old) (agents_of new) w.state e (gone e.event) → Acts new (does p0 w d) (Made e)
      by due.Idle says = elim says [ ]
      by (due.Makes x) says = makes_acts a e x made says.0 says.1
      by (due.Asks k) says = asks_acts a e k made says

  -- no step: the scene stays
  idle_acts : (a : Actor) → IsIdle old new a → Acts new (act p0 w a) Idle
  unfolding act
  idle_acts a idle = by (due_of p0 w.state a) refl
    where
      same : Acts new (makes_none w) Idle
      same = record {
        entries = refl;
        scene = subst (λ (l : Live). StandsFor l w) (sym idle.same) tells;
      }

      none : (x : Event) → IsStepBy (is_late p0.delivery) a x → step p0 w.state x ≡ None
      none x by_it = ap (λ (s : State). step p0 s x) (sym tells.state) ∙ idle.none.none x by_it

      stays : (x : Event) (vs : List Voice) (last : Answer → List Answer) → step p0 w.state x ≡ None → Acts new (made_by w x vs last (step p0 w.state x)) Idle
      stays x vs last none = subst (λ (o : Option After). Acts new (made_by w x vs last o) Idle) (sym none) same

      by : (d : Due) → due_of p0 w.state a ≡ d → Acts new (does p0 w d) Idle
      by due.Idle due_is = same
      by (due.Makes x) due_is = stays x w.voices (λ answer. w.last) (none x (makes_is p0 w.state a x due_is).actor)
      by (due.Asks k) due_is =
          let a_is : a ≡ actor.Cpu k = (asks_is p0 w.state a k due_is).actor in
          stays (event.Do k (normal (said_by w k).access)) (slice_set w.voices k (said_by w k).voice) (slice_set w.last k)
          (none (event.Do k (normal (said_by w k).access)) (inl (sym a_is)))

pub acts : (old new : Live) (a : Actor) (turn : Turn) (w : Scene) → StandsFor old w → IsTurned old new a turn → Acts new (act old.platform w a) turn
acts old new a (Made e) w tells made = entry_acts old new w tells a e made
acts old new a Idle w tells idle = idle_acts old new w tells a idle
