-- A turn is the schedule's, by voices that agree with what is told: of the scene that it leaves, the one before it is found.
use Rattle.std.proofs.Common.{◌≡◌, ◌≢◌, ℕ, zero, suc, Bool, true, false, ◌==◌, List, [], ◌∷◌, map, Option, Some, None, refl, sym, ap, subst, ◌∙◌, eqb-true}
use Rattle.std.specs.Prelude.{slice_index_or, slice_set}
use Rattle.std.proofs.lemmas.Bool.{eqb-false}
use Rattle.hp_model.specs.declared.platforms.Platform.{Platform}
use Rattle.hp_model.specs.declared.accesses.Access.{Access}
use Rattle.hp_model.specs.declared.accesses.Answer.{Answer}
use Rattle.hp_model.specs.declared.entries.Actor.{Actor}
use Rattle.hp_model.specs.declared.entries.Event.{Event}
use Rattle.hp_model.specs.declared.entries.Event.TheVariants as event
use Rattle.hp_model.specs.declared.entries.Entry.{Entry}
use Rattle.hp_model.specs.declared.turns.Due.{Due}
use Rattle.hp_model.specs.declared.turns.Due.TheVariants as due
use Rattle.hp_model.specs.Block.{ejected_by}
use Rattle.hp_model.specs.Following.{Carried, voice_told, left_of, without_agent}
use Rattle.hp_model.specs.Schedule.{Scene, act, question_in, without_voice}
use Rattle.hp_model.specs.State.{State}
use Rattle.hp_model.specs.Step.{After, after}
use Rattle.hp_model.specs.Turn.{due_of}
use Rattle.hp_model.specs.Voices.{Voice, Question, Said, script, pen, os, seeded, storm, flood, digger, churn, silent, says, is_script, MayHave, Agree}
use Rattle.hp_model.proofs.Agreeing.{some_voice, has_some}
use Rattle.hp_agent.specs.Speaking.{Speaks}
use Rattle.hp_platform.specs.declared.worlds.Turn.{Turn}
use Rattle.hp_platform.specs.declared.worlds.Turn.TheVariants.{Made, Idle}
use Rattle.hp_platform.specs.Agents.{IsSaid, IsStepOf, IsUnasked, Says}
use Rattle.hp_platform.specs.Carrying.{Acts, Carries, AgreesWith, IsMadeOf, ActsAs, entries_in}
use Rattle.hp_platform.specs.Live.{IsIdle, IsMade, IsTurned, Live, agents_of}
use Rattle.hp_platform.proofs.Telling.{acts, told-is, map-set, without-is}

-- the voice in a place that is told is the told one
agree_at : (cs : List (Option Voice)) (vs : List Voice) (k : ℕ) → Agree cs vs → MayHave (voice_told cs k) (slice_index_or vs k silent)
agree_at [] [] k agree = refl
agree_at [] (v ∷ vs) k agree = absurd agree
agree_at (c ∷ cs) [] k agree = absurd agree
agree_at (c ∷ cs) (v ∷ vs) zero agree = agree.0
agree_at (c ∷ cs) (v ∷ vs) (suc k) agree = agree_at cs vs k agree.1

-- another voice in the place of a processor, before the place was set
agree_set : (cs : List (Option Voice)) (x : Option Voice) (vs : List Voice) (k : ℕ) (u : Voice) → Agree (slice_set cs k x) vs → MayHave (voice_told cs k) u → Agree cs (slice_set vs k u)
agree_set [] x [] k u agree may = tt
agree_set [] x (v ∷ vs) k u agree may = absurd agree
agree_set (c ∷ cs) x [] zero u agree may = absurd agree
agree_set (c ∷ cs) x [] (suc k) u agree may = absurd agree
agree_set (c ∷ cs) x (v ∷ vs) zero u agree may = (may, agree.1)
agree_set (c ∷ cs) x (v ∷ vs) (suc k) u agree may = (agree.0, agree_set cs x vs k u agree.1 may)

set_at : (cs : List (Option Voice)) (x : Option Voice) (vs : List Voice) (k : ℕ) (u : Voice) → Agree (slice_set cs k x) vs → MayHave (voice_told cs k) u → slice_index_or (slice_set vs k u) k silent ≡ u
set_at [] x [] k u agree may = sym may
set_at [] x (v ∷ vs) k u agree may = absurd agree
set_at (c ∷ cs) x [] zero u agree may = absurd agree
set_at (c ∷ cs) x [] (suc k) u agree may = absurd agree
set_at (c ∷ cs) x (v ∷ vs) zero u agree may = refl
set_at (c ∷ cs) x (v ∷ vs) (suc k) u agree may = set_at cs x vs k u agree.1 may

set_back : (vs : List Voice) (k : ℕ) (u : Voice) → slice_set (slice_set vs k u) k (slice_index_or vs k silent) ≡ vs
set_back [] k u = refl
set_back (v ∷ vs) zero u = refl
set_back (v ∷ vs) (suc k) u = ap (λ (us : List Voice). v ∷ us) (set_back vs k u)

-- what an asked place and an emptied one tell then; past the last place nothing changes
left_is : (cs : List (Option Voice)) (k : ℕ) (q : Question) → voice_told (slice_set cs k (left_of (voice_told cs k) q)) k ≡ left_of (voice_told cs k) q
unfolding says
left_is [] k q = refl
left_is (c ∷ cs) zero q = refl
left_is (c ∷ cs) (suc k) q = left_is cs k q

gone_is : (cs : List (Option Voice)) (k : ℕ) → voice_told (slice_set cs k (Some silent)) k ≡ Some silent
gone_is [] k = refl
gone_is (c ∷ cs) zero = refl
gone_is (c ∷ cs) (suc k) = gone_is cs k

other_is : (cs : List (Option Voice)) (k j : ℕ) (x : Option Voice) → j ≢ k → voice_told (slice_set cs k x) j ≡ voice_told cs j
other_is [] k j x other = refl
other_is (c ∷ cs) zero zero x other = absurd (other refl)
other_is (c ∷ cs) zero (suc j) x other = refl
other_is (c ∷ cs) (suc k) zero x other = refl
other_is (c ∷ cs) (suc k) (suc j) x other = other_is cs k j x (λ e. other (ap suc e))

-- what the first places tell, the second do
abbrev TellsMore : List (Option Voice) → List (Option Voice) → Type 0
TellsMore cs ws = (k : ℕ) (v : Voice) → voice_told cs k ≡ Some v → voice_told ws k ≡ Some v

set_tells : (cs ws : List (Option Voice)) (k : ℕ) (x y : Option Voice) → TellsMore cs ws →
    ((v : Voice) → voice_told (slice_set cs k x) k ≡ Some v → voice_told (slice_set ws k y) k ≡ Some v) → TellsMore (slice_set cs k x) (slice_set ws k y)
set_tells cs ws k x y more here j v told = by (j == k) refl
  where
    by : (b : Bool) → (j == k) ≡ b → voice_told (slice_set ws k y) j ≡ Some v
    by true e =
        let same : j ≡ k = eqb-true j k e in
        subst (λ (i : ℕ). voice_told (slice_set ws k y) i ≡ Some v) (sym same) (here v (subst (λ (i : ℕ). voice_told (slice_set cs k x) i ≡ Some v) same told))
    by false e = other_is ws k j y (eqb-false j k e) ∙ more j v (sym (other_is cs k j x (eqb-false j k e)) ∙ told)

gone_tells : (o : Option ℕ) (cs ws : List (Option Voice)) → TellsMore cs ws → TellsMore (without_agent o cs) (without_agent o ws)
gone_tells None cs ws more = more
gone_tells (Some k) cs ws more = set_tells cs ws k (Some silent) (Some silent) more (λ v told. gone_is ws k ∙ (sym (gone_is cs k) ∙ told))

-- the voices before an eject
abbrev ungone : Option ℕ → List (Option Voice) → List Voice → List Voice
ungone None cs vs = vs
ungone (Some k) cs vs = slice_set vs k (some_voice (voice_told cs k))

ungone_agree : (o : Option ℕ) (cs : List (Option Voice)) (vs : List Voice) → Agree (without_agent o cs) vs → Agree cs (ungone o cs vs)
ungone_agree None cs vs agree = agree
ungone_agree (Some k) cs vs agree = agree_set cs (Some silent) vs k (some_voice (voice_told cs k)) agree (has_some (voice_told cs k))

ungone_is : (o : Option ℕ) (cs : List (Option Voice)) (vs : List Voice) → Agree (without_agent o cs) vs → without_voice o (ungone o cs vs) ≡ vs
ungone_is None cs vs agree = refl
ungone_is (Some k) cs vs agree =
    let silent_there : slice_index_or vs k silent ≡ silent = subst (λ (o : Option Voice). MayHave o (slice_index_or vs k silent)) (gone_is cs k) (agree_at (slice_set cs k (Some silent)) vs k agree) in
    ap (slice_set (slice_set vs k (some_voice (voice_told cs k))) k) (sym silent_there) ∙ set_back vs k (some_voice (voice_told cs k))

-- the voice that said an access and is this one then: the told one, or a script
abbrev steps_of : Voice → List Access
steps_of (script as') = as'
steps_of (pen stored) = []
steps_of (os halves place) = []
steps_of (seeded g) = []
steps_of (storm count i) = []
steps_of (flood apic i) = []
steps_of (digger i) = []
steps_of (churn cpu i) = []

script_is : (v : Voice) → is_script v ≡ true → script (steps_of v) ≡ v
script_is (script as') e = refl
script_is (pen stored) e = cc
script_is (os halves place) e = cc
script_is (seeded g) e = cc
script_is (storm count i) e = cc
script_is (flood apic i) e = cc
script_is (digger i) e = cc
script_is (churn cpu i) e = cc

abbrev unsaid : Option Voice → Access → Voice → Voice
unsaid None access left = script (access ∷ steps_of left)
unsaid (Some v) access left = v

has_unsaid : (o : Option Voice) (access : Access) (left : Voice) → MayHave o (unsaid o access left)
has_unsaid None access left = refl
has_unsaid (Some v) access left = refl

abbrev said : Access → Voice → Said
said access left = record { access = access; voice = left }

script_says : (access : Access) (as' : List Access) (q : Question) → says (script (access ∷ as')) q ≡ said access (script as')
unfolding says
script_says access as' q = refl

unsaid_says : (o : Option Voice) (access : Access) (left : Voice) (q : Question) → MayHave (left_of o q) left → ((v : Voice) → o ≡ Some v → access ≡ (says v q).access) →
    says (unsaid o access left) q ≡ said access left
unsaid_says None access left q may speaks = script_says access (steps_of left) q ∙ ap (said access) (script_is left may)
unsaid_says (Some v) access left q may speaks = ap (λ (b : Access). said b (says v q).voice) (sym (speaks v refl)) ∙ ap (said access) (sym may)

-- what is told is what is said of it
untold : (vs : List Voice) → map (λ (o : Option Voice). some_voice o) (map (λ (v : Voice). Some v) vs) ≡ vs
untold [] = refl
untold (v ∷ vs) = ap (λ (us : List Voice). v ∷ us) (untold vs)

same_told : (us vs : List Voice) → map (λ (v : Voice). Some v) us ≡ map (λ (v : Voice). Some v) vs → us ≡ vs
same_told us vs e = sym (untold us) ∙ ap (map (λ (o : Option Voice). some_voice o)) e ∙ untold vs

abbrev scene_of : State → List Voice → List Answer → Scene
scene_of s vs last = record { state = s; voices = vs; last = last }

module _ (old new : Live) (c : Carried) (carries : Carries old c) (a : Actor) where
  abbrev p0 : Platform
  p0 = old.platform

  -- the same machines, where all agents tell these voices
  abbrev before : List Voice → Live
  before vs = record old { voices = map (λ (v : Voice). Some v) vs }

  abbrev afterwards : List Voice → Live
  afterwards vs = record new { voices = map (λ (v : Voice). Some v) vs }

  -- a scene that agrees with what is carried after the turn, and voices that agree before it: a turn by them is the schedule's
  made_of : (turn : Turn) (left : Carried) → Carries new left → (scene : Scene) (vs : List Voice) → AgreesWith left scene → Agree c.voices vs → IsTurned (before vs) (afterwards scene.voices) a turn
      → IsMadeOf c (λ w. act p0 w a) (entries_in turn) scene
  made_of turn left onward scene vs agrees agree turned = record {
    scene = first;
    agrees = record { state = refl; voices = agree; last = refl };
    entries = done.entries;
    leaves =
        ap (λ (s : State). scene_of s next.voices next.last) (sym done.scene.state ∙ onward.state ∙ sym agrees.state)
        ∙ ap (λ (us : List Voice). scene_of scene.state us next.last) (sym (same_told scene.voices next.voices done.scene.voices))
        ∙ ap (scene_of scene.state scene.voices) (sym done.scene.last ∙ onward.last ∙ sym agrees.last);
  }
    where
      first : Scene
      first = scene_of c.state vs c.last

      done : Acts (afterwards scene.voices) (act p0 first a) turn
      done = acts (before vs) (afterwards scene.voices) a turn first (record { state = carries.state; voices = refl; last = carries.last }) turned

      next : Scene
      next = (act p0 first a).scene

  -- no step: what is carried stays
  pub idle_carries : IsIdle old new a → ActsAs new c (λ w. act p0 w a) Idle
  idle_carries idle = record {
    left = c;
    leads = record {
      made = λ scene agrees. made_of Idle c same scene scene.voices agrees agrees.voices (record {
        none = idle.none;
        same = ap (λ (l : Live). record l { voices = map (λ (v : Voice). Some v) scene.voices }) idle.same;
      });
    };
    carries = same;
  }
    where
      same : Carries new c
      same = subst (λ (l : Live). Carries l c) (sym idle.same) carries

  module _ (e : Entry) (made : IsMade old new a e) where
    -- the step was made in the state that is carried
    is : IsStepOf p0 (agents_of old) (agents_of new) c.state a e
    is = subst (λ (s : State). IsStepOf p0 (agents_of old) (agents_of new) s a e) carries.state made.is

    abbrev next : After
    next = after p0 c.state e.event

    abbrev gone : Option ℕ
    gone = ejected_by c.state.block next.state.block

    state_is : new.state ≡ next.state
    state_is = made.state ∙ ap (λ (s : State). (after p0 s e.event).state) carries.state

    -- voices before the turn, by which it is due as it was, and leaves these
    record Before (d : Due) (left : List Voice) : Type 0 where
      voices : List Voice
      agree : Agree c.voices voices
      says : Says d (agents_of (before voices)) (agents_of (afterwards left)) c.state e gone

    carries_on : (d : Due) → due_of p0 c.state a ≡ d → (left : Carried) → Carries new left → ((scene : Scene) → AgreesWith left scene → Before d scene.voices) →
        ActsAs new c (λ w. act p0 w a) (Made e)
    carries_on d due_is left onward found = record {
      left = left;
      leads = record { made = λ scene agrees. made_of (Made e) left onward scene (found scene agrees).voices agrees (found scene agrees).agree (turned scene (found scene agrees)) };
      carries = onward;
    }
      where
        turned : (scene : Scene) (b : Before d scene.voices) → IsMade (before b.voices) (afterwards scene.voices) a e
        turned scene b = record {
          is = subst (λ (t : State). IsStepOf p0 (agents_of (before b.voices)) (agents_of (afterwards scene.voices)) t a e) (sym carries.state) (record {
            actor = is.actor;
            step = is.step;
            answer = is.answer;
            address = is.address;
            says = subst (λ (x : Due). Says x (agents_of (before b.voices)) (agents_of (afterwards scene.voices)) c.state e gone) (sym due_is) b.says;
          });
          state = made.state;
        }

    -- no voice had a say
    makes_carries : (x : Event) → due_of p0 c.state a ≡ due.Makes x → e.event ≡ x → IsUnasked (agents_of old) (agents_of new) gone → ActsAs new c (λ w. act p0 w a) (Made e)
    makes_carries x due_is same none = carries_on (due.Makes x) due_is left onward found
      where
        left : Carried
        left = record { state = next.state; voices = without_agent gone c.voices; last = c.last }

        onward : Carries new left
        onward = record {
          state = state_is;
          voices = λ k v told. ap (λ (ws : List (Option Voice)). voice_told ws k) none.voices ∙ gone_tells gone c.voices old.voices carries.voices k v told;
          last = none.last ∙ carries.last;
        }

        found : (scene : Scene) → AgreesWith left scene → Before (due.Makes x) scene.voices
        found scene agrees = record {
          voices = ungone gone c.voices scene.voices;
          agree = ungone_agree gone c.voices scene.voices agrees.voices;
          says = (
            same,
            record {
              voices = ap (map (λ (v : Voice). Some v)) (sym (ungone_is gone c.voices scene.voices agrees.voices)) ∙ sym (without-is gone (ungone gone c.voices scene.voices));
              heard = none.heard;
              last = none.last;
            },
          );
        }

    -- the voice of processor k had
    asks_carries : (k : ℕ) → due_of p0 c.state a ≡ due.Asks k → IsSaid (agents_of old) (agents_of new) c.state k e gone → ActsAs new c (λ w. act p0 w a) (Made e)
    asks_carries k due_is it = carries_on (due.Asks k) due_is left onward found
      where
        q : Question
        q = question_in c.state k old.last

        told : Option Voice
        told = voice_told c.voices k

        left : Carried
        left = record { state = next.state; voices = without_agent gone (slice_set c.voices k (left_of told q)); last = new.last }

        -- a carried voice said it
        spoke : (v : Voice) → told ≡ Some v → (it.access ≡ (says v q).access) × (it.left ≡ Some (says v q).voice)
        spoke v tells = subst (λ (o : Option Voice). Speaks o it.left q it.access) (carries.voices k v tells) it.speaks

        tells_left : (o : Option Voice) → told ≡ o → (v : Voice) → left_of o q ≡ Some v → voice_told (slice_set old.voices k it.left) k ≡ Some v
        tells_left None none v some = cc
        tells_left (Some u) tells v some =
            let its : it.left ≡ left_of (voice_told old.voices k) q = (spoke u tells).1 ∙ sym (ap (λ (o : Option Voice). left_of o q) (carries.voices k u tells)) in
            ap (λ (o : Option Voice). voice_told (slice_set old.voices k o) k) its ∙ left_is old.voices k q ∙ sym its ∙ (spoke u tells).1 ∙ some

        onward : Carries new left
        onward = record {
          state = state_is;
          voices = λ j v is_told.
              ap (λ (ws : List (Option Voice)). voice_told ws j) it.voices
              ∙ gone_tells gone (slice_set c.voices k (left_of told q)) (slice_set old.voices k it.left)
              (set_tells c.voices old.voices k (left_of told q) it.left carries.voices (λ u here. tells_left told refl u (sym (left_is c.voices k q) ∙ here))) j v is_told;
          last = refl;
        }

        found : (scene : Scene) → AgreesWith left scene → Before (due.Asks k) scene.voices
        found scene agrees = record {
          voices = slice_set kept k u;
          agree = agree_set c.voices (left_of told q) kept k u agree may;
          says = record {
            access = it.access;
            left = Some here;
            speaks = subst (λ (o : Option Voice). Speaks o (Some here) q it.access) (sym (told-is (slice_set kept k u) k ∙ ap (λ (v : Voice). Some v) (set_at c.voices (left_of told q) kept k u agree may)))
                (sym (ap (λ (x : Said). x.access) speaks), ap (λ (v : Voice). Some v) (sym (ap (λ (x : Said). x.voice) speaks)));
            event = it.event;
            voices =
                ap (map (λ (v : Voice). Some v)) (sym (ungone_is gone (slice_set c.voices k (left_of told q)) scene.voices agrees.voices) ∙ ap (without_voice gone) (sym (set_back kept k u)))
                ∙ sym (without-is gone (slice_set (slice_set kept k u) k here))
                ∙ ap (without_agent gone) (sym (map-set (slice_set kept k u) k here));
            heard = it.heard;
            last = it.last;
          };
        }
          where
            -- the voices before the eject, if there was one
            kept : List Voice
            kept = ungone gone (slice_set c.voices k (left_of told q)) scene.voices

            agree : Agree (slice_set c.voices k (left_of told q)) kept
            agree = ungone_agree gone (slice_set c.voices k (left_of told q)) scene.voices agrees.voices

            -- what is left of the one that was asked, and the one that it was
            here : Voice
            here = slice_index_or kept k silent

            u : Voice
            u = unsaid told it.access here

            may : MayHave told u
            may = has_unsaid told it.access here

            speaks : says u q ≡ said it.access here
            speaks = unsaid_says told it.access here q (subst (λ (o : Option Voice). MayHave o here) (left_is c.voices k q) (agree_at (slice_set c.voices k (left_of told q)) kept k agree)) (λ v tells. (spoke v tells).0)

    pub entry_carries : ActsAs new c (λ w. act p0 w a) (Made e)
    entry_carries = by (due_of p0 c.state a) refl is.says
      where
        by : (d : Due) → due_of p0 c.state a ≡ d → Says d (agents_of old) (agents_of new) c.state e gone → ActsAs new c (λ w. act p0 w a) (Made e)
        by due.Idle due_is says = elim says [ ]
        by (due.Makes x) due_is says = makes_carries x due_is says.0 says.1
        by (due.Asks k) due_is says = asks_carries k due_is says

pub acts_as : (old new : Live) (a : Actor) (turn : Turn) (c : Carried) → Carries old c → IsTurned old new a turn → ActsAs new c (λ w. act old.platform w a) turn
acts_as old new a (Made e) c carries made = entry_carries old new c carries a e made
acts_as old new a Idle c carries idle = idle_carries old new c carries a idle
