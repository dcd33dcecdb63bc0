-- Entries that follow voices: one more, others behind them, and by fewer voices that are told.
use Rattle.std.proofs.Common.{◌≡◌, ◌≢◌, ℕ, zero, suc, Bool, true, false, ◌&&◌, ◌==◌, List, [], ◌∷◌, ◌++◌, Option, Some, None, refl, sym, ap, subst, ◌∙◌, eqb-true}
use Rattle.std.specs.Prelude.{slice_set}
use Rattle.std.proofs.lemmas.Bool.{and_parts, eqb-false, eq-eqb}
use Rattle.hp_model.specs.declared.platforms.Platform.{Platform}
use Rattle.hp_model.specs.declared.accesses.Access.{Access}
use Rattle.hp_model.specs.declared.accesses.Answer.{Answer}
use Rattle.hp_model.specs.declared.entries.Event.{Event}
use Rattle.hp_model.specs.declared.entries.Event.TheVariants as event
use Rattle.hp_model.specs.declared.entries.Entry.{Entry}
use Rattle.hp_model.specs.declared.turns.Due.{Due}
use Rattle.hp_model.specs.declared.turns.Due.TheVariants as due
use Rattle.hp_model.specs.Access.{normal, same_access}
use Rattle.hp_model.specs.Block.{ejected_by}
use Rattle.hp_model.specs.Following.{Carried, Follows, carried, carried_all, does_that, due_at, follows, follows_by, is_said, last_by, left_of, question_at, voice_told, voices_by, without_agent}
use Rattle.hp_model.specs.Schedule.{question_in}
use Rattle.hp_model.specs.State.{State}
use Rattle.hp_model.specs.Step.{after}
use Rattle.hp_model.specs.Voices.{Question, Voice, silent, says}
use Rattle.hp_model.proofs.Same.{same_access-refl}
use Rattle.hp_agent.specs.Speaking.{Speaks}
use Rattle.hp_platform.specs.Agents.{Agents, Says}

pub carried_more : (p : Platform) (c : Carried) (es : List Entry) (e : Entry) → carried_all p c (es ++ e ∷ []) ≡ carried p (carried_all p c es) e
unfolding carried_all
carried_more p c [] e = refl
carried_more p c (x ∷ es) e = carried_more p (carried p c x) es e

both : (a b : Bool) → a ≡ true → b ≡ true → (a && b) ≡ true
both true b x y = y
both false b x y = cc

pub follows_more : (p : Platform) (c : Carried) (es : List Entry) (e : Entry) → Follows p c es →
    follows_by (due_at p (carried_all p c es) e) (carried_all p c es) e.event ≡ true → Follows p c (es ++ e ∷ [])
unfolding follows carried_all
follows_more p c [] e so last = both (follows_by (due_at p c e) c e.event) true last refl
follows_more p c (x ∷ es) e so last =
    let parts = and_parts (follows_by (due_at p c x) c x.event) (follows p (carried p c x) es) so in
    both (follows_by (due_at p c x) c x.event) (follows p (carried p c x) (es ++ e ∷ [])) parts.0 (follows_more p (carried p c x) es e parts.1 last)

-- what an asked place and an emptied one tell then; past the last place nothing changes
left_is : (vs : List (Option Voice)) (k : ℕ) (q : Question) → voice_told (slice_set vs k (left_of (voice_told vs k) q)) k ≡ left_of (voice_told vs k) q
unfolding says
left_is [] k q = refl
left_is (v ∷ vs) zero q = refl
left_is (v ∷ vs) (suc k) q = left_is vs k q

gone_is : (vs : List (Option Voice)) (k : ℕ) → voice_told (slice_set vs k (Some silent)) k ≡ Some silent
gone_is [] k = refl
gone_is (v ∷ vs) zero = refl
gone_is (v ∷ vs) (suc k) = gone_is vs k

other_is : (vs : List (Option Voice)) (k j : ℕ) (x : Option Voice) → j ≢ k → voice_told (slice_set vs k x) j ≡ voice_told vs j
other_is [] k j x other = refl
other_is (v ∷ vs) zero zero x other = absurd (other refl)
other_is (v ∷ vs) zero (suc j) x other = refl
other_is (v ∷ vs) (suc k) zero x other = refl
other_is (v ∷ vs) (suc k) (suc j) x other = other_is vs k j x (λ e. other (ap suc e))

-- what the first places tell, the second do
abbrev pub TellsMore : List (Option Voice) → List (Option Voice) → Type 0
TellsMore vs ws = (k : ℕ) (v : Voice) → voice_told vs k ≡ Some v → voice_told ws k ≡ Some v

set_tells : (vs ws : List (Option Voice)) (k : ℕ) (x y : Option Voice) → TellsMore vs ws →
    ((v : Voice) → voice_told (slice_set vs k x) k ≡ Some v → voice_told (slice_set ws k y) k ≡ Some v) → TellsMore (slice_set vs k x) (slice_set ws k y)
set_tells vs ws k x y more here j v told = by (j == k) refl
  where
    by : (b : Bool) → (j == k) ≡ b → voice_told (slice_set ws k y) j ≡ Some v
    by true e =
        let same : j ≡ k = eqb-true j k e in
        subst (λ (i : ℕ). voice_told (slice_set ws k y) i ≡ Some v) (sym same) (here v (subst (λ (i : ℕ). voice_told (slice_set vs k x) i ≡ Some v) same told))
    by false e = other_is ws k j y (eqb-false j k e) ∙ more j v (sym (other_is vs k j x (eqb-false j k e)) ∙ told)

gone_tells : (o : Option ℕ) (vs ws : List (Option Voice)) → TellsMore vs ws → TellsMore (without_agent o vs) (without_agent o ws)
gone_tells None vs ws more = more
gone_tells (Some k) vs ws more = set_tells vs ws k (Some silent) (Some silent) more (λ v told. gone_is ws k ∙ (sym (gone_is vs k) ∙ told))

-- what an agent said that tells its voice
module _ (old new : Agents) (e : Entry) (o : Option ℕ) (c : Carried) (last : old.last ≡ c.last) (tells : TellsMore c.voices old.voices) where
  spoken : (k : ℕ) (access : Access) (left : Option Voice) (v : Voice) → voice_told c.voices k ≡ Some v → Speaks (voice_told old.voices k) left (question_in c.state k old.last) access →
      (access ≡ (says v (question_at c k)).access) × (left ≡ Some (says v (question_at c k)).voice)
  spoken k access left v is speaks =
      subst (λ (q : Question). (access ≡ (says v q).access) × (left ≡ Some (says v q).voice)) (ap (λ (ls : List Answer). question_in c.state k ls) last)
      (subst (λ (w : Option Voice). Speaks w left (question_in c.state k old.last) access) (tells k v is) speaks)

  pub follows_said : (d : Due) → Says d old new c.state e o → follows_by d c e.event ≡ true
  follows_said due.Idle says = refl
  follows_said (due.Makes x) says = refl
  follows_said (due.Asks k) says = by (voice_told c.voices k) refl
    where
      same : (a b : Access) → a ≡ b → does_that (event.Do k (normal a)) k (normal b) ≡ true
      same a b is = both (k == k) (same_access (normal a) (normal b)) (eq-eqb k k refl) (ap (λ (x : Access). same_access (normal x) (normal b)) is ∙ same_access-refl (normal b))

      by : (w : Option Voice) → voice_told c.voices k ≡ w → is_said w (question_at c k) k e.event ≡ true
      by None is = refl
      by (Some v) is =
          ap (λ (x : Event). is_said (Some v) (question_at c k) k x) says.event ∙ same says.access _ (spoken k says.access says.left v is says.speaks).0

  pub voices_said : (d : Due) → Says d old new c.state e o → TellsMore (without_agent o (voices_by d c)) new.voices
  voices_said due.Idle says = elim says [ ]
  voices_said (due.Makes x) says = subst (λ (ws : List (Option Voice)). TellsMore (without_agent o c.voices) ws) (sym says.1.voices) (gone_tells o c.voices old.voices tells)
  voices_said (due.Asks k) says =
      subst (λ (ws : List (Option Voice)). TellsMore (without_agent o (voices_by (due.Asks k) c)) ws) (sym says.voices)
      (gone_tells o _ _ (set_tells c.voices old.voices k (left_of (voice_told c.voices k) (question_at c k)) says.left tells
      (λ v told. by (voice_told c.voices k) refl v (sym (left_is c.voices k (question_at c k)) ∙ told))))
    where
      here : (u : Voice) → voice_told c.voices k ≡ Some u → says.left ≡ left_of (voice_told old.voices k) (question_at c k)
      here u is = (spoken k says.access says.left u is says.speaks).1 ∙ ap (λ (w : Option Voice). left_of w (question_at c k)) (sym (tells k u is))

      by : (w : Option Voice) → voice_told c.voices k ≡ w → (v : Voice) → left_of w (question_at c k) ≡ Some v → voice_told (slice_set old.voices k says.left) k ≡ Some v
      by None is v left = cc
      by (Some u) is v left =
          ap (λ (x : Option Voice). voice_told (slice_set old.voices k x) k) (here u is) ∙ left_is old.voices k (question_at c k)
          ∙ ap (λ (w : Option Voice). left_of w (question_at c k)) (tells k u is) ∙ left

  pub last_said : (d : Due) → Says d old new c.state e o → new.last ≡ last_by d e.answer c.last
  last_said due.Idle says = elim says [ ]
  last_said (due.Makes x) says = says.1.last ∙ last
  last_said (due.Asks k) says = says.last ∙ ap (λ (ls : List Answer). slice_set ls k e.answer) last

-- some entries, and then others
pub carried_both : (p : Platform) (c : Carried) (es fs : List Entry) → carried_all p c (es ++ fs) ≡ carried_all p (carried_all p c es) fs
unfolding carried_all
carried_both p c [] fs = refl
carried_both p c (e ∷ es) fs = carried_both p (carried p c e) es fs

pub follows_both : (p : Platform) (c : Carried) (es fs : List Entry) → Follows p c es → Follows p (carried_all p c es) fs → Follows p c (es ++ fs)
unfolding follows carried_all
follows_both p c [] fs first second = second
follows_both p c (e ∷ es) fs first second =
    let parts = and_parts (follows_by (due_at p c e) c e.event) (follows p (carried p c e) es) first in
    both (follows_by (due_at p c e) c e.event) (follows p (carried p c e) (es ++ fs)) parts.0 (follows_both p (carried p c e) es fs parts.1 second)

-- entries that follow voices follow the fewer of them that are told
abbrev pub carried_of : State → List (Option Voice) → List Answer → Carried
carried_of s vs last = record { state = s; voices = vs; last = last }

said_fewer : (d : Due) (s : State) (vs ws : List (Option Voice)) (last : List Answer) (x : Event) → TellsMore vs ws → follows_by d (carried_of s ws last) x ≡ true → follows_by d (carried_of s vs last) x ≡ true
said_fewer due.Idle s vs ws last x more so = refl
said_fewer (due.Makes e) s vs ws last x more so = refl
said_fewer (due.Asks k) s vs ws last x more so = by (voice_told vs k) refl
  where
    by : (o : Option Voice) → voice_told vs k ≡ o → is_said o (question_in s k last) k x ≡ true
    by None is = refl
    by (Some v) is = ap (λ (o : Option Voice). is_said o (question_in s k last) k x) (sym (more k v is)) ∙ so

voices_fewer : (d : Due) (s : State) (vs ws : List (Option Voice)) (last : List Answer) → TellsMore vs ws → TellsMore (voices_by d (carried_of s vs last)) (voices_by d (carried_of s ws last))
voices_fewer due.Idle s vs ws last more = more
voices_fewer (due.Makes e) s vs ws last more = more
voices_fewer (due.Asks k) s vs ws last more =
    set_tells vs ws k (left_of (voice_told vs k) (question_in s k last)) (left_of (voice_told ws k) (question_in s k last)) more
    (λ v told. left_is ws k (question_in s k last) ∙ by v (voice_told vs k) refl (sym (left_is vs k (question_in s k last)) ∙ told))
  where
    by : (v : Voice) (o : Option Voice) → voice_told vs k ≡ o → left_of o (question_in s k last) ≡ Some v → left_of (voice_told ws k) (question_in s k last) ≡ Some v
    by v None is left = cc
    by v (Some u) is left = ap (λ (o : Option Voice). left_of o (question_in s k last)) (more k u is) ∙ left

pub follows_fewer : (p : Platform) (s : State) (vs ws : List (Option Voice)) (last : List Answer) (es : List Entry) → TellsMore vs ws → Follows p (carried_of s ws last) es → Follows p (carried_of s vs last) es
unfolding follows
follows_fewer p s vs ws last [] more so = refl
follows_fewer p s vs ws last (e ∷ es) more so =
    let d = due_at p (carried_of s vs last) e in
    let gone = ejected_by s.block (after p s e.event).state.block in
    let parts = and_parts (follows_by d (carried_of s ws last) e.event) (follows p (carried p (carried_of s ws last) e) es) so in
    both (follows_by d (carried_of s vs last) e.event) (follows p (carried p (carried_of s vs last) e) es) (said_fewer d s vs ws last e.event more parts.0)
    (follows_fewer p (after p s e.event).state (without_agent gone (voices_by d (carried_of s vs last))) (without_agent gone (voices_by d (carried_of s ws last))) (last_by d e.answer last) es
    (gone_tells gone _ _ (voices_fewer d s vs ws last more)) parts.1)
