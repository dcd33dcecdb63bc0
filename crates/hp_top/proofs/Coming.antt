-- What is still to come of a file's turns, an actor later.
use Rattle.std.proofs.Common.{◌≡◌, ℕ, zero, suc, ◌+◌, ◌-◌, ◌/◌, ◌%◌, ◌==◌, ◌<◌, ◌≤◌, Bool, true, false, nat_lt, List, [], ◌∷◌, ◌++◌, Option, Some, None, refl, sym, ◌∙◌, ap, subst, append_assoc, length, length-append, cond, not, leb-true, ltb-true, ltb-false, lt-ltb, arith, if◌then◌else◌}
use Rattle.hp_model.specs.declared.entries.Actor.{Actor}
use Rattle.hp_model.specs.declared.files.File.{File}
use Rattle.hp_model.specs.declared.files.HostEvent.{HostEvent}
use Rattle.hp_model.specs.declared.platforms.Platform.{Platform}
use Rattle.hp_model.specs.Platform.{IsFit, boot_fits, count_of, counts_fit, features_fit, ids_fit, memory_fits, polls_fit, tiles_fit, tseg_fits, turns_fit}
use Rattle.hp_model.specs.Following.{Carried}
use Rattle.hp_model.specs.Text.{lines_text}
use Rattle.hp_platform.specs.Live.{Live}
use Rattle.hp_model.specs.Schedule.{Scene, Made, both_make, act_all, actors_of, cpus_of, hosts_of, is_stalled, turn_actor, turns_from}
use Rattle.hp_top.specs.Actors.{Actors, IsAhead, actors_from, to_come}
use Rattle.hp_top.specs.Stalls.{IsTracking, Stalled}
use Rattle.hp_top.specs.Doing.{HasSent, Sends}
use Rattle.hp_top.specs.Turns.{Cuts, Rises, at_turn, due, lines_of, past, turn_of}
use Rattle.hp_top.proofs.Rising.{due-is, past-at, past-rises}
use Rattle.hp_top.proofs.Doing.{does_same}
use Rattle.hp_top.proofs.Turning.{act_all-append, cuts_same}

-- of the host events of a turn the first is taken
pub rises-first : (turn : ℕ) (h : HostEvent) (hs : List HostEvent) → h.turn ≡ turn → Rises turn_of turn (h ∷ hs) → Rises turn_of turn hs
rises-first turn h hs is up = subst (λ (n : ℕ). Rises turn_of n hs) is up.1

pub later-first : (turn t : ℕ) (hs more : List HostEvent) → past turn hs ≡ past turn more → turn < t → at_turn t more ≡ at_turn t hs
later-first turn t hs more same after = sym (past-at turn t more after) ∙ ap (at_turn t) (sym same) ∙ past-at turn t hs after

-- none is left of this turn
pub rises-over : (turn : ℕ) (hs : List HostEvent) → past turn hs ≡ hs → Rises turn_of turn hs → Rises turn_of (turn + 1) hs
rises-over turn hs kept up = subst (Rises turn_of (turn + 1)) kept (past-rises turn hs up)

-- a rule that is met, and those after it: the turns of a platform that fits are few
met : (b : Bool) (n : ℕ) (rest : Option ℕ) → cond (not b) (Some n) rest ≡ None → (b ≡ true) × (rest ≡ None)
met true n rest e = (refl, e)
met false n rest e = absurd cc

pub turns_few : (p : Platform) → IsFit p → p.turns ≤ 200000
turns_few p fit =
    let three = (met (counts_fit p) 2 _ fit).1 in
    let five = (met (boot_fits p) 4 _ (met (ids_fit p) 3 _ three).1).1 in
    let seven = (met (tseg_fits p) 6 _ (met (memory_fits p) 5 _ five).1).1 in
    let nine = (met (features_fit p) 8 _ (met (tiles_fit p) 7 _ seven).1).1 in
    leb-true p.turns 200000 (met (turns_fit p) 10 _ (met (polls_fit p) 9 _ nine).1).0

abbrev turns_in : Actors → ℕ
turns_in s = s.file.platform.turns

-- what comes behind the host's events of the turn
abbrev behind : Actors → List Actor
behind s = cpus_of s.file s.turn ++ actors_from s.file (turns_in s - (s.turn + 1)) (s.turn + 1)

module _ (s : Actors) where
  within : s.turn < turns_in s → to_come s ≡ due s.turn s.hosts ++ behind s
  within before = ap (λ (b : Bool). if b then due s.turn s.hosts ++ behind s else []) (lt-ltb s.turn (turns_in s) before)

  -- no turn is left
  pub none_comes : turns_in s ≤ s.turn → to_come s ≡ []
  none_comes after = by (nat_lt s.turn (turns_in s)) refl
    where
      by : (b : Bool) → nat_lt s.turn (turns_in s) ≡ b → (if b then due s.turn s.hosts ++ behind s else []) ≡ []
      by true e = absurd (omega (arith, ltb-true s.turn (turns_in s) e, after))
      by false e = refl

  -- the turn's host events were those of the file: so many turns are left
  pub turns_come : Rises turn_of s.turn s.hosts → at_turn s.turn s.hosts ≡ hosts_of s.file s.turn → to_come s ≡ actors_from s.file (turns_in s - s.turn) s.turn
  unfolding actors_from actors_of
  turns_come up same = by (nat_lt s.turn (turns_in s)) refl
    where
      by : (b : Bool) → nat_lt s.turn (turns_in s) ≡ b → (if b then due s.turn s.hosts ++ behind s else []) ≡ actors_from s.file (turns_in s - s.turn) s.turn
      by true e =
          let left : turns_in s - s.turn ≡ suc (turns_in s - (s.turn + 1)) = omega (arith, ltb-true s.turn (turns_in s) e) in
          ap (λ (xs : List Actor). xs ++ behind s) (due-is s.turn s.hosts up ∙ same)
          ∙ sym (append_assoc (hosts_of s.file s.turn) (cpus_of s.file s.turn) (actors_from s.file (turns_in s - (s.turn + 1)) (s.turn + 1)))
          ∙ ap (λ (n : ℕ). actors_from s.file n s.turn) (sym left)
      by false e =
          let left : turns_in s - s.turn ≡ 0 = omega (arith, ltb-false s.turn (turns_in s) e) in
          ap (λ (n : ℕ). actors_from s.file n s.turn) (sym left)

-- before the first turn all are
pub all_come : (f : File) (hs : List HostEvent) (stalled : Stalled) → Rises turn_of 0 hs → at_turn 0 hs ≡ hosts_of f 0 →
    to_come (record { file = f; hosts = hs; stalled = stalled; turn = 0 }) ≡ actors_from f f.platform.turns 0
all_come f hs stalled up same =
    let none : f.platform.turns - 0 ≡ f.platform.turns = omega arith in
    turns_come (record { file = f; hosts = hs; stalled = stalled; turn = 0 }) up same ∙ ap (λ (n : ℕ). actors_from f n 0) none

module _ (s new : Actors) (file : new.file ≡ s.file) where
  abbrev f : File
  f = s.file

  abbrev turns : ℕ
  turns = f.platform.turns

  abbrev others : List Actor
  others = cpus_of f s.turn ++ actors_from f (turns - (s.turn + 1)) (s.turn + 1)

  -- the next of the host's events
  pub host_comes : s.turn < turns → (a : Actor) → new.turn ≡ s.turn → due s.turn s.hosts ≡ a ∷ due s.turn new.hosts → to_come s ≡ a ∷ to_come new
  host_comes before a turn is =
      within s before ∙ ap (λ (xs : List Actor). xs ++ others) is
      ∙ ap (λ (n : ℕ). a ∷ (due n new.hosts ++ (cpus_of f n ++ actors_from f (turns - (n + 1)) (n + 1)))) (sym turn)
      ∙ ap (λ (g : File). a ∷ (due new.turn new.hosts ++ (cpus_of g new.turn ++ actors_from g (g.platform.turns - (new.turn + 1)) (new.turn + 1)))) (sym file)
      ∙ ap (λ (b : Bool). a ∷ (if b then due new.turn new.hosts ++ (cpus_of new.file new.turn ++ actors_from new.file (new.file.platform.turns - (new.turn + 1)) (new.turn + 1)) else []))
      (sym (lt-ltb new.turn new.file.platform.turns (omega (arith, before, turn, ap (λ (g : File). g.platform.turns) file))))

  pub host_ahead : IsAhead s → new.stalled ≡ s.stalled → new.turn ≡ s.turn → (Rises turn_of s.turn s.hosts → Rises turn_of s.turn new.hosts)
      → ((t : ℕ) → s.turn < t → at_turn t new.hosts ≡ at_turn t s.hosts) → IsAhead new
  host_ahead ahead stalled turn rises later = record {
    fit = subst (λ (g : File). IsFit g.platform) (sym file) ahead.fit;
    tracks = subst (λ (g : File). IsTracking g new.turn new.stalled) (sym file)
        (subst (λ (n : ℕ). IsTracking f n new.stalled) (sym turn) (subst (IsTracking f s.turn) (sym stalled) ahead.tracks));
    rises = subst (λ (n : ℕ). Rises turn_of n new.hosts) (sym turn) (rises ahead.rises);
    later = λ t after. later t (omega (arith, after, turn)) ∙ ahead.later t (omega (arith, after, turn)) ∙ ap (λ (g : File). hosts_of g t) (sym file);
  }

  -- the turn is over, and what is left are the turns after it
  module _ (ahead : IsAhead s) (turn : new.turn ≡ s.turn + 1) (rises : Rises turn_of (s.turn + 1) new.hosts) (later : (t : ℕ) → s.turn < t → at_turn t new.hosts ≡ at_turn t s.hosts) where
    same : (t : ℕ) → s.turn < t → at_turn t new.hosts ≡ hosts_of f t
    same t after = later t after ∙ ahead.later t after

    pub turn_over : s.turn < turns → due s.turn s.hosts ≡ [] → to_come s ≡ cpus_of f s.turn ++ to_come new
    turn_over before none = within s before ∙ ap (λ (xs : List Actor). xs ++ others) none ∙ ap (λ (xs : List Actor). cpus_of f s.turn ++ xs) (sym rest)
      where
        onward : to_come new ≡ actors_from new.file (new.file.platform.turns - new.turn) new.turn
        onward = turns_come new (subst (λ (n : ℕ). Rises turn_of n new.hosts) (sym turn) rises)
            (same new.turn (omega (arith, turn)) ∙ ap (λ (g : File). hosts_of g new.turn) (sym file))

        rest : to_come new ≡ actors_from f (turns - (s.turn + 1)) (s.turn + 1)
        rest = onward ∙ ap (λ (g : File). actors_from g (g.platform.turns - new.turn) new.turn) file ∙ ap (λ (n : ℕ). actors_from f (turns - n) n) turn

    pub over_ahead : IsTracking f (s.turn + 1) new.stalled → IsAhead new
    over_ahead tracks = record {
      fit = subst (λ (g : File). IsFit g.platform) (sym file) ahead.fit;
      tracks = subst (λ (g : File). IsTracking g new.turn new.stalled) (sym file) (subst (λ (n : ℕ). IsTracking f n new.stalled) (sym turn) tracks);
      rises = subst (λ (n : ℕ). Rises turn_of n new.hosts) (sym turn) rises;
      later = λ t after. same t (omega (arith, after, turn)) ∙ ap (λ (g : File). hosts_of g t) (sym file);
    }

-- all of them make what the turns make
pub turns_are : (f : File) (n turn : ℕ) (w : Scene) → turns_from f n turn w ≡ act_all f.platform w (actors_from f n turn)
unfolding turns_from act_all actors_from
turns_are f zero turn w = refl
turns_are f (suc n) turn w =
    ap (both_make (act_all f.platform w (actors_of f turn))) (turns_are f n (turn + 1) (act_all f.platform w (actors_of f turn)).scene)
    ∙ sym (act_all-append f.platform (actors_of f turn) (actors_from f n (turn + 1)) w)

-- of a turn's host events and of those after it none is counted twice
due_past : (turn : ℕ) (hs : List HostEvent) → length (due turn hs) + length (past turn hs) ≡ length hs
due_past turn [] = refl
due_past turn (h ∷ hs) = by (due_past turn hs) (h.turn == turn)
  where
    by : length (due turn hs) + length (past turn hs) ≡ length hs → (b : Bool) →
        length (if b then h.actor ∷ due turn hs else []) + length (if b then past turn hs else h ∷ hs) ≡ suc (length hs)
    by more true = omega (arith, more)
    by more false = omega arith

cpus_few : (f : File) (turn : ℕ) → length (cpus_of f turn) ≤ 1
cpus_few f turn = by (is_stalled f.stalls (turn % count_of f.platform) turn)
  where
    by : (b : Bool) → length (if b then [] else turn_actor f.platform.delivery (turn / count_of f.platform) (turn % count_of f.platform) ∷ []) ≤ 1
    by true = omega arith
    by false = omega arith

-- in so many turns so many processors act, and each host event once
pub few_come : (f : File) (n turn : ℕ) (hs : List HostEvent) → Rises turn_of turn hs → ((t : ℕ) → turn ≤ t → at_turn t hs ≡ hosts_of f t) → length (actors_from f n turn) ≤ n + length hs
unfolding actors_from actors_of
few_come f zero turn hs up same = omega arith
few_come f (suc n) turn hs up same =
    let rest : length (actors_from f n (turn + 1)) ≤ n + length (past turn hs) =
    few_come f n (turn + 1) (past turn hs) (past-rises turn hs up) (λ t later. past-at turn t hs (omega (arith, later)) ∙ same t (omega (arith, later))) in
    let here : length (hosts_of f turn) ≡ length (due turn hs) = ap length (sym (due-is turn hs up ∙ same turn (omega arith))) in
    omega (arith, rest, here, cpus_few f turn, due_past turn hs, length-append (hosts_of f turn ++ cpus_of f turn) (actors_from f n (turn + 1)), length-append (hosts_of f turn) (cpus_of f turn))

-- none of the turn's host events was left, and the processor's actor was next
module _ (s mid new : Actors) (ahead : IsAhead s) (file : mid.file ≡ s.file) (turn : mid.turn ≡ s.turn) (later : (t : ℕ) → s.turn < t → at_turn t mid.hosts ≡ at_turn t s.hosts)
    (over : Rises turn_of (s.turn + 1) mid.hosts) (file_new : new.file ≡ mid.file) (hosts_new : new.hosts ≡ mid.hosts) (turn_new : new.turn ≡ mid.turn + 1) where
  one_on : new.turn ≡ s.turn + 1
  one_on = omega (arith, turn, turn_new)

  rises_on : Rises turn_of (s.turn + 1) new.hosts
  rises_on = subst (Rises turn_of (s.turn + 1)) (sym hosts_new) over

  pub walked_ahead : IsTracking mid.file (mid.turn + 1) new.stalled → IsAhead new
  walked_ahead tracks =
      over_ahead s new (file_new ∙ file) ahead one_on rises_on (λ t after. ap (at_turn t) hosts_new ∙ later t after)
      (subst (λ (g : File). IsTracking g (s.turn + 1) new.stalled) file (subst (λ (n : ℕ). IsTracking mid.file (n + 1) new.stalled) turn tracks))

  pub walked : s.turn < s.file.platform.turns → due s.turn s.hosts ≡ [] → to_come s ≡ cpus_of mid.file mid.turn ++ to_come new
  walked before none =
      turn_over s new (file_new ∙ file) ahead one_on rises_on (λ t after. ap (at_turn t) hosts_new ∙ later t after) before none
      ∙ ap (λ (g : File). cpus_of g s.turn ++ to_come new) (sym file) ∙ ap (λ (n : ℕ). cpus_of mid.file n ++ to_come new) (sym turn)

-- what they send is what the turns send
module _ (f : File) (actors : List Actor) (all : actors ≡ actors_from f f.platform.turns 0) where
  as_turns : (w : Scene) → act_all f.platform w actors ≡ turns_from f f.platform.turns 0 w
  as_turns w = ap (act_all f.platform w) all ∙ sym (turns_are f f.platform.turns 0 w)

  pub all_sends : (live : Live) (c : Carried) (made : ℕ) (a b : Option (List ℕ)) → Sends f.platform live c (λ w. act_all f.platform w actors) made a b →
      Sends f.platform live c (λ w. turns_from f f.platform.turns 0 w) made a b
  all_sends live c made a b sends = does_same f.platform live c (λ w. act_all f.platform w actors) (λ w. turns_from f f.platform.turns 0 w) (HasSent made a b) as_turns sends

  pub all_cuts : (c : Carried) (a b : Option (List ℕ)) → Cuts c (lines_of (λ w. act_all f.platform w actors)) a b → Cuts c (lines_of (λ w. turns_from f f.platform.turns 0 w)) a b
  all_cuts c a b cut =
      cuts_same c (lines_of (λ w. act_all f.platform w actors)) (lines_of (λ w. turns_from f f.platform.turns 0 w)) a b (λ w. ap (λ (m : Made). lines_text m.entries) (as_turns w)) cut
