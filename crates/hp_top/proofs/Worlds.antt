-- A world that boots, turn by turn, and what its boot leaves.
use Rattle.std.proofs.Common.{◌≡◌, ℕ, ◌+◌, true, List, [], ◌∷◌, ◌++◌, length, replicate, Option, Some, refl, sym, ap, subst, ◌∙◌}
use Rattle.std.proofs.lemmas.List.{append-nil}
use Rattle.hp_model.specs.declared.platforms.Platform.{Platform}
use Rattle.hp_model.specs.declared.accesses.Answer.{Answer}
use Rattle.hp_model.specs.declared.accesses.Answer.TheVariants.{Quiet}
use Rattle.hp_model.specs.declared.entries.Actor.{Actor}
use Rattle.hp_model.specs.declared.entries.Actor.TheVariants.{Cpu, Smi}
use Rattle.hp_model.specs.declared.entries.Entry.{Entry}
use Rattle.hp_model.specs.Following.{Carried, Follows, follows, carried_all}
use Rattle.hp_model.specs.Platform.{count_of, is_late}
use Rattle.hp_model.specs.Runs.{run, run_from}
use Rattle.hp_model.specs.Schedule.{Scene, act, act_all, booted, boot_turns}
use Rattle.hp_model.specs.State.{State, start}
use Rattle.hp_model.specs.Step.{after}
use Rattle.hp_model.specs.Voices.{Voice}
use Rattle.hp_agent.specs.Speaking.{Heard}
use Rattle.hp_platform.specs.declared.worlds.Turn.{Turn}
use Rattle.hp_platform.specs.declared.worlds.Turn.TheVariants.{Made, Idle}
use Rattle.hp_platform.specs.Carrying.{ActsAs, Carries}
use Rattle.hp_platform.specs.Live as live
use Rattle.hp_platform.specs.Live.{Live}
use Rattle.hp_platform.specs.World.{IsIdle, IsMade, IsTurned, World}
use Rattle.hp_threads.specs.Voicing.{IsCarried}
use Rattle.hp_threads.proofs.Carrying as of_turn
use Rattle.hp_threads.proofs.Voicing.{carried_more}
use Rattle.hp_top.specs.Doing.{Did, Does}
use Rattle.hp_top.specs.Turns.{boot_left, carried_start}
use Rattle.hp_top.specs.Worlds.{IsBooted, IsBooting, machine_of}
use Rattle.hp_top.proofs.Booting.{BootsTo, boots_to}
use Rattle.hp_top.proofs.Doing.{did_all, did_more, did_none, does_one}
use Rattle.hp_top.proofs.Starting.{starts}
use Rattle.hp_top.proofs.Turning.{scene_agrees, some_scene}

-- a turn of processor 0
module _ (law : (old new : Live) (a : Actor) (turn : Turn) (c : Carried) → Carries old c → live.IsTurned old new a turn → ActsAs new c (λ w. act old.platform w a) turn)
    (p : Platform) (told : List (Option Voice)) (all more : List Actor) (old new : World) (same : new.platform ≡ old.platform) (b : IsBooting p told all (Cpu 0 ∷ more) old) where
  abbrev before : World
  before = record old { platform = p }

  abbrev began : Carried
  began = carried_start p told

  abbrev es : List Entry
  es = b.entries

  abbrev at : State
  at = (carried_all p began es).state

  kept : IsCarried p (carried_all p began es) before
  kept = record { run = b.carried.run; voices = b.carried.voices; last = b.carried.last }

  proper : (j : ℕ) → Cpu 0 ≡ Smi j → is_late p.delivery ≡ true
  proper j is = cc

  -- which made an entry
  booting_made : (e : Entry) → IsMade before new (Cpu 0) e → IsBooting p told all more new
  booting_made e made = record {
    platform = same ∙ b.platform;
    entries = es ++ e ∷ [];
    are = made.entries ∙ ap (λ (fs : List Entry). fs ++ e ∷ []) b.are;
    follows = of_turn.follows_on began es before new kept (Cpu 0) proper e made b.follows;
    carried = of_turn.carried_on began es before new kept (Cpu 0) proper e made;
    did = did_more p began all (Cpu 0 ∷ more) more (Cpu 0) (machine_of p old at) (machine_of p new next) (λ fs. fs ≡ es) (λ fs. fs ≡ e ∷ []) (λ fs. fs ≡ es ++ e ∷ []) refl
        (λ fs gs first second. ap (λ (xs : List Entry). xs ++ gs) first ∙ ap (λ (xs : List Entry). es ++ xs) second) b.did
        (λ v shows. does_one p (machine_of p new next) v (λ w. act p w (Cpu 0)) (λ fs. fs ≡ e ∷ []) (Made e)
        (record { platform = refl; acts = law (machine_of p old at) (machine_of p new next) (Cpu 0) (Made e) v shows.carries its_turn }) refl);
  }
    where
      next : State
      next = (carried_all p began (es ++ e ∷ [])).state

      its_turn : live.IsTurned (machine_of p old at) (machine_of p new next) (Cpu 0) (Made e)
      its_turn = record { is = made.is at kept.run; state = ap (λ (c : Carried). c.state) (carried_more p began es e) }

  -- or none
  booting_idle : IsIdle before new (Cpu 0) → IsBooting p told all more new
  booting_idle idle = record {
    platform = same ∙ b.platform;
    entries = es;
    are = idle.entries ∙ b.are;
    follows = b.follows;
    carried = of_turn.rested began es before new kept (Cpu 0) idle;
    did = did_more p began all (Cpu 0 ∷ more) more (Cpu 0) (machine_of p old at) (machine_of p new at) (λ fs. fs ≡ es) (λ fs. fs ≡ []) (λ fs. fs ≡ es) refl
        (λ fs gs first second. ap (λ (xs : List Entry). xs ++ gs) first ∙ ap (λ (xs : List Entry). es ++ xs) second ∙ append-nil es) b.did
        (λ v shows. does_one p (machine_of p new at) v (λ w. act p w (Cpu 0)) (λ fs. fs ≡ []) Idle
        (record { platform = refl; acts = law (machine_of p old at) (machine_of p new at) (Cpu 0) Idle v shows.carries its_turn }) refl);
  }
    where
      machine : List (Option Voice) → List (Option Heard) → List Answer → Live
      machine vs hs last = record { platform = p; state = at; voices = vs; heard = hs; last = last }

      its_turn : live.IsTurned (machine_of p old at) (machine_of p new at) (Cpu 0) Idle
      its_turn = record {
        none = idle.none at kept.run;
        same = ap (λ (vs : List (Option Voice)). machine vs new.heard new.last) idle.voices ∙ ap (λ (hs : List (Option Heard)). machine old.voices hs new.last) idle.heard
            ∙ ap (λ (last : List Answer). machine old.voices old.heard last) idle.last;
      }

  booting_by : (t : Turn) → IsTurned before new (Cpu 0) t → IsBooting p told all more new
  booting_by (Made e) turned = booting_made e turned
  booting_by Idle turned = booting_idle turned

  pub booting_more : (t : Turn) → IsTurned old new (Cpu 0) t → IsBooting p told all more new
  booting_more t turned = booting_by t (subst (λ (q : Platform). IsTurned (record old { platform = q }) new (Cpu 0) t) b.platform turned)

-- before the first turn
none_follow : (p : Platform) (c : Carried) → Follows p c []
unfolding follows
none_follow p c = refl

none_carried : (p : Platform) (c : Carried) → carried_all p c [] ≡ c
unfolding carried_all
none_carried p c = refl

none_run : (p : Platform) → run p [] ≡ Some (start p)
unfolding run run_from
none_run p = refl

pub booting_first : (p : Platform) (told : List (Option Voice)) (all : List Actor) (w : World) → w.platform ≡ p → w.entries ≡ [] → w.voices ≡ told → w.last ≡ replicate (count_of p) Quiet →
    length told ≡ count_of p → IsBooting p told all all w
booting_first p told all w platform entries voices last count =
    let none : carried_all p (carried_start p told) [] ≡ carried_start p told = none_carried p (carried_start p told) in
    let shows = starts p told (machine_of p w (start p)) refl refl voices last count in
    record {
      platform = platform;
      entries = [];
      are = entries;
      follows = none_follow p (carried_start p told);
      carried = subst (λ (c : Carried). IsCarried p c w) (sym none) (record {
        run = ap (run p) entries ∙ none_run p;
        voices = shows.carries.voices;
        last = shows.carries.last;
      });
      did = subst (λ (c : Carried). Did p (carried_start p told) all all (machine_of p w c.state) (λ es. es ≡ [])) (sym none)
          (did_none p (carried_start p told) all (machine_of p w (start p)) (λ es. es ≡ []) shows refl);
    }

-- after the last
pub booted_of : (p : Platform) (told : List (Option Voice)) (n : ℕ) (w : World) → n ≡ boot_turns p → IsBooting p told (boot_left n) [] w → IsBooted p told w
booted_of p told n w is b = record {
  platform = b.platform;
  voices = boots.voices;
  agree = boots.agree;
  entries = b.are ∙ sym does.so ∙ sym boots.entries;
  state = ap (run p) b.are ∙ run_is ∙ ap (λ (s : State). Some s) (does.shows.carries.state ∙ ap (λ (v : Scene). v.state) (sym boots.scene));
  follows = subst (λ (es : List Entry). Follows p (carried_start p told) es) (sym b.are) b.follows;
  carried = subst (λ (es : List Entry). IsCarried p (carried_all p (carried_start p told) es) w) (sym b.are) b.carried;
}
  where
    at : State
    at = (carried_all p (carried_start p told) b.entries).state

    does : Does p (machine_of p w at) (carried_start p told) (λ v. act_all p v (boot_left n)) (λ es. es ≡ b.entries)
    does = did_all p (carried_start p told) (boot_left n) [] (machine_of p w at) (λ es. es ≡ b.entries) refl b.did

    boots : BootsTo p told does.entries (some_scene does.left)
    boots = boots_to p told n is (machine_of p w at) (λ es. es ≡ b.entries) does (some_scene does.left) (scene_agrees does.left)

    run_is : run p b.entries ≡ Some at
    run_is = ap (run p) (sym b.are) ∙ b.carried.run
