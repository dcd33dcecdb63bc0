-- A turn of a world whose entries, from what was carried once, follow its voices.
use Rattle.std.proofs.Common.{◌≡◌, ℕ, true, List, [], ◌∷◌, ◌++◌, Option, sym, ap, subst, ◌∙◌}
use Rattle.hp_model.specs.declared.platforms.Platform.{Platform}
use Rattle.hp_model.specs.declared.entries.Actor.{Actor}
use Rattle.hp_model.specs.declared.entries.Actor.TheVariants.{Smi}
use Rattle.hp_model.specs.declared.entries.Entry.{Entry}
use Rattle.hp_model.specs.declared.turns.Due.{Due}
use Rattle.hp_model.specs.Block.{ejected_by}
use Rattle.hp_model.specs.Following.{Carried, Follows, carried_all, follows_by, last_by, voices_by, without_agent}
use Rattle.hp_model.specs.Hosting.{owner_of}
use Rattle.hp_model.specs.Platform.{is_late}
use Rattle.hp_model.specs.Runs.{run}
use Rattle.hp_model.specs.Step.{after}
use Rattle.hp_model.specs.Turn.{due_of}
use Rattle.hp_model.specs.Voices.{Voice}
use Rattle.hp_model.proofs.Scheduled.{run-more}
use Rattle.hp_platform.specs.World.{IsIdle, IsMade, IsStepOf, World, agents_of}
use Rattle.hp_platform.proofs.Turning.{taken}
use Rattle.hp_threads.specs.Voicing.{IsCarried}
use Rattle.hp_threads.proofs.Counting.{owns}
use Rattle.hp_threads.proofs.Voicing.{TellsMore, carried_more, follows_more, follows_said, last_said, voices_said}

module _ (began : Carried) (es : List Entry) (old new : World) (carried : IsCarried old.platform (carried_all old.platform began es) old) where
  abbrev p : Platform
  p = old.platform

  abbrev c : Carried
  c = carried_all p began es

  -- a turn without an entry
  pub rested : (a : Actor) → IsIdle old new a → IsCarried p c new
  rested a idle = record {
    run = ap (run p) idle.entries ∙ carried.run;
    voices = subst (λ (vs : List (Option Voice)). TellsMore c.voices vs) (sym idle.voices) carried.voices;
    last = idle.last ∙ carried.last;
  }

  -- an entry more
  module _ (a : Actor) (proper : (j : ℕ) → a ≡ Smi j → is_late p.delivery ≡ true) (e : Entry) (made : IsMade old new a e) where
    abbrev gone : Option ℕ
    gone = ejected_by c.state.block (after p c.state e.event).state.block

    stepped : IsStepOf old new c.state a e
    stepped = made.is c.state carried.run

    pub its_owner : owner_of p e.event ≡ a
    its_owner = owns (is_late p.delivery) a e.event proper stepped.actor

    abbrev pub led : Due → Carried
    led d = record { state = (after p c.state e.event).state; voices = without_agent gone (voices_by d c); last = last_by d e.answer c.last }

    pub leads : carried_all p began (es ++ e ∷ []) ≡ led (due_of p c.state a)
    leads = carried_more p began es e ∙ ap (λ (b : Actor). led (due_of p c.state b)) its_owner

    pub follows_on : Follows p began es → Follows p began (es ++ e ∷ [])
    follows_on follows = follows_more p began es e follows
        (ap (λ (b : Actor). follows_by (due_of p c.state b) c e.event) its_owner
        ∙ follows_said (agents_of old) (agents_of new) e gone c carried.last carried.voices (due_of p c.state a) stepped.says)

    pub carried_on : IsCarried p (carried_all p began (es ++ e ∷ [])) new
    carried_on = subst (λ (d : Carried). IsCarried p d new) (sym leads) (record {
      run = ap (run p) made.entries ∙ run-more p old.entries e c.state _ carried.run (taken p c.state e stepped.step stepped.answer stepped.address);
      voices = voices_said (agents_of old) (agents_of new) e gone c carried.last carried.voices (due_of p c.state a) stepped.says;
      last = last_said (agents_of old) (agents_of new) e gone c carried.last carried.voices (due_of p c.state a) stepped.says;
    })
