-- The lines of parts of the schedule, handed to the sink one after another.
use Rattle.std.proofs.Common.{◌≡◌, ℕ, ◌+◌, ◌-◌, List, [], ◌∷◌, ◌++◌, Option, refl, sym, ◌∙◌, ap, subst, length-append, arith}
use Rattle.std.specs.Io.KnownBytes.{Appends}
use Rattle.std.proofs.KnownBytes.{Appends-nil, Appends-trans}
use Rattle.hp_model.specs.declared.platforms.Platform.{Platform}
use Rattle.hp_model.specs.declared.entries.Actor.{Actor}
use Rattle.hp_model.specs.declared.entries.Entry.{Entry}
use Rattle.hp_model.specs.Following.{Carried}
use Rattle.hp_model.specs.Schedule.{Scene, Made, act, act_all}
use Rattle.hp_model.specs.Text.{line_text, lines_text}
use Rattle.hp_platform.specs.declared.worlds.Turn.TheVariants as turn
use Rattle.hp_platform.specs.Live.{Live}
use Rattle.hp_top.specs.Doing.{DoneActors, HasSent, Sends}
use Rattle.hp_top.specs.Lives.{StandsFor, Takes}
use Rattle.hp_top.specs.Sent.{HoldsFront}
use Rattle.hp_top.specs.Turns.{Cuts, lines_of, boot_left}
use Rattle.hp_top.proofs.Doing.{did_all, did_more, did_none, does_one}
use Rattle.hp_top.proofs.Turning.{act_all-append, act_all-cons, cuts_more, cuts_none, cuts_same, front_both, lines_text-append, lines_text-one, scene_agrees, some_scene, then_make}

sent_none : (a : Option (List ℕ)) → HasSent 0 a a []
sent_none a = record { count = refl; lines = Appends-nil a }

sent_both : (j k : ℕ) (a b d : Option (List ℕ)) (es fs : List Entry) → HasSent j a b es → HasSent k b d fs → HasSent (j + k) a d (es ++ fs)
sent_both j k a b d es fs first second = record {
  count = length-append es fs ∙ omega (arith, first.count, second.count);
  lines = subst (Appends a d) (sym (lines_text-append es fs)) (Appends-trans a b d (lines_text es) (lines_text fs) first.lines second.lines);
}

module _ (p : Platform) (live : Live) (c : Carried) (part : Scene → Made) (a b : Option (List ℕ)) where
  -- an actor made no entry
  pub sends_none : Takes p live c part turn.Idle → Sends p live c part 0 a a
  sends_none took = does_one p live c part (HasSent 0 a a) turn.Idle took (sent_none a)

  -- or one, whose line was sent
  pub sends_one : (e : Entry) → Takes p live c part (turn.Made e) → Appends a b (line_text e) → Sends p live c part 1 a b
  sends_one e took grown =
      does_one p live c part (HasSent 1 a b) (turn.Made e) took (record { count = refl; lines = subst (Appends a b) (sym (lines_text-one e)) grown })

  -- or sent in part
  pub cuts_one : (e : Entry) → Takes p live c part (turn.Made e) → HoldsFront a b (line_text e) → Cuts c (lines_of part) a b
  cuts_one e took cut =
      let m = took.acts.leads.made (some_scene took.acts.left) (scene_agrees took.acts.left) in
      record { scene = m.scene; agrees = m.agrees; front = subst (λ (es : List Entry). HoldsFront a b (lines_text es)) (sym m.entries) (subst (HoldsFront a b) (sym (lines_text-one e)) cut) }

pub ruleset one_actor = (sends_none, sends_one, cuts_one, cuts_none)

-- a part, and then another that stopped
cuts_both : (p : Platform) (mid : Live) (c : Carried) (part more : Scene → Made) (j : ℕ) (a b d : Option (List ℕ)) → Sends p mid c part j a b →
    ((v : Carried) → StandsFor p mid v → Cuts v (lines_of more) b d) → Cuts c (lines_of (then_make part more)) a d
cuts_both p mid c part more j a b d first next =
    let cut = next first.left first.shows in
    let m = first.leads.made cut.scene cut.agrees in
    record {
      scene = m.scene;
      agrees = m.agrees;
      front = front_both (part m.scene).entries (more (part m.scene).scene).entries a b d
          (subst (λ (es : List Entry). Appends a b (lines_text es)) (sym m.entries) first.so.lines)
          (subst (λ (w : Scene). HoldsFront b d (lines_text (more w).entries)) (sym m.leaves) cut.front);
    }

module _ (p : Platform) (c : Carried) (all rest more : List Actor) (x : Actor) (seen : Live) (made : ℕ) (a b d : Option (List ℕ))
    (is : rest ≡ x ∷ more) (done : DoneActors p c all rest seen made a b) where
  -- the next of them acted
  pub done_more : (new : Live) (count : ℕ) → ((v : Carried) → StandsFor p seen v → Sends p new v (λ w. act p w x) count b d) → DoneActors p c all more new (made + count) a d
  done_more new count next =
      did_more p c all rest more x seen new (HasSent made a b) (HasSent count b d) (HasSent (made + count) a d) is (λ es fs. sent_both made count a b d es fs) done next

  -- or it stopped
  pub done_cuts : ((v : Carried) → StandsFor p seen v → Cuts v (lines_of (λ w. act p w x)) b d) → Cuts c (lines_of (λ w. act_all p w all)) a d
  done_cuts next =
      cuts_same c (lines_of (then_make (λ w. act_all p w done.front) (λ w. act_all p w (x ∷ more)))) (lines_of (λ w. act_all p w all)) a d
      (λ w. ap (λ (m : Made). lines_text m.entries) (sym (act_all-append p done.front (x ∷ more) w) ∙ ap (act_all p w) (ap (λ (xs : List Actor). done.front ++ xs) (sym is) ∙ done.actors)))
      (cuts_both p seen c (λ w. act_all p w done.front) (λ w. act_all p w (x ∷ more)) made a b d done.does
      (λ v shows. cuts_same v (lines_of (then_make (λ w. act p w x) (λ w. act_all p w more))) (lines_of (λ w. act_all p w (x ∷ more))) b d
      (λ w. ap (λ (m : Made). lines_text m.entries) (sym (act_all-cons p w x more))) (cuts_more v (λ w. act p w x) (λ w. act_all p w more) b d (next v shows))))

-- none of them is left
pub done_all : (p : Platform) (c : Carried) (all rest : List Actor) (seen : Live) (made : ℕ) (a b : Option (List ℕ)) →
    DoneActors p c all rest seen made a b → rest ≡ [] → Sends p seen c (λ w. act_all p w all) made a b
done_all p c all rest seen made a b done none = did_all p c all rest seen (HasSent made a b) none done

-- none of them acted yet
pub done_start : (p : Platform) (c : Carried) (all : List Actor) (seen : Live) (a : Option (List ℕ)) → StandsFor p seen c → DoneActors p c all all seen 0 a a
done_start p c all seen a shows = did_none p c all seen (HasSent 0 a a) shows (sent_none a)

-- the boot's turns: one is next while some are left
pub boot_start : (p : Platform) (c : Carried) (all : ℕ) (seen : Live) (a : Option (List ℕ)) → StandsFor p seen c → DoneActors p c (boot_left all) (boot_left (all - 0)) seen 0 a a
boot_start p c all seen a shows =
    let none : all ≡ all - 0 = omega arith in
    subst (λ (n : ℕ). DoneActors p c (boot_left all) (boot_left n) seen 0 a a) none (done_start p c (boot_left all) seen a shows)
