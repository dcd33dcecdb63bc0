-- One part of the schedule after another, by what is said of their entries.
use Rattle.std.proofs.Common.{◌≡◌, List, [], ◌∷◌, ◌++◌, refl, sym, ◌∙◌, ap, subst, append_assoc}
use Rattle.std.proofs.lemmas.List.{append-nil}
use Rattle.hp_model.specs.declared.platforms.Platform.{Platform}
use Rattle.hp_model.specs.declared.entries.Actor.{Actor}
use Rattle.hp_model.specs.declared.entries.Entry.{Entry}
use Rattle.hp_model.specs.Following.{Carried}
use Rattle.hp_model.specs.Schedule.{Scene, Made, both_make, act, act_all}
use Rattle.hp_platform.specs.declared.worlds.Turn.{Turn}
use Rattle.hp_platform.specs.Carrying.{entries_in}
use Rattle.hp_platform.specs.Live.{Live}
use Rattle.hp_trace.specs.declared.summaries.Summary.{Summary}
use Rattle.hp_trace.specs.Summary.{summary}
use Rattle.hp_top.specs.Doing.{Counted, Did, Does}
use Rattle.hp_top.specs.Lives.{StandsFor, Takes}
use Rattle.hp_top.proofs.Turning.{act_all-append, act_all-one, leads_same, leads_then, then_make}

abbrev Said : Type 1
Said = List Entry → Type 0

-- what a turn did
pub does_one : (p : Platform) (live : Live) (c : Carried) (part : Scene → Made) (So : Said) (turn : Turn) → Takes p live c part turn → So (entries_in turn) → Does p live c part So
does_one p live c part So turn took so = record {
  entries = entries_in turn;
  left = took.acts.left;
  leads = took.acts.leads;
  shows = record { platform = took.platform; carries = took.acts.carries };
  so = so;
}

pub does_same : (p : Platform) (live : Live) (c : Carried) (part other : Scene → Made) (So : Said) → ((w : Scene) → part w ≡ other w) → Does p live c part So → Does p live c other So
does_same p live c part other So same does = record {
  entries = does.entries;
  left = does.left;
  leads = leads_same c does.left part other does.entries same does.leads;
  shows = does.shows;
  so = does.so;
}

pub does_both : (p : Platform) (mid new : Live) (c : Carried) (part more : Scene → Made) (R S T : Said) → ((es fs : List Entry) → R es → S fs → T (es ++ fs)) → Does p mid c part R →
    ((v : Carried) → StandsFor p mid v → Does p new v more S) → Does p new c (then_make part more) T
does_both p mid new c part more R S T join first next =
    let second = next first.left first.shows in
    record {
      entries = first.entries ++ second.entries;
      left = second.left;
      leads = leads_then c first.left second.left part more first.entries second.entries first.leads second.leads;
      shows = second.shows;
      so = join first.entries second.entries first.so second.so;
    }

pub does_none : (p : Platform) (c : Carried) (live : Live) (So : Said) → StandsFor p live c → So [] → Does p live c (λ w. act_all p w []) So
unfolding act_all
does_none p c live So shows so = record {
  entries = [];
  left = c;
  leads = record { made = λ scene agrees. record { scene = scene; agrees = agrees; entries = refl; leaves = refl } };
  shows = shows;
  so = so;
}

pub did_none : (p : Platform) (c : Carried) (all : List Actor) (live : Live) (So : Said) → StandsFor p live c → So [] → Did p c all all live So
did_none p c all live So shows so = record { front = []; actors = refl; does = does_none p c live So shows so }

pub did_more : (p : Platform) (c : Carried) (all rest more : List Actor) (x : Actor) (mid new : Live) (R S T : Said) → rest ≡ x ∷ more →
    ((es fs : List Entry) → R es → S fs → T (es ++ fs)) → Did p c all rest mid R → ((v : Carried) → StandsFor p mid v → Does p new v (λ w. act p w x) S) → Did p c all more new T
did_more p c all rest more x mid new R S T is join did next = record {
  front = did.front ++ x ∷ [];
  actors = append_assoc did.front (x ∷ []) more ∙ ap (λ (xs : List Actor). did.front ++ xs) (sym is) ∙ did.actors;
  does = does_same p new c (then_make (λ w. act_all p w did.front) (λ w. act p w x)) (λ w. act_all p w (did.front ++ x ∷ [])) T
      (λ w. ap (both_make (act_all p w did.front)) (sym (act_all-one p (act_all p w did.front).scene x)) ∙ sym (act_all-append p did.front (x ∷ []) w))
      (does_both p mid new c (λ w. act_all p w did.front) (λ w. act p w x) R S T join did.does next);
}

pub did_all : (p : Platform) (c : Carried) (all rest : List Actor) (live : Live) (So : Said) → rest ≡ [] → Did p c all rest live So → Does p live c (λ w. act_all p w all) So
did_all p c all rest live So none did =
    subst (λ (xs : List Actor). Does p live c (λ w. act_all p w xs) So) (sym (append-nil did.front) ∙ ap (λ (xs : List Actor). did.front ++ xs) (sym none) ∙ did.actors) did.does

-- counted one after another
pub counted_none : (s : Summary) → Counted s s []
counted_none s = λ before is. is ∙ ap summary (sym (append-nil before))

pub counted_both : (old mid new : Summary) (es fs : List Entry) → Counted old mid es → Counted mid new fs → Counted old new (es ++ fs)
counted_both old mid new es fs first second = λ before is. second (before ++ es) (first before is) ∙ ap summary (append_assoc before es fs)
