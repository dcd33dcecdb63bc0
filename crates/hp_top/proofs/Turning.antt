-- The parts of a scheduled run, one after another.
use Rattle.std.proofs.Common.{◌≡◌, ℕ, suc, ◌+◌, ◌-◌, ◌<◌, ◌≤◌, List, [], ◌∷◌, ◌++◌, Option, refl, sym, ◌∙◌, ap, subst, append_assoc, eq-eqb, ◌≢◌, arith}
use Rattle.std.proofs.lemmas.Bool.{ne_eqb}
use Rattle.std.proofs.lemmas.List.{append-nil}
use Rattle.std.specs.Io.KnownBytes.{Appends}
use Rattle.hp_model.specs.declared.platforms.Platform.{Platform}
use Rattle.hp_model.specs.declared.entries.Actor.{Actor}
use Rattle.hp_model.specs.declared.entries.Actor.TheVariants.{Cpu}
use Rattle.hp_model.specs.declared.files.HostEvent.{HostEvent}
use Rattle.hp_model.specs.declared.entries.Entry.{Entry}
use Rattle.hp_model.specs.Following.{Carried}
use Rattle.hp_model.specs.Schedule.{Scene, Made, both_make, act, act_all}
use Rattle.hp_model.specs.Text.{line_text, lines_text}
use Rattle.hp_model.proofs.Agreeing.{some_voices, some_agree}
use Rattle.hp_platform.specs.Carrying.{AgreesWith, Leads}
use Rattle.hp_top.specs.Sent.{HoldsFront}
use Rattle.hp_top.specs.Turns.{Cuts, lines_of, due, past, boot_left}
use Rattle.hp_top.proofs.Sends.{front_part, front_none}

pub lines_text-append : (es fs : List Entry) → lines_text (es ++ fs) ≡ lines_text es ++ lines_text fs
lines_text-append [] fs = refl
lines_text-append (e ∷ es) fs = ap (λ t. line_text e ++ t) (lines_text-append es fs) ∙ sym (append_assoc (line_text e) (lines_text es) (lines_text fs))

pub lines_text-one : (e : Entry) → lines_text (e ∷ []) ≡ line_text e
lines_text-one e = append-nil (line_text e)

abbrev made_of : List Entry → Scene → Made
made_of es w = record { entries = es; scene = w }

-- a scene that agrees with what is carried
abbrev pub some_scene : Carried → Scene
some_scene c = record { state = c.state; voices = some_voices c.voices; last = c.last }

pub scene_agrees : (c : Carried) → AgreesWith c (some_scene c)
scene_agrees c = record { state = refl; voices = some_agree c.voices; last = refl }

-- one part and then another
abbrev pub then_make : (Scene → Made) → (Scene → Made) → Scene → Made
then_make part more w = both_make (part w) (more (part w).scene)

pub leads_same : (c left : Carried) (part other : Scene → Made) (es : List Entry) → ((w : Scene) → part w ≡ other w) → Leads c part es left → Leads c other es left
leads_same c left part other es same leads = record {
  made = λ scene agrees. let m = leads.made scene agrees in record {
    scene = m.scene;
    agrees = m.agrees;
    entries = ap (λ (x : Made). x.entries) (sym (same m.scene)) ∙ m.entries;
    leaves = ap (λ (x : Made). x.scene) (sym (same m.scene)) ∙ m.leaves;
  };
}

pub leads_then : (c mid left : Carried) (part more : Scene → Made) (es fs : List Entry) → Leads c part es mid → Leads mid more fs left → Leads c (then_make part more) (es ++ fs) left
leads_then c mid left part more es fs first second = record {
  made = λ scene agrees. let n = second.made scene agrees in let m = first.made n.scene n.agrees in record {
    scene = m.scene;
    agrees = m.agrees;
    entries =
        ap (λ (w : Scene). (part m.scene).entries ++ (more w).entries) m.leaves ∙ ap (λ (gs : List Entry). (part m.scene).entries ++ gs) n.entries
        ∙ ap (λ (gs : List Entry). gs ++ fs) m.entries;
    leaves = ap (λ (w : Scene). (more w).scene) m.leaves ∙ n.leaves;
  };
}

-- nothing was sent of a text, whichever it is
pub cuts_none : (c : Carried) (text : Scene → List ℕ) (a : Option (List ℕ)) → Cuts c text a a
cuts_none c text a = record { scene = some_scene c; agrees = scene_agrees c; front = front_none a (text (some_scene c)) }

pub cuts_same : (c : Carried) (text other : Scene → List ℕ) (a b : Option (List ℕ)) → ((w : Scene) → text w ≡ other w) → Cuts c text a b → Cuts c other a b
cuts_same c text other a b same cut = record { scene = cut.scene; agrees = cut.agrees; front = subst (HoldsFront a b) (same cut.scene) cut.front }

-- a part, and then another that stopped
pub front_both : (es fs : List Entry) (a b d : Option (List ℕ)) → Appends a b (lines_text es) → HoldsFront b d (lines_text fs) → HoldsFront a d (lines_text (es ++ fs))
front_both es fs a b d first part =
    subst (HoldsFront a d) (sym (lines_text-append es fs))
    (front_part a b d (lines_text fs) [] (lines_text es ++ lines_text fs)
    (record { front = lines_text es; text = ap (λ (t : List ℕ). lines_text es ++ t) (append-nil (lines_text fs)); grown = first }) part)

-- more follows what stopped
front_more : (es fs : List Entry) (a b : Option (List ℕ)) → HoldsFront a b (lines_text es) → HoldsFront a b (lines_text (es ++ fs))
front_more es fs a b part =
    subst (HoldsFront a b) (sym (lines_text-append es fs)) (record {
      rest = part.rest ++ lines_text fs;
      sent = record {
        front = part.sent.front;
        text = sym (append_assoc part.sent.front part.rest (lines_text fs)) ∙ ap (λ (t : List ℕ). t ++ lines_text fs) part.sent.text;
        grown = part.sent.grown;
      };
    })

pub cuts_more : (c : Carried) (part more : Scene → Made) (a b : Option (List ℕ)) → Cuts c (lines_of part) a b → Cuts c (lines_of (then_make part more)) a b
cuts_more c part more a b cut = record { scene = cut.scene; agrees = cut.agrees; front = front_more (part cut.scene).entries (more (part cut.scene).scene).entries a b cut.front }

pub both-assoc : (l m n : Made) → both_make (both_make l m) n ≡ both_make l (both_make m n)
both-assoc l m n = ap (λ (es : List Entry). made_of es n.scene) (append_assoc l.entries m.entries n.entries)

pub act_all-append : (p : Platform) (as' bs : List Actor) (w : Scene) → act_all p w (as' ++ bs) ≡ both_make (act_all p w as') (act_all p (act_all p w as').scene bs)
unfolding act_all
act_all-append p [] bs w = refl
act_all-append p (x ∷ as') bs w =
    ap (both_make (act p w x)) (act_all-append p as' bs (act p w x).scene)
    ∙ sym (both-assoc (act p w x) (act_all p (act p w x).scene as') (act_all p (act_all p (act p w x).scene as').scene bs))

pub act_all-one : (p : Platform) (w : Scene) (x : Actor) → act_all p w (x ∷ []) ≡ act p w x
unfolding act_all
act_all-one p w x = ap (λ (es : List Entry). made_of es (act p w x).scene) (append-nil (act p w x).entries)

pub act_all-cons : (p : Platform) (w : Scene) (x : Actor) (xs : List Actor) → act_all p w (x ∷ xs) ≡ both_make (act p w x) (act_all p (act p w x).scene xs)
unfolding act_all
act_all-cons p w x xs = refl

pub due-first : (turn : ℕ) (h : HostEvent) (hs : List HostEvent) → h.turn ≡ turn → due turn (h ∷ hs) ≡ h.actor ∷ due turn hs
due-first turn h hs is = rw (eq-eqb h.turn turn is) refl

pub boot_next : (all n : ℕ) → n < all → boot_left (all - n) ≡ Cpu 0 ∷ boot_left (all - (n + 1))
unfolding boot_left
boot_next all n within = let e : all - n ≡ suc (all - (n + 1)) = omega (arith, within) in rw e refl

pub boot_all : (all n : ℕ) → all ≤ n → boot_left (all - n) ≡ []
unfolding boot_left
boot_all all n past = let e : all - n ≡ 0 = omega (arith, past) in rw e refl

pub due-other : (turn : ℕ) (h : HostEvent) (hs : List HostEvent) → h.turn ≢ turn → due turn (h ∷ hs) ≡ []
due-other turn h hs other = rw (ne_eqb h.turn turn other) refl

pub past-first : (turn : ℕ) (h : HostEvent) (hs : List HostEvent) → h.turn ≡ turn → past turn (h ∷ hs) ≡ past turn hs
past-first turn h hs is = rw (eq-eqb h.turn turn is) refl

pub past-other : (turn : ℕ) (h : HostEvent) (hs : List HostEvent) → h.turn ≢ turn → past turn (h ∷ hs) ≡ h ∷ hs
past-other turn h hs other = rw (ne_eqb h.turn turn other) refl

pub ruleset host_events = (due-first, due-other, past-first, past-other)
