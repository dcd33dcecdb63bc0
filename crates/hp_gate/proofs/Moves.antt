-- Each kind of step is allowed by the rule.
use Rattle.std.proofs.Common.{true, ◌≡◌, ◌≢◌, ℕ, ◌+◌, ◌/◌, ◌%◌, ◌^◌, ◌<◌, eqb, cond, List, [], ◌∷◌, ◌++◌, map, length, get_or, set, sym, refl, ap, ◌∙◌, subst, arith, eq-eqb, ne_eqb}
use mathlib.Core.Logic.{dite}
use mathlib.Core.Option.{Option, none, some}
use mathlib.Core.List.{map-append}
use native.Mathlib.Decide.{ℕ_discrete}
use lib.ListN.{get_elem?}
use lib.Seq.{map-set}
use prog.Atomic.{either}
use Rattle.atomic_table.specs.Table.{State, Me, step, Act, keeps, Valid, stepped, Allows, Splits}
use Rattle.atomic_table.proofs.Lists.{set_again}
use Rattle.hp_model.specs.Block.{is_in}
use Rattle.hp_model.specs.SharedBytes.{closed}
use Rattle.hp_gate.specs.declared.views.MonarchView.{MonarchView}
use Rattle.hp_gate.specs.declared.views.CpuView.{CpuView}
use Rattle.hp_gate.specs.declared.views.Stage.{Stage}
use Rattle.hp_gate.specs.declared.views.Stage.TheVariants.{Idle, Stored, Open, Shut}
use Rattle.hp_gate.specs.declared.views.Work.TheVariants.{Free, Passed, Flagged}
use Rattle.hp_gate.specs.declared.views.View.{View}
use Rattle.hp_gate.specs.declared.views.View.TheVariants.{Monarch, Cpu}
use Rattle.hp_gate.specs.Openings.{apics_of, IsListedBase, word_of, base_of, opened, first_of, named_at, Above}
use Rattle.hp_gate.specs.Rule.{Words, words_of, views_of, Holds, Kept, gate_word, base_word, flag_word, arrived_word}
use Rattle.hp_gate.specs.Steps.{monarch_of, cpu_of, on_monarch, on_cpu, after_store, after_open, stage_closed, after_close, stage_looked, after_look, after_load, after_pass, after_exchange, after_flag, after_arrive, after_seat, cpu_start, seats_monarch, seats_cpu, stores_base, opens, closes, looks, loads_gate, exchanges, loads_base, flags, arrives}
use Rattle.hp_gate.proofs.Facts.{named_there, first_seat, later_seat}
use Rattle.hp_gate.proofs.Changes as change

abbrev M : Type 0
M = Me (Unit {0}) View

abbrev St : Type 0
St = State (Unit {0}) View

-- what holds of each table of these parts holds of each that keeps the rule
pub plain : (P : St → Type 0) → ((d : Words) (hs : List (Option (Unit {0}))) → Holds d → P (record { words = words_of d; homes = hs; views = views_of d })) → (s : St) → Kept s → P s
plain P f s k = subst (λ (z : List ℕ × List View). P (record { words = z.0; homes = s.homes; views = z.1 })) (λ i. (sym k.words i, sym k.views i)) (f k.parts s.homes k.holds)

-- what a step of the monarch makes of words and views
record Moved (d : Words) (i x : ℕ) (then : View → Type 0) : Type 0 where
  pub next : Words
  pub words : set (words_of d) i x ≡ words_of next
  pub cpus : next.cpus ≡ d.cpus
  pub holds : Holds next
  pub tells : then (Monarch next.monarch)

monarch_moves : (slots id : ℕ) (me : M) (i : ℕ) (f : ℕ → ℕ) (then : ℕ → View → Type 0) (m : MonarchView) → me.0 ≡ Monarch m
    → ((d : Words) → Holds d → d.monarch ≡ m → Moved d i (f (get_or (words_of d) i 0)) (then (get_or (words_of d) i 0)))
    → Allows Kept slots id me i f (λ r me'. then r me'.0)
monarch_moves slots id me i f then m is moved s k _ at small = plain (λ (s : St). get_elem? s.views id ≡ some me.0 → (w : View) × (a : Act (Unit {0})) × Valid s.homes me.1 a × Kept (stepped s i (f (get_or s.words i 0)) id me.1 w a) × then (get_or s.words i 0) w) go s k at
  where
    go : (d : Words) (hs : List (Option (Unit {0}))) → Holds d → get_elem? (views_of d) id ≡ some me.0
        → (w : View) × (a : Act (Unit {0})) × Valid hs me.1 a × Kept (stepped (record { words = words_of d; homes = hs; views = views_of d }) i (f (get_or (words_of d) i 0)) id me.1 w a) × then (get_or (words_of d) i 0) w
    go d hs r there =
        let t = first_seat d.monarch d.cpus id m (subst (λ (v : View). get_elem? (views_of d) id ≡ some v) is there) in
        let u = moved d r t.1 in
        let views : set (views_of d) id (Monarch u.next.monarch) ≡ views_of u.next = ap (λ k. set (views_of d) k (Monarch u.next.monarch)) t.0 ∙ ap (λ (cs : List CpuView). Monarch u.next.monarch ∷ map Cpu cs) (sym u.cpus) in
        (Monarch u.next.monarch, keeps, tt, record { parts = u.next; words = u.words; views = views; holds = u.holds }, u.tells)

pub may_store : (slots id : ℕ) (me : M) (b : ℕ) (m : MonarchView) → me.0 ≡ Monarch m → m.stage ≡ Idle → IsListedBase m.list b
    → Allows Kept slots id me 1 (λ _. b) (λ _. stores_base (step slots 1 b 0 none) me b)
may_store slots id me b m is idle listed = monarch_moves slots id me 1 (λ _. b) (λ _ v. (base_word ≡ base_word) × (v ≡ on_monarch (after_store b) me.0)) m is
    (λ d r same. record {
      next = record d { base = b; monarch = after_store b d.monarch };
      words = refl;
      cpus = refl;
      holds = change.stores d b r (ap (λ (x : MonarchView). x.stage) same ∙ idle) (subst (λ (x : MonarchView). IsListedBase x.list b) (sym same) listed);
      tells = (refl, ap (λ (x : MonarchView). Monarch (after_store b x)) same ∙ ap (on_monarch (after_store b)) (sym is));
    })

pub may_open : (slots id : ℕ) (me : M) (w a : ℕ) (m : MonarchView) → me.0 ≡ Monarch m → m.stage ≡ Stored (base_of m.list a) → a < 2 ^ 32 → opened m < 4294967294 → w ≡ word_of (opened m + 1) a → is_in a (apics_of m.list) ≡ true
    → Allows Kept slots id me 0 (λ _. w) (λ _. opens (step slots 0 w 0 none) me w)
may_open slots id me w a m is stored small room word listed = monarch_moves slots id me 0 (λ _. w) (λ _ v. (gate_word ≡ gate_word) × (v ≡ on_monarch (after_open (w % 2 ^ 32)) me.0)) m is
    (λ d r same. let low : a ≡ w % 2 ^ 32 = omega arith in record {
      next = record d { gate = w; monarch = after_open (w % 2 ^ 32) d.monarch };
      words = refl;
      cpus = refl;
      holds = subst (λ (z : ℕ × ℕ). Holds (record d { gate = z.0; monarch = after_open z.1 d.monarch })) (λ i. ((ap (λ (x : MonarchView). word_of (opened x + 1) a) same ∙ sym word) i, low i))
          (change.opens d a r (subst (λ (x : MonarchView). x.stage ≡ Stored (base_of x.list a)) (sym same) stored) small (subst (λ (x : MonarchView). opened x < 4294967294) (sym same) room) (subst (λ (x : MonarchView). is_in a (apics_of x.list) ≡ true) (sym same) listed));
      tells = (refl, ap (λ (x : MonarchView). Monarch (after_open (w % 2 ^ 32) x)) same ∙ ap (on_monarch (after_open (w % 2 ^ 32))) (sym is));
    })

closes_to : (m : MonarchView) (a r : ℕ) → m.stage ≡ Open a → after_close r m ≡ record m { stage = cond (eqb r (word_of (opened m) a)) Idle (Shut a); closings = m.closings ++ r ∷ [] }
closes_to m a r is = ap (λ (s : Stage). record m { stage = stage_closed r (opened m) s; closings = m.closings ++ r ∷ [] }) is

pub may_close : (slots id : ℕ) (me : M) (a : ℕ) (m : MonarchView) → me.0 ≡ Monarch m → m.stage ≡ Open a
    → Allows Kept slots id me 0 (λ _. closed) (closes (step slots 0 closed 0 none) me)
may_close slots id me a m is stage = monarch_moves slots id me 0 (λ _. closed)
    (λ r v. (gate_word ≡ gate_word) × (v ≡ on_monarch (after_close r) me.0) × ((b : ℕ) → (monarch_of me.0).stage ≡ Open b → r ≢ word_of (opened (monarch_of me.0)) b → r ≡ closed)) m is
    (λ d r same.
    let open_there : d.monarch.stage ≡ Open a = ap (λ (x : MonarchView). x.stage) same ∙ stage in
    let ws = d.monarch.closings ++ d.gate ∷ [] in
    let mine : Monarch d.monarch ≡ me.0 = ap Monarch same ∙ sym is in record {
      next = record d { gate = closed; monarch = after_close d.gate d.monarch };
      words = refl;
      cpus = refl;
      holds = subst (λ (x : MonarchView). Holds (record d { gate = closed; monarch = x })) (sym (closes_to d.monarch a d.gate open_there)) (dite (ℕ_discrete d.gate (word_of (opened d.monarch) a))
          (λ e. subst (λ b. Holds (record d { gate = closed; monarch = record d.monarch { stage = cond b Idle (Shut a); closings = ws } })) (sym (eq-eqb d.gate (word_of (opened d.monarch) a) e)) (change.closes_unpassed d a ws r open_there e))
          (λ e. subst (λ b. Holds (record d { gate = closed; monarch = record d.monarch { stage = cond b Idle (Shut a); closings = ws } })) (sym (ne_eqb d.gate (word_of (opened d.monarch) a) e)) (change.closes_passed d a ws r open_there (change.closed_else d a r open_there e))));
      tells = (
        refl,
        ap (on_monarch (after_close d.gate)) mine,
        λ b open_ other. change.closed_else d b r (ap (λ v. (monarch_of v).stage) mine ∙ open_) (λ e. other (e ∙ ap (λ v. word_of (opened (monarch_of v)) b) mine)),
      );
    })

looks_to : (m : MonarchView) (a r : ℕ) → m.stage ≡ Shut a → after_look r m ≡ record m { stage = cond (eqb r (opened m)) Idle (Shut a); looks = m.looks ++ r ∷ [] }
looks_to m a r is = ap (λ (s : Stage). record m { stage = stage_looked r (opened m) s; looks = m.looks ++ r ∷ [] }) is

pub may_look : (slots id : ℕ) (me : M) (a : ℕ) (m : MonarchView) → me.0 ≡ Monarch m → m.stage ≡ Shut a
    → Allows Kept slots id me 3 (λ x. x) (looks (step slots 3 0 0 none) me)
may_look slots id me a m is stage = monarch_moves slots id me 3 (λ x. x) (λ r v. (arrived_word ≡ arrived_word) × (v ≡ on_monarch (after_look r) me.0)) m is
    (λ d r same.
    let shut_there : d.monarch.stage ≡ Shut a = ap (λ (x : MonarchView). x.stage) same ∙ stage in
    let ws = d.monarch.looks ++ d.arrived ∷ [] in record {
      next = record d { monarch = after_look d.arrived d.monarch };
      words = refl;
      cpus = refl;
      holds = subst (λ (x : MonarchView). Holds (record d { monarch = x })) (sym (looks_to d.monarch a d.arrived shut_there)) (dite (ℕ_discrete d.arrived (opened d.monarch))
          (λ e. subst (λ b. Holds (record d { monarch = record d.monarch { stage = cond b Idle (Shut a); looks = ws } })) (sym (eq-eqb d.arrived (opened d.monarch) e)) (change.looks_arrived d a ws r shut_there e))
          (λ e. subst (λ b. Holds (record d { monarch = record d.monarch { stage = cond b Idle (Shut a); looks = ws } })) (sym (ne_eqb d.arrived (opened d.monarch) e))
          (subst (λ s. Holds (record d { monarch = record d.monarch { stage = s; looks = ws } })) shut_there (change.looks_more d a ws r shut_there))));
      tells = (refl, ap (λ (x : MonarchView). Monarch (after_look d.arrived x)) same ∙ ap (on_monarch (after_look d.arrived)) (sym is));
    })

-- what a step of a processor makes of words and views
record Changed (d : Words) (j i x : ℕ) (then : View → Type 0) : Type 0 where
  pub next : Words
  pub cpu : CpuView
  pub words : set (words_of d) i x ≡ words_of next
  pub monarch : next.monarch ≡ d.monarch
  pub cpus : next.cpus ≡ set d.cpus j cpu
  pub holds : Holds next
  pub tells : then (Cpu cpu)

cpu_moves : (slots id : ℕ) (me : M) (i : ℕ) (f : ℕ → ℕ) (then : ℕ → View → Type 0) (c : CpuView) → me.0 ≡ Cpu c
    → ((d : Words) (j : ℕ) → Holds d → get_elem? d.cpus j ≡ some c → Changed d j i (f (get_or (words_of d) i 0)) (then (get_or (words_of d) i 0)))
    → Allows Kept slots id me i f (λ r me'. then r me'.0)
cpu_moves slots id me i f then c is changed s k _ at small = plain (λ (s : St). get_elem? s.views id ≡ some me.0 → (w : View) × (a : Act (Unit {0})) × Valid s.homes me.1 a × Kept (stepped s i (f (get_or s.words i 0)) id me.1 w a) × then (get_or s.words i 0) w) go s k at
  where
    go : (d : Words) (hs : List (Option (Unit {0}))) → Holds d → get_elem? (views_of d) id ≡ some me.0
        → (w : View) × (a : Act (Unit {0})) × Valid hs me.1 a × Kept (stepped (record { words = words_of d; homes = hs; views = views_of d }) i (f (get_or (words_of d) i 0)) id me.1 w a) × then (get_or (words_of d) i 0) w
    go d hs r there =
        let t = later_seat d.monarch d.cpus id c (subst (λ (v : View). get_elem? (views_of d) id ≡ some v) is there) in
        let u = changed d t.0 r t.2 in
        let views : set (views_of d) id (Cpu u.cpu) ≡ views_of u.next =
        ap (λ k. set (views_of d) k (Cpu u.cpu)) t.1 ∙ ap (λ vs. Monarch d.monarch ∷ vs) (sym (map-set Cpu d.cpus t.0 u.cpu)) ∙ (λ i. Monarch (sym u.monarch i) ∷ map Cpu (sym u.cpus i)) in
        (Cpu u.cpu, keeps, tt, record { parts = u.next; words = u.words; views = views; holds = u.holds }, u.tells)

pub may_load : (slots id : ℕ) (me : M) (c : CpuView) → me.0 ≡ Cpu c → Allows Kept slots id me 0 (λ x. x) (loads_gate (step slots 0 0 0 none) me)
may_load slots id me c is = cpu_moves slots id me 0 (λ x. x) (λ r v. (gate_word ≡ gate_word) × (v ≡ on_cpu (after_load r) me.0)) c is
    (λ d j r at. record { next = record d { cpus = set d.cpus j (after_load d.gate c) }; cpu = after_load d.gate c; words = refl; monarch = refl; cpus = refl; holds = change.loads d j c d.gate r at; tells = (refl, ap (on_cpu (after_load d.gate)) (sym is)) })

pub may_exchange : (slots id : ℕ) (me : M) (w : ℕ) (c : CpuView) → me.0 ≡ Cpu c → c.work ≡ Free → w ≢ closed → w % 2 ^ 32 ≡ c.own.apic
    → Allows Kept slots id me 0 (λ x. either (eqb x w) closed x) (exchanges (step slots 0 w closed none) me)
may_exchange slots id me w c is free not own = cpu_moves slots id me 0 (λ x. either (eqb x w) closed x) (λ r v. (gate_word ≡ gate_word) × (closed ≡ closed) × (v ≡ on_cpu (after_exchange w r) me.0) × (r ≡ w → Above (w / 2 ^ 32) (0 ∷ (cpu_of me.0).passes))) c is
    (λ d j r at. dite (ℕ_discrete d.gate w)
    (λ e. let t = change.passes d j c w r at free e not own in record {
      next = record d { gate = closed; cpus = set d.cpus j (after_pass (w / 2 ^ 32) (after_load w c)) };
      cpu = after_pass (w / 2 ^ 32) (after_load w c);
      words = ap (λ b. either b closed d.gate ∷ d.base ∷ d.flag ∷ d.arrived ∷ []) (eq-eqb d.gate w e);
      monarch = refl;
      cpus = refl;
      holds = t.0;
      tells = (
        refl,
        refl,
        sym (ap (λ b. Cpu (cond b (after_pass (w / 2 ^ 32) (after_load d.gate c)) (after_load d.gate c))) (eq-eqb d.gate w e) ∙ ap (λ k. Cpu (after_pass (w / 2 ^ 32) (after_load k c))) e) ∙ ap (on_cpu (after_exchange w d.gate)) (sym is),
        λ _. subst (λ (v : View). Above (w / 2 ^ 32) (0 ∷ (cpu_of v).passes)) (sym is) t.1,
      );
    })
    (λ e. record {
      next = record d { cpus = set d.cpus j (after_load d.gate c) };
      cpu = after_load d.gate c;
      words = ap (λ b. either b closed d.gate ∷ d.base ∷ d.flag ∷ d.arrived ∷ []) (ne_eqb d.gate w e);
      monarch = refl;
      cpus = refl;
      holds = change.loads d j c d.gate r at;
      tells = (refl, refl, sym (ap (λ b. Cpu (cond b (after_pass (w / 2 ^ 32) (after_load d.gate c)) (after_load d.gate c))) (ne_eqb d.gate w e)) ∙ ap (on_cpu (after_exchange w d.gate)) (sym is), λ same. absurd (e same));
    }))

pub may_load_base : (slots id : ℕ) (me : M) (c : CpuView) → me.0 ≡ Cpu c → c.work ≢ Free → Allows Kept slots id me 1 (λ x. x) (loads_base (step slots 1 0 0 none) me)
may_load_base slots id me c is busy = cpu_moves slots id me 1 (λ x. x) (λ r v. (base_word ≡ base_word) × (v ≡ me.0) × (r ≡ (cpu_of me.0).own.base)) c is
    (λ d j r at. record { next = d; cpu = c; words = refl; monarch = refl; cpus = sym (set_again d.cpus j c at); holds = r; tells = (refl, sym is, change.base_is d j c r at busy ∙ ap (λ (v : View). (cpu_of v).own.base) (sym is)) })

pub may_flag : (slots id : ℕ) (me : M) (f : ℕ) (c : CpuView) → me.0 ≡ Cpu c → c.work ≡ Passed → c.work ≢ Free → f ≡ first_of c.passes → Allows Kept slots id me 2 (λ _. f) (λ _. flags (step slots 2 f 0 none) me f)
may_flag slots id me f c is work busy word = cpu_moves slots id me 2 (λ _. f) (λ _ v. (flag_word ≡ flag_word) × (v ≡ on_cpu after_flag me.0)) c is
    (λ d j r at. record { next = record d { flag = f; cpus = set d.cpus j (after_flag c) }; cpu = after_flag c; words = refl; monarch = refl; cpus = refl; holds = change.flags d j c f r at work busy (word ∙ change.last_is d j c r at busy); tells = (refl, ap (on_cpu after_flag) (sym is)) })

pub may_arrive : (slots id : ℕ) (me : M) (x : ℕ) (c : CpuView) → me.0 ≡ Cpu c → c.work ≡ Flagged → c.work ≢ Free → x ≡ first_of c.passes → Allows Kept slots id me 3 (λ _. x) (λ _. arrives (step slots 3 x 0 none) me x)
may_arrive slots id me x c is work busy word = cpu_moves slots id me 3 (λ _. x) (λ _ v. (arrived_word ≡ arrived_word) × (v ≡ on_cpu after_arrive me.0)) c is
    (λ d j r at. record { next = record d { arrived = x; cpus = set d.cpus j (after_arrive c) }; cpu = after_arrive c; words = refl; monarch = refl; cpus = refl; holds = change.arrives d j c x r at work busy (word ∙ change.last_is d j c r at busy); tells = (refl, ap (on_cpu after_arrive) (sym is)) })

pub may_seat : (id : ℕ) (v : View) (m : MonarchView) → v ≡ Monarch m → m.seats < length m.list → Splits Kept id v (seats_monarch v) (seats_cpu v)
may_seat id v m is room s k at = plain (λ (s : St). get_elem? s.views id ≡ some v → Kept record { words = s.words; homes = s.homes; views = set s.views id (seats_monarch v) ++ seats_cpu v ∷ [] }) go s k at
  where
    go : (d : Words) (hs : List (Option (Unit {0}))) → Holds d → get_elem? (views_of d) id ≡ some v → Kept record { words = words_of d; homes = hs; views = set (views_of d) id (seats_monarch v) ++ seats_cpu v ∷ [] }
    go d hs r there =
        let t = first_seat d.monarch d.cpus id m (subst (λ (w : View). get_elem? (views_of d) id ≡ some w) is there) in
        let mine : v ≡ Monarch d.monarch = is ∙ ap Monarch (sym t.1) in
        let x = named_at d.monarch.list d.monarch.seats in
        let views : set (views_of d) id (seats_monarch v) ++ seats_cpu v ∷ [] ≡ Monarch (after_seat d.monarch) ∷ map Cpu (d.cpus ++ cpu_start x ∷ []) =
        (λ i. set (views_of d) (t.0 i) (seats_monarch (mine i)) ++ seats_cpu (mine i) ∷ []) ∙ ap (λ vs. Monarch (after_seat d.monarch) ∷ vs) (sym (map-append Cpu d.cpus (cpu_start x ∷ []))) in
        record {
          parts = record d { monarch = after_seat d.monarch; cpus = d.cpus ++ cpu_start x ∷ [] };
          words = refl;
          views = views;
          holds = change.seats d x r (subst (λ k. get_elem? d.monarch.list k ≡ some x) (sym r.seats) (named_there d.monarch.list d.monarch.seats (subst (λ (n : MonarchView). n.seats < length n.list) (sym t.1) room)));
        }
