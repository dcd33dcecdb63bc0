-- What each kind of step changes keeps the rule.
use Rattle.std.proofs.Common.{◌≡◌, ◌≢◌, ◌⊎◌, ℕ, zero, suc, ◌+◌, ◌<◌, ◌≤◌, List, [], ◌∷◌, ◌++◌, length, set, sym, refl, ap, ◌∙◌, subst, inl, inr, ⊎_elim, arith, length-set, Bool, true, false, true≢false, eq-eqb, ne_eqb, ◌/◌, ◌%◌, ◌^◌}
use mathlib.Core.Option.{some, some-injective, some-ne-none}
use lib.ListN.{get_elem?}
use Rattle.atomic_table.proofs.Lists.{at_set, set_here}
use Rattle.hp_model.specs.Block.{is_in}
use Rattle.hp_model.specs.SharedBytes.{closed}
use Rattle.hp_gate.specs.declared.views.Named.{Named}
use Rattle.hp_gate.specs.declared.views.MonarchView.{MonarchView}
use Rattle.hp_gate.specs.declared.views.CpuView.{CpuView}
use Rattle.hp_gate.specs.declared.views.Stage.{Stage}
use Rattle.hp_gate.specs.declared.views.Stage.TheVariants.{Idle, Stored, Open, Shut}
use Rattle.hp_gate.specs.declared.views.Work.{Work}
use Rattle.hp_gate.specs.declared.views.Work.TheVariants.{Free, Passed, Flagged}
use Rattle.hp_gate.specs.Openings.{apics_of, base_of, IsListedBase, IsDistinct, opened, IsOpening, word_of, Above, Falls, first_of}
use Rattle.hp_gate.specs.Rule.{Words, IsUnfinished, HoldsBase, IsLast, passes_of, flagged_by, arrived_by, flagged_of, arrived_of, IsSomeones, IsGreatest, IsBusy, IsSeated, IsOpened, Holds}
use Rattle.hp_gate.specs.Steps.{after_store, after_open, after_load, after_pass, after_flag, after_arrive, after_seat, cpu_start}
use Rattle.hp_gate.proofs.Facts.{in_head, in_cases, in_none, within, at_snoc_place, length_snoc, opening_below, opening_above, opening_same, opening_more, opening_snoc, opening_last}
use Rattle.hp_gate.proofs.Greatest.{someones_set, greatest_set, greatest_new, someones_more, greatest_more, in_behind}

-- nobody is busy where no opening is unfinished
no_busy : (d : Words) (s : Stage) (c : CpuView) → d.monarch.stage ≡ s → ((a : ℕ) → IsUnfinished s a → ⊥) → IsBusy d.monarch c → ⊥
no_busy d s c is none b = none c.own.apic (subst (λ t. IsUnfinished t c.own.apic) is b.unfinished)

-- nor is the gate open
no_opened : (d : Words) (s : Stage) → d.monarch.stage ≡ s → ((a : ℕ) → IsUnfinished s a → ⊥) → IsOpened d → ⊥
no_opened d s is none r = none r.apic (subst (λ t. IsUnfinished t r.apic) (sym r.stage ∙ is) refl)

-- a busy processor has passed the last opening, so the gate is closed
busy_closed : (d : Words) (j : ℕ) (c : CpuView) → get_elem? d.cpus j ≡ some c → IsBusy d.monarch c → IsOpened d → ⊥
busy_closed d j c at b r =
    let h : opened d.monarch < opened d.monarch = r.unpassed j c at (opened d.monarch) (subst (λ ns. is_in (opened d.monarch) ns ≡ true) (sym b.last) (in_head (opened d.monarch) b.before)) in
    omega arith

abbrev is_shut : Stage → Bool
is_shut (Shut a) = true
is_shut s = false

shut_ne_open : (a b : ℕ) → Shut a ≡ Open b → ⊥
shut_ne_open a b e = true≢false (ap is_shut e)

not_shut : (d : Words) (a : ℕ) → d.monarch.stage ≡ Shut a → IsOpened d → ⊥
not_shut d a is y = shut_ne_open a y.apic (sym is ∙ y.stage)

abbrev pub aim_open : Stage → ℕ
aim_open (Open a) = a
aim_open s = 0

-- where the gate holds another word than the last opening it is closed
pub closed_else : (d : Words) (a : ℕ) → Holds d → d.monarch.stage ≡ Open a → d.gate ≢ word_of (opened d.monarch) a → d.gate ≡ closed
closed_else d a r is other = ⊎_elim (λ e. e) (λ y. absurd (other (y.word ∙ ap (λ k. word_of (opened d.monarch) k) (ap aim_open (sym y.stage ∙ is))))) r.gate

-- an unfinished opening has its base in the base word
aimed : (l : List Named) (base : ℕ) (s : Stage) (a : ℕ) → HoldsBase l base s → IsUnfinished s a → base ≡ base_of l a
aimed l base Idle a b u = absurd u
aimed l base (Stored x) a b u = absurd u
aimed l base (Open x) a b u = b ∙ ap (base_of l) u
aimed l base (Shut x) a b u = b ∙ ap (base_of l) u

pub base_listed : (l : List Named) (j : ℕ) (x : Named) → IsDistinct l → get_elem? l j ≡ some x → base_of l x.apic ≡ x.base
base_listed [] j x d e = absurd (some-ne-none x (sym e))
base_listed (y ∷ ys) zero x d e = subst (λ (z : Named). base_of (y ∷ ys) z.apic ≡ z.base) (some-injective y x e) (rw (eq-eqb y.apic y.apic refl) refl)
base_listed (y ∷ ys) (suc j) x d e =
    let apart : y.apic ≢ x.apic = λ s. (let h : 0 ≡ suc j = d 0 (suc j) y x refl e s in omega arith) in
    rw (ne_eqb y.apic x.apic apart) (base_listed ys j x (λ i k a b p q s. (let h : suc i ≡ suc k = d (suc i) (suc k) a b p q s in omega arith)) e)

-- the seat is as it was where the monarch's stage alone changes, and nobody is busy
seated_idle : (d : Words) (m : MonarchView) (j : ℕ) (c : CpuView) → m.list ≡ d.monarch.list → m.named ≡ d.monarch.named → (IsBusy d.monarch c → ⊥) → IsSeated d.monarch j c → IsSeated m j c
seated_idle d m j c list named none o = record {
  listed = ap (λ l. get_elem? l j) list ∙ o.listed;
  passed = λ n h. subst (λ l. IsOpening l n c.own.apic) (sym named) (o.passed n h);
  falls = o.falls;
  busy = λ w. absurd (none (o.busy w));
}

pub stores : (d : Words) (b : ℕ) → Holds d → d.monarch.stage ≡ Idle → IsListedBase d.monarch.list b → Holds (record d { base = b; monarch = after_store b d.monarch })
stores d b r is listed = record {
  distinct = r.distinct;
  seats = r.seats;
  named = r.named;
  last = λ a u. absurd u;
  base = (refl, listed);
  gate = ⊎_elim inl (λ y. absurd (no_opened d Idle is (λ a u. u) y)) r.gate;
  passed = λ a u _. absurd u;
  flag = r.flag;
  arrived = r.arrived;
  seat = λ j c e. seated_idle d (after_store b d.monarch) j c refl refl (no_busy d Idle c is (λ a u. u)) (r.seat j c e);
}

pub opens : (d : Words) (a : ℕ) → Holds d → d.monarch.stage ≡ Stored (base_of d.monarch.list a) → a < 2 ^ 32 → opened d.monarch < 4294967294 → is_in a (apics_of d.monarch.list) ≡ true
    → Holds (record d { gate = word_of (opened d.monarch + 1) a; monarch = after_open a d.monarch })
opens d a r is small room listed =
    let m = d.monarch in
    let len : length (m.named ++ a ∷ []) ≡ opened m + 1 = length_snoc m.named a in record {
      distinct = r.distinct;
      seats = r.seats;
      named = λ n b p. ⊎_elim (λ (q : IsOpening m.named n b). r.named n b q) (λ (e : a ≡ b). subst (λ k. is_in k (apics_of m.list) ≡ true) e listed) (opening_snoc m.named a n b p);
      last = λ b u. subst (IsLast (after_open a m)) u (record { opening = opening_last m.named a; small = small; not_closed = λ e. omega arith });
      base = (subst (HoldsBase m.list d.base) is r.base).0;
      gate = inr (record {
        apic = a;
        stage = refl;
        word = ap (λ k. word_of k a) (sym len);
        unpassed = λ j c e n h. let low = opening_below m.named n c.own.apic ((r.seat j c e).passed n h) in omega arith;
      });
      passed = λ b u e. absurd (omega arith);
      flag = r.flag;
      arrived = r.arrived;
      seat = λ j c e. let o = r.seat j c e in record {
        listed = o.listed;
        passed = λ n h. opening_more m.named a n c.own.apic (o.passed n h);
        falls = o.falls;
        busy = λ w. absurd (no_busy d (Stored (base_of m.list a)) c is (λ b u. u) (o.busy w));
      };
    }

pub closes_unpassed : (d : Words) (a : ℕ) (ws : List ℕ) → Holds d → d.monarch.stage ≡ Open a → d.gate ≡ word_of (opened d.monarch) a → Holds (record d { gate = closed; monarch = record d.monarch { stage = Idle; closings = ws } })
closes_unpassed d a ws r is word =
    let m = d.monarch in
    let here = r.last a (subst (λ s. IsUnfinished s a) (sym is) refl) in
    let open_ : IsOpened d = ⊎_elim (λ e. absurd (here.not_closed (sym word ∙ e))) (λ y. y) r.gate in record {
      distinct = r.distinct;
      seats = r.seats;
      named = r.named;
      last = λ b u. absurd u;
      base = tt;
      gate = inl refl;
      passed = λ b u _. absurd u;
      flag = r.flag;
      arrived = r.arrived;
      seat = λ j c e. seated_idle d (record m { stage = Idle; closings = ws }) j c refl refl (λ b. busy_closed d j c e b open_) (r.seat j c e);
    }

pub closes_passed : (d : Words) (a : ℕ) (ws : List ℕ) → Holds d → d.monarch.stage ≡ Open a → d.gate ≡ closed → Holds (record d { gate = closed; monarch = record d.monarch { stage = Shut a; closings = ws } })
closes_passed d a ws r is word =
    let m = d.monarch in
    let now : IsUnfinished m.stage a = subst (λ s. IsUnfinished s a) (sym is) refl in
    let here = r.last a now in record {
      distinct = r.distinct;
      seats = r.seats;
      named = r.named;
      last = λ b u. subst (λ x. IsLast (record m { stage = Shut a; closings = ws }) x) u (record { opening = here.opening; small = here.small; not_closed = here.not_closed });
      base = subst (HoldsBase m.list d.base) is r.base;
      gate = inl refl;
      passed = λ b u _. r.passed a now word;
      flag = r.flag;
      arrived = r.arrived;
      seat = λ j c e. let o = r.seat j c e in record {
        listed = o.listed;
        passed = o.passed;
        falls = o.falls;
        busy = λ w. let b = o.busy w in record { before = b.before; last = b.last; unfinished = subst (λ s. IsUnfinished s c.own.apic) is b.unfinished };
      };
    }

-- whom it has flagged, and whom arrived, it has passed
in_flagged : (w : Work) (k : ℕ) (ns : List ℕ) → is_in k (flagged_by w ns) ≡ true → is_in k ns ≡ true
in_flagged Free k ns h = h
in_flagged Passed k ns h = in_behind k ns h
in_flagged Flagged k ns h = h

in_arrived : (w : Work) (k : ℕ) (ns : List ℕ) → is_in k (arrived_by w ns) ≡ true → is_in k ns ≡ true
in_arrived Free k ns h = h
in_arrived Passed k ns h = in_behind k ns h
in_arrived Flagged k ns h = in_behind k ns h

-- a number that has arrived and is passed last is one of a processor that isn't busy
not_last : (c : CpuView) (n : ℕ) (before : List ℕ) → c.work ≢ Free → c.passes ≡ n ∷ before → Falls c.passes → is_in n (arrived_of c) ≡ true → ⊥
not_last c n before is last falls has =
    let low : n < n = (subst Falls last falls).0 n (behind_it c.work is (subst (λ ns. is_in n (arrived_by c.work ns) ≡ true) last has)) in
    omega arith
  where
    behind_it : (w : Work) → w ≢ Free → is_in n (arrived_by w (n ∷ before)) ≡ true → is_in n before ≡ true
    behind_it Free is h = absurd (is refl)
    behind_it Passed is h = h
    behind_it Flagged is h = h

-- who has passed one opening stands in one place
pub same_passer : (d : Words) (i j n : ℕ) (b c : CpuView) → Holds d → get_elem? d.cpus i ≡ some b → get_elem? d.cpus j ≡ some c → is_in n b.passes ≡ true → is_in n c.passes ≡ true → i ≡ j
same_passer d i j n b c r p q h k =
    let x = r.seat i b p in
    let y = r.seat j c q in
    r.distinct i j b.own c.own x.listed y.listed (opening_same d.monarch.named n b.own.apic c.own.apic (x.passed n h) (y.passed n k))

-- whoever is busy has not arrived
pub unarrived : (d : Words) (j : ℕ) (c : CpuView) → Holds d → get_elem? d.cpus j ≡ some c → c.work ≢ Free → d.arrived ≢ opened d.monarch
unarrived d j c r at is e =
    let o = r.seat j c at in
    let b = o.busy is in
    let mine : is_in (opened d.monarch) c.passes ≡ true = subst (λ ns. is_in (opened d.monarch) ns ≡ true) (sym b.last) (in_head (opened d.monarch) b.before) in
    let above : 0 < opened d.monarch = opening_above d.monarch.named (opened d.monarch) c.own.apic (o.passed (opened d.monarch) mine) in
    ⊎_elim (λ z. absurd (omega arith)) (λ y. it_is (subst (IsSomeones arrived_of d.cpus) e y) b.before b.last o.falls mine) r.arrived.one
  where
    it_is : IsSomeones arrived_of d.cpus (opened d.monarch) → (before : List ℕ) → c.passes ≡ opened d.monarch ∷ before → Falls c.passes → is_in (opened d.monarch) c.passes ≡ true → ⊥
    it_is y before last falls mine =
        let same : y.place ≡ j = same_passer d y.place j (opened d.monarch) y.cpu c r y.there at (in_arrived y.cpu.work (opened d.monarch) y.cpu.passes y.has) mine in
        let there : get_elem? d.cpus j ≡ some y.cpu = subst (λ k. get_elem? d.cpus k ≡ some y.cpu) same y.there in
        let cpu : y.cpu ≡ c = some-injective y.cpu c (sym there ∙ at) in
        not_last c (opened d.monarch) before is last falls (subst (λ (v : CpuView). is_in (opened d.monarch) (arrived_of v) ≡ true) cpu y.has)

pub looks_arrived : (d : Words) (a : ℕ) (ws : List ℕ) → Holds d → d.monarch.stage ≡ Shut a → d.arrived ≡ opened d.monarch → Holds (record d { monarch = record d.monarch { stage = Idle; looks = ws } })
looks_arrived d a ws r is word = record {
  distinct = r.distinct;
  seats = r.seats;
  named = r.named;
  last = λ b u. absurd u;
  base = tt;
  gate = ⊎_elim inl (λ y. absurd (not_shut d a is y)) r.gate;
  passed = λ b u _. absurd u;
  flag = r.flag;
  arrived = r.arrived;
  seat = λ j c e. let o = r.seat j c e in record { listed = o.listed; passed = o.passed; falls = o.falls; busy = λ w. absurd (unarrived d j c r e w word) };
}

pub looks_more : (d : Words) (a : ℕ) (ws : List ℕ) → Holds d → d.monarch.stage ≡ Shut a → Holds (record d { monarch = record d.monarch { looks = ws } })
looks_more d a ws r is = record {
  distinct = r.distinct;
  seats = r.seats;
  named = r.named;
  last = λ b u. let o = r.last b u in record { opening = o.opening; small = o.small; not_closed = o.not_closed };
  base = r.base;
  gate = ⊎_elim inl (λ y. absurd (not_shut d a is y)) r.gate;
  passed = r.passed;
  flag = r.flag;
  arrived = r.arrived;
  seat = λ j c e. let o = r.seat j c e in record { listed = o.listed; passed = o.passed; falls = o.falls; busy = λ w. let b = o.busy w in record { before = b.before; last = b.last; unfinished = b.unfinished } };
}

-- one processor's view changes, and maybe flag, arrived and the gate
changes : (d : Words) (j : ℕ) (was c : CpuView) (g f x : ℕ) → Holds d → get_elem? d.cpus j ≡ some was → (g ≡ closed) ⊎ IsOpened (record d { gate = g; flag = f; arrived = x; cpus = set d.cpus j c })
    → ((a : ℕ) → IsUnfinished d.monarch.stage a → g ≡ closed → IsSomeones passes_of (set d.cpus j c) (opened d.monarch))
    → IsGreatest flagged_of (set d.cpus j c) f → IsGreatest arrived_of (set d.cpus j c) x → IsSeated d.monarch j c → Holds (record d { gate = g; flag = f; arrived = x; cpus = set d.cpus j c })
changes d j was c g f x r at gate passed flag arrived mine = record {
  distinct = r.distinct;
  seats = length-set d.cpus j c ∙ r.seats;
  named = r.named;
  last = r.last;
  base = r.base;
  gate = gate;
  passed = passed;
  flag = flag;
  arrived = arrived;
  seat = λ i o e. ⊎_elim (λ (t : (i ≡ j) × (c ≡ o)). subst (λ (z : ℕ × CpuView). IsSeated d.monarch z.0 z.1) (λ k. (sym t.0 k, t.1 k)) mine) (λ (t : (i ≢ j) × (get_elem? d.cpus i ≡ some o)). r.seat i o t.1) (at_set d.cpus j i c o e);
}

opened_same : (d : Words) (j : ℕ) (c n : CpuView) (f : ℕ) → get_elem? d.cpus j ≡ some c → n.passes ≡ c.passes → IsOpened d → IsOpened (record d { flag = f; cpus = set d.cpus j n })
opened_same d j c n f at same y = record {
  apic = y.apic;
  stage = y.stage;
  word = y.word;
  unpassed = λ i o e k h. ⊎_elim (λ (t : (i ≡ j) × (n ≡ o)). y.unpassed j c at k (subst (λ ns. is_in k ns ≡ true) (sym (ap (λ (v : CpuView). v.passes) t.1) ∙ same) h)) (λ (t : (i ≢ j) × (get_elem? d.cpus i ≡ some o)). y.unpassed i o t.1 k h) (at_set d.cpus j i n o e);
}

-- with its passes, and a pass that hasn't arrived only if it had one
seated_on : (d : Words) (j : ℕ) (c n : CpuView) → n.own ≡ c.own → n.passes ≡ c.passes → (n.work ≢ Free → c.work ≢ Free) → IsSeated d.monarch j c → IsSeated d.monarch j n
seated_on d j c n own passes work o = record {
  listed = o.listed ∙ ap some (sym own);
  passed = λ k h. subst (λ (x : Named). IsOpening d.monarch.named k x.apic) (sym own) (o.passed k (subst (λ ns. is_in k ns ≡ true) passes h));
  falls = subst Falls (sym passes) o.falls;
  busy = λ w. let b = o.busy (work w) in record { before = b.before; last = passes ∙ b.last; unfinished = subst (λ (x : Named). IsUnfinished d.monarch.stage x.apic) (sym own) b.unfinished };
}

pub loads : (d : Words) (j : ℕ) (c : CpuView) (w : ℕ) → Holds d → get_elem? d.cpus j ≡ some c → Holds (record d { cpus = set d.cpus j (after_load w c) })
loads d j c w r at =
    let n = after_load w c in
    changes d j c n d.gate d.flag d.arrived r at (⊎_elim inl (λ y. inr (opened_same d j c n d.flag at refl y)) r.gate)
    (λ a u e. someones_set passes_of d.cpus j (opened d.monarch) c n at (λ h. h) (r.passed a u e))
    (greatest_set flagged_of d.cpus j d.flag c n at (λ k h. h) (λ k h. h) r.flag)
    (greatest_set arrived_of d.cpus j d.arrived c n at (λ k h. h) (λ k h. h) r.arrived)
    (seated_on d j c n refl refl (λ w. w) (r.seat j c at))

pub passes : (d : Words) (j : ℕ) (c : CpuView) (w : ℕ) → Holds d → get_elem? d.cpus j ≡ some c → c.work ≡ Free → d.gate ≡ w → w ≢ closed → w % 2 ^ 32 ≡ c.own.apic
    → Holds (record d { gate = closed; cpus = set d.cpus j (after_pass (w / 2 ^ 32) (after_load w c)) }) × Above (w / 2 ^ 32) (0 ∷ c.passes)
passes d j c w r at free is not own =
    let o = r.seat j c at in
    let y : IsOpened d = ⊎_elim (λ e. absurd (not (sym is ∙ e))) (λ y. y) r.gate in
    let here = r.last y.apic (subst (λ s. IsUnfinished s y.apic) (sym y.stage) refl) in
    let word = y.word in
    let small = here.small in
    let n : w / 2 ^ 32 ≡ opened d.monarch = omega arith in
    let same : y.apic ≡ c.own.apic = omega arith in
    let some_ : 0 < opened d.monarch = opening_above d.monarch.named (opened d.monarch) y.apic here.opening in
    let above : Above (w / 2 ^ 32) c.passes = λ k h. (let low = y.unpassed j c at k h in omega arith) in
    let v = after_pass (w / 2 ^ 32) (after_load w c) in (
      changes d j c v closed d.flag d.arrived r at (inl refl)
          (λ a u e. record { place = j; cpu = v; there = set_here d.cpus j v (within d.cpus j c at); has = subst (λ k. is_in k (w / 2 ^ 32 ∷ c.passes) ≡ true) n (in_head (w / 2 ^ 32) c.passes) })
          (greatest_set flagged_of d.cpus j d.flag c v at (λ k h. subst (λ s. is_in k (flagged_by s c.passes) ≡ true) free h) (λ k h. subst (λ s. is_in k (flagged_by s c.passes) ≡ true) (sym free) h) r.flag)
          (greatest_set arrived_of d.cpus j d.arrived c v at (λ k h. subst (λ s. is_in k (arrived_by s c.passes) ≡ true) free h) (λ k h. subst (λ s. is_in k (arrived_by s c.passes) ≡ true) (sym free) h) r.arrived)
          (record {
            listed = o.listed;
            passed = λ k h. ⊎_elim (λ (e : k ≡ w / 2 ^ 32). subst (λ (z : ℕ × ℕ). IsOpening d.monarch.named z.0 z.1) (λ i. (sym (e ∙ n) i, same i)) here.opening) (λ (h : is_in k c.passes ≡ true). o.passed k h) (in_cases k (w / 2 ^ 32) c.passes h);
            falls = (above, o.falls);
            busy = λ _. record { before = c.passes; last = ap (λ k. k ∷ c.passes) n; unfinished = subst (λ s. IsUnfinished s c.own.apic) (sym y.stage) same };
          }),
      (λ k h. ⊎_elim (λ e. omega arith) (λ h. above k h) (in_cases k 0 c.passes h)),
    )

-- no number of a pass is above that of the last opening
passed_below : (d : Words) (j : ℕ) (c : CpuView) (k : ℕ) → Holds d → get_elem? d.cpus j ≡ some c → is_in k c.passes ≡ true → k ≤ opened d.monarch
passed_below d j c k r at h = opening_below d.monarch.named k c.own.apic ((r.seat j c at).passed k h)

-- a processor that has passed flags
pub flags : (d : Words) (j : ℕ) (c : CpuView) (f : ℕ) → Holds d → get_elem? d.cpus j ≡ some c → c.work ≡ Passed → c.work ≢ Free → f ≡ opened d.monarch → Holds (record d { flag = f; cpus = set d.cpus j (after_flag c) })
flags d j c f r at work is word =
    let v = after_flag c in
    let y = (r.seat j c at).busy is in
    changes d j c v d.gate f d.arrived r at (⊎_elim inl (λ z. inr (opened_same d j c v f at refl z)) r.gate)
    (λ a u e. someones_set passes_of d.cpus j (opened d.monarch) c v at (λ h. h) (r.passed a u e))
    (greatest_new flagged_of d.cpus j f c v at (subst (λ z. is_in z c.passes ≡ true) (sym word) (subst (λ ns. is_in (opened d.monarch) ns ≡ true) (sym y.last) (in_head (opened d.monarch) y.before)))
    (λ k h. let low = passed_below d j c k r at h in omega arith) (λ i o e k h. let low = passed_below d i o k r e (in_flagged o.work k o.passes h) in omega arith))
    (greatest_set arrived_of d.cpus j d.arrived c v at (λ k h. subst (λ s. is_in k (arrived_by s c.passes) ≡ true) work h) (λ k h. subst (λ s. is_in k (arrived_by s c.passes) ≡ true) (sym work) h) r.arrived)
    (seated_on d j c v refl refl (λ _. is) (r.seat j c at))

-- a processor that has flagged arrives
pub arrives : (d : Words) (j : ℕ) (c : CpuView) (x : ℕ) → Holds d → get_elem? d.cpus j ≡ some c → c.work ≡ Flagged → c.work ≢ Free → x ≡ opened d.monarch → Holds (record d { arrived = x; cpus = set d.cpus j (after_arrive c) })
arrives d j c x r at work is word =
    let v = after_arrive c in
    let y = (r.seat j c at).busy is in
    changes d j c v d.gate d.flag x r at (⊎_elim inl (λ z. absurd (busy_closed d j c at y z)) r.gate)
    (λ a u e. someones_set passes_of d.cpus j (opened d.monarch) c v at (λ h. h) (r.passed a u e))
    (greatest_set flagged_of d.cpus j d.flag c v at (λ k h. subst (λ s. is_in k (flagged_by s c.passes) ≡ true) work h) (λ k h. subst (λ s. is_in k (flagged_by s c.passes) ≡ true) (sym work) h) r.flag)
    (greatest_new arrived_of d.cpus j x c v at (subst (λ z. is_in z c.passes ≡ true) (sym word) (subst (λ ns. is_in (opened d.monarch) ns ≡ true) (sym y.last) (in_head (opened d.monarch) y.before)))
    (λ k h. let low = passed_below d j c k r at h in omega arith) (λ i o e k h. let low = passed_below d i o k r e (in_arrived o.work k o.passes h) in omega arith))
    (seated_on d j c v refl refl (λ w. absurd (w refl)) (r.seat j c at))

-- a busy processor's last pass is the last opening
pub last_is : (d : Words) (j : ℕ) (c : CpuView) → Holds d → get_elem? d.cpus j ≡ some c → c.work ≢ Free → first_of c.passes ≡ opened d.monarch
last_is d j c r at is = ap first_of ((r.seat j c at).busy is).last

-- a busy processor reads its own base
pub base_is : (d : Words) (j : ℕ) (c : CpuView) → Holds d → get_elem? d.cpus j ≡ some c → c.work ≢ Free → d.base ≡ c.own.base
base_is d j c r at is =
    let o = r.seat j c at in
    let y = o.busy is in
    aimed d.monarch.list d.base d.monarch.stage c.own.apic r.base y.unfinished ∙ base_listed d.monarch.list j c.own r.distinct o.listed

pub seats : (d : Words) (x : Named) → Holds d → get_elem? d.monarch.list (length d.cpus) ≡ some x → Holds (record d { monarch = after_seat d.monarch; cpus = d.cpus ++ cpu_start x ∷ [] })
seats d x r there = record {
  distinct = r.distinct;
  seats = length_snoc d.cpus (cpu_start x) ∙ ap (λ k. k + 1) r.seats;
  named = r.named;
  last = λ b u. let o = r.last b u in record { opening = o.opening; small = o.small; not_closed = o.not_closed };
  base = r.base;
  gate = ⊎_elim inl (λ y. inr (record {
    apic = y.apic;
    stage = y.stage;
    word = y.word;
    unpassed = λ i o e k h. ⊎_elim (λ (e : get_elem? d.cpus i ≡ some o). y.unpassed i o e k h) (λ (t : (i ≡ length d.cpus) × (cpu_start x ≡ o)). absurd (in_none k (subst (λ ns. is_in k ns ≡ true) (sym (ap (λ (v : CpuView). v.passes) t.1)) h))) (at_snoc_place d.cpus (cpu_start x) o i e);
  })) r.gate;
  passed = λ a u e. someones_more passes_of d.cpus (cpu_start x) (opened d.monarch) (r.passed a u e);
  flag = greatest_more flagged_of d.cpus (cpu_start x) d.flag (λ k h. absurd (in_none k h)) r.flag;
  arrived = greatest_more arrived_of d.cpus (cpu_start x) d.arrived (λ k h. absurd (in_none k h)) r.arrived;
  seat = λ i o e. ⊎_elim (λ (e : get_elem? d.cpus i ≡ some o). let p = r.seat i o e in record { listed = p.listed; passed = p.passed; falls = p.falls; busy = λ w. let b = p.busy w in record { before = b.before; last = b.last; unfinished = b.unfinished } })
      (λ (t : (i ≡ length d.cpus) × (cpu_start x ≡ o)). subst (λ (z : ℕ × CpuView). IsSeated (after_seat d.monarch) z.0 z.1) (λ k. (sym t.0 k, t.1 k))
      (record { listed = there; passed = λ k h. absurd (in_none k h); falls = tt; busy = λ w. absurd (w refl) }))
      (at_snoc_place d.cpus (cpu_start x) o i e);
}
