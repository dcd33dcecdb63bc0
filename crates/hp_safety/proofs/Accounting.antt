-- Each event after the hand-over keeps the monarch's record tied to the entries.
use Rattle.std.specs.Prelude.{if◌then◌else◌}
use Rattle.std.proofs.Common.{ℕ, ◌≡◌, ◌≢◌, ◌==◌, inl, inr, Bool, true, false, cond, not, ◌&&◌, ◌||◌, List, Option, Some, None, option_and_then, refl, sym, ap, subst, ◌∙◌}
use Rattle.std.proofs.lemmas.Bool.{and_parts, eqb-true}
use Rattle.hp_model.specs.declared.platforms.Platform.{Platform}
use Rattle.hp_model.specs.declared.processors.Cpu.{Cpu}
use Rattle.hp_model.specs.declared.processors.Mode.{Mode}
use Rattle.hp_model.specs.declared.processors.Mode.TheVariants.{Wait, Running, Halted, Smm}
use Rattle.hp_model.specs.declared.accesses.Access.{Access}
use Rattle.hp_model.specs.declared.accesses.Access.TheVariants.{Store}
use Rattle.hp_model.specs.declared.accesses.Answer.TheVariants.{Quiet}
use Rattle.hp_model.specs.declared.accesses.Want.{Want}
use Rattle.hp_model.specs.declared.accesses.Want.TheVariants as want
use Rattle.hp_model.specs.declared.outcomes.Outcome.{Outcome}
use Rattle.hp_model.specs.declared.labels.Label.{Label}
use Rattle.hp_model.specs.declared.labels.Label.TheVariants.{F1, R1, R2, R3, R4, R5, R6, S0, S1, S2, S3, S4, C1, C2, C3, C4, C5, C6, N7, E5, E6, E7}
use Rattle.hp_model.specs.declared.entries.Event.{Event}
use Rattle.hp_model.specs.declared.entries.Event.TheVariants.{Insert, Remove, Do, TakeSmi, TakeInit, Resume, Tell}
use Rattle.hp_model.specs.declared.entries.Entry.{Entry}
use Rattle.hp_model.specs.Platform.{tile, apic_of}
use Rattle.hp_model.specs.Memory.{Write}
use Rattle.hp_model.specs.Cpu.{is_in_smm, smm_address, address_in, is_outside, may_take_smi, may_take_init}
use Rattle.hp_model.specs.Boot.{Stage, Boots, Refused, Handed, is_handed, value_in}
use Rattle.hp_model.specs.declared.labels.Handler.{Handler}
use Rattle.hp_model.specs.declared.labels.Handler.TheVariants.{First, Relocated, Monarch as Monarchs}
use Rattle.hp_model.specs.Labels.{handler_of, index_of}
use Rattle.hp_model.specs.SharedBytes.{layout_of, gate}
use Rattle.hp_model.specs.Slots.{slot_among}
use Rattle.hp_model.specs.Monarch.{Monarch, restarted, is_that}
use Rattle.hp_model.specs.Handlers.{Next, want_at, wanted_at, next_at, runs_at, address_of_label}
use Rattle.hp_model.specs.State.{State, at}
use Rattle.hp_model.specs.Access.{access_effect, answer_to}
use Rattle.hp_model.specs.Firmware.{label_at, seat, is_that_access, is_that_outcome, is_rsm, is_handlers, wanted_in, row_effect, handlers_effect, firmware_effect, with_session}
use Rattle.hp_model.specs.Step.{After, answer_of, is_enabled, effect_of, enter_smm, step}
use Rattle.hp_model.specs.Runs.{address_of}
use Rattle.hp_model.specs.Events.{access_in, is_entry_of, is_resume_of}
use Rattle.hp_model.specs.Account.{is_at, stored_by, with_bound}
use Rattle.hp_model.specs.Sessions.{bounds_session}
use Rattle.hp_sealed.specs.Left.{Sound}
use Rattle.hp_sealed.proofs.Left.{pick_by}
use Rattle.hp_sealed.proofs.Outside.{acts}
use Rattle.hp_model.proofs.Same.{same_access-equal}
use Rattle.hp_sealed.proofs.Goes.{stepped}
use Rattle.hp_safety.proofs.Needs.{Nothing, need_of, is_aloft}
use Rattle.hp_safety.proofs.Invariant.{facts_of, Invariant}
use Rattle.hp_safety.proofs.Aloft.{aloft_first}
use Rattle.hp_safety.proofs.Ties.{Free, tie_of, Session, session_more, bound_more, TiedAt, Tied}
use Rattle.hp_safety.proofs.Keeps.{that_is, AtRow, row_stands, current_label_is}
use Rattle.hp_safety.proofs.RowLeads.{LeadsOn}
use Rattle.hp_safety.proofs.Accesses.{is_monarchs, row_next}
use Rattle.hp_safety.proofs.Entering.{may_outside}
use Rattle.hp_safety.proofs.Events.{Returns, row_returns}
use Rattle.hp_safety.proofs.Tying.{bound_after, session_after, row_ties}
use Rattle.hp_safety.proofs.Marked.{at_none, same_index, at_monarch, at_other}

-- where a label needs nothing, the bound APIC IDs are those of the entries
free_bound : (B : List ℕ) (S : Session) (r : Monarch) (l : Label) → need_of l ≡ Nothing → TiedAt B S r (tie_of l) → r.slots.bound ≡ B
free_bound B S r F1 e h = h
free_bound B S r R1 e h = h
free_bound B S r R2 e h = h
free_bound B S r R3 e h = h
free_bound B S r R4 e h = h
free_bound B S r R5 e h = h
free_bound B S r R6 e h = h
free_bound B S r S0 e h = h
free_bound B S r S1 e h = h
free_bound B S r S2 e h = h
free_bound B S r S3 e h = h
free_bound B S r S4 e h = h
free_bound B S r C1 e h = h.0
free_bound B S r C2 e h = h.0
free_bound B S r C3 e h = h.0
free_bound B S r C4 e h = h.0
free_bound B S r C5 e h = h.0
free_bound B S r C6 e h = h.0
free_bound B S r E5 e h = h
free_bound B S r E6 e h = h
free_bound B S r E7 e h = h
free_bound B S r _ e h = absurd cc

-- what an event stores, and whether it bounds a session
abbrev pub stored_in : Event → Option ℕ
stored_in v = option_and_then stored_by (access_in v)

abbrev bounds : Event → Bool
bounds v = is_entry_of 0 v || is_resume_of 0 v

-- an entry at none of the labels that are accounted for
record AtNone (p : Platform) (e : Entry) : Type 0 where
  pub n7 : is_at p N7 e ≡ false
  pub c3 : is_at p C3 e ≡ false
  pub c4 : is_at p C4 e ≡ false
  pub c6 : is_at p C6 e ≡ false

none_outside : (p : Platform) (e : Entry) → e.at ≡ None → AtNone p e
none_outside p e is = record { n7 = at_none p N7 e is; c3 = at_none p C3 e is; c4 = at_none p C4 e is; c6 = at_none p C6 e is }

bound_still : (p : Platform) (B : List ℕ) (e : Entry) → AtNone p e → bound_more p B e ≡ B
bound_still p B e h = let none = h.n7 in rw none refl

session_still : (p : Platform) (S : Session) (e : Entry) → AtNone p e → bounds_session e ≡ false → session_more p S e ≡ S
session_still p S e h f = let a = h.c3 in let b = h.c4 in let c = h.c6 in rw (f, a, b, c) refl

still : (p : Platform) (B : List ℕ) (S : Session) (r : Monarch) (e : Entry) → AtNone p e → bounds_session e ≡ false → Tied B S r → Tied (bound_more p B e) (session_more p S e) r
still p B S r e h f tied = subst (λ b. Tied b (session_more p S e) r) (sym (bound_still p B e h)) (subst (λ x. Tied B x r) (sym (session_still p S e h f)) tied)

pub outside_none : (c : Cpu) → is_in_smm c.mode ≡ false → smm_address c ≡ None
outside_none c e = by_parts c.present c.mode e
  where
    by_parts : (b : Bool) (m : Mode) → is_in_smm m ≡ false → cond b (address_in m) None ≡ None
    by_parts true Wait e = refl
    by_parts true (Running g) e = refl
    by_parts true (Halted g) e = refl
    by_parts true (Smm a) e = absurd cc
    by_parts false m e = refl

pub init_outside : (c : Cpu) → may_take_init c ≡ true → smm_address c ≡ None
init_outside c e = by_parts c.present c.smi c.init c.mode e
  where
    by_parts : (b i n : Bool) (m : Mode) → (b && (not i && (n && is_outside m))) ≡ true → cond b (address_in m) None ≡ None
    by_parts true i n Wait e = refl
    by_parts true i n (Running g) e = refl
    by_parts true i n (Halted g) e = refl
    by_parts true true n (Smm a) e = absurd cc
    by_parts true false true (Smm a) e = absurd cc
    by_parts true false false (Smm a) e = absurd cc
    by_parts false i n m e = refl

-- a row
module _ (p : Platform) (m : List Write) (s : State) (k : ℕ) (l : Label) (sound : Sound p) (h : Invariant p m s) (here : AtRow p s k l) (e : Entry) (place : smm_address (at s k) ≡ e.at) where
  stands : e.at ≡ Some (address_of_label (at s k).smbase l)
  stands = sym place ∙ (here.is ∙ ap Some here.cell.here)

  none_other : handler_of l ≢ Monarchs → AtNone p e
  none_other other = record {
    n7 = at_other p l N7 e k (at s k).smbase sound here.cell.runs other stands refl;
    c3 = at_other p l C3 e k (at s k).smbase sound here.cell.runs other stands refl;
    c4 = at_other p l C4 e k (at s k).smbase sound here.cell.runs other stands refl;
    c6 = at_other p l C6 e k (at s k).smbase sound here.cell.runs other stands refl;
  }

  base : handler_of l ≡ Monarchs → (k ≡ 0) × ((at s k).smbase ≡ tile p 0)
  base mine =
      let parts = and_parts (k == 0) ((at s k).smbase == tile p 0) (subst (λ q. runs_at (layout_of p) q k (at s k).smbase ≡ true) mine here.cell.runs) in
      (eqb-true k 0 parts.0, eqb-true (at s k).smbase (tile p 0) parts.1)

  row_bound : (B : List ℕ) (apic : ℕ) → handler_of l ≡ Monarchs → (l ≡ N7 → stored_in e.event ≡ Some apic) → bound_more p B e ≡ bound_after l apic B
  row_bound B apic mine stored = rw (at_monarch p l N7 e (at s k).smbase (base mine).1 stands refl) (by_seven (index_of l == 19) refl)
    where
      by_seven : (c : Bool) → (index_of l == 19) ≡ c → with_bound (if c then stored_in e.event else None) B ≡ (if c then with_bound (Some apic) B else B)
      by_seven true f = ap (λ o. with_bound o B) (stored (same_index l N7 mine (eqb-true (index_of l) 19 f)))
      by_seven false f = refl

  row_session : (S : Session) (v : ℕ) → handler_of l ≡ Monarchs → bounds_session e ≡ false → value_in e.answer ≡ v → session_more p S e ≡ session_after l v S
  row_session S v mine bounds answer =
      let c3 = at_monarch p l C3 e (at s k).smbase (base mine).1 stands refl in
      let c4 = at_monarch p l C4 e (at s k).smbase (base mine).1 stands refl in
      let c6 = at_monarch p l C6 e (at s k).smbase (base mine).1 stands refl in
      rw (bounds, c3, c4, c6, answer) refl

  row_tied : (B : List ℕ) (S : Session) (v : ℕ) (n : Next) → n ≡ next_at (layout_of p) (seat p s k) s.monarch l v → (handler_of l ≢ Monarchs → n.monarch ≡ s.monarch) → (l ≡ N7 → stored_in e.event ≡ Some s.monarch.add.apic) → bounds_session e ≡ false → value_in e.answer ≡ v → Tied B S s.monarch → Tied (bound_more p B e) (session_more p S e) n.monarch
  row_tied B S v n is others stored bounds answer tied = elim (is_monarchs (handler_of l)) [
    | inl mine ↦
        let r = s.monarch in
        let label = current_label_is r l here.cell.current mine in
        subst (λ (x : Next). Tied (bound_more p B e) (session_more p S e) x.monarch) (sym is)
        (subst (λ b. Tied b (session_more p S e) (next_at (layout_of p) (seat p s k) r l v).monarch) (sym (row_bound B r.add.apic mine stored))
        (subst (λ x. Tied (bound_after l r.add.apic B) x (next_at (layout_of p) (seat p s k) r l v).monarch) (sym (row_session S v mine bounds answer))
        (row_ties B S (layout_of p) (seat p s k) r v (facts_of p r s.writes (apic_of p k) (at s k).base) l mine (λ f. label)
        (λ f. h.holding.in_bound r.add.apic (that_is r.slots.held r.add.apic (and_parts (is_that r.slots.held r.add.apic) (r.add.slot == slot_among r.slots.bound r.add.apic) f).0)) refl here.cell.met
        (subst (λ x. TiedAt B S r (tie_of x)) label tied))))
    | inr other ↦ subst (Tied (bound_more p B e) (session_more p S e)) (sym (others other)) (still p B S s.monarch e (none_other other) bounds tied)
  ]

  tied_made : (B : List ℕ) (S : Session) (a : Access) (w : Option Want) → e.event ≡ Do k a → e.answer ≡ answer_to true a s → want_at (layout_of p) (seat p s k) s.monarch l ≡ w → LeadsOn p k s (seat p s k) s.monarch l w → is_that_access w a ≡ true → Tied B S s.monarch → Tied (bound_more p B e) (session_more p S e) (row_effect p s k (answer_to true a s) (Some l) (access_effect p k true a s)).monarch
  tied_made B S a None event answer is leads f tied = absurd cc
  tied_made B S a (Some (want.Do b)) event answer is leads f tied =
      let same = same_access-equal a b f in
      row_tied B S (value_in (answer_to true a s)) (next_at (layout_of p) (seat p s k) s.monarch l (value_in (answer_to true a s))) refl
      (λ other. subst (λ c. (next_at (layout_of p) (seat p s k) s.monarch l (value_in (answer_to true c s))).monarch ≡ s.monarch) (sym same) (leads.others other))
      (λ seven. let w : Some (want.Do (Store gate 8 s.monarch.add.apic)) ≡ Some (want.Do b) = sym (ap (want_at (layout_of p) (seat p s k) s.monarch) seven) ∙ is in
      let store : b ≡ Store gate 8 s.monarch.add.apic = cc in
      ap stored_in event ∙ ap stored_by (same ∙ store)) (ap bounds event) (ap value_in answer) tied
  tied_made B S a (Some (want.Tell o)) event answer is leads f tied = absurd cc
  tied_made B S a (Some want.Resume) event answer is leads f tied = absurd cc

  tied_told : (B : List ℕ) (S : Session) (o : Outcome) (w : Option Want) → e.event ≡ Tell o → e.answer ≡ Quiet → want_at (layout_of p) (seat p s k) s.monarch l ≡ w → LeadsOn p k s (seat p s k) s.monarch l w → is_that_outcome w o ≡ true → Tied B S s.monarch → Tied (bound_more p B e) (session_more p S e) (row_effect p s k Quiet (Some l) s).monarch
  tied_told B S o None event answer is leads f tied = absurd cc
  tied_told B S o (Some (want.Do a)) event answer is leads f tied = absurd cc
  tied_told B S o (Some (want.Tell t)) event answer is leads f tied =
      row_tied B S 0 (next_at (layout_of p) (seat p s k) s.monarch l 0) refl leads.others
      (λ seven. absurd (let w : Some (want.Do (Store gate 8 s.monarch.add.apic)) ≡ Some (want.Tell t) = sym (ap (want_at (layout_of p) (seat p s k) s.monarch) seven) ∙ is in cc)) (ap bounds event) (ap value_in answer) tied
  tied_told B S o (Some want.Resume) event answer is leads f tied = absurd cc

  tied_rsm : (B : List ℕ) (S : Session) → e.event ≡ Resume k → is_rsm (want_at (layout_of p) (seat p s k) s.monarch l) ≡ true → Tied B S s.monarch → Tied (bound_more p B e) (session_more p S e) s.monarch
  tied_rsm B S event wanted tied = elim (is_monarchs (handler_of l)) [
    | inl mine ↦ first mine (row_returns p (seat p s k) s.monarch s.writes l here.cell.met wanted)
    | inr other ↦ still p B S s.monarch e (none_other other) (ap bounds event ∙ not_first (handler_of l) other here.cell.runs) tied
  ]
    where
      not_first : (q : Handler) → q ≢ Monarchs → runs_at (layout_of p) q k (at s k).smbase ≡ true → (k == 0) ≡ false
      not_first First n runs = off (k == 0) (and_parts (not (k == 0)) ((at s k).smbase == 0x30000) runs).0
        where
          off : (c : Bool) → not c ≡ true → c ≡ false
          off true f = absurd cc
          off false f = refl
      not_first Relocated n runs = off (k == 0) (and_parts (not (k == 0)) _ runs).0
        where
          off : (c : Bool) → not c ≡ true → c ≡ false
          off true f = absurd cc
          off false f = refl
      not_first Monarchs n runs = absurd (n refl)

      first : handler_of l ≡ Monarchs → Returns l → Tied (bound_more p B e) (session_more p S e) s.monarch
      first mine (inl up) = absurd (let both = sym mine ∙ aloft_first l (ap is_aloft up) in cc)
      first mine (inr n) =
          let label = current_label_is s.monarch l here.cell.current mine in
          let free : tie_of s.monarch.label ≡ Free = ap tie_of label ∙ n.2 in
          let bound : bound_more p B e ≡ B = row_bound B 0 mine (λ seven. absurd (let g : tie_of N7 ≡ Free = sym (ap tie_of seven) ∙ n.2 in cc)) ∙ not_seven n.2 in
          subst (TiedAt (bound_more p B e) (session_more p S e) s.monarch) (sym free) (subst (TiedAt B S s.monarch) free tied ∙ sym bound)
        where
          not_seven : tie_of l ≡ Free → bound_after l 0 B ≡ B
          not_seven free = by_seven (index_of l == 19) refl
            where
              by_seven : (c : Bool) → (index_of l == 19) ≡ c → (if c then with_bound (Some 0) B else B) ≡ B
              by_seven true f = absurd (let g : tie_of N7 ≡ Free = sym (ap tie_of (same_index l N7 mine (eqb-true (index_of l) 19 f))) ∙ free in cc)
              by_seven false f = refl

-- SMI entry of processor 0 begins a session
tied_smi : (p : Platform) (m : List Write) (s : State) (k : ℕ) (e : Entry) (B : List ℕ) (S : Session) → Invariant p m s → may_take_smi (at s k) ≡ true → e.event ≡ TakeSmi k → e.at ≡ None → Tied B S s.monarch → Tied (bound_more p B e) (session_more p S e) (with_session k (enter_smm k s)).monarch
tied_smi p m s k e B S h may event place tied =
    let none = none_outside p e place in
    pick_by (λ (t : State). Tied (bound_more p B e) (session_more p S e) t.monarch) (k == 0) (record (enter_smm k s) { monarch = restarted s.monarch }) (enter_smm k s)
    (λ z. free_bound B S s.monarch s.monarch.label (h.rests (subst (λ i. smm_address (at s i) ≡ None) (eqb-true k 0 z) (may_outside (at s k) may))) tied ∙ sym (bound_still p B e none))
    (λ z. still p B S s.monarch e none (ap bounds event ∙ neither (k == 0) z) tied)
  where
    neither : (c : Bool) → c ≡ false → (c || false) ≡ false
    neither true f = absurd cc
    neither false f = refl

tied_event : (p : Platform) (m : List Write) (s : State) (e : Entry) (v : Event) (B : List ℕ) (S : Session) → Sound p → Invariant p m s → e.event ≡ v → address_of s v ≡ e.at → e.answer ≡ answer_of s v → is_enabled p s v ≡ true → is_handlers p s v ≡ true → Tied B S s.monarch → Tied (bound_more p B e) (session_more p S e) (handlers_effect p s v (effect_of p s v)).monarch
tied_event p m s e (Insert k) B S sound h event place answer may wanted tied = still p B S s.monarch e (none_outside p e (sym place)) (ap bounds event) tied
tied_event p m s e (Remove k) B S sound h event place answer may wanted tied = still p B S s.monarch e (none_outside p e (sym place)) (ap bounds event) tied
tied_event p m s e (Do k a) B S sound h event place answer may wanted tied = by_mode (is_in_smm (at s k).mode) refl wanted answer
  where
    by_mode : (b : Bool) → is_in_smm (at s k).mode ≡ b → (not b || is_that_access (wanted_at (layout_of p) s.monarch (seat p s k) (label_at p s k)) a) ≡ true → e.answer ≡ answer_to b a s → Tied (bound_more p B e) (session_more p S e) (cond b (row_effect p s k (answer_to b a s) (label_at p s k) (access_effect p k b a s)) (access_effect p k b a s)).monarch
    by_mode true mode f g = by_row (label_at p s k) refl f
      where
        by_row : (o : Option Label) → label_at p s k ≡ o → is_that_access (wanted_at (layout_of p) s.monarch (seat p s k) o) a ≡ true → Tied (bound_more p B e) (session_more p S e) (row_effect p s k (answer_to true a s) o (access_effect p k true a s)).monarch
        by_row None is f = absurd cc
        by_row (Some l) is f =
            let here = row_stands p m s k l sound h is in
            tied_made p m s k l sound h here e place B S a (want_at (layout_of p) (seat p s k) s.monarch l) event g refl (row_next p m s k l sound h here) f tied
    by_mode false mode f g =
        subst (Tied (bound_more p B e) (session_more p S e)) (sym (acts p k false a s).monarch) (still p B S s.monarch e (none_outside p e (sym place ∙ outside_none (at s k) mode)) (ap bounds event) tied)
tied_event p m s e (TakeSmi k) B S sound h event place answer may wanted tied = tied_smi p m s k e B S h may event (sym place ∙ may_outside (at s k) may) tied
tied_event p m s e (TakeInit k) B S sound h event place answer may wanted tied = still p B S s.monarch e (none_outside p e (sym place ∙ init_outside (at s k) may)) (ap bounds event) tied
tied_event p m s e (Resume k) B S sound h event place answer may wanted tied = by_row (label_at p s k) refl wanted
  where
    by_row : (o : Option Label) → label_at p s k ≡ o → is_rsm (wanted_at (layout_of p) s.monarch (seat p s k) o) ≡ true → Tied (bound_more p B e) (session_more p S e) s.monarch
    by_row None is f = absurd cc
    by_row (Some l) is f = tied_rsm p m s k l sound h (row_stands p m s k l sound h is) e place B S event f tied
tied_event p m s e (Tell o) B S sound h event place answer may wanted tied = by_row (label_at p s 0) refl wanted
  where
    by_row : (t : Option Label) → label_at p s 0 ≡ t → is_that_outcome (wanted_at (layout_of p) s.monarch (seat p s 0) t) o ≡ true → Tied (bound_more p B e) (session_more p S e) (row_effect p s 0 Quiet t s).monarch
    by_row None is f = absurd cc
    by_row (Some l) is f =
        let here = row_stands p m s 0 l sound h is in
        tied_told p m s 0 l sound h here e place B S o (want_at (layout_of p) (seat p s 0) s.monarch l) event answer refl (row_next p m s 0 l sound h here) f tied

tied_led : (p : Platform) (m : List Write) (s : State) (e : Entry) (g : Stage) (B : List ℕ) (S : Session) → Sound p → Invariant p m s → is_handed g ≡ true → address_of s e.event ≡ e.at → e.answer ≡ answer_of s e.event → is_enabled p s e.event ≡ true → wanted_in p s g e.event ≡ true → Tied B S s.monarch → Tied (bound_more p B e) (session_more p S e) (firmware_effect p s g e.event (effect_of p s e.event)).monarch
tied_led p m s e (Boots done supported) B S sound h handed place answer may wanted tied = absurd cc
tied_led p m s e (Refused fact) B S sound h handed place answer may wanted tied = absurd cc
tied_led p m s e (Handed requested) B S sound h handed place answer may wanted tied = tied_event p m s e e.event B S sound h refl place answer may wanted tied

pub tied_step : (p : Platform) (m : List Write) (s : State) (e : Entry) (t : After) (B : List ℕ) (S : Session) → Sound p → Invariant p m s → step p s e.event ≡ Some t → address_of s e.event ≡ e.at → t.answer ≡ e.answer → Tied B S s.monarch → Tied (bound_more p B e) (session_more p S e) t.state.monarch
tied_step p m s e t B S sound h is place answer tied =
    let g = stepped p s e.event t is in
    subst (λ (x : After). Tied (bound_more p B e) (session_more p S e) x.state.monarch) g.is
    (tied_led p m s e s.stage B S sound h h.handed place (sym answer ∙ sym (ap (λ (x : After). x.answer) g.is)) g.enabled g.wanted tied)
