-- What is told of ejects shows in what the entries read, and an undisturbed session tells neither Foreign nor StillPending: over each kind of step.
use Rattle.std.proofs.Common.{ℕ, ◌≡◌, ◌<◌, ◌≤◌, ◌==◌, ◌⊎◌, inl, inr, Bool, true, false, cond, not, ◌&&◌, ◌||◌, List, [], ◌∷◌, replicate, Some, None, bit_and, refl, sym, ap, subst, ◌∙◌, arith}
use Rattle.std.specs.Str.{bytes_eq}
use Rattle.std.proofs.lemmas.Bool.{and_parts}
use Rattle.hp_model.specs.declared.platforms.Platform.{Platform}
use Rattle.hp_model.specs.declared.accesses.Access.{Access}
use Rattle.hp_model.specs.declared.accesses.Want.TheVariants as want
use Rattle.hp_model.specs.declared.labels.Label.{Label}
use Rattle.hp_model.specs.declared.labels.Label.TheVariants.{F6, R5, S2, E0, E1, E2, E3, E4g, E4h, T, E7}
use Rattle.hp_model.specs.declared.outcomes.Outcome.{Outcome}
use Rattle.hp_model.specs.declared.outcomes.Outcome.TheVariants.{Added, Ejected, Refused}
use Rattle.hp_model.specs.declared.outcomes.Refusal.TheVariants.{Disabled, Both, AlreadyKnown, GateHeld, NotAtGate, NotCheckedIn, NoUnplug, NotKnown, NotArrived, NotParked, Foreign, StillPending}
use Rattle.hp_model.specs.declared.entries.Event.TheVariants.{Insert, Remove, Do, TakeSmi, TakeInit, Resume, Tell}
use Rattle.hp_model.specs.declared.entries.Entry.{Entry}
use Rattle.hp_model.specs.Platform.{count_of, tile, is_late}
use Rattle.hp_model.specs.Memory.{Write, byte_at}
use Rattle.hp_model.specs.Cpu.{is_outside, is_in_smm, is_free, smm_address, may_take_smi, may_take_init, take_init}
use Rattle.hp_model.specs.Block.{is_in}
use Rattle.hp_model.specs.Boot.{Stage, value_in}
use Rattle.hp_model.specs.declared.labels.Handler.TheVariants.{Monarch as Monarchs}
use Rattle.hp_model.specs.Labels.{handler_of, index_of, same_label}
use Rattle.hp_model.specs.SharedBytes.{layout_of, parked_byte}
use Rattle.hp_model.specs.Monarch.{Monarch, restarted}
use Rattle.hp_model.specs.Handlers.{want_at}
use Rattle.hp_model.specs.State.{State, at, set_cpu}
use Rattle.hp_model.specs.Ports.{writes_block}
use Rattle.hp_model.specs.Access.{access_effect, answer_to}
use Rattle.hp_model.specs.Firmware.{seat, with_session, same_outcome}
use Rattle.hp_model.specs.Step.{insert, request_removal, enter_smm, leave_smm, is_after_broadcast}
use Rattle.hp_model.specs.Runs.{run_on}
use Rattle.hp_model.specs.Transitions.{Transition, entries_of}
use Rattle.hp_model.specs.Account.{is_at}
use Rattle.hp_model.specs.Sessions.{bounds_session, is_tell, ends_outcome}
use Rattle.hp_model.specs.Outcomes.{own_of, values_at}
use Rattle.hp_model.proofs.AtEach.{made}
use Rattle.hp_sealed.specs.Left.{Sound}
use Rattle.hp_sealed.proofs.Outside.{acts}
use Rattle.hp_safety.proofs.Marked.{at_none, at_monarch, at_other}
use Rattle.hp_exact.proofs.Stood.{IsStood}
use Rattle.hp_exact.proofs.Stepping.{AtMonarch, AtOther, Kinds, entry_by, ends, led_on, by_kind, is_other}
use Rattle.hp_exact.proofs.Monarchs.{is_among, ejecting, next_other}
use Rattle.hp_exact.proofs.Rows.{access_of, at_want}
use Rattle.hp_exact.proofs.InSmm.{none_outside, init_outside}
use Rattle.hp_exact.proofs.Ejecting.{shows_reads, IsBit, SaidAt, Owns, Says, said_row}
use Rattle.hp_exact.proofs.OwnEntries.{own_more, own_none, elsewhere, is_collects, by_label, anew_row, ejecting_goes, values_here, values_past}
use Rattle.hp_safety.proofs.Entering.{may_outside}
use Rattle.hp_exact.proofs.ParkedByte.{cleared, leaves_bit, left_entering, left_outside, loads_parked, map_leaves, marks_other}

looks_elsewhere : (l : Label) → is_among l (E0 ∷ E1 ∷ E3 ∷ []) ≡ true → (is_among l ejecting ≡ true) × ((index_of l == index_of E2) ≡ false)
looks_elsewhere E0 e = (refl, refl)
looks_elsewhere E1 e = (refl, refl)
looks_elsewhere E3 e = (refl, refl)
looks_elsewhere _ e = absurd cc

-- where nothing is read, all stays
shows_same : (p : Platform) (own own2 : List Entry) → values_at p E2 own2 ≡ values_at p E2 own → values_at p E4g own2 ≡ values_at p E4g own → (o : Outcome) → shows_reads p own o ≡ true → shows_reads p own2 o ≡ true
shows_same p own own2 e f (Added cpu apic slot) h = refl
shows_same p own own2 e f (Ejected cpu apic slot) h = refl
shows_same p own own2 e f (Refused (Disabled cpu status)) h = refl
shows_same p own own2 e f (Refused (Both cpu status)) h = refl
shows_same p own own2 e f (Refused (AlreadyKnown cpu apic slot)) h = refl
shows_same p own own2 e f (Refused (GateHeld cpu apic other)) h = refl
shows_same p own own2 e f (Refused (NotAtGate cpu apic)) h = refl
shows_same p own own2 e f (Refused (NotCheckedIn cpu apic)) h = refl
shows_same p own own2 e f (Refused (NoUnplug cpu features)) h = refl
shows_same p own own2 e f (Refused (NotKnown cpu apic)) h = refl
shows_same p own own2 e f (Refused (NotArrived cpu apic)) h = refl
shows_same p own own2 e f (Refused (NotParked cpu apic)) h = subst (λ xs. bytes_eq xs (replicate p.polls 0) ≡ true) (sym e) h
shows_same p own own2 e f (Refused (Foreign cpu apic)) h = refl
shows_same p own own2 e f (Refused (StillPending cpu status)) h = subst (λ xs. (is_in status xs && (bit_and status 0x10 == 0x10)) ≡ true) (sym f) h

said_same : (p : Platform) (own own2 : List Entry) (d d2 : Bool) (ws ws2 : List Write) (r : Monarch) → values_at p E2 own2 ≡ values_at p E2 own → values_at p E4g own2 ≡ values_at p E4g own → (d2 ≡ false → d ≡ false)
    → (l : Label) → (is_among l ejecting ≡ true → IsBit p ws r.eject.slot → IsBit p ws2 r.eject.slot) → SaidAt p own d ws r l → SaidAt p own2 d2 ws2 r l
said_same p own own2 d d2 ws ws2 r e f quiet E0 bit h = e ∙ h
said_same p own own2 d d2 ws ws2 r e f quiet E1 bit h = (e ∙ h.0, bit refl h.1)
said_same p own own2 d d2 ws ws2 r e f quiet E2 bit h = (record { looks = h.0.looks; zeros = e ∙ h.0.zeros; all = h.0.all; some = h.0.some }, bit refl h.1)
said_same p own own2 d d2 ws ws2 r e f quiet E3 bit h = e ∙ h
said_same p own own2 d d2 ws ws2 r e f quiet E4h bit h = subst (λ xs. (is_in r.eject.status xs && (bit_and r.eject.status 0x10 == 0x10)) ≡ true) (sym f) h
said_same p own own2 d d2 ws ws2 r e f quiet T bit h = (shows_same p own own2 e f r.outcome h.0, λ calm. h.1 (quiet calm))
said_same p own own2 d d2 ws ws2 r e f quiet _ bit h = tt

pub said_fresh : (p : Platform) (own : List Entry) (d : Bool) (ws : List Write) (r : Monarch) (l : Label) → is_after_broadcast l ≡ false → SaidAt p own d ws r l
said_fresh p own d ws r E0 e = absurd cc
said_fresh p own d ws r E1 e = absurd cc
said_fresh p own d ws r E2 e = absurd cc
said_fresh p own d ws r E3 e = absurd cc
said_fresh p own d ws r E4h e = absurd cc
said_fresh p own d ws r T e = absurd cc
said_fresh p own d ws r _ e = tt

module _ (p : Platform) (fit : Sound p) (past : List Transition) (s : State) (standing : IsStood p s) (polled : 1 ≤ p.polls)
    (small : is_among s.monarch.label ejecting ≡ true → s.monarch.eject.slot < 0x1000)
    (never : is_after_broadcast s.monarch.label ≡ true → s.disturbed ≡ false → is_among s.monarch.label (E4h ∷ []) ≡ false)
    (said : SaidAt p (entries_of (own_of p past)) s.disturbed s.writes s.monarch s.monarch.label) where
  abbrev Now : Entry → State → Type 0
  Now e t = SaidAt p (entries_of (own_of p (made s e t ∷ past))) t.disturbed t.writes t.monarch t.monarch.label

  abbrev Follows : Entry → State → Type 0
  Follows e t = Owns p t.disturbed t.monarch → Now e t

  -- steps of others, and of the host
  same_said : (e : Entry) (t : State) → ((m : Label) → handler_of m ≡ Monarchs → is_at p m e ≡ false) → is_tell e ≡ false → bounds_session e ≡ false → t.monarch ≡ s.monarch → (t.disturbed ≡ false → s.disturbed ≡ false)
      → (is_among s.monarch.label ejecting ≡ true → IsBit p s.writes s.monarch.eject.slot → IsBit p t.writes s.monarch.eject.slot) → Now e t
  same_said e t unseen silent within same quiet bit =
      let own = ap entries_of (own_more p (made s e t) past (elsewhere p e unseen silent within)) in
      subst (λ r. SaidAt p (entries_of (own_of p (made s e t ∷ past))) t.disturbed t.writes r r.label) (sym same)
      (said_same p (entries_of (own_of p past)) (entries_of (own_of p (made s e t ∷ past))) s.disturbed t.disturbed s.writes t.writes s.monarch
      (ap (values_at p E2) own ∙ values_past p E2 e (entries_of (own_of p past)) (unseen E2 refl)) (ap (values_at p E4g) own ∙ values_past p E4g e (entries_of (own_of p past)) (unseen E4g refl)) quiet s.monarch.label bit said)

  inserts : (k : ℕ) (g : Stage) → k < count_of p → (at s k).present ≡ false → Follows (entry_by s (Insert k)) (ends (insert k s) g s.disturbed)
  inserts k g less gone owns = same_said (entry_by s (Insert k)) (ends (insert k s) g s.disturbed) (λ m part. at_none p m (entry_by s (Insert k)) refl) refl refl refl (λ e. e) (λ e b. b)

  removes : (k : ℕ) (g : Stage) → Follows (entry_by s (Remove k)) (ends (request_removal k s) g s.disturbed)
  removes k g owns = same_said (entry_by s (Remove k)) (ends (request_removal k s) g s.disturbed) (λ m part. at_none p m (entry_by s (Remove k)) refl) refl refl refl (λ e. e) (λ e b. b)

  outside : (k : ℕ) (a : Access) (g : Stage) → is_free (is_late p.delivery) (at s k) ≡ true → is_in_smm (at s k).mode ≡ false
      → Follows (record { event = Do k a; answer = answer_to false a s; at = smm_address (at s k) }) (ends (access_effect p k false a s) g (s.disturbed || (writes_block a && is_after_broadcast s.monarch.label)))
  outside k a g free out owns =
      same_said e t (λ m part. at_none p m e (none_outside (at s k) out)) refl refl (acts p k false a s).monarch (first s.disturbed _)
      (λ mine b. let left = left_outside p s s.monarch.eject.slot fit standing (small mine) k a in omega (arith, left, b))
    where
      e : Entry
      e = record { event = Do k a; answer = answer_to false a s; at = smm_address (at s k) }

      t : State
      t = ends (access_effect p k false a s) g (s.disturbed || (writes_block a && is_after_broadcast s.monarch.label))

      first : (d w : Bool) → (d || w) ≡ false → d ≡ false
      first true w f = absurd cc
      first false w f = refl

  others : (k : ℕ) (l : Label) (a : Access) (g : Stage) → AtOther p s k l → want_at (layout_of p) (seat p s k) s.monarch l ≡ Some (want.Do a)
      → Follows (record { event = Do k a; answer = answer_to true a s; at = smm_address (at s k) }) (ends (led_on p s k l (value_in (answer_to true a s)) (access_effect p k true a s)) g s.disturbed)
  others k l a g here wants owns =
      same_said e t (λ m part. at_other p l m e k (at s k).smbase fit here.runs here.part here.place part) refl refl (next_other (layout_of p) (seat p s k) s.monarch l (value_in (answer_to true a s)) here.part) (λ f. f)
      (λ mine b. elim (marks_other p s s.monarch.eject.slot fit standing (small mine) k l a here wants) [ inl f ↦ leaves_bit _ _ f b | inr f ↦ f.2 ])
    where
      e : Entry
      e = record { event = Do k a; answer = answer_to true a s; at = smm_address (at s k) }

      t : State
      t = ends (led_on p s k l (value_in (answer_to true a s)) (access_effect p k true a s)) g s.disturbed

  inits : (k : ℕ) (g : Stage) → may_take_init (at s k) ≡ true → Follows (entry_by s (TakeInit k)) (ends (set_cpu k (take_init (at s k)) s) g s.disturbed)
  inits k g may owns =
      same_said (entry_by s (TakeInit k)) (ends (set_cpu k (take_init (at s k)) s) g s.disturbed)
      (λ m part. at_none p m (entry_by s (TakeInit k)) (init_outside (at s k) may)) refl refl refl (λ e. e) (λ e b. b)

  returns : (k : ℕ) (l : Label) (g : Stage) → AtOther p s k l → (l ≡ F6) ⊎ (l ≡ R5) → Follows (entry_by s (Resume k)) (ends (leave_smm k s) g s.disturbed)
  returns k l g here where_is owns =
      same_said (entry_by s (Resume k)) (ends (leave_smm k s) g s.disturbed) (λ m part. at_other p l m (entry_by s (Resume k)) k (at s k).smbase fit here.runs here.part here.place part) refl (is_other k here.other) refl (λ e. e) (λ e b. b)

  rests : (g : Stage) → AtMonarch p s E7 → Follows (entry_by s (Resume 0)) (ends (leave_smm 0 s) g s.disturbed)
  rests g here owns = said_fresh p (entries_of (own_of p (made s (entry_by s (Resume 0)) (ends (leave_smm 0 s) g s.disturbed) ∷ past))) s.disturbed s.writes s.monarch s.monarch.label (let label = here.label in rw label refl)

  enters : (k : ℕ) (g : Stage) → may_take_smi (at s k) ≡ true → Follows (entry_by s (TakeSmi k)) (ends (with_session k (enter_smm k s)) g s.disturbed)
  enters k g may = by_first (k == 0) refl
    where
      e : Entry
      e = entry_by s (TakeSmi k)

      to : Bool → State
      to b = ends (cond b (record (enter_smm k s) { monarch = restarted s.monarch }) (enter_smm k s)) g s.disturbed

      there : ((at s k).present ≡ true) × (((at s k).smi && is_outside (at s k).mode) ≡ true)
      there = and_parts (at s k).present ((at s k).smi && is_outside (at s k).mode) may

      out : smm_address (at s k) ≡ None
      out = may_outside (at s k) may

      begins : Follows e (to true)
      begins owns = tt

      comes : (k == 0) ≡ false → Follows e (to false)
      comes is owns = same_said e (to false) (λ m part. at_none p m e out) refl (let z = is in rw z refl) refl (λ f. f) (λ mine b. let left = left_entering p s s.monarch.eject.slot fit standing (small mine) k there.0 in omega (arith, left, b))

      by_first : (b : Bool) → (k == 0) ≡ b → Follows e (ends (with_session k (enter_smm k s)) g s.disturbed)
      by_first true is = subst (λ b. Follows e (to b)) (sym is) begins
      by_first false is = subst (λ b. Follows e (to b)) (sym is) (comes is)

  -- a row of the monarch's
  monarchs : (l : Label) (a : Access) (g : Stage) → AtMonarch p s l → want_at (layout_of p) (seat p s 0) s.monarch l ≡ Some (want.Do a)
      → Follows (record { event = Do 0 a; answer = answer_to true a s; at = smm_address (at s 0) }) (ends (led_on p s 0 l (value_in (answer_to true a s)) (access_effect p 0 true a s)) g (not (same_label l S2) && s.disturbed))
  unfolding access_of
  monarchs l a g here wants =
      said_row p (entries_of (own_of p past)) (entries_of (own_of p (made s e t ∷ past))) s.disturbed t.disturbed s.writes t.writes (seat p s 0) s.monarch v said polled l here.part here.label says
    where
      v : ℕ
      v = value_in (answer_to true a s)

      e : Entry
      e = record { event = Do 0 a; answer = answer_to true a s; at = smm_address (at s 0) }

      t : State
      t = ends (led_on p s 0 l v (access_effect p 0 true a s)) g (not (same_label l S2) && s.disturbed)

      seen : (m : Label) → handler_of m ≡ Monarchs → is_at p m e ≡ (index_of l == index_of m)
      seen m part = at_monarch p l m e (tile p 0) refl here.place part

      goes : ends_outcome p e ≡ (is_collects l || false)
      goes = by_label p e l seen refl refl

      more : is_among l ejecting ≡ true → entries_of (own_of p (made s e t ∷ past)) ≡ e ∷ entries_of (own_of p past)
      more mine = ap entries_of (own_more p (made s e t) past (goes ∙ ejecting_goes l mine))

      tight : is_among l ejecting ≡ true → s.monarch.eject.slot < 0x1000
      tight mine = small (let label = here.label in rw label mine)

      says : Says p (entries_of (own_of p past)) (entries_of (own_of p (made s e t ∷ past))) t.disturbed s.writes t.writes s.monarch l v
      says = record {
        anew = λ f. ap (λ xs. values_at p E2 (entries_of xs)) (own_none p (made s e t) past (goes ∙ anew_row p s l a wants f));
        same = λ f. let c = looks_elsewhere l f in ap (values_at p E2) (more c.0) ∙ values_past p E2 e (entries_of (own_of p past)) (seen E2 refl ∙ c.1);
        reads = λ is. ap (values_at p E2) (more (rw is refl)) ∙ values_here p E2 e (entries_of (own_of p past)) (seen E2 refl ∙ rw is refl);
        bit = λ is b. at_want p s (λ a. value_in (answer_to true a s) ≤ 1) l E2 a is wants (let loads = loads_parked p s s.monarch.eject.slot fit standing (tight (rw is refl)) in omega (arith, loads, b));
        still = λ f. by_two l refl f;
        zeroed = λ is. at_want p s (λ a. byte_at (access_effect p 0 true a s).writes (parked_byte (layout_of p) s.monarch.eject.slot) ≡ 0) l E0 a is wants (cleared p s s.monarch.eject.slot fit standing (tight (rw is refl)));
        sees = λ is. ap (values_at p E4g) (more (rw is refl)) ∙ values_here p E4g e (entries_of (own_of p past)) (seen E4g refl ∙ rw is refl);
        waits = λ is. ap (values_at p E4g) (more (rw is refl)) ∙ values_past p E4g e (entries_of (own_of p past)) (seen E4g refl ∙ rw is refl);
        never = λ is quiet.
            let label : s.monarch.label ≡ E4h = here.label ∙ is in
            let there : is_among s.monarch.label (E4h ∷ []) ≡ true = rw label refl in
            let calm : s.disturbed ≡ false = was quiet is in
            let both : true ≡ false = sym there ∙ never (rw label refl) calm in
            cc;
      }
        where
          was : (not (same_label l S2) && s.disturbed) ≡ false → l ≡ E4h → s.disturbed ≡ false
          was f is = subst (λ m. (not (same_label m S2) && s.disturbed) ≡ false) is f

          by_two : (m : Label) → l ≡ m → is_among m (E1 ∷ E2 ∷ []) ≡ true → byte_at (access_effect p 0 true a s).writes (parked_byte (layout_of p) s.monarch.eject.slot) ≡ byte_at s.writes (parked_byte (layout_of p) s.monarch.eject.slot)
          by_two E1 is f = at_want p s (λ a. byte_at (access_effect p 0 true a s).writes (parked_byte (layout_of p) s.monarch.eject.slot) ≡ byte_at s.writes (parked_byte (layout_of p) s.monarch.eject.slot)) l E1 a is wants (map_leaves p s s.monarch.eject.slot fit standing (tight (rw is refl)))
          by_two E2 is f = at_want p s (λ a. byte_at (access_effect p 0 true a s).writes (parked_byte (layout_of p) s.monarch.eject.slot) ≡ byte_at s.writes (parked_byte (layout_of p) s.monarch.eject.slot)) l E2 a is wants refl
          by_two _ is f = absurd cc

  -- an outcome is told
  tells_it : (o : Outcome) (g : Stage) → AtMonarch p s T → same_outcome o s.monarch.outcome ≡ true → Follows (entry_by s (Tell o)) (ends (led_on p s 0 T 0 s) g s.disturbed)
  tells_it o g here same =
      said_row p (entries_of (own_of p past)) (entries_of (own_of p (made s e t ∷ past))) s.disturbed s.disturbed s.writes s.writes (seat p s 0) s.monarch 0 said polled T here.part here.label
      (record {
        anew = λ f. ap (λ xs. values_at p E2 (entries_of xs)) (own_none p (made s e t) past refl);
        same = λ f. absurd cc;
        reads = λ is. absurd cc;
        bit = λ is. absurd cc;
        still = λ is. absurd cc;
        zeroed = λ is. absurd cc;
        sees = λ is. absurd cc;
        waits = λ is. absurd cc;
        never = λ is. absurd cc;
      })
    where
      e : Entry
      e = entry_by s (Tell o)

      t : State
      t = ends (led_on p s 0 T 0 s) g s.disturbed

  kinds : Kinds p s Follows
  kinds = record {
    inserts = inserts;
    removes = removes;
    outside = outside;
    monarchs = monarchs;
    others = others;
    enters = enters;
    inits = inits;
    rests = rests;
    returns = returns;
    tells = tells_it;
  }

  pub said_goes : (e : Entry) (t : State) → run_on p s e ≡ Some t → Follows e t
  said_goes e t is = by_kind p s Follows standing kinds e t is
