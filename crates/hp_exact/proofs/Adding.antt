-- Each kind of step keeps what ties the running add to the entries of its outcome.
use Rattle.std.proofs.Common.{ℕ, ◌≡◌, ◌≢◌, ◌≤◌, ◌==◌, ◌⊎◌, inl, inr, Bool, true, false, cond, not, ◌&&◌, ◌||◌, List, [], ◌∷◌, Some, None, refl, sym, ap, subst, ◌∙◌, arith}
use Rattle.std.proofs.lemmas.Bool.{and_parts, eqb-true}
use Rattle.std.proofs.lemmas.Bool.Decides.{nat_tests}
use Rattle.hp_model.specs.declared.platforms.Platform.{Platform}
use Rattle.hp_model.specs.declared.accesses.Access.{Access}
use Rattle.hp_model.specs.declared.accesses.Access.TheVariants.{Store}
use Rattle.hp_model.specs.declared.accesses.Want.TheVariants as want
use Rattle.hp_model.specs.declared.outcomes.Outcome.{Outcome}
use Rattle.hp_model.specs.declared.labels.Label.{Label}
use Rattle.hp_model.specs.declared.labels.Label.TheVariants.{C1, C2, C3, C4, C5, C6, S2, N0, N1, N7, N8a, N8b, N10, N11, T, E7}
use Rattle.hp_model.specs.declared.entries.Event.TheVariants.{Insert, Remove, Do, TakeSmi, TakeInit, Resume, Tell}
use Rattle.hp_model.specs.declared.entries.Entry.{Entry}
use Rattle.hp_model.specs.Platform.{count_of, tile, apic_of, is_late}
use Rattle.hp_model.specs.Memory.{Write, byte_at}
use Rattle.hp_model.specs.Cpu.{is_in_smm, is_outside, is_free, smm_address, may_take_smi, take_init}
use Rattle.hp_model.specs.Boot.{Stage, value_in}
use Rattle.hp_model.specs.declared.labels.Handler.TheVariants.{Monarch as Monarchs}
use Rattle.hp_model.specs.Labels.{handler_of, index_of, same_label}
use Rattle.hp_model.specs.View.{is_hole}
use Rattle.hp_model.specs.Events.{is_access_of}
use Rattle.hp_model.specs.SharedBytes.{layout_of, flag, arrived_byte, gate}
use Rattle.hp_model.specs.Monarch.{Monarch, restarted}
use Rattle.hp_model.specs.Handlers.{want_at, next_at}
use Rattle.hp_model.specs.State.{State, at, set_cpu}
use Rattle.hp_model.specs.Ports.{writes_block}
use Rattle.hp_model.specs.Access.{access_effect, answer_to}
use Rattle.hp_model.specs.Firmware.{seat, with_session, same_outcome}
use Rattle.hp_model.specs.Step.{insert, request_removal, enter_smm, leave_smm, is_after_broadcast}
use Rattle.hp_model.specs.Runs.{run_on}
use Rattle.hp_model.specs.Transitions.{Transition, entries_of}
use Rattle.hp_model.specs.Account.{is_at, bound}
use Rattle.hp_model.specs.Sessions.{bounds_session, is_tell, ends_outcome}
use Rattle.hp_model.specs.Outcomes.{opens}
use Rattle.hp_sealed.specs.Left.{Sound}
use Rattle.hp_sealed.proofs.Outside.{acts}
use Rattle.hp_safety.proofs.Needs.{IsSlot}
use Rattle.hp_safety.proofs.Ties.{session_of, TiedAt, tie_of}
use Rattle.hp_safety.proofs.Invariant.{facts_of}
use Rattle.hp_safety.proofs.Accesses.{monarch_met}
use Rattle.hp_safety.proofs.Backward.{bound_step}
use Rattle.hp_safety.proofs.Marked.{at_none, at_monarch, at_other, same_index}
use Rattle.hp_safety.proofs.Named.{Accounted}
use Rattle.hp_safety.proofs.Runs.{IsHanded}
use Rattle.hp_exact.proofs.Stood.{IsStood}
use Rattle.hp_exact.proofs.Stepping.{AtMonarch, AtOther, Kinds, entry_by, ends, led_on, by_kind}
use Rattle.hp_exact.proofs.InSmm.{none_outside, init_outside}
use Rattle.hp_exact.proofs.AddingTrail.{own, before, trail_of, no_trail, trail_after, trail_none, trail_made, trail_still, own_more, own_ends, before_more, before_ends}
use Rattle.hp_exact.proofs.AddingBytes.{IsShared, Keeps, read_here, reach_flag, reach_arrived, bits_row, bits_outside, bits_enters, same_outside, same_enters}
use Rattle.hp_exact.proofs.ByteStores.{zero_here}
use Rattle.hp_exact.proofs.Monarchs.{is_among, adding, next_other}
use Rattle.hp_exact.proofs.Naming.{Ids}
use Rattle.hp_exact.proofs.Rows.{is_one, access_of}
use Rattle.hp_exact.proofs.Invariant.{Invariant}
use Rattle.hp_exact.proofs.AddingHome.{IsHome, stays_home, lands}
use Rattle.hp_exact.proofs.AddingRows.{Deeds, row_add, add_resting, add_still, apic_stays, ending_bound, adding_slot, adding_needs}
use Rattle.hp_exact.proofs.AddingTie.{IsBit, RunsBy, AddAt, AddTied, is_ending}
use Rattle.hp_safety.proofs.Entering.{may_outside}

-- the running add and what its outcome's entries show
abbrev pub Shown : Platform → List Entry → List Write → (ℕ → ℕ → Type 0) → Monarch → Type 0
Shown p es ws home r = AddTied (layout_of p) (trail_of p r.add.apic (own p es)) (bound p (before p es)) ws home r

kept_bit : (ws vs : List Write) (x : ℕ) → Keeps x ws vs → IsBit ws x → IsBit vs x
kept_bit ws vs x (inl same) (inl e) = inl (same ∙ e)
kept_bit ws vs x (inl same) (inr e) = inr (same ∙ e)
kept_bit ws vs x (inr now) h = now

itself : (n : ℕ) → (n == n) ≡ true
itself n = grind (arith, nat_tests)

-- at N11 an add runs
adds_there : (l : Label) → is_among l (N11 ∷ []) ≡ true → is_among l adding ≡ true
adds_there l is = rw (is_one l N11 is) refl

module _ (p : Platform) (sound : Sound p) (polled : 1 ≤ p.polls) (past : List Transition) (s : State) (stood : IsStood p s) (handed : IsHanded p s) (acc : Accounted p past s) (inv : Invariant p past s) (h : Shown p (entries_of past) s.writes (IsHome p s) s.monarch) where
  -- whoever is at home stays there, where that is asked
  abbrev Carries : (ℕ → ℕ → Type 0) → Type 0
  Carries home2 = is_among s.monarch.label (N11 ∷ T ∷ []) ≡ true → (cpu slot : ℕ) → IsHome p s cpu slot → home2 cpu slot

  abbrev Goes : Entry → State → Type 0
  Goes e t = Carries (IsHome p t) → Shown p (e ∷ entries_of past) t.writes (IsHome p t) t.monarch

  abbrev es : List Entry
  es = entries_of past

  abbrev r : Monarch
  r = s.monarch

  abbrev y_add : ℕ
  y_add = arrived_byte (layout_of p) s.monarch.add.slot

  -- the slot of a running add
  slot_small : is_among r.label adding ≡ true → IsSlot (count_of p) r.add.slot
  slot_small is = adding_slot (facts_of p r s.writes (apic_of p 0) (at s 0).base) r.label is (monarch_met p s.writes s handed (adding_needs r.label is))

  arrived_shared : is_among r.label adding ≡ true → IsShared p y_add
  arrived_shared is = let less = (slot_small is).1 in let few = sound.few in inr (omega arith, omega (arith, less, few))

  looking : is_among r.label (N11 ∷ []) ≡ true → is_among r.label (N11 ∷ T ∷ []) ≡ true
  looking e = plain (same_label r.label N11) (same_label r.label T) e
    where
      plain : (x y : Bool) → (x || false) ≡ true → (x || (y || false)) ≡ true
      plain true y e = refl
      plain false y e = absurd cc

  telling : is_among r.label (T ∷ []) ≡ true → is_among r.label (N11 ∷ T ∷ []) ≡ true
  telling e = plain (same_label r.label N11) (same_label r.label T) e
    where
      plain : (x y : Bool) → (y || false) ≡ true → (x || (y || false)) ≡ true
      plain true y e = refl
      plain false true e = refl
      plain false false e = absurd cc

  -- an entry that shows nothing of it
  unseen : (e : Entry) (vs : List Write) (home2 : ℕ → ℕ → Type 0) → ((m : Label) → handler_of m ≡ Monarchs → is_at p m e ≡ false) → is_tell e ≡ false → bounds_session e ≡ false → is_access_of 0 e.event ≡ false → ((x : ℕ) → IsShared p x → Keeps x s.writes vs)
      → (is_among r.label (N11 ∷ []) ≡ true → byte_at vs y_add ≡ 1 → (byte_at s.writes y_add ≡ 1) ⊎ IsHome p s r.add.cpu r.add.slot) → Carries home2 → Shown p (e ∷ es) vs home2 r
  unseen e vs home2 away told within made kept lands carries =
      let on : ends_outcome p e ≡ false = rw (told, within, away C1 refl, away C2 refl, away C3 refl, away C4 refl, away C5 refl, away C6 refl) refl in
      subst (λ ids. AddTied (layout_of p) (trail_of p r.add.apic (own p (e ∷ es))) ids vs home2 r) (ap (bound p) (sym (before_more p e es on)))
      (subst (λ t. AddTied (layout_of p) t (bound p (before p es)) vs home2 r) (sym (ap (trail_of p r.add.apic) (own_more p e es on) ∙ trail_still p r.add.apic e (own p es) made away))
      (add_still (layout_of p) (trail_of p r.add.apic (own p es)) (bound p (before p es)) s.writes vs (IsHome p s) home2 r r.label (kept_bit s.writes vs flag (kept flag (inl refl))) (λ is. kept_bit s.writes vs y_add (kept y_add (arrived_shared is)))
      (λ is was one. carries (looking is) r.add.cpu r.add.slot (elim (lands is one) [ inl b ↦ was b | inr home ↦ home ])) (λ is. carries (telling is)) h))

  -- processor 0 outside SMM: nothing is tied
  resting : (xs : List Entry) (vs : List Write) (home2 : ℕ → ℕ → Type 0) → smm_address (at s 0) ≡ None → Shown p xs vs home2 r
  resting xs vs home2 out = add_resting (layout_of p) (trail_of p r.add.apic (own p xs)) (bound p (before p xs)) vs home2 r r.label (handed.rests out)

  -- an entry that ends the entries of an outcome
  ended : (e : Entry) (vs : List Write) (home2 : ℕ → ℕ → Type 0) (u : Monarch) → ends_outcome p e ≡ true → AddTied (layout_of p) no_trail (bound p (e ∷ es)) vs home2 u → Shown p (e ∷ es) vs home2 u
  ended e vs home2 u on tied =
      subst (λ ids. AddTied (layout_of p) (trail_of p u.add.apic (own p (e ∷ es))) ids vs home2 u) (ap (bound p) (sym (before_ends p e es on)))
      (subst (λ t. AddTied (layout_of p) t (bound p (e ∷ es)) vs home2 u) (sym (ap (trail_of p u.add.apic) (own_ends p e es on) ∙ trail_none p u.add.apic)) tied)

  -- a row of the monarch's, with what it does to memory, and where it leads
  row_on : (l : Label) (e : Entry) (vs : List Write) (home2 : ℕ → ℕ → Type 0) (u : Monarch) → AtMonarch p s l → ends_outcome p e ≡ is_ending l → (is_ending l ≡ false → is_access_of 0 e.event ≡ true)
      → ((m : Label) → handler_of m ≡ Monarchs → is_at p m e ≡ (index_of l == index_of m)) → opens p r.add.apic e ≡ (index_of l == 19)
      → Deeds (layout_of p) s.writes vs (IsHome p s) home2 (bound p (e ∷ es)) r l (value_in e.answer) → u ≡ (next_at (layout_of p) (seat p s 0) r l (value_in e.answer)).monarch → Shown p (e ∷ es) vs home2 u
  row_on l e vs home2 u here on made seen opened deeds is = by_end (is_ending l) refl
      (row_add (layout_of p) (trail_of p r.add.apic (own p es)) (bound p (before p es)) (bound p (e ∷ es)) s.writes vs (IsHome p s) home2 (seat p s 0) r (value_in e.answer) polled l here.part here.label deeds (subst (AddAt (layout_of p) (trail_of p r.add.apic (own p es)) (bound p (before p es)) s.writes (IsHome p s) r) here.label h))
    where
      v : ℕ
      v = value_in e.answer

      next : Monarch
      next = (next_at (layout_of p) (seat p s 0) r l v).monarch

      by_end : (b : Bool) → is_ending l ≡ b → AddTied (layout_of p) (cond b no_trail (trail_after l v (trail_of p r.add.apic (own p es)))) (cond b (bound p (e ∷ es)) (bound p (before p es))) vs home2 next → Shown p (e ∷ es) vs home2 u
      by_end true it tied = ended e vs home2 u (on ∙ it) (subst (AddTied (layout_of p) no_trail (bound p (e ∷ es)) vs home2) (sym is) tied)
      by_end false it tied =
          let same : u.add.apic ≡ r.add.apic = ap (λ (x : Monarch). x.add.apic) is ∙ apic_stays (layout_of p) (seat p s 0) r l v here.part it in
          let trail : trail_of p u.add.apic (own p (e ∷ es)) ≡ trail_after l v (trail_of p r.add.apic (own p es)) =
          ap (λ a. trail_of p a (own p (e ∷ es))) same ∙ (ap (trail_of p r.add.apic) (own_more p e es (on ∙ it)) ∙ trail_made p r.add.apic e (own p es) l (made it) seen opened) in
          subst (λ ids. AddTied (layout_of p) (trail_of p u.add.apic (own p (e ∷ es))) ids vs home2 u) (ap (bound p) (sym (before_more p e es (on ∙ it))))
          (subst (λ t. AddTied (layout_of p) t (bound p (before p es)) vs home2 u) (sym trail)
          (subst (AddTied (layout_of p) (trail_after l v (trail_of p r.add.apic (own p es))) (bound p (before p es)) vs home2) (sym is) tied))

  -- the bound APIC IDs where it ends an outcome's entries
  bound_at : (l : Label) (e : Entry) → AtMonarch p s l → (is_at p N7 e ≡ (index_of l == 19)) → is_ending l ≡ true → r.slots.bound ≡ bound p (e ∷ es)
  bound_at l e here seen it =
      let at_end = ending_bound (bound p es) (session_of p es) r l here.part it (subst (λ m. TiedAt (bound p es) (session_of p es) r (tie_of m)) here.label acc.tied) in
      let none : is_at p N7 e ≡ false = seen ∙ at_end.1 in
      let still : bound p (e ∷ es) ≡ bound p es = bound_step p es e ∙ rw none refl in
      at_end.0 ∙ sym still

  shows_row : (l : Label) (a : Access) (g : Stage) → AtMonarch p s l → want_at (layout_of p) (seat p s 0) r l ≡ Some (want.Do a)
      → Goes (record { event = Do 0 a; answer = answer_to true a s; at = smm_address (at s 0) }) (ends (led_on p s 0 l (value_in (answer_to true a s)) (access_effect p 0 true a s)) g (not (same_label l S2) && s.disturbed))
  unfolding access_of
  shows_row l a g here wants carries = row_on l e (access_effect p 0 true a s).writes (IsHome p t) (next_at (layout_of p) (seat p s 0) r l (value_in (answer_to true a s))).monarch here on (λ _. refl) seen opened deeds refl
    where
      e : Entry
      e = record { event = Do 0 a; answer = answer_to true a s; at = smm_address (at s 0) }

      vs : List Write
      vs = (access_effect p 0 true a s).writes

      t : State
      t = ends (led_on p s 0 l (value_in (answer_to true a s)) (access_effect p 0 true a s)) g (not (same_label l S2) && s.disturbed)

      seen : (m : Label) → handler_of m ≡ Monarchs → is_at p m e ≡ (index_of l == index_of m)
      seen m part = at_monarch p l m e (tile p 0) refl here.place part

      untold : (b : Bool) → (index_of l == 34) ≡ b → b ≡ false
      untold false is = refl
      untold true is = absurd (let label : l ≡ T = same_index l T here.part (eqb-true (index_of l) 34 is) in let f : want_at (layout_of p) (seat p s 0) r T ≡ Some (want.Do a) = subst (λ m. want_at (layout_of p) (seat p s 0) r m ≡ Some (want.Do a)) label wants in cc)

      on : ends_outcome p e ≡ is_ending l
      on = rw (seen C1 refl, seen C2 refl, seen C3 refl, seen C4 refl, seen C5 refl, seen C6 refl, untold (index_of l == 34) refl) refl

      made_by : (m : Label) → l ≡ m → access_of (want_at (layout_of p) (seat p s 0) r m) ≡ a
      made_by m is = ap (λ x. access_of (want_at (layout_of p) (seat p s 0) r x)) (sym is) ∙ ap access_of wants

      opened : opens p r.add.apic e ≡ (index_of l == 19)
      opened = by_open (index_of l == 19) refl
        where
          by_open : (b : Bool) → (index_of l == 19) ≡ b → opens p r.add.apic e ≡ b
          by_open true is =
              let label : l ≡ N7 = same_index l N7 here.part (eqb-true (index_of l) 19 is) in
              let store : Store gate 8 r.add.apic ≡ a = made_by N7 label in
              let now : is_at p N7 e ≡ true = seen N7 refl ∙ is in
              rw (now, sym store) (itself r.add.apic)
          by_open false is = let none : is_at p N7 e ≡ false = seen N7 refl ∙ is in rw none refl

      kept : (x : ℕ) → IsShared p x → Keeps x s.writes vs
      kept x = bits_row p s 0 (seat p s 0) l a x sound wants

      deeds : Deeds (layout_of p) s.writes vs (IsHome p s) (IsHome p t) (bound p (e ∷ es)) r l (value_in e.answer)
      deeds = record {
        flag_kept = kept_bit s.writes vs flag (kept flag (inl refl));
        arrived_kept = λ is. kept_bit s.writes vs y_add (kept y_add (arrived_shared (subst (λ m. is_among m adding ≡ true) (sym here.label) is)));
        flag_cleared = λ is. ap (λ c. byte_at (access_effect p 0 true c s).writes flag) (sym (made_by N1 is)) ∙ zero_here s.locks flag s.writes (reach_flag p s.locks sound stood.locks);
        arrived_cleared = λ is. ap (λ c. byte_at (access_effect p 0 true c s).writes y_add) (sym (made_by N0 is)) ∙ zero_here s.locks y_add s.writes (in_reach N0 is refl);
        cleared_again = λ is. ap (λ c. byte_at (access_effect p 0 true c s).writes y_add) (sym (made_by N10 is)) ∙ zero_here s.locks y_add s.writes (in_reach N10 is refl);
        looked_at = λ is. ap (λ c. byte_at (access_effect p 0 true c s).writes y_add) (sym (made_by N11 is));
        stays_home = λ is. carries (let label : r.label ≡ N11 = here.label ∙ is in rw label refl) r.add.cpu r.add.slot;
        flag_read = λ is. ap (λ c. value_in (answer_to true c s)) (sym (made_by N8a is)) ∙ read_here s.locks (byte_at s.writes) flag (reach_flag p s.locks sound stood.locks);
        pair_read = λ is. ap (λ c. value_in (answer_to true c s)) (sym (made_by N8b is)) ∙ read_here s.locks (byte_at s.writes) y_add (in_reach N8b is refl);
        arrived_read = λ is. ap (λ c. value_in (answer_to true c s)) (sym (made_by N11 is)) ∙ read_here s.locks (byte_at s.writes) y_add (in_reach N11 is refl);
        is_bound = bound_at l e here (seen N7 refl);
      }
        where
          in_reach : (m : Label) → l ≡ m → is_among m adding ≡ true → is_hole s.locks true y_add 1 ≡ false
          in_reach m is adds = reach_arrived p s.locks r.add.slot sound stood.locks (slot_small (subst (λ x. is_among x adding ≡ true) (sym (here.label ∙ is)) adds)).1

  shows_told : (o : Outcome) (g : Stage) → AtMonarch p s T → same_outcome o r.outcome ≡ true → Goes (entry_by s (Tell o)) (ends (led_on p s 0 T 0 s) g s.disturbed)
  shows_told o g here same carries = row_on T e s.writes (IsHome p t) (next_at (layout_of p) (seat p s 0) r T 0).monarch here refl (λ f. absurd cc) seen opened deeds refl
    where
      e : Entry
      e = entry_by s (Tell o)

      t : State
      t = ends (led_on p s 0 T 0 s) g s.disturbed

      seen : (m : Label) → handler_of m ≡ Monarchs → is_at p m e ≡ (index_of T == index_of m)
      seen m part = at_monarch p T m e (tile p 0) refl here.place part

      opened : opens p r.add.apic e ≡ false
      opened = let none = seen N7 refl in rw none refl

      deeds : Deeds (layout_of p) s.writes s.writes (IsHome p s) (IsHome p t) (bound p (e ∷ es)) r T 0
      deeds = record {
        flag_kept = λ b. b;
        arrived_kept = λ is b. b;
        flag_cleared = λ is. absurd cc;
        arrived_cleared = λ is. absurd cc;
        cleared_again = λ is. absurd cc;
        looked_at = λ is. absurd cc;
        stays_home = λ is. absurd cc;
        flag_read = λ is. absurd cc;
        pair_read = λ is. absurd cc;
        arrived_read = λ is. absurd cc;
        is_bound = bound_at T e here (seen N7 refl);
      }

  is_first : (k : ℕ) → k ≢ 0 → (k == 0) ≡ false
  is_first k n = grind (arith, nat_tests)

  still : (x : ℕ) → IsShared p x → Keeps x s.writes s.writes
  still x here = inl refl

  shows_outside : (k : ℕ) (a : Access) (g : Stage) → is_free (is_late p.delivery) (at s k) ≡ true → is_in_smm (at s k).mode ≡ false
      → Goes (record { event = Do k a; answer = answer_to false a s; at = smm_address (at s k) }) (ends (access_effect p k false a s) g (s.disturbed || (writes_block a && is_after_broadcast s.monarch.label)))
  shows_outside k a g free out carries = subst (λ u. Shown p (e ∷ es) (access_effect p k false a s).writes (IsHome p t) u) (sym (acts p k false a s).monarch) (by_zero (k == 0) refl)
    where
      e : Entry
      e = record { event = Do k a; answer = answer_to false a s; at = smm_address (at s k) }

      t : State
      t = ends (access_effect p k false a s) g (s.disturbed || (writes_block a && is_after_broadcast s.monarch.label))

      none : smm_address (at s k) ≡ None
      none = none_outside (at s k) out

      by_zero : (b : Bool) → (k == 0) ≡ b → Shown p (e ∷ es) (access_effect p k false a s).writes (IsHome p t) r
      by_zero true is = resting (e ∷ es) (access_effect p k false a s).writes (IsHome p t) (subst (λ i. smm_address (at s i) ≡ None) (eqb-true k 0 is) none)
      by_zero false is = unseen e (access_effect p k false a s).writes (IsHome p t) (λ m part. at_none p m e none) refl refl is (λ x here. bits_outside p s k a x sound stood.locks here)
          (λ looks one. inl (sym (same_outside p s k a y_add sound stood.locks (arrived_shared (adds_there r.label looks))) ∙ one)) carries

  shows_enters : (k : ℕ) (g : Stage) → may_take_smi (at s k) ≡ true → Goes (entry_by s (TakeSmi k)) (ends (with_session k (enter_smm k s)) g s.disturbed)
  shows_enters k g may = by_first (k == 0) refl
    where
      e : Entry
      e = entry_by s (TakeSmi k)

      present : (at s k).present ≡ true
      present = (and_parts (at s k).present ((at s k).smi && is_outside (at s k).mode) may).0

      to : Bool → State
      to b = ends (cond b (record (enter_smm k s) { monarch = restarted s.monarch }) (enter_smm k s)) g s.disturbed

      begins : (k == 0) ≡ true → Goes e (to true)
      begins is carries = ended e (enter_smm k s).writes (IsHome p (to true)) (restarted r) (let none : (m : Label) → is_at p m e ≡ false = λ m. at_none p m e (may_outside (at s k) may) in rw (none C1, none C2, none C3, none C4, none C5, none C6, is) refl) tt

      comes : (k == 0) ≡ false → Goes e (to false)
      comes is = unseen e (enter_smm k s).writes (IsHome p (to false)) (λ m part. at_none p m e (may_outside (at s k) may)) refl (rw is refl) refl (λ x here. bits_enters p s k x sound stood present here)
          (λ looks one. inl (sym (same_enters p s k y_add sound stood present (arrived_shared (adds_there r.label looks))) ∙ one))

      by_first : (b : Bool) → (k == 0) ≡ b → Goes e (ends (with_session k (enter_smm k s)) g s.disturbed)
      by_first true is = subst (λ b. Goes e (to b)) (sym is) (begins is)
      by_first false is = subst (λ b. Goes e (to b)) (sym is) (comes is)

  shows_other : (k : ℕ) (l : Label) (a : Access) (g : Stage) → AtOther p s k l → want_at (layout_of p) (seat p s k) r l ≡ Some (want.Do a)
      → Goes (record { event = Do k a; answer = answer_to true a s; at = smm_address (at s k) }) (ends (led_on p s k l (value_in (answer_to true a s)) (access_effect p k true a s)) g s.disturbed)
  shows_other k l a g here wants carries =
      subst (λ u. Shown p (e ∷ es) (access_effect p k true a s).writes (IsHome p t) u) (sym (next_other (layout_of p) (seat p s k) r l (value_in (answer_to true a s)) here.part))
      (unseen e (access_effect p k true a s).writes (IsHome p t) (λ m part. at_other p l m e k (at s k).smbase sound here.runs here.part here.place part) refl refl (is_first k here.other) (λ x place. bits_row p s k (seat p s k) l a x sound wants place)
      (λ looks. let label = is_one r.label N11 looks in let runs = runs_now label in lands p sound past s handed inv label (slot_small (adds_there r.label looks)).1 (bound p (before p es)) runs.grown runs.is_place k l a here wants) carries)
    where
      e : Entry
      e = record { event = Do k a; answer = answer_to true a s; at = smm_address (at s k) }

      t : State
      t = ends (led_on p s k l (value_in (answer_to true a s)) (access_effect p k true a s)) g s.disturbed

      runs_now : r.label ≡ N11 → RunsBy (trail_of p r.add.apic (own p es)).opened (bound p (before p es)) r
      runs_now label = (subst (AddAt (layout_of p) (trail_of p r.add.apic (own p es)) (bound p (before p es)) s.writes (IsHome p s) r) label h).0

  same_lands : is_among r.label (N11 ∷ []) ≡ true → byte_at s.writes y_add ≡ 1 → (byte_at s.writes y_add ≡ 1) ⊎ IsHome p s r.add.cpu r.add.slot
  same_lands is one = inl one

  kinds : Kinds p s Goes
  kinds = record {
    inserts = λ k g less gone. unseen (entry_by s (Insert k)) s.writes (IsHome p (ends (insert k s) g s.disturbed)) (λ m part. at_none p m (entry_by s (Insert k)) refl) refl refl refl still same_lands;
    removes = λ k g. unseen (entry_by s (Remove k)) s.writes (IsHome p (ends (request_removal k s) g s.disturbed)) (λ m part. at_none p m (entry_by s (Remove k)) refl) refl refl refl still same_lands;
    outside = shows_outside;
    monarchs = shows_row;
    others = shows_other;
    enters = shows_enters;
    inits = λ k g may. unseen (entry_by s (TakeInit k)) s.writes (IsHome p (ends (set_cpu k (take_init (at s k)) s) g s.disturbed)) (λ m part. at_none p m (entry_by s (TakeInit k)) (init_outside (at s k) may)) refl refl refl still same_lands;
    rests = λ g here carries. ended (entry_by s (Resume 0)) s.writes (IsHome p (ends (leave_smm 0 s) g s.disturbed)) r
        (let none : (m : Label) → handler_of m ≡ Monarchs → is_at p m (entry_by s (Resume 0)) ≡ (37 == index_of m) = λ m part. at_monarch p E7 m (entry_by s (Resume 0)) (tile p 0) refl here.place part in rw (none C1 refl, none C2 refl, none C3 refl, none C4 refl, none C5 refl, none C6 refl) refl)
        (subst (AddAt (layout_of p) no_trail (bound p (entry_by s (Resume 0) ∷ es)) s.writes (IsHome p (ends (leave_smm 0 s) g s.disturbed)) r) (sym here.label) tt);
    returns = λ k l g here where_is. unseen (entry_by s (Resume k)) s.writes (IsHome p (ends (leave_smm k s) g s.disturbed)) (λ m part. at_other p l m (entry_by s (Resume k)) k (at s k).smbase sound here.runs here.part here.place part) refl (let z = is_first k here.other in rw z refl) refl still same_lands;
    tells = shows_told;
  }

  pub shown_on : Ids p → (e : Entry) (t : State) → run_on p s e ≡ Some t → Shown p (e ∷ es) t.writes (IsHome p t) t.monarch
  shown_on ids e t is = by_kind p s Goes stood kinds e t is (stays_home p sound ids past s stood handed inv e t is)
