-- Over each kind of step: nobody leaves in the entries of an outcome but by an eject, while the session is undisturbed.
use Rattle.std.proofs.Common.{ℕ, ◌≡◌, ◌<◌, ◌==◌, ◌⊎◌, Bool, true, false, cond, not, ◌&&◌, ◌||◌, List, [], ◌∷◌, length, Some, None, refl, sym, ap, subst, ◌∙◌, arith, ◌++◌}
use Rattle.std.proofs.lemmas.Bool.{or_right, eqb-true}
use Rattle.hp_model.specs.declared.platforms.Platform.{Platform}
use Rattle.hp_model.specs.declared.processors.Cpu.{Cpu}
use Rattle.hp_model.specs.declared.accesses.Access.{Access}
use Rattle.hp_model.specs.declared.accesses.Want.TheVariants as want
use Rattle.hp_model.specs.declared.outcomes.Outcome.{Outcome}
use Rattle.hp_model.specs.declared.labels.Label.{Label}
use Rattle.hp_model.specs.declared.labels.Label.TheVariants.{F6, R5, S2, C3, C4, C6, NB, N0, N1, N2, N3, N4, N5, N6, N7, N8a, N8b, N9, N10, N11, E0, E1, E2, E3, E4a, E4b, E4f, E4g, T, E7}
use Rattle.hp_model.specs.declared.entries.Event.TheVariants.{Insert, Remove, Do, TakeSmi, TakeInit, Resume, Tell}
use Rattle.hp_model.specs.declared.entries.Entry.{Entry}
use Rattle.hp_model.specs.Platform.{count_of, tile, is_late, apic_of}
use Rattle.hp_model.specs.Cpu.{inserted, cpu_at, is_in_smm, is_free, smm_address, may_take_smi, take_smi, may_take_init, take_init, resumed}
use Rattle.hp_model.specs.Block.{Block, slot_at, Slot, block_write}
use Rattle.hp_model.specs.Boot.{Stage, value_in}
use Rattle.hp_model.specs.declared.labels.Handler.TheVariants.{Monarch as Monarchs}
use Rattle.hp_model.specs.Labels.{handler_of, index_of, same_label}
use Rattle.hp_model.specs.SharedBytes.{layout_of}
use Rattle.hp_model.specs.SaveArea.{saved_smbase, saved_rip}
use Rattle.hp_model.specs.Monarch.{Monarch, restarted, is_own}
use Rattle.hp_model.specs.Handlers.{Next, want_at, next_at}
use Rattle.hp_model.specs.State.{State, at, set_cpu}
use Rattle.hp_model.specs.Ports.{writes_block}
use Rattle.hp_model.specs.Access.{access_effect, answer_to}
use Rattle.hp_model.specs.Firmware.{seat, moved_in_smm, with_session, same_outcome}
use Rattle.hp_model.specs.Step.{insert, request_removal, enter_smm, leave_smm, is_after_broadcast}
use Rattle.hp_model.specs.Runs.{run_on}
use Rattle.hp_model.specs.Transitions.{Transition, entries_of}
use Rattle.hp_model.specs.Account.{is_at}
use Rattle.hp_model.specs.Sessions.{ends_outcome, is_disturbed}
use Rattle.hp_model.proofs.AtEach.{made}
use Rattle.hp_sealed.specs.Left.{Sound}
use Rattle.hp_sealed.proofs.Stay.{at_set}
use Rattle.hp_sealed.proofs.Outside.{acts}
use Rattle.hp_safety.proofs.Marked.{at_none, at_monarch, at_other}
use Rattle.hp_exact.proofs.Reports.{all_drop, all_last}
use Rattle.hp_exact.proofs.Naming.{is_own-is, Ids}
use Rattle.hp_exact.proofs.Rows.{reads_row, stays_row, reported_still, access_of, at_want, Unwritten, other_unwritten}
use Rattle.hp_model.specs.declared.reports.Report.{Report}
use Rattle.hp_exact.proofs.Stood.{IsStood}
use Rattle.hp_exact.proofs.Stepping.{AtMonarch, AtOther, Kinds, entry_by, ends, led_on, by_kind, is_other, still_clear, told_by}
use Rattle.hp_exact.proofs.Monarchs.{is_among, adding, ejecting, next_other}
use Rattle.hp_exact.proofs.Agreeing.{block_kept, present_kept}
use Rattle.hp_exact.proofs.Reporting.{no_more, all_drop_last}
use Rattle.hp_exact.proofs.CalledIn.{was_quiet, not_broadcast, present_set}
use Rattle.hp_exact.proofs.InSmm.{none_outside, present_go, init_outside}
use Rattle.hp_exact.proofs.Reading.{select_is, read_status}
use Rattle.hp_exact.proofs.Losing.{Deeds, losses_row}
use Rattle.hp_exact.proofs.Losses.{pending, is_keeping, Losses}
use Rattle.hp_model.proofs.Same.{same_outcome-equal}
use Rattle.hp_model.specs.Outcomes.{own_of, when_told, departures, may_lose, is_none, loses_none}
use Rattle.hp_model.specs.Events.{outcome_in}
use Rattle.std.specs.Prelude.{bit_and}
use Rattle.hp_exact.proofs.Invariant.{is_reporting, is_there, Reported, last_read, Undisturbed, Invariant}
use Rattle.hp_exact.proofs.OwnEntries.{adding_goes, anew_row, by_label, elsewhere, is_collects, own_more, own_none, waiting_goes}
use Rattle.hp_exact.proofs.Departures.{kept_more}
use Rattle.hp_exact.proofs.EjectedSlots.{eject_is, slot_same, status_calm}
use Rattle.hp_safety.proofs.Entering.{may_outside}

waiting_pending : (l : Label) → is_among l (E0 ∷ E1 ∷ E2 ∷ E3 ∷ E4a ∷ []) ≡ true → (is_after_broadcast l ≡ true) × (is_among l pending ≡ true) × (is_among l (E4b ∷ []) ≡ false)
waiting_pending E0 e = (refl, refl, refl)
waiting_pending E1 e = (refl, refl, refl)
waiting_pending E2 e = (refl, refl, refl)
waiting_pending E3 e = (refl, refl, refl)
waiting_pending E4a e = (refl, refl, refl)
waiting_pending _ e = absurd cc

adding_called : (l : Label) → is_among l adding ≡ true → (is_after_broadcast l ≡ true) × (is_among l (E4b ∷ []) ≡ false)
adding_called NB e = (refl, refl)
adding_called N0 e = (refl, refl)
adding_called N1 e = (refl, refl)
adding_called N2 e = (refl, refl)
adding_called N3 e = (refl, refl)
adding_called N4 e = (refl, refl)
adding_called N5 e = (refl, refl)
adding_called N6 e = (refl, refl)
adding_called N7 e = (refl, refl)
adding_called N8a e = (refl, refl)
adding_called N8b e = (refl, refl)
adding_called N9 e = (refl, refl)
adding_called N10 e = (refl, refl)
adding_called N11 e = (refl, refl)
adding_called _ e = absurd cc

reports_called : (l : Label) → is_among l (C3 ∷ C4 ∷ T ∷ []) ≡ true → (is_after_broadcast l ≡ true) × (is_reporting l ≡ true) × (is_among l (E4b ∷ []) ≡ false)
reports_called C3 e = (refl, refl, refl)
reports_called C4 e = (refl, refl, refl)
reports_called T e = (refl, refl, refl)
reports_called _ e = absurd cc

module _ (p : Platform) (fit : Sound p) (ids : Ids p) (past : List Transition) (s : State) (standing : IsStood p s) (h : Invariant p past s)
    (lost : is_after_broadcast s.monarch.label ≡ true → s.disturbed ≡ false → Losses p (own_of p past) s.block s.cpus s.monarch) where
  abbrev Follows : Entry → State → Type 0
  Follows e t = is_after_broadcast t.monarch.label ≡ true → t.disturbed ≡ false → Losses p (own_of p (made s e t ∷ past)) t.block t.cpus t.monarch

  -- steps of others, and of the host
  same_losses : (e : Entry) (t : State) → ends_outcome p e ≡ false → ((k : ℕ) → (at s k).present ≡ true → (at t k).present ≡ true) → ((k : ℕ) → (slot_at t.block k).ejecting ≡ (slot_at s.block k).ejecting) → t.block.selector ≡ s.block.selector
      → is_after_broadcast s.monarch.label ≡ true → s.disturbed ≡ false → Losses p (own_of p (made s e t ∷ past)) t.block t.cpus s.monarch
  same_losses e t goes stays slots selector after quiet =
      let x = lost after quiet in
      record {
        waits = λ f. stays s.monarch.eject.cpu (x.waits f);
        other = x.other;
        cleared = λ f. slots s.monarch.eject.cpu ∙ x.cleared f;
        looked = λ f. selector ∙ x.looked f;
        never = x.never;
        tame = x.tame;
        kept = λ f. subst (λ own. is_none (departures p own) ≡ true) (sym (own_more p (made s e t) past goes)) (kept_more p (made s e t) (own_of p past) stays (x.kept f));
      }

  inserts : (k : ℕ) (g : Stage) → k < count_of p → (at s k).present ≡ false → Follows (entry_by s (Insert k)) (ends (insert k s) g s.disturbed)
  inserts k g less gone =
      same_losses (entry_by s (Insert k)) (ends (insert k s) g s.disturbed) (elsewhere p (entry_by s (Insert k)) (λ m part. at_none p m (entry_by s (Insert k)) refl) refl refl)
      (λ j e. at_set (λ c d. c.present ≡ true → d.present ≡ true) s.cpus k inserted (λ _ f. f) (λ f. refl) j e) (λ j. slot_same (λ (t : Slot). t.ejecting) s.block.slots k j (record (slot_at s.block k) { enabled = true; inserting = true }) refl) refl

  removes : (k : ℕ) (g : Stage) → Follows (entry_by s (Remove k)) (ends (request_removal k s) g s.disturbed)
  removes k g =
      same_losses (entry_by s (Remove k)) (ends (request_removal k s) g s.disturbed) (elsewhere p (entry_by s (Remove k)) (λ m part. at_none p m (entry_by s (Remove k)) refl) refl refl)
      (λ j e. e) (λ j. slot_same (λ (t : Slot). t.ejecting) s.block.slots k j (record (slot_at s.block k) { removing = true }) refl) refl

  outside : (k : ℕ) (a : Access) (g : Stage) → is_free (is_late p.delivery) (at s k) ≡ true → is_in_smm (at s k).mode ≡ false
      → Follows (record { event = Do k a; answer = answer_to false a s; at = smm_address (at s k) }) (ends (access_effect p k false a s) g (s.disturbed || (writes_block a && is_after_broadcast s.monarch.label)))
  outside k a g free out after quiet =
      let same : (access_effect p k false a s).monarch ≡ s.monarch = (acts p k false a s).monarch in
      let after_s : is_after_broadcast s.monarch.label ≡ true = subst (λ (r : Monarch). is_after_broadcast r.label ≡ true) same after in
      let both = still_clear s.disturbed (writes_block a) (is_after_broadcast s.monarch.label) after_s quiet in
      let block = block_kept p k false a s both.1 in
      subst (λ r. Losses p (own_of p (made s e t ∷ past)) t.block t.cpus r) (sym same)
      (same_losses e t (elsewhere p e (λ m part. at_none p m e (none_outside (at s k) out)) refl refl) (λ j f. present_kept p k false a s j both.1 ∙ f) (λ j. ap (λ (b : Block). (slot_at b j).ejecting) block) (ap (λ (b : Block). b.selector) block) after_s both.0)
    where
      e : Entry
      e = record { event = Do k a; answer = answer_to false a s; at = smm_address (at s k) }

      t : State
      t = ends (access_effect p k false a s) g (s.disturbed || (writes_block a && is_after_broadcast s.monarch.label))

  others : (k : ℕ) (l : Label) (a : Access) (g : Stage) → AtOther p s k l → want_at (layout_of p) (seat p s k) s.monarch l ≡ Some (want.Do a)
      → Follows (record { event = Do k a; answer = answer_to true a s; at = smm_address (at s k) }) (ends (led_on p s k l (value_in (answer_to true a s)) (access_effect p k true a s)) g s.disturbed)
  others k l a g here wants after quiet =
      let same : t.monarch ≡ s.monarch = next_other (layout_of p) (seat p s k) s.monarch l (value_in (answer_to true a s)) here.part in
      let after_s : is_after_broadcast s.monarch.label ≡ true = subst (λ (r : Monarch). is_after_broadcast r.label ≡ true) same after in
      let calm : writes_block a ≡ false = subst Unwritten wants (other_unwritten p s k l here.part) in
      let block = block_kept p k true a s calm in
      subst (λ r. Losses p (own_of p (made s e t ∷ past)) t.block t.cpus r) (sym same)
      (same_losses e t (elsewhere p e (λ m part. at_other p l m e k (at s k).smbase fit here.runs here.part here.place part) refl refl)
      (λ j f. at_set (λ c d. d.present ≡ c.present) u.cpus k d (λ _. refl) (present_go (at s k).smbase n (at u k)) j ∙ (present_kept p k true a s j calm ∙ f)) (λ j. ap (λ (b : Block). (slot_at b j).ejecting) block) (ap (λ (b : Block). b.selector) block) after_s quiet)
    where
      e : Entry
      e = record { event = Do k a; answer = answer_to true a s; at = smm_address (at s k) }

      u : State
      u = access_effect p k true a s

      n : Next
      n = next_at (layout_of p) (seat p s k) s.monarch l (value_in (answer_to true a s))

      d : Cpu
      d = moved_in_smm (at s k).smbase n (at u k)

      t : State
      t = ends (led_on p s k l (value_in (answer_to true a s)) u) g s.disturbed

  inits : (k : ℕ) (g : Stage) → may_take_init (at s k) ≡ true → Follows (entry_by s (TakeInit k)) (ends (set_cpu k (take_init (at s k)) s) g s.disturbed)
  inits k g may =
      same_losses (entry_by s (TakeInit k)) (ends (set_cpu k (take_init (at s k)) s) g s.disturbed) (elsewhere p (entry_by s (TakeInit k)) (λ m part. at_none p m (entry_by s (TakeInit k)) (init_outside (at s k) may)) refl refl)
      (present_set p fit ids past s standing h k (take_init (at s k)) refl) (λ j. refl) refl

  returns : (k : ℕ) (l : Label) (g : Stage) → AtOther p s k l → (l ≡ F6) ⊎ (l ≡ R5) → Follows (entry_by s (Resume k)) (ends (leave_smm k s) g s.disturbed)
  returns k l g here where_is =
      same_losses (entry_by s (Resume k)) (ends (leave_smm k s) g s.disturbed) (elsewhere p (entry_by s (Resume k)) (λ m part. at_other p l m (entry_by s (Resume k)) k (at s k).smbase fit here.runs here.part here.place part) refl (is_other k here.other))
      (present_set p fit ids past s standing h k (resumed (saved_smbase s.locks s.writes (at s k)) (saved_rip s.locks s.writes (at s k)) (at s k)) refl) (λ j. refl) refl

  rests : (g : Stage) → AtMonarch p s E7 → Follows (entry_by s (Resume 0)) (ends (leave_smm 0 s) g s.disturbed)
  rests g here after quiet = no_more (is_after_broadcast s.monarch.label) (let label = here.label in rw label refl) after

  enters : (k : ℕ) (g : Stage) → may_take_smi (at s k) ≡ true → Follows (entry_by s (TakeSmi k)) (ends (with_session k (enter_smm k s)) g s.disturbed)
  enters k g may = by_first (k == 0) refl
    where
      e : Entry
      e = entry_by s (TakeSmi k)

      to : Bool → State
      to b = ends (cond b (record (enter_smm k s) { monarch = restarted s.monarch }) (enter_smm k s)) g s.disturbed

      out : smm_address (at s k) ≡ None
      out = may_outside (at s k) may

      begins : Follows e (to true)
      begins after quiet = absurd cc

      comes : (k == 0) ≡ false → Follows e (to false)
      comes is = same_losses e (to false) (elsewhere p e (λ m part. at_none p m e out) refl (let z = is in rw z refl)) (present_set p fit ids past s standing h k (take_smi (at s k)) refl) (λ j. refl) refl

      by_first : (b : Bool) → (k == 0) ≡ b → Follows e (ends (with_session k (enter_smm k s)) g s.disturbed)
      by_first true is = subst (λ b. Follows e (to b)) (sym is) begins
      by_first false is = subst (λ b. Follows e (to b)) (sym is) (comes is)

  -- a row of the monarch's
  monarchs : (l : Label) (a : Access) (g : Stage) → AtMonarch p s l → want_at (layout_of p) (seat p s 0) s.monarch l ≡ Some (want.Do a)
      → Follows (record { event = Do 0 a; answer = answer_to true a s; at = smm_address (at s 0) }) (ends (led_on p s 0 l (value_in (answer_to true a s)) (access_effect p 0 true a s)) g (not (same_label l S2) && s.disturbed))
  unfolding access_of
  monarchs l a g here wants after quiet =
      losses_row p (own_of p past) (own_of p (made s e t ∷ past)) s.block u.block s.cpus t.cpus (seat p s 0) s.monarch v
      (λ was. lost was (was_quiet p fit ids past s standing h l (not_broadcast p fit ids past s standing h l (subst (λ m. is_after_broadcast m ≡ true) here.label was)) quiet)) l here.part here.label deeds after
    where
      v : ℕ
      v = value_in (answer_to true a s)

      e : Entry
      e = record { event = Do 0 a; answer = answer_to true a s; at = smm_address (at s 0) }

      u : State
      u = access_effect p 0 true a s

      n : Next
      n = next_at (layout_of p) (seat p s 0) s.monarch l v

      d : Cpu
      d = moved_in_smm (at s 0).smbase n (at u 0)

      t : State
      t = ends (led_on p s 0 l v u) g (not (same_label l S2) && s.disturbed)

      seen : (m : Label) → handler_of m ≡ Monarchs → is_at p m e ≡ (index_of l == index_of m)
      seen m part = at_monarch p l m e (tile p 0) refl here.place part

      goes : ends_outcome p e ≡ (is_collects l || false)
      goes = by_label p e l seen refl refl

      -- the label's facts, of the record's label
      of_label : (F : Label → Type 0) → F l → F s.monarch.label
      of_label F f = subst F (sym here.label) f

      was : is_after_broadcast l ≡ true → s.disturbed ≡ false
      was f = was_quiet p fit ids past s standing h l (not_broadcast p fit ids past s standing h l f) quiet

      x : is_after_broadcast l ≡ true → Losses p (own_of p past) s.block s.cpus s.monarch
      x f = lost (of_label (λ m. is_after_broadcast m ≡ true) f) (was f)

      y : is_after_broadcast l ≡ true → Undisturbed p s.block s.cpus (last_read p past) s.monarch
      y f = h.undisturbed (of_label (λ m. is_after_broadcast m ≡ true) f) (was f)

      stays : is_among l (E4b ∷ []) ≡ false → (k : ℕ) → (at s k).present ≡ true → (cpu_at t.cpus k).present ≡ true
      stays other k f = at_set (λ c d. d.present ≡ c.present) u.cpus 0 d (λ _. refl) (present_go (at s 0).smbase n (at u 0)) k ∙ stays_row p s l a wants k (λ is. absurd (let g : is_among l (E4b ∷ []) ≡ true = rw is refl in let both : true ≡ false = sym g ∙ other in cc)) f

      more : (is_collects l || false) ≡ false → is_among l (E4b ∷ []) ≡ false → is_none (departures p (own_of p past)) ≡ true → is_none (departures p (own_of p (made s e t ∷ past))) ≡ true
      more f other none = subst (λ own. is_none (departures p own) ≡ true) (sym (own_more p (made s e t) past (goes ∙ f))) (kept_more p (made s e t) (own_of p past) (stays other) none)

      reported : is_after_broadcast l ≡ true → is_among l (E4b ∷ []) ≡ false → Reported p t.cpus s.monarch
      reported f other = reported_still p s.cpus t.cpus s.monarch (λ k _ g. stays other k g) (y f).reported

      less : is_after_broadcast l ≡ true → is_among l ejecting ≡ true → s.block.selector ≡ s.monarch.eject.cpu → s.block.selector < length s.block.slots
      less f mine is = let small = (y f).reported.possible (of_label (λ m. is_among m ejecting ≡ true) mine) in let k = h.agrees.slots in omega (arith, small, k, is)

      named : (k : ℕ) → l ≡ C6 → bit_and s.monarch.collection.status 1 ≡ k → (not (k == 1) || (cpu_at t.cpus s.monarch.collection.cpu).present) ≡ true
      named k is f = by_one (k == 1) refl
        where
          by_one : (c : Bool) → (k == 1) ≡ c → (not c || (cpu_at t.cpus s.monarch.collection.cpu).present) ≡ true
          by_one true z = (reported (rw is refl) (rw is refl)).next (rw (here.label ∙ is) refl) (f ∙ eqb-true k 1 z)
          by_one false z = refl

      names : l ≡ C6 → v ≡ apic_of p s.monarch.collection.cpu
      names is = (reads_row p s past (made s e t) l a fit here wants h.modern h.agrees h.ordered (λ f. h.undisturbed f (was (rw is refl))) refl (seen C4 refl)).names is

      deeds : Deeds p (own_of p past) (own_of p (made s e t ∷ past)) u.block t.cpus s.monarch l v
      deeds = record {
        stays = λ f none. more (adding_goes l f) (adding_called l f).1 none;
        waits = λ f none. more (waiting_goes l f) (waiting_pending l f).2 none;
        anew = λ f. subst (λ own. is_none (departures p own) ≡ true) (sym (own_none p (made s e t) past (goes ∙ anew_row p s l a wants f))) refl;
        there = λ f. let c = reports_called l f in (reported c.0 c.2).there (of_label (λ m. is_reporting m ≡ true) c.1);
        owned = λ f. let c = reports_called l f in all_drop (is_own p.apic) s.monarch.taken s.monarch.collection.reports ((y c.0).reported.own (of_label (λ m. is_reporting m ≡ true) c.1));
        owns = λ is.
            let f : is_after_broadcast l ≡ true = rw is refl in
            let r = (y f).reported in
            let made_report : Report = record { cpu = s.monarch.collection.cpu; status = s.monarch.collection.status; apic = v } in
            all_drop (is_own p.apic) s.monarch.taken (s.monarch.collection.reports ++ made_report ∷ []) (all_last (is_own p.apic) s.monarch.collection.reports made_report (r.own (rw (here.label ∙ is) refl)) (is_own-is p made_report (r.other (rw (here.label ∙ is) refl)) (h.ordered.possible (rw (here.label ∙ is) refl)) (sym (names is))));
        reports = λ is. all_drop_last (is_there t.cpus) s.monarch.taken s.monarch.collection.reports (record { cpu = s.monarch.collection.cpu; status = s.monarch.collection.status; apic = v }) ((reported (rw is refl) (rw is refl)).there (rw (here.label ∙ is) refl)) (named (bit_and s.monarch.collection.status 1) is refl);
        present = λ f. let c = waiting_pending l f in stays c.2 s.monarch.eject.cpu ((x c.0).waits (of_label (λ m. is_among m pending ≡ true) c.1));
        hands = λ is.
            let f : is_after_broadcast l ≡ true = rw is refl in
            let chosen = (y f).chosen.handed (rw (here.label ∙ is) refl) in
            let there = (x f).waits (rw (here.label ∙ is) refl) in
            let enabled : (slot_at s.block s.block.selector).enabled ≡ true = ap (λ k. (slot_at s.block k).enabled) chosen ∙ (h.agrees.enabled s.monarch.eject.cpu ∙ there) in
            at_want p s (λ a. (slot_at (access_effect p 0 true a s).block s.monarch.eject.cpu).ejecting ≡ false) l E4b a is wants
            (subst (λ k. (slot_at (block_write s.block 4 1 8) k).ejecting ≡ false) chosen (eject_is s.block h.modern (less f (rw is refl) chosen) (λ z. (x f).other (rw (here.label ∙ is) refl) (sym chosen ∙ z)) enabled));
        looks = λ is.
            let f : is_after_broadcast l ≡ true = rw is refl in
            let small = (y f).reported.possible (rw (here.label ∙ is) refl) in
            let few = fit.few in
            let clear = (x f).cleared (rw (here.label ∙ is) refl) in
            let modern = h.modern in
            at_want p s (λ a. ((access_effect p 0 true a s).block.selector ≡ s.monarch.eject.cpu) × ((slot_at (access_effect p 0 true a s).block s.monarch.eject.cpu).ejecting ≡ false)) l E4f a is wants
            (select_is s.block s.monarch.eject.cpu h.modern (omega (arith, few, small)), rw modern clear);
        sees = λ is.
            let f : is_after_broadcast l ≡ true = rw is refl in
            let looked = (x f).looked (rw (here.label ∙ is) refl) in
            let clear = (x f).cleared (rw (here.label ∙ is) refl) in
            at_want p s (λ a. (bit_and (value_in (answer_to true a s)) 0x10 == 0x10) ≡ false) l E4g a is wants
            (rw (read_status s.block h.modern (less f (rw is refl) looked), looked) (status_calm (slot_at s.block s.monarch.eject.cpu) clear));
      }

  -- an outcome is told
  tells_it : (o : Outcome) (g : Stage) → AtMonarch p s T → same_outcome o s.monarch.outcome ≡ true → Follows (entry_by s (Tell o)) (ends (led_on p s 0 T 0 s) g s.disturbed)
  tells_it o g here same after quiet =
      losses_row p (own_of p past) (own_of p (made s e t ∷ past)) s.block s.block s.cpus t.cpus (seat p s 0) s.monarch 0 (λ was. lost was quiet) T here.part here.label
      (record {
        stays = λ f. absurd cc;
        waits = λ f. absurd cc;
        anew = λ f. subst (λ own. is_none (departures p own) ≡ true) (sym (own_none p (made s e t) past refl)) refl;
        there = λ f. (reported_still p s.cpus t.cpus s.monarch (λ k _ z. present_set p fit ids past s standing h 0 d (present_go (at s 0).smbase n (at s 0)) k z) (h.undisturbed (rw here.label refl) quiet).reported).there (rw here.label refl);
        owned = λ f. all_drop (is_own p.apic) s.monarch.taken s.monarch.collection.reports ((h.undisturbed (rw here.label refl) quiet).reported.own (rw here.label refl));
        owns = λ is. absurd cc;
        reports = λ is. absurd cc;
        present = λ f. absurd cc;
        hands = λ is. absurd cc;
        looks = λ is. absurd cc;
        sees = λ is. absurd cc;
      }) after
    where
      e : Entry
      e = entry_by s (Tell o)

      n : Next
      n = next_at (layout_of p) (seat p s 0) s.monarch T 0

      d : Cpu
      d = moved_in_smm (at s 0).smbase n (at s 0)

      t : State
      t = ends (led_on p s 0 T 0 s) g s.disturbed

  kinds : Kinds p s Follows
  kinds = record {
    inserts = inserts;
    removes = removes;
    outside = outside;
    monarchs = monarchs;
    others = others;
    enters = enters;
    inits = inits;
    rests = rests;
    returns = returns;
    tells = tells_it;
  }

  pub losses_go : (e : Entry) (t : State) → run_on p s e ≡ Some t → Follows e t
  losses_go e t is = by_kind p s Follows standing kinds e t is

  -- what is told

  told_test : (o : Outcome) → AtMonarch p s T → same_outcome o s.monarch.outcome ≡ true → (may_lose o || (is_disturbed p (entries_of past) || is_none (departures p (own_of p past)))) ≡ true
  told_test o here same = subst (λ w. (may_lose w || (is_disturbed p (entries_of past) || is_none (departures p (own_of p past)))) ≡ true) (sym (same_outcome-equal o s.monarch.outcome same)) (by_flag s.disturbed refl)
    where
      after : is_after_broadcast s.monarch.label ≡ true
      after = let label = here.label in rw label refl

      flag : is_disturbed p (entries_of past) ≡ s.disturbed
      flag = (h.tied.called after).2

      by_flag : (b : Bool) → s.disturbed ≡ b → (may_lose s.monarch.outcome || (is_disturbed p (entries_of past) || is_none (departures p (own_of p past)))) ≡ true
      by_flag true is = or_right (may_lose s.monarch.outcome) _ (let f = flag ∙ is in rw f refl)
      by_flag false is = by_outcome (may_lose s.monarch.outcome) refl
        where
          by_outcome : (c : Bool) → may_lose s.monarch.outcome ≡ c → (c || (is_disturbed p (entries_of past) || is_none (departures p (own_of p past)))) ≡ true
          by_outcome true z = refl
          by_outcome false z = or_right (is_disturbed p (entries_of past)) (is_none (departures p (own_of p past))) ((lost after is).kept (keeping (let label = here.label in rw (label, z) refl)))
            where
              keeping : is_keeping s.monarch ≡ true → is_keeping s.monarch ≡ true
              keeping f = f

  pub lost_after : (e : Entry) (t : State) → run_on p s e ≡ Some t → when_told p (loses_none p) past s (outcome_in e.event) ≡ true
  lost_after e t is = told_by p (loses_none p) past s standing told_test e t is
