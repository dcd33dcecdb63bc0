-- Host events, accesses from outside SMM, INIT, RSM, SMI entry and other handlers' rows keep all parts.
use Rattle.std.proofs.Common.{ℕ, ◌≡◌, ◌≢◌, ◌<◌, ◌==◌, ◌⊎◌, inl, inr, Bool, true, false, cond, not, ◌&&◌, ◌||◌, List, ◌∷◌, slice_set, Some, None, refl, sym, ap, subst, ◌∙◌, if◌then◌else◌, get_or-set_other}
use Rattle.std.proofs.lemmas.Bool.{and_parts, eqb-true, cases_eq}
use Rattle.hp_model.specs.declared.platforms.Platform.{Platform}
use Rattle.hp_model.specs.declared.processors.Cpu.{Cpu}
use Rattle.hp_model.specs.declared.accesses.Access.{Access}
use Rattle.hp_model.specs.declared.accesses.Want.TheVariants as want
use Rattle.hp_model.specs.declared.labels.Label.{Label}
use Rattle.hp_model.specs.declared.labels.Label.TheVariants.{F6, R5, C4, E7}
use Rattle.hp_model.specs.declared.entries.Event.TheVariants.{Insert, Remove, Do, TakeSmi, TakeInit, Resume}
use Rattle.hp_model.specs.declared.entries.Entry.{Entry}
use Rattle.hp_model.specs.Platform.{count_of, is_late}
use Rattle.hp_model.specs.Memory.{Write}
use Rattle.hp_model.specs.Cpu.{absent, inserted, cpu_at, is_waiting, is_outside, is_in_smm, is_free, smm_address, may_take_smi, take_smi, may_take_init, take_init, resumed, moved}
use Rattle.hp_model.specs.Block.{Block}
use Rattle.hp_model.specs.Boot.{Stage, value_in}
use Rattle.hp_model.specs.declared.labels.Handler.TheVariants.{Monarch as Monarchs}
use Rattle.hp_model.specs.Labels.{handler_of}
use Rattle.hp_model.specs.SharedBytes.{layout_of}
use Rattle.hp_model.specs.SaveArea.{saved_smbase, saved_rip}
use Rattle.hp_model.specs.Monarch.{restarted}
use Rattle.hp_model.specs.Handlers.{Next, want_at, next_at, address_of_label}
use Rattle.hp_model.specs.State.{State, at, set_cpu}
use Rattle.hp_model.specs.Ports.{writes_block}
use Rattle.hp_model.specs.Access.{stands_in_smm, access_effect, answer_to}
use Rattle.hp_model.specs.Firmware.{seat, moved_in_smm, with_session}
use Rattle.hp_model.specs.Step.{insert, request_removal, enter_smm, leave_smm, is_after_broadcast}
use Rattle.hp_model.specs.Transitions.{Transition, entries_of}
use Rattle.hp_model.specs.Account.{is_at}
use Rattle.hp_model.specs.Sessions.{bounds_session, interferes}
use Rattle.hp_model.proofs.AtEach.{made}
use Rattle.hp_sealed.specs.Left.{Sound}
use Rattle.hp_sealed.proofs.Left.{pick}
use Rattle.hp_sealed.proofs.Stay.{at_set}
use Rattle.hp_sealed.proofs.Outside.{acts}
use Rattle.hp_safety.proofs.Marked.{at_none, at_other}
use Rattle.hp_exact.proofs.Stood.{IsStood}
use Rattle.hp_exact.proofs.Stepping.{AtMonarch, AtOther, entry_by, ends, led_on, is_other, still_clear}
use Rattle.hp_exact.proofs.Account.{Account, account, account_more, account_bound}
use Rattle.hp_exact.proofs.Monarchs.{is_among, next_other}
use Rattle.hp_exact.proofs.Naming.{Ids}
use Rattle.hp_exact.proofs.Ordering.{ordered_begun}
use Rattle.hp_exact.proofs.Tying.{account_other, tied_begun, tied_ended, tied_other}
use Rattle.hp_exact.proofs.Releasing.{released_other, released_outside, released_enters}
use Rattle.hp_exact.proofs.Hits.{Alike, AllAlike, row_alike}
use Rattle.hp_exact.proofs.OthersLatched.{aside, latched_other, latched_insert, latched_enters, latched_init, latched_returns, latched_rests, latched_outside}
use Rattle.hp_exact.proofs.Agreeing.{agrees_set, agrees_acted, modern_acted, agrees_insert, agrees_removal, block_kept, present_kept}
use Rattle.hp_exact.proofs.Reporting.{no_more}
use Rattle.hp_exact.proofs.Rows.{newest_past, reported_still, Unwritten, other_unwritten}
use Rattle.hp_exact.proofs.Waking.{waking, IsWoken, waking_adds, waking_called}
use Rattle.hp_exact.proofs.Invariant.{Released, Latched, is_calling, Agrees, Chosen, last_read, Undisturbed, Wakes, Parts, Invariant}
use Rattle.hp_exact.proofs.InSmm.{address_alike, none_outside, present_go, init_outside}
use Rattle.hp_safety.proofs.Entering.{may_outside}
use Rattle.hp_exact.proofs.CalledIn.{first_present, no_access, no_init, present_set, running_add, waking_calls}

module _ (p : Platform) (sound : Sound p) (ids : Ids p) (past : List Transition) (s : State) (stood : IsStood p s) (h : Invariant p past s) where
  abbrev Follows : Entry → State → Type 0
  Follows e t = Invariant p (made s e t ∷ past) t

  -- entries that the session's account doesn't see
  unseen_keeps : (e : Entry) (t : State) → ((m : Label) → handler_of m ≡ Monarchs → is_at p m e ≡ false) → bounds_session e ≡ false → interferes e ≡ false
      → Parts p (account p (entries_of past)) (last_read p past) t.block t.cpus t.writes t.monarch t.disturbed → Follows e t
  unseen_keeps e t unseen within calm parts =
      let told : account p (e ∷ entries_of past) ≡ account p (entries_of past) = account_more p e (entries_of past) within ∙ (account_other p e (account p (entries_of past)) unseen ∙ rw calm refl) in
      let last : last_read p (made s e t ∷ past) ≡ last_read p past = newest_past (λ x. is_at p C4 x.entry) (made s e t) past (unseen C4 refl) in
      subst (λ a. Parts p a (last_read p (made s e t ∷ past)) t.block t.cpus t.writes t.monarch t.disturbed) (sym told)
      (subst (λ o. Parts p (account p (entries_of past)) o t.block t.cpus t.writes t.monarch t.disturbed) (sym last) parts)

  -- the record and the flag stay
  parts_same : (b : Block) (cs : List Cpu) (ws : List Write) → (smm_address (cpu_at cs 0) ≡ None → is_after_broadcast s.monarch.label ≡ false) → b.modern ≡ true → Agrees p b cs → Released p s.monarch ws → Latched (is_calling p s.monarch) cs
      → b.selector ≡ s.block.selector → b.command ≡ s.block.command → ((k : ℕ) → (at s k).present ≡ true → (cpu_at cs k).present ≡ true) → (is_late p.delivery ≡ false → Wakes s.monarch cs)
      → Parts p (account p (entries_of past)) (last_read p past) b cs ws s.monarch s.disturbed
  parts_same b cs ws rests modern agrees released latched selector command here wakes = record {
    rests = rests;
    ordered = h.ordered;
    tied = h.tied;
    modern = modern;
    agrees = agrees;
    released = released;
    latched = latched;
    calm = h.calm;
    undisturbed = λ after quiet. clear_same (h.undisturbed after quiet);
    wakes = wakes;
  }
    where
      clear_same : Undisturbed p s.block s.cpus (last_read p past) s.monarch → Undisturbed p b cs (last_read p past) s.monarch
      clear_same u = record {
        chosen = record {
          selected = λ e. selector ∙ u.chosen.selected e;
          searched = λ e. let g = u.chosen.searched e in (command ∙ g.0, subst (λ n. n < count_of p) (sym selector) g.1);
          asked = λ e. command ∙ u.chosen.asked e;
          handed = λ e. selector ∙ u.chosen.handed e;
        };
        reported = reported_still p s.cpus cs s.monarch (λ k _ e. here k e) u.reported;
        read = u.read;
      }

  -- host events
  pub keeps_insert : (k : ℕ) (g : Stage) → k < count_of p → (at s k).present ≡ false → Follows (entry_by s (Insert k)) (ends (insert k s) g s.disturbed)
  keeps_insert k g less gone =
      unseen_keeps (entry_by s (Insert k)) (ends (insert k s) g s.disturbed) (λ m part. at_none p m (entry_by s (Insert k)) refl) refl refl
      (parts_same _ (slice_set s.cpus k inserted) s.writes
      (λ e. h.rests (subst (λ (c : Cpu). smm_address c ≡ None) (get_or-set_other s.cpus k 0 inserted absent (λ z. other (sym z))) e)) h.modern (agrees_insert p s.block s.cpus k less other h.agrees) h.released
      (latched_insert (is_calling p s.monarch) s.cpus k h.latched) refl refl
      (λ j e. at_set (λ c d. c.present ≡ true → d.present ≡ true) s.cpus k inserted (λ _ f. f) (λ f. refl) j e)
      (λ prompt e. subst IsWoken (sym (get_or-set_other s.cpus k s.monarch.add.cpu inserted absent (aside_add prompt e))) (h.wakes prompt e)))
    where
      other : k ≢ 0
      other z = let there : (at s k).present ≡ true = subst (λ i. (at s i).present ≡ true) (sym z) (first_present p sound ids past s stood h) in let both : true ≡ false = sym there ∙ gone in cc

      aside_add : is_late p.delivery ≡ false → is_among s.monarch.label waking ≡ true → s.monarch.add.cpu ≢ k
      aside_add prompt e z =
          let there = (running_add p sound ids past s stood h prompt e).adds (waking_adds s.monarch.label e) in
          let same : (at s k).present ≡ true = subst (λ i. (at s i).present ≡ true) z there in
          let both : true ≡ false = sym same ∙ gone in cc

  pub keeps_removal : (k : ℕ) (g : Stage) → Follows (entry_by s (Remove k)) (ends (request_removal k s) g s.disturbed)
  keeps_removal k g =
      unseen_keeps (entry_by s (Remove k)) (ends (request_removal k s) g s.disturbed) (λ m part. at_none p m (entry_by s (Remove k)) refl) refl refl
      (parts_same _ s.cpus s.writes h.rests h.modern (agrees_removal p s.block s.cpus k h.agrees) h.released h.latched refl refl (λ j e. e) h.wakes)

  -- INIT
  pub keeps_init : (k : ℕ) (g : Stage) → may_take_init (at s k) ≡ true → Follows (entry_by s (TakeInit k)) (ends (set_cpu k (take_init (at s k)) s) g s.disturbed)
  keeps_init k g may =
      unseen_keeps (entry_by s (TakeInit k)) (ends (set_cpu k (take_init (at s k)) s) g s.disturbed) (λ m part. at_none p m (entry_by s (TakeInit k)) out) refl (rw out refl)
      (parts_same s.block (slice_set s.cpus k (take_init (at s k))) s.writes
      rests h.modern (agrees_set p s.block s.cpus k (take_init (at s k)) h.agrees refl) h.released (latched_init (is_calling p s.monarch) s k h.latched) refl refl (present_set p sound ids past s stood h k (take_init (at s k)) refl)
      (λ prompt e. absurd (no_init p sound ids past s stood h k (waking_calls p sound ids past s stood h prompt e) may)))
    where
      out : smm_address (at s k) ≡ None
      out = init_outside (at s k) may

      rests : smm_address (cpu_at (slice_set s.cpus k (take_init (at s k))) 0) ≡ None → is_after_broadcast s.monarch.label ≡ false
      rests e = elim (cases_eq k 0) [
        | inl z ↦ h.rests (subst (λ i. smm_address (at s i) ≡ None) z out)
        | inr n ↦ h.rests (subst (λ (c : Cpu). smm_address c ≡ None) (get_or-set_other s.cpus k 0 (take_init (at s k)) absent (λ z. n (sym z))) e)
      ]

  -- an access from outside SMM
  pub keeps_outside : (k : ℕ) (a : Access) (g : Stage) → is_free (is_late p.delivery) (at s k) ≡ true → is_in_smm (at s k).mode ≡ false
      → Follows (record { event = Do k a; answer = answer_to false a s; at = smm_address (at s k) }) (ends (access_effect p k false a s) g (s.disturbed || (writes_block a && is_after_broadcast s.monarch.label)))
  keeps_outside k a g free outside =
      subst (λ x. Parts p x (last_read p (made s e t ∷ past)) t.block t.cpus t.writes t.monarch t.disturbed) (sym told)
      (subst (λ o. Parts p told_account o t.block t.cpus t.writes t.monarch t.disturbed) (sym last) parts)
    where
      told_account : Account
      told_account = record (account p (entries_of past)) { disturbed = if writes_block a then ((account p (entries_of past)).sent && not (account p (entries_of past)).closed) || (account p (entries_of past)).disturbed else (account p (entries_of past)).disturbed }

      e : Entry
      e = record { event = Do k a; answer = answer_to false a s; at = smm_address (at s k) }

      t : State
      t = ends (access_effect p k false a s) g (s.disturbed || (writes_block a && is_after_broadcast s.monarch.label))

      out : smm_address (at s k) ≡ None
      out = none_outside (at s k) outside

      unseen : (m : Label) → handler_of m ≡ Monarchs → is_at p m e ≡ false
      unseen m part = at_none p m e out

      told : account p (e ∷ entries_of past) ≡ told_account
      told = account_more p e (entries_of past) refl ∙ (account_other p e (account p (entries_of past)) unseen ∙ rw out refl)

      last : last_read p (made s e t ∷ past) ≡ last_read p past
      last = newest_past (λ x. is_at p C4 x.entry) (made s e t) past (unseen C4 refl)

      uncalled : (b : Bool) → is_calling p s.monarch ≡ b → is_calling p s.monarch ≡ false
      uncalled true is = absurd (no_access p sound ids past s stood h k is free)
      uncalled false is = is

      none : is_calling p s.monarch ≡ false
      none = uncalled (is_calling p s.monarch) refl

      parts : Parts p told_account (last_read p past) t.block t.cpus t.writes t.monarch t.disturbed
      parts = subst (λ r. Parts p told_account (last_read p past) t.block t.cpus t.writes r t.disturbed) (sym (acts p k false a s).monarch) (record {
        rests = λ f. h.rests (sym (acts p k false a s).first.address ∙ f);
        ordered = h.ordered;
        tied = tied_other (account p (entries_of past)) s.monarch (writes_block a) s.disturbed h.tied;
        modern = modern_acted p k false a s h.modern;
        agrees = agrees_acted p k false a s h.agrees;
        released = released_outside p s k a sound stood h.released;
        latched = latched_outside p s k a none h.latched;
        calm = λ f. no_more _ none f;
        undisturbed = λ after quiet. clear (still_clear s.disturbed (writes_block a) (is_after_broadcast s.monarch.label) after quiet) after;
        wakes = λ prompt f. absurd (let calling = waking_calls p sound ids past s stood h prompt f in let both : true ≡ false = sym calling ∙ none in cc);
      })
        where
          clear : (s.disturbed ≡ false) × (writes_block a ≡ false) → is_after_broadcast s.monarch.label ≡ true → Undisturbed p t.block t.cpus (last_read p past) s.monarch
          clear both after =
              let u = h.undisturbed after both.0 in
              let block : t.block ≡ s.block = block_kept p k false a s both.1 in
              record {
                chosen = subst (λ b. Chosen (count_of p) b s.monarch) (sym block) u.chosen;
                reported = reported_still p s.cpus t.cpus s.monarch (λ j _ f. present_kept p k false a s j both.1 ∙ f) u.reported;
                read = u.read;
              }

  -- another handler's row
  pub keeps_other : (k : ℕ) (l : Label) (a : Access) (g : Stage) → AtOther p s k l → want_at (layout_of p) (seat p s k) s.monarch l ≡ Some (want.Do a)
      → Follows (record { event = Do k a; answer = answer_to true a s; at = smm_address (at s k) }) (ends (led_on p s k l (value_in (answer_to true a s)) (access_effect p k true a s)) g s.disturbed)
  keeps_other k l a g here wants =
      unseen_keeps e t (λ m part. at_other p l m e k (at s k).smbase sound here.runs here.part here.place part) refl (let place = here.place in rw place refl)
      (subst (λ r. Parts p (account p (entries_of past)) (last_read p past) t.block t.cpus t.writes r t.disturbed) (sym (next_other (layout_of p) (seat p s k) s.monarch l (value_in (answer_to true a s)) here.part))
      (parts_same u.block t.cpus u.writes
      (λ f. h.rests (sym (address_alike (at s 0) (at u 0) (alike 0)) ∙ subst (λ (c : Cpu). smm_address c ≡ None) (get_or-set_other u.cpus k 0 d absent (λ z. here.other (sym z))) f))
      (modern_acted p k true a s h.modern) (agrees_set p u.block u.cpus k d (agrees_acted p k true a s h.agrees) (present_go (at s k).smbase n (at u k))) (released_other p s k l a sound here wants h.released)
      (latched_other p s k l a sound ids stood here wants h.latched h.released)
      (ap (λ (b : Block). b.selector) block) (ap (λ (b : Block). b.command) block)
      (λ j f. at_set (λ c d. d.present ≡ c.present) u.cpus k d (λ _. refl) (present_go (at s k).smbase n (at u k)) j ∙ ((alike j).present ∙ f))
      (λ prompt f. woken (h.wakes prompt f))))
    where
      e : Entry
      e = record { event = Do k a; answer = answer_to true a s; at = smm_address (at s k) }

      u : State
      u = access_effect p k true a s

      n : Next
      n = next_at (layout_of p) (seat p s k) s.monarch l (value_in (answer_to true a s))

      d : Cpu
      d = moved_in_smm (at s k).smbase n (at u k)

      t : State
      t = ends (led_on p s k l (value_in (answer_to true a s)) u) g s.disturbed

      alike : (j : ℕ) → Alike (at s j) (at u j)
      alike = subst (AllAlike p k s) wants (row_alike p k s (seat p s k) s.monarch l (aside l here.part))

      block : u.block ≡ s.block
      block = block_kept p k true a s (subst Unwritten wants (other_unwritten p s k l here.part))

      woken_alike : (j : ℕ) → IsWoken (at s j) → IsWoken (at u j)
      woken_alike j w f = (alike j).smi (w (subst (λ m. is_waiting m ≡ true) (alike j).mode f))

      woken : IsWoken (at s s.monarch.add.cpu) → IsWoken (cpu_at t.cpus s.monarch.add.cpu)
      woken w = at_set (λ c d. IsWoken c → IsWoken d) u.cpus k d (λ _ f. f)
          (pick (λ (c : Cpu). IsWoken (at u k) → IsWoken c) (stands_in_smm (at u k)) (moved (address_of_label (at s k).smbase n.label) n.base (at u k)) (at u k) (λ _ f. absurd cc) (λ f. f))
          s.monarch.add.cpu (woken_alike s.monarch.add.cpu w)

  -- RSM
  pub keeps_returns : (k : ℕ) (l : Label) (g : Stage) → AtOther p s k l → (l ≡ F6) ⊎ (l ≡ R5) → Follows (entry_by s (Resume k)) (ends (leave_smm k s) g s.disturbed)
  keeps_returns k l g here where_is =
      unseen_keeps e t (λ m part. at_other p l m e k (at s k).smbase sound here.runs here.part here.place part) (is_other k here.other) (let place = here.place in rw place refl)
      (parts_same s.block t.cpus s.writes
      (λ f. h.rests (subst (λ (c : Cpu). smm_address c ≡ None) (get_or-set_other s.cpus k 0 d absent (λ z. here.other (sym z))) f))
      h.modern (agrees_set p s.block s.cpus k d h.agrees refl) h.released (latched_returns p s k l sound here where_is h.latched) refl refl (present_set p sound ids past s stood h k d refl)
      (λ prompt f. at_set (λ c d. IsWoken c → IsWoken d) s.cpus k d (λ _ f. f) (λ _ f. absurd cc) s.monarch.add.cpu (h.wakes prompt f)))
    where
      e : Entry
      e = entry_by s (Resume k)

      d : Cpu
      d = resumed (saved_smbase s.locks s.writes (at s k)) (saved_rip s.locks s.writes (at s k)) (at s k)

      t : State
      t = ends (leave_smm k s) g s.disturbed

  -- the monarch's RSM ends the session
  pub keeps_rests : (g : Stage) → AtMonarch p s E7 → Follows (entry_by s (Resume 0)) (ends (leave_smm 0 s) g s.disturbed)
  keeps_rests g here =
      subst (λ a. Parts p a (last_read p (made s e t ∷ past)) t.block t.cpus t.writes t.monarch t.disturbed) (sym (account_bound p e (entries_of past) refl))
      (record {
        rests = λ _. over;
        ordered = h.ordered;
        tied = tied_ended s.monarch s.disturbed here.label;
        modern = h.modern;
        agrees = agrees_set p s.block s.cpus 0 _ h.agrees refl;
        released = h.released;
        latched = latched_rests (is_calling p s.monarch) s uncalled h.latched;
        calm = h.calm;
        undisturbed = λ after _. no_more _ over after;
        wakes = λ prompt f. no_more _ over (waking_called s.monarch.label f);
      })
    where
      e : Entry
      e = entry_by s (Resume 0)

      t : State
      t = ends (leave_smm 0 s) g s.disturbed

      over : is_after_broadcast s.monarch.label ≡ false
      over = let label = here.label in rw label refl

      uncalled : is_calling p s.monarch ≡ false
      uncalled = rw over (right (not (is_late p.delivery)))
        where
          right : (x : Bool) → (x && false) ≡ false
          right true = refl
          right false = refl

  -- SMI entry, of processor 0 and of others
  pub keeps_enters : (k : ℕ) (g : Stage) → may_take_smi (at s k) ≡ true → Follows (entry_by s (TakeSmi k)) (ends (with_session k (enter_smm k s)) g s.disturbed)
  keeps_enters k g may = by_first (k == 0) refl
    where
      e : Entry
      e = entry_by s (TakeSmi k)

      present : (at s k).present ≡ true
      present = (and_parts (at s k).present ((at s k).smi && is_outside (at s k).mode) may).0

      out : smm_address (at s k) ≡ None
      out = may_outside (at s k) may

      to : Bool → State
      to b = ends (cond b (record (enter_smm k s) { monarch = restarted s.monarch }) (enter_smm k s)) g s.disturbed

      zero_of : (k == 0) ≡ true → k ≡ 0
      zero_of f = eqb-true k 0 f

      other_of : (k == 0) ≡ false → k ≢ 0
      other_of f z = let y : (k == 0) ≡ true = rw z refl in let both : true ≡ false = sym y ∙ f in cc

      agrees : Agrees p s.block (slice_set s.cpus k (take_smi (at s k)))
      agrees = agrees_set p s.block s.cpus k (take_smi (at s k)) h.agrees refl

      begins : (k == 0) ≡ true → Follows e (to true)
      begins is =
          subst (λ a. Parts p a (last_read p (made s e (to true) ∷ past)) s.block (to true).cpus (to true).writes (restarted s.monarch) s.disturbed) (sym (account_bound p e (entries_of past) (rw is refl)))
          (record {
            rests = λ _. refl;
            ordered = ordered_begun (count_of p) s.monarch h.ordered;
            tied = tied_begun s.monarch s.disturbed;
            modern = h.modern;
            agrees = agrees;
            released = subst (λ b. Released p (to b).monarch (to b).writes) is (released_enters p s k sound stood present h.released);
            latched = subst (λ b. Latched (is_calling p (to b).monarch) (to b).cpus) is (latched_enters p s k h.latched);
            calm = λ f. absurd (never (not (is_late p.delivery)) f);
            undisturbed = λ after _. absurd cc;
            wakes = λ prompt f. absurd cc;
          })
        where
          never : (x : Bool) → (x && false) ≡ true → ⊥
          never true f = cc
          never false f = cc

      comes : (k == 0) ≡ false → Follows e (to false)
      comes is =
          unseen_keeps e (to false) (λ m part. at_none p m e out) (let z = is in rw z refl) (rw out refl)
          (parts_same s.block (to false).cpus (to false).writes
          (λ f. h.rests (subst (λ (c : Cpu). smm_address c ≡ None) (get_or-set_other s.cpus k 0 (take_smi (at s k)) absent (λ z. other_of is (sym z))) f))
          h.modern agrees (subst (λ b. Released p (to b).monarch (to b).writes) is (released_enters p s k sound stood present h.released))
          (subst (λ b. Latched (is_calling p (to b).monarch) (to b).cpus) is (latched_enters p s k h.latched)) refl refl (present_set p sound ids past s stood h k (take_smi (at s k)) refl)
          (λ prompt f. at_set (λ c d. IsWoken c → IsWoken d) s.cpus k (take_smi (at s k)) (λ _ f. f) (λ _ f. absurd cc) s.monarch.add.cpu (h.wakes prompt f)))

      by_first : (b : Bool) → (k == 0) ≡ b → Follows e (ends (with_session k (enter_smm k s)) g s.disturbed)
      by_first true is = subst (λ b. Follows e (to b)) (sym is) (begins is)
      by_first false is = subst (λ b. Follows e (to b)) (sym is) (comes is)
