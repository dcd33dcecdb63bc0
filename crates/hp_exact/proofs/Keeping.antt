-- Each row of the monarch's keeps all parts, and so each step does.
use Rattle.std.proofs.Common.{ℕ, ◌≡◌, ◌≢◌, ◌==◌, Bool, true, false, not, ◌&&◌, List, [], ◌∷◌, slice_set, Some, None, refl, sym, ap, subst, ◌∙◌, get_or-set_other}
use Rattle.std.proofs.lemmas.Bool.{and_parts, and_from, or_right}
use Rattle.hp_model.specs.declared.platforms.Platform.{Platform}
use Rattle.hp_model.specs.declared.processors.Cpu.{Cpu}
use Rattle.hp_model.specs.declared.accesses.Access.{Access}
use Rattle.hp_model.specs.declared.accesses.Want.TheVariants as want
use Rattle.hp_model.specs.declared.outcomes.Outcome.{Outcome}
use Rattle.hp_model.specs.declared.labels.Label.{Label}
use Rattle.hp_model.specs.declared.labels.Label.TheVariants.{S2, C4, N3, N4, N5, N6, E4b, T}
use Rattle.hp_model.specs.declared.entries.Event.TheVariants.{Do, Tell}
use Rattle.hp_model.specs.declared.entries.Entry.{Entry}
use Rattle.hp_model.specs.Platform.{tile, is_late}
use Rattle.hp_model.specs.Cpu.{absent, cpu_at, smm_address, moved}
use Rattle.hp_model.specs.Boot.{Stage, value_in}
use Rattle.hp_model.specs.declared.labels.Handler.TheVariants.{Monarch as Monarchs}
use Rattle.hp_model.specs.Labels.{handler_of, index_of, same_label}
use Rattle.hp_model.specs.SharedBytes.{layout_of}
use Rattle.hp_model.specs.Handlers.{Next, want_at, next_at, address_of_label}
use Rattle.hp_model.specs.State.{State, at}
use Rattle.hp_model.specs.Access.{access_effect, answer_to}
use Rattle.hp_model.specs.Firmware.{seat, moved_in_smm, same_outcome}
use Rattle.hp_model.specs.Step.{is_after_broadcast}
use Rattle.hp_model.specs.Runs.{run_on}
use Rattle.hp_model.specs.Transitions.{Transition, entries_of}
use Rattle.hp_model.specs.Account.{is_at}
use Rattle.hp_model.proofs.AtEach.{made}
use Rattle.hp_sealed.specs.Left.{Sound}
use Rattle.hp_sealed.proofs.Stay.{at_set}
use Rattle.hp_sealed.proofs.Outside.{acts}
use Rattle.hp_safety.proofs.Keeps.{smm_present}
use Rattle.hp_safety.proofs.Marked.{at_monarch}
use Rattle.hp_exact.proofs.Stood.{IsStood}
use Rattle.hp_exact.proofs.Stepping.{AtMonarch, Kinds, entry_by, ends, led_on, by_kind}
use Rattle.hp_exact.proofs.Account.{account, account_more}
use Rattle.hp_exact.proofs.Monarchs.{is_among, adding, adds_on}
use Rattle.hp_exact.proofs.Naming.{Ids, Own, own_is}
use Rattle.hp_exact.proofs.Ordering.{ordered_row}
use Rattle.hp_exact.proofs.Tying.{row_account, account_row, tied_row}
use Rattle.hp_exact.proofs.Releasing.{released_monarch, released_told}
use Rattle.hp_exact.proofs.Calling.{after_row, Woken, latched_row, latched_told}
use Rattle.hp_exact.proofs.Agreeing.{agrees_set, agrees_acted, modern_acted}
use Rattle.hp_exact.proofs.Reporting.{no_more, clear_row}
use Rattle.hp_exact.proofs.Rows.{newest_past, reads_row, stays_row, reported_still}
use Rattle.hp_exact.proofs.Waking.{waking, IsWoken, asleep_row, wakes_row, waking_adds, waking_called, waking_from}
use Rattle.hp_exact.proofs.Invariant.{is_calling, last_read, Undisturbed, Wakes, Parts, Invariant}
use Rattle.hp_exact.proofs.InSmm.{present_go, set_first, stands_of}
use Rattle.hp_exact.proofs.KeepingOthers.{keeps_enters, keeps_init, keeps_insert, keeps_other, keeps_outside, keeps_removal, keeps_rests, keeps_returns}
use Rattle.hp_exact.proofs.CalledIn.{not_broadcast, present_set, was_quiet}

module _ (p : Platform) (sound : Sound p) (ids : Ids p) (past : List Transition) (s : State) (stood : IsStood p s) (h : Invariant p past s) where
  abbrev Follows : Entry → State → Type 0
  Follows e t = Invariant p (made s e t ∷ past) t

  -- a row of the monarch's: its SMI handler goes on in SMM
  still_in : (cs : List Cpu) (smbase : ℕ) (n : Next) (a : ℕ) → smm_address (cpu_at cs 0) ≡ Some a → smm_address (cpu_at (slice_set cs 0 (moved_in_smm smbase n (cpu_at cs 0))) 0) ≡ None → ⊥
  still_in cs smbase n a is gone =
      let there = smm_present (cpu_at cs 0) a is in
      let stands = stands_of (cpu_at cs 0) a is in
      let here : moved_in_smm smbase n (cpu_at cs 0) ≡ moved (address_of_label smbase n.label) n.base (cpu_at cs 0) = rw stands refl in
      let now : smm_address (moved (address_of_label smbase n.label) n.base (cpu_at cs 0)) ≡ Some (address_of_label smbase n.label) = rw there refl in
      let both : None ≡ Some (address_of_label smbase n.label) = sym gone ∙ (ap smm_address (set_first cs (moved_in_smm smbase n (cpu_at cs 0)) there ∙ here) ∙ now) in
      cc

  calm_row : (l : Label) (v : ℕ) → AtMonarch p s l → is_calling p (next_at (layout_of p) (seat p s 0) s.monarch l v).monarch ≡ true → (not (same_label l S2) && s.disturbed) ≡ false
  calm_row l v here calling = by_label (same_label l S2) refl
    where
      by_label : (b : Bool) → same_label l S2 ≡ b → (not b && s.disturbed) ≡ false
      by_label true is = refl
      by_label false is =
          let both = and_parts (not (is_late p.delivery)) (is_after_broadcast (next_at (layout_of p) (seat p s 0) s.monarch l v).monarch.label) calling in
          let after = after_row (layout_of p) (seat p s 0) s.monarch l v here.part here.label (λ e. let f : same_label l S2 ≡ true = rw e refl in let g : true ≡ false = sym f ∙ is in cc) both.1 in
          h.calm (and_from (not (is_late p.delivery)) (is_after_broadcast s.monarch.label) both.0 (subst (λ m. is_after_broadcast m ≡ true) (sym here.label) after))

  -- under prompt delivery, the running add of a session that has called others in
  add_of : (l : Label) → s.monarch.label ≡ l → is_late p.delivery ≡ false → is_after_broadcast l ≡ true → is_among l adding ≡ true → Own p (record { cpu = s.monarch.add.cpu; status = 0; apic = s.monarch.add.apic }) × ((at s s.monarch.add.cpu).present ≡ true)
  add_of l label prompt after mine =
      let after_s : is_after_broadcast s.monarch.label ≡ true = subst (λ m. is_after_broadcast m ≡ true) (sym label) after in
      let mine_s : is_among s.monarch.label adding ≡ true = subst (λ m. is_among m adding ≡ true) (sym label) mine in
      let u = h.undisturbed after_s (h.calm (and_from (not (is_late p.delivery)) (is_after_broadcast s.monarch.label) (rw prompt refl) after_s)) in
      (own_is p (record { cpu = s.monarch.add.cpu; status = 0; apic = s.monarch.add.apic }) (u.reported.added mine_s), u.reported.adds mine_s)

  keeps_monarch : (l : Label) (a : Access) (g : Stage) → AtMonarch p s l → want_at (layout_of p) (seat p s 0) s.monarch l ≡ Some (want.Do a)
      → Follows (record { event = Do 0 a; answer = answer_to true a s; at = smm_address (at s 0) }) (ends (led_on p s 0 l (value_in (answer_to true a s)) (access_effect p 0 true a s)) g (not (same_label l S2) && s.disturbed))
  keeps_monarch l a g here wants =
      subst (λ x. Parts p x (last_read p (made s e t ∷ past)) t.block t.cpus t.writes t.monarch t.disturbed) (sym told) (record {
        rests = λ f. absurd (still_in u.cpus (at s 0).smbase n (address_of_label (tile p 0) l) ((acts p 0 true a s).first.address ∙ here.place) f);
        ordered = ordered_row (layout_of p) (seat p s 0) s.monarch l v sound.some here.part here.label h.ordered;
        tied = tied_row (layout_of p) (seat p s 0) s.monarch l v (account p (entries_of past)) s.disturbed here.part here.label h.tied;
        modern = modern_acted p 0 true a s h.modern;
        agrees = agrees_set p u.block u.cpus 0 d (agrees_acted p 0 true a s h.agrees) (present_go (at s 0).smbase n (at u 0));
        released = released_monarch p s l a v sound stood h.ordered here wants h.released;
        latched = latched_row p s l a v sound ids stood here wants h.latched woken;
        calm = calm_row l v here;
        undisturbed = λ after quiet.
            clear_row p s.block u.block s.cpus t.cpus (last_read p past) (last_read p (made s e t ∷ past)) (seat p s 0) s.monarch v
            (λ was. clear was quiet) h.agrees (λ is k f. present_in k (λ at_e4b. absurd (let same : C4 ≡ E4b = sym is ∙ (here.label ∙ at_e4b) in cc)) f) h.ordered l here.part here.label
            (reads_row p s past (made s e t) l a sound here wants h.modern h.agrees h.ordered (λ was. h.undisturbed was (was_quiet p sound ids past s stood h l (not_broadcast p sound ids past s stood h l (subst (λ m. is_after_broadcast m ≡ true) here.label was)) quiet)) refl (seen C4 refl)) after;
        wakes = λ prompt. wakes prompt (is_among l (N3 ∷ N4 ∷ N5 ∷ [])) refl;
      })
    where
      v : ℕ
      v = value_in (answer_to true a s)

      e : Entry
      e = record { event = Do 0 a; answer = answer_to true a s; at = smm_address (at s 0) }

      u : State
      u = access_effect p 0 true a s

      n : Next
      n = next_at (layout_of p) (seat p s 0) s.monarch l v

      d : Cpu
      d = moved_in_smm (at s 0).smbase n (at u 0)

      t : State
      t = ends (led_on p s 0 l v u) g (not (same_label l S2) && s.disturbed)

      seen : (m : Label) → handler_of m ≡ Monarchs → is_at p m e ≡ (index_of l == index_of m)
      seen m part = at_monarch p l m e (tile p 0) refl here.place part

      told : account p (e ∷ entries_of past) ≡ row_account l v (account p (entries_of past))
      told = account_more p e (entries_of past) refl ∙ account_row p e l (account p (entries_of past)) seen (let place = here.place in rw place refl)

      present_in : (k : ℕ) → (l ≡ E4b → k ≢ s.block.selector) → (at s k).present ≡ true → (cpu_at t.cpus k).present ≡ true
      present_in k other f = at_set (λ c d. d.present ≡ c.present) u.cpus 0 d (λ _. refl) (present_go (at s 0).smbase n (at u 0)) k ∙ stays_row p s l a wants k other f

      clear : is_after_broadcast s.monarch.label ≡ true → (not (same_label l S2) && s.disturbed) ≡ false → Undisturbed p s.block t.cpus (last_read p past) s.monarch
      clear was quiet =
          let x = h.undisturbed was (was_quiet p sound ids past s stood h l (not_broadcast p sound ids past s stood h l (subst (λ m. is_after_broadcast m ≡ true) here.label was)) quiet) in
          record {
            chosen = x.chosen;
            reported = reported_still p s.cpus t.cpus s.monarch (λ k other f. present_in k (λ is same. other (rw (here.label ∙ is) refl) (same ∙ x.chosen.handed (rw (here.label ∙ is) refl))) f) x.reported;
            read = x.read;
          }

      woken : is_calling p s.monarch ≡ true → is_among l (N5 ∷ N6 ∷ []) ≡ true → Woken p s.monarch s.cpus
      woken calling mine =
          let both = and_parts (not (is_late p.delivery)) (is_after_broadcast s.monarch.label) calling in
          let prompt = not_late (is_late p.delivery) both.0 in
          let later = five_six l mine in
          let add = add_of l here.label prompt (waking_called l later) (waking_adds l later) in
          record { own = add.0; wakes = h.wakes prompt (subst (λ m. is_among m waking ≡ true) (sym here.label) later) }
        where
          not_late : (x : Bool) → not x ≡ true → x ≡ false
          not_late true f = absurd cc
          not_late false f = refl

          five_six : (l : Label) → is_among l (N5 ∷ N6 ∷ []) ≡ true → is_among l waking ≡ true
          five_six l f = or_right (same_label l N4) _ f

      wakes : is_late p.delivery ≡ false → (b : Bool) → is_among l (N3 ∷ N4 ∷ N5 ∷ []) ≡ b → Wakes n.monarch t.cpus
      wakes prompt false is f = no_more _ (asleep_row (layout_of p) (seat p s 0) s.monarch l v here.part here.label is) f
      wakes prompt true is f =
          let from = waking_from l is in
          let add = add_of l here.label prompt from.0 from.1 in
          let same : n.monarch.add.cpu ≡ s.monarch.add.cpu = (adds_on (layout_of p) (seat p s 0) s.monarch l v from.1).cpu in
          let row : IsWoken (at u s.monarch.add.cpu) = wakes_row p s (seat p s 0) ids add.0 add.1 l a is wants (λ g. h.wakes prompt (subst (λ m. is_among m waking ≡ true) (sym here.label) g)) in
          let now : IsWoken (cpu_at t.cpus s.monarch.add.cpu) = subst IsWoken (sym (get_or-set_other u.cpus 0 s.monarch.add.cpu d absent add.0.other)) row in
          subst (λ k. IsWoken (cpu_at t.cpus k)) (sym same) now

  -- an outcome is told
  keeps_told : (o : Outcome) (g : Stage) → AtMonarch p s T → same_outcome o s.monarch.outcome ≡ true → Follows (entry_by s (Tell o)) (ends (led_on p s 0 T 0 s) g s.disturbed)
  keeps_told o g here same =
      subst (λ x. Parts p x (last_read p (made s e t ∷ past)) t.block t.cpus t.writes t.monarch t.disturbed) (sym told)
      (subst (λ x. Parts p (row_account T 0 (account p (entries_of past))) x t.block t.cpus t.writes t.monarch t.disturbed) (sym last) (record {
        rests = λ f. absurd (still_in s.cpus (at s 0).smbase n (address_of_label (tile p 0) T) here.place f);
        ordered = ordered_row (layout_of p) (seat p s 0) s.monarch T 0 sound.some here.part here.label h.ordered;
        tied = tied_row (layout_of p) (seat p s 0) s.monarch T 0 (account p (entries_of past)) s.disturbed here.part here.label h.tied;
        modern = h.modern;
        agrees = agrees_set p s.block s.cpus 0 d h.agrees (present_go (at s 0).smbase n (at s 0));
        released = released_told p (seat p s 0) s.monarch 0 s.writes here.label h.released;
        latched = latched_told p s sound here h.latched;
        calm = calm_row T 0 here;
        undisturbed = λ after quiet.
            clear_row p s.block s.block s.cpus t.cpus (last_read p past) (last_read p past) (seat p s 0) s.monarch 0
            (λ was. clear was quiet) h.agrees (λ is k f. present_in k f) h.ordered T here.part here.label
            (record { selects = λ e. absurd cc; searches = λ e. absurd cc; finds = λ e. absurd cc; reads = λ e. absurd cc; asks = λ e. absurd cc; names = λ e. absurd cc; hands = λ e. absurd cc }) after;
        wakes = λ prompt f. no_more _ (asleep_row (layout_of p) (seat p s 0) s.monarch T 0 here.part here.label refl) f;
      }))
    where
      e : Entry
      e = entry_by s (Tell o)

      n : Next
      n = next_at (layout_of p) (seat p s 0) s.monarch T 0

      d : Cpu
      d = moved_in_smm (at s 0).smbase n (at s 0)

      t : State
      t = ends (led_on p s 0 T 0 s) g s.disturbed

      seen : (m : Label) → handler_of m ≡ Monarchs → is_at p m e ≡ (index_of T == index_of m)
      seen m part = at_monarch p T m e (tile p 0) refl here.place part

      told : account p (e ∷ entries_of past) ≡ row_account T 0 (account p (entries_of past))
      told = account_more p e (entries_of past) refl ∙ account_row p e T (account p (entries_of past)) seen (let place = here.place in rw place refl)

      last : last_read p (made s e t ∷ past) ≡ last_read p past
      last = newest_past (λ x. is_at p C4 x.entry) (made s e t) past (seen C4 refl)

      present_in : (k : ℕ) → (at s k).present ≡ true → (cpu_at t.cpus k).present ≡ true
      present_in k f = present_set p sound ids past s stood h 0 d (present_go (at s 0).smbase n (at s 0)) k f

      clear : is_after_broadcast s.monarch.label ≡ true → s.disturbed ≡ false → Undisturbed p s.block t.cpus (last_read p past) s.monarch
      clear was quiet =
          let x = h.undisturbed was quiet in
          record { chosen = x.chosen; reported = reported_still p s.cpus t.cpus s.monarch (λ k _ f. present_in k f) x.reported; read = x.read }

  -- each kind of step
  kinds : Kinds p s Follows
  kinds = record {
    inserts = keeps_insert p sound ids past s stood h;
    removes = keeps_removal p sound ids past s stood h;
    outside = keeps_outside p sound ids past s stood h;
    monarchs = keeps_monarch;
    others = keeps_other p sound ids past s stood h;
    enters = keeps_enters p sound ids past s stood h;
    inits = keeps_init p sound ids past s stood h;
    rests = keeps_rests p sound ids past s stood h;
    returns = keeps_returns p sound ids past s stood h;
    tells = keeps_told;
  }

  pub keeps : (e : Entry) (t : State) → run_on p s e ≡ Some t → Invariant p (made s e t ∷ past) t
  keeps e t is = by_kind p s Follows stood kinds e t is
