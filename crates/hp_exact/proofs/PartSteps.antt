-- An eject's processor has parked in its tile before it is ejected, and it alone leaves: over each kind of step.
use Rattle.std.proofs.Common.{ℕ, ◌≡◌, ◌≢◌, ◌<◌, ◌==◌, Bool, true, false, not, ◌&&◌, ◌||◌, List, [], ◌∷◌, length, slice_set, Some, refl, sym, ap, subst, ◌∙◌, arith, get_or-set_other}
use Rattle.std.proofs.lemmas.Bool.Decides.{nat_tests}
use Rattle.hp_model.specs.declared.platforms.Platform.{Platform}
use Rattle.hp_model.specs.declared.processors.Cpu.{Cpu}
use Rattle.hp_model.specs.declared.accesses.Access.{Access}
use Rattle.hp_model.specs.declared.accesses.Want.TheVariants as want
use Rattle.hp_model.specs.declared.labels.Label.{Label}
use Rattle.hp_model.specs.declared.labels.Label.TheVariants.{S2, E0, E1, E2, E4a, E4b, E4c, E4d, E4e, E4f, E4g, T}
use Rattle.hp_model.specs.declared.outcomes.Outcome.{Outcome}
use Rattle.hp_model.specs.declared.entries.Event.TheVariants.{Do, Tell}
use Rattle.hp_model.specs.declared.entries.Entry.{Entry}
use Rattle.hp_model.specs.Platform.{count_of, apic_of, tile}
use Rattle.hp_model.specs.Memory.{byte_at}
use Rattle.hp_model.specs.Cpu.{absent, cpu_at, smm_address}
use Rattle.hp_model.specs.Block.{slot_at}
use Rattle.hp_model.specs.Boot.{Stage, value_in}
use Rattle.hp_model.specs.declared.labels.Handler.TheVariants.{Monarch as Monarchs}
use Rattle.hp_model.specs.Labels.{handler_of, index_of, same_label}
use Rattle.hp_model.specs.SharedBytes.{layout_of, parked_byte}
use Rattle.hp_model.specs.Handlers.{Next, want_at, next_at, address_of_label}
use Rattle.hp_model.specs.State.{State, at}
use Rattle.hp_model.specs.Access.{access_effect, answer_to}
use Rattle.hp_model.specs.Firmware.{seat, moved_in_smm, same_outcome}
use Rattle.hp_model.specs.Step.{is_after_broadcast}
use Rattle.hp_model.specs.Runs.{run_on}
use Rattle.hp_model.specs.Transitions.{Transition, has_left, left_in}
use Rattle.hp_model.specs.Account.{is_at}
use Rattle.hp_model.specs.Sessions.{ends_outcome}
use Rattle.hp_model.specs.Outcomes.{own_of, departures, is_eject_of, is_only}
use Rattle.hp_model.proofs.AtEach.{made}
use Rattle.hp_sealed.specs.Left.{Sound}
use Rattle.hp_sealed.specs.Sealed.{Placed, IsAtSlot}
use Rattle.hp_sealed.proofs.Stay.{at_set}
use Rattle.hp_safety.proofs.Marked.{at_monarch}
use Rattle.hp_exact.proofs.Stood.{IsStood}
use Rattle.hp_exact.proofs.Stepping.{AtMonarch, Kinds, entry_by, ends, led_on, by_kind}
use Rattle.hp_exact.proofs.Monarchs.{is_among, ejecting}
use Rattle.hp_exact.proofs.Naming.{Ids}
use Rattle.hp_exact.proofs.Hits.{Alike, AllAlike, row_alike}
use Rattle.hp_exact.proofs.Agreeing.{gone_at}
use Rattle.hp_exact.proofs.Rows.{access_of, at_want, stays_row}
use Rattle.hp_exact.proofs.CalledIn.{was_quiet}
use Rattle.hp_exact.proofs.InSmm.{present_go, smm_there}
use Rattle.hp_exact.proofs.Losses.{pending, Losses}
use Rattle.hp_exact.proofs.Invariant.{Invariant}
use Rattle.hp_exact.proofs.ParkedByte.{loads_parked, cleared, map_leaves}
use Rattle.hp_exact.proofs.OwnEntries.{ejecting_goes, own_more, is_collects, by_label}
use Rattle.hp_exact.proofs.Parting.{Does, parts_row}
use Rattle.hp_exact.proofs.EjectTie.{Parked, IsBoundEject, PartsAt}
use Rattle.hp_exact.proofs.Departures.{departures_same, filter_one, none_is, stays_there}
use Rattle.hp_exact.proofs.EjectedSlots.{eject_gone}
use Rattle.hp_exact.proofs.Parked.{late_rows, parked_alike, still_rows, waiting_rows}
use Rattle.hp_exact.proofs.ParkedSteps.{enters, inits, inserts, others, outside, removes, rests, returns}

module _ (p : Platform) (fit : Sound p) (ids : Ids p) (past : List Transition) (s : State) (standing : IsStood p s) (h : Invariant p past s)
    (lost : is_after_broadcast s.monarch.label ≡ true → s.disturbed ≡ false → Losses p (own_of p past) s.block s.cpus s.monarch)
    (small : is_among s.monarch.label ejecting ≡ true → s.monarch.eject.slot < 0x1000)
    (slotted : (k : ℕ) → (at s k).present ≡ true → IsAtSlot p s.monarch.slots.bound (apic_of p k) (at s k).smbase)
    (parts : PartsAt p (own_of p past) s.disturbed s.cpus s.writes s.monarch s.monarch.label) where
  abbrev Now : Entry → State → Type 0
  Now e t = PartsAt p (own_of p (made s e t ∷ past)) t.disturbed t.cpus t.writes t.monarch t.monarch.label

  abbrev Follows : Entry → State → Type 0
  Follows e t = Placed p t.monarch.slots → Now e t

  abbrev c : ℕ
  c = s.monarch.eject.cpu

  abbrev slot : ℕ
  slot = s.monarch.eject.slot

  abbrev x : ℕ
  x = parked_byte (layout_of p) slot

  -- a row of the monarch's
  monarchs : (l : Label) (a : Access) (g : Stage) → AtMonarch p s l → want_at (layout_of p) (seat p s 0) s.monarch l ≡ Some (want.Do a)
      → Follows (record { event = Do 0 a; answer = answer_to true a s; at = smm_address (at s 0) }) (ends (led_on p s 0 l (value_in (answer_to true a s)) (access_effect p 0 true a s)) g (not (same_label l S2) && s.disturbed))
  unfolding access_of
  monarchs l a g here wants = parts_row p (own_of p past) (own_of p (made s e t ∷ past)) s.disturbed t.disturbed s.cpus t.cpus s.writes t.writes (seat p s 0) s.monarch v parts l here.part here.label does
    where
      v : ℕ
      v = value_in (answer_to true a s)

      e : Entry
      e = record { event = Do 0 a; answer = answer_to true a s; at = smm_address (at s 0) }

      u : State
      u = access_effect p 0 true a s

      n : Next
      n = next_at (layout_of p) (seat p s 0) s.monarch l v

      d : Cpu
      d = moved_in_smm (at s 0).smbase n (at u 0)

      t : State
      t = ends (led_on p s 0 l v u) g (not (same_label l S2) && s.disturbed)

      seen : (m : Label) → handler_of m ≡ Monarchs → is_at p m e ≡ (index_of l == index_of m)
      seen m part = at_monarch p l m e (tile p 0) refl here.place part

      goes : ends_outcome p e ≡ (is_collects l || false)
      goes = by_label p e l seen refl refl

      more : is_among l ejecting ≡ true → own_of p (made s e t ∷ past) ≡ made s e t ∷ own_of p past
      more mine = own_more p (made s e t) past (goes ∙ ejecting_goes l mine)

      of_label : (F : Label → Type 0) → F l → F s.monarch.label
      of_label F f = subst F (sym here.label) f

      tight : is_among l ejecting ≡ true → slot < 0x1000
      tight mine = small (of_label (λ m. is_among m ejecting ≡ true) mine)

      calm_before : l ≢ S2 → t.disturbed ≡ false → s.disturbed ≡ false
      calm_before other = was_quiet p fit ids past s standing h l other

      stays : is_among l (E4b ∷ []) ≡ false → (k : ℕ) → (at s k).present ≡ true → (cpu_at t.cpus k).present ≡ true
      stays other k f = at_set (λ c d. d.present ≡ c.present) u.cpus 0 d (λ _. refl) (present_go (at s 0).smbase n (at u 0)) k ∙ stays_row p s l a wants k (λ is. absurd (let g : is_among l (E4b ∷ []) ≡ true = rw is refl in let both : true ≡ false = sym g ∙ other in cc)) f

      not_s2 : (F : Label → Bool) → F l ≡ true → F S2 ≡ false → l ≢ S2
      not_s2 F f none is = let g : F S2 ≡ true = subst (λ m. F m ≡ true) is f in let both : true ≡ false = sym g ∙ none in cc

      losses : is_among l (E1 ∷ E2 ∷ E4a ∷ E4b ∷ []) ≡ true → t.disturbed ≡ false → Losses p (own_of p past) s.block s.cpus s.monarch
      losses f calm = lost (of_label (λ m. is_after_broadcast m ≡ true) (waiting_rows l f).0) (calm_before (not_s2 (λ m. is_among m (E1 ∷ E2 ∷ E4a ∷ E4b ∷ [])) f refl) calm)

      other_cpu : is_among l (E1 ∷ E2 ∷ E4a ∷ E4b ∷ []) ≡ true → t.disturbed ≡ false → c ≢ 0
      other_cpu f calm = (losses f calm).other (of_label (λ m. is_among m pending ≡ true) (waiting_rows l f).2)

      does : Does p (own_of p past) (own_of p (made s e t ∷ past)) s.disturbed t.disturbed s.cpus t.cpus s.writes t.writes s.monarch l v
      does = record {
        still = λ f calm parked.
            let r = still_rows l f in
            let alike : Alike (at s c) (at u c) = subst (AllAlike p 0 s) wants (row_alike p 0 s (seat p s 0) s.monarch l r.0) c in
            subst (Parked p slot) (sym (get_or-set_other u.cpus 0 c d absent (other_cpu r.1 calm))) (parked_alike p slot (at s c) (at u c) alike parked);
        zeroed = λ is. at_want p s (λ a. byte_at (access_effect p 0 true a s).writes x ≡ 0) l E0 a is wants (cleared p s slot fit standing (tight (rw is refl)));
        same = λ f. by_two l refl f;
        sees = λ is one. sym (at_want p s (λ a. value_in (answer_to true a s) ≡ byte_at s.writes x) l E2 a is wants (loads_parked p s slot fit standing (tight (rw is refl)))) ∙ one;
        on = λ f calm. let r = late_rows l f in ap (departures p) (more r.0) ∙ departures_same p (made s e t) (own_of p past) (stays r.1);
        leaves = λ is calm eject_bound parked. gone is calm eject_bound parked;
        quiet = λ f calm. calm_before (not_s2 (λ m. is_among m (E1 ∷ E2 ∷ E4a ∷ E4b ∷ E4c ∷ E4d ∷ E4e ∷ E4f ∷ E4g ∷ [])) f refl) calm;
      }
        where
          by_two : (m : Label) → l ≡ m → is_among m (E1 ∷ E2 ∷ []) ≡ true → byte_at (access_effect p 0 true a s).writes x ≡ byte_at s.writes x
          by_two E1 is f = at_want p s (λ a. byte_at (access_effect p 0 true a s).writes x ≡ byte_at s.writes x) l E1 a is wants (map_leaves p s slot fit standing (tight (rw is refl)))
          by_two E2 is f = at_want p s (λ a. byte_at (access_effect p 0 true a s).writes x ≡ byte_at s.writes x) l E2 a is wants refl
          by_two _ is f = absurd cc

          gone : l ≡ E4b → t.disturbed ≡ false → IsBoundEject p s.monarch → Parked p slot (at s c) → is_only (is_eject_of p c slot) (departures p (own_of p (made s e t ∷ past))) ≡ true
          gone is calm eject_bound parked = subst (λ ds. is_only (is_eject_of p c slot) ds ≡ true) (sym deps) shown
            where
              mine : is_among l (E1 ∷ E2 ∷ E4a ∷ E4b ∷ []) ≡ true
              mine = rw is refl

              lose : Losses p (own_of p past) s.block s.cpus s.monarch
              lose = losses mine calm

              quiet : s.disturbed ≡ false
              quiet = calm_before (not_s2 (λ m. is_among m (E1 ∷ E2 ∷ E4a ∷ E4b ∷ [])) mine refl) calm

              chosen : s.block.selector ≡ c
              chosen = (h.undisturbed (of_label (λ m. is_after_broadcast m ≡ true) (waiting_rows l mine).0) quiet).chosen.handed (rw (here.label ∙ is) refl)

              removed : (cpu_at t.cpus c).present ≡ false
              removed =
                  let other = other_cpu mine calm in
                  let slots = h.agrees.slots in
                  let less = eject_bound.less in
                  let pick_less : s.block.selector < length s.block.slots = omega (arith, slots, less, chosen) in
                  let enabled : (slot_at s.block s.block.selector).enabled ≡ true = ap (λ k. (slot_at s.block k).enabled) chosen ∙ (h.agrees.enabled c ∙ parked.present) in
                  let ejected = eject_gone s.block h.modern pick_less (λ z. other (sym chosen ∙ z)) enabled in
                  let away : (at u c).present ≡ false = at_want p s (λ a. (at (access_effect p 0 true a s) c).present ≡ false) l E4b a is wants (rw ejected (subst (λ k. (cpu_at (slice_set s.cpus s.block.selector absent) k).present ≡ false) chosen (gone_at s.cpus s.block.selector))) in
                  ap (λ (w : Cpu). w.present) (get_or-set_other u.cpus 0 c d absent other) ∙ away

              kept : (j : ℕ) → j ≢ c → has_left (made s e t) j ≡ false
              kept j other = stays_there (at s j).present (cpu_at t.cpus j).present (λ f. at_set (λ c d. d.present ≡ c.present) u.cpus 0 d (λ _. refl) (present_go (at s 0).smbase n (at u 0)) j ∙ stays_row p s l a wants j (λ _ z. other (z ∙ chosen)) f)

              leaves : has_left (made s e t) c ≡ true
              leaves = let there = parked.present in let off = removed in rw (there, off) refl

              left : left_in p (made s e t) ≡ c ∷ []
              left = filter_one (has_left (made s e t)) c kept leaves (count_of p) eject_bound.less

              none : departures p (own_of p past) ≡ []
              none = none_is (departures p (own_of p past)) (lose.kept (rw (here.label ∙ is) refl))

              deps : departures p (own_of p (made s e t ∷ past)) ≡ record { cpu = c; by = made s e t } ∷ []
              deps = ap (departures p) (more (rw is refl)) ∙ rw (left, none) refl

              itself : (i : ℕ) → (i == i) ≡ true
              itself i = grind (arith, nat_tests)

              shown : is_only (is_eject_of p c slot) (record { cpu = c; by = made s e t } ∷ []) ≡ true
              shown =
                  let now : is_at p E4b e ≡ true = seen E4b refl ∙ rw is refl in
                  let there = parked.present in
                  let inside = (smm_there (at s c) (address_of_label (tile p slot) parked.label) parked.place).1 in
                  let base = parked.smbase in
                  rw (itself c, now, there, inside, base) (itself (tile p slot))

  -- an outcome is told
  tells_it : (o : Outcome) (g : Stage) → AtMonarch p s T → same_outcome o s.monarch.outcome ≡ true → Follows (entry_by s (Tell o)) (ends (led_on p s 0 T 0 s) g s.disturbed)
  tells_it o g here same =
      parts_row p (own_of p past) (own_of p (made s (entry_by s (Tell o)) t ∷ past)) s.disturbed s.disturbed s.cpus t.cpus s.writes s.writes (seat p s 0) s.monarch 0 parts T here.part here.label
      (record {
        still = λ f. absurd cc;
        zeroed = λ is. absurd cc;
        same = λ f. absurd cc;
        sees = λ is. absurd cc;
        on = λ f. absurd cc;
        leaves = λ is. absurd cc;
        quiet = λ f. absurd cc;
      })
    where
      t : State
      t = ends (led_on p s 0 T 0 s) g s.disturbed

  kinds : Kinds p s Follows
  kinds = record {
    inserts = inserts p fit ids past s standing h lost small slotted parts;
    removes = removes p fit ids past s standing h lost small slotted parts;
    outside = outside p fit ids past s standing h lost small slotted parts;
    monarchs = monarchs;
    others = others p fit ids past s standing h lost small slotted parts;
    enters = enters p fit ids past s standing h lost small slotted parts;
    inits = inits p fit ids past s standing h lost small slotted parts;
    rests = rests p fit ids past s standing h lost small slotted parts;
    returns = returns p fit ids past s standing h lost small slotted parts;
    tells = tells_it;
  }

  pub parts_go : (e : Entry) (t : State) → run_on p s e ≡ Some t → Follows e t
  parts_go e t is = by_kind p s Follows standing kinds e t is
