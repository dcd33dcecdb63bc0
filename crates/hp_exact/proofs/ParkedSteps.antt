-- The eject's processor stays parked over host events, accesses from outside SMM, INIT, RSM, SMI entry and other handlers' rows; and who stores 1 in its parked byte is this processor.
use Rattle.std.proofs.Common.{ℕ, ◌≡◌, ◌≢◌, ◌<◌, ◌≤◌, ◌==◌, ◌⊎◌, inl, inr, Bool, true, false, cond, not, ◌&&◌, ◌||◌, nat_lt, List, [], ◌∷◌, slice_set, Some, None, refl, sym, ap, subst, ◌∙◌, arith, get_or-set_other, zero, suc}
use Rattle.std.proofs.lemmas.Bool.{and_parts, and_from, eqb-true}
use Rattle.std.proofs.lemmas.Bool.Decides.{nat_tests}
use Rattle.std.proofs.lemmas.Option.{same_Some}
use Rattle.hp_model.specs.declared.platforms.Platform.{Platform}
use Rattle.hp_model.specs.declared.processors.Cpu.{Cpu}
use Rattle.hp_model.specs.declared.accesses.Access.{Access}
use Rattle.hp_model.specs.declared.accesses.Want.TheVariants as want
use Rattle.hp_model.specs.declared.labels.Label.{Label}
use Rattle.hp_model.specs.declared.labels.Label.TheVariants.{F6, R3, R5, R6, S2, E1, E2, E4a, E4b, E7}
use Rattle.hp_model.specs.declared.entries.Event.TheVariants.{Insert, Remove, Do, TakeSmi, TakeInit, Resume}
use Rattle.hp_model.specs.declared.entries.Entry.{Entry}
use Rattle.hp_model.specs.Platform.{count_of, apic_of, tile, is_late}
use Rattle.hp_model.specs.Memory.{byte_at}
use Rattle.hp_model.specs.Cpu.{absent, inserted, cpu_at, is_outside, is_in_smm, is_free, smm_address, may_take_smi, take_smi, may_take_init, take_init, resumed, moved}
use Rattle.hp_model.specs.Boot.{Stage, value_in}
use Rattle.hp_model.specs.declared.labels.Handler.{Handler}
use Rattle.hp_model.specs.declared.labels.Handler.TheVariants.{First, Relocated, Monarch as Monarchs}
use Rattle.hp_model.specs.Labels.{handler_of}
use Rattle.hp_model.specs.SharedBytes.{layout_of, tile_in, parked_byte}
use Rattle.hp_model.specs.Slots.{slot_among}
use Rattle.hp_model.specs.SaveArea.{saved_smbase, saved_rip}
use Rattle.hp_model.specs.Monarch.{Monarch, restarted}
use Rattle.hp_model.specs.Handlers.{Next, want_at, next_at, runs_at, is_tile, address_of_label, slot_at as slot_of_tile}
use Rattle.hp_model.specs.State.{State, at, set_cpu}
use Rattle.hp_model.specs.Ports.{writes_block}
use Rattle.hp_model.specs.Access.{access_effect, answer_to, stands_in_smm}
use Rattle.hp_model.specs.Firmware.{seat, moved_in_smm, with_session}
use Rattle.hp_model.specs.Step.{insert, request_removal, enter_smm, leave_smm, is_after_broadcast}
use Rattle.hp_model.specs.Transitions.{Transition}
use Rattle.hp_model.specs.Account.{is_at}
use Rattle.hp_model.specs.Sessions.{bounds_session, is_tell}
use Rattle.hp_model.specs.Outcomes.{own_of, departures}
use Rattle.hp_model.proofs.AtEach.{made}
use Rattle.hp_sealed.specs.Left.{Sound}
use Rattle.hp_sealed.specs.Sealed.{Placed, IsAtSlot, is_other_tile}
use Rattle.hp_sealed.proofs.Outside.{acts}
use Rattle.hp_sealed.proofs.Stay.{at_set}
use Rattle.hp_safety.proofs.Marked.{at_none, at_other, same_index}
use Rattle.hp_safety.proofs.Placing.{place_same}
use Rattle.hp_exact.proofs.Stood.{IsStood}
use Rattle.hp_exact.proofs.Stepping.{AtMonarch, AtOther, entry_by, ends, led_on, is_other, still_clear}
use Rattle.hp_exact.proofs.Monarchs.{is_among, ejecting, next_other}
use Rattle.hp_exact.proofs.Naming.{Ids, one_cpu}
use Rattle.hp_exact.proofs.Hits.{Alike, AllAlike, row_alike, keeps_acted}
use Rattle.hp_exact.proofs.OthersLatched.{aside, reads_none}
use Rattle.hp_exact.proofs.Agreeing.{present_kept}
use Rattle.hp_exact.proofs.Releasing.{slot_small, kept_called}
use Rattle.hp_exact.proofs.Rows.{access_of, Unwritten, other_unwritten}
use Rattle.hp_exact.proofs.CalledIn.{present_set}
use Rattle.hp_exact.proofs.InSmm.{none_outside, present_go, smm_there, init_outside}
use Rattle.hp_exact.proofs.Losses.{Losses}
use Rattle.hp_exact.proofs.Invariant.{Invariant}
use Rattle.hp_exact.proofs.ParkedByte.{marks_other, left_outside, left_entering}
use Rattle.hp_exact.proofs.OwnEntries.{own_more, elsewhere}
use Rattle.hp_exact.proofs.EjectTie.{looping, Parked, IsBoundEject, PartsAt}
use Rattle.hp_exact.proofs.Departures.{departures_same}
use Rattle.hp_safety.proofs.Entering.{may_outside}
use Rattle.hp_exact.proofs.Parked.{early_rows, loops_next, loops_relocated, parked_alike, parked_inside, parked_stays, parts_fresh, parts_same, waiting_rows}

set_there : (cs : List Cpu) (k : ℕ) (d : Cpu) → (cpu_at cs k).present ≡ true → cpu_at (slice_set cs k d) k ≡ d
set_there [] k d e = absurd cc
set_there (c ∷ cs) zero d e = refl
set_there (c ∷ cs) (suc k) d e = set_there cs k d e

want_of : (p : Platform) (k : ℕ) (s : State) (F : Access → Type 0) (l m : Label) (a : Access) → l ≡ m → want_at (layout_of p) (seat p s k) s.monarch l ≡ Some (want.Do a) → F (access_of (want_at (layout_of p) (seat p s k) s.monarch m)) → F a
unfolding access_of
want_of p k s F l m a is wants h = subst F (ap access_of (subst (λ n. want_at (layout_of p) (seat p s k) s.monarch n ≡ Some (want.Do a)) is wants)) h

module _ (p : Platform) (fit : Sound p) (ids : Ids p) (past : List Transition) (s : State) (standing : IsStood p s) (h : Invariant p past s)
    (lost : is_after_broadcast s.monarch.label ≡ true → s.disturbed ≡ false → Losses p (own_of p past) s.block s.cpus s.monarch)
    (small : is_among s.monarch.label ejecting ≡ true → s.monarch.eject.slot < 0x1000)
    (slotted : (k : ℕ) → (at s k).present ≡ true → IsAtSlot p s.monarch.slots.bound (apic_of p k) (at s k).smbase)
    (parts : PartsAt p (own_of p past) s.disturbed s.cpus s.writes s.monarch s.monarch.label) where
  abbrev Now : Entry → State → Type 0
  Now e t = PartsAt p (own_of p (made s e t ∷ past)) t.disturbed t.cpus t.writes t.monarch t.monarch.label

  abbrev Follows : Entry → State → Type 0
  Follows e t = Placed p t.monarch.slots → Now e t

  abbrev c : ℕ
  c = s.monarch.eject.cpu

  abbrev slot : ℕ
  slot = s.monarch.eject.slot

  abbrev x : ℕ
  x = parked_byte (layout_of p) slot

  -- steps of others, and of the host
  same_parts : (e : Entry) (t : State) → ((m : Label) → handler_of m ≡ Monarchs → is_at p m e ≡ false) → is_tell e ≡ false → bounds_session e ≡ false → t.monarch ≡ s.monarch → (t.disturbed ≡ false → s.disturbed ≡ false)
      → (t.disturbed ≡ false → (k : ℕ) → (at s k).present ≡ true → (at t k).present ≡ true)
      → (is_among s.monarch.label (E1 ∷ E2 ∷ E4a ∷ E4b ∷ []) ≡ true → t.disturbed ≡ false → Parked p slot (at s c) → Parked p slot (at t c))
      → (is_among s.monarch.label (E1 ∷ E2 ∷ []) ≡ true → t.disturbed ≡ false → IsBoundEject p s.monarch → byte_at t.writes x ≡ 1 → (byte_at s.writes x ≡ 1) ⊎ Parked p slot (at t c)) → Now e t
  same_parts e t unseen silent within same quiet stays still byte =
      let own = own_more p (made s e t) past (elsewhere p e unseen silent within) in
      subst (λ r. PartsAt p (own_of p (made s e t ∷ past)) t.disturbed t.cpus t.writes r r.label) (sym same)
      (parts_same p (own_of p past) (own_of p (made s e t ∷ past)) s.disturbed t.disturbed s.cpus t.cpus s.writes t.writes s.monarch quiet
      (λ calm. ap (departures p) own ∙ departures_same p (made s e t) (own_of p past) (stays calm)) s.monarch.label still byte parts)

  -- a processor outside SMM isn't the parked one
  aside_of : (k : ℕ) → smm_address (at s k) ≡ None → Parked p slot (at s c) → c ≢ k
  aside_of k out parked z = parked_inside p slot (at s c) parked (subst (λ i. smm_address (at s i) ≡ None) (sym z) out)

  set_aside : (k : ℕ) (d : Cpu) → c ≢ k → Parked p slot (at s c) → Parked p slot (cpu_at (slice_set s.cpus k d) c)
  set_aside k d other parked = subst (Parked p slot) (sym (get_or-set_other s.cpus k c d absent other)) parked

  pub inserts : (k : ℕ) (g : Stage) → k < count_of p → (at s k).present ≡ false → Follows (entry_by s (Insert k)) (ends (insert k s) g s.disturbed)
  inserts k g less gone placed =
      same_parts (entry_by s (Insert k)) (ends (insert k s) g s.disturbed) (λ m part. at_none p m (entry_by s (Insert k)) refl) refl refl refl (λ e. e)
      (λ calm j e. at_set (λ c d. c.present ≡ true → d.present ≡ true) s.cpus k inserted (λ _ f. f) (λ f. refl) j e)
      (λ there calm parked. set_aside k inserted (λ z. let f : (at s k).present ≡ true = subst (λ i. (at s i).present ≡ true) z parked.present in let both : true ≡ false = sym f ∙ gone in cc) parked)
      (λ there calm eject_bound one. inl one)

  pub removes : (k : ℕ) (g : Stage) → Follows (entry_by s (Remove k)) (ends (request_removal k s) g s.disturbed)
  removes k g placed = same_parts (entry_by s (Remove k)) (ends (request_removal k s) g s.disturbed) (λ m part. at_none p m (entry_by s (Remove k)) refl) refl refl refl (λ e. e) (λ calm j e. e) (λ there calm parked. parked) (λ there calm eject_bound one. inl one)

  pub outside : (k : ℕ) (a : Access) (g : Stage) → is_free (is_late p.delivery) (at s k) ≡ true → is_in_smm (at s k).mode ≡ false
      → Follows (record { event = Do k a; answer = answer_to false a s; at = smm_address (at s k) }) (ends (access_effect p k false a s) g (s.disturbed || (writes_block a && is_after_broadcast s.monarch.label)))
  outside k a g free out placed = by_after (is_after_broadcast s.monarch.label) refl
    where
      e : Entry
      e = record { event = Do k a; answer = answer_to false a s; at = smm_address (at s k) }

      t : State
      t = ends (access_effect p k false a s) g (s.disturbed || (writes_block a && is_after_broadcast s.monarch.label))

      same : (access_effect p k false a s).monarch ≡ s.monarch
      same = (acts p k false a s).monarch

      parked_on : writes_block a ≡ false → Parked p slot (at s c) → Parked p slot (at (access_effect p k false a s) c)
      parked_on calm parked = elim (keeps_acted p k false a s c) [
        | inl both ↦ parked_stays p slot (at s c) (at (access_effect p k false a s) c) both.1.present both.1.smbase both.1.address parked
        | inr gone ↦ absurd (let f : (at (access_effect p k false a s) c).present ≡ true = present_kept p k false a s c calm ∙ parked.present in let none : (at (access_effect p k false a s) c).present ≡ false = ap (λ (d : Cpu). d.present) gone in let both : true ≡ false = sym f ∙ none in cc)
      ]

      by_after : (b : Bool) → is_after_broadcast s.monarch.label ≡ b → Now e t
      by_after false f = parts_fresh p (own_of p (made s e t ∷ past)) t.disturbed t.cpus t.writes t.monarch t.monarch.label (subst (λ (r : Monarch). is_after_broadcast r.label ≡ false) (sym same) f)
      by_after true f =
          same_parts e t (λ m part. at_none p m e (none_outside (at s k) out)) refl refl same (λ calm. (still_clear s.disturbed (writes_block a) (is_after_broadcast s.monarch.label) f calm).0)
          (λ calm j there. present_kept p k false a s j (still_clear s.disturbed (writes_block a) (is_after_broadcast s.monarch.label) f calm).1 ∙ there)
          (λ there calm. parked_on (still_clear s.disturbed (writes_block a) (is_after_broadcast s.monarch.label) f calm).1)
          (λ there calm eject_bound one. inl (sym (left_outside p s slot fit standing (small (waiting_rows s.monarch.label (early_rows s.monarch.label there)).1) k a) ∙ one))

  pub inits : (k : ℕ) (g : Stage) → may_take_init (at s k) ≡ true → Follows (entry_by s (TakeInit k)) (ends (set_cpu k (take_init (at s k)) s) g s.disturbed)
  inits k g may placed =
      same_parts (entry_by s (TakeInit k)) (ends (set_cpu k (take_init (at s k)) s) g s.disturbed) (λ m part. at_none p m (entry_by s (TakeInit k)) out) refl refl refl (λ e. e)
      (λ calm. present_set p fit ids past s standing h k (take_init (at s k)) refl) (λ there calm parked. set_aside k (take_init (at s k)) (aside_of k out parked) parked) (λ there calm eject_bound one. inl one)
    where
      out : smm_address (at s k) ≡ None
      out = init_outside (at s k) may

  pub rests : (g : Stage) → AtMonarch p s E7 → Follows (entry_by s (Resume 0)) (ends (leave_smm 0 s) g s.disturbed)
  rests g here placed = let t = ends (leave_smm 0 s) g s.disturbed in parts_fresh p (own_of p (made s (entry_by s (Resume 0)) t ∷ past)) s.disturbed t.cpus s.writes s.monarch s.monarch.label (let label = here.label in rw label refl)

  pub enters : (k : ℕ) (g : Stage) → may_take_smi (at s k) ≡ true → Follows (entry_by s (TakeSmi k)) (ends (with_session k (enter_smm k s)) g s.disturbed)
  enters k g may = by_first (k == 0) refl
    where
      e : Entry
      e = entry_by s (TakeSmi k)

      to : Bool → State
      to b = ends (cond b (record (enter_smm k s) { monarch = restarted s.monarch }) (enter_smm k s)) g s.disturbed

      there : ((at s k).present ≡ true) × (((at s k).smi && is_outside (at s k).mode) ≡ true)
      there = and_parts (at s k).present ((at s k).smi && is_outside (at s k).mode) may

      out : smm_address (at s k) ≡ None
      out = may_outside (at s k) may

      begins : Follows e (to true)
      begins placed = tt

      comes : (k == 0) ≡ false → Follows e (to false)
      comes is placed =
          same_parts e (to false) (λ m part. at_none p m e out) refl (let z = is in rw z refl) refl (λ f. f)
          (λ calm. present_set p fit ids past s standing h k (take_smi (at s k)) refl) (λ mine calm parked. set_aside k (take_smi (at s k)) (aside_of k out parked) parked)
          (λ mine calm eject_bound one. inl (sym (left_entering p s slot fit standing (small (waiting_rows s.monarch.label (early_rows s.monarch.label mine)).1) k there.0) ∙ one))

      by_first : (b : Bool) → (k == 0) ≡ b → Follows e (ends (with_session k (enter_smm k s)) g s.disturbed)
      by_first true is = subst (λ b. Follows e (to b)) (sym is) begins
      by_first false is = subst (λ b. Follows e (to b)) (sym is) (comes is)

  -- a processor of the tile of the eject's slot
  above : (n : ℕ) → tile p n ≡ 0x30000 → ⊥
  above n e = let high = fit.above in omega (arith, e, high)

  same_tile : (a b : ℕ) → tile p a ≡ tile p b → a ≡ b
  same_tile a b e = omega (arith, e)

  tiled : (k : ℕ) (l : Label) → AtOther p s k l → (at s k).smbase ≡ tile p slot → handler_of l ≡ Relocated
  tiled k l here is = by_handler (handler_of l) refl here.runs
    where
      by_handler : (q : Handler) → handler_of l ≡ q → runs_at (layout_of p) q k (at s k).smbase ≡ true → handler_of l ≡ Relocated
      by_handler First mine runs = absurd (above slot (sym is ∙ eqb-true (at s k).smbase 0x30000 (and_parts (not (k == 0)) ((at s k).smbase == 0x30000) runs).1))
      by_handler Relocated mine runs = mine
      by_handler Monarchs mine runs = absurd (here.part mine)

  -- it stands where the parked processor stands
  same_label_of : (k : ℕ) (l : Label) → AtOther p s k l → (f : Parked p slot (at s k)) → l ≡ f.label
  same_label_of k l here f =
      same_index l f.label (tiled k l here f.smbase ∙ sym (loops_relocated f.label f.loops))
      (let e = same_Some (address_of_label (at s k).smbase l) (address_of_label (tile p slot) f.label) (sym here.place ∙ f.place) in let b = f.smbase in omega (arith, e, b))

  loops_of : (k : ℕ) (l : Label) → AtOther p s k l → Parked p slot (at s k) → is_among l looping ≡ true
  loops_of k l here f = subst (λ m. is_among m looping ≡ true) (sym (same_label_of k l here f)) f.loops

  pub returns : (k : ℕ) (l : Label) (g : Stage) → AtOther p s k l → (l ≡ F6) ⊎ (l ≡ R5) → Follows (entry_by s (Resume k)) (ends (leave_smm k s) g s.disturbed)
  returns k l g here where_is placed =
      same_parts (entry_by s (Resume k)) (ends (leave_smm k s) g s.disturbed) (λ m part. at_other p l m (entry_by s (Resume k)) k (at s k).smbase fit here.runs here.part here.place part) refl (is_other k here.other) refl (λ e. e)
      (λ calm. present_set p fit ids past s standing h k d refl)
      (λ there calm parked. set_aside k d (λ z. leaves where_is (loops_of k l here (subst (λ i. Parked p slot (at s i)) z parked))) parked) (λ there calm eject_bound one. inl one)
    where
      d : Cpu
      d = resumed (saved_smbase s.locks s.writes (at s k)) (saved_rip s.locks s.writes (at s k)) (at s k)

      leaves : (l ≡ F6) ⊎ (l ≡ R5) → is_among l looping ≡ true → ⊥
      leaves (inl e) f = let g : is_among F6 looping ≡ true = subst (λ m. is_among m looping ≡ true) e f in cc
      leaves (inr e) f = let g : is_among R5 looping ≡ true = subst (λ m. is_among m looping ≡ true) e f in cc

  pub others : (k : ℕ) (l : Label) (a : Access) (g : Stage) → AtOther p s k l → want_at (layout_of p) (seat p s k) s.monarch l ≡ Some (want.Do a)
      → Follows (record { event = Do k a; answer = answer_to true a s; at = smm_address (at s k) }) (ends (led_on p s k l (value_in (answer_to true a s)) (access_effect p k true a s)) g s.disturbed)
  unfolding access_of
  others k l a g here wants placed =
      same_parts e t (λ m part. at_other p l m e k (at s k).smbase fit here.runs here.part here.place part) refl refl (next_other (layout_of p) (seat p s k) s.monarch l v here.part) (λ f. f)
      (λ calm j f. at_set (λ c d. d.present ≡ c.present) u.cpus k d (λ _. refl) (present_go (at s k).smbase n (at u k)) j ∙ (present_kept p k true a s j unwritten ∙ f))
      (λ there calm parked. by_same (c == k) refl there parked)
      (λ there calm eject_bound one. by_marks there eject_bound one (marks_other p s slot fit standing (small (waiting_rows s.monarch.label (early_rows s.monarch.label there)).1) k l a here wants))
    where
      v : ℕ
      v = value_in (answer_to true a s)

      e : Entry
      e = record { event = Do k a; answer = answer_to true a s; at = smm_address (at s k) }

      u : State
      u = access_effect p k true a s

      n : Next
      n = next_at (layout_of p) (seat p s k) s.monarch l v

      d : Cpu
      d = moved_in_smm (at s k).smbase n (at u k)

      t : State
      t = ends (led_on p s k l v u) g s.disturbed

      unwritten : writes_block a ≡ false
      unwritten = subst Unwritten wants (other_unwritten p s k l here.part)

      alike : (j : ℕ) → Alike (at s j) (at u j)
      alike = subst (AllAlike p k s) wants (row_alike p k s (seat p s k) s.monarch l (aside l here.part))

      stood : ((at s k).present ≡ true) × (is_in_smm (at s k).mode ≡ true)
      stood = smm_there (at s k) (address_of_label (at s k).smbase l) here.place

      there_u : (at u k).present ≡ true
      there_u = (alike k).present ∙ stood.0

      -- it goes on in its tile
      goes_to : (at s k).smbase ≡ tile p slot → is_among n.label looping ≡ true → Parked p slot (cpu_at t.cpus k)
      goes_to base loops =
          let in_smm : is_in_smm (at u k).mode ≡ true = ap is_in_smm (alike k).mode ∙ stood.1 in
          let stands : stands_in_smm (at u k) ≡ true = and_from (at u k).present (is_in_smm (at u k).mode) there_u in_smm in
          let moves : d ≡ moved (address_of_label (at s k).smbase n.label) n.base (at u k) = rw stands refl in
          let is : cpu_at t.cpus k ≡ moved (address_of_label (at s k).smbase n.label) n.base (at u k) = set_there u.cpus k d there_u ∙ moves in
          subst (Parked p slot) (sym is)
          (record {
            present = there_u;
            smbase = (alike k).smbase ∙ base;
            label = n.label;
            loops = loops;
            place = let there = there_u in rw (there, base) refl;
          })

      tile_slot : handler_of l ≡ Relocated → (1 ≤ (seat p s k).slot) × ((seat p s k).slot < 0x1000) × ((at s k).smbase ≡ tile p (seat p s k).slot)
      tile_slot f =
          let runs : runs_at (layout_of p) Relocated k (at s k).smbase ≡ true = subst (λ q. runs_at (layout_of p) q k (at s k).smbase ≡ true) f here.runs in
          let other = (and_parts (not (k == 0)) (is_other_tile (layout_of p) (at s k).smbase) runs).1 in
          let both = and_parts (not (slot_of_tile (layout_of p) (at s k).smbase == 0)) (is_tile (layout_of p) (at s k).smbase) other in
          let base = (and_parts (nat_lt (slot_of_tile (layout_of p) (at s k).smbase) (count_of p)) ((at s k).smbase == tile_in (layout_of p) (slot_of_tile (layout_of p) (at s k).smbase)) both.1).1 in
          (positive (slot_of_tile (layout_of p) (at s k).smbase) both.0, slot_small p k (at s k).smbase fit runs, eqb-true (at s k).smbase (tile_in (layout_of p) (slot_of_tile (layout_of p) (at s k).smbase)) base)
        where
          positive : (i : ℕ) → not (i == 0) ≡ true → 1 ≤ i
          positive i f = grind (arith, nat_tests)

      stays_held : is_after_broadcast s.monarch.label ≡ true → l ≡ R3 → (v == 1) ≡ false
      stays_held after is =
          let q = tile_slot (ap handler_of is) in
          let none = h.released (seat p s k).slot q.0 q.1 (kept_called s.monarch (seat p s k).slot (rw after (any (is_among s.monarch.label (S2 ∷ []))))) in
          want_of p k s (λ b. (value_in (answer_to true b s) == 1) ≡ false) l R3 a is wants (reads_none p s (seat p s k).slot none)
        where
          any : (b : Bool) → (b || true) ≡ true
          any true = refl
          any false = refl

      itself : is_after_broadcast s.monarch.label ≡ true → Parked p slot (at s k) → Parked p slot (cpu_at t.cpus k)
      itself after parked = goes_to parked.smbase (loops_next p (seat p s k) s.monarch v l (loops_of k l here parked) (stays_held after))

      same_number : (i j : ℕ) → (i == j) ≡ true → i ≡ j
      same_number i j f = grind (arith, nat_tests)

      unlike : (i j : ℕ) → (i == j) ≡ false → i ≢ j
      unlike i j f g = grind (arith, nat_tests)

      by_same : (b : Bool) → (c == k) ≡ b → is_among s.monarch.label (E1 ∷ E2 ∷ E4a ∷ E4b ∷ []) ≡ true → Parked p slot (at s c) → Parked p slot (cpu_at t.cpus c)
      by_same true is there parked =
          let z = same_number c k is in
          subst (λ i. Parked p slot (cpu_at t.cpus i)) (sym z) (itself (waiting_rows s.monarch.label there).0 (subst (λ i. Parked p slot (at s i)) z parked))
      by_same false is there parked = subst (Parked p slot) (sym (get_or-set_other u.cpus k c d absent (unlike c k is))) (parked_alike p slot (at s c) (at u c) (alike c) parked)

      -- who stores at R6 for this slot is the eject's processor
      parks : IsBoundEject p s.monarch → l ≡ R6 → (seat p s k).slot ≡ slot → Parked p slot (cpu_at t.cpus c)
      parks eject_bound is same =
          let q = tile_slot (ap handler_of is) in
          let base : (at s k).smbase ≡ tile p slot = subst (λ i. (at s k).smbase ≡ tile p i) same q.2 in
          let next : is_among n.label looping ≡ true = subst (λ m. is_among (next_at (layout_of p) (seat p s k) s.monarch m v).label looping ≡ true) (sym is) refl in
          subst (λ i. Parked p slot (cpu_at t.cpus i)) (by_place base (slotted k stood.0)) (goes_to base next)
        where
          by_place : (at s k).smbase ≡ tile p slot → IsAtSlot p s.monarch.slots.bound (apic_of p k) (at s k).smbase → k ≡ c
          by_place base (inl low) = absurd (above slot (sym base ∙ low))
          by_place base (inr both) =
              let place : slot_among s.monarch.slots.bound (apic_of p k) ≡ slot_among s.monarch.slots.bound s.monarch.eject.apic = same_tile (slot_among s.monarch.slots.bound (apic_of p k)) slot (sym both.1 ∙ base) ∙ sym eject_bound.place in
              let one = place_same s.monarch.slots.bound (apic_of p k) s.monarch.eject.apic both.0 eject_bound.bound place in
              one_cpu p k c fit (standing.possible k stood.0) eject_bound.less (one ∙ sym eject_bound.own)

      by_marks : is_among s.monarch.label (E1 ∷ E2 ∷ []) ≡ true → IsBoundEject p s.monarch → byte_at u.writes x ≡ 1 → ((byte_at u.writes x ≡ byte_at s.writes x) ⊎ (byte_at u.writes x ≡ 0)) ⊎ ((l ≡ R6) × ((seat p s k).slot ≡ slot) × (byte_at u.writes x ≤ 1))
          → (byte_at s.writes x ≡ 1) ⊎ Parked p slot (cpu_at t.cpus c)
      by_marks there eject_bound one (inl (inl same)) = inl (sym same ∙ one)
      by_marks there eject_bound one (inl (inr none)) = absurd (let both : 0 ≡ 1 = sym none ∙ one in cc)
      by_marks there eject_bound one (inr m) = inr (parks eject_bound m.0 m.1)
