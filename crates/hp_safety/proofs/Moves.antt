-- What each event makes of SMBASEs, of who is past the gate, and of the gate.
use Rattle.std.specs.Prelude.{if◌then◌else◌}
use Rattle.std.proofs.Common.{ℕ, ◌≡◌, ◌+◌, ◌-◌, ◌*◌, ◌%◌, ◌<◌, ◌==◌, ◌⊎◌, inl, inr, Bool, true, false, cond, not, ◌&&◌, ◌||◌, nat_lt, nat_le, List, slice_set, Option, Some, None, refl, sym, ap, subst, ◌∙◌, arith}
use Rattle.std.proofs.lemmas.Bool.{and_parts, eqb-true}
use Rattle.std.proofs.lemmas.Bool.Decides.{nat_tests}
use Rattle.hp_model.specs.declared.platforms.Platform.{Platform}
use Rattle.hp_model.specs.declared.processors.Cpu.{Cpu}
use Rattle.hp_model.specs.declared.accesses.Access.{Access}
use Rattle.hp_model.specs.declared.accesses.Access.TheVariants.{Store, Swap}
use Rattle.hp_model.specs.declared.accesses.Answer.TheVariants.{Quiet, Value}
use Rattle.hp_model.specs.declared.accesses.Want.{Want}
use Rattle.hp_model.specs.declared.accesses.Want.TheVariants as want
use Rattle.hp_model.specs.declared.outcomes.Outcome.{Outcome}
use Rattle.hp_model.specs.declared.labels.Label.{Label}
use Rattle.hp_model.specs.declared.labels.Label.TheVariants.{F1, F2, F6, N7}
use Rattle.hp_model.specs.declared.entries.Event.{Event}
use Rattle.hp_model.specs.declared.entries.Event.TheVariants.{Insert, Remove, Do, TakeSmi, TakeInit, Resume, Tell}
use Rattle.hp_model.specs.Platform.{tile, count_of, apic_of}
use Rattle.hp_model.specs.Memory.{Write, byte_at, value_from, touched}
use Rattle.hp_model.specs.View.{loaded}
use Rattle.hp_model.specs.Cpu.{cpu_at, moved, inserted, take_smi, take_init, resumed, may_take_smi, is_outside, is_in_smm, smm_address}
use Rattle.hp_model.specs.Boot.{Stage, Boots, Refused, Handed, is_handed, value_in}
use Rattle.hp_model.specs.declared.labels.Handler.TheVariants.{First, Monarch as Monarchs}
use Rattle.hp_model.specs.Labels.{handler_of, cell_of}
use Rattle.hp_model.specs.SharedBytes.{layout_of, gate, closed}
use Rattle.hp_model.specs.SaveArea.{smbase_field, saved, saved_smbase, saved_rip}
use Rattle.hp_model.specs.Monarch.{restarted}
use Rattle.hp_model.specs.Handlers.{Next, want_at, wanted_at, next_at, runs_at, address_of_label}
use Rattle.hp_model.specs.State.{State, at, set_cpu}
use Rattle.hp_model.specs.Access.{access_effect, answer_to}
use Rattle.hp_model.specs.Firmware.{label_at, seat, is_that_access, is_that_outcome, is_rsm, is_handlers, wanted_in, moved_in_smm, with_next, row_effect, handlers_effect, firmware_effect, with_session}
use Rattle.hp_model.specs.Step.{After, is_enabled, effect_of, insert, request_removal, enter_smm, leave_smm, step}
use Rattle.hp_sealed.specs.Left.{IsLeft, Sound}
use Rattle.hp_sealed.proofs.Left.{pick, left_same}
use Rattle.hp_sealed.proofs.Stay.{Stays, stays_same}
use Rattle.hp_sealed.proofs.Outside.{Calm, acts, left_acted}
use Rattle.hp_model.proofs.Same.{same_access-equal}
use Rattle.hp_sealed.proofs.Starts.{set_all}
use Rattle.hp_sealed.proofs.Places.{Base, base_based, default_locked}
use Rattle.hp_sealed.proofs.Goes.{stepped}
use Rattle.hp_safety.proofs.Needs.{Saved, need_of, is_aloft}
use Rattle.hp_safety.proofs.EachRow.{row_of_each}
use Rattle.hp_safety.proofs.Invariant.{facts_of, IsShut, is_past, Invariant}
use Rattle.hp_safety.proofs.Aloft.{aloft_past}
use Rattle.hp_safety.proofs.Saves.{left_saved}
use Rattle.hp_safety.proofs.Writes.{reach_low}
use Rattle.hp_safety.proofs.Keeps.{smm_present, AtRow, row_stands, row_first, current_label_is}
use Rattle.hp_safety.proofs.Rows.{Spares, row_spares}
use Rattle.hp_safety.proofs.RowLeads.{LeadsOn}
use Rattle.hp_safety.proofs.Accesses.{smm_stands, slot_small, row_next}
use Rattle.hp_safety.proofs.Events.{stays_init, Returns, row_returns, reads_tile, returns_to}
use Rattle.hp_safety.proofs.GateRows.{Relocates, Passes, Opens, Moves, GatesOn, row_gates}

-- whoever is still there after an access was there before it, and is the same
record IsSame (c d : Cpu) : Type 0 where
  pub present : c.present ≡ true
  pub smbase : d.smbase ≡ c.smbase

calm_stays : (c d : Cpu) → Calm c d → d.present ≡ true → IsSame c d
calm_stays c d (inl s) f = record { present = sym s.present ∙ f; smbase = s.smbase }
calm_stays c d (inr g) f = absurd (let e : false ≡ true = sym (ap (λ (x : Cpu). x.present) g) ∙ f in cc)

calm_past : (c d : Cpu) → Calm c d → is_past (smm_address d) ≡ true → is_past (smm_address c) ≡ true
calm_past c d (inl s) f = sym (ap is_past s.address) ∙ f
calm_past c d (inr g) f = absurd (let e : false ≡ true = sym (ap (λ (x : Cpu). is_past (smm_address x)) g) ∙ f in cc)

calm_none : (c d : Cpu) → Calm c d → smm_address c ≡ None → smm_address d ≡ None
calm_none c d (inl s) f = s.address ∙ f
calm_none c d (inr g) f = ap smm_address g

-- a row, where its answer has led it on
moves_led : (p : Platform) (m : List Write) (s u : State) (e : Event) (k : ℕ) (l : Label) (n : Next) → Sound p → Invariant p m s → AtRow p s k l → Stays (at s k) (at u k) → ((j : ℕ) → Calm (at s j) (at u j)) → handler_of n.label ≡ handler_of l → (is_aloft (need_of n.label) ≡ true → (is_aloft (need_of l) ≡ true) ⊎ Passes p s e k) → IsShut u.writes ⊎ (((i : ℕ) → i < 8 → IsLeft (gate + i) s.writes u.writes) ⊎ Opens p s e u) → Moves p s e (with_next k (at s k).smbase n u)
moves_led p m s u e k l n sound h here stays calm side climbs gates =
    let b = (at s k).smbase in
    let t = with_next k b n u in
    let address : smm_address (at u k) ≡ Some here.address = stays.address ∙ here.is in
    let present : (at u k).present ≡ true = smm_present (at u k) here.address address in
    let to : Cpu = moved (address_of_label b n.label) n.base (at u k) in
    let goes : moved_in_smm b n (at u k) ≡ to = rw (smm_stands (at u k) here.address address) refl in
    let lands : smm_address to ≡ Some (address_of_label b n.label) = rw present refl in
    let runs : runs_at (layout_of p) (handler_of n.label) k b ≡ true = rw side here.cell.runs in
    record {
      comes = λ j f. inl (set_all (λ i c. c.present ≡ true → (at s i).present ≡ true) u.cpus k (moved_in_smm b n (at u k)) (λ g. absurd cc) (λ g. sym stays.present ∙ present) (λ i other g. (calm_stays (at s i) (at u i) (calm i) g).present) j f);
      changes = λ j f g. inl (set_all (λ i c. c.present ≡ true → c.smbase ≡ (at s i).smbase) u.cpus k (moved_in_smm b n (at u k)) (λ g. absurd cc) (λ g. ap (λ (c : Cpu). c.smbase) goes ∙ stays.smbase) (λ i other g. (calm_stays (at s i) (at u i) (calm i) g).smbase) j g);
      climbs = λ j f. set_all (λ i c. is_past (smm_address c) ≡ true → (is_past (smm_address (at s i)) ≡ true) ⊎ Passes p s e i) u.cpus k (moved_in_smm b n (at u k)) (λ g. absurd cc)
          (λ g. elim (climbs (sym (aloft_past p k b n.label sound runs) ∙ (sym (ap is_past (ap smm_address goes ∙ lands)) ∙ g))) [
            | inl up ↦ inl (ap is_past here.is ∙ (ap (λ a. is_past (Some a)) here.cell.here ∙ (aloft_past p k b l sound here.cell.runs ∙ up)))
            | inr passes ↦ inr passes
          ]) (λ i other g. inl (calm_past (at s i) (at u i) (calm i) g)) j f;
      gates = elim gates [ inl shut ↦ inl shut | inr more ↦ elim more [ inl left ↦ inr (inl left) | inr opens ↦ inr (inr (record { event = opens.event; place = opens.place; label = opens.label; value = opens.value; written = opens.written })) ] ];
      enters = λ none. inl (set_all (λ i c. i ≡ 0 → smm_address c ≡ None) u.cpus k (moved_in_smm b n (at u k)) (λ z. refl) (λ z. absurd (let both = sym (subst (λ i. smm_address (at s i) ≡ None) (sym z) none) ∙ here.is in cc))
          (λ i other z. calm_none (at s i) (at u i) (calm i) (subst (λ j. smm_address (at s j) ≡ None) (sym z) none)) 0 refl);
    }

-- a row's access, made: at F1 the gate may be passed, at N7 it is opened
row_place : (p : Platform) (s : State) (k : ℕ) (l m : Label) → AtRow p s k l → l ≡ m → handler_of m ≡ First → smm_address (at s k) ≡ Some (cell_of p m 0)
row_place p s k l m here is first =
    let runs : runs_at (layout_of p) First k (at s k).smbase ≡ true = subst (λ q. runs_at (layout_of p) q k (at s k).smbase ≡ true) (ap handler_of is ∙ first) here.cell.runs in
    let base : (at s k).smbase ≡ 0x30000 = eqb-true (at s k).smbase 0x30000 (and_parts (not (k == 0)) ((at s k).smbase == 0x30000) runs).1 in
    here.is ∙ ap Some (here.cell.here ∙ (ap (address_of_label (at s k).smbase) is ∙ rw (base, first) refl))

monarch_place : (p : Platform) (s : State) (k : ℕ) (l m : Label) → AtRow p s k l → l ≡ m → handler_of m ≡ Monarchs → (k ≡ 0) × (smm_address (at s k) ≡ Some (cell_of p m 0))
monarch_place p s k l m here is mine =
    let runs : runs_at (layout_of p) Monarchs k (at s k).smbase ≡ true = subst (λ q. runs_at (layout_of p) q k (at s k).smbase ≡ true) (ap handler_of is ∙ mine) here.cell.runs in
    let parts = and_parts (k == 0) ((at s k).smbase == tile p 0) runs in
    let base = eqb-true (at s k).smbase (tile p 0) parts.1 in
    (eqb-true k 0 parts.0, here.is ∙ ap Some (here.cell.here ∙ (ap (address_of_label (at s k).smbase) is ∙ rw (base, mine) refl)))

module _ (p : Platform) (m : List Write) (s : State) (k : ℕ) (l : Label) (sound : Sound p) (h : Invariant p m s) (here : AtRow p s k l) where
  wants : Option Want
  wants = want_at (layout_of p) (seat p s k) s.monarch l

  in_smm : is_in_smm (at s k).mode ≡ true
  in_smm = (and_parts (at s k).present (is_in_smm (at s k).mode) (smm_stands (at s k) here.address here.is)).1

  -- whoever goes on past F1 has found its APIC ID
  own_found : (v apic : ℕ) → is_aloft (need_of (if v == apic then F2 else F1)) ≡ true → v ≡ apic
  own_found v apic e = by_found (v == apic) refl e
    where
      by_found : (c : Bool) → (v == apic) ≡ c → is_aloft (need_of (if c then F2 else F1)) ≡ true → v ≡ apic
      by_found true f g = eqb-true v apic f
      by_found false f g = absurd cc

  passes_at : (b : Access) → want_at (layout_of p) (seat p s k) s.monarch l ≡ Some (want.Do b) → l ≡ F1 → is_aloft (need_of (next_at (layout_of p) (seat p s k) s.monarch l (value_in (answer_to true b s))).label) ≡ true → Passes p s (Do k b) k
  passes_at b is first up =
      let apic = apic_of p k in
      let read = loaded s.locks true (byte_at s.writes) gate 8 in
      let w : Some (want.Do (Swap gate apic closed)) ≡ Some (want.Do b) = sym (ap (want_at (layout_of p) (seat p s k) s.monarch) first) ∙ is in
      let swap : b ≡ Swap gate apic closed = cc in
      let up_first = subst (λ x. is_aloft (need_of (next_at (layout_of p) (seat p s k) s.monarch x (value_in (answer_to true b s))).label) ≡ true) first up in
      let found : read ≡ apic = own_found read apic (subst (λ x. is_aloft (need_of (next_at (layout_of p) (seat p s k) s.monarch F1 (value_in (answer_to true x s))).label) ≡ true) swap up_first) in
      let reach = reach_low p s.locks 8 gate sound h.locked.registers (omega arith) in
      let plain : read ≡ value_from (byte_at s.writes) gate 8 = rw reach refl in
      record {
        event = ap (Do k) swap;
        place = row_place p s k l F1 here first refl;
        found = subst (λ x. answer_to (is_in_smm (at s k).mode) x s ≡ Value apic) (sym swap) (subst (λ c. answer_to c (Swap gate apic closed) s ≡ Value apic) (sym in_smm) (ap Value found));
        value = sym plain ∙ found;
      }

  opens_at : (b : Access) (u : State) → want_at (layout_of p) (seat p s k) s.monarch l ≡ Some (want.Do b) → l ≡ N7 → value_from (byte_at u.writes) gate 8 ≡ s.monarch.add.apic → touched u.writes gate ≡ touched s.writes gate + 1 → Opens p s (Do k b) u
  opens_at b u is seven value written =
      let w : Some (want.Do (Store gate 8 s.monarch.add.apic)) ≡ Some (want.Do b) = sym (ap (want_at (layout_of p) (seat p s k) s.monarch) seven) ∙ is in
      let store : b ≡ Store gate 8 s.monarch.add.apic = cc in
      let there = monarch_place p s k l N7 here seven refl in
      record {
        event = rw (there.0, store) refl;
        place = subst (λ i. smm_address (at s i) ≡ Some (cell_of p N7 0)) there.0 there.1;
        label = current_label_is s.monarch l here.cell.current (ap handler_of seven) ∙ seven;
        value = value;
        written = written;
      }

  moves_made : (a : Access) (w : Option Want) → want_at (layout_of p) (seat p s k) s.monarch l ≡ w → Spares p k s w → GatesOn p k s s.monarch l w → LeadsOn p k s (seat p s k) s.monarch l w → is_that_access w a ≡ true → Moves p s (Do k a) (row_effect p s k (answer_to true a s) (Some l) (access_effect p k true a s))
  moves_made a None is spares gates leads e = absurd cc
  moves_made a (Some (want.Do b)) is spares gates leads e =
      subst (λ c. Moves p s (Do k c) (row_effect p s k (answer_to true c s) (Some l) (access_effect p k true c s))) (sym (same_access-equal a b e))
      (moves_led p m s (access_effect p k true b s) (Do k b) k l (next_at (layout_of p) (seat p s k) s.monarch l (value_in (answer_to true b s))) sound h here spares (acts p k true b s).cpus leads.side
      (λ up. elim (leads.climbs up) [ inl higher ↦ inl higher | inr first ↦ inr (passes_at b is first.0 up) ])
      (elim gates [ inl shut ↦ inl shut | inr more ↦ elim more [ inl left ↦ inr (inl left) | inr seven ↦ inr (inr (opens_at b (access_effect p k true b s) is seven.0 seven.1 seven.2)) ] ]))
  moves_made a (Some (want.Tell o)) is spares gates leads e = absurd cc
  moves_made a (Some want.Resume) is spares gates leads e = absurd cc

  moves_told : (o : Outcome) (w : Option Want) → k ≡ 0 → want_at (layout_of p) (seat p s k) s.monarch l ≡ w → LeadsOn p k s (seat p s k) s.monarch l w → is_that_outcome w o ≡ true → Moves p s (Tell o) (row_effect p s k Quiet (Some l) s)
  moves_told o None z is leads e = absurd cc
  moves_told o (Some (want.Do a)) z is leads e = absurd cc
  moves_told o (Some (want.Tell t)) z is leads e =
      moves_led p m s s (Tell o) k l (next_at (layout_of p) (seat p s k) s.monarch l (value_in Quiet)) sound h here (stays_same (at s k)) (λ j. inl (stays_same (at s j))) leads.side
      (λ up. elim (leads.climbs up) [ inl higher ↦ inl higher | inr first ↦ absurd (let w : Some (want.Do (Swap gate (apic_of p k) closed)) ≡ Some (want.Tell t) = sym (ap (want_at (layout_of p) (seat p s k) s.monarch) first.0) ∙ is in cc) ])
      (inr (inl (λ i less. left_same (gate + i) s.writes)))
  moves_told o (Some want.Resume) z is leads e = absurd cc

moves_access : (p : Platform) (m : List Write) (s : State) (k : ℕ) (a : Access) (o : Option Label) → Sound p → Invariant p m s → label_at p s k ≡ o → is_that_access (wanted_at (layout_of p) s.monarch (seat p s k) o) a ≡ true → Moves p s (Do k a) (row_effect p s k (answer_to true a s) o (access_effect p k true a s))
moves_access p m s k a None sound h is e = absurd cc
moves_access p m s k a (Some l) sound h is e =
    let q = seat p s k in
    let here = row_stands p m s k l sound h is in
    moves_made p m s k l sound h here a (want_at (layout_of p) q s.monarch l) refl (row_spares p k s q s.monarch l (row_first p s k l here) here.cell.met)
    (row_gates p k s q s.monarch sound h.locked.registers h.recorded h.holding (slot_small p s k l sound here) l here.cell.met) (row_next p m s k l sound h here) e

moves_tell : (p : Platform) (m : List Write) (s : State) (o : Outcome) (l : Option Label) → Sound p → Invariant p m s → label_at p s 0 ≡ l → is_that_outcome (wanted_at (layout_of p) s.monarch (seat p s 0) l) o ≡ true → Moves p s (Tell o) (row_effect p s 0 Quiet l s)
moves_tell p m s o None sound h is e = absurd cc
moves_tell p m s o (Some l) sound h is e =
    let here = row_stands p m s 0 l sound h is in
    moves_told p m s 0 l sound h here o (want_at (layout_of p) (seat p s 0) s.monarch l) refl refl (row_next p m s 0 l sound h here) e

-- an access outside SMM
moves_outside : (p : Platform) (m : List Write) (s : State) (k : ℕ) (a : Access) → Sound p → Invariant p m s → Moves p s (Do k a) (access_effect p k false a s)
moves_outside p m s k a sound h =
    let t = access_effect p k false a s in
    let calm = (acts p k false a s).cpus in
    record {
      comes = λ j f. inl (calm_stays (at s j) (at t j) (calm j) f).present;
      changes = λ j f g. inl (calm_stays (at s j) (at t j) (calm j) g).smbase;
      climbs = λ j f. inl (calm_past (at s j) (at t j) (calm j) f);
      gates = inr (inl (λ i less. left_acted p k a s (gate + i) (default_locked p s.locks (gate + i) h.locked.registers (in_area i less))));
      enters = λ none. inl (calm_none (at s 0) (at t 0) (calm 0) none);
    }
  where
    in_area : (i : ℕ) → i < 8 → (nat_le 0x30000 (0x30000 + i) && nat_lt (0x30000 + i) 0x50000) ≡ true
    in_area i less = grind (arith, nat_tests)

-- one processor changes
moves_set : (p : Platform) (s t : State) (e : Event) (k : ℕ) (d : Cpu) → t.cpus ≡ slice_set s.cpus k d → (d.present ≡ true → ((at s k).present ≡ true) ⊎ (d.smbase ≡ 0x30000)) → ((at s k).present ≡ true → d.present ≡ true → (d.smbase ≡ (at s k).smbase) ⊎ Relocates p s e k) → (is_past (smm_address d) ≡ true → is_past (smm_address (at s k)) ≡ true) → ((i : ℕ) → i < 8 → IsLeft (gate + i) s.writes t.writes) → (k ≡ 0 → smm_address (at s k) ≡ None → (smm_address d ≡ None) ⊎ (e ≡ TakeSmi 0)) → Moves p s e t
moves_set p s t e k d is comes changes climbs left enters = record {
  comes = λ j. subst (λ cs. (cpu_at cs j).present ≡ true → ((at s j).present ≡ true) ⊎ ((cpu_at cs j).smbase ≡ 0x30000)) (sym is)
      (set_all (λ i c. c.present ≡ true → ((at s i).present ≡ true) ⊎ (c.smbase ≡ 0x30000)) s.cpus k d (λ f. absurd cc) comes (λ i other f. inl f) j);
  changes = λ j. subst (λ cs. (at s j).present ≡ true → (cpu_at cs j).present ≡ true → ((cpu_at cs j).smbase ≡ (at s j).smbase) ⊎ Relocates p s e j) (sym is)
      (set_all (λ i c. (at s i).present ≡ true → c.present ≡ true → (c.smbase ≡ (at s i).smbase) ⊎ Relocates p s e i) s.cpus k d (λ f g. absurd cc) changes (λ i other f g. inl refl) j);
  climbs = λ j. subst (λ cs. is_past (smm_address (cpu_at cs j)) ≡ true → (is_past (smm_address (at s j)) ≡ true) ⊎ Passes p s e j) (sym is)
      (set_all (λ i c. is_past (smm_address c) ≡ true → (is_past (smm_address (at s i)) ≡ true) ⊎ Passes p s e i) s.cpus k d (λ f. absurd cc) (λ f. inl (climbs f)) (λ i other f. inl f) j);
  gates = inr (inl left);
  enters = subst (λ cs. smm_address (at s 0) ≡ None → (smm_address (cpu_at cs 0) ≡ None) ⊎ (e ≡ TakeSmi 0)) (sym is)
      (λ none. set_all (λ i c. i ≡ 0 → (smm_address c ≡ None) ⊎ (e ≡ TakeSmi 0)) s.cpus k d (λ z. inl refl) (λ z. enters z (subst (λ i. smm_address (at s i) ≡ None) (sym z) none)) (λ i other z. inl (subst (λ j. smm_address (at s j) ≡ None) (sym z) none)) 0 refl);
}

-- nothing but the rest of the state changes
moves_still : (p : Platform) (s t : State) (e : Event) → t.cpus ≡ s.cpus → t.writes ≡ s.writes → Moves p s e t
moves_still p s t e is same = record {
  comes = λ j. subst (λ cs. (cpu_at cs j).present ≡ true → ((at s j).present ≡ true) ⊎ ((cpu_at cs j).smbase ≡ 0x30000)) (sym is) (λ f. inl f);
  changes = λ j. subst (λ cs. (at s j).present ≡ true → (cpu_at cs j).present ≡ true → ((cpu_at cs j).smbase ≡ (at s j).smbase) ⊎ Relocates p s e j) (sym is) (λ f g. inl refl);
  climbs = λ j. subst (λ cs. is_past (smm_address (cpu_at cs j)) ≡ true → (is_past (smm_address (at s j)) ≡ true) ⊎ Passes p s e j) (sym is) (λ f. inl f);
  gates = inr (inl (λ i less. subst (IsLeft (gate + i) s.writes) (sym same) (left_same (gate + i) s.writes)));
  enters = subst (λ cs. smm_address (at s 0) ≡ None → (smm_address (cpu_at cs 0) ≡ None) ⊎ (e ≡ TakeSmi 0)) (sym is) (λ none. inl none);
}

moves_smi : (p : Platform) (m : List Write) (s : State) (k : ℕ) → Sound p → Invariant p m s → may_take_smi (at s k) ≡ true → Moves p s (TakeSmi k) (with_session k (enter_smm k s))
moves_smi p m s k sound h may =
    let t = enter_smm k s in
    pick (Moves p s (TakeSmi k)) (k == 0) (record t { monarch = restarted t.monarch }) t (to (record t { monarch = restarted t.monarch }) refl refl) (to t refl refl)
  where
    present : (at s k).present ≡ true
    present = (and_parts (at s k).present ((at s k).smi && is_outside (at s k).mode) may).0

    base : Base p (at s k).smbase
    base = base_based p k (at s k).smbase sound (h.slots.based k present)

    low : (i : ℕ) → i < 8 → (0x30000 + i) % 0x10000 < 0xfefc
    low i less = omega (arith, less)

    first_cell : (b u : ℕ) → b ≡ 0x10000 * u → is_past (Some (b + 0x8000)) ≡ false
    first_cell b u e = by_past (is_past (Some (b + 0x8000))) refl
      where
        by_past : (c : Bool) → is_past (Some (b + 0x8000)) ≡ c → c ≡ false
        by_past true f = grind (arith, nat_tests)
        by_past false f = refl

    to : (t : State) → t.cpus ≡ slice_set s.cpus k (take_smi (at s k)) → t.writes ≡ saved s.locks (at s k) s.writes → Moves p s (TakeSmi k) t
    to t is same =
        moves_set p s t (TakeSmi k) k (take_smi (at s k)) is (λ f. inl present) (λ f g. inl refl)
        (λ f. absurd (let lands : smm_address (take_smi (at s k)) ≡ Some ((at s k).smbase + 0x8000) = rw present refl in let g = sym (ap is_past lands ∙ first_cell (at s k).smbase base.unit base.whole) ∙ f in cc))
        (λ i less. subst (IsLeft (gate + i) s.writes) (sym same) (left_saved s.locks (at s k) s.writes (gate + i) base.unit base.whole (low i less))) (λ z none. inr (ap TakeSmi z))

-- RSM: a tile's own stays
moves_rsm : (p : Platform) (m : List Write) (s : State) (k : ℕ) (l : Label) → Sound p → Invariant p m s → AtRow p s k l → is_rsm (want_at (layout_of p) (seat p s k) s.monarch l) ≡ true → Moves p s (Resume k) (leave_smm k s)
moves_rsm p m s k l sound h here wanted =
    let c = at s k in
    let returns = row_returns p (seat p s k) s.monarch s.writes l here.cell.met wanted in
    let to = resumed (saved_smbase s.locks s.writes c) (saved_rip s.locks s.writes c) c in
    let present = smm_present c here.address here.is in
    moves_set p s (leave_smm k s) (Resume k) k to refl (λ f. inl present) (λ f g. changes returns (returns_to p m s k l sound h here returns)) (λ f. absurd (let g = sym (ap is_past (none_if c.present None)) ∙ f in cc))
    (λ i less. left_same (gate + i) s.writes) (λ z none. inl (none_if c.present None))
  where
    none_if : (b : Bool) (o : Option ℕ) → cond b o o ≡ o
    none_if true o = refl
    none_if false o = refl

    six : need_of l ≡ Saved → is_rsm (want_at (layout_of p) (seat p s k) s.monarch l) ≡ true → l ≡ F6
    six e f = row_of_each (λ l. need_of l ≡ Saved → is_rsm (want_at (layout_of p) (seat p s k) s.monarch l) ≡ true → l ≡ F6) (record { f1 = λ e f. absurd cc; f2 = λ e f. absurd cc; f3 = λ e f. absurd cc; f4 = λ e f. absurd cc; f5 = λ e f. absurd cc; f6 = λ e f. refl; r1 = λ e f. absurd cc; r2 = λ e f. absurd cc; r3 = λ e f. absurd cc; r4 = λ e f. absurd cc; r5 = λ e f. absurd cc; r6 = λ e f. absurd cc; s0 = λ e f. absurd cc; s1 = λ e f. absurd cc; s2 = λ e f. absurd cc; s3 = λ e f. absurd cc; s4 = λ e f. absurd cc; c1 = λ e f. absurd cc; c2 = λ e f. absurd cc; c3 = λ e f. absurd cc; c4 = λ e f. absurd cc; c5 = λ e f. absurd cc; c6 = λ e f. absurd cc; nb = λ e f. absurd cc; n0 = λ e f. absurd cc; n1 = λ e f. absurd cc; n2 = λ e f. absurd cc; n3 = λ e f. absurd cc; n4 = λ e f. absurd cc; n5 = λ e f. absurd cc; n6 = λ e f. absurd cc; n7 = λ e f. absurd cc; n8a = λ e f. absurd cc; n8b = λ e f. absurd cc; n9 = λ e f. absurd cc; n10 = λ e f. absurd cc; n11 = λ e f. absurd cc; e0 = λ e f. absurd cc; e1 = λ e f. absurd cc; e2 = λ e f. absurd cc; e3 = λ e f. absurd cc; e4a = λ e f. absurd cc; e4b = λ e f. absurd cc; e4c = λ e f. absurd cc; e4d = λ e f. absurd cc; e4e = λ e f. absurd cc; e4f = λ e f. absurd cc; e4g = λ e f. absurd cc; e4h = λ e f. absurd cc; t = λ e f. absurd cc; e5 = λ e f. absurd cc; e6 = λ e f. absurd cc; e7 = λ e f. absurd cc }) (facts_of p s.monarch s.writes (apic_of p k) (at s k).base) l here.cell.met e f

    changes : Returns l → saved_smbase s.locks s.writes (at s k) - saved_smbase s.locks s.writes (at s k) % 0x10000 ≡ value_from (byte_at s.writes) ((at s k).smbase + smbase_field) 4 → (saved_smbase s.locks s.writes (at s k) - saved_smbase s.locks s.writes (at s k) % 0x10000 ≡ (at s k).smbase) ⊎ Relocates p s (Resume k) k
    changes (inl up) read =
        let is = six up wanted in
        inr (record {
          event = refl;
          past = ap is_past here.is ∙ (ap (λ a. is_past (Some a)) here.cell.here ∙ (aloft_past p k (at s k).smbase l sound here.cell.runs ∙ ap is_aloft up));
          place = row_place p s k l F6 here is refl;
        })
    changes (inr n) read = inl (read ∙ reads_tile p m s k l sound h here n.0)

moves_event : (p : Platform) (m : List Write) (s : State) (e : Event) → Sound p → Invariant p m s → is_enabled p s e ≡ true → is_handlers p s e ≡ true → Moves p s e (handlers_effect p s e (effect_of p s e))
moves_event p m s (Insert k) sound h may wanted = moves_set p s (insert k s) (Insert k) k inserted refl (λ f. inr refl) (λ f g. absurd (gone (at s k).present (and_parts (nat_lt k (count_of p)) (not (at s k).present) may).1 f)) (λ f. absurd cc) (λ i less. left_same (gate + i) s.writes) (λ z none. inl refl)
  where
    gone : (b : Bool) → not b ≡ true → b ≡ true → ⊥
    gone true e f = cc
    gone false e f = cc
moves_event p m s (Remove k) sound h may wanted = moves_still p s (request_removal k s) (Remove k) refl refl
moves_event p m s (Do k a) sound h may wanted = by_mode (is_in_smm (at s k).mode) wanted
  where
    by_mode : (b : Bool) → (not b || is_that_access (wanted_at (layout_of p) s.monarch (seat p s k) (label_at p s k)) a) ≡ true → Moves p s (Do k a) (cond b (row_effect p s k (answer_to b a s) (label_at p s k) (access_effect p k b a s)) (access_effect p k b a s))
    by_mode true f = moves_access p m s k a (label_at p s k) sound h refl f
    by_mode false f = moves_outside p m s k a sound h
moves_event p m s (TakeSmi k) sound h may wanted = moves_smi p m s k sound h may
moves_event p m s (TakeInit k) sound h may wanted =
    let stays : Stays (at s k) (take_init (at s k)) = stays_init (at s k) may in
    moves_set p s (set_cpu k (take_init (at s k)) s) (TakeInit k) k (take_init (at s k)) refl (λ f. inl f) (λ f g. inl refl) (λ f. sym (ap is_past stays.address) ∙ f) (λ i less. left_same (gate + i) s.writes) (λ z none. inl (stays.address ∙ none))
moves_event p m s (Resume k) sound h may wanted = by_row (label_at p s k) refl wanted
  where
    by_row : (o : Option Label) → label_at p s k ≡ o → is_rsm (wanted_at (layout_of p) s.monarch (seat p s k) o) ≡ true → Moves p s (Resume k) (leave_smm k s)
    by_row None is f = absurd cc
    by_row (Some l) is f = moves_rsm p m s k l sound h (row_stands p m s k l sound h is) f
moves_event p m s (Tell o) sound h may wanted = moves_tell p m s o (label_at p s 0) sound h refl wanted

moves_led_by : (p : Platform) (m : List Write) (s : State) (e : Event) (g : Stage) → Sound p → Invariant p m s → is_handed g ≡ true → is_enabled p s e ≡ true → wanted_in p s g e ≡ true → Moves p s e (firmware_effect p s g e (effect_of p s e))
moves_led_by p m s e (Boots done supported) sound h handed may wanted = absurd cc
moves_led_by p m s e (Refused fact) sound h handed may wanted = absurd cc
moves_led_by p m s e (Handed requested) sound h handed may wanted = moves_event p m s e sound h may wanted

pub moves : (p : Platform) (m : List Write) (s : State) (e : Event) (t : After) → Sound p → Invariant p m s → step p s e ≡ Some t → Moves p s e t.state
moves p m s e t sound h is =
    let g = stepped p s e t is in
    let u = firmware_effect p s s.stage e (effect_of p s e) in
    let done = moves_led_by p m s e s.stage sound h h.handed g.enabled g.wanted in
    subst (λ (x : After). Moves p s e x.state) g.is
    (record {
      comes = done.comes;
      changes = done.changes;
      climbs = done.climbs;
      gates = elim done.gates [ inl shut ↦ inl shut | inr more ↦ elim more [ inl left ↦ inr (inl left) | inr opens ↦ inr (inr (record { event = opens.event; place = opens.place; label = opens.label; value = opens.value; written = opens.written })) ] ];
      enters = done.enters;
    })
