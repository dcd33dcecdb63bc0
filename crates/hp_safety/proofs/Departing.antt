-- The law: whoever becomes absent does so by a write of the register block.
use Rattle.std.proofs.Common.{ℕ, ◌≡◌, ◌-◌, ◌==◌, ◌⊎◌, inl, inr, Bool, true, false, cond, not, ◌&&◌, ◌||◌, List, [], ◌∷◌, filter, slice_set, Option, Some, None, refl, sym, ap, subst, ◌∙◌}
use Rattle.std.proofs.lemmas.Bool.{and_parts, eqb-true}
use Rattle.hp_model.specs.declared.platforms.Platform.{Platform}
use Rattle.hp_model.specs.declared.processors.Cpu.{Cpu}
use Rattle.hp_model.specs.declared.accesses.Access.{Access}
use Rattle.hp_model.specs.declared.accesses.Access.TheVariants.{Load, Store, Swap, In, Out, CfgRead, CfgWrite, Icr, Halt, Nop}
use Rattle.hp_model.specs.declared.accesses.Answer.TheVariants.{Quiet}
use Rattle.hp_model.specs.declared.accesses.Want.{Want}
use Rattle.hp_model.specs.declared.accesses.Want.TheVariants as want
use Rattle.hp_model.specs.declared.labels.Label.{Label}
use Rattle.hp_model.specs.declared.labels.Label.TheVariants.{F1, F2, F3, F4, F5, R1, R2, R3, R4, R6, S0, S1, S2, S3, S4, C3, C4, C6, NB, N0, N1, N2, N3, N4, N5, N6, N7, N8a, N8b, N9, N10, N11, E0, E1, E2, E3, E4b, E4c, E4d, E4e, E4g, E4h, E5, E6}
use Rattle.hp_model.specs.declared.entries.Event.{Event}
use Rattle.hp_model.specs.declared.entries.Event.TheVariants.{Insert, Remove, Do, TakeSmi, TakeInit, Resume, Tell}
use Rattle.hp_model.specs.declared.entries.Entry.{Entry}
use Rattle.hp_model.specs.Platform.{IsFit, count_of, tile, apic_of}
use Rattle.hp_model.specs.Memory.{Write}
use Rattle.hp_model.specs.Cpu.{cpu_at, moved, inserted, take_smi, take_init, resumed, halt, is_in_smm, smm_address}
use Rattle.hp_model.specs.Interrupts.{decoded, smi_raised}
use Rattle.hp_model.specs.Ich9.{raises_smi}
use Rattle.hp_model.specs.FwCfg.{selected, advanced, with_high, has_broadcast}
use Rattle.hp_model.specs.Boot.{Stage, Boots, Refused, Handed, is_handed, boot_access, value_in}
use Rattle.hp_model.specs.declared.labels.Handler.TheVariants.{Monarch as Monarchs}
use Rattle.hp_model.specs.Labels.{handler_of, index_of, mark_of, same_label}
use Rattle.hp_model.specs.SharedBytes.{layout_of}
use Rattle.hp_model.specs.SaveArea.{saved_smbase, saved_rip}
use Rattle.hp_model.specs.Monarch.{Monarch, restarted}
use Rattle.hp_model.specs.Handlers.{Seat, Next, runs_at, want_at, wanted_at, next_at, address_of_label}
use Rattle.hp_model.specs.State.{State, at, set_cpu}
use Rattle.hp_model.specs.Ports.{writes_block, is_on_block, is_fw_cfg_data, is_fw_cfg_selector, is_dma_high, is_dma_low, write_block, start_transfer, write_ich9}
use Rattle.hp_model.specs.Access.{stands_in_smm, access_effect, answer_to}
use Rattle.hp_model.specs.Firmware.{label_at, seat, is_that_access, is_handlers, wanted_in, moved_in_smm, with_next, row_effect, handlers_effect, firmware_effect}
use Rattle.hp_model.specs.Step.{After, is_enabled, effect_of, insert, enter_smm, leave_smm, after}
use Rattle.hp_model.specs.Runs.{run_on, address_of}
use Rattle.hp_model.specs.Transitions.{Transition, transitions, at_each, places, has_left, left_in}
use Rattle.hp_model.specs.Account.{is_at}
use Rattle.hp_model.specs.Sessions.{interferes}
use Rattle.hp_model.proofs.AtEach.{made as step_made, each_passes}
use Rattle.hp_sealed.specs.Left.{Sound}
use Rattle.hp_sealed.proofs.Left.{pick, pick_by}
use Rattle.hp_sealed.proofs.Stay.{Stays, stays_same, stays_sent, stays_halt, stays_set, stays_raised, at_set}
use Rattle.hp_sealed.proofs.Outside.{stays_block}
use Rattle.hp_model.proofs.Same.{same_access-equal}
use Rattle.hp_model.proofs.Marks.{same_label as label_same}
use Rattle.hp_sealed.proofs.Goes.{stepped, not_in_smm, after_boots, refused_goes}
use Rattle.hp_sealed.proofs.HandOver.{IsBefore}
use Rattle.hp_sealed.proofs.Starts.{sound}
use Rattle.hp_sealed.proofs.Runs.{made}
use Rattle.hp_safety.specs.Departures.{is_nobody, leaves_by_block}
use Rattle.hp_safety.proofs.EachRow.{row_of_each}
use Rattle.hp_safety.proofs.Invariant.{facts_of, Met, Invariant}
use Rattle.hp_safety.proofs.Keeps.{AtRow, row_stands}
use Rattle.hp_safety.proofs.Marked.{at_monarch}
use Rattle.hp_safety.proofs.Runs.{IsHanded}
use Rattle.hp_safety.proofs.Named.{Told, told_first, told_on}
use Rattle.hp_safety.proofs.Accounting.{outside_none}
use Rattle.hp_safety.proofs.Held.{boot_event}

-- an access that doesn't write the register block leaves each processor there
stays_unblocked : (p : Platform) (k : ℕ) (b : Bool) (a : Access) (s : State) → writes_block a ≡ false → (j : ℕ) → Stays (at s j) (at (access_effect p k b a s) j)
stays_unblocked p k b (Load addr width) s n j = stays_same (at s j)
stays_unblocked p k b (Store addr width value) s n j = stays_same (at s j)
stays_unblocked p k b (Swap addr expected desired) s n j = stays_same (at s j)
stays_unblocked p k b (In port width) s n j = pick (λ (t : State). Stays (at s j) (at t j)) (is_fw_cfg_data port width) (record s { fw_cfg = advanced 1 s.fw_cfg }) s (stays_same (at s j)) (stays_same (at s j))
stays_unblocked p k b (Out port width value) s n j =
    pick_by (λ (t : State). Stays (at s j) (at t j)) (is_on_block port) (write_block (port - 0xcd8) width value s) _ (λ e. absurd (let both = sym e ∙ n in cc))
    (λ e. pick (λ (t : State). Stays (at s j) (at t j)) (is_fw_cfg_selector port width) (record s { fw_cfg = selected value s.fw_cfg }) _ (stays_same (at s j))
    (pick (λ (t : State). Stays (at s j) (at t j)) (is_dma_high port width) (record s { fw_cfg = with_high value s.fw_cfg }) _ (stays_same (at s j))
    (pick (λ (t : State). Stays (at s j) (at t j)) (is_dma_low port width) (start_transfer value s) (write_ich9 p k port width value s) (stays_same (at s j))
    (pick (λ (cs : List Cpu). Stays (at s j) (cpu_at cs j)) (raises_smi s.ich9 port width) (smi_raised (has_broadcast s.fw_cfg.negotiated) k p.apic s.cpus) s.cpus (stays_raised (has_broadcast s.fw_cfg.negotiated) k p.apic s.cpus j) (stays_same (at s j))))))
stays_unblocked p k b (CfgRead reg) s n j = stays_same (at s j)
stays_unblocked p k b (CfgWrite reg value) s n j = stays_same (at s j)
stays_unblocked p k b (Icr high low) s n j = stays_sent (decoded p.x2apic high low) (apic_of p k) p.apic s.cpus j
stays_unblocked p k b Halt s n j = stays_set s.cpus k (halt (at s k)) (stays_halt (at s k)) j
stays_unblocked p k b Nop s n j = stays_same (at s j)

-- each row but E4b leaves each processor there
abbrev StaysAll : Platform → ℕ → State → Option Want → Type 0
StaysAll p k s None = Unit {0}
StaysAll p k s (Some (want.Do a)) = (j : ℕ) → Stays (at s j) (at (access_effect p k true a s) j)
StaysAll p k s (Some (want.Tell o)) = Unit {0}
StaysAll p k s (Some want.Resume) = Unit {0}

-- a want that doesn't write it
abbrev writes_wanted : Option Want → Bool
writes_wanted None = false
writes_wanted (Some (want.Do a)) = writes_block a
writes_wanted (Some (want.Tell o)) = false
writes_wanted (Some want.Resume) = false

stays_wanted : (p : Platform) (k : ℕ) (s : State) (w : Option Want) → writes_wanted w ≡ false → StaysAll p k s w
stays_wanted p k s None n = tt
stays_wanted p k s (Some (want.Do a)) n = stays_unblocked p k true a s n
stays_wanted p k s (Some (want.Tell o)) n = tt
stays_wanted p k s (Some want.Resume) n = tt

pub row_stays : (p : Platform) (k : ℕ) (s : State) (q : Seat) (r : Monarch) (ws : List Write) (l : Label) → Met p r ws q.apic q.base l → same_label l E4b ≡ false → StaysAll p k s (want_at (layout_of p) q r l)
row_stays p k s q r ws l met not = row_of_each (λ l. same_label l E4b ≡ false → StaysAll p k s (want_at (layout_of p) q r l)) (record {
  f1 = λ n. stays_wanted p k s (want_at (layout_of p) q r F1) refl;
  f2 = λ n. stays_wanted p k s (want_at (layout_of p) q r F2) refl;
  f3 = λ n. stays_wanted p k s (want_at (layout_of p) q r F3) refl;
  f4 = λ n. stays_wanted p k s (want_at (layout_of p) q r F4) refl;
  f5 = λ n. stays_wanted p k s (want_at (layout_of p) q r F5) refl;
  f6 = λ n. tt;
  r1 = λ n. stays_wanted p k s (want_at (layout_of p) q r R1) refl;
  r2 = λ n. stays_wanted p k s (want_at (layout_of p) q r R2) refl;
  r3 = λ n. stays_wanted p k s (want_at (layout_of p) q r R3) refl;
  r4 = λ n. stays_wanted p k s (want_at (layout_of p) q r R4) refl;
  r5 = λ n. tt;
  r6 = λ n. stays_wanted p k s (want_at (layout_of p) q r R6) refl;
  s0 = λ n. stays_wanted p k s (want_at (layout_of p) q r S0) refl;
  s1 = λ n. stays_wanted p k s (want_at (layout_of p) q r S1) refl;
  s2 = λ n. stays_wanted p k s (want_at (layout_of p) q r S2) refl;
  s3 = λ n. stays_wanted p k s (want_at (layout_of p) q r S3) refl;
  s4 = λ n. stays_wanted p k s (want_at (layout_of p) q r S4) refl;
  c1 = λ n j. stays_block 0 4 r.collection.cpu s refl j;
  c2 = λ n j. stays_block 5 1 0 s refl j;
  c3 = λ n. stays_wanted p k s (want_at (layout_of p) q r C3) refl;
  c4 = λ n. stays_wanted p k s (want_at (layout_of p) q r C4) refl;
  c5 = λ n j. stays_block 5 1 3 s refl j;
  c6 = λ n. stays_wanted p k s (want_at (layout_of p) q r C6) refl;
  nb = λ n. stays_wanted p k s (want_at (layout_of p) q r NB) refl;
  n0 = λ n. stays_wanted p k s (want_at (layout_of p) q r N0) refl;
  n1 = λ n. stays_wanted p k s (want_at (layout_of p) q r N1) refl;
  n2 = λ n. stays_wanted p k s (want_at (layout_of p) q r N2) refl;
  n3 = λ n. stays_wanted p k s (want_at (layout_of p) q r N3) refl;
  n4 = λ n. stays_wanted p k s (want_at (layout_of p) q r N4) refl;
  n5 = λ n. stays_wanted p k s (want_at (layout_of p) q r N5) refl;
  n6 = λ n. stays_wanted p k s (want_at (layout_of p) q r N6) refl;
  n7 = λ n. stays_wanted p k s (want_at (layout_of p) q r N7) refl;
  n8a = λ n. stays_wanted p k s (want_at (layout_of p) q r N8a) refl;
  n8b = λ n. stays_wanted p k s (want_at (layout_of p) q r N8b) refl;
  n9 = λ n. stays_wanted p k s (want_at (layout_of p) q r N9) refl;
  n10 = λ n. stays_wanted p k s (want_at (layout_of p) q r N10) refl;
  n11 = λ n. stays_wanted p k s (want_at (layout_of p) q r N11) refl;
  e0 = λ n. stays_wanted p k s (want_at (layout_of p) q r E0) refl;
  e1 = λ n. stays_wanted p k s (want_at (layout_of p) q r E1) refl;
  e2 = λ n. stays_wanted p k s (want_at (layout_of p) q r E2) refl;
  e3 = λ n. stays_wanted p k s (want_at (layout_of p) q r E3) refl;
  e4a = λ n j. stays_block 0 4 r.eject.cpu s refl j;
  e4b = λ n. absurd cc;
  e4c = λ n. stays_wanted p k s (want_at (layout_of p) q r E4c) refl;
  e4d = λ n. stays_wanted p k s (want_at (layout_of p) q r E4d) refl;
  e4e = λ n. stays_wanted p k s (want_at (layout_of p) q r E4e) refl;
  e4f = λ n j. stays_block 0 4 r.eject.cpu s refl j;
  e4g = λ n. stays_wanted p k s (want_at (layout_of p) q r E4g) refl;
  e4h = λ n. stays_wanted p k s (want_at (layout_of p) q r E4h) refl;
  t = λ n. tt;
  e5 = λ n. stays_wanted p k s (want_at (layout_of p) q r E5) refl;
  e6 = λ n. stays_wanted p k s (want_at (layout_of p) q r E6) refl;
  e7 = λ n. tt;
}) (facts_of p r ws q.apic q.base) l met not

-- whoever was there still is
abbrev Remains : State → State → Type 0
Remains s t = (j : ℕ) → (at s j).present ≡ true → (at t j).present ≡ true

abbrev Keeps : Cpu → Cpu → Type 0
Keeps c d = c.present ≡ true → d.present ≡ true

remains_set : (s t : State) (k : ℕ) (d : Cpu) → t.cpus ≡ slice_set s.cpus k d → Keeps (at s k) d → Remains s t
remains_set s t k d is here j = subst (λ cs. Keeps (at s j) (cpu_at cs j)) (sym is) (at_set Keeps s.cpus k d (λ i f. f) here j)

remains_next : (s u : State) (k b : ℕ) (n : Next) → ((j : ℕ) → Stays (at s j) (at u j)) → Remains s (with_next k b n u)
remains_next s u k b n stays j f =
    remains_set u (with_next k b n u) k (moved_in_smm b n (at u k)) refl (pick (Keeps (at u k)) (stands_in_smm (at u k)) (moved (address_of_label b n.label) n.base (at u k)) (at u k) (λ g. g) (λ g. g)) j ((stays j).present ∙ f)

-- or it was by a write of the register block
abbrev Departs : Platform → State → Entry → State → Type 0
Departs p s e t = Remains s t ⊎ ((is_at p E4b e || interferes e) ≡ true)

either_last : (c d : Bool) → d ≡ true → (c || d) ≡ true
either_last true d e = refl
either_last false d e = e

departs_outside : (p : Platform) (s : State) (k : ℕ) (a : Access) (e : Entry) → e.event ≡ Do k a → e.at ≡ None → Departs p s e (access_effect p k false a s)
departs_outside p s k a e event place = by_writes (writes_block a) refl
  where
    by_writes : (c : Bool) → writes_block a ≡ c → Departs p s e (access_effect p k false a s)
    by_writes true w = inr (either_last (is_at p E4b e) (interferes e) (rw (place, event, w) refl))
    by_writes false w = inl (λ j f. (stays_unblocked p k false a s w j).present ∙ f)

departs_row : (p : Platform) (m : List Write) (s : State) (k : ℕ) (l : Label) (e : Entry) (a : Access) (w : Option Want) → Sound p → Invariant p m s → AtRow p s k l → smm_address (at s k) ≡ e.at → want_at (layout_of p) (seat p s k) s.monarch l ≡ w → is_that_access w a ≡ true → Departs p s e (row_effect p s k (answer_to true a s) (Some l) (access_effect p k true a s))
departs_row p m s k l e a None sound h here place is f = absurd cc
departs_row p m s k l e a (Some (want.Do b)) sound h here place is f = by_label (same_label l E4b) refl
  where
    by_label : (c : Bool) → same_label l E4b ≡ c → Departs p s e (row_effect p s k (answer_to true a s) (Some l) (access_effect p k true a s))
    by_label true same =
        let label : l ≡ E4b = label_same l E4b (eqb-true (mark_of l) (mark_of E4b) same) in
        let mine : handler_of l ≡ Monarchs = ap handler_of label in
        let base = eqb-true (at s k).smbase (tile p 0) (and_parts (k == 0) ((at s k).smbase == tile p 0) (subst (λ q. runs_at (layout_of p) q k (at s k).smbase ≡ true) mine here.cell.runs)).1 in
        let there : is_at p E4b e ≡ true = at_monarch p l E4b e (at s k).smbase base (sym place ∙ (here.is ∙ ap Some here.cell.here)) refl ∙ ap (λ x. index_of x == 30) label in
        inr (rw there refl)
    by_label false other =
        let stays = subst (StaysAll p k s) is (row_stays p k s (seat p s k) s.monarch s.writes l here.cell.met other) in
        inl (remains_next s (access_effect p k true a s) k (at s k).smbase (next_at (layout_of p) (seat p s k) s.monarch l (value_in (answer_to true a s))) (λ j. subst (λ c. Stays (at s j) (at (access_effect p k true c s) j)) (sym (same_access-equal a b f)) (stays j)))
departs_row p m s k l e a (Some (want.Tell o)) sound h here place is f = absurd cc
departs_row p m s k l e a (Some want.Resume) sound h here place is f = absurd cc

departs_event : (p : Platform) (m : List Write) (s : State) (e : Entry) (v : Event) → Sound p → Invariant p m s → e.event ≡ v → address_of s v ≡ e.at → is_enabled p s v ≡ true → is_handlers p s v ≡ true → Departs p s e (handlers_effect p s v (effect_of p s v))
departs_event p m s e (Insert k) sound h event place may wanted = inl (remains_set s (insert k s) k inserted refl (λ f. refl))
departs_event p m s e (Remove k) sound h event place may wanted = inl (λ j f. f)
departs_event p m s e (Do k a) sound h event place may wanted = by_mode (is_in_smm (at s k).mode) refl wanted
  where
    by_mode : (b : Bool) → is_in_smm (at s k).mode ≡ b → (not b || is_that_access (wanted_at (layout_of p) s.monarch (seat p s k) (label_at p s k)) a) ≡ true → Departs p s e (cond b (row_effect p s k (answer_to b a s) (label_at p s k) (access_effect p k b a s)) (access_effect p k b a s))
    by_mode true mode f = by_row (label_at p s k) refl f
      where
        by_row : (o : Option Label) → label_at p s k ≡ o → is_that_access (wanted_at (layout_of p) s.monarch (seat p s k) o) a ≡ true → Departs p s e (row_effect p s k (answer_to true a s) o (access_effect p k true a s))
        by_row None is f = absurd cc
        by_row (Some l) is f = departs_row p m s k l e a (want_at (layout_of p) (seat p s k) s.monarch l) sound h (row_stands p m s k l sound h is) place refl f
    by_mode false mode f = departs_outside p s k a e event (sym place ∙ outside_none (at s k) mode)
departs_event p m s e (TakeSmi k) sound h event place may wanted =
    inl (pick (Remains s) (k == 0) (record (enter_smm k s) { monarch = restarted s.monarch }) (enter_smm k s) (remains_set s (record (enter_smm k s) { monarch = restarted s.monarch }) k (take_smi (at s k)) refl (λ f. f)) (remains_set s (enter_smm k s) k (take_smi (at s k)) refl (λ f. f)))
departs_event p m s e (TakeInit k) sound h event place may wanted = inl (remains_set s (set_cpu k (take_init (at s k)) s) k (take_init (at s k)) refl (λ f. f))
departs_event p m s e (Resume k) sound h event place may wanted = inl (remains_set s (leave_smm k s) k (resumed (saved_smbase s.locks s.writes (at s k)) (saved_rip s.locks s.writes (at s k)) (at s k)) refl (λ f. f))
departs_event p m s e (Tell o) sound h event place may wanted = inl (by_row (label_at p s 0))
  where
    by_row : (l : Option Label) → Remains s (row_effect p s 0 Quiet l s)
    by_row None = λ j f. f
    by_row (Some l) = remains_next s s 0 (at s 0).smbase (next_at (layout_of p) (seat p s 0) s.monarch l (value_in Quiet)) (λ j. stays_same (at s j))

departs_led : (p : Platform) (m : List Write) (s : State) (e : Entry) (g : Stage) → Sound p → Invariant p m s → is_handed g ≡ true → address_of s e.event ≡ e.at → is_enabled p s e.event ≡ true → wanted_in p s g e.event ≡ true → Departs p s e (firmware_effect p s g e.event (effect_of p s e.event))
departs_led p m s e (Boots done supported) sound h handed place may wanted = absurd cc
departs_led p m s e (Refused fact) sound h handed place may wanted = absurd cc
departs_led p m s e (Handed requested) sound h handed place may wanted = departs_event p m s e e.event sound h refl place may wanted

departs : (p : Platform) (s t : State) (e : Entry) → Sound p → IsHanded p s → run_on p s e ≡ Some t → Departs p s e t
departs p s t e sound h on =
    let m = made p s e t on in
    let g = stepped p s e.event m.after m.step in
    subst (Departs p s e) (ap (λ (x : After). x.state) g.is ∙ m.state) (departs_led p s.writes s e s.stage sound h h.handed m.place g.enabled g.wanted)

-- before the hand-over
departs_boot : (p : Platform) (s t : State) (e : Entry) → IsBefore p s → run_on p s e ≡ Some t → Departs p s e t
departs_boot p s t e (inl b) on =
    let m = made p s e t on in
    let g = stepped p s e.event m.after m.step in
    let event = boot_event p s e.event m.after b m.step in
    let access = boot_access p.tseg_mib b.supported b.done in
    let none : e.at ≡ None = sym m.place ∙ (ap (address_of s) event ∙ b.holds.cpus.outside 0) in
    let mode = not_in_smm (at s 0) b.holds.cpus.first (b.holds.cpus.outside 0) in
    subst (Departs p s e) (sym (after_boots p s b.done b.supported access b.stage mode) ∙ (ap (λ x. (after p s x).state) (sym event) ∙ (ap (λ (x : After). x.state) g.is ∙ m.state))) (departs_outside p s 0 access e event none)
departs_boot p s t e (inr b) on = let m = made p s e t on in absurd (refused_goes p s e.event m.after b m.step)

-- so the test passes
none_filtered : (g : ℕ → Bool) (xs : List ℕ) → ((k : ℕ) → g k ≡ false) → is_nobody (filter g xs) ≡ true
none_filtered g [] h = refl
none_filtered g (x ∷ xs) h = rw (h x) (none_filtered g xs h)

passes_test : (p : Platform) (past : List Transition) (s t : State) (e : Entry) → Departs p s e t → leaves_by_block p past (step_made s e t) ≡ true
passes_test p past s t e (inl remains) = let none = none_filtered (has_left (step_made s e t)) (places (count_of p)) (λ k. by_presence (at s k).present (at t k).present (remains k)) in rw none refl
  where
    by_presence : (c d : Bool) → (c ≡ true → d ≡ true) → (c && not d) ≡ false
    by_presence true true f = refl
    by_presence true false f = absurd (let g = f refl in cc)
    by_presence false d f = refl
passes_test p past s t e (inr by_block) = either_last (is_nobody (left_in p (step_made s e t))) (is_at p E4b e || interferes e) by_block

pub departures_law : (p : Platform) (es : List Entry) → IsFit p → at_each (leaves_by_block p) (transitions p es) ≡ true
departures_law p es fits =
    each_passes p (Told p) (told_on p fits) (leaves_by_block p) (λ past s t e h on. passes_test p past s t e (elim h [ inl b ↦ departs_boot p s t e b.0 on | inr k ↦ departs p s t e (sound p fits) k.0 on ])) (told_first p fits) es
