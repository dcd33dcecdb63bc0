-- From the start to the hand-over: no session has begun, the register block becomes modern, and the release bytes of slots that aren't bound are 0.
use Rattle.std.proofs.Common.{ℕ, ◌≡◌, ◌≢◌, ◌+◌, ◌*◌, ◌%◌, ◌^◌, ◌<◌, ◌≤◌, ◌==◌, ◌⊎◌, inl, inr, Bool, true, false, cond, not, ◌&&◌, ◌||◌, nat_lt, nat_le, List, [], ◌∷◌, length, take, Option, Some, None, refl, sym, ap, subst, ◌∙◌, arith, if◌then◌else◌}
use Rattle.std.specs.Prelude.{slice_index_or}
use Rattle.std.proofs.lemmas.Bool.{eqb-true, leb-true}
use Rattle.std.proofs.lemmas.Bool.Decides.{nat_tests}
use Rattle.std.proofs.lemmas.List.{length-map}
use Rattle.hp_model.specs.declared.platforms.Platform.{Platform}
use Rattle.hp_model.specs.declared.accesses.Access.{Access}
use Rattle.hp_model.specs.declared.accesses.Access.TheVariants.{In}
use Rattle.hp_model.specs.declared.outcomes.BootFact.{BootFact}
use Rattle.hp_model.specs.declared.outcomes.BootFact.TheVariants.{NotModern}
use Rattle.hp_model.specs.declared.entries.Event.TheVariants.{Do}
use Rattle.hp_model.specs.declared.entries.Entry.{Entry}
use Rattle.hp_model.specs.Platform.{tseg, count_of, apic_of, is_late}
use Rattle.hp_model.specs.Memory.{byte_at}
use Rattle.hp_model.specs.Cpu.{cpu_at}
use Rattle.hp_model.specs.Block.{Slot, no_slot, bitmap, first_places, block_read}
use Rattle.hp_model.specs.Boot.{Stage, Boots, Refused, Handed, is_handed, ext_count, boot_accesses, boot_access, boot_refusal, value_in, stage_by}
use Rattle.hp_model.specs.SharedBytes.{layout_of, release_byte}
use Rattle.hp_model.specs.Slots.{boot_ids}
use Rattle.hp_model.specs.Monarch.{monarch_start, with_features}
use Rattle.hp_model.specs.State.{State, at, start}
use Rattle.hp_model.specs.Access.{answer_to}
use Rattle.hp_model.specs.Firmware.{is_boots, wanted_in}
use Rattle.hp_model.specs.Step.{After, after}
use Rattle.hp_model.specs.Runs.{address_of, run_on}
use Rattle.hp_model.specs.Transitions.{Transition, entries_of, since, newest}
use Rattle.hp_model.specs.Sessions.{interferes, triples, disturbed_in}
use Rattle.hp_model.proofs.AtEach.{made}
use Rattle.hp_sealed.specs.Left.{Sound, LeavesLocked}
use Rattle.hp_sealed.specs.Sealed.{IsOutside}
use Rattle.hp_sealed.specs.Booting.{Booting, IsBooting}
use Rattle.hp_sealed.proofs.Places.{tseg_locked}
use Rattle.hp_sealed.proofs.BootLocks.{locked_by}
use Rattle.hp_sealed.proofs.Goes.{stepped, not_in_smm, boot_leaves, boot_goes, reached, boots_event, after_boots}
use Rattle.hp_sealed.proofs.Runs.{made as made_by}
use Rattle.hp_safety.proofs.Marked.{at_none}
use Rattle.hp_safety.proofs.Runs.{IsGood}
use Rattle.hp_sealed.proofs.Starts.{sound}
use Rattle.hp_exact.proofs.Account.{Account, account_start, account, account_more}
use Rattle.hp_exact.proofs.Tying.{account_other, early_tied}
use Rattle.hp_exact.proofs.Latching.{latches_out}
use Rattle.hp_exact.proofs.Agreeing.{agrees_acted, modern_acted, agrees_start}
use Rattle.hp_exact.proofs.Invariant.{Agrees, Parts, Invariant, last_read}
use Rattle.hp_exact.proofs.BootReleases.{image_none, memory_none}

-- the register block is modern from the fourth access on
abbrev pub is_modern_due : Stage → Bool
is_modern_due (Boots done supported) = nat_lt 3 done
is_modern_due (Refused fact) = false
is_modern_due (Handed requested) = true

-- the stage goes on
abbrev pub may_go_on : Stage → Bool
may_go_on (Boots done supported) = true
may_go_on (Refused fact) = false
may_go_on (Handed requested) = true

-- before the hand-over
pub record Begun (p : Platform) (past : List Transition) (s : State) : Type 0 where
  pub told : account p (entries_of past) ≡ account_start
  pub agrees : Agrees p s.block s.cpus
  pub modern : is_modern_due s.stage ≡ true → s.block.modern ≡ true
  pub bytes : may_go_on s.stage ≡ true → (slot : ℕ) → 1 ≤ slot → length p.boot ≤ slot → slot < 0x1000 → byte_at s.writes (release_byte (layout_of p) slot) ≡ 0

told_none : (p : Platform) → account p [] ≡ account_start
unfolding since newest triples disturbed_in
told_none p = refl

pub begins : (p : Platform) → Sound p → Begun p [] (start p)
begins p sound = record { told = told_none p; agrees = agrees_start p; modern = λ e. absurd cc; bytes = λ e slot some past small. image_none p slot sound some past small }

pub record BootStep (p : Platform) (s : State) (e : Entry) (t : State) : Type 0 where
  pub done : ℕ
  pub supported : ℕ
  pub stage : s.stage ≡ Boots done supported
  pub holds : Booting p done s
  pub event : e.event ≡ Do 0 (boot_access p.tseg_mib supported done)
  pub place : e.at ≡ None
  pub is : reached p s done supported (boot_access p.tseg_mib supported done) ≡ t

pub boot_step : (p : Platform) (s : State) (e : Entry) (t : State) → IsBooting p s → run_on p s e ≡ Some t → BootStep p s e t
boot_step p s e t h is =
    let mk = made_by p s e t is in
    let st = stepped p s e.event mk.after mk.step in
    let wanted : is_boots p.tseg_mib h.done h.supported e.event ≡ true = subst (λ g. wanted_in p s g e.event ≡ true) h.stage st.wanted in
    let b = boot_access p.tseg_mib h.supported h.done in
    let event : e.event ≡ Do 0 b = boots_event p.tseg_mib h.done h.supported e.event wanted in
    let mode = not_in_smm (at s 0) h.holds.cpus.first (h.holds.cpus.outside 0) in
    record {
      done = h.done;
      supported = h.supported;
      stage = h.stage;
      holds = h.holds;
      event = event;
      place = sym mk.place ∙ (ap (address_of s) event ∙ h.holds.cpus.outside 0);
      is = sym (after_boots p s h.done h.supported b h.stage mode) ∙ (ap (λ v. (after p s v).state) (sym event) ∙ (ap (λ (a : After). a.state) st.is ∙ mk.state));
    }

-- the account sees none of it
boot_told : (p : Platform) (past : List Transition) (e : Entry) (a : Access) → e.event ≡ Do 0 a → e.at ≡ None → account p (entries_of past) ≡ account_start → account p (e ∷ entries_of past) ≡ account_start
boot_told p past e a event place told =
    account_more p e (entries_of past) (rw event refl) ∙ (account_other p e (account p (entries_of past)) (λ m part. at_none p m e place) ∙ subst (λ (x : Account). record x { disturbed = if interferes e then (x.sent && not x.closed) || x.disturbed else x.disturbed } ≡ account_start) (sym told) (by_flag (interferes e)))
  where
    by_flag : (w : Bool) → record account_start { disturbed = if w then (false && not false) || false else false } ≡ account_start
    by_flag true = refl
    by_flag false = refl

-- what the fourth access reads: 0 from a modern block, and the legacy form shows processor 0
odd : (ss : List Slot) → (slice_index_or ss 0 no_slot).enabled ≡ true → (bitmap (first_places ss) % 256 ^ 4 == 0) ≡ false
unfolding first_places
odd [] e = absurd cc
odd (x ∷ xs) e = rw e (plain (bitmap (take 31 xs)))
  where
    plain : (n : ℕ) → ((1 + 2 * n) % 256 ^ 4 == 0) ≡ false
    plain n = let r : (1 + 2 * n) % 4294967296 ≢ 0 = omega arith in not_0 ((1 + 2 * n) % 4294967296) r
      where
        not_0 : (m : ℕ) → m ≢ 0 → (m == 0) ≡ false
        not_0 m n = grind (arith, nat_tests)

modern_read : (p : Platform) (s : State) → Agrees p s.block s.cpus → (at s 0).present ≡ true → (block_read s.block 0 4 == 0) ≡ true → s.block.modern ≡ true
modern_read p s agrees first none = by_form s.block.modern refl
  where
    by_form : (b : Bool) → s.block.modern ≡ b → s.block.modern ≡ true
    by_form true is = is
    by_form false is =
        absurd (
        let read : block_read s.block 0 4 ≡ bitmap (first_places s.block.slots) % 256 ^ 4 = rw is refl in
        let some = odd s.block.slots (agrees.enabled 0 ∙ first) in
        let here : (block_read s.block 0 4 == 0) ≡ false = rw read some in
        let both : true ≡ false = sym none ∙ here in
        cc)

-- where the stage leads
stage_next : (mib : ℕ) (o : Option BootFact) (done supported v n w : ℕ) → stage_by mib o done supported v ≡ Boots n w → n ≡ done + 1
stage_next mib (Some fact) done supported v n w e = absurd cc
stage_next mib None done supported v n w e = by_last (done == 26 + ext_count mib) e
  where
    by_last : (b : Bool) → cond b (Handed (supported % 8)) (Boots (done + 1) (if done == 20 + ext_count mib then v else supported)) ≡ Boots n w → n ≡ done + 1
    by_last true f = absurd cc
    by_last false f = let g : Boots (done + 1) (if done == 20 + ext_count mib then v else supported) ≡ Boots n w = f in sym (ap done_of g)
      where
        done_of : Stage → ℕ
        done_of (Boots a b) = a
        done_of (Refused fact) = 0
        done_of (Handed requested) = 0

stage_last : (mib : ℕ) (o : Option BootFact) (done supported v : ℕ) → is_handed (stage_by mib o done supported v) ≡ true → done ≡ 26 + ext_count mib
stage_last mib (Some fact) done supported v e = absurd cc
stage_last mib None done supported v e = by_last (done == 26 + ext_count mib) refl e
  where
    by_last : (b : Bool) → (done == 26 + ext_count mib) ≡ b → is_handed (cond b (Handed (supported % 8)) (Boots (done + 1) (if done == 20 + ext_count mib then v else supported))) ≡ true → done ≡ 26 + ext_count mib
    by_last true is f = eqb-true done (26 + ext_count mib) is
    by_last false is f = absurd cc

early : (more n : ℕ) → (n == 3) ≡ false → nat_lt 3 n ≡ false → (n ≡ 26 + more) ⊎ (nat_lt 3 (n + 1) ≡ true) → ⊥
early more n a c (inl d) = grind (arith, nat_tests)
early more n a c (inr d) = grind (arith, nat_tests)

late : (more n : ℕ) → nat_le (n + 1) (17 + more) ≡ false → 17 + more ≤ n
late more n f = grind (arith, nat_tests)

inside : (base top size slot n : ℕ) → top ≡ base + size → n + 0x20000 ≤ size → slot < 0x1000 → (nat_le base (base + 0x1000 + slot) && nat_lt (base + 0x1000 + slot) top) ≡ true
inside base top size slot n is room small = grind (arith, nat_tests)

high : (base slot : ℕ) → 0x800000 ≤ base → 0x800000 ≤ base + 0x1000 + slot
high base slot above = omega (arith, above)

fourth : (mib supported n : ℕ) → n ≡ 3 → boot_access mib supported n ≡ In 0xcd8 4
unfolding boot_access boot_accesses
fourth mib supported n e = rw e refl

-- a step of the boot
pub begun_goes : (p : Platform) (past : List Transition) (s t : State) (e : Entry) → Sound p → IsBooting p s → IsGood p t → run_on p s e ≡ Some t → Begun p past s → Begun p (made s e t ∷ past) t
begun_goes p past s t e sound booting good is h =
    record {
      told = boot_told p past e b step.event step.place h.told;
      agrees = subst (λ (u : State). Agrees p u.block u.cpus) step.is (agrees_acted p 0 false b s h.agrees);
      modern = modern;
      bytes = bytes;
    }
  where
    step : BootStep p s e t
    step = boot_step p s e t booting is

    b : Access
    b = boot_access p.tseg_mib step.supported step.done

    v : ℕ
    v = value_in (answer_to false b s)

    stage_is : t.stage ≡ stage_by p.tseg_mib (boot_refusal p.tseg_mib step.done v) step.done step.supported v
    stage_is = sym (ap (λ (u : State). u.stage) step.is)

    first : (at s 0).present ≡ true
    first = step.holds.cpus.first

    -- at the fourth, what is read isn't refused
    fourth_modern : step.done ≡ 3 → boot_refusal p.tseg_mib step.done v ≡ None → s.block.modern ≡ true
    fourth_modern three none =
        let access : b ≡ In 0xcd8 4 = fourth p.tseg_mib step.supported step.done three in
        let value : v ≡ block_read s.block 0 4 = ap (λ a. value_in (answer_to false a s)) access in
        let zero_read : (block_read s.block 0 4 == 0) ≡ true = subst (λ n. (n == 0) ≡ true) value (is_0 (v == 0) refl) in
        modern_read p s h.agrees first zero_read
      where
        is_0 : (c : Bool) → (v == 0) ≡ c → (v == 0) ≡ true
        is_0 true f = f
        is_0 false f = absurd (let refused : boot_refusal p.tseg_mib 3 v ≡ Some (NotModern v) = rw f refl in let both : None ≡ Some (NotModern v) = sym none ∙ (ap (λ n. boot_refusal p.tseg_mib n v) three ∙ refused) in cc)

    modern_by : (o : Option BootFact) → boot_refusal p.tseg_mib step.done v ≡ o → is_modern_due (stage_by p.tseg_mib o step.done step.supported v) ≡ true → s.block.modern ≡ true
    modern_by (Some fact) none e = absurd cc
    modern_by None none e = by_count (nat_lt 3 step.done) refl
      where
        by_three : (c : Bool) → (step.done == 3) ≡ c → nat_lt 3 step.done ≡ false → s.block.modern ≡ true
        by_three true f g = fourth_modern (eqb-true step.done 3 f) none
        by_three false f g = absurd (early (ext_count p.tseg_mib) step.done f g (pick_due (step.done == 26 + ext_count p.tseg_mib) refl e))
          where
            pick_due : (l : Bool) → (step.done == 26 + ext_count p.tseg_mib) ≡ l → is_modern_due (cond l (Handed (step.supported % 8)) (Boots (step.done + 1) (if step.done == 20 + ext_count p.tseg_mib then v else step.supported))) ≡ true → (step.done ≡ 26 + ext_count p.tseg_mib) ⊎ (nat_lt 3 (step.done + 1) ≡ true)
            pick_due true f g = inl (eqb-true step.done (26 + ext_count p.tseg_mib) f)
            pick_due false f g = inr g

        by_count : (c : Bool) → nat_lt 3 step.done ≡ c → s.block.modern ≡ true
        by_count true f = h.modern (rw step.stage f)
        by_count false f = by_three (step.done == 3) refl f

    modern : is_modern_due t.stage ≡ true → t.block.modern ≡ true
    modern e =
        let due : is_modern_due (stage_by p.tseg_mib (boot_refusal p.tseg_mib step.done v) step.done step.supported v) ≡ true = subst (λ g. is_modern_due g ≡ true) stage_is e in
        subst (λ (u : State). u.block.modern ≡ true) step.is (modern_acted p 0 false b s (modern_by (boot_refusal p.tseg_mib step.done v) refl due))

    -- once TSEG is locked the boot leaves these bytes
    left : 17 + ext_count p.tseg_mib ≤ step.done → (slot : ℕ) → 1 ≤ slot → length p.boot ≤ slot → slot < 0x1000 → byte_at t.writes (release_byte (layout_of p) slot) ≡ 0
    left locked slot some past_it small =
        let x = release_byte (layout_of p) slot in
        let mk = made_by p s e t is in
        let hidden = tseg_locked p s.locks x sound (locked_by p step.done s locked step.holds) (inside (tseg p) p.low_memory (0x100000 * p.tseg_mib) slot (0x10000 * count_of p) sound.top sound.room small) in
        let kept : LeavesLocked s t = subst (λ (u : State). LeavesLocked s u) mk.state (boot_leaves p s e.event mk.after booting mk.step) in
        (kept.left x hidden).byte ∙ h.bytes (rw step.stage refl) slot some past_it small

    bytes : may_go_on t.stage ≡ true → (slot : ℕ) → 1 ≤ slot → length p.boot ≤ slot → slot < 0x1000 → byte_at t.writes (release_byte (layout_of p) slot) ≡ 0
    bytes on slot some past_it small = by_good good
      where
        by_done : (k : IsBooting p t) → (c : Bool) → nat_le k.done (17 + ext_count p.tseg_mib) ≡ c → byte_at t.writes (release_byte (layout_of p) slot) ≡ 0
        by_done k true f =
            let memory = k.holds.memory (leb-true k.done (17 + ext_count p.tseg_mib) f) in
            ap (λ ws. byte_at ws (release_byte (layout_of p) slot)) memory ∙ (memory_none p k.done (release_byte (layout_of p) slot) (high (tseg p) slot sound.above) ∙ image_none p slot sound some past_it small)
        by_done k false f =
            let next : k.done ≡ step.done + 1 = stage_next p.tseg_mib (boot_refusal p.tseg_mib step.done v) step.done step.supported v k.done k.supported (sym stage_is ∙ k.stage) in
            left (late (ext_count p.tseg_mib) step.done (subst (λ n. nat_le n (17 + ext_count p.tseg_mib) ≡ false) next f)) slot some past_it small

        by_good : IsGood p t → byte_at t.writes (release_byte (layout_of p) slot) ≡ 0
        by_good (inl k) = by_done k (nat_le k.done (17 + ext_count p.tseg_mib)) refl
        by_good (inr (inl k)) = absurd (let f : may_go_on (Refused k.fact) ≡ true = subst (λ g. may_go_on g ≡ true) k.stage on in cc)
        by_good (inr (inr k)) =
            let last = stage_last p.tseg_mib (boot_refusal p.tseg_mib step.done v) step.done step.supported v (subst (λ g. is_handed g ≡ true) stage_is k.handed) in
            left (let more = last in omega (arith, more)) slot some past_it small

-- the hand-over
pub hands_over : (p : Platform) (past : List Transition) (t : State) → Begun p past t → is_handed t.stage ≡ true → IsOutside p t → Invariant p past t
hands_over p past t h handed outside =
    subst (λ r. Parts p (account p (entries_of past)) (last_read p past) t.block t.cpus t.writes r t.disturbed) (sym outside.begun)
    (subst (λ a. Parts p a (last_read p past) t.block t.cpus t.writes (with_features t.monarch.features (monarch_start p)) t.disturbed) (sym h.told)
    (record {
      rests = λ _. refl;
      ordered = record { looking = λ e. absurd cc; rising = refl; below = λ e. absurd cc; possible = λ e. absurd cc };
      tied = early_tied account_start (with_features t.monarch.features (monarch_start p)) t.disturbed refl refl refl refl (refl, refl, refl) refl;
      modern = h.modern (due t.stage handed);
      agrees = h.agrees;
      released = λ slot some small e. h.bytes (on t.stage handed) slot some (leb-true (length p.boot) slot (subst (λ n. nat_le n slot ≡ true) (length-map p.boot (apic_of p)) (first (nat_le (length (boot_ids p)) slot) e))) small;
      latched = λ k. latches_out _ k (cpu_at t.cpus k) (outside.outside k) (λ c n present out. absurd (never (not (is_late p.delivery)) c));
      calm = λ c. absurd (never (not (is_late p.delivery)) c);
      undisturbed = λ after _. absurd cc;
      wakes = λ prompt e. absurd cc;
    }))
  where
    never : (x : Bool) → (x && false) ≡ true → ⊥
    never true f = cc
    never false f = cc

    first : (a : Bool) → (a || (false || (false || false))) ≡ true → a ≡ true
    first true e = refl
    first false e = absurd cc

    due : (g : Stage) → is_handed g ≡ true → is_modern_due g ≡ true
    due (Boots done supported) e = absurd cc
    due (Refused fact) e = absurd cc
    due (Handed requested) e = refl

    on : (g : Stage) → is_handed g ≡ true → may_go_on g ≡ true
    on (Boots done supported) e = absurd cc
    on (Refused fact) e = absurd cc
    on (Handed requested) e = refl

-- a step of the boot that hands over leaves everybody outside SMM
pub sealed_outside : (p : Platform) (s t : State) (e : Entry) → Sound p → IsBooting p s → run_on p s e ≡ Some t → is_handed t.stage ≡ true → IsOutside p t
sealed_outside p s t e sound booting is handed =
    let mk = made_by p s e t is in
    let next = (boot_goes p s e.event mk.after sound booting mk.step).0 in
    elim next [
      | inl k ↦ absurd (let stage : mk.after.state.stage ≡ t.stage = ap (λ (u : State). u.stage) mk.state in let f : is_handed (Boots k.done k.supported) ≡ true = subst (λ g. is_handed g ≡ true) (sym stage ∙ k.stage) handed in cc)
      | inr k ↦ elim k [
        | inl r ↦ absurd (let stage : mk.after.state.stage ≡ t.stage = ap (λ (u : State). u.stage) mk.state in let f : is_handed (Refused r.fact) ≡ true = subst (λ g. is_handed g ≡ true) (sym stage ∙ r.stage) handed in cc)
        | inr c ↦ subst (IsOutside p) mk.state c.cpus
      ]
    ]
