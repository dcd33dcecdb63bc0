-- A row of the monarch's leaves each other processor in SMM, waiting, or with its SMI latch set: S2 latches an SMI on all of them.
use Rattle.std.proofs.Common.{ℕ, ◌≡◌, ◌≢◌, ◌+◌, ◌<◌, ◌≤◌, ◌==◌, inl, inr, Bool, true, false, not, ◌&&◌, ◌||◌, nat_lt, List, [], ◌∷◌, length, Option, Some, None, refl, sym, subst, ◌∙◌, arith, if◌then◌else◌}
use Rattle.std.proofs.lemmas.Bool.{and_parts, and_from, eqb-true}
use Rattle.std.proofs.lemmas.Bool.Decides.{nat_tests}
use Rattle.hp_model.specs.declared.platforms.Platform.{Platform}
use Rattle.hp_model.specs.declared.processors.Cpu.{Cpu}
use Rattle.hp_model.specs.declared.processors.Kind.TheVariants.{Smi, Start}
use Rattle.hp_model.specs.declared.processors.Target.TheVariants.{Id, Others}
use Rattle.hp_model.specs.declared.accesses.Access.{Access}
use Rattle.hp_model.specs.declared.accesses.Want.{Want}
use Rattle.hp_model.specs.declared.accesses.Want.TheVariants as want
use Rattle.hp_model.specs.declared.labels.Label.{Label}
use Rattle.hp_model.specs.declared.labels.Label.TheVariants.{F1, F2, F3, F4, F5, F6, R1, R2, R3, R4, R5, R6, S0, S1, S2, N5, N6, E4b, T, E6, E7}
use Rattle.hp_model.specs.Platform.{tseg, tile, count_of, apic_of, is_late, high_half}
use Rattle.hp_model.specs.Cpu.{absent, cpu_at, is_waiting, moved}
use Rattle.hp_model.specs.Block.{block_write, ejected_by}
use Rattle.hp_model.specs.Interrupts.{destination, is_target, hit_each}
use Rattle.hp_model.specs.declared.labels.Handler.TheVariants.{Monarch as Monarchs}
use Rattle.hp_model.specs.Labels.{handler_of, index_of}
use Rattle.hp_model.specs.SharedBytes.{Layout, layout_of}
use Rattle.hp_model.specs.Monarch.{Monarch, at_label}
use Rattle.hp_model.specs.Handlers.{Seat, Next, want_at, next_at, address_of_label}
use Rattle.hp_model.specs.State.{State, at}
use Rattle.hp_model.specs.Ports.{without_ejected}
use Rattle.hp_model.specs.Access.{access_effect, stands_in_smm}
use Rattle.hp_model.specs.Firmware.{seat, moved_in_smm}
use Rattle.hp_model.specs.Step.{is_after_broadcast}
use Rattle.hp_sealed.specs.Left.{Sound}
use Rattle.hp_sealed.proofs.Left.{pick}
use Rattle.hp_sealed.proofs.Stay.{at_set}
use Rattle.hp_sealed.proofs.Outside.{acts}
use Rattle.hp_safety.proofs.Marked.{same_index}
use Rattle.hp_exact.proofs.Stood.{IsStood}
use Rattle.hp_exact.proofs.Stepping.{AtMonarch, led_on}
use Rattle.hp_exact.proofs.Monarchs.{is_among}
use Rattle.hp_exact.proofs.Naming.{Ids, aimed, Own, one_cpu}
use Rattle.hp_exact.proofs.Hits.{struck, strikes, AllAlike, row_alike, keeps_acted}
use Rattle.hp_exact.proofs.Latching.{Latches, latches_alike, latches_absent, latches_less, latches_keeps, latches_out, latches_started, latched_set}
use Rattle.hp_exact.proofs.Invariant.{Latched, is_at_label, is_calling}

-- others are called in from S2 on
pub after_row : (y : Layout) (q : Seat) (r : Monarch) (l : Label) (v : ℕ) → handler_of l ≡ Monarchs → r.label ≡ l → l ≢ S2 → is_after_broadcast (next_at y q r l v).monarch.label ≡ true → is_after_broadcast l ≡ true
after_row y q r F1 v mine is n = absurd cc
after_row y q r F2 v mine is n = absurd cc
after_row y q r F3 v mine is n = absurd cc
after_row y q r F4 v mine is n = absurd cc
after_row y q r F5 v mine is n = absurd cc
after_row y q r F6 v mine is n = absurd cc
after_row y q r R1 v mine is n = absurd cc
after_row y q r R2 v mine is n = absurd cc
after_row y q r R3 v mine is n = absurd cc
after_row y q r R4 v mine is n = absurd cc
after_row y q r R5 v mine is n = absurd cc
after_row y q r R6 v mine is n = absurd cc
after_row y q r S0 v mine is n = pick (λ (t : Monarch). is_after_broadcast t.label ≡ true → is_after_broadcast S0 ≡ true) (nat_lt 1 (length r.slots.bound)) (record r { label = S1; slot = 1 }) (at_label S2 r) (λ e. absurd cc) (λ e. absurd cc)
after_row y q r S1 v mine is n = pick (λ (t : Monarch). is_after_broadcast t.label ≡ true → is_after_broadcast S1 ≡ true) (nat_lt (r.slot + 1) (length r.slots.bound)) (record r { label = S1; slot = r.slot + 1 }) (at_label S2 r) (λ e. absurd cc) (λ e. absurd cc)
after_row y q r S2 v mine is n = absurd (n refl)
after_row y q r E6 v mine is n = pick (λ (t : Monarch). is_after_broadcast t.label ≡ true → is_after_broadcast E6 ≡ true) (nat_lt (r.slot + 1) (length r.slots.bound)) (record r { label = E6; slot = r.slot + 1 }) (at_label E7 r) (λ e. absurd cc) (λ e. absurd cc)
after_row y q r E7 v mine is n = λ e. subst (λ m. is_after_broadcast m ≡ true) is e
after_row y q r _ v mine is n = λ e. refl

-- processor 0 has nothing to fear: nobody waits for it
latches_first : (p : Platform) (called : Bool) (c : Cpu) → Sound p → c.smbase ≡ tile p 0 → Latches called 0 c
latches_first p called c sound is e = absurd (none (c.smbase == 0x30000) called (far (tseg p) c.smbase sound.above is) e)
  where
    far : (base b : ℕ) → 0x800000 ≤ base → b ≡ base + 0x20000 + 0 → (b == 0x30000) ≡ false
    far base b above is = grind (arith, nat_tests)

    none : (x a : Bool) → x ≡ false → ((x && is_at_label F6 c) || (a && false)) ≡ true → ⊥
    none true a f e = cc
    none false true f e = cc
    none false false f e = cc

-- the running add's processor, which has its SMI latch set if it waits
pub record Woken (p : Platform) (r : Monarch) (cs : List Cpu) : Type 0 where
  pub own : Own p (record { cpu = r.add.cpu; status = 0; apic = r.add.apic })
  pub wakes : is_waiting (cpu_at cs r.add.cpu).mode ≡ true → (cpu_at cs r.add.cpu).smi ≡ true

-- start-up reaches it alone
start_latches : (p : Platform) (s : State) (called : Bool) (apic : ℕ) (j : ℕ) → Sound p → Ids p → apic ≡ s.monarch.add.apic → Woken p s.monarch s.cpus → Latches called j (at s j)
    → Latches called j (cpu_at (hit_each (is_target (Id (destination p.x2apic (high_half p.x2apic apic))) (apic_of p 0)) (Start 0x9f) p.apic s.cpus) j)
start_latches p s called apic j sound ids same woken h = elim (struck (is_target (Id (destination p.x2apic (high_half p.x2apic apic))) (apic_of p 0)) (Start 0x9f) p.apic s.cpus j) [
  | inl e ↦ subst (Latches called j) (sym e) h
  | inr g ↦ subst (Latches called j) (sym g.2) (latches_started called j 0x9f (at s j) (wakes g.0 (eqb-true (apic_of p j) (destination p.x2apic (high_half p.x2apic apic)) g.1)) h)
]
  where
    wakes : j < count_of p → apic_of p j ≡ destination p.x2apic (high_half p.x2apic apic) → is_waiting (at s j).mode ≡ true → (at s j).smi ≡ true
    wakes less aim waits =
        let own = woken.own in
        let small : apic ≤ (if p.x2apic then 0xfffffffe else 254) = subst (λ a. a ≤ (if p.x2apic then 0xfffffffe else 254)) (own.apic ∙ sym same) (ids.small s.monarch.add.cpu own.less) in
        let is : j ≡ s.monarch.add.cpu = one_cpu p j s.monarch.add.cpu sound less own.less (aim ∙ (aimed p.x2apic apic small ∙ (same ∙ sym own.apic))) in
        subst (λ i. is_waiting (at s i).mode ≡ true → (at s i).smi ≡ true) (sym is) woken.wakes waits

removed_latches : (called : Bool) (o : Option ℕ) (cs : List Cpu) (j : ℕ) → Latches called j (cpu_at cs j) → Latches called j (cpu_at (without_ejected o cs) j)
removed_latches called None cs j h = h
removed_latches called (Some k) cs j h = at_set (λ c d. Latches called j c → Latches called j d) cs k absent (λ i e. e) (λ _. latches_absent called j) j h

-- what a row of the monarch's does to the others
abbrev Row : Platform → State → Bool → Option Want → Type 0
Row p s called None = Unit {0}
Row p s called (Some (want.Do a)) = (j : ℕ) → Latches called j (at s j) → Latches called j (at (access_effect p 0 true a s) j)
Row p s called (Some (want.Tell o)) = Unit {0}
Row p s called (Some want.Resume) = Unit {0}

of_alike : (p : Platform) (s : State) (called : Bool) (w : Option Want) → AllAlike p 0 s w → Row p s called w
of_alike p s called None h = tt
of_alike p s called (Some (want.Do a)) h = λ j e. latches_alike called j (at s j) (at (access_effect p 0 true a s) j) (h j) e
of_alike p s called (Some (want.Tell o)) h = tt
of_alike p s called (Some want.Resume) h = tt

row_latches : (p : Platform) (s : State) (called : Bool) (q : Seat) (l : Label) → Sound p → Ids p → (is_among l (N5 ∷ N6 ∷ []) ≡ true → Woken p s.monarch s.cpus) → Row p s called (want_at (layout_of p) q s.monarch l)
row_latches p s called q N5 sound ids woken = λ j e. start_latches p s called s.monarch.add.apic j sound ids refl (woken refl) e
row_latches p s called q N6 sound ids woken = λ j e. start_latches p s called s.monarch.add.apic j sound ids refl (woken refl) e
row_latches p s called q E4b sound ids woken = λ j e. removed_latches called (ejected_by s.block (block_write s.block 4 1 8)) s.cpus j e
row_latches p s called q l sound ids woken = of_alike p s called (want_at (layout_of p) q s.monarch l) (row_alike p 0 s q s.monarch l refl)

-- S2 reaches all others
calls : (p : Platform) (s : State) (called : Bool) (j : ℕ) → Sound p → IsStood p s → j ≢ 0 → Latches called j (cpu_at (hit_each (is_target Others (apic_of p 0)) Smi p.apic s.cpus) j)
calls p s called j sound stood other = by_presence (at s j).present refl
  where
    after : List Cpu
    after = hit_each (is_target Others (apic_of p 0)) Smi p.apic s.cpus

    other_id : (a b : ℕ) → (a ≡ b → ⊥) → not (a == b) ≡ true
    other_id a b n = grind (arith, nat_tests)

    by_presence : (b : Bool) → (at s j).present ≡ b → Latches called j (cpu_at after j)
    by_presence true is = λ e.
        let less = stood.possible j is in
        let aim = other_id (apic_of p j) (apic_of p 0) (λ same. other (one_cpu p j 0 sound less (let some = sound.some in omega (arith, some)) same)) in
        let here = strikes (is_target Others (apic_of p 0)) Smi p.apic s.cpus j less aim in
        subst (λ (c : Cpu). c.smi ≡ true) (sym here) (rw is refl)
    by_presence false is = gone (elim (struck (is_target Others (apic_of p 0)) Smi p.apic s.cpus j) [ inl e ↦ subst (λ (c : Cpu). c.present ≡ false) (sym e) is | inr g ↦ subst (λ (c : Cpu). c.present ≡ false) (sym g.2) (rw is is) ])
      where
        gone : (cpu_at after j).present ≡ false → Latches called j (cpu_at after j)
        gone f = latches_out called j (cpu_at after j) (rw f refl) (λ a n present o. absurd (let both : true ≡ false = sym present ∙ f in cc))

abbrev Called : Platform → State → Bool → ℕ → Option Want → Type 0
Called p s called j None = Unit {0}
Called p s called j (Some (want.Do a)) = Latches called j (at (access_effect p 0 true a s) j)
Called p s called j (Some (want.Tell o)) = Unit {0}
Called p s called j (Some want.Resume) = Unit {0}

-- a row of the monarch's
pub latched_row : (p : Platform) (s : State) (l : Label) (a : Access) (v : ℕ) → Sound p → Ids p → IsStood p s → AtMonarch p s l → want_at (layout_of p) (seat p s 0) s.monarch l ≡ Some (want.Do a)
    → Latched (is_calling p s.monarch) s.cpus → (is_calling p s.monarch ≡ true → is_among l (N5 ∷ N6 ∷ []) ≡ true → Woken p s.monarch s.cpus)
    → Latched (is_calling p (next_at (layout_of p) (seat p s 0) s.monarch l v).monarch) (led_on p s 0 l v (access_effect p 0 true a s)).cpus
latched_row p s l a v sound ids stood here wants h woken =
    latched_set called_after u.cpus 0 (moved_in_smm (at s 0).smbase n (at u 0)) others
    (pick (Latches called_after 0) (stands_in_smm (at u 0)) (moved (address_of_label (at s 0).smbase n.label) n.base (at u 0)) (at u 0) (latches_first p called_after (moved (address_of_label (at s 0).smbase n.label) n.base (at u 0)) sound based) (latches_first p called_after (at u 0) sound based))
  where
    n : Next
    n = next_at (layout_of p) (seat p s 0) s.monarch l v

    u : State
    u = access_effect p 0 true a s

    called_after : Bool
    called_after = is_calling p n.monarch

    based : (at u 0).smbase ≡ tile p 0
    based = (acts p 0 true a s).first.smbase ∙ here.smbase

    less : l ≢ S2 → called_after ≡ true → is_calling p s.monarch ≡ true
    less other e =
        let both = and_parts (not (is_late p.delivery)) (is_after_broadcast n.monarch.label) e in
        and_from (not (is_late p.delivery)) (is_after_broadcast s.monarch.label) both.0 (subst (λ m. is_after_broadcast m ≡ true) (sym here.label) (after_row (layout_of p) (seat p s 0) s.monarch l v here.part here.label other both.1))

    uncalled : (b : Bool) → is_calling p s.monarch ≡ b → (j : ℕ) → Latches b j (at s j) → Latches b j (at u j)
    uncalled true is j e =
        let row : Row p s true (Some (want.Do a)) = subst (Row p s true) wants (row_latches p s true (seat p s 0) l sound ids (woken is)) in
        row j e
    uncalled false is j e = latches_keeps j (at s j) (at u j) (keeps_acted p 0 true a s j) e

    by_label : (b : Bool) → (index_of l == 2) ≡ b → (j : ℕ) → j ≢ 0 → Latches called_after j (at u j)
    by_label true is j other =
        let two : index_of l ≡ 2 = eqb-true (index_of l) 2 is in
        let same : l ≡ S2 = same_index l S2 here.part two in
        let row : Called p s called_after j (want_at (layout_of p) (seat p s 0) s.monarch S2) = calls p s called_after j sound stood other in
        let named : Called p s called_after j (want_at (layout_of p) (seat p s 0) s.monarch l) = subst (λ m. Called p s called_after j (want_at (layout_of p) (seat p s 0) s.monarch m)) (sym same) row in
        subst (Called p s called_after j) wants named
    by_label false is j other = latches_less (is_calling p s.monarch) called_after j (at u j) (less (λ e. let two : (index_of l == 2) ≡ true = rw e refl in let both : true ≡ false = sym two ∙ is in cc)) (uncalled (is_calling p s.monarch) refl j (h j))

    others : (j : ℕ) → j ≢ 0 → Latches called_after j (at u j)
    others = by_label (index_of l == 2) refl

-- an outcome is told
pub latched_told : (p : Platform) (s : State) → Sound p → AtMonarch p s T → Latched (is_calling p s.monarch) s.cpus → Latched (is_calling p (next_at (layout_of p) (seat p s 0) s.monarch T 0).monarch) (led_on p s 0 T 0 s).cpus
latched_told p s sound here h =
    latched_set called_after s.cpus 0 (moved_in_smm (at s 0).smbase n (at s 0)) (λ j other. latches_less (is_calling p s.monarch) called_after j (at s j) less (h j))
    (pick (Latches called_after 0) (stands_in_smm (at s 0)) (moved (address_of_label (at s 0).smbase n.label) n.base (at s 0)) (at s 0) (latches_first p called_after (moved (address_of_label (at s 0).smbase n.label) n.base (at s 0)) sound here.smbase) (latches_first p called_after (at s 0) sound here.smbase))
  where
    n : Next
    n = next_at (layout_of p) (seat p s 0) s.monarch T 0

    called_after : Bool
    called_after = is_calling p n.monarch

    less : called_after ≡ true → is_calling p s.monarch ≡ true
    less e =
        let both = and_parts (not (is_late p.delivery)) (is_after_broadcast n.monarch.label) e in
        and_from (not (is_late p.delivery)) (is_after_broadcast s.monarch.label) both.0 (subst (λ m. is_after_broadcast m ≡ true) (sym here.label) refl)
