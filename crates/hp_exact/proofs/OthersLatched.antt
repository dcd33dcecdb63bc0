-- Whoever has to have its SMI latch set has it after each step that isn't the monarch's: rows of other handlers, SMI entry, INIT, RSM, an insert, an access from outside SMM.
use Rattle.std.proofs.Common.{ℕ, ◌≡◌, ◌≢◌, ◌+◌, ◌*◌, ◌<◌, ◌≤◌, ◌==◌, ◌⊎◌, inl, inr, Bool, true, false, cond, not, ◌&&◌, ◌||◌, List, [], ◌∷◌, slice_set, Option, Some, None, refl, sym, ap, subst, ◌∙◌, arith}
use Rattle.std.proofs.lemmas.Bool.{and_parts}
use Rattle.std.proofs.lemmas.Bool.Decides.{nat_tests}
use Rattle.hp_model.specs.declared.platforms.Platform.{Platform}
use Rattle.hp_model.specs.declared.processors.Cpu.{Cpu}
use Rattle.hp_model.specs.declared.processors.Kind.TheVariants.{Smi}
use Rattle.hp_model.specs.declared.processors.Target.TheVariants.{Id}
use Rattle.hp_model.specs.declared.accesses.Access.{Access}
use Rattle.hp_model.specs.declared.accesses.Access.TheVariants.{Load, Store, Swap, Icr}
use Rattle.hp_model.specs.declared.accesses.Want.{Want}
use Rattle.hp_model.specs.declared.accesses.Want.TheVariants as want
use Rattle.hp_model.specs.declared.labels.Label.{Label}
use Rattle.hp_model.specs.declared.labels.Label.TheVariants.{F1, F2, F3, F4, F5, F6, R1, R2, R3, R4, R5, R6, S2, N5, N6, E4b}
use Rattle.hp_model.specs.Platform.{tseg, apic_of, is_late, high_half}
use Rattle.hp_model.specs.Memory.{byte_at, value_from}
use Rattle.hp_model.specs.View.{is_hole, ones}
use Rattle.hp_model.specs.Cpu.{inserted, is_outside, is_in_smm, smm_address, take_smi, take_init, resumed, moved}
use Rattle.hp_model.specs.Interrupts.{destination, is_target}
use Rattle.hp_model.specs.Boot.{value_in}
use Rattle.hp_model.specs.declared.labels.Handler.TheVariants.{First, Relocated, Monarch as Monarchs}
use Rattle.hp_model.specs.Labels.{handler_of, index_of}
use Rattle.hp_model.specs.SharedBytes.{layout_of, arrived_byte, release_byte, map_byte, gate, closed}
use Rattle.hp_model.specs.SaveArea.{saved_smbase, saved_rip}
use Rattle.hp_model.specs.Monarch.{restarted}
use Rattle.hp_model.specs.Handlers.{Next, want_at, next_at, runs_at, slot_at, is_tile, address_of_label}
use Rattle.hp_model.specs.State.{State, at, set_cpu}
use Rattle.hp_model.specs.Access.{answer_to, access_effect, stands_in_smm}
use Rattle.hp_model.specs.Firmware.{seat, moved_in_smm, with_session}
use Rattle.hp_model.specs.Step.{enter_smm, leave_smm, is_after_broadcast}
use Rattle.hp_sealed.specs.Left.{Sound}
use Rattle.hp_sealed.specs.Sealed.{is_other_tile}
use Rattle.hp_sealed.proofs.Left.{pick, pick_by}
use Rattle.hp_sealed.proofs.Places.{slot_of}
use Rattle.hp_safety.proofs.Keeps.{smm_present}
use Rattle.hp_exact.proofs.Stood.{IsStood}
use Rattle.hp_exact.proofs.Stepping.{AtOther, led_on}
use Rattle.hp_exact.proofs.Monarchs.{is_among}
use Rattle.hp_exact.proofs.Naming.{Ids, aimed}
use Rattle.hp_exact.proofs.Hits.{Alike, strikes, AllAlike, row_alike, keeps_acted}
use Rattle.hp_exact.proofs.Latching.{Latches, latches_alike, latches_less, latches_keeps, latches_out, must_moved, latched_set}
use Rattle.hp_exact.proofs.Releasing.{kept_called, slot_small}
use Rattle.hp_exact.proofs.Invariant.{Latched, Released, must_latch, is_default, is_at_label, is_calling}

-- where another processor's row leads it: to a label where it needs no SMI latch, or it has that set
abbrev Needs : Bool → ℕ → ℕ → Cpu → Label → Type 0
Needs called k b c n = (((b == 0x30000) && (index_of n == 5)) || (called && (not (k == 0) && (not (b == 0x30000) && ((index_of n == 3) || (index_of n == 4)))))) ≡ true → c.smi ≡ true

first_needs : (called : Bool) (k b : ℕ) (c : Cpu) (n : Label) → (b == 0x30000) ≡ true → ((index_of n == 5) ≡ true → c.smi ≡ true) → Needs called k b c n
first_needs called k b c n is h e = h (plain (b == 0x30000) (index_of n == 5) called (not (k == 0)) ((index_of n == 3) || (index_of n == 4)) is e)
  where
    plain : (x five a z y : Bool) → x ≡ true → ((x && five) || (a && (z && (not x && y)))) ≡ true → five ≡ true
    plain true true a z y f e = refl
    plain true false true true y f e = absurd cc
    plain true false true false y f e = absurd cc
    plain true false false z y f e = absurd cc
    plain false five a z y f e = absurd cc

other_needs : (called : Bool) (k b : ℕ) (c : Cpu) (n : Label) → (b == 0x30000) ≡ false → (called ≡ true → ((index_of n == 3) || (index_of n == 4)) ≡ true → c.smi ≡ true) → Needs called k b c n
other_needs called k b c n is h e = let both = plain (b == 0x30000) (index_of n == 5) called (not (k == 0)) ((index_of n == 3) || (index_of n == 4)) is e in h both.0 both.1
  where
    plain : (x five a z y : Bool) → x ≡ false → ((x && five) || (a && (z && (not x && y)))) ≡ true → (a ≡ true) × (y ≡ true)
    plain false five true true true f e = (refl, refl)
    plain false five true true false f e = absurd cc
    plain false five true false y f e = absurd cc
    plain false five false z y f e = absurd cc
    plain true five a z y f e = absurd cc

-- what these rows go by: at F5 its own SMI reaches it, at R3 no release byte is 1, and at R4 its SMI latch is set, while others are called in
record Facts (p : Platform) (s : State) (called : Bool) (k : ℕ) (l : Label) : Type 0 where
  first : handler_of l ≡ First → ((at s k).smbase == 0x30000) ≡ true
  other : handler_of l ≡ Relocated → ((at s k).smbase == 0x30000) ≡ false
  own : l ≡ F5 → (at (access_effect p k true (Icr (high_half p.x2apic (apic_of p k)) 0x200) s) k).smi ≡ true
  kept : l ≡ R3 → called ≡ true → (value_in (answer_to true (Load (release_byte (layout_of p) (seat p s k).slot) 1) s) == 1) ≡ false
  latched : l ≡ R4 → called ≡ true → (at (access_effect p k true (Store (arrived_byte (layout_of p) (seat p s k).slot) 1 0) s) k).smi ≡ true

abbrev Onward : Platform → State → Bool → ℕ → Label → Option Want → Type 0
Onward p s called k l None = Unit {0}
Onward p s called k l (Some (want.Do a)) = Needs called k (at s k).smbase (at (access_effect p k true a s) k) (next_at (layout_of p) (seat p s k) s.monarch l (value_in (answer_to true a s))).label
Onward p s called k l (Some (want.Tell o)) = Unit {0}
Onward p s called k l (Some want.Resume) = Unit {0}

onward : (p : Platform) (s : State) (called : Bool) (k : ℕ) (l : Label) → handler_of l ≢ Monarchs → Facts p s called k l → Onward p s called k l (want_at (layout_of p) (seat p s k) s.monarch l)
onward p s called k F1 mine h = pick (Needs called k (at s k).smbase (at s k)) (value_in (answer_to true (Swap gate (apic_of p k) closed) s) == apic_of p k) F2 F1 (first_needs called k (at s k).smbase (at s k) F2 (h.first refl) (λ e. absurd cc)) (first_needs called k (at s k).smbase (at s k) F1 (h.first refl) (λ e. absurd cc))
onward p s called k F2 mine h = first_needs called k (at s k).smbase (at s k) F3 (h.first refl) (λ e. absurd cc)
onward p s called k F3 mine h = first_needs called k (at s k).smbase (at s k) F4 (h.first refl) (λ e. absurd cc)
onward p s called k F4 mine h = first_needs called k (at s k).smbase (at s k) F5 (h.first refl) (λ e. absurd cc)
onward p s called k F5 mine h = first_needs called k (at s k).smbase (at (access_effect p k true (Icr (high_half p.x2apic (apic_of p k)) 0x200) s) k) F6 (h.first refl) (λ e. h.own refl)
onward p s called k F6 mine h = tt
onward p s called k R1 mine h = other_needs called k (at s k).smbase (at s k) R2 (h.other refl) (λ c e. absurd cc)
onward p s called k R2 mine h = pick (Needs called k (at s k).smbase (at s k)) (value_in (answer_to true (Load (map_byte (layout_of p) (seat p s k).slot) 1) s) == 1) R6 R3 (other_needs called k (at s k).smbase (at s k) R6 (h.other refl) (λ c e. absurd cc)) (other_needs called k (at s k).smbase (at s k) R3 (h.other refl) (λ c e. absurd cc))
onward p s called k R3 mine h = pick_by (Needs called k (at s k).smbase (at s k)) (value_in (answer_to true (Load (release_byte (layout_of p) (seat p s k).slot) 1) s) == 1) R4 R1 (λ one. other_needs called k (at s k).smbase (at s k) R4 (h.other refl) (λ c e. absurd (let none = h.kept refl c in let both : true ≡ false = sym one ∙ none in cc))) (λ one. other_needs called k (at s k).smbase (at s k) R1 (h.other refl) (λ c e. absurd cc))
onward p s called k R4 mine h = other_needs called k (at s k).smbase (at s k) R5 (h.other refl) (λ c e. h.latched refl c)
onward p s called k R5 mine h = tt
onward p s called k R6 mine h = other_needs called k (at s k).smbase (at s k) R2 (h.other refl) (λ c e. absurd cc)
onward p s called k _ mine h = absurd (mine refl)

-- which handler runs tells the SMBASE
at_default : (p : Platform) (k b : ℕ) → runs_at (layout_of p) First k b ≡ true → (b == 0x30000) ≡ true
at_default p k b e = (and_parts (not (k == 0)) (b == 0x30000) e).1

at_tile : (p : Platform) (k b : ℕ) → Sound p → runs_at (layout_of p) Relocated k b ≡ true → (b == 0x30000) ≡ false
at_tile p k b sound e = let t = slot_of p b (and_parts (not (k == 0)) (is_other_tile (layout_of p) b) e).1 in far (tseg p) b t.slot sound.above t.is
  where
    far : (base b slot : ℕ) → 0x800000 ≤ base → b ≡ base + 0x20000 + slot * 0x10000 → (b == 0x30000) ≡ false
    far base b slot above is = grind (arith, nat_tests)

-- whoever stands at a label
stood_at : (c : Cpu) (l : Label) → smm_address c ≡ Some (address_of_label c.smbase l) → is_at_label l c ≡ true
stood_at c l is = rw is (same (address_of_label c.smbase l))
  where
    same : (n : ℕ) → (n == n) ≡ true
    same n = grind (arith, nat_tests)

-- at R4 and R5, and at F6
leaving_latched : (called : Bool) (k : ℕ) (c : Cpu) (l : Label) → (l ≡ R4) ⊎ (l ≡ R5) → k ≢ 0 → (c.smbase == 0x30000) ≡ false → is_at_label l c ≡ true → called ≡ true → Latches called k c → c.smi ≡ true
leaving_latched called k c l where_is other far here called_in h = h (plain (is_default c && is_at_label F6 c) called (k == 0) (c.present && is_outside c.mode) (c.smbase == 0x30000) (is_at_label R4 c) (is_at_label R5 c) called_in (is_other k other) far (either where_is))
  where
    is_other : (k : ℕ) → k ≢ 0 → (k == 0) ≡ false
    is_other k n = grind (arith, nat_tests)

    either : (l ≡ R4) ⊎ (l ≡ R5) → (is_at_label R4 c ≡ true) ⊎ (is_at_label R5 c ≡ true)
    either (inl e) = inl (subst (λ m. is_at_label m c ≡ true) e here)
    either (inr e) = inr (subst (λ m. is_at_label m c ≡ true) e here)

    plain : (x a z y d f g : Bool) → a ≡ true → z ≡ false → d ≡ false → (f ≡ true) ⊎ (g ≡ true) → (x || (a && (not z && (y || (not d && (f || g)))))) ≡ true
    plain true a z y d f g i j m n = refl
    plain false a z true d f g i j m n = rw (i, j) refl
    plain false a z false d f g i j m (inl n) = rw (i, j, m, n) refl
    plain false a z false d true g i j m (inr n) = rw (i, j, m) refl
    plain false a z false d false g i j m (inr n) = rw (i, j, m, n) refl

flying_latched : (called : Bool) (k : ℕ) (c : Cpu) → (c.smbase == 0x30000) ≡ true → is_at_label F6 c ≡ true → Latches called k c → c.smi ≡ true
flying_latched called k c default here h = h (rw (default, here) refl)

-- a release byte that is 0 isn't read as 1
pub reads_none : (p : Platform) (s : State) (slot : ℕ) → byte_at s.writes (release_byte (layout_of p) slot) ≡ 0 → (value_in (answer_to true (Load (release_byte (layout_of p) slot) 1) s) == 1) ≡ false
unfolding value_from
reads_none p s slot is = pick (λ v. (v == 1) ≡ false) (is_hole s.locks true (release_byte (layout_of p) slot) 1) (ones 1) (value_from (byte_at s.writes) (release_byte (layout_of p) slot) 1) refl (rw is refl)

-- other handlers neither start processors nor eject them
pub aside : (l : Label) → handler_of l ≢ Monarchs → is_among l (N5 ∷ N6 ∷ E4b ∷ []) ≡ false
aside N5 other = absurd (other refl)
aside N6 other = absurd (other refl)
aside E4b other = absurd (other refl)
aside _ other = refl

-- another handler's row
pub latched_other : (p : Platform) (s : State) (k : ℕ) (l : Label) (a : Access) → Sound p → Ids p → IsStood p s → AtOther p s k l → want_at (layout_of p) (seat p s k) s.monarch l ≡ Some (want.Do a)
    → Latched (is_calling p s.monarch) s.cpus → Released p s.monarch s.writes
    → Latched (is_calling p s.monarch) (led_on p s k l (value_in (answer_to true a s)) (access_effect p k true a s)).cpus
latched_other p s k l a sound ids stood here wants h released =
    latched_set called u.cpus k (moved_in_smm (at s k).smbase n (at u k)) (λ j other. latches_alike called j (at s j) (at u j) (alike j) (h j))
    (pick_by (Latches called k) (stands_in_smm (at u k)) (moved (address_of_label (at s k).smbase n.label) n.base (at u k)) (at u k)
    (λ stands e. led (sym (must_moved called k (at u k) (at s k).smbase n.base n.label (and_parts (at u k).present (is_in_smm (at u k).mode) stands).0 (alike k).smbase) ∙ e))
    (λ _. latches_alike called k (at s k) (at u k) (alike k) (h k)))
  where
    called : Bool
    called = is_calling p s.monarch

    u : State
    u = access_effect p k true a s

    n : Next
    n = next_at (layout_of p) (seat p s k) s.monarch l (value_in (answer_to true a s))

    present : (at s k).present ≡ true
    present = smm_present (at s k) (address_of_label (at s k).smbase l) here.place

    alike : (j : ℕ) → Alike (at s j) (at u j)
    alike = subst (AllAlike p k s) wants (row_alike p k s (seat p s k) s.monarch l (aside l here.part))

    own : (at (access_effect p k true (Icr (high_half p.x2apic (apic_of p k)) 0x200) s) k).smi ≡ true
    own =
        let less = stood.possible k present in
        let aim : (apic_of p k == destination p.x2apic (high_half p.x2apic (apic_of p k))) ≡ true = let to = aimed p.x2apic (apic_of p k) (ids.small k less) in rw to (same (apic_of p k)) in
        let hits = strikes (is_target (Id (destination p.x2apic (high_half p.x2apic (apic_of p k)))) (apic_of p k)) Smi p.apic s.cpus k less aim in
        subst (λ (c : Cpu). c.smi ≡ true) (sym hits) (rw present refl)
      where
        same : (n : ℕ) → (n == n) ≡ true
        same n = grind (arith, nat_tests)

    tile_slot : l ≡ R3 → (1 ≤ (seat p s k).slot) × ((seat p s k).slot < 0x1000)
    tile_slot e =
        let runs : runs_at (layout_of p) Relocated k (at s k).smbase ≡ true = subst (λ q. runs_at (layout_of p) q k (at s k).smbase ≡ true) (ap handler_of e) here.runs in
        let tile = (and_parts (not (k == 0)) (is_other_tile (layout_of p) (at s k).smbase) runs).1 in
        let some = (and_parts (not (slot_at (layout_of p) (at s k).smbase == 0)) (is_tile (layout_of p) (at s k).smbase) tile).0 in
        (positive (slot_at (layout_of p) (at s k).smbase) some, slot_small p k (at s k).smbase sound runs)
      where
        positive : (i : ℕ) → not (i == 0) ≡ true → 1 ≤ i
        positive i e = grind (arith, nat_tests)

    facts : Facts p s called k l
    facts = record {
      first = λ e. at_default p k (at s k).smbase (subst (λ q. runs_at (layout_of p) q k (at s k).smbase ≡ true) e here.runs);
      other = λ e. at_tile p k (at s k).smbase sound (subst (λ q. runs_at (layout_of p) q k (at s k).smbase ≡ true) e here.runs);
      own = λ e. own;
      kept = λ e c.
          let slot = tile_slot e in
          reads_none p s (seat p s k).slot
          (released (seat p s k).slot slot.0 slot.1 (kept_called s.monarch (seat p s k).slot (let after = (and_parts (not (is_late p.delivery)) (is_after_broadcast s.monarch.label) c).1 in rw after (any (is_among s.monarch.label (S2 ∷ []))))));
      latched = λ e c. leaving_latched called k (at s k) l (inl e) here.other (at_tile p k (at s k).smbase sound (subst (λ q. runs_at (layout_of p) q k (at s k).smbase ≡ true) (ap handler_of e) here.runs)) (stood_at (at s k) l here.place) c (h k);
    }
      where
        any : (x : Bool) → (x || true) ≡ true
        any true = refl
        any false = refl

    led : Needs called k (at s k).smbase (at u k) n.label
    led = subst (Onward p s called k l) wants (onward p s called k l here.part facts)

abbrev Neither : Bool → Option ℕ
Neither b = cond b None None

none_if : (b : Bool) → Neither b ≡ None
none_if true = refl
none_if false = refl

-- the host inserts a processor, and others come into SMM
pub latched_insert : (called : Bool) (cs : List Cpu) (k : ℕ) → Latched called cs → Latched called (slice_set cs k inserted)
latched_insert called cs k h = latched_set called cs k inserted (λ j _. h j) (latches_out called k inserted refl (λ c n present outside. absurd cc))

latches_entered : (called : Bool) (k : ℕ) (c : Cpu) → Latches called k (take_smi c)
latches_entered called k c e = absurd (by_presence c.present refl)
  where
    apart : (b i : ℕ) → 1 ≤ i → (b + 0x8000 == b + 0x8000 + 4 * i) ≡ false
    apart b i some = grind (arith, nat_tests)

    none : (x a z y : Bool) → ((x && false) || (a && (z && (false || (y && (false || false)))))) ≡ false
    none true true true true = refl
    none true true true false = refl
    none true true false y = refl
    none true false z y = refl
    none false true true true = refl
    none false true true false = refl
    none false true false y = refl
    none false false z y = refl

    by_presence : (b : Bool) → c.present ≡ b → ⊥
    by_presence true is =
        let never : must_latch called k (take_smi c) ≡ false = rw (is, apart c.smbase 5 (omega arith), apart c.smbase 3 (omega arith), apart c.smbase 4 (omega arith)) (none (c.smbase == 0x30000) called (not (k == 0)) (not (c.smbase == 0x30000))) in
        let both : true ≡ false = sym e ∙ never in cc
    by_presence false is =
        let never : must_latch called k (take_smi c) ≡ false = rw is (none (c.smbase == 0x30000) called (not (k == 0)) (not (c.smbase == 0x30000))) in
        let both : true ≡ false = sym e ∙ never in cc

pub latched_enters : (p : Platform) (s : State) (k : ℕ) → Latched (is_calling p s.monarch) s.cpus → Latched (is_calling p (with_session k (enter_smm k s)).monarch) (with_session k (enter_smm k s)).cpus
latched_enters p s k h =
    pick (λ (t : State). Latched (is_calling p t.monarch) t.cpus) (k == 0) (record (enter_smm k s) { monarch = restarted s.monarch }) (enter_smm k s)
    (latched_set _ s.cpus k (take_smi (at s k)) (λ j _. latches_less (is_calling p s.monarch) _ j (at s j) (λ e. absurd (both (not (is_late p.delivery)) e)) (h j)) (latches_entered _ k (at s k)))
    (latched_set (is_calling p s.monarch) s.cpus k (take_smi (at s k)) (λ j _. h j) (latches_entered (is_calling p s.monarch) k (at s k)))
  where
    both : (x : Bool) → (x && false) ≡ true → ⊥
    both true e = cc
    both false e = cc

pub latched_init : (called : Bool) (s : State) (k : ℕ) → Latched called s.cpus → Latched called (set_cpu k (take_init (at s k)) s).cpus
latched_init called s k h = latched_set called s.cpus k (take_init (at s k)) (λ j _. h j) (latches_out called k (take_init (at s k)) (none_if (at s k).present) (λ c n present outside. absurd cc))

-- RSM
pub latched_returns : (p : Platform) (s : State) (k : ℕ) (l : Label) → Sound p → AtOther p s k l → (l ≡ F6) ⊎ (l ≡ R5) → Latched (is_calling p s.monarch) s.cpus → Latched (is_calling p s.monarch) (leave_smm k s).cpus
latched_returns p s k l sound here where_is h =
    latched_set (is_calling p s.monarch) s.cpus k _ (λ j _. h j) (latches_out (is_calling p s.monarch) k (resumed (saved_smbase s.locks s.writes (at s k)) (saved_rip s.locks s.writes (at s k)) (at s k)) (none_if (at s k).present) (λ c n present outside. latched c where_is))
  where
    latched : is_calling p s.monarch ≡ true → (l ≡ F6) ⊎ (l ≡ R5) → (at s k).smi ≡ true
    latched c (inl e) =
        flying_latched (is_calling p s.monarch) k (at s k) (at_default p k (at s k).smbase (subst (λ q. runs_at (layout_of p) q k (at s k).smbase ≡ true) (ap handler_of e) here.runs))
        (subst (λ m. is_at_label m (at s k) ≡ true) e (stood_at (at s k) l here.place)) (h k)
    latched c (inr e) = leaving_latched (is_calling p s.monarch) k (at s k) l (inr e) here.other (at_tile p k (at s k).smbase sound (subst (λ q. runs_at (layout_of p) q k (at s k).smbase ≡ true) (ap handler_of e) here.runs)) (stood_at (at s k) l here.place) c (h k)

pub latched_rests : (called : Bool) (s : State) → called ≡ false → Latched called s.cpus → Latched called (leave_smm 0 s).cpus
latched_rests called s no_more h =
    latched_set called s.cpus 0 _ (λ j _. h j) (latches_out called 0 (resumed (saved_smbase s.locks s.writes (at s 0)) (saved_rip s.locks s.writes (at s 0)) (at s 0)) (none_if (at s 0).present) (λ c n present outside. absurd (n refl)))

-- an access from outside SMM, while nobody is called in
pub latched_outside : (p : Platform) (s : State) (k : ℕ) (a : Access) → is_calling p s.monarch ≡ false → Latched (is_calling p s.monarch) s.cpus → Latched (is_calling p s.monarch) (access_effect p k false a s).cpus
latched_outside p s k a none h =
    subst (λ b. Latched b (access_effect p k false a s).cpus) (sym none) (λ j. latches_keeps j (at s j) (at (access_effect p k false a s) j) (keeps_acted p k false a s j) (subst (λ b. Latches b j (at s j)) none (h j)))
