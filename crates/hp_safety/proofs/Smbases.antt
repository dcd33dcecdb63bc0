-- The two laws of SMBASEs: each processor has its own slot's, and one changes past the gate alone.
use Rattle.std.proofs.Common.{ℕ, ◌≡◌, ◌≢◌, ◌+◌, ◌*◌, ◌<◌, ◌==◌, inl, inr, Bool, true, false, not, ◌&&◌, ◌||◌, List, [], ◌∷◌, Some, refl, sym, ap, subst, ◌∙◌, arith}
use Rattle.std.specs.List.{list_all}
use Rattle.std.proofs.lemmas.Bool.{and_parts, eqb-true}
use Rattle.std.proofs.lemmas.Bool.Decides.{nat_tests}
use Rattle.hp_model.specs.declared.platforms.Platform.{Platform}
use Rattle.hp_model.specs.declared.processors.Cpu.{Cpu}
use Rattle.hp_model.specs.declared.entries.Entry.{Entry}
use Rattle.hp_model.specs.declared.labels.Label.TheVariants.{F6}
use Rattle.hp_model.specs.Platform.{IsFit, count_of, tseg, tile, apic_of}
use Rattle.hp_model.specs.Cpu.{smm_address}
use Rattle.hp_model.specs.Block.{is_in}
use Rattle.hp_model.specs.Labels.{cell_of}
use Rattle.hp_model.specs.Slots.{slot_among}
use Rattle.hp_model.specs.Monarch.{Monarch}
use Rattle.hp_model.specs.State.{State, at, start}
use Rattle.hp_model.specs.Runs.{run_on, address_of}
use Rattle.hp_model.specs.Events.{is_resume_of}
use Rattle.hp_model.specs.Transitions.{Transition, transitions, entries_of, places, has_moved, moved_in}
use Rattle.hp_model.specs.Account.{is_at, bound}
use Rattle.hp_model.specs.Smbases.{IsDistinct, IsNamed, has_own_smbase, have_own_smbases, are_apart, are_all_apart, is_named}
use Rattle.hp_model.proofs.AtEach.{made as step_made, each_passes}
use Rattle.hp_sealed.specs.Left.{Sound}
use Rattle.hp_sealed.specs.Sealed.{IsAtSlot}
use Rattle.hp_sealed.proofs.Outside.{Calm}
use Rattle.hp_sealed.proofs.BootSlots.{ids_differ}
use Rattle.hp_sealed.proofs.Starts.{sound}
use Rattle.hp_sealed.proofs.Goes.{boot_calm, refused_goes}
use Rattle.hp_sealed.proofs.HandOver.{IsBefore, before_outside}
use Rattle.hp_sealed.proofs.Runs.{made}
use Rattle.hp_safety.proofs.Ties.{Tie, Free, Collects, Found, Judged, Fresh, Named as TieNamed, tie_of, Session, session_of, TiedAt, IsBound}
use Rattle.hp_safety.proofs.Keeps.{same_or}
use Rattle.hp_safety.proofs.Placing.{place_more, place_same}
use Rattle.hp_safety.proofs.GateRows.{Relocates, Moves}
use Rattle.hp_safety.proofs.Moves.{moves}
use Rattle.hp_safety.proofs.Runs.{IsHanded}
use Rattle.hp_safety.proofs.Backward.{all_places, all_filtered, at_states}
use Rattle.hp_safety.proofs.Named.{itself, at_cell, Told, told_first, told_on}

-- slots
tied_bound : (B : List ℕ) (S : Session) (r : Monarch) (x : Tie) → TiedAt B S r x → IsBound B r
tied_bound B S r Free h = inl h
tied_bound B S r Collects h = inl h.0
tied_bound B S r Found h = inl h.0
tied_bound B S r Judged h = inl h.0
tied_bound B S r Fresh h = h.0
tied_bound B S r TieNamed h = inl h.0

slot_told : (p : Platform) (B : List ℕ) (r : Monarch) (a b : ℕ) → IsBound B r → (b ≢ 0x30000 → is_in a B ≡ true) → IsAtSlot p r.slots.bound a b → IsAtSlot p B a b
slot_told p B r a b bound out (inl e) = inl e
slot_told p B r a b bound out (inr own) = elim (same_or b 0x30000) [
  | inl e ↦ inl e
  | inr relocated ↦
      let there = out relocated in
      inr (there, own.1 ∙ ap (tile p) (elim bound [ inl e ↦ ap (λ xs. slot_among xs a) e | inr more ↦ ap (λ xs. slot_among xs a) more.1 ∙ place_more B a r.add.apic there ]))
]

same_slot : (p : Platform) (bound : List ℕ) (a b x y : ℕ) → IsAtSlot p bound a x → IsAtSlot p bound b y → x ≡ y → x ≢ 0x30000 → a ≡ b
same_slot p bound a b x y (inl e) h same relocated = absurd (relocated e)
same_slot p bound a b x y (inr own) (inl e) same relocated = absurd (relocated (same ∙ e))
same_slot p bound a b x y (inr own) (inr other) same relocated = place_same bound a b own.0 other.0 (plain (tseg p) (slot_among bound a) (slot_among bound b) (sym own.1 ∙ (same ∙ other.1)))
  where
    plain : (base i j : ℕ) → base + 0x20000 + i * 0x10000 ≡ base + 0x20000 + j * 0x10000 → i ≡ j
    plain base i j e = omega (arith, e)

-- each present processor is at its own slot
own_slot : (p : Platform) (past : List Transition) (s : State) → Told p past s → (k : ℕ) → (at s k).present ≡ true → IsAtSlot p (bound p (entries_of past)) (apic_of p k) (at s k).smbase
own_slot p past s (inl h) k there = subst (λ b. IsAtSlot p b (apic_of p k) (at s k).smbase) (sym h.1) ((before_outside p s h.0).slotted k there)
own_slot p past s (inr h) k there =
    let acc = h.1 in
    slot_told p (bound p (entries_of past)) s.monarch (apic_of p k) (at s k).smbase (tied_bound (bound p (entries_of past)) (session_of p (entries_of past)) s.monarch (tie_of s.monarch.label) acc.tied) (acc.out k there) (h.0.slots.slotted k there)

possible : (p : Platform) (past : List Transition) (s : State) → Told p past s → (k : ℕ) → (at s k).present ≡ true → k < count_of p
possible p past s (inl h) k there = (before_outside p s h.0).possible k there
possible p past s (inr h) k there = h.0.slots.possible k there

owns : (p : Platform) (past : List Transition) (s : State) → Told p past s → have_own_smbases p (entries_of past) s ≡ true
owns p past s h = all_places (λ k. has_own_smbase p (bound p (entries_of past)) (apic_of p k) (at s k)) (count_of p) (λ k. by_presence k (at s k).present refl)
  where
    at_own : (ids : List ℕ) (apic b : ℕ) → IsAtSlot p ids apic b → ((b == 0x30000) || (is_in apic ids && (b == tile p (slot_among ids apic)))) ≡ true
    at_own ids apic b (inl e) = rw e refl
    at_own ids apic b (inr own) = let is = itself (tile p (slot_among ids apic)) in rw (own.0, own.1, is) (more (tile p (slot_among ids apic) == 0x30000))
      where
        more : (c : Bool) → (c || true) ≡ true
        more true = refl
        more false = refl

    by_presence : (k : ℕ) (c : Bool) → (at s k).present ≡ c → (not c || (((at s k).smbase == 0x30000) || (is_in (apic_of p k) (bound p (entries_of past)) && ((at s k).smbase == tile p (slot_among (bound p (entries_of past)) (apic_of p k)))))) ≡ true
    by_presence k false is = refl
    by_presence k true is = at_own (bound p (entries_of past)) (apic_of p k) (at s k).smbase (own_slot p past s h k is)

-- and no two of them share one
shares_none : (p : Platform) (past : List Transition) (s : State) (j k : ℕ) → Sound p → Told p past s → (at s j).present ≡ true → (at s k).present ≡ true → (at s j).smbase ≡ (at s k).smbase → (at s j).smbase ≢ 0x30000 → j ≡ k
shares_none p past s j k fit h there also same relocated =
    ids_differ p.apic j k fit.distinct (possible p past s h j there) (possible p past s h k also)
    (same_slot p (bound p (entries_of past)) (apic_of p j) (apic_of p k) (at s j).smbase (at s k).smbase (own_slot p past s h j there) (own_slot p past s h k also) same relocated)

are_unshared : (p : Platform) (past : List Transition) (s : State) → Sound p → Told p past s → are_all_apart p s ≡ true
are_unshared p past s fit h = all_places (λ j. list_all (λ k. (j == k) || are_apart (at s j) (at s k)) (places (count_of p))) (count_of p) (λ j. all_places (λ k. (j == k) || are_apart (at s j) (at s k)) (count_of p) (λ k. apart j k))
  where
    unlike : (a b : ℕ) → (a == b) ≡ false → a ≡ b → ⊥
    unlike a b e f = grind (arith, nat_tests)

    by_tests : (j k : ℕ) (o : Bool) → (j == k) ≡ o → (c : Bool) → (at s j).present ≡ c → (d : Bool) → (at s k).present ≡ d → (m : Bool) → ((at s j).smbase == (at s k).smbase) ≡ m → (n : Bool) → ((at s j).smbase == 0x30000) ≡ n → (o || (not (c && d) || (not m || n))) ≡ true
    by_tests j k true eo c ec d ed m em n en = refl
    by_tests j k false eo false ec d ed m em n en = refl
    by_tests j k false eo true ec false ed m em n en = refl
    by_tests j k false eo true ec true ed false em n en = refl
    by_tests j k false eo true ec true ed true em true en = refl
    by_tests j k false eo true ec true ed true em false en = absurd (unlike j k eo (shares_none p past s j k fit h ec ed (eqb-true (at s j).smbase (at s k).smbase em) (unlike (at s j).smbase 0x30000 en)))

    apart : (j k : ℕ) → ((j == k) || are_apart (at s j) (at s k)) ≡ true
    apart j k = by_tests j k (j == k) refl (at s j).present refl (at s k).present refl ((at s j).smbase == (at s k).smbase) refl ((at s j).smbase == 0x30000) refl

pub distinct_law : (p : Platform) (es : List Entry) → IsFit p → IsDistinct p es
distinct_law p es fits = record {
  own = at_states p (have_own_smbases p) (transitions p es) (owns p [] (start p) (told_first p fits))
      (each_passes p (Told p) (told_on p fits) (λ older x. have_own_smbases p (entries_of (x ∷ older)) x.after) (λ past s t e h is. owns p (step_made s e t ∷ past) t (told_on p fits past s t e h is)) (told_first p fits) es);
  apart = at_states p (λ older s. are_all_apart p s) (transitions p es) (are_unshared p [] (start p) (sound p fits) (told_first p fits))
      (each_passes p (Told p) (told_on p fits) (λ older x. are_all_apart p x.after) (λ past s t e h is. are_unshared p (step_made s e t ∷ past) t (sound p fits) (told_on p fits past s t e h is)) (told_first p fits) es);
}

-- the gate
pub record IsChange (s t : State) (k : ℕ) : Type 0 where
  pub there : (at s k).present ≡ true
  pub also : (at t k).present ≡ true
  pub changed : (at t k).smbase ≢ (at s k).smbase

pub is_change : (s t : State) (e : Entry) (k : ℕ) → has_moved (step_made s e t) k ≡ true → IsChange s t k
is_change s t e k is =
    let parts = and_parts (at s k).present ((at t k).present && not ((at s k).smbase == (at t k).smbase)) is in
    let more = and_parts (at t k).present (not ((at s k).smbase == (at t k).smbase)) parts.1 in
    record { there = parts.0; also = more.0; changed = λ same. unlike (at s k).smbase (at t k).smbase more.1 (sym same) }
  where
    unlike : (a b : ℕ) → not (a == b) ≡ true → a ≡ b → ⊥
    unlike a b e f = grind (arith, nat_tests)

-- before the hand-over none changes
pub none_before : (p : Platform) (s t : State) (e : Entry) (k : ℕ) → IsBefore p s → run_on p s e ≡ Some t → IsChange s t k → ⊥
none_before p s t e k (inl b) on c =
    let m = made p s e t on in
    c.changed (calm_same (at s k) (at t k) (subst (λ (x : State). Calm (at s k) (at x k)) m.state (boot_calm p s e.event m.after b m.step k)) c.also)
  where
    calm_same : (c d : Cpu) → Calm c d → d.present ≡ true → d.smbase ≡ c.smbase
    calm_same c d (inl stays) e = stays.smbase
    calm_same c d (inr gone) e = absurd (let f : false ≡ true = sym (ap (λ (x : Cpu). x.present) gone) ∙ e in cc)
none_before p s t e k (inr b) on c = let m = made p s e t on in absurd (refused_goes p s e.event m.after b m.step)

-- after it the one that relocates
pub relocates : (p : Platform) (s t : State) (e : Entry) (k : ℕ) → Sound p → IsHanded p s → run_on p s e ≡ Some t → IsChange s t k → Relocates p s e.event k
relocates p s t e k fit h on c =
    let m = made p s e t on in
    let move : Moves p s e.event t = subst (Moves p s e.event) m.state (moves p s.writes s e.event m.after fit h m.step) in
    elim (move.changes k c.there c.also) [ inl same ↦ absurd (c.changed same) | inr moved ↦ moved ]

names_change : (p : Platform) (past : List Transition) (s t : State) (e : Entry) (k : ℕ) → Sound p → Told p past s → run_on p s e ≡ Some t → IsChange s t k → is_named p past (step_made s e t) k ≡ true
names_change p past s t e k fit (inl h) on c = absurd (none_before p s t e k h.0 on c)
names_change p past s t e k fit (inr h) on c =
    let m = made p s e t on in
    let moved = relocates p s t e k fit h.0 on c in
    let resumes : is_resume_of k e.event ≡ true = ap (is_resume_of k) moved.event ∙ itself k in
    let six : is_at p F6 e ≡ true = at_cell p e (smm_address (at s k)) (cell_of p F6 0) F6 moved.place refl (sym (sym (ap (address_of s) moved.event) ∙ m.place)) in
    let passed = (h.1.aloft k moved.past).passed in
    rw (resumes, six, passed) refl

pub named_law : (p : Platform) (es : List Entry) → IsFit p → IsNamed p es
named_law p es fits = record {
  named = each_passes p (Told p) (told_on p fits) (λ older x. list_all (is_named p older x) (moved_in p x))
      (λ past s t e h on. all_filtered (is_named p past (step_made s e t)) (has_moved (step_made s e t)) (places (count_of p)) (λ k is. names_change p past s t e k (sound p fits) h on (is_change s t e k is))) (told_first p fits) es;
}
