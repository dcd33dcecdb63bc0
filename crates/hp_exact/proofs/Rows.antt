-- What the monarch's rows read and write, and who is still there after them.
use Rattle.std.proofs.Common.{ℕ, ◌≡◌, ◌≢◌, ◌<◌, ◌==◌, Bool, true, false, cond, not, ◌&&◌, ◌||◌, nat_lt, List, [], ◌∷◌, length, drop, Option, Some, None, bit_and, refl, sym, ap, subst, ◌∙◌, arith, get_or-set_other}
use Rattle.std.specs.List.{list_all}
use Rattle.std.proofs.lemmas.Bool.{and_parts, and_from, or_right, eqb-true}
use Rattle.std.proofs.lemmas.Bool.Decides.{nat_tests}
use Rattle.std.proofs.lemmas.Option.{same_Some}
use Rattle.hp_model.specs.declared.platforms.Platform.{Platform}
use Rattle.hp_model.specs.declared.processors.Cpu.{Cpu}
use Rattle.hp_model.specs.declared.accesses.Access.{Access}
use Rattle.hp_model.specs.declared.accesses.Access.TheVariants.{Nop}
use Rattle.hp_model.specs.declared.accesses.Want.{Want}
use Rattle.hp_model.specs.declared.accesses.Want.TheVariants as want
use Rattle.hp_model.specs.declared.labels.Label.{Label}
use Rattle.hp_model.specs.declared.labels.Label.TheVariants.{F1, F2, F3, F4, F5, F6, R1, R2, R3, R4, R5, R6, C1, C2, C3, C4, C5, C6, N5, N6, E4a, E4b, T, E7}
use Rattle.hp_model.specs.Platform.{count_of, apic_of, high_half}
use Rattle.hp_model.specs.Cpu.{absent, cpu_at}
use Rattle.hp_model.specs.Block.{Block, slot_at, status, block_write, ejected_by}
use Rattle.hp_model.specs.Interrupts.{decoded}
use Rattle.hp_model.specs.Boot.{value_in}
use Rattle.hp_model.specs.declared.labels.Handler.TheVariants.{Monarch as Monarchs}
use Rattle.hp_model.specs.Labels.{index_of, mark_of, same_label, handler_of}
use Rattle.hp_model.specs.SharedBytes.{layout_of}
use Rattle.hp_model.specs.declared.reports.Report.{Report}
use Rattle.hp_model.specs.Monarch.{Monarch}
use Rattle.hp_model.specs.Handlers.{Seat, want_at}
use Rattle.hp_model.specs.State.{State, at}
use Rattle.hp_model.specs.Ports.{without_ejected, writes_block}
use Rattle.hp_model.specs.Access.{answer_to, access_effect}
use Rattle.hp_model.specs.Firmware.{seat}
use Rattle.hp_model.specs.Step.{is_after_broadcast}
use Rattle.hp_model.specs.Transitions.{Transition, newest}
use Rattle.hp_model.specs.Account.{is_at}
use Rattle.hp_sealed.specs.Left.{Sound}
use Rattle.hp_sealed.proofs.Stay.{stays_sent}
use Rattle.hp_model.proofs.Marks.{same_label as one_label}
use Rattle.hp_exact.proofs.Stepping.{AtMonarch}
use Rattle.hp_exact.proofs.Monarchs.{is_among, ejecting}
use Rattle.hp_exact.proofs.Stages.{adding_alone}
use Rattle.hp_exact.proofs.Hits.{row_alike}
use Rattle.hp_exact.proofs.Reading.{select_is, search_is, ask_is, read_found, read_apic, read_status}
use Rattle.hp_exact.proofs.Reporting.{Reads, no_more}
use Rattle.hp_exact.proofs.Invariant.{collecting, is_reporting, Ordered, Agrees, is_there, Reported, last_read, Undisturbed}

-- the newest of a kind
pub newest_here : {A : Type 0} (kind : A → Bool) (x : A) (xs : List A) → kind x ≡ true → newest kind (x ∷ xs) ≡ Some x
unfolding newest
newest_here {A = A} kind x xs is = subst (λ b. (elim b as (λ _. Option A) [ true ↦ Some x | false ↦ newest kind xs ]) ≡ Some x) (sym is) refl

pub newest_past : {A : Type 0} (kind : A → Bool) (x : A) (xs : List A) → kind x ≡ false → newest kind (x ∷ xs) ≡ newest kind xs
unfolding newest
newest_past {A = A} kind x xs is = subst (λ b. (elim b as (λ _. Option A) [ true ↦ Some x | false ↦ newest kind xs ]) ≡ newest kind xs) (sym is) refl

-- what holds of a row's access holds of the access that is made
unfoldable pub access_of : Option Want → Access
access_of None = Nop
access_of (Some (want.Do a)) = a
access_of (Some (want.Tell o)) = Nop
access_of (Some want.Resume) = Nop

pub at_want : (p : Platform) (s : State) (F : Access → Type 0) (l m : Label) (a : Access) → l ≡ m → want_at (layout_of p) (seat p s 0) s.monarch l ≡ Some (want.Do a) → F (access_of (want_at (layout_of p) (seat p s 0) s.monarch m)) → F a
unfolding access_of
at_want p s F l m a is wants h = subst F (ap access_of (subst (λ n. want_at (layout_of p) (seat p s 0) s.monarch n ≡ Some (want.Do a)) is wants)) h

pub reads_row : (p : Platform) (s : State) (past : List Transition) (x : Transition) (l : Label) (a : Access) → Sound p → AtMonarch p s l → want_at (layout_of p) (seat p s 0) s.monarch l ≡ Some (want.Do a)
    → s.block.modern ≡ true → Agrees p s.block s.cpus → Ordered (count_of p) s.monarch → (is_after_broadcast s.monarch.label ≡ true → Undisturbed p s.block s.cpus (last_read p past) s.monarch)
    → x.before ≡ s → is_at p C4 x.entry ≡ (index_of l == index_of C4)
    → Reads p s.block (access_effect p 0 true a s).block (last_read p past) (last_read p (x ∷ past)) s.monarch l (value_in (answer_to true a s))
unfolding access_of
reads_row p s past x l a sound here wants modern agrees ordered before same seen = record {
  selects = λ e.
      let small = possible C1 e refl in
      at_want p s (λ a. (access_effect p 0 true a s).block.selector ≡ s.monarch.collection.cpu) l C1 a e wants (select_is s.block s.monarch.collection.cpu modern (let few = sound.few in omega (arith, few, small)));
  searches = λ e.
      let g = search_is s.block modern (less C2 e refl refl) in
      at_want p s (λ a. ((access_effect p 0 true a s).block.command ≡ 0) × ((access_effect p 0 true a s).block.selector < count_of p)) l C2 a e wants (g.0, subst (λ n. (block_write s.block 5 1 0).selector < n) agrees.slots g.1);
  finds = λ e.
      let chosen = (clear C3 e refl).chosen.searched (at_label C3 e refl) in
      let few = sound.few in let n = agrees.slots in let small = chosen.1 in
      at_want p s (λ a. (access_effect p 0 true a s).block.selector ≡ value_in (answer_to true a s)) l C3 a e wants (sym (read_found s.block modern (omega (arith, n, small)) (omega (arith, few, small)) chosen.0));
  reads = λ e.
      let chosen = (clear C4 e refl).chosen.selected (at_label4 C4 e refl) in
      let value : value_in (answer_to true a s) ≡ status (slot_at s.block s.monarch.collection.cpu) =
      at_want p s (λ a. value_in (answer_to true a s) ≡ status (slot_at s.block s.monarch.collection.cpu)) l C4 a e wants (read_status s.block modern (less C4 e refl refl) ∙ ap (λ k. status (slot_at s.block k)) chosen) in
      let now : is_at p C4 x.entry ≡ true = seen ∙ rw e refl in
      (at_want p s (λ a. (access_effect p 0 true a s).block.selector ≡ s.monarch.collection.cpu) l C4 a e wants chosen, value, rw (newest_here (λ y. is_at p C4 y.entry) x past now, same, value) (same_number (status (slot_at s.block s.monarch.collection.cpu))));
  asks = λ e.
      let chosen = (clear C5 e refl).chosen.selected (at_label4 C5 e refl) in
      let g = ask_is s.block modern (less C5 e refl refl) in
      let past_it : is_at p C4 x.entry ≡ false = seen ∙ rw e refl in (
        at_want p s (λ a. (access_effect p 0 true a s).block.selector ≡ s.monarch.collection.cpu) l C5 a e wants (g.1 ∙ chosen),
        at_want p s (λ a. (access_effect p 0 true a s).block.command ≡ 3) l C5 a e wants g.0,
        newest_past (λ y. is_at p C4 y.entry) x past past_it,
      );
  names = λ e.
      let chosen = (clear C6 e refl).chosen.selected (at_label4 C6 e refl) in
      let asked = (clear C6 e refl).chosen.asked (rw (here.label ∙ e) refl) in
      let small = possible C6 e refl in
      at_want p s (λ a. value_in (answer_to true a s) ≡ apic_of p s.monarch.collection.cpu) l C6 a e wants
      (read_apic p s.block modern (less C6 e refl refl) asked agrees.apic (let c = chosen in omega (arith, c, small)) (sound.ids s.block.selector) ∙ ap (apic_of p) chosen);
  hands = λ e.
      let small = (clear E4a e refl).reported.possible (rw (here.label ∙ e) refl) in
      at_want p s (λ a. (access_effect p 0 true a s).block.selector ≡ s.monarch.eject.cpu) l E4a a e wants (select_is s.block s.monarch.eject.cpu modern (let few = sound.few in omega (arith, few, small)));
}
  where
    clear : (m : Label) → l ≡ m → is_after_broadcast m ≡ true → Undisturbed p s.block s.cpus (last_read p past) s.monarch
    clear m e after = before (subst (λ n. is_after_broadcast n ≡ true) (sym (here.label ∙ e)) after)

    possible : (m : Label) → l ≡ m → is_among m collecting ≡ true → s.monarch.collection.cpu < count_of p
    possible m e there = ordered.possible (subst (λ n. is_among n collecting ≡ true) (sym (here.label ∙ e)) there)

    at_label : (m : Label) → l ≡ m → is_among m (C3 ∷ []) ≡ true → is_among s.monarch.label (C3 ∷ []) ≡ true
    at_label m e there = subst (λ n. is_among n (C3 ∷ []) ≡ true) (sym (here.label ∙ e)) there

    at_label4 : (m : Label) → l ≡ m → is_among m (C2 ∷ C4 ∷ C5 ∷ C6 ∷ []) ≡ true → is_among s.monarch.label (C2 ∷ C4 ∷ C5 ∷ C6 ∷ []) ≡ true
    at_label4 m e there = subst (λ n. is_among n (C2 ∷ C4 ∷ C5 ∷ C6 ∷ []) ≡ true) (sym (here.label ∙ e)) there

    less : (m : Label) → l ≡ m → is_after_broadcast m ≡ true → is_among m (C2 ∷ C4 ∷ C5 ∷ C6 ∷ []) ≡ true → s.block.selector < length s.block.slots
    less m e after there =
        let chosen = (clear m e after).chosen.selected (at_label4 m e there) in
        let small = ordered.possible (collects (is_among s.monarch.label (C2 ∷ C4 ∷ C5 ∷ C6 ∷ [])) (at_label4 m e there)) in
        let n = agrees.slots in
        omega (arith, chosen, small, n)
      where
        plain : (n : ℕ) → ((n == mark_of C2) || ((n == mark_of C4) || ((n == mark_of C5) || ((n == mark_of C6) || false)))) ≡ true → ((n == mark_of C1) || ((n == mark_of C2) || ((n == mark_of C3) || ((n == mark_of C4) || ((n == mark_of C5) || ((n == mark_of C6) || false)))))) ≡ true
        plain n e = grind (arith, nat_tests)

        collects : (b : Bool) → is_among s.monarch.label (C2 ∷ C4 ∷ C5 ∷ C6 ∷ []) ≡ true → is_among s.monarch.label collecting ≡ true
        collects b e = plain (mark_of s.monarch.label) e

    same_number : (n : ℕ) → (n == n) ≡ true
    same_number n = grind (arith, nat_tests)

-- who was there is there still, but for whom E4b ejects
abbrev Stay : Platform → State → Label → Option Want → Type 0
Stay p s l None = Unit {0}
Stay p s l (Some (want.Do a)) = (k : ℕ) → (l ≡ E4b → k ≢ s.block.selector) → (at s k).present ≡ true → (at (access_effect p 0 true a s) k).present ≡ true
Stay p s l (Some (want.Tell o)) = Unit {0}
Stay p s l (Some want.Resume) = Unit {0}

removed_other : (o : Option ℕ) (cs : List Cpu) (k : ℕ) → (o ≡ Some k → ⊥) → (cpu_at cs k).present ≡ true → (cpu_at (without_ejected o cs) k).present ≡ true
removed_other None cs k other e = e
removed_other (Some j) cs k other e = subst (λ (c : Cpu). c.present ≡ true) (sym (get_or-set_other cs j k absent absent (λ same. other (ap Some (sym same))))) e

ejects_selected : (b d : Block) (k : ℕ) → k ≢ b.selector → ejected_by b d ≡ Some k → ⊥
ejects_selected b d k other e = by_test ((slot_at b b.selector).enabled && not (slot_at d b.selector).enabled) e
  where
    by_test : (t : Bool) → cond t (Some b.selector) None ≡ Some k → ⊥
    by_test true f = other (sym (same_Some b.selector k f))
    by_test false f = cc

stay_rows : (p : Platform) (s : State) (q : Seat) (l : Label) → Stay p s l (want_at (layout_of p) q s.monarch l)
stay_rows p s q F6 = tt
stay_rows p s q R5 = tt
stay_rows p s q N5 = λ k n e. (stays_sent (decoded p.x2apic (high_half p.x2apic s.monarch.add.apic) 0x69f) (apic_of p 0) p.apic s.cpus k).present ∙ e
stay_rows p s q N6 = λ k n e. (stays_sent (decoded p.x2apic (high_half p.x2apic s.monarch.add.apic) 0x69f) (apic_of p 0) p.apic s.cpus k).present ∙ e
stay_rows p s q E4b = λ k n e. removed_other (ejected_by s.block (block_write s.block 4 1 8)) s.cpus k (ejects_selected s.block (block_write s.block 4 1 8) k (n refl)) e
stay_rows p s q T = tt
stay_rows p s q E7 = tt
stay_rows p s q l = λ k n e. (row_alike p 0 s q s.monarch l refl k).present ∙ e

pub stays_row : (p : Platform) (s : State) (l : Label) (a : Access) → want_at (layout_of p) (seat p s 0) s.monarch l ≡ Some (want.Do a) → (k : ℕ) → (l ≡ E4b → k ≢ s.block.selector) → (at s k).present ≡ true → (at (access_effect p 0 true a s) k).present ≡ true
stays_row p s l a wants = subst (Stay p s l) wants (stay_rows p s (seat p s 0) l)

-- the label is this one
pub is_one : (l m : Label) → is_among l (m ∷ []) ≡ true → l ≡ m
is_one l m e = one_label l m (eqb-true (mark_of l) (mark_of m) (first (mark_of l == mark_of m) e))
  where
    first : (x : Bool) → (x || false) ≡ true → x ≡ true
    first true f = refl
    first false f = absurd cc

-- and reports stay true
all_two : (f g h : Report → Bool) → ((t : Report) → f t ≡ true → g t ≡ true → h t ≡ true) → (ts : List Report) → list_all f ts ≡ true → list_all g ts ≡ true → list_all h ts ≡ true
all_two f g h more [] x y = refl
all_two f g h more (t ∷ ts) x y = let a = and_parts (f t) (list_all f ts) x in let b = and_parts (g t) (list_all g ts) y in and_from (h t) (list_all h ts) (more t a.0 b.0) (all_two f g h more ts a.1 b.1)

all_same : (f h : Report → Bool) → ((t : Report) → f t ≡ true → h t ≡ true) → (ts : List Report) → list_all f ts ≡ true → list_all h ts ≡ true
all_same f h more ts x = all_two f f h (λ t a b. more t a) ts x x

pub reported_still : (p : Platform) (cs ds : List Cpu) (r : Monarch) → ((k : ℕ) → (is_among r.label (E4b ∷ []) ≡ true → k ≢ r.eject.cpu) → (cpu_at cs k).present ≡ true → (cpu_at ds k).present ≡ true) → Reported p cs r → Reported p ds r
reported_still p cs ds r here h = record {
  own = h.own;
  there = λ e. by_label (is_among r.label (E4b ∷ [])) refl e;
  other = h.other;
  next = λ e one. here r.collection.cpu (λ f. absurd (apart (mark_of r.label) e f)) (h.next e one);
  added = h.added;
  adds = λ e. here r.add.cpu (λ f. no_more (is_among r.label ejecting) (adding_alone r.label (or_right (same_label r.label T) _ e)) (ejects f)) (h.adds e);
  possible = h.possible;
  ejects = h.ejects;
}
  where
    apart : (n : ℕ) → ((n == mark_of C5) || ((n == mark_of C6) || false)) ≡ true → ((n == mark_of E4b) || false) ≡ true → ⊥
    apart n e f = grind (arith, nat_tests)

    ejects : is_among r.label (E4b ∷ []) ≡ true → is_among r.label ejecting ≡ true
    ejects f = rw (is_one r.label E4b f) refl

    still : (t : Report) → ((is_among r.label (E4b ∷ []) ≡ true) → t.cpu ≢ r.eject.cpu) → is_there cs t ≡ true → is_there ds t ≡ true
    still t other e = plain (bit_and t.status 1 == 1) (cpu_at cs t.cpu).present (cpu_at ds t.cpu).present (λ f. here t.cpu other f) e
      where
        plain : (x y z : Bool) → (y ≡ true → z ≡ true) → (not x || y) ≡ true → (not x || z) ≡ true
        plain true y z more e = more e
        plain false y z more e = refl

    above : (a b : ℕ) → nat_lt a b ≡ true → b ≢ a
    above a b e f = grind (arith, nat_tests)

    by_label : (b : Bool) → is_among r.label (E4b ∷ []) ≡ b → is_reporting r.label ≡ true → list_all (is_there ds) (drop r.taken r.collection.reports) ≡ true
    by_label true is e = all_two (is_there cs) (λ t. nat_lt r.eject.cpu t.cpu) (is_there ds) (λ t a b. still t (λ _. above r.eject.cpu t.cpu b) a) (drop r.taken r.collection.reports) (h.there e) (h.ejects (ejects is))
    by_label false is e = all_same (is_there cs) (is_there ds) (λ t a. still t (λ f. no_more _ is f) a) (drop r.taken r.collection.reports) (h.there e)

-- other handlers don't write the register block
abbrev pub Unwritten : Option Want → Type 0
Unwritten None = Unit {0}
Unwritten (Some (want.Do a)) = writes_block a ≡ false
Unwritten (Some (want.Tell o)) = Unit {0}
Unwritten (Some want.Resume) = Unit {0}

pub other_unwritten : (p : Platform) (s : State) (k : ℕ) (l : Label) → handler_of l ≢ Monarchs → Unwritten (want_at (layout_of p) (seat p s k) s.monarch l)
other_unwritten p s k F1 other = refl
other_unwritten p s k F2 other = refl
other_unwritten p s k F3 other = refl
other_unwritten p s k F4 other = refl
other_unwritten p s k F5 other = refl
other_unwritten p s k F6 other = tt
other_unwritten p s k R1 other = refl
other_unwritten p s k R2 other = refl
other_unwritten p s k R3 other = refl
other_unwritten p s k R4 other = refl
other_unwritten p s k R5 other = tt
other_unwritten p s k R6 other = refl
other_unwritten p s k _ other = absurd (other refl)
