-- The law: what is executed in SMM was locked before it.
use Rattle.std.proofs.Common.{ℕ, ◌≡◌, ◌+◌, ◌<◌, inl, inr, Bool, true, false, ◌&&◌, List, ◌∷◌, ◌++◌, Some, None, refl, sym, subst, ◌∙◌}
use Rattle.hp_model.specs.declared.platforms.Platform.{Platform}
use Rattle.hp_model.specs.declared.entries.Entry.{Entry}
use Rattle.hp_model.specs.declared.entries.Event.{Event}
use Rattle.hp_model.specs.declared.entries.Event.TheVariants.{Insert, Remove, Do, TakeSmi, TakeInit, Resume, Tell}
use Rattle.hp_model.specs.declared.labels.Label.{Label}
use Rattle.hp_model.specs.declared.processors.Mode.{Mode}
use Rattle.hp_model.specs.declared.processors.Mode.TheVariants.{Wait, Running, Halted, Smm}
use Rattle.hp_model.specs.Platform.{IsFit, apic_of}
use Rattle.hp_model.specs.Memory.{Write}
use Rattle.hp_model.specs.Cpu.{is_in_smm, smm_address}
use Rattle.hp_model.specs.Labels.{handler_of}
use Rattle.hp_model.specs.SharedBytes.{layout_of}
use Rattle.hp_model.specs.Monarch.{Monarch}
use Rattle.hp_model.specs.Handlers.{Seat, want_at}
use Rattle.hp_model.specs.State.{State, at, start}
use Rattle.hp_model.specs.Firmware.{seat, wanted}
use Rattle.hp_model.specs.Runs.{run, run_from, address_of}
use Rattle.hp_model.specs.Safety.{IsLockedBefore, is_astray, wants_none}
use Rattle.hp_sealed.specs.Left.{Sound, is_kept}
use Rattle.hp_sealed.specs.Sealed.{IsOutside}
use Rattle.hp_sealed.proofs.Places.{guarded_locked, kept_guarded, kept_cell}
use Rattle.hp_sealed.proofs.Starts.{sound, starts}
use Rattle.hp_safety.proofs.Invariant.{facts_of, Met, IsAtCell}
use Rattle.hp_safety.proofs.EachRow.{row_of_each}
use Rattle.hp_safety.proofs.Keeps.{row_here}
use Rattle.hp_sealed.proofs.Runs.{made, run_rest, first_step}
use Rattle.hp_safety.proofs.Runs.{IsHanded, IsGood, runs_go}

-- in SMM only after the hand-over
nobody : (p : Platform) (s : State) (k a : ℕ) → IsOutside p s → smm_address (at s k) ≡ Some a → ⊥
nobody p s k a h is = let both : None ≡ Some a = sym (h.outside k) ∙ is in cc

stands_handed : (p : Platform) (s : State) (k a : ℕ) → IsGood p s → smm_address (at s k) ≡ Some a → IsHanded p s
stands_handed p s k a (inl h) is = absurd (nobody p s k a h.holds.cpus is)
stands_handed p s k a (inr (inl h)) is = absurd (nobody p s k a h.cpus is)
stands_handed p s k a (inr (inr h)) is = h

stands_there : (p : Platform) (s : State) (k a : ℕ) → IsHanded p s → smm_address (at s k) ≡ Some a → IsAtCell p s.monarch s.writes k (at s k).smbase (at s k).base (Some a)
stands_there p s k a h is = subst (IsAtCell p s.monarch s.writes k (at s k).smbase (at s k).base) is (h.stand.each k)

-- the four bytes there are kept
pub record AtKept (p : Platform) (s : State) (a : ℕ) : Type 0 where
  pub kept : (i : ℕ) → i < 4 → is_kept p (a + i) ≡ true
  pub handed : IsHanded p s

kept_here : (p : Platform) (s : State) (k a : ℕ) → Sound p → IsGood p s → smm_address (at s k) ≡ Some a → AtKept p s a
kept_here p s k a fit good is =
    let h = stands_handed p s k a good is in
    let c = stands_there p s k a h is in
    record {
      kept = λ i small. subst (λ y. is_kept p (y + i) ≡ true) (sym c.1.here) (kept_cell p c.0 (handler_of c.0) k (at s k).smbase i fit refl c.1.runs small);
      handed = h;
    }

-- the actor of an entry with an address is in SMM
actor_stands : (s : State) (e : Event) (a : ℕ) → address_of s e ≡ Some a → (k : ℕ) × (smm_address (at s k) ≡ Some a)
actor_stands s (Insert k) a is = absurd cc
actor_stands s (Remove k) a is = absurd cc
actor_stands s (Do k x) a is = (k, is)
actor_stands s (TakeSmi k) a is = (k, is)
actor_stands s (TakeInit k) a is = (k, is)
actor_stands s (Resume k) a is = (k, is)
actor_stands s (Tell o) a is = (0, is)

at_entry : (p : Platform) (t s : State) (es before rest : List Entry) (e : Entry) (a : ℕ) → Sound p → IsGood p (start p) → run_from p (start p) es ≡ Some t → es ≡ before ++ e ∷ rest → run_from p (start p) before ≡ Some s → e.at ≡ Some a → AtKept p s a
at_entry p t s es before rest e a fit good is whole here place =
    let one = first_step p s t e rest (run_rest p (start p) t s before (e ∷ rest) es whole is here) in
    let who = actor_stands s e.event a ((made p s e one.0 one.1).place ∙ place) in
    kept_here p s who.0 a fit (runs_go p (start p) s before fit good here).0 who.1

-- nobody is astray: each row wants something
row_wants : (p : Platform) (q : Seat) (r : Monarch) (ws : List Write) (apic base : ℕ) (l : Label) → Met p r ws apic base l → wants_none (want_at (layout_of p) q r l) ≡ false
row_wants p q r ws apic base l met = row_of_each (λ l. wants_none (want_at (layout_of p) q r l) ≡ false) (record { f1 = refl; f2 = refl; f3 = refl; f4 = refl; f5 = refl; f6 = refl; r1 = refl; r2 = refl; r3 = refl; r4 = refl; r5 = refl; r6 = refl; s0 = refl; s1 = refl; s2 = refl; s3 = refl; s4 = refl; c1 = refl; c2 = refl; c3 = refl; c4 = refl; c5 = refl; c6 = refl; nb = refl; n0 = refl; n1 = refl; n2 = refl; n3 = refl; n4 = refl; n5 = refl; n6 = refl; n7 = refl; n8a = refl; n8b = refl; n9 = refl; n10 = refl; n11 = refl; e0 = refl; e1 = refl; e2 = refl; e3 = refl; e4a = refl; e4b = refl; e4c = refl; e4d = refl; e4e = refl; e4f = refl; e4g = refl; e4h = refl; t = refl; e5 = refl; e6 = refl; e7 = refl }) (facts_of p r ws apic base) l met

not_astray : (p : Platform) (s : State) (k : ℕ) → Sound p → IsGood p s → is_astray p s k ≡ false
not_astray p s k fit good = by_place (at s k).present (at s k).mode refl refl
  where
    with_row : (a : ℕ) → smm_address (at s k) ≡ Some a → wants_none (wanted p s k) ≡ false
    with_row a is =
        let h = stands_handed p s k a good is in
        let c = stands_there p s k a h is in
        rw (row_here p s.writes s k a c.0 fit h is c.1) (row_wants p (seat p s k) s.monarch s.writes (apic_of p k) (at s k).base c.0 c.1.met)

    by_place : (b : Bool) (m : Mode) → (at s k).present ≡ b → (at s k).mode ≡ m → ((b && is_in_smm m) && wants_none (wanted p s k)) ≡ false
    by_place false m here there = refl
    by_place true Wait here there = refl
    by_place true (Running g) here there = refl
    by_place true (Halted g) here there = refl
    by_place true (Smm a) here there = with_row a (rw (here, there) refl)

pub law : (p : Platform) (es : List Entry) (t : State) → IsFit p → run p es ≡ Some t → IsLockedBefore p es
unfolding run
law p es t fits is =
    let fit = sound p fits in
    let good : IsGood p (start p) = inl (starts p fits) in
    record {
      locked = λ before rest e s a i whole here place small.
          let k = at_entry p t s es before rest e a fit good is whole here place in
          guarded_locked p s.locks (a + i) fit k.handed.locked.registers (kept_guarded p (a + i) (k.kept i small));
      untouched = λ before rest e s a i whole here place small first since u split there locked.
          let k = at_entry p t s es before rest e a fit good is whole here place in
          let later = runs_go p u s since fit (runs_go p (start p) u first fit good there).0 (run_rest p (start p) s u first since before split here there) in
          (later.1.left (a + i) (k.kept i small) locked).touched;
      rows = λ before rest s k whole here. not_astray p s k fit (runs_go p (start p) s before fit good here).0;
    }
