-- A parked processor, and what is said of the eject's processor where the monarch's record stays as it is.
use Rattle.std.proofs.Common.{ℕ, ◌≡◌, ◌==◌, ◌⊎◌, inl, inr, Bool, true, false, List, [], ◌∷◌, Some, None, refl, sym, subst, ◌∙◌}
use Rattle.hp_model.specs.declared.platforms.Platform.{Platform}
use Rattle.hp_model.specs.declared.processors.Cpu.{Cpu}
use Rattle.hp_model.specs.declared.labels.Label.{Label}
use Rattle.hp_model.specs.declared.labels.Label.TheVariants.{R1, R2, R3, R6, N5, N6, E0, E1, E2, E4a, E4b, E4c, E4d, E4e, E4f, E4g, T}
use Rattle.hp_model.specs.declared.outcomes.Outcome.{Outcome}
use Rattle.hp_model.specs.declared.outcomes.Outcome.TheVariants.{Added, Ejected, Refused}
use Rattle.hp_model.specs.Platform.{tile}
use Rattle.hp_model.specs.Memory.{Write, byte_at}
use Rattle.hp_model.specs.Cpu.{cpu_at, smm_address}
use Rattle.hp_model.specs.declared.labels.Handler.TheVariants.{Relocated}
use Rattle.hp_model.specs.Labels.{handler_of}
use Rattle.hp_model.specs.SharedBytes.{layout_of, parked_byte}
use Rattle.hp_model.specs.Monarch.{Monarch}
use Rattle.hp_model.specs.Handlers.{Seat, next_at, address_of_label}
use Rattle.hp_model.specs.Step.{is_after_broadcast}
use Rattle.hp_model.specs.Transitions.{Transition}
use Rattle.hp_model.specs.Outcomes.{departures, is_eject_of, is_only}
use Rattle.hp_sealed.proofs.Left.{pick}
use Rattle.hp_exact.proofs.Monarchs.{is_among, ejecting}
use Rattle.hp_exact.proofs.Hits.{Alike}
use Rattle.hp_exact.proofs.Losses.{pending}
use Rattle.hp_exact.proofs.EjectTie.{looping, Parked, IsBoundEject, Waits, Alone, Gone, PartsAt}

-- a parked processor
pub parked_stays : (p : Platform) (slot : ℕ) (c d : Cpu) → d.present ≡ c.present → d.smbase ≡ c.smbase → smm_address d ≡ smm_address c → Parked p slot c → Parked p slot d
parked_stays p slot c d present smbase address h = record { present = present ∙ h.present; smbase = smbase ∙ h.smbase; label = h.label; loops = h.loops; place = address ∙ h.place }

pub parked_alike : (p : Platform) (slot : ℕ) (c d : Cpu) → Alike c d → Parked p slot c → Parked p slot d
parked_alike p slot c d h = parked_stays p slot c d h.present h.smbase (rw (h.present, h.mode) refl)

pub parked_inside : (p : Platform) (slot : ℕ) (c : Cpu) → Parked p slot c → smm_address c ≡ None → ⊥
parked_inside p slot c h e = let both : None ≡ Some (address_of_label (tile p slot) h.label) = sym e ∙ h.place in cc

pub loops_relocated : (l : Label) → is_among l looping ≡ true → handler_of l ≡ Relocated
loops_relocated R1 e = refl
loops_relocated R2 e = refl
loops_relocated R3 e = refl
loops_relocated R6 e = refl
loops_relocated _ e = absurd cc

pub loops_next : (p : Platform) (q : Seat) (r : Monarch) (v : ℕ) (l : Label) → is_among l looping ≡ true → (l ≡ R3 → (v == 1) ≡ false) → is_among (next_at (layout_of p) q r l v).label looping ≡ true
loops_next p q r v R1 e held = refl
loops_next p q r v R2 e held = pick (λ m. is_among m looping ≡ true) (v == 1) R6 R3 refl refl
loops_next p q r v R3 e held = let no = held refl in rw no refl
loops_next p q r v R6 e held = refl
loops_next p q r v _ e held = absurd cc

-- where the eject waits for its processor
pub waiting_rows : (l : Label) → is_among l (E1 ∷ E2 ∷ E4a ∷ E4b ∷ []) ≡ true → (is_after_broadcast l ≡ true) × (is_among l ejecting ≡ true) × (is_among l pending ≡ true)
waiting_rows E1 e = (refl, refl, refl)
waiting_rows E2 e = (refl, refl, refl)
waiting_rows E4a e = (refl, refl, refl)
waiting_rows E4b e = (refl, refl, refl)
waiting_rows _ e = absurd cc

pub still_rows : (l : Label) → is_among l (E1 ∷ E2 ∷ E4a ∷ []) ≡ true → (is_among l (N5 ∷ N6 ∷ E4b ∷ []) ≡ false) × (is_among l (E1 ∷ E2 ∷ E4a ∷ E4b ∷ []) ≡ true)
still_rows E1 e = (refl, refl)
still_rows E2 e = (refl, refl)
still_rows E4a e = (refl, refl)
still_rows _ e = absurd cc

pub late_rows : (l : Label) → is_among l (E4c ∷ E4d ∷ E4e ∷ E4f ∷ E4g ∷ []) ≡ true → (is_among l ejecting ≡ true) × (is_among l (E4b ∷ []) ≡ false)
late_rows E4c e = (refl, refl)
late_rows E4d e = (refl, refl)
late_rows E4e e = (refl, refl)
late_rows E4f e = (refl, refl)
late_rows E4g e = (refl, refl)
late_rows _ e = absurd cc

pub early_rows : (l : Label) → is_among l (E1 ∷ E2 ∷ []) ≡ true → is_among l (E1 ∷ E2 ∷ E4a ∷ E4b ∷ []) ≡ true
early_rows E1 e = refl
early_rows E2 e = refl
early_rows _ e = absurd cc

-- where the record stays
module _ (p : Platform) (own own2 : List Transition) (d d2 : Bool) (cs cs2 : List Cpu) (ws ws2 : List Write) (r : Monarch) (quiet : d2 ≡ false → d ≡ false) (left : d2 ≡ false → departures p own2 ≡ departures p own) where
  gone_same : (o : Outcome) → Gone p own d r o → Gone p own2 d2 r o
  gone_same (Added cpu apic slot) h = tt
  gone_same (Ejected cpu apic slot) h = (h.0, λ calm. subst (λ xs. is_only (is_eject_of p cpu slot) xs ≡ true) (sym (left calm)) (h.1 (quiet calm)))
  gone_same (Refused why) h = tt

  alone_same : Alone p own d r → Alone p own2 d2 r
  alone_same h calm = subst (λ xs. is_only (is_eject_of p r.eject.cpu r.eject.slot) xs ≡ true) (sym (left calm)) (h (quiet calm))

  abbrev Was : Type 0
  Was = byte_at ws (parked_byte (layout_of p) r.eject.slot) ≡ 1

  abbrev Is : Type 0
  Is = Parked p r.eject.slot (cpu_at cs2 r.eject.cpu)

  waits_same : (d2 ≡ false → Parked p r.eject.slot (cpu_at cs r.eject.cpu) → Is) → (d2 ≡ false → byte_at ws2 (parked_byte (layout_of p) r.eject.slot) ≡ 1 → Was ⊎ Is) → Waits p d cs ws r → Waits p d2 cs2 ws2 r
  waits_same still byte h calm one = elim (byte calm one) [ inl was ↦ still calm (h (quiet calm) was) | inr is ↦ is ]

  pub parts_same : (l : Label) → (is_among l (E1 ∷ E2 ∷ E4a ∷ E4b ∷ []) ≡ true → d2 ≡ false → Parked p r.eject.slot (cpu_at cs r.eject.cpu) → Is)
      → (is_among l (E1 ∷ E2 ∷ []) ≡ true → d2 ≡ false → IsBoundEject p r → byte_at ws2 (parked_byte (layout_of p) r.eject.slot) ≡ 1 → Was ⊎ Is) → PartsAt p own d cs ws r l → PartsAt p own2 d2 cs2 ws2 r l
  parts_same E0 still byte q = q
  parts_same E1 still byte q = (q.0, waits_same (still refl) (λ calm. byte refl calm q.0) q.1)
  parts_same E2 still byte q = (q.0, waits_same (still refl) (λ calm. byte refl calm q.0) q.1)
  parts_same E4a still byte q = (q.0, λ calm. still refl calm (q.1 (quiet calm)))
  parts_same E4b still byte q = (q.0, λ calm. still refl calm (q.1 (quiet calm)))
  parts_same E4c still byte q = (q.0, alone_same q.1)
  parts_same E4d still byte q = (q.0, alone_same q.1)
  parts_same E4e still byte q = (q.0, alone_same q.1)
  parts_same E4f still byte q = (q.0, alone_same q.1)
  parts_same E4g still byte q = (q.0, alone_same q.1)
  parts_same T still byte q = gone_same r.outcome q
  parts_same _ still byte q = tt

pub parts_fresh : (p : Platform) (own : List Transition) (d : Bool) (cs : List Cpu) (ws : List Write) (r : Monarch) (l : Label) → is_after_broadcast l ≡ false → PartsAt p own d cs ws r l
parts_fresh p own d cs ws r E0 e = absurd cc
parts_fresh p own d cs ws r E1 e = absurd cc
parts_fresh p own d cs ws r E2 e = absurd cc
parts_fresh p own d cs ws r E4a e = absurd cc
parts_fresh p own d cs ws r E4b e = absurd cc
parts_fresh p own d cs ws r E4c e = absurd cc
parts_fresh p own d cs ws r E4d e = absurd cc
parts_fresh p own d cs ws r E4e e = absurd cc
parts_fresh p own d cs ws r E4f e = absurd cc
parts_fresh p own d cs ws r E4g e = absurd cc
parts_fresh p own d cs ws r T e = absurd cc
parts_fresh p own d cs ws r _ e = tt
