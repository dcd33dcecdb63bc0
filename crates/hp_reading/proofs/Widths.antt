-- The glyph of a width, written and read.
use Rattle.std.proofs.Common.{◌≡◌, ℕ, ◌==◌, ◌||◌, ◌*◌, ◌^◌, Bool, true, false, [], ◌∷◌, Option, Some, if◌then◌else◌, refl, sym, subst, inl, inr, arith}
use Rattle.std.proofs.lemmas.Bool.{eqb-true, or_cases}
use Rattle.std.proofs.lemmas.Fmt.{decimal_digit}
use Rattle.std.proofs.lemmas.Option.{none-some, same_Some}
use Rattle.std.specs.Fmt.{decimal}
use Rattle.hp_model.specs.Access.{is_memory_width, is_port_width}
use Rattle.hp_reading.specs.Lines.{memory_width, port_width}

-- the glyph of a width
pub record IsMemoryGlyph (c w : ℕ) : Type 0 where
  pub wide : memory_width c ≡ Some w
  pub known : is_memory_width w ≡ true
  pub glyph : decimal w ≡ c ∷ []
  pub power : 16 ^ (2 * w) ≡ 256 ^ w

pub record IsPortGlyph (c w : ℕ) : Type 0 where
  pub wide : port_width c ≡ Some w
  pub known : is_port_width w ≡ true
  pub glyph : decimal w ≡ c ∷ []
  pub power : 16 ^ (2 * w) ≡ 256 ^ w

memory_1 : IsMemoryGlyph 49 1
memory_1 = record { wide = refl; known = refl; glyph = decimal_digit 1 (omega arith); power = refl }

memory_2 : IsMemoryGlyph 50 2
memory_2 = record { wide = refl; known = refl; glyph = decimal_digit 2 (omega arith); power = refl }

memory_4 : IsMemoryGlyph 52 4
memory_4 = record { wide = refl; known = refl; glyph = decimal_digit 4 (omega arith); power = refl }

memory_8 : IsMemoryGlyph 56 8
memory_8 = record { wide = refl; known = refl; glyph = decimal_digit 8 (omega arith); power = refl }

port_1 : IsPortGlyph 49 1
port_1 = record { wide = refl; known = refl; glyph = decimal_digit 1 (omega arith); power = refl }

port_2 : IsPortGlyph 50 2
port_2 = record { wide = refl; known = refl; glyph = decimal_digit 2 (omega arith); power = refl }

port_4 : IsPortGlyph 52 4
port_4 = record { wide = refl; known = refl; glyph = decimal_digit 4 (omega arith); power = refl }

-- a test of a number, and the rest of a chain of them
tested : {P : Type 0} (c k v w : ℕ) (others : Option ℕ) → (if c == k then Some v else others) ≡ Some w → (c ≡ k → v ≡ w → P) → (others ≡ Some w → P) → P
tested {P} c k v w others e found more = by (c == k) refl e
  where
    by : (t : Bool) → (c == k) ≡ t → (if t then Some v else others) ≡ Some w → P
    by true is e = found (eqb-true c k is) (same_Some v w e)
    by false is e = more e

glyph_at : (P : ℕ → ℕ → Type 0) (c k v w : ℕ) → P k v → c ≡ k → v ≡ w → P c w
glyph_at P c k v w p e f = subst (λ x. P c x) f (subst (λ x. P x v) (sym e) p)

pub memory_is : (c w : ℕ) → memory_width c ≡ Some w → IsMemoryGlyph c w
memory_is c w e =
    tested c 49 1 w _ e (glyph_at IsMemoryGlyph c 49 1 w memory_1)
    (λ e. tested c 50 2 w _ e (glyph_at IsMemoryGlyph c 50 2 w memory_2)
    (λ e. tested c 52 4 w _ e (glyph_at IsMemoryGlyph c 52 4 w memory_4)
    (λ e. tested c 56 8 w _ e (glyph_at IsMemoryGlyph c 56 8 w memory_8)
    (λ e. absurd (none-some w e)))))

pub port_is : (c w : ℕ) → port_width c ≡ Some w → IsPortGlyph c w
port_is c w e =
    tested c 49 1 w _ e (glyph_at IsPortGlyph c 49 1 w port_1)
    (λ e. tested c 50 2 w _ e (glyph_at IsPortGlyph c 50 2 w port_2)
    (λ e. tested c 52 4 w _ e (glyph_at IsPortGlyph c 52 4 w port_4)
    (λ e. absurd (none-some w e))))

width_case : (P : ℕ → Type 0) (w k : ℕ) (others : Bool) → ((w == k) || others) ≡ true → P k → (others ≡ true → P w) → P w
width_case P w k others e here more =
    elim (or_cases (w == k) others e) [
      | inl is ↦ subst P (sym (eqb-true w k is)) here
      | inr is ↦ more is
    ]

pub record HasMemoryGlyph (w : ℕ) : Type 0 where
  pub code : ℕ
  pub is : IsMemoryGlyph code w

pub record HasPortGlyph (w : ℕ) : Type 0 where
  pub code : ℕ
  pub is : IsPortGlyph code w

pub memory_glyph : (w : ℕ) → is_memory_width w ≡ true → HasMemoryGlyph w
memory_glyph w e =
    width_case HasMemoryGlyph w 1 _ e (record { code = 49; is = memory_1 })
    (λ e. width_case HasMemoryGlyph w 2 _ e (record { code = 50; is = memory_2 })
    (λ e. width_case HasMemoryGlyph w 4 _ e (record { code = 52; is = memory_4 })
    (λ e. subst HasMemoryGlyph (sym (eqb-true w 8 e)) (record { code = 56; is = memory_8 }))))

pub port_glyph : (w : ℕ) → is_port_width w ≡ true → HasPortGlyph w
port_glyph w e =
    width_case HasPortGlyph w 1 _ e (record { code = 49; is = port_1 })
    (λ e. width_case HasPortGlyph w 2 _ e (record { code = 50; is = port_2 })
    (λ e. subst HasPortGlyph (sym (eqb-true w 4 e)) (record { code = 52; is = port_4 })))
