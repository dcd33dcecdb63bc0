-- A byte is locked exactly where it lies in a locked range.
use Rattle.std.proofs.Common.{◌≡◌, ℕ, zero, suc, Bool, true, false, ◌&&◌, ◌||◌, ◌==◌, ◌+◌, ◌-◌, ◌*◌, ◌≤◌, cond, [], ◌∷◌, Option, Some, None, refl, sym, ap, ◌∙◌, arith}
use Rattle.std.specs.Prelude.{nat_lt, nat_le}
use Rattle.std.proofs.lemmas.Bool.Decides.{nat_tests}
use Rattle.std.proofs.lemmas.Grind.{common_steps}
use Rattle.hp_model.specs.declared.spans.Span.{Span}
use Rattle.hp_model.specs.Spans.{in_span, in_some_span}
use Rattle.hp_model.specs.View.{Locks, tseg_size, is_in_default, is_locked}
use Rattle.hp_smram.specs.Memory.{IsMemorySize}
use Rattle.hp_smram.specs.Reach.{has_byte}
use Rattle.hp_smram.specs.Spans.{default_span, tseg_span, locked_spans, spans_in, is_in_some}
use Rattle.hp_smram.proofs.Bits.{locking, tseg_room}

two_spans : (a b : Option Span) (x : ℕ) → in_some_span (spans_in (a ∷ b ∷ [])) x ≡ (is_in_some a x || is_in_some b x)
two_spans None None x = refl
two_spans None (Some s) x = last (in_span x s)
  where
    last : (b : Bool) → (b || false) ≡ b
    last true = refl
    last false = refl
two_spans (Some r) None x = refl
two_spans (Some r) (Some s) x = last (in_span x r) (in_span x s)
  where
    last : (a b : Bool) → (a || (b || false)) ≡ (a || b)
    last true b = refl
    last false true = refl
    last false false = refl

default_bytes : (b : Bool) (x : ℕ) → is_in_some (cond b (Some (record { from = 0x30000; to = 0x4ffff })) None) x ≡ (b && (nat_le 0x30000 x && nat_lt x 0x50000))
default_bytes true x = area x
  where
    area : (x : ℕ) → (nat_le 0x30000 x && nat_le x 0x4ffff) ≡ (nat_le 0x30000 x && nat_lt x 0x50000)
    area x = grind (arith, nat_tests)
default_bytes false x = refl

tseg_bytes : (size low x : ℕ) (b : Bool) → IsMemorySize low → is_in_some (cond (nat_lt 0 size && b) (Some (record { from = low - size * 0x100000; to = low - 1 })) None) x ≡ (b && (nat_le (low - size * 0x100000) x && nat_lt x low))
tseg_bytes size low x b fits = by_size (nat_lt 0 size) b refl
  where
    some_low : (low : ℕ) → IsMemorySize low → 1 ≤ low
    some_low low e = grind (arith, nat_tests)

    area : (from low x : ℕ) → 1 ≤ low → (nat_le from x && nat_le x (low - 1)) ≡ (nat_le from x && nat_lt x low)
    area from low x some = grind (arith, nat_tests)

    empty : (size low x : ℕ) → nat_lt 0 size ≡ false → (nat_le (low - size * 0x100000) x && nat_lt x low) ≡ false
    empty size low x e = grind (arith, nat_tests)

    by_size : (c d : Bool) → nat_lt 0 size ≡ c → is_in_some (cond (c && d) (Some (record { from = low - size * 0x100000; to = low - 1 })) None) x ≡ (d && (nat_le (low - size * 0x100000) x && nat_lt x low))
    by_size true true is = area (low - size * 0x100000) low x (some_low low fits)
    by_size true false is = refl
    by_size false true is = sym (empty size low x is)
    by_size false false is = refl

-- a byte is locked exactly where it lies in the one or in the other
pub span_locked : (l : Locks) (x : ℕ) → IsMemorySize l.low_memory → (is_in_some (default_span l) x || is_in_some (tseg_span l) x) ≡ is_locked l x
span_locked l x fits =
    ap (λ (b : Bool). b || is_in_some (tseg_span l) x) (default_bytes (l.f_smbase == 2) x)
    ∙ ap (λ (b : Bool). is_in_default l x || b) (tseg_bytes (tseg_size l.ext_tseg l.esmramc) l.low_memory x (l.smram == 0x18) fits)

pub spans_locked : (l : Locks) (x : ℕ) → IsMemorySize l.low_memory → in_some_span (spans_in (locked_spans l)) x ≡ is_locked l x
spans_locked l x fits = two_spans (default_span l) (tseg_span l) x ∙ span_locked l x fits

-- an access has a locked byte where it has one in the one range or in the other
pub access_locked : (l : Locks) (x n : ℕ) → IsMemorySize l.low_memory →
    (has_byte (is_in_some (default_span l)) x n || has_byte (is_in_some (tseg_span l)) x n) ≡ has_byte (is_locked l) x n
unfolding has_byte
access_locked l x zero fits = refl
access_locked l x (suc n) fits =
    shuffled (is_in_some (default_span l) x) (has_byte (is_in_some (default_span l)) (x + 1) n) (is_in_some (tseg_span l) x) (has_byte (is_in_some (tseg_span l)) (x + 1) n)
    ∙ ap (λ (b : Bool). b || (has_byte (is_in_some (default_span l)) (x + 1) n || has_byte (is_in_some (tseg_span l)) (x + 1) n)) (span_locked l x fits)
    ∙ ap (λ (b : Bool). is_locked l x || b) (access_locked l (x + 1) n fits)
  where
    shuffled : (a b c d : Bool) → ((a || b) || (c || d)) ≡ ((a || c) || (b || d))
    shuffled a b c d = grind (arith, common_steps)

pub ruleset span_facts = (locking, tseg_room)
