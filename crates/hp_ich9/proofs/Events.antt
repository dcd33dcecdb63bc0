-- The GPE status bit by bit, and when a command raises an SMI.
use Rattle.std.proofs.Common.{◌≡◌, ◌≢◌, ◌↔◌, ℕ, true, ◌==◌, ◌-◌, ◌/◌, ◌%◌, ◌^◌, ◌<◌, ap, sym, ◌∙◌, arith}
use Rattle.std.specs.Prelude.{bit_and, min, if◌then◌else◌}
use Rattle.std.specs.Int.{bit_at, w8}
use Rattle.std.proofs.lemmas.Bool.Decides.{nat_tests}
use Rattle.std.proofs.lemmas.Nat.{shr_split}
use Rattle.std.proofs.lemmas.Nat.Bits.{and_pow, bit_at-lt, bit_at-pow_same, bit_at-pow_other, bit_at_and, bit_at_cat_low, bit_at_not, bit_at_or}
use Rattle.hp_model.specs.Ich9.{Ich9, cleared, ich9_read, ich9_write, raises_smi, with_event}
use Rattle.hp_ich9.proofs.Bits.{without_ones}

bit_at-byte : (value bit : ℕ) → bit < 8 → bit_at (value % 2 ^ 8) bit ≡ bit_at value bit
bit_at-byte value bit h =
    sym (bit_at_cat_low (value / 2 ^ 8) 8 (value % 2 ^ 8) bit h) ∙ ap (λ n. bit_at n bit) (shr_split value 8)

cleared_bit : (b o : ℕ) → b < 2 → o < 2 → min b (1 - o) ≡ (if o == 1 then 0 else b)
cleared_bit b o is_bit are_bits = grind (arith, nat_tests)

bit_at-cleared : (byte ones bit : ℕ) → byte < 2 ^ 8 → ones < 2 ^ 8 → bit < 8 →
    bit_at (cleared byte ones) bit ≡ (if bit_at ones bit == 1 then 0 else bit_at byte bit)
bit_at-cleared byte ones bit is_byte are_byte h =
    ap (λ n. bit_at n bit) (sym (without_ones byte ones is_byte are_byte))
    ∙ bit_at_and byte (255 - ones) bit
    ∙ ap (min (bit_at byte bit)) (bit_at_not w8 ones bit are_byte h)
    ∙ cleared_bit (bit_at byte bit) (bit_at ones bit) (bit_at-lt byte bit) (bit_at-lt ones bit)

pub bit_at-written : (i : Ich9) (value bit : ℕ) → i.gpe_status < 2 ^ 8 → bit < 8 →
    bit_at (ich9_write i 0x620 1 value).gpe_status bit ≡ (if bit_at value bit == 1 then 0 else bit_at i.gpe_status bit)
bit_at-written i value bit is_byte h =
    bit_at-cleared i.gpe_status (value % 2 ^ 8) bit is_byte (omega arith) h
    ∙ ap (λ (n : ℕ). if n == 1 then 0 else bit_at i.gpe_status bit) (bit_at-byte value bit h)

pub bit_at-event : (i : Ich9) (bit other : ℕ) →
    bit_at (with_event bit i).gpe_status other ≡ (if other == bit then 1 else bit_at i.gpe_status other)
bit_at-event i bit other =
    grind (arith, nat_tests, bit_at_or i.gpe_status (2 ^ bit) other, bit_at-pow_same bit, bit_at-pow_other bit other, bit_at-lt i.gpe_status other)

pub read-event : (i : Ich9) (bit port width : ℕ) → port ≢ 0x620 →
    ich9_read (with_event bit i) port width ≡ ich9_read i port width
read-event i bit port width h = grind (arith, nat_tests, h)

-- bit 5 of SMI_EN, as the machine's rule tests it
pub apmc_en : (n : ℕ) → (bit_and n 0x20 == 0x20 ≡ true) ↔ (bit_at n 5 ≡ 1)
apmc_en n = grind (arith, nat_tests, and_pow n 5, bit_at-lt n 5)

pub raises_where : (i : Ich9) (port width : ℕ) →
    (raises_smi i port width ≡ true) ↔ ((port ≡ 0xb2) × (width ≡ 1) × (bit_at i.smi_en 5 ≡ 1))
raises_where i port width = grind (arith, nat_tests, apmc_en i.smi_en)

pub raises-other : (i : Ich9) (port width value : ℕ) → port ≢ 0x630 →
    raises_smi (ich9_write i port width value) 0xb2 1 ≡ raises_smi i 0xb2 1
raises-other i port width value h = grind (arith, nat_tests, h)

pub ruleset by_bit = (bit_at-written, bit_at-event, read-event)

pub ruleset raising = (apmc_en, raises_where, raises-other)
