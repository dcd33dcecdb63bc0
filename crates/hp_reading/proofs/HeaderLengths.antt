-- The header is below 12 KiB.
use Rattle.std.proofs.Common.{◌≡◌, ℕ, ◌*◌, ◌^◌, ◌<◌, ◌≤◌, nat_lt, nat_le, Bool, true, false, List, [], ◌∷◌, ◌++◌, length, codes, Some, if◌then◌else◌, refl, ap, arith, length-append}
use Rattle.std.proofs.lemmas.Bool.{and_parts, and_from, lt-ltb, leb-true}
use Rattle.std.proofs.lemmas.List.{append_cancel_right}
use Rattle.std.proofs.lemmas.Fmt.{length-decimal-le}
use Rattle.std.specs.List.{list_all}
use Rattle.std.specs.Fmt.{decimal}
use Rattle.hp_model.specs.declared.platforms.Platform.{Platform}
use Rattle.hp_model.specs.declared.platforms.Delivery.{Delivery}
use Rattle.hp_model.specs.declared.platforms.Delivery.TheVariants.{Prompt, Late}
use Rattle.hp_model.specs.Text.{Piece, word, number, spell, numbers_text, truth_text, ext_pieces, delivery_pieces, x2apic_pieces, head_pieces, head_text}
use Rattle.hp_reading.specs.Lines.{most32}
use Rattle.hp_reading.specs.Written.{has_32}
use Rattle.hp_reading.specs.Header.{head_of}
use Rattle.hp_reading.proofs.HeaderLines.{lag_fits, HasBits, has_bits, headers_are_read}
use Rattle.hp_reading.proofs.Lengths.{most_of, AreShort, spell_short, short-append, to_64}

numbers_short : (ns : List ℕ) → list_all (λ a. nat_le a most32) ns ≡ true → length (numbers_text ns) ≤ 11 * length ns
unfolding numbers_text
numbers_short [] h = omega arith
numbers_short (n ∷ []) h =
    let (here, more) = and_parts (nat_le n most32) true h in
    let low : n ≤ most32 = leb-true n most32 here in
    omega (arith, length-decimal-le 10 n (omega arith) (omega (arith, low)) (omega (arith, low)))
numbers_short (n ∷ (m ∷ ms)) h =
    let (here, more) = and_parts (nat_le n most32) (list_all (λ a. nat_le a most32) (m ∷ ms)) h in
    let low : n ≤ most32 = leb-true n most32 here in
    omega (arith, length-append (decimal n) (codes "," ++ numbers_text (m ∷ ms)), length-decimal-le 10 n (omega arith) (omega (arith, low)) (omega (arith, low)), numbers_short (m ∷ ms) more)

truth_short : (b : Bool) → length (truth_text b) ≤ 5
truth_short true = omega arith
truth_short false = omega arith

short_ext : (b : Bool) → AreShort 10 (ext_pieces b)
short_ext true = record { bits = refl; short = omega arith }
short_ext false = record { bits = refl; short = omega arith }

short_x2apic : (b : Bool) → AreShort 12 (x2apic_pieces b)
short_x2apic true = record { bits = refl; short = omega arith }
short_x2apic false = record { bits = refl; short = omega arith }

is_32 : (n : ℕ) → n ≤ most32 → has_32 n ≡ true
is_32 n h = lt-ltb n (2 ^ 32) (omega (arith, h))

most_20 : (n : ℕ) → most_of (number n) ≤ 20
most_20 n = by (nat_lt n (2 ^ 32))
  where
    by : (t : Bool) → (if t then 10 else 20) ≤ 20
    by true = omega arith
    by false = omega arith

short_delivery : (d : Delivery) → lag_fits d ≡ true → AreShort 39 (delivery_pieces d)
short_delivery Prompt h = record { bits = refl; short = omega arith }
short_delivery (Late lag) h =
    let low = is_32 lag (leb-true lag most32 h) in
    record { bits = rw (to_64 lag low) refl; short = omega (arith, most_20 lag) }

-- behind the size of TSEG
abbrev counts_pieces : Platform → List Piece
counts_pieces p =
    word (codes " features=") ∷ number p.features
    ∷ word (codes " polls=") ∷ number p.polls
    ∷ word (codes " turns=") ∷ number p.turns
    ∷ word (codes " modern=") ∷ word (truth_text p.modern)
    ∷ word (codes " smram=") ∷ word (truth_text p.default_smram)
    ∷ (delivery_pieces p.delivery ++ x2apic_pieces p.x2apic)

short_counts : (p : Platform) → HasBits p → AreShort 200 (counts_pieces p)
short_counts p h =
    let tail = short-append 39 12 (delivery_pieces p.delivery) (x2apic_pieces p.x2apic) (short_delivery p.delivery h.lag) (short_x2apic p.x2apic) in
    let wide : nat_lt p.features (2 ^ 64) ≡ true = lt-ltb p.features (2 ^ 64) (omega (arith, h.features)) in
    record {
      bits = and_from (nat_lt p.features (2 ^ 64)) _ wide (and_from (nat_lt p.polls (2 ^ 64)) _ (to_64 p.polls (is_32 p.polls h.polls)) (and_from (nat_lt p.turns (2 ^ 64)) _ (to_64 p.turns (is_32 p.turns h.turns)) tail.bits));
      short = omega (arith, most_20 p.features, most_20 p.polls, most_20 p.turns, truth_short p.modern, truth_short p.default_smram, tail.short);
    }

short_header : (p : Platform) → HasBits p → AreShort 12000 (head_pieces p)
short_header p h =
    let rest = short-append 10 200 (ext_pieces p.ext_tseg) (counts_pieces p) (short_ext p.ext_tseg) (short_counts p h) in
    record {
      bits = and_from (nat_lt p.tseg_mib (2 ^ 64)) _ (to_64 p.tseg_mib (is_32 p.tseg_mib h.mib)) rest.bits;
      short = omega (arith, most_20 p.tseg_mib, numbers_short p.apic h.small_apic, numbers_short p.boot h.small_boot, h.few_apic, h.few_boot, rest.short);
    }

pub headers_are_short : (text : List ℕ) (p : Platform) → head_of text ≡ Some p → length text < 12288
unfolding head_text
headers_are_short text p found =
    let is = (headers_are_read text p).0 found in
    let same : text ≡ spell (head_pieces p) = append_cancel_right text (spell (head_pieces p)) (10 ∷ []) is.spelled in
    let short = short_header p (has_bits p is.fit) in
    let most = spell_short (head_pieces p) short.bits in
    omega (arith, ap length same, most, short.short)
