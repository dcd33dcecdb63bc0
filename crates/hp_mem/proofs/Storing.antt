-- What a store leaves at each address.
use Rattle.std.proofs.Common.{◌≡◌, ℕ, zero, suc, ◌+◌, ◌-◌, ◌/◌, ◌%◌, ◌<◌, ◌≤◌, List, length, slice_index, refl, sym, ap, ◌∙◌, arith}
use Rattle.std.proofs.lemmas.Bool.Decides.{nat_tests}
use Rattle.hp_model.specs.Memory.{Write, byte_over, bytes_of, write_of}
use Rattle.hp_mem.specs.Pages.{ArePages, Covers, entry, place, byte_in}
use Rattle.hp_mem.proofs.Finding.{by_none, by_entry, within_bytes}
use Rattle.hp_model.proofs.Bytes.{length-bytes_of}

pub same_pages : (directory old new : List ℕ) → ArePages directory old → length new ≡ length old → ArePages directory new
same_pages directory old new pages len = record {
  whole = rw len pages.whole;
  within = λ page. rw len (pages.within page);
  distinct = pages.distinct;
  few = pages.few;
}

-- a write in one page, by what it leaves at a place
over_place : (bytes : List ℕ) (addr width value e f x : ℕ) → addr % 4096 + width ≤ 4096 → 0 < e → 0 < f → (e ≡ f → x / 4096 ≡ addr / 4096) → (x / 4096 ≡ addr / 4096 → e ≡ f) →
    byte_over (write_of (place f addr) width value) (slice_index bytes) (place e x) ≡ byte_over (write_of addr width value) (λ y. slice_index bytes (place e x)) x
over_place bytes addr width value e f x fits some other back forth = grind (arith, nat_tests, length-bytes_of width value)

pub stored_in_page : (directory old new : List ℕ) (addr width value e : ℕ) → ArePages directory old → e ≡ entry directory (addr / 4096) → 0 < e → addr % 4096 + width ≤ 4096 →
    ((k : ℕ) → slice_index new k ≡ byte_over (write_of (place e addr) width value) (slice_index old) k) →
    (x : ℕ) → byte_in directory new x ≡ byte_over (write_of addr width value) (byte_in directory old) x
stored_in_page directory old new addr width value e pages is some fits written x = none_or_some (entry directory (x / 4096)) refl
  where
    none_or_some : (f : ℕ) → entry directory (x / 4096) ≡ f → byte_in directory new x ≡ byte_over (write_of addr width value) (byte_in directory old) x
    none_or_some zero is_f =
        let apart : x / 4096 ≡ addr / 4096 → e ≡ 0 = λ same. is ∙ rw (← same) is_f in
        rw is_f (grind (arith, nat_tests, length-bytes_of width value))
    none_or_some (suc f) is_f =
        let new_is : byte_in directory new x ≡ slice_index new (place (suc f) x) = rw is_f (by_entry (suc f) x new (omega arith)) in
        let old_is : byte_in directory old x ≡ slice_index old (place (suc f) x) = rw is_f (by_entry (suc f) x old (omega arith)) in
        let back : suc f ≡ e → x / 4096 ≡ addr / 4096 = λ h. pages.distinct (x / 4096) (addr / 4096) (is_f ∙ h ∙ is) (rw is_f (omega arith)) in
        let forth : x / 4096 ≡ addr / 4096 → suc f ≡ e = λ h. sym is_f ∙ ap (entry directory) h ∙ sym is in
        new_is ∙ written (place (suc f) x) ∙ over_place old addr width value (suc f) e x fits (omega arith) some back forth ∙ rw old_is refl

-- a write over bytes that are the same
pub same_under : (w : Write) (f g : ℕ → ℕ) (y : ℕ) → f y ≡ g y → byte_over w f y ≡ byte_over w g y
same_under w f g y same = rw same refl

-- what is still to be written, once the lowest byte was
pub stored_more : (f : ℕ → ℕ) (addr n value y : ℕ) → 0 < n → byte_over (write_of (addr + 1) (n - 1) (value / 256)) (byte_over (write_of addr 1 value) f) y ≡ byte_over (write_of addr n value) f y
unfolding bytes_of
stored_more f addr zero value y h = omega arith
stored_more f addr (suc n) value y h = let e : suc n - 1 ≡ n = omega arith in rw e (grind (arith, nat_tests, length-bytes_of n (value / 256)))

pub stored_then : (f g h : ℕ → ℕ) (addr n value : ℕ) → 0 < n → ((y : ℕ) → g y ≡ byte_over (write_of addr 1 value) f y) →
    ((y : ℕ) → h y ≡ byte_over (write_of (addr + 1) (n - 1) (value / 256)) g y) → (y : ℕ) → h y ≡ byte_over (write_of addr n value) f y
stored_then f g h addr n value some first rest y =
    rest y ∙ same_under (write_of (addr + 1) (n - 1) (value / 256)) g (byte_over (write_of addr 1 value) f) y (first y) ∙ stored_more f addr n value y some

pub stored_none : (f : ℕ → ℕ) (addr n value y : ℕ) → n ≡ 0 → byte_over (write_of addr n value) f y ≡ f y
stored_none f addr n value y h = grind (arith, nat_tests, length-bytes_of n value)

pub covers_rest : (directory : List ℕ) (addr width : ℕ) → Covers directory addr width → 0 < width → Covers directory (addr + 1) (width - 1)
covers_rest directory addr width covers h = record { each = λ x from to. covers.each x (omega arith) (omega arith) }

pub covers_two : (directory : List ℕ) (addr width : ℕ) → 0 < entry directory (addr / 4096) → 0 < entry directory (addr / 4096 + 1) → width ≤ 4096 → Covers directory addr width
covers_two directory addr width one two small = record { each = λ x from to. grind (arith, one, two) }

pub ruleset pages_facts = (same_pages, within_bytes, covers_rest)
