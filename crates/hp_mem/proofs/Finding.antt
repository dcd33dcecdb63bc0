-- A value in one page, by the entry of its page.
use Rattle.std.proofs.Common.{◌≡◌, ℕ, ◌+◌, ◌-◌, ◌*◌, ◌/◌, ◌%◌, ◌<◌, ◌≤◌, List, length, slice_index, ap, ◌∙◌, arith}
use Rattle.std.proofs.lemmas.Bool.Decides.{nat_tests}
use Rattle.hp_model.specs.Memory.{value_from}
use Rattle.hp_mem.specs.Pages.{ArePages, entry, place, byte_by, byte_in}
use Rattle.hp_mem.proofs.Values.{value_zeros, value_moved}

pub by_none : (e x : ℕ) (bytes : List ℕ) → e ≡ 0 → byte_by e bytes x ≡ 0
by_none e x bytes h = grind (arith, nat_tests)

pub by_entry : (e x : ℕ) (bytes : List ℕ) → 0 < e → byte_by e bytes x ≡ slice_index bytes (place e x)
by_entry e x bytes h = grind (arith, nat_tests)

-- the bytes of a page are kept
pub within_bytes : (directory bytes : List ℕ) (page e : ℕ) → ArePages directory bytes → e ≡ entry directory page → e * 4096 ≤ length bytes
within_bytes directory bytes page e pages is = rw is (pages.within page)

pub load_missing : (directory bytes : List ℕ) (addr width : ℕ) → addr % 4096 + width ≤ 4096 → entry directory (addr / 4096) ≡ 0 → value_from (byte_in directory bytes) addr width ≡ 0
load_missing directory bytes addr width fits none = value_zeros (byte_in directory bytes) addr width
    (λ y from to. let same : y / 4096 ≡ addr / 4096 = omega arith in
    by_none (entry directory (y / 4096)) y bytes (rw same none))

pub load_found : (directory bytes : List ℕ) (addr width e : ℕ) → addr % 4096 + width ≤ 4096 → e ≡ entry directory (addr / 4096) → 0 < e →
    value_from (byte_in directory bytes) addr width ≡ value_from (slice_index bytes) ((e - 1) * 4096 + addr % 4096) width
load_found directory bytes addr width e fits is some = value_moved (byte_in directory bytes) (slice_index bytes) addr ((e - 1) * 4096 + addr % 4096) width
    (λ k below. let same : (addr + k) / 4096 ≡ addr / 4096 = omega arith in
    let at : (e - 1) * 4096 + (addr + k) % 4096 ≡ (e - 1) * 4096 + addr % 4096 + k = omega arith in
    rw (same, ← is) (by_entry e (addr + k) bytes some ∙ ap (slice_index bytes) at))

pub ruleset find_facts = (within_bytes, by_none, by_entry)

pub ruleset load_facts = (within_bytes, load_missing, load_found)
