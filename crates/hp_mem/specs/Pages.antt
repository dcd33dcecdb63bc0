-- Pages of 4 KiB: the directory, and what stands at an address.
use Rattle.std.specs.Prelude.{◌≡◌, ℕ, ◌+◌, ◌-◌, ◌*◌, ◌/◌, ◌%◌, ◌^◌, ◌<◌, ◌≤◌, ◌==◌, nat_le, List, length, slice_index, if◌then◌else◌}

-- the entry of a page: 0 where nothing was stored in it, else one more than its index among the pages that are kept
abbrev pub entry : List ℕ → ℕ → ℕ
entry directory page = slice_index directory page

-- where the byte at x is kept, by the entry of its page
abbrev pub place : ℕ → ℕ → ℕ
place e x = (e - 1) * 4096 + x % 4096

abbrev pub byte_by : ℕ → List ℕ → ℕ → ℕ
byte_by e bytes x = if e == 0 then 0 else slice_index bytes (place e x)

-- what stands at x, 0 where nothing was stored in its page
abbrev pub byte_in : List ℕ → List ℕ → ℕ → ℕ
byte_in directory bytes x = byte_by (entry directory (x / 4096)) bytes x

pub record ArePages (directory bytes : List ℕ) : Type 0 where
  pub whole : length bytes % 4096 ≡ 0
  pub within : (page : ℕ) → entry directory page * 4096 ≤ length bytes
  pub distinct : (p q : ℕ) → entry directory p ≡ entry directory q → 0 < entry directory p → p ≡ q
  pub few : length directory ≤ 2 ^ 20

-- the pages that an access needs have their entries
pub record Covers (directory : List ℕ) (addr width : ℕ) : Type 0 where
  pub each : (x : ℕ) → addr ≤ x → x < addr + width → 0 < entry directory (x / 4096)

-- how many pages can be added without asking for memory, by the capacities of the directory and of the bytes
abbrev pub room : ℕ → ℕ → ℕ → ℕ
room entries capacity len = if nat_le (2 ^ 20) entries then (capacity - len) / 4096 else 0
