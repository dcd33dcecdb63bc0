-- Where the block answers, and what no write changes.
use Rattle.std.proofs.Common.{◌≡◌, ◌≢◌, ℕ, true, false, arith}
use Rattle.std.proofs.lemmas.Bool.Decides.{nat_tests}
use Rattle.hp_model.specs.Block.{Block, is_selected, cut, block_read, block_write}
use Rattle.hp_regs.specs.Words.{starts_register}

pub no_read : (b : Block) (offset width : ℕ) → starts_register b offset ≡ false → block_read b offset width ≡ 0
no_read b offset width h = grind (arith, nat_tests)

pub no_write : (b : Block) (offset width value : ℕ) → starts_register b offset ≡ false → block_write b offset width value ≡ b
no_write b offset width value h = grind (arith, nat_tests)

pub ruleset first_offset_facts = (no_read, no_write)

pub unselected_read : (b : Block) (offset width : ℕ) → b.modern ≡ true → is_selected b ≡ false → block_read b offset width ≡ 0
unselected_read b offset width m h = grind (arith, nat_tests)

pub unselected_write : (b : Block) (offset width value : ℕ) → b.modern ≡ true → is_selected b ≡ false → offset ≢ 0 → block_write b offset width value ≡ b
unselected_write b offset width value m h o = grind (arith, nat_tests)

pub selector_write : (b : Block) (width value : ℕ) → b.modern ≡ true → block_write b 0 width value ≡ record b { selector = cut width value }
selector_write b width value m = grind (arith, nat_tests)

pub ruleset unselected_facts = (unselected_read, unselected_write, selector_write)

pub stays_modern : (b : Block) (offset width value : ℕ) → b.modern ≡ true → (block_write b offset width value).modern ≡ true
stays_modern b offset width value m = grind (arith, nat_tests)

pub stays_apic : (b : Block) (offset width value : ℕ) → (block_write b offset width value).apic ≡ b.apic
stays_apic b offset width value = grind (arith, nat_tests)

pub ruleset lasting_facts = (stays_modern, stays_apic)
