-- What accesses leave, and what is read after a write.
use Rattle.std.proofs.Common.{◌≡◌, ◌≢◌, ℕ, false, arith}
use Rattle.std.proofs.lemmas.Bool.Decides.{nat_tests}
use Rattle.hp_model.specs.Ich9.{Ich9, ich9_read, ich9_write, raises_smi}
use Rattle.hp_ich9.specs.Registers.{is_register}

pub write-elsewhere : (i : Ich9) (port width value : ℕ) → is_register port width ≡ false → ich9_write i port width value ≡ i
write-elsewhere i port width value h = grind (arith, nat_tests, h)

pub raises-elsewhere : (i : Ich9) (port width : ℕ) → is_register port width ≡ false → raises_smi i port width ≡ false
raises-elsewhere i port width h = grind (arith, nat_tests, h)

pub read-elsewhere : (i : Ich9) (port width : ℕ) → is_register port width ≡ false → ich9_read i port width ≡ 0
read-elsewhere i port width h = grind (arith, nat_tests, h)

pub read_other : (i : Ich9) (port width value other other_width : ℕ) → port ≢ other →
    ich9_read (ich9_write i port width value) other other_width ≡ ich9_read i other other_width
read_other i port width value other other_width h = grind (arith, nat_tests, h)

pub ruleset elsewhere = (write-elsewhere, raises-elsewhere, read-elsewhere)
