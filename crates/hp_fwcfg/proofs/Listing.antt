-- The parts of the file directory.
use Rattle.std.proofs.Common.{◌≡◌, ℕ, ◌≤◌, List, ◌++◌, length, drop, refl}
use Rattle.std.specs.Prelude.{codes}
use Rattle.std.proofs.lemmas.List.{drop_all}
use Rattle.byteorder.specs.Endian as kit
use Rattle.hp_model.specs.FwCfg.{big_bytes, listed, directory}

-- the count, over 4 bytes, and the three files
pub directory_parts : (a b c d old : List ℕ) →
    a ≡ kit.big_bytes 4 3 ++ drop 4 old → length old ≤ 4 → b ≡ listed 1 0x20 (codes "etc/smi/features-ok") →
    c ≡ listed 8 0x21 (codes "etc/smi/requested-features") → d ≡ listed 8 0x22 (codes "etc/smi/supported-features") →
    a ++ (b ++ (c ++ d)) ≡ directory
unfolding directory big_bytes
directory_parts a b c d old is few first second third =
    rw (is, drop_all 4 old few, first, second, third) refl
