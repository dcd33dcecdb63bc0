-- The parts are the count and the three files.
use Rattle.std.proofs.Common.{arith}
use Rattle.hp_fwcfg.proofs.Listing.{directory_parts}
use Rattle.hp_fwcfg.proofs.items.directory.Goals as goal

pub returns : goal.returns
returns c =
    directory_parts _ _ _ _ c.split_at_mut-count.result.0.now
    c.write_u32.ensures (omega arith) c.put_file.ensures c.put_file-2.ensures c.put_file-3.ensures
