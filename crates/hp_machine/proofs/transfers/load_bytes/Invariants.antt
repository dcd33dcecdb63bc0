-- So many bytes are loaded.
use Rattle.std.proofs.Common.{◌≡◌, List, length, take}
use Rattle.hp_model.specs.Memory.{Write, byte_at}
use Rattle.hp_model.specs.Transfers.{bytes_loaded}
use Rattle.hp_mem.specs.Kept.{StandsFor}
use Rattle.hp_machine.proofs.transfers.load_bytes.Given as goal

abbrev pub invariant-bytes : goal.invariant-bytes
invariant-bytes l = record {
  done : (ws : List Write) → StandsFor l.memory ws → take l.place l.into ≡ bytes_loaded l.locks (byte_at ws) l.addr l.place;
  same : length l.into ≡ length l.fn.into;
}
