-- One byte more.
use Rattle.std.proofs.Common.{refl, sym, ◌∙◌, arith}
use Rattle.std.proofs.Math.ListN.{length-set}
use Rattle.hp_model.specs.Memory.{byte_at}
use Rattle.hp_machine.proofs.Bytes.{bytes_none, bytes_next}
use Rattle.hp_machine.proofs.transfers.load_bytes.Goals as goal

pub bytes-init : goal.bytes-init
bytes-init c = record { done = λ ws stands. sym (bytes_none c.args.locks.now (byte_at ws) c.args.addr); same = refl }

pub bytes-preserved : goal.bytes-preserved
bytes-preserved c = record {
  done = λ ws stands. bytes_next c.args.locks.now (byte_at ws) c.args.addr c.bytes.place c.load_byte.result c.bytes.into
      (omega (arith, c.bytes-test.true, c.bytes.invariant.same))
      (c.bytes.invariant.done ws stands) (c.load_byte.ensures ws stands);
  same = length-set c.bytes.into c.bytes.place c.load_byte.result ∙ c.bytes.invariant.same;
}
