-- No label has the mark of memory that was never written, of a hole, or of the pen.
use Rattle.std.proofs.Common.{◌≡◌, None, refl}
use Rattle.hp_model.specs.Boot.{pen_mark}
use Rattle.hp_model.specs.Labels.{label_with}

pub no_mark : (label_with 0 ≡ None) × (label_with 0xffffffff ≡ None) × (label_with pen_mark ≡ None)
unfolding label_with
no_mark = (refl, refl, refl)
