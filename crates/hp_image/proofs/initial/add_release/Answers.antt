-- The store ends below the end of RAM.
use Rattle.std.proofs.Common.{ap, ◌∙◌, ℕ}
use Rattle.hp_model.specs.Bare.{layout_at}
use Rattle.hp_model.specs.SharedBytes.{release_byte}
use Rattle.hp_image.proofs.Initials.{release_fits}
use Rattle.hp_image.proofs.initial.add_release.Goals as goal

pub returns-clause-fits : goal.returns-clause-fits
returns-clause-fits c = rw c.in_ok-push.ensures.items (release_fits c.args.p.now c.args.slot _ _ c.args.cells.now.items c.requires.fit c.requires.slot (c.release_byte.ensures ∙ ap (λ (t : ℕ). release_byte (layout_at t) c.args.slot) c.tseg.ensures))
