-- Where each handler runs (own rule).
use Rattle.std.specs.Prelude.{ℕ}
use Rattle.hp_model.specs.declared.platforms.Platform.{Platform}
use Rattle.hp_model.specs.Platform.{tile}
use Rattle.hp_model.specs.declared.labels.Handler.{Handler}
use Rattle.hp_model.specs.declared.labels.Handler.TheVariants.{First, Relocated, Monarch}

-- the SMBASE of the processor that is in such a handler: that of slot `slot`, but for the monarch, who has slot 0
abbrev pub smbase_in : Platform → Handler → ℕ → ℕ
smbase_in p First slot = 0x30000
smbase_in p Relocated slot = tile p slot
smbase_in p Monarch slot = tile p 0
