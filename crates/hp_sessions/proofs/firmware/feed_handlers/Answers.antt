-- What a processor in SMM is fed leaves the layout of the handlers as it is.
use Rattle.std.proofs.Common.{ap}
use Rattle.hp_monarch.specs.Session.{Session}
use Rattle.hp_sessions.proofs.firmware.feed_handlers.Goals as goal

pub returns : goal.returns
returns c = ap (λ (h : Session). h.layout) c.feed-at.ensures.monarch
