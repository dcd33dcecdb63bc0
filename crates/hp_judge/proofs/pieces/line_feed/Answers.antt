-- What the search of bytes found.
use Rattle.hp_judge.proofs.Feeds.{feed_found, no_feed_found}
use Rattle.hp_judge.proofs.pieces.line_feed.Goals as goal

pub returns-clause-some : goal.returns-clause-some
returns-clause-some c = feed_found c.args.text.now c.memchr.result c.memchr.ensures

pub returns-clause-none : goal.returns-clause-none
returns-clause-none c = no_feed_found c.args.text.now c.memchr.result c.memchr.ensures
