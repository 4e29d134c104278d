use Rattle.command_line.proofs.lemmas.Pieces.{first_feed, last_feed}
use Rattle.command_line.proofs.pieces.end_of_lines.Goals as goal

pub returns-then-is_begun-clause-feed : goal.returns-then-is_begun-clause-feed
returns-then-is_begun-clause-feed c = first_feed c.args.buffered.now c.memchr.result c.memchr.ensures

pub returns-else-is_begun-clause-feed : goal.returns-else-is_begun-clause-feed
returns-else-is_begun-clause-feed c = last_feed c.args.buffered.now c.memrchr.result c.memrchr.ensures
