use Rattle.std.proofs.Common.{length}

abbrev pub decreases-followed_by : Rattle.command_line.proofs.args.ArgsSoFar.+followed_by.Given.decreases-followed_by
decreases-followed_by l = length l.words.now
