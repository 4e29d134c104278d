use Rattle.std.proofs.Common.{[], take}
use Rattle.console_reporter.specs.Names.{AreAccepted, Configuration, past_at, StandsAfter, AreDelivered, IsSameReporter}
use Rattle.console_reporter.specs.Names.{TellsRun}

abbrev pub invariant-loop-position :
    Rattle.console_reporter.proofs.imp.reporter.DisplayReporter.make_calls.Given.invariant-loop-position
invariant-loop-position g l = record {
  same : IsSameReporter l.initial.self l.self;
  tells : TellsRun g.W.WriteStr.meaning g.S.WriteStr.meaning l.initial.self (past_at l.calls l.position) l.self;
  delivered : AreDelivered g.W.WriteStr.meaning g.S.WriteStr.meaning l.initial.self
      → AreDelivered g.W.WriteStr.meaning g.S.WriteStr.meaning l.self;
  unrefused : (config : Configuration) → StandsAfter config [] l.initial.self
      → AreAccepted config (take l.position l.calls);
}
