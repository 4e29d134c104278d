use Rattle.reporter_state.specs.Entries.{cancel, kept, prefix}
use Rattle.{std.proofs.Common.refl, std.proofs.Common.rules, console_reporter.proofs.lemmas.Promises.failed_stands}
use Rattle.{console_reporter.proofs.lemmas.Stores.store-nothing}
use Rattle.console_reporter.proofs.imp.reporter.DisplayReporter.set_run_id_unique_prefix.Goals as goal

pub returns-then-self-clause-ok : goal.returns-then-self-clause-ok
returns-then-self-clause-ok g c = record {
  accepted = λ config past stands. g.met.W.WriteStr.laws.nothing _;
  stored = λ config past stands. store-nothing g.met.S.WriteStr.laws _;
  stands = λ config past stands. absurd (failed_stands config past c.args.self.now (search rules) stands);
}

pub returns-clause-ok : goal.returns-clause-ok
unfolding cancel kept prefix
returns-clause-ok g c = record {
  accepted = λ config past stands. g.met.W.WriteStr.laws.nothing _;
  stored = λ config past stands. store-nothing g.met.S.WriteStr.laws _;
  stands = λ config past stands. record {
    settings = stands.settings;
    prefix = refl;
    reason = stands.reason;
    kept = stands.kept;
    store = stands.store;
    works = stands.works;
  };
}
