use Rattle.std.proofs.Common.{rules, refl, None}
use Rattle.console_reporter.proofs.lemmas.Promises.{promise_broken, promise_failed, promise_told}
use Rattle.console_reporter.proofs.imp.reporter.DisplayReporter.finish.Goals as goal

pub returns-then-self-clause-call : goal.returns-then-self-clause-call
returns-then-self-clause-call g c = promise_failed g.W.WriteStr.meaning g.S.WriteStr.meaning c.args.self.now
    c.args.self.now None (search rules)

pub returns-in-Ok-clause-call : goal.returns-in-Ok-clause-call
returns-in-Ok-clause-call g c =
    promise_told g.W.WriteStr.meaning g.S.WriteStr.meaning c.args.self.now _ None (search rules) (search rules)
    (λ config past stands. refl) (search rules) (λ before. search rules)

pub returns-in-Err-clause-call : goal.returns-in-Err-clause-call
returns-in-Err-clause-call g c =
    rw c.fail.ensures.error
    (rw c.fail.ensures.failed
    (promise_broken g.W.WriteStr.meaning g.S.WriteStr.meaning c.args.self.now _ None (search rules)
    (search rules) (λ config past stands. refl) c.error_of.result c.error_of.ensures.unrefused
    (search rules) refl))

pub returns-in-Err-flush_store-clause-call : goal.returns-in-Err-flush_store-clause-call
returns-in-Err-flush_store-clause-call g c =
    rw c.fail-in-Err-flush_store.ensures.error
    (rw c.fail-in-Err-flush_store.ensures.failed
    (promise_broken g.W.WriteStr.meaning g.S.WriteStr.meaning c.args.self.now _ None (search rules)
    (search rules) (λ config past stands. refl) c.store_error_of.result c.store_error_of.ensures.unrefused
    (search rules) refl))
