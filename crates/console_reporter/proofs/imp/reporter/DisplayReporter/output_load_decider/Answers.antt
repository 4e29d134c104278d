use Rattle.{std.proofs.Common.subst, std.proofs.Common.ap₂, std.proofs.Common.◌∙◌}
use Rattle.{reporter_state.specs.Refusals.decider_by, console_reporter.specs.Exactness.IsExact}
use Rattle.{console_reporter.proofs.lemmas.Exactness.exact}
use Rattle.console_reporter.proofs.imp.reporter.DisplayReporter.output_load_decider.Goals as goal

pub returns-clause-stands : goal.returns-clause-stands
returns-clause-stands g c = λ config past stands. c.of_settings.ensures
    ∙ ap₂ decider_by stands.settings (c.store_config-store.ensures ∙ stands.store)

pub returns-clause-exactness : goal.returns-clause-exactness
returns-clause-exactness g c = λ config is. subst (IsExact config) is (exact config)
