use Rattle.{std.proofs.Common.refl, console_reporter.specs.Names.configured_in, console_reporter.specs.Names.config_of}

pub returns-clause-stands :
    Rattle.console_reporter.proofs.imp.builder.DisplayReporterBuilder.build_in.Goals.returns-clause-stands
returns-clause-stands g c = c.new.ensures.stands
    (configured_in c.args.self c.args.surroundings (config_of c.args.store)) c.settings-settings.ensures refl
