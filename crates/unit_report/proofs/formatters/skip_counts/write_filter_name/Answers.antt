use Rattle.{writers.specs.Texts.plain, unit_report.specs.SkipCounts.override_name}

pub returns-in-Override : Rattle.unit_report.proofs.formatters.skip_counts.write_filter_name.Goals.returns-in-Override
unfolding override_name plain
returns-in-Override g c = rw c.in-Override.is c.write_to-in-Override.ensures
