-- The default filter of a run without configuration.
use Rattle.{std.specs.Prelude.codes, run_names.specs.declared.config.CompiledDefaultFilter.CompiledDefaultFilter}
use Rattle.{run_names.specs.declared.config.CompiledDefaultFilterSection.TheVariants.Profile}

-- the default profile's own filter
abbrev pub default_config_filter : CompiledDefaultFilter
default_config_filter = record { profile = codes "default"; section = Profile }
