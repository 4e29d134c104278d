-- How a run is reported where a scene has no line for it.
use Rattle.{std.specs.Prelude.false, std.specs.Prelude.None}
use Rattle.{scene_run_lines.specs.declared.config.SceneConfig.SceneConfig}
use Rattle.{run_names.specs.declared.config.NextestRunMode.TheVariants.Test}
use Rattle.{run_names.specs.declared.level.FinalStatusLevel.TheVariants.Flaky}

abbrev pub unconfigured : SceneConfig
unconfigured = record {
  final_status_level = Flaky;
  run_count = 0;
  mode = Test;
  success_output = None;
  failure_output = None;
  no_capture = false;
  verbose = false;
  no_output_indent = false;
  use_unicode = false;
  display_empty_outputs = false;
}
