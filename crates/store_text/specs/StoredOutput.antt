-- The output that a store keeps.
use Rattle.std.specs.Prelude.{Bool, [], ◌++◌, Option, None, Some, if◌then◌else◌}
use Rattle.run_model.specs.Names.{Attempts, Written, case_of, is_success_case, decoded_text}
use Rattle.text_parts.specs.Names.{ChildOutputDescription, LiveSpec, StatusCase}
use Rattle.run_model.specs.declared.output.ChildExecutionOutputDescription.TheVariants.{Output, StartError}
use Rattle.run_model.specs.declared.output.ChildOutputDescription.TheVariants.{Split, Combined, NotLoaded}
use Rattle.{styled_text.specs.Texts.Text, store_text.specs.declared.config.StoreConfig.StoreConfig}

-- a stream as text: one that was not captured has none
abbrev pub stored_stream : Option Text → Text
stored_stream None = []
stored_stream (Some bytes) = decoded_text bytes

-- standard output and then standard error, or both as they came, with their escape sequences
abbrev pub captured_text : ChildOutputDescription → Text
captured_text (Split stdout stderr) = stored_stream stdout ++ stored_stream stderr
captured_text (Combined output) = decoded_text output
captured_text NotLoaded = []

-- the output of an attempt: a process that could not be started wrote nothing
abbrev pub written_text : Written → Text
written_text (Output result output errors highlight) = captured_text output
written_text (StartError chain) = []

-- the switch for tests that count as successes for their output setting, or for the others
abbrev pub is_switched_on : StoreConfig → Bool → Bool
is_switched_on store is_success = if is_success then store.store_success_output else store.store_failure_output

-- the store keeps the output of a test with this outcome
abbrev pub is_stored : StoreConfig → StatusCase → Bool
is_stored store case = is_switched_on store (is_success_case case)

-- the output of the last attempt, if the store keeps it
unfoldable pub stored_output : StoreConfig → Attempts LiveSpec ChildOutputDescription → Text
stored_output store statuses = if is_stored store (case_of statuses) then written_text statuses.last.output else []
