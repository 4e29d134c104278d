-- What a call says once captured output is put into it.
use Rattle.std.specs.Prelude.{ℕ, List, length, slice_get, slice_set, ◌==◌, if◌then◌else◌}
use Rattle.std.specs.Option.{option_map_or}
use Rattle.run_model.specs.Attempts.{Attempt, Attempts, attempt_with_output, execution_with_output}
use Rattle.run_model.specs.declared.{call.ReportCall.ReportCall, event.TestEventKind.TestEventKind}
use Rattle.run_model.specs.declared.{output.ChildOutputDescription.ChildOutputDescription, output.LiveSpec.LiveSpec}
use Rattle.run_model.specs.declared.event.TestEventKind.TheVariants as kind
use Rattle.run_model.specs.declared.call.ReportCall.TheVariants as call
use Rattle.run_model.specs.declared.info.InfoResponse.{InfoResponse}
use Rattle.run_model.specs.declared.info.InfoResponse.TheVariants as response

-- the attempts, with this output for the one at this index (from 0); an index past the last changes nothing
abbrev pub with_output_at : ℕ → ChildOutputDescription → List Attempt → List Attempt
with_output_at place captured attempts =
    option_map_or (λ attempt. slice_set attempts place (attempt_with_output attempt captured))
    (slice_get attempts place) attempts

-- the attempts, with this output for the one at this index; an index past the last changes nothing
abbrev pub attempts_with : ℕ → ChildOutputDescription → Attempts LiveSpec ChildOutputDescription
    → Attempts LiveSpec ChildOutputDescription
attempts_with place captured a =
    if place == length a.earlier then record a { last = attempt_with_output a.last captured }
    else record a { earlier = with_output_at place captured a.earlier }

abbrev pub response_with : ChildOutputDescription → InfoResponse → InfoResponse
response_with captured (response.SetupScript r) = response.SetupScript (record r {
  output = execution_with_output r.output captured;
})
response_with captured (response.Test r) = response.Test (record r { output = execution_with_output r.output captured })

-- an event with only one output, which was captured so
abbrev pub kind_with_only : ChildOutputDescription → TestEventKind → TestEventKind
kind_with_only captured (kind.TestAttemptFailedWillRetry stress test status delay failure) =
    kind.TestAttemptFailedWillRetry stress test (attempt_with_output status captured) delay failure
kind_with_only captured (kind.SetupScriptFinished stress id program args status) =
    kind.SetupScriptFinished stress id program args (record status {
      output = execution_with_output status.output captured;
    })
kind_with_only captured (kind.InfoResponse index total r) = kind.InfoResponse index total (response_with captured r)
kind_with_only captured other = other

-- an event whose output at this index was captured: that of an attempt of a finished test, and of other events their
-- only one, at 0. An event that has none there does not change
abbrev pub kind_with : ℕ → ChildOutputDescription → TestEventKind → TestEventKind
kind_with place captured (kind.TestFinished stress test success failure statuses stats) = kind.TestFinished stress test
    success failure (attempts_with place captured statuses) stats
kind_with place captured other = if place == 0 then kind_with_only captured other else other

abbrev pub call_with : ℕ → ChildOutputDescription → ReportCall → ReportCall
call_with place captured (call.Event e) = call.Event (record e { kind = kind_with place captured e.kind })
call_with place captured other = other
