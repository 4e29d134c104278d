-- Calls whose tests are named, wherever these names are in memory.
use Rattle.std.specs.Prelude.{ℕ, ℤ, List, Option}
use Rattle.{run_model.specs.Names.UniquePrefix, run_model.specs.declared.replay.ReplayHeader.ReplayHeader}
use Rattle.run_model.specs.declared.{call.ReportCall.ReportCall, event.TestEvent.TestEvent}
use Rattle.run_model.specs.declared.{event.TestEventKind.TestEventKind}
use Rattle.run_names.specs.declared.name.TestInstanceId.{TestInstanceId}
use Rattle.jiff_core.specs.declared.civil.datetime.DateTime.{DateTime}
use Rattle.run_model.specs.declared.call.ReportCall.TheVariants as call
use Rattle.run_model.specs.declared.event.TestEventKind.TheVariants as kind
use Rattle.run_model.specs.declared.info.InfoResponse.TheVariants as response

-- a test of these names, at no address
abbrev pub test_named : List ℕ → List ℕ → TestInstanceId
test_named binary_id test_name = record {
  binary_id = record { ref_ptr = (0, 0); now = binary_id };
  test_name = record { ref_ptr = (0, 0); now = test_name };
}

abbrev pub by_names : TestInstanceId → TestInstanceId
by_names test = test_named test.binary_id.now test.test_name.now

abbrev pub kind_by_names : TestEventKind → TestEventKind
kind_by_names (kind.TestStarted stress test stats command) = kind.TestStarted stress (by_names test) stats command
kind_by_names (kind.TestSlow stress test retry_data elapsed will_terminate) = kind.TestSlow stress (by_names test)
    retry_data elapsed will_terminate
kind_by_names (kind.TestAttemptFailedWillRetry stress test status delay failure) =
    kind.TestAttemptFailedWillRetry stress (by_names test) status delay failure
kind_by_names (kind.TestRetryStarted stress test retry_data command) = kind.TestRetryStarted stress (by_names test)
    retry_data command
kind_by_names (kind.TestFinished stress test success failure statuses stats) = kind.TestFinished stress (by_names test)
    success failure statuses stats
kind_by_names (kind.TestSkipped stress test) = kind.TestSkipped stress (by_names test)
kind_by_names (kind.InfoResponse index total (response.Test r)) =
    kind.InfoResponse index total (response.Test (record r { test_instance = by_names r.test_instance }))
kind_by_names other = other

-- a day of the calendar, and a time of day to the second
pub record Day : Type 0 where
  pub year : ℤ
  pub month : ℕ
  pub day : ℕ

pub record Clock : Type 0 where
  pub hour : ℕ
  pub minute : ℕ
  pub second : ℕ

pub record Moment : Type 0 where
  pub date : Day
  pub time : Clock

-- the header of a replay
pub record SceneHeader : Type 0 where
  pub run_id : List ℕ
  pub unique_prefix : Option UniquePrefix
  pub started_at : Moment
  pub status : List ℕ

-- the call of a line, with the names of its test as texts and its moment as numbers
pub data SceneEvent : Type 0 where
  EventCall : TestEvent → SceneEvent
  HeaderCall : SceneHeader → SceneEvent
  PrefixCall : UniquePrefix → SceneEvent

abbrev pub moment_of : DateTime → Moment
moment_of m = record {
  date = record { year = m.date.year; month = m.date.month; day = m.date.day };
  time = record { hour = m.time.hour; minute = m.time.minute; second = m.time.second };
}

abbrev pub header_by_numbers : ReplayHeader → SceneHeader
header_by_numbers h = record {
  run_id = h.run_id;
  unique_prefix = h.unique_prefix;
  started_at = moment_of h.started_at;
  status = h.status;
}

-- a call without the addresses of its test's names
abbrev pub call_by_names : ReportCall → SceneEvent
call_by_names (call.Event e) = EventCall (record e { kind = kind_by_names e.kind })
call_by_names (call.Header h) = HeaderCall (header_by_numbers h)
call_by_names (call.Prefix p) = PrefixCall p

-- an event at this time
abbrev pub event_at : ℕ → TestEventKind → SceneEvent
event_at elapsed k = EventCall (record { elapsed = record { 0 = elapsed }; kind = k })

-- the call of that event
abbrev pub event_call : ℕ → TestEventKind → ReportCall
event_call elapsed k = call.Event (record { elapsed = record { 0 = elapsed }; kind = k })
