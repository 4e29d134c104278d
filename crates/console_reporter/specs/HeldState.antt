-- What a reporter holds after a past.
use Rattle.std.specs.Prelude.{◌≡◌, ℕ, List, Bool, true, false, IsTrue, slice_get}
use Rattle.{std.specs.Option.option_map_or, run_names.specs.Levels.reason_rank}
use Rattle.{reporter_state.specs.declared.state.ReporterState.ReporterState, text_parts.specs.Names.TestEvent}
use Rattle.{text_parts.specs.Names.ReportCall}
use Rattle.console_reporter.specs.{Configuration.Configuration, Configuration.settings_of, Report.Known, Report.past_at}
use Rattle.console_reporter.specs.{OptionalStore.config_of, declared.imp.reporter.DisplayReporter.DisplayReporter}
use Rattle.reporter_state.specs.Names.{may_grow_for, cancel, final_order, kept, prefix, Settings}
use Rattle.run_model.specs.declared.call.ReportCall.TheVariants.{Event, Header, Prefix}

-- the reporter works, and holds what the texts after this past need: its entries are in their final order; and its
-- store, if it has one, keeps what the configuration says
pub record StandsAfter {W S : Type 0} (config : Configuration) (past : List ReportCall) (reporter : DisplayReporter W S)
    : Type 0 where
  pub settings : reporter.state.settings ≡ settings_of config
  pub prefix : reporter.state.unique_prefix ≡ prefix past
  pub reason : reason_rank reporter.state.cancel_status ≡ cancel past
  pub kept : reporter.state.kept ≡ final_order (kept (settings_of config) past)
  pub store : config_of reporter.store ≡ config.store
  pub works : reporter.state.has_failed ≡ false

abbrev pub HasFailed : {W S : Type 0} → DisplayReporter W S → Type 0
HasFailed reporter = reporter.state.has_failed ≡ true

-- the writer of the reporter did not change
abbrev pub IsSameWriter : {W S : Type 0} → DisplayReporter W S → DisplayReporter W S → Type 0
IsSameWriter old new = new.writer.ghost_name ≡ old.writer.ghost_name

-- what a reporter knows of the calls before
abbrev pub known_by : ReporterState → Known
known_by state = record {
  prefix = state.unique_prefix;
  reason = reason_rank state.cancel_status;
  entries = state.kept;
}

-- the reporter may allocate for the event
abbrev pub MayGrow : {W S : Type 0} → DisplayReporter W S → TestEvent → Type 0
MayGrow reporter event = IsTrue
    (may_grow_for reporter.state.settings (reason_rank reporter.state.cancel_status) event.kind)

-- the reporter may allocate for a call: for an event in a run with this reason before, or to copy a prefix
abbrev pub may_grow_in : Settings → ℕ → ReportCall → Bool
may_grow_in s reason (Event e) = may_grow_for s reason e.kind
may_grow_in s reason (Header h) = false
may_grow_in s reason (Prefix p) = true

abbrev pub MayGrowIn : {W S : Type 0} → DisplayReporter W S → ReportCall → Type 0
MayGrowIn reporter call = IsTrue (may_grow_in reporter.state.settings (reason_rank reporter.state.cancel_status) call)

-- like `may_grow_in`, for the call at an index; past the end there is no call
abbrev pub MayGrowAt : Configuration → List ReportCall → ℕ → Type 0
MayGrowAt config calls i = IsTrue
    (option_map_or (may_grow_in (settings_of config) (cancel (past_at calls i))) (slice_get calls i) false)
