-- A list of calls without the outputs that the decider skips.
use Rattle.std.specs.Prelude.{Bool, true, false, List, map, Option, None, Some, if◌then◌else◌}
use Rattle.text_parts.specs.Names.{TestEventKind, LoadOutput, ReportCall}
use Rattle.{run_model.specs.Unloaded.unloaded_event, reporter_state.specs.Loads.decision}
use Rattle.{reporter_state.specs.declared.decider.OutputLoadDecider.OutputLoadDecider}
use Rattle.run_model.specs.declared.call.ReportCall.TheVariants.{Event, Header, Prefix}
use Rattle.run_model.specs.declared.{output_event.LoadOutput.TheVariants.Load, output_event.LoadOutput.TheVariants.Skip}

-- the decision is to skip
abbrev pub is_skip : Option LoadOutput → Bool
is_skip None = false
is_skip (Some Load) = false
is_skip (Some Skip) = true

-- the decider skips the event's output
abbrev pub is_skipped : OutputLoadDecider → TestEventKind → Bool
is_skipped d e = is_skip (decision d e)

-- a call, with the output of every attempt unloaded if the decider skips it
abbrev pub unread_call : OutputLoadDecider → ReportCall → ReportCall
unread_call d (Event e) = if is_skipped d e.kind then Event (unloaded_event e) else Event e
unread_call d (Header h) = Header h
unread_call d (Prefix p) = Prefix p

abbrev pub unread : OutputLoadDecider → List ReportCall → List ReportCall
unread d calls = map (unread_call d) calls
