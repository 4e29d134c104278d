-- What a store keeps of a run: the record of each finished test, whatever the cancel reasons.
use Rattle.std.specs.Prelude.{ℕ, List, [], ◌∷◌, ◌++◌, Option, None, Some, map, slice_get}
use Rattle.{styled_text.specs.Names.option_map_or, styled_text.specs.Names.Text, text_parts.specs.Names.TestEventKind}
use Rattle.{text_parts.specs.Names.ReportCall, run_model.specs.declared.event.TestEventKind.TheVariants.TestFinished}
use Rattle.run_model.specs.declared.call.ReportCall.TheVariants.{Event, Header, Prefix}
use Rattle.{reporter_state.specs.Names.record_text, reporter_state.specs.Names.StoreConfig}

-- the record of an event: only a finished test has one, and only with a store
abbrev pub record_of : Option StoreConfig → TestEventKind → Text
record_of (Some store) (TestFinished stress test success failure statuses stats) = record_text store test statuses
record_of (Some store) _ = []
record_of None _ = []

-- the record of a call
abbrev pub stored_text : Option StoreConfig → ReportCall → Text
stored_text store (Event e) = record_of store e.kind
stored_text store (Header h) = []
stored_text store (Prefix p) = []

-- the records of calls in their order: no call before them matters
abbrev pub records : Option StoreConfig → List ReportCall → List Text
records store calls = map (stored_text store) calls

-- what is stored of a past: the records of its calls, joined
abbrev pub stored : Option StoreConfig → List ReportCall → Text
stored store [] = []
stored store (call ∷ past) = stored store past ++ stored_text store call

-- the record of the call at an index, empty past the end
abbrev pub stored_at : Option StoreConfig → List ReportCall → ℕ → Text
stored_at store calls i = option_map_or (stored_text store) (slice_get calls i) []
