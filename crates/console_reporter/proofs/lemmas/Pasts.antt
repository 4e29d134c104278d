-- What a past leads to, and what one more call changes (for `DisplayReporter::report_event`).
use Rattle.std.proofs.Common.{◌≡◌, List, ◌∷◌, ◌++◌, refl, ap₂, ◌∙◌}
use Rattle.{std.specs.Option.option_to_list, run_names.specs.Levels.reason_rank}
use Rattle.{run_model.specs.declared.call.ReportCall.TheVariants.Event, text_parts.specs.Names.TestEvent}
use Rattle.{text_parts.specs.Names.ReportCall}
use Rattle.console_reporter.specs.Names.{Configuration, settings_of, event_text, text, StandsAfter, known_by}
use Rattle.console_reporter.specs.Names.{DisplayReporter}
use Rattle.reporter_state.specs.{Names.entry_of, Names.kept, Names.final_order}
use Rattle.reporter_state.specs.{declared.final_output.FinalOutputEntry.FinalOutputEntry}

-- the text of an event from what the reporter holds is its text after the past
pub text-held : {W S : Type 0} (config : Configuration) (past : List ReportCall) (reporter : DisplayReporter W S)
    (e : TestEvent)
    → StandsAfter config past reporter →
    event_text reporter.state.settings (known_by reporter.state) e.elapsed.0 e.kind ≡ text config past (Event e)
text-held config past reporter e stands = rw (stands.settings, stands.prefix, stands.reason, stands.kept) refl

-- what the reporter holds after the call, from what it held before
pub kept-more : {W S : Type 0} (config : Configuration) (past : List ReportCall) (reporter : DisplayReporter W S)
    (e : TestEvent) (new : List FinalOutputEntry)
    → StandsAfter config past reporter →
    ((before : List FinalOutputEntry) → reporter.state.kept ≡ final_order before → new ≡ final_order (before
    ++ option_to_list (entry_of reporter.state.settings (reason_rank reporter.state.cancel_status) e.kind))) →
    new ≡ final_order (kept (settings_of config) (Event e ∷ past))
unfolding kept
kept-more config past reporter e new stands keeps =
    keeps (kept (settings_of config) past) stands.kept
    ∙ ap₂ (λ s reason. final_order (kept (settings_of config) past ++ option_to_list (entry_of s reason e.kind)))
    stands.settings stands.reason
