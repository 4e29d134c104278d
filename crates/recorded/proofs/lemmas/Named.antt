-- To put an output into a call is to put it into what the call says, wherever the names of its test are.
use Rattle.std.proofs.Common.{◌≡◌, ℕ, List, [], ◌∷◌, Bool, false, refl, ap, ◌∙◌, arith}
use Rattle.{run_model.specs.Loads.call_with}
use Rattle.recorded.specs.Names.{event_inline, event_with, output_inline, skips}
use Rattle.reporter_state.specs.{Unread.is_skipped, declared.decider.OutputLoadDecider.OutputLoadDecider}
use Rattle.scene_reader.specs.Names.{call_by_names, ChildOutputDescription, PlacedOutput, ReportCall}
use Rattle.run_model.specs.declared.call.ReportCall.TheVariants as call

-- an output, and all outputs
pub named-with : (place : ℕ) (captured : ChildOutputDescription) (c : ReportCall)
    → call_by_names (call_with place captured c) ≡ event_with place captured (call_by_names c)
named-with place captured c = grind arith

abbrev pub call_inline : List ℕ → List PlacedOutput → ReportCall → ReportCall
call_inline all [] c = c
call_inline all (p ∷ ps) c = call_inline all ps (call_with p.place (output_inline all p.output) c)

pub named-inline : (all : List ℕ) (ps : List PlacedOutput) (c : ReportCall)
    → call_by_names (call_inline all ps c) ≡ event_inline all ps (call_by_names c)
named-inline all [] c = refl
named-inline all (p ∷ ps) c = named-inline all ps (call_with p.place (output_inline all p.output) c)
    ∙ ap (event_inline all ps) (named-with p.place (output_inline all p.output) c)

-- whether its output is skipped
abbrev pub call_skips : OutputLoadDecider → ReportCall → Bool
call_skips d (call.Event e) = is_skipped d e.kind
call_skips d other = false

pub named_skips : (d : OutputLoadDecider) (c : ReportCall) → skips d (call_by_names c) ≡ call_skips d c
named_skips d c = grind arith
