-- If the decider skips an event, the outputs put into it are gone once its skipped outputs are left unread.
use Rattle.std.proofs.Common.{◌≡◌, ℕ, true, List, [], ◌∷◌, refl, ◌∙◌, arith}
use Rattle.recorded.specs.Names.{event_with, output_inline, skips}
use Rattle.{std.proofs.lemmas.Bool.false≢true}
use Rattle.run_model.specs.{Loads.call_with, Loads.kind_with, Names.unloaded_kind}
use Rattle.scene_reader.specs.Names.{EventCall, HeaderCall, PrefixCall, ReportCall, SceneEvent, TestEventKind}
use Rattle.scene_reader.specs.Names.{ChildOutputDescription, PlacedOutput}
use Rattle.reporter_state.specs.{Names.is_skipped, Names.unread_call}
use Rattle.reporter_state.specs.{declared.decider.OutputLoadDecider.OutputLoadDecider}
use Rattle.recorded.proofs.lemmas.Named.{call_inline, call_skips}
use Rattle.recorded.proofs.lemmas.Unloaded.{unloaded-attempts}
use Rattle.run_model.specs.declared.call.ReportCall.TheVariants as call
use Rattle.run_model.specs.declared.event.TestEventKind.TheVariants as kind

-- output that is put into an event does not change whether it is skipped
skipped-with : (d : OutputLoadDecider) (place : ℕ) (captured : ChildOutputDescription) (k : TestEventKind)
    → is_skipped d (kind_with place captured k) ≡ is_skipped d k
skipped-with d place captured (kind.TestFinished stress test success failure statuses stats) = grind arith
skipped-with d place captured k = grind arith

pub skips-with : (d : OutputLoadDecider) (place : ℕ) (captured : ChildOutputDescription) (event : SceneEvent)
    → skips d (event_with place captured event) ≡ skips d event
skips-with d place captured (EventCall e) = skipped-with d place captured e.kind
skips-with d place captured (HeaderCall h) = refl
skips-with d place captured (PrefixCall p) = refl

-- output is gone from a skipped event, once that is left unread
unread-with : (d : OutputLoadDecider) (place : ℕ) (captured : ChildOutputDescription) (k : TestEventKind)
    → is_skipped d k ≡ true → unloaded_kind (kind_with place captured k) ≡ unloaded_kind k
unread-with d place captured (kind.TestFinished stress test success failure statuses stats) skipped =
    search unloaded-attempts
unread-with d place captured (kind.SetupScriptFinished stress id program args status) skipped = grind arith
unread-with d place captured (kind.TestAttemptFailedWillRetry stress test status delay failure) skipped = grind arith
unread-with d place captured k skipped = absurd (false≢true skipped)

same-call : (d : OutputLoadDecider) (place : ℕ) (captured : ChildOutputDescription) (c : ReportCall)
    → call_skips d c ≡ true → unread_call d (call_with place captured c) ≡ unread_call d c
same-call d place captured (call.Event e) skipped = grind (arith, skipped-with, unread-with)
same-call d place captured (call.Header h) skipped = refl
same-call d place captured (call.Prefix p) skipped = refl

-- and so are several outputs
pub skipped_call : (d : OutputLoadDecider) (all : List ℕ) (stored : List PlacedOutput) (c : ReportCall)
    → call_skips d c ≡ true → unread_call d (call_inline all stored c) ≡ unread_call d c
skipped_call d all [] c skipped = refl
skipped_call d all (p ∷ ps) c skipped = let captured = output_inline all p.output in
    skipped_call d all ps (call_with p.place captured c) (grind arith)
    ∙ same-call d p.place captured c skipped
