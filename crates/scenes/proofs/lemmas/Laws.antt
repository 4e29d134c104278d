-- The laws of scenes: what can still stop a report without a wrong line and without a refused call; and that nothing is
-- stored if nothing was printed.
use Rattle.std.proofs.Common.{arith}
use Rattle.std.proofs.Common.{◌≡◌, ◌⊎◌, inl, inr, ℕ, List, Option, None, Some, Result, subst, sym, []}
use Rattle.std.proofs.Common.{◌++◌}
use Rattle.styled_text.specs.Names.{Bor, Meaning}
use Rattle.scene_reader.specs.Names.{ParsedLines, RunLine}
use Rattle.scene_follower.specs.Names.{Begins, Fault, IsJudgeFault, IsStop, IsUnread, OfText, Options, Prints}
use Rattle.scene_follower.specs.Names.{StopsBy}
use Rattle.scene_follower.specs.Prints.{device}
use Rattle.scenes.specs.Names.{IsFaultOfText, IsNotCreated, IsRunAccepted, SceneFails}
use Rattle.scenes.proofs.lemmas.Accepted.{none_left, none_refused}
use Rattle.scene_follower.specs.Follow.{IsWrongLine}
use Rattle.scene_follower.specs.Read.{AtLine}
use Rattle.command_line.specs.declared.fault.Fault.TheVariants.{Line}
use Rattle.scene_follower.proofs.Common.{device, HasAtLeast, HasAtMost, ReportCall, StandAtOneCall, Text}

module _ (options : Options) (text : List ℕ) (accepted : OfText text (IsRunAccepted options)) where
  judged_stop : (fault : Fault) → IsJudgeFault options.file.now fault → IsFaultOfText options text fault
      → IsUnread options.file.now fault ⊎ IsStop options fault
  judged_stop (Line n f) of_judge (inl h) = cc
  judged_stop (Line n f) of_judge (inr h) = search none_refused
  judged_stop other of_judge judged = inl of_judge

pub scene_stop : {W S : Type 0} (contents : W → Option (List ℕ)) (stored : S → Option (List ℕ))
    (created : Bor (List ℕ) → Result S Fault → Type 0) (options : Options) (text : List ℕ) (old : W)
    (new : W × Option S) (fault : Fault) → SceneFails contents stored created options text old new fault
    → OfText text (IsRunAccepted options)
    → IsUnread options.file.now fault ⊎ IsStop options fault
    ⊎ IsNotCreated created options text fault (old, None) new
scene_stop contents stored created options text old new fault (inl rejected) accepted = grind (arith, judged_stop)
scene_stop contents stored created options text old new fault (inr (inl failed)) accepted = inr (inr failed)
scene_stop contents stored created options text old new fault (inr (inr begun)) accepted = grind arith

pub lines_stop : {X Y : Type 0} (m : Meaning X) (k : Meaning Y) (options : Options) (start end : X × Y)
    (all : List RunLine) (fault : Fault)
    → StopsBy options all (Prints m k options start end) (Begins m k options start end) fault
    → ((run : ParsedLines) (lines : List RunLine) (number : ℕ) (wrong : Fault) → AtLine all run lines number
    → IsWrongLine options run lines number wrong → ⊥)
    → IsUnread options.file.now fault ⊎ IsStop options fault
lines_stop m k options start end all fault stops none = elim stops.holds [
  | inl (printed, inl wrong) ↦ absurd (none stops.run stops.lines stops.number fault stops.at wrong)
  | inl (printed, inr (file, is, names)) ↦ inl (subst (IsUnread options.file.now) (sym is) names)
  | inr begun ↦ inr begun.holds.0
]

-- If nothing was printed, and calls without a text have no record, nothing was stored.
-- a device that holds nothing received no text
least_none : (t : Text) → HasAtLeast device (Some []) t (Some []) → t ≡ []
least_none t h = grind (arith, none_left)

-- and one that received no text holds nothing
most_none : (t : Text) (ys : List ℕ) → t ≡ [] → HasAtMost device (Some []) t (Some ys) → ys ≡ []
most_none t ys none (inl f) = grind (arith, none_left)
most_none t ys none (inr s) = grind (arith, none_left)

pub nothing_stored : (texts records : List ReportCall → Text) (calls : List ReportCall) (ys : List ℕ)
    → ((first : List ReportCall) → texts first ≡ [] → records first ≡ []) →
    StandAtOneCall device device texts records calls (Some [], Some []) (Some [], Some ys) → ys ≡ []
nothing_stored texts records calls ys so h = elim h.text_first [
  | inl most ↦ most_none (records h.before) ys (so h.before (least_none (texts h.before) h.printed)) most
  | inr least ↦ most_none (records (h.before ++ h.here)) ys
      (so (h.before ++ h.here) (least_none (texts (h.before ++ h.here)) least)) h.no_more_kept
]
