-- A recorded run as lines of a run: as they are replayed, and with every output in its place.
use Rattle.std.specs.Prelude.{ℕ, ◌+◌, List, [], ◌∷◌, map, true, Result, Ok, Err}
use Rattle.recorded.specs.Events.{event_inline, event_replayed, needed_of}
use Rattle.scene_follower.specs.Names.{Options, decider_for}
use Rattle.scene_reader.specs.Names.{split_on, LineFault, ParsedLine, PlacedOutput, before_behind, LinesBefore}
use Rattle.scene_reader.specs.Names.{RecordedLine, RunLine, lines_before, no_lines, recorded_line}
use Rattle.scene_reader.specs.SceneTexts.{ConfigLine, EventLine, NoEvent}

-- options that show a recorded run
abbrev pub replayed : Options → Options
replayed options = record options { is_replay = true }

-- the lines of a text, each of which ends in a line feed; what follows the last line feed is not a line
abbrev pub without_last : {X : Type 0} → List X → List X
without_last [] = []
without_last (x ∷ []) = []
without_last (x ∷ y ∷ ys) = x ∷ without_last (y ∷ ys)

abbrev pub ended_lines : List ℕ → List (List ℕ)
ended_lines text = without_last (split_on 10 text)

-- a line as it is replayed: with the outputs that its report shows
abbrev pub line_replayed : Options → List ℕ → List ℕ → RunLine
line_replayed options all t = RecordedLine t
    (λ before stored e. event_replayed all (decider_for options before.config) stored e)

abbrev pub lines_replayed : Options → List ℕ → List ℕ → List RunLine
lines_replayed options all text = map (line_replayed options all) (ended_lines text)

-- a line of the scene with every output in its place
abbrev pub line_inline : List ℕ → List ℕ → RunLine
line_inline all t = RecordedLine t (λ before stored e. Ok (event_inline all stored e))

abbrev pub lines_inline : List ℕ → List ℕ → List RunLine
lines_inline all text = map (line_inline all) (ended_lines text)

-- what the next line depends on, after a line with this value
abbrev pub before_rest : LinesBefore → Result (ParsedLine × List PlacedOutput) LineFault → LinesBefore
before_rest before (Ok x) = before_behind before x.0
before_rest before (Err f) = before

-- how many bytes of outputs a line with this value and these stored outputs needs
abbrev pub needed_by : Options → LinesBefore → List PlacedOutput → ParsedLine → ℕ
needed_by options before stored NoEvent = 0
needed_by options before stored (ConfigLine config) = 0
needed_by options before stored (EventLine e) = needed_of (decider_for options before.config) e stored

abbrev pub needed_for : Options → LinesBefore → Result (ParsedLine × List PlacedOutput) LineFault → ℕ
needed_for options before (Ok x) = needed_by options before x.1 x.0
needed_for options before (Err f) = 0

-- How many bytes the next lines need: the lengths of the outputs that the report shows. No output is read for it.
unfoldable pub needed : Options → LinesBefore → List (List ℕ) → ℕ
needed options before [] = 0
needed options before (t ∷ ts) = needed_for options before (recorded_line before t)
    + needed options (before_rest before (recorded_line before t)) ts

abbrev pub needed_bytes : Options → List ℕ → ℕ
needed_bytes options text = needed options (lines_before no_lines) (ended_lines text)
