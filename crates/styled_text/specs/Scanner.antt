-- What the scanner's states and steps mean.
use Rattle.std.specs.Prelude.{◌≡◌, ℕ, suc, Bool, false, ◌==◌, ◌&&◌, List, [], ◌∷◌, Option, None, Some, unwrap_or}
use Rattle.std.specs.Prelude.{if◌then◌else◌}
use Rattle.styled_text.specs.Texts.{Text}
use Rattle.styled_text.specs.Escapes.{csi_len, osc_len, short_len, sequence_len, then_len, front_len, one_len}
use Rattle.styled_text.specs.Escapes.{is_within, is_parameter, is_intermediate, is_control}
use Rattle.styled_text.specs.declared.escapes.{Mode.Mode, State.State, Step.Step, Step.TheVariants.Inside}
use Rattle.styled_text.specs.declared.escapes.{Step.TheVariants.Ends}
use Rattle.styled_text.specs.declared.escapes.Mode.TheVariants as mode
use Rattle.styled_text.specs.declared.escapes.State.TheVariants.{Start, Parameters, Intermediates, Command, Short}

-- how many of the following bytes still belong to the sequence
abbrev pub rest_len : State → Text → ℕ
rest_len Start = sequence_len
rest_len Parameters = csi_len
rest_len Intermediates = then_len (front_len is_intermediate) (one_len (is_within 0x40 0x7E))
rest_len Command = osc_len
rest_len Short = short_len

-- a backslash comes first
abbrev pub is_before_backslash : Text → Bool
is_before_backslash [] = false
is_before_backslash (c ∷ t) = c == 92

-- the step at a character before t, if n bytes from that character on belong to the sequence
abbrev pub StepCounts : Step → ℕ → Text → Type 0
StepCounts (Inside s) n t = n ≡ suc (rest_len s t)
StepCounts (Ends k) n t = n ≡ k

-- the steps where a final character may come
abbrev pub final_step_of : ℕ → Step
final_step_of c = if is_intermediate c then Inside Intermediates else (if is_within 0x40 0x7E c then Ends 1 else Ends 0)

-- the steps of a sequence that is neither a control sequence nor a command
abbrev pub short_step_of : ℕ → Step
short_step_of c = if is_intermediate c then Inside Short else (if is_within 0x30 0x7E c then Ends 1 else Ends 0)

-- the step at a character; the flag says that a backslash follows it
abbrev pub step_of : State → ℕ → Bool → Step
step_of Start c b = if c == 0x5B then Inside Parameters else (if c == 0x5D then Inside Command else short_step_of c)
step_of Parameters c b = if is_parameter c then Inside Parameters else final_step_of c
step_of Intermediates c b = final_step_of c
step_of Command c b = if c == 7 then Ends 1 else
    (if (c == 27) && b then Ends 2 else (if is_control c then Ends 0 else Inside Command))
step_of Short c b = short_step_of c

-- the mode after a character that begins a sequence
abbrev pub begun : ℕ → Option Mode
begun c = if c == 27 then Some (mode.Sequence Start) else None

-- the mode after a step of a sequence; one that ends before the character lets it begin another
abbrev pub mode_after_step : ℕ → Step → Option Mode
mode_after_step c (Inside s) = Some (mode.Sequence s)
mode_after_step c (Ends k) = if k == 0 then begun c else Some mode.Text

-- the mode after a character of a sequence, or none if the character belongs to no sequence
abbrev pub advanced : Mode → ℕ → Option Mode
advanced mode.Text c = begun c
advanced mode.Terminator c = if c == 92 then Some mode.Text else mode_after_step c (step_of Start c false)
advanced (mode.Sequence Start) c = mode_after_step c (step_of Start c false)
advanced (mode.Sequence Parameters) c = mode_after_step c (step_of Parameters c false)
advanced (mode.Sequence Intermediates) c = mode_after_step c (step_of Intermediates c false)
advanced (mode.Sequence Command) c = if c == 27 then Some mode.Terminator else mode_after_step c
    (step_of Command c false)
advanced (mode.Sequence Short) c = mode_after_step c (step_of Short c false)

-- the mode after a character
abbrev pub mode_after : Mode → ℕ → Mode
mode_after m c = unwrap_or (advanced m c) mode.Text

-- the mode after characters
unfoldable pub modes_after : Mode → List ℕ → Mode
modes_after m [] = m
modes_after m (c ∷ cs) = modes_after (mode_after m c) cs
