-- A kept test is shown like the test that it copies (for `write_entry`).
use Rattle.std.proofs.Common.{◌≡◌}
use Rattle.text_parts.specs.Names.{StatusSummary, instance_end, untimed_end}
use Rattle.{report_words.specs.Names.Styles, report_words.specs.Names.paint}
use Rattle.reporter_state.specs.Names.{skip_line, status_line, StatusLineKind, borrowed_test, kept_test, KeptTest}
use Rattle.reporter_state.specs.Names.{CountedInstance}

pub line_of_kept : (s : Styles) (kind : StatusLineKind) (a : CountedInstance) (t : KeptTest) (x : StatusSummary)
    → kept_test a ≡ t → paint s (status_line kind a x) ≡ paint s (status_line kind (borrowed_test t) x)
unfolding status_line
line_of_kept s kind a t x h = cc

pub skip_of_kept : (s : Styles) (a : CountedInstance) (t : KeptTest) → kept_test a ≡ t
    → paint s (skip_line a) ≡ paint s (skip_line (borrowed_test t))
unfolding skip_line untimed_end instance_end
skip_of_kept s a t h = cc
