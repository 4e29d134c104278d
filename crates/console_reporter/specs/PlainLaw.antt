-- The law of plain reports: captured output brings no escape character into them.
use Rattle.std.specs.Prelude.{◌≡◌, ℕ, List, false, reverse}
use Rattle.{styled_text.specs.Escapes.HasNoEscape, run_model.specs.declared.call.ReportCall.ReportCall}
use Rattle.console_reporter.specs.{Configuration.Configuration, Report.report, Report.text_at, PlainCalls.ArePlain}
use Rattle.console_reporter.specs.{PlainCalls.IsPlainConfiguration}

-- no escape character is in the text of any call, nor in the whole report
pub record IsPlainReport (config : Configuration) (calls : List ReportCall) : Type 0 where
  pub at_each : (position : ℕ) → HasNoEscape (text_at config calls position)
  pub whole : HasNoEscape (report config (reverse calls))

-- the law of plain reports, without colour: it holds if no given text but a captured output holds an escape character
abbrev pub PlainLaw : Configuration → List ReportCall → Type 0
PlainLaw config calls = config.builder.should_colorize ≡ false → IsPlainConfiguration config → ArePlain false calls
    → IsPlainReport config calls
