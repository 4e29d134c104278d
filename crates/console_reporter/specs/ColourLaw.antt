-- The law of colour: colour adds nothing that is visible, and takes nothing away.
use Rattle.std.specs.Prelude.{◌≡◌, ℕ, List, Bool, true, false, reverse}
use Rattle.{styled_text.specs.Names.IsEqualButEndSpaces, styled_text.specs.Names.visible}
use Rattle.{run_model.specs.declared.call.ReportCall.ReportCall}
use Rattle.console_reporter.specs.{Configuration.Configuration, Report.report, Report.text_at, Stored.stored}
use Rattle.console_reporter.specs.{Stored.stored_at, PlainCalls.ArePlain, PlainCalls.IsPlainConfiguration}

-- this configuration, with colours or without
abbrev pub in_colour : Bool → Configuration → Configuration
in_colour b config = record config { builder = record config.builder { should_colorize = b } }

-- what is visible of the text in colour equals the text without colour, except for spaces at ends of lines: for each
-- call, and for the whole report
pub record IsEqualInColour (config : Configuration) (calls : List ReportCall) : Type 0 where
  pub at_each : (position : ℕ)
      → IsEqualButEndSpaces (visible (text_at (in_colour true config) calls position))
      (text_at (in_colour false config) calls position)
  pub whole : IsEqualButEndSpaces (visible (report (in_colour true config) (reverse calls)))
      (report (in_colour false config) (reverse calls))

-- the law of colour holds if no given text holds an escape character
abbrev pub ColourLaw : Configuration → List ReportCall → Type 0
ColourLaw config calls = IsPlainConfiguration config → ArePlain true calls → IsEqualInColour config calls

-- colours do not change what is stored: neither the record of any call, nor all of them
pub record IsSameStoredInColour (config : Configuration) (calls : List ReportCall) : Type 0 where
  pub at_each : (position : ℕ)
      → stored_at (in_colour true config).store calls position ≡ stored_at (in_colour false config).store calls position
  pub whole : stored (in_colour true config).store (reverse calls)
      ≡ stored (in_colour false config).store (reverse calls)
