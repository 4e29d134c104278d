-- What the laws need of a reporter's input for texts without escape characters.
use Rattle.{std.specs.Prelude.Bool, std.specs.Prelude.List, report_words.specs.PlainTexts.IsPlainInstance}
use Rattle.{info_text.specs.PlainResponses.IsPlainResponse, console_reporter.specs.Configuration.Configuration}
use Rattle.{console_reporter.specs.Report.script_by}
use Rattle.run_text.specs.PlainRuns.{IsPlainHeader, IsPlainNotSeen, IsPlainPrefix, IsPlainScriptStatus}
use Rattle.{styled_text.specs.Names.AllByRecursion, styled_text.specs.Names.HasNoEscape, styled_text.specs.Names.Text}
use Rattle.text_parts.specs.Names.{TestEventKind, ChildOutputDescription, LiveSpec, ExecuteStatus, ReportCall}
use Rattle.text_parts.specs.Names.{IsPlainResult, IsPlainWritten, IsPlainScript}
use Rattle.run_model.specs.declared.event.TestEventKind.TheVariants.{RunStarted, SetupScriptStarted, SetupScriptSlow}
use Rattle.run_model.specs.declared.event.TestEventKind.TheVariants.{SetupScriptFinished, TestStarted, TestSlow}
use Rattle.run_model.specs.declared.event.TestEventKind.TheVariants.{TestAttemptFailedWillRetry, TestRetryStarted}
use Rattle.run_model.specs.declared.event.TestEventKind.TheVariants.{TestFinished, TestSkipped, InfoResponse}
use Rattle.run_model.specs.declared.event.TestEventKind.TheVariants.{RunFinished}
use Rattle.run_model.specs.declared.call.ReportCall.TheVariants.{Event, Header, Prefix}

-- the name of the default filter's profile holds no escape character
abbrev pub IsPlainConfiguration : Configuration → Type 0
IsPlainConfiguration config = HasNoEscape config.builder.default_filter.profile

-- the words of a command line hold no escape character
abbrev pub ArePlainWords : List Text → Type 0
ArePlainWords words = AllByRecursion HasNoEscape words

-- the result of an attempt holds no escape character, and in colour (the flag) its output holds none
abbrev pub IsPlainAttempt : Bool → ExecuteStatus LiveSpec ChildOutputDescription → Type 0
IsPlainAttempt k x = IsPlainResult x.result × IsPlainWritten k x.output

-- the names and texts of an event hold no escape character; of a finished test only the last attempt counts
abbrev pub IsPlainKind : Bool → TestEventKind → Type 0
IsPlainKind k (RunStarted counts id profile) = HasNoEscape profile
IsPlainKind k (SetupScriptStarted stress index total id program args) = IsPlainScript (script_by stress id program args)
IsPlainKind k (SetupScriptSlow stress id program args taken will_terminate) = IsPlainScript
    (script_by stress id program args)
IsPlainKind k (SetupScriptFinished stress id program args status) = IsPlainScript (script_by stress id program args)
    × IsPlainScriptStatus k status
IsPlainKind k (TestStarted stress instance stats command) = IsPlainInstance instance × ArePlainWords command
IsPlainKind k (TestSlow stress instance retry taken will_terminate) = IsPlainInstance instance
IsPlainKind k (TestAttemptFailedWillRetry stress instance status delay failure) = IsPlainInstance instance
    × IsPlainAttempt k status
IsPlainKind k (TestRetryStarted stress instance retry command) = IsPlainInstance instance × ArePlainWords command
IsPlainKind k (TestFinished stress instance success failure statuses stats) = IsPlainInstance instance
    × IsPlainAttempt k statuses.last
IsPlainKind k (TestSkipped stress instance) = IsPlainInstance instance
IsPlainKind k (InfoResponse index total response) = IsPlainResponse k response
IsPlainKind k (RunFinished taken stats outstanding) = IsPlainNotSeen outstanding
IsPlainKind k _ = Unit {0}

-- the names and texts of a call hold no escape character
abbrev pub IsPlainCall : Bool → ReportCall → Type 0
IsPlainCall k (Event e) = IsPlainKind k e.kind
IsPlainCall k (Header h) = IsPlainHeader h
IsPlainCall k (Prefix p) = IsPlainPrefix p

-- the names and texts of all calls hold no escape character
abbrev pub ArePlain : Bool → List ReportCall → Type 0
ArePlain k calls = AllByRecursion (IsPlainCall k) calls
