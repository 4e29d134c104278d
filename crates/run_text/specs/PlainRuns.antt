-- What must hold no escape character, so that the texts of a run hold none.
use Rattle.run_model.specs.Names.{UniquePrefix, OwnedTestInstanceId, NotSeen}
use Rattle.{std.specs.Prelude.Bool, std.specs.Prelude.Option, report_words.specs.PlainTexts.HoldsIf}
use Rattle.{styled_text.specs.Names.AllByRecursion, styled_text.specs.Names.HasNoEscape}
use Rattle.text_parts.specs.Names.{ChildOutputDescription, LiveSpec, ReplayHeader, SetupScriptExecuteStatus}
use Rattle.text_parts.specs.Names.{IsPlainResult, IsPlainWritten}

-- a run's id in two parts holds no escape character
abbrev pub IsPlainPrefix : UniquePrefix → Type 0
IsPlainPrefix p = HasNoEscape p.prefix × HasNoEscape p.rest

-- the run's id and its status, which the header of a replay shows, hold no escape character
abbrev pub IsPlainHeader : ReplayHeader → Type 0
IsPlainHeader h = HoldsIf IsPlainPrefix h.unique_prefix × HasNoEscape h.status

-- the result of a setup script holds no escape character, and in colour (the flag) its output holds none
abbrev pub IsPlainScriptStatus : Bool → SetupScriptExecuteStatus LiveSpec ChildOutputDescription → Type 0
IsPlainScriptStatus k x = IsPlainResult x.result × IsPlainWritten k x.output

-- the names of tests that were not seen hold no escape character
abbrev pub IsPlainOwned : OwnedTestInstanceId → Type 0
IsPlainOwned i = HasNoEscape i.binary_id × HasNoEscape i.test_name

abbrev pub IsPlainNotSeen : Option NotSeen → Type 0
IsPlainNotSeen = HoldsIf (λ (x : NotSeen). AllByRecursion IsPlainOwned x.not_seen)
