-- When a test's output is shown.
use Rattle.std.specs.Prelude.{Bool, true, false, List, ℕ, codes}
use Rattle.run_names.specs.declared.config.TestOutputDisplay.TheVariants.{Immediate, ImmediateFinal, Final, Never}
use Rattle.run_names.specs.declared.config.TestOutputDisplay.{TestOutputDisplay}

-- the name in a configuration
abbrev pub display_name : TestOutputDisplay → List ℕ
display_name Immediate = codes "immediate"
display_name ImmediateFinal = codes "immediate-final"
display_name Final = codes "final"
display_name Never = codes "never"

-- it is shown as soon as the test has finished
abbrev pub is_immediate : TestOutputDisplay → Bool
is_immediate Immediate = true
is_immediate ImmediateFinal = true
is_immediate Final = false
is_immediate Never = false

-- it is shown at the end of the run
abbrev pub is_final : TestOutputDisplay → Bool
is_final Immediate = false
is_final ImmediateFinal = true
is_final Final = true
is_final Never = false
