-- An error and its causes, as text.
use Rattle.std.specs.Prelude.{false, List, [], ◌++◌, ◌==◌, length, codes, if◌then◌else◌}
use Rattle.styled_text.specs.Names.{flat_map, indent, plain, Text}
use Rattle.run_names.specs.ErrorChains.{MessageAndCauses}

-- a cause on its own line; its later lines are aligned below its first
unfoldable pub cause_text : Text → Text
cause_text cause = plain (codes "\n  - ") ++ indent (codes "    ") false cause

-- the causes, if there are any
unfoldable pub causes_text : List Text → Text
causes_text causes = if length causes == 0 then [] else plain (codes "\n  caused by:") ++ flat_map cause_text causes

-- the message, and the causes below it
unfoldable pub error_chain_text : MessageAndCauses → Text
error_chain_text chain = chain.message ++ causes_text chain.causes
