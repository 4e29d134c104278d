-- The id of a run.
use Rattle.std.specs.Prelude.{ℕ, List, Option, None, Some, codes, unwrap_or}
use Rattle.uuid.specs.{Parts.with_variant, Parts.with_version, Text.parsed, declared.Variant.TheVariants.RFC4122}
use Rattle.uuid.specs.{declared.Version.TheVariants.Random}
use Rattle.styled_text.specs.Texts.{Text}

-- the id that is forced, if there is a text and it parses
abbrev pub forced_id : Option Text → Option (List ℕ)
forced_id None = None
forced_id (Some text) = parsed text

-- the version 4 id of sixteen bytes
abbrev pub random_id : List ℕ → List ℕ
random_id bytes = with_version (with_variant bytes RFC4122) Random

-- the forced id, else the random one
abbrev pub run_id : Option Text → List ℕ → List ℕ
run_id text bytes = unwrap_or (forced_id text) (random_id bytes)

abbrev pub warning_without : Option (List ℕ) → Option Text
warning_without None = Some (codes "__NEXTEST_FORCE_RUN_ID is set but invalid (expected UUID), generating random ID")
warning_without (Some id) = None

-- a warning if there is a text that does not parse
abbrev pub run_id_warning : Option Text → Option Text
run_id_warning None = None
run_id_warning (Some text) = warning_without (parsed text)
