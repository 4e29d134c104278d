-- The id of a run.
use Rattle.std.specs.Prelude.{ℕ, false, List, Option, None, Some}
use Rattle.run_names.specs.UniquePrefixes.{UniquePrefix}
use Rattle.report_words.specs.Parts.{Parts, Open, Count, RunIdPrefix, RunIdRest, Toned, given_toned, ◌⧺◌, plainly}
use Rattle.run_text.specs.Words.{run_id_text}
use Rattle.run_text.specs.FreeWords.{free-run_id_text}

-- a run's id, with its unique prefix where that is known
unfoldable pub id_text : Option UniquePrefix → List ℕ → Parts false Open
id_text None run_id = plainly (Toned Count (run_id_text run_id) (free-run_id_text run_id))
id_text (Some p) run_id = given_toned RunIdPrefix p.prefix ⧺ given_toned RunIdRest p.rest
