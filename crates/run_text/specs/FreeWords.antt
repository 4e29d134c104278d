-- Lemmas that parts of a line need as an argument: no such word has an escape character. A reader can pass them by.
use Rattle.std.specs.Prelude.{ℕ, List}
use Rattle.report_words.proofs.lemmas.FreeWords.{free-run_id}
use Rattle.styled_text.specs.Names.{HasNoEscape}
use Rattle.run_text.specs.Words.{run_id_text}

pub free-run_id_text : (run_id : List ℕ) → HasNoEscape (run_id_text run_id)
unfolding run_id_text
free-run_id_text run_id = free-run_id run_id
