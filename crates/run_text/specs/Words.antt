-- Words that are computed, each with a definition of its own, since a part of a line takes a lemma on them.
use Rattle.std.specs.Prelude.{ℕ, List}
use Rattle.uuid.specs.Text.{hyphenated_text, lower}
use Rattle.styled_text.specs.Names.{Text}

-- a run's id, hyphenated in lower case
unfoldable pub run_id_text : List ℕ → Text
run_id_text run_id = hyphenated_text lower run_id
