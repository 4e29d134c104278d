-- Words in the singular or the plural.
use Rattle.std.specs.Prelude.{ℕ, Bool, true, false, not, ◌==◌, if◌then◌else◌, codes}
use Rattle.run_names.specs.declared.config.NextestRunMode.{NextestRunMode, TheVariants.Test, TheVariants.Benchmark}
use Rattle.styled_text.specs.Texts.{Text}

-- the first word for one, the second for any other number
abbrev pub singular_or_plural : Text → Text → ℕ → Text
singular_or_plural one other n = if n == 1 then one else other

-- was, or were for several
unfoldable pub were_word : Bool → Text
were_word true = codes "were"
were_word false = codes "was"

-- test or benchmark, and tests or benchmarks for several
unfoldable pub tests_word_if : NextestRunMode → Bool → Text
tests_word_if Test false = codes "test"
tests_word_if Test true = codes "tests"
tests_word_if Benchmark false = codes "benchmark"
tests_word_if Benchmark true = codes "benchmarks"

-- "test" for 1 and "tests" for any other number, or benchmarks
abbrev pub tests_word : NextestRunMode → ℕ → Text
tests_word mode n = tests_word_if mode (not (n == 1))

unfoldable pub setup_scripts_word : ℕ → Text
setup_scripts_word = singular_or_plural (codes "setup script") (codes "setup scripts")

unfoldable pub binaries_word : ℕ → Text
binaries_word = singular_or_plural (codes "binary") (codes "binaries")

unfoldable pub paths_word : ℕ → Text
paths_word = singular_or_plural (codes "path") (codes "paths")

unfoldable pub files_word : ℕ → Text
files_word = singular_or_plural (codes "file") (codes "files")

unfoldable pub directories_word : ℕ → Text
directories_word = singular_or_plural (codes "directory") (codes "directories")

unfoldable pub this_crate_word : ℕ → Text
this_crate_word = singular_or_plural (codes "this crate") (codes "these crates")

unfoldable pub libraries_word : ℕ → Text
libraries_word = singular_or_plural (codes "library") (codes "libraries")

unfoldable pub filters_word : ℕ → Text
filters_word = singular_or_plural (codes "filter") (codes "filters")

unfoldable pub sections_word : ℕ → Text
sections_word = singular_or_plural (codes "section") (codes "sections")

unfoldable pub iterations_word : ℕ → Text
iterations_word = singular_or_plural (codes "iteration") (codes "iterations")

unfoldable pub runs_word : ℕ → Text
runs_word = singular_or_plural (codes "run") (codes "runs")

unfoldable pub orphans_word : ℕ → Text
orphans_word = singular_or_plural (codes "orphan") (codes "orphans")

unfoldable pub errors_word : ℕ → Text
errors_word = singular_or_plural (codes "error") (codes "errors")

unfoldable pub exist_word : ℕ → Text
exist_word = singular_or_plural (codes "exists") (codes "exist")

unfoldable pub end_word : ℕ → Text
end_word = singular_or_plural (codes "ends") (codes "end")

unfoldable pub remain_word : ℕ → Text
remain_word = singular_or_plural (codes "remains") (codes "remain")
