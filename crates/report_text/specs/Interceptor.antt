-- The message if an interceptor would get more than one test.
use Rattle.std.specs.Prelude.{ℕ, ◌-◌, false, List, [], ◌++◌, None, length, nat_lt, if◌then◌else◌, codes}
use Rattle.styled_text.specs.Names.{decimal, flat_map, plain, styled, Text}
use Rattle.report_words.specs.Names.{Style, ListStyles, tests_word, tests_word_if}
use Rattle.{run_names.specs.declared.config.NextestRunMode.NextestRunMode}
use Rattle.{run_names.specs.declared.name.OwnedTestInstanceId.OwnedTestInstanceId, report_text.specs.Instance.test_text}

-- the option, and that it takes one test
unfoldable pub interceptor_option : Text → NextestRunMode → Text
interceptor_option name mode = plain (codes "--")
    ++ (plain name ++ (plain (codes " requires exactly one ") ++ plain (tests_word_if mode false)))

-- how many tests there are
unfoldable pub selected_text : NextestRunMode → ℕ → Style → Text
selected_text mode count s = plain (codes ", but ")
    ++ (styled s (decimal count)
    ++ (plain (codes " ") ++ (plain (tests_word mode count) ++ plain (codes " were selected:"))))

-- a test on its own line, after two spaces
unfoldable pub listed_test : ListStyles → OwnedTestInstanceId → Text
listed_test s i = plain (codes "\n  ") ++ test_text s None None i.binary_id i.test_name

-- how many tests are not listed
unfoldable pub rest_text : NextestRunMode → ℕ → Style → Text
rest_text mode count s = plain (codes "\n  ... and ")
    ++ (styled s (decimal count) ++ (plain (codes " more ") ++ plain (tests_word mode count)))

-- how many tests are not listed, if any
unfoldable pub unlisted_text : NextestRunMode → ℕ → ℕ → Style → Text
unlisted_text mode count listed s = if nat_lt listed count then rest_text mode (count - listed) s else []

-- the whole message
unfoldable pub too_many_tests_text : Text → NextestRunMode → ℕ → List OwnedTestInstanceId → ListStyles → Style → Text
too_many_tests_text name mode count instances s count_style =
    interceptor_option name mode
    ++ (selected_text mode count count_style
    ++ (flat_map (listed_test s) instances ++ unlisted_text mode count (length instances) count_style))
