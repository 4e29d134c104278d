-- Names, iterations and counters as a report shows them.
use Rattle.std.specs.Prelude.{◌≢◌, ℕ, ◌+◌, List, [], ◌∷◌, ◌++◌, false, Option, None, Some, length, codes, encode_utf8}
use Rattle.styled_text.specs.Names.{decimal, NonZeroU32, non_zero_u32_get, repeat, Text, right_in, HasNoEscape}
use Rattle.styled_text.specs.Names.{shrunk_parts, plain, styled}
use Rattle.report_words.specs.Names.{Style, ListStyles, Parts, Open, drawn_given}
use Rattle.{run_names.specs.Names.module_path_of, run_names.specs.Names.last_name_of}
use Rattle.{run_names.specs.declared.name.TestInstanceId.TestInstanceId}
use Rattle.{run_names.specs.declared.stress.StressIndex.StressIndex}
use Rattle.styled_text.specs.declared.style.Style.TheVariants as style
use Rattle.report_text.specs.declared.helpers.instance.DisplayCounterIndex.{DisplayCounterIndex, TheVariants.Counter}
use Rattle.report_text.specs.declared.helpers.instance.DisplayCounterIndex.{TheVariants.Padded}

-- a name with its module path and its last part
abbrev pub name_text : ListStyles → Option Text → Text → Text
name_text s None last = styled s.test_name last
name_text s (Some path) last = styled s.module_path path
    ++ (styled s.module_path (codes "::") ++ styled s.test_name last)

-- a test's name
unfoldable pub test_name_text : ListStyles → Text → Text
test_name_text s name = name_text s (module_path_of name) (last_name_of name)

-- an iteration's number from 1, and with a total right in its width, before a slash and the total
abbrev pub numbered_iteration : Style → ℕ → Option NonZeroU32 → Text
numbered_iteration s number None = styled s (decimal number)
numbered_iteration s number (Some total) =
    styled s (right_in (length (decimal (non_zero_u32_get total))) (decimal number))
    ++ (plain (codes "/") ++ styled s (decimal (non_zero_u32_get total)))

-- an iteration of a stress run
unfoldable pub stress_text : Style → StressIndex → Text
stress_text s i = numbered_iteration s (i.current + 1) i.total

-- the iteration between brackets and a space, if there is one
unfoldable pub stress_prefix : Style → Option StressIndex → Text
stress_prefix s None = []
stress_prefix s (Some i) = plain (codes "[") ++ (stress_text s i ++ plain (codes "] "))

-- a number right in the width of its total, or one character for each column of that
unfoldable pub counter_text : DisplayCounterIndex → Text
counter_text (Counter current total) =
    plain (codes "(")
    ++ (plain (right_in (length (decimal total)) (decimal current))
    ++ (plain (codes "/") ++ (plain (decimal total) ++ plain (codes ")"))))
counter_text (Padded character width) =
    plain (codes "(")
    ++ (repeat width (encode_utf8 character)
    ++ (repeat width (encode_utf8 character) ++ (encode_utf8 character ++ plain (codes ")"))))

-- the counter and a space, if there is one
unfoldable pub counter_prefix : Option DisplayCounterIndex → Text
counter_prefix None = []
counter_prefix (Some c) = counter_text c ++ plain (codes " ")

-- a binary's id and a space
abbrev pub id_prefix : Style → Text → Text
id_prefix s id = styled s id ++ plain (codes " ")

-- a test: its iteration, its counter, its binary's id with a space and its name
unfoldable pub test_text : ListStyles → Option StressIndex → Option DisplayCounterIndex → Text → Text → Text
test_text s stress counter binary_id name =
    stress_prefix s.count stress
    ++ (counter_prefix counter ++ (id_prefix s.binary_id binary_id ++ test_name_text s name))

-- the parts before its name
abbrev pub front_parts : ListStyles → Option StressIndex → Option DisplayCounterIndex → Text → List Text
front_parts s stress counter binary_id = stress_prefix s.count stress ∷ counter_prefix counter
    ∷ id_prefix s.binary_id binary_id ∷ []

-- a test, cut to a greatest width if there is one: each part gets the columns that the parts before it have left
abbrev pub shown_text : Option ℕ → ListStyles → Option StressIndex → Option DisplayCounterIndex → Text → Text → Text
shown_text None s stress counter binary_id name = test_text s stress counter binary_id name
shown_text (Some width) s stress counter binary_id name = shrunk_parts (front_parts s stress counter binary_id)
    (test_name_text s name) width

-- a test with borrowed names
abbrev pub instance_text : ListStyles → Option StressIndex → Option DisplayCounterIndex → TestInstanceId → Text
instance_text s stress counter i = test_text s stress counter i.binary_id.now i.test_name.now

abbrev pub shown_instance : Option ℕ → ListStyles → Option StressIndex → Option DisplayCounterIndex → TestInstanceId
    → Text
shown_instance width s stress counter i = shown_text width s stress counter i.binary_id.now i.test_name.now

-- no escape character is in the counter's character, the binary's id and the name
abbrev pub HasPlainCounter : Option DisplayCounterIndex → Type 0
HasPlainCounter None = Unit {0}
HasPlainCounter (Some (Counter current total)) = Unit {0}
HasPlainCounter (Some (Padded character width)) = character ≢ 27

abbrev pub HasPlainWords : Option DisplayCounterIndex → Text → Text → Type 0
HasPlainWords counter binary_id name = HasPlainCounter counter × HasNoEscape binary_id × HasNoEscape name

-- a setup script: its iteration, its id and its command
unfoldable pub script_text : Style → Style → Option StressIndex → Text → Text → Text
script_text id_style count_style stress id command =
    stress_prefix count_style stress ++ ((styled id_style id ++ plain (codes ": ")) ++ command)

-- a test and a setup script as parts of a line
abbrev pub instance_part : Option StressIndex → Option DisplayCounterIndex → TestInstanceId → Parts false Open
instance_part stress counter i = drawn_given (λ s. instance_text s.list_styles stress counter i)

abbrev pub script_part : Option StressIndex → Text → Text → Parts false Open
script_part stress id command = drawn_given (λ s. script_text s.script_id s.count stress id command)
