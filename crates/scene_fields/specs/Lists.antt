-- Lists of words, with `\,` between them.
use Rattle.std.specs.Prelude.{ℕ, List, [], ◌∷◌, ◌++◌, Bool, false, ◌==◌, if◌then◌else◌, Option, None, Some, codes}
use Rattle.std.specs.Prelude.{bytes_eq}
use Rattle.{std.specs.Option.option_map, std.specs.Option.option_and_then, run_model.specs.Names.MessageAndCauses}
use Rattle.{run_model.specs.Names.OwnedTestInstanceId, scene_fields.specs.Texts.escape_byte}
use Rattle.{scene_fields.specs.Texts.unescaped_after}

abbrev pub Words : Type 0
Words = List (List ℕ)

abbrev pub begins_with_comma : List ℕ → Bool
begins_with_comma [] = false
begins_with_comma (c ∷ t) = c == 44

-- bytes put before the first word of a list
abbrev pub in_first_word : List ℕ → List ℕ × Words → List ℕ × Words
in_first_word t ws = (t ++ ws.0, ws.1)

-- `\,` puts an empty word first, and any other escape its byte in front of the first word
abbrev pub list_escape : List ℕ → Option (List ℕ × Words → List ℕ × Words)
list_escape t = if begins_with_comma t then Some (λ ws. ([], ws.0 ∷ ws.1)) else option_map (λ b. in_first_word (b ∷ []))
    (escape_byte 127 t)

-- the first word and the others of a list that has some, if its escapes are valid
abbrev pub list_words : List ℕ → Option (List ℕ × Words)
list_words t = unescaped_after in_first_word list_escape ([], []) 0 t

-- the words of a list; `-` is the empty list
abbrev pub words_of : List ℕ → Option Words
words_of t = if bytes_eq t (codes "-") then Some [] else option_map (λ ws. ws.0 ∷ ws.1) (list_words t)

-- an error and its causes, as the list of them
abbrev pub chain_of : Option Words → Option MessageAndCauses
chain_of None = None
chain_of (Some []) = None
chain_of (Some (message ∷ causes)) = Some (record { message = message; causes = causes })

abbrev pub chain_in : List ℕ → Option MessageAndCauses
chain_in t = chain_of (words_of t)

-- errors, or `-`
abbrev pub errors_in : List ℕ → Option (Option MessageAndCauses)
errors_in t = if bytes_eq t (codes "-") then Some None else option_map (λ chain. Some chain) (chain_in t)

abbrev pub Instances : Type 0
Instances = List OwnedTestInstanceId

abbrev pub instance : List ℕ → List ℕ → OwnedTestInstanceId
instance id name = record { binary_id = id; test_name = name }

-- tests by the ids of their binaries and their names in turn
abbrev pub instances_of : Words → Option Instances
instances_of [] = Some []
instances_of (id ∷ []) = None
instances_of (id ∷ name ∷ ws) = option_map (λ others. instance id name ∷ others) (instances_of ws)

-- the tests whose ids and names are the words of a list
abbrev pub instances_in : List ℕ → Option Instances
instances_in t = option_and_then instances_of (words_of t)
