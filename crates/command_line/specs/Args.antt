-- The options of a command line.
use Rattle.std.specs.Prelude.{ℕ, List, [], ◌∷◌, ◌++◌, map, Bool, true, false, not, ◌&&◌, ◌||◌, if◌then◌else◌, Option}
use Rattle.std.specs.Prelude.{None, Some, is_none, is_some, unwrap_or, String, string_bytes, codes, bytes_eq}
use Rattle.std.specs.Option.{option_map, option_and_then, option_or}
use Rattle.{std.specs.declared.alloc.Global.Global, run_names.specs.declared.level.StatusLevel.StatusLevel}
use Rattle.{store_text.specs.declared.config.StoreConfig.StoreConfig}
use Rattle.command_line.specs.declared.args.{ArgsSoFar.ArgsSoFar, Options.Options, StoreOptions.StoreOptions}
use Rattle.run_names.specs.declared.level.StatusLevel.TheVariants as status

abbrev pub Argument : Type 0
Argument = List ℕ

-- the bytes of the words
abbrev pub texts : List (String Global) → List Argument
texts ws = map string_bytes ws

-- where records go, and what they hold
pub record AskedStore : Type 0 where
  pub file : Argument
  pub config : StoreConfig

-- `Options`, with texts in place of borrowed words
pub record Asked : Type 0 where
  pub should_colorize : Bool
  pub show_counter : Bool
  pub is_replay : Bool
  pub unload_skipped : Bool
  pub status_level : StatusLevel
  pub store : Option AskedStore
  pub file : Argument

-- the parsed options with the file of the records and that of the scene; None if outputs are to be stored without a
-- file of records
abbrev pub asked_of : ArgsSoFar → Option Argument → Argument → Option Asked
asked_of options store file =
    if is_none store && (options.store_success || options.store_failure) then None
    else Some (record {
      should_colorize = options.color;
      show_counter = options.counter;
      is_replay = options.replay;
      unload_skipped = options.unload;
      status_level = unwrap_or options.level status.Pass;
      store = option_map (λ path. record {
        file = path;
        config = record { store_success_output = options.store_success; store_failure_output = options.store_failure };
      }) store;
      file = file;
    })

-- no option
abbrev pub no_args : ArgsSoFar
no_args = record {
  color = false;
  counter = false;
  replay = false;
  unload = false;
  level = None;
  store_success = false;
  store_failure = false;
}

-- adds a flag; None if it is unknown or was already given
abbrev pub with_flag : ArgsSoFar → Argument → Option ArgsSoFar
with_flag options flag =
    if bytes_eq flag (codes "--color") && not options.color then Some (record options { color = true })
    else (if bytes_eq flag (codes "--counter") && not options.counter then Some (record options { counter = true })
    else (if bytes_eq flag (codes "--replay") && not options.replay then Some (record options { replay = true })
    else (if bytes_eq flag (codes "--unload") && not options.unload then Some (record options { unload = true })
    else (if bytes_eq flag (codes "--store-success") && not options.store_success then Some (record options {
      store_success = true;
    })
    else (if bytes_eq flag (codes "--store-failure") && not options.store_failure then Some (record options {
      store_failure = true;
    })
    else None)))))

-- the status level of a word
abbrev pub level_of : Argument → Option StatusLevel
level_of word =
    if bytes_eq word (codes "none") then Some status.None
    else (if bytes_eq word (codes "fail") then Some status.Fail
    else (if bytes_eq word (codes "retry") then Some status.Retry
    else (if bytes_eq word (codes "slow") then Some status.Slow
    else (if bytes_eq word (codes "leak") then Some status.Leak
    else (if bytes_eq word (codes "pass") then Some status.Pass
    else (if bytes_eq word (codes "skip") then Some status.Skip
    else (if bytes_eq word (codes "all") then Some status.All
    else None)))))))

-- adds a status level; None if the word names none or a level was already given
abbrev pub with_level : ArgsSoFar → Argument → Option ArgsSoFar
with_level options word =
    if is_some options.level then None
    else option_map (λ level. record options { level = Some level }) (level_of word)

-- parses the remaining words, after these options and this file of records: the last word is the file, a level
-- follows `--level`, and the file of the records follows `--store`; None for a wrong command line
unfoldable pub options_after : ArgsSoFar → Option Argument → List Argument → Option Asked
options_after options store [] = None
options_after options store (file ∷ []) = asked_of options store file
options_after options store (option ∷ word ∷ rest) =
    if bytes_eq option (codes "--level") then option_and_then (λ more. options_after more store rest)
    (with_level options word)
    else
    (if bytes_eq option (codes "--store") then
    (if is_some store then None else options_after options (Some word) rest)
    else option_and_then (λ more. options_after more store (word ∷ rest)) (with_flag options option))

-- the options of a command line, or None if it is wrong
abbrev pub options_of : List Argument → Option Asked
options_of words = options_after no_args None words

-- like options_of, where the file is `-`, standard input, if none is named
abbrev pub options_or_input : List Argument → Option Asked
options_or_input words = option_or (options_of (words ++ codes "-" ∷ [])) (options_of words)

-- `StoreOptions` with texts in place of borrowed words
abbrev pub store_asked_for : StoreOptions → AskedStore
store_asked_for s = record { file = s.file.now; config = s.config }

-- `Options` with texts in place of borrowed words
abbrev pub asked_for : Options → Asked
asked_for o = record {
  should_colorize = o.should_colorize;
  show_counter = o.show_counter;
  is_replay = o.is_replay;
  unload_skipped = o.unload_skipped;
  status_level = o.status_level;
  store = option_map store_asked_for o.store;
  file = o.file.now;
}

abbrev pub asked : Option Options → Option Asked
asked o = option_map asked_for o
