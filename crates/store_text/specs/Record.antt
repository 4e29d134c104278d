-- The record of a finished test.
use Rattle.{std.specs.Prelude.◌++◌, std.specs.Prelude.codes, run_model.specs.Names.Attempts}
use Rattle.{run_model.specs.Names.TestInstanceId, styled_text.specs.Texts.Text}
use Rattle.text_parts.specs.Names.{ChildOutputDescription, LiveSpec, short_word}
use Rattle.store_text.specs.{Netstring.netstring, StoredOutput.stored_output, declared.config.StoreConfig.StoreConfig}

-- a test's binary id, its name, the word of its last attempt and its output, each as a netstring, on a line
unfoldable pub record_text : StoreConfig → TestInstanceId → Attempts LiveSpec ChildOutputDescription → Text
record_text store test statuses =
    netstring test.binary_id.now
    ++ (netstring test.test_name.now
    ++ (netstring (short_word statuses.last.result)
    ++ (netstring (stored_output store statuses) ++ codes "\n")))
