-- Worked rows: what the definitions say of some records.
use Rattle.std.proofs.Common.{◌≡◌, ◌++◌, [], ◌∷◌, true, false, pos, None, Some, codes, refl}
use Rattle.styled_text.specs.Names.{digits, chars, is_utf8, Text}
use Rattle.{run_model.specs.declared.status.FailureDescription.TheVariants.ExitCode}
use Rattle.{run_model.proofs.lemmas.Decoded.decoded-same, std.proofs.lemmas.Str.IsUtf8-from_is_utf8}
use Rattle.run_model.specs.Names.{Attempts, TestInstanceId, decoded_text}
use Rattle.text_parts.specs.Names.{ChildOutputDescription, LiveSpec, ExecutionResultDescription, short_word}
use Rattle.run_model.specs.declared.output.{ChildExecutionOutputDescription.TheVariants.Output}
use Rattle.run_model.specs.declared.output.{ChildOutputDescription.TheVariants.Split}
use Rattle.run_model.specs.declared.status.ExecutionResultDescription.TheVariants as outcome
use Rattle.run_model.specs.declared.status.FlakyResult.TheVariants as flaky
use Rattle.store_text.specs.{Netstring.netstring, Netstring.netstring_head, Record.record_text}
use Rattle.store_text.specs.{StoredOutput.stored_output, declared.config.StoreConfig.StoreConfig}

-- one attempt with this result and these two streams
abbrev attempt : ExecutionResultDescription → Text → Text → Attempts LiveSpec ChildOutputDescription
attempt result stdout stderr = record {
  earlier = [];
  last = record {
    retry_data = record { attempt = 1; total_attempts = 1 };
    output = Output None (Split (Some stdout) (Some stderr)) None None;
    result = result;
    time_taken = record { 0 = 5000000 };
    is_slow = false;
  };
  flaky_result = flaky.Pass;
}

abbrev store : StoreConfig
store = record { store_success_output = false; store_failure_output = false }

row_passed : (test : TestInstanceId) → test.binary_id.now ≡ codes "alpha" → test.test_name.now ≡ codes "t1" →
    record_text store test (attempt outcome.Pass [] []) ≡ codes "5:alpha,2:t1,4:PASS,0:,\n"
unfolding record_text netstring netstring_head stored_output short_word digits
row_passed test id name = rw (id, name) refl

row_failed : (test : TestInstanceId) → test.binary_id.now ≡ codes "alpha" → test.test_name.now ≡ codes "mod::t2" →
    record_text store test (attempt (outcome.Fail (ExitCode (pos 1)) false) [] [])
    ≡ codes "5:alpha,7:mod::t2,4:FAIL,0:,\n"
unfolding record_text netstring netstring_head stored_output short_word digits
row_failed test id name = rw (id, name) refl

-- an e with an acute accent has two bytes, so with a line feed and an x the output has four
abbrev accented : Text
accented = 195 ∷ 169 ∷ 10 ∷ []

accented_decoded : decoded_text accented ≡ accented
unfolding is_utf8 chars lib.Utf8.encode
accented_decoded = decoded-same accented (IsUtf8-from_is_utf8 accented refl)

x_decoded : decoded_text (codes "x") ≡ codes "x"
unfolding is_utf8 chars lib.Utf8.encode
x_decoded = decoded-same (codes "x") (IsUtf8-from_is_utf8 (codes "x") refl)

row_output : (test : TestInstanceId) → test.binary_id.now ≡ codes "alpha" → test.test_name.now ≡ codes "t1" →
    record_text (record store {
      store_failure_output = true;
    }) test (attempt (outcome.Fail (ExitCode (pos 1)) false) accented (codes "x"))
    ≡ codes "5:alpha,2:t1,4:FAIL,4:" ++ (accented ++ codes "x,\n")
unfolding record_text netstring netstring_head stored_output short_word digits
row_output test id name = rw (id, name, accented_decoded, x_decoded) refl

-- if the store is not asked to keep it, there is no output in the record
row_without : (test : TestInstanceId) → test.binary_id.now ≡ codes "alpha" → test.test_name.now ≡ codes "t1" →
    record_text (record store {
      store_success_output = true;
    }) test (attempt (outcome.Fail (ExitCode (pos 1)) false) accented (codes "x"))
    ≡ codes "5:alpha,2:t1,4:FAIL,0:,\n"
unfolding record_text netstring netstring_head stored_output short_word digits
row_without test id name = rw (id, name) refl
