-- A test's iteration, counter and names, and a setup script's, in colour and plain.
use Rattle.std.proofs.Common.{◌≡◌, ℕ, ◌+◌, Bool, true, false, Option, None, Some, refl, encode_utf8}
use Rattle.{run_names.specs.Names.last_colons, run_names.specs.declared.name.TestInstanceId.TestInstanceId}
use Rattle.{run_names.specs.declared.stress.StressIndex.StressIndex}
use Rattle.styled_text.specs.Names.{Text, HasNoEscape, list_styles_of}
use Rattle.report_words.specs.Names.{Style, IsPlainInstance, IsColourPair}
use Rattle.report_text.specs.Instance.{HasPlainCounter, test_name_text, numbered_iteration, stress_text, stress_prefix}
use Rattle.report_text.specs.Instance.{counter_text, counter_prefix, test_text, script_text, instance_text}
use Rattle.report_text.specs.declared.helpers.instance.DisplayCounterIndex.{DisplayCounterIndex, TheVariants.Counter}
use Rattle.report_text.specs.declared.helpers.instance.DisplayCounterIndex.{TheVariants.Padded}
use Rattle.styled_text.specs.declared.style.Style.TheVariants as style
use Rattle.styled_text.proofs.lemmas.Closed.{char_free, repeat_free}
use Rattle.report_words.proofs.lemmas.ColourPairs.{colour_pair-none, colour_pair-free, colour_pairs}

colour_pair-name_at : (k : Bool) (name : Text) (place : Option ℕ) → HasNoEscape name → place ≡ last_colons name
    → IsColourPair k (test_name_text (list_styles_of true) name) (test_name_text (list_styles_of false) name)
unfolding test_name_text
colour_pair-name_at k name None h e = rw (← e) (search colour_pairs depth 12)
colour_pair-name_at k name (Some i) h e = rw (← e) (search colour_pairs depth 12)

colour_pair-test_name_text : (k : Bool) (name : Text) → HasNoEscape name
    → IsColourPair k (test_name_text (list_styles_of true) name) (test_name_text (list_styles_of false) name)
colour_pair-test_name_text k name h = colour_pair-name_at k name (last_colons name) h refl

colour_pair-stress_text : (k : Bool) (s : Style) (i : StressIndex)
    → IsColourPair k (stress_text s i) (stress_text style.Plain i)
unfolding stress_text
colour_pair-stress_text k s i = go i.total
  where
    go : (total : _)
        → IsColourPair k (numbered_iteration s (i.current + 1) total) (numbered_iteration style.Plain (i.current + 1)
        total)
    go None = search colour_pairs depth 12
    go (Some total) = search colour_pairs depth 12

pub colour_pair-stress_prefix : (k : Bool) (s : Style) (i : Option StressIndex)
    → IsColourPair k (stress_prefix s i) (stress_prefix style.Plain i)
unfolding stress_prefix
colour_pair-stress_prefix k s None = colour_pair-none k
colour_pair-stress_prefix k s (Some i) = search (colour_pairs, colour_pair-stress_text) depth 12

-- the counter of a test
pub colour_pair-counter_prefix : (k : Bool) (counter : Option DisplayCounterIndex) → HasPlainCounter counter
    → IsColourPair k (counter_prefix counter) (counter_prefix counter)
unfolding counter_prefix counter_text
colour_pair-counter_prefix k None h = colour_pair-none k
colour_pair-counter_prefix k (Some (Counter current total)) h = search colour_pairs depth 12
colour_pair-counter_prefix k (Some (Padded character width)) h =
    let one = char_free character h in let many = repeat_free width (encode_utf8 character) one in search
    (colour_pairs, colour_pair-free) depth 12

pub colour_pair-test_text : (k : Bool) (stress : Option StressIndex) (counter : Option DisplayCounterIndex)
    (id name : Text)
    → HasPlainCounter counter → HasNoEscape id → HasNoEscape name
    → IsColourPair k (test_text (list_styles_of true) stress counter id name)
    (test_text (list_styles_of false) stress counter id name)
unfolding test_text
colour_pair-test_text k stress counter id name c h j = let first = colour_pair-counter_prefix k counter c in search
    (colour_pairs, colour_pair-stress_prefix, colour_pair-test_name_text) depth 12

pub colour_pair-instance_text : (k : Bool) (stress : Option StressIndex) (counter : Option DisplayCounterIndex)
    (i : TestInstanceId)
    → HasPlainCounter counter → IsPlainInstance i
    → IsColourPair k (instance_text (list_styles_of true) stress counter i)
    (instance_text (list_styles_of false) stress counter i)
colour_pair-instance_text k stress counter i c h = colour_pair-test_text k stress counter i.binary_id.now
    i.test_name.now c h.0 h.1

-- a setup script
pub colour_pair-script_text : (k : Bool) (s t : Style) (stress : Option StressIndex) (id command : Text)
    → HasNoEscape id → HasNoEscape command
    → IsColourPair k (script_text s t stress id command) (script_text style.Plain style.Plain stress id command)
unfolding script_text
colour_pair-script_text k s t stress id command h j = search (colour_pairs, colour_pair-free, colour_pair-stress_prefix)
    depth 12
