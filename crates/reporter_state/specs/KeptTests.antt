-- Kept tests, with their own names.
use Rattle.{std.specs.Borrow.Bor, std.specs.Prelude.ℕ, std.specs.Prelude.List}
use Rattle.{text_parts.specs.declared.instance.CountedInstance.CountedInstance}
use Rattle.{reporter_state.specs.declared.kept_test.KeptTest.KeptTest}

-- the copy of a test
abbrev pub kept_test : CountedInstance → KeptTest
kept_test t = record {
  stress_index = t.stress_index;
  counter = t.counter;
  instance = record { binary_id = t.instance.binary_id.now; test_name = t.instance.test_name.now };
}

-- a borrowed name: its address makes no difference to a text
abbrev pub lent : List ℕ → Bor (List ℕ)
lent t = record { ref_ptr = (0, 0); now = t }

-- a kept test as lines name it
abbrev pub borrowed_test : KeptTest → CountedInstance
borrowed_test t = record {
  stress_index = t.stress_index;
  counter = t.counter;
  instance = record { binary_id = lent t.instance.binary_id; test_name = lent t.instance.test_name };
}
