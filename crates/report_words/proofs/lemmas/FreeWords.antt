-- Words without escape characters (for `colour_pairs`).
use Rattle.std.proofs.Common.{ℕ, ℤ, pos, negsuc, zero, suc, ◌+◌, Bool, true, false, cond, ◌==◌, inl}
use Rattle.std.proofs.Common.{inr, List, [], ◌∷◌, refl, arith, take, drop, ◌/◌}
use Rattle.std.proofs.lemmas.{Bool.cases_Bool}
use Rattle.styled_text.specs.Names.{signed_decimal, Text, visible, HasNoEscape, indent, indent_onward, indent-onward}
use Rattle.styled_text.specs.Names.{last_digits, with_point, seconds, plain}
use Rattle.uuid.specs.Text.{by_index, hyphenated_text, lower, hex_digit as id_digit}
use Rattle.run_names.specs.declared.config.NextestRunMode.{NextestRunMode, TheVariants.Test, TheVariants.Benchmark}
use Rattle.run_names.specs.{Levels.reason_words, declared.level.CancelReason.CancelReason}
use Rattle.run_names.specs.declared.level.CancelReason.TheVariants as reason
use Rattle.report_words.specs.Names.{clock_text, were_word, tests_word_if, setup_scripts_word, binaries_word}
use Rattle.report_words.specs.Names.{iterations_word, hbar_text}
use Rattle.styled_text.proofs.lemmas.Closed.{decimal_free, right_free, repeat_free}
use Rattle.styled_text.proofs.lemmas.{Pieces.free_parts, Pieces.visible_after-free, Widths.free_both}

pub free-take : (n : ℕ) (t : Text) → HasNoEscape t → HasNoEscape (take n t)
free-take zero t h = refl
free-take (suc n) [] h = refl
free-take (suc n) (c ∷ t) h = let both = free_parts c t h in grind (arith, free-take n t both.1)

pub free-drop : (n : ℕ) (t : Text) → HasNoEscape t → HasNoEscape (drop n t)
free-drop zero t h = h
free-drop (suc n) [] h = refl
free-drop (suc n) (c ∷ t) h = free-drop n t (free_parts c t h).1

pub free-if : (b : Bool) (t u : Text) → HasNoEscape t → HasNoEscape u → HasNoEscape (cond b t u)
free-if true t u h k = h
free-if false t u h k = k

pub free-signed : (n : ℤ) → HasNoEscape (signed_decimal n)
free-signed (pos n) = decimal_free n
free-signed (negsuc n) = decimal_free (suc n)

pub free-plain : (t : Text) → HasNoEscape t → HasNoEscape (plain t)
unfolding plain
free-plain t h = h

pub free-digit : (d : ℕ) → HasNoEscape ((48 + d) ∷ [])
free-digit d = grind arith

pub free-last_digits : (k n : ℕ) → HasNoEscape (last_digits k n)
free-last_digits zero n = refl
free-last_digits (suc k) n = search (free_both, free-digit, free-last_digits k (n / 10))

pub free-seconds : (k n : ℕ) → HasNoEscape (seconds k n)
unfolding seconds with_point
free-seconds k n = search (free_both, decimal_free, free-last_digits) depth 8

pub free-clock_text : (s : ℕ) → HasNoEscape (clock_text s)
unfolding clock_text
free-clock_text s = search (free_both, free-if, decimal_free, free-last_digits) depth 12

free-id_digit : (d : ℕ) → HasNoEscape (id_digit lower d ∷ [])
free-id_digit d = grind arith

free-by_index : (n : ℕ) (f : ℕ → ℕ) → ((k : ℕ) → HasNoEscape (f k ∷ [])) → HasNoEscape (by_index n f)
unfolding by_index
free-by_index zero f h = refl
free-by_index (suc n) f h = search (free_both, free-by_index n f h)

pub free-run_id : (id : List ℕ) → HasNoEscape (hyphenated_text lower id)
free-run_id id = search (arith, free-by_index, free-id_digit)

pub free-indent : (p : Text) (b : Bool) (t : Text) → HasNoEscape p → HasNoEscape t → HasNoEscape (indent p b t)
free-indent p b t h k = rw indent-onward (go b t k)
  where
    go : (b : Bool) (t : Text) → HasNoEscape t → HasNoEscape (indent_onward p b t)
    go b [] k = refl
    go b (c ∷ t) k = let both = free_parts c t k in elim (cases_Bool (c == 10)) [
      | inl y ↦ rw y (go true t both.1)
      | inr n ↦ rw n
          (free_both (cond b p []) (c ∷ indent_onward p false t) (grind arith)
          (rw both.0 (go false t both.1)))
    ]

pub free-tests_word_if : (mode : NextestRunMode) (b : Bool) → HasNoEscape (tests_word_if mode b)
unfolding tests_word_if
free-tests_word_if Test true = refl
free-tests_word_if Test false = refl
free-tests_word_if Benchmark true = refl
free-tests_word_if Benchmark false = refl

pub free-binaries_word : (n : ℕ) → HasNoEscape (binaries_word n)
unfolding binaries_word
free-binaries_word n = grind arith

pub free-setup_scripts_word : (n : ℕ) → HasNoEscape (setup_scripts_word n)
unfolding setup_scripts_word
free-setup_scripts_word n = grind arith

pub free-iterations_word : (n : ℕ) → HasNoEscape (iterations_word n)
unfolding iterations_word
free-iterations_word n = grind arith

pub free-were_word : (b : Bool) → HasNoEscape (were_word b)
unfolding were_word
free-were_word true = refl
free-were_word false = refl

pub free-reason_words : (r : CancelReason) → HasNoEscape (reason_words r)
free-reason_words reason.SetupScriptFailure = refl
free-reason_words reason.TestFailure = refl
free-reason_words reason.ReportError = refl
free-reason_words reason.GlobalTimeout = refl
free-reason_words reason.TestFailureImmediate = refl
free-reason_words reason.Signal = refl
free-reason_words reason.Interrupt = refl
free-reason_words reason.SecondSignal = refl

pub free-hbar_text : (b : Bool) (n : ℕ) → HasNoEscape (hbar_text b n)
unfolding hbar_text lib.Utf8.encode
free-hbar_text true n = repeat_free n _ refl
free-hbar_text false n = repeat_free n _ refl

-- a visible text holds no escape character, whatever the text holds
pub free-visible : (t : Text) → HasNoEscape (visible t)
free-visible t = visible_after-free 0 t

pub ruleset frees = (
  free_both,
  free-if,
  decimal_free,
  right_free,
  free-signed,
  free-plain,
  free-seconds,
  free-clock_text,
  free-run_id,
  free-indent,
  free-tests_word_if,
  free-setup_scripts_word,
  free-binaries_word,
  free-iterations_word,
  free-were_word,
  free-hbar_text,
  free-take,
  free-drop,
  free-visible,
)
