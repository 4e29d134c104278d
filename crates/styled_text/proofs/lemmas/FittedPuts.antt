-- A text that is cut while it is written (for `FittedWriteStr::write_str`, `FittedWriteStr::write_str_flush`).
use Rattle.std.proofs.Common.{arith}
use Rattle.std.proofs.Common.{◌≡◌, ℕ, [], ◌∷◌, ◌++◌, true, refl, sym, append-nil, chars, encode_utf8, Result}
use Rattle.std.proofs.Common.{Ok, Err}
use Rattle.std.{proofs.lemmas.Bool.and_parts, specs.Str.IsUtf8}
use Rattle.std.proofs.lemmas.Str.{chars-encodes, chars-nil, IsUtf8-nil, cons_from_encodes}
use lib.Utf8.{scalar}
use Rattle.styled_text.specs.Names.{Text, kept_char, kept_from, fitted_text, fitted_text-nil, scan_after, PutsChar}
use Rattle.styled_text.specs.Names.{fitted_meaning, Meaning, Puts, Fitted, WriteFault}

-- a character that a text begins with
pub first_scalar : (t rest : Text) (c : ℕ) → IsUtf8 t → t ≡ encode_utf8 c ++ rest → scalar c ≡ true
first_scalar t rest c u e = grind (arith, cons_from_encodes, and_parts, scalar)

pub one_utf8 : (c : ℕ) → scalar c ≡ true → IsUtf8 (encode_utf8 c)
one_utf8 c h = (c ∷ [], (rw h refl, append-nil (encode_utf8 c)))

pub one_char : (c : ℕ) → scalar c ≡ true → chars (encode_utf8 c) ≡ c ∷ []
one_char c h = cc (append-nil (encode_utf8 c), chars-encodes (c ∷ []) (rw h refl))

module _ {W : Type 0} (m : Meaning W) where
  kept_one : (a : Fitted W) (c : ℕ) → scalar c ≡ true → fitted_text a (encode_utf8 c) ≡ kept_char a.start a.end a.scan c
  unfolding kept_from
  kept_one a c h = search (one_char, append-nil)

  char_put : (a b : Fitted W) (c : ℕ) (r : Result (Unit {0}) WriteFault) → scalar c ≡ true → PutsChar m a c r b
      → Puts (fitted_meaning m) a (encode_utf8 c) r b
  unfolding scan_after
  char_put a b c (Ok x) h p = grind (arith, one_utf8, kept_one, one_char)
  char_put a b c (Err e) h p = record {
    front = encode_utf8 c;
    rest = [];
    whole = sym (append-nil (encode_utf8 c));
    utf8 = one_utf8 c h;
    below = rw (kept_one a c h) p.below;
    same = p.same;
  }

  -- the next character of a text
  pub next_put : (a b : Fitted W) (t rest : Text) (c : ℕ) (r : Result (Unit {0}) WriteFault) → IsUtf8 t
      → t ≡ encode_utf8 c ++ rest → PutsChar m a c r b → Puts (fitted_meaning m) a (encode_utf8 c) r b
  next_put a b t rest c r u e p = search (char_put, first_scalar)

  -- nothing is written, as by a flush
  pub nothing_put : (a b : Fitted W) (r : Result (Unit {0}) WriteFault) → Puts m a.inner.now [] r b.inner.now
      → b.scan ≡ a.scan → b.start ≡ a.start → b.end ≡ a.end → b.inner.ghost_name ≡ a.inner.ghost_name
      → Puts (fitted_meaning m) a [] r b
  unfolding scan_after
  nothing_put a b (Ok x) p s i j o = record {
    utf8 = IsUtf8-nil;
    below = rw (fitted_text-nil a) p;
    scan = rw chars-nil s;
    start = i;
    end = j;
    same = o;
  }
  nothing_put a b (Err e) p s i j o = record {
    front = [];
    rest = [];
    whole = refl;
    utf8 = IsUtf8-nil;
    below = rw (fitted_text-nil a) p;
    same = o;
  }
