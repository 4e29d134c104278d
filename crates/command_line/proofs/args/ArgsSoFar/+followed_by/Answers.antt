use Rattle.std.proofs.Common.{◌≡◌, ◌≢◌, ◌∙◌, List, ℕ, bytes_eq, false, sym}
use Rattle.{std.proofs.lemmas.Bool.false_from_ne_true, std.proofs.lemmas.Slice.Eq.bytes_eq-Decides}
use Rattle.{command_line.specs.Args.options_after}
use Rattle.command_line.proofs.args.ArgsSoFar.+followed_by.Goals as goal

pub returns-in_ok-with_level-in-text : goal.returns-in_ok-with_level-in-text
unfolding options_after
returns-in_ok-with_level-in-text t c =
    let is = sym c.as_str-2.ensures.value ∙ c.in-text.is in
    let made = rw c.as_str-in-text.ensures.value at c.in_ok-with_level-in-text.ensures in
    rw (c.in_ok-first.ensures.cases.0, c.in-Some.ensures.cases.0, is, sym made) c.followed_by.ensures

pub returns-in-None : goal.returns-in-None
unfolding options_after
returns-in-None t c =
    let is = sym c.as_str-2.ensures.value ∙ c.in-text-2.is in
    rw (c.in_ok-first.ensures.cases.0, c.in-Some.ensures.cases.0, c.in-None.is, is, ← c.as_str-in-None.ensures.value)
    c.followed_by-in-None.ensures

differs : (option t : List ℕ) → option ≢ t → bytes_eq option t ≡ false
differs option t h = false_from_ne_true (bytes_eq option t) (λ e. h ((bytes_eq-Decides option t).0 e))

pub returns-in_ok-with_flag-in_default-as_str : goal.returns-in_ok-with_flag-in_default-as_str
unfolding options_after
returns-in_ok-with_flag-in_default-as_str t c =
    let no_level = rw c.as_str-2.ensures.value at c.in_default-as_str.not-text in
    let no_store = rw c.as_str-2.ensures.value at c.in_default-as_str.not-text-2 in
    let made = rw c.as_str-2.ensures.value at c.in_ok-with_flag-in_default-as_str.ensures in
    let words = rw c.in-Some.ensures.cases.0 at c.followed_by-in_default-as_str.ensures in
    rw (c.in_ok-first.ensures.cases.0, c.in-Some.ensures.cases.0, differs _ _ no_level, differs _ _ no_store, sym made)
    words
