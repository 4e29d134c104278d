-- Lists in order, with ties in their order of arrival: there is exactly one (for the lemmas of Inserts, Pasts).
use Rattle.std.proofs.Common.{suc-add, ap₂, ◌≡◌, zero, suc, Bool, true, false, cond, List, [], ◌∷◌, ◌++◌, filter}
use Rattle.std.proofs.Common.{reverse, refl, ◌∙◌, ap, arith, inl, inr, IsSortedBy}
use Rattle.styled_text.specs.Names.{IsStrictWeakOrder, AllByRecursion, ties, IsStableBy}
use Rattle.{reporter_state.specs.Order.put_in, reporter_state.specs.Order.ordered_by}
use Rattle.std.proofs.lemmas.Bool.{false≢true, cases_Bool}
use Rattle.std.proofs.lemmas.Grind.{reverse_onto}
use Rattle.std.proofs.lemmas.List.{Elements.recursion_from_All, Elements.All-from_recursion, reverse-append}
use Rattle.std.proofs.lemmas.List.{reverse-reverse, Sorted.sorted_far, Sorted.All-permutation}
use Rattle.std.proofs.lemmas.List.{Sorted.IsPermutation-reverse}

-- no element is above those after it
abbrev pub IsRising : {X : Type 0} → (X → X → Bool) → List X → Type 0
IsRising lt [] = Unit {0}
IsRising lt (e ∷ es) = AllByRecursion (λ f. lt f e ≡ false) es × IsRising lt es

pub filter-none : {X : Type 0} (p : X → Bool) (xs : List X) → AllByRecursion (λ x. p x ≡ false) xs → filter p xs ≡ []
filter-none p [] h = refl
filter-none p (x ∷ xs) h = rw h.0 (filter-none p xs h.1)

pub All-more : {X : Type 0} (P Q : X → Type 0) → ((x : X) → P x → Q x) → (xs : List X) → AllByRecursion P xs
    → AllByRecursion Q xs
All-more P Q f [] h = tt
All-more P Q f (x ∷ xs) h = grind (arith, All-more P Q f xs h.1)

-- an element before the first that is greater
abbrev pub put_last : {X : Type 0} → (X → X → Bool) → X → List X → List X
put_last lt e [] = e ∷ []
put_last lt e (f ∷ fs) = cond (lt e f) (e ∷ f ∷ fs) (f ∷ put_last lt e fs)

module _ {X : Type 0} (lt : X → X → Bool) where
  after_all : (e : X) (gs : List X) → AllByRecursion (λ g. lt g e ≡ true) gs → put_in lt e gs ≡ gs ++ e ∷ []
  unfolding put_in
  after_all e [] h = refl
  after_all e (g ∷ gs) h = cc (after_all e gs h.1)

  before_last : (e f : X) (gs : List X) → lt f e ≡ false → put_in lt e (gs ++ f ∷ []) ≡ put_in lt e gs ++ f ∷ []
  unfolding put_in
  before_last e f [] h = rw h refl
  before_last e f (g ∷ gs) h = grind (arith, before_last e f gs h)

module _ {X : Type 0} (lt : X → X → Bool) (o : IsStrictWeakOrder lt) where
  not_below_itself : (x : X) → lt x x ≡ false
  not_below_itself x = grind arith

  ties_itself : (x : X) → ties lt x x ≡ true
  ties_itself x = rw (not_below_itself x)

  -- what is below y ties with no element from y on
  none_tie : (x y : X) (ys : List X) → lt x y ≡ true → AllByRecursion (λ f. lt f y ≡ false) ys
      → filter (ties lt x) (y ∷ ys) ≡ []
  none_tie x y ys below above = grind (arith, filter-none, All-more, not_below_itself, false≢true)

  head_of_ties : (z : X) (x : X) (xs : List X) → ties lt z x ≡ true
      → filter (ties lt z) (x ∷ xs) ≡ x ∷ filter (ties lt z) xs
  head_of_ties z x xs h = rw h

  -- two lists in order whose ties are equal have equal heads
  same_head : (x y : X) (xs ys : List X) → IsRising lt (x ∷ xs) → IsRising lt (y ∷ ys)
      → filter (ties lt x) (x ∷ xs) ≡ filter (ties lt x) (y ∷ ys)
      → filter (ties lt y) (x ∷ xs) ≡ filter (ties lt y) (y ∷ ys) → x ≡ y
  same_head x y xs ys a b at_x at_y = grind (arith, none_tie, head_of_ties, ties_itself)

  tail_of_ties : (z x : X) (xs ys : List X) → filter (ties lt z) (x ∷ xs) ≡ filter (ties lt z) (x ∷ ys)
      → filter (ties lt z) xs ≡ filter (ties lt z) ys
  tail_of_ties z x xs ys h = grind arith

  -- there is at most one such list
  pub only_one : (xs ys : List X) → IsRising lt xs → IsRising lt ys
      → ((z : X) → filter (ties lt z) xs ≡ filter (ties lt z) ys) → xs ≡ ys
  only_one [] [] a b same = refl
  only_one [] (y ∷ ys) a b same = let e = head_of_ties y y ys (ties_itself y) in grind arith
  only_one (x ∷ xs) [] a b same = let e = head_of_ties x x xs (ties_itself x) in grind arith
  only_one (x ∷ xs) (y ∷ ys) a b same = let e = same_head x y xs ys a b (same x) (same y) in
      let f = only_one xs ys a.1 b.1
      (grind arith) in
      ap₂ (λ w l. w ∷ l) e f

  -- what ties with both is between neither
  both_tie : (z e f : X) → lt f e ≡ true → ties lt z f ≡ true → ties lt z e ≡ true → ⊥
  both_tie z e f below at_f at_e = grind arith

  -- inserting an element leaves the ties in their order
  ties-put_in : (z e : X) (fs : List X) → filter (ties lt z) (put_in lt e fs) ≡ filter (ties lt z) (e ∷ fs)
  unfolding put_in
  ties-put_in z e [] = refl
  ties-put_in z e (f ∷ fs) = grind (arith, ties-put_in z e fs)

  All-put_in : (P : X → Type 0) (e : X) (fs : List X) → P e → AllByRecursion P fs → AllByRecursion P (put_in lt e fs)
  unfolding put_in
  All-put_in P e [] h all = (h, tt)
  All-put_in P e (f ∷ fs) h all = grind (arith, All-put_in P e fs h all.1)

  rising-put_in : (e : X) (fs : List X) → IsRising lt fs → IsRising lt (put_in lt e fs)
  unfolding put_in
  rising-put_in e [] h = (tt, tt)
  rising-put_in e (f ∷ fs) h = grind (arith, All-put_in, All-more, rising-put_in e fs h.1)

  pub All-ordered_by : (P : X → Type 0) (es : List X) → AllByRecursion P es → AllByRecursion P (ordered_by lt es)
  unfolding ordered_by
  All-ordered_by P [] all = tt
  All-ordered_by P (e ∷ es) all = search (All-put_in, All-ordered_by P es all.1)

  pub rising-ordered_by : (es : List X) → IsRising lt (ordered_by lt es)
  unfolding ordered_by
  rising-ordered_by [] = tt
  rising-ordered_by (e ∷ es) = rising-put_in e (ordered_by lt es) (rising-ordered_by es)

  pub stable-ordered_by : (es : List X) (z : X) → filter (ties lt z) (ordered_by lt es) ≡ filter (ties lt z) es
  unfolding ordered_by
  stable-ordered_by [] z = refl
  stable-ordered_by (e ∷ es) z = search (ties-put_in, stable-ordered_by es z)

  pub sorted_from_rising : (xs : List X) → IsRising lt xs → IsSortedBy lt xs
  sorted_from_rising [] h k d low high = absurd (omega arith)
  sorted_from_rising (x ∷ []) h k d low high = absurd (omega arith)
  sorted_from_rising (x ∷ y ∷ ys) h zero d low high = h.0.0
  sorted_from_rising (x ∷ y ∷ ys) h (suc k) d low high = grind (
    arith,
    sorted_from_rising (y ∷ ys) h.1 k d (omega arith)
        (omega arith),
  )

  pub rising_from_sorted : (xs : List X) → IsSortedBy lt xs → IsRising lt xs
  rising_from_sorted [] h = tt
  rising_from_sorted (x ∷ xs) h = (
    recursion_from_All (λ f. lt f x ≡ false) xs
        (λ k d within. sorted_far lt o (x ∷ xs) h 0 (suc k) d (omega arith) (omega arith)),
    rising_from_sorted xs
        (λ k d low high. let more = h (suc k) d (omega arith) (omega arith) in rw suc-add at more),
  )

  -- there is exactly one list in order with the ties of es
  pub is_ordered : (es : List X) → IsSortedBy lt (ordered_by lt es) × IsStableBy lt es (ordered_by lt es)
  is_ordered es = search (sorted_from_rising, rising-ordered_by, stable-ordered_by)

  pub ordered_only : (es order : List X) → IsSortedBy lt order → IsStableBy lt es order → order ≡ ordered_by lt es
  ordered_only es order up stable = search (only_one, rising_from_sorted, rising-ordered_by, stable-ordered_by)

  less_through : (e f x : X) → lt e f ≡ true → lt f x ≡ true → lt e x ≡ true
  less_through e f x a b = grind arith

  -- the first and the last of some elements may be inserted in either order
  exchange : (x e : X) (fs : List X) → put_in lt x (put_last lt e fs) ≡ put_last lt e (put_in lt x fs)
  unfolding put_in
  exchange x e [] = refl
  exchange x e (f ∷ fs) = grind (arith, exchange x e fs)

  -- the order with one more element at the end
  pub order_more : (es : List X) (e : X) → ordered_by lt (es ++ e ∷ []) ≡ put_last lt e (ordered_by lt es)
  unfolding ordered_by put_in
  order_more [] e = refl
  order_more (x ∷ es) e = search (exchange, order_more es e)

  -- the order with one more element at the end, reversed
  pub put_back : (e : X) (fs : List X) → IsRising lt fs
      → reverse (put_in (λ a b. lt b a) e (reverse fs)) ≡ put_last lt e fs
  unfolding put_in
  put_back e [] h = refl
  put_back e (f ∷ fs) h = elim (cases_Bool (lt e f)) [
    | inl t ↦ (
        let above = All-more (λ g. lt g f ≡ false) (λ g. lt e g ≡ true) (λ g a. elim (cases_Bool (lt e g)) [
          | inl y ↦ y
          | inr n ↦ absurd (grind arith)
        ]) fs h.0 in
        let all = recursion_from_All (λ g. lt e g ≡ true) (reverse (f ∷ fs))
        (All-permutation (λ g. lt e g ≡ true) (f ∷ fs) (reverse (f ∷ fs)) (IsPermutation-reverse (f ∷ fs))
        (All-from_recursion (λ g. lt e g ≡ true) (f ∷ fs) (t, above))) in
        ap reverse (after_all (λ a b. lt b a) e (reverse (f ∷ fs)) all) ∙ reverse-append (reverse (f ∷ fs)) (e ∷ [])
        ∙ ap (λ l. e ∷ l) (reverse-reverse (f ∷ fs)) ∙ rw t refl
        )
    | inr n ↦ (
        let more = put_back e fs h.1 in
        ap (λ l. reverse (put_in (λ a b. lt b a) e l)) (reverse_onto fs f [])
        ∙ ap reverse (before_last (λ a b. lt b a) e f (reverse fs) n)
        ∙ reverse-append (put_in (λ a b. lt b a) e (reverse fs)) (f ∷ [])
        ∙ ap (λ l. f ∷ l) more ∙ rw n refl
        )
  ]

  -- two elements that do not tie may be inserted in either order
  put_both : (x y : X) (fs : List X) → lt x y ≡ true → put_in lt x (put_in lt y fs) ≡ put_in lt y (put_in lt x fs)
  unfolding put_in
  put_both x y [] h = rw (h, o.one_way x y h) refl
  put_both x y (f ∷ fs) h = grind (arith, put_both x y fs h)

  -- the order does not depend on which of two neighbours came first, if they do not tie
  pub order-swap : (front back : List X) (x y : X) → lt x y ≡ true
      → ordered_by lt (front ++ x ∷ y ∷ back) ≡ ordered_by lt (front ++ y ∷ x ∷ back)
  unfolding ordered_by
  order-swap [] back x y h = put_both x y (ordered_by lt back) h
  order-swap (f ∷ front) back x y h = cc (order-swap front back x y h)
