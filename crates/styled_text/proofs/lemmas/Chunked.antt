-- Chunks, from the positions of line feeds (for `chunk_len`, `split_chunk`, `visit_chunks`).
use Rattle.std.proofs.Common.{◌≡◌, ◌≢◌, ℕ, ◌+◌, ◌-◌, ◌<◌, ◌==◌, inl, inr, [], ◌∷◌, ◌++◌, refl, sym, ap, ◌∙◌, arith}
use Rattle.std.proofs.Common.{length, get_or, take, drop, min, length-append, length-take, length-drop, add-one}
use Rattle.std.proofs.Common.{get_or-take, get_or-drop, Some, None}
use Rattle.std.proofs.{Math.Seq.take-suc, Math.Seq.get_or-append_seam, lemmas.Bool.cases_lt, lemmas.Bool.eqb-true}
use Rattle.std.proofs.{lemmas.List.nil_from_length, lemmas.List.drop_all}
use Rattle.{std.proofs.lemmas.Str.IsCharBoundary-end, styled_text.proofs.lemmas.Feeds.to_zero}
use Rattle.{styled_text.proofs.lemmas.Feeds.boundary_after_feed}
use Rattle.styled_text.specs.Names.{IsUtf8, IsCharBoundary, Text, IsChunk, VisitsChunks, Bor, EndsFar, EndsText}
use Rattle.styled_text.specs.Names.{IsChunkEnd}
use Rattle.memchr.specs.Find.{IsFirstByte, is_byte}

-- a text up to a line feed, and the line feed
to_feed : (t : Text) (i : ℕ) → i < length t → get_or t i 0 ≡ 10 → take (i + 1) t ≡ take i t ++ 10 ∷ []
to_feed t i h e = grind (arith, add-one, take-suc)

-- the line feed of a following line
feed_place : (t line after : Text) (n : ℕ) → drop n t ≡ line ++ 10 ∷ after
    → (get_or t (n + length line) 0 ≡ 10) × (n + length line < length t)
feed_place t line after n e = (
  sym (get_or-drop n t (length line) 0) ∙ ap (λ x. get_or x (length line) 0) e ∙ get_or-append_seam line 10 after 0,
  omega (arith, length-drop n t, ap length e, length-append line (10 ∷ after)),
)

pub chunk_from_end : (limit n : ℕ) (t : Text) → 0 < length t → IsChunkEnd limit t n
    → IsChunk limit (take n t) (drop n t)
chunk_from_end limit n t h (inl near) = inr (inl (record {
  lines = take near.place t;
  ends_line = rw near.after (to_feed t near.place (omega (arith, near.after, near.inside)) near.feed);
  fits = rw length-take (omega (arith, near.near));
  is_longest = λ line after q.
      let f = feed_place t line after n q in
      elim (cases_lt (n + length line) limit) [
        | inl l ↦ omega arith
        | inr l ↦ rw (length-append, length-append, length-take) (omega (arith, near.inside, f.1))
      ];
}))
chunk_from_end limit n t h (inr (inl far)) = inr (inr (record {
  line = take far.place t;
  is_line = λ k d l i.
      let m : k < far.place = omega (arith, length-take far.place t) in
      far.none k m (to_zero t k d (omega (arith, far.after, far.inside)) (sym (get_or-take far.place t k d m) ∙ i));
  ends_line = rw far.after (to_feed t far.place (omega (arith, far.after, far.inside)) far.feed);
  is_long = rw length-take (omega (arith, far.far, far.inside));
}))
chunk_from_end limit n t h (inr (inr text)) = inl (record {
  is_there = rw length-take (omega (arith, text.whole));
  is_line = λ k d l i.
      let m : k < n = omega (arith, length-take n t) in let j : k < length t = omega (arith, text.whole) in
      text.none k j (to_zero t k d j (sym (get_or-take n t k d m) ∙ i));
  is_last = drop_all n t (omega (arith, text.whole));
})

pub boundary_from_end : (limit n : ℕ) (t : Text) → IsUtf8 t → IsChunkEnd limit t n → IsCharBoundary t n
boundary_from_end limit n t u (inl near) = grind (arith, boundary_after_feed)
boundary_from_end limit n t u (inr (inl far)) = grind (arith, boundary_after_feed)
boundary_from_end limit n t u (inr (inr text)) = rw text.whole (IsCharBoundary-end t)

no_feed : (t : Text) (n : ℕ) → IsFirstByte (is_byte 10) (take n t) None → (k : ℕ) → k < n
    → k < length t → get_or t k 0 ≢ 10
no_feed t n h k l m e = grind (arith, length-take, get_or-take)

pub ends_far : (limit near next : ℕ) (t : Text) → near ≡ min limit (length t)
    → IsFirstByte (is_byte 10) (take near t) None
    → IsFirstByte (is_byte 10) (drop near t) (Some next) → EndsFar limit t (near + next + 1)
ends_far limit near next t e h b = record {
  place = near + next;
  after = refl;
  far = omega (arith, b.0.high, length-drop near t);
  inside = omega (arith, b.0.high, length-drop near t);
  feed = sym (get_or-drop near t next 0) ∙ eqb-true (get_or (drop near t) next 0) 10 b.1;
  none = λ k l i. elim (cases_lt k near) [
    | inl m ↦ no_feed t near h k m (omega arith) i
    | inr m ↦ b.0.before (k - near) (omega arith) (omega arith)
        (ap (λ c. c == 10) (get_or-drop near t (k - near) 0 ∙ ap (λ x. get_or t x 0) (omega arith) ∙ i))
  ];
}

pub ends_text : (near : ℕ) (t : Text) → IsFirstByte (is_byte 10) (take near t) None
    → IsFirstByte (is_byte 10) (drop near t) None → EndsText t (length t)
ends_text near t h b = record {
  whole = refl;
  none = λ k l i. elim (cases_lt k near) [
    | inl m ↦ no_feed t near h k m l i
    | inr m ↦ b (k - near) (omega arith) (omega (arith, length-drop near t))
        (ap (λ c. c == 10) (get_or-drop near t (k - near) 0 ∙ ap (λ x. get_or t x 0) (omega arith) ∙ i))
  ];
}

pub visits_more : {F : Type 0} (step : F → Bor Text → F → Type 0) (limit : ℕ) (t : Text) (chunk : Bor Text)
    (rest : Text) (f g last : F)
    → t ≡ chunk.now ++ rest → IsChunk limit chunk.now rest → step f chunk g
    → VisitsChunks step limit rest g last → VisitsChunks step limit t f last
visits_more step limit t chunk rest f g last e h s v = record {
  chunks = chunk ∷ v.chunks;
  are_chunks = (rest, e, h, v.are_chunks);
  calls = (g, s, v.calls);
}

pub visits_none : {F : Type 0} (step : F → Bor Text → F → Type 0) (limit : ℕ) (t : Text) (f : F) → length t ≡ 0
    → VisitsChunks step limit t f f
visits_none step limit t f h = grind (arith, nil_from_length)
