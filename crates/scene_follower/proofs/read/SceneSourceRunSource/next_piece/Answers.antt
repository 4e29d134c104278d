use Rattle.std.proofs.Common.{[], ◌∷◌, ◌++◌, ◌≡◌, ◌==◌, ℕ, List, ap, arith, length, length-append, sym, ◌∙◌, not, true}
use Rattle.scene_follower.proofs.Common.{false≢true, reader_remaining}
use Rattle.scene_follower.proofs.lemmas.ReadLines.{ended_read, last_read, source_ended, source_has}
use Rattle.scene_follower.proofs.read.SceneSourceRunSource.next_piece.Goals as goal

pub returns-then-self-clause-piece : goal.returns-then-self-clause-piece
returns-then-self-clause-piece g c = λ total before lines left. source_ended
    (reader_remaining g.R.Read.remaining c.args.self.now.reader) c.args.self.now.is_ended [] lines c.if-self.true left

pub returns-then-is_before_feed-clause-piece : goal.returns-then-is_before_feed-clause-piece
returns-then-is_before_feed-clause-piece g c = λ total before lines left.
    source_has (reader_remaining g.R.Read.remaining c.next_piece.new.reader) c.args.self.now.is_ended
    c.next_piece.new.piece.items lines (λ is. absurd (false≢true (sym c.if-self.false ∙ is))) true
    (ended_read (reader_remaining g.R.Read.remaining c.args.self.now.reader)
    (reader_remaining g.R.Read.remaining c.next_piece.new.reader) c.next_piece.new.piece.items lines left.0
    (rw c.if-is_before_feed.true at c.in_ok-is_before_feed.ensures.piece))

pub returns-clause-piece : goal.returns-clause-piece
returns-clause-piece g c = λ total before lines left.
    let next = rw c.if-is_before_feed.false at c.in_ok-is_before_feed.ensures.piece in
    source_has (reader_remaining g.R.Read.remaining c.next_piece.new.reader) true c.next_piece.new.piece.items lines
    (λ is. (next left.0.2.0 left.0.2.1).2) (not c.is_empty.result)
    (last_read (reader_remaining g.R.Read.remaining c.args.self.now.reader)
    (reader_remaining g.R.Read.remaining c.next_piece.new.reader) c.next_piece.new.piece.items lines left.0
    c.is_empty.result (c.is_empty.ensures ∙ ap (λ n. n == 0) c.next_piece.new.piece.ok.0) next)

-- a text is not all of a longer one
longer : (t more : List ℕ) → t ≡ t ++ 10 ∷ more → ⊥
longer t more is = let size = ap length is ∙ length-append t (10 ∷ more) in omega (arith, size)

pub returns-then-is_before_feed-clause-last_line : goal.returns-then-is_before_feed-clause-last_line
returns-then-is_before_feed-clause-last_line g c = λ text known whole.
    let next = (rw c.if-is_before_feed.true at c.in_ok-is_before_feed.ensures.piece) text known in
    absurd (longer c.next_piece.new.piece.items next.0 (sym whole ∙ next.2))
