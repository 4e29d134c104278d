use Rattle.scene_follower.specs.Sources.{AreLeftIn}
use Rattle.scenes.proofs.lemmas.Kept.{next_kept}
use Rattle.scenes.proofs.keeping.KeepingSourceRunSource.next_piece.Goals as goal

pub returns-clause-piece : goal.returns-clause-piece
returns-clause-piece g c = λ total before lines left.
    next_kept (AreLeftIn g.R.Read.remaining c.next_piece.new.self) c.args.self.now.kept.items c.keep.new.kept.items
    c.next_piece.new.piece.items before lines c.in_ok-is_more.is_more
    (c.in_ok-is_more.ensures.piece total before lines left.0) left.1
    (rw c.as_slice.ensures.value at c.in_ok-keep.ensures.more) c.in_ok-keep.ensures.none
