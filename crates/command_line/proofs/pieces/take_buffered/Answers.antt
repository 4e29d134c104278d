use Rattle.std.proofs.Common.{◌+◌, ◌==◌, drop, length, ap, arith, rules}
use Rattle.{std.specs.Io.Buffered.reader_buffer, std.specs.Io.Buffered.reader_capacity}
use Rattle.command_line.proofs.lemmas.Pieces.{buffered_first, lacks-append, lines_taken, part_taken}
use Rattle.command_line.proofs.pieces.take_buffered.Goals as goal

pub returns-in_ok-extend_from_slice-in-Some : goal.returns-in_ok-extend_from_slice-in-Some
returns-in_ok-extend_from_slice-in-Some g c = λ text known.
    let left = buffered_first (reader_capacity c.args.reader.now == 0) (reader_buffer c.args.reader.now)
    (g.R.Read.remaining c.args.reader.now.inner) text known in
    let bytes = rw known at c.consume.ensures.bytes in
    let feed = rw (c.buffer-buffered.ensures, c.in-Some.is) at c.end_of_lines.ensures.feed in
    let taken = lines_taken c.in-Some.at c.args.piece.now.items (reader_buffer c.args.reader.now) text left feed in (
      drop (c.in-Some.at + 1) text,
      bytes (omega (arith, feed.0)),
      rw
          (c.in_ok-extend_from_slice-in-Some.ensures.items, c.buffer-buffered.ensures) taken,
    )

pub slice_bounds-extend_from_slice-end : goal.slice_bounds-extend_from_slice-end
slice_bounds-extend_from_slice-end g c =
    let within = (rw c.in-Some.is at c.end_of_lines.ensures.feed).0 in
    search rules

pub overflow_add-at : goal.overflow_add-at
overflow_add-at g c =
    let within = (rw c.in-Some.is at c.end_of_lines.ensures.feed).0 in
    search rules

pub returns-in_ok-extend_from_slice-in-None-2 : goal.returns-in_ok-extend_from_slice-in-None-2
returns-in_ok-extend_from_slice-in-None-2 g c = λ text known.
    let left = buffered_first (reader_capacity c.args.reader.now == 0) (reader_buffer c.args.reader.now)
    (g.R.Read.remaining c.args.reader.now.inner) text known in
    let bytes = rw known at c.consume-in-None-2.ensures.bytes in
    let none = rw (c.buffer-buffered.ensures, c.in-None.is) at c.end_of_lines.ensures.feed in
    let size = ap length c.buffer-buffered.ensures in
    rw (c.in_ok-extend_from_slice-in-None-2.ensures.items, c.buffer-buffered.ensures) (
      drop (length c.buffer-buffered.result.now) text,
      bytes (omega (arith, size)),
      part_taken _ c.args.piece.now.items (reader_buffer c.args.reader.now) text left size,
      λ lacks. lacks-append 10 _ _ lacks none,
    )
