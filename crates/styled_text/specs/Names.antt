-- The names that the crates above import in one line. A new one is added to the line of its module.
pub use Rattle.std.specs.{BTreeMap.insert_entry, Bool.MatchBool, Bool.OnTrue, Borrow.Bor, Char.is_ascii_alphanumeric}
pub use Rattle.std.specs.{FinMap.nat_cmp-IsAntisymmetric, FinMap.slice_cmp-IsAntisymmetric}
pub use Rattle.std.specs.{Int.cast_unsigned, Int.w32, Int.NonZero.non_zero_u32_get, Io.KnownBytes.Appends}
pub use Rattle.std.specs.{Io.KnownBytes.append_known, Iterator.YieldsFirstBy, Iterator.item_count}
pub use Rattle.std.specs.{Iterator.Adapters.rev_source, Str.Iter.chars_rest}
pub use Rattle.std.specs.Cmp.{IsStrictWeakOrder, IsTotalOrder, eq_by_cmp_equiv, nat_cmp_total, on_total}
pub use Rattle.std.specs.Cmp.{partial_equiv_from_equiv, partial_order_from_total, then_total}
pub use Rattle.std.specs.Cmp.Lexicographic.{lists_total, nat_list_cmp_total, slice_cmp}
pub use Rattle.std.specs.Fmt.{DisplaysOnOk, DisplaysStyledOnOk, HasWritten, IsPlainFormatter, WritesInCalls, WritesText}
pub use Rattle.std.specs.Fmt.{decimal, digit_glyph, digits_onto, signed_decimal}
unfoldable pub use Rattle.std.specs.{Fmt.digits, Str.chars, Str.is_utf8}
pub use Rattle.std.specs.List.{All, AllByRecursion, AllZip, FoldsTo, concat, flat_map, join_by, join_with_byte}
pub use Rattle.std.specs.List.{list_all, list_any, onto_first, position, position_or_len, prefix_len, repeat, slice_get}
pub use Rattle.std.specs.List.{starts_with}
pub use Rattle.std.specs.List.Sorted.{IsSorted, IsStable, IsStableBy, ties}
pub use Rattle.std.specs.Option.{is_some, option_and_then, option_map, option_map_or, option_or, option_to_list}
pub use Rattle.std.specs.Ordering.{as_partial_cmp, eq_by_cmp, int_eq, is_lt, nat_cmp, on, ordering_reverse}
pub use Rattle.std.specs.Ordering.{ordering_then, then_cmp}
pub use Rattle.std.specs.Result.{IsErrAnd, IsErrOf, IsOk, OnOk, result_map_both}
pub use Rattle.std.specs.Simd.Lanes.{Each1, mask_l, top, zip2}
pub use Rattle.std.specs.Str.{IsAscii, IsCharBoundary, IsUtf8, all_scalars, chars_after, continuation_len, lead_bits}
pub use Rattle.std.specs.declared.{cmp.Ordering.Ordering, cmp.Reverse.Reverse, fmt.Error.Error, fmt.Formatter.Formatter}
pub use Rattle.std.specs.declared.{io.ErrorKind.ErrorKind, num.NonZeroU32.NonZeroU32}
pub use Rattle.styled_text.specs.ChunkEnds.{EndsFar, EndsText, IsChunkEnd}
pub use Rattle.styled_text.specs.{Chunks.IsChunk, Chunks.VisitsChunks, EqualButEndSpaces.IsEqualButEndSpaces}
pub use Rattle.styled_text.specs.{EqualButEndSpaces.ends_line}
pub use Rattle.styled_text.specs.{Escapes.PieceText.SequenceText, Escapes.PieceText.StretchText, GatheredPieces.Carries}
pub use Rattle.styled_text.specs.{GatheredPieces.unwritten, Piece.piece_text, Texts.Text, Texts.spaces}
pub use Rattle.styled_text.specs.TrailingNewline.{held}
pub use Rattle.styled_text.specs.ColumnCounter.{CounterAccepts, columns_counted, counter_meaning, saturated}
unfoldable pub use Rattle.styled_text.specs.{ColumnCounter.columns_from, EqualButEndSpaces.without_end_spaces}
unfoldable pub use Rattle.styled_text.specs.{Fitted.kept_from, Fitted.scan_after, Highlights.highlight_end}
unfoldable pub use Rattle.styled_text.specs.{Indent.after, Indent.indent, Lines.whole_lines, Numbers.seconds}
unfoldable pub use Rattle.styled_text.specs.{Numbers.with_point, Scanner.modes_after, Style.plain, Style.styled}
unfoldable pub use Rattle.styled_text.specs.{Texts.right_in}
unfoldable pub use Rattle.styled_text.specs.TrailingNewline.{ends_in_line_feed, without_trailing_newline}
pub use Rattle.styled_text.specs.Escapes.{HasNoEscape, PieceText, csi_end_len, csi_len, front_len, has_no_escape}
pub use Rattle.styled_text.specs.Escapes.{is_control, is_intermediate, is_parameter, is_visible, is_within, joined}
pub use Rattle.styled_text.specs.Escapes.{one_len, osc_len, pieces, short_len, stretches, then_len, visible}
unfoldable pub use Rattle.styled_text.specs.Escapes.{pieces_after, sequence_len, visible_after}
pub use Rattle.styled_text.specs.Fitted.{PutsChar, fitted_meaning, fitted_text, is_char_kept}
pub use Rattle.styled_text.specs.FittedLaws.{fitted_text-nil}
pub use Rattle.styled_text.specs.Fitted.{is_char_kept_by, kept_char, moved, moved_by, next_place}
pub use Rattle.styled_text.specs.FittedLaws.{stops_kept}
pub use Rattle.styled_text.specs.Fitting.{AreClosed, ArePainted, FitsWidth, IsClosed, IsPainted, columns, columns_of}
pub use Rattle.styled_text.specs.Fitting.{fit_pieces, kept_chars, part_sequences, sequences, shrunk, shrunk_parts}
pub use Rattle.styled_text.specs.Fitting.{stretch_columns}
unfoldable pub use Rattle.styled_text.specs.Fitting.{char_columns, fit, kept_stretch}
pub use Rattle.styled_text.specs.Indent.{IndentsInPieces, indented_line, indented_lines, margin}
pub use Rattle.styled_text.specs.Indentation.{IndentedAccepts, IndentedStops, IndentedTakes, IndentsByBytes, PutsMargin}
pub use Rattle.styled_text.specs.Indentation.{TakesMargin, after_onward}
pub use Rattle.styled_text.specs.IndentationLaws.{after-append, after-none, after-onward}
pub use Rattle.styled_text.specs.Indentation.{indent_onward}
pub use Rattle.styled_text.specs.IndentationLaws.{indent-append, indent-none, indent-onward, indented_laws}
pub use Rattle.styled_text.specs.Indentation.{indented_meaning}
pub use Rattle.styled_text.specs.Lines.{IsOneLine, lines, onto_first_line}
pub use Rattle.styled_text.specs.Numbers.{digit_column, last_digits, rounded}
pub use Rattle.styled_text.specs.Scanner.{StepCounts, advanced, begun, final_step_of, is_before_backslash, mode_after}
pub use Rattle.styled_text.specs.Scanner.{mode_after_step, rest_len, short_step_of, step_of}
pub use Rattle.styled_text.specs.Style.{list_styles_of, reset_color, style_prefix, style_suffix, styles_of}
pub use Rattle.styled_text.specs.declared.escapes.{Mode.Mode, State.State, Step.Step}
pub use Rattle.styled_text.specs.declared.fitting.{column_counter.ColumnCounter.ColumnCounter, fitted.Fitted.Fitted}
pub use Rattle.styled_text.specs.declared.fitting.{scan_state.ScanState.ScanState}
pub use Rattle.styled_text.specs.declared.indenter.indentation.Indented.{Indented}
pub use Rattle.styled_text.specs.declared.style.{ListStyles.ListStyles, Style.Style, Styles.Styles}
pub use Rattle.writers.specs.OnFormatterLaws.{concat_append, folds_append, written_twice}
pub use Rattle.writers.specs.TextBuffer.{BufferAccepts, BufferStops, GrowsWithin, Holds}
pub use Rattle.writers.specs.TextBufferLaws.{buffer_laws}
pub use Rattle.writers.specs.Writer.{AppendsFront, Meaning, Owes, Puts, WriterLaws, successor}
pub use Rattle.writers.specs.declared.write_str.{WriteFault.WriteFault, text_buffer.TextBuffer.TextBuffer}
