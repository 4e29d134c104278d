use Rattle.info_text.specs.State.{terminating_line, terminating_note, process_of, note_start}

pub returns : Rattle.info_text.proofs.state.UnitStart.write_terminating.Goals.returns
unfolding terminating_line terminating_note process_of note_start
returns g c = rw (c.word-word.ensures, c.as_str.ensures, c.signal_of.ensures) at c.write_to.ensures
