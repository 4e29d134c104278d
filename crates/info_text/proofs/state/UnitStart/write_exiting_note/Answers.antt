use Rattle.info_text.specs.State.{exiting_note, leak_note, note_start, process_of}

pub returns : Rattle.info_text.proofs.state.UnitStart.write_exiting_note.Goals.returns
unfolding exiting_note leak_note note_start process_of
returns g c = rw c.word.ensures at c.write_to.ensures
