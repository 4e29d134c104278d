use Rattle.recorded.proofs.lemmas.Streams.{refused}

pub returns-in_err-new-clause-loaded :
    Rattle.recorded.proofs.outputs.RecordedOutputs.load_single.Goals.returns-in_err-new-clause-loaded
returns-in_err-new-clause-loaded g c = refused _ _ _ _ c.from_residual-in_err-new.ensures.1 c.in_ok-bytes.ensures.loaded
