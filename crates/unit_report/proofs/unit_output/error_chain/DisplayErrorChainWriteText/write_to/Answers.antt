use Rattle.{writers.proofs.lemmas.When.when_not, writers.specs.Texts.plain}
use Rattle.unit_report.specs.ErrorChain.{causes_text, error_chain_text}

pub returns : Rattle.unit_report.proofs.unit_output.error_chain.DisplayErrorChainWriteText.write_to.Goals.returns
unfolding error_chain_text causes_text plain
returns g c =
    rw (← c.message.ensures, ← c.causes-causes.ensures, ← c.is_empty.ensures, ← when_not c.is_empty.result _)
    c.write_to.ensures
