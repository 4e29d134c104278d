use Rattle.text_parts.proofs.lemmas.Finishes.{only_hidden-at_once, only_hidden-at_end, same-at_once, same-at_end}
use Rattle.text_parts.proofs.laws.reasons_only_hide.Goals as goal

pub returns-clause-at_once : goal.returns-clause-at_once
returns-clause-at_once c = only_hidden-at_once

pub returns-clause-at_end : goal.returns-clause-at_end
returns-clause-at_end c = only_hidden-at_end

pub returns-clause-same_at_once : goal.returns-clause-same_at_once
returns-clause-same_at_once c = same-at_once

pub returns-clause-same_at_end : goal.returns-clause-same_at_end
returns-clause-same_at_end c = same-at_end
