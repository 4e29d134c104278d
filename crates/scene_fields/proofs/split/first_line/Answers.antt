use Rattle.{std.proofs.Common.◌+◌, scene_fields.proofs.lemmas.Cuts.rest_is}
use Rattle.{scene_fields.proofs.lemmas.Cuts.split_on-first, scene_fields.proofs.lemmas.Cuts.split_on-none}
use Rattle.scene_fields.proofs.split.first_line.Goals as goal

pub returns-in-None-clause-lines : goal.returns-in-None-clause-lines
returns-in-None-clause-lines c = split_on-none 10 c.args.text.now c.in-None.ensures

pub returns-in-Some-clause-lines : goal.returns-in-Some-clause-lines
returns-in-Some-clause-lines c = rw (rest_is c.args.text.now (c.in-Some.at + 1))
    (split_on-first 10 c.args.text.now c.in-Some.at c.in-Some.ensures.0 c.in-Some.ensures.1)
