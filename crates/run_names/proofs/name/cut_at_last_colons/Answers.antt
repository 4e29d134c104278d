use Rattle.run_names.proofs.lemmas.LastColons.{split_found, split_missed}
use Rattle.run_names.proofs.name.cut_at_last_colons.Goals as goal

pub returns-in-Some : goal.returns-in-Some
returns-in-Some c = let parts = split_found c.args.text.now c.in-Some.module_path.now c.in-Some.name.now
    c.in-Some.ensures.cases in record {
      path = parts.0;
      name = parts.1;
    }

pub returns-in-None : goal.returns-in-None
returns-in-None c = let parts = split_missed c.args.text.now c.in-None.ensures.cases in record {
  path = parts.0;
  name = parts.1;
}
