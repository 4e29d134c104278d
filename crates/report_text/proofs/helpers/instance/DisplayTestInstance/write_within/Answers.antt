use Rattle.{std.proofs.Common.rules, report_text.proofs.lemmas.NameWidths.name_columns}

pub write_within-requires :
    Rattle.report_text.proofs.helpers.instance.DisplayTestInstance.write_within.Goals.write_within-requires
write_within-requires g c = name_columns c.new-name.result.styles c.new-name.result.name.now (search rules)
