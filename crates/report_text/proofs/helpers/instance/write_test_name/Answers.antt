use Rattle.{std.proofs.Common.◌≡◌, std.proofs.Common.rules, styled_text.specs.declared.style.Style.TheVariants.Plain}
use Rattle.{report_text.proofs.lemmas.PlainNames.plain_name}

pub returns-then-eq-2 : Rattle.report_text.proofs.helpers.instance.write_test_name.Goals.returns-then-eq-2
returns-then-eq-2 g c =
    let path : c.args.styles.now.module_path ≡ Plain = search rules in
    let last : c.args.styles.now.test_name ≡ Plain = search rules in
    rw (plain_name c.args.styles.now c.args.name.now path last) (search rules)
