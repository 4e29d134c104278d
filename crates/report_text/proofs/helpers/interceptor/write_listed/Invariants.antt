use Rattle.{std.proofs.Common.drop, styled_text.specs.Names.flat_map, styled_text.specs.Names.Owes}
use Rattle.{report_text.specs.Interceptor.listed_test}

-- the remaining tests are owed
abbrev pub invariant-loop-test_instance :
    Rattle.report_text.proofs.helpers.interceptor.write_listed.Given.invariant-loop-test_instance
invariant-loop-test_instance g l = Owes g.W.WriteStr.meaning l.fn.w
    (flat_map (listed_test l.list_styles) l.test_instances) l.w
    (flat_map (listed_test l.list_styles) (drop l.test_instance-index l.test_instances))
