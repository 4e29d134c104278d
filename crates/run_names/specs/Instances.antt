-- The order of tests.
use Rattle.std.specs.Ordering.{nat_cmp, on, then_cmp}
use Rattle.{std.specs.declared.cmp.Ordering.Ordering, std.specs.Cmp.Lexicographic.slice_cmp}
use Rattle.{run_names.specs.declared.name.TestInstanceId.TestInstanceId}

-- by the bytes of the binary's id, then by those of the test's name
abbrev pub instance_cmp : TestInstanceId → TestInstanceId → Ordering
instance_cmp = then_cmp (on (λ i. i.binary_id.now) (slice_cmp nat_cmp)) (on (λ i. i.test_name.now) (slice_cmp nat_cmp))
