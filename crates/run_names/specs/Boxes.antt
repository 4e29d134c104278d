-- A value on the heap, which can be changed there.
use Rattle.{std.specs.Borrow.Lends, std.specs.Borrow.MutBor, std.specs.Borrow.Fml}
use Rattle.{run_names.specs.contracts.boxed.Boxed.the_row}
use denote.RattleType.{RattleType}

-- once the reference ends, the box holds what was last written through it
abbrev pub LendsValue : (T : RattleType) → MutBor T.Denot → MutBor T.Denot → Fml
LendsValue T boxed reference = Lends (the_row T) T boxed reference (λ value. value)
