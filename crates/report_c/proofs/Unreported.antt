-- The fault that the program reports for a text: a wrong line, or refused memory (for `report_of`).
use Rattle.std.proofs.Common.{ℕ, List}
use Rattle.report_c.specs.Reported.{IsUnreported}
use Rattle.scene_follower.specs.Names.{Fault, IsJudgeFault, Options}
use Rattle.scenes.specs.Names.{IsFaultOfText}
use Rattle.command_line.specs.declared.fault.Fault.TheVariants as fault

pub unreported : (options : Options) (text : List ℕ) (f : Fault)
    → IsFaultOfText options text f × IsJudgeFault options.file.now f → IsUnreported options text f
unreported options text fault.Usage h = tt
unreported options text (fault.CannotRead file) h = tt
unreported options text (fault.CannotWrite file) h = tt
unreported options text (fault.Line n f) h = h.0
unreported options text fault.WriteFailed h = tt
unreported options text fault.StoreFailed h = tt
unreported options text fault.OutOfMemory h = tt
