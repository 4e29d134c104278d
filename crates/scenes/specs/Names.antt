-- The names that the crates above import in one line. A new one is added to the line of its module.
pub use Rattle.scenes.specs.Judged.{AreRefusedLines, IsFaultOfLines, IsRefusal, IsRefusedText, IsRejected}
pub use Rattle.scenes.specs.Judged.{IsFaultOfText, IsNotCreated, IsRunAccepted, IsRunRefused, JudgesCall}
pub use Rattle.scenes.specs.Judged.{OfStore, SceneFails}
pub use Rattle.scenes.specs.Gathered.{HoldsFault, GathersCall}
