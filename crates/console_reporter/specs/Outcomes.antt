-- How a call of a reporter ends.
use Rattle.std.specs.Prelude.{◌≡◌, ◌++◌, ◌⊎◌, Option, None, Result, Ok, Err}
use Rattle.styled_text.specs.Names.{Text, Meaning, WriteFault}
use Rattle.{reporter_state.specs.Refusals.refusal_in}
use Rattle.{reporter_state.specs.declared.faults.WriteEventError.WriteEventError}
use Rattle.writers.specs.declared.write_str.WriteFault.TheVariants.{Device, Memory as RefusedMemory}
use Rattle.reporter_state.specs.declared.faults.WriteEventError.TheVariants.{RetriedSuccess, OutputNotLoaded, Io}
use Rattle.reporter_state.specs.declared.faults.WriteEventError.TheVariants.{Memory, Failed, StoreIo}

-- a prefix of the text was accepted
pub record HasFront {S : Type 0} (m : Meaning S) (old : S) (text : Text) (new : S) : Type 0 where
  pub front : Text
  pub rest : Text
  pub whole : text ≡ front ++ rest
  pub accepted : m.accepts old front new

-- the writer of a reporter: the report goes to its first writer, and the records to its store
pub data Side : Type 0 where
  Report : Side
  Records : Side

-- The error stopped the text of a side, after a prefix of it was accepted between old and new. A device stops its own
-- side; memory stops either side, or the reporter itself. A refusal changes neither side, a fault of the first writer
-- does not change the store, and a fault of the store comes after the whole text of the report.
abbrev pub Stops : {S : Type 0} → Side → Meaning S → S → Text → WriteEventError → S → Type 0
Stops side m old text RetriedSuccess new = new ≡ old
Stops side m old text OutputNotLoaded new = new ≡ old
Stops side m old text Memory new = m.stops old text RefusedMemory new ⊎ HasFront m old text new
Stops side m old text Failed new = ⊥
Stops Report m old text Io new = m.stops old text Device new
Stops Report m old text StoreIo new = m.accepts old text new
Stops Records m old text Io new = new ≡ old
Stops Records m old text StoreIo new = m.stops old text Device new

-- the refusal that a call returned
abbrev pub answered_refusal : Result (Unit {0}) WriteEventError → Option WriteEventError
answered_refusal (Ok done) = None
answered_refusal (Err e) = refusal_in e

-- a fault of a side as the caller sees it
abbrev pub error_for : Side → WriteFault → WriteEventError
error_for Report Device = Io
error_for Records Device = StoreIo
error_for side RefusedMemory = Memory

-- a fault of the first writer, or of the reporter itself
abbrev pub IsOfConsole : WriteEventError → Type 0
IsOfConsole RetriedSuccess = ⊥
IsOfConsole OutputNotLoaded = ⊥
IsOfConsole Io = Unit {0}
IsOfConsole Memory = Unit {0}
IsOfConsole Failed = ⊥
IsOfConsole StoreIo = ⊥
