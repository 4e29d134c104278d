-- Output that is put into an event is gone once it is left unread, and nothing else has changed.
use Rattle.std.proofs.Common.{◌≡◌, ℕ, zero, suc, List, [], ◌∷◌, map, refl, arith}
use Rattle.run_model.specs.Names.{Attempt, Attempts, Written, attempt_with_output, execution_with_output, summary_of}
use Rattle.run_model.specs.Names.{unloaded_attempt, unloaded_attempts, unloaded_output, unloaded_script}
use Rattle.run_model.specs.{Loads.attempts_with, Loads.with_output_at}
use Rattle.run_model.specs.declared.status.{SetupScriptExecuteStatus.SetupScriptExecuteStatus}
use Rattle.scene_reader.specs.Names.{ChildOutputDescription, LiveSpec}
use Rattle.console_reporter.proofs.lemmas.Isolation.{unloaded-summary}

-- an attempt, and one of a setup script
pub unloaded-attempt : (a : Attempt) (captured : ChildOutputDescription)
    → unloaded_attempt (attempt_with_output a captured) ≡ unloaded_attempt a
unloaded-attempt a captured = grind arith

-- earlier attempts, of which one may be there, and all attempts of a test
pub unloaded-earlier : (attempts : List Attempt) (place : ℕ) (captured : ChildOutputDescription)
    → map unloaded_attempt (with_output_at place captured attempts) ≡ map unloaded_attempt attempts
unloaded-earlier [] place captured = refl
unloaded-earlier (x ∷ xs) zero captured = grind arith
unloaded-earlier (x ∷ xs) (suc place) captured = grind (arith, unloaded-earlier xs place captured)

pub unloaded-attempts : (place : ℕ) (captured : ChildOutputDescription) (a : Attempts LiveSpec ChildOutputDescription)
    → unloaded_attempts (attempts_with place captured a) ≡ unloaded_attempts a
unloaded-attempts place captured a = grind (arith, unloaded-attempt, unloaded-earlier)
