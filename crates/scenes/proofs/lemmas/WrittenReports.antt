-- The report of a scene that was read is the report of its text (for `write_scene`).
use Rattle.std.proofs.Common.{◌≡◌, ◌⊎◌, ℕ, List, Option, Ok, Err, sym, ◌∙◌, inl, inr}
use Rattle.command_line.specs.declared.fault.Fault.TheVariants.{CannotRead, CannotWrite, Line, OutOfMemory}
use Rattle.scene_reader.specs.Names.{ParsedLines}
use Rattle.scene_follower.specs.Names.{Fault, OfText, Options}
use Rattle.scenes.specs.Judged.{fault_in_memory, IsFaultOfText, IsRefusedText}

module _ (options : Options) (text : List ℕ) (P : ParsedLines → Type 0) (read : OfText text P) where
  -- no line of it is wrong
  pub refused_scene : (fault : Fault) → IsFaultOfText options text fault
      → IsRefusedText options text (fault_in_memory fault)
  refused_scene (CannotRead file) h = record { run = read.run; spelled = read.spelled; refused = tt }
  refused_scene OutOfMemory h = record { run = read.run; spelled = read.spelled; refused = tt }
  refused_scene (Line n f) (inl wrong) = absurd (let clash : Ok read.run ≡ Err (n, f) = sym read.spelled ∙ wrong in cc)
  refused_scene (Line n f) (inr refused) = refused
  refused_scene (CannotWrite file) (inl h) = absurd h
  refused_scene (CannotWrite file) (inr h) = absurd h.refused
  refused_scene other (inl h) = absurd h
  refused_scene other (inr h) = absurd h.refused

-- what is true of devices that are not returned
module _ {W S : Type 0} (held : W → Option (List ℕ)) (stored : S → Option (List ℕ)) (text : List ℕ) (new : W × S)
    (P : Option (List ℕ) → Option (List ℕ) → ParsedLines → Type 0) where
  pub at_last : OfText text (P (held new.0) (stored new.1))
      → OfText text (λ run. (last : W) × (store_last : S) × P (held last) (stored store_last) run)
  at_last h = record { run = h.run; spelled = h.spelled; holds = (new.0, new.1, h.holds) }

  -- a refusal says that both devices are as they were
  pub stopped_at_last : {Refused Same StoreSame : Type 0}
      → (Refused × Same × StoreSame) ⊎ OfText text (P (held new.0) (stored new.1))
      → Refused ⊎ OfText text (λ run. (last : W) × (store_last : S) × P (held last) (stored store_last) run)
  stopped_at_last (inl refused) = inl refused.0
  stopped_at_last (inr begun) = inr (at_last begun)
