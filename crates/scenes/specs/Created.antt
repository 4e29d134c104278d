-- When the device of the records is created.
use Rattle.std.specs.Prelude.{◌≡◌, ℕ, List, Option, Some}
use Rattle.std.specs.Borrow.{Bor}
use Rattle.command_line.specs.declared.args.{Options.Options, StoreOptions.StoreOptions}
use Rattle.scene_follower.specs.ParsedScenes.{OfText}
use Rattle.scenes.specs.Judged.{IsRunAccepted}

-- It may be created for the path of the options, once the text that a reader has is accepted, if it is known.
abbrev pub MayCreate : (Bor (List ℕ) → Type 0) → Options → Option (List ℕ) → Type 0
MayCreate may_be_called options remaining = (store : StoreOptions)
    → ((text : List ℕ) → remaining ≡ Some text → OfText text (IsRunAccepted options))
    → options.store ≡ Some store → may_be_called store.file
