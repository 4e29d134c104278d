-- What must hold no escape character, so that the texts made from it hold none.
use Rattle.std.specs.Prelude.{Option, None, Some}
use Rattle.styled_text.specs.Names.{AllByRecursion, HasNoEscape}
use Rattle.run_names.specs.{ErrorChains.MessageAndCauses, declared.abort.AbortDescription.AbortDescription}
use Rattle.run_names.specs.{declared.name.TestInstanceId.TestInstanceId}
use Rattle.run_names.specs.declared.abort.AbortDescription.TheVariants.{UnixSignal, WindowsNtStatus, WindowsJobObject}

-- what holds of a value, if there is one
abbrev pub HoldsIf : {X : Type 0} → (X → Type 0) → Option X → Type 0
HoldsIf p None = Unit {0}
HoldsIf p (Some x) = p x

-- the name of a signal and the message of a status hold no escape character
abbrev pub IsPlainAbort : AbortDescription → Type 0
IsPlainAbort (UnixSignal signal name) = HoldsIf HasNoEscape name
IsPlainAbort (WindowsNtStatus code message) = HoldsIf HasNoEscape message
IsPlainAbort WindowsJobObject = Unit {0}

-- a test's names hold no escape character
abbrev pub IsPlainInstance : TestInstanceId → Type 0
IsPlainInstance i = HasNoEscape i.binary_id.now × HasNoEscape i.test_name.now

-- an error's message and those of its causes hold no escape character
abbrev pub IsPlainChain : MessageAndCauses → Type 0
IsPlainChain chain = HasNoEscape chain.message × AllByRecursion HasNoEscape chain.causes
