-- What is loaded from a file of outputs.
use Rattle.std.specs.Prelude.{◌≡◌, ℕ, ◌+◌, ◌-◌, ◌^◌, ◌≤◌, ◌<◌, ◌&&◌, ◌⊎◌, min, nat_le, bytes_eq, if◌then◌else◌, List}
use Rattle.std.specs.Prelude.{length, take, drop, Option, None, Some, Result, Ok, Err, ⊤}
use Rattle.scene_reader.specs.Names.{Reference, end_of, sum_of}
use Rattle.recorded.specs.declared.outputs.LoadFault.TheVariants.{CannotRead, PastEnd, WrongSum, OutOfMemory}
use Rattle.recorded.specs.declared.outputs.LoadFault.{LoadFault}

-- the bytes at the place of a reference, fewer if the file ends before
abbrev pub bytes_at : List ℕ → Reference → List ℕ
bytes_at all r = take r.len (drop r.offset all)

-- the stream that a reference names: its bytes, if they are all there and have its sum
unfoldable pub stream_at : List ℕ → Reference → Option (List ℕ)
stream_at all r = if nat_le (end_of r) (length all) && bytes_eq (sum_of (bytes_at all r)) r.sum then Some
    (bytes_at all r) else None

-- What is loaded is the stream that the reference names. Damaged bytes are no stream. Memory is requested only if all
-- bytes are there.
abbrev pub IsLoaded : List ℕ → Reference → Result (List ℕ) LoadFault → Type 0
IsLoaded all r (Ok bytes) = stream_at all r ≡ Some bytes
IsLoaded all r (Err (CannotRead kind)) = ⊤
IsLoaded all r (Err PastEnd) = (length all < end_of r) × (stream_at all r ≡ None)
IsLoaded all r (Err WrongSum) = (end_of r ≤ length all) × (stream_at all r ≡ None)
IsLoaded all r (Err OutOfMemory) = end_of r ≤ length all

-- these bytes are as many as the reference says, and have its sum
abbrev pub HasSum : Reference → List ℕ → Type 0
HasSum r bytes = (length bytes ≡ r.len) × (sum_of bytes ≡ r.sum)

-- a count with n more, which saturates
abbrev pub counted : ℕ → ℕ → ℕ
counted count more = min (count + more) (2 ^ 64 - 1)

-- the bytes of a reference are counted once they are read, whatever follows
abbrev pub IsCounted : ℕ → Reference → Result (List ℕ) LoadFault → ℕ → Type 0
IsCounted before r (Ok bytes) after = after ≡ counted before r.len
IsCounted before r (Err (CannotRead kind)) after = after ≡ before
IsCounted before r (Err PastEnd) after = after ≡ before
IsCounted before r (Err WrongSum) after = after ≡ counted before r.len
IsCounted before r (Err OutOfMemory) after = (after ≡ before) ⊎ (after ≡ counted before r.len)
