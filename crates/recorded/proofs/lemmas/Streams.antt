-- When bytes that were read are the stream that a reference names.
use Rattle.std.proofs.Common.{◌≡◌, ◌≢◌, ℕ, ◌<◌, ◌≤◌, ◌↔◌, IsTrue, List, length, Bool, true, false, Option}
use Rattle.std.proofs.Common.{None, Some, IfSome, Result, Ok, Err, arith}
use Rattle.{std.specs.Result.IsErrAnd, recorded.specs.declared.outputs.LoadFault.TheVariants.OutOfMemory}
use Rattle.{std.proofs.lemmas.Bool.Decides.nat_tests, std.proofs.lemmas.Slice.Eq.bytes_eq-Decides}
use Rattle.scene_reader.specs.Names.{Reference, end_of, sum_of}
use Rattle.recorded.specs.Names.{IsLoaded, bytes_at, stream_at, LoadFault, HasRead}

-- known bytes that do not hold a reference
pub not_there : (known : Option (List ℕ)) (r : Reference) (holds : Bool) → holds ≡ false
    → IfSome known (λ all. IsTrue holds ↔ (end_of r ≤ length all))
    → IfSome known (λ all. (length all < end_of r) × (stream_at all r ≡ None))
unfolding stream_at
not_there None r holds is h = tt
not_there (Some all) r holds is h = grind (arith, h, nat_tests)

-- bytes that were read at the place of a reference are those at its place
bytes_read : (all : List ℕ) (r : Reference) (bytes : List ℕ) → HasRead r.offset bytes all → length bytes ≡ r.len
    → bytes_at all r ≡ bytes
bytes_read all r bytes read len = cc

-- if they have its sum, they are the stream
pub same_read : (known : Option (List ℕ)) (r : Reference) (holds : Bool) (bytes : List ℕ) → holds ≡ true
    → IfSome known (λ all. IsTrue holds ↔ (end_of r ≤ length all)) → IfSome known (HasRead r.offset bytes)
    → length bytes ≡ r.len → sum_of bytes ≡ r.sum → IfSome known (λ all. stream_at all r ≡ Some bytes)
unfolding stream_at
same_read None r holds bytes is there read len same = tt
same_read (Some all) r holds bytes is there read len same = search (arith, bytes_read, bytes_eq-Decides)

-- if they have another sum, there is no stream
pub other_read : (known : Option (List ℕ)) (r : Reference) (holds : Bool) (bytes : List ℕ) → holds ≡ true
    → IfSome known (λ all. IsTrue holds ↔ (end_of r ≤ length all)) → IfSome known (HasRead r.offset bytes)
    → length bytes ≡ r.len → sum_of bytes ≢ r.sum
    → IfSome known (λ all. (end_of r ≤ length all) × (stream_at all r ≡ None))
unfolding stream_at
other_read None r holds bytes is there read len other = tt
other_read (Some all) r holds bytes is there read len other = search (arith, bytes_read, bytes_eq-Decides)

ends_within : (all : List ℕ) (r : Reference) (bytes : List ℕ) → stream_at all r ≡ Some bytes → end_of r ≤ length all
unfolding stream_at
ends_within all r bytes is = grind (arith, nat_tests)

-- loaded bytes were all there, even if memory is then refused for their output
pub refused : (known : Option (List ℕ)) (r : Reference) (bytes : List ℕ) (result : Result (List ℕ) LoadFault)
    → IsErrAnd result (λ fault. fault ≡ OutOfMemory) → IfSome known (λ all. IsLoaded all r (Ok bytes))
    → IfSome known (λ all. IsLoaded all r result)
refused None r bytes result is loaded = tt
refused (Some all) r bytes (Ok output) is loaded = absurd is
refused (Some all) r bytes (Err fault) is loaded = rw is (ends_within all r bytes loaded)
