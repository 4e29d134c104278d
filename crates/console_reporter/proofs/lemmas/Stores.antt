-- A store that may be absent obeys the laws of writers (for `DisplayReporter::make_calls`, `run_report_with_store`).
use Rattle.std.proofs.Common.{arith}
use Rattle.std.proofs.Common.{◌≡◌, ℕ, List, [], ◌++◌, Option, None, Some, refl, ap, ◌∙◌, inl, inr}
use Rattle.styled_text.specs.Names.{Appends, AppendsFront, Meaning, WriterLaws, successor, WriteFault}
use Rattle.writers.specs.declared.write_str.WriteFault.TheVariants.{Device, Memory as RefusedMemory}
use Rattle.console_reporter.specs.Names.{Stops, Records, IsSameStore, config_of, store_accepts, store_adds}
use Rattle.console_reporter.specs.Names.{store_delivered, store_failures, store_known, store_may_refuse, store_meaning}
use Rattle.console_reporter.specs.Names.{store_stops, Store, WriteEventError}
use Rattle.reporter_state.specs.declared.faults.WriteEventError.TheVariants.{RetriedSuccess, OutputNotLoaded, Io}
use Rattle.reporter_state.specs.declared.faults.WriteEventError.TheVariants.{Memory, Failed, StoreIo}

pub same-store : {S : Type 0} (a : Option (Store S)) → IsSameStore a a
same-store None = tt
same-store (Some a) = (refl, refl)

pub config-same : {S : Type 0} (a b : Option (Store S)) → IsSameStore a b → config_of b ≡ config_of a
config-same None None h = refl
config-same None (Some b) h = absurd h
config-same (Some a) None h = absurd h
config-same (Some a) (Some b) h = ap Some h.1

module _ {S : Type 0} {m : Meaning S} (laws : WriterLaws m) where
  pub store-nothing : (a : Option (Store S)) → store_accepts m a [] a
  store-nothing None = tt
  store-nothing (Some a) = laws.nothing a.writer.now

  pub store-laws : WriterLaws (store_meaning m)
  store-laws = grind arith
