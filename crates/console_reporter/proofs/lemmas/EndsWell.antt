-- If no call is refused, a run ends well, or a device failed, or memory was asked for (for `runs_end_well`).
use Rattle.std.proofs.Common.{arith, ◌≡◌, ◌⊎◌, inl, inr, ℕ, zero, suc, List, [], ◌∷◌, None, Some, Option}
use Rattle.std.proofs.Common.{Result, Ok, Err, refl, sym, ◌∙◌}
use Rattle.styled_text.specs.Names.{Meaning, successor}
use Rattle.text_parts.specs.Names.{ReportCall}
use Rattle.reporter_state.specs.declared.{faults.RunFault.RunFault, faults.WriteEventError.WriteEventError}
use Rattle.reporter_state.specs.declared.faults.WriteEventError.TheVariants.{RetriedSuccess, OutputNotLoaded, Io}
use Rattle.reporter_state.specs.declared.faults.WriteEventError.TheVariants.{Memory, Failed, StoreIo}
use Rattle.console_reporter.specs.Names.{AreAccepted, Configuration, EndsWell, MayGrowAt, refusal_at, Runs}
use Rattle.console_reporter.specs.{EndsWell.NeverFails}

counts_on : (n : ℕ) → n ≡ successor n → ⊥
counts_on n h = omega (arith, h)

none_refused : (config : Configuration) (calls : List ReportCall) → AreAccepted config calls → (i : ℕ)
    → refusal_at config calls i ≡ None
none_refused config [] accepted i = refl
none_refused config (call ∷ more) accepted zero = accepted.0
none_refused config (call ∷ more) accepted (suc i) = none_refused config more accepted.1 i

module _ {W S : Type 0} (m : Meaning W) (n : Meaning S) (config : Configuration) (calls : List ReportCall)
    (old new : W × S) (accepted : AreAccepted config calls) where
  abbrev AsksAt : ℕ → Type 0
  AsksAt position = m.may_refuse old.0 ⊎ MayGrowAt config calls position ⊎ n.may_refuse old.1

  abbrev HasCause : RunFault → Type 0
  HasCause stop = ((stop.fault ≡ Io) × (m.failures new.0 ≡ successor (m.failures old.0)))
      ⊎ ((stop.fault ≡ StoreIo) × (n.failures new.1 ≡ successor (n.failures old.1)))
      ⊎ ((stop.fault ≡ Memory) × AsksAt stop.position)

  cause : (stop : RunFault) → Runs m n config calls old (Err stop) new → (fault : WriteEventError)
      → stop.fault ≡ fault → HasCause stop
  cause stop runs RetriedSuccess is = absurd
      (let told : ◌≡◌ {A = Option WriteEventError} None (Some RetriedSuccess) =
      sym (none_refused config calls accepted stop.position) ∙ (rw is at runs.refused) in cc)
  cause stop runs OutputNotLoaded is = absurd
      (let told : ◌≡◌ {A = Option WriteEventError} None (Some OutputNotLoaded) =
      sym (none_refused config calls accepted stop.position) ∙ (rw is at runs.refused) in cc)
  cause stop runs Io is = inl (is, runs.io is)
  cause stop runs Memory is = inr (inr (is, runs.memory is))
  cause stop runs Failed is = absurd (runs.known is)
  cause stop runs StoreIo is = inr (inl (is, runs.store_io is))

  none_asks : (position : ℕ) → (m.may_refuse old.0 → ⊥) → (n.may_refuse old.1 → ⊥)
      → ((i : ℕ) → MayGrowAt config calls i → ⊥) → AsksAt position → ⊥
  none_asks position ample store_ample holds (inl p) = ample p
  none_asks position ample store_ample holds (inr (inl p)) = holds position p
  none_asks position ample store_ample holds (inr (inr p)) = store_ample p

  works_on : (stop : RunFault) → Runs m n config calls old (Err stop) new → stop.fault ≡ Io
      → NeverFails m ⊎ (m.failures new.0 ≡ m.failures old.0) → ⊥
  works_on stop runs is (inl never) = let stopped = (rw is at runs.err.2) in never _ _ _ stopped
  works_on stop runs is (inr same) = counts_on _ (sym same ∙ runs.io is)

  store_works_on : (stop : RunFault) → Runs m n config calls old (Err stop) new → stop.fault ≡ StoreIo
      → NeverFails n ⊎ (n.failures new.1 ≡ n.failures old.1) → ⊥
  store_works_on stop runs is (inl never) = let stopped = (rw is at runs.store_err.2) in never _ _ _ stopped
  store_works_on stop runs is (inr same) = counts_on _ (sym same ∙ runs.store_io is)

  cannot : (stop : RunFault) → Runs m n config calls old (Err stop) new → (m.may_refuse old.0 → ⊥)
      → (n.may_refuse old.1 → ⊥) → ((i : ℕ) → MayGrowAt config calls i → ⊥)
      → NeverFails m ⊎ (m.failures new.0 ≡ m.failures old.0) → NeverFails n ⊎ (n.failures new.1 ≡ n.failures old.1)
      → HasCause stop → ⊥
  cannot stop runs ample store_ample holds works store_works (inl p) = works_on stop runs p.0 works
  cannot stop runs ample store_ample holds works store_works (inr (inl p)) = store_works_on stop runs p.0 store_works
  cannot stop runs ample store_ample holds works store_works (inr (inr p)) =
      none_asks stop.position ample store_ample holds p.1

  pub ends_well : (result : Result (Unit {0}) RunFault) → Runs m n config calls old result new
      → EndsWell m n config calls old result new
  ends_well (Ok tt) runs = record {
    err = tt;
    ok = λ ample store_ample holds works store_works. (
      refl,
      runs.ok,
      runs.delivered,
      runs.stored,
      runs.store_delivered,
    );
  }
  ends_well (Err stop) runs = record {
    err = cause stop runs stop.fault refl;
    ok = λ ample store_ample holds works store_works.
        absurd (cannot stop runs ample store_ample holds works store_works (cause stop runs stop.fault refl));
  }
