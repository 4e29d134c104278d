-- A store that may be absent, as a writer: an absent one takes every text and keeps none.
use Rattle.std.specs.Prelude.{◌≡◌, ℕ, List, [], Option, None, Some}
use Rattle.{styled_text.specs.Names.Meaning, styled_text.specs.Names.WriteFault}
use Rattle.{store_text.specs.declared.config.StoreConfig.StoreConfig}
use Rattle.{console_reporter.specs.declared.imp.store.Store.Store}

-- the store changed neither its writer nor what it keeps, or is absent before and after
abbrev pub IsSameStore : {S : Type 0} → Option (Store S) → Option (Store S) → Type 0
IsSameStore None None = Unit {0}
IsSameStore None (Some b) = ⊥
IsSameStore (Some a) None = ⊥
IsSameStore (Some a) (Some b) = (b.writer.ghost_name ≡ a.writer.ghost_name) × (b.config ≡ a.config)

-- what the store keeps
abbrev pub config_of : {S : Type 0} → Option (Store S) → Option StoreConfig
config_of None = None
config_of (Some a) = Some a.config

module _ {S : Type 0} (m : Meaning S) where
  abbrev pub store_accepts : Option (Store S) → List ℕ → Option (Store S) → Type 0
  store_accepts None t None = Unit {0}
  store_accepts None t (Some b) = ⊥
  store_accepts (Some a) t None = ⊥
  store_accepts (Some a) t (Some b) = m.accepts a.writer.now t b.writer.now

  abbrev pub store_stops : Option (Store S) → List ℕ → WriteFault → Option (Store S) → Type 0
  store_stops None t e b = ⊥
  store_stops (Some a) t e None = ⊥
  store_stops (Some a) t e (Some b) = m.stops a.writer.now t e b.writer.now

  abbrev pub store_known : Option (Store S) → Option (List ℕ)
  store_known None = None
  store_known (Some a) = m.text a.writer.now

  abbrev pub store_adds : Option (Store S) → List ℕ → List ℕ
  store_adds None t = []
  store_adds (Some a) t = m.adds a.writer.now t

  abbrev pub store_delivered : Option (Store S) → Type 0
  store_delivered None = Unit {0}
  store_delivered (Some a) = m.is_delivered a.writer.now

  abbrev pub store_may_refuse : Option (Store S) → Type 0
  store_may_refuse None = ⊥
  store_may_refuse (Some a) = m.may_refuse a.writer.now

  abbrev pub store_failures : Option (Store S) → ℕ
  store_failures None = 0
  store_failures (Some a) = m.failures a.writer.now

  abbrev pub store_meaning : Meaning (Option (Store S))
  store_meaning = record {
    accepts = store_accepts;
    stops = store_stops;
    text = store_known;
    adds = store_adds;
    is_delivered = store_delivered;
    may_refuse = store_may_refuse;
    failures = store_failures;
  }
