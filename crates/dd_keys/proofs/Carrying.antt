-- What passed a reader that digests, its three facts apart.
use Rattle.std.proofs.Common.{◌≡◌, ◌⊎◌, ℕ, List, [], inl, inr, refl}
use Rattle.sha2.specs.Hashers.{Holds256}
use Rattle.dd_elem.specs.Device.{Gives, either_fact}
use Rattle.dd_keys.specs.declared.digesting.Digesting.{Digesting}

module _ {R P : Type 0} (has_given : R → P → List ℕ → Type 0) where
  -- it reads the same reader, which gave these bytes; and it digested them
  pub record Passed (old new : Digesting R) (given : List ℕ) : Type 0 where
    pub same : new.reader.ghost_name ≡ old.reader.ghost_name
    pub gave : Gives has_given old.reader.now new.reader.now given
    pub held : Holds256 new.hasher given

  pub passed : (old new : Digesting R) (given : List ℕ)
      → Gives {P = ℕ × (Unit {0} ⊎ P)} (λ d past bytes. (d.reader.ghost_name ≡ past.0)
      × either_fact (λ _ m. Holds256 d.hasher m) (λ p m. has_given d.reader.now p m) past.1 bytes) old new given
      → Holds256 old.hasher [] → Passed old new given
  passed old new given h none =
      let digested = h.then (old.reader.ghost_name, inl tt) [] (refl, none) in
      record {
        same = digested.0;
        gave = record { then = λ past before k. (h.then (old.reader.ghost_name, inr past) before (refl, k)).1 };
        held = digested.1;
      }
