-- A reader that counts the bytes that pass.
use Rattle.std.proofs.Common.{◌≡◌, ◌⊎◌, ℕ, List, [], inl, inr, refl}
use Rattle.dd_elem.specs.Device.{Gives, either_fact}
use Rattle.dd_filing.specs.Copies.{length_of}
use Rattle.dd_filing.specs.declared.measured.Measured.{Measured}

module _ {R P : Type 0} (has_given : R → P → List ℕ → Type 0) where
  -- it reads the same reader, which gave these bytes; and it counted them
  pub record Passed (old new : Measured R) (given : List ℕ) : Type 0 where
    pub same : new.reader.ghost_name ≡ old.reader.ghost_name
    pub gave : Gives has_given old.reader.now new.reader.now given
    pub size : new.size ≡ length_of given

  pub passed : (old new : Measured R) (given : List ℕ)
      → Gives {P = ℕ × (Unit {0} ⊎ P)} (λ m past bytes. (m.reader.ghost_name ≡ past.0)
      × either_fact (λ _ all. m.size ≡ length_of all) (λ p all. has_given m.reader.now p all) past.1 bytes) old new
      given
      → old.size ≡ 0 → Passed old new given
  passed old new given h none =
      let counted = h.then (old.reader.ghost_name, inl tt) [] (refl, none) in
      record {
        same = counted.0;
        gave = record { then = λ past before k. (h.then (old.reader.ghost_name, inr past) before (refl, k)).1 };
        size = counted.1;
      }
