-- What passed a reader that keeps, its four facts apart.
use Rattle.std.proofs.Common.{◌≡◌, ◌⊎◌, ℕ, List, [], inl, inr, refl}
use Rattle.dd_slots.specs.Slots.{IsSlotOf}
use Rattle.dd_elem.specs.Device.{Gives, either_fact}
use Rattle.dd_keys.specs.declared.keeping.Keeping.{Keeping}

module _ {R P : Type 0} (has_given : R → P → List ℕ → Type 0) where
  -- it has the same reader and the same slot; the reader gave these bytes, and the slot took them
  pub record PassedKept (old new : Keeping R) (given : List ℕ) : Type 0 where
    pub same_reader : new.reader.ghost_name ≡ old.reader.ghost_name
    pub same_slot : new.slot.ghost_name ≡ old.slot.ghost_name
    pub gave : Gives has_given old.reader.now new.reader.now given
    pub kept : IsSlotOf new.slot.now given

  pub passed_kept : (old new : Keeping R) (given : List ℕ)
      → Gives {P = ℕ × (ℕ × (Unit {0} ⊎ P))} (λ k past bytes. (k.reader.ghost_name ≡ past.0)
      × ((k.slot.ghost_name ≡ past.1.0)
      × either_fact (λ _ m. IsSlotOf k.slot.now m) (λ p m. has_given k.reader.now p m) past.1.1 bytes)) old new given
      → IsSlotOf old.slot.now [] → PassedKept old new given
  passed_kept old new given h empty =
      let kept = h.then (old.reader.ghost_name, (old.slot.ghost_name, inl tt)) [] (refl, (refl, empty)) in
      record {
        same_reader = kept.0;
        same_slot = kept.1.0;
        gave = record {
          then = λ past before had.
              (h.then (old.reader.ghost_name, (old.slot.ghost_name, inr past)) before (refl, (refl, had))).1.1;
        };
        kept = kept.1.1;
      }
