-- What reading one more source gives, where those that fail are passed.
use Rattle.std.specs.Prelude.{◌≡◌, ◌++◌, ◌∷◌, [], ℕ, List, length}
use Rattle.dd_sources.specs.declared.readings.Readings.{Readings}
use Rattle.dd_sources.specs.declared.supply.Supply.{Ghosts as SupplyOf}
use Rattle.dd_sources.specs.Batches.{HoldsOpen}
use Rattle.dd_sources.specs.Readings.{IsReading, Reading, absent_in, answer_of}
use Rattle.dd_keys.specs.Sources.{Answer}
use Rattle.dd_sources.specs.Supply.{OthersStay}

module _ {S In : Type 0} (supply : SupplyOf S In) where
  -- What was read grows by one reading, of the source `at`. Its counts alone changed, and what is held has its answer.
  pub record GrowsBy (limit at : ℕ) (old new : S) (before after : Readings) : Type 0 where
    pub reading : Reading
    pub is : IsReading limit (supply.contents old at) (supply.is_there (supply.rest old) at) (supply.given new at) at
        reading (supply.refusals old at) (supply.refusals new at) (supply.unread old at) (supply.unread new at)
    pub given : OthersStay at (supply.given old) (supply.given new)
    pub refusals : OthersStay at (supply.refusals old) (supply.refusals new)
    pub unread : OthersStay at (supply.unread old) (supply.unread new)
    pub held : (answers : List Answer) → length answers ≡ at → HoldsOpen answers before.sources before.batch
        → HoldsOpen (answers ++ answer_of reading ∷ []) after.sources after.batch
    pub absent : after.absent.items ≡ before.absent.items ++ absent_in (reading ∷ [])
