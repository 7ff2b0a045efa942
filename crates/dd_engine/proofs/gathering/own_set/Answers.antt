use Rattle.std.proofs.Common.{refl}
use Rattle.dd_walk.specs.ForestViews.{walk_view}
use Rattle.dd_walk.specs.WithdrawnPieces.{withdrawn_of}
use Rattle.dd_engine.proofs.SetsGathered.{own_listing}
use Rattle.dd_engine.proofs.gathering.own_set.Goals as goal

pub returns-in-Err : goal.returns-in-Err
returns-in-Err c = c.dir_fault.ensures c.args.set.now c.in-Err.ensures.refused

pub returns-in-Ok-own_of : goal.returns-in-Ok-own_of
returns-in-Ok-own_of c =
    let walk = walk_view c.in-Ok.forest in
    let told = c.in-Ok-own_of.ensures in (
      record { images = told.1.0; withdrawn = withdrawn_of walk; unreached = walk.unreached },
      own_listing c.args.set.now walk told.1.0 c.in-Ok.ensures.walk told.0 told.1.1,
      (told.1.2, refl),
    )
