use Rattle.dicomdir_laws.proofs.PilesOfSources.{published_sources}
use Rattle.dicomdir_laws.proofs.laws.a_published_pile_is_the_index_of_its_sources.Goals as goal

pub returns : goal.returns
returns c = λ given others old new first last made also choice piles.
    published_sources given others old new first last made also choice piles
