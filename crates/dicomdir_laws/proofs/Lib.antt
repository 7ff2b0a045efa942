mod KeptListed
mod OnePaths
mod PilesOfSources
mod SaidByFiles
mod SaidByLists
mod SaidBySets
mod SetAgain
mod SetsOfParts
