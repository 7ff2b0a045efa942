pub mod AllStanding
mod ChangedFiles
mod DueFaults
mod FolderPaths
mod Fronts
mod ImagePlaces
mod ImagesMade
mod KnownAhead
mod MadeInOrder
pub mod Unlinked
