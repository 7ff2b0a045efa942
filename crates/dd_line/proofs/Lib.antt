pub mod LineLemmas
pub mod RequestLemmas
mod LineCommands
mod LineEach
mod LineFlag
mod LineHelp
mod LineNames
mod LinePaths
mod LineRequests
mod LineRows
mod LineServes
mod LineValues
mod LineVerbs
mod LineWalk
mod SizeCuts
