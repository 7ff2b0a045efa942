pub mod HavingPaths
mod LookedUp
mod NameParts
mod NamesDue
mod OpenedDirectories
