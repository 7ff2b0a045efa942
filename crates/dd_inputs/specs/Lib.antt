pub mod EmptyPaths
pub mod From
pub mod ListedNames
pub mod Reasons
