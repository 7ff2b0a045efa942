pub mod Growing
pub mod HeadFiles
pub mod Inheriting
pub mod Judged
mod SpelledNames
