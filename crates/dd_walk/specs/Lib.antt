pub mod ForestViews
pub mod Pending
pub mod ReadAnswers
pub mod Reading
pub mod Saying
pub mod Trees
pub mod Walks
pub mod WithdrawnPieces
