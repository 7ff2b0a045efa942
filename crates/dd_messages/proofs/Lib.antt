mod CountLines
mod FaultLines
mod LeftOutParts
pub mod NoteObjects
pub mod OkAnswers
