pub mod Along
mod EscapedTexts
mod Escapes
mod ReadBack
mod ShownTexts
pub mod Steps
pub mod ValueTexts
