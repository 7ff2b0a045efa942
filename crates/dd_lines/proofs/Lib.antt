pub mod GoingOn
pub mod Masking
mod SentTexts
mod TextLemmas
