mod ElementTexts
mod FirstPieces
mod Leaving
mod ListTexts
mod NumberTexts
mod PartTexts
mod TagTexts
