-- How the known transfer syntaxes encode a data set (PS3.5 section 10 and annex A).
use Rattle.std.specs.Prelude.{ℕ, List, ◌∷◌, Option, find, map, option_map}
use Rattle.std.specs.Str.{bytes_eq}
use Rattle.dd_encoding.specs.declared.syntax.Syntax.{Syntax}
use Rattle.dd_encoding.specs.declared.syntax.Syntax.TheVariants.{Explicit, Implicit, Encapsulated}
use Rattle.dd_version.specs.Syntaxes.{implicit_syntax, explicit_syntax, encapsulated_syntaxes}

-- a transfer syntax: its UID, and how it encodes a data set
pub record TransferSyntax : Type 0 where
  pub uid : List ℕ
  pub syntax : Syntax

-- Implicit VR Little Endian, Explicit VR Little Endian, and those with encapsulated pixel data
abbrev pub transfer_syntaxes : List TransferSyntax
transfer_syntaxes =
    record { uid = implicit_syntax; syntax = Implicit }
    ∷ record { uid = explicit_syntax; syntax = Explicit }
    ∷ map (λ uid. record { uid = uid; syntax = Encapsulated }) encapsulated_syntaxes

-- the syntax of the transfer syntax with this UID, where there is one
unfoldable pub syntax_of : List ℕ → Option Syntax
syntax_of uid = option_map (λ t. t.syntax) (find (λ t. bytes_eq t.uid uid) transfer_syntaxes)
