-- What an opened reader gives is what its file has.
use Rattle.std.proofs.Common.{◌≡◌, ◌≤◌, ◌+◌, ℕ, List, ◌++◌, Option, None, Some, Err, length, refl, sym, subst, arith}
use Rattle.std.proofs.lemmas.List.{length-append}
use Rattle.std.specs.Io.KnownBytes.{Consumes}
use Rattle.std.specs.Prelude.{IfSome, IsSome}
use Rattle.dd_files.specs.Files.{Held}
use Rattle.dd_files.specs.ReadToEnd.{IsWholeAnswer}
use Rattle.dd_files.specs.declared.whole.ReadFault.{ReadFault}
use Rattle.dd_files.specs.declared.whole.ReadFault.TheVariants.{TooLong}
use Rattle.dd_pile.specs.Lists.{IfList}
use Rattle.dd_pile.specs.Paths.{IsListPath}

-- the reader gave the first bytes of the file, and has the rest still to give
pub record IsGiven (file left : Option (List ℕ)) (given : List ℕ) : Type 0 where
  pub bytes : List ℕ
  pub rest : List ℕ
  pub stands : file ≡ Some bytes
  pub after : left ≡ Some rest
  pub parts : bytes ≡ given ++ rest

given_by : (bytes given : List ℕ) (left : Option (List ℕ)) → Consumes (Some bytes) left given
    → IsGiven (Some bytes) left given
given_by bytes given None known = absurd known
given_by bytes given (Some rest) known = record {
  bytes = bytes;
  rest = rest;
  stands = refl;
  after = refl;
  parts = known;
}

pub file_given : (file start left : Option (List ℕ)) (given : List ℕ) → IsSome file → start ≡ file
    → Consumes start left given → IsGiven file left given
file_given None start left given there same known = absurd (cc)
file_given (Some bytes) start left given there same known =
    given_by bytes given left (subst (λ (first : Option (List ℕ)). Consumes first left given) same known)

-- what holds of all bytes of the list
pub list_read : (pile path : List ℕ) (P : List ℕ → Type 0) (files : Option Held) (start left : Option (List ℕ))
    (given : List ℕ) → IsListPath pile path
    → IfSome files (λ held. IsSome (held.bytes_at path) × (start ≡ held.bytes_at path)) → Consumes start left given
    → ((rest : List ℕ) → left ≡ Some rest → P (given ++ rest)) → IfList pile P files
list_read pile path P None start left given place opened known all = tt
list_read pile path P (Some held) start left given place opened known all =
    let is = file_given (held.bytes_at path) start left given opened.0 opened.1 known in
    record {
      path = path;
      place = place;
      bytes = is.bytes;
      there = is.stands;
      is = subst P (sym is.parts) (all is.rest is.after);
    }

-- a file of which too many bytes were read
pub longer : (fault : ReadFault) (limit : ℕ) (given rest : List ℕ) (left : Option (List ℕ)) (old new : ℕ)
    → fault ≡ TooLong
    → IsWholeAnswer (Err fault) limit given left old new → limit + 1 ≤ length (given ++ rest)
longer fault limit given rest left old new is h =
    let many = (subst (λ (one : ReadFault). IsWholeAnswer (Err one) limit given left old new) is h).0 in
    let size = length-append given rest in
    omega (arith, many, size)

-- what holds of the text that was read holds of the list
pub list_is : (pile text : List ℕ) (P : List ℕ → Type 0) (files : Option Held)
    → IfList pile (λ bytes. bytes ≡ text) files → P text → IfList pile P files
list_is pile text P None h is = tt
list_is pile text P (Some held) h is = record {
  path = h.path;
  place = h.place;
  bytes = h.bytes;
  there = h.there;
  is = subst P (sym h.is) is;
}
