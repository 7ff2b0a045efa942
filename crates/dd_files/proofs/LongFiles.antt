-- A file of which too many bytes were read is too long.
use Rattle.std.proofs.Common.{◌≡◌, ℕ, List, None, Option, Some, Err, ap, arith, length, subst}
use Rattle.std.proofs.lemmas.List.{length-append}
use Rattle.std.specs.Io.KnownBytes.{Consumes}
use Rattle.std.specs.Prelude.{IfSome, IsSome, IsSomeAnd}
use Rattle.dd_files.specs.Files.{Held}
use Rattle.dd_files.specs.ReadToEnd.{IsWholeAnswer}
use Rattle.dd_files.specs.declared.whole.ReadFault.{ReadFault}
use Rattle.dd_files.specs.declared.whole.ReadFault.TheVariants.{TooLong}
use Rattle.dd_files.specs.Keeping.{HasSuch}
use Rattle.dd_files.specs.ReadToEnd.{IsTooLong}

given_long : (bytes given : List ℕ) (left : Option (List ℕ)) → Consumes (Some bytes) left given → IsTooLong given
    → IsTooLong bytes
given_long bytes given None known long = absurd known
given_long bytes given (Some rest) known long =
    omega (arith, long, ap (λ (b : List ℕ). length b) known, length-append given rest)

opened_long : (file start left : Option (List ℕ)) (given : List ℕ) → IsSome file → start ≡ file
    → Consumes start left given → IsTooLong given → IsSomeAnd file IsTooLong
opened_long None start left given there same known long = absurd (cc)
opened_long (Some bytes) start left given there same known long =
    given_long bytes given left (subst (λ (first : Option (List ℕ)). Consumes first left given) same known) long

pub long_file : (path : List ℕ) (files : Option Held) (start left : Option (List ℕ)) (given : List ℕ)
    (fault : ReadFault) (old new : ℕ)
    → IfSome files (λ held. IsSome (held.bytes_at path) × (start ≡ held.bytes_at path))
    → Consumes start left given → fault ≡ TooLong → IsWholeAnswer (Err fault) 4294967295 given left old new
    → HasSuch path IsTooLong files
long_file path None start left given fault old new opened known is h = tt
long_file path (Some held) start left given fault old new opened known is h =
    let many = (subst (λ (one : ReadFault). IsWholeAnswer (Err one) 4294967295 given left old new) is h).0 in
    opened_long (held.bytes_at path) start left given opened.0 opened.1 known (omega (arith, many))
