-- What reading a file answers that is digested meanwhile.
use Rattle.std.specs.Prelude.{◌≡◌, ℕ, List, Option}
use Rattle.sha2.specs.Sha256.{sha256}
use Rattle.dd_elem.specs.declared.tag.Tag.{Tag}
use Rattle.dd_part10.specs.Streaming.{IsFileAnswer}
use Rattle.dd_keys.specs.declared.digesting.Digested.{Digested}

-- the answer of reading the file, and the SHA-256 of all bytes that the reader gave
pub record IsDigested (digested : Digested) (wanted : List Tag) (limit : ℕ) (given : List ℕ) (left : Option (List ℕ))
    (old new : ℕ) : Type 0 where
  pub file : IsFileAnswer digested.file wanted limit given left old new
  pub digest : digested.digest ≡ sha256 given
