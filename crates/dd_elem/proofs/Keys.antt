-- What cleaning leaves is a key, where it is short enough.
use Rattle.std.proofs.Common.{◌≡◌, ◌≤◌, ℕ, List, length, sym, ap, ◌∙◌}
use Rattle.dd_elem.specs.Clean.{clean_of}
use Rattle.dd_elem.specs.Key.{IsKey}
use Rattle.dd_elem.proofs.Cleaning.{clean_of-clean_of}

-- the bytes that cleaning leaves, at most 1,024, are a key
pub IsKey_from_clean_of : (bytes kept : List ℕ) → kept ≡ clean_of bytes → length kept ≤ 1024 → IsKey kept
IsKey_from_clean_of bytes kept is short = record {
  clean = ap clean_of is ∙ clean_of-clean_of bytes ∙ sym is;
  short = short;
}
