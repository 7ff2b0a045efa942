-- The sum of a list, source by source.
use Rattle.std.proofs.Common.{◌≡◌, ◌<◌, ◌≤◌, ℕ, suc, Bool, true, false, List, [], ◌∷◌, length, map, take, min}
use Rattle.std.proofs.Common.{filter, arith, if◌then◌else◌, refl, ap, ◌∙◌}
use Rattle.std.proofs.lemmas.List.{length-map}
use Rattle.std.specs.Prelude.{is_err, not, sum_by}
use Rattle.dd_elem.specs.Device.{last_count}
use Rattle.std.specs.List.{AllByRecursion}
use Rattle.dd_staged.specs.Sources.{Source, has_copy, source_view}
use Rattle.dd_staged.specs.declared.staged.Staged.{Staged}
use Rattle.dd_pile.specs.Piles.{HasCopy}
use Rattle.dd_pile.specs.Sums.{image_bytes}

-- this number of the sources have no version, this number were not read, and the others have this number of bytes
pub record Counts (list : List Source) (skipped unread bytes : ℕ) : Type 0 where
  pub none : skipped ≡ length (filter (λ source. is_err source.found) list)
  pub without : unread ≡ length (filter (λ source. not (has_copy source.found)) list)
  pub all : bytes ≡ min (sum_by image_bytes list) last_count

-- ---- there are no more of them than sources

kept_or_not : (test : Bool) (one : Source) (list : List Source)
    → length (if test then one ∷ list else list) ≤ suc (length list)
kept_or_not true one list = omega arith
kept_or_not false one list = omega arith

few : (test : Source → Bool) (list : List Source) → length (filter test list) ≤ length list
few test [] = omega arith
few test (one ∷ list) =
    let more = kept_or_not (test one) one (filter test list) in
    let rest = few test list in
    omega (arith, more, rest)

pub few_skipped : (rows : List Staged) (at skipped unread bytes : ℕ) → at < length rows
    → Counts (map source_view (take at rows)) skipped unread bytes
    → (skipped ≤ length (take at rows)) × (unread ≤ length (take at rows))
few_skipped rows at skipped unread bytes within h =
    let list = map source_view (take at rows) in
    let size = length-map (take at rows) source_view in
    let most = few (λ source. is_err source.found) list in
    let some = few (λ source. not (has_copy source.found)) list in
    let none = h.none in
    let without = h.without in
    (omega (arith, none, most, size), omega (arith, without, some, size))

-- none, where each has a copy
pub none_unread : (list : List Source) → AllByRecursion HasCopy list
    → length (filter (λ source. not (has_copy source.found)) list) ≡ 0
none_unread [] all = refl
none_unread (one ∷ list) all =
    let kept = filter (λ source. not (has_copy source.found)) list in
    ap (λ (is : Bool). length (if not is then one ∷ kept else kept)) all.0 ∙ none_unread list all.1
