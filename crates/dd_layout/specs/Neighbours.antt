-- What a path of a tree has is known from the paths before and after it, by their lengths alone. So one pass along them
-- finds each offset and rank, and one from the back each link.
use Rattle.std.specs.Prelude.{◌≡◌, ℕ, zero, suc, ◌+◌, ◌-◌, ◌==◌, List, [], ◌∷◌, ◌++◌, length, Option, None, Some}
use Rattle.std.specs.Prelude.{sum_by, nat_lt, if◌then◌else◌}
use Rattle.dd_layout.specs.Paths.{Path}
use Rattle.dd_layout.specs.Tree.{offset, ranks_along, next_sibling, first_child}

-- the first of these paths that has this length, if none before it is shorter
abbrev pub scan : ℕ → List Path → Option Path
scan n [] = None
scan n (y ∷ rest) = if nat_lt (length y) n then None else (if length y == n then Some y else scan n rest)

-- Of each path that leads to one of a tree, how many of its siblings have come. These are the counts after a path below
-- this many others, from the counts after the path before.
abbrev pub counted : ℕ → List ℕ → List ℕ
counted zero [] = 1 ∷ []
counted zero (n ∷ counts) = (n + 1) ∷ []
counted (suc depth) [] = []
counted (suc depth) (n ∷ counts) = n ∷ counted depth counts

abbrev pub counts_after : List ℕ → List Path → List ℕ
counts_after counts [] = counts
counts_after counts (x ∷ paths) = counts_after (counted (length x - 1) counts) paths

-- the path x of a tree, the paths before it and those after it
pub record IsKnown (tree front : List Path) (x : Path) (rest : List Path) : Type 0 where
  pub at : (first : ℕ) (size : Path → ℕ) → offset first size tree x ≡ first + sum_by size front
  pub ranks : ranks_along tree x ≡ counts_after [] (front ++ x ∷ [])
  pub next : next_sibling tree x ≡ scan (length x) rest
  pub lower : first_child tree x ≡ scan (length x + 1) rest
