-- The rows of the tree of versions: each has one part to four, and what leads to it is a row.
use Rattle.std.specs.Prelude.{◌≡◌, ◌≢◌, ◌≤◌, true, List, [], ◌∷◌, ◌++◌, length, map}
use Rattle.std.proofs.Common.{refl, sym, ◌∙◌, ap, inl, inr, arith}
use Rattle.dd_catalogue.proofs.Members.{Member, member_of, contained}
use Rattle.dd_version.specs.declared.parts.Parts.{Parts}
use Rattle.dd_layout.specs.Neighbours.{counts_after}
use Rattle.dd_layout.specs.Paths.{Path, prefixes, parent_of, leads_to}
use Rattle.dd_layout.specs.Plans.{path_of, tree}
use Rattle.dd_layout.specs.Tree.{IsTree, ranks_along}
use Rattle.dd_layout.proofs.Blocks.{leads_length, leads_on, parent_leads, prefix_leads}
use Rattle.dd_layout.proofs.Neighbourhood.{rows_are_known}
use Rattle.dd_layout.proofs.RowsByWalk.{Rises, prefix_parts}
use Rattle.dd_layout.proofs.Trees.{tree_is_tree}

-- one part to four
abbrev pub IsRow : Path → Type 0
IsRow [] = ⊥
IsRow (a ∷ []) = Unit {0}
IsRow (a ∷ b ∷ []) = Unit {0}
IsRow (a ∷ b ∷ c ∷ []) = Unit {0}
IsRow (a ∷ b ∷ c ∷ d ∷ []) = Unit {0}
IsRow (a ∷ b ∷ c ∷ d ∷ e ∷ x) = ⊥

-- what is known of the rows of a tree of versions
pub record AreRows (rows : List Path) : Type 0 where
  pub rising : Rises rows
  pub parts : (x : Path) → Member x rows → IsRow x
  pub parents : (x : Path) → Member x rows → Member (parent_of x) ([] ∷ rows)
  pub above : (x : Path) → Member x rows → (q : Path) → Member q (prefixes x) → Member q rows
  pub ranks : (front : List Path) (x : Path) (rest : List Path) → rows ≡ front ++ x ∷ rest
      → ranks_along rows x ≡ counts_after [] (front ++ x ∷ [])

row_from_length : (x : Path) → x ≢ [] → length x ≤ 4 → IsRow x
row_from_length [] some short = some refl
row_from_length (a ∷ []) some short = tt
row_from_length (a ∷ b ∷ []) some short = tt
row_from_length (a ∷ b ∷ c ∷ []) some short = tt
row_from_length (a ∷ b ∷ c ∷ d ∷ []) some short = tt
row_from_length (a ∷ b ∷ c ∷ d ∷ e ∷ x) some short = absurd (omega arith)

-- paths of versions have four parts
four_parts : (versions : List Parts) (p : Path) → Member p (map path_of versions) → length p ≡ 4
four_parts [] p i = absurd i
four_parts (version ∷ versions) p (inl e) = ap length (sym e)
four_parts (version ∷ versions) p (inr i) = four_parts versions p i

some_parts : (p : Path) → length p ≡ 4 → p ≢ []
some_parts p long e = let none = ap length e in absurd (omega arith)

-- the empty path, or one that leads to a row
either_row : (rows : List Path) (x : Path) → (x ≢ [] → Member x rows) → Member x ([] ∷ rows)
either_row rows [] h = inl refl
either_row rows (a ∷ x) h = inr (h (λ e. cc))

module _ (versions : List Parts) where
  is_tree : IsTree (map path_of versions) (tree versions)
  is_tree = tree_is_tree (map path_of versions)

  leads_to_row : (x u : Path) → Member x (tree versions) → u ≢ [] → leads_to u x ≡ true → Member u (tree versions)
  leads_to_row x u i some led =
      let there = ((is_tree.each x).0 (contained x (tree versions) i)).1 in
      member_of u (tree versions) ((is_tree.each u).1 (some, (there.0, there.1, leads_on u x there.0 led there.2)))

  parts_of_row : (x : Path) → Member x (tree versions) → IsRow x
  parts_of_row x i =
      let own = (is_tree.each x).0 (contained x (tree versions) i) in
      let there = own.1 in
      let long = four_parts versions there.0 (member_of there.0 (map path_of versions) there.1) in
      let short = leads_length x there.0 there.2 in
      row_from_length x own.0 (omega arith)

  prefix_is_row : (x : Path) → Member x (tree versions) → (q : Path) → Member q (prefixes x) → Member q (tree versions)
  prefix_is_row x i q j =
      let parts = prefix_parts x q j in
      leads_to_row x q i (λ e. let is = sym e ∙ parts.2 in cc) (prefix_leads x q j)

  pub tree_rows : AreRows (tree versions)
  tree_rows = record {
    rising = is_tree.rising;
    parts = parts_of_row;
    parents = λ x i. either_row (tree versions) (parent_of x)
        (λ some. leads_to_row x (parent_of x) i some (parent_leads x));
    above = prefix_is_row;
    ranks = λ front x rest is.
        (rows_are_known (map path_of versions)
        (λ p c. some_parts p (four_parts versions p (member_of p (map path_of versions) c))) front x rest is).ranks;
  }
