-- The tree of paths: the function meets the relation, and the relation has one answer.
use Rattle.std.specs.Prelude.{◌≡◌, ◌≢◌, true, false, ℕ, List, [], ◌∷◌, map, Contains}
use Rattle.std.specs.List.{flat_map}
use Rattle.std.specs.Ordering.{is_eq, is_lt}
use Rattle.std.proofs.Common.{refl, sym, ◌∙◌, ap, subst, inl, inr}
use Rattle.std.proofs.lemmas.Cmp.{tied_itself}
use Rattle.std.proofs.lemmas.Map.Lookups.{exact_bytes}
use Rattle.dd_elem.specs.Ordered.{bytes_cmp}
use Rattle.dd_catalogue.specs.Best.{IsBest, IsGreatest}
use Rattle.dd_catalogue.specs.Rising.{is_eq_Equal}
use Rattle.dd_catalogue.proofs.Members.{Member, member_of, contained}
use Rattle.dd_catalogue.proofs.BestMembers.{best_is_best, only_best}
use Rattle.dd_layout.specs.Paths.{Path, path_cmp, prefixes, leads_to}
use Rattle.dd_layout.specs.Tree.{IsTree, tree_of}
use Rattle.dd_layout.proofs.RowsByWalk.{path_total, paths_ordered, prefix_parts, member_either, member_left}
use Rattle.dd_layout.proofs.RowsByWalk.{member_right, member_map}
use Rattle.dd_layout.proofs.Blocks.{and_parts, prefix_leads}

-- ---- the prefixes of a path are what leads to it

pub leads_member : (x p : Path) → x ≢ [] → leads_to x p ≡ true → Member x (prefixes p)
leads_member [] p some led = absurd (some refl)
leads_member (a ∷ x) [] some led = cc
leads_member (a ∷ []) (b ∷ p) some led =
    let both = and_parts (is_eq (bytes_cmp a b)) true led in
    inl (ap (λ (z : List ℕ). z ∷ []) (sym (exact_bytes a b (is_eq_Equal (bytes_cmp a b) both.0))))
leads_member (a ∷ c ∷ x) (b ∷ p) some led =
    let both = and_parts (is_eq (bytes_cmp a b)) (leads_to (c ∷ x) p) led in
    let same = exact_bytes a b (is_eq_Equal (bytes_cmp a b) both.0) in
    inr (subst (λ (z : List ℕ). Member (z ∷ c ∷ x) (map (λ r. b ∷ r) (prefixes p))) (sym same)
    (member_map b (c ∷ x) (prefixes p) (leads_member (c ∷ x) p (λ e. cc) both.1)))

not_empty : (x p : Path) → Member x (prefixes p) → x ≢ []
not_empty x p i e = let parts = prefix_parts p x i in let is = sym e ∙ parts.2 in cc

-- ---- and so of many paths

pub of_one : (x : Path) (paths : List Path) → Member x (flat_map prefixes paths)
    → (p : Path) × Member p paths × Member x (prefixes p)
of_one x [] i = absurd i
of_one x (p ∷ paths) i = elim (member_either x (prefixes p) (flat_map prefixes paths) i)
    [ inl j ↦ (p, inl refl, j) | inr j ↦ (let there = of_one x paths j in (there.0, inr there.1, there.2)) ]

pub from_one : (x p : Path) (paths : List Path) → Member p paths → Member x (prefixes p)
    → Member x (flat_map prefixes paths)
from_one x p [] i j = absurd i
from_one x p (q ∷ paths) (inl e) j =
    member_left x (prefixes q) (flat_map prefixes paths) (subst (λ (z : Path). Member x (prefixes z)) (sym e) j)
from_one x p (q ∷ paths) (inr i) j = member_right x (prefixes q) (flat_map prefixes paths) (from_one x p paths i j)

abbrev Leads : List Path → Path → Type 0
Leads paths x = (x ≢ []) × ((p : Path) × Contains paths p × (leads_to x p ≡ true))

all_leads : (x : Path) (paths : List Path) → Contains (flat_map prefixes paths) x → Leads paths x
all_leads x paths c =
    let there = of_one x paths (member_of x (flat_map prefixes paths) c) in
    (not_empty x there.0 there.2, (there.0, contained there.0 paths there.1, prefix_leads there.0 x there.2))

led_contained : (x : Path) (paths : List Path) → Leads paths x → Contains (flat_map prefixes paths) x
led_contained x paths (some, (p, c, led)) =
    contained x (flat_map prefixes paths) (from_one x p paths (member_of p paths c) (leads_member x p some led))

-- ---- the tree is the best of the prefixes, each of which is the greatest like it

no_greater : (x w : Path) → w ≡ x → is_lt (path_cmp x w) ≡ false
no_greater x w e = ap (λ (z : Path). is_lt (path_cmp x z)) e ∙ ap is_lt (tied_itself path_total x)

pub greatest : (s : List Path) (x : Path) → Contains s x → IsGreatest (λ path. path) path_cmp s x
greatest s x c = record { member = c; greatest = λ w i same. no_greater x w same }

pub tree_is_tree : (paths : List Path) → IsTree paths (tree_of paths)
tree_is_tree paths =
    let is = best_is_best paths_ordered (flat_map prefixes paths) in
    record {
      rising = is.rising;
      each = λ x. (
        (λ c. all_leads x paths ((is.each x).0 c).member),
        (λ l. (is.each x).1 (greatest (flat_map prefixes paths) x (led_contained x paths l))),
      );
    }

is_best : (paths tree : List Path) → IsTree paths tree
    → IsBest (λ path. path) path_cmp path_cmp (flat_map prefixes paths) tree
is_best paths tree is = record {
  rising = is.rising;
  each = λ x. (
    (λ c. greatest (flat_map prefixes paths) x (led_contained x paths ((is.each x).0 c))),
    (λ g. (is.each x).1 (all_leads x paths g.member)),
  );
}

pub tree_is_one : (paths one other : List Path) → IsTree paths one → IsTree paths other → one ≡ other
tree_is_one paths one other left right =
    only_best paths_ordered (flat_map prefixes paths) one (is_best paths one left)
    ∙ sym (only_best paths_ordered (flat_map prefixes paths) other (is_best paths other right))
