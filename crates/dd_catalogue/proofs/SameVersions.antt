-- Catalogues compare equal exactly where they are the same.
use Rattle.std.specs.Prelude.{◌≡◌, ◌↔◌, ◌&&◌, ℕ, Bool, true, false, List, [], ◌∷◌}
use Rattle.std.specs.Cmp.{IsTotalOrder}
use Rattle.std.specs.Cmp.Lexicographic.{pointwise}
use Rattle.std.specs.Ordering.{eq_by_cmp, is_eq}
use Rattle.std.specs.declared.cmp.Ordering.{Ordering}
use Rattle.std.proofs.Common.{refl, ap, ◌∙◌, sym, subst}
use Rattle.std.proofs.lemmas.Bool.{and_parts}
use Rattle.std.proofs.lemmas.Cmp.{nat_list_cmp_total, tied_itself}
use Rattle.std.proofs.lemmas.Map.Lookups.{exact_bytes}
use Rattle.dd_elem.specs.Ordered.{bytes_cmp}
use Rattle.dd_version.specs.Orders.{parts_cmp, parts_total, parts_apart}
use Rattle.dd_version.specs.declared.parts.Parts.{Parts}
use Rattle.dd_catalogue.specs.CatalogueJoin.{same_contents}
use Rattle.dd_catalogue.specs.Contents.{Contents}
use Rattle.dd_catalogue.specs.Equal.{is_same, are_same_uids, holds_same}
use Rattle.dd_catalogue.specs.Rising.{is_eq_Equal}

same_versions : (m n : List Parts) → is_same m n ≡ true → m ≡ n
same_versions [] [] e = refl
same_versions [] (w ∷ n) e = let no : false ≡ true = e in cc
same_versions (v ∷ m) [] e = let no : false ≡ true = e in cc
same_versions (v ∷ m) (w ∷ n) e =
    let both = and_parts (eq_by_cmp parts_cmp v w) (is_same m n) e in
    ap (λ x. x ∷ m) (parts_apart v w (is_eq_Equal (parts_cmp v w) both.0)) ∙ ap (λ s. w ∷ s) (same_versions m n both.1)

same_uids : (w u : List (List ℕ)) → are_same_uids w u ≡ true → w ≡ u
same_uids [] [] e = refl
same_uids [] (y ∷ u) e = let no : false ≡ true = e in cc
same_uids (x ∷ w) [] e = let no : false ≡ true = e in cc
same_uids (x ∷ w) (y ∷ u) e =
    let both = and_parts (eq_by_cmp bytes_cmp x y) (are_same_uids w u) e in
    ap (λ z. z ∷ w) (exact_bytes x y (is_eq_Equal (bytes_cmp x y) both.0)) ∙ ap (λ s. y ∷ s) (same_uids w u both.1)

itself_same : {V : Type 0} {R : V → V → Ordering} (t : IsTotalOrder R) (m : List V)
    → pointwise (eq_by_cmp R) m m ≡ true
itself_same t [] = refl
itself_same t (v ∷ m) = rw (tied_itself t v) (itself_same t m)

same_contents_of : (c d : Contents) → holds_same c d ≡ true → c ≡ d
same_contents_of c d e =
    let both = and_parts (is_same c.versions d.versions) (are_same_uids c.withdrawn d.withdrawn) e in
    same_contents c d (same_versions c.versions d.versions both.0) (same_uids c.withdrawn d.withdrawn both.1)

holds_itself : (c : Contents) → holds_same c c ≡ true
holds_itself c = rw (itself_same parts_total c.versions) (itself_same nat_list_cmp_total c.withdrawn)

pub equal_is_same : (c d : Contents) → (holds_same c d ≡ true) ↔ (c ≡ d)
equal_is_same c d = (
  (λ e. same_contents_of c d e),
  (λ e. subst (λ x. holds_same c x ≡ true) e (holds_itself c)),
)

-- a test that says what comparing bytes says
pub same_by_bytes : (E : List ℕ → List ℕ → Bool) → ((x y : List ℕ) → is_eq (bytes_cmp x y) ≡ E x y)
    → (w u : List (List ℕ)) → pointwise E w u ≡ are_same_uids w u
same_by_bytes E h [] [] = refl
same_by_bytes E h [] (y ∷ u) = refl
same_by_bytes E h (x ∷ w) [] = refl
same_by_bytes E h (x ∷ w) (y ∷ u) =
    ap (λ b. b && pointwise E w u) (sym (h x y)) ∙ ap (λ b. is_eq (bytes_cmp x y) && b) (same_by_bytes E h w u)
