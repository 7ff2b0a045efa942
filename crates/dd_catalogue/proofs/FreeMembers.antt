-- What is withdrawn depends on the members of a list alone.
use Rattle.std.specs.Prelude.{◌≡◌, Bool, true, false, not, List, [], ◌∷◌, Contains, Decides}
use Rattle.std.specs.Ordering.{is_eq}
use Rattle.std.specs.declared.cmp.Ordering.{Ordering}
use Rattle.std.proofs.Common.{refl, sym, ◌∙◌, ap, inl, inr}
use Rattle.std.proofs.lemmas.Cmp.{tied_itself}
use Rattle.dd_catalogue.specs.Best.{SameMembers}
use Rattle.dd_catalogue.specs.Free.{is_free, best_free, free}
use Rattle.dd_catalogue.specs.FreeLaws.{free_of_best, free_of_set, same_free}
use Rattle.dd_catalogue.specs.Rising.{Orders, by_test, is_eq_Equal}
use Rattle.dd_catalogue.proofs.BestMembers.{best_of_same}
use Rattle.dd_catalogue.proofs.Members.{Member, member_of, contained}

pub withdrawn_member : {K : Type 0} {keys : K → K → Ordering} (o : Orders (λ u. u) keys keys) (w : List K) (k : K)
    → is_free keys w k ≡ false → Member k w
withdrawn_member o [] k e = let no : true ≡ false = e in cc
withdrawn_member {keys = keys} o (x ∷ w) k e = by_test (is_eq (keys x k))
    (λ f. inl (o.keys_apart x k (is_eq_Equal (keys x k) f)))
    (λ f. inr (withdrawn_member o w k (rw f at e)))

pub member_withdrawn : {K : Type 0} {keys : K → K → Ordering} (o : Orders (λ u. u) keys keys) (w : List K) (k : K)
    → Member k w → is_free keys w k ≡ false
member_withdrawn o [] k i = absurd i
member_withdrawn {keys = keys} o (x ∷ w) k (inl e) =
    let tie = ap (λ y. is_eq (keys y k)) e ∙ ap is_eq (tied_itself o.keys_total k) in rw tie refl
member_withdrawn {keys = keys} o (x ∷ w) k (inr i) = by_test (is_eq (keys x k))
    (λ f. rw f refl)
    (λ f. rw f (member_withdrawn o w k i))

-- a key is free of a list exactly where the list does not contain it
pub free_decides : {K : Type 0} {keys : K → K → Ordering} (o : Orders (λ u. u) keys keys) (w : List K) (k : K)
    → Decides (is_free keys w k) (¬ Contains w k)
free_decides {keys = keys} o w k = (
  (λ e c. let no = sym e ∙ member_withdrawn o w k (member_of k w c) in cc),
  (λ h. by_test (is_free keys w k) (λ e. e) (λ e. absurd (h (contained k w (withdrawn_member o w k e))))),
)

pub free_of_same : {K : Type 0} {keys : K → K → Ordering} (o : Orders (λ u. u) keys keys) (w u : List K) (k : K)
    → SameMembers w u → is_free keys w k ≡ is_free keys u k
free_of_same {keys = keys} o w u k same =
    sym (free_of_set o w k) ∙ ap (λ x. is_free keys x k) (best_of_same o w u same) ∙ free_of_set o u k

pub kept_of_same : {V K : Type 0} {key : V → K} {keys : K → K → Ordering} {values : V → V → Ordering}
    (o : Orders key keys values) (p : Orders (λ u. u) keys keys) (s t : List V) (w u : List K)
    → SameMembers s t → SameMembers w u → best_free key keys values s w ≡ best_free key keys values t u
kept_of_same {key = key} {keys = keys} {values = values} o p s t w u same same' =
    free_of_best o s w ∙ ap (λ m. free key keys w m) (best_of_same o s t same) ∙ sym (free_of_best o t w)
    ∙ same_free key keys values t w u (λ k. free_of_same p w u k same')

not_true : (b : Bool) → not b ≡ true → b ≡ false
not_true true e = let no : false ≡ true = e in cc
not_true false e = refl

-- a key is withdrawn exactly where the list contains it
pub withdrawn_decides : {K : Type 0} {keys : K → K → Ordering} (o : Orders (λ u. u) keys keys) (w : List K) (k : K)
    → Decides (not (is_free keys w k)) (Contains w k)
withdrawn_decides {keys = keys} o w k = (
  (λ e. contained k w (withdrawn_member o w k (not_true (is_free keys w k) e))),
  (λ c. ap not (member_withdrawn o w k (member_of k w c))),
)
