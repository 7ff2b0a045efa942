-- A search of a list of UIDs decides whether one is in it.
use Rattle.std.proofs.Common.{◌≡◌, ℕ, Bool, List, sym, ◌∙◌, bytes_eq}
use Rattle.std.specs.Prelude.{Contains, Decides}
use Rattle.std.specs.List.{list_any}
use Rattle.std.proofs.lemmas.Map.Views.{Contains-from_any, list_any-from_Contains}
use Rattle.std.proofs.lemmas.Cmp.{nat_list_eq_equiv}
use Rattle.std.proofs.lemmas.Slice.Eq.{bytes_eq-Decides}

pub listed_decides : (uids : List (List ℕ)) (uid : List ℕ) → Decides (list_any (bytes_eq uid) uids) (Contains uids uid)
listed_decides uids uid = (
  λ found. Contains-from_any (λ x y same. (bytes_eq-Decides x y).0 same) uid uids found,
  λ member. list_any-from_Contains nat_list_eq_equiv uid uids member,
)

-- what answers as a test that decides does so too
pub decides_as : {P : Type 0} (result test : Bool) → Decides test P → result ≡ test → Decides result P
decides_as result test decides is = ((λ e. decides.0 (sym is ∙ e)), (λ h. is ∙ decides.1 h))
