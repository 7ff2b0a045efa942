-- The join of versions: the greater one.
use Rattle.std.specs.Prelude.{◌≡◌, true}
use Rattle.std.specs.Ordering.{is_lt}
use Rattle.dd_version.specs.Fitting.{Fits}
use Rattle.dd_version.specs.Orders.{parts_cmp, parts_total, parts_apart}
use Rattle.dd_version.specs.declared.parts.Parts.{Parts}
use Rattle.dd_catalogue.specs.Best.{greater}
use Rattle.dd_catalogue.specs.Rising.{by_test, greater_self, greater_comm, greater_assoc}
use Rattle.dd_catalogue.specs.Joins.{JoinLaws}

-- the second version is the greater one
abbrev pub IsLess : Parts → Parts → Type 0
IsLess v w = is_lt (parts_cmp v w) ≡ true

greater_fits : (v w : Parts) → Fits v → Fits w → Fits (greater parts_cmp v w)
greater_fits v w f g = by_test (is_lt (parts_cmp v w)) (λ e. rw e g) (λ e. rw e f)

pub version_laws : JoinLaws Fits (greater parts_cmp)
version_laws = record {
  kept = greater_fits;
  commutative = λ x y f g. greater_comm parts_total parts_apart x y;
  associative = λ x y z f g h. greater_assoc parts_total parts_apart x y z;
  idempotent = λ x f. greater_self parts_total x;
}
