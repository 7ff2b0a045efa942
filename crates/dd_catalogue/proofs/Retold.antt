-- What becomes of a version, as its catalogue and as the table below it say it.
use Rattle.std.specs.Prelude.{◌≡◌, false, Option, Some, None}
use Rattle.std.specs.Ordering.{is_lt}
use Rattle.std.proofs.Common.{refl, ◌∙◌, ap}
use Rattle.dd_version.specs.Orders.{parts_cmp}
use Rattle.dd_version.specs.declared.parts.Parts.{Parts}
use Rattle.dd_catalogue.specs.Rising.{by_test}
use Rattle.dd_catalogue.specs.Table.{taken_by}
use Rattle.dd_catalogue.specs.Contents.{Contents, is_withdrawn}
use Rattle.dd_catalogue.specs.Taking.{as_took, took_by, took_of}
use Rattle.dd_catalogue.specs.Versions.{kept}
use Rattle.dd_catalogue.specs.declared.best.Taken.{Taken}
use Rattle.dd_catalogue.specs.declared.outcomes.Took.{Took}

pub retold : (v : Parts) (held : Option Parts) (t : Taken Parts) → t ≡ taken_by parts_cmp v held
    → as_took t ≡ took_by v held
retold v None t e = ap as_took e
retold v (Some w) t e = ap as_took e ∙ by_test (is_lt (parts_cmp w v)) (λ l. rw l refl) (λ l. rw l refl)

-- where its instance is not withdrawn
pub took_where_free : (c : Contents) (v : Parts) (t : Took) → is_withdrawn c.withdrawn v.instance ≡ false
    → t ≡ took_by v (kept c.versions v.instance) → t ≡ took_of c v
took_where_free c v t e is = rw e is
