use Rattle.std.proofs.Common.{◌&&◌, ◌∙◌, length, nat_eq}
use Rattle.std.specs.Cmp.Lexicographic.{pointwise}
use Rattle.dd_elem.proofs.Sameness.{same_uid}
use Rattle.dd_elem.specs.InPlace.{filled}
use Rattle.dd_catalogue.proofs.SameVersions.{same_by_bytes}
use Rattle.dd_catalogue.proofs.catalogue.are_same.Goals as goal

pub returns : goal.returns
returns c =
    c.eq.ensures ∙ same_by_bytes
    (λ x y. pointwise nat_eq (filled 64 x) (filled 64 y) && nat_eq (length x) (length y)) same_uid
    c.args.one.now c.args.other.now
