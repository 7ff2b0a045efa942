-- Versions that compare equal are equal, and only these.
use Rattle.std.proofs.Common.{◌≡◌, ◌∙◌, ap, refl, subst, sym, true}
use Rattle.std.specs.Cmp.{tied_itself}
use Rattle.std.specs.Ordering.{is_eq}
use Rattle.std.specs.declared.cmp.Ordering.{Ordering}
use Rattle.std.specs.declared.cmp.Ordering.TheVariants.{Less, Equal, Greater}
use Rattle.dd_version.specs.Orders.{parts_apart, parts_cmp, parts_total}
use Rattle.dd_version.specs.declared.parts.Parts.{Parts}
use Rattle.dd_filing.proofs.agreeing.is_same.Goals as goal

tied : (order : Ordering) → is_eq order ≡ true → order ≡ Equal
tied Less e = cc
tied Equal e = refl
tied Greater e = cc

pub returns : goal.returns
returns c =
    let one = c.args.one.now in
    let other = c.args.other.now in
    let is : c.is_eq.result ≡ is_eq (parts_cmp one other) = c.is_eq.ensures ∙ ap is_eq c.compare.ensures in (
      λ yes. parts_apart one other (tied (parts_cmp one other) (sym is ∙ yes)),
      λ same. is ∙ subst (λ (version : Parts). is_eq (parts_cmp one version) ≡ true) same
          (ap is_eq (tied_itself parts_total one)),
    )
