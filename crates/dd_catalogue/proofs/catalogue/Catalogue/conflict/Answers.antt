use Rattle.std.proofs.Common.{◌≡◌, sym, ◌∙◌, ap, subst}
use Rattle.std.proofs.lemmas.Result.{IfOk-weaker}
use Rattle.dd_catalogue.proofs.FirstConflicts.{first_conflict_is_first}
use Rattle.dd_catalogue.specs.Conflicts.{IsConflict, first_conflict}
use Rattle.dd_catalogue.proofs.catalogue.Catalogue.conflict.Goals as goal

pub returns-clause-first : goal.returns-clause-first
returns-clause-first c =
    let m = c.args.self.now.versions in
    IfOk-weaker c.first_conflict.result (λ pair. pair ≡ first_conflict c.versions.result.now) (λ pair. IsConflict m pair)
    (λ pair is. subst (λ x. IsConflict m x) (sym (is ∙ ap first_conflict c.versions.ensures.all))
    (first_conflict_is_first m c.versions.ensures.rising))
    c.first_conflict.ensures.pair
