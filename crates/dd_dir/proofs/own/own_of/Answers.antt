use Rattle.std.proofs.Common.{◌≡◌, inl, inr, List, map, ap, sym, ◌∙◌, subst}
use Rattle.std.specs.Prelude.{All}
use Rattle.std.proofs.lemmas.Result.{err_from_is_err_and}
use Rattle.dd_walk.specs.ForestViews.{walk_view}
use Rattle.dd_dir.specs.Own.{Listed}
use Rattle.dd_dir.specs.OwnVersions.{NamesSome, Tells}
use Rattle.dd_dir.specs.OwnViews.{IsListed, listed_view}
use Rattle.dd_walk.specs.WithdrawnPieces.{withdrawn_of}
use Rattle.dd_dir.proofs.CheckedRecords.{listed_sound}
use Rattle.dd_dir.proofs.ListedFirst.{walk_lists}
use Rattle.dd_dir.proofs.ListedImages.{each_listed}
use Rattle.dd_dir.proofs.OwnAnswers.{answers_bad, answers_fault}
use Rattle.dd_dir.proofs.own.own_of.Goals as goal

pub returns-in_err-check_withdrawn : goal.returns-in_err-check_withdrawn
returns-in_err-check_withdrawn c =
    let walk = walk_view c.args.forest.now in
    let p = err_from_is_err_and c.from_residual.result
    c.from_residual.ensures.1 in
    rw (p.1, p.2) (answers_bad walk (NamesSome walk) (Tells (withdrawn_of walk)) c.in_err-check_withdrawn.field-0.0
    c.in_err-check_withdrawn.ensures.err)

pub returns-in_err-images : goal.returns-in_err-images
returns-in_err-images c =
    let walk = walk_view c.args.forest.now in
    let p = err_from_is_err_and c.from_residual-in_err-images.result c.from_residual-in_err-images.ensures.1 in
    rw (p.1, p.2) (answers_fault walk (NamesSome walk) (Tells (withdrawn_of walk)) c.in_err-images.field-0.0
    c.in_ok-check_withdrawn.ensures.ok (λ some. inl some) c.in_err-images.ensures)

pub own_of_images-requires-clause-listed : goal.own_of_images-requires-clause-listed
own_of_images-requires-clause-listed c =
    let e = c.in_ok-images.ensures in
    let seen : map listed_view c.deref.result.now ≡ e.0 = ap (λ s. map listed_view s) c.deref.ensures.value ∙ e.2 in
    each_listed c.deref.result.now
    (subst (λ (s : List Listed). All IsListed s) (sym seen) (listed_sound (walk_view c.args.forest.now).trees e.0 e.1))

pub own_of_images-requires-clause-named : goal.own_of_images-requires-clause-named
own_of_images-requires-clause-named c = c.in_ok-check_withdrawn.ensures.ok

pub returns-in_err-own_of_images : goal.returns-in_err-own_of_images
returns-in_err-own_of_images c =
    let walk = walk_view c.args.forest.now in
    let e = c.in_ok-images.ensures in
    let seen : map listed_view c.deref.result.now ≡ e.0 = ap (λ s. map listed_view s) c.deref.ensures.value ∙ e.2 in
    let p = err_from_is_err_and c.from_residual-in_err-own_of_images.result c.from_residual-in_err-own_of_images.ensures.1 in
    rw (p.1, p.2) (
      c.in_ok-check_withdrawn.ensures.ok,
      elim c.in_err-own_of_images.ensures.some [
        | inl listed ↦ inl (walk_lists walk e.0 c.deref.result.now e.1 seen listed)
        | inr named ↦ inr named
      ],
    )
