use Rattle.std.proofs.Common.{◌≡◌, ◌≢◌, inl, inr, List, [], map, ap, sym, ◌∙◌, subst}
use Rattle.std.specs.Prelude.{All}
use Rattle.std.proofs.lemmas.Result.{err_from_is_err_and}
use Rattle.dd_catalogue.specs.Contents.{Contents, held_of}
use Rattle.dd_walk.specs.ForestViews.{walk_view}
use Rattle.dd_dir.specs.Own.{Listed}
use Rattle.dd_dir.specs.OwnVersions.{NamesSome, version_of}
use Rattle.dd_dir.specs.OwnViews.{IsListed, listed_view}
use Rattle.dd_walk.specs.Trees.{Walk}
use Rattle.dd_walk.specs.WithdrawnPieces.{withdrawn_of}
use Rattle.dd_dir.proofs.CheckedRecords.{listed_sound}
use Rattle.dd_dir.proofs.ListedFirst.{walk_lists}
use Rattle.dd_dir.proofs.ListedImages.{each_listed}
use Rattle.dd_dir.proofs.OwnAnswers.{answers_bad, answers_fault}
use Rattle.dd_dir.proofs.own.catalogue_of.Goals as goal

abbrev IsCatalogueOf : Walk → List Listed → Contents → Type 0
IsCatalogueOf walk images catalogue =
    catalogue ≡ held_of (record { versions = map version_of images; withdrawn = withdrawn_of walk })

pub returns-in_err-check_withdrawn : goal.returns-in_err-check_withdrawn
returns-in_err-check_withdrawn c =
    let walk = walk_view c.args.forest.now in
    let p = err_from_is_err_and c.from_residual.result
    c.from_residual.ensures.1 in
    rw (p.1, p.2) (answers_bad walk (NamesSome walk) (IsCatalogueOf walk) c.in_err-check_withdrawn.field-0.0
    c.in_err-check_withdrawn.ensures.err)

pub returns-in_err-images : goal.returns-in_err-images
returns-in_err-images c =
    let walk = walk_view c.args.forest.now in
    let p = err_from_is_err_and c.from_residual-in_err-images.result c.from_residual-in_err-images.ensures.1 in
    rw (p.1, p.2) (answers_fault walk (NamesSome walk) (IsCatalogueOf walk) c.in_err-images.field-0.0
    c.in_ok-check_withdrawn.ensures.ok (λ some. inl some) c.in_err-images.ensures)

pub versions-requires : goal.versions-requires
versions-requires c =
    let e = c.in_ok-images.ensures in
    let seen : map listed_view c.deref.result.now ≡ e.0 = ap (λ s. map listed_view s) c.deref.ensures.value ∙ e.2 in
    each_listed c.deref.result.now
    (subst (λ (s : List Listed). All IsListed s) (sym seen) (listed_sound (walk_view c.args.forest.now).trees e.0 e.1))

pub returns-in_err-versions : goal.returns-in_err-versions
returns-in_err-versions c =
    let e = c.in_ok-images.ensures in
    let seen : map listed_view c.deref.result.now ≡ e.0 = ap (λ s. map listed_view s) c.deref.ensures.value ∙ e.2 in
    let p = err_from_is_err_and c.from_residual-in_err-versions.result c.from_residual-in_err-versions.ensures.1 in
    rw (p.1, p.2) (
      c.in_ok-check_withdrawn.ensures.ok,
      inl (walk_lists (walk_view c.args.forest.now) e.0 c.deref.result.now e.1 seen c.in_err-versions.ensures.some),
    )

pub returns-in_err-withdrawn : goal.returns-in_err-withdrawn
returns-in_err-withdrawn c =
    let p = err_from_is_err_and c.from_residual-in_err-withdrawn.result c.from_residual-in_err-withdrawn.ensures.1 in
    rw (p.1, p.2) (c.in_ok-check_withdrawn.ensures.ok, inr c.in_err-withdrawn.ensures.some)

pub returns-in_err-from_parts : goal.returns-in_err-from_parts
returns-in_err-from_parts c =
    let e = c.in_ok-images.ensures in
    let seen : map listed_view c.deref.result.now ≡ e.0 = ap (λ s. map listed_view s) c.deref.ensures.value ∙ e.2 in
    let p = err_from_is_err_and c.from_residual-in_err-from_parts.result
    c.from_residual-in_err-from_parts.ensures.1 in
    rw (p.1, p.2) (
      c.in_ok-check_withdrawn.ensures.ok,
      elim c.in_err-from_parts.ensures.some [
        | inl versions ↦ (
            let some : c.deref.result.now ≢ [] = λ none. versions (c.deref-2.ensures.value
            ∙ c.in_ok-versions.ensures.all ∙ ap (λ s. map version_of (map listed_view s)) none) in
            inl (walk_lists (walk_view c.args.forest.now) e.0 c.deref.result.now e.1 seen some))
        | inr named ↦ inr (λ none. named (c.in_ok-withdrawn.ensures.all ∙ none))
      ],
    )
