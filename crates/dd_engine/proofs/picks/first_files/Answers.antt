use Rattle.std.proofs.Common.{◌∙◌, Some, ap, arith, map, rules, sym}
use Rattle.std.proofs.lemmas.List.{nil_from_length, take_all}
use Rattle.std.specs.List.{zip}
use Rattle.dd_engine.specs.Picking.{file_of, files_of, found}
use Rattle.dd_engine.proofs.FilesLeftOut.{first_in}
use Rattle.dd_engine.proofs.ImagePicks.{twice}
use Rattle.dd_engine.proofs.KeptFiles.{mark_held, none_filed, none_kept, one_more}
use Rattle.dd_engine.proofs.picks.first_files.Goals as goal

pub returns-then-is_empty-clause-all : goal.returns-then-is_empty-clause-all
returns-then-is_empty-clause-all g c =
    let files = files_of (zip c.args.origins.now c.args.versions.now) in
    ap (map (λ file. Some file)) c.new.ensures.items
    ∙ ap (map (λ v. found files (file_of v))) (sym (none_kept files c.args.best.now c.requires
    (none_filed c.args.origins.now c.args.versions.now (nil_from_length c.args.versions.now (search rules)))))

pub first_mark-requires-clause-held : goal.first_mark-requires-clause-held
first_mark-requires-clause-held g c = rw c.deref.ensures.value
    (mark_held (files_of (zip c.args.origins.now c.args.versions.now)) c.in_ok-marks_of.field-0.items
    c.in_ok-marks.marks.items c.args.best.now c.versions-list.result.now (λ v. v.now) c.loop-version.version-index
    c.version-item.result c.requires c.in_ok-marks_of.ensures c.in_ok-marks.ensures.stable c.versions-list.ensures.all
    c.loop-version-test.true c.version-item.is)

pub loop-version-preserved : goal.loop-version-preserved
loop-version-preserved g c =
    let files = files_of (zip c.args.origins.now c.args.versions.now) in
    ap (map (λ file. Some file)) c.in_ok-push.ensures.items
    ∙ one_more (λ v. found files (file_of v.now)) c.versions-list.result.now c.loop-version.version-index
    c.version-item.result c.loop-version.files.items c.first_mark.result c.loop-version-test.true c.version-item.is
    (first_in files c.in_ok-marks_of.field-0.items c.in_ok-marks.marks.items c.deref.result.now
    c.version-item.result.now c.first_mark.result c.in_ok-marks_of.ensures c.in_ok-marks.ensures.stable
    c.deref.ensures.value c.first_mark.ensures) c.loop-version.invariant

pub returns-clause-all : goal.returns-clause-all
returns-clause-all g c =
    let files = files_of (zip c.args.origins.now c.args.versions.now) in
    let list = c.versions-list.result.now in
    c.loop-version.invariant
    ∙ ap (map (λ v. found files (file_of v.now))) (take_all c.loop-version.version-index list (omega arith))
    ∙ sym (twice (λ v. found files (file_of v)) (λ v. v.now) list)
    ∙ ap (map (λ v. found files (file_of v))) c.versions-list.ensures.all
