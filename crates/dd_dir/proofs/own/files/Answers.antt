use Rattle.std.proofs.Common.{◌∷◌, [], ◌∙◌, ap, map}
use Rattle.std.proofs.lemmas.List.{map-append}
use Rattle.dd_dir.specs.OwnVersions.{file_of}
use Rattle.dd_dir.proofs.ListedImages.{one_more}
use Rattle.dd_dir.proofs.own.files.Goals as goal

pub loop-image-preserved : goal.loop-image-preserved
loop-image-preserved c =
    one_more file_of c.args.images.now c.loop-image.image-index c.image-item.result
    (map (λ file. file.now) c.loop-image.files.items) (map (λ file. file.now) c.push.new.self.items)
    c.row_value.result.now c.loop-image-test.true c.image-item.is c.loop-image.invariant
    (ap (λ files. map (λ file. file.now) files) c.in_ok-push.ensures.items
    ∙ map-append (λ file. file.now) c.loop-image.files.items (_ ∷ []))
    c.row_value.ensures
