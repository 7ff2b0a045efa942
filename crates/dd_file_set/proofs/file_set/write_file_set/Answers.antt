-- The images were made and stored, then the directory, which was stored, too; or one of these steps was refused.
use Rattle.std.proofs.Common.{◌∙◌}
use Rattle.dd_file_set.proofs.MadeInOrder.{all_steps, free_unstored, images_alone, images_then, images_then_stored}
use Rattle.dd_file_set.proofs.file_set.write_file_set.Goals as goal

pub returns-clause-made : goal.returns-clause-made
returns-clause-made g c = λ done. record {
  copied = g.F.Files.held c.copy_images.new.files;
  images = c.in_ok-copy_images.ensures.made cc;
  path = c.as_str.result.now;
  place =
      let is = c.in_ok-path.ensures in
      rw c.as_str.ensures.value (record { bare = is.bare; ended = is.ended; apart = is.apart });
  free = free_unstored c.as_str.result.now _
      (rw (c.in_ok-store.ensures.stored cc, c.folder.ensures.kept) at c.in-Ok.ensures.free cc);
  directory = all_steps c.as_str.result.now _ _ _ _ _
      (rw c.folder.ensures.kept at c.in_ok-store.ensures.stored cc) (c.in-Ok.ensures.holds cc)
      (c.hide_line.ensures.kept ∙ c.in_ok-store-2.ensures.stored cc);
  visited = c.in-Ok.ensures.visited cc;
  again = c.in-Ok.ensures.again cc;
}

pub returns-in_err-copy_images-clause-last : goal.returns-in_err-copy_images-clause-last
returns-in_err-copy_images-clause-last g c =
    images_alone c.args.set.now.folder.now _ _ c.copy_images.ensures.adds

pub returns-then-is_err-clause-last : goal.returns-then-is_err-clause-last
returns-then-is_err-clause-last g c =
    rw c.folder.ensures.kept (images_alone c.args.set.now.folder.now _ _ c.copy_images.ensures.adds)

pub returns-in_err-path-clause-last : goal.returns-in_err-path-clause-last
returns-in_err-path-clause-last g c =
    rw c.folder.ensures.kept (images_alone c.args.set.now.folder.now _ _ c.copy_images.ensures.adds)

pub returns-in_err-store-clause-last : goal.returns-in_err-store-clause-last
returns-in_err-store-clause-last g c =
    rw (c.in_err-store.ensures.kept cc, c.folder.ensures.kept)
    (images_alone c.args.set.now.folder.now _ _ c.copy_images.ensures.adds)

pub returns-in-Err-clause-last : goal.returns-in-Err-clause-last
returns-in-Err-clause-last g c =
    let is = c.in_ok-path.ensures in
    images_then (g.O.Origins.stands_at c.args.set.now.origins.now) (g.O.Origins.may_link c.args.set.now.origins.now)
    (g.O.Origins.said c.args.set.now.origins.now)
    c.args.set.now.folder.now c.args.set.now.plan.now c.args.set.now.picks.now c.as_str.result.now
    (rw c.as_str.ensures.value (record { bare = is.bare; ended = is.ended; apart = is.apart })) _ _ _ _
    (c.in_ok-copy_images.ensures.made cc) (rw c.folder.ensures.kept at c.in_ok-store.ensures.stored cc)
    c.make_directory.ensures.adds c.make_directory.ensures.part

pub returns-in_err-store-2-clause-last : goal.returns-in_err-store-2-clause-last
returns-in_err-store-2-clause-last g c =
    let is = c.in_ok-path.ensures in
    rw (c.in_err-store-2.ensures.kept cc)
    (images_then (g.O.Origins.stands_at c.args.set.now.origins.now) (g.O.Origins.may_link c.args.set.now.origins.now)
    (g.O.Origins.said c.args.set.now.origins.now)
    c.args.set.now.folder.now c.args.set.now.plan.now c.args.set.now.picks.now c.as_str.result.now
    (rw c.as_str.ensures.value (record { bare = is.bare; ended = is.ended; apart = is.apart })) _ _ _ _
    (c.in_ok-copy_images.ensures.made cc) (rw c.folder.ensures.kept at c.in_ok-store.ensures.stored cc)
    c.make_directory.ensures.adds c.make_directory.ensures.part)

pub returns-clause-last : goal.returns-clause-last
returns-clause-last g c =
    let is = c.in_ok-path.ensures in
    images_then_stored (g.O.Origins.stands_at c.args.set.now.origins.now)
    (g.O.Origins.may_link c.args.set.now.origins.now) (g.O.Origins.said c.args.set.now.origins.now)
    c.args.set.now.folder.now c.args.set.now.plan.now c.args.set.now.picks.now c.as_str.result.now
    (rw c.as_str.ensures.value (record { bare = is.bare; ended = is.ended; apart = is.apart })) _ _ _ _ _
    (c.in_ok-copy_images.ensures.made cc) (rw c.folder.ensures.kept at c.in_ok-store.ensures.stored cc)
    c.make_directory.ensures.adds c.make_directory.ensures.part
    (c.hide_line.ensures.kept ∙ c.in_ok-store-2.ensures.stored cc)
