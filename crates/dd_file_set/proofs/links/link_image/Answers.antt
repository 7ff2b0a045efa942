-- The file of the pick has a hard link, and nothing else changed what the files hold.
use Rattle.std.proofs.Common.{◌≡◌, ◌∙◌, Err, ap, refl}
use Rattle.dd_files.proofs.KeptFiles.{said_is, said_linked}
use Rattle.dd_files.specs.declared.files.LinkFault.TheVariants as link
use Rattle.dd_file_set.proofs.ChangedFiles.{changed_by, unlinked_file}
use Rattle.dd_file_set.proofs.Unlinked.{bytes_by}
use Rattle.dd_file_set.specs.Made.{IsAsStored, IsImagePath}
use Rattle.dd_file_set.proofs.links.link_image.Goals as goal

pub returns-in-Err-clause-refusal : goal.returns-in-Err-clause-refusal
returns-in-Err-clause-refusal g c = c.refusal_of.ensures.work _ (c.subject.ensures.among c.requires)

pub give_link-requires : goal.give_link-requires
give_link-requires g c = c.in_ok-make_folder.ensures.made refl c.as_str-2.result.now
    (rw (c.as_str-2.ensures.value, ← c.text.ensures.exact) c.in_ok-path.ensures)

pub returns-clause-linked : goal.returns-clause-linked
returns-clause-linked g c = λ done. record {
  path = c.as_str-2.result.now;
  from = c.as_str.result.now;
  ranks = c.text.ensures.ranked;
  place = rw (c.as_str-2.ensures.value, ← c.text.ensures.exact) c.in_ok-path.ensures;
  picked = rw c.as_str.ensures.value (c.in_ok-from.ensures c.requires);
  there = bytes_by (IsAsStored c.lookup-lookup.result)
      (g.O.Origins.may_link c.args.image.now.origins.now c.args.image.now.pick) c.as_str.result.now
      (g.F.Files.held c.args.files.now) (λ bytes is. c.lookup-lookup.ensures.may bytes (c.gives_links.ensures cc) is)
      (rw (c.in_ok-make_folder.ensures.kept, c.in_ok-open_unstored.ensures.kept) at c.in-Ok.ensures.there cc);
  free = rw (c.in_ok-make_folder.ensures.kept, c.in_ok-open_unstored.ensures.kept) at c.in-Ok.ensures.free cc;
  made = c.in_ok-store_link.ensures.kept ∙ c.advance.ensures.kept
      ∙ (rw (c.in_ok-make_folder.ensures.kept, c.in_ok-open_unstored.ensures.kept) at c.in-Ok.ensures.linked cc);
}

pub returns-in_err-open_unstored-clause-adds : goal.returns-in_err-open_unstored-clause-adds
returns-in_err-open_unstored-clause-adds g c =
    said_is (IsImagePath c.args.image.now.folder.now) _ _ c.open_unstored.ensures.kept

pub returns-in_err-make_folder-clause-adds : goal.returns-in_err-make_folder-clause-adds
returns-in_err-make_folder-clause-adds g c = said_is (IsImagePath c.args.image.now.folder.now) _ _
    (c.make_folder.ensures.kept ∙ c.open_unstored.ensures.kept)

pub returns-in_err-path-clause-adds : goal.returns-in_err-path-clause-adds
returns-in_err-path-clause-adds g c = said_is (IsImagePath c.args.image.now.folder.now) _ _
    (c.make_folder.ensures.kept ∙ c.open_unstored.ensures.kept)

pub returns-in-Err-Refused-clause-adds : goal.returns-in-Err-Refused-clause-adds
returns-in-Err-Refused-clause-adds g c =
    let same = c.in-Err-Refused.ensures.kept cc in
    said_is (IsImagePath c.args.image.now.folder.now) _ _
    (same ∙ c.make_folder.ensures.kept ∙ c.open_unstored.ensures.kept)

pub returns-in-Err-clause-adds : goal.returns-in-Err-clause-adds
returns-in-Err-clause-adds g c =
    let same = c.in-Err.ensures.kept cc in
    said_is (IsImagePath c.args.image.now.folder.now) _ _
    (same ∙ c.make_folder.ensures.kept ∙ c.open_unstored.ensures.kept)

pub returns-in_err-store_link-clause-adds : goal.returns-in_err-store_link-clause-adds
returns-in_err-store_link-clause-adds g c =
    said_linked (IsImagePath c.args.image.now.folder.now) c.as_str.result.now c.as_str-2.result.now _ _
    (record {
      file = c.args.image.now.file;
      ranks = c.text.ensures.ranked;
      place = rw (c.as_str-2.ensures.value, ← c.text.ensures.exact) c.in_ok-path.ensures;
    })
    (rw (c.in_ok-make_folder.ensures.kept, c.in_ok-open_unstored.ensures.kept) at c.in-Ok.ensures.free cc)
    (c.store_link.ensures.kept ∙ c.advance.ensures.kept
    ∙ (rw (c.in_ok-make_folder.ensures.kept, c.in_ok-open_unstored.ensures.kept) at c.in-Ok.ensures.linked cc))

pub returns-clause-adds : goal.returns-clause-adds
returns-clause-adds g c =
    said_linked (IsImagePath c.args.image.now.folder.now) c.as_str.result.now c.as_str-2.result.now _ _
    (record {
      file = c.args.image.now.file;
      ranks = c.text.ensures.ranked;
      place = rw (c.as_str-2.ensures.value, ← c.text.ensures.exact) c.in_ok-path.ensures;
    })
    (rw (c.in_ok-make_folder.ensures.kept, c.in_ok-open_unstored.ensures.kept) at c.in-Ok.ensures.free cc)
    (c.store_link.ensures.kept ∙ c.advance.ensures.kept
    ∙ (rw (c.in_ok-make_folder.ensures.kept, c.in_ok-open_unstored.ensures.kept) at c.in-Ok.ensures.linked cc))

pub returns-in-Err-clause-changed : goal.returns-in-Err-clause-changed
returns-in-Err-clause-changed g c =
    let origins = c.args.image.now.origins.now in
    let pick = c.args.image.now.pick in
    changed_by (c.in-Err.fault ≡ link.Changed) _ c.refusal_of.result.fault
    (λ is. unlinked_file (g.O.Origins.stands_at origins pick) (g.O.Origins.may_link origins pick)
    (g.O.Origins.said origins pick)
    (g.O.Origins.gives_links origins) c.args.image.now.planned.now c.as_str.result.now (g.F.Files.held c.args.files.now)
    (λ bytes. ¬ IsAsStored c.lookup-lookup.result bytes) (rw c.as_str.ensures.value (c.in_ok-from.ensures c.requires))
    (c.gives_links.ensures cc) (λ bytes not may. not (c.lookup-lookup.ensures.stored bytes may))
    (rw (c.in_ok-make_folder.ensures.kept, c.in_ok-open_unstored.ensures.kept) at c.in-Err.ensures.changed (ap Err is)))
    c.refusal_of.ensures.why
