-- The folder of the image was made.
use Rattle.std.proofs.Common.{rules}
use Rattle.dd_file_set.proofs.FolderPaths.{folder_length, has_folder_of}
use Rattle.dd_file_set.proofs.images.make_folder.Goals as goal

pub returns-clause-made : goal.returns-clause-made
returns-clause-made g c = λ done path place.
    has_folder_of (g.F.Files.has_folder c.folder_in.new.self) c.args.folder.now c.as_str.result.now path c.args.file
    c.text-text.ensures.ranked (rw (c.as_str.ensures.value, ← c.text-text.ensures.exact) c.in_ok-path.ensures)
    (c.folder_in.ensures.made (search rules)) place

pub slice_bounds-file_path-end : goal.slice_bounds-file_path-end
slice_bounds-file_path-end g c = rw c.text-text.ensures.exact (folder_length c.args.file c.text-text.ensures.ranked)
