-- The files say where they find it at its recorded path.
use Rattle.std.proofs.Common.{option_map, rules, string_bytes}
use Rattle.dd_elem.specs.FileIdForm.{IsFileId}
use Rattle.dd_walk.specs.ForestViews.{tree_view}
use Rattle.dd_report.proofs.FoundRows.{path_found}
use Rattle.dd_report.proofs.found_records.path_of.Goals as goal

pub returns-clause-found : goal.returns-clause-found
returns-clause-found g c =
    let id : IsFileId c.file_in-file.result.now = search rules in
    path_found g.F.FoundPaths.is_shown (g.F.Files.held c.args.files.now) c.args.listing.folder.now c.found_path.result
    (λ path. option_map (λ at. string_bytes at) path) (tree_view c.args.tree.now).node c.file_in-file.result.now _ _
    c.file_in-file.ensures id c.as_str.ensures.value c.in_ok-path.ensures c.found_path.ensures.found
