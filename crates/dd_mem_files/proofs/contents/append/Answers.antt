-- The map gets the longer bytes at the path, or the same.
use Rattle.std.proofs.Common.{◌≡◌, ◌++◌, Some, ap, sym, ◌∙◌, rules}
use Rattle.std.specs.Prelude.{option_map}
use Rattle.dd_mem_files.specs.MemFiles.{bytes_at, listed}
use Rattle.dd_mem_files.proofs.Stored.{lookup-listed, sets_file, keeps_files}
use Rattle.dd_mem_files.proofs.contents.append.Goals as goal

pub returns-in-Ok-clause-ok : goal.returns-in-Ok-clause-ok
returns-in-Ok-clause-ok c =
    let w = c.extend_from_slice.new.self in
    let had : bytes_at (listed c.args.files.now) c.args.path.now ≡ Some c.in-Some.file.now.items =
    lookup-listed c.args.path.now c.args.files.now ∙ ap (option_map (λ v. v.items)) (sym c.in-Some.ensures.value) in
    let sets = sets_file c.args.files.now (c.get_mut.follows.lender w) c.args.path.now w
    (c.in-Some.file.now.items ++ c.args.bytes.now) c.in-Ok.ensures.items
    ((c.get_mut.follows.holds w).3 (search rules)) in
    (c.in-Some.file.now.items, had, sets)

pub returns-in-Err-clause-err : goal.returns-in-Err-clause-err
returns-in-Err-clause-err c =
    let w = c.extend_from_slice.new.self in
    let had : bytes_at (listed c.args.files.now) c.args.path.now ≡ Some c.in-Some.file.now.items =
    lookup-listed c.args.path.now c.args.files.now ∙ ap (option_map (λ v. v.items)) (sym c.in-Some.ensures.value) in
    let sets = sets_file c.args.files.now (c.get_mut.follows.lender w) c.args.path.now w
    c.in-Some.file.now.items c.in-Err.ensures.items ((c.get_mut.follows.holds w).3 (search rules)) in
    keeps_files _ _ c.args.path.now c.in-Some.file.now.items had sets
