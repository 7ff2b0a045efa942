-- The map gets the bytes at the path.
use Rattle.dd_mem_files.proofs.Stored.{sets_file}
use Rattle.dd_mem_files.proofs.contents.set.Goals as goal

pub returns-clause-ok : goal.returns-clause-ok
returns-clause-ok c =
    let same = c.in_ok-bytes.ensures.items_if_clones_equal (λ x y e. e) in
    let sets = sets_file c.args.files.now c.insert.new.self _ c.in_ok-bytes.bytes _ same
    c.in_ok-insert.ensures.updates in
    let path = c.in_ok-path.ensures.ok in
    rw (← path) sets
