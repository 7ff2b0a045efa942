use Rattle.std.proofs.Common.{rules}
use Rattle.std.proofs.lemmas.List.Sorted.{IsPartitionPoint-from_clause}
use Rattle.std.specs.Ordering.{is_lt}
use Rattle.dd_engine.specs.Picking.{file_cmp, file_of, key_of}
use Rattle.dd_engine.proofs.FirstMarks.{first_found, parted}
use Rattle.dd_engine.proofs.marks.first_mark.Goals as goal

pub bounds-marks-first : goal.bounds-marks-first
bounds-marks-first g c =
    let file = file_of c.args.version.now in
    let point = IsPartitionPoint-from_clause (λ mark. is_lt (file_cmp (key_of mark) file)) _ _
    c.partition_point-first.ensures.partitioned (parted c.args.marks.now file c.requires.order)
    (λ a r q k. search rules) in
    (first_found c.args.marks.now file c.partition_point-first.result c.requires.order c.requires.held point).0

pub bounds-marks-first-2 : goal.bounds-marks-first-2
bounds-marks-first-2 g c =
    let file = file_of c.args.version.now in
    let point = IsPartitionPoint-from_clause (λ mark. is_lt (file_cmp (key_of mark) file)) _ _
    c.partition_point-first.ensures.partitioned (parted c.args.marks.now file c.requires.order)
    (λ a r q k. search rules) in
    (first_found c.args.marks.now file c.partition_point-first.result c.requires.order c.requires.held point).0

pub returns : goal.returns
returns g c =
    let file = file_of c.args.version.now in
    let point = IsPartitionPoint-from_clause (λ mark. is_lt (file_cmp (key_of mark) file)) _ _
    c.partition_point-first.ensures.partitioned (parted c.args.marks.now file c.requires.order)
    (λ a r q k. search rules) in
    (first_found c.args.marks.now file c.partition_point-first.result c.requires.order c.requires.held point).1
    c.index-marks-first.result
