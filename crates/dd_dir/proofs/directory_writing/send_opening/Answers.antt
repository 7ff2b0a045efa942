use Rattle.std.proofs.Common.{◌<◌, ◌^◌, map, rules}
use Rattle.std.proofs.lemmas.Result.{err_from_is_err_and}
use Rattle.dd_records.specs.Cells.{cell_element}
use Rattle.dd_stream.proofs.Going.{first_fails, then_sends, sends_same}
use Rattle.dd_dir.proofs.DirectoryTexts.{opening_parts, second_piece_fits, third_piece_fits}
use Rattle.dd_dir.proofs.directory_writing.send_opening.Goals as goal

pub returns-in_err-sent : goal.returns-in_err-sent
returns-in_err-sent g c =
    let p = err_from_is_err_and c.from_residual.result c.from_residual.ensures.1 in
    let label = c.args.plan.now.label in
    let versions = c.args.plan.now.versions in
    let whole = opening_parts label versions c.label-label.result.now c.directory_meta.result
    (map cell_element c.front_cells-front.result) c.first_root.result c.last_root.result c.args.count
    c.label-label.ensures c.directory_meta.ensures c.front_cells-front.ensures.exact
    (c.first_root.ensures label versions c.records-records.ensures.all)
    (c.last_root.ensures label versions c.records-records.ensures.all) in
    rw (p.1, p.2) (sends_same _ _ _ _ _ _ _ _ whole (first_fails _ _ _ _ _ _ _ _ c.in_err-sent.ensures))

pub send_cells-requires-clause-fits : goal.send_cells-requires-clause-fits
send_cells-requires-clause-fits g c =
    let label = c.args.plan.now.label in
    let versions = c.args.plan.now.versions in
    let whole = opening_parts label versions c.label-label.result.now c.directory_meta.result
    (map cell_element c.front_cells-front.result) c.first_root.result c.last_root.result c.args.count
    c.label-label.ensures c.directory_meta.ensures c.front_cells-front.ensures.exact
    (c.first_root.ensures label versions c.records-records.ensures.all)
    (c.last_root.ensures label versions c.records-records.ensures.all) in
    second_piece_fits _ _ _ _ c.in_ok-sent.sent whole c.requires c.in_ok-sent.ensures.ok.0

pub returns-in_err-sent-2 : goal.returns-in_err-sent-2
returns-in_err-sent-2 g c =
    let p = err_from_is_err_and c.from_residual-in_err-sent-2.result c.from_residual-in_err-sent-2.ensures.1 in
    let label = c.args.plan.now.label in
    let versions = c.args.plan.now.versions in
    let whole = opening_parts label versions c.label-label.result.now c.directory_meta.result
    (map cell_element c.front_cells-front.result) c.first_root.result c.last_root.result c.args.count
    c.label-label.ensures c.directory_meta.ensures c.front_cells-front.ensures.exact
    (c.first_root.ensures label versions c.records-records.ensures.all)
    (c.last_root.ensures label versions c.records-records.ensures.all) in
    rw (p.1, p.2) (sends_same _ _ _ _ _ _ _ _ whole (then_sends _ _ _ _ _ _ _ _ _ _ _ c.in_ok-sent.ensures
    (first_fails _ _ _ _ _ _ _ _ c.in_err-sent-2.ensures)))

pub send_header-requires : goal.send_header-requires
send_header-requires g c =
    let label = c.args.plan.now.label in
    let versions = c.args.plan.now.versions in
    let whole = opening_parts label versions c.label-label.result.now c.directory_meta.result
    (map cell_element c.front_cells-front.result) c.first_root.result c.last_root.result c.args.count
    c.label-label.ensures c.directory_meta.ensures c.front_cells-front.ensures.exact
    (c.first_root.ensures label versions c.records-records.ensures.all)
    (c.last_root.ensures label versions c.records-records.ensures.all) in
    third_piece_fits _ _ _ _ c.in_ok-sent.sent c.in_ok-sent-2.sent whole c.requires c.in_ok-sent.ensures.ok.0
    c.in_ok-sent-2.ensures.ok.0

pub returns : goal.returns
returns g c =
    let label = c.args.plan.now.label in
    let versions = c.args.plan.now.versions in
    let whole = opening_parts label versions c.label-label.result.now c.directory_meta.result
    (map cell_element c.front_cells-front.result) c.first_root.result c.last_root.result c.args.count
    c.label-label.ensures c.directory_meta.ensures c.front_cells-front.ensures.exact
    (c.first_root.ensures label versions c.records-records.ensures.all)
    (c.last_root.ensures label versions c.records-records.ensures.all) in
    let room : c.args.count < 2 ^ 32 = search rules in
    sends_same _ _ _ _ _ _ _ _ whole (then_sends _ _ _ _ _ _ _ _ _ _ _ c.in_ok-sent.ensures
    (then_sends _ _ _ _ _ _ _ _ _ _ _ c.in_ok-sent-2.ensures (c.send_header.ensures.sends room)))
