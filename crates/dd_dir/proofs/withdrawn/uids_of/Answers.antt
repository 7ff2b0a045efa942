use Rattle.std.proofs.Common.{rules, tests, ◌++◌, ◌∙◌, ◌==◌, ap, sym}
use Rattle.std.proofs.lemmas.Iterator.{items_from_drains}
use Rattle.std.proofs.lemmas.Iterator.Consumers.{YieldsList-at, YieldsList-from_filter_map}
use Rattle.std.proofs.lemmas.Iterator.Splits.{YieldsList-from_slice_split}
use Rattle.std.proofs.lemmas.Result.{err_from_is_err_and}
use Rattle.dd_dir.specs.Withdrawn.{uid_in}
use Rattle.dd_walk.specs.WithdrawnPieces.{pieces_of}
use Rattle.dd_dir.proofs.WithdrawnUids.{map_same, some_piece, uids_taken}
use Rattle.dd_dir.proofs.withdrawn.uids_of.Goals as goal

pub returns-in_err-uids-clause-some : goal.returns-in_err-uids-clause-some
returns-in_err-uids-clause-some c =
    let p = err_from_is_err_and c.from_residual.result c.from_residual.ensures.1 in
    rw p.1 (some_piece c.args.value.now)

pub returns-in_err-extend-clause-some : goal.returns-in_err-extend-clause-some
returns-in_err-extend-clause-some c =
    let p = err_from_is_err_and c.from_residual-in_err-extend.result c.from_residual-in_err-extend.ensures.1 in
    rw p.1 (some_piece c.args.value.now)

pub returns-clause-all : goal.returns-clause-all
returns-clause-all c =
    let ran = c.in_ok-extend.ensures.ran in
    let ended = ran.4.1 in
    ran.3.0 ∙ ap (λ front. front ++ ran.1) c.in_ok-uids.ensures.items
    ∙ sym (map_same ran.1) ∙ items_from_drains ran.1 (ended.0, ended.1, λ _. (ran.4.0, ended.2))
    (YieldsList-at ran.2 (YieldsList-from_filter_map _ uid_in
    (YieldsList-at c.filter_map.ensures.source (YieldsList-from_slice_split _ (λ byte. byte == 92) c.args.value.now
    c.split-2.ensures.rest c.split-2.ensures.done c.split-2.ensures.closure (λ x b q k. search (rules, tests))))
    c.filter_map.ensures.closure (λ x r q k. search (rules, tests))))
    ∙ uids_taken (pieces_of c.args.value.now) c.requires.each
