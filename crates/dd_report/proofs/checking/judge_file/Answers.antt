-- Keys are compared only of an image, where they are asked for.
use Rattle.std.proofs.Common.{◌∙◌, sym}
use Rattle.dd_walk.specs.ForestViews.{tree_view}
use Rattle.dd_report.specs.Agreements.{is_image, standing_below}
use Rattle.dd_report.specs.Batches.{judged}
use Rattle.dd_report.specs.Checking.{most_read}
use Rattle.dd_report.proofs.Judging.{by_digest_found, keys_first, keys_found}
use Rattle.dd_report.proofs.checking.judge_file.Goals as goal

pub returns-then-compares_keys-clause-found : goal.returns-then-compares_keys-clause-found
returns-then-compares_keys-clause-found g c =
    keys_found g.R.Read most_read c.args.reader.now c.judge_by_keys.new.reader c.args.check.comparison
    (tree_view c.args.tree.now).node c.args.inherited c.judge_by_keys.new.slot c.judge_by_keys.result
    (sym c.compares_keys.ensures ∙ c.if-compares_keys.true) c.judge_by_keys.ensures.found

pub returns-else-compares_keys-clause-found : goal.returns-else-compares_keys-clause-found
returns-else-compares_keys-clause-found g c = λ above inherits.
    by_digest_found g.R.Read most_read c.args.reader.now c.judge_by_digest.new.reader c.args.check.comparison
    (standing_below above (tree_view c.args.tree.now).node)
    (judged c.judge_by_digest.result c.judge_by_digest.new.batch.next.slot)
    (sym c.compares_keys.ensures ∙ c.if-compares_keys.false) c.judge_by_digest.ensures.found

pub returns-then-compares_keys-clause-memory : goal.returns-then-compares_keys-clause-memory
returns-then-compares_keys-clause-memory g c = λ err.
    keys_first c.args.check.comparison.keys (is_image (tree_view c.args.tree.now).node) c.compares_keys.result
    c.compares_keys.ensures c.if-compares_keys.true
