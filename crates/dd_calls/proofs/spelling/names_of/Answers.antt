-- The name of one spelling more was put.
use Rattle.std.proofs.Common.{◌∙◌}
use Rattle.dd_calls.proofs.SpelledNames.{all_names, name_more}
use Rattle.dd_calls.proofs.spelling.names_of.Goals as goal

pub loop-spelling-init : goal.loop-spelling-init
loop-spelling-init c = c.new-names.ensures.texts

pub loop-spelling-preserved : goal.loop-spelling-preserved
loop-spelling-preserved c =
    name_more c.spellings-spelling-items.result c.loop-spelling.spelling-index _ c.args.name.now _ _ _
    c.loop-spelling-test.true (c.spellings-spelling-items.ensures c.args.name.now)
    (c.deref.ensures.value ∙ c.in_ok-spelled.ensures) c.loop-spelling.invariant c.in_ok-put.ensures

pub returns : goal.returns
returns c =
    all_names c.spellings-spelling-items.result c.loop-spelling.spelling-index c.args.name.now _
    c.loop-spelling-test.false (c.spellings-spelling-items.ensures c.args.name.now) c.loop-spelling.invariant
