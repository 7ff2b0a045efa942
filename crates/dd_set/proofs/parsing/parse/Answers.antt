use Rattle.std.proofs.Common.{arith, rules}
use Rattle.dd_set.specs.Views.{set_view}
use Rattle.dd_grammar.proofs.Laws.{is_found, is_only}
use Rattle.dd_set.proofs.parsing.parse.Goals as goal

pub returns-clause-found : goal.returns-clause-found
returns-clause-found c = is_found set_view c.args.syntax c.args.bytes.now c.whole_set.result (λ i. omega
    (arith, c.type_inv.bytes i)) (search rules) c.whole_set.ensures.exact

pub returns-clause-only : goal.returns-clause-only
returns-clause-only c = is_only set_view c.args.syntax c.args.bytes.now c.whole_set.result c.whole_set.ensures.exact
