use Rattle.std.proofs.Common.{subst}
use Rattle.std.proofs.lemmas.List.Elements.{All-more}
use Rattle.dd_catalogue.proofs.Gathering.{fold_one, first_value, all_values}
use Rattle.dd_catalogue.proofs.join.gather.Goals as goal

pub loop-value-preserved : goal.loop-value-preserved
loop-value-preserved g c =
    let one = c.in_ok-join.ensures.values in
    record {
      joined = fold_one g.J.Join.joined c.args.first.now c.args.rest.now c.loop-value.value-index c.value-item.result
          c.loop-value.first c.join.new.self
          c.loop-value-test.true c.value-item.is c.loop-value.invariant.joined c.in_ok-join.ensures.ok;
      rest = All-more g.J.Join.is_value c.args.rest.now c.loop-value.value-index c.value-item.result
          c.loop-value-test.true c.loop-value.invariant.rest
          (subst g.J.Join.is_value c.value-item.is one.1);
      first = λ some. first_value g.J.Join.is_value g.J.Join.joined c.args.first.now c.args.rest.now
          c.loop-value.value-index c.loop-value.first c.loop-value.invariant.joined one.0
          c.loop-value.invariant.first;
    }

pub returns-clause-values : goal.returns-clause-values
returns-clause-values g c =
    all_values g.J.Join.is_value c.args.first.now c.args.rest.now c.loop-value.value-index c.loop-value-test.false
    c.loop-value.invariant.rest c.loop-value.invariant.first
