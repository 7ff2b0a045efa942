use Rattle.std.proofs.Common.{rules, arith, ◌≡◌, ◌++◌, length, sym, ◌∙◌, ap}
use Rattle.std.proofs.lemmas.Bool.{eqb-true}
use Rattle.dd_elem.specs.Ordered.{bytes_cmp}
use Rattle.dd_catalogue.specs.Compared.{compared}
use Rattle.dd_catalogue.proofs.Counted.{compared_at_most}
use Rattle.dd_catalogue.proofs.Places.{by_key}
use Rattle.dd_catalogue.proofs.Woven.{end_theirs, compared_at_end}
use Rattle.dd_catalogue.specs.BestLaws.{rising-best}
use Rattle.dd_catalogue.proofs.best.Table.merge.Goals as goal

pub returns-then-is_empty-clause-ok : goal.returns-then-is_empty-clause-ok
returns-then-is_empty-clause-ok g c =
    let none : length c.args.other.now ≡ 0 = ap length (sym c.values-theirs.ensures.all)
    ∙ eqb-true (length c.values-theirs.result.now) 0 (sym c.is_empty.ensures ∙ c.if-is_empty.true) in
    end_theirs (by_key g.T.Keyed.key_of g.met.T.Ordered.total g.met.T.Ordered.apart) c.args.self.now c.args.other.now
    none c.values-mine.ensures.rising

pub returns-then-is_empty-clause-count : goal.returns-then-is_empty-clause-count
returns-then-is_empty-clause-count g c =
    let none : length c.args.other.now ≡ 0 = ap length (sym c.values-theirs.ensures.all)
    ∙ eqb-true (length c.values-theirs.result.now) 0 (sym c.is_empty.ensures ∙ c.if-is_empty.true) in
    sym (compared_at_end g.T.Keyed.key_of bytes_cmp g.T.Ordered.order c.args.self.now c.args.other.now none)

pub invariant_of-self : goal.invariant_of-self
invariant_of-self g c =
    rw (c.weave.ensures.items, c.replace-own.ensures.after, c.in_ok-both.ensures.items)
    (rising-best (by_key g.T.Keyed.key_of g.met.T.Ordered.total g.met.T.Ordered.apart)
    (c.replace-own.result.items ++ c.in_ok-copied.copied.items))

pub returns-clause-few : goal.returns-clause-few
returns-clause-few g c =
    let count : c.weave.result
    ≡ compared g.T.Keyed.key_of bytes_cmp g.T.Ordered.order c.args.self.now c.args.other.now = search rules in
    let most = compared_at_most g.T.Keyed.key_of bytes_cmp g.T.Ordered.order c.args.self.now c.args.other.now in
    omega (arith, count, most)
