-- The first value that the matches hold is the first one of their rows.
use Rattle.std.proofs.Common.{inl, inr, refl, rules, sym, ◌∙◌, codes}
use Rattle.clap.specs.Words.{found_of, rows_of}
use Rattle.clap.proofs.WalkLemmas.{first_value-rows}
use Rattle.dd_line.proofs.LineValues.{no_limit, some_limit}
use Rattle.dd_line.proofs.given.limit_of.Goals as goal

pub returns-in_default-clause-limit : goal.returns-in_default-clause-limit
returns-in_default-clause-limit c = (no_limit (rows_of (found_of c.args.given.now))
    (c.in_default.ensures ∙ first_value-rows (found_of c.args.given.now) (codes "max-bytes"))).0

pub returns-in_default-clause-wrong : goal.returns-in_default-clause-wrong
returns-in_default-clause-wrong c = (
  (no_limit (rows_of (found_of c.args.given.now))
      (c.in_default.ensures ∙ first_value-rows (found_of c.args.given.now) (codes "max-bytes"))).1,
  λ never. never,
)

pub returns-in-Some-size_in-clause-limit : goal.returns-in-Some-size_in-clause-limit
returns-in-Some-size_in-clause-limit c = (some_limit (rows_of (found_of c.args.given.now)) _ _
    (c.in-Some.ensures ∙ first_value-rows (found_of c.args.given.now) (codes "max-bytes"))
    c.in-Some-size_in.ensures.some (search (rules, c.size_in.type_inv))).0

pub returns-in-Some-size_in-clause-wrong : goal.returns-in-Some-size_in-clause-wrong
returns-in-Some-size_in-clause-wrong c = (
  (some_limit (rows_of (found_of c.args.given.now)) _ _
      (c.in-Some.ensures ∙ first_value-rows (found_of c.args.given.now) (codes "max-bytes"))
      c.in-Some-size_in.ensures.some (search (rules, c.size_in.type_inv))).1,
  λ never. never,
)

pub returns-in_ok-wrong_limit-in-None-clause-wrong : goal.returns-in_ok-wrong_limit-in-None-clause-wrong
returns-in_ok-wrong_limit-in-None-clause-wrong c =
    let first = c.in-Some.ensures ∙ first_value-rows (found_of c.args.given.now) (codes "max-bytes") in
    inr (inl ((c.in-Some.text.now, sym first, c.in-None.ensures.none refl), c.in_ok-wrong_limit-in-None.ensures))
