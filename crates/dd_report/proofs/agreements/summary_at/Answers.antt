-- What a scan found of the element sums up its value.
use Rattle.std.proofs.Common.{◌≡◌, ◌∙◌, ap, sym, subst, [], ℕ, List}
use Rattle.dd_scan.specs.Summaries.{summary_view}
use Rattle.dd_walk.specs.Saying.{key_of}
use Rattle.dd_keys.specs.Values.{value_at}
use Rattle.dd_keys.proofs.SummaryLaws.{found_tells}
use Rattle.dd_report.specs.Agreements.{SumsUp, compared_tags}
use Rattle.dd_report.proofs.FoundValues.{none_summed, some_summed}
use Rattle.dd_report.proofs.agreements.summary_at.Goals as goal

pub returns-in-Some : goal.returns-in-Some
returns-in-Some c = λ set hits wanted.
    let is = ap summary_view (sym c.in-Some.is) ∙ c.find.ensures in
    some_summed c.in-Some.summary (value_at c.args.tag set)
    (is ∙ found_tells compared_tags c.args.found.now set hits c.args.tag wanted)

pub returns-in-None : goal.returns-in-None
returns-in-None c = λ set hits wanted.
    let is = ap summary_view (sym c.in-None.is) ∙ c.find.ensures in
    let none : key_of c.args.tag set ≡ [] = none_summed (value_at c.args.tag set)
    (is ∙ found_tells compared_tags c.args.found.now set hits c.args.tag wanted) in
    subst (λ (value : List ℕ). SumsUp c.of.result value) (sym none) c.of.ensures
