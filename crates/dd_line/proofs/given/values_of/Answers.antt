-- All values are copied.
use Rattle.std.proofs.Common.{ap, map, refl, ◌∙◌}
use Rattle.std.proofs.lemmas.List.{take_all}
use Rattle.clap.specs.Words.{found_of}
use Rattle.clap.proofs.WalkLemmas.{raw_values-rows}
use Rattle.dd_line.proofs.LineValues.{values_or_none}
use Rattle.dd_line.proofs.given.values_of.Goals as goal

pub returns : goal.returns
returns c =
    let given = values_or_none c.get_strs.result _ c.unwrap_or-values.result _ c.unwrap_or-values.ensures refl
    (c.get_strs.ensures ∙ raw_values-rows (found_of c.args.given.now) c.args.name.now) in
    let all = take_all c.loop-value.value-index c.unwrap_or-values.result.now c.loop-value-test.false in
    c.loop-value.invariant ∙ (ap (map (λ x. x.now)) all ∙ given)
