use Rattle.std.proofs.Common.{ℕ, List, Option, ap, sym, ◌∙◌, arith}
use Rattle.std.specs.Option.{ok_or}
use Rattle.dd_part10.specs.declared.fault.FileFault.TheVariants.{NotPart10}
use Rattle.dd_encoding.specs.Head.{prefix}
use Rattle.dd_part10.specs.Reading.{rest_after, rest_after_prefix}
use Rattle.dd_part10.proofs.Fronts.{rest_after-short, from_place}
use Rattle.dd_part10.proofs.reading.rest_after_prefix.Goals as goal

pub returns-then-bytes-lt-PREAMBLE_LENGTH-clause-exact : goal.returns-then-bytes-lt-PREAMBLE_LENGTH-clause-exact
unfolding rest_after_prefix
returns-then-bytes-lt-PREAMBLE_LENGTH-clause-exact c =
    ap (λ (o : Option (List ℕ)). ok_or o NotPart10)
    (rest_after-short prefix 128 c.args.bytes.now (omega arith) c.if-bytes-lt-PREAMBLE_LENGTH.true)

pub returns-in-Some-clause-exact : goal.returns-in-Some-clause-exact
unfolding rest_after_prefix
returns-in-Some-clause-exact c =
    ap (λ (s : List ℕ). ok_or (rest_after prefix s) NotPart10) (sym (from_place 128 c.args.bytes.now))
    ∙ ap (λ (o : Option (List ℕ)). ok_or o NotPart10) (sym c.in-Some.ensures)

pub returns-in-None-clause-exact : goal.returns-in-None-clause-exact
unfolding rest_after_prefix
returns-in-None-clause-exact c =
    ap (λ (s : List ℕ). ok_or (rest_after prefix s) NotPart10) (sym (from_place 128 c.args.bytes.now))
    ∙ ap (λ (o : Option (List ℕ)). ok_or o NotPart10) (sym c.in-None.ensures)
