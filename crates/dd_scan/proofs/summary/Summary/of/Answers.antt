use Rattle.std.proofs.Common.{refl}
use Rattle.std.proofs.lemmas.List.{take_min}
use Rattle.dd_scan.proofs.summary.Summary.of.Goals as goal

pub returns : goal.returns
returns c = rw (c.min.ensures, take_min 1024 c.args.value.now) refl
