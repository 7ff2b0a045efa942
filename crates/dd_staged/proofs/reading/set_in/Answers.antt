use Rattle.std.proofs.Common.{◌≡◌}
use Rattle.dd_staged.specs.declared.stage_fault.StageFault.TheVariants.{BadStage}
use Rattle.dd_staged.specs.Refusals.{stage_fault_of}
use Rattle.dd_staged.proofs.ReadStage.{refused_is_bad}
use Rattle.dd_staged.proofs.reading.set_in.Goals as goal

pub returns-in-Err : goal.returns-in-Err
returns-in-Err c = record {
  found = tt;
  bad = λ n same.
      let made = c.stage_fault_of.ensures in
      let is : stage_fault_of c.in-Err.fault ≡ BadStage n = cc in
      refused_is_bad c.args.bytes.now c.in-Err.fault n c.in-Err.ensures.only is;
}
