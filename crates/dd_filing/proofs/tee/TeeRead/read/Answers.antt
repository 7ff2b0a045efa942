-- A piece of which a part was written.
use Rattle.std.proofs.Common.{arith}
use Rattle.dd_filing.proofs.Sending.{sent_whole, passed_more}
use Rattle.dd_stream.proofs.Going.{stops_amid}
use Rattle.dd_filing.proofs.tee.TeeRead.read.Goals as goal

pub returns-in-Err-clause-gives : goal.returns-in-Err-clause-gives
returns-in-Err-clause-gives g c = record {
  then = λ past before h. (
    h.0,
    (
      h.1.0,
      passed_more _ _ _ _ past.1.1 before _
          (λ start k. (
            stops_amid before _ _ _ _ _ _ _ _ (sent_whole _ before _ _ _ _ c.in-None.is k.0) c.in-Err.ensures.err,
            omega (arith, c.in_ok-n.ensures.called),
          )) (λ p k. c.in_ok-n.ensures.gives.then p before k) h.1.1,
    ),
  );
}
