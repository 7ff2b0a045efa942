-- What was taken of the stream is what its reader gave, and the stream says how it ended.
use Rattle.std.proofs.Common.{◌∙◌, Ok, Err, Some, ap, arith}
use Rattle.dd_stream.specs.declared.end.End.TheVariants.{Ended, Failed, TooLong}
use Rattle.dd_stream.proofs.StreamEnds.{reads_to_end}
use Rattle.dd_scan.specs.Scan.{ScanGives}
use Rattle.dd_scan.specs.Scanning.{IsScanAnswer}
use Rattle.dd_scan.specs.declared.scan_fault.ScanFault.TheVariants as faults
use Rattle.dd_grammar.proofs.Laws.{read_is_spelled}
use Rattle.dd_scan.proofs.scanning.scan_stream.Goals as goal

pub returns-in-Failed-clause-read : goal.returns-in-Failed-clause-read
returns-in-Failed-clause-read g c =
    let s = c.take_set-answer.ensures.found in
    let m = c.finish.ensures.moved in
    reads_to_end g.R.Read _ _ _ _ _ _ s.taken m.0 Failed (λ _. Unit {0})
    (IsScanAnswer (Err faults.Read) c.args.syntax c.args.wanted.now _) s.moved.1 m.1 (λ rest t. tt)
    c.requires.empty c.requires.open c.finish.ensures.empty (c.finish.ensures.ended ∙ ap (λ e. Some e) c.in-Failed.is)
    (λ given left old new bytes said ends. ends)

pub returns-in-TooLong-clause-read : goal.returns-in-TooLong-clause-read
returns-in-TooLong-clause-read g c =
    let s = c.take_set-answer.ensures.found in
    let m = c.finish.ensures.moved in
    reads_to_end g.R.Read _ _ _ _ _ _ s.taken m.0 TooLong (λ _. Unit {0})
    (IsScanAnswer (Err faults.TooLong) c.args.syntax c.args.wanted.now _) s.moved.1 m.1 (λ rest t. tt)
    c.requires.empty c.requires.open c.finish.ensures.empty (c.finish.ensures.ended ∙ ap (λ e. Some e) c.in-TooLong.is)
    (λ given left old new bytes said ends. ends)

pub returns-in-Ok-clause-read : goal.returns-in-Ok-clause-read
returns-in-Ok-clause-read g c =
    let s = c.in-Ok.ensures.found in
    let m = c.finish.ensures.moved in
    reads_to_end g.R.Read _ _ _ _ _ _ s.taken m.0 Ended
    (λ whole. ScanGives c.args.syntax c.args.wanted.now (Ok c.in-Ok.scan) whole)
    (IsScanAnswer (Ok c.in-Ok.scan) c.args.syntax c.args.wanted.now _) s.moved.1 m.1
    (λ rest t. s.gives rest t)
    c.requires.empty c.requires.open c.finish.ensures.empty (c.finish.ensures.ended ∙ ap (λ e. Some e) c.in-Ended.is)
    (λ given left old new bytes said ends. (
      ends,
      record {
        set = said.0;
        spelled = read_is_spelled c.args.syntax given said.0 bytes (omega (arith, ends.0, c.requires.room)) said.1;
        scans = said.2;
      },
    ))

pub returns-in-Err-clause-read : goal.returns-in-Err-clause-read
returns-in-Err-clause-read g c =
    let s = c.in-Err.ensures.found in
    let m = c.finish.ensures.moved in
    reads_to_end g.R.Read _ _ _ _ _ _ s.taken m.0 Ended
    (λ whole. ScanGives c.args.syntax c.args.wanted.now (Err c.in-Err.fault) whole)
    (IsScanAnswer (Err (faults.Set c.in-Err.fault)) c.args.syntax c.args.wanted.now _) s.moved.1 m.1
    (λ rest t. s.gives rest t)
    c.requires.empty c.requires.open c.finish.ensures.empty (c.finish.ensures.ended ∙ ap (λ e. Some e) c.in-Ended.is)
    (λ given left old new bytes said ends. (ends, said.0, said.1))
