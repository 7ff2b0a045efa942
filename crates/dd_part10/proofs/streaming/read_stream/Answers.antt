-- What was taken of the stream is what its reader gave, and the stream says how it ended.
use Rattle.std.proofs.Common.{◌∙◌, Ok, Err, Some, ap, arith}
use Rattle.dd_stream.specs.declared.end.End.TheVariants.{Ended, Failed, TooLong}
use Rattle.dd_stream.proofs.StreamEnds.{reads_to_end}
use Rattle.dd_part10.specs.Memory.{IsRefused}
use Rattle.dd_part10.specs.Streaming.{IsFileAnswer}
use Rattle.dd_part10.specs.Taking.{FileTaken}
use Rattle.dd_part10.specs.declared.stream_fault.StreamFault.TheVariants as faults
use Rattle.dd_part10.proofs.Found.{file_found}
use Rattle.dd_part10.proofs.streaming.read_stream.Goals as goal

pub returns-in-Failed-clause-read : goal.returns-in-Failed-clause-read
returns-in-Failed-clause-read g c =
    let s = c.take_file-answer.ensures.found in
    let m = c.finish.ensures.moved in
    reads_to_end g.R.Read _ _ _ _ _ _ s.taken m.0 Failed (λ _. Unit {0})
    (IsFileAnswer (Err faults.Read) c.args.wanted.now _) s.moved.1 m.1 (λ rest t. tt)
    c.requires.empty c.requires.open c.finish.ensures.empty (c.finish.ensures.ended ∙ ap (λ e. Some e) c.in-Failed.is)
    (λ given left old new bytes said ends. ends)

pub returns-in-TooLong-clause-read : goal.returns-in-TooLong-clause-read
returns-in-TooLong-clause-read g c =
    let s = c.take_file-answer.ensures.found in
    let m = c.finish.ensures.moved in
    reads_to_end g.R.Read _ _ _ _ _ _ s.taken m.0 TooLong (λ _. Unit {0})
    (IsFileAnswer (Err faults.TooLong) c.args.wanted.now _) s.moved.1 m.1 (λ rest t. tt)
    c.requires.empty c.requires.open c.finish.ensures.empty (c.finish.ensures.ended ∙ ap (λ e. Some e) c.in-TooLong.is)
    (λ given left old new bytes said ends. ends)

pub returns-in-Ok-clause-read : goal.returns-in-Ok-clause-read
returns-in-Ok-clause-read g c =
    let s = c.in-Ok.ensures.found in
    let m = c.finish.ensures.moved in
    reads_to_end g.R.Read _ _ _ _ _ _ s.taken m.0 Ended
    (λ whole. FileTaken c.args.wanted.now (Ok c.in-Ok.scanned) whole)
    (IsFileAnswer (Ok c.in-Ok.scanned) c.args.wanted.now _) s.moved.1 m.1 (λ rest t. s.gives rest t)
    c.requires.empty c.requires.open c.finish.ensures.empty (c.finish.ensures.ended ∙ ap (λ e. Some e) c.in-Ended.is)
    (λ given left old new bytes said ends. (
      ends,
      record {
        file = said.0;
        is = file_found given said.0 said.1 bytes (omega (arith, ends.0, c.requires.room));
        read = said.1;
        scans = said.2;
      },
    ))

pub returns-in-Err-clause-read : goal.returns-in-Err-clause-read
returns-in-Err-clause-read g c =
    let s = c.in-Err.ensures.found in
    let m = c.finish.ensures.moved in
    reads_to_end g.R.Read _ _ _ _ _ _ s.taken m.0 Ended (λ whole. IsRefused c.args.wanted.now c.in-Err.fault whole)
    (IsFileAnswer (Err (faults.File c.in-Err.fault)) c.args.wanted.now _) s.moved.1 m.1 (λ rest t. s.gives rest t)
    c.requires.empty c.requires.open c.finish.ensures.empty (c.finish.ensures.ended ∙ ap (λ e. Some e) c.in-Ended.is)
    (λ given left old new bytes said ends. (ends, said))
