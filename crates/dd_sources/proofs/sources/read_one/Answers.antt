-- An answer for what the reader gave is the answer for its source, and no read failed.
use Rattle.std.proofs.Common.{◌∙◌, [], refl}
use Rattle.dd_sources.proofs.Answering.{has_given_all, source_answer, unfailed, unread_stays}
use Rattle.dd_sources.proofs.Lending.{used}
use Rattle.dd_sources.proofs.sources.read_one.Goals as goal

pub returns-in-Ok-answer-clause-answer : goal.returns-in-Ok-answer-clause-answer
returns-in-Ok-answer-clause-answer g c =
    let h = c.in-Ok-answer.ensures in
    record {
      bytes = h.given;
      kept = h.answered.kept;
      right = source_answer _ _ _ _ _ _ _ _ c.in-Ok.ensures.left h.known h.answered.digested tt;
    }

pub returns-in-Ok-answer-clause-unread : goal.returns-in-Ok-answer-clause-unread
returns-in-Ok-answer-clause-unread g c _ =
    let h = c.in-Ok-answer.ensures in
    let left = g.S.In.Read.remaining c.ingest_kept-answer.new.reader in
    let failed = g.S.Supply.unread c.end.new.self in
    let openable = c.in-Ok.ensures.openable refl in
    let none = (unfailed _ _ left _ _ _ h.answered.digested tt).0 ∙ c.in-Ok.ensures.fresh.1 in
    unread_stays _ _ _ _ _ _ failed openable.there c.in-Ok.ensures.kept.0 openable.live.1
    c.in-Ok.ensures.unused.1 c.end.ensures.failed.here c.end.ensures.failed.others none

pub returns-in-Err-clause-answer : goal.returns-in-Err-clause-answer
returns-in-Err-clause-answer g c =
    let h = c.in-Err.ensures in
    record {
      bytes = h.given;
      kept = h.answered.kept;
      right = source_answer _ _ _ _ _ _ _ _ c.in-Ok.ensures.left h.known h.answered.digested
          (c.if-is_of_source.ensures.0 refl);
    }

pub returns-in-Err-clause-unread : goal.returns-in-Err-clause-unread
returns-in-Err-clause-unread g c _ =
    let settled = c.if-is_of_source.ensures.0 refl in
    let h = c.in-Err.ensures in
    let left = g.S.In.Read.remaining c.ingest_kept-answer.new.reader in
    let failed = g.S.Supply.unread c.end.new.self in
    let openable = c.in-Ok.ensures.openable refl in
    let none = (unfailed _ _ left _ _ _ h.answered.digested settled).0 ∙ c.in-Ok.ensures.fresh.1 in
    unread_stays _ _ _ _ _ _ failed openable.there c.in-Ok.ensures.kept.0 openable.live.1
    c.in-Ok.ensures.unused.1 c.end.ensures.failed.here c.end.ensures.failed.others none

pub returns-in-Ok-answer-clause-given : goal.returns-in-Ok-answer-clause-given
returns-in-Ok-answer-clause-given g c _ =
    let h = c.in-Ok-answer.ensures in
    let begun = c.in-Ok.ensures in
    let past = begun.past refl in
    has_given_all _ _ _ _ _ _ _ _ _ _ begun.left h.known h.answered.digested tt
    (c.end.ensures.given.here (rw begun.kept.0 (begun.openable refl).there))
    (past, h.gave.then past [] (begun.fresh.2 past))

pub returns-in-Err-clause-given : goal.returns-in-Err-clause-given
returns-in-Err-clause-given g c _ =
    let h = c.in-Err.ensures in
    let begun = c.in-Ok.ensures in
    let past = begun.past refl in
    has_given_all _ _ _ _ _ _ _ _ _ _ begun.left h.known h.answered.digested (c.if-is_of_source.ensures.0 refl)
    (c.end.ensures.given.here (rw begun.kept.0 (begun.openable refl).there))
    (past, h.gave.then past [] (begun.fresh.2 past))

pub returns-in-Ok-answer-clause-used : goal.returns-in-Ok-answer-clause-used
returns-in-Ok-answer-clause-used g c =
    let begun = c.in-Ok.ensures in
    let ended = c.end.ensures in
    let calls = g.S.In.Read.calls in
    let lent = g.S.Supply.lent in
    let reads = g.S.Supply.reads in
    used c.args.at _ _ c.args.limit (calls c.in-Ok.reader) (calls c.ingest_kept-answer.new.reader)
    (lent c.args.supply.now) (lent c.begin.new.self) (lent c.end.new.self)
    (reads c.args.supply.now) (reads c.begin.new.self) (reads c.end.new.self)
    (begun.openable refl).there begun.kept.0 (begun.lent.lent refl) begun.lent.others ended.back.back ended.back.others
    begun.unused.0 ended.called.here ended.called.others begun.fresh.0 c.ingest_kept-answer.ensures.few

pub returns-in-Err-clause-used : goal.returns-in-Err-clause-used
returns-in-Err-clause-used g c =
    let begun = c.in-Ok.ensures in
    let ended = c.end.ensures in
    let calls = g.S.In.Read.calls in
    let lent = g.S.Supply.lent in
    let reads = g.S.Supply.reads in
    used c.args.at _ _ c.args.limit (calls c.in-Ok.reader) (calls c.ingest_kept-answer.new.reader)
    (lent c.args.supply.now) (lent c.begin.new.self) (lent c.end.new.self)
    (reads c.args.supply.now) (reads c.begin.new.self) (reads c.end.new.self)
    (begun.openable refl).there begun.kept.0 (begun.lent.lent refl) begun.lent.others ended.back.back ended.back.others
    begun.unused.0 ended.called.here ended.called.others begun.fresh.0 c.ingest_kept-answer.ensures.few
