-- Each reading stands after those before it, and the counts of the sources after it are as they were.
use Rattle.std.proofs.Common.{◌+◌, ◌++◌, ◌∷◌, [], ◌∙◌, refl, ap, arith, subst, sym}
use Rattle.std.proofs.lemmas.List.{length_push}
use Rattle.dd_sources.proofs.Answering.{all_later, holds_closed, holds_first}
use Rattle.dd_sources.proofs.Lending.{more_reads, still_later}
use Rattle.dd_sources.specs.Readings.{IsReading, absent_in, answers_of}
use Rattle.dd_sources.proofs.PassedSources.{absent_with, holds_with, many_answers, readings_more}
use Rattle.dd_sources.proofs.readings.read_past_failures.Goals as goal

pub loop-at-init : goal.loop-at-init
loop-at-init g c =
    let none = c.new-read.ensures.batch in
    record {
      readings = [];
      many = refl;
      right = record { each = λ _. tt };
      room = (omega (arith, none), omega (arith, none));
      held = holds_first _ _ c.new-read.ensures.sources none;
      absent = c.new-read.ensures.absent;
      refusals = record { stays = λ _ _. refl };
      unread = record { stays = λ _ _. refl };
      lent = record { stays = λ _. refl };
      reads = record { grows = λ _. omega arith };
      later = record { stays = λ _ _. refl };
      sources = refl;
      contents = refl;
      rest = refl;
    }

pub loop-at-preserved : goal.loop-at-preserved
loop-at-preserved g c =
    let before = c.loop-at.invariant in
    let next = c.in_ok-read_next.ensures in
    let grown = next.grows in
    let refusals = g.S.Supply.refusals in
    let unread = g.S.Supply.unread in
    let given = g.S.Supply.given in
    let is_there = g.S.Supply.is_there in
    let old = c.args.supply.now in
    let mid = c.loop-at.supply in
    let new = c.read_next.new.supply in
    let at = c.loop-at.at in
    record {
      readings = before.readings ++ grown.reading ∷ [];
      many = length_push before.readings grown.reading ∙ ap (λ n. n + 1) before.many;
      right = readings_more c.args.limit at (g.S.Supply.contents old) (is_there (g.S.Supply.rest old)) (given mid)
          (given new) (refusals old) (refusals mid) (refusals new) (unread old) (unread mid) (unread new)
          before.readings grown.reading before.many before.right before.refusals before.unread grown.given
          grown.refusals grown.unread
          (subst (λ rest. IsReading c.args.limit (g.S.Supply.contents old at) (is_there rest at) (given new at) at
          grown.reading (refusals mid at) (refusals new at) (unread mid at) (unread new at)) before.rest
          (subst (λ contents. IsReading c.args.limit (contents at) (is_there (g.S.Supply.rest mid) at) (given new at) at
          grown.reading (refusals mid at) (refusals new at) (unread mid at) (unread new at)) before.contents grown.is));
      room = next.room refl;
      held = holds_with before.readings grown.reading _ _
          (grown.held (answers_of before.readings) (many_answers before.readings _ before.many) before.held);
      absent = grown.absent ∙ ap (λ xs. xs ++ absent_in (grown.reading ∷ [])) before.absent
          ∙ sym (absent_with before.readings grown.reading);
      refusals = still_later c.loop-at.at _ _ _ before.refusals grown.refusals;
      unread = still_later c.loop-at.at _ _ _ before.unread grown.unread;
      lent = all_later _ _ _ before.lent next.used.ended;
      reads = more_reads c.loop-at.at (c.args.limit + 1) _ _ _ before.reads before.later next.used.few next.used.others;
      later = still_later c.loop-at.at _ _ _ before.later next.used.others;
      sources = next.kept.0 ∙ before.sources;
      contents = next.kept.1 ∙ before.contents;
      rest = next.kept.2 ∙ before.rest;
    }

pub returns-clause-read : goal.returns-clause-read
returns-clause-read g c =
    let before = c.loop-at.invariant in
    let end = c.loop-at.auto.at-end in
    let over = c.loop-at-test.false in
    let all = c.count-at-end.ensures in
    let many = before.many in (
      before.readings,
      record { count = omega (arith, many, end, over, all); right = before.right },
      holds_closed (answers_of before.readings) c.loop-at.read.sources _
          c.loop-at.read.batch before.held (c.finish.ensures _ before.held.versions) refl refl,
      before.absent,
    )
