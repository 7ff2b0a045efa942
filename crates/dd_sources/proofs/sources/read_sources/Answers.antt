-- Each answer stands after those before it, and a fault comes of the first source that failed.
use Rattle.std.proofs.Common.{◌+◌, ◌++◌, ◌∷◌, [], ◌∙◌, refl, ap, arith, subst}
use Rattle.std.proofs.lemmas.List.{length_push}
use Rattle.std.proofs.lemmas.Result.{err_from_is_err_and}
use borrow.Author.Count.{below_more}
use Rattle.sha2.specs.Sha256.{sha256}
use Rattle.dd_keys.specs.Kept.{digested_by}
use Rattle.dd_sources.proofs.Answering.{all_later, answer_before, answers_more, ends_later, holds_closed}
use Rattle.dd_sources.proofs.Answering.{holds_first, holds_next, live_before}
use Rattle.dd_sources.proofs.Lending.{given_more, more_reads, still_later}
use Rattle.dd_sources.proofs.PassedSources.{source_ends}
use Rattle.dd_sources.proofs.sources.read_sources.Goals as goal

pub loop-at-init : goal.loop-at-init
loop-at-init g c =
    let none = c.new-batch.ensures in
    record {
      answers = [];
      many = refl;
      right = record { each = λ _. tt };
      room = (omega (arith, none), omega (arith, none));
      held = holds_first _ _ c.new-sources.ensures none;
      refusals = record { stays = λ _. refl };
      unread = record { stays = λ _. refl };
      lent = record { stays = λ _. refl };
      reads = record { grows = λ _. omega arith };
      later = record { stays = λ _ _. refl };
      there = λ at below. absurd (omega arith);
      given = λ at below. absurd (omega arith);
      live = λ at below. absurd (omega arith);
      sources = refl;
      contents = refl;
      rest = refl;
    }

pub loop-at-preserved : goal.loop-at-preserved
loop-at-preserved g c =
    let before = c.loop-at.invariant in
    let read = c.in_ok-answer.ensures in
    let answer = digested_by (sha256 read.answer.bytes) c.in_ok-answer.answer in
    record {
      answers = before.answers ++ answer ∷ [];
      many = length_push before.answers answer ∙ ap (λ n. n + 1) before.many;
      right = answers_more c.args.limit c.loop-at.at _ before.answers answer before.many before.right
          (answer_before _ _ _ _ _ before.contents read.answer.right);
      room = c.in_ok-keep.ensures.room refl;
      held = c.in_ok-keep.ensures.kept before.answers read.answer.bytes before.many read.answer.kept
          (holds_next _ _ _ _ before.room.0 before.held);
      refusals = all_later _ _ _ before.refusals (read.refusals refl);
      unread = all_later _ _ _ before.unread (read.unread refl);
      lent = all_later _ _ _ before.lent read.used.ended;
      reads = more_reads c.loop-at.at (c.args.limit + 1) _ _ _ before.reads before.later read.used.few read.used.others;
      later = still_later c.loop-at.at _ _ _ before.later read.used.others;
      there = below_more _ _ before.there
          (subst (λ rest. g.S.Supply.is_there rest c.loop-at.at) before.rest (read.there refl));
      given = given_more c.args.limit c.loop-at.at _ _ _ _ before.given read.others before.contents (read.given refl);
      live = below_more _ _ before.live (live_before _ _ _ _ _ before.refusals before.unread (read.live refl));
      sources = read.kept.0 ∙ before.sources;
      contents = read.kept.1 ∙ before.contents;
      rest = read.kept.2 ∙ before.rest;
    }

pub returns-in_err-answer-clause-fault : goal.returns-in_err-answer-clause-fault
returns-in_err-answer-clause-fault g c =
    let p = err_from_is_err_and c.from_residual.result c.from_residual.ensures.1 in
    let before = c.loop-at.invariant in
    rw (p.1, p.2) (ends_later c.in_err-answer.field-0.0 _ _ _ _ _ _ _ _ before.sources before.refusals before.unread
    (source_ends c.loop-at.at _ _ _ _ _ _ (omega arith) c.in_err-answer.ensures.fault))

pub returns-in_err-keep-clause-fault : goal.returns-in_err-keep-clause-fault
returns-in_err-keep-clause-fault g c =
    let p = err_from_is_err_and c.from_residual-in_err-keep.result c.from_residual-in_err-keep.ensures.1 in
    let before = c.loop-at.invariant in
    let read = c.in_ok-answer.ensures in
    rw (p.1, p.2) (
      all_later _ _ _ before.refusals (read.refusals refl),
      all_later _ _ _ before.unread (read.unread refl),
    )

pub returns-in_err-answer-clause-ended : goal.returns-in_err-answer-clause-ended
returns-in_err-answer-clause-ended g c = all_later _ _ _ c.loop-at.invariant.lent c.in_err-answer.ensures.used.ended

pub returns-in_err-answer-clause-reads : goal.returns-in_err-answer-clause-reads
returns-in_err-answer-clause-reads g c =
    let before = c.loop-at.invariant in
    let read = c.in_err-answer.ensures in
    more_reads c.loop-at.at (c.args.limit + 1) _ _ _ before.reads before.later read.used.few read.used.others

pub returns-in_err-keep-clause-ended : goal.returns-in_err-keep-clause-ended
returns-in_err-keep-clause-ended g c = all_later _ _ _ c.loop-at.invariant.lent c.in_ok-answer.ensures.used.ended

pub returns-in_err-keep-clause-reads : goal.returns-in_err-keep-clause-reads
returns-in_err-keep-clause-reads g c =
    let before = c.loop-at.invariant in
    let read = c.in_ok-answer.ensures in
    more_reads c.loop-at.at (c.args.limit + 1) _ _ _ before.reads before.later read.used.few read.used.others

pub returns-clause-read : goal.returns-clause-read
returns-clause-read g c =
    let before = c.loop-at.invariant in
    let end = c.loop-at.auto.at-end in
    let over = c.loop-at-test.false in
    let all = c.count-at-end.ensures in
    let many = before.many in (
      before.answers,
      omega (arith, many, end, over, all),
      before.right,
      holds_closed before.answers c.loop-at.sources _
          c.loop-at.batch before.held (c.finish.ensures _ before.held.versions) refl refl,
    )

pub returns-clause-there : goal.returns-clause-there
returns-clause-there g c _ at below =
    let end = c.loop-at.auto.at-end in
    let over = c.loop-at-test.false in
    let all = c.count-at-end.ensures in
    c.loop-at.invariant.there at (omega (arith, end, over, all, below))

pub returns-clause-given : goal.returns-clause-given
returns-clause-given g c _ at below =
    let end = c.loop-at.auto.at-end in
    let over = c.loop-at-test.false in
    let all = c.count-at-end.ensures in
    c.loop-at.invariant.given at (omega (arith, end, over, all, below))
