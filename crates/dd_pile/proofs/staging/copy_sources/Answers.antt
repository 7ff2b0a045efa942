-- One more source is staged.
use Rattle.std.proofs.Common.{◌∙◌, ap, map, rules}
use Rattle.std.proofs.lemmas.List.{length-map}
use Rattle.dd_staged.specs.Sources.{IsListed, source_view}
use Rattle.dd_pile.specs.Piles.{HasCopy, StandsBefore}
use Rattle.std.proofs.lemmas.Result.{err_from_is_err_and}
use Rattle.dd_files.proofs.KeptFiles.{said_then}
use Rattle.dd_files.proofs.SaidFiles.{said_keeps}
use Rattle.dd_files.specs.Reasons.{HasCounted, HasFailedReader}
use Rattle.dd_filing.proofs.DueFiles.{due_next, due_none, due_since}
use Rattle.dd_filing.specs.Ahead.{NextFiles}
use Rattle.dd_pile.proofs.ListLast.{said_adds, said_ended_all, said_whole, said_whole_none, said_whole_then}
use Rattle.dd_pile.specs.Paths.{IsCopyOfPile}
use Rattle.dd_pile.proofs.KnownAhead.{next_known, passed_known, rest_known}
use Rattle.dd_pile.proofs.Reasons.{same_counted}
use Rattle.dd_pile.proofs.Refused.{named, not_large}
use Rattle.dd_pile.proofs.StagedCopies.{each_more, each_since, name_of, names_more, pushed_more, stand_more}
use Rattle.dd_pile.proofs.staging.copy_sources.Goals as goal

pub loop-at-init : goal.loop-at-init
loop-at-init g c = record {
  count = search rules;
  stand = search rules;
  whole = said_whole_none (IsCopyOfPile c.args.pile.now) _ _ c.begin_step.ensures.kept;
  names = search rules;
  listed = search rules;
  all = search rules;
  known = search rules;
  due = due_none (HasCounted (g.F.Files.refusals c.begin_step.new.self)) (HasFailedReader g.F.In.Read) _
      c.new-ahead.ensures;
}

pub stage_source-requires-clause-known : goal.stage_source-requires-clause-known
stage_source-requires-clause-known g c =
    next_known c.args.sources.now c.loop-at.at _ c.read_ahead.new.ahead c.next.result _ c.loop-at-test.true
    c.next.ensures
    (rest_known c.args.sources.now c.loop-at.at c.read_ahead.new.ahead _ c.read_ahead.ensures.known)

pub stage_source-requires-clause-due : goal.stage_source-requires-clause-due
stage_source-requires-clause-due g c =
    due_next (HasCounted (g.F.Files.refusals c.read_ahead.new.files)) (HasFailedReader g.F.In.Read)
    c.read_ahead.new.ahead c.next.result c.next.ensures c.read_ahead.ensures.due

pub returns-in_err-staged-clause-refusal : goal.returns-in_err-staged-clause-refusal
returns-in_err-staged-clause-refusal g c =
    let p = err_from_is_err_and c.from_residual.result c.from_residual.ensures.1 in
    let list = map source_view c.loop-at.list.items in
    let before = c.loop-at.invariant in
    rw (p.1, p.2) (named
    (λ at. StandsBefore c.args.pile.now c.args.sources.now at (g.F.Files.held c.args.files.now)
    (g.F.Files.held c.stage_source.new.files))
    c.loop-at.at _ (record {
      within = c.loop-at-test.true;
      list = list;
      count = length-map c.loop-at.list.items source_view ∙ before.count;
      stand = each_since c.args.pile.now c.args.sources.now list _ _ _ before.stand
          (said_keeps (IsCopyOfPile c.args.pile.now) _ _ (rw c.read_ahead.ensures.kept at c.stage_source.ensures.adds));
    }) c.in_err-staged.ensures.refusal)

pub returns-in_err-staged-clause-small : goal.returns-in_err-staged-clause-small
returns-in_err-staged-clause-small g c =
    let p = err_from_is_err_and c.from_residual.result c.from_residual.ensures.1 in
    not_large c.from_residual.result c.loop-at.at p.0 p.1 (rw p.2 c.in_err-staged.ensures.refusal)

pub returns-in_err-staged-clause-adds : goal.returns-in_err-staged-clause-adds
returns-in_err-staged-clause-adds g c =
    said_then (IsCopyOfPile c.args.pile.now) _ _ _
    (said_adds (IsCopyOfPile c.args.pile.now) _ _ c.loop-at.invariant.whole)
    (rw c.read_ahead.ensures.kept at c.stage_source.ensures.adds)

pub returns-in_err-push-clause-adds : goal.returns-in_err-push-clause-adds
returns-in_err-push-clause-adds g c =
    said_then (IsCopyOfPile c.args.pile.now) _ _ _
    (said_adds (IsCopyOfPile c.args.pile.now) _ _ c.loop-at.invariant.whole)
    (rw c.read_ahead.ensures.kept at c.stage_source.ensures.adds)

pub loop-at-preserved : goal.loop-at-preserved
loop-at-preserved g c =
    let before = c.loop-at.invariant in
    let list = c.loop-at.list.items in
    let staged = c.in_ok-staged.staged in
    let items = c.in_ok-push.ensures.items in
    record {
      count = pushed_more list c.push.new.self.items staged c.loop-at.at items before.count;
      stand = rw c.advance.ensures.kept
          (stand_more c.args.pile.now c.args.sources.now list c.push.new.self.items staged c.loop-at.at _ _ _ _ items
          before.count c.loop-at-test.true before.stand
          (rw c.read_ahead.ensures.kept at c.in_ok-staged.ensures.staged));
      whole = rw c.advance.ensures.kept
          (said_whole_then (IsCopyOfPile c.args.pile.now) _ _ _ before.whole
          (said_whole (IsCopyOfPile c.args.pile.now) _ _ (rw c.read_ahead.ensures.kept at c.stage_source.ensures.adds)
          (rw c.read_ahead.ensures.kept at c.in_ok-staged.ensures.ended cc)));
      names = names_more c.args.sources.now list c.push.new.self.items staged c.loop-at.at _ items c.loop-at-test.true
          before.names c.in_ok-staged.ensures.named;
      listed = each_more IsListed list c.push.new.self.items staged items before.listed c.in_ok-staged.ensures.listed;
      all = λ stops named.
          each_more HasCopy list c.push.new.self.items staged items (before.all stops named)
          (c.in_ok-staged.ensures.all stops
          (name_of c.args.sources.now c.loop-at.at _ c.loop-at-test.true named));
      known = rw c.advance.ensures.kept
          (passed_known c.args.sources.now c.loop-at.at c.read_ahead.new.ahead c.pass.new.self _ _ c.pass.ensures
          (said_keeps (IsCopyOfPile c.args.pile.now) _ _ c.stage_source.ensures.adds)
          (rest_known c.args.sources.now c.loop-at.at c.read_ahead.new.ahead _ c.read_ahead.ensures.known));
      due = due_since (HasCounted (g.F.Files.refusals c.read_ahead.new.files))
          (HasCounted (g.F.Files.refusals c.advance.new.self)) (HasFailedReader g.F.In.Read) c.read_ahead.new.ahead
          c.pass.new.self (ap (λ (all : NextFiles). all.files) c.pass.ensures)
          (λ counted. same_counted _ _ c.advance.ensures.refusals (c.in_ok-staged.ensures.counts (cc) counted))
          c.read_ahead.ensures.due;
    }

pub returns-clause-adds : goal.returns-clause-adds
returns-clause-adds g c = said_adds (IsCopyOfPile c.args.pile.now) _ _ c.loop-at.invariant.whole

pub returns-clause-ended : goal.returns-clause-ended
returns-clause-ended g c = λ done. said_ended_all (IsCopyOfPile c.args.pile.now) _ _ c.loop-at.invariant.whole
