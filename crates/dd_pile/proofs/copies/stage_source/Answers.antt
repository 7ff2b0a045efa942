-- The copy that was written has ended, or nothing was made.
use Rattle.std.proofs.Common.{◌+◌, ◌∙◌, Err, refl}
use Rattle.dd_files.proofs.KeptFiles.{said_is, said_then}
use Rattle.dd_files.specs.Keeping.{IfSaid}
use Rattle.dd_staged.specs.Sources.{Source}
use Rattle.dd_staged.specs.declared.source_fault.SourceFault.TheVariants.{Unread}
use Rattle.dd_pile.specs.Paths.{IsCopyOfPile}
use Rattle.dd_pile.specs.Piles.{StagesOne, as_listed}
use Rattle.dd_pile.proofs.ListLast.{copy_ended, cut_ended, none_ended}
use Rattle.dd_pile.proofs.StagedCopies.{cut_one, staged_one, view_so}
use Rattle.dd_pile.proofs.copies.stage_source.Goals as goal

pub returns-then-turn-clause-ended : goal.returns-then-turn-clause-ended
returns-then-turn-clause-ended g c = λ done. none_ended c.args.turn.now.pile.now _ _ c.list_skipped.ensures.kept

pub returns-then-turn-clause-adds : goal.returns-then-turn-clause-adds
returns-then-turn-clause-adds g c = said_is (IsCopyOfPile c.args.turn.now.pile.now) _ _ c.list_skipped.ensures.kept

pub returns-in-Whole-clause-staged : goal.returns-in-Whole-clause-staged
returns-in-Whole-clause-staged g c =
    let turn = c.args.turn.now in
    let copy = c.in-Whole.copy in
    let listed : Source = record { name = turn.source.name.now; size = copy.size; found = as_listed copy.found } in
    view_so c.list_written.result listed
    (λ one. IfSaid (StagesOne turn.pile.now (turn.at + 1) turn.source one) (g.F.Files.held c.args.files.now)
    (g.F.Files.held c.list_written.new.files)) (rw c.as_listed.ensures at c.list_written.ensures.listed)
    (λ done. staged_one turn.pile.now (turn.at + 1) turn.source copy turn.source.name.now _ _ _ c.if-turn.false
    (rw c.in-Whole.is at c.in_ok-copy.ensures.made) (c.list_written.ensures.ended done))

pub returns-in-Whole-clause-ended : goal.returns-in-Whole-clause-ended
returns-in-Whole-clause-ended g c = λ done.
    copy_ended c.args.turn.now.pile.now _ _ _ _ _ _ (rw c.in-Whole.is at c.in_ok-copy.ensures.made) (c.list_written.ensures.ended done)

pub returns-in-Whole-clause-adds : goal.returns-in-Whole-clause-adds
returns-in-Whole-clause-adds g c =
    said_then (IsCopyOfPile c.args.turn.now.pile.now) _ _ _ c.make_copy.ensures.adds c.list_written.ensures.adds

pub returns-in-Whole-clause-counts : goal.returns-in-Whole-clause-counts
returns-in-Whole-clause-counts g c = λ done counted.
    c.list_written.ensures.counts done (c.in_ok-copy.ensures.counts (cc) counted)

pub returns-in-Absent-clause-ended : goal.returns-in-Absent-clause-ended
returns-in-Absent-clause-ended g c = λ done.
    none_ended c.args.turn.now.pile.now _ _ (c.list_skipped-in-Absent.ensures.kept ∙ (rw c.in-Absent.is at c.in_ok-copy.ensures.made))

pub returns-in-Cut-clause-staged : goal.returns-in-Cut-clause-staged
returns-in-Cut-clause-staged g c =
    let turn = c.args.turn.now in
    let listed : Source = record { name = turn.source.name.now; size = 0; found = Err Unread } in
    view_so c.list_written-in-Cut.result listed
    (λ one. IfSaid (StagesOne turn.pile.now (turn.at + 1) turn.source one) (g.F.Files.held c.args.files.now)
    (g.F.Files.held c.list_written-in-Cut.new.files)) c.list_written-in-Cut.ensures.listed
    (λ done. cut_one turn.pile.now (turn.at + 1) turn.source listed (λ old new. (refl, c.if-turn.false)) _ _ _
    (rw c.in-Cut.is at c.in_ok-copy.ensures.made) (c.list_written-in-Cut.ensures.ended done))

pub returns-in-Cut-clause-ended : goal.returns-in-Cut-clause-ended
returns-in-Cut-clause-ended g c = λ done.
    cut_ended c.args.turn.now.pile.now _ _ _ _ (rw c.in-Cut.is at c.in_ok-copy.ensures.made) (c.list_written-in-Cut.ensures.ended done)

pub returns-in-Cut-clause-adds : goal.returns-in-Cut-clause-adds
returns-in-Cut-clause-adds g c =
    said_then (IsCopyOfPile c.args.turn.now.pile.now) _ _ _ c.make_copy.ensures.adds c.list_written-in-Cut.ensures.adds
