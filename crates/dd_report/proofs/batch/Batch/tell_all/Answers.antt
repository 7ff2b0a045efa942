-- The line of one file more went, or the writer failed in it.
use Rattle.std.proofs.Common.{[], ◌∷◌, ◌≡◌, ◌∙◌, arith, refl, sym}
use Rattle.std.specs.Prelude.{◌||◌}
use Rattle.dd_report.specs.Batches.{files_of, pending_files, pending_line, pending_text}
use Rattle.dd_lines.specs.Telling.{way_of}
use Rattle.dd_report.proofs.Batching.{AreDigests, found_all, found_more, pending_count, or_false, piece_is}
use Rattle.dd_lines.proofs.GoingOn.{went_all, went_fails, went_more, went_none}
use Rattle.dd_report.proofs.batch.Batch.tell_all.Goals as goal
use Rattle.dd_report.proofs.batch.Batch.tell_all.Goals.{then-branch, else-branch}

pub loop-at-init : goal.loop-at-init
loop-at-init g c = record {
  same = refl;
  went = went_none pending_line (pending_files c.args.self.now) (way_of g.W.Write c.args.lines.now);
  found = sym (or_false c.args.self.now.found);
  kept = refl;
  refusals = refl;
}

pub loop-at-preserved : goal.loop-at-preserved
loop-at-preserved g c =
    let batch = c.args.self.now in
    let one = c.file_at.result.now in
    let d = c.digest_slots.ensures in
    let front = c.digest_slots.result.0 in
    let back = c.digest_slots.result.1 in
    let digests = front.0 ∷ front.1 ∷ front.2 ∷ front.3 ∷ back.0 ∷ back.1 ∷ back.2 ∷ back.3 ∷ [] in
    let are : AreDigests (files_of batch) digests =
    (d.first, (d.second, (d.third, (d.fourth, (d.fifth, (d.sixth, (d.seventh, (d.eighth, tt)))))))) in
    let many = pending_count batch c.requires in
    let below = c.loop-at-test.true in
    let is = piece_is batch digests c.loop-at.at one _ are c.requires below
    c.file_at.ensures refl in
    let both : c.if-branch.found ≡ (c.in_ok-found.found || c.loop-at.found) = elim c.if-branch.branch [
      | then-branch w ↦ w.found-is ∙ rw w.if-branch.true refl
      | else-branch w ↦ w.found-is ∙ rw w.if-branch.false refl
    ] in
    record {
      same = c.in_ok-found.ensures.same ∙ c.loop-at.invariant.same;
      went = went_more pending_line (pending_files batch) c.loop-at.at one _ _ _ _ (omega (arith, many, below)) is
          c.loop-at.invariant.went c.in_ok-found.ensures.told;
      found = found_more (pending_files batch) c.loop-at.at one _ batch.found c.loop-at.found c.in_ok-found.found
          c.if-branch.found (omega (arith, many, below)) is c.loop-at.invariant.found c.in_ok-found.ensures.found both;
      kept = c.in_ok-found.ensures.kept ∙ c.loop-at.invariant.kept;
      refusals = c.in_ok-found.ensures.refusals ∙ c.loop-at.invariant.refusals;
    }

pub returns-in_err-found-clause-told : goal.returns-in_err-found-clause-told
returns-in_err-found-clause-told g c =
    let batch = c.args.self.now in
    let one = c.file_at.result.now in
    let d = c.digest_slots.ensures in
    let front = c.digest_slots.result.0 in
    let back = c.digest_slots.result.1 in
    let digests = front.0 ∷ front.1 ∷ front.2 ∷ front.3 ∷ back.0 ∷ back.1 ∷ back.2 ∷ back.3 ∷ [] in
    let are : AreDigests (files_of batch) digests =
    (d.first, (d.second, (d.third, (d.fourth, (d.fifth, (d.sixth, (d.seventh, (d.eighth, tt)))))))) in
    let many = pending_count batch c.requires in
    let below = c.loop-at-test.true in
    went_fails c.from_residual.result pending_line (pending_files batch) c.loop-at.at one _ (pending_text batch) _ _ _
    c.from_residual.ensures.0 (omega (arith, many, below))
    (piece_is batch digests c.loop-at.at one _ are c.requires below
    c.file_at.ensures refl) refl c.loop-at.invariant.went c.in_err-found.ensures.told

pub returns-clause-told : goal.returns-clause-told
returns-clause-told g c =
    let many = pending_count c.args.self.now c.requires in
    let over = c.loop-at-test.false in
    went_all pending_line (pending_files c.args.self.now) c.loop-at.at (pending_text c.args.self.now) _ _
    (omega (arith, many, over)) refl c.loop-at.invariant.went

pub returns-clause-found : goal.returns-clause-found
returns-clause-found g c =
    let many = pending_count c.args.self.now c.requires in
    let over = c.loop-at-test.false in
    found_all (pending_files c.args.self.now) c.loop-at.at c.args.self.now.found c.loop-at.found
    (omega (arith, many, over))
    c.loop-at.invariant.found
