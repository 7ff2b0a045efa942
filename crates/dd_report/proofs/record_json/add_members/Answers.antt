-- A member more went, or the writer failed in it.
use Rattle.std.proofs.Common.{◌∙◌, arith, refl}
use Rattle.dd_lines.proofs.GoingOn.{went_all, went_fails, went_more}
use Rattle.dd_report.proofs.MemberLines.{members_each, named_text}
use Rattle.dd_report.proofs.record_json.add_members.Goals as goal

pub returns-in_err-add_member-clause-written : goal.returns-in_err-add_member-clause-written
returns-in_err-add_member-clause-written g c =
    went_fails c.from_residual.result named_text c.args.members.now c.loop-member.member-index _ _ _ _ _ _
    c.from_residual.ensures.0 c.loop-member-test.true refl (members_each c.args.members.now)
    c.loop-member.invariant.went
    c.in_err-add_member.ensures.written

pub loop-member-preserved : goal.loop-member-preserved
loop-member-preserved g c = record {
  same = c.in_ok-add_member.ensures.same ∙ c.loop-member.invariant.same;
  went = went_more named_text c.args.members.now c.loop-member.member-index _ _ _ _ _ c.loop-member-test.true refl
      c.loop-member.invariant.went c.in_ok-add_member.ensures.written;
}

pub returns-clause-written : goal.returns-clause-written
returns-clause-written g c =
    went_all named_text c.args.members.now c.loop-member.member-index _ _ _ (omega arith)
    (members_each c.args.members.now) c.loop-member.invariant.went
