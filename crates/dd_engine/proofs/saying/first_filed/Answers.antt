-- A version that is not filed so extends those before it, of which none is filed so.
use Rattle.std.proofs.Common.{◌∙◌, arith, below_more, subst, sym}
use Rattle.dd_version.specs.Filing.{FiledAs}
use Rattle.dd_version.specs.declared.parts.Parts.{Parts}
use Rattle.dd_engine.proofs.saying.first_filed.Goals as goal

pub loop-at-preserved : goal.loop-at-preserved
loop-at-preserved c = below_more _ _ c.loop-at.invariant (λ is.
    let filed = subst (λ (version : Parts). FiledAs c.args.planned.now version)
    (sym c.index-versions-at.is ∙ sym c.parts.ensures.value) (is.filed c.index-versions-at.result) in
    let no = c.if-is_filed_as.ensures.1 filed in cc)

pub returns-clause-none : goal.returns-clause-none
returns-clause-none c = λ _ at is. c.loop-at.invariant at (omega (arith, is.within)) is
