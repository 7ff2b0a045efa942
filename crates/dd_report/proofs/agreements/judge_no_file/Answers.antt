-- The fault of reading the file says why it is no DICOM file, unless memory ran out.
use Rattle.std.proofs.Common.{ℕ, List, ◌∙◌, Err, Option, ap, refl, sym}
use Rattle.dd_walk.specs.ForestViews.{tree_view}
use Rattle.dd_walk.specs.Saying.{digest_in}
use Rattle.dd_report.specs.Agreements.{compared_tags}
use Rattle.dd_report.specs.Batches.{judged}
use Rattle.dd_report.specs.Finding.{compared}
use Rattle.dd_report.proofs.Agreeing.{set_same}
use Rattle.dd_report.proofs.KeyFindings.{by_differs, by_wrong, refused}
use Rattle.dd_report.proofs.agreements.judge_no_file.Goals as goal

pub returns-in-Ok-clause-found : goal.returns-in-Ok-clause-found
returns-in-Ok-clause-found c = λ above given taken refuses.
    by_wrong c.args.strict (tree_view c.args.tree.now).node above given (Err c.args.fault)
    (judged c.judge_whole.result c.args.slot.now) c.in-Ok.wrong
    (refused compared_tags c.args.fault given refuses (λ says. let e = c.in-Ok.ensures.memory.1 says in absurd (cc)))
    (c.in-Ok.ensures.found above) (c.judge_whole.ensures.found given taken)

pub returns-in-Some-clause-found : goal.returns-in-Some-clause-found
returns-in-Some-clause-found c = λ above given taken refuses.
    by_differs c.args.strict (tree_view c.args.tree.now).node above given c.digest.result c.digest_finding.result
    c.in-Some.differs (c.digest.ensures given taken)
    (c.digest_finding.ensures ∙ ap (λ (o : Option (List ℕ)). compared o c.digest.result)
    (c.digest_in.ensures ∙ ap digest_in (set_same c.args.tree.now))) c.in-Some.is

pub returns-in-None-clause-memory : goal.returns-in-None-clause-memory
returns-in-None-clause-memory c = (
  c.in-Err.ensures.memory.0 refl,
  λ given taken.
      let recorded = c.digest_in.ensures ∙ ap digest_in (set_same c.args.tree.now) in
      ap (λ (d : List ℕ). compared (digest_in (tree_view c.args.tree.now).node.set) d)
      (sym (c.digest.ensures given taken))
      ∙ sym (c.digest_finding.ensures ∙ ap (λ (o : Option (List ℕ)). compared o c.digest.result) recorded)
      ∙ c.in-None.is,
)
