use Rattle.std.proofs.Common.{subst}
use Rattle.dd_catalogue.specs.HarmonyFound.{AreChangesOf}
use Rattle.dd_engine.proofs.Planned.{files_in, findings_are}
use Rattle.dd_engine.proofs.findings.findings_of.Goals as goal

pub first_files-requires : goal.first_files-requires
first_files-requires g c =
    files_in c.args.basis.now c.deref-versions.result.now c.in_ok-best.best c.deref-origins.result.now
    c.deref-versions.ensures.value c.deref-origins.ensures.value c.requires c.in_ok-best.ensures.kept

pub left_out_files-requires : goal.left_out_files-requires
left_out_files-requires g c =
    files_in c.args.basis.now c.deref-versions.result.now c.in_ok-best.best c.deref-origins.result.now
    c.deref-versions.ensures.value c.deref-origins.ensures.value c.requires c.in_ok-best.ensures.kept

pub returns-clause-found : goal.returns-clause-found
returns-clause-found g c =
    let changes = subst (λ found. AreChangesOf c.in_ok-best.best found) c.in-Found.is c.in_ok-changes.ensures.harmony in
    findings_are c.args.basis.now c.deref-versions.result.now c.in_ok-best.best c.deref-origins.result.now _
    c.deref-versions.ensures.value c.deref-origins.ensures.value c.in_ok-best.ensures.kept (record {
      none = changes.0;
      harmony = changes.1;
      files = c.in_ok-files.ensures.all;
      left = c.in_ok-left_out.ensures.all;
      names = c.in_ok-names.ensures.named;
    })
