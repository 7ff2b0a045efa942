-- Each of them is the one of the file.
use Rattle.std.proofs.Common.{◌≡◌, ◌∙◌, ℕ, List, Option, ap, map, refl}
use Rattle.std.specs.Prelude.{is_some}
use Rattle.dd_scan.specs.declared.found.Found.{Found}
use Rattle.dd_scan.specs.Scan.{found_hit, hits_of}
use Rattle.dd_walk.specs.ForestViews.{tree_view}
use Rattle.dd_walk.specs.Saying.{digest_in}
use Rattle.dd_report.specs.Agreements.{compared_tags}
use Rattle.dd_report.proofs.Agreeing.{all_agree, set_same}
use Rattle.dd_report.proofs.agreements.agreements.Goals as goal

pub returns : goal.returns
returns c = λ above file said scanned.
    let hits : map found_hit c.as_slice-found.result.now ≡ hits_of compared_tags file.set =
    ap (λ (founds : List Found). map found_hit founds) c.as_slice-found.ensures.value ∙ scanned.found in
    let own : c.is_some-is_own.result ≡ is_some (digest_in (tree_view c.args.tree.now).node.set) =
    c.is_some-is_own.ensures ∙ ap (λ (o : Option (List ℕ)). is_some o)
    (c.digest_in.ensures ∙ ap digest_in (set_same c.args.tree.now)) in
    all_agree (tree_view c.args.tree.now).node above file c.args.scanned.now.meta c.value_in-class.result.now
    c.value_in-instance.result.now c.is_some-is_own.result c.args.inherited.patient_id.now c.args.inherited.study.now
    c.args.inherited.series.now _ _ _ _ _ _ _ _ scanned.meta c.value_in-class.ensures
    c.value_in-instance.ensures own said.patient_id said.study said.series
    c.uid_agreement.ensures c.uid_agreement-2.ensures (c.syntax_agreement.ensures above)
    (c.value_agreement.ensures file.set hits refl) (c.value_agreement-2.ensures file.set hits refl)
    (c.patient_agreement.ensures file.set hits) (c.value_agreement-3.ensures file.set hits refl)
    (c.value_agreement-4.ensures file.set hits refl)
