use Rattle.std.proofs.Common.{◌≡◌, sym, ◌∙◌}
use Rattle.dd_version.specs.Orders.{patient_apart, study_apart, series_apart}
use Rattle.dd_catalogue.specs.Rising.{is_eq_Equal}
use Rattle.dd_catalogue.proofs.harmony.with_other_keys.Goals as goal

pub returns-then-has_keys_of-3-clause-same : goal.returns-then-has_keys_of-3-clause-same
returns-then-has_keys_of-3-clause-same c = λ _.
    let v = c.args.version.now in
    let patient : v.patient ≡ c.args.patient.now.patient =
    patient_apart _ _ (is_eq_Equal _ (sym c.has_keys_of.ensures ∙ c.if-has_keys_of.true)) in
    let study : v.study ≡ c.args.study.now.study =
    study_apart _ _ (is_eq_Equal _ (sym c.has_keys_of-then-has_keys_of.ensures ∙ c.if-has_keys_of-2.true)) in
    let series : v.series ≡ c.args.series.now.series =
    series_apart _ _ (is_eq_Equal _ (sym c.has_keys_of-then-has_keys_of-2.ensures ∙ c.if-has_keys_of-3.true)) in
    λ i. record v { patient = patient i; study = study i; series = series i }
