use Rattle.std.proofs.Common.{◌≡◌, ◌∙◌, sym, ap, Bool, true, false, suc}
use Rattle.std.specs.Ordering.{is_eq}
use Rattle.std.specs.Prelude.{not}
use Rattle.std.proofs.lemmas.Bool.{cond-true, cond-false}
use Rattle.dd_elem.specs.Ordered.{bytes_cmp}
use Rattle.dd_elem.proofs.Sameness.{same_bytes, same_uid}
use Rattle.dd_layout.proofs.order.shared_length.Goals as goal
use Rattle.dd_layout.proofs.order.shared_length.Goals.{After-ne-else-ne, After-ne-else-ne-2, After-ne-else-ne-3}

-- what `!=` answers where the two compare equal, and where they don't
equal : (differ same equals : Bool) → same ≡ equals → differ ≡ not equals → differ ≡ false → same ≡ true
equal differ same true e d answer = e
equal differ same false e d answer = let h = sym d ∙ answer in cc

unequal : (differ same equals : Bool) → same ≡ equals → differ ≡ not equals → differ ≡ true → same ≡ false
unequal differ same true e d answer = let h = sym d ∙ answer in cc
unequal differ same false e d answer = e

-- the parts in front that were compared
patient_same : (c : After-ne-else-ne)
    → is_eq (bytes_cmp c.parts-one.result.now.patient.id c.parts-other.result.now.patient.id) ≡ true
patient_same c =
    equal _ _ _ (same_bytes c.parts-one.result.now.patient.id c.parts-other.result.now.patient.id)
    c.ne.ensures c.if-ne.false

study_same : (c : After-ne-else-ne-2)
    → is_eq (bytes_cmp c.parts-one.result.now.study.uid c.parts-other.result.now.study.uid) ≡ true
study_same c =
    equal _ _ _ (same_uid c.parts-one.result.now.study.uid c.parts-other.result.now.study.uid)
    c.ne-else-ne.ensures c.if-ne-2.false

series_same : (c : After-ne-else-ne-3)
    → is_eq (bytes_cmp c.parts-one.result.now.series.uid c.parts-other.result.now.series.uid) ≡ true
series_same c =
    equal _ _ _ (same_uid c.parts-one.result.now.series.uid c.parts-other.result.now.series.uid)
    c.ne-else-ne-2.ensures c.if-ne-3.false

pub returns-then-ne-clause-exact : goal.returns-then-ne-clause-exact
returns-then-ne-clause-exact c =
    rw (sym c.parts-one.ensures.value) (rw (sym c.parts-other.ensures.value)
    (sym (cond-false _ _ _ (unequal _ _ _ (same_bytes c.parts-one.result.now.patient.id c.parts-other.result.now.patient.id)
    c.ne.ensures c.if-ne.true))))

pub returns-then-ne-2-clause-exact : goal.returns-then-ne-2-clause-exact
returns-then-ne-2-clause-exact c =
    let at = goal.at.returns-then-ne-2-clause-exact c in
    rw (sym c.parts-one.ensures.value) (rw (sym c.parts-other.ensures.value)
    (sym (cond-true _ _ _ (patient_same at.After-ne-else-ne)
    ∙ ap suc (cond-false _ _ _ (unequal _ _ _ (same_uid c.parts-one.result.now.study.uid c.parts-other.result.now.study.uid)
    c.ne-else-ne.ensures c.if-ne-2.true)))))

pub returns-then-ne-3-clause-exact : goal.returns-then-ne-3-clause-exact
returns-then-ne-3-clause-exact c =
    let at = goal.at.returns-then-ne-3-clause-exact c in
    rw (sym c.parts-one.ensures.value) (rw (sym c.parts-other.ensures.value)
    (sym (cond-true _ _ _ (patient_same at.After-ne-else-ne)
    ∙ ap suc (cond-true _ _ _ (study_same at.After-ne-else-ne-2)
    ∙ ap suc (cond-false _ _ _ (unequal _ _ _ (same_uid c.parts-one.result.now.series.uid c.parts-other.result.now.series.uid)
    c.ne-else-ne-2.ensures c.if-ne-3.true))))))

pub returns-then-ne-4-clause-exact : goal.returns-then-ne-4-clause-exact
returns-then-ne-4-clause-exact c =
    let at = goal.at.returns-then-ne-4-clause-exact c in
    rw (sym c.parts-one.ensures.value) (rw (sym c.parts-other.ensures.value)
    (sym (cond-true _ _ _ (patient_same at.After-ne-else-ne)
    ∙ ap suc (cond-true _ _ _ (study_same at.After-ne-else-ne-2)
    ∙ ap suc (cond-true _ _ _ (series_same at.After-ne-else-ne-3)
    ∙ ap suc (cond-false _ _ _ (unequal _ _ _ (same_uid c.parts-one.result.now.instance c.parts-other.result.now.instance)
    c.ne-else-ne-3.ensures c.if-ne-4.true)))))))

pub returns-else-ne-4-clause-exact : goal.returns-else-ne-4-clause-exact
returns-else-ne-4-clause-exact c =
    let at = goal.at.returns-else-ne-4-clause-exact c in
    rw (sym c.parts-one.ensures.value) (rw (sym c.parts-other.ensures.value)
    (sym (cond-true _ _ _ (patient_same at.After-ne-else-ne)
    ∙ ap suc (cond-true _ _ _ (study_same at.After-ne-else-ne-2)
    ∙ ap suc (cond-true _ _ _ (series_same at.After-ne-else-ne-3)
    ∙ ap suc (cond-true _ _ _ (equal _ _ _ (same_uid c.parts-one.result.now.instance c.parts-other.result.now.instance)
    c.ne-else-ne-3.ensures c.if-ne-4.false)))))))
