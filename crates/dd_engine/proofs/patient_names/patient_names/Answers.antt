use Rattle.std.proofs.Common.{[], filter, map, rules, sym, subst}
use Rattle.std.proofs.lemmas.List.{nil_from_length}
use Rattle.std.proofs.lemmas.Result.{IfOk-weaker}
use Rattle.dd_catalogue.specs.Best.{SameMembers}
use Rattle.dd_engine.specs.Namings.{grouped, has_several, naming_of}
use Rattle.dd_engine.specs.PatientNames.{AreNamed, with_kept_digest}
use Rattle.dd_engine.proofs.NamedPatients.{are_named, none_named}
use Rattle.dd_engine.proofs.patient_names.patient_names.Goals as goal

pub returns-then-is_empty-clause-named : goal.returns-then-is_empty-clause-named
returns-then-is_empty-clause-named c =
    let none = nil_from_length c.args.versions.now (search rules) in
    subst (λ all. AreNamed (with_kept_digest c.args.best.now all) c.new.result.items) (sym none)
    (subst (λ patients. AreNamed [] patients) (sym c.new.ensures.items) none_named)

pub returns-clause-named : goal.returns-clause-named
returns-clause-named c =
    let namings = c.in_order-namings.result.items in
    let versions = with_kept_digest c.args.best.now c.args.versions.now in
    let same : SameMembers namings (map naming_of versions) =
    subst (λ all. SameMembers namings all) c.in_ok-namings_of.ensures c.in_order-namings.ensures.same in
    let named = are_named versions namings same c.in_order-namings.ensures.rising in
    IfOk-weaker c.of_several_names.result _ _
    (λ patients is. subst (λ all. AreNamed versions all) (sym is)
    (subst (λ all. AreNamed versions (filter has_several (grouped all)))
    (sym c.deref.ensures.value) named))
    c.of_several_names.ensures
