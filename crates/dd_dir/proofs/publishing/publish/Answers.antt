use Rattle.std.proofs.Common.{◌≡◌, ◌+◌, ◌++◌, ℕ, List, [], length, refl, sym, ap, subst, ◌∙◌, arith}
use Rattle.dd_catalogue.specs.Best.{IsRising}
use Rattle.dd_catalogue.specs.Harmony.{harmonised}
use Rattle.dd_elem.specs.Ordered.{bytes_cmp}
use Rattle.dd_layout.specs.Layouts.{Layout}
use Rattle.dd_dir.specs.Directories.{IsDirectory, OffsetsWithin, directory_of}
use Rattle.dd_dir.specs.SaysItself.{SaysItself}
use Rattle.dd_dir.specs.Visits.{Realises}
use Rattle.dd_dir.proofs.publishing.publish.Goals as goal

pub returns-in-Ok-clause-bytes : goal.returns-in-Ok-clause-bytes
returns-in-Ok-clause-bytes c =
    c.into_bytes.ensures ∙ c.in-Ok.ensures.sends.ok.1.holds
    ∙ ap (λ (bs : List ℕ). bs ++ directory_of c.in_ok-plan.plan.label c.in_ok-plan.plan.versions
    c.in_ok-plan.plan.withdrawn) c.in_ok-buffer.ensures
    ∙ ap (λ (plan : Layout). directory_of plan.label plan.versions plan.withdrawn) c.in_ok-plan.ensures.planned

pub returns-in-Ok-clause-file : goal.returns-in-Ok-clause-file
returns-in-Ok-clause-file c = λ ok.
    subst (λ (plan : Layout). IsDirectory plan.label plan.versions plan.withdrawn) c.in_ok-plan.ensures.planned
    (c.in-Ok.ensures.file refl)

pub returns-in-Ok-clause-within : goal.returns-in-Ok-clause-within
returns-in-Ok-clause-within c =
    let plan = c.in_ok-plan.plan in
    let text = directory_of plan.label plan.versions plan.withdrawn in
    let long : 0 + length text ≡ length text = omega arith in
    let whole = subst (λ (n : ℕ). OffsetsWithin n plan.label plan.versions) (c.in-Ok.ensures.sends.ok.0 ∙ long)
    c.in-Ok.ensures.within in
    let planned = subst (λ (p : Layout). OffsetsWithin (length (directory_of p.label p.versions p.withdrawn)) p.label
    p.versions)
    c.in_ok-plan.ensures.planned whole in
    let m = harmonised c.args.catalogue.now.versions in
    subst (λ (bytes : List ℕ). OffsetsWithin (length bytes) c.args.label.now m) (sym (returns-in-Ok-clause-bytes c))
    planned

pub returns-in-Ok-clause-realised : goal.returns-in-Ok-clause-realised
returns-in-Ok-clause-realised c =
    let label = c.args.label.now in
    let m = c.args.catalogue.now.versions in
    let planned = c.in_ok-plan.ensures.planned in
    let whole = subst (λ (plan : Layout). Realises plan.label m (directory_of plan.label plan.versions plan.withdrawn))
    planned (c.in-Ok.ensures.realised refl m c.catalogue_is_held.ensures.versions
    (ap (λ (plan : Layout). plan.versions) planned)) in
    subst (λ (bytes : List ℕ). Realises label m bytes) (sym (returns-in-Ok-clause-bytes c)) whole

pub returns-in-Ok-clause-own : goal.returns-in-Ok-clause-own
returns-in-Ok-clause-own c =
    let m = c.args.catalogue.now.versions in
    let held = c.catalogue_is_held.ensures in
    let planned = c.in_ok-plan.ensures.planned in
    let rising = subst (λ (plan : Layout). IsRising (λ uid. uid) bytes_cmp plan.withdrawn) (sym planned)
    held.withdrawn in
    let whole = subst (λ (plan : Layout). SaysItself m plan.withdrawn
    (directory_of plan.label plan.versions plan.withdrawn)) planned
    (c.in-Ok.ensures.own refl m held.versions (ap (λ (plan : Layout). plan.versions) planned) rising) in
    subst (λ (bytes : List ℕ). SaysItself m c.args.catalogue.now.withdrawn bytes) (sym (returns-in-Ok-clause-bytes c))
    whole
