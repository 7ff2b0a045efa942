use Rattle.std.specs.Prelude.{◌≡◌, ◌≤◌, All, length, map}
use Rattle.std.proofs.Common.{refl, sym, subst, ap, ◌∙◌, arith}
use Rattle.dd_elem.specs.FileId.{max_rank}
use Rattle.dd_layout.specs.Layouts.{IsSound}
use Rattle.dd_layout.specs.Limits.{Limits}
use Rattle.dd_layout.specs.Plans.{tree}
use Rattle.dd_records.specs.Records.{IsFileOf}
use Rattle.dd_layout.specs.Refusal.{crowded}
use Rattle.dd_layout.specs.Stages.{level_in}
use Rattle.dd_layout.proofs.Excesses.{no_excess, too_large, too_many}
use Rattle.dd_layout.proofs.Leasts.{sound}
use Rattle.dd_layout.proofs.Moved.{levels_bare}
use Rattle.dd_layout.proofs.layout.fill.Goals as goal
use Rattle.dd_layout.proofs.layout.fill.Goals.{After-crowded_level}

-- the level that was found is the crowded one
crowded_is : (c : After-crowded_level)
    → crowded c.args.limits.per_level (tree c.args.versions.now) ≡ c.crowded_level.result
crowded_is c =
    let versions = c.args.versions.now in
    ap (λ (limits : Limits). crowded limits.per_level (tree versions)) (sym c.limits.view_is)
    ∙ sym (c.crowded_level.ensures versions (ap (map level_in) c.requires ∙ levels_bare versions (tree versions)))

few : (c : After-crowded_level) → c.args.limits.per_level ≤ max_rank
few c = subst (λ (limits : Limits). limits.per_level ≤ max_rank) c.limits.view_is c.limits.invariant

pub returns-in-Some-clause-refused : goal.returns-in-Some-clause-refused
returns-in-Some-clause-refused c =
    too_many c.args.label.now c.args.limits c.args.versions.now c.args.withdrawn.now c.in-Some.level
    (crowded_is (goal.at.returns-in-Some-clause-refused c).After-crowded_level ∙ c.in-Some.is)

pub returns-in_default-checked_sub-clause-refused : goal.returns-in_default-checked_sub-clause-refused
returns-in_default-checked_sub-clause-refused c =
    let none = crowded_is (goal.at.returns-in_default-checked_sub-clause-refused c).After-crowded_level ∙ c.in_default.is in
    let bytes = c.from.ensures ∙ ap (λ (limits : Limits). limits.bytes) c.limits.view_is in
    too_large c.args.label.now c.args.limits c.args.versions.now c.args.withdrawn.now none
    (omega (arith, bytes, c.withdrawals_size-withdrawals.ensures.exact, c.in_default-checked_sub.ensures))

pub set_offsets-requires-clause-records : goal.set_offsets-requires-clause-records
set_offsets-requires-clause-records c =
    c.number.ensures.numbered c.args.versions.now c.args.limits.per_level (few (goal.at.set_offsets-requires-clause-records c).After-crowded_level)
    (crowded_is (goal.at.set_offsets-requires-clause-records c).After-crowded_level ∙ c.in_default.is) c.requires

pub set_offsets-requires-clause-files : goal.set_offsets-requires-clause-files
set_offsets-requires-clause-files c =
    c.number.ensures.files c.args.versions.now c.args.limits.per_level (few (goal.at.set_offsets-requires-clause-files c).After-crowded_level)
    (crowded_is (goal.at.set_offsets-requires-clause-files c).After-crowded_level ∙ c.in_default.is) c.requires

pub returns-in_default-set_offsets-clause-refused : goal.returns-in_default-set_offsets-clause-refused
returns-in_default-set_offsets-clause-refused c =
    let none = crowded_is (goal.at.returns-in_default-set_offsets-clause-refused c).After-crowded_level ∙ c.in_default.is in
    let bytes = c.from.ensures ∙ ap (λ (limits : Limits). limits.bytes) c.limits.view_is in
    too_large c.args.label.now c.args.limits c.args.versions.now c.args.withdrawn.now none
    (omega (
      arith,
      bytes,
      c.withdrawals_size-withdrawals.ensures.exact,
      c.in-Some-checked_sub.ensures,
      c.in_default-set_offsets.ensures.fits,
    ))

pub returns-clause-allowed : goal.returns-clause-allowed
returns-clause-allowed c = λ ok.
    let none = crowded_is (goal.at.returns-clause-allowed c).After-crowded_level ∙ c.in_default.is in
    let bytes = c.from.ensures ∙ ap (λ (limits : Limits). limits.bytes) c.limits.view_is in
    no_excess c.args.label.now c.args.limits c.args.versions.now c.args.withdrawn.now none
    (omega (
      arith,
      bytes,
      c.withdrawals_size-withdrawals.ensures.exact,
      c.in-Some-checked_sub.ensures,
      c.in-Some-set_offsets.ensures.fits.0,
    ))

pub returns-clause-full : goal.returns-clause-full
returns-clause-full c =
    let label = c.args.label.now in
    let versions = c.args.versions.now in
    let none = crowded_is (goal.at.returns-clause-full c).After-crowded_level ∙ c.in_default.is in
    let ranked = few (goal.at.returns-clause-full c).After-crowded_level in
    let numbered = c.number.ensures.numbered versions c.args.limits.per_level ranked none c.requires in
    let files = c.number.ensures.files versions c.args.limits.per_level ranked none c.requires in
    let linked = c.link.ensures label versions (c.in-Some-set_offsets.ensures.placed refl) in
    record {
      records = linked;
      size = omega (arith, c.in-Some-set_offsets.ensures.fits.1, c.withdrawals_size-withdrawals.ensures.exact);
      sound = subst (λ rows. All (IsSound (length versions)) rows) (sym linked)
          (sound label versions (subst (λ rows. All (λ row. IsFileOf row.level row.file) rows) numbered files));
    }
