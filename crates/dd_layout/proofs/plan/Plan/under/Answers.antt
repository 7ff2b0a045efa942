use Rattle.std.specs.Prelude.{◌≡◌, ◌+◌, ◌<◌, ◌^◌, ℕ, All, List, length, map}
use Rattle.std.proofs.Common.{ap, ap₂, sym, subst, ◌∙◌, arith, rules}
use Rattle.std.proofs.lemmas.List.{length-map}
use Rattle.dd_records.specs.declared.record.PlanRecord.{PlanRecord}
use Rattle.dd_records.specs.Directory.{first_offset}
use Rattle.dd_layout.specs.Layouts.{StandsWithin}
use Rattle.dd_layout.specs.Limits.{Limits}
use Rattle.dd_layout.specs.Plans.{size, tree}
use Rattle.dd_layout.specs.Refusal.{crowded}
use Rattle.dd_layout.specs.Stages.{level_in, moved_record}
use Rattle.dd_layout.proofs.Excesses.{no_excess, too_large, too_many}
use Rattle.dd_layout.proofs.Moved.{all_within, laid_out_moved, levels_planned, whole_written}
use Rattle.dd_layout.proofs.OffsetsWithin.{records_within}
use Rattle.dd_layout.proofs.plan.Plan.under.Goals as goal
use Rattle.dd_layout.proofs.plan.Plan.under.Goals.{After-crowded_level, After-from-3}

-- the level that was found is the crowded one
crowded_is : (c : After-crowded_level)
    → crowded c.args.limits.per_level (tree c.args.self.versions) ≡ c.crowded_level.result
crowded_is c =
    let plan = c.args.self in
    ap (λ (limits : Limits). crowded limits.per_level (tree plan.versions)) (sym c.limits.view_is)
    ∙ sym (c.crowded_level.ensures plan.versions
    (ap (map level_in) (c.deref.ensures.value ∙ c.into_parts-catalogue.ensures.laid_out.records)
    ∙ levels_planned plan.label plan.versions (tree plan.versions)))

-- the size and the limit that are compared
size_is : (c : After-from-3)
    → c.from.result + c.from-2.result ≡ size c.args.label.now c.args.self.versions c.args.self.withdrawn
size_is c =
    let from = c.first_offset-from.ensures.exact ∙ ap first_offset c.label.ensures in
    omega (
      arith,
      c.into_parts-catalogue.ensures.laid_out.size,
      from,
      c.first_offset-to.ensures.exact,
      c.from.ensures,
      c.from-2.ensures,
    )

limit_is : (c : After-from-3) → c.from-3.result ≡ c.args.limits.bytes
limit_is c = c.from-3.ensures ∙ ap (λ (limits : Limits). limits.bytes) c.limits.view_is

pub returns-in-Some-clause-refused : goal.returns-in-Some-clause-refused
returns-in-Some-clause-refused c =
    too_many c.args.label.now c.args.limits c.args.self.versions c.args.self.withdrawn c.in-Some.level
    (crowded_is (goal.at.returns-in-Some-clause-refused c).After-crowded_level ∙ c.in-Some.is)

pub returns-then-size-from-clause-refused : goal.returns-then-size-from-clause-refused
returns-then-size-from-clause-refused c =
    too_large c.args.label.now c.args.limits c.args.self.versions c.args.self.withdrawn
    (crowded_is (goal.at.returns-then-size-from-clause-refused c).After-crowded_level ∙ c.in_default.is)
    (omega (
      arith,
      size_is (goal.at.returns-then-size-from-clause-refused c).After-from-3,
      limit_is (goal.at.returns-then-size-from-clause-refused c).After-from-3,
      c.if-size-from.true,
    ))

pub move_records-requires : goal.move_records-requires
move_records-requires c =
    let plan = c.args.self in
    let laid = c.into_parts-catalogue.ensures.laid_out in
    let from = c.first_offset-from.ensures.exact ∙ ap first_offset c.label.ensures in
    let small : c.limits.inside.bytes < 2 ^ 32 = search rules in
    all_within _ (size plan.label plan.versions plan.withdrawn) _
    (omega (
      arith,
      laid.size,
      from,
      c.from.ensures,
      c.from-2.ensures,
      c.if-size-from.false,
      c.from-3.ensures,
      small,
    ))
    (subst (λ (rows : List PlanRecord). All (StandsWithin (size plan.label plan.versions plan.withdrawn)) rows)
    (sym (c.deref_mut.ensures.value ∙ laid.records)) (records_within plan.label plan.versions plan.withdrawn))

pub of-requires : goal.of-requires
of-requires c =
    let plan = c.args.self in
    let laid = c.into_parts-catalogue.ensures.laid_out in
    let old = c.into_parts-catalogue.result.1.items in
    let from = c.first_offset-from.ensures.exact ∙ ap first_offset c.label.ensures in
    let moved : c.move_records.new.records
    ≡ map (moved_record (first_offset plan.label) (first_offset c.args.label.now)) old =
    c.move_records.ensures
    ∙ ap₂ (λ (m n : ℕ). map (moved_record m n) c.deref_mut.result.now) from c.first_offset-to.ensures.exact
    ∙ ap (map (moved_record (first_offset plan.label) (first_offset c.args.label.now))) c.deref_mut.ensures.value in
    let many : length old ≡ c.into_parts-catalogue.result.1.len =
    ap length (sym c.deref_mut.ensures.value) ∙ c.deref_mut.ensures.len in
    let items = whole_written c.into_parts-catalogue.result.1.len c.move_records.new.records old many
    (ap length moved ∙ length-map old (moved_record (first_offset plan.label) (first_offset c.args.label.now))) in
    rw (c.into_parts-catalogue.ensures.versions, c.into_parts-catalogue.ensures.withdrawn)
    (laid_out_moved plan.label c.args.label.now plan.versions plan.withdrawn old _ _ _ laid (items ∙ moved)
    (omega (arith, laid.size, from, c.first_offset-to.ensures.exact, c.from.ensures, c.from-2.ensures)))

pub returns-clause-allowed : goal.returns-clause-allowed
returns-clause-allowed c = λ ok.
    no_excess c.args.label.now c.args.limits c.args.self.versions c.args.self.withdrawn
    (crowded_is (goal.at.returns-clause-allowed c).After-crowded_level ∙ c.in_default.is)
    (omega (
      arith,
      size_is (goal.at.returns-clause-allowed c).After-from-3,
      limit_is (goal.at.returns-clause-allowed c).After-from-3,
      c.if-size-from.false,
    ))
