-- The parts of a list make the list, whatever was read. The part that is not taken comes after the names that were added.
use Rattle.std.proofs.Common.{◌≡◌, ◌-◌, ◌+◌, ◌∙◌, ap, arith, length, rules, string_bytes, subst, sym, true}
use Rattle.std.proofs.lemmas.List.{length-map}
use Rattle.dd_inputs.proofs.HavingPaths.{added_fails, added_good, name_added, none_of}
use Rattle.dd_inputs.proofs.NameParts.{parts_listed}
use Rattle.dd_inputs.specs.ListedNames.{FailsAt, parts}
use Rattle.dd_inputs.proofs.listed_names.add_names.Goals as goal

pub returns-in_err-add_name-clause-listed : goal.returns-in_err-add_name-clause-listed
returns-in_err-add_name-clause-listed c = parts_listed c.args.list.now

pub returns-then-not-branch-clause-listed : goal.returns-then-not-branch-clause-listed
returns-then-not-branch-clause-listed c = parts_listed c.args.list.now

pub returns-clause-listed : goal.returns-clause-listed
returns-clause-listed c = parts_listed c.args.list.now

pub returns-then-not-branch-clause-bad : goal.returns-then-not-branch-clause-bad
returns-then-not-branch-clause-bad c = λ number is.
    let none = c.in_ok-add_name.ensures.bad (search rules) in
    let this : c.len.result - c.len-first.result + 1 ≡ number = cc in
    let many : c.len.result ≡ length c.add_name.new.all.paths.items = search rules in
    let few : c.len-first.result ≡ length c.args.all.now.paths.items = search rules in
    let now = many ∙ ap (λ all. length all.paths.items) none.1
    ∙ sym (length-map c.loop-rest.all.paths.items (λ path. string_bytes path)) in
    let first = few
    ∙ sym (length-map c.args.all.now.paths.items (λ path. string_bytes path)) in
    subst (λ n. FailsAt c.args.keep_going (parts c.args.list.now) n) (omega (arith, this, now, first))
    (added_fails c.args.keep_going c.args.list.now c.loop-rest.rest.now _ _ _ _ c.loop-rest.invariant
    c.cut_first.result.0.now c.cut_first.result.1.now (c.cut_first.ensures.parts (search rules)) none.0)

pub loop-rest-preserved : goal.loop-rest-preserved
loop-rest-preserved c =
    let is : c.in_ok-add_name.field-0 ≡ true = search rules in
    name_added c.args.keep_going c.args.list.now c.loop-rest.rest.now _ _ _ _ c.loop-rest.invariant
    c.cut_first.result.0.now c.cut_first.result.1.now _ _ (c.cut_first.ensures.parts (search rules))
    (c.in_ok-add_name.ensures.good is) (c.in_ok-add_name.ensures.paths is)
    (length-map c.add_name.new.all.paths.items (λ path. string_bytes path) ∙ c.in_ok-add_name.ensures.count is
    ∙ ap (λ n. n + 1) (sym (length-map c.loop-rest.all.paths.items (λ path. string_bytes path))))
    (c.in_ok-add_name.ensures.none cc)

pub returns-clause-good : goal.returns-clause-good
returns-clause-good c = λ _.
    let nothing : length c.loop-rest.rest.now ≡ 0 = search (rules, arith) in
    added_good c.args.keep_going c.args.list.now c.loop-rest.rest.now _ _ _ _ c.loop-rest.invariant
    (none_of c.loop-rest.rest.now nothing) (λ none. search (rules, arith, none))
