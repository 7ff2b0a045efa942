use Rattle.std.proofs.Common.{rules, ◌≡◌, ◌≢◌, inr, ℕ, List, Option, Some, Err, option_map, length, map, refl, ap}
use Rattle.std.proofs.Common.{sym, subst, ◌∙◌, arith}
use Rattle.std.specs.Vec.{with_items}
use Rattle.std.proofs.lemmas.List.{length-map, with_items_is}
use Rattle.dd_set.specs.declared.set.DataSet.{DataSet}
use Rattle.dd_encoding.specs.Elements.{Elements}
use Rattle.dd_set.specs.Views.{set_view}
use Rattle.dd_walk.specs.ForestViews.{trees_view}
use Rattle.dd_walk.specs.ReadAnswers.{Fails, Follows, contents_view}
use Rattle.dd_walk.specs.Pending.{count_left, pending_view}
use Rattle.dd_walk.specs.Trees.{last_offset_or}
use Rattle.dd_walk.proofs.Ending.{full_left, pending_many, fails_as, ends_elsewhere, walk_of}
use Rattle.dd_walk.proofs.directory_walk.trees_of.Goals as goal

pub chain-requires-clause-each : goal.chain-requires-clause-each
chain-requires-clause-each c =
    let many = pending_many c.in_ok-pending.pending.items c.args.directory.items.items c.in_ok-pending.ensures.full in
    ap length c.deref.ensures.value ∙ c.requires.each ∙ sym many ∙ sym (ap length c.deref_mut.ensures.value)

pub returns-in_err-trees-clause-refused : goal.returns-in_err-trees-clause-refused
returns-in_err-trees-clause-refused c =
    let contents = contents_view c.args.directory in
    let fault = c.in_err-trees.field-0.0 in
    let is : c.from_residual-in_err-trees.result ≡ Err fault = search rules in
    let pending = pending_view c.deref_mut.result.now in
    let full : pending ≡ map (λ (set : Elements). Some set) contents.sets =
    ap (λ (xs : List (Option DataSet)). pending_view xs) c.deref_mut.ensures.value ∙ c.in_ok-pending.ensures.full in
    let fails : Fails c.deref.result.now contents.sets contents.first 0 pending fault =
    c.in_err-trees.ensures.exact contents.sets (full_left contents.sets pending full) in
    rw is (fails_as contents pending fault full
    (subst (λ (starts : List ℕ). Fails starts contents.sets contents.first 0 pending fault) c.deref.ensures.value
    fails))

pub returns-then-last_offset-last-clause-refused : goal.returns-then-last_offset-last-clause-refused
returns-then-last_offset-last-clause-refused c =
    let contents = contents_view c.args.directory in
    let pending = pending_view c.deref_mut.result.now in
    let new = pending_view c.chain.new.pending in
    let trees = trees_view c.in_ok-trees.trees.items in
    let full : pending ≡ map (λ (set : Elements). Some set) contents.sets =
    ap (λ (xs : List (Option DataSet)). pending_view xs) c.deref_mut.ensures.value ∙ c.in_ok-pending.ensures.full in
    let follows : Follows c.deref.result.now contents.sets contents.first 0 pending new trees =
    c.in_ok-trees.ensures.exact contents.sets (full_left contents.sets pending full) in
    let last : c.last_offset.result ≡ last_offset_or 0 trees = search rules in
    let other : last_offset_or 0 trees ≢ contents.last = λ e. c.if-last_offset-last.true (last ∙ e) in
    inr (ends_elsewhere contents pending new trees full
    (subst (λ (starts : List ℕ). Follows starts contents.sets contents.first 0 pending new trees)
    c.deref.ensures.value follows) other)

pub returns-clause-walk : goal.returns-clause-walk
returns-clause-walk c =
    let contents = contents_view c.args.directory in
    let pending = pending_view c.deref_mut.result.now in
    let new = pending_view c.chain.new.pending in
    let trees = trees_view c.in_ok-trees.trees.items in
    let full : pending ≡ map (λ (set : Elements). Some set) contents.sets =
    ap (λ (xs : List (Option DataSet)). pending_view xs) c.deref_mut.ensures.value ∙ c.in_ok-pending.ensures.full in
    let follows : Follows c.deref.result.now contents.sets contents.first 0 pending new trees =
    c.in_ok-trees.ensures.exact contents.sets (full_left contents.sets pending full) in
    let last : c.last_offset.result ≡ last_offset_or 0 trees = search rules in
    let ends : last_offset_or 0 trees ≡ contents.last = sym last ∙ c.if-last_offset-last.false in
    let room : length c.chain.new.pending ≡ c.in_ok-pending.pending.len =
    omega (arith, ap length c.deref_mut.ensures.value, c.in_ok-pending.pending.ok) in
    let written : (with_items c.in_ok-pending.pending c.chain.new.pending).items ≡ c.chain.new.pending =
    with_items_is c.in_ok-pending.pending c.chain.new.pending room in
    let count : c.count_left.result ≡ count_left new =
    c.count_left.ensures ∙ ap (λ (xs : List (Option DataSet)). count_left (pending_view xs))
    (c.deref-3.ensures.value ∙ written) in
    let filled = pending_many c.in_ok-pending.pending.items c.args.directory.items.items c.in_ok-pending.ensures.full in
    let same : length c.chain.new.pending ≡ length c.deref_mut.result.now = omega arith in
    let many : length contents.starts ≡ length new =
    c.requires.each ∙ sym filled ∙ sym (ap length c.deref_mut.ensures.value) ∙ sym same
    ∙ sym (length-map c.chain.new.pending (λ (item : Option DataSet). option_map set_view item)) in
    walk_of contents pending new trees contents.beside c.count_left.result full c.requires.rise many
    (subst (λ (starts : List ℕ). Follows starts contents.sets contents.first 0 pending new trees)
    c.deref.ensures.value follows)
    ends refl count
