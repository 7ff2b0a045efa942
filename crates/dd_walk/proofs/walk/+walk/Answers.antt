use Rattle.std.proofs.Common.{rules, ◌≡◌, List, [], ◌∷◌, ◌++◌, Err, map, sym, subst, arith}
use Rattle.std.proofs.lemmas.Grind.{common_steps}
use Rattle.dd_set.specs.Views.{set_view}
use Rattle.dd_walk.specs.declared.forest.Tree.{Tree, the_lemmas}
use Rattle.dd_walk.specs.declared.forest.Tree.TheOpen.{Tree-F}
use Rattle.dd_walk.specs.declared.forest.Tree.TheViews.{roll-Tree}
use Rattle.dd_walk.specs.ForestViews.{Branch, tree_view, trees_view}
use Rattle.dd_walk.specs.ReadAnswers.{Joins, links_view}
use Rattle.dd_walk.specs.Pending.{pending_view}
use Rattle.dd_walk.specs.Walks.{node_of}
use Rattle.dd_walk.proofs.Joining.{Going, going_tree, going_end, fails_here, fails_below, joins}
use Rattle.dd_walk.proofs.walk.+walk.Goals as goal

pub chain-siblings-preserved : goal.chain-siblings-preserved
chain-siblings-preserved t c = record {
  fewer = omega (arith, c.in_ok-joined.ensures.fewer);
  going = λ sets left.
      let so = c.siblings.invariant.going sets left in
      let joined = c.in_ok-joined.ensures.exact sets so.left in
      let pushed : c.push.new.self.items
      ≡ c.siblings.trees.items ++ c.in_ok-joined.joined ∷ [] = grind (arith, common_steps) in
      subst (λ (trees : List Tree). Going c.args.starts.now sets c.args.first c.args.level
      (pending_view c.args.pending.now) (map tree_view trees) c.in_ok-joined.next (pending_view c.tree.new.pending)) (sym pushed)
      (going_tree c.args.starts.now sets c.args.first c.args.level (pending_view c.args.pending.now)
      c.siblings.trees.items c.siblings.offset (pending_view c.siblings.pending)
      (pending_view c.tree.new.pending) c.in_ok-joined.joined c.in_ok-joined.next
      c.siblings-test.true so joined);
}

pub chain-returns-clause-exact : goal.chain-returns-clause-exact
chain-returns-clause-exact t c = λ sets left.
    going_end c.args.starts.now sets c.args.first c.args.level (pending_view c.args.pending.now)
    (map tree_view c.siblings.trees.items) c.siblings.offset (pending_view c.siblings.pending) c.siblings-test.false
    (c.siblings.invariant.going sets left)

pub tree-returns-in_err-set-clause-exact : goal.tree-returns-in_err-set-clause-exact
tree-returns-in_err-set-clause-exact t c = λ sets left.
    let fault = c.in_err-set.field-0.0 in
    let is : c.from_residual.result ≡ Err fault = search rules in
    rw is (fails_here c.args.starts.now sets c.args.offset c.args.level
    (pending_view c.args.pending.now) fault c.requires.some
    (c.in_err-set.ensures.exact sets left))

pub tree-returns-in_err-below-clause-exact : goal.tree-returns-in_err-below-clause-exact
tree-returns-in_err-below-clause-exact t c = λ sets left.
    let fault = c.in_err-below.field-0.0 in
    let is : c.from_residual-in_err-below.result ≡ Err fault = search rules in
    let found = c.in_ok-set.ensures.exact sets left in
    rw is (fails_below c.args.starts.now sets c.args.offset c.args.level (pending_view c.args.pending.now)
    (pending_view c.step.new.pending)
    (set_view c.in_ok-set.set, links_view c.in_ok-set.links) fault c.requires.some found.0 found.1
    (c.in_err-below.ensures.exact sets found.1.left))

pub tree-returns-clause-exact : goal.tree-returns-clause-exact
tree-returns-clause-exact t c = λ sets left.
    let found = c.in_ok-set.ensures.exact sets left in
    let set = set_view c.in_ok-set.set in
    let links = links_view c.in_ok-set.links in
    let made : Tree-F Tree = record {
      at = c.args.offset;
      kind = c.in_ok-set.links.kind;
      in_use = c.in_ok-set.links.in_use;
      set = c.in_ok-set.set;
      below = c.in_ok-below.below;
    } in
    let seen : tree_view (roll-Tree made)
    ≡ record { node = node_of c.args.offset set links; below = trees_view c.in_ok-below.below.items } =
    search (rules, the_lemmas) in
    subst (λ (branch : Branch). Joins c.args.starts.now sets c.args.offset c.args.level
    (pending_view c.args.pending.now) (pending_view c.chain.new.pending) branch c.in_ok-set.links.next) (sym seen)
    (joins c.args.starts.now sets c.args.offset c.args.level (pending_view c.args.pending.now)
    (pending_view c.step.new.pending) (pending_view c.chain.new.pending) (set, links) (trees_view c.in_ok-below.below.items) found.0 found.1
    (c.in_ok-below.ensures.exact sets found.1.left))
