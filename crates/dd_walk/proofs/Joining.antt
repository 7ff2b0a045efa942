-- Records joined to trees: what is known of the chain from an offset when the chain below its record, or from the next
-- one, is known.
use Rattle.std.proofs.Common.{◌≡◌, ◌≢◌, ℕ, ◌+◌, Bool, true, false, List, [], ◌∷◌, ◌++◌, Option, Some, Ok, Err}
use Rattle.std.proofs.Common.{nat_le, if◌then◌else◌, map, refl, sym, ap, subst, ◌∙◌, append_assoc, append-nil, inl, inr}
use Rattle.std.proofs.lemmas.List.{map-append}
use Rattle.dd_encoding.specs.Elements.{Elements}
use Rattle.dd_walk.specs.declared.fault.DirFault.{DirFault}
use Rattle.dd_walk.specs.declared.fault.DirFault.TheVariants.{TooDeep}
use Rattle.dd_walk.specs.declared.forest.Tree.{Tree}
use Rattle.dd_walk.specs.ForestViews.{Branch, trees_of, tree_view}
use Rattle.dd_walk.specs.ReadAnswers.{Leaves, Fails, Joins, Follows}
use Rattle.dd_walk.specs.Reading.{stands_in}
use Rattle.dd_walk.specs.Saying.{Links, links_in}
use Rattle.dd_walk.specs.Pending.{AreLeft, reached}
use Rattle.dd_walk.specs.Trees.{Trees, no_trees, tree, offsets}
use Rattle.dd_walk.specs.Walks.{max_record_levels, node_of, IsChain, Seen, with, with_all, AreApart, shape_at, found_at}
use Rattle.dd_walk.specs.Walks.{step_at, here, down, along, StopsBy, Stops}
use Rattle.dd_walk.proofs.WalkEnds.{step_stands}
use Rattle.dd_walk.proofs.WalkLaws.{tree_apart, here_steps, at_is}

-- ---- a step

pub step_deep : (stands : ℕ → Option Elements) (p level : ℕ) (seen : Seen) (set : Elements) → stands p ≡ Some set
    → seen p ≡ false → nat_le max_record_levels level ≡ true → step_at stands p level seen ≡ Err (TooDeep p)
unfolding step_at
step_deep stands p level seen set found unseen deep =
    ap (λ (b : Bool). found_at p level b (stands p)) unseen
    ∙ ap (λ (o : Option Elements). found_at p level false o) found
    ∙ ap (λ (b : Bool). if b then Err (TooDeep p) else shape_at p set (links_in set)) deep

pub step_by : (stands : ℕ → Option Elements) (p level : ℕ) (seen : Seen) (set : Elements) (links : Option Links)
    → stands p ≡ Some set → seen p ≡ false → nat_le max_record_levels level ≡ false → links_in set ≡ links
    → step_at stands p level seen ≡ shape_at p set links
unfolding step_at
step_by stands p level seen set links found unseen shallow is =
    ap (λ (b : Bool). found_at p level b (stands p)) unseen
    ∙ ap (λ (o : Option Elements). found_at p level false o) found
    ∙ ap (λ (b : Bool). if b then Err (TooDeep p) else shape_at p set (links_in set)) shallow
    ∙ ap (λ (o : Option Links). shape_at p set o) is

-- ---- a record and those below it

pub fails_here : (starts : List ℕ) (sets : List Elements) (offset level : ℕ) (old : List (Option Elements))
    (fault : DirFault)
    → offset ≢ 0 → step_at (stands_in starts sets) offset level (reached starts old) ≡ Err fault
    → Fails starts sets offset level old fault
fails_here starts sets offset level old fault some step = inr (record { way = here; stops = (some, step) })

pub fails_below : (starts : List ℕ) (sets : List Elements) (offset level : ℕ) (old mid : List (Option Elements))
    (x : Elements × Links) (fault : DirFault) → offset ≢ 0
    → step_at (stands_in starts sets) offset level (reached starts old) ≡ Ok x
    → Leaves starts sets offset old mid → Fails starts sets x.1.lower (level + 1) mid fault
    → Fails starts sets offset level old fault
fails_below starts sets offset level old mid x fault some step leaves (inl memory) = inl memory
fails_below starts sets offset level old mid x fault some step leaves (inr stops) =
    inr (record {
      way = down stops.way;
      stops = (
        some,
        (
          x,
          step,
          subst (λ (seen : Seen). StopsBy (stands_in starts sets) stops.way x.1.lower (level + 1) seen fault)
              leaves.adds stops.stops,
        ),
      );
    })

pub joins : (starts : List ℕ) (sets : List Elements) (offset level : ℕ) (old mid new : List (Option Elements))
    (x : Elements × Links) (below : Trees) → step_at (stands_in starts sets) offset level (reached starts old) ≡ Ok x
    → Leaves starts sets offset old mid → Follows starts sets x.1.lower (level + 1) mid new below
    → Joins starts sets offset level old new (record { node = node_of offset x.0 x.1; below = below }) x.1.next
joins starts sets offset level old mid new x below step leaves follows =
    let there = step_stands (stands_in starts sets) offset level (reached starts old) x step in
    record {
      links = x.1;
      stands = there.0;
      chain = follows.chain;
      goes_on = refl;
      unseen = there.1;
      apart = subst (λ (seen : Seen). AreApart seen (offsets below)) leaves.adds follows.apart;
      left = follows.left;
      adds = follows.adds ∙ ap (λ (seen : Seen). with_all (offsets below) seen) leaves.adds;
    }

-- ---- records one after the other

-- trees before others
abbrev pub before : List Branch → Trees → Trees
before [] trees = trees
before (branch ∷ branches) trees = tree branch.node branch.below (before branches trees)

before_none : (branches : List Branch) → before branches no_trees ≡ trees_of branches
before_none [] = refl
before_none (branch ∷ branches) = ap (λ (trees : Trees). tree branch.node branch.below trees) (before_none branches)

before_more : (branches more : List Branch) (trees : Trees)
    → before (branches ++ more) trees ≡ before branches (before more trees)
before_more [] more trees = refl
before_more (branch ∷ branches) more trees =
    ap (λ (trees : Trees). tree branch.node branch.below trees) (before_more branches more trees)

places_before : (branches : List Branch) (trees : Trees)
    → offsets (before branches trees) ≡ offsets (trees_of branches) ++ offsets trees
places_before [] trees = refl
places_before (branch ∷ branches) trees =
    ap (λ (ps : List ℕ). branch.node.at ∷ (offsets branch.below ++ ps)) (places_before branches trees)
    ∙ ap (λ (ps : List ℕ). branch.node.at ∷ ps)
    (sym (append_assoc (offsets branch.below) (offsets (trees_of branches)) (offsets trees)))

with_all_parts : (ps qs : List ℕ) (seen : Seen) → with_all (ps ++ qs) seen ≡ with_all qs (with_all ps seen)
with_all_parts [] qs seen = refl
with_all_parts (p ∷ ps) qs seen = with_all_parts ps qs (with p seen)

-- Of the chain from `first` these trees are known, and the rest is a chain from `offset`: what is known of the rest
-- says the same of the whole.
pub record Going (starts : List ℕ) (sets : List Elements) (first level : ℕ) (old : List (Option Elements))
    (branches : List Branch) (offset : ℕ) (now : List (Option Elements)) : Type 0 where
  pub left : AreLeft sets now
  pub chains : (rest : Trees) → IsChain (stands_in starts sets) offset level rest
      → IsChain (stands_in starts sets) first level (before branches rest)
  pub apart : (rest : Trees) → AreApart (reached starts now) (offsets rest)
      → AreApart (reached starts old) (offsets (before branches rest))
  pub adds : reached starts now ≡ with_all (offsets (trees_of branches)) (reached starts old)
  pub stops : (fault : DirFault) → Stops (stands_in starts sets) offset level (reached starts now) fault
      → Stops (stands_in starts sets) first level (reached starts old) fault

pub going_first : (starts : List ℕ) (sets : List Elements) (first level : ℕ) (old : List (Option Elements))
    → AreLeft sets old
    → Going starts sets first level old [] first old
going_first starts sets first level old left = record {
  left = left;
  chains = λ rest chain. chain;
  apart = λ rest apart. apart;
  adds = refl;
  stops = λ fault stops. stops;
}

-- the offset of a record that was joined
joined_at : (starts : List ℕ) (sets : List Elements) (offset level : ℕ) (old new : List (Option Elements))
    (branch : Branch)
    (next : ℕ) → Joins starts sets offset level old new branch next → branch.node.at ≡ offset
joined_at starts sets offset level old new branch next joined =
    at_is (stands_in starts sets) offset level branch.node joined.links joined.stands

stops_along : (starts : List ℕ) (sets : List Elements) (offset level : ℕ) (now new : List (Option Elements))
    (branch : Branch)
    (next : ℕ) (fault : DirFault) → offset ≢ 0 → Joins starts sets offset level now new branch next
    → Stops (stands_in starts sets) next level (reached starts new) fault
    → Stops (stands_in starts sets) offset level (reached starts now) fault
stops_along starts sets offset level now new branch next fault some joined stops =
    let stands = stands_in starts sets in
    let step = here_steps stands offset level branch.node joined.links (reached starts now) joined.stands
    joined.unseen in
    let moved : StopsBy stands stops.way joined.links.next level (reached starts new) fault =
    subst (λ (p : ℕ). StopsBy stands stops.way p level (reached starts new) fault) joined.goes_on stops.stops in
    record {
      way = along branch.below stops.way;
      stops = (
        some,
        (
          (branch.node.set, joined.links),
          step,
          joined.chain,
          joined.apart,
          subst (λ (seen : Seen). StopsBy stands stops.way joined.links.next level seen fault) joined.adds moved,
        ),
      );
    }

pub going_on : (starts : List ℕ) (sets : List Elements) (first level : ℕ) (old : List (Option Elements))
    (branches : List Branch) (offset : ℕ) (now new : List (Option Elements)) (branch : Branch) (next : ℕ) → offset ≢ 0
    → Going starts sets first level old branches offset now → Joins starts sets offset level now new branch next
    → Going starts sets first level old (branches ++ branch ∷ []) next new
going_on starts sets first level old branches offset now new branch next some so joined =
    let stands = stands_in starts sets in
    let at = joined_at starts sets offset level now new branch next joined in
    let more : (rest : Trees) → before (branches ++ branch ∷ []) rest
    ≡ before branches (tree branch.node branch.below rest) =
    λ (rest : Trees). before_more branches (branch ∷ []) rest in
    record {
      left = joined.left;
      chains = λ rest chain.
          let moved : IsChain stands joined.links.next level rest =
          subst (λ (p : ℕ). IsChain stands p level rest) joined.goes_on chain in
          subst (λ (trees : Trees). IsChain stands first level trees) (sym (more rest))
          (so.chains (tree branch.node branch.below rest) (joined.links, joined.stands, joined.chain, moved));
      apart = λ rest apart.
          let moved = subst (λ (seen : Seen). AreApart seen (offsets rest)) joined.adds apart in
          subst (λ (trees : Trees). AreApart (reached starts old) (offsets trees)) (sym (more rest))
          (so.apart (tree branch.node branch.below rest)
          (tree_apart offset branch.node branch.below rest (reached starts now) at joined.unseen joined.apart moved));
      adds =
          let ps = offsets (trees_of branches) in
          let qs = offsets branch.below in
          let front : reached starts new ≡ with_all (offset ∷ qs) (with_all ps (reached starts old)) =
          joined.adds ∙ ap (λ (seen : Seen). with_all (offset ∷ qs) seen) so.adds in
          let joined_places : offsets (trees_of (branches ++ branch ∷ [])) ≡ ps ++ (offset ∷ qs) =
          ap (λ (trees : Trees). offsets trees) (sym (before_none (branches ++ branch ∷ [])) ∙ more no_trees)
          ∙ places_before branches (tree branch.node branch.below no_trees)
          ∙ ap (λ (p : ℕ). ps ++ (p ∷ (qs ++ []))) at ∙ ap (λ (rs : List ℕ). ps ++ (offset ∷ rs)) (append-nil qs) in
          front ∙ sym (with_all_parts ps (offset ∷ qs) (reached starts old))
          ∙ ap (λ (rs : List ℕ). with_all rs (reached starts old)) (sym joined_places);
      stops = λ fault stops. so.stops fault
          (stops_along starts sets offset level now new branch next fault some joined stops);
    }

pub going_end : (starts : List ℕ) (sets : List Elements) (first level : ℕ) (old : List (Option Elements))
    (branches : List Branch) (offset : ℕ) (now : List (Option Elements)) → offset ≡ 0
    → Going starts sets first level old branches offset now
    → Follows starts sets first level old now (trees_of branches)
going_end starts sets first level old branches offset now ends so = record {
  chain = subst (λ (trees : Trees). IsChain (stands_in starts sets) first level trees) (before_none branches)
      (so.chains no_trees ends);
  apart = subst (λ (trees : Trees). AreApart (reached starts old) (offsets trees)) (before_none branches)
      (so.apart no_trees tt);
  left = so.left;
  adds = so.adds;
}

pub fails_on : (starts : List ℕ) (sets : List Elements) (first level : ℕ) (old : List (Option Elements))
    (branches : List Branch) (offset : ℕ) (now : List (Option Elements)) (fault : DirFault)
    → Going starts sets first level old branches offset now → Fails starts sets offset level now fault
    → Fails starts sets first level old fault
fails_on starts sets first level old branches offset now fault so (inl memory) = inl memory
fails_on starts sets first level old branches offset now fault so (inr stops) = inr (so.stops fault stops)

-- the same of the trees of the code
pub going_tree : (starts : List ℕ) (sets : List Elements) (first level : ℕ) (old : List (Option Elements))
    (trees : List Tree) (offset : ℕ) (now new : List (Option Elements)) (t : Tree) (next : ℕ) → offset ≢ 0
    → Going starts sets first level old (map tree_view trees) offset now
    → Joins starts sets offset level now new (tree_view t) next
    → Going starts sets first level old (map tree_view (trees ++ t ∷ [])) next new
going_tree starts sets first level old trees offset now new t next some so joined =
    subst (λ (branches : List Branch). Going starts sets first level old branches next new)
    (sym (map-append tree_view trees (t ∷ [])))
    (going_on starts sets first level old (map tree_view trees) offset now new (tree_view t) next some so joined)
