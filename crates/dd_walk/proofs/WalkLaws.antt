-- Following offsets from a place (PS3.3 section F.3.2.2): the trees there are unique, and so are a stop there and its
-- fault. Trees that are apart and a stop exclude each other.
use Rattle.std.proofs.Common.{◌≡◌, ◌≢◌, ℕ, ◌+◌, Bool, true, false, List, [], ◌∷◌, ◌++◌, Option, Some, None}
use Rattle.std.proofs.Common.{Result, Ok, Err, if◌then◌else◌, refl, sym, ap, subst, ◌∙◌}
use Rattle.std.specs.Prelude.{nat_le}
use Rattle.std.proofs.lemmas.Bool.{lt-leb}
use Rattle.dd_encoding.specs.Elements.{Elements}
use Rattle.dd_walk.specs.declared.fault.DirFault.{DirFault}
use Rattle.dd_walk.specs.declared.fault.DirFault.TheVariants.{RecordShape, Dangling, Twice, TooDeep}
use Rattle.dd_walk.specs.declared.fault.DirFault.TheVariants as faults
use Rattle.dd_walk.specs.Saying.{Links, links_in}
use Rattle.dd_walk.specs.Trees.{Node, Trees, no_trees, tree, offsets}
use Rattle.dd_walk.specs.Walks.{max_record_levels, node_of, Stands, IsChain, Seen, with, with_all, AreApart, shape_at}
use Rattle.dd_walk.specs.Walks.{found_at, step_at, Way, here, down, along, StopsBy, Stops}

-- ---- values and results

none_or_some : {A : Type 0} (o : Option A) (a : A) → o ≡ None → o ≡ Some a → ⊥
none_or_some o a x y = cc

one_value : {A : Type 0} (o : Option A) (a b : A) → o ≡ Some a → o ≡ Some b → b ≡ a
one_value o a b x y = cc

-- a step goes on or does not, in one way
pub goes_or_stops : (r : Result (Elements × Links) DirFault) (x : Elements × Links) (fault : DirFault)
    → r ≡ Ok x → r ≡ Err fault → ⊥
goes_or_stops r x fault y z = cc

pub one_step : (r : Result (Elements × Links) DirFault) (x y : Elements × Links) → r ≡ Ok x → r ≡ Ok y → y ≡ x
one_step r x y a b = cc

pub one_end : (r : Result (Elements × Links) DirFault) (fault other : DirFault)
    → r ≡ Err fault → r ≡ Err other → other ≡ fault
one_end r fault other a b = cc

-- ---- offsets seen

-- offsets of which some stand before the others
pub apart_parts : (ps qs : List ℕ) (seen : Seen) → AreApart seen (ps ++ qs)
    → AreApart seen ps × AreApart (with_all ps seen) qs
apart_parts [] qs seen h = (tt, h)
apart_parts (p ∷ ps) qs seen h =
    let rest = apart_parts ps qs (with p seen) h.1 in
    ((h.0, rest.0), rest.1)

pub apart_joined : (ps qs : List ℕ) (seen : Seen) → AreApart seen ps → AreApart (with_all ps seen) qs
    → AreApart seen (ps ++ qs)
apart_joined [] qs seen front back = back
apart_joined (p ∷ ps) qs seen front back = (front.0, apart_joined ps qs (with p seen) front.1 back)

-- the offsets of a tree and of what comes after it
pub apart_tree : (p : ℕ) (node : Node) (below after : Trees) (seen : Seen) → node.at ≡ p
    → AreApart seen (offsets (tree node below after)) → (seen p ≡ false) × AreApart (with p seen) (offsets below)
    × AreApart (with_all (offsets below) (with p seen)) (offsets after)
apart_tree p node below after seen is h =
    let moved : AreApart seen (p ∷ (offsets below ++ offsets after)) =
    subst (λ (q : ℕ). AreApart seen (q ∷ (offsets below ++ offsets after))) is h in
    let parts = apart_parts (offsets below) (offsets after) (with p seen) moved.1 in
    (moved.0, parts.0, parts.1)

pub tree_apart : (p : ℕ) (node : Node) (below after : Trees) (seen : Seen) → node.at ≡ p → seen p ≡ false
    → AreApart (with p seen) (offsets below) → AreApart (with_all (offsets below) (with p seen)) (offsets after)
    → AreApart seen (offsets (tree node below after))
tree_apart p node below after seen is unseen first second =
    subst (λ (q : ℕ). AreApart seen (q ∷ (offsets below ++ offsets after))) (sym is)
    (unseen, apart_joined (offsets below) (offsets after) (with p seen) first second)

-- ---- a step

-- a record that has not been seen is one to go on from
pub here_steps : (stands : ℕ → Option Elements) (p level : ℕ) (node : Node) (links : Links) (seen : Seen)
    → Stands stands p level node links → seen p ≡ false → step_at stands p level seen ≡ Ok (node.set, links)
unfolding step_at
here_steps stands p level node links seen h unseen =
    let shallow : nat_le max_record_levels level ≡ false = lt-leb max_record_levels level h.room in
    ap (λ (b : Bool). found_at p level b (stands p)) unseen
    ∙ ap (λ (o : Option Elements). found_at p level false o) h.found
    ∙ ap (λ (b : Bool). if b then Err (TooDeep p) else shape_at p node.set (links_in node.set)) shallow
    ∙ ap (λ (o : Option Links). shape_at p node.set o) h.says_so

-- the faults that a record may have
abbrev pub IsOfRecord : DirFault → Type 0
IsOfRecord (faults.File fault) = ⊥
IsOfRecord faults.NotDirectory = ⊥
IsOfRecord (faults.RecordShape at) = Unit {0}
IsOfRecord (faults.Dangling at) = Unit {0}
IsOfRecord (faults.Twice at) = Unit {0}
IsOfRecord faults.LastRoot = ⊥
IsOfRecord faults.Memory = ⊥
IsOfRecord (faults.TooDeep at) = Unit {0}

refused : (fault other : DirFault) → ◌≡◌ {A = Result (Elements × Links) DirFault} (Err other) (Err fault)
    → IsOfRecord other → IsOfRecord fault
refused fault other e h = subst IsOfRecord (one_end (Err fault) fault other refl (sym e)) h

shape_fault : (p : ℕ) (set : Elements) (links : Option Links) (fault : DirFault)
    → shape_at p set links ≡ Err fault → IsOfRecord fault
shape_fault p set None fault e = refused fault (RecordShape p) e tt
shape_fault p set (Some links) fault e = absurd (goes_or_stops (Ok (set, links)) (set, links) fault refl e)

deep_fault : (p : ℕ) (set : Elements) (deep : Bool) (fault : DirFault)
    → (if deep then Err (TooDeep p) else shape_at p set (links_in set)) ≡ Err fault → IsOfRecord fault
deep_fault p set true fault e = refused fault (TooDeep p) e tt
deep_fault p set false fault e = shape_fault p set (links_in set) fault e

found_fault : (p level : ℕ) (seen : Bool) (found : Option Elements) (fault : DirFault)
    → found_at p level seen found ≡ Err fault → IsOfRecord fault
found_fault p level seen None fault e = refused fault (Dangling p) e tt
found_fault p level true (Some set) fault e = refused fault (Twice p) e tt
found_fault p level false (Some set) fault e = deep_fault p set (nat_le max_record_levels level) fault e

pub step_fault : (stands : ℕ → Option Elements) (p level : ℕ) (seen : Seen) (fault : DirFault)
    → step_at stands p level seen ≡ Err fault → IsOfRecord fault
unfolding step_at
step_fault stands p level seen fault e = found_fault p level (seen p) (stands p) fault e

-- the fault of a stop is one of these
pub way_fault : (way : Way) (stands : ℕ → Option Elements) (p level : ℕ) (seen : Seen) (fault : DirFault)
    → StopsBy stands way p level seen fault → IsOfRecord fault
way_fault here stands p level seen fault h = step_fault stands p level seen fault h.1
way_fault (down way) stands p level seen fault h =
    way_fault way stands h.1.0.1.lower (level + 1) (with p seen) fault h.1.2
way_fault (along below way) stands p level seen fault h =
    way_fault way stands h.1.0.1.next level (with_all (offsets below) (with p seen)) fault h.1.4

pub stop_fault : (stands : ℕ → Option Elements) (p level : ℕ) (seen : Seen) (fault : DirFault)
    → Stops stands p level seen fault → IsOfRecord fault
stop_fault stands p level seen fault h = way_fault h.way stands p level seen fault h.stops

-- ---- one record, and one chain

-- two records at an offset
pub same_set : (stands : ℕ → Option Elements) (p level : ℕ) (n m : Node) (r s : Links)
    → Stands stands p level n r → Stands stands p level m s → m.set ≡ n.set
same_set stands p level n m r s a b = one_value (stands p) n.set m.set a.found b.found

pub same_links : (stands : ℕ → Option Elements) (p level : ℕ) (n m : Node) (r s : Links)
    → Stands stands p level n r → Stands stands p level m s → s ≡ r
same_links stands p level n m r s a b =
    let set : m.set ≡ n.set = same_set stands p level n m r s a b in
    one_value (links_in n.set) r s a.says_so (ap links_in (sym set) ∙ b.says_so)

pub same_node : (stands : ℕ → Option Elements) (p level : ℕ) (n m : Node) (r s : Links)
    → Stands stands p level n r → Stands stands p level m s → m ≡ n
same_node stands p level n m r s a b =
    b.is ∙ ap (λ (x : Elements). node_of p x s) (same_set stands p level n m r s a b)
    ∙ ap (λ (y : Links). node_of p n.set y) (same_links stands p level n m r s a b) ∙ sym a.is

pub at_is : (stands : ℕ → Option Elements) (p level : ℕ) (n : Node) (r : Links)
    → Stands stands p level n r → n.at ≡ p
at_is stands p level n r h = ap (λ (x : Node). x.at) h.is

module _ (stands : ℕ → Option Elements) (empty : stands 0 ≡ None) where
  -- no record stands at the offset 0
  pub not_zero : (p level : ℕ) (node : Node) (links : Links) → Stands stands p level node links → p ≢ 0
  not_zero p level node links h zero = none_or_some (stands p) node.set (ap stands zero ∙ empty) h.found

  -- the trees from an offset are one
  pub chain_is_one : (f g : Trees) (p level : ℕ) → IsChain stands p level f → IsChain stands p level g → g ≡ f
  chain_is_one no_trees no_trees p level a b = refl
  chain_is_one no_trees (tree m under later) p level a b = absurd (not_zero p level m b.0 b.1 a)
  chain_is_one (tree n below after) no_trees p level a b = absurd (not_zero p level n a.0 a.1 b)
  chain_is_one (tree n below after) (tree m under later) p level a b =
      let links : b.0 ≡ a.0 = same_links stands p level n m a.0 b.0 a.1 b.1 in
      let node : m ≡ n = same_node stands p level n m a.0 b.0 a.1 b.1 in
      let lower : under ≡ below = chain_is_one below under a.0.lower (level + 1) a.2
      (subst (λ (s : Links). IsChain stands s.lower (level + 1) under) links b.2) in
      let next : later ≡ after = chain_is_one after later a.0.next level a.3
      (subst (λ (s : Links). IsChain stands s.next level later) links b.3) in
      cc

  -- trees whose offsets are apart and unseen, and a stop
  pub chain_goes : (f : Trees) (way : Way) (p level : ℕ) (seen : Seen) (fault : DirFault) → IsChain stands p level f
      → AreApart seen (offsets f) → StopsBy stands way p level seen fault → ⊥
  chain_goes no_trees here p level seen fault c h stop = stop.0 c
  chain_goes no_trees (down way) p level seen fault c h stop = stop.0 c
  chain_goes no_trees (along below way) p level seen fault c h stop = stop.0 c
  chain_goes (tree n below after) here p level seen fault c h stop =
      let parts = apart_tree p n below after seen (at_is stands p level n c.0 c.1) h in
      let step = here_steps stands p level n c.0 seen c.1 parts.0 in
      goes_or_stops (step_at stands p level seen) (n.set, c.0) fault step stop.1
  chain_goes (tree n below after) (down way) p level seen fault c h stop =
      let parts = apart_tree p n below after seen (at_is stands p level n c.0 c.1) h in
      let step = here_steps stands p level n c.0 seen c.1 parts.0 in
      let is : stop.1.0 ≡ (n.set, c.0) =
      one_step (step_at stands p level seen) (n.set, c.0) stop.1.0 step stop.1.1 in
      chain_goes below way c.0.lower (level + 1) (with p seen) fault c.2 parts.1
      (subst (λ (x : Elements × Links). StopsBy stands way x.1.lower (level + 1) (with p seen) fault) is stop.1.2)
  chain_goes (tree n below after) (along under way) p level seen fault c h stop =
      let parts = apart_tree p n below after seen (at_is stands p level n c.0 c.1) h in
      let step = here_steps stands p level n c.0 seen c.1 parts.0 in
      let is : stop.1.0 ≡ (n.set, c.0) =
      one_step (step_at stands p level seen) (n.set, c.0) stop.1.0 step stop.1.1 in
      let lower : under ≡ below = chain_is_one below under c.0.lower (level + 1) c.2
      (subst (λ (x : Elements × Links). IsChain stands x.1.lower (level + 1) under) is stop.1.2) in
      let moved : StopsBy stands way c.0.next level (with_all (offsets under) (with p seen)) fault =
      subst (λ (x : Elements × Links). StopsBy stands way x.1.next level (with_all (offsets under) (with p seen)) fault)
      is stop.1.4 in
      chain_goes after way c.0.next level (with_all (offsets below) (with p seen)) fault c.3 parts.2
      (subst (λ (t : Trees). StopsBy stands way c.0.next level (with_all (offsets t) (with p seen)) fault) lower moved)

  pub chain_or_stop : (f : Trees) (p level : ℕ) (seen : Seen) (fault : DirFault) → IsChain stands p level f
      → AreApart seen (offsets f) → Stops stands p level seen fault → ⊥
  chain_or_stop f p level seen fault c h stop = chain_goes f stop.way p level seen fault c h stop.stops

  -- ---- one stop

  -- a way that goes down and one that goes past the trees below
  down_or_along : (below : Trees) (v w : Way) (p level : ℕ) (seen : Seen) (fault other : DirFault)
      → StopsBy stands (down v) p level seen fault → StopsBy stands (along below w) p level seen other → ⊥
  down_or_along below v w p level seen fault other a b =
      let is : a.1.0 ≡ b.1.0 = one_step (step_at stands p level seen) b.1.0 a.1.0 b.1.1 a.1.1 in
      chain_goes below v b.1.0.1.lower (level + 1) (with p seen) fault b.1.2 b.1.3
      (subst (λ (x : Elements × Links). StopsBy stands v x.1.lower (level + 1) (with p seen) fault) is a.1.2)

  pub one_way : (v w : Way) (p level : ℕ) (seen : Seen) (fault other : DirFault)
      → StopsBy stands v p level seen fault → StopsBy stands w p level seen other → other ≡ fault
  one_way here here p level seen fault other a b = one_end (step_at stands p level seen) fault other a.1 b.1
  one_way here (down w) p level seen fault other a b =
      absurd (goes_or_stops (step_at stands p level seen) b.1.0 fault b.1.1 a.1)
  one_way here (along under w) p level seen fault other a b =
      absurd (goes_or_stops (step_at stands p level seen) b.1.0 fault b.1.1 a.1)
  one_way (down v) here p level seen fault other a b =
      absurd (goes_or_stops (step_at stands p level seen) a.1.0 other a.1.1 b.1)
  one_way (down v) (down w) p level seen fault other a b =
      let is : b.1.0 ≡ a.1.0 = one_step (step_at stands p level seen) a.1.0 b.1.0 a.1.1 b.1.1 in
      one_way v w a.1.0.1.lower (level + 1) (with p seen) fault other a.1.2
      (subst (λ (x : Elements × Links). StopsBy stands w x.1.lower (level + 1) (with p seen) other) is b.1.2)
  one_way (down v) (along under w) p level seen fault other a b =
      absurd (down_or_along under v w p level seen fault other a b)
  one_way (along below v) here p level seen fault other a b =
      absurd (goes_or_stops (step_at stands p level seen) a.1.0 other a.1.1 b.1)
  one_way (along below v) (down w) p level seen fault other a b =
      absurd (down_or_along below w v p level seen other fault b a)
  one_way (along below v) (along under w) p level seen fault other a b =
      let is : b.1.0 ≡ a.1.0 = one_step (step_at stands p level seen) a.1.0 b.1.0 a.1.1 b.1.1 in
      let lower : under ≡ below = chain_is_one below under a.1.0.1.lower (level + 1) a.1.2
      (subst (λ (x : Elements × Links). IsChain stands x.1.lower (level + 1) under) is b.1.2) in
      let moved : StopsBy stands w a.1.0.1.next level (with_all (offsets under) (with p seen)) other =
      subst (λ (x : Elements × Links). StopsBy stands w x.1.next level (with_all (offsets under) (with p seen)) other)
      is b.1.4 in
      one_way v w a.1.0.1.next level (with_all (offsets below) (with p seen)) fault other a.1.4
      (subst (λ (t : Trees). StopsBy stands w a.1.0.1.next level (with_all (offsets t) (with p seen)) other) lower
      moved)

  pub one_stop : (p level : ℕ) (seen : Seen) (fault other : DirFault)
      → Stops stands p level seen fault → Stops stands p level seen other → other ≡ fault
  one_stop p level seen fault other a b = one_way a.way b.way p level seen fault other a.stops b.stops
