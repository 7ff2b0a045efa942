-- What is known of the pending sets before the first step, and how many are left after the last.
use Rattle.std.proofs.Common.{◌≡◌, ℕ, ◌+◌, ◌≤◌, ◌==◌, Bool, true, false, List, [], ◌∷◌, length, map, Option, Some}
use Rattle.std.proofs.Common.{None, option_map}
use Rattle.std.proofs.Common.{if◌then◌else◌, refl, sym, ap, subst, ◌∙◌, arith, ◌≢◌, ◌⊎◌, inl, inr}
use Rattle.std.proofs.lemmas.List.{length-map}
use Rattle.dd_part10.proofs.Tags.{neq_eqb}
use Rattle.dd_encoding.specs.Elements.{Elements}
use Rattle.dd_set.specs.declared.set.DataSet.{DataSet}
use Rattle.dd_set.specs.declared.set.Item.{Item}
use Rattle.dd_set.specs.Views.{set_view, items_view}
use Rattle.dd_walk.specs.declared.fault.DirFault.{DirFault}
use Rattle.dd_walk.specs.declared.fault.DirFault.TheVariants.{Memory}
use Rattle.dd_walk.specs.ReadAnswers.{Fails, Follows}
use Rattle.dd_walk.specs.Reading.{Contents, stands_of, count_unseen, AreTrees, IsWalkOf, EndElsewhere, RefusesOf}
use Rattle.dd_walk.specs.Saying.{sets_of}
use Rattle.dd_walk.specs.Pending.{Rises, AreLeft, reached, count_left, pending_view}
use Rattle.dd_walk.specs.Trees.{Beside, Trees, offsets, last_offset_or}
use Rattle.dd_walk.specs.Walks.{Seen, nothing, with_all, AreApart, Stops}
use Rattle.dd_walk.proofs.Lifting.{same_start}
use Rattle.dd_walk.proofs.Moved.{sets_many}
use Rattle.dd_walk.proofs.WalkFiles.{refuses_stop}
use Rattle.dd_walk.proofs.WalkLaws.{stop_fault}

pub all_left : (sets : List Elements) → AreLeft sets (map (λ (set : Elements). Some set) sets)
all_left [] = tt
all_left (set ∷ sets) = (refl, all_left sets)

chosen_false : (b : Bool) → (if b then false else false) ≡ false
chosen_false true = refl
chosen_false false = refl

none_at : (starts : List ℕ) (sets : List Elements) (p : ℕ)
    → reached starts (map (λ (set : Elements). Some set) sets) p ≡ false
none_at [] sets p = refl
none_at (start ∷ starts) [] p = refl
none_at (start ∷ starts) (set ∷ sets) p =
    ap (λ (b : Bool). if p == start then false else b) (none_at starts sets p) ∙ chosen_false (p == start)

pub none_reached : (starts : List ℕ) (sets : List Elements)
    → reached starts (map (λ (set : Elements). Some set) sets) ≡ nothing
none_reached starts sets = λ i p. none_at starts sets p i

pub count_full : (sets : List Elements) → count_left (map (λ (set : Elements). Some set) sets) ≡ length sets
count_full [] = refl
count_full (set ∷ sets) = omega (arith, count_full sets)

-- ---- those that are left

-- offsets are counted alike by tests that are equal on them
count_alike : (seen other : Seen) (low : ℕ) (ps : List ℕ) → Rises low ps → ((p : ℕ) → low ≤ p → seen p ≡ other p)
    → count_unseen seen ps ≡ count_unseen other ps
count_alike seen other low [] rise alike = refl
count_alike seen other low (p ∷ ps) rise alike =
    let rest = count_alike seen other (p + 1) ps rise.1 (λ q above. alike q (omega (arith, rise.0))) in
    rw (alike p rise.0, rest) refl

above_other : (p start : ℕ) → start + 1 ≤ p → (p == start) ≡ false
above_other p start above = neq_eqb p start (λ e. absurd (omega arith))

pub count_reached : (low : ℕ) (starts : List ℕ) (pending : List (Option Elements)) → Rises low starts
    → length starts ≡ length pending
    → count_left pending ≡ count_unseen (reached starts pending) starts
count_reached low [] [] rise same = refl
count_reached low [] (item ∷ pending) rise same = absurd (omega arith)
count_reached low (start ∷ starts) [] rise same = absurd (omega arith)
count_reached low (start ∷ starts) (None ∷ pending) rise same =
    let rest = count_reached (start + 1) starts pending rise.1 (omega arith) in
    let alike = count_alike (reached starts pending) (reached (start ∷ starts) (None ∷ pending)) (start + 1) starts
    rise.1 (λ p above. rw (above_other p start above) refl) in
    rw (same_start start) (rest ∙ alike)
count_reached low (start ∷ starts) (Some held ∷ pending) rise same =
    let rest = count_reached (start + 1) starts pending rise.1 (omega arith) in
    let alike = count_alike (reached starts pending) (reached (start ∷ starts) (Some held ∷ pending))
    (start + 1) starts rise.1
    (λ p above. rw (above_other p start above) refl) in
    rw (same_start start) (ap (λ (n : ℕ). 1 + n) (rest ∙ alike))

-- ---- the whole

pub full_left : (sets : List Elements) (pending : List (Option Elements))
    → pending ≡ map (λ (set : Elements). Some set) sets
    → AreLeft sets pending
full_left sets pending is = subst (λ (xs : List (Option Elements)). AreLeft sets xs) (sym is) (all_left sets)

full_unseen : (starts : List ℕ) (sets : List Elements) (pending : List (Option Elements))
    → pending ≡ map (λ (set : Elements). Some set) sets → reached starts pending ≡ nothing
full_unseen starts sets pending is =
    ap (λ (xs : List (Option Elements)). reached starts xs) is ∙ none_reached starts sets

pub pending_many : (pending : List (Option DataSet)) (parts : List Item)
    → pending_view pending ≡ map (λ (set : Elements). Some set) (sets_of (items_view parts))
    → length pending ≡ length parts
pending_many pending parts is =
    sym (length-map pending (λ (item : Option DataSet). option_map set_view item))
    ∙ ap (λ (xs : List (Option Elements)). length xs) is
    ∙ length-map (sets_of (items_view parts)) (λ (set : Elements). Some set) ∙ sets_many parts

pub pending_left : (pending : List (Option Elements)) (parts : List Item)
    → pending ≡ map (λ (set : Elements). Some set) (sets_of (items_view parts)) → count_left pending ≡ length parts
pending_left pending parts is =
    ap (λ (xs : List (Option Elements)). count_left xs) is ∙ count_full (sets_of (items_view parts)) ∙ sets_many parts

-- why the records form no trees
pub fails_as : (contents : Contents) (pending : List (Option Elements)) (fault : DirFault)
    → pending ≡ map (λ (set : Elements). Some set) contents.sets
    → Fails contents.starts contents.sets contents.first 0 pending fault
    → (fault ≡ Memory) ⊎ RefusesOf contents fault
fails_as contents pending fault is (inl memory) = inl memory
fails_as contents pending fault is (inr stops) =
    let moved = subst (λ (seen : Seen). Stops (stands_of contents) contents.first 0 seen fault)
    (full_unseen contents.starts contents.sets pending is) stops in
    inr (refuses_stop contents fault (stop_fault (stands_of contents) contents.first 0 nothing fault moved) moved)

-- the trees that they form
pub follows_trees : (contents : Contents) (pending new : List (Option Elements)) (trees : Trees)
    → pending ≡ map (λ (set : Elements). Some set) contents.sets
    → Follows contents.starts contents.sets contents.first 0 pending new trees → AreTrees contents trees
follows_trees contents pending new trees is follows = record {
  chain = follows.chain;
  apart = subst (λ (seen : Seen). AreApart seen (offsets trees))
      (full_unseen contents.starts contents.sets pending is) follows.apart;
}

pub ends_elsewhere : (contents : Contents) (pending new : List (Option Elements)) (trees : Trees)
    → pending ≡ map (λ (set : Elements). Some set) contents.sets
    → Follows contents.starts contents.sets contents.first 0 pending new trees → last_offset_or 0 trees ≢ contents.last
    → EndElsewhere contents
ends_elsewhere contents pending new trees is follows other = record {
  trees = trees;
  are_trees = follows_trees contents pending new trees is follows;
  elsewhere = other;
}

pub walk_of : (contents : Contents) (pending new : List (Option Elements)) (trees : Trees) (beside : Beside)
    (unreached : ℕ) → pending ≡ map (λ (set : Elements). Some set) contents.sets → Rises 0 contents.starts
    → length contents.starts ≡ length new
    → Follows contents.starts contents.sets contents.first 0 pending new trees → last_offset_or 0 trees ≡ contents.last
    → beside ≡ contents.beside → unreached ≡ count_left new
    → IsWalkOf contents (record { beside = beside; trees = trees; unreached = unreached })
walk_of contents pending new trees beside unreached is rise same follows ends beside_is count = record {
  trees = follows_trees contents pending new trees is follows;
  ends = ends;
  beside = beside_is;
  unreached =
      let adds : reached contents.starts new ≡ with_all (offsets trees) nothing =
      follows.adds ∙ ap (λ (seen : Seen). with_all (offsets trees) seen)
      (full_unseen contents.starts contents.sets pending is) in
      count ∙ count_reached 0 contents.starts new rise same
      ∙ ap (λ (seen : Seen). count_unseen seen contents.starts) adds;
}
