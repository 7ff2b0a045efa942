-- A pass that adds the images of trees to a list.
use Rattle.std.proofs.Common.{◌≡◌, ℕ, ◌+◌, ◌<◌, ◌≤◌, Bool, true, false, not, List, [], ◌∷◌, ◌++◌, map, length, drop}
use Rattle.std.proofs.Common.{get_or, Option, Some, None}
use Rattle.std.proofs.Common.{Result, Ok, Err, refl, sym, ap, ◌∙◌, append_assoc, append-nil, rules, subst, inl, inr}
use Rattle.std.specs.Prelude.{All, find, option_map, take, if◌then◌else◌}
use Rattle.std.proofs.lemmas.List.{at_drop_more, at_drop_all, get_or-map, length-map, map-append, map_more}
use Rattle.std.proofs.lemmas.List.Elements.{All-get_or}
use Rattle.dd_encoding.specs.Elements.{Elements}
use Rattle.dd_set.specs.Views.{set_view}
use Rattle.dd_walk.specs.declared.forest.Tree.{Tree, out-Tree, the_lemmas}
use Rattle.dd_dir.specs.declared.listed_images.Listed.{Listed as ListedValue}
use Rattle.dd_dir.specs.declared.own_fault.OwnFault.{OwnFault}
use Rattle.dd_dir.specs.declared.own_fault.OwnFault.TheVariants.{BadWithdrawal, ForeignRecord, Memory, NoDigest}
use Rattle.dd_dir.specs.declared.own_fault.OwnFault.TheVariants.{RecordKey}
use Rattle.dd_walk.specs.ForestViews.{tree_view, trees_view}
use Rattle.dd_records.specs.declared.level.Level.{Level}
use Rattle.dd_records.specs.declared.table.Row.{Row}
use Rattle.dd_records.specs.Tables.{table_of}
use Rattle.dd_dir.specs.Own.{Above, Listed, ListsFirst, below, fault_at, followed, is_bad, is_own, lacks_digest}
use Rattle.dd_dir.specs.Own.{level_in, listed_at, listed_in, unless}
use Rattle.dd_walk.specs.Trees.{Node, Trees}
use Rattle.dd_dir.specs.OwnViews.{Adds, IsListed, ListsOneFirst, listed_of, listed_view}

-- images, or a fault
abbrev pub Images : Type 0
Images = Result (List Listed) OwnFault

-- ---- lists one after the other

pub followed_assoc : {A : Type 0} (x y z : Result (List A) OwnFault)
    → followed (followed x y) z ≡ followed x (followed y z)
followed_assoc (Err e) y z = refl
followed_assoc (Ok xs) (Err e) z = refl
followed_assoc (Ok xs) (Ok ys) (Err e) = refl
followed_assoc (Ok xs) (Ok ys) (Ok zs) = ap (λ (s : List _). Ok s) (append_assoc xs ys zs)

-- ---- answers

-- after images that were added before
pub adds_behind : {F : Type 0} (old mid new front : List Listed) (x : Images) (IsWanted Wants : Type 0)
    (result : Result F OwnFault) → mid ≡ old ++ front → (IsWanted → Wants) → Adds mid new x IsWanted result
    → Adds old new (followed (Ok front) x) Wants result
adds_behind old mid new front x IsWanted Wants (Ok done) e wants a = (
  front ++ a.0,
  ap (λ (r : Images). followed (Ok front) r) a.1,
  a.2 ∙ ap (λ (s : List Listed). s ++ a.0) e ∙ append_assoc old front a.0,
)
adds_behind old mid new front x IsWanted Wants (Err BadWithdrawal) e wants a =
    ap (λ (r : Images). followed (Ok front) r) a
adds_behind old mid new front x IsWanted Wants (Err Memory) e wants a = wants a
adds_behind old mid new front x IsWanted Wants (Err (NoDigest at)) e wants a =
    ap (λ (r : Images). followed (Ok front) r) a
adds_behind old mid new front x IsWanted Wants (Err (ForeignRecord at)) e wants a =
    ap (λ (r : Images). followed (Ok front) r) a
adds_behind old mid new front x IsWanted Wants (Err (RecordKey at tag)) e wants a =
    ap (λ (r : Images). followed (Ok front) r) a

-- a refusal, whatever was to come after it
pub refused_before : (F G : Type 0) (old new mid : List Listed) (x y : Images) (IsWanted Wants : Type 0)
    (fault : OwnFault) → (IsWanted → Wants) → Adds {F = F} old new x IsWanted (Err fault)
    → Adds {F = G} old mid (followed x y) Wants (Err fault)
refused_before F G old new mid x y IsWanted Wants BadWithdrawal wants a = ap (λ (r : Images). followed r y) a
refused_before F G old new mid x y IsWanted Wants Memory wants a = wants a
refused_before F G old new mid x y IsWanted Wants (NoDigest at) wants a = ap (λ (r : Images). followed r y) a
refused_before F G old new mid x y IsWanted Wants (ForeignRecord at) wants a = ap (λ (r : Images). followed r y) a
refused_before F G old new mid x y IsWanted Wants (RecordKey at tag) wants a = ap (λ (r : Images). followed r y) a

-- ---- trees

pub set_of_tree : (t : Tree) → (tree_view t).node.set ≡ set_view (out-Tree t).set
set_of_tree t = search (rules, the_lemmas)

pub below_of_tree : (t : Tree) → (tree_view t).below ≡ trees_view (out-Tree t).below.items
below_of_tree t = search (rules, the_lemmas)

-- what is left of trees in a row begins with the next of them
tree_next : (above : Above) (trees : List Tree) (i : ℕ) (d : Tree) → i < length trees
    → listed_in above (trees_view (drop i trees))
    ≡ followed (listed_of above (tree_view (get_or trees i d))) (listed_in above (trees_view (drop (i + 1) trees)))
tree_next above trees i d within = at_drop_more (λ (ts : List Tree). listed_in above (trees_view ts)) trees i d within

-- what is left of them, where the next one is known
tree_left : (trees : List Tree) (i : ℕ) (t : Tree) → i < length trees → t ≡ get_or trees i t
    → drop i trees ≡ t ∷ drop (i + 1) trees
tree_left trees i t within is =
    at_drop_more (λ (ts : List Tree). ts) trees i t within
    ∙ ap (λ (x : Tree). x ∷ drop (i + 1) trees) (sym is)

-- where the next one lists an image first, so does what is left; and so where those after it do, and it does not fail
tree_first : (above : Above) (trees : List Tree) (i : ℕ) (t : Tree) → i < length trees → t ≡ get_or trees i t
    → ListsOneFirst above (tree_view t) → ListsFirst above (trees_view (drop i trees))
tree_first above trees i t within is first =
    subst (λ (ts : List Tree). ListsFirst above (trees_view ts)) (sym (tree_left trees i t within is)) (inl first)

later_first : (above : Above) (trees : List Tree) (i : ℕ) (d : Tree) (images : List Listed) → i < length trees
    → listed_of above (tree_view (get_or trees i d)) ≡ Ok images
    → ListsFirst above (trees_view (drop (i + 1) trees)) → ListsFirst above (trees_view (drop i trees))
later_first above trees i d images within e first =
    subst (λ (ts : List Tree). ListsFirst above (trees_view ts))
    (sym (at_drop_more (λ (ts : List Tree). ts) trees i d within)) (inr (images, e, first))

-- ---- the loop over trees in a row

-- the images of the first `i` trees were added
pub record Adding (above : Above) (trees : List Tree) (i : ℕ) (old new : List Listed) : Type 0 where
  pub front : List Listed
  pub added : new ≡ old ++ front
  pub so_far : listed_in above (trees_view trees) ≡ followed (Ok front) (listed_in above (trees_view (drop i trees)))
  pub wants : ListsFirst above (trees_view (drop i trees)) → ListsFirst above (trees_view trees)

none_before : (x : Images) → x ≡ followed (Ok []) x
none_before (Ok xs) = refl
none_before (Err e) = refl

pub adding_starts : (above : Above) (trees : List Tree) (old : List Listed) → Adding above trees 0 old old
adding_starts above trees old = record {
  front = [];
  added = sym (append-nil old);
  so_far = none_before (listed_in above (trees_view trees));
  wants = λ first. first;
}

pub adding_goes_on : (above : Above) (trees : List Tree) (i : ℕ) (d : Tree) (old mid new : List Listed)
    (images : List Listed) → i < length trees → Adding above trees i old mid
    → listed_of above (tree_view (get_or trees i d)) ≡ Ok images → new ≡ mid ++ images
    → Adding above trees (i + 1) old new
adding_goes_on above trees i d old mid new images within so e n =
    let one = listed_of above (tree_view (get_or trees i d)) in
    let rest = listed_in above (trees_view (drop (i + 1) trees)) in
    record {
      front = so.front ++ images;
      added = n ∙ ap (λ (s : List Listed). s ++ images) so.added ∙ append_assoc old so.front images;
      so_far = so.so_far ∙ ap (λ (r : Images). followed (Ok so.front) r) (tree_next above trees i d within)
          ∙ sym (followed_assoc (Ok so.front) one rest)
          ∙ ap (λ (r : Images). followed (followed (Ok so.front) r) rest) e;
      wants = λ first. so.wants (later_first above trees i d images within e first);
    }

pub adding_ends : {F : Type 0} (above : Above) (trees : List Tree) (i : ℕ) (old new : List Listed) (done : F)
    → length trees ≤ i → Adding above trees i old new
    → Adds old new (listed_in above (trees_view trees)) (ListsFirst above (trees_view trees)) (Ok done)
adding_ends above trees i old new done past so = (
  so.front ++ [],
  so.so_far ∙ ap (λ (r : Images). followed (Ok so.front) r)
      (at_drop_all (λ (ts : List Tree). listed_in above (trees_view ts)) trees i past),
  so.added ∙ ap (λ (s : List Listed). old ++ s) (sym (append-nil so.front)),
)

pub adding_fails : {F G : Type 0} (above : Above) (trees : List Tree) (i : ℕ) (t : Tree) (old mid new : List Listed)
    (fault : OwnFault) (answer : Result F OwnFault) (result : Result G OwnFault)
    → i < length trees → t ≡ get_or trees i t → Adding above trees i old mid → answer ≡ Err fault → result ≡ Err fault
    → Adds mid new (listed_of above (tree_view t)) (ListsOneFirst above (tree_view t)) answer
    → Adds old new (listed_in above (trees_view trees)) (ListsFirst above (trees_view trees)) result
adding_fails {F} {G} above trees i t old mid new fault answer result within is so failed fails a =
    let one = listed_of above (tree_view t) in
    let rest = listed_in above (trees_view (drop (i + 1) trees)) in
    let First = ListsFirst above (trees_view trees) in
    let next : listed_in above (trees_view (drop i trees)) ≡ followed one rest =
    ap (λ (ts : List Tree). listed_in above (trees_view ts)) (tree_left trees i t within is) in
    let all : listed_in above (trees_view trees) ≡ followed (Ok so.front) (followed one rest) =
    so.so_far ∙ ap (λ (r : Images). followed (Ok so.front) r) next in
    let refused : Adds {F = F} mid new one (ListsOneFirst above (tree_view t)) (Err fault) =
    subst (λ (x : Result F OwnFault). Adds mid new one (ListsOneFirst above (tree_view t)) x) failed a in
    let whole : Adds {F = G} old new (followed (Ok so.front) (followed one rest)) First (Err fault) =
    adds_behind {F = G} old mid new so.front (followed one rest) First First (Err fault) so.added (λ first. first)
    (refused_before F G mid new new one rest (ListsOneFirst above (tree_view t)) First fault
    (λ first. so.wants (tree_first above trees i t within is first)) refused) in
    let told : Adds {F = G} old new (listed_in above (trees_view trees)) First (Err fault) =
    subst (λ (r : Images). Adds {F = G} old new r First (Err fault)) (sym all) whole in
    subst (λ (x : Result G OwnFault). Adds old new (listed_in above (trees_view trees)) First x) (sym fails) told

-- ---- one tree

-- a record that passes its checks lists its image, before those below it
pub one_listed : {F : Type 0} (above lower : Above) (t : Tree) (trees : List Tree) (level : Option Level)
    (fault : Option OwnFault) (listed old mid new : List Listed) (result : Result F OwnFault)
    → level ≡ level_in above → fault ≡ fault_at level (tree_view t).node → fault ≡ None
    → listed ≡ listed_at above (set_view (out-Tree t).set) → mid ≡ old ++ listed
    → lower ≡ below above (set_view (out-Tree t).set) → trees ≡ (out-Tree t).below.items
    → Adds mid new (listed_in lower (trees_view trees)) (ListsFirst lower (trees_view trees)) result
    → Adds old new (listed_of above (tree_view t)) (ListsOneFirst above (tree_view t)) result
one_listed above lower t trees level fault listed old mid new result at_level faults none is added lowers below_it a =
    let branch = tree_view t in
    let passes : fault_at (level_in above) branch.node ≡ None =
    ap (λ (l : Option Level). fault_at l branch.node) (sym at_level) ∙ sym faults ∙ none in
    let first : unless (fault_at (level_in above) branch.node) (listed_at above branch.node.set) ≡ Ok listed =
    ap (λ (f : Option OwnFault). unless f (listed_at above branch.node.set)) passes
    ∙ ap (λ (x : Elements). Ok (listed_at above x)) (set_of_tree t) ∙ ap (λ (x : List Listed). Ok x) (sym is) in
    let under : below above branch.node.set ≡ lower = ap (below above) (set_of_tree t) ∙ sym lowers in
    let trees_are : branch.below ≡ trees_view trees = below_of_tree t ∙ ap trees_view (sym below_it) in
    let rest : listed_in (below above branch.node.set) branch.below ≡ listed_in lower (trees_view trees) =
    ap (λ (x : Above). listed_in x branch.below) under ∙ ap (λ (x : Trees). listed_in lower x) trees_are in
    let whole : listed_of above branch ≡ followed (Ok listed) (listed_in lower (trees_view trees)) =
    ap (λ (x : Images). followed x (listed_in (below above branch.node.set) branch.below)) first
    ∙ ap (λ (x : Images). followed (Ok listed) x) rest in
    let wants : ListsFirst lower (trees_view trees) → ListsOneFirst above branch = λ later. (
      passes,
      inr (subst (λ (x : Above). ListsFirst x branch.below) (sym under)
          (subst (λ (x : Trees). ListsFirst lower x) (sym trees_are) later)),
    ) in
    subst (λ (r : Images). Adds old new r (ListsOneFirst above branch) result) (sym whole)
    (adds_behind old mid new listed (listed_in lower (trees_view trees)) (ListsFirst lower (trees_view trees))
    (ListsOneFirst above branch) result added wants a)

-- a record that fails a check, which is never a refused allocation
no_key_memory : (at : ℕ) (o : Option Row) → option_map (λ (r : Row). RecordKey at r.tag) o ≡ Some Memory → ⊥
no_key_memory at None e = cc
no_key_memory at (Some r) e = cc

no_memory : (a b : Bool) (at : ℕ) (o : Option Row)
    → (if a then Some (ForeignRecord at) else (if b then Some (NoDigest at)
    else option_map (λ (r : Row). RecordKey at r.tag) o)) ≡ Some Memory → ⊥
no_memory true b at o e = cc
no_memory false true at o e = cc
no_memory false false at o e = no_key_memory at o e

never_memory : (level : Option Level) (node : Node) → fault_at level node ≡ Some Memory → ⊥
never_memory None node e = cc
never_memory (Some level) node e =
    no_memory (not (is_own level node)) (lacks_digest level node.set) node.at
    (find (is_bad node.set) (table_of level)) e

fails_by : (F : Type 0) (level : Option Level) (node : Node) (all : Images) (IsWanted : Type 0) (why : OwnFault)
    (old new : List Listed) → fault_at level node ≡ Some why → all ≡ Err why
    → Adds {F = F} old new all IsWanted (Err why)
fails_by F level node all IsWanted BadWithdrawal old new fails is = is
fails_by F level node all IsWanted Memory old new fails is = absurd (never_memory level node fails)
fails_by F level node all IsWanted (NoDigest at) old new fails is = is
fails_by F level node all IsWanted (ForeignRecord at) old new fails is = is
fails_by F level node all IsWanted (RecordKey at tag) old new fails is = is

pub one_fails : (F : Type 0) (above : Above) (t : Tree) (level : Option Level) (fault : Option OwnFault)
    (why : OwnFault) (old new : List Listed) → level ≡ level_in above → fault ≡ fault_at level (tree_view t).node
    → fault ≡ Some why
    → Adds {F = F} old new (listed_of above (tree_view t)) (ListsOneFirst above (tree_view t)) (Err why)
one_fails F above t level fault why old new at_level faults is =
    let branch = tree_view t in
    let fails : fault_at (level_in above) branch.node ≡ Some why =
    ap (λ (l : Option Level). fault_at l branch.node) (sym at_level) ∙ sym faults ∙ is in
    fails_by F (level_in above) branch.node (listed_of above branch) (ListsOneFirst above branch) why old new fails
    (ap (λ (f : Option OwnFault). followed (unless f (listed_at above branch.node.set))
    (listed_in (below above branch.node.set) branch.below)) fails)

-- ---- what is made of each of some images

pub one_more : {A : Type 0} (f : Listed → A) (items : List ListedValue) (i : ℕ) (x : ListedValue) (made new : List A)
    (v : A) → i < length items → x ≡ get_or items i x → made ≡ map f (map listed_view (take i items))
    → new ≡ made ++ v ∷ [] → v ≡ f (listed_view x) → new ≡ map f (map listed_view (take (i + 1) items))
one_more f items i x made new v within is before after value =
    let front = map f (map listed_view (take i items)) in
    after ∙ ap (λ y. y ++ v ∷ []) before ∙ ap (λ y. front ++ y ∷ []) (value ∙ ap (λ z. f (listed_view z)) is)
    ∙ sym (ap (λ s. map f s) (map_more listed_view items i x within)
    ∙ map-append f (map listed_view (take i items)) (listed_view (get_or items i x) ∷ []))

pub each_listed : (items : List ListedValue) → All IsListed (map listed_view items)
    → All (λ (item : ListedValue). IsListed (listed_view item)) items
each_listed items all = λ i d within.
    let at : get_or (map listed_view items) i (listed_view d) ≡ listed_view (get_or items i d) =
    get_or-map listed_view items i d (listed_view d) within in
    let room : i < length (map listed_view items) =
    subst (λ (n : ℕ). i < n) (sym (length-map items listed_view)) within in
    subst IsListed at (All-get_or IsListed (map listed_view items) i (listed_view d) room all)
