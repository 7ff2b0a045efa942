-- The bytes of a directory have a walk, which visits the records of the tree of its versions.
use Rattle.std.specs.Prelude.{◌≡◌, ◌<◌, ◌≤◌, ◌^◌, ◌+◌, ℕ, ◌==◌, true, false, List, [], ◌∷◌, ◌++◌, All, length, map}
use Rattle.std.specs.Prelude.{Option, Some, None}
use Rattle.std.specs.List.{AllByRecursion, last_or}
use Rattle.std.proofs.Common.{refl, sym, ◌∙◌, ap, ap₂, subst, inl, inr, arith, append_assoc}
use Rattle.std.proofs.lemmas.Bool.{eq-eqb, ne_eqb}
use Rattle.std.proofs.lemmas.List.{take_at}
use Rattle.std.proofs.lemmas.Nat.{from_le_bytes-to_le_bytes_4}
use Rattle.dd_catalogue.proofs.Members.{Member, contained}
use Rattle.dd_catalogue.specs.Rising.{by_test}
use Rattle.dd_version.specs.declared.parts.Parts.{Parts}
use Rattle.dd_encoding.specs.Head.{head_text}
use Rattle.dd_encoding.specs.Elements.{Element, elements_of}
use Rattle.dd_encoding.specs.Spelling.{elements_text}
use Rattle.dd_records.specs.declared.label.Label.{Label}
use Rattle.dd_records.specs.Directory.{meta_of}
use Rattle.dd_layout.specs.Layouts.{IsSound}
use Rattle.dd_layout.specs.Neighbours.{scan}
use Rattle.dd_layout.specs.Paths.{Path, parent_of}
use Rattle.dd_layout.specs.Plans.{at, at_or_none, level_of, path_of, record_at, records_end, records_of, tree}
use Rattle.dd_records.specs.Records.{kind_of}
use Rattle.dd_layout.specs.Tree.{children, first_child, in_order, next_sibling}
use Rattle.dd_layout.proofs.Blocks.{AllTails}
use Rattle.dd_layout.proofs.Counts.{Linked, walk_linked}
use Rattle.dd_layout.proofs.HasLevel.{HasLevel}
use Rattle.dd_layout.proofs.Leasts.{all_have_levels, least_in, paths_have_parts}
use Rattle.dd_layout.proofs.Neighbourhood.{above_root, rises, rows_are_known, tree_is_walk}
use Rattle.dd_dir.specs.Directories.{directory_of, directory_set, elements_by, elements_for, first_root}
use Rattle.dd_dir.specs.Directories.{last_root}
use Rattle.dd_dir.specs.Keyed.{IsKeyed, IsKeyedBy, IsSent}
use Rattle.dd_walk.specs.Reading.{Contents, IsDirectoryFile, IsWalk, contents_by, contents_in}
use Rattle.dd_walk.specs.Reading.{count_unseen, stands_of}
use Rattle.dd_walk.specs.Saying.{Links, beside_in, links_in}
use Rattle.dd_walk.specs.Trees.{Walk, offsets}
use Rattle.dd_dir.specs.Visits.{Visit, node_at, or_root, visit_at, visits_of}
use Rattle.dd_walk.specs.Walks.{AreApart, IsChain, Seen, nothing, with, with_all}
use Rattle.dd_dir.proofs.ChainsAlong.{SaysAlong, chains_along, first_along, last_along, links_along, visits_places}
use Rattle.dd_dir.proofs.GrownTrees.{grown}
use Rattle.dd_dir.proofs.KeyedRecords.{clean_key}
use Rattle.dd_dir.proofs.OwnKeys.{IsOfVersion, least_leads, own_is}
use Rattle.dd_dir.proofs.PlacesAlong.{at_most, end_small, offsets_rise, places_are, sets_are, stands_found}
use Rattle.dd_dir.proofs.RecordsSay.{record_says}
use Rattle.dd_dir.proofs.VisitsAlong.{IsOwn, at_by, visit_by, visits_along}
use Rattle.dd_walk.specs.Pending.{Rises}

-- ---- what a record says

at_is : (label : Label) (versions : List Parts) (x : Option Path)
    → at_or_none label versions x ≡ at_by (node_at label versions) x
at_is label versions None = refl
at_is label versions (Some x) = refl

-- of a version that was found
version_says : (label : Label) (versions : List Parts) (x : Path) (v : Parts)
    → records_end label versions < 2 ^ 32 → elements_for versions (record_at label versions x)
    ≡ elements_by (record_at label versions x) (Some v)
    → links_in (elements_of (elements_for versions (record_at label versions x)))
    ≡ Some (record {
      next = (record_at label versions x).next;
      lower = (record_at label versions x).lower;
      in_use = true;
      kind = kind_of (level_of x);
    })
version_says label versions x v small found =
    let row = record_at label versions x in
    let next = at_most label versions (next_sibling (tree versions) x) in
    let lower = at_most label versions (first_child (tree versions) x) in
    ap (λ (es : List Element). links_in (elements_of es)) found
    ∙ record_says (level_of x) row.next row.lower row.file v (omega (arith, next, small)) (omega (arith, lower, small))

-- the record of a row says what stands along the rows after it
row_says : (label : Label) (versions : List Parts) (front : List Path) (x : Path) (rest : List Path)
    → tree versions ≡ front ++ x ∷ rest → records_end label versions < 2 ^ 32 → IsOfVersion versions x
    → links_in (node_at label versions x).set ≡ Some (links_along (node_at label versions) x rest)
row_says label versions front x rest is small of =
    let known = rows_are_known (map path_of versions) (paths_have_parts versions) front x rest is in
    let row = record_at label versions x in
    let links : ℕ → ℕ → Links = λ a b. record { next = a; lower = b; in_use = true; kind = kind_of (level_of x) } in
    version_says label versions x of.version small (ap (elements_by row) of.found)
    ∙ ap₂ (λ (a b : ℕ). Some (links a b))
    (ap (at_or_none label versions) known.next ∙ at_is label versions (scan (length x) rest))
    (ap (at_or_none label versions) known.lower ∙ at_is label versions (scan (length x + 1) rest))

-- ---- what the file says

-- what a directory of these versions says of its records
abbrev pub contents_at : Label → List Parts → List (List ℕ) → Contents
contents_at label versions withdrawn = record {
  first = first_root label versions;
  last = last_root label versions;
  starts = map (at label versions) (tree versions);
  sets = map (λ x. (node_at label versions x).set) (tree versions);
  beside = beside_in label.uid (directory_set label versions withdrawn);
}

set_says : (label : Label) (versions : List Parts) (withdrawn : List (List ℕ)) → records_end label versions < 2 ^ 32
    → All (IsSound (length versions)) (records_of label versions)
    → contents_in label.uid (head_text (meta_of label)) (directory_set label versions withdrawn)
    ≡ Some (contents_at label versions withdrawn)
unfolding contents_in
set_says label versions withdrawn small sound =
    let first = at_most label versions (first_child (tree versions) []) in
    let last = at_most label versions (last_or None (children (tree versions) [])) in
    let one = from_le_bytes-to_le_bytes_4 (first_root label versions) (omega (arith, first, small)) in
    let other = from_le_bytes-to_le_bytes_4 (last_root label versions) (omega (arith, last, small)) in
    let starts = places_are label versions withdrawn sound in
    let sets = sets_are versions (record_at label versions) (tree versions) in
    let beside = beside_in label.uid (directory_set label versions withdrawn) in
    λ i. contents_by beside (Some (one i)) (Some (other i)) (starts i) (Some (sets i))

pub file_says : (label : Label) (versions : List Parts) (withdrawn : List (List ℕ)) → IsSent label versions withdrawn
    → IsDirectoryFile (directory_of label versions withdrawn) (contents_at label versions withdrawn)
file_says label versions withdrawn sent =
    let head = head_text (meta_of label) in
    let set = directory_set label versions withdrawn in
    record {
      meta = meta_of label;
      set = set;
      at = length head;
      is_file = sent.file;
      says = ap (λ (front : List ℕ). contents_in label.uid front set)
          (take_at head (elements_text set) (length head) refl)
          ∙ set_says label versions withdrawn (end_small label versions withdrawn sent.small) sent.sound;
    }

-- ---- offsets that rise are apart, and all of them are seen

unseen_above : (low : ℕ) (seen : Seen) (p : ℕ) → ((q : ℕ) → low ≤ q → seen q ≡ false) → low ≤ p
    → (q : ℕ) → p + 1 ≤ q → with p seen q ≡ false
unseen_above low seen p fresh above q more =
    let other : (q == p) ≡ false = ne_eqb q p (λ e. omega arith) in
    rw other (fresh q (omega arith))

rise_apart : (low : ℕ) (seen : Seen) (ps : List ℕ) → ((q : ℕ) → low ≤ q → seen q ≡ false) → Rises low ps
    → AreApart seen ps
rise_apart low seen [] fresh up = tt
rise_apart low seen (p ∷ ps) fresh up =
    (fresh p up.0, rise_apart (p + 1) (with p seen) ps (unseen_above low seen p fresh up.0) up.1)

with_stays : (p : ℕ) (seen : Seen) (q : ℕ) → seen q ≡ true → with p seen q ≡ true
with_stays p seen q is = by_test (q == p) (λ e. rw e refl) (λ e. rw e is)

all_stays : (ps : List ℕ) (seen : Seen) (q : ℕ) → seen q ≡ true → with_all ps seen q ≡ true
all_stays [] seen q is = is
all_stays (p ∷ ps) seen q is = all_stays ps (with p seen) q (with_stays p seen q is)

all_seen : (ps : List ℕ) (seen : Seen) (q : ℕ) → Member q ps → with_all ps seen q ≡ true
all_seen [] seen q i = absurd i
all_seen (p ∷ ps) seen q (inl e) =
    let same : (q == p) ≡ true = eq-eqb q p (sym e) in
    all_stays ps (with p seen) q (rw same refl)
all_seen (p ∷ ps) seen q (inr i) = all_seen ps (with p seen) q i

none_unseen : (seen : Seen) (ps : List ℕ) → ((q : ℕ) → Member q ps → seen q ≡ true) → count_unseen seen ps ≡ 0
none_unseen seen [] h = refl
none_unseen seen (p ∷ ps) h = rw (h p (inl refl)) (none_unseen seen ps (λ q i. h q (inr i)))

-- ---- the rows of the tree of versions

-- each leads to the version that its record is of
pub of_version : (versions : List Parts) (x : Path) → Member x (tree versions) → IsOfVersion versions x
of_version versions x i = least_leads versions x (least_in versions x (contained x (tree versions) i))

-- each has the last part of its path as its key
own_along : (label : Label) (versions : List Parts) (rest : List Path)
    → ((x : Path) → Member x rest → Member x (tree versions)) → AllByRecursion HasLevel rest
    → AllByRecursion (IsKeyed versions) (map (record_at label versions) rest)
    → AllByRecursion (IsOwn (node_at label versions)) rest
own_along label versions [] among levels keyed = tt
own_along label versions (x ∷ rest) among levels keyed =
    let of = of_version versions x (among x (inl refl)) in
    let formed : IsKeyedBy (record_at label versions x) (Some of.version) =
    subst (IsKeyedBy (record_at label versions x)) of.found keyed.0 in (
      own_is label versions x of.version levels.0 of.found of.leads (clean_key (level_of x) of.version formed),
      own_along label versions rest (λ y i. among y (inr i)) levels.1 keyed.1,
    )

-- each stands where the plan says
found_at : (label : Label) (versions : List Parts) (withdrawn : List (List ℕ))
    → All (IsSound (length versions)) (records_of label versions)
    → (x : Path) → Member x (tree versions)
    → stands_of (contents_at label versions withdrawn) (at label versions x) ≡ Some (node_at label versions x).set
found_at label versions withdrawn sound x i =
    stands_found (at label versions) (λ y. (node_at label versions y).set) 0 (tree versions) x
    (offsets_rise label versions sound) i

-- each says what stands along the rows after it
says_tails : (label : Label) (versions : List Parts) (withdrawn : List (List ℕ)) (front rest : List Path)
    → tree versions ≡ front ++ rest
    → records_end label versions < 2 ^ 32 → All (IsSound (length versions)) (records_of label versions)
    → ((x : Path) → Member x rest → Member x (tree versions))
    → AllTails (SaysAlong (stands_of (contents_at label versions withdrawn)) (node_at label versions)) rest
says_tails label versions withdrawn front [] is small sound among = tt
says_tails label versions withdrawn front (x ∷ rest) is small sound among =
    let i = among x (inl refl) in (
      record {
        found = found_at label versions withdrawn sound x i;
        says = row_says label versions front x rest is small (of_version versions x i);
        is = refl;
      },
      says_tails label versions withdrawn (front ++ x ∷ []) rest (is ∙ sym (append_assoc front (x ∷ []) rest)) small
          sound (λ y j. among y (inr j)),
    )

-- each follows one that its parent leads to
pub tree_linked : (versions : List Parts) → Linked [] (tree versions)
tree_linked versions =
    let paths = map path_of versions in
    subst (Linked []) (sym (tree_is_walk paths))
    (walk_linked [] (in_order paths) (above_root paths (paths_have_parts versions)) (rises paths))

-- ---- the walk

-- the trees that grow from the rows
abbrev pub tree_walk : Label → List Parts → List (List ℕ) → Walk
tree_walk label versions withdrawn = record {
  beside = beside_in label.uid (directory_set label versions withdrawn);
  trees = (grown (node_at label versions) (tree versions)).patient;
  unreached = 0;
}

visits_same : (label : Label) (versions : List Parts) (rest : List Path)
    → map (visit_by (node_at label versions)) rest ≡ map (visit_at label versions) rest
visits_same label versions [] = refl
visits_same label versions (x ∷ rest) =
    let visit : ℕ → Visit = λ n. record { path = x; above = n; node = node_at label versions x } in
    ap₂ (λ (n : ℕ) (l : List Visit). visit n ∷ l) (sym (at_is label versions (or_root (parent_of x))))
    (visits_same label versions rest)

visits_at : (label : Label) (versions : List Parts) (rest : List Path)
    → map (λ visit. visit.node.at) (map (visit_by (node_at label versions)) rest) ≡ map (at label versions) rest
visits_at label versions [] = refl
visits_at label versions (x ∷ rest) = ap (λ (l : List ℕ). at label versions x ∷ l) (visits_at label versions rest)

grown_visits : (label : Label) (versions : List Parts) (withdrawn : List (List ℕ)) → IsSent label versions withdrawn
    → visits_of (tree_walk label versions withdrawn) ≡ map (visit_by (node_at label versions)) (tree versions)
grown_visits label versions withdrawn sent =
    visits_along (node_at label versions) [] (tree versions) (all_have_levels versions) (tree_linked versions)
    (own_along label versions (tree versions) (λ x i. i) (all_have_levels versions) sent.keyed)

pub tree_visits : (label : Label) (versions : List Parts) (withdrawn : List (List ℕ)) → IsSent label versions withdrawn
    → visits_of (tree_walk label versions withdrawn) ≡ map (visit_at label versions) (tree versions)
tree_visits label versions withdrawn sent =
    grown_visits label versions withdrawn sent ∙ visits_same label versions (tree versions)

tree_places : (label : Label) (versions : List Parts) (withdrawn : List (List ℕ)) → IsSent label versions withdrawn
    → offsets (tree_walk label versions withdrawn).trees ≡ map (at label versions) (tree versions)
tree_places label versions withdrawn sent =
    sym (visits_places [] 0 (tree_walk label versions withdrawn).trees)
    ∙ ap (λ (l : List Visit). map (λ visit. visit.node.at) l) (grown_visits label versions withdrawn sent)
    ∙ visits_at label versions (tree versions)

tree_chain : (label : Label) (versions : List Parts) (withdrawn : List (List ℕ)) → IsSent label versions withdrawn
    → IsChain (stands_of (contents_at label versions withdrawn)) (first_root label versions) 0
    (tree_walk label versions withdrawn).trees
tree_chain label versions withdrawn sent =
    let node = node_at label versions in
    let levels = all_have_levels versions in
    let stands = stands_of (contents_at label versions withdrawn) in
    let chains = chains_along stands node (tree versions) levels
    (says_tails label versions withdrawn [] (tree versions) refl (end_small label versions withdrawn sent.small)
    sent.sound (λ x i. i)) in
    let first : first_root label versions ≡ at_by node (scan 1 (tree versions)) =
    at_is label versions (first_child (tree versions) []) ∙ ap (at_by node) (first_along node (tree versions) levels) in
    subst (λ (p : ℕ). IsChain stands p 0 (tree_walk label versions withdrawn).trees) (sym first) chains.patient

tree_apart : (label : Label) (versions : List Parts) (withdrawn : List (List ℕ)) → IsSent label versions withdrawn
    → AreApart nothing (offsets (tree_walk label versions withdrawn).trees)
tree_apart label versions withdrawn sent =
    subst (AreApart nothing) (sym (tree_places label versions withdrawn sent))
    (rise_apart 0 nothing (map (at label versions) (tree versions)) (λ q above. refl)
    (offsets_rise label versions sent.sound))

tree_reached : (label : Label) (versions : List Parts) (withdrawn : List (List ℕ)) → IsSent label versions withdrawn
    → 0 ≡ count_unseen (with_all (offsets (tree_walk label versions withdrawn).trees) nothing)
    (map (at label versions) (tree versions))
tree_reached label versions withdrawn sent =
    let ps = map (at label versions) (tree versions) in
    sym (ap (λ (qs : List ℕ). count_unseen (with_all qs nothing) ps) (tree_places label versions withdrawn sent)
    ∙ none_unseen (with_all ps nothing) ps (λ q i. all_seen ps nothing q i))

pub tree_is_walked : (label : Label) (versions : List Parts) (withdrawn : List (List ℕ))
    → IsSent label versions withdrawn
    → IsWalk (directory_of label versions withdrawn) (tree_walk label versions withdrawn)
tree_is_walked label versions withdrawn sent = record {
  contents = contents_at label versions withdrawn;
  is_directory = file_says label versions withdrawn sent;
  is_walk = record {
    trees = record {
      chain = tree_chain label versions withdrawn sent;
      apart = tree_apart label versions withdrawn sent;
    };
    ends = last_along (node_at label versions) None (tree versions) (all_have_levels versions)
        ∙ sym (at_is label versions (last_or None (children (tree versions) [])));
    beside = refl;
    unreached = tree_reached label versions withdrawn sent;
  };
}
