-- The numbers of a sum add up: each version is of one kind, and those that are kept are among the last kind.
use Rattle.std.proofs.Common.{◌≡◌, ◌⊎◌, ◌∙◌, ◌+◌, ◌≤◌, ◌&&◌, ℕ, Bool, true, false, not, List, [], ◌∷◌, ◌++◌, Some, None}
use Rattle.std.proofs.Common.{Err, Ok, ap, arith, filter, inl, inr, length, map, refl, suc, subst, sym}
use Rattle.std.proofs.lemmas.List.{length-map}
use Rattle.std.specs.Ordering.{ordering_reverse}
use Rattle.std.specs.declared.cmp.Ordering.{Ordering}
use Rattle.std.specs.declared.cmp.Ordering.TheVariants.{Less, Equal, Greater}
use Rattle.dd_catalogue.proofs.BestMembers.{above_member, at-member, best_is_best}
use Rattle.dd_catalogue.proofs.Members.{Member, contained, member_of}
use Rattle.dd_catalogue.specs.Conflicts.{same}
use Rattle.dd_catalogue.specs.Contents.{kept_of, left_of}
use Rattle.dd_catalogue.specs.Free.{is_free}
use Rattle.dd_catalogue.specs.Harmony.{agreed}
use Rattle.dd_dir.specs.Own.{Listed}
use Rattle.dd_dir.specs.OwnVersions.{place_of, version_of}
use Rattle.dd_catalogue.specs.Versions.{IsCatalogue, best_of, instance_of, kept, versions_ordered}
use Rattle.dd_elem.specs.Ordered.{bytes_cmp}
use Rattle.dd_engine.specs.IndexNotes.{NotesIndex}
use Rattle.dd_sources.specs.Indexing.{accepted, accepted_from, best_of_sources, skipped_from}
use Rattle.dd_engine.specs.Noting.{is_other}
use Rattle.dd_engine.specs.SetNotes.{count_among, is_among}
use Rattle.dd_engine.specs.Merging.{SetListing, filed_in, held_in, numbered, place_pick, versions_in, withdrawn_in}
use Rattle.dd_engine.specs.MergeNotes.{NotesMerge}
use Rattle.dd_engine.specs.declared.choice.Choice.{Choice}
use Rattle.dd_engine.specs.declared.noted_merge.NotedMerge.{NotedMerge}
use Rattle.dd_engine.specs.declared.noted_index.NotedIndex.{NotedIndex}
use Rattle.dd_keys.specs.declared.fault.KeyFault.{KeyFault}
use Rattle.dd_keys.specs.Sources.{Answer}
use Rattle.dd_layout.specs.Layouts.{Layout}
use Rattle.dd_layout.specs.Limits.{Limits}
use Rattle.dd_version.specs.declared.parts.Parts.{Parts}
use Rattle.dicomdir.specs.Sum.{AddsUp, CountsImages, CountsSources, ImagesAddUp}
use Rattle.dicomdir.specs.declared.set_sum.SetSum.{SetSum}
use Rattle.dicomdir.specs.declared.sum.Sum.{Sum}

-- ---- no more than the places

-- a list without one of its members
record Without {V : Type 0} (v : V) (s : List V) : Type 0 where
  rest : List V
  fewer : length s ≡ length rest + 1
  others : (w : V) → Member w s → (w ≡ v) ⊎ Member w rest

without : {V : Type 0} (v : V) (s : List V) → Member v s → Without v s
without v [] is = absurd is
without v (x ∷ s) (inl same) = record {
  rest = s;
  fewer = omega arith;
  others = λ w is. elim is [
    | inl e ↦ inl (sym e ∙ same)
    | inr there ↦ inr there
  ];
}
without v (x ∷ s) (inr there) =
    let less = without v s there in
    let few = less.fewer in
    record {
      rest = x ∷ less.rest;
      fewer = omega (arith, few);
      others = λ w is. elim is [
        | inl e ↦ inr (inl e)
        | inr later ↦ elim (less.others w later) [
          | inl e ↦ inl e
          | inr more ↦ inr (inr more)
        ]
      ];
    }

-- a list that rises by instance is no longer than one that has all its members
no_longer : (m : List Parts) (s : List Parts) → IsCatalogue m → ((v : Parts) → Member v m → Member v s)
    → length m ≤ length s
no_longer [] s rises all = omega arith
no_longer (v ∷ m) s rises all =
    let less = without v s (all v (inl refl)) in
    let few = less.fewer in
    let later : length m ≤ length less.rest = no_longer m less.rest rises.1 (λ w is. elim (less.others w (all w (inr is))) [
      | inl e ↦ absurd (above w is e)
      | inr more ↦ more
    ]) in
    omega (arith, few, later)
  where
    above : (w : Parts) → Member w m → w ≡ v → ⊥
    above w is e =
        let up = above_member instance_of bytes_cmp v.instance w m rises.0 is in
        let same = subst (λ (x : Parts). bytes_cmp v.instance x.instance ≡ Less) e up in
        let turned : bytes_cmp v.instance v.instance ≡ ordering_reverse (bytes_cmp v.instance v.instance) =
        versions_ordered.keys_total.antisymm v.instance v.instance in
        let no = rw same at turned in
        cc

-- ---- three kinds

module _ {T : Type 0} (first second : T × Parts → Bool)
    (apart : (x : T × Parts) → second x ≡ true → first x ≡ false) where
  abbrev is_third : T × Parts → Bool
  is_third x = not (first x) && not (second x)

  all_kinds : (xs : List (T × Parts))
      → length (filter first xs) + length (filter second xs) + length (filter is_third xs) ≡ length xs
  all_kinds [] = refl
  all_kinds (x ∷ xs) = let rest = all_kinds xs in go (first x) refl (second x) refl rest
    where
      go : (a : Bool) → first x ≡ a → (b : Bool) → second x ≡ b
          → length (filter first xs) + length (filter second xs) + length (filter is_third xs) ≡ length xs
          → length (filter first (x ∷ xs)) + length (filter second (x ∷ xs)) + length (filter is_third (x ∷ xs))
          ≡ length (x ∷ xs)
      go true one true other rest = let no = apart x other in cc
      go true one false other rest = rw (one, other) (omega (arith, rest))
      go false one true other rest = rw (one, other) (omega (arith, rest))
      go false one false other rest = rw (one, other) (omega (arith, rest))

  third_member : (xs : List (T × Parts)) (v : Parts) → ((x : T × Parts) → x.1 ≡ v → is_third x ≡ true)
      → Member v (map (λ x. x.1) xs) → Member v (map (λ x. x.1) (filter is_third xs))
  third_member [] v third is = absurd is
  third_member (x ∷ xs) v third is = let later = third_member xs v third in go (is_third x) refl is later
    where
      go : (t : Bool) → is_third x ≡ t → (x.1 ≡ v) ⊎ Member v (map (λ y. y.1) xs)
          → (Member v (map (λ y. y.1) xs) → Member v (map (λ y. y.1) (filter is_third xs)))
          → Member v (map (λ y. y.1) (filter is_third (x ∷ xs)))
      go true e (inl same) later = rw e (inl same)
      go true e (inr there) later = rw e (inr (later there))
      go false e (inl same) later = let yes = third x same in cc
      go false e (inr there) later = rw e (later there)

  -- those that are kept are of the third kind
  pub kinds_fit : (xs : List (T × Parts)) (m : List Parts) → IsCatalogue m
      → ((v : Parts) → Member v m → Member v (map (λ x. x.1) xs))
      → ((x : T × Parts) → Member x.1 m → is_third x ≡ true)
      → length (filter first xs) + length (filter second xs) + length m ≤ length xs
  kinds_fit xs m rises all third =
      let every = all_kinds xs in
      let few = no_longer m (map (λ x. x.1) (filter is_third xs)) rises (λ v is. third_member xs v
      (λ x e. third x (subst (λ (w : Parts). Member w m) (sym e) is)) (all v is)) in
      let many = length-map (filter is_third xs) (λ x. x.1) in
      omega (arith, every, few, many)

-- ---- what is kept of versions

-- a version that is kept has no other bytes than the kept one
kept_is_no_other : (m : List Parts) (v : Parts) → IsCatalogue m → Member v m
    → is_other (kept m v.instance) v ≡ false
kept_is_no_other m v rises is =
    let found : kept m v.instance ≡ Some v = at-member instance_of versions_ordered.keys_total v m rises is in
    let itself : same v.digest v.digest ≡ true = same_itself v.digest in
    rw (found, itself) refl
  where
    same_itself : (d : List ℕ) → same d d ≡ true
    same_itself d = go (bytes_cmp d d) refl (versions_ordered.keys_total.antisymm d d)
      where
        go : (o : Ordering) → bytes_cmp d d ≡ o → bytes_cmp d d ≡ ordering_reverse (bytes_cmp d d) → same d d ≡ true
        go Less e turned = let no = rw e at turned in cc
        go Equal e turned = rw e refl
        go Greater e turned = let no = rw e at turned in cc

-- the best of versions is of them, and is no other
pub sources_fit : {T : Type 0} (xs : List (T × Parts))
    → let m = best_of (map (λ x. x.1) xs) in
    length (filter (λ x. is_other (kept m x.1.instance) x.1) xs) + length m ≤ length xs
sources_fit {T} xs =
    let m = best_of (map (λ x. x.1) xs) in
    let is = best_is_best versions_ordered (map (λ x. x.1) xs) in
    let fit = kinds_fit (λ _. false) (λ x. is_other (kept m x.1.instance) x.1) (λ x _. refl) xs m is.rising
    (λ v h. member_of v (map (λ x. x.1) xs) ((is.each v).0 (contained v m h)).member)
    (λ x h. rw (kept_is_no_other m x.1 is.rising h) refl) in
    let none : length (filter (λ (x : T × Parts). false) xs) ≡ 0 = no_first xs in
    omega (arith, fit, none)
  where
    no_first : (ys : List (T × Parts)) → length (filter (λ (x : T × Parts). false) ys) ≡ 0
    no_first [] = refl
    no_first (y ∷ ys) = no_first ys

-- ---- the sum of an index

read_or_skipped : (at : ℕ) (answers : List Answer)
    → length (accepted_from at answers) + length (skipped_from at answers) ≡ length answers
read_or_skipped at [] = refl
read_or_skipped at (Ok version ∷ answers) = let rest = read_or_skipped (suc at) answers in omega (arith, rest)
read_or_skipped at (Err fault ∷ answers) = let rest = read_or_skipped (suc at) answers in omega (arith, rest)

pub index_adds_up : (choice : Choice) (limits : Limits) (answers : List Answer) (noted : NotedIndex) (count : ℕ) (sum : Sum)
    → length answers ≡ count → NotesIndex choice limits answers (Ok noted) → CountsSources noted count sum → AddsUp sum
index_adds_up choice limits answers noted count sum all notes counts =
    let sources = accepted answers in
    let m = best_of_sources sources in
    let kept_count : sum.kept ≡ length m =
    counts.kept ∙ (ap (λ (l : Layout). length l.versions) notes.0.plan ∙ length-map m (agreed m)) in
    let skipped_count : sum.skipped ≡ length (skipped_from 0 answers) =
    counts.skipped ∙ ap (λ (l : List (ℕ × KeyFault)). length l) notes.0.skipped in
    let others = filter (λ x. is_other (kept m x.1.instance) x.1) sources in
    let left_count : sum.left_out ≡ length others =
    counts.left_out ∙ (sym (length-map noted.notes.left_out.items _) ∙ (ap (λ l. length l) notes.1 ∙ length-map others _)) in
    let fit = sources_fit sources in
    let read = read_or_skipped 0 answers in
    let repeated = counts.repeated in
    let sources_count = counts.sources in
    omega (arith, kept_count, skipped_count, left_count, fit, read, repeated, sources_count, all)

-- ---- what is kept of versions, of which some are withdrawn

passes : {V : Type 0} (p : V → Bool) (v : V) (s : List V) → Member v (filter p s) → Member v s × (p v ≡ true)
passes p v [] is = absurd is
passes {V} p v (x ∷ s) is = let later = passes p v s in go (p x) refl is later
  where
    go : (t : Bool) → p x ≡ t → Member v (filter p (x ∷ s)) → (Member v (filter p s) → Member v s × (p v ≡ true))
        → Member v (x ∷ s) × (p v ≡ true)
    go true e h later = elim (rw e at h) [
      | inl same ↦ (inl same, subst (λ (y : V). p y ≡ true) same e)
      | inr there ↦ let rest = later there in (inr rest.0, rest.1)
    ]
    go false e h later = let rest = later (rw e at h) in (inr rest.0, rest.1)

none_kept : (m : List Parts) (w : List (List ℕ)) (uid : List ℕ)
    → ((v : Parts) → Member v m → is_among w v.instance ≡ false) → is_among w uid ≡ true → kept m uid ≡ None
none_kept [] w uid free is = refl
none_kept (v ∷ m) w uid free is =
    let later = none_kept m w uid (λ x there. free x (inr there)) is in
    go (bytes_cmp v.instance uid) refl later
  where
    go : (o : Ordering) → bytes_cmp v.instance uid ≡ o → kept m uid ≡ None → kept (v ∷ m) uid ≡ None
    go Less e later = rw e later
    go Greater e later = rw e later
    go Equal e later =
        let same = versions_ordered.keys_apart v.instance uid e in
        let not = free v (inl refl) in
        let yes = subst (λ (u : List ℕ). is_among w u ≡ true) (sym same) is in
        cc

pub images_fit : {T : Type 0} (xs : List (T × Parts)) (w : List (List ℕ))
    → let m = kept_of (map (λ x. x.1) xs) w in
    length (filter (λ x. is_among w x.1.instance) xs)
    + length (filter (λ x. is_other (kept m x.1.instance) x.1) xs) + length m ≤ length xs
images_fit {T} xs w =
    let s = map (λ (x : T × Parts). x.1) xs in
    let m = kept_of s w in
    let is = best_is_best versions_ordered (left_of s w) in
    let member : (v : Parts) → Member v m → Member v s × (is_free bytes_cmp w v.instance ≡ true) =
    λ v h. passes (λ v. is_free bytes_cmp w v.instance) v s
    (member_of v (left_of s w) ((is.each v).0 (contained v m h)).member) in
    let free : (v : Parts) → Member v m → is_among w v.instance ≡ false = λ v h. unless (is_among w v.instance) (member v h).1 in
    kinds_fit (λ x. is_among w x.1.instance) (λ x. is_other (kept m x.1.instance) x.1)
    (λ x other. apart m x free other) xs m is.rising (λ v h. (member v h).0)
    (λ x h. rw (free x.1 h, kept_is_no_other m x.1 is.rising h) refl)
  where
    unless : (t : Bool) → not t ≡ true → t ≡ false
    unless true e = cc
    unless false e = refl

    apart : (m : List Parts) (x : T × Parts) → ((v : Parts) → Member v m → is_among w v.instance ≡ false)
        → is_other (kept m x.1.instance) x.1 ≡ true → is_among w x.1.instance ≡ false
    apart m x free other = go (is_among w x.1.instance) refl
      where
        go : (t : Bool) → is_among w x.1.instance ≡ t → t ≡ false
        go true e = let no = rw (none_kept m w x.1.instance free e) at other in cc
        go false e = refl

-- ---- the sum of a merge

seconds : (images : List (ℕ × Listed))
    → map (λ (x : (ℕ × List ℕ) × Parts). x.1)
    (map (λ image. (place_pick (image.0, place_of image.1), version_of image.1)) images)
    ≡ versions_in images
seconds [] = refl
seconds (image ∷ images) = ap (λ (l : List Parts). version_of image.1 ∷ l) (seconds images)

passing_seconds : {T : Type 0} (p : Parts → Bool) (xs : List (T × Parts))
    → length (filter (λ x. p x.1) xs) ≡ length (filter p (map (λ x. x.1) xs))
passing_seconds p [] = refl
passing_seconds p (x ∷ xs) = let rest = passing_seconds p xs in go (p x.1) refl rest
  where
    go : (t : Bool) → p x.1 ≡ t → length (filter (λ y. p y.1) xs) ≡ length (filter p (map (λ y. y.1) xs))
        → length (filter (λ y. p y.1) (x ∷ xs)) ≡ length (filter p (map (λ y. y.1) (x ∷ xs)))
    go true e rest = rw e (ap (λ n. suc n) rest)
    go false e rest = rw e rest

sets_fit : (given : List (List ℕ)) (listings : List SetListing) (one left gone all : ℕ)
    → one ≡ length (held_in given listings).versions
    → left ≡ length (filter (λ x. is_other (kept (held_in given listings).versions x.1.instance) x.1) (filed_in listings))
    → gone ≡ count_among (given ++ withdrawn_in listings) (versions_in (numbered 0 listings))
    → all ≡ length (numbered 0 listings) → one + left + gone ≤ all
sets_fit given listings one left gone all kept_is left_is gone_is all_is =
    let xs = filed_in listings in
    let w = given ++ withdrawn_in listings in
    let fit = images_fit xs w in
    let same = seconds (numbered 0 listings) in
    let fits = subst (λ (s : List Parts). length (filter (λ x. is_among w x.1.instance) xs)
    + length (filter (λ x. is_other (kept (kept_of s w) x.1.instance) x.1) xs) + length (kept_of s w) ≤ length xs) same fit in
    let passing = passing_seconds (λ v. is_among w v.instance) xs
    ∙ ap (λ (s : List Parts). length (filter (λ v. is_among w v.instance) s)) same in
    let filed : ℕ × Listed → (ℕ × List ℕ) × Parts = λ image. (place_pick (image.0, place_of image.1), version_of image.1) in
    let count = length-map (numbered 0 listings) filed in
    omega (arith, kept_is, left_is, gone_is, all_is, fits, passing, count)

pub merge_adds_up : (choice : Choice) (limits : Limits) (given : List (List ℕ)) (listings : List SetListing)
    (noted : NotedMerge) (count : ℕ) (sum : SetSum) → NotesMerge choice limits given listings (Ok noted)
    → CountsImages noted count sum → ImagesAddUp sum
merge_adds_up choice limits given listings noted count sum notes counts =
    let m = (held_in given listings).versions in
    let others = filter (λ x. is_other (kept m x.1.instance) x.1) (filed_in listings) in
    let fit = sets_fit given listings sum.kept sum.left_out sum.withdrawn sum.images
    (counts.kept ∙ (ap (λ (l : Layout). length l.versions) notes.0.plan ∙ length-map m (agreed m)))
    (counts.left_out ∙ (sym (length-map noted.notes.left_out.items _) ∙ (ap (λ l. length l) notes.1 ∙ length-map others _)))
    (counts.withdrawn ∙ notes.3.all_withdrawn) (counts.images ∙ notes.3.images) in
    let repeated = counts.repeated in
    omega (arith, fit, repeated)
