-- Merges of the same sets, in whatever order and however often one comes, have one plan.
use Rattle.std.specs.Prelude.{◌≡◌, ◌⊎◌, ◌↔◌, ◌++◌, ℕ, List, [], ◌∷◌, Contains, map, None, Some, Result, Ok, Err}
use Rattle.std.proofs.Common.{refl, sym, ◌∙◌, ap, ap₂, subst, inl, inr}
use Rattle.dd_catalogue.specs.Best.{SameMembers}
use Rattle.dd_catalogue.specs.CatalogueJoin.{same_contents, uids_ordered}
use Rattle.dd_catalogue.specs.Contents.{Contents}
use Rattle.dd_catalogue.specs.Histories.{together}
use Rattle.dd_catalogue.specs.Versions.{versions_ordered}
use Rattle.dd_catalogue.proofs.BestMembers.{best_of_same}
use Rattle.dd_catalogue.proofs.FreeMembers.{kept_of_same}
use Rattle.dd_catalogue.proofs.Members.{Member, contained, member_of}
use Rattle.dd_dir.specs.declared.own_fault.OwnFault.{OwnFault}
use Rattle.dd_dir.specs.Directories.{directory_of}
use Rattle.dd_dir.specs.Own.{Listed, own}
use Rattle.dd_dir.specs.OwnVersions.{version_of}
use Rattle.dd_walk.specs.WithdrawnPieces.{withdrawn_of}
use Rattle.dd_walk.proofs.WalkFiles.{one_walk}
use Rattle.dd_version.specs.declared.parts.Parts.{Parts}
use Rattle.dd_layout.specs.declared.fault.PlanFault.{PlanFault}
use Rattle.dd_layout.specs.Limits.{Limits}
use Rattle.dd_layout.specs.Layouts.{Layout, layout_of}
use Rattle.dd_engine.specs.declared.choice.Choice.{Choice}
use Rattle.dd_engine.specs.declared.merge.Merged.{Merged}
use Rattle.dd_engine.specs.declared.merge_fault.MergeFault.{MergeFault}
use Rattle.dd_engine.specs.declared.merge_fault.MergeFault.TheVariants.{Dir, Own, Plan, Memory}
use Rattle.dd_engine.specs.Choosing.{label_for, refusal_for}
use Rattle.dd_engine.specs.Merging.{AreOwn, IsOwn, Merges, SetListing, held_in, numbered, versions_in, withdrawn_in}
use Rattle.dd_engine.specs.SameSets.{MergesAgree}
use Rattle.dd_engine.specs.SameVersions.{AreSamePlans}
use Rattle.dd_engine.proofs.MergedMaps.{numbered_together, versions_by_set}

-- ---- a set lists one thing

same_images : (all : Result (List Listed) OwnFault) (images others : List Listed) → all ≡ Ok images → all ≡ Ok others
    → images ≡ others
same_images all images others a b = cc

module _ (set : List ℕ) (one other : SetListing) (first : IsOwn set one) (second : IsOwn set other) where
  images_are : one.images ≡ other.images
  images_are = same_images (own first.walk) one.images other.images first.lists
      (ap own (sym (one_walk set first.walk second.walk first.is_walk second.is_walk)) ∙ second.lists)

  withdrawn_are : one.withdrawn ≡ other.withdrawn
  withdrawn_are =
      sym first.names
      ∙ ap withdrawn_of (sym (one_walk set first.walk second.walk first.is_walk second.is_walk)) ∙ second.names

-- ---- what the sets list, as members

in_front : {V : Type 0} (v : V) (xs ys : List V) → Member v xs → Member v (xs ++ ys)
in_front v [] ys held = absurd held
in_front v (x ∷ xs) ys (inl e) = inl e
in_front v (x ∷ xs) ys (inr later) = inr (in_front v xs ys later)

at_end : {V : Type 0} (v : V) (xs ys : List V) → Member v ys → Member v (xs ++ ys)
at_end v [] ys held = held
at_end v (x ∷ xs) ys held = inr (at_end v xs ys held)

in_either : {V : Type 0} (v : V) (xs ys : List V) → Member v (xs ++ ys) → Member v xs ⊎ Member v ys
in_either v [] ys held = inr held
in_either v (x ∷ xs) ys (inl e) = inl (inl e)
in_either v (x ∷ xs) ys (inr later) = by (in_either v xs ys later) where
  by : Member v xs ⊎ Member v ys → Member v (x ∷ xs) ⊎ Member v ys
  by (inl front) = inl (inr front)
  by (inr back) = inr back

-- something that a listing gives is what one of the sets lists, and what a set lists is among what all give
module _ {V : Type 0} (given : SetListing → List V)
    (one_given : (set : List ℕ) (one other : SetListing) → IsOwn set one → IsOwn set other
    → given one ≡ given other) where
  abbrev all_given : List SetListing → List V
  all_given listings = together (map given listings)

  -- of which set it is
  record IsOf (sets : List (List ℕ)) (v : V) : Type 0 where
    set : List ℕ
    among : Member set sets
    listing : SetListing
    lists : IsOwn set listing
    held : Member v (given listing)

  set_of_given : (sets : List (List ℕ)) (listings : List SetListing) (v : V) → AreOwn sets listings
      → Member v (all_given listings) → IsOf sets v
  set_of_given [] [] v all held = absurd held
  set_of_given [] (first ∷ listings) v all held = absurd all
  set_of_given (set ∷ sets) [] v all held = absurd all
  set_of_given (set ∷ sets) (first ∷ listings) v all held =
      by (λ later. set_of_given sets listings v all.1 later)
      (in_either v (given first) (all_given listings) held)
    where
      by : (Member v (all_given listings) → IsOf sets v) → Member v (given first) ⊎ Member v (all_given listings)
          → IsOf (set ∷ sets) v
      by rest (inl here) =
          record { set = set; among = inl refl; listing = first; lists = all.0; held = here }
      by rest (inr later) = let of = rest later in
          record { set = of.set; among = inr of.among; listing = of.listing; lists = of.lists; held = of.held }

  given_of_set : (sets : List (List ℕ)) (listings : List SetListing) (v : V) (set : List ℕ) (listing : SetListing)
      → AreOwn sets listings → Member set sets → IsOwn set listing → Member v (given listing)
      → Member v (all_given listings)
  given_of_set [] listings v set listing all among lists held = absurd among
  given_of_set (first ∷ sets) [] v set listing all among lists held = absurd all
  given_of_set (first ∷ sets) (listed ∷ listings) v set listing all (inl is) lists held =
      in_front v (given listed) (all_given listings)
      (subst (λ (l : List V). Member v l)
      (one_given set listing listed lists (subst (λ s. IsOwn s listed) is all.0)) held)
  given_of_set (first ∷ sets) (listed ∷ listings) v set listing all (inr later) lists held =
      at_end v (given listed) (all_given listings)
      (given_of_set sets listings v set listing all.1 later lists held)

  one_way : (sets others : List (List ℕ)) (listings more : List SetListing) → AreOwn sets listings
      → AreOwn others more → ((set : List ℕ) → Contains sets set → Contains others set) → (v : V)
      → Contains (all_given listings) v → Contains (all_given more) v
  one_way sets others listings more own too same v held =
      let of = set_of_given sets listings v own (member_of v (all_given listings) held) in
      contained v (all_given more) (given_of_set others more v of.set of.listing too
      (member_of of.set others (same of.set (contained of.set sets of.among))) of.lists of.held)

  same_given : (sets others : List (List ℕ)) (listings more : List SetListing) → AreOwn sets listings
      → AreOwn others more → ((set : List ℕ) → Contains sets set ↔ Contains others set)
      → SameMembers (all_given listings) (all_given more)
  same_given sets others listings more own too same v = (
    one_way sets others listings more own too (λ set. (same set).0) v,
    one_way others sets more listings too own (λ set. (same set).1) v,
  )

-- ---- what is held of them

one_versions : (set : List ℕ) (one other : SetListing) → IsOwn set one → IsOwn set other
    → map version_of one.images ≡ map version_of other.images
one_versions set one other first second = ap (map version_of) (images_are set one other first second)

module _ (sets others : List (List ℕ)) (listings more : List SetListing) (own : AreOwn sets listings)
    (too : AreOwn others more) (same : (set : List ℕ) → Contains sets set ↔ Contains others set) where
  same_versions : SameMembers (versions_in (numbered 0 listings)) (versions_in (numbered 0 more))
  same_versions =
      subst (λ (l : List Parts). SameMembers l (versions_in (numbered 0 more))) (sym (numbered_together 0 listings))
      (subst (λ (l : List Parts). SameMembers (together (versions_by_set listings)) l) (sym (numbered_together 0 more))
      (same_given (λ listing. map version_of listing.images) one_versions sets others listings more own too same))

  same_withdrawn : SameMembers (withdrawn_in listings) (withdrawn_in more)
  same_withdrawn = same_given (λ listing. listing.withdrawn) withdrawn_are sets others listings more own too same

  one_held : held_in [] listings ≡ held_in [] more
  one_held = same_contents (held_in [] listings) (held_in [] more)
      (kept_of_same versions_ordered uids_ordered (versions_in (numbered 0 listings)) (versions_in (numbered 0 more))
      (withdrawn_in listings) (withdrawn_in more) same_versions same_withdrawn)
      (best_of_same uids_ordered (withdrawn_in listings) (withdrawn_in more) same_withdrawn)

-- ---- the answers

same_layouts : (one other : Layout) → one ≡ other → AreSamePlans one other
same_layouts one other is = record {
  plan = is;
  directory = ap (λ (l : Layout). directory_of l.label l.versions l.withdrawn) is;
}

module _ (choice : Choice) (limits : Limits) where
  abbrev laid : Contents → Layout
  laid h = layout_of (label_for choice h.versions h.withdrawn) h.versions h.withdrawn

  refused : (h k : Contents) (fault : PlanFault) → h ≡ k → refusal_for choice limits h.versions h.withdrawn ≡ None
      → refusal_for choice limits k.versions k.withdrawn ≡ Some fault → ⊥
  refused h k fault is none some =
      let both : None ≡ Some fault =
      sym none ∙ ap (λ (c : Contents). refusal_for choice limits c.versions c.withdrawn) is ∙ some in cc

  one_fault : (h k : Contents) (fault other : PlanFault) → h ≡ k
      → refusal_for choice limits h.versions h.withdrawn ≡ Some fault
      → refusal_for choice limits k.versions k.withdrawn ≡ Some other → fault ≡ other
  one_fault h k fault other is first second =
      let both : Some fault ≡ Some other =
      sym first ∙ ap (λ (c : Contents). refusal_for choice limits c.versions c.withdrawn) is ∙ second in cc

  pub sets_agree : (sets others : List (List ℕ)) (first second : Result Merged MergeFault)
      → Merges choice limits [] sets first → Merges choice limits [] others second
      → ((set : List ℕ) → Contains sets set ↔ Contains others set) → MergesAgree first second
  sets_agree sets others (Ok one) (Ok other) a b same =
      let is = one_held sets others a.0 b.0 a.1 b.1 same in
      same_layouts one.plan other.plan
      (a.2.plan ∙ ap (λ (h : Contents). laid h) is ∙ sym b.2.plan)
  sets_agree sets others (Ok one) (Err (Plan fault)) a b same =
      refused (held_in [] a.0) (held_in [] b.0) fault (one_held sets others a.0 b.0 a.1 b.1 same) a.2.allowed b.2
  sets_agree sets others (Err (Plan fault)) (Ok other) a b same =
      refused (held_in [] b.0) (held_in [] a.0) fault (sym (one_held sets others a.0 b.0 a.1 b.1 same)) b.2.allowed a.2
  sets_agree sets others (Err (Plan fault)) (Err (Plan other)) a b same =
      one_fault (held_in [] a.0) (held_in [] b.0) fault other (one_held sets others a.0 b.0 a.1 b.1 same) a.2 b.2
  sets_agree sets others (Ok one) (Err (Dir at fault)) a b same = tt
  sets_agree sets others (Ok one) (Err (Own at fault)) a b same = tt
  sets_agree sets others (Ok one) (Err Memory) a b same = tt
  sets_agree sets others (Err (Plan fault)) (Err (Dir at other)) a b same = tt
  sets_agree sets others (Err (Plan fault)) (Err (Own at other)) a b same = tt
  sets_agree sets others (Err (Plan fault)) (Err Memory) a b same = tt
  sets_agree sets others (Err (Dir at fault)) second a b same = tt
  sets_agree sets others (Err (Own at fault)) second a b same = tt
  sets_agree sets others (Err Memory) second a b same = tt
