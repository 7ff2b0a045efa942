-- UIDs of a list that are not among known ones: what one more adds, by the first mention of its UID.
use Rattle.std.specs.Prelude.{◌≡◌, ◌≢◌, ◌||◌, ◌<◌, ◌≤◌, ◌+◌, Bool, true, false, ℕ, zero, suc, List, [], ◌∷◌, ◌++◌}
use Rattle.std.specs.Prelude.{length, map, take, drop, get_or, Option, None, Some, if◌then◌else◌}
use Rattle.std.specs.List.{enumerate_from}
use Rattle.std.specs.Option.{option_eq}
use Rattle.std.specs.Ordering.{is_eq}
use Rattle.std.proofs.Common.{refl, sym, ◌∙◌, ap, ap₂, subst, arith, true≢false}
use Rattle.std.proofs.Math.Dec.{eqb}
use Rattle.std.proofs.lemmas.Bool.{eq-eqb, eqb-true}
use Rattle.std.proofs.lemmas.Cmp.{nat_list_cmp_total, tied_itself}
use Rattle.std.proofs.lemmas.List.{append-nil, length-append, length-take-le, map-append, take_more}
use Rattle.std.proofs.lemmas.Map.Lookups.{exact_bytes}
use Rattle.std.proofs.lemmas.Option.{none-some, same_Some}
use Rattle.std.proofs.Math.Seq.{drop-append_seam}
use Rattle.dd_catalogue.specs.Conflicts.{same}
use Rattle.dd_catalogue.specs.Rising.{by_test, is_eq_Equal}
use Rattle.dd_dir.specs.OwnVersions.{version_of}
use Rattle.dd_elem.specs.Ordered.{bytes_cmp}
use Rattle.dd_version.specs.declared.parts.Parts.{Parts}
use Rattle.dd_engine.specs.declared.gathering.Gathered.{Gathered}
use Rattle.dd_engine.specs.Mentions.{first_number, in_places}
use Rattle.dd_engine.specs.Merging.{SetListing, numbered, withdrawn_in}
use Rattle.dd_engine.specs.MergeSteps.{GathersOf, Withdrawal, known_in}
use Rattle.dd_engine.specs.SetNotes.{instances_in, is_among, new_to, unlisted_in}
use Rattle.dd_engine.proofs.ImagePicks.{twice}
use Rattle.dd_engine.proofs.SetsGathered.{uids_withdrawn}
use Rattle.dd_engine.proofs.UnreachedSets.{places_more}
use Rattle.dd_engine.proofs.WithdrawnImages.{in_row}

itself : (x : List ℕ) → same x x ≡ true
itself x = ap is_eq (tied_itself nat_list_cmp_total x)

same_is : (x y : List ℕ) → same x y ≡ true → x ≡ y
same_is x y e = exact_bytes x y (is_eq_Equal (bytes_cmp x y) e)

-- ---- one UID more

-- the UID is known, or stands in the list before
abbrev pub is_old : List (List ℕ) → List (List ℕ) → List ℕ → Bool
is_old known before uid = is_among known uid || is_among before uid

-- where x is known, whether it stands before changes nothing
known_too : (known xs : List (List ℕ)) (x uid : List ℕ) → is_among known x ≡ true
    → is_old known xs uid ≡ is_old known (x ∷ xs) uid
known_too known xs x uid e = by_test (same x uid)
    (λ s. let all : is_among known uid ≡ true = subst (λ u. is_among known u ≡ true) (same_is x uid s) e in
    rw all refl)
    (λ s. rw s refl)

turned : (a b c : Bool) → ((a || b) || c) ≡ (b || (a || c))
turned true true c = refl
turned true false c = refl
turned false b c = refl

new_after : (known xs : List (List ℕ)) (uid : List ℕ)
    → new_to known (xs ++ uid ∷ []) ≡ new_to known xs ++ (if is_old known xs uid then [] else uid ∷ [])
new_after known [] uid = by_test (is_among known uid)
    (λ e. rw e refl)
    (λ e. rw e refl)
new_after known (x ∷ xs) uid = by_test (is_among known x)
    (λ e. rw e (new_after known xs uid
    ∙ ap (λ (b : Bool). new_to known xs ++ (if b then [] else uid ∷ [])) (known_too known xs x uid e)))
    (λ e. rw e (ap (λ l. x ∷ l) (new_after (x ∷ known) xs uid
    ∙ ap (λ (b : Bool). new_to (x ∷ known) xs ++ (if b then [] else uid ∷ []))
    (turned (same x uid) (is_among known uid) (is_among xs uid)))))

module _ (known given : List (List ℕ)) (i : ℕ) (uid : List ℕ) where
  step : i < length given → get_or given i [] ≡ uid
      → new_to known (take (i + 1) given)
      ≡ new_to known (take i given) ++ (if is_old known (take i given) uid then [] else uid ∷ [])
  step below is =
      ap (new_to known) (take_more given i [] below ∙ ap (λ u. take i given ++ u ∷ []) is)
      ∙ new_after known (take i given) uid

  pub old_more : i < length given → get_or given i [] ≡ uid → is_old known (take i given) uid ≡ true
      → new_to known (take i given) ≡ new_to known (take (i + 1) given)
  old_more below is old = sym (step below is
      ∙ ap (λ (b : Bool). new_to known (take i given) ++ (if b then [] else uid ∷ [])) old
      ∙ append-nil (new_to known (take i given)))

  pub new_more : i < length given → get_or given i [] ≡ uid → is_old known (take i given) uid ≡ false
      → new_to known (take i given) ++ uid ∷ [] ≡ new_to known (take (i + 1) given)
  new_more below is new = sym (step below is
      ∙ ap (λ (b : Bool). new_to known (take i given) ++ (if b then [] else uid ∷ [])) new)

-- ---- its first mention

abbrev places_from : ℕ → List (List ℕ) → List Withdrawal
places_from n uids = map (λ uid. (Some uid.0, uid.1)) (enumerate_from n uids)

-- of a list with the UID at i: the first mention has the place i, or a lower one where the UID stands before
first_place : (n : ℕ) (given : List (List ℕ)) (i : ℕ) (uid : List ℕ) → i < length given → get_or given i [] ≡ uid
    → is_among (take i given) uid ≡ false → first_number (places_from n given) uid ≡ Some (n + i)
first_place n [] i uid below is new = absurd (omega arith)
first_place n (x ∷ given) zero uid below is new =
    let here : same x uid ≡ true = ap (λ u. same u uid) is ∙ itself uid in
    let at : n ≡ n + 0 = omega arith in
    rw here (ap (λ (k : ℕ). Some k) at)
first_place n (x ∷ given) (suc i) uid below is new = by_test (same x uid)
    (λ e. absurd (true≢false (rw e at new)))
    (λ e. let at : (n + 1) + i ≡ n + suc i = omega arith in
    rw e (first_place (n + 1) given i uid (omega arith) is (rw e at new) ∙ ap (λ (k : ℕ). Some k) at))

lower_place : (n : ℕ) (given : List (List ℕ)) (i : ℕ) (uid : List ℕ) → is_among (take i given) uid ≡ true
    → (k : ℕ) × (k < n + i) × (first_number (places_from n given) uid ≡ Some k)
lower_place n [] zero uid old = absurd (cc old)
lower_place n [] (suc i) uid old = absurd (cc old)
lower_place n (x ∷ given) zero uid old = absurd (cc old)
lower_place n (x ∷ given) (suc i) uid old = by_test (same x uid)
    (λ e. (n, omega arith, rw e refl))
    (λ e. let rest = lower_place (n + 1) given i uid (rw e at old) in
    (rest.0, omega (arith, rest.1), rw e rest.2))

module _ (known given : List (List ℕ)) (i : ℕ) (uid : List ℕ) (number : Option ℕ) where
  found_new : i < length given → get_or given i [] ≡ uid → is_old known (take i given) uid ≡ false
      → first_number (map (λ one. (None, one)) known ++ in_places given) uid ≡ Some i
  found_new below is new = by_test (is_among known uid)
      (λ e. absurd (true≢false (sym (rw e refl) ∙ new)))
      (λ e. let at : 0 + i ≡ i = omega arith in
      in_row None known (in_places given) uid
      ∙ rw e (first_place 0 given i uid below is (rw e at new) ∙ ap (λ (k : ℕ). Some k) at))

  not_found : is_old known (take i given) uid ≡ true
      → first_number (map (λ one. (None, one)) known ++ in_places given) uid ≢ Some i
  not_found old found = by_test (is_among known uid)
      (λ e. none-some i (sym (in_row None known (in_places given) uid ∙ rw e refl) ∙ found))
      (λ e. let lower = lower_place 0 given i uid (rw e at old) in
      let one : lower.0 ≡ i =
      same_Some lower.0 i (sym (in_row None known (in_places given) uid ∙ rw e lower.2) ∙ found) in
      omega (arith, lower.1, one))

  -- the first mention of a new UID has its place, and another's has not
  pub is_new : number ≡ first_number (map (λ one. (None, one)) known ++ in_places given) uid → number ≡ Some i
      → is_old known (take i given) uid ≡ false
  is_new first is = by_test (is_old known (take i given) uid)
      (λ e. absurd (not_found e (sym first ∙ is)))
      (λ e. e)

  pub is_known : i < length given → get_or given i [] ≡ uid
      → number ≡ first_number (map (λ one. (None, one)) known ++ in_places given) uid → number ≢ Some i
      → is_old known (take i given) uid ≡ true
  is_known below is first other = by_test (is_old known (take i given) uid)
      (λ e. e)
      (λ e. absurd (other (first ∙ found_new below is e)))

-- what the test of a place says
pub is_place : (number : Option ℕ) (i : ℕ) → option_eq eqb number (Some i) ≡ true → number ≡ Some i
is_place None i e = absurd (cc e)
is_place (Some k) i e = ap (λ (n : ℕ). Some n) (eqb-true k i e)

pub is_no_place : (number : Option ℕ) (i : ℕ) → option_eq eqb number (Some i) ≡ false → number ≢ Some i
is_no_place None i e is = none-some i is
is_no_place (Some k) i e is = true≢false (sym (eq-eqb k i (same_Some k i is)) ∙ e)

-- ---- mentions, in a row

-- of what is known
pub all_known : (versions : List Parts) (uids : List (List ℕ))
    → map (λ version. (None, version.instance)) versions ++ map (λ uid. (None, uid)) uids
    ≡ map {B = Withdrawal} (λ uid. (None, uid)) (map (λ version. version.instance) versions ++ uids)
all_known [] uids = refl
all_known (version ∷ versions) uids =
    ap (λ (l : List Withdrawal). (None, version.instance) ∷ l) (all_known versions uids)

-- of one given UID more
pub given_more : (given : List (List ℕ)) (i : ℕ) (uid : List ℕ) → i < length given → uid ≡ get_or given i uid
    → map {B = Withdrawal} (λ uid. (Some uid.0, uid.1)) (enumerate_from 0 (take i given)) ++ (Some i, uid) ∷ []
    ≡ map (λ uid. (Some uid.0, uid.1)) (enumerate_from 0 (take (i + 1) given))
given_more given i uid below is =
    let all = length-take-le i given (omega arith) in
    let many : 0 + length (take i given) ≡ i = omega (arith, all) in
    let mention : ℕ × List ℕ → Withdrawal = λ uid. (Some uid.0, uid.1) in
    sym (ap (λ l. map mention (enumerate_from 0 l))
    (take_more given i uid below ∙ ap (λ u. take i given ++ u ∷ []) (sym is))
    ∙ ap (map mention) (places_more 0 (take i given) uid
    ∙ ap (λ (k : ℕ). enumerate_from 0 (take i given) ++ (k, uid) ∷ []) many)
    ∙ map-append mention (enumerate_from 0 (take i given)) ((i, uid) ∷ []))

-- ---- what was gathered

pub enough : (given : List (List ℕ)) (listings : List SetListing) (gathered : Gathered)
    → GathersOf given listings gathered → length given ≤ length gathered.withdrawn.items
enough given listings gathered held =
    let many = ap length (held.withdrawn ∙ uids_withdrawn given listings) in
    omega (arith, many, length-append given (withdrawn_in listings))

known_is : (given : List (List ℕ)) (listings : List SetListing) (gathered : Gathered)
    → GathersOf given listings gathered → known_in gathered given ≡ instances_in listings ++ withdrawn_in listings
known_is given listings gathered held =
    ap₂ (λ (a b : List (List ℕ)). a ++ b)
    (ap (map (λ (version : Parts). version.instance)) held.versions
    ∙ twice (λ (version : Parts). version.instance) (λ image. version_of image.1) (numbered 0 listings))
    (ap (drop (length given)) (held.withdrawn ∙ uids_withdrawn given listings)
    ∙ drop-append_seam given (withdrawn_in listings))

pub are_unlisted : (given : List (List ℕ)) (listings : List SetListing) (gathered : Gathered)
    (uids : List (List ℕ)) → GathersOf given listings gathered → uids ≡ new_to (known_in gathered given) given
    → uids ≡ unlisted_in given listings
are_unlisted given listings gathered uids held is =
    is ∙ ap (λ known. new_to known given) (known_is given listings gathered held)
