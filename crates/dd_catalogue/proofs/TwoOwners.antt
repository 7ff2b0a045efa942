-- A table has each study or series that is filed under two owners; a version whose study and series are not in it
-- conflicts with none.
use Rattle.std.specs.Prelude.{◌≡◌, ◌<◌, ◌+◌, ◌++◌, ℕ, cond, take, length, get_or, Bool, true, false, not, ◌&&◌, ◌||◌, List}
use Rattle.std.specs.Prelude.{[], ◌∷◌, filter, find, Option, Some, None, is_some, unwrap_or}
use Rattle.std.proofs.Common.{refl, sym, ◌∙◌, ap, subst, inl, inr, append-nil}
use Rattle.std.proofs.lemmas.List.Elements.{filter_more}
use Rattle.std.specs.declared.cmp.Ordering.{Ordering}
use Rattle.std.proofs.lemmas.Map.Lookups.{exact_bytes}
use Rattle.std.proofs.lemmas.Option.{none-some}
use Rattle.dd_elem.specs.Ordered.{bytes_cmp}
use Rattle.dd_version.specs.declared.parts.Parts.{Parts}
use Rattle.dd_catalogue.specs.Best.{at, best}
use Rattle.dd_catalogue.specs.Rising.{Orders, by_test, is_eq_Equal, either}
use Rattle.dd_catalogue.proofs.Cases.{by_option}
use Rattle.dd_catalogue.specs.BestLaws.{best_at, at-best}
use Rattle.dd_catalogue.proofs.Members.{Member, member_of, contained}
use Rattle.dd_catalogue.proofs.BestMembers.{absorbed, one_itself}
use Rattle.dd_catalogue.specs.Conflicts.{same, splits, conflicts, pair_or, first_conflict}
use Rattle.dd_catalogue.specs.Carriers.{version_like}
use Rattle.dd_catalogue.specs.Owners.{HasThoseOfTwoOwners, is_of_another_owner, patient_id, series_uid, study_uid}
use Rattle.dd_catalogue.proofs.FirstAndRest.{first_and_rest, rest_of}
use Rattle.dd_elem.proofs.Sameness.{same_bytes}

same_true : (x y : List ℕ) → same x y ≡ true → x ≡ y
same_true x y e = exact_bytes x y (is_eq_Equal (bytes_cmp x y) e)

and_first : (x y : Bool) → (x && y) ≡ true → x ≡ true
and_first true y e = refl
and_first false y e = cc

and_second : (x y : Bool) → (x && y) ≡ true → y ≡ true
and_second true y e = e
and_second false y e = cc

or_first : (x y : Bool) → (x || y) ≡ false → x ≡ false
or_first true y e = cc
or_first false y e = refl

or_second : (x y : Bool) → (x || y) ≡ false → y ≡ false
or_second true y e = cc
or_second false y e = e

member-filter : {V : Type 0} (q : V → Bool) (x : V) (s : List V) → Member x s → q x ≡ true → Member x (filter q s)
member-filter q x [] i p = absurd i
member-filter q x (w ∷ s) (inl e) p = let here : q w ≡ true = ap q e ∙ p in rw here (inl e)
member-filter q x (w ∷ s) (inr i) p =
    by_test (q w) (λ h. rw h (inr (member-filter q x s i p))) (λ h. rw h (member-filter q x s i p))

-- a member's key is in the table
there : {uid : Parts → List ℕ} {order : Parts → Parts → Ordering} (o : Orders uid bytes_cmp order) (m : List Parts)
    (v : Parts) (k : List ℕ) → Member v m → uid v ≡ k
    → is_some (at uid bytes_cmp (best uid bytes_cmp order m) k) ≡ true
there {uid = uid} {order = order} o m v k i same =
    let all : either order (Some v) (best_at uid bytes_cmp order m k) ≡ best_at uid bytes_cmp order m k =
    ap (λ y. either order y (best_at uid bytes_cmp order m k)) (sym (one_itself uid o.keys_total k v same))
    ∙ absorbed o k v m i in
    ap is_some (at-best o m k) ∙ by_option (best_at uid bytes_cmp order m k)
    (λ e. let is = rw e at all in absurd (none-some v (sym is)))
    (λ y e. rw e refl)

some_unwrapped : {V : Type 0} (r : Option V) (x : V) → is_some r ≡ true → (d : V) → unwrap_or r d ≡ unwrap_or r x
some_unwrapped None x e d = cc
some_unwrapped (Some y) x e d = refl

two_owners_is : {uid : Parts → List ℕ} (owner : Parts → List ℕ) {order : Parts → Parts → Ordering}
    (o : Orders uid bytes_cmp order) (m : List Parts) → HasThoseOfTwoOwners uid owner m
    (best uid bytes_cmp order (filter (is_of_another_owner uid owner (best uid bytes_cmp order m)) m))
two_owners_is {uid = uid} owner {order = order} o m a b ca cb split =
    let table = best uid bytes_cmp order m in
    let same_uid : uid a ≡ uid b =
    same_true (uid a) (uid b) (and_first (same (uid a) (uid b)) (not (same (owner a) (owner b))) split) in
    let apart : not (same (owner a) (owner b)) ≡ true =
    and_second (same (uid a) (uid b)) (not (same (owner a) (owner b))) split in
    let top = version_like uid table a in
    let top-b : version_like uid table b ≡ top =
    ap (λ k. unwrap_or (at uid bytes_cmp table k) b) (sym same_uid)
    ∙ some_unwrapped (at uid bytes_cmp table (uid a)) a (there o m a (uid a) (member_of a m ca) refl) b in
    by_test (same (owner top) (owner a))
    (λ e. let is : owner top ≡ owner a = same_true (owner top) (owner a) e in
    let others : is_of_another_owner uid owner table b ≡ true =
    ap not (sym (same_bytes (owner (version_like uid table b)) (owner b)))
    ∙ ap (λ (t : Parts). not (same (owner t) (owner b))) top-b
    ∙ ap (λ (w : List ℕ). not (same w (owner b))) is ∙ apart in
    there o (filter (is_of_another_owner uid owner table) m) b (uid a)
    (member-filter (is_of_another_owner uid owner table) b m (member_of b m cb) others) (sym same_uid))
    (λ e. let others : is_of_another_owner uid owner table a ≡ true =
    ap not (sym (same_bytes (owner top) (owner a)) ∙ e) in
    there o (filter (is_of_another_owner uid owner table) m) a (uid a)
    (member-filter (is_of_another_owner uid owner table) a m (member_of a m ca) others) refl)

pub two_owners_from : {uid : Parts → List ℕ} (owner : Parts → List ℕ) {order : Parts → Parts → Ordering}
    (o : Orders uid bytes_cmp order) (m table others owned : List Parts) → table ≡ best uid bytes_cmp order m
    → others ≡ filter (is_of_another_owner uid owner table) m → owned ≡ best uid bytes_cmp order others
    → HasThoseOfTwoOwners uid owner m owned
two_owners_from {uid = uid} owner {order = order} o m table others owned t a r =
    let owned-is : owned ≡ best uid bytes_cmp order
    (filter (is_of_another_owner uid owner (best uid bytes_cmp order m)) m) =
    r ∙ ap (λ x. best uid bytes_cmp order x) (a ∙ ap (λ x. filter (is_of_another_owner uid owner x) m) t) in
    subst (λ x. HasThoseOfTwoOwners uid owner m x) (sym owned-is) (two_owners_is owner o m)

-- ---- a version whose study and series have one owner each conflicts with none

find_none : {V : Type 0} (q : V → Bool) (m : List V) → ((w : V) → Member w m → q w ≡ false) → find q m ≡ None
find_none q [] h = refl
find_none q (w ∷ m) h = rw (h w (inl refl)) (find_none q m (λ u i. h u (inr i)))

quiet : (m studies series : List Parts) (v w : Parts) → HasThoseOfTwoOwners study_uid patient_id m studies
    → HasThoseOfTwoOwners series_uid study_uid m series
    → Member v m → Member w m → (is_some (at study_uid bytes_cmp studies v.study.uid)
    || is_some (at series_uid bytes_cmp series v.series.uid)) ≡ false
    → conflicts v w ≡ false
quiet m studies series v w two two' i j none =
    by_test (splits study_uid patient_id v w)
    (λ e. let found = two v w (contained v m i) (contained w m j) e in
    let not_found = or_first (is_some (at study_uid bytes_cmp studies v.study.uid))
    (is_some (at series_uid bytes_cmp series v.series.uid)) none in
    cc (found, not_found))
    (λ e. by_test (splits series_uid study_uid v w)
    (λ f. let found = two' v w (contained v m i) (contained w m j) f in
    let not_found = or_second (is_some (at study_uid bytes_cmp studies v.study.uid))
    (is_some (at series_uid bytes_cmp series v.series.uid)) none in
    cc (found, not_found))
    (λ f. ap (λ (x : Bool). x || splits series_uid study_uid v w) e ∙ f))

pub conflict_quiet : (m rest studies series : List Parts) (v : Parts)
    → HasThoseOfTwoOwners study_uid patient_id m studies → HasThoseOfTwoOwners series_uid study_uid m series
    → ((w : Parts) → Member w (v ∷ rest) → Member w m)
    → (is_some (at study_uid bytes_cmp studies v.study.uid) || is_some (at series_uid bytes_cmp series v.series.uid))
    ≡ false
    → first_conflict (v ∷ rest) ≡ first_conflict rest
conflict_quiet m rest studies series v two two' within none =
    ap (λ f. pair_or v f (first_conflict rest)) (find_none (conflicts v) rest
    (λ w j. quiet m studies series v w two two' (within v (inl refl)) (within w (inr j)) none))

pub conflict_alone : (v : Parts) (rest : List Parts) → pair_or v (find (conflicts v) rest) None ≡ None
    → first_conflict (v ∷ rest) ≡ first_conflict rest
conflict_alone v rest e =
    by_option (find (conflicts v) rest) (λ f. rw f refl) (λ w f. let is = rw f at e in absurd (none-some _ (sym is)))

-- ---- the versions that are left, and all but the first of them

pub later_within : (all m : List Parts) (x : Parts) → 0 < length m → x ≡ get_or m 0 x
    → ((v : Parts) → Member v m → Member v all)
    → (v : Parts) → Member v (rest_of m) → Member v all
later_within all m x below read within v i =
    within v (subst (λ n. Member v n) (sym (first_and_rest m x below read)) (inr i))

pub later_alone : (all m : List Parts) (x : Parts) → 0 < length m → x ≡ get_or m 0 x → first_conflict m ≡ first_conflict all
    → pair_or x (find (conflicts x) (rest_of m)) None ≡ None → first_conflict (rest_of m) ≡ first_conflict all
later_alone all m x below read so none =
    sym (conflict_alone x (rest_of m) none) ∙ ap first_conflict (sym (first_and_rest m x below read)) ∙ so

pub later_quiet : (all m : List Parts) (x : Parts) (studies series : List Parts) → 0 < length m → x ≡ get_or m 0 x
    → first_conflict m ≡ first_conflict all
    → ((v : Parts) → Member v m → Member v all) → HasThoseOfTwoOwners study_uid patient_id all studies
    → HasThoseOfTwoOwners series_uid study_uid all series
    → (is_some (at study_uid bytes_cmp studies x.study.uid) || is_some (at series_uid bytes_cmp series x.series.uid))
    ≡ false
    → first_conflict (rest_of m) ≡ first_conflict all
later_quiet all m x studies series below read so within two two' none =
    let cons = first_and_rest m x below read in
    sym (conflict_quiet all (rest_of m) studies series x two two'
    (λ w i. within w (subst (λ n. Member w n) (sym cons) i)) none) ∙ ap first_conflict (sym cons) ∙ so

-- ---- one step of a search through a list: what was found before, and this element where it passes the test

found_more : {V : Type 0} (test : V → Bool) (m : List V) (i : ℕ) (x : V) → i < length m → x ≡ get_or m i x
    → filter test (take (i + 1) m) ≡ filter test (take i m) ++ cond (test x) (x ∷ []) []
found_more test m i x below read =
    filter_more test m i x below ∙ ap (λ y. filter test (take i m) ++ cond (test y) (y ∷ []) []) (sym read)

pub found_this : {V : Type 0} (test : V → Bool) (m : List V) (i : ℕ) (x : V) (s t : List V) → i < length m
    → x ≡ get_or m i x → test x ≡ true → s ≡ filter test (take i m) → t ≡ s ++ x ∷ []
    → t ≡ filter test (take (i + 1) m)
found_this test m i x s t below read e before after =
    after ∙ ap (λ y. y ++ x ∷ []) before
    ∙ sym (found_more test m i x below read ∙ ap (λ b. filter test (take i m) ++ cond b (x ∷ []) []) e)

pub found_other : {V : Type 0} (test : V → Bool) (m : List V) (i : ℕ) (x : V) (s : List V) → i < length m
    → x ≡ get_or m i x → test x ≡ false → s ≡ filter test (take i m) → s ≡ filter test (take (i + 1) m)
found_other test m i x s below read e before =
    before ∙ sym (append-nil (filter test (take i m)))
    ∙ sym (found_more test m i x below read ∙ ap (λ b. filter test (take i m) ++ cond b (x ∷ []) []) e)
