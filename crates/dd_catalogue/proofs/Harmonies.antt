-- The greatest tuple with a key is what a table of the tuples has at that key.
use Rattle.std.specs.Prelude.{◌≡◌, ◌<◌, ◌+◌, ℕ, List, [], ◌∷◌, ◌++◌, map, filter, length, get_or, take, Option}
use Rattle.std.specs.Prelude.{Some, None, option_map, unwrap_or}
use Rattle.std.specs.List.{fold}
use Rattle.std.specs.Ordering.{is_eq, ordering_then}
use Rattle.std.specs.declared.cmp.Ordering.{Ordering}
use Rattle.std.specs.declared.cmp.Ordering.TheVariants.{Less, Greater}
use Rattle.std.proofs.Common.{refl, sym, ◌∙◌, ap, subst, inl, inr}
use Rattle.std.proofs.lemmas.Option.{none-some, same_Some}
use Rattle.std.proofs.lemmas.List.Elements.{Contains-get_or}
use Rattle.std.proofs.lemmas.List.{take_more, map-append}
use Rattle.dd_elem.specs.Ordered.{TellsApart, bytes_cmp}
use Rattle.dd_version.specs.Copies.{with_keys_of}
use Rattle.dd_version.specs.Orders.{parts_cmp, patient_cmp, patient_total, patient_apart, study_cmp, study_total, study_apart}
use Rattle.dd_version.specs.Orders.{series_cmp, series_total, series_apart}
use Rattle.dd_version.specs.declared.parts.Parts.{Parts}
use Rattle.dd_catalogue.specs.Best.{IsAbove, at, best, greater}
use Rattle.dd_catalogue.specs.Carriers.{carrier_apart, carrier_cmp, carrier_total, version_like}
use Rattle.dd_catalogue.specs.Owners.{patient_id, series_uid, study_uid}
use Rattle.dd_catalogue.specs.Rising.{Orders, by_order, by_test, either, either_assoc, greater_equal, greater_greater}
use Rattle.dd_catalogue.specs.Rising.{greater_less, one}
use Rattle.dd_catalogue.specs.BestLaws.{best_at, at-best}
use Rattle.dd_catalogue.proofs.Members.{Member, member_of}
use Rattle.dd_catalogue.proofs.BestMembers.{absorbed, one_itself}
use Rattle.dd_catalogue.specs.Harmony.{greatest_like, patient_of, patient_key, study_of, study_key, series_of}
use Rattle.dd_catalogue.specs.Harmony.{series_key, agreed, harmonised}
use Rattle.dd_catalogue.specs.Versions.{instance_of, IsCatalogue}
use Rattle.dd_catalogue.proofs.Places.{by_key}

-- ---- the greatest of some tuples and those that have a key

either_fold : {V T : Type 0} (tuple : V → T) {key : T → List ℕ} {order : T → T → Ordering}
    (o : Orders key bytes_cmp order) (k : List ℕ) (m : List V) (x : T)
    → either order (Some x) (best_at key bytes_cmp order (map tuple m) k)
    ≡ Some (fold (greater order) x (map tuple (filter (λ w. is_eq (bytes_cmp (key (tuple w)) k)) m)))
either_fold tuple o k [] x = refl
either_fold tuple {key = key} {order = order} o k (w ∷ m) x = by_test (is_eq (bytes_cmp (key (tuple w)) k))
    (λ e. rw e (sym (either_assoc o.values_total o.values_apart (Some x) (Some (tuple w))
    (best_at key bytes_cmp order (map tuple m) k))
    ∙ either_fold tuple o k m (greater order x (tuple w))))
    (λ e. rw e (either_fold tuple o k m x))

pub member-map : {V T : Type 0} (tuple : V → T) (v : V) (m : List V) → Member v m → Member (tuple v) (map tuple m)
member-map tuple v [] i = absurd i
member-map tuple v (w ∷ m) (inl e) = inl (ap tuple e)
member-map tuple v (w ∷ m) (inr i) = inr (member-map tuple v m i)

pub best_like : {V T : Type 0} (tuple : V → T) {key : T → List ℕ} {order : T → T → Ordering}
    (o : Orders key bytes_cmp order) (m : List V) (v : V)
    → Member v m → best_at key bytes_cmp order (map tuple m) (key (tuple v)) ≡ Some (greatest_like tuple key order m v)
best_like tuple {key = key} {order = order} o m v i =
    let k = key (tuple v) in
    sym (absorbed o k (tuple v) (map tuple m) (member-map tuple v m i))
    ∙ ap (λ x. either order x (best_at key bytes_cmp order (map tuple m) k))
    (one_itself key o.keys_total k (tuple v) refl)
    ∙ either_fold tuple o k m (tuple v)

-- ---- of versions by their tuples, the greatest has the greatest tuple

then_before : (a b : Ordering) → a ≡ Less → ordering_then a b ≡ Less
then_before a b e = rw e refl

then_after : (a b : Ordering) → a ≡ Greater → ordering_then a b ≡ Greater
then_after a b e = rw e refl

greater_carries : {T : Type 0} (tuple : Parts → T) {order : T → T → Ordering} → TellsApart order → (v w : Parts)
    → tuple (greater (carrier_cmp tuple order) v w) ≡ greater order (tuple v) (tuple w)
greater_carries tuple {order = order} apart v w =
    let cmp = carrier_cmp tuple order in
    by_order (order (tuple v) (tuple w))
    (λ e. ap tuple (greater_less cmp v w (then_before (order (tuple v) (tuple w)) (parts_cmp v w) e))
    ∙ sym (greater_less order (tuple v) (tuple w) e))
    (λ e. by_order (cmp v w)
    (λ f. ap tuple (greater_less cmp v w f) ∙ sym (apart (tuple v) (tuple w) e)
    ∙ sym (greater_equal order (tuple v) (tuple w) e))
    (λ f. ap tuple (greater_equal cmp v w f) ∙ sym (greater_equal order (tuple v) (tuple w) e))
    (λ f. ap tuple (greater_greater cmp v w f) ∙ sym (greater_equal order (tuple v) (tuple w) e)))
    (λ e. ap tuple (greater_greater cmp v w (then_after (order (tuple v) (tuple w)) (parts_cmp v w) e))
    ∙ sym (greater_greater order (tuple v) (tuple w) e))

either_carries : {T : Type 0} (tuple : Parts → T) {order : T → T → Ordering} → TellsApart order
    → (b c : Option Parts) → option_map tuple (either (carrier_cmp tuple order) b c)
    ≡ either order (option_map tuple b) (option_map tuple c)
either_carries tuple apart None c = refl
either_carries tuple apart (Some v) None = refl
either_carries tuple apart (Some v) (Some w) = ap Some (greater_carries tuple apart v w)

one_carries : {T : Type 0} (tuple : Parts → T) (key : T → List ℕ) (k : List ℕ) (v : Parts)
    → option_map tuple (one (λ w. key (tuple w)) bytes_cmp k v) ≡ one key bytes_cmp k (tuple v)
one_carries tuple key k v = by_test (is_eq (bytes_cmp (key (tuple v)) k)) (λ e. rw e refl) (λ e. rw e refl)

best_carries : {T : Type 0} (tuple : Parts → T) {key : T → List ℕ} {order : T → T → Ordering}
    (o : Orders key bytes_cmp order) (k : List ℕ) (m : List Parts)
    → option_map tuple (best_at (λ w. key (tuple w)) bytes_cmp (carrier_cmp tuple order) m k)
    ≡ best_at key bytes_cmp order (map tuple m) k
best_carries tuple o k [] = refl
best_carries tuple {key = key} {order = order} o k (v ∷ m) =
    either_carries tuple o.values_apart (one (λ w. key (tuple w)) bytes_cmp k v)
    (best_at (λ w. key (tuple w)) bytes_cmp (carrier_cmp tuple order) m k)
    ∙ ap (λ x. either order x
    (option_map tuple (best_at (λ w. key (tuple w)) bytes_cmp (carrier_cmp tuple order) m k)))
    (one_carries tuple key k v)
    ∙ ap (λ x. either order (one key bytes_cmp k (tuple v)) x) (best_carries tuple o k m)

pub carriers_ordered : {T : Type 0} (tuple : Parts → T) {key : T → List ℕ} {order : T → T → Ordering}
    → Orders key bytes_cmp order → Orders (λ w. key (tuple w)) bytes_cmp (carrier_cmp tuple order)
carriers_ordered tuple {key = key} {order = order} o =
    by_key (λ w. key (tuple w)) (carrier_total tuple o.values_total) (carrier_apart tuple order)

mapped_or : {T : Type 0} (tuple : Parts → T) (r : Option Parts) (v : Parts) (t : T) → option_map tuple r ≡ Some t
    → tuple (unwrap_or r v) ≡ t
mapped_or tuple None v t e = absurd (none-some t e)
mapped_or tuple (Some w) v t e = same_Some (tuple w) t e

like : {T : Type 0} (tuple : Parts → T) {key : T → List ℕ} {order : T → T → Ordering} (o : Orders key bytes_cmp order)
    (m : List Parts) (v : Parts) → Member v m
    → tuple (version_like (λ w. key (tuple w))
    (best (λ w. key (tuple w)) bytes_cmp (carrier_cmp tuple order) m) v)
    ≡ greatest_like tuple key order m v
like tuple {key = key} {order = order} o m v i =
    let k = key (tuple v) in
    mapped_or tuple
    (at (λ w. key (tuple w)) bytes_cmp (best (λ w. key (tuple w)) bytes_cmp (carrier_cmp tuple order) m) k) v
    (greatest_like tuple key order m v)
    (ap (λ x. option_map tuple x) (at-best (carriers_ordered tuple o) m k) ∙ best_carries tuple o k m
    ∙ best_like tuple o m v i)

-- ---- versions in harmony

-- the version with the tuples of those in the tables
agreed_is : (m : List Parts) (v : Parts) → Member v m
    → with_keys_of v
    (version_like patient_id (best patient_id bytes_cmp (carrier_cmp patient_of patient_cmp) m) v)
    (version_like study_uid (best study_uid bytes_cmp (carrier_cmp study_of study_cmp) m) v)
    (version_like series_uid (best series_uid bytes_cmp (carrier_cmp series_of series_cmp) m) v)
    ≡ agreed m v
agreed_is m v i =
    let patient = like patient_of (by_key patient_key patient_total patient_apart) m v i in
    let study = like study_of (by_key study_key study_total study_apart) m v i in
    let series = like series_of (by_key series_key series_total series_apart) m v i in
    λ j. record v { patient = patient j; study = study j; series = series j }

above-map : (f : Parts → Parts) → ((v : Parts) → instance_of (f v) ≡ instance_of v) → (k : List ℕ) (m : List Parts)
    → IsAbove instance_of bytes_cmp k m → IsAbove instance_of bytes_cmp k (map f m)
above-map f same k [] h = tt
above-map f same k (v ∷ m) h = (subst (λ j. bytes_cmp k j ≡ Less) (sym (same v)) h.0, above-map f same k m h.1)

rising-map : (f : Parts → Parts) → ((v : Parts) → instance_of (f v) ≡ instance_of v) → (m : List Parts) → IsCatalogue m
    → IsCatalogue (map f m)
rising-map f same [] up = tt
rising-map f same (v ∷ m) up = (
  subst (λ k. IsAbove instance_of bytes_cmp k (map f m)) (sym (same v)) (above-map f same (instance_of v) m up.0),
  rising-map f same m up.1,
)

pub harmonised_rises : (m : List Parts) → IsCatalogue m → IsCatalogue (harmonised m)
harmonised_rises m up = rising-map (agreed m) (λ v. refl) m up

-- ---- one step of the loop

pub item_member : (m : List Parts) (i : ℕ) (x : Parts) → i < length m → x ≡ get_or m i x → Member x m
item_member m i x below read =
    subst (λ y. Member y m) (sym read) (member_of (get_or m i x) m (Contains-get_or m i x below))

pub map_more : {A B : Type 0} (f : A → B) (m : List A) (i : ℕ) (x : A) (s t : List B) → i < length m → x ≡ get_or m i x
    → s ≡ map f (take i m) → t ≡ s ++ f x ∷ [] → t ≡ map f (take (i + 1) m)
map_more f m i x s t below read before after =
    after ∙ ap (λ y. y ++ f x ∷ []) before ∙ sym (map-append f (take i m) (x ∷ []))
    ∙ ap (λ y. map f (take i m ++ y ∷ [])) read ∙ ap (λ y. map f y) (sym (take_more m i x below))

pub agreed_from : (m patients studies series : List Parts) (v agreeing : Parts)
    → patients ≡ best patient_id bytes_cmp (carrier_cmp patient_of patient_cmp) m
    → studies ≡ best study_uid bytes_cmp (carrier_cmp study_of study_cmp) m
    → series ≡ best series_uid bytes_cmp (carrier_cmp series_of series_cmp) m → Member v m
    → agreeing ≡ with_keys_of v (version_like patient_id patients v) (version_like study_uid studies v)
    (version_like series_uid series v)
    → agreeing ≡ agreed m v
agreed_from m patients studies series v agreeing p s r i e =
    let tables : with_keys_of v (version_like patient_id patients v) (version_like study_uid studies v)
    (version_like series_uid series v)
    ≡ with_keys_of v
    (version_like patient_id (best patient_id bytes_cmp (carrier_cmp patient_of patient_cmp) m) v)
    (version_like study_uid (best study_uid bytes_cmp (carrier_cmp study_of study_cmp) m) v)
    (version_like series_uid (best series_uid bytes_cmp (carrier_cmp series_of series_cmp) m) v)
    = λ j. with_keys_of v (version_like patient_id (p j) v) (version_like study_uid (s j) v)
    (version_like series_uid (r j) v) in
    e ∙ tables ∙ agreed_is m v i
