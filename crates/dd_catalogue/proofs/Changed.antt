-- Versions that get other keys one after another, each at its place.
use Rattle.std.specs.Prelude.{◌≡◌, ◌<◌, ◌≤◌, ◌+◌, ℕ, true, false, List, [], ◌∷◌, ◌++◌, length, get_or, set, take, drop, map, filter}
use Rattle.std.specs.Prelude.{Bool}
use Rattle.std.specs.Ordering.{is_eq}
use Rattle.std.proofs.Common.{refl, sym, ◌∙◌, ap, subst, arith, append-nil, append_assoc, zero, suc}
use Rattle.std.proofs.lemmas.Cmp.{nat_list_cmp_total, tied_itself}
use Rattle.std.proofs.lemmas.List.{drop_all, length-map, length-take, map-append, take_all, take_more}
use Rattle.std.proofs.lemmas.Map.Lookups.{exact_bytes}
use Rattle.dd_elem.specs.Ordered.{bytes_cmp}
use Rattle.dd_version.specs.declared.parts.Parts.{Parts}
use Rattle.dd_catalogue.specs.Best.{IsRising}
use Rattle.dd_catalogue.specs.Changes.{with_changes, with_one}
use Rattle.dd_catalogue.specs.Conflicts.{same}
use Rattle.dd_catalogue.specs.Contents.{IsHeld, left_of}
use Rattle.dd_catalogue.specs.Free.{is_free}
use Rattle.dd_catalogue.specs.Rising.{by_test, is_eq_Equal}
use Rattle.dd_catalogue.specs.Versions.{IsCatalogue, instance_of}
use Rattle.dd_catalogue.proofs.References.{rising_under}
use Rattle.dd_catalogue.proofs.Sifted.{rising-map}
use Rattle.dd_catalogue.proofs.TakenOut.{from_here}

-- ---- one version at its place

pub one_written : (i : ℕ) (v w : Parts) (m : List Parts) → i < length m → v ≡ get_or m i v
    → same v.instance w.instance ≡ true → set m i w ≡ with_one i w m
one_written i v w [] below read is = absurd (omega arith)
one_written zero v w (u ∷ m) below read is =
    let here : same u.instance w.instance ≡ true = ap (λ (x : Parts). same x.instance w.instance) (sym read) ∙ is in
    rw here refl
one_written (suc i) v w (u ∷ m) below read is = ap (λ x. u ∷ x) (one_written i v w m (omega arith) read is)

pub one_unwritten : (i : ℕ) (v w : Parts) (m : List Parts) → i < length m → v ≡ get_or m i v
    → same v.instance w.instance ≡ false → m ≡ with_one i w m
one_unwritten i v w [] below read is = absurd (omega arith)
one_unwritten zero v w (u ∷ m) below read is =
    let here : same u.instance w.instance ≡ false = ap (λ (x : Parts). same x.instance w.instance) (sym read) ∙ is in
    rw here refl
one_unwritten (suc i) v w (u ∷ m) below read is = ap (λ x. u ∷ x) (one_unwritten i v w m (omega arith) read is)

pub one_past : (i : ℕ) (w : Parts) (m : List Parts) → length m ≤ i → m ≡ with_one i w m
one_past i w [] past = refl
one_past zero w (u ∷ m) past = absurd (omega arith)
one_past (suc i) w (u ∷ m) past = ap (λ x. u ∷ x) (one_past i w m (omega arith))

-- ---- one change more

changes_more : (changes : List (ℕ × Parts)) (i : ℕ) (w : Parts) (m : List Parts)
    → with_changes (changes ++ (i, w) ∷ []) m ≡ with_one i w (with_changes changes m)
changes_more [] i w m = refl
changes_more (change ∷ changes) i w m = changes_more changes i w (with_one change.0 change.1 m)

one_at : (s : List Parts) (v w : Parts) (t : List Parts) → same v.instance w.instance ≡ true
    → with_one (length s) w (s ++ v ∷ t) ≡ s ++ w ∷ t
one_at [] v w t is = rw is refl
one_at (u ∷ s) v w t is = ap (λ x. u ∷ x) (one_at s v w t is)

-- the front of a list is changed by f, and the rest is as it was
front_more : (f : Parts → Parts) (m : List Parts) (i : ℕ) (v : Parts) → i < length m → v ≡ get_or m i v
    → map f (take (i + 1) m) ++ drop (i + 1) m ≡ map f (take i m) ++ f v ∷ drop (i + 1) m
front_more f m i v below read =
    ap (λ x. map f x ++ drop (i + 1) m) (take_more m i v below ∙ ap (λ x. take i m ++ x ∷ []) (sym read))
    ∙ ap (λ x. x ++ drop (i + 1) m) (map-append f (take i m) (v ∷ []))
    ∙ append_assoc (map f (take i m)) (f v ∷ []) (drop (i + 1) m)

pub change_more : (f : Parts → Parts) (m : List Parts) (changes : List (ℕ × Parts)) (i : ℕ) (v w : Parts)
    → i < length m → v ≡ get_or m i v → w ≡ f v → same v.instance w.instance ≡ true
    → with_changes changes m ≡ map f (take i m) ++ drop i m
    → with_changes (changes ++ (i, w) ∷ []) m ≡ map f (take (i + 1) m) ++ drop (i + 1) m
change_more f m changes i v w below read is alike before =
    let front = map f (take i m) in
    let long : length front ≡ i = omega (arith, length-map (take i m) f, length-take i m, below) in
    changes_more changes i w m
    ∙ ap (λ x. with_one i w x) (before ∙ ap (λ x. front ++ x) (from_here m i v below read))
    ∙ ap (λ n. with_one n w (front ++ v ∷ drop (i + 1) m)) (sym long)
    ∙ one_at front v w (drop (i + 1) m) alike
    ∙ ap (λ x. front ++ x ∷ drop (i + 1) m) is
    ∙ sym (front_more f m i v below read)

pub change_none : (f : Parts → Parts) (m : List Parts) (changes : List (ℕ × Parts)) (i : ℕ) (v : Parts)
    → i < length m → v ≡ get_or m i v → v ≡ f v
    → with_changes changes m ≡ map f (take i m) ++ drop i m
    → with_changes changes m ≡ map f (take (i + 1) m) ++ drop (i + 1) m
change_none f m changes i v below read is before =
    before ∙ ap (λ x. map f (take i m) ++ x) (from_here m i v below read)
    ∙ ap (λ x. map f (take i m) ++ x ∷ drop (i + 1) m) is
    ∙ sym (front_more f m i v below read)

pub change_all : (f : Parts → Parts) (m : List Parts) (changes : List (ℕ × Parts)) (i : ℕ) → length m ≤ i
    → with_changes changes m ≡ map f (take i m) ++ drop i m → with_changes changes m ≡ map f m
change_all f m changes i past before =
    before ∙ ap (λ x. map f (take i m) ++ x) (drop_all i m past) ∙ append-nil (map f (take i m))
    ∙ ap (λ x. map f x) (take_all i m past)

-- ---- what changes keep: the instances, so that a catalogue stays one

one_keeps : (i : ℕ) (w : Parts) (m : List Parts) → map instance_of (with_one i w m) ≡ map instance_of m
one_keeps i w [] = refl
one_keeps zero w (v ∷ m) = by_test (same v.instance w.instance)
    (λ e. rw e (ap (λ k. k ∷ map instance_of m) (sym (exact_bytes v.instance w.instance
    (is_eq_Equal (bytes_cmp v.instance w.instance) e)))))
    (λ e. rw e refl)
one_keeps (suc i) w (v ∷ m) = ap (λ x. v.instance ∷ x) (one_keeps i w m)

changes_keep : (changes : List (ℕ × Parts)) (m : List Parts)
    → map instance_of (with_changes changes m) ≡ map instance_of m
changes_keep [] m = refl
changes_keep (change ∷ changes) m =
    changes_keep changes (with_one change.0 change.1 m) ∙ one_keeps change.0 change.1 m

rising_alike : (m n : List Parts) → map instance_of n ≡ map instance_of m → IsCatalogue m → IsCatalogue n
rising_alike m n alike up = rising_under (λ v. v.instance) (λ u. u) n
    (subst (λ k. IsRising (λ u. u) bytes_cmp k) (sym alike) (rising-map instance_of m up))

few_left : (test : Parts → Bool) (m : List Parts) → length (filter test m) ≤ length m
few_left test [] = omega arith
few_left test (v ∷ m) =
    let rest = few_left test m in by_test (test v) (λ e. rw e (omega (arith, rest))) (λ e. rw e (omega (arith, rest)))

apart_alike : (w : List (List ℕ)) (m n : List Parts) → map instance_of n ≡ map instance_of m → left_of m w ≡ m
    → left_of n w ≡ n
apart_alike w [] [] alike apart = refl
apart_alike w [] (u ∷ n) alike apart = let long = ap length alike in absurd (omega (arith, long))
apart_alike w (v ∷ m) [] alike apart = let long = ap length alike in absurd (omega (arith, long))
apart_alike w (v ∷ m) (u ∷ n) alike apart =
    let one : u.instance ≡ v.instance = cc alike in
    let others : map instance_of n ≡ map instance_of m = cc alike in
    by_test (is_free bytes_cmp w v.instance)
    (λ e. let left : v ∷ left_of m w ≡ v ∷ m = rw e at apart in
    let rest : left_of m w ≡ m = cc left in
    let here : is_free bytes_cmp w u.instance ≡ true = ap (λ k. is_free bytes_cmp w k) one ∙ e in
    rw here (ap (λ x. u ∷ x) (apart_alike w m n others rest)))
    (λ e. let left : left_of m w ≡ v ∷ m = rw e at apart in
    let long = ap length left in
    let few = few_left (λ x. is_free bytes_cmp w x.instance) m in absurd (omega (arith, long, few)))

pub changed_held : (m : List Parts) (w : List (List ℕ)) (changes : List (ℕ × Parts))
    → IsHeld (record { versions = m; withdrawn = w })
    → IsHeld (record { versions = with_changes changes m; withdrawn = w })
changed_held m w changes h = record {
  versions = rising_alike m (with_changes changes m) (changes_keep changes m) h.versions;
  withdrawn = h.withdrawn;
  apart = apart_alike w m (with_changes changes m) (changes_keep changes m) h.apart;
}
