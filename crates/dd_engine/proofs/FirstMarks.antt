-- Marks in the order of their files: where the first one of a file is found, and that a stable sort keeps it first.
use Rattle.std.specs.Prelude.{◌≡◌, ◌≢◌, ◌&&◌, ◌<◌, ◌≤◌, ℕ, zero, suc, true, false}
use Rattle.std.specs.Prelude.{List, [], ◌∷◌, Some, nat_lt, length, map, filter, get_or}
use Rattle.std.specs.Cmp.{IsTotalOrder}
use Rattle.std.specs.List.{AllWithin}
use Rattle.std.specs.List.Sorted.{IsPartitionPoint, IsPartitionedBy, IsSorted, IsStable}
use Rattle.std.specs.Ordering.{is_eq, is_lt, ordering_then}
use Rattle.std.specs.declared.cmp.Ordering.{Ordering}
use Rattle.std.specs.declared.cmp.Ordering.TheVariants.{Less, Equal, Greater}
use Rattle.std.proofs.Common.{refl, sym, ◌∙◌, ap, arith, ltb-true, ltb-false, true≢false}
use Rattle.std.proofs.lemmas.Cmp.{nat_list_cmp_total, on_total, then_total}
use Rattle.std.proofs.lemmas.List.Elements.{filter_agree}
use Rattle.dd_catalogue.specs.Rising.{by_test, is_eq_Equal}
use Rattle.dd_elem.specs.Ordered.{bytes_cmp}
use Rattle.dd_engine.specs.declared.marks.Mark.{Mark}
use Rattle.dd_engine.specs.Picking.{FileKey, file_cmp, found, is_one, key_of, mark_cmp, mark_view}
use Rattle.dd_engine.proofs.KeyOrder as keys

-- ---- the order of files

pub file_total : IsTotalOrder file_cmp
file_total =
    then_total (on_total (λ file. file.instance) nat_list_cmp_total)
    (on_total (λ file. file.digest) nat_list_cmp_total)

pub one_file : (v t : FileKey) → is_one v t ≡ is_eq (file_cmp v t)
one_file v t = both (bytes_cmp v.instance t.instance) (bytes_cmp v.digest t.digest) where
  both : (a b : Ordering) → (is_eq a && is_eq b) ≡ is_eq (ordering_then a b)
  both Less b = refl
  both Equal b = refl
  both Greater b = refl

not_after : (v t : FileKey) → is_one v t ≡ true → is_lt (file_cmp v t) ≡ false
not_after v t e = ap is_lt (is_eq_Equal (file_cmp v t) (sym (one_file v t) ∙ e))

-- ---- a search among marks in that order

pub parted : {T : Type 0} (marks : List (Mark T)) (t : FileKey) → IsSorted mark_cmp marks
    → IsPartitionedBy (λ mark. is_lt (file_cmp (key_of mark) t)) marks
parted marks t order = keys.parted (λ mark. key_of mark) file_total marks t order

-- where a mark of the file is: its place, and a mark
record IsThere {T : Type 0} (marks : List (Mark T)) (t : FileKey) (k : ℕ) : Type 0 where
  within : k < length marks
  same : (d : Mark T) → is_one (key_of (get_or marks k d)) t ≡ true
  mark : Mark T

place_of : {T : Type 0} (marks : List (Mark T)) (t : FileKey)
    → filter (λ file. is_one file t) (map (λ mark. key_of mark) marks) ≢ [] → (k : ℕ) × IsThere marks t k
place_of [] t some = absurd (some refl)
place_of (mark ∷ marks) t some = by_test (is_one (key_of mark) t)
    (λ e. (zero, record { within = omega arith; same = λ d. e; mark = mark }))
    (λ e. let rest = place_of marks t (λ none. some (rw e none)) in
    (suc rest.0, record { within = omega (arith, rest.1.within); same = rest.1.same; mark = mark }))

-- the marks of the file begin no earlier than where the files before it end
reached : {T : Type 0} (marks : List (Mark T)) (t : FileKey) (i k : ℕ)
    → AllWithin (λ mark. is_lt (file_cmp (key_of mark) t) ≡ true) marks 0 i → IsThere marks t k → i ≤ k
reached marks t i k front there = by_test (nat_lt k i)
    (λ e. let less : k < i = ltb-true k i e in
    let before = front k there.mark (omega arith) less in
    absurd (true≢false (sym before ∙ not_after (key_of (get_or marks k there.mark)) t (there.same there.mark))))
    (λ e. ltb-false k i e)

first_at : {T : Type 0} (marks : List (Mark T)) (t : FileKey) (i : ℕ) (d : Mark T) → i < length marks
    → ((k : ℕ) → k < i → is_one (key_of (get_or marks k d)) t ≡ false)
    → is_one (key_of (get_or marks i d)) t ≡ true
    → Some (get_or marks i d).origin ≡ found (map (λ mark. mark_view mark) marks) t
first_at [] t i d below before here = absurd (omega arith)
first_at (mark ∷ marks) t zero d below before here = rw here refl
first_at (mark ∷ marks) t (suc i) d below before here =
    rw (before zero (omega arith)) (first_at marks t i d (omega arith) (λ k less. before (suc k) (omega arith)) here)

pub first_found : {T : Type 0} (marks : List (Mark T)) (t : FileKey) (i : ℕ) → IsSorted mark_cmp marks
    → filter (λ file. is_one file t) (map (λ mark. key_of mark) marks) ≢ []
    → IsPartitionPoint (λ mark. is_lt (file_cmp (key_of mark) t) ≡ true)
    (λ mark. is_lt (file_cmp (key_of mark) t) ≡ false) marks i
    → (i < length marks)
    × ((d : Mark T) → Some (get_or marks i d).origin ≡ found (map (λ mark. mark_view mark) marks) t)
first_found marks t i order some point =
    let held = place_of marks t some in
    let k = held.0 in
    let there = held.1 in
    let near : i ≤ k = reached marks t i k point.0 there in
    let within : i < length marks = omega (arith, near, there.within) in (
      within,
      λ d. first_at marks t i d within
          (λ j less. one_file (key_of (get_or marks j d)) t
          ∙ keys.not_before (file_cmp (key_of (get_or marks j d)) t) (point.0 j d (omega arith) less))
          (one_file (key_of (get_or marks i d)) t
          ∙ keys.between file_total (key_of (get_or marks i d)) (key_of (get_or marks k d)) t
          (point.1 i d (omega arith) within)
          (keys.sorted_at (λ mark. key_of mark) file_total marks order i k d near there.within)
          (sym (one_file (key_of (get_or marks k d)) t) ∙ there.same d)),
    )

-- ---- a stable sort in that order

-- the marks of the file
abbrev marks_of : {T : Type 0} → FileKey → List (Mark T) → List (Mark T)
marks_of t marks = filter (λ mark. is_one (key_of mark) t) marks

marks_agree : {T : Type 0} (t : FileKey) (marks : List (Mark T))
    → marks_of t marks ≡ filter (λ mark. is_eq (file_cmp (key_of mark) t)) marks
marks_agree t marks =
    filter_agree (λ mark. is_one (key_of mark) t) (λ mark. is_eq (file_cmp (key_of mark) t))
    (λ mark. one_file (key_of mark) t) marks

marks_stay : {T : Type 0} (xs ys : List (Mark T)) → IsStable mark_cmp xs ys → (t : FileKey)
    → marks_of t ys ≡ marks_of t xs
marks_stay xs ys stable t =
    marks_agree t ys ∙ keys.elements_stay (λ mark. key_of mark) file_total xs ys stable t ∙ sym (marks_agree t xs)

-- what is found is the first of the marks of the file
first_of : {T : Type 0} (t : FileKey) (marks : List (Mark T))
    → found (map (λ mark. mark_view mark) (marks_of t marks)) t ≡ found (map (λ mark. mark_view mark) marks) t
first_of t [] = refl
first_of t (mark ∷ marks) = by_test (is_one (key_of mark) t)
    (λ e. rw e (rw e refl))
    (λ e. rw e (first_of t marks))

pub found_stays : {T : Type 0} (xs ys : List (Mark T)) → IsStable mark_cmp xs ys → (t : FileKey)
    → found (map (λ mark. mark_view mark) ys) t ≡ found (map (λ mark. mark_view mark) xs) t
found_stays xs ys stable t =
    sym (first_of t ys) ∙ ap (λ l. found (map (λ mark. mark_view mark) l) t) (marks_stay xs ys stable t)
    ∙ first_of t xs

-- the files of those marks
files_of : {T : Type 0} (t : FileKey) (marks : List (Mark T))
    → filter (λ file. is_one file t) (map (λ mark. key_of mark) marks) ≡ map (λ mark. key_of mark) (marks_of t marks)
files_of t [] = refl
files_of t (mark ∷ marks) = by_test (is_one (key_of mark) t)
    (λ e. rw e (ap (λ l. key_of mark ∷ l) (files_of t marks)))
    (λ e. rw e (files_of t marks))

pub files_stay : {T : Type 0} (xs ys : List (Mark T)) → IsStable mark_cmp xs ys → (t : FileKey)
    → filter (λ file. is_one file t) (map (λ mark. key_of mark) ys)
    ≡ filter (λ file. is_one file t) (map (λ mark. key_of mark) xs)
files_stay xs ys stable t =
    files_of t ys ∙ ap (λ l. map (λ mark. key_of mark) l) (marks_stay xs ys stable t) ∙ sym (files_of t xs)

-- the files that the views of marks name
pub files_viewed : {T : Type 0} (marks : List (Mark T))
    → map (λ mark. key_of mark) marks ≡ map (λ mark. mark.1) (map (λ mark. mark_view mark) marks)
files_viewed [] = refl
files_viewed (mark ∷ marks) = ap (λ l. key_of mark ∷ l) (files_viewed marks)
