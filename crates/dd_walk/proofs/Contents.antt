-- What a directory says, from its values one by one.
use Rattle.std.proofs.Common.{◌≡◌, ℕ, ◌+◌, ◌<◌, List, [], length, map, Option, Some, None, option_map, IsSomeAnd}
use Rattle.std.proofs.Common.{refl, sym, ap, ◌∙◌, arith}
use Rattle.std.proofs.lemmas.List.{length-map}
use Rattle.dd_encoding.specs.Elements.{Elements}
use Rattle.dd_set.specs.Starts.{places_in}
use Rattle.dd_records.specs.ElementForms.{tag}
use Rattle.dd_walk.specs.Reading.{Contents, contents_by, contents_in}
use Rattle.dd_walk.specs.Saying.{beside_in, first_in, last_in, records_in}
use Rattle.dd_walk.specs.Trees.{Beside}
use Rattle.dd_walk.proofs.Moved.{SameMany, places_moved, places_many}
use Rattle.dd_walk.proofs.Sequences.{items_in, items_in-is}

-- all are there
told : (beside : Beside) (first last : Option ℕ) (starts : Option (List ℕ)) (sets : Option (List Elements)) (f l : ℕ)
    (ns : List ℕ) (xs : List Elements) → first ≡ Some f → last ≡ Some l → starts ≡ Some ns → sets ≡ Some xs
    → contents_by beside first last starts sets
    ≡ Some (record { first = f; last = l; starts = ns; sets = xs; beside = beside })
told beside first last starts sets f l ns xs a b c d = rw (a, b, c, d) refl

-- one is not
no_first : (beside : Beside) (last : Option ℕ) (starts : Option (List ℕ)) (sets : Option (List Elements))
    → contents_by beside None last starts sets ≡ None
no_first beside last starts sets = refl

no_last : (beside : Beside) (first : Option ℕ) (starts : Option (List ℕ)) (sets : Option (List Elements))
    → contents_by beside first None starts sets ≡ None
no_last beside None starts sets = refl
no_last beside (Some f) starts sets = refl

no_starts : (beside : Beside) (first last : Option ℕ) (sets : Option (List Elements))
    → contents_by beside first last None sets ≡ None
no_starts beside None last sets = refl
no_starts beside (Some f) None sets = refl
no_starts beside (Some f) (Some l) sets = refl

no_sets : (beside : Beside) (first last : Option ℕ) (starts : Option (List ℕ))
    → contents_by beside first last starts None ≡ None
no_sets beside None last starts = refl
no_sets beside (Some f) None starts = refl
no_sets beside (Some f) (Some l) None = refl
no_sets beside (Some f) (Some l) (Some ns) = refl

pub without_first : (uid front : List ℕ) (set : Elements) → first_in set ≡ None → contents_in uid front set ≡ None
unfolding contents_in
without_first uid front set is =
    ap (λ (o : Option ℕ). contents_by (beside_in uid set) o (last_in set) (places_in (tag 0x0004 0x1220) front set)
    (records_in set)) is

pub without_last : (uid front : List ℕ) (set : Elements) → last_in set ≡ None → contents_in uid front set ≡ None
unfolding contents_in
without_last uid front set is =
    ap (λ (o : Option ℕ). contents_by (beside_in uid set) (first_in set) o (places_in (tag 0x0004 0x1220) front set)
    (records_in set)) is
    ∙ no_last (beside_in uid set) (first_in set) (places_in (tag 0x0004 0x1220) front set) (records_in set)

pub without_sets : (uid front : List ℕ) (set : Elements) → records_in set ≡ None → contents_in uid front set ≡ None
unfolding contents_in
without_sets uid front set is =
    ap (λ (o : Option (List Elements)). contents_by (beside_in uid set) (first_in set) (last_in set)
    (places_in (tag 0x0004 0x1220) front set) o) is
    ∙ no_sets (beside_in uid set) (first_in set) (last_in set) (places_in (tag 0x0004 0x1220) front set)

pub without_starts : (uid front : List ℕ) (set : Elements) → places_in (tag 0x0004 0x1220) [] set ≡ None
    → contents_in uid front set ≡ None
unfolding contents_in
without_starts uid front set is =
    let none : places_in (tag 0x0004 0x1220) front set ≡ None =
    places_moved (tag 0x0004 0x1220) front (length front) set refl
    ∙ ap (λ (o : Option (List ℕ)). option_map (λ (ns : List ℕ). map (λ (n : ℕ). n + length front) ns) o) is in
    ap (λ (o : Option (List ℕ)). contents_by (beside_in uid set) (first_in set) (last_in set) o (records_in set)) none
    ∙ no_starts (beside_in uid set) (first_in set) (last_in set) (records_in set)

-- the places after `by` bytes
moved_some : (front : List ℕ) (by : ℕ) (set : Elements) (ns : List ℕ) → length front ≡ by
    → places_in (tag 0x0004 0x1220) [] set ≡ Some ns
    → places_in (tag 0x0004 0x1220) front set ≡ Some (map (λ (n : ℕ). n + by) ns)
moved_some front by set ns long is =
    places_moved (tag 0x0004 0x1220) front by set long
    ∙ ap (λ (o : Option (List ℕ)). option_map (λ (ns : List ℕ). map (λ (n : ℕ). n + by) ns) o) is

pub with_all_there : (uid front : List ℕ) (by : ℕ) (set : Elements) (f l : ℕ) (ns : List ℕ) (xs : List Elements)
    → length front ≡ by → first_in set ≡ Some f → last_in set ≡ Some l → places_in (tag 0x0004 0x1220) [] set ≡ Some ns
    → records_in set ≡ Some xs → contents_in uid front set
    ≡ Some (record { first = f; last = l; starts = map (λ (n : ℕ). n + by) ns; sets = xs; beside = beside_in uid set })
unfolding contents_in
with_all_there uid front by set f l ns xs long first last starts sets =
    told (beside_in uid set) (first_in set) (last_in set) (places_in (tag 0x0004 0x1220) front set) (records_in set) f l
    (map (λ (n : ℕ). n + by) ns) xs first last (moved_some front by set ns long starts) sets

-- the records are there where their places are
sets_there : (ns : Option (List ℕ)) (xs : Option (List Elements)) → SameMany ns xs → (ms : List ℕ) → ns ≡ Some ms
    → (sets : List Elements) × (xs ≡ Some sets)
sets_there None None same ms is = absurd cc
sets_there None (Some xs) same ms is = absurd same
sets_there (Some ns) None same ms is = absurd same
sets_there (Some ns) (Some xs) same ms is = (xs, refl)

some_there : (o : Option (List ℕ)) → IsSomeAnd o (λ (ns : List ℕ). 0 < length ns)
    → (ns : List ℕ) × (o ≡ Some ns) × (0 < length ns)
some_there None h = absurd h
some_there (Some ns) h = (ns, refl, h)

pub wanted_there : (uid front : List ℕ) (set : Elements) (f l : ℕ) → first_in set ≡ Some f → last_in set ≡ Some l
    → IsSomeAnd (places_in (tag 0x0004 0x1220) [] set) (λ (ns : List ℕ). 0 < length ns)
    → (there : Contents) × (contents_in uid front set ≡ Some there) × (0 < length there.starts)
wanted_there uid front set f l first last some =
    let ns = some_there (places_in (tag 0x0004 0x1220) [] set) some in
    let same = places_many (tag 0x0004 0x1220) [] set in
    let xs = sets_there (places_in (tag 0x0004 0x1220) [] set) (items_in (tag 0x0004 0x1220) set) same ns.0 ns.1 in
    let sets : records_in set ≡ Some xs.0 = sym (items_in-is (tag 0x0004 0x1220) set) ∙ xs.1 in
    let by = length front in (
      record { first = f; last = l; starts = map (λ (n : ℕ). n + by) ns.0; sets = xs.0; beside = beside_in uid set },
      with_all_there uid front by set f l ns.0 xs.0 refl first last ns.1 sets,
      omega (arith, ns.2, length-map ns.0 (λ (n : ℕ). n + by)),
    )

-- as many starts as records
pub same_many : (starts : Option (List ℕ)) (sets : Option (List Elements)) (ns : List ℕ) (xs : List Elements)
    → SameMany starts sets → starts ≡ Some ns → sets ≡ Some xs → length ns ≡ length xs
same_many None sets ns xs same a b = absurd cc
same_many (Some ms) None ns xs same a b = absurd cc
same_many (Some ms) (Some ys) ns xs same a b =
    let first : ms ≡ ns = cc in
    let second : ys ≡ xs = cc in
    ap (λ (ks : List ℕ). length ks) (sym first) ∙ same ∙ ap (λ (ks : List Elements). length ks) second
