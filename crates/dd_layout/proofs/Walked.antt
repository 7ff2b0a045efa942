-- The records of one walk along versions in the order of their paths are the records of the tree.
use Rattle.std.specs.Prelude.{◌≡◌, ℕ, true, false, List, [], ◌∷◌, ◌++◌}
use Rattle.std.specs.Prelude.{map, if◌then◌else◌}
use Rattle.std.specs.List.{AllByRecursion, flat_map}
use Rattle.std.specs.Ordering.{is_eq}
use Rattle.std.specs.declared.cmp.Ordering.TheVariants.{Less, Equal, Greater}
use Rattle.std.proofs.Common.{refl, sym, ◌∙◌, ap, ap₂, subst, inl, inr}
use Rattle.std.proofs.lemmas.Bool.{false≢true}
use Rattle.std.proofs.lemmas.Cmp.{tied_itself, nat_list_cmp_total}
use Rattle.std.proofs.lemmas.List.{map-append}
use Rattle.std.proofs.lemmas.Map.Lookups.{exact_bytes}
use Rattle.dd_elem.specs.Ordered.{bytes_cmp}
use Rattle.dd_catalogue.specs.BestLaws.{best_of_rising}
use Rattle.dd_catalogue.proofs.Members.{Member}
use Rattle.dd_catalogue.proofs.BestMembers.{best_of_same}
use Rattle.dd_catalogue.specs.Rising.{by_test, by_order, is_eq_Equal, above_trans, greater_turned}
use Rattle.dd_records.specs.declared.record.PlanRecord.{PlanRecord}
use Rattle.dd_layout.specs.Paths.{Path, path_cmp, is_before, prefixes, leads_to}
use Rattle.dd_layout.specs.Stages.{bare}
use Rattle.dd_layout.specs.Tree.{tree_of}
use Rattle.dd_layout.specs.Walk.{fresh, paths_from}
use Rattle.dd_layout.specs.WalkedRecords.{Standing, AreInOrder, least_run, lesser, record_here, records_from}
use Rattle.dd_layout.proofs.RowsByWalk.{path_total, path_apart, paths_ordered, Rises, Above, append_above, append_rises}
use Rattle.dd_layout.proofs.RowsByWalk.{fresh_above, fresh_rises, fresh_up_to, fresh_member, rows_members}
use Rattle.dd_layout.proofs.Blocks.{and_parts, between, prefix_leads}

-- the paths
abbrev pub paths : List Standing → List Path
paths run = map (λ s. s.1) run

-- none stands before this path
abbrev NoneBefore : Path → List Standing → Type 0
NoneBefore p run = AllByRecursion (λ r. is_before r.1 p ≡ false) run

-- ---- the walk along paths in order, where some may stand twice, gives their tree

-- a path gives nothing after itself
fresh_none : (p : Path) → fresh p p ≡ []
fresh_none [] = refl
fresh_none (x ∷ p) =
    let same : is_eq (bytes_cmp x x) ≡ true = ap is_eq (tied_itself nat_list_cmp_total x) in
    rw same (ap (λ m. map (λ q. x ∷ q) m) (fresh_none p))

not_greater : (p q : Path) → path_cmp p q ≡ Greater → is_before q p ≡ false → ⊥
not_greater p q e h = let less = greater_turned path_total p q e in let is = rw less at h in cc

order_above : (b : Path) (run : List Standing) → NoneBefore b run → AreInOrder run → Above b (paths_from b (paths run))
order_above b [] h up = tt
order_above b (s ∷ run) h up = by_order (path_cmp b s.1)
    (λ e. append_above b (fresh b s.1) (paths_from s.1 (paths run)) (fresh_above b s.1 e)
    (above_trans (λ p. p) path_total b s.1 (paths_from s.1 (paths run)) e (order_above s.1 run up.0 up.1)))
    (λ e. let same : s.1 ≡ b = sym (path_apart b s.1 e) in
    let rest : Above s.1 (fresh s.1 s.1 ++ paths_from s.1 (paths run)) =
    rw (fresh_none s.1) (order_above s.1 run up.0 up.1) in
    subst (λ (z : Path). Above z (fresh z s.1 ++ paths_from s.1 (paths run))) same rest)
    (λ e. absurd (not_greater b s.1 e h.0))

order_rises : (b : Path) (run : List Standing) → AreInOrder run → Rises (paths_from b (paths run))
order_rises b [] up = tt
order_rises b (s ∷ run) up =
    append_rises s.1 (fresh b s.1) (paths_from s.1 (paths run)) (fresh_rises b s.1) (fresh_up_to b s.1)
    (order_above s.1 run up.0 up.1) (order_rises s.1 run up.1)

pub tree_in_order : (run : List Standing) → AreInOrder run → paths_from [] (paths run) ≡ tree_of (paths run)
tree_in_order run up =
    sym (best_of_rising paths_ordered (paths_from [] (paths run)) (order_rises [] run up))
    ∙ sym (best_of_same paths_ordered (flat_map prefixes (paths run)) (paths_from [] (paths run))
    (rows_members (paths run)))

-- ---- the least place below a path, among all

abbrev pub least_all : Path → ℕ → List Standing → ℕ
least_all x least [] = least
least_all x least (s ∷ run) =
    if leads_to x s.1 then least_all x (lesser s.0 least) run else least_all x least run

abbrev pub least_of : Path → List Standing → ℕ
least_of x [] = 0
least_of x (s ∷ run) = if leads_to x s.1 then least_all x s.0 run else least_of x run

abbrev pub record_of : List Standing → Path → PlanRecord
record_of run x = bare x (least_of x run)

-- what leads to a path does not stand after it
lead_before : (u y : Path) → leads_to u y ≡ true → is_before y u ≡ false
lead_before [] [] h = refl
lead_before [] (b ∷ y) h = refl
lead_before (a ∷ u) [] h = cc
lead_before (a ∷ u) (b ∷ y) h =
    let both = and_parts (is_eq (bytes_cmp a b)) (leads_to u y) h in
    let same : a ≡ b = exact_bytes a b (is_eq_Equal (bytes_cmp a b) both.0) in
    let tie : bytes_cmp b a ≡ Equal = ap (λ (z : List ℕ). bytes_cmp b z) same ∙ tied_itself nat_list_cmp_total b in
    rw tie (lead_before u y both.1)

-- what stands between two paths below a front is below it
within : (u p q r : Path) → leads_to u p ≡ true → leads_to u r ≡ true → is_before q p ≡ false → is_before r q ≡ false
    → leads_to u q ≡ true
within u p q r h k e f = by_order (path_cmp p q)
    (λ i. by_order (path_cmp q r)
    (λ j. between u p q r h k i j)
    (λ j. subst (λ (z : Path). leads_to u z ≡ true) (sym (path_apart q r j)) k)
    (λ j. absurd (not_greater q r j f)))
    (λ i. subst (λ (z : Path). leads_to u z ≡ true) (path_apart p q i) h)
    (λ i. absurd (not_greater p q i e))

none_more : (x p q : Path) (least : ℕ) (run : List Standing) → leads_to x p ≡ true → leads_to x q ≡ false
    → is_before q p ≡ false → NoneBefore q run → least_all x least run ≡ least
none_more x p q least [] h k e up = refl
none_more x p q least (s ∷ run) h k e up = by_test (leads_to x s.1)
    (λ f. absurd (false≢true (sym k ∙ within x p q s.1 h f e up.0)))
    (λ f. rw f (none_more x p q least run h k e up.1))

run_is_all : (x p : Path) (least : ℕ) (run : List Standing) → leads_to x p ≡ true → NoneBefore p run → AreInOrder run
    → least_run x least run ≡ least_all x least run
run_is_all x p least [] h before up = refl
run_is_all x p least (s ∷ run) h before up = by_test (leads_to x s.1)
    (λ e. rw e (run_is_all x s.1 (lesser s.0 least) run e up.0 up.1))
    (λ e. rw e (sym (none_more x p s.1 least run h e before.0 up.0)))

-- ---- so the records of the walk have the least places among all

pub same_map : (f g : Path → PlanRecord) (m : List Path) → ((x : Path) → Member x m → f x ≡ g x) → map f m ≡ map g m
same_map f g [] h = refl
same_map f g (x ∷ m) h =
    ap₂ (λ (r : PlanRecord) (l : List PlanRecord). r ∷ l) (h x (inl refl)) (same_map f g m (λ y i. h y (inr i)))

here_is : (s : Standing) (run : List Standing) (x : Path) → leads_to x s.1 ≡ true → AreInOrder (s ∷ run)
    → record_here (s ∷ run) x ≡ record_of (s ∷ run) x
here_is s run x h up = rw h (ap (bare x) (run_is_all x s.1 s.0 run h up.0 up.1))

above_one : (p x : Path) (m : List Path) → Above p m → Member x m → path_cmp p x ≡ Less
above_one p x [] h i = absurd i
above_one p x (y ∷ m) h (inl e) = subst (λ (z : Path). path_cmp p z ≡ Less) e h.0
above_one p x (y ∷ m) h (inr i) = above_one p x m h.1 i

later_is : (s : Standing) (run : List Standing) (x : Path) → path_cmp s.1 x ≡ Less
    → record_of run x ≡ record_of (s ∷ run) x
later_is s run x e = by_test (leads_to x s.1)
    (λ h. let after = lead_before x s.1 h in let is = rw e at after in cc)
    (λ h. rw h refl)

pub walk_is_all : (b : Path) (run : List Standing) → AreInOrder run
    → records_from b run ≡ map (record_of run) (paths_from b (paths run))
walk_is_all b [] up = refl
walk_is_all b (s ∷ run) up =
    let rows = paths_from s.1 (paths run) in
    let above : Above s.1 rows = order_above s.1 run up.0 up.1 in
    ap₂ (λ (l m : List PlanRecord). l ++ m)
    (same_map (record_here (s ∷ run)) (record_of (s ∷ run)) (fresh b s.1)
    (λ x i. here_is s run x (prefix_leads s.1 x (fresh_member b s.1 x i)) up))
    (walk_is_all s.1 run up.1
    ∙ same_map (record_of run) (record_of (s ∷ run)) rows (λ x i. later_is s run x (above_one s.1 x rows above i)))
    ∙ sym (map-append (record_of (s ∷ run)) (fresh b s.1) rows)
