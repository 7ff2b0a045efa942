-- Following offsets ends, in trees whose offsets are apart or at a stop (PS3.3 section F.3.2.2). Each step sees one
-- more of the offsets where records start.
use Rattle.std.proofs.Common.{◌≡◌, ◌≢◌, ◌⊎◌, inl, inr, ℕ, suc, zero, ◌+◌, ◌<◌, ◌≤◌, Bool, true, false, List, [], ◌∷◌}
use Rattle.std.proofs.Common.{Option, Some, None, Result, Ok, Err, if◌then◌else◌, ◌==◌, refl, sym, ap, ◌∙◌, arith}
use Rattle.std.specs.Prelude.{nat_le}
use Rattle.std.proofs.lemmas.Bool.{leb-false, eqb-true, eq-eqb, cases_eq, false≢true}
use Rattle.dd_encoding.specs.Elements.{Elements}
use Rattle.dd_walk.specs.declared.fault.DirFault.{DirFault}
use Rattle.dd_walk.specs.declared.fault.DirFault.TheVariants.{RecordShape, Dangling, Twice, TooDeep}
use Rattle.dd_walk.specs.Saying.{Links, links_in}
use Rattle.dd_walk.specs.Trees.{Trees, no_trees, tree, offsets}
use Rattle.dd_walk.specs.Walks.{max_record_levels, node_of, Stands, IsChain, Seen, with, with_all, AreApart, shape_at}
use Rattle.dd_walk.specs.Walks.{found_at, step_at, here, down, along, Stops}
use Rattle.dd_walk.specs.Reading.{count_unseen, stands_in}
use Rattle.dd_walk.proofs.WalkLaws.{goes_or_stops, one_step, tree_apart}

-- ---- what a step says that goes on

-- what was found, and what it says
record Shown (p level : ℕ) (seen : Bool) (found : Option Elements) (x : Elements × Links) : Type 0 where
  unseen : seen ≡ false
  is : found ≡ Some x.0
  room : level < max_record_levels
  says_so : links_in x.0 ≡ Some x.1

same_pair : (set : Elements) (links : Links) (x : Elements × Links)
    → ◌≡◌ {A = Result (Elements × Links) DirFault} (Ok (set, links)) (Ok x) → x ≡ (set, links)
same_pair set links x e = one_step (Ok (set, links)) (set, links) x refl e

stopped : {P : Type 0} (fault : DirFault) (x : Elements × Links)
    → ◌≡◌ {A = Result (Elements × Links) DirFault} (Err fault) (Ok x) → P
stopped fault x e = absurd (goes_or_stops (Err fault) x fault e refl)

shape_shown : (p : ℕ) (set : Elements) (links : Option Links) (x : Elements × Links) → shape_at p set links ≡ Ok x
    → (set ≡ x.0) × (links ≡ Some x.1)
shape_shown p set None x e = stopped (RecordShape p) x e
shape_shown p set (Some links) x e =
    let is : x ≡ (set, links) = same_pair set links x e in
    (sym (ap (λ (y : Elements × Links). y.0) is), sym (ap (λ (y : Elements × Links). Some y.1) is))

deep_shown : (p : ℕ) (set : Elements) (deep : Bool) (x : Elements × Links)
    → (if deep then Err (TooDeep p) else shape_at p set (links_in set)) ≡ Ok x
    → (deep ≡ false) × (set ≡ x.0) × (links_in set ≡ Some x.1)
deep_shown p set true x e = stopped (TooDeep p) x e
deep_shown p set false x e =
    let shown = shape_shown p set (links_in set) x e in
    (refl, shown.0, shown.1)

found_shown : (p level : ℕ) (seen : Bool) (found : Option Elements) (x : Elements × Links)
    → found_at p level seen found ≡ Ok x → Shown p level seen found x
found_shown p level seen None x e = stopped (Dangling p) x e
found_shown p level true (Some set) x e = stopped (Twice p) x e
found_shown p level false (Some set) x e =
    let shown = deep_shown p set (nat_le max_record_levels level) x e in
    record {
      unseen = refl;
      is = ap (λ (s : Elements). Some s) shown.1;
      room = leb-false max_record_levels level shown.0;
      says_so = ap links_in (sym shown.1) ∙ shown.2;
    }

-- a step that goes on is from a record that stands there and was not seen
pub step_stands : (stands : ℕ → Option Elements) (p level : ℕ) (seen : Seen) (x : Elements × Links)
    → step_at stands p level seen ≡ Ok x → Stands stands p level (node_of p x.0 x.1) x.1 × (seen p ≡ false)
unfolding step_at
step_stands stands p level seen x e =
    let shown = found_shown p level (seen p) (stands p) x e in
    (record { found = shown.is; room = shown.room; says_so = shown.says_so; is = refl }, shown.unseen)

-- ---- offsets that are not seen yet

-- a test that holds where another does holds for fewer
fewer_by : (seen more : Bool) (n m : ℕ) → (seen ≡ true → more ≡ true) → m ≤ n
    → (if more then m else 1 + m) ≤ (if seen then n else 1 + n)
fewer_by true true n m h le = le
fewer_by true false n m h le = absurd (false≢true (h refl))
fewer_by false true n m h le = omega arith
fewer_by false false n m h le = omega arith

less_by : (seen more : Bool) (n m : ℕ) → (seen ≡ true → more ≡ true) → m < n
    → (if more then m else 1 + m) < (if seen then n else 1 + n)
less_by true true n m h less = less
less_by true false n m h less = absurd (false≢true (h refl))
less_by false true n m h less = omega arith
less_by false false n m h less = omega arith

seen_stays : (p q : ℕ) (seen : Seen) → seen q ≡ true → with p seen q ≡ true
seen_stays p q seen e = go (q == p)
  where
    go : (b : Bool) → (if b then true else seen q) ≡ true
    go true = refl
    go false = e

pub unseen_with : (starts : List ℕ) (p : ℕ) (seen : Seen)
    → count_unseen (with p seen) starts ≤ count_unseen seen starts
unseen_with [] p seen = omega arith
unseen_with (q ∷ starts) p seen =
    fewer_by (seen q) (with p seen q) (count_unseen seen starts) (count_unseen (with p seen) starts)
    (seen_stays p q seen) (unseen_with starts p seen)

pub unseen_with_all : (ps starts : List ℕ) (seen : Seen)
    → count_unseen (with_all ps seen) starts ≤ count_unseen seen starts
unseen_with_all [] starts seen = omega arith
unseen_with_all (p ∷ ps) starts seen =
    omega (arith, unseen_with_all ps starts (with p seen), unseen_with starts p seen)

-- an item that starts at a place that is not seen yet
unseen_here : (starts : List ℕ) (p q : ℕ) (seen : Seen) → p ≡ q → seen p ≡ false
    → count_unseen (with p seen) (q ∷ starts) < count_unseen seen (q ∷ starts)
unseen_here starts p q seen is unseen =
    let now : with p seen q ≡ true = ap (λ (b : Bool). if b then true else seen q) (eq-eqb q p (sym is)) in
    let was : seen q ≡ false = ap seen (sym is) ∙ unseen in
    let m = count_unseen (with p seen) starts in
    let n = count_unseen seen starts in
    let less : m ≤ n = unseen_with starts p seen in
    let one : (if with p seen q then m else 1 + m) ≡ m = ap (λ (b : Bool). if b then m else 1 + m) now in
    let two : (if seen q then n else 1 + n) ≡ 1 + n = ap (λ (b : Bool). if b then n else 1 + n) was in
    omega (arith, one, two, less)

unseen_past : (starts : List ℕ) (p q : ℕ) (seen : Seen)
    → count_unseen (with p seen) starts < count_unseen seen starts
    → count_unseen (with p seen) (q ∷ starts) < count_unseen seen (q ∷ starts)
unseen_past starts p q seen less =
    less_by (seen q) (with p seen q) (count_unseen seen starts) (count_unseen (with p seen) starts)
    (seen_stays p q seen) less

unseen_one : (starts : List ℕ) (p q : ℕ) (set : Elements) (seen : Seen) (b : Bool) (found later : Option Elements)
    → (p == q) ≡ b → (if b then found else later) ≡ Some set → seen p ≡ false
    → (later ≡ Some set → count_unseen (with p seen) starts < count_unseen seen starts)
    → count_unseen (with p seen) (q ∷ starts) < count_unseen seen (q ∷ starts)
unseen_one starts p q set seen true found later is e unseen falls =
    unseen_here starts p q seen (eqb-true p q is) unseen
unseen_one starts p q set seen false found later is e unseen falls = unseen_past starts p q seen (falls e)

pub unseen_falls : (starts : List ℕ) (sets : List Elements) (p : ℕ) (set : Elements) (seen : Seen)
    → stands_in starts sets p ≡ Some set → seen p ≡ false
    → count_unseen (with p seen) starts < count_unseen seen starts
unseen_falls [] sets p set seen e unseen = absurd cc
unseen_falls (q ∷ starts) [] p set seen e unseen = absurd cc
unseen_falls (q ∷ starts) (first ∷ sets) p set seen e unseen =
    unseen_one starts p q set seen (p == q) (Some first) (stands_in starts sets p) refl e unseen
    (λ later. unseen_falls starts sets p set seen later unseen)

-- ---- trees or a stop

-- trees from an offset, which are apart and unseen
pub record Grows (stands : ℕ → Option Elements) (p level : ℕ) (seen : Seen) : Type 0 where
  pub trees : Trees
  pub chain : IsChain stands p level trees
  pub apart : AreApart seen (offsets trees)

pub record Breaks (stands : ℕ → Option Elements) (p level : ℕ) (seen : Seen) : Type 0 where
  pub fault : DirFault
  pub stops : Stops stands p level seen fault

abbrev pub Ends : (ℕ → Option Elements) → ℕ → ℕ → Seen → Type 0
Ends stands p level seen = Grows stands p level seen ⊎ Breaks stands p level seen

-- from each offset where fewer than `n` offsets are unseen
abbrev pub EndsBelow : (ℕ → Option Elements) → List ℕ → ℕ → Type 0
EndsBelow stands starts n = (p level : ℕ) (seen : Seen) → count_unseen seen starts < n → Ends stands p level seen

module _ (stands : ℕ → Option Elements) (starts : List ℕ) where
  -- after the trees below
  after_below : (n : ℕ) → EndsBelow stands starts n → (p level : ℕ) (seen : Seen) (x : Elements × Links) → p ≢ 0
      → step_at stands p level seen ≡ Ok x → count_unseen (with p seen) starts < n
      → Grows stands x.1.lower (level + 1) (with p seen) → Ends stands p level seen
  after_below n every p level seen x some e few below =
      let past : Seen = with_all (offsets below.trees) (with p seen) in
      let left : count_unseen past starts < n =
      omega (arith, unseen_with_all (offsets below.trees) starts (with p seen)) in
      let stand = step_stands stands p level seen x e in
      elim (every x.1.next level past left) [
        | inl after ↦ inl (record {
          trees = tree (node_of p x.0 x.1) below.trees after.trees;
          chain = (x.1, stand.0, below.chain, after.chain);
          apart = tree_apart p (node_of p x.0 x.1) below.trees after.trees seen refl stand.1 below.apart after.apart;
        })
        | inr stop ↦ inr (record {
          fault = stop.fault;
          stops = record {
            way = along below.trees stop.stops.way;
            stops = (some, (x, e, below.chain, below.apart, stop.stops.stops));
          };
        })
      ]

  onward : (n : ℕ) → EndsBelow stands starts n → (p level : ℕ) (seen : Seen) (x : Elements × Links) → p ≢ 0
      → step_at stands p level seen ≡ Ok x → count_unseen (with p seen) starts < n → Ends stands p level seen
  onward n every p level seen x some e few =
      elim (every x.1.lower (level + 1) (with p seen) few) [
        | inl below ↦ after_below n every p level seen x some e few below
        | inr stop ↦ inr (record {
          fault = stop.fault;
          stops = record { way = down stop.stops.way; stops = (some, (x, e, stop.stops.stops)) };
        })
      ]

  -- a place where an item starts is one of them
  module _ (falls : (p : ℕ) (set : Elements) (seen : Seen) → stands p ≡ Some set → seen p ≡ false
      → count_unseen (with p seen) starts < count_unseen seen starts) where
    by_step : (n : ℕ) → EndsBelow stands starts n → (p level : ℕ) (seen : Seen) (r : Result (Elements × Links) DirFault)
        → p ≢ 0 → step_at stands p level seen ≡ r → count_unseen seen starts < suc n → Ends stands p level seen
    by_step n every p level seen (Err fault) some e few =
        inr (record { fault = fault; stops = record { way = here; stops = (some, e) } })
    by_step n every p level seen (Ok x) some e few =
        let stand = step_stands stands p level seen x e in
        let less = falls p x.0 seen stand.0.found stand.1 in
        onward n every p level seen x some e (omega (arith, less))

    pub ends : (n : ℕ) → EndsBelow stands starts n
    ends zero p level seen few = absurd (omega arith)
    ends (suc n) p level seen few =
        elim (cases_eq p 0) [
          | inl nowhere ↦ inl (record { trees = no_trees; chain = nowhere; apart = tt })
          | inr some ↦ by_step n (ends n) p level seen (step_at stands p level seen) some refl few
        ]

-- from any offset, whatever has been seen
pub always_ends : (starts : List ℕ) (sets : List Elements) (p level : ℕ) (seen : Seen)
    → Ends (stands_in starts sets) p level seen
always_ends starts sets p level seen =
    ends (stands_in starts sets) starts (unseen_falls starts sets) (suc (count_unseen seen starts)) p level seen
    (omega arith)
