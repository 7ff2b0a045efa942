-- Texts that are read as UIDs, one after the other.
use Rattle.std.proofs.Common.{◌≡◌, ◌∙◌, ℕ, zero, suc, List, [], ◌∷◌, ◌++◌, ◌+◌, ◌<◌, ◌≤◌, length, map, take, get_or, refl}
use Rattle.std.proofs.Common.{sym, ap, arith, subst}
use Rattle.std.proofs.lemmas.List.{map-append, take_all, take_more}
use Rattle.std.specs.Borrow.{Bor}
use Rattle.std.specs.List.{AllByRecursion}
use Rattle.dd_elem.specs.Uid.{IsUid}
use Rattle.dd_calls.specs.declared.answer.Answer.{Answer}
use Rattle.dd_making.specs.Merges.{HasNoUid}
use Rattle.dd_making.specs.Refusals.{of_input}

abbrev pub texts_in : List (Bor (List ℕ)) → List (List ℕ)
texts_in texts = map (λ (text : Bor (List ℕ)). text.now) texts

-- the first texts are UIDs, and these
pub record AreRead (texts : List (Bor (List ℕ))) (i : ℕ) (uids : List (List ℕ)) : Type 0 where
  pub uids_are : uids ≡ texts_in (take i texts)
  pub each : AllByRecursion IsUid (texts_in (take i texts))

pub none_read : (texts : List (Bor (List ℕ))) → AreRead texts 0 []
none_read texts = record { uids_are = refl; each = tt }

all_more : (uids : List (List ℕ)) (uid : List ℕ) → AllByRecursion IsUid uids → IsUid uid
    → AllByRecursion IsUid (uids ++ uid ∷ [])
all_more [] uid all is = (is, tt)
all_more (u ∷ uids) uid all is = (all.0, all_more uids uid all.1 is)

front_more : (texts : List (Bor (List ℕ))) (i : ℕ) (d : Bor (List ℕ)) → i < length texts
    → texts_in (take (i + 1) texts) ≡ texts_in (take i texts) ++ (get_or texts i d).now ∷ []
front_more texts i d below =
    let now : Bor (List ℕ) → List ℕ = λ (text : Bor (List ℕ)). text.now in
    ap (λ (ts : List (Bor (List ℕ))). map now ts) (take_more texts i d below)
    ∙ map-append now (take i texts) (get_or texts i d ∷ [])

pub read_more : (texts : List (Bor (List ℕ))) (i : ℕ) (d : Bor (List ℕ)) (uid : List ℕ) (uids more : List (List ℕ))
    → i < length texts → IsUid (get_or texts i d).now → uid ≡ (get_or texts i d).now → more ≡ uids ++ uid ∷ []
    → AreRead texts i uids → AreRead texts (i + 1) more
read_more texts i d uid uids more below is value pushed so_far =
    let step = front_more texts i d below in
    record {
      uids_are = pushed ∙ ap (λ (us : List (List ℕ)). us ++ uid ∷ []) so_far.uids_are
          ∙ ap (λ (u : List ℕ). texts_in (take i texts) ++ u ∷ []) value ∙ sym step;
      each = subst (λ (us : List (List ℕ)). AllByRecursion IsUid us) (sym step)
          (all_more (texts_in (take i texts)) (get_or texts i d).now so_far.each is);
    }

pub all_read : (texts : List (Bor (List ℕ))) (i : ℕ) (uids : List (List ℕ)) → length texts ≤ i → AreRead texts i uids
    → AreRead texts (length texts) uids
all_read texts i uids past so_far =
    let now : Bor (List ℕ) → List ℕ = λ (text : Bor (List ℕ)). text.now in
    let same : take i texts ≡ take (length texts) texts =
    take_all i texts past ∙ sym (take_all (length texts) texts (omega arith)) in
    record {
      uids_are = so_far.uids_are ∙ ap (λ (ts : List (Bor (List ℕ))). map now ts) same;
      each = subst (λ (ts : List (Bor (List ℕ))). AllByRecursion IsUid (map now ts)) same so_far.each;
    }

-- ---- the first text that is no UID

text_at : (texts : List (Bor (List ℕ))) (i : ℕ) (d : Bor (List ℕ)) → i < length texts
    → (get_or texts i d).now ≡ get_or (texts_in texts) i []
text_at [] i d below = absurd (omega (arith, below))
text_at (t ∷ texts) zero d below = refl
text_at (t ∷ texts) (suc i) d below = text_at texts i d (omega (arith, below))

front_of : (texts : List (Bor (List ℕ))) (i : ℕ) → texts_in (take i texts) ≡ take i (texts_in texts)
front_of [] zero = refl
front_of [] (suc i) = refl
front_of (t ∷ texts) zero = refl
front_of (t ∷ texts) (suc i) = ap (λ (ts : List (List ℕ)). t.now ∷ ts) (front_of texts i)

texts_many : (texts : List (Bor (List ℕ))) → length (texts_in texts) ≡ length texts
texts_many [] = refl
texts_many (t ∷ texts) = ap (λ (n : ℕ). suc n) (texts_many texts)

front_many : (texts : List (Bor (List ℕ))) (i : ℕ) → i ≤ length texts → length (texts_in (take i texts)) ≡ i
front_many [] zero below = refl
front_many [] (suc i) below = absurd (omega (arith, below))
front_many (t ∷ texts) zero below = refl
front_many (t ∷ texts) (suc i) below = ap (λ (n : ℕ). suc n) (front_many texts i (omega (arith, below)))

pub no_uid : (texts : List (Bor (List ℕ))) (i n : ℕ) (d : Bor (List ℕ)) (uids : List (List ℕ)) (answer : Answer)
    → i < length texts → ¬ IsUid (get_or texts i d).now → n ≡ length uids → answer ≡ of_input 71 n
    → AreRead texts i uids → HasNoUid (texts_in texts) answer
no_uid texts i n d uids answer below bad many is so_far =
    let all = texts_many texts in
    let count : n ≡ i = many ∙ ap (λ (us : List (List ℕ)). length us) so_far.uids_are
    ∙ front_many texts i (omega (arith, below)) in
    record {
      at = i;
      below = omega (arith, below, all);
      bad = subst (λ (t : List ℕ). ¬ IsUid t) (text_at texts i d below) bad;
      before = subst (λ (us : List (List ℕ)). AllByRecursion IsUid us) (front_of texts i) so_far.each;
      answers = is ∙ ap (λ (k : ℕ). of_input 71 k) count;
    }
