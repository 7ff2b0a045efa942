-- Images whose UID is among some.
use Rattle.std.proofs.Common.{◌≡◌, ◌<◌, ◌≤◌, ◌+◌, ◌∙◌, ℕ, Bool, true, false, cond, not, List, [], ◌∷◌, ap, ap₂, arith}
use Rattle.std.proofs.Common.{filter, get_or, length, map, refl, sym, take}
use Rattle.std.proofs.lemmas.List.{length-take-le}
use Rattle.std.proofs.lemmas.List.Filters.{length-filter_both, length-filter_more}
use Rattle.std.specs.List.{zip}
use Rattle.std.specs.Prelude.{◌||◌, Option, Some, if◌then◌else◌, is_some}
use Rattle.dd_catalogue.specs.Conflicts.{same}
use Rattle.dd_version.specs.declared.parts.Parts.{Parts}
use Rattle.dd_engine.specs.Mentions.{first_number}
use Rattle.dd_engine.specs.SetNotes.{count_among, is_among}

-- a UID that is mentioned with a number is among them
pub among_number : (uids : List (List ℕ)) (uid : List ℕ)
    → is_some (first_number (zip (map (λ _. Some 0) uids) uids) uid) ≡ is_among uids uid
among_number [] uid = refl
among_number (one ∷ more) uid = go (same one uid) (among_number more uid)
  where
    go : (t : Bool) → is_some (first_number (zip (map (λ _. Some 0) more) more) uid) ≡ is_among more uid
        → is_some (if t then Some 0 else first_number (zip (map (λ _. Some 0) more) more) uid)
        ≡ (t || is_among more uid)
    go true later = refl
    go false later = later

-- no version has one of no UIDs
pub none_among : (versions : List Parts) → count_among [] versions ≡ 0
none_among [] = refl
none_among (version ∷ versions) = none_among versions

-- no more are counted than were looked at
pub few_among : (uids : List (List ℕ)) (versions : List Parts) (i : ℕ) → i ≤ length versions
    → count_among uids (take i versions) ≤ i
few_among uids versions i within =
    let both = length-filter_both (λ (version : Parts). is_among uids version.instance)
    (λ version. not (is_among uids version.instance)) (λ version. refl) (take i versions) in
    let most = length-take-le i versions within in
    omega (arith, both, most)

-- one version more
pub counted_more : (uids : List (List ℕ)) (versions : List Parts) (i : ℕ) (version : Parts) (count : ℕ) (t : Bool)
    → i < length versions → version ≡ get_or versions i version → is_among uids version.instance ≡ t
    → count ≡ count_among uids (take i versions) → count + cond t 1 0 ≡ count_among uids (take (i + 1) versions)
counted_more uids versions i version count t below here among counted =
    let p : Parts → Bool = λ v. is_among uids v.instance in
    let more = length-filter_more p versions i version below in
    ap₂ (λ (n : ℕ) (b : Bool). n + cond b 1 0) counted (sym among ∙ ap p here) ∙ sym more

pub not_counted : (count : ℕ) → count ≡ count + cond false 1 0
not_counted count = omega arith
