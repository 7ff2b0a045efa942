-- The file of one pick more.
use Rattle.std.proofs.Common.{◌≡◌, ◌∙◌, ℕ, List, [], ◌∷◌, ◌++◌, ◌+◌, ◌<◌, length, map, take, get_or}
use Rattle.std.proofs.Common.{sym, ap, subst}
use Rattle.std.proofs.lemmas.List.{map-append, take_more}
use Rattle.dd_engine.specs.declared.merge.Pick.{Pick}
use Rattle.dd_calls.specs.declared.texts.Texts.{Texts}
use Rattle.dd_calls.specs.Texts.{AreTexts, Puts}
use Rattle.dd_calls.proofs.Growing.{are_then}
use Rattle.dd_making.specs.Merges.{files_in, sets_in}

-- the files of the first picks
pub record ArePut (picks : List Pick) (i : ℕ) (sets : List ℕ) (files : Texts) : Type 0 where
  pub sets_are : sets ≡ sets_in (take i picks)
  pub files_are : AreTexts (files_in (take i picks)) files

pub put_more : (picks : List Pick) (i : ℕ) (d : Pick) (sets sets' : List ℕ) (files files' : Texts)
    → i < length picks → sets' ≡ sets ++ (get_or picks i d).set ∷ []
    → Puts ((get_or picks i d).file.now ∷ []) files files'
    → ArePut picks i sets files → ArePut picks (i + 1) sets' files'
put_more picks i d sets sets' files files' below set_put file_put so_far =
    let set : Pick → ℕ = λ (p : Pick). p.set in
    let file : Pick → List ℕ = λ (p : Pick). p.file.now in
    let front = take i picks in
    let pick = get_or picks i d in
    let more : take (i + 1) picks ≡ front ++ pick ∷ [] = take_more picks i d below in
    let all : files_in front ++ pick.file.now ∷ [] ≡ files_in (take (i + 1) picks) =
    sym (ap (λ (ps : List Pick). map file ps) more ∙ map-append file front (pick ∷ [])) in
    record {
      sets_are = set_put ∙ ap (λ (xs : List ℕ). xs ++ pick.set ∷ []) so_far.sets_are
          ∙ sym (map-append set front (pick ∷ [])) ∙ ap (λ (ps : List Pick). map set ps) (sym more);
      files_are = subst (λ (fs : List (List ℕ)). AreTexts fs files') all
          (are_then (files_in front) (pick.file.now ∷ []) files files' so_far.files_are file_put);
    }
