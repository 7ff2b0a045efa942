-- Several texts, of which each is read as a UID: where one of them is not a UID, and the UIDs that were read.
use Rattle.std.proofs.Common.{◌≡◌, ◌∙◌, ◌++◌, ◌<◌, ℕ, zero, suc, List, [], ◌∷◌, String, Result, Ok, Err, IfErr}
use Rattle.std.proofs.Common.{ap, append_assoc, arith, get_or, length, refl, string_bytes, subst, sym}
use Rattle.std.specs.declared.alloc.Global.{Global}
use Rattle.dd_catalogue.proofs.FirstAndRest.{first_and_rest, rest_of}
use Rattle.dd_elem.specs.Uid.{IsUid}
use Rattle.dd_line.specs.Line.{words_of}
use Rattle.dicomdir.specs.Names.{HasBadUid}
use Rattle.dd_faults.specs.Refusal.{IsBadLine}
use Rattle.dd_faults.specs.declared.refusal.ProgramFault.{ProgramFault}

first_bad : (text : String Global) (texts : List (String Global)) → ¬ IsUid (string_bytes text)
    → HasBadUid (text ∷ texts)
first_bad text texts bad = (string_bytes text, (0, omega arith, refl), bad)

later_bad : (text : String Global) (texts : List (String Global)) → HasBadUid texts → HasBadUid (text ∷ texts)
later_bad text texts (uid, (at, within, is), bad) = (uid, (suc at, omega (arith, within), is), bad)

still_bad : (text : String Global) (texts : List (String Global)) → IsUid (string_bytes text)
    → HasBadUid (text ∷ texts) → HasBadUid texts
still_bad text texts good (uid, (zero, within, is), bad) = absurd (bad (subst IsUid is good))
still_bad text texts good (uid, (suc at, within, is), bad) = (uid, (at, omega (arith, within), is), bad)

-- where the first of the texts is read
module _ (texts : List (String Global)) (text : String Global) (some : 0 < length texts)
    (read : text ≡ get_or texts 0 text) where
  pub bad_at : ¬ IsUid (string_bytes text) → HasBadUid texts
  bad_at bad = subst HasBadUid (sym (first_and_rest texts text some read)) (first_bad text (rest_of texts) bad)

  pub bad_behind : HasBadUid (rest_of texts) → HasBadUid texts
  bad_behind bad = subst HasBadUid (sym (first_and_rest texts text some read)) (later_bad text (rest_of texts) bad)

  pub bad_left : IsUid (string_bytes text) → HasBadUid texts → HasBadUid (rest_of texts)
  bad_left good bad =
      still_bad text (rest_of texts) good (subst HasBadUid (first_and_rest texts text some read) bad)

  -- the UIDs so far, and then the texts that remain, are still all texts
  pub uid_read : (uids more all : List (List ℕ)) (uid : List ℕ) → more ≡ uids ++ uid ∷ [] → uid ≡ string_bytes text
      → uids ++ words_of texts ≡ all → more ++ words_of (rest_of texts) ≡ all
  uid_read uids more all uid grown is so_far =
      ap (λ (all : List (List ℕ)). all ++ words_of (rest_of texts)) grown
      ∙ append_assoc uids (uid ∷ []) (words_of (rest_of texts))
      ∙ ap (λ (first : List ℕ). uids ++ first ∷ words_of (rest_of texts)) is
      ∙ ap (λ (all : List (String Global)). uids ++ words_of all) (sym (first_and_rest texts text some read))
      ∙ so_far

pub whatever_fault : {A : Type 0} (r : Result A ProgramFault) (Q : Type 0) → Q → IfErr r (λ fault. IsBadLine fault → Q)
whatever_fault (Ok a) Q q = tt
whatever_fault (Err fault) Q q = λ line. q
