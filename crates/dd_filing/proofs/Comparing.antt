-- What a copied file is, compared with the planned version, from the version that was read of it.
use Rattle.std.proofs.Common.{◌≡◌, ℕ, List, Option, None, Some, Ok, refl, sym, ◌∙◌, subst}
use Rattle.dd_elem.specs.declared.device.Write.{Ghosts as WriteOf}
use Rattle.dd_version.specs.declared.parts.Parts.{Parts}
use Rattle.dd_keys.specs.Versions.{IsVersion}
use Rattle.dd_filing.specs.declared.agreeing.Filed.{Filed}
use Rattle.dd_filing.specs.declared.agreeing.Filed.TheVariants.{AsPlanned, OtherVersion, Mislabelled}
use Rattle.dd_filing.specs.Filing.{IsCopyOfVersion, IsFileAs, IsFiled, IsVersionAs, IsVersionOrNone}

-- a file is what its version is, since it has one version at most
pub version_as : (planned : Parts) (said : Option Parts) (version : Parts) (filed : Filed) (file : List ℕ)
    → ((file : List ℕ) (one other : Parts) → IsVersion file one → IsVersion file other → one ≡ other)
    → IsVersion file version → IsVersionAs planned said filed version → IsFileAs planned said filed file
version_as planned said version AsPlanned file one is same = (version, (is, same))
version_as planned said version OtherVersion file one is same = (version, (is, same))
version_as planned said version Mislabelled file one is same =
    λ other its. subst (IsVersionAs planned said Mislabelled) (one file version other is its) same

-- the copied bytes are a file of a version
pub version_filed : {W : Type 0} (writer : WriteOf W) (planned : Parts) (said : Option Parts) (version : Parts)
    (filed : Filed) (limit : ℕ)
    (given : List ℕ) (left : Option (List ℕ)) (read_old read_new : ℕ) (old new : W)
    → ((file : List ℕ) (one other : Parts) → IsVersion file one → IsVersion file other → one ≡ other)
    → (found : Option Parts) → found ≡ Some version
    → IsCopyOfVersion writer old new (Ok found) limit given left read_old read_new
    → IsVersionAs planned said filed version
    → IsFiled writer old new planned said (Ok filed) limit given left read_old read_new
version_filed writer planned said version filed limit given left read_old read_new old new one found some h same =
    let is : IsVersion given version = subst (λ (v : Option Parts). IsVersionOrNone given v) some h.0 in
    (version_as planned said version filed given one is same, h.1)

-- the copied bytes are a file of no version
pub no_version_filed : {W : Type 0} (writer : WriteOf W) (planned : Parts) (said : Option Parts) (limit : ℕ)
    (given : List ℕ)
    (left : Option (List ℕ)) (read_old read_new : ℕ) (old new : W)
    → (found : Option Parts) → found ≡ None
    → IsCopyOfVersion writer old new (Ok found) limit given left read_old read_new
    → IsFiled writer old new planned said (Ok Mislabelled) limit given left read_old read_new
no_version_filed writer planned said limit given left read_old read_new old new found none h =
    let no : (version : Parts) → ¬ IsVersion given version =
    subst (λ (v : Option Parts). IsVersionOrNone given v) none h.0 in
    (λ version is. absurd (no version is), h.1)

-- ---- a file is only one of these

-- a file has one digest
same_digest : (file : List ℕ) (one other : Parts) → IsVersion file one → IsVersion file other
    → one.digest ≡ other.digest
same_digest file one other is its = is.digest ∙ sym its.digest

pub one_filed : (planned : Parts) (said : Option Parts) (file : List ℕ) (filed other : Filed)
    → IsFileAs planned said filed file
    → IsFileAs planned said other file → filed ≡ other
one_filed planned said file AsPlanned AsPlanned a b = refl
one_filed planned said file AsPlanned OtherVersion a b =
    absurd (b.1.1 (same_digest file b.0 a.0 b.1.0 a.1.0 ∙ a.1.1.filed.digest))
one_filed planned said file AsPlanned Mislabelled a b = absurd ((b a.0 a.1.0).1 a.1.1)
one_filed planned said file OtherVersion AsPlanned a b =
    absurd (a.1.1 (same_digest file a.0 b.0 a.1.0 b.1.0 ∙ b.1.1.filed.digest))
one_filed planned said file OtherVersion OtherVersion a b = refl
one_filed planned said file OtherVersion Mislabelled a b = absurd (a.1.1 (b a.0 a.1.0).0)
one_filed planned said file Mislabelled AsPlanned a b = absurd ((a b.0 b.1.0).1 b.1.1)
one_filed planned said file Mislabelled OtherVersion a b = absurd (b.1.1 (a b.0 b.1.0).0)
one_filed planned said file Mislabelled Mislabelled a b = refl
