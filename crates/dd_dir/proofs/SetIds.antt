-- The ID of a file-set is read back from its directory as it was written.
use Rattle.std.specs.Prelude.{◌≡◌, ◌≢◌, ◌<◌, ℕ, List, length, All, get_or}
use Rattle.std.proofs.Common.{refl, ◌∙◌, ap, subst, arith, inl, inr}
use Rattle.std.proofs.lemmas.List.{get_or_push, length_push}
use Rattle.dd_elem.specs.Characters.{IsIdCharacter}
use Rattle.dd_elem.specs.Clean.{EndsUnpadded, clean_of}
use Rattle.dd_elem.specs.SetId.{IsSetId}
use Rattle.dd_elem.proofs.Cleaning.{clean_of-unpadded}
use Rattle.dd_version.specs.declared.parts.Parts.{Parts}
use Rattle.dd_records.specs.declared.label.Label.{Label}
use Rattle.dd_dir.specs.Directories.{directory_set}
use Rattle.dd_walk.specs.Saying.{id_in}
use Rattle.dd_dir.proofs.RecordsSay.{clean_of-padded}

-- a character of an ID is neither NUL nor a space
no_padding : (byte : ℕ) → IsIdCharacter byte → (byte ≢ 0) × (byte ≢ 32)
no_padding byte (inl letter) = (λ e. omega (arith, letter.0, e), λ e. omega (arith, letter.0, e))
no_padding byte (inr (inl digit)) = (λ e. omega (arith, digit.0, e), λ e. omega (arith, digit.0, e))
no_padding byte (inr (inr line)) = (λ e. omega (arith, line, e), λ e. omega (arith, line, e))

ends_unpadded : (id : List ℕ) → All IsIdCharacter id → EndsUnpadded id
ends_unpadded id all front last is =
    let within : length front < length id = omega (arith, ap length is, length_push front last) in
    let at : get_or id (length front) last ≡ last =
    ap (λ (s : List ℕ). get_or s (length front) last) is ∙ get_or_push front last last (length front) refl in
    no_padding last (subst IsIdCharacter at (all (length front) last within))

clean_id : (id : List ℕ) → IsSetId id → clean_of id ≡ id
clean_id id is = clean_of-unpadded id (ends_unpadded id is.characters)

pub id_said : (label : Label) (versions : List Parts) (withdrawn : List (List ℕ)) → IsSetId label.id
    → id_in (directory_set label versions withdrawn) ≡ label.id
id_said label versions withdrawn is = clean_of-padded 0x20 label.id refl ∙ clean_id label.id is
