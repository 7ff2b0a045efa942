-- What it means for a value that the checks of its row pass.
use Rattle.std.proofs.Common.{◌≡◌, ◌≤◌, ℕ, Bool, true, false, List, [], ◌∷◌, length, Option, Some, None, if◌then◌else◌}
use Rattle.std.proofs.Common.{refl, sym, ap, subst, ◌∙◌, arith, nat_lt, bytes_eq}
use Rattle.std.specs.Prelude.{unwrap_or}
use Rattle.std.proofs.lemmas.Bool.{ltb-false, le-ltb, cond-true, cond-false}
use Rattle.std.proofs.lemmas.Slice.Eq.{bytes_eq-Decides}
use Rattle.dd_elem.specs.Clean.{clean_of}
use Rattle.dd_elem.specs.Uid.{IsUid, is_uid}
use Rattle.dd_elem.specs.declared.tag.Tag.{Tag}
use Rattle.dd_elem.proofs.Cleaning.{clean_of-clean_of}
use Rattle.dd_elem.proofs.UidForm.{IsUid_from_is_uid, is_uid_from_IsUid}
use Rattle.dd_encoding.specs.Elements.{Elements, Content, bytes, items, fragments, Element}
use Rattle.dd_set.specs.Find.{find_in}
use Rattle.dd_encoding.specs.declared.meta.Meta.{Meta}
use Rattle.dd_keys.specs.declared.fault.KeyFault.{KeyFault}
use Rattle.dd_keys.specs.declared.fault.KeyFault.TheVariants.{BadKeyUid, KeyTooLong, MetaMismatch}
use Rattle.dd_keys.specs.Faults.{key_fault_of, key_fault, wanted_uid, mismatch_of, uid_fault_of, uid_fault}
use Rattle.dd_keys.specs.Table.{KeyRow, UidRow}
use Rattle.dd_keys.specs.Values.{content_value, element_value, value_at, or_other}
use Rattle.dd_keys.proofs.SetValues.{key_in, uid_in}
use Rattle.dd_keys.specs.Versions.{HasKey, HasUid}

-- ---- a value is its own clean

pub content_value-clean : (content : Content) (value : List ℕ) → content_value content ≡ Some value
    → clean_of value ≡ value
content_value-clean (bytes given) value e =
    let is : clean_of given ≡ value = cc in
    ap clean_of (sym is) ∙ clean_of-clean_of given ∙ is
content_value-clean (items form parts) value e = absurd (cc)
content_value-clean (fragments fs) value e = absurd (cc)

element_value-clean : (entry : Option Element) (value : List ℕ) → element_value entry ≡ Some value → clean_of value
    ≡ value
element_value-clean None value e = let is : [] ≡ value = cc in ap clean_of (sym is) ∙ is
element_value-clean (Some entry) value e = content_value-clean entry.content value e

pub value_at-clean : (tag : Tag) (set : Elements) (value : List ℕ) → value_at tag set ≡ Some value
    → clean_of value ≡ value
value_at-clean tag set value e = element_value-clean (find_in tag set) value e

-- ---- tests that end in no fault

none_from_false : (test : Bool) (fault : KeyFault) → (if test then Some fault else None) ≡ None → test ≡ false
none_from_false true fault e = absurd (cc)
none_from_false false fault e = refl

-- the test passes, and what follows is no fault
pub record Continues (test : Bool) (rest : Option KeyFault) : Type 0 where
  pub passes : test ≡ true
  pub rest_none : rest ≡ None

pub continues : (test : Bool) (rest : Option KeyFault) (fault : KeyFault) → (if test then rest else Some fault) ≡ None
    → Continues test rest
continues true rest fault e = record { passes = refl; rest_none = e }
continues false rest fault e = absurd (cc)

-- ---- keys

-- a value that passes the checks of a key
pub record KeyHeld (held : Option (List ℕ)) : Type 0 where
  pub value : List ℕ
  pub is : held ≡ Some value
  pub short : length value ≤ 1024

pub key_held : (tag : Tag) (held : Option (List ℕ)) → key_fault_of tag held ≡ None → KeyHeld held
key_held tag None e = absurd (cc)
key_held tag (Some value) e = record {
  value = value;
  is = refl;
  short = ltb-false 1024 (length value) (none_from_false (nat_lt 1024 (length value)) (KeyTooLong tag) e);
}

-- a row whose checks pass has its key
pub has_key : (row : KeyRow) (set : Elements) → key_fault row set ≡ None → HasKey set row (key_in row set)
has_key row set e =
    let h = key_held row.tag (value_at row.tag set) e in
    record {
      value = h.value;
      held = h.is;
      short = h.short;
      is = ap (λ (held : Option (List ℕ)). or_other (unwrap_or held []) row.when_empty) h.is;
    }

-- a row that has its key passes
pub key_passes : (set : Elements) (row : KeyRow) (key : List ℕ) → HasKey set row key → key_fault row set ≡ None
key_passes set row key h =
    ap (key_fault_of row.tag) h.held ∙ cond-false (nat_lt 1024 (length h.value)) _ _
    (le-ltb 1024 (length h.value) h.short)

-- and gives it
pub key_in-is : (set : Elements) (row : KeyRow) (key : List ℕ) → HasKey set row key → key_in row set ≡ key
key_in-is set row key h = ap (λ (held : Option (List ℕ)). or_other (unwrap_or held []) row.when_empty) h.held ∙ sym h.is

-- ---- UIDs

-- a value that passes the checks of a UID
pub record UidHeld (wanted held : Option (List ℕ)) : Type 0 where
  pub value : List ℕ
  pub is : held ≡ Some value
  pub valid : IsUid value
  pub same : (other : List ℕ) → wanted ≡ Some other → value ≡ other

same_as_wanted : (tag : Tag) (wanted : Option (List ℕ)) (value : List ℕ) → mismatch_of tag wanted value ≡ None
    → (other : List ℕ) → wanted ≡ Some other → value ≡ other
same_as_wanted tag None value e other is = absurd (cc)
same_as_wanted tag (Some wanted) value e other is =
    let equal : value ≡ wanted = (bytes_eq-Decides value wanted).0
    (continues (bytes_eq value wanted) None (MetaMismatch tag) e).passes in
    cc

pub uid_held : (tag : Tag) (wanted held : Option (List ℕ)) → uid_fault_of tag wanted held ≡ None → UidHeld wanted held
uid_held tag wanted None e = absurd (cc)
uid_held tag wanted (Some []) e = absurd (cc)
uid_held tag wanted (Some (byte ∷ value)) e =
    let next = continues (is_uid (byte ∷ value)) (mismatch_of tag wanted (byte ∷ value)) (BadKeyUid tag) e in
    record {
      value = byte ∷ value;
      is = refl;
      valid = IsUid_from_is_uid (byte ∷ value) next.passes;
      same = same_as_wanted tag wanted (byte ∷ value) next.rest_none;
    }

-- a row whose checks pass has its UID
pub has_uid : (row : UidRow) (meta : Meta) (set : Elements) → uid_fault row meta set ≡ None
    → HasUid set row.tag (uid_in row.tag set)
has_uid row meta set e =
    let h = uid_held row.tag (wanted_uid meta row.same_as) (value_at row.tag set) e in
    let is : h.value ≡ uid_in row.tag set = sym (ap (λ (held : Option (List ℕ)). unwrap_or held []) h.is) in
    subst (HasUid set row.tag) is (record { held = h.is; valid = h.valid })

-- a row whose checks pass has the UID of group 0002 that it has to repeat
pub has_wanted_uid : (row : UidRow) (meta : Meta) (set : Elements) (wanted : List ℕ) → uid_fault row meta set ≡ None
    → wanted_uid meta row.same_as ≡ Some wanted → HasUid set row.tag wanted
has_wanted_uid row meta set wanted e asks =
    let h = uid_held row.tag (wanted_uid meta row.same_as) (value_at row.tag set) e in
    subst (HasUid set row.tag) (h.same wanted asks) (record { held = h.is; valid = h.valid })

no_mismatch : (tag : Tag) (wanted : Option (List ℕ)) (value : List ℕ)
    → ((other : List ℕ) → wanted ≡ Some other → value ≡ other) → mismatch_of tag wanted value ≡ None
no_mismatch tag None value same = refl
no_mismatch tag (Some wanted) value same =
    cond-true (bytes_eq value wanted) _ _ ((bytes_eq-Decides value wanted).1 (same wanted refl))

value_passes : (tag : Tag) (wanted : Option (List ℕ)) (value : List ℕ) → IsUid value
    → ((other : List ℕ) → wanted ≡ Some other → value ≡ other) → uid_fault_of tag wanted (Some value) ≡ None
value_passes tag wanted [] valid same = absurd (omega (arith, valid.not_empty))
value_passes tag wanted (byte ∷ value) valid same =
    cond-true (is_uid (byte ∷ value)) _ _ (is_uid_from_IsUid (byte ∷ value) valid)
    ∙ no_mismatch tag wanted (byte ∷ value) same

-- a row that has its UID passes
pub uid_passes : (set : Elements) (row : UidRow) (meta : Meta) (uid : List ℕ) → HasUid set row.tag uid
    → ((other : List ℕ) → wanted_uid meta row.same_as ≡ Some other → uid ≡ other) → uid_fault row meta set ≡ None
uid_passes set row meta uid h same =
    ap (uid_fault_of row.tag (wanted_uid meta row.same_as)) h.held
    ∙ value_passes row.tag (wanted_uid meta row.same_as) uid h.valid same

-- and gives it
pub uid_in-is : (set : Elements) (tag : Tag) (uid : List ℕ) → HasUid set tag uid → uid_in tag set ≡ uid
uid_in-is set tag uid h = ap (λ (held : Option (List ℕ)). unwrap_or held []) h.held
