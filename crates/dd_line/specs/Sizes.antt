-- Numbers of bytes, as coreutils have them: 650M is 650 times 1048576.
use Rattle.std.specs.Prelude.{◌≡◌, ◌++◌, ◌*◌, ◌⊎◌, ℕ, List, [], codes, pos}
use Rattle.std.specs.Str.Parse.{IsNumeral, signed_digits_value, without_leading_sign}

-- what stands after a number, and how many bytes it counts in
abbrev pub IsUnit : List ℕ → ℕ → Type 0
IsUnit mark bytes = ((mark ≡ []) × (bytes ≡ 1)) ⊎ ((((mark ≡ codes "K") ⊎ (mark ≡ codes "k")) × (bytes ≡ 1024))
    ⊎ (((mark ≡ codes "M") × (bytes ≡ 1048576)) ⊎ ((mark ≡ codes "G") × (bytes ≡ 1073741824))))

-- the text spells the number in decimal
abbrev pub IsNumber : List ℕ → ℕ → Type 0
IsNumber text number = IsNumeral 10 (without_leading_sign text) × (signed_digits_value 10 text ≡ pos number)

-- the text is a number and its unit, and has this many bytes
pub record IsSize (text : List ℕ) (bytes : ℕ) : Type 0 where
  pub digits : List ℕ
  pub mark : List ℕ
  pub whole : text ≡ digits ++ mark
  pub unit : ℕ
  pub is_unit : IsUnit mark unit
  pub number : ℕ
  pub is_number : IsNumber digits number
  pub value : bytes ≡ number * unit

-- the text is cut before its unit: nothing stands there only where it ends in no letter of a unit
pub record IsCut (text digits : List ℕ) (unit : ℕ) : Type 0 where
  pub mark : List ℕ
  pub whole : text ≡ digits ++ mark
  pub is_unit : IsUnit mark unit
  pub none : mark ≡ [] → (front other : List ℕ) (bytes : ℕ) → IsUnit other bytes → text ≡ front ++ other → other ≡ []
