-- Tags as numbers and as texts (PS3.5 section 7.1).
use Rattle.std.specs.Prelude.{ℕ, ◌+◌, ◌*◌, ◌-◌, ◌^◌, List, [], ◌∷◌, ◌++◌, true, false}
use Rattle.std.specs.Fmt.{digits, padded_integral, format_spec}
use Rattle.dd_elem.specs.declared.tag.Tag.{Tag}

-- group and element as one number, in the order of tags
abbrev pub number_of : Tag → ℕ
number_of tag = 65536 * tag.group + tag.element

-- a number as four hexadecimal digits or more in upper case: its digits, and zeros (flag 4) in front for a width of 4
abbrev pub four_digits : ℕ → List ℕ
four_digits n = padded_integral (format_spec 32 0 4 4 (2 ^ 64 - 1)) false [] (digits 16 true n)

-- `(gggg,eeee)`
abbrev pub text_of : Tag → List ℕ
text_of tag = 40 ∷ (four_digits tag.group ++ (44 ∷ (four_digits tag.element ++ (41 ∷ []))))
