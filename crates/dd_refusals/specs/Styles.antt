-- How lines are printed.
use Rattle.std.specs.Prelude.{Bool, true, false}
use Rattle.dd_json.specs.declared.value.Style.{Style}
use Rattle.dd_json.specs.declared.value.Style.TheVariants.{Json, Text as Plain}

-- the style of the lines, which are JSON objects where that is asked for
abbrev pub style_by : Bool → Style
style_by true = Json
style_by false = Plain
