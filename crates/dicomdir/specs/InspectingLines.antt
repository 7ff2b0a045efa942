-- What a line to list or to check asks for.
use Rattle.std.specs.Prelude.{◌≡◌, ℕ, false, List, [], Option, None, Some, slice_index_or}
use Rattle.std.specs.Prelude.{string_bytes}
use Rattle.clap.specs.Takes.{is_given}
use Rattle.clap.specs.Words.{Row, Text}
use Rattle.dd_elem.specs.declared.device.Read.{Ghosts as ReadOf}
use Rattle.dd_elem.specs.declared.device.Write.{Ghosts as WriteOf}
use Rattle.dd_files.specs.Files.{Held}
use Rattle.dd_json.specs.declared.value.Style.{Style}
use Rattle.dd_json.specs.declared.value.Style.TheVariants.{Text as Plain}
use Rattle.dd_line.specs.Line.{given_paths, json_name, keys_name, long_name, strict_name, verb_name}
use Rattle.dd_line.specs.declared.line.Verb.TheVariants.{List as ListVerb}
use Rattle.dd_line.specs.declared.request.Request.{Request}
use Rattle.dd_line.specs.declared.request.Request.TheVariants.{Index as ToIndex, Merge as ToMerge, Withdraw as ToWithdraw}
use Rattle.dd_line.specs.declared.request.Request.TheVariants.{Stage as ToStage, Publish as ToPublish}
use Rattle.dd_line.specs.declared.request.Request.TheVariants.{Check as ToCheck, List as ToList}
use Rattle.dd_report.specs.declared.checking.Comparison.{Comparison}
use Rattle.dd_report.specs.declared.known.Form.{Form}
use Rattle.dd_report.specs.declared.known.Form.TheVariants.{Short}
use Rattle.dd_refusals.specs.Styles.{style_by}
use Rattle.dd_inspecting.specs.Inspecting.{ChecksSet, ListsSet, comparison_by, form_by}

-- the command that they name is `list`
abbrev pub IsList : Option (Text × List Row) → Type 0
IsList None = ⊥
IsList (Some (command, given)) = command ≡ verb_name ListVerb

-- the first path that they give
abbrev pub first_path : Option (Text × List Row) → Text
first_path None = []
first_path (Some (command, given)) = slice_index_or (given_paths given) 0 []

-- the form of the listing that they ask for
abbrev pub form_in : Option (Text × List Row) → Form
form_in None = Short
form_in (Some (command, given)) = form_by (is_given long_name given)

-- the style of the lines that they ask for
abbrev pub style_in : Option (Text × List Row) → Style
style_in None = Plain
style_in (Some (command, given)) = style_by (is_given json_name given)

-- what they ask to compare
abbrev pub comparison_in : Option (Text × List Row) → Comparison
comparison_in None = comparison_by false false
comparison_in (Some (command, given)) = comparison_by (is_given keys_name given) (is_given strict_name given)

-- what a request to list or to check has printed, where it ended with this status
abbrev pub PrintsRequested : {R W : Type 0} → ReadOf R → WriteOf W → (List ℕ → List ℕ → List ℕ → Type 0) → Request → Option Held → ℕ → ℕ → ℕ → W → W → Type 0
PrintsRequested readers writer shows (ToIndex x) files status old new from to = Unit {0}
PrintsRequested readers writer shows (ToMerge x) files status old new from to = Unit {0}
PrintsRequested readers writer shows (ToWithdraw x) files status old new from to = Unit {0}
PrintsRequested readers writer shows (ToStage x) files status old new from to = Unit {0}
PrintsRequested readers writer shows (ToPublish x) files status old new from to = Unit {0}
PrintsRequested readers writer shows (ToCheck x) files status old new from to =
    ChecksSet readers (string_bytes x.set) files (comparison_by x.keys x.strict) (style_by x.json) writer status old new
    from to
PrintsRequested readers writer shows (ToList x) files status old new from to =
    ListsSet writer shows (style_by x.json) (form_by x.long) (string_bytes x.set) files status from to
