-- The summaries of the values of a data set at the tags of the table.
use Rattle.std.specs.Prelude.{◌≡◌, true}
use Rattle.dd_elem.specs.declared.tag.Tag.{Tag}
use Rattle.dd_encoding.specs.Elements.{Elements}
use Rattle.dd_scan.specs.Scan.{Summary, is_wanted}
use Rattle.dd_keys.specs.Table.{wanted_tags}
use Rattle.dd_keys.specs.Summaries.{summary_at}

-- at each tag of the table they tell the value of the data set
abbrev pub TellsSet : (Tag → Summary) → Elements → Type 0
TellsSet tells set = (tag : Tag) → is_wanted wanted_tags tag ≡ true → tells tag ≡ summary_at tag set
