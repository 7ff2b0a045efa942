-- Summaries of values as code has them, and the summary of a value by what a scan found (PS3.5 section 6.2).
use Rattle.std.specs.Prelude.{List, [], Option, Some, None, find}
use Rattle.dd_elem.specs.declared.tag.Tag.{Tag}
use Rattle.dd_grammar.specs.Lists.{same_tag}
use Rattle.dd_scan.specs.Scan.{Summary, sequence, fragments, cleaned, found_summary}
use Rattle.dd_scan.specs.declared.found.Found.{Found}
use Rattle.dd_scan.specs.declared.summary.Summary.{Summary as BytesSummary}

-- the summary of a value of bytes, or None where the value is a sequence
abbrev pub summary_view : Option BytesSummary → Summary
summary_view None = sequence
summary_view (Some summary) = cleaned summary.front.now summary.length

-- a summary in which fragments count as a sequence: neither is a value of bytes
abbrev pub bytes_or_sequence : Summary → Summary
bytes_or_sequence sequence = sequence
bytes_or_sequence fragments = sequence
bytes_or_sequence (cleaned front size) = cleaned front size

-- the summary of the value of an element, or of no bytes where there is no element
abbrev pub summary_of_found : Option Found → Summary
summary_of_found None = cleaned [] 0
summary_of_found (Some found) = bytes_or_sequence (found_summary found.value)

-- the summary of the value of the first element with this tag
abbrev pub summary_in : Tag → List Found → Summary
summary_in tag founds = summary_of_found (find (λ found. same_tag found.tag tag) founds)
