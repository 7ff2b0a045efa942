-- The summary of a value by what a scan found, against the value.
use Rattle.std.proofs.Common.{◌≡◌, ℕ, List, [], Option, None, Some, refl}
use Rattle.std.specs.Prelude.{unwrap_or}
use Rattle.dd_scan.specs.Scan.{summary_of_value}
use Rattle.dd_scan.specs.Summaries.{summary_view}
use Rattle.dd_scan.specs.declared.summary.Summary.{Summary}
use Rattle.dd_report.specs.Agreements.{SumsUp}

-- a summary of bytes sums up a value of bytes
pub some_summed : (summary : Summary) (value : Option (List ℕ)) → summary_view (Some summary) ≡ summary_of_value value
    → SumsUp summary (unwrap_or value [])
some_summed summary None h = absurd (cc)
some_summed summary (Some value) h = h

-- where there is no summary, there are no bytes
pub none_summed : (value : Option (List ℕ)) → summary_view None ≡ summary_of_value value → unwrap_or value [] ≡ []
none_summed None h = refl
none_summed (Some value) h = absurd (cc)
