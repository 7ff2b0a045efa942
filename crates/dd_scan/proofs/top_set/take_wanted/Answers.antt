use Rattle.std.proofs.Common.{◌∙◌, Err, ap, sym}
use Rattle.std.proofs.lemmas.Result.{err_from_is_err_and}
use Rattle.dd_encoding.specs.Spelling.{max_levels}
use Rattle.dd_grammar.specs.Reading.{At, item_reader, sequence_with}
use Rattle.dd_stream.proofs.Along.{scans_none, scans_same}
use Rattle.dd_grammar.proofs.Failing.{fails_is}
use Rattle.dd_scan.proofs.Scanned.{tells_bytes, summary_of_items}
use Rattle.dd_scan.proofs.top_set.take_wanted.Goals as goal

pub returns-in-Bytes-clause-found : goal.returns-in-Bytes-clause-found
returns-in-Bytes-clause-found g c =
    let reader = sequence_with (item_reader max_levels) in
    scans_same _ _ _ _ _ _ c.take_cleaned.ensures.found (λ all rest t few h.
    let is = rw c.in-Bytes.is at (c.in_ok-sort.ensures.exact reader all) in
    rw is (tells_bytes _ _ _ h))

pub returns-in_err-skip_content-clause-found : goal.returns-in_err-skip_content-clause-found
returns-in_err-skip_content-clause-found g c =
    let p = err_from_is_err_and c.from_residual-in_err-skip_content.result c.from_residual-in_err-skip_content.ensures.1
    in
    rw (p.1, p.2) (scans_same _ _ _ _ _ _ c.in_err-skip_content.ensures.found
    (λ all rest t few h. (h, λ is. absurd (c.in_err-skip_content.ensures.memory (ap (λ e. Err e) is)))))

pub returns-clause-found : goal.returns-clause-found
returns-clause-found g c =
    let reader = sequence_with (item_reader max_levels) in
    scans_same _ _ _ _ _ _ c.in_ok-skip_content.ensures.found (λ all rest t few h.
    let at : At = record { left = c.args.at.now.left; bytes = all } in (
      h.0,
      c.found_of_sort-value.ensures ∙ summary_of_items reader c.in_ok-sort.sort at _ h.0 c.in_default.not-Bytes
          (sym (c.in_ok-sort.ensures.exact reader all) ∙ h.1),
      h.1,
    ))

pub returns-in_err-sort-clause-found : goal.returns-in_err-sort-clause-found
returns-in_err-sort-clause-found g c =
    let p = err_from_is_err_and c.from_residual.result c.from_residual.ensures.1 in
    let reader = sequence_with (item_reader max_levels) in
    rw (p.1, p.2) (scans_none _ _ _ _ (g.met.F.Feed.stays _) (λ rest t. (
      fails_is c.in_err-sort.field-0.0 _ (c.in_err-sort.ensures.exact reader rest),
      λ is. absurd (c.in_err-sort.ensures.memory (ap (λ e. Err e) is)),
    )))
