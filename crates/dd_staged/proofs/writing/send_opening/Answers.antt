use Rattle.std.proofs.Common.{rules, arith, ◌≡◌, ◌<◌, List, ap, map}
use Rattle.byteorder.specs.Endian.{little_bytes}
use Rattle.dd_elem.specs.declared.vr.Vr.TheVariants.{SQ}
use Rattle.std.proofs.lemmas.Result.{err_from_is_err_and}
use Rattle.dd_encoding.specs.Elements.{Element, elements_of}
use Rattle.dd_encoding.specs.Spelling.{elements_text, header_limit, undefined_length}
use Rattle.dd_stream.proofs.Going.{first_fails, then_sends, sends_same}
use Rattle.dd_staged.specs.Cells.{cell_element}
use Rattle.dd_staged.specs.Stages.{front_elements}
use Rattle.dd_staged.proofs.writing.send_opening.Goals as goal

pub returns-in_err-sent : goal.returns-in_err-sent
returns-in_err-sent g c =
    let p = err_from_is_err_and c.from_residual.result c.from_residual.ensures.1 in
    let is : map cell_element c.front_cells.result ≡ front_elements (little_bytes 4 c.args.count) = search rules in
    rw (p.1, p.2) (first_fails _ _ _ _ _ _ _ _ (sends_same _ _ _ _ _ _ _ _
    (ap (λ (es : List Element). elements_text (elements_of es)) is) c.in_err-sent.ensures))

pub returns : goal.returns
returns g c =
    let is : map cell_element c.front_cells.result ≡ front_elements (little_bytes 4 c.args.count) = search rules in
    let room : undefined_length < header_limit SQ = omega arith in
    then_sends _ _ _ _ _ _ _ _ _ _ _ (sends_same _ _ _ _ _ _ _ _
    (ap (λ (es : List Element). elements_text (elements_of es)) is) c.in_ok-sent.ensures)
    (c.send_header.ensures.sends room)
