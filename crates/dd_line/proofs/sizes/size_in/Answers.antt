-- A text that is a size is cut where its unit is.
use Rattle.std.proofs.Common.{refl}
use Rattle.dd_line.proofs.SizeCuts.{number_least, product_fits, same_cut, same_number}
use Rattle.dd_line.proofs.sizes.size_in.Goals as goal

pub returns-in_err-number-clause-none : goal.returns-in_err-number-clause-none
returns-in_err-number-clause-none c = λ none bytes few size.
    let cut = same_cut c.args.text.now c.parts-unit.result.0.now size.digits size.mark c.parts-unit.result.1 size.unit
    c.parts-unit.ensures size.is_unit size.whole size.is_number.0 in
    c.in_err-number.ensures.none refl size.number (number_least c.args.text.now bytes 4294967295 size few)
    (rw cut.0 size.is_number)

pub returns-clause-none : goal.returns-clause-none
returns-clause-none c = λ none bytes few size.
    let cut = same_cut c.args.text.now c.parts-unit.result.0.now size.digits size.mark c.parts-unit.result.1 size.unit
    c.parts-unit.ensures size.is_unit size.whole size.is_number.0 in
    let number = c.in_ok-number.ensures.some in
    product_fits c.checked_mul.result c.in_ok-number.number c.parts-unit.result.1 size.number size.unit bytes
    c.checked_mul.ensures none (same_number c.parts-unit.result.0.now c.in_ok-number.number size.number number
    (rw cut.0 size.is_number)) cut.1 size.value few
