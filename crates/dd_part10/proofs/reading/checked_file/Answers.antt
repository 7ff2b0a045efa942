use Rattle.std.proofs.Common.{◌≡◌, Err, ap}
use Rattle.std.proofs.lemmas.Result.{err_from_is_err_and}
use Rattle.dd_grammar.specs.declared.fault.SetFault.TheVariants.{Memory}
use Rattle.dd_part10.specs.declared.fault.FileFault.TheVariants as faults
use Rattle.dd_part10.proofs.Wanting.{fault_is, group_wants, set_wants}
use Rattle.dd_part10.proofs.reading.checked_file.Goals as goal

pub returns-in_err-meta-clause-group : goal.returns-in_err-meta-clause-group
returns-in_err-meta-clause-group c = λ memory.
    let p = err_from_is_err_and c.from_residual-in_err-meta.result c.from_residual-in_err-meta.ensures.1 in
    let refused : c.in_err-meta.field-0.0 ≡ faults.Meta Memory = fault_is _ _ _ _ p.1 p.2 memory in
    group_wants c.args.bytes.now c.in_ok-rest.rest.now c.in_ok-group.group.now c.in_ok-group.rest.now
    c.in_ok-rest.ensures.exact c.in_ok-group.ensures.exact
    (c.in_err-meta.ensures.group (ap (λ e. Err e) refused))

pub returns-in_err-set-clause-set : goal.returns-in_err-set-clause-set
returns-in_err-set-clause-set c = λ memory.
    let p = err_from_is_err_and c.from_residual-in_err-set.result c.from_residual-in_err-set.ensures.1 in
    let refused : c.in_err-set.field-0.0 ≡ faults.Set Memory = fault_is _ _ _ _ p.1 p.2 memory in
    set_wants c.args.bytes.now c.in_ok-rest.rest.now c.in_ok-group.group.now c.in_ok-group.rest.now c.in_ok-meta.meta
    c.in_ok-syntax.syntax
    c.in_ok-rest.ensures.exact c.in_ok-group.ensures.exact c.in_ok-meta.ensures.exact c.in_ok-syntax.ensures.exact
    (c.in_err-set.ensures.set (ap (λ e. Err e) refused))
