use Rattle.dd_elem.proofs.FileIdForms.{decides_from_is, is_file_id_form-many}
use Rattle.dd_elem.proofs.file_id_form.is_file_id.Goals as goal

pub returns-else-separators-lt-MAX_COMPONENTS-clause-form : goal.returns-else-separators-lt-MAX_COMPONENTS-clause-form
returns-else-separators-lt-MAX_COMPONENTS-clause-form c =
    decides_from_is c.args.bytes.now _ (is_file_id_form-many c.args.bytes.now _ c.separators.ensures
    c.if-separators-lt-MAX_COMPONENTS.false)
