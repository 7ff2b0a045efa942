-- The line of an object that was printed.
use Rattle.std.proofs.Common.{List, Result, subst}
use Rattle.std.specs.Borrow.{Bor}
use Rattle.std.specs.Prelude.{OnOk}
use Rattle.dd_elem.specs.declared.device.Write.{Ghosts as WriteOf}
use Rattle.dd_json.proofs.ValueTexts.{Named, Sees, object_is}
use Rattle.dd_json.specs.Values.{json_line, value_of}
use Rattle.dd_json.specs.declared.value.Json.{Object}
use Rattle.dd_lines.specs.Text.{TakesText}
use Rattle.serde_json.specs.Data.{Data, Members, object}

-- it has the members that these stand for
pub object_taken : {W T E : Type 0} (writer : WriteOf W) (r : Result T E) (members : Bor (List Named)) (ms : Members)
    (a b : W) → OnOk r (TakesText writer a b (json_line (value_of (Object members)))) → Sees members.now ms
    → OnOk r (TakesText writer a b (json_line (object ms)))
object_taken writer r members ms a b took sees =
    subst (λ (x : Data). OnOk r (TakesText writer a b (json_line x))) (object_is members ms sees) took
