-- The ID and the names are the patient's.
use Rattle.std.proofs.Common.{◌≡◌, ℕ, List, [], ap, ap₂, length, rules}
use Rattle.dd_json.specs.Values.{json_line}
use Rattle.dd_json.specs.declared.value.Style.TheVariants.{Json, Text}
use Rattle.dd_lines.specs.Text.{TakesText}
use Rattle.dd_messages.proofs.OkAnswers.{on_ok_by}
use Rattle.dd_messages.specs.NoteLines.{names_json, names_words}
use Rattle.dicomdir.specs.Said.{IsNames}
use Rattle.serde_json.specs.Data.{Data, null}
use Rattle.dicomdir.proofs.note_lines.tell_names_of.Goals as goal

pub returns-in-Text-clause-told : goal.returns-in-Text-clause-told
returns-in-Text-clause-told g c =
    let patient = c.args.patient.now in
    let id = c.as_bytes-id.result.now in
    let same : id ≡ patient.id = search rules in
    rw c.in-Text.is (on_ok_by c.print_names.result
    (λ (told : (more : List (List ℕ))
    × TakesText g.O.Write c.args.out.now c.print_names.new.out (names_words id more)).
    let is : IsNames Text patient (names_words id told.0) = record {
      more = told.0;
      names = null;
      is = ap (λ (id : List ℕ). names_words id told.0) same;
    } in (names_words id told.0, is, told.1)) c.print_names.ensures.told)

pub returns-in-Json-clause-told : goal.returns-in-Json-clause-told
returns-in-Json-clause-told g c =
    let patient = c.args.patient.now in
    let id = c.as_bytes-id.result.now in
    let count = length c.names-names.result.now in
    let same : id ≡ patient.id = search rules in
    let counted : count ≡ length patient.names = search rules in
    rw c.in-Json.is (on_ok_by c.print_names_json.result
    (λ (told : (shown : Data)
    × TakesText g.O.Write c.args.out.now c.print_names_json.new.out (json_line (names_json id count shown))).
    let line = json_line (names_json id count told.0) in
    let is : IsNames Json patient line = record {
      more = [];
      names = told.0;
      is = ap₂ (λ (id : List ℕ) (count : ℕ). json_line (names_json id count told.0)) same counted;
    } in (line, is, told.1)) c.print_names_json.ensures.told)
