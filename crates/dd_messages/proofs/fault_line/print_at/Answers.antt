-- The path in the line is made of the three parts, one after the other.
use Rattle.std.proofs.Common.{Some, ap, append-nil, ◌∙◌, ◌++◌, ◌∷◌, [], ℕ, List}
use Rattle.std.specs.Prelude.{codes}
use Rattle.dd_json.proofs.ValueTexts.{value-Texts}
use Rattle.dd_lines.specs.Text.{masked}
use Rattle.dd_messages.proofs.FaultLines.{three_parts, told_object, told_words}
use Rattle.dd_messages.proofs.fault_line.print_at.Goals as goal
use Rattle.serde_json.specs.Data.{string}

pub returns-in-Words : goal.returns-in-Words
returns-in-Words g c =
    let folder = c.args.folder.now in
    let joint = c.args.joint.now in
    let name = c.args.name.now in
    let words = c.args.line.words.now in
    rw c.in-Words.is (told_words g.W.Write (Some (folder ++ joint ++ name)) words _ _ _ c.print_line.result
    (ap (λ (l : List ℕ). masked (codes "FAULT " ++ l) ++ 10 ∷ [])
    (three_parts folder joint name (codes ": " ++ (words ++ []))))
    c.print_line.ensures.sent c.print_line.ensures.unsent)

pub returns-in-Json : goal.returns-in-Json
returns-in-Json g c =
    let folder = c.args.folder.now in
    let joint = c.args.joint.now in
    let name = c.args.name.now in
    rw c.in-Json.is (told_object g.W.Write (Some (folder ++ joint ++ name)) _ _ _ c.print_fault_json.result
    (value-Texts _ ∙ ap string (three_parts folder joint name [] ∙ append-nil (folder ++ joint ++ name)))
    c.print_fault_json.ensures.sent c.print_fault_json.ensures.unsent)
