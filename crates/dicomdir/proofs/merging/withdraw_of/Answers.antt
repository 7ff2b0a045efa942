-- What was made is of the answer of the engine, whose one set is the directory in the folder. Images get no hard links.
use Rattle.std.proofs.Common.{◌≡◌, ◌∙◌, Err, None, ap, false, length, map, rules}
use Rattle.dd_line.specs.Line.{words_of}
use Rattle.dicomdir.specs.Origins.{IsMemberPath}
use Rattle.dicomdir.proofs.EngineMade.{done_merges, only_one}
use Rattle.dicomdir.proofs.PrintedLines.{merge_prints}
use Rattle.dd_file_set.proofs.Unlinked.{unlinked_done}
use Rattle.dicomdir.proofs.SetsGrounds.{engine_grounds, making_grounds}
use Rattle.dicomdir.proofs.merging.withdraw_of.Goals as goal

pub returns-clause-made : goal.returns-clause-made
returns-clause-made g c = λ makes.
    let count = c.in_ok-slices.ensures.count ∙ ap (λ all. length all) c.deref.ensures.value
    ∙ c.in_ok-directories.ensures.all ∙ c.requires in
    let set = only_one c.in_ok-slices.slices.items c.index.result.now (λ slice. slice.now) count c.index.ensures
    ∙ (rw c.deref.ensures.value at c.in_ok-slices.ensures.bytes) in
    done_merges c.write_noted.result c.args.making.names.now.choice c.args.making.max_bytes
    c.args.making.names.now.withdrawn.items
    (words_of c.args.sets.now) (map (λ bytes. bytes.items) c.in_ok-directories.directories.items) ⊥
    c.args.making.folder.now _ _ c.in-Ok.noted c.in_ok-directories.ensures.read
    (rw (c.of_bytes-limits.ensures, c.deref-2.ensures.value, set) at c.in-Ok.ensures.merges)
    (unlinked_done c.write_noted.result (IsMemberPath (words_of c.args.sets.now))
    (λ _. None) c.args.making.folder.now _ _ _ _
    (rw c.in_ok-directories.ensures.kept at c.write_noted.ensures.made makes))

pub returns-clause-printed : goal.returns-clause-printed
returns-clause-printed g c =
    let making = c.args.making in
    let count = c.in_ok-slices.ensures.count ∙ ap (λ all. length all) c.deref.ensures.value
    ∙ c.in_ok-directories.ensures.all ∙ c.requires in
    let set = only_one c.in_ok-slices.slices.items c.index.result.now (λ slice. slice.now) count c.index.ensures
    ∙ (rw c.deref.ensures.value at c.in_ok-slices.ensures.bytes) in
    merge_prints g.O.Write making.style making.dry_run making.strict making.names.now.choice making.max_bytes
    making.names.now.withdrawn.items (words_of c.args.sets.now)
    (map (λ bytes. bytes.items) c.in_ok-directories.directories.items) _ c.in-Ok.noted c.args.out.now
    c.write_noted.new.out c.write_noted.result c.in_ok-directories.ensures.read
    (rw (c.of_bytes-limits.ensures, c.deref-2.ensures.value, set) at c.in-Ok.ensures.merges)
    c.write_noted.ensures.printed

pub returns-in_err-directories-clause-due : goal.returns-in_err-directories-clause-due
returns-in_err-directories-clause-due g c =
    let is : c.from_residual.result ≡ Err c.in_err-directories.field-0.0 = search rules in
    rw is (c.in_err-directories.ensures.due c.args.making.strict)

pub returns-in_err-directories-clause-grounds : goal.returns-in_err-directories-clause-grounds
returns-in_err-directories-clause-grounds g c =
    let is : c.from_residual.result ≡ Err c.in_err-directories.field-0.0 = search rules in
    rw is (c.in_err-directories.ensures.grounds c.args.making.names.now.choice c.args.making.max_bytes
    c.args.making.names.now.withdrawn.items false _)

pub returns-in-Err-clause-grounds : goal.returns-in-Err-clause-grounds
returns-in-Err-clause-grounds g c =
    let count = c.in_ok-slices.ensures.count ∙ ap (λ all. length all) c.deref.ensures.value
    ∙ c.in_ok-directories.ensures.all ∙ c.requires in
    let set = only_one c.in_ok-slices.slices.items c.index.result.now (λ slice. slice.now) count c.index.ensures
    ∙ (rw c.deref.ensures.value at c.in_ok-slices.ensures.bytes) in
    rw c.refuse.ensures.refusal (engine_grounds c.args.making.names.now.choice c.args.making.max_bytes
    c.args.making.names.now.withdrawn.items (words_of c.args.sets.now) false _ _
    (map (λ bytes. bytes.items) c.in_ok-directories.directories.items) c.in-Err.fault.fault c.in-Err.fault.conflict
    c.in_ok-directories.ensures.read
    (rw (c.of_bytes-limits.ensures, c.deref-2.ensures.value, set) at c.in-Err.ensures.merges))

pub returns-clause-grounds : goal.returns-clause-grounds
returns-clause-grounds g c =
    let count = c.in_ok-slices.ensures.count ∙ ap (λ all. length all) c.deref.ensures.value
    ∙ c.in_ok-directories.ensures.all ∙ c.requires in
    let set = only_one c.in_ok-slices.slices.items c.index.result.now (λ slice. slice.now) count c.index.ensures
    ∙ (rw c.deref.ensures.value at c.in_ok-slices.ensures.bytes) in
    making_grounds c.args.making.names.now.choice c.args.making.max_bytes c.args.making.names.now.withdrawn.items
    (words_of c.args.sets.now) false _ _ c.write_noted.result
    (map (λ bytes. bytes.items) c.in_ok-directories.directories.items) c.in-Ok.noted
    c.in_ok-directories.ensures.read
    (rw (c.of_bytes-limits.ensures, c.deref-2.ensures.value, set) at c.in-Ok.ensures.merges)
    c.write_noted.ensures.grounds
