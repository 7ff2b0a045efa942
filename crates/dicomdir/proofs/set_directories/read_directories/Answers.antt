use Rattle.std.proofs.Common.{◌≡◌, ◌∙◌, ◌+◌, [], ℕ, Err, List, Option, ap, arith, get_or, length, map, rules}
use Rattle.std.proofs.Common.{string_bytes, subst, sym}
use Rattle.std.proofs.lemmas.List.{get_or-map, length-map, length_push, map_push}
use Rattle.dd_files.specs.Files.{Held}
use Rattle.dd_line.specs.Line.{words_of}
use Rattle.dicomdir.proofs.EngineMade.{directory_more}
use Rattle.dicomdir.proofs.SetsGrounds.{read_grounds}
use Rattle.dd_inspecting.specs.Grounds.{GroundsOfCheck}
use Rattle.dd_inspecting.specs.Directories.{HasDirectory}
use Rattle.dicomdir.proofs.set_directories.read_directories.Goals as goal

pub loop-at-preserved : goal.loop-at-preserved
loop-at-preserved g c =
    let folders = c.args.folders.now in
    let at = c.loop-at.at in
    let all = c.loop-at.all.items in
    let bytes = c.in_ok-bytes.bytes in
    let before = c.loop-at.invariant in
    let item = c.index-folders-at.result in
    let folder : c.as_str.result.now ≡ get_or (words_of folders) at [] =
    c.as_str.ensures.value ∙ ap (λ word. string_bytes word) c.index-folders-at.is
    ∙ sym (get_or-map (λ word. string_bytes word) folders at item [] (omega (arith, c.loop-at-test.true))) in
    let read = subst (λ (path : List ℕ). HasDirectory path bytes.items (g.F.Files.held c.loop-at.files)) folder
    c.in_ok-bytes.ensures.read in
    record {
      count = ap (λ items. length items) c.in-Ok.ensures.items ∙ length_push all bytes ∙ ap (λ n. n + 1) before.count;
      read = rw (c.in-Ok.ensures.items, map_push (λ bytes. bytes.items) all bytes)
          (directory_more (words_of folders) (map (λ bytes. bytes.items) all) at bytes.items
          (g.F.Files.held c.args.files.now)
          (omega (arith, c.loop-at-test.true, length-map folders (λ word. string_bytes word))) before.read
          (subst (λ (files : Option Held). HasDirectory (get_or (words_of folders) at []) bytes.items files) before.kept
          read));
      kept = c.advance.ensures.kept ∙ c.in_ok-bytes.ensures.kept ∙ before.kept;
    }

pub returns-in_err-bytes-clause-due : goal.returns-in_err-bytes-clause-due
returns-in_err-bytes-clause-due g c = λ strict.
    let is : c.from_residual.result ≡ Err c.in_err-bytes.field-0.0 = search rules in
    rw is (c.in_err-bytes.ensures.due strict)

pub returns-in_err-bytes-clause-grounds : goal.returns-in_err-bytes-clause-grounds
returns-in_err-bytes-clause-grounds g c = λ choice most given links new.
    let is : c.from_residual.result ≡ Err c.in_err-bytes.field-0.0 = search rules in
    let folders = c.args.folders.now in
    let at = c.loop-at.at in
    let item = c.index-folders-at.result in
    let refusal = c.in_err-bytes.field-0.0 in
    let folder : get_or (words_of folders) at [] ≡ c.as_str.result.now =
    get_or-map (λ word. string_bytes word) folders at item [] (omega (arith, c.loop-at-test.true))
    ∙ sym (c.as_str.ensures.value ∙ ap (λ word. string_bytes word) c.index-folders-at.is) in
    rw is (read_grounds choice most given (words_of folders) links (g.F.Files.held c.args.files.now) new at
    c.as_str.result.now
    refusal.subject refusal.fault folder c.in_err-bytes.ensures.long
    (subst (λ (files : Option Held). GroundsOfCheck c.as_str.result.now files refusal.fault) c.loop-at.invariant.kept
    c.in_err-bytes.ensures.grounds))
