-- The folder is the one of the set.
use Rattle.std.proofs.Common.{◌≡◌, ◌∙◌, ◌++◌, [], ℕ, List, ap, get_or, string_bytes, sym}
use Rattle.std.proofs.lemmas.List.{get_or-map}
use Rattle.std.specs.Fmt.InlineText.{inline_text}
use Rattle.dd_line.specs.Line.{words_of}
use Rattle.dicomdir.proofs.shown_path.PickShownFile.path_among.Goals as goal

pub returns : goal.returns
returns c =
    let paths = c.args.paths.now in
    let at = c.args.self.now.set in
    let folder : c.as_str-folder.result.now ≡ get_or (words_of paths) at [] =
    c.as_str-folder.ensures.value ∙ ap (λ word. string_bytes word) c.index-paths-self.is
    ∙ sym (get_or-map (λ word. string_bytes word) paths at c.index-paths-self.result [] c.requires) in
    let inside = c.if-is_joined_by_slash.result.now ++ inline_text c.of.result in
    record { inside = inside; is = ap (λ (path : List ℕ). path ++ inside) folder }
