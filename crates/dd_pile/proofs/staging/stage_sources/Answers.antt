-- The copies were made and stored, then the list.
use Rattle.std.proofs.Common.{◌∙◌, Err, ap, map, sym}
use Rattle.std.proofs.lemmas.List.{length-map}
use Rattle.std.proofs.lemmas.Result.{err_from_is_err_and}
use Rattle.dd_staged.specs.Sources.{source_view}
use Rattle.dd_pile.proofs.Refused.{is_large, unnamed}
use Rattle.dd_files.proofs.KeptFiles.{said_is, said_stored, said_then}
use Rattle.dd_pile.proofs.ListLast.{copies_alone, list_last}
use Rattle.dd_pile.specs.Paths.{IsCopyOfPile, IsListPath}
use Rattle.dd_pile.proofs.Counted.{none_unread}
use Rattle.dd_pile.proofs.StagedCopies.{copies_stored, pile_stands}
use Rattle.dd_pile.specs.Piles.{StandsBefore}
use Rattle.dd_pile.specs.declared.refusal.StageRefusal.{StageRefusal}
use Rattle.dd_pile.proofs.staging.stage_sources.Goals as goal

pub returns-in_err-write_list-clause-refusal : goal.returns-in_err-write_list-clause-refusal
returns-in_err-write_list-clause-refusal g c =
    let p = err_from_is_err_and c.from_residual-in_err-write_list.result c.from_residual-in_err-write_list.ensures.1 in
    rw (p.1, p.2) (unnamed
    (λ at. StandsBefore c.args.pile.now c.args.sources.now at (g.F.Files.held c.args.files.now)
    (g.F.Files.held c.write_list.new.files)) _
    c.in_err-write_list.ensures.refusal)

pub returns-then-is_err-clause-last : goal.returns-then-is_err-clause-last
returns-then-is_err-clause-last g c =
    let pile = c.args.pile.now in
    copies_alone pile _ _ (said_is (IsCopyOfPile pile) _ _ c.folder.ensures.kept)

pub returns-in_err-list-clause-last : goal.returns-in_err-list-clause-last
returns-in_err-list-clause-last g c =
    copies_alone c.args.pile.now _ _ (rw c.folder.ensures.kept at c.copy_sources.ensures.adds)

pub returns-in_err-store-clause-last : goal.returns-in_err-store-clause-last
returns-in_err-store-clause-last g c =
    rw (c.in_err-store.ensures.kept cc)
    (copies_alone c.args.pile.now _ _ (rw c.folder.ensures.kept at c.copy_sources.ensures.adds))

pub returns-in_err-write_list-clause-large : goal.returns-in_err-write_list-clause-large
returns-in_err-write_list-clause-large g c = λ large.
    let p = err_from_is_err_and c.from_residual-in_err-write_list.result c.from_residual-in_err-write_list.ensures.1 in
    let same = sym p.2 ∙ is_large c.from_residual-in_err-write_list.result p.0 p.1 large in
    let list = map source_view c.in_ok-list.list.items in
    record {
      list = list;
      count = length-map c.in_ok-list.list.items source_view ∙ c.in_ok-list.ensures.count;
      stand = rw (c.in_err-write_list.ensures.unmade (ap (λ (r : StageRefusal). Err r) same))
          (copies_stored c.args.pile.now c.args.sources.now list _ _ _
          (rw c.folder.ensures.kept at c.in_ok-list.ensures.stand) (c.in_ok-store.ensures.stored cc));
      large = rw c.deref.ensures.value at c.in_err-write_list.ensures.large (ap (λ (r : StageRefusal). Err r) same);
    }

pub returns-in_err-write_list-clause-last : goal.returns-in_err-write_list-clause-last
returns-in_err-write_list-clause-last g c =
    list_last c.args.pile.now _ _ _ _ (rw c.folder.ensures.kept at c.copy_sources.ensures.adds)
    (rw c.folder.ensures.kept at c.in_ok-list.ensures.ended cc) (c.in_ok-store.ensures.stored cc)
    c.write_list.ensures.adds

pub returns-in_err-store-2-clause-last : goal.returns-in_err-store-2-clause-last
returns-in_err-store-2-clause-last g c =
    rw (c.in_err-store-2.ensures.kept cc)
    (list_last c.args.pile.now _ _ _ _ (rw c.folder.ensures.kept at c.copy_sources.ensures.adds)
    (rw c.folder.ensures.kept at c.in_ok-list.ensures.ended cc) (c.in_ok-store.ensures.stored cc)
    c.write_list.ensures.adds)

pub returns-clause-made : goal.returns-clause-made
returns-clause-made g c =
    let list = map source_view c.in_ok-list.list.items in
    record {
      list = list;
      names = c.in_ok-list.ensures.names;
      stands = rw c.hide_line.ensures.kept
          (pile_stands c.args.pile.now c.args.sources.now list _ _ _ _ _
          (rw c.folder.ensures.kept at c.in_ok-list.ensures.stand)
          (rw c.folder.ensures.kept at c.copy_sources.ensures.adds)
          (rw c.folder.ensures.kept at c.in_ok-list.ensures.ended cc) (c.in_ok-store.ensures.stored cc)
          (rw c.deref.ensures.value at c.in_ok-write_list.ensures.written cc) (c.in_ok-store-2.ensures.stored cc));
      spelled = (rw c.deref.ensures.value at c.in_ok-write_list.ensures.stage (cc)) c.in_ok-list.ensures.listed;
      adds_up = rw c.deref-2.ensures.value at c.of.ensures;
    }

pub returns-clause-last : goal.returns-clause-last
returns-clause-last g c =
    let May = IsListPath c.args.pile.now in
    rw c.hide_line.ensures.kept
    (list_last c.args.pile.now _ _ _ _ (rw c.folder.ensures.kept at c.copy_sources.ensures.adds)
    (rw c.folder.ensures.kept at c.in_ok-list.ensures.ended cc) (c.in_ok-store.ensures.stored cc)
    (said_then May _ _ _ c.write_list.ensures.adds (said_stored May _ _ (c.in_ok-store-2.ensures.stored cc))))

pub returns-clause-all : goal.returns-clause-all
returns-clause-all g c = λ stops named.
    let sums = rw c.deref-2.ensures.value at c.of.ensures in
    sums.unread ∙ none_unread (map source_view c.in_ok-list.list.items) (c.in_ok-list.ensures.all stops named)
