use Rattle.std.proofs.Common.{◌≡◌, ◌∙◌, ◌++◌, List, ℕ, ap, map, rules, sym}
use Rattle.std.specs.Prelude.{None, Option}
use Rattle.dd_engine.specs.Merging.{pick_view}
use Rattle.dd_engine.proofs.SetsGathered.{numbers_numbered, uids_numbered}
use Rattle.dd_engine.proofs.gathering.Gathered.new.Goals as goal

pub returns-clause-all : goal.returns-clause-all
returns-clause-all c =
    let given = c.args.given.now in
    record {
      versions = c.new.ensures.items;
      origins = ap (map (λ pick. pick_view pick)) c.new-2.ensures.items;
      withdrawn = search rules ∙ sym (uids_numbered None given);
      by = c.in_ok-add_numbers.ensures.all
          ∙ ap (λ (l : List (Option ℕ)). l ++ map (λ _. None) given) c.in_ok-by.ensures.items
          ∙ sym (numbers_numbered None given);
      unreached = c.new-3.ensures.items;
    }
