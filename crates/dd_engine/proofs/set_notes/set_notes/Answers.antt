use Rattle.std.proofs.Common.{rules, ◌≡◌, ◌∙◌, List, ℕ, ap, ap₂, filter, length, nat_lt}
use Rattle.std.proofs.lemmas.List.{length-map}
use Rattle.std.specs.List.{enumerate_from}
use Rattle.dd_dir.specs.OwnVersions.{version_of}
use Rattle.dd_version.specs.declared.parts.Parts.{Parts}
use Rattle.dd_engine.specs.Merging.{numbered}
use Rattle.dd_engine.specs.SetNotes.{count_among}
use Rattle.dd_engine.proofs.NewUids.{are_unlisted}
use Rattle.dd_engine.proofs.SetsGathered.{uids_withdrawn}
use Rattle.dd_engine.proofs.set_notes.set_notes.Goals as goal

pub returns-clause-all : goal.returns-clause-all
returns-clause-all c = λ listings held. record {
  images =
      let count : length c.args.gathered.now.versions.items ≡ length (numbered 0 listings) =
      ap (λ (l : List Parts). length l) held.versions
      ∙ length-map (numbered 0 listings) (λ image. version_of image.1) in
      search (rules, count, c.len.ensures);
  all_withdrawn = c.in_ok-count_of.ensures.all
      ∙ ap₂ (λ (a : List (List ℕ)) (b : List Parts). count_among a b)
      (c.deref-3.ensures.value ∙ held.withdrawn ∙ uids_withdrawn c.args.given.now listings)
      (c.deref-2.ensures.value ∙ held.versions);
  unreached = c.in_ok-unreached.ensures.all
      ∙ ap (λ (l : List ℕ). filter (λ set. nat_lt 0 set.1) (enumerate_from 0 l))
      (c.deref.ensures.value ∙ held.unreached);
  withdrawn = c.in_ok-withdrawn.ensures.all c.args.given.now listings held;
  unlisted = are_unlisted c.args.given.now listings c.args.gathered.now _ held c.in_ok-unlisted.ensures.all;
}
