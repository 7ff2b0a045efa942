use Rattle.std.proofs.Common.{List, [], ◌∷◌, ap₂, ◌++◌, ◌∙◌, ℕ}
use Rattle.std.specs.Prelude.{Some}
use Rattle.dd_engine.proofs.SetsGathered.{numbers_more, origins_more, uids_more, versions_more}
use Rattle.dd_engine.proofs.gathering.add_set.Goals as goal

pub returns : goal.returns
returns c = λ before uids counts held.
    let told = c.in_ok-own.ensures in
    let listing = told.0 in
    let kept = c.in_ok-keep.ensures in (
      listing,
      told.1,
      record {
        versions = versions_more before c.args.at listing.images _ _ _ held.versions kept.versions told.2.0.versions;
        origins = origins_more before c.args.at listing.images _ _ _ held.origins kept.origins told.2.0.files;
        withdrawn = uids_more uids (Some c.args.at) listing.withdrawn _ _ _ held.withdrawn kept.withdrawn
            told.2.0.withdrawn;
        by = numbers_more uids (Some c.args.at) listing.withdrawn _ _ _ held.by kept.by told.2.0.withdrawn;
        unreached = kept.unreached ∙ ap₂ (λ (a : List ℕ) (b : ℕ). a ++ b ∷ []) held.unreached told.2.1;
      },
    )
