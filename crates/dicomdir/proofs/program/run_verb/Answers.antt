-- A command is done where it has made its file-set: of the folder, the label and the limit of its request.
use Rattle.std.proofs.Common.{◌∙◌, refl, rules}
use Rattle.dd_line.specs.Line.{words_of}
use Rattle.dd_inputs.proofs.HavingPaths.{all_named}
use Rattle.dd_faults.specs.declared.refusal.Refusal.{Refusal}
use Rattle.dicomdir.proofs.LinesMade.{index_done, merge_done, publish_done, publish_status, stage_status}
use Rattle.dicomdir.proofs.LinesSaid.{index_said, merge_said, publish_said}
use Rattle.dicomdir.proofs.StagedSources.{done_stages}
use Rattle.dicomdir.proofs.program.run_verb.Goals as goal

pub returns-in-Index-clause-last : goal.returns-in-Index-clause-last
returns-in-Index-clause-last g c = rw c.in-Index.is (rw c.of-making.ensures.folder at c.run_index.ensures.last)

pub returns-in-Merge-clause-last : goal.returns-in-Merge-clause-last
returns-in-Merge-clause-last g c = rw c.in-Merge.is (rw c.of-making-in-Merge.ensures.folder at c.run_merge.ensures.last)

pub returns-in-Withdraw-clause-last : goal.returns-in-Withdraw-clause-last
returns-in-Withdraw-clause-last g c =
    rw c.in-Withdraw.is (rw c.of-making-in-Withdraw.ensures.folder at c.run_withdraw.ensures.last)

pub returns-in-Stage-clause-last : goal.returns-in-Stage-clause-last
returns-in-Stage-clause-last g c = rw c.in-Stage.is c.run_stage.ensures.last

pub returns-in_ok-folder-in-Publish-clause-last : goal.returns-in_ok-folder-in-Publish-clause-last
returns-in_ok-folder-in-Publish-clause-last g c =
    let looked = rw (c.from_of.ensures, c.in-Publish.is, c.as_str.ensures.value) at c.in_ok-folder-in-Publish.ensures in
    let folder = c.as_str-in-Publish.ensures.value ∙ looked in
    rw c.in-Publish.is (rw folder at c.run_publish.ensures.last)

pub returns-in-Index-clause-made : goal.returns-in-Index-clause-made
returns-in-Index-clause-made g c = rw c.in-Index.is (λ names have makes.
    let of = c.of-making.ensures in
    index_done {E = Refusal} c.run_index.result _ _ _ _ _ _
    (rw (of.folder, of.names, of.limit) at c.run_index.ensures.made names have (of.dry ∙ makes)))

pub returns-in-Merge-clause-made : goal.returns-in-Merge-clause-made
returns-in-Merge-clause-made g c = rw c.in-Merge.is (λ names have makes.
    let of = c.of-making-in-Merge.ensures in
    let none = rw c.in-Merge.is at c.requires.none in
    let same = all_named names (words_of c.args.sources.now) (rw (none refl) at have) in
    merge_done {E = Refusal} c.run_merge.result _ _ _ _ _ _ _ _ c.run_merge.ensures.status
    (rw (same, of.folder, of.names, of.limit, of.link) at c.run_merge.ensures.made (of.dry ∙ makes)))

pub returns-in-Withdraw-clause-made : goal.returns-in-Withdraw-clause-made
returns-in-Withdraw-clause-made g c = rw c.in-Withdraw.is (λ names have makes.
    let of = c.of-making-in-Withdraw.ensures in
    merge_done {E = Refusal} c.run_withdraw.result _ _ _ _ ⊥ _ _ _ c.run_withdraw.ensures.status
    (rw (of.folder, of.names, of.limit) at c.run_withdraw.ensures.made (of.dry ∙ makes)))

pub run_stage-requires : goal.run_stage-requires
run_stage-requires g c = c.requires.named.1.rising

pub returns-in-Stage-clause-status : goal.returns-in-Stage-clause-status
returns-in-Stage-clause-status g c = rw c.in-Stage.is
    (stage_status {E = Refusal} c.run_stage.result c.in-Stage.stage c.args.work.bad_names.now
    (rw c.in-Stage.is at c.requires.none) c.run_stage.ensures.status)

pub returns-in_ok-folder-in-Publish-clause-status : goal.returns-in_ok-folder-in-Publish-clause-status
returns-in_ok-folder-in-Publish-clause-status g c = rw c.in-Publish.is
    (publish_status {E = Refusal} c.run_publish.result c.in-Publish.publish c.run_publish.ensures.status)

pub returns-in_ok-folder-in-Publish-clause-made : goal.returns-in_ok-folder-in-Publish-clause-made
returns-in_ok-folder-in-Publish-clause-made g c = rw c.in-Publish.is (λ names have makes.
    let of = c.of-making-in-Publish.ensures in
    let none = rw c.in-Publish.is at c.requires.none in
    let same = all_named names (words_of c.args.sources.now) (rw (none refl) at have) in
    let looked = rw (c.from_of.ensures, c.in-Publish.is, c.as_str.ensures.value) at c.in_ok-folder-in-Publish.ensures in
    let folder = c.as_str-in-Publish.ensures.value ∙ looked in
    publish_done {E = Refusal} c.run_publish.result _ _ _ _ _ _ _
    (rw (same, folder, of.names, of.limit, of.link) at c.run_publish.ensures.made (of.dry ∙ makes)))

pub returns-in-Index-clause-says : goal.returns-in-Index-clause-says
returns-in-Index-clause-says g c = rw c.in-Index.is (λ names have.
    let of = c.of-making.ensures in
    index_said {E = Refusal} g.O.Write c.run_index.result _ _ _ _ _ _ _ _ _ _
    (rw (of.style, of.dry, of.strict, of.names, of.limit) at c.run_index.ensures.printed names have))

pub returns-in-Merge-clause-says : goal.returns-in-Merge-clause-says
returns-in-Merge-clause-says g c = rw c.in-Merge.is (λ names have.
    let of = c.of-making-in-Merge.ensures in
    let none = rw c.in-Merge.is at c.requires.none in
    let same = all_named names (words_of c.args.sources.now) (rw (none refl) at have) in
    merge_said {E = Refusal} g.O.Write c.run_merge.result _ _ _ _ _ _ _ _ _ _ c.run_merge.ensures.status
    (rw (same, of.style, of.dry, of.strict, of.names, of.limit) at c.run_merge.ensures.printed))

pub returns-in-Withdraw-clause-says : goal.returns-in-Withdraw-clause-says
returns-in-Withdraw-clause-says g c = rw c.in-Withdraw.is (λ names have.
    let of = c.of-making-in-Withdraw.ensures in
    merge_said {E = Refusal} g.O.Write c.run_withdraw.result _ _ _ _ _ _ _ _ _ _ c.run_withdraw.ensures.status
    (rw (of.style, of.dry, of.strict, of.names, of.limit) at c.run_withdraw.ensures.printed))

pub returns-in_ok-folder-in-Publish-clause-says : goal.returns-in_ok-folder-in-Publish-clause-says
returns-in_ok-folder-in-Publish-clause-says g c = rw c.in-Publish.is (λ names have.
    let of = c.of-making-in-Publish.ensures in
    let none = rw c.in-Publish.is at c.requires.none in
    let same = all_named names (words_of c.args.sources.now) (rw (none refl) at have) in
    publish_said {E = Refusal} g.O.Write c.run_publish.result _ _ _ _ _ _ _ _ _
    (rw (same, of.style, of.dry, of.strict, of.names, of.limit) at c.run_publish.ensures.printed))

pub returns-in-Stage-clause-staged : goal.returns-in-Stage-clause-staged
returns-in-Stage-clause-staged g c = rw c.in-Stage.is (λ names have.
    done_stages {E = Refusal} c.run_stage.result _ (c.run_stage.ensures.staged names have
    (rw c.in-Stage.is at c.requires.none)))

pub returns-in-Check-clause-printed : goal.returns-in-Check-clause-printed
returns-in-Check-clause-printed g c =
    let of = c.check_of.ensures in
    rw c.in-Check.is (rw (of.folder, of.comparison, of.style) at c.run_check.ensures.checks)

pub returns-in-List-clause-printed : goal.returns-in-List-clause-printed
returns-in-List-clause-printed g c =
    let of = c.listing_of.ensures in
    rw c.in-List.is (rw (of.folder, of.form, of.style) at c.run_list.ensures.lists)

-- What is refused has its grounds.
pub returns-in-Index-clause-grounds : goal.returns-in-Index-clause-grounds
returns-in-Index-clause-grounds g c = rw c.in-Index.is (λ names have.
    let of = c.of-making.ensures in
    rw (of.names, of.limit) at c.run_index.ensures.grounds names have)

pub returns-in-Merge-clause-grounds : goal.returns-in-Merge-clause-grounds
returns-in-Merge-clause-grounds g c = rw c.in-Merge.is (λ names have.
    let of = c.of-making-in-Merge.ensures in
    let none = rw c.in-Merge.is at c.requires.none in
    let same = all_named names (words_of c.args.sources.now) (rw (none refl) at have) in
    rw (same, of.names, of.limit, of.link) at c.run_merge.ensures.grounds)

pub returns-in-Withdraw-clause-grounds : goal.returns-in-Withdraw-clause-grounds
returns-in-Withdraw-clause-grounds g c = rw c.in-Withdraw.is (λ names have.
    let of = c.of-making-in-Withdraw.ensures in
    rw (of.names, of.limit) at c.run_withdraw.ensures.grounds)

pub returns-in-Stage-clause-grounds : goal.returns-in-Stage-clause-grounds
returns-in-Stage-clause-grounds g c = rw c.in-Stage.is (λ names have. c.run_stage.ensures.grounds names have)

pub returns-in_ok-folder-in-Publish-clause-grounds : goal.returns-in_ok-folder-in-Publish-clause-grounds
returns-in_ok-folder-in-Publish-clause-grounds g c = rw c.in-Publish.is (λ names have.
    let of = c.of-making-in-Publish.ensures in
    let none = rw c.in-Publish.is at c.requires.none in
    let same = all_named names (words_of c.args.sources.now) (rw (none refl) at have) in
    rw (same, of.names, of.limit, of.link) at c.run_publish.ensures.grounds)

pub returns-in-Check-clause-grounds : goal.returns-in-Check-clause-grounds
returns-in-Check-clause-grounds g c =
    rw c.in-Check.is (λ names have. rw c.check_of.ensures.folder at c.run_check.ensures.grounds)

pub returns-in-List-clause-grounds : goal.returns-in-List-clause-grounds
returns-in-List-clause-grounds g c =
    rw c.in-List.is (λ names have. rw c.listing_of.ensures.folder at c.run_list.ensures.grounds)

pub returns-in_err-folder-in-Publish-clause-grounds : goal.returns-in_err-folder-in-Publish-clause-grounds
returns-in_err-folder-in-Publish-clause-grounds g c = rw c.in-Publish.is (λ names have. search rules)
