-- What the named command was given is what it needs.
use Rattle.clap.specs.declared.parser.matches.ArgMatches.TheViews.{out-ArgMatches}
use Rattle.dd_line.specs.declared.line.Verb.TheVariants.{Index, Merge, Withdraw, Stage, Publish, Check, List as ListSet}
use Rattle.dd_line.proofs.LineVerbs.{entered_served}
use Rattle.dd_line.proofs.from_words.request_of.Goals as goal

pub index_request-requires : goal.index_request-requires
index_request-requires c =
    let met = c.in-Some-index-default in
    entered_served (out-ArgMatches c.args.found.now).subcommand _ _ met.ensures.name met.ensures.rows
    Index c.requires met.is-index

pub merge_request-requires : goal.merge_request-requires
merge_request-requires c =
    let met = c.in-Some-merge-default in
    entered_served (out-ArgMatches c.args.found.now).subcommand _ _ met.ensures.name met.ensures.rows
    Merge c.requires met.is-merge

pub withdraw_request-requires : goal.withdraw_request-requires
withdraw_request-requires c =
    let met = c.in-Some-withdraw-default in
    entered_served (out-ArgMatches c.args.found.now).subcommand _ _ met.ensures.name met.ensures.rows
    Withdraw c.requires met.is-withdraw

pub stage_request-requires : goal.stage_request-requires
stage_request-requires c =
    let met = c.in-Some-stage-default in
    entered_served (out-ArgMatches c.args.found.now).subcommand _ _ met.ensures.name met.ensures.rows
    Stage c.requires met.is-stage

pub publish_request-requires : goal.publish_request-requires
publish_request-requires c =
    let met = c.in-Some-publish-default in
    entered_served (out-ArgMatches c.args.found.now).subcommand _ _ met.ensures.name met.ensures.rows
    Publish c.requires met.is-publish

pub check_request-requires : goal.check_request-requires
check_request-requires c =
    let met = c.in-Some-check-default in
    entered_served (out-ArgMatches c.args.found.now).subcommand _ _ met.ensures.name met.ensures.rows
    Check c.requires met.is-check

pub list_request-requires : goal.list_request-requires
list_request-requires c =
    let met = c.in-Some-list-default in
    entered_served (out-ArgMatches c.args.found.now).subcommand _ _ met.ensures.name met.ensures.rows
    ListSet c.requires met.is-list
