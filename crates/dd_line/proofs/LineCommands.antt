-- Each command of the program is given what it needs where its words have no fault.
use Rattle.std.proofs.Common.{codes, refl}
use Rattle.clap.specs.Simple.{built_leaf}
use Rattle.dd_line.specs.Line.{check_app, index_app, list_app, merge_app, publish_app, stage_app, withdraw_app}
use Rattle.dd_line.specs.declared.line.Verb.TheVariants.{Index, Merge, Withdraw, Stage, Publish, Check, List as ListSet}
use Rattle.dd_line.proofs.LineServes.{Serves, command_serves, one_given, some_given}

pub index_serves : Serves (built_leaf index_app.top)
index_serves = command_serves Index (built_leaf index_app.top) (record {
  named = refl;
  plain = record { once = refl; wants = refl };
  flags = refl;
  others = refl;
  paths = λ plain words none. one_given _ words plain none (codes "out") 1 refl;
})

pub merge_serves : Serves (built_leaf merge_app.top)
merge_serves = command_serves Merge (built_leaf merge_app.top) (record {
  named = refl;
  plain = record { once = refl; wants = refl };
  flags = refl;
  others = refl;
  paths = λ plain words none. one_given _ words plain none (codes "out") 1 refl;
})

pub withdraw_serves : Serves (built_leaf withdraw_app.top)
withdraw_serves = command_serves Withdraw (built_leaf withdraw_app.top) (record {
  named = refl;
  plain = record { once = refl; wants = refl };
  flags = refl;
  others = refl;
  paths = λ plain words none. record {
    out = one_given _ words plain none (codes "out") 1 refl;
    set = one_given _ words plain none (codes "set") 2 refl;
    instances = some_given _ words plain none (codes "instance") 3 refl;
  };
})

pub stage_serves : Serves (built_leaf stage_app.top)
stage_serves = command_serves Stage (built_leaf stage_app.top) (record {
  named = refl;
  plain = record { once = refl; wants = refl };
  flags = refl;
  others = refl;
  paths = λ plain words none. one_given _ words plain none (codes "out") 1 refl;
})

pub publish_serves : Serves (built_leaf publish_app.top)
publish_serves = command_serves Publish (built_leaf publish_app.top) (record {
  named = refl;
  plain = record { once = refl; wants = refl };
  flags = refl;
  others = refl;
  paths = λ plain words none. one_given _ words plain none (codes "out") 1 refl;
})

pub check_serves : Serves (built_leaf check_app.top)
check_serves = command_serves Check (built_leaf check_app.top) (record {
  named = refl;
  plain = record { once = refl; wants = refl };
  flags = refl;
  others = refl;
  paths = λ plain words none. one_given _ words plain none (codes "set") 1 refl;
})

pub list_serves : Serves (built_leaf list_app.top)
list_serves = command_serves ListSet (built_leaf list_app.top) (record {
  named = refl;
  plain = record { once = refl; wants = refl };
  flags = refl;
  others = refl;
  paths = λ plain words none. one_given _ words plain none (codes "set") 1 refl;
})
