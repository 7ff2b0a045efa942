use Rattle.std.proofs.Common.{◌≡◌, rules}
use Rattle.dd_set.specs.declared.set.DataSet.{the_lemmas}
use Rattle.dd_encoding.specs.Elements.{bytes}
use Rattle.dd_set.specs.Views.{value_view}
use Rattle.dd_set.proofs.sizes.+sizes.Goals as goal

pub value_size-returns-in-Bytes : goal.value_size-returns-in-Bytes
value_size-returns-in-Bytes t c =
    let seen : value_view c.args.value.now ≡ bytes c.in-Bytes.bytes.now = search (rules, the_lemmas) in
    rw seen (c.bytes_size.ensures c.args.levels)
