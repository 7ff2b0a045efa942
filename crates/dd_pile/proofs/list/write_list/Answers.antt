-- The list was written at its path.
use Rattle.dd_pile.proofs.list.write_list.Goals as goal

pub returns-clause-written : goal.returns-clause-written
returns-clause-written g c = λ done. record {
  path = c.as_str.result.now;
  place =
      let is = c.in_ok-path.ensures in
      rw c.as_str.ensures.value (record { bare = is.bare; ended = is.ended; apart = is.apart });
  free = c.make_list.ensures.free done;
  made = c.make_list.ensures.written done;
}

pub returns-clause-adds : goal.returns-clause-adds
returns-clause-adds g c =
    let is = c.in_ok-path.ensures in
    c.make_list.ensures.adds c.args.pile.now
    (rw c.as_str.ensures.value (record { bare = is.bare; ended = is.ended; apart = is.apart }))
