use Rattle.std.proofs.Common.{◌≡◌, length, take, arith}
use Rattle.dd_scan.proofs.Feeding.{front_length}
use Rattle.dd_part10.proofs.Taken.{count_taken}
use Rattle.dd_part10.proofs.feed_file.take_count.Goals as goal

pub returns-clause-found : goal.returns-clause-found
returns-clause-found g c =
    let room = c.fill-n.new.room in
    let size : length room ≡ 12 = c.fill-n.auto.room in
    let few = front_length c.fill-n.result room c.fill-n.ensures.bound in
    record {
      taken = take c.fill-n.result room;
      moved = c.fill-n.ensures.moved;
      gives = λ rest t. count_taken c.read_count.result (take c.fill-n.result room) rest
          (omega (arith, few, c.fill-n.ensures.bound, size))
          (λ less. (c.fill-n.ensures.over (omega (arith, few, size, less))).none rest t) c.read_count.ensures.exact;
    }
