use Rattle.std.proofs.Common.{◌≡◌, length, take, arith}
use Rattle.std.proofs.lemmas.Result.{err_from_is_err_and}
use Rattle.dd_scan.proofs.Feeding.{front_length}
use Rattle.dd_part10.proofs.Taken.{prefix_taken, prefix_fails}
use Rattle.dd_part10.proofs.feed_file.take_prefix.Goals as goal

pub returns-in_err-rest_after_prefix-clause-found : goal.returns-in_err-rest_after_prefix-clause-found
returns-in_err-rest_after_prefix-clause-found g c =
    let p = err_from_is_err_and c.from_residual.result c.from_residual.ensures.1 in
    let room = c.fill-n.new.room in
    let size : length room ≡ 132 = c.fill-n.auto.room in
    let few = front_length c.fill-n.result room c.fill-n.ensures.bound in
    rw (p.1, p.2) (record {
      taken = take c.fill-n.result room;
      moved = c.fill-n.ensures.moved;
      gives = λ rest t. prefix_fails c.in_err-rest_after_prefix.field-0.0 (take c.fill-n.result room) rest
          (omega (arith, few, c.fill-n.ensures.bound, size))
          (λ less. (c.fill-n.ensures.over (omega (arith, few, size, less))).none rest t)
          c.in_err-rest_after_prefix.ensures.exact;
    })

pub returns-clause-found : goal.returns-clause-found
returns-clause-found g c =
    let room = c.fill-n.new.room in
    let size : length room ≡ 132 = c.fill-n.auto.room in
    let few = front_length c.fill-n.result room c.fill-n.ensures.bound in
    record {
      taken = take c.fill-n.result room;
      moved = c.fill-n.ensures.moved;
      gives = λ rest t. prefix_taken (take c.fill-n.result room) c.in_ok-rest_after_prefix.field-0.now rest
          (omega (arith, few, c.fill-n.ensures.bound, size)) c.in_ok-rest_after_prefix.ensures.exact;
    }
