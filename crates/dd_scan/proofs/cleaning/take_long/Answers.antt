-- The front of the value, and the rest of it after.
use Rattle.std.proofs.Common.{◌≡◌, ◌∙◌, ◌≤◌, ◌++◌, ℕ, List, length, take, ap, sym, subst, refl, true, false, arith}
use Rattle.std.proofs.Common.{replicate}
use Rattle.std.proofs.lemmas.List.{length-append, length-take-le, length-replicate, take_all}
use Rattle.std.proofs.lemmas.Result.{err_from_is_err_and}
use Rattle.dd_elem.proofs.Cleaning.{length-clean_of}
use Rattle.dd_grammar.specs.Reading.{leaves_fewer, left_after}
use Rattle.dd_scan.specs.Scan.{Summary, cleaned}
use Rattle.dd_stream.proofs.Along.{scans_none}
use Rattle.dd_scan.proofs.CleanedFronts.{cleaned_front}
use Rattle.dd_scan.proofs.Feeding.{take_overruns, take_ends, take_whole, over_length, front_length}
use Rattle.dd_scan.proofs.cleaning.take_long.Goals as goal

same_summary : (front same : List ℕ) (n m : ℕ) → front ≡ same → n ≡ m
    → ◌≡◌ {A = Summary} (cleaned front n) (cleaned same m)
same_summary front same n m e f = rw (e, f) refl

-- a front of the room for what is kept
abbrev zeros : List ℕ
zeros = replicate 1024 0

room_is : (room : List ℕ) (n : ℕ) → n ≤ 1024 → length room ≡ length (take n zeros) → length room ≡ n
room_is room n few is = is ∙ length-take-le n zeros (omega (arith, length-replicate {A = ℕ} 1024 0))

pub returns-then-leaves_fewer-clause-found : goal.returns-then-leaves_fewer-clause-found
returns-then-leaves_fewer-clause-found g c =
    let fewer : leaves_fewer c.args.at.now.left c.args.n ≡ true = rw c.from-n.ensures at
    (sym c.leaves_fewer.ensures ∙ c.if-leaves_fewer.true) in
    scans_none _ _ _ _ (g.met.F.Feed.stays _)
    (λ rest t. (take_overruns c.args.n c.args.at.now.left rest fewer, λ is. absurd (cc)))

pub returns-then-fill-first-clause-found : goal.returns-then-fill-first-clause-found
returns-then-fill-first-clause-found g c =
    let enough : leaves_fewer c.args.at.now.left c.args.n ≡ false =
    rw c.from-n.ensures at (sym c.leaves_fewer.ensures ∙ c.if-leaves_fewer.false) in
    let room = c.fill.new.room in
    let size : length room ≡ c.min-first.result = room_is room c.min-first.result (omega arith) c.fill.auto.room in
    let taken = take c.fill.result room in
    let short = front_length c.fill.result room c.fill.ensures.bound in
    let over = c.fill.ensures.over (omega arith) in
    record {
      taken = taken;
      moved = c.fill.ensures.moved;
      gives = λ rest t. (
        take_ends c.args.n c.args.at.now.left (taken ++ rest) enough (omega (arith, over_length _ _ taken rest over t)),
        λ is. absurd (cc),
      );
    }

pub returns-in_default-clause-found : goal.returns-in_default-clause-found
returns-in_default-clause-found g c =
    let enough : leaves_fewer c.args.at.now.left c.args.n ≡ false =
    rw c.from-n.ensures at (sym c.leaves_fewer.ensures ∙ c.if-leaves_fewer.false) in
    let room = c.fill.new.room in
    let size : length room ≡ c.min-first.result = room_is room c.min-first.result (omega arith) c.fill.auto.room in
    let all : take c.fill.result room ≡ room = take_all c.fill.result room (omega arith) in
    let m = c.in_default.ensures.moved in
    let over = c.in_default.ensures.over refl in
    let few = m.3 refl in
    record {
      taken = room ++ m.0;
      moved = g.met.F.Feed.goes _ _ _ _ _ (subst (g.F.Feed.moves c.args.at.now.feed.now c.fill.new.feed) all
          c.fill.ensures.moved) m.1;
      gives = λ rest t. (
        take_ends c.args.n c.args.at.now.left ((room ++ m.0) ++ rest) enough
            (omega (arith, length-append room m.0, over_length _ _ (room ++ m.0) rest over t)),
        λ is. absurd (cc),
      );
    }

pub slice_bounds-to_vec-end : goal.slice_bounds-to_vec-end
slice_bounds-to_vec-end g c =
    let room = c.fill.new.room in
    let size : length room ≡ c.min-first.result = room_is room c.min-first.result (omega arith) c.fill.auto.room in
    let m = c.in-Some.ensures.moved in
    let whole : length (room ++ m.0) ≡ c.args.n = omega (arith, length-append room m.0, m.4.0) in
    let length_is = m.4.1 room (omega arith) (ap length c.clean.ensures.exact) in
    let fits = length-clean_of (room ++ m.0) in
    let few : c.min-kept.result ≤ length room = omega arith in
    sym (length-take-le c.min-kept.result room few)

pub returns-in_err-front-clause-found : goal.returns-in_err-front-clause-found
returns-in_err-front-clause-found g c =
    let p = err_from_is_err_and c.from_residual.result c.from_residual.ensures.1 in
    let enough : leaves_fewer c.args.at.now.left c.args.n ≡ false =
    rw c.from-n.ensures at (sym c.leaves_fewer.ensures ∙ c.if-leaves_fewer.false) in
    let room = c.fill.new.room in
    let size : length room ≡ c.min-first.result = room_is room c.min-first.result (omega arith) c.fill.auto.room in
    let all : take c.fill.result room ≡ room = take_all c.fill.result room (omega arith) in
    let m = c.in-Some.ensures.moved in
    let whole : length (room ++ m.0) ≡ c.args.n = omega (arith, length-append room m.0, m.4.0) in
    let left_is : c.left_after-at.result ≡ left_after c.args.at.now.left c.args.n = c.left_after-at.ensures
    ∙ ap (left_after c.args.at.now.left) c.from-n.ensures in
    rw (p.1, p.2) (record {
      taken = room ++ m.0;
      moved = g.met.F.Feed.goes _ _ _ _ _ (subst (g.F.Feed.moves c.args.at.now.feed.now c.fill.new.feed) all
          c.fill.ensures.moved) m.1;
      gives = λ rest t. (
        tt,
        λ is. (room ++ m.0, rw left_is (take_whole c.args.n c.args.at.now.left (room ++ m.0) rest enough whole)),
      );
    })

pub returns-clause-found : goal.returns-clause-found
returns-clause-found g c =
    let enough : leaves_fewer c.args.at.now.left c.args.n ≡ false =
    rw c.from-n.ensures at (sym c.leaves_fewer.ensures ∙ c.if-leaves_fewer.false) in
    let room = c.fill.new.room in
    let size : length room ≡ c.min-first.result = room_is room c.min-first.result (omega arith) c.fill.auto.room in
    let all : take c.fill.result room ≡ room = take_all c.fill.result room (omega arith) in
    let m = c.in-Some.ensures.moved in
    let whole : length (room ++ m.0) ≡ c.args.n = omega (arith, length-append room m.0, m.4.0) in
    let length_is = m.4.1 room (omega arith) (ap length c.clean.ensures.exact) in
    let fits = length-clean_of (room ++ m.0) in
    let kept = c.in_ok-front.ensures.items_if_clones_equal (λ x y h. h) in
    let front_is = cleaned_front 1024 c.min-kept.result room m.0 (omega arith) (omega (arith, length-append room m.0))
    in
    let left_is : c.left_after-at.result ≡ left_after c.args.at.now.left c.args.n = c.left_after-at.ensures
    ∙ ap (left_after c.args.at.now.left) c.from-n.ensures in
    record {
      taken = room ++ m.0;
      moved = g.met.F.Feed.goes _ _ _ _ _ (subst (g.F.Feed.moves c.args.at.now.feed.now c.fill.new.feed) all
          c.fill.ensures.moved) m.1;
      gives = λ rest t. (
        room ++ m.0,
        same_summary _ _ _ _ (kept ∙ front_is) length_is,
        rw left_is (take_whole c.args.n c.args.at.now.left (room ++ m.0) rest enough whole),
      );
    }
