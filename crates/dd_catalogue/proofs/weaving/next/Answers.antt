use Rattle.std.proofs.Common.{◌≡◌, true, false, refl, sym, ◌∙◌, ap, is_lt, deque_len}
use Rattle.dd_elem.specs.Ordered.{bytes_cmp}
use Rattle.dd_catalogue.proofs.Places.{by_key}
use Rattle.dd_catalogue.proofs.Woven.{none_left, step_end_mine, step_end_theirs, less_at, greater_at, equal_at}
use Rattle.dd_catalogue.proofs.weaving.next.Goals as goal

pub returns-in_err-one : goal.returns-in_err-one
returns-in_err-one g c =
    rw c.from_residual.ensures
    (step_end_mine (by_key g.T.Keyed.key_of g.met.T.Ordered.total g.met.T.Ordered.apart) c.args.mine.now.items
    c.args.theirs.now.items (none_left c.args.mine.now.items
    (deque_len c.args.mine.now) c.args.mine.now.ok.0 c.in_err-one.ensures.variant.1) c.requires.theirs)

pub returns-in_err-other : goal.returns-in_err-other
returns-in_err-other g c =
    rw c.from_residual-in_err-other.ensures
    (step_end_theirs (by_key g.T.Keyed.key_of g.met.T.Ordered.total g.met.T.Ordered.apart) c.args.mine.now.items
    c.args.theirs.now.items (none_left c.args.theirs.now.items
    (deque_len c.args.theirs.now) c.args.theirs.now.ok.0 c.in_err-other.ensures.variant.1) c.requires.mine)

pub returns-in-Less : goal.returns-in-Less
returns-in-Less g c =
    less_at (by_key g.T.Keyed.key_of g.met.T.Ordered.total g.met.T.Ordered.apart) c.args.mine.now.items
    c.pop_front.new.self.items c.args.theirs.now.items c.pop_front.result c.in_ok-one.one.now
    c.in_ok-other.other.now (deque_len c.args.mine.now) (deque_len c.args.theirs.now)
    c.requires.mine c.requires.theirs c.args.theirs.now.ok.0 (c.in_ok-one.ensures.variant.0 refl)
    (c.in_ok-other.ensures.variant.0 refl) c.pop_front.ensures.variant c.pop_front.ensures.items
    c.in_ok-one.ensures.lookup c.in_ok-other.ensures.lookup
    (ap (λ k. bytes_cmp k (g.T.Keyed.key_of c.in_ok-other.other.now)) (sym c.key.ensures)
    ∙ ap (λ k. bytes_cmp c.key.result.now k) (sym c.key-2.ensures) ∙ sym c.cmp.ensures ∙ c.in-Less.is)

pub returns-in-Greater : goal.returns-in-Greater
returns-in-Greater g c =
    greater_at (by_key g.T.Keyed.key_of g.met.T.Ordered.total g.met.T.Ordered.apart) c.args.mine.now.items
    c.args.theirs.now.items c.pop_front-in-Greater.new.self.items c.pop_front-in-Greater.result c.in_ok-one.one.now
    c.in_ok-other.other.now (deque_len c.args.mine.now) (deque_len c.args.theirs.now)
    c.requires.mine c.requires.theirs c.args.mine.now.ok.0 (c.in_ok-one.ensures.variant.0 refl)
    (c.in_ok-other.ensures.variant.0 refl) c.pop_front-in-Greater.ensures.variant
    c.pop_front-in-Greater.ensures.items c.in_ok-one.ensures.lookup c.in_ok-other.ensures.lookup
    (ap (λ k. bytes_cmp k (g.T.Keyed.key_of c.in_ok-other.other.now)) (sym c.key.ensures)
    ∙ ap (λ k. bytes_cmp c.key.result.now k) (sym c.key-2.ensures) ∙ sym c.cmp.ensures ∙ c.in-Greater.is)

pub returns-then-is_lt : goal.returns-then-is_lt
returns-then-is_lt g c =
    let lt : is_lt (g.T.Ordered.order c.in_ok-one.one.now c.in_ok-other.other.now) ≡ true = sym (c.is_lt.ensures
    ∙ ap is_lt c.compare.ensures) ∙ c.if-is_lt.true in
    equal_at (by_key g.T.Keyed.key_of g.met.T.Ordered.total g.met.T.Ordered.apart) c.args.mine.now.items
    c.pop_front-then-is_lt.new.self.items c.args.theirs.now.items c.pop_front-then-is_lt-2.new.self.items
    c.pop_front-then-is_lt.result c.pop_front-then-is_lt-2.result c.pop_front-then-is_lt-2.result c.in_ok-one.one.now
    c.in_ok-other.other.now (deque_len c.args.mine.now) (deque_len c.args.theirs.now)
    c.requires.mine c.requires.theirs (c.in_ok-one.ensures.variant.0 refl)
    (c.in_ok-other.ensures.variant.0 refl) c.pop_front-then-is_lt.ensures.variant
    c.pop_front-then-is_lt.ensures.items c.in_ok-one.ensures.lookup
    c.pop_front-then-is_lt-2.ensures.variant c.pop_front-then-is_lt-2.ensures.items c.in_ok-other.ensures.lookup
    (ap (λ k. bytes_cmp k (g.T.Keyed.key_of c.in_ok-other.other.now)) (sym c.key.ensures)
    ∙ ap (λ k. bytes_cmp c.key.result.now k) (sym c.key-2.ensures) ∙ sym c.cmp.ensures
    ∙ c.in-Equal.is) (λ h. refl) (λ h. let no = sym lt ∙ h in cc)

pub returns-else-is_lt : goal.returns-else-is_lt
returns-else-is_lt g c =
    let lt : is_lt (g.T.Ordered.order c.in_ok-one.one.now c.in_ok-other.other.now) ≡ false = sym (c.is_lt.ensures
    ∙ ap is_lt c.compare.ensures) ∙ c.if-is_lt.false in
    equal_at (by_key g.T.Keyed.key_of g.met.T.Ordered.total g.met.T.Ordered.apart) c.args.mine.now.items
    c.pop_front-in-Equal-2.new.self.items c.args.theirs.now.items c.pop_front-in-Equal.new.self.items
    c.pop_front-in-Equal-2.result c.pop_front-in-Equal.result c.pop_front-in-Equal-2.result c.in_ok-one.one.now
    c.in_ok-other.other.now (deque_len c.args.mine.now) (deque_len c.args.theirs.now)
    c.requires.mine c.requires.theirs (c.in_ok-one.ensures.variant.0 refl)
    (c.in_ok-other.ensures.variant.0 refl) c.pop_front-in-Equal-2.ensures.variant
    c.pop_front-in-Equal-2.ensures.items c.in_ok-one.ensures.lookup
    c.pop_front-in-Equal.ensures.variant c.pop_front-in-Equal.ensures.items c.in_ok-other.ensures.lookup
    (ap (λ k. bytes_cmp k (g.T.Keyed.key_of c.in_ok-other.other.now)) (sym c.key.ensures)
    ∙ ap (λ k. bytes_cmp c.key.result.now k) (sym c.key-2.ensures) ∙ sym c.cmp.ensures
    ∙ c.in-Equal.is) (λ h. let no = sym lt ∙ h in cc) (λ h. refl)
