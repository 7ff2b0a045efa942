use Rattle.std.proofs.Common.{◌++◌, ◌∙◌, ap, map, sym, subst, rules, tests}
use Rattle.std.proofs.lemmas.Iterator.{YieldsList-from_map_by, YieldsList-from_slice, items_from_drains}
use Rattle.std.proofs.lemmas.Iterator.Adapters.{serves_from_places}
use Rattle.std.proofs.lemmas.Iterator.Consumers.{YieldsList-at}
use Rattle.std.proofs.lemmas.Simd.{map-map}
use Rattle.dd_dir.specs.OwnVersions.{place_of, place_view}
use Rattle.dd_dir.specs.OwnViews.{IsListed, listed_view}
use Rattle.dd_dir.proofs.own.places.Goals as goal

pub extend-requires : goal.extend-requires
extend-requires c = λ it is. rw is (
  (
    tt,
    serves_from_places (YieldsList-from_slice c.args.images.now cc) (λ x q k. search (rules, tests))
        (λ x k within at.
        let is : IsListed (listed_view x.now) =
        subst (λ y. IsListed (listed_view y)) (sym at) (c.requires k x.now within) in
        search (rules, tests)),
  ),
  search (rules, tests),
  search (rules, tests),
)

pub returns-clause-all : goal.returns-clause-all
returns-clause-all c =
    let ran = c.in_ok-extend.ensures.ran in
    let ended = ran.4.1 in
    ap (λ places. map place_view places) (ran.3.0 ∙ ap (λ front. front ++ ran.1) c.in_ok-places.ensures.items)
    ∙ items_from_drains ran.1 (ended.0, ended.1, λ _. (ran.4.0, ended.2))
    (YieldsList-at ran.2 (YieldsList-from_map_by _ place_view (λ image. place_of (listed_view image))
    (YieldsList-from_slice c.args.images.now cc) c.map.ensures.closure (λ x r q k. search (rules, tests))))
    ∙ sym (map-map place_of listed_view c.args.images.now)
