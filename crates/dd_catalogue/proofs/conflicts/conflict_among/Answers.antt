use Rattle.std.proofs.Common.{◌<◌, arith, ap, find, length, map, subst, sym, ◌∙◌, None}
use Rattle.std.proofs.lemmas.List.{length-map}
use Rattle.dd_catalogue.specs.Conflicts.{conflicts, first_conflict, pair_or}
use Rattle.dd_catalogue.proofs.FirstAndRest.{map_rest}
use Rattle.dd_catalogue.proofs.Members.{Member}
use Rattle.dd_catalogue.proofs.References.{read_under}
use Rattle.dd_catalogue.proofs.TwoOwners.{later_within, later_alone, later_quiet}
use Rattle.dd_catalogue.proofs.conflicts.conflict_among.Goals as goal

pub loop-later-preserved-in_default-pair_with : goal.loop-later-preserved-in_default-pair_with
loop-later-preserved-in_default-pair_with c =
    let later = c.loop-later.later.now in
    let all = map (λ version. version.now) c.args.versions.now in
    let m = map (λ version. version.now) later in
    let x = c.version-item.result.now in
    let read = read_under (λ version. version.now) later 0 c.version-item.result c.version-item.is in
    let below : 0 < length m = omega (arith, c.in-len1-up.len_at_least, length-map later (λ version. version.now)) in
    let rest = map_rest (λ version. version.now) later in
    record {
      same = ap first_conflict rest ∙ later_alone all m x below read c.loop-later.invariant.same
          (ap (λ l. pair_or x (find (conflicts x) l) None) (sym rest) ∙ sym c.pair_with.ensures
          ∙ c.in_default-pair_with.is);
      within = λ v i. later_within all m x below read c.loop-later.invariant.within v (subst (λ l. Member v l) rest i);
    }

pub loop-later-preserved : goal.loop-later-preserved
loop-later-preserved c =
    let later = c.loop-later.later.now in
    let all = map (λ version. version.now) c.args.versions.now in
    let m = map (λ version. version.now) later in
    let x = c.version-item.result.now in
    let read = read_under (λ version. version.now) later 0 c.version-item.result c.version-item.is in
    let below : 0 < length m = omega (arith, c.in-len1-up.len_at_least, length-map later (λ version. version.now)) in
    let rest = map_rest (λ version. version.now) later in
    record {
      same = ap first_conflict rest ∙ later_quiet all m x c.args.studies.now c.args.series.now below read
          c.loop-later.invariant.same c.loop-later.invariant.within c.requires.studies c.requires.series
          (sym c.is_of_two_owners.ensures ∙ c.if-is_of_two_owners.false);
      within = λ v i. later_within all m x below read c.loop-later.invariant.within v (subst (λ l. Member v l) rest i);
    }
