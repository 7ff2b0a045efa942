use Rattle.std.proofs.Common.{◌≡◌, ◌+◌, ◌++◌, ◌∷◌, [], arith, length, refl, subst, sym}
use Rattle.dd_engine.specs.Found.{Found, HasFound}
use Rattle.dd_engine.proofs.Found.{found_fault, found_of, found_version, next_number}
use Rattle.dd_engine.proofs.found_sources.FoundSources.push.Goals as goal

pub returns-in-Ok-push : goal.returns-in-Ok-push
returns-in-Ok-push c = λ answers found.
    let old = found_of c.self.inside.sources in
    let h = subst (HasFound answers) (sym c.self.view_is) found in
    let first = c.len.ensures in
    let second = c.len-2.ensures in
    let all = next_number answers old h in
    let many : length answers ≡ c.len.result + c.len-2.result = omega (arith, first, second, all) in
    let new : Found = record {
      versions = c.push-in-Ok.new.self.items;
      origins = c.push.new.self.items;
      skipped = c.self.inside.sources.skipped.items;
    } in
    subst (λ answer. HasFound (answers ++ answer ∷ []) new) (sym c.in-Ok.is)
    (found_version answers c.in-Ok.version _ old new h many c.in-Ok-push.ensures.items
    c.in_ok-push-in-Ok.ensures.items refl)

pub returns-in_ok-push-in-Err : goal.returns-in_ok-push-in-Err
returns-in_ok-push-in-Err c = λ answers found.
    let old = found_of c.self.inside.sources in
    let h = subst (HasFound answers) (sym c.self.view_is) found in
    let first = c.len.ensures in
    let second = c.len-2.ensures in
    let all = next_number answers old h in
    let many : length answers ≡ c.len.result + c.len-2.result = omega (arith, first, second, all) in
    let new : Found = record {
      versions = c.self.inside.sources.versions.items;
      origins = c.self.inside.sources.origins.items;
      skipped = c.push-in-Err.new.self.items;
    } in
    subst (λ answer. HasFound (answers ++ answer ∷ []) new) (sym c.in-Err.is)
    (found_fault answers c.in-Err.fault _ old new h many refl refl
    c.in_ok-push-in-Err.ensures.items)
