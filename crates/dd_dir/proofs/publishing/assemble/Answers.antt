use Rattle.std.proofs.Common.{◌≡◌, List, length, IfOk, ap, subst}
use Rattle.dd_version.specs.declared.parts.Parts.{Parts}
use Rattle.dd_catalogue.specs.Contents.{Contents}
use Rattle.dd_catalogue.specs.Harmony.{harmonised}
use Rattle.dd_dir.specs.Directories.{IsDirectory, OffsetsWithin, directory}
use Rattle.dd_dir.specs.SaysItself.{SaysItself}
use Rattle.dd_dir.specs.Visits.{Realises}
use Rattle.dd_dir.proofs.publishing.assemble.Goals as goal

same_versions : {c d : Contents} → c ≡ d → c.versions ≡ d.versions
same_versions same = ap (λ (x : Contents). x.versions) same

pub returns-clause-bytes : goal.returns-clause-bytes
returns-clause-bytes c =
    subst (λ (x : Contents). IfOk c.publish.result
    (λ bytes. bytes.items ≡ directory c.args.label.now x.versions x.withdrawn))
    c.in_ok-catalogue.ensures.best c.publish.ensures.bytes

pub returns-clause-file : goal.returns-clause-file
returns-clause-file c = λ ok.
    subst (λ (x : Contents). IsDirectory c.args.label.now (harmonised x.versions) x.withdrawn)
    c.in_ok-catalogue.ensures.best (c.publish.ensures.file ok)

pub returns-clause-within : goal.returns-clause-within
returns-clause-within c =
    subst (λ (m : List Parts). IfOk c.publish.result (λ bytes. OffsetsWithin (length bytes.items) c.args.label.now
    (harmonised m))) (same_versions c.in_ok-catalogue.ensures.best) c.publish.ensures.within

pub returns-clause-realised : goal.returns-clause-realised
returns-clause-realised c =
    subst (λ (m : List Parts). IfOk c.publish.result (λ bytes. Realises c.args.label.now m bytes.items))
    (same_versions c.in_ok-catalogue.ensures.best) c.publish.ensures.realised

pub returns-clause-own : goal.returns-clause-own
returns-clause-own c =
    subst (λ (x : Contents). IfOk c.publish.result (λ bytes. SaysItself x.versions x.withdrawn bytes.items))
    c.in_ok-catalogue.ensures.best c.publish.ensures.own
