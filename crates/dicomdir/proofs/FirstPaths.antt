-- The first of one path is the first of some.
use Rattle.std.proofs.Common.{ℕ, ◌<◌, arith}
use Rattle.dd_faults.specs.declared.refusal.Refusal.{Refusal}
use Rattle.dd_faults.specs.declared.refusal.Subject.{Subject}
use Rattle.dd_faults.specs.declared.refusal.Subject.TheVariants as subject
use Rattle.dd_faults.specs.Refusal.{IsAmong, IsOfWork}

among_some : (paths : ℕ) (named : Subject) → 0 < paths → IsAmong 1 named → IsAmong paths named
among_some paths subject.General some among = tt
among_some paths (subject.Source at) some among = omega (arith, some, among)
among_some paths (subject.SetDirectory at) some among = omega (arith, some, among)
among_some paths (subject.SetFile at file) some among = omega (arith, some, among)
among_some paths (subject.PileFile at file) some among = omega (arith, some, among)
among_some paths subject.Folder some among = tt
among_some paths (subject.InPile file) some among = tt
among_some paths subject.Directory some among = tt
among_some paths (subject.Image file) some among = tt
among_some paths (subject.ImageFolder file) some among = tt
among_some paths subject.List some among = tt
among_some paths subject.Unstored some among = tt

-- why a run with one path is refused is why one with some is
pub of_some : (paths : ℕ) (refusal : Refusal) → 0 < paths → IsOfWork 1 refusal → IsOfWork paths refusal
of_some paths refusal some of = record {
  named = among_some paths refusal.subject some of.named;
  line = of.line;
}
