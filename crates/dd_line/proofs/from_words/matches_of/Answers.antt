-- What the parser says of the program that it was given, it says of the one that the specs define: words that the
-- program takes are refused only for lack of memory, and each refusal has one of the kinds that are due.
use Rattle.std.proofs.Common.{◌≡◌, [], true, subst}
use Rattle.clap.specs.Words.{App, HasKind, HasMatchesOf, fault_of, is_simple_and_free, kind_of, takes}
use Rattle.clap.specs.declared.error.kind.ErrorKind.TheVariants.{OutOfMemory}
use Rattle.dd_line.specs.Line.{words_of}
use Rattle.dd_line.proofs.LineLemmas.{app_is_free, app_is_simple, memory_alone, refused_for}
use Rattle.dd_line.proofs.from_words.matches_of.Goals as goal

pub returns-in_err-try_get_matches_from-clause-passes :
    goal.returns-in_err-try_get_matches_from-clause-passes
returns-in_err-try_get_matches_from-clause-passes c =
    memory_alone _ c.in_err-try_get_matches_from.field-0.0 _
    c.from_residual-in_err-try_get_matches_from.ensures.1
    (subst (λ (x : App). takes x (words_of c.args.words.now) ≡ true
    → kind_of c.in_err-try_get_matches_from.field-0.0 ≡ OutOfMemory)
    c.in_ok-program.ensures.app c.in_err-try_get_matches_from.ensures.passes)

pub returns-in_err-try_get_matches_from-clause-kinds :
    goal.returns-in_err-try_get_matches_from-clause-kinds
returns-in_err-try_get_matches_from-clause-kinds c =
    let words = words_of c.args.words.now in
    refused_for _ c.in_err-try_get_matches_from.field-0.0 _ _
    c.from_residual-in_err-try_get_matches_from.ensures.1
    (subst (λ (x : App). is_simple_and_free x ≡ true
    → HasKind (fault_of x words) c.in_err-try_get_matches_from.field-0.0)
    c.in_ok-program.ensures.app c.in_err-try_get_matches_from.ensures.kinds app_is_free)

pub returns-clause-found : goal.returns-clause-found
returns-clause-found c =
    let words = words_of c.args.words.now in
    (subst (λ (x : App). HasMatchesOf x words c.in_ok-try_get_matches_from.field-0)
    c.in_ok-program.ensures.app c.in_ok-try_get_matches_from.ensures.matches app_is_simple).1

pub returns-clause-kinds : goal.returns-clause-kinds
returns-clause-kinds c =
    let words = words_of c.args.words.now in
    subst (λ (x : App). is_simple_and_free x ≡ true → fault_of x words ≡ [])
    c.in_ok-program.ensures.app c.in_ok-try_get_matches_from.ensures.kinds app_is_free
