use Rattle.std.proofs.Common.{◌∙◌, sym}
use Rattle.dd_version.proofs.KnownSyntaxes.{known_implicit, known_explicit, known_else}
use Rattle.dd_version.proofs.syntaxes.is_known.Goals as goal
use Rattle.dd_version.proofs.syntaxes.is_known.Goals.{then-eq, else-eq}

pub returns-then-eq-2 : goal.returns-then-eq-2
returns-then-eq-2 c = elim c.if-eq.branch [
  | then-eq w ↦ c.if-eq-2.true ∙ sym (known_implicit c.args.uid.now (sym c.eq.ensures ∙ w.if-eq.true))
  | else-eq w ↦ c.if-eq-2.true ∙ sym (known_explicit c.args.uid.now
      (sym w.eq-else-eq.ensures ∙ sym w.value-is ∙ c.if-eq-2.true))
]

pub returns-else-eq-2 : goal.returns-else-eq-2
returns-else-eq-2 c = elim c.if-eq.branch [
  | then-eq w ↦ let no = w.value-is in absurd (cc)
  | else-eq w ↦ c.is_encapsulated.ensures ∙ known_else c.args.uid.now (sym c.eq.ensures ∙ w.if-eq.false)
      (sym w.eq-else-eq.ensures ∙ sym w.value-is ∙ c.if-eq-2.false)
]
