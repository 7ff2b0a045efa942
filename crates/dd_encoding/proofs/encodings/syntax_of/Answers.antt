use Rattle.std.proofs.Common.{◌∙◌, true, false, sym}
use Rattle.dd_encoding.proofs.KnownSyntaxes.{after_both}
use Rattle.dd_encoding.proofs.encodings.syntax_of.Goals as goal

pub returns-then-is_encapsulated : goal.returns-then-is_encapsulated
returns-then-is_encapsulated c =
    after_both c.args.uid.now true (sym c.eq.ensures ∙ c.if-eq.false) (sym c.eq-else-eq.ensures ∙ c.if-eq-2.false)
    (sym c.is_encapsulated.ensures ∙ c.if-is_encapsulated.true)

pub returns-else-is_encapsulated : goal.returns-else-is_encapsulated
returns-else-is_encapsulated c =
    after_both c.args.uid.now false (sym c.eq.ensures ∙ c.if-eq.false) (sym c.eq-else-eq.ensures ∙ c.if-eq-2.false)
    (sym c.is_encapsulated.ensures ∙ c.if-is_encapsulated.false)
