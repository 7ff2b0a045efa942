use Rattle.std.proofs.Common.{rules, ◌≡◌, ◌∙◌, ap, sym, subst, true, false}
use Rattle.std.proofs.lemmas.List.Sorted.{IsPartitionPoint-from_clause}
use Rattle.std.specs.Ordering.{is_eq, is_lt}
use Rattle.dd_catalogue.specs.Conflicts.{same}
use Rattle.dd_elem.specs.Ordered.{bytes_cmp}
use Rattle.dd_engine.specs.declared.mentions.Mention.{Mention}
use Rattle.dd_engine.proofs.FirstMentions.{first_there, none_there, other_there, parted}
use Rattle.dd_engine.proofs.mentions.first_number.Goals as goal

pub returns-in_err-mention : goal.returns-in_err-mention
returns-in_err-mention c =
    let t = c.args.uid.now in
    let point = IsPartitionPoint-from_clause (λ (mention : Mention). is_lt (bytes_cmp mention.uid.now t)) _ _
    c.partition_point-first.ensures.partitioned (parted c.args.mentions.now t c.requires)
    (λ a r q k. search rules) in
    rw c.from_residual.ensures
    (sym (none_there c.args.mentions.now t c.partition_point-first.result point c.in_err-mention.ensures.lookup.3))

pub returns-then-is_eq : goal.returns-then-is_eq
returns-then-is_eq c =
    let t = c.args.uid.now in
    let xs = c.args.mentions.now in
    let i = c.partition_point-first.result in
    let mention = c.in_ok-mention.mention.now in
    let point = IsPartitionPoint-from_clause (λ (mention : Mention). is_lt (bytes_cmp mention.uid.now t)) _ _
    c.partition_point-first.ensures.partitioned (parted xs t c.requires) (λ a r q k. search rules) in
    let found = c.in_ok-mention.ensures.lookup in
    let here : same mention.uid.now t ≡ true =
    ap is_eq (sym c.compare.ensures) ∙ sym c.is_eq.ensures ∙ c.if-is_eq.true in
    ap (λ (m : Mention). m.number) found.1
    ∙ first_there xs t i mention point found.3.0
    (subst (λ (m : Mention). same m.uid.now t ≡ true) found.1 here)

pub returns-else-is_eq : goal.returns-else-is_eq
returns-else-is_eq c =
    let t = c.args.uid.now in
    let xs = c.args.mentions.now in
    let i = c.partition_point-first.result in
    let mention = c.in_ok-mention.mention.now in
    let point = IsPartitionPoint-from_clause (λ (mention : Mention). is_lt (bytes_cmp mention.uid.now t)) _ _
    c.partition_point-first.ensures.partitioned (parted xs t c.requires) (λ a r q k. search rules) in
    let found = c.in_ok-mention.ensures.lookup in
    let other : same mention.uid.now t ≡ false =
    ap is_eq (sym c.compare.ensures) ∙ sym c.is_eq.ensures ∙ c.if-is_eq.false in
    sym (other_there xs t i mention c.requires point found.3.0
    (subst (λ (m : Mention). same m.uid.now t ≡ false) found.1 other))
