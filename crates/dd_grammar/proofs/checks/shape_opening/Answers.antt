-- A long header, whose length stands after its first eight bytes.
use Rattle.std.proofs.Common.{◌≡◌, ◌∙◌, ℕ, true, false, eqb, rules, ap, sym, List, take, drop, Option, Some, Ok, Err}
use Rattle.std.proofs.Common.{refl}
use Rattle.dd_elem.specs.declared.tag.Tag.{Tag}
use Rattle.dd_elem.specs.declared.vr.Vr.{Vr}
use Rattle.dd_elem.specs.Vr.{is_long_of, vr_of}
use Rattle.dd_grammar.specs.declared.fault.SetFault.TheVariants.{Reserved}
use Rattle.dd_encoding.specs.declared.syntax.Syntax.{Syntax}
use Rattle.dd_encoding.specs.Spelling.{names_vr}
use Rattle.dd_grammar.specs.Checks.{long_header_at}
use Rattle.dd_grammar.specs.Reading.{Header, tagged_at, header_with, there, long_length_at, At, Reads, ◌>>=◌, Shape}
use Rattle.dd_grammar.specs.Reading.{short_of, shape_at, long_at}
use Rattle.dd_grammar.proofs.Loops.{differ}
use Rattle.dd_grammar.proofs.checks.shape_opening.Goals as goal

abbrev shape_with : Vr → ℕ × At → Reads Shape
shape_with vr n = Ok (record { vr = Some vr; length = n.0 }, n.1)

abbrev whole_with : Tag → Vr → ℕ × At → Reads (Option Header)
whole_with tag vr n = Ok (Some (record { tag = tag; shape = record { vr = Some vr; length = n.0 } }), n.1)

after_length : (tag : Tag) (vr : Vr) (r : Reads ℕ)
    → (r >>= shape_with vr >>= header_with tag >>= there) ≡ (r >>= whole_with tag vr)
after_length tag vr (Ok n) = refl
after_length tag vr (Err e) = refl

long_header : (syntax : Syntax) (tag : Tag) (vr : Vr) (head : List ℕ) (at : At) → names_vr syntax ≡ true
    → vr_of (take 2 (drop 4 head)) ≡ Some vr
    → is_long_of vr ≡ true → eqb (short_of head) 0 ≡ true
    → tagged_at syntax tag head at ≡ long_header_at tag vr at
unfolding shape_at long_at
long_header syntax tag vr head at names named long zero =
    rw (names, named, long, zero) (after_length tag vr (long_length_at at))

reserved_header : (syntax : Syntax) (tag : Tag) (vr : Vr) (head : List ℕ) (at : At) → names_vr syntax ≡ true
    → vr_of (take 2 (drop 4 head)) ≡ Some vr
    → is_long_of vr ≡ true → eqb (short_of head) 0 ≡ false
    → tagged_at syntax tag head at ≡ Err Reserved
unfolding shape_at long_at
reserved_header syntax tag vr head at names named long other = rw (names, named, long, other) refl

pub returns-then-short_in-ne0-clause-exact : goal.returns-then-short_in-ne0-clause-exact
returns-then-short_in-ne0-clause-exact c = λ at.
    let named = ap vr_of (sym c.letters_in.ensures) ∙ sym c.in-Some.ensures.exact in
    let names : names_vr c.args.syntax ≡ true = search rules in
    reserved_header c.args.syntax c.args.tag c.in-Some.vr c.args.head.now at names named
    (sym c.is_long.ensures ∙ c.if-is_long.true) (differ _ _
    (λ zero. c.if-short_in-ne0.true (c.short_in.ensures ∙ zero)))

pub returns-then-is_long-clause-exact : goal.returns-then-is_long-clause-exact
returns-then-is_long-clause-exact c = λ at.
    let named = ap vr_of (sym c.letters_in.ensures) ∙ sym c.in-Some.ensures.exact in
    let zero : short_of c.args.head.now ≡ 0 = sym c.short_in.ensures ∙ c.if-short_in-ne0.false in
    let names : names_vr c.args.syntax ≡ true = search rules in
    long_header c.args.syntax c.args.tag c.in-Some.vr c.args.head.now at names named
    (sym c.is_long.ensures ∙ c.if-is_long.true) (ap (λ n. eqb n 0) zero)
