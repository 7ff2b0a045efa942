-- What the checks of the grammar answer, as steps of reading.
use Rattle.std.specs.Prelude.{Option, Some, None, Result, Ok, Err}
use Rattle.dd_elem.specs.declared.tag.Tag.{Tag}
use Rattle.dd_elem.specs.declared.vr.Vr.{Vr}
use Rattle.dd_grammar.specs.declared.checks.Header.{Header as Said}
use Rattle.dd_grammar.specs.declared.checks.Shape.{Shape as SaidShape}
use Rattle.dd_grammar.specs.declared.checks.Opening.{Opening}
use Rattle.dd_grammar.specs.declared.checks.Opening.TheVariants.{End, Whole, Long}
use Rattle.dd_grammar.specs.declared.checks.Sort.{Sort}
use Rattle.dd_grammar.specs.declared.checks.Sort.TheVariants as sorts
use Rattle.dd_grammar.specs.declared.checks.Reach.{Reach}
use Rattle.dd_grammar.specs.declared.checks.Reach.TheVariants as reaches
use Rattle.dd_grammar.specs.declared.fault.SetFault.{SetFault}
use Rattle.dd_encoding.specs.declared.syntax.Length.TheVariants.{Defined, Undefined}
use Rattle.dd_encoding.specs.declared.syntax.Syntax.{Syntax}
use Rattle.dd_encoding.specs.Elements.{Content, bytes, items, fragments, Item}
use Rattle.dd_grammar.specs.Reading.{Header, Shape, long_length_at, At, Reads, ◌>>=◌, SequenceReader, SetReader}
use Rattle.dd_grammar.specs.Reading.{take_at, within, fragments_here}

abbrev pub shape_view : SaidShape → Shape
shape_view s = record { vr = s.vr; length = s.length }

abbrev pub header_view : Said → Header
header_view h = record { tag = h.tag; shape = shape_view h.shape }

-- the length of a long header stands after its first eight bytes
abbrev pub long_header_at : Tag → Vr → At → Reads (Option Header)
long_header_at tag vr at =
    long_length_at at >>= λ n. Ok (Some (record { tag = tag; shape = record { vr = Some vr; length = n.0 } }), n.1)

abbrev pub opened : Result Opening SetFault → At → Reads (Option Header)
opened (Ok End) at = Ok (None, at)
opened (Ok (Whole h)) at = Ok (Some (header_view h), at)
opened (Ok (Long tag vr)) at = long_header_at tag vr at
opened (Err e) at = Err e

abbrev pub sorted : SequenceReader → Result Sort SetFault → At → Reads Content
sorted sequence (Ok (sorts.Bytes n)) at = take_at n at >>= λ x. Ok (bytes x.0, x.1)
sorted sequence (Ok (sorts.Open inner)) at = sequence inner Undefined at >>= λ x. Ok (items Undefined x.0, x.1)
sorted sequence (Ok (sorts.Closed inner n)) at =
    within n at (sequence inner Defined) >>= λ x. Ok (items Defined x.0, x.1)
sorted sequence (Ok sorts.Fragments) at = fragments_here at >>= λ x. Ok (fragments x.0, x.1)
sorted sequence (Err e) at = Err e

abbrev pub reached : SetReader → Syntax → Result Reach SetFault → At → Reads Item
reached set syntax (Ok reaches.Open) at =
    set syntax Undefined at >>= λ x. Ok (record { length = Undefined; set = x.0 }, x.1)
reached set syntax (Ok (reaches.Closed n)) at =
    within n at (set syntax Defined) >>= λ x. Ok (record { length = Defined; set = x.0 }, x.1)
reached set syntax (Err e) at = Err e
