-- The bytes that a read gives are the next ones.
use Rattle.std.proofs.Common.{◌≡◌, refl, sym, ap, ◌∙◌, ◌+◌, ◌++◌, length, drop, arith, rules}
use Rattle.std.proofs.lemmas.Grind.{common_steps}
use Rattle.std.proofs.Math.Seq.{take-add}
use Rattle.dd_mem_files.specs.MemReader.{Opened}
use Rattle.dd_mem_files.proofs.Rest.{drop-split, next_len-end}
use Rattle.dd_mem_files.proofs.mem_reader.MemReaderRead.read.Goals as goal

pub returns-in-Some-clause-left : goal.returns-in-Some-clause-left
returns-in-Some-clause-left c =
    let split = drop-split c.self.inside.bytes.items c.self.inside.at c.in-Some.n in
    let next = c.in-Some.ensures in
    let left_is = ap (λ (s : Opened). s.left) c.self.view_is in
    let room_is : length (c.copy_from_slice.new.self ++ drop c.in-Some.n c.args.buf.now) ≡ length c.args.buf.now =
    grind (arith, common_steps) in
    let here : c.in-Some.n ≡ 0 → c.self.inside.at + c.in-Some.n ≡ c.self.inside.at = λ none. omega arith in
    rw (← c.self.view_is) (
      grind (arith, common_steps),
      λ none room. let same = here none in rw same
          (left_is ∙ next_len-end c.args.self.now (length c.args.buf.now) (next.readable.0 refl)
          (sym next.len ∙ none) (omega arith)),
    )

pub returns-in-Some-clause-gives : goal.returns-in-Some-clause-gives
returns-in-Some-clause-gives c =
    let more = take-add c.self.inside.at c.in-Some.n c.self.inside.bytes.items in
    rw (← c.self.view_is) (record { then = λ _ before h. grind (arith, common_steps) })

pub returns-in-Some-clause-reads : goal.returns-in-Some-clause-reads
returns-in-Some-clause-reads c =
    let more = take-add c.self.inside.at c.in-Some.n c.self.inside.bytes.items in
    let split = drop-split c.self.inside.bytes.items c.self.inside.at c.in-Some.n in
    record {
      readable = search rules;
      len = c.in-Some.ensures.len;
      after = rw (← c.self.view_is) (grind (arith, common_steps));
    }
