-- What passed a tee: what is known of its reader, of its writer and of their counts.
use Rattle.std.proofs.Common.{◌≡◌, ◌⊎◌, ℕ, List, [], Option, None, inl, inr, refl, sym, subst}
use Rattle.dd_elem.specs.Device.{Gives, either_fact}
use Rattle.dd_elem.specs.declared.counts.Counts.{Counts}
use Rattle.dd_elem.specs.declared.device.Read.{Ghosts as ReadOf}
use Rattle.dd_elem.specs.declared.device.Write.{Ghosts as WriteOf}
use Rattle.dd_stream.proofs.Going.{goes_none}
use Rattle.dd_stream.specs.Sends.{counts_of}
use Rattle.dd_filing.specs.Sent.{IsCounted, IsSent, SentTo}
use Rattle.dd_filing.specs.declared.tee.Tee.{Tee}

module _ {R W : Type 0} (reader : ReadOf R) (writer : WriteOf W) where
  -- the tee has the same reader and the same writer; the reader gave these bytes, and the writer took them or failed
  pub record Passed (old new : Tee R W) (given : List ℕ) : Type 0 where
    pub same_reader : new.reader.ghost_name ≡ old.reader.ghost_name
    pub same_writer : new.writer.ghost_name ≡ old.writer.ghost_name
    pub gave : Gives reader.has_given old.reader.now new.reader.now given
    pub sent : SentTo writer new.late given old.writer.now new.writer.now
    pub counted : IsCounted new.late (reader.calls new.reader.now)

  -- this holds of a tee of which no write had failed before
  pub passed : (old new : Tee R W) (given : List ℕ)
      → Gives {P = ℕ × (ℕ × (((Option (List ℕ) × writer.Rest) × Counts) ⊎ reader.Past))}
      (λ t past bytes. (t.reader.ghost_name ≡ past.0) × ((t.writer.ghost_name ≡ past.1.0)
      × either_fact (λ start m. IsSent t.late m start.0 (writer.contents t.writer.now, writer.rest t.writer.now)
      start.1 (counts_of writer t.writer.now) × IsCounted t.late (reader.calls t.reader.now))
      (λ p m. reader.has_given t.reader.now p m) past.1.1 bytes)) old new given
      → old.late ≡ None → Passed old new given
  passed old new given h unfailed =
      let before : Option (List ℕ) × writer.Rest = (writer.contents old.writer.now, writer.rest old.writer.now) in
      let begun : IsSent old.late [] before before (counts_of writer old.writer.now) (counts_of writer old.writer.now) =
      subst (λ (late : Option ℕ). IsSent late [] before before (counts_of writer old.writer.now)
      (counts_of writer old.writer.now)) (sym unfailed) (goes_none before (counts_of writer old.writer.now)) in
      let uncounted : IsCounted old.late (reader.calls old.reader.now) =
      subst (λ (late : Option ℕ). IsCounted late (reader.calls old.reader.now)) (sym unfailed) tt in
      let sent = h.then (old.reader.ghost_name, (old.writer.ghost_name, inl (before, counts_of writer old.writer.now)))
      [] (refl, (refl, (begun, uncounted))) in
      record {
        same_reader = sent.0;
        same_writer = sent.1.0;
        gave = record {
          then = λ past bytes k. (h.then (old.reader.ghost_name, (old.writer.ghost_name, inr past)) bytes
              (refl, (refl, k))).1.1;
        };
        sent = sent.1.1.0;
        counted = sent.1.1.1;
      }
