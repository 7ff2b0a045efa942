-- A record with what it inherits, as the code holds it.
use Rattle.std.specs.Prelude.{◌≡◌, ℕ, List, ◌∷◌}
use Rattle.dd_records.specs.ElementForms.{tag}
use Rattle.dd_walk.specs.ForestViews.{tree_view}
use Rattle.dd_walk.specs.Trees.{Node}
use Rattle.dd_report.specs.Agreements.{Standing, nearest}
use Rattle.dd_calls.specs.declared.standing.Inherited.{Inherited}
use Rattle.dd_calls.specs.declared.standing.Standing.{Standing as StandingValue}

-- each value is from the nearest of these records that has the element
pub record Inherits (inherited : Inherited) (nodes : List Node) : Type 0 where
  pub patient_id : inherited.patient_id.now ≡ nearest (tag 0x0010 0x0020) nodes
  pub study : inherited.study.now ≡ nearest (tag 0x0020 0x000d) nodes
  pub series : inherited.series.now ≡ nearest (tag 0x0020 0x000e) nodes

-- a record, and the Patient ID, the Study and the Series Instance UID that it inherits
pub record Seen : Type 0 where
  pub node : Node
  pub patient_id : List ℕ
  pub study : List ℕ
  pub series : List ℕ

abbrev pub standing_view : StandingValue → Seen
standing_view standing = record {
  node = (tree_view standing.tree.now).node;
  patient_id = standing.inherited.patient_id.now;
  study = standing.inherited.study.now;
  series = standing.inherited.series.now;
}

abbrev pub seen_by : Standing → Seen
seen_by standing = record {
  node = standing.node;
  patient_id = nearest (tag 0x0010 0x0020) (standing.node ∷ standing.above);
  study = nearest (tag 0x0020 0x000d) (standing.node ∷ standing.above);
  series = nearest (tag 0x0020 0x000e) (standing.node ∷ standing.above);
}
