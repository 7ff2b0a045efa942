-- The line of a refusal was printed, or a front of it.
use Rattle.std.proofs.Common.{◌≡◌, ◌∙◌, ℕ, List, [], ◌∷◌, ◌++◌, Option, Result, Ok, Err}
use Rattle.std.proofs.Common.{append_assoc, inl, inr, subst, sym}
use Rattle.std.specs.Borrow.{Bor}
use Rattle.std.specs.Prelude.{OnErr, OnOk, codes}
use Rattle.dd_elem.specs.declared.device.Write.{Ghosts as WriteOf}
use Rattle.dd_json.proofs.ValueTexts.{Named, Sees, object_is}
use Rattle.dd_json.specs.Values.{json_line, members_in, value_of}
use Rattle.dd_json.specs.declared.value.Json.{Object}
use Rattle.dd_json.specs.declared.value.Style.TheVariants.{Text, Json}
use Rattle.dd_lines.specs.Text.{FailsInText, TakesText}
use Rattle.dd_messages.specs.FaultLines.{TellsFault, fault_line, path_value, refusal_json}
use Rattle.serde_json.specs.Data.{Data, null, string}

-- ---- an object

module _ {W T E : Type 0} (writer : WriteOf W) (members : Bor (List Named)) (path fault : Data)
    (hints : List (List ℕ × Data)) (a b : W)
    (sees : Sees members.now (members_in (
    (codes "line", string (codes "FAULT")) ∷ (codes "path", path) ∷ (codes "fault", fault) ∷ hints))) where
  pub object_sent : (r : Result T E) → OnOk r (TakesText writer a b (json_line (value_of (Object members))))
      → OnOk r ((hints : List (List ℕ × Data)) × TakesText writer a b (json_line (refusal_json path fault hints)))
  object_sent (Ok done) took =
      (hints, subst (λ (x : Data). TakesText writer a b (json_line x)) (object_is members _ sees) took)
  object_sent (Err fault) took = tt

  pub object_unsent : (r : Result T E) → OnErr r (FailsInText writer a b (json_line (value_of (Object members))))
      → OnErr r ((hints : List (List ℕ × Data)) × FailsInText writer a b (json_line (refusal_json path fault hints)))
  object_unsent (Ok done) failed = tt
  object_unsent (Err fault) failed =
      (hints, subst (λ (x : Data). FailsInText writer a b (json_line x)) (object_is members _ sees) failed)

pub told_object : {W T E : Type 0} (writer : WriteOf W) (path : Option (List ℕ)) (value : Data) (a b : W)
    (r : Result T E) → value ≡ path_value path
    → OnOk r ((fault : Data) × (hints : List (List ℕ × Data))
    × TakesText writer a b (json_line (refusal_json value fault hints)))
    → OnErr r ((fault : Data) × (hints : List (List ℕ × Data))
    × FailsInText writer a b (json_line (refusal_json value fault hints)))
    → TellsFault writer Json path a b
told_object writer path value a b (Ok done) is sent unsent = record {
  words = [];
  fault = sent.0;
  hints = sent.1;
  told = inl (subst (λ (x : Data). TakesText writer a b (json_line (refusal_json x sent.0 sent.1))) is sent.2);
}
told_object writer path value a b (Err fault) is sent unsent = record {
  words = [];
  fault = unsent.0;
  hints = unsent.1;
  told = inr (subst (λ (x : Data). FailsInText writer a b (json_line (refusal_json x unsent.0 unsent.1))) is unsent.2);
}

-- ---- a line of words

pub told_words : {W T E : Type 0} (writer : WriteOf W) (path : Option (List ℕ)) (words text : List ℕ) (a b : W)
    (r : Result T E) → text ≡ fault_line Text path words null [] → OnOk r (TakesText writer a b text)
    → OnErr r (FailsInText writer a b text) → TellsFault writer Text path a b
told_words writer path words text a b (Ok done) is sent unsent = record {
  words = words;
  fault = null;
  hints = [];
  told = inl (subst (λ (x : List ℕ). TakesText writer a b x) is sent);
}
told_words writer path words text a b (Err fault) is sent unsent = record {
  words = words;
  fault = null;
  hints = [];
  told = inr (subst (λ (x : List ℕ). FailsInText writer a b x) is unsent);
}

-- the path in three parts, or in one
pub three_parts : (folder joint name after : List ℕ)
    → folder ++ (joint ++ (name ++ after)) ≡ (folder ++ joint ++ name) ++ after
three_parts folder joint name after =
    sym (append_assoc (folder ++ joint) name after ∙ append_assoc folder joint (name ++ after))
