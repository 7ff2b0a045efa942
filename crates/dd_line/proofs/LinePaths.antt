-- Which values a command was given for an argument that takes paths, or that it does not have.
use Rattle.std.proofs.Common.{◌≡◌, ◌≤◌, ◌==◌, ℕ, Bool, true, false, not}
use Rattle.std.proofs.Common.{zero, suc, List, [], ◌∷◌, ◌++◌, Option, Some, None}
use Rattle.std.proofs.Common.{arith, eqb-true, inl, length, refl, sym, true≢false}
use Rattle.std.proofs.lemmas.List.{length-append}
use Rattle.std.specs.List.{find}
use Rattle.std.specs.Option.{option_map, option_map_or, unwrap_or}
use Rattle.std.specs.Prelude.{IfSome, if◌then◌else◌}
use Rattle.std.specs.Str.{bytes_eq}
use Rattle.clap.specs.Facts.{explicit_source, unwrap_or_range}
use Rattle.clap.specs.Faults.{level_fault}
use Rattle.clap.specs.Kinds.{range_kinds}
use Rattle.clap.specs.Simple.{Shape}
use Rattle.clap.specs.Takes.{is_given}
use Rattle.clap.specs.Walk.{Row, Rule, Text, action_of, most_values, nothing_held, reading_by, rows_after}
use Rattle.clap.specs.Walk.{values_or_missing}
use Rattle.clap.specs.declared.builder.value_parser.Reading.TheVariants.{AsWritten}
use Rattle.clap.specs.declared.error.kind.ErrorKind.TheVariants.{InvalidValue, WrongNumberOfValues}
use Rattle.clap.specs.declared.parser.matches.ValueSource.{ValueSource}
use Rattle.dd_line.specs.Line.{given_for}
use Rattle.dd_line.proofs.LineEach.{Each, each_found, first_none}
use Rattle.dd_line.proofs.LineRows.{Fine, Fits, Stores}
use Rattle.dd_line.proofs.LineWalk.{level_fine}

-- ---- how many values

-- there is a value
abbrev pub AreSome : List Text → Type 0
AreSome values = 1 ≤ length values

pub joined : (source : Option ValueSource) (xs ys : List Text) → AreSome xs → AreSome ys → AreSome (xs ++ ys)
joined source xs ys first second = omega (arith, length-append xs ys)

-- there is one value alone
abbrev pub AreOne : List Text → Type 0
AreOne values = length values ≡ 1

-- there is no row
abbrev pub AreNone : List Text → Type 0
AreNone values = ⊥

at_least_one : (most n : ℕ) → range_kinds 1 most n ≡ [] → 1 ≤ n
at_least_one most zero none = cc
at_least_one most (suc n) none = omega arith

just_one : (n : ℕ) → range_kinds 1 1 n ≡ [] → n ≡ 1
just_one n none = go (n == 0) (1 == n) refl none
  where
    go : (empty same : Bool) → (1 == n) ≡ same
        → (if empty then InvalidValue ∷ [] else (if same then [] else WrongNumberOfValues ∷ [])) ≡ [] → n ≡ 1
    go true same e none = cc
    go false true e none = sym (eqb-true 1 n e)
    go false false e none = cc

-- the rule is another argument's, or makes rows whose values are right
abbrev pub FitsValues : Text → (List Text → Type 0) → Rule → Type 0
FitsValues name ok = Fits name AsWritten (λ _. ok)

-- a positional whose number of values is right is given values that are right
path_fits : (name : Text) (ok : List Text → Type 0) (a : Rule) → Stores (λ _. ok) (action_of a)
    → reading_by a ≡ AsWritten
    → ((values : List Text)
    → range_kinds (unwrap_or_range a.range).start_inclusive (most_values a) (length values) ≡ []
    → ok (values_or_missing a values)) → a.defaults ≡ [] → FitsValues name ok a
path_fits name ok a stores read right empty = record {
  stores = λ named. stores;
  reading = λ named. read;
  passes = λ named again values rows none. right values (first_none _ _ none);
  defaults = λ named. inl empty;
}

some_right : (a : Rule) → (unwrap_or_range a.range).start_inclusive ≡ 1 → (values : List Text)
    → range_kinds (unwrap_or_range a.range).start_inclusive (most_values a) (length values) ≡ []
    → AreSome (values_or_missing a values)
some_right a least values range = kept values (at_least_one (most_values a) (length values) (rw least at range))
  where
    kept : (values : List Text) → 1 ≤ length values → AreSome (values_or_missing a values)
    kept [] one = absurd (omega (arith, one))
    kept (v ∷ vs) one = one

one_right : (a : Rule) → (unwrap_or_range a.range).start_inclusive ≡ 1 → most_values a ≡ 1 → (values : List Text)
    → range_kinds (unwrap_or_range a.range).start_inclusive (most_values a) (length values) ≡ []
    → AreOne (values_or_missing a values)
one_right a least most values range = kept values (just_one (length values) (rw (least, most) at range))
  where
    kept : (values : List Text) → length values ≡ 1 → AreOne (values_or_missing a values)
    kept [] one = absurd (omega (arith, one))
    kept (v ∷ vs) one = one

-- paths, at least one
pub some_fits : (name : Text) (a : Rule) → Stores (λ _. AreSome) (action_of a) → reading_by a ≡ AsWritten
    → (unwrap_or_range a.range).start_inclusive ≡ 1 → a.defaults ≡ [] → FitsValues name AreSome a
some_fits name a stores read least empty = path_fits name AreSome a stores read (some_right a least) empty

-- a path alone
pub one_fits : (name : Text) (a : Rule) → Stores (λ _. AreOne) (action_of a) → reading_by a ≡ AsWritten
    → (unwrap_or_range a.range).start_inclusive ≡ 1 → most_values a ≡ 1 → a.defaults ≡ []
    → FitsValues name AreOne a
one_fits name a stores read least most empty =
    path_fits name AreOne a stores read (one_right a least most) empty

-- ---- a level with no fault

module _ (name : Text) (ok : List Text → Type 0) (s : Shape) (words : List Text)
    (fits : Each (FitsValues name ok) s.rules) (once : s.args_override_self ≡ false)
    (none : level_fault s [] nothing_held words false [] ≡ []) where
  abbrev rows : List Row
  rows = rows_after s.rules [] words

  found_fine : IfSome (find (λ r. bytes_eq r.id name) rows)
      (λ r. Fine name AsWritten (λ _. ok) r × (bytes_eq r.id name ≡ true))
  found_fine =
      each_found _ (λ r. bytes_eq r.id name) rows
      (level_fine name AsWritten (λ _. ok) s fits once [] words false [] none)

  -- has right values where the argument has to be given
  pub level_values : not (is_given name (rows_after s.rules [] words)) ≡ false
      → ok (given_for name (rows_after s.rules [] words))
  level_values = go (find (λ r. bytes_eq r.id name) rows) found_fine
    where
      go : (o : Option Row) → IfSome o (λ r. Fine name AsWritten (λ _. ok) r × (bytes_eq r.id name ≡ true))
          → not (option_map_or (λ r. explicit_source r.source) o false) ≡ false
          → ok (unwrap_or (option_map (λ r. r.values) o) [])
      go None h given = absurd (true≢false given)
      go (Some r) h given = (h.0 h.1).values

  -- and none where no values are right
  pub level_absent : ((values : List Text) → ok values → ⊥)
      → find (λ r. bytes_eq r.id name) (rows_after s.rules [] words) ≡ None
  level_absent never = go (find (λ r. bytes_eq r.id name) rows) found_fine
    where
      go : (o : Option Row) → IfSome o (λ r. Fine name AsWritten (λ _. ok) r × (bytes_eq r.id name ≡ true)) → o ≡ None
      go None h = refl
      go (Some r) h = absurd (never r.values (h.0 h.1).values)
