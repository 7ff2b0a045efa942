-- An empty path that the words give is one of the request.
use Rattle.std.proofs.Common.{◌≡◌, ◌<◌, ◌∙◌, ◌⊎◌, ℕ, zero, suc, List, [], ◌∷◌, Option, Some, None, String, length, map}
use Rattle.std.proofs.Common.{arith, inl, inr, string_bytes}
use Rattle.std.specs.Borrow.{Bor}
use Rattle.std.specs.Option.{option_map, option_map_or}
use Rattle.dd_line.specs.Requests.{IsRequested, paths_of, read_of, written_of}
use Rattle.dd_line.specs.declared.request.Request.{Request}
use Rattle.dd_line.proofs.RequestLemmas.{says_parts}
use Rattle.std.proofs.Common.{subst, sym}
use Rattle.std.specs.Prelude.{Contains, IfSome, IsSomeAnd}
use Rattle.std.specs.declared.alloc.Global.{Global}
use Rattle.std.proofs.lemmas.List.{get_or-map, length-map}
use Rattle.std.proofs.lemmas.Option.{same_Some}
use Rattle.clap.specs.Words.{Row, Text}
use Rattle.dd_inputs.specs.EmptyPaths.{RequestsEmptyPath, HasEmptyPath, IsEmptyAt}

contains_empty : (paths : List (String Global)) → Contains (map (λ path. string_bytes path) paths) []
    → (at : ℕ) × IsEmptyAt paths at
contains_empty paths (at, within, is) =
    let there : at < length paths =
    subst (λ (n : ℕ). at < n) (length-map paths (λ path. string_bytes path)) within in (
      at,
      record {
        within = there;
        empty = λ otherwise. sym (get_or-map (λ path. string_bytes path) paths at otherwise [] there) ∙ is;
      },
    )

pub requested_empty : (r : Request) (found : Option (Text × List Row)) → IsRequested r found → HasEmptyPath found
    → RequestsEmptyPath r
requested_empty r None h has = absurd h
requested_empty r (Some (command, given)) h has = contains_empty (paths_of r)
    (subst (λ (paths : List Text). Contains paths []) (sym (says_parts r command given h).paths) has)

-- a path that is empty is the first, or one after it
empty_behind : (first : String Global) (paths : List (String Global)) (at : ℕ) → IsEmptyAt (first ∷ paths) at
    → (string_bytes first ≡ []) ⊎ ((behind : ℕ) × IsEmptyAt paths behind)
empty_behind first paths zero is = inl (is.empty first)
empty_behind first paths (suc at) is =
    let within = is.within in
    inr (at, record { within = omega arith; empty = is.empty })

-- the folder that was looked at is the request's
pub folder_seen : (written : Option (String Global)) (seen : Option (Bor (List ℕ)))
    → option_map (λ folder. folder.now) seen ≡ option_map string_bytes written
    → IfSome seen (λ folder. ¬ (folder.now ≡ [])) → IfSome written (λ folder. ¬ (string_bytes folder ≡ []))
folder_seen None seen is some = tt
folder_seen (Some folder) None is some = absurd (cc)
folder_seen (Some folder) (Some path) is some =
    λ empty. some (same_Some path.now (string_bytes folder) is ∙ empty)

-- a request has no empty path where neither the folder that it writes to nor any path that it reads is empty
pub none_empty : (r : Request) → IfSome (written_of r) (λ folder. ¬ (string_bytes folder ≡ []))
    → ((at : ℕ) → ¬ IsEmptyAt (read_of r) at) → RequestsEmptyPath r → ⊥
none_empty r folder sources (at, is) = go (written_of r) folder is
  where
    go : (w : Option (String Global)) → IfSome w (λ folder. ¬ (string_bytes folder ≡ []))
        → IsEmptyAt (option_map_or (λ folder. folder ∷ read_of r) w (read_of r)) at → ⊥
    go None folder is = sources at is
    go (Some written) folder is = elim (empty_behind written (read_of r) at is) [
      | inl out ↦ folder out
      | inr later ↦ sources later.0 later.1
    ]

-- it has one where either is
pub some_empty : (r : Request) (seen : Option (Bor (List ℕ)))
    → option_map (λ folder. folder.now) seen ≡ option_map string_bytes (written_of r)
    → IsSomeAnd seen (λ folder. folder.now ≡ []) ⊎ ((at : ℕ) × IsEmptyAt (read_of r) at) → RequestsEmptyPath r
some_empty r seen is empty = go (written_of r) seen is empty
  where
    go : (w : Option (String Global)) (seen : Option (Bor (List ℕ)))
        → option_map (λ folder. folder.now) seen ≡ option_map string_bytes w
        → IsSomeAnd seen (λ folder. folder.now ≡ []) ⊎ ((at : ℕ) × IsEmptyAt (read_of r) at)
        → (at : ℕ) × IsEmptyAt (option_map_or (λ folder. folder ∷ read_of r) w (read_of r)) at
    go None None is (inl folder) = absurd folder
    go None (Some path) is empty = absurd (cc)
    go None None is (inr later) = later
    go (Some written) None is empty = absurd (cc)
    go (Some written) (Some path) is (inl folder) = (
      0,
      record {
        within = omega arith;
        empty = λ otherwise. sym (same_Some path.now (string_bytes written) is) ∙ folder;
      },
    )
    go (Some written) (Some path) is (inr later) =
        let within = later.1.within in
        (suc later.0, record { within = omega arith; empty = later.1.empty })
