-- What was found of sources grows by one answer.
use Rattle.std.proofs.Common.{◌≡◌, ◌∙◌, ◌+◌, ℕ, suc, List, [], ◌∷◌, ◌++◌, Ok, Err, ap, arith, length, map, refl, sym}
use Rattle.std.proofs.lemmas.List.{append-nil, map-append}
use Rattle.dd_keys.specs.declared.fault.KeyFault.{KeyFault}
use Rattle.dd_keys.specs.Sources.{Answer}
use Rattle.dd_version.specs.declared.parts.Parts.{Parts}
use Rattle.dd_engine.specs.Found.{Found, HasFound}
use Rattle.dd_sources.specs.Indexing.{Sourced, accepted, accepted_from, skipped, skipped_from, versions_of}
use Rattle.dd_sources.specs.Supply.{Holds}
use Rattle.dd_sources.specs.declared.sources.Sources.{Sources}
use Rattle.dd_sources.proofs.Answering.{accepted_more, skipped_more}

abbrev pub found_of : Sources → Found
found_of sources = record {
  versions = sources.versions.items;
  origins = sources.origins.items;
  skipped = sources.skipped.items;
}

pub holds_found : (answers : List Answer) (sources : Sources) → HasFound answers (found_of sources)
    → Holds answers sources
holds_found answers sources found = record {
  versions = found.versions;
  origins = found.origins;
  skips = found.skips;
}

-- each answer is a version or a fault
all_count : (at : ℕ) (answers : List Answer)
    → length (versions_of (accepted_from at answers)) + length (skipped_from at answers) ≡ length answers
all_count at [] = refl
all_count at (Ok version ∷ answers) =
    let rest = all_count (suc at) answers in omega (arith, rest)
all_count at (Err fault ∷ answers) =
    let rest = all_count (suc at) answers in omega (arith, rest)

pub next_number : (answers : List Answer) (found : Found) → HasFound answers found
    → length answers ≡ length found.versions + length found.skipped
next_number answers found h =
    let one = ap length h.versions in
    let two = ap length h.skips in
    let all = all_count 0 answers in
    omega (arith, one, two, all)

pub found_version : (answers : List Answer) (version : Parts) (at : ℕ) (old new : Found) → HasFound answers old
    → length answers ≡ at → new.versions ≡ old.versions ++ version ∷ [] → new.origins ≡ old.origins ++ at ∷ []
    → new.skipped ≡ old.skipped → HasFound (answers ++ Ok version ∷ []) new
found_version answers version at old new h many versions origins skips =
    let more = accepted_more 0 at answers (Ok version) (omega (arith, many)) in
    let none = skipped_more 0 at answers (Ok version) (omega (arith, many)) in
    record {
      versions = versions ∙ ap (λ (front : List Parts). front ++ version ∷ []) h.versions
          ∙ sym (ap versions_of more ∙ map-append (λ (source : Sourced). source.1) (accepted answers) _);
      origins = origins ∙ ap (λ (front : List ℕ). front ++ at ∷ []) h.origins
          ∙ sym (ap (map (λ (source : Sourced). source.0)) more
          ∙ map-append (λ (source : Sourced). source.0) (accepted answers) _);
      skips = skips ∙ h.skips ∙ sym (none ∙ append-nil (skipped answers));
    }

pub found_fault : (answers : List Answer) (fault : KeyFault) (at : ℕ) (old new : Found) → HasFound answers old
    → length answers ≡ at → new.versions ≡ old.versions → new.origins ≡ old.origins
    → new.skipped ≡ old.skipped ++ (at, fault) ∷ [] → HasFound (answers ++ Err fault ∷ []) new
found_fault answers fault at old new h many versions origins skips =
    let none = accepted_more 0 at answers (Err fault) (omega (arith, many)) in
    let more = skipped_more 0 at answers (Err fault) (omega (arith, many)) in
    record {
      versions = versions ∙ h.versions ∙ sym (ap versions_of (none ∙ append-nil (accepted answers)));
      origins = origins ∙ h.origins
          ∙ sym (ap (map (λ (source : Sourced). source.0)) (none ∙ append-nil (accepted answers)));
      skips = skips ∙ ap (λ (front : List (ℕ × KeyFault)). front ++ (at, fault) ∷ []) h.skips ∙ sym more;
    }
