-- `publish` takes exactly the versions of sources that the lists of its piles have.
use Rattle.std.proofs.Common.{◌≡◌, ◌∙◌, ℕ, suc, List, [], ◌∷◌, Some, Ok, Err, ap, inl, inr, map, refl, subst, sym}
use Rattle.std.specs.Prelude.{◌++◌}
use Rattle.std.proofs.lemmas.List.{map-append}
use Rattle.std.proofs.lemmas.Option.{same_Some}
use Rattle.clap.specs.Words.{Text}
use Rattle.dd_catalogue.proofs.Members.{Member, contained, member_of}
use Rattle.dd_keys.specs.Sources.{Answer}
use Rattle.dd_sources.specs.Indexing.{accepted, accepted_from, versions_of}
use Rattle.dd_files.specs.Files.{Held}
use Rattle.dd_files.proofs.OnePaths.{one_path}
use Rattle.dd_pile.specs.Lists.{HasList}
use Rattle.dd_staged.specs.Sources.{Source}
use Rattle.dd_staged.specs.Stages.{IsStage}
use Rattle.dd_staged.specs.declared.source_fault.SourceFault.TheVariants.{Absent, BadName, Key, Unread}
use Rattle.dd_staged.proofs.Valid as stages
use Rattle.dd_version.specs.declared.parts.Parts.{Parts}
use Rattle.dicomdir_laws.proofs.SaidBySets.{at_end, in_either, in_front}
use Rattle.dicomdir_laws.specs.Headline.{OneListSays}
use Rattle.dicomdir.specs.Publishes.{AreLists, answers_in, sources_in}
use Rattle.dicomdir.specs.Unread.{Staged, answer_of}

-- ---- the versions among answers

pub kept_found : (at : ℕ) (answers : List Answer) (version : Parts)
    → Member version (versions_of (accepted_from at answers)) → Member (Ok version) answers
kept_found at [] version kept = absurd kept
kept_found at (Ok one ∷ answers) version (inl is) = inl (ap (λ (v : Parts). Ok v) is)
kept_found at (Ok one ∷ answers) version (inr later) = inr (kept_found (suc at) answers version later)
kept_found at (Err fault ∷ answers) version kept = inr (kept_found (suc at) answers version kept)

pub found_kept : (at : ℕ) (answers : List Answer) (version : Parts) → Member (Ok version) answers
    → Member version (versions_of (accepted_from at answers))
found_kept at [] version found = absurd found
found_kept at (Ok one ∷ answers) version (inl is) = inl (cc)
found_kept at (Ok one ∷ answers) version (inr later) = inr (found_kept (suc at) answers version later)
found_kept at (Err fault ∷ answers) version (inl is) = absurd (cc)
found_kept at (Err fault ∷ answers) version (inr later) = found_kept (suc at) answers version later

-- ---- a pile has one list

pub one_list_of : (pile : Text) (held : Held) (one other : List Source)
    → HasList pile (λ bytes. IsStage bytes one) held → HasList pile (λ bytes. IsStage bytes other) held → one ≡ other
one_list_of pile held one other first second =
    let same = one_path pile _ first.path second.path first.place second.place in
    let bytes : first.bytes ≡ second.bytes =
    same_Some first.bytes second.bytes (sym first.there ∙ ap held.bytes_at same ∙ second.there) in
    stages.one_list first.bytes one other first.is (subst (λ (b : List ℕ). IsStage b other) (sym bytes) second.is)

-- ---- what the lists say

module _ (held : Held) (version : Parts) where
  abbrev answer : Answer
  answer = Ok version

  abbrev found_in : List Source → List Answer
  found_in sources = map (λ (source : Source). answer_of source.found) sources

  abbrev said_in : List Source → List Staged
  said_in sources = map (λ (source : Source). source.found) sources

  -- a source is answered by this version where its list says it
  pub said_of_answer : (staged : Staged) → answer_of staged ≡ Ok version → staged ≡ Ok version
  said_of_answer (Ok one) is = let same : one ≡ version = cc in ap (λ (v : Parts). Ok v) same
  said_of_answer (Err (Key fault)) is = absurd (cc)
  said_of_answer (Err Absent) is = absurd (cc)
  said_of_answer (Err Unread) is = absurd (cc)
  said_of_answer (Err (BadName number)) is = absurd (cc)

  said_by : (sources : List Source) → Member answer (found_in sources) → Member (Ok version) (said_in sources)
  said_by [] found = absurd found
  said_by (source ∷ sources) (inl is) = inl (said_of_answer source.found is)
  said_by (source ∷ sources) (inr later) = inr (said_by sources later)

  found_by : (sources : List Source) → Member (Ok version) (said_in sources) → Member answer (found_in sources)
  found_by [] said = absurd said
  found_by (source ∷ sources) (inl is) = inl (ap answer_of is)
  found_by (source ∷ sources) (inr later) = inr (found_by sources later)

  both_found : (list : List Source) (lists : List (List Source))
      → answers_in (list ∷ lists) ≡ found_in list ++ answers_in lists
  both_found list lists = map-append (λ (source : Source). answer_of source.found) list (sources_in lists)

  later_says : (pile : Text) (piles : List Text) → OneListSays piles held version
      → OneListSays (pile ∷ piles) held version
  later_says pile piles says = record {
    pile = says.pile;
    among = contained says.pile (pile ∷ piles) (inr (member_of says.pile piles says.among));
    sources = says.sources;
    list = says.list;
    says = says.says;
  }

  said_of_found : (piles : List Text) (lists : List (List Source)) → AreLists piles lists (Some held)
      → Member answer (answers_in lists) → OneListSays piles held version
  said_of_found [] [] are found = absurd found
  said_of_found [] (list ∷ lists) are found = absurd are
  said_of_found (pile ∷ piles) [] are found = absurd are
  said_of_found (pile ∷ piles) (list ∷ lists) are found =
      elim (in_either answer (found_in list) (answers_in lists)
      (subst (λ (l : List Answer). Member answer l) (both_found list lists) found)) [
        | inl here ↦ record {
          pile = pile;
          among = contained pile (pile ∷ piles) (inl refl);
          sources = list;
          list = are.0;
          says = contained (Ok version) (said_in list) (said_by list here);
        }
        | inr later ↦ later_says pile piles (said_of_found piles lists are.1 later)
      ]

  found_of_said : (piles : List Text) (lists : List (List Source)) → AreLists piles lists (Some held)
      → (pile : Text) (sources : List Source) → Member pile piles → HasList pile (λ bytes. IsStage bytes sources) held
      → Member answer (found_in sources) → Member answer (answers_in lists)
  found_of_said [] lists are pile sources among has found = absurd among
  found_of_said (one ∷ piles) [] are pile sources among has found = absurd are
  found_of_said (one ∷ piles) (list ∷ lists) are pile sources (inl same) has found =
      let here : HasList pile (λ bytes. IsStage bytes list) held =
      subst (λ (p : Text). HasList p (λ bytes. IsStage bytes list) held) same are.0 in
      subst (λ (l : List Answer). Member answer l) (sym (both_found list lists))
      (in_front answer (found_in list) (answers_in lists)
      (subst (λ (s : List Source). Member answer (found_in s)) (one_list_of pile held sources list has here) found))
  found_of_said (one ∷ piles) (list ∷ lists) are pile sources (inr later) has found =
      subst (λ (l : List Answer). Member answer l) (sym (both_found list lists))
      (at_end answer (found_in list) (answers_in lists) (found_of_said piles lists are.1 pile sources later has found))

  pub found_says : (piles : List Text) (lists : List (List Source)) → AreLists piles lists (Some held)
      → Member version (versions_of (accepted (answers_in lists))) → OneListSays piles held version
  found_says piles lists are kept =
      said_of_found piles lists are (kept_found 0 (answers_in lists) version kept)

  pub says_found : (piles : List Text) (lists : List (List Source)) → AreLists piles lists (Some held)
      → OneListSays piles held version → Member version (versions_of (accepted (answers_in lists)))
  says_found piles lists are says =
      found_kept 0 (answers_in lists) version
      (found_of_said piles lists are says.pile says.sources (member_of says.pile piles says.among) says.list
      (found_by says.sources (member_of (Ok version) (said_in says.sources) says.says)))
