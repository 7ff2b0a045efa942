-- What was printed for a request is what the words of its line ask for.
use Rattle.std.proofs.Common.{◌≡◌, ◌∙◌, ℕ, List, [], ◌∷◌, Option, Some, None, ap, ap₂, codes, refl, subst, sym, true≢false}
use Rattle.std.specs.Prelude.{slice_index_or}
use Rattle.std.specs.Str.{bytes_eq}
use Rattle.clap.specs.Words.{Row, Text}
use Rattle.dd_elem.specs.declared.device.Read.{Ghosts as ReadOf}
use Rattle.dd_elem.specs.declared.device.Write.{Ghosts as WriteOf}
use Rattle.dd_json.specs.declared.value.Style.{Style}
use Rattle.dd_files.specs.Files.{Held}
use Rattle.dd_line.specs.Line.{IsCheck, words_of}
use Rattle.dd_line.specs.Requests.{IsRequested, Requests, paths_of}
use Rattle.dd_line.specs.declared.request.Request.{Request}
use Rattle.dd_line.specs.declared.request.Request.TheVariants.{Index as ToIndex, Merge as ToMerge, Withdraw as ToWithdraw}
use Rattle.dd_line.specs.declared.request.Request.TheVariants.{Stage as ToStage, Publish as ToPublish}
use Rattle.dd_line.specs.declared.request.Request.TheVariants.{Check as ToCheck, List as ToList}
use Rattle.dd_line.proofs.RequestLemmas.{says_parts}
use Rattle.dd_report.specs.declared.checking.Comparison.{Comparison}
use Rattle.dd_report.specs.declared.known.Form.{Form}
use Rattle.dd_inspecting.specs.Inspecting.{ChecksSet, ListsSet, comparison_by, form_by}
use Rattle.dicomdir.specs.InspectingLines.{IsList, PrintsRequested, comparison_in}
use Rattle.dd_refusals.specs.Styles.{style_by}
use Rattle.dicomdir.specs.InspectingLines.{first_path, form_in, style_in}

-- the first path of a line that gives one
one_path : (r : Request) (command : Text) (given : List Row) (set : Text) → Requests r command given
    → words_of (paths_of r) ≡ set ∷ [] → set ≡ first_path (Some (command, given))
one_path r command given set h only =
    ap (λ (paths : List Text). slice_index_or paths 0 []) (sym only ∙ (says_parts r command given h).paths)

module _ {R W : Type 0} (readers : ReadOf R) (writer : WriteOf W) (shows : List ℕ → List ℕ → List ℕ → Type 0) (files : Option Held) (status before after : ℕ)
    (old new : W) where
  pub requested_lists : (r : Request) (found : Option (Text × List Row)) → IsRequested r found → IsList found
      → PrintsRequested readers writer shows r files status before after old new
      → ListsSet writer shows (style_in found) (form_in found) (first_path found) files status old new
  requested_lists r None h is printed = absurd h
  requested_lists (ToIndex x) (Some (command, given)) h is printed =
      absurd (true≢false (ap (λ (name : Text). bytes_eq name (codes "index")) (h.verb ∙ is)))
  requested_lists (ToMerge x) (Some (command, given)) h is printed =
      absurd (true≢false (ap (λ (name : Text). bytes_eq name (codes "merge")) (h.verb ∙ is)))
  requested_lists (ToWithdraw x) (Some (command, given)) h is printed =
      absurd (true≢false (ap (λ (name : Text). bytes_eq name (codes "withdraw")) (h.verb ∙ is)))
  requested_lists (ToStage x) (Some (command, given)) h is printed =
      absurd (true≢false (ap (λ (name : Text). bytes_eq name (codes "stage")) (h.verb ∙ is)))
  requested_lists (ToPublish x) (Some (command, given)) h is printed =
      absurd (true≢false (ap (λ (name : Text). bytes_eq name (codes "publish")) (h.verb ∙ is)))
  requested_lists (ToCheck x) (Some (command, given)) h is printed =
      absurd (true≢false (ap (λ (name : Text). bytes_eq name (codes "check")) (h.verb ∙ is)))
  requested_lists (ToList x) (Some (command, given)) h is printed =
      subst (λ (style : Style). ListsSet writer shows style (form_in (Some (command, given)))
      (first_path (Some (command, given))) files status old new) (ap style_by h.values.json)
      (subst (λ (form : Form). ListsSet writer shows (style_by x.json) form (first_path (Some (command, given))) files status
      old new) (ap form_by h.values.long)
      (subst (λ (folder : List ℕ). ListsSet writer shows (style_by x.json) (form_by x.long) folder files status old new)
      (one_path (ToList x) command given _ h refl) printed))

  pub requested_checks : (r : Request) (found : Option (Text × List Row)) → IsRequested r found → IsCheck found
      → PrintsRequested readers writer shows r files status before after old new
      → ChecksSet readers (first_path found) files (comparison_in found) (style_in found) writer status before after
      old new
  requested_checks r None h is printed = absurd h
  requested_checks (ToIndex x) (Some (command, given)) h is printed =
      absurd (true≢false (ap (λ (name : Text). bytes_eq name (codes "index")) (h.verb ∙ is)))
  requested_checks (ToMerge x) (Some (command, given)) h is printed =
      absurd (true≢false (ap (λ (name : Text). bytes_eq name (codes "merge")) (h.verb ∙ is)))
  requested_checks (ToWithdraw x) (Some (command, given)) h is printed =
      absurd (true≢false (ap (λ (name : Text). bytes_eq name (codes "withdraw")) (h.verb ∙ is)))
  requested_checks (ToStage x) (Some (command, given)) h is printed =
      absurd (true≢false (ap (λ (name : Text). bytes_eq name (codes "stage")) (h.verb ∙ is)))
  requested_checks (ToPublish x) (Some (command, given)) h is printed =
      absurd (true≢false (ap (λ (name : Text). bytes_eq name (codes "publish")) (h.verb ∙ is)))
  requested_checks (ToCheck x) (Some (command, given)) h is printed =
      subst (λ (style : Style). ChecksSet readers (first_path (Some (command, given))) files
      (comparison_in (Some (command, given))) style writer status before after old new) (ap style_by h.values.json)
      (subst (λ (comparison : Comparison). ChecksSet readers (first_path (Some (command, given))) files comparison
      (style_by x.json) writer status before after old new) (ap₂ comparison_by h.values.keys h.values.strict)
      (subst (λ (folder : List ℕ). ChecksSet readers folder files (comparison_by x.keys x.strict) (style_by x.json)
      writer status before after old new) (one_path (ToCheck x) command given _ h refl) printed))
  requested_checks (ToList x) (Some (command, given)) h is printed =
      absurd (true≢false (ap (λ (name : Text). bytes_eq name (codes "list")) (h.verb ∙ is)))
