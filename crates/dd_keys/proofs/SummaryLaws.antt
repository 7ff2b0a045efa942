-- The summaries of the values of a data set, by the set itself or by a scan of it, against the values.
use Rattle.std.proofs.Common.{◌≡◌, ℕ, Bool, true, false, List, [], ◌∷◌, map, Option, Some, None}
use Rattle.std.proofs.Common.{if◌then◌else◌, refl, sym, ap, subst, ◌∙◌}
use Rattle.std.specs.Prelude.{find, filter}
use Rattle.std.proofs.lemmas.List.{take_all}
use Rattle.dd_elem.specs.Clean.{clean_of}
use Rattle.dd_elem.specs.Key.{IsKey}
use Rattle.dd_elem.specs.declared.tag.Tag.{Tag}
use Rattle.dd_encoding.specs.Elements.{Elements, Content, bytes, items, fragments, Element}
use Rattle.dd_grammar.specs.Lists.{same_tag, element_list}
use Rattle.dd_scan.specs.Scan.{Summary, cleaned, summary_of_value, summary_of, Hit, hit_of, is_wanted, hits_of}
use Rattle.dd_scan.specs.Scan.{found_hit}
use Rattle.dd_scan.specs.declared.found.Found.{Found}
use Rattle.dd_part10.proofs.Tags.{same_tag-is}
use Rattle.dd_scan.specs.Summaries.{bytes_or_sequence, summary_of_found, summary_in}
use Rattle.dd_keys.specs.Summaries.{summary_at, IsFront, AreFronts}
use Rattle.dd_keys.proofs.Tells.{TellsSet}
use Rattle.dd_keys.specs.Table.{wanted_tags}
use Rattle.dd_keys.specs.Values.{content_value, element_value, value_at}
use Rattle.dd_keys.proofs.Held.{content_value-clean, value_at-clean}

-- ---- a list of found elements has the summaries that their hits have

hit_summary : Option Hit → Summary
hit_summary None = cleaned [] 0
hit_summary (Some hit) = bytes_or_sequence hit.summary

hits_summary : Tag → List Hit → Summary
hits_summary tag hits = hit_summary (find (λ hit. same_tag hit.tag tag) hits)

found_step : (is : Bool) (found : Found) (others : Option Found) (hits : Option Hit)
    → summary_of_found others ≡ hit_summary hits
    → summary_of_found (if is then Some found else others) ≡ hit_summary (if is then Some (found_hit found) else hits)
unfolding hit_summary
found_step true found others hits h = refl
found_step false found others hits h = h

found_is : (tag : Tag) (founds : List Found) → summary_in tag founds ≡ hits_summary tag (map found_hit founds)
unfolding hit_summary hits_summary
found_is tag [] = refl
found_is tag (found ∷ founds) =
    found_step (same_tag found.tag tag) found _ (find (λ hit. same_tag hit.tag tag) (map found_hit founds))
    (found_is tag founds)

-- ---- the hits of a set have the summaries of its values at the wanted tags

content_summary : (content : Content) → bytes_or_sequence (summary_of content) ≡ summary_of_value (content_value content)
content_summary (bytes value) = refl
content_summary (items form parts) = refl
content_summary (fragments fs) = refl

hits_step : (keeps is : Bool) (tag : Tag) (e : Element) (kept : List Element) (others : Option Element)
    → (is ≡ true → keeps ≡ true)
    → same_tag e.tag tag ≡ is → hits_summary tag (map hit_of kept) ≡ summary_of_value (element_value others)
    → hits_summary tag (map hit_of (if keeps then (e ∷ kept) else kept))
    ≡ summary_of_value (element_value (if is then Some e else others))
unfolding hit_summary hits_summary
hits_step true true tag e kept others wanted same h = rw same (content_summary e.content)
hits_step true false tag e kept others wanted same h = rw same h
hits_step false true tag e kept others wanted same h = let no = wanted refl in absurd (cc)
hits_step false false tag e kept others wanted same h = h

hits_tell : (wanted : List Tag) (tag : Tag) → is_wanted wanted tag ≡ true → (es : List Element)
    → hits_summary tag (map hit_of (filter (λ e. is_wanted wanted e.tag) es))
    ≡ summary_of_value (element_value (find (λ e. same_tag e.tag tag) es))
unfolding hit_summary hits_summary
hits_tell wanted tag is [] = refl
hits_tell wanted tag is (e ∷ es) =
    hits_step (is_wanted wanted e.tag) (same_tag e.tag tag) tag e (filter (λ e. is_wanted wanted e.tag) es)
    (find (λ e. same_tag e.tag tag) es)
    (λ same. ap (is_wanted wanted) (same_tag-is e.tag tag same) ∙ is) refl (hits_tell wanted tag is es)

-- a scan has the summaries of the values at the tags that it is for
pub found_tells : (wanted : List Tag) (founds : List Found) (set : Elements) → map found_hit founds ≡ hits_of wanted set
    → (tag : Tag) → is_wanted wanted tag ≡ true → summary_in tag founds ≡ summary_at tag set
found_tells wanted founds set h tag is =
    found_is tag founds ∙ ap (hits_summary tag) h ∙ hits_tell wanted tag is (element_list set)

pub scan_tells : (founds : List Found) (set : Elements) → map found_hit founds ≡ hits_of wanted_tags set
    → TellsSet (λ tag. summary_in tag founds) set
scan_tells founds set h = found_tells wanted_tags founds set h

-- ---- a front that is not too long for a key is one

value_front : (held : Option (List ℕ)) → ((value : List ℕ) → held ≡ Some value → clean_of value ≡ value)
    → IsFront (summary_of_value held)
value_front None clean = tt
value_front (Some value) clean =
    λ short. subst IsKey (sym (take_all 1024 value short)) (record { clean = clean value refl; short = short })

pub set_fronts : (set : Elements) → AreFronts (λ tag. summary_at tag set)
set_fronts set tag = value_front (value_at tag set) (value_at-clean tag set)

hits_front : (tag : Tag) (is : Bool) (e : Element) (others : Option Hit) → IsFront (hit_summary others)
    → IsFront (hit_summary (if is then Some (hit_of e) else others))
unfolding hit_summary
hits_front tag true e others h =
    subst IsFront (sym (content_summary e.content))
    (value_front (content_value e.content) (content_value-clean e.content))
hits_front tag false e others h = h

hits_fronts : (tag : Tag) (es : List Element) → IsFront (hits_summary tag (map hit_of es))
unfolding hit_summary hits_summary
hits_fronts tag [] = λ short. record { clean = refl; short = short }
hits_fronts tag (e ∷ es) =
    hits_front tag (same_tag e.tag tag) e (find (λ hit. same_tag hit.tag tag) (map hit_of es)) (hits_fronts tag es)

pub scan_fronts : (founds : List Found) (wanted : List Tag) (set : Elements) → map found_hit founds ≡ hits_of wanted set
    → AreFronts (λ tag. summary_in tag founds)
scan_fronts founds wanted set h tag =
    subst IsFront (sym (found_is tag founds ∙ ap (hits_summary tag) h))
    (hits_fronts tag (filter (λ e. is_wanted wanted e.tag) (element_list set)))
