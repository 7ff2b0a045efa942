-- What a scan finds in a set, element by element.
use Rattle.std.proofs.Common.{◌≡◌, ◌<◌, ◌≤◌, ℕ, suc, ◌+◌, ◌-◌, Bool, true, false, if◌then◌else◌, List, [], ◌∷◌, ◌++◌}
use Rattle.std.proofs.Common.{length, map, filter, Option, Some, None, unwrap_or, Result, Ok, Err, refl}
use Rattle.std.proofs.Common.{zero, IsTrue, ◌∙◌, sym, ap, subst, arith, append_assoc, append-nil}
use Rattle.std.specs.List.{list_any}
use Rattle.std.proofs.lemmas.List.Folds.{list_any-append}
use Rattle.dd_elem.specs.declared.tag.Tag.{Tag}
use Rattle.dd_elem.specs.Tag.{number_of}
use Rattle.dd_grammar.specs.declared.checks.Sort.{Sort}
use Rattle.dd_grammar.specs.declared.checks.Sort.TheVariants as sorts
use Rattle.dd_grammar.specs.declared.fault.SetFault.{SetFault}
use Rattle.dd_scan.specs.declared.found.FoundValue.{FoundValue}
use Rattle.dd_encoding.specs.declared.syntax.Length.TheVariants.{Defined, Undefined}
use Rattle.dd_encoding.specs.declared.syntax.Syntax.{Syntax}
use Rattle.dd_grammar.specs.Checks.{sorted}
use Rattle.dd_encoding.specs.Elements.{Content, bytes, items, fragments, Element, elements_of}
use Rattle.dd_grammar.specs.AnswersAs.{FailsAs}
use Rattle.dd_grammar.specs.Faults.{is_memory}
use Rattle.dd_grammar.specs.Reading.{Header, front_at, At, Reads, ◌>>=◌, SequenceReader, ItemReader, content_at}
use Rattle.dd_grammar.specs.Reading.{element_at, elements_at, sequence_with, set_with, within, fragments_here}
use Rattle.dd_scan.specs.Scan.{Summary, Hit, hit_of, is_wanted, hits_of, first_tag, first_of, summary_of, found_summary}
use Rattle.dd_scan.specs.Scan.{whole_elements, summary_of_sort}
use Rattle.dd_scan.specs.Skips.{GivesSummary, IsThere}
use Rattle.dd_grammar.proofs.Lists.{element_list-elements_of}
use Rattle.dd_grammar.proofs.Failing.{bind_fails}
use Rattle.dd_grammar.proofs.Loops.{with_elements, fails_along, elements_more, elements_done, elements_fail}
use Rattle.dd_grammar.proofs.ReadingOn.{element_found}
use Rattle.dd_scan.proofs.Skipped.{with_no_elements}
use Rattle.dd_scan.proofs.Shorter.{front_shortens}
use Rattle.dd_grammar.proofs.Steps.{bind_ok, ok_is}

-- ---- values

-- a value of bytes
pub tells_bytes : (r : Result FoundValue SetFault) (read : Reads (List ℕ)) (end : At)
    → GivesSummary found_summary (λ v. summary_of (bytes v)) r read end
    → GivesSummary found_summary summary_of r (read >>= λ x. Ok (bytes x.0, x.1)) end
tells_bytes (Ok x) read end h = (bytes h.0, h.1, rw h.2 refl)
tells_bytes (Err e) read end h = (
  fails_along e _ _ h.0 (λ f k. bind_fails read _ f k),
  λ is. let there = h.1 is in (bytes there.0, rw there.1 refl),
)

-- a value that is not bytes is a sequence or fragments
pub summary_of_items : (read : SequenceReader) (sort : Sort) (at end : At) (y : Content)
    → ((n : ℕ) → sort ≡ sorts.Bytes n → ⊥) → sorted read (Ok sort) at ≡ Ok (y, end)
    → summary_of_sort sort ≡ summary_of y
summary_of_items read (sorts.Bytes n) at end y other h = absurd (other n refl)
summary_of_items read (sorts.Open inner) at end y other h =
    let e = bind_ok (read inner Undefined at) (λ x. Ok (items Undefined x.0, x.1)) (y, end) h in
    ap (λ (z : Content × At). summary_of z.0) (ok_is _ _ e.2)
summary_of_items read (sorts.Closed inner n) at end y other h =
    let e = bind_ok (within n at (read inner Defined)) (λ x. Ok (items Defined x.0, x.1)) (y, end) h in
    ap (λ (z : Content × At). summary_of z.0) (ok_is _ _ e.2)
summary_of_items read sorts.Fragments at end y other h =
    let e = bind_ok (fragments_here at) (λ x. Ok (fragments x.0, x.1)) (y, end) h in
    ap (λ (z : Content × At). summary_of z.0) (ok_is _ _ e.2)

-- ---- sets

-- the summary of a value where it is wanted
abbrev pub summary_where : Bool → Content → Option Summary
summary_where true c = Some (summary_of c)
summary_where false c = None

-- the hit that this makes
abbrev pub noted : Tag → Option Summary → List Hit
noted tag None = []
noted tag (Some summary) = record { tag = tag; summary = summary } ∷ []

module _ (wanted : List Tag) where
  hits_in : List Element → List Hit
  hits_in es = map hit_of (filter (λ e. is_wanted wanted e.tag) es)

  hits_one : (b : Bool) (e : Element) → map hit_of (if b then (e ∷ []) else [])
      ≡ noted e.tag (summary_where b e.content)
  hits_one true e = refl
  hits_one false e = refl

  hits_more : (b : Bool) (q e : Element) (all some : List Element) → map hit_of all ≡ map hit_of some
      ++ noted e.tag (summary_where (is_wanted wanted e.tag) e.content)
      → map hit_of (if b then (q ∷ all) else all) ≡ map hit_of (if b then (q ∷ some) else some)
      ++ noted e.tag (summary_where (is_wanted wanted e.tag) e.content)
  hits_more true q e all some h = ap (λ (hs : List Hit). hit_of q ∷ hs) h
  hits_more false q e all some h = h

  hits_in-push : (es : List Element) (e : Element) → hits_in (es ++ e ∷ []) ≡ hits_in es
      ++ noted e.tag (summary_where (is_wanted wanted e.tag) e.content)
  unfolding hits_in
  hits_in-push [] e = hits_one (is_wanted wanted e.tag) e
  hits_in-push (q ∷ qs) e = hits_more (is_wanted wanted q.tag) q e (filter (λ x. is_wanted wanted x.tag) (qs ++ e ∷ []))
      (filter (λ x. is_wanted wanted x.tag) qs) (hits_in-push qs e)

  hits_of-push : (front : List Element) (e : Element) → hits_of wanted (elements_of (front ++ e ∷ [])) ≡ hits_of wanted
      (elements_of front) ++ noted e.tag (summary_where (is_wanted wanted e.tag) e.content)
  unfolding hits_in
  hits_of-push front e = rw (element_list-elements_of (front ++ e ∷ []), element_list-elements_of front)
      (hits_in-push front e)

first_tag-push : (front : List Element) (e : Element) → first_tag (front ++ e ∷ []) ≡ Some
    (unwrap_or (first_tag front) e.tag)
first_tag-push [] e = refl
first_tag-push (q ∷ qs) e = refl

first_of-push : (front : List Element) (e : Element) → first_of (elements_of (front ++ e ∷ [])) ≡ Some
    (unwrap_or (first_of (elements_of front)) e.tag)
first_of-push front e = rw (element_list-elements_of (front ++ e ∷ []), element_list-elements_of front)
    (first_tag-push front e)

-- an element with this header was read, this is the summary of its value, and bytes went with it
pub record ValueStep (reader : SequenceReader) (syntax : Syntax) (low : ℕ) (left : Option ℕ) (header : Header)
    (summary : Option Summary) (keeps : Bool) (all : List ℕ) (now : Option ℕ) (rest : List ℕ) : Type 0 where
  pub content : Content
  pub tells : summary ≡ summary_where keeps content
  pub read : element_at reader syntax Defined low (record { left = left; bytes = all }) ≡ Ok
      (Some (record { tag = header.tag; vr = header.shape.vr; content = content }), record { left = now; bytes = rest })
  pub shorter : length rest < length all

pub value_steps : (reader : SequenceReader) (syntax : Syntax) (low : ℕ) (left : Option ℕ) (header : Header)
    (summary : Option Summary) (keeps : Bool) (all : List ℕ) (after now : Option ℕ) (mid rest : List ℕ)
    (content : Content)
    → front_at syntax Defined low (record { left = left; bytes = all }) ≡ Ok
    (Some header, record { left = after; bytes = mid })
    → summary ≡ summary_where keeps content
    → content_at reader syntax header (record { left = after; bytes = mid }) ≡ Ok
    (content, record { left = now; bytes = rest })
    → length rest ≤ length mid → ValueStep reader syntax low left header summary keeps all now rest
value_steps reader syntax low left header summary keeps all after now mid rest content h tells k few = record {
  content = content;
  tells = tells;
  read = element_found reader syntax Defined low (record { left = left; bytes = all }) header
      (record { left = after; bytes = mid }) (record { left = now; bytes = rest }) content h k;
  shorter = omega (arith, (front_shortens syntax Defined low (record { left = left; bytes = all })).left header _ h);
}

-- an element with this tag was read whole
pub record ElementThere (reader : SequenceReader) (syntax : Syntax) (low : ℕ) (left : Option ℕ) (tag : Tag)
    (all rest : List ℕ) : Type 0 where
  pub entry : Element
  pub tagged : entry.tag ≡ tag
  pub now : Option ℕ
  pub read : element_at reader syntax Defined low (record { left = left; bytes = all }) ≡ Ok
      (Some entry, record { left = now; bytes = rest })

pub element_there : (reader : SequenceReader) (syntax : Syntax) (low : ℕ) (left : Option ℕ) (header : Header)
    (all : List ℕ) (after now : Option ℕ) (mid rest : List ℕ)
    → front_at syntax Defined low (record { left = left; bytes = all }) ≡ Ok
    (Some header, record { left = after; bytes = mid })
    → IsThere (content_at reader syntax header (record { left = after; bytes = mid }))
    (record { left = now; bytes = rest })
    → ElementThere reader syntax low left header.tag all rest
element_there reader syntax low left header all after now mid rest h k = record {
  entry = record { tag = header.tag; vr = header.shape.vr; content = k.0 };
  tagged = refl;
  now = now;
  read = element_found reader syntax Defined low (record { left = left; bytes = all }) header
      (record { left = after; bytes = mid }) (record { left = now; bytes = rest }) k.0 h k.1;
}

-- those that were read whole, and one more
whole_more : (reader : SequenceReader) (syntax : Syntax) (n most low : ℕ) (front : List Element) (at end : At)
    (e : Element)
    (total : List Element) → n < most → element_at reader syntax Defined low at ≡ Ok (Some e, end)
    → front ++ whole_elements reader syntax most low at ≡ total
    → (front ++ e ∷ []) ++ whole_elements reader syntax (most - 1) (number_of e.tag + 1) end ≡ total
unfolding whole_elements
whole_more reader syntax n zero low front at end e total lt h so_far = absurd (omega arith)
whole_more reader syntax n (suc most) low front at end e total lt h so_far =
    let k : suc most - 1 ≡ most = omega arith in
    let others : List Element = whole_elements reader syntax most (number_of e.tag + 1) end in
    let one : front ++ whole_elements reader syntax (suc most) low at ≡ front ++ (e ∷ others) = rw h refl in
    rw k (append_assoc front (e ∷ []) others ∙ sym one ∙ so_far)

any_among : (test : Element → Bool) (front rest : List Element) (e : Element) → IsTrue (test e)
    → IsTrue (list_any test (front ++ e ∷ rest))
any_among test front rest e h = rw (list_any-append test front (e ∷ rest)) (grind (arith, h))

-- a wanted one is among them
wanted_among : (wanted : List Tag) (front rest : List Element) (e : Element) (tag : Tag) → e.tag ≡ tag
    → IsTrue (is_wanted wanted tag)
    → IsTrue (list_any (λ (q : Element). is_wanted wanted q.tag) ((front ++ e ∷ []) ++ rest))
wanted_among wanted front rest e tag same h =
    subst (λ (es : List Element). IsTrue (list_any (λ (q : Element). is_wanted wanted q.tag) es))
    (sym (append_assoc front (e ∷ []) rest))
    (any_among (λ q. is_wanted wanted q.tag) front rest e (rw same h))

-- some elements were read, these are their hits, and those that reading gives from here are the others
pub record ScanGo (wanted : List Tag) (part : ItemReader) (syntax : Syntax) (all : List ℕ) (low : ℕ) (left : Option ℕ)
    (first : Option Tag) (hits : List Hit) (rest : List ℕ) : Type 0 where
  pub most : ℕ
  pub front : List Element
  pub enough : length rest < most
  pub so_far : with_elements front (elements_at (sequence_with part) syntax Defined most low
      (record { left = left; bytes = rest })) ≡ set_with part syntax Defined (record { left = None; bytes = all })
  pub first_is : first ≡ first_of (elements_of front)
  pub hits_are : hits ≡ hits_of wanted (elements_of front)
  pub whole : front ++ whole_elements (sequence_with part) syntax most low (record { left = left; bytes = rest })
      ≡ whole_elements (sequence_with part) syntax (suc (length all)) 0 (record { left = None; bytes = all })

module _ (wanted : List Tag) (part : ItemReader) (syntax : Syntax) where
  pub scan_start : (all : List ℕ) → ScanGo wanted part syntax all 0 None None [] all
  scan_start all = record {
    most = suc (length all);
    front = [];
    enough = omega arith;
    so_far =
        with_no_elements _;
    first_is = refl;
    hits_are = refl;
    whole = refl;
  }

  module _ (all : List ℕ) (left : Option ℕ) (first : Option Tag) (hits : List Hit) (mid : List ℕ) (low : ℕ) where
    pub scan_go : (header : Header) (summary : Option Summary) (now : Option ℕ) (rest : List ℕ)
        → ScanGo wanted part syntax all low left first hits mid
        → ValueStep (sequence_with part) syntax low left header summary (is_wanted wanted header.tag) mid now rest
        → ScanGo wanted part syntax all (number_of header.tag + 1) now (Some (unwrap_or first header.tag))
        (hits ++ noted header.tag summary) rest
    scan_go header summary now rest go step =
        let e : Element = record { tag = header.tag; vr = header.shape.vr; content = step.content } in
        record {
          most = go.most - 1;
          front = go.front ++ e ∷ [];
          enough = omega (arith, step.shorter, go.enough);
          so_far = elements_more (sequence_with part) syntax Defined (length mid) go.most low go.front
              (record { left = left; bytes = mid }) (record { left = now; bytes = rest }) e _ go.enough step.read
              go.so_far;
          first_is = rw go.first_is (sym (first_of-push go.front e));
          hits_are = rw (go.hits_are, step.tells) (sym (hits_of-push wanted go.front e));
          whole = whole_more (sequence_with part) syntax (length mid) go.most low go.front
              (record { left = left; bytes = mid }) (record { left = now; bytes = rest }) e _ go.enough step.read
              go.whole;
        }

    -- an element that is skipped adds no hit
    pub scan_past : (header : Header) (now : Option ℕ) (rest : List ℕ)
        → ScanGo wanted part syntax all low left first hits mid
        → ValueStep (sequence_with part) syntax low left header None (is_wanted wanted header.tag) mid now rest
        → ScanGo wanted part syntax all (number_of header.tag + 1) now (Some (unwrap_or first header.tag)) hits rest
    scan_past header now rest go step =
        subst (λ (hs : List Hit). ScanGo wanted part syntax all (number_of header.tag + 1) now
        (Some (unwrap_or first header.tag)) hs rest) (append-nil hits) (scan_go header None now rest go step)

    pub scan_end : (end : At) → (go : ScanGo wanted part syntax all low left first hits mid)
        → element_at (sequence_with part) syntax Defined low (record { left = left; bytes = mid }) ≡ Ok (None, end)
        → (set_with part syntax Defined (record { left = None; bytes = all }) >>= λ x. Ok x.0)
        ≡ Ok (elements_of go.front)
    scan_end end go h =
        let done = elements_done (sequence_with part) syntax Defined (length mid) go.most low go.front
        (record { left = left; bytes = mid }) end _ go.enough h go.so_far in
        rw done refl

    pub scan_stop : (e : SetFault) → ScanGo wanted part syntax all low left first hits mid
        → FailsAs is_memory e (element_at (sequence_with part) syntax Defined low (record { left = left; bytes = mid }))
        → FailsAs is_memory e (set_with part syntax Defined (record { left = None; bytes = all }) >>= λ x. Ok x.0)
    scan_stop e go h =
        let failed = elements_fail (sequence_with part) syntax Defined (length mid) go.most low go.front
        (record { left = left; bytes = mid }) _ e go.enough h go.so_far in
        fails_along e _ _ failed (λ f k. bind_fails _ _ f k)

    pub scan_wants : (tag : Tag) (rest : List ℕ) → ScanGo wanted part syntax all low left first hits mid
        → ElementThere (sequence_with part) syntax low left tag mid rest → IsTrue (is_wanted wanted tag)
        → IsTrue (list_any (λ (e : Element). is_wanted wanted e.tag) (whole_elements (sequence_with part) syntax
        (suc (length all)) 0 (record { left = None; bytes = all })))
    scan_wants tag rest go step h =
        let more = whole_more (sequence_with part) syntax (length mid) go.most low go.front
        (record { left = left; bytes = mid }) (record { left = step.now; bytes = rest }) step.entry _ go.enough
        step.read go.whole in
        subst (λ (es : List Element). IsTrue (list_any (λ (e : Element). is_wanted wanted e.tag) es)) more
        (wanted_among wanted go.front _ step.entry tag step.tagged h)
