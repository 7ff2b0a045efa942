-- The sources of piles: the pile of each, and its number there.
use Rattle.std.proofs.Common.{◌≡◌, ◌∙◌, ◌+◌, ◌-◌, ◌<◌, ◌⊎◌, ◌++◌, ℕ, zero, suc, List, [], ◌∷◌, ap, append-nil, arith}
use Rattle.std.proofs.Common.{append_assoc, inl, inr, length, refl, sym, take}
use Rattle.std.proofs.lemmas.Grind.{flat_map-append}
use Rattle.std.proofs.lemmas.List.{length-append}
use Rattle.dd_staged.specs.Sources.{Source}
use Rattle.dicomdir.proofs.BadNames.{before_or_past}
use Rattle.dd_inputs.proofs.HavingPaths.{last_or_before}
use Rattle.dicomdir.specs.Publishes.{IsInPile, sources_in}

-- ---- sources in a row

-- a list without sources adds none
pub same_sources : (lists : List (List Source)) → sources_in (lists ++ [] ∷ []) ≡ sources_in lists
same_sources lists =
    flat_map-append (λ (list : List Source). list) lists ([] ∷ []) ∙ append-nil (sources_in lists)

-- the sources of one list more come after the others
pub sources_then : (lists : List (List Source)) (part : List Source)
    → sources_in (lists ++ part ∷ []) ≡ sources_in lists ++ part
sources_then lists part = flat_map-append (λ (list : List Source). list) lists (part ∷ [])
    ∙ ap (λ (rest : List Source). sources_in lists ++ rest) (append-nil part)

-- one more source of the last list is one more of all
pub sources_more : (lists : List (List Source)) (part : List Source) (source : Source)
    → sources_in (lists ++ (part ++ source ∷ []) ∷ []) ≡ sources_in (lists ++ part ∷ []) ++ source ∷ []
sources_more lists part source =
    sources_then lists (part ++ source ∷ []) ∙ sym (append_assoc (sources_in lists) part (source ∷ []))
    ∙ ap (λ (rest : List Source). rest ++ source ∷ []) (sym (sources_then lists part))

-- ---- one source

-- it is one of all
pub in_within : (lists : List (List Source)) (at pile number : ℕ) → IsInPile lists at pile number
    → at < length (sources_in lists)
in_within [] at pile number is = absurd (omega (arith, is.within))
in_within (list ∷ lists) at zero number is =
    omega (arith, is.within, is.same, length-append list (sources_in lists))
in_within (list ∷ lists) at (suc pile) number is =
    let before = sources_in (take pile lists) in
    let rest = in_within lists (length before + number) pile number (record { within = is.within; same = refl }) in
    omega (arith, rest, is.same, length-append list before, length-append list (sources_in lists))

-- its pile is one of them
pub pile_within : (lists : List (List Source)) (at pile number : ℕ) → IsInPile lists at pile number
    → pile < length lists
pile_within [] at pile number is = absurd (omega (arith, is.within))
pile_within (list ∷ lists) at zero number is = omega arith
pile_within (list ∷ lists) at (suc pile) number is =
    let before = sources_in (take pile lists) in
    let rest = pile_within lists (length before + number) pile number (record { within = is.within; same = refl }) in
    omega (arith, rest)

-- each is in a pile
pub in_some_pile : (lists : List (List Source)) (at : ℕ) → at < length (sources_in lists)
    → (pile : ℕ) × (number : ℕ) × IsInPile lists at pile number
in_some_pile [] at within = absurd (omega (arith, within))
in_some_pile (list ∷ lists) at within = elim (before_or_past at (length list)) [
  | inl before ↦ (0, at, record { within = before; same = omega arith })
  | inr past ↦
      let rest = in_some_pile lists (at - length list)
      (omega (arith, within, past, length-append list (sources_in lists))) in (
        suc rest.0,
        rest.1,
        record {
          within = rest.2.within;
          same = omega (arith, rest.2.same, past, length-append list (sources_in (take rest.0 lists)));
        },
      )
]

-- ---- one list more

-- a list without sources changes the place of none
pub in_start : (lists : List (List Source)) (at pile number : ℕ) → IsInPile (lists ++ [] ∷ []) at pile number
    → IsInPile lists at pile number
in_start [] at zero number is = absurd (omega (arith, is.within))
in_start [] at (suc pile) number is = absurd (omega (arith, is.within))
in_start (list ∷ lists) at zero number is = record { within = is.within; same = is.same }
in_start (list ∷ lists) at (suc pile) number is =
    let before = sources_in (take pile (lists ++ [] ∷ [])) in
    let rest = in_start lists (length before + number) pile number (record { within = is.within; same = refl }) in
    record {
      within = rest.within;
      same = omega (
        arith,
        rest.same,
        is.same,
        length-append list before,
        length-append list (sources_in (take pile lists)),
      );
    }

-- it is the source after these of the last list
pub record IsNext (lists : List (List Source)) (part : List Source) (at pile number : ℕ) : Type 0 where
  pub past : at ≡ length (sources_in (lists ++ part ∷ []))
  pub last : pile ≡ length lists
  pub next : number ≡ length part

-- where the last list has one source more, each is where it was, or it is that one
pub in_more : (lists : List (List Source)) (part : List Source) (source : Source) (at pile number : ℕ)
    → IsInPile (lists ++ (part ++ source ∷ []) ∷ []) at pile number
    → IsInPile (lists ++ part ∷ []) at pile number ⊎ IsNext lists part at pile number
in_more [] part source at zero number is =
    elim (last_or_before number (length part) (omega (arith, is.within, length-append part (source ∷ [])))) [
      | inl before ↦ inl (record { within = before; same = is.same })
      | inr last ↦ inr (record {
        past = omega (arith, is.same, last, length-append part []);
        last = refl;
        next = last;
      })
    ]
in_more [] part source at (suc pile) number is = absurd (omega (arith, is.within))
in_more (list ∷ lists) part source at zero number is = inl (record { within = is.within; same = is.same })
in_more (list ∷ lists) part source at (suc pile) number is =
    let long = sources_in (take pile (lists ++ (part ++ source ∷ []) ∷ [])) in
    let short = sources_in (take pile (lists ++ part ∷ [])) in
    let all = sources_in (lists ++ part ∷ []) in
    elim (in_more lists part source (length long + number) pile number (record { within = is.within; same = refl })) [
      | inl before ↦ inl (record {
        within = before.within;
        same = omega (arith, before.same, is.same, length-append list long, length-append list short);
      })
      | inr is_next ↦ inr (record {
        past = omega (arith, is_next.past, is.same, length-append list long, length-append list all);
        last = ap suc is_next.last;
        next = is_next.next;
      })
    ]
