-- A line that is set part by part.
use Rattle.std.proofs.Common.{◌≡◌, ℕ, ◌+◌, ◌≤◌, ◌<◌, ◌+ℤ◌, ◌||◌, Bool, true, false, List, [], ◌∷◌, ◌++◌, length, drop, take, get_or, flat_map, Option, Some, None, arith, refl, ap, sym, subst, ◌∙◌, append-nil, append_assoc, length-append}
use Rattle.std.specs.Prelude.{IfSome, cond, is_some, nat_eq, nat_le, not, ◌&&◌, if◌then◌else◌}
use Rattle.std.specs.Bool.{then_some}
use mir.Val.{bool_byte}
use Rattle.std.specs.List.{count_by, list_any}
use Rattle.std.specs.Option.{is_none, option_and_then, option_map, option_map_or}
use Rattle.std.proofs.Math.Bool.{or-false, or-true}
use Rattle.std.proofs.Math.Seq.{drop-append_seam, take-length}
use Rattle.std.proofs.lemmas.Grind.{flat_map-append}
use Rattle.std.proofs.lemmas.List.Folds.{list_any_at}
use Rattle.run_plan.specs.declared.policy.Policy.{Policy}
use Rattle.run_plan.specs.declared.policy.Policy.TheVariants.{Refuse, Skip}
use Rattle.tfm_tables.specs.Font.{FontValue}
use Rattle.lig_kern.specs.declared.item.Item.{Item}
use Rattle.lig_kern.specs.declared.item.Item.TheVariants.{Skipped}
use Rattle.lig_kern.specs.Result.{Setting}
use Rattle.set_line.specs.Answer.{has_refused, is_refused, setting_of, within_limit}
use Rattle.set_line.specs.Onward.{onward, setting}
use Rattle.set_line.specs.Pieces.{Portion, portions_in, portions_of, skipped}
use Rattle.set_line.specs.Terms.{TermsValue}
use Rattle.set_line.specs.Width.{total_width}
use Rattle.set_line.proofs.OnwardLemmas.{onward-append, part_stops, part_then}
use Rattle.encodings.specs.Lines.{break_number}
use Rattle.encodings.specs.Parts.{PartValue, joined, part_numbers, uncoded_after, unless_break}
use Rattle.formats.specs.declared.record_format.RecordFormat.{RecordFormat}
use Rattle.line_records.specs.Boxes.{is_glue, is_skipped, item_text}
use Rattle.line_records.specs.Kept.{AreListed, HasKept, IsKept, IsReached, gaps_in, refused_before, refused_in, refuses, set_after, spaces_for}
use Rattle.line_records.specs.Results.{only_part, line_portions, portions_before}
use Rattle.line_records.specs.declared.keeping.KeptLine.{KeptLine}
use Rattle.line_records.proofs.AddingLemmas.{skipped-append, total_width-append}
use Rattle.line_records.proofs.BoxLemmas.{gap_skipped, gap_spaces, gap_width, spaces-append}
use Rattle.line_records.proofs.RunLemmas.{mapped}

-- ---- portions after other items

abbrev shifted : List Item → Setting → Setting
shifted items set = setting set.steps (items ++ set.items)

-- the setting of portions after some items, from that after fewer
moved : (font : FontValue) (limit used : ℕ) (before items : List Item) (portions : List Portion)
    → onward font limit (setting used (before ++ items)) portions ≡ option_map (shifted before) (onward font limit (setting used items) portions)
unfolding onward
moved font limit used before items [] = refl
moved font limit used before items (portion ∷ portions) = by (setting_of font limit portion) (λ steps more. moved font limit steps before more portions)
  where
    by : (o : Option Setting)
        → ((steps : ℕ) (more : List Item) → onward font limit (setting steps (before ++ more)) portions ≡ option_map (shifted before) (onward font limit (setting steps more) portions))
        → option_and_then (λ next. onward font limit next portions) (option_and_then (λ one. within_limit limit (setting (used + one.steps) ((before ++ items) ++ one.items))) o)
        ≡ option_map (shifted before) (option_and_then (λ next. onward font limit next portions) (option_and_then (λ one. within_limit limit (setting (used + one.steps) (items ++ one.items))) o))
    by None rest = refl
    by (Some one) rest = rw (append_assoc before items one.items) (within (nat_le (used + one.steps) limit))
      where
        within : (b : Bool)
            → option_and_then (λ next. onward font limit next portions) (if b then Some (setting (used + one.steps) (before ++ (items ++ one.items))) else None)
            ≡ option_map (shifted before) (option_and_then (λ next. onward font limit next portions) (if b then Some (setting (used + one.steps) (items ++ one.items)) else None))
        within true = rest (used + one.steps) (items ++ one.items)
        within false = refl

-- portions that are set after the items of one list are set after those of another one
pub set_elsewhere : (font : FontValue) (limit used steps : ℕ) (items after all : List Item) (portions : List Portion)
    → onward font limit (setting used items) portions ≡ Some (setting steps after)
    → (more : List Item) × (after ≡ items ++ more) × (onward font limit (setting used all) portions ≡ Some (setting steps (all ++ more)))
set_elsewhere font limit used steps items after all portions is =
    let here : option_map (shifted items) (onward font limit (setting used []) portions) ≡ Some (setting steps after) =
    sym (moved font limit used items [] portions) ∙ ap (λ xs. onward font limit (setting used xs) portions) (append-nil items) ∙ is in
    let set = mapped (shifted items) (onward font limit (setting used []) portions) (setting steps after) here in (
      set.0.items,
      sym (ap (λ s. s.items) set.2),
      ap (λ xs. onward font limit (setting used xs) portions) (sym (append-nil all)) ∙ moved font limit used all [] portions ∙ ap (option_map (shifted all)) set.1
          ∙ ap (λ n. Some (setting n (all ++ set.0.items))) (ap (λ s. s.steps) set.2),
    )

-- the list of items doesn't get shorter
pub not_shorter : (font : FontValue) (limit used steps : ℕ) (items after : List Item) (portions : List Portion)
    → onward font limit (setting used items) portions ≡ Some (setting steps after) → length items ≤ length after
not_shorter font limit used steps items after portions is =
    let set = set_elsewhere font limit used steps items after [] portions is in omega (arith, ap length set.1, length-append items set.0)

none_elsewhere : (font : FontValue) (limit used : ℕ) (items all : List Item) (portions : List Portion)
    → onward font limit (setting used items) portions ≡ None → onward font limit (setting used all) portions ≡ None
none_elsewhere font limit used items all portions is =
    ap (λ xs. onward font limit (setting used xs) portions) (sym (append-nil all)) ∙ moved font limit used all [] portions
    ∙ ap (option_map (shifted all)) (none (onward font limit (setting used []) portions)
    (sym (moved font limit used items [] portions) ∙ ap (λ xs. onward font limit (setting used xs) portions) (append-nil items) ∙ is))
  where
    none : (o : Option Setting) → option_map (shifted items) o ≡ None → o ≡ None
    none None is = refl
    none (Some set) is = cc

-- ---- numbers that are refused

pub refused_there : (policy : Policy) (font : FontValue) (codes : List ℕ) (at code : ℕ) → at < length codes → code ≡ get_or codes at 0 → is_refused policy font code ≡ true
    → has_refused policy font codes ≡ true
refused_there policy font codes at code within here is = list_any_at (is_refused policy font) codes at 0 within (ap (is_refused policy font) (sym here) ∙ is)

-- a part alone is refused as its codes and the character after them are
alone_refused : (policy : Policy) (font : FontValue) (codes : List ℕ) → refused_before policy font codes None ≡ has_refused policy font codes
alone_refused Refuse font codes = or-false (has_refused Refuse font codes)
alone_refused Skip font codes = or-false (has_refused Skip font codes)

pub codes_refused : (policy : Policy) (font : FontValue) (codes : List ℕ) → list_any (refused_in policy font) (only_part codes) ≡ has_refused policy font codes
codes_refused policy font codes = or-false (refused_before policy font codes None) ∙ alone_refused policy font codes

-- the portions of codes alone
pub alone_portions : (font : FontValue) (codes : List ℕ) → line_portions font (only_part codes) ≡ portions_of font codes
alone_portions font codes = append-nil (portions_of font codes ++ []) ∙ append-nil (portions_of font codes)

-- codes of which none is refused are set as their portions are
pub codes_set : (terms : TermsValue) (so_far : Setting) (codes : List ℕ) → has_refused terms.policy terms.font codes ≡ false
    → set_after terms so_far (only_part codes) ≡ onward terms.font terms.limit so_far (portions_of terms.font codes)
unfolding set_after
codes_set terms so_far codes kept =
    ap (λ (b : Bool). if b then None else onward terms.font terms.limit so_far (line_portions terms.font (only_part codes))) (codes_refused terms.policy terms.font codes ∙ kept)
    ∙ ap (onward terms.font terms.limit so_far) (alone_portions terms.font codes)

-- codes with a refused one have no setting
pub refused_kept : (format : RecordFormat) (terms : TermsValue) (so_far : Setting) (codes texts : List ℕ) → has_refused terms.policy terms.font codes ≡ true
    → IsKept format (set_after terms so_far (only_part codes)) texts None
unfolding set_after
refused_kept format terms so_far codes texts is =
    ap (λ (b : Bool). if b then None else onward terms.font terms.limit so_far (line_portions terms.font (only_part codes))) (codes_refused terms.policy terms.font codes ∙ is)

-- ---- a part

module _ (terms : TermsValue) (format : RecordFormat) (used gaps : ℕ) (all items : List Item) (texts : List ℕ) (listed : AreListed format all items gaps texts) (part : PartValue) where
  -- a part alone
  part_set : (uncoded : Option ℕ) → uncoded_after part ≡ uncoded → set_after terms (setting used all) (part ∷ [])
      ≡ (if refused_before terms.policy terms.font part.codes uncoded then None else onward terms.font terms.limit (setting used all) (portions_before terms.font part.codes uncoded))
  unfolding set_after
  part_set uncoded is =
      ap (λ o. if refused_before terms.policy terms.font part.codes o || false then None else onward terms.font terms.limit (setting used all) (portions_before terms.font part.codes o ++ [])) is
      ∙ ap (λ (b : Bool). if b then None else onward terms.font terms.limit (setting used all) (portions_before terms.font part.codes uncoded ++ [])) (or-false (refused_before terms.policy terms.font part.codes uncoded))
      ∙ ap (λ ps. if refused_before terms.policy terms.font part.codes uncoded then None else onward terms.font terms.limit (setting used all) ps) (append-nil (portions_before terms.font part.codes uncoded))

  -- with what decides whether it is refused
  set_if : (uncoded : Option ℕ) (b : Bool) → uncoded_after part ≡ uncoded → refused_before terms.policy terms.font part.codes uncoded ≡ b → set_after terms (setting used all) (part ∷ [])
      ≡ (if b then None else onward terms.font terms.limit (setting used all) (portions_before terms.font part.codes uncoded))
  set_if uncoded b is refused =
      part_set uncoded is ∙ ap (λ (r : Bool). if r then None else onward terms.font terms.limit (setting used all) (portions_before terms.font part.codes uncoded)) refused

  -- the lists after more items
  listed_more : (more : List Item) (written : List ℕ) → written ≡ texts ++ flat_map (item_text format) more
      → AreListed format (all ++ more) (items ++ more) gaps written
  listed_more more written appended = record {
    texts = appended ∙ ap (λ xs. xs ++ flat_map (item_text format) more) listed.texts ∙ sym (flat_map-append (item_text format) all more);
    width = total_width-append items more ∙ ap (λ w. w +ℤ total_width more) listed.width ∙ sym (total_width-append all more);
    spaces = spaces-append items more ∙ ap (λ n. n + count_by is_glue more) listed.spaces ∙ sym (spaces-append all more);
    count = omega (arith, listed.count, length-append items more, length-append all more);
    skipped = omega (arith, listed.skipped, skipped-append items more, skipped-append all more);
  }

  -- a part without a character after it
  pub part_last : (right : Bool) (uncoded : Option ℕ) (steps : ℕ) (after : List Item) (written : List ℕ) → uncoded ≡ uncoded_after part → uncoded ≡ None → right ≡ is_none uncoded
      → has_refused terms.policy terms.font part.codes ≡ false → onward terms.font terms.limit (setting used items) (portions_in right terms.font part.codes) ≡ Some (setting steps after)
      → written ≡ texts ++ flat_map (item_text format) (drop (length items) after)
      → IsReached format (set_after terms (setting used all) (part ∷ [])) after (gaps + gaps_in part) written (Some steps)
  part_last right uncoded steps after written at none is kept reached appended =
      let last : right ≡ true = is ∙ ap is_none none in
      let set = set_elsewhere terms.font terms.limit used steps items after all (portions_in true terms.font part.codes)
      (subst (λ r. onward terms.font terms.limit (setting used items) (portions_in r terms.font part.codes) ≡ Some (setting steps after)) last reached) in
      let more : List Item = set.0 in
      let there : AreListed format (all ++ more) (items ++ more) gaps written =
      listed_more more written (appended ∙ ap (λ xs. texts ++ flat_map (item_text format) xs) (ap (drop (length items)) set.1 ∙ drop-append_seam items more)) in
      let here : uncoded_after part ≡ None = sym at ∙ none in
      let zero : gaps + gaps_in part ≡ gaps = ap (λ o. gaps + option_map_or (λ character. 1) o 0) here ∙ omega arith in (
        all ++ more,
        set_if None false here (alone_refused terms.policy terms.font part.codes ∙ kept) ∙ ap (onward terms.font terms.limit (setting used all)) (append-nil (portions_in true terms.font part.codes)) ∙ set.2,
        subst (λ n. AreListed format (all ++ more) after n written) (sym zero) (subst (λ xs. AreListed format (all ++ more) xs gaps written) (sym set.1) there),
      )

  -- a part with a character without codes after it, which is skipped
  pub part_gap : (right : Bool) (uncoded : Option ℕ) (character steps : ℕ) (after : List Item) (written : List ℕ) → uncoded ≡ uncoded_after part → uncoded ≡ Some character → right ≡ is_none uncoded
      → terms.policy ≡ Skip → has_refused terms.policy terms.font part.codes ≡ false → steps ≤ terms.limit
      → onward terms.font terms.limit (setting used items) (portions_in right terms.font part.codes) ≡ Some (setting steps after)
      → written ≡ (texts ++ flat_map (item_text format) (drop (length items) after)) ++ item_text format (Skipped (256 + character))
      → IsReached format (set_after terms (setting used all) (part ∷ [])) after (gaps + gaps_in part) written (Some steps)
  unfolding setting_of onward
  part_gap right uncoded character steps after written at some is skips kept within reached appended =
      let inner : right ≡ false = is ∙ ap is_none some in
      let set = set_elsewhere terms.font terms.limit used steps items after all (portions_in false terms.font part.codes)
      (subst (λ r. onward terms.font terms.limit (setting used items) (portions_in r terms.font part.codes) ≡ Some (setting steps after)) inner reached) in
      let more : List Item = set.0 in
      let gap : Item = Skipped (256 + character) in
      let front : AreListed format (all ++ more) (items ++ more) gaps (texts ++ flat_map (item_text format) (drop (length items) after)) =
      listed_more more _ (ap (λ xs. texts ++ flat_map (item_text format) xs) (ap (drop (length items)) set.1 ∙ drop-append_seam items more)) in
      let here : uncoded_after part ≡ Some character = sym at ∙ some in
      let one : gaps + gaps_in part ≡ gaps + 1 = ap (λ o. gaps + option_map_or (λ character. 1) o 0) here in
      let none : refused_before terms.policy terms.font part.codes (Some character) ≡ false = ap (λ b. b || (refuses terms.policy && true)) kept ∙ ap (λ p. refuses p && true) skips in
      let there : AreListed format ((all ++ more) ++ gap ∷ []) after (gaps + 1) written = record {
        texts =
            appended ∙ ap (λ xs. xs ++ item_text format gap) front.texts
            ∙ ap (λ xs. flat_map (item_text format) (all ++ more) ++ xs) (sym (append-nil (item_text format gap))) ∙ sym (flat_map-append (item_text format) (all ++ more) (gap ∷ []));
        width = ap total_width set.1 ∙ front.width ∙ sym (gap_width (all ++ more) (256 + character));
        spaces = ap (count_by is_glue) set.1 ∙ front.spaces ∙ sym (gap_spaces (all ++ more) (256 + character));
        count = omega (arith, front.count, ap length set.1, length-append (all ++ more) (gap ∷ []));
        skipped = omega (arith, front.skipped, ap (count_by is_skipped) set.1, gap_skipped (all ++ more) (256 + character));
      } in (
        (all ++ more) ++ gap ∷ [],
        set_if (Some character) false here none ∙ part_then terms.font terms.limit used steps all (all ++ more) ((all ++ more) ++ gap ∷ []) (portions_before terms.font part.codes (Some character)) (portions_in false terms.font part.codes) []
            (skipped (256 + character)) gap refl set.2 within refl refl,
        subst (λ n. AreListed format ((all ++ more) ++ gap ∷ []) after n written) (sym one) there,
      )

  -- a part that has no setting
  pub part_none : (right : Bool) (uncoded : Option ℕ) → uncoded ≡ uncoded_after part → right ≡ is_none uncoded
      → (has_refused terms.policy terms.font part.codes ≡ false → onward terms.font terms.limit (setting used items) (portions_in right terms.font part.codes) ≡ None)
      → set_after terms (setting used all) (part ∷ []) ≡ None
  part_none right uncoded at is never = part_set uncoded (sym at) ∙ by (has_refused terms.policy terms.font part.codes) refl (refuses terms.policy && not (is_none uncoded))
    where
      by : (b : Bool) → has_refused terms.policy terms.font part.codes ≡ b → (c : Bool)
          → (if b || c then None else onward terms.font terms.limit (setting used all) (portions_before terms.font part.codes uncoded)) ≡ None
      by true refused c = refl
      by false kept true = refl
      by false kept false =
          part_stops terms.font terms.limit used all (portions_before terms.font part.codes uncoded) (portions_in (is_none uncoded) terms.font part.codes)
          (option_map_or (λ (character : ℕ). skipped (256 + character) ∷ []) uncoded []) refl
          (none_elsewhere terms.font terms.limit used items all (portions_in (is_none uncoded) terms.font part.codes)
          (subst (λ r. onward terms.font terms.limit (setting used items) (portions_in r terms.font part.codes) ≡ None) is (never kept)))

  -- a part with a character without codes that is refused
  pub part_refused : (uncoded : Option ℕ) (character : ℕ) → uncoded ≡ uncoded_after part → uncoded ≡ Some character → terms.policy ≡ Refuse
      → set_after terms (setting used all) (part ∷ []) ≡ None
  part_refused uncoded character at some policy =
      let there : refused_before terms.policy terms.font part.codes (Some character) ≡ true =
      ap (λ p. has_refused terms.policy terms.font part.codes || (refuses p && true)) policy ∙ or-true (has_refused terms.policy terms.font part.codes) in
      set_if (Some character) true (sym at ∙ some) there

-- ---- the parts after it

module _ (terms : TermsValue) where
  pub nothing_after : (so_far : Setting) → set_after terms so_far [] ≡ Some so_far
  unfolding set_after onward
  nothing_after so_far = refl

  -- the first part of a line, and then the others
  pub after_part : (so_far : Setting) (part : PartValue) (parts : List PartValue)
      → set_after terms so_far (part ∷ parts) ≡ option_and_then (λ next. set_after terms next parts) (set_after terms so_far (part ∷ []))
  unfolding set_after
  after_part so_far part parts =
      let here : List Portion = portions_before terms.font part.codes (uncoded_after part) in
      let one : Bool = refused_in terms.policy terms.font part in
      let other : Bool = list_any (refused_in terms.policy terms.font) parts in
      ap (λ (o : Option Setting). if one || other then None else o) (onward-append terms.font terms.limit so_far here (line_portions terms.font parts))
      ∙ by one other (onward terms.font terms.limit so_far here)
      ∙ ap (λ ps. option_and_then (λ next. if other then None else onward terms.font terms.limit next (line_portions terms.font parts)) (if one || false then None else onward terms.font terms.limit so_far ps)) (sym (append-nil here))
    where
      by : (one other : Bool) (o : Option Setting)
          → (if one || other then None else option_and_then (λ next. onward terms.font terms.limit next (line_portions terms.font parts)) o)
          ≡ option_and_then (λ next. if other then None else onward terms.font terms.limit next (line_portions terms.font parts)) (if one || false then None else o)
      by true other o = refl
      by false true None = refl
      by false true (Some next) = refl
      by false false o = refl

  -- a line whose next part has no setting, or this one
  pub part_stops_line : (so_far : Setting) (part : PartValue) (parts whole : List PartValue) → whole ≡ part ∷ parts
      → set_after terms so_far (part ∷ []) ≡ None → set_after terms so_far whole ≡ None
  part_stops_line so_far part parts whole cut none =
      ap (set_after terms so_far) cut ∙ after_part so_far part parts ∙ ap (option_and_then (λ next. set_after terms next parts)) none

  pub part_goes_on : (so_far next : Setting) (part : PartValue) (parts whole : List PartValue) → whole ≡ part ∷ parts
      → set_after terms so_far (part ∷ []) ≡ Some next → set_after terms so_far whole ≡ set_after terms next parts
  part_goes_on so_far next part parts whole cut some =
      ap (set_after terms so_far) cut ∙ after_part so_far part parts ∙ ap (option_and_then (λ next. set_after terms next parts)) some

-- the numbers of a part and of those after it
pub joined_length : (part : PartValue) (parts whole : List PartValue) → whole ≡ part ∷ parts
    → length part.codes + gaps_in part + length (joined parts) ≤ length (joined whole)
joined_length part parts whole cut =
    let gaps : List ℕ = option_map_or (λ character. (256 + character) ∷ []) part.gap [] in
    let few : gaps_in part ≤ length gaps = by part.gap in
    let long : length (joined whole) ≡ length (part_numbers part ++ joined parts) = ap (λ ps. length (joined ps)) cut in
    let numbers : length (part_numbers part) ≡ length part.codes + length gaps = length-append part.codes gaps in
    omega (arith, long, length-append (part_numbers part) (joined parts), numbers, few)
  where
    by : (gap : Option ℕ) → option_map_or (λ character. 1) (option_and_then unless_break gap) 0 ≤ length (option_map_or (λ character. (256 + character) ∷ []) gap [])
    by None = omega arith
    by (Some character) = one (nat_eq (256 + character) break_number)
      where
        one : (b : Bool) → option_map_or (λ (c : ℕ). 1) (cond b None (Some character)) 0 ≤ 1
        one true = omega arith
        one false = omega arith

pub none_is : (right : Bool) (uncoded : Option ℕ) → is_some uncoded ≡ not right → right ≡ is_none uncoded
none_is true None is = refl
none_is false (Some character) is = refl
none_is true (Some character) is = cc
none_is false None is = cc

-- codes that the table stopped at, if the byte there is refused
pub maybe_refused : (format : RecordFormat) (terms : TermsValue) (so_far : Setting) (codes texts : List ℕ) (refuses : Bool) (kept : Option (Option KeptLine)) → kept ≡ then_some refuses None
    → (refuses ≡ true → has_refused terms.policy terms.font codes ≡ true) → IfSome kept (IsKept format (set_after terms so_far (only_part codes)) texts)
maybe_refused format terms so_far codes texts true kept is refused = rw is (refused_kept format terms so_far codes texts (refused refl))
maybe_refused format terms so_far codes texts false kept is refused = rw is tt

-- a line whose parts are all set
pub all_set : (format : RecordFormat) (all items : List Item) (gaps steps : ℕ) (texts : List ℕ) (kept : KeptLine) → AreListed format all items gaps texts
    → kept.sums.width ≡ total_width items → kept.sums.steps ≡ steps → kept.sums.items ≡ length items + gaps → kept.sums.skipped ≡ count_by is_skipped items + gaps → kept.spaces ≡ spaces_for format (count_by is_glue items)
    → kept.length ≡ length texts → HasKept format (setting steps all) texts kept
all_set format all items gaps steps texts kept listed width count many missing spaces long = record {
  sums = record { width = width ∙ listed.width; steps = count; items = many ∙ listed.count; skipped = missing ∙ listed.skipped };
  spaces = spaces ∙ ap (spaces_for format) listed.spaces;
  within = omega (arith, long);
  text = ap (λ n. take n texts) long ∙ take-length texts ∙ listed.texts;
}

pub gaps_counted : (uncoded : Option ℕ) → bool_byte (is_some uncoded) ≡ option_map_or (λ character. 1) uncoded 0
gaps_counted None = refl
gaps_counted (Some character) = refl

pub ruleset refused = (refused_there)

pub ruleset plainly = (refused_kept)
