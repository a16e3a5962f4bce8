-- Portions, set one after the other.
use Rattle.std.proofs.Common.{◌≡◌, ℕ, ◌+◌, ◌-◌, ◌*◌, ◌<◌, ◌≤◌, Bool, true, false, List, [], ◌∷◌, ◌++◌, length, map, Option, Some, None, arith, refl, ap, sym, ◌∙◌, append_assoc, append-nil, length-append}
use Rattle.std.specs.Prelude.{nat_le}
use Rattle.std.specs.Option.{option_and_then, option_map}
use Rattle.std.proofs.lemmas.Int.{to_z-of_z}
use Rattle.std.proofs.lemmas.List.Sums.{sum_by-cons}
use Rattle.std.proofs.lemmas.Bool.{leb-true, leb-false, le-leb}
use Rattle.tfm_tables.specs.Font.{FontValue}
use Rattle.lig_kern.specs.declared.item.Item.{Item}
use Rattle.lig_kern.specs.Result.{Setting, IsAppendedResult, IsResultOf, HasNoResultWithin, result_of}
use Rattle.lig_kern.proofs.LawLemmas.{few_items, finds_result}
use Rattle.set_line.specs.Pieces.{Portion, is_space, portion_of, portions_in, run_of}
use Rattle.set_line.specs.Answer.{setting_of, within_limit, all_of, together, setting_of_portions}
use Rattle.set_line.specs.Onward.{IsFirstCut, setting, added, onward}
use Rattle.set_line.proofs.PieceLemmas.{portions_cut}

-- ---- one after the other

-- the limit is kept, or it isn't
within_limit-kept : (limit : ℕ) (s : Setting) → s.steps ≤ limit → within_limit limit s ≡ Some s
within_limit-kept limit s h = let kept : nat_le s.steps limit ≡ true = le-leb s.steps limit h in rw kept refl

within_limit-past : (limit : ℕ) (s : Setting) → limit < s.steps → within_limit limit s ≡ None
within_limit-past limit s h = let past : nat_le s.steps limit ≡ false = grind arith in rw past refl

pub onward-append : (font : FontValue) (limit : ℕ) (so_far : Setting) (xs ys : List Portion)
    → onward font limit so_far (xs ++ ys) ≡ option_and_then (λ next. onward font limit next ys) (onward font limit so_far xs)
unfolding onward
onward-append font limit so_far [] ys = refl
onward-append font limit so_far (x ∷ xs) ys = by (added limit so_far (setting_of font limit x)) (λ next. onward-append font limit next xs ys)
  where
    by : (o : Option Setting)
        → ((next : Setting) → onward font limit next (xs ++ ys) ≡ option_and_then (λ further. onward font limit further ys) (onward font limit next xs))
        → option_and_then (λ next. onward font limit next (xs ++ ys)) o
        ≡ option_and_then (λ further. onward font limit further ys) (option_and_then (λ next. onward font limit next xs) o)
    by None further = refl
    by (Some next) further = further next

-- ---- a run

pub run_empty : (font : FontValue) (limit : ℕ) (so_far : Setting) (codes : List ℕ) (right : Bool) → length codes ≡ 0
    → onward font limit so_far (run_of codes right) ≡ Some so_far
unfolding onward
run_empty font limit so_far [] right e = refl
run_empty font limit so_far (code ∷ codes) right e = absurd (omega arith)

pub run_set : (font : FontValue) (limit used steps : ℕ) (before after : List Item) (codes : List ℕ) (right : Bool)
    → 0 < length codes → used ≤ limit → IsAppendedResult font codes right (limit - used) before after steps
    → onward font limit (setting used before) (run_of codes right) ≡ Some (setting (used + steps) after)
unfolding onward setting_of
run_set font limit used steps before after [] right some kept is = absurd (omega arith)
run_set font limit used steps before after (code ∷ codes) right some kept is =
    let found : result_of font (code ∷ codes) right limit ≡ Some (setting steps is.items) = (finds_result font (code ∷ codes) right limit).found (setting steps is.items) is.result (omega (arith, is.within)) in
    let whole : setting (used + steps) (before ++ is.items) ≡ setting (used + steps) after = ap (setting (used + steps)) (sym is.appended) in
    rw found
    (ap (option_and_then (λ next. Some next)) (within_limit-kept limit (setting (used + steps) (before ++ is.items)) (omega (arith, is.within)))
    ∙ ap Some whole)

pub run_refused : (font : FontValue) (limit used : ℕ) (before : List Item) (codes : List ℕ) (right : Bool)
    → 0 < length codes → used ≤ limit → HasNoResultWithin font codes right (limit - used)
    → onward font limit (setting used before) (run_of codes right) ≡ None
unfolding onward setting_of
run_refused font limit used before [] right some kept never = absurd (omega arith)
run_refused font limit used before (code ∷ codes) right some kept never = by (result_of font (code ∷ codes) right limit) refl
  where
    by : (o : Option Setting) → result_of font (code ∷ codes) right limit ≡ o
        → option_and_then (λ next. Some next) (added limit (setting used before) o) ≡ None
    by None e = refl
    by (Some s) e =
        let is : IsResultOf font (code ∷ codes) right s × (s.steps ≤ limit) = (finds_result font (code ∷ codes) right limit).is_result s e in
        let past : limit < used + s.steps = beyond (nat_le (used + s.steps) limit) refl is.0 in
        ap (option_and_then (λ next. Some next)) (within_limit-past limit (setting (used + s.steps) (before ++ s.items)) past)
      where
        beyond : (b : Bool) → nat_le (used + s.steps) limit ≡ b → IsResultOf font (code ∷ codes) right s → limit < used + s.steps
        beyond true h is = absurd (grind (arith, never s.steps (omega (arith, leb-true (used + s.steps) limit h)), is))
        beyond false h is = leb-false (used + s.steps) limit h

-- ---- a portion that is no run

pub item_added : (font : FontValue) (limit steps : ℕ) (items items' : List Item) (portion : Portion) (item : Item) (portions : List Portion)
    → steps ≤ limit → setting_of font limit portion ≡ Some (setting 0 (item ∷ [])) → items' ≡ items ++ item ∷ []
    → onward font limit (setting steps items) (portion ∷ portions) ≡ onward font limit (setting steps items') portions
unfolding onward
item_added font limit steps items items' portion item portions kept is appended =
    let same : steps + 0 ≡ steps = omega arith in
    rw is (rw same
    (ap (option_and_then (λ next. onward font limit next portions)) (within_limit-kept limit (setting steps (items ++ item ∷ [])) kept)
    ∙ ap (λ more. onward font limit (setting steps more) portions) (sym appended)))

-- ---- few items

pub run_few : (used steps : ℕ) (before after : List Item) (font : FontValue) (codes : List ℕ) (right : Bool) (limit : ℕ)
    → 0 < length codes → IsAppendedResult font codes right limit before after steps → length after + 2 * used ≤ length before + 2 * (used + steps) + length codes
run_few used steps before after font codes right limit some is =
    omega (arith, few_items font codes right (setting steps is.items) is.result, ap length is.appended, length-append before is.items)

-- ---- a portion and what follows it

-- what a portion makes of what there is, with an item after it and the rest to come
pub part_then : (font : FontValue) (limit used steps : ℕ) (before middle after : List Item) (whole front rest : List Portion) (portion : Portion) (item : Item)
    → whole ≡ front ++ portion ∷ rest → onward font limit (setting used before) front ≡ Some (setting steps middle) → steps ≤ limit
    → setting_of font limit portion ≡ Some (setting 0 (item ∷ [])) → after ≡ middle ++ item ∷ []
    → onward font limit (setting used before) whole ≡ onward font limit (setting steps after) rest
part_then font limit used steps before middle after whole front rest portion item cut reached kept is appended =
    rw cut (onward-append font limit (setting used before) front (portion ∷ rest)
    ∙ ap (option_and_then (λ next. onward font limit next (portion ∷ rest))) reached
    ∙ item_added font limit steps middle after portion item rest kept is appended)

pub part_stops : (font : FontValue) (limit used : ℕ) (before : List Item) (whole front rest : List Portion)
    → whole ≡ front ++ rest → onward font limit (setting used before) front ≡ None → onward font limit (setting used before) whole ≡ None
part_stops font limit used before whole front rest cut reached =
    rw cut (onward-append font limit (setting used before) front rest ∙ ap (option_and_then (λ next. onward font limit next rest)) reached)

-- the same of a line that is cut
pub cut_then : (font : FontValue) (limit used steps : ℕ) (before middle after : List Item) (right : Bool) (line codes : List ℕ) (cut : ℕ) (rest : List ℕ) (item : Item)
    → IsFirstCut font line codes cut rest → onward font limit (setting used before) (run_of codes (is_space cut)) ≡ Some (setting steps middle) → steps ≤ limit
    → setting_of font limit (portion_of cut) ≡ Some (setting 0 (item ∷ [])) → after ≡ middle ++ item ∷ []
    → onward font limit (setting used before) (portions_in right font line) ≡ onward font limit (setting steps after) (portions_in right font rest)
cut_then font limit used steps before middle after right line codes cut rest item first =
    part_then font limit used steps before middle after (portions_in right font line) (run_of codes (is_space cut)) (portions_in right font rest) (portion_of cut) item
    (portions_cut right font line codes cut rest first)

-- ---- the whole line

together-onward : (font : FontValue) (limit used : ℕ) (before : List Item) (portions : List Portion) → used ≤ limit
    → onward font limit (setting used before) portions
    ≡ option_and_then (λ settings. within_limit limit (setting (used + (together settings).steps) (before ++ (together settings).items)))
    (all_of (map (setting_of font limit) portions))
unfolding onward
together-onward font limit used before [] kept =
    let steps : used + 0 ≡ used = omega arith in
    rw steps (rw (append-nil before) (sym (within_limit-kept limit (setting used before) kept)))
together-onward font limit used before (portion ∷ portions) kept =
    by (setting_of font limit portion) (λ more items fits. together-onward font limit more items portions fits)
  where
    rest : Option (List Setting)
    rest = all_of (map (setting_of font limit) portions)

    combined : ℕ → List Item → List Setting → Option Setting
    combined steps items settings = within_limit limit (setting (steps + (together settings).steps) (items ++ (together settings).items))

    by : (o : Option Setting)
        → ((more : ℕ) (items : List Item) → more ≤ limit → onward font limit (setting more items) portions ≡ option_and_then (combined more items) rest)
        → option_and_then (λ next. onward font limit next portions) (added limit (setting used before) o)
        ≡ option_and_then (combined used before) (option_and_then (λ one. option_map (λ more. one ∷ more) rest) o)
    by None further = refl
    by (Some one) further = kept_or_not (nat_le (used + one.steps) limit) refl
      where
        onto : (settings : Option (List Setting))
            → option_and_then (combined (used + one.steps) (before ++ one.items)) settings ≡ option_and_then (combined used before) (option_map (λ more. one ∷ more) settings)
        onto None = refl
        onto (Some settings) =
            ap (λ n. within_limit limit (setting n ((before ++ one.items) ++ (together settings).items))) (omega arith)
            ∙ ap (λ items. within_limit limit (setting (used + (one.steps + (together settings).steps)) items)) (append_assoc before one.items (together settings).items)
            ∙ ap (λ n. within_limit limit (setting (used + n) (before ++ (one.items ++ (together settings).items)))) (sym (sum_by-cons (λ (s : Setting). s.steps) one settings))

        past : (settings : Option (List Setting)) → limit < used + one.steps → option_and_then (combined used before) (option_map (λ more. one ∷ more) settings) ≡ None
        past None h = refl
        past (Some settings) h = within_limit-past limit _ (omega (arith, h, sum_by-cons (λ (s : Setting). s.steps) one settings))

        kept_or_not : (b : Bool) → nat_le (used + one.steps) limit ≡ b
            → option_and_then (λ next. onward font limit next portions) (added limit (setting used before) (Some one))
            ≡ option_and_then (combined used before) (option_map (λ more. one ∷ more) rest)
        kept_or_not true h =
            let fits : used + one.steps ≤ limit = leb-true (used + one.steps) limit h in
            ap (option_and_then (λ next. onward font limit next portions)) (within_limit-kept limit (setting (used + one.steps) (before ++ one.items)) fits)
            ∙ further (used + one.steps) (before ++ one.items) fits
            ∙ onto rest
        kept_or_not false h =
            let beyond : limit < used + one.steps = leb-false (used + one.steps) limit h in
            ap (option_and_then (λ next. onward font limit next portions)) (within_limit-past limit (setting (used + one.steps) (before ++ one.items)) beyond)
            ∙ sym (past rest beyond)

pub setting_is : (font : FontValue) (limit : ℕ) (portions : List Portion)
    → onward font limit (setting 0 []) portions ≡ setting_of_portions font limit portions
unfolding setting_of_portions
setting_is font limit portions = together-onward font limit 0 [] portions (omega arith) ∙ by (all_of (map (setting_of font limit) portions))
  where
    by : (o : Option (List Setting))
        → option_and_then (λ settings. within_limit limit (setting (0 + (together settings).steps) ([] ++ (together settings).items))) o
        ≡ option_and_then (λ settings. within_limit limit (together settings)) o
    by None = refl
    by (Some settings) = ap (λ n. within_limit limit (setting n (together settings).items)) (omega arith)

-- ---- what a body answers

-- one byte and one item more
pub one_more : (first used steps : ℕ) (before items middle after : List Item) (item : Item) (part behind rest whole : List ℕ)
    → length part + length behind + 1 ≡ length rest
    → length middle + 2 * used ≤ length items + 2 * steps + length part
    → length items + 2 * first + length rest ≤ length before + 2 * used + length whole
    → after ≡ middle ++ item ∷ []
    → length after + 2 * first + length behind ≤ length before + 2 * steps + length whole
one_more first used steps before items middle after item part behind rest whole cut few so_far appended = omega (arith, cut, few, so_far, ap length appended, length-append middle (item ∷ []))

pub ruleset signed = (to_z-of_z)
