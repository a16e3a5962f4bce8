-- A line that is written up to a byte, and the next byte.
use Rattle.std.proofs.Common.{◌≡◌, ℕ, suc, ◌+◌, ◌<◌, ◌≤◌, pos, ◌+ℤ◌, true, false, List, [], ◌∷◌, ◌++◌, length, take, drop, drop-cons, get_or, flat_map, Option, Some, None, arith, refl, ap, sym, subst, ◌∙◌, append_assoc, length-append}
use Rattle.std.specs.Prelude.{◌==◌, IfSome}
use Rattle.std.proofs.Math.Seq.{take-append_seam}
use Rattle.std.specs.List.{count_by}
use Rattle.std.specs.Option.{option_and_then, option_map}
use Rattle.std.proofs.lemmas.Grind.{flat_map-append}
use Rattle.std.proofs.lemmas.Int.{ints}
use Rattle.run_plan.specs.declared.policy.Policy.{Policy}
use Rattle.tfm_tables.specs.Font.{FontValue}
use Rattle.lig_kern.specs.declared.symbol.Symbol.{Symbol}
use Rattle.lig_kern.specs.declared.symbol.Symbol.TheVariants.{Left}
use Rattle.lig_kern.specs.Result.{Setting}
use Rattle.set_line.specs.Onward.{setting}
use Rattle.set_line.specs.Pieces.{is_space}
use Rattle.set_line.specs.Terms.{TermsValue}
use Rattle.set_line.specs.Width.{total_width}
use Rattle.line_records.specs.Additions.{Addition, added_of, after, alone, byte_added, ending_of, set_from}
use Rattle.line_records.specs.Boxes.{item_text}
use Rattle.line_records.specs.Cells.{Fits, Style, symbol_of, total_tally}
use Rattle.line_records.specs.Written.{IsNext, IsSmall, IsStep, IsWhole, IsWritten, joined}
use Rattle.line_records.specs.Kept.{IsKept, IsThatOf, set_after, spaces_for}
use Rattle.line_records.specs.Results.{only_part}
use Rattle.line_records.specs.declared.keeping.KeptLine.{KeptLine}
use Rattle.line_records.specs.declared.line_state.LineState.{LineState}
use Rattle.line_records.proofs.AddingLemmas.{total_tally-append, total_width-append}
use Rattle.line_records.proofs.BoxLemmas.{line_spaces}
use Rattle.line_records.proofs.LineLemmas.{line_set}

-- the next column is that of a byte
byte_next : (font : FontValue) (policy : Policy) (current : Symbol) (next : ℕ) → next < 256 → added_of font policy current next ≡ byte_added font policy current next
unfolding added_of
byte_next font policy current next small = let other : (next == 256) ≡ false = grind arith in rw other refl

-- the next column is that of the end
end_next : (font : FontValue) (policy : Policy) (current : Symbol) → added_of font policy current 256 ≡ ending_of font true current
unfolding added_of
end_next font policy current = refl

joined_none : (o : Option Setting) → o ≡ option_map (joined (setting 0 [])) o
joined_none None = refl
joined_none (Some set) = let same : 0 + set.steps ≡ set.steps = omega arith in ap (λ n. Some (setting n set.items)) (sym same)

pub written_first : (style : Style) (line room : List ℕ) (start : LineState) → start.row ≡ 32 → start.length ≡ 0 → start.steps ≡ 0 → start.tally ≡ 0 → start.width ≡ pos 0
    → IsWritten style line line room start
written_first style line room start row none steps sum width = record {
  set = setting 0 [];
  onward = joined_none (set_from style.font style.policy Left line) ∙ ap (λ symbol. option_map (joined (setting 0 [])) (set_from style.font style.policy symbol line)) (sym (ap (symbol_of style.font) row));
  text = ap (λ n. take n room) none;
  width = width;
  steps = steps;
  tally = sum;
  few = omega arith;
}

joined_twice : (set : Setting) (added : Addition) (o : Option Setting)
    → option_map (joined set) (option_map (after added) o) ≡ option_map (joined (joined set (alone added))) o
joined_twice set added None = refl
joined_twice set added (Some more) =
    let steps : set.steps + (added.steps + more.steps) ≡ (set.steps + added.steps) + more.steps = omega arith in
    ap (λ n. Some (setting n (set.items ++ (added.items ++ more.items)))) steps
    ∙ ap (λ xs. Some (setting ((set.steps + added.steps) + more.steps) xs)) (sym (append_assoc set.items added.items more.items))

-- what a step adds to what is written
added_text : (style : Style) (line rest old new : List ℕ) (next : ℕ) (before after : LineState) (way : IsWritten style line rest old before) (step : IsStep style before next old new after)
    → take after.length new ≡ flat_map (item_text style.format) (way.set.items ++ step.added.items)
added_text style line rest old new next before after way step =
    step.text ∙ ap (λ xs. xs ++ flat_map (item_text style.format) step.added.items) way.text ∙ sym (flat_map-append (item_text style.format) way.set.items step.added.items)

added_width : (style : Style) (line rest old new : List ℕ) (next : ℕ) (before after : LineState) (way : IsWritten style line rest old before) (step : IsStep style before next old new after)
    → after.width ≡ total_width (way.set.items ++ step.added.items)
added_width style line rest old new next before after way step =
    step.width ∙ ap (λ w. w +ℤ total_width step.added.items) way.width ∙ sym (total_width-append way.set.items step.added.items)

written_byte : (style : Style) (line old new : List ℕ) (byte : ℕ) (rest : List ℕ) (before next : LineState) → IsWritten style line (byte ∷ rest) old before
    → IsStep style before byte old new next → byte < 256 → IsWritten style line rest new next
unfolding set_from
written_byte style line old new byte rest before next way step small =
    let first : byte_added style.font style.policy (symbol_of style.font before.row) byte ≡ Some step.added = sym (byte_next style.font style.policy (symbol_of style.font before.row) byte small) ∙ step.is in
    record {
      set = joined way.set (alone step.added);
      onward =
          way.onward
          ∙ ap (λ o. option_map (joined way.set) (option_and_then (λ added. option_map (after added) (set_from style.font style.policy added.current rest)) o)) first
          ∙ ap (λ symbol. option_map (joined way.set) (option_map (after step.added) (set_from style.font style.policy symbol rest))) (sym (step.row small))
          ∙ joined_twice way.set step.added (set_from style.font style.policy (symbol_of style.font next.row) rest);
      text = added_text style line (byte ∷ rest) old new byte before next way step;
      width = added_width style line (byte ∷ rest) old new byte before next way step;
      steps = step.steps ∙ ap (λ n. n + step.added.steps) way.steps;
      tally = step.tally ∙ ap (λ n. n + total_tally step.added.items) way.tally ∙ sym (total_tally-append way.set.items step.added.items);
      few = omega (arith, step.few, way.few, length-append way.set.items step.added.items);
    }

pub written_next : (style : Style) (line old new : List ℕ) (at further : ℕ) (before next : LineState) → IsWritten style line (drop at line) old before
    → IsStep style before (get_or line at 0) old new next → at < length line → get_or line at 0 < 256 → further ≡ at + 1
    → IsWritten style line (drop further line) new next
written_next style line old new at further before next way step within small is =
    let here : drop at line ≡ get_or line at 0 ∷ drop further line =
    drop-cons line at 0 within ∙ ap (λ k. get_or line at 0 ∷ drop k line) {x = suc at} {y = further} (omega (arith, is)) in
    written_byte style line old new (get_or line at 0) (drop further line) before next
    (subst (λ rest. IsWritten style line rest old before) here way) step small

pub written_whole : (style : Style) (line rest old new : List ℕ) (before whole : LineState) → IsWritten style line rest old before → rest ≡ []
    → IsStep style before 256 old new whole → IsWhole style line new whole
unfolding set_from
written_whole style line rest old new before whole way none step = record {
  set = joined way.set (alone step.added);
  is =
      way.onward
      ∙ ap (λ bytes. option_map (joined way.set) (set_from style.font style.policy (symbol_of style.font before.row) bytes)) none
      ∙ ap (λ o. option_map (joined way.set) (option_map alone o)) (sym (end_next style.font style.policy (symbol_of style.font before.row)) ∙ step.is);
  text = added_text style line rest old new 256 before whole way step;
  width = added_width style line rest old new 256 before whole way step;
  steps = step.steps ∙ ap (λ n. n + step.added.steps) way.steps;
  tally = step.tally ∙ ap (λ n. n + total_tally step.added.items) way.tally ∙ sym (total_tally-append way.set.items step.added.items);
  few = omega (arith, step.few, way.few, length-append way.set.items step.added.items, ap length none);
}

-- a step in a room whose front was kept
pub step_through : (style : Style) (before : LineState) (next : ℕ) (old middle new : List ℕ) (after : LineState)
    → IsStep style before next middle new after → take before.length middle ≡ take before.length old → IsStep style before next old new after
step_through style before next old middle new after step kept = record {
  added = step.added;
  is = step.is;
  row = step.row;
  text = step.text ∙ ap (λ xs. xs ++ flat_map (item_text style.format) step.added.items) kept;
  width = step.width;
  steps = step.steps;
  tally = step.tally;
  few = step.few;
}

-- the numbers after one more byte
pub small_next : (bytes further : ℕ) (before after : LineState) → IsSmall bytes before → IsNext before after → further ≡ bytes + 1 → IsSmall further after
small_next bytes further before after small next is = record {
  row = next.row;
  steps = omega (arith, small.steps, next.steps);
  tally = omega (arith, small.tally, next.tally);
  low = omega (arith, ints, small.low, next.low);
  high = omega (arith, ints, small.high, next.high);
}

pub ruleset steps = (written_first, written_next, written_whole, step_through, small_next)

-- a list that was changed through a slice of all of it
pub whole_slice : (size : ℕ) (new behind : List ℕ) → length new ≡ size → take size (new ++ behind) ≡ new
whole_slice size new behind long = ap (λ n. take n (new ++ behind)) (sym long) ∙ take-append_seam new behind

-- a step in a slice of a room whose front was kept
pub step_back : (style : Style) (before : LineState) (next size : ℕ) (old middle new behind : List ℕ) (r : Option LineState)
    → length new ≡ size → take before.length middle ≡ take before.length old
    → IfSome r (IsStep style before next middle new) → IfSome r (IsStep style before next old (take size (new ++ behind)))
step_back style before next size old middle new behind None long kept step = tt
step_back style before next size old middle new behind (Some after) long kept step =
    rw (whole_slice size new behind long) (step_through style before next old middle new after step kept)

-- a line that is written and within the limit
pub set_as : (style : Style) (terms : TermsValue) (line room : List ℕ) (whole : LineState) (spaces : ℕ) (kept : KeptLine) → IsWhole style line room whole → Fits style terms → length line ≤ 65535
    → whole.steps ≤ terms.limit → whole.length ≤ length room → spaces ≡ spaces_for style.format (count_by is_space line) → IsThatOf whole spaces kept
    → IsKept style.format (set_after terms (setting 0 []) (only_part line)) room (Some kept)
set_as style terms line room whole spaces kept is fits short within inside counted same = (
  is.set,
  line_set terms line is.set
      (ap (λ f. set_from f terms.policy Left line) (sym fits.0) ∙ ap (λ p. set_from style.font p Left line) (sym fits.1) ∙ is.is)
      (omega (arith, is.steps)),
  record {
    sums = record {
      width = same.width ∙ is.width;
      steps = same.steps ∙ is.steps;
      items = omega (arith, same.tally, same.few, is.tally, is.few, short);
      skipped = omega (arith, same.tally, same.few, is.tally, is.few, short);
    };
    spaces = same.spaces ∙ counted ∙ ap (spaces_for style.format) (sym (line_spaces style.font style.policy Left line is.set is.is));
    within = omega (arith, same.length);
    text = ap (λ n. take n room) same.length ∙ is.text;
  },
)
