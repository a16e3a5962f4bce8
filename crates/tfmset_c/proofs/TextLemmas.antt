-- The lines of a text are told one after the other.
use Rattle.std.proofs.Common.{◌≡◌, ◌≢◌, ℕ, ◌+◌, ◌-◌, ◌==◌, Bool, true, false, List, [], ◌∷◌, ◌++◌, length, map, flat_map, Option, None, arith, refl, ap, sym, ◌∙◌, length-append, ◌⊎◌, inl, inr}
use Rattle.std.proofs.lemmas.Bool.Decides.{nat_tests}
use Rattle.std.proofs.lemmas.List.{length-map, map-append}
use Rattle.std.proofs.lemmas.List.Sums.{sum_by-cons}
use Rattle.tfmset_c.specs.Arrays.{ArePut, IsPartly, held}
use Rattle.encodings.specs.declared.encoding.Encoding.{Encoding}
use Rattle.lig_kern.specs.declared.item.Item.{Item}
use Rattle.set_line.specs.declared.outcome.LineRefusal.{LineRefusal}
use Rattle.set_line.specs.declared.outcome.LineRefusal.TheVariants.{Missing, Steps, TooLong}
use Rattle.set_line.specs.declared.outcome.Outcome.{Outcome}
use Rattle.set_line.specs.declared.outcome.Outcome.TheVariants.{Set, Refused}
use Rattle.set_line.specs.declared.records.text_refusal.TextRefusal.TheVariants.{Line}
use Rattle.set_line.specs.Answer.{items_or, outcome_of}
use Rattle.set_line.specs.Returns.{lines_in}
use Rattle.set_line.specs.Terms.{TermsValue}
use Rattle.line_records.specs.declared.result.LineResult.{LineResult}
use Rattle.line_records.specs.declared.result.LineResult.TheVariants.{Refused as RefusedResult}
use Rattle.line_records.specs.Results.{IsOf, IsResult, line_result}
use Rattle.line_records.proofs.OutcomeLemmas.{bytes_result}
use Rattle.tfmset_c.specs.Filling.{AreUnderWay, count_in, wanted}
use Rattle.tfmset_c.specs.Options.{IsReadAs, IsSetWith, call_limit_of, lines_at, outcome_within, outcomes_at, outcomes_within, result_within, steps_in, steps_of, terms_at}
use Rattle.tfmset_c.specs.Reading.{IsAnswerFor}
use Rattle.tfmset_c.specs.Records.{AreRecordsTold, form_told, record_within, records_told}
use Rattle.tfmset_c.specs.Texts.{item_told, items_in, items_told, line_told, lines_told}
use Rattle.tfmset_c.specs.declared.lines.TfmsetCounts.{TfmsetCounts}
use Rattle.tfmset_c.specs.declared.lines.TfmsetItem.{TfmsetItem}
use Rattle.tfmset_c.specs.declared.lines.TfmsetLine.{TfmsetLine}
use Rattle.tfmset_c.specs.declared.options.Settings.{Settings}
use Rattle.tfmset_c.specs.declared.options.TfmsetOptions.{TfmsetOptions}
use Rattle.tfmset_c.specs.declared.records.Form.{Form}
use Rattle.tfmset_c.specs.declared.records.TfmsetForm.{TfmsetForm}
use Rattle.tfmset_c.proofs.FillingLemmas.{none_wanted, one_more}

-- the result of the first line, and those of the others
pub outcomes_first : (terms : TermsValue) (left left' : ℕ) (lines more : List (List ℕ)) (line : List ℕ) (outcome : Outcome) → lines ≡ line ∷ more
    → outcome ≡ outcome_within terms left line → left' ≡ left - steps_of outcome
    → outcomes_within terms left lines ≡ outcome ∷ outcomes_within terms left' more
unfolding outcomes_within
outcomes_first terms left left' lines more line outcome cut is fewer = rw (cut, fewer, is) refl

-- without lines there are no results
pub no_outcomes : (terms : TermsValue) (left : ℕ) (lines : List (List ℕ)) → lines ≡ [] → outcomes_within terms left lines ≡ []
unfolding outcomes_within
no_outcomes terms left lines none = ap (outcomes_within terms left) none

-- ---- lines and items

-- the items of the first line, and of the others
items_first : (to_come more : List Outcome) (outcome : Outcome) → to_come ≡ outcome ∷ more
    → items_told to_come ≡ map item_told (items_in outcome) ++ items_told more
unfolding items_told
items_first to_come more outcome first = ap items_told first ∙ map-append item_told (items_in outcome) (flat_map items_in more)

-- the number of items in a line
pub count_told : (first : ℕ) (outcome : Outcome) (told : TfmsetLine) → told ≡ line_told first outcome → told.count ≡ length (items_in outcome)
unfolding line_told items_in
count_told first (Set items width steps) told is = ap (λ (line : TfmsetLine). line.count) is
count_told first (Refused refusal) told is = ap (λ (line : TfmsetLine). line.count) is ∙ by refusal
  where
    by : (refusal : LineRefusal) → (line_told first (Refused refusal)).count ≡ 0
    by (TooLong bytes) = refl
    by (Missing offset code) = refl
    by (Steps limit) = refl

-- one line more
pub line_more : (terms : TermsValue) {w : Bool} {all : List TfmsetLine} {placed : List TfmsetItem} (left left' : ℕ) {lines more : List (List ℕ)} (line : List ℕ)
    {told : TfmsetLine} (made : List Item) {counts next : TfmsetCounts} {at at' : ℕ} {lines_before now now' : List TfmsetLine} {items_before items items' : List TfmsetItem}
    → lines ≡ line ∷ more → left' ≡ left - steps_of (outcome_within terms left line) → told ≡ line_told counts.items (outcome_within terms left line)
    → made ≡ wanted w (items_in (outcome_within terms left line)) → ArePut (told ∷ []) counts.lines next.lines now now'
    → next.items ≡ held (counts.items + told.count) → ArePut (map item_told made) at at' items items'
    → AreUnderWay w all placed (λ n. lines_told n (outcomes_within terms left lines)) (λ _. items_told (outcomes_within terms left lines)) counts at lines_before now items_before items
    → AreUnderWay w all placed (λ n. lines_told n (outcomes_within terms left' more)) (λ _. items_told (outcomes_within terms left' more)) next at' lines_before now' items_before items'
unfolding lines_told
line_more terms {w} {all} {placed} left left' {lines} {more} line {told} made {counts} cut fewer is are put_line counted put_items way =
    let outcome : Outcome = outcome_within terms left line in
    let first : outcomes_within terms left lines ≡ outcome ∷ outcomes_within terms left' more = outcomes_first terms left left' lines more line outcome cut refl fewer in
    one_more (λ n. lines_told n (outcomes_within terms left lines)) (λ n. lines_told n (outcomes_within terms left' more)) (λ _. items_told (outcomes_within terms left lines)) (λ _. items_told (outcomes_within terms left' more))
    (map item_told (items_in outcome)) (map item_told made)
    (λ n so_far. ap (lines_told n) first ∙ ap (λ k. line_told k outcome ∷ lines_told (n + length (items_in outcome)) (outcomes_within terms left' more)) (sym so_far)
    ∙ ap (λ (l : TfmsetLine). l ∷ lines_told (n + length (items_in outcome)) (outcomes_within terms left' more)) (sym is)
    ∙ ap (λ k. told ∷ lines_told (n + k) (outcomes_within terms left' more)) (sym (count_told counts.items outcome told is)))
    (λ _. items_first _ (outcomes_within terms left' more) outcome first)
    (ap (map item_told) are ∙ map_wanted w (items_in outcome)) put_line counted put_items way
  where
    map_wanted : (v : Bool) (items : List Item) → map item_told (wanted v items) ≡ wanted v (map item_told items)
    map_wanted true items = refl
    map_wanted false items = refl

-- without lines there is nothing to tell
pub no_lines : (terms : TermsValue) (left n : ℕ) (lines : List (List ℕ)) → lines ≡ [] → lines_told n (outcomes_within terms left lines) ≡ []
unfolding lines_told
no_lines terms left n lines none = ap (lines_told n) (no_outcomes terms left lines none)

pub no_items : (terms : TermsValue) (left : ℕ) (lines : List (List ℕ)) → lines ≡ [] → items_told (outcomes_within terms left lines) ≡ []
unfolding items_told
no_items terms left lines none = ap items_told (no_outcomes terms left lines none)

-- Law: without the items, the same number of them is reported.
counted_alike : (n : ℕ) (outcomes : List Outcome) → count_in (lines_told n outcomes) ≡ length (items_told outcomes)
unfolding lines_told items_told
counted_alike n [] = refl
counted_alike n (outcome ∷ outcomes) =
    let rest : List TfmsetLine = lines_told (n + length (items_in outcome)) outcomes in
    sum_by-cons (λ (l : TfmsetLine). l.count) (line_told (held n) outcome) rest
    ∙ ap (λ k. k + count_in rest) (count_told (held n) outcome (line_told (held n) outcome) refl)
    ∙ ap (λ k. length (items_in outcome) + k) (counted_alike (n + length (items_in outcome)) outcomes)
    ∙ sym (ap length (items_first (outcome ∷ outcomes) outcomes outcome refl) ∙ length-append (map item_told (items_in outcome)) (items_told outcomes)
    ∙ ap (λ k. k + length (items_told outcomes)) (length-map (items_in outcome) item_told))

-- ---- a line of bytes that is set without its items

-- without any steps left it is refused
pub none_left : (terms : TermsValue) (left : ℕ) (line : List ℕ) → left ≡ 0 → IsOf (outcome_within terms left line) (RefusedResult (Line (Steps 0)))
unfolding outcome_within
none_left terms left line none = rw none refl

-- with some steps left it is the one that is defined
pub some_left : (terms : TermsValue) (encoding : Option Encoding) (first : Bool) (left : ℕ) (line : List ℕ) (set : LineResult) → left ≢ 0 → encoding ≡ None
    → IsResult (line_result terms encoding first line) set → IsOf (outcome_within terms left line) set
unfolding outcome_within
some_left terms encoding first left line set some bytes is =
    let other : (left == 0) ≡ false = grind (arith, nat_tests) in
    rw other (bytes_result terms first line set (rw bytes at is))

-- the items that are kept of a line, if they are wanted
pub none_kept : (terms : TermsValue) (w : Bool) (left : ℕ) (line : List ℕ) (items : List Item) → left ≡ 0 → items ≡ []
    → items ≡ wanted w (items_in (outcome_within terms left line))
unfolding outcome_within items_in
none_kept terms w left line items none empty = empty ∙ sym (rw none (none_wanted Item w))

pub all_kept : (terms : TermsValue) (w : Bool) (left : ℕ) (line : List ℕ) (outcome : Outcome) (before items : List Item) → left ≢ 0 → outcome ≡ outcome_of terms line
    → w ≡ true → before ≡ [] → items ≡ items_or before outcome → items ≡ wanted w (items_in (outcome_within terms left line))
unfolding outcome_within items_or items_in
all_kept terms w left line outcome before items some is kept empty back =
    let other : (left == 0) ≡ false = grind (arith, nat_tests) in
    rw (kept, other, ← is) (back ∙ ap (λ l. items_or l outcome) empty ∙ same outcome)
  where
    same : (o : Outcome) → items_or [] o ≡ items_in o
    same (Set items width steps) = refl
    same (Refused refusal) = refl

pub ruleset bytes_within = (none_left, some_left, none_kept, all_kept)

-- ---- records

-- one record more
pub record_more : (terms : TermsValue) (form : Form) (place left left' : ℕ) (first : Bool) (to_come more : List (List ℕ)) (line told before now now' : List ℕ) (at next : ℕ)
    → to_come ≡ line ∷ more → left' ≡ left - steps_in (result_within terms form.encoding first left line)
    → ArePut (record_within terms form place first left line) at next now now'
    → IsPartly told (records_told terms form place first left to_come) at before now
    → IsPartly told (records_told terms form (place + 1) false left' more) next before now'
unfolding records_told
record_more terms form place left left' first to_come more line told before now now' at next cut fewer put partly =
    rw fewer (put.further told (records_told terms form (place + 1) false (left - steps_in (result_within terms form.encoding first left line)) more) before (rw cut at partly))

-- without lines there is nothing to tell
pub no_records : (terms : TermsValue) (form : Form) (place left : ℕ) (first : Bool) (lines : List (List ℕ))
    → lines ≡ [] → records_told terms form place first left lines ≡ []
unfolding records_told
no_records terms form place left first lines none = ap (records_told terms form place first left) none

pub ruleset recorded = (record_more, no_records)

-- ---- a call

-- the settings of a line are those of the options
pub terms_are : (bytes : List ℕ) (options : TfmsetOptions) (settings : Settings) (terms : TermsValue) → IsReadAs options settings → IsSetWith bytes settings terms
    → terms ≡ terms_at bytes options
unfolding terms_at
terms_are bytes options settings terms read set = set.value ∙ rw (read.size, read.limit, read.policy) refl

-- and so are the results of the lines
pub outcomes_are : (bytes text : List ℕ) (options : TfmsetOptions) (settings : Settings) (terms : TermsValue) → IsReadAs options settings → IsSetWith bytes settings terms
    → outcomes_within terms settings.call_limit (lines_in settings.crlf text) ≡ outcomes_at bytes options text
unfolding outcomes_at
outcomes_are bytes text options settings terms read set = rw (terms_are bytes options settings terms read set, read.call_limit, read.crlf) refl

pub records_called : (bytes text : List ℕ) (options : TfmsetOptions) (settings : Settings) (terms : TermsValue) (encoding : Option Encoding) (asked : TfmsetForm) (form : Form)
    (answer count_before count : ℕ) (before records : List ℕ) → IsReadAs options settings → IsSetWith bytes settings terms → form ≡ form_told encoding asked
    → AreRecordsTold (records_told terms form form.first true settings.call_limit (lines_in settings.crlf text)) answer count_before count before records
    → AreRecordsTold (records_told (terms_at bytes options) (form_told encoding asked) asked.first true (call_limit_of options.call_limit) (lines_at options text)) answer count_before count before records
records_called bytes text options settings terms encoding asked form answer count_before count before records read set is told =
    rw (terms_are bytes options settings terms read set, read.call_limit, read.crlf, is) at told

-- the code of a call whose arguments are in range, and whose font is one
pub answered : (OutOfRange IsFont : Type 0) (answer : ℕ) → (OutOfRange → ⊥) → IsFont → (answer ≡ 0) ⊎ ((answer ≡ 2) ⊎ (answer ≡ 3))
    → IsAnswerFor OutOfRange IsFont answer
answered OutOfRange IsFont answer within font one = record {
  code = grind (arith, one);
  range = (λ four. absurd (grind (arith, one, four)), λ out. absurd (within out));
  refused = λ refused. absurd (grind (arith, one, refused));
  accepted = λ _. font;
}

-- neither of two arguments is out of range
pub neither : {A B : Type 0} → (A → ⊥) → (B → ⊥) → A ⊎ B → ⊥
neither first second (inl out) = first out
neither first second (inr out) = second out
