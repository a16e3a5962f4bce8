-- If the tables of a font have no error, they are sound.
use Rattle.std.proofs.Common.{◌≡◌, ap, ℕ, zero, suc, ◌+◌, ◌-◌, ◌⊎◌, inl, inr, subst, if◌then◌else◌, ◌<◌, ◌≤◌, Bool, true, false, not, ◌||◌, ◌&&◌, nat_lt, nat_le, ◌==◌, List, ◌++◌, Option, Some, None, arith, refl, sym, ◌∙◌, eq-eqb}
use Rattle.std.proofs.lemmas.Bool.{cases_lt, ltb-true, ltb-false, leb-true, leb-false, lt-ltb, le-leb}
use Rattle.std.specs.List.{range_with_len, flat_map}
use Rattle.std.specs.Option.{option_or}
use Rattle.std.specs.Prelude.{Ok}
use Rattle.tfm_words.specs.declared.table.Table.{Table}
use Rattle.tfm_words.specs.declared.table.Table.TheVariants.{CharInfo, Width, Height, Depth, Italic, LigKern, Kern, Param}
use Rattle.tfm_words.specs.Counts.{AreCountsOf, HasLawfulCounts, counts_of}
use Rattle.tfm_words.specs.DesignSize.{design_size_of}
use Rattle.tfm_words.specs.CountFaults.{first_fault}
use Rattle.tfm_words.proofs.FirstFault.{AllPassed, first_fault-append, passed_of_none}
use Rattle.tfm_tables.specs.declared.step.Step.{Step}
use Rattle.tfm_tables.specs.declared.font_metrics.FontMetrics.TheInside.{Inside}
use Rattle.tfm_tables.specs.Inside.{HasAcceptedWords}
use Rattle.tfm_tables.specs.declared.fault.FontFault.{FontFault}
use Rattle.tfm_tables.specs.Table.{entries_of, entry_at}
use Rattle.tfm_tables.specs.Character.{exists, is_coded, char_info_of, width_index, height_index, depth_index, italic_index, tag_number, remainder_of}
use Rattle.tfm_tables.specs.Program.{step_at, target_of}
use Rattle.tfm_tables.specs.Acceptance.{table_faults, index_faults, start_faults, first_entry_faults, all_measure_faults, table_measure_faults, measure_faults, parameter_faults, is_measure, instruction_faults, step_faults, restart_faults, plain_faults, codes_of, is_right_code, kern_index_of}
use Rattle.tfm_tables.specs.Sound.{HasSoundIndices, IsSoundStep, HasSoundTables, HasScalableMeasures, IsScalableEntry}
use Rattle.tfm_tables.proofs.MeasureLemmas.{AreBytes, bytes-entry_at, scalable_word}

-- ---- tests

both : (a b : Bool) {P Q : Type 0} → (a && b) ≡ true → (a ≡ true → P) → (b ≡ true → Q) → P × Q
both true b e p q = (p refl, q e)
both false b e p q = let bad : false ≡ true = e in cc

first_true : (a b : Bool) → (a && b) ≡ true → a ≡ true
first_true true b e = refl
first_true false b e = e

second_false : (a b : Bool) → (a && b) ≡ false → a ≡ true → b ≡ false
second_false true b e is = e
second_false false b e is = let bad : false ≡ true = is in cc

not_false : (b : Bool) → not b ≡ false → b ≡ true
not_false true e = refl
not_false false e = let bad : true ≡ false = e in cc

-- ---- a list of rows without an error has parts without an error

none_of_front : {T : Type 0} (a b : Option T) → option_or a b ≡ None → a ≡ None
none_of_front None b e = refl
none_of_front (Some x) b e = cc

none_of_back : {T : Type 0} (a b : Option T) → option_or a b ≡ None → b ≡ None
none_of_back None b e = e
none_of_back (Some x) b e = cc

front_none : {F : Type 0} (xs ys : List (Bool × F)) → first_fault (xs ++ ys) ≡ None → first_fault xs ≡ None
front_none xs ys e = none_of_front (first_fault xs) (first_fault ys) (sym (first_fault-append xs ys) ∙ e)

back_none : {F : Type 0} (xs ys : List (Bool × F)) → first_fault (xs ++ ys) ≡ None → first_fault ys ≡ None
back_none xs ys e = none_of_back (first_fault xs) (first_fault ys) (sym (first_fault-append xs ys) ∙ e)

at_or_behind : {F : Type 0} (rows : ℕ → List (Bool × F)) (a k : ℕ) → first_fault (rows a) ≡ None
    → (a < k → first_fault (rows k) ≡ None) → (a < k) ⊎ (k ≤ a) → a ≤ k → first_fault (rows k) ≡ None
at_or_behind rows a k here later (inl behind) low = later behind
at_or_behind {F} rows a k here later (inr at) low =
    let e : a ≡ k = omega arith in
    let family : ℕ → Type 0 = λ j. first_fault (rows j) ≡ None in
    subst family e here

each_none : {F : Type 0} (rows : ℕ → List (Bool × F)) (a n : ℕ) → first_fault (flat_map rows (range_with_len a n)) ≡ None
    → (k : ℕ) → a ≤ k → k < a + n → first_fault (rows k) ≡ None
each_none rows a zero e k low high = absurd (omega arith)
each_none rows a (suc n) e k low high =
    at_or_behind rows a k (front_none (rows a) (flat_map rows (range_with_len (a + 1) n)) e)
    (λ behind. each_none rows (a + 1) n (back_none (rows a) (flat_map rows (range_with_len (a + 1) n)) e) k (omega arith) (omega arith))
    (cases_lt a k) low

-- ---- codes

coded_bounds : (words : List ℕ) (code : ℕ) → is_coded words code ≡ true → ((counts_of words).bc ≤ code) × (code ≤ (counts_of words).ec)
unfolding is_coded
coded_bounds words code e = both (nat_le (counts_of words).bc code) (nat_le code (counts_of words).ec) e (leb-true (counts_of words).bc code) (leb-true code (counts_of words).ec)

pub coded_low : (words : List ℕ) (code : ℕ) → is_coded words code ≡ true → (counts_of words).bc ≤ code
coded_low words code e = (coded_bounds words code e).0

pub coded_high : (words : List ℕ) (code : ℕ) → is_coded words code ≡ true → code ≤ (counts_of words).ec
coded_high words code e = (coded_bounds words code e).1

pub coded_of_exists : (words : List ℕ) (code : ℕ) → exists words code ≡ true → is_coded words code ≡ true
unfolding exists
coded_of_exists words code e = first_true (is_coded words code) (not (width_index (char_info_of words code) == 0)) e

-- Law: the code of each character of a font is at most 255
pub codes_are_bytes : (words : List ℕ) (code : ℕ) → HasLawfulCounts words → exists words code ≡ true → code ≤ 255
codes_are_bytes words code has there =
    omega (arith, coded_high words code (coded_of_exists words code there), has.lawful.last_code)

pub ruleset coded = (coded_low, coded_high, coded_of_exists)

row_of_code : (words : List ℕ) (rows : ℕ → List (Bool × FontFault)) → first_fault (flat_map rows (codes_of words)) ≡ None
    → (code : ℕ) → is_coded words code ≡ true → first_fault (rows code) ≡ None
unfolding codes_of
row_of_code words rows e code is =
    let low = coded_low words code is in
    let high = coded_high words code is in
    each_none rows (counts_of words).bc (entries_of words CharInfo) e code low (omega arith)

-- ---- the property that follows where the condition of each kind of row doesn't hold

sound_indices : (words : List ℕ) (code : ℕ) → first_fault (index_faults words code) ≡ None → HasSoundIndices words code
unfolding index_faults
sound_indices words code e =
    let p : AllPassed (index_faults words code) = passed_of_none (index_faults words code) e in
    record {
      width = leb-false (entries_of words Width) (width_index (char_info_of words code)) p.0;
      height = leb-false (entries_of words Height) (height_index (char_info_of words code)) p.1.0;
      depth = leb-false (entries_of words Depth) (depth_index (char_info_of words code)) p.1.1.0;
      italic = leb-false (entries_of words Italic) (italic_index (char_info_of words code)) p.1.1.1.0;
    }

sound_start : (words : List ℕ) (code : ℕ) → first_fault (start_faults words code) ≡ None
    → tag_number (char_info_of words code) ≡ 1 → remainder_of (char_info_of words code) < entries_of words LigKern
unfolding start_faults
sound_start words code e tag =
    let p : AllPassed (start_faults words code) = passed_of_none (start_faults words code) e in
    leb-false (entries_of words LigKern) (remainder_of (char_info_of words code))
    (second_false (tag_number (char_info_of words code) == 1) (nat_le (entries_of words LigKern) (remainder_of (char_info_of words code))) p.0 (eq-eqb (tag_number (char_info_of words code)) 1 tag))

sound_by_skip : (words : List ℕ) (i : ℕ) (step : Step) (points : Bool) → nat_lt 128 step.skip ≡ points
    → first_fault (if points then restart_faults words i step else plain_faults words i step) ≡ None → IsSoundStep words i step
unfolding restart_faults plain_faults
sound_by_skip words i step true above e =
    let p : AllPassed (restart_faults words i step) = passed_of_none (restart_faults words i step) e in
    let high : 128 < step.skip = ltb-true 128 step.skip above in
    record {
      restart = λ _. leb-false (entries_of words LigKern) (target_of step) p.0;
      next = λ low. absurd (omega arith);
      ligature = λ low _. absurd (omega arith);
      kern = λ low _. absurd (omega arith);
      following = λ low. absurd (omega arith);
    }
sound_by_skip words i step false below e =
    let p : AllPassed (plain_faults words i step) = passed_of_none (plain_faults words i step) e in
    let low : step.skip ≤ 128 = ltb-false 128 step.skip below in
    record {
      restart = λ high. absurd (omega arith);
      next = λ _. not_false (exists words step.next || is_right_code words step.next) p.0;
      ligature = λ _ op. not_false (exists words step.remainder) (second_false (nat_lt step.op 128) (not (exists words step.remainder)) p.1.0 (lt-ltb step.op 128 op));
      kern = λ _ op. leb-false (entries_of words Kern) (kern_index_of step) (second_false (nat_le 128 step.op) (nat_le (entries_of words Kern) (kern_index_of step)) p.1.1.0 (le-leb 128 step.op op));
      following = λ skip. leb-false (entries_of words LigKern) (i + step.skip + 1) (second_false (nat_lt step.skip 128) (nat_le (entries_of words LigKern) (i + step.skip + 1)) p.1.1.1.0 (lt-ltb step.skip 128 skip));
    }

sound_step : (words : List ℕ) (i : ℕ) (step : Step) → first_fault (step_faults words i step) ≡ None → IsSoundStep words i step
sound_step words i step e = sound_by_skip words i step (nat_lt 128 step.skip) refl e

-- ---- dimensions

scalable_of : (words : List ℕ) (table : Table) (i : ℕ) → AreBytes words → not (is_measure (entry_at words table i)) ≡ false → IsScalableEntry words table i
scalable_of words table i bytes passed =
    scalable_word (entry_at words table i) (bytes-entry_at words table i bytes) (not_false (is_measure (entry_at words table i)) passed)

scalable_table : (words : List ℕ) (table : Table) → AreBytes words → first_fault (table_measure_faults words table) ≡ None
    → (i : ℕ) → i < entries_of words table → IsScalableEntry words table i
unfolding table_measure_faults measure_faults
scalable_table words table bytes e i within =
    let p : AllPassed (measure_faults words table i) =
    passed_of_none (measure_faults words table i) (each_none (measure_faults words table) 0 (entries_of words table) e i (omega arith) (omega arith)) in
    scalable_of words table i bytes p.0

scalable_parameter : (words : List ℕ) → AreBytes words → first_fault (flat_map (parameter_faults words) (range_with_len 2 (entries_of words Param - 1))) ≡ None
    → (n : ℕ) → 2 ≤ n → n ≤ entries_of words Param → IsScalableEntry words Param (n - 1)
unfolding parameter_faults
scalable_parameter words bytes e n low high =
    let p : AllPassed (parameter_faults words n) =
    passed_of_none (parameter_faults words n) (each_none (parameter_faults words) 2 (entries_of words Param - 1) e n low (omega arith)) in
    scalable_of words Param (n - 1) bytes p.0

scalable_measures : (words : List ℕ) → AreBytes words → first_fault (all_measure_faults words) ≡ None → HasScalableMeasures words
unfolding all_measure_faults
scalable_measures words bytes e =
    let widths = table_measure_faults words Width in
    let heights = table_measure_faults words Height in
    let depths = table_measure_faults words Depth in
    let italics = table_measure_faults words Italic in
    let kerns = table_measure_faults words Kern in
    let parameters = flat_map (parameter_faults words) (range_with_len 2 (entries_of words Param - 1)) in
    let to_kerns = front_none (widths ++ heights ++ depths ++ italics ++ kerns) parameters e in
    let to_italics = front_none (widths ++ heights ++ depths ++ italics) kerns to_kerns in
    let to_depths = front_none (widths ++ heights ++ depths) italics to_italics in
    let to_heights = front_none (widths ++ heights) depths to_depths in
    record {
      widths = scalable_table words Width bytes (front_none widths heights to_heights);
      heights = scalable_table words Height bytes (back_none widths heights to_heights);
      depths = scalable_table words Depth bytes (back_none (widths ++ heights) depths to_depths);
      italics = scalable_table words Italic bytes (back_none (widths ++ heights ++ depths) italics to_italics);
      kerns = scalable_table words Kern bytes (back_none (widths ++ heights ++ depths ++ italics) kerns to_kerns);
      parameters = scalable_parameter words bytes (back_none (widths ++ heights ++ depths ++ italics ++ kerns) parameters e);
    }

-- ---- the tables as a whole

pub sound_of_accepted : (words : List ℕ) → AreBytes words → first_fault (table_faults words) ≡ None → HasSoundTables words
unfolding table_faults instruction_faults
sound_of_accepted words bytes e =
    let indices = flat_map (index_faults words) (codes_of words) in
    let starts = flat_map (start_faults words) (codes_of words) in
    let measures = all_measure_faults words in
    let steps = flat_map (instruction_faults words) (range_with_len 0 (entries_of words LigKern)) in
    let to_measures = front_none (indices ++ starts ++ first_entry_faults words ++ measures) steps e in
    let to_entries = front_none (indices ++ starts ++ first_entry_faults words) measures to_measures in
    let to_starts = front_none (indices ++ starts) (first_entry_faults words) to_entries in
    let of_steps = back_none (indices ++ starts ++ first_entry_faults words ++ measures) steps e in
    record {
      indices = λ code is. sound_indices words code (row_of_code words (index_faults words) (front_none indices starts to_starts) code is);
      starts = λ code is tag. sound_start words code (row_of_code words (start_faults words) (back_none indices starts to_starts) code is) tag;
      measures = scalable_measures words bytes (back_none (indices ++ starts ++ first_entry_faults words) measures to_measures);
      steps = λ i within. sound_step words i (step_at words i) (each_none (instruction_faults words) 0 (entries_of words LigKern) of_steps i (omega arith) (omega arith));
    }

-- metrics whose words are a copy of accepted words
pub accepted_of : (f : Inside) (words : List ℕ) → f.words.items ≡ words → AreCountsOf words f.counts → HasSoundTables words → design_size_of words ≡ Ok f.design → HasAcceptedWords f
accepted_of f words own counts sound design =
    let are : List ℕ → Type 0 = λ w. AreCountsOf w f.counts in
    let are_sound : List ℕ → Type 0 = λ w. HasSoundTables w in
    record {
      counts = subst are (sym own) counts;
      sound = subst are_sound (sym own) sound;
      design = ap design_size_of own ∙ design;
    }
