-- A decoded list grows by one entry at a time, and each entry is the value of the decoding function at its
-- index.
use Rattle.std.proofs.Common.{◌≡◌, ℕ, ℤ, pos, ◌+◌, ◌<◌, ◌≤◌, ◌^◌, Bool, true, false, ◌&&◌, if◌then◌else◌, nat_lt, nat_le, List, [], ◌∷◌, ◌++◌, length, length-append, map, get_or, ap, ◌∙◌, arith, refl, sym}
use Rattle.std.specs.Prelude.{Option, Some, None}
use Rattle.std.proofs.lemmas.Bool.{lt-leb}
use Rattle.std.proofs.lemmas.List.FromFn.{map-range_with_len_more, length-map-range_with_len, get_or-map-range_with_len}
use Rattle.std.proofs.lemmas.Int.{to_z-of_z}
use Rattle.std.specs.List.{range_with_len, slice_get}
use Rattle.std.proofs.lemmas.Option.{slice_get-get_or}
use Rattle.std.proofs.lemmas.List.{get_or_append_left, get_or-append_right}
use Rattle.tfm_words.specs.declared.table.Table.TheVariants.{Kern, Param}
use Rattle.tfm_words.specs.declared.numbers.Numbers.{Numbers}
use Rattle.tfm_words.specs.Counts.{counts_of, AreCountsOf}
use Rattle.tfm_tables.proofs.ProgramLemmas.{length-program_of}
use Rattle.tfm_tables.specs.declared.metrics.Metrics.{Metrics}
use Rattle.tfm_tables.specs.Character.{metrics_of}
use Rattle.tfm_tables.specs.declared.left_side.LeftSide.TheVariants.{Boundary, Char}
use Rattle.tfm_tables.specs.Table.{entries_of}
use Rattle.tfm_tables.specs.Measure.{parameter_of}
use Rattle.tfm_tables.specs.Program.{program_of, start_of}
use Rattle.tfm_tables.specs.Decoded.{characters_of, starts_of}

pub ruleset grown = (map-range_with_len_more)

-- the same for signed entries, which a push converts to bits and back
pub ruleset grown_signed = (map-range_with_len_more, to_z-of_z)

-- a list of the values below a number, after that number's own
pub more_of_map : {X : Type 0} (f : ℕ → X) (before : List X) (n : ℕ) (own : X) → before ≡ map f (range_with_len 0 n) → own ≡ f n
    → before ++ own ∷ [] ≡ map f (range_with_len 0 (n + 1))
more_of_map f before n own is here = rw (is, here) (sym (map-range_with_len_more f 0 n n (omega arith)))

-- an entry of a decoded list
pub entry_of_map : {X : Type 0} (f : ℕ → X) (n i : ℕ) (d : X) → i < n → get_or (map f (range_with_len 0 n)) i d ≡ f i
entry_of_map f n i d h = get_or-map-range_with_len f 0 n i i d h (omega arith)

-- an entry of the list of decoded characters
pub entry_of_characters : (words : List ℕ) (size code : ℕ) (d : Option Metrics) → code < 256 → get_or (characters_of words size) code d ≡ metrics_of words size code
unfolding characters_of
entry_of_characters words size code d h = entry_of_map (metrics_of words size) 256 code d h

pub length-characters_of : (words : List ℕ) (size : ℕ) → length (characters_of words size) ≡ 256
unfolding characters_of
length-characters_of words size = length-map-range_with_len (metrics_of words size) 0 256

pub ruleset characters = (entry_of_characters, length-characters_of)

-- ---- numbers without a parameter

pub parameter_zero : (words : List ℕ) (size : ℕ) → parameter_of words size 0 ≡ pos 0
unfolding parameter_of
parameter_zero words size = refl

by_test : (x y : ℤ) (a b : Bool) → b ≡ false → (if (a && b) then x else y) ≡ y
by_test x y true b e = rw e refl
by_test x y false b e = refl

pub parameter_past : (words : List ℕ) (size n : ℕ) → entries_of words Param < n → parameter_of words size n ≡ pos 0
unfolding parameter_of
parameter_past words size n h =
    let past : nat_le n (entries_of words Param) ≡ false = lt-leb n (entries_of words Param) h in
    by_test _ _ (nat_lt 0 n) (nat_le n (entries_of words Param)) past

pub ruleset parameters = (parameter_zero, parameter_past)

-- ---- starts

-- the starting addresses of the codes, without that of the left boundary
abbrev code_starts : List ℕ → List (Option ℕ)
code_starts words = map (λ code. start_of words (Char code)) (range_with_len 0 256)

length-code_starts : (words : List ℕ) → length (code_starts words) ≡ 256
length-code_starts words = length-map-range_with_len (λ code. start_of words (Char code)) 0 256

pub length-starts_of : (words : List ℕ) → length (starts_of words) ≡ 257
unfolding starts_of
length-starts_of words = length-append (code_starts words) (start_of words Boundary ∷ []) ∙ ap (λ n. n + 1) (length-code_starts words)

-- the entry of a code among the starting addresses is the starting address of that code
pub start_at_code : (words : List ℕ) (code : ℕ) → code < 256 → slice_get (starts_of words) code ≡ Some (start_of words (Char code))
unfolding starts_of
start_at_code words code h =
    slice_get-get_or (starts_of words) code None (omega (arith, length-starts_of words))
    ∙ ap Some (get_or_append_left (code_starts words) (start_of words Boundary ∷ []) None code (omega (arith, length-code_starts words))
    ∙ entry_of_map (λ at. start_of words (Char at)) 256 code None h)

-- entry 256 of the starting addresses is that of the left boundary
pub start_at_boundary : (words : List ℕ) → slice_get (starts_of words) 256 ≡ Some (start_of words Boundary)
unfolding starts_of
start_at_boundary words =
    slice_get-get_or (starts_of words) 256 None (omega (arith, length-starts_of words))
    ∙ ap Some (get_or-append_right (code_starts words) (start_of words Boundary ∷ []) 256 256 None (length-code_starts words) (omega arith))

-- a list of the starting addresses of all codes, after that of the left boundary
pub starts_all : (words : List ℕ) (starts : List (Option ℕ)) (codes : ℕ) (left : Option ℕ)
    → starts ≡ map (λ at. start_of words (Char at)) (range_with_len 0 codes) → codes ≡ 256 → left ≡ start_of words Boundary
    → starts ++ left ∷ [] ≡ starts_of words
unfolding starts_of
starts_all words starts codes left is all own = rw (is, all, own) refl

-- ---- the numbers of instructions and codes

pub few_steps : (words : List ℕ) (c : Numbers) → AreCountsOf words c → length (program_of words) ≤ 2 ^ 15
few_steps words c are =
    let small : (counts_of words).nl < 2 ^ 15 = are.lawful.lawful.small.1.1.1.1.1.1.1.1.0 in
    omega (arith, length-program_of words, small)

pub few_kerns : (words : List ℕ) (c : Numbers) → AreCountsOf words c → entries_of words Kern ≤ 2 ^ 15
few_kerns words c are =
    let small : (counts_of words).nk < 2 ^ 15 = are.lawful.lawful.small.1.1.1.1.1.1.1.1.1.0 in
    omega (arith, small)

pub ruleset sized = (few_steps, few_kerns)
