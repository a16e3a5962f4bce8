-- The words of `each`: the limits that they write, and the first that writes none.
use Rattle.std.proofs.Common.{arith, ◌≡◌, ℕ, zero, suc, ◌+◌, ◌%◌, ◌^◌, ◌<◌, ◌≤◌, true, false, min, List, [], ◌∷◌, ◌++◌, get_or, length, length-append, nat_le, Option, Some, None, Bor, ap, sym, subst, ◌∙◌}
use Rattle.std.proofs.lemmas.Bool.{and_parts, leb-true, true≢false}
use Rattle.std.proofs.lemmas.List.{append-nil, append_assoc, nil_from_length}
use Rattle.std.proofs.lemmas.List.Elements.{All-append}
use Rattle.std.proofs.lemmas.Option.{none-some}
use Rattle.std.proofs.lemmas.Str.{digit_value_digit}
use Rattle.std.specs.Prelude.{Result, Ok, Err, All, is_ok}
use Rattle.std.specs.Char.{is_ascii_digit}
use Rattle.std.specs.List.{list_all}
use Rattle.std.specs.Str.Parse.{AllDigits, IsNumeral, ParsesUnsigned, digits_value}
use Rattle.std.specs.declared.num.ParseIntError.{ParseIntError}
use Rattle.command_line.specs.Asked.{Finds}
use Rattle.tfm_requests.specs.Jobs.{IsFirstWithoutLimit, IsLimitOf, WritesLimit, limit_words}
use Rattle.tfm_requests.proofs.EachLemmas.{has_no_plus, three_of}

-- ---- one limit

-- each of the digits is below ten
digits_of : (word : List ℕ) → list_all is_ascii_digit word ≡ true → AllDigits 10 word
digits_of [] all = tt
digits_of (c ∷ cs) all =
    let both = and_parts (is_ascii_digit c) (list_all is_ascii_digit cs) all in
    let range = and_parts (nat_le 48 c) (nat_le c 57) both.0 in
    let low : 48 ≤ c = leb-true 48 c range.0 in
    let high : c ≤ 57 = leb-true c 57 range.1 in
    (omega (arith, high, digit_value_digit c (low, high)), digits_of cs both.1)

-- digits that aren't read as a number write no limit
pub unread_is_no_limit : (word : List ℕ) (read : Result ℕ ParseIntError) (limit : Option ℕ) → list_all is_ascii_digit word ≡ true
    → ParsesUnsigned 32 10 word read → is_ok read ≡ false → limit ≡ None → Finds (IsLimitOf word) limit
unread_is_no_limit word read (Some n) all parsed failed none = absurd (none-some n (sym none))
unread_is_no_limit word (Ok n) None all parsed failed none = absurd (true≢false failed)
unread_is_no_limit word (Err e) None all parsed failed none = λ limit writes.
    parsed (subst (λ digits. IsNumeral 10 digits × (digits_value 10 digits < 2 ^ 32)) (sym (has_no_plus word all))
    ((omega (arith, writes.1), digits_of word all), omega (arith, writes.3, writes.5)))

-- ---- all of them

-- the limits of the words before the rest of all: so many, and each is one
abbrev pub HasLimitsBefore : List (Bor (List ℕ)) → List (Bor (List ℕ)) → ℕ → Type 0
HasLimitsBefore all rest count =
    (before : List (List ℕ)) × (limit_words all ≡ before ++ limit_words rest) × (length before ≡ count) × All WritesLimit before

-- what is left of words in threes, when three are taken, is in threes
pub threes_left : (rest chunk left : List (Bor (List ℕ))) → rest ≡ chunk ++ left → length chunk ≡ min 3 (length rest) → 0 < length rest
    → length rest % 3 ≡ 0 → length left % 3 ≡ 0
threes_left rest chunk left parts taken some threes =
    let long : length rest ≡ length chunk + length left = ap length parts ∙ length-append chunk left in
    omega (arith, long, taken, some, threes)

next_limit : (rest chunk left : List (Bor (List ℕ))) (d : Bor (List ℕ)) → rest ≡ chunk ++ left → 3 ≤ length chunk → length chunk < 4
    → limit_words rest ≡ (get_or chunk 1 d).now ∷ limit_words left
next_limit rest chunk left d parts long short = ap limit_words (parts ∙ ap (λ c. c ++ left) (three_of chunk d long short))

pub limit_of_one : (word : List ℕ) → WritesLimit word → All WritesLimit (word ∷ [])
limit_of_one word writes zero d below = writes
limit_of_one word writes (suc k) d below = absurd (omega (arith, below))

-- three words more are a limit more
pub limit_more : (all rest chunk left : List (Bor (List ℕ))) (d : Bor (List ℕ)) (count limit : ℕ) → HasLimitsBefore all rest count
    → rest ≡ chunk ++ left → 3 ≤ length chunk → length chunk < 4 → IsLimitOf (get_or chunk 1 d).now limit → HasLimitsBefore all left (count + 1)
limit_more all rest chunk left d count limit has parts long short writes =
    let word : List ℕ = (get_or chunk 1 d).now in
    let whole : limit_words all ≡ (has.0 ++ word ∷ []) ++ limit_words left = has.1 ∙ (ap (λ words. has.0 ++ words) (next_limit rest chunk left d parts long short)
    ∙ sym (append_assoc has.0 (word ∷ []) (limit_words left))) in
    (has.0 ++ word ∷ [], whole, omega (arith, has.2, length-append has.0 (word ∷ [])), All-append WritesLimit has.0 (word ∷ []) has.3 (limit_of_one word (limit, writes)))

-- the next word is the first that writes no limit
pub limit_missing : (all rest chunk left : List (Bor (List ℕ))) (d : Bor (List ℕ)) (count : ℕ) → HasLimitsBefore all rest count
    → rest ≡ chunk ++ left → 3 ≤ length chunk → length chunk < 4 → ((limit : ℕ) → ¬ IsLimitOf (get_or chunk 1 d).now limit)
    → IsFirstWithoutLimit (count + 1) (limit_words all)
limit_missing all rest chunk left d count has parts long short none =
    let word : List ℕ = (get_or chunk 1 d).now in (
      has.0,
      word,
      limit_words left,
      has.1 ∙ ap (λ words. has.0 ++ words) (next_limit rest chunk left d parts long short),
      omega (arith, has.2),
      has.3,
      λ writes. none writes.0 writes.1,
    )

-- without a word left each limit is one
pub all_limits : (all rest : List (Bor (List ℕ))) (count : ℕ) → HasLimitsBefore all rest count → length rest ≡ 0 → All WritesLimit (limit_words all)
all_limits all rest count has none =
    subst (λ words. All WritesLimit words)
    (sym (has.1 ∙ (ap (λ words. has.0 ++ limit_words words) (nil_from_length rest none) ∙ append-nil has.0))) has.3
