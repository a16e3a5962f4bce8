-- Reading a text: its characters one after the other, and which of them have an entry in a table of single codes.
use Rattle.std.proofs.Common.{◌≡◌, ℕ, zero, suc, ◌+◌, ◌-◌, ◌*◌, ◌<◌, ◌≤◌, true, List, [], ◌∷◌, ◌++◌, length, length-append, get_or, take, drop, flat_map, arith, refl, ap, sym, subst, ◌∙◌, append-nil}
use lib.Utf8.{encode, low_scalar}
use Rattle.std.specs.Prelude.{cond}
use Rattle.std.specs.Option.{option_map_or}
use Rattle.std.specs.Char.{IsScalar, encode_utf8}
use Rattle.std.specs.List.{list_all}
use Rattle.std.specs.Str.{chars, IsUtf8, IsAscii}
use Rattle.std.proofs.lemmas.Bool.{and_parts, eqb-true, le-ltb, lt-ltb, ltb-true}
use Rattle.std.proofs.lemmas.Grind.{flat_map-append}
use Rattle.std.proofs.lemmas.List.{append_assoc, get_or_default, length-drop, take-append-drop}
use Rattle.std.proofs.lemmas.Nat.{div-mul-add, mod-mul-add}
use Rattle.std.proofs.lemmas.Str.{chars-append, chars-IsAscii, chars-nil, chars_past_char, encode_ascii, IsUtf8-append, IsUtf8-encode, IsUtf8-from_ascii, IsUtf8-nil, length-encode, len_utf8_bounds}
use Rattle.encodings.specs.declared.encoding.Encoding.{Encoding}
use Rattle.encodings.specs.Decoding.{IsIndexed, IsRead, IsSingle, is_plain, text_numbers}
use Rattle.encodings.specs.Lines.{break_number, numbers_of, set_apart}
use Rattle.encodings.specs.Lookup.{index_of, singles_in}
pub use Rattle.encodings.proofs.PlaceLemmas.{shorter_text}
use Rattle.encodings.proofs.TableLemmas.{index_low, index_of_punctuation, not_apart, single_is, singles_end}

-- ---- texts that are read in parts

text_both : (encoding : Encoding) (text more : List ℕ) → IsUtf8 text → text_numbers encoding (text ++ more) ≡ text_numbers encoding text ++ text_numbers encoding more
text_both encoding text more utf8 = ap (flat_map (numbers_of encoding)) (chars-append text more utf8) ∙ flat_map-append (numbers_of encoding) (chars text) (chars more)

-- nothing is read
pub none_read : (encoding : Encoding) (text old : List ℕ) → IsRead encoding text text old old
none_read encoding text old = record {
  front = [];
  whole = refl;
  utf8 = IsUtf8-nil;
  numbers = sym (ap (λ cs. old ++ flat_map (numbers_of encoding) cs) chars-nil ∙ append-nil old);
}

-- a text is read to a rest, and this to another one
pub read_more : (encoding : Encoding) (text between rest old middle new : List ℕ) → IsRead encoding text between old middle → IsRead encoding between rest middle new → IsRead encoding text rest old new
read_more encoding text between rest old middle new first second = record {
  front = first.front ++ second.front;
  whole = first.whole ∙ ap (λ l. first.front ++ l) second.whole ∙ sym (append_assoc first.front second.front rest);
  utf8 = IsUtf8-append first.front second.front first.utf8 second.utf8;
  numbers = second.numbers
      ∙ ap (λ l. l ++ text_numbers encoding second.front) first.numbers
      ∙ append_assoc old (text_numbers encoding first.front) (text_numbers encoding second.front)
      ∙ ap (λ l. old ++ l) (sym (text_both encoding first.front second.front first.utf8));
}

-- a rest isn't longer than the text
pub rest_within : (encoding : Encoding) (text rest old new : List ℕ) → IsRead encoding text rest old new → length rest ≤ length text
rest_within encoding text rest old new read = omega (arith, ap length read.whole, length-append read.front rest)

-- a text is read to its end
pub all_read : (encoding : Encoding) (text rest old new : List ℕ) → length rest ≡ 0 → IsRead encoding text rest old new → IsRead encoding text [] old new
all_read encoding text [] old new empty read = read
all_read encoding text (byte ∷ rest) old new empty read = absurd (omega arith)

-- ---- one character

one_character : (encoding : Encoding) (c : ℕ) → IsScalar c → text_numbers encoding (encode_utf8 c) ≡ numbers_of encoding c
one_character encoding c scalar =
    ap (flat_map (numbers_of encoding)) (chars_past_char (encode_utf8 c) [] c (IsUtf8-encode c scalar) (sym (append-nil (encode_utf8 c))) ∙ ap (λ l. c ∷ l) chars-nil)
    ∙ append-nil (numbers_of encoding c)

pub read_character : (encoding : Encoding) (text rest old new : List ℕ) (c : ℕ) → IsScalar c → text ≡ encode_utf8 c ++ rest → new ≡ old ++ numbers_of encoding c → IsRead encoding text rest old new
read_character encoding text rest old new c scalar is grown = record {
  front = encode_utf8 c;
  whole = is;
  utf8 = IsUtf8-encode c scalar;
  numbers = grown ∙ ap (λ l. old ++ l) (sym (one_character encoding c scalar));
}

single_numbers : (encoding : Encoding) (c code : ℕ) → c < 0x110000 → get_or (singles_in encoding) (index_of c) 256 ≡ code → code < 256 → numbers_of encoding c ≡ code ∷ []
unfolding numbers_of
single_numbers encoding c code character entry small =
    ap (λ o. option_map_or (set_apart c) o ((256 + c) ∷ [])) (single_is encoding c code character entry small)
    ∙ ap (λ b. cond b (break_number ∷ code ∷ break_number ∷ []) (code ∷ [])) (not_apart encoding c (omega (arith, entry, small)))

-- a character with a single code at the front of a text
pub read_single : (encoding : Encoding) (singles text rest old new : List ℕ) (code len : ℕ) → singles ≡ singles_in encoding → IsSingle singles text code len → rest ≡ drop len text → new ≡ old ++ code ∷ [] → IsRead encoding text rest old new
read_single encoding singles text rest old new code len table single cut grown =
    let c = single.indexed.character in
    let entry : get_or (singles_in encoding) (index_of c) 256 ≡ code = ap (λ i. get_or (singles_in encoding) i 256) single.indexed.index_is ∙ ap (λ l. get_or l single.index 256) (sym table) ∙ single.entry in
    let one = single_numbers encoding c code (omega (arith, single.indexed.low)) entry single.small in
    read_character encoding text rest old new c (low_scalar c (omega (arith, single.indexed.low)))
    (sym (take-append-drop len text) ∙ ap (λ l. l ++ drop len text) single.indexed.bytes ∙ ap (λ l. encode_utf8 c ++ l) (sym cut))
    (grown ∙ ap (λ l. old ++ l) (sym one))

-- a text after such a character is shorter
single_len : (singles text : List ℕ) (code len : ℕ) → IsSingle singles text code len → 0 < len
single_len singles text code zero single = absurd (omega (arith, ap length single.indexed.bytes, length-encode single.indexed.character, len_utf8_bounds single.indexed.character))
single_len singles text code (suc len) single = omega arith

pub single_shorter : (singles text rest : List ℕ) (code len : ℕ) → IsSingle singles text code len → rest ≡ drop len text → length rest < length text
single_shorter singles text rest code len single cut =
    omega (arith, ap length cut, ap length (take-append-drop len text), length-append (take len text) (drop len text), length-drop len text, single_len singles text code len single, single.indexed.within)

-- ---- plain bytes, which are their own codes

pub plain_below : (singles : List ℕ) (byte : ℕ) → is_plain singles byte ≡ true → byte < 128
plain_below singles byte is = ltb-true byte 128 (and_parts _ _ is).0

plain_numbers : (encoding : Encoding) (byte : ℕ) → is_plain (singles_in encoding) byte ≡ true → numbers_of encoding byte ≡ byte ∷ []
plain_numbers encoding byte is =
    let below = plain_below (singles_in encoding) byte is in
    let index = index_low byte (omega (arith, below)) in
    single_numbers encoding byte byte (omega (arith, below)) (ap (λ i. get_or (singles_in encoding) i 256) index ∙ eqb-true _ _ (and_parts _ _ is).1) (omega (arith, below))

plain_text : (encoding : Encoding) (bytes : List ℕ) → list_all (is_plain (singles_in encoding)) bytes ≡ true → flat_map (numbers_of encoding) bytes ≡ bytes
plain_text encoding [] all = refl
plain_text encoding (byte ∷ bytes) all =
    let parts = and_parts _ _ all in
    ap (λ l. l ++ flat_map (numbers_of encoding) bytes) (plain_numbers encoding byte parts.0) ∙ ap (λ l. byte ∷ l) (plain_text encoding bytes parts.1)

plain_ascii : (singles bytes : List ℕ) → list_all (is_plain singles) bytes ≡ true → IsAscii bytes
plain_ascii singles [] all i = omega arith
plain_ascii singles (byte ∷ bytes) all zero = plain_below singles byte (and_parts _ _ all).0
plain_ascii singles (byte ∷ bytes) all (suc i) = plain_ascii singles bytes (and_parts _ _ all).1 i

pub read_plain : (encoding : Encoding) (singles text plain rest old new : List ℕ) (n : ℕ) → singles ≡ singles_in encoding → list_all (is_plain singles) (take n text) ≡ true → plain ≡ take n text → rest ≡ drop n text → new ≡ old ++ plain → IsRead encoding text rest old new
read_plain encoding singles text plain rest old new n table all front cut grown =
    let here = subst (λ l. list_all (is_plain l) (take n text) ≡ true) table all in
    let ascii = plain_ascii singles (take n text) all in
    record {
      front = take n text;
      whole = sym (take-append-drop n text) ∙ ap (λ l. take n text ++ l) (sym cut);
      utf8 = IsUtf8-from_ascii (take n text) ascii;
      numbers = grown ∙ ap (λ l. old ++ l) (front ∙ sym (ap (flat_map (numbers_of encoding)) (chars-IsAscii (take n text) ascii) ∙ plain_text encoding (take n text) here));
    }

-- ---- characters of one, two and three bytes

pub one_byte : (text : List ℕ) (first : ℕ) → 1 ≤ length text → get_or text 0 0 ≡ first → first < 128 → IsIndexed text first 1
one_byte [] first within is small = absurd (omega arith)
one_byte (byte ∷ text) first within is small = record {
  character = first;
  low = omega (arith, small);
  within = omega arith;
  bytes = ap (λ b. b ∷ []) is ∙ sym (encode_ascii first small);
  index_is = index_low first (omega (arith, small));
  small = omega (arith, small);
}

encoded_two : (block low : ℕ) → 2 ≤ block → block < 6 → low < 64 → encode_utf8 (block * 64 + low) ≡ (192 + block) ∷ (128 + low) ∷ []
unfolding encode
encoded_two block low above below small =
    rw (le-ltb (block * 64 + low) 128 (omega arith), lt-ltb (block * 64 + low) 2048 (omega arith), div-mul-add block 64 low small, mod-mul-add block 64 low small) refl

pub two_bytes : (text : List ℕ) (first second index : ℕ) → 2 ≤ length text → get_or text 0 0 ≡ first → get_or text 1 0 ≡ second → 0xC2 ≤ first → first ≤ 0xC5 → 0x80 ≤ second → second < 0xC0
    → index ≡ 64 * (first - 0xC0) + (second - 0x80) → IsIndexed text index 2
two_bytes [] first second index within one two above below later last is = absurd (omega arith)
two_bytes (a ∷ []) first second index within one two above below later last is = absurd (omega arith)
two_bytes (a ∷ b ∷ text) first second index within one two above below later last is =
    let block = first - 192 in
    let low = second - 128 in
    let front : a ≡ 192 + block = omega (arith, one, above) in
    let back : b ≡ 128 + low = omega (arith, two, later) in
    record {
      character = block * 64 + low;
      low = omega (arith, below, last);
      within = omega arith;
      bytes = rw (front, back) (sym (encoded_two block low (omega (arith, above)) (omega (arith, below)) (omega (arith, last))));
      index_is = index_low (block * 64 + low) (omega (arith, below, last)) ∙ omega (arith, is);
      small = omega (arith, is, below, last);
    }

encoded_three : (low : ℕ) → low < 64 → encode_utf8 (0x2000 + low) ≡ 0xE2 ∷ 0x80 ∷ (128 + low) ∷ []
unfolding encode
encoded_three low small =
    rw (le-ltb (0x2000 + low) 128 (omega arith), le-ltb (0x2000 + low) 2048 (omega arith), lt-ltb (0x2000 + low) 65536 (omega arith), div-mul-add 128 64 low small, mod-mul-add 128 64 low small, div-mul-add 2 4096 low (omega arith)) refl

pub three_bytes : (text : List ℕ) (third : ℕ) → 3 ≤ length text → get_or text 0 0 ≡ 0xE2 → get_or text 1 0 ≡ 0x80 → get_or text 2 0 ≡ third → 0x80 ≤ third → third < 0xC0 → IsIndexed text (384 + (third - 0x80)) 3
three_bytes [] third within one two three later last = absurd (omega arith)
three_bytes (a ∷ []) third within one two three later last = absurd (omega arith)
three_bytes (a ∷ b ∷ []) third within one two three later last = absurd (omega arith)
three_bytes (a ∷ b ∷ d ∷ text) third within one two three later last =
    let low = third - 128 in
    let front : a ≡ 0xE2 = one in
    let middle : b ≡ 0x80 = two in
    let back : d ≡ 128 + low = omega (arith, three, later) in
    record {
      character = 0x2000 + low;
      low = omega (arith, last);
      within = omega arith;
      bytes = rw (front, middle, back) (sym (encoded_three low (omega (arith, last))));
      index_is = index_of_punctuation (0x2000 + low) (omega arith) (omega (arith, last)) ∙ omega arith;
      small = omega (arith, last);
    }

pub ruleset fronts = (one_byte, two_bytes, three_bytes)

-- the entry of such a character that is a code
pub single_made : (singles text : List ℕ) (index len code : ℕ) → length singles ≡ 448 → IsIndexed text index len → get_or singles index 0 ≡ code → code < 256 → IsSingle singles text code len
single_made singles text index len code long indexed is small = record {
  index = index;
  indexed = indexed;
  entry = get_or_default singles index 256 0 (omega (arith, long, indexed.small)) ∙ is;
  small = small;
}

pub ruleset plain = (read_plain, singles_end)

pub ruleset singles = (none_read, read_more, read_single, single_shorter)

pub ruleset characters = (read_character, shorter_text)

pub ruleset reading = (read_more, rest_within)

pub ruleset texts = (none_read, read_more, all_read)
