-- The twelve counts at the start of a TFM file, the rules that lawful counts follow, and the positions of
-- the tables.
-- Public source: tftopl.web, sections 8, 9 and 21; tex.web, sections 540, 541 and 565.
use Rattle.std.specs.Prelude.{◌≡◌, ◌≢◌, ℕ, ◌+◌, ◌*◌, ◌-◌, ◌^◌, ◌<◌, ◌≤◌, List, [], ◌∷◌, take, drop, length, sum, slice_index}
use Rattle.std.specs.List.{AllByRecursion}
use Rattle.byteorder.specs.Endian.{big_number}
use Rattle.tfm_words.specs.declared.numbers.Numbers.{Numbers}
use Rattle.tfm_words.specs.declared.table.Table.{Table}
use Rattle.tfm_words.specs.declared.table.Table.TheVariants.{Header, CharInfo, Width, Height, Depth, Italic, LigKern, Kern, Exten, Param}

-- count k, counted from 0: the number in the two bytes from byte 2 * k, the higher byte first
abbrev pub count_at : List ℕ → ℕ → ℕ
count_at bytes k = big_number 2 (drop (2 * k) bytes)

-- the twelve counts of a file, in the file's order
unfoldable pub counts_of : List ℕ → Numbers
counts_of bytes = record {
  lf = count_at bytes 0;
  lh = count_at bytes 1;
  bc = count_at bytes 2;
  ec = count_at bytes 3;
  nw = count_at bytes 4;
  nh = count_at bytes 5;
  nd = count_at bytes 6;
  ni = count_at bytes 7;
  nl = count_at bytes 8;
  nk = count_at bytes 9;
  ne = count_at bytes 10;
  np = count_at bytes 11;
}

-- the counts as a list, in the file's order
abbrev pub numbers_of : Numbers → List ℕ
numbers_of c = c.lf ∷ c.lh ∷ c.bc ∷ c.ec ∷ c.nw ∷ c.nh ∷ c.nd ∷ c.ni ∷ c.nl ∷ c.nk ∷ c.ne ∷ c.np ∷ []

-- the lengths of the ten tables, in words, in the file's order. The definition is meaningful only where bc
-- is at most ec + 1, since subtraction stops at 0; where bc is ec + 1 there are no characters
abbrev pub lengths_of : Numbers → List ℕ
lengths_of c = c.lh ∷ (c.ec + 1 - c.bc) ∷ c.nw ∷ c.nh ∷ c.nd ∷ c.ni ∷ c.nl ∷ c.nk ∷ c.ne ∷ c.np ∷ []

-- the length of a file, in words: six words of counts, and then the ten tables. The length equation states
-- that lf is this number
abbrev pub whole_length : Numbers → ℕ
whole_length c = 6 + sum (lengths_of c)

-- counts that follow the rules: each is below 2^15, codes are at most 255, the header has at least two
-- words, the four tables of dimensions have an entry 0, there are at most 256 extensible recipes, and lf is
-- the length of the file
pub record IsLawful (c : Numbers) : Type 0 where
  pub small : AllByRecursion (λ n. n < 2 ^ 15) (numbers_of c)
  pub characters : c.bc ≤ c.ec + 1
  pub last_code : c.ec ≤ 255
  pub header : 2 ≤ c.lh
  pub widths : c.nw ≢ 0
  pub heights : c.nh ≢ 0
  pub depths : c.nd ≢ 0
  pub italics : c.ni ≢ 0
  pub recipes : c.ne ≤ 256
  pub whole : c.lf ≡ whole_length c

-- these bytes begin with lawful counts and contain all lf words; bytes after these words are ignored
pub record HasLawfulCounts (bytes : List ℕ) : Type 0 where
  pub head : 24 ≤ length bytes
  pub lawful : IsLawful (counts_of bytes)
  pub whole : 4 * (counts_of bytes).lf ≤ length bytes

-- these are the counts of these bytes, and the bytes have lawful counts
pub record AreCountsOf (bytes : List ℕ) (c : Numbers) : Type 0 where
  pub value : c ≡ counts_of bytes
  pub lawful : HasLawfulCounts bytes

-- the index of a table among the ten tables, from 0, in the file's order
abbrev pub place_of : Table → ℕ
place_of Header = 0
place_of CharInfo = 1
place_of Width = 2
place_of Height = 3
place_of Depth = 4
place_of Italic = 5
place_of LigKern = 6
place_of Kern = 7
place_of Exten = 8
place_of Param = 9

-- the length of a table, in words
abbrev pub length_of : Numbers → Table → ℕ
length_of c table = slice_index (lengths_of c) (place_of table)

-- the first word of a table, counted from 0: it follows the six words of counts and the tables before this
-- one
abbrev pub first_word_of : Numbers → Table → ℕ
first_word_of c table = 6 + sum (take (place_of table) (lengths_of c))
