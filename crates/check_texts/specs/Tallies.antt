-- The numbers of fonts that `check` counts, and the line of `--summary`.
-- Public source: JSON is RFC 8259; the rest is this project's own.
use Rattle.std.specs.Prelude.{ℕ, ◌==◌, ◌^◌, ◌-◌, ◌&&◌, ◌||◌, not, cond, List, [], ◌++◌, codes, count_by, decimal, length, min}
use Rattle.formats.specs.declared.listing.OutputFormat.{OutputFormat}
use Rattle.formats.specs.declared.listing.OutputFormat.TheVariants.{Text, Json}
use Rattle.check_texts.specs.declared.tally.Tally.{Tally}
use Rattle.check_texts.specs.Verdicts.{Row, is_accepted, is_plain, is_unread}

-- a count, which saturates at 2^64 - 1
abbrev pub counted : ℕ → ℕ
counted number = min number (2 ^ 64 - 1)

-- the numbers of these fonts: of all, and of those that are accepted, are accepted with warnings, are refused, weren't
-- read, and aren't accepted without warnings
abbrev pub tally_of : List Row → Tally
tally_of rows = record {
  fonts = counted (length rows);
  accepted = counted (count_by (λ row. is_accepted row.1) rows);
  warned = counted (count_by (λ row. is_accepted row.1 && not (is_plain row.1)) rows);
  refused = counted (count_by (λ row. not (is_accepted row.1 || is_unread row.1)) rows);
  unread = counted (count_by (λ row. is_unread row.1) rows);
  reported = counted (count_by (λ row. not (is_plain row.1)) rows);
}

-- how many accepted fonts have warnings, in the line of `--summary`: nothing if none has
abbrev pub warned_words : ℕ → List ℕ
warned_words warned = cond (warned == 0) [] (codes " (" ++ (decimal warned ++ codes " with warnings)"))

-- the end of the line of `--summary`, by the number of fonts that weren't read
abbrev pub summary_end : ℕ → List ℕ
summary_end unread = cond (unread == 0) (codes " refused\n") (codes " refused, " ++ (decimal unread ++ codes " not read\n"))

-- the noun for this number of fonts
abbrev pub fonts_noun : ℕ → List ℕ
fonts_noun count = cond (count == 1) (codes "font") (codes "fonts")

-- the line of `--summary` in a format: the number of fonts, and how many of them are accepted, are accepted with
-- warnings, are refused and weren't read
abbrev pub summary_line : OutputFormat → Tally → List ℕ
summary_line Text tally =
    decimal tally.fonts
    ++ (codes " "
    ++ (fonts_noun tally.fonts
    ++ (codes ": "
    ++ (decimal tally.accepted
    ++ (codes " accepted"
    ++ (warned_words tally.warned
    ++ (codes ", "
    ++ (decimal tally.refused ++ summary_end tally.unread))))))))
summary_line Json tally =
    codes "{\"fonts\":"
    ++ (decimal tally.fonts
    ++ (codes ",\"accepted\":"
    ++ (decimal tally.accepted
    ++ (codes ",\"warned\":"
    ++ (decimal tally.warned
    ++ (codes ",\"refused\":"
    ++ (decimal tally.refused ++ (codes ",\"unread\":" ++ (decimal tally.unread ++ codes "}\n")))))))))
