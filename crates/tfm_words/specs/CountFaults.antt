-- The errors in the counts of a file, as a list of conditions in order: the first condition that holds
-- gives the error.
-- Public source: tftopl.web, sections 20 and 21; tex.web, sections 565 and 568. The order of the tests is
-- this project's own and differs from the order in these sources.
use Rattle.std.specs.Prelude.{◌≡◌, ℕ, ◌+◌, ◌*◌, ◌^◌, ◌||◌, ◌==◌, Bool, not, nat_lt, nat_le, List, [], ◌∷◌, ◌++◌, length, Option, Some, None, if◌then◌else◌, Result, MatchResult}
use Rattle.tfm_words.specs.declared.numbers.Numbers.{Numbers}
use Rattle.tfm_words.specs.declared.count_fault.CountFault.{CountFault}
use Rattle.tfm_words.specs.declared.count_fault.CountFault.TheVariants.{Truncated, CountRange, CharRange, HeaderShort, EmptyTable, TooManyRecipes, LengthEquation}
use Rattle.tfm_words.specs.declared.count.Count.TheVariants.{Lf, Lh, Bc, Ec, Nw, Nh, Nd, Ni, Nl, Nk, Ne, Np}
use Rattle.tfm_words.specs.declared.table.Table.TheVariants.{Width, Height, Depth, Italic}
use Rattle.tfm_words.specs.Counts.{counts_of, whole_length}

-- in a list of rows, each of a condition and an error: the error of the first row whose condition holds, or
-- none if no condition holds
abbrev pub first_fault : {F : Type 0} → List (Bool × F) → Option F
first_fault [] = None
first_fault (row ∷ rows) = if row.0 then Some row.1 else first_fault rows

-- whether a count is too large: it is 2^15 or more, which means that its highest bit is set
abbrev pub is_too_large : ℕ → Bool
is_too_large n = nat_le (2 ^ 15) n

-- one row for each count, in the file's order: the count is too large
unfoldable pub range_faults : Numbers → List (Bool × CountFault)
range_faults c =
    (is_too_large c.lf, CountRange Lf)
    ∷ (is_too_large c.lh, CountRange Lh)
    ∷ (is_too_large c.bc, CountRange Bc)
    ∷ (is_too_large c.ec, CountRange Ec)
    ∷ (is_too_large c.nw, CountRange Nw)
    ∷ (is_too_large c.nh, CountRange Nh)
    ∷ (is_too_large c.nd, CountRange Nd)
    ∷ (is_too_large c.ni, CountRange Ni)
    ∷ (is_too_large c.nl, CountRange Nl)
    ∷ (is_too_large c.nk, CountRange Nk)
    ∷ (is_too_large c.ne, CountRange Ne)
    ∷ (is_too_large c.np, CountRange Np)
    ∷ []

-- the rows after those of range_faults: the character range, the length of the header, four tables without
-- an entry 0, the number of extensible recipes, and the length equation
unfoldable pub shape_faults : Numbers → List (Bool × CountFault)
shape_faults c =
    (nat_lt (c.ec + 1) c.bc || nat_lt 255 c.ec, CharRange)
    ∷ (nat_lt c.lh 2, HeaderShort)
    ∷ (c.nw == 0, EmptyTable Width)
    ∷ (c.nh == 0, EmptyTable Height)
    ∷ (c.nd == 0, EmptyTable Depth)
    ∷ (c.ni == 0, EmptyTable Italic)
    ∷ (nat_lt 256 c.ne, TooManyRecipes)
    ∷ (not (c.lf == whole_length c), LengthEquation)
    ∷ []

-- all rows for these counts at the start of a file of this many bytes, in order
unfoldable pub faults_within : ℕ → Numbers → List (Bool × CountFault)
faults_within byte_count c =
    (nat_lt byte_count 24, Truncated 24)
    ∷ range_faults c
    ++ shape_faults c
    ++ (nat_lt byte_count (4 * c.lf), Truncated (4 * c.lf)) ∷ []

-- all rows for the counts of these bytes, in order
abbrev pub count_faults : List ℕ → List (Bool × CountFault)
count_faults bytes = faults_within (length bytes) (counts_of bytes)

-- the first error in the counts of these bytes, or none if they have no error
abbrev pub count_fault_of : List ℕ → Option CountFault
count_fault_of bytes = first_fault (count_faults bytes)

-- the result of a check of these rows: if it is an error, it is that of the first row whose condition
-- holds; if it is a success, no row's condition holds
abbrev pub AnswersFirst : {T F : Type 0} → List (Bool × F) → Result T F → Type 0
AnswersFirst rows answer = MatchResult answer (λ _. first_fault rows ≡ None) (λ fault. first_fault rows ≡ Some fault)
