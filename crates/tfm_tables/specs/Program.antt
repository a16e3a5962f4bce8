-- The lig/kern program: its instructions, the starting addresses of searches, the chain of addresses that a
-- search visits, and the first address in it that matches.
-- Public source: tftopl.web, section 13; tex.web, sections 545, 557, 573 and 1039; The METAFONTbook,
-- Appendix F.
use Rattle.std.specs.Prelude.{◌≡◌, ℕ, ◌<◌, ◌≤◌, zero, suc, ◌+◌, ◌-◌, ◌*◌, ◌==◌, ◌&&◌, nat_lt, nat_le, Bool, false, List, [], ◌∷◌, length, map, find, slice_index, Option, Some, None, if◌then◌else◌}
use Rattle.std.specs.List.{range_with_len, slice_get}
use Rattle.std.specs.Option.{option_and_then, option_map_or}
use Rattle.tfm_words.specs.declared.table.Table.TheVariants.{LigKern}
use Rattle.tfm_tables.specs.declared.step.Step.{Step}
use Rattle.tfm_tables.specs.declared.left_side.LeftSide.{LeftSide}
use Rattle.tfm_tables.specs.declared.left_side.LeftSide.TheVariants.{Boundary, Char}
use Rattle.tfm_tables.specs.declared.tag.Tag.{Tag}
use Rattle.tfm_tables.specs.declared.tag.Tag.TheVariants.{Plain, Lig, List as ListOf, Ext}
use Rattle.tfm_tables.specs.Table.{entries_of, entry_at}
use Rattle.tfm_tables.specs.Character.{tag_of}

-- the instruction in a word: its four bytes
abbrev pub step_of : List ℕ → Step
step_of word = record { skip = slice_index word 0; next = slice_index word 1; op = slice_index word 2; remainder = slice_index word 3 }

-- the instruction at address i, counted from 0
unfoldable pub step_at : List ℕ → ℕ → Step
step_at words i = step_of (entry_at words LigKern i)

-- the instructions of a font, by address
unfoldable pub program_of : List ℕ → List Step
program_of words = map (step_at words) (range_with_len 0 (entries_of words LigKern))

-- the address to which an instruction with a skip above 128 points
abbrev pub target_of : Step → ℕ
target_of step = 256 * step.op + step.remainder

-- the code of the right boundary character, which is that of the first instruction if its skip is 255;
-- otherwise none
unfoldable pub right_code_of : List Step → Option ℕ
right_code_of program = option_and_then (λ step. if step.skip == 255 then Some step.next else None) (slice_get program 0)

-- the starting address of the left boundary's program, to which the last instruction points if its skip is
-- 255; otherwise none. The instruction at that address doesn't redirect again, whatever its skip
unfoldable pub left_start_of : List Step → Option ℕ
left_start_of program = option_and_then (λ step. if step.skip == 255 then Some (target_of step) else None) (slice_get program (length program - 1))

-- the starting address of a character's program, from the address in its tag: that address, or, if the
-- instruction there has a skip above 128 (an indirect start), the address to which it points. There is only
-- one redirection
unfoldable pub begin_at : List Step → ℕ → ℕ
begin_at program first = option_map_or (λ step. if nat_lt 128 step.skip then target_of step else first) (slice_get program first) first

-- the starting address of a character with this tag, or none if the tag isn't that of a program
abbrev pub tag_start : List Step → Tag → Option ℕ
tag_start program Plain = None
tag_start program (Lig remainder) = Some (begin_at program remainder)
tag_start program (ListOf remainder) = None
tag_start program (Ext remainder) = None

-- the starting address of a left side, or none if it has no program or is a code without a character
unfoldable pub start_of : List ℕ → LeftSide → Option ℕ
start_of words Boundary = left_start_of (program_of words)
start_of words (Char code) = option_and_then (tag_start (program_of words)) (tag_of words code)

-- the first `most` addresses, or all if there are fewer, that a search from an address visits if nothing
-- matches
abbrev pub chain_within : ℕ → List Step → ℕ → List ℕ
chain_within zero program address = []
chain_within (suc most) program address =
    option_map_or (λ step. address ∷ (if nat_le 128 step.skip then [] else chain_within most program (address + step.skip + 1))) (slice_get program address) []

-- the chain from an address: all addresses that a search visits if nothing matches. The addresses increase;
-- therefore there are at most as many as instructions
unfoldable pub chain_from : List Step → ℕ → List ℕ
chain_from program address = chain_within (length program) program address

-- whether the instruction at an address matches this code on the right: it is for this code, and its skip
-- is at most 128
abbrev pub serves : List Step → ℕ → ℕ → Bool
serves program code address = option_map_or (λ step. nat_le step.skip 128 && (step.next == code)) (slice_get program address) false

-- the first address, in the chain from a starting address, that matches a code on the right; none if
-- nothing matches
unfoldable pub address_of : List Step → ℕ → ℕ → Option ℕ
address_of program start code = find (serves program code) (chain_from program start)

-- the address of the match for a left side and the code to its right; none if there is no match
unfoldable pub address_between : List ℕ → LeftSide → ℕ → Option ℕ
address_between words left code = option_and_then (λ start. address_of (program_of words) start code) (start_of words left)

-- this address, a result of a search, is that of an instruction for this code whose skip is at most 128
pub record IsServing (words : List ℕ) (code : ℕ) (address : ℕ) : Type 0 where
  pub within : address < entries_of words LigKern
  pub skip : (step_at words address).skip ≤ 128
  pub next : (step_at words address).next ≡ code
