-- the fonts so far have the first names of the list, and possible verdicts, and their texts were written
use Rattle.std.proofs.Common.{◌≡◌, List, ℕ}
use Rattle.std.specs.Io.Buffered.{reader_remaining}
use Rattle.std.specs.Io.Iter.{split_byte, split_known_bytes}
use Rattle.tfm_requests.specs.Checking.{AddsFonts}
use Rattle.tfm_requests.proofs.NameLemmas.{AreTaken}
use Rattle.tfm_requests.proofs.font_list.check_named.Given as goal

abbrev pub invariant-loop-name : goal.invariant-loop-name
invariant-loop-name g l =
    (split_byte l.name-iterator ≡ l.fn.separator)
    × (names : List (List ℕ))
    × AreTaken l.fn.separator (g.L.Read.remaining l.fn.list) (split_known_bytes (reader_remaining g.L.Read.remaining) l.name-iterator) names
    × AddsFonts l.fonts.layout (g.F.Opens.known l.fonts.files.now) names (g.O.Write.contents l.fn.out) l.fn.tally (g.O.Write.contents l.out) l.tally
