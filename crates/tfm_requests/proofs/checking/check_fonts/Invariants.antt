-- the fonts so far have possible verdicts, and their texts were written; until one of them is standard input, this isn't read
use Rattle.std.proofs.Common.{◌≡◌, [], false, map, take}
use Rattle.check_texts.specs.Tallies.{tally_of}
use Rattle.tfm_requests.specs.Checking.{AddsFonts}
use Rattle.tfm_requests.specs.Known.{font_bytes_of}
use Rattle.tfm_requests.proofs.checking.check_fonts.Given as goal

abbrev pub invariant-loop-name : goal.invariant-loop-name
invariant-loop-name g l = record {
  added :
      AddsFonts l.fonts.layout (font_bytes_of (g.F.Opens.known l.fonts.files.now) (g.I.Read.remaining l.fn.input)) (map (λ name. name.now) (take l.name-index l.names))
      (g.O.Write.contents l.fn.out) (tally_of []) (g.O.Write.contents l.out) l.tally;
  unread : l.is_read ≡ false → l.input ≡ l.fn.input;
}
