-- the names so far have their sources
use Rattle.std.specs.List.{AllZip}
use Rattle.tfm_requests.specs.Jobs.{IsOpenedWith}
use Rattle.tfm_requests.specs.Told.{told_reader}
use Rattle.tfm_requests.proofs.files.sources.open_each.Given as goal

abbrev pub invariant-loop-name : goal.invariant-loop-name
invariant-loop-name g l =
    AllZip (IsOpenedWith (g.F.Opens.known l.files) l.layout (told_reader g.F.File.Read.remaining l.layout.crlf)) l.yielded l.readers.items
