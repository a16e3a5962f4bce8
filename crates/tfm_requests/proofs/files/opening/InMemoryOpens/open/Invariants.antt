-- the name stands among the files that are left, if it stands among them all
use Rattle.std.proofs.Common.{◌≡◌, drop}
use Rattle.tfm_requests.specs.Known.{bytes_in}
use Rattle.tfm_requests.proofs.files.opening.InMemoryOpens.open.Given as goal

abbrev pub invariant-loop-file : goal.invariant-loop-file
invariant-loop-file l = bytes_in l.fn.self.files.now l.name ≡ bytes_in (drop l.file-index l.self.files.now) l.name
