-- the run keeps a text for each source, in this version
use Rattle.run_texts.proofs.setting.set_readers.Given as goal
use Rattle.formats.specs.Records.{version_of}
use Rattle.std.specs.Vec.{vec_len}

abbrev pub ghosts-set_and_write : goal.ghosts-set_and_write
ghosts-set_and_write g a = record { lanes = vec_len a.readers; version = version_of a.options.now.format }
