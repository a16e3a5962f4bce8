use Rattle.std.proofs.Common.{◌≡◌, ◌-◌, ◌≤◌, ◌++◌, map, length}
use Rattle.encoding_vectors.specs.Reading.{tokens_at}
use Rattle.encoding_vectors.specs.Unknown.{unknown_names as unknown_names_of}
use Rattle.encoding_vectors.proofs.UnknownLemmas.{unknown_in}
use Rattle.encoding_vectors.proofs.unknown.unknown_names.Given as goal

abbrev pub invariant-loop-code : goal.invariant-loop-code
invariant-loop-code l =
    (l.at ≤ length l.text)
    × (map (λ name. name.now) l.names.items ++ unknown_in (256 - l._code) (tokens_at l.text l.at) ≡ unknown_names_of l.text)
