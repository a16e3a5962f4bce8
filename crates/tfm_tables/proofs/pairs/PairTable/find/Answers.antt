use Rattle.std.proofs.Common.{◌∙◌, length, Some, arith, ap}
use Rattle.std.proofs.lemmas.Bool.{ne_eqb}
use Rattle.std.proofs.lemmas.List.{length-map}
use Rattle.tfm_tables.specs.Pairs.{row_of}
use Rattle.tfm_tables.proofs.PairLemmas.{address_in_row}
use Rattle.tfm_tables.proofs.pairs.PairTable.find.Goals as goal

pub index-requires : goal.index-requires
index-requires c =
    let (program, starts, is, within) = c.requires in
    omega (arith, ap length is, length-map starts (row_of program), c.args.self.now.rows.ok.0)

pub returns-then-address : goal.returns-then-address
returns-then-address c = λ program starts few is start here.
    rw c.if-address.true at (address_in_row program starts _ _ _ _ start _ few is here c.index.ensures c.from.ensures (omega arith))

pub returns : goal.returns
returns c = λ program starts few is start here.
    ap Some c.from-2.ensures
    ∙ (rw (ne_eqb _ 65535 c.if-address.false) at (address_in_row program starts _ _ _ _ start _ few is here c.index.ensures c.from.ensures (omega arith)))
