use Rattle.std.proofs.Common.{rules, ◌≡◌, ◌<◌, length}
use Rattle.cell_reads.proofs.AgreeLemmas.{listed-at}
use Rattle.cell_reads.proofs.noting.is_at.Goals as goal

pub returns : goal.returns
returns c = λ same.
    let less : c.args.place < length c.args.reads.now = search rules in
    let is : c.index-reads-place.result.0 ≡ c.args.key.now = search rules in
    listed-at c.args.reads.now c.args.place c.args.key.now c.index-reads-place.result less c.index-reads-place.is is
